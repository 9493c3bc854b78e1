use Rattle.std.proofs.Common.{◌≡◌, ◌≢◌, ◌<◌, ◌≤◌, length, subst}
use Rattle.std.specs.Prelude.{IfOk}
use Rattle.topology.specs.Meaning.{plan_of}
use Rattle.file_runs.specs.Gain.{Text}
use Rattle.file_runs.proofs.Joins.{given_within}
use Rattle.script_runs.specs.declared.topologies.Loaded.TheVariants.{Long}
use Rattle.script_runs.specs.Topologies.{by_plan, loaded_topology}
use Rattle.script_runs.proofs.Loads.{gave_all, gave_few, gave_long, loads_front}
use Rattle.script_runs.proofs.topologies.load.Goals as goal

pub returns-in-Ok-clause-loads : goal.returns-in-Ok-clause-loads
returns-in-Ok-clause-loads g c =
    let P : Text → Type 0 = λ t. IfOk c.load_bytes.result (λ l. l ≡ loaded_topology t) in
    loads_front Long (λ b. by_plan (plan_of b)) (g.S.Shelf.seen c.args.shelf.now).contents c.args.name.now
    c.in-Ok.front.items c.load_bytes.result c.in-Ok.ensures.bytes
    (subst P c.deref.ensures.value c.load_bytes.ensures.loaded)

pub returns-in-Ok-clause-long : goal.returns-in-Ok-clause-long
returns-in-Ok-clause-long g c =
    let P : Text → Type 0 = λ t. IfOk c.load_bytes.result (λ l. l ≡ Long → 1048576 < length t) in
    gave_long Long c.load_bytes.result (length c.in-Ok.front.items) _ _ c.in-Ok.ensures.length c.in-Ok.ensures.given
    (subst P c.deref.ensures.value c.load_bytes.ensures.long)

pub returns-in-Ok-clause-few : goal.returns-in-Ok-clause-few
returns-in-Ok-clause-few g c =
    let P : Text → Type 0 = λ t. IfOk c.load_bytes.result (λ l. l ≢ Long → length t ≤ 1048576) in
    gave_few Long c.load_bytes.result (length c.in-Ok.front.items) _ _ c.in-Ok.ensures.given
    (subst P c.deref.ensures.value c.load_bytes.ensures.few)

pub returns-in-Ok-clause-all : goal.returns-in-Ok-clause-all
returns-in-Ok-clause-all g c =
    let P : Text → Type 0 = λ t. IfOk c.load_bytes.result (λ l. l ≢ Long → length t ≤ 1048576) in
    gave_all Long (g.S.Shelf.seen c.args.shelf.now).contents c.args.name.now c.in-Ok.front.items c.load_bytes.result _ _
    c.in-Ok.ensures.bytes c.in-Ok.ensures.given (subst P c.deref.ensures.value c.load_bytes.ensures.few)

pub returns-in-Ok-clause-within : goal.returns-in-Ok-clause-within
returns-in-Ok-clause-within g c = given_within (g.S.Shelf.seen c.args.shelf.now).contents c.args.name.now
    c.in-Ok.front.items 1048577 _ _ c.in-Ok.ensures.bytes c.in-Ok.ensures.given
