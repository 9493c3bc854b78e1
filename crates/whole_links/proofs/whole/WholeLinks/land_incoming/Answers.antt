use Rattle.std.proofs.Common.{◌≡◌, ℕ, List, refl, ap, sym, subst, ◌∙◌}
use Rattle.std.specs.Prelude.{Some}
use Rattle.script_events.specs.declared.event.Event.{Event}
use Rattle.machine_ports.specs.Machine.{LinkPacket}
use Rattle.all_links.specs.BesideAfter.{BesideBytes}
use Rattle.all_links.specs.States.{links_state}
use Rattle.whole_links.specs.Accesses.{AccessesArriveInState}
use Rattle.whole_links.specs.Packets.{incoming_bytes, incoming_event}
use Rattle.whole_links.specs.Whole.{WholeEnds}
use Rattle.whole_links.specs.declared.whole.WholeLinks.{WholeLinks}
use Rattle.all_links.proofs.Finds.{few_units}
use Rattle.whole_links.proofs.Ends.{nothing_ends}
use Rattle.whole_links.proofs.Arrivals.{arrived, arrived_accesses, arrived_beside, is_brought, nothing_brought}
use Rattle.whole_links.proofs.whole.WholeLinks.land_incoming.Goals.{in-Borrowed-2, in-Owned-2}
use Rattle.whole_links.proofs.whole.WholeLinks.land_incoming.Goals as goal

pub land-requires-clause-few : goal.land-requires-clause-few
land-requires-clause-few c = few_units c.args.self.now.links.ends c.args.self.now.links.packets.packets
    c.args.self.now.links.steps c.requires.steps c.requires.bounded.bounded

pub returns-in-None-clause-ends : goal.returns-in-None-clause-ends
returns-in-None-clause-ends c =
    nothing_ends c.args.plan.now (incoming_event c.args.incoming)
    (nothing_brought c.args.plan.now (links_state c.args.plan.now c.args.self.now.links) c.args.incoming
    (rw c.in-None.is at c.in_ok-incoming_bytes.ensures)) c.only.ensures.value c.only.ensures.links refl
    c.requires.bounded

pub returns-in_ok-verdict-in-Some-clause-ends : goal.returns-in_ok-verdict-in-Some-clause-ends
returns-in_ok-verdict-in-Some-clause-ends c =
    let event : Event = incoming_event c.args.incoming in
    let x : LinkPacket = record { port = c.in-Some.end; bytes = c.as_slice.result.now } in
    let is : Some x ≡ incoming_bytes c.args.plan.now c.args.self.now.links.packets.packets c.args.incoming =
    ap (λ (bytes : List ℕ). Some (record x { bytes = bytes })) c.as_slice.ensures.value
    ∙ (rw c.in-Some.is at c.in_ok-incoming_bytes.ensures) in
    let came = arrived c.args.plan.now c.args.self.now event x.port x.bytes c.in_ok-verdict-in-Some.verdict
    c.land.new.ends c.land.new.trusted c.land.new.accesses
    (is_brought c.args.plan.now c.args.self.now.links c.args.incoming x is)
    (rw c.manager.ensures at c.in_ok-verdict-in-Some.ensures.lands) c.requires.bounded in
    let IsSo = λ (s : WholeLinks). WholeEnds c.args.plan.now c.in_ok-verdict-in-Some.verdict c.args.self.now s event
    in
    elim c.match-bytes-2.branch [
      | in-Borrowed-2 w ↦ subst IsSo (sym w.self-is) came
      | in-Owned-2 w ↦ subst IsSo (sym w.self-is) came
    ]

pub returns-in_ok-verdict-in-Some-clause-sides : goal.returns-in_ok-verdict-in-Some-clause-sides
returns-in_ok-verdict-in-Some-clause-sides c =
    let event : Event = incoming_event c.args.incoming in
    let x : LinkPacket = record { port = c.in-Some.end; bytes = c.as_slice.result.now } in
    let is : Some x ≡ incoming_bytes c.args.plan.now c.args.self.now.links.packets.packets c.args.incoming =
    ap (λ (bytes : List ℕ). Some (record x { bytes = bytes })) c.as_slice.ensures.value
    ∙ (rw c.in-Some.is at c.in_ok-incoming_bytes.ensures) in
    let came = arrived_beside c.args.plan.now c.args.self.now event x.port x.bytes c.in_ok-verdict-in-Some.verdict
    c.land.new.ends c.land.new.trusted c.land.new.accesses
    (is_brought c.args.plan.now c.args.self.now.links c.args.incoming x is)
    (rw c.manager.ensures at c.in_ok-verdict-in-Some.ensures.lands) in
    let IsSo = λ (s : WholeLinks). BesideBytes c.args.plan.now event c.in_ok-verdict-in-Some.verdict
    c.args.self.now.links s.links
    in
    elim c.match-bytes-2.branch [
      | in-Borrowed-2 w ↦ subst IsSo (sym w.self-is) came
      | in-Owned-2 w ↦ subst IsSo (sym w.self-is) came
    ]

pub returns-in_ok-verdict-in-Some-clause-accesses : goal.returns-in_ok-verdict-in-Some-clause-accesses
returns-in_ok-verdict-in-Some-clause-accesses c =
    let event : Event = incoming_event c.args.incoming in
    let x : LinkPacket = record { port = c.in-Some.end; bytes = c.as_slice.result.now } in
    let is : Some x ≡ incoming_bytes c.args.plan.now c.args.self.now.links.packets.packets c.args.incoming =
    ap (λ (bytes : List ℕ). Some (record x { bytes = bytes })) c.as_slice.ensures.value
    ∙ (rw c.in-Some.is at c.in_ok-incoming_bytes.ensures) in
    let came = arrived_accesses c.args.plan.now c.args.self.now event x.port x.bytes c.in_ok-verdict-in-Some.verdict
    c.land.new.ends c.land.new.trusted c.land.new.accesses
    (is_brought c.args.plan.now c.args.self.now.links c.args.incoming x is)
    (rw c.manager.ensures at c.in_ok-verdict-in-Some.ensures.lands) in
    let IsSo = λ (s : WholeLinks). AccessesArriveInState c.args.plan.now event c.in_ok-verdict-in-Some.verdict
    c.args.self.now s
    in
    elim c.match-bytes-2.branch [
      | in-Borrowed-2 w ↦ subst IsSo (sym w.self-is) came
      | in-Owned-2 w ↦ subst IsSo (sym w.self-is) came
    ]
