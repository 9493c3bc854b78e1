use Rattle.std.proofs.Common.{◌≡◌, Bool, Option, Some, None, ap, sym}
use Rattle.std.proofs.lemmas.Option.{none-some, same_Some}
use Rattle.std.specs.Option.{option_map}
use Rattle.machine_ports.specs.Machine.{status_if_planned}
use Rattle.machine_operations.specs.{StreamState, find}
use Rattle.spec_links.specs.Plan.{is_closed}
use Rattle.sub_stream.specs.declared.facts.StreamFacts.{StreamFacts}
use Rattle.sub_stream.specs.Facts.{stream_facts}
use Rattle.ide_why.specs.Facts.{state_of_whole}
use Rattle.ide_why.proofs.reader.Reader.status.Goals as goal

status_seen : (closed : Bool) (o : Option StreamState) (f : StreamFacts) → Some f ≡ option_map (stream_facts closed) o
    → f.status ≡ status_if_planned o
status_seen closed None f is = absurd (none-some f (sym is))
status_seen closed (Some x) f is = ap (λ (g : StreamFacts). g.status) (same_Some f (stream_facts closed x) is)

pub returns-in-Some : goal.returns-in-Some
returns-in-Some c =
    status_seen (is_closed c.args.self.now.plan.now c.args.end.line c.args.stream)
    (find c.args.self.now.plan.now (state_of_whole c.args.self.now.plan.now c.args.self.now.links.now) c.args.end
    c.args.stream) c.in-Some.seen c.in-Some.ensures
