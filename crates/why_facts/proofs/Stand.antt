-- The facts of a state are those of each history that it stands for.
use Rattle.std.proofs.Common.{[], refl}
use Rattle.ide_types.specs.declared.port.Side.TheVariants.{Host, Device}
use Rattle.script_events.specs.declared.event.Event.TheVariants as event
use Rattle.script_events.specs.declared.event.AccessEvent.TheVariants as ae
use Rattle.spec_interfaces.specs.Views.{number_in}
use Rattle.spec_links.specs.Plan.{has_link}
use Rattle.spec_links.specs.Ports.{may_send, outgoing_at, sealing_end}
use Rattle.why_facts.specs.Due.{sealed_due}
unfoldable use Rattle.why_facts.specs.Due.{facts_due}
use Rattle.why_facts.specs.Kept.{packet_count_facts}
unfoldable use Rattle.why_facts.specs.Kept.{facts_in}
use Rattle.why_facts.specs.Stands.{FactsStand}
use Rattle.why_facts.proofs.Arrivals.{arriving_is, sealed_is}
use Rattle.why_facts.proofs.Asked.{asked_is}
use Rattle.why_facts.proofs.Beside.{reset_is, shown_is}
use Rattle.why_facts.proofs.Operations.{establish_is, refresh_is, status_is, stop_is}
use Rattle.why_facts.proofs.Sends.{forward_is, if_same, queue_is, send_is}

pub facts_stand : FactsStand
unfolding facts_due facts_in
facts_stand plan w h (event.Send port bytes more trusted) stands = if_same (may_send plan port) _ _ _
    (send_is plan w h stands (sealing_end plan port bytes) (outgoing_at plan (sealing_end plan port bytes) bytes))
facts_stand plan w h (event.Pass n) stands =
    arriving_is plan w h stands (event.Pass n) (packet_count_facts w) (sealed_due plan h) (sealed_is plan w h stands)
facts_stand plan w h (event.Alter n at mask) stands = arriving_is plan w h stands (event.Alter n at mask)
    (packet_count_facts w) (sealed_due plan h) (sealed_is plan w h stands)
facts_stand plan w h (event.Cut n len) stands =
    arriving_is plan w h stands (event.Cut n len) (packet_count_facts w) (sealed_due plan h) (sealed_is plan w h stands)
facts_stand plan w h (event.Arrive port bytes) stands = arriving_is plan w h stands (event.Arrive port bytes) [] [] refl
facts_stand plan w h (event.Dump n) stands = sealed_is plan w h stands
facts_stand plan w h (event.Establish line stream loss) stands = establish_is plan w h stands line stream
facts_stand plan w h (event.Refresh line stream loss) stands = refresh_is plan w h stands line stream
facts_stand plan w h (event.Stop line stream loss) stands = stop_is plan w h stands line stream
facts_stand plan w h (event.Status line stream) stands = status_is plan w h stands line stream
facts_stand plan w h (event.Interface e) stands = asked_is plan w h stands e (number_in e)
facts_stand plan w h (event.Access (ae.Answer link)) stands = queue_is plan w h stands Host link
facts_stand plan w h (event.Access (ae.Respond link)) stands = queue_is plan w h stands Device link
facts_stand plan w h (event.Access (ae.Mmio interface bar offset len)) stands = shown_is plan w h stands interface bar
facts_stand plan w h (event.Forward link d) stands = forward_is plan w h stands link d
facts_stand plan w h (event.Reset link ends) stands = if_same (has_link plan link) _ _ _ (reset_is plan w h stands ends)
facts_stand plan w h event.Absent stands = refl
