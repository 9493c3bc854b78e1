-- What is read of a world is what the machine keeps, so the facts of an event are those of the history.
use Rattle.std.proofs.Common.{◌≡◌, ℕ, List, [], ◌∷◌, ◌++◌, length, refl, ap, ◌∙◌, Option, Some, None}
use Rattle.std.specs.Prelude.{if◌then◌else◌}
use Rattle.ide_types.specs.{is_link_line}
use Rattle.ide_types.specs.declared.port.PortName.{PortName}
use Rattle.ide_types.specs.declared.port.Side.TheVariants.{Host, Device}
use Rattle.ide_types.specs.declared.plan.Plan.{Plan}
use Rattle.ide_types.specs.declared.stream.StreamPlan.{StreamPlan}
use Rattle.spec_keys.specs.Operations.{StreamStage}
use Rattle.script_events.specs.declared.event.Event.{Event}
use Rattle.script_events.specs.declared.event.Event.TheVariants as event
use Rattle.script_events.specs.declared.event.AccessEvent.TheVariants as ae
use Rattle.spec_links.specs.Plan.{has_link, streams_of}
use Rattle.spec_links.specs.Ports.{may_send, outgoing_at, sealing_end}
use Rattle.event_verdicts.specs.declared.verdict.Operation.TheVariants as op
use Rattle.machine_operations.specs.{LinkState, find_op, ports_of, machine_status}
use Rattle.machine_whole.specs.Machine.{arrival_of}
use Rattle.told_facts.specs.declared.fact.Fact.{Fact}
use Rattle.why_facts.specs.Forms.{clears_fact, draws_fact, establish_facts, manager_fact, packets_fact, pool_of}
use Rattle.why_facts.specs.Forms.{refresh_facts, state_fact, stop_facts}
use Rattle.why_facts.specs.Kept.{arrival_facts_in, cleared_in, if_found, reset_facts_in, packet_count_facts}
unfoldable use Rattle.why_facts.specs.Kept.{facts_in}
use Rattle.world.specs.{AreLinks, WorldStandsFor, WholeLinks, world_of}
use Rattle.spec_keys.specs.History.{History}
use Rattle.ide_why.specs.Facts.{brought_facts, cleared_read, exchanges_read, facts_read, opens_read, reset_read}
use Rattle.ide_why.specs.Facts.{sealed_facts, state_of_whole}
use Rattle.ide_why.proofs.SeenFaces.{known, numbered, shown_is}
use Rattle.ide_why.proofs.SeenInterfaces.{asked_is, forward_is, queue_is}
use Rattle.ide_why.proofs.SeenOperations.{exchanges_are, opens_are}
use Rattle.ide_why.proofs.SeenStatuses.{stand}
use Rattle.ide_why.proofs.Packets.{arrival_is, sending_is, state_is}

module _ (plan : Plan) (s : WholeLinks) (links : AreLinks plan s.links.ends s.links.keeper.keys)
    (whole : length s.accesses ≡ length s.links.ends.links) (h : History) (stood : WorldStandsFor (world_of plan s) h)
  where
    st_is : state_of_whole plan s ≡ stood.whole.links
    st_is = state_is plan s h stood (known plan s links h stood) (numbered plan s links h stood)
        (stand plan s links whole h stood)

    sealed_is : sealed_facts plan s ≡ packet_count_facts stood.whole
    sealed_is = ap (λ (st : LinkState). packets_fact (length st.packets)) st_is

    brought_is : (e : Event) → brought_facts plan s e
        ≡ arrival_facts_in plan stood.whole (packet_count_facts stood.whole) (arrival_of plan stood.whole.links e)
    brought_is e =
        arrival_is plan s h stood (known plan s links h stood) (numbered plan s links h stood)
        (stand plan s links whole h stood) (sealed_facts plan s)
        (arrival_of plan (state_of_whole plan s) e)
        ∙ (λ j. arrival_facts_in plan stood.whole (sealed_is j) (arrival_of plan (st_is j) e))

    establish_by : (line stream : ℕ) (q : Option StreamStage)
        → if_found q (λ q. manager_fact q ∷ draws_fact (state_of_whole plan s).draws (pool_of plan)
        ∷ exchanges_read plan s op.Establish line stream q) ≡ if_found q
        (λ q. establish_facts plan (ports_of plan (state_of_whole plan s)) line stream q (state_of_whole plan s).draws)
    establish_by line stream None = refl
    establish_by line stream (Some q) =
        ap (λ (fs : List Fact). manager_fact q ∷ draws_fact (state_of_whole plan s).draws (pool_of plan) ∷ fs)
        (exchanges_are plan s line stream op.Establish q)

    refresh_by : (line stream : ℕ) (q : Option StreamStage) → if_found q
        (λ q. manager_fact q ∷ state_fact (machine_status plan (state_of_whole plan s) Host line stream)
        ∷ draws_fact (state_of_whole plan s).draws (pool_of plan)
        ∷ (opens_read plan s line stream q ++ exchanges_read plan s op.Refresh line stream q))
        ≡ if_found q (λ q. refresh_facts plan (ports_of plan (state_of_whole plan s)) line stream q
        (state_of_whole plan s).draws (machine_status plan (state_of_whole plan s) Host line stream))
    refresh_by line stream None = refl
    refresh_by line stream (Some q) =
        (λ i. manager_fact q ∷ state_fact (machine_status plan (state_of_whole plan s) Host line stream)
        ∷ draws_fact (state_of_whole plan s).draws (pool_of plan)
        ∷ (opens_are plan s line stream q i ++ exchanges_are plan s line stream op.Refresh
        q
        i))

    stop_by : (line stream : ℕ) (q : Option StreamStage)
        → if_found q (λ q. manager_fact q ∷ exchanges_read plan s op.Stop line stream q)
        ≡ if_found q (λ q. stop_facts plan (ports_of plan (state_of_whole plan s)) line stream q
        (state_of_whole plan s).draws)
    stop_by line stream None = refl
    stop_by line stream (Some q) = ap (λ (fs : List Fact). manager_fact q ∷ fs)
        (exchanges_are plan s line stream op.Stop q)

    cleared_is : (end : PortName) (xs : List StreamPlan)
        → cleared_read plan s end xs ≡ cleared_in plan stood.whole end xs
    cleared_is end [] = refl
    cleared_is end (x ∷ xs) =
        (λ j. clears_fact plan end x.id (machine_status plan (st_is j) end.side end.line x.id)
        ∷ (if_found (find_op plan (st_is j) end.line x.id) (λ q. manager_fact q ∷ []) ++ cleared_is end xs j))

    reset_is : (es : List PortName) → reset_read plan s es ≡ reset_facts_in plan stood.whole es
    reset_is [] = refl
    reset_is (e ∷ es) = (λ j. cleared_is e (streams_of plan e.line) j ++ reset_is es j)

    pub read_is : (e : Event) → facts_read plan s e ≡ facts_in plan stood.whole e
    unfolding facts_in
    read_is (event.Send port bytes more trusted) =
        ap (λ (fs : List Fact). if may_send plan port then fs else [])
        (sending_is plan s h stood (known plan s links h stood) (numbered plan s links h stood)
        (stand plan s links whole h stood)
        (sealing_end plan port bytes)
        (outgoing_at plan (sealing_end plan port bytes) bytes))
    read_is (event.Pass n) = brought_is (event.Pass n)
    read_is (event.Alter n at mask) = brought_is (event.Alter n at mask)
    read_is (event.Cut n len) = brought_is (event.Cut n len)
    read_is (event.Arrive port bytes) =
        arrival_is plan s h stood (known plan s links h stood) (numbered plan s links h stood)
        (stand plan s links whole h stood) []
        (arrival_of plan (state_of_whole plan s) (event.Arrive port bytes))
        ∙ ap (λ (st : LinkState). arrival_facts_in plan stood.whole [] (arrival_of plan st (event.Arrive port bytes)))
        st_is
    read_is (event.Dump n) = sealed_is
    read_is (event.Establish line stream loss) =
        establish_by line stream (find_op plan (state_of_whole plan s) line stream)
        ∙ ap (λ (st : LinkState). if_found (find_op plan st line stream)
        (λ q. establish_facts plan (ports_of plan st) line stream q st.draws)) st_is
    read_is (event.Refresh line stream loss) =
        ap (λ (fs : List Fact). if is_link_line line then fs else [])
        (refresh_by line stream (find_op plan (state_of_whole plan s) line stream)
        ∙ ap (λ (st : LinkState). if_found (find_op plan st line stream)
        (λ q. refresh_facts plan (ports_of plan st) line stream q st.draws (machine_status plan st Host line stream)))
        st_is)
    read_is (event.Stop line stream loss) =
        stop_by line stream (find_op plan (state_of_whole plan s) line stream)
        ∙ ap (λ (st : LinkState). if_found (find_op plan st line stream)
        (λ q. stop_facts plan (ports_of plan st) line stream q st.draws)) st_is
    read_is (event.Status line stream) =
        ap (λ (st : LinkState). if_found (find_op plan st line stream) (λ q. manager_fact q ∷ [])) st_is
    read_is (event.Interface e) = asked_is plan s links whole h stood e
    read_is (event.Access (ae.Answer link)) = queue_is plan s links whole h stood Host link
    read_is (event.Access (ae.Respond link)) = queue_is plan s links whole h stood Device link
    read_is (event.Access (ae.Mmio interface bar offset len)) = shown_is plan s links h stood interface bar
    read_is (event.Forward link d) = forward_is plan s links whole h stood link d
    read_is (event.Reset link ends) = ap (λ (fs : List Fact). if has_link plan link then fs else []) (reset_is ends)
    read_is event.Absent = refl
