-- What packets by their numbers come to.
use Rattle.std.proofs.Common.{◌≡◌, ℕ, true, List, ◌++◌, length, refl, ap, sym, ◌∙◌, subst}
use Rattle.std.proofs.Common.{Option, Some, Result}
use Rattle.std.specs.Option.{option_and_then}
use Rattle.std.specs.Prelude.{IfOk, bit_xor, nat_le, nat_lt, slice_index, slice_set, take}
use Rattle.ide_types.specs.declared.memory.OutOfMemory.{OutOfMemory}
use Rattle.ide_types.specs.declared.port.PortName.{PortName}
use Rattle.ide_types.specs.declared.plan.Plan.{Plan}
use Rattle.script_events.specs.declared.event.Event.{Event}
use Rattle.script_events.specs.declared.event.Event.TheVariants as event
use Rattle.spec_links.specs.Packets.{arrival_at}
use Rattle.spec_links.specs.Plan.{partner}
use Rattle.machine_ports.specs.Machine.{LinkPacket, altered_to, cut_short, packet_numbered, whole_arrival}
use Rattle.machine_whole.specs.Machine.{arrival_of}
use Rattle.told_facts.specs.declared.fact.Fact.{Fact}
use Rattle.world.specs.{WholeLinks}
use Rattle.ide_why.specs.Facts.{arrival_facts, brought_facts, sealed_facts, state_of_whole}

module _ (plan : Plan) (s : WholeLinks) where
  -- ---- packets by their numbers

  pub brought_from : (e : Event) (end : PortName) (bytes : List ℕ) (old new : List Fact)
      (result : Result (Unit {0}) OutOfMemory) → arrival_of plan (state_of_whole plan s) e
      ≡ Some (arrival_at plan end bytes)
      → ((unnamed : List Fact) → IfOk result (λ u. new ≡ old ++ arrival_facts plan s unnamed
      (Some (arrival_at plan end bytes))))
      → IfOk result (λ u. new ≡ old ++ brought_facts plan s e)
  brought_from e end bytes old new result arrives ends =
      subst (λ o. IfOk result (λ u. new ≡ old ++ arrival_facts plan s (sealed_facts plan s) o)) (sym arrives)
      (ends (sealed_facts plan s))

  module _ (n : ℕ) (port : PortName) (bytes : List ℕ)
      (is : Some (record { port = port; bytes = bytes }) ≡ packet_numbered (state_of_whole plan s).packets n)
    where
      pub whole_arrives : arrival_of plan (state_of_whole plan s) (event.Pass n)
          ≡ Some (arrival_at plan (partner port) bytes)
      whole_arrives = ap (λ (o : Option LinkPacket). option_and_then (whole_arrival plan) o) (sym is)

      pub altered_arrives : (at mask : ℕ) → nat_lt at (length bytes) ≡ true
          → arrival_of plan (state_of_whole plan s) (event.Alter n at mask)
          ≡ Some (arrival_at plan (partner port) (slice_set bytes at (bit_xor (slice_index bytes at) mask)))
      altered_arrives at mask fits =
          ap (λ (o : Option LinkPacket). option_and_then (altered_to plan at mask) o) (sym is) ∙ rw fits refl

      pub cut_arrives : (len : ℕ) → nat_le len (length bytes) ≡ true
          → arrival_of plan (state_of_whole plan s) (event.Cut n len)
          ≡ Some (arrival_at plan (partner port) (take len bytes))
      cut_arrives len fits =
          ap (λ (o : Option LinkPacket). option_and_then (cut_short plan len) o) (sym is) ∙ rw fits refl
