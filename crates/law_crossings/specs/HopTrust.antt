-- Nothing is trusted on a hop: what comes on a segment of it is no interface's, and no answer and no trusted response
-- goes there.
use Rattle.std.specs.Prelude.{◌≡◌, ◌||◌, Bool, true, false, Some, slice_get, ℕ}
use Rattle.ide_types.specs.Lines.{is_near_hop_line, is_far_hop_line}
use Rattle.ide_types.specs.declared.port.Side.{Side}
use Rattle.ide_types.specs.declared.port.Side.TheVariants.{Host, Device}
use Rattle.spec_links.specs.Terms.{AllByRecursion, Plan, Event, Access, Effect, Verdict, Accepted, Sealed, SealedPacket}
use Rattle.spec_links.specs.Terms.{Packet, PortName, History}
use Rattle.spec_links.specs.Memory.{unit_ended}
use Rattle.law_locks.specs.Fronts.{AtPairs}
use Rattle.script_events.specs.declared.event.AccessEvent.TheVariants as ae
use Rattle.event_verdicts.specs.declared.verdict.Effect.TheVariants as effect

-- a segment of a hop
abbrev pub is_hop_line : ℕ → Bool
is_hop_line line = is_near_hop_line line || is_far_hop_line line

-- of a packet with T or without it, that came to a host or to a device: trusted memory took it, or will answer it; or a
-- device stored it as a trusted write, or will answer it as a trusted read
abbrev pub is_trusted_effect : Side → Effect → Bool → Bool
is_trusted_effect side effect.Applied t = true
is_trusted_effect Host effect.Queued t = true
is_trusted_effect Device effect.Queued t = t
is_trusted_effect side effect.Stored t = t
is_trusted_effect side e t = false

-- the end of a hop at its device
abbrev pub is_device_hop_end : PortName → Bool
is_device_hop_end end = by end.side
  where
    by : Side → Bool
    by Host = false
    by Device = is_far_hop_line end.line

-- No packet of a unit that came on a segment of a hop has such an effect, and no answer is sealed there. The end of a
-- hop at its device seals no packet with T, no response either.
abbrev pub TrustsNoHop : Plan → History → Event → Verdict → Type 0
TrustsNoHop plan h (Access (ae.Answer link)) (Sealed ds) =
    AllByRecursion (λ (d : SealedPacket). is_hop_line d.port.line ≡ false) ds
TrustsNoHop plan h e (Sealed ds) =
    AllByRecursion (λ (d : SealedPacket). is_device_hop_end d.port ≡ true → d.t ≡ false) ds
TrustsNoHop plan h e (Accepted port unit effects) =
    is_hop_line port.line ≡ true → (n : ℕ) (p : Packet) (x : Effect)
    → slice_get (unit_ended plan h e port unit) n ≡ Some p → slice_get effects n ≡ Some x
    → is_trusted_effect port.side x p.prefix.t ≡ false
TrustsNoHop plan h e w = Unit {0}

-- at each pair
abbrev pub HopTrustLaw : Plan → History → Type 0
HopTrustLaw plan h = AtPairs (TrustsNoHop plan) h
