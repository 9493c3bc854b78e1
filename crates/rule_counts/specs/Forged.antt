-- At how many arrivals of a history a tag verified on a unit that its partner had not sealed.
use Rattle.std.specs.Prelude.{ℕ, ◌+◌, ◌-◌, ◌==◌, ◌&&◌, Bool, false, not, List, [], ◌∷◌, if◌then◌else◌, nat_eq}
use Rattle.std.specs.Prelude.{Option, Some, None, Result, Ok, Err, slice_get}
use Rattle.std.specs.Cmp.Lexicographic.{pointwise}
use Rattle.ide_types.specs.declared.port.PortName.{PortName}
use Rattle.ide_types.specs.declared.plan.Plan.{Plan}
use Rattle.script_events.specs.declared.event.Event.{Event}
use Rattle.event_verdicts.specs.declared.verdict.Verdict.{Verdict}
use Rattle.ide_prefix.specs.Packet.{Packet}
use Rattle.ide_prefix.specs.{authenticated_bytes, encrypted_bytes}
use Rattle.spec_keys.specs.History.{History}
use Rattle.spec_links.specs.Units.{units}
use Rattle.spec_links.specs.History.{ArrivedBytes, ahead_due, ahead_sent, arrival_of_event, received_in, sent_packets}
use Rattle.spec_links.specs.Due.{Ending, before_tag, is_verified, unit_packets_ended}
use Rattle.spec_links.specs.Laws.{last_tag}

-- the unit of this number that its partner finished, from 1
abbrev pub partner_unit : Plan → History → PortName → Ending → Option (List Packet)
partner_unit plan h port x =
    if x.unit.unit == 0 then None
    else slice_get (units (sent_packets plan h (received_in port x.unit) x.unit.draw)) (x.unit.unit - 1)

-- with the same authenticated bytes, ciphertext and tag as the unit that ends here
abbrev pub is_unit_ended : Plan → History → PortName → Ending → List Packet → Bool
is_unit_ended plan h port x unit =
    pointwise nat_eq (authenticated_bytes unit) (authenticated_bytes (unit_packets_ended plan h port x))
    && pointwise nat_eq (encrypted_bytes unit) (encrypted_bytes (unit_packets_ended plan h port x))
    && pointwise nat_eq (last_tag unit) x.packet.tag

abbrev pub is_partners : Plan → History → PortName → Ending → Option (List Packet) → Bool
is_partners plan h port x None = false
is_partners plan h port x (Some unit) = is_unit_ended plan h port x unit

-- and with the same bytes ahead
abbrev pub is_same_ahead : Plan → History → PortName → Ending → Bool
is_same_ahead plan h port x =
    pointwise nat_eq (ahead_sent plan h (received_in port x.unit) x.unit.draw x.unit.unit)
    (ahead_due plan h (received_in port x.unit) x.unit.unit)

-- whether the partner had sealed the unit that ends here
abbrev pub was_sealed : Plan → History → PortName → Ending → Bool
was_sealed plan h port x = is_partners plan h port x (partner_unit plan h port x) && is_same_ahead plan h port x

abbrev pub is_forged_ending : Plan → History → PortName → Result Ending Verdict → Bool
is_forged_ending plan h port (Err w) = false
is_forged_ending plan h port (Ok x) = is_verified plan h port x && not (was_sealed plan h port x)

abbrev pub is_forged_arrival : Plan → History → Option ArrivedBytes → Bool
is_forged_arrival plan h None = false
is_forged_arrival plan h (Some a) = is_forged_ending plan h a.port (before_tag plan h a)

-- whether a tag verifies at an event, after a history, on a unit that its partner had not sealed
abbrev pub forged_at : Plan → History → Event → Bool
forged_at plan h e = is_forged_arrival plan h (arrival_of_event plan h e)

unfoldable pub forged_count : Plan → History → ℕ
forged_count plan [] = 0
forged_count plan ((e, w) ∷ h) = forged_count plan h + (if forged_at plan h e then 1 else 0)
