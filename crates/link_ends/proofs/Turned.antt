-- Slots by the places that messages name.
use Rattle.std.proofs.Common.{◌≡◌, ◌∙◌, Bool, refl, ap, subst, ◌==◌, ◌&&◌, if◌then◌else◌}
use Rattle.std.specs.Prelude.{nat_lt, option_map}
use Rattle.ide_types.specs.Sub.{direction_number}
use Rattle.ide_types.specs.declared.direction.Direction.{Direction}
use Rattle.ide_types.specs.declared.direction.Direction.TheVariants.{Downstream, Upstream}
use Rattle.ide_types.specs.declared.port.Side.{Side}
use Rattle.ide_types.specs.declared.port.Side.TheVariants.{Host, Device}
use Rattle.key_slots.specs.{KeyCall}
use Rattle.key_messages.specs.declared.place.Place.{Place}
use Rattle.key_messages.specs.{place_call, is_same_place, slots_after_call, slots_by}
use Rattle.ide_port.specs.{PortEnd, slot_pair_at, unfinished_at}
use Rattle.link_ends.specs.LineEnds.{own_direction, at_end, shown_end, unfinished_end}
use Rattle.link_ends.specs.declared.end.LineEnd.{LineEnd}

one_turned : (side : Side) (d e : Direction)
    → (direction_number (own_direction side d) == direction_number (own_direction side e))
    ≡ (direction_number d == direction_number e)
one_turned Device d e = refl
one_turned Host Downstream Downstream = refl
one_turned Host Downstream Upstream = refl
one_turned Host Upstream Downstream = refl
one_turned Host Upstream Upstream = refl

same_turned : (side : Side) (p q : Place) → is_same_place (at_end side p) (at_end side q) ≡ is_same_place p q
same_turned side p q =
    ap (λ (b : Bool). ((p.stream == q.stream) && b) && (p.sub == q.sub)) (one_turned side p.direction q.direction)

-- after a call there
pub slots_turned : (e : LineEnd) (port : PortEnd) (place given : Place) (call : KeyCall) → given ≡ at_end e.side place
    → ((q : Place) → slot_pair_at port q
    ≡ slots_after_call (λ r. slot_pair_at e.port r) (λ r. unfinished_at e.port r) (place_call given call) q)
    → (p : Place) → shown_end (record { side = e.side; port = port }) p
    ≡ slots_after_call (λ r. shown_end e r) (λ r. unfinished_end e r) (place_call place call) p
slots_turned e port place given call is slots p =
    subst (λ (r : Place). slot_pair_at port (at_end e.side p)
    ≡ slots_after_call (λ r. slot_pair_at e.port r) (λ r. unfinished_at e.port r) (place_call r call) (at_end e.side p))
    is
    (slots (at_end e.side p))
    ∙ ap (λ (b : Bool). if b && nat_lt p.sub 3 then option_map (slots_by call (unfinished_end e p)) (shown_end e p)
    else shown_end e p) (same_turned e.side p place)
