-- What the calls read of a world.
use Rattle.std.proofs.Common.{◌≡◌, ℕ, ◌<◌, ◌≤◌, ◌&&◌, Bool, true, false, length, refl, ap, sym, ◌∙◌}
use Rattle.std.proofs.Common.{arith, Option, Some, None, subst}
use Rattle.std.proofs.lemmas.Bool.Decides.{nat_tests}
use Rattle.std.proofs.lemmas.Option.{none-some, same_Some}
use Rattle.std.specs.Option.{option_and_then, option_map}
use Rattle.std.specs.Prelude.{IfSome, if◌then◌else◌, nat_le, nat_lt, slice_get}
use Rattle.ide_types.specs.declared.port.PortName.{PortName}
use Rattle.ide_types.specs.declared.plan.Plan.{Plan}
use Rattle.ide_port.specs.{PortEnd, Found, found_stream, found_facts, stream_facts_in}
use Rattle.spec_links.specs.Plan.{is_closed}
use Rattle.machine_operations.specs.{find_op}
use Rattle.sub_stream.specs.Facts.{stream_facts}
use Rattle.interface_host.specs.declared.facts.InterfaceFacts.{InterfaceFacts}
use Rattle.interface_host.specs.Facts.{interface_facts}
use Rattle.interface_host.specs.Views.{HostTdi}
use Rattle.interface_state.specs.{DeviceTdi, state_code}
use Rattle.key_host.specs.Managers.{named_stream, op_named}
use Rattle.world.specs.{AreLinks, LinkEnds, WholeLinks, interface_named, place_on_links, port_on, interface_of_ends}
use Rattle.world.proofs.{closed_at, port_is, end_found, none_found, op_is, unnamed, get_there, IsLocated, located_read}
use Rattle.ide_why.specs.Facts.{state_of_whole}
use Rattle.ide_why.specs.Reading.{face_located, face_of, face_read, stream_read, device_interface_read}

abbrev named_if : Bool → ℕ → ℕ → Option (ℕ × ℕ)
named_if b line stream = if b then Some (line, stream) else None

module _ (plan : Plan) (s : WholeLinks) (links : AreLinks plan s.links.ends s.links.keeper.keys) where
  -- ---- a stream at an end

  pub stream_none : (end : PortName) (stream : ℕ) → port_on s.links.ends end ≡ None
      → None ≡ stream_read plan s end stream
  stream_none end stream none =
      sym (ap (option_map (stream_facts (is_closed plan end.line stream)))
      (none_found plan s.links.ends s.links.keeper.keys s.links.packets.packets end stream links none))

  found_by : (closed : Bool) (o : Option Found) → ((f : Found) → o ≡ Some f → closed ≡ f.plan.closed)
      → option_map found_facts o ≡ option_map (stream_facts closed) (option_map (λ (f : Found). f.state) o)
  found_by closed None same = refl
  found_by closed (Some f) same = ap (λ (c : Bool). Some (stream_facts c f.state)) (sym (same f refl))

  pub stream_some : (end : PortName) (stream : ℕ) (e : PortEnd) → port_on s.links.ends end ≡ Some e
      → stream_facts_in e stream ≡ stream_read plan s end stream
  stream_some end stream e there =
      found_by (is_closed plan end.line stream) (found_stream e.plans e.states stream)
      (λ f at. closed_at plan end e stream f (port_is plan s.links.ends s.links.keeper.keys links end e there) at)
      ∙ sym (ap (option_map (stream_facts (is_closed plan end.line stream)))
      (end_found plan s.links.ends s.links.keeper.keys s.links.packets.packets end e stream links there))

  -- ---- operations

  pub stage_is : (line stream : ℕ) → op_named (named_stream s.links.keeper.keys.manager line stream)
      ≡ find_op plan (state_of_whole plan s) line stream
  stage_is line stream = sym (op_is plan s.links.ends s.links.keeper.keys s.links.packets.packets line stream links)

  pub stage_none : (line stream : ℕ) → (nat_lt line 32 && nat_le stream 255) ≡ false
      → None ≡ find_op plan (state_of_whole plan s) line stream
  stage_none line stream past =
      sym (unnamed plan s.links.ends s.links.keeper.keys s.links.packets.packets line stream links
      (by (nat_lt line 32) (nat_le stream 255) _ _ past))
    where
      by : (a b c d : Bool) → (a && b) ≡ false → None ≡ named_if (a && b && c && d) line stream
      by true true c d past = absurd cc
      by true false c d past = refl
      by false b c d past = refl

-- ---- an interface by its number

-- the link and the place of an interface that is named
pub record IsNamedFace (s : WholeLinks) (number link place : ℕ) : Type 0 where
  pub small : number ≤ 255
  pub managed : number < length s.links.keeper.interfaces.interfaces
  pub there : LinkEnds
  pub ends_are : slice_get s.links.ends.links link ≡ Some there
  pub within : place < length there.device.interfaces.interfaces

pub named_face : (s : WholeLinks) (number link place : ℕ) → interface_named s.links.keeper.interfaces s.links.ends.links
    number ≡ Some (link, place) → IsNamedFace s number link place
named_face s number link place is =
    by (nat_lt number (length s.links.keeper.interfaces.interfaces)) (nat_le number 255) refl refl is
  where
    at : nat_lt number (length s.links.keeper.interfaces.interfaces) ≡ true → nat_le number 255 ≡ true
        → IsLocated 0 number s.links.ends.links (link, place) → IsNamedFace s number link place
    at many few l = record {
      small = grind (arith, nat_tests, few);
      managed = grind (arith, nat_tests, many);
      there = l.there;
      ends_are = ap (slice_get s.links.ends.links) (omega (arith, l.link_is)) ∙ l.ends_are;
      within = l.within;
    }

    by : (a b : Bool) → nat_lt number (length s.links.keeper.interfaces.interfaces) ≡ a → nat_le number 255 ≡ b
        → (if a then (if b then place_on_links 0 number s.links.ends.links else None) else None) ≡ Some (link, place)
        → IsNamedFace s number link place
    by true true many few is = at many few (located_read 0 number s.links.ends.links (link, place) is)
    by true false many few is = absurd (none-some (link, place) is)
    by false b many few is = absurd (none-some (link, place) is)

pub face_made : (s : WholeLinks) (number link place state : ℕ) (l : LinkEnds) (facts : InterfaceFacts)
    → interface_named s.links.keeper.interfaces s.links.ends.links number ≡ Some (link, place)
    → slice_get s.links.ends.links link ≡ Some l
    → IfSome (slice_get l.device.interfaces.interfaces place) (λ (t : DeviceTdi). state ≡ state_code t.state)
    → IfSome (slice_get s.links.keeper.interfaces.interfaces number) (λ (i : HostTdi). facts ≡ interface_facts i)
    → Some (record { number = number; state = state; manager = facts }) ≡ face_read s number
face_made s number link place state l facts is there state_is facts_are =
    let n = named_face s number link place is in
    let same : n.there ≡ l = same_Some n.there l (sym n.ends_are ∙ there) in
    let t = get_there l.device.interfaces.interfaces place
    (subst (λ (y : LinkEnds). place < length y.device.interfaces.interfaces) same n.within) in
    let i = get_there s.links.keeper.interfaces.interfaces number n.managed in
    let code : state ≡ state_code t.0.state =
    subst (λ o. IfSome o (λ (t : DeviceTdi). state ≡ state_code t.state)) t.1 state_is in
    let kept : facts ≡ interface_facts i.0 =
    subst (λ o. IfSome o (λ (i : HostTdi). facts ≡ interface_facts i)) i.1 facts_are in
    let tdi : interface_of_ends s.links.ends.links (link, place) ≡ Some t.0 =
    interface_at there t.1 in
    (λ j. Some (record { number = number; state = code j; manager = kept j }))
    ∙ sym (ap (face_located s number) is ∙ (λ j. face_of number (tdi j) (i.1 j)))
  where
    interface_at : {t : DeviceTdi} → slice_get s.links.ends.links link ≡ Some l
        → slice_get l.device.interfaces.interfaces place ≡ Some t
        → interface_of_ends s.links.ends.links (link, place) ≡ Some t
    interface_at there at = rw there at

-- the interface of a number at its device
pub interface_made : (s : WholeLinks) (number link place : ℕ) (l : LinkEnds) (t : DeviceTdi)
    → interface_named s.links.keeper.interfaces s.links.ends.links number ≡ Some (link, place)
    → slice_get s.links.ends.links link ≡ Some l
    → slice_get l.device.interfaces.interfaces place ≡ Some t → Some t ≡ device_interface_read s number
interface_made s number link place l t is there at =
    sym (ap (option_and_then (interface_of_ends s.links.ends.links)) is ∙ rw there at)
