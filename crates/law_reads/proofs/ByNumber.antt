-- Packets are named by their numbers, so that what events brought, and with it units, writes and reads, may be said by
-- any list that begins with the packets that had been sealed.
use Rattle.spec_links.specs.Ports.{port_of}
use Rattle.spec_links.proofs.Terms.{◌≡◌, ℕ, ◌==◌, ◌&&◌, ◌-◌, Bool, true, false, List, [], ◌∷◌, ◌++◌, slice_get, Option}
use Rattle.spec_links.proofs.Terms.{Some, None, refl, ap, sym, subst, ◌∙◌, append_assoc, if◌then◌else◌, Plan, History}
use Rattle.spec_links.proofs.Terms.{Event, Verdict, Accepted, Held, UnitName, Effect, Packet, PortName, SubStream}
use Rattle.spec_links.proofs.Terms.{CauseLaw, SealedList, SealedPacket, ArrivedBytes, arrived_packet, packet_by_number}
use Rattle.spec_links.proofs.Terms.{arrival_packet, received_in, sealed_packets, Pass, Alter, Cut, Reset}
unfoldable use Rattle.spec_links.proofs.Terms.{arrival_of_event, packets_in_hold}
use Rattle.spec_links.proofs.Causes.{held_by, accepted_by}
use Rattle.spec_links.proofs.Growth.{packets_grow, at_front}
use Rattle.spec_links.specs.Terms.{newest_first, grant_at, option_and_then}
use Rattle.std.specs.Prelude.{option_map}
use Rattle.spec_links.specs.History.{arrived_in, arrival_at_partner, altered_arrival, shortened_arrival}
use Rattle.spec_links.specs.History.{is_received_under}
use Rattle.spec_links.specs.Memory.{admitted_writes, unit_ended}
unfoldable use Rattle.spec_links.specs.Memory.{writes}
use Rattle.spec_links.specs.Sent.{unit_accepted, reads_by, targets_at}
use Rattle.spec_links.specs.Plan.{is_same_port}
use Rattle.spec_links.specs.Terms.{history_statuses}
use Rattle.spec_links.specs.Happens.{happens_by_packets, unit_in_list}
unfoldable use Rattle.spec_links.specs.Happens.{happenings_in_list}
use Rattle.spec_links.specs.Guarded.{verdict_unit}
unfoldable use Rattle.spec_links.specs.Guarded.{link_happenings}
use Rattle.spec_interfaces.specs.{newest_happened}
unfoldable use Rattle.spec_links.specs.Sent.{packets_held, writes_in_list, queued_in}
use Rattle.ide_prefix.specs.Packet.{packet_bytes}
use Rattle.event_verdicts.specs.declared.verdict.Verdict.TheVariants as v

-- ---- what an event brings

packet_more : (xs more : SealedList) (n : ℕ) (x : SealedPacket × Packet) → packet_by_number xs n ≡ Some x
    → packet_by_number (xs ++ more) n ≡ Some x
packet_more xs more n x is = by (n == 0) is
  where
    by : (b : Bool) → (if b then None else slice_get xs (n - 1)) ≡ Some x
        → (if b then None else slice_get (xs ++ more) (n - 1)) ≡ Some x
    by true is = absurd cc
    by false is = (at_front xs more (n - 1) x is).0

passed_more : (xs more : SealedList) (n : ℕ) (f : SealedPacket × Packet → Option ArrivedBytes) (a : ArrivedBytes)
    (o : Option (SealedPacket × Packet)) → packet_by_number xs n ≡ o
    → option_and_then f o ≡ Some a → option_and_then f (packet_by_number (xs ++ more) n) ≡ Some a
passed_more xs more n f a None found is = absurd cc
passed_more xs more n f a (Some x) found is = ap (option_and_then f) (packet_more xs more n x found) ∙ is

mapped_more : (xs more : SealedList) (n : ℕ) (f : SealedPacket × Packet → ArrivedBytes) (a : ArrivedBytes)
    (o : Option (SealedPacket × Packet)) → packet_by_number xs n ≡ o
    → option_map f o ≡ Some a → option_map f (packet_by_number (xs ++ more) n) ≡ Some a
mapped_more xs more n f a None found is = absurd cc
mapped_more xs more n f a (Some x) found is = ap (option_map f) (packet_more xs more n x found) ∙ is

arrived_more : (plan : Plan) (xs more : SealedList) (e : Event) (a : ArrivedBytes) → arrived_in plan xs e ≡ Some a
    → arrived_in plan (xs ++ more) e ≡ Some a
arrived_more plan xs more (Pass n) a is = mapped_more xs more n
    (λ (x : SealedPacket × Packet). arrival_at_partner plan x (packet_bytes x.1)) a (packet_by_number xs n) refl is
arrived_more plan xs more (Alter n at mask) a is = passed_more xs more n (altered_arrival plan at mask) a
    (packet_by_number xs n) refl
    is
arrived_more plan xs more (Cut n len) a is = passed_more xs more n (shortened_arrival plan len) a
    (packet_by_number xs n) refl is
arrived_more plan xs more e a is = is

-- the list begins with the packets that had been sealed
abbrev pub IsBehind : Plan → History → SealedList → Type 0
IsBehind plan h xs = (more : SealedList) × (sealed_packets plan h ++ more ≡ xs)

pub behind_earlier : (plan : Plan) (h : History) (e : Event) (w : Verdict) (xs : SealedList)
    → IsBehind plan ((e, w) ∷ h) xs → IsBehind plan h xs
behind_earlier plan h e w xs behind =
    let grown = packets_grow plan h e w in (
      grown.0 ++ behind.0,
      sym (append_assoc (sealed_packets plan h) grown.0 behind.0) ∙
          (ap (λ (ys : SealedList). ys ++ behind.0) grown.1 ∙ behind.1),
    )

arrived_same : (plan : Plan) (h : History) (e : Event) (a : ArrivedBytes) (xs : SealedList) → arrival_of_event plan h e
    ≡ Some a
    → IsBehind plan h xs → arrival_packet (arrived_in plan xs e) ≡ arrived_packet plan h e
unfolding arrival_of_event
arrived_same plan h e a xs is behind =
    let there = arrived_more plan (sealed_packets plan h) behind.0 e a is in
    ap arrival_packet (subst (λ (ys : SealedList). arrived_in plan ys e ≡ Some a) behind.1 there ∙ sym is)

-- ---- units

pub held_same : (plan : Plan) (h : History) → CauseLaw plan h → (xs : SealedList) → IsBehind plan h xs
    → (s : SubStream) (j n : ℕ) → packets_held plan xs h s j n ≡ packets_in_hold plan h s j n
unfolding packets_in_hold packets_held
held_same plan [] cause xs behind s j n = refl
held_same plan ((e, Held port unit) ∷ h) cause xs behind s j n =
    let earlier = behind_earlier plan h e (Held port unit) xs behind in
    let before = held_same plan h cause.1 xs earlier s j n in
    let by = held_by plan h e port unit cause.0 in
    let same = arrived_same plan h e (record { port = port; bytes = by.came.bytes }) xs by.came.arrival earlier in
    (λ i. if is_received_under s j port unit && (unit.unit == n) then before i ++ same i ∷ [] else before i)
held_same plan ((e, w) ∷ h) cause xs behind s j n = held_same plan h cause.1 xs (behind_earlier plan h e w xs behind) s
    j n

pub unit_same : (plan : Plan) (h : History) (e : Event) (port : PortName) (unit : UnitName) (effects : List Effect)
    → CauseLaw plan ((e, Accepted port unit effects) ∷ h) → (xs : SealedList) → IsBehind plan h xs
    → unit_accepted plan xs h e port unit ≡ unit_ended plan h e port unit
unit_same plan h e port unit effects cause xs behind =
    let by = accepted_by plan h e port unit effects cause.0 in
    let before = held_same plan h cause.1 xs behind (received_in port unit) unit.draw unit.unit in
    let same = arrived_same plan h e (record { port = port; bytes = by.came.bytes }) xs by.came.arrival behind in
    (λ i. before i ++ same i ∷ [])

-- ---- writes and reads

pub writes_same : (plan : Plan) (h : History) → CauseLaw plan h → (xs : SealedList) → IsBehind plan h xs
    → writes_in_list plan xs h ≡ writes plan h
unfolding writes writes_in_list
writes_same plan [] cause xs behind = refl
writes_same plan ((e, Accepted port unit effects) ∷ h) cause xs behind =
    let earlier = behind_earlier plan h e (Accepted port unit effects) xs behind in
    let before = writes_same plan h cause.1 xs earlier in
    let same = unit_same plan h e port unit effects cause xs earlier in
    (λ i. newest_first (admitted_writes plan (grant_at plan h) port unit (same i)) (before i))
writes_same plan ((e, w) ∷ h) cause xs behind = writes_same plan h cause.1 xs (behind_earlier plan h e w xs behind)

pub queued_same : (plan : Plan) (h : History) → CauseLaw plan h → (xs ys : SealedList) → IsBehind plan h xs
    → IsBehind plan h ys → (at : PortName) → queued_in plan xs h at ≡ queued_in plan ys h at
unfolding queued_in
queued_same plan [] cause xs ys left right at = refl
queued_same plan ((e, Accepted port unit effects) ∷ h) cause xs ys left right at =
    let one = behind_earlier plan h e (Accepted port unit effects) xs left in
    let two = behind_earlier plan h e (Accepted port unit effects) ys right in
    let before = queued_same plan h cause.1 xs ys one two at in
    let same = unit_same plan h e port unit effects cause xs one ∙ sym
    (unit_same plan h e port unit effects cause ys two) in
    (λ i. if is_same_port (port_of plan port) at
    then before i ++ reads_by (targets_at at.side (history_statuses plan h at.line)) port unit effects (same i)
    else before i)
queued_same plan ((Reset k ends, v.Reset l) ∷ h) cause xs ys left right at =
    let before = queued_same plan h cause.1 xs ys (behind_earlier plan h (Reset k ends) (v.Reset l) xs left)
    (behind_earlier plan h (Reset k ends) (v.Reset l) ys right) at in
    (λ i. if l == at.line then [] else before i)
queued_same plan ((e, w) ∷ h) cause xs ys left right at = queued_same plan h cause.1 xs ys
    (behind_earlier plan h e w xs left) (behind_earlier plan h e w ys right) at

pub happenings_same : (plan : Plan) (h : History) → CauseLaw plan h → (xs : SealedList) → IsBehind plan h xs
    → (link : ℕ) → happenings_in_list plan xs h link ≡ link_happenings plan h link
unfolding happenings_in_list link_happenings
happenings_same plan [] cause xs behind link = refl
happenings_same plan ((e, w) ∷ h) cause xs behind link =
    let earlier = behind_earlier plan h e w xs behind in
    let before = happenings_same plan h cause.1 xs earlier link in
    let same = by w cause earlier in
    (λ i. newest_happened (happens_by_packets plan (history_statuses plan h) (same i) e w link) (before i))
  where
    by : (w : Verdict) → CauseLaw plan ((e, w) ∷ h) → IsBehind plan h xs
        → unit_in_list plan xs h e w ≡ verdict_unit plan h e w
    by (Accepted port unit effects) cause earlier = unit_same plan h e port unit effects cause xs earlier
    by _ cause earlier = refl

-- by the packets that had been sealed when the pair was there
pub unit_again : (plan : Plan) (h : History) (e : Event) (port : PortName) (unit : UnitName) (effects : List Effect)
    → CauseLaw plan ((e, Accepted port unit effects) ∷ h)
    → unit_accepted plan (sealed_packets plan ((e, Accepted port unit effects) ∷ h)) h e port unit
    ≡ unit_ended plan h e port unit
unit_again plan h e port unit effects cause =
    let grown = packets_grow plan h e (Accepted port unit effects) in
    unit_same plan h e port unit effects cause (sealed_packets plan ((e, Accepted port unit effects) ∷ h))
    (grown.0, grown.1)
