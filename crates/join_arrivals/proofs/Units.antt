-- A unit that is accepted on a line whose units have one packet has the packet that came and no other; its TLP is no
-- longer than one may be.
use Rattle.law_sealing.proofs.Terms.{◌≡◌, ◌∙◌, ℕ, ◌+◌, ◌<◌, ◌≤◌, ◌&&◌, Bool, true, false, List, [], ◌∷◌, ◌++◌}
use Rattle.law_sealing.proofs.Terms.{length, refl, ap, subst, arith, nat_tests, inl, inr, not, Plan}
use Rattle.law_sealing.proofs.Terms.{History, CauseLaw, SubStream, lane_in, PortName, SubKind, Packet, FitsPacket}
use Rattle.law_sealing.proofs.Terms.{port_keys, has_failed, length-append}
use Rattle.std.proofs.lemmas.Option.{none-some, same_Some}
use Rattle.std.specs.Prelude.{Option, Some, None, nat_le, if◌then◌else◌, ◌||◌}
use Rattle.ide_types.specs.declared.sub.SubKind.TheVariants.{Pr, Npr, Cpl}
use Rattle.ide_types.specs.declared.sub.FailCause.TheVariants as fail
use Rattle.tlp_layout.specs.declared.head.HeadView.{HeadView}
use Rattle.tlp_layout.specs.Head.{head_length}
use Rattle.tlp_layout.specs.Tlp.{body_size}
use Rattle.tlp_layout.proofs.Readings.{head_sized}
use Rattle.spec_keys.specs.Keys.{Keyed, Off, Loaded, On, Keys}
use Rattle.spec_stream.specs.Stream.{StreamState, LiveKey, PacketOutcome, Insecure, Failed, Held, Accepted, holds_any}
use Rattle.spec_stream.specs.Stream.{is_tagged, is_allowed, outcome_of_checks, stream_outcome_by_keys, stream_outcome}
use Rattle.spec_stream.specs.Stream.{live_in, slot_in_set, at_sub}
use Rattle.hop_queues.specs.{most_bytes}
use Rattle.spec_links.specs.History.{pending_packets}
use Rattle.spec_links.specs.Plan.{aggregation_of}
use Rattle.machine_ports.specs.Stands.{rx_slot, rx_slots, receiving_key}
unfoldable use Rattle.machine_ports.specs.Stands.{stream_state_due}
use Rattle.join_arrivals.proofs.Held.{held_none}

-- ---- nothing is held

abbrev pub HoldsNone : LiveKey → Type 0
HoldsNone y = y.packets ≡ []

module _ (plan : Plan) (h : History) (cause : CauseLaw plan h) (port : PortName) where
  key_none : (s : SubStream) (j : ℕ) → aggregation_of plan s.line s.stream ≡ 1
      → HoldsNone (receiving_key plan h port s j)
  key_none s j one = by (has_failed h port s.stream)
    where
      by : (b : Bool) → (if b then [] else pending_packets plan h s j) ≡ []
      by true = refl
      by false = held_none plan h cause s one j _

  slot_none : (s : SubStream) (k : Keyed) (y : LiveKey) → aggregation_of plan s.line s.stream ≡ 1
      → live_in (rx_slot plan h port s k) ≡ Some y → HoldsNone y
  slot_none s Off y one is = absurd (none-some y is)
  slot_none s (Loaded j) y one is = absurd (none-some y is)
  slot_none s (On j) y one is = subst HoldsNone (same_Some (receiving_key plan h port s j) y is) (key_none s j one)

  slots_none : (s : SubStream) (keys : Keys) (k : Bool) (y : LiveKey) → aggregation_of plan s.line s.stream ≡ 1
      → live_in (slot_in_set (rx_slots plan h port s keys) k) ≡ Some y → HoldsNone y
  slots_none s keys true y one is = slot_none s keys.second y one is
  slots_none s keys false y one is = slot_none s keys.first y one is

  pub standing_none : (stream : ℕ) (u : SubKind) (k : Bool) (y : LiveKey) → aggregation_of plan port.line stream ≡ 1
      → live_in (slot_in_set (at_sub (stream_state_due plan h port stream).rx u).slots k) ≡ Some y → HoldsNone y
  unfolding stream_state_due
  standing_none stream Pr k y one is =
      slots_none (lane_in port stream Pr) (port_keys h port (lane_in port stream Pr)) k y one is
  standing_none stream Npr k y one is =
      slots_none (lane_in port stream Npr) (port_keys h port (lane_in port stream Npr)) k y one is
  standing_none stream Cpl k y one is =
      slots_none (lane_in port stream Cpl) (port_keys h port (lane_in port stream Cpl)) k y one is

-- ---- the unit is the packet

-- the packet alone, if a unit was accepted
abbrev pub IsAlone : Packet → PacketOutcome → Type 0
IsAlone p (Accepted draw unit packets) = packets ≡ p ∷ []
IsAlone p t = Unit {0}

module _ (x : StreamState) (p : Packet) where
  abbrev slot_of : Option LiveKey
  slot_of = live_in (slot_in_set (at_sub x.rx p.prefix.sub).slots p.prefix.k)

  keyed_alone : (y : LiveKey) (a b m c : Bool) → HoldsNone y
      → IsAlone p (if a then Failed fail.Unit else if m then outcome_of_checks b c y p else Held y.draw (y.units + 1))
  keyed_alone y true b m c none = tt
  keyed_alone y false b false c none = tt
  keyed_alone y false false true c none = tt
  keyed_alone y false true true false none = tt
  keyed_alone y false true true true none = ap (λ (ps : List Packet). ps ++ p ∷ []) none

  under_alone : (aggregation : ℕ) (closed : Bool) (one other : Option LiveKey)
      → ((y : LiveKey) → one ≡ Some y → HoldsNone y) → IsAlone p
      (stream_outcome_by_keys aggregation closed x.rx p one other)
  under_alone aggregation closed None None none = tt
  under_alone aggregation closed None (Some y) none = tt
  under_alone aggregation closed (Some y) other none =
      keyed_alone y (holds_any other || (not p.prefix.m && nat_le aggregation (length y.packets + 1)))
      (is_tagged closed (at_sub x.rx p.prefix.sub).total y p) p.prefix.m
      (is_allowed x.rx p.prefix.sub (y.packets ++ p ∷ [])) (none y refl)

  failed_alone : (b : Bool) (t : PacketOutcome) → IsAlone p t → IsAlone p (if b then Insecure else t)
  failed_alone true t is = tt
  failed_alone false t is = is

  pub taken_alone : (aggregation : ℕ) (closed : Bool) → ((y : LiveKey) → slot_of ≡ Some y → HoldsNone y)
      → IsAlone p (stream_outcome aggregation closed x p)
  taken_alone aggregation closed none =
      failed_alone x.failed _
      (under_alone aggregation closed slot_of (live_in (slot_in_set (at_sub x.rx p.prefix.sub).slots (not p.prefix.k)))
      none)

-- ---- it is no longer than one may be

small_size : (b : Bool) (n : ℕ) → n < 1024 → body_size b n ≤ 4096
small_size b n less = grind (arith, nat_tests)

small_head : (h : HeadView) → head_length h ≤ 16
small_head h = grind arith

pub short_tlp : (p : Packet) (plain : List ℕ) → FitsPacket p → length plain ≡ length p.body
    → length (p.head ++ plain) ≤ most_bytes
short_tlp p plain fits same = elim fits.carries [
  | inl c ↦
      let head : length p.head ≡ head_length c.head = ap length c.spells.spelled ∙ head_sized c.head c.spells.fits in
      let small = small_head c.head in
      let body = small_size c.head.has_payload c.head.lead.length c.spells.fits.lead.length in
      omega (arith, length-append p.head plain, head, small, body, c.size, same)
  | inr s ↦
      let head : length p.head ≡ 12 = ap length s.head in
      let body : length p.body ≡ 0 = ap length s.body in
      omega (arith, length-append p.head plain, head, body, same)
]
