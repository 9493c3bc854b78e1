-- A completion that a host's port accepts brings the bytes that its device's memory held at the response.
use Rattle.law_sealing.proofs.Terms.{◌≡◌, ℕ, ◌+◌, zero, suc, Bool, true, false, List, [], ◌∷◌, ◌++◌, length}
use Rattle.law_sealing.proofs.Terms.{length-append, take, slice_get, filter, map, Some, ap, sym, subst, ◌∙◌, arith}
use Rattle.law_sealing.proofs.Terms.{
  if◌then◌else◌,
  Plan,
  SubStream,
  History,
  Event,
  Verdict,
  Sealed,
  Accepted,
  UnitName,
}
use Rattle.law_sealing.proofs.Terms.{Effect, SealedPacket, Packet, Prefix, PortName, received_in, sent_packets}
use Rattle.law_sealing.proofs.Terms.{CauseLaw, SealedList, sealed_packets, sub_stream_of, open_unit}
use Rattle.law_sealing.proofs.Terms.{encrypted_bytes, masked_bytes, iv_of, key_of, units, is_sealed_under, append-nil}
unfoldable use Rattle.law_sealing.proofs.Terms.{sub_stream_packets}
use Rattle.std.proofs.Math.Seq.{take-append_seam}
use Rattle.std.proofs.lemmas.Option.{slice_get_within}
use Rattle.ide_types.specs.Fits.{FitsPlan}
use Rattle.spec_interfaces.specs.Sites.{Site}
use Rattle.spec_interfaces.specs.Devices.{runs_at}
use Rattle.spec_links.proofs.Terms.{Access}
use Rattle.spec_links.specs.History.{prefix_of}
use Rattle.spec_links.specs.Memory.{unit_ended}
use Rattle.spec_links.specs.Terms.{completion_bytes}
use Rattle.law_key_facts.proofs.Draws.{draws}
use Rattle.law_sealing.proofs.OfPlans.{streams_fit}
use Rattle.law_sealing.proofs.Sums.{in_parts}
use Rattle.law_sealing.proofs.Places.{placed, unit_is}
use Rattle.law_reads.proofs.ByNumber.{IsBehind, behind_earlier}
use Rattle.law_delivery.specs.NoForgeryUnder.{UnitIsUnforged}
use Rattle.law_memory.proofs.Found.{cause_at, get_behind}
use Rattle.law_memory.proofs.Origins.{sent_at}
use Rattle.law_bytes.proofs.SealedBy.{sealed_before}
use Rattle.law_bytes.proofs.ByteOrigins.{is_within}
use Rattle.law_bytes.proofs.Parts.{part_opens}
use Rattle.script_events.specs.declared.event.AccessEvent.TheVariants as ae
use Rattle.law_device_reads.specs.DeviceReads.{IsResponse, unit_before}
use Rattle.law_device_reads.specs.Origins.{place_got, payload_at, WasResponded, BringsShown, AcceptsShown}
use Rattle.law_device_reads.specs.Origins.{ResponseOriginLaw}
use Rattle.law_device_reads.proofs.Oldest.{one_of}
use Rattle.law_device_reads.proofs.Asked.{answered_in_run}

-- ---- a packet among those of its sub-stream and draw

-- those before it, it, and those behind it
parts_at : (s : SubStream) (j : ℕ) (xs : SealedList) (place : ℕ) (y : SealedPacket × Packet)
    → slice_get xs place ≡ Some y → is_sealed_under s j y ≡ true → (rest : List Packet)
    × (sub_stream_packets xs s j ≡ sub_stream_packets (take place xs) s j ++ y.1 ∷ rest)
unfolding sub_stream_packets
parts_at s j [] place y at under = absurd cc
parts_at s j (x ∷ xs) zero y at under =
    let same : y ≡ x = cc (at) in
    let first : is_sealed_under s j x ≡ true = ap (is_sealed_under s j) (sym same) ∙ under in (
      sub_stream_packets xs s j,
      rw first (ap (λ (z : SealedPacket × Packet). z.1 ∷ sub_stream_packets xs s j) (sym same)),
    )
parts_at s j (x ∷ xs) (suc place) y at under =
    let later = parts_at s j xs place y at under in
    (later.0, by (is_sealed_under s j x) later.0 later.1)
  where
    by : (b : Bool) (rest : List Packet)
        → sub_stream_packets xs s j ≡ sub_stream_packets (take place xs) s j ++ y.1 ∷ rest
        → map (λ (z : SealedPacket × Packet). z.1)
        (if b then x ∷ filter (is_sealed_under s j) xs else filter (is_sealed_under s j) xs)
        ≡ map (λ (z : SealedPacket × Packet). z.1)
        (if b then x ∷ filter (is_sealed_under s j) (take place xs) else filter (is_sealed_under s j) (take place xs))
        ++ y.1 ∷ rest
    by true rest is = ap (λ (ps : List Packet). x.1 ∷ ps) is
    by false rest is = is

behind_since : (plan : Plan) (since g : History) (xs : SealedList) → IsBehind plan (since ++ g) xs → IsBehind plan g xs
behind_since plan [] g xs behind = behind
behind_since plan ((e, w) ∷ since) g xs behind =
    behind_since plan since g xs (behind_earlier plan (since ++ g) e w xs behind)

-- what was sealed before a history is the front of all
front_of : (plan : Plan) (h : History) (e : Event) (w : Verdict) (since g : History) → since ++ (e, w) ∷ g ≡ h
    → take (length (sealed_packets plan g)) (sealed_packets plan h) ≡ sealed_packets plan g
front_of plan h e w since g is =
    let whole : IsBehind plan (since ++ (e, w) ∷ g) (sealed_packets plan h) =
    ([], append-nil (sealed_packets plan (since ++ (e, w) ∷ g)) ∙ ap (sealed_packets plan) is) in
    let behind = behind_earlier plan g e w (sealed_packets plan h)
    (behind_since plan since ((e, w) ∷ g) (sealed_packets plan h) whole) in
    ap (take (length (sealed_packets plan g))) (sym behind.1) ∙ take-append_seam (sealed_packets plan g) behind.0

-- ---- packet n of a unit

module _ (plan : Plan) (whole : FitsPlan plan) (h : History) (e : Event) (end : PortName) (unit : UnitName)
    (effects : List Effect) (cause : CauseLaw plan ((e, Accepted end unit effects) ∷ h))
    (forged : UnitIsUnforged plan h e (Accepted end unit effects)) (x : Site) (n : ℕ) (p : Packet)
    (stands : slice_get (unit_ended plan h e end unit) n ≡ Some p) (trusted : p.prefix.t ≡ true)
    (was : WasResponded plan h x (received_in end unit) unit.draw (place_got plan h end unit n)) where
  abbrev s : SubStream
  s = received_in end unit

  abbrev xs : SealedList
  xs = sealed_packets plan h

  abbrev y : SealedPacket × Packet
  y = was.stands.sealed

  abbrev before : List Packet
  before = sub_stream_packets (take was.place xs) s unit.draw

  -- it is that packet, and these were sealed before it
  same : y.1 ≡ p
  same =
      let parts = parts_at s unit.draw xs was.place y was.stands.stands was.stands.under in
      let none : length before ≡ length before + 0 = omega arith in
      let here : slice_get (sent_packets plan h s unit.draw) (place_got plan h end unit n) ≡ Some y.1 =
      (λ i. slice_get (parts.1 i) ((was.stands.number ∙ none) i)) ∙ get_behind before (y.1 ∷ parts.0) 0 in
      one_of (slice_get (sent_packets plan h s unit.draw) (place_got plan h end unit n)) y.1 p here
      (sent_at plan (streams_fit plan whole) (draws plan) h e end unit effects cause forged n p stands)

  first_ones : before ≡ take (place_got plan h end unit n) (sent_packets plan h s unit.draw)
  first_ones =
      let parts = parts_at s unit.draw xs was.place y was.stands.stands was.stands.under in
      sym ((λ i. take (was.stands.number i) (parts.1 i)) ∙ take-append_seam before (y.1 ∷ parts.0))

  -- ---- the response

  abbrev response : IsResponse plan was.older x.link was.ds
  response = was.response

  abbrev pair : Event × Verdict
  pair = (Access (ae.Respond x.link), Sealed was.ds)

  law : CauseLaw plan ((Access (ae.Respond x.link), Sealed was.ds) ∷ was.older)
  law = cause_at plan was.came.since (pair ∷ was.older) h was.came.is cause.1

  place_is : was.place ≡ length (sealed_packets plan was.older)
  place_is =
      let size = ap length response.sealed.stands
      ∙ length-append (sealed_packets plan was.older) ((response.sealed.last, response.sealed.packet) ∷ []) in
      omega (arith, was.from, was.until, size)

  y_is : y ≡ (response.sealed.last, response.sealed.packet)
  y_is =
      let z : SealedPacket × Packet = (response.sealed.last, response.sealed.packet) in
      let older = sealed_packets plan was.older in
      let there = sealed_before plan was.came.since (pair ∷ was.older) was.place y
      (subst (λ (g : History). slice_get (sealed_packets plan g) was.place ≡ Some y) (sym was.came.is)
      was.stands.stands) was.until in
      let none : length older ≡ length older + 0 = omega arith in
      let last : slice_get (sealed_packets plan (pair ∷ was.older)) was.place ≡ Some z =
      (λ i. slice_get (response.sealed.stands i) ((place_is ∙ none) i)) ∙ get_behind older (z ∷ []) 0 in
      one_of (slice_get (sealed_packets plan (pair ∷ was.older)) was.place) y z there last

  taken_is : take was.place xs ≡ sealed_packets plan was.older
  taken_is = ap (λ (k : ℕ). take k xs) place_is
      ∙ front_of plan h (Access (ae.Respond x.link)) (Sealed was.ds) was.came.since was.older was.came.is

  read_trusted : response.of.read.came.trusted ≡ true
  read_trusted =
      let of = placed plan (streams_fit plan whole) (draws plan) h cause.1 was.place y was.stands.stands in
      let prefix : p.prefix ≡ prefix_of y.0 = ap (λ (q : Packet). q.prefix) (sym same) ∙ of.prefix in
      sym response.t_is
      ∙ (sym (ap (λ (z : SealedPacket × Packet). z.0.t) y_is)
      ∙ (sym (ap (λ (f : Prefix). f.t) prefix) ∙ trusted))

  -- ---- what it brings

  payload_is : payload_at plan end unit (unit_ended plan h e end unit) n p ≡ response.sealed.payload
  payload_is =
      let ps = unit_ended plan h e end unit in
      let sealed = response.sealed in
      let within = is_within plan (streams_fit plan whole) (draws plan) h e end unit effects cause forged n
      (slice_get_within ps n p stands) in
      let names = in_parts s unit.draw y was.stands.under in
      let d_is : y.0 ≡ sealed.last = ap (λ (z : SealedPacket × Packet). z.0) y_is in
      let stream : sub_stream_of sealed.last ≡ s = ap sub_stream_of (sym d_is) ∙ names.2 in
      let draw : sealed.last.draw ≡ unit.draw = ap (λ (d : SealedPacket). d.draw) (sym d_is) ∙ names.1 in
      let all = first_ones ∙ within.front in
      let number : sealed.last.unit ≡ unit.unit =
      ap (λ (d : SealedPacket). d.unit) (sym d_is)
      ∙ (unit_is plan xs (placed plan (streams_fit plan whole) (draws plan) h cause.1) was.place y was.stands.stands s
      unit.draw names.2 names.1
      ∙ (ap (λ (qs : List Packet). length (units qs) + 1) all ∙ within.number)) in
      let left : unit_before plan was.older sealed.last ≡ take n ps =
      (λ i. open_unit (sub_stream_packets (sym taken_is i) (stream i) (draw i))) ∙ (ap open_unit all ∙ within.left) in
      part_opens (key_of plan unit.draw s) (iv_of unit.sub unit.unit) ps n p sealed.payload stands
      (ap (λ (q : Packet). q.body) (sym same)
      ∙ (ap (λ (z : SealedPacket × Packet). z.1.body) y_is
      ∙ (sealed.body_is
      ∙ (λ i. masked_bytes (key_of plan (draw i) (stream i)) (iv_of (stream i).sub (number i))
      (length (encrypted_bytes (left i))) sealed.payload))))

  brings : BringsShown plan h e end unit x n p was
  brings =
      let in_run = answered_in_run plan whole was.older x.link was.ds law response.of read_trusted in
      let head = ap (λ (q : Packet). q.head) (sym same) ∙ ap (λ (z : SealedPacket × Packet). z.1.head) y_is in
      record {
        same = same;
        runs = subst (λ (z : Site). runs_at plan was.older z ≡ true) was.by_interface in_run.runs;
        in_run = in_run;
        tlp = (λ i. head i ++ payload_is i)
            ∙ (response.sealed.tlp
            ∙ ap (λ (z : Site). completion_bytes z.plan.requester response.shows.byte response.of.read.read)
            was.by_interface);
      }

-- ---- the law

accepted_shown : (plan : Plan) → FitsPlan plan → (h : History) (e : Event) (end : PortName) (unit : UnitName)
    (effects : List Effect) → CauseLaw plan ((e, Accepted end unit effects) ∷ h)
    → AcceptsShown plan h e (Accepted end unit effects)
accepted_shown plan whole h e end unit effects cause x n p host stream sub stands trusted was forged =
    brings plan whole h e end unit effects cause forged x n p stands trusted was

accepts_shown : (plan : Plan) → FitsPlan plan → (h : History) (e : Event) (w : Verdict) → CauseLaw plan ((e, w) ∷ h)
    → AcceptsShown plan h e w
accepts_shown plan whole h e (Accepted end unit effects) cause = accepted_shown plan whole h e end unit effects cause
accepts_shown plan whole h e w cause = tt

pub response_origin_law : (plan : Plan) → FitsPlan plan → (h : History) → CauseLaw plan h → ResponseOriginLaw plan h
response_origin_law plan whole [] cause = tt
response_origin_law plan whole ((e, w) ∷ h) cause =
    (accepts_shown plan whole h e w cause, response_origin_law plan whole h cause.1)
