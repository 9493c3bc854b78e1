-- Each TLP that was accepted at an end of a hop reads as a TLP of its sub-stream: its packet was cut so, and its
-- payload in plain has as many bytes as in ciphertext.
use Rattle.law_sealing.proofs.Terms.{◌≡◌, ℕ, ◌<◌, ◌≤◌, ◌+◌, Bool, true, false, List, [], ◌∷◌, ◌++◌, length, drop, take}
use Rattle.law_sealing.proofs.Terms.{Ok, ap, sym, subst, ◌∙◌, arith, inl, inr, if◌then◌else◌, All, cases_Bool}
use Rattle.law_sealing.proofs.Terms.{AllByRecursion, length-append, length-drop, slice_index, All-nil, Packet}
use Rattle.law_sealing.proofs.Terms.{FitsPacket, is_sync_packet, begins_sync, encrypted_bytes, Tlp, header, read_of}
use Rattle.law_sealing.proofs.Terms.{read_spells_tlp, class_of, masked-bytes, length-open_of, Plan, History, Event}
use Rattle.law_sealing.proofs.Terms.{PortName, UnitName, Accepted, CauseLaw, accepted_by, iv_of, key_of, received_in}
use Rattle.law_sealing.proofs.Terms.{packets_in_hold, arrived_packet, packet_that_came, is_same_port, slice_get, Some}
use Rattle.law_sealing.proofs.Terms.{Effect}
unfoldable use Rattle.law_sealing.proofs.Terms.{open_of}
use Rattle.std.proofs.Common.{zero, suc}
use Rattle.std.proofs.lemmas.List.Elements.{All-append, All-take, All-drop}
use Rattle.std.proofs.lemmas.List.{length-take-le}
use Rattle.tlp_layout.specs.Tlp.{with_payload}
use Rattle.ide_prefix.specs.Packet.{IsSync}
use Rattle.ide_prefix.proofs.Grammar.{sync_begins}
use Rattle.spec_links.specs.Hops.{HopTlp, tlps_with, clears_hop}
unfoldable use Rattle.spec_links.specs.Hops.{accepted_tlps_in_list}
use Rattle.spec_links.specs.Memory.{accepted_tlps, plain_of, unit_ended}
use Rattle.spec_links.specs.Terms.{Reset}
use Rattle.event_verdicts.specs.declared.verdict.Verdict.TheVariants as v
use Rattle.law_delivery.proofs.Received.{came_fits, held_fits}
use Rattle.law_reads.proofs.Taken.{tlps_of, here_after, taken_accepted}

pub record ReadsAs (x : HopTlp) : Type 0 where
  pub tlp : Tlp
  pub reads : read_of x.bytes ≡ Ok tlp
  pub class : class_of (header tlp) ≡ x.sub

abbrev IsByte : ℕ → Type 0
IsByte b = b < 256

-- a packet that is no sync packet, with this payload
one_reads : (p : Packet) (payload : List ℕ) → FitsPacket p → is_sync_packet p ≡ false → length payload ≡ length p.body
    → All IsByte payload → ReadsAs (record { sub = p.prefix.sub; bytes = p.head ++ payload; t = p.prefix.t })
one_reads p payload fits plain size bytes = elim fits.carries [
  | inl c ↦ record {
    tlp = with_payload c.head payload;
    reads = (read_spells_tlp (with_payload c.head payload) (p.head ++ payload)).0 (record {
      fits = record { head = c.spells.fits; size = size ∙ c.size; bytes = bytes };
      spelled = ap (λ (front : List ℕ). front ++ payload) c.spells.spelled;
    });
    class = c.class;
  }
  | inr s ↦ absurd (no_sync s)
]
  where
    no_sync : IsSync p → ⊥
    no_sync s =
        let begins : is_sync_packet p ≡ true = ap (λ (front : List ℕ). begins_sync p.prefix.sub
        (slice_index front 0)) s.head
        ∙ sync_begins p.prefix.sub s.sub in
        cc (begins, plain)

tlps_read : (plain : List ℕ) (ps : List Packet) → AllByRecursion FitsPacket ps
    → length (encrypted_bytes ps) ≤ length plain → All IsByte plain → AllByRecursion ReadsAs (tlps_with plain ps)
tlps_read plain [] fits size bytes = tt
tlps_read plain (p ∷ ps) fits size bytes =
    let n = length p.body in
    let sizes : n + length (encrypted_bytes ps) ≤ length plain = omega
    (arith, size, length-append p.body (encrypted_bytes ps)) in
    let least : n ≤ length plain = omega (arith, sizes) in
    let behind : length (encrypted_bytes ps) ≤ length (drop n plain) = omega (arith, sizes, length-drop n plain) in
    let later = tlps_read (drop n plain) ps fits.1 behind (All-drop IsByte n plain bytes) in
    elim (cases_Bool (is_sync_packet p)) [
      | inl sync ↦ rw sync later
      | inr carries ↦ rw carries (
        one_reads p (take n plain) fits.0 carries (length-take-le n plain least) (All-take IsByte n plain bytes),
        later,
      )
    ]

-- ---- the packets of a unit

bodies : (ps : List Packet) → AllByRecursion FitsPacket ps → All IsByte (encrypted_bytes ps)
bodies [] fits = All-nil IsByte
bodies (p ∷ ps) fits = All-append IsByte p.body (encrypted_bytes ps) fits.0.body (bodies ps fits.1)

pub plain_bytes : (plan : Plan) (port : PortName) (unit : UnitName) (ps : List Packet) → AllByRecursion FitsPacket ps
    → All IsByte (plain_of plan port unit ps)
unfolding open_of
plain_bytes plan port unit ps fits = masked-bytes _ _ 0 (encrypted_bytes ps) (bodies ps fits)

pub snoc_fits : (ps : List Packet) (p : Packet) → AllByRecursion FitsPacket ps → FitsPacket p
    → AllByRecursion FitsPacket (ps ++ p ∷ [])
snoc_fits [] p fits last = (last, tt)
snoc_fits (q ∷ ps) p fits last = (fits.0, snoc_fits ps p fits.1 last)

pub unit_fits : (plan : Plan) (h : History) (e : Event) (port : PortName) (unit : UnitName) (effects : List Effect)
    → CauseLaw plan ((e, Accepted port unit effects) ∷ h) → AllByRecursion FitsPacket (unit_ended plan h e port unit)
unit_fits plan h e port unit effects cause =
    let by = accepted_by plan h e port unit effects cause.0 in
    snoc_fits (packets_in_hold plan h (received_in port unit) unit.draw unit.unit) (arrived_packet plan h e)
    (held_fits plan h cause.1 (received_in port unit) unit.draw unit.unit)
    (subst FitsPacket (sym (packet_that_came plan h e port by.packet by.came))
    (came_fits plan h e port by.packet by.came))

unit_reads : (plan : Plan) (h : History) (e : Event) (port : PortName) (unit : UnitName) (effects : List Effect)
    → CauseLaw plan ((e, Accepted port unit effects) ∷ h)
    → AllByRecursion ReadsAs (tlps_of plan port unit (unit_ended plan h e port unit))
unit_reads plan h e port unit effects cause =
    let ps = unit_ended plan h e port unit in
    let fits = unit_fits plan h e port unit effects cause in
    let size = length-open_of (key_of plan unit.draw (received_in port unit)) (iv_of unit.sub unit.unit)
    (encrypted_bytes ps) in
    tlps_read (plain_of plan port unit ps) ps fits (omega (arith, size)) (plain_bytes plan port unit ps fits)

-- ---- all that were taken

all_append : (xs ys : List HopTlp) → AllByRecursion ReadsAs xs → AllByRecursion ReadsAs ys
    → AllByRecursion ReadsAs (xs ++ ys)
all_append [] ys one two = two
all_append (x ∷ xs) ys one two = (one.0, all_append xs ys one.1 two)

if_all : (b : Bool) (xs ys : List HopTlp) → AllByRecursion ReadsAs xs → AllByRecursion ReadsAs ys
    → AllByRecursion ReadsAs (if b then xs else ys)
if_all true xs ys one two = one
if_all false xs ys one two = two

pub taken_read : (plan : Plan) (h : History) → CauseLaw plan h → (link : ℕ) (end : PortName)
    → AllByRecursion ReadsAs (accepted_tlps plan h link end)
unfolding accepted_tlps_in_list
taken_read plan [] cause link end = tt
taken_read plan ((e, Accepted port unit effects) ∷ h) cause link end =
    let before = taken_read plan h cause.1 link end in
    subst (AllByRecursion ReadsAs) (sym (taken_accepted plan h e port unit effects cause link end))
    (if_all (is_same_port port end) _ _
    (all_append (accepted_tlps plan h link end) _ before (unit_reads plan h e port unit effects cause)) before)
taken_read plan ((Reset k ends, v.Reset l) ∷ h) cause link end =
    if_all (clears_hop ends link) [] _ tt
    (subst (AllByRecursion ReadsAs) (sym (here_after plan h (Reset k ends) (v.Reset l) cause link end))
    (taken_read plan h cause.1 link end))
taken_read plan ((e, w) ∷ h) cause link end =
    subst (AllByRecursion ReadsAs) (sym (here_after plan h e w cause link end)) (taken_read plan h cause.1 link end)

pub read_at : (xs : List HopTlp) (n : ℕ) (x : HopTlp) → AllByRecursion ReadsAs xs → slice_get xs n ≡ Some x → ReadsAs x
read_at [] n x all is = absurd cc
read_at (y ∷ xs) zero x all is = let same : y ≡ x = cc (is) in subst ReadsAs same all.0
read_at (y ∷ xs) (suc n) x all is = read_at xs n x all.1 is
