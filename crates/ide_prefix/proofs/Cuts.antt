-- The reading of packets is that of the grammar: the lengths of a packet's parts are read from its prefix and its
-- header, and cutting by them gives the parts back, so the law of readings of `ide_types` holds.
use Rattle.std.proofs.Common.{◌≡◌, ℕ, ◌≤◌, Bool, true, false, cond, List, ◌++◌, length, get_or, take, drop, Result, Ok}
use Rattle.std.proofs.Common.{Err, refl, sym, ap, subst, ◌∙◌, inl, inr, arith, true≢false}
use Rattle.std.specs.Prelude.{◌↔◌, IfOk, IfErr, MatchResult}
use Rattle.std.proofs.Math.Seq.{drop-append_seam, take-append_seam}
use Rattle.std.proofs.lemmas.Bool.{cases_Bool}
use Rattle.std.proofs.lemmas.List.{get_or_append_left}
use Rattle.ide_types.specs.Walks.{whole_reading}
use Rattle.ide_types.proofs.Walks.{reads_iff, refuses_iff as refused}
use Rattle.tlp_layout.specs.{class_of, body_size, head_size, head_of, rest_size, layout_of}
use Rattle.ide_prefix.specs.declared.packet.Prefix.{Prefix}
use Rattle.ide_prefix.specs.declared.fault.PacketFault.{PacketFault}
use Rattle.ide_prefix.specs.Packet.{packet_bytes, begins_sync, is_sync_packet, IsCarried, IsSync}
use Rattle.ide_prefix.specs.Packet.{FitsPacket, SpellsPacket, IsPacket}
use Rattle.ide_prefix.specs.Causes.{is_plain, packet_fault_at}
use Rattle.ide_prefix.specs.Faults.{IsPacketFault}
use Rattle.ide_prefix.specs.Reading.{sync_at, packet_read, wants_packet, packet_may_follow, CutValue, PlainTlp}
use Rattle.ide_prefix.specs.Reading.{IdePacket, head_part, body_part, cut_of}
use Rattle.ide_prefix.specs.Cut.{packet_of_view, cut_value, cut_values, IsCut}
use Rattle.tlp_layout.specs.Reading.{read_head_of}
use Rattle.tlp_layout.proofs.Readings.{read_head_spells}
use Rattle.ide_prefix.specs.declared.packet.Cut.{Cut}
use Rattle.ide_prefix.specs.declared.packet.Cut.TheVariants.{Plain, Ide}
use Rattle.ide_prefix.proofs.Units.{not_sync}
use Rattle.ide_prefix.proofs.Grammar.{packets, prefix_again, sync_is, sync_begins}
use Rattle.ide_prefix.proofs.Terms.{HeadView, IsRight, kept, again, head_size_at_least, head_size_at_most, body_at_most}
use Rattle.ide_prefix.proofs.Terms.{Packet}

-- ---- the value of what is spelled

carried_right : (p : Packet) (c : IsCarried p) → IsRight (layout_of c.head.fields) p.head
carried_right p c = subst (IsRight (layout_of c.head.fields)) (sym c.spells.spelled) (kept c.head c.spells.fits)

head_first : (p : Packet) (c : IsCarried p) (more : List ℕ) → get_or (p.head ++ more) 0 0 ≡ get_or p.head 0 0
head_first p c more = get_or_append_left p.head more 0 0
    (omega (arith, (carried_right p c).size, head_size_at_least (get_or p.head 0 0)))

carried_plain : (p : Packet) (c : IsCarried p) → begins_sync p.prefix.sub (get_or p.head 0 0) ≡ false
carried_plain p c = not_sync p.prefix.sub c.head (get_or p.head 0 0) (carried_right p c).kind c.class

sync_begun : (p : Packet) → IsSync p → begins_sync p.prefix.sub (get_or p.head 0 0) ≡ true
sync_begun p y = ap (λ (h : List ℕ). begins_sync p.prefix.sub (get_or h 0 0)) y.head ∙ sync_begins p.prefix.sub y.sub

abbrev HasParts : Packet → Type 0
HasParts p = (head_part (packet_bytes p) ≡ length p.head) × (body_part (packet_bytes p) ≡ length p.body)

carried_parts : (p : Packet) → IsCarried p → HasParts p
carried_parts p c =
    let more = p.body ++ p.tag in
    let k = layout_of c.head.fields in
    let first = head_first p c more in
    let off : sync_at (packet_bytes p) ≡ false = sync_is p.prefix (p.head ++ more) ∙ ap (begins_sync p.prefix.sub) first
    ∙ carried_plain p c in
    let same : head_of k (p.head ++ more) ≡ c.head = ap (λ (h : List ℕ). head_of k (h ++ more)) c.spells.spelled ∙ again
    c.head more c.spells.fits in
    let wants : rest_size (p.head ++ more) ≡ body_size c.head.has_payload c.head.lead.length = ap
    (λ (h : HeadView). body_size h.has_payload h.lead.length) same in (
      ap (λ (y : Bool). cond y 12 (head_size (get_or (p.head ++ more) 0 0))) off ∙ ap head_size first ∙ sym
          (carried_right p c).size,
      ap (λ (y : Bool). cond y 0 (rest_size (p.head ++ more))) off ∙ wants ∙ sym c.size,
    )

sync_parts : (p : Packet) → IsSync p → HasParts p
sync_parts p y =
    let more = p.body ++ p.tag in
    let first : get_or (p.head ++ more) 0 0 ≡ get_or p.head 0 0 = get_or_append_left p.head more 0 0
    (omega (arith, ap length y.head)) in
    let on : sync_at (packet_bytes p) ≡ true = sync_is p.prefix (p.head ++ more) ∙ ap (begins_sync p.prefix.sub) first ∙
    sync_begun p y in (
      ap (λ (x : Bool). cond x 12 (head_size (get_or (p.head ++ more) 0 0))) on ∙ sym (ap length y.head),
      ap (λ (x : Bool). cond x 0 (rest_size (p.head ++ more))) on ∙ sym (ap length y.body),
    )

has_parts : (p : Packet) → FitsPacket p → HasParts p
has_parts p f = elim f.carries [ inl c ↦ carried_parts p c | inr y ↦ sync_parts p y ]

abbrev Packet-of : Prefix → List ℕ → List ℕ → List ℕ → Packet
Packet-of p h b t = record { prefix = p; head = h; body = b; tag = t }

packet_is : (p p' : Prefix) (h h' b b' t t' : List ℕ) → p ≡ p' → h ≡ h' → b ≡ b' → t ≡ t' → Packet-of p h b t
    ≡ Packet-of p' h' b' t'
packet_is p p' h h' b b' t t' ep eh eb et = cc

cut_parts : (h b t : List ℕ) (n m : ℕ) → n ≡ length h → m ≡ length b
    → (take n (h ++ (b ++ t)) ≡ h) × (take m (drop n (h ++ (b ++ t))) ≡ b) × (drop m (drop n (h ++ (b ++ t))) ≡ t)
cut_parts h b t n m en em =
    let rest : drop n (h ++ (b ++ t)) ≡ b ++ t = rw en (drop-append_seam h (b ++ t)) in (
      rw en (take-append_seam h (b ++ t)),
      ap (take m) rest ∙ rw em (take-append_seam b t),
      ap (drop m) rest ∙ rw em (drop-append_seam b t),
    )

packet_again : (p : Packet) → FitsPacket p → packet_read (packet_bytes p) ≡ p
packet_again p f =
    let sizes = has_parts p f in
    let parts = cut_parts p.head p.body p.tag (head_part (packet_bytes p)) (body_part (packet_bytes p)) sizes.0 sizes.1
    in
    packet_is _ p.prefix _ p.head _ p.body _ p.tag
    (prefix_again p.prefix.m p.prefix.k p.prefix.t p.prefix.sub p.prefix.stream p.prefix.posted
    (p.head ++ (p.body ++ p.tag))) parts.0 parts.1 parts.2

packet_value : (p : Packet) (s : List ℕ) → SpellsPacket p s → packet_read s ≡ p
packet_value p s sp = ap packet_read sp.spelled ∙ packet_again p sp.fits

pub same_packet : (p q : Packet) (s : List ℕ) → SpellsPacket p s → SpellsPacket q s → p ≡ q
same_packet p q s a b = sym (packet_value p s a) ∙ packet_value q s b

-- ---- a header of a TLP, or a sync packet

pub sync_iff : (p : Packet) → FitsPacket p → (is_sync_packet p ≡ true) ↔ (IsSync p)
sync_iff p f = (
  λ e. elim f.carries [
    | inl c ↦ absurd (true≢false (sym e ∙ carried_plain p c))
    | inr y ↦ y
  ],
  sync_begun p,
)

pub carries_head : (p : Packet) → FitsPacket p → is_sync_packet p ≡ false
    → (h : HeadView) × (read_head_of p.head ≡ Ok h) × (class_of h ≡ p.prefix.sub)
    × (length p.body ≡ body_size h.has_payload h.lead.length)
carries_head p f e = elim f.carries [
  | inl c ↦ (c.head, (read_head_spells c.head p.head).0 c.spells, c.class, c.size)
  | inr y ↦ absurd (true≢false (sym (sync_begun p y) ∙ e))
]

pub bounded : (p : Packet) → FitsPacket p → (12 ≤ length p.head) × (length p.head ≤ 16) × (length p.body ≤ 4096)
bounded p f = elim f.carries [
  | inl c ↦
      let size = (carried_right p c).size in (
        omega (arith, size, head_size_at_least (get_or p.head 0 0)),
        omega
            (arith, size, head_size_at_most (get_or p.head 0 0)),
        omega
            (arith, c.size, body_at_most c.head.has_payload c.head.lead.length c.spells.fits.lead.length),
      )
  | inr y ↦ (omega (arith, ap length y.head), omega (arith, ap length y.head), omega (arith, ap length y.body))
]

-- ---- the reading

not_plain : (p : Packet) (s : List ℕ) → SpellsPacket p s → is_plain s ≡ false
not_plain p s sp = ap is_plain sp.spelled

cut_plain : (s : List ℕ) → is_plain s ≡ true → cut_of s ≡ Ok PlainTlp
unfolding cut_of
cut_plain s e = rw e refl

abbrev value_in : List ℕ → CutValue
value_in s = IdePacket (packet_read s)

cut_ide : (s : List ℕ) → is_plain s ≡ false
    → cut_of s ≡ whole_reading wants_packet packet_may_follow value_in packet_fault_at s
unfolding cut_of
cut_ide s e = rw e refl

-- a value that is read is a packet's
abbrev SpellsValue : CutValue → List ℕ → Type 0
SpellsValue PlainTlp s = ⊥
SpellsValue (IdePacket p) s = SpellsPacket p s

value_is : (v : CutValue) (s : List ℕ) → SpellsValue v s → IsPacket s × (value_in s ≡ v)
value_is PlainTlp s sp = absurd sp
value_is (IdePacket p) s sp =
    (record { packet = p; spells = sp }, ap (λ (x : Packet). IdePacket x) (packet_value p s sp))

reads_value : (v : CutValue) (s : List ℕ) → (SpellsValue v s) ↔
    (whole_reading wants_packet packet_may_follow value_in packet_fault_at s ≡ Ok v)
reads_value = reads_iff packets value_in packet_fault_at SpellsValue (λ s x. (IdePacket x.packet, x.spells)) value_is

pub plain_iff : (s : List ℕ) → (is_plain s ≡ true) ↔ (cut_of s ≡ Ok PlainTlp)
plain_iff s = (
  cut_plain s,
  λ e. elim (cases_Bool (is_plain s)) [
    | inl yes' ↦ yes'
    | inr no' ↦ absurd ((reads_value PlainTlp s).1 (sym (cut_ide s no') ∙ e))
  ],
)

pub cuts_iff : (p : Packet) (s : List ℕ) → (SpellsPacket p s) ↔ (cut_of s ≡ Ok (IdePacket p))
cuts_iff p s = (
  λ sp. cut_ide s (not_plain p s sp) ∙ (reads_value (IdePacket p) s).0 sp,
  λ e. elim (cases_Bool (is_plain s)) [
    | inl yes' ↦ let wrong : Ok PlainTlp ≡ Ok (IdePacket p) = sym (cut_plain s yes') ∙ e in absurd cc
    | inr no' ↦ (reads_value (IdePacket p) s).1 (sym (cut_ide s no') ∙ e)
  ],
)

pub refuses_iff : (f : PacketFault) (s : List ℕ) → (IsPacketFault s f) ↔ (cut_of s ≡ Err f)
refuses_iff f s = (
  λ p. cut_ide s p.0 ∙ (refused packets value_in packet_fault_at f s).0 p.1,
  λ e. elim (cases_Bool (is_plain s)) [
    | inl yes' ↦ let wrong : Ok PlainTlp ≡ Err f = sym (cut_plain s yes') ∙ e in absurd cc
    | inr no' ↦ (no', (refused packets value_in packet_fault_at f s).1 (sym (cut_ide s no') ∙ e))
  ],
)

-- ---- what `cut` answers

pub cut_again : (s : List ℕ) (r : Result Cut PacketFault) → IfOk r (IsCut s) → IfErr r (IsPacketFault s) → (p : Packet)
    → SpellsPacket p s → MatchResult r (λ c. cut_value c ≡ IdePacket p) (λ _. ⊥)
cut_again s (Ok Plain) ok err p sp = absurd (true≢false (sym ok ∙ not_plain p s sp))
cut_again s (Ok (Ide v)) ok err p sp = ap (λ (x : Packet). IdePacket x) (same_packet (packet_of_view v) p s ok.0 sp)
cut_again s (Err f) ok err p sp = err.1.1.not_spelled (record { packet = p; spells = sp })

pub cut_is : (s : List ℕ) (r : Result Cut PacketFault) → IfOk r (IsCut s) → IfErr r (IsPacketFault s) → cut_values r
    ≡ cut_of s
cut_is s (Ok Plain) ok err = sym (cut_plain s ok)
cut_is s (Ok (Ide v)) ok err = sym ((cuts_iff (packet_of_view v) s).0 ok.0)
cut_is s (Err f) ok err = sym ((refuses_iff f s).0 err)
