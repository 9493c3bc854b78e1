-- Headers: the fields that are read are those that were written, and the other way round. A header is taken in three
-- parts: byte 0, of which all 256 values are tried; bytes 1 to 3, whose fields are sums and remainders; and the fields
-- of its layout, whose numbers come back by the laws of std and of byteorder.
use Rattle.std.proofs.Common.{◌≡◌, ℕ, zero, suc, ◌+◌, ◌*◌, ◌/◌, ◌%◌, ◌^◌, ◌<◌, ◌≤◌, Bool, true, false, cond, ◌&&◌, eqb}
use Rattle.std.proofs.Common.{bit_and, List, [], ◌∷◌, ◌++◌, length, get_or, drop, add-zero, add-suc, suc-add, add-one}
use Rattle.std.proofs.Common.{one-add, Option, Some, None, refl, sym, ap, subst, ◌∙◌, inl, inr, arith}
use Rattle.std.proofs.lemmas.Bool.{not-true, eqb-true, eq-eqb, agree_below_at, cases_lt, and_parts, and_from}
use Rattle.std.proofs.lemmas.Bool.Decides.{nat_tests}
use Rattle.std.proofs.lemmas.List.{get_or_past, drop_more}
use Rattle.std.proofs.lemmas.List.Elements.{All-from_get_or}
use Rattle.std.proofs.lemmas.Nat.{be_bytes_2, be_bytes_4, be_bytes_8}
use Rattle.byteorder.specs.Endian.{big_bytes, big_number}
use Rattle.byteorder.specs.Numbers.{big_from-lt, big_number-reads_back}
use Rattle.ide_types.proofs.Cells.{IsBytes, cells, drop_cells, all_bytes}
use Rattle.tlp_layout.specs.{Layout, Lead, HeadView, Fields, Routing, bit, routing_bits, routing_from, status_bits}
use Rattle.tlp_layout.specs.{completion_status, head_bytes, FitsLead, FitsFields, FitsHead, SpellsHead, is_wide}
use Rattle.tlp_layout.specs.{has_data, head_size, layout_of_byte, is_allowed_byte, reserved_bits, layout_of, head_of}
use Rattle.tlp_layout.specs.Terms.layouts
use Rattle.tlp_layout.specs.declared.head.MemoryFields.{MemoryFields}
use Rattle.tlp_layout.specs.declared.head.ConfigFields.{ConfigFields}
use Rattle.tlp_layout.specs.declared.head.MessageFields.{MessageFields}
use Rattle.tlp_layout.specs.declared.head.CompletionFields.{CompletionFields}
use Rattle.tlp_layout.specs.Terms.{Memory, Config, Message, Completion}
use Rattle.tlp_layout.specs.Head.{type_of, tag_of_fields, address_limit, lead_bytes, address_bytes, field_bytes}
use Rattle.tlp_layout.specs.Inside.{Agrees}
use Rattle.tlp_layout.specs.Reading.{address_read, lead_of, fields_of}
use Rattle.tlp_layout.proofs.Octets.{width_of, clear_3, clear_192, clear_195, clear_240, clear_128}

-- a header of this layout, byte by byte
pub record IsRight (k : Layout) (s : List ℕ) : Type 0 where
  pub fit : IsBytes s
  pub kind : layout_of_byte (get_or s 0 0) ≡ Some k
  pub size : length s ≡ head_size (get_or s 0 0)
  pub agrees : Agrees k s (length s)

-- ---- numbers and their bytes

two_fit : (a b : ℕ) → a < 256 → b < 256 → IsBytes (a ∷ b ∷ [])
two_fit a b p q zero = p
two_fit a b p q (suc zero) = q
two_fit a b p q (suc (suc i)) = omega arith

-- byteorder has no law from bytes to their number and back: std's, one a width
number_2 : (t : List ℕ) → IsBytes t → big_bytes 2 (big_number 2 t) ≡ get_or t 0 0 ∷ get_or t 1 0 ∷ []
number_2 t fit =
    be_bytes_2 (get_or t 0 0 ∷ get_or t 1 0 ∷ []) (big_number 2 t) refl (two_fit _ _ (fit 0) (fit 1)) (omega arith)

address_back : (w : Bool) (t : List ℕ) → IsBytes t → length t ≡ cond w 8 4
    → address_bytes w (cond w (big_number 8 t) (big_number 4 t)) ≡ t
address_back true t fit long = be_bytes_8 t (big_number 8 t) long fit (omega arith)
address_back false t fit long = be_bytes_4 t (big_number 4 t) long fit (omega arith)

number_below : (t : List ℕ) → IsBytes t → big_number 2 t < 2 ^ 16
number_below t fit = big_from-lt 0 2 t fit

address_fits : (w : Bool) (t : List ℕ) → IsBytes t → get_or t (cond w 7 3) 0 % 4 ≡ 0
    → (cond w (big_number 8 t) (big_number 4 t) % 4 ≡ 0) × (cond w (big_number 8 t) (big_number 4 t) < address_limit w)
address_fits true t fit z = (omega arith, big_from-lt 0 8 t fit)
address_fits false t fit z = (omega arith, big_from-lt 0 4 t fit)

number_again : (n : ℕ) → n < 2 ^ 16 → big_number 2 (big_bytes 2 n) ≡ n
number_again n lt = big_number-reads_back 2 n [] lt

-- ---- byte 0

abbrev type_from : Layout → ℕ → ℕ
type_from layouts.Memory b = 0x00
type_from layouts.Config b = 0x04 + bit (eqb (b % 32) 0x05)
type_from layouts.Message b = 0x10 + routing_bits (routing_from (b % 8))
type_from layouts.Completion b = 0x0a

abbrev is_again : Option Layout → ℕ → Bool
is_again None b = true
is_again (Some k) b = eqb (0x40 * bit (has_data b) + 0x20 * bit (is_wide b) + type_from k b) b

first_back : (k : Layout) (b : ℕ) → b < 256 → layout_of_byte b ≡ Some k
    → 0x40 * bit (has_data b) + 0x20 * bit (is_wide b) + type_from k b ≡ b
first_back k b lt kind =
    eqb-true _ _ (sym (ap (λ (o : Option Layout). is_again o b) kind)
    ∙ agree_below_at (λ b. is_again (layout_of_byte b) b) (λ b. true) 256 b refl lt)

-- ---- bytes 1 to 3

second_back : (b1 b2 low : ℕ) → b1 < 256 → b1 % 4 ≡ 0 → low < 256
    → 0x80 * ((512 * (b1 / 128) + 256 * (b1 / 8 % 2) + low) / 512) + 0x10 * (b1 / 16 % 8)
    + 0x08 * ((512 * (b1 / 128) + 256 * (b1 / 8 % 2) + low) / 256 % 2) + 0x04 * ((4 * (b1 / 4 % 2) + b2 / 16 % 4) / 4)
    ≡ b1
second_back b1 b2 low lt z less = omega arith

third_back : (b1 b2 b3 : ℕ) → b2 < 64 → b3 < 256
    → 0x10 * ((4 * (b1 / 4 % 2) + b2 / 16 % 4) % 4) + 0x04 * (b2 / 4 % 4) + (256 * (b2 % 4) + b3) / 256 ≡ b2
third_back b1 b2 b3 lt less = omega arith

low_back : (a b : ℕ) → b < 256 → (256 * a + b) % 256 ≡ b
low_back a b lt = omega arith

tag_back : (b1 low : ℕ) → low < 256 → (512 * (b1 / 128) + 256 * (b1 / 8 % 2) + low) % 256 ≡ low
tag_back b1 low lt = omega arith

tag_fits : (b1 low : ℕ) → b1 < 256 → low < 256 → 512 * (b1 / 128) + 256 * (b1 / 8 % 2) + low < 1024
tag_fits b1 low lt less = omega arith

fits_lead : (s : List ℕ) → IsBytes s → FitsLead (lead_of s)
fits_lead s fit =
    let f3 : get_or s 3 0 < 256 = fit 3 in
    record { tc = omega arith; attr = omega arith; at = omega arith; length = omega arith }

halves_back : (b : ℕ) → 0x10 * (b / 16) + b % 16 ≡ b
halves_back b = omega arith

-- ---- the fields of each layout, from byte 8 on

joined_4 : {xs : List ℕ} {a b c d c' d' : ℕ} → xs ≡ a ∷ b ∷ [] → c ≡ c' → d ≡ d' → xs ++ c ∷ d ∷ [] ≡ a ∷ b ∷ c' ∷ d'
    ∷ []
joined_4 {a = a} {b = b} {c' = c'} {d' = d'} e ec ed = rw (e, ec, ed) refl

config_tail : (t : List ℕ) → IsBytes t → length t ≡ 4 → get_or t 3 0 % 4 ≡ 0 → big_bytes 2 (big_number 2 t)
    ++ ((64 * get_or t 2 0 + get_or t 3 0 / 4) / 64) ∷ (0x04 * ((64 * get_or t 2 0 + get_or t 3 0 / 4) % 64)) ∷ [] ≡ t
config_tail t fit long z =
    let f3 : get_or t 3 0 < 256 = fit 3 in
    let high : (64 * get_or t 2 0 + get_or t 3 0 / 4) / 64 ≡ get_or t 2 0 = omega arith in
    let low : 0x04 * ((64 * get_or t 2 0 + get_or t 3 0 / 4) % 64) ≡ get_or t 3 0 = omega arith in
    joined_4 (number_2 t fit) high low ∙ sym (drop_cells 4 0 t long)

message_tail : (t : List ℕ) → IsBytes t → length t ≡ 8 → big_bytes 2 (big_number 2 t) ++ cells 6 2 t ≡ t
message_tail t fit long = ap (λ (x : List ℕ). x ++ cells 6 2 t) (number_2 t fit) ∙ sym (drop_cells 8 0 t long)

completion_tail : (b1 : ℕ) (t : List ℕ) → IsBytes t → length t ≡ 4 → big_bytes 2 (big_number 2 t)
    ++ ((512 * (b1 / 128) + 256 * (b1 / 8 % 2) + get_or t 2 0) % 256) ∷ (get_or t 3 0) ∷ [] ≡ t
completion_tail b1 t fit long =
    joined_4 (number_2 t fit) (tag_back b1 (get_or t 2 0) (fit 2)) refl ∙ sym (drop_cells 4 0 t long)

-- ---- a right header is spelled by what is read of it

front_cells : (n i : ℕ) (s : List ℕ) → i + n ≤ length s → drop i s ≡ cells n i s ++ drop (i + n) s
front_cells zero i s le = rw add-zero refl
front_cells (suc n) i s le =
    let end : suc i + n ≡ i + suc n = omega arith in
    let next = front_cells n (suc i) s (omega arith) ∙ ap (λ (j : ℕ). cells n (suc i) s ++ drop j s) end in
    drop_more s i 0 (omega arith) ∙ rw add-one (ap (λ (r : List ℕ). get_or s i 0 ∷ r) next)

pub head_size_at_least : (b : ℕ) → 12 ≤ head_size b
head_size_at_least b =
    elim (is_wide b) as (λ (w : Bool). 12 ≤ cond w 16 12) [ true ↦ omega arith | false ↦ omega arith ]

two_and : {a b a' b' : ℕ} {s t : List ℕ} → a ≡ a' → b ≡ b' → s ≡ t → a ∷ b ∷ s ≡ a' ∷ b' ∷ t
two_and ea eb es = cc

bit_is : (x : ℕ) → x < 2 → bit (eqb x 1) ≡ x
bit_is x lt = grind (arith, nat_tests)

status_back : (n : ℕ) → n < 8 → status_bits (completion_status n) ≡ n
status_back n lt =
    eqb-true _ _ (agree_below_at (λ n. eqb (status_bits (completion_status n)) n) (λ n. true) 8 n refl lt)

status_byte_back : (b6 b7 : ℕ) → b6 < 256 → b7 < 256
    → 0x20 * status_bits (completion_status (b6 / 32)) + 0x10 * bit (eqb (b6 / 16 % 2) 1) + (256 * (b6 % 16) + b7) / 256
    ≡ b6
status_byte_back b6 b7 lt less = omega (arith, bit_is (b6 / 16 % 2) (omega arith), status_back (b6 / 32) (omega arith))

-- the places of a header that have bits that are 0
clear_at : (k : Layout) (s : List ℕ) (i : ℕ) → IsRight k s → 0 < i → i < length s
    → eqb (bit_and (reserved_bits k (head_size (get_or s 0 0)) i) (get_or s i 0)) 0 ≡ true
clear_at k s i r pos lt = (and_parts _ _ (r.agrees i pos lt)).0

rest_long : (w : Bool) (n : ℕ) → n + 8 ≡ cond w 16 12 → n ≡ cond w 8 4
rest_long true n e = omega arith
rest_long false n e = omega arith

last_clear : (s : List ℕ) (w : Bool) → IsRight layouts.Memory s → is_wide (get_or s 0 0) ≡ w
    → get_or s (cond w 15 11) 0 % 4 ≡ 0
last_clear s true r wide =
    let long : length s ≡ 16 = r.size ∙ ap (λ (w : Bool). cond w 16 12) wide in
    (clear_3 (get_or s 15 0) (r.fit 15)).0 (rw wide at (clear_at layouts.Memory s 15 r (omega arith) (omega arith)))
last_clear s false r wide =
    let long : length s ≡ 12 = r.size ∙ ap (λ (w : Bool). cond w 16 12) wide in
    (clear_3 (get_or s 11 0) (r.fit 11)).0 (rw wide at (clear_at layouts.Memory s 11 r (omega arith) (omega arith)))

last_in : (w : Bool) (b0 b1 b2 b3 b4 b5 b6 b7 : ℕ) (t : List ℕ)
    → get_or (b0 ∷ b1 ∷ b2 ∷ b3 ∷ b4 ∷ b5 ∷ b6 ∷ b7 ∷ t) (cond w 15 11) 0 ≡ get_or t (cond w 7 3) 0
last_in true b0 b1 b2 b3 b4 b5 b6 b7 t = refl
last_in false b0 b1 b2 b3 b4 b5 b6 b7 t = refl

early_clear : (k : Layout) (size b1 b2 : ℕ) → b1 < 256 → b2 < 256 → is_allowed_byte k size 1 b1 ≡ true
    → is_allowed_byte k size 2 b2 ≡ true → (b1 % 4 ≡ 0) × (b2 < 64)
early_clear layouts.Memory size b1 b2 f1 f2 a1 a2 =
    ((clear_3 b1 f1).0 (and_parts _ _ a1).0, (clear_192 b2 f2).0 (and_parts _ _ a2).0)
early_clear layouts.Config size b1 b2 f1 f2 a1 a2 =
    ((clear_3 b1 f1).0 (and_parts _ _ a1).0, ((clear_195 b2 f2).0 (and_parts _ _ a2).0).0)
early_clear layouts.Message size b1 b2 f1 f2 a1 a2 =
    ((clear_3 b1 f1).0 (and_parts _ _ a1).0, (clear_192 b2 f2).0 (and_parts _ _ a2).0)
early_clear layouts.Completion size b1 b2 f1 f2 a1 a2 =
    ((clear_3 b1 f1).0 (and_parts _ _ a1).0, (clear_192 b2 f2).0 (and_parts _ _ a2).0)

-- the first six bytes come back in each layout; low is the byte of the tag, and x what is written after them
back_by : (k : Layout) (b0 b1 b2 b3 b4 b5 low : ℕ) (r x : List ℕ) → IsRight k (b0 ∷ b1 ∷ b2 ∷ b3 ∷ b4 ∷ b5 ∷ r)
    → low < 256 → type_of (fields_of k (b0 ∷ b1 ∷ b2 ∷ b3 ∷ b4 ∷ b5 ∷ r)) ≡ type_from k b0
    → tag_of_fields (fields_of k (b0 ∷ b1 ∷ b2 ∷ b3 ∷ b4 ∷ b5 ∷ r)) ≡ 512 * (b1 / 128) + 256 * (b1 / 8 % 2) + low
    → field_bytes (is_wide b0) (fields_of k (b0 ∷ b1 ∷ b2 ∷ b3 ∷ b4 ∷ b5 ∷ r))
    ≡ big_bytes 2 (big_number 2 (b4 ∷ b5 ∷ r)) ++ x → x ≡ r
    → FitsFields (lead_of (b0 ∷ b1 ∷ b2 ∷ b3 ∷ b4 ∷ b5 ∷ r)) (fields_of k (b0 ∷ b1 ∷ b2 ∷ b3 ∷ b4 ∷ b5 ∷ r))
    → SpellsHead (head_of k (b0 ∷ b1 ∷ b2 ∷ b3 ∷ b4 ∷ b5 ∷ r)) (b0 ∷ b1 ∷ b2 ∷ b3 ∷ b4 ∷ b5 ∷ r)
back_by k b0 b1 b2 b3 b4 b5 low r x right lt type tag fields rest fit =
    let z = early_clear k _ b1 b2 (right.fit 1) (right.fit 2) (right.agrees 1 (omega arith) (omega arith))
    (right.agrees 2 (omega arith) (omega arith)) in
    let e0 = first_back k b0 (right.fit 0) right.kind in
    let e1 = second_back b1 b2 low (right.fit 1) z.0 lt in
    let e2 = third_back b1 b2 b3 z.1 (right.fit 3) in
    let e3 = low_back (b2 % 4) b3 (right.fit 3) in
    let number = number_2 (b4 ∷ b5 ∷ r) (λ i. right.fit (suc (suc (suc (suc i))))) in
    let behind = fields ∙ ap (λ (l : List ℕ). l ++ x) number ∙ ap (λ (l : List ℕ). b4 ∷ b5 ∷ l) rest in
    record {
      fits = record { lead = fits_lead (b0 ∷ b1 ∷ b2 ∷ b3 ∷ b4 ∷ b5 ∷ r) right.fit; fields = fit };
      spelled = sym
          (rw (type, tag, behind, e0, e1, e2, e3) refl);
    }

back_8 : (k : Layout) (b0 b1 b2 b3 b4 b5 b6 b7 : ℕ) (t : List ℕ) → IsRight k (b0 ∷ b1 ∷ b2 ∷ b3 ∷ b4 ∷ b5 ∷ b6 ∷ b7 ∷ t)
    → length (b0 ∷ b1 ∷ b2 ∷ b3 ∷ b4 ∷ b5 ∷ b6 ∷ b7 ∷ t) ≡ head_size b0 → big_number 2 (b4 ∷ b5 ∷ b6 ∷ b7 ∷ t) < 2 ^ 16
    → IsBytes t
    → SpellsHead (head_of k (b0 ∷ b1 ∷ b2 ∷ b3 ∷ b4 ∷ b5 ∷ b6 ∷ b7 ∷ t)) (b0 ∷ b1 ∷ b2 ∷ b3 ∷ b4 ∷ b5 ∷ b6 ∷ b7 ∷ t)
back_8 layouts.Memory b0 b1 b2 b3 b4 b5 b6 b7 t r size number behind =
    let f7 : b7 < 256 = r.fit 7 in
    let z = sym (last_in (is_wide b0) b0 b1 b2 b3 b4 b5 b6 b7 t) in
    let last = last_clear (b0 ∷ b1 ∷ b2 ∷ b3 ∷ b4 ∷ b5 ∷ b6 ∷ b7 ∷ t) (is_wide b0) r refl in
    let address = address_fits (is_wide b0) t behind (ap (λ (x : ℕ). x % 4) z ∙ last) in
    let tail = address_back (is_wide b0) t behind (rest_long (is_wide b0) (length t) (omega arith)) in
    back_by layouts.Memory b0 b1 b2 b3 b4 b5 b6 _ _ r (r.fit 6) refl refl refl
    (two_and (tag_back b1 b6 (r.fit 6)) (halves_back b7) tail)
    (number, tag_fits b1 b6 (r.fit 1) (r.fit 6), omega arith, omega arith, address.0, address.1)
back_8 layouts.Config b0 b1 b2 b3 b4 b5 b6 b7 t r size number behind =
    let s = b0 ∷ b1 ∷ b2 ∷ b3 ∷ b4 ∷ b5 ∷ b6 ∷ b7 ∷ t in
    let f7 : b7 < 256 = r.fit 7 in
    let wide : is_wide b0 ≡ false = not-true _ (width_of layouts.Config b0 (r.fit 0) r.kind) in
    let long : length s ≡ 12 = size ∙ ap (λ (w : Bool). cond w 16 12) wide in
    let z2 = (clear_195 b2 (r.fit 2)).0 (clear_at layouts.Config s 2 r (omega arith) (omega arith)) in
    let z10 = (clear_240 (get_or t 2 0) (r.fit 10)).0 (clear_at layouts.Config s 10 r (omega arith) (omega arith)) in
    let z11 = (clear_3 (get_or t 3 0) (r.fit 11)).0 (clear_at layouts.Config s 11 r (omega arith) (omega arith)) in
    let one : b3 ≡ 1 = eqb-true _ _
    (and_parts (eqb (bit_and 0 b3) 0) (eqb b3 1) (r.agrees 3 (omega arith) (omega arith))).1 in
    let f11 : get_or t 3 0 < 256 = r.fit 11 in
    let tail = config_tail t behind (omega arith) z11 in
    back_by layouts.Config b0 b1 b2 b3 b4 b5 b6 _ _ r (r.fit 6) refl refl refl
    (two_and (tag_back b1 b6 (r.fit 6)) (halves_back b7) tail) (
      wide,
      omega (arith, z2.1),
      number,
      tag_fits b1 b6 (r.fit 1) (r.fit 6),
      omega arith,
      omega arith,
      number_below t
          behind,
      omega arith,
    )
back_8 layouts.Message b0 b1 b2 b3 b4 b5 b6 b7 t r size number behind =
    let wide : is_wide b0 ≡ true = width_of layouts.Message b0 (r.fit 0) r.kind in
    let long : length t ≡ 8 = rest_long true (length t) (omega (arith, size ∙ ap (λ (w : Bool). cond w 16 12) wide)) in
    let kept : IsBytes (cells 8 0 t) = subst IsBytes (drop_cells 8 0 t long) behind in
    let bytes = All-from_get_or (λ (b : ℕ). b < 256) (cells 6 2 t) 0 (λ i lt. kept (suc (suc i))) in
    back_by layouts.Message b0 b1 b2 b3 b4 b5 b6 _ _ r (r.fit 6) refl refl refl
    (two_and (tag_back b1 b6 (r.fit 6)) refl (message_tail t behind long))
    (wide, number, tag_fits b1 b6 (r.fit 1) (r.fit 6), r.fit 7, number_below t behind, refl, bytes)
back_8 layouts.Completion b0 b1 b2 b3 b4 b5 b6 b7 t r size number behind =
    let s = b0 ∷ b1 ∷ b2 ∷ b3 ∷ b4 ∷ b5 ∷ b6 ∷ b7 ∷ t in
    let f6 : b6 < 256 = r.fit 6 in
    let f7 : b7 < 256 = r.fit 7 in
    let wide : is_wide b0 ≡ false = not-true _ (width_of layouts.Completion b0 (r.fit 0) r.kind) in
    let long : length s ≡ 12 = size ∙ ap (λ (w : Bool). cond w 16 12) wide in
    let z11 = (clear_128 (get_or t 3 0) (r.fit 11)).0 (clear_at layouts.Completion s 11 r (omega arith) (omega arith))
    in
    let status = status_back (b6 / 32) (omega arith) in
    let tail = completion_tail b1 t behind (omega arith) in
    back_by layouts.Completion b0 b1 b2 b3 b4 b5 (get_or t 2 0) _ _ r (r.fit 10) refl refl refl
    (two_and (status_byte_back b6 b7 f6 f7) (low_back (b6 % 16) b7 f7) tail) (
      wide,
      number,
      (omega (arith, status), ap completion_status status),
      omega arith,
      number_below t behind,
      tag_fits b1 (get_or t 2 0) (r.fit 1) (r.fit 10),
      z11,
    )

pub back : (k : Layout) (s : List ℕ) → IsRight k s → SpellsHead (head_of k s) s
back k s r =
    let some : 12 ≤ length s = omega (arith, r.size, head_size_at_least (get_or s 0 0)) in
    let is : s ≡ cells 8 0 s ++ drop 8 s = front_cells 8 0 s (omega arith) in
    let right = subst (IsRight k) is r in
    let bytes : IsBytes (drop 8 s) = λ i. right.fit (suc (suc (suc (suc (suc (suc (suc (suc i)))))))) in
    let number = number_below (cells 4 4 s ++ drop 8 s) (λ i. right.fit (suc (suc (suc (suc i))))) in
    subst (λ (x : List ℕ). SpellsHead (head_of k x) x) (sym is)
    (back_8 k _ _ _ _ _ _ _ _ (drop 8 s) right right.size number bytes)

-- ---- what is written is right

-- the bytes from place i on may stand in a header of this layout and size
abbrev FitFrom : Layout → ℕ → ℕ → List ℕ → Type 0
FitFrom k size i [] = Unit {0}
FitFrom k size i (b ∷ bs) = (b < 256) × (is_allowed_byte k size i b ≡ true) × FitFrom k size (suc i) bs

fit_at : (k : Layout) (size i : ℕ) (bs : List ℕ) → FitFrom k size i bs → (j : ℕ) → j < length bs
    → (get_or bs j 0 < 256) × (is_allowed_byte k size (i + j) (get_or bs j 0) ≡ true)
fit_at k size i [] f j lt = absurd (omega arith)
fit_at k size i (b ∷ bs) f zero lt = rw add-zero (f.0, f.1)
fit_at k size i (b ∷ bs) f (suc j) lt = rw add-suc (rw suc-add at (fit_at k size (suc i) bs f.2 j (omega arith)))

bytes_of : (k : Layout) (size : ℕ) (b : ℕ) (bs : List ℕ) → b < 256 → FitFrom k size 1 bs → IsBytes (b ∷ bs)
bytes_of k size b bs lt f zero = lt
bytes_of k size b bs lt f (suc i) = elim (cases_lt i (length bs)) [
  | inl less ↦ (fit_at k size 1 bs f i less).0
  | inr le ↦ rw (get_or_past bs i 0 le) (omega arith)
]

agrees_of : (k : Layout) (b : ℕ) (bs : List ℕ) → FitFrom k (head_size b) 1 bs → (n : ℕ) → n ≤ suc (length bs)
    → Agrees k (b ∷ bs) n
agrees_of k b bs f n le zero pos lt = absurd (omega arith)
agrees_of k b bs f n le (suc i) pos lt = rw one-add at ((fit_at k (head_size b) 1 bs f i (omega arith)).1)

-- flags and Type of byte 0
first_is : (p w : Bool) (t : ℕ) → t < 32
    → (is_wide (0x40 * bit p + 0x20 * bit w + t) ≡ w) × (has_data (0x40 * bit p + 0x20 * bit w + t) ≡ p)
    × (0x40 * bit p + 0x20 * bit w + t < 256)
first_is p w t lt = grind (arith, nat_tests)

-- byte 0, and bytes that may stand after it
right : (k : Layout) (p w : Bool) (t : ℕ) (bs : List ℕ) → layout_of_byte (0x40 * bit p + 0x20 * bit w + t) ≡ Some k
    → t < 32 → suc (length bs) ≡ cond w 16 12 → FitFrom k (cond w 16 12) 1 bs
    → IsRight k ((0x40 * bit p + 0x20 * bit w + t) ∷ bs)
right k p w t bs kind lt long f =
    let n = first_is p w t lt in
    let b = 0x40 * bit p + 0x20 * bit w + t in
    let is : cond w 16 12 ≡ head_size b = sym (ap (λ (w : Bool). cond w 16 12) n.0) in
    let here : FitFrom k (head_size b) 1 bs = subst (λ (n : ℕ). FitFrom k n 1 bs) is f in
    record {
      fit = bytes_of k (head_size b) b bs n.2 here;
      kind = kind;
      size = long ∙ is;
      agrees = agrees_of k b bs here (suc (length bs)) (omega arith);
    }

-- the layout that byte 0 of a header names
memory_kind : (p w : Bool) → layout_of_byte (0x40 * bit p + 0x20 * bit w + 0x00) ≡ Some layouts.Memory
memory_kind p w = grind arith

config_kind : (p one : Bool) → layout_of_byte (0x40 * bit p + 0x20 * bit false + (0x04 + bit one)) ≡ Some layouts.Config
config_kind p one = grind arith

message_at : (n : ℕ) (p : Bool) → n < 6 → layout_of_byte (0x40 * bit p + 0x20 * bit true + (0x10 + n))
    ≡ Some layouts.Message
message_at n p lt = grind (arith, nat_tests)

completion_kind : (p : Bool) → layout_of_byte (0x40 * bit p + 0x20 * bit false + 0x0a) ≡ Some layouts.Completion
completion_kind p = grind arith

low_byte : (n : ℕ) → n % 256 < 256
low_byte n = omega arith

-- bytes 1 to 3 of a header, and then the fields
lead_fit : (k : Layout) (size : ℕ) (l : Lead) (tag : ℕ) (fields : List ℕ)
    → ((b : ℕ) → b < 256 → b % 4 ≡ 0 → is_allowed_byte k size 1 b ≡ true)
    → is_allowed_byte k size 2 (0x10 * (l.attr % 4) + 0x04 * l.at + l.length / 256) ≡ true
    → is_allowed_byte k size 3 (l.length % 256) ≡ true
    → FitsLead l → tag < 1024 → FitFrom k size 4 fields → FitFrom k size 1 (lead_bytes l tag ++ fields)
lead_fit k size l tag fields a1 a2 a3 fl lt more =
    let small : 0x80 * (tag / 512) + 0x10 * l.tc + 0x08 * (tag / 256 % 2) + 0x04 * (l.attr / 4) < 256 =
    omega (arith, fl.tc, fl.attr) in
    (small, a1 _ small (omega arith), (omega (arith, fl.at, fl.length), a2, (low_byte l.length, a3, more)))

-- byte 2 of a header that is no configuration request
plain_third : (l : Lead) → FitsLead l → eqb (bit_and 0xc0 (0x10 * (l.attr % 4) + 0x04 * l.at + l.length / 256)) 0 ≡ true
plain_third l fl = (clear_192 _ (omega (arith, fl.at, fl.length))).1 (omega (arith, fl.at, fl.length))

cleared : (b : ℕ) → b < 256 → b % 4 ≡ 0 → (eqb (bit_and 0x03 b) 0 && true) ≡ true
cleared b lt z = and_from _ _ ((clear_3 b lt).1 z) refl

halves_small : (a b : ℕ) → a < 16 → b < 16 → 0x10 * a + b < 256
halves_small a b p q = omega arith

status_again : (status : ℕ) (bcm : Bool) (count : ℕ) → status < 8 → count < 4096
    → ((0x20 * status + 0x10 * bit bcm + count / 256) / 32 ≡ status)
    × (eqb ((0x20 * status + 0x10 * bit bcm + count / 256) / 16 % 2) 1 ≡ bcm)
    × (256 * ((0x20 * status + 0x10 * bit bcm + count / 256) % 16) + count % 256 ≡ count)
    × (0x20 * status + 0x10 * bit bcm + count / 256 < 256)
status_again status bcm count ls lc = grind (arith, nat_tests)

memory_fit : (w : Bool) (f : MemoryFields) (l : Lead) → FitsLead l → FitsFields l (Memory f)
    → FitFrom layouts.Memory (cond w 16 12) 1 (lead_bytes l f.tag ++ field_bytes w (Memory f))
memory_fit w f l fl ff =
    let be = halves_small f.last_be f.first_be ff.2 ff.3 in
    let last = cleared (f.address % 256) (low_byte f.address) (omega (arith, ff.4)) in
    let third = and_from _ _ (plain_third l fl) refl in
    elim w as (λ (v : Bool). FitFrom layouts.Memory (cond v 16 12) 1 (lead_bytes l f.tag ++ field_bytes v (Memory f))) [
      | true ↦ lead_fit layouts.Memory 16 l f.tag (field_bytes true (Memory f)) cleared third refl fl ff.1
          (search (low_byte, last, be) depth 20)
      | false ↦ lead_fit layouts.Memory 12 l f.tag (field_bytes false (Memory f)) cleared third refl fl ff.1
          (search (low_byte, last, be) depth 20)
    ]

memory_long : (w : Bool) (f : MemoryFields) → suc (suc (suc (suc (length (field_bytes w (Memory f)))))) ≡ cond w 16 12
memory_long true f = refl
memory_long false f = refl

config_fit : (f : ConfigFields) (l : Lead) → FitsLead l → FitsFields l (Config f)
    → FitFrom layouts.Config 12 1 (lead_bytes l f.tag ++ field_bytes false (Config f))
config_fit f l fl ff =
    let third : 0x10 * (l.attr % 4) + 0x04 * l.at + l.length / 256 < 64 = omega (arith, fl.at, fl.length) in
    let small : 0x10 * (l.attr % 4) + 0x04 * l.at + l.length / 256 < 256 = omega arith in
    let clear = (clear_195 _ small).1 (third, omega (arith, ff.1)) in
    let one : eqb (l.length % 256) 1 ≡ true = eq-eqb _ _ (omega (arith, ff.1)) in
    let high : f.register / 64 < 16 = omega (arith, ff.7) in
    let low : 0x04 * (f.register % 64) < 256 = omega arith in
    let be = halves_small f.last_be f.first_be ff.4 ff.5 in
    let h = and_from _ _ ((clear_240 _ (omega arith)).1 high) refl in
    let small : f.register / 64 < 256 = omega arith in
    let last = cleared _ low (omega arith) in
    let more : FitFrom layouts.Config 12 4 (field_bytes false (Config f)) = search (low_byte, be, small, h, low, last)
    depth 20 in
    lead_fit layouts.Config 12 l f.tag (field_bytes false (Config f)) cleared (and_from _ _ clear refl) one fl ff.3 more

message_fit : (f : MessageFields) (l : Lead) → FitsLead l → FitsFields l (Message f)
    → FitFrom layouts.Message 16 1 (lead_bytes l f.tag ++ field_bytes true (Message f))
message_fit f l fl ff =
    let k = all_bytes f.kept ff.6 in
    let six : FitFrom layouts.Message 16 10 (cells 6 0 f.kept) = search k depth 20 in
    let rest = subst (FitFrom layouts.Message 16 10) (sym (drop_cells 6 0 f.kept ff.5)) six in
    let more : FitFrom layouts.Message 16 4 (field_bytes true (Message f)) = search (low_byte, ff.3, rest) depth 20 in
    lead_fit layouts.Message 16 l f.tag (field_bytes true (Message f)) cleared (and_from _ _ (plain_third l fl) refl)
    refl fl ff.2 more

completion_fit : (f : CompletionFields) (l : Lead) → FitsLead l → FitsFields l (Completion f)
    → FitFrom layouts.Completion 12 1 (lead_bytes l f.tag ++ field_bytes false (Completion f))
completion_fit f l fl ff =
    let status = (status_again (status_bits f.status) f.bcm f.count ff.2.0 ff.3).3 in
    let lower : f.lower < 256 = omega (arith, ff.6) in
    let clear = and_from _ _ ((clear_128 f.lower lower).1 ff.6) refl in
    let more : FitFrom layouts.Completion 12 4 (field_bytes false (Completion f)) = search
    (low_byte, status, lower, clear) depth 20 in
    lead_fit layouts.Completion 12 l f.tag (field_bytes false (Completion f)) cleared
    (and_from _ _ (plain_third l fl) refl) refl fl ff.5 more

routing_again : (r : Routing) → (routing_bits r < 6) × (routing_from (routing_bits r) ≡ r)
routing_again r = grind arith

abbrev head_with : Lead → Bool → Fields → HeadView
head_with l p f = record { lead = l; has_payload = p; fields = f }

type_small : (one : Bool) → 0x04 + bit one < 32
type_small one = grind arith

kept_fields : (l : Lead) (p : Bool) (f : Fields) → FitsLead l → FitsFields l f
    → IsRight (layout_of f) (head_bytes (head_with l p f))
kept_fields l p (Memory f) fl ff = right layouts.Memory p l.wide 0x00 _ (memory_kind p l.wide) (omega arith)
    (memory_long l.wide f) (memory_fit l.wide f l fl ff)
kept_fields l p (Config f) fl ff =
    let type = type_small f.one in
    rw ff.0 (right layouts.Config p false (0x04 + bit f.one) _ (config_kind p f.one) type refl (config_fit f l fl ff))
kept_fields l p (Message f) fl ff =
    let small : routing_bits f.routing < 6 = (routing_again f.routing).0 in
    rw ff.0 (right layouts.Message p true (0x10 + routing_bits f.routing) _
    (message_at (routing_bits f.routing) p small) (omega arith) (rw ff.5 refl) (message_fit f l fl ff))
kept_fields l p (Completion f) fl ff =
    rw ff.0 (right layouts.Completion p false 0x0a _ (completion_kind p) (omega arith) refl (completion_fit f l fl ff))

pub kept : (h : HeadView) → FitsHead h → IsRight (layout_of h.fields) (head_bytes h)
kept h fits = kept_fields h.lead h.has_payload h.fields fits.lead fits.fields

-- ---- what is written is read again, whatever follows

attr_again : (l : Lead) (tag : ℕ) → FitsLead l
    → 4 * ((0x80 * (tag / 512) + 0x10 * l.tc + 0x08 * (tag / 256 % 2) + 0x04 * (l.attr / 4)) / 4 % 2)
    + (0x10 * (l.attr % 4) + 0x04 * l.at + l.length / 256) / 16 % 4 ≡ l.attr
attr_again l tag fl = omega (arith, fl.tc, fl.attr, fl.at, fl.length)

lead_again : (first tag : ℕ) (l : Lead) (more : List ℕ) → FitsLead l → tag < 1024 → is_wide first ≡ l.wide
    → lead_of (first ∷ (lead_bytes l tag ++ more)) ≡ l
lead_again first tag l more fl lt w =
    let third = 0x10 * (l.attr % 4) + 0x04 * l.at + l.length / 256 in
    let tc : (0x80 * (tag / 512) + 0x10 * l.tc + 0x08 * (tag / 256 % 2) + 0x04 * (l.attr / 4)) / 16 % 8 ≡ l.tc =
    omega (arith, fl.tc, fl.attr) in
    let at : third / 4 % 4 ≡ l.at = omega (arith, fl.at, fl.length) in
    let long : 256 * (third % 4) + l.length % 256 ≡ l.length = omega (arith, fl.at, fl.length) in
    λ i. record { wide = w i; tc = tc i; attr = attr_again l tag fl i; at = at i; length = long i }

tag_again : (l : Lead) (tag : ℕ) → FitsLead l → tag < 1024
    → 512 * ((0x80 * (tag / 512) + 0x10 * l.tc + 0x08 * (tag / 256 % 2) + 0x04 * (l.attr / 4)) / 128)
    + 256 * ((0x80 * (tag / 512) + 0x10 * l.tc + 0x08 * (tag / 256 % 2) + 0x04 * (l.attr / 4)) / 8 % 2) + tag % 256
    ≡ tag
tag_again l tag fl lt = omega (arith, fl.tc, fl.attr)

one_again : (p w one : Bool) → eqb ((0x40 * bit p + 0x20 * bit w + (0x04 + bit one)) % 32) 0x05 ≡ one
one_again p w one = grind (arith, nat_tests)

halves_again : (a b : ℕ) → b < 16 → ((0x10 * a + b) / 16 ≡ a) × ((0x10 * a + b) % 16 ≡ b)
halves_again a b lt = (omega arith, omega arith)

register_again : (n : ℕ) → 64 * (n / 64) + (0x04 * (n % 64)) / 4 ≡ n
register_again n = omega arith

address_again : (w : Bool) (first x1 x2 x3 requester tag be address : ℕ) (more : List ℕ) → address < address_limit w
    → address_read w (first ∷ x1 ∷ x2 ∷ x3 ∷ (big_bytes 2 requester ++ tag ∷ be ∷ address_bytes w address ++ more))
    ≡ address
address_again true first x1 x2 x3 requester tag be address more lt = big_number-reads_back 8 address [] lt
address_again false first x1 x2 x3 requester tag be address more lt = big_number-reads_back 4 address [] lt

kept_again : (kept more : List ℕ) → length kept ≡ 6 → cells 6 0 (kept ++ more) ≡ kept
kept_again kept more long = subst (λ (r : List ℕ). cells 6 0 (r ++ more) ≡ r) (sym (drop_cells 6 0 kept long)) refl

head_is : {l l' : Lead} {p p' : Bool} {f f' : Fields} → l ≡ l' → p ≡ p' → f ≡ f' → head_with l p f ≡ head_with l' p' f'
head_is el ep ef = λ i. record { lead = el i; has_payload = ep i; fields = ef i }

again_fields : (l : Lead) (p : Bool) (f : Fields) (more : List ℕ) → FitsLead l → FitsFields l f
    → head_of (layout_of f) (head_bytes (head_with l p f) ++ more) ≡ head_with l p f
again_fields l p (Memory f) more fl ff =
    let k = first_is p l.wide 0x00 (omega arith) in
    let lead = lead_again _ f.tag l (field_bytes l.wide (Memory f) ++ more) fl ff.1 k.0 in
    let be = halves_again f.last_be f.first_be ff.3 in
    let t = address_bytes l.wide f.address ++ more in
    let address = ap (λ (w : Bool). cond w (big_number 8 t) (big_number 4 t)) k.0
    ∙ address_again l.wide 0 0 0 0 f.requester (f.tag % 256) 0 f.address more ff.5 in
    head_is lead k.1 (λ i. Memory
    (record {
      requester = number_again f.requester ff.0 i;
      tag = tag_again l f.tag fl ff.1 i;
      last_be = be.0 i;
      first_be = be.1 i;
      address = address i;
    }))
again_fields l p (Config f) more fl ff =
    let k = first_is p l.wide (0x04 + bit f.one) (type_small f.one) in
    let lead = lead_again _ f.tag l (field_bytes l.wide (Config f) ++ more) fl ff.3 k.0 in
    let be = halves_again f.last_be f.first_be ff.5 in
    head_is lead k.1 (λ i. Config (record {
      one = one_again p l.wide f.one i;
      requester = number_again f.requester ff.2 i;
      tag = tag_again l f.tag fl ff.3 i;
      last_be = be.0 i;
      first_be = be.1 i;
      destination = number_again f.destination ff.6
          i;
      register = register_again f.register i;
    }))
again_fields l p (Message f) more fl ff =
    let r = routing_again f.routing in
    let k = first_is p l.wide (0x10 + routing_bits f.routing) (omega (arith, r.0)) in
    let lead = lead_again _ f.tag l (field_bytes l.wide (Message f) ++ more) fl ff.2 k.0 in
    let number : (0x40 * bit p + 0x20 * bit l.wide + (0x10 + routing_bits f.routing)) % 8
    ≡ routing_bits f.routing = omega (arith, r.0) in
    let routing = ap routing_from number ∙ r.1 in
    head_is lead k.1 (λ i. Message (record {
      routing = routing i;
      requester = number_again f.requester ff.1 i;
      tag = tag_again l f.tag fl ff.2 i;
      code = f.code;
      destination = number_again f.destination ff.4 i;
      kept = kept_again f.kept more ff.5 i;
    }))
again_fields l p (Completion f) more fl ff =
    let k = first_is p l.wide 0x0a (omega arith) in
    let lead = lead_again _ f.tag l (field_bytes l.wide (Completion f) ++ more) fl ff.5 k.0 in
    let s = status_again (status_bits f.status) f.bcm f.count ff.2.0 ff.3 in
    let status = ap completion_status s.0 ∙ ff.2.1 in
    head_is lead k.1 (λ i. Completion
    (record {
      completer = number_again f.completer ff.1 i;
      status = status i;
      bcm = s.1 i;
      count = s.2 i;
      requester
          = number_again f.requester ff.4 i;
      tag = tag_again l f.tag fl ff.5 i;
      lower = f.lower;
    }))

pub again : (h : HeadView) (more : List ℕ) → FitsHead h → head_of (layout_of h.fields) (head_bytes h ++ more) ≡ h
again h more fits = again_fields h.lead h.has_payload h.fields more fits.lead fits.fields
