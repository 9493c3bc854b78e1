-- Packets are a grammar, byte by byte. What is spelled walks. What walks and wants no more is spelled by its parts: a
-- prefix that its flags give back, a right header, the payload that it wants, and the tag. Else a byte more may follow.
use Rattle.std.proofs.Common.{◌≡◌, ℕ, zero, suc, ◌+◌, ◌-◌, ◌*◌, ◌/◌, ◌%◌, ◌<◌, ◌≤◌, Bool, true, false, cond, eqb, ltb}
use Rattle.std.proofs.Common.{IsTrue, ◌&&◌, not, List, [], ◌∷◌, ◌++◌, length, get_or, take, drop, replicate, Option}
use Rattle.std.proofs.Common.{Some, None, refl, sym, ap, subst, ◌∙◌, inl, inr, arith, length-append, length-take}
use Rattle.std.proofs.Common.{length-drop, get_or-take, get_or-drop, take-append-drop}
use Rattle.std.specs.Prelude.{All}
use Rattle.std.proofs.lemmas.Bool.{true≢false, cases_lt, cases_eq, cases_Bool, ltb-true, lt-ltb, le-ltb, eq-eqb}
use Rattle.std.proofs.lemmas.Bool.{eqb-true, ne_eqb, and_parts, and_from, agree_below_at}
use Rattle.std.proofs.lemmas.List.{ext_get_or, drop-take, get_or_past, get_or-replicate, get_or_append_left}
use Rattle.std.proofs.lemmas.List.{get_or-append_right}
use Rattle.std.proofs.lemmas.List.Elements.{All-from_get_or}
use Rattle.tlp_layout.specs.{bit, head_size, has_data, layout_of_byte, class_of, kind_class, kind_of_layout}
use Rattle.tlp_layout.specs.{kind_of_byte, head_of, rest_size, may_follow, whole_size, body_size, layout_of}
use Rattle.ide_types.specs.Sub.{sub_bits}
use Rattle.ide_prefix.specs.Reading.{sync_at, tag_part, packet_size, packet_may_follow, fits_late}
use Rattle.ide_prefix.specs.Causes.{sub_from, prefix_read, fits_first, fits_early}
use Rattle.ide_prefix.specs.Packet.{prefix_bytes, packet_bytes, IsCarried, IsSync, FitsPrefix}
use Rattle.ide_prefix.specs.Packet.{FitsPacket, SpellsPacket, IsPacket, sync_head, begins_sync}
use Rattle.ide_prefix.specs.declared.packet.Prefix.{Prefix}
use Rattle.tlp_layout.specs.declared.layout.Layout.TheVariants as layouts
use Rattle.ide_types.proofs.Cells.{IsBytes, cells, drop_cells, all_bytes}
use Rattle.ide_prefix.proofs.Units.{Prefix-of, flags, parts_of, bit_small, sub_small, sub_again, low_flags, not_sync}
use Rattle.ide_types.proofs.Fronts.{Fitting, IsGrammar}
use Rattle.ide_prefix.proofs.Terms.{Layout, HeadView, SubKind, Pr, Npr, Cpl, belongs, Packet, kind_if_layout, IsRight}
use Rattle.ide_prefix.proofs.Terms.{kept, again, back, IsWalked, fits_from, agrees_there, head_size_at_least, next_fits}
use Rattle.ide_prefix.proofs.Terms.{rest_front, take_right, walked_of}

-- ---- what a walk says

pub record IsWalkedPacket (s : List ℕ) (n : ℕ) : Type 0 where
  pub fit : (i : ℕ) → i < n → get_or s i 0 < 256
  pub early : (i : ℕ) → i < n → i < 5 → fits_early i s (get_or s i 0) ≡ true
  pub zeros : sync_at s ≡ true → (i : ℕ) → 5 ≤ i → i < n → i < 16 → get_or s i 0 ≡ 0
  pub late : sync_at s ≡ false → (i : ℕ) → 5 ≤ i → i < n → may_follow (take (i - 4) (drop 4 s)) (get_or s i 0) ≡ true

-- ---- what the first bytes say

prefix_front : (n : ℕ) (s : List ℕ) → 4 ≤ n → prefix_read (take n s) ≡ prefix_read s
prefix_front n s le =
    let l1 : 1 < n = omega arith in
    let l2 : 2 < n = omega arith in
    let l3 : 3 < n = omega arith in
    rw (get_or-take n s 1 0 l1, get_or-take n s 2 0 l2, get_or-take n s 3 0 l3) refl

early_front : (s : List ℕ) (i b : ℕ) → i < 5 → fits_early i (take i s) b ≡ fits_early i s b
early_front s zero b lt = refl
early_front s (suc zero) b lt = refl
early_front s (suc (suc zero)) b lt = refl
early_front s (suc (suc (suc zero))) b lt = rw (get_or-take 3 s 1 0 (omega arith)) refl
early_front s (suc (suc (suc (suc zero)))) b lt = ap (λ (p : Prefix). fits_first p b) (prefix_front 4 s (omega arith))
early_front s (suc (suc (suc (suc (suc i))))) b lt = absurd (omega arith)

sync_front : (n : ℕ) (s : List ℕ) → 5 ≤ n → sync_at (take n s) ≡ sync_at s
sync_front n s le =
    let l4 : 4 < n = omega arith in
    let p : prefix_read (take n s) ≡ prefix_read s = prefix_front n s (omega arith) in
    ap (λ (x : Prefix). begins_sync x.sub (get_or (take n s) 4 0)) p ∙ ap (begins_sync (prefix_read s).sub)
    (get_or-take n s 4 0 l4)

drop_front : (n : ℕ) (s : List ℕ) → 4 ≤ n → drop 4 (take n s) ≡ take (n - 4) (drop 4 s)
drop_front n s le =
    let e : n ≡ 4 + (n - 4) = omega arith in
    ap (λ (m : ℕ). drop 4 (take m s)) e ∙ drop-take 4 (n - 4) s

pub size_at_least : (s : List ℕ) → 16 ≤ packet_size s
size_at_least s =
    let w = head_size_at_least (get_or (drop 4 s) 0 0) in
    elim (cases_Bool (sync_at s)) [
      | inl y ↦ rw y (omega arith)
      | inr n ↦ rw n (omega arith)
    ]

pub size_front : (n : ℕ) (s : List ℕ) → 8 ≤ n → packet_size (take n s) ≡ packet_size s
size_front n s le =
    let some : 4 ≤ n - 4 = omega arith in
    let five : 5 ≤ n = omega arith in
    let four : 4 ≤ n = omega arith in
    let first : 0 < n - 4 = omega arith in
    rw (
      sync_front n s five,
      drop_front n s four,
      rest_front (n - 4) (drop 4 s) some,
      get_or-take (n - 4) (drop 4 s) 0 0
          first,
      ap (λ (x : Prefix). x.m) (prefix_front n s four),
    ) refl

-- ---- a walk, and what is known of its bytes

pub walks_from : (s : List ℕ) (n : ℕ) → n ≤ length s → IsWalkedPacket s n → Fitting packet_may_follow s n
walks_from s n le w i lt =
    let long : length (take i s) ≡ i = omega (arith, length-take i s) in
    and_from _ _ (lt-ltb _ _ (w.fit i lt)) (elim (cases_lt i 5) [
      | inl few ↦ rw (long, lt-ltb i 5 few, early_front s i (get_or s i 0) few) (w.early i lt few)
      | inr many ↦
          let four : 4 ≤ i = omega arith in
          rw (long, le-ltb i 5 many, sync_front i s many, drop_front i s four) (elim (cases_Bool (sync_at s)) [
            | inl y ↦ rw y (elim (cases_lt i 16) [
              | inl less ↦ rw (lt-ltb i 16 less) (eq-eqb _ _ (w.zeros y i many lt less))
              | inr past ↦ rw
                  (le-ltb i 16 past) refl
            ])
            | inr n' ↦ rw n' (w.late n' i many lt)
          ])
    ])

pub walked_early : (s : List ℕ) (i : ℕ) → i < length s → i < 5 → IsTrue (packet_may_follow (take i s) (get_or s i 0))
    → fits_early i s (get_or s i 0) ≡ true
walked_early s i lt few t =
    let long : length (take i s) ≡ i = omega (arith, length-take i s) in
    let there : cond (ltb (length (take i s)) 5) (fits_early (length (take i s)) (take i s) (get_or s i 0))
    (fits_late (take i s) (get_or s i 0)) ≡ true = (and_parts _ _ t).1 in
    rw (long, lt-ltb i 5 few, early_front s i (get_or s i 0) few) at there

pub walked_late : (s : List ℕ) (i : ℕ) → i < length s → 5 ≤ i → IsTrue (packet_may_follow (take i s) (get_or s i 0))
    → cond (sync_at s) (cond (ltb i 16) (eqb (get_or s i 0) 0) true)
    (may_follow (take (i - 4) (drop 4 s)) (get_or s i 0)) ≡ true
walked_late s i lt many t =
    let long : length (take i s) ≡ i = omega (arith, length-take i s) in
    let four : 4 ≤ i = omega arith in
    let there : cond (ltb (length (take i s)) 5) (fits_early (length (take i s)) (take i s) (get_or s i 0))
    (fits_late (take i s) (get_or s i 0)) ≡ true = (and_parts _ _ t).1 in
    rw (long, le-ltb i 5 many, sync_front i s many, drop_front i s four) at there

walked : (s : List ℕ) → Fitting packet_may_follow s (length s) → IsWalkedPacket s (length s)
walked s w = record {
  fit = λ i lt. ltb-true _ _ (and_parts _ _ (w i lt)).0;
  early = λ i lt few. walked_early s i lt few (w i lt);
  zeros = λ y i many lt less. eqb-true _ _ (rw (y, lt-ltb i 16 less) at (walked_late s i lt many (w i lt)));
  late = λ n i many lt. rw n at (walked_late s i lt many (w i lt));
}

-- ---- the parts of a walk

abbrev flags_fit : ℕ → Bool
flags_fit b = cond (eqb (b / 8 % 4) 0) (ltb (b % 8) 3) false

flags_test : (b : ℕ) → b < 256 → flags_fit b ≡ true → 128 * bit (eqb (b / 128) 1) + 64 * bit (eqb (b / 64 % 2) 1) + 32 *
    bit (eqb (b / 32 % 2) 1) + sub_bits (sub_from (b % 8)) ≡ b
flags_test b lt e =
    let t = agree_below_at flags_fit
    (λ b. flags_fit b && eqb
    (128 * bit (eqb (b / 128) 1) + 64 * bit (eqb (b / 64 % 2) 1) + 32 * bit (eqb (b / 32 % 2) 1) + sub_bits
    (sub_from (b % 8))) b) 256 b refl lt in
    eqb-true _ _ (and_parts (flags_fit b) _ (sym t ∙ e)).1

prefix_is_front : (s : List ℕ) → 4 ≤ length s → IsWalkedPacket s (length s) → prefix_bytes (prefix_read s) ≡ cells 4 0 s
prefix_is_front s le w =
    let e0 : get_or s 0 0 ≡ 0x92 = eqb-true _ _ (w.early 0 (omega arith) (omega arith)) in
    let e1 = flags_test (get_or s 1 0) (w.fit 1 (omega arith)) (w.early 1 (omega arith) (omega arith)) in
    cc

-- what byte 4 of a packet that carries a TLP says
carried_first : (sub : SubKind) (p : Bool) (o : Option Layout) → belongs sub (kind_if_layout o p) ≡ true
    → (k : Layout) × (o ≡ Some k) × (kind_class (kind_of_layout k p) ≡ sub)
carried_first sub p None e = absurd cc
carried_first sub p (Some k) e =
    (k, refl, sym (sub_again (kind_class (kind_of_layout k p))) ∙ ap sub_from (eqb-true _ _ e) ∙ sub_again sub)

class_is : (k : Layout) (s : List ℕ) → class_of (head_of k s) ≡ kind_class (kind_of_layout k (has_data (get_or s 0 0)))
class_is layouts.Memory s = refl
class_is layouts.Config s = refl
class_is layouts.Message s = refl
class_is layouts.Completion s = refl

part_bytes : (s : List ℕ) → IsBytes s → (n m : ℕ) → All (λ b. b < 256) (take m (drop n s))
part_bytes s fit n m = All-from_get_or (λ (b : ℕ). b < 256) (take m (drop n s)) 0 (λ i lt.
    let here : i < m = omega (arith, length-take m (drop n s)) in
    rw (get_or-take m (drop n s) i 0 here, get_or-drop) (fit (n + i)))

rest_bytes : (s : List ℕ) → IsBytes s → (n : ℕ) → All (λ b. b < 256) (drop n s)
rest_bytes s fit n = All-from_get_or (λ (b : ℕ). b < 256) (drop n s) 0 (λ i lt. rw get_or-drop (fit (n + i)))

pub bytes_of : (s : List ℕ) → IsWalkedPacket s (length s) → IsBytes s
bytes_of s w i = elim (cases_lt i (length s)) [
  | inl lt ↦ w.fit i lt
  | inr past ↦ rw (get_or_past s i 0 past) (omega arith)
]

pr_only : (n : ℕ) → sub_from n ≡ Pr → n ≡ 0
pr_only n e = elim (cases_eq n 0) [
  | inl z ↦ z
  | inr nz ↦ elim (cases_eq n 1) [
    | inl one ↦ let wrong : Npr ≡ Pr = sym (ap sub_from one) ∙ e in absurd cc
    | inr other ↦ let wrong : Cpl ≡ Pr = rw (ne_eqb n 0 nz, ne_eqb n 1 other) at e in absurd cc
  ]
]

fits_prefix : (s : List ℕ) → 4 ≤ length s → IsWalkedPacket s (length s) → FitsPrefix (prefix_read s)
fits_prefix s le w = record {
  stream = w.fit 2 (omega arith);
  posted = w.fit 3 (omega arith);
  none = λ e.
      let z : get_or s 1 0 % 8 ≡ 0 = pr_only _ e in
      let t : cond (eqb (get_or s 1 0 % 8) 0) (eqb (get_or s 3 0) 0) true
      ≡ true = w.early 3 (omega arith) (omega arith) in
      eqb-true _ _ (rw (eq-eqb _ _ z) at t);
}

-- after the prefix a TLP's header walks
pub tail_walked : (s : List ℕ) → 5 ≤ length s → IsWalkedPacket s (length s) → sync_at s ≡ false → (k : Layout)
    × IsWalked k (drop 4 s) (length (drop 4 s)) ×
    (kind_class (kind_of_layout k (has_data (get_or s 4 0))) ≡ (prefix_read s).sub)
tail_walked s le w n =
    let first : cond (sync_at s) (cond (prefix_read s).m (not (prefix_read s).t) false)
    (belongs (prefix_read s).sub (kind_of_byte (get_or s 4 0))) ≡ true = w.early 4 (omega arith) (omega arith) in
    let c : belongs (prefix_read s).sub (kind_of_byte (get_or s 4 0)) ≡ true = rw n at first in
    let k = carried_first (prefix_read s).sub (has_data (get_or s 4 0)) (layout_of_byte (get_or s 4 0)) c in
    let zeroth : get_or (drop 4 s) 0 0 ≡ get_or s 4 0 = get_or-drop 4 s 0 0 in
    let kind : layout_of_byte (get_or (drop 4 s) 0 0) ≡ Some k.0 = ap layout_of_byte zeroth ∙ k.1 in (
      k.0,
      record {
        fit = λ i lt. rw get_or-drop (w.fit (4 + i) (omega (arith, length-drop 4 s)));
        kind = kind;
        agrees = λ i pos lt less.
            let j : 4 + i - 4 ≡ i = omega arith in
            let t : may_follow (take (4 + i - 4) (drop 4 s)) (get_or s (4 + i) 0)
            ≡ true = w.late n (4 + i) (omega arith) (omega (arith, length-drop 4 s)) in
            let there : may_follow (take i (drop 4 s)) (get_or (drop 4 s) i 0)
            ≡ true = rw (j, ← get_or-drop 4 s i 0) at t in
            agrees_there k.0 (drop 4 s) kind i lt pos less there;
      },
      k.2,
    )

abbrev pub packet_of : List ℕ → List ℕ → List ℕ → List ℕ → Packet
packet_of s h b t = record { prefix = prefix_read s; head = h; body = b; tag = t }

take_cells : (s : List ℕ) → 4 ≤ length s → take 4 s ≡ cells 4 0 s
take_cells s le =
    let long : length (take 4 s) ≡ 4 = omega (arith, length-take 4 s) in
    drop_cells 4 0 (take 4 s) long ∙ rw (
      get_or-take 4 s 0 0 (omega arith),
      get_or-take 4 s 1 0 (omega arith),
      get_or-take 4 s 2 0 (omega arith),
      get_or-take 4 s 3 0 (omega arith),
    ) refl

-- four bytes, and the rest
parts_are : (s : List ℕ) → 5 ≤ length s → IsWalkedPacket s (length s) → s ≡ prefix_bytes (prefix_read s) ++ drop 4 s
parts_are s le w =
    let front : take 4 s ≡ prefix_bytes (prefix_read s) = take_cells s (omega arith) ∙ sym
    (prefix_is_front s (omega arith) w) in
    sym (take-append-drop 4 s) ∙ ap (λ (x : List ℕ). x ++ drop 4 s) front

pub size_carried : (s : List ℕ) → sync_at s ≡ false → packet_size s ≡ 4 + whole_size (drop 4 s) + tag_part s
size_carried s n =
    let e : packet_size s ≡ 4 + head_size (get_or (drop 4 s) 0 0) + rest_size (drop 4 s) + tag_part s = ap
    (λ (y : Bool). 4 + cond y 12 (head_size (get_or (drop 4 s) 0 0)) + cond y 0 (rest_size (drop 4 s)) + tag_part s)
    n in
    e ∙ omega arith

pub size_sync : (s : List ℕ) → sync_at s ≡ true → packet_size s ≡ 16 + tag_part s
size_sync s y =
    let e : packet_size s ≡ 4 + 12 + 0 + tag_part s = ap
    (λ (x : Bool). 4 + cond x 12 (head_size (get_or (drop 4 s) 0 0)) + cond x 0 (rest_size (drop 4 s)) + tag_part s)
    y in
    e ∙ omega arith

pub carried_spells : (s : List ℕ) → 5 ≤ length s → IsWalkedPacket s (length s) → sync_at s ≡ false → length s
    ≡ packet_size s
    → SpellsPacket (packet_of s (take (head_size (get_or (drop 4 s) 0 0)) (drop 4 s))
    (take (rest_size (drop 4 s)) (drop (head_size (get_or (drop 4 s) 0 0)) (drop 4 s)))
    (drop (rest_size (drop 4 s)) (drop (head_size (get_or (drop 4 s) 0 0))
    (drop 4 s)))) s
carried_spells s le w n size =
    let all : IsBytes s = bytes_of s w in
    let k = tail_walked s le w n in
    let t = drop 4 s in
    let hs = head_size (get_or t 0 0) in
    let r = rest_size t in
    let long : length t ≡ hs + r + tag_part s = omega (arith, length-drop 4 s, size, size_carried s n) in
    let right : IsRight k.0 (take hs t) = take_right k.0 t hs refl (omega (arith, long)) k.1 in
    let spells = back k.0 (take hs t) right in
    let first : get_or (take hs t) 0 0 ≡ get_or s 4 0 = get_or-take hs t 0 0
    (omega (arith, head_size_at_least (get_or t 0 0))) ∙ get_or-drop 4 s 0 0 in
    let wants : rest_size (take hs t) ≡ r = rest_front hs t (omega (arith, head_size_at_least (get_or t 0 0))) in
    record {
      fits = record {
        prefix = fits_prefix s (omega arith) w;
        carries = inl (record {
          head = head_of k.0 (take hs t);
          spells = spells;
          class = class_is k.0 (take hs t) ∙ ap (λ (b : ℕ). kind_class (kind_of_layout k.0 (has_data b))) first ∙ k.2;
          size = omega (arith, wants, long, length-take r (drop hs t), length-drop hs t);
        });
        body = part_bytes t (λ i. rw get_or-drop (all (4 + i))) hs r;
        tag = rest_bytes (drop hs t) (λ i. rw (get_or-drop, get_or-drop) (all (4 + (hs + i)))) r;
        tag_size = omega (arith, long, length-drop r (drop hs t), length-drop hs t);
      };
      spelled = parts_are s le w ∙ ap (λ (x : List ℕ). prefix_bytes (prefix_read s) ++ x)
          (sym (take-append-drop hs t) ∙ ap (λ (x : List ℕ). take hs t ++ x) (sym (take-append-drop r (drop hs t))));
    }

-- ---- sync packets

sync_zero : (i : ℕ) → 0 < i → i < 12 → get_or sync_head i 0 ≡ 0
sync_zero zero pos lt = absurd (omega arith)
sync_zero (suc i) pos lt = get_or-replicate 11 i 0 0 (omega arith)

twelve_at : (x : List ℕ) → get_or x 0 0 ≡ 0x34 → ((i : ℕ) → 0 < i → i < 12 → get_or x i 0 ≡ 0) → (i : ℕ) → i < 12
    → get_or x i 0 ≡ get_or sync_head i 0
twelve_at x first zeros zero lt = first
twelve_at x first zeros (suc i) lt = zeros (suc i) (omega arith) lt ∙ sym (sync_zero (suc i) (omega arith) lt)

sync_of : (sub : SubKind) (b : ℕ) → begins_sync sub b ≡ true → (b ≡ 0x34) × (sub ≡ Pr → ⊥)
sync_of Pr b e = absurd cc
sync_of Npr b e = (eqb-true _ _ e, λ is. absurd cc)
sync_of Cpl b e = (eqb-true _ _ e, λ is. absurd cc)

flags_are : (m t : Bool) → cond m (not t) false ≡ true → (m ≡ true) × (t ≡ false)
flags_are true true e = absurd cc
flags_are true false e = (refl, refl)
flags_are false t e = absurd cc

pub sync_spells : (s : List ℕ) → 5 ≤ length s → IsWalkedPacket s (length s) → sync_at s ≡ true → length s
    ≡ packet_size s → SpellsPacket (packet_of s (take 12 (drop 4 s)) [] (drop 12 (drop 4 s))) s
    × IsSync (packet_of s (take 12 (drop 4 s)) [] (drop 12 (drop 4 s)))
sync_spells s le w y size =
    let all : IsBytes s = bytes_of s w in
    let long : length s ≡ 16 + tag_part s = size ∙ size_sync s y in
    let f = sync_of (prefix_read s).sub (get_or s 4 0) y in
    let first : cond (sync_at s) (cond (prefix_read s).m (not (prefix_read s).t) false)
    (belongs (prefix_read s).sub (kind_of_byte (get_or s 4 0))) ≡ true = w.early 4 (omega arith) (omega arith) in
    let flags : cond (prefix_read s).m (not (prefix_read s).t) false ≡ true = rw y at first in
    let mt = flags_are (prefix_read s).m (prefix_read s).t flags in
    let t = drop 4 s in
    let wide : length (take 12 t) ≡ 12 = omega (arith, length-take 12 t, length-drop 4 s, long) in
    let zeroth : get_or (take 12 t) 0 0 ≡ 0x34 = get_or-take 12 t 0 0 (omega arith) ∙ get_or-drop 4 s 0 0 ∙ f.0 in
    let zeros : (i : ℕ) → 0 < i → i < 12 → get_or (take 12 t) i 0
    ≡ 0 = λ i pos lt. get_or-take 12 t i 0 lt ∙ get_or-drop 4 s i 0 ∙ w.zeros y (4 + i) (omega arith)
    (omega (arith, long)) (omega arith) in
    let head = ext_get_or 0 (take 12 t) sync_head wide
    (λ i lt. twelve_at (take 12 t) zeroth zeros i (omega (arith, wide))) in (
      record {
        fits = record {
          prefix = fits_prefix s (omega arith) w;
          carries = inr (record { head = head; body = refl; sub = f.1; m = mt.0; t = mt.1 });
          body = λ i d lt. absurd (omega arith);
          tag = rest_bytes t (λ i. rw get_or-drop (all (4 + i))) 12;
          tag_size = omega (arith, long, length-drop 12 t, length-drop 4 s);
        };
        spelled = parts_are s le w ∙ ap (λ (x : List ℕ). prefix_bytes (prefix_read s) ++ x)
            (sym (take-append-drop 12 t));
      },
      record { head = head; body = refl; sub = f.1; m = mt.0; t = mt.1 },
    )

packet_whole : (s : List ℕ) → Fitting packet_may_follow s (length s) → length s ≡ packet_size s → IsPacket s
packet_whole s w size =
    let some : 16 ≤ length s = omega (arith, size_at_least s) in
    elim (cases_Bool (sync_at s)) [
      | inl y ↦ record { packet = _; spells = (sync_spells s (omega arith) (walked s w) y size).0 }
      | inr n ↦ record { packet = _; spells = carried_spells s (omega arith) (walked s w) n size }
    ]

-- ---- what is spelled walks

pub prefix_again : (m k t : Bool) (sub : SubKind) (stream posted : ℕ) (x : List ℕ)
    → prefix_read (prefix_bytes (Prefix-of m k t sub stream posted) ++ x) ≡ Prefix-of m k t sub stream posted
prefix_again m k t sub stream posted x =
    ap (λ (q : Bool × Bool × Bool × SubKind). Prefix-of q.0 q.1 q.2 q.3 stream posted) (parts_of m k t sub)

flags_good : (m k t : Bool) (sub : SubKind) → (flags m k t sub < 256) × (flags_fit (flags m k t sub) ≡ true)
flags_good m k t sub =
    let bm = bit_small m in
    let bk = bit_small k in
    let bt = bit_small t in
    let bs = sub_small sub in
    let clear : flags m k t sub / 8 % 4 ≡ 0 = omega arith in
    (omega arith, rw (eq-eqb _ _ clear) (lt-ltb _ _ (omega (arith, low_flags m k t sub))))

posted_good : (sub : SubKind) (posted : ℕ) → (sub ≡ Pr → posted ≡ 0) → cond (eqb (sub_bits sub) 0) (eqb posted 0) true
    ≡ true
posted_good Pr posted none = eq-eqb _ _ (none refl)
posted_good Npr posted none = refl
posted_good Cpl posted none = refl

at_tail : (a b c d : ℕ) (x : List ℕ) (i : ℕ) → 4 ≤ i → get_or (a ∷ b ∷ c ∷ d ∷ x) i 0 ≡ get_or x (i - 4) 0
at_tail a b c d x i le =
    let s = a ∷ b ∷ c ∷ d ∷ x in
    let e : i ≡ 4 + (i - 4) = omega arith in
    ap (λ (j : ℕ). get_or s j 0) e ∙ sym (get_or-drop 4 s (i - 4) 0)

-- a prefix, and bytes after it
early_good : (p : Prefix) (x : List ℕ) → FitsPrefix p → fits_first p (get_or x 0 0) ≡ true → (i : ℕ) → i < 5
    → fits_early i (prefix_bytes p ++ x) (get_or (prefix_bytes p ++ x) i 0) ≡ true
early_good p x f first zero lt = refl
early_good p x f first (suc zero) lt = (flags_good p.m p.k p.t p.sub).1
early_good p x f first (suc (suc zero)) lt = refl
early_good p x f first (suc (suc (suc zero))) lt = rw (low_flags p.m p.k p.t p.sub) (posted_good p.sub p.posted f.none)
early_good p x f first (suc (suc (suc (suc zero)))) lt = subst (λ (q : Prefix). fits_first q (get_or x 0 0) ≡ true)
    (sym (prefix_again p.m p.k p.t p.sub p.stream p.posted x)) first
early_good p x f first (suc (suc (suc (suc (suc i))))) lt = absurd (omega arith)

prefix_fit : (p : Prefix) (x : List ℕ) → FitsPrefix p → IsBytes x → IsBytes (prefix_bytes p ++ x)
prefix_fit p x f all zero = omega arith
prefix_fit p x f all (suc zero) = (flags_good p.m p.k p.t p.sub).0
prefix_fit p x f all (suc (suc zero)) = f.stream
prefix_fit p x f all (suc (suc (suc zero))) = f.posted
prefix_fit p x f all (suc (suc (suc (suc i)))) = all i

-- a packet that carries a TLP
append_bytes : (a b : List ℕ) → IsBytes a → IsBytes b → IsBytes (a ++ b)
append_bytes a b p q i = elim (cases_lt i (length a)) [
  | inl less ↦ rw (get_or_append_left a b 0 i less) (p i)
  | inr past ↦ rw (get_or-append_right a b (length a) i 0 refl past) (q (i - length a))
]

pub sync_is : (p : Prefix) (x : List ℕ) → sync_at (prefix_bytes p ++ x) ≡ begins_sync p.sub (get_or x 0 0)
sync_is p x = ap (λ (q : Prefix). begins_sync q.sub (get_or x 0 0)) (prefix_again p.m p.k p.t p.sub p.stream p.posted x)

tag_is : (p : Prefix) (x : List ℕ) → tag_part (prefix_bytes p ++ x) ≡ cond p.m 12 0
tag_is p x = ap (λ (q : Prefix). cond q.m 12 0) (prefix_again p.m p.k p.t p.sub p.stream p.posted x)

-- what a spelled packet is to a reader
pub record IsWholePacket (s : List ℕ) : Type 0 where
  pub walked : IsWalkedPacket s (length s)
  pub size : length s ≡ packet_size s

carried_spelled : (p : Packet) → FitsPacket p → IsCarried p → IsWholePacket (packet_bytes p)
carried_spelled p f c =
    let more = p.body ++ p.tag in
    let x = p.head ++ more in
    let k = layout_of c.head.fields in
    let r : IsRight k p.head = subst (IsRight k) (sym c.spells.spelled) (kept c.head c.spells.fits) in
    let same : head_of k x ≡ c.head = ap (λ (h : List ℕ). head_of k (h ++ more)) c.spells.spelled ∙ again c.head more
    c.spells.fits in
    let all : IsBytes more = append_bytes p.body p.tag (all_bytes p.body f.body) (all_bytes p.tag f.tag) in
    let w : IsWalked k x (length x) = walked_of k p.head more r all in
    let bytes : IsBytes x = append_bytes p.head more r.fit all in
    let plain : begins_sync p.prefix.sub (get_or x 0 0) ≡ false = not_sync p.prefix.sub c.head (get_or x 0 0) w.kind
    c.class in
    let class = ap (λ (h : HeadView). kind_class (kind_of_layout k h.has_payload)) same ∙ c.class in
    let carried : belongs p.prefix.sub (kind_of_byte (get_or x 0 0)) ≡ true = rw w.kind (eq-eqb _ _ (ap sub_bits class))
    in
    let first : fits_first p.prefix (get_or x 0 0) ≡ true = rw plain carried in
    let no : sync_at (packet_bytes p) ≡ false = sync_is p.prefix x ∙ plain in
    let head0 : get_or x 0 0 ≡ get_or p.head 0 0 = get_or_append_left p.head more 0 0
    (omega (arith, r.size, head_size_at_least (get_or p.head 0 0))) in
    let wants : rest_size x ≡ body_size c.head.has_payload c.head.lead.length = ap
    (λ (h : HeadView). body_size h.has_payload h.lead.length) same in
    record {
      walked = record {
        fit = λ i lt. prefix_fit p.prefix x f.prefix bytes i;
        early = λ i lt few. early_good p.prefix x f.prefix first i few;
        zeros = λ y i many lt less. absurd (true≢false (sym y ∙ no));
        late = λ n i many lt.
            let byte = at_tail 0x92 (flags p.prefix.m p.prefix.k p.prefix.t p.prefix.sub) p.prefix.stream
            p.prefix.posted x i (omega arith) in
            rw byte (fits_from k x (length x) w (omega arith) (i - 4) (omega arith));
      };
      size = omega (
        arith,
        size_carried (packet_bytes p) no,
        tag_is p.prefix x,
        f.tag_size,
        length-append p.head more,
        length-append p.body p.tag,
        r.size,
        ap head_size head0,
        wants,
        c.size,
      );
    }

sync_fit : IsBytes sync_head
sync_fit zero = omega arith
sync_fit (suc i) = elim (cases_lt i 11) [
  | inl lt ↦ rw (get_or-replicate {A = ℕ} 11 i 0 0 lt) (omega arith)
  | inr past ↦ rw (get_or_past (replicate {A = ℕ} 11 0) i 0 past) (omega arith)
]

pub sync_begins : (sub : SubKind) → (sub ≡ Pr → ⊥) → begins_sync sub 0x34 ≡ true
sync_begins Pr ne = absurd (ne refl)
sync_begins Npr ne = refl
sync_begins Cpl ne = refl

sync_spelled : (p : Packet) → FitsPacket p → IsSync p → IsWholePacket (packet_bytes p)
sync_spelled p f y =
    let more = p.body ++ p.tag in
    let x = p.head ++ more in
    let all : IsBytes more = append_bytes p.body p.tag (all_bytes p.body f.body) (all_bytes p.tag f.tag) in
    let twelve' : length p.head ≡ 12 = ap length y.head in
    let at_head : (i : ℕ) → i < 12 → get_or x i 0 ≡ get_or sync_head i 0 = λ i lt. get_or_append_left p.head more 0 i
    (omega arith) ∙ ap (λ (h : List ℕ). get_or h i 0) y.head in
    let zero_at : (i : ℕ) → 0 < i → i < 12 → get_or x i 0 ≡ 0 = λ i pos lt. at_head i lt ∙ sync_zero i pos lt in
    let head_fit : IsBytes p.head = subst IsBytes (sym y.head) sync_fit in
    let bytes : IsBytes x = append_bytes p.head more head_fit all in
    let begins : begins_sync p.prefix.sub (get_or x 0 0) ≡ true = ap (begins_sync p.prefix.sub)
    (at_head 0 (omega arith)) ∙ sync_begins p.prefix.sub y.sub in
    let first : fits_first p.prefix (get_or x 0 0) ≡ true = rw (begins, y.m, y.t) refl in
    let is : sync_at (packet_bytes p) ≡ true = sync_is p.prefix x ∙ begins in
    record {
      walked = record {
        fit = λ i lt. prefix_fit p.prefix x f.prefix bytes i;
        early = λ i lt few. early_good p.prefix x f.prefix first i few;
        zeros = λ t i many lt less. at_tail 0x92 (flags p.prefix.m p.prefix.k p.prefix.t p.prefix.sub) p.prefix.stream
            p.prefix.posted x i (omega arith) ∙ zero_at (i - 4) (omega arith) (omega arith);
        late = λ n i many lt. absurd (true≢false (sym is ∙ n));
      };
      size = omega (
        arith,
        size_sync (packet_bytes p) is,
        tag_is p.prefix x,
        f.tag_size,
        length-append p.head more,
        length-append p.body p.tag,
        twelve',
        ap length y.body,
      );
    }

pub spelled_whole : (s : List ℕ) → IsPacket s → IsWholePacket s
spelled_whole s i = subst IsWholePacket (sym i.spells.spelled)
    (elim i.spells.fits.carries
    [ inl c ↦ carried_spelled i.packet i.spells.fits c | inr y ↦ sync_spelled i.packet i.spells.fits y ])

-- ---- one byte more

abbrev first_of : SubKind → ℕ
first_of Pr = 64
first_of Npr = 0
first_of Cpl = 10

first_fits : (p : Prefix) (sub : SubKind) → p.sub ≡ sub → (first_of p.sub < 256)
    × (fits_first p (first_of p.sub) ≡ true)
first_fits p Pr e = rw e (omega arith, refl)
first_fits p Npr e = rw e (omega arith, refl)
first_fits p Cpl e = rw e (omega arith, refl)

either : (x : Bool) → cond x true true ≡ true
either true = refl
either false = refl

early_next : (n : ℕ) (s : List ℕ) → n < 5 → (b : ℕ) × (b < 256) × (fits_early n s b ≡ true)
early_next zero s lt = (0x92, omega arith, refl)
early_next (suc zero) s lt = (0, omega arith, refl)
early_next (suc (suc zero)) s lt = (0, omega arith, refl)
early_next (suc (suc (suc zero))) s lt = (0, omega arith, either (eqb (get_or s 1 0 % 8) 0))
early_next (suc (suc (suc (suc zero)))) s lt = let f = first_fits (prefix_read s) (prefix_read s).sub refl in
    (_, f.0, f.1)
early_next (suc (suc (suc (suc (suc n))))) s lt = absurd (omega arith)

packet_next : (s : List ℕ) → Fitting packet_may_follow s (length s) → (b : ℕ) × IsTrue (packet_may_follow s b)
packet_next s w = elim (cases_lt (length s) 5) [
  | inl few ↦ let e = early_next (length s) s few in (e.0, rw (lt-ltb _ _ few) (and_from _ _ (lt-ltb _ _ e.1) e.2))
  | inr many ↦ elim (cases_Bool (sync_at s)) [
    | inl y ↦ (0, rw (le-ltb _ _ many, y) (either (ltb (length s) 16)))
    | inr n ↦
        let k = tail_walked s many (walked s w) n in
        let b = next_fits (drop 4 s) (fits_from k.0 (drop 4 s) (length (drop 4 s)) k.1 (omega arith)) in
        (b.0, rw (le-ltb _ _ many, n) (and_from _ _ (and_parts _ _ b.1).0 b.1))
  ]
]

pub packets : IsGrammar IsPacket packet_size packet_may_follow 8
packets = record {
  least = λ s. omega (arith, size_at_least s);
  front = size_front;
  walks = λ s i. let r = spelled_whole s i in (walks_from s (length s) (omega arith) r.walked, r.size);
  whole = packet_whole;
  next = λ s w lt. packet_next s w;
}
