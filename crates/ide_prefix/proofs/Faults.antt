-- Where a packet goes wrong: each byte before the place was judged good by its place, and the one there is not; a fault
-- of the header is the same fault four bytes on.
use Rattle.std.proofs.Common.{◌≡◌, ℕ, ◌+◌, ◌-◌, ◌<◌, ◌≤◌, Bool, true, false, cond, IsTrue, List, [], length, get_or}
use Rattle.std.proofs.Common.{take, drop, Option, Some, None, is_some, refl, sym, ap, subst, ◌∙◌, inl, inr, arith}
use Rattle.std.proofs.Common.{length-take, length-drop, get_or-take, get_or-drop, take-append-drop, take-take}
use Rattle.std.proofs.Common.{append-nil, min, not, add_comm}
use Rattle.std.specs.Prelude.{MatchOption}
use Rattle.std.specs.Array.{IsWholeChunk}
use Rattle.tlp_layout.specs.{kind_of_byte, head_size, has_data, layout_of_byte, fault_at, cause_at, head_of, rest_size}
use Rattle.tlp_layout.specs.{may_follow, body_size, layout_of, head_bytes}
use Rattle.ide_prefix.specs.Causes.{prefix_read, clear_size, fits_early, packet_fault_at}
use Rattle.ide_prefix.specs.Cut.{lent_tag}
use Rattle.ide_prefix.specs.Faults.{GoesOff}
use Rattle.ide_prefix.specs.Packet.{FitsPacket, SpellsPacket, HasTlp, begins_sync}
use Rattle.ide_prefix.specs.Reading.{sync_at, tag_part, packet_size, packet_may_follow}
use Rattle.ide_prefix.specs.declared.fault.PacketFault.{PacketFault}
use Rattle.ide_prefix.specs.declared.packet.Prefix.{Prefix}
use Rattle.ide_prefix.specs.Inside.{GoesOffEarly, GoesOffInSync, GoesOffInHead, IsInClear, SizesAre, head_slice}
use Rattle.ide_prefix.specs.Inside.{packet_fault_of_tlp}
use Rattle.tlp_layout.specs.Head.{SpellsHead}
use Rattle.tlp_layout.specs.Reading.{read_head_of}
use Rattle.tlp_layout.proofs.Readings.{read_head_spells}
use Rattle.ide_types.proofs.Cells.{IsBytes}
use Rattle.ide_prefix.proofs.Grammar.{IsWalkedPacket, walks_from, walked_early, walked_late, size_at_least}
use Rattle.ide_prefix.proofs.Grammar.{size_carried, size_sync, packets, packet_of, sync_spells, carried_spells}
use denote.Ref.{Bor}
use Rattle.std.proofs.lemmas.Bool.{cases_lt, cases_eq, cases_Bool, lt-ltb, le-ltb, eq-eqb, eqb-true, ne_eqb, and_from}
use Rattle.std.proofs.lemmas.Bool.{true≢false}
use Rattle.std.proofs.lemmas.List.{nil_from_length}
use Rattle.ide_types.proofs.Fronts.{Fitting, EndsAt, place_of, ends_of}
use Rattle.ide_prefix.specs.declared.fault.PacketFault.TheVariants.{Short, Trailing, Tlp}
use Rattle.ide_prefix.proofs.Terms.{Layout, HeadView, belongs, fault_after_prefix, kind_if_layout, Packet, IsRight}
use Rattle.ide_prefix.proofs.Terms.{kept, again, body_at_most, IsWalked, fits_from, head_size_at_least, rest_front}
use Rattle.ide_prefix.proofs.Terms.{SubKind, heads, is_right, walked_of}

-- a walk up to a place, and no further
halt : (s : List ℕ) (place : ℕ) → place ≤ length s → place ≤ packet_size s → IsWalkedPacket s place
    → (place < length s → place < packet_size s → IsTrue (packet_may_follow (take place s) (get_or s place 0)) → ⊥)
    → EndsAt packet_size packet_may_follow s place
halt s place le size w off = record { within = le; sized = size; fitting = walks_from s place le w; off = off }

pub early_fault : (s : List ℕ) (f : PacketFault) (place : ℕ) → IsBytes s → GoesOffEarly s f place → GoesOff s f
early_fault s f place fit h =
    let early = h.early in
    let size : place < packet_size s = omega (arith, size_at_least s) in (
      place,
      place_of packets s place (halt s place h.within (omega arith) (record {
        fit = λ i lt. fit i;
        early = λ i lt few. h.before i lt;
        zeros = λ y i many lt less. absurd (omega arith);
        late = λ n i many lt. absurd (omega arith);
      }) (λ less more t. true≢false (sym (walked_early s place less early t) ∙ h.off less))) (λ _. size),
      h.cause,
    )

pub sync_fault : (s : List ℕ) (f : PacketFault) (place : ℕ) → IsBytes s
    → ((i : ℕ) → i < 5 → fits_early i s (get_or s i 0) ≡ true) → sync_at s ≡ true → GoesOffInSync s f place
    → GoesOff s f
sync_fault s f place fit early y h =
    let b = h.behind in
    let size : place < packet_size s = omega (arith, size_at_least s) in (
      place,
      place_of packets s place (halt s place h.within (omega arith) (record {
        fit = λ i lt. fit i;
        early = λ i lt few. early i few;
        zeros = λ y' i many lt less. h.before i many lt;
        late = λ n i many lt. absurd (true≢false (sym y ∙ n));
      }) (λ less more t. h.off less (eqb-true _ _ (rw (y, lt-ltb place 16 b.1) at (walked_late s place less b.0 t)))))
          (λ _. size),
      h.cause,
    )

-- ---- a header after the prefix

-- the walk of a header's first bytes, as the packet's
head_walked : (s : List ℕ) (place : ℕ) → IsBytes s → 5 ≤ length s
    → ((i : ℕ) → i < 5 → fits_early i s (get_or s i 0) ≡ true) → sync_at s ≡ false
    → place ≤ length (head_slice s) → Fitting may_follow (head_slice s) place → IsWalkedPacket s (4 + place)
head_walked s place fit long early plain le w = record {
  fit = λ i lt. fit i;
  early = λ i lt few. early i few;
  zeros = λ y i many lt less. absurd (true≢false (sym y ∙ plain));
  late = λ n i many lt.
      let size = head_size (get_or s 4 0) in
      let len : length (head_slice s) ≤ size = omega (arith, length-take size (drop 4 s)) in
      let t : may_follow (take (i - 4) (head_slice s)) (get_or (head_slice s) (i - 4) 0)
      ≡ true = w (i - 4) (omega arith) in
      let l2 : i - 4 < size = omega arith in
      let l4 : i - 4 ≤ size = omega arith in
      let j : 4 + (i - 4) ≡ i = omega arith in
      rw (take-take (i - 4) size (drop 4 s) l4, get_or-take size (drop 4 s) (i - 4) 0 l2, get_or-drop 4 s (i - 4) 0, j)
      at t;
}

-- a header's first bytes are not off at the first one, if the packet's byte 4 is right
some_kind : (sub : SubKind) (p : Bool) (o : Option Layout) → belongs sub (kind_if_layout o p) ≡ true → is_some o ≡ true
some_kind sub p None e = absurd cc
some_kind sub p (Some k) e = refl

begins_head : (s : List ℕ) → IsBytes s → 5 ≤ length s → ((i : ℕ) → i < 5 → fits_early i s (get_or s i 0) ≡ true)
    → sync_at s ≡ false → IsTrue (may_follow [] (get_or s 4 0))
begins_head s fit long early plain =
    let first : cond (sync_at s) (cond (prefix_read s).m (not (prefix_read s).t) false)
    (belongs (prefix_read s).sub (kind_of_byte (get_or s 4 0))) ≡ true = early 4 (omega arith) in
    let c : belongs (prefix_read s).sub (kind_of_byte (get_or s 4 0)) ≡ true = rw plain at first in
    and_from _ _ (lt-ltb _ _ (fit 4))
    (some_kind (prefix_read s).sub (has_data (get_or s 4 0)) (layout_of_byte (get_or s 4 0)) c)

shifted_cause : (p b : ℕ) → packet_fault_of_tlp (cause_at p b) ≡ Tlp (fault_after_prefix (cause_at p b))
shifted_cause p b = elim (cases_eq p 2) [
  | inl two ↦ elim (cases_lt b 64) [
    | inl lt ↦ rw (eq-eqb p 2 two, lt-ltb b 64 lt) refl
    | inr le ↦ rw (eq-eqb p 2 two, le-ltb b 64 le) refl
  ]
  | inr ne ↦ elim (cases_eq p 3) [
    | inl three ↦ rw (ne_eqb p 2 ne, eq-eqb p 3 three) refl
    | inr other ↦ rw (ne_eqb p 2 ne, ne_eqb p 3 other) refl
  ]
]

pub header_fault : (s : List ℕ) (f : PacketFault) → IsBytes s → 5 ≤ length s
    → ((i : ℕ) → i < 5 → fits_early i s (get_or s i 0) ≡ true) → sync_at s ≡ false → GoesOffInHead s f → GoesOff s f
header_fault s f fit long early plain h =
    let front = head_slice s in
    let size = head_size (get_or s 4 0) in
    let p = h.1.0 in
    let ends = ends_of heads front p h.1.1 in
    let within = ends.0.within in
    let some : 12 ≤ size = head_size_at_least (get_or s 4 0) in
    let len : length front ≡ min size (length s - 4) = omega (arith, length-take size (drop 4 s), length-drop 4 s) in
    let first : get_or front 0 0 ≡ get_or s 4 0 = get_or-take size (drop 4 s) 0 0 (omega arith) ∙ get_or-drop 4 s 0 0 in
    let pos : 0 < p = elim (cases_eq p 0) [
      | inl none ↦
          let off = subst (λ (q : ℕ). q < length front → q < head_size (get_or front 0 0)
          → IsTrue (may_follow (take q front) (get_or front q 0)) → ⊥) none ends.0.off in
          absurd (off (omega arith) (omega (arith, ap head_size first)) (rw first (begins_head s fit long early plain)))
      | inr other ↦ omega arith
    ] in
    let less : p < size = elim (cases_eq p (length front))
    [ inl all ↦ omega (arith, ends.1 all, ap head_size first) | inr part ↦ omega arith ] in
    let needs : p < head_size (get_or front 0 0) = omega (arith, ap head_size first) in
    let whole : 4 + p < packet_size s = omega (arith, size_carried s plain, ap head_size (get_or-drop 4 s 0 0)) in
    let four : 4 + p - 4 ≡ p = omega arith in
    let inside : 4 + p < length s → p < length front = λ lt. omega arith in
    let off : 4 + p < length s → 4 + p < packet_size s → IsTrue
    (packet_may_follow (take (4 + p) s) (get_or s (4 + p) 0)) → ⊥ = λ lt more t.
    let there : may_follow (take (4 + p - 4) (drop 4 s)) (get_or s (4 + p) 0)
    ≡ true = rw plain at (walked_late s (4 + p) lt (omega arith) t) in
    let le : p ≤ size = omega arith in
    let here : may_follow (take p front) (get_or front p 0) ≡ true = rw
    (take-take p size (drop 4 s) le, get_or-take size (drop 4 s) p 0 less, get_or-drop 4 s p 0) (rw four at there)
    in
    ends.0.off (inside lt) needs here in
    let shift : packet_fault_of_tlp (fault_at front p) ≡ packet_fault_at s (4 + p) = elim (cases_eq p (length front)) [
      | inl all ↦
          let end : 4 + p ≡ length s = omega arith in
          rw (eq-eqb p (length front) all, eq-eqb (4 + p) (length s) end, add_comm 4 p) refl
      | inr part ↦
          let e1 : 4 + p ≡ length s → ⊥ = λ e. omega arith in
          let e2 : p ≡ 0 → ⊥ = λ e. omega arith in
          let byte : get_or front p 0 ≡ get_or s (4 + p) 0 = get_or-take size (drop 4 s) p 0 less ∙ get_or-drop 4 s p 0
          in
          rw (
            ne_eqb p (length front) part,
            ne_eqb p 0 e2,
            first,
            lt-ltb p size less,
            ne_eqb (4 + p) (length s) e1,
            le-ltb (4 + p) 5 (omega arith),
            plain,
            lt-ltb (4 + p) (4 + size) (omega arith),
            four,
            byte,
          )
          (shifted_cause p (get_or s (4 + p) 0))
    ] in
    let end = halt s (4 + p) (omega arith) (omega arith) (head_walked s p fit long early plain within ends.0.fitting)
    off in
    (4 + p, place_of packets s (4 + p) end (λ _. whole), h.2 ∙ ap packet_fault_of_tlp h.1.2 ∙ shift)

-- ---- the whole packet

header_in : (s : List ℕ) (tlp : Option HeadView) → IsInClear s tlp → sync_at s ≡ false
    → (h : HeadView) × SpellsHead h (head_slice s)
header_in s None is plain = absurd (true≢false (sym is ∙ plain))
header_in s (Some h) is plain = (h, is.1)

whole_walk : (s : List ℕ) (tlp : Option HeadView) (size wanted : ℕ) → IsBytes s → 5 ≤ length s
    → ((i : ℕ) → i < 5 → fits_early i s (get_or s i 0) ≡ true) → SizesAre s tlp size wanted
    → IsWalkedPacket s (length s)
whole_walk s tlp size wanted fit long early z = record {
  fit = λ i lt. fit i;
  early = λ i lt few. early i few;
  zeros = λ y i many lt less. z.zeros y i many less;
  late = λ plain i many lt.
      let h = header_in s tlp z.in_clear plain in
      let t = drop 4 s in
      let hs = head_size (get_or s 4 0) in
      let r = is_right (head_slice s) (record { head = h.0; spells = h.1 }) in
      let rest : IsBytes (drop hs t) = λ j. rw (get_or-drop, get_or-drop) (fit (4 + (hs + j))) in
      let w = subst (λ (x : List ℕ). IsWalked r.0 x (length x)) (take-append-drop hs t)
      (walked_of r.0 (head_slice s) (drop hs t) r.1 rest) in
      let j : 4 + (i - 4) ≡ i = omega arith in
      let t : may_follow (take (i - 4) t) (get_or t (i - 4) 0)
      ≡ true = fits_from r.0 t (length t) w (omega arith) (i - 4) (omega (arith, length-drop 4 s)) in
      rw (get_or-drop 4 s (i - 4) 0, j) at t;
}

total_is : (s : List ℕ) (tlp : Option HeadView) (size wanted : ℕ) → SizesAre s tlp size wanted
    → packet_size s ≡ 4 + size + wanted + tag_part s
total_is s tlp size wanted z =
    let a = z.size_is in
    let b = z.wanted_is in
    elim (cases_Bool (sync_at s)) [
      | inl y ↦ let a' : size ≡ 12 = rw y at a in let b' : wanted ≡ 0 = rw y at b in omega (arith, size_sync s y)
      | inr plain ↦ let a' : size ≡ head_size (get_or s 4 0) = rw plain at a in let b' : wanted
          ≡ rest_size (drop 4 s) = rw plain at b in omega
          (arith, size_carried s plain, ap head_size (get_or-drop 4 s 0 0))
    ]

pub short_fault : (s : List ℕ) (tlp : Option HeadView) (size wanted : ℕ) → IsBytes s → 5 ≤ length s
    → ((i : ℕ) → i < 5 → fits_early i s (get_or s i 0) ≡ true) → SizesAre s tlp size wanted
    → length s < 4 + size + wanted + tag_part s → GoesOff s (Short (length s))
short_fault s tlp size wanted fit long early z lt =
    let more : length s < packet_size s = omega (arith, total_is s tlp size wanted z) in
    let end = halt s (length s) (omega arith) (omega arith) (whole_walk s tlp size wanted fit long early z)
    (λ less most t. omega arith) in
    (length s, place_of packets s (length s) end (λ _. more), rw (eq-eqb (length s) (length s) refl) refl)

pub trailing_fault : (s : List ℕ) (tlp : Option HeadView) (size wanted place : ℕ) → IsBytes s → 5 ≤ length s
    → ((i : ℕ) → i < 5 → fits_early i s (get_or s i 0) ≡ true) → SizesAre s tlp size wanted
    → place ≡ 4 + size + wanted + tag_part s → place < length s → GoesOff s (Trailing place)
trailing_fault s tlp size wanted place fit long early z e lt =
    let total : packet_size s ≡ place = total_is s tlp size wanted z ∙ sym e in
    let some : 16 ≤ packet_size s = size_at_least s in
    let w = walks_from s (length s) (omega arith) (whole_walk s tlp size wanted fit long early z) in
    let end : EndsAt packet_size packet_may_follow s place = record {
      within = omega arith;
      sized = omega arith;
      fitting = λ i less. w i (omega arith);
      off = λ less more t. omega arith;
    } in
    let clear : 4 + clear_size (prefix_read s).sub (get_or s 4 0) ≤ place = omega (arith, z.size_is) in (
      place,
      place_of packets s place end (λ all. absurd (omega arith)),
      rw (
        ne_eqb place (length s) (λ x. omega arith),
        le-ltb place 5 (omega arith),
        le-ltb place
            (4 + clear_size (prefix_read s).sub (get_or s 4 0)) clear,
      ) refl,
    )

clear_size_at_least : (sub : SubKind) (b : ℕ) → 12 ≤ clear_size sub b
clear_size_at_least sub b = elim (cases_Bool (begins_sync sub b)) [
  | inl y ↦ rw y (omega arith)
  | inr n ↦ rw n (head_size_at_least b)
]

-- what stood in clear is what the header reads as
has_tlp : (s head body tag : List ℕ) (tlp : Option HeadView) (size : ℕ)
    → sync_at s ≡ begins_sync (prefix_read s).sub (get_or head 0 0)
    → size ≡ clear_size (prefix_read s).sub (get_or s 4 0) → head ≡ take size (drop 4 s) → IsInClear s tlp
    → HasTlp (packet_of s head body tag) tlp
has_tlp s head body tag None size flag ez eh is = sym flag ∙ is
has_tlp s head body tag (Some h) size flag ez eh is =
    let wide : size ≡ head_size (get_or s 4 0) = rw is.0 at ez in
    let same : head ≡ head_slice s = eh ∙ ap (λ (n : ℕ). take n (drop 4 s)) wide in
    (sym flag ∙ is.0, ap read_head_of same ∙ (read_head_spells h (head_slice s)).0 is.1)

pub spells_cut : (s head body tag : List ℕ) (tlp : Option HeadView) (size wanted : ℕ) → IsBytes s → 5 ≤ length s
    → ((i : ℕ) → i < 5 → fits_early i s (get_or s i 0) ≡ true) → SizesAre s tlp size wanted
    → length s ≡ 4 + size + wanted + tag_part s → head ≡ take size (drop 4 s) → body
    ≡ take wanted (drop size (drop 4 s)) → tag ≡ drop wanted (drop size (drop 4 s))
    → SpellsPacket (packet_of s head body tag) s × HasTlp (packet_of s head body tag) tlp
spells_cut s head body tag tlp size wanted fit long early z e eh eb et =
    let w = whole_walk s tlp size wanted fit long early z in
    let total : length s ≡ packet_size s = e ∙ sym (total_is s tlp size wanted z) in
    let a = z.size_is in
    let b = z.wanted_is in
    let some : 0 < size = omega (arith, z.size_is, clear_size_at_least (prefix_read s).sub (get_or s 4 0)) in
    let zeroth : get_or head 0 0 ≡ get_or s 4 0 = ap (λ (x : List ℕ). get_or x 0 0) eh ∙ get_or-take size (drop 4 s) 0 0
    some ∙ get_or-drop 4 s 0 0 in
    let flag : sync_at s ≡ begins_sync (prefix_read s).sub (get_or head 0 0) = ap (begins_sync (prefix_read s).sub)
    (sym zeroth) in
    let carried = has_tlp s head body tag tlp size flag z.size_is eh z.in_clear in
    elim (cases_Bool (sync_at s)) [
      | inl y ↦
          let a' : size ≡ 12 = rw y at a in
          let b' : wanted ≡ 0 = rw y at b in
          let sp = sync_spells s long w y total in
          let h : head ≡ take 12 (drop 4 s) = eh ∙ ap (λ (n : ℕ). take n (drop 4 s)) a' in
          let o : body ≡ [] = eb ∙ ap (λ (n : ℕ). take n (drop size (drop 4 s))) b' in
          let g : tag ≡ drop 12 (drop 4 s) = et ∙ ap (λ (n : ℕ). drop n (drop size (drop 4 s))) b' ∙ ap
          (λ (n : ℕ). drop n (drop 4 s)) a' in
          (rw (h, o, g) sp.0, carried)
      | inr plain ↦
          let a' : size ≡ head_size (get_or (drop 4 s) 0 0) = (rw plain at a) ∙ sym (ap head_size (get_or-drop 4 s 0 0))
          in
          let b' : wanted ≡ rest_size (drop 4 s) = rw plain at b in
          let sp = carried_spells s long w plain total in
          let h : head ≡ take (head_size (get_or (drop 4 s) 0 0)) (drop 4 s) = eh ∙ ap (λ (n : ℕ). take n (drop 4 s)) a'
          in
          let o : body ≡ take (rest_size (drop 4 s)) (drop (head_size (get_or (drop 4 s) 0 0)) (drop 4 s)) = eb ∙ ap
          (λ (n : ℕ). take n (drop size (drop 4 s))) b' ∙ ap
          (λ (n : ℕ). take (rest_size (drop 4 s)) (drop n (drop 4 s))) a' in
          let g : tag ≡ drop (rest_size (drop 4 s)) (drop (head_size (get_or (drop 4 s) 0 0)) (drop 4 s)) = et ∙ ap
          (λ (n : ℕ). drop n (drop size (drop 4 s))) b' ∙ ap
          (λ (n : ℕ). drop (rest_size (drop 4 s)) (drop n (drop 4 s))) a' in
          (rw (h, o, g) sp, carried)
    ]

pub header_sizes : (s : List ℕ) (head : HeadView) (wanted : ℕ) → 5 ≤ length s → sync_at s ≡ false
    → SpellsHead head (head_slice s) → wanted ≡ body_size head.has_payload head.lead.length
    → SizesAre s (Some head) (head_size (get_or s 4 0)) wanted
header_sizes s head wanted long plain spells wanted_is =
    let size = head_size (get_or s 4 0) in
    let some : 12 ≤ size = head_size_at_least (get_or s 4 0) in
    let k = layout_of head.fields in
    let r : IsRight k (head_slice s) = subst (IsRight k) (sym spells.spelled) (kept head spells.fits) in
    let first : get_or (head_slice s) 0 0 ≡ get_or s 4 0 = get_or-take size (drop 4 s) 0 0 (omega arith) ∙ get_or-drop 4
    s 0 0 in
    let same : head_of k (head_slice s) ≡ head = ap (head_of k)
    (spells.spelled ∙ sym (append-nil (head_bytes head))) ∙ again head [] spells.fits in
    let wants : rest_size (head_slice s) ≡ body_size head.has_payload head.lead.length = ap
    (λ (x : HeadView). body_size x.has_payload x.lead.length) same in
    let front : rest_size (head_slice s) ≡ rest_size (drop 4 s) = rest_front size (drop 4 s) (omega arith) in
    record {
      size_is = rw plain refl;
      within = omega (arith, r.size, ap head_size first, length-take size (drop 4 s), length-drop 4 s);
      wanted_is = rw plain (wanted_is ∙ sym wants ∙ front);
      small = rw wanted_is (body_at_most head.has_payload head.lead.length spells.fits.lead.length);
      zeros = λ y i many lt. absurd (true≢false (sym y ∙ plain));
      in_clear = (plain, spells);
    }

pub tag_long : (s : List ℕ) (size wanted : ℕ) → length s ≡ 4 + size + wanted + tag_part s
    → length (drop wanted (drop size (drop 4 s))) ≡ tag_part s
tag_long s size wanted e = omega
    (arith, e, length-drop wanted (drop size (drop 4 s)), length-drop size (drop 4 s), length-drop 4 s)

-- what `as_array` gives of the bytes after the payload: the tag if M is set
tag_is : (o : Option (Bor (List ℕ))) (t : List ℕ) (m : Bool) → length t ≡ cond m 12 0
    → MatchOption o (length t ≡ 12 → ⊥) (λ y. IsWholeChunk t y.now 12) → (lent_tag o ≡ t) × (is_some o ≡ m)
tag_is None t true e h = absurd (h e)
tag_is None t false e h = (sym (nil_from_length t e), refl)
tag_is (Some y) t true e h = (h.same, refl)
tag_is (Some y) t false e h = absurd (omega (arith, h.long, e))

abbrev pub packet_from : Prefix → List ℕ → List ℕ → List ℕ → Packet
packet_from p h b t = record { prefix = p; head = h; body = b; tag = t }

pub is_cut : (s head body rest : List ℕ) (o : Option (Bor (List ℕ))) (tlp : Option HeadView) (size wanted : ℕ)
    (p : Prefix)
    → IsBytes s → 5 ≤ length s → ((i : ℕ) → i < 5 → fits_early i s (get_or s i 0) ≡ true) → SizesAre s tlp size wanted
    → length s ≡ 4 + size + wanted + tag_part s → p ≡ prefix_read s → head ≡ take size (drop 4 s)
    → body ≡ take wanted (drop size (drop 4 s)) → rest ≡ drop wanted (drop size (drop 4 s))
    → MatchOption o (length rest ≡ 12 → ⊥) (λ y. IsWholeChunk rest y.now 12)
    → SpellsPacket (packet_from p head body (lent_tag o)) s ×
    (FitsPacket (packet_from p head body (lent_tag o)) ×
    HasTlp (packet_from p head body (lent_tag o)) tlp × (is_some o ≡ p.m))
is_cut s head body rest o tlp size wanted p fit long early z e ep eh eb er m =
    let t = tag_is o rest (prefix_read s).m (ap length er ∙ tag_long s size wanted e) m in
    let r = spells_cut s head body (lent_tag o) tlp size wanted fit long early z e eh eb (t.0 ∙ er) in
    rw ep (r.0, (r.0.fits, r.1, t.1))
