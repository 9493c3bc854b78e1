-- What the reader finds is a spelling, or the first fault.
use Rattle.std.proofs.Common.{◌≡◌, ℕ, ◌+◌, ◌<◌, ◌≤◌, true, ltb, List, length, get_or, take, drop, Option, Some, None}
use Rattle.std.proofs.Common.{is_some, refl, sym, ap, subst, ◌∙◌, inl, inr, arith}
use Rattle.std.proofs.lemmas.Bool.{cases_eq, le-ltb, eq-eqb, ne_eqb, and_parts}
use Rattle.std.proofs.lemmas.List.{take_all}
use Rattle.tlp_layout.specs.{Layout, HeadView, body_size, TlpFault, SpellsHead, head_size, layout_of_byte, fault_at}
use Rattle.tlp_layout.specs.{IsFault, IsHeadFault, head_of, rest_size, whole_size, may_follow, SpellsTlp, with_payload}
use Rattle.tlp_layout.specs.declared.fault.TlpFault.TheVariants as faults
use Rattle.tlp_layout.specs.Inside.{Agrees, TlpGoesOff, TlpGoesOffAtPlace}
use Rattle.ide_types.proofs.Cells.{IsBytes}
use Rattle.tlp_layout.proofs.Heads.{back, head_size_at_least}
use Rattle.tlp_layout.proofs.Walk.{IsWalked, fits_from, agrees_there}
use Rattle.ide_types.proofs.Fronts.{EndsAt, place_of}
use Rattle.tlp_layout.proofs.Grammar.{heads, tlps, take_right, parts_spell}

-- ---- a header that goes wrong

no_kind : (o : Option Layout) → o ≡ None → is_some o ≡ true → ⊥
no_kind None e t = absurd cc
no_kind (Some k) e t = absurd cc

stops_short : (s : List ℕ) (f : TlpFault) (place : ℕ) → TlpGoesOffAtPlace s f place → place < head_size (get_or s 0 0)
stops_short s f place h = elim (cases_eq place 0) [
  | inl none ↦ omega (arith, head_size_at_least (get_or s 0 0))
  | inr some ↦ (h.behind (omega arith)).2
]

stops_end : (size : List ℕ → ℕ) (s : List ℕ) (f : TlpFault) (place : ℕ) → place ≤ size s → IsBytes s
    → TlpGoesOffAtPlace s f place → EndsAt size may_follow s place
stops_end size s f place sized fit h = record {
  within = h.within;
  sized = sized;
  fitting = λ i lt.
      let b = h.behind (omega arith) in
      fits_from b.0 s place (record { fit = λ j less. fit j; kind = b.1; agrees = λ j p less m. b.3 j p less }) h.within
      i lt;
  off = λ less more fits. elim (cases_eq place 0) [
    | inl none ↦
        let first : may_follow (take 0 s) (get_or s 0 0) ≡ true = subst
        (λ (p : ℕ). may_follow (take p s) (get_or s p 0) ≡ true) none fits in
        let yes = (and_parts (ltb (get_or s 0 0) 256) (is_some (layout_of_byte (get_or s 0 0))) first).1 in
        no_kind (layout_of_byte (get_or s 0 0)) (h.first none less) yes
    | inr some ↦
        let b = h.behind (omega arith) in
        let no = b.4 less in
        let yes = agrees_there b.0 s b.1 place less (omega arith) b.2 fits in
        absurd cc
  ];
}

pub head_fault : (s : List ℕ) (f : TlpFault) → IsBytes s → TlpGoesOff s f → IsHeadFault s f
head_fault s f fit h =
    let short = stops_short s f h.0 h.1 in (
      h.0,
      place_of heads s h.0 (stops_end (λ x. head_size (get_or x 0 0)) s f h.0 (omega arith) fit h.1) (λ _. short),
      h.1.cause,
    )

pub tlp_fault : (s : List ℕ) (f : TlpFault) → IsBytes s → TlpGoesOff s f → IsFault s f
tlp_fault s f fit h =
    let short = stops_short s f h.0 h.1 in
    (h.0, place_of tlps s h.0 (stops_end whole_size s f h.0 (omega arith) fit h.1) (λ _. omega arith), h.1.cause)

-- ---- after a header

-- the bytes begin with a header
pub record HasHead (k : Layout) (s : List ℕ) (n : ℕ) : Type 0 where
  pub fit : IsBytes s
  pub kind : layout_of_byte (get_or s 0 0) ≡ Some k
  pub size : n ≡ head_size (get_or s 0 0)
  pub within : n ≤ length s
  pub agrees : Agrees k s n

pub has_head : (k : Layout) (s : List ℕ) (n : ℕ) → layout_of_byte (get_or s 0 0) ≡ Some k
    → (n ≡ head_size (get_or s 0 0)) × (n ≤ length s) → Agrees k s n → IsBytes s → HasHead k s n
has_head k s n kind size agrees fit = record { fit = fit; kind = kind; size = size.0; within = size.1; agrees = agrees }

-- how many bytes follow, by the header that is read
pub wanted_is : (k : Layout) (s : List ℕ) {h : HeadView} {wanted : ℕ} → h ≡ head_of k s
    → wanted ≡ body_size h.has_payload h.lead.length → wanted ≡ rest_size s
wanted_is k s is wants = wants ∙ ap (λ (x : HeadView). body_size x.has_payload x.lead.length) is

walked : (k : Layout) (s : List ℕ) (n : ℕ) → HasHead k s n → IsWalked k s (length s)
walked k s n h = record
    { fit = λ i lt. h.fit i; kind = h.kind; agrees = λ i p lt less. let size = h.size in h.agrees i p (omega arith) }

pub head_found : (k : Layout) (s : List ℕ) (n : ℕ) → HasHead k s n → length s ≤ n → SpellsHead (head_of k s) s
head_found k s n h le =
    let r = take_right k s n h.size h.within (walked k s n h) in
    back k s (rw (take_all n s le) at r)

-- up to the length that they say, they are a prefix of a spelling
ends : (size : List ℕ → ℕ) (k : Layout) (s : List ℕ) (n : ℕ) → HasHead k s n → (place : ℕ) → place ≤ length s
    → place ≤ size s → (place < length s → place ≡ size s) → EndsAt size may_follow s place
ends size k s n h place le sized there = record {
  within = le;
  sized = sized;
  fitting = λ i lt. fits_from k s (length s) (walked k s n h) (omega arith) i (omega arith);
  off = λ less more fits. let at = there less in omega arith;
}

trailing_is : (s : List ℕ) (place : ℕ) → 12 ≤ place → place < length s → head_size (get_or s 0 0) ≤ place
    → faults.Trailing place ≡ fault_at s place
trailing_is s place some lt past = rw (
  ne_eqb place (length s) (λ e. omega arith),
  ne_eqb place 0 (λ e. omega arith),
  le-ltb place
      (head_size (get_or s 0 0)) past,
) refl

pub head_trails : (k : Layout) (s : List ℕ) (n : ℕ) → HasHead k s n → n < length s → IsHeadFault s (faults.Trailing n)
head_trails k s n h lt =
    let size = h.size in
    let some : 12 ≤ n = omega (arith, head_size_at_least (get_or s 0 0)) in (
      n,
      place_of heads s n (ends (λ x. head_size (get_or x 0 0)) k s n h n h.within (omega arith) (λ _. size))
          (λ e. absurd (omega arith)),
      trailing_is s n some lt (omega arith),
    )

pub tlp_short : (k : Layout) (s : List ℕ) (n wanted : ℕ) → HasHead k s n → wanted ≡ rest_size s → length s < n + wanted
    → IsFault s (faults.Short (length s))
tlp_short k s n wanted h e lt =
    let size = h.size in
    let less : length s < whole_size s = omega arith in (
      length s,
      place_of tlps s (length s)
          (ends whole_size k s n h (length s) (omega arith) (omega arith) (λ l. absurd (omega arith))) (λ _. less),
      rw
          (eq-eqb (length s) (length s) refl) refl,
    )

pub tlp_trails : (k : Layout) (s : List ℕ) (n wanted : ℕ) → HasHead k s n → wanted ≡ rest_size s → n + wanted < length s
    → IsFault s (faults.Trailing (n + wanted))
tlp_trails k s n wanted h e lt =
    let size = h.size in
    let all : n + wanted ≡ whole_size s = omega arith in
    let some : 12 ≤ n = omega (arith, head_size_at_least (get_or s 0 0)) in (
      n + wanted,
      place_of tlps s (n + wanted) (ends whole_size k s n h (n + wanted) (omega arith) (omega arith) (λ _. all))
          (λ e. absurd (omega arith)),
      trailing_is s (n + wanted) (omega arith) lt (omega arith),
    )

pub tlp_found : (k : Layout) (s : List ℕ) (n wanted : ℕ) → HasHead k s n → wanted ≡ rest_size s → length s ≡ n + wanted
    → SpellsTlp (with_payload (head_of k s) (drop n s)) s
tlp_found k s n wanted h e long =
    subst (λ (m : ℕ). SpellsTlp (with_payload (head_of k s) (drop m s)) s) (sym h.size)
    (parts_spell k s (walked k s n h) (let size = h.size in omega arith))
