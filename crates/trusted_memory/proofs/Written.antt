-- One write in one page: what is read at each address afterwards is the write over what was read before, and a new page
-- of bytes 0 changes no byte. An address in the page of the write is reached as its place is in the page, both counted
-- from its first byte; one in another page is not reached, as the write crosses no 4 KiB boundary. Regions read the
-- same, since one region has the whole write, and so each byte that it enables.
use Rattle.std.proofs.Common.{◌≡◌, ◌≢◌, ℕ, ◌+◌, ◌-◌, ◌*◌, ◌/◌, ◌%◌, ◌<◌, ◌≤◌, Bool, true, false, cond, ◌&&◌, ◌||◌, eqb}
use Rattle.std.proofs.Common.{leb, ltb, List, [], length, map, get_or, replicate, Option, Some, None, unwrap_or}
use Rattle.std.proofs.Common.{is_some, refl, sym, ap, ◌∙◌, inl, inr, arith}
use Rattle.std.specs.Map.{lookup, keys_of}
use Rattle.std.proofs.lemmas.Bool.{cases_Bool, true≢false, eqb-true, eqb-false}
use Rattle.std.proofs.lemmas.Bool.Decides.{nat_tests}
use Rattle.std.proofs.lemmas.List.{get_or-replicate}
use Rattle.std.proofs.lemmas.Map.Entries.{length-keys_of}
use Rattle.std.proofs.lemmas.Map.Made.{is_some-lookup}
use Rattle.ide_types.specs.declared.plan.Region.{Region}
use Rattle.trusted_memory.specs.declared.span.Span.{Span}
use Rattle.trusted_memory.specs.Spans.{span_byte_count, is_enabled, reaches, enables, crosses}
use Rattle.trusted_memory.specs.Writes.{Write, byte_written}
use Rattle.trusted_memory.specs.Regions.{in_region, in_one_region}
use Rattle.trusted_memory.specs.Memory.{byte_at, bytes_from, has_page}
use Rattle.trusted_memory.specs.Pages.{page_bytes, paged_byte, contents_seen, memory_seen, HasWritten}
use Rattle.trusted_memory.proofs.Seen.{byte_in_regions-seen, each_in_region}

-- ---- numbers

leb-shifted : (c x y : ℕ) → leb (c + x) (c + y) ≡ leb x y
leb-shifted c x y = grind (arith, nat_tests)

ltb-shifted : (c x y : ℕ) → ltb (c + x) (c + y) ≡ ltb x y
ltb-shifted c x y = grind (arith, nat_tests)

pub fits_page : (s : Span) → crosses s ≡ false → s.address % 4096 + span_byte_count s ≤ 4096
fits_page s e = grind (arith, nat_tests)

-- ---- the same page

-- the write with its place in its page
abbrev in_its_page : Write → Write
in_its_page w = record w { span = record w.span { address = w.span.address % 4096 } }

reaches-same_page : (w : Write) (a : ℕ) → w.span.address / 4096 ≡ a / 4096 → reaches (in_its_page w).span (a % 4096)
    ≡ reaches w.span a
reaches-same_page w a same =
    let c = 4096 * (a / 4096) in
    let first : w.span.address ≡ 4096 * (a / 4096) + w.span.address % 4096 = omega arith in
    let here : a ≡ 4096 * (a / 4096) + a % 4096 = omega arith in
    let end : w.span.address + span_byte_count w.span ≡ 4096 * (a / 4096) +
    (w.span.address % 4096 + span_byte_count w.span) = omega
    arith in
    let low : leb w.span.address a ≡ leb (w.span.address % 4096) (a % 4096) = (λ i. leb (first i) (here i)) ∙
    leb-shifted c _ _ in
    let high : ltb a (w.span.address + span_byte_count w.span)
    ≡ ltb (a % 4096) (w.span.address % 4096 + span_byte_count w.span) =
    (λ i. ltb (here i) (end i)) ∙ ltb-shifted c _ _ in
    sym (λ i. low i && high i)

place-same_page : (w : Write) (a : ℕ) → w.span.address / 4096 ≡ a / 4096 → a % 4096 - w.span.address % 4096
    ≡ a - w.span.address
place-same_page w a same = omega arith

pub written-same_page : (w : Write) (old : List ℕ) (a : ℕ) (b : ℕ) → w.span.address / 4096 ≡ a / 4096 → b
    ≡ get_or old (a % 4096) 0
    → byte_written (in_its_page w) (λ i. get_or old i 0) (a % 4096) ≡ byte_written w (λ _. b) a
written-same_page w old a b same e =
    let r = reaches-same_page w a same in
    let p = place-same_page w a same in
    λ i. cond (r i && is_enabled w.span (p i)) (get_or w.payload (p i) 0) (sym e i)

-- ---- another page

reaches_low : (w : Write) (a : ℕ) → reaches w.span a ≡ true → w.span.address ≤ a
reaches_low w a e = grind (arith, nat_tests)

reaches_high : (w : Write) (a : ℕ) → reaches w.span a ≡ true → a < w.span.address + span_byte_count w.span
reaches_high w a e = grind (arith, nat_tests)

reaches-other_page : (w : Write) (a : ℕ) → crosses w.span ≡ false → w.span.address / 4096 ≢ a / 4096 → reaches w.span a
    ≡ false
reaches-other_page w a whole other =
    let short = fits_page w.span whole in
    elim (cases_Bool (reaches w.span a)) [
      | inl e ↦
          let low = reaches_low w a e in
          let high = reaches_high w a e in
          absurd (other (omega arith))
      | inr e ↦ e
    ]

-- ---- pages

none_of : {X : Type 0} (o : Option (List X)) → is_some o ≡ false → unwrap_or o [] ≡ []
none_of None e = refl
none_of (Some s) e = absurd (true≢false e)

or-true : (b : Bool) → (b || true) ≡ true
or-true true = refl
or-true false = refl

or-false : (b : Bool) → (b || false) ≡ b
or-false true = refl
or-false false = refl

-- one page is a new one, and the others are the old ones
pub record PutsPage (n : ℕ) (new : List ℕ) (es es' : List (ℕ × List ℕ)) : Type 0 where
  pub at : (q : ℕ) → lookup (eqb q) es' ≡ cond (eqb n q) (Some new) (lookup (eqb q) es)

-- what is found at a page then
found : (n q : ℕ) (b : Bool) (new : List ℕ) (es es' : List (ℕ × List ℕ)) → PutsPage n new es es' → eqb n q ≡ b
    → lookup (eqb q) es' ≡ cond b (Some new) (lookup (eqb q) es)
found n q b new es es' puts e = puts.at q ∙ ap (λ (t : Bool). cond t (Some new) (lookup (eqb q) es)) e

page_bytes-put : (n q : ℕ) (new : List ℕ) (es es' : List (ℕ × List ℕ)) → PutsPage n new es es' → page_bytes es' q
    ≡ cond (eqb n q) new (page_bytes es q)
page_bytes-put n q new es es' puts = elim (cases_Bool (eqb n q)) [
  | inl e ↦ rw e (ap (λ (o : Option (List ℕ)). unwrap_or o []) (found n q true new es es' puts e))
  | inr e ↦ rw e (ap (λ (o : Option (List ℕ)). unwrap_or o []) (found n q false new es es' puts e))
]

-- an address is in the page of the write or in another: there its place in the page is the one that is written, here
-- the write does not reach it
pub paged-written : (w : Write) (old new : List ℕ) (es es' : List (ℕ × List ℕ)) → crosses w.span ≡ false
    → page_bytes es (w.span.address / 4096) ≡ old → HasWritten (w.span.address % 4096) w old new
    → PutsPage (w.span.address / 4096) new es es' → (a : ℕ) → paged_byte es' a ≡ byte_written w (paged_byte es) a
paged-written w old new es es' whole was has puts a =
    let put = page_bytes-put (w.span.address / 4096) (a / 4096) new es es' puts in
    elim (cases_Bool (eqb (w.span.address / 4096) (a / 4096))) [
      | inl e ↦
          let same = eqb-true (w.span.address / 4096) (a / 4096) e in
          let here : page_bytes es' (a / 4096) ≡ new = put ∙ rw e refl in
          let before : paged_byte es a ≡ get_or old (a % 4096) 0 =
          (λ i. get_or (page_bytes es (sym same i)) (a % 4096) 0) ∙ ap (λ (s : List ℕ). get_or s (a % 4096) 0) was in
          ap (λ (s : List ℕ). get_or s (a % 4096) 0) here ∙ has (a % 4096) ∙ written-same_page w old a (paged_byte es a)
          same before
      | inr e ↦
          let other = eqb-false (w.span.address / 4096) (a / 4096) e in
          let there : page_bytes es' (a / 4096) ≡ page_bytes es (a / 4096) = put ∙ rw e refl in
          let apart = reaches-other_page w a whole other in
          ap (λ (s : List ℕ). get_or s (a % 4096) 0) there ∙ sym (rw apart refl)
    ]

pub byte_at-seen : (rs : List Region) (es : List (ℕ × List ℕ)) (a : ℕ) → in_region rs a ≡ true
    → byte_at (contents_seen rs es) a ≡ paged_byte es a
byte_at-seen rs es a h = byte_in_regions-seen (paged_byte es) rs a ∙ rw h refl

enables-reaches : (s : Span) (a : ℕ) → enables s a ≡ true → reaches s a ≡ true
enables-reaches s a e = grind arith

-- what is read through regions is what is read through pages, before and after
pub byte_at-written : (rs : List Region) (es es' : List (ℕ × List ℕ)) (w : Write)
    → in_one_region rs w.span.address (span_byte_count w.span) ≡ true
    → ((a : ℕ) → paged_byte es' a ≡ byte_written w (paged_byte es) a) → (a : ℕ) → byte_at (contents_seen rs es') a
    ≡ byte_written w (byte_at (contents_seen rs es)) a
byte_at-written rs es es' w inside h a = elim (cases_Bool (enables w.span a)) [
  | inl e ↦
      let reached = enables-reaches w.span a e in
      let low : w.span.address ≤ a = reaches_low w a reached in
      let high : a < w.span.address + span_byte_count w.span = reaches_high w a reached in
      let has = each_in_region rs w.span.address (span_byte_count w.span) a inside low high in
      byte_at-seen rs es' a has ∙ h a ∙ rw e refl
  | inr e ↦
      let same : paged_byte es' a ≡ paged_byte es a = h a ∙ rw e refl in
      byte_in_regions-seen (paged_byte es') rs a ∙ ap (λ (b : ℕ). cond (in_region rs a) b 0) same ∙ sym
      (byte_in_regions-seen (paged_byte es) rs a) ∙ sym (rw e refl)
]

-- ---- a page of bytes 0

pub paged-new : (n : ℕ) (es es' : List (ℕ × List ℕ)) → page_bytes es n ≡ [] → PutsPage n (replicate 4096 0) es es'
    → (a : ℕ) → paged_byte es' a ≡ paged_byte es a
paged-new n es es' none puts a =
    let put = page_bytes-put n (a / 4096) (replicate 4096 0) es es' puts in
    elim (cases_Bool (eqb n (a / 4096))) [
      | inl e ↦
          let here : page_bytes es' (a / 4096) ≡ replicate 4096 0 = put ∙ rw e refl in
          let same : n ≡ a / 4096 = eqb-true n (a / 4096) e in
          let empty : page_bytes es (a / 4096) ≡ [] = (λ i. page_bytes es (sym same i)) ∙ none in
          ap (λ (s : List ℕ). get_or s (a % 4096) 0) here ∙ get_or-replicate 4096 (a % 4096) 0 0 (omega arith)
          ∙ sym (ap (λ (s : List ℕ). get_or s (a % 4096) 0) empty)
      | inr e ↦ ap (λ (s : List ℕ). get_or s (a % 4096) 0) (put ∙ rw e refl)
    ]

pub contents-same : (rs : List Region) (es es' : List (ℕ × List ℕ)) → ((a : ℕ) → paged_byte es' a ≡ paged_byte es a)
    → contents_seen rs es' ≡ contents_seen rs es
contents-same rs es es' h i = record { regions = rs; bytes = map (λ r. bytes_from (λ a. h a i) r.base r.size) rs }

-- ---- the same pages

abbrev pub SamePages : List (ℕ × List ℕ) → List (ℕ × List ℕ) → Type 0
SamePages es es' = (q : ℕ) → lookup (eqb q) es' ≡ lookup (eqb q) es

-- ---- which pages are there

pub has_page-lookup : (rs : List Region) (es : List (ℕ × List ℕ)) (spare n : ℕ) → has_page (memory_seen rs es spare) n
    ≡ is_some (lookup (eqb n) es)
has_page-lookup rs es spare n = sym (is_some-lookup (eqb n) es)

pub has_page-same : (rs : List Region) (es es' : List (ℕ × List ℕ)) (spare spare' : ℕ) → SamePages es es' → (n : ℕ)
    → has_page (memory_seen rs es' spare') n ≡ has_page (memory_seen rs es spare) n
has_page-same rs es es' spare spare' same n = has_page-lookup rs es' spare' n
    ∙ ap (λ (o : Option (List ℕ)). is_some o) (same n) ∙ sym (has_page-lookup rs es spare n)

pub has_page-put : (rs : List Region) (es es' : List (ℕ × List ℕ)) (spare spare' n : ℕ) (new : List ℕ)
    → PutsPage n new es es' → (q : ℕ)
    → has_page (memory_seen rs es' spare') q ≡ (has_page (memory_seen rs es spare) q || eqb n q)
has_page-put rs es es' spare spare' n new puts q = elim (cases_Bool (eqb n q)) [
  | inl e ↦
      let there : has_page (memory_seen rs es' spare') q ≡ true =
      has_page-lookup rs es' spare' q ∙ ap (λ (o : Option (List ℕ)). is_some o) (found n q true new es es' puts e) in
      there ∙ sym (or-true (has_page (memory_seen rs es spare) q)) ∙ ap
      (λ (b : Bool). has_page (memory_seen rs es spare) q || b)
      (sym e)
  | inr e ↦
      let same : has_page (memory_seen rs es' spare') q ≡ has_page (memory_seen rs es spare) q =
      has_page-lookup rs es' spare' q ∙ ap (λ (o : Option (List ℕ)). is_some o) (found n q false new es es' puts e)
      ∙ sym (has_page-lookup rs es spare q) in
      same ∙ sym (or-false (has_page (memory_seen rs es spare) q)) ∙ ap
      (λ (b : Bool). has_page (memory_seen rs es spare) q || b)
      (sym e)
]

pub no_page : (rs : List Region) (es : List (ℕ × List ℕ)) (spare n : ℕ) → has_page (memory_seen rs es spare) n ≡ false
    → page_bytes es n ≡ []
no_page rs es spare n h = none_of (lookup (eqb n) es) (sym (has_page-lookup rs es spare n) ∙ h)

-- ---- how many pages are there

pub count-put : (rs : List Region) (es es' : List (ℕ × List ℕ)) (spare n : ℕ)
    → length es' ≡ length es + cond (is_some (lookup (eqb n) es)) 0 1
    → length (keys_of es') ≡ length (keys_of es) + cond (has_page (memory_seen rs es spare) n) 0 1
count-put rs es es' spare n e =
    length-keys_of es' ∙ e ∙ (λ i. sym (length-keys_of es) i + cond (sym (has_page-lookup rs es spare n) i) 0 1)
