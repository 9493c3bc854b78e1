-- One page put, set or taken away: what is read at each place afterwards. A place is in the page or in another.
use Rattle.std.proofs.Common.{◌≡◌, ◌≢◌, ℕ, ◌/◌, ◌%◌, ◌<◌, Bool, true, false, cond, not, ◌&&◌, eqb, List, []}
use Rattle.std.proofs.Common.{length, get_or, replicate, Option, Some, None, unwrap_or, is_some, refl}
use Rattle.std.proofs.Common.{sym, ap, ◌∙◌, subst, inl, inr, arith, get_or-set_other, get_or-set_same}
use Rattle.std.proofs.Math.ListN.{set}
use Rattle.std.specs.Map.{lookup}
use Rattle.std.specs.Prelude.{filter}
use Rattle.std.proofs.lemmas.Bool.{and_parts, cases_Bool, eqb-false, eqb-true, true≢false}
use Rattle.std.proofs.lemmas.Bool.Decides.{nat_tests}
use Rattle.std.proofs.lemmas.List.{get_or-replicate}
use Rattle.std.proofs.lemmas.Map.Entries.{lookup-filter-keys}
use Rattle.guarded_memory.specs.declared.names.PageName.{PageName}
use Rattle.guarded_memory.specs.Contents.{is_page_name, name_at, bytes_of_page, byte_in_pages}

-- ---- names

pub same_name : (p q : PageName) → is_page_name p q ≡ true → p ≡ q
same_name p q e =
    let parts = and_parts (eqb p.interface q.interface) (eqb p.bar q.bar && eqb p.number q.number) e in
    let rest = and_parts (eqb p.bar q.bar) (eqb p.number q.number) parts.1 in
    let interface = eqb-true p.interface q.interface parts.0 in
    let bar = eqb-true p.bar q.bar rest.0 in
    let number = eqb-true p.number q.number rest.1 in
    λ k. record { interface = interface k; bar = bar k; number = number k }

-- ---- a page is put

-- one page is a new one, and the others are the old ones
pub record PutsPage (name : PageName) (new : List ℕ) (es es' : List (PageName × List ℕ)) : Type 0 where
  pub there : (q : PageName) → lookup (is_page_name q) es'
      ≡ cond (is_page_name name q) (Some new) (lookup (is_page_name q) es)

found : (name q : PageName) (t : Bool) (new : List ℕ) (es es' : List (PageName × List ℕ)) → PutsPage name new es es'
    → is_page_name name q ≡ t → lookup (is_page_name q) es' ≡ cond t (Some new) (lookup (is_page_name q) es)
found name q t new es es' puts e = puts.there q ∙ ap (λ (u : Bool). cond u (Some new) (lookup (is_page_name q) es)) e

read_if : (t : Bool) (new : List ℕ) (o : Option (List ℕ)) → unwrap_or (cond t (Some new) o) []
    ≡ cond t new (unwrap_or o [])
read_if true new o = refl
read_if false new o = refl

bytes_put : (name q : PageName) (t : Bool) (new : List ℕ) (es es' : List (PageName × List ℕ))
    → PutsPage name new es es' → is_page_name name q ≡ t → bytes_of_page es' q ≡ cond t new (bytes_of_page es q)
bytes_put name q t new es es' puts e = ap (λ (o : Option (List ℕ)). unwrap_or o []) (found name q t new es es' puts e)
    ∙ read_if t new (lookup (is_page_name q) es)

-- ---- a byte of it is set

eqb-parts : (x y : ℕ) → eqb x y ≡ (eqb (x / 4096) (y / 4096) && eqb (x % 4096) (y % 4096))
eqb-parts x y = grind (arith, nat_tests)

regroup : (p q r k : Bool) → ((p && q) && (r && k)) ≡ ((p && (q && r)) && k)
regroup true true r k = refl
regroup true false r k = refl
regroup false q r k = refl

get_or-set : (s : List ℕ) (i k v : ℕ) → i < length s → get_or (set s i v) k 0 ≡ cond (eqb i k) v (get_or s k 0)
get_or-set s i k v less = elim (cases_Bool (eqb i k)) [
  | inl e ↦
      let same : i ≡ k = eqb-true i k e in
      rw e (subst (λ (j : ℕ). get_or (set s i v) j 0 ≡ v) same (get_or-set_same s i v 0 less))
  | inr e ↦
      let other : k ≢ i = λ same. eqb-false i k e (sym same) in rw e (get_or-set_other s i k v 0 other)
]

byte_put : (i b offset j c a v : ℕ) (old : List ℕ) (es es' : List (PageName × List ℕ)) (t : Bool)
    → is_page_name (name_at i b offset) (name_at j c a) ≡ t → bytes_of_page es (name_at i b offset) ≡ old
    → offset % 4096 < length old → PutsPage (name_at i b offset) (set old (offset % 4096) v) es es'
    → byte_in_pages es' j c a ≡ cond (t && eqb (offset % 4096) (a % 4096)) v (byte_in_pages es j c a)
byte_put i b offset j c a v old es es' true e was less puts =
    let here = bytes_put (name_at i b offset) (name_at j c a) true (set old (offset % 4096) v) es es' puts e in
    let before : bytes_of_page es (name_at j c a) ≡ old =
    ap (λ (n : PageName). bytes_of_page es n) (sym (same_name (name_at i b offset) (name_at j c a) e)) ∙ was in
    ap (λ (s : List ℕ). get_or s (a % 4096) 0) here ∙ get_or-set old (offset % 4096) (a % 4096) v less
    ∙ ap (λ (s : List ℕ). cond (eqb (offset % 4096) (a % 4096)) v (get_or s (a % 4096) 0)) (sym before)
byte_put i b offset j c a v old es es' false e was less puts = ap (λ (s : List ℕ). get_or s (a % 4096) 0)
    (bytes_put (name_at i b offset) (name_at j c a) false (set old (offset % 4096) v) es es' puts e)

pub byte_set : (i b offset v : ℕ) (old : List ℕ) (es es' : List (PageName × List ℕ))
    → bytes_of_page es (name_at i b offset) ≡ old → offset % 4096 < length old
    → PutsPage (name_at i b offset) (set old (offset % 4096) v) es es' → (j c a : ℕ) → byte_in_pages es' j c a
    ≡ cond ((eqb i j && eqb b c) && eqb offset a) v (byte_in_pages es j c a)
byte_set i b offset v old es es' was less puts j c a =
    let test : ((eqb i j && eqb b c) && eqb offset a)
    ≡ (is_page_name (name_at i b offset) (name_at j c a) && eqb (offset % 4096) (a % 4096)) =
    ap (λ (t : Bool). (eqb i j && eqb b c) && t) (eqb-parts offset a) ∙ regroup (eqb i j) (eqb b c)
    (eqb (offset / 4096) (a / 4096)) (eqb (offset % 4096) (a % 4096)) in
    byte_put i b offset j c a v old es es' (is_page_name (name_at i b offset) (name_at j c a)) refl was less puts
    ∙ ap (λ (t : Bool). cond t v (byte_in_pages es j c a)) (sym test)

pub byte_set_by : (name : PageName) (i b offset v : ℕ) (old new : List ℕ) (es es' : List (PageName × List ℕ))
    → name ≡ name_at i b offset → bytes_of_page es name ≡ old → length old ≡ 4096 → new ≡ set old (offset % 4096) v
    → PutsPage name new es es' → (j c a : ℕ) → byte_in_pages es' j c a
    ≡ cond ((eqb i j && eqb b c) && eqb offset a) v (byte_in_pages es j c a)
byte_set_by name i b offset v old new es es' named was long is puts =
    let less : offset % 4096 < length old = omega (arith, long) in
    byte_set i b offset v old es es' (subst (λ (n : PageName). bytes_of_page es n ≡ old) named was) less
    (subst (λ (s : List ℕ). PutsPage (name_at i b offset) s es es') is
    (subst (λ (n : PageName). PutsPage n new es es') named puts))

-- ---- a page of bytes 0

pub byte_blank : (name : PageName) (es es' : List (PageName × List ℕ)) → bytes_of_page es name ≡ []
    → PutsPage name (replicate 4096 0) es es' → (j c a : ℕ) → byte_in_pages es' j c a ≡ byte_in_pages es j c a
byte_blank name es es' none puts j c a = elim (cases_Bool (is_page_name name (name_at j c a))) [
  | inl e ↦
      let here = bytes_put name (name_at j c a) true (replicate 4096 0) es es' puts e in
      let empty : bytes_of_page es (name_at j c a) ≡ [] =
      ap (λ (n : PageName). bytes_of_page es n) (sym (same_name name (name_at j c a) e)) ∙ none in
      ap (λ (s : List ℕ). get_or s (a % 4096) 0) here ∙ get_or-replicate 4096 (a % 4096) 0 0 (omega arith)
      ∙ sym (ap (λ (s : List ℕ). get_or s (a % 4096) 0) empty)
  | inr e ↦
      ap (λ (s : List ℕ). get_or s (a % 4096) 0) (bytes_put name (name_at j c a) false (replicate 4096 0) es es' puts e)
]

none_of : (o : Option (List ℕ)) → is_some o ≡ false → unwrap_or o [] ≡ []
none_of None e = refl
none_of (Some s) e = absurd (true≢false e)

pub no_page : (name : PageName) (es : List (PageName × List ℕ)) → is_some (lookup (is_page_name name) es) ≡ false
    → bytes_of_page es name ≡ []
no_page name es e = none_of (lookup (is_page_name name) es) e

-- ---- the same pages

pub byte_same : (es es' : List (PageName × List ℕ))
    → ((q : PageName) → lookup (is_page_name q) es' ≡ lookup (is_page_name q) es) → (j c a : ℕ)
    → byte_in_pages es' j c a ≡ byte_in_pages es j c a
byte_same es es' same j c a = ap (λ (o : Option (List ℕ)). get_or (unwrap_or o []) (a % 4096) 0) (same (name_at j c a))

-- ---- pages are taken away

left_or_zero : (t : Bool) (o : Option (List ℕ)) (k : ℕ) → get_or (unwrap_or (cond (not t) o None) []) k 0
    ≡ cond t 0 (get_or (unwrap_or o []) k 0)
left_or_zero true o k = refl
left_or_zero false o k = refl

pub byte_left : (taken : PageName → Bool) (es es' : List (PageName × List ℕ)) → es' ≡ filter (λ e. not (taken e.0)) es
    → (j c a : ℕ) → byte_in_pages es' j c a ≡ cond (taken (name_at j c a)) 0 (byte_in_pages es j c a)
byte_left taken es es' is j c a =
    let n = name_at j c a in
    let alike : (k : PageName) → is_page_name n k ≡ true → not (taken k) ≡ not (taken n) =
    λ k e. ap (λ (p : PageName). not (taken p)) (sym (same_name n k e)) in
    let left = lookup-filter-keys (is_page_name n) (λ k. not (taken k)) (not (taken n)) alike es in
    ap (λ (s : List (PageName × List ℕ)). get_or (unwrap_or (lookup (is_page_name n) s) []) (a % 4096) 0) is
    ∙ ap (λ (o : Option (List ℕ)). get_or (unwrap_or o []) (a % 4096) 0) left
    ∙ left_or_zero (taken n) (lookup (is_page_name n) es) (a % 4096)

-- ---- which pages are there

-- a page that was there is put
pub keeps_same : (name : PageName) (new : List ℕ) (es es' : List (PageName × List ℕ)) → PutsPage name new es es'
    → is_some (lookup (is_page_name name) es) ≡ true
    → (q : PageName) → is_some (lookup (is_page_name q) es') ≡ is_some (lookup (is_page_name q) es)
keeps_same name new es es' puts was q = elim (cases_Bool (is_page_name name q)) [
  | inl e ↦
      let there : is_some (lookup (is_page_name q) es) ≡ true =
      ap (λ (n : PageName). is_some (lookup (is_page_name n) es)) (sym (same_name name q e)) ∙ was in
      ap (λ (o : Option (List ℕ)). is_some o) (found name q true new es es' puts e) ∙ sym there
  | inr e ↦ ap (λ (o : Option (List ℕ)). is_some o) (found name q false new es es' puts e)
]
