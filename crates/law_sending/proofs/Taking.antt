-- Which stream takes a TLP, by the tests and by their words.
use Rattle.std.proofs.Common.{◌≡◌, ℕ, zero, suc, ◌≤◌, ◌==◌, ◌&&◌, ◌||◌, Bool, true, false, List, [], ◌∷◌}
use Rattle.std.proofs.Common.{Option, Some, None, slice_get, refl, ap, sym, subst, ◌∙◌, inl, inr, ◌⊎◌, arith}
use Rattle.std.specs.Prelude.{if◌then◌else◌, min, nat_le}
use Rattle.std.specs.List.{list_any}
use Rattle.std.proofs.lemmas.Bool.{cases_lt, or_left, or_right, leb-true, le-leb, eqb-true, eq-eqb}
use Rattle.std.proofs.lemmas.Bool.{true≢false, and_parts, and_from}
use Rattle.ide_types.specs.declared.port.Side.{Side}
use Rattle.ide_types.specs.declared.stream.AddressRange.{AddressRange}
use Rattle.ide_types.specs.declared.stream.IdRange.{IdRange}
use Rattle.ide_types.specs.declared.stream.Selector.{Selector}
use Rattle.ide_types.specs.declared.stream.Selector.TheVariants.{Selective, Link}
use Rattle.ide_types.specs.declared.stream.StreamPlan.{StreamPlan}
use Rattle.tlp_layout.specs.declared.head.HeadView.{HeadView}
use Rattle.tlp_layout.specs.declared.choice.Way.TheVariants.{ByRange, ByDefault, ByClass}
use Rattle.tlp_layout.specs.Choice.{address_of, id_of, holds, holds_id, holds_address, takes_by_range, takes_the_rest}
use Rattle.tlp_layout.specs.Choice.{takes_class, lesser_id, least_of, chosen_stream, by_way}
unfoldable use Rattle.tlp_layout.specs.Choice.{choice_of}
use Rattle.law_sending.specs.Choice.{HasAddress, HasId, HasRangeFor, IsDefault, IsInList, ListsClass}
use Rattle.law_sending.specs.Choice.{IsLeast, IsOfNone, TakesTlp, IsTakenByNone}

-- ---- some of a list

pub record SomeAt {A : Type 0} (test : A → Bool) (xs : List A) : Type 0 where
  pub place : ℕ
  pub item : A
  pub stands : slice_get xs place ≡ Some item
  pub passes : test item ≡ true

pub some_at : {A : Type 0} (test : A → Bool) (xs : List A) → list_any test xs ≡ true → SomeAt test xs
some_at test [] is = absurd cc
some_at test (x ∷ xs) is = by (λ rest. some_at test xs rest) (test x) refl is
  where
    by : (list_any test xs ≡ true → SomeAt test xs) → (b : Bool) → test x ≡ b → (b || list_any test xs) ≡ true
        → SomeAt test (x ∷ xs)
    by more true here is = record { place = 0; item = x; stands = refl; passes = here }
    by more false off is =
        let rest = more is in
        record { place = suc rest.place; item = rest.item; stands = rest.stands; passes = rest.passes }

pub any_from : {A : Type 0} (test : A → Bool) (xs : List A) (n : ℕ) (x : A) → slice_get xs n ≡ Some x → test x ≡ true
    → list_any test xs ≡ true
any_from test [] n x stands passes = absurd cc
any_from test (y ∷ ys) zero x stands passes =
    let same : y ≡ x = cc (stands) in or_left (test y) (list_any test ys) (ap test same ∙ passes)
any_from test (y ∷ ys) (suc n) x stands passes =
    or_right (test y) (list_any test ys) (any_from test ys n x stands passes)

-- ---- the tests

-- a test says what its words do
pub record Means (test : Selector → Bool) (Holds : Selector → Type 0) : Type 0 where
  pub says : (s : Selector) → test s ≡ true → Holds s
  pub said : (s : Selector) → Holds s → test s ≡ true

in_range : (base limit n : ℕ) → (nat_le base n && nat_le n limit) ≡ true → (base ≤ n) × (n ≤ limit)
in_range base limit n is =
    let parts = and_parts (nat_le base n) (nat_le n limit) is in
    (leb-true base n parts.0, leb-true n limit parts.1)

within : (base limit n : ℕ) → base ≤ n → n ≤ limit → (nat_le base n && nat_le n limit) ≡ true
within base limit n from to = and_from (nat_le base n) (nat_le n limit) (le-leb base n from) (le-leb n limit to)

address_says : (ranges : List AddressRange) (address : Option ℕ) → holds_address ranges address ≡ true
    → HasAddress ranges address
address_says ranges None is =
    let some = some_at (λ (r : AddressRange). holds r.base r.limit None) ranges is in
    absurd (true≢false (sym some.passes))
address_says ranges (Some a) is =
    let some = some_at (λ (r : AddressRange). holds r.base r.limit (Some a)) ranges is in
    let both = in_range some.item.base some.item.limit a some.passes in
    record { place = some.place; range = some.item; stands = some.stands; from = both.0; to = both.1 }

address_said : (ranges : List AddressRange) (address : Option ℕ) → HasAddress ranges address
    → holds_address ranges address ≡ true
address_said ranges None has = absurd has
address_said ranges (Some a) has = any_from (λ (r : AddressRange). holds r.base r.limit (Some a)) ranges has.place
    has.range has.stands (within has.range.base has.range.limit a has.from has.to)

pub id_says : (ids : Option IdRange) (id : Option ℕ) → holds_id ids id ≡ true → HasId ids id
id_says None id is = absurd (true≢false (sym is))
id_says (Some range) None is = absurd (true≢false (sym is))
id_says (Some range) (Some n) is = in_range range.base range.limit n is

pub id_said : (ids : Option IdRange) (id : Option ℕ) → HasId ids id → holds_id ids id ≡ true
id_said None id has = absurd has
id_said (Some range) None has = absurd has
id_said (Some range) (Some n) has = within range.base range.limit n has.0 has.1

range_says : (side : Side) (head : HeadView) (s : Selector) → takes_by_range side head s ≡ true
    → HasRangeFor side head s
range_says side head (Selective ids addresses default) is =
    by (holds_address addresses (address_of head.fields)) refl is
  where
    by : (b : Bool) → holds_address addresses (address_of head.fields) ≡ b
        → (b || holds_id ids (id_of side head.fields)) ≡ true
        → HasAddress addresses (address_of head.fields) ⊎ HasId ids (id_of side head.fields)
    by true here is = inl (address_says addresses (address_of head.fields) here)
    by false off is = inr (id_says ids (id_of side head.fields) is)
range_says side head (Link classes) is = absurd (true≢false (sym is))

range_said : (side : Side) (head : HeadView) (s : Selector) → HasRangeFor side head s
    → takes_by_range side head s ≡ true
range_said side head (Selective ids addresses default) (inl has) =
    or_left (holds_address addresses (address_of head.fields)) (holds_id ids (id_of side head.fields))
    (address_said addresses (address_of head.fields) has)
range_said side head (Selective ids addresses default) (inr has) =
    or_right (holds_address addresses (address_of head.fields)) (holds_id ids (id_of side head.fields))
    (id_said ids (id_of side head.fields) has)
range_said side head (Link classes) has = absurd has

pub range_means : (side : Side) (head : HeadView) → Means (takes_by_range side head) (HasRangeFor side head)
range_means side head = record { says = range_says side head; said = range_said side head }

default_says : (s : Selector) → takes_the_rest s ≡ true → IsDefault s
default_says (Selective ids addresses default) is = is
default_says (Link classes) is = absurd (true≢false (sym is))

default_said : (s : Selector) → IsDefault s → takes_the_rest s ≡ true
default_said (Selective ids addresses default) is = is
default_said (Link classes) is = absurd is

pub default_means : Means takes_the_rest IsDefault
default_means = record { says = default_says; said = default_said }

pub class_among : (class : ℕ) (classes : List ℕ) → list_any (λ tc. tc == class) classes ≡ true
    → IsInList class classes
class_among class classes is =
    let some = some_at (λ tc. tc == class) classes is in
    let same : some.item ≡ class = eqb-true some.item class some.passes in
    record { place = some.place; stands = some.stands ∙ ap (λ (n : ℕ). Some n) same }

pub among_class : (class : ℕ) (classes : List ℕ) → IsInList class classes → list_any (λ tc. tc == class) classes ≡ true
among_class class classes has =
    any_from (λ tc. tc == class) classes has.place class has.stands (eq-eqb class class refl)

class_says : (head : HeadView) (s : Selector) → takes_class head s ≡ true → ListsClass head.lead.tc s
class_says head (Selective ids addresses default) is = absurd (true≢false (sym is))
class_says head (Link classes) is = class_among head.lead.tc classes is

class_said : (head : HeadView) (s : Selector) → ListsClass head.lead.tc s → takes_class head s ≡ true
class_said head (Selective ids addresses default) has = absurd has
class_said head (Link classes) has = among_class head.lead.tc classes has

pub class_means : (head : HeadView) → Means (takes_class head) (ListsClass head.lead.tc)
class_means head = record { says = class_says head; said = class_said head }

-- ---- the least

abbrev IsLeastIf : List StreamPlan → (Selector → Type 0) → Option ℕ → Type 0
IsLeastIf streams Holds None = IsOfNone streams Holds
IsLeastIf streams Holds (Some id) = IsLeast streams Holds id

none_more : (Holds : Selector → Type 0) (s : StreamPlan) (ss : List StreamPlan) → (Holds s.selector → ⊥)
    → IsOfNone ss Holds → IsOfNone (s ∷ ss) Holds
none_more Holds s ss off none zero other stands has =
    let same : s ≡ other = cc (stands) in off (subst (λ (x : StreamPlan). Holds x.selector) (sym same) has)
none_more Holds s ss off none (suc n) other stands has = none n other stands has

-- no more than each of a list
abbrev IsMost : List StreamPlan → (Selector → Type 0) → ℕ → Type 0
IsMost ss Holds id = (n : ℕ) (other : StreamPlan) → slice_get ss n ≡ Some other → Holds other.selector → id ≤ other.id

most_more : (Holds : Selector → Type 0) (s : StreamPlan) (ss : List StreamPlan) (id : ℕ)
    → (Holds s.selector → id ≤ s.id) → IsMost ss Holds id → IsMost (s ∷ ss) Holds id
most_more Holds s ss id here rest zero other stands has =
    let same : s ≡ other = cc (stands) in
    subst (λ (x : StreamPlan). id ≤ x.id) same (here (subst (λ (x : StreamPlan). Holds x.selector) (sym same) has))
most_more Holds s ss id here rest (suc n) other stands has = rest n other stands has

most_under : (Holds : Selector → Type 0) (ss : List StreamPlan) (id less : ℕ) → less ≤ id → IsMost ss Holds id
    → IsMost ss Holds less
most_under Holds ss id less le most n other stands has =
    let at = most n other stands has in omega (arith, at, le)

most_of_none : (Holds : Selector → Type 0) (ss : List StreamPlan) (id : ℕ) → IsOfNone ss Holds → IsMost ss Holds id
most_of_none Holds ss id none n other stands has = absurd (none n other stands has)

least_more : (Holds : Selector → Type 0) (s : StreamPlan) (ss : List StreamPlan) (id : ℕ)
    → (Holds s.selector → id ≤ s.id) → IsLeast ss Holds id → IsLeast (s ∷ ss) Holds id
least_more Holds s ss id here rest = record {
  place = suc rest.place;
  stream = rest.stream;
  stands = rest.stands;
  holds = rest.holds;
  is = rest.is;
  least = most_more Holds s ss id here rest.least;
}

least_here : (Holds : Selector → Type 0) (s : StreamPlan) (ss : List StreamPlan) → Holds s.selector
    → IsMost ss Holds s.id → IsLeast (s ∷ ss) Holds s.id
least_here Holds s ss has most = record {
  place = 0;
  stream = s;
  stands = refl;
  holds = has;
  is = refl;
  least = most_more Holds s ss s.id (λ own. omega arith) most;
}

lesser_least : (Holds : Selector → Type 0) (s : StreamPlan) (ss : List StreamPlan) (id : ℕ) → Holds s.selector
    → IsLeast ss Holds id → IsLeast (s ∷ ss) Holds (min s.id id)
lesser_least Holds s ss id has rest = elim (cases_lt s.id id) [
  | inl less ↦
      let own : s.id ≡ min s.id id = omega (arith, less) in
      subst (IsLeast (s ∷ ss) Holds) own
      (least_here Holds s ss has (most_under Holds ss id s.id (omega (arith, less)) rest.least))
  | inr more ↦
      let other : id ≡ min s.id id = omega (arith, more) in
      subst (IsLeast (s ∷ ss) Holds) other (least_more Holds s ss id (λ own. more) rest)
]

pub least_is : (test : Selector → Bool) (Holds : Selector → Type 0) → Means test Holds → (ss : List StreamPlan)
    → IsLeastIf ss Holds (least_of test ss)
least_is test Holds means [] = λ n s stands has. absurd (no_item n s stands)
  where
    no_item : (n : ℕ) (s : StreamPlan) → slice_get [] n ≡ Some s → ⊥
    no_item n s stands = absurd cc
least_is test Holds means (s ∷ ss) = by (test s.selector) refl (least_of test ss) (least_is test Holds means ss)
  where
    by : (b : Bool) → test s.selector ≡ b → (o : Option ℕ) → IsLeastIf ss Holds o
        → IsLeastIf (s ∷ ss) Holds (if b then lesser_id s.id o else o)
    by false off None none =
        none_more Holds s ss (λ has. true≢false (sym (means.said s.selector has) ∙ off)) none
    by false off (Some id) rest =
        least_more Holds s ss id (λ has. absurd (true≢false (sym (means.said s.selector has) ∙ off))) rest
    by true holds None none = least_here Holds s ss (means.says s.selector holds) (most_of_none Holds ss s.id none)
    by true holds (Some id) rest = lesser_least Holds s ss id (means.says s.selector holds) rest

-- ---- the choice

abbrev pub TakesIf : List StreamPlan → Side → HeadView → Option ℕ → Type 0
TakesIf streams side head None = IsTakenByNone streams side head
TakesIf streams side head (Some id) = TakesTlp streams side head id

taken_by : (streams : List StreamPlan) (side : Side) (head : HeadView) (a b c : Option ℕ)
    → IsLeastIf streams (HasRangeFor side head) a → IsLeastIf streams IsDefault b
    → IsLeastIf streams (ListsClass head.lead.tc) c
    → TakesIf streams side head (chosen_stream (by_way ByRange a (by_way ByDefault b (by_way ByClass c None))))
taken_by streams side head (Some id) b c one two three = inl one
taken_by streams side head None (Some id) c one two three = inr (one, inl two)
taken_by streams side head None None (Some id) one two three = inr (one, inr (two, three))
taken_by streams side head None None None one two three =
    record { range = one; default = two; class = three }

pub taken : (streams : List StreamPlan) (side : Side) (head : HeadView)
    → TakesIf streams side head (chosen_stream (choice_of streams side head))
unfolding choice_of
taken streams side head = taken_by streams side head _ _ _
    (least_is (takes_by_range side head) (HasRangeFor side head) (range_means side head) streams)
    (least_is takes_the_rest IsDefault default_means streams)
    (least_is (takes_class head) (ListsClass head.lead.tc) (class_means head) streams)

-- what is taken is not left
least_of_none : (Holds : Selector → Type 0) (streams : List StreamPlan) (id : ℕ) → IsLeast streams Holds id
    → IsOfNone streams Holds → ⊥
least_of_none Holds streams id least none = none least.place least.stream least.stands least.holds

pub not_left : (streams : List StreamPlan) (side : Side) (head : HeadView) (id : ℕ) → TakesTlp streams side head id
    → IsTakenByNone streams side head → ⊥
not_left streams side head id (inl a) none = least_of_none (HasRangeFor side head) streams id a none.range
not_left streams side head id (inr (a, inl b)) none = least_of_none IsDefault streams id b none.default
not_left streams side head id (inr (a, inr (b, c))) none =
    least_of_none (ListsClass head.lead.tc) streams id c none.class

-- one takes it at the most
one_least : (Holds : Selector → Type 0) (streams : List StreamPlan) (a b : ℕ) → IsLeast streams Holds a
    → IsLeast streams Holds b → a ≡ b
one_least Holds streams a b one two =
    let up = one.least two.place two.stream two.stands two.holds in
    let down = two.least one.place one.stream one.stands one.holds in
    let first = one.is in
    let second = two.is in
    omega (arith, up, down, first, second)

pub one_takes : (streams : List StreamPlan) (side : Side) (head : HeadView) (a b : ℕ) → TakesTlp streams side head a
    → TakesTlp streams side head b → a ≡ b
one_takes streams side head a b (inl x) (inl y) = one_least (HasRangeFor side head) streams a b x y
one_takes streams side head a b (inl x) (inr y) = absurd (least_of_none (HasRangeFor side head) streams a x y.0)
one_takes streams side head a b (inr x) (inl y) = absurd (least_of_none (HasRangeFor side head) streams b y x.0)
one_takes streams side head a b (inr (n, inl x)) (inr (m, inl y)) = one_least IsDefault streams a b x y
one_takes streams side head a b (inr (n, inl x)) (inr (m, inr y)) = absurd (least_of_none IsDefault streams a x y.0)
one_takes streams side head a b (inr (n, inr x)) (inr (m, inl y)) = absurd (least_of_none IsDefault streams b y x.0)
one_takes streams side head a b (inr (n, inr x)) (inr (m, inr y)) =
    one_least (ListsClass head.lead.tc) streams a b x.1 y.1
