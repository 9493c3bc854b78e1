-- Which names a shelf is asked for, one read after another.
use Rattle.std.proofs.Common.{◌≡◌, ◌⊎◌, ◌∙◌, List, [], ◌∷◌, ◌++◌, Option, Some, None, ap, sym, inl, inr, append_assoc}
use Rattle.std.proofs.lemmas.List.{append-nil}
use Rattle.std.specs.List.{AllByRecursion}
use Rattle.cli_files.specs.Outside.{AsksFor, AsksOnly}
use Rattle.file_runs.specs.Gain.{Text}

-- before the first read none is
pub asks_none : (may : Text → Type 0) (told : Option (List Text)) → AsksOnly may told told
asks_none may None = tt
asks_none may (Some names) = ([], ap (λ (n : List Text). Some n) (sym (append-nil names)), tt)

each_of : (may : Text → Type 0) (a b : List Text) → AllByRecursion may a → AllByRecursion may b
    → AllByRecursion may (a ++ b)
each_of may [] b each more = more
each_of may (x ∷ a) b each more = (each.0, each_of may a b each.1 more)

-- after more reads
pub asks_more : (may : Text → Type 0) (before mid now : Option (List Text)) → AsksOnly may before mid
    → AsksOnly may mid now → AsksOnly may before now
asks_more may None mid now one two = tt
asks_more may (Some names) mid now (a, is, each) two = by_mid mid is two
  where
    by_mid : (m : Option (List Text)) → m ≡ Some (names ++ a) → AsksOnly may m now → AsksOnly may (Some names) now
    by_mid None e two = absurd (none_some e)
      where
        none_some : None ≡ Some (names ++ a) → ⊥
        none_some e = cc
    by_mid (Some there) e (b, is_now, more) = (
      a ++ b,
      is_now ∙ ap (λ (n : List Text). Some n) (ap (λ (n : List Text). n ++ b) (some_same e) ∙ append_assoc names a b),
      each_of may a b each more,
    )
      where
        some_same : Some there ≡ Some (names ++ a) → there ≡ names ++ a
        some_same e = cc

weaker : (may also : Text → Type 0) (names : List Text) → ((name : Text) → may name → also name)
    → AllByRecursion may names → AllByRecursion also names
weaker may also [] so each = tt
weaker may also (name ∷ names) so each = (so name each.0, weaker may also names so each.1)

-- if other names may be asked for too
pub asks_as : (may also : Text → Type 0) (before now : Option (List Text)) → ((name : Text) → may name → also name)
    → AsksOnly may before now → AsksOnly also before now
asks_as may also None now so asks = tt
asks_as may also (Some names) now so (more, is, each) = (more, is, weaker may also more so each)

-- of two names
pub asks_first : (one two : Text) (before now : Option (List Text)) → AsksFor one before now
    → AsksOnly (λ name. (name ≡ one) ⊎ (name ≡ two)) before now
asks_first one two before now asks =
    asks_as (λ name. name ≡ one) (λ name. (name ≡ one) ⊎ (name ≡ two)) before now (λ name is. inl is) asks

pub asks_both : (one two : Text) (before mid now : Option (List Text)) → AsksFor one before mid → AsksFor two mid now
    → AsksOnly (λ name. (name ≡ one) ⊎ (name ≡ two)) before now
asks_both one two before mid now asks more =
    let both : Text → Type 0 = λ name. (name ≡ one) ⊎ (name ≡ two) in
    asks_more both before mid now (asks_first one two before mid asks)
    (asks_as (λ name. name ≡ two) both mid now (λ name is. inr is) more)
