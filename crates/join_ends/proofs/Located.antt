-- The place of an interface that is found by its number among the devices of all links.
use Rattle.all_ends.proofs.Terms.{◌≡◌, ℕ, suc, ◌+◌, ◌-◌, ◌<◌, Bool, true, false, List, [], ◌∷◌, length, refl, ap, ◌∙◌}
use Rattle.all_ends.proofs.Terms.{subst, arith, nat_tests, Option, Some, slice_get, if◌then◌else◌, none-some}
use Rattle.all_ends.proofs.Terms.{same_Some, LinkEnds}
use Rattle.std.specs.Prelude.{nat_lt}
use Rattle.all_ends.specs.Places.{place_on_links}

pub record IsLocated (ends : List LinkEnds) (link : ℕ) (at : ℕ × ℕ) : Type 0 where
  pub place : ℕ
  pub ends_at : LinkEnds
  pub link_is : link + place ≡ at.0
  pub there_is : slice_get ends place ≡ Some ends_at
  pub within : at.1 < length ends_at.device.interfaces.interfaces

first_located : (link n : ℕ) (l : LinkEnds) (ls : List LinkEnds) (at : ℕ × ℕ)
    → nat_lt n (length l.device.interfaces.interfaces) ≡ true → Some (link, n) ≡ Some at → IsLocated (l ∷ ls) link at
first_located link n l ls at lt is =
    let same : (link, n) ≡ at = same_Some (link, n) at is in
    let less : n < length l.device.interfaces.interfaces = grind (arith, nat_tests) in
    record {
      place = 0;
      ends_at = l;
      link_is = (let zeroes : link + 0 ≡ link = omega arith in zeroes) ∙ ap (λ (p : ℕ × ℕ). p.0) same;
      there_is = refl;
      within = subst (λ (p : ℕ × ℕ). p.1 < length l.device.interfaces.interfaces) same less;
    }

next_located : (link : ℕ) (l : LinkEnds) (ls : List LinkEnds) (at : ℕ × ℕ) → IsLocated ls (link + 1) at
    → IsLocated (l ∷ ls) link at
next_located link l ls at x = record {
  place = suc x.place;
  ends_at = x.ends_at;
  link_is = (let moved : link + suc x.place ≡ (link + 1) + x.place = omega arith in moved) ∙ x.link_is;
  there_is = x.there_is;
  within = x.within;
}

by_test : (link n : ℕ) (l : LinkEnds) (ls : List LinkEnds) (at : ℕ × ℕ) (b : Bool) (rest : Option (ℕ × ℕ))
    → nat_lt n (length l.device.interfaces.interfaces) ≡ b → (rest ≡ Some at → IsLocated ls (link + 1) at)
    → (if b then Some (link, n) else rest) ≡ Some at → IsLocated (l ∷ ls) link at
by_test link n l ls at true rest lt more is = first_located link n l ls at lt is
by_test link n l ls at false rest lt more is = next_located link l ls at (more is)

pub is_located : (link n : ℕ) (ends : List LinkEnds) (at : ℕ × ℕ) → place_on_links link n ends ≡ Some at
    → IsLocated ends link at
is_located link n [] at is = absurd (none-some at is)
is_located link n (l ∷ ls) at is =
    by_test link n l ls at (nat_lt n (length l.device.interfaces.interfaces))
    (place_on_links (link + 1) (n - length l.device.interfaces.interfaces) ls) refl
    (is_located (link + 1) (n - length l.device.interfaces.interfaces) ls at) is
