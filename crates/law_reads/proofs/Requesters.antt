-- The interface of a link that has a requester ID.
use Rattle.std.proofs.Common.{◌≡◌, ℕ, ◌==◌, ◌&&◌, Bool, true, false, List, [], ◌∷◌, Some, subst, arith, refl}
use Rattle.std.proofs.lemmas.Bool.Decides.{nat_tests}
use Rattle.std.specs.Prelude.{find, if◌then◌else◌}
use Rattle.ide_types.specs.declared.plan.Plan.{Plan}
use Rattle.spec_links.specs.{Site, site_of_requester}
unfoldable use Rattle.spec_links.specs.{sites}

-- what is found meets the test
pub found_meets : (test : Site → Bool) (xs : List Site) (x : Site) → find test xs ≡ Some x → test x ≡ true
found_meets test [] x is = absurd cc
found_meets test (y ∷ xs) x is = by (found_meets test xs x) (test y) refl is
  where
    by : (find test xs ≡ Some x → test x ≡ true) → (b : Bool) → test y ≡ b → (if b then Some y else find test xs)
        ≡ Some x → test x ≡ true
    by later true e is = let same : y ≡ x = cc (is) in subst (λ (z : Site). test z ≡ true) same e
    by later false e is = later is

both_hold : (a b : Bool) → (a && b) ≡ true → (a ≡ true) × (b ≡ true)
both_hold true b e = (refl, e)
both_hold false b e = absurd cc

pub same_number : (m n : ℕ) → (m == n) ≡ true → m ≡ n
same_number m n e = grind (arith, nat_tests)

-- it is on the link, and has the ID
pub requester_meets : (plan : Plan) (link rid : ℕ) (x : Site) → site_of_requester plan link rid ≡ Some x
    → (x.link ≡ link) × (x.plan.requester ≡ rid)
requester_meets plan link rid x is =
    let test : Site → Bool = λ y. (y.link == link) && (y.plan.requester == rid) in
    let meets = both_hold (x.link == link) (x.plan.requester == rid) (found_meets test (sites plan) x is) in
    (same_number x.link link meets.0, same_number x.plan.requester rid meets.1)
