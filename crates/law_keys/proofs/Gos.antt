-- Before each GO that reaches a place its draw is kept there.
use Rattle.law_keys.proofs.Terms.{Bool, List, [], ◌∷◌, arith, KeyPlan, Touch, History, manager, draws, moments}
use Rattle.law_keys.proofs.Terms.{touches, KeyCauseLaw, GoesKept, SetGoFindsKey, fits, next_fits}
use Rattle.spec_keys.proofs.Touches.{Comes, AllCome}

one_kept : (s : Bool) (ts more : List Touch) (t : Touch) → Comes s ts t → GoesKept s (t ∷ ts) more
    → GoesKept s ts (t ∷ more)
one_kept s ts more t comes rest = grind arith

goes_kept : (s : Bool) (ts more : List Touch) → AllCome s ts more → GoesKept s ts more
goes_kept s ts [] all = tt
goes_kept s ts (t ∷ more) all = one_kept s ts more t all.0 (goes_kept s (t ∷ ts) more all.1)

pub set_go_finds_key : (plan : KeyPlan) (h : History) → KeyCauseLaw plan h → SetGoFindsKey h
set_go_finds_key plan [] cause = tt
set_go_finds_key plan ((e, x) ∷ h) cause = (
  λ p. goes_kept p.sends (moments h p) (touches (manager h).ops (draws h) e x p)
      (next_fits plan h e x cause p (fits plan h cause.2 p)).come,
  set_go_finds_key plan h cause.2,
)
