-- How the interfaces of a device stand, by their place.
use Rattle.std.proofs.Common.{◌≡◌, ℕ, suc, zero, ◌+◌, List, [], ◌∷◌, length, Some, refl, ap, ◌∙◌, arith}
use Rattle.std.proofs.lemmas.Option.{none-some, same_Some}
use Rattle.std.specs.Prelude.{slice_get, slice_index}
use Rattle.interface_state.specs.Machine.{DeviceTdi}
use Rattle.guarded_memory.specs.Statuses.{interface_status}
use Rattle.link_stores.specs.Accesses.{numbered_statuses}

pub as_many : (floors : List ℕ) (n : ℕ) (ts : List DeviceTdi) → length (numbered_statuses floors n ts) ≡ length ts
as_many floors n [] = refl
as_many floors n (t ∷ ts) = ap suc (as_many floors (n + 1) ts)

stands_from : (floors : List ℕ) (n : ℕ) (ts : List DeviceTdi) (k : ℕ) (t : DeviceTdi) → slice_get ts k ≡ Some t
    → slice_get (numbered_statuses floors n ts) k ≡ Some (interface_status t (slice_index floors (n + k)))
stands_from floors n [] k t is = absurd (none-some t is)
stands_from floors n (x ∷ xs) zero t is =
    let e : n ≡ n + zero = omega arith in
    (λ i. Some (interface_status (same_Some x t is i) (slice_index floors (e i))))
stands_from floors n (x ∷ xs) (suc k) t is =
    let e : (n + 1) + k ≡ n + suc k = omega arith in
    stands_from floors (n + 1) xs k t is ∙ (λ i. Some (interface_status t (slice_index floors (e i))))

pub stands_at : (floors : List ℕ) (ts : List DeviceTdi) (k : ℕ) (t : DeviceTdi) → slice_get ts k ≡ Some t
    → slice_get (numbered_statuses floors 0 ts) k ≡ Some (interface_status t (slice_index floors k))
stands_at floors ts k t is =
    let e : 0 + k ≡ k = omega arith in
    stands_from floors 0 ts k t is ∙ (λ i. Some (interface_status t (slice_index floors (e i))))
