-- What a step makes of the interfaces one by one: at each place of the list it is that of the interface there, by
-- induction on the list. If no lock is accepted, no nonce is given.
use Rattle.std.proofs.Common.{◌≡◌, ℕ, suc, zero, ◌+◌, ◌==◌, ◌&&◌, Bool, false, List, [], ◌∷◌, length, Some, refl, ap}
use Rattle.std.proofs.Common.{arith}
use Rattle.std.specs.Prelude.{slice_get}
use Rattle.std.specs.List.{list_any}
use Rattle.std.proofs.lemmas.Option.{none-some, same_Some}
use Rattle.ide_types.specs.declared.plan.Plan.{Plan}
use Rattle.script_events.specs.declared.event.Event.{Event}
use Rattle.event_verdicts.specs.declared.verdict.Verdict.{Verdict}
use Rattle.spec_interfaces.specs.Sites.{Site, sites}
use Rattle.spec_interfaces.specs.Devices.{accepts_lock, one_if}
use Rattle.machine_whole.specs.Interfaces.{Face, Streams, with_each, around_of, gives_nonce, is_true, EndsRead, Faces}
use Rattle.machine_whole.specs.Interfaces.{faces_after}

pub each_at : {A : Type 0} (g : Site → Face → A) (xs : List Site) (fs : List Face) (i : ℕ) (x : Site) (f : Face)
    → slice_get xs i ≡ Some x → slice_get fs i ≡ Some f → slice_get (with_each g xs fs) i ≡ Some (g x f)
each_at g [] fs i x f at there = absurd (none-some x at)
each_at g (y ∷ xs) [] i x f at there = absurd (none-some f there)
each_at g (y ∷ xs) (z ∷ fs) zero x f at there =
    let one = same_Some y x at in let two = same_Some z f there in λ i. Some (g (one i) (two i))
each_at g (y ∷ xs) (z ∷ fs) (suc i) x f at there = each_at g xs fs i x f at there

pub each_many : {A : Type 0} (g : Site → Face → A) (xs : List Site) (fs : List Face) → length xs ≡ length fs
    → length (with_each g xs fs) ≡ length xs
each_many g [] fs same = refl
each_many g (x ∷ xs) [] same = absurd (omega (arith, same))
each_many g (x ∷ xs) (f ∷ fs) same = ap suc (each_many g xs fs (omega (arith, same)))

-- a test that no interface meets
pub none_of : (g : Site → Face → Bool) (xs : List Site) (fs : List Face)
    → ((i : ℕ) (x : Site) (f : Face) → slice_get xs i ≡ Some x → slice_get fs i ≡ Some f → g x f ≡ false)
    → list_any is_true (with_each g xs fs) ≡ false
none_of g [] fs none = refl
none_of g (x ∷ xs) [] none = refl
none_of g (x ∷ xs) (f ∷ fs) none =
    rw (none 0 x f refl refl) (none_of g xs fs (λ i y z at there. none (suc i) y z at there))

and_none : (a b : Bool) → b ≡ false → (a && b) ≡ false
and_none a b none = grind arith

pub none_given : (plan : Plan) (s : Streams) (used : ℕ → ℕ) (e : Event) (w : Verdict) (link : ℕ) (xs : List Site)
    (fs : List Face) → ((i : ℕ) (x : Site) (f : Face) → slice_get xs i ≡ Some x → slice_get fs i ≡ Some f
    → accepts_lock (around_of plan s used x f) x e w f.tdi ≡ false)
    → list_any is_true (with_each (gives_nonce plan s used e w link) xs fs) ≡ false
none_given plan s used e w link xs fs none = none_of (gives_nonce plan s used e w link) xs fs
    (λ i x f at there. and_none (x.link == link) _ (none i x f at there))

none_more : (n : ℕ) (b : Bool) → b ≡ false → n + one_if b ≡ n
none_more n b none = rw none (omega arith)

-- if no lock is accepted, as many nonces were given as before
pub used_kept : (plan : Plan) (s : Streams) (after : EndsRead) (e : Event) (w : Verdict) (fs : Faces)
    → ((i : ℕ) (x : Site) (f : Face) → slice_get (sites plan) i ≡ Some x → slice_get fs.list i ≡ Some f
    → accepts_lock (around_of plan s fs.used x f) x e w f.tdi ≡ false)
    → (link : ℕ) → (faces_after plan s after e w fs).used link ≡ fs.used link
used_kept plan s after e w fs none link =
    none_more (fs.used link) _ (none_given plan s fs.used e w link (sites plan) fs.list none)
