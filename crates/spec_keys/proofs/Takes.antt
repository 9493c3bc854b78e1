-- Which places take the key of an operation, here of a refresh. The device's places do since no KEY_PROG that was
-- acknowledged was refused, the host's senders since a refresh begins only if no Live key of theirs is in the set, and
-- the host's receivers since the set holds no key that is On, or the older of two. If a refresh goes on, the host's
-- port has its keys, and only the device's places are left.
use Rattle.spec_keys.proofs.Terms.{◌≡◌, ℕ, ◌<◌, ◌≤◌, Bool, true, false, List, sym, ◌∙◌, arith, SubKind, Side, Host}
use Rattle.spec_keys.proofs.Terms.{Device, Touch, Keys, refuses, keys, slot_of, is_live_draw, Reach, new_work, PortView}
use Rattle.spec_keys.proofs.Terms.{None, refusal_if, refusal_at, is_live_sender, nat_tests}
use Rattle.event_verdicts.specs.declared.verdict.Operation.TheVariants as op
use Rattle.spec_keys.proofs.Shapes.{Marks, marks, Shape, keys_of, Sound}
use Rattle.spec_keys.proofs.Stages.{Rising}
use Rattle.spec_keys.proofs.Fits.{place, RisesFrom, TakesKey}
use Rattle.spec_keys.proofs.Performs.{told_takes}
use Rattle.spec_keys.proofs.Terms.{KeyPlace, is_local, from_at, program_exchange, refl}

not_refused : (b : Bool) → refusal_if b ≡ None → b ≡ false
not_refused b none = grind arith

-- a sender takes a key in a set that is not Live
sender_takes : (ks : Keys) (set : Bool) → is_live_draw (slot_of true ks set) ≡ false → refuses true ks set ≡ false
sender_takes ks set dead = grind (arith, nat_tests)

-- a receiver takes the key of a newer draw
receiver_takes : (k : Bool) (j a b n : ℕ) (u : Marks) (sh : Shape) (ts : List Touch) → n ≤ a → Sound false ts sh
    → Rising true k j a b n u sh → refuses false (keys_of sh) k ≡ false
receiver_takes k j a b n u sh ts le sound rising = grind (arith, nat_tests)

-- where it goes on
local_later : (p : KeyPlace) (n : ℕ) → is_local p ≡ true → 1 ≤ n
    → from_at (new_work op.Refresh false 0 n false) p ≤ program_exchange op.Refresh p → ⊥
local_later p n local least le = grind arith

told_from : (p : KeyPlace) (n : ℕ) → is_local p ≡ false
    → from_at (new_work op.Refresh false 0 n false) p ≤ program_exchange op.Refresh p
    → n ≤ program_exchange op.Refresh p
told_from p n told le = grind arith

-- If a refresh begins: none of the exchanges that were acknowledged was refused, and no Live key of the near senders is
-- in the set.
pub refresh_first_takes : (side : Side) (line stream : ℕ) (sends : Bool) (u : SubKind) (ports : PortView)
    (ts : List Touch) (k : Bool) (j : ℕ) (r : Reach)
    → ((x : Bool) → ports.refusal (place side line stream sends u) x
    ≡ refusal_if (refuses sends (keys sends ts) x))
    → ((x : Bool) → ports.is_live (place side line stream sends u) x ≡ is_live_draw (slot_of sends (keys sends ts) x))
    → is_live_sender ports line stream k u ≡ false
    → ((n : ℕ) → 1 ≤ n → n < r.acknowledged → refusal_at ports op.Refresh k line stream n ≡ None)
    → RisesFrom true (new_work op.Refresh k j 1 true) (place side line stream sends u) ts
    → TakesKey (new_work op.Refresh k j 1 true) r (place side line stream sends u) ts
refresh_first_takes Host line stream true u ports ts k j r same live dead free at le lt = sender_takes (keys true ts) k
    (sym (live k) ∙ dead)
refresh_first_takes side line stream false u ports ts k j r same live dead free at le lt =
    rw at.is.are (receiver_takes k j _ _ _ (marks ts) at.shape ts le at.is.sound at.fits)
refresh_first_takes Device line stream true u ports ts k j r same live dead free at le lt = not_refused _
    (sym (same k) ∙ told_takes ports k Device line stream true u refl (free _ le lt))

-- if it goes on, a host's port has its key
pub refresh_again_takes : (side : Side) (line stream : ℕ) (sends : Bool) (u : SubKind) (ports : PortView)
    (ts : List Touch) (k : Bool) (j n : ℕ) (r : Reach) → 1 ≤ n
    → ((x : Bool) → ports.refusal (place side line stream sends u) x
    ≡ refusal_if (refuses sends (keys sends ts) x))
    → ((x : ℕ) → n ≤ x → x < r.acknowledged → refusal_at ports op.Refresh k line stream x ≡ None)
    → TakesKey (new_work op.Refresh k j n false) r (place side line stream sends u) ts
refresh_again_takes side line stream sends u ports ts k j n r least same free le lt = by_local
    (is_local (place side line stream sends u)) refl
  where
    by_local : (b : Bool) → is_local (place side line stream sends u) ≡ b → refuses sends (keys sends ts) k ≡ false
    by_local true e = absurd (local_later (place side line stream sends u) n e least le)
    by_local false e =
        not_refused _ (sym (same k) ∙ told_takes ports k side line stream sends u e
        (free _ (told_from (place side line stream sends u) n e le) lt))
