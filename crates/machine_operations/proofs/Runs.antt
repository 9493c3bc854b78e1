-- An operation's touches of a place are allowed of its keys, but for a KEY_PROG that is refused and changes nothing. It
-- goes by induction on the touches, for senders and for receivers; a KEY_PROG can be the first alone, so the keys
-- before them tell if it is refused. The others are allowed by bounds that hold in each shape of the keys. A draw that
-- waits for its GO is greater than the one that is On and than all that were used or got GO. One that waits for the
-- older one was not used.
use Rattle.machine_operations.proofs.Terms.{◌≡◌, ℕ, ◌<◌, ◌≤◌, Bool, true, false, List, [], ◌∷◌, refl, ap, sym, ◌∙◌}
use Rattle.machine_operations.proofs.Terms.{subst, arith, not, if◌then◌else◌, AllCome, AllowsIncoming, AllowsOutgoing}
use Rattle.machine_operations.proofs.Terms.{touches_after, busy_in, ClearTouch, Comes, Goes, GoTouch, History, is_open}
use Rattle.machine_operations.proofs.Terms.{key_in, key_touched_in, key_touched_out, Keys, keys, keys_of, LeadTo}
use Rattle.machine_operations.proofs.Terms.{Loaded, nat_tests, new_key, no_keys, Off, On, Plan, PortName, ProgramTouch}
use Rattle.machine_operations.proofs.Terms.{receiving_key, refuses, SealedList, sub_stream_packets, without_outlived}
use Rattle.machine_operations.proofs.Terms.{Shape, Sound, draws_started, StopTouch, SubStream, taken_touches, Touch}
use Rattle.machine_operations.proofs.Terms.{keys_after_touch, draws_used, waits, with_key}

-- touches of an operation: a KEY_PROG comes first
abbrev pub are_later : List Touch → Bool
are_later [] = true
are_later (GoTouch k j ∷ ts) = are_later ts
are_later (StopTouch k ∷ ts) = are_later ts
are_later (ClearTouch ∷ ts) = are_later ts
are_later (_ ∷ ts) = false

abbrev pub are_first : List Touch → Bool
are_first (ProgramTouch k j ∷ ts) = are_later ts
are_first ts = are_later ts

-- ---- what is known of the draws of keys

record Bounds (ts : List Touch) (ks : Keys) : Type 0 where
  fresh : (k : Bool) (j : ℕ) → key_in ks k ≡ Loaded j → (draws_used ts ≤ j) × (draws_started ts ≤ j)
  older : (k : Bool) (i j : ℕ) → key_in ks k ≡ Loaded j → key_in ks (not k) ≡ On i → i < j
  one : (k : Bool) (i j : ℕ) → key_in ks k ≡ Loaded j → key_in ks (not k) ≡ Loaded i → ⊥
  waiting : (k : Bool) (i : ℕ) → key_in ks (not k) ≡ On i → waits (not k) i (key_in ks k) ≡ true → draws_used ts ≤ i

shape_bounds : (s : Bool) (ts : List Touch) (sh : Shape) → Sound s ts sh → Bounds ts (keys_of sh)
shape_bounds s ts sh sound = record {
  fresh = λ k j is. grind (arith, nat_tests);
  older = λ k i j is on. grind (arith, nat_tests);
  one = λ k i j is other. grind (arith, nat_tests);
  waiting = λ k i is on. grind (arith, nat_tests);
}

bounds : (s : Bool) (ts : List Touch) (t : Touch) → Comes s ts t → Bounds ts (keys s ts)
bounds s ts t come = subst (Bounds ts) (sym come.is.are) (shape_bounds s ts come.shape come.is.sound)

-- ---- what touches make of keys

settled_again : (s : Bool) (f : ℕ → Bool) (ks : Keys) → without_outlived s f (without_outlived s f ks)
    ≡ without_outlived s f ks
settled_again s f ks = grind (arith, nat_tests)

settled_none : (s : Bool) (f : ℕ → Bool) → without_outlived s f no_keys ≡ no_keys
settled_none s f = grind arith

settled_keys : (s : Bool) (ts : List Touch) → without_outlived s (is_open ts) (keys s ts) ≡ keys s ts
unfolding keys
settled_keys s [] = settled_none s (is_open [])
settled_keys s (t ∷ ts) = settled_again s (is_open (t ∷ ts)) (keys_after_touch s (keys s ts) t)

loaded : (s : Bool) (f : ℕ → Bool) (k : Bool) (j : ℕ) (ks : Keys) → refuses s ks k ≡ false
    → without_outlived s f (keys_after_touch s ks (ProgramTouch k j)) ≡ with_key ks k (Loaded j)
loaded s f k j ks free = grind (arith, nat_tests)

stop_without_outlived : (s : Bool) (f : ℕ → Bool) (k : Bool) (ks : Keys)
    → without_outlived s f (keys_after_touch s ks (StopTouch k)) ≡ with_key ks k Off
stop_without_outlived s f k ks = grind (arith, nat_tests)

programs_is : (s k : Bool) (j : ℕ) (ts : List Touch) → refuses s (keys s ts) k ≡ false → keys s (ProgramTouch k j ∷ ts)
    ≡ with_key (keys s ts) k (Loaded j)
unfolding keys
programs_is s k j ts free = loaded s (is_open (ProgramTouch k j ∷ ts)) k j (keys s ts) free

refused_is : (s k : Bool) (j : ℕ) (ts : List Touch) → refuses s (keys s ts) k ≡ true → keys s (ProgramTouch k j ∷ ts)
    ≡ keys s ts
unfolding keys is_open
refused_is s k j ts denied = rw denied (settled_keys s ts)

pub stopped_is : (s k : Bool) (ts : List Touch) → keys s (StopTouch k ∷ ts) ≡ with_key (keys s ts) k Off
unfolding keys
stopped_is s k ts = stop_without_outlived s (is_open (StopTouch k ∷ ts)) k (keys s ts)

pub cleared_are : (s : Bool) (ts : List Touch) → keys s (ClearTouch ∷ ts) ≡ no_keys
unfolding keys
cleared_are s ts = settled_none s (is_open (ClearTouch ∷ ts))

-- the draw that gets GO waits for it, or is On
goes_of : (k : Bool) (j : ℕ) (sh : Shape) → Goes k j sh → (on : Bool)
    × (key_in (keys_of sh) k ≡ (if on then On j else Loaded j))
goes_of k j sh goes = grind (arith, nat_tests)

gone_new : (busy : ℕ → Bool) (k : Bool) (j : ℕ) (ks : Keys) → key_in ks k ≡ Loaded j
    → ((i : ℕ) → key_in ks (not k) ≡ On i → i < j) → ((i : ℕ) → key_in ks (not k) ≡ Loaded i → ⊥)
    → without_outlived true busy (keys_after_touch true ks (GoTouch k j)) ≡ key_touched_out busy (GoTouch k j) ks
gone_new busy k j ks is older one = grind (arith, nat_tests, older, one)

gone_again : (busy : ℕ → Bool) (k : Bool) (j : ℕ) (ks : Keys) → key_in ks k ≡ On j → without_outlived true busy ks ≡ ks
    → without_outlived true busy (keys_after_touch true ks (GoTouch k j)) ≡ key_touched_out busy (GoTouch k j) ks
gone_again busy k j ks is stays = grind (arith, nat_tests, stays)

gone_out : (k : Bool) (j : ℕ) (ts : List Touch) → Comes true ts (GoTouch k j) → keys true (GoTouch k j ∷ ts)
    ≡ key_touched_out (is_open ts) (GoTouch k j) (keys true ts)
unfolding keys is_open
gone_out k j ts come =
    let goes = goes_of k j come.shape come.may in
    by_on goes.0 (ap (λ (ks : Keys). key_in ks k) come.is.are ∙ goes.1)
  where
    by_on : (on : Bool) → key_in (keys true ts) k ≡ (if on then On j else Loaded j)
        → without_outlived true (is_open ts) (keys_after_touch true (keys true ts) (GoTouch k j))
        ≡ key_touched_out (is_open ts) (GoTouch k j) (keys true ts)
    by_on true is = gone_again (is_open ts) k j (keys true ts) is (settled_keys true ts)
    by_on false is =
        let known = bounds true ts (GoTouch k j) come in
        gone_new (is_open ts) k j (keys true ts) is (λ i. known.older k i j is) (λ i. known.one k i j is)

waits_older : (k : Bool) (i j : ℕ) → i < j → (waits k j (On i) ≡ true) × (waits (not k) i (On j) ≡ false)
waits_older k i j lt = grind (arith, nat_tests)

unwaited : (ks : Keys) (k : Bool) (i : ℕ) → refuses true ks k ≡ false → key_in ks (not k) ≡ On i
    → waits (not k) i (key_in ks k) ≡ false
unwaited ks k i free on = grind (arith, nat_tests)

-- ---- senders

-- what is known of the packets there
pub record Knows (xs : SealedList) (s : SubStream) (ts : List Touch) : Type 0 where
  pub busy : busy_in xs s ≡ is_open ts
  pub unsent : (j : ℕ) → draws_used ts ≤ j → sub_stream_packets xs s j ≡ []

module _ (plan : Plan) (xs : SealedList) (s : SubStream) (r : Bool → Bool) where
  -- more touches, but for a refused KEY_PROG, lead from these keys to those after all
  abbrev pub OutLead : List Touch → List Touch → Keys → Type 0
  OutLead ts more ks = LeadTo (AllowsOutgoing plan xs s) (key_touched_out (busy_in xs s)) (taken_touches r more) ks
      (keys true (touches_after ts more))

  out_later : (ts more : List Touch) → Knows xs s ts → AllCome true ts more → are_later more ≡ true
      → OutLead ts more (keys true ts)
  unfolding draws_used is_open
  out_later ts [] knows come later = refl
  out_later ts (GoTouch k j ∷ more) knows come later =
      let known = bounds true ts (GoTouch k j) come.0 in (
        λ n is. (knows.unsent n (known.fresh k n is).0, λ i on. waits_older k i n (known.older k i n is on)),
        subst (OutLead (GoTouch k j ∷ ts) more)
            (gone_out k j ts come.0
            ∙ ap (λ (f : ℕ → Bool). key_touched_out f (GoTouch k j) (keys true ts)) (sym knows.busy))
            (out_later (GoTouch k j ∷ ts) more (record { busy = knows.busy; unsent = knows.unsent }) come.1 later),
      )
  out_later ts (StopTouch k ∷ more) knows come later = (
    λ i on waiting. knows.unsent i ((bounds true ts (StopTouch k) come.0).waiting k i on waiting),
    subst (OutLead (StopTouch k ∷ ts) more) (stopped_is true k ts)
        (out_later (StopTouch k ∷ ts) more (record { busy = knows.busy; unsent = knows.unsent }) come.1 later),
  )
  out_later ts (ClearTouch ∷ more) knows come later = (
    tt,
    subst (OutLead (ClearTouch ∷ ts) more) (cleared_are true ts)
        (out_later (ClearTouch ∷ ts) more (record { busy = knows.busy; unsent = knows.unsent }) come.1 later),
  )
  out_later ts (_ ∷ more) knows come later = absurd cc

  pub out_run : (ts more : List Touch) → ((k : Bool) → refuses true (keys true ts) k ≡ r k) → Knows xs s ts
      → AllCome true ts more → are_first more ≡ true → OutLead ts more (keys true ts)
  unfolding draws_used is_open
  out_run ts (ProgramTouch k j ∷ more) same knows come first = by_answer (r k) (same k)
    where
      rest : OutLead (ProgramTouch k j ∷ ts) more (keys true (ProgramTouch k j ∷ ts))
      rest = out_later (ProgramTouch k j ∷ ts) more (record { busy = knows.busy; unsent = knows.unsent }) come.1 first

      by_answer : (b : Bool) → refuses true (keys true ts) k ≡ b
          → LeadTo (AllowsOutgoing plan xs s) (key_touched_out (busy_in xs s))
          (if b then taken_touches r more else ProgramTouch k j ∷ taken_touches r more) (keys true ts)
          (keys true (touches_after (ProgramTouch k j ∷ ts) more))
      by_answer true denied = subst (OutLead (ProgramTouch k j ∷ ts) more) (refused_is true k j ts denied) rest
      by_answer false free = (
        λ i. unwaited (keys true ts) k i free,
        subst (OutLead (ProgramTouch k j ∷ ts) more) (programs_is true k j ts free) rest,
      )
  out_run ts [] same knows come first = out_later ts [] knows come first
  out_run ts (t ∷ more) same knows come first = out_later ts (t ∷ more) knows come first

-- ---- receivers

gone_into : (k : Bool) (j : ℕ) (ks : Keys) (on : Bool) → key_in ks k ≡ (if on then On j else Loaded j)
    → with_key ks k (On j) ≡ key_touched_in (GoTouch k j) ks
gone_into k j ks on is = grind arith

gone_in : (k : Bool) (j : ℕ) (ts : List Touch) → Comes false ts (GoTouch k j) → keys false (GoTouch k j ∷ ts)
    ≡ key_touched_in (GoTouch k j) (keys false ts)
unfolding keys
gone_in k j ts come = let goes = goes_of k j come.shape come.may in gone_into k j (keys false ts) goes.0
    (ap (λ (ks : Keys). key_in ks k) come.is.are ∙ goes.1)

-- the draw that gets GO was not started before
abbrev pub NewIn : Plan → History → PortName → SubStream → List Touch → Type 0
NewIn plan h port s ts = (j : ℕ) → draws_started ts ≤ j → receiving_key plan h port s j ≡ new_key plan s j

module _ (plan : Plan) (h : History) (port : PortName) (s : SubStream) (r : Bool → Bool) where
  abbrev pub InLead : List Touch → List Touch → Keys → Type 0
  InLead ts more ks = LeadTo (AllowsIncoming plan h port s) key_touched_in (taken_touches r more) ks
      (keys false (touches_after ts more))

  in_later : (ts more : List Touch) → NewIn plan h port s ts → AllCome false ts more → are_later more ≡ true
      → InLead ts more (keys false ts)
  unfolding draws_started
  in_later ts [] new come later = refl
  in_later ts (GoTouch k j ∷ more) new come later = (
    λ n is. new n ((bounds false ts (GoTouch k j) come.0).fresh k n is).1,
    subst (InLead (GoTouch k j ∷ ts) more) (gone_in k j ts come.0)
        (in_later (GoTouch k j ∷ ts) more (λ n le. new n (omega arith)) come.1 later),
  )
  in_later ts (StopTouch k ∷ more) new come later = (
    tt,
    subst (InLead (StopTouch k ∷ ts) more) (stopped_is false k ts) (in_later (StopTouch k ∷ ts) more new come.1 later),
  )
  in_later ts (ClearTouch ∷ more) new come later = (
    tt,
    subst (InLead (ClearTouch ∷ ts) more) (cleared_are false ts) (in_later (ClearTouch ∷ ts) more new come.1 later),
  )
  in_later ts (_ ∷ more) new come later = absurd cc

  pub in_run : (ts more : List Touch) → ((k : Bool) → refuses false (keys false ts) k ≡ r k) → NewIn plan h port s ts
      → AllCome false ts more → are_first more ≡ true → InLead ts more (keys false ts)
  unfolding draws_started
  in_run ts (ProgramTouch k j ∷ more) same new come first = by_answer (r k) (same k)
    where
      rest : InLead (ProgramTouch k j ∷ ts) more (keys false (ProgramTouch k j ∷ ts))
      rest = in_later (ProgramTouch k j ∷ ts) more new come.1 first

      by_answer : (b : Bool) → refuses false (keys false ts) k ≡ b
          → LeadTo (AllowsIncoming plan h port s) key_touched_in
          (if b then taken_touches r more else ProgramTouch k j ∷ taken_touches r more) (keys false ts)
          (keys false (touches_after (ProgramTouch k j ∷ ts) more))
      by_answer true denied = subst (InLead (ProgramTouch k j ∷ ts) more) (refused_is false k j ts denied) rest
      by_answer false free = (tt, subst (InLead (ProgramTouch k j ∷ ts) more) (programs_is false k j ts free) rest)
  in_run ts [] same new come first = in_later ts [] new come first
  in_run ts (t ∷ more) same new come first = in_later ts (t ∷ more) new come first
