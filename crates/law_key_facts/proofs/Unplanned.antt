-- A stream that the plan does not have gets no keys.
use Rattle.spec_links.proofs.Terms.{Bool, None, Option, Some, [], ap, arith, false, inl, inr, length, refl, sym, true}
use Rattle.spec_links.proofs.Terms.{ℕ, ◌==◌, ◌∙◌, ◌∷◌, ◌≡◌, ◌⊎◌, Operation, key_due, manager, on_it, Idle, StreamStage}
use Rattle.spec_links.proofs.Terms.{work_touches, KeyCauseLaw, StreamOperations, Reach, Work, op_after_reach}
use Rattle.spec_links.proofs.Terms.{manager_after_operation, reach_of, work_of, is_on_stream, CauseLaw, port_keys}
use Rattle.spec_links.proofs.Terms.{keys_by_role, place_in_sub_stream, receives_it, sends_it, SubStream, key_plan}
use Rattle.spec_links.proofs.Terms.{stream_plan, List, ◌&&◌, draw_of_keyed, AllByRecursion, Begun, Keyed, Off, Loaded}
use Rattle.spec_links.proofs.Terms.{subst, History, KeyPlan, Keys, On, KeyPlace, Plan, PortName, Verdict, if◌then◌else◌}
use Rattle.spec_links.proofs.Terms.{is_some, key_in, place_keys, no_keys}
use Rattle.spec_keys.proofs.Owners.{kept_owned, owner}
use Rattle.spec_keys.specs.Due.{has_refresh}
use Rattle.spec_keys.specs.History.{begun_of_draw}
use Rattle.ide_types.specs.Lines.{is_hosted, is_link_line}
use Rattle.law_key_facts.proofs.Given.{key_cause}
use Rattle.script_events.specs.declared.event.Event.TheVariants as event
use Rattle.event_verdicts.specs.declared.verdict.Operation.TheVariants as op
use Rattle.event_verdicts.specs.declared.verdict.Verdict.TheVariants as v

-- ---- what an operation does to the stream of a place

-- it reaches an exchange there
pub record Acts (m : StreamOperations) (o : Operation) (l s : ℕ) (r : Option Reach) (p : KeyPlace) : Type 0 where
  pub reached : Reach
  pub is : r ≡ Some reached
  pub here : is_on_stream p l s ≡ true
  pub ops : (manager_after_operation m o l s r).ops p.line p.stream
      ≡ op_after_reach (is_hosted l) (work_of o (m.ops l s) (length m.begun)) reached

pub acts : (m : StreamOperations) (o : Operation) (l s : ℕ) (r : Option Reach) (p : KeyPlace)
    → (((manager_after_operation m o l s r).ops p.line p.stream ≡ m.ops p.line p.stream)
    × (on_it (is_on_stream p l s) (work_touches (work_of o (m.ops l s) (length m.begun)) r p) ≡ []))
    ⊎ Acts m o l s r p
acts m o l s None p = inl (refl, grind arith)
acts m o l s (Some r) p = by_test (is_on_stream p l s) refl
  where
    w : Work
    w = work_of o (m.ops l s) (length m.begun)

    by_test : (b : Bool) → is_on_stream p l s ≡ b
        → (((if is_on_stream p l s then op_after_reach (is_hosted l) w r else m.ops p.line p.stream)
        ≡ m.ops p.line p.stream)
        × (on_it (is_on_stream p l s) (work_touches w (Some r) p) ≡ []))
        ⊎ Acts m o l s (Some r) p
    by_test false other = inl (rw other refl, rw other refl)
    by_test true here = inr (record { reached = r; is = refl; here = here; ops = rw here refl })

-- ---- a stream that the plan does not have

-- an operation that came to an exchange was on a stream that the plan has
comes_known : (has : Bool) (o : Operation) (x y : Verdict) → x ≡ (if has then y else v.Nothing)
    → (reach_of o x ≡ None) ⊎ (has ≡ true)
comes_known true o x y is = inr refl
comes_known false o x y is = inl (ap (reach_of o) is)

-- each operation that began with a draw was on one
abbrev AllKnown : KeyPlan → List Begun → Type 0
AllKnown kp bs = AllByRecursion (λ (b : Begun). kp.has_stream b.line b.stream ≡ true) bs

one_more : (kp : KeyPlan) (b : Bool) (l s : ℕ) (set : Bool) (bs : List Begun) → kp.has_stream l s ≡ true
    → AllKnown kp bs → AllKnown kp (if b then record { line = l; stream = s; set = set } ∷ bs else bs)
one_more kp true l s set bs known all = (known, all)
one_more kp false l s set bs known all = all

more_known : (kp : KeyPlan) (m : StreamOperations) (o : Operation) (l s : ℕ) (r : Option Reach)
    → (r ≡ None) ⊎ (kp.has_stream l s ≡ true) → AllKnown kp m.begun
    → AllKnown kp (manager_after_operation m o l s r).begun
more_known kp m o l s None known all = all
more_known kp m o l s (Some r) (inl none) all = absurd cc
more_known kp m o l s (Some r) (inr known) all = one_more kp _ l s _ m.begun known all

both_second : (a b : Bool) → (a && b) ≡ true → b ≡ true
both_second a b is = grind arith

refreshes_known : (kp : KeyPlan) (l s : ℕ) (x : Option Reach) → (x ≡ None) ⊎ (has_refresh kp l s ≡ true)
    → (x ≡ None) ⊎ (kp.has_stream l s ≡ true)
refreshes_known kp l s x (inl none) = inl none
refreshes_known kp l s x (inr known) = inr (both_second (is_link_line l) (kp.has_stream l s) known)

begun_known : (kp : KeyPlan) (h : History) → KeyCauseLaw kp h → AllKnown kp (manager h).begun
unfolding manager key_due
begun_known kp [] cause = tt
begun_known kp ((event.Establish a b lose, x) ∷ h) cause = more_known kp (manager h) op.Establish a b _
    (comes_known (kp.has_stream a b) op.Establish x _ cause.0) (begun_known kp h cause.2)
begun_known kp ((event.Refresh a b lose, x) ∷ h) cause = more_known kp (manager h) op.Refresh a b _
    (refreshes_known kp a b _ (comes_known (has_refresh kp a b) op.Refresh x _ cause.0)) (begun_known kp h cause.2)
begun_known kp ((event.Stop a b lose, x) ∷ h) cause = more_known kp (manager h) op.Stop a b _
    (comes_known (kp.has_stream a b) op.Stop x _ cause.0) (begun_known kp h cause.2)
begun_known kp ((event.Reset a ends, v.Reset m) ∷ h) cause = begun_known kp h cause.2
begun_known kp ((e, x) ∷ h) cause = begun_known kp h cause.2

known_under : (kp : KeyPlan) (bs : List Begun) (j : ℕ) (c : Begun) → AllKnown kp bs → begun_of_draw bs j ≡ Some c
    → kp.has_stream c.line c.stream ≡ true
known_under kp [] j c all is = absurd cc
known_under kp (b ∷ bs) j c all is = by (length bs == j) is (known_under kp bs j c all.1)
  where
    by : (here : Bool) → (if here then Some b else begun_of_draw bs j) ≡ Some c
        → (begun_of_draw bs j ≡ Some c → kp.has_stream c.line c.stream ≡ true) → kp.has_stream c.line c.stream ≡ true
    by true is older = let same : b ≡ c = cc (is) in subst (λ (d : Begun). kp.has_stream d.line d.stream ≡ true) same
        all.0
    by false is older = older is

-- ---- a stream that the plan does not have

no_key_kept : (ks : Keys) → ((set : Bool) (j : ℕ) → draw_of_keyed (key_in ks set) ≡ Some j → ⊥) → ks ≡ no_keys
no_key_kept ks none = let first = none false in let second = none true in
    λ i. record { first = off ks.first first i; second = off ks.second second i }
  where
    off : (k : Keyed) → ((j : ℕ) → draw_of_keyed k ≡ Some j → ⊥) → k ≡ Off
    off Off none = refl
    off (Loaded j) none = absurd (none j refl)
    off (On j) none = absurd (none j refl)

pub unplanned_keys : (plan : Plan) (h : History) → CauseLaw plan h → (p : KeyPlace)
    → is_some (stream_plan plan p.line p.stream) ≡ false → place_keys h p ≡ no_keys
unplanned_keys plan h law p none = no_key_kept (place_keys h p) (λ set j kept. absurd
    (let known = known_under (key_plan plan) (manager h).begun j (owner p.line p.stream set)
    (begun_known (key_plan plan) h (key_cause plan h law)) (kept_owned h p set j kept) in cc))

-- ---- what is On is known

pub never_on : (k : Bool) (j : ℕ) → key_in no_keys k ≡ On j → ⊥
never_on k j on = grind arith

-- the place of a port where a draw is On
pub record OnAt (h : History) (port : PortName) (s : SubStream) (k : Bool) (j : ℕ) : Type 0 where
  pub sends : Bool
  pub on : key_in (place_keys h (place_in_sub_stream port s sends)) k ≡ On j

pub on_at : (h : History) (port : PortName) (s : SubStream) (k : Bool) (j : ℕ) → key_in (port_keys h port s) k ≡ On j
    → OnAt h port s k j
unfolding port_keys
on_at h port s k j on = by_seat (sends_it port s) (receives_it port s) on
  where
    by_seat : (a b : Bool) → key_in (keys_by_role h port s a b) k ≡ On j → OnAt h port s k j
    by_seat true b on = record { sends = true; on = on }
    by_seat false true on = record { sends = false; on = on }
    by_seat false false on = absurd (never_on k j on)

not_false : (b : Bool) → (b ≡ false → ⊥) → b ≡ true
not_false b other = grind arith

pub known : (plan : Plan) (h : History) → CauseLaw plan h → (port : PortName) (s : SubStream) (k : Bool) (j : ℕ)
    → key_in (port_keys h port s) k ≡ On j → is_some (stream_plan plan s.line s.stream) ≡ true
known plan h law port s k j on =
    let at = on_at h port s k j on in
    not_false _ (λ none. never_on k j
    (ap (λ (ks : Keys). key_in ks k) (sym (unplanned_keys plan h law (place_in_sub_stream port s at.sends) none)) ∙
    at.on))
