-- Each lock takes the next place of the nonces of its link.
use Rattle.std.proofs.Common.{◌≡◌, ℕ, ◌+◌, ◌<◌, ◌≤◌, ◌==◌, ◌&&◌, ◌||◌}
use Rattle.std.proofs.Common.{◌∷◌, ◌++◌, ◌⊎◌, inl, inr, Bool, true, false, List}
use Rattle.std.proofs.Common.{[], Some, Result, length, if◌then◌else◌, refl, sym, ap, ◌∙◌}
use Rattle.std.proofs.Common.{arith, length-append, append_assoc}
use Rattle.std.proofs.lemmas.Bool.{cases_Bool, true≢false, or_right}
use Rattle.std.proofs.lemmas.Bool.Decides.{nat_tests}
use Rattle.std.specs.Prelude.{find, is_ok}
use Rattle.spec_links.specs.Cause.{CauseLaw}
use Rattle.spec_interfaces.specs.Terms.{list_any, Plan, Event, Verdict, History, Lock, TdiState}
use Rattle.spec_interfaces.specs.Terms.{ConfigLocked}
use Rattle.spec_interfaces.specs.Sites.{Site, site_at, sites, nonces_of}
use Rattle.spec_interfaces.specs.Exchanges.{carries}
use Rattle.std.specs.Prelude.{slice_get}
use Rattle.spec_interfaces.specs.Devices.{used_at, one_if, is_lock_accepted}
unfoldable use Rattle.spec_interfaces.specs.Devices.{devices}
use Rattle.interface_state.specs.Machine.{is_unlocked}
use Rattle.law_memory.proofs.Found.{cause_at}
use Rattle.law_states.specs.States.{state_at, is_lockable, locks}
use Rattle.law_states.specs.Nonces.{LockAt, TakesPlace, TakesLater}
unfoldable use Rattle.law_states.specs.Nonces.{locks_on}
use Rattle.law_states.proofs.Turns.{lock_given, lock_refused, answer_at, drawn_at}
use Rattle.law_states.proofs.Held.{made_or, told_nonce}
use Rattle.script_events.specs.declared.event.Event.TheVariants as event
use Rattle.script_events.specs.declared.event.InterfaceEvent.TheVariants as ie

-- ---- parts of a history

record IsPart (f g : History) : Type 0 where
  since : History
  came : since ++ f ≡ g

same_rest : (p q : Event × Verdict) (f g : History) → p ∷ f ≡ q ∷ g → f ≡ g
same_rest p q f g is = cc

part_of : (one two f g : History) → one ++ f ≡ two ++ g → length f ≤ length g → IsPart f g
part_of one [] f g same le = record { since = one; came = same }
part_of [] (q ∷ two) f g same le =
    let long : length f ≡ length (two ++ g) + 1 = ap length same ∙ omega arith in
    absurd (omega (arith, long, length-append two g))
part_of (p ∷ one) (q ∷ two) f g same le = part_of one two f g (same_rest p q (one ++ f) (two ++ g) same) le

-- ---- how many locks there were

locks_step : (plan : Plan) (h : History) (e : Event) (w : Verdict) (link : ℕ)
    → locks_on plan ((e, w) ∷ h) link ≡ locks_on plan h link
    + one_if (list_any (λ x. (x.link == link) && locks plan h e w x) (sites plan))
unfolding locks_on
locks_step plan h e w link = refl

locks_grow : (plan : Plan) (since g : History) (link : ℕ) → locks_on plan g link ≤ locks_on plan (since ++ g) link
locks_grow plan [] g link = omega arith
locks_grow plan ((e, w) ∷ since) g link =
    let rest = locks_grow plan since g link in
    let step = locks_step plan (since ++ g) e w link in
    omega (arith, rest, step)

any_found : {A : Type 0} (test passes : A → Bool) (xs : List A) (x : A) → find test xs ≡ Some x → passes x ≡ true
    → list_any passes xs ≡ true
any_found test passes [] x is p = absurd cc
any_found test passes (y ∷ ys) x is p = by (test y) is (λ later. any_found test passes ys x later p)
  where
    by : (b : Bool) → (if b then Some y else find test ys) ≡ Some x
        → (find test ys ≡ Some x → list_any passes ys ≡ true) → (passes y || list_any passes ys) ≡ true
    by true is later = let same : y ≡ x = cc (is) in rw (ap passes same ∙ p) refl
    by false is later = or_right (passes y) (list_any passes ys) (later is)

same_link : (link : ℕ) → (link == link) ≡ true
same_link link = grind (arith, nat_tests)

both_true : (a b : Bool) → a ≡ true → b ≡ true → (a && b) ≡ true
both_true a b one two = rw (one, two) refl

takes_next : (plan : Plan) (h : History) (e : Event) (w : Verdict) (i : ℕ) (x : Site) → site_at plan i ≡ Some x
    → locks plan h e w x ≡ true → locks_on plan ((e, w) ∷ h) x.link ≡ locks_on plan h x.link + 1
takes_next plan h e w i x at is =
    locks_step plan h e w x.link
    ∙ ap (λ (b : Bool). locks_on plan h x.link + one_if b)
    (any_found (λ y. y.number == i) (λ y. (y.link == x.link) && locks plan h e w y) (sites plan) x at
    (both_true (x.link == x.link) (locks plan h e w x) (same_link x.link) is))

-- ---- as many as nonces were given

-- the device accepts just the locks that are taken
accepts_is : (plan : Plan) (h : History) (x : Site) → is_ok (answer_at plan h x) ≡ is_lockable plan h x
accepts_is plan h x = elim (cases_Bool (is_lockable plan h x)) [
  | inl is ↦ let given = lock_given plan h x is in ap is_ok_answer given.is ∙ sym is
  | inr not_so ↦ let refused = lock_refused plan h x not_so in ap is_ok_answer refused.is ∙ sym not_so
]
  where
    is_ok_answer : Result (List ℕ) ℕ → Bool
    is_ok_answer r = is_ok r

accepted_is : (plan : Plan) (h : History) (e : Event) (w : Verdict) (x : Site)
    → is_lock_accepted plan h (devices plan h) e w x ≡ locks plan h e w x
accepted_is plan h (event.Interface (ie.Lock i loss)) w x =
    ap (λ (b : Bool). (i == x.number) && carries w 3 && b) (accepts_is plan h x)
accepted_is plan h e w x = refl

same_any : (f g : Site → Bool) (xs : List Site) → ((x : Site) → f x ≡ g x) → list_any f xs ≡ list_any g xs
same_any f g [] same = refl
same_any f g (x ∷ xs) same = rw (same x, same_any f g xs same) refl

used_is : (plan : Plan) (h : History) (link : ℕ) → used_at plan h link ≡ locks_on plan h link
unfolding devices locks_on
used_is plan [] link = refl
used_is plan ((e, w) ∷ h) link =
    let any = same_any (λ x. (x.link == link) && is_lock_accepted plan h (devices plan h) e w x)
    (λ x. (x.link == link) && locks plan h e w x) (sites plan)
    (λ x. ap (λ (b : Bool). (x.link == link) && b) (accepted_is plan h e w x)) in
    rw (used_is plan h link, any) refl

-- ---- the law

unlocked_not : (s : TdiState) (lock : Lock) (nonce : List ℕ) → is_unlocked s ≡ true → s ≡ ConfigLocked lock nonce → ⊥
unlocked_not s lock nonce one two = absurd (true≢false (sym one ∙ ap is_unlocked two))

-- the pair is of a lock that is taken
taken_at : (plan : Plan) (h : History) (x : Site) (a : LockAt plan h x) → CauseLaw plan h
    → site_at plan x.number ≡ Some x
    → (locks plan a.older a.event a.verdict x ≡ true) × (drawn_at plan a.older x ≡ Some a.nonce)
taken_at plan h x a cause known =
    by (made_or plan a.older a.event a.verdict x known
    (cause_at plan a.since ((a.event, a.verdict) ∷ a.older) h a.came cause) a.lock a.nonce a.is)
  where
    by : ((locks plan a.older a.event a.verdict x ≡ false) × (state_at plan a.older x ≡ ConfigLocked a.lock a.nonce))
        ⊎ ((locks plan a.older a.event a.verdict x ≡ true) × (drawn_at plan a.older x ≡ Some a.nonce))
        → (locks plan a.older a.event a.verdict x ≡ true) × (drawn_at plan a.older x ≡ Some a.nonce)
    by (inl stood) = absurd (unlocked_not (state_at plan a.older x) a.lock a.nonce a.was stood.1)
    by (inr made) = made

takes_place : (plan : Plan) (h : History) (x : Site) (a : LockAt plan h x) → CauseLaw plan h
    → site_at plan x.number ≡ Some x → TakesPlace plan h x a (locks_on plan a.older x.link)
takes_place plan h x a cause known =
    let made = taken_at plan h x a cause known in
    record {
      before = refl;
      stands = ap (λ (n : ℕ). slice_get (nonces_of plan x.link) n) (sym (used_is plan a.older x.link)) ∙ made.1;
      told = λ j nonce is. told_nonce plan a.older a.event a.verdict x j nonce a.nonce known
          (cause_at plan a.since ((a.event, a.verdict) ∷ a.older) h a.came cause) made.0 is made.1;
    }

pub takes_later : (plan : Plan) (h : History) (i : ℕ) (x y : Site) (a : LockAt plan h x) (b : LockAt plan h y)
    → CauseLaw plan h → site_at plan i ≡ Some x → site_at plan x.number ≡ Some x → site_at plan y.number ≡ Some y
    → x.link ≡ y.link → length a.older < length b.older → TakesLater plan h x y a b
takes_later plan h i x y a b cause at known found same lt =
    let next = takes_next plan a.older a.event a.verdict i x at (taken_at plan h x a cause known).0 in
    let part = part_of a.since (b.since ++ (b.event, b.verdict) ∷ []) ((a.event, a.verdict) ∷ a.older) b.older
    (a.came ∙ sym b.came ∙ sym (append_assoc b.since ((b.event, b.verdict) ∷ []) b.older)) (omega (arith, lt)) in
    let grow = locks_grow plan part.since ((a.event, a.verdict) ∷ a.older) x.link in
    let there : locks_on plan (part.since ++ (a.event, a.verdict) ∷ a.older) x.link ≡ locks_on plan b.older y.link =
    ap (λ (g : History). locks_on plan g x.link) part.came ∙ ap (locks_on plan b.older) same in
    record {
      first = locks_on plan a.older x.link;
      second = locks_on plan b.older y.link;
      takes_first = takes_place plan h x a cause known;
      takes_second = takes_place plan h y b cause found;
      in_order = omega (arith, grow, there, next);
    }
