-- How far an operation comes, by the verdict that is due.
use Rattle.spec_keys.proofs.Terms.{◌≡◌, ℕ, suc, zero, ◌+◌, ◌-◌, ◌<◌, ◌≤◌, Bool, true, false, Option, Some, None, arith}
use Rattle.spec_keys.proofs.Terms.{◌⊎◌, inl, inr, SubKind, Pr, Npr, Cpl, Side, Host, Device, Loss, Lost, Operation}
use Rattle.spec_keys.proofs.Terms.{Verdict, Work, is_host, is_hosted, is_local, places_of, told_places, whole, ◌&&◌}
use Rattle.spec_keys.proofs.Terms.{◌++◌, nat_tests, Reach, new_reach, last_exchange_of, reach_of, program_exchange}
use Rattle.spec_keys.proofs.Terms.{option_or, unwrap_or, refl, List, [], ◌∷◌, ◌==◌, ◌∙◌, KeyPlace, key_place_at}
use Rattle.spec_keys.proofs.Terms.{if◌then◌else◌, first_status, PortView, cut_at, finished_verdict, first_from}
use Rattle.spec_keys.proofs.Terms.{lost_message, operation_verdict, refusal_at, stays}
use Rattle.event_verdicts.specs.declared.verdict.Operation.TheVariants as op
use Rattle.event_verdicts.specs.declared.verdict.Verdict.TheVariants as v
use Rattle.spec_keys.proofs.Fits.{Reached, place}

-- the first exchange that gives a verdict, and those before it give none; or none does
abbrev First : (ℕ → Option Verdict) → ℕ → ℕ → Option Verdict → Type 0
First cut n c None = (x : ℕ) → n ≤ x → x < n + c → cut x ≡ None
First cut n c (Some verdict) =
    (y : ℕ) × (n ≤ y) × (y < n + c) × (cut y ≡ Some verdict) × ((x : ℕ) → n ≤ x → x < y → cut x ≡ None)

after_none : (cut : ℕ → Option Verdict) (n c : ℕ) (o : Option Verdict) → cut n ≡ None → First cut (n + 1) c o
    → First cut n (suc c) o
after_none cut n c None none rest = λ x le lt. grind (arith, none, rest)
after_none cut n c (Some verdict) none (y, le, lt, is, before) =
    (y, omega arith, omega arith, is, λ x from to. grind (arith, none, before))

first_is : (cut : ℕ → Option Verdict) (n c : ℕ) → First cut n c (first_from cut n c)
first_is cut n zero = λ x le lt. absurd (omega arith)
first_is cut n (suc c) = by_cut (cut n) refl (first_is cut (n + 1) c)
  where
    by_cut : (o : Option Verdict) → cut n ≡ o → First cut (n + 1) c (first_from cut (n + 1) c)
        → First cut n (suc c) (option_or o (first_from cut (n + 1) c))
    by_cut None none rest = after_none cut n c _ none rest
    by_cut (Some verdict) is rest = (n, omega arith, omega arith, is, λ x le lt. absurd (omega arith))

-- ---- an event of an operation

-- the verdict says how far it came, and no KEY_PROG below was refused
pub record Performs (ports : PortView) (line stream : ℕ) (w : Work) (verdict : Verdict) : Type 0 where
  pub reached_to : Reach
  pub says : reach_of w.operation verdict ≡ Some reached_to
  pub reached : Reached w.first (last_exchange_of (is_hosted line) w.operation) reached_to
  pub taken : (n : ℕ) → w.first ≤ n → n < reached_to.acknowledged → refusal_at ports w.operation w.set line stream n
      ≡ None

not_refused : (lost : Option Lost) (status : Option ℕ) (n : ℕ) → cut_at lost status n ≡ None → status ≡ None
not_refused lost status n none = grind arith

done_says : (line stream : ℕ) (w : Work) → reach_of w.operation (finished_verdict line stream w)
    ≡ Some (whole line w.operation)
done_says line stream w = grind arith

-- how far the verdict came
abbrev came_to : Option Reach → Reach
came_to (Some r) = r
came_to None = new_reach 0 0

cut_says : (o : Operation) (lost : Option Lost) (status : Option ℕ) (n : ℕ) (verdict : Verdict)
    → cut_at lost status n ≡ Some verdict
    → (reach_of o verdict ≡ Some (came_to (reach_of o verdict))) × ((came_to (reach_of o verdict)).acknowledged ≡ n)
    × (n ≤ (came_to (reach_of o verdict)).carried) × ((came_to (reach_of o verdict)).carried ≤ n + 1)
cut_says o lost status n verdict is = grind arith

pub performs : (ports : PortView) (line stream : ℕ) (loss : Option Loss) (w : Work)
    → w.first ≤ last_exchange_of (is_hosted line) w.operation + 1
    → Performs ports line stream w (operation_verdict ports line stream loss w)
performs ports line stream loss w within = by_stay (stays ports line stream loss w)
    (first_is cut w.first (last_exchange_of (is_hosted line) w.operation + 1 - w.first))
  where
    cut : ℕ → Option Verdict
    cut n = cut_at (lost_message loss n) (refusal_at ports w.operation w.set line stream n) n

    by_stay : (o : Option Verdict) → First cut w.first (last_exchange_of (is_hosted line) w.operation + 1 - w.first) o
        → Performs ports line stream w (unwrap_or o (finished_verdict line stream w))
    by_stay None none = record {
      reached_to = whole line w.operation;
      says = done_says line stream w;
      reached = record
          { forward = within; carried = omega arith; within_one = omega arith; at_most = omega arith };
      taken = λ n le lt. not_refused (lost_message loss n) _ n (none n le (omega (arith, within)));
    }
    by_stay (Some verdict) (y, le, lt, is, none) =
        let says = cut_says w.operation (lost_message loss y) (refusal_at ports w.operation w.set line stream y) y
        verdict
        is in
        record {
          reached_to = came_to (reach_of w.operation verdict);
          says = says.0;
          reached = record {
            forward = omega (arith, says.1, le);
            carried = omega (arith, says.1, says.2);
            within_one = omega (arith, says.1, says.3);
            at_most = omega (arith, says.1, lt, within);
          };
          taken = λ n from to. not_refused (lost_message loss n) _ n (none n from (omega (arith, says.1, to)));
        }

-- ---- the verdict of an event of an operation

-- an exchange at which the operation stays, and what it gives
pub record StaysAt (ports : PortView) (line stream : ℕ) (loss : Option Loss) (w : Work)
    (verdict : Verdict) : Type 0 where
  pub exchange : ℕ
  pub at_least : w.first ≤ exchange
  pub at_most : exchange ≤ last_exchange_of (is_hosted line) w.operation
  pub gives : cut_at (lost_message loss exchange) (refusal_at ports w.operation w.set line stream exchange) exchange
      ≡ Some verdict

-- it ended, or it stays at an exchange
pub performed_stays : (ports : PortView) (line stream : ℕ) (loss : Option Loss) (w : Work)
    → (operation_verdict ports line stream loss w ≡ finished_verdict line stream w)
    ⊎ StaysAt ports line stream loss w (operation_verdict ports line stream loss w)
performed_stays ports line stream loss w = by_stay (stays ports line stream loss w)
    (first_is _ w.first (last_exchange_of (is_hosted line) w.operation + 1 - w.first))
  where
    by_stay : (o : Option Verdict)
        → First (λ n. cut_at (lost_message loss n) (refusal_at ports w.operation w.set line stream n) n) w.first
        (last_exchange_of (is_hosted line) w.operation + 1 - w.first) o
        → (unwrap_or o (finished_verdict line stream w) ≡ finished_verdict line stream w)
        ⊎ StaysAt ports line stream loss w (unwrap_or o (finished_verdict line stream w))
    by_stay None none = inl refl
    by_stay (Some verdict) (y, le, lt, is, none) = inr
        (record { exchange = y; at_least = le; at_most = omega (arith, le, lt); gives = is })

-- whether a verdict is that of an operation that stays at an exchange
abbrev pub is_cut : Verdict → Bool
is_cut (v.LostRequest n) = true
is_cut (v.LostReply n) = true
is_cut (v.RefusedDevice n status) = true
is_cut verdict = false

cut_is : (lost : Option Lost) (status : Option ℕ) (n : ℕ) (verdict : Verdict) → cut_at lost status n ≡ Some verdict
    → is_cut verdict ≡ true
cut_is lost status n verdict is = grind arith

pub performed_is : (ports : PortView) (line stream : ℕ) (loss : Option Loss) (w : Work)
    → (operation_verdict ports line stream loss w ≡ finished_verdict line stream w)
    ⊎ (is_cut (operation_verdict ports line stream loss w) ≡ true)
performed_is ports line stream loss w = by_end _ (performed_stays ports line stream loss w)
  where
    by_end : (x : Verdict) → (x ≡ finished_verdict line stream w) ⊎ StaysAt ports line stream loss w x
        → (x ≡ finished_verdict line stream w) ⊎ (is_cut x ≡ true)
    by_end x (inl ended) = inl ended
    by_end x (inr at) = inr (cut_is (lost_message loss at.exchange) _ at.exchange x at.gives)

-- ---- places whose keys are given by messages

first_of_place : (status : KeyPlace → Option ℕ) (ps : List KeyPlace) (given : ℕ) → first_status status ps ≡ Some given
    → (p : KeyPlace) × (status p ≡ Some given)
first_of_place status [] given is = absurd cc
first_of_place status (p ∷ ps) given is = by_first (status p) refl is (first_of_place status ps given)
  where
    by_first : (o : Option ℕ) → status p ≡ o → option_or o (first_status status ps) ≡ Some given
        → (first_status status ps ≡ Some given → (q : KeyPlace) × (status q ≡ Some given))
        → (q : KeyPlace) × (status q ≡ Some given)
    by_first None e is later = later is
    by_first (Some i) e is later = (p, e ∙ is)

asked_refusal : (b : Bool) (o : Option ℕ) (given : ℕ) → (if b then o else None) ≡ Some given → o ≡ Some given
asked_refusal b o given is = grind arith

asked_none : (n : ℕ) (o : Option ℕ) → (if n == n then o else None) ≡ None → o ≡ None
asked_none n o none = grind (arith, nat_tests)

-- the status with which an exchange is refused is that of a place
pub refusal_of_place : (ports : PortView) (o : Operation) (set : Bool) (line stream n given : ℕ)
    → refusal_at ports o set line stream n ≡ Some given → (p : KeyPlace) × (ports.refusal p set ≡ Some given)
refusal_of_place ports op.Stop set line stream n given is = absurd cc
refusal_of_place ports op.Establish set line stream n given is =
    let found = first_of_place (λ p. if program_exchange op.Establish p == n then ports.refusal p set else None)
    (told_places (is_hosted line) line stream) given is in
    (found.0, asked_refusal (program_exchange op.Establish found.0 == n) _ given found.1)
refusal_of_place ports op.Refresh set line stream n given is =
    let found = first_of_place (λ p. if program_exchange op.Refresh p == n then ports.refusal p set else None)
    (told_places (is_hosted line) line stream) given is in
    (found.0, asked_refusal (program_exchange op.Refresh found.0 == n) _ given found.1)

-- the first of six and more is none only if each is
six_none : (status : KeyPlace → Option ℕ) (a b c d e f : KeyPlace) (ps : List KeyPlace)
    → first_status status (a ∷ b ∷ c ∷ d ∷ e ∷ f ∷ ps) ≡ None
    → (status a ≡ None) × (status b ≡ None) × (status c ≡ None) × (status d ≡ None) × (status e ≡ None)
    × (status f ≡ None) × (first_status status ps ≡ None)
six_none status a b c d e f ps none = grind arith

-- the six places of an end, before others
end_none : (status : KeyPlace → Option ℕ) (side : Side) (line stream : ℕ) (sends : Bool) (u : SubKind)
    → (ps : List KeyPlace) → first_status status (places_of side line stream ++ ps) ≡ None
    → (status (place side line stream sends u) ≡ None) × (first_status status ps ≡ None)
end_none status side line stream sends u ps none =
    let all = six_none status (key_place_at side line stream false Pr) (key_place_at side line stream false Npr)
    (key_place_at side line stream false Cpl) (key_place_at side line stream true Pr)
    (key_place_at side line stream true Npr) (key_place_at side line stream true Cpl) ps none in
    (one side sends u all, all.6)
  where
    one : (x : Side) (b : Bool) (v : SubKind)
        → (status (key_place_at x line stream false Pr) ≡ None) × (status (key_place_at x line stream false Npr) ≡ None)
        × (status (key_place_at x line stream false Cpl) ≡ None) × (status (key_place_at x line stream true Pr) ≡ None)
        × (status (key_place_at x line stream true Npr) ≡ None) × (status (key_place_at x line stream true Cpl) ≡ None)
        × (first_status status ps ≡ None) → status (place x line stream b v) ≡ None
    one Host true Pr all = all.0
    one Host true Npr all = all.1
    one Host true Cpl all = all.2
    one Host false Pr all = all.3
    one Host false Npr all = all.4
    one Host false Cpl all = all.5
    one Device false Pr all = all.0
    one Device false Npr all = all.1
    one Device false Cpl all = all.2
    one Device true Pr all = all.3
    one Device true Npr all = all.4
    one Device true Cpl all = all.5

-- a place whose keys are given by messages is among them
told_by : (hosted : Bool) (status : KeyPlace → Option ℕ) (side : Side) (line stream : ℕ) (sends : Bool) (u : SubKind)
    → (is_host side && hosted) ≡ false → first_status status (told_places hosted line stream) ≡ None
    → status (place side line stream sends u) ≡ None
told_by true status Host line stream sends u told none = absurd cc
told_by true status Device line stream sends u told none = (end_none status Device line stream sends u [] none).0
told_by false status Host line stream sends u told none =
    (end_none status Host line stream sends u (places_of Device line stream) none).0
told_by false status Device line stream sends u told none =
    (end_none status Device line stream sends u []
    (end_none status Host line stream false Pr (places_of Device line stream) none).1).0

-- it takes the KEY_PROG whose exchange is not refused
pub told_takes : (ports : PortView) (set : Bool) (side : Side) (line stream : ℕ) (sends : Bool) (u : SubKind)
    → is_local (place side line stream sends u) ≡ false
    → refusal_at ports op.Refresh set line stream (program_exchange op.Refresh (place side line stream sends u)) ≡ None
    → ports.refusal (place side line stream sends u) set ≡ None
told_takes ports set side line stream sends u told free = asked_none (program_exchange op.Refresh p) _
    (told_by (is_hosted line) (λ q. if program_exchange op.Refresh q == program_exchange op.Refresh p
    then ports.refusal q set
    else None) side line stream sends u told free)
  where
    p : KeyPlace
    p = place side line stream sends u
