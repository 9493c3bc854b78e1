-- The walk at both ends gives the manager's walk, and moves both ports by the calls of the exchanges that were carried.
-- It goes by induction on the exchanges that are left. Each is lost as a request or as a reply or refused, and the walk
-- stays there (`stays`); or it is answered as expected, and its calls come before those of the rest (`back`). The
-- host's port is called after one exchange at the most, the last receiver's GO.
use Rattle.join_keys.proofs.Terms.{◌≡◌, Bool, arith, true, ℕ, List, ◌++◌, Work, Plan, if◌then◌else◌, nat_tests}
use Rattle.join_keys.proofs.Terms.{Operation, ◌≤◌, ◌∙◌, sym, Reach, makes_draw, is_number_between, StreamCall, Host}
use Rattle.join_keys.proofs.Terms.{StreamState, ◌+◌, ◌==◌, [], zero, suc, refl, ◌-◌, ap, exchange_call}
use Rattle.join_keys.proofs.Terms.{exchanges_called, all_called, host_go, ◌&&◌, ◌<◌, Some, subst, ◌∷◌, last_exchange_of}
use Rattle.join_keys.proofs.Terms.{Option, None, reach_of, StreamStage, op_at_exchange, new_reach, op_after_reach}
use Rattle.join_keys.proofs.Terms.{all_called_at_side, Loss, Verdict, PortView, lost_message, cut_at, exchange_judged}
use Rattle.join_keys.proofs.Terms.{option_or, first_from, finished_verdict, different-false, PlaceCall, host_goes}
use Rattle.join_keys.proofs.Terms.{StreamView, asked_of_unfinished, outcome_of, taken_stream, taken_calls, shown_at_end}
use Rattle.join_keys.proofs.Terms.{ManagerWalk, answers, walk, walk_after_outcome, StreamEnds, walk_on}
use Rattle.join_keys.proofs.Terms.{ends_after_exchange, Exchanged, exchanged_unless_lost, WalkedEnds, goes_on, HasKeys}
use Rattle.join_keys.proofs.Terms.{KeysKept, KeysKeptInStage, exchange_of, WireKeys, is_last_receiver_go, Judged}
use Rattle.join_keys.proofs.Terms.{Expected, Refused, Lost, KeySet, key_set, one_of_set, work_asked}
use Rattle.key_host.specs.declared.operation.StreamOutcome.{StreamOutcome}
use Rattle.key_host.proofs.Walks.{WorkFits, ends_as}
use Rattle.event_verdicts.specs.declared.verdict.Verdict.TheVariants as v
use Rattle.key_host.specs.declared.operation.StreamOutcome.TheVariants as outcome
use Rattle.join_keys.proofs.Lanes.{first_program}
use Rattle.join_keys.specs.Calls.{calls_from}
use Rattle.ide_types.specs.Lines.{is_hosted}
use Rattle.join_keys.proofs.Walking.{asked_of, denial, Knows, IsNext, came_is, next_is}

-- ---- lists of calls

pub all_append : (xs ys : List StreamCall) (x : StreamState) → all_called (xs ++ ys) x ≡ all_called ys (all_called xs x)
all_append [] ys x = refl
all_append (c ∷ cs) ys x = all_append cs ys _

-- the calls of so many exchanges, and those of one more before them
pub calls_more : (made : ℕ → List StreamCall) (n carried : ℕ) (x : StreamState) → n + 1 ≤ carried
    → all_called (calls_from made (n + 1) (carried - (n + 1))) (all_called (made n) x)
    ≡ all_called (calls_from made n (carried - n)) x
calls_more made n carried x le =
    let count : carried - n ≡ suc (carried - (n + 1)) = omega (arith, le) in
    rw (count, all_append (made n) (calls_from made (n + 1) (carried - (n + 1))) x)

pub calls_none : (made : ℕ → List StreamCall) (n : ℕ) (x : StreamState) → x ≡ all_called (calls_from made n (n - n)) x
calls_none made n x = let count : n - n ≡ 0 = omega arith in rw count

pub calls_one : (made : ℕ → List StreamCall) (n : ℕ) (x : StreamState) → all_called (made n) x
    ≡ all_called (calls_from made n (n + 1 - n)) x
calls_one made n x = let count : n + 1 - n ≡ 1 = omega arith in rw (count, all_append (made n) [] x)

-- ---- GOs of the host's port

abbrev pub goes_from : Work → ℕ → ℕ → ℕ → List PlaceCall
goes_from w id n below = if makes_draw w.operation then
    (if is_number_between n (host_go w.operation) below then host_goes id w.set else []) else []

-- which exchange makes the host's port go on
go_at_host : (o : Operation) (set : KeySet) (n : ℕ) → 1 ≤ n → n ≤ last_exchange_of true o
    → is_last_receiver_go (exchange_of true o set n) ≡ (makes_draw o && (n == host_go o))
go_at_host o set n least most = grind (arith, nat_tests)

none_from : (w : Work) (id n : ℕ) → goes_from w id n n ≡ []
none_from w id n = grind (arith, nat_tests)

-- the GOs of one exchange, and of those after it
host_steps : (draws t : Bool) (n go below : ℕ) (cs : List PlaceCall) (host : StreamState) → (n == go) ≡ t → n < below
    → all_called_at_side Host (if draws then (if is_number_between (n + 1) go below then cs else []) else [])
    (all_called_at_side Host (if draws && t then cs else []) host)
    ≡ all_called_at_side Host (if draws then (if is_number_between n go below then cs else []) else []) host
host_steps draws t n go below cs host e lt = grind (arith, nat_tests)

host_step : (w : Work) (id n below : ℕ) (host : StreamState) → 1 ≤ n → n ≤ last_exchange_of true w.operation → n < below
    → all_called_at_side Host (goes_from w id (n + 1) below)
    (all_called_at_side Host (taken_calls true (asked_of w n) Expected id) host)
    ≡ all_called_at_side Host (goes_from w id n below) host
host_step w id n below host least most lt =
    rw (go_at_host w.operation (key_set w.set) n least most, one_of_set w.set)
    (host_steps (makes_draw w.operation) (n == host_go w.operation) n (host_go w.operation) below (host_goes id w.set)
    host refl lt)

-- ---- keys that are kept

kept_standing : (plan : Plan) (w : Work) (n : ℕ) (keys : WireKeys) → 1 ≤ n → n ≤ last_exchange_of true w.operation
    → (makes_draw w.operation ≡ true → HasKeys plan w.draw (first_program w.operation) n keys)
    → KeysKeptInStage plan (op_at_exchange w n) keys
kept_standing plan w n keys least most has = grind arith

kept_ended : (plan : Plan) (w : Work) (n : ℕ) (keys : WireKeys) → n ≡ last_exchange_of true w.operation
    → KeysKeptInStage plan (op_after_reach true (work_asked (asked_of w n)) (new_reach (n + 1) (n + 1))) keys
kept_ended plan w n keys is = grind (arith, nat_tests)

-- ---- what the rest of a walk gives

pub record Rest (plan : Plan) (w : Work) (id n : ℕ) (e : StreamEnds) (verdict : Verdict) (y : ManagerWalk)
    (x : WalkedEnds)
    : Type 0 where
  pub outcome_is : x.outcome ≡ y.outcome
  pub keeper_is : x.ends.keeper ≡ y.stream
  pub comes : Reach
  pub says : reach_of w.operation verdict ≡ Some comes
  pub within : (n ≤ comes.acknowledged) × (comes.acknowledged ≤ comes.carried)
      × (comes.carried ≤ last_exchange_of true w.operation + 1)
  pub host_is : x.ends.host ≡ all_called_at_side Host (goes_from w id n comes.acknowledged) e.host
  pub device_is : x.ends.device ≡ all_called (exchanges_called plan w n (comes.carried - n)) e.device
  pub names_are : (x.ends.keeper.line ≡ e.keeper.line) × (x.ends.keeper.id ≡ e.keeper.id)
  pub keys_are : KeysKept plan x.ends.keeper

-- what holds of an exchange that is lost on either way, of one that is refused, and of any other
by_fate : (P : Verdict → Judged → Exchanged → Type 0) (line id : ℕ) (w : Work) (loss : Option Loss) (n : ℕ)
    (rest : Option Verdict) (r : Option ℕ) (came : Exchanged)
    (x : StreamState)
    → P (v.LostRequest n) Lost (record { judged = Lost; device = x })
    → P (v.LostReply n) Lost (record { judged = Lost; device = came.device })
    → ((status : ℕ) → r ≡ Some status → P (v.RefusedDevice n status) (Refused status) came)
    → (r ≡ None → P (ends_as line id w rest) Expected came)
    → P (ends_as line id w (option_or (cut_at (lost_message loss n) r n) rest))
    (exchange_judged (lost_message loss n) r)
    (exchanged_unless_lost loss n came x)
by_fate P line id w loss n rest r came x request reply refused onward = grind arith

pub standing_asked : (w : Work) (n : ℕ) → WorkFits w.operation w.set w.draw → asked_of_unfinished (op_at_exchange w n)
    ≡ Some (asked_of w n)
unfolding WorkFits
standing_asked w n fits = grind arith

done_says : (line id : ℕ) (w : Work) (n : ℕ) → is_hosted line ≡ true → n ≡ last_exchange_of true w.operation
    → reach_of w.operation (finished_verdict line id w) ≡ Some (new_reach (n + 1) (n + 1))
done_says line id w n hosted is = grind arith

module _ (plan : Plan) (ports : PortView) (w : Work) (line id requester : ℕ) (before : StreamState)
    (knows : Knows plan ports w line id requester before)
    (loss : Option Loss) where
  -- it stays at the exchange
  stays : (n : ℕ) (e : StreamEnds) → KeysKept plan e.keeper → (verdict : Verdict) (carried : ℕ)
      → reach_of w.operation verdict ≡ Some (new_reach carried n)
      → n ≤ carried → carried ≤ last_exchange_of true w.operation + 1
      → (device : StreamState) → device ≡ all_called (exchanges_called plan w n (carried - n)) e.device
      → (out : StreamOutcome)
      → Rest plan w id n e verdict (record { outcome = out; stream = e.keeper })
      (record { outcome = out; ends = record { host = e.host; device = device; keeper = e.keeper } })
  stays n e kept verdict carried says low high device device_is out = record {
    outcome_is = refl;
    keeper_is = refl;
    comes = new_reach carried n;
    says = says;
    within = omega arith;
    host_is = sym (ap (λ (cs : List PlaceCall). all_called_at_side Host cs e.host) (none_from w id n));
    device_is = device_is;
    names_are = (refl, refl);
    keys_are = kept;
  }

  -- what the two walks give after an answer
  abbrev told : ℕ → Judged → ℕ → StreamView → ManagerWalk
  told n j k s =
      let a = asked_of w n in
      walk_after_outcome (outcome_of true a j) (taken_stream true a j s)
      (walk true k (answers loss (denial ports w line id)) (taken_stream true a j s))

  abbrev walked : ℕ → Exchanged → ℕ → StreamEnds → WalkedEnds
  walked n x more e = let a = asked_of w n in goes_on (outcome_of true a x.judged) (ends_after_exchange a x e)
      (walk_on more loss requester (ends_after_exchange a x e))

  abbrev answered : ℕ → Option ℕ → StreamEnds → Exchanged
  answered n r e = record { judged = exchange_judged None r; device = all_called (exchange_call plan w n) e.device }

  abbrev after : ℕ → StreamEnds → StreamEnds
  after n e = ends_after_exchange (asked_of w n) (answered n None e) e

  -- what is known after an exchange tells what is known from it on
  back : (n : ℕ) (e : StreamEnds) → IsNext plan w id before n e → 1 ≤ n → n ≤ last_exchange_of true w.operation
      → (verdict : Verdict) (y : ManagerWalk) (x : WalkedEnds)
      → Rest plan w id (n + 1) (after n e) verdict y x → Rest plan w id n e verdict y x
  back n e at least most verdict y x rest =
      let within = rest.within in
      record {
        outcome_is = rest.outcome_is;
        keeper_is = rest.keeper_is;
        comes = rest.comes;
        says = rest.says;
        within = omega (arith, within);
        host_is =
            rest.host_is ∙ (ap (λ (z : ℕ). all_called_at_side Host (goes_from w id (n + 1) rest.comes.acknowledged)
            (all_called_at_side Host (taken_calls true (asked_of w n) Expected z) e.host)) at.id_is
            ∙ host_step w id n rest.comes.acknowledged e.host least most (omega (arith, within)));
        device_is = rest.device_is ∙ calls_more (exchange_call plan w) n rest.comes.carried e.device
            (omega (arith, within));
        names_are = rest.names_are;
        keys_are = rest.keys_are;
      }

  -- after the last exchange
  ends : (n more k : ℕ) (e : StreamEnds) → IsNext plan w id before n e → 1 ≤ n → n ≡ last_exchange_of true w.operation
      → Rest plan w id n e (finished_verdict line id w) (told n Expected k e.keeper)
      (walked n (answered n None e) more e)
  ends n more k e at least same =
      let last : (n == last_exchange_of true w.operation) ≡ true = grind (arith, nat_tests) in
      let next = after n e in
      let rest = stays (n + 1) next (kept_ended plan w n next.keeper.keys same) (finished_verdict line id w) (n + 1)
      (done_says line id w n knows.hosted same) (omega arith)
      (omega (arith, same)) next.device (calls_none (exchange_call plan w) (n + 1) next.device)
      (outcome.Done (shown_at_end (asked_of w n))) in
      rw last (rw last at (back n e at least (omega (arith, same)) _ _ _ rest))

  -- after another one the walk goes on
  further : (n more k : ℕ) (e : StreamEnds) → IsNext plan w id before n e → 1 ≤ n
      → n < last_exchange_of true w.operation
      → (verdict : Verdict) → let next = after n e in
      Rest plan w id (n + 1) next verdict (walk true k (answers loss (denial ports w line id)) next.keeper)
      (walk_on more loss requester next)
      → Rest plan w id n e verdict (told n Expected k e.keeper) (walked n (answered n None e) more e)
  further n more k e at least less verdict rest =
      let other = different-false n (last_exchange_of true w.operation) less in rw other
      (rw other at (back n e at least (omega (arith, less)) _ _ _ rest))

  -- one exchange, if the rest is known
  steps : (n more k : ℕ) (e : StreamEnds) → IsNext plan w id before n e → 1 ≤ n → n ≤ last_exchange_of true w.operation
      → (rest : Option Verdict)
      → (denial ports w line id n ≡ None → Rest plan w id n e (ends_as line id w rest)
      (told n Expected k e.keeper)
      (walked n (answered n None e) more e))
      → Rest plan w id n e
      (ends_as line id w (option_or (cut_at (lost_message loss n) (denial ports w line id n) n) rest))
      (walk true (suc k) (answers loss (denial ports w line id)) e.keeper) (walk_on (suc more) loss requester e)
  steps n more k e at least most rest onward =
      let r = denial ports w line id n in
      let came = all_called (exchange_call plan w n) e.device in
      let kept : KeysKept plan e.keeper = subst (λ (q : StreamStage). KeysKeptInStage plan q e.keeper.keys)
      (sym at.op_is)
      (kept_standing plan w n e.keeper.keys least most at.keys) in
      let asked : asked_of_unfinished e.keeper.op ≡ Some (asked_of w n) = ap asked_of_unfinished at.op_is ∙
      standing_asked w n knows.fits in
      rw (asked, came_is plan ports w line id requester before knows n e at least most)
      (by_fate (λ verdict j x. Rest plan w id n e verdict (told n j k e.keeper) (walked n x more e)) line id w loss n
      rest r (answered n r e) e.device
      (stays n e kept (v.LostRequest n) n refl (omega arith) (omega arith) e.device
      (calls_none (exchange_call plan w) n e.device) _)
      (stays n e kept (v.LostReply n) (n + 1) refl (omega arith) (omega arith) came
      (calls_one (exchange_call plan w) n e.device) _)
      (λ status denied. rw denied
      (stays n e kept (v.RefusedDevice n status) (n + 1) refl (omega arith) (omega arith) came
      (calls_one (exchange_call plan w) n e.device) _))
      (λ free. rw free (onward free)))

  pub rest_is : (k more n : ℕ) (e : StreamEnds) → n + k ≡ last_exchange_of true w.operation → 1 ≤ n → k ≤ more
      → IsNext plan w id before n e
      → Rest plan w id n e
      (ends_as line id w (first_from (λ x. cut_at (lost_message loss x) (denial ports w line id x) x) n (suc k)))
      (walk true (suc k) (answers loss (denial ports w line id)) e.keeper) (walk_on (suc more) loss requester e)
  rest_is zero more n e count least le at =
      let same : n ≡ last_exchange_of true w.operation = omega (arith, count) in
      steps n more zero e at least (omega (arith, same)) None (λ free. ends n more zero e at least same)
  rest_is (suc k) zero n e count least le at = absurd (omega (arith, le))
  rest_is (suc k) (suc more) n e count least le at =
      let less : n < last_exchange_of true w.operation = omega (arith, count) in
      let rest = first_from (λ x. cut_at (lost_message loss x) (denial ports w line id x) x) (n + 1) (suc k) in
      steps n (suc more) (suc k) e at least (omega (arith, less)) rest
      (λ free. further n (suc more) (suc k) e at least less (ends_as line id w rest)
      (rest_is k more (n + 1) (after n e) (omega (arith, count)) (omega arith) (omega (arith, le))
      (next_is plan ports w line id requester before knows n e at least less free)))
