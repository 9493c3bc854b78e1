-- The walk at both ends of a line that is keyed by messages gives the manager's walk, and moves both ends by the calls
-- of the exchanges that were carried. It goes by induction on the exchanges that are left, as that of a line with a
-- host's port does, but nothing is called locally.
use Rattle.ide_types.specs.Lines.{is_hosted}
use Rattle.join_keys.specs.Calls.{told_call, calls_from}
use Rattle.join_keys.specs.Paired.{PairStreams, PairExchanged, PairWalked, pair_unless_lost, pair_after, pair_goes_on}
use Rattle.join_keys.specs.Paired.{pair_walk, HasPairKeys, PairKeysKeptIn}
use Rattle.join_keys.proofs.Terms.{◌≡◌, Bool, arith, true, false, ℕ, Work, Plan, nat_tests, new_work, Operation, ◌≤◌}
use Rattle.join_keys.proofs.Terms.{List, ◌∙◌, sym, Reach, makes_draw, Host, Device, StreamState, ◌+◌, ◌==◌, [], zero}
use Rattle.join_keys.proofs.Terms.{suc, refl, ◌-◌, ap, all_called, ◌<◌, Some, subst, last_exchange_of, Option, None}
use Rattle.join_keys.proofs.Terms.{reach_of, StreamStage, op_at_exchange, new_reach, op_after_reach, Loss, Verdict}
use Rattle.join_keys.proofs.Terms.{PortView, lost_message, cut_at, exchange_judged, option_or, first_from}
use Rattle.join_keys.proofs.Terms.{finished_verdict, different-false, StreamView, asked_of_unfinished, outcome_of}
use Rattle.join_keys.proofs.Terms.{taken_stream, shown_at_end, ManagerWalk, answers, walk, walk_after_outcome, WireKeys}
use Rattle.join_keys.proofs.Terms.{Judged, Expected, Refused, Lost, work_asked}
use Rattle.script_events.specs.declared.event.Lost.{Lost as Message}
use Rattle.script_events.specs.declared.event.Lost.TheVariants.{Request, Reply}
use Rattle.key_host.specs.declared.operation.StreamOutcome.{StreamOutcome}
use Rattle.key_host.proofs.Walks.{ends_as}
use Rattle.event_verdicts.specs.declared.verdict.Operation.TheVariants as op
use Rattle.event_verdicts.specs.declared.verdict.Verdict.TheVariants as v
use Rattle.key_host.specs.declared.operation.StreamOutcome.TheVariants as outcome
use Rattle.join_keys.proofs.Walking.{asked_of, denial}
use Rattle.join_keys.proofs.Resting.{calls_more, calls_none, calls_one, standing_asked}
use Rattle.join_keys.proofs.PairWalking.{PairKnows, IsPairNext, pair_came, pair_next_is}

-- ---- keys that are kept

kept_as : (plan : Plan) (o : Operation) (set : Bool) (draw f : ℕ) (b : Bool) (n : ℕ) (keys : WireKeys) → 1 ≤ n
    → n ≤ last_exchange_of false o → (makes_draw o ≡ true → HasPairKeys plan draw n keys)
    → PairKeysKeptIn plan (op_at_exchange (new_work o set draw f b) n) keys
kept_as plan op.Establish set draw f b n keys least most has = (least, most, has refl)
kept_as plan op.Refresh set draw f b n keys least most has = (least, most, has refl)
kept_as plan op.Stop set draw f b n keys least most has = (least, most)

kept_ended : (plan : Plan) (w : Work) (n : ℕ) (keys : WireKeys) → n ≡ last_exchange_of false w.operation
    → PairKeysKeptIn plan (op_after_reach false (work_asked (asked_of w n)) (new_reach (n + 1) (n + 1))) keys
kept_ended plan w n keys is = grind (arith, nat_tests)

-- ---- what the rest of a walk gives

pub record PairRest (plan : Plan) (w : Work) (n : ℕ) (e : PairStreams) (verdict : Verdict) (y : ManagerWalk)
    (x : PairWalked)
    : Type 0 where
  pub outcome_is : x.outcome ≡ y.outcome
  pub keeper_is : x.ends.keeper ≡ y.stream
  pub comes : Reach
  pub says : reach_of w.operation verdict ≡ Some comes
  pub within : (n ≤ comes.acknowledged) × (comes.acknowledged ≤ comes.carried)
      × (comes.carried ≤ last_exchange_of false w.operation + 1)
  pub near_is : x.ends.near ≡ all_called (calls_from (told_call plan false Host w) n (comes.carried - n)) e.near
  pub far_is : x.ends.far ≡ all_called (calls_from (told_call plan false Device w) n (comes.carried - n)) e.far
  pub names_are : (x.ends.keeper.line ≡ e.keeper.line) × (x.ends.keeper.id ≡ e.keeper.id)
  pub keys_are : PairKeysKeptIn plan x.ends.keeper.op x.ends.keeper.keys

-- what holds of an exchange that is lost on either way, of one that is refused, and of any other
by_fate : (P : Verdict → Judged → PairExchanged → Type 0) (line id : ℕ) (w : Work) (n : ℕ)
    (rest : Option Verdict) (came : PairExchanged) (e : PairStreams) (lost : Option Message) (r : Option ℕ)
    → P (v.LostRequest n) Lost (record { judged = Lost; near = e.near; far = e.far })
    → P (v.LostReply n) Lost (record { judged = Lost; near = came.near; far = came.far })
    → ((status : ℕ) → r ≡ Some status → P (v.RefusedDevice n status) (Refused status) came)
    → (r ≡ None → P (ends_as line id w rest) Expected came)
    → P (ends_as line id w (option_or (cut_at lost r n) rest)) (exchange_judged lost r) (pair_unless_lost lost came e)
by_fate P line id w n rest came e (Some Request) r request reply refused onward = request
by_fate P line id w n rest came e (Some Reply) r request reply refused onward = reply
by_fate P line id w n rest came e None (Some status) request reply refused onward = refused status refl
by_fate P line id w n rest came e None None request reply refused onward = onward refl

done_says : (line id : ℕ) (w : Work) (n : ℕ) → is_hosted line ≡ false → n ≡ last_exchange_of false w.operation
    → reach_of w.operation (finished_verdict line id w) ≡ Some (new_reach (n + 1) (n + 1))
done_says line id w n kind is = grind arith

module _ (plan : Plan) (ports : PortView) (w : Work) (line id requester : ℕ) (before : PairStreams)
    (knows : PairKnows plan ports w line id requester before)
    (loss : Option Loss) where
  -- it stays at the exchange
  stays : (n : ℕ) (e : PairStreams) → PairKeysKeptIn plan e.keeper.op e.keeper.keys → (verdict : Verdict) (carried : ℕ)
      → reach_of w.operation verdict ≡ Some (new_reach carried n)
      → n ≤ carried → carried ≤ last_exchange_of false w.operation + 1 → (near far : StreamState)
      → near ≡ all_called (calls_from (told_call plan false Host w) n (carried - n)) e.near
      → far ≡ all_called (calls_from (told_call plan false Device w) n (carried - n)) e.far
      → (out : StreamOutcome)
      → PairRest plan w n e verdict (record { outcome = out; stream = e.keeper })
      (record { outcome = out; ends = record { near = near; far = far; keeper = e.keeper } })
  stays n e kept verdict carried says low high near far near_is far_is out = record {
    outcome_is = refl;
    keeper_is = refl;
    comes = new_reach carried n;
    says = says;
    within = omega arith;
    near_is = near_is;
    far_is = far_is;
    names_are = (refl, refl);
    keys_are = kept;
  }

  -- what the two walks give after an answer
  abbrev told : ℕ → Judged → ℕ → StreamView → ManagerWalk
  told n j k s =
      let a = asked_of w n in
      walk_after_outcome (outcome_of false a j) (taken_stream false a j s)
      (walk false k (answers loss (denial ports w line id)) (taken_stream false a j s))

  abbrev walked : ℕ → PairExchanged → ℕ → PairStreams → PairWalked
  walked n x more e = let a = asked_of w n in pair_goes_on (outcome_of false a x.judged) (pair_after a x e)
      (pair_walk more loss requester (pair_after a x e))

  abbrev answered : ℕ → Option ℕ → PairStreams → PairExchanged
  answered n r e = record {
    judged = exchange_judged None r;
    near = all_called (told_call plan false Host w n) e.near;
    far = all_called (told_call plan false Device w n) e.far;
  }

  abbrev after : ℕ → PairStreams → PairStreams
  after n e = pair_after (asked_of w n) (answered n None e) e

  -- what is known after an exchange tells what is known from it on
  back : (n : ℕ) (e : PairStreams) → (verdict : Verdict) (y : ManagerWalk) (x : PairWalked)
      → PairRest plan w (n + 1) (after n e) verdict y x → PairRest plan w n e verdict y x
  back n e verdict y x rest =
      let within = rest.within in
      record {
        outcome_is = rest.outcome_is;
        keeper_is = rest.keeper_is;
        comes = rest.comes;
        says = rest.says;
        within = omega (arith, within);
        near_is = rest.near_is ∙ calls_more (told_call plan false Host w) n rest.comes.carried e.near
            (omega (arith, within));
        far_is = rest.far_is ∙ calls_more (told_call plan false Device w) n rest.comes.carried e.far
            (omega (arith, within));
        names_are = rest.names_are;
        keys_are = rest.keys_are;
      }

  -- after the last exchange
  ends : (n more k : ℕ) (e : PairStreams) → n ≡ last_exchange_of false w.operation
      → PairRest plan w n e (finished_verdict line id w) (told n Expected k e.keeper)
      (walked n (answered n None e) more e)
  ends n more k e same =
      let last : (n == last_exchange_of false w.operation) ≡ true = grind (arith, nat_tests) in
      let next = after n e in
      let rest = stays (n + 1) next (kept_ended plan w n next.keeper.keys same) (finished_verdict line id w) (n + 1)
      (done_says line id w n knows.line same) (omega arith)
      (omega (arith, same)) next.near next.far (calls_none (told_call plan false Host w) (n + 1) next.near)
      (calls_none (told_call plan false Device w) (n + 1) next.far)
      (outcome.Done (shown_at_end (asked_of w n))) in
      rw last (rw last at (back n e _ _ _ rest))

  -- after another one the walk goes on
  further : (n more k : ℕ) (e : PairStreams) → n < last_exchange_of false w.operation
      → (verdict : Verdict) → let next = after n e in
      PairRest plan w (n + 1) next verdict (walk false k (answers loss (denial ports w line id)) next.keeper)
      (pair_walk more loss requester next)
      → PairRest plan w n e verdict (told n Expected k e.keeper) (walked n (answered n None e) more e)
  further n more k e less verdict rest =
      let other = different-false n (last_exchange_of false w.operation) less in rw other
      (rw other at (back n e _ _ _ rest))

  -- one exchange, if the rest is known
  steps : (n more k : ℕ) (e : PairStreams) → IsPairNext plan w id before n e → 1 ≤ n
      → n ≤ last_exchange_of false w.operation → (rest : Option Verdict)
      → (denial ports w line id n ≡ None → PairRest plan w n e (ends_as line id w rest)
      (told n Expected k e.keeper)
      (walked n (answered n None e) more e))
      → PairRest plan w n e
      (ends_as line id w (option_or (cut_at (lost_message loss n) (denial ports w line id n) n) rest))
      (walk false (suc k) (answers loss (denial ports w line id)) e.keeper) (pair_walk (suc more) loss requester e)
  steps n more k e at least most rest onward =
      let r = denial ports w line id n in
      let near = all_called (told_call plan false Host w n) e.near in
      let far = all_called (told_call plan false Device w n) e.far in
      let kept : PairKeysKeptIn plan e.keeper.op e.keeper.keys = subst
      (λ (q : StreamStage). PairKeysKeptIn plan q e.keeper.keys) (sym at.op_is)
      (kept_as plan w.operation w.set w.draw w.first w.begins n e.keeper.keys least most at.keys) in
      let asked : asked_of_unfinished e.keeper.op ≡ Some (asked_of w n) = ap asked_of_unfinished at.op_is ∙
      standing_asked w n knows.fits in
      let one_near = calls_one (told_call plan false Host w) n e.near in
      let one_far = calls_one (told_call plan false Device w) n e.far in
      rw (asked, pair_came plan ports w line id requester before knows n e at least most)
      (by_fate (λ verdict j x. PairRest plan w n e verdict (told n j k e.keeper) (walked n x more e)) line id w n
      rest (answered n r e) e (lost_message loss n) r
      (stays n e kept (v.LostRequest n) n refl (omega arith) (omega arith) e.near e.far
      (calls_none (told_call plan false Host w) n e.near) (calls_none (told_call plan false Device w) n e.far) _)
      (stays n e kept (v.LostReply n) (n + 1) refl (omega arith) (omega arith) near far one_near one_far _)
      (λ status denied. rw denied
      (stays n e kept (v.RefusedDevice n status) (n + 1) refl (omega arith) (omega arith) near far one_near one_far _))
      (λ free. rw free (onward free)))

  pub pair_rest_is : (k more n : ℕ) (e : PairStreams) → n + k ≡ last_exchange_of false w.operation → 1 ≤ n → k ≤ more
      → IsPairNext plan w id before n e
      → PairRest plan w n e
      (ends_as line id w (first_from (λ x. cut_at (lost_message loss x) (denial ports w line id x) x) n (suc k)))
      (walk false (suc k) (answers loss (denial ports w line id)) e.keeper) (pair_walk (suc more) loss requester e)
  pair_rest_is zero more n e count least le at =
      let same : n ≡ last_exchange_of false w.operation = omega (arith, count) in
      steps n more zero e at least (omega (arith, same)) None (λ free. ends n more zero e same)
  pair_rest_is (suc k) zero n e count least le at = absurd (omega (arith, le))
  pair_rest_is (suc k) (suc more) n e count least le at =
      let less : n < last_exchange_of false w.operation = omega (arith, count) in
      let rest = first_from (λ x. cut_at (lost_message loss x) (denial ports w line id x) x) (n + 1) (suc k) in
      steps n (suc more) (suc k) e at least (omega (arith, less)) rest
      (λ free. further n (suc more) (suc k) e less (ends_as line id w rest)
      (pair_rest_is k more (n + 1) (after n e) (omega (arith, count)) (omega arith) (omega (arith, le))
      (pair_next_is plan ports w line id requester before knows n e at least less free)))
