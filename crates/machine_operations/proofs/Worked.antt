-- The state after an operation stands for the history with its pair, whether it was refused or reached an exchange.
use Rattle.machine_operations.proofs.Terms.{◌≡◌, ℕ, ◌==◌, Bool, true, false, Option, Some, None, [], ◌∷◌, length, refl}
use Rattle.machine_operations.proofs.Terms.{ap, sym, ◌∙◌, subst, arith, if◌then◌else◌, ◌&&◌, ◌||◌, base, touches_after}
use Rattle.machine_operations.proofs.Terms.{Cpl, draws_after, draws_made, due, each_sub, place_at_end, Event, facts}
use Rattle.machine_operations.proofs.Terms.{has_failed, failed_live, find, got_same, got_since, has_live_in}
use Rattle.machine_operations.proofs.Terms.{has_live_out, has_stream, held_same, History, is_on, is_on_stream, is_quiet}
use Rattle.machine_operations.proofs.Terms.{kept_all, Keys, port_keys, lane_in, lane_out, LinkState, Loss, manager}
use Rattle.machine_operations.proofs.Terms.{moments, touched_state, touches_at, Npr, on_it, StreamStage, op_after_reach}
use Rattle.machine_operations.proofs.Terms.{Operation, KeyPlace, place_in_sub_stream, Plan, PortName}
use Rattle.machine_operations.proofs.Terms.{StreamsAndPacketsStand, PortView, posted_since_last, posted_sum, Pr, put_op}
use Rattle.machine_operations.proofs.Terms.{quiet_seals_none, Reach, reach_of, rx_slots, rx_slots_same, sealed_same}
use Rattle.machine_operations.proofs.Terms.{since_same, stream_state_due, StreamState, SubKind, SubStream, total_in}
use Rattle.machine_operations.proofs.Terms.{touches, tx_slots, units_same, units_since, Verdict, Work, work_done}
use Rattle.event_verdicts.specs.declared.verdict.Operation.TheVariants as op
use Rattle.machine_ports.proofs.{seat_same}
use Rattle.ide_types.specs.Lines.{is_hosted}
use Rattle.machine_operations.proofs.Operations.{takes_nothing, failed_quiet}
use Rattle.machine_operations.proofs.OperationSteps.{operation_steps}
use Rattle.machine_operations.proofs.Operates.{outs, ins, event_of_operation, asked_quiet, asked_work, is_operation}
use Rattle.machine_operations.proofs.Views.{ports_is}

-- ---- a pair that changes nothing anywhere

pub record Still (plan : Plan) (h : History) (e : Event) (x : Verdict) : Type 0 where
  pub quiet : is_quiet x ≡ true
  pub keys : (port : PortName) (s : SubStream) → port_keys ((e, x) ∷ h) port s ≡ port_keys h port s
  pub based : (line stream : ℕ) → base ((e, x) ∷ h) line stream ≡ base h line stream

-- one that changes nothing at a port
pub record StillAt (plan : Plan) (h : History) (e : Event) (x : Verdict) (port : PortName) : Type 0 where
  pub quiet : is_quiet x ≡ true
  pub keys : (s : SubStream) → s.line ≡ port.line → port_keys ((e, x) ∷ h) port s ≡ port_keys h port s
  pub based : (stream : ℕ) → base ((e, x) ∷ h) port.line stream ≡ base h port.line stream

abbrev any_on : Keys → Bool
any_on ks = is_on ks.first || is_on ks.second

module _ (plan : Plan) (h : History) (e : Event) (x : Verdict) (port : PortName) (is : StillAt plan h e x port)
    (stream : ℕ) where
  still_out : has_live_out ((e, x) ∷ h) port stream ≡ has_live_out h port stream
  unfolding has_live_out
  still_out = let keys = λ (u : SubKind). is.keys (lane_out port stream u) refl in λ i. any_on (keys Pr i)
      || any_on (keys Npr i) || any_on (keys Cpl i)

  still_in : has_live_in ((e, x) ∷ h) port stream ≡ has_live_in h port stream
  unfolding has_live_in
  still_in = let keys = λ (u : SubKind). is.keys (lane_in port stream u) refl in λ i. any_on (keys Pr i)
      || any_on (keys Npr i) || any_on (keys Cpl i)

  still_failed : has_failed ((e, x) ∷ h) port stream ≡ has_failed h port stream
  still_failed = failed_quiet plan h e x is.quiet port stream ∙
      ((λ i. has_failed h port stream && (still_out i || still_in i)) ∙ failed_live plan h port stream)

  pub still_standing : stream_state_due plan ((e, x) ∷ h) port stream ≡ stream_state_due plan h port stream
  unfolding stream_state_due
  still_standing =
      let g = (e, x) ∷ h in
      let xs = sealed_same plan h e x (quiet_seals_none x is.quiet) in
      let from = is.based stream in
      let none = λ (u : SubKind). takes_nothing x is.quiet (lane_in port stream u) in
      let slots = λ (u : SubKind). let s = lane_in port stream u in
      rx_slots_same plan g h port s (port_keys g port s) still_failed (λ j. units_same h e x s j (none u).0)
      (λ j n. held_same plan h e x s j n (none u).1)
      ∙ ap (rx_slots plan h port s) (is.keys s refl) in
      let got = λ (u : SubKind). let s = lane_in port stream u in ap (got_since plan g s) from ∙ got_same plan h e x s
      (base h port.line stream) (none u).0 in
      let units = λ (u : SubKind). let s = lane_in port stream u in ap (units_since g s) from ∙ since_same h e x s
      (base h port.line stream) (none u).0 in
      λ i. record {
        tx = each_sub (λ u. let s = lane_out port stream u in
            record {
              slots = tx_slots plan (xs i) s (is.keys s refl i);
              posted = if still_out i then posted_since_last (xs i) s (from i) else 0;
              total = if still_out i then total_in (xs i) s (from i) else 0;
            });
        rx = each_sub (λ u. record {
          slots = slots u i;
          sum = if still_in i then posted_sum (got u i) else 0;
          got = if still_in i then length (got u i) else 0;
          total = if still_in i then units u i else 0;
        });
        failed = still_failed i;
      }

still_at : (plan : Plan) (h : History) (e : Event) (x : Verdict) → Still plan h e x → (port : PortName)
    → StillAt plan h e x port
still_at plan h e x still port = record {
  quiet = still.quiet;
  keys = λ s here. still.keys port s;
  based = still.based port.line;
}

pub still_stands : (plan : Plan) (st : LinkState) (h : History) (e : Event) (x : Verdict)
    → StreamsAndPacketsStand plan st h → x
    ≡ due plan h e → Still plan h e x → StreamsAndPacketsStand plan st ((e, x) ∷ h)
still_stands plan st h e x stands is still = record {
  cause = (is, stands.cause);
  streams = λ port stream. stands.streams port stream ∙ ap
      (λ (y : StreamState). if has_stream plan port stream then Some y else None)
      (sym (still_standing plan h e x port (still_at plan h e x still port) stream));
  packets = stands.packets ∙ ap kept_all (sym (sealed_same plan h e x (quiet_seals_none x still.quiet)));
}

-- ---- a refused operation

no_touch : (b : Bool) → on_it b [] ≡ []
no_touch b = grind arith

pub untouched : (plan : Plan) (h : History) (e : Event) (x : Verdict)
    → ((p : KeyPlace) → touches (manager h).ops (draws_made h) e x p ≡ []) → (port : PortName) (s : SubStream)
    → port_keys ((e, x) ∷ h) port s ≡ port_keys h port s
unfolding moments
untouched plan h e x none port s = seat_same plan ((e, x) ∷ h) h port s
    (λ sends. ap (touches_after (moments h (place_in_sub_stream port s sends)))
    (none (place_in_sub_stream port s sends)))

no_end : (a b : Bool) → (a && (b && false)) ≡ false
no_end a b = grind arith

asked_still : (plan : Plan) (h : History) (o : Operation) (line stream : ℕ) (lose : Option Loss) (x : Verdict)
    → x ≡ due plan h (event_of_operation o line stream lose) → reach_of o x ≡ None
    → Still plan h (event_of_operation o line stream lose) x
unfolding base
asked_still plan h o line stream lose x is refused = record {
  quiet = ap is_quiet is ∙ asked_quiet plan h o line stream lose;
  keys = untouched plan h (event_of_operation o line stream lose) x (none o refused);
  based = based o refused;
}
  where
    none : (o : Operation) → reach_of o x ≡ None → (p : KeyPlace)
        → touches (manager h).ops (draws_made h) (event_of_operation o line stream lose) x p ≡ []
    none op.Establish refused p = rw refused (no_touch (is_on_stream p line stream))
    none op.Refresh refused p = rw refused (no_touch (is_on_stream p line stream))
    none op.Stop refused p = rw refused (no_touch (is_on_stream p line stream))

    based : (o : Operation) → reach_of o x ≡ None → (l s : ℕ)
        → base ((event_of_operation o line stream lose, x) ∷ h) l s ≡ base h l s
    based op.Establish refused l s = rw
        (refused, no_end ((line == l) && (stream == s)) (asked_work h op.Establish line stream).begins) refl
    based op.Refresh refused l s = refl
    based op.Stop refused l s = refl

-- ---- one that reached an exchange

-- ports and packets are not those of the manager
beside : (plan : Plan) (st : LinkState) (h : History) (line stream : ℕ) (o : StreamStage) (n : ℕ)
    → StreamsAndPacketsStand plan st h
    → StreamsAndPacketsStand plan (record (put_op plan st line stream o) { draws = n }) h
unfolding find put_op
beside plan st h line stream o n stands = record
    { cause = stands.cause; streams = stands.streams; packets = stands.packets }

by_ports : (plan : Plan) (st : LinkState) (h g : History) (line stream : ℕ) (w : Work) (r : Reach)
    → StreamsAndPacketsStand plan st h → StreamsAndPacketsStand plan
    (touched_state plan st line stream (outs h line stream w r) (ins h line stream w r)) g
    → StreamsAndPacketsStand plan (work_done plan st line stream w (Some r)) g
by_ports plan st h g line stream w r stands after =
    beside plan _ g line stream (op_after_reach (is_hosted line) w r) (draws_after st.draws w)
    (subst (λ (ports : PortView). StreamsAndPacketsStand plan
    (touched_state plan st line stream (λ side u. touches_at ports w r (place_at_end line stream true side u))
    (λ side u. touches_at ports w r (place_at_end line stream false side u))) g)
    (sym (ports_is plan st h stands)) after)

pub asked_stands : (plan : Plan) (st : LinkState) (h : History) (o : Operation) (line stream : ℕ) (lose : Option Loss)
    (x : Verdict) → StreamsAndPacketsStand plan st h
    → x ≡ due plan h (event_of_operation o line stream lose)
    → StreamsAndPacketsStand plan (work_done plan st line stream (asked_work h o line stream) (reach_of o x))
    ((event_of_operation o line stream lose, x) ∷ h)
asked_stands plan st h o line stream lose x stands is = by_reach (reach_of o x) refl
  where
    e : Event
    e = event_of_operation o line stream lose

    w : Work
    w = asked_work h o line stream

    by_reach : (r : Option Reach) → reach_of o x ≡ r → StreamsAndPacketsStand plan (work_done plan st line stream w r)
        ((e, x) ∷ h)
    by_reach None refused = still_stands plan st h e x stands is (asked_still plan h o line stream lose x is refused)
    by_reach (Some r) reached =
        by_ports plan st h ((e, x) ∷ h) line stream w r stands
        (operation_steps plan (facts plan) st h e x line stream (outs h line stream w r) (ins h line stream w r) stands
        (is_operation plan h o line stream lose x r (is, stands.cause) reached))
