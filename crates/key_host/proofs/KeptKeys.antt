-- Keys that are kept until they are acknowledged: those that are left after an exchange.
use Rattle.std.proofs.Common.{◌≡◌, ◌≢◌, ℕ, ◌+◌, ◌-◌, ◌<◌, ◌≤◌, Bool, true, false, Option, Some, None, refl, arith, ◌∙◌}
use Rattle.std.specs.Prelude.{IsSome, ◌==◌}
use Rattle.std.proofs.lemmas.List.{get_or-set_other}
use Rattle.std.proofs.lemmas.Bool.Decides.{nat_tests}
use Rattle.event_verdicts.specs.declared.verdict.Operation.{Operation}
use Rattle.event_verdicts.specs.declared.verdict.Operation.TheVariants as op
use Rattle.key_slots.specs.{KeySet}
use Rattle.spec_keys.specs.Operations.{last_exchange_of, StreamStage, Establishing, Refreshing, Stopping}
use Rattle.key_host.specs.declared.exchange.Exchange.{Exchange}
use Rattle.key_host.specs.declared.exchange.Exchange.TheVariants.{Query, Program, Go, Stop}
use Rattle.key_host.specs.declared.stage.NextExchange.{NextExchange}
use Rattle.key_host.specs.declared.stage.Stage.{Stage}
use Rattle.key_host.specs.declared.stage.Stage.TheVariants as stage
use Rattle.key_slots.specs.Wires.{WireKeys}
use Rattle.key_host.specs.Exchanges.{kept_key, exchange_of, end_of, exchange_lane, wire_number}
use Rattle.key_host.specs.Streams.{op_of_stage, stage_keys, asked_of_unfinished, op_advanced, is_last, exchange_asked}
use Rattle.key_host.specs.Streams.{wire_asked, KeysLeft}
use Rattle.key_host.specs.Streams.{StageHolds, IsWithin, key_count, first_program, wire_keys_after}

-- whether an exchange brings a key
abbrev brings : Exchange → Bool
brings (Program set lane) = true
brings e = false

still_kept : (e : Exchange) (keys : WireKeys) (w i : ℕ) → (brings e ≡ true → i ≢ w) → IsSome (kept_key keys i)
    → IsSome (kept_key (wire_keys_after e w keys) i)
still_kept (Program set lane) keys w i other kept = rw (get_or-set_other keys w i None None (other refl)) kept
still_kept Query keys w i other kept = kept
still_kept (Go set lane) keys w i other kept = kept
still_kept (Stop set lane) keys w i other kept = kept

-- the number of the key that an exchange brings counts the exchanges from the first KEY_PROG on
brings_at : (hosted : Bool) (o : Operation) (set : KeySet) (n : ℕ) → 1 ≤ n → brings (exchange_of hosted o set n) ≡ true
    → first_program hosted o + wire_number hosted (end_of hosted o n) (exchange_lane (exchange_of hosted o set n)) ≡ n
brings_at true op.Establish set n low e = grind (arith, nat_tests)
brings_at true op.Refresh set n low e = grind (arith, nat_tests)
brings_at true op.Stop set n low e = grind (arith, nat_tests)
brings_at false op.Establish set n low e = grind (arith, nat_tests)
brings_at false op.Refresh set n low e = grind (arith, nat_tests)
brings_at false op.Stop set n low e = grind (arith, nat_tests)

keys_left : (hosted : Bool) (o : Operation) (set : KeySet) (n count : ℕ) (keys : WireKeys) → 1 ≤ n
    → KeysLeft count (first_program hosted o) n keys
    → KeysLeft count (first_program hosted o) (n + 1) (wire_keys_after (exchange_of hosted o set n)
    (wire_number hosted (end_of hosted o n) (exchange_lane (exchange_of hosted o set n))) keys)
keys_left hosted o set n count keys low left i lt past = still_kept (exchange_of hosted o set n) keys _ i
    (λ e same. let at = brings_at hosted o set n low e in absurd (omega (arith, at, same, past)))
    (left i lt (omega (arith, past)))

-- ---- the stage after an exchange that is not the last

not_last : (hosted : Bool) (o : Operation) (n : ℕ) → n ≤ last_exchange_of hosted o
    → (n == last_exchange_of hosted o) ≡ false → n + 1 ≤ last_exchange_of hosted o
not_last hosted o n le e = grind (arith, nat_tests)

-- the next exchange's number and keys, by the state that stands
abbrev AtNext : (hosted : Bool) → StreamStage → WireKeys → Type 0
AtNext hosted (Establishing draw next) keys =
    IsWithin hosted op.Establish next × KeysLeft (key_count hosted) (first_program hosted op.Establish) next keys
AtNext hosted (Refreshing set draw next) keys =
    IsWithin hosted op.Refresh next × KeysLeft (key_count hosted) (first_program hosted op.Refresh) next keys
AtNext hosted (Stopping next) keys = IsWithin hosted op.Stop next
AtNext hosted o keys = Unit {0}

holds_by : (hosted : Bool) (s : Stage) → AtNext hosted (op_of_stage s) (stage_keys s) → StageHolds hosted s
holds_by hosted stage.Idle at = tt
holds_by hosted (stage.Establishing draw next keys) at = at
holds_by hosted (stage.Up set draw) at = tt
holds_by hosted (stage.Refreshing set draw next keys) at = at
holds_by hosted (stage.Stopping next) at = at

asked_is : (x a : NextExchange) → (let some : Option NextExchange = Some x in some) ≡ Some a
    → (a.operation ≡ x.operation) × (a.exchange ≡ x.exchange)
asked_is x a e = grind arith

within_next : (hosted : Bool) (o : Operation) (a : NextExchange) (next : ℕ) → a.operation ≡ o → a.exchange ≡ next
    → IsWithin hosted o next → is_last hosted a ≡ false → IsWithin hosted o (next + 1)
within_next hosted o a next of_o at within last = (
  omega arith,
  not_last hosted o next within.1 (rw (← of_o, ← at) last),
)

left_next : (hosted : Bool) (o : Operation) (a : NextExchange) (next count : ℕ) (keys : WireKeys) → a.operation ≡ o
    → a.exchange ≡ next → 1 ≤ next → KeysLeft count (first_program hosted o) next keys
    → KeysLeft count (first_program hosted o) (next + 1)
    (wire_keys_after (exchange_asked hosted a) (wire_asked hosted a) keys)
left_next hosted o a next count keys of_o at low left = rw (← of_o, ← at)
    (keys_left hosted a.operation a.set a.exchange count keys (rw at low) (rw (of_o, at) left))

pub advances : (hosted : Bool) (old new : Stage) (a : NextExchange) → StageHolds hosted old
    → asked_of_unfinished (op_of_stage old) ≡ Some a → is_last hosted a ≡ false → op_of_stage new
    ≡ op_advanced (op_of_stage old)
    → stage_keys new ≡ wire_keys_after (exchange_asked hosted a) (wire_asked hosted a) (stage_keys old)
    → StageHolds hosted new
advances hosted stage.Idle new a holds asked last ops keys = absurd cc
advances hosted (stage.Up set draw) new a holds asked last ops keys = absurd cc
advances hosted (stage.Stopping next) new a holds asked last ops keys =
    let is = asked_is _ a asked in
    holds_by hosted new (rw ops (within_next hosted op.Stop a next is.0 is.1 holds last))
advances hosted (stage.Establishing draw next kept) new a holds asked last ops keys =
    let is = asked_is _ a asked in
    holds_by hosted new (rw (ops, keys) (
      within_next hosted op.Establish a next is.0 is.1 holds.0 last,
      left_next hosted op.Establish a next (key_count hosted) kept is.0 is.1 holds.0.0 holds.1,
    ))
advances hosted (stage.Refreshing set draw next kept) new a holds asked last ops keys =
    let is = asked_is _ a asked in
    holds_by hosted new (rw (ops, keys) (
      within_next hosted op.Refresh a next is.0 is.1 holds.0 last,
      left_next hosted op.Refresh a next (key_count hosted) kept is.0 is.1 holds.0.0 holds.1,
    ))
