-- The exchanges that read a report, portion by portion.
use Rattle.std.proofs.Common.{◌≡◌, ℕ, suc, ◌+◌, ◌-◌, ◌<◌, ◌≤◌, ◌==◌, Bool, true, false, List, [], ◌∷◌, length}
use Rattle.std.proofs.Common.{Result, Ok, Err, if◌then◌else◌, ap, arith, ◌∙◌}
use Rattle.std.proofs.lemmas.Bool.{ne_eqb}
use Rattle.std.proofs.lemmas.Bool.Decides.{nat_tests}
use Rattle.std.specs.Prelude.{nat_le}
use Rattle.tdisp_codec.specs.declared.request.RequestView.TheVariants as request
use Rattle.tdisp_codec.specs.Replies.{DeviceInterfaceReport}
use Rattle.interface_state.specs.{DeviceTdi}
use Rattle.interface_state.specs.Machine.{portion_answer}
use Rattle.told_facts.specs.declared.fact.Fact.{Fact}
use Rattle.told_facts.specs.Exchanges.{known_exchange, portion_exchanges, shown_exchange}
unfoldable use Rattle.told_facts.specs.Exchanges.{report_from}

module _ (function size : ℕ) (tdi : DeviceTdi) (n read all : ℕ) (lt : n < all) where
  -- what comes of an answer, if the offset has 16 bits
  abbrev opened : Result (List ℕ × ℕ) ℕ → Bool → List Fact
  opened r b = if b then portion_exchanges function size n read r
      (λ more. report_from function size tdi (n + 1) (read + more) (all - (n + 1))) else []

  next_portion : report_from function size tdi n read (all - n)
      ≡ opened (portion_answer tdi read size) (nat_le read 65535)
  unfolding report_from
  next_portion =
      let more : all - n ≡ suc (all - (n + 1)) = omega (arith, lt) in
      ap (report_from function size tdi n read) more

  within : read ≤ 65535 → nat_le read 65535 ≡ true
  within le = grind (arith, nat_tests, le)

  pub none_left : 65535 < read → report_from function size tdi n read (all - n) ≡ []
  none_left over =
      let past : nat_le read 65535 ≡ false = grind (arith, nat_tests, over) in
      next_portion ∙ ap (opened (portion_answer tdi read size)) past

  given : (r : Result (List ℕ × ℕ) ℕ) → read ≤ 65535 → portion_answer tdi read size ≡ r
      → report_from function size tdi n read (all - n) ≡ opened r true
  given r le is = next_portion ∙ (λ i. opened (is i) (within le i))

  pub portion_refused : (code : ℕ) → read ≤ 65535 → portion_answer tdi read size ≡ Err code
      → report_from function size tdi n read (all - n)
      ≡ shown_exchange n (request.GetDeviceInterfaceReport function read size) function
  portion_refused code le is = given (Err code) le is

  by_left : (bytes : List ℕ) (left : ℕ) (b : Bool) → (left == 0) ≡ b
      → opened (Ok (bytes, left)) true
      ≡ known_exchange n (request.GetDeviceInterfaceReport function read size)
      (DeviceInterfaceReport function left bytes)
      ∷ (if b then [] else report_from function size tdi (n + 1) (read + length bytes) (all - (n + 1)))
  by_left bytes left b is = ap (λ (e : Bool).
      known_exchange n (request.GetDeviceInterfaceReport function read size) (DeviceInterfaceReport function left bytes)
      ∷ (if e then [] else report_from function size tdi (n + 1) (read + length bytes) (all - (n + 1)))) is

  pub last_portion : (bytes : List ℕ) (left : ℕ) → read ≤ 65535 → portion_answer tdi read size ≡ Ok (bytes, left)
      → left ≡ 0 → report_from function size tdi n read (all - n)
      ≡ known_exchange n (request.GetDeviceInterfaceReport function read size)
      (DeviceInterfaceReport function left bytes)
      ∷ []
  last_portion bytes left le is none =
      let ends : (left == 0) ≡ true = grind (arith, nat_tests, none) in
      given (Ok (bytes, left)) le is ∙ by_left bytes left true ends

  pub portion_more : (bytes : List ℕ) (left : ℕ) → read ≤ 65535 → portion_answer tdi read size ≡ Ok (bytes, left)
      → ((left ≡ 0) → ⊥) → report_from function size tdi n read (all - n)
      ≡ known_exchange n (request.GetDeviceInterfaceReport function read size)
      (DeviceInterfaceReport function left bytes)
      ∷ report_from function size tdi (n + 1) (read + length bytes) (all - (n + 1))
  portion_more bytes left le is some =
      let goes : (left == 0) ≡ false = ne_eqb left 0 some in
      given (Ok (bytes, left)) le is ∙ by_left bytes left false goes

pub no_portion : (function size : ℕ) (tdi : DeviceTdi) (n read left : ℕ) → left ≡ 0
    → report_from function size tdi n read left ≡ []
unfolding report_from
no_portion function size tdi n read left none = ap (report_from function size tdi n read) none
