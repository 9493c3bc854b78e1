-- The fault of a line of an interface or of memory is its first.
use Rattle.std.proofs.Common.{ℕ, List, [], ◌∷◌, Option, None, Result, Ok, drop, refl, codes}
use Rattle.std.specs.Option.{ok_or, unwrap_or, option_map}
use Rattle.ide_types.specs.Names.{Text}
use Rattle.script_events.specs.Terms.{ScriptEvent, Interface, InterfaceEvent, Loss, LineFault}
use Rattle.script_events.specs.Terms.fault
use Rattle.script_events.specs.Terms.ie
use Rattle.script_events.specs.Words.{number_of_word}
use Rattle.script_events.specs.Parts.{◌>>=◌, number_and_loss, one_number_in, Row, number_test}
use Rattle.script_events.specs.Parts.{length_in, length_test, asked_tests, number_tests}
use Rattle.script_events.specs.Interfaces.{register_in, register_value_in, write_event_in, memory_in}
use Rattle.script_events.specs.Interfaces.{
  interface_event_by_word,
  register_test,
  value_test,
  write_tests,
  memory_tests,
}
use Rattle.script_events.specs.Interfaces.{interface_rows}
use Rattle.script_events.specs.Parse.{made_interface}
use Rattle.script_events.proofs.Readings.{
  RowReads,
  TableReads,
  end_reads,
  step_reads,
  miscounted,
  made_reads,
  one_number,
}
use Rattle.script_events.proofs.Readings.{asked, family_row}

write : (ws : List Text) → RowReads (write_tests ws) ws (write_event_in ws)
write [] = miscounted []
write (i ∷ []) = miscounted (i ∷ [])
write (i ∷ r ∷ []) = miscounted (i ∷ r ∷ [])
write (i ∷ r ∷ w ∷ []) =
    step_reads number_test (number_of_word i) i (register_test ∷ value_test r ∷ []) (r ∷ w ∷ [])
    (λ x. ok_or (register_in r) fault.Word >>= λ y. ok_or (register_value_in y w) fault.Number >>= λ z. Ok
    (ie.Write x y z))
    refl (λ x is.
    step_reads register_test (register_in r) r (value_test r ∷ []) (w ∷ [])
    (λ y. ok_or (register_value_in y w) fault.Number >>= λ z. Ok (ie.Write x y z)) refl (λ y too.
    step_reads (value_test r) (register_value_in y w) w [] [] (λ z. Ok (ie.Write x y z)) (rw too refl)
    (λ z last. end_reads (ie.Write x y z))))
write (i ∷ r ∷ w ∷ x ∷ ws) = miscounted (i ∷ r ∷ w ∷ x ∷ ws)

memory : (ws : List Text) → RowReads (memory_tests ws) ws (memory_in ws)
memory [] = miscounted []
memory (a ∷ []) = miscounted (a ∷ [])
memory (a ∷ l ∷ []) =
    step_reads number_test (number_of_word a) a (length_test ∷ []) (l ∷ [])
    (λ x. ok_or (length_in l) fault.Number >>= λ y. Ok (ie.Memory x y)) refl (λ x is.
    step_reads length_test (length_in l) l [] [] (λ y. Ok (ie.Memory x y)) refl (λ y too. end_reads (ie.Memory x y)))
memory (a ∷ l ∷ x ∷ ws) = miscounted (a ∷ l ∷ x ∷ ws)

-- ---- the rows

asked_row : (rest : List Text) (event : ℕ → Option Loss → InterfaceEvent)
    → RowReads (asked_tests rest) rest (made_interface (number_and_loss rest >>= λ a. Ok (event a.0 a.1)))
asked_row rest event = made_reads (asked_tests rest) rest _ Interface
    (made_reads (asked_tests rest) rest (number_and_loss rest) (λ a. event a.0 a.1) (asked rest))

number_row : (rest : List Text) (event : ℕ → InterfaceEvent) → RowReads (number_tests rest) rest
    (made_interface (one_number_in rest >>= λ n. Ok (event n)))
number_row rest event = made_reads (number_tests rest) rest _ Interface
    (made_reads (number_tests rest) rest (one_number_in rest) event (one_number rest))

pub interface_reads : (first : Text) (rest : List Text) (later : List Row) (z : Result ScriptEvent LineFault)
    → TableReads later rest first z → TableReads (interface_rows later) rest first
    (unwrap_or (option_map made_interface (interface_event_by_word first rest)) z)
interface_reads first rest later z others =
    family_row made_interface (codes "view") number_tests (drop 1 (interface_rows later)) rest first _ _ z
    (number_row rest ie.View)
    (family_row made_interface (codes "write") write_tests (drop 2 (interface_rows later)) rest first _ _ z
    (made_reads (write_tests rest) rest (write_event_in rest) Interface (write rest))
    (family_row made_interface (codes "flr") number_tests (drop 3 (interface_rows later)) rest first _ _ z
    (number_row rest ie.Flr)
    (family_row made_interface (codes "firmware") number_tests (drop 4 (interface_rows later)) rest first _ _ z
    (number_row rest ie.Firmware)
    (family_row made_interface (codes "memory") memory_tests (drop 5 (interface_rows later)) rest first _ _ z
    (made_reads (memory_tests rest) rest (memory_in rest) Interface (memory rest))
    (family_row made_interface (codes "lock") asked_tests (drop 6 (interface_rows later)) rest first _ _ z
    (asked_row rest ie.Lock)
    (family_row made_interface (codes "report") asked_tests (drop 7 (interface_rows later)) rest first _ _ z
    (asked_row rest ie.Report)
    (family_row made_interface (codes "start") asked_tests (drop 8 (interface_rows later)) rest first _ _ z
    (asked_row rest ie.Start)
    (family_row made_interface (codes "halt") asked_tests (drop 9 (interface_rows later)) rest first _ _ z
    (asked_row rest ie.Halt)
    (family_row made_interface (codes "state") asked_tests later rest first _ None z (asked_row rest ie.State)
    others)))))))))
