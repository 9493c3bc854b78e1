-- The fault of a line of a trusted read or of guarded memory is its first.
use Rattle.std.proofs.Common.{List, [], ◌∷◌, None, Result, Ok, drop, refl, codes}
use Rattle.std.specs.Option.{ok_or, unwrap_or, option_map}
use Rattle.ide_types.specs.Names.{Text}
use Rattle.script_events.specs.Terms.{ScriptEvent, Access, LineFault}
use Rattle.script_events.specs.Terms.fault
use Rattle.script_events.specs.Terms.ae
use Rattle.script_events.specs.Words.{number_of_word}
use Rattle.script_events.specs.Parts.{◌>>=◌, one_number_in, length_in, Row, number_test, length_test, number_tests}
use Rattle.script_events.specs.Accesses.{mmio_in, access_event_by_word, mmio_tests, access_rows}
use Rattle.script_events.specs.Parse.{made_access}
use Rattle.script_events.proofs.Readings.{
  RowReads,
  TableReads,
  end_reads,
  step_reads,
  miscounted,
  made_reads,
  one_number,
}
use Rattle.script_events.proofs.Readings.{family_row}

mmio : (ws : List Text) → RowReads (mmio_tests ws) ws (mmio_in ws)
mmio [] = miscounted []
mmio (i ∷ []) = miscounted (i ∷ [])
mmio (i ∷ b ∷ []) = miscounted (i ∷ b ∷ [])
mmio (i ∷ b ∷ o ∷ []) = miscounted (i ∷ b ∷ o ∷ [])
mmio (i ∷ b ∷ o ∷ l ∷ []) =
    step_reads number_test (number_of_word i) i (number_test ∷ number_test ∷ length_test ∷ []) (b ∷ o ∷ l ∷ [])
    (λ x. ok_or (number_of_word b) fault.Number >>= λ y. ok_or (number_of_word o) fault.Number >>= λ z. ok_or
    (length_in l) fault.Number >>= λ n. Ok (ae.Mmio x y z n)) refl (λ x first.
    step_reads number_test (number_of_word b) b (number_test ∷ length_test ∷ []) (o ∷ l ∷ [])
    (λ y. ok_or (number_of_word o) fault.Number >>= λ z. ok_or (length_in l) fault.Number >>= λ n. Ok
    (ae.Mmio x y z n)) refl (λ y second.
    step_reads number_test (number_of_word o) o (length_test ∷ []) (l ∷ [])
    (λ z. ok_or (length_in l) fault.Number >>= λ n. Ok (ae.Mmio x y z n)) refl (λ z third.
    step_reads length_test (length_in l) l [] [] (λ n. Ok (ae.Mmio x y z n)) refl
    (λ n last. end_reads (ae.Mmio x y z n)))))
mmio (i ∷ b ∷ o ∷ l ∷ x ∷ ws) = miscounted (i ∷ b ∷ o ∷ l ∷ x ∷ ws)

-- ---- the rows

pub access_reads : (first : Text) (rest : List Text) (later : List Row) (z : Result ScriptEvent LineFault)
    → TableReads later rest first z
    → TableReads (access_rows later) rest first (unwrap_or (option_map made_access (access_event_by_word first rest)) z)
access_reads first rest later z others =
    family_row made_access (codes "answer") number_tests (drop 1 (access_rows later)) rest first _ _ z
    (made_reads (number_tests rest) rest _ Access
    (made_reads (number_tests rest) rest (one_number_in rest) ae.Answer (one_number rest)))
    (family_row made_access (codes "respond") number_tests (drop 2 (access_rows later)) rest first _ _ z
    (made_reads (number_tests rest) rest _ Access
    (made_reads (number_tests rest) rest (one_number_in rest) ae.Respond (one_number rest)))
    (family_row made_access (codes "mmio") mmio_tests later rest first _ None z
    (made_reads (mmio_tests rest) rest (mmio_in rest) Access (mmio rest)) others))
