-- The fault of a line of a stream between devices or of a hop is its first.
use Rattle.std.proofs.Common.{true, false, ℕ, List, [], ◌∷◌, Option, None, Result, Ok, length, drop, refl, arith, codes}
use Rattle.std.specs.Option.{ok_or, unwrap_or, option_map}
use Rattle.std.proofs.lemmas.Bool.{lt-ltb}
use Rattle.ide_types.specs.declared.port.Side.{Side}
use Rattle.ide_types.specs.Names.{Text}
use Rattle.script_events.specs.Terms.{ScriptEvent, PeerSend, Peer, PeerEvent, Hop, HopEvent, Loss, LineFault}
use Rattle.script_events.specs.Terms.fault
use Rattle.script_events.specs.Terms.pe
use Rattle.script_events.specs.Terms.he
use Rattle.script_events.specs.Words.{number_of_word, bytes_in}
use Rattle.script_events.specs.Parts.{◌>>=◌, number_and_loss, operation_in, two_numbers_in, WordTest, Row, number_test}
use Rattle.script_events.specs.Parts.{bytes_test, word_test, asked_tests, operation_tests, two_number_tests}
use Rattle.script_events.specs.Paired.{side_of_word, more_in, peer_send_in, peer_event_of, hop_event_of, side_test}
use Rattle.script_events.specs.Paired.{peer_send_tests, peer_rows, hop_rows}
use Rattle.script_events.specs.Parse.{made_peer, made_hop}
use Rattle.script_events.proofs.Readings.{Reads, RowReads, TableReads, end_reads, step_reads, word_reads, miscounted}
use Rattle.script_events.proofs.Readings.{made_reads, two_numbers, operation, asked, family_row}

-- a number, a side and bytes, and what follows
sent : (p s w : Text) (marks : List Text) (places : List WordTest)
    → ((x : ℕ) (y : Side) (z : List ℕ) → Reads places marks (more_in marks >>= λ m. Ok (PeerSend x y z m)))
    → Reads (number_test ∷ side_test ∷ bytes_test ∷ places) (p ∷ s ∷ w ∷ marks)
    (ok_or (number_of_word p) fault.Number >>= λ x. ok_or (side_of_word s) fault.Word >>= λ y. ok_or (bytes_in w)
    fault.Hex >>= λ z. more_in marks >>= λ m. Ok (PeerSend x y z m))
sent p s w marks places later =
    step_reads number_test (number_of_word p) p (side_test ∷ bytes_test ∷ places) (s ∷ w ∷ marks)
    (λ x. ok_or (side_of_word s) fault.Word >>= λ y. ok_or (bytes_in w) fault.Hex >>= λ z. more_in marks >>= λ m. Ok
    (PeerSend x y z m)) refl (λ x first.
    step_reads side_test (side_of_word s) s (bytes_test ∷ places) (w ∷ marks)
    (λ y. ok_or (bytes_in w) fault.Hex >>= λ z. more_in marks >>= λ m. Ok (PeerSend x y z m)) refl (λ y second.
    step_reads bytes_test (bytes_in w) w places marks (λ z. more_in marks >>= λ m. Ok (PeerSend x y z m)) refl
    (λ z third. later x y z)))

pub peer_send : (ws : List Text) → RowReads (peer_send_tests ws) ws (peer_send_in ws)
peer_send [] = miscounted []
peer_send (p ∷ []) = miscounted (p ∷ [])
peer_send (p ∷ s ∷ []) = miscounted (p ∷ s ∷ [])
peer_send (p ∷ s ∷ w ∷ []) = sent p s w [] [] (λ x y z. end_reads (PeerSend x y z false))
peer_send (p ∷ s ∷ w ∷ m ∷ []) = sent p s w (m ∷ []) (word_test (codes "more") ∷ []) (λ x y z.
    word_reads (codes "more") m [] [] (Ok true) (λ b. Ok (PeerSend x y z b)) (end_reads (PeerSend x y z true)))
peer_send (p ∷ s ∷ w ∷ m ∷ n ∷ ws) = rw (lt-ltb 1 (length (m ∷ n ∷ ws)) (omega arith))
    (miscounted (p ∷ s ∷ w ∷ m ∷ n ∷ ws))

-- ---- the rows

peer_asked_row : (rest : List Text) (event : ℕ → Option Loss → PeerEvent)
    → RowReads (asked_tests rest) rest (made_peer (number_and_loss rest >>= λ a. Ok (event a.0 a.1)))
peer_asked_row rest event = made_reads (asked_tests rest) rest _ Peer
    (made_reads (asked_tests rest) rest (number_and_loss rest) (λ a. event a.0 a.1) (asked rest))

peer_operation_row : (rest : List Text) (event : ℕ → ℕ → Option Loss → PeerEvent)
    → RowReads (operation_tests rest) rest (made_peer (operation_in rest >>= λ o. Ok (event o.0 o.1 o.2)))
peer_operation_row rest event = made_reads (operation_tests rest) rest _ Peer
    (made_reads (operation_tests rest) rest (operation_in rest) (λ o. event o.0 o.1 o.2) (operation rest))

hop_operation_row : (rest : List Text) (event : ℕ → ℕ → Option Loss → HopEvent)
    → RowReads (operation_tests rest) rest (made_hop (operation_in rest >>= λ o. Ok (event o.0 o.1 o.2)))
hop_operation_row rest event = made_reads (operation_tests rest) rest _ Hop
    (made_reads (operation_tests rest) rest (operation_in rest) (λ o. event o.0 o.1 o.2) (operation rest))

pub peer_reads : (first : Text) (rest : List Text) (later : List Row) (z : Result ScriptEvent LineFault)
    → TableReads later rest first z
    → TableReads (peer_rows later) rest first (unwrap_or (option_map made_peer (peer_event_of first rest)) z)
peer_reads first rest later z others =
    family_row made_peer (codes "pestablish") asked_tests (drop 1 (peer_rows later)) rest first _ _ z
    (peer_asked_row rest pe.Establish)
    (family_row made_peer (codes "pstop") asked_tests (drop 2 (peer_rows later)) rest first _ _ z
    (peer_asked_row rest pe.Stop)
    (family_row made_peer (codes "bind") operation_tests (drop 3 (peer_rows later)) rest first _ _ z
    (peer_operation_row rest pe.Bind)
    (family_row made_peer (codes "unbind") operation_tests later rest first _ None z
    (peer_operation_row rest pe.Unbind) others)))

pub hop_reads : (first : Text) (rest : List Text) (later : List Row) (z : Result ScriptEvent LineFault)
    → TableReads later rest first z
    → TableReads (hop_rows later) rest first (unwrap_or (option_map made_hop (hop_event_of first rest)) z)
hop_reads first rest later z others =
    family_row made_hop (codes "hestablish") operation_tests (drop 1 (hop_rows later)) rest first _ _ z
    (hop_operation_row rest he.Establish)
    (family_row made_hop (codes "hstop") operation_tests (drop 2 (hop_rows later)) rest first _ _ z
    (hop_operation_row rest he.Stop)
    (family_row made_hop (codes "forward") two_number_tests later rest first _ None z
    (made_reads (two_number_tests rest) rest _ Hop
    (made_reads (two_number_tests rest) rest (two_numbers_in rest) (λ n. he.Forward n.0 n.1) (two_numbers rest)))
    others))
