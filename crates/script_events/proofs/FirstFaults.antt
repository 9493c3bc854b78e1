-- The fault of a line is its first: each event's words are read from the left, each by its test in the table, so a
-- reading that ends in a fault ends at the first word that does not meet its test.
use Rattle.std.proofs.Common.{true, false, nat_lt, not, ◌&&◌, ◌||◌, ◌≡◌, ◌≤◌, ◌↔◌, ℕ, List, [], ◌∷◌, Bool, Some, None}
use Rattle.std.proofs.Common.{Result, Ok, Err, length, drop, refl, sym, ◌∙◌, ap, arith, codes, inl, inr}
use Rattle.std.specs.Prelude.{if◌then◌else◌, is_some}
use Rattle.std.specs.List.{list_all}
use Rattle.std.specs.Option.{ok_or}
use Rattle.std.specs.Str.{bytes_eq}
use Rattle.std.proofs.lemmas.Bool.{ltb-true, ltb-false, lt-ltb}
use Rattle.ide_types.specs.declared.port.Side.{Side}
use Rattle.ide_types.specs.declared.port.Side.TheVariants.{Host, Device}
use Rattle.ide_types.specs.declared.port.PortName.{PortName}
use Rattle.ide_types.specs.Names.{Text, is_printable}
use Rattle.script_events.specs.Terms.{
  ScriptEvent,
  Establish,
  Refresh,
  Stop,
  Send,
  Pass,
  Alter,
  Cut,
  Arrive,
  Dump,
  Reset,
}
use Rattle.script_events.specs.Terms.{Status, LineFault}
use Rattle.script_events.specs.Terms.fault
use Rattle.script_events.specs.Words.{words_in, number_of_word, mask_in, bytes_in, port_of_word, any_port_of_word}
use Rattle.script_events.specs.Parse.{◌>>=◌, operation_in, marks_in, send_in, one_number_in, two_numbers_in, alter_in}
use Rattle.script_events.specs.Parse.{arrive_in, bytes_event_in, parsed_hop_event, parsed_peer_event, access_event_in}
use Rattle.script_events.specs.Parse.{event_by_first_word, event_in, is_comment}
use Rattle.script_events.specs.Faults.{WordTest, event_table, is_host_side, is_trusted_at, number_test, mask_test}
use Rattle.script_events.specs.Faults.{bytes_test, port_test, any_port_test, word_test, trusted_test, mark_test}
use Rattle.script_events.specs.Paired.{peer_send_tests}
use Rattle.script_events.specs.Faults.{operation_tests, send_tests, arrive_tests, number_tests, two_number_tests}
use Rattle.script_events.specs.Faults.{alter_tests, WordsFault, FirstFault, FaultsAreFirst}
use Rattle.script_events.proofs.Steps.{ok_err, err_err, false_true}
use Rattle.script_events.proofs.Readings.{Reads, RowReads, TableReads, end_reads, off_reads, on_reads, step_reads}
use Rattle.script_events.proofs.Readings.{miscounted, made_reads, one_number, two_numbers, operation, row_reads}
use Rattle.script_events.proofs.Readings.{last_row, no_row}
use Rattle.script_events.proofs.InterfaceFaults.{interface_reads}
use Rattle.script_events.proofs.AccessFaults.{access_reads}
use Rattle.script_events.proofs.PairedFaults.{peer_send, peer_reads, hop_reads}

-- ---- events of packets and of ports

alter : (ws : List Text) → RowReads (alter_tests ws) ws (alter_in ws)
alter [] = miscounted []
alter (n ∷ []) = miscounted (n ∷ [])
alter (n ∷ a ∷ []) = miscounted (n ∷ a ∷ [])
alter (n ∷ a ∷ h ∷ []) =
    step_reads number_test (number_of_word n) n (number_test ∷ mask_test ∷ []) (a ∷ h ∷ [])
    (λ x. ok_or (number_of_word a) fault.Number >>= λ y. ok_or (mask_in h) fault.Hex >>= λ z. Ok (Alter x y z)) refl
    (λ x is.
    step_reads number_test (number_of_word a) a (mask_test ∷ []) (h ∷ [])
    (λ y. ok_or (mask_in h) fault.Hex >>= λ z. Ok (Alter x y z)) refl (λ y too.
    step_reads mask_test (mask_in h) h [] [] (λ z. Ok (Alter x y z)) refl (λ z last. end_reads (Alter x y z))))
alter (n ∷ a ∷ h ∷ x ∷ ws) = miscounted (n ∷ a ∷ h ∷ x ∷ ws)

arrive : (ws : List Text) → RowReads (arrive_tests ws) ws (arrive_in ws)
arrive [] = miscounted []
arrive (p ∷ []) = miscounted (p ∷ [])
arrive (p ∷ w ∷ []) =
    step_reads any_port_test (any_port_of_word p) p (bytes_test ∷ []) (w ∷ [])
    (λ x. ok_or (bytes_in w) fault.Hex >>= λ y. Ok (Arrive x y)) refl (λ x is.
    step_reads bytes_test (bytes_in w) w [] [] (λ y. Ok (Arrive x y)) refl (λ y too. end_reads (Arrive x y)))
arrive (p ∷ w ∷ x ∷ ws) = miscounted (p ∷ w ∷ x ∷ ws)

-- ---- marks

one_mark : (side : Side) (m : Text) → (bytes_eq m (codes "more") || (bytes_eq m (codes "trusted") && is_host_side side))
    ≡ is_some (marks_in side (m ∷ []))
one_mark Host m = by_tests (bytes_eq m (codes "more")) (bytes_eq m (codes "trusted"))
  where
    by_tests : (b c : Bool) → (b || (c && true)) ≡ is_some {T = Bool × Bool}
        (if b then Some (true, false) else if c then Some (false, true) else None)
    by_tests true c = refl
    by_tests false true = refl
    by_tests false false = refl
one_mark Device m = by_tests (bytes_eq m (codes "more")) (bytes_eq m (codes "trusted"))
  where
    by_tests : (b c : Bool) → (b || (c && false)) ≡ is_some {T = Bool × Bool} (if b then Some (true, false) else None)
    by_tests true c = refl
    by_tests false true = refl
    by_tests false false = refl

trusted_by : (p t : Text) (x : PortName) → port_of_word p ≡ Some x → is_trusted_at p t
    ≡ (bytes_eq t (codes "trusted") && is_host_side x.side)
trusted_by p t x is = rw is refl

never : (c : Bool) → (c && false) ≡ false
never true = refl
never false = refl

-- both marks are read as one
marks_reads : (p m t : Text) (side : Side) (k : Bool × Bool → ScriptEvent) → is_trusted_at p t
    ≡ (bytes_eq t (codes "trusted") && is_host_side side)
    → Reads (word_test (codes "more") ∷ trusted_test p ∷ []) (m ∷ t ∷ [])
    (ok_or (marks_in side (m ∷ t ∷ [])) fault.Word >>= λ z. Ok (k z))
marks_reads p m t Host k trusted = by_tests (bytes_eq m (codes "more")) (bytes_eq t (codes "trusted")) refl refl
  where
    by_tests : (b c : Bool) → bytes_eq m (codes "more") ≡ b → bytes_eq t (codes "trusted") ≡ c
        → Reads (word_test (codes "more") ∷ trusted_test p ∷ []) (m ∷ t ∷ [])
        (ok_or (if b && c then Some (true, true) else None) fault.Word >>= λ z. Ok (k z))
    by_tests true true x y = on_reads (word_test (codes "more")) m (trusted_test p ∷ []) (t ∷ []) (Ok (k (true, true)))
        x (on_reads (trusted_test p) t [] [] (Ok (k (true, true))) (trusted ∙ rw y refl) (end_reads (k (true, true))))
    by_tests true false x y = on_reads (word_test (codes "more")) m (trusted_test p ∷ []) (t ∷ []) (Err fault.Word) x
        (off_reads (trusted_test p) t [] [] (trusted ∙ rw y refl))
    by_tests false c x y = off_reads (word_test (codes "more")) m (trusted_test p ∷ []) (t ∷ []) x
marks_reads p m t Device k trusted = by_test (bytes_eq m (codes "more")) (bytes_eq t (codes "trusted")) refl refl
  where
    by_test : (b c : Bool) → bytes_eq m (codes "more") ≡ b → bytes_eq t (codes "trusted") ≡ c
        → Reads {A = ScriptEvent} (word_test (codes "more") ∷ trusted_test p ∷ []) (m ∷ t ∷ []) (Err fault.Word)
    by_test true c x y = on_reads (word_test (codes "more")) m (trusted_test p ∷ []) (t ∷ []) (Err fault.Word) x
        (off_reads (trusted_test p) t [] [] (trusted ∙ (rw y (never c))))
    by_test false c x y = off_reads (word_test (codes "more")) m (trusted_test p ∷ []) (t ∷ []) x

-- a port, bytes and marks
sent : (p w : Text) (marks : List Text) (places : List WordTest)
    → ((x : PortName) (bytes : List ℕ) → port_of_word p ≡ Some x → Reads places marks
    (ok_or (marks_in x.side marks) fault.Word >>= λ m. Ok (Send x bytes m.0 m.1)))
    → Reads (port_test ∷ bytes_test ∷ places) (p ∷ w ∷ marks)
    (ok_or (port_of_word p) fault.Word >>= λ x. ok_or (bytes_in w) fault.Hex >>= λ y. ok_or (marks_in x.side marks)
    fault.Word >>= λ m. Ok (Send x y m.0 m.1))
sent p w marks places later =
    step_reads port_test (port_of_word p) p (bytes_test ∷ places) (w ∷ marks)
    (λ x. ok_or (bytes_in w) fault.Hex >>= λ y. ok_or (marks_in x.side marks) fault.Word >>= λ m. Ok
    (Send x y m.0 m.1)) refl (λ x is.
    step_reads bytes_test (bytes_in w) w places marks
    (λ y. ok_or (marks_in x.side marks) fault.Word >>= λ m. Ok (Send x y m.0 m.1)) refl (λ y too. later x y is))

send : (ws : List Text) → RowReads (send_tests ws) ws (send_in ws)
send [] = miscounted []
send (p ∷ []) = miscounted (p ∷ [])
send (p ∷ w ∷ []) = sent p w [] [] (λ x y is. end_reads (Send x y false false))
send (p ∷ w ∷ m ∷ []) = sent p w (m ∷ []) (mark_test p ∷ []) (λ x y is.
    step_reads (mark_test p) (marks_in x.side (m ∷ [])) m [] [] (λ z. Ok (Send x y z.0 z.1)) (rw is (one_mark x.side m))
    (λ z too. end_reads (Send x y z.0 z.1)))
send (p ∷ w ∷ m ∷ t ∷ []) = sent p w (m ∷ t ∷ []) (word_test (codes "more") ∷ trusted_test p ∷ [])
    (λ x y is. marks_reads p m t x.side (λ z. Send x y z.0 z.1) (trusted_by p t x is))
send (p ∷ w ∷ m ∷ t ∷ v ∷ ws) = rw (lt-ltb 2 (length (m ∷ t ∷ v ∷ ws)) (omega arith))
    (miscounted (p ∷ w ∷ m ∷ t ∷ v ∷ ws))

-- ---- the table

event_reads : (first : Text) (rest : List Text) → TableReads event_table rest first (event_by_first_word first rest)
event_reads first rest =
    row_reads (codes "establish") operation_tests (drop 1 event_table) rest first _ _ _
    (made_reads (operation_tests rest) rest (operation_in rest) (λ o. Establish o.0 o.1 o.2) (operation rest))
    (row_reads (codes "refresh") operation_tests (drop 2 event_table) rest first _ _ _
    (made_reads (operation_tests rest) rest (operation_in rest) (λ o. Refresh o.0 o.1 o.2) (operation rest))
    (row_reads (codes "stop") operation_tests (drop 3 event_table) rest first _ _ _
    (made_reads (operation_tests rest) rest (operation_in rest) (λ o. Stop o.0 o.1 o.2) (operation rest))
    (row_reads (codes "reset") number_tests (drop 4 event_table) rest first _ _ _
    (made_reads (number_tests rest) rest (one_number_in rest) Reset (one_number rest))
    (row_reads (codes "status") two_number_tests (drop 5 event_table) rest first _ _ _
    (made_reads (two_number_tests rest) rest (two_numbers_in rest) (λ n. Status n.0 n.1) (two_numbers rest))
    (row_reads (codes "pass") number_tests (drop 6 event_table) rest first _ _ _
    (made_reads (number_tests rest) rest (one_number_in rest) Pass (one_number rest))
    (row_reads (codes "alter") alter_tests (drop 7 event_table) rest first _ _ _ (alter rest)
    (row_reads (codes "cut") two_number_tests (drop 8 event_table) rest first _ _ _
    (made_reads (two_number_tests rest) rest (two_numbers_in rest) (λ n. Cut n.0 n.1) (two_numbers rest))
    (row_reads (codes "dump") number_tests (drop 9 event_table) rest first _ _ _
    (made_reads (number_tests rest) rest (one_number_in rest) Dump (one_number rest))
    (interface_reads first rest (drop 19 event_table) (access_event_in first rest)
    (access_reads first rest (drop 22 event_table) (parsed_peer_event first rest)
    (peer_reads first rest (drop 26 event_table) (parsed_hop_event first rest)
    (hop_reads first rest (drop 29 event_table) (bytes_event_in first rest)
    (last_row (codes "send") send_tests (drop 30 event_table) rest first _ _ (send rest)
    (last_row (codes "psend") peer_send_tests (drop 31 event_table) rest first _ _ (peer_send rest)
    (last_row (codes "arrive") arrive_tests (drop 32 event_table) rest first _ _ (arrive rest)
    (no_row rest first))))))))))))))))

-- ---- lines

some_event : (x : Result ScriptEvent LineFault) (f : LineFault) → ((x >>= λ e. Ok (Some e)) ≡ Err f) ↔ (x ≡ Err f)
some_event (Ok e) f = (λ h. absurd (ok_err (Some e) f h), λ h. absurd (ok_err e f h))
some_event (Err g) f = (λ h. ap Err (err_err g f h), λ h. ap Err (err_err g f h))

words_fault : (ws : List Text) (f : LineFault) → (event_in ws ≡ Err f) ↔ WordsFault ws f
words_fault [] f = (λ h. ok_err None f h, λ off. absurd off)
words_fault (first ∷ rest) f =
    let some = some_event (event_by_first_word first rest) f in
    let reads = event_reads first rest f in
    (λ h. reads.0 (some.0 h), λ off. some.1 (reads.1 off))

not_longer : (n : ℕ) → n ≤ 20000 → nat_lt 20000 n ≡ true → ⊥
not_longer n le long = omega (arith, le, ltb-true 20000 n long)

pub faults_are_first : FaultsAreFirst
faults_are_first line f = by_tests (nat_lt 20000 (length line)) (is_comment line) (list_all is_printable line) refl refl
    refl
  where
    by_tests : (long comment plain : Bool) → nat_lt 20000 (length line) ≡ long → is_comment line ≡ comment
        → list_all is_printable line ≡ plain
        → ((if long then Err fault.TooLong else if comment then Ok None else if not plain then Err fault.NotAscii else
        event_in (words_in line)) ≡ Err f) ↔ FirstFault line f
    by_tests true comment plain x y z = (
      λ e. inl (ltb-true 20000 (length line) x, err_err fault.TooLong f e),
      λ off. elim off [
        | inl here ↦ ap Err here.1
        | inr on ↦ elim on [
          | inl ascii ↦ absurd (not_longer (length line) ascii.0 x)
          | inr word ↦ absurd (not_longer (length line) word.0 x)
        ]
      ],
    )
    by_tests false true plain x y z = (
      λ e. absurd (ok_err None f e),
      λ off. elim off [
        | inl here ↦ absurd (omega (arith, here.0, ltb-false 20000 (length line) x))
        | inr on ↦ elim on [
          | inl ascii ↦ absurd (false_true (sym ascii.1 ∙ y))
          | inr word ↦ absurd (false_true (sym word.1 ∙ y))
        ]
      ],
    )
    by_tests false false false x y z = (
      λ e. inr (inl (ltb-false 20000 (length line) x, y, z, err_err fault.NotAscii f e)),
      λ off. elim off [
        | inl here ↦ absurd (omega (arith, here.0, ltb-false 20000 (length line) x))
        | inr on ↦ elim on [
          | inl ascii ↦ ap Err ascii.3
          | inr word ↦ absurd (false_true (sym z ∙ word.2))
        ]
      ],
    )
    by_tests false false true x y z = (
      λ e. inr (inr (ltb-false 20000 (length line) x, y, z, (words_fault (words_in line) f).0 e)),
      λ off. elim off [
        | inl here ↦ absurd (omega (arith, here.0, ltb-false 20000 (length line) x))
        | inr on ↦ elim on [
          | inl ascii ↦ absurd (false_true (sym ascii.2 ∙ z))
          | inr word ↦ (words_fault (words_in line) f).1 word.3
        ]
      ],
    )
