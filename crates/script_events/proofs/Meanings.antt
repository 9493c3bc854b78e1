-- A line means an event exactly if it spells it. It goes by the first word and then word by word: a reading that gave
-- an event passed each of its steps, and the word of each step spells the value that the step gave; the other way
-- round, with words that spell an event each step gives its value. The marks of a send are tried for each side and
-- number of words.
use Rattle.std.proofs.Common.{true, false, nat_lt, not, ◌&&◌, ◌≡◌, ◌≤◌, ℕ, List, [], ◌∷◌, Bool, Option, Some, None}
use Rattle.std.proofs.Common.{Result, Ok, Err, length, refl, ap, ap₂, subst, arith, codes, inl, inr}
use Rattle.std.specs.Prelude.{if◌then◌else◌}
use Rattle.std.specs.List.{list_all}
use Rattle.std.specs.Option.{ok_or}
use Rattle.std.specs.Str.{bytes_eq}
use Rattle.std.proofs.lemmas.Bool.{cases_Bool, ltb-true, ltb-false}
use Rattle.ide_types.specs.declared.port.Side.{Side}
use Rattle.ide_types.specs.declared.port.Side.TheVariants.{Host, Device}
use Rattle.ide_types.specs.Names.{Text, is_printable}
use Rattle.script_events.specs.Terms.{ScriptEvent, Establish, Refresh, Stop, Send, PeerSend, Pass, Alter, Cut, Arrive}
use Rattle.script_events.specs.Terms.{Dump, Reset, Status, Interface, Access, Peer, Hop, Loss, LineFault}
use Rattle.script_events.specs.Terms.fault
use Rattle.script_events.specs.Words.{words_in, number_of_word, mask_in, bytes_in, port_of_word, any_port_of_word}
use Rattle.script_events.specs.Parse.{◌>>=◌, operation_in, marks_in, send_in, one_number_in, two_numbers_in, alter_in}
use Rattle.script_events.specs.Parse.{arrive_in, bytes_event_in, parsed_hop_event, parsed_peer_event, access_event_in}
use Rattle.script_events.specs.Parse.{event_by_first_word, event_in, is_comment, line_meaning}
use Rattle.script_events.specs.Spells.{LossSpelledBy, mark_words, SpelledBy, SpellsEvent, MeaningIsSpelling}
use Rattle.script_events.proofs.Steps.{err_ok, ok_ok, some_some, none_some, same_text, next_of, tested, tested_last}
use Rattle.script_events.proofs.Spelled.{operation_spelled, loss_meant, one_spelled, two_spelled, SpelledAs, made}
use Rattle.script_events.proofs.InterfaceMeanings.{interface_spelled, interface_meant}
use Rattle.script_events.proofs.AccessMeanings.{access_spelled, access_meant}
use Rattle.script_events.proofs.PairedMeanings.{
  peer_send_spelled,
  peer_spelled,
  hop_spelled,
  peer_send_meant,
  peer_meant,
}
use Rattle.script_events.proofs.PairedMeanings.{hop_meant}

-- ---- marks

not_trusted : (side : Side) → false ≡ true → side ≡ Host
not_trusted side e = absurd (let never : ⊥ = cc in never)

-- the marks are those that m tells
abbrev Marked : Side → List Text → Bool × Bool → Type 0
Marked side marks m = (marks ≡ mark_words m.0 m.1) × (m.1 ≡ true → side ≡ Host)

host_mark : (a : Text) (b c : Bool) (m : Bool × Bool) → bytes_eq a (codes "more") ≡ b → bytes_eq a (codes "trusted") ≡ c
    → (if b then Some (true, false) else if c then Some (false, true) else None) ≡ Some m → Marked Host (a ∷ []) m
host_mark a true c m p q e = subst (Marked Host (a ∷ [])) (some_some (true, false) m e)
    (ap (λ (x : Text). x ∷ []) (same_text a (codes "more") p), not_trusted Host)
host_mark a false true m p q e = subst (Marked Host (a ∷ [])) (some_some (false, true) m e)
    (ap (λ (x : Text). x ∷ []) (same_text a (codes "trusted") q), λ t. refl)
host_mark a false false m p q e = absurd (none_some m e)

device_mark : (a : Text) (b : Bool) (m : Bool × Bool) → bytes_eq a (codes "more") ≡ b
    → (if b then Some (true, false) else None) ≡ Some m → Marked Device (a ∷ []) m
device_mark a true m p e = subst (Marked Device (a ∷ [])) (some_some (true, false) m e)
    (ap (λ (x : Text). x ∷ []) (same_text a (codes "more") p), not_trusted Device)
device_mark a false m p e = absurd (none_some m e)

both_marks : (a b : Text) (c d : Bool) (m : Bool × Bool) → bytes_eq a (codes "more") ≡ c → bytes_eq b (codes "trusted")
    ≡ d
    → (if c && d then Some (true, true) else None) ≡ Some m → Marked Host (a ∷ b ∷ []) m
both_marks a b true true m p q e =
    subst (Marked Host (a ∷ b ∷ [])) (some_some (true, true) m e)
    (ap₂ (λ (x y : Text). x ∷ y ∷ []) (same_text a (codes "more") p) (same_text b (codes "trusted") q), λ t. refl)
both_marks a b true false m p q e = absurd (none_some m e)
both_marks a b false d m p q e = absurd (none_some m e)

marks_spelled : (side : Side) (marks : List Text) (m : Bool × Bool) → marks_in side marks ≡ Some m → Marked side marks m
marks_spelled Host [] m e = subst (Marked Host []) (some_some (false, false) m e) (refl, not_trusted Host)
marks_spelled Device [] m e = subst (Marked Device []) (some_some (false, false) m e) (refl, not_trusted Device)
marks_spelled Host (a ∷ []) m e = host_mark a (bytes_eq a (codes "more")) (bytes_eq a (codes "trusted")) m refl refl e
marks_spelled Device (a ∷ []) m e = device_mark a (bytes_eq a (codes "more")) m refl e
marks_spelled Host (a ∷ b ∷ []) m e = both_marks a b (bytes_eq a (codes "more")) (bytes_eq b (codes "trusted")) m refl
    refl e
marks_spelled Device (a ∷ b ∷ []) m e = absurd (none_some m e)
marks_spelled Host (a ∷ b ∷ c ∷ marks) m e = absurd (none_some m e)
marks_spelled Device (a ∷ b ∷ c ∷ marks) m e = absurd (none_some m e)

few_marks : (more trusted : Bool) → nat_lt 2 (length (mark_words more trusted)) ≡ false
few_marks false false = refl
few_marks true false = refl
few_marks false true = refl
few_marks true true = refl

marks_meant : (side : Side) (more trusted : Bool) → (trusted ≡ true → side ≡ Host)
    → marks_in side (mark_words more trusted) ≡ Some (more, trusted)
marks_meant Host false false h = refl
marks_meant Device false false h = refl
marks_meant Host true false h = refl
marks_meant Device true false h = refl
marks_meant Host false true h = refl
marks_meant Device false true h = absurd (let e = h refl in cc)
marks_meant Host true true h = refl
marks_meant Device true true h = absurd (let e = h refl in cc)

-- ---- words that hold bytes

arrive_spelled : (ws : List Text) (e : ScriptEvent) → arrive_in ws ≡ Ok e → SpelledBy e (codes "arrive" ∷ ws)
arrive_spelled [] e h = absurd (err_ok fault.Count e h)
arrive_spelled (p ∷ []) e h = absurd (err_ok fault.Count e h)
arrive_spelled (p ∷ w ∷ []) e h =
    let a = next_of (any_port_of_word p) fault.Word (λ x. ok_or (bytes_in w) fault.Hex >>= λ y. Ok (Arrive x y)) e h in
    let b = next_of (bytes_in w) fault.Hex (λ y. Ok (Arrive a.0 y)) e a.2 in
    subst (λ (x : ScriptEvent). SpelledBy x (codes "arrive" ∷ p ∷ w ∷ [])) (ok_ok (Arrive a.0 b.0) e b.2)
    ((p, a.1), (w, b.1), refl)
arrive_spelled (p ∷ w ∷ x ∷ ws) e h = absurd (err_ok fault.Count e h)

alter_spelled : (ws : List Text) (e : ScriptEvent) → alter_in ws ≡ Ok e → SpelledBy e (codes "alter" ∷ ws)
alter_spelled [] e h = absurd (err_ok fault.Count e h)
alter_spelled (n ∷ []) e h = absurd (err_ok fault.Count e h)
alter_spelled (n ∷ t ∷ []) e h = absurd (err_ok fault.Count e h)
alter_spelled (n ∷ t ∷ m ∷ []) e h =
    let a = next_of (number_of_word n) fault.Number
    (λ x. ok_or (number_of_word t) fault.Number >>= λ y. ok_or (mask_in m) fault.Hex >>= λ z. Ok (Alter x y z)) e h in
    let b = next_of (number_of_word t) fault.Number (λ y. ok_or (mask_in m) fault.Hex >>= λ z. Ok (Alter a.0 y z)) e
    a.2 in
    let c = next_of (mask_in m) fault.Hex (λ z. Ok (Alter a.0 b.0 z)) e b.2 in
    subst (λ (x : ScriptEvent). SpelledBy x (codes "alter" ∷ n ∷ t ∷ m ∷ [])) (ok_ok (Alter a.0 b.0 c.0) e c.2)
    ((n, a.1), (t, b.1), (m, c.1), refl)
alter_spelled (n ∷ t ∷ m ∷ x ∷ ws) e h = absurd (err_ok fault.Count e h)

send_step : (p w : Text) (marks : List Text) (e : ScriptEvent) (b : Bool)
    → (if b then Err fault.Count else ok_or (port_of_word p) fault.Word >>= λ x. ok_or (bytes_in w) fault.Hex >>= λ y.
    ok_or
    (marks_in x.side marks) fault.Word >>= λ m. Ok (Send x y m.0 m.1)) ≡ Ok e
    → SpelledBy e (codes "send" ∷ p ∷ w ∷ marks)
send_step p w marks e true h = absurd (err_ok fault.Count e h)
send_step p w marks e false h =
    let a = next_of (port_of_word p) fault.Word
    (λ x. ok_or (bytes_in w) fault.Hex >>= λ y. ok_or (marks_in x.side marks) fault.Word >>= λ m. Ok
    (Send x y m.0 m.1)) e h in
    let b = next_of (bytes_in w) fault.Hex
    (λ y. ok_or (marks_in a.0.side marks) fault.Word >>= λ m. Ok (Send a.0 y m.0 m.1)) e a.2 in
    let c = next_of (marks_in a.0.side marks) fault.Word (λ m. Ok (Send a.0 b.0 m.0 m.1)) e b.2 in
    let marked = marks_spelled a.0.side marks c.0 c.1 in
    subst (λ (x : ScriptEvent). SpelledBy x (codes "send" ∷ p ∷ w ∷ marks)) (ok_ok (Send a.0 b.0 c.0.0 c.0.1) e c.2)
    ((p, a.1), (w, b.1), ap (λ (ms : List Text). codes "send" ∷ p ∷ w ∷ ms) marked.0, marked.1)

send_spelled : (ws : List Text) (e : ScriptEvent) → send_in ws ≡ Ok e → SpelledBy e (codes "send" ∷ ws)
send_spelled [] e h = absurd (err_ok fault.Count e h)
send_spelled (p ∷ []) e h = absurd (err_ok fault.Count e h)
send_spelled (p ∷ w ∷ marks) e h = send_step p w marks e (nat_lt 2 (length marks)) h

-- ---- the first word

event_spelled : (first : Text) (rest : List Text) → SpelledAs SpelledBy rest first (event_by_first_word first rest)
event_spelled first rest =
    tested (SpelledAs SpelledBy rest) first (codes "establish") _ _ _
    (made SpelledBy rest _ (operation_in rest) (λ o. Establish o.0 o.1 o.2) (operation_spelled _ rest))
    (tested (SpelledAs SpelledBy rest) first (codes "refresh") _ _ _
    (made SpelledBy rest _ (operation_in rest) (λ o. Refresh o.0 o.1 o.2) (operation_spelled _ rest))
    (tested (SpelledAs SpelledBy rest) first (codes "stop") _ _ _
    (made SpelledBy rest _ (operation_in rest) (λ o. Stop o.0 o.1 o.2) (operation_spelled _ rest))
    (tested (SpelledAs SpelledBy rest) first (codes "reset") _ _ _
    (made SpelledBy rest _ (one_number_in rest) Reset (one_spelled _ rest))
    (tested (SpelledAs SpelledBy rest) first (codes "status") _ _ _
    (made SpelledBy rest _ (two_numbers_in rest) (λ n. Status n.0 n.1) (two_spelled _ rest))
    (tested (SpelledAs SpelledBy rest) first (codes "pass") _ _ _
    (made SpelledBy rest _ (one_number_in rest) Pass (one_spelled _ rest))
    (tested (SpelledAs SpelledBy rest) first (codes "alter") _ _ _ (alter_spelled rest)
    (tested (SpelledAs SpelledBy rest) first (codes "cut") _ _ _
    (made SpelledBy rest _ (two_numbers_in rest) (λ n. Cut n.0 n.1) (two_spelled _ rest))
    (tested (SpelledAs SpelledBy rest) first (codes "dump") _ _ _
    (made SpelledBy rest _ (one_number_in rest) Dump (one_spelled _ rest))
    (interface_spelled first rest (access_event_in first rest)
    (access_spelled first rest (parsed_peer_event first rest)
    (peer_spelled first rest (parsed_hop_event first rest)
    (hop_spelled first rest (bytes_event_in first rest)
    (tested_last (SpelledAs SpelledBy rest) first (codes "send") _ _ (send_spelled rest)
    (tested_last (SpelledAs SpelledBy rest) first (codes "psend") _ _ (peer_send_spelled rest)
    (tested_last (SpelledAs SpelledBy rest) first (codes "arrive") _ _ (arrive_spelled rest)
    (λ e h. absurd (err_ok fault.Word e h)))))))))))))))))

some_event : (x : Result ScriptEvent LineFault) (e : ScriptEvent) → (x >>= λ y. Ok (Some y)) ≡ Ok (Some e) → x ≡ Ok e
some_event (Ok y) e h = ap Ok (some_some y e (ok_ok (Some y) (Some e) h))
some_event (Err f) e h = absurd (err_ok f (Some e) h)

words_spelled : (ws : List Text) (e : ScriptEvent) → event_in ws ≡ Ok (Some e) → SpelledBy e ws
words_spelled [] e h = absurd (none_some e (ok_ok None (Some e) h))
words_spelled (first ∷ rest) e h = event_spelled first rest e (some_event (event_by_first_word first rest) e h)

operation_meant : (event : ℕ → ℕ → Option Loss → ScriptEvent) (link stream : ℕ) (lose : Option Loss) (rest : List Text)
    (l s : Text)
    → number_of_word l ≡ Some link → number_of_word s ≡ Some stream → LossSpelledBy lose rest
    → ((operation_in (l ∷ s ∷ rest) >>= λ o. Ok (event o.0 o.1 o.2)) >>= λ e. Ok (Some e))
    ≡ Ok (Some (event link stream lose))
operation_meant event link stream lose rest l s a b c =
    let loss = loss_meant rest lose c in
    rw (loss.0, a, b, loss.1) refl

words_meant : (ws : List Text) (e : ScriptEvent) → SpelledBy e ws → event_in ws ≡ Ok (Some e)
words_meant ws (Establish link stream lose) h = rw h.4
    (operation_meant Establish link stream lose h.2 h.0.0 h.1.0 h.0.1 h.1.1 h.3)
words_meant ws (Refresh link stream lose) h = rw h.4
    (operation_meant Refresh link stream lose h.2 h.0.0 h.1.0 h.0.1 h.1.1 h.3)
words_meant ws (Stop link stream lose) h = rw h.4
    (operation_meant Stop link stream lose h.2 h.0.0 h.1.0 h.0.1 h.1.1 h.3)
words_meant ws (Send port bytes more trusted) h =
    rw h.2 (rw h.0.1 (rw h.1.1 (rw (few_marks more trusted, marks_meant port.side more trusted h.3) refl)))
words_meant ws (PeerSend peer side bytes more) h = peer_send_meant ws peer side bytes more h
words_meant ws (Pass n) h = rw h.1 (rw h.0.1 refl)
words_meant ws (Alter n a m) h = rw h.3 (rw h.0.1 (rw h.1.1 (rw h.2.1 refl)))
words_meant ws (Cut n l) h = rw h.2 (rw h.0.1 (rw h.1.1 refl))
words_meant ws (Arrive port bytes) h = rw h.2 (rw h.0.1 (rw h.1.1 refl))
words_meant ws (Dump n) h = rw h.1 (rw h.0.1 refl)
words_meant ws (Reset l) h = rw h.1 (rw h.0.1 refl)
words_meant ws (Status l s) h = rw h.2 (rw h.0.1 (rw h.1.1 refl))
words_meant ws (Interface event) h = interface_meant ws event h
words_meant ws (Access event) h = access_meant ws event h
words_meant ws (Peer event) h = peer_meant ws event h
words_meant ws (Hop event) h = hop_meant ws event h

-- ---- lines

line_step : (line : Text) (e : ScriptEvent) (long comment printed : Bool)
    → nat_lt 20000 (length line) ≡ long → is_comment line ≡ comment → list_all is_printable line ≡ printed
    → (if long then Err fault.TooLong else if comment then Ok None else if not printed then Err fault.NotAscii else
    event_in (words_in line)) ≡ Ok (Some e)
    → SpellsEvent e line
line_step line e true c p x y z h = absurd (err_ok fault.TooLong (Some e) h)
line_step line e false true p x y z h = absurd (none_some e (ok_ok None (Some e) h))
line_step line e false false false x y z h = absurd (err_ok fault.NotAscii (Some e) h)
line_step line e false false true x y z h = record {
  short_enough = ltb-false 20000 (length line) x;
  no_comment = y;
  printable = z;
  words = words_spelled (words_in line) e h;
}

line_spelled : (line : Text) (e : ScriptEvent) → line_meaning line ≡ Ok (Some e) → SpellsEvent e line
line_spelled line e h = line_step line e _ _ _ refl refl refl h

pub short_line : (n : ℕ) → n ≤ 20000 → nat_lt 20000 n ≡ false
short_line n h = elim (cases_Bool (nat_lt 20000 n)) [
  | inl long ↦ absurd (omega (arith, ltb-true 20000 n long))
  | inr short ↦ short
]

line_meant : (line : Text) (e : ScriptEvent) → SpellsEvent e line → line_meaning line ≡ Ok (Some e)
line_meant line e h = rw
    (short_line (length line) h.short_enough, h.no_comment, h.printable, words_meant (words_in line) e h.words) refl

pub meaning_is_spelling : MeaningIsSpelling
meaning_is_spelling line e = (line_spelled line e, line_meant line e)
