-- The line of each form of event that is generated is read back as that event.
use Rattle.std.proofs.Common.{◌≡◌, refl, sym, ap, ap₂, ◌∙◌, subst, ℕ, ◌+◌, ◌<◌, ◌≤◌, ◌^◌, ◌==◌, true, false, List, []}
use Rattle.std.proofs.Common.{◌∷◌, ◌++◌, length, Some, None, Ok, arith, lit≤, codes}
use Rattle.std.specs.List.{All, AllByRecursion, list_all}
use Rattle.std.specs.Fmt.{decimal, digits}
use Rattle.std.proofs.lemmas.Fmt.{decimal_digit, length-decimal-le}
use Rattle.hex.specs.Hex.{encode_lower, lower_digits}
use Rattle.hex.proofs.HexLemmas.{length-encode_with}
use Rattle.hex.proofs.OnLiterals.{hex_on_literals}
use Rattle.ide_types.specs.Names.{Text, joined_words, port_word}
use Rattle.ide_types.specs.Ports.{device_port}
use Rattle.history_events.specs.GeneratedTopology.{the_plan}
use Rattle.script_events.specs.declared.event.Event.{Event}
use Rattle.script_events.specs.declared.event.Event.TheVariants as event
use Rattle.script_events.specs.declared.event.InterfaceEvent.TheVariants as ie
use Rattle.script_events.specs.declared.script.ScriptEvent.{ScriptEvent}
use Rattle.script_events.specs.declared.script.ScriptEvent.TheVariants as script
use Rattle.script_events.specs.Parse.{is_comment, line_meaning}
use Rattle.script_events.specs.Spells.{SpelledBy}
use Rattle.script_events.specs.Words.{mask_in, number_of_word, port_of_word}
use Rattle.script_events.proofs.Meanings.{meaning_is_spelling}
use Rattle.history_events.specs.Events.{event_of}
use Rattle.history_events.specs.ScriptText.{event_spelling}
use Rattle.history_events.proofs.Words.{AreWords, IsWord, ended, is_glyph, length_of, length_spaced, no_ends, printed}
use Rattle.history_events.proofs.Words.{spaced_words, words_are}
use Rattle.history_events.proofs.Parts.{bytes_back, decimal_short, decimal_word, hex_word, number_back}

-- the line of an event ends once, means an event of a script, and that is the event in the generated topology
pub record Reads (e : Event) : Type 0 where
  pub line : Text
  pub is : event_spelling e ≡ line ++ 10 ∷ []
  pub no_end : All (λ b. (b == 10) ≡ false) line
  pub asks : ScriptEvent
  pub meaning : line_meaning line ≡ Ok (Some asks)
  pub same : event_of the_plan asks ≡ e
  pub short : length line ≤ 60

-- a line of words that spell an event
reads : (e : Event) (asks : ScriptEvent) (w : Text) (ws : List Text) → event_spelling e ≡ w ++ joined_words ws
    → IsWord w → AreWords ws → is_comment (spaced_words w ws) ≡ false → SpelledBy asks (w ∷ ws)
    → event_of the_plan asks ≡ e → length w + length_of ws ≤ 60 → Reads e
reads e asks w ws is word words plain spelled same short =
    let long = length_spaced w ws in
    let all = printed w ws word words in
    record {
      line = spaced_words w ws;
      is = is ∙ ended w ws;
      no_end = no_ends (spaced_words w ws) all;
      asks = asks;
      meaning = (meaning_is_spelling (spaced_words w ws) asks).1 (record {
        short_enough = omega (arith, long, short);
        no_comment = plain;
        printable = all;
        words = subst (SpelledBy asks) (sym (words_are w ws word words)) spelled;
      });
      same = same;
      short = omega (arith, long, short);
    }

-- a known word
abbrev known_word : (w : Text) → 0 < length w → list_all is_glyph w ≡ true → IsWord w
known_word w some glyphs = record { some = some; glyphs = glyphs }

five : 5 < 2 ^ 64
five = omega arith

nought : 0 < 2 ^ 64
nought = omega arith

-- ---- operations on stream 5 of link 0, and on interface 0

pub establish_reads : Reads (event.Establish 0 5 None)
unfolding event_of
establish_reads =
    let zero_short = decimal_short 0 nought in
    let five_short = decimal_short 5 five in
    reads (event.Establish 0 5 None) (script.Establish 0 5 None) (codes "establish") (decimal 0 ∷ decimal 5 ∷ []) refl
    (known_word (codes "establish") (omega arith) refl) (decimal_word 0 nought, (decimal_word 5 five, tt)) refl
    ((decimal 0, number_back 0 nought), (decimal 5, number_back 5 five), [], refl, refl) refl
    (omega (arith, zero_short, five_short))

pub refresh_reads : Reads (event.Refresh 0 5 None)
unfolding event_of
refresh_reads =
    let zero_short = decimal_short 0 nought in
    let five_short = decimal_short 5 five in
    reads (event.Refresh 0 5 None) (script.Refresh 0 5 None) (codes "refresh") (decimal 0 ∷ decimal 5 ∷ []) refl
    (known_word (codes "refresh") (omega arith) refl) (decimal_word 0 nought, (decimal_word 5 five, tt)) refl
    ((decimal 0, number_back 0 nought), (decimal 5, number_back 5 five), [], refl, refl) refl
    (omega (arith, zero_short, five_short))

pub stop_reads : Reads (event.Stop 0 5 None)
unfolding event_of
stop_reads =
    let zero_short = decimal_short 0 nought in
    let five_short = decimal_short 5 five in
    reads (event.Stop 0 5 None) (script.Stop 0 5 None) (codes "stop") (decimal 0 ∷ decimal 5 ∷ []) refl
    (known_word (codes "stop") (omega arith) refl) (decimal_word 0 nought, (decimal_word 5 five, tt)) refl
    ((decimal 0, number_back 0 nought), (decimal 5, number_back 5 five), [], refl, refl) refl
    (omega (arith, zero_short, five_short))

pub lock_reads : Reads (event.Interface (ie.Lock 0 None))
unfolding event_of
lock_reads =
    let zero_short = decimal_short 0 nought in
    reads (event.Interface (ie.Lock 0 None)) (script.Interface (ie.Lock 0 None)) (codes "lock") (decimal 0 ∷ []) refl
    (known_word (codes "lock") (omega arith) refl) (decimal_word 0 nought, tt) refl
    ((decimal 0, number_back 0 nought), [], refl, refl) refl (omega (arith, zero_short))

pub report_reads : Reads (event.Interface (ie.Report 0 None))
unfolding event_of
report_reads =
    let zero_short = decimal_short 0 nought in
    reads (event.Interface (ie.Report 0 None)) (script.Interface (ie.Report 0 None)) (codes "report") (decimal 0 ∷ [])
    refl (known_word (codes "report") (omega arith) refl) (decimal_word 0 nought, tt) refl
    ((decimal 0, number_back 0 nought), [], refl, refl) refl (omega (arith, zero_short))

pub start_reads : Reads (event.Interface (ie.Start 0 None))
unfolding event_of
start_reads =
    let zero_short = decimal_short 0 nought in
    reads (event.Interface (ie.Start 0 None)) (script.Interface (ie.Start 0 None)) (codes "start") (decimal 0 ∷ [])
    refl (known_word (codes "start") (omega arith) refl) (decimal_word 0 nought, tt) refl
    ((decimal 0, number_back 0 nought), [], refl, refl) refl (omega (arith, zero_short))

pub halt_reads : Reads (event.Interface (ie.Halt 0 None))
unfolding event_of
halt_reads =
    let zero_short = decimal_short 0 nought in
    reads (event.Interface (ie.Halt 0 None)) (script.Interface (ie.Halt 0 None)) (codes "halt") (decimal 0 ∷ []) refl
    (known_word (codes "halt") (omega arith) refl) (decimal_word 0 nought, tt) refl
    ((decimal 0, number_back 0 nought), [], refl, refl) refl (omega (arith, zero_short))

-- ---- bytes that are shown, and packets

address_is : codes "0x" ++ digits 16 false 268435456 ≡ codes "0x10000000"
unfolding digits
address_is = refl

length_is : decimal 16 ≡ codes "16"
unfolding digits
length_is = refl

address_back : number_of_word (codes "0x10000000") ≡ Some 268435456
unfolding number_of_word
address_back = refl

length_back : number_of_word (codes "16") ≡ Some 16
unfolding number_of_word
length_back = refl

pub memory_reads : Reads (event.Interface (ie.Memory 268435456 16))
unfolding event_of
memory_reads =
    let shown = codes "0x10000000" in
    let is = ap₂ (λ (a l : Text). codes "memory" ++ joined_words (a ∷ l ∷ [])) address_is length_is in
    reads (event.Interface (ie.Memory 268435456 16)) (script.Interface (ie.Memory 268435456 16)) (codes "memory")
    (shown ∷ codes "16" ∷ []) is (known_word (codes "memory") (omega arith) refl)
    (known_word shown (omega arith) refl, (known_word (codes "16") (omega arith) refl, tt)) refl
    ((shown, address_back), (codes "16", length_back), lit≤ tt, lit≤ tt, refl) refl (omega arith)

pub pass_reads : (packet : ℕ) → packet < 2 ^ 64 → Reads (event.Pass packet)
unfolding event_of
pass_reads packet few =
    let short = decimal_short packet few in
    reads (event.Pass packet) (script.Pass packet) (codes "pass") (decimal packet ∷ []) refl
    (known_word (codes "pass") (omega arith) refl) (decimal_word packet few, tt) refl
    ((decimal packet, number_back packet few), refl) refl (omega (arith, short))

pub cut_reads : (packet len : ℕ) → packet < 2 ^ 64 → len < 2 ^ 64 → Reads (event.Cut packet len)
unfolding event_of
cut_reads packet len few l =
    let short = decimal_short packet few in
    let len_short = decimal_short len l in
    reads (event.Cut packet len) (script.Cut packet len) (codes "cut") (decimal packet ∷ decimal len ∷ []) refl
    (known_word (codes "cut") (omega arith) refl) (decimal_word packet few, (decimal_word len l, tt)) refl
    ((decimal packet, number_back packet few), (decimal len, number_back len l), refl) refl
    (omega (arith, short, len_short))

mask_back : mask_in (encode_lower (32 ∷ [])) ≡ Some 32
unfolding mask_in hex_on_literals
mask_back = refl

pub alter_reads : (packet at : ℕ) → packet < 2 ^ 64 → at < 10 → Reads (event.Alter packet at 32)
unfolding event_of
alter_reads packet at few low =
    let a : at < 2 ^ 64 = omega (arith, low) in
    let short = decimal_short packet few in
    let at_short = length-decimal-le 1 at (lit≤ tt) low a in
    let long = length-encode_with lower_digits (32 ∷ []) in
    reads (event.Alter packet at 32) (script.Alter packet at 32) (codes "alter")
    (decimal packet ∷ decimal at ∷ encode_lower (32 ∷ []) ∷ []) refl (known_word (codes "alter") (omega arith) refl)
    (decimal_word packet few, (decimal_word at a, (hex_word 32 [] (lit≤ tt, tt), tt))) refl (
      (decimal packet, number_back packet few),
      (decimal at, number_back at a),
      (encode_lower (32 ∷ []), mask_back),
      refl,
    )
    refl (omega (arith, short, at_short, long))

-- ---- a TLP that is sent at the device's port of link 0

port_is : port_word (device_port 0) ≡ codes "d0"
port_is = rw (decimal_digit 0 (lit≤ tt)) refl

port_back : port_of_word (codes "d0") ≡ Some (device_port 0)
unfolding port_of_word
port_back = refl

pub send_reads : (b : ℕ) (bs : List ℕ) → AllByRecursion (λ b. b < 256) (b ∷ bs) → length (b ∷ bs) ≤ 16
    → Reads (event.Send (device_port 0) (b ∷ bs) false false)
unfolding event_of
send_reads b bs all few =
    let digits = encode_lower (b ∷ bs) in
    let long = length-encode_with lower_digits (b ∷ bs) in
    reads (event.Send (device_port 0) (b ∷ bs) false false) (script.Send (device_port 0) (b ∷ bs) false false)
    (codes "send") (codes "d0" ∷ digits ∷ [])
    (ap (λ (w : Text). codes "send" ++ joined_words (w ∷ digits ∷ [])) port_is)
    (known_word (codes "send") (omega arith) refl)
    (known_word (codes "d0") (omega arith) refl, (hex_word b bs all, tt)) refl
    ((codes "d0", port_back), (digits, bytes_back b bs all), refl, (λ asked. absurd cc)) refl
    (omega (arith, long, few))
