-- A spelled event is allowed: its link is one of eight, and it has no more bytes than its line.
use Rattle.std.proofs.Common.{suc, true, false, cond, nat_le, not, ◌&&◌, ◌||◌, ◌==◌, ◌+◌, ◌-◌, ◌≡◌, ◌<◌, ◌≤◌, ◌^◌, ℕ}
use Rattle.std.proofs.Common.{List, [], ◌∷◌, Bool, Some, None, Ok, Err, length, filter, refl, ap, subst, arith, codes}
use Rattle.std.specs.Prelude.{if◌then◌else◌}
use Rattle.std.specs.List.{AllByRecursion, onto_first, slice_split}
use Rattle.std.specs.Result.{result_ok}
use Rattle.std.specs.Str.{bytes_eq}
use Rattle.std.proofs.lemmas.Bool.{leb-true, le-leb, lt-ltb}
use Rattle.hex.specs.Hex.{decode_of}
use Rattle.hex.proofs.HexLemmas.{decode_of-ok}
use Rattle.ide_types.specs.declared.port.Side.TheVariants.{Host, Device}
use Rattle.ide_types.specs.declared.port.PortName.{PortName}
use Rattle.ide_types.specs.Names.{Text}
use Rattle.ide_types.specs.Ports.{host_port, device_port}
use Rattle.ide_types.specs.Lines.{near_hop_line, far_hop_line, is_port}
use Rattle.script_events.specs.Terms.{ScriptEvent, Establish, Refresh, Stop, Send, PeerSend, Pass, Alter, Cut, Arrive}
use Rattle.script_events.specs.Terms.{Dump, Reset, Status, Interface, Access, Peer, Hop}
use Rattle.script_events.specs.Words.{words_in, bytes_in, port_of_word, any_port_of_word}
use Rattle.script_events.specs.Spells.{SpelledBy, IsAllowedInScript, SpelledAreAllowed}
use Rattle.script_events.proofs.Steps.{some_some, none_some}
use Rattle.script_events.proofs.InterfaceMeanings.{interface_allowed}
use Rattle.script_events.proofs.AccessMeanings.{access_allowed}

-- ---- words

abbrev Short : ℕ → List Text → Type 0
Short n ws = AllByRecursion (λ (w : Text). length w ≤ n) ws

longer : (n m : ℕ) (ws : List Text) → n ≤ m → Short n ws → Short m ws
longer n m [] le short = tt
longer n m (w ∷ ws) le short = (omega (arith, short.0), longer n m ws le short.1)

onto_short : (n b : ℕ) (ws : List Text) → Short n ws → Short (suc n) (onto_first b ws)
onto_short n b [] short = (omega arith, tt)
onto_short n b (w ∷ ws) short = (omega (arith, short.0), longer n (suc n) ws (omega arith) short.1)

split_short : (p : ℕ → Bool) (line : Text) → Short (length line) (slice_split p line)
split_short p [] = (omega arith, tt)
split_short p (b ∷ line) = by_test (p b) (split_short p line)
  where
    by_test : (t : Bool) → Short (length line) (slice_split p line)
        → Short (suc (length line)) (cond t ([] ∷ slice_split p line) (onto_first b (slice_split p line)))
    by_test true short = (
      omega arith,
      longer (length line) (suc (length line)) (slice_split p line) (omega arith)
          short,
    )
    by_test false short = onto_short (length line) b (slice_split p line) short

filter_short : (n : ℕ) (p : Text → Bool) (ws : List Text) → Short n ws → Short n (filter p ws)
filter_short n p [] short = tt
filter_short n p (w ∷ ws) short = by_test (p w) (filter_short n p ws short.1)
  where
    by_test : (t : Bool) → Short n (filter p ws) → Short n (if t then w ∷ filter p ws else filter p ws)
    by_test true rest = (short.0, rest)
    by_test false rest = rest

words_short : (line : Text) → Short (length line) (words_in line)
words_short line = filter_short (length line) (λ w. not (length w == 0)) (slice_split (λ b. b == 32) line)
    (split_short (λ b. b == 32) line)

-- ---- bytes

few_bytes : (w : Text) (bytes : List ℕ) → bytes_in w ≡ Some bytes → length bytes ≤ length w
unfolding bytes_in
few_bytes w bytes is = by_dash (bytes_eq w (codes "-")) is
  where
    by_reading : (r : _) → decode_of w ≡ r → result_ok r ≡ Some bytes → length bytes ≤ length w
    by_reading (Ok bs) reads is = let same : bs ≡ bytes = cc in omega
        (arith, (decode_of-ok w bs reads).2, ap length same)
    by_reading (Err e) reads is = absurd cc

    by_dash : (b : Bool) → (if b then Some [] else result_ok (decode_of w)) ≡ Some bytes → length bytes ≤ length w
    by_dash true is = let same : [] ≡ bytes = cc in omega (arith, ap length same)
    by_dash false is = by_reading (decode_of w) refl is

-- ---- ports

link_step : (d : ℕ) (p : PortName) (low high host device : Bool) → nat_le d 55 ≡ high
    → (if not (low && high) then None else if host then Some (record { side = Host; line = d - 48 }) else if device then
    Some (record { side = Device; line = d - 48 }) else None) ≡ Some p
    → p.line < 8
link_step d p true true true device x e =
    let link : d - 48 ≡ p.line = ap (λ (q : PortName). q.line) (some_some (record { side = Host; line = d - 48 }) p e)
    in
    omega (arith, leb-true d 55 x)
link_step d p true true false true x e =
    let link : d - 48 ≡ p.line = ap (λ (q : PortName). q.line) (some_some (record { side = Device; line = d - 48 }) p e)
    in
    omega (arith, leb-true d 55 x)
link_step d p true true false false x e = absurd (none_some p e)
link_step d p true false host device x e = absurd (none_some p e)
link_step d p false high host device x e = absurd (none_some p e)

port_link : (w : Text) (p : PortName) → port_of_word w ≡ Some p → p.line < 8
unfolding port_of_word
port_link [] p e = absurd (none_some p e)
port_link (s ∷ []) p e = absurd (none_some p e)
port_link (s ∷ d ∷ []) p e = link_step d p _ _ _ _ refl e
port_link (s ∷ d ∷ x ∷ w) p e = absurd (none_some p e)

or_right : (a b : Bool) → b ≡ true → (a || b) ≡ true
or_right true b h = refl
or_right false b h = h

both : (a b : Bool) → a ≡ true → b ≡ true → (a && b) ≡ true
both a b p q = rw (p, q) refl

below : (l : ℕ) → l < 8 → is_port (host_port l) ≡ true
below l few = rw (lt-ltb l 8 few) refl

below_too : (l : ℕ) → l < 8 → is_port (device_port l) ≡ true
below_too l few = rw (lt-ltb l 8 few) refl

upper : (l : ℕ) → l < 8 → is_port (device_port (near_hop_line l)) ≡ true
upper l few = or_right _ _ (both _ _ (le-leb 8 (8 + l) (omega arith)) (lt-ltb (8 + l) 16 (omega (arith, few))))

lower : (l : ℕ) → l < 8 → is_port (host_port (far_hop_line l)) ≡ true
lower l few = or_right _ _ (both _ _ (le-leb 16 (16 + l) (omega arith)) (lt-ltb (16 + l) 24 (omega (arith, few))))

-- the letter of a port, and what it names
letter_step : (d : ℕ) (p : PortName) (low high host device up down : Bool) → nat_le d 55 ≡ high
    → (if not (low && high) then None else if host then Some (host_port (d - 48)) else if device then Some
    (device_port (d - 48)) else if up then Some (device_port (near_hop_line (d - 48))) else if down then Some
    (host_port (far_hop_line (d - 48))) else None) ≡ Some p
    → is_port p ≡ true
letter_step d p true true true device up down x e =
    subst (λ q. is_port q ≡ true) (some_some (host_port (d - 48)) p e) (below (d - 48) (omega (arith, leb-true d 55 x)))
letter_step d p true true false true up down x e = subst (λ q. is_port q ≡ true) (some_some (device_port (d - 48)) p e)
    (below_too (d - 48) (omega (arith, leb-true d 55 x)))
letter_step d p true true false false true down x e = subst (λ q. is_port q ≡ true)
    (some_some (device_port (near_hop_line (d - 48))) p e) (upper (d - 48) (omega (arith, leb-true d 55 x)))
letter_step d p true true false false false true x e = subst (λ q. is_port q ≡ true)
    (some_some (host_port (far_hop_line (d - 48))) p e) (lower (d - 48) (omega (arith, leb-true d 55 x)))
letter_step d p true true false false false false x e = absurd (none_some p e)
letter_step d p true false host device up down x e = absurd (none_some p e)
letter_step d p false high host device up down x e = absurd (none_some p e)

any_port_is : (w : Text) (p : PortName) → any_port_of_word w ≡ Some p → is_port p ≡ true
unfolding any_port_of_word
any_port_is [] p e = absurd (none_some p e)
any_port_is (s ∷ []) p e = absurd (none_some p e)
any_port_is (s ∷ d ∷ []) p e = letter_step d p _ _ _ _ _ _ refl e
any_port_is (s ∷ d ∷ x ∷ w) p e = absurd (none_some p e)

-- ---- events

few_hex : (n : ℕ) (w : Text) (bytes : List ℕ) → bytes_in w ≡ Some bytes → length w ≤ n → n ≤ 20000
    → length bytes < 2 ^ 64
few_hex n w bytes is short few = omega (arith, few_bytes w bytes is, short, few)

allowed : (n : ℕ) (ws : List Text) (e : ScriptEvent) → n ≤ 20000 → Short n ws → SpelledBy e ws → IsAllowedInScript e
allowed n ws (Establish l s o) few short h = tt
allowed n ws (Refresh l s o) few short h = tt
allowed n ws (Stop l s o) few short h = tt
allowed n ws (Send port bytes more trusted) few short h =
    let each = subst (Short n) h.2 short in
    (port_link h.0.0 port h.0.1, h.3, few_hex n h.1.0 bytes h.1.1 each.1.1.0 few)
allowed n ws (PeerSend peer side bytes more) few short h =
    let each = subst (Short n) h.2 short in few_hex n h.1.0 bytes h.1.1 each.1.1.1.0 few
allowed n ws (Pass p) few short h = tt
allowed n ws (Alter p a m) few short h = tt
allowed n ws (Cut p l) few short h = tt
allowed n ws (Arrive port bytes) few short h =
    let each = subst (Short n) h.2 short in
    (any_port_is h.0.0 port h.0.1, few_hex n h.1.0 bytes h.1.1 each.1.1.0 few)
allowed n ws (Dump p) few short h = tt
allowed n ws (Reset l) few short h = tt
allowed n ws (Status l s) few short h = tt
allowed n ws (Interface event) few short h = interface_allowed ws event h
allowed n ws (Access event) few short h = access_allowed ws event h
allowed n ws (Peer event) few short h = tt
allowed n ws (Hop event) few short h = tt

pub spelled_are_allowed : SpelledAreAllowed
spelled_are_allowed line e h = allowed (length line) (words_in line) e h.short_enough (words_short line) h.words
