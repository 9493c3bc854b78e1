-- A line of an interface or of memory means an event exactly if it spells it, and what it spells is allowed.
use Rattle.std.proofs.Common.{zero, suc, true, false, nat_lt, nat_le, ◌&&◌, ◌==◌, ◌≡◌, ◌<◌, ◌+◌, ◌-◌, ◌^◌, ℕ, List, []}
use Rattle.std.proofs.Common.{◌∷◌, Bool, Option, Some, None, Result, Ok, refl, sym, ap, subst, arith, codes}
use Rattle.std.specs.Prelude.{if◌then◌else◌}
use Rattle.std.specs.Option.{ok_or, unwrap_or, option_map, option_and_then}
use Rattle.std.specs.Str.{bytes_eq}
use Rattle.std.proofs.lemmas.Bool.{eqb-true, ltb-true, leb-true, lt-ltb}
use Rattle.ide_types.specs.Names.{Text}
use Rattle.ide_types.specs.declared.register.Register.{Register}
use Rattle.ide_types.specs.declared.register.Register.TheVariants.{Command, CacheLine, Msix, Lnr, Tph, Pasid, Ats, Bar}
use Rattle.ide_types.specs.RegisterNames.{width_of, IsAmongSix}
use Rattle.script_events.specs.Terms.{ScriptEvent, Interface, InterfaceEvent, Loss, LineFault}
use Rattle.script_events.specs.Terms.fault
use Rattle.script_events.specs.Terms.ie
use Rattle.script_events.specs.Words.{number_of_word}
use Rattle.script_events.specs.Parts.{◌>>=◌, number_and_loss, one_number_in, length_in, LossSpelledBy, AskedSpelledBy}
use Rattle.script_events.specs.Interfaces.{register_word, bar_number, bar_in, register_in, register_value_in}
use Rattle.script_events.specs.Interfaces.{write_event_in, memory_in, interface_event_by_word, InterfaceSpelledBy}
use Rattle.script_events.specs.Interfaces.{IsAllowedInterface}
use Rattle.script_events.specs.Parse.{made_interface, event_in}
use Rattle.script_events.specs.Spells.{SpelledBy}
use Rattle.script_events.proofs.Steps.{err_ok, ok_ok, some_some, none_some, same_text, next_of, tested_family}
use Rattle.script_events.proofs.Spelled.{asked_spelled, loss_meant, one_spelled, length_bounded, length_back, SpelledAs}
use Rattle.script_events.proofs.Spelled.{made}

-- ---- registers

-- the word of the register, which is one that an interface may have
abbrev Names : Text → Register → Type 0
Names w r = (w ≡ register_word r) × IsAmongSix r

bar_names : (d n : ℕ) → n < 6 → d ≡ n + 48 → Names (98 ∷ 97 ∷ 114 ∷ d ∷ []) (Bar n)
bar_names d n few is = (ap (λ (x : ℕ). 98 ∷ 97 ∷ 114 ∷ x ∷ []) is, few)

digit_named : (d : ℕ) (r : Register) (low high : Bool) → nat_le 48 d ≡ low → nat_le d 53 ≡ high
    → option_map Bar (if low && high then Some (d - 48) else None) ≡ Some r → Names (98 ∷ 97 ∷ 114 ∷ d ∷ []) r
digit_named d r true true x y e =
    let least = leb-true 48 d x in
    let most = leb-true d 53 y in
    subst (Names (98 ∷ 97 ∷ 114 ∷ d ∷ [])) (some_some (Bar (d - 48)) r e)
    (bar_names d (d - 48) (omega (arith, least, most)) (omega (arith, least)))
digit_named d r true false x y e = absurd (none_some r e)
digit_named d r false high x y e = absurd (none_some r e)

letters_named : (b a c d : ℕ) (r : Register) (p q s : Bool) → (b == 98) ≡ p → (a == 97) ≡ q → (c == 114) ≡ s
    → (if p && q && s then option_map Bar (bar_number d) else None) ≡ Some r → Names (b ∷ a ∷ c ∷ d ∷ []) r
letters_named b a c d r true true true x y z e =
    subst (λ (w : Text). Names w r) (sym (letters (eqb-true b 98 x) (eqb-true a 97 y) (eqb-true c 114 z)))
    (digit_named d r (nat_le 48 d) (nat_le d 53) refl refl e)
  where
    letters : b ≡ 98 → a ≡ 97 → c ≡ 114 → b ∷ a ∷ c ∷ d ∷ [] ≡ 98 ∷ 97 ∷ 114 ∷ d ∷ []
    letters x y z = rw (x, y, z) refl
letters_named b a c d r true true false x y z e = absurd (none_some r e)
letters_named b a c d r true false s x y z e = absurd (none_some r e)
letters_named b a c d r false q s x y z e = absurd (none_some r e)

bar_named : (w : Text) (r : Register) → bar_in w ≡ Some r → Names w r
bar_named [] r e = absurd (none_some r e)
bar_named (b ∷ []) r e = absurd (none_some r e)
bar_named (b ∷ a ∷ []) r e = absurd (none_some r e)
bar_named (b ∷ a ∷ c ∷ []) r e = absurd (none_some r e)
bar_named (b ∷ a ∷ c ∷ d ∷ []) r e = letters_named b a c d r (b == 98) (a == 97) (c == 114) refl refl refl e
bar_named (b ∷ a ∷ c ∷ d ∷ x ∷ w) r e = absurd (none_some r e)

-- a word that is tested to be this register's, or what else it names
named_or : (w : Text) (x : Register) (o : Option Register) (r : Register) → IsAmongSix x → (o ≡ Some r → Names w r)
    → (if bytes_eq w (register_word x) then Some x else o) ≡ Some r → Names w r
named_or w x o r among others e = by_test (bytes_eq w (register_word x)) refl e
  where
    by_test : (b : Bool) → bytes_eq w (register_word x) ≡ b → (if b then Some x else o) ≡ Some r → Names w r
    by_test true is e = subst (Names w) (some_some x r e) (same_text w (register_word x) is, among)
    by_test false is e = others e

register_named : (w : Text) (r : Register) → register_in w ≡ Some r → Names w r
unfolding register_in
register_named w r is =
    named_or w Command _ r tt
    (named_or w CacheLine _ r tt
    (named_or w Msix _ r tt
    (named_or w Lnr _ r tt
    (named_or w Tph _ r tt
    (named_or w Pasid _ r tt
    (named_or w Ats _ r tt (bar_named w r))))))) is

register_back : (r : Register) → IsAmongSix r → register_in (register_word r) ≡ Some r
unfolding register_in
register_back Command among = refl
register_back CacheLine among = refl
register_back Msix among = refl
register_back Lnr among = refl
register_back Tph among = refl
register_back Pasid among = refl
register_back Ats among = refl
register_back (Bar zero) among = refl
register_back (Bar (suc zero)) among = refl
register_back (Bar (suc (suc zero))) among = refl
register_back (Bar (suc (suc (suc zero)))) among = refl
register_back (Bar (suc (suc (suc (suc zero))))) among = refl
register_back (Bar (suc (suc (suc (suc (suc zero)))))) among = refl
register_back (Bar (suc (suc (suc (suc (suc (suc n))))))) among = absurd (omega arith)

-- ---- bounds of numbers

bounded : (n limit v : ℕ) (b : Bool) → nat_lt n limit ≡ b → (if b then Some n else None) ≡ Some v → (n ≡ v)
    × (v < limit)
bounded n limit v true is e = let same = some_some n v e in (same, omega (arith, ltb-true n limit is, same))
bounded n limit v false is e = absurd (none_some v e)

value_bounded : (r : Register) (w : Text) (v : ℕ) → register_value_in r w ≡ Some v → (number_of_word w ≡ Some v)
    × (v < 2 ^ width_of r)
value_bounded r w v is = by_number (number_of_word w) is
  where
    by_number : (o : Option ℕ) → option_and_then (λ n. if nat_lt n (2 ^ width_of r) then Some n else None) o ≡ Some v
        → (o ≡ Some v) × (v < 2 ^ width_of r)
    by_number None e = absurd (none_some v e)
    by_number (Some n) e = let room = bounded n (2 ^ width_of r) v (nat_lt n (2 ^ width_of r)) refl e in
        (ap Some room.0, room.1)

value_back : (r : Register) (w : Text) (v : ℕ) → number_of_word w ≡ Some v → v < 2 ^ width_of r → register_value_in r w
    ≡ Some v
value_back r w v is room = rw is (rw (lt-ltb v (2 ^ width_of r) room) refl)

-- ---- what was read is spelled

write_spelled : (ws : List Text) (e : InterfaceEvent) → write_event_in ws ≡ Ok e
    → InterfaceSpelledBy e (codes "write" ∷ ws)
write_spelled [] e h = absurd (err_ok fault.Count e h)
write_spelled (i ∷ []) e h = absurd (err_ok fault.Count e h)
write_spelled (i ∷ r ∷ []) e h = absurd (err_ok fault.Count e h)
write_spelled (i ∷ r ∷ w ∷ []) e h =
    let a = next_of (number_of_word i) fault.Number
    (λ x. ok_or (register_in r) fault.Word >>= λ y. ok_or (register_value_in y w) fault.Number >>= λ z. Ok
    (ie.Write x y z))
    e h in
    let b = next_of (register_in r) fault.Word
    (λ y. ok_or (register_value_in y w) fault.Number >>= λ z. Ok (ie.Write a.0 y z)) e
    a.2 in
    let c = next_of (register_value_in b.0 w) fault.Number (λ z. Ok (ie.Write a.0 b.0 z)) e b.2 in
    let named = register_named r b.0 b.1 in
    let room = value_bounded b.0 w c.0 c.1 in
    subst (λ (x : InterfaceEvent). InterfaceSpelledBy x (codes "write" ∷ i ∷ r ∷ w ∷ []))
    (ok_ok (ie.Write a.0 b.0 c.0) e c.2)
    ((i, a.1), (w, room.0), named.1, room.1, ap (λ (x : Text). codes "write" ∷ i ∷ x ∷ w ∷ []) named.0)
write_spelled (i ∷ r ∷ w ∷ x ∷ ws) e h = absurd (err_ok fault.Count e h)

memory_spelled : (ws : List Text) (e : InterfaceEvent) → memory_in ws ≡ Ok e
    → InterfaceSpelledBy e (codes "memory" ∷ ws)
memory_spelled [] e h = absurd (err_ok fault.Count e h)
memory_spelled (a ∷ []) e h = absurd (err_ok fault.Count e h)
memory_spelled (a ∷ l ∷ []) e h =
    let x = next_of (number_of_word a) fault.Number (λ x. ok_or (length_in l) fault.Number >>= λ y. Ok (ie.Memory x y))
    e h
    in
    let y = next_of (length_in l) fault.Number (λ y. Ok (ie.Memory x.0 y)) e x.2 in
    let few = length_bounded l y.0 y.1 in
    subst (λ (x : InterfaceEvent). InterfaceSpelledBy x (codes "memory" ∷ a ∷ l ∷ [])) (ok_ok (ie.Memory x.0 y.0) e y.2)
    ((a, x.1), (l, few.0), few.1, few.2, refl)
memory_spelled (a ∷ l ∷ x ∷ ws) e h = absurd (err_ok fault.Count e h)

asked_as : (rest : List Text) (word : Text) (event : ℕ → Option Loss → InterfaceEvent)
    → ((a : ℕ × Option Loss) → AskedSpelledBy word a.0 a.1 (word ∷ rest)
    → InterfaceSpelledBy (event a.0 a.1) (word ∷ rest))
    → SpelledAs SpelledBy rest word (made_interface (number_and_loss rest >>= λ a. Ok (event a.0 a.1)))
asked_as rest word event each =
    made SpelledBy rest word _ Interface
    (made InterfaceSpelledBy rest word (number_and_loss rest) (λ a. event a.0 a.1)
    (λ a h. each a (asked_spelled word rest a h)))

-- before what else the first word may be
pub interface_spelled : (first : Text) (rest : List Text) (z : Result ScriptEvent LineFault)
    → SpelledAs SpelledBy rest first z
    → SpelledAs SpelledBy rest first (unwrap_or (option_map made_interface (interface_event_by_word first rest)) z)
interface_spelled first rest z others =
    tested_family (SpelledAs SpelledBy rest) made_interface first (codes "view") _ _ z
    (made SpelledBy rest _ _ Interface
    (made InterfaceSpelledBy rest _ (one_number_in rest) ie.View (one_spelled _ rest)))
    (tested_family (SpelledAs SpelledBy rest) made_interface first (codes "write") _ _ z
    (made SpelledBy rest _ (write_event_in rest) Interface (write_spelled rest))
    (tested_family (SpelledAs SpelledBy rest) made_interface first (codes "flr") _ _ z
    (made SpelledBy rest _ _ Interface
    (made InterfaceSpelledBy rest _ (one_number_in rest) ie.Flr (one_spelled _ rest)))
    (tested_family (SpelledAs SpelledBy rest) made_interface first (codes "firmware") _ _ z
    (made SpelledBy rest _ _ Interface
    (made InterfaceSpelledBy rest _ (one_number_in rest) ie.Firmware (one_spelled _ rest)))
    (tested_family (SpelledAs SpelledBy rest) made_interface first (codes "memory") _ _ z
    (made SpelledBy rest _ (memory_in rest) Interface (memory_spelled rest))
    (tested_family (SpelledAs SpelledBy rest) made_interface first (codes "lock") _ _ z
    (asked_as rest (codes "lock") ie.Lock (λ a h. h))
    (tested_family (SpelledAs SpelledBy rest) made_interface first (codes "report") _ _ z
    (asked_as rest (codes "report") ie.Report (λ a h. h))
    (tested_family (SpelledAs SpelledBy rest) made_interface first (codes "start") _ _ z
    (asked_as rest (codes "start") ie.Start (λ a h. h))
    (tested_family (SpelledAs SpelledBy rest) made_interface first (codes "halt") _ _ z
    (asked_as rest (codes "halt") ie.Halt (λ a h. h))
    (tested_family (SpelledAs SpelledBy rest) made_interface first (codes "state") _ None z
    (asked_as rest (codes "state") ie.State (λ a h. h)) others)))))))))

-- ---- what is spelled is read

asked_meant : (event : ℕ → Option Loss → InterfaceEvent) (interface : ℕ) (lose : Option Loss) (rest : List Text)
    (i : Text)
    → number_of_word i ≡ Some interface → LossSpelledBy lose rest
    → (made_interface (number_and_loss (i ∷ rest) >>= λ a. Ok (event a.0 a.1)) >>= λ e. Ok (Some e))
    ≡ Ok (Some (Interface (event interface lose)))
asked_meant event interface lose rest i a c =
    let loss = loss_meant rest lose c in
    rw (loss.0, a, loss.1) refl

pub interface_meant : (ws : List Text) (e : InterfaceEvent) → InterfaceSpelledBy e ws → event_in ws
    ≡ Ok (Some (Interface e))
interface_meant ws (ie.Lock i lose) h = rw h.3 (asked_meant ie.Lock i lose h.1 h.0.0 h.0.1 h.2)
interface_meant ws (ie.Report i lose) h = rw h.3 (asked_meant ie.Report i lose h.1 h.0.0 h.0.1 h.2)
interface_meant ws (ie.Start i lose) h = rw h.3 (asked_meant ie.Start i lose h.1 h.0.0 h.0.1 h.2)
interface_meant ws (ie.Halt i lose) h = rw h.3 (asked_meant ie.Halt i lose h.1 h.0.0 h.0.1 h.2)
interface_meant ws (ie.State i lose) h = rw h.3 (asked_meant ie.State i lose h.1 h.0.0 h.0.1 h.2)
interface_meant ws (ie.Bind i line s lose) h = absurd h
interface_meant ws (ie.Unbind i line s lose) h = absurd h
interface_meant ws (ie.View i) h = rw h.1 (rw h.0.1 refl)
interface_meant ws (ie.Write i r v) h = rw h.4
    (rw h.0.1 (rw (register_back r h.2) (rw (value_back r h.1.0 v h.1.1 h.3) refl)))
interface_meant ws (ie.Flr i) h = rw h.1 (rw h.0.1 refl)
interface_meant ws (ie.Firmware i) h = rw h.1 (rw h.0.1 refl)
interface_meant ws (ie.Memory a l) h = rw h.4 (rw h.0.1 (rw (length_back h.1.0 l h.1.1 h.2 h.3) refl))

-- ---- what is spelled is allowed

pub interface_allowed : (ws : List Text) (e : InterfaceEvent) → InterfaceSpelledBy e ws → IsAllowedInterface e
interface_allowed ws (ie.Lock i lose) h = tt
interface_allowed ws (ie.Report i lose) h = tt
interface_allowed ws (ie.Start i lose) h = tt
interface_allowed ws (ie.Halt i lose) h = tt
interface_allowed ws (ie.State i lose) h = tt
interface_allowed ws (ie.Bind i line s lose) h = absurd h
interface_allowed ws (ie.Unbind i line s lose) h = absurd h
interface_allowed ws (ie.View i) h = tt
interface_allowed ws (ie.Write i r v) h = (h.2, h.3)
interface_allowed ws (ie.Flr i) h = tt
interface_allowed ws (ie.Firmware i) h = tt
interface_allowed ws (ie.Memory a l) h = (h.2, h.3)
