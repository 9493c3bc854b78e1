-- A line of a trusted read or of guarded memory means an event exactly if it spells it, and what it spells is allowed.
use Rattle.std.proofs.Common.{◌≡◌, List, [], ◌∷◌, None, Some, Result, Ok, refl, subst, codes}
use Rattle.std.specs.Option.{ok_or, unwrap_or, option_map}
use Rattle.ide_types.specs.Names.{Text}
use Rattle.script_events.specs.Terms.{ScriptEvent, Access, AccessEvent, LineFault}
use Rattle.script_events.specs.Terms.fault
use Rattle.script_events.specs.Terms.ae
use Rattle.script_events.specs.Words.{number_of_word}
use Rattle.script_events.specs.Parts.{◌>>=◌, one_number_in, length_in}
use Rattle.script_events.specs.Accesses.{mmio_in, access_event_by_word, AccessSpelledBy, IsAllowedAccess}
use Rattle.script_events.specs.Parse.{made_access, event_in}
use Rattle.script_events.specs.Spells.{SpelledBy}
use Rattle.script_events.proofs.Steps.{err_ok, ok_ok, next_of, tested_family}
use Rattle.script_events.proofs.Spelled.{one_spelled, length_bounded, length_back, SpelledAs, made}

-- ---- what was read is spelled

mmio_spelled : (ws : List Text) (e : AccessEvent) → mmio_in ws ≡ Ok e → AccessSpelledBy e (codes "mmio" ∷ ws)
mmio_spelled [] e h = absurd (err_ok fault.Count e h)
mmio_spelled (i ∷ []) e h = absurd (err_ok fault.Count e h)
mmio_spelled (i ∷ b ∷ []) e h = absurd (err_ok fault.Count e h)
mmio_spelled (i ∷ b ∷ o ∷ []) e h = absurd (err_ok fault.Count e h)
mmio_spelled (i ∷ b ∷ o ∷ l ∷ []) e h =
    let x = next_of (number_of_word i) fault.Number
    (λ x. ok_or (number_of_word b) fault.Number >>= λ y. ok_or (number_of_word o) fault.Number >>= λ z. ok_or
    (length_in l) fault.Number >>= λ n. Ok (ae.Mmio x y z n)) e h in
    let y = next_of (number_of_word b) fault.Number
    (λ y. ok_or (number_of_word o) fault.Number >>= λ z. ok_or (length_in l) fault.Number >>= λ n. Ok
    (ae.Mmio x.0 y z n)) e x.2 in
    let z = next_of (number_of_word o) fault.Number
    (λ z. ok_or (length_in l) fault.Number >>= λ n. Ok (ae.Mmio x.0 y.0 z n)) e y.2 in
    let n = next_of (length_in l) fault.Number (λ n. Ok (ae.Mmio x.0 y.0 z.0 n)) e z.2 in
    let few = length_bounded l n.0 n.1 in
    subst (λ (q : AccessEvent). AccessSpelledBy q (codes "mmio" ∷ i ∷ b ∷ o ∷ l ∷ []))
    (ok_ok (ae.Mmio x.0 y.0 z.0 n.0) e n.2)
    ((i, x.1), (b, y.1), (o, z.1), (l, few.0), few.1, few.2, refl)
mmio_spelled (i ∷ b ∷ o ∷ l ∷ x ∷ ws) e h = absurd (err_ok fault.Count e h)

-- before what else the first word may be
pub access_spelled : (first : Text) (rest : List Text) (z : Result ScriptEvent LineFault)
    → SpelledAs SpelledBy rest first z
    → SpelledAs SpelledBy rest first (unwrap_or (option_map made_access (access_event_by_word first rest)) z)
access_spelled first rest z others =
    tested_family (SpelledAs SpelledBy rest) made_access first (codes "answer") _ _ z
    (made SpelledBy rest _ _ Access
    (made AccessSpelledBy rest _ (one_number_in rest) ae.Answer (one_spelled _ rest)))
    (tested_family (SpelledAs SpelledBy rest) made_access first (codes "respond") _ _ z
    (made SpelledBy rest _ _ Access
    (made AccessSpelledBy rest _ (one_number_in rest) ae.Respond (one_spelled _ rest)))
    (tested_family (SpelledAs SpelledBy rest) made_access first (codes "mmio") _ None z
    (made SpelledBy rest _ (mmio_in rest) Access (mmio_spelled rest)) others))

-- ---- what is spelled is read

pub access_meant : (ws : List Text) (e : AccessEvent) → AccessSpelledBy e ws → event_in ws ≡ Ok (Some (Access e))
access_meant ws (ae.Answer link) h = rw h.1 (rw h.0.1 refl)
access_meant ws (ae.Respond link) h = rw h.1 (rw h.0.1 refl)
access_meant ws (ae.Mmio i b o l) h = rw h.6
    (rw h.0.1 (rw h.1.1 (rw h.2.1 (rw (length_back h.3.0 l h.3.1 h.4 h.5) refl))))

-- ---- what is spelled is allowed

pub access_allowed : (ws : List Text) (e : AccessEvent) → AccessSpelledBy e ws → IsAllowedAccess e
access_allowed ws (ae.Answer link) h = tt
access_allowed ws (ae.Respond link) h = tt
access_allowed ws (ae.Mmio i b o l) h = (h.4, h.5)
