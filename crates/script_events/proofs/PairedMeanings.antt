-- A line of a stream between devices or of a hop means an event exactly if it spells it.
use Rattle.std.proofs.Common.{true, false, nat_lt, ◌≡◌, ℕ, List, [], ◌∷◌, Bool, None, Some, Option, Result, Ok, Err}
use Rattle.std.proofs.Common.{length, refl, ap, ap₂, subst, codes}
use Rattle.std.specs.Prelude.{if◌then◌else◌}
use Rattle.std.specs.Option.{ok_or, unwrap_or, option_map}
use Rattle.std.specs.Str.{bytes_eq}
use Rattle.ide_types.specs.declared.port.Side.{Side}
use Rattle.ide_types.specs.declared.port.Side.TheVariants.{Host, Device}
use Rattle.ide_types.specs.Names.{Text}
use Rattle.script_events.specs.Terms.{ScriptEvent, PeerSend, Peer, PeerEvent, Hop, HopEvent, Loss, LineFault}
use Rattle.script_events.specs.Terms.fault
use Rattle.script_events.specs.Terms.pe
use Rattle.script_events.specs.Terms.he
use Rattle.script_events.specs.Words.{number_of_word, bytes_in}
use Rattle.script_events.specs.Parts.{◌>>=◌, number_and_loss, operation_in, two_numbers_in, LossSpelledBy}
use Rattle.script_events.specs.Paired.{side_of_word, more_in, peer_send_in, peer_event_of, hop_event_of, side_letter}
use Rattle.script_events.specs.Paired.{more_words, PeerSendSpelledBy, PeerSpelledBy, HopSpelledBy}
use Rattle.script_events.specs.Parse.{made_peer, made_hop, event_in}
use Rattle.script_events.specs.Spells.{SpelledBy}
use Rattle.script_events.proofs.Steps.{
  err_ok,
  ok_ok,
  some_some,
  none_some,
  same_text,
  next_of,
  next_result,
  tested_family,
}
use Rattle.script_events.proofs.Spelled.{asked_spelled, operation_spelled, two_spelled, loss_meant, SpelledAs, made}

-- ---- the words of a send

side_step : (w : Text) (b c : Bool) (s : Side) → bytes_eq w (codes "a") ≡ b → bytes_eq w (codes "b") ≡ c
    → (if b then Some Host else if c then Some Device else None) ≡ Some s → w ≡ side_letter s
side_step w true c s p q e = subst (λ (x : Side). w ≡ side_letter x) (some_some Host s e) (same_text w (codes "a") p)
side_step w false true s p q e = subst (λ (x : Side). w ≡ side_letter x) (some_some Device s e)
    (same_text w (codes "b") q)
side_step w false false s p q e = absurd (none_some s e)

side_spelled : (w : Text) (s : Side) → side_of_word w ≡ Some s → w ≡ side_letter s
side_spelled w s e = side_step w _ _ s refl refl e

side_back : (s : Side) → side_of_word (side_letter s) ≡ Some s
side_back Host = refl
side_back Device = refl

more_step : (m : Text) (b more : Bool) → bytes_eq m (codes "more") ≡ b
    → (if b then Ok true else Err fault.Word) ≡ Ok more → m ∷ [] ≡ more_words more
more_step m true more p e = subst (λ (x : Bool). m ∷ [] ≡ more_words x) (ok_ok true more e)
    (ap (λ (x : Text). x ∷ []) (same_text m (codes "more") p))
more_step m false more p e = absurd (err_ok fault.Word more e)

more_spelled : (marks : List Text) (more : Bool) → more_in marks ≡ Ok more → marks ≡ more_words more
more_spelled [] more e = subst (λ (x : Bool). [] ≡ more_words x) (ok_ok false more e) refl
more_spelled (m ∷ []) more e = more_step m (bytes_eq m (codes "more")) more refl e
more_spelled (m ∷ n ∷ marks) more e = absurd (err_ok fault.Count more e)

few_marks : (more : Bool) → nat_lt 1 (length (more_words more)) ≡ false
few_marks false = refl
few_marks true = refl

more_back : (more : Bool) → more_in (more_words more) ≡ Ok more
more_back false = refl
more_back true = refl

peer_send_step : (p s w : Text) (marks : List Text) (e : ScriptEvent) (b : Bool)
    → (if b then Err fault.Count else ok_or (number_of_word p) fault.Number >>= λ x. ok_or (side_of_word s) fault.Word
    >>= λ y. ok_or (bytes_in w) fault.Hex >>= λ z. more_in marks >>= λ m. Ok (PeerSend x y z m)) ≡ Ok e
    → SpelledBy e (codes "psend" ∷ p ∷ s ∷ w ∷ marks)
peer_send_step p s w marks e true h = absurd (err_ok fault.Count e h)
peer_send_step p s w marks e false h =
    let a = next_of (number_of_word p) fault.Number
    (λ x. ok_or (side_of_word s) fault.Word >>= λ y. ok_or (bytes_in w) fault.Hex >>= λ z. more_in marks >>= λ m. Ok
    (PeerSend x y z m)) e h in
    let b = next_of (side_of_word s) fault.Word
    (λ y. ok_or (bytes_in w) fault.Hex >>= λ z. more_in marks >>= λ m. Ok (PeerSend a.0 y z m)) e a.2 in
    let c = next_of (bytes_in w) fault.Hex (λ z. more_in marks >>= λ m. Ok (PeerSend a.0 b.0 z m)) e b.2 in
    let d = next_result (more_in marks) (λ m. Ok (PeerSend a.0 b.0 c.0 m)) e c.2 in
    subst (λ (x : ScriptEvent). SpelledBy x (codes "psend" ∷ p ∷ s ∷ w ∷ marks))
    (ok_ok (PeerSend a.0 b.0 c.0 d.0) e d.2) (
      (p, a.1),
      (w, c.1),
      ap₂ (λ (x : Text) (ms : List Text). codes "psend" ∷ p ∷ x ∷ w ∷ ms) (side_spelled s b.0 b.1)
          (more_spelled marks d.0 d.1),
    )

pub peer_send_spelled : (ws : List Text) (e : ScriptEvent) → peer_send_in ws ≡ Ok e → SpelledBy e (codes "psend" ∷ ws)
peer_send_spelled [] e h = absurd (err_ok fault.Count e h)
peer_send_spelled (p ∷ []) e h = absurd (err_ok fault.Count e h)
peer_send_spelled (p ∷ s ∷ []) e h = absurd (err_ok fault.Count e h)
peer_send_spelled (p ∷ s ∷ w ∷ marks) e h = peer_send_step p s w marks e (nat_lt 1 (length marks)) h

-- ---- what was read is spelled, before what else the first word may be

peer_asked : (rest : List Text) (word : Text) (event : ℕ → Option Loss → PeerEvent)
    → ((a : ℕ × Option Loss) → number_and_loss rest ≡ Ok a → PeerSpelledBy (event a.0 a.1) (word ∷ rest))
    → SpelledAs SpelledBy rest word (made_peer (number_and_loss rest >>= λ a. Ok (event a.0 a.1)))
peer_asked rest word event each =
    made SpelledBy rest word _ Peer (made PeerSpelledBy rest word (number_and_loss rest) (λ a. event a.0 a.1) each)

peer_operation : (rest : List Text) (word : Text) (event : ℕ → ℕ → Option Loss → PeerEvent)
    → ((o : ℕ × ℕ × Option Loss) → operation_in rest ≡ Ok o → PeerSpelledBy (event o.0 o.1 o.2) (word ∷ rest))
    → SpelledAs SpelledBy rest word (made_peer (operation_in rest >>= λ o. Ok (event o.0 o.1 o.2)))
peer_operation rest word event each =
    made SpelledBy rest word _ Peer (made PeerSpelledBy rest word (operation_in rest) (λ o. event o.0 o.1 o.2) each)

pub peer_spelled : (first : Text) (rest : List Text) (z : Result ScriptEvent LineFault)
    → SpelledAs SpelledBy rest first z
    → SpelledAs SpelledBy rest first (unwrap_or (option_map made_peer (peer_event_of first rest)) z)
peer_spelled first rest z others =
    tested_family (SpelledAs SpelledBy rest) made_peer first (codes "pestablish") _ _ z
    (peer_asked rest (codes "pestablish") pe.Establish (asked_spelled (codes "pestablish") rest))
    (tested_family (SpelledAs SpelledBy rest) made_peer first (codes "pstop") _ _ z
    (peer_asked rest (codes "pstop") pe.Stop (asked_spelled (codes "pstop") rest))
    (tested_family (SpelledAs SpelledBy rest) made_peer first (codes "bind") _ _ z
    (peer_operation rest (codes "bind") pe.Bind (operation_spelled (codes "bind") rest))
    (tested_family (SpelledAs SpelledBy rest) made_peer first (codes "unbind") _ None z
    (peer_operation rest (codes "unbind") pe.Unbind (operation_spelled (codes "unbind") rest)) others)))

hop_operation : (rest : List Text) (word : Text) (event : ℕ → ℕ → Option Loss → HopEvent)
    → ((o : ℕ × ℕ × Option Loss) → operation_in rest ≡ Ok o → HopSpelledBy (event o.0 o.1 o.2) (word ∷ rest))
    → SpelledAs SpelledBy rest word (made_hop (operation_in rest >>= λ o. Ok (event o.0 o.1 o.2)))
hop_operation rest word event each =
    made SpelledBy rest word _ Hop (made HopSpelledBy rest word (operation_in rest) (λ o. event o.0 o.1 o.2) each)

pub hop_spelled : (first : Text) (rest : List Text) (z : Result ScriptEvent LineFault)
    → SpelledAs SpelledBy rest first z
    → SpelledAs SpelledBy rest first (unwrap_or (option_map made_hop (hop_event_of first rest)) z)
hop_spelled first rest z others =
    tested_family (SpelledAs SpelledBy rest) made_hop first (codes "hestablish") _ _ z
    (hop_operation rest (codes "hestablish") he.Establish (operation_spelled (codes "hestablish") rest))
    (tested_family (SpelledAs SpelledBy rest) made_hop first (codes "hstop") _ _ z
    (hop_operation rest (codes "hstop") he.Stop (operation_spelled (codes "hstop") rest))
    (tested_family (SpelledAs SpelledBy rest) made_hop first (codes "forward") _ None z
    (made SpelledBy rest _ _ Hop
    (made HopSpelledBy rest _ (two_numbers_in rest) (λ n. he.Forward n.0 n.1) (two_spelled (codes "forward") rest)))
    others))

-- ---- what is spelled is read

pub peer_send_meant : (ws : List Text) (peer : ℕ) (side : Side) (bytes : List ℕ) (more : Bool)
    → PeerSendSpelledBy peer side bytes more ws → event_in ws ≡ Ok (Some (PeerSend peer side bytes more))
peer_send_meant ws peer side bytes more h =
    rw h.2 (rw h.0.1 (rw h.1.1 (rw (few_marks more, side_back side, more_back more) refl)))

peer_asked_meant : (event : ℕ → Option Loss → PeerEvent) (peer : ℕ) (lose : Option Loss) (rest : List Text) (p : Text)
    → number_of_word p ≡ Some peer → LossSpelledBy lose rest
    → (made_peer (number_and_loss (p ∷ rest) >>= λ a. Ok (event a.0 a.1)) >>= λ e. Ok (Some e))
    ≡ Ok (Some (Peer (event peer lose)))
peer_asked_meant event peer lose rest p a c =
    let loss = loss_meant rest lose c in
    rw (loss.0, a, loss.1) refl

peer_operation_meant : (event : ℕ → ℕ → Option Loss → PeerEvent) (one two : ℕ) (lose : Option Loss) (rest : List Text)
    (l s : Text)
    → number_of_word l ≡ Some one → number_of_word s ≡ Some two → LossSpelledBy lose rest
    → (made_peer (operation_in (l ∷ s ∷ rest) >>= λ o. Ok (event o.0 o.1 o.2)) >>= λ e. Ok (Some e))
    ≡ Ok (Some (Peer (event one two lose)))
peer_operation_meant event one two lose rest l s a b c =
    let loss = loss_meant rest lose c in
    rw (loss.0, a, b, loss.1) refl

hop_operation_meant : (event : ℕ → ℕ → Option Loss → HopEvent) (one two : ℕ) (lose : Option Loss) (rest : List Text)
    (l s : Text)
    → number_of_word l ≡ Some one → number_of_word s ≡ Some two → LossSpelledBy lose rest
    → (made_hop (operation_in (l ∷ s ∷ rest) >>= λ o. Ok (event o.0 o.1 o.2)) >>= λ e. Ok (Some e))
    ≡ Ok (Some (Hop (event one two lose)))
hop_operation_meant event one two lose rest l s a b c =
    let loss = loss_meant rest lose c in
    rw (loss.0, a, b, loss.1) refl

pub peer_meant : (ws : List Text) (e : PeerEvent) → PeerSpelledBy e ws → event_in ws ≡ Ok (Some (Peer e))
peer_meant ws (pe.Establish p lose) h = rw h.3 (peer_asked_meant pe.Establish p lose h.1 h.0.0 h.0.1 h.2)
peer_meant ws (pe.Stop p lose) h = rw h.3 (peer_asked_meant pe.Stop p lose h.1 h.0.0 h.0.1 h.2)
peer_meant ws (pe.Bind i p lose) h = rw h.4 (peer_operation_meant pe.Bind i p lose h.2 h.0.0 h.1.0 h.0.1 h.1.1 h.3)
peer_meant ws (pe.Unbind i p lose) h = rw h.4 (peer_operation_meant pe.Unbind i p lose h.2 h.0.0 h.1.0 h.0.1 h.1.1 h.3)

pub hop_meant : (ws : List Text) (e : HopEvent) → HopSpelledBy e ws → event_in ws ≡ Ok (Some (Hop e))
hop_meant ws (he.Establish l s lose) h = rw h.4
    (hop_operation_meant he.Establish l s lose h.2 h.0.0 h.1.0 h.0.1 h.1.1 h.3)
hop_meant ws (he.Stop l s lose) h = rw h.4 (hop_operation_meant he.Stop l s lose h.2 h.0.0 h.1.0 h.0.1 h.1.1 h.3)
hop_meant ws (he.Forward l d) h = rw h.2 (rw h.0.1 (rw h.1.1 refl))
