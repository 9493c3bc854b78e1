-- The packets of a unit at a switch, one after another.
use Rattle.std.proofs.Common.{◌≡◌, ℕ, ◌+◌, List, [], ◌∷◌, ◌++◌, length, drop, refl, ap, sym, ◌∙◌}
use Rattle.std.proofs.Math.Seq.{drop-length}
use Rattle.std.proofs.lemmas.List.{append_assoc, append-nil}
use Rattle.std.specs.Prelude.{Some, slice_get}
use Rattle.ide_types.specs.declared.direction.Direction.{Direction}
use Rattle.ide_types.specs.declared.sub.SubKind.{SubKind}
use Rattle.ide_prefix.specs.Packet.{Packet}
use Rattle.event_verdicts.specs.declared.verdict.Effect.{Effect}
use Rattle.hop_queues.specs.declared.queue.HopTlp.{HopTlp}
use Rattle.hop_queues.specs.declared.queues.HopQueues.{HopQueues}
use Rattle.arrival_verdicts.specs.Switches.{switched_as, switched_each, packet_tlps, tlps_in, queues_after_offer}
use Rattle.arrival_verdicts.specs.Switches.{all_offered}
use Rattle.arrival_verdicts.proofs.Effects.{packet_there}

offered_both : (d : Direction) (xs ys : List HopTlp) (q : HopQueues)
    → all_offered d (xs ++ ys) q ≡ all_offered d ys (all_offered d xs q)
offered_both d [] ys q = refl
offered_both d (x ∷ xs) ys q = offered_both d xs ys (queues_after_offer d x q)

module _ (ps : List Packet) (sub : SubKind) (d : Direction) (q0 : HopQueues) where
  -- the packets before this place got these effects, and made these of the queues
  pub record SoFar (i : ℕ) (list : List Effect) (q : HopQueues) : Type 0 where
    pub effects : switched_each ps ≡ list ++ switched_each (drop i ps)
    pub queues : all_offered d (tlps_in sub ps) q0 ≡ all_offered d (tlps_in sub (drop i ps)) q

  pub none_yet : SoFar 0 [] q0
  none_yet = record { effects = refl; queues = refl }

  pub one_more : (i : ℕ) (list : List Effect) (q q' : HopQueues) (p : Packet) (e : Effect)
      → SoFar i list q → slice_get ps i ≡ Some p → e ≡ switched_as p
      → q' ≡ all_offered d (packet_tlps sub p) q → SoFar (i + 1) (list ++ e ∷ []) q'
  one_more i list q q' p e before at effect_is queues_are =
      let rest : List Packet = drop (i + 1) ps in
      let here : drop i ps ≡ p ∷ rest = packet_there ps i p at in
      record {
        effects = before.effects ∙ ap (λ (qs : List Packet). list ++ switched_each qs) here
            ∙ ap (λ (x : Effect). list ++ x ∷ switched_each rest) (sym effect_is)
            ∙ sym (append_assoc list (e ∷ []) (switched_each rest));
        queues = before.queues ∙ ap (λ (qs : List Packet). all_offered d (tlps_in sub qs) q) here
            ∙ offered_both d (packet_tlps sub p) (tlps_in sub rest) q
            ∙ ap (λ (r : HopQueues). all_offered d (tlps_in sub rest) r) (sym queues_are);
      }

  module _ (i : ℕ) (list : List Effect) (q : HopQueues) (all : SoFar i list q) (at : i ≡ length ps) where
    none_left : drop i ps ≡ []
    none_left = ap (λ (n : ℕ). drop n ps) at ∙ drop-length ps

    pub all_effects : list ≡ switched_each ps
    all_effects = sym (all.effects ∙ ap (λ (qs : List Packet). list ++ switched_each qs) none_left ∙ append-nil list)

    pub all_queues : q ≡ all_offered d (tlps_in sub ps) q0
    all_queues = sym (all.queues ∙ ap (λ (qs : List Packet). all_offered d (tlps_in sub qs) q) none_left)
