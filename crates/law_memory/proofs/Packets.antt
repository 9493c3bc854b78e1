-- The packets of a send, each by what is sent.
use Rattle.std.proofs.Common.{◌≡◌, ℕ, ◌∷◌, Bool, true, false, List, [], refl, sym, subst, ◌∙◌}
use Rattle.std.specs.Prelude.{if◌then◌else◌, unwrap_or}
use Rattle.std.specs.List.{AllByRecursion}
use Rattle.event_verdicts.specs.declared.verdict.Verdict.{Verdict}
use Rattle.event_verdicts.specs.declared.verdict.SealedPacket.{SealedPacket}
use Rattle.event_verdicts.specs.declared.verdict.Verdict.TheVariants as v
use Rattle.ide_types.specs.declared.sub.SubKind.TheVariants.{Npr, Cpl}
use Rattle.spec_stream.specs.Sending.{Lanes, Sending, first_that_holds, refusals, sealed_with_syncs, verdict_of_send}
use Rattle.spec_stream.specs.Sending.{needs_sync}
use Rattle.spec_links.proofs.Senders.{sealed_by_is}
unfoldable use Rattle.spec_links.proofs.Senders.{listed_seals}

-- ---- the verdict of a send

pub first_is : (P : Verdict → Type 0) (xs : List (Bool × Verdict)) (last : Verdict)
    → AllByRecursion (λ (x : Bool × Verdict). P x.1) xs → P last → P (unwrap_or (first_that_holds xs) last)
first_is P [] last all ends = ends
first_is P ((true, w) ∷ xs) last all ends = all.0
first_is P ((false, w) ∷ xs) last all ends = first_is P xs last all.1 ends

abbrev IsListed : List SealedPacket → Verdict → Type 0
IsListed es w = (ds : List SealedPacket) → w ≡ v.Sealed ds → ds ≡ es

pub sealed_list : (x : Lanes) (s : Sending) (number : ℕ) (ds : List SealedPacket)
    → verdict_of_send x s number ≡ v.Sealed ds → ds ≡ sealed_with_syncs x s number
sealed_list x s number = first_is (IsListed (sealed_with_syncs x s number)) (refusals x s.class)
    (v.Sealed (sealed_with_syncs x s number)) (
      λ ds is. absurd cc,
      (
        λ ds is. absurd cc,
        (
          λ ds is. absurd cc,
          (
            λ ds is. absurd cc,
            (
              λ ds is. absurd cc,
              (λ ds is. absurd cc, (λ ds is. absurd cc, (λ ds is. absurd cc, tt))),
            ),
          ),
        ),
      ),
    )
    (λ ds is. same ds (sealed_with_syncs x s number) is)
  where
    same : (ds es : List SealedPacket) → v.Sealed es ≡ v.Sealed ds → ds ≡ es
    same ds es is = cc (is)

-- ---- each packet

pub record IsOf (s : Sending) (d : SealedPacket) : Type 0 where
  pub port_is : d.port ≡ s.port
  pub stream_is : d.stream ≡ s.stream
  pub t_is : d.t ≡ (if d.sync then false else s.trusted)
  pub sub_is : d.sync ≡ false → d.sub ≡ s.class

listed_of : (x : Lanes) (s : Sending) (number : ℕ) (n c : Bool) → AllByRecursion (IsOf s) (listed_seals x s number n c)
unfolding listed_seals
listed_of x s number false false =
    (record { port_is = refl; stream_is = refl; t_is = refl; sub_is = λ carries. refl }, tt)
listed_of x s number true false = (
  record { port_is = refl; stream_is = refl; t_is = refl; sub_is = λ carries. absurd cc },
  (record { port_is = refl; stream_is = refl; t_is = refl; sub_is = λ carries. refl }, tt),
)
listed_of x s number false true = (
  record { port_is = refl; stream_is = refl; t_is = refl; sub_is = λ carries. absurd cc },
  (record { port_is = refl; stream_is = refl; t_is = refl; sub_is = λ carries. refl }, tt),
)
listed_of x s number true true = (
  record { port_is = refl; stream_is = refl; t_is = refl; sub_is = λ carries. absurd cc },
  (
    record { port_is = refl; stream_is = refl; t_is = refl; sub_is = λ carries. absurd cc },
    (record { port_is = refl; stream_is = refl; t_is = refl; sub_is = λ carries. refl }, tt),
  ),
)

pub all_of : (x : Lanes) (s : Sending) (number : ℕ) → AllByRecursion (IsOf s) (sealed_with_syncs x s number)
all_of x s number = subst (AllByRecursion (IsOf s)) (sym (sealed_by_is x s number))
    (listed_of x s number (needs_sync x s.class Npr) (needs_sync x s.class Cpl))

-- so of each sealed verdict
pub sealed_of : (x : Lanes) (s : Sending) (number : ℕ) (w : Verdict) → w ≡ verdict_of_send x s number
    → (ds : List SealedPacket) → w ≡ v.Sealed ds → AllByRecursion (IsOf s) ds
sealed_of x s number w is ds sealed =
    subst (AllByRecursion (IsOf s)) (sym (sealed_list x s number ds (sym is ∙ sealed))) (all_of x s number)

pub map_all : {A : Type 0} {P Q : A → Type 0} → ((a : A) → P a → Q a) → (xs : List A) → AllByRecursion P xs
    → AllByRecursion Q xs
map_all f [] all = tt
map_all f (x ∷ xs) all = (f x all.0, map_all f xs all.1)
