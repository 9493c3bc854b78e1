-- What the headers of a receiver's packets read as, beside the packets.
use Rattle.std.proofs.Common.{◌≡◌, ℕ, ◌+◌, ◌<◌, ◌≤◌, zero, suc, List, [], ◌∷◌, ◌++◌, length, get_or, Option, Some, None}
use Rattle.std.proofs.Common.{sym, ◌∙◌, subst, arith}
use Rattle.std.specs.List.{slice_get}
use Rattle.std.proofs.Math.ListN.{set}
use Rattle.std.proofs.lemmas.List.{length-set}
use Rattle.std.proofs.lemmas.Option.{same_Some}
use Rattle.gcm_seal.specs.Gcm.{masked_bytes}
use Rattle.tlp_layout.specs.declared.head.HeadView.{HeadView}
use Rattle.ide_prefix.specs.Packet.{Packet, HasTlp}
use Rattle.ide_prefix.specs.Units.{packet_without_tag}
use Rattle.sub_stream.specs.Gathered.{Gathered, with_packet, AllHaveTlp, HaveTlps, opened_from_byte, opened_packets}

-- the body and the tag may be others
with_parts : (p : Packet) (body tag : List ℕ) (o : Option HeadView) → HasTlp p o
    → HasTlp (record { prefix = p.prefix; head = p.head; body = body; tag = tag }) o
with_parts p body tag None has = has
with_parts p body tag (Some head) has = has

opened_have : (key iv : List ℕ) (n : ℕ) (ps : List Packet) (tlps : List (Option HeadView)) → AllHaveTlp ps tlps
    → AllHaveTlp (opened_from_byte key iv n ps) tlps
opened_have key iv n [] tlps has = has
opened_have key iv n (p ∷ ps) [] has = has
opened_have key iv n (p ∷ ps) (o ∷ tlps) has =
    (with_parts p (masked_bytes key iv n p.body) [] o has.0, opened_have key iv (n + length p.body) ps tlps has.1)

added_have : (ps : List Packet) (tlps : List (Option HeadView)) (p : Packet) (o : Option HeadView) → AllHaveTlp ps tlps
    → length ps < length tlps → HasTlp p o → AllHaveTlp (ps ++ p ∷ []) (set tlps (length ps) o)
added_have [] [] p o has less one = absurd (omega arith)
added_have [] (x ∷ tlps) p o has less one = (one, tt)
added_have (q ∷ ps) [] p o has less one = absurd has
added_have (q ∷ ps) (x ∷ tlps) p o has less one = (has.0, added_have ps tlps p o has.1 (omega arith) one)

tlp_at : (ps : List Packet) (tlps : List (Option HeadView)) (i : ℕ) (p : Packet) (d : Option HeadView)
    → AllHaveTlp ps tlps → slice_get ps i ≡ Some p → HasTlp p (get_or tlps i d)
tlp_at [] tlps i p d has at = absurd (cc)
tlp_at (q ∷ ps) [] i p d has at = absurd has
tlp_at (q ∷ ps) (o ∷ tlps) zero p d has at = subst (λ (x : Packet). HasTlp x o) (same_Some q p at) has.0
tlp_at (q ∷ ps) (o ∷ tlps) (suc i) p d has at = tlp_at ps tlps i p d has.1 at

fewer : (ps : List Packet) (tlps : List (Option HeadView)) → AllHaveTlp ps tlps → length ps ≤ length tlps
fewer [] tlps has = omega arith
fewer (p ∷ ps) [] has = absurd has
fewer (p ∷ ps) (o ∷ tlps) has = let rest = fewer ps tlps has.1 in omega arith

-- ---- after each call

pub have_added : (unit old new : Gathered) (tlps : List (Option HeadView)) (i : ℕ) (p : Packet) (o : Option HeadView)
    → HaveTlps unit tlps → unit ≡ old → length old.packets < old.aggregation → i ≡ length unit.packets → HasTlp p o
    → new ≡ with_packet unit (packet_without_tag p) → HaveTlps new (set tlps i o)
have_added unit old new tlps i p o have was room at one is =
    let less : length unit.packets < unit.aggregation = rw was room in
    subst (λ (u : Gathered). HaveTlps u (set tlps i o)) (sym is) (record {
      small_aggregation = have.small_aggregation;
      places = length-set tlps i o ∙ have.places;
      read = rw at (added_have unit.packets tlps (packet_without_tag p) o have.read
          (omega (arith, less, have.small_aggregation, have.places)) (with_parts p p.body [] o one));
    })

pub have_opened : (key iv : List ℕ) (unit new : Gathered) (tlps : List (Option HeadView)) → HaveTlps unit tlps
    → new ≡ record unit { packets = opened_packets key iv unit.packets } → HaveTlps new tlps
have_opened key iv unit new tlps have is =
    subst (λ (u : Gathered). HaveTlps u tlps) (sym is) (record {
      small_aggregation = have.small_aggregation;
      places = have.places;
      read = opened_have key iv 0 unit.packets tlps have.read;
    })

pub place : (unit old : Gathered) (tlps : List (Option HeadView)) (i : ℕ) → HaveTlps unit tlps → unit ≡ old
    → i < length old.packets → i < 8
place unit old tlps i have was less =
    let here : i < length unit.packets = rw was less in
    omega (arith, here, fewer unit.packets tlps have.read, have.places)

pub read_there : (unit : Gathered) (tlps : List (Option HeadView)) (i : ℕ) (p : Packet) (d : Option HeadView)
    → HaveTlps unit tlps → slice_get unit.packets i ≡ Some p → HasTlp p (get_or tlps i d)
read_there unit tlps i p d have at = tlp_at unit.packets tlps i p d have.read at
