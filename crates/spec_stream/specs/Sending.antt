-- What becomes of a send: the refusals in their order, and the packets that are sealed.
use Rattle.std.specs.Prelude.{ℕ, ◌+◌, Bool, true, false, not, ◌&&◌, ◌||◌, if◌then◌else◌, ◌==◌, nat_lt, Option, Some}
use Rattle.std.specs.Prelude.{None, List, [], ◌∷◌, ◌++◌, length, is_none, unwrap_or}
use Rattle.std.specs.Int.{w64, to_be_bytes}
use Rattle.ide_types.specs.Sub.{sub_bits}
use Rattle.ide_types.specs.declared.sub.SubKind.{SubKind}
use Rattle.ide_types.specs.declared.sub.SubKind.TheVariants.{Pr, Npr, Cpl}
use Rattle.ide_types.specs.declared.port.PortName.{PortName}
use Rattle.event_verdicts.specs.declared.verdict.Verdict.{Verdict}
use Rattle.event_verdicts.specs.declared.verdict.Verdict.TheVariants as v
use Rattle.event_verdicts.specs.declared.verdict.SealedPacket.{SealedPacket}
use Rattle.ide_prefix.specs.declared.packet.Prefix.{Prefix}
use Rattle.ide_prefix.specs.Packet.{Packet}

-- a key set and its draw
pub record KeyName : Type 0 where
  pub k : Bool
  pub draw : ℕ

-- the verdict of the first condition that holds
abbrev pub first_that_holds : List (Bool × Verdict) → Option Verdict
first_that_holds [] = None
first_that_holds (x ∷ xs) = if x.0 then Some x.1 else first_that_holds xs

-- a TLP on its way out at a port, on the stream that it takes
pub record Sending : Type 0 where
  pub port : PortName
  pub stream : ℕ
  pub class : SubKind
  pub more : Bool
  pub trusted : Bool

-- what the rules of sealing look at in one sub-stream: the Live key, the packets of an unfinished unit and the
-- number of finished ones under it, and the posted count
pub record Lane : Type 0 where
  pub key : Option KeyName
  pub unfinished : List Packet
  pub units : ℕ
  pub posted : ℕ

-- a rule of sealing speaks of a stream: what it may hold, whether it failed, and its three sub-streams
pub record Lanes : Type 0 where
  pub aggregation : ℕ
  pub limit : ℕ
  pub failed : Bool
  pub lane : SubKind → Lane

abbrev pub is_posted : SubKind → Bool
is_posted u = sub_bits u == 0

-- whether the next packet begins a unit
abbrev pub begins_unit : Lane → Bool
begins_unit l = length l.unfinished == 0

-- whether a sync packet goes first: a posted unit is to begin whose packets the next posted count might not hold
abbrev pub needs_sync : Lanes → SubKind → SubKind → Bool
needs_sync x class u = is_posted class && begins_unit (x.lane class) && nat_lt 255 ((x.lane u).posted + x.aggregation)

-- whether the key of a sub-stream may begin no further unit
abbrev pub is_worn : Lanes → SubKind → Bool
is_worn x u = begins_unit (x.lane u) && ((x.lane u).units == x.limit)

abbrev pub is_keyless : Lanes → SubKind → Bool
is_keyless x u = is_none (x.lane u).key

-- why a TLP is not sealed, in order
abbrev pub refusals : Lanes → SubKind → List (Bool × Verdict)
refusals x class =
    (x.failed, v.RefusedInsecure)
    ∷ (is_keyless x class, v.RefusedNoKey class)
    ∷ (not (is_posted class) && not (begins_unit (x.lane Pr)), v.RefusedUnfinished)
    ∷ (needs_sync x class Npr && is_keyless x Npr, v.RefusedNoKey Npr)
    ∷ (needs_sync x class Cpl && is_keyless x Cpl, v.RefusedNoKey Cpl)
    ∷ (is_worn x class, v.RefusedWorn class x.limit)
    ∷ (needs_sync x class Npr && is_worn x Npr, v.RefusedWorn Npr x.limit)
    ∷ (needs_sync x class Cpl && is_worn x Cpl, v.RefusedWorn Cpl x.limit)
    ∷ []

abbrev pub no_key : KeyName
no_key = record { k = false; draw = 0 }

-- a sealed packet's fields, but for those in which a sync packet differs
abbrev pub described_seal : Lanes → Sending → SubKind → ℕ → Bool → Bool → Bool → SealedPacket
described_seal x s u number m t sync =
    let key = unwrap_or (x.lane u).key no_key in
    record {
      number = number;
      port = s.port;
      stream = s.stream;
      sub = u;
      draw = key.draw;
      unit = (x.lane u).units + 1;
      m = m;
      k = key.k;
      t = t;
      posted = if is_posted u then 0 else (x.lane u).posted;
      sync = sync;
    }

-- whether the TLP ends its unit
abbrev pub ends_unit : Lanes → Sending → Bool
ends_unit x s = not s.more || (length (x.lane s.class).unfinished + 1 == x.aggregation)

-- T is set as the port is asked: a host's port by the send, a device's port by its interfaces
abbrev pub sets_trusted : PortName → Bool → Bool
sets_trusted port trusted = trusted

abbrev pub sync_before : Lanes → Sending → SubKind → ℕ → List SealedPacket
sync_before x s u number = if needs_sync x s.class u then described_seal x s u number true false true ∷ [] else []

-- the sync packets that go first, NPR before CPL, and the TLP's packet, numbered from this number on
abbrev pub sealed_with_syncs : Lanes → Sending → ℕ → List SealedPacket
sealed_with_syncs x s number =
    let first = sync_before x s Npr number in
    let second = sync_before x s Cpl (number + length first) in
    first ++ second ++ described_seal x s s.class (number + length first + length second) (ends_unit x s)
    (sets_trusted s.port s.trusted) false ∷ []

-- the verdict of a TLP on a stream
abbrev pub verdict_of_send : Lanes → Sending → ℕ → Verdict
verdict_of_send x s number = unwrap_or (first_that_holds (refusals x s.class)) (v.Sealed (sealed_with_syncs x s number))

-- ---- packets of these fields

abbrev pub prefix_of : SealedPacket → Prefix
prefix_of d = record { m = d.m; k = d.k; t = d.t; sub = d.sub; stream = d.stream; posted = d.posted }

-- what comes before the authenticated bytes of a unit: on a closed stream, for unit 1, the total before it in 8 bytes
abbrev pub total_ahead : Bool → ℕ → ℕ → List ℕ
total_ahead closed unit total = if closed && (unit == 1) then to_be_bytes w64 total else []
