-- What becomes of a send at the senders of a stream: its answer, and the packets' bytes.
use Rattle.std.specs.Prelude.{ℕ, ◌≡◌, ◌+◌, Bool, true, false, List, [], ◌∷◌, ◌++◌, length, map, Some, None, Result, Ok}
use Rattle.std.specs.Prelude.{Err}
use Rattle.ide_types.specs.declared.sub.SubKind.{SubKind}
use Rattle.ide_types.specs.declared.port.PortName.{PortName}
use Rattle.event_verdicts.specs.declared.verdict.Verdict.{Verdict}
use Rattle.event_verdicts.specs.declared.verdict.Verdict.TheVariants as v
use Rattle.event_verdicts.specs.declared.verdict.SealedPacket.{SealedPacket as Described}
use Rattle.ide_prefix.specs.Packet.{Packet, packet_bytes}
use Rattle.spec_stream.specs.Sending.{Sending, sealed_with_syncs, refusals, first_that_holds}
use Rattle.spec_stream.specs.Stream.{sealed_all}
use Rattle.sub_stream.specs.{numbered_packet}
use Rattle.sub_stream.specs.declared.answer.MeasuredPacket.{MeasuredPacket}
use Rattle.stream_lanes.specs.declared.refusal.SendRefusal.{SendRefusal}
use Rattle.stream_lanes.specs.declared.refusal.SendRefusal.TheVariants.{NoKey, Worn, Unfinished, Insecure}
use Rattle.stream_lanes.specs.declared.send_lanes.SendKeys.{SendKeys}
use Rattle.stream_lanes.specs.Lanes.{SendEnds, sealing_lanes, AreSendKeys}

-- the verdict of a refusal
abbrev pub refusal_verdict : SendRefusal → Verdict
refusal_verdict (NoKey u) = v.RefusedNoKey u
refusal_verdict (Worn u units) = v.RefusedWorn u units
refusal_verdict Unfinished = v.RefusedUnfinished
refusal_verdict Insecure = v.RefusedInsecure

-- a key that a send asks for: a missing one is refused at once, and a worn one after all that are missing
abbrev pub IsKeyOrRefused : {K : Type 0} → SubKind → ℕ → Bool → Bool → (K → Type 0)
    → Result (Result K SendRefusal) SendRefusal → Type 0
IsKeyOrRefused u limit keyless worn IsKey (Err refusal) = (refusal ≡ NoKey u) × (keyless ≡ true)
IsKeyOrRefused u limit keyless worn IsKey (Ok (Err refusal)) =
    (refusal ≡ Worn u limit) × (keyless ≡ false) × (worn ≡ true)
IsKeyOrRefused u limit keyless worn IsKey (Ok (Ok key)) = (keyless ≡ false) × (worn ≡ false) × IsKey key

-- the keys of a send, or why a TLP of this sub-stream is refused
abbrev pub AreSendKeysOrRefused : SendEnds → SubKind → Result SendKeys SendRefusal → Type 0
AreSendKeysOrRefused x class (Ok keys) =
    (first_that_holds (refusals (sealing_lanes x) class) ≡ None) × AreSendKeys x class keys
AreSendKeysOrRefused x class (Err refusal) =
    first_that_holds (refusals (sealing_lanes x) class) ≡ Some (refusal_verdict refusal)

-- sealed packets as a port describes them, numbered from this number on
abbrev pub numbered_from : PortName → ℕ → List MeasuredPacket → List Described
numbered_from port number [] = []
numbered_from port number (p ∷ ps) = numbered_packet port number p ∷ numbered_from port (number + 1) ps

abbrev pub joined_packets : List Packet → List ℕ
joined_packets [] = []
joined_packets (p ∷ ps) = packet_bytes p ++ joined_packets ps

abbrev pub packet_lengths : List Packet → List ℕ
packet_lengths ps = map (λ p. length (packet_bytes p)) ps

-- what the senders make of a TLP that is not refused
pub record IsSealed (old : SendEnds) (head payload : List ℕ) (s : Sending) (number : ℕ) (sealed : List MeasuredPacket)
    (before after : List ℕ) (new : SendEnds) : Type 0 where
  pub answered : numbered_from s.port number sealed ≡ sealed_with_syncs (sealing_lanes old) s number
  pub lengths : map (λ (p : MeasuredPacket). p.length) sealed ≡ packet_lengths (sealed_all old.fixed.closed head payload
      (sealed_with_syncs (sealing_lanes old) s number) old.tx).0
  pub bytes : after ≡ before ++ joined_packets (sealed_all old.fixed.closed head payload
      (sealed_with_syncs (sealing_lanes old) s number) old.tx).0
  pub senders : new ≡ record old
      { tx = (sealed_all old.fixed.closed head payload (sealed_with_syncs (sealing_lanes old) s number) old.tx).1 }

-- what they make of any TLP: a refusal changes nothing
abbrev pub IsSealedOrRefused : SendEnds → List ℕ → List ℕ → Sending → ℕ → Result (List MeasuredPacket) SendRefusal
    → List ℕ → List ℕ → SendEnds → Type 0
IsSealedOrRefused old head payload s number (Ok sealed) before after new =
    (first_that_holds (refusals (sealing_lanes old) s.class) ≡ None)
    × IsSealed old head payload s number sealed before after new
IsSealedOrRefused old head payload s number (Err refusal) before after new =
    (first_that_holds (refusals (sealing_lanes old) s.class) ≡ Some (refusal_verdict refusal))
    × (after ≡ before) × (new ≡ old)
