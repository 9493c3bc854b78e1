-- The TLPs that wait at a switch of a unit are those that the machine has: the port lends the unit opened packet by
-- packet, the machine opens it as one and cuts the plaintext.
use Rattle.std.proofs.Common.{◌≡◌, ℕ, ◌+◌, take, drop, Bool, true, false, List, [], ◌∷◌, ◌++◌, length, refl, sym, ◌∙◌}
use Rattle.std.specs.Prelude.{if◌then◌else◌}
use Rattle.std.proofs.Math.Seq.{take-append_seam, drop-append_seam}
use Rattle.ide_types.specs.declared.port.PortName.{PortName}
use Rattle.ide_types.specs.declared.plan.Plan.{Plan}
use Rattle.ide_prefix.specs.Packet.{Packet}
use Rattle.ide_prefix.specs.{encrypted_bytes, iv_of, is_sync_packet}
use Rattle.gcm_seal.specs.Gcm.{masked_bytes}
unfoldable use Rattle.gcm_seal.specs.Gcm.{open_of}
use Rattle.gcm_seal.proofs.Sealing.{masked_bytes-append, length-masked_bytes}
use Rattle.sub_stream.specs.{opened_from_byte}
use Rattle.hop_queues.specs.declared.queue.HopTlp.{HopTlp}
use Rattle.spec_links.specs.Hops.{tlps_with}
use Rattle.spec_links.specs.Admission.{plain_of}
use Rattle.spec_links.specs.Plan.{key_of}
use Rattle.spec_links.specs.Packets.{received_in}
use Rattle.arrival_verdicts.specs.Switches.{packet_tlps}
use Rattle.arrival_verdicts.proofs.Writes.{OpensAs}

-- of packets whose bodies are plain, each in the sub-stream that it names
abbrev pub own_tlps : List Packet → List HopTlp
own_tlps [] = []
own_tlps (p ∷ ps) = packet_tlps p.prefix.sub p ++ own_tlps ps

one_first : (b : Bool) (x : HopTlp) (xs : List HopTlp) → (if b then xs else x ∷ xs) ≡ (if b then [] else x ∷ []) ++ xs
one_first true x xs = refl
one_first false x xs = refl

each_waits : (key iv : List ℕ) (n : ℕ) (ps : List Packet)
    → tlps_with (masked_bytes key iv n (encrypted_bytes ps)) ps ≡ own_tlps (opened_from_byte key iv n ps)
each_waits key iv n [] = refl
each_waits key iv n (p ∷ ps) =
    let first : List ℕ = masked_bytes key iv n p.body in
    let rest : List ℕ = masked_bytes key iv (n + length p.body) (encrypted_bytes ps) in
    let plain : List ℕ = masked_bytes key iv n (p.body ++ encrypted_bytes ps) in
    let joined : plain ≡ first ++ rest = masked_bytes-append key iv n p.body (encrypted_bytes ps) in
    let long : length p.body ≡ length first = sym (length-masked_bytes key iv n p.body) in
    let front : take (length p.body) plain ≡ first =
    (λ i. take (long i) (joined i)) ∙ take-append_seam first rest in
    let back : drop (length p.body) plain ≡ rest =
    (λ i. drop (long i) (joined i)) ∙ drop-append_seam first rest in
    let x : HopTlp = record { sub = p.prefix.sub; bytes = p.head ++ first; t = p.prefix.t } in
    (λ i. if is_sync_packet p then tlps_with (back i) ps
    else record { sub = p.prefix.sub; bytes = p.head ++ front i; t = p.prefix.t } ∷ tlps_with (back i) ps)
    ∙ (λ i. if is_sync_packet p then each_waits key iv (n + length p.body) ps i
    else x ∷ each_waits key iv (n + length p.body) ps i)
    ∙ one_first (is_sync_packet p) x (own_tlps (opened_from_byte key iv (n + length p.body) ps))

pub waits_open : (plan : Plan) (end : PortName)
    → OpensAs plan end (λ unit ps. tlps_with (plain_of plan end unit ps) ps) (λ unit ps. own_tlps ps)
unfolding open_of
waits_open plan end unit ps = each_waits (key_of plan unit.draw (received_in end unit)) (iv_of unit.sub unit.unit) 0 ps
