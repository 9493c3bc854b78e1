-- The TLPs that were sent, and those that were delivered: each is the bytes of its header and its payload in plain.
-- Sync packets carry none.
use Rattle.std.specs.Prelude.{if◌then◌else◌, ◌&&◌, ◌++◌, ◌==◌, ◌∷◌, Bool, List, [], drop, filter, length, map, not}
use Rattle.std.specs.Prelude.{take, ℕ}
use Rattle.spec_links.specs.Terms.{Plan, SealedPacket, Accepted, Sealed, iv_of, Packet, is_sync_packet}
use Rattle.spec_links.specs.Terms.{encrypted_bytes, open_of, History}
use Rattle.spec_links.specs.Plan.{SubStream, is_same, key_of}
use Rattle.spec_links.specs.History.{sub_stream_of, sent_bytes, arrived_packet, is_received_under, packets_in_hold}

-- ---- sent

-- the sealed packet carries a TLP of this sub-stream under this draw
abbrev pub is_tlp_under_draw : SubStream → ℕ → SealedPacket → Bool
is_tlp_under_draw s j d = not d.sync && is_same (sub_stream_of d) s && (d.draw == j)

-- the bytes that were sent and sealed in a sub-stream under a draw, in order
unfoldable pub tlps_sent : Plan → History → SubStream → ℕ → List (List ℕ)
tlps_sent plan [] s j = []
tlps_sent plan ((e, Sealed ds) ∷ h) s j =
    tlps_sent plan h s j ++ map (λ d. sent_bytes plan h e) (filter (is_tlp_under_draw s j) ds)
tlps_sent plan (_ ∷ h) s j = tlps_sent plan h s j

-- ---- delivered

-- the packets of a unit with their parts of its plaintext
abbrev pub with_payloads : List ℕ → List Packet → List (List ℕ)
with_payloads plain [] = []
with_payloads plain (p ∷ ps) =
    let later = with_payloads (drop (length p.body) plain) ps in
    if is_sync_packet p then later else (p.head ++ take (length p.body) plain) ∷ later

-- the TLPs of a unit of this number: its plaintext is GCM's, under the key of the draw
abbrev pub opened_tlps : Plan → SubStream → ℕ → ℕ → List Packet → List (List ℕ)
opened_tlps plan s j n unit = with_payloads (open_of (key_of plan j s) (iv_of s.sub n) (encrypted_bytes unit)) unit

-- the TLPs of the units that were accepted in a sub-stream under a draw, in order
unfoldable pub tlps_got : Plan → History → SubStream → ℕ → List (List ℕ)
tlps_got plan [] s j = []
tlps_got plan ((e, Accepted port unit effects) ∷ h) s j =
    if is_received_under s j port unit then tlps_got plan h s j ++ opened_tlps plan s j unit.unit
    (packets_in_hold plan h s j unit.unit
    ++ arrived_packet plan h e ∷ [])
    else tlps_got plan h s j
tlps_got plan (_ ∷ h) s j = tlps_got plan h s j
