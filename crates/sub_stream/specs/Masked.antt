-- A packet as it is sealed, behind those of its unit.
use Rattle.std.specs.Prelude.{Bool, List, ℕ, [], length, if◌then◌else◌}
use Rattle.gcm_seal.specs.Gcm.{masked_bytes, tag_of}
use Rattle.ide_prefix.specs.declared.packet.Prefix.{Prefix}
use Rattle.ide_prefix.specs.Packet.{Packet}
use Rattle.ide_prefix.specs.Units.{encrypted_bytes}
use Rattle.sub_stream.specs.Gathered.{Gathered, with_packet, clear_of}

-- encrypted, without a tag
abbrev pub masked_packet : List ℕ → List ℕ → List Packet → Prefix → List ℕ → List ℕ → Packet
masked_packet key iv ps prefix head payload =
    record { prefix = prefix; head = head; body = masked_bytes key iv (length (encrypted_bytes ps)) payload; tag = [] }

-- with the tag of its unit, if it is the last
abbrev pub packet_with_tag : Bool → List ℕ → List ℕ → Gathered → Packet → Packet
packet_with_tag m key iv unit p =
    record p {
      tag = if m then tag_of key iv (clear_of (with_packet unit p)) (encrypted_bytes (with_packet unit p).packets) else
          [];
    }
