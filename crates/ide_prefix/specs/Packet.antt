-- The spelling of a packet: a prefix, a TLP's header in clear, its encrypted payload, and a tag (PCI Express Base 6.0
-- section 6.33; the layout is this profile's).
use Rattle.std.specs.Prelude.{◌≡◌, ◌≢◌, ℕ, ◌+◌, ◌*◌, ◌<◌, Bool, true, false, List, [], ◌∷◌, ◌++◌, length, slice_index}
use Rattle.std.specs.Prelude.{replicate, ◌⊎◌, ◌==◌, All, if◌then◌else◌, Option, Some, None, Ok}
use Rattle.ide_types.specs.declared.sub.SubKind.{SubKind}
use Rattle.ide_types.specs.declared.sub.SubKind.TheVariants.{Pr, Npr, Cpl}
use Rattle.ide_types.specs.Sub.{sub_bits}
use Rattle.tlp_layout.specs.declared.head.HeadView.{HeadView}
use Rattle.tlp_layout.specs.Head.{SpellsHead}
use Rattle.tlp_layout.specs.Reading.{read_head_of}
use Rattle.tlp_layout.specs.Numbers.{bit}
use Rattle.tlp_layout.specs.Class.{class_of}
use Rattle.tlp_layout.specs.Tlp.{body_size}
use Rattle.ide_prefix.specs.declared.packet.Prefix.{Prefix}

-- the first byte of a packet
abbrev pub packet_first : ℕ
packet_first = 0x92

-- that byte; M, K and T in bits 7 to 5 and the sub-stream in bits 2:0; the stream ID; the posted count
abbrev pub prefix_bytes : Prefix → List ℕ
prefix_bytes p =
    packet_first ∷ (0x80 * bit p.m + 0x40 * bit p.k + 0x20 * bit p.t + sub_bits p.sub) ∷ p.stream ∷ p.posted ∷ []

-- the parts of a packet, as lists of bytes
pub record Packet : Type 0 where
  pub prefix : Prefix
  pub head : List ℕ
  pub body : List ℕ
  pub tag : List ℕ

abbrev pub packet_bytes : Packet → List ℕ
packet_bytes p = prefix_bytes p.prefix ++ (p.head ++ (p.body ++ p.tag))

-- the first header byte of a sync packet, in the non-posted and the completion sub-stream
abbrev pub sync_first : ℕ
sync_first = 0x34

-- that byte and 11 zeros
abbrev pub sync_head : List ℕ
sync_head = sync_first ∷ replicate 11 0

-- the byte after the prefix begins a sync packet
abbrev pub begins_sync : SubKind → ℕ → Bool
begins_sync Pr b = false
begins_sync Npr b = b == sync_first
begins_sync Cpl b = b == sync_first

abbrev pub is_sync_packet : Packet → Bool
is_sync_packet p = begins_sync p.prefix.sub (slice_index p.head 0)

-- what its header reads as; none of a sync packet, which carries no TLP
abbrev pub HasTlp : Packet → Option HeadView → Type 0
HasTlp p None = is_sync_packet p ≡ true
HasTlp p (Some head) = (is_sync_packet p ≡ false) × (read_head_of p.head ≡ Ok head)

-- it carries a TLP of the sub-stream's class: a header, and as many bytes of payload as that wants
pub record IsCarried (p : Packet) : Type 0 where
  pub head : HeadView
  pub spells : SpellsHead head p.head
  pub class : class_of head ≡ p.prefix.sub
  pub size : length p.body ≡ body_size head.has_payload head.lead.length

pub record IsSync (p : Packet) : Type 0 where
  pub head : p.head ≡ sync_head
  pub body : p.body ≡ []
  pub sub : p.prefix.sub ≢ Pr
  pub m : p.prefix.m ≡ true
  pub t : p.prefix.t ≡ false

pub record FitsPrefix (p : Prefix) : Type 0 where
  pub stream : p.stream < 256
  pub posted : p.posted < 256
  pub none : p.sub ≡ Pr → p.posted ≡ 0

-- what has a spelling
pub record FitsPacket (p : Packet) : Type 0 where
  pub prefix : FitsPrefix p.prefix
  pub carries : IsCarried p ⊎ IsSync p
  pub body : All (λ b. b < 256) p.body
  pub tag : All (λ b. b < 256) p.tag
  pub tag_size : length p.tag ≡ (if p.prefix.m then 12 else 0)

-- the bytes are this packet's
pub record SpellsPacket (p : Packet) (bytes : List ℕ) : Type 0 where
  pub fits : FitsPacket p
  pub spelled : bytes ≡ packet_bytes p

-- the bytes are a packet's
pub record IsPacket (bytes : List ℕ) : Type 0 where
  pub packet : Packet
  pub spells : SpellsPacket packet bytes
