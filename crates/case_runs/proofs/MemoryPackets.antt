-- The packets of the cases as the cipher makes them. Each body and each tag is computed once, here.
use Rattle.std.proofs.Common.{◌≡◌, ℕ, [], ◌∷◌, ◌++◌, List, Bool, true, false, ap, ◌∙◌}
use Rattle.std.specs.Prelude.{take}
use Rattle.aes_block.specs.Aes.{mixed_byte, shift_rows, mix_columns, add_round_key}
use Rattle.gcm_seal.specs.Polynomials.{bits}
use Rattle.gcm_seal.specs.Gcm.{counter, masked_bytes, open_of, blocks, ghash, tag_of}
use Rattle.ide_prefix.specs.Iv.{iv_of}
use Rattle.ide_prefix.specs.Packet.{Packet, prefix_bytes}
use Rattle.ide_prefix.specs.declared.packet.Prefix.{Prefix}
use Rattle.ide_types.specs.Ports.{host_port, device_port}
use Rattle.ide_types.specs.declared.port.PortName.{PortName}
use Rattle.ide_types.specs.declared.sub.SubKind.{SubKind}
use Rattle.ide_types.specs.declared.sub.SubKind.TheVariants.{Pr, Npr}
use Rattle.event_verdicts.specs.declared.verdict.SealedPacket.{SealedPacket}
use Rattle.spec_links.specs.History.{packet_of}
use Rattle.case_runs.specs.InterfaceCases.{interface_plan, small_key, write_tlp}
use Rattle.case_runs.specs.MmioCases.{bar_write}
use Rattle.case_runs.specs.ReadCases.{read_request}
use Rattle.case_runs.specs.DeviceReadCases.{bar_read}
use Rattle.case_runs.proofs.Cipher.{masked_is, tag_is}
use Rattle.case_runs.proofs.MemoryKeys.{words_0_are, hash_0_is}
use Rattle.case_runs.proofs.Literals.{due_on_literals}

-- ---- packets of stream 5 under draw 0

abbrev prefix : Bool → SubKind → ℕ → Prefix
prefix t sub posted = record { m = true; k = false; t = t; sub = sub; stream = 5; posted = posted }

abbrev clear : Bool → SubKind → ℕ → List ℕ → List ℕ
clear t sub posted head = prefix_bytes (prefix t sub posted) ++ head

-- a write that is the unit of this number, and the packet that a verdict describes
abbrev write_of_unit : Bool → List ℕ → List ℕ → List ℕ → Packet
write_of_unit t head body tag = record { prefix = prefix t Pr 0; head = head; body = body; tag = tag }

abbrev read_of_unit : ℕ → List ℕ → Packet
read_of_unit posted tag = record { prefix = prefix true Npr posted; head = read_request; body = []; tag = tag }

abbrev bar_read_of_unit : Bool → ℕ → List ℕ → Packet
bar_read_of_unit t posted tag = record { prefix = prefix t Npr posted; head = bar_read; body = []; tag = tag }

abbrev pub packet_description : ℕ → PortName → SubKind → ℕ → Bool → ℕ → SealedPacket
packet_description number port sub unit t posted = record {
  number = number;
  port = port;
  stream = 5;
  sub = sub;
  draw = 0;
  unit = unit;
  m = true;
  k = false;
  t = t;
  posted = posted;
  sync = false;
}

-- ---- the device's write

abbrev device_body : List ℕ
device_body = 0x38 ∷ 0xe3 ∷ 0x17 ∷ 0x66 ∷ []

device_body_is : masked_bytes (small_key 0) (iv_of Pr 1) 0 (0x11 ∷ 0x22 ∷ 0x33 ∷ 0x44 ∷ []) ≡ device_body
unfolding counter add_round_key shift_rows mix_columns mixed_byte
device_body_is = masked_is _ _ _ _ words_0_are

abbrev pub device_tag : List ℕ
device_tag = 0x79 ∷ 0xe6 ∷ 0x2a ∷ 0xc1 ∷ 0xfc ∷ 0x91 ∷ 0x0e ∷ 0x97 ∷ 0x41 ∷ 0x67 ∷ 0x14 ∷ 0xa5 ∷ []

pub device_tag_is : tag_of (small_key 0) (iv_of Pr 1) (clear true Pr 0 (take 12 write_tlp)) device_body ≡ device_tag
unfolding ghash blocks bits add_round_key shift_rows mix_columns mixed_byte
device_tag_is = tag_is _ _ _ _ words_0_are hash_0_is

abbrev pub device_write : Packet
device_write = write_of_unit true (take 12 write_tlp) device_body device_tag

pub device_write_is : packet_of interface_plan [] write_tlp (packet_description 1 (device_port 0) Pr 1 true 0) []
    ≡ device_write
unfolding due_on_literals
device_write_is =
    ap (λ (b : List ℕ). write_of_unit true (take 12 write_tlp) b
    (tag_of (small_key 0) (iv_of Pr 1) (clear true Pr 0 (take 12 write_tlp)) (b ++ [])))
    device_body_is
    ∙ ap (write_of_unit true (take 12 write_tlp) device_body) device_tag_is

-- its plaintext again
pub device_opened : open_of (small_key 0) (iv_of Pr 1) device_body ≡ 0x11 ∷ 0x22 ∷ 0x33 ∷ 0x44 ∷ []
unfolding open_of counter add_round_key shift_rows mix_columns mixed_byte
device_opened = masked_is _ _ _ _ words_0_are

-- ---- the host's first write

abbrev host_1_body : List ℕ
host_1_body = 0x83 ∷ 0x7a ∷ 0xe8 ∷ 0xff ∷ []

host_1_body_is : masked_bytes (small_key 0) (iv_of Pr 1) 0 (0xaa ∷ 0xbb ∷ 0xcc ∷ 0xdd ∷ []) ≡ host_1_body
unfolding counter add_round_key shift_rows mix_columns mixed_byte
host_1_body_is = masked_is _ _ _ _ words_0_are

abbrev pub host_1_tag : List ℕ
host_1_tag = 0x34 ∷ 0x8f ∷ 0xd0 ∷ 0x4b ∷ 0x35 ∷ 0x1e ∷ 0xb9 ∷ 0xd2 ∷ 0xf7 ∷ 0xce ∷ 0xc8 ∷ 0x00 ∷ []

pub host_1_tag_is : tag_of (small_key 0) (iv_of Pr 1) (clear true Pr 0 (take 12 bar_write)) host_1_body ≡ host_1_tag
unfolding ghash blocks bits add_round_key shift_rows mix_columns mixed_byte
host_1_tag_is = tag_is _ _ _ _ words_0_are hash_0_is

abbrev pub host_1_write : Packet
host_1_write = write_of_unit true (take 12 bar_write) host_1_body host_1_tag

pub host_1_write_is : packet_of interface_plan [] bar_write (packet_description 1 (host_port 0) Pr 1 true 0) []
    ≡ host_1_write
unfolding due_on_literals
host_1_write_is =
    ap (λ (b : List ℕ). write_of_unit true (take 12 bar_write) b
    (tag_of (small_key 0) (iv_of Pr 1) (clear true Pr 0 (take 12 bar_write)) (b ++ [])))
    host_1_body_is
    ∙ ap (write_of_unit true (take 12 bar_write) host_1_body) host_1_tag_is

-- ---- the host's second write, without T

abbrev host_2_body : List ℕ
host_2_body = 0x14 ∷ 0x97 ∷ 0xfa ∷ 0xee ∷ []

host_2_body_is : masked_bytes (small_key 0) (iv_of Pr 2) 0 (0xaa ∷ 0xbb ∷ 0xcc ∷ 0xdd ∷ []) ≡ host_2_body
unfolding counter add_round_key shift_rows mix_columns mixed_byte
host_2_body_is = masked_is _ _ _ _ words_0_are

abbrev pub host_2_tag : List ℕ
host_2_tag = 0x03 ∷ 0xda ∷ 0x3f ∷ 0x94 ∷ 0xa6 ∷ 0x65 ∷ 0xd7 ∷ 0x4c ∷ 0x59 ∷ 0x71 ∷ 0xbd ∷ 0x22 ∷ []

pub host_2_tag_is : tag_of (small_key 0) (iv_of Pr 2) (clear false Pr 0 (take 12 bar_write)) host_2_body ≡ host_2_tag
unfolding ghash blocks bits add_round_key shift_rows mix_columns mixed_byte
host_2_tag_is = tag_is _ _ _ _ words_0_are hash_0_is

abbrev pub host_2_write : Packet
host_2_write = write_of_unit false (take 12 bar_write) host_2_body host_2_tag

pub host_2_write_is : packet_of interface_plan [] bar_write (packet_description 2 (host_port 0) Pr 2 false 0) []
    ≡ host_2_write
unfolding due_on_literals
host_2_write_is =
    ap (λ (b : List ℕ). write_of_unit false (take 12 bar_write) b
    (tag_of (small_key 0) (iv_of Pr 2) (clear false Pr 0 (take 12 bar_write)) (b ++ [])))
    host_2_body_is
    ∙ ap (write_of_unit false (take 12 bar_write) host_2_body) host_2_tag_is

-- ---- the device's read after the write

abbrev pub later_read_tag : List ℕ
later_read_tag = 0xb4 ∷ 0x3c ∷ 0xfe ∷ 0x36 ∷ 0xbe ∷ 0xfe ∷ 0x74 ∷ 0x13 ∷ 0xe3 ∷ 0x4c ∷ 0x43 ∷ 0xc4 ∷ []

pub later_read_tag_is : tag_of (small_key 0) (iv_of Npr 1) (clear true Npr 1 read_request) [] ≡ later_read_tag
unfolding ghash blocks bits add_round_key shift_rows mix_columns mixed_byte
later_read_tag_is = tag_is _ _ _ _ words_0_are hash_0_is

abbrev pub later_read : Packet
later_read = read_of_unit 1 later_read_tag

pub later_read_is : packet_of interface_plan [] read_request (packet_description 2 (device_port 0) Npr 1 true 1) []
    ≡ later_read
unfolding due_on_literals masked_bytes
later_read_is = ap (read_of_unit 1) later_read_tag_is

-- ---- the device's read alone

abbrev pub first_read_tag : List ℕ
first_read_tag = 0x41 ∷ 0xf9 ∷ 0x25 ∷ 0xb3 ∷ 0x6d ∷ 0x7a ∷ 0x89 ∷ 0x15 ∷ 0x7d ∷ 0x70 ∷ 0x31 ∷ 0xbc ∷ []

pub first_read_tag_is : tag_of (small_key 0) (iv_of Npr 1) (clear true Npr 0 read_request) [] ≡ first_read_tag
unfolding ghash blocks bits add_round_key shift_rows mix_columns mixed_byte
first_read_tag_is = tag_is _ _ _ _ words_0_are hash_0_is

abbrev pub first_read : Packet
first_read = read_of_unit 0 first_read_tag

pub first_read_is : packet_of interface_plan [] read_request (packet_description 1 (device_port 0) Npr 1 true 0) []
    ≡ first_read
unfolding due_on_literals masked_bytes
first_read_is = ap (read_of_unit 0) first_read_tag_is

-- ---- the host's read of a BAR after its write

abbrev pub asked_tag : List ℕ
asked_tag = 0x75 ∷ 0xfb ∷ 0xcb ∷ 0x1a ∷ 0x60 ∷ 0x14 ∷ 0x74 ∷ 0xe5 ∷ 0x0e ∷ 0x12 ∷ 0xec ∷ 0x60 ∷ []

pub asked_tag_is : tag_of (small_key 0) (iv_of Npr 1) (clear true Npr 1 bar_read) [] ≡ asked_tag
unfolding ghash blocks bits add_round_key shift_rows mix_columns mixed_byte
asked_tag_is = tag_is _ _ _ _ words_0_are hash_0_is

abbrev pub asked_read : Packet
asked_read = bar_read_of_unit true 1 asked_tag

pub asked_read_is : packet_of interface_plan [] bar_read (packet_description 2 (host_port 0) Npr 1 true 1) []
    ≡ asked_read
unfolding due_on_literals masked_bytes
asked_read_is = ap (bar_read_of_unit true 1) asked_tag_is

-- ---- the host's read of a BAR alone, without T

abbrev pub untrusted_tag : List ℕ
untrusted_tag = 0xc0 ∷ 0x84 ∷ 0x60 ∷ 0x00 ∷ 0x13 ∷ 0x43 ∷ 0x4e ∷ 0x6d ∷ 0xdf ∷ 0x24 ∷ 0x3e ∷ 0xac ∷ []

pub untrusted_tag_is : tag_of (small_key 0) (iv_of Npr 1) (clear false Npr 0 bar_read) [] ≡ untrusted_tag
unfolding ghash blocks bits add_round_key shift_rows mix_columns mixed_byte
untrusted_tag_is = tag_is _ _ _ _ words_0_are hash_0_is

abbrev pub untrusted_read : Packet
untrusted_read = bar_read_of_unit false 0 untrusted_tag

pub untrusted_read_is : packet_of interface_plan [] bar_read (packet_description 1 (host_port 0) Npr 1 false 0) []
    ≡ untrusted_read
unfolding due_on_literals masked_bytes
untrusted_read_is = ap (bar_read_of_unit false 0) untrusted_tag_is
