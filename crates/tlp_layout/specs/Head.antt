-- The spelling of a TLP's header (PCI Express Base 6.0 section 2.2). These rules are this profile's and not the
-- standard's. A reserved bit that is set is refused, and so are TH, TD and EP. Of a configuration request only Length
-- is checked, which is 1. AT is kept at every value. No rule is kept on byte enables, on 4 KiB boundaries or on the
-- payload's size. Routings 6 and 7 are refused. Left out are I/O requests, locked reads, AtomicOps, deferrable memory
-- writes, prefixes, the digest, processing hints, poisoned TLPs, and the headers of flit mode.
use Rattle.std.specs.Prelude.{◌≡◌, ℕ, ◌+◌, ◌*◌, ◌/◌, ◌%◌, ◌^◌, ◌<◌, Bool, true, false, List, [], ◌∷◌, ◌++◌, length}
use Rattle.std.specs.Prelude.{if◌then◌else◌, All}
use Rattle.byteorder.specs.Endian.{big_bytes}
use Rattle.tlp_layout.specs.Terms.{Lead, HeadView, Fields, Memory, Config, Message, Completion}
use Rattle.tlp_layout.specs.Numbers.{bit, routing_bits, status_bits, FitsStatus}

-- Type, in bits 4:0 of byte 0
abbrev pub type_of : Fields → ℕ
type_of (Memory f) = 0x00
type_of (Config f) = 0x04 + bit f.one
type_of (Message f) = 0x10 + routing_bits f.routing
type_of (Completion f) = 0x0a

-- Fmt, in bits 7:5: bit 6 says that a payload follows, bit 5 that the header has 4 double words
abbrev pub first_byte : HeadView → ℕ
first_byte h = 0x40 * bit h.has_payload + 0x20 * bit h.lead.wide + type_of h.fields

abbrev pub tag_of_fields : Fields → ℕ
tag_of_fields (Memory f) = f.tag
tag_of_fields (Config f) = f.tag
tag_of_fields (Message f) = f.tag
tag_of_fields (Completion f) = f.tag

-- T9, TC, T8 and Attr[2]; then Attr[1:0], AT and Length. T9 and T8 are bits 9 and 8 of the tag
abbrev pub lead_bytes : Lead → ℕ → List ℕ
lead_bytes l tag =
    (0x80 * (tag / 512) + 0x10 * l.tc + 0x08 * (tag / 256 % 2) + 0x04 * (l.attr / 4))
    ∷ (0x10 * (l.attr % 4) + 0x04 * l.at + l.length / 256)
    ∷ (l.length % 256)
    ∷ []

abbrev pub address_bytes : Bool → ℕ → List ℕ
address_bytes wide address = if wide then big_bytes 8 address else big_bytes 4 address

-- what stands after the first double word
abbrev pub field_bytes : Bool → Fields → List ℕ
field_bytes wide (Memory f) =
    big_bytes 2 f.requester ++ (f.tag % 256) ∷ (0x10 * f.last_be + f.first_be) ∷ address_bytes wide f.address
field_bytes wide (Config f) =
    big_bytes 2 f.requester ++ (f.tag % 256) ∷ (0x10 * f.last_be + f.first_be) ∷ big_bytes 2 f.destination
    ++ (f.register / 64) ∷ (0x04 * (f.register % 64)) ∷ []
field_bytes wide (Message f) = big_bytes 2 f.requester ++ (f.tag % 256) ∷ f.code ∷ big_bytes 2 f.destination ++ f.kept
field_bytes wide (Completion f) =
    big_bytes 2 f.completer ++ (0x20 * status_bits f.status + 0x10 * bit f.bcm + f.count / 256) ∷ (f.count % 256)
    ∷ big_bytes 2 f.requester ++ (f.tag % 256) ∷ f.lower ∷ []

abbrev pub head_bytes : HeadView → List ℕ
head_bytes h = first_byte h ∷ (lead_bytes h.lead (tag_of_fields h.fields) ++ field_bytes h.lead.wide h.fields)

-- its length in bytes, 4 or 3 double words
abbrev pub head_length : HeadView → ℕ
head_length h = if h.lead.wide then 16 else 12

abbrev pub address_limit : Bool → ℕ
address_limit wide = if wide then 2 ^ 64 else 2 ^ 32

pub record FitsLead (l : Lead) : Type 0 where
  pub tc : l.tc < 8
  pub attr : l.attr < 8
  pub at : l.at < 4
  pub length : l.length < 1024

-- the fields that have a spelling after this lead
abbrev pub FitsFields : Lead → Fields → Type 0
FitsFields l (Memory f) =
    (f.requester < 2 ^ 16) × (f.tag < 1024) × (f.last_be < 16) × (f.first_be < 16)
    × (f.address % 4 ≡ 0) × (f.address < address_limit l.wide)
FitsFields l (Config f) =
    (l.wide ≡ false) × (l.length ≡ 1) × (f.requester < 2 ^ 16) × (f.tag < 1024)
    × (f.last_be < 16) × (f.first_be < 16) × (f.destination < 2 ^ 16) × (f.register < 1024)
FitsFields l (Message f) =
    (l.wide ≡ true) × (f.requester < 2 ^ 16) × (f.tag < 1024) × (f.code < 256) × (f.destination < 2 ^ 16)
    × (length f.kept ≡ 6) × All (λ b. b < 256) f.kept
FitsFields l (Completion f) =
    (l.wide ≡ false) × (f.completer < 2 ^ 16) × FitsStatus f.status × (f.count < 4096)
    × (f.requester < 2 ^ 16) × (f.tag < 1024) × (f.lower < 128)

pub record FitsHead (h : HeadView) : Type 0 where
  pub lead : FitsLead h.lead
  pub fields : FitsFields h.lead h.fields

-- the bytes are this header's
pub record SpellsHead (h : HeadView) (bytes : List ℕ) : Type 0 where
  pub fits : FitsHead h
  pub spelled : bytes ≡ head_bytes h

-- the bytes are a header's
pub record IsHead (bytes : List ℕ) : Type 0 where
  pub head : HeadView
  pub spells : SpellsHead head bytes
