-- What the reader's inner functions show of the bytes.
use Rattle.std.specs.Prelude.{◌≡◌, ℕ, ◌<◌, ◌≤◌, true, false, List, length, slice_index, Some, None}
use Rattle.tlp_layout.specs.Terms.{Layout, TlpFault}
use Rattle.tlp_layout.specs.Causes.{head_size, layout_of_byte, is_allowed_byte, fault_at}

-- after byte 0 the bytes below n are those of a header of this layout
abbrev pub Agrees : Layout → List ℕ → ℕ → Type 0
Agrees layout s n =
    (i : ℕ) → 0 < i → i < n → is_allowed_byte layout (head_size (slice_index s 0)) i (slice_index s i) ≡ true

-- the bytes go off a header at this place
pub record TlpGoesOffAtPlace (s : List ℕ) (fault : TlpFault) (place : ℕ) : Type 0 where
  pub within : place ≤ length s
  pub cause : fault ≡ fault_at s place
  pub first : place ≡ 0 → place < length s → layout_of_byte (slice_index s 0) ≡ None
  pub behind : 0 < place → (layout : Layout) × (layout_of_byte (slice_index s 0) ≡ Some layout)
      × (place < head_size (slice_index s 0)) × Agrees layout s place
      × (place < length s → is_allowed_byte layout (head_size (slice_index s 0)) place (slice_index s place) ≡ false)

abbrev pub TlpGoesOff : List ℕ → TlpFault → Type 0
TlpGoesOff s fault = (place : ℕ) × TlpGoesOffAtPlace s fault place
