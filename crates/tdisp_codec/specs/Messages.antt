-- Messages as bytes: what requests and replies share (TDISP, in this profile).
use Rattle.std.specs.Prelude.{ℕ, ◌≡◌, ◌<◌, Bool, not, ◌==◌, nat_lt, List, ◌∷◌, ◌++◌, length, drop, slice_index}
use Rattle.std.specs.Prelude.{replicate, All, Option, Some, None, Result, Ok, Err, if◌then◌else◌}
use Rattle.byteorder.specs.Endian.{little_bytes, little_number}
use Rattle.ide_types.specs.Fronts.{IsFaultPlace}
use Rattle.tdisp_codec.specs.declared.fault.TdispFault.{TdispFault}
use Rattle.tdisp_codec.specs.declared.fault.TdispFault.TheVariants.{Short, Trailing, Version, Kind}

-- ---- what bytes spell

-- reserved bytes, which may hold anything
pub record IsIgnored (n : ℕ) : Type 0 where
  pub bytes : List ℕ
  pub long : length bytes ≡ n
  pub octets : All (λ b. b < 256) bytes

-- the protocol, the version, the type, two reserved bytes, the function ID, eight reserved bytes, and the body
abbrev pub message_bytes : List ℕ → List ℕ → ℕ → ℕ → List ℕ → List ℕ
message_bytes first second type function body =
    0x01 ∷ 0x10 ∷ type ∷ (first ++ (little_bytes 4 function ++ (second ++ body)))

-- as it is written, with 0 in the reserved bytes
abbrev pub message_spelling : ℕ → ℕ → List ℕ → List ℕ
message_spelling type function body = message_bytes (replicate 2 0) (replicate 8 0) type function body

-- the bytes are a message of this type, function ID and body, whatever the header's reserved bytes hold
pub record SpellsMessage (type function : ℕ) (body bytes : List ℕ) : Type 0 where
  pub first : IsIgnored 2
  pub second : IsIgnored 8
  pub spelled : bytes ≡ message_bytes first.bytes second.bytes type function body

-- the bytes spell a value
pub record IsSpelled {V : Type 0} (Spells : V → List ℕ → Type 0) (bytes : List ℕ) : Type 0 where
  pub value : V
  pub spells : Spells value bytes

-- ---- reading

abbrev pub type_in : List ℕ → ℕ
type_in bytes = slice_index bytes 2

abbrev pub function_field : List ℕ → ℕ
function_field bytes = little_number 4 (drop 5 bytes)

-- the function ID of a message; a header that is cut off has none
abbrev pub function_of : List ℕ → Option ℕ
function_of bytes = if nat_lt (length bytes) 17 then None else Some (function_field bytes)

abbrev pub body_in : List ℕ → List ℕ
body_in bytes = drop 17 bytes

-- another length than this
abbrev pub length_fault : ℕ → List ℕ → Option TdispFault
length_fault size bytes =
    if nat_lt (length bytes) size then Some (Short (length bytes))
    else if nat_lt size (length bytes) then Some (Trailing size)
    else None

-- the first fault of a message, given whether its type is known, and how long it is
abbrev pub message_fault : Bool → ℕ → List ℕ → Option TdispFault
message_fault known size bytes =
    if length bytes == 0 then Some (Short 0)
    else if not (slice_index bytes 0 == 0x01) then Some (Kind 0)
    else if length bytes == 1 then Some (Short 1)
    else if not (slice_index bytes 1 == 0x10) then Some (Version 1)
    else if length bytes == 2 then Some (Short 2)
    else if not known then Some (Kind 2)
    else length_fault size bytes

abbrev pub read_or : {V : Type 0} → V → Option TdispFault → Result V TdispFault
read_or value None = Ok value
read_or value (Some fault) = Err fault

-- ---- where bytes go off, and why

abbrev pub message_fault_at_place : List ℕ → ℕ → TdispFault
message_fault_at_place bytes place =
    if place == length bytes then Short place
    else if place == 1 then Version 1
    else if nat_lt place 3 then Kind place
    else Trailing place

-- the bytes spell no value, and this is their first fault
abbrev pub IsFirstFault : {V : Type 0} → (V → List ℕ → Type 0) → (List ℕ → ℕ → TdispFault) → List ℕ
    → TdispFault → Type 0
IsFirstFault Spells cause bytes fault =
    (place : ℕ) × IsFaultPlace (IsSpelled Spells) bytes place × (fault ≡ cause bytes place)
