-- The bytes of the objects of key management (this profile).
use Rattle.std.specs.Prelude.{ℕ, ◌≡◌, ◌<◌, ◌^◌, Bool, false, not, ◌||◌, ◌==◌, nat_lt, List, [], ◌∷◌, ◌++◌, length}
use Rattle.std.specs.Prelude.{slice_index, slice_range, All, Option, Some, None, Result, Ok, Err, if◌then◌else◌}
use Rattle.std.specs.Int.{w64, to_le_bytes, from_le_bytes}
use Rattle.key_messages.specs.declared.object.KmView.{KmView}
use Rattle.key_messages.specs.declared.object.KmView.TheVariants.{Query, QueryResp, KeyProg, KpAck, SetGo, SetStop}
use Rattle.key_messages.specs.declared.object.KmView.TheVariants.{GoStopAck}
use Rattle.key_messages.specs.declared.object.KmFault.{KmFault}
use Rattle.key_messages.specs.declared.object.KmFault.TheVariants.{Length, Protocol, Object}

-- ---- writing

-- 00h, the object's number, and its fields, with 0 in the reserved bytes
abbrev pub object_spelling : KmView → List ℕ
object_spelling (Query port) = 0x00 ∷ 0x00 ∷ 0 ∷ port ∷ []
object_spelling (QueryResp port device_function bus segment highest) =
    0x00 ∷ 0x01 ∷ 0 ∷ port ∷ device_function ∷ bus ∷ segment ∷ highest ∷ []
object_spelling (KeyProg stream selector port key counter) =
    (0x00 ∷ 0x02 ∷ 0 ∷ 0 ∷ stream ∷ 0 ∷ selector ∷ port ∷ []) ++ key ++ to_le_bytes w64 counter
object_spelling (KpAck stream status selector port) = 0x00 ∷ 0x03 ∷ 0 ∷ 0 ∷ stream ∷ status ∷ selector ∷ port ∷ []
object_spelling (SetGo stream selector port) = 0x00 ∷ 0x04 ∷ 0 ∷ 0 ∷ stream ∷ 0 ∷ selector ∷ port ∷ []
object_spelling (SetStop stream selector port) = 0x00 ∷ 0x05 ∷ 0 ∷ 0 ∷ stream ∷ 0 ∷ selector ∷ port ∷ []
object_spelling (GoStopAck stream selector port) = 0x00 ∷ 0x06 ∷ 0 ∷ 0 ∷ stream ∷ 0 ∷ selector ∷ port ∷ []

-- ---- what bytes spell

-- the places of its reserved bytes
abbrev pub is_reserved : KmView → ℕ → Bool
is_reserved (Query port) i = i == 2
is_reserved (QueryResp port device_function bus segment highest) i = i == 2
is_reserved (KpAck stream status selector port) i = (i == 2) || (i == 3)
is_reserved object i = ((i == 2) || (i == 3)) || (i == 5)

-- the fields have their widths
abbrev pub FitsObject : KmView → Type 0
FitsObject (Query port) = port < 256
FitsObject (QueryResp port device_function bus segment highest) =
    (port < 256) × (device_function < 256) × (bus < 256) × (segment < 256) × (highest < 256)
FitsObject (KeyProg stream selector port key counter) =
    (stream < 256) × (selector < 256) × (port < 256) × (length key ≡ 32) × All (λ b. b < 256) key × (counter < 2 ^ 64)
FitsObject (KpAck stream status selector port) = (stream < 256) × (status < 256) × (selector < 256) × (port < 256)
FitsObject (SetGo stream selector port) = (stream < 256) × (selector < 256) × (port < 256)
FitsObject (SetStop stream selector port) = (stream < 256) × (selector < 256) × (port < 256)
FitsObject (GoStopAck stream selector port) = (stream < 256) × (selector < 256) × (port < 256)

-- the bytes are the object's, but for the reserved ones, which may hold anything
pub record SpellsObject (object : KmView) (bytes : List ℕ) : Type 0 where
  pub fits : FitsObject object
  pub octets : All (λ b. b < 256) bytes
  pub long : length bytes ≡ length (object_spelling object)
  pub same : (i : ℕ) → is_reserved object i ≡ false → slice_index bytes i ≡ slice_index (object_spelling object) i

-- ---- reading

-- the bytes of an object, by its number
abbrev pub size_of : ℕ → ℕ
size_of number = if number == 0x00 then 4 else if number == 0x02 then 48 else 8

-- why bytes are no object, by the causes in their order
abbrev pub fault_of : List ℕ → Option KmFault
fault_of bytes =
    if length bytes == 0 then Some Length
    else if not (slice_index bytes 0 == 0) then Some Protocol
    else if length bytes == 1 then Some Length
    else if nat_lt 0x06 (slice_index bytes 1) then Some Object
    else if not (length bytes == size_of (slice_index bytes 1)) then Some Length
    else None

-- the object by its number, each field at its place
abbrev pub object_of : List ℕ → KmView
object_of bytes =
    let at : ℕ → ℕ = slice_index bytes in
    if at 1 == 0x00 then Query (at 3)
    else if at 1 == 0x01 then QueryResp (at 3) (at 4) (at 5) (at 6) (at 7)
    else if at 1 == 0x02 then
    KeyProg (at 4) (at 6) (at 7) (slice_range bytes 8 40) (from_le_bytes w64 (slice_range bytes 40 48))
    else if at 1 == 0x03 then KpAck (at 4) (at 5) (at 6) (at 7)
    else if at 1 == 0x04 then SetGo (at 4) (at 6) (at 7)
    else if at 1 == 0x05 then SetStop (at 4) (at 6) (at 7)
    else GoStopAck (at 4) (at 6) (at 7)

abbrev pub object_or_fault : KmView → Option KmFault → Result KmView KmFault
object_or_fault object None = Ok object
object_or_fault object (Some fault) = Err fault

-- the object, or why there is none
abbrev pub object_reading : List ℕ → Result KmView KmFault
object_reading bytes = object_or_fault (object_of bytes) (fault_of bytes)
