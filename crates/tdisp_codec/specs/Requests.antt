-- Requests as bytes (TDISP section 11.3, in this profile).
use Rattle.std.specs.Prelude.{ℕ, ◌≡◌, ◌+◌, ◌<◌, ◌^◌, Bool, ◌==◌, nat_le, ◌&&◌, List, [], ◌∷◌, ◌++◌, length, take, drop}
use Rattle.std.specs.Prelude.{slice_index, replicate, All, Result, if◌then◌else◌}
use Rattle.byteorder.specs.Endian.{little_bytes, little_number}
use Rattle.tdisp_codec.specs.declared.fault.TdispFault.{TdispFault}
use Rattle.tdisp_codec.specs.declared.request.RequestView.{RequestView}
use Rattle.tdisp_codec.specs.declared.request.RequestView.TheVariants.{GetVersion, GetCapabilities, LockInterface}
use Rattle.tdisp_codec.specs.declared.request.RequestView.TheVariants.{GetDeviceInterfaceReport}
use Rattle.tdisp_codec.specs.declared.request.RequestView.TheVariants.{GetDeviceInterfaceState, StartInterface}
use Rattle.tdisp_codec.specs.declared.request.RequestView.TheVariants.{StopInterface, BindP2p, UnbindP2p}
use Rattle.tdisp_codec.specs.Messages.{IsIgnored, SpellsMessage, message_spelling, type_in, function_field, body_in}
use Rattle.tdisp_codec.specs.Messages.{message_fault, read_or}

abbrev pub request_type : RequestView → ℕ
request_type (GetVersion function) = 0x81
request_type (GetCapabilities function) = 0x82
request_type (LockInterface function flags stream offset mask) = 0x83
request_type (GetDeviceInterfaceReport function offset count) = 0x84
request_type (GetDeviceInterfaceState function) = 0x85
request_type (StartInterface function nonce) = 0x86
request_type (StopInterface function) = 0x87
request_type (BindP2p function stream) = 0x88
request_type (UnbindP2p function stream) = 0x89

abbrev pub request_function : RequestView → ℕ
request_function (GetVersion function) = function
request_function (GetCapabilities function) = function
request_function (LockInterface function flags stream offset mask) = function
request_function (GetDeviceInterfaceReport function offset count) = function
request_function (GetDeviceInterfaceState function) = function
request_function (StartInterface function nonce) = function
request_function (StopInterface function) = function
request_function (BindP2p function stream) = function
request_function (UnbindP2p function stream) = function

-- how many bytes of its body are reserved
abbrev pub request_reserved : RequestView → ℕ
request_reserved (GetCapabilities function) = 4
request_reserved (LockInterface function flags stream offset mask) = 1
request_reserved request = 0

-- its body, with these bytes in the reserved places
abbrev pub request_body : RequestView → List ℕ → List ℕ
request_body (GetCapabilities function) reserved = reserved
request_body (LockInterface function flags stream offset mask) reserved =
    little_bytes 2 flags ++ (stream ∷ (reserved ++ (little_bytes 8 offset ++ little_bytes 8 mask)))
request_body (GetDeviceInterfaceReport function offset count) reserved = little_bytes 2 offset ++ little_bytes 2 count
request_body (StartInterface function nonce) reserved = nonce
request_body (BindP2p function stream) reserved = stream ∷ []
request_body (UnbindP2p function stream) reserved = stream ∷ []
request_body request reserved = []

-- as it is written, with 0 in the reserved bytes
abbrev pub request_spelling : RequestView → List ℕ
request_spelling request =
    message_spelling (request_type request) (request_function request)
    (request_body request (replicate (request_reserved request) 0))

-- the fields of the body have their widths
abbrev pub FitsRequestBody : RequestView → Type 0
FitsRequestBody (LockInterface function flags stream offset mask) =
    (flags < 2 ^ 16) × (stream < 256) × (offset < 2 ^ 64) × (mask < 2 ^ 64)
FitsRequestBody (GetDeviceInterfaceReport function offset count) = (offset < 2 ^ 16) × (count < 2 ^ 16)
FitsRequestBody (StartInterface function nonce) = (length nonce ≡ 32) × All (λ b. b < 256) nonce
FitsRequestBody (BindP2p function stream) = stream < 256
FitsRequestBody (UnbindP2p function stream) = stream < 256
FitsRequestBody request = Unit {0}

abbrev pub FitsRequest : RequestView → Type 0
FitsRequest request = (request_function request < 2 ^ 32) × FitsRequestBody request

-- the bytes are the request's, but for the reserved ones, which may hold anything
pub record SpellsRequest (request : RequestView) (bytes : List ℕ) : Type 0 where
  pub fits : FitsRequest request
  pub reserved : IsIgnored (request_reserved request)
  pub message : SpellsMessage (request_type request) (request_function request)
      (request_body request reserved.bytes) bytes

-- ---- reading

abbrev pub is_request : ℕ → Bool
is_request type = nat_le 0x81 type && nat_le type 0x89

-- how long the body is, by the type
abbrev pub request_size : ℕ → ℕ
request_size type =
    if type == 0x82 then 4
    else if type == 0x83 then 20
    else if type == 0x84 then 4
    else if type == 0x86 then 32
    else if type == 0x88 then 1
    else if type == 0x89 then 1
    else 0

abbrev pub typed_request : ℕ → ℕ → List ℕ → RequestView
typed_request type function body =
    if type == 0x81 then GetVersion function
    else if type == 0x82 then GetCapabilities function
    else if type == 0x83 then
    LockInterface function (little_number 2 body) (slice_index body 2) (little_number 8 (drop 4 body))
    (little_number 8 (drop 12 body))
    else if type == 0x84 then GetDeviceInterfaceReport function (little_number 2 body) (little_number 2 (drop 2 body))
    else if type == 0x85 then GetDeviceInterfaceState function
    else if type == 0x86 then StartInterface function (take 32 body)
    else if type == 0x88 then BindP2p function (slice_index body 0)
    else if type == 0x89 then UnbindP2p function (slice_index body 0)
    else StopInterface function

abbrev pub request_in : List ℕ → RequestView
request_in bytes = typed_request (type_in bytes) (function_field bytes) (body_in bytes)

-- the request, or the first fault
abbrev pub request_reading : List ℕ → Result RequestView TdispFault
request_reading bytes =
    read_or (request_in bytes) (message_fault (is_request (type_in bytes)) (17 + request_size (type_in bytes)) bytes)
