-- Replies as bytes (TDISP section 11.3, in this profile).
use Rattle.std.specs.Prelude.{ℕ, ◌≡◌, ◌+◌, ◌<◌, ◌^◌, Bool, ◌==◌, nat_le, ◌&&◌, ◌||◌, List, [], ◌∷◌, ◌++◌, length, take}
use Rattle.std.specs.Prelude.{drop, slice_index, replicate, All, Result, Ok, Err, if◌then◌else◌}
use Rattle.byteorder.specs.Endian.{little_bytes, little_number}
use Rattle.tdisp_codec.specs.declared.fault.TdispFault.{TdispFault}
use Rattle.tdisp_codec.specs.declared.reply.ReplyView.{ReplyView}
use Rattle.tdisp_codec.specs.declared.reply.ReplyView.TheVariants as views
use Rattle.tdisp_codec.specs.Messages.{IsIgnored, SpellsMessage, message_spelling, type_in, function_field, body_in}
use Rattle.tdisp_codec.specs.Messages.{message_fault, read_or}

-- a reply as a value: lent bytes are the bytes
pub data Reply : Type 0 where
  Version : ℕ → List ℕ → Reply
  Capabilities : ℕ → ℕ → List ℕ → ℕ → ℕ → ℕ → ℕ → Reply
  LockInterface : ℕ → List ℕ → Reply
  DeviceInterfaceReport : ℕ → ℕ → List ℕ → Reply
  DeviceInterfaceState : ℕ → ℕ → Reply
  StartInterface : ℕ → Reply
  StopInterface : ℕ → Reply
  BindP2p : ℕ → Reply
  UnbindP2p : ℕ → Reply
  Error : ℕ → ℕ → ℕ → Reply

abbrev pub reply_shown : ReplyView → Reply
reply_shown (views.Version function versions) = Version function versions.now
reply_shown (views.Capabilities function device requests lock_flags width this all) =
    Capabilities function device requests lock_flags width this all
reply_shown (views.LockInterface function nonce) = LockInterface function nonce
reply_shown (views.DeviceInterfaceReport function remainder portion) = DeviceInterfaceReport function
    remainder portion.now
reply_shown (views.DeviceInterfaceState function state) = DeviceInterfaceState function state
reply_shown (views.StartInterface function) = StartInterface function
reply_shown (views.StopInterface function) = StopInterface function
reply_shown (views.BindP2p function) = BindP2p function
reply_shown (views.UnbindP2p function) = UnbindP2p function
reply_shown (views.Error function code value) = Error function code value

-- what `reply_read` answers, with the value in the view's place
abbrev pub reply_answer : Result ReplyView TdispFault → Result Reply TdispFault
reply_answer (Ok view) = Ok (reply_shown view)
reply_answer (Err fault) = Err fault

abbrev pub reply_type : Reply → ℕ
reply_type (Version function versions) = 0x01
reply_type (Capabilities function device requests lock_flags width this all) = 0x02
reply_type (LockInterface function nonce) = 0x03
reply_type (DeviceInterfaceReport function remainder portion) = 0x04
reply_type (DeviceInterfaceState function state) = 0x05
reply_type (StartInterface function) = 0x06
reply_type (StopInterface function) = 0x07
reply_type (BindP2p function) = 0x08
reply_type (UnbindP2p function) = 0x09
reply_type (Error function code value) = 0x7f

abbrev pub reply_function : Reply → ℕ
reply_function (Version function versions) = function
reply_function (Capabilities function device requests lock_flags width this all) = function
reply_function (LockInterface function nonce) = function
reply_function (DeviceInterfaceReport function remainder portion) = function
reply_function (DeviceInterfaceState function state) = function
reply_function (StartInterface function) = function
reply_function (StopInterface function) = function
reply_function (BindP2p function) = function
reply_function (UnbindP2p function) = function
reply_function (Error function code value) = function

-- how many bytes of its body are reserved
abbrev pub reply_reserved : Reply → ℕ
reply_reserved (Capabilities function device requests lock_flags width this all) = 3
reply_reserved reply = 0

-- its body, with these bytes in the reserved places
abbrev pub reply_body : Reply → List ℕ → List ℕ
reply_body (Version function versions) reserved = length versions ∷ versions
reply_body (Capabilities function device requests lock_flags width this all) reserved =
    little_bytes 4 device ++ (requests ++ (little_bytes 2 lock_flags ++ (reserved ++ (width ∷ this ∷ all ∷ []))))
reply_body (LockInterface function nonce) reserved = nonce
reply_body (DeviceInterfaceReport function remainder portion) reserved =
    little_bytes 2 (length portion) ++ (little_bytes 2 remainder ++ portion)
reply_body (DeviceInterfaceState function state) reserved = state ∷ []
reply_body (Error function code value) reserved = little_bytes 4 code ++ little_bytes 4 value
reply_body reply reserved = []

-- as it is written, with 0 in the reserved bytes
abbrev pub reply_spelling : Reply → List ℕ
reply_spelling reply =
    message_spelling (reply_type reply) (reply_function reply) (reply_body reply (replicate (reply_reserved reply) 0))

-- its lists are no longer than their counts can say
abbrev pub IsCountedReply : Reply → Type 0
IsCountedReply (Version function versions) = length versions < 256
IsCountedReply (DeviceInterfaceReport function remainder portion) = length portion < 2 ^ 16
IsCountedReply reply = Unit {0}

-- the fields of the body have their widths
abbrev pub FitsReplyBody : Reply → Type 0
FitsReplyBody (Version function versions) = All (λ b. b < 256) versions
FitsReplyBody (Capabilities function device requests lock_flags width this all) =
    (device < 2 ^ 32) × (length requests ≡ 16) × All (λ b. b < 256) requests × (lock_flags < 2 ^ 16) × (width < 256)
    × (this < 256) × (all < 256)
FitsReplyBody (LockInterface function nonce) = (length nonce ≡ 32) × All (λ b. b < 256) nonce
FitsReplyBody (DeviceInterfaceReport function remainder portion) = (remainder < 2 ^ 16) × All (λ b. b < 256) portion
FitsReplyBody (DeviceInterfaceState function state) = state < 256
FitsReplyBody (Error function code value) = (code < 2 ^ 32) × (value < 2 ^ 32)
FitsReplyBody reply = Unit {0}

abbrev pub FitsReply : Reply → Type 0
FitsReply reply = (reply_function reply < 2 ^ 32) × IsCountedReply reply × FitsReplyBody reply

-- the bytes are the reply's, but for the reserved ones, which may hold anything
pub record SpellsReply (reply : Reply) (bytes : List ℕ) : Type 0 where
  pub fits : FitsReply reply
  pub reserved : IsIgnored (reply_reserved reply)
  pub message : SpellsMessage (reply_type reply) (reply_function reply) (reply_body reply reserved.bytes) bytes

-- ---- reading

abbrev pub is_reply : ℕ → Bool
is_reply type = (nat_le 0x01 type && nat_le type 0x09) || (type == 0x7f)

-- how long the body is, by the type and its own first bytes, which count as 0 if they are missing
abbrev pub reply_size : ℕ → List ℕ → ℕ
reply_size type body =
    if type == 0x01 then 1 + slice_index body 0
    else if type == 0x02 then 28
    else if type == 0x03 then 32
    else if type == 0x04 then 4 + little_number 2 body
    else if type == 0x05 then 1
    else if type == 0x7f then 8
    else 0

-- the fields of CAPABILITIES: those up to the requests, and those after them
abbrev pub capabilities_from : ℕ → List ℕ → List ℕ → Reply
capabilities_from function body rest =
    Capabilities function (little_number 4 body) (take 16 (drop 4 body)) (little_number 2 rest) (slice_index rest 5)
    (slice_index rest 6) (slice_index rest 7)

abbrev pub typed_reply : ℕ → ℕ → List ℕ → Reply
typed_reply type function body =
    if type == 0x01 then Version function (drop 1 body)
    else if type == 0x02 then capabilities_from function body (drop 20 body)
    else if type == 0x03 then LockInterface function (take 32 body)
    else if type == 0x04 then DeviceInterfaceReport function (little_number 2 (drop 2 body)) (drop 4 body)
    else if type == 0x05 then DeviceInterfaceState function (slice_index body 0)
    else if type == 0x06 then StartInterface function
    else if type == 0x08 then BindP2p function
    else if type == 0x09 then UnbindP2p function
    else if type == 0x7f then Error function (little_number 4 body) (little_number 4 (drop 4 body))
    else StopInterface function

abbrev pub decoded_reply : List ℕ → Reply
decoded_reply bytes = typed_reply (type_in bytes) (function_field bytes) (body_in bytes)

-- the reply, or the first fault
abbrev pub reply_reading : List ℕ → Result Reply TdispFault
reply_reading bytes =
    read_or (decoded_reply bytes) (message_fault (is_reply (type_in bytes))
    (17 + reply_size (type_in bytes) (body_in bytes)) bytes)
