-- Words, numbers, bytes and ports as scripts spell them.
use Rattle.std.specs.Prelude.{ℕ, ◌==◌, ◌-◌, ◌^◌, ◌&&◌, nat_eq, nat_le, nat_lt, Bool, not, List, [], ◌∷◌, ◌++◌, length}
use Rattle.std.specs.Prelude.{drop, filter, Option, Some, None, if◌then◌else◌, codes}
use Rattle.std.specs.List.{slice_split, list_all, starts_with}
use Rattle.std.specs.Result.{result_ok}
use Rattle.std.specs.Option.{option_and_then}
use Rattle.std.specs.Char.{digit_value}
use Rattle.std.specs.Fmt.{decimal}
use Rattle.std.specs.Str.{bytes_eq}
use Rattle.std.specs.Str.Parse.{digits_value}
use Rattle.hex.specs.Hex.{decode_of, decode_sized}
use Rattle.ide_types.specs.declared.port.Side.TheVariants.{Host, Device}
use Rattle.ide_types.specs.Names.{Text, joined_words}
use Rattle.ide_types.specs.Ports.{host_port, device_port}
use Rattle.ide_types.specs.Lines.{near_hop_line, far_hop_line}
use Rattle.script_events.specs.Terms.{Lost, Request, Reply, LineFault, Word, Count, Number, Hex, TooLong, NotAscii}
use Rattle.ide_types.specs.declared.port.PortName.{PortName}

-- how many bytes a line may have, its line feed aside
abbrev pub line_limit : ℕ
line_limit = 20000

-- ---- words

-- the words between spaces
abbrev pub words_in : Text → List Text
words_in line = filter (λ w. not (length w == 0)) (slice_split (λ b. b == 32) line)

-- ---- numbers

abbrev pub is_digit : ℕ → ℕ → Bool
is_digit radix b = nat_lt (digit_value b) radix

-- the number that digits write, at least one, below 2 ^ 64
abbrev pub some_digits_value : ℕ → Text → Option ℕ
some_digits_value radix ds =
    if nat_le 1 (length ds) && list_all (is_digit radix) ds && nat_lt (digits_value radix ds) (2 ^ 64)
    then Some (digits_value radix ds) else None

-- the number that 1 to so many digits write
abbrev pub digits_in : ℕ → ℕ → Text → Option ℕ
digits_in radix most ds = if nat_le (length ds) most then some_digits_value radix ds else None

-- 0x and 1 to 16 hexadecimal digits, or 1 to 20 decimal digits
unfoldable pub number_of_word : Text → Option ℕ
number_of_word w = if starts_with nat_eq w (codes "0x") then digits_in 16 16 (drop 2 w) else digits_in 10 20 w

abbrev pub only_byte : List ℕ → Option ℕ
only_byte (b ∷ []) = Some b
only_byte _ = None

-- two hexadecimal digits
unfoldable pub mask_in : Text → Option ℕ
mask_in w = option_and_then only_byte (result_ok (decode_sized w 1))

-- ---- bytes

-- pairs of hexadecimal digits, or - for no bytes
unfoldable pub bytes_in : Text → Option (List ℕ)
bytes_in w = if bytes_eq w (codes "-") then Some [] else result_ok (decode_of w)

-- ---- ports

-- h or d, and a link of 0 to 7
unfoldable pub port_of_word : Text → Option PortName
port_of_word (s ∷ d ∷ []) =
    if not (nat_le 48 d && nat_le d 55) then None
    else if s == 104 then Some (record { side = Host; line = d - 48 })
    else if s == 100 then Some (record { side = Device; line = d - 48 })
    else None
port_of_word _ = None

-- one of these, or u or w: the port of the link's switch towards the host, or towards the device
unfoldable pub any_port_of_word : Text → Option PortName
any_port_of_word (s ∷ d ∷ []) =
    if not (nat_le 48 d && nat_le d 55) then None
    else if s == 104 then Some (host_port (d - 48))
    else if s == 100 then Some (device_port (d - 48))
    else if s == 117 then Some (device_port (near_hop_line (d - 48)))
    else if s == 119 then Some (host_port (far_hop_line (d - 48)))
    else None
any_port_of_word _ = None

-- ---- what is lost of an exchange

abbrev pub lost_of_word : Text → Option Lost
lost_of_word w =
    if bytes_eq w (codes "request") then Some Request
    else if bytes_eq w (codes "reply") then Some Reply
    else None

-- ---- a line that spells no event

abbrev pub line_fault_word : LineFault → Text
line_fault_word Word = codes "word"
line_fault_word Count = codes "count"
line_fault_word Number = codes "number"
line_fault_word Hex = codes "hex"
line_fault_word TooLong = codes "toolong"
line_fault_word NotAscii = codes "notascii"

-- the last line at a line of the script, counted from 1, that spells no event
abbrev pub fault_line_of : ℕ → LineFault → Text
fault_line_of line cause = codes "refused" ++ joined_words (decimal line ∷ line_fault_word cause ∷ [])
