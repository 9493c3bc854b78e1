-- The bytes that a line of a packet file spells.
use Rattle.std.specs.Prelude.{nat_lt, List, [], ◌∷◌, length, not, Option, Some, None, Result, Ok, Err, if◌then◌else◌}
use Rattle.std.specs.List.{list_all}
use Rattle.std.specs.Option.{ok_or, option_map}
use Rattle.script_events.specs.declared.fault.LineFault.{LineFault}
use Rattle.script_events.specs.declared.fault.LineFault.TheVariants.{Hex, TooLong, NotAscii}
use Rattle.ide_types.specs.Names.{Text, is_printable}
use Rattle.script_events.specs.Words.{line_limit, words_in, bytes_in}

-- one word of bytes; no words are no bytes to be shown
abbrev pub only_bytes : List Text → Result (Option Text) LineFault
only_bytes [] = Ok None
only_bytes (word ∷ []) = ok_or (option_map (λ bytes. Some bytes) (bytes_in word)) Hex
only_bytes (word ∷ other ∷ rest) = Err Hex

-- the bytes, none on a line of spaces, or the first fault
abbrev pub packet_meaning : Text → Result (Option Text) LineFault
packet_meaning line =
    if nat_lt line_limit (length line) then Err TooLong
    else if not (list_all is_printable line) then Err NotAscii
    else only_bytes (words_in line)
