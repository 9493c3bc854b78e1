-- Streams and interfaces by their numbers, and what a call of an interface gives.
use Rattle.std.specs.Prelude.{ℕ, suc, zero, ◌+◌, ◌-◌, nat_lt, nat_le, if◌then◌else◌, List, [], ◌∷◌, length, Option, Some, None}
use Rattle.std.specs.Prelude.{is_some, ◌&&◌}
use Rattle.std.specs.Option.{option_map}
use Rattle.ide_types.specs.Ports.{host_port}
use Rattle.key_host.specs.Managers.{ManagerView, named_stream}
use Rattle.interface_state.specs.Machine.{DeviceTdi, Call, interface_after_call, state_code}
use Rattle.link_ends.specs.declared.ends.LinkEnds.{LinkEnds}
use Rattle.all_ends.specs.Ends.{EndsView, port_on}

-- the line and the stream, if the line is there and has the stream
abbrev pub stream_named : ManagerView → EndsView → ℕ → ℕ → Option (ℕ × ℕ)
stream_named m v line stream =
    if nat_lt line 32 && nat_le stream 255 && is_some (port_on v (host_port line))
    && is_some (named_stream m line stream)
    then Some (line, stream) else None

-- the link and the place on it, of the links from this number on
abbrev pub place_on_links : ℕ → ℕ → List LinkEnds → Option (ℕ × ℕ)
place_on_links link n [] = None
place_on_links link n (l ∷ ls) =
    if nat_lt n (length l.device.interfaces.interfaces) then Some (link, n)
    else place_on_links (link + 1) (n - length l.device.interfaces.interfaces) ls

-- the number over the links of the interface at this place on one of them
abbrev pub number_on_links : List LinkEnds → ℕ → ℕ → Option ℕ
number_on_links [] link place = None
number_on_links (l ∷ ls) zero place =
    if nat_lt place (length l.device.interfaces.interfaces) then Some place else None
number_on_links (l ∷ ls) (suc link) place =
    option_map (λ (n : ℕ). length l.device.interfaces.interfaces + n) (number_on_links ls link place)

-- if it has room in 8 bits
abbrev pub small_number : ℕ → Option ℕ
small_number n = if nat_le n 255 then Some n else None

-- the state after a call
abbrev pub code_behind : DeviceTdi → Call → ℕ
code_behind tdi call = state_code (interface_after_call tdi call).state
