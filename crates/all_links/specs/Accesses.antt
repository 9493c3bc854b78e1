-- What stands at each link beside its ports and interfaces, by an interface's number.
use Rattle.std.specs.Prelude.{ℕ, Option, slice_get, Bool, true, false}
use Rattle.std.specs.Option.{option_map_or, option_and_then}
use Rattle.ide_types.specs.declared.sub.SubKind.TheVariants.{Pr}
use Rattle.event_verdicts.specs.declared.verdict.Verdict.{Verdict}
use Rattle.event_verdicts.specs.declared.verdict.Verdict.TheVariants as v
use Rattle.interface_state.specs.Machine.{DeviceTdi}
use Rattle.spec_interfaces.specs.Devices.{is_run}
use Rattle.ide_port.specs.{receiving_draw_in}
use Rattle.line_arrivals.specs.{LinkEnds}
pub use Rattle.line_arrivals.specs.{reads_at, floors_at, sizes_at, mmio_at, statuses_of_ends, policy_in, AreLeftBy}
pub use Rattle.line_arrivals.specs.{AccessesTurn, AccessesStay, same_reads, same_floors, nothing_happens}
pub use Rattle.line_arrivals.specs.{carried_on_link, same_carried, Brings}
use Rattle.all_links.specs.declared.links.Links.{Links}
use Rattle.all_links.specs.Interfaces.{interface_named, interface_of_ends}

-- ---- an interface of a number

-- the draw that an interface of a link begins with: the greatest that is Live at its device's receiver of posted
-- requests of its stream, else 0
abbrev pub planned_stream : Links → ℕ → ℕ
planned_stream s i = option_map_or (λ x. x.stream) (slice_get s.keeper.interfaces.interfaces i) 0

abbrev pub device_draw : Links → ℕ → ℕ → ℕ
device_draw s i link =
    option_map_or (λ (draw : ℕ). draw)
    (option_and_then (λ (l : LinkEnds). receiving_draw_in l.device.port (planned_stream s i) Pr)
    (slice_get s.ends.links link)) 0

-- the interface at a place is in RUN
abbrev pub place_runs : Links → Option (ℕ × ℕ) → Bool
place_runs s at =
    option_map_or (λ (t : DeviceTdi). is_run t.state) (option_and_then (interface_of_ends s.ends.links) at) false

abbrev pub runs_in : Links → ℕ → Bool
runs_in s i = place_runs s (interface_named s.keeper.interfaces s.ends.links i)

-- ---- sends

-- a verdict of neither an arrival nor a reset
abbrev pub is_sending : Verdict → Bool
is_sending (v.Accepted port unit effects) = false
is_sending (v.Reset link) = false
is_sending verdict = true
