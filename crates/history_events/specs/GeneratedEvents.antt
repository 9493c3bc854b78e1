-- The events that a seed and a number of rounds give.
use Rattle.std.specs.Prelude.{◌≤◌, ◌+◌, ◌*◌, ◌/◌, ◌%◌, ◌==◌, ℕ, zero, suc, nat_lt, false, List, [], ◌∷◌, ◌++◌, Option}
use Rattle.std.specs.Prelude.{Some, None, if◌then◌else◌}
use Rattle.ide_types.specs.Ports.{device_port}
use Rattle.script_events.specs.declared.event.Event.{Event}
use Rattle.script_events.specs.declared.event.Event.TheVariants as event
use Rattle.script_events.specs.declared.event.InterfaceEvent.TheVariants as interface
use Rattle.history_events.specs.declared.numbers.Numbers.{Numbers}
use Rattle.history_events.specs.declared.round.Round.{Round}
use Rattle.history_events.specs.declared.step.Step.{Step}
use Rattle.history_events.specs.declared.step.Step.TheVariants as step
use Rattle.history_events.specs.GeneratedTopology.{byte_of_weight}

-- ---- numbers: a linear congruence, and the upper 16 bits of each number

abbrev pub following_number : ℕ → ℕ
following_number x = (1664525 * x + 1013904223) % 4294967296

abbrev pub value_of : ℕ → ℕ
value_of x = x / 65536

-- x of the recurrence, the packets sealed, the packet that arrives next, and the posted packets since a sync packet
abbrev pub first_numbers : ℕ → Numbers
first_numbers seed = record { x = seed; packets = 0; arriving = 1; posted = 0 }

-- a posted packet more; after 255 of them two sync packets go before it
abbrev pub numbers_with_packet : Numbers → Numbers
numbers_with_packet s =
    if s.posted == 255 then record s { packets = s.packets + 3; posted = 1 }
    else record s { packets = s.packets + 1; posted = s.posted + 1 }

-- all packets have arrived or never will
abbrev pub without_packets : Numbers → Numbers
without_packets s = record s { arriving = s.packets + 1; posted = 0 }

-- ---- events, of stream 5 of link 0, of interface 0 and of the memory at 10000000h

-- a memory write of requester 0100h with a header of 3 double words and all 4 bytes of one double word enabled, which
-- hold a value twice, at a place of 4,096 (PCI Express Base 6.0 section 2.2.7)
abbrev pub write_at : ℕ → ℕ → List ℕ
write_at address value =
    64 ∷ 0 ∷ 0 ∷ 1 ∷ 1 ∷ 0 ∷ 0 ∷ 15 ∷ byte_of_weight address 16777216 ∷ byte_of_weight address 65536
    ∷ byte_of_weight address 256
    ∷ byte_of_weight address 1
    ∷ byte_of_weight value 256 ∷ byte_of_weight value 1 ∷ byte_of_weight value 256 ∷ byte_of_weight value 1 ∷ []

abbrev pub write_bytes : ℕ → ℕ → List ℕ
write_bytes place value = write_at (268435456 + 4 * (place % 4096)) value

abbrev pub refresh : Event
refresh = event.Refresh 0 5 None

abbrev pub shown_memory : Event
shown_memory = event.Interface (interface.Memory 268435456 16)

abbrev pub pass : ℕ → Event
pass packet = event.Pass packet

abbrev pub alter : ℕ → Event
alter packet = event.Alter packet 1 32

abbrev pub cut_event : ℕ → Event
cut_event packet = event.Cut packet 5

-- ---- steps

abbrev pub step_event : Step → Event
step_event step.Stop = event.Stop 0 5 None
step_event step.Halt = event.Interface (interface.Halt 0 None)
step_event step.Establish = event.Establish 0 5 None
step_event step.Lock = event.Interface (interface.Lock 0 None)
step_event step.Report = event.Interface (interface.Report 0 None)
step_event step.Start = event.Interface (interface.Start 0 None)

abbrev pub step_after : Step → Option Step
step_after step.Stop = Some step.Halt
step_after step.Halt = Some step.Establish
step_after step.Establish = Some step.Lock
step_after step.Lock = Some step.Report
step_after step.Report = Some step.Start
step_after step.Start = None

-- keys, and the interface locked, reported and started
abbrev pub setting_up : List Event
setting_up = step_event step.Establish ∷ step_event step.Lock ∷ step_event step.Report ∷ step_event step.Start ∷ []

-- the events from a step on
abbrev pub events_from : Option Step → List Event
events_from None = []
events_from (Some step.Start) = step_event step.Start ∷ []
events_from (Some step.Report) = step_event step.Report ∷ step_event step.Start ∷ []
events_from (Some step.Lock) = step_event step.Lock ∷ step_event step.Report ∷ step_event step.Start ∷ []
events_from (Some step.Establish) = setting_up
events_from (Some step.Halt) = step_event step.Halt ∷ setting_up
events_from (Some step.Stop) = step_event step.Stop ∷ step_event step.Halt ∷ setting_up

-- ---- rounds

abbrev pub alone : Event → Numbers → Round
alone e s = record { event = e; ahead = None; numbers = s }

-- a memory write goes out at the device's port, at the place and with the value of the next two numbers
abbrev pub sending_round : Numbers → Round
sending_round s =
    let place = following_number s.x in
    let value = following_number place in
    alone (event.Send (device_port 0) (write_bytes (value_of place) (value_of value)) false false)
    (record (numbers_with_packet s) { x = value })

-- a packet arrives; after an altered one all is set up again
abbrev pub arrival : ℕ → Numbers → Round
arrival turn s =
    if nat_lt turn 13 then alone (pass s.arriving) (record s { arriving = s.arriving + 1 })
    else if turn == 14 then record { event = alter s.arriving; ahead = Some step.Stop; numbers = without_packets s }
    else alone (cut_event s.arriving) s

-- by the turn, of 16
abbrev pub round_by_turn : ℕ → Numbers → Round
round_by_turn turn s =
    if nat_lt turn 8 then sending_round s
    else if turn == 13 then alone refresh s
    else if nat_lt s.packets s.arriving then alone shown_memory s
    else arrival turn s

abbrev pub round_of : Numbers → Round
round_of s = round_by_turn (value_of (following_number s.x) % 16) (record s { x = following_number s.x })

abbrev pub round_events : Round → List Event
round_events r = r.event ∷ events_from r.ahead

abbrev pub event_rounds : ℕ → Numbers → List Event
event_rounds zero s = []
event_rounds (suc n) s = round_events (round_of s) ++ event_rounds n (round_of s).numbers

-- all events
abbrev pub generated_events : (seed count : ℕ) → List Event
generated_events seed count = setting_up ++ event_rounds count (first_numbers seed)

-- a round seals three packets at the most, and what arrives next was sealed or is sealed next
pub record RoundFits (s : Numbers) (r : Round) : Type 0 where
  pub packets : r.numbers.packets ≤ s.packets + 3
  pub arriving : r.numbers.arriving ≤ r.numbers.packets + 1
