-- The forms that generated events have.
use Rattle.std.specs.Prelude.{◌≡◌, ◌<◌, ◌^◌, false, length, None}
use Rattle.std.specs.List.{AllByRecursion}
use Rattle.ide_types.specs.Ports.{device_port}
use Rattle.script_events.specs.declared.event.Event.{Event}
use Rattle.script_events.specs.declared.event.Event.TheVariants as event
use Rattle.script_events.specs.declared.event.InterfaceEvent.{InterfaceEvent}
use Rattle.script_events.specs.declared.event.InterfaceEvent.TheVariants as interface

-- operations on interface 0 in which nothing is lost, and 16 bytes at the beginning of the memory
abbrev pub IsInterfaceForm : InterfaceEvent → Type 0
IsInterfaceForm (interface.Lock i lose) = (i ≡ 0) × (lose ≡ None)
IsInterfaceForm (interface.Report i lose) = (i ≡ 0) × (lose ≡ None)
IsInterfaceForm (interface.Start i lose) = (i ≡ 0) × (lose ≡ None)
IsInterfaceForm (interface.Halt i lose) = (i ≡ 0) × (lose ≡ None)
IsInterfaceForm (interface.Memory address len) = (address ≡ 268435456) × (len ≡ 16)
IsInterfaceForm _ = ⊥

-- A form of generated events: an operation on stream 5 of link 0 in which nothing is lost, 16 bytes that are sent at
-- the device's port, or a packet that arrives unchanged, with its byte 1 altered by 20h, or its first 5 bytes alone;
-- and those of an interface and of memory.
abbrev pub IsForm : Event → Type 0
IsForm (event.Establish link stream lose) = (link ≡ 0) × (stream ≡ 5) × (lose ≡ None)
IsForm (event.Refresh link stream lose) = (link ≡ 0) × (stream ≡ 5) × (lose ≡ None)
IsForm (event.Stop link stream lose) = (link ≡ 0) × (stream ≡ 5) × (lose ≡ None)
IsForm (event.Send port bytes more trusted) = (port ≡ device_port 0) × (length bytes ≡ 16)
    × AllByRecursion (λ b. b < 256) bytes × (more ≡ false) × (trusted ≡ false)
IsForm (event.Pass packet) = packet < 2 ^ 64
IsForm (event.Alter packet at mask) = (packet < 2 ^ 64) × (at ≡ 1) × (mask ≡ 32)
IsForm (event.Cut packet len) = (packet < 2 ^ 64) × (len ≡ 5)
IsForm (event.Interface e) = IsInterfaceForm e
IsForm _ = ⊥
