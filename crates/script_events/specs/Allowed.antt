-- Events that a script may come to.
use Rattle.std.specs.Prelude.{◌≡◌, ◌<◌, ◌^◌, true, length}
use Rattle.ide_types.specs.declared.port.Side.TheVariants.{Host}
use Rattle.ide_types.specs.Lines.{is_link_line, is_port, is_sending_port}
use Rattle.script_events.specs.declared.event.Event.{Event}
use Rattle.script_events.specs.declared.event.Event.TheVariants.{Send, Arrive, Interface, Access}
use Rattle.script_events.specs.Interfaces.{IsAllowedInterface}
use Rattle.script_events.specs.Accesses.{IsAllowedAccess}

-- A host's or a device's port sends, or a device on a stream between devices; trusted is asked of a host's port alone;
-- bytes arrive at a port of a host, a device or a switch; and a place in the event's bytes has at most 64 bits. A value
-- has room in its register, 1 to 256 bytes are shown, and what an interface is bound to is a stream between devices.
abbrev pub IsAllowed : Event → Type 0
IsAllowed (Send port bytes more trusted) = (is_sending_port port ≡ true)
    × (trusted ≡ true → (port.side ≡ Host) × (is_link_line port.line ≡ true)) × (length bytes < 2 ^ 64)
IsAllowed (Arrive port bytes) = (is_port port ≡ true) × (length bytes < 2 ^ 64)
IsAllowed (Interface event) = IsAllowedInterface event
IsAllowed (Access event) = IsAllowedAccess event
IsAllowed _ = Unit {0}
