-- No byte of a locked interface's closed memory leaves its device without T, and none in another RUN than that in which
-- it was asked for.
use Rattle.std.specs.Prelude.{ℕ, ◌≡◌, ◌≤◌, ◌<◌, ◌∷◌, true, false, [], Some}
use Rattle.spec_links.specs.Terms.{Plan, Event, Access, Verdict, Sealed, SealedPacket, History}
use Rattle.spec_interfaces.specs.Devices.{interface_at, runs_at, locks_accepted}
use Rattle.spec_interfaces.specs.Floors.{device_floor}
use Rattle.interface_state.specs.Machine.{all_bindings}
use Rattle.interface_state.specs.Bindings.{floor_on}
use Rattle.guarded_memory.specs.Statuses.{has_open_range, is_config_unlocked, state_of_interface}
use Rattle.trusted_memory.specs.Spans.{span_byte_count, is_enabled}
use Rattle.script_events.specs.declared.event.AccessEvent.TheVariants as ae
use Rattle.law_device_reads.specs.Oldest.{IsOldestAtDevice, WasQueued}
use Rattle.law_device_reads.specs.DeviceReads.{IsResponse}

-- The interface is in RUN, and bound to the packet's stream; the packet has T, and a draw from the floor there on. The
-- read was queued under the lock that stands.
pub record IsGuarded (plan : Plan) (h : History) (link : ℕ) (of : IsOldestAtDevice plan h link) (d : SealedPacket)
    : Type 0 where
  pub trusted : d.t ≡ true
  pub runs : runs_at plan h of.interface ≡ true
  pub floor : ℕ
  pub bound : floor_on d.stream (all_bindings (device_floor plan h of.interface) (interface_at plan h of.interface))
      ≡ Some floor
  pub from_floor : floor ≤ d.draw
  pub queued : WasQueued plan h link of.read
  pub same_lock : locks_accepted plan queued.older of.interface ≡ locks_accepted plan h of.interface

-- what a response seals that shows a byte of a range that is not open, of an interface that is not in CONFIG_UNLOCKED
abbrev pub ExposesGuarded : Plan → History → Event → Verdict → Type 0
ExposesGuarded plan h (Access (ae.Respond link)) (Sealed ds) =
    (is : IsResponse plan h link ds) (i : ℕ) → i < span_byte_count is.of.read.read.span
    → is_enabled is.of.read.read.span i ≡ true
    → has_open_range is.of.interface.plan.bars is.of.target.bar ≡ false
    → is_config_unlocked (state_of_interface (interface_at plan h is.of.interface).state) ≡ false
    → IsGuarded plan h link is.of is.sealed.last
ExposesGuarded plan h e w = Unit {0}

abbrev pub ExposureLaw : Plan → History → Type 0
ExposureLaw plan [] = Unit {0}
ExposureLaw plan ((e, w) ∷ h) = ExposesGuarded plan h e w × ExposureLaw plan h
