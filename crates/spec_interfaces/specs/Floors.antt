-- How the interfaces of each link's device stand over whole histories: the least draw that each takes trusted writes
-- under, and its state, ranges and bound stream (this profile).
use Rattle.std.specs.Prelude.{ℕ, zero, suc, ◌+◌, ◌-◌, ◌==◌, ◌&&◌, not, Bool, false, if◌then◌else◌, List, [], ◌∷◌}
use Rattle.std.specs.Prelude.{length, map, filter, slice_get, Option}
use Rattle.spec_keys.specs.Places.{KeyPlace}
use Rattle.spec_keys.specs.History.{place_keys}
use Rattle.ide_types.specs.declared.sub.SubKind.TheVariants.{Pr}
use Rattle.guarded_memory.specs.declared.status.InterfaceStatus.{InterfaceStatus}
use Rattle.guarded_memory.specs.Statuses.{interface_status}
use Rattle.spec_interfaces.specs.Terms.{Device, Plan, LinkPlan, Event, History}
use Rattle.spec_interfaces.specs.Sites.{Site, sites}
pub use Rattle.spec_interfaces.specs.Peers.{greatest_on}
use Rattle.spec_interfaces.specs.Devices.{interface_at, runs_at}
use Rattle.script_events.specs.declared.event.Event.TheVariants as event
use Rattle.script_events.specs.declared.event.InterfaceEvent.TheVariants as ie

-- ---- the draw at the device

-- where the device receives posted requests on the interface's stream
abbrev pub posted_receiver : Site → KeyPlace
posted_receiver x = record { side = Device; line = x.link; stream = x.plan.stream; sends = false; sub = Pr }

abbrev pub draw_at_device : History → Site → ℕ
draw_at_device h x = greatest_on (place_keys h (posted_receiver x))

-- ---- the floor

-- the draw, at a start of the interface that brings it into RUN; at any other event as it was
abbrev pub floor_after_event : Event → Site → Bool → Bool → ℕ → ℕ → ℕ
floor_after_event (event.Interface (ie.Start i loss)) x ran runs draw floor =
    if (i == x.number) && (not ran && runs) then draw else floor
floor_after_event e x ran runs draw floor = floor

-- the least draw that the device takes trusted writes to the interface under; 0 before its first start
unfoldable pub device_floor : Plan → History → Site → ℕ
device_floor plan [] x = 0
device_floor plan ((e, w) ∷ h) x =
    floor_after_event e x (runs_at plan h x) (runs_at plan ((e, w) ∷ h) x) (draw_at_device h x) (device_floor plan h x)

-- ---- the interfaces of a link

-- in order
abbrev pub link_sites : Plan → ℕ → List Site
link_sites plan link = filter (λ x. x.link == link) (sites plan)

-- the one at a place on its link, from 0
abbrev pub site_on : Plan → ℕ → ℕ → Option Site
site_on plan link place = slice_get (link_sites plan link) place

-- how many interfaces are on the links before this one
abbrev pub interfaces_before : List LinkPlan → ℕ → ℕ
interfaces_before [] link = 0
interfaces_before (l ∷ ls) zero = 0
interfaces_before (l ∷ ls) (suc link) = length l.interfaces + interfaces_before ls link

-- the place of an interface on its link, from 0
abbrev pub place_of : Plan → Site → ℕ
place_of plan x = x.number - interfaces_before plan.links x.link

-- how they stand
abbrev pub device_status : Plan → History → Site → InterfaceStatus
device_status plan h x = interface_status (interface_at plan h x) (device_floor plan h x)

abbrev pub history_statuses : Plan → History → ℕ → List InterfaceStatus
history_statuses plan h link = map (device_status plan h) (link_sites plan link)
