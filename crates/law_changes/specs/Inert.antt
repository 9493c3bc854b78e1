-- What changes nothing: a verdict by which nothing was there, nothing was taken, or an event was refused before its
-- first exchange, and one that shows a packet, a status, a view or bytes.
use Rattle.std.specs.Prelude.{◌≡◌, ◌∷◌, Bool, true, false, ℕ}
use Rattle.spec_links.specs.Terms.{Plan, Event, Verdict, History, Site, base}
use Rattle.spec_links.specs.HopLaws.{IsUnchanged}
use Rattle.spec_interfaces.specs.Views.{stream_draw}
use Rattle.spec_interfaces.specs.Devices.{locks_accepted, used_at}
unfoldable use Rattle.spec_interfaces.specs.Floors.{device_floor}
use Rattle.ide_types.specs.declared.verdict.InterfaceVerdict.{InterfaceVerdict}
use Rattle.event_verdicts.specs.declared.access.AccessVerdict.{AccessVerdict}
use Rattle.law_locks.specs.Fronts.{AtPairs}
use Rattle.ide_types.specs.declared.verdict.InterfaceVerdict.TheVariants as iv
use Rattle.event_verdicts.specs.declared.access.AccessVerdict.TheVariants as av
use Rattle.event_verdicts.specs.declared.verdict.Verdict.TheVariants as v

-- of an event on an interface: it is refused, or its view or bytes of memory are shown
abbrev pub is_inert_on_interface : InterfaceVerdict → Bool
is_inert_on_interface (iv.RefusedWrongState view) = true
is_inert_on_interface iv.RefusedNotReported = true
is_inert_on_interface (iv.RefusedRefreshFirst draw needed) = true
is_inert_on_interface (iv.View i view) = true
is_inert_on_interface (iv.Memory bytes) = true
is_inert_on_interface w = false

-- of a read that waits, or of a device's memory: no read waits, or bytes are shown
abbrev pub is_inert_access : AccessVerdict → Bool
is_inert_access (av.Empty link) = true
is_inert_access (av.Mmio bytes) = true
is_inert_access w = false

abbrev pub is_inert : Verdict → Bool
-- what the event names is not there
is_inert v.Nothing = true
-- bytes that no stream takes, at a port
is_inert (v.Malformed port fault place) = true
is_inert (v.Plain port) = true
is_inert (v.Unknown port stream) = true
is_inert (v.Insecure port stream) = true
is_inert (v.NotKeyed port stream sub) = true
is_inert (v.Through port) = true
-- refusals of a send
is_inert v.RefusedInsecure = true
is_inert (v.RefusedNoKey sub) = true
is_inert v.RefusedUnfinished = true
is_inert (v.RefusedWorn sub units) = true
-- refusals of an operation before its first exchange
is_inert v.RefusedNotIdle = true
is_inert (v.RefusedNotSecure status) = true
is_inert (v.RefusedPoolEmpty draws) = true
is_inert (v.RefusedBusy kind operation) = true
is_inert (v.RefusedUnitOpen sub) = true
-- a packet, a status, a view or bytes are shown
is_inert (v.Packet packet bytes) = true
is_inert (v.Status line stream host device) = true
is_inert (v.Interface w) = is_inert_on_interface w
is_inert (v.Access w) = is_inert_access w
is_inert w = false

-- All is as it was: what a switch leaves so by passing bytes on, and the first draw and the draw of each stream, how
-- often each interface was locked, the nonces that each device gave, and the floors that devices keep.
pub record IsAsBefore (plan : Plan) (h : History) (e : Event) (w : Verdict) : Type 0 where
  pub unchanged : IsUnchanged plan h e w
  pub bases : (line stream : ℕ) → base ((e, w) ∷ h) line stream ≡ base h line stream
  pub draws : (line stream : ℕ) → stream_draw ((e, w) ∷ h) line stream ≡ stream_draw h line stream
  pub locks : (x : Site) → locks_accepted plan ((e, w) ∷ h) x ≡ locks_accepted plan h x
  pub nonces : (link : ℕ) → used_at plan ((e, w) ∷ h) link ≡ used_at plan h link
  pub floors : (x : Site) → device_floor plan ((e, w) ∷ h) x ≡ device_floor plan h x

abbrev pub ChangesNothing : Plan → History → Event → Verdict → Type 0
ChangesNothing plan h e w = is_inert w ≡ true → IsAsBefore plan h e w

-- at each pair
abbrev pub InertLaw : Plan → History → Type 0
InertLaw plan h = AtPairs (ChangesNothing plan) h
