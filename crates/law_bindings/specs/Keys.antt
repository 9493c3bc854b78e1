-- The key that an interface is bound under (PCI Express Base 6.0 section 6.33 and chapter 11, in this profile).
use Rattle.std.specs.Prelude.{◌≡◌, ◌≢◌, ℕ, Bool, true, Some, nat_le, slice_get}
use Rattle.ide_types.specs.declared.plan.Plan.{Plan}
use Rattle.spec_keys.specs.History.{History, kept_draw, draw_on_at}
use Rattle.spec_keys.specs.Places.{KeyPlace}
use Rattle.interface_state.specs.Bindings.{floor_on}
use Rattle.spec_interfaces.specs.Terms.{PortName}
use Rattle.spec_interfaces.specs.Sites.{Site, site_at}
use Rattle.spec_interfaces.specs.Peers.{peer_end, receiver_at}
use Rattle.spec_interfaces.specs.Views.{stream_draw}
use Rattle.spec_interfaces.specs.Devices.{interface_at}
use Rattle.spec_links.specs.Terms.{Event, Verdict, Accepted, Effect}
use Rattle.law_locks.specs.Fronts.{AtEach, AtPairs}
use Rattle.event_verdicts.specs.declared.verdict.BlockCause.TheVariants.{Stale}
use Rattle.event_verdicts.specs.declared.verdict.Effect.TheVariants.{Blocked}

-- The floor is On where the interface's device receives posted requests on the stream; it is the draw of the stream's
-- last establish, and no place of the stream keeps another.
pub record IsBoundUnder (plan : Plan) (h : History) (x : Site) (stream floor : ℕ) : Type 0 where
  pub end : PortName
  pub at_device : peer_end plan.peers 0 x.link stream ≡ Some end
  pub set : Bool
  pub on : draw_on_at h (receiver_at end stream) set ≡ Some floor
  pub draw_is : stream_draw h end.line stream ≡ floor
  pub only : (p : KeyPlace) (other : Bool) (j : ℕ) → p.line ≡ end.line → p.stream ≡ stream
      → kept_draw h p other ≡ Some j → j ≡ floor

-- so of the floor of each binding
abbrev pub AreBoundUnder : Plan → History → Type 0
AreBoundUnder plan h = (i : ℕ) (x : Site) (stream floor : ℕ) → site_at plan i ≡ Some x
    → floor_on stream (interface_at plan h x).bindings ≡ Some floor → IsBoundUnder plan h x stream floor

abbrev pub BindingsHoldKeys : Plan → History → Type 0
BindingsHoldKeys plan h = AtEach (AreBoundUnder plan) h

-- so no packet of a unit that an end of such a stream accepted is blocked as stale
abbrev pub NoneIsStale : Plan → History → Event → Verdict → Type 0
NoneIsStale plan h e (Accepted end unit effects) =
    nat_le 24 end.line ≡ true → (n : ℕ) (effect : Effect) → slice_get effects n ≡ Some effect → effect ≢ Blocked Stale
NoneIsStale plan h e w = Unit {0}

abbrev pub PeersAreNeverStale : Plan → History → Type 0
PeersAreNeverStale plan h = AtPairs (NoneIsStale plan) h
