-- What verdicts show of statuses, packets, draws, views, states, needs and nonces is what the history gives.
use Rattle.std.specs.Prelude.{◌≡◌, ◌⊎◌, ◌∷◌, Bool, ℕ, true, Some, is_some}
use Rattle.ide_types.specs.declared.plan.Plan.{Plan}
use Rattle.ide_types.specs.RegisterNames.{has_register}
use Rattle.ide_prefix.specs.Packet.{Packet, packet_bytes}
use Rattle.spec_keys.specs.History.{History, op_of, history_status}
use Rattle.spec_keys.specs.Operations.{Up}
use Rattle.spec_links.specs.Plan.{stream_plan}
use Rattle.spec_links.specs.History.{sealed_packets, packet_by_number}
use Rattle.spec_interfaces.specs.Terms.{Event, InterfaceEvent, Verdict, SealedPacket, Host, Device, state_code}
use Rattle.spec_interfaces.specs.Sites.{Site, site_at, nonce_behind}
use Rattle.spec_interfaces.specs.Exchanges.{is_lost_at}
use Rattle.spec_interfaces.specs.Views.{view_at, needs_at, stream_draw, number_in}
use Rattle.spec_interfaces.specs.Devices.{interface_at, used_at}
use Rattle.law_locks.specs.Fronts.{AtPairs}
use Rattle.script_events.specs.declared.event.Event.TheVariants as event
use Rattle.script_events.specs.declared.event.InterfaceEvent.TheVariants as ie
use Rattle.event_verdicts.specs.declared.verdict.Verdict.TheVariants as v
use Rattle.ide_types.specs.declared.verdict.InterfaceVerdict.TheVariants as iv

-- ---- streams

-- it names the stream, and the draw under which the stream is Up from then on
pub record ShowsUp (h : History) (line stream shown_line shown_stream draw : ℕ) : Type 0 where
  pub line_is : shown_line ≡ line
  pub stream_is : shown_stream ≡ stream
  pub set : Bool
  pub up : op_of h line stream ≡ Up set draw
  pub draw_is : draw ≡ stream_draw h line stream

-- ---- interfaces

-- the code of the state that an interface is in after a history
abbrev pub code_at : Plan → History → Site → ℕ
code_at plan h x = state_code (interface_at plan h x).state

-- its one exchange is lost, or it shows this
abbrev pub IsLostOr : Verdict → Verdict → Type 0
IsLostOr w shown = (is_lost_at w 1 ≡ true) ⊎ (w ≡ shown)

-- Of an interface before an event, `before`, and after it, `after`: the view, the state, the least draw that its next
-- start needs, the nonce that comes next, and the draw of its stream.
abbrev pub ShowsInterface : Plan → (before after : History) → Site → InterfaceEvent → Verdict → Type 0
ShowsInterface plan before after x (ie.View i) w = w ≡ v.Interface (iv.View i (view_at before x))
ShowsInterface plan before after x (ie.State i loss) w = IsLostOr w (v.Interface (iv.State i (code_at plan before x)))
ShowsInterface plan before after x (ie.Halt i loss) w = IsLostOr w (v.Interface (iv.Halted i (needs_at after x)))
ShowsInterface plan before after x (ie.Write i register value) w =
    has_register x.plan register ≡ true → w ≡ v.Interface (iv.Written i (code_at plan after x))
ShowsInterface plan before after x (ie.Flr i) w = w ≡ v.Interface (iv.Flr i (code_at plan after x))
ShowsInterface plan before after x (ie.Firmware i) w = w ≡ v.Interface (iv.Firmware i (code_at plan after x))
ShowsInterface plan before after x (ie.Lock i loss) (v.Interface (iv.Locked n nonce)) =
    (n ≡ i) × (nonce_behind plan x.link (used_at plan before x.link) ≡ Some nonce)
ShowsInterface plan before after x (ie.Start i loss) (v.Interface (iv.Started n draw)) =
    (n ≡ i) × (draw ≡ stream_draw before x.link x.plan.stream)
ShowsInterface plan before after x (ie.Start i loss) (v.Interface (iv.RefusedRefreshFirst draw needed)) =
    (draw ≡ stream_draw before x.link x.plan.stream) × (needed ≡ needs_at before x)
ShowsInterface plan before after x e (v.Interface (iv.RefusedWrongState view)) = view ≡ view_at before x
ShowsInterface plan before after x e w = Unit {0}

-- ---- all events

abbrev pub ShowsTruth : Plan → History → Event → Verdict → Type 0
ShowsTruth plan h (event.Status line stream) w =
    is_some (stream_plan plan line stream) ≡ true
    → w ≡ v.Status line stream (history_status h Host line stream) (history_status h Device line stream)
ShowsTruth plan h (event.Dump n) w =
    (x : SealedPacket × Packet) → packet_by_number (sealed_packets plan h) n ≡ Some x
    → w ≡ v.Packet n (packet_bytes x.1)
ShowsTruth plan h (event.Establish line stream loss) (v.Established l s draw) =
    ShowsUp ((event.Establish line stream loss, v.Established l s draw) ∷ h) line stream l s draw
ShowsTruth plan h (event.Refresh line stream loss) (v.Refreshed l s draw) =
    ShowsUp ((event.Refresh line stream loss, v.Refreshed l s draw) ∷ h) line stream l s draw
ShowsTruth plan h (event.Interface e) w =
    (i : ℕ) (x : Site) → number_in e ≡ Some i → site_at plan i ≡ Some x
    → ShowsInterface plan h ((event.Interface e, w) ∷ h) x e w
ShowsTruth plan h e w = Unit {0}

abbrev pub ShownLaw : Plan → History → Type 0
ShownLaw plan h = AtPairs (ShowsTruth plan) h
