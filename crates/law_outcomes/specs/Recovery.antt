-- Whatever happened, an interface can be brought to RUN again: no attack on a link wedges it for good.
use Rattle.std.specs.Prelude.{◌≡◌, ◌<◌, ◌/◌, ◌∷◌, ◌++◌, ℕ, true, false, List, [], length, Some, None, is_some}
use Rattle.ide_types.specs.declared.plan.Plan.{Plan}
use Rattle.spec_keys.specs.History.{History, draws, history_status}
use Rattle.spec_links.specs.Plan.{stream_plan}
use Rattle.spec_interfaces.specs.Terms.{Side, Event, Verdict, Running, planned_registers, interface_report_bytes}
use Rattle.spec_interfaces.specs.Sites.{Site, site_at, nonce_behind}
use Rattle.spec_interfaces.specs.Views.{view_at}
use Rattle.spec_interfaces.specs.Devices.{used_at, runs_at}
use Rattle.interface_state.specs.Bars.{any_overlap}
use Rattle.ide_types.specs.declared.status.StreamStatus.TheVariants as status
use Rattle.script_events.specs.declared.event.Event.TheVariants as event
use Rattle.script_events.specs.declared.event.InterfaceEvent.TheVariants as ie
use Rattle.event_verdicts.specs.declared.verdict.Verdict.TheVariants as v
use Rattle.ide_types.specs.declared.verdict.InterfaceVerdict.TheVariants as iv

-- what it takes: a draw is left in the pool, and a nonce in the link's list; and by the topology no two BARs of the
-- interface overlap
pub record CanRecover (plan : Plan) (h : History) (x : Site) : Type 0 where
  pub draw : draws h < length plan.pool / 6
  pub nonce : List ℕ
  pub next : nonce_behind plan x.link (used_at plan h x.link) ≡ Some nonce
  pub apart : any_overlap x.plan.bars ≡ false

-- what the manager asks for, in order, and none of its messages is lost: the interface is halted and its stream
-- stopped; the stream gets new keys; the interface is reset, locked, reported and started
abbrev pub recovery : Site → List Event
recovery x =
    event.Interface (ie.Halt x.number None) ∷ event.Stop x.link x.plan.stream None
    ∷ event.Establish x.link x.plan.stream None
    ∷ event.Interface (ie.Flr x.number) ∷ event.Interface (ie.Lock x.number None)
    ∷ event.Interface (ie.Report x.number None) ∷ event.Interface (ie.Start x.number None) ∷ []

-- the history goes on by these events, with these verdicts
abbrev pub history_on : History → List Event → List Verdict → History
history_on h (e ∷ es) (w ∷ ws) = history_on ((e, w) ∷ h) es ws
history_on h es ws = h

-- that all of it succeeds: what the halt needs, the draw of the new keys and the nonce of the lock are these, and the
-- report is that of the topology's registers
abbrev pub recovery_verdicts : Site → (needs draw : ℕ) → (nonce : List ℕ) → List Verdict
recovery_verdicts x needs draw nonce =
    v.Interface (iv.Halted x.number needs) ∷ v.Stopped x.link x.plan.stream
    ∷ v.Established x.link x.plan.stream draw ∷ v.Interface (iv.Flr x.number 0)
    ∷ v.Interface (iv.Locked x.number nonce)
    ∷ v.Interface (iv.Reported x.number
    (interface_report_bytes x.plan (planned_registers x.plan) x.plan.flags x.plan.offset))
    ∷ v.Interface (iv.Started x.number draw) ∷ []

-- All of it succeeds, and the new keys are those of the next draw; then the interface is in RUN, and the manager's view
-- is Running.
pub record IsRecovered (plan : Plan) (h : History) (x : Site) (nonce : List ℕ) (ws : List Verdict) : Type 0 where
  pub needs : ℕ
  pub verdicts : ws ≡ recovery_verdicts x needs (draws h) nonce
  pub runs : runs_at plan (history_on h (recovery x) ws) x ≡ true
  pub view : view_at (history_on h (recovery x) ws) x ≡ Running

-- wherever these events follow one another in a history
abbrev pub InterfacesRecover : Plan → History → Type 0
InterfacesRecover plan h = (older since : History) (x : Site) (ws : List Verdict) → site_at plan x.number ≡ Some x
    → (can : CanRecover plan older x) → length ws ≡ 7 → since ++ history_on older (recovery x) ws ≡ h
    → IsRecovered plan older x can.nonce ws

-- and it takes no less
abbrev pub RecoveriesNeed : Plan → History → Type 0
RecoveriesNeed plan h = (older since : History) (x : Site) (needs draw : ℕ) (nonce : List ℕ)
    → site_at plan x.number ≡ Some x
    → since ++ history_on older (recovery x) (recovery_verdicts x needs draw nonce) ≡ h → CanRecover plan older x

-- ---- a stream alone, of any line

-- it is stopped, and gets new keys
abbrev pub rekeying : (line stream : ℕ) → List Event
rekeying line stream = event.Stop line stream None ∷ event.Establish line stream None ∷ []

-- both succeed, the new keys are those of the next draw, and the stream is Secure at both ends
pub record IsRekeyed (plan : Plan) (h : History) (line stream : ℕ) (ws : List Verdict) : Type 0 where
  pub verdicts : ws ≡ v.Stopped line stream ∷ v.Established line stream (draws h) ∷ []
  pub secure : (side : Side)
      → history_status (history_on h (rekeying line stream) ws) side line stream ≡ status.Secure

abbrev pub StreamsRecover : Plan → History → Type 0
StreamsRecover plan h = (older since : History) (line stream : ℕ) (ws : List Verdict)
    → is_some (stream_plan plan line stream) ≡ true → draws older < length plan.pool / 6 → length ws ≡ 2
    → since ++ history_on older (rekeying line stream) ws ≡ h → IsRekeyed plan older line stream ws

-- ---- the law

pub record RecoveryLaw (plan : Plan) (h : History) : Type 0 where
  pub interfaces : InterfacesRecover plan h
  pub needs : RecoveriesNeed plan h
  pub streams : StreamsRecover plan h
