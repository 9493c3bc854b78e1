-- What the host's manager makes of an interface, from verdicts alone.
use Rattle.std.specs.Prelude.{ℕ, ◌-◌, ◌==◌, ◌&&◌, ◌||◌, nat_le, Bool, true, false, if◌then◌else◌, List, [], ◌∷◌}
use Rattle.std.specs.Prelude.{slice_get, slice_set, replicate, is_some, unwrap_or, Option, Some, None}
use Rattle.spec_interfaces.specs.Terms.{Plan, View, Unlocked, Locked, Running, Doubt, Broken, Event, InterfaceEvent}
use Rattle.spec_interfaces.specs.Terms.{Binding}
use Rattle.spec_interfaces.specs.Terms.{Verdict, History, StreamStage, op_of, draws, work_of, reach_of, begins_keyed}
use Rattle.spec_interfaces.specs.Sites.{Site, site_of_requester}
use Rattle.spec_interfaces.specs.Exchanges.{is_lost_at, is_asked_at, is_refused_at}
use Rattle.script_events.specs.declared.event.Event.TheVariants as event
use Rattle.script_events.specs.declared.event.InterfaceEvent.TheVariants as ie
use Rattle.event_verdicts.specs.declared.verdict.Operation.TheVariants as op
use Rattle.event_verdicts.specs.declared.verdict.Verdict.TheVariants as v
use Rattle.ide_types.specs.declared.verdict.InterfaceVerdict.TheVariants as iv

-- to none of the streams between devices, of which there are up to eight
abbrev pub no_binds : List Bool
no_binds = replicate 8 false

-- what the manager keeps of an interface
pub record Managed : Type 0 where
  pub view : View
  -- its report was read since it was locked
  pub reported : Bool
  -- the nonce of the last lock
  pub nonce : List ℕ
  -- a START_INTERFACE was asked since LOCK_INTERFACE was last asked
  pub started : Bool
  -- the draw of the last start
  pub floor : ℕ
  -- the least draw that it may be started under
  pub needs : ℕ
  -- of each stream between devices, by its number, whether BIND_P2P was asked since LOCK_INTERFACE was last asked
  pub asked : List Bool

abbrev pub new_managed : Managed
new_managed =
    record { view = Unlocked; reported = false; nonce = []; started = false; floor = 0; needs = 0; asked = no_binds }

-- ---- operations on it

abbrev pub on_lock : Managed → Verdict → Managed
on_lock m (v.Interface (iv.Locked i nonce)) =
    record {
      view = Locked;
      reported = false;
      nonce = nonce;
      started = false;
      floor = m.floor;
      needs = m.needs;
      asked = no_binds;
    }
on_lock m w =
    if is_lost_at w 3 then record m { view = Doubt; started = false; asked = no_binds }
    else if is_refused_at w 3 then record m { started = false; asked = no_binds }
    else m

abbrev pub on_report : Managed → Verdict → Managed
on_report m (v.Interface (iv.Reported i report)) = record m { reported = true }
on_report m w = m

abbrev pub on_start : Managed → Verdict → Managed
on_start m (v.Interface (iv.Started i draw)) = record m { view = Running; started = true; floor = draw }
on_start m w =
    if is_lost_at w 1 then record m { view = Doubt; started = true }
    else if is_refused_at w 1 then record m { view = Broken; started = true }
    else m

-- all draws so far, if it may have run since it was last locked
abbrev pub needs_then : Managed → ℕ → ℕ
needs_then m drawn = if m.started then drawn else m.needs

abbrev pub on_halt : ℕ → Managed → Verdict → Managed
on_halt drawn m (v.Interface (iv.Halted i needs)) = record m { view = Unlocked; needs = needs_then m drawn }
on_halt drawn m w = if is_lost_at w 1 then record m { view = Doubt } else m

-- the state that the device told is not the one that it should have
abbrev pub view_told : View → ℕ → View
view_told Locked state = if state == 1 then Locked else Broken
view_told Running state = if state == 2 then Running else Broken
view_told view state = view

abbrev pub on_state : Managed → Verdict → Managed
on_state m (v.Interface (iv.State i state)) = record m { view = view_told m.view state }
on_state m w = m

-- the number of the stream between devices of a line
abbrev pub peer_of : ℕ → ℕ
peer_of line = line - 24

-- a loss and a refusal of the device leave that it was asked
abbrev pub on_bind : ℕ → Managed → Verdict → Managed
on_bind line m w = if is_asked_at w 1 then record m { asked = slice_set m.asked (peer_of line) true } else m

abbrev pub on_operation : ℕ → InterfaceEvent → Verdict → Managed → Managed
on_operation drawn (ie.Lock i loss) w m = on_lock m w
on_operation drawn (ie.Report i loss) w m = on_report m w
on_operation drawn (ie.Start i loss) w m = on_start m w
on_operation drawn (ie.Halt i loss) w m = on_halt drawn m w
on_operation drawn (ie.State i loss) w m = on_state m w
on_operation drawn (ie.Bind i line stream loss) w m = on_bind line m w
on_operation drawn e w m = m

-- the number of the interface that an operation is on
abbrev pub number_in : InterfaceEvent → Option ℕ
number_in (ie.Lock i loss) = Some i
number_in (ie.Report i loss) = Some i
number_in (ie.Start i loss) = Some i
number_in (ie.Halt i loss) = Some i
number_in (ie.State i loss) = Some i
number_in (ie.Bind i line stream loss) = Some i
number_in (ie.Unbind i line stream loss) = Some i
number_in (ie.View i) = Some i
number_in (ie.Write i register value) = Some i
number_in (ie.Flr i) = Some i
number_in (ie.Firmware i) = Some i
number_in (ie.Memory at len) = None

abbrev pub is_number : Option ℕ → ℕ → Bool
is_number None n = false
is_number (Some i) n = i == n

-- ---- what ends it from outside

abbrev pub view_broken : View → View
view_broken Unlocked = Unlocked
view_broken _ = Broken

-- a stop of the stream begins
abbrev pub stop_begins : StreamStage → ℕ → Verdict → Bool
stop_begins o next w = (work_of op.Stop o next).begins && is_some (reach_of op.Stop w)

abbrev pub is_bind_asked : ℕ → List Bool → Bool
is_bind_asked line asked = nat_le 24 line && unwrap_or (slice_get asked (peer_of line)) false

-- a stop of the stream of a link that the interface is bound to begins, or any event of a stop of a stream between
-- devices to which a binding of it was asked
abbrev pub stop_breaks : (ℕ → ℕ → StreamStage) → ℕ → Site → ℕ → ℕ → Verdict → Managed → Bool
stop_breaks ops next x line stream w m =
    ((line == x.link) && (stream == x.plan.stream) && stop_begins (ops line stream) next w)
    || (is_bind_asked line m.asked && is_some (reach_of op.Stop w))

-- ---- all pairs

abbrev pub managed_after : (ℕ → ℕ → StreamStage) → ℕ → Site → Event → Verdict → Managed → Managed
managed_after ops drawn x (event.Interface e) w m =
    if is_number (number_in e) x.number then on_operation drawn e w m else m
managed_after ops drawn x (event.Stop line stream loss) w m =
    if stop_breaks ops drawn x line stream w m then record m { view = view_broken m.view } else m
managed_after ops drawn x (event.Reset link ends) (v.Reset l) m =
    if link == x.link then record m { view = view_broken m.view } else m
managed_after ops drawn x e w m = m

unfoldable pub managed_view : History → Site → Managed
managed_view [] x = new_managed
managed_view ((e, w) ∷ h) x = managed_after (op_of h) (draws h) x e w (managed_view h x)

abbrev pub view_at : History → Site → View
view_at h x = (managed_view h x).view

abbrev pub floor_at : History → Site → ℕ
floor_at h x = (managed_view h x).floor

abbrev pub needs_at : History → Site → ℕ
needs_at h x = (managed_view h x).needs

-- ---- the draw of a stream

-- that of its last establish that began, or of the last refresh that ended since
unfoldable pub stream_draw : History → ℕ → ℕ → ℕ
stream_draw [] line stream = 0
stream_draw ((event.Establish l s loss, w) ∷ h) line stream =
    if (l == line) && (s == stream) && begins_keyed (op_of h l s) (draws h) w then draws h
    else stream_draw h line stream
stream_draw ((event.Refresh l s loss, v.Refreshed a b j) ∷ h) line stream =
    if (l == line) && (s == stream) then j else stream_draw h line stream
stream_draw (_ ∷ h) line stream = stream_draw h line stream

-- ---- what the manager says of a requester

abbrev pub bound_if : View → ℕ → ℕ → Option Binding
bound_if Running stream floor = Some (record { stream = stream; floor = floor })
bound_if _ stream floor = None

abbrev pub granted_to : History → Option Site → Option Binding
granted_to h None = None
granted_to h (Some x) = bound_if (view_at h x) x.plan.stream (floor_at h x)

-- the bound stream and the floor of the interface of a link with this requester ID, if its view is Running
abbrev pub grant_at : Plan → History → ℕ → ℕ → Option Binding
grant_at plan h link requester = granted_to h (site_of_requester plan link requester)
