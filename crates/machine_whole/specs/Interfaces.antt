-- What is kept of device interfaces, and one step of it.
use Rattle.std.specs.Prelude.{ℕ, ◌+◌, ◌==◌, ◌&&◌, ◌||◌, ◌∷◌, Bool, false, not, if◌then◌else◌, List, [], map, Option}
use Rattle.std.specs.Prelude.{Some, None}
use Rattle.spec_interfaces.specs.Terms.{list_any, option_and_then, option_map_or, StreamStatus, Plan, Event}
use Rattle.spec_interfaces.specs.Terms.{InterfaceEvent, Verdict, StreamStage, DeviceTdi, new_device_interface, PortName}
use Rattle.spec_interfaces.specs.Terms.{binds, Binding}
use Rattle.spec_interfaces.specs.Peers.{live_by_id, any_leaves}
use Rattle.spec_interfaces.specs.Sites.{Site, sites, nonce_behind}
use Rattle.spec_interfaces.specs.Views.{Managed, new_managed, managed_after, number_in, bound_if}
use Rattle.spec_interfaces.specs.Devices.{Around, next_interface, accepts_lock, one_if, is_run}
use Rattle.spec_interfaces.specs.Due.{AskedState, asked_due}
use Rattle.event_verdicts.specs.declared.verdict.Verdict.TheVariants as v

-- ---- what is kept

-- of an interface: at its device, and at the manager
pub record Face : Type 0 where
  pub tdi : DeviceTdi
  pub managed : Managed

-- of all interfaces, in the topology's order; and how many nonces the device of each link gave
pub record Faces : Type 0 where
  pub list : List Face
  pub used : ℕ → ℕ

abbrev pub new_face : Site → Face
new_face x = record { tdi = new_device_interface x.plan; managed = new_managed }

abbrev pub new_faces : Plan → Faces
new_faces plan = record { list = map new_face (sites plan); used = λ link. 0 }

-- what is read of the ports and of the manager's streams, by line and stream
pub record Streams : Type 0 where
  -- Secure at the device's port
  pub secure : ℕ → ℕ → Bool
  -- the draw that is Live where an end receives posted requests, if the stream is Secure there
  pub live : PortName → ℕ → Option ℕ
  pub host : ℕ → ℕ → StreamStatus
  pub draw : ℕ → ℕ → ℕ
  pub op : ℕ → ℕ → StreamStage
  pub drawn : ℕ

-- ---- an interface and what is kept of it

abbrev pub find_face : (Site → Bool) → List Site → List Face → Option (Site × Face)
find_face test [] fs = None
find_face test (x ∷ xs) [] = None
find_face test (x ∷ xs) (f ∷ fs) = if test x then Some (x, f) else find_face test xs fs

abbrev pub with_each : {A : Type 0} → (Site → Face → A) → List Site → List Face → List A
with_each g [] fs = []
with_each g (x ∷ xs) [] = []
with_each g (x ∷ xs) (f ∷ fs) = g x f ∷ with_each g xs fs

abbrev pub around_of : Plan → Streams → (ℕ → ℕ) → Site → Face → Around
around_of plan s used x f = record {
  secure = s.secure x.link x.plan.stream;
  drawn = nonce_behind plan x.link (used x.link);
  nonce = f.managed.nonce;
  live = live_by_id s.live plan.peers x.link;
}

-- ---- one step

-- what is read of the ends of streams at devices: Secure at a device's port; the draw that is Live where an end
-- receives posted requests, if the stream is Secure there
pub record EndsRead : Type 0 where
  pub secure : ℕ → ℕ → Bool
  pub live : PortName → ℕ → Option ℕ

abbrev pub ends_of_streams : Streams → EndsRead
ends_of_streams s = record { secure = s.secure; live = s.live }

-- a stream that an interface is bound to is Secure at the device by the one reading, and not by the other
abbrev pub left_by : Plan → Streams → EndsRead → Site → DeviceTdi → Bool
left_by plan s after x tdi =
    (s.secure x.link x.plan.stream && not (after.secure x.link x.plan.stream))
    || any_leaves (live_by_id s.live plan.peers x.link) (live_by_id after.live plan.peers x.link) tdi.bindings

-- `after` is what is read after the event
abbrev pub next_face : Plan → Streams → EndsRead → (ℕ → ℕ) → Event → Verdict → Site → Face → Face
next_face plan s after used e w x f = record {
  tdi = next_interface (around_of plan s used x f) (left_by plan s after x f.tdi) x e w f.tdi;
  managed = managed_after s.op s.drawn x e w f.managed;
}

abbrev pub gives_nonce : Plan → Streams → (ℕ → ℕ) → Event → Verdict → ℕ → Site → Face → Bool
gives_nonce plan s used e w link x f = (x.link == link) && accepts_lock (around_of plan s used x f) x e w f.tdi

abbrev pub is_true : Bool → Bool
is_true b = b

abbrev pub faces_after : Plan → Streams → EndsRead → Event → Verdict → Faces → Faces
faces_after plan s after e w fs = record {
  list = with_each (next_face plan s after fs.used e w) (sites plan) fs.list;
  used = λ link. fs.used link
      + one_if (list_any is_true (with_each (gives_nonce plan s fs.used e w link) (sites plan) fs.list));
}

-- ---- what is read from it

abbrev pub asked_state_of_face : Plan → Streams → (ℕ → ℕ) → Site → Face → AskedState
asked_state_of_face plan s used x f = record {
  around = around_of plan s used x f;
  tdi = f.tdi;
  managed = f.managed;
  host = s.host x.link x.plan.stream;
  draw = s.draw x.link x.plan.stream;
  drawn = s.drawn;
  peer_op = s.op;
  peer_draw = s.draw;
}

abbrev pub asked_due_of : Plan → Streams → (ℕ → ℕ) → InterfaceEvent → Option (Site × Face) → Verdict
asked_due_of plan s used e None = v.Nothing
asked_due_of plan s used e (Some y) = asked_due plan y.0 (asked_state_of_face plan s used y.0 y.1) e

abbrev pub answer_to : Plan → Streams → Faces → InterfaceEvent → Option ℕ → Verdict → Verdict
answer_to plan s fs e None given = given
answer_to plan s fs e (Some i) given =
    asked_due_of plan s fs.used e (find_face (λ x. x.number == i) (sites plan) fs.list)

-- the verdict of an event on an interface; of one on memory it is given
abbrev pub interface_answer : Plan → Streams → Faces → InterfaceEvent → Verdict → Verdict
interface_answer plan s fs e given = answer_to plan s fs e (number_in e) given

abbrev pub with_requester : Plan → Faces → ℕ → ℕ → Option (Site × Face)
with_requester plan fs link requester =
    find_face (λ x. (x.link == link) && (x.plan.requester == requester)) (sites plan) fs.list

-- whether the device's port of a link sets T on a stream for a TLP of this owner
abbrev pub t_of : Plan → Faces → ℕ → ℕ → Option ℕ → Bool
t_of plan fs link stream owner =
    option_map_or (λ (y : Site × Face). is_run y.1.tdi.state && (y.0.plan.stream == stream))
    (option_and_then (with_requester plan fs link) owner) false

-- whether an end of a stream between devices at the device of a link sets T for a TLP of this owner
abbrev pub peer_t_of : Plan → Faces → ℕ → ℕ → Option ℕ → Bool
peer_t_of plan fs link stream owner =
    option_map_or (λ (y : Site × Face). is_run y.1.tdi.state && binds stream y.1.tdi.bindings)
    (option_and_then (with_requester plan fs link) owner) false

-- the bound stream and the floor of a requester whose view is Running
abbrev pub grant_of : Plan → Faces → ℕ → ℕ → Option Binding
grant_of plan fs link requester =
    option_and_then (λ (y : Site × Face). bound_if y.1.managed.view y.0.plan.stream y.1.managed.floor)
    (with_requester plan fs link requester)
