-- What is kept of interfaces stands for the history.
use Rattle.std.specs.Prelude.{◌≡◌, ℕ, ◌∷◌, Bool, [], map, Option}
use Rattle.spec_interfaces.specs.Terms.{option_and_then, Host, Device, Plan, Event, InterfaceEvent, Verdict, History}
use Rattle.spec_interfaces.specs.Terms.{op_of, draws, history_status}
use Rattle.spec_interfaces.specs.Sites.{Site, sites, site_of_requester}
use Rattle.spec_interfaces.specs.Views.{managed_view, stream_draw, grant_at}
use Rattle.spec_interfaces.specs.Devices.{interface_at, used_at, is_secure, sets_t, peer_t}
use Rattle.spec_interfaces.specs.Due.{interface_verdict_due}
use Rattle.machine_whole.specs.Interfaces.{Face, Faces, new_faces, Streams, EndsRead, faces_after, interface_answer}
use Rattle.machine_whole.specs.Interfaces.{t_of, peer_t_of, grant_of}
use Rattle.spec_interfaces.specs.Peers.{live_at}

-- what a history says of streams
abbrev pub secure_of : History → ℕ → ℕ → Bool
secure_of h line stream = is_secure (history_status h Device line stream)

abbrev pub streams_at : History → Streams
streams_at h = record {
  secure = secure_of h;
  live = live_at h;
  host = λ line stream. history_status h Host line stream;
  draw = stream_draw h;
  op = op_of h;
  drawn = draws h;
}

-- and of the ends of streams at devices
abbrev pub ends_read : History → EndsRead
ends_read h = record { secure = secure_of h; live = live_at h }

-- what it says of an interface
abbrev pub face_at : Plan → History → Site → Face
face_at plan h x = record { tdi = interface_at plan h x; managed = managed_view h x }

-- each kept part is what the history gives
pub record FacesStandFor (plan : Plan) (fs : Faces) (h : History) : Type 0 where
  pub faces : fs.list ≡ map (face_at plan h) (sites plan)
  pub used : fs.used ≡ used_at plan h

-- the first state stands for the empty history, and each step for one more pair, whatever its verdict
pub record FacesFollowHistory : Type 0 where
  pub first : (plan : Plan) → FacesStandFor plan (new_faces plan) []
  pub step : (plan : Plan) (fs : Faces) (h : History) (e : Event) (w : Verdict) → FacesStandFor plan fs h
      → FacesStandFor plan (faces_after plan (streams_at h) (ends_read ((e, w) ∷ h)) e w fs) ((e, w) ∷ h)
  pub answer : (plan : Plan) (fs : Faces) (h : History) (e : InterfaceEvent) (given : Verdict) → FacesStandFor plan fs h
      → interface_answer plan (streams_at h) fs e given ≡ interface_verdict_due plan h e given
  pub t : (plan : Plan) (fs : Faces) (h : History) (link stream : ℕ) (owner : Option ℕ) → FacesStandFor plan fs h
      → t_of plan fs link stream owner ≡ sets_t plan h link stream (option_and_then (site_of_requester plan link) owner)
  pub peer : (plan : Plan) (fs : Faces) (h : History) (link stream : ℕ) (owner : Option ℕ) → FacesStandFor plan fs h
      → peer_t_of plan fs link stream owner ≡ peer_t plan h (option_and_then (site_of_requester plan link) owner) stream
  pub grant : (plan : Plan) (fs : Faces) (h : History) (link requester : ℕ) → FacesStandFor plan fs h
      → grant_of plan fs link requester ≡ grant_at plan h link requester
