-- Streams between two devices, as a device knows them: by their IDs.
use Rattle.std.specs.Prelude.{ℕ, ◌==◌, ◌&&◌, max, Bool, true, false, not, is_some, List, unwrap_or, Option, Some, None}
use Rattle.std.specs.Prelude.{if◌then◌else◌}
use Rattle.ide_types.specs.declared.status.StreamStatus.TheVariants as status
use Rattle.ide_types.specs.declared.sub.SubKind.TheVariants.{Pr}
use Rattle.ide_types.specs.declared.plan.PeerPlan.{PeerPlan}
unfoldable pub use Rattle.ide_types.specs.Ends.{peer_end}
use Rattle.spec_keys.specs.Keys.{Keys, on_in}
use Rattle.spec_keys.specs.Places.{KeyPlace}
use Rattle.spec_keys.specs.History.{place_keys}
use Rattle.ide_types.specs.declared.binding.Binding.{Binding}
use Rattle.spec_interfaces.specs.Terms.{list_any, option_and_then, option_map_or, PortName, StreamStatus, History}
use Rattle.spec_interfaces.specs.Terms.{history_status}

-- the link's device has the stream between devices of this line and ID
abbrev pub has_peer : List PeerPlan → ℕ → ℕ → ℕ → Bool
has_peer peers link line stream = option_map_or (λ e. e.line == line) (peer_end peers 0 link stream) false

-- ---- the draw that is Live at an end

abbrev pub is_secure : StreamStatus → Bool
is_secure status.Secure = true
is_secure _ = false

-- the greatest draw that is On, 0 if none is
abbrev pub greatest_on : Keys → ℕ
greatest_on ks = max (unwrap_or (on_in ks.first) 0) (unwrap_or (on_in ks.second) 0)

-- where an end receives posted requests on a stream
abbrev pub receiver_at : PortName → ℕ → KeyPlace
receiver_at e stream = record { side = e.side; line = e.line; stream = stream; sends = false; sub = Pr }

-- the draw that is Live there, if the stream is Secure at the end
abbrev pub live_at : History → PortName → ℕ → Option ℕ
live_at h e stream =
    if is_secure (history_status h e.side e.line stream) then Some (greatest_on (place_keys h (receiver_at e stream)))
    else None

-- what is read so of the end at a link's device of the stream between devices that has an ID, if there is one
abbrev pub live_by_id : (PortName → ℕ → Option ℕ) → List PeerPlan → ℕ → ℕ → Option ℕ
live_by_id live peers link stream = option_and_then (λ e. live e stream) (peer_end peers 0 link stream)

-- one of the streams is Secure there by the one reading, and not by the other
abbrev pub binding_leaves : (before after : ℕ → Option ℕ) → Binding → Bool
binding_leaves before after b = is_some (before b.stream) && not (is_some (after b.stream))

abbrev pub any_leaves : (before after : ℕ → Option ℕ) → List Binding → Bool
any_leaves before after bs = list_any (binding_leaves before after) bs
