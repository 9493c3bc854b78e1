-- What an event on a stream leaves of all other streams.
use Rattle.std.specs.Prelude.{◌≡◌, ◌==◌, ◌&&◌, ◌∷◌, [], Bool, true, false, List, Option, None, Some, ℕ}
use Rattle.ide_types.specs.Ports.{device_port}
use Rattle.ide_types.specs.declared.port.Side.{Side}
use Rattle.spec_keys.specs.Places.{KeyPlace, is_on_stream, is_line_reset}
use Rattle.spec_keys.specs.History.{op_of}
use Rattle.spec_links.specs.Terms.{Plan, Event, Establish, Refresh, Stop, Reset, Send, Access, Verdict, History, base}
use Rattle.spec_links.specs.Terms.{place_keys, failed_there, WaitingRead}
use Rattle.spec_links.specs.Plan.{SubStream}
use Rattle.spec_links.specs.Ports.{id_in, outgoing_at}
use Rattle.spec_links.specs.History.{ArrivedBytes, arrival_of_event, accepted_packets, packets_in_hold, sent_packets}
use Rattle.spec_links.specs.History.{sent_bytes, sending_port}
use Rattle.spec_links.specs.Memory.{waiting_reads}
use Rattle.tlp_layout.specs.Outgoing.{stream_taken}
use Rattle.event_verdicts.specs.Causes.{is_stream}
use Rattle.law_locks.specs.Fronts.{AtPairs}
use Rattle.script_events.specs.declared.event.Event.TheVariants.{Forward}
use Rattle.script_events.specs.declared.event.AccessEvent.TheVariants as ae

-- the TLP that the event sends goes out on this stream of the line
abbrev pub sends_on : Plan → History → Event → ℕ → ℕ → Bool
sends_on plan h e line stream =
    ((sending_port plan h e).line == line)
    && is_stream stream (stream_taken (outgoing_at plan (sending_port plan h e) (sent_bytes plan h e)))

-- the oldest of these reads came on this stream of the line: its answer goes out there
abbrev pub came_on : List WaitingRead → ℕ → ℕ → Bool
came_on [] line stream = false
came_on (r ∷ rs) line stream = (r.came.end.line == line) && (r.came.stream == stream)

-- the bytes that it brings are of this stream of the line
abbrev pub brings_on : Option ArrivedBytes → ℕ → ℕ → Bool
brings_on None line stream = false
brings_on (Some a) line stream = (a.port.line == line) && is_stream stream (id_in a.bytes)

-- it is an operation on the stream, or a reset of an end of its line; it sends there, answers a read of a device that
-- came there, or brings bytes
abbrev pub acts_on : Plan → History → Event → ℕ → ℕ → Bool
acts_on plan h (Establish l s loss) line stream = (l == line) && (s == stream)
acts_on plan h (Refresh l s loss) line stream = (l == line) && (s == stream)
acts_on plan h (Stop l s loss) line stream = (l == line) && (s == stream)
acts_on plan h (Reset link ends) line stream = is_line_reset ends line
acts_on plan h (Send port bytes more trusted) line stream = sends_on plan h (Send port bytes more trusted) line stream
acts_on plan h (Access (ae.Answer link)) line stream = sends_on plan h (Access (ae.Answer link)) line stream
acts_on plan h (Access (ae.Respond link)) line stream = came_on (waiting_reads plan h (device_port link)) line stream
acts_on plan h (Forward link d) line stream = sends_on plan h (Forward link d) line stream
acts_on plan h e line stream = brings_on (arrival_of_event plan h e) line stream

-- The stream is as it was: its keys and failures at both ends, its state for the manager and the draw of its last
-- establish, what was sealed and accepted in it, and what is held.
pub record IsApart (plan : Plan) (h : History) (e : Event) (w : Verdict) (line stream : ℕ) : Type 0 where
  pub keys : (p : KeyPlace) → is_on_stream p line stream ≡ true → place_keys ((e, w) ∷ h) p ≡ place_keys h p
  pub failures : (side : Side) → failed_there ((e, w) ∷ h) side line stream ≡ failed_there h side line stream
  pub operations : op_of ((e, w) ∷ h) line stream ≡ op_of h line stream
  pub bases : base ((e, w) ∷ h) line stream ≡ base h line stream
  pub sealed : (s : SubStream) (j : ℕ) → s.line ≡ line → s.stream ≡ stream
      → sent_packets plan ((e, w) ∷ h) s j ≡ sent_packets plan h s j
  pub accepted : (s : SubStream) (j : ℕ) → s.line ≡ line → s.stream ≡ stream
      → accepted_packets plan ((e, w) ∷ h) s j ≡ accepted_packets plan h s j
  pub held : (s : SubStream) (j n : ℕ) → s.line ≡ line → s.stream ≡ stream
      → packets_in_hold plan ((e, w) ∷ h) s j n ≡ packets_in_hold plan h s j n

-- at each pair, of each stream that the event does not act on
abbrev pub LeavesOthers : Plan → History → Event → Verdict → Type 0
LeavesOthers plan h e w = (line stream : ℕ) → acts_on plan h e line stream ≡ false → IsApart plan h e w line stream

abbrev pub ApartLaw : Plan → History → Type 0
ApartLaw plan h = AtPairs (LeavesOthers plan) h
