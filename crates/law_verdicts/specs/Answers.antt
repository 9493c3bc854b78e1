-- An answer is the completion of its read.
use Rattle.std.specs.Prelude.{◌≡◌, ℕ, ◌++◌, ◌∷◌, true, false, List, [], Some, slice_get}
use Rattle.spec_links.specs.Terms.{Plan, Event, Access, Verdict, Sealed, SealedPacket, Packet, History, WaitingRead}
use Rattle.ide_types.specs.Ports.{host_port}
use Rattle.spec_links.specs.Terms.{host_completer, byte_last_written, completion_bytes, masked_bytes, iv_of}
use Rattle.spec_links.specs.Plan.{key_of}
use Rattle.spec_links.specs.History.{SealedList, sealed_packets, sub_stream_of}
use Rattle.spec_links.specs.Memory.{queued_reads, writes}
use Rattle.spec_links.specs.Sent.{reads_taken}
use Rattle.law_locks.specs.Fronts.{AtPairs}
use Rattle.script_events.specs.declared.event.AccessEvent.TheVariants as ae

-- The last packet that the verdict seals is no sync packet, and ends its unit. It is the completion of the oldest read
-- that waits, from memory as it is then: its header stands in clear, and behind it the payload, masked under the
-- packet's key and unit.
pub record SealsCompletion (plan : Plan) (h : History) (link : ℕ) (ds : List SealedPacket) : Type 0 where
  pub read : WaitingRead
  pub oldest : slice_get (queued_reads plan h (host_port link)) (reads_taken h (host_port link)) ≡ Some read
  pub ahead : List SealedPacket
  pub last : SealedPacket
  pub ends : ds ≡ ahead ++ last ∷ []
  pub no_sync : last.sync ≡ false
  pub ends_unit : last.m ≡ true
  pub before : SealedList
  pub packet : Packet
  pub stands : sealed_packets plan ((Access (ae.Answer link), Sealed ds) ∷ h) ≡ before ++ (last, packet) ∷ []
  pub payload : List ℕ
  pub completion : packet.head ++ payload ≡ completion_bytes host_completer (byte_last_written (writes plan h))
      read.read
  pub offset : ℕ
  pub body_is : packet.body
      ≡ masked_bytes (key_of plan last.draw (sub_stream_of last)) (iv_of last.sub last.unit) offset payload

abbrev pub AnswersWhole : Plan → History → Event → Verdict → Type 0
AnswersWhole plan h (Access (ae.Answer link)) (Sealed ds) = SealsCompletion plan h link ds
AnswersWhole plan h e w = Unit {0}

abbrev pub AnswerLaw : Plan → History → Type 0
AnswerLaw plan h = AtPairs (AnswersWhole plan) h
