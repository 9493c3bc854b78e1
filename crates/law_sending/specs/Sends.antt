-- When what is sent is sealed, and by what else it is refused.
use Rattle.std.specs.Prelude.{◌≡◌, ◌≤◌, ◌<◌, ◌↔◌, ℕ, ◌+◌, ◌==◌, ◌&&◌, ◌||◌, ◌∷◌, ◌++◌, Bool, true, false, not, nat_lt}
use Rattle.std.specs.Prelude.{List, [], length, map, find, filter, Some, None, Result, Ok, Err, is_none, slice_get}
use Rattle.std.specs.Prelude.{if◌then◌else◌}
use Rattle.std.specs.List.{AllByRecursion}
use Rattle.ide_types.specs.Ends.{link_hop}
use Rattle.ide_types.specs.Ports.{host_port, device_port}
use Rattle.ide_types.specs.declared.direction.Direction.{Direction}
use Rattle.ide_types.specs.declared.plan.HopPlan.{HopPlan}
use Rattle.ide_types.specs.declared.sub.SubKind.{SubKind}
use Rattle.ide_types.specs.declared.sub.SubKind.TheVariants.{Pr, Npr, Cpl}
use Rattle.tlp_layout.specs.Class.{class_of}
use Rattle.spec_stream.specs.Sending.{Lanes, begins_unit, is_posted}
use Rattle.spec_links.specs.Terms.{Plan, PortName, Event, Access, SealedPacket, Verdict, History, Tlp, TlpFault, header}
use Rattle.spec_links.specs.Terms.{read_of, WaitingRead, Host, Site, site_of_requester, byte_last_written}
use Rattle.spec_links.specs.Terms.{completion_bytes, host_completer}
use Rattle.spec_links.specs.Plan.{has_link, lane_out, streams_of}
use Rattle.spec_links.specs.History.{KeyName, live_key}
use Rattle.spec_interfaces.specs.Terms.{Running}
use Rattle.spec_interfaces.specs.Views.{view_at, floor_at}
use Rattle.spec_links.specs.Ports.{may_send}
use Rattle.spec_links.specs.Due.{lanes_at}
use Rattle.spec_links.specs.Hops.{HopTlp, has_hop, entering_end, leaving_end}
use Rattle.spec_links.specs.HopLaws.{tlps_since_reset}
use Rattle.spec_links.specs.Memory.{accepted_tlps, queued_reads, writes}
use Rattle.spec_links.specs.Sent.{reads_taken}
use Rattle.law_locks.specs.Fronts.{AtPairs}
use Rattle.law_sending.specs.Choice.{GoesOnStream, TakesTlp}
use Rattle.law_sending.specs.Trust.{IsFirstWaiting}
use Rattle.script_events.specs.declared.event.Event.TheVariants as event
use Rattle.script_events.specs.declared.event.AccessEvent.TheVariants as ae
use Rattle.event_verdicts.specs.declared.access.AccessVerdict.TheVariants as av
use Rattle.ide_types.specs.declared.verdict.InterfaceVerdict.TheVariants as iv
use Rattle.event_verdicts.specs.declared.verdict.Verdict.TheVariants as v

-- ---- what a stream has at the end that seals

-- a sub-stream has no Live key
abbrev pub lacks_key : Lanes → SubKind → Bool
lacks_key x u = is_none (x.lane u).key

-- a unit would begin, and as many as a key may have were sealed under it
abbrev pub is_used_up : Lanes → SubKind → Bool
is_used_up x u = begins_unit (x.lane u) && ((x.lane u).units == x.limit)

-- within a posted unit its posted count might become more than a prefix can hold
abbrev pub may_overflow : Lanes → SubKind → Bool
may_overflow x u = nat_lt 255 ((x.lane u).posted + x.aggregation)

-- the sub-streams in which a sync packet goes first: before a posted unit those whose posted count might overflow
abbrev pub syncs_needed : Lanes → SubKind → List SubKind
syncs_needed x Pr = if begins_unit (x.lane Pr) then filter (may_overflow x) (Npr ∷ Cpl ∷ []) else []
syncs_needed x u = []

-- all in which a TLP of this class seals, its own first
abbrev pub subs_sealed : Lanes → SubKind → List SubKind
subs_sealed x class = class ∷ syncs_needed x class

-- it is not posted, and the posted unit is unfinished
abbrev pub overtakes_unit : Lanes → SubKind → Bool
overtakes_unit x Pr = false
overtakes_unit x u = not (begins_unit (x.lane Pr))

-- ---- the answer to a send

-- The stream has not failed at the end, each sub-stream in which it seals has a Live key, it overtakes no unfinished
-- posted unit, and no unit that would begin is one too many under its key.
pub record MayBeSealed (x : Lanes) (class : SubKind) : Type 0 where
  pub secure : x.failed ≡ false
  pub keyed : AllByRecursion (λ (u : SubKind). lacks_key x u ≡ false) (subs_sealed x class)
  pub in_order : overtakes_unit x class ≡ false
  pub room : AllByRecursion (λ (u : SubKind). is_used_up x u ≡ false) (subs_sealed x class)

abbrev pub is_sealed_verdict : Verdict → Bool
is_sealed_verdict (v.Sealed ds) = true
is_sealed_verdict w = false

abbrev pub sub_and_sync : SealedPacket → SubKind × Bool
sub_and_sync d = (d.sub, d.sync)

abbrev pub as_sync : SubKind → SubKind × Bool
as_sync u = (u, true)

-- A packet is sealed under the Live key of its sub-stream, in the next unit there, with the posted count there if it is
-- not posted. A sync packet ends its unit, a TLP's if no more was announced or the unit is full with it.
pub record IsSealedInLane (x : Lanes) (more : Bool) (d : SealedPacket) : Type 0 where
  pub key : KeyName
  pub live : (x.lane d.sub).key ≡ Some key
  pub draw : d.draw ≡ key.draw
  pub set : d.k ≡ key.k
  pub unit : d.unit ≡ (x.lane d.sub).units + 1
  pub posted : d.posted ≡ (if is_posted d.sub then 0 else (x.lane d.sub).posted)
  pub ends : d.m ≡ (d.sync || (not more || (length (x.lane d.sub).unfinished + 1 == x.aggregation)))

-- it is sealed exactly then; else the first that does not hold refuses it
pub record IsAnsweredAsSend (x : Lanes) (class : SubKind) (more : Bool) (w : Verdict) : Type 0 where
  pub sealed : (is_sealed_verdict w ≡ true) ↔ MayBeSealed x class
  pub insecure : x.failed ≡ true → w ≡ v.RefusedInsecure
  pub no_key : x.failed ≡ false → (u : SubKind) → find (lacks_key x) (subs_sealed x class) ≡ Some u
      → w ≡ v.RefusedNoKey u
  pub unfinished : x.failed ≡ false → find (lacks_key x) (subs_sealed x class) ≡ None
      → overtakes_unit x class ≡ true → w ≡ v.RefusedUnfinished
  pub worn : x.failed ≡ false → find (lacks_key x) (subs_sealed x class) ≡ None → overtakes_unit x class ≡ false
      → (u : SubKind) → find (is_used_up x) (subs_sealed x class) ≡ Some u → w ≡ v.RefusedWorn u x.limit
  -- of what is sealed one packet carries the TLP, behind the sync packets that are needed
  pub packets : (ds : List SealedPacket) → w ≡ v.Sealed ds
      → map sub_and_sync ds ≡ map as_sync (syncs_needed x class) ++ (class, false) ∷ []
  pub each : (ds : List SealedPacket) → w ≡ v.Sealed ds → AllByRecursion (IsSealedInLane x more) ds

-- ---- sends, forwards and answers

abbrev pub is_malformed : Verdict → Bool
is_malformed (v.Malformed port word place) = true
is_malformed w = false

abbrev pub is_fault : Result Tlp TlpFault → Bool
is_fault (Ok t) = false
is_fault (Err f) = true

-- Bytes that are no TLP are malformed; a TLP is answered on the stream on which it goes, if it does not go in clear.
pub record IsSentOn (plan : Plan) (h : History) (end : PortName) (bytes : List ℕ) (more : Bool) (w : Verdict)
    : Type 0 where
  pub malformed : is_malformed w ≡ is_fault (read_of bytes)
  pub sent : (t : Tlp) → read_of bytes ≡ Ok t → (at : PortName) (stream : ℕ)
      → GoesOnStream plan end (header t) at stream
      → IsAnsweredAsSend (lanes_at plan h at stream) (class_of (header t)) more w

-- Nothing waits exactly if all that was accepted at the one side was sealed at the other, since the link's last reset;
-- else the first that waits is sent there on the hop's stream, in its own sub-stream.
pub record IsForwardedOn (plan : Plan) (h : History) (link : ℕ) (d : Direction) (w : Verdict) : Type 0 where
  pub empty : (w ≡ v.Access (av.Empty link)) ↔ (tlps_since_reset plan h link (leaving_end link d)
      ≡ accepted_tlps plan h link (entering_end link d))
  pub sent : (x : HopTlp) → IsFirstWaiting plan h link d x → (hop : HopPlan)
      → link_hop (slice_get plan.links link) ≡ Some hop
      → IsAnsweredAsSend (lanes_at plan h (leaving_end link d) hop.id) x.sub false w

-- the completion of a read, from trusted memory as it is
abbrev pub completion_now : Plan → History → WaitingRead → List ℕ
completion_now plan h r = completion_bytes host_completer (byte_last_written (writes plan h)) r.read

-- at the host's port of the link the stream takes it
pub record CompletionGoesOn (plan : Plan) (h : History) (link : ℕ) (r : WaitingRead) (stream : ℕ) : Type 0 where
  pub tlp : Tlp
  pub reads : read_of (completion_now plan h r) ≡ Ok tlp
  pub takes : TakesTlp (streams_of plan link) Host (header tlp) stream

-- An interface may have the completion of its read: its view is Running, the completion goes on its bound stream, and
-- the read came under a draw from its floor on.
pub record MayHave (plan : Plan) (h : History) (link : ℕ) (r : WaitingRead) (x : Site) : Type 0 where
  pub runs : view_at h x ≡ Running
  pub goes : CompletionGoesOn plan h link r x.plan.stream
  pub floor : floor_at h x ≤ r.came.draw

abbrev pub is_dropped : Verdict → Bool
is_dropped (v.Access (av.Dropped interface cause)) = true
is_dropped w = false

-- the Live key of completions on the interface's stream at the host's port
abbrev pub IsCompletionKey : History → ℕ → Site → KeyName → Type 0
IsCompletionKey h link x key = live_key h (host_port link) (lane_out (host_port link) x.plan.stream Cpl) ≡ Some key

-- The oldest read is dropped exactly if its interface may not have the completion. If it may, the completion is sent on
-- the interface's stream; but not under a key from before the floor, of which the answer asks for a newer one.
pub record IsAnsweredFor (plan : Plan) (h : History) (link : ℕ) (r : WaitingRead) (x : Site) (w : Verdict) : Type 0
  where
    pub dropped : (is_dropped w ≡ true) ↔ (MayHave plan h link r x → ⊥)
    pub early : MayHave plan h link r x → (key : KeyName) → IsCompletionKey h link x key → key.draw < floor_at h x
        → w ≡ v.Interface (iv.RefusedRefreshFirst key.draw (floor_at h x))
    pub sent : MayHave plan h link r x → ((key : KeyName) → IsCompletionKey h link x key → floor_at h x ≤ key.draw)
        → IsAnsweredAsSend (lanes_at plan h (host_port link) x.plan.stream) Cpl false w

-- it is answered for the interface of the link with its requester ID
pub record IsAnsweredForOwner (plan : Plan) (h : History) (link : ℕ) (r : WaitingRead) (w : Verdict) : Type 0 where
  pub interface : Site
  pub owns : site_of_requester plan link r.read.requester ≡ Some interface
  pub answered : IsAnsweredFor plan h link r interface w

-- no read waits at a port exactly if as many were taken there as were queued, since its link's last reset
abbrev pub NoneWaits : Plan → History → PortName → Type 0
NoneWaits plan h port = reads_taken h port ≡ length (queued_reads plan h port)

abbrev pub IsOldestAt : Plan → History → PortName → WaitingRead → Type 0
IsOldestAt plan h port r = slice_get (queued_reads plan h port) (reads_taken h port) ≡ Some r

-- If one waits, the oldest is answered.
pub record IsAnsweredOn (plan : Plan) (h : History) (link : ℕ) (w : Verdict) : Type 0 where
  pub empty : (w ≡ v.Access (av.Empty link)) ↔ NoneWaits plan h (host_port link)
  pub oldest : (r : WaitingRead) → IsOldestAt plan h (host_port link) r → IsAnsweredForOwner plan h link r w

-- ---- responses

abbrev pub is_refresh_first : Verdict → Bool
is_refresh_first (v.Interface (iv.RefusedRefreshFirst draw floor)) = true
is_refresh_first w = false

-- If one waits at the device, the completion of the oldest that is neither dropped nor refused until a refresh is sent
-- at the end and on the stream on which that came.
pub record IsRespondedOn (plan : Plan) (h : History) (link : ℕ) (w : Verdict) : Type 0 where
  pub empty : (w ≡ v.Access (av.Empty link)) ↔ NoneWaits plan h (device_port link)
  pub oldest : (r : WaitingRead) → IsOldestAt plan h (device_port link) r → is_dropped w ≡ false
      → is_refresh_first w ≡ false → IsAnsweredAsSend (lanes_at plan h r.came.end r.came.stream) Cpl false w

-- ---- the law

abbrev pub AnswersSend : Plan → History → Event → Verdict → Type 0
AnswersSend plan h (event.Send end bytes more trusted) w = may_send plan end ≡ true → IsSentOn plan h end bytes more w
AnswersSend plan h (event.Forward link d) w = has_hop plan link ≡ true → IsForwardedOn plan h link d w
AnswersSend plan h (Access (ae.Answer link)) w = has_link plan link ≡ true → IsAnsweredOn plan h link w
AnswersSend plan h (Access (ae.Respond link)) w = has_link plan link ≡ true → IsRespondedOn plan h link w
AnswersSend plan h e w = Unit {0}

-- at each send, forward, answer and response
abbrev pub SendLaw : Plan → History → Type 0
SendLaw plan h = AtPairs (AnswersSend plan) h
