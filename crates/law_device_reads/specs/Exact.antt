-- Exactly which reads are queued at a device's port, and why others are blocked; and exactly what a response comes to:
-- why a read that waits is dropped, and why its completion is refused.
use Rattle.std.specs.Prelude.{ℕ, ◌≡◌, ◌<◌, ◌↔◌, ◌+◌, ◌&&◌, ◌||◌, ◌∷◌, nat_le, Bool, true, false, not}
use Rattle.std.specs.Prelude.{if◌then◌else◌, List, [], length, filter, take, slice_get, is_some, unwrap_or, Option}
use Rattle.std.specs.Prelude.{Some, None, Ok}
use Rattle.ide_types.specs.Ports.{device_port}
use Rattle.ide_types.specs.declared.sub.SubKind.TheVariants.{Cpl}
use Rattle.spec_links.specs.Terms.{Plan, Event, Access, Effect, Verdict, Accepted, Packet, History}
use Rattle.spec_links.specs.Terms.{is_sync_packet, read_head_of, MemReadView, memory_read, history_statuses}
use Rattle.spec_links.specs.Terms.{Claim, claim_of, ReadArrival, ReadTarget}
use Rattle.spec_links.specs.Plan.{has_link, lane_out}
use Rattle.spec_links.specs.Ports.{port_of}
use Rattle.spec_links.specs.History.{live_key}
use Rattle.spec_links.specs.Due.{is_before, draw_of, lanes_at, refusals, first_that_holds}
use Rattle.spec_links.specs.Memory.{unit_ended, queued_reads, waiting_reads}
use Rattle.spec_links.specs.Sent.{reads_taken}
use Rattle.tlp_layout.specs.declared.head.HeadView.{HeadView}
use Rattle.trusted_memory.specs.declared.span.Span.{Span}
use Rattle.trusted_memory.specs.Spans.{crosses}
use Rattle.interface_state.specs.Bindings.{floor_on}
use Rattle.guarded_memory.specs.Laws.{is_from_floor}
use Rattle.guarded_memory.specs.DeviceReads.{is_same_target, claimed_target}
use Rattle.guarded_memory.specs.Statuses.{is_open_range, is_config_unlocked, is_in_run}
use Rattle.script_events.specs.declared.event.AccessEvent.TheVariants as ae
use Rattle.ide_types.specs.declared.verdict.InterfaceVerdict.TheVariants as iv
use Rattle.event_verdicts.specs.declared.access.AccessVerdict.TheVariants as av
use Rattle.event_verdicts.specs.declared.verdict.BlockCause.{BlockCause}
use Rattle.event_verdicts.specs.declared.verdict.BlockCause.TheVariants as cause
use Rattle.event_verdicts.specs.declared.verdict.Effect.TheVariants as effect
use Rattle.event_verdicts.specs.declared.verdict.Verdict.TheVariants as v
use Rattle.law_device_reads.specs.Oldest.{IsOldestAtDevice}

-- ---- causes in their order

-- the first of these that holds
abbrev pub first_holding : List (Bool × BlockCause) → Option BlockCause
first_holding [] = None
first_holding ((holds, c) ∷ causes) = if holds then Some c else first_holding causes

-- of a request that a range claims: T is clear, the range is not open, and the interface not in CONFIG_UNLOCKED; T is
-- set, and it is not in RUN, or not bound to the stream, or the draw is below its floor there
abbrev pub access_causes : Claim → Bool → ℕ → ℕ → List (Bool × BlockCause) → List (Bool × BlockCause)
access_causes c t stream draw after =
    (not t && not (is_open_range c.range || is_config_unlocked c.status.state), cause.NotTrusted)
    ∷ (t && not (is_in_run c.status.state), cause.NotRunning)
    ∷ (t && not (is_some (floor_on stream c.status.bound)), cause.WrongStream)
    ∷ (t && not (is_from_floor (floor_on stream c.status.bound) draw), cause.Stale)
    ∷ after

-- of a read as it arrives, while so many wait
abbrev pub arrival_causes : Claim → Span → Bool → ℕ → ℕ → ℕ → List (Bool × BlockCause)
arrival_causes c s t stream draw waiting =
    (crosses s, cause.Crosses) ∷ access_causes c t stream draw ((nat_le 64 waiting, cause.Full) ∷ [])

-- of a read of this interface and BAR that waits
abbrev pub drop_causes : Option Claim → ReadTarget → ReadArrival → List (Bool × BlockCause)
drop_causes None target came = (true, cause.Moved) ∷ []
drop_causes (Some c) target came =
    (not (is_same_target (claimed_target c) target), cause.Moved)
    ∷ access_causes c came.trusted came.stream came.draw []

-- ---- as they arrive

abbrev pub queued_unless : Option BlockCause → Effect
queued_unless None = effect.Queued
queued_unless (Some c) = effect.Blocked c

-- if the device answers reads of what claims it; else it is delivered
abbrev pub read_effect_there : Option Claim → Span → Bool → ℕ → ℕ → ℕ → Effect
read_effect_there None s t stream draw waiting = effect.Delivered
read_effect_there (Some c) s t stream draw waiting =
    if c.status.reads then queued_unless (first_holding (arrival_causes c s t stream draw waiting)) else
    effect.Delivered

abbrev pub is_queued : Effect → Bool
is_queued effect.Queued = true
is_queued e = false

-- those that wait, and those of the unit that were queued before packet n
abbrev pub ahead_of_packet : Plan → History → ℕ → List Effect → ℕ → ℕ
ahead_of_packet plan h link effects n =
    length (waiting_reads plan h (device_port link)) + length (filter is_queued (take n effects))

-- each memory read of a unit that was accepted at a device's port, on any line that ends there
abbrev pub HasReadEffects : Plan → History → Event → Verdict → Type 0
HasReadEffects plan h e (Accepted end unit effects) =
    (link n : ℕ) (p : Packet) (head : HeadView) (read : MemReadView) → port_of plan end ≡ device_port link
    → has_link plan link ≡ true → slice_get (unit_ended plan h e end unit) n ≡ Some p → is_sync_packet p ≡ false
    → read_head_of p.head ≡ Ok head → memory_read head ≡ Some read
    → slice_get effects n ≡ Some (read_effect_there (claim_of (history_statuses plan h link) read.span) read.span
    p.prefix.t unit.stream unit.draw (ahead_of_packet plan h link effects n))
HasReadEffects plan h e w = Unit {0}

-- the packet is a memory read
pub record IsMemoryRead (p : Packet) : Type 0 where
  pub carries : is_sync_packet p ≡ false
  pub head : HeadView
  pub reads : read_head_of p.head ≡ Ok head
  pub read : MemReadView
  pub is_read : memory_read head ≡ Some read

-- nothing else is queued there
abbrev pub QueuesReads : Plan → History → Event → Verdict → Type 0
QueuesReads plan h e (Accepted end unit effects) =
    (link n : ℕ) (p : Packet) → port_of plan end ≡ device_port link → has_link plan link ≡ true
    → slice_get (unit_ended plan h e end unit) n ≡ Some p → slice_get effects n ≡ Some effect.Queued → IsMemoryRead p
QueuesReads plan h e w = Unit {0}

abbrev pub DeviceEffectLaw : Plan → History → Type 0
DeviceEffectLaw plan [] = Unit {0}
DeviceEffectLaw plan ((e, w) ∷ h) = HasReadEffects plan h e w × QueuesReads plan h e w × DeviceEffectLaw plan h

-- ---- as they are answered

abbrev pub drop_cause_in : Verdict → Option BlockCause
drop_cause_in (v.Access (av.Dropped interface c)) = Some c
drop_cause_in w = None

-- the draw and the floor that a refusal until a refresh names
abbrev pub refresh_first_in : Verdict → Option (ℕ × ℕ)
refresh_first_in (v.Interface (iv.RefusedRefreshFirst draw floor)) = Some (draw, floor)
refresh_first_in w = None

-- what else a verdict says than that packets were sealed
abbrev pub refusal_in : Verdict → Option Verdict
refusal_in (v.Sealed ds) = None
refusal_in w = Some w

-- T is set, and the draw that its completion would be sealed under is below the floor of what claims it, on its stream
abbrev pub older_key : History → Option Claim → ReadArrival → Option (ℕ × ℕ)
older_key h None came = None
older_key h (Some c) came =
    let key = live_key h came.end (lane_out came.end came.stream Cpl) in
    let floor = unwrap_or (floor_on came.stream c.status.bound) 0 in
    if came.trusted && is_before key floor then Some (draw_of key, floor) else None

-- The oldest read is dropped exactly by the first cause that holds now. If none holds, it is refused until a refresh
-- exactly under an older key. Else its completion is sealed, or refused by what refuses a completion that is sent at
-- that end on that stream, exactly by the first refusal that holds.
pub record IsExactResponse (plan : Plan) (h : History) (link : ℕ) (w : Verdict) : Type 0 where
  pub of : IsOldestAtDevice plan h link
  pub claim : Option Claim
  pub claims : claim_of (history_statuses plan h link) of.read.read.span ≡ claim
  pub dropped : drop_cause_in w ≡ first_holding (drop_causes claim of.target of.read.came)
  pub refused : first_holding (drop_causes claim of.target of.read.came) ≡ None
      → refresh_first_in w ≡ older_key h claim of.read.came
  pub sent : first_holding (drop_causes claim of.target of.read.came) ≡ None
      → older_key h claim of.read.came ≡ None
      → refusal_in w ≡ first_that_holds (refusals (lanes_at plan h of.read.came.end of.read.came.stream) Cpl)

-- There is no such link; no read waits, and only then it is empty; else the oldest that waits is answered.
pub record RespondsAsDue (plan : Plan) (h : History) (link : ℕ) (w : Verdict) : Type 0 where
  pub unknown : has_link plan link ≡ false → w ≡ v.Nothing
  pub empty : has_link plan link ≡ true → (w ≡ v.Access (av.Empty link))
      ↔ (reads_taken h (device_port link) ≡ length (queued_reads plan h (device_port link)))
  pub oldest : has_link plan link ≡ true
      → reads_taken h (device_port link) < length (queued_reads plan h (device_port link))
      → IsExactResponse plan h link w

abbrev pub RespondsExactly : Plan → History → Event → Verdict → Type 0
RespondsExactly plan h (Access (ae.Respond link)) w = RespondsAsDue plan h link w
RespondsExactly plan h e w = Unit {0}

abbrev pub RespondLaw : Plan → History → Type 0
RespondLaw plan [] = Unit {0}
RespondLaw plan ((e, w) ∷ h) = RespondsExactly plan h e w × RespondLaw plan h
