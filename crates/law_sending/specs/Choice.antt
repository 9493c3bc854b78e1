-- On which stream a TLP goes out, and when it goes out in clear (the order of choice is this profile's; ranges are
-- those of PCI Express Base 6.0 section 6.33).
use Rattle.std.specs.Prelude.{◌≡◌, ◌⊎◌, ◌≤◌, ℕ, Bool, true, false, List, Option, Some, None, Ok, slice_get}
use Rattle.spec_links.specs.Terms.{AllByRecursion, Plan, PortName, Event, Access, SealedPacket, Verdict, History}
use Rattle.spec_links.specs.Terms.{Tlp, header, read_of}
use Rattle.spec_links.specs.Plan.{streams_of}
use Rattle.spec_links.specs.Ports.{may_send, port_of}
use Rattle.ide_types.specs.Ends.{hop_end, link_hop}
use Rattle.ide_types.specs.declared.plan.HopPlan.{HopPlan}
use Rattle.ide_types.specs.declared.port.Side.{Side}
use Rattle.ide_types.specs.declared.stream.AddressRange.{AddressRange}
use Rattle.ide_types.specs.declared.stream.IdRange.{IdRange}
use Rattle.ide_types.specs.declared.stream.Selector.{Selector}
use Rattle.ide_types.specs.declared.stream.Selector.TheVariants.{Selective, Link}
use Rattle.ide_types.specs.declared.stream.StreamPlan.{StreamPlan}
use Rattle.tlp_layout.specs.declared.head.HeadView.{HeadView}
use Rattle.tlp_layout.specs.Choice.{address_of, id_of}
use Rattle.law_locks.specs.Fronts.{AtPairs}
use Rattle.script_events.specs.declared.event.Event.TheVariants as event
use Rattle.script_events.specs.declared.event.AccessEvent.TheVariants as ae
use Rattle.event_verdicts.specs.declared.verdict.Verdict.TheVariants as v

-- ---- what a stream is for

-- one of the ranges has the address
pub record IsAddressIn (ranges : List AddressRange) (address : ℕ) : Type 0 where
  pub place : ℕ
  pub range : AddressRange
  pub stands : slice_get ranges place ≡ Some range
  pub from : range.base ≤ address
  pub to : address ≤ range.limit

abbrev pub HasAddress : List AddressRange → Option ℕ → Type 0
HasAddress ranges None = ⊥
HasAddress ranges (Some address) = IsAddressIn ranges address

-- the range has the ID
abbrev pub HasId : Option IdRange → Option ℕ → Type 0
HasId None id = ⊥
HasId (Some range) None = ⊥
HasId (Some range) (Some id) = (range.base ≤ id) × (id ≤ range.limit)

-- A selective stream has a range with the address of the memory request, or with the TLP's ID. At a host's port that is
-- the destination of a configuration request or of a message routed by ID, and the requester of a completion; at a
-- device's port the requester of a request, and the completer of a completion.
abbrev pub HasRangeFor : Side → HeadView → Selector → Type 0
HasRangeFor side head (Selective ids addresses default) =
    HasAddress addresses (address_of head.fields) ⊎ HasId ids (id_of side head.fields)
HasRangeFor side head (Link classes) = ⊥

abbrev pub IsDefault : Selector → Type 0
IsDefault (Selective ids addresses default) = default ≡ true
IsDefault (Link classes) = ⊥

pub record IsInList (n : ℕ) (ns : List ℕ) : Type 0 where
  pub place : ℕ
  pub stands : slice_get ns place ≡ Some n

-- a link stream lists the traffic class
abbrev pub ListsClass : ℕ → Selector → Type 0
ListsClass class (Selective ids addresses default) = ⊥
ListsClass class (Link classes) = IsInList class classes

-- ---- the stream that takes a TLP

-- it is the least ID of the streams of which this holds
pub record IsLeast (streams : List StreamPlan) (Holds : Selector → Type 0) (id : ℕ) : Type 0 where
  pub place : ℕ
  pub stream : StreamPlan
  pub stands : slice_get streams place ≡ Some stream
  pub holds : Holds stream.selector
  pub is : stream.id ≡ id
  pub least : (n : ℕ) (other : StreamPlan) → slice_get streams n ≡ Some other → Holds other.selector → id ≤ other.id

-- it holds of none
abbrev pub IsOfNone : List StreamPlan → (Selector → Type 0) → Type 0
IsOfNone streams Holds = (n : ℕ) (s : StreamPlan) → slice_get streams n ≡ Some s → Holds s.selector → ⊥

-- Of the streams of a line this one takes a TLP that is sent at an end: the least-numbered that has a range for it; if
-- none has one the default stream; if there is none the link stream that lists its traffic class.
abbrev pub TakesTlp : List StreamPlan → Side → HeadView → ℕ → Type 0
TakesTlp streams side head id =
    IsLeast streams (HasRangeFor side head) id
    ⊎ (IsOfNone streams (HasRangeFor side head)
    × (IsLeast streams IsDefault id
    ⊎ (IsOfNone streams IsDefault × IsLeast streams (ListsClass head.lead.tc) id)))

-- none takes it
pub record IsTakenByNone (streams : List StreamPlan) (side : Side) (head : HeadView) : Type 0 where
  pub range : IsOfNone streams (HasRangeFor side head)
  pub default : IsOfNone streams IsDefault
  pub class : IsOfNone streams (ListsClass head.lead.tc)

-- ---- the hop

-- the link has a hop with this stream that lists the traffic class
pub record IsListedByHop (plan : Plan) (link class stream : ℕ) : Type 0 where
  pub hop : HopPlan
  pub is : link_hop (slice_get plan.links link) ≡ Some hop
  pub lists : IsInList class hop.classes
  pub id : hop.id ≡ stream

-- ---- where a TLP goes

-- A TLP that is sent at an end goes out at that end on the stream of its line that takes it, or, if none does, at the
-- end of its link's hop, which lists its traffic class.
pub record GoesByHop (plan : Plan) (end : PortName) (head : HeadView) (at : PortName) (stream : ℕ) : Type 0 where
  pub at_hop : at ≡ hop_end end.side end.line
  pub none : IsTakenByNone (streams_of plan end.line) end.side head
  pub lists : IsListedByHop plan end.line head.lead.tc stream

abbrev pub GoesOnStream : Plan → PortName → HeadView → PortName → ℕ → Type 0
GoesOnStream plan end head at stream =
    ((at ≡ end) × TakesTlp (streams_of plan end.line) end.side head stream) ⊎ GoesByHop plan end head at stream

pub record GoesProtected (plan : Plan) (end : PortName) (head : HeadView) : Type 0 where
  pub at : PortName
  pub stream : ℕ
  pub goes : GoesOnStream plan end head at stream

-- nothing protects it
pub record GoesInClear (plan : Plan) (end : PortName) (head : HeadView) : Type 0 where
  pub none : IsTakenByNone (streams_of plan end.line) end.side head
  pub unlisted : (stream : ℕ) → IsListedByHop plan end.line head.lead.tc stream → ⊥

-- ---- the law

abbrev pub is_plain_verdict : Verdict → Bool
is_plain_verdict (v.Plain port) = true
is_plain_verdict w = false

-- It is protected, or nothing protects it. Its verdict is `plain` exactly if nothing does; what is sealed for it is
-- sealed where it goes.
pub record IsSentAsChosen (plan : Plan) (end : PortName) (head : HeadView) (w : Verdict) : Type 0 where
  pub either : GoesProtected plan end head ⊎ GoesInClear plan end head
  pub plain : is_plain_verdict w ≡ true → GoesInClear plan end head
  pub clear : GoesInClear plan end head → w ≡ v.Plain (port_of plan end)
  pub sealed : (ds : List SealedPacket) → w ≡ v.Sealed ds
      → AllByRecursion (λ (d : SealedPacket). GoesOnStream plan end head d.port d.stream) ds

-- at each send of a TLP; an answer, a response and a forward never go out in clear
abbrev pub IsChosen : Plan → History → Event → Verdict → Type 0
IsChosen plan h (event.Send end bytes more trusted) w =
    may_send plan end ≡ true → (t : Tlp) → read_of bytes ≡ Ok t → IsSentAsChosen plan end (header t) w
IsChosen plan h (Access (ae.Answer link)) w = is_plain_verdict w ≡ false
IsChosen plan h (Access (ae.Respond link)) w = is_plain_verdict w ≡ false
IsChosen plan h (event.Forward link d) w = is_plain_verdict w ≡ false
IsChosen plan h e w = Unit {0}

abbrev pub ChoiceLaw : Plan → History → Type 0
ChoiceLaw plan h = AtPairs (IsChosen plan) h
