-- What stands of one stream, whatever verified on others.
use Rattle.std.specs.Prelude.{◌≡◌, ◌∷◌, ℕ, true, [], Some, Ok}
use Rattle.ide_types.specs.Fits.{FitsPlan}
use Rattle.spec_links.specs.Terms.{Plan, Event, Verdict, Accepted, History}
use Rattle.spec_links.specs.Plan.{SubStream}
use Rattle.spec_links.specs.Cause.{CauseLaw}
use Rattle.spec_links.specs.History.{ArrivedBytes, arrival_of_event, accepted_packets, sent_packets}
use Rattle.spec_links.specs.Due.{Ending, before_tag, is_verified}
use Rattle.spec_links.specs.Delivered.{tlps_got, tlps_sent}
use Rattle.spec_links.specs.Laws.{IsPrefixOf, TotalsFit, WasSealed}
use Rattle.spec_links.specs.Ordered.{BehindPosted}
use Rattle.law_delivery.specs.NoForgeryUnder.{EachPairIf}
use Rattle.law_delivery.specs.LocalLaws.{ComesAfterOlder}
use Rattle.law_memory.specs.Origin.{AreFrom}
use Rattle.law_memory.specs.ReadLaws.{QueuedFrom}
use Rattle.law_bytes.specs.LocalLaws.{ByteOriginIf}
use Rattle.law_bytes.specs.MmioOrigin.{StoresAsked}
use Rattle.law_bindings.specs.OverPeers.{AcceptsFromOwners, StoresOverPeers}

-- A tag of the stream on the line that verifies at this event, at either end, was made by the partner.
abbrev pub NotForgedOn : Plan → History → Event → ℕ → ℕ → Type 0
NotForgedOn plan h e line stream =
    (a : ArrivedBytes) (x : Ending) → arrival_of_event plan h e ≡ Some a → before_tag plan h a ≡ Ok x
    → a.port.line ≡ line → x.unit.stream ≡ stream → is_verified plan h a.port x ≡ true → WasSealed plan h a.port x

-- No tag of the stream on the line verified on a unit that its partner had not sealed.
abbrev pub NoForgeryOn : Plan → History → ℕ → ℕ → Type 0
NoForgeryOn plan [] line stream = Unit {0}
NoForgeryOn plan ((event, verdict) ∷ h) line stream =
    NotForgedOn plan h event line stream × NoForgeryOn plan h line stream

-- if a unit is accepted here, it is of the stream
abbrev pub IsOfStream : ℕ → ℕ → Plan → History → Event → Verdict → Type 0
IsOfStream line stream plan h e (Accepted port unit effects) = (port.line ≡ line) × (unit.stream ≡ stream)
IsOfStream line stream plan h e w = Unit {0}

-- The laws that suppose that no tag was forged, of one stream.
pub record StreamStands (plan : Plan) (h : History) (line stream : ℕ) : Type 0 where
  -- each of its sub-streams got a prefix of what was sealed, and delivered a prefix of the TLPs that were sent
  pub prefix : (s : SubStream) (j : ℕ) → s.line ≡ line → s.stream ≡ stream
      → IsPrefixOf (accepted_packets plan h s j) (sent_packets plan h s j)
  pub delivered : (s : SubStream) (j : ℕ) → s.line ≡ line → s.stream ≡ stream
      → IsPrefixOf (tlps_got plan h s j) (tlps_sent plan h s j)
  -- on a closed stream nothing of a newer key was accepted before all of the older ones
  pub older : EachPairIf (IsOfStream line stream) ComesAfterOlder plan h
  -- non-posted packets and completions came after what was posted before them
  pub ordered : EachPairIf (IsOfStream line stream) BehindPosted plan h
  -- each write that was admitted, and each read that was queued at a host's port, was sealed by its interface in the
  -- same RUN
  pub writes : EachPairIf (IsOfStream line stream) AreFrom plan h
  pub reads : EachPairIf (IsOfStream line stream) QueuedFrom plan h
  -- each trusted write that was stored was asked for
  pub stored : EachPairIf (IsOfStream line stream) StoresAsked plan h
  -- each packet with T between devices came from its owner, and each of their writes that was stored was stored in an
  -- interface that is bound too, and was in no other RUN since
  pub from_owners : EachPairIf (IsOfStream line stream) AcceptsFromOwners plan h
  pub over_peers : EachPairIf (IsOfStream line stream) StoresOverPeers plan h
  -- each byte of trusted memory that was left by a write on it was sent
  pub bytes : ByteOriginIf (IsOfStream line stream) plan h

-- A stream of a line stands if no tag of it was forged: whatever verified on other streams, links, hops and streams
-- between devices.
abbrev pub StreamsStandAlone : Plan → History → Type 0
StreamsStandAlone plan h = (line stream : ℕ) → NoForgeryOn plan h line stream → StreamStands plan h line stream

abbrev pub StreamsStandAloneHolds : Type 0
StreamsStandAloneHolds =
    (plan : Plan) → FitsPlan plan → (h : History) → CauseLaw plan h → TotalsFit plan h → StreamsStandAlone plan h
