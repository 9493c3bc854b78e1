-- The laws of where bytes come from, each supposing that no tag was forged of just the sub-stream and draw under which
-- its packet came.
use Rattle.std.specs.Prelude.{◌≡◌, ◌≢◌, ◌+◌, ◌<◌, ◌≤◌, ◌∷◌, ℕ, List, [], length, Some}
use Rattle.std.specs.Prelude.{slice_get}
use Rattle.ide_types.specs.Fits.{FitsPlan}
use Rattle.spec_links.specs.Terms.{PortName, Plan, Event, Effect, UnitName, Verdict, Accepted, History}
use Rattle.spec_links.specs.Cause.{CauseLaw}
use Rattle.spec_links.specs.Memory.{accepted_unit_writes, writes}
use Rattle.spec_interfaces.specs.Sites.{Site, site_at}
use Rattle.law_verdicts.specs.{CameFrom}
use Rattle.law_delivery.specs.NoForgeryUnder.{UnitIsUnforged, OfPair, EachPairIf}
use Rattle.law_bytes.specs.ByteOrigin.{WasSent}
use Rattle.law_bytes.specs.MmioOrigin.{StoresAsked}
use Rattle.law_mmio.specs.Numbers.{IsOfWrite}
use Rattle.script_events.specs.declared.event.Event.TheVariants as event
use Rattle.script_events.specs.declared.event.InterfaceEvent.TheVariants as ie
use Rattle.event_verdicts.specs.declared.verdict.Verdict.TheVariants as v
use Rattle.ide_types.specs.declared.verdict.InterfaceVerdict.TheVariants as iv

-- each packet with T whose write is stored in the memory of an interface
abbrev pub LocalMmioOriginLaw : Plan → History → Type 0
LocalMmioOriginLaw plan h = EachPairIf UnitIsUnforged StoresAsked plan h

-- The write that left the byte at an address, of those that were admitted, and the pair that admitted it.
pub record IsLeftBy (plan : Plan) (h : History) (at byte : ℕ) : Type 0 where
  pub of : IsOfWrite (writes plan h) at byte
  pub event : Event
  pub port : PortName
  pub unit : UnitName
  pub effects : List Effect
  pub older : History
  pub came : CameFrom ((event, Accepted port unit effects) ∷ older) h
  pub from : length (writes plan older) + of.place < length (writes plan h)
  pub until : length (writes plan h) ≤ of.place + length (writes plan ((event, Accepted port unit effects) ∷ older))
  pub number : ℕ
  pub admitted : slice_get (accepted_unit_writes plan older event port unit) number ≡ Some (Some of.write)

-- That write came at the port of an interface's link, on the interface's stream. If this holds of its pair, the
-- interface had sent it in the RUN that it was in then.
pub record HasOriginIf (premise : OfPair) (plan : Plan) (h : History) (at byte : ℕ) : Type 0 where
  pub left : IsLeftBy plan h at byte
  pub interface : Site
  pub known : site_at plan interface.number ≡ Some interface
  pub link : interface.link ≡ left.port.line
  pub stream : interface.plan.stream ≡ left.unit.stream
  pub sent : premise plan left.older left.event (Accepted left.port left.unit left.effects)
      → WasSent plan left.older interface left.of.write

-- each byte of memory that is shown is 0, or has such an origin
abbrev pub ShowsSentIf : OfPair → Plan → History → Event → Verdict → Type 0
ShowsSentIf premise plan h (event.Interface (ie.Memory at len)) (v.Interface (iv.Memory bytes)) =
    (k byte : ℕ) → slice_get bytes k ≡ Some byte → byte ≢ 0 → HasOriginIf premise plan h (at + k) byte
ShowsSentIf premise plan h e w = Unit {0}

abbrev pub ByteOriginIf : OfPair → Plan → History → Type 0
ByteOriginIf premise plan [] = Unit {0}
ByteOriginIf premise plan ((e, w) ∷ h) = ShowsSentIf premise plan h e w × ByteOriginIf premise plan h

-- if no tag was forged of the sub-stream and draw under which that write came, up to its unit
abbrev pub LocalByteOriginLaw : Plan → History → Type 0
LocalByteOriginLaw plan h = ByteOriginIf UnitIsUnforged plan h

abbrev pub LocalMmioOriginHolds : Type 0
LocalMmioOriginHolds = (plan : Plan) → FitsPlan plan → (h : History) → CauseLaw plan h → LocalMmioOriginLaw plan h

abbrev pub LocalByteOriginHolds : Type 0
LocalByteOriginHolds = (plan : Plan) → FitsPlan plan → (h : History) → CauseLaw plan h → LocalByteOriginLaw plan h
