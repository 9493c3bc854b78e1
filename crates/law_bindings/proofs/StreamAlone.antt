-- What stands of one stream, whatever verified on others: the laws of sub-streams and of units suppose no more than
-- that no tag of it was forged.
use Rattle.law_sealing.proofs.Terms.{◌≡◌, ℕ, ◌+◌, [], ◌∷◌, ◌++◌, ap, sym, subst, ◌∙◌, Plan, SubStream, History, Event}
use Rattle.law_sealing.proofs.Terms.{Verdict, Accepted, received_in, posted_lane}
use Rattle.law_delivery.specs.NoForgeryUnder.{NoForgeryUnder, UnitIsUnforged, OfPair, EachPairIf}
use Rattle.law_delivery.specs.LocalLaws.{IsUnforgedFromBase, IsPostedUnforged, ComesAfterOlder}
use Rattle.law_delivery.proofs.AllLaws.{prefix_law, delivery_law}
use Rattle.law_delivery.proofs.OrderLaws.{order_law}
use Rattle.spec_links.specs.Ordered.{BehindPosted}
use Rattle.law_memory.specs.Origin.{AreFrom}
use Rattle.law_memory.specs.ReadLaws.{QueuedFrom}
use Rattle.law_memory.proofs.AllLaws.{origin_law, read_origin_law}
use Rattle.law_bytes.specs.LocalLaws.{HasOriginIf, ShowsSentIf, ByteOriginIf}
use Rattle.law_bytes.specs.MmioOrigin.{StoresAsked}
use Rattle.law_bytes.proofs.MmioOrigins.{mmio_origin}
use Rattle.law_bytes.proofs.Shown.{byte_origin}
use Rattle.law_bindings.specs.OverPeers.{AcceptsFromOwners, StoresOverPeers}
use Rattle.law_bindings.specs.StreamAlone.{NoForgeryOn, IsOfStream, StreamsStandAloneHolds}
use Rattle.law_bindings.proofs.OverPeers.{peer_origin_law, peer_store_law}
use Rattle.script_events.specs.declared.event.Event.TheVariants as event
use Rattle.script_events.specs.declared.event.InterfaceEvent.TheVariants as ie
use Rattle.event_verdicts.specs.declared.verdict.Verdict.TheVariants as v
use Rattle.ide_types.specs.declared.verdict.InterfaceVerdict.TheVariants as iv

-- ---- its sub-streams

of_stream : (plan : Plan) (h : History) (line stream : ℕ) → NoForgeryOn plan h line stream → (s : SubStream) (j : ℕ)
    → s.line ≡ line → s.stream ≡ stream → NoForgeryUnder plan h s j
of_stream plan [] line stream none s j on_line on_stream = tt
of_stream plan ((e, w) ∷ h) line stream none s j on_line on_stream = (
  λ a x is before same draw. none.0 a x is before (ap (λ (t : SubStream). t.line) same ∙ on_line)
      (ap (λ (t : SubStream). t.stream) same ∙ on_stream),
  of_stream plan h line stream none.1 s j on_line on_stream,
)

-- ---- its units

module _ (plan : Plan) (line stream : ℕ) where
  unit_unforged : (h : History) (e : Event) (w : Verdict) → NoForgeryOn plan ((e, w) ∷ h) line stream
      → IsOfStream line stream plan h e w → UnitIsUnforged plan h e w
  unit_unforged h e (Accepted port unit effects) none on =
      of_stream plan ((e, Accepted port unit effects) ∷ h) line stream none (received_in port unit) unit.draw on.0 on.1
  unit_unforged h e w none on = tt

  unforged_from_base : (h : History) (e : Event) (w : Verdict) → NoForgeryOn plan ((e, w) ∷ h) line stream
      → IsOfStream line stream plan h e w → IsUnforgedFromBase plan h e w
  unforged_from_base h e (Accepted port unit effects) none on = λ j least.
      of_stream plan ((e, Accepted port unit effects) ∷ h) line stream none (received_in port unit) j on.0 on.1
  unforged_from_base h e w none on = tt

  posted_unforged : (h : History) (e : Event) (w : Verdict) → NoForgeryOn plan ((e, w) ∷ h) line stream
      → IsOfStream line stream plan h e w → IsPostedUnforged plan h e w
  posted_unforged h e (Accepted port unit effects) none on = λ j least.
      of_stream plan ((e, Accepted port unit effects) ∷ h) line stream none (posted_lane (received_in port unit)) j on.0
      on.1
  posted_unforged h e w none on = tt

  of_its_pairs : (premise says : OfPair) → ((h : History) (e : Event) (w : Verdict)
      → NoForgeryOn plan ((e, w) ∷ h) line stream → IsOfStream line stream plan h e w → premise plan h e w)
      → (h : History) → NoForgeryOn plan h line stream → EachPairIf premise says plan h
      → EachPairIf (IsOfStream line stream) says plan h
  of_its_pairs premise says gives [] none each = tt
  of_its_pairs premise says gives ((e, w) ∷ h) none each =
      (λ on. each.0 (gives h e w none on), of_its_pairs premise says gives h none.1 each.1)

  -- ---- its bytes

  none_at : (since g h : History) → since ++ g ≡ h → NoForgeryOn plan h line stream → NoForgeryOn plan g line stream
  none_at since g h is none = by since (subst (λ (k : History). NoForgeryOn plan k line stream) (sym is) none)
    where
      by : (since : History) → NoForgeryOn plan (since ++ g) line stream → NoForgeryOn plan g line stream
      by [] f = f
      by ((e, w) ∷ since) f = by since f.1

  origin_on : (h : History) (at byte : ℕ) → NoForgeryOn plan h line stream → HasOriginIf UnitIsUnforged plan h at byte
      → HasOriginIf (IsOfStream line stream) plan h at byte
  origin_on h at byte none local =
      let left = local.left in
      let here : Verdict = Accepted left.port left.unit left.effects in
      record {
        left = left;
        interface = local.interface;
        known = local.known;
        link = local.link;
        stream = local.stream;
        sent = λ on. local.sent (unit_unforged left.older left.event here
            (none_at left.came.since ((left.event, here) ∷ left.older) h left.came.is none) on);
      }

  shows_on : (h : History) (e : Event) (w : Verdict) → NoForgeryOn plan h line stream
      → ShowsSentIf UnitIsUnforged plan h e w → ShowsSentIf (IsOfStream line stream) plan h e w
  shows_on h (event.Interface (ie.Memory at len)) (v.Interface (iv.Memory bytes)) none local = λ k byte is some.
      origin_on h (at + k) byte none (local k byte is some)
  shows_on h (event.Interface (ie.Memory at len)) (v.Interface w) none local = tt
  shows_on h (event.Interface (ie.Memory at len)) w none local = tt
  shows_on h (event.Interface e) w none local = tt
  shows_on h e w none local = tt

  bytes_on : (h : History) → NoForgeryOn plan h line stream → ByteOriginIf UnitIsUnforged plan h
      → ByteOriginIf (IsOfStream line stream) plan h
  bytes_on [] none local = tt
  bytes_on ((e, w) ∷ h) none local = (shows_on h e w none.1 local.0, bytes_on h none.1 local.1)

-- ---- the law

pub streams_stand_alone : StreamsStandAloneHolds
streams_stand_alone plan fits h cause totals line stream none =
    let prefix = prefix_law plan fits h cause totals in
    let units = λ (says : OfPair) (each : EachPairIf UnitIsUnforged says plan h).
    of_its_pairs plan line stream UnitIsUnforged says (unit_unforged plan line stream) h none each in
    record {
      prefix = λ s j on_line on_stream. prefix.prefix s j (of_stream plan h line stream none s j on_line on_stream);
      delivered = λ s j on_line on_stream.
          delivery_law plan fits h cause s j (of_stream plan h line stream none s j on_line on_stream);
      older = of_its_pairs plan line stream IsUnforgedFromBase ComesAfterOlder (unforged_from_base plan line stream) h
          none prefix.older;
      ordered = of_its_pairs plan line stream
          (λ plan h e w. IsUnforgedFromBase plan h e w × IsPostedUnforged plan h e w) BehindPosted
          (λ h e w none on. (
            unforged_from_base plan line stream h e w none on,
            posted_unforged plan line stream h e w none on,
          )) h none (order_law plan fits h cause totals);
      writes = units AreFrom (origin_law plan fits h cause);
      reads = units QueuedFrom (read_origin_law plan fits h cause);
      stored = units StoresAsked (mmio_origin plan fits h cause);
      from_owners = units AcceptsFromOwners (peer_origin_law plan fits h cause);
      over_peers = units StoresOverPeers (peer_store_law plan fits h cause);
      bytes = bytes_on plan line stream h none (byte_origin plan fits h cause);
    }
