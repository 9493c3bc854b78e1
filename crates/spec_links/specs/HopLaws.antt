-- What the switch of a hop does: it seals the TLPs that it accepted, as they came and in order, and what is not for its
-- stream goes through it.
use Rattle.std.specs.Prelude.{if◌then◌else◌, ◌&&◌, ◌++◌, ◌==◌, ◌∷◌, ◌≡◌, ◌≤◌, Bool, List, [], filter, length, map, not}
use Rattle.std.specs.Prelude.{false, true, ℕ}
use Rattle.spec_links.specs.Terms.{PortName, Plan, Event, Establish, Reset, Verdict, Sealed, SealedPacket, SubKind}
use Rattle.spec_links.specs.Terms.{History, Pass, Alter, Cut, Arrive, KeyPlace, Site, place_keys, failed_there}
use Rattle.ide_types.specs.Lines.{near_hop_line, far_hop_line}
use Rattle.ide_types.specs.Sub.{is_same_sub}
use Rattle.ide_types.specs.declared.direction.Direction.{Direction}
use Rattle.spec_keys.specs.History.{begins_keyed, draws, manager, op_of}
use Rattle.spec_links.specs.Plan.{SubStream, is_same_port}
use Rattle.spec_links.specs.History.{sent_bytes, sealed_packets, accepted_packets, packets_in_hold}
use Rattle.spec_links.specs.Hops.{HopTlp, has_hop, entering_end, leaving_end, clears_hop}
use Rattle.spec_links.specs.Memory.{accepted_tlps, hop_waiting, waiting_reads, writes}
use Rattle.spec_links.specs.Guarded.{link_happenings}
use Rattle.ide_types.specs.declared.port.Side.{Side}
use Rattle.spec_interfaces.specs.Views.{managed_view}
use Rattle.spec_interfaces.specs.Devices.{interface_at}
use Rattle.spec_links.specs.Laws.{IsPrefixOf}
use Rattle.event_verdicts.specs.declared.verdict.Verdict.TheVariants as v

-- ---- what was sealed

-- a sealed packet carries a TLP that this end sealed
abbrev pub is_tlp_of_sender : PortName → SealedPacket → Bool
is_tlp_of_sender end d = not d.sync && is_same_port d.port end

abbrev pub sealed_tlp : List ℕ → SealedPacket → HopTlp
sealed_tlp bytes d = record { sub = d.sub; bytes = bytes; t = d.t }

-- the TLPs that an end sealed since the last reset of the link's hop, in order
unfoldable pub tlps_since_reset : Plan → History → ℕ → PortName → List HopTlp
tlps_since_reset plan [] link end = []
tlps_since_reset plan ((e, Sealed ds) ∷ h) link end =
    tlps_since_reset plan h link end ++ map (sealed_tlp (sent_bytes plan h e)) (filter (is_tlp_of_sender end) ds)
tlps_since_reset plan ((Reset k ends, v.Reset l) ∷ h) link end =
    if clears_hop ends link then [] else tlps_since_reset plan h link end
tlps_since_reset plan (_ ∷ h) link end = tlps_since_reset plan h link end

-- those of a sub-stream
abbrev pub in_sub : SubKind → List HopTlp → List HopTlp
in_sub u xs = filter (λ (x : HopTlp). is_same_sub x.sub u) xs

-- ---- draws

-- the draws that the stream of a segment was given since then, the newest first
unfoldable pub draws_since : History → ℕ → ℕ → List ℕ
draws_since [] link line = []
draws_since ((Establish l s loss, w) ∷ h) link line =
    if (l == line) && begins_keyed (op_of h l s) (draws h) w then draws h ∷ draws_since h link line
    else draws_since h link line
draws_since ((Reset k ends, v.Reset l) ∷ h) link line = if clears_hop ends link then [] else draws_since h link line
draws_since (_ ∷ h) link line = draws_since h link line

-- each segment had one draw at most
pub record OneDraw (h : History) (link : ℕ) : Type 0 where
  pub near : length (draws_since h link (near_hop_line link)) ≤ 1
  pub far : length (draws_since h link (far_hop_line link)) ≤ 1

-- ---- the law

-- Since its link's last reset a hop sealed TLPs that it had accepted: those that it sealed at one side are the first of
-- those that it accepted at the other, in their order over all sub-streams, with their payload and T.
abbrev pub ForwardsInOrder : Plan → History → Type 0
ForwardsInOrder plan h =
    (link : ℕ) (d : Direction) → has_hop plan link ≡ true
    → IsPrefixOf (tlps_since_reset plan h link (leaving_end link d)) (accepted_tlps plan h link (entering_end link d))

-- so in each sub-stream
abbrev pub ForwardsEach : Plan → History → Type 0
ForwardsEach plan h =
    (link : ℕ) (d : Direction) (u : SubKind) → has_hop plan link ≡ true
    → IsPrefixOf (in_sub u (tlps_since_reset plan h link (leaving_end link d)))
    (in_sub u (accepted_tlps plan h link (entering_end link d)))

-- ---- what goes through

-- the event brings bytes to a port
abbrev pub brings_bytes : Event → Bool
brings_bytes (Pass n) = true
brings_bytes (Alter n at mask) = true
brings_bytes (Cut n len) = true
brings_bytes (Arrive port bytes) = true
brings_bytes e = false

-- These are as they were: the packets that were sealed, operations and keys, failures, what was got and what is held,
-- what waits, what stands in memory, views and interfaces.
pub record IsUnchanged (plan : Plan) (h : History) (e : Event) (w : Verdict) : Type 0 where
  pub sealed : sealed_packets plan ((e, w) ∷ h) ≡ sealed_packets plan h
  pub operations : manager ((e, w) ∷ h) ≡ manager h
  pub keys : (p : KeyPlace) → place_keys ((e, w) ∷ h) p ≡ place_keys h p
  pub failures : (side : Side) (line stream : ℕ)
      → failed_there ((e, w) ∷ h) side line stream ≡ failed_there h side line stream
  pub accepted : (s : SubStream) (j : ℕ) → accepted_packets plan ((e, w) ∷ h) s j ≡ accepted_packets plan h s j
  pub pending_packets : (s : SubStream) (j n : ℕ) → packets_in_hold plan ((e, w) ∷ h) s j n
      ≡ packets_in_hold plan h s j n
  pub switches : (link : ℕ) (d : Direction) → hop_waiting plan ((e, w) ∷ h) link d ≡ hop_waiting plan h link d
  pub reads : (port : PortName) → waiting_reads plan ((e, w) ∷ h) port ≡ waiting_reads plan h port
  pub memory : writes plan ((e, w) ∷ h) ≡ writes plan h
  pub devices : (link : ℕ) → link_happenings plan ((e, w) ∷ h) link ≡ link_happenings plan h link
  pub views : (x : Site) → managed_view ((e, w) ∷ h) x ≡ managed_view h x
  pub interfaces : (x : Site) → interface_at plan ((e, w) ∷ h) x ≡ interface_at plan h x
