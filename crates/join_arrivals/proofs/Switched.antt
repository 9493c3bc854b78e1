-- What is queued at a switch is what the machine has wait there: the unit has the packet that came and no other, of its
-- own sub-stream, and its TLP is no longer than one may be.
use Rattle.std.proofs.Common.{◌≡◌, ◌∙◌, ℕ, ◌+◌, ◌≤◌, Bool, true, false, List, [], ◌∷◌, ◌++◌, length, refl, ap, sym}
use Rattle.std.proofs.Common.{subst, arith, inl, inr, ⊎_elim}
use Rattle.std.specs.Prelude.{Option, Some, None, Result, Ok, Err, if◌then◌else◌, nat_le, option_map}
use Rattle.std.proofs.lemmas.Bool.Decides.{nat_tests}
use Rattle.std.proofs.lemmas.List.{append-nil}
use Rattle.std.proofs.lemmas.Option.{none-some, same_Some}
use Rattle.ide_types.specs.declared.direction.Direction.{Direction}
use Rattle.ide_types.specs.declared.direction.Direction.TheVariants.{Downstream, Upstream}
use Rattle.ide_types.specs.declared.port.PortName.{PortName}
use Rattle.ide_types.specs.declared.plan.Plan.{Plan}
use Rattle.ide_prefix.specs.Packet.{Packet, FitsPacket}
use Rattle.ide_prefix.specs.{is_sync_packet, iv_of}
use Rattle.ide_prefix.specs.declared.fault.PacketFault.{PacketFault}
use Rattle.ide_prefix.specs.Reading.{CutValue, PlainTlp, IdePacket, cut_of}
use Rattle.gcm_seal.specs.Gcm.{masked_bytes}
use Rattle.gcm_seal.proofs.Sealing.{length-masked_bytes}
use Rattle.hop_queues.specs.declared.queue.HopTlp.{HopTlp}
use Rattle.hop_queues.specs.declared.queues.HopQueues.{HopQueues}
use Rattle.hop_queues.specs.{most_bytes, queue_of, with_queue}
use Rattle.spec_keys.specs.History.{History}
use Rattle.event_verdicts.specs.declared.verdict.UnitName.{UnitName}
use Rattle.event_verdicts.specs.declared.verdict.Effect.{Effect}
use Rattle.event_verdicts.specs.declared.verdict.Effect.TheVariants as effect
use Rattle.spec_links.specs.Plan.{aggregation_of, has_stream}
use Rattle.spec_links.specs.Ports.{at_switch}
use Rattle.spec_links.specs.Admission.{Policy, effect_by, effects_each, waiting_then}
use Rattle.spec_links.specs.Sent.{reads_by}
use Rattle.trusted_memory.specs.declared.queue.ReadTarget.{ReadTarget}
use Rattle.trusted_memory.specs.declared.span.Span.{Span}
use Rattle.machine_ports.specs.Machine.{LinkState}
unfoldable use Rattle.machine_ports.specs.Machine.{find}
use Rattle.machine_ports.specs.Stands.{PortsStandFor, stream_state_due}
use Rattle.spec_stream.specs.Stream.{StreamState, LiveKey, PacketOutcome, Accepted, stream_outcome, unit_name, live_in}
use Rattle.spec_stream.specs.Stream.{slot_in_set, at_sub}
use Rattle.law_sealing.proofs.Below.{cut_fits}
use Rattle.sub_stream.specs.{opened_from_byte, opened_unit}
use Rattle.ide_port.specs.{opened_if_accepted}
use Rattle.arrival_verdicts.specs.{PortEnd, Found, found_stream, take_step, TakeStep, port_arrival, packet_step}
use Rattle.arrival_verdicts.specs.Verdicts.{of_unit}
use Rattle.arrival_verdicts.specs.Switches.{switched_as, switched_each, unit_waits, queues_after_offer, all_offered}
use Rattle.arrival_verdicts.specs.Switches.{waits_last}
use Rattle.arrival_verdicts.proofs.Waits.{own_tlps}
use Rattle.arrival_verdicts.proofs.Writes.{IsTaken, IsEndOf, taken_is}
use Rattle.join_arrivals.specs.Few.{AreFew, IsOneTlp}
use Rattle.join_arrivals.proofs.Units.{IsAlone, taken_alone, standing_none, short_tlp}

-- ---- the unit

-- what waits of it is its one TLP, or none, by its own sub-stream
abbrev AreItsOwn : List HopTlp → List HopTlp → Type 0
AreItsOwn waits own = (waits ≡ own) × AreFew waits

one_few : (b : Bool) (x : HopTlp) → length x.bytes ≤ most_bytes → AreFew ((if b then [] else x ∷ []) ++ [])
one_few true x short = inl refl
one_few false x short = inr (record { tlp = x; is = refl; short = short })

unit_few : (p : Packet) (x : StreamState) (t : PacketOutcome) → FitsPacket p → IsTaken x p t → IsAlone p t
    → AreItsOwn (of_unit (port_arrival p t) (unit_waits (opened_if_accepted x p t)))
    (of_unit (port_arrival p t) (λ unit. own_tlps (opened_if_accepted x p t)))
unit_few p x (Accepted draw n ps) fits under alone =
    let y : LiveKey = under.key in
    let delivered : opened_if_accepted x p (Accepted draw n ps)
    ≡ opened_unit (Some y) p.prefix.sub (p ∷ []) = (λ i. opened_unit (under.live i) p.prefix.sub (alone i)) in
    subst (λ (qs : List Packet). AreItsOwn (unit_waits qs (unit_name p draw n)) (own_tlps qs)) (sym delivered)
    (one (masked_bytes y.key (iv_of p.prefix.sub (y.units + 1)) 0 p.body)
    (length-masked_bytes y.key (iv_of p.prefix.sub (y.units + 1)) 0 p.body))
  where
    one : (plain : List ℕ) → length plain ≡ length p.body
        → AreItsOwn (unit_waits (record { prefix = p.prefix; head = p.head; body = plain; tag = [] } ∷ [])
        (unit_name p draw n)) (own_tlps (record { prefix = p.prefix; head = p.head; body = plain; tag = [] } ∷ []))
    one plain same = (
      refl,
      one_few (is_sync_packet p)
          (record { sub = p.prefix.sub; bytes = p.head ++ plain; t = p.prefix.t }) (short_tlp p plain fits same),
    )
unit_few p x t fits under alone = (refl, inl refl)

-- ---- bytes that come to an end on a hop's segment

where_it_stands : (b : Bool) (x y : StreamState) → (if b then Some y else None) ≡ Some x → y ≡ x
where_it_stands true x y is = same_Some y x is
where_it_stands false x y is = absurd (none-some x is)

module _ (plan : Plan) (now : LinkState) (h : History) (end : PortName) (here : PortEnd)
    (stands : PortsStandFor plan now h) (is : IsEndOf plan now end here)
    (aggregations : (id : ℕ) → aggregation_of plan end.line id ≡ 1) where
  -- what waits of the unit that this ends
  abbrev FewAt : TakeStep → Type 0
  FewAt t = AreItsOwn (of_unit t.answer (unit_waits t.port.delivered))
      (of_unit t.answer (λ unit. own_tlps t.port.delivered))

  found_few : (p : Packet) (x : Found) → FitsPacket p → found_stream here.plans here.states p.prefix.stream ≡ Some x
      → FewAt (packet_step here p (Some x))
  found_few p x fits at =
      let id : ℕ = p.prefix.stream in
      let seen : find plan now end id ≡ Some x.state =
      is.finds id ∙ ap (λ (o : Option Found). option_map (λ (y : Found). y.state) o) at in
      let state : stream_state_due plan h end id ≡ x.state =
      where_it_stands (has_stream plan end id) x.state (stream_state_due plan h end id)
      (sym (stands.ports_stand.streams end id) ∙ seen) in
      unit_few p x.state (stream_outcome x.plan.aggregation x.plan.closed x.state p) fits
      (taken_is x.state p x.plan.aggregation x.plan.closed)
      (taken_alone x.state p x.plan.aggregation x.plan.closed
      (λ y key. standing_none plan h stands.ports_stand.cause end id p.prefix.sub p.prefix.k y (aggregations id)
      (subst (λ (s : StreamState). live_in (slot_in_set (at_sub s.rx p.prefix.sub).slots p.prefix.k) ≡ Some y)
      (sym state) key)))

  option_few : (p : Packet) (o : Option Found) → FitsPacket p → found_stream here.plans here.states p.prefix.stream ≡ o
      → FewAt (packet_step here p o)
  option_few p None fits at = (refl, inl refl)
  option_few p (Some x) fits at = found_few p x fits at

  read_few : (r : Result CutValue PacketFault) → ((p : Packet) → r ≡ Ok (IdePacket p) → FitsPacket p)
      → FewAt (take_step here r)
  read_few (Err fault) fits = (refl, inl refl)
  read_few (Ok PlainTlp) fits = (refl, inl refl)
  read_few (Ok (IdePacket p)) fits =
      option_few p (found_stream here.plans here.states p.prefix.stream) (fits p refl) refl

  pub switched_few : (bytes : List ℕ) → FewAt (take_step here (cut_of bytes))
  switched_few bytes = read_few (cut_of bytes) (λ p cut. cut_fits bytes p cut)

-- ---- the queues

-- with these behind those that wait in this direction
abbrev pub queued_behind : Direction → List HopTlp → HopQueues → Direction → List HopTlp
queued_behind Downstream xs q Downstream = (queue_of q Downstream).tlps ++ xs
queued_behind Upstream xs q Upstream = (queue_of q Upstream).tlps ++ xs
queued_behind d xs q way = (queue_of q way).tlps

none_queued : (d way : Direction) (q : HopQueues) → (queue_of q way).tlps ≡ queued_behind d [] q way
none_queued Downstream Downstream q = sym (append-nil (queue_of q Downstream).tlps)
none_queued Downstream Upstream q = refl
none_queued Upstream Downstream q = refl
none_queued Upstream Upstream q = sym (append-nil (queue_of q Upstream).tlps)

one_queued : (d way : Direction) (x : HopTlp) (q : HopQueues)
    → (queue_of (with_queue q d (waits_last x (queue_of q d))) way).tlps ≡ queued_behind d (x ∷ []) q way
one_queued Downstream Downstream x q = refl
one_queued Downstream Upstream x q = refl
one_queued Upstream Downstream x q = refl
one_queued Upstream Upstream x q = refl

few_fit : (n : ℕ) → n ≤ most_bytes → nat_le n most_bytes ≡ true
few_fit n le = grind (arith, nat_tests)

pub few_queued : (d way : Direction) (xs : List HopTlp) (q : HopQueues) → (queue_of q d).has_room ≡ true → AreFew xs
    → (queue_of (all_offered d xs q) way).tlps ≡ queued_behind d xs q way
few_queued d way xs q room few = ⊎_elim none one few
  where
    none : xs ≡ [] → (queue_of (all_offered d xs q) way).tlps ≡ queued_behind d xs q way
    none is = subst (λ (ys : List HopTlp). (queue_of (all_offered d ys q) way).tlps ≡ queued_behind d ys q way) (sym is)
        (none_queued d way q)

    one : IsOneTlp xs → (queue_of (all_offered d xs q) way).tlps ≡ queued_behind d xs q way
    one x =
        let offers : queues_after_offer d x.tlp q ≡ with_queue q d (waits_last x.tlp (queue_of q d)) =
        rw (room, few_fit (length x.tlp.bytes) x.short) refl in
        subst (λ (ys : List HopTlp). (queue_of (all_offered d ys q) way).tlps ≡ queued_behind d ys q way) (sym x.is)
        (ap (λ (r : HopQueues). (queue_of r way).tlps) offers ∙ one_queued d way x.tlp q)

-- ---- effects

module _ (plan : Plan) (policy : Policy) (port : PortName) (unit : UnitName) (switch : at_switch plan port ≡ true) where
  same_switched : (waiting : ℕ) (p : Packet) → switched_as p ≡ effect_by plan policy waiting port unit p
  same_switched waiting p = rw switch refl

  pub switched_opens : (waiting : ℕ) (key : List ℕ) (iv : List ℕ) (n : ℕ) (ps : List Packet)
      → switched_each (opened_from_byte key iv n ps) ≡ effects_each plan policy waiting port unit ps
  switched_opens waiting key iv n [] = refl
  switched_opens waiting key iv n (p ∷ ps) =
      (λ i. same_switched waiting p i
      ∷ switched_opens (waiting_then (effect_by plan policy waiting port unit p) waiting) key iv (n + length p.body) ps
      i)

-- none of them is a read that waits
no_reads : (target : Span → Option ReadTarget) (end : PortName) (unit : UnitName) (b : Bool)
    (es : List Effect) (p : Packet) (ps : List Packet) → reads_by target end unit es ps ≡ []
    → reads_by target end unit ((if b then effect.Sync else effect.Waiting) ∷ es) (p ∷ ps) ≡ []
no_reads target end unit true es p ps none = none
no_reads target end unit false es p ps none = none

pub switched_reads : (target : Span → Option ReadTarget) (end : PortName) (unit : UnitName)
    (qs ps : List Packet) → reads_by target end unit (switched_each qs) ps ≡ []
switched_reads target end unit [] ps = refl
switched_reads target end unit (q ∷ qs) [] = by (is_sync_packet q)
  where
    by : (b : Bool) → reads_by target end unit ((if b then effect.Sync else effect.Waiting) ∷ switched_each qs) [] ≡ []
    by true = refl
    by false = refl
switched_reads target end unit (q ∷ qs) (p ∷ ps) =
    no_reads target end unit (is_sync_packet q) (switched_each qs) p ps (switched_reads target end unit qs ps)
