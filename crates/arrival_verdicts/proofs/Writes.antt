-- The writes that memory was led by at an arrival are those that the machine admits. The port lends an accepted unit
-- opened packet by packet, each from its place in the key stream on; the machine opens the unit as one and cuts the
-- plaintext, and both are the same since a masked string of two pieces is the two masked pieces (`each_opened`). The
-- port's key is the plan's of that draw, since its stream stands for a history (`standing_key`).
use Rattle.std.proofs.Common.{◌≡◌, ℕ, ◌+◌, ◌==◌, take, drop, Bool, true, false, List, [], ◌∷◌, ◌++◌, length, refl, ap}
use Rattle.std.proofs.Common.{sym, ◌∙◌, subst}
use Rattle.std.specs.Prelude.{Option, Some, None, Result, Ok, Err, option_map, map, not, ◌||◌, ◌&&◌}
use Rattle.std.specs.Prelude.{nat_le, if◌then◌else◌}
use Rattle.std.proofs.lemmas.Option.{none-some, same_Some}
use Rattle.std.proofs.Math.Seq.{take-append_seam, drop-append_seam}
use Rattle.ide_types.specs.declared.port.PortName.{PortName}
use Rattle.ide_types.specs.declared.plan.Plan.{Plan}
use Rattle.ide_prefix.specs.Packet.{Packet}
use Rattle.event_verdicts.specs.declared.verdict.Effect.{Effect}
use Rattle.event_verdicts.specs.declared.verdict.UnitName.{UnitName}
use Rattle.spec_keys.specs.Places.{sent_direction}
use Rattle.spec_stream.specs.Stream.{StreamState, LiveKey, PacketOutcome, Insecure, Failed, Held, holds_any, is_tagged}
use Rattle.spec_stream.specs.Stream.{is_allowed, outcome_of_checks, stream_outcome_by_keys, stream_outcome, live_in}
use Rattle.spec_stream.specs.Stream.{slot_in_set, at_sub, unit_name, Accepted}
use Rattle.sub_stream.specs.{opened_from_byte, opened_unit}
use Rattle.ide_port.specs.{opened_if_accepted, PortEnd, Found, found_stream, take_step}
use Rattle.machine_whole.specs.{LinkState, PortsStandFor, rx_slot, rx_slots, receiving_key}
use Rattle.spec_links.specs.Memory.{Grants}
use Rattle.trusted_memory.specs.{Write}
use Rattle.arrival_verdicts.specs.Verdicts.{packet_write, unit_writes, arrival_verdict, head_write, of_unit}
use Rattle.spec_keys.specs.History.{History}
unfoldable use Rattle.machine_whole.specs.{find, stream_state_due}
use Rattle.spec_links.specs.Plan.{aggregation_of, is_closed, SubStream, lane_in, key_of, has_stream}
use Rattle.ide_types.specs.declared.sub.SubKind.{SubKind}
use Rattle.ide_types.specs.declared.sub.SubKind.TheVariants.{Pr, Npr, Cpl}
use Rattle.ide_types.specs.declared.sub.FailCause.TheVariants as fail
use Rattle.gcm_seal.specs.Gcm.{masked_bytes}
unfoldable use Rattle.gcm_seal.specs.Gcm.{open_of}
use Rattle.gcm_seal.proofs.Sealing.{masked_bytes-append, length-masked_bytes}
use Rattle.tlp_layout.specs.declared.head.HeadView.{HeadView}
use Rattle.tlp_layout.specs.declared.fault.TlpFault.{TlpFault}
use Rattle.tlp_layout.specs.Reading.{read_head_of}
use Rattle.ide_prefix.specs.{encrypted_bytes, iv_of, is_sync_packet}
use Rattle.ide_prefix.specs.declared.fault.PacketFault.{PacketFault}
use Rattle.ide_prefix.specs.Reading.{CutValue, PlainTlp, IdePacket, cut_of}
use Rattle.spec_keys.specs.Keys.{Keyed, Off, Loaded, On, Keys}
use Rattle.spec_links.specs.History.{ArrivedBytes as Arrives, port_keys}
use Rattle.spec_links.specs.Admission.{payload_write, write_if_admitted, admitted_each, admitted_writes, plain_of}
use Rattle.spec_links.specs.Ports.{port_of, at_switch}
use Rattle.spec_links.specs.Packets.{received_in}
use Rattle.machine_whole.specs.Machine.{unit_taken, unit_found, unit_cut, unit_in}
use Rattle.ide_port.specs.Arrivals.{TakeStep, port_arrival, packet_step}
use Rattle.ide_port.specs.declared.answer.Arrival.{Arrival}
use Rattle.ide_port.specs.declared.answer.Arrival.TheVariants as came
use Rattle.arrival_verdicts.specs.Writes.{writes_by}

-- ---- one packet

module _ (plan : Plan) (grants : Grants) (port : PortName) (unit : UnitName) (apart : at_switch plan port ≡ false)
  where
    head_same : (t : Bool) (payload : List ℕ) (r : Result HeadView TlpFault)
        → payload_write plan grants port unit t payload r ≡ head_write plan.memory grants port.line unit t payload r
    head_same t payload (Err f) = refl
    head_same t payload (Ok head) = refl

    -- with this plaintext
    write_same : (p : Packet) (plain : List ℕ) → write_if_admitted plan grants port unit p plain
        ≡ packet_write plan.memory grants port unit
        (record { prefix = p.prefix; head = p.head; body = plain; tag = [] })
    write_same p plain =
        ap (λ (b : Bool). if not (is_sync_packet p) && (not b && (sent_direction port.side == 0))
        then payload_write plan grants port unit p.prefix.t plain (read_head_of p.head) else None) apart
        ∙ ap (λ (o : Option Write). if not (is_sync_packet p) && (sent_direction port.side == 0) then o else None)
        (head_same p.prefix.t plain (read_head_of p.head))

    -- ---- the packets of a unit

    each_opened : (key iv : List ℕ) (n : ℕ) (ps : List Packet)
        → admitted_each plan grants port unit (masked_bytes key iv n (encrypted_bytes ps)) ps
        ≡ map (packet_write plan.memory grants port unit) (opened_from_byte key iv n ps)
    each_opened key iv n [] = refl
    each_opened key iv n (p ∷ ps) =
        let first : List ℕ = masked_bytes key iv n p.body in
        let rest : List ℕ = masked_bytes key iv (n + length p.body) (encrypted_bytes ps) in
        let plain : List ℕ = masked_bytes key iv n (p.body ++ encrypted_bytes ps) in
        let joined : plain ≡ first ++ rest = masked_bytes-append key iv n p.body (encrypted_bytes ps) in
        let long : length p.body ≡ length first = sym (length-masked_bytes key iv n p.body) in
        let front : take (length p.body) plain ≡ first =
        (λ i. take (long i) (joined i)) ∙ take-append_seam first rest in
        let back : drop (length p.body) plain ≡ rest =
        (λ i. drop (long i) (joined i)) ∙ drop-append_seam first rest in
        (λ i. write_if_admitted plan grants port unit p (front i) ∷ admitted_each plan grants port unit (back i) ps)
        ∙ (λ i. write_same p first i ∷ each_opened key iv (n + length p.body) ps i)

-- ---- the key of a port's slot

module _ (plan : Plan) (h : History) (port : PortName) where
  slot_key : (s : SubStream) (k : Keyed) (y : LiveKey) → live_in (rx_slot plan h port s k) ≡ Some y
      → y.key ≡ key_of plan y.draw s
  slot_key s Off y is = absurd (none-some y is)
  slot_key s (Loaded j) y is = absurd (none-some y is)
  slot_key s (On j) y is =
      subst (λ (z : LiveKey). z.key ≡ key_of plan z.draw s) (same_Some (receiving_key plan h port s j) y is) refl

  slots_key : (s : SubStream) (keys : Keys) (k : Bool) (y : LiveKey)
      → live_in (slot_in_set (rx_slots plan h port s keys) k) ≡ Some y → y.key ≡ key_of plan y.draw s
  slots_key s keys true y is = slot_key s keys.second y is
  slots_key s keys false y is = slot_key s keys.first y is

  standing_key : (stream : ℕ) (u : SubKind) (k : Bool) (y : LiveKey)
      → live_in (slot_in_set (at_sub (stream_state_due plan h port stream).rx u).slots k) ≡ Some y
      → y.key ≡ key_of plan y.draw (lane_in port stream u)
  unfolding stream_state_due
  standing_key stream Pr k y is = slots_key (lane_in port stream Pr) (port_keys h port (lane_in port stream Pr)) k y is
  standing_key stream Npr k y is =
      slots_key (lane_in port stream Npr) (port_keys h port (lane_in port stream Npr)) k y is
  standing_key stream Cpl k y is =
      slots_key (lane_in port stream Cpl) (port_keys h port (lane_in port stream Cpl)) k y is

-- ---- what a stream takes

-- the key in the slot that the packet names
abbrev first_key : StreamState → Packet → Option LiveKey
first_key x p = live_in (slot_in_set (at_sub x.rx p.prefix.sub).slots p.prefix.k)

-- the key under which the packet ended a unit of this draw and number
pub record IsUnder (x : StreamState) (p : Packet) (draw unit : ℕ) : Type 0 where
  pub key : LiveKey
  pub live : first_key x p ≡ Some key
  pub draw_is : draw ≡ key.draw
  pub unit_is : unit ≡ key.units + 1

abbrev pub IsTaken : StreamState → Packet → PacketOutcome → Type 0
IsTaken x p (Accepted draw unit packets) = IsUnder x p draw unit
IsTaken x p t = Unit {0}

module _ (x : StreamState) (p : Packet) where
  keyed_taken : (y : LiveKey) (a b m c : Bool) → first_key x p ≡ Some y
      → IsTaken x p (if a then Failed fail.Unit else if m then outcome_of_checks b c y p else Held y.draw (y.units + 1))
  keyed_taken y true b m c is = tt
  keyed_taken y false b false c is = tt
  keyed_taken y false false true c is = tt
  keyed_taken y false true true false is = tt
  keyed_taken y false true true true is = record { key = y; live = is; draw_is = refl; unit_is = refl }

  under_taken : (aggregation : ℕ) (closed : Bool) (one other : Option LiveKey) → first_key x p ≡ one
      → IsTaken x p (stream_outcome_by_keys aggregation closed x.rx p one other)
  under_taken aggregation closed None None is = tt
  under_taken aggregation closed None (Some y) is = tt
  under_taken aggregation closed (Some y) other is =
      keyed_taken y (holds_any other || (not p.prefix.m && nat_le aggregation (length y.packets + 1)))
      (is_tagged closed (at_sub x.rx p.prefix.sub).total y p) p.prefix.m
      (is_allowed x.rx p.prefix.sub (y.packets ++ p ∷ [])) is

  failed_taken : (b : Bool) (t : PacketOutcome) → IsTaken x p t → IsTaken x p (if b then Insecure else t)
  failed_taken true t is = tt
  failed_taken false t is = is

  pub taken_is : (aggregation : ℕ) (closed : Bool) → IsTaken x p (stream_outcome aggregation closed x p)
  taken_is aggregation closed =
      failed_taken x.failed _
      (under_taken aggregation closed (first_key x p)
      (live_in (slot_in_set (at_sub x.rx p.prefix.sub).slots (not p.prefix.k))) refl)

-- ---- an accepted unit

-- what is given of a unit's packets as they came is what is given of them opened by the plan's key
abbrev pub OpensAs : Plan → PortName → {A : Type 0} → (UnitName → List Packet → List A)
    → (UnitName → List Packet → List A) → Type 0
OpensAs plan port f g = (unit : UnitName) (ps : List Packet) → f unit ps
    ≡ g unit (opened_from_byte (key_of plan unit.draw (received_in port unit)) (iv_of unit.sub unit.unit) 0 ps)

-- of the writes that are admitted at an end that is at this port of a host or a device
pub writes_open : (plan : Plan) (grants : Grants) (end port : PortName) → port_of plan end ≡ port
    → at_switch plan port ≡ false → OpensAs plan end (λ unit ps. admitted_writes plan grants end unit ps)
    (λ unit ps. map (packet_write plan.memory grants port unit) ps)
unfolding open_of
writes_open plan grants end port at apart unit ps =
    (λ i. admitted_each plan grants (at i) unit (plain_of plan end unit ps) ps)
    ∙ each_opened plan grants port unit apart (key_of plan unit.draw (received_in end unit)) (iv_of unit.sub unit.unit)
    0 ps

module _ {A : Type 0} (plan : Plan) (port : PortName) (f g : UnitName → List Packet → List A)
    (opens : OpensAs plan port f g) where
  -- the keys of the packet's sub-stream are the plan's
  abbrev HasKeys : Packet → StreamState → Type 0
  HasKeys p x = (y : LiveKey) → first_key x p ≡ Some y
      → y.key ≡ key_of plan y.draw (lane_in port p.prefix.stream p.prefix.sub)

  -- by the machine, of an arrival that gave this, and by the port
  taken_same : (p : Packet) (x : StreamState) (t : PacketOutcome) → HasKeys p x → IsTaken x p t
      → of_unit (port_arrival p t) (λ unit. f unit (unit_taken t))
      ≡ of_unit (port_arrival p t) (λ unit. g unit (opened_if_accepted x p t))
  taken_same p x (Accepted draw n ps) keys under =
      let unit : UnitName = unit_name p draw n in
      let s : SubStream = lane_in port p.prefix.stream p.prefix.sub in
      let y : LiveKey = under.key in
      let same : key_of plan draw s ≡ y.key =
      ap (λ (j : ℕ). key_of plan j s) under.draw_is ∙ sym (keys y under.live) in
      opens unit ps
      ∙ (λ i. g unit (opened_from_byte (same i) (iv_of p.prefix.sub (under.unit_is i)) 0 ps))
      ∙ ap (λ (o : Option LiveKey). g unit (opened_unit o p.prefix.sub ps)) (sym under.live)
  taken_same p x t keys under = refl

-- ---- one arrival

where_it_stands : (b : Bool) (x y : StreamState) → (if b then Some y else None) ≡ Some x → y ≡ x
where_it_stands true x y is = same_Some y x is
where_it_stands false x y is = absurd (none-some x is)

-- an end with the plan's streams, whose states are the machine's at this end
pub record IsEndOf (plan : Plan) (now : LinkState) (end : PortName) (here : PortEnd) : Type 0 where
  pub finds : (id : ℕ) → find plan now end id ≡ option_map (λ (x : Found). x.state)
      (found_stream here.plans here.states id)
  pub aggregations : (id : ℕ) (x : Found) → found_stream here.plans here.states id ≡ Some x
      → aggregation_of plan end.line id ≡ x.plan.aggregation
  pub closes : (id : ℕ) (x : Found) → found_stream here.plans here.states id ≡ Some x
      → is_closed plan end.line id ≡ x.plan.closed

module _ {A : Type 0} (plan : Plan) (now : LinkState) (h : History) (end : PortName) (here : PortEnd)
    (stands : PortsStandFor plan now h) (is : IsEndOf plan now end here) (f g : UnitName → List Packet → List A)
    (opens : OpensAs plan end f g) where
  -- what is given of a unit
  abbrev Agrees : List Packet → TakeStep → Type 0
  Agrees unit_ended t =
      of_unit t.answer (λ unit. f unit unit_ended) ≡ of_unit t.answer (λ unit. g unit t.port.delivered)

  found_agrees : (p : Packet) (x : Found) → found_stream here.plans here.states p.prefix.stream ≡ Some x
      → Agrees (unit_found plan end p (Some x.state)) (packet_step here p (Some x))
  found_agrees p x at =
      let id : ℕ = p.prefix.stream in
      let seen : find plan now end id ≡ Some x.state =
      is.finds id ∙ ap (λ (o : Option Found). option_map (λ (y : Found). y.state) o) at in
      let state : stream_state_due plan h end id ≡ x.state =
      where_it_stands (has_stream plan end id) x.state (stream_state_due plan h end id)
      (sym (stands.ports_stand.streams end id) ∙ seen) in
      let t : PacketOutcome = stream_outcome x.plan.aggregation x.plan.closed x.state p in
      let aggregation : aggregation_of plan end.line id ≡ x.plan.aggregation = is.aggregations id x at in
      let closed : is_closed plan end.line id ≡ x.plan.closed = is.closes id x at in
      (λ i. of_unit (port_arrival p t)
      (λ unit. f unit (unit_taken (stream_outcome (aggregation i) (closed i) x.state p))))
      ∙ taken_same plan end f g opens p x.state t
      (subst (λ (y : StreamState). HasKeys plan end f g opens p y) state
      (λ y key. standing_key plan h end id p.prefix.sub p.prefix.k y key))
      (taken_is x.state p x.plan.aggregation x.plan.closed)

  option_agrees : (p : Packet) (o : Option Found) → found_stream here.plans here.states p.prefix.stream ≡ o
      → Agrees (unit_found plan end p (option_map (λ (x : Found). x.state) o)) (packet_step here p o)
  option_agrees p None at = refl
  option_agrees p (Some x) at = found_agrees p x at

  read_agrees : (r : Result CutValue PacketFault) → Agrees (unit_cut plan now end r) (take_step here r)
  read_agrees (Err fault) = refl
  read_agrees (Ok PlainTlp) = refl
  read_agrees (Ok (IdePacket p)) =
      ap (λ (o : Option StreamState).
      of_unit (take_step here (Ok (IdePacket p))).answer (λ unit. f unit (unit_found plan end p o)))
      (is.finds p.prefix.stream)
      ∙ option_agrees p (found_stream here.plans here.states p.prefix.stream) refl

  -- of the unit that these bytes end, if they end one
  pub unit_agrees : (bytes : List ℕ) → (let t = take_step here (cut_of bytes) in
      of_unit t.answer (λ unit. f unit (unit_in plan now (Some (record { port = end; bytes = bytes }))))
      ≡ of_unit t.answer (λ unit. g unit t.port.delivered))
  unit_agrees bytes = read_agrees (cut_of bytes)

-- ---- writes

-- the verdict says which writes there were
by_verdict : (plan : Plan) (grants : Grants) (st : LinkState) (end port : PortName) (arrival : Option Arrives)
    (answer : Arrival) (effects : UnitName → List Effect)
    → writes_by plan grants st arrival (arrival_verdict end port answer effects)
    ≡ of_unit answer (λ unit. admitted_writes plan grants end unit (unit_in plan st arrival))
by_verdict plan grants st end port arrival (came.Malformed fault) effects = refl
by_verdict plan grants st end port arrival came.Plain effects = refl
by_verdict plan grants st end port arrival (came.Unknown stream) effects = refl
by_verdict plan grants st end port arrival (came.Insecure stream) effects = refl
by_verdict plan grants st end port arrival (came.NotKeyed stream sub) effects = refl
by_verdict plan grants st end port arrival (came.Fail stream sub cause) effects = refl
by_verdict plan grants st end port arrival (came.Held unit) effects = refl
by_verdict plan grants st end port arrival (came.Accepted unit count) effects = refl

-- at an end that is at this port of a host or a device
pub writes_agree : (plan : Plan) (grants : Grants) (now : LinkState) (h : History) (end port : PortName)
    (here : PortEnd) → PortsStandFor plan now h → IsEndOf plan now end here → port_of plan end ≡ port
    → at_switch plan port ≡ false → (bytes : List ℕ) (effects : UnitName → List Effect)
    → (let t = take_step here (cut_of bytes) in
    writes_by plan grants now (Some (record { port = end; bytes = bytes })) (arrival_verdict end port t.answer effects)
    ≡ unit_writes t.answer (λ unit. map (packet_write plan.memory grants port unit) t.port.delivered))
writes_agree plan grants now h end port here stands is at apart bytes effects =
    by_verdict plan grants now end port (Some (record { port = end; bytes = bytes }))
    (take_step here (cut_of bytes)).answer effects
    ∙ unit_agrees plan now h end here stands is (λ unit ps. admitted_writes plan grants end unit ps)
    (λ unit ps. map (packet_write plan.memory grants port unit) ps) (writes_open plan grants end port at apart) bytes

-- at a switch none is admitted
module _ (plan : Plan) (grants : Grants) (unit : UnitName) where
  none_each : (port : PortName) (plain : List ℕ) (ps : List Packet) → at_switch plan port ≡ true
      → admitted_each plan grants port unit plain ps ≡ map (λ p. None) ps
  none_each port plain [] at = refl
  none_each port plain (p ∷ ps) at =
      let none : write_if_admitted plan grants port unit p (take (length p.body) plain) ≡ None =
      ap (λ (b : Bool). if not (is_sync_packet p) && (not b && (sent_direction port.side == 0))
      then payload_write plan grants port unit p.prefix.t (take (length p.body) plain) (read_head_of p.head) else None)
      at
      ∙ never (not (is_sync_packet p)) _ in
      (λ i. none i ∷ none_each port (drop (length p.body) plain) ps at i)
    where
      never : (b : Bool) (o : Option Write) → (if b && false then o else None) ≡ None
      never true o = refl
      never false o = refl

  pub switch_admits_none : (end : PortName) (ps : List Packet) → at_switch plan (port_of plan end) ≡ true
      → admitted_writes plan grants end unit ps ≡ map (λ p. None) ps
  switch_admits_none end ps at = none_each (port_of plan end) (plain_of plan end unit ps) ps at
