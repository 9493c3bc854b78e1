-- What stands at the links beside ports and interfaces: an arrival makes of it what the unit's packets do one after
-- another, by their heads and by what the plan's key opens.
pub use Rattle.join_ends.proofs.Turns.{TurnsHere, RestsAt, turn_at, stays_all}
use Rattle.join_ends.proofs.Turns.{others_same, reads_same, set_twice}
use Rattle.join_arrivals.proofs.Arrivals.{effects_at, end_of}
use Rattle.join_ends.specs.{InterfacesView, KeeperView, LinkEnds, EndsView, port_on, waiting_reads_after, unit_in}
use Rattle.join_ends.specs.{AreLinks, state_of, Arrives, ArrivesAtEnd, Comes, Leaves, link_statuses, unit_tlps}
use Rattle.join_ends.proofs.{set_there}
use Rattle.ide_types.specs.declared.plan.Region.{Region}
use Rattle.machine_ports.specs.Machine.{LinkPacket, LinkState, port_at}
use Rattle.link_stores.specs.declared.link.LinkAccesses.{LinkAccesses}
use Rattle.link_stores.specs.{other_reads, reads_on}
use Rattle.std.proofs.Common.{Bool, List, [], ap, arith, drop, false, length, refl, subst, sym, take, true}
use Rattle.std.proofs.Common.{ℕ, ◌++◌, ◌+◌, ◌==◌, ◌∙◌, ◌∷◌, ◌≡◌}
use Rattle.std.proofs.lemmas.Bool.Decides.{nat_tests}
use Rattle.std.specs.Prelude.{Err, None, Ok, OnErr, Option, Result, Some, if◌then◌else◌, map, not, ◌&&◌}
use Rattle.std.specs.Prelude.{is_some, slice_get, slice_set}
use Rattle.std.proofs.lemmas.List.{append-nil}
use Rattle.std.proofs.lemmas.Option.{same_Some}
use Rattle.ide_types.specs.declared.direction.Direction.{Direction}
use Rattle.ide_types.specs.declared.direction.Direction.TheVariants.{Downstream, Upstream}
use Rattle.ide_types.specs.declared.port.Side.{Side}
use Rattle.ide_types.specs.declared.port.Side.TheVariants.{Device, Host}
use Rattle.ide_types.specs.declared.port.PortName.{PortName}
use Rattle.ide_types.specs.Lines.{is_link_line}
use Rattle.ide_types.specs.declared.plan.Plan.{Plan}
use Rattle.ide_prefix.specs.Packet.{Packet}
use Rattle.ide_prefix.specs.{encrypted_bytes, iv_of}
use Rattle.ide_prefix.specs.Reading.{cut_of}
use Rattle.event_verdicts.specs.declared.verdict.Verdict.{Verdict}
use Rattle.event_verdicts.specs.declared.verdict.Effect.{Effect}
use Rattle.event_verdicts.specs.declared.verdict.Effect.TheVariants as effect
use Rattle.event_verdicts.specs.declared.verdict.UnitName.{UnitName}
use Rattle.script_events.specs.declared.event.Event.{Event}
use Rattle.trusted_memory.specs.{MemoryContents}
use Rattle.sub_stream.specs.{opened_from_byte}
use Rattle.spec_keys.specs.History.{History}
use Rattle.spec_keys.specs.Places.{sent_direction}
use Rattle.spec_keys.proofs.Tests.{same-true}
use Rattle.hop_queues.specs.declared.queue.HopTlp.{HopTlp}
use Rattle.hop_queues.specs.{queue_of}
use Rattle.machine_ports.specs.Stands.{PortsStandFor}
use Rattle.ide_port.specs.{PortEnd, take_step}
use Rattle.ide_port.specs.declared.answer.Arrival.{Arrival}
use Rattle.ide_port.specs.declared.answer.Arrival.TheVariants as came
use Rattle.arrival_verdicts.specs.Verdicts.{arrival_verdict, effects_from, grants_in, of_unit, packet_stored}
use Rattle.arrival_verdicts.proofs.Writes.{OpensAs, unit_agrees}
use Rattle.join_arrivals.specs.Accesses.{AccessesStay, AccessesTurn, AreLeftBy, Brings, policy_in, statuses_of_ends}
use Rattle.join_arrivals.specs.Accesses.{nothing_happens, same_carried, same_floors, same_reads}
use Rattle.join_ends.specs.Turns.{carried_next}
use Rattle.join_arrivals.specs.Ways.{way_of}
use Rattle.join_ends.specs.{waiting_next}
use Rattle.hop_queues.specs.declared.queues.HopQueues.{HopQueues}
use Rattle.spec_links.specs.Admission.{plain_of}
use Rattle.std.proofs.Math.Seq.{drop-append_seam, take-append_seam}
use Rattle.tlp_layout.specs.Reading.{read_head_of}
use Rattle.gcm_seal.specs.Gcm.{masked_bytes}
unfoldable use Rattle.gcm_seal.specs.Gcm.{open_of}
use Rattle.gcm_seal.proofs.Sealing.{length-masked_bytes, masked_bytes-append}
use Rattle.trusted_memory.specs.declared.queue.WaitingRead.{WaitingRead}
use Rattle.trusted_memory.specs.declared.queue.ReadTarget.{ReadTarget}
use Rattle.trusted_memory.specs.declared.span.Span.{Span}
use Rattle.guarded_memory.specs.declared.status.InterfaceStatus.{InterfaceStatus}
use Rattle.guarded_memory.specs.Happenings.{Happened, newest_happened}
use Rattle.guarded_memory.specs.Contents.{MmioLeads, mmio_byte}
use Rattle.spec_links.specs.Plan.{is_same_port, key_of}
use Rattle.spec_links.specs.Ports.{at_switch, is_device_port, port_of}
use Rattle.spec_links.specs.Packets.{received_in}
use Rattle.spec_links.specs.Hops.{entering_end}
use Rattle.spec_links.specs.Sent.{arrival_of, read_in, reads_by, targets_at}
use Rattle.spec_links.specs.Guarded.{asked_happens, happens_by_packets, stored_each, unit_happenings, stored_packet}

-- ---- pages that are taken first

-- a link whose spare pages are others
pub record IsSpared (a b : LinkAccesses) : Type 0 where
  pub same : b ≡ record a { guarded = b.guarded }
  pub sizes : b.guarded.sizes ≡ a.guarded.sizes
  pub leads : MmioLeads a.guarded [] b.guarded

pub spared_stay : (xs : List LinkAccesses) (link : ℕ) (a b : LinkAccesses) → slice_get xs link ≡ Some a
    → IsSpared a b → AccessesStay xs (slice_set xs link b)
spared_stay xs link a b is spared =
    turn_at same_reads same_floors nothing_happens same_carried xs link a b is
    (record {
      reads_are = λ side. reads_same side a b (ap (λ (x : LinkAccesses). x.host_reads) spared.same)
          (ap (λ (x : LinkAccesses). x.device_reads) spared.same);
      floors_are = ap (λ (x : LinkAccesses). x.floors) spared.same;
      sizes_are = spared.sizes;
      leads = spared.leads;
      carried_are = λ d. ap (λ (x : LinkAccesses). (queue_of x.carried d).tlps) spared.same;
    })
    (λ k other. record {
      reads_rest = λ side ws. refl;
      floors_rest = λ ns. refl;
      nothing = λ older. refl;
      carried_rest = λ d ts. refl;
    })

pub on_err : {A E : Type 0} {P : Type 0} (r : Result A E) → P → OnErr r P
on_err (Ok x) p = tt
on_err (Err e) p = p

-- an arrival after that
pub brings_spared : (m : InterfacesView) (end port : PortName) (bytes : List ℕ) (verdict : Verdict) (old : EndsView)
    (c mid : MemoryContents) (xs : List LinkAccesses) (a b : LinkAccesses) (new : EndsView) (d : MemoryContents)
    (ys : List LinkAccesses) → mid ≡ c → slice_get xs port.line ≡ Some a → IsSpared a b
    → ArrivesAtEnd old (slice_set xs port.line b) mid.regions (grants_in m) end port bytes verdict mid d new ys
    → (is_some (port_on old end) ≡ false → Leaves verdict old mid (slice_set xs port.line b) new d ys)
    → d.regions ≡ mid.regions → Brings m end port bytes verdict old c xs new d ys
brings_spared m end port bytes verdict old c mid xs a b new d ys same is spared arrives absent regions =
    subst (λ (x : MemoryContents). Brings m end port bytes verdict old x xs new d ys) same (record {
      arrives = λ e l x e_is l_is x_is.
          let at = arrives e l b e_is l_is (set_there xs port.line a b is) in
          let a_is : a ≡ x = same_Some a x (sym is ∙ x_is) in
          subst (λ (y : LinkAccesses). Arrives old xs mid.regions (grants_in m) end port bytes verdict mid d new ys e l
          y)
          a_is (record {
            access = at.access;
            new_is = at.new_is;
            accesses_are = at.accesses_are ∙ set_twice xs port.line b at.access;
            came = made (take_step e (cut_of bytes)).answer (take_step e (cut_of bytes)).port l at.access spared.same
                at.came;
          });
      regions = regions;
      absent = λ none.
          let left = absent none in (
            left.verdict_is,
            left.ends_stay,
            left.memory_stays,
            subst (λ (zs : List LinkAccesses). AccessesStay xs zs) (sym left.accesses_stay)
                (spared_stay xs port.line a b is spared),
          );
    })
  where
    made : (answer : Arrival) (e : PortEnd) (l : LinkEnds) (a' : LinkAccesses) → b ≡ record a { guarded = b.guarded }
        → Comes mid.regions (grants_in m) end port answer verdict mid d b a' e l
        → Comes mid.regions (grants_in m) end port answer verdict mid d a a' e l
    made answer e l a' b_is x =
        let y = subst (λ (z : LinkAccesses). Comes mid.regions (grants_in m) end port answer verdict mid d z a' e l)
        b_is
        x
        in
        let same : reads_on port.side (record a { guarded = b.guarded }) ≡ reads_on port.side a =
        reads_same port.side a (record a { guarded = b.guarded }) refl refl in
        record {
          verdict_is = y.verdict_is ∙ (λ i. arrival_verdict end port answer (λ unit. effects_from mid.regions
              (grants_in m) (link_statuses l a) (length (same i)) port unit e.delivered));
          written = y.written;
          reads_are = y.reads_are ∙ (λ i. same i ++ of_unit answer
              (λ unit. reads_by (targets_at port.side (link_statuses l a)) end unit (effects_from mid.regions
              (grants_in m) (link_statuses l a) (length (same i)) port unit e.delivered) e.delivered));
          others_stay = y.others_stay ∙ others_same port.side a (record a { guarded = b.guarded }) refl refl;
          stored = λ older left. y.stored older (spared.leads older left);
          floors_stay = y.floors_stay;
          sizes_stay = y.sizes_stay ∙ spared.sizes;
          carried_stay = y.carried_stay;
        }

-- ---- reads of an accepted unit

same_port : (p : PortName) → is_same_port p p ≡ true
same_port p = λ i. same-true (sent_direction p.side) i && same-true p.line i

and_false : (b : Bool) → (b && false) ≡ false
and_false true = refl
and_false false = refl

-- decryption leaves heads as they are
module _ (target : Span → Option ReadTarget) (end : PortName) (unit : UnitName) where
  reads_opened : (es : List Effect) (key iv : List ℕ) (n : ℕ) (ps : List Packet)
      → reads_by target end unit es ps ≡ reads_by target end unit es (opened_from_byte key iv n ps)
  reads_opened [] key iv n ps = refl
  reads_opened (effect.Queued ∷ es) key iv n [] = refl
  reads_opened (effect.Sync ∷ es) key iv n [] = refl
  reads_opened (effect.Delivered ∷ es) key iv n [] = refl
  reads_opened (effect.Waiting ∷ es) key iv n [] = refl
  reads_opened (effect.Applied ∷ es) key iv n [] = refl
  reads_opened (effect.Stored ∷ es) key iv n [] = refl
  reads_opened (effect.Blocked cause ∷ es) key iv n [] = refl
  reads_opened (effect.Queued ∷ es) key iv n (p ∷ ps) =
      ap (λ (rs : List WaitingRead). read_in target (arrival_of end unit p) (read_head_of p.head) ++ rs)
      (reads_opened es key iv (n + length p.body) ps)
  reads_opened (effect.Sync ∷ es) key iv n (p ∷ ps) = reads_opened es key iv (n + length p.body) ps
  reads_opened (effect.Delivered ∷ es) key iv n (p ∷ ps) = reads_opened es key iv (n + length p.body) ps
  reads_opened (effect.Waiting ∷ es) key iv n (p ∷ ps) = reads_opened es key iv (n + length p.body) ps
  reads_opened (effect.Applied ∷ es) key iv n (p ∷ ps) = reads_opened es key iv (n + length p.body) ps
  reads_opened (effect.Stored ∷ es) key iv n (p ∷ ps) = reads_opened es key iv (n + length p.body) ps
  reads_opened (effect.Blocked cause ∷ es) key iv n (p ∷ ps) = reads_opened es key iv (n + length p.body) ps

module _ (plan : Plan) (statuses : ℕ → List InterfaceStatus) (ps : List Packet) (e : Event) (end port : PortName)
    (at : port_of plan end ≡ port) (effects : UnitName → List Effect) where
  abbrev by_unit : PortName → UnitName → List WaitingRead
  by_unit p unit = reads_by (targets_at p.side (statuses p.line)) end unit (effects unit) ps

  reads_here : (answer : Arrival) (ws : List WaitingRead)
      → waiting_reads_after plan statuses ps e (arrival_verdict end port answer effects) port ws
      ≡ ws ++ of_unit answer (by_unit port)
  reads_here (came.Malformed fault) ws = sym (append-nil ws)
  reads_here came.Plain ws = sym (append-nil ws)
  reads_here (came.Unknown stream) ws = sym (append-nil ws)
  reads_here (came.Insecure stream) ws = sym (append-nil ws)
  reads_here (came.NotKeyed stream sub) ws = sym (append-nil ws)
  reads_here (came.Fail stream sub cause) ws = sym (append-nil ws)
  reads_here (came.Held unit) ws = sym (append-nil ws)
  reads_here (came.Accepted unit count) ws =
      ap (λ (q : PortName). if is_same_port q port then ws ++ by_unit port unit else ws) at
      ∙ ap (λ (b : Bool). if b then ws ++ by_unit port unit else ws) (same_port port)

  reads_there : (answer : Arrival) (p : PortName) (ws : List WaitingRead) → is_same_port port p ≡ false
      → waiting_reads_after plan statuses ps e (arrival_verdict end port answer effects) p ws ≡ ws
  reads_there (came.Malformed fault) p ws other = refl
  reads_there came.Plain p ws other = refl
  reads_there (came.Unknown stream) p ws other = refl
  reads_there (came.Insecure stream) p ws other = refl
  reads_there (came.NotKeyed stream sub) p ws other = refl
  reads_there (came.Fail stream sub cause) p ws other = refl
  reads_there (came.Held unit) p ws other = refl
  reads_there (came.Accepted unit count) p ws other =
      ap (λ (q : PortName). if is_same_port q p then ws ++ by_unit p unit else ws) at
      ∙ ap (λ (b : Bool). if b then ws ++ by_unit p unit else ws) other

-- ---- what it stores

-- of an event that is none on an interface
abbrev pub IsQuiet : Plan → Event → Type 0
IsQuiet plan e = (w : Verdict) (k : ℕ) → asked_happens plan e w k ≡ []

module _ (plan : Plan) (statuses : ℕ → List InterfaceStatus) (ps : List Packet) (e : Event) (quiet : IsQuiet plan e)
    (end port : PortName) (at : port_of plan end ≡ port) (effects : UnitName → List Effect) where
  abbrev happens : Arrival → ℕ → List (Option Happened)
  happens answer k = happens_by_packets plan statuses ps e (arrival_verdict end port answer effects) k

  abbrev stored_by_unit : UnitName → List (Option Happened)
  stored_by_unit unit = unit_happenings (statuses port.line) plan end unit ps

  happens_here : (answer : Arrival) → happens answer port.line ≡ of_unit answer stored_by_unit
  happens_here (came.Malformed fault) = quiet _ port.line
  happens_here came.Plain = quiet _ port.line
  happens_here (came.Unknown stream) = quiet _ port.line
  happens_here (came.Insecure stream) = quiet _ port.line
  happens_here (came.NotKeyed stream sub) = quiet _ port.line
  happens_here (came.Fail stream sub cause) = quiet _ port.line
  happens_here (came.Held unit) = quiet _ port.line
  happens_here (came.Accepted unit count) =
      ap (λ (q : PortName). if q.line == port.line then unit_happenings (statuses q.line) plan end unit ps else []) at
      ∙ ap (λ (b : Bool). if b then stored_by_unit unit else []) (same-true port.line)

  happens_there : (answer : Arrival) (k : ℕ) → (port.line == k) ≡ false → happens answer k ≡ []
  happens_there (came.Malformed fault) k other = quiet _ k
  happens_there came.Plain k other = quiet _ k
  happens_there (came.Unknown stream) k other = quiet _ k
  happens_there (came.Insecure stream) k other = quiet _ k
  happens_there (came.NotKeyed stream sub) k other = quiet _ k
  happens_there (came.Fail stream sub cause) k other = quiet _ k
  happens_there (came.Held unit) k other = quiet _ k
  happens_there (came.Accepted unit count) k other =
      ap (λ (q : PortName). if q.line == k then unit_happenings (statuses q.line) plan end unit ps else []) at
      ∙ ap (λ (b : Bool). if b then stored_by_unit unit else []) other

module _ (xs : List InterfaceStatus) (plan : Plan) (end port : PortName) (at : port_of plan end ≡ port)
    (apart : at_switch plan port ≡ false) where
  store_same : (unit : UnitName) (p : Packet) (plain : List ℕ) → port.side ≡ Device → stored_packet xs unit p plain
      ≡ packet_stored xs port unit (record { prefix = p.prefix; head = p.head; body = plain; tag = [] })
  store_same unit p plain device = grind (arith, device)

  each_stored : (unit : UnitName) (key iv : List ℕ) (n : ℕ) (ps : List Packet) → port.side ≡ Device
      → stored_each xs unit (masked_bytes key iv n (encrypted_bytes ps)) ps
      ≡ map (packet_stored xs port unit) (opened_from_byte key iv n ps)
  each_stored unit key iv n [] device = refl
  each_stored unit key iv n (p ∷ ps) device =
      let first : List ℕ = masked_bytes key iv n p.body in
      let rest : List ℕ = masked_bytes key iv (n + length p.body) (encrypted_bytes ps) in
      let plain : List ℕ = masked_bytes key iv n (p.body ++ encrypted_bytes ps) in
      let joined : plain ≡ first ++ rest = masked_bytes-append key iv n p.body (encrypted_bytes ps) in
      let long : length p.body ≡ length first = sym (length-masked_bytes key iv n p.body) in
      let front : take (length p.body) plain ≡ first =
      (λ i. take (long i) (joined i)) ∙ take-append_seam first rest in
      let back : drop (length p.body) plain ≡ rest =
      (λ i. drop (long i) (joined i)) ∙ drop-append_seam first rest in
      (λ i. stored_packet xs unit p (front i) ∷ stored_each xs unit (back i) ps)
      ∙ (λ i. store_same unit p first device i ∷ each_stored unit key iv (n + length p.body) ps device i)

  -- the end is at a device's port, or at a host's
  device_there : port.side ≡ Device → is_device_port plan (port_of plan end) ≡ true
  device_there device = ap (λ (q : PortName). is_device_port plan q) at
      ∙ (λ i. not (apart i) && (sent_direction (device i) == 1))

  host_there : port.side ≡ Host → is_device_port plan (port_of plan end) ≡ false
  host_there host = ap (λ (q : PortName). is_device_port plan q) at
      ∙ (λ i. not (apart i) && (sent_direction (host i) == 1))

  stores_open : port.side ≡ Device → OpensAs plan end (λ unit ps. unit_happenings xs plan end unit ps)
      (λ unit ps. map (packet_stored xs port unit) ps)
  unfolding open_of
  stores_open device unit ps =
      ap (λ (b : Bool). if b then stored_each xs unit
      (masked_bytes (key_of plan unit.draw (received_in end unit)) (iv_of unit.sub unit.unit) 0 (encrypted_bytes ps)) ps
      else [])
      (device_there device)
      ∙ each_stored unit (key_of plan unit.draw (received_in end unit)) (iv_of unit.sub unit.unit) 0 ps device

  -- at a host's port nothing
  store_none : (unit : UnitName) (p : Packet) → port.side ≡ Host → packet_stored xs port unit p ≡ None
  store_none unit p host = grind (arith, host)

  none_stored : (unit : UnitName) (ps : List Packet) (older : List Happened) → port.side ≡ Host
      → newest_happened (map (packet_stored xs port unit) ps) older ≡ older
  none_stored unit [] older host = refl
  none_stored unit (p ∷ ps) older host =
      ap (λ (o : Option Happened). newest_happened (o ∷ map (packet_stored xs port unit) ps) older)
      (store_none unit p host)
      ∙ none_stored unit ps older host

  host_stores : (answer : Arrival) (ps : List Packet) (older : List Happened) → port.side ≡ Host
      → newest_happened (of_unit answer (λ unit. map (packet_stored xs port unit) ps)) older ≡ older
  host_stores (came.Malformed fault) ps older host = refl
  host_stores came.Plain ps older host = refl
  host_stores (came.Unknown stream) ps older host = refl
  host_stores (came.Insecure stream) ps older host = refl
  host_stores (came.NotKeyed stream sub) ps older host = refl
  host_stores (came.Fail stream sub cause) ps older host = refl
  host_stores (came.Held unit) ps older host = refl
  host_stores (came.Accepted unit count) ps older host = none_stored unit ps older host

  host_admits : (answer : Arrival) (ps : List Packet) → port.side ≡ Host
      → of_unit answer (λ unit. unit_happenings xs plan end unit ps) ≡ []
  host_admits (came.Malformed fault) ps host = refl
  host_admits came.Plain ps host = refl
  host_admits (came.Unknown stream) ps host = refl
  host_admits (came.Insecure stream) ps host = refl
  host_admits (came.NotKeyed stream sub) ps host = refl
  host_admits (came.Fail stream sub cause) ps host = refl
  host_admits (came.Held unit) ps host = refl
  host_admits (came.Accepted unit count) ps host =
      ap (λ (b : Bool). if b then stored_each xs unit (plain_of plan end unit ps) ps else []) (host_there host)

-- ---- TLPs that wait at switches

-- no TLPs come to a switch at this end of a line
enters_none : (side : Side) (line link : ℕ) (d : Direction) → way_of (record { side = side; line = line }) ≡ None
    → is_link_line link ≡ true → is_same_port (record { side = side; line = line }) (entering_end link d) ≡ false
enters_none Host line link Downstream none low = refl
enters_none Host line link Upstream none low = grind (arith, nat_tests, none, low)
enters_none Device line link Downstream none low = grind (arith, nat_tests, none, low)
enters_none Device line link Upstream none low = refl

module _ (end port : PortName) (no_way : way_of end ≡ None) (new : List HopTlp) (e : Event)
    (effects : UnitName → List Effect) (link : ℕ) (d : Direction) (ts : List HopTlp) where
  waits_same : is_link_line link ≡ true → (answer : Arrival)
      → waiting_next new link d e (arrival_verdict end port answer effects) ts ≡ ts
  waits_same low (came.Malformed fault) = refl
  waits_same low came.Plain = refl
  waits_same low (came.Unknown stream) = refl
  waits_same low (came.Insecure stream) = refl
  waits_same low (came.NotKeyed stream sub) = refl
  waits_same low (came.Fail stream sub cause) = refl
  waits_same low (came.Held unit) = refl
  waits_same low (came.Accepted unit count) =
      ap (λ (b : Bool). if b then ts ++ new else ts) (enters_none end.side end.line link d no_way low)

  carried_same : (answer : Arrival) → carried_next new e (arrival_verdict end port answer effects) link d ts ≡ ts
  carried_same answer = by (is_link_line link) refl
    where
      by : (b : Bool) → is_link_line link ≡ b
          → (if b then waiting_next new link d e (arrival_verdict end port answer effects) ts else ts) ≡ ts
      by true low = waits_same low answer
      by false low = refl

-- ---- an arrival

-- what it makes of what stands at the port's link
module _ (plan : Plan) (ends : EndsView) (k : KeeperView) (packets : List LinkPacket) (m : InterfacesView)
    (regions : List Region) (xs : List LinkAccesses) (h : History) (end port : PortName) (here : PortEnd)
    (l : LinkEnds) (a : LinkAccesses) (links : AreLinks plan ends k)
    (stands : PortsStandFor plan (state_of plan ends k packets) h) (here_is : port_on ends end ≡ Some here)
    (l_is : slice_get ends.links port.line ≡ Some l) (a_is : slice_get xs port.line ≡ Some a)
    (at : port_of plan end ≡ port) (apart : at_switch plan port ≡ false) (no_way : way_of end ≡ None) (e : Event)
    (quiet : IsQuiet plan e) (bytes : List ℕ) where
  abbrev st : LinkState
  st = state_of plan ends k packets

  abbrev ended : List Packet
  ended = unit_in plan st (Some (record { port = end; bytes = bytes }))

  abbrev answer : Arrival
  answer = (take_step here (cut_of bytes)).answer

  abbrev delivered : List Packet
  delivered = (take_step here (cut_of bytes)).port.delivered

  abbrev effects : UnitName → List Effect
  effects unit = effects_at regions m port l a unit delivered

  abbrev statuses : ℕ → List InterfaceStatus
  statuses = (policy_in m ends xs).statuses

  agrees : {A : Type 0} (f g : UnitName → List Packet → List A) → OpensAs plan end f g
      → of_unit answer (λ unit. f unit ended) ≡ of_unit answer (λ unit. g unit delivered)
  agrees f g opens =
      unit_agrees plan st h end here stands (end_of plan ends k packets end here links here_is) f g opens bytes

  abbrev reads_of : List InterfaceStatus → UnitName → List Packet → List WaitingRead
  reads_of zs unit ps = reads_by (targets_at port.side zs) end unit (effects unit) ps

  reads_agree : (zs : List InterfaceStatus) → of_unit answer (λ unit. reads_of zs unit ended)
      ≡ of_unit answer (λ unit. reads_of zs unit delivered)
  reads_agree zs = agrees (reads_of zs) (reads_of zs)
      (λ unit ps. reads_opened (targets_at port.side zs) end unit (effects unit) _ _ 0 ps)

  statuses_are : statuses port.line ≡ link_statuses l a
  statuses_are = (λ i. statuses_of_ends (l_is i) (a_is i))

  stores_agree : (older : List Happened)
      → newest_happened (of_unit answer (λ unit. unit_happenings (link_statuses l a) plan end unit ended)) older
      ≡ newest_happened (of_unit answer (λ unit. map (packet_stored (link_statuses l a) port unit) delivered)) older
  stores_agree older = by_side port.side refl
    where
      by_side : (s : Side) → port.side ≡ s → newest_happened
          (of_unit answer (λ unit. unit_happenings (link_statuses l a) plan end unit ended)) older
          ≡ newest_happened (of_unit answer (λ unit. map (packet_stored (link_statuses l a) port unit) delivered)) older
      by_side Device device =
          ap (λ (hs : List (Option Happened)). newest_happened hs older)
          (agrees (λ unit ps. unit_happenings (link_statuses l a) plan end unit ps)
          (λ unit ps. map (packet_stored (link_statuses l a) port unit) ps)
          (stores_open (link_statuses l a) plan end port at apart device))
      by_side Host host =
          ap (λ (hs : List (Option Happened)). newest_happened hs older)
          (host_admits (link_statuses l a) plan end port at apart answer ended host)
          ∙ sym (host_stores (link_statuses l a) plan end port at apart answer delivered older host)

  abbrev says : Verdict
  says = arrival_verdict end port answer effects

  -- the reads that wait at the port of a side of the link afterwards
  abbrev after_at : Side → List WaitingRead → List WaitingRead
  after_at side ws = waiting_reads_after plan statuses ended e says (port_at side port.line) ws

  reads_at_port : (a' : LinkAccesses) → reads_on port.side a' ≡ reads_on port.side a
      ++ of_unit answer (λ unit. reads_of (link_statuses l a) unit delivered)
      → reads_on port.side a' ≡ after_at port.side (reads_on port.side a)
  reads_at_port a' reads =
      reads
      ∙ ap (λ (ws : List WaitingRead). reads_on port.side a ++ ws) (sym (reads_agree (link_statuses l a))
      ∙ ap (λ (zs : List InterfaceStatus). of_unit answer (λ unit. reads_of zs unit ended)) (sym statuses_are))
      ∙ sym (reads_here plan statuses ended e end port at effects answer (reads_on port.side a))

  -- of the other side
  reads_beside : (a' : LinkAccesses) (side : Side) → reads_on side a' ≡ reads_on side a
      → is_same_port port (port_at side port.line) ≡ false → reads_on side a' ≡ after_at side (reads_on side a)
  reads_beside a' side same other = same ∙ sym (reads_there plan statuses ended e end port at effects answer
      (port_at side port.line) (reads_on side a) other)

  reads_turn : (a' : LinkAccesses) → reads_on port.side a' ≡ reads_on port.side a
      ++ of_unit answer (λ unit. reads_of (link_statuses l a) unit delivered)
      → other_reads port.side a' ≡ other_reads port.side a
      → (side : Side) → reads_on side a' ≡ after_at side (reads_on side a)
  reads_turn a' reads others = by port.side refl
    where
      here_at : (s : Side) → port.side ≡ s → reads_on s a' ≡ after_at s (reads_on s a)
      here_at s is = subst (λ (t : Side). reads_on t a' ≡ after_at t (reads_on t a)) is (reads_at_port a' reads)

      apart_at : (s t : Side) → port.side ≡ s → (sent_direction s == sent_direction t) ≡ false
          → is_same_port port (port_at t port.line) ≡ false
      apart_at s t is other =
          ap (λ (u : Side). (sent_direction u == sent_direction t) && (port.line == port.line)) is
          ∙ ap (λ (b : Bool). b && (port.line == port.line)) other

      by : (s : Side) → port.side ≡ s → (side : Side) → reads_on side a' ≡ after_at side (reads_on side a)
      by Host is Host = here_at Host is
      by Host is Device = reads_beside a' Device
          (subst (λ (t : Side). other_reads t a' ≡ other_reads t a) is others) (apart_at Host Device is refl)
      by Device is Host = reads_beside a' Host
          (subst (λ (t : Side). other_reads t a' ≡ other_reads t a) is others) (apart_at Device Host is refl)
      by Device is Device = here_at Device is

  turns_here : (new : List HopTlp) (a' : LinkAccesses) → reads_on port.side a' ≡ reads_on port.side a
      ++ of_unit answer (λ unit. reads_of (link_statuses l a) unit delivered)
      → other_reads port.side a' ≡ other_reads port.side a → a'.floors ≡ a.floors → a'.guarded.sizes
      ≡ a.guarded.sizes → MmioLeads a.guarded
      (of_unit answer (λ unit. map (packet_stored (link_statuses l a) port unit) delivered)) a'.guarded → a'.carried
      ≡ a.carried → TurnsHere after_at (same_floors port.line)
      (happens_by_packets plan statuses ended e says port.line) (carried_next new e says port.line) a a'
  turns_here new a' reads others floors sizes stored carried = record {
    reads_are = reads_turn a' reads others;
    floors_are = floors;
    sizes_are = sizes;
    leads = λ older left.
        subst (λ (hs : List Happened). AreLeftBy (mmio_byte a'.guarded) hs)
        (sym (ap (λ (hs : List (Option Happened)). newest_happened hs older)
        (happens_here plan statuses ended e quiet end port at effects answer)
        ∙ ap (λ (zs : List InterfaceStatus). newest_happened
        (of_unit answer (λ unit. unit_happenings zs plan end unit ended))
        older)
        statuses_are
        ∙ stores_agree older))
        (stored older left);
    carried_are = λ d. ap (λ (q : HopQueues). (queue_of q d).tlps) carried
        ∙ sym (carried_same end port no_way new e effects port.line d (queue_of a.carried d).tlps answer);
  }

  rests_there : (new : List HopTlp) (i : ℕ) → (port.line == i) ≡ false
      → RestsAt (waiting_reads_after plan statuses ended e says) same_floors (happens_by_packets plan statuses ended e says)
      (carried_next new e says) i
  rests_there new i other = record {
    reads_rest = λ side ws. reads_there plan statuses ended e end port at effects answer (port_at side i) ws
        (ap (λ (b : Bool). (sent_direction port.side == sent_direction side) && b) other
        ∙ and_false (sent_direction port.side == sent_direction side));
    floors_rest = λ ns. refl;
    nothing = λ older.
        ap (λ (hs : List (Option Happened)). newest_happened hs older)
        (happens_there plan statuses ended e quiet end port at effects answer i other);
    carried_rest = λ d ts. carried_same end port no_way new e effects i d ts answer;
  }

-- what bytes that arrive make of what stands at the links, at an event that brings them
pub arrival_turns : (plan : Plan) (ends new : EndsView) (k : KeeperView) (packets : List LinkPacket)
    (m : InterfacesView) (c d : MemoryContents) (xs zs : List LinkAccesses) (h : History) (end port : PortName)
    (here : PortEnd) (l : LinkEnds) (a : LinkAccesses) (bytes : List ℕ) (verdict : Verdict)
    → port_on ends end ≡ Some here → slice_get ends.links port.line ≡ Some l → slice_get xs port.line ≡ Some a
    → port_of plan end ≡ port → at_switch plan port ≡ false → way_of end ≡ None
    → Brings m end port bytes verdict ends c xs new d zs → (e : Event) → IsQuiet plan e → AreLinks plan ends k
    → PortsStandFor plan (state_of plan ends k packets) h
    → (let ps = unit_in plan (state_of plan ends k packets) (Some (record { port = end; bytes = bytes })) in
    AccessesTurn (waiting_reads_after plan (policy_in m ends xs).statuses ps e verdict) same_floors
    (happens_by_packets plan (policy_in m ends xs).statuses ps e verdict)
    (carried_next (unit_tlps plan ps verdict) e verdict)
    xs zs)
arrival_turns plan ends new k packets m c d xs zs h end port here l a bytes verdict here_is l_is a_is at apart no_way
    brought e quiet links stands =
    let x = brought.arrives here l a here_is l_is a_is in
    let ps : List Packet = unit_in plan (state_of plan ends k packets) (Some (record { port = end; bytes = bytes })) in
    let statuses : ℕ → List InterfaceStatus = (policy_in m ends xs).statuses in
    let says : Verdict = arrival_verdict end port (take_step here (cut_of bytes)).answer
    (λ unit. effects_at c.regions m port l a unit (take_step here (cut_of bytes)).port.delivered) in
    let tlps : List HopTlp = unit_tlps plan ps says in
    subst (λ (ws : List LinkAccesses). AccessesTurn (waiting_reads_after plan statuses ps e verdict) same_floors
    (happens_by_packets plan statuses ps e verdict) (carried_next (unit_tlps plan ps verdict) e verdict) xs ws)
    (sym x.accesses_are)
    (subst (λ (w : Verdict). AccessesTurn (waiting_reads_after plan statuses ps e w) same_floors
    (happens_by_packets plan statuses ps e w) (carried_next (unit_tlps plan ps w) e w) xs
    (slice_set xs port.line x.access)) (sym x.came.verdict_is)
    (turn_at _ _ _ _ xs port.line a x.access a_is
    (turns_here plan ends k packets m c.regions xs h end port here l a links stands here_is l_is a_is at apart no_way e
    quiet bytes tlps x.access x.came.reads_are x.came.others_stay x.came.floors_stay x.came.sizes_stay
    x.came.stored x.came.carried_stay)
    (rests_there plan ends k packets m c.regions xs h end port here l a links stands here_is l_is a_is at apart no_way
    e quiet bytes tlps)))
