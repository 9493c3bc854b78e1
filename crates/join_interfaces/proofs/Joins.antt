-- An operation on an interface is a step of the machine: the manager's walk is that of the one interface, its exchanges
-- give the stated step, and this is case by case what the machine makes of both ends.
use Rattle.std.proofs.Common.{◌≡◌, ℕ, suc, ◌-◌, ◌≤◌, Bool, length, Option, Some, None, refl, ap, sym, subst, ◌∙◌, arith}
use Rattle.std.specs.Prelude.{IfSome, if◌then◌else◌}
use Rattle.std.specs.Option.{option_map}
use Rattle.ide_types.specs.declared.status.StreamStatus.{StreamStatus}
use Rattle.ide_types.specs.declared.plan.Plan.{Plan}
use Rattle.script_events.specs.declared.event.Loss.{Loss}
use Rattle.interface_state.specs.declared.states.Lock.{Lock}
use Rattle.interface_state.specs.Kept.{kept_report}
use Rattle.interface_state.specs.Machine.{DeviceTdi, lock_of}
use Rattle.spec_interfaces.specs.Sites.{Site, nonce_behind}
use Rattle.spec_interfaces.specs.Views.{Managed}
use Rattle.event_verdicts.specs.declared.verdict.Verdict.TheVariants as v
use Rattle.spec_interfaces.specs.Due.{AskedState, asked_due, portions, bind_due, unbind_due}
use Rattle.machine_whole.specs.Interfaces.{Face, Streams}
use Rattle.interface_host.specs.declared.operation.InterfaceOperation.{InterfaceOperation}
use Rattle.interface_host.specs.declared.operation.InterfaceOperation.TheVariants as op
use Rattle.interface_host.specs.Steps.{Read}
use Rattle.interface_host.specs.Views.{HostTdi, Seen, interface_refusal_of, interface_unless}
use Rattle.interface_host.specs.Managers.{InterfaceManagerView}
use Rattle.interface_ends.specs.declared.said.StreamSaid.{StreamSaid}
use Rattle.interface_ends.specs.Replies.{DeviceTdis, NamedTdi, next_nonce}
use Rattle.interface_ends.proofs.Operations.{same_set}
use Rattle.interface_ends.specs.Exchanges.{IsReport, Meets, ReportsFit}
use Rattle.interface_ends.specs.Operations.{interface_walk, begun_walking, operation_walk, IsShortOp}
use Rattle.interface_ends.specs.Operations.{OperationsAreStated}
use Rattle.interface_ends.specs.Reports.{portion_count, lost_exchange_within, ReportIsRead, ReportsAreRead}
use Rattle.interface_ends.specs.Reports.{ReportsAreRefused}
use Rattle.interface_ends.specs.Keepers.{Ended, interface_operated, unless_refused, KeepersWalk}
unfoldable use Rattle.interface_ends.specs.Keepers.{manager_walk}
use Rattle.join_interfaces.specs.Verdicts.{outcome_verdict, report_of, op_event}
use Rattle.join_interfaces.specs.Faces.{IsFace}
use Rattle.join_interfaces.specs.Joined.{IsAt, IsInterfaceJoined, FitsNamedPeer, op_host, said_of}
use Rattle.join_interfaces.specs.Joined.{InterfaceOperationsJoin}
use Rattle.join_interfaces.proofs.Comes.{PeersRead, host_of, managed_as_seen, told_is, stands, read_in}
use Rattle.join_interfaces.proofs.Comes.{interface_behind, Comes, begun_walk}
use Rattle.join_interfaces.proofs.Locks.{lock_comes}
use Rattle.join_interfaces.proofs.Starts.{start_comes}
use Rattle.join_interfaces.proofs.Halts.{halt_comes}
use Rattle.join_interfaces.proofs.States.{state_comes}
use Rattle.join_interfaces.proofs.Binds.{bind_comes, unbind_comes}
use Rattle.spec_interfaces.specs.Peers.{has_peer, live_by_id}
use Rattle.join_interfaces.proofs.Portions.{counted}
use Rattle.join_interfaces.proofs.Reports.{IsWalk, report_comes}
use Rattle.join_interfaces.proofs.Meeting.{meets}
use Rattle.join_interfaces.proofs.Ends.{asking_at, is_over}
use Rattle.join_interfaces.proofs.Faces.{face_behind, asked_bound}

-- what is known of exchanges
pub record Laws : Type 0 where
  pub keepers : KeepersWalk
  pub stated_is : OperationsAreStated
  pub read_is : ReportsAreRead
  pub refused_is : ReportsAreRefused
  pub fit : ReportsFit

-- ---- the walk

stated_walk : Laws → (o : InterfaceOperation) (fuel portion draws : ℕ) (said : StreamSaid) (loss : Option Loss)
    (i : HostTdi)
    (d : DeviceTdis) (n : NamedTdi) → IsShortOp o → Meets portion i d n → 3 ≤ fuel
    → operation_walk o portion draws said loss i d n ≡ interface_walk fuel portion draws said loss (begun_walking o i d)
stated_walk laws o fuel portion draws said loss i d n short m enough =
    let more : suc (suc (suc (fuel - 3))) ≡ fuel = omega arith in
    subst (λ k. operation_walk o portion draws said loss i d n
    ≡ interface_walk k portion draws said loss (begun_walking o i d))
    more
    (sym (laws.stated_is o (fuel - 3) portion draws said loss i d n short m))

module _ (laws : Laws) (fuel : ℕ) (x : Site) (plan : Plan) (draw drawn portion place : ℕ)
    (said : StreamSaid) (ps : PeersRead) (loss : Option Loss) (d : DeviceTdis) (tdi : DeviceTdi) (m : Managed)
    (read : Read)
    (seen : Seen) (host : StreamStatus)
  where
    abbrev state_asked : AskedState
    state_asked = stands x said ps (next_nonce d) tdi (managed_as_seen seen m) host draw drawn

    abbrev there : NamedTdi
    there = record { place = place; tdi = tdi }

    report_walk : (lock : Option Lock) → lock_of tdi.state ≡ lock → Meets portion (host_of x draw seen m) d there
        → portion ≡ plan.portion → IfSome lock (λ l. IsReport (kept_report tdi.plan l)) → 1140 ≤ fuel
        → IsWalk x plan draw drawn portion place said ps loss d tdi m read seen
        (option_map (kept_report tdi.plan) lock)
        (interface_walk fuel portion drawn said loss (begun_walking op.Report (host_of x draw seen m) d))
    report_walk None is meet same report enough =
        let more : suc (fuel - 1) ≡ fuel = omega arith in
        subst (λ k. IsWalk x plan draw drawn portion place said ps loss d tdi m read seen None
        (interface_walk k portion drawn said loss (begun_walking op.Report (host_of x draw seen m) d))) more
        (laws.refused_is (fuel - 1) portion drawn said loss (host_of x draw seen m) d there meet is)
    report_walk (Some lock) is meet same report enough =
        let short = report.short in
        let some = report.some in
        let least = meet.portion_least in
        let whole : length (kept_report tdi.plan lock) ≤ fuel = omega arith in
        let count : portion_count fuel portion (length (kept_report tdi.plan lock))
        ≡ portions plan.portion (length (kept_report tdi.plan lock))
        = counted fuel portion (length (kept_report tdi.plan lock)) least some whole
        ∙ ap (λ k. portions k (length (kept_report tdi.plan lock))) same in
        subst (λ k. ReportIsRead (lost_exchange_within loss 1 k) (kept_report tdi.plan lock) (host_of x draw seen m) d
        (interface_walk fuel portion drawn said loss (begun_walking op.Report (host_of x draw seen m) d))) count
        (laws.read_is fuel portion drawn said loss (host_of x draw seen m) d there lock meet is whole)

    comes : (o : InterfaceOperation) → FitsNamedPeer (has_peer plan.peers x.link) ps.draw ps.live said.live o
        → Meets portion (host_of x draw seen m) d there → portion ≡ plan.portion
        → tdi.plan ≡ x.plan → 1140 ≤ fuel
        → Comes x state_asked place o loss d (asked_due plan x state_asked (op_event o x.number loss))
        (begun_walk (interface_refusal_of o (op_host ps.op host o) (host_of x draw seen m))
        (host_of x draw seen m) read d
        (interface_walk fuel portion drawn said loss (begun_walking o (host_of x draw seen m) d)))
    comes op.Lock fits meet same layout enough =
        let i = host_of x draw seen m in
        subst (λ w. Comes x state_asked place op.Lock loss d
        (asked_due plan x state_asked (op_event op.Lock x.number loss))
        (begun_walk (interface_refusal_of op.Lock host i) i read d w))
        (stated_walk laws op.Lock fuel portion drawn said loss i d there tt meet (omega arith))
        (lock_comes x draw drawn portion place said ps loss d tdi m read seen host
        (same_set d x.plan.requester there meet.named_is) meet.drawn meet.nonce)
    comes op.Report fits meet same layout enough =
        report_comes x plan draw drawn portion place said ps loss d tdi m read seen host _
        (same_set d x.plan.requester there meet.named_is) meet.nonce layout
        (report_walk (lock_of tdi.state) refl meet same meet.report enough)
    comes op.Start fits meet same layout enough =
        let i = host_of x draw seen m in
        subst (λ w. Comes x state_asked place op.Start loss d
        (asked_due plan x state_asked (op_event op.Start x.number loss))
        (begun_walk (interface_refusal_of op.Start host i) i read d w))
        (stated_walk laws op.Start fuel portion drawn said loss i d there tt meet (omega arith))
        (start_comes x draw drawn portion place said ps loss d tdi m read seen host
        (same_set d x.plan.requester there meet.named_is) meet.nonce)
    comes op.Halt fits meet same layout enough =
        let i = host_of x draw seen m in
        subst (λ w. Comes x state_asked place op.Halt loss d
        (asked_due plan x state_asked (op_event op.Halt x.number loss))
        (begun_walk (interface_refusal_of op.Halt host i) i read d w))
        (stated_walk laws op.Halt fuel portion drawn said loss i d there tt meet (omega arith))
        (halt_comes x draw drawn portion place said ps loss d tdi m seen host
        (same_set d x.plan.requester there meet.named_is))
    comes op.State fits meet same layout enough =
        let i = host_of x draw seen m in
        subst (λ w. Comes x state_asked place op.State loss d
        (asked_due plan x state_asked (op_event op.State x.number loss))
        (begun_walk (interface_refusal_of op.State host i) i read d w))
        (stated_walk laws op.State fuel portion drawn said loss i d there tt meet (omega arith))
        (state_comes x draw drawn portion place said ps loss d tdi m seen host
        (same_set d x.plan.requester there meet.named_is) meet.nonce)
    comes (op.Bind peer) fits meet same layout enough =
        let i = host_of x draw seen m in
        subst (λ (b : Bool). Comes x state_asked place (op.Bind peer) loss d
        (if b then bind_due x state_asked peer.line peer.id loss else v.Nothing)
        (begun_walk (interface_refusal_of (op.Bind peer) (op_host ps.op host (op.Bind peer)) i) i read d
        (interface_walk fuel portion drawn said loss (begun_walking (op.Bind peer) i d)))) (sym fits.0)
        (subst (λ w. Comes x state_asked place (op.Bind peer) loss d
        (bind_due x state_asked peer.line peer.id loss)
        (begun_walk (interface_refusal_of (op.Bind peer) (op_host ps.op host (op.Bind peer)) i) i read d w))
        (stated_walk laws (op.Bind peer) fuel portion drawn said loss i d there fits.1 meet (omega arith))
        (bind_comes x draw drawn portion place said ps loss d tdi m read host peer fits.2 fits.3
        (same_set d x.plan.requester there meet.named_is) seen meet.nonce))
    comes (op.Unbind peer) fits meet same layout enough =
        let i = host_of x draw seen m in
        subst (λ (b : Bool). Comes x state_asked place (op.Unbind peer) loss d
        (if b then unbind_due x state_asked peer.line peer.id loss else v.Nothing)
        (begun_walk (interface_refusal_of (op.Unbind peer) (op_host ps.op host (op.Unbind peer)) i) i read d
        (interface_walk fuel portion drawn said loss (begun_walking (op.Unbind peer) i d)))) (sym fits.0)
        (subst (λ w. Comes x state_asked place (op.Unbind peer) loss d
        (unbind_due x state_asked peer.line peer.id loss)
        (begun_walk (interface_refusal_of (op.Unbind peer) (op_host ps.op host (op.Unbind peer)) i) i read d w))
        (stated_walk laws (op.Unbind peer) fuel portion drawn said loss i d there fits.1 meet (omega arith))
        (unbind_comes x draw drawn portion place said ps loss d tdi m read host peer
        (same_set d x.plan.requester there meet.named_is) seen meet.nonce))

-- ---- both ends

bytes_in : (o : InterfaceOperation) (e : Ended) → report_of o e ≡ read_in o e.manager.read
bytes_in op.Lock e = refl
bytes_in op.Report e = refl
bytes_in op.Start e = refl
bytes_in op.Halt e = refl
bytes_in op.State e = refl
bytes_in (op.Bind peer) e = refl
bytes_in (op.Unbind peer) e = refl

-- the interface as the topology and the machine have it
abbrev face_of : DeviceTdi → Seen → Managed → Face
face_of tdi seen m = record { tdi = tdi; managed = managed_as_seen seen m }

abbrev ended_at : ℕ → ℕ → InterfaceOperation → StreamStatus → ℕ → StreamSaid → Option Loss → InterfaceManagerView
    → DeviceTdis → HostTdi → Ended
ended_at fuel number o host draws said loss m d i = unless_refused (interface_refusal_of o host i) m d
    (manager_walk fuel said loss (interface_unless (interface_refusal_of o host i) m (asking_at m number o draws)) d)

joined_by : Laws → (fuel : ℕ) (plan : Plan) (s : Streams) (used : ℕ → ℕ) (x : Site) (place : ℕ) (o : InterfaceOperation)
    (loss : Option Loss) (m : InterfaceManagerView) (d : DeviceTdis) (tdi : DeviceTdi) (seen : Seen) (kept : Managed)
    (live : Option ℕ) → 1140 ≤ fuel
    → FitsNamedPeer (has_peer plan.peers x.link) s.draw (live_by_id s.live plan.peers x.link) live o
    → IsAt plan s used x (face_of tdi seen kept) x.number place m d
    (host_of x (s.draw x.link x.plan.stream) seen kept) tdi
    → IsInterfaceJoined plan s used x (face_of tdi seen kept) x.number place o loss m d
    (ended_at fuel x.number o (op_host s.op (s.host x.link x.plan.stream) o) s.drawn (said_of s x live) loss m d
    (host_of x (s.draw x.link x.plan.stream) seen kept))
joined_by laws fuel plan s used x place o loss m d tdi seen kept live enough fits a =
    let f = face_of tdi seen kept in
    let draw = s.draw x.link x.plan.stream in
    let host = s.host x.link x.plan.stream in
    let said = said_of s x live in
    let ps : PeersRead = record { live = live_by_id s.live plan.peers x.link; op = s.op; draw = s.draw } in
    let i = host_of x draw seen kept in
    let meet = meets laws.fit plan s used x f x.number place m d i tdi a in
    let over = is_over laws.keepers fuel x.number o s.drawn said loss m d i
    (interface_refusal_of o (op_host s.op host o) i)
    a.at_manager in
    let w = begun_walk (interface_refusal_of o (op_host s.op host o) i) i m.read d
    (interface_walk fuel m.portion s.drawn said loss (begun_walking o i d)) in
    let st = stands x said ps (nonce_behind plan x.link (used x.link)) tdi (managed_as_seen seen kept) host draw s.drawn
    in
    let due = asked_due plan x st (op_event o x.number loss) in
    let step : Comes x st place o loss d due w = subst
    (λ k. Comes x (stands x said ps k tdi (managed_as_seen seen kept) host draw s.drawn) place o loss d
    (asked_due plan x (stands x said ps k tdi (managed_as_seen seen kept) host draw s.drawn) (op_event o x.number loss))
    w)
    a.next_is
    (comes laws fuel x plan draw s.drawn m.portion place said ps loss d tdi kept m.read seen host o fits meet
    a.portion_is
    a.face.layout enough) in
    let e = ended_at fuel x.number o (op_host s.op host o) s.drawn said loss m d i in
    let stays = asked_bound st.around x o loss due tdi
    (record { layout = a.face.layout; bound = a.face.bound }) in
    record {
      verdict = due;
      verdict_is = refl;
      ended_is = ap (λ bytes. outcome_verdict x.number loss bytes e.outcome) (bytes_in o e)
          ∙ (λ k. outcome_verdict x.number loss (read_in o (over.read_is k)) (over.outcome_is k))
          ∙ step.verdict;
      interface = w.interface;
      tdi = interface_behind x st o loss due;
      manager_is = over.interfaces_are;
      portion_is = over.portion_is;
      device_is = over.device_is ∙ step.device;
      face = subst (λ g. IsFace draw x w.interface (interface_behind x st o loss due) g)
          (face_behind plan s used x f o loss due)
          (record { managed = step.managed; tdi_is = refl; layout = stays.layout; bound = stays.bound });
    }

joined_at : Laws → (plan : Plan) (s : Streams) (used : ℕ → ℕ) (x : Site) (f : Face) (place : ℕ) (o : InterfaceOperation)
    (loss : Option Loss) (m : InterfaceManagerView) (d : DeviceTdis) (i : HostTdi) (tdi : DeviceTdi)
    (live : Option ℕ) → FitsNamedPeer (has_peer plan.peers x.link) s.draw (live_by_id s.live plan.peers x.link) live o
    → IsAt plan s used x f x.number place m d i tdi → IsInterfaceJoined plan s used x f x.number place o loss m d
    (interface_operated x.number o (op_host s.op (s.host x.link x.plan.stream) o) s.drawn (said_of s x live) loss m d i)
joined_at laws plan s used x f place o loss m d i tdi live fits a =
    let b = a.face.managed in
    let l = b.laid_out in
    let kept = told_is i.seen f.managed b.seen in
    let i_is : host_of x (s.draw x.link x.plan.stream) i.seen f.managed ≡ i = λ k. record {
      link = sym l.link k;
      requester = sym l.requester k;
      stream = sym l.stream k;
      flags = sym l.flags k;
      offset = sym l.offset k;
      draw = sym b.draw_is k;
      needs = (ap (λ (j : Managed). j.needs) kept ∙ sym b.needs) k;
      was_started = (ap (λ (j : Managed). j.started) kept ∙ sym b.started) k;
      seen = i.seen;
      asked = (ap (λ (j : Managed). j.asked) kept ∙ sym b.asked) k;
    } in
    let f_is : face_of tdi i.seen f.managed ≡ f = λ k. record { tdi = a.face.tdi_is k; managed = kept k } in
    subst (λ j. IsAt plan s used x f x.number place m d j tdi
    → IsInterfaceJoined plan s used x f x.number place o loss m d
    (interface_operated x.number o (op_host s.op (s.host x.link x.plan.stream) o) s.drawn
    (said_of s x live) loss m d j))
    i_is
    (subst (λ g. IsAt plan s used x g x.number place m d (host_of x (s.draw x.link x.plan.stream) i.seen f.managed) tdi
    → IsInterfaceJoined plan s used x g x.number place o loss m d
    (interface_operated x.number o (op_host s.op (s.host x.link x.plan.stream) o) s.drawn (said_of s x live) loss m d
    (host_of x (s.draw x.link x.plan.stream) i.seen f.managed)))
    f_is
    (joined_by laws 1140 plan s used x place o loss m d tdi i.seen f.managed live (omega arith) fits))
    a

pub operations_join : Laws → InterfaceOperationsJoin
operations_join laws plan s used x f number place o loss m d i tdi live a fits =
    subst (λ n. IsAt plan s used x f n place m d i tdi
    → IsInterfaceJoined plan s used x f n place o loss m d
    (interface_operated n o (op_host s.op (s.host x.link x.plan.stream) o) s.drawn (said_of s x live) loss m d i))
    a.number_is
    (joined_at laws plan s used x f place o loss m d i tdi live fits)
    a
