-- The verdicts of device interfaces fit: an interface has one of few numbers, a nonce is of the plan, a report is made
-- of numbers' bytes and of the plan's, and draws are no more than events.
use Rattle.std.proofs.Common.{◌≡◌, ℕ, ◌+◌, ◌-◌, ◌<◌, ◌≤◌, ◌^◌, ◌&&◌, Bool, true, false, nat_le, nat_lt, List, [], ◌∷◌}
use Rattle.std.proofs.Common.{length, Option, Some, None, Result, Ok, Err, if◌then◌else◌, refl, sym, ap, ◌∙◌, subst}
use Rattle.std.proofs.Common.{suc, eqb, arith}
use Rattle.std.proofs.lemmas.Bool.Decides.{nat_tests}
use Rattle.std.specs.Option.{option_map, option_map_or}
use Rattle.std.proofs.Math.Nat.{div-le_self}
use Rattle.std.proofs.lemmas.Bool.{leb-true, eqb-true}
use Rattle.hex.specs.Hex.{IsBytes}
use Rattle.ide_types.specs.Lines.{is_peer_line, peer_line}
use Rattle.ide_types.specs.declared.plan.Plan.{Plan}
use Rattle.ide_types.specs.declared.interface.InterfacePlan.{InterfacePlan}
use Rattle.ide_types.specs.Fits.{AreBytes, FitsPlan}
use Rattle.ide_types.specs.declared.view.View.{View}
use Rattle.ide_types.specs.declared.view.View.TheVariants as view
use Rattle.ide_types.specs.declared.verdict.InterfaceVerdict.TheVariants as iv
use Rattle.script_events.specs.declared.event.Event.{Event}
use Rattle.script_events.specs.declared.event.Event.TheVariants as event
use Rattle.script_events.specs.declared.event.InterfaceEvent.{InterfaceEvent}
use Rattle.script_events.specs.declared.event.InterfaceEvent.TheVariants as ie
use Rattle.script_events.specs.declared.event.Loss.{Loss}
use Rattle.event_verdicts.specs.declared.verdict.Verdict.{Verdict}
use Rattle.event_verdicts.specs.declared.verdict.Verdict.TheVariants as v
use Rattle.event_verdicts.specs.Apart.{Fits}
use Rattle.tdisp_codec.specs.Reports.{Report, report_spelling}
use Rattle.tdisp_codec.proofs.Octets.{AreOctets, are_bytes, octets, joins, two_bytes, four_bytes, zero_bytes_by, IsByte}
use Rattle.tdisp_codec.proofs.RangeBytes.{range_octets}
use Rattle.std.proofs.lemmas.List.Elements.{All-from_recursion}
use Rattle.interface_state.specs.declared.states.Lock.{Lock}
use Rattle.interface_state.specs.declared.states.TdiState.{TdiState}
use Rattle.interface_state.specs.declared.states.TdiState.TheVariants.{ConfigUnlocked, ConfigLocked, Run, Error}
use Rattle.interface_state.specs.Kept.{kept_report, interface_report}
use Rattle.interface_state.specs.Machine.{state_code, lock_of, nonce_answer, start_answer, DeviceTdi, bind_answer}
use Rattle.interface_state.specs.Machine.{unbind_answer}
use Rattle.interface_state.proofs.KeptReports.{kept_short}
use Rattle.spec_keys.specs.History.{History, op_of, draws}
use Rattle.spec_keys.specs.Due.{lost_at}
use Rattle.spec_interfaces.specs.Sites.{Site, site_at}
use Rattle.spec_interfaces.specs.Views.{Managed, on_lock, on_report, on_start, on_halt, on_state, on_bind, on_operation}
use Rattle.spec_interfaces.specs.Views.{managed_after, managed_view, stream_draw, number_in, view_broken}
use Rattle.spec_interfaces.specs.Due.{AskedState, asked_state, unless_lost, if_unlocked, verdict_of_lock, lock_due}
use Rattle.spec_interfaces.specs.Due.{if_locked_or_running, portions, report_verdict, if_locked, if_reported}
use Rattle.spec_interfaces.specs.Due.{started_as, verdict_of_bind, unbound_as, bind_due, unbind_due, op_status}
use Rattle.spec_interfaces.specs.Due.{start_due, asked_due, interface_due, on_site, with_number}
use Rattle.spec_interfaces.specs.Due.{interface_verdict_due as own_due}
use Rattle.spec_interfaces.specs.Peers.{has_peer}
unfoldable use Rattle.spec_interfaces.specs.Peers.{peer_end}
use Rattle.ide_types.specs.Ports.{host_port, device_port}
use Rattle.ide_types.specs.declared.port.PortName.{PortName}
use Rattle.ide_types.specs.declared.plan.PeerPlan.{PeerPlan}
use Rattle.spec_links.specs.Cause.{CauseLaw}
use Rattle.spec_links.specs.Memory.{memory_due}
unfoldable use Rattle.spec_links.specs.Due.{due}
use Rattle.law_text.proofs.Draws.{few_draws}
use Rattle.law_text.proofs.OperationsFit.{lost_fits, secure_fits, fits_if, refresh_due_fits}
use Rattle.law_text.proofs.SitesFit.{SiteFits, site_fits, nonce_bytes}

-- ---- what stands when an interface is asked

record StandingFits (s : AskedState) : Type 0 where
  nonce : (nonce : List ℕ) → s.around.drawn ≡ Some nonce → IsBytes nonce
  needs : s.managed.needs < 2 ^ 64
  draw : s.draw < 2 ^ 64
  drawn : s.drawn < 2 ^ 64
  peer : (line stream : ℕ) → s.peer_draw line stream < 2 ^ 64

-- ---- what may be lost on the way

unless_fits : (plan : Plan) (loss : Option Loss) (last : ℕ) (w : Verdict) → last < 2 ^ 64 → Fits plan w
    → Fits plan (unless_lost loss last w)
unless_fits plan None last w few fits = fits
unless_fits plan (Some loss) last w few fits = by (nat_le 1 loss.exchange) (nat_le loss.exchange last) refl
  where
    by : (low high : Bool) → nat_le loss.exchange last ≡ high
        → Fits plan (if low && high then lost_at loss.lost loss.exchange else w)
    by true true is = lost_fits plan loss.lost loss.exchange (omega (arith, leb-true loss.exchange last is, few))
    by true false is = fits
    by false high is = fits

-- ---- lock

nonce_answer_fits : (plan : Plan) (x : Site) (drawn : Option (List ℕ)) → SiteFits x
    → ((nonce : List ℕ) → drawn ≡ Some nonce → IsBytes nonce) → Fits plan (verdict_of_lock x (nonce_answer drawn))
nonce_answer_fits plan x None site bytes = (omega arith, omega arith)
nonce_answer_fits plan x (Some nonce) site bytes = (site.number, bytes nonce refl)

answered_fits : (plan : Plan) (x : Site) (b c d : Bool) (answer : Result (List ℕ) ℕ)
    → Fits plan (verdict_of_lock x answer)
    → Fits plan (verdict_of_lock x (if b then Err 4 else if c then Err 1 else if d then Err 260 else answer))
answered_fits plan x true c d answer fits = (omega arith, omega arith)
answered_fits plan x false true d answer fits = (omega arith, omega arith)
answered_fits plan x false false true answer fits = (omega arith, omega arith)
answered_fits plan x false false false answer fits = fits

unlocked_fits : (plan : Plan) (view : View) (w : Verdict) → Fits plan w → Fits plan (if_unlocked view w)
unlocked_fits plan view.Unlocked w fits = fits
unlocked_fits plan view.Locked w fits = tt
unlocked_fits plan view.Running w fits = tt
unlocked_fits plan view.Doubt w fits = tt
unlocked_fits plan view.Broken w fits = tt

lock_fits : (plan : Plan) (x : Site) (s : AskedState) (loss : Option Loss) → SiteFits x → StandingFits s
    → Fits plan (lock_due x s loss)
lock_fits plan x s loss site stands =
    unlocked_fits plan s.managed.view _
    (secure_fits plan s.host _
    (unless_fits plan loss 3 _ (omega arith)
    (answered_fits plan x _ _ _ (nonce_answer s.around.drawn)
    (nonce_answer_fits plan x s.around.drawn site stands.nonce))))

-- ---- report

zeros : AreOctets (0 ∷ 0 ∷ [])
zeros = octets (0 ∷ 0 ∷ []) (All-from_recursion IsByte (0 ∷ 0 ∷ []) (zero_bytes_by 2))

spelling_octets : (r : Report) → AreBytes r.device → AreOctets (report_spelling r)
spelling_octets r device =
    joins (two_bytes r.info) (joins zeros (joins (two_bytes r.msix) (joins (two_bytes r.lnr) (joins (four_bytes r.tph)
    (joins (four_bytes (length r.ranges))
    (joins (range_octets r.ranges) (joins (four_bytes (length r.device)) (octets r.device device))))))))

report_bytes : (plan : InterfacePlan) (lock : Lock) → AreBytes plan.info → IsBytes (kept_report plan lock)
report_bytes plan lock info = are_bytes
    (spelling_octets (interface_report plan lock.registers lock.flags lock.offset) info)

few_portions : (size len : ℕ) → size ≤ 65535 → len ≤ 1140 → portions size len < 2 ^ 64
few_portions size len small short = omega (arith, div-le_self (len + size - 1) size, small, short)

reported_fits : (plan : Plan) → FitsPlan plan → (x : Site) (loss : Option Loss) (o : Option Lock) → SiteFits x
    → Fits plan (report_verdict plan x loss (option_map (kept_report x.plan) o))
reported_fits plan fits x loss None site = unless_fits plan loss 1 _ (omega arith) (omega arith, omega arith)
reported_fits plan fits x loss (Some lock) site =
    unless_fits plan loss _ _ (few_portions plan.portion (length (kept_report x.plan lock)) fits.portion_most
    (kept_short x.plan lock site.tdi)) (site.number, report_bytes x.plan lock site.info)

viewed_fits : (plan : Plan) (view : View) (w : Verdict) → Fits plan w → Fits plan (if_locked_or_running view w)
viewed_fits plan view.Unlocked w fits = tt
viewed_fits plan view.Locked w fits = fits
viewed_fits plan view.Running w fits = fits
viewed_fits plan view.Doubt w fits = tt
viewed_fits plan view.Broken w fits = tt

-- ---- start

locked_fits : (plan : Plan) (view : View) (w : Verdict) → Fits plan w → Fits plan (if_locked view w)
locked_fits plan view.Unlocked w fits = tt
locked_fits plan view.Locked w fits = fits
locked_fits plan view.Running w fits = tt
locked_fits plan view.Doubt w fits = tt
locked_fits plan view.Broken w fits = tt

shown_fits : (plan : Plan) (b : Bool) (w : Verdict) → Fits plan w → Fits plan (if_reported b w)
shown_fits plan true w fits = fits
shown_fits plan false w fits = tt

started_fits : (plan : Plan) (x : Site) (draw : ℕ) (answer : Result (Unit {0}) ℕ) → SiteFits x → draw < 2 ^ 64
    → ((code : ℕ) → answer ≡ Err code → code < 2 ^ 64) → Fits plan (started_as x draw answer)
started_fits plan x draw (Ok done) site few codes = (site.number, few)
started_fits plan x draw (Err code) site few codes = (omega arith, codes code refl)

start_code : (s : TdiState) (nonce : List ℕ) (code : ℕ) → start_answer s nonce ≡ Err code → code < 2 ^ 64
start_code s nonce code is = grind arith

start_fits : (plan : Plan) (x : Site) (s : AskedState) (loss : Option Loss) → SiteFits x → StandingFits s
    → Fits plan (start_due x s loss)
start_fits plan x s loss site stands =
    let end = started_fits plan x s.draw (start_answer s.tdi.state s.managed.nonce) site stands.draw
    (start_code s.tdi.state s.managed.nonce) in
    locked_fits plan s.managed.view _ (shown_fits plan s.managed.reported _ (secure_fits plan s.host _
    (fits_if plan (nat_lt s.draw s.managed.needs) (v.Interface (iv.RefusedRefreshFirst s.draw s.managed.needs)) _
    (stands.draw, stands.needs) (unless_fits plan loss 1 _ (omega arith) end))))

-- ---- bind, unbind

-- a stream between devices has one of eight lines
peer_end_line : (ps : List PeerPlan) (n link id : ℕ) (e : PortName) → peer_end ps n link id ≡ Some e
    → (24 + n ≤ e.line) × (e.line < 24 + n + length ps)
unfolding peer_end
peer_end_line [] n link id e is = absurd cc
peer_end_line (p ∷ ps) n link id e is =
    by (eqb p.id id && eqb p.near link) (eqb p.id id && eqb p.far link) is
    (λ later. peer_end_line ps (n + 1) link id e later)
  where
    at : (a b : PortName) → Some a ≡ Some b → a.line ≡ b.line
    at a b is = cc

    by : (a b : Bool) → (if a then Some (host_port (peer_line n)) else if b then Some (device_port (peer_line n))
        else peer_end ps (n + 1) link id) ≡ Some e
        → (peer_end ps (n + 1) link id ≡ Some e → (24 + (n + 1) ≤ e.line) × (e.line < 24 + (n + 1) + length ps))
        → (24 + n ≤ e.line) × (e.line < 24 + n + suc (length ps))
    by true b is rest = let same = at (host_port (peer_line n)) e is in (omega (arith, same), omega (arith, same))
    by false true is rest = let same = at (device_port (peer_line n)) e is in (omega (arith, same), omega (arith, same))
    by false false is rest = let later = rest is in (omega (arith, later.0), omega (arith, later.1))

has_line : (ps : List PeerPlan) (link line stream : ℕ) → length ps ≤ 8 → has_peer ps link line stream ≡ true
    → is_peer_line line ≡ true
has_line ps link line stream few has = by (peer_end ps 0 link stream) refl has
  where
    by : (o : Option PortName) → peer_end ps 0 link stream ≡ o → option_map_or (λ e. eqb e.line line) o false ≡ true
        → is_peer_line line ≡ true
    by None is has = absurd cc
    by (Some e) is has =
        let same : e.line ≡ line = eqb-true e.line line has in
        let at = peer_end_line ps 0 link stream e is in
        let least : 24 ≤ line = omega (arith, same, at.0) in
        let most : line < 32 = omega (arith, same, at.1, few) in
        grind (arith, nat_tests, least, most)

bound_fits : (plan : Plan) (x : Site) (line : ℕ) (answer : Result ℕ ℕ) → SiteFits x → is_peer_line line ≡ true
    → ((code : ℕ) → answer ≡ Err code → code < 2 ^ 64) → Fits plan (verdict_of_bind x line answer)
bound_fits plan x line (Ok draw) site at codes = (site.number, at)
bound_fits plan x line (Err code) site at codes = (omega arith, codes code refl)

bind_code : (t : DeviceTdi) (stream : ℕ) (live : Option ℕ) (code : ℕ) → bind_answer t stream live ≡ Err code
    → code < 2 ^ 64
bind_code t stream live code is = grind arith

bind_fits : (plan : Plan) (x : Site) (s : AskedState) (line stream : ℕ) (loss : Option Loss) → SiteFits x
    → StandingFits s → is_peer_line line ≡ true → Fits plan (bind_due x s line stream loss)
bind_fits plan x s line stream loss site stands at =
    let answer = bind_answer s.tdi stream (s.around.live stream) in
    viewed_fits plan s.managed.view _ (secure_fits plan (op_status (s.peer_op line stream)) _
    (fits_if plan (nat_lt (s.peer_draw line stream) s.managed.needs)
    (v.Interface (iv.RefusedRefreshFirst (s.peer_draw line stream) s.managed.needs)) _
    (stands.peer line stream, stands.needs)
    (unless_fits plan loss 1 _ (omega arith)
    (bound_fits plan x line answer site at (bind_code s.tdi stream (s.around.live stream))))))

unbound_fits : (plan : Plan) (x : Site) (line : ℕ) (answer : Result (Unit {0}) ℕ) → SiteFits x
    → is_peer_line line ≡ true → ((code : ℕ) → answer ≡ Err code → code < 2 ^ 64) → Fits plan (unbound_as x line answer)
unbound_fits plan x line (Ok done) site at codes = (site.number, at)
unbound_fits plan x line (Err code) site at codes = (omega arith, codes code refl)

unbind_code : (t : DeviceTdi) (stream code : ℕ) → unbind_answer t stream ≡ Err code → code < 2 ^ 64
unbind_code t stream code is = grind arith

unbind_fits : (plan : Plan) (x : Site) (s : AskedState) (line stream : ℕ) (loss : Option Loss) → SiteFits x
    → is_peer_line line ≡ true → Fits plan (unbind_due x s line stream loss)
unbind_fits plan x s line stream loss site at =
    viewed_fits plan s.managed.view _ (unless_fits plan loss 1 _ (omega arith)
    (unbound_fits plan x line (unbind_answer s.tdi stream) site at (unbind_code s.tdi stream)))

-- if the device has the stream
had_fits : (plan : Plan) → FitsPlan plan → (x : Site) (line stream : ℕ) (w : Verdict)
    → (is_peer_line line ≡ true → Fits plan w)
    → Fits plan (if has_peer plan.peers x.link line stream then w else v.Nothing)
had_fits plan fits x line stream w fit = by (has_peer plan.peers x.link line stream) refl
  where
    by : (b : Bool) → has_peer plan.peers x.link line stream ≡ b → Fits plan (if b then w else v.Nothing)
    by true has = fit (has_line plan.peers x.link line stream fits.peers_most has)
    by false has = tt

-- ---- halt, and what shows a state

needs_fit : (m : Managed) (drawn : ℕ) (b : Bool) → m.needs < 2 ^ 64 → drawn < 2 ^ 64
    → (if b then drawn else m.needs) < 2 ^ 64
needs_fit m drawn true needs few = few
needs_fit m drawn false needs few = needs

code_fits : (s : TdiState) → state_code s < 2 ^ 64
code_fits ConfigUnlocked = omega arith
code_fits (ConfigLocked lock nonce) = omega arith
code_fits (Run lock) = omega arith
code_fits Error = omega arith

asked_fits : (plan : Plan) → FitsPlan plan → (x : Site) (s : AskedState) (e : InterfaceEvent) → SiteFits x
    → StandingFits s → Fits plan (asked_due plan x s e)
asked_fits plan fits x s (ie.Lock i loss) site stands = lock_fits plan x s loss site stands
asked_fits plan fits x s (ie.Report i loss) site stands = viewed_fits plan s.managed.view _
    (reported_fits plan fits x loss (lock_of s.tdi.state) site)
asked_fits plan fits x s (ie.Start i loss) site stands = start_fits plan x s loss site stands
asked_fits plan fits x s (ie.Halt i loss) site stands = unless_fits plan loss 1 _ (omega arith)
    (site.number, needs_fit s.managed s.drawn s.managed.started stands.needs stands.drawn)
asked_fits plan fits x s (ie.State i loss) site stands = unless_fits plan loss 1 _ (omega arith)
    (site.number, code_fits s.tdi.state)
asked_fits plan fits x s (ie.Bind i line stream loss) site stands =
    had_fits plan fits x line stream _ (λ at. bind_fits plan x s line stream loss site stands at)
asked_fits plan fits x s (ie.Unbind i line stream loss) site stands =
    had_fits plan fits x line stream _ (λ at. unbind_fits plan x s line stream loss site at)
asked_fits plan fits x s (ie.View i) site stands = site.number
asked_fits plan fits x s (ie.Write i register value) site stands = fits_if plan _ (v.Interface (iv.Written x.number _))
    v.Nothing (site.number, code_fits _) tt
asked_fits plan fits x s (ie.Flr i) site stands = (site.number, code_fits _)
asked_fits plan fits x s (ie.Firmware i) site stands = (site.number, code_fits _)
asked_fits plan fits x s (ie.Memory at len) site stands = tt

-- ---- draws that are asked for

lock_same : (m : Managed) (w : Verdict) → (on_lock m w).needs ≡ m.needs
lock_same m w = grind arith

report_same : (m : Managed) (w : Verdict) → (on_report m w).needs ≡ m.needs
report_same m w = grind arith

start_same : (m : Managed) (w : Verdict) → (on_start m w).needs ≡ m.needs
start_same m w = grind arith

state_same : (m : Managed) (w : Verdict) → (on_state m w).needs ≡ m.needs
state_same m w = grind arith

bind_same : (line : ℕ) (m : Managed) (w : Verdict) → (on_bind line m w).needs ≡ m.needs
bind_same line m w = grind arith

halt_needs : (drawn : ℕ) (m : Managed) (w : Verdict) (n : ℕ) → m.needs ≤ n → drawn ≤ n → (on_halt drawn m w).needs ≤ n
halt_needs drawn m w n few made = grind arith

operation_needs : (drawn : ℕ) (e : InterfaceEvent) (w : Verdict) (m : Managed) (n : ℕ) → m.needs ≤ n → drawn ≤ n
    → (on_operation drawn e w m).needs ≤ n
operation_needs drawn (ie.Lock i loss) w m n few made = omega (arith, lock_same m w, few)
operation_needs drawn (ie.Report i loss) w m n few made = omega (arith, report_same m w, few)
operation_needs drawn (ie.Start i loss) w m n few made = omega (arith, start_same m w, few)
operation_needs drawn (ie.Halt i loss) w m n few made = halt_needs drawn m w n few made
operation_needs drawn (ie.State i loss) w m n few made = omega (arith, state_same m w, few)
operation_needs drawn (ie.Bind i line stream loss) w m n few made = omega (arith, bind_same line m w, few)
operation_needs drawn _ w m n few made = few

needs_if : (b : Bool) (k m : Managed) (n : ℕ) → k.needs ≤ n → m.needs ≤ n → (if b then k else m).needs ≤ n
needs_if true k m n one two = one
needs_if false k m n one two = two

-- what one event makes of the draw that an interface needs
one_needs : (h : History) (x : Site) (e : Event) (w : Verdict) (m : Managed) (n : ℕ) → m.needs ≤ n → draws h ≤ n
    → (managed_after (op_of h) (draws h) x e w m).needs ≤ n
one_needs h x (event.Interface e) w m n few made = needs_if _ (on_operation (draws h) e w m) m n
    (operation_needs (draws h) e w m n few made) few
one_needs h x (event.Stop line stream loss) w m n few made = needs_if _ _ m n few few
one_needs h x (event.Reset link ends) (v.Reset l) m n few made = needs_if _ _ m n few few
one_needs h x e w m n few made = few

needs_few : (h : History) (x : Site) → (managed_view h x).needs ≤ length h
unfolding managed_view
needs_few [] x = omega arith
needs_few ((e, w) ∷ h) x = omega (arith, one_needs h x e w (managed_view h x) (length h) (needs_few h x) (few_draws h))

number_if : (b : Bool) (m n : ℕ) → m < 2 ^ 64 → n < 2 ^ 64 → (if b then m else n) < 2 ^ 64
number_if true m n one two = one
number_if false m n one two = two

draw_fits : (plan : Plan) → FitsPlan plan → (h : History) → CauseLaw plan h → length h < 2 ^ 28 → (line stream : ℕ)
    → stream_draw h line stream < 2 ^ 64
unfolding stream_draw
draw_fits plan fits [] cause few line stream = omega arith
draw_fits plan fits ((event.Establish l s loss, w) ∷ h) cause few line stream =
    number_if _ (draws h) (stream_draw h line stream) (omega (arith, few, few_draws h))
    (draw_fits plan fits h cause.1 (omega (arith, few)) line stream)
draw_fits plan fits ((event.Refresh l s loss, v.Refreshed a b j) ∷ h) cause few line stream =
    let shown = subst (Fits plan) (sym cause.0) (refresh_due_fits plan fits h (omega (arith, few)) l s loss) in
    number_if _ j (stream_draw h line stream) shown.2 (draw_fits plan fits h cause.1 (omega (arith, few)) line stream)
draw_fits plan fits (_ ∷ h) cause few line stream = draw_fits plan fits h cause.1 (omega (arith, few)) line stream

standing_fits : (plan : Plan) → FitsPlan plan → (h : History) → CauseLaw plan h → length h < 2 ^ 28 → (x : Site)
    → StandingFits (asked_state plan h x)
standing_fits plan fits h cause few x = record {
  nonce = λ nonce is. nonce_bytes plan fits x.link _ nonce is;
  needs = omega (arith, few, needs_few h x);
  draw = draw_fits plan fits h cause few x.link x.plan.stream;
  drawn = omega (arith, few, few_draws h);
  peer = λ line stream. draw_fits plan fits h cause few line stream;
}

-- ---- events

pub interface_fits : (plan : Plan) → FitsPlan plan → (h : History) → CauseLaw plan h → length h < 2 ^ 28
    → (e : InterfaceEvent) (given : Verdict) → Fits plan given → Fits plan (own_due plan h e given)
unfolding own_due
interface_fits plan fits h cause few e given known = by_number (number_in e)
  where
    by_site : (o : Option Site) → ((x : Site) → o ≡ Some x → SiteFits x)
        → Fits plan (on_site (λ x. interface_due plan h x e) o)
    by_site None site = tt
    by_site (Some x) site = asked_fits plan fits x (asked_state plan h x) e (site x refl)
        (standing_fits plan fits h cause few x)

    by_number : (o : Option ℕ) → Fits plan (with_number plan h e o given)
    by_number None = known
    by_number (Some i) = by_site (site_at plan i) (site_fits plan fits i)

-- ---- floors

lock_floor : (m : Managed) (w : Verdict) → (on_lock m w).floor ≡ m.floor
lock_floor m w = grind arith

report_floor : (m : Managed) (w : Verdict) → (on_report m w).floor ≡ m.floor
report_floor m w = grind arith

state_floor : (m : Managed) (w : Verdict) → (on_state m w).floor ≡ m.floor
state_floor m w = grind arith

bind_floor : (line : ℕ) (m : Managed) (w : Verdict) → (on_bind line m w).floor ≡ m.floor
bind_floor line m w = grind arith

halt_floor : (drawn : ℕ) (m : Managed) (w : Verdict) → (on_halt drawn m w).floor ≡ m.floor
halt_floor drawn m w = grind arith

floor_if : (b : Bool) (k m : Managed) → k.floor < 2 ^ 64 → m.floor < 2 ^ 64 → (if b then k else m).floor < 2 ^ 64
floor_if true k m one two = one
floor_if false k m one two = two

-- a start sets it to the draw that it shows
start_floor : (plan : Plan) (m : Managed) (w : Verdict) → Fits plan w → m.floor < 2 ^ 64 → (on_start m w).floor < 2 ^ 64
start_floor plan m (v.Interface (iv.Started i draw)) shown few = shown.1
start_floor plan m w shown few = grind arith

operation_floor : (plan : Plan) (drawn : ℕ) (e : InterfaceEvent) (w : Verdict) (m : Managed) → Fits plan w
    → m.floor < 2 ^ 64 → (on_operation drawn e w m).floor < 2 ^ 64
operation_floor plan drawn (ie.Lock i loss) w m shown few = omega (arith, lock_floor m w, few)
operation_floor plan drawn (ie.Report i loss) w m shown few = omega (arith, report_floor m w, few)
operation_floor plan drawn (ie.Start i loss) w m shown few = start_floor plan m w shown few
operation_floor plan drawn (ie.Halt i loss) w m shown few = omega (arith, halt_floor drawn m w, few)
operation_floor plan drawn (ie.State i loss) w m shown few = omega (arith, state_floor m w, few)
operation_floor plan drawn (ie.Bind i line stream loss) w m shown few = omega (arith, bind_floor line m w, few)
operation_floor plan drawn _ w m shown few = few

one_floor : (plan : Plan) (h : History) (x : Site) (e : Event) (w : Verdict) (m : Managed)
    → ((i : InterfaceEvent) → e ≡ event.Interface i → Fits plan w) → m.floor < 2 ^ 64
    → (managed_after (op_of h) (draws h) x e w m).floor < 2 ^ 64
one_floor plan h x (event.Interface e) w m shown few = floor_if _ (on_operation (draws h) e w m) m
    (operation_floor plan (draws h) e w m (shown e refl) few) few
one_floor plan h x (event.Stop line stream loss) w m shown few = floor_if _ (record m { view = view_broken m.view }) m
    few
    few
one_floor plan h x (event.Reset link ends) (v.Reset l) m shown few = floor_if _ (record m { view = view_broken m.view })
    m few few
one_floor plan h x e w m shown few = few

pub floor_fits : (plan : Plan) → FitsPlan plan
    → ((h : History) → CauseLaw plan h → (e : InterfaceEvent) → Fits plan (memory_due plan h e))
    → (h : History) → CauseLaw plan h → length h < 2 ^ 28 → (x : Site) → (managed_view h x).floor < 2 ^ 64
unfolding managed_view due
floor_fits plan fits known [] cause few x = omega arith
floor_fits plan fits known ((e, w) ∷ h) cause few x =
    one_floor plan h x e w (managed_view h x) (shown e w cause.0)
    (floor_fits plan fits known h cause.1 (omega (arith, few)) x)
  where
    shown : (e : Event) (w : Verdict) → w ≡ due plan h e → (i : InterfaceEvent) → e ≡ event.Interface i → Fits plan w
    shown e w is i same =
        let here : w ≡ due plan h (event.Interface i) = is ∙ ap (due plan h) same in
        subst (Fits plan) (sym here)
        (interface_fits plan fits h cause.1 (omega (arith, few)) i (memory_due plan h i) (known h cause.1 i))
