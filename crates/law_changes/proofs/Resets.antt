-- What a reset leaves.
use Rattle.law_sealing.proofs.Terms.{◌≡◌, ℕ, ◌&&◌, ◌||◌, ◌==◌, ◌<◌, ◌≤◌, ◌⊎◌, Bool, true, false, List, [], ◌∷◌, refl}
use Rattle.law_sealing.proofs.Terms.{ap}
use Rattle.law_sealing.proofs.Terms.{sym, ◌∙◌, arith, nat_tests, subst, inl, inr, Plan, History, PortName, SubKind, Pr}
use Rattle.law_sealing.proofs.Terms.{Npr, Cpl, lane_in, units_got}
use Rattle.law_sealing.proofs.Terms.{CauseLaw}
unfoldable use Rattle.law_sealing.proofs.Terms.{due, sealed_packets}
use Rattle.std.specs.Prelude.{if◌then◌else◌, ◌+◌}
use Rattle.ide_types.specs.declared.port.Side.{Side}
use Rattle.ide_types.specs.declared.view.View.{View}
use Rattle.ide_types.specs.declared.direction.Direction.{Direction}
use Rattle.ide_types.specs.Fits.{FitsPlan}
use Rattle.ide_types.specs.Lines.{near_hop_line, far_hop_line}
use Rattle.ide_types.specs.Ends.{reset_ends}
use Rattle.spec_keys.specs.Places.{KeyPlace, key_place_at, is_cleared, is_line_reset, is_between_devices}
use Rattle.spec_keys.specs.Keys.{Touch, Clear, Keys, no_keys}
unfoldable use Rattle.spec_keys.specs.Keys.{keys}
use Rattle.spec_keys.specs.Operations.{Idle, Stopping}
use Rattle.spec_keys.specs.History.{has_key, place_keys, touches_after, touches_if, op_of, draws, keeps_live}
unfoldable use Rattle.spec_keys.specs.History.{failed_there, manager, moments}
unfoldable use Rattle.spec_keys.specs.Due.{key_due}
use Rattle.spec_links.specs.Plan.{has_link, key_plan}
use Rattle.spec_links.specs.History.{place_in_sub_stream}
use Rattle.spec_links.specs.Terms.{Event, Verdict, Reset, Site}
use Rattle.spec_links.specs.Hops.{has_hop, clears_hop}
unfoldable use Rattle.spec_links.specs.Hops.{accepted_tlps_in_list, forwarded_count}
unfoldable use Rattle.spec_links.specs.Memory.{writes}
use Rattle.spec_links.specs.Memory.{waiting_reads, hop_waiting}
unfoldable use Rattle.spec_links.specs.Sent.{queued_in, reads_taken}
use Rattle.spec_links.proofs.SealingIs.{sealed_same}
use Rattle.spec_interfaces.specs.Terms.{Unlocked, Locked, Running, Doubt, Broken, DeviceTdi}
use Rattle.spec_interfaces.specs.Terms.{new_device_interface}
use Rattle.spec_interfaces.specs.Views.{Managed, view_broken, view_at}
unfoldable use Rattle.spec_interfaces.specs.Views.{managed_view}
use Rattle.spec_interfaces.specs.Devices.{interface_at, is_stream_left, interface_if_called, reset_call}
unfoldable use Rattle.spec_interfaces.specs.Devices.{devices}
use Rattle.spec_interfaces.proofs.Locks.{layout_at}
use Rattle.spec_keys.proofs.Tests.{both-true}
use Rattle.spec_keys.proofs.Shapes.{draws_started}
use Rattle.spec_keys.proofs.Whole.{fits as keys_fit}
use Rattle.law_key_facts.proofs.Given.{key_cause}
use Rattle.law_key_facts.proofs.Moments.{none_held}
use Rattle.law_mmio.specs.Stored.{stored_byte}
unfoldable use Rattle.law_mmio.specs.Stored.{writes_since_zero}
unfoldable use Rattle.trusted_memory.specs.Writes.{byte_last_written}
use Rattle.law_locks.proofs.Fronts.{pairs_due}
use Rattle.law_changes.specs.Resets.{is_of_link, is_peer_end, Clears}
use Rattle.law_changes.specs.Resets.{ResetsLink, is_hop_end}
use Rattle.law_changes.specs.Statements.{ResetLawHolds}
use Rattle.law_changes.proofs.ResetEnds.{cleared_is, line_stays, line_cut, own_cut, hop_cut}
use Rattle.law_changes.proofs.Inert.{stays_failed}
use Rattle.event_verdicts.specs.declared.verdict.Verdict.TheVariants as v

-- ---- what is known of the pair

-- the link that is reset is the one that was named, and it is there
named : (plan : Plan) (h : History) (link l : ℕ) (ends : List PortName) → v.Reset l ≡ due plan h (Reset link ends)
    → (l ≡ link) × (has_link plan link ≡ true)
unfolding due key_due
named plan h link l ends is = by (has_link plan link) is
  where
    by : (b : Bool) → v.Reset l ≡ (if b then v.Reset link else v.Nothing) → (l ≡ link) × (b ≡ true)
    by true is = (grind arith, refl)
    by false is = absurd cc

low : (plan : Plan) → FitsPlan plan → (link : ℕ) → has_link plan link ≡ true → link < 8
low plan fits link has = let most = fits.links_most in grind (arith, nat_tests, most)

-- ---- keys and failures

cleared_keys : (sends : Bool) (ts : List Touch) → keys sends (Clear ∷ ts) ≡ no_keys
unfolding keys
cleared_keys true ts = refl
cleared_keys false ts = refl

if_cleared : (b sends : Bool) (ts : List Touch)
    → keys sends (touches_after ts (touches_if b Clear)) ≡ (if b then no_keys else keys sends ts)
if_cleared true sends ts = cleared_keys sends ts
if_cleared false sends ts = refl

keys_then : (h : History) (link l : ℕ) (ends : List PortName) (p : KeyPlace)
    → place_keys ((Reset link ends, v.Reset l) ∷ h) p
    ≡ (if is_cleared ends p.side p.line then no_keys else place_keys h p)
unfolding moments
keys_then h link l ends p = if_cleared (is_cleared ends p.side p.line) p.sends (moments h p)

no_key : (ks : KeyPlace → Keys) (side : Side) (line stream : ℕ)
    → ((up : Bool) (u : SubKind) → ks (key_place_at side line stream up u) ≡ no_keys)
    → has_key ks side line stream ≡ false
no_key ks side line stream none =
    rw (none false Pr, none false Npr, none false Cpl, none true Pr, none true Npr, none true Cpl) refl

pub same_key : (ks ls : KeyPlace → Keys) (side : Side) (line stream : ℕ)
    → ((up : Bool) (u : SubKind) → ks (key_place_at side line stream up u) ≡ ls (key_place_at side line stream up u))
    → has_key ks side line stream ≡ has_key ls side line stream
same_key ks ls side line stream same =
    (λ i. keeps_live (same false Pr i) || (keeps_live (same false Npr i) || (keeps_live (same false Cpl i)
    || (keeps_live (same true Pr i) || (keeps_live (same true Npr i) || (keeps_live (same true Cpl i) || false))))))

none_stands : (a b : Bool) → b ≡ false → (a && b) ≡ false
none_stands a b none = grind arith

failed_not : (h : History) (e : Event) (w : Verdict) (side : Side) (line stream : ℕ)
    → has_key (place_keys ((e, w) ∷ h)) side line stream ≡ false → failed_there ((e, w) ∷ h) side line stream ≡ false
unfolding failed_there
failed_not h e w side line stream none = none_stands _ _ none

failed_still : (h : History) (link l : ℕ) (ends : List PortName) (side : Side) (line stream : ℕ)
    → has_key (place_keys ((Reset link ends, v.Reset l) ∷ h)) side line stream ≡ has_key (place_keys h) side line stream
    → failed_there ((Reset link ends, v.Reset l) ∷ h) side line stream ≡ failed_there h side line stream
unfolding failed_there
failed_still h link l ends side line stream same =
    ap (λ (b : Bool). failed_there h side line stream && b) same ∙ stays_failed h side line stream

-- ---- what waits

no_reads : (plan : Plan) (h : History) (link l : ℕ) (ends : List PortName) (port : PortName) → l ≡ link
    → port.line ≡ link → waiting_reads plan ((Reset link ends, v.Reset l) ∷ h) port ≡ []
unfolding queued_in reads_taken
no_reads plan h link l ends port same on =
    let here : (l == port.line) ≡ true = grind (arith, nat_tests) in
    rw here refl

reads_stay : (plan : Plan) (h : History) (link l : ℕ) (ends : List PortName) (port : PortName) → l ≡ link
    → (port.line == link) ≡ false
    → waiting_reads plan ((Reset link ends, v.Reset l) ∷ h) port ≡ waiting_reads plan h port
unfolding queued_in reads_taken sealed_packets
reads_stay plan h link l ends port same other =
    let there : (l == port.line) ≡ false = grind (arith, nat_tests) in
    rw there refl

no_tlps : (plan : Plan) (h : History) (link l : ℕ) (ends : List PortName) (d : Direction) → clears_hop ends link ≡ true
    → hop_waiting plan ((Reset link ends, v.Reset l) ∷ h) link d ≡ []
unfolding accepted_tlps_in_list forwarded_count
no_tlps plan h link l ends d here = rw here refl

-- ---- interfaces

as_new : (t : DeviceTdi) (b left : Bool) → b ≡ true
    → interface_if_called (b || left) (reset_call b) t ≡ new_device_interface t.plan
as_new t b left is = rw is refl

new_interface : (plan : Plan) (h : History) (link l : ℕ) (ends : List PortName) (x : Site) → x.link ≡ link
    → interface_at plan ((Reset link ends, v.Reset l) ∷ h) x ≡ new_device_interface x.plan
unfolding devices
new_interface plan h link l ends x on =
    let here : (link == x.link) ≡ true = grind (arith, nat_tests) in
    as_new (interface_at plan h x) (link == x.link)
    (is_stream_left plan h (Reset link ends) (v.Reset l) x (interface_at plan h x)) here
    ∙ ap new_device_interface (layout_at plan h x)

no_bytes : (plan : Plan) (h : History) (link l : ℕ) (ends : List PortName) (x : Site) (bar offset : ℕ) → x.link ≡ link
    → stored_byte plan ((Reset link ends, v.Reset l) ∷ h) x bar offset ≡ 0
unfolding writes_since_zero byte_last_written
no_bytes plan h link l ends x bar offset on =
    let here : (link == x.link) ≡ true = grind (arith, nat_tests) in
    rw here refl

broken_or_free : (a : View) → (view_broken a ≡ Unlocked) ⊎ (view_broken a ≡ Broken)
broken_or_free Unlocked = inl refl
broken_or_free Locked = inr refl
broken_or_free Running = inr refl
broken_or_free Doubt = inr refl
broken_or_free Broken = inr refl

if_on : {A : Type 0} (b : Bool) (m n : A) → b ≡ true → (if b then m else n) ≡ m
if_on b m n is = rw is refl

no_view : (h : History) (link l : ℕ) (ends : List PortName) (x : Site) → x.link ≡ link
    → view_at ((Reset link ends, v.Reset l) ∷ h) x ≡ view_broken (view_at h x)
unfolding managed_view
no_view h link l ends x on =
    let here : (link == x.link) ≡ true = grind (arith, nat_tests) in
    ap (λ (m : Managed). m.view) (if_on (link == x.link) _ (managed_view h x) here)

-- ---- operations

reset_operation : (h : History) (link l : ℕ) (ends : List PortName) (line stream : ℕ)
    → op_of ((Reset link ends, v.Reset l) ∷ h) line stream
    ≡ (if is_line_reset ends line then (if is_between_devices line then Stopping 1 else Idle) else op_of h line stream)
unfolding manager
reset_operation h link l ends line stream = refl

idle_then : (h : History) (link l : ℕ) (ends : List PortName) (line stream : ℕ) → is_line_reset ends line ≡ true
    → line < 24 → op_of ((Reset link ends, v.Reset l) ∷ h) line stream ≡ Idle
idle_then h link l ends line stream cut less =
    let own : is_between_devices line ≡ false = grind (arith, nat_tests) in
    reset_operation h link l ends line stream ∙ (rw (cut, own) refl)

draws_stay : (h : History) (link l : ℕ) (ends : List PortName) → draws ((Reset link ends, v.Reset l) ∷ h) ≡ draws h
unfolding manager
draws_stay h link l ends = refl

writes_stay : (plan : Plan) (h : History) (link l : ℕ) (ends : List PortName)
    → writes plan ((Reset link ends, v.Reset l) ∷ h) ≡ writes plan h
unfolding writes
writes_stay plan h link l ends = refl

last_of : (a b c : Bool) → c ≡ true → (a || (b || c)) ≡ true
last_of a b c is = grind arith

peer_of_link : (plan : Plan) (link : ℕ) (end : PortName) → is_peer_end plan link end ≡ true
    → is_of_link plan link end ≡ true
peer_of_link plan link end of = last_of (end.line == link) (is_hop_end plan link end) _ of

-- ---- the pair

clears : (plan : Plan) (fits : FitsPlan plan) (h : History) (link l : ℕ) (ends : List PortName)
    → CauseLaw plan ((Reset link ends, v.Reset l) ∷ h) → ends ≡ reset_ends plan link
    → Clears plan h ((Reset link ends, v.Reset l) ∷ h) link
clears plan fits h link l ends cause are = record {
  ends = record {
    keys = λ p of. own_keys p (at p.side p.line ∙ of);
    failures = λ end stream of. failed_not h (Reset link ends) (v.Reset l) end.side end.line stream
        (no_key (place_keys after) end.side end.line stream
        (λ up u. own_keys (key_place_at end.side end.line stream up u) (at end.side end.line ∙ of)));
    held = λ end stream u j of more. none_held plan after cause end stream u j
        (units_got after (lane_in end stream u) j + 1)
        (none_started (place_in_sub_stream end (lane_in end stream u) false) j more);
  };
  streams = record {
    own = λ stream. idle_then h link l ends link stream (rw are (own_cut plan link)) (omega (arith, less));
    near = λ stream hop. idle_then h link l ends (near_hop_line link) stream
        (rw are (hop_cut plan link less hop).0) (omega (arith, less));
    far = λ stream hop. idle_then h link l ends (far_hop_line link) stream
        (rw are (hop_cut plan link less hop).1) (omega (arith, less));
    peers = λ end stream of. stopping end stream of;
  };
  reads = λ port on. no_reads plan h link l ends port known.0 on;
  switch = λ d hop. no_tlps plan h link l ends d (rw are (hop_clears hop));
  interfaces = λ x on. record {
    unlocked = ap (λ (t : DeviceTdi). t.state) (new_interface plan h link l ends x on);
    unbound = ap (λ (t : DeviceTdi). t.bindings) (new_interface plan h link l ends x on);
    registers = ap (λ (t : DeviceTdi). t.registers) (new_interface plan h link l ends x on);
    bytes = λ bar offset. no_bytes plan h link l ends x bar offset on;
    view = subst (λ (a : View). (a ≡ Unlocked) ⊎ (a ≡ Broken)) (sym (no_view h link l ends x on))
        (broken_or_free (view_at h x));
  };
  rest = record {
    keys = λ p of. other_keys p (at p.side p.line ∙ of);
    failures = λ end stream of. failed_still h link l ends end.side end.line stream
        (same_key (place_keys after) (place_keys h) end.side end.line stream
        (λ up u. other_keys (key_place_at end.side end.line stream up u) (at end.side end.line ∙ of)));
    operations = λ line stream of. reset_operation h link l ends line stream
        ∙ (rw (are, line_stays plan fits link less line of) refl);
    sealed = sealed_same plan h (Reset link ends) (v.Reset l) refl;
    made = same_draws;
    memory = same_writes;
    reads = λ port other. reads_stay plan h link l ends port known.0 other;
  };
}
  where
    after : History
    after = (Reset link ends, v.Reset l) ∷ h

    known : (l ≡ link) × (has_link plan link ≡ true)
    known = named plan h link l ends cause.0

    less : link < 8
    less = low plan fits link known.1

    at : (side : Side) (line : ℕ)
        → is_cleared ends side line ≡ is_of_link plan link (record { side = side; line = line })
    at side line = ap (λ (es : List PortName). is_cleared es side line) are ∙ cleared_is plan fits link less side line

    own_keys : (p : KeyPlace) → is_cleared ends p.side p.line ≡ true → place_keys after p ≡ no_keys
    own_keys p is = keys_then h link l ends p ∙ (rw is refl)

    other_keys : (p : KeyPlace) → is_cleared ends p.side p.line ≡ false → place_keys after p ≡ place_keys h p
    other_keys p is = keys_then h link l ends p ∙ (rw is refl)

    none_started : (p : KeyPlace) (j : ℕ) → draws after ≤ j → draws_started (moments after p) ≤ j
    none_started p j more =
        let fresh = (keys_fit (key_plan plan) after (key_cause plan after cause) p).below.fresh in
        omega (arith, fresh, more)

    stopping : (end : PortName) (stream : ℕ) → is_peer_end plan link end ≡ true → op_of after end.line stream
        ≡ Stopping 1
    stopping end stream of =
        let cut = line_cut (reset_ends plan link) end.side end.line
        (cleared_is plan fits link less end.side end.line ∙ peer_of_link plan link end of) in
        let peer = (both-true (is_between_devices end.line) _ of).0 in
        reset_operation h link l ends end.line stream ∙ (rw (are, cut, peer) refl)

    hop_clears : has_hop plan link ≡ true → clears_hop (reset_ends plan link) link ≡ true
    hop_clears hop = let cut = hop_cut plan link less hop in (λ i. cut.0 i && cut.1 i)

    same_draws : draws after ≡ draws h
    same_draws = draws_stay h link l ends

    same_writes : writes plan after ≡ writes plan h
    same_writes = writes_stay plan h link l ends

resets : (plan : Plan) → FitsPlan plan → (h : History) (e : Event) (w : Verdict) → CauseLaw plan ((e, w) ∷ h)
    → ResetsLink plan h e w
resets plan fits h (Reset link ends) (v.Reset l) cause = clears plan fits h link l ends cause
resets plan fits h _ _ cause = tt

pub reset_law : ResetLawHolds
reset_law plan fits h cause = pairs_due plan (ResetsLink plan) (resets plan fits) h cause
