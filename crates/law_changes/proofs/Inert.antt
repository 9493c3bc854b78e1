-- A verdict that is inert: each definition passes it over.
use Rattle.law_sealing.proofs.Terms.{◌≡◌, ℕ, ◌&&◌, ◌==◌, Bool, true, false, List, [], ◌∷◌, refl, ap, ◌∙◌, arith}
use Rattle.law_sealing.proofs.Terms.{not, Plan, History, PortName, SubStream, SealedList, sealed_packets}
unfoldable use Rattle.law_sealing.proofs.Terms.{accepted_packets, packets_in_hold}
use Rattle.std.specs.Prelude.{◌||◌, Option, Some, None, is_some, if◌then◌else◌}
use Rattle.spec_links.specs.Terms.{Event, Verdict}
use Rattle.ide_types.specs.Ports.{keyed_status}
use Rattle.ide_types.specs.declared.port.Side.{Side}
use Rattle.ide_types.specs.declared.port.Side.TheVariants.{Device}
use Rattle.ide_types.specs.declared.direction.Direction.{Direction}
use Rattle.ide_types.specs.declared.binding.Binding.{Binding}
use Rattle.spec_keys.specs.Places.{KeyPlace, is_on_stream}
use Rattle.spec_keys.specs.Keys.{keys}
use Rattle.spec_keys.specs.Operations.{StreamStage, reach_of, work_of}
use Rattle.spec_keys.specs.History.{has_key, has_all, place_keys, touches, touches_after, came, on_it, draws}
use Rattle.spec_keys.specs.History.{begins_keyed, op_of, fails_there, history_status}
unfoldable use Rattle.spec_keys.specs.History.{failed_there, manager, moments, base}
use Rattle.spec_links.proofs.SealingIs.{seals_none, sealed_same}
use Rattle.spec_interfaces.specs.Sites.{Site, sites}
unfoldable use Rattle.spec_links.specs.Hops.{accepted_tlps_in_list, forwarded_count}
unfoldable use Rattle.spec_links.specs.Memory.{writes}
unfoldable use Rattle.spec_links.specs.Sent.{queued_in, reads_taken}
use Rattle.spec_links.specs.Terms.{Packet, InterfaceEvent}
use Rattle.spec_links.specs.Guarded.{happens_if, halted_at, reset_at, asked_happens, happens_by_packets, verdict_unit}
unfoldable use Rattle.spec_links.specs.Guarded.{link_happenings}
use Rattle.spec_interfaces.specs.{Happened, InterfaceStatus, newest_happened}
use Rattle.spec_interfaces.specs.Sites.{site_at}
use Rattle.spec_interfaces.specs.Terms.{DeviceTdi}
use Rattle.spec_interfaces.specs.Exchanges.{carries, changes_device}
use Rattle.spec_interfaces.specs.Floors.{history_statuses}
use Rattle.spec_interfaces.specs.Views.{Managed, managed_after, on_operation, stop_breaks, is_number, number_in}
unfoldable use Rattle.spec_interfaces.specs.Views.{managed_view, stream_draw}
use Rattle.spec_interfaces.specs.Devices.{Around, is_stream_left, next_interface}
unfoldable use Rattle.spec_interfaces.specs.Floors.{device_floor}
use Rattle.spec_interfaces.specs.Floors.{floor_after_event, draw_at_device}
use Rattle.spec_interfaces.specs.Peers.{any_leaves, binding_leaves, greatest_on, live_at, live_by_id, receiver_at}
use Rattle.spec_interfaces.specs.Devices.{interface_at, has_secure_stream, is_secure, interface_if_called, leaves}
use Rattle.spec_interfaces.specs.Devices.{lock_call, is_lock_accepted, around_at_site, locks_accepted, used_at, is_run}
use Rattle.spec_interfaces.specs.Devices.{runs_at}
unfoldable use Rattle.spec_interfaces.specs.Devices.{devices}
use Rattle.spec_interfaces.specs.Terms.{Call, StartInterface, StopInterface, WriteRegister, LevelReset, FirmwareUpdate}
use Rattle.spec_interfaces.specs.Terms.{BindStream, UnbindStream}
use Rattle.spec_interfaces.proofs.Rests.{locks_it, not_accepted, locks_stay}
use Rattle.spec_interfaces.proofs.Views.{not_carried}
use Rattle.spec_links.specs.Hops.{entering_end}
use Rattle.spec_links.specs.HopLaws.{IsUnchanged}
use Rattle.spec_links.specs.Memory.{hop_waiting, waiting_reads}
use Rattle.law_locks.proofs.Fronts.{at_pairs}
use Rattle.std.specs.Prelude.{drop}
use Rattle.std.specs.List.{list_any}
use Rattle.law_changes.specs.Inert.{is_inert, ChangesNothing}
use Rattle.law_changes.specs.Statements.{InertLawHolds}
use Rattle.event_verdicts.specs.declared.verdict.Operation.{Operation}
use Rattle.script_events.specs.declared.event.Event.TheVariants as event
use Rattle.script_events.specs.declared.event.InterfaceEvent.TheVariants as ie
use Rattle.event_verdicts.specs.declared.access.AccessVerdict.TheVariants as av
use Rattle.event_verdicts.specs.declared.verdict.Operation.TheVariants as op
use Rattle.event_verdicts.specs.declared.verdict.Verdict.TheVariants as v

none_sealed : (w : Verdict) → is_inert w ≡ true → seals_none w ≡ true
none_sealed w inert = grind arith

none_reached : (o : Operation) (w : Verdict) → is_inert w ≡ true → reach_of o w ≡ None
none_reached o w inert = grind arith

-- ---- keys and operations

none_came : (p : KeyPlace) (w : Verdict) → is_inert w ≡ true → came p w ≡ []
none_came p w inert = grind arith

nothing_on : (b : Bool) → on_it b [] ≡ []
nothing_on b = grind arith

untouched : (ops : ℕ → ℕ → StreamStage) (n : ℕ) (e : Event) (w : Verdict) (p : KeyPlace) → is_inert w ≡ true
    → touches ops n e w p ≡ []
untouched ops n (event.Establish l s loss) w p inert = rw (none_reached op.Establish w inert)
    (nothing_on (is_on_stream p l s))
untouched ops n (event.Refresh l s loss) w p inert = rw (none_reached op.Refresh w inert)
    (nothing_on (is_on_stream p l s))
untouched ops n (event.Stop l s loss) w p inert = rw (none_reached op.Stop w inert) (nothing_on (is_on_stream p l s))
untouched ops n (event.Reset l ends) (v.Reset m) p inert = absurd cc
untouched ops n (event.Reset l ends) _ p inert = refl
untouched ops n _ w p inert = none_came p w inert

same_moments : (h : History) (e : Event) (w : Verdict) (p : KeyPlace) → is_inert w ≡ true
    → moments ((e, w) ∷ h) p ≡ moments h p
unfolding moments
same_moments h e w p inert = ap (touches_after (moments h p)) (untouched (manager h).ops (draws h) e w p inert)

same_keys : (h : History) (e : Event) (w : Verdict) → is_inert w ≡ true → (p : KeyPlace)
    → place_keys ((e, w) ∷ h) p ≡ place_keys h p
same_keys h e w inert p = ap (keys p.sends) (same_moments h e w p inert)

same_operations : (h : History) (e : Event) (w : Verdict) → is_inert w ≡ true → manager ((e, w) ∷ h) ≡ manager h
unfolding manager
same_operations h (event.Establish l s loss) w inert = rw (none_reached op.Establish w inert) refl
same_operations h (event.Refresh l s loss) w inert = rw (none_reached op.Refresh w inert) refl
same_operations h (event.Stop l s loss) w inert = rw (none_reached op.Stop w inert) refl
same_operations h (event.Reset l ends) (v.Reset m) inert = absurd cc
same_operations h (event.Reset l ends) _ inert = refl
same_operations h _ w inert = refl

-- ---- failures

twice : (a b : Bool) → ((a && b) && b) ≡ (a && b)
twice a b = grind arith

-- a failure stays one while a key is Live
pub stays_failed : (h : History) (side : Side) (line stream : ℕ)
    → (failed_there h side line stream && has_key (place_keys h) side line stream) ≡ failed_there h side line stream
unfolding failed_there moments
stays_failed [] side line stream = refl
stays_failed ((e, w) ∷ h) side line stream = twice _ (has_key (place_keys ((e, w) ∷ h)) side line stream)

none_fails : (w : Verdict) (side : Side) (line stream : ℕ) → is_inert w ≡ true → fails_there side line stream w ≡ false
none_fails w side line stream inert = grind arith

same_failures : (h : History) (e : Event) (w : Verdict) → is_inert w ≡ true → (side : Side) (line stream : ℕ)
    → failed_there ((e, w) ∷ h) side line stream ≡ failed_there h side line stream
unfolding failed_there
same_failures h e w inert side line stream =
    (λ i. (none_fails w side line stream inert i || failed_there h side line stream)
    && has_key (λ p. same_keys h e w inert p i) side line stream)
    ∙ stays_failed h side line stream

same_status : (h : History) (e : Event) (w : Verdict) → is_inert w ≡ true → (side : Side) (line stream : ℕ)
    → history_status ((e, w) ∷ h) side line stream ≡ history_status h side line stream
same_status h e w inert side line stream =
    (λ i. keyed_status (same_failures h e w inert side line stream i)
    (has_key (λ p. same_keys h e w inert p i) side line stream)
    (has_all (λ p. same_keys h e w inert p i) side line stream))

-- ---- what arrived, and what waits

same_accepted : (plan : Plan) (h : History) (e : Event) (w : Verdict) (s : SubStream) (j : ℕ) → is_inert w ≡ true
    → accepted_packets plan ((e, w) ∷ h) s j ≡ accepted_packets plan h s j
unfolding accepted_packets
same_accepted plan h e (v.Accepted port unit effects) s j inert = absurd cc
same_accepted plan h e _ s j inert = refl

same_held : (plan : Plan) (h : History) (e : Event) (w : Verdict) (s : SubStream) (j n : ℕ) → is_inert w ≡ true
    → packets_in_hold plan ((e, w) ∷ h) s j n ≡ packets_in_hold plan h s j n
unfolding packets_in_hold
same_held plan h e (v.Held port unit) s j n inert = absurd cc
same_held plan h e _ s j n inert = refl

same_tlps : (plan : Plan) (xs : SealedList) (h : History) (e : Event) (w : Verdict) (link : ℕ) (end : PortName)
    → is_inert w ≡ true → accepted_tlps_in_list plan xs ((e, w) ∷ h) link end ≡ accepted_tlps_in_list plan xs h link end
unfolding accepted_tlps_in_list
same_tlps plan xs h e (v.Accepted port unit effects) link end inert = absurd cc
same_tlps plan xs h (event.Reset k ends) (v.Reset l) link end inert = absurd cc
same_tlps plan xs h _ _ link end inert = refl

same_forwarded : (h : History) (e : Event) (w : Verdict) (link : ℕ) (d : Direction) → is_inert w ≡ true
    → forwarded_count ((e, w) ∷ h) link d ≡ forwarded_count h link d
unfolding forwarded_count
same_forwarded h e (v.Sealed ds) link d inert = absurd cc
same_forwarded h (event.Reset k ends) (v.Reset l) link d inert = absurd cc
same_forwarded h _ _ link d inert = refl

same_queued : (plan : Plan) (xs : SealedList) (h : History) (e : Event) (w : Verdict) (at : PortName)
    → is_inert w ≡ true → queued_in plan xs ((e, w) ∷ h) at ≡ queued_in plan xs h at
unfolding queued_in
same_queued plan xs h e (v.Accepted port unit effects) at inert = absurd cc
same_queued plan xs h (event.Reset k ends) (v.Reset l) at inert = absurd cc
same_queued plan xs h _ _ at inert = refl

same_taken : (h : History) (e : Event) (w : Verdict) (at : PortName) → is_inert w ≡ true
    → reads_taken ((e, w) ∷ h) at ≡ reads_taken h at
unfolding reads_taken
same_taken h e (v.Sealed ds) at inert = absurd cc
same_taken h e (v.Access (av.Dropped interface cause)) at inert = absurd cc
same_taken h (event.Reset k ends) (v.Reset l) at inert = absurd cc
same_taken h _ _ at inert = refl

-- ---- memory

same_writes : (plan : Plan) (h : History) (e : Event) (w : Verdict) → is_inert w ≡ true
    → writes plan ((e, w) ∷ h) ≡ writes plan h
unfolding writes
same_writes plan h e (v.Accepted port unit effects) inert = absurd cc
same_writes plan h e _ inert = refl

-- ---- what reaches an interface

none_carried : (w : Verdict) (n : ℕ) → is_inert w ≡ true → carries w n ≡ false
none_carried w n inert = grind arith

none_changed : (w : Verdict) → is_inert w ≡ true → changes_device w ≡ false
none_changed w inert = grind arith

none_if : (b c : Bool) (x : Happened) → c ≡ false → happens_if (b && c) x ≡ []
none_if b c x none = grind arith

none_halted : (plan : Plan) (w : Verdict) (link : ℕ) (o : Option Site) → is_inert w ≡ true
    → halted_at plan w link o ≡ []
none_halted plan w link None inert = refl
none_halted plan w link (Some x) inert = none_if (x.link == link) (carries w 1) _ (none_carried w 1 inert)

none_reset : (plan : Plan) (w : Verdict) (link : ℕ) (o : Option Site) → is_inert w ≡ true
    → reset_at plan w link o ≡ []
none_reset plan w link None inert = refl
none_reset plan w link (Some x) inert = none_if (x.link == link) (changes_device w) _ (none_changed w inert)

none_asked : (plan : Plan) (e : Event) (w : Verdict) (link : ℕ) → is_inert w ≡ true → asked_happens plan e w link ≡ []
none_asked plan (event.Interface (ie.Halt i loss)) w link inert = none_halted plan w link (site_at plan i) inert
none_asked plan (event.Interface (ie.Flr i)) w link inert = none_reset plan w link (site_at plan i) inert
none_asked plan _ w link inert = refl

none_happens : (plan : Plan) (statuses : ℕ → List InterfaceStatus) (ps : List Packet) (e : Event) (w : Verdict)
    (link : ℕ) → is_inert w ≡ true → happens_by_packets plan statuses ps e w link ≡ []
none_happens plan statuses ps e (v.Accepted port unit effects) link inert = absurd cc
none_happens plan statuses ps (event.Reset l ends) (v.Reset k) link inert = absurd cc
none_happens plan statuses ps e w link inert = none_asked plan e w link inert

same_happenings : (plan : Plan) (h : History) (e : Event) (w : Verdict) (link : ℕ) → is_inert w ≡ true
    → link_happenings plan ((e, w) ∷ h) link ≡ link_happenings plan h link
unfolding link_happenings
same_happenings plan h e w link inert = ap (λ (hs : List (Option Happened)).
    newest_happened hs (link_happenings plan h link))
    (none_happens plan (history_statuses plan h) (verdict_unit plan h e w) e w link inert)

-- ---- the manager's views

none_operated : (drawn : ℕ) (e : InterfaceEvent) (w : Verdict) (m : Managed) → is_inert w ≡ true
    → on_operation drawn e w m ≡ m
none_operated drawn e w m inert = grind arith

if_same : {A : Type 0} (b : Bool) (x y : A) → x ≡ y → (if b then x else y) ≡ y
if_same true x y same = same
if_same false x y same = refl

none_breaks : (ops : ℕ → ℕ → StreamStage) (n : ℕ) (x : Site) (line stream : ℕ) (w : Verdict) (m : Managed)
    → is_inert w ≡ true → stop_breaks ops n x line stream w m ≡ false
none_breaks ops n x line stream w m inert = rw (none_reached op.Stop w inert) (grind arith)

none_managed : (ops : ℕ → ℕ → StreamStage) (n : ℕ) (x : Site) (e : Event) (w : Verdict) (m : Managed)
    → is_inert w ≡ true → managed_after ops n x e w m ≡ m
none_managed ops n x (event.Interface e) w m inert =
    if_same (is_number (number_in e) x.number) _ m (none_operated n e w m inert)
none_managed ops n x (event.Stop line stream loss) w m inert = rw (none_breaks ops n x line stream w m inert) refl
none_managed ops n x (event.Reset l ends) (v.Reset k) m inert = absurd cc
none_managed ops n x _ w m inert = refl

same_views : (h : History) (e : Event) (w : Verdict) (x : Site) → is_inert w ≡ true
    → managed_view ((e, w) ∷ h) x ≡ managed_view h x
unfolding managed_view
same_views h e w x inert = none_managed (op_of h) (draws h) x e w (managed_view h x) inert

-- ---- interfaces

none_left : (a b : Bool) → b ≡ a → (a && not b) ≡ false
none_left a b same = grind arith

same_live : (h : History) (e : Event) (w : Verdict) → is_inert w ≡ true → (end : PortName) (stream : ℕ)
    → live_at ((e, w) ∷ h) end stream ≡ live_at h end stream
same_live h e w inert end stream =
    (λ i. if is_secure (same_status h e w inert end.side end.line stream i)
    then Some (greatest_on (same_keys h e w inert (receiver_at end stream) i)) else None)

none_unbound : (before after : ℕ → Option ℕ) → ((stream : ℕ) → after stream ≡ before stream) → (bs : List Binding)
    → any_leaves before after bs ≡ false
none_unbound before after same [] = refl
none_unbound before after same (b ∷ bs) =
    let here : binding_leaves before after b ≡ false = none_left (is_some (before b.stream)) _
    (ap is_some (same b.stream)) in
    let rest = none_unbound before after same bs in
    grind (arith, here, rest)

-- the pair takes no stream of the interface from Secure
none_leaves : (plan : Plan) (h : History) (e : Event) (w : Verdict) (x : Site) (t : DeviceTdi) → is_inert w ≡ true
    → is_stream_left plan h e w x t ≡ false
none_leaves plan h e w x t inert =
    let own : leaves h e w x ≡ false = none_left (has_secure_stream h x) _
    (ap is_secure (same_status h e w inert Device x.link x.plan.stream)) in
    let others : any_leaves (live_by_id (live_at h) plan.peers x.link) (live_by_id (live_at ((e, w) ∷ h)) plan.peers
    x.link) t.bindings ≡ false = none_unbound (live_by_id (live_at h) plan.peers x.link) _
    (λ stream. (λ i. live_by_id (λ end s. same_live h e w inert end s i) plan.peers x.link stream)) t.bindings in
    (λ i. own i || others i)

none_called : (b c : Bool) (call : Call) (t : DeviceTdi) → c ≡ false
    → (if b then interface_if_called c call t else t) ≡ t
none_called b c call t none = rw none (if_same b t t refl)

none_next : (a : Around) (x : Site) (e : Event) (w : Verdict) (t : DeviceTdi) → is_inert w ≡ true
    → next_interface a false x e w t ≡ t
none_next a x (event.Interface (ie.Lock i loss)) w t inert =
    none_called (i == x.number) (carries w 3) (lock_call a x) t (none_carried w 3 inert)
none_next a x (event.Interface (ie.Start i loss)) w t inert =
    none_called (i == x.number) (carries w 1) (StartInterface a.nonce) t (none_carried w 1 inert)
none_next a x (event.Interface (ie.Halt i loss)) w t inert =
    none_called (i == x.number) (carries w 1) StopInterface t (none_carried w 1 inert)
none_next a x (event.Interface (ie.Bind i line stream loss)) w t inert =
    none_called (i == x.number) (carries w 1) (BindStream stream (a.live stream)) t (none_carried w 1 inert)
none_next a x (event.Interface (ie.Unbind i line stream loss)) w t inert =
    none_called (i == x.number) (carries w 1) (UnbindStream stream) t (none_carried w 1 inert)
none_next a x (event.Interface (ie.Write i register value)) w t inert =
    none_called (i == x.number) (changes_device w) (WriteRegister register value) t (none_changed w inert)
none_next a x (event.Interface (ie.Flr i)) w t inert =
    none_called (i == x.number) (changes_device w) LevelReset t (none_changed w inert)
none_next a x (event.Interface (ie.Firmware i)) w t inert =
    none_called (i == x.number) (changes_device w) FirmwareUpdate t (none_changed w inert)
none_next a x (event.Interface e) w t inert = if_same (is_number (number_in e) x.number) t t refl
none_next a x (event.Reset l ends) (v.Reset k) t inert = absurd cc
none_next a x e w t inert = refl

same_interfaces : (plan : Plan) (h : History) (e : Event) (w : Verdict) (x : Site) → is_inert w ≡ true
    → interface_at plan ((e, w) ∷ h) x ≡ interface_at plan h x
unfolding devices
same_interfaces plan h e w x inert =
    ap (λ (left : Bool). next_interface (around_at_site plan h x) left x e w (interface_at plan h x))
    (none_leaves plan h e w x (interface_at plan h x) inert)
    ∙ none_next (around_at_site plan h x) x e w (interface_at plan h x) inert

-- ---- locks, nonces and floors

none_locks : (x : Site) (e : Event) (w : Verdict) → is_inert w ≡ true → locks_it x e w ≡ false
none_locks x (event.Interface (ie.Lock i loss)) w inert = not_carried (i == x.number) (carries w 3)
    (none_carried w 3 inert)
none_locks x _ w inert = refl

none_accepted : (plan : Plan) (h : History) (e : Event) (w : Verdict) (x : Site) → is_inert w ≡ true
    → is_lock_accepted plan h (devices plan h) e w x ≡ false
none_accepted plan h e w x inert =
    not_accepted (around_at_site plan h x) x e w (interface_at plan h x) (none_locks x e w inert)

same_locks : (plan : Plan) (h : History) (e : Event) (w : Verdict) (x : Site) → is_inert w ≡ true
    → locks_accepted plan ((e, w) ∷ h) x ≡ locks_accepted plan h x
same_locks plan h e w x inert = locks_stay plan h e w x (none_locks x e w inert)

none_any : (f : Site → Bool) → ((x : Site) → f x ≡ false) → (link : ℕ) (xs : List Site)
    → list_any (λ x. (x.link == link) && f x) xs ≡ false
none_any f none link [] = refl
none_any f none link (x ∷ xs) =
    let here : ((x.link == link) && f x) ≡ false = not_carried (x.link == link) (f x) (none x) in
    let rest = none_any f none link xs in
    grind (arith, here, rest)

same_nonces : (plan : Plan) (h : History) (e : Event) (w : Verdict) (link : ℕ) → is_inert w ≡ true
    → used_at plan ((e, w) ∷ h) link ≡ used_at plan h link
unfolding devices
same_nonces plan h e w link inert =
    let none = none_any (λ x. is_lock_accepted plan h (devices plan h) e w x)
    (λ x. none_accepted plan h e w x inert) link (sites plan) in
    rw none (omega arith)

same_runs : (plan : Plan) (h : History) (e : Event) (w : Verdict) (x : Site) → is_inert w ≡ true
    → runs_at plan ((e, w) ∷ h) x ≡ runs_at plan h x
same_runs plan h e w x inert = ap (λ (t : DeviceTdi). is_run t.state) (same_interfaces plan h e w x inert)

none_floored : (e : Event) (x : Site) (ran runs : Bool) (draw floor : ℕ) → runs ≡ ran
    → floor_after_event e x ran runs draw floor ≡ floor
none_floored (event.Interface (ie.Start i loss)) x ran runs draw floor same = grind arith
none_floored _ x ran runs draw floor same = refl

same_floors : (plan : Plan) (h : History) (e : Event) (w : Verdict) (x : Site) → is_inert w ≡ true
    → device_floor plan ((e, w) ∷ h) x ≡ device_floor plan h x
unfolding device_floor
same_floors plan h e w x inert = none_floored e x (runs_at plan h x) (runs_at plan ((e, w) ∷ h) x) (draw_at_device h x)
    (device_floor plan h x) (same_runs plan h e w x inert)

-- ---- draws

none_begins : (q : StreamStage) (n : ℕ) (w : Verdict) → is_inert w ≡ true → begins_keyed q n w ≡ false
none_begins q n w inert = rw (none_reached op.Establish w inert) (not_carried (work_of op.Establish q n).begins false
    refl)

same_bases : (h : History) (e : Event) (w : Verdict) (line stream : ℕ) → is_inert w ≡ true
    → base ((e, w) ∷ h) line stream ≡ base h line stream
unfolding base
same_bases h (event.Establish l s loss) w line stream inert =
    rw (none_begins (op_of h l s) (draws h) w inert) (grind arith)
same_bases h _ w line stream inert = refl

same_draws : (h : History) (e : Event) (w : Verdict) (line stream : ℕ) → is_inert w ≡ true
    → stream_draw ((e, w) ∷ h) line stream ≡ stream_draw h line stream
unfolding stream_draw
same_draws h (event.Establish l s loss) w line stream inert =
    rw (none_begins (op_of h l s) (draws h) w inert) (grind arith)
same_draws h (event.Refresh l s loss) (v.Refreshed a b j) line stream inert = absurd cc
same_draws h _ _ line stream inert = refl

-- ---- the law

same_waiting : (plan : Plan) (h : History) (e : Event) (w : Verdict) (link : ℕ) (d : Direction) → is_inert w ≡ true
    → hop_waiting plan ((e, w) ∷ h) link d ≡ hop_waiting plan h link d
same_waiting plan h e w link d inert =
    (λ i. drop (same_forwarded h e w link d inert i)
    (accepted_tlps_in_list plan (sealed_same plan h e w (none_sealed w inert) i) ((e, w) ∷ h) link
    (entering_end link d)))
    ∙ ap (drop (forwarded_count h link d))
    (same_tlps plan (sealed_packets plan h) h e w link (entering_end link d) inert)

same_reads : (plan : Plan) (h : History) (e : Event) (w : Verdict) (at : PortName) → is_inert w ≡ true
    → waiting_reads plan ((e, w) ∷ h) at ≡ waiting_reads plan h at
same_reads plan h e w at inert =
    (λ i. drop (same_taken h e w at inert i)
    (queued_in plan (sealed_same plan h e w (none_sealed w inert) i) ((e, w) ∷ h) at))
    ∙ ap (drop (reads_taken h at)) (same_queued plan (sealed_packets plan h) h e w at inert)

pub unchanged : (plan : Plan) (h : History) (e : Event) (w : Verdict) → is_inert w ≡ true → IsUnchanged plan h e w
unchanged plan h e w inert = record {
  sealed = sealed_same plan h e w (none_sealed w inert);
  operations = same_operations h e w inert;
  keys = same_keys h e w inert;
  failures = same_failures h e w inert;
  accepted = λ s j. same_accepted plan h e w s j inert;
  pending_packets = λ s j n. same_held plan h e w s j n inert;
  switches = λ link d. same_waiting plan h e w link d inert;
  reads = λ at. same_reads plan h e w at inert;
  memory = same_writes plan h e w inert;
  devices = λ link. same_happenings plan h e w link inert;
  views = λ x. same_views h e w x inert;
  interfaces = λ x. same_interfaces plan h e w x inert;
}

as_before : (plan : Plan) (h : History) (e : Event) (w : Verdict) → ChangesNothing plan h e w
as_before plan h e w inert = record {
  unchanged = unchanged plan h e w inert;
  bases = λ line stream. same_bases h e w line stream inert;
  draws = λ line stream. same_draws h e w line stream inert;
  locks = λ x. same_locks plan h e w x inert;
  nonces = λ link. same_nonces plan h e w link inert;
  floors = λ x. same_floors plan h e w x inert;
}

pub inert_law : InertLawHolds
inert_law plan h = at_pairs (ChangesNothing plan) (as_before plan) h
