-- The floor of each stream between devices that an interface is bound to is at least what the manager needed when it
-- was bound, under the lock that stands.
use Rattle.law_sealing.proofs.Terms.{◌≡◌, inl, inr, ℕ, ◌≤◌, ◌==◌, ◌&&◌, ◌||◌, Bool, true, false, not, List, []}
use Rattle.law_sealing.proofs.Terms.{◌∷◌, ◌++◌, Option, Some, None, Result, Ok, Err, refl, ap, sym, subst, ◌∙◌, arith}
use Rattle.law_sealing.proofs.Terms.{nat_tests, if◌then◌else◌, cases_Bool, eqb-true, AllByRecursion, Plan, PortName}
use Rattle.law_sealing.proofs.Terms.{History, Event, Verdict, CauseLaw}
use Rattle.std.specs.Prelude.{nat_lt, find, is_ok}
use Rattle.std.specs.Option.{option_and_then, option_map, option_map_or}
use Rattle.std.proofs.lemmas.Bool.{and_parts, true≢false}
use Rattle.spec_keys.specs.Operations.{StreamStage, Idle, Establishing, Up, Refreshing, Stopping}
use Rattle.spec_keys.specs.History.{place_keys, op_of, history_status}
use Rattle.law_key_facts.proofs.Given.{key_cause}
use Rattle.spec_links.specs.Plan.{key_plan}
use Rattle.ide_types.specs.declared.binding.Binding.{Binding}
use Rattle.interface_state.specs.declared.states.Lock.{Lock}
use Rattle.interface_state.specs.declared.states.TdiState.{TdiState}
use Rattle.interface_state.specs.declared.states.TdiState.TheVariants.{ConfigUnlocked, ConfigLocked}
use Rattle.interface_state.specs.Bindings.{without, is_binding_on, floor_on}
use Rattle.interface_state.specs.Machine.{DeviceTdi, Call, interface_after_call, is_locked, bindings_after}
use Rattle.interface_state.specs.Machine.{after_failure, after_start}
use Rattle.interface_state.specs.Machine.{after_change, firmware_updated, lock_flags, bind_answer, interface_after_bind}
use Rattle.interface_state.specs.Machine.{unbind_answer, unbound_with, lock_answer, interface_after_lock, new_lock}
use Rattle.interface_state.specs.Machine as call
use Rattle.interface_state.specs.RegisterValues.{changes_listed}
use Rattle.spec_interfaces.specs.Terms.{View, Unlocked, Locked, Running, Doubt, Broken, Loss, if_secure}
use Rattle.spec_interfaces.specs.Peers.{is_secure, live_at, greatest_on, receiver_at, peer_end, has_peer}
use Rattle.spec_interfaces.specs.Sites.{Site, site_at}
use Rattle.spec_interfaces.specs.Exchanges.{carries, changes_device}
use Rattle.spec_interfaces.specs.Views.{view_at, needs_at, stream_draw, is_number, number_in}
unfoldable use Rattle.spec_interfaces.specs.Devices.{devices}
use Rattle.spec_interfaces.specs.Devices.{Around, around_at_site, interface_at, interface_asked, interface_if_called}
use Rattle.spec_interfaces.specs.Devices.{next_interface, is_stream_left}
use Rattle.spec_interfaces.specs.Devices.{lock_call, reset_call, accepts_lock, locks_accepted}
use Rattle.spec_interfaces.specs.Due.{if_locked_or_running, if_fresh, bind_due, op_status, asked_state}
use Rattle.spec_interfaces.proofs.Locks.{bound_at}
use Rattle.spec_interfaces.proofs.Rests.{locks_stay}
use Rattle.spec_interfaces.proofs.Views.{due_own}
use Rattle.law_verdicts.specs.{CameFrom}
use Rattle.law_verdicts.proofs.{interface_cause, same_locks}
use Rattle.law_bytes.proofs.StreamDraws.{up_at_most}
use Rattle.script_events.specs.declared.event.Event.TheVariants as event
use Rattle.script_events.specs.declared.event.InterfaceEvent.{InterfaceEvent}
use Rattle.script_events.specs.declared.event.InterfaceEvent.TheVariants as ie
use Rattle.event_verdicts.specs.declared.verdict.Verdict.TheVariants as v
use Rattle.ide_types.specs.declared.verdict.InterfaceVerdict.TheVariants as iv

-- ---- floors of bindings, over a call

abbrev Each : (ℕ → Type 0) → List Binding → Type 0
Each P bs = AllByRecursion (λ (b : Binding). P b.floor) bs

none_each : (P : ℕ → Type 0) (bs : List Binding) → bs ≡ [] → Each P bs
none_each P bs none = subst (Each P) (sym none) tt

ended_each : (P : ℕ → Type 0) (b : Bool) (bs : List Binding) → Each P bs → Each P (if b then [] else bs)
ended_each P true bs each = tt
ended_each P false bs each = each

left_each : (P : ℕ → Type 0) (t : DeviceTdi) (next : TdiState) → Each P t.bindings → Each P (bindings_after t next)
left_each P t next each = ended_each P (not (is_locked next) && is_locked t.state) t.bindings each

one_more : (P : ℕ → Type 0) (bs : List Binding) (b : Binding) → Each P bs → P b.floor → Each P (bs ++ b ∷ [])
one_more P [] b each new = (new, tt)
one_more P (c ∷ bs) b each new = (each.0, one_more P bs b each.1 new)

one_less : (P : ℕ → Type 0) (stream : ℕ) (bs : List Binding) → Each P bs → Each P (without stream bs)
one_less P stream [] each = tt
one_less P stream (b ∷ bs) each = by (not (is_binding_on stream b)) (one_less P stream bs each.1)
  where
    by : (keep : Bool) → Each P (without stream bs) → Each P (if keep then b ∷ without stream bs else without stream bs)
    by true later = (each.0, later)
    by false later = later

-- a bind is accepted under the draw that it is told
answer_draw : (t : DeviceTdi) (stream draw : ℕ) (said : Option ℕ) → bind_answer t stream said ≡ Ok draw → said
    ≡ Some draw
answer_draw t stream draw None is = grind (arith, is)
answer_draw t stream draw (Some floor) is = grind (arith, is)

bind_each : (P : ℕ → Type 0) (t : DeviceTdi) (stream : ℕ) (answer : Result ℕ ℕ)
    → ((draw : ℕ) → answer ≡ Ok draw → P draw)
    → Each P t.bindings → Each P (interface_after_bind t stream answer).bindings
bind_each P t stream (Err code) given each = each
bind_each P t stream (Ok draw) given each =
    one_more P t.bindings (record { stream = stream; floor = draw }) each (given draw refl)

unbind_each : (P : ℕ → Type 0) (t : DeviceTdi) (stream : ℕ) (answer : Result (Unit {0}) ℕ) → Each P t.bindings
    → Each P (unbound_with t stream answer).bindings
unbind_each P t stream (Err code) each = each
unbind_each P t stream (Ok done) each = one_less P stream t.bindings each

lock_each : (P : ℕ → Type 0) (t : DeviceTdi) (lock : Lock) (answer : Result (List ℕ) ℕ) → Each P t.bindings
    → Each P (interface_after_lock t lock answer).bindings
lock_each P t lock (Err code) each = each
lock_each P t lock (Ok nonce) each = left_each P t (ConfigLocked lock nonce) each

-- what a bind is told
abbrev FitsCall : (ℕ → Type 0) → Call → Type 0
FitsCall P (call.BindStream stream said) = (draw : ℕ) → said ≡ Some draw → P draw
FitsCall P c = Unit {0}

called_each : (P : ℕ → Type 0) (t : DeviceTdi) (c : Call) → FitsCall P c → Each P t.bindings
    → Each P (interface_after_call t c).bindings
called_each P t (call.LockInterface flags stream offset secure drawn) fits each =
    lock_each P t (new_lock t flags stream offset) (lock_answer t flags offset secure drawn) each
called_each P t (call.StartInterface nonce) fits each = left_each P t (after_start t.state nonce) each
called_each P t call.StopInterface fits each = left_each P t ConfigUnlocked each
called_each P t (call.BindStream stream said) fits each = bind_each P t stream (bind_answer t stream said)
    (λ draw is. fits draw (answer_draw t stream draw said is)) each
called_each P t (call.UnbindStream stream) fits each = unbind_each P t stream (unbind_answer t stream) each
called_each P t (call.WriteRegister register value) fits each =
    left_each P t (after_change (changes_listed (lock_flags t.state) t.registers register value) t.state) each
called_each P t call.LevelReset fits each = left_each P t (after_failure t.state) each
called_each P t call.FirmwareUpdate fits each = left_each P t (firmware_updated t.state) each
called_each P t call.StreamLeft fits each = left_each P t (after_failure t.state) each
called_each P t call.LinkReset fits each = tt

called_if : (P : ℕ → Type 0) (b : Bool) (c : Call) (t : DeviceTdi) → (b ≡ true → FitsCall P c) → Each P t.bindings
    → Each P (interface_if_called b c t).bindings
called_if P true c t fits each = called_each P t c (fits refl) each
called_if P false c t fits each = each

if_each : (P : ℕ → Type 0) (b : Bool) (s t : DeviceTdi) → (b ≡ true → Each P s.bindings) → Each P t.bindings
    → Each P (if b then s else t).bindings
if_each P true s t one two = one refl
if_each P false s t one two = two

-- ---- over a pair

-- a bind that comes to the interface is told such a draw
abbrev TellsBind : (ℕ → Type 0) → Around → Site → Event → Verdict → Type 0
TellsBind P a x (event.Interface (ie.Bind i line stream loss)) w =
    (i == x.number) ≡ true → carries w 1 ≡ true → (draw : ℕ) → a.live stream ≡ Some draw → P draw
TellsBind P a x e w = Unit {0}

asked_each : (P : ℕ → Type 0) (a : Around) (x : Site) (e : InterfaceEvent) (w : Verdict) (t : DeviceTdi)
    → TellsBind P a x (event.Interface e) w → is_number (number_in e) x.number ≡ true → Each P t.bindings
    → Each P (interface_asked a x e w t).bindings
asked_each P a x (ie.Lock i loss) w t tells own each = called_if P (carries w 3) (lock_call a x) t (λ b. tt) each
asked_each P a x (ie.Start i loss) w t tells own each =
    called_if P (carries w 1) (call.StartInterface a.nonce) t (λ b. tt) each
asked_each P a x (ie.Halt i loss) w t tells own each = called_if P (carries w 1) call.StopInterface t (λ b. tt) each
asked_each P a x (ie.Bind i line stream loss) w t tells own each =
    called_if P (carries w 1) (call.BindStream stream (a.live stream)) t (tells own) each
asked_each P a x (ie.Unbind i line stream loss) w t tells own each =
    called_if P (carries w 1) (call.UnbindStream stream) t (λ b. tt) each
asked_each P a x (ie.Write i register value) w t tells own each =
    called_if P (changes_device w) (call.WriteRegister register value) t (λ b. tt) each
asked_each P a x (ie.Flr i) w t tells own each = called_if P (changes_device w) call.LevelReset t (λ b. tt) each
asked_each P a x (ie.Firmware i) w t tells own each =
    called_if P (changes_device w) call.FirmwareUpdate t (λ b. tt) each
asked_each P a x e w t tells own each = each

reset_fits : (P : ℕ → Type 0) (own : Bool) → FitsCall P (reset_call own)
reset_fits P true = tt
reset_fits P false = tt

next_each : (P : ℕ → Type 0) (a : Around) (left : Bool) (x : Site) (e : Event) (w : Verdict) (t : DeviceTdi)
    → TellsBind P a x e w → Each P t.bindings → Each P (next_interface a left x e w t).bindings
next_each P a left x (event.Interface e) w t tells each = if_each P (is_number (number_in e) x.number)
    (interface_asked a x e w t) t (λ own. asked_each P a x e w t tells own each) each
next_each P a left x (event.Reset l ends) (v.Reset k) t tells each =
    called_if P ((l == x.link) || left) (reset_call (l == x.link)) t (λ b. reset_fits P (l == x.link)) each
next_each P a left x e w t tells each = called_if P left call.StreamLeft t (λ b. tt) each

-- ---- what a bind is told

record IsFresh (draw needs : ℕ) (o : StreamStage) : Type 0 where
  set : Bool
  at : ℕ
  up : o ≡ Up set at
  least : needs ≤ draw

-- a bind that reaches the device passed each test of the manager
fresh_bind : (view : View) (o : StreamStage) (draw needs : ℕ) (z w : Verdict)
    → w ≡ if_locked_or_running view (if_secure (op_status o) (if_fresh draw needs z)) → carries w 1 ≡ true
    → IsFresh draw needs o
fresh_bind view o draw needs z w is reaches =
    by view o (nat_lt draw needs) refl (sym (ap (λ (u : Verdict). carries u 1) is) ∙ reaches)
  where
    by_op : (o : StreamStage) (b : Bool) → nat_lt draw needs ≡ b
        → carries (if_secure (op_status o) (if b then v.Interface (iv.RefusedRefreshFirst draw needs) else z)) 1 ≡ true
        → IsFresh draw needs o
    by_op Idle b less reaches = absurd (true≢false (sym reaches))
    by_op (Establishing j n) b less reaches = absurd (true≢false (sym reaches))
    by_op (Refreshing k j n) b less reaches = absurd (true≢false (sym reaches))
    by_op (Stopping n) b less reaches = absurd (true≢false (sym reaches))
    by_op (Up k j) true less reaches = absurd (true≢false (sym reaches))
    by_op (Up k j) false less reaches = record { set = k; at = j; up = refl; least = grind (arith, nat_tests, less) }

    by : (view : View) (o : StreamStage) (b : Bool) → nat_lt draw needs ≡ b
        → carries (if_locked_or_running view (if_secure (op_status o) (if b then v.Interface
        (iv.RefusedRefreshFirst draw needs) else z))) 1 ≡ true
        → IsFresh draw needs o
    by Unlocked o b less reaches = absurd (true≢false (sym reaches))
    by Doubt o b less reaches = absurd (true≢false (sym reaches))
    by Broken o b less reaches = absurd (true≢false (sym reaches))
    by Locked o b less reaches = by_op o b less reaches
    by Running o b less reaches = by_op o b less reaches

-- it is told the greatest draw that is On at the end that the topology has
record IsSaid (h : History) (peer : Option PortName) (line stream draw : ℕ) : Type 0 where
  end : PortName
  at_line : end.line ≡ line
  is : draw ≡ greatest_on (place_keys h (receiver_at end stream))

said_is : (h : History) (peer : Option PortName) (line stream draw : ℕ)
    → option_map_or (λ (e : PortName). e.line == line) peer false ≡ true
    → option_and_then (λ (e : PortName). live_at h e stream) peer ≡ Some draw → IsSaid h peer line stream draw
said_is h None line stream draw has said = absurd (true≢false (sym has))
said_is h (Some e) line stream draw has said =
    by (is_secure (history_status h e.side e.line stream)) said
  where
    by : (b : Bool) → (if b then Some (greatest_on (place_keys h (receiver_at e stream))) else None) ≡ Some draw
        → IsSaid h (Some e) line stream draw
    by true is = record { end = e; at_line = eqb-true e.line line has; is = sym (cc (is)) }
    by false is = absurd cc

bind_told : (plan : Plan) (h : History) (i line stream : ℕ) (loss : Option Loss) (w : Verdict) (x : Site)
    → site_at plan x.number ≡ Some x
    → CauseLaw plan ((event.Interface (ie.Bind i line stream loss), w) ∷ h) → (i == x.number) ≡ true
    → carries w 1 ≡ true → (draw : ℕ) → (around_at_site plan h x).live stream ≡ Some draw → needs_at h x ≤ draw
bind_told plan h i line stream loss w x known cause own reaches draw said =
    by (has_peer plan.peers x.link line stream) refl (due_own plan h x (ie.Bind i line stream loss) i w known refl own
    (interface_cause plan ((event.Interface (ie.Bind i line stream loss), w) ∷ h) cause).0)
  where
    by : (b : Bool) → has_peer plan.peers x.link line stream ≡ b
        → w ≡ (if b then bind_due x (asked_state plan h x) line stream loss else v.Nothing) → needs_at h x ≤ draw
    by false has is = absurd (true≢false (sym reaches ∙ ap (λ (u : Verdict). carries u 1) is))
    by true has is =
        let fresh = fresh_bind (view_at h x) (op_of h line stream) (stream_draw h line stream) (needs_at h x) _ w is
        reaches
        in
        let told = said_is h (peer_end plan.peers 0 x.link stream) line stream draw has said in
        let up = ap (λ (l : ℕ). op_of h l stream) told.at_line ∙ fresh.up in
        let most = up_at_most (key_plan plan) h (key_cause plan h cause.1) (receiver_at told.end stream) refl fresh.set
        fresh.at up in
        let same = ap (λ (l : ℕ). stream_draw h l stream) told.at_line in
        omega (arith, fresh.least, same, most, told.is)

-- ---- all pairs

-- such a floor was given under the lock that stands, and is at least what the manager needed then
pub record IsBoundFloor (plan : Plan) (h : History) (x : Site) (floor : ℕ) : Type 0 where
  pub older : History
  pub came : CameFrom older h
  pub same_lock : locks_accepted plan older x ≡ locks_accepted plan h x
  pub needs : needs_at older x ≤ floor

later_floor : (plan : Plan) (h : History) (e : Event) (w : Verdict) (x : Site) → locks_accepted plan ((e, w) ∷ h) x
    ≡ locks_accepted plan h x → (floor : ℕ) → IsBoundFloor plan h x floor → IsBoundFloor plan ((e, w) ∷ h) x floor
later_floor plan h e w x same floor was = record {
  older = was.older;
  came = record { since = (e, w) ∷ was.came.since; is = ap (λ (g : History). (e, w) ∷ g) was.came.is };
  same_lock = was.same_lock ∙ sym same;
  needs = was.needs;
}

each_more : (P Q : ℕ → Type 0) (bs : List Binding) → ((floor : ℕ) → P floor → Q floor) → Each P bs → Each Q bs
each_more P Q [] more each = tt
each_more P Q (b ∷ bs) more each = (more b.floor each.0, each_more P Q bs more each.1)

-- a lock is taken from CONFIG_UNLOCKED alone
lock_unlocked : (t : DeviceTdi) (flags offset : ℕ) (secure : Bool) (drawn : Option (List ℕ))
    → is_ok (lock_answer t flags offset secure drawn) ≡ true → is_locked t.state ≡ false
lock_unlocked t flags offset secure drawn is = grind (arith, is)

pub accepts_unlocked : (a : Around) (x : Site) (e : Event) (w : Verdict) (t : DeviceTdi) → accepts_lock a x e w t ≡ true
    → is_locked t.state ≡ false
accepts_unlocked a x (event.Interface (ie.Lock i loss)) w t is =
    let given = is_ok (lock_answer t x.plan.flags x.plan.offset a.secure a.drawn) in
    lock_unlocked t x.plan.flags x.plan.offset a.secure a.drawn (and_parts ((i == x.number) && carries w 3) given is).1
accepts_unlocked a x e w t is = absurd (true≢false (sym is))

-- before the pair: by what is known of the floors, or there is none
before : (plan : Plan) (h : History) (e : Event) (w : Verdict) (x : Site)
    → Each (IsBoundFloor plan h x) (interface_at plan h x).bindings
    → Each (IsBoundFloor plan ((e, w) ∷ h) x) (interface_at plan h x).bindings
before plan h e w x each = elim (cases_Bool (accepts_lock (around_at_site plan h x) x e w (interface_at plan h x))) [
  | inl taken ↦
      none_each (IsBoundFloor plan ((e, w) ∷ h) x) (interface_at plan h x).bindings
      ((bound_at plan h x).locked (accepts_unlocked (around_at_site plan h x) x e w (interface_at plan h x) taken))
  | inr none ↦
      each_more (IsBoundFloor plan h x) (IsBoundFloor plan ((e, w) ∷ h) x) (interface_at plan h x).bindings
      (later_floor plan h e w x (same_locks plan h e w x none)) each
]

tells : (plan : Plan) (h : History) (e : Event) (w : Verdict) (x : Site) → site_at plan x.number ≡ Some x
    → CauseLaw plan ((e, w) ∷ h) → TellsBind (IsBoundFloor plan ((e, w) ∷ h) x) (around_at_site plan h x) x e w
tells plan h (event.Interface (ie.Bind i line stream loss)) w x known cause = λ own reaches draw said. record {
  older = h;
  came = record { since = (event.Interface (ie.Bind i line stream loss), w) ∷ []; is = refl };
  same_lock = sym (locks_stay plan h (event.Interface (ie.Bind i line stream loss)) w x refl);
  needs = bind_told plan h i line stream loss w x known cause own reaches draw said;
}
tells plan h (event.Interface e) w x known cause = tt
tells plan h e w x known cause = tt

bound_floors : (plan : Plan) (h : History) → CauseLaw plan h → (x : Site) → site_at plan x.number ≡ Some x
    → Each (IsBoundFloor plan h x) (interface_at plan h x).bindings
unfolding devices
bound_floors plan [] cause x known = tt
bound_floors plan ((e, w) ∷ h) cause x known =
    next_each (IsBoundFloor plan ((e, w) ∷ h) x) (around_at_site plan h x)
    (is_stream_left plan h e w x (interface_at plan h x)) x e w
    (interface_at plan h x) (tells plan h e w x known cause)
    (before plan h e w x (bound_floors plan h cause.1 x known))

-- ---- one of them

found_floor : (P : ℕ → Type 0) (stream floor : ℕ) (bs : List Binding) → Each P bs → floor_on stream bs ≡ Some floor
    → P floor
found_floor P stream floor [] each is = absurd cc
found_floor P stream floor (b ∷ bs) each is = by (is_binding_on stream b) is (found_floor P stream floor bs each.1)
  where
    by : (c : Bool) → option_map (λ (z : Binding). z.floor) (if c then Some b else find (is_binding_on stream) bs)
        ≡ Some floor → (floor_on stream bs ≡ Some floor → P floor) → P floor
    by true is later = subst P (cc (is)) each.0
    by false is later = later is

pub bound_floor : (plan : Plan) (h : History) → CauseLaw plan h → (x : Site) → site_at plan x.number ≡ Some x
    → (stream floor : ℕ) → floor_on stream (interface_at plan h x).bindings ≡ Some floor → IsBoundFloor plan h x floor
bound_floor plan h cause x known stream floor is = found_floor (IsBoundFloor plan h x) stream floor
    (interface_at plan h x).bindings (bound_floors plan h cause x known) is
