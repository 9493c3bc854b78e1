-- What the verdict of an event on an interface tells, by the event.
use Rattle.std.proofs.Common.{◌≡◌, ℕ, ◌&&◌, Bool, true, false, List, Option, Some, None, Result, Ok, Err, if◌then◌else◌}
use Rattle.std.proofs.Common.{refl, sym, subst}
use Rattle.std.specs.Prelude.{nat_le, nat_lt}
use Rattle.std.specs.Option.{option_map}
use Rattle.spec_interfaces.specs.Terms.{Plan, View, Unlocked, Locked, Running, StreamStatus, History}
use Rattle.spec_interfaces.specs.Terms.{InterfaceEvent, Loss, Verdict, lost_at, if_secure, has_register}
use Rattle.spec_interfaces.specs.Terms.{lock_of, state_code, start_answer, bind_answer, unbind_answer, kept_report}
use Rattle.spec_interfaces.specs.Terms.{WriteRegister, LevelReset, FirmwareUpdate}
use Rattle.spec_interfaces.specs.Sites.{Site, site_at}
use Rattle.spec_interfaces.specs.Peers.{has_peer}
use Rattle.spec_interfaces.specs.Views.{needs_then, number_in}
use Rattle.spec_interfaces.specs.Due.{AskedState, asked_state, unless_lost}
use Rattle.spec_interfaces.specs.Due.{if_unlocked, if_locked, if_reported, if_fresh}
use Rattle.spec_interfaces.specs.Due.{if_locked_or_running, verdict_of_lock, started_as, verdict_of_bind, unbound_as}
use Rattle.spec_interfaces.specs.Due.{report_verdict, lock_answer_at, code_after, asked_due, interface_due, on_site}
use Rattle.spec_interfaces.specs.Due.{op_status, with_number}
unfoldable use Rattle.spec_interfaces.specs.Due.{interface_verdict_due}
unfoldable use Rattle.spec_links.specs.Due.{due}
use Rattle.spec_links.specs.Memory.{memory_due, shown_if}
use Rattle.trusted_memory.specs.Regions.{in_one_region}
use Rattle.ide_types.specs.declared.status.StreamStatus.TheVariants as status
use Rattle.script_events.specs.declared.event.Event.TheVariants as event
use Rattle.script_events.specs.declared.event.Lost.{Lost}
use Rattle.script_events.specs.declared.event.Lost.TheVariants.{Request, Reply}
use Rattle.script_events.specs.declared.event.InterfaceEvent.TheVariants as ie
use Rattle.event_verdicts.specs.declared.verdict.Verdict.TheVariants as v
use Rattle.ide_types.specs.declared.verdict.InterfaceVerdict.TheVariants as iv

-- of each refusal and of each loss
pub record OfRefusals (P : Verdict → Type 0) : Type 0 where
  pub view : (view : View) → P (v.Interface (iv.RefusedWrongState view))
  pub report : P (v.Interface iv.RefusedNotReported)
  pub fresh : (draw needs : ℕ) → P (v.Interface (iv.RefusedRefreshFirst draw needs))
  pub secure : (s : StreamStatus) → P (v.RefusedNotSecure s)
  pub request : (n : ℕ) → P (v.LostRequest n)
  pub reply : (n : ℕ) → P (v.LostReply n)
  pub device : (n code : ℕ) → P (v.RefusedDevice n code)
  pub nothing : P v.Nothing

-- of what else is due
abbrev pub OfDone : (Verdict → Type 0) → Site → AskedState → InterfaceEvent → Type 0
OfDone P x s (ie.Lock i loss) = (nonce : List ℕ) → P (v.Interface (iv.Locked x.number nonce))
OfDone P x s (ie.Report i loss) = (report : List ℕ) → P (v.Interface (iv.Reported x.number report))
OfDone P x s (ie.Start i loss) = P (v.Interface (iv.Started x.number s.draw))
OfDone P x s (ie.Halt i loss) = P (v.Interface (iv.Halted x.number (needs_then s.managed s.drawn)))
OfDone P x s (ie.State i loss) = P (v.Interface (iv.State x.number (state_code s.tdi.state)))
OfDone P x s (ie.Bind i line stream loss) = P (v.Interface (iv.Bound x.number line))
OfDone P x s (ie.Unbind i line stream loss) = P (v.Interface (iv.Unbound x.number line))
OfDone P x s (ie.View i) = P (v.Interface (iv.View x.number s.managed.view))
OfDone P x s (ie.Write i register value) =
    P (v.Interface (iv.Written x.number (code_after s.tdi (WriteRegister register value))))
OfDone P x s (ie.Flr i) = P (v.Interface (iv.Flr x.number (code_after s.tdi LevelReset)))
OfDone P x s (ie.Firmware i) = P (v.Interface (iv.Firmware x.number (code_after s.tdi FirmwareUpdate)))
OfDone P x s (ie.Memory at len) = P v.Nothing

unlost_by : (P : Verdict → Type 0) → OfRefusals P → (loss : Loss) (b : Bool) (w : Verdict) → P w
    → P (if b then lost_at loss.lost loss.exchange else w)
unlost_by P all loss false w p = p
unlost_by P all loss true w p = by loss.lost
  where
    by : (l : Lost) → P (lost_at l loss.exchange)
    by Request = all.request loss.exchange
    by Reply = all.reply loss.exchange

unlost : (P : Verdict → Type 0) → OfRefusals P → (loss : Option Loss) (k : ℕ) (w : Verdict) → P w
    → P (unless_lost loss k w)
unlost P all None k w p = p
unlost P all (Some loss) k w p = unlost_by P all loss (nat_le 1 loss.exchange && nat_le loss.exchange k) w p

secure : (P : Verdict → Type 0) → OfRefusals P → (s : StreamStatus) (w : Verdict) → P w → P (if_secure s w)
secure P all status.Secure w p = p
secure P all s w p = all.secure s

unlocked : (P : Verdict → Type 0) → OfRefusals P → (view : View) (w : Verdict) → P w → P (if_unlocked view w)
unlocked P all Unlocked w p = p
unlocked P all view w p = all.view view

locked : (P : Verdict → Type 0) → OfRefusals P → (view : View) (w : Verdict) → P w → P (if_locked view w)
locked P all Locked w p = p
locked P all view w p = all.view view

standing : (P : Verdict → Type 0) → OfRefusals P → (view : View) (w : Verdict) → P w → P (if_locked_or_running view w)
standing P all Locked w p = p
standing P all Running w p = p
standing P all view w p = all.view view

told_report : (P : Verdict → Type 0) → OfRefusals P → (b : Bool) (w : Verdict) → P w → P (if_reported b w)
told_report P all true w p = p
told_report P all false w p = all.report

fresh : (P : Verdict → Type 0) → OfRefusals P → (draw needs : ℕ) (w : Verdict) → P w → P (if_fresh draw needs w)
fresh P all draw needs w p = by (nat_lt draw needs)
  where
    by : (b : Bool) → P (if b then v.Interface (iv.RefusedRefreshFirst draw needs) else w)
    by true = all.fresh draw needs
    by false = p

lock_done : (P : Verdict → Type 0) → OfRefusals P → (x : Site) (r : Result (List ℕ) ℕ)
    → ((nonce : List ℕ) → P (v.Interface (iv.Locked x.number nonce))) → P (verdict_of_lock x r)
lock_done P all x (Ok nonce) p = p nonce
lock_done P all x (Err code) p = all.device 3 code

start_done : (P : Verdict → Type 0) → OfRefusals P → (x : Site) (draw : ℕ) (r : Result (Unit {0}) ℕ)
    → P (v.Interface (iv.Started x.number draw)) → P (started_as x draw r)
start_done P all x draw (Ok done) p = p
start_done P all x draw (Err code) p = all.device 1 code

bind_done : (P : Verdict → Type 0) → OfRefusals P → (x : Site) (line : ℕ) (r : Result ℕ ℕ)
    → P (v.Interface (iv.Bound x.number line)) → P (verdict_of_bind x line r)
bind_done P all x line (Ok draw) p = p
bind_done P all x line (Err code) p = all.device 1 code

unbind_done : (P : Verdict → Type 0) → OfRefusals P → (x : Site) (line : ℕ) (r : Result (Unit {0}) ℕ)
    → P (v.Interface (iv.Unbound x.number line)) → P (unbound_as x line r)
unbind_done P all x line (Ok done) p = p
unbind_done P all x line (Err code) p = all.device 1 code

report_done : (P : Verdict → Type 0) → OfRefusals P → (plan : Plan) (x : Site) (loss : Option Loss)
    (o : Option (List ℕ)) → ((report : List ℕ) → P (v.Interface (iv.Reported x.number report)))
    → P (report_verdict plan x loss o)
report_done P all plan x loss None p = unlost P all loss 1 _ (all.device 1 4)
report_done P all plan x loss (Some report) p = unlost P all loss _ _ (p report)

if_there : (P : Verdict → Type 0) → OfRefusals P → (b : Bool) (w : Verdict) → P w → P (if b then w else v.Nothing)
if_there P all true w p = p
if_there P all false w p = all.nothing

pub asked_tells : (P : Verdict → Type 0) → OfRefusals P → (plan : Plan) (x : Site) (s : AskedState)
    (e : InterfaceEvent) → OfDone P x s e → P (asked_due plan x s e)
asked_tells P all plan x s (ie.Lock i loss) p =
    unlocked P all s.managed.view _ (secure P all s.host _ (unlost P all loss 3 _
    (lock_done P all x (lock_answer_at s.around x s.tdi) p)))
asked_tells P all plan x s (ie.Report i loss) p =
    standing P all s.managed.view _ (report_done P all plan x loss
    (option_map (kept_report x.plan) (lock_of s.tdi.state)) p)
asked_tells P all plan x s (ie.Start i loss) p =
    locked P all s.managed.view _ (told_report P all s.managed.reported _ (secure P all s.host _
    (fresh P all s.draw s.managed.needs _ (unlost P all loss 1 _
    (start_done P all x s.draw (start_answer s.tdi.state s.managed.nonce) p)))))
asked_tells P all plan x s (ie.Halt i loss) p = unlost P all loss 1 _ p
asked_tells P all plan x s (ie.State i loss) p = unlost P all loss 1 _ p
asked_tells P all plan x s (ie.Bind i line stream loss) p =
    if_there P all (has_peer plan.peers x.link line stream) _ (standing P all s.managed.view _
    (secure P all (op_status (s.peer_op line stream)) _ (fresh P all (s.peer_draw line stream) s.managed.needs _
    (unlost P all loss 1 _ (bind_done P all x line (bind_answer s.tdi stream (s.around.live stream)) p)))))
asked_tells P all plan x s (ie.Unbind i line stream loss) p =
    if_there P all (has_peer plan.peers x.link line stream) _ (standing P all s.managed.view _
    (unlost P all loss 1 _ (unbind_done P all x line (unbind_answer s.tdi stream) p)))
asked_tells P all plan x s (ie.View i) p = p
asked_tells P all plan x s (ie.Write i register value) p = if_there P all (has_register x.plan register) _ p
asked_tells P all plan x s (ie.Flr i) p = p
asked_tells P all plan x s (ie.Firmware i) p = p
asked_tells P all plan x s (ie.Memory at len) p = p

-- of the verdict that is due
number_tells : (P : Verdict → Type 0) → OfRefusals P → (plan : Plan) (h : History) (e : InterfaceEvent)
    (o : Option ℕ) (given : Verdict) → P given
    → ((i : ℕ) (x : Site) → o ≡ Some i → site_at plan i ≡ Some x → OfDone P x (asked_state plan h x) e)
    → P (with_number plan h e o given)
number_tells P all plan h e None given p done = p
number_tells P all plan h e (Some i) given p done = with_site (site_at plan i) refl
  where
    with_site : (o : Option Site) → site_at plan i ≡ o → P (on_site (λ x. interface_due plan h x e) o)
    with_site None at = all.nothing
    with_site (Some x) at = asked_tells P all plan x (asked_state plan h x) e (done i x refl at)

shown_tells : (P : Verdict → Type 0) → OfRefusals P → (b : Bool) (bytes : List ℕ)
    → ((shown : List ℕ) → P (v.Interface (iv.Memory shown))) → P (shown_if b bytes)
shown_tells P all true bytes p = p bytes
shown_tells P all false bytes p = all.nothing

memory_tells : (P : Verdict → Type 0) → OfRefusals P → (plan : Plan) (h : History) (e : InterfaceEvent)
    → ((shown : List ℕ) → P (v.Interface (iv.Memory shown))) → P (memory_due plan h e)
memory_tells P all plan h (ie.Memory at len) p = shown_tells P all (in_one_region plan.memory at len) _ p
memory_tells P all plan h e p = all.nothing

pub due_tells : (P : Verdict → Type 0) → OfRefusals P → (plan : Plan) (h : History) (e : InterfaceEvent) (w : Verdict)
    → w ≡ due plan h (event.Interface e) → ((shown : List ℕ) → P (v.Interface (iv.Memory shown)))
    → ((i : ℕ) (x : Site) → number_in e ≡ Some i → site_at plan i ≡ Some x → OfDone P x (asked_state plan h x) e)
    → P w
unfolding due interface_verdict_due
due_tells P all plan h e w is memory done =
    subst P (sym is) (number_tells P all plan h e (number_in e) (memory_due plan h e)
    (memory_tells P all plan h e memory) done)
