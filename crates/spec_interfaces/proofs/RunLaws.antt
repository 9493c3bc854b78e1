-- Registers in RUN are those that were reported, and what ends a lock shows it.
use Rattle.std.proofs.Common.{◌≡◌, ℕ, ◌∷◌, ◌⊎◌, Bool, true, List, [], Option, Some, if◌then◌else◌, refl, ap, ◌∙◌, subst}
use Rattle.std.proofs.Common.{arith}
use Rattle.std.proofs.lemmas.Bool.Decides.{nat_tests}
use Rattle.spec_interfaces.specs.Terms.{Plan, View, Event, InterfaceEvent, Verdict, Loss, History, Register}
use Rattle.spec_interfaces.specs.Terms.{has_register, Registers, Lock, TdiState, ConfigUnlocked, ConfigLocked, Run}
use Rattle.spec_interfaces.specs.Terms.{Error, lock_of, listed_registers, has_bit, changes_listed, state_code}
use Rattle.spec_interfaces.specs.Terms.{kept_report, option_map, WriteRegister, LevelReset, FirmwareUpdate}
use Rattle.interface_state.specs.Machine.{KeepsListed, after_change, after_failure, lock_flags}
use Rattle.spec_interfaces.specs.Sites.{Site, site_at}
use Rattle.spec_interfaces.specs.Views.{managed_view}
use Rattle.spec_interfaces.specs.Devices.{interface_at}
use Rattle.spec_interfaces.specs.Due.{interface_verdict_due, interface_due, on_site, if_locked_or_running}
use Rattle.spec_interfaces.specs.Due.{report_verdict, code_after}
use Rattle.spec_interfaces.specs.Cause.{PairFits}
use Rattle.spec_interfaces.specs.Laws.{IsLocked, KeepsReported, ShowsReport, ShowsError, ShownAt, InterfaceRunLawHolds}
use Rattle.spec_interfaces.proofs.Locks.{listed_at, lock_stands}
use Rattle.script_events.specs.declared.event.Event.TheVariants as event
use Rattle.script_events.specs.declared.event.InterfaceEvent.TheVariants as ie
use Rattle.event_verdicts.specs.declared.verdict.Verdict.TheVariants as v
use Rattle.ide_types.specs.declared.verdict.InterfaceVerdict.TheVariants as iv

-- ---- registers

-- locked and in RUN a lock stands
has_lock : (s : TdiState) → (state_code s ≡ 1) ⊎ (state_code s ≡ 2) → (l : Lock) × (lock_of s ≡ Some l)
has_lock (ConfigLocked lock nonce) is = (lock, refl)
has_lock (Run lock) is = (lock, refl)
has_lock ConfigUnlocked is = absurd (grind (arith, nat_tests))
has_lock Error is = absurd (grind (arith, nat_tests))

kept_listed : (registers : Registers) (s : TdiState) (l : Lock) → lock_of s ≡ Some l → KeepsListed registers s
    → listed_registers l.flags registers ≡ listed_registers l.flags l.registers
kept_listed registers s l is keeps = rw is at keeps

pub keeps_reported : (plan : Plan) (h : History) (x : Site) → KeepsReported plan h x
keeps_reported plan h x is =
    let l = has_lock (interface_at plan h x).state is in
    let same = lock_stands plan h x l.0 l.1 in
    subst (λ (k : Lock). listed_registers k.flags (interface_at plan h x).registers
    ≡ listed_registers k.flags k.registers) same
    (kept_listed (interface_at plan h x).registers (interface_at plan h x).state l.0 l.1 (listed_at plan h x))

-- ---- reports

reported_of : (plan : Plan) (x : Site) (view : View) (loss : Option Loss) (f : Lock → List ℕ) (o : Option Lock) (n : ℕ)
    (report : List ℕ)
    → v.Interface (iv.Reported n report) ≡ if_locked_or_running view (report_verdict plan x loss (option_map f o))
    → (l : Lock) × (o ≡ Some l) × (report ≡ f l)
reported_of plan x view loss f o n report e = grind arith

-- what is due of an event that names the interface
due_is : (plan : Plan) (h : History) (x : Site) (i : ℕ) (e : InterfaceEvent) → site_at plan i ≡ Some x
    → on_site (λ y. interface_due plan h y e) (site_at plan i) ≡ interface_due plan h x e
due_is plan h x i e at = rw at refl

shows_report : (plan : Plan) (h : History) (x : Site) (i : ℕ) (loss : Option Loss) (w : Verdict) → w
    ≡ interface_verdict_due plan h (ie.Report i loss) w → site_at plan i ≡ Some x
    → ShowsReport plan h x (ie.Report i loss) w
unfolding interface_verdict_due
shows_report plan h x i loss (v.Interface (iv.Reported n report)) cause at =
    let of = reported_of plan x (managed_view h x).view loss (kept_report x.plan)
    (lock_of (interface_at plan h x).state) n
    report
    (cause ∙ due_is plan h x i (ie.Report i loss) at) in
    of.2 ∙ ap (kept_report x.plan) (lock_stands plan h x of.0 of.1)
shows_report plan h x i loss (v.Interface w) cause at = tt
shows_report plan h x i loss w cause at = tt

-- ---- errors

changed_error : (s : TdiState) (l : Lock) (b : Bool) → lock_of s ≡ Some l → b ≡ true → state_code (after_change b s) ≡ 3
changed_error s l b is e = grind (arith, nat_tests)

failed_error : (s : TdiState) (l : Lock) → lock_of s ≡ Some l → state_code (after_failure s) ≡ 3
failed_error s l is = grind (arith, nat_tests)

flags_are : (s : TdiState) (l : Lock) → lock_of s ≡ Some l → lock_flags s ≡ l.flags
flags_are s l is = rw is refl

-- the lock that stands has the topology's flags
flags_at : (plan : Plan) (h : History) (x : Site) (l : Lock) → lock_of (interface_at plan h x).state ≡ Some l
    → lock_flags (interface_at plan h x).state ≡ x.plan.flags
flags_at plan h x l is = flags_are (interface_at plan h x).state l is ∙ ap (λ (k : Lock). k.flags)
    (lock_stands plan h x l is)

written_of : (b : Bool) (n m state s : ℕ) → v.Interface (iv.Written n state)
    ≡ (if b then v.Interface (iv.Written m s) else v.Nothing) → state ≡ s
written_of b n m state s e = grind arith

write_error : (plan : Plan) (h : History) (x : Site) (register : Register) (value : ℕ) → IsLocked plan h x
    → changes_listed x.plan.flags (interface_at plan h x).registers register value ≡ true
    → code_after (interface_at plan h x) (WriteRegister register value) ≡ 3
write_error plan h x register value is changes =
    let l = has_lock (interface_at plan h x).state is in
    changed_error (interface_at plan h x).state l.0 _ l.1
    (ap (λ (f : ℕ). changes_listed f (interface_at plan h x).registers register value) (flags_at plan h x l.0 l.1) ∙
    changes)

firmware_error : (plan : Plan) (h : History) (x : Site) → IsLocked plan h x → has_bit 0 x.plan.flags ≡ true
    → code_after (interface_at plan h x) FirmwareUpdate ≡ 3
firmware_error plan h x is bit =
    let l = has_lock (interface_at plan h x).state is in
    changed_error (interface_at plan h x).state l.0 _ l.1
    (ap (λ (f : ℕ). has_bit 0 f) (flags_at plan h x l.0 l.1) ∙ bit)

reset_error : (plan : Plan) (h : History) (x : Site) → IsLocked plan h x → code_after (interface_at plan h x) LevelReset
    ≡ 3
reset_error plan h x is = let l = has_lock (interface_at plan h x).state is in failed_error
    (interface_at plan h x).state l.0 l.1

flr_of : (n m state s : ℕ) → v.Interface (iv.Flr n state) ≡ v.Interface (iv.Flr m s) → state ≡ s
flr_of n m state s e = grind arith

firmware_of : (n m state s : ℕ) → v.Interface (iv.Firmware n state) ≡ v.Interface (iv.Firmware m s) → state ≡ s
firmware_of n m state s e = grind arith

write_shows : (plan : Plan) (h : History) (x : Site) (i : ℕ) (register : Register) (value : ℕ) (w : Verdict) → w
    ≡ interface_verdict_due plan h (ie.Write i register value) w → site_at plan i ≡ Some x
    → ShowsError plan h x (ie.Write i register value) w
unfolding interface_verdict_due
write_shows plan h x i register value (v.Interface (iv.Written n state)) cause at = λ is changes.
    written_of (has_register x.plan register) n x.number state _
    (cause ∙ due_is plan h x i (ie.Write i register value) at) ∙ write_error plan h x register value is changes
write_shows plan h x i register value (v.Interface w) cause at = tt
write_shows plan h x i register value w cause at = tt

flr_shows : (plan : Plan) (h : History) (x : Site) (i : ℕ) (w : Verdict) → w ≡ interface_verdict_due plan h (ie.Flr i) w
    → site_at plan i ≡ Some x → ShowsError plan h x (ie.Flr i) w
unfolding interface_verdict_due
flr_shows plan h x i (v.Interface (iv.Flr n state)) cause at = λ is.
    flr_of n x.number state _ (cause ∙ due_is plan h x i (ie.Flr i) at) ∙ reset_error plan h x is
flr_shows plan h x i (v.Interface w) cause at = tt
flr_shows plan h x i w cause at = tt

firmware_shows : (plan : Plan) (h : History) (x : Site) (i : ℕ) (w : Verdict) → w
    ≡ interface_verdict_due plan h (ie.Firmware i) w
    → site_at plan i ≡ Some x → ShowsError plan h x (ie.Firmware i) w
unfolding interface_verdict_due
firmware_shows plan h x i (v.Interface (iv.Firmware n state)) cause at = λ is bit.
    firmware_of n x.number state _ (cause ∙ due_is plan h x i (ie.Firmware i) at) ∙ firmware_error plan h x is bit
firmware_shows plan h x i (v.Interface w) cause at = tt
firmware_shows plan h x i w cause at = tt

-- ---- the law

shown_at : (plan : Plan) (h : History) (e : Event) (w : Verdict) → PairFits plan h e w → ShownAt plan h e w
shown_at plan h (event.Interface (ie.Report i loss)) w cause = λ x at. shows_report plan h x i loss w cause at
shown_at plan h (event.Interface (ie.Write i register value)) w cause = λ x at. write_shows plan h x i register value w
    cause at
shown_at plan h (event.Interface (ie.Flr i)) w cause = λ x at. flr_shows plan h x i w cause at
shown_at plan h (event.Interface (ie.Firmware i)) w cause = λ x at. firmware_shows plan h x i w cause at
shown_at plan h (event.Interface e) w cause = tt
shown_at plan h e w cause = tt

pub interface_run_law : InterfaceRunLawHolds
interface_run_law plan [] cause = tt
interface_run_law plan ((e, w) ∷ h) cause = (
  λ i x at. keeps_reported plan ((e, w) ∷ h) x,
  shown_at plan h e w cause.0,
  interface_run_law plan h cause.1,
)
