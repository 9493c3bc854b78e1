-- The script of the generated events spells them, and is short.
use Rattle.std.proofs.Common.{◌≡◌, refl, ap, ap₂, ◌∙◌, ℕ, ◌<◌, ◌≤◌, ◌==◌, List, [], ◌∷◌, ◌++◌, length}
use Rattle.std.proofs.Common.{None, arith, lit≤, codes, append_assoc, length-append, false}
use Rattle.std.specs.List.{AllByRecursion, flat_map, slice_split}
use Rattle.std.proofs.lemmas.Fmt.{decimal_digit}
use Rattle.std.proofs.lemmas.List.Concat.{length-flat_map}
use Rattle.std.proofs.lemmas.List.Splits.{slice_split_at}
use Rattle.history_events.specs.declared.step.Step.{Step}
use Rattle.history_events.specs.declared.step.Step.TheVariants as step
use Rattle.history_events.specs.GeneratedEvents.{generated_events, step_event}
use Rattle.history_events.specs.Forms.{IsForm, IsInterfaceForm}
use Rattle.history_events.proofs.Forms.{generated_form, generated_weigh}
use Rattle.ide_types.specs.Names.{Text}
use Rattle.ide_types.specs.Ports.{device_port}
use Rattle.script_events.specs.declared.event.Event.{Event}
use Rattle.script_events.specs.declared.event.Event.TheVariants as event
use Rattle.script_events.specs.declared.event.InterfaceEvent.{InterfaceEvent}
use Rattle.script_events.specs.declared.event.InterfaceEvent.TheVariants as ie
use Rattle.history_events.specs.TextLaws.{Spells}
use Rattle.history_events.specs.ScriptText.{asked_line, generated_script, operation_line, event_spelling}
use Rattle.history_events.proofs.TextForms.{Reads, alter_reads, cut_reads, establish_reads, halt_reads, lock_reads}
use Rattle.history_events.proofs.TextForms.{memory_reads, pass_reads, refresh_reads, report_reads, send_reads}
use Rattle.history_events.proofs.TextForms.{start_reads, stop_reads}

-- ---- each form is read back

send_form : (bytes : List ℕ) → length bytes ≡ 16 → AllByRecursion (λ b. b < 256) bytes
    → Reads (event.Send (device_port 0) bytes false false)
send_form [] long all = absurd (omega (arith, long))
send_form (b ∷ bs) long all = send_reads b bs all (omega (arith, long))

interface_form : (e : InterfaceEvent) → IsInterfaceForm e → Reads (event.Interface e)
interface_form (ie.Lock i lose) h = rw (h.0, h.1) lock_reads
interface_form (ie.Report i lose) h = rw (h.0, h.1) report_reads
interface_form (ie.Start i lose) h = rw (h.0, h.1) start_reads
interface_form (ie.Halt i lose) h = rw (h.0, h.1) halt_reads
interface_form (ie.Memory address len) h = rw (h.0, h.1) memory_reads
interface_form _ h = absurd h

form_reads : (e : Event) → IsForm e → Reads e
form_reads (event.Establish link stream lose) h = rw (h.0, h.1, h.2) establish_reads
form_reads (event.Refresh link stream lose) h = rw (h.0, h.1, h.2) refresh_reads
form_reads (event.Stop link stream lose) h = rw (h.0, h.1, h.2) stop_reads
form_reads (event.Send port bytes more trusted) h = rw (h.0, h.3, h.4) (send_form bytes h.1 h.2)
form_reads (event.Pass packet) h = pass_reads packet h
form_reads (event.Alter packet at mask) h = rw (h.1, h.2) (alter_reads packet 1 h.0 (lit≤ tt))
form_reads (event.Cut packet len) h = rw h.1 (cut_reads packet 5 h.0 (lit≤ tt))
form_reads (event.Interface e) h = interface_form e h
form_reads _ h = absurd h

-- ---- the lines are short

line_short : (e : Event) → IsForm e → length (event_spelling e) ≤ 61
line_short e form =
    let r = form_reads e form in
    let long = ap length r.is in
    let both = length-append r.line (10 ∷ []) in
    let short = r.short in
    omega (arith, long, both, short)

operation_short : (w : Text) → length w ≤ 9 → length (operation_line w 0 5 None) ≤ 14
operation_short w few = rw (decimal_digit 0 (lit≤ tt), decimal_digit 5 (lit≤ tt))
    (let both = length-append w (32 ∷ 48 ∷ 32 ∷ 53 ∷ 10 ∷ []) in omega (arith, both, few))

asked_short : (w : Text) → length w ≤ 9 → length (asked_line w 0 None) ≤ 14
asked_short w few = rw (decimal_digit 0 (lit≤ tt))
    (let both = length-append w (32 ∷ 48 ∷ 10 ∷ []) in omega (arith, both, few))

step_short : (s : Step) → length (event_spelling (step_event s)) ≤ 14
step_short step.Stop = operation_short (codes "stop") (lit≤ tt)
step_short step.Halt = asked_short (codes "halt") (lit≤ tt)
step_short step.Establish = operation_short (codes "establish") (lit≤ tt)
step_short step.Lock = asked_short (codes "lock") (lit≤ tt)
step_short step.Report = asked_short (codes "report") (lit≤ tt)
step_short step.Start = asked_short (codes "start") (lit≤ tt)

pub script_short : (seed count : ℕ) → count ≤ 100000 → length (generated_script seed count) ≤ 16777216
unfolding generated_script
script_short seed count few =
    let whole = length-flat_map event_spelling (generated_events seed count) in
    let all = generated_weigh (λ e. length (event_spelling e)) (record { steps = step_short; forms = line_short }) seed
    count
    few in
    omega (arith, whole, all, few)

-- ---- the whole

spells : (es : List Event) → AllByRecursion IsForm es → Spells (flat_map event_spelling es) es
spells [] all = record { lines = []; cut = refl; asks = []; meanings = refl; are_events = refl }
spells (e ∷ es) all =
    let r = form_reads e all.0 in
    let later = spells es all.1 in
    record {
      lines = r.line ∷ later.lines;
      cut = ap (λ (t : Text). slice_split (λ b. b == 10) (t ++ flat_map event_spelling es)) r.is
          ∙ ap (λ (t : Text). slice_split (λ b. b == 10) t) (append_assoc r.line (10 ∷ []) (flat_map event_spelling es))
          ∙ slice_split_at (λ b. b == 10) r.line 10 (flat_map event_spelling es) r.no_end refl
          ∙ ap (λ (ps : List Text). r.line ∷ ps) later.cut;
      asks = r.asks ∷ later.asks;
      meanings = ap₂ (λ x xs. x ∷ xs) r.meaning later.meanings;
      are_events = ap₂ (λ x xs. x ∷ xs) r.same later.are_events;
    }

pub script_spells : (seed count : ℕ) → count ≤ 100000
    → Spells (generated_script seed count) (generated_events seed count)
unfolding generated_script
script_spells seed count few = spells (generated_events seed count) (generated_form seed count few)
