-- One file after another, and what is due of a file in other words.
use Rattle.std.proofs.Common.{◌≡◌, ◌≤◌, ◌+◌, ◌++◌, ◌∙◌, ℕ, [], length, length-take, Option, Some, None, Result}
use Rattle.std.proofs.Common.{Ok, Err, refl, sym, ap, subst, arith, append_assoc, option_map}
use Rattle.std.specs.Prelude.{IfErr, IfOk}
use Rattle.std.proofs.lemmas.List.{append-nil, append_cancel_left}
use Rattle.cli_files.specs.Outside.{Contents, Rose, ShelfSeen, SinkSeen}
use Rattle.file_runs.specs.declared.ends.End.{End}
use Rattle.file_runs.specs.declared.ends.Fault.{Fault}
use Rattle.file_runs.specs.declared.ends.Fault.TheVariants as fault
use Rattle.file_runs.specs.Front.{FrontIn, FrontIfTold, Gave, GaveIfTold, bytes_of}
use Rattle.file_runs.specs.Gain.{Text, HasGained, GainedMore, IsFront}
use Rattle.file_runs.specs.Gathering.{HasGainedAtFault, NoFurther, ReadAsFar, ReadAsFarOfContents, WroteEnded}
use Rattle.file_runs.specs.Gathering.{WroteEndedIfTold, first_of}
use Rattle.file_runs.specs.Outcome.{Due, EndsBy, EndsToldOrBlind, Quiet, SomeFront}
use Rattle.file_runs.proofs.WholeFiles.{SameDue, gained_nothing}

pub joined : (a b c m n : ℕ) → Gave a m b → Gave b n c → Gave a (m + n) c
joined a b c m n one two = (omega (arith, one.0, two.0), omega (arith, one.1, two.1))

same_map : (file : Option Text) (f g : Text → Due) → ((t : Text) → f t ≡ g t) → option_map f file ≡ option_map g file
same_map None f g same = refl
same_map (Some t) f g same = ap (λ (d : Due). Some d) (same t)

pub same_due : (told : Option Contents) (name : Text) (f g : Text → Due) → ((t : Text) → f t ≡ g t)
    → SameDue told (λ contents. option_map f (contents name)) (λ contents. option_map g (contents name))
same_due None name f g same = tt
same_due (Some contents) name f g same = same_map (contents name) f g same

-- what runs after a shelf was read, which kept its contents and its count of faults
pub later : (told now : Option Contents) (due : Contents → Option Due) (before after end o0 o1 : ℕ)
    (gained : Text → Type 0) (r : Result End Fault) → now ≡ told → after ≡ before
    → EndsToldOrBlind now due (Rose after end) (Rose o0 o1) (Quiet after end o0 o1) gained r
    → EndsToldOrBlind told due (Rose before end) (Rose o0 o1) (Quiet before end o0 o1) gained r
later told now due before after end o0 o1 gained r same quiet ran =
    let P : Option Contents → Type 0 = λ t. EndsToldOrBlind t due (Rose before end) (Rose o0 o1)
    (Quiet before end o0 o1) gained
    r in
    let Q : ℕ → Type 0 = λ n. EndsToldOrBlind now due (Rose n end) (Rose o0 o1) (Quiet n end o0 o1) gained r in
    subst P same (subst Q quiet ran)

within_in : (file : Option Text) (read : Text) (most before now : ℕ) → FrontIn most file read
    → Gave before (length read) now → (n : ℕ) × (n ≤ length (bytes_of file)) × Gave before n now
within_in None read most before now is gave = absurd is
within_in (Some file) read most before now is gave =
    (length read, omega (arith, ap length is, length-take most file), gave)

pub given_within : (told : Option Contents) (name read : Text) (most before now : ℕ) → FrontIfTold told name most read
    → Gave before (length read) now → GaveIfTold told name before now
given_within None name read most before now is gave = tt
given_within (Some contents) name read most before now is gave = within_in (contents name) read most before now is gave

-- nothing that was gained is due to a line
pub gained_none : (e : Fault) (h : Option Text) → HasGainedAtFault e h h []
gained_none fault.Read h = gained_nothing h
gained_none fault.Write h = ([], gained_nothing h)
gained_none fault.Memory h = ([], gained_nothing h)

pub some_gained : (h0 h1 : Option Text) (last : Text) → SomeFront (HasGained h0 h1) last → GainedMore h0 h1 []
some_gained h0 h1 last (front, is, gained) = (front, gained)

-- the same text in other words
pub same_ended : (e : Fault) (f g : Text → Text) (name : Text) (s0 s1 : ShelfSeen) (o0 o1 : SinkSeen)
    → ((t : Text) → f t ≡ g t) → WroteEnded e f name s0 s1 o0 o1 → WroteEnded e g name s0 s1 o0 o1
same_ended e f g name s0 s1 o0 o1 same wrote = by_told s0.contents wrote
  where
    by_told : (told : Option Contents) → WroteEndedIfTold e f told name s0 s1 o0 o1
        → WroteEndedIfTold e g told name s0 s1 o0 o1
    by_told None wrote = tt
    by_told (Some contents) wrote = record {
      given = wrote.given;
      ran = wrote.ran;
      within = wrote.within;
      gave = wrote.gave;
      most = wrote.most;
      all_but = wrote.all_but;
      ahead = wrote.ahead;
      short = wrote.short;
      gained = subst (λ (t : Text). HasGainedAtFault e o0.held o1.held t) (same (first_of name contents wrote.ran))
          wrote.gained;
    }

pub ended_same : (f g : Text → Text) (name : Text) (s0 s1 : ShelfSeen) (o0 o1 : SinkSeen) (r : Result End Fault)
    → ((t : Text) → f t ≡ g t) → IfErr r (λ e. WroteEnded e f name s0 s1 o0 o1)
    → IfErr r (λ e. WroteEnded e g name s0 s1 o0 o1)
ended_same f g name s0 s1 o0 o1 (Ok e) same wrote = tt
ended_same f g name s0 s1 o0 o1 (Err e) same wrote = same_ended e f g name s0 s1 o0 o1 same wrote

-- of one file, in other words
pub far_same : (f g : Text → Type 0) (name : Text) (s0 s1 : ShelfSeen) (r : Result End Fault) → ((t : Text) → f t → g t)
    → IfOk r (λ e. ReadAsFar (λ contents. NoFurther f (bytes_of (contents name))) s0 s1)
    → IfOk r (λ e. ReadAsFar (λ contents. NoFurther g (bytes_of (contents name))) s0 s1)
far_same f g name s0 s1 (Err e) same far = tt
far_same f g name s0 s1 (Ok e) same far = by_told s0.contents far
  where
    by_told : (told : Option Contents) → ReadAsFarOfContents (λ contents. NoFurther f (bytes_of (contents name))) told
        s0 s1
        → ReadAsFarOfContents (λ contents. NoFurther g (bytes_of (contents name))) told s0 s1
    by_told None far = tt
    by_told (Some contents) (n, gave, far) = (n, gave, (far.0, same _ far.1))

-- ---- what was gained is a prefix of the text that is due

pub front_of_front : (a b c : Text) → IsFront a b → IsFront b c → IsFront a c
front_of_front a b c one two =
    (one.0 ++ two.0, sym (append_assoc a one.0 two.0) ∙ (ap (λ (t : Text). t ++ two.0) one.1 ∙ two.1))

whole_front : (a : Text) → IsFront a a
whole_front a = ([], append-nil a)

same_gain : (before now : Option Text) (held gained text : Text) → before ≡ Some held → now ≡ Some (held ++ gained)
    → HasGained before now text → gained ≡ text
same_gain before now held gained text one two is =
    let there : now ≡ Some (held ++ text) = is ∙ ap (option_map (λ (h : Text). h ++ text)) one in
    let same : held ++ gained ≡ held ++ text = cc (two, there) in
    append_cancel_left held gained text same

some_front : (before now : Option Text) (held gained text : Text) → before ≡ Some held → now ≡ Some (held ++ gained)
    → SomeFront (HasGained before now) text → IsFront gained text
some_front before now held gained text one two is = subst (λ (t : Text). IsFront t text)
    (sym (same_gain before now held gained is.0 one two is.2)) is.1

pub gained_front : (due : Due) (read write quiet : Type 0) (before now : Option Text) (held gained : Text)
    (r : Result End Fault) → before ≡ Some held → now ≡ Some (held ++ gained)
    → EndsBy due read write quiet (HasGained before now) r → IsFront gained due.1
gained_front due read write quiet before now held gained (Ok e) one two ran = subst (λ (t : Text). IsFront t due.1)
    (sym (same_gain before now held gained due.1 one two ran.1)) (whole_front due.1)
gained_front due read write quiet before now held gained (Err fault.Read) one two ran = some_front before now held
    gained due.1 one two (ran.1.0, ran.1.1, ran.1.3)
gained_front due read write quiet before now held gained (Err fault.Write) one two ran = some_front before now held
    gained due.1 one two ran.1
gained_front due read write quiet before now held gained (Err fault.Memory) one two ran = some_front before now held
    gained due.1 one two ran
