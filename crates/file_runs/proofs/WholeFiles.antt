-- A file that was read, or could not be read, and a part that runs after it.
use Rattle.std.proofs.Common.{◌≡◌, ℕ, [], Option, Some, None, Result, Ok, Err, refl, sym, ap, inl, inr}
use Rattle.std.proofs.lemmas.List.{append-nil}
use Rattle.cli_files.specs.Outside.{Contents, Rose}
use Rattle.file_runs.specs.declared.ends.End.{End}
use Rattle.file_runs.specs.declared.ends.Fault.{Fault}
use Rattle.file_runs.specs.declared.ends.Fault.TheVariants as fault
use Rattle.file_runs.specs.Front.{UnreadCause}
use Rattle.file_runs.specs.Gain.{Text, HasGained}
use Rattle.file_runs.specs.Outcome.{Due, Quiet, EndsBy, EndsBlind, EndsDue, EndsToldOrBlind}

-- what is due if contents are told
abbrev pub IsDue : Option Contents → (Contents → Option Due) → Due → Type 0
IsDue None due last = Unit {0}
IsDue (Some contents) due last = due contents ≡ Some last

abbrev pub SameDue : Option Contents → (due other : Contents → Option Due) → Type 0
SameDue None due other = Unit {0}
SameDue (Some contents) due other = due contents ≡ other contents

pub gained_nothing : (h : Option Text) → HasGained h h []
gained_nothing None = refl
gained_nothing (Some held) = ap (λ (t : Text). Some t) (sym (append-nil held))

some_none : {A : Type 0} {x : A} → Some x ≡ None → ⊥
some_none e = cc

-- a file could not be read
stopped_told : (contents : Contents) (due : Option Due) (name : Text) (s0 s1 : ℕ) (write quiet : Type 0)
    (h : Option Text) (e : Fault) → (contents name ≡ None → due ≡ None)
    → UnreadCause s0 s1 (Some contents) name e → EndsDue due (Rose s0 s1) write quiet (HasGained h h) (Err e)
stopped_told contents due name s0 s1 write quiet h fault.Write lacks c = absurd c
stopped_told contents None name s0 s1 write quiet h fault.Read lacks c = gained_nothing h
stopped_told contents None name s0 s1 write quiet h fault.Memory lacks c = gained_nothing h
stopped_told contents (Some due) name s0 s1 write quiet h fault.Read lacks c =
    let rose : Rose s0 s1 = elim c.1 [ inl r ↦ r | inr none ↦ absurd (some_none (lacks none)) ] in
    (rose, ([], (due.1, refl), inl refl, gained_nothing h))
stopped_told contents (Some due) name s0 s1 write quiet h fault.Memory lacks c = ([], (due.1, refl), gained_nothing h)

pub stopped : (told : Option Contents) (due : Contents → Option Due) (name : Text) (s0 s1 : ℕ) (write quiet : Type 0)
    (h : Option Text) (e : Fault) → ((contents : Contents) → contents name ≡ None → due contents ≡ None)
    → UnreadCause s0 s1 told name e → EndsToldOrBlind told due (Rose s0 s1) write quiet (HasGained h h) (Err e)
stopped None due name s0 s1 write quiet h fault.Read lacks c = elim c.1 [ inl r ↦ r | inr none ↦ absurd none ]
stopped None due name s0 s1 write quiet h fault.Write lacks c = absurd c
stopped None due name s0 s1 write quiet h fault.Memory lacks c = tt
stopped (Some contents) due name s0 s1 write quiet h e lacks c = stopped_told contents (due contents) name s0 s1 write
    quiet h e (lacks contents) c

-- a part that writes ran after the files were read
pub ran_told : (due : Option Due) (last : Due) (s0 s1 o0 o1 : ℕ) (gained : Text → Type 0) (r : Result End Fault) → due
    ≡ Some last → s1 ≡ s0
    → EndsBy last ⊥ (Rose o0 o1) (o1 ≡ o0) gained r → EndsDue due (Rose s0 s1) (Rose o0 o1) (Quiet s0 s1 o0 o1) gained r
ran_told due last s0 s1 o0 o1 gained (Ok e) is same h = rw is (h.0, h.1, (same, h.2))
ran_told due last s0 s1 o0 o1 gained (Err fault.Read) is same h = absurd h.0
ran_told due last s0 s1 o0 o1 gained (Err fault.Write) is same h = rw is h
ran_told due last s0 s1 o0 o1 gained (Err fault.Memory) is same h = rw is h

pub ran_blind : (last : Due) (s0 s1 o0 o1 : ℕ) (gained : Text → Type 0) (r : Result End Fault) → s1 ≡ s0
    → EndsBy last ⊥ (Rose o0 o1) (o1 ≡ o0) gained r → EndsBlind (Rose s0 s1) (Rose o0 o1) (Quiet s0 s1 o0 o1) r
ran_blind last s0 s1 o0 o1 gained (Ok e) same h = (same, h.2)
ran_blind last s0 s1 o0 o1 gained (Err fault.Read) same h = absurd h.0
ran_blind last s0 s1 o0 o1 gained (Err fault.Write) same h = h.0
ran_blind last s0 s1 o0 o1 gained (Err fault.Memory) same h = tt

pub ran_after : (told : Option Contents) (due : Contents → Option Due) (last : Due) (s0 s1 o0 o1 : ℕ)
    (gained : Text → Type 0) (r : Result End Fault) → IsDue told due last → s1 ≡ s0
    → EndsBy last ⊥ (Rose o0 o1) (o1 ≡ o0) gained r → EndsToldOrBlind told due (Rose s0 s1) (Rose o0 o1)
    (Quiet s0 s1 o0 o1) gained r
ran_after None due last s0 s1 o0 o1 gained r is same h = ran_blind last s0 s1 o0 o1 gained r same h
ran_after (Some contents) due last s0 s1 o0 o1 gained r is same h = ran_told (due contents) last s0 s1 o0 o1 gained r is
    same h

-- the same is due
pub redue : (told : Option Contents) (due other : Contents → Option Due) (read write quiet : Type 0)
    (gained : Text → Type 0) (r : Result End Fault) → SameDue told due other
    → EndsToldOrBlind told due read write quiet gained r → EndsToldOrBlind told other read write quiet gained r
redue None due other read write quiet gained r same h = h
redue (Some contents) due other read write quiet gained r same h = rw (← same) h

memory_told : (due : Option Due) (read write quiet : Type 0) (h : Option Text)
    → EndsDue due read write quiet (HasGained h h) (Err fault.Memory)
memory_told None read write quiet h = gained_nothing h
memory_told (Some due) read write quiet h = ([], (due.1, refl), gained_nothing h)

-- want of memory before anything was written
pub out_of_memory : (told : Option Contents) (due : Contents → Option Due) (read write quiet : Type 0) (h : Option Text)
    → EndsToldOrBlind told due read write quiet (HasGained h h) (Err fault.Memory)
out_of_memory None due read write quiet h = tt
out_of_memory (Some contents) due read write quiet h = memory_told (due contents) read write quiet h
