use Rattle.std.proofs.Common.{List, [], ◌∷◌, ◌++◌, All, rules}
use Rattle.std.proofs.lemmas.List.Elements.{All-append, All-cons, All-nil}
use Rattle.trusted_memory.specs.Requests.{FitsRead}
use Rattle.trusted_memory.specs.declared.queue.WaitingRead.{WaitingRead}
use Rattle.trusted_memory.proofs.queue.Reads.push.Goals as goal

fits_one_more : (ws : List WaitingRead) (w : WaitingRead) → All (λ (v : WaitingRead). FitsRead v.read) ws
    → FitsRead w.read → All (λ (v : WaitingRead). FitsRead v.read) (ws ++ w ∷ [])
fits_one_more ws w all fits =
    let P : WaitingRead → Type 0 = λ v. FitsRead v.read in
    All-append P ws (w ∷ []) all (All-cons P w [] fits (All-nil P))

pub invariant_of-self : goal.invariant_of-self
invariant_of-self c =
    let fit = fits_one_more c.self.inside.waiting.items c.args.read c.self.invariant.fit c.requires in search rules
