use Rattle.std.proofs.Common.{◌≡◌, drop}
use Rattle.guarded_memory.specs.Claims.{first_claim_from, claim_of}
use Rattle.guarded_memory.proofs.claims.claim_of.Given as goal

abbrev pub invariant-loop-i : goal.invariant-loop-i
invariant-loop-i g l = let xs = g.S.Statuses.stand l.statuses in first_claim_from l.i (drop l.i xs) l.span
    ≡ claim_of xs l.span
