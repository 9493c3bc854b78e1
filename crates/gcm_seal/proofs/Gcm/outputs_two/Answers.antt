use Rattle.std.proofs.Common.{◌+◌, refl, ◌∙◌, arith}
use Rattle.gcm_seal.proofs.Strings.{counter-at}
use Rattle.gcm_seal.proofs.Gcm.outputs_two.Goals as goal

pub returns-clause-first : goal.returns-clause-first
returns-clause-first c =
    let at = counter-at c.args.iv.now c.args.n c.told-iv (omega arith) in
    c.encrypt_counters.ensures.first ∙ rw (at, c.self.view_is) refl

pub returns-clause-second : goal.returns-clause-second
returns-clause-second c =
    let at = counter-at c.args.iv.now (c.args.n + 1) c.told-iv (omega arith) in
    c.encrypt_counters.ensures.second ∙ rw (at, c.self.view_is) refl
