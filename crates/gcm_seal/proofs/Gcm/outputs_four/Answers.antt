use Rattle.std.proofs.Common.{◌≡◌, ◌+◌, refl, ◌∙◌, arith}
use Rattle.gcm_seal.proofs.Strings.{counter-at}
use Rattle.gcm_seal.proofs.Gcm.outputs_four.Goals as goal

pub returns-clause-first : goal.returns-clause-first
returns-clause-first c =
    let at = counter-at c.args.iv.now c.args.n c.told-iv (omega arith) in
    c.encrypt_four.ensures.first ∙ rw (at, c.self.view_is) refl

pub returns-clause-second : goal.returns-clause-second
returns-clause-second c =
    let at = counter-at c.args.iv.now (c.args.n + 1) c.told-iv (omega arith) in
    c.encrypt_four.ensures.second ∙ rw (at, c.self.view_is) refl

pub returns-clause-third : goal.returns-clause-third
returns-clause-third c =
    let at = counter-at c.args.iv.now (c.args.n + 2) c.told-iv (omega arith) in
    let e : c.args.n + 1 + 2 ≡ c.args.n + 2 + 1 = omega arith in
    c.encrypt_four.ensures.third ∙ rw (e, at, c.self.view_is) refl

pub returns-clause-fourth : goal.returns-clause-fourth
returns-clause-fourth c =
    let at = counter-at c.args.iv.now (c.args.n + 3) c.told-iv (omega arith) in
    let e : c.args.n + 1 + 3 ≡ c.args.n + 3 + 1 = omega arith in
    c.encrypt_four.ensures.fourth ∙ rw (e, at, c.self.view_is) refl
