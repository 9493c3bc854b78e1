use Rattle.std.proofs.Common.{◌≡◌, ◌-◌, refl, ◌∙◌, arith}
use Rattle.aes_block.specs.Aes.{round_words}
use Rattle.aes_block.proofs.Rounds.{start, step, finish}
use Rattle.aes_block.proofs.Aes256.output.Goals as goal

pub rounds-init : goal.rounds-init
rounds-init c = start (round_words c.self.inside.key) c.self.inside.round_keys c.args.block c.first_round-s.result
    c.self.invariant c.fits-block c.first_round-s.ensures

pub rounds-preserved : goal.rounds-preserved
rounds-preserved c =
    step (round_words c.self.inside.key) c.self.inside.round_keys c.args.block c.rounds.s c.round-s.result c.rounds.n
    c.self.invariant
    (omega arith) (omega arith) c.round-s.ensures c.rounds.invariant

pub returns : goal.returns
returns c =
    let all : c.rounds.n - 1 ≡ 13 = omega arith in
    finish c.self.inside.key c.self.inside.round_keys c.args.block c.rounds.s c.last_round.result c.rounds.n
    c.self.invariant all
    c.rounds.invariant c.last_round.ensures
    ∙ rw c.self.view_is refl
