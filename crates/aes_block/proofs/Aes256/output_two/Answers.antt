use Rattle.std.proofs.Common.{◌≡◌, ◌-◌, refl, ◌∙◌, arith}
use Rattle.aes_block.specs.Aes.{round_words}
use Rattle.aes_block.proofs.Rounds.{start_two, step_two, finish_two}
use Rattle.aes_block.proofs.Aes256.output_two.Goals as goal

pub rounds-init : goal.rounds-init
rounds-init c = start_two (round_words c.self.inside.key) c.self.inside.round_keys c.args.a c.args.b
    c.first_round-s.result c.self.invariant c.fits-a c.fits-b c.first_round-s.ensures

pub rounds-preserved : goal.rounds-preserved
rounds-preserved c = step_two (round_words c.self.inside.key) c.self.inside.round_keys c.args.a c.args.b c.rounds.s
    c.round-s.result c.rounds.n c.self.invariant (omega arith) (omega arith) c.round-s.ensures c.rounds.invariant

pub returns-clause-first : goal.returns-clause-first
returns-clause-first c =
    let all : c.rounds.n - 1 ≡ 13 = omega arith in
    (finish_two c.self.inside.key c.self.inside.round_keys c.args.a c.args.b c.rounds.s c.last_round.result.0
    c.last_round.result.1 c.rounds.n c.self.invariant all c.rounds.invariant c.last_round.ensures).0
    ∙ rw c.self.view_is refl

pub returns-clause-second : goal.returns-clause-second
returns-clause-second c =
    let all : c.rounds.n - 1 ≡ 13 = omega arith in
    (finish_two c.self.inside.key c.self.inside.round_keys c.args.a c.args.b c.rounds.s c.last_round.result.0
    c.last_round.result.1 c.rounds.n c.self.invariant all c.rounds.invariant c.last_round.ensures).1
    ∙ rw c.self.view_is refl
