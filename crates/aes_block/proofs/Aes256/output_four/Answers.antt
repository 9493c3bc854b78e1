use Rattle.std.proofs.Common.{◌≡◌, ◌-◌, refl, ◌∙◌, arith}
use Rattle.aes_block.specs.Aes.{round_words}
use Rattle.aes_block.proofs.Rounds.{start_two, step_two, finish_two}
use Rattle.aes_block.proofs.Aes256.output_four.Goals as goal

pub rounds-init : goal.rounds-init
rounds-init c =
    let ws = round_words c.self.inside.key in
    record {
      front = start_two ws c.self.inside.round_keys c.args.a c.args.b c.first_round-s.result c.self.invariant c.fits-a
          c.fits-b c.first_round-s.ensures;
      back = start_two ws c.self.inside.round_keys c.args.c c.args.d c.first_round-t.result c.self.invariant c.fits-c
          c.fits-d c.first_round-t.ensures;
    }

pub rounds-preserved : goal.rounds-preserved
rounds-preserved c =
    let ws = round_words c.self.inside.key in
    record {
      front = step_two ws c.self.inside.round_keys c.args.a c.args.b c.rounds.s c.round-s.result c.rounds.n
          c.self.invariant (omega arith) (omega arith) c.round-s.ensures c.rounds.invariant.front;
      back = step_two ws c.self.inside.round_keys c.args.c c.args.d c.rounds.t c.round-t.result c.rounds.n
          c.self.invariant (omega arith) (omega arith) c.round-t.ensures c.rounds.invariant.back;
    }

pub returns-clause-first : goal.returns-clause-first
returns-clause-first c =
    let all : c.rounds.n - 1 ≡ 13 = omega arith in
    (finish_two c.self.inside.key c.self.inside.round_keys c.args.a c.args.b c.rounds.s c.last_round-s.result.0
    c.last_round-s.result.1
    c.rounds.n c.self.invariant all c.rounds.invariant.front c.last_round-s.ensures).0
    ∙ rw c.self.view_is refl

pub returns-clause-second : goal.returns-clause-second
returns-clause-second c =
    let all : c.rounds.n - 1 ≡ 13 = omega arith in
    (finish_two c.self.inside.key c.self.inside.round_keys c.args.a c.args.b c.rounds.s c.last_round-s.result.0
    c.last_round-s.result.1
    c.rounds.n c.self.invariant all c.rounds.invariant.front c.last_round-s.ensures).1
    ∙ rw c.self.view_is refl

pub returns-clause-third : goal.returns-clause-third
returns-clause-third c =
    let all : c.rounds.n - 1 ≡ 13 = omega arith in
    (finish_two c.self.inside.key c.self.inside.round_keys c.args.c c.args.d c.rounds.t c.last_round-t.result.0
    c.last_round-t.result.1
    c.rounds.n c.self.invariant all c.rounds.invariant.back c.last_round-t.ensures).0
    ∙ rw c.self.view_is refl

pub returns-clause-fourth : goal.returns-clause-fourth
returns-clause-fourth c =
    let all : c.rounds.n - 1 ≡ 13 = omega arith in
    (finish_two c.self.inside.key c.self.inside.round_keys c.args.c c.args.d c.rounds.t c.last_round-t.result.0
    c.last_round-t.result.1
    c.rounds.n c.self.invariant all c.rounds.invariant.back c.last_round-t.ensures).1
    ∙ rw c.self.view_is refl
