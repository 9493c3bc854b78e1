use Rattle.std.proofs.Common.{◌≡◌, ◌<◌, ◌&&◌, ℕ, false, arith, inl, inr, ◌∙◌}
use Rattle.std.proofs.lemmas.Bool.Decides.{nat_tests}
use Rattle.std.specs.Prelude.{nat_le, nat_lt}
use Rattle.ide_why.proofs.Reading.{stage_is, stage_none}
use Rattle.ide_why.proofs.reader.Reader.stage.Goals as goal

past_streams : (line stream : ℕ) → 255 < stream → (nat_lt line 32 && nat_le stream 255) ≡ false
past_streams line stream over = grind (arith, nat_tests, over)

past_lines : (line stream : ℕ) → 31 < line → (nat_lt line 32 && nat_le stream 255) ≡ false
past_lines line stream over = grind (arith, nat_tests, over)

pub returns-then-line-gt31-clause-op : goal.returns-then-line-gt31-clause-op
returns-then-line-gt31-clause-op c =
    stage_none c.args.self.now.plan.now c.args.self.now.links.now c.requires.links c.args.line c.args.stream
    (elim c.then-line-gt31.either [
      | inl over ↦ past_lines c.args.line c.args.stream over
      | inr over ↦ past_streams c.args.line c.args.stream over.1
    ])

pub returns-in-None-clause-op : goal.returns-in-None-clause-op
returns-in-None-clause-op c = c.in-None.ensures ∙ stage_is c.args.self.now.plan.now c.args.self.now.links.now
    c.requires.links c.args.line c.args.stream

pub returns-in-Some-clause-op : goal.returns-in-Some-clause-op
returns-in-Some-clause-op c = c.in-Some.ensures ∙ stage_is c.args.self.now.plan.now c.args.self.now.links.now
    c.requires.links c.args.line c.args.stream
