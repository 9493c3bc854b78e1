use Rattle.std.proofs.Common.{◌≡◌, ◌<◌, ◌^◌, length, ◌∙◌, arith, map, subst, sym}
use Rattle.spec_keys.specs.History.{History, draws}
use Rattle.ide_why.specs.{WorldStandsFor, WorldView}
use Rattle.rule_counts.specs.Coverage.{LooksBefore, coverage_with}
use Rattle.rule_counts.specs.Lines.{told_line}
use Rattle.rule_counts.specs.Seals.{AreSeals}
use Rattle.rule_counts.proofs.Steps.{if_ok}
use Rattle.ide_runs.specs.Cover.{CoverView, FollowsCover, if_shown}
use Rattle.ide_runs.proofs.Covers.{event_came}
use Rattle.ide_runs.proofs.covering.CoverWork.run_event.Goals as goal

pub returns-clause-came : goal.returns-clause-came
returns-clause-came c past follows =
    let e = c.args.event.now in
    let inside = c.self.inside in
    let old : CoverView =
    record { events = inside.events; running = inside.running; coverage = inside.coverage } in
    let here = subst (λ (v : CoverView). FollowsCover v past) (sym c.self.view_is) follows in
    let looks = subst (λ (v : WorldView). (h : History) → WorldStandsFor v h → AreSeals v.plan inside.coverage.seals h
    → LooksBefore v.plan h e c.in_ok-before.before) c.world.ensures c.in_ok-before.ensures in
    let drawn = subst (λ (v : WorldView). (h : History) → WorldStandsFor v h → c.draws-after.result ≡ draws h)
    c.world-2.ensures c.draws-after.ensures in
    let came = c.in_ok-verdict.ensures.came past.script here.follows in
    let told = map (λ s. s.now) c.in_ok-told.told.items in
    let short : length past.script.history < 2 ^ 32 = omega
    (arith, c.requires.early.steps, c.requires.number, follows.follows.steps_are) in
    let counted = c.in_ok-count.ensures
    ∙ (λ i. coverage_with inside.coverage e c.in_ok-verdict.verdict c.in_ok-before.before
    (map (λ s. s.now) (c.deref.ensures.value i))
    c.draws-after.result) in
    if_ok c.event_text.result
    (λ text is. event_came past e old c.step.new.self c.in_ok-verdict.verdict c.in_ok-before.before told
    c.draws-after.result _ text here
    looks came c.in_ok-told.ensures.rules c.in_ok-told.ensures.few drawn short
    (λ i. record { events = inside.events; running = c.step.new.self; coverage = sym counted i })
    (is ∙ (λ i. if_shown inside.events (told_line c.step.new.self.world.steps
    (map (λ s. s.now) (c.deref-2.ensures.value i)))))) c.event_text.ensures
