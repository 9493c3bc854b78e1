use Rattle.std.proofs.Common.{◌≡◌, ◌∙◌, ◌++◌, ap, sym, subst}
use Rattle.spec_keys.specs.History.{History}
use Rattle.world.specs.{WorldStandsFor, WorldView}
use Rattle.file_runs.specs.Gain.{Text}
use Rattle.script_runs.specs.Packets.{packets_ran, sealed_lines}
use Rattle.script_runs.specs.Works.{EventCame, Follows, RunningView}
use Rattle.script_runs.proofs.PacketBytes.{packets_come}
use Rattle.script_runs.proofs.packets.PacketsWork.run_event.Goals as goal

pub returns-clause-came : goal.returns-clause-came
returns-clause-came c = λ past was.
    let follows : Follows c.self.inside.running past = subst (λ (r : RunningView). Follows r past)
    (sym c.self.view_is) was in
    let lines = subst (λ (s : WorldView). (h : History) → WorldStandsFor s h
    → c.in_ok-packets.packets.items ≡ sealed_lines s.plan h c.in_ok-verdict.verdict) c.world.ensures
    c.in_ok-packets.ensures in
    let whole = c.new.ensures ∙ c.in_ok-extend_from_slice.ensures.items
    ∙ ap (λ (t : Text). c.in_ok-text.text.items ++ t) c.deref.ensures.value in
    subst (λ (t : Text). EventCame (packets_ran past c.args.event.now) c.step.new.self t) (sym whole)
    (packets_come past c.args.event.now c.step.new.self c.in_ok-verdict.verdict c.in_ok-text.text.items
    c.in_ok-packets.packets.items (c.in_ok-verdict.ensures.came past follows) c.in_ok-text.ensures lines)
