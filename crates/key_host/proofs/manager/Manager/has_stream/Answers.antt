use Rattle.std.proofs.Common.{sym, ◌∙◌}
use Rattle.key_host.proofs.Begins.{has_place}
use Rattle.key_host.proofs.manager.Manager.has_stream.Goals as goal

pub returns : goal.returns
returns c = c.is_some.ensures ∙ sym
    (has_place c.args.self.now c.args.line c.args.stream c.place.result (sym c.place.ensures))
