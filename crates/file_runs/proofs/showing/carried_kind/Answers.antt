use Rattle.std.proofs.Common.{◌∙◌, ap}
use Rattle.ide_prefix.specs.Cut.{packet_of_view}
use Rattle.file_runs.specs.Showing.{carried_word}
use Rattle.file_runs.proofs.Shows.{header_is}
use Rattle.file_runs.proofs.showing.carried_kind.Goals as goal

pub returns : goal.returns
returns c = c.carried_name.ensures ∙ ap carried_word (header_is (packet_of_view c.args.packet.now) _ c.requires)
