use Rattle.std.specs.Fmt.{decimal}
use Rattle.ide_prefix.specs.Cut.{packet_of_view}
use Rattle.file_runs.proofs.Shows.{parts_join}
use Rattle.file_runs.proofs.showing.packet_text.Goals as goal

pub returns : goal.returns
returns c = parts_join (decimal c.args.number) _ _ _ (packet_of_view c.args.packet.now) c.in_ok-text.ensures.ok
    c.in_ok-push_prefix.ensures c.in_ok-push_carried.ensures
