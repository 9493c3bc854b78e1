use Rattle.std.proofs.Common.{◌≡◌, ◌++◌, drop}
use Rattle.key_host.specs.Managers.{streams_from}
use Rattle.key_host.proofs.manager.add_links.Given as goal

abbrev pub invariant-loop-link : goal.invariant-loop-link
invariant-loop-link l = (l.line ≡ l.link-index) ×
    (l.streams.items ++ streams_from l.link-index (drop l.link-index l.links)
    ≡ l.initial.streams.items ++ streams_from 0 l.links)
