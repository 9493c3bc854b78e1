use Rattle.std.proofs.Common.{◌≡◌, ◌++◌, string_bytes, take}
use Rattle.history_events.specs.TopologyText.{key_items}
use Rattle.history_events.proofs.topology_lines.push_keys.Given as goal

abbrev pub invariant-loop-key : goal.invariant-loop-key
invariant-loop-key l = string_bytes l.text ≡ string_bytes l.initial.text ++ key_items (take l.key-index l.key-items)
