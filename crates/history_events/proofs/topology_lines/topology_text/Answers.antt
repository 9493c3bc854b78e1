use Rattle.std.proofs.Common.{string_bytes}
use Rattle.history_events.specs.GeneratedTopology.{keys_below}
use Rattle.history_events.specs.TopologyText.{generated_topology}
use Rattle.history_events.proofs.Joined.{joined}
use Rattle.history_events.proofs.topology_lines.topology_text.Goals as goal

pub returns : goal.returns
unfolding generated_topology
returns c =
    rw c.into_bytes.ensures.value
    (joined (keys_below 6144) (keys_below 1024) (string_bytes c.in_ok-text.text) (string_bytes c.push_keys.new.text)
    (string_bytes c.push_link.new.text) (string_bytes c.push_keys-2.new.text) (string_bytes c.push_interface.new.text)
    (string_bytes c.push_bar.new.text) (string_bytes c.push_stream.new.text) (string_bytes c.push_ranges.new.text)
    (string_bytes c.push_memory.new.text) c.in_ok-text.ensures.ok c.in_ok-push_keys.ensures c.in_ok-push_link.ensures
    c.in_ok-push_keys-2.ensures c.in_ok-push_interface.ensures c.in_ok-push_bar.ensures c.in_ok-push_stream.ensures
    c.in_ok-push_ranges.ensures c.in_ok-push_memory.ensures)
