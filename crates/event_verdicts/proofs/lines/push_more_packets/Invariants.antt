use Rattle.std.proofs.Common.{◌≡◌, ◌++◌, drop}
use Rattle.std.specs.Prelude.{string_bytes}
use Rattle.ide_types.specs.Names.{joined_words}
use Rattle.event_verdicts.specs.Lines.{more_packets_words}
use Rattle.event_verdicts.proofs.lines.push_more_packets.Given as goal

-- the text so far and the words that are left
abbrev pub invariant-loop-packet : goal.invariant-loop-packet
invariant-loop-packet l = string_bytes l.text ++ joined_words (more_packets_words (drop l.packet-index l.packets))
    ≡ string_bytes l.fn.text ++ joined_words (more_packets_words l.packets)
