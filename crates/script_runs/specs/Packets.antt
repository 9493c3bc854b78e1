-- A script that is run, with the bytes of each packet that is sealed.
use Rattle.std.specs.Prelude.{ℕ, List, [], ◌∷◌, ◌++◌, Option, Some, None, Result, codes, option_map}
use Rattle.std.specs.Fmt.{decimal}
use Rattle.ide_types.specs.Names.{joined_words}
use Rattle.ide_types.specs.declared.plan.Plan.{Plan}
use Rattle.ide_prefix.specs.Packet.{Packet, packet_bytes}
use Rattle.script_events.specs.declared.event.Event.{Event}
use Rattle.script_events.specs.declared.script.ScriptEvent.{ScriptEvent}
use Rattle.script_events.specs.declared.fault.LineFault.{LineFault}
use Rattle.event_verdicts.specs.declared.verdict.SealedPacket.{SealedPacket}
use Rattle.event_verdicts.specs.declared.verdict.Verdict.{Verdict}
use Rattle.event_verdicts.specs.declared.verdict.Verdict.TheVariants.{Sealed}
use Rattle.event_verdicts.specs.Lines.{bytes_word}
use Rattle.spec_keys.specs.History.{History}
use Rattle.spec_links.specs.History.{packet_by_number, sealed_packets}
use Rattle.history_events.specs.{event_of}
use Rattle.file_runs.specs.Gain.{Text}
use Rattle.file_runs.specs.Outcome.{Due}
use Rattle.script_runs.specs.Texts.{texts_due, texts_on, texts_so_far, texts_told}
use Rattle.script_runs.specs.Works.{EventText, ScriptPast, event_ran, line_ran, verdict_line}

-- the bytes of the packet of a number, which `dump` shows; the law `sealed_comes_from` says that each packet of a
-- `sealed` verdict has some
abbrev pub bytes_numbered : Plan → History → ℕ → Option Text
bytes_numbered plan h n =
    option_map (λ (x : SealedPacket × Packet). packet_bytes x.1) (packet_by_number (sealed_packets plan h) n)

abbrev pub packet_line : ℕ → Text → Text
packet_line n bytes = decimal n ++ joined_words (codes "bytes" ∷ bytes_word bytes ∷ [])

abbrev pub packet_line_if_there : ℕ → Option Text → Text
packet_line_if_there n None = []
packet_line_if_there n (Some bytes) = packet_line n bytes

-- a line for each of these packets, by all that were sealed in a history
abbrev pub packet_lines : Plan → History → List SealedPacket → Text
packet_lines plan h [] = []
packet_lines plan h (d ∷ ds) = packet_line_if_there d.number (bytes_numbered plan h d.number) ++ packet_lines plan h ds

-- the packets of a verdict, after the history that ends with it
abbrev pub sealed_lines : Plan → History → Verdict → Text
sealed_lines plan h (Sealed ds) = packet_lines plan h ds
sealed_lines plan h _ = []

-- the line of a verdict, and one for each packet that it seals
abbrev pub packets_text : EventText
packets_text plan h x = verdict_line plan h x ++ sealed_lines plan (x ∷ h) x.1

-- ---- of a script

abbrev pub packets_on : Plan → History → List Event → Text
packets_on plan h events = texts_on packets_text plan h events

abbrev pub packets_told : Plan → History → Text
packets_told plan h = texts_told packets_text plan h

abbrev pub packets_due : Plan → Text → Due
packets_due plan file = texts_due packets_text plan file

abbrev pub packets_so_far : Plan → Text → Text
packets_so_far plan bytes = texts_so_far packets_text plan bytes

-- ---- line by line

abbrev pub packets_ran : ScriptPast → Event → ScriptPast × Text
packets_ran past e = event_ran packets_text past e

abbrev pub packets_script_ran : ScriptPast → ScriptEvent → ScriptPast × Text
packets_script_ran past e = packets_ran past (event_of past.plan e)

-- what a line gives
abbrev pub packets_line : ScriptPast → ℕ → Text → Result (ScriptPast × Text) LineFault
packets_line past n line = line_ran packets_text past n line
