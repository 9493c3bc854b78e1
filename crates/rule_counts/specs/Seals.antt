-- What is noted of seals and of establishes, and that it is what a history says.
use Rattle.std.specs.Prelude.{ℕ, ◌≡◌, ◌==◌, ◌&&◌, Bool, List, [], ◌∷◌, ◌++◌, if◌then◌else◌, map}
use Rattle.ide_types.specs.declared.plan.Plan.{Plan}
use Rattle.ide_prefix.specs.Packet.{Packet}
use Rattle.script_events.specs.declared.event.Event.{Event}
use Rattle.script_events.specs.declared.event.Event.TheVariants as event
use Rattle.event_verdicts.specs.declared.verdict.Verdict.{Verdict}
use Rattle.event_verdicts.specs.declared.verdict.Verdict.TheVariants as v
use Rattle.event_verdicts.specs.declared.verdict.SealedPacket.{SealedPacket}
use Rattle.spec_keys.specs.History.{History, base}
use Rattle.spec_links.specs.History.{sealed_packets}
use Rattle.rule_counts.specs.declared.seals.Base.{Base}

-- the packets that were sealed, in order, and the establishes that began, in order
pub record SealsView : Type 0 where
  pub packets : List SealedPacket
  pub bases : List Base

-- the draw of the last of these establishes that is of the stream, or the one found before
abbrev pub base_after : ℕ → List Base → ℕ → ℕ → ℕ
base_after found [] line stream = found
base_after found (b ∷ bs) line stream =
    base_after (if (b.line == line) && (b.stream == stream) then b.draw else found) bs line stream

-- what a verdict says was sealed
abbrev pub sealed_in : Verdict → List SealedPacket
sealed_in (v.Sealed packets) = packets
sealed_in w = []

-- an establish began if a draw was made
abbrev pub bases_noted : List Base → Event → (none_drawn : Bool) → (draw : ℕ) → List Base
bases_noted bs (event.Establish line stream loss) none_drawn draw =
    if none_drawn then bs else bs ++ record { line = line; stream = stream; draw = draw } ∷ []
bases_noted bs e none_drawn draw = bs

-- with an event and its verdict, before and after which so many draws were made
abbrev pub noted : SealsView → Event → Verdict → (before after : ℕ) → SealsView
noted s e w before after = record {
  packets = s.packets ++ sealed_in w;
  bases = bases_noted s.bases e (before == after) before;
}

-- what is noted is what the history says
pub record AreSeals (plan : Plan) (s : SealsView) (h : History) : Type 0 where
  pub packets_are : s.packets ≡ map (λ (x : SealedPacket × Packet). x.0) (sealed_packets plan h)
  pub bases_are : (line stream : ℕ) → base_after 0 s.bases line stream ≡ base h line stream
