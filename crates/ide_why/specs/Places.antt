-- Which place of keys refuses a KEY_PROG.
use Rattle.std.specs.Prelude.{ℕ, ◌&&◌, nat_le, Bool, true, false, if◌then◌else◌, Option, Some, None}
use Rattle.std.specs.Option.{option_map, option_map_or}
use Rattle.ide_types.specs.{is_hosted}
use Rattle.ide_types.specs.declared.port.Side.{Side}
use Rattle.ide_types.specs.declared.port.Side.TheVariants.{Host, Device}
use Rattle.ide_types.specs.declared.sub.SubKind.TheVariants.{Pr, Npr, Cpl}
use Rattle.ide_types.specs.declared.plan.Plan.{Plan}
use Rattle.spec_keys.specs.History.{program_exchange}
use Rattle.event_verdicts.specs.declared.verdict.Operation.{Operation}
use Rattle.sub_stream.specs.declared.facts.SetFacts.{SetFacts}
use Rattle.sub_stream.specs.declared.facts.StreamFacts.{StreamFacts}
use Rattle.sub_stream.specs.Facts.{lane_seen}
use Rattle.world.specs.{WholeLinks}
use Rattle.why_facts.specs.declared.appends.places.Place.{Place}
use Rattle.why_facts.specs.{key_place, refuses_seen, seen_place_at}
use Rattle.ide_why.specs.Reading.{stream_read}

abbrev pub lane_sets : Place → StreamFacts → SetFacts
lane_sets p f = if p.sends then (lane_seen f p.sub).sender.sets else (lane_seen f p.sub).receiver.sets

abbrev pub sets_at : Plan → WholeLinks → Place → Option SetFacts
sets_at plan s p = option_map (lane_sets p) (stream_read plan s (record { side = p.side; line = p.line }) p.stream)

-- it has a KEY_PROG of this set from an exchange on, which it refuses
abbrev pub is_refusing : Plan → WholeLinks → Operation → Bool → ℕ → Place → Bool
is_refusing plan s o set first p =
    option_map_or (λ sets. nat_le first (program_exchange o (key_place p)) && refuses_seen set sets) (sets_at plan s p)
    false

abbrev pub if_refusing : Bool → Place → Option Place → Option Place
if_refusing b p next = if b then Some p else next

-- it, if it does so, else the next one
abbrev pub refusing_or_next : Plan → WholeLinks → Operation → Bool → ℕ → Place → Option Place → Option Place
refusing_or_next plan s o set first p next = if_refusing (is_refusing plan s o set first p) p next

-- the first of the six places of a stream at an end
abbrev pub first_refusing : Plan → WholeLinks → Operation → Bool → ℕ → Side → ℕ → ℕ → Option Place
first_refusing plan s o set first side line stream =
    refusing_or_next plan s o set first (seen_place_at side line stream false Pr)
    (refusing_or_next plan s o set first (seen_place_at side line stream false Npr)
    (refusing_or_next plan s o set first (seen_place_at side line stream false Cpl)
    (refusing_or_next plan s o set first (seen_place_at side line stream true Pr)
    (refusing_or_next plan s o set first (seen_place_at side line stream true Npr)
    (refusing_or_next plan s o set first (seen_place_at side line stream true Cpl) None)))))

abbrev pub place_or : Option Place → Option Place → Option Place
place_or None next = next
place_or (Some p) next = Some p

-- of those of a stream whose keys are given by messages
abbrev pub refusing_on_line : Plan → WholeLinks → Operation → Bool → ℕ → ℕ → ℕ → Option Place
refusing_on_line plan s o set first line stream =
    if is_hosted line then first_refusing plan s o set first Device line stream
    else place_or (first_refusing plan s o set first Host line stream)
    (first_refusing plan s o set first Device line stream)
