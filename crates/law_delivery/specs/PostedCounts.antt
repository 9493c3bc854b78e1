-- The law of posted counts.
use Rattle.std.specs.Prelude.{◌≢◌, ◌≤◌, [], ◌∷◌, length, sum_by}
use Rattle.ide_types.specs.Sub.{sub_bits}
use Rattle.ide_types.specs.declared.plan.Plan.{Plan}
use Rattle.ide_types.specs.Fits.{FitsPlan}
use Rattle.ide_prefix.specs.Packet.{Packet}
use Rattle.spec_links.specs.Plan.{SubStream}
use Rattle.spec_links.specs.Cause.{CauseLaw}
use Rattle.spec_links.specs.History.{got_since, posted_lane}
use Rattle.spec_keys.specs.History.{History, base}

-- Since the last establish of a stream, the posted counts of all packets that a non-posted or completion sub-stream got
-- sum to no more than the posted packets that were got in its direction.
abbrev pub CountsMet : Plan → History → Type 0
CountsMet plan h =
    (s : SubStream) → sub_bits s.sub ≢ 0
    → sum_by (λ (p : Packet). p.prefix.posted) (got_since plan h s (base h s.line s.stream))
    ≤ length (got_since plan h (posted_lane s) (base h s.line s.stream))

-- It is so after each event.
abbrev pub CountLaw : Plan → History → Type 0
CountLaw plan [] = CountsMet plan []
CountLaw plan (pair ∷ h) = CountsMet plan (pair ∷ h) × CountLaw plan h

abbrev pub CountLawHolds : Type 0
CountLawHolds = (plan : Plan) → FitsPlan plan → (h : History) → CauseLaw plan h → CountLaw plan h
