-- What crosses a hop, under however many keys: nothing changes its place or its content.
use Rattle.std.specs.Prelude.{◌≡◌, ◌≢◌, ◌≤◌, ◌⊎◌, ◌∷◌, ◌++◌, List, [], Some, length, slice_get, true, ℕ}
use Rattle.ide_types.specs.Ends.{link_hop}
use Rattle.ide_types.specs.Sub.{sub_bits}
use Rattle.ide_types.specs.declared.direction.Direction.{Direction}
use Rattle.ide_types.specs.declared.plan.HopPlan.{HopPlan}
use Rattle.ide_types.specs.declared.sub.SubKind.TheVariants.{Pr}
use Rattle.spec_links.specs.Terms.{PortName, Plan, SubKind, History}
use Rattle.spec_links.specs.Hops.{HopTlp, has_hop, first_end, entering_end, last_end}
use Rattle.spec_links.specs.HopLaws.{OneDraw, in_sub, tlps_since_reset}
use Rattle.spec_links.specs.Memory.{accepted_tlps}
use Rattle.law_hops.specs.LocalLaws.{NoForgerySince}

-- the first list is the second without some of its elements
abbrev pub IsLeftOf : {A : Type 0} → List A → List A → Type 0
IsLeftOf [] ys = Unit {0}
IsLeftOf (x ∷ xs) [] = ⊥
IsLeftOf (x ∷ xs) (y ∷ ys) = ((x ≡ y) × IsLeftOf xs ys) ⊎ IsLeftOf (x ∷ xs) ys

-- If no tag of a sub-stream was forged where it enters the switch and behind it, under the draws that the two segments
-- were given since their link's last reset, what was accepted behind the hop in it since then is what was sealed before
-- it since then, in the same order and with the same header, payload and T, but for some that were lost.
abbrev pub CrossesSome : Plan → History → Type 0
CrossesSome plan h =
    (link : ℕ) (hop : HopPlan) (d : Direction) (u : SubKind) → has_hop plan link ≡ true
    → link_hop (slice_get plan.links link) ≡ Some hop
    → NoForgerySince plan h link (entering_end link d) hop.id u → NoForgerySince plan h link (last_end link d) hop.id u
    → IsLeftOf (in_sub u (accepted_tlps plan h link (last_end link d)))
    (in_sub u (tlps_since_reset plan h link (first_end link d)))

-- ---- between sub-streams

-- Of two TLPs of this sub-stream that stand at the same place of it in these lists: at least as many posted ones stand
-- before that of the first list as before that of the second.
abbrev pub PostedFirst : SubKind → List HopTlp → List HopTlp → Type 0
PostedFirst u got was =
    (before after ahead later : List HopTlp) (x y : HopTlp) → got ≡ before ++ x ∷ after → was ≡ ahead ++ y ∷ later
    → x.sub ≡ u → y.sub ≡ u → length (in_sub u ahead) ≡ length (in_sub u before)
    → length (in_sub Pr ahead) ≤ length (in_sub Pr before)

-- nor one of the posted sub-stream
abbrev pub NoForgeryOrPosted : Plan → History → ℕ → PortName → ℕ → SubKind → Type 0
NoForgeryOrPosted plan h link end stream u =
    NoForgerySince plan h link end stream u × NoForgerySince plan h link end stream Pr

-- With one draw on each segment since then, of a sub-stream that is not posted: if no tag of it, and none of the posted
-- one, was forged where they enter the switch and behind it, under these draws, a TLP of it was accepted behind the hop
-- only after each posted TLP that was sealed before it. (What was accepted of each are the first of those that were
-- sealed: `LocalCrossesInOrder`.)
abbrev pub CrossesBehindPosted : Plan → History → Type 0
CrossesBehindPosted plan h =
    (link : ℕ) (hop : HopPlan) (d : Direction) (u : SubKind) → has_hop plan link ≡ true
    → link_hop (slice_get plan.links link) ≡ Some hop → OneDraw h link → sub_bits u ≢ 0
    → NoForgeryOrPosted plan h link (entering_end link d) hop.id u
    → NoForgeryOrPosted plan h link (last_end link d) hop.id u
    → PostedFirst u (accepted_tlps plan h link (last_end link d)) (tlps_since_reset plan h link (first_end link d))
