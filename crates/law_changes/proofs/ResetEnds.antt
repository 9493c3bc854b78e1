-- Which ends the reset of a link clears: those of the link, of its hop, and at its device of streams between devices.
use Rattle.std.proofs.Common.{◌≡◌, ◌≢◌, ℕ, zero, suc, ◌+◌, ◌-◌, ◌<◌, ◌≤◌, ◌==◌, ◌&&◌, ◌||◌, ◌∷◌, ◌++◌, Bool, true}
use Rattle.std.proofs.Common.{false}
use Rattle.std.proofs.Common.{List, [], Option, Some, None, refl, ap, sym, ◌∙◌, arith, slice_get}
use Rattle.std.proofs.lemmas.Bool.Decides.{nat_tests}
use Rattle.std.proofs.lemmas.Bool.{cases_lt, true≢false}
use Rattle.spec_keys.proofs.Tests.{neither-true}
use Rattle.law_key_facts.proofs.RealFacts.{uncleared}
use Rattle.std.proofs.Common.{inl, inr}
use Rattle.std.proofs.lemmas.List.Elements.{recursion_from_All}
use Rattle.std.specs.Prelude.{is_some, if◌then◌else◌}
use Rattle.std.specs.List.{list_any, AllByRecursion}
use Rattle.ide_types.specs.declared.port.Side.{Side}
use Rattle.ide_types.specs.declared.port.Side.TheVariants.{Host, Device}
use Rattle.ide_types.specs.declared.port.PortName.{PortName}
use Rattle.ide_types.specs.declared.plan.Plan.{Plan}
use Rattle.ide_types.specs.declared.plan.PeerPlan.{PeerPlan}
use Rattle.ide_types.specs.declared.plan.HopPlan.{HopPlan}
use Rattle.ide_types.specs.Fits.{FitsPlan, FitsPeer}
use Rattle.ide_types.specs.Lines.{near_hop_line, far_hop_line, peer_line, is_link_line}
use Rattle.ide_types.specs.Ports.{host_port, device_port}
use Rattle.ide_types.specs.Ends.{hop_ends, reset_ends, link_hop, peer_link}
unfoldable use Rattle.ide_types.specs.Ends.{peer_ends}
use Rattle.spec_keys.specs.Places.{is_cleared, is_line_reset, is_between_devices, is_same_side}
use Rattle.spec_links.specs.Hops.{has_hop}
use Rattle.law_changes.specs.Resets.{is_of_link, ends_at_device}

any_append : (f : PortName → Bool) (xs ys : List PortName) → list_any f (xs ++ ys) ≡ (list_any f xs || list_any f ys)
any_append f [] ys = refl
any_append f (x ∷ xs) ys = let more = any_append f xs ys in grind (arith, more)

-- ---- streams between devices

abbrev is_end : Side → ℕ → PortName → Bool
is_end side line e = is_same_side e.side side && (e.line == line)

none_before : (peers : List PeerPlan) (n link line : ℕ) (side : Side) → line < 24 + n
    → list_any (is_end side line) (peer_ends peers n link) ≡ false
unfolding peer_ends
none_before [] n link line side less = refl
none_before (p ∷ ps) n link line side less =
    let more = none_before ps (n + 1) link line side (omega arith) in
    let other : (24 + n == line) ≡ false = grind (arith, nat_tests) in
    grind (arith, more, other)

first_here : (p : PeerPlan) (n link line : ℕ) (side : Side) (rest : List PortName) → p.near ≢ p.far → line ≡ 24 + n
    → list_any (is_end side line) rest ≡ false
    → list_any (is_end side line) (if p.near == link then host_port (peer_line n) ∷ rest
    else if p.far == link then device_port (peer_line n) ∷ rest else rest)
    ≡ (peer_link side p == link)
first_here p n link line Host rest apart is none =
    let here : (24 + n == line) ≡ true = grind (arith, nat_tests) in
    grind (arith, nat_tests, here, none)
first_here p n link line Device rest apart is none =
    let here : (24 + n == line) ≡ true = grind (arith, nat_tests) in
    grind (arith, nat_tests, here, none)

at_place : (peers : List PeerPlan) (n link k line : ℕ) (side : Side)
    → AllByRecursion (λ (p : PeerPlan). p.near ≢ p.far) peers → line ≡ 24 + n + k
    → list_any (is_end side line) (peer_ends peers n link) ≡ ends_at_device (slice_get peers k) link side
unfolding peer_ends
at_place [] n link k line side apart is = refl
at_place (p ∷ ps) n link zero line side apart is =
    first_here p n link line side (peer_ends ps (n + 1) link) apart.0 (omega arith)
    (none_before ps (n + 1) link line side (omega arith))
at_place (p ∷ ps) n link (suc k) line side apart is =
    let more = at_place ps (n + 1) link k line side apart.1 (omega arith) in
    let other : (24 + n == line) ≡ false = grind (arith, nat_tests) in
    grind (arith, more, other)

no_line : (peers : List PeerPlan) (n link line : ℕ) → line < 24
    → list_any (λ (e : PortName). e.line == line) (peer_ends peers n link) ≡ false
unfolding peer_ends
no_line [] n link line less = refl
no_line (p ∷ ps) n link line less =
    let more = no_line ps (n + 1) link line less in
    let other : (24 + n == line) ≡ false = grind (arith, nat_tests) in
    grind (arith, more, other)

-- ---- hops

hop_line : (o : Option HopPlan) (link line : ℕ)
    → list_any (λ (e : PortName). e.line == line) (hop_ends o link)
    ≡ (is_some o && ((line == near_hop_line link) || (line == far_hop_line link)))
hop_line None link line = refl
hop_line (Some o) link line = grind (arith, nat_tests)

hop_late : (o : Option HopPlan) (link line : ℕ) (side : Side) → link < 8 → 24 ≤ line
    → list_any (is_end side line) (hop_ends o link) ≡ false
hop_late None link line side less least = refl
hop_late (Some o) link line side less least =
    let near : (8 + link == line) ≡ false = grind (arith, nat_tests) in
    let far : (16 + link == line) ≡ false = grind (arith, nat_tests) in
    grind (arith, near, far)

-- ---- all ends

peers_apart : (plan : Plan) → FitsPlan plan → AllByRecursion (λ (p : PeerPlan). p.near ≢ p.far) plan.peers
peers_apart plan fits = each plan.peers (recursion_from_All (FitsPeer plan.links) plan.peers fits.each_peer)
  where
    each : (ps : List PeerPlan) → AllByRecursion (FitsPeer plan.links) ps
        → AllByRecursion (λ (p : PeerPlan). p.near ≢ p.far) ps
    each [] all = tt
    each (p ∷ ps) all = (all.0.apart, each ps all.1)

joins_end : (side : Side) (line link : ℕ) (rest : List PortName) → (link == line) ≡ false
    → list_any (is_end side line) (host_port link ∷ device_port link ∷ rest) ≡ list_any (is_end side line) rest
joins_end side line link rest other = grind (arith, other)

late : (plan : Plan) → FitsPlan plan → (link line : ℕ) (side : Side) → link < 8 → 24 ≤ line
    → list_any (is_end side line) (reset_ends plan link) ≡ ends_at_device (slice_get plan.peers (line - 24)) link side
late plan fits link line side less least =
    let o = link_hop (slice_get plan.links link) in
    let own : (link == line) ≡ false = grind (arith, nat_tests) in
    let hop = hop_late o link line side less least in
    let peers = at_place plan.peers 0 link (line - 24) line side (peers_apart plan fits) (omega arith) in
    let all = any_append (is_end side line) (hop_ends o link) (peer_ends plan.peers 0 link) in
    joins_end side line link (hop_ends o link ++ peer_ends plan.peers 0 link) own
    ∙ (all ∙ (λ i. hop i || peers i))

joins_line : (line link : ℕ) (is_link has test rest : Bool) → is_link ≡ true → rest ≡ ((has && test) || false)
    → ((link == line) || ((link == line) || rest)) ≡ ((line == link) || ((is_link && has) && test))
joins_line line link is_link has test rest low is = grind (arith, nat_tests)

early : (plan : Plan) (link line : ℕ) → link < 8 → line < 24
    → list_any (λ (e : PortName). e.line == line) (reset_ends plan link)
    ≡ ((line == link) || (has_hop plan link && ((line == near_hop_line link) || (line == far_hop_line link))))
early plan link line less more =
    let o = link_hop (slice_get plan.links link) in
    let all = any_append (λ (e : PortName). e.line == line) (hop_ends o link) (peer_ends plan.peers 0 link) in
    let none = no_line plan.peers 0 link line more in
    let hop = hop_line o link line in
    joins_line line link (is_link_line link) (is_some o) _ _ (grind (arith, nat_tests)) (all ∙ (λ i. hop i || none i))

none_late : (a b : Bool) → (a || b) ≡ (a || (b || (false && false)))
none_late a b = grind arith

none_early : (a b : Bool) → b ≡ (false || ((a && (false || false)) || (true && b)))
none_early a b = grind arith

pub cleared_is : (plan : Plan) → FitsPlan plan → (link : ℕ) → link < 8 → (side : Side) (line : ℕ)
    → is_cleared (reset_ends plan link) side line ≡ is_of_link plan link (record { side = side; line = line })
cleared_is plan fits link less side line = elim (cases_lt line 24) [
  | inl early_line ↦
      let first : is_between_devices line ≡ false = grind (arith, nat_tests) in
      rw first (early plan link line less early_line
      ∙ none_late (line == link) (has_hop plan link && ((line == near_hop_line link) || (line == far_hop_line link))))
  | inr late_line ↦
      let first : is_between_devices line ≡ true = grind (arith, nat_tests) in
      let own : (line == link) ≡ false = grind (arith, nat_tests) in
      let near : (line == near_hop_line link) ≡ false = grind (arith, nat_tests) in
      let far : (line == far_hop_line link) ≡ false = grind (arith, nat_tests) in
      rw (first, own, near, far) (late plan fits link line side less late_line
      ∙ none_early (has_hop plan link) (ends_at_device (slice_get plan.peers (line - 24)) link side))
]

-- ---- lines

on_no_side : (e : PortName) (line : ℕ) → is_end Host line e ≡ false → is_end Device line e ≡ false
    → (e.line == line) ≡ false
on_no_side e line host device = by e.side host device
  where
    by : (s : Side) → (is_same_side s Host && (e.line == line)) ≡ false
        → (is_same_side s Device && (e.line == line)) ≡ false → (e.line == line) ≡ false
    by Host host device = host
    by Device host device = device

any_side : (ends : List PortName) (line : ℕ) → list_any (is_end Host line) ends ≡ false
    → list_any (is_end Device line) ends ≡ false → is_line_reset ends line ≡ false
any_side [] line host device = refl
any_side (e ∷ es) line host device =
    let one = neither-true (is_end Host line e) (list_any (is_end Host line) es) host in
    let two = neither-true (is_end Device line e) (list_any (is_end Device line) es) device in
    let here = on_no_side e line one.0 two.0 in
    let rest = any_side es line one.1 two.1 in
    grind (arith, here, rest)

-- a line both of whose ends are of another link is not reset
pub line_stays : (plan : Plan) → FitsPlan plan → (link : ℕ) → link < 8 → (line : ℕ)
    → ((side : Side) → is_of_link plan link (record { side = side; line = line }) ≡ false)
    → is_line_reset (reset_ends plan link) line ≡ false
line_stays plan fits link less line none = elim (cases_lt line 24) [
  | inl early_line ↦
      let first : is_between_devices line ≡ false = grind (arith, nat_tests) in
      sym (ap (λ (b : Bool). if b then list_any (is_end Host line) (reset_ends plan link)
      else is_line_reset (reset_ends plan link) line) first)
      ∙ (cleared_is plan fits link less Host line ∙ none Host)
  | inr late_line ↦
      let first : is_between_devices line ≡ true = grind (arith, nat_tests) in
      any_side (reset_ends plan link) line (on_side first Host) (on_side first Device)
]
  where
    on_side : is_between_devices line ≡ true → (side : Side)
        → list_any (is_end side line) (reset_ends plan link) ≡ false
    on_side first side = sym (ap (λ (b : Bool). if b then list_any (is_end side line) (reset_ends plan link)
        else is_line_reset (reset_ends plan link) line) first)
        ∙ (cleared_is plan fits link less side line ∙ none side)

-- one that is cleared at an end is reset
pub line_cut : (ends : List PortName) (side : Side) (line : ℕ) → is_cleared ends side line ≡ true
    → is_line_reset ends line ≡ true
line_cut ends side line is = by (is_line_reset ends line) refl
  where
    by : (b : Bool) → is_line_reset ends line ≡ b → b ≡ true
    by true same = refl
    by false same = absurd (true≢false (sym is ∙ uncleared ends side line same))

pub own_cut : (plan : Plan) (link : ℕ) → is_line_reset (reset_ends plan link) link ≡ true
own_cut plan link = grind (arith, nat_tests)

pub hop_cut : (plan : Plan) (link : ℕ) → link < 8 → has_hop plan link ≡ true
    → (is_line_reset (reset_ends plan link) (near_hop_line link) ≡ true)
    × (is_line_reset (reset_ends plan link) (far_hop_line link) ≡ true)
hop_cut plan link less hop = (
  early plan link (near_hop_line link) less (omega arith) ∙ (rw hop (grind (arith, nat_tests))),
  early plan link (far_hop_line link) less (omega arith) ∙ (rw hop (grind (arith, nat_tests))),
)
