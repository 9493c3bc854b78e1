-- What resets of links and operations on streams make of devices' interfaces: they settle by the ends of the device's
-- streams as these are afterwards, or stay.
use Rattle.all_links.proofs.Terms.{◌≡◌, ℕ, suc, zero, ◌+◌, ◌-◌, ◌==◌, ◌<◌, ◌≤◌, Bool, true, false, List, [], ◌∷◌}
use Rattle.all_links.proofs.Terms.{length, refl, ap, sym, ◌∙◌, subst, arith, nat_tests, Option, Some, None, option_map}
use Rattle.all_links.proofs.Terms.{map, option_and_then, slice_get, slice_set, none-some, same_Some, slice_get_within}
use Rattle.all_links.proofs.Terms.{IsSome, if◌then◌else◌, nat_lt, LinkEnds, EndsView, PortName, Side, Host, Device}
use Rattle.all_links.proofs.Terms.{port_on, peer_live, KeeperView, OperatesAt, port_in}
use Rattle.std.proofs.Common.{inl, inr, ◌||◌}
use Rattle.std.proofs.lemmas.Bool.{eqb-true}
use Rattle.ide_types.specs.Ends.{peer_link}
use Rattle.ide_types.specs.declared.plan.PeerPlan.{PeerPlan}
use Rattle.ide_types.specs.Ports.{host_port}
unfoldable use Rattle.spec_interfaces.specs.Peers.{peer_end}
use Rattle.line_arrivals.proofs.{peer_end_is, each_set, seen_same}
use Rattle.script_events.specs.declared.event.Loss.{Loss}
use Rattle.line_arrivals.specs.{PairEnds, secure_or_live, OperatesByPlace, OperatesOnLink, OperatesOnPair, line_place}
use Rattle.line_arrivals.specs.{changed_at, port_at_place, live_of, live_at_port, pair_port, settled_ends, settled_link}
use Rattle.line_arrivals.specs.{settled_first_links, settled_peer, cleared_place, cleared_ends, cleared_on, all_cleared}
use Rattle.line_arrivals.specs.{unlocked_ends, unlocked_link, reset_all, LinePlace, Link, Near, Pair}
use Rattle.interface_state.specs.Machine.{DeviceTdi, StreamLeft, interface_after_call, bound_link_stream, after_failure}
use Rattle.interface_state.specs.Machine.{bindings_left}
use Rattle.ide_types.specs.declared.binding.Binding.{Binding}
use Rattle.interface_state.specs.declared.states.TdiState.{TdiState}
use Rattle.interface_state.specs.declared.states.TdiState.TheVariants.{ConfigUnlocked, ConfigLocked, Run, Error}
use Rattle.interface_ends.specs.Replies.{DeviceTdis, settled_interface, settled_interfaces, is_left, any_left}
use Rattle.key_host.specs.declared.operation.NamedOperation.{NamedOperation as OpCall}
use Rattle.key_host.specs.declared.operation.StreamOutcome.{StreamOutcome}
use Rattle.line_arrivals.specs.Follows.{IsSettledOrSame, AllFollow}
use Rattle.line_arrivals.proofs.Follows.{changed_other}
use Rattle.all_links.specs.BesideAfter.{reset_if}

-- ---- lists

some_seen : {A B : Type 0} (g : A → B) (o : Option A) (y : B) → option_map g o ≡ Some y
    → (x : A) × (o ≡ Some x) × (g x ≡ y)
some_seen g None y is = absurd (none-some y is)
some_seen g (Some x) y is = (x, refl, same_Some (g x) y is)

mapped_there : {A B : Type 0} (g : A → B) (o : Option A) → IsSome (option_map g o) → (x : A) × (o ≡ Some x)
mapped_there g None is = absurd cc
mapped_there g (Some x) is = (x, refl)

-- each item, if one is changed
changed_same : {A : Type 0} (xs : List A) (i : ℕ) (f : A → A) (x : A) → slice_get xs i ≡ Some x
    → slice_get (changed_at xs i f) i ≡ Some (f x)
changed_same [] i f x is = absurd (none-some x is)
changed_same (z ∷ xs) zero f x is = ap (λ (y : _). Some (f y)) (same_Some z x is)
changed_same (z ∷ xs) (suc i) f x is = changed_same xs i f x is

changed_if : {A : Type 0} (xs : List A) (k i : ℕ) (f : A → A) (x : A) → slice_get xs i ≡ Some x
    → slice_get (changed_at xs k f) i ≡ Some (if i == k then f x else x)
changed_if xs k i f x is = by (i == k) refl
  where
    by : (b : Bool) → (i == k) ≡ b → slice_get (changed_at xs k f) i ≡ Some (if b then f x else x)
    by true same = subst (λ (n : ℕ). slice_get (changed_at xs n f) i ≡ Some (f x)) (eqb-true i k same)
        (changed_same xs i f x is)
    by false other = changed_other xs k i f (λ same. apart same other) ∙ is
      where
        apart : k ≡ i → (i == k) ≡ false → ⊥
        apart same other = grind (arith, same, other)

changed_past : {A : Type 0} (xs : List A) (k i : ℕ) (f : A → A) → k < i
    → slice_get (changed_at xs k f) i ≡ slice_get xs i
changed_past [] k i f lt = refl
changed_past (z ∷ xs) zero zero f lt = absurd (omega (arith, lt))
changed_past (z ∷ xs) zero (suc i) f lt = refl
changed_past (z ∷ xs) (suc k) zero f lt = refl
changed_past (z ∷ xs) (suc k) (suc i) f lt = changed_past xs k i f (omega (arith, lt))

set_other : {A : Type 0} (xs : List A) (i j : ℕ) (y : A) → (i ≡ j → ⊥) → slice_get (slice_set xs i y) j ≡ slice_get xs j
set_other [] i j y other = refl
set_other (x ∷ xs) zero zero y other = absurd (other refl)
set_other (x ∷ xs) zero (suc j) y other = refl
set_other (x ∷ xs) (suc i) zero y other = refl
set_other (x ∷ xs) (suc i) (suc j) y other = set_other xs i j y (λ same. other (ap suc same))

-- ---- interfaces that settled settle no more

failed_twice : (s : TdiState) → after_failure (after_failure s) ≡ after_failure s
failed_twice ConfigUnlocked = refl
failed_twice (ConfigLocked lock nonce) = refl
failed_twice (Run lock) = refl
failed_twice Error = refl

bindings_twice : (s : TdiState) (bs : List Binding) → bindings_left (after_failure s) (after_failure (after_failure s))
    (bindings_left s (after_failure s) bs) ≡ bindings_left s (after_failure s) bs
bindings_twice ConfigUnlocked bs = refl
bindings_twice (ConfigLocked lock nonce) bs = refl
bindings_twice (Run lock) bs = refl
bindings_twice Error bs = refl

left_twice : (t : DeviceTdi) → interface_after_call (interface_after_call t StreamLeft) StreamLeft
    ≡ interface_after_call t StreamLeft
left_twice t = λ i. record {
  plan = t.plan;
  registers = t.registers;
  state = failed_twice t.state i;
  bindings = bindings_twice t.state t.bindings i;
}

interface_twice : (f : ℕ → Bool) (t : DeviceTdi) → settled_interface f (settled_interface f t) ≡ settled_interface f t
interface_twice f t = by (is_left f (bound_link_stream t.state) || any_left f t.bindings) refl
  where
    again : (b : Bool) → (if b then interface_after_call (interface_after_call t StreamLeft) StreamLeft else
        interface_after_call t StreamLeft) ≡ interface_after_call t StreamLeft
    again true = left_twice t
    again false = refl

    by : (b : Bool) → (is_left f (bound_link_stream t.state) || any_left f t.bindings) ≡ b
        → settled_interface f (if b then interface_after_call t StreamLeft else t)
        ≡ (if b then interface_after_call t StreamLeft else t)
    by true is = let u : DeviceTdi = interface_after_call t StreamLeft in
        again (is_left f (bound_link_stream u.state) || any_left f u.bindings)
    by false is = ap (λ (b : Bool). if b then interface_after_call t StreamLeft else t) is

each_twice : (f : ℕ → Bool) (ts : List DeviceTdi) → map (settled_interface f) (map (settled_interface f) ts)
    ≡ map (settled_interface f) ts
each_twice f [] = refl
each_twice f (t ∷ ts) = λ i. interface_twice f t i ∷ each_twice f ts i

settled_twice : (f : ℕ → Bool) (d : DeviceTdis) → settled_interfaces f (settled_interfaces f d) ≡ settled_interfaces f d
settled_twice f d = ap (λ (ts : List DeviceTdi). record d { interfaces = ts }) (each_twice f d.interfaces)

-- ---- a reset

all_below : (n : ℕ) (v : EndsView) (i id : ℕ) → peer_live (settled_first_links n v) i id ≡ peer_live v i id
all_below zero v i id = refl
all_below (suc n) v i id = all_below n v i id

live_below : (n : ℕ) (v : EndsView) (i : ℕ) → peer_live (settled_first_links n v) i ≡ peer_live v i
live_below n v i = λ j id. all_below n v i id j

past_below : (n : ℕ) (v : EndsView) (i : ℕ) → n ≤ i → slice_get (settled_first_links n v).links i ≡ slice_get v.links i
past_below zero v i le = refl
past_below (suc n) v i le =
    changed_past (settled_first_links n v).links n i (settled_ends (peer_live (settled_first_links n v) n))
    (omega (arith, le))
    ∙ past_below n v i (omega (arith, le))

is_below : (n : ℕ) (v : EndsView) (i : ℕ) (x : LinkEnds) → i < n → slice_get v.links i ≡ Some x
    → slice_get (settled_first_links n v).links i ≡ Some (settled_ends (peer_live v i) x)
is_below zero v i x lt is = absurd (omega (arith, lt))
is_below (suc n) v i x lt is = by (i == n) refl (is_below n v i x)
  where
    w : EndsView
    w = settled_first_links n v

    by : (b : Bool) → (i == n) ≡ b
        → (i < n → slice_get v.links i ≡ Some x → slice_get w.links i ≡ Some (settled_ends (peer_live v i) x))
        → slice_get (settled_link w n).links i ≡ Some (settled_ends (peer_live v i) x)
    by true same below =
        let one : i ≡ n = eqb-true i n same in
        let there = past_below n v i (omega (arith, one)) ∙ is in
        changed_if w.links n i (settled_ends (peer_live w n)) x there
        ∙ (λ j. Some (if same j then settled_ends (live_below n v (sym one j) j) x else x))
    by false other below =
        let there = below (grind (arith, nat_tests, lt, other)) is in
        changed_if w.links n i (settled_ends (peer_live w n)) (settled_ends (peer_live v i) x) there
        ∙ (λ j. Some (if other j then settled_ends (peer_live w n) (settled_ends (peer_live v i) x)
        else settled_ends (peer_live v i) x))

abbrev interfaces_of : LinkEnds → DeviceTdis
interfaces_of l = l.device.interfaces

one_cleared : (v : EndsView) (s : Side) (place : LinePlace) (i : ℕ)
    → option_map interfaces_of (slice_get (cleared_place s place v).links i)
    ≡ option_map interfaces_of (slice_get v.links i)
one_cleared v s (Link k) i = seen_same interfaces_of v.links k i cleared_ends (λ x. refl)
one_cleared v s (Near k) i = refl
one_cleared v s (Pair k) i = refl

each_cleared : (es : List PortName) (v : EndsView) (i : ℕ)
    → option_map interfaces_of (slice_get (all_cleared v es).links i) ≡ option_map interfaces_of (slice_get v.links i)
each_cleared [] v i = refl
each_cleared (e ∷ es) v i = each_cleared es (cleared_on v e) i ∙ one_cleared v e.side (line_place e.line) i

unlocked_as : (b : Bool) (x : LinkEnds)
    → (if b then unlocked_ends x else x).device.interfaces ≡ reset_if b x.device.interfaces
unlocked_as true x = refl
unlocked_as false x = refl

pub reset_device : (old : EndsView) (link : ℕ) (es : List PortName) (i : ℕ) (l l' : LinkEnds)
    → slice_get old.links i ≡ Some l → slice_get (reset_all link es old).links i ≡ Some l'
    → l'.device.interfaces ≡ settled_interfaces (secure_or_live l'.device.port (peer_live (reset_all link es old) i))
    (reset_if (i == link) l.device.interfaces)
reset_device old link es i l l' at at' =
    subst IsSo (sym is) (λ j. settled_interfaces (secure_or_live y.device.port (live j)) (interfaces j))
  where
    c : EndsView
    c = all_cleared old es

    u : EndsView
    u = unlocked_link c link

    new : EndsView
    new = reset_all link es old

    x : (z : LinkEnds) × (slice_get c.links i ≡ Some z) × (z.device.interfaces ≡ l.device.interfaces)
    x = some_seen interfaces_of (slice_get c.links i) l.device.interfaces
        (each_cleared es old i ∙ ap (λ (o : Option LinkEnds). option_map interfaces_of o) at)

    y : LinkEnds
    y = if i == link then unlocked_ends x.0 else x.0

    there : slice_get u.links i ≡ Some y
    there = changed_if c.links link i unlocked_ends x.0 x.1

    is : l' ≡ settled_ends (peer_live u i) y
    is = same_Some l' (settled_ends (peer_live u i) y)
        (sym at' ∙ is_below (length u.links) u i y (slice_get_within u.links i y there) there)

    live : peer_live u i ≡ peer_live new i
    live = sym (live_below (length u.links) u i)

    interfaces : y.device.interfaces ≡ reset_if (i == link) l.device.interfaces
    interfaces = unlocked_as (i == link) x.0 ∙ ap (λ (d : DeviceTdis). reset_if (i == link) d) x.2

    IsSo : LinkEnds → Type 0
    IsSo z = z.device.interfaces ≡ settled_interfaces (secure_or_live z.device.port (peer_live new i))
        (reset_if (i == link) l.device.interfaces)

-- ---- nothing changes

pub all_same : (old new : EndsView) → new ≡ old → AllFollow old new
all_same old new is j l l' at at' = inr (
  ap (λ (y : LinkEnds). y.device) (same_Some l' l (sym at' ∙ ap (λ (v : EndsView). slice_get v.links j) is ∙ at)),
  λ id. ap (λ (v : EndsView). peer_live v j id) is,
)

-- ---- operations

-- what a device says of its streams to others, if another pair of ends changes
other_says : (v : EndsView) (k : ℕ) (y : PairEnds) (j id : ℕ)
    → ((n : ℕ) (p : PeerPlan) (s : Side) → k ≡ 8 + n → slice_get v.peers n ≡ Some p → peer_link s p ≡ j → ⊥)
    → peer_live (record v { pairs = slice_set v.pairs k y }) j id ≡ peer_live v j id
other_says v k y j id other = by (peer_end v.peers 0 j id) refl
  where
    by : (o : Option PortName) → peer_end v.peers 0 j id ≡ o
        → option_and_then (λ (x : PortName). live_of (slice_set v.pairs k y) x id) o
        ≡ option_and_then (λ (x : PortName). live_of v.pairs x id) o
    by None is = refl
    by (Some x) is =
        let r = peer_end_is v.peers 0 j id x is in
        ap (λ (o : Option PairEnds). option_and_then (λ (l : PairEnds). live_at_port (pair_port x.side l) id) o)
        (set_other v.pairs k (x.line - 16) y
        (λ same. other r.number r.peer x.side (let line = r.line_is in omega (arith, same, line)) r.peer_is r.at_link))

abbrev settled_if : Bool → (ℕ → Option ℕ) → LinkEnds → LinkEnds
settled_if b live l = if b then settled_ends live l else l

abbrev IsSettledBy : (ℕ → Option ℕ) → LinkEnds → LinkEnds → Type 0
IsSettledBy live l z = z.device.interfaces ≡ settled_interfaces (secure_or_live z.device.port live) l.device.interfaces

settled_once : (a b : Bool) (live : ℕ → Option ℕ) (l : LinkEnds) → (a || b) ≡ true
    → IsSettledBy live l (settled_if b live (settled_if a live l))
settled_once true true live l is = settled_twice (secure_or_live l.device.port live) l.device.interfaces
settled_once true false live l is = refl
settled_once false true live l is = refl
settled_once false false live l is = absurd cc

-- both devices of a stream between them settle
both_settle : (v : EndsView) (k n : ℕ) (y : PairEnds) (p : PeerPlan) → k ≡ 8 + n → slice_get v.peers n ≡ Some p
    → AllFollow v (settled_peer (Some p) (record v { pairs = slice_set v.pairs k y }))
both_settle v k n y p k_is p_is j l l' at at' = by (j == p.near) (j == p.far) refl refl
  where
    u : EndsView
    u = record v { pairs = slice_set v.pairs k y }

    near : Bool
    near = j == p.near

    far : Bool
    far = j == p.far

    -- either is the device, whose streams to others are then asked about
    as_near : (b : Bool) → near ≡ b → (x : LinkEnds)
        → settled_if b (peer_live u p.near) x ≡ settled_if b (peer_live u j) x
    as_near true same x = ap (λ (i : ℕ). settled_ends (peer_live u i) x) (sym (eqb-true j p.near same))
    as_near false other x = refl

    as_far : (b : Bool) → far ≡ b → (x : LinkEnds) → settled_if b (peer_live u p.far) x ≡ settled_if b (peer_live u j) x
    as_far true same x = ap (λ (i : ℕ). settled_ends (peer_live u i) x) (sym (eqb-true j p.far same))
    as_far false other x = refl

    first : slice_get (settled_link u p.near).links j ≡ Some (settled_if near (peer_live u p.near) l)
    first = changed_if v.links p.near j (settled_ends (peer_live u p.near)) l at

    both : slice_get (settled_peer (Some p) u).links j
        ≡ Some (settled_if far (peer_live u p.far) (settled_if near (peer_live u p.near) l))
    both = changed_if (settled_link u p.near).links p.far j (settled_ends (peer_live u p.far))
        (settled_if near (peer_live u p.near) l) first

    is : l' ≡ settled_if far (peer_live u j) (settled_if near (peer_live u j) l)
    is = same_Some l' (settled_if far (peer_live u p.far) (settled_if near (peer_live u p.near) l)) (sym at' ∙ both)
        ∙ as_far far refl (settled_if near (peer_live u p.near) l)
        ∙ ap (λ (x : LinkEnds). settled_if far (peer_live u j) x) (as_near near refl l)

    settles : (a b : Bool) → near ≡ a → far ≡ b → (a || b) ≡ true → IsSettledBy (peer_live u j) l l'
    settles a b a_is b_is some = subst (λ (x : LinkEnds). IsSettledBy (peer_live u j) l x)
        (sym (is ∙ (λ i. settled_if (b_is i) (peer_live u j) (settled_if (a_is i) (peer_live u j) l))))
        (settled_once a b (peer_live u j) l some)

    apart : near ≡ false → far ≡ false → (m : ℕ) (q : PeerPlan) (s : Side) → k ≡ 8 + m → slice_get v.peers m ≡ Some q
        → peer_link s q ≡ j → ⊥
    apart not_near not_far m q s k_too q_is here =
        let number : n ≡ m = omega (arith, k_is, k_too) in
        let same : p ≡ q = same_Some p q (sym p_is ∙ (ap (λ (i : ℕ). slice_get v.peers i) number ∙ q_is)) in
        neither s (ap (λ (r : PeerPlan). peer_link s r) same ∙ here)
      where
        neither : (t : Side) → peer_link t p ≡ j → ⊥
        neither Host one = grind (arith, nat_tests, not_near, one)
        neither Device one = grind (arith, nat_tests, not_far, one)

    by : (a b : Bool) → near ≡ a → far ≡ b → IsSettledOrSame v (settled_peer (Some p) u) j l l'
    by true b a_is b_is = inl (settles true b a_is b_is refl)
    by false true a_is b_is = inl (settles false true a_is b_is refl)
    by false false a_is b_is = inr (
      ap (λ (x : LinkEnds). x.device)
          (is ∙ (λ i. settled_if (b_is i) (peer_live u j) (settled_if (a_is i) (peer_live u j) l))),
      λ id. other_says v k y j id (apart a_is b_is),
    )

module _ (old : EndsView) (k : KeeperView) (c : OpCall) (loss : Option Loss) (outcome : StreamOutcome) (ends : EndsView)
    (k' : KeeperView) where
  on_link : (i : ℕ) (l : LinkEnds) → slice_get old.links i ≡ Some l
      → OperatesOnLink old i k c loss outcome ends k' l → AllFollow old ends
  on_link i l is x = subst (λ (v : EndsView). AllFollow old v) (sym x.new_is)
      (λ j u w at_u at_w. each_set (λ n z. (y : LinkEnds) → slice_get old.links n ≡ Some y
      → IsSettledOrSame old new n y z) old.links i x.ends
      (λ y at. subst (λ (z : LinkEnds). IsSettledOrSame old new i z x.ends) (same_Some l y (sym is ∙ at))
      (inl x.settles))
      (λ n z at_z y at. inr (ap (λ (d : LinkEnds). d.device) (same_Some z y (sym at_z ∙ at)), λ id. refl))
      j w at_w u at_u)
    where
      new : EndsView
      new = record old { links = slice_set old.links i x.ends }

  on_pair : (i : ℕ) (l : PairEnds) → OperatesOnPair old i k c loss outcome ends k' l → AllFollow old ends
  on_pair i l x = subst (λ (v : EndsView). AllFollow old v) (sym x.new_is) (by (nat_lt i 8) refl)
    where
      u : EndsView
      u = record old { pairs = slice_set old.pairs i x.ends }

      stays : ((n : ℕ) (p : PeerPlan) → i ≡ 8 + n → slice_get old.peers n ≡ Some p → ⊥) → AllFollow old u
      stays none j l l' at at' = inr (
        ap (λ (y : LinkEnds). y.device) (same_Some l' l (sym at' ∙ at)),
        λ id. other_says old i x.ends j id (λ n p s i_is p_is here. none n p i_is p_is),
      )

      joined : (o : Option PeerPlan) → slice_get old.peers (i - 8) ≡ o → 8 ≤ i → AllFollow old (settled_peer o u)
      joined None is most = stays (λ n p i_is p_is.
          let number : i - 8 ≡ n = omega (arith, i_is) in
          none-some p (sym is ∙ (ap (λ (m : ℕ). slice_get old.peers m) number ∙ p_is)))
      joined (Some p) is most = both_settle old i (i - 8) x.ends p (omega (arith, most)) is

      by : (b : Bool) → nat_lt i 8 ≡ b → AllFollow old (if b then u else settled_peer (slice_get old.peers (i - 8)) u)
      by true low = stays (λ n p i_is p_is.
          (let less : i < 8 = grind (arith, nat_tests, low) in omega (arith, less, i_is)))
      by false late = joined (slice_get old.peers (i - 8)) refl (grind (arith, nat_tests, late))

  at_place : (place : LinePlace) → IsSome (port_at_place old Host place)
      → OperatesByPlace old place k c loss outcome ends k' → AllFollow old ends
  at_place (Link i) here operates =
      let f = mapped_there (λ (l : LinkEnds). port_in Host l) (slice_get old.links i) here in
      on_link i f.0 f.1 (operates f.0 f.1)
  at_place (Near i) here operates =
      let f = mapped_there (λ (l : LinkEnds). port_in Host l) (slice_get old.near i) here in
      let x = operates f.0 f.1 in
      subst (λ (v : EndsView). AllFollow old v) (sym x.new_is)
      (λ j l l' at at'. inr (ap (λ (y : LinkEnds). y.device) (same_Some l' l (sym at' ∙ at)), λ id. refl))
  at_place (Pair i) here operates =
      let f = mapped_there (λ (l : PairEnds). pair_port Host l) (slice_get old.pairs i) here in
      on_pair i f.0 (operates f.0 f.1)

  pub operated_follow : (line : ℕ) → IsSome (port_on old (host_port line))
      → OperatesAt old line k c loss outcome ends k' → AllFollow old ends
  operated_follow line here operates = at_place (line_place line) here operates
