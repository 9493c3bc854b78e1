-- What an arrival makes of the devices' interfaces: those at the port settle by the ends of their streams as these are
-- then; at any other device they stay, and so does what it says of its streams to others.
use Rattle.join_arrivals.proofs.{◌≡◌, ℕ, suc, zero, ◌+◌, ◌-◌, ◌<◌, ◌==◌, true, false, List, [], ◌∷◌, refl, ap, sym, ◌∙◌}
use Rattle.join_arrivals.proofs.{subst, arith, nat_tests, Option, Some, None, option_map, slice_get, same_Some}
use Rattle.join_arrivals.proofs.{none-some, length, Side, Host, Device, PortName, Plan, PortEnd, LinkEnds, PairEnds}
use Rattle.join_arrivals.proofs.{EndsView, with_port, pair_port, with_pair_port, changed_at, settled_link, settled_ends}
use Rattle.join_arrivals.proofs.{peer_live, line_place, with_port_at_place, with_port_on, AreLinks, seen_same, LineIs}
use Rattle.join_arrivals.proofs.{OfLink, NearHop, FarHop, Between, line_of, port_own, near_port, far_port, between_port}
use Rattle.join_arrivals.proofs.{IsOnWay}
use Rattle.join_arrivals.specs.{LinePlace, Link, Near, Pair, KeeperView, secure_or_live, live_of, live_at_port}
use Rattle.join_arrivals.specs.{settled_by_side, way_of}
use Rattle.std.proofs.Common.{inl, inr, ⊎_elim}
use Rattle.std.specs.Prelude.{nat_lt, nat_le}
use Rattle.ide_types.specs.declared.direction.Direction.TheVariants.{Downstream, Upstream}
use Rattle.std.specs.Option.{option_and_then}
use Rattle.std.proofs.lemmas.Bool.{cases_Bool, eqb-true, lt-ltb}
use Rattle.ide_types.specs.Ports.{host_port, device_port}
use Rattle.ide_types.specs.declared.plan.PeerPlan.{PeerPlan}
use Rattle.ide_types.specs.Ends.{peer_link}
use Rattle.spec_interfaces.specs.Peers.{peer_end}
use Rattle.join_interfaces.proofs.PeerEnds.{peer_end_is}
use Rattle.spec_links.specs.Plan.{has_port}
use Rattle.spec_links.specs.Ports.{port_of}
use Rattle.interface_ends.specs.Replies.{DeviceTdis, settled_interfaces}
use Rattle.line_arrivals.specs.Follows.{IsSettledOrSame, AllFollow}
use Rattle.spec_links.specs.Hops.{entering_end}
use Rattle.ide_types.specs.declared.direction.Direction.{Direction}

-- ---- one item of a list

pub changed_other : {A : Type 0} (xs : List A) (i j : ℕ) (f : A → A) → (i ≡ j → ⊥)
    → slice_get (changed_at xs i f) j ≡ slice_get xs j
changed_other [] i j f other = refl
changed_other (x ∷ xs) zero zero f other = absurd (other refl)
changed_other (x ∷ xs) zero (suc j) f other = refl
changed_other (x ∷ xs) (suc i) zero f other = refl
changed_other (x ∷ xs) (suc i) (suc j) f other = changed_other xs i j f (λ same. other (ap suc same))

pub changed_here : {A : Type 0} (xs : List A) (i : ℕ) (f : A → A) (x y : A) → slice_get xs i ≡ Some x
    → slice_get (changed_at xs i f) i ≡ Some y → y ≡ f x
changed_here [] i f x y is at = absurd (none-some x is)
changed_here (z ∷ xs) zero f x y is at = sym (same_Some (f z) y at) ∙ ap f (same_Some z x is)
changed_here (z ∷ xs) (suc i) f x y is at = changed_here xs i f x y is at

seen_of : {A B : Type 0} (g : A → B) (o o' : Option A) (x y : A) → option_map g o' ≡ option_map g o → o ≡ Some x
    → o' ≡ Some y → g y ≡ g x
seen_of g o o' x y same is at = same_Some (g y) (g x)
    (ap (λ (p : Option _). option_map g p) (sym at) ∙ (same ∙ ap (λ (p : Option _). option_map g p) is))

not_same : (i j : ℕ) → (i == j) ≡ false → i ≡ j → ⊥
not_same i j other same = grind (arith, other, same)

-- ---- another port at an end

-- of what is seen of both ends of a line
pub put_seen : {B : Type 0} (g : LinkEnds → B) (v : EndsView) (s : Side) (place : LinePlace) (e : PortEnd) (j : ℕ)
    (l l' : LinkEnds) → ((i : ℕ) → place ≡ Link i → (x : LinkEnds) → g (with_port s e x) ≡ g x)
    → slice_get v.links j ≡ Some l → slice_get (with_port_at_place v s place e).links j ≡ Some l' → g l' ≡ g l
put_seen g v s (Link i) e j l l' same is at =
    seen_of g (slice_get v.links j) (slice_get (changed_at v.links i (with_port s e)) j) l l'
    (seen_same g v.links i j (with_port s e) (same i refl)) is at
put_seen g v s (Near i) e j l l' same is at = ap g (same_Some l' l (sym at ∙ is))
put_seen g v s (Pair i) e j l l' same is at = ap g (same_Some l' l (sym at ∙ is))

pub interfaces_put : (s : Side) (e : PortEnd) (l : LinkEnds) → (with_port s e l).device.interfaces ≡ l.device.interfaces
interfaces_put Host e l = refl
interfaces_put Device e l = refl

-- ---- what a device says of its streams to others

abbrev said_by : Side → ℕ → Option PairEnds → Option ℕ
said_by s id o = option_and_then (λ (l : PairEnds). live_at_port (pair_port s l) id) o

seen_said : (s : Side) (id : ℕ) (o : Option PairEnds) → said_by s id o
    ≡ option_and_then (λ (e : PortEnd). live_at_port e id) (option_map (λ (l : PairEnds). pair_port s l) o)
seen_said s id None = refl
seen_said s id (Some l) = refl

other_side : (s t : Side) (e : PortEnd) (l : PairEnds) → (s ≡ t → ⊥) → pair_port t (with_pair_port s e l)
    ≡ pair_port t l
other_side Host Host e l other = absurd (other refl)
other_side Host Device e l other = refl
other_side Device Host e l other = refl
other_side Device Device e l other = absurd (other refl)

-- the end of none of them is this one
said_same : (pairs : List PairEnds) (k : ℕ) (s t : Side) (e : PortEnd) (i id : ℕ) → (k ≡ i → s ≡ t → ⊥)
    → said_by t id (slice_get (changed_at pairs k (with_pair_port s e)) i) ≡ said_by t id (slice_get pairs i)
said_same pairs k s t e i id other = ⊎_elim here there (cases_Bool (k == i))
  where
    here : (k == i) ≡ true
        → said_by t id (slice_get (changed_at pairs k (with_pair_port s e)) i) ≡ said_by t id (slice_get pairs i)
    here same =
        let one : k ≡ i = eqb-true k i same in
        seen_said t id (slice_get (changed_at pairs k (with_pair_port s e)) i)
        ∙ (ap (λ (o : Option PortEnd). option_and_then (λ (p : PortEnd). live_at_port p id) o)
        (seen_same (λ (l : PairEnds). pair_port t l) pairs k i (with_pair_port s e)
        (λ l. other_side s t e l (λ sides. other one sides)))
        ∙ sym (seen_said t id (slice_get pairs i)))

    there : (k == i) ≡ false
        → said_by t id (slice_get (changed_at pairs k (with_pair_port s e)) i) ≡ said_by t id (slice_get pairs i)
    there differs = ap (λ (o : Option PairEnds). said_by t id o)
        (changed_other pairs k i (with_pair_port s e) (not_same k i differs))

-- the end is of no stream between devices at the device of this link
abbrev IsElsewhere : EndsView → Side → ℕ → ℕ → Type 0
IsElsewhere v s k link = (n : ℕ) (p : PeerPlan) → k ≡ 8 + n → slice_get v.peers n ≡ Some p → peer_link s p ≡ link → ⊥

live_same : (v : EndsView) (s : Side) (k : ℕ) (e : PortEnd) (j id : ℕ) → IsElsewhere v s k j
    → peer_live (with_port_at_place v s (Pair k) e) j id ≡ peer_live v j id
live_same v s k e j id other = by (peer_end v.peers 0 j id) refl
  where
    by : (o : Option PortName) → peer_end v.peers 0 j id ≡ o
        → option_and_then (λ x. live_of (changed_at v.pairs k (with_pair_port s e)) x id) o
        ≡ option_and_then (λ x. live_of v.pairs x id) o
    by None is = refl
    by (Some x) is =
        let r = peer_end_is v.peers 0 j id x is in
        said_same v.pairs k s x.side e (x.line - 16) id
        (λ place side. other r.number r.peer (omega (arith, place, r.line_is)) r.peer_is
        (ap (λ (t : Side). peer_link t r.peer) side ∙ r.at_link))

live_put : (v : EndsView) (s : Side) (place : LinePlace) (e : PortEnd) (j id : ℕ)
    → ((k : ℕ) → place ≡ Pair k → IsElsewhere v s k j) → peer_live (with_port_at_place v s place e) j id
    ≡ peer_live v j id
live_put v s (Link i) e j id other = refl
live_put v s (Near i) e j id other = refl
live_put v s (Pair k) e j id other = live_same v s k e j id (other k refl)

-- ---- nothing settles

-- the end is at no device's port
pub record IsAtNone (v : EndsView) (s : Side) (place : LinePlace) : Type 0 where
  pub no_device : (i : ℕ) → place ≡ Link i → s ≡ Host
  pub no_peer : (k : ℕ) → place ≡ Pair k → k < 8

device_stays : (s : Side) (e : PortEnd) (l : LinkEnds) → s ≡ Host → (with_port s e l).device ≡ l.device
device_stays Host e l is = refl
device_stays Device e l is = absurd cc

pub none_follow : (v : EndsView) (s : Side) (place : LinePlace) (e : PortEnd) → IsAtNone v s place
    → AllFollow v (with_port_at_place v s place e)
none_follow v s place e none j l l' is at = inr (
  put_seen (λ (x : LinkEnds). x.device) v s place e j l l'
      (λ i here x. device_stays s e x (none.no_device i here)) is at,
  λ id. live_put v s place e j id
      (λ k here n p more there same.
      (let less = none.no_peer k here in let never : ⊥ = omega (arith, less, more) in never)),
)

-- ---- those of one device settle

-- if the end is at a device's port, it is at that of this link
pub record IsAtDevice (v : EndsView) (s : Side) (place : LinePlace) (link : ℕ) : Type 0 where
  pub of_link : (i : ℕ) → place ≡ Link i → s ≡ Device → i ≡ link
  pub of_peer : (k n : ℕ) (p : PeerPlan) → place ≡ Pair k → k ≡ 8 + n → slice_get v.peers n ≡ Some p
      → peer_link s p ≡ link

abbrev IsSettledNow : EndsView → ℕ → LinkEnds → LinkEnds → Type 0
IsSettledNow v j l y = y.device.interfaces ≡ settled_interfaces (secure_or_live y.device.port (peer_live v j))
    l.device.interfaces

pub one_follows : (v : EndsView) (s : Side) (place : LinePlace) (e : PortEnd) (link : ℕ) → IsAtDevice v s place link
    → AllFollow v (settled_link (with_port_at_place v s place e) link)
one_follows v s place e link one j l l' is at = ⊎_elim here there (cases_Bool (link == j))
  where
    v1 : EndsView
    v1 = with_port_at_place v s place e

    same_interfaces : (x : LinkEnds) → slice_get v1.links j ≡ Some x → x.device.interfaces ≡ l.device.interfaces
    same_interfaces x at_x = put_seen (λ (y : LinkEnds). y.device.interfaces) v s place e j l x
        (λ i here y. interfaces_put s e y) is at_x

    settled : (o : Option LinkEnds) → slice_get v1.links j ≡ o → slice_get (settled_link v1 j).links j ≡ Some l'
        → IsSettledOrSame v (settled_link v1 j) j l l'
    settled None none at_j = absurd
        (none-some l' (sym (missing v1.links j (settled_ends (peer_live v1 j)) none) ∙ at_j))
      where
        missing : (xs : List LinkEnds) (i : ℕ) (f : LinkEnds → LinkEnds) → slice_get xs i ≡ None
            → slice_get (changed_at xs i f) i ≡ None
        missing [] i f none = refl
        missing (x ∷ xs) zero f none = absurd (none-some x (sym none))
        missing (x ∷ xs) (suc i) f none = missing xs i f none
    settled (Some x) at_x at_j =
        let now = changed_here v1.links j (settled_ends (peer_live v1 j)) x l' at_x at_j in
        inl (subst (λ (y : LinkEnds). IsSettledNow (settled_link v1 j) j l y) (sym now)
        (from x (same_interfaces x at_x)))
      where
        from : (y : LinkEnds) → y.device.interfaces ≡ l.device.interfaces
            → IsSettledNow (settled_link v1 j) j l (settled_ends (peer_live v1 j) y)
        from y same = ap (λ (d : DeviceTdis). settled_interfaces (secure_or_live y.device.port (peer_live v1 j)) d) same

    here : (link == j) ≡ true → IsSettledOrSame v (settled_link v1 link) j l l'
    here same =
        let one : link ≡ j = eqb-true link j same in
        subst (λ (n : ℕ). IsSettledOrSame v (settled_link v1 n) j l l') (sym one)
        (settled (slice_get v1.links j) refl
        (subst (λ (n : ℕ). slice_get (settled_link v1 n).links j ≡ Some l') one at))

    there : (link == j) ≡ false → IsSettledOrSame v (settled_link v1 link) j l l'
    there differs =
        let apart = not_same link j differs in
        let at1 : slice_get v1.links j ≡ Some l' =
        sym (changed_other v1.links link j (settled_ends (peer_live v1 link)) apart) ∙ at in
        inr (
          by_device s refl at1,
          λ id. live_put v s place e j id
              (λ k here n p more there same. apart (sym (one.of_peer k n p here more there) ∙ same)),
        )
      where
        by_device : (t : Side) → s ≡ t → slice_get v1.links j ≡ Some l' → l'.device ≡ l.device
        by_device Host host at1 = put_seen (λ (y : LinkEnds). y.device) v s place e j l l'
            (λ i here y. device_stays s e y host) is at1
        by_device Device device at1 = by_place place refl at1
          where
            by_place : (q : LinePlace) → place ≡ q → slice_get (with_port_at_place v s q e).links j ≡ Some l'
                → l'.device ≡ l.device
            by_place (Link i) q_is at1 =
                let i_is = one.of_link i q_is device in
                ap (λ (y : LinkEnds). y.device) (same_Some l' l (sym at1
                ∙ (changed_other v.links i j (with_port s e) (λ same. not_same link j differs (sym i_is ∙ same)) ∙ is)))
            by_place (Near i) q_is at1 = ap (λ (y : LinkEnds). y.device) (same_Some l' l (sym at1 ∙ is))
            by_place (Pair i) q_is at1 = ap (λ (y : LinkEnds). y.device) (same_Some l' l (sym at1 ∙ is))

-- ---- by the plan

abbrev spot : Side → ℕ → PortName
spot side line = record { side = side; line = line }

pub place_low : (line : ℕ) → line < 8 → line_place line ≡ Link line
place_low line low = let a : nat_lt line 8 ≡ true = grind (arith, nat_tests) in rw a refl

pub place_near : (i : ℕ) → i < 8 → line_place (8 + i) ≡ Near i
place_near i low =
    let a : nat_lt (8 + i) 8 ≡ false = grind (arith, nat_tests) in
    let b : nat_lt (8 + i) 16 ≡ true = grind (arith, nat_tests) in
    let back : 8 + i - 8 ≡ i = omega arith in rw (a, b, back) refl

pub place_pair : (i : ℕ) → line_place (16 + i) ≡ Pair i
place_pair i =
    let a : nat_lt (16 + i) 8 ≡ false = grind (arith, nat_tests) in
    let b : nat_lt (16 + i) 16 ≡ false = grind (arith, nat_tests) in
    let back : 16 + i - 16 ≡ i = omega arith in rw (a, b, back) refl

abbrev number_in_place : LinePlace → ℕ
number_in_place (Link i) = i
number_in_place (Near i) = i
number_in_place (Pair i) = i

number_same : (p q : LinePlace) → p ≡ q → number_in_place p ≡ number_in_place q
number_same p q is = ap number_in_place is

module _ (plan : Plan) (v : EndsView) (k : KeeperView) (links : AreLinks plan v k) where
  -- after another port was put at an end, by the line
  abbrev Follows : PortName → PortEnd → PortName → Type 0
  Follows end e port = AllFollow v (settled_by_side port (with_port_on v end e))

  settles_at : (end : PortName) (e : PortEnd) (link : ℕ) (q : LinePlace) → line_place end.line ≡ q
      → IsAtDevice v end.side q link → AllFollow v (settled_link (with_port_on v end e) link)
  settles_at end e link q is one =
      subst (λ (p : LinePlace). AllFollow v (settled_link (with_port_at_place v end.side p e) link)) (sym is)
      (one_follows v end.side q e link one)

  rests_at : (end : PortName) (e : PortEnd) (q : LinePlace) → line_place end.line ≡ q → IsAtNone v end.side q
      → AllFollow v (with_port_on v end e)
  rests_at end e q is none = subst (λ (p : LinePlace). AllFollow v (with_port_at_place v end.side p e)) (sym is)
      (none_follow v end.side q e none)

  -- ---- no switch

  at_link : (s : Side) (line : ℕ) (e : PortEnd) → line < 8 → Follows (spot s line) e (spot s line)
  at_link Host line e low =
      rests_at (spot Host line) e (Link line) (place_low line low)
      (record { no_device = λ i is. refl; no_peer = λ i is. absurd cc })
  at_link Device line e low =
      settles_at (spot Device line) e line (Link line) (place_low line low)
      (record {
        of_link = λ i is side. number_same (Link i) (Link line) (sym is);
        of_peer = λ j n p is place at. absurd
            cc;
      })

  near_host : (i : ℕ) (e : PortEnd) → i < 8 → Follows (spot Host (8 + i)) e (host_port i)
  near_host i e low =
      rests_at (spot Host (8 + i)) e (Near i) (place_near i low)
      (record { no_device = λ j is. absurd cc; no_peer = λ j is. absurd cc })

  far_device : (i : ℕ) (e : PortEnd) → i < 8 → Follows (spot Device (16 + i)) e (device_port i)
  far_device i e low =
      settles_at (spot Device (16 + i)) e i (Pair i) (place_pair i) (record {
        of_link = λ j is side. absurd cc;
        of_peer = λ j n p is place at.
            let same = number_same (Pair i) (Pair j) is in
            let never : ⊥ = omega (arith, low, place, same) in absurd never;
      })

  between_ends : (s : Side) (n : ℕ) (p : PeerPlan) (e : PortEnd) → slice_get plan.peers n ≡ Some p
      → Follows (spot s (24 + n)) e (device_port (peer_link s p))
  between_ends s n p e there =
      let at : 16 + (8 + n) ≡ 24 + n = omega arith in
      let place : line_place (24 + n) ≡ Pair (8 + n) = subst (λ (m : ℕ). line_place m ≡ Pair (8 + n)) at
      (place_pair (8 + n)) in
      settles_at (spot s (24 + n)) e (peer_link s p) (Pair (8 + n)) place (record {
        of_link = λ j is side. absurd cc;
        of_peer = λ j m q is place_is at_m.
            let same = number_same (Pair (8 + n)) (Pair j) is in
            let number : n ≡ m = omega (arith, same, place_is) in
            let one : p ≡ q = same_Some p q
            (sym there ∙ (ap (λ (ps : List PeerPlan). slice_get ps n) (sym links.peers_are)
            ∙ (ap (λ (x : ℕ). slice_get v.peers x) number ∙ at_m))) in
            ap (λ (x : PeerPlan). peer_link s x) (sym one);
      })

  pub apart_follows : (end : PortName) (e : PortEnd) → has_port plan end ≡ true → way_of end ≡ None
      → Follows end e (port_of plan end)
  apart_follows end e has none = by (line_of plan links.fits end has)
    where
      -- with this port
      moved : (s : Side) (line : ℕ) (q : PortName) → end.line ≡ line → end.side ≡ s
          → port_of plan (spot s line) ≡ q → Follows (spot s line) e q → Follows end e (port_of plan end)
      moved s line q line_is side_is port_is follows =
          subst (λ (x : PortName). Follows x e (port_of plan x))
          (λ i. record { side = sym side_is i; line = sym line_is i })
          (subst (λ (x : PortName). Follows (spot s line) e x) (sym port_is) follows)

      near : (s : Side) (i : ℕ) → end.line ≡ 8 + i → i < 8 → end.side ≡ s → Follows end e (port_of plan end)
      near Host i at low side = moved Host (8 + i) (host_port i) at side (near_port plan links.fits i low).1
          (near_host i e low)
      near Device i at low side = absurd (on_way (sym (λ j. way_of (record { side = side j; line = at j })) ∙ none))
        where
          on_way : way_of (spot Device (8 + i)) ≡ None → ⊥
          on_way is = let a : nat_lt (8 + i) 16 ≡ true = grind (arith, nat_tests) in
              let b : nat_le 8 (8 + i) ≡ true = grind (arith, nat_tests) in
              let some : way_of (spot Device (8 + i)) ≡ Some (8 + i - 8, Downstream) = rw (b, a) refl in
              none-some (8 + i - 8, Downstream) (sym is ∙ some)

      far : (s : Side) (i : ℕ) → end.line ≡ 16 + i → i < 8 → end.side ≡ s → Follows end e (port_of plan end)
      far Device i at low side = moved Device (16 + i) (device_port i) at side (far_port plan links.fits i low).1
          (far_device i e low)
      far Host i at low side = absurd (on_way (sym (λ j. way_of (record { side = side j; line = at j })) ∙ none))
        where
          on_way : way_of (spot Host (16 + i)) ≡ None → ⊥
          on_way is = let a : nat_lt (16 + i) 24 ≡ true = grind (arith, nat_tests) in
              let b : nat_le 16 (16 + i) ≡ true = grind (arith, nat_tests) in
              let some : way_of (spot Host (16 + i)) ≡ Some (16 + i - 16, Upstream) = rw (b, a) refl in
              none-some (16 + i - 16, Upstream) (sym is ∙ some)

      by : LineIs plan end.line → Follows end e (port_of plan end)
      by (OfLink less low) =
          moved end.side end.line end refl refl
          (port_own plan links.fits end (lt-ltb end.line (length plan.links) less))
          (at_link end.side end.line e low)
      by (NearHop i at low less) = near end.side i at low refl
      by (FarHop i at low less) = far end.side i at low refl
      by (Between n at) = moved end.side (24 + n) (device_port (peer_link end.side at.plan_of)) at.at refl
          (between_port plan links.fits end.side n at.plan_of at.there).1
          (between_ends end.side n at.plan_of e at.there)

  -- ---- at a switch

  near_device : (i : ℕ) (e : PortEnd) → i < 8 → AllFollow v (with_port_on v (spot Device (8 + i)) e)
  near_device i e low =
      rests_at (spot Device (8 + i)) e (Near i) (place_near i low)
      (record { no_device = λ j is. absurd cc; no_peer = λ j is. absurd cc })

  far_host : (i : ℕ) (e : PortEnd) → i < 8 → AllFollow v (with_port_on v (spot Host (16 + i)) e)
  far_host i e low =
      rests_at (spot Host (16 + i)) e (Pair i) (place_pair i) (record {
        no_device = λ j is. absurd cc;
        no_peer = λ j is. (let same = number_same (Pair i) (Pair j) is in omega (arith, low, same));
      })

  pub way_follows : (end : PortName) (e : PortEnd) (link : ℕ) (d : Direction) → IsOnWay plan links.fits end link d
      → AllFollow v (with_port_on v end e)
  way_follows end e link d at = by d at.end_is
    where
      low : link < 8
      low = (let less = at.less in let most = links.fits.links_most in omega (arith, less, most))

      by : (way : Direction) → end ≡ entering_end link way → AllFollow v (with_port_on v end e)
      by Downstream is = subst (λ (x : PortName). AllFollow v (with_port_on v x e)) (sym is) (near_device link e low)
      by Upstream is = subst (λ (x : PortName). AllFollow v (with_port_on v x e)) (sym is) (far_host link e low)
