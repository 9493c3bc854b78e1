-- What the rules over several values say of a topology that meets them.
use Rattle.std.proofs.Common.{◌≡◌, ap, refl, subst, ℕ, zero, suc, ◌+◌, ◌%◌, ◌<◌, ◌≤◌, ◌==◌, ◌&&◌, ◌||◌, nat_le, nat_lt}
use Rattle.std.proofs.Common.{not, List, [], ◌∷◌, map, length, take, Bool, true, false, Option, Some, None}
use Rattle.std.proofs.Common.{Result, Ok, Err, cond, arith, codes}
use Rattle.std.specs.Prelude.{sum_by, slice_get}
use Rattle.std.specs.List.{All, AllPairs, list_any, position_from}
use Rattle.std.specs.Str.{bytes_eq}
use Rattle.std.proofs.lemmas.Bool.{leb-true, ltb-true, eqb-true, and_parts}
use Rattle.std.proofs.lemmas.List.Elements.{All-nil, All-cons}
use Rattle.std.proofs.lemmas.List.Kept.{AllPairs-cons}
use Rattle.ide_types.specs.declared.stream.StreamPlan.{StreamPlan}
use Rattle.ide_types.specs.Plans.{interface_limit, same_id, both_default, share_class, overlap, has_stream_id}
use Rattle.ide_types.specs.declared.plan.PeerPlan.{PeerPlan}
use Rattle.toml_walk.specs.declared.fault.PlanFault.{PlanFault}
use Rattle.toml_walk.specs.Fault.{◌>>=◌}
use Rattle.toml_walk.specs.Paths.{Path, Key, Place}
use Rattle.topology.specs.declared.draft.InterfaceDraft.{InterfaceDraft}
use Rattle.topology.specs.declared.draft.LinkDraft.{LinkDraft}
use Rattle.topology.specs.declared.draft.PlanDraft.{PlanDraft}
use Rattle.topology.specs.Rules.{pair_or_next, pair_from, refused_pair, no_clash, at_most, in_sixes, same_requester}
use Rattle.topology.specs.Rules.{is_bound, each_bound, link_rules, each_link, interface_count, allowed_or_range}
use Rattle.topology.specs.Rules.{link_has, peer_rules, each_peer, is_peer_with_id, is_hop_taken, classes_apart}
use Rattle.topology.specs.Rules.{hop_rules_of_fields, hop_rules, each_hop, rules}

-- both steps gave a value
pub steps : {B : Type 0} (r : Result (Unit {0}) PlanFault) (f : Unit {0} → Result B PlanFault) (y : B) → (r >>= f)
    ≡ Ok y → (r ≡ Ok tt) × (f tt ≡ Ok y)
steps (Ok u) f y e = (refl, e)
steps (Err g) f y e = cc

tested : {B : Type 0} (b : Bool) (r : Result B PlanFault) (f : PlanFault) (y : B) → cond b r (Err f) ≡ Ok y → (b ≡ true)
    × (r ≡ Ok y)
tested true r f y e = (refl, e)
tested false r f y e = cc

no_later : (i : ℕ) (o : Option ℕ) (later : Option (ℕ × ℕ)) → pair_or_next i o later ≡ None → (o ≡ None) × (later ≡ None)
no_later i None later e = (refl, e)
no_later i (Some j) later e = cc

module _ {A B : Type 0} (clash : A → A → Bool) (R : B → B → Type 0) (f : A → B)
    (sound : (a b : A) → clash a b ≡ false → R (f a) (f b)) where
  apart_step : (x y : A) (i : ℕ) (ys : List A) (b : Bool) → clash x y ≡ b
      → cond b (Some i) (position_from (clash x) (i + 1) ys) ≡ None
      → (position_from (clash x) (i + 1) ys ≡ None → All (R (f x)) (map f ys)) → All (R (f x)) (map f (y ∷ ys))
  apart_step x y i ys true h e later = cc
  apart_step x y i ys false h e later = All-cons (R (f x)) (f y) (map f ys) (sound x y h) (later e)

  apart_from : (x : A) (i : ℕ) (ys : List A) → position_from (clash x) i ys ≡ None → All (R (f x)) (map f ys)
  apart_from x i [] e = All-nil (R (f x))
  apart_from x i (y ∷ ys) e = apart_step x y i ys (clash x y) refl e (apart_from x (i + 1) ys)

  apart : (i : ℕ) (xs : List A) → pair_from clash i xs ≡ None → AllPairs R (map f xs)
  apart i [] e = λ i j d below lt. absurd (omega arith)
  apart i (x ∷ xs) e =
      let p = no_later i (position_from (clash x) (i + 1) xs) (pair_from clash (i + 1) xs) e in
      AllPairs-cons R (f x) (map f xs) (apart_from x (i + 1) xs p.0) (apart (i + 1) xs p.1)

no_pair : (path : Path) (o : Option (ℕ × ℕ)) → refused_pair path o ≡ Ok tt → o ≡ None
no_pair path None e = refl
no_pair path (Some p) e = cc

map_itself : {A : Type 0} (xs : List A) → map (λ x. x) xs ≡ xs
map_itself [] = refl
map_itself {A} (x ∷ xs) = ap (λ (ys : List A). x ∷ ys) (map_itself xs)

-- no two elements clash
pub clash_free : {A : Type 0} (path : Path) (clash : A → A → Bool) (xs : List A) → no_clash path clash xs ≡ Ok tt
    → AllPairs (λ a b. clash a b ≡ false) xs
clash_free path clash xs e = rw (map_itself xs) at
    (apart clash (λ a b. clash a b ≡ false) (λ x. x) (λ a b h. h) 0 xs (no_pair path (pair_from clash 0 xs) e))

-- nor do what they are mapped to
pub clash_free_map : {A B : Type 0} (path : Path) (clash : A → A → Bool) (R : B → B → Type 0) (f : A → B) (xs : List A)
    → ((a b : A) → clash a b ≡ false → R (f a) (f b)) → no_clash path clash xs ≡ Ok tt → AllPairs R (map f xs)
clash_free_map path clash R f xs sound e = apart clash R f sound 0 xs (no_pair path (pair_from clash 0 xs) e)

pub at_most_is : (limit : ℕ) (path : Path) (total : ℕ) → at_most limit path total ≡ Ok tt → total ≤ limit
at_most_is limit path total e = leb-true total limit (tested (nat_le total limit) (Ok tt) _ tt e).0

pub sixes : (pool : List (List ℕ)) → in_sixes pool ≡ Ok tt → length pool % 6 ≡ 0
sixes pool e = eqb-true _ _ (tested (length pool % 6 == 0) (Ok tt) _ tt e).0

pub all_bound : (path : Path) (streams : List StreamPlan) (i : ℕ) (xs : List InterfaceDraft)
    → each_bound path streams i xs ≡ Ok tt → All (λ x. is_bound streams x.stream ≡ true) xs
all_bound path streams i [] e = All-nil (λ x. is_bound streams x.stream ≡ true)
all_bound path streams i (x ∷ xs) e =
    let t = tested (is_bound streams x.stream) (each_bound path streams (i + 1) xs) _ tt e in
    All-cons (λ y. is_bound streams y.stream ≡ true) x xs t.0 (all_bound path streams (i + 1) xs t.1)

-- the rules of one link
pub record LinkRuled (l : LinkDraft) : Type 0 where
  pub path : Path
  pub ids : no_clash (Key (codes "stream") ∷ path) same_id l.streams ≡ Ok tt
  pub defaults : no_clash (Key (codes "stream") ∷ path) both_default l.streams ≡ Ok tt
  pub classes : no_clash (Key (codes "stream") ∷ path) share_class l.streams ≡ Ok tt
  pub requesters : no_clash (Key (codes "interface") ∷ path) same_requester l.interfaces ≡ Ok tt
  pub bound : All (λ x. is_bound l.streams x.stream ≡ true) l.interfaces

link_ruled : (path : Path) (l : LinkDraft) → link_rules path l ≡ Ok tt → LinkRuled l
unfolding link_rules
link_ruled path l e =
    let a = steps (no_clash (Key (codes "stream") ∷ path) same_id l.streams) _ tt e in
    let b = steps (no_clash (Key (codes "stream") ∷ path) both_default l.streams) _ tt a.1 in
    let c = steps (no_clash (Key (codes "stream") ∷ path) share_class l.streams) _ tt b.1 in
    let d = steps (no_clash (Key (codes "interface") ∷ path) same_requester l.interfaces) _ tt c.1 in
    record {
      path = path;
      ids = a.0;
      defaults = b.0;
      classes = c.0;
      requesters = d.0;
      bound = all_bound
          (Key (codes "interface") ∷ path) l.streams 0 l.interfaces d.1;
    }

links_ruled : (i : ℕ) (ls : List LinkDraft) → each_link i ls ≡ Ok tt → All LinkRuled ls
links_ruled i [] e = All-nil LinkRuled
links_ruled i (l ∷ ls) e =
    let s = steps (link_rules (Place i ∷ Key (codes "link") ∷ []) l) (λ _. each_link (i + 1) ls) tt e in
    All-cons LinkRuled l ls (link_ruled (Place i ∷ Key (codes "link") ∷ []) l s.0) (links_ruled (i + 1) ls s.1)

-- ---- streams between devices, and hops

pub allowed_is : (path : Path) (n : ℕ) (b : Bool) → allowed_or_range path n b ≡ Ok tt → b ≡ true
allowed_is path n true e = refl
allowed_is path n false e = cc

not_true : (b : Bool) → not b ≡ true → b ≡ false
not_true false e = refl
not_true true e = cc

pub or_parts : (a b : Bool) → (a || b) ≡ false → (a ≡ false) × (b ≡ false)
or_parts true b e = cc
or_parts false b e = (refl, e)

-- a stream between devices that meets its rules, behind these
pub record PeerRuled (links : List LinkDraft) (earlier : List PeerPlan) (p : PeerPlan) : Type 0 where
  pub near : p.near < length links
  pub far : p.far < length links
  pub apart : (p.far == p.near) ≡ false
  pub near_new : link_has links p.near p.id ≡ false
  pub far_new : link_has links p.far p.id ≡ false
  pub id_new : list_any (λ q. q.id == p.id) earlier ≡ false

peer_ruled : (path : Path) (links : List LinkDraft) (earlier : List PeerPlan) (p : PeerPlan)
    → peer_rules path links earlier p ≡ Ok tt → PeerRuled links earlier p
unfolding peer_rules
peer_ruled path links earlier p e =
    let a = steps (allowed_or_range (Key (codes "a") ∷ path) p.near (nat_lt p.near (length links))) _ tt e in
    let b = steps (allowed_or_range (Key (codes "b") ∷ path) p.far
    (nat_lt p.far (length links) && not (p.far == p.near))) _
    tt a.1
    in
    let near = allowed_is (Key (codes "a") ∷ path) p.near _ a.0 in
    let far = and_parts _ _ (allowed_is (Key (codes "b") ∷ path) p.far _ b.0) in
    let taken = or_parts _ _ (not_true _ (allowed_is (Key (codes "id") ∷ path) p.id _ b.1)) in
    let links_new = or_parts _ _ taken.0 in
    record {
      near = ltb-true p.near (length links) near;
      far = ltb-true p.far (length links) far.0;
      apart = not_true _ far.1;
      near_new = links_new.0;
      far_new = links_new.1;
      id_new = taken.1;
    }

-- each at its place
pub peers_ruled : (links : List LinkDraft) (all : List PeerPlan) (i : ℕ) (ps : List PeerPlan) → each_peer links all i ps
    ≡ Ok tt → (k m : ℕ) (p : PeerPlan) → m ≡ i + k → slice_get ps k ≡ Some p → PeerRuled links (take m all) p
peers_ruled links all i [] e zero m p at is = absurd cc
peers_ruled links all i [] e (suc k) m p at is = absurd cc
peers_ruled links all i (q ∷ ps) e zero m p at is =
    let s = steps (peer_rules (Place i ∷ Key (codes "p2p") ∷ []) links (take i all) q)
    (λ _. each_peer links all (i + 1) ps) tt e
    in
    let same : q ≡ p = cc in
    let number : i ≡ m = omega (arith, at) in
    subst (λ n. PeerRuled links (take n all) p) number
    (subst (PeerRuled links (take i all)) same (peer_ruled (Place i ∷ Key (codes "p2p") ∷ []) links (take i all) q s.0))
peers_ruled links all i (q ∷ ps) e (suc k) m p at is =
    let s = steps (peer_rules (Place i ∷ Key (codes "p2p") ∷ []) links (take i all) q)
    (λ _. each_peer links all (i + 1) ps) tt e
    in
    peers_ruled links all (i + 1) ps s.1 k m p (omega (arith, at)) is

-- a hop that meets its rules, on this link
pub record HopRuled (peers : List PeerPlan) (link : ℕ) (streams : List StreamPlan) (id : ℕ)
    (classes : Option (List ℕ)) : Type 0 where
  pub path : Path
  pub id_new : has_stream_id streams id ≡ false
  pub peers_new : list_any (is_peer_with_id link id) peers ≡ false
  pub apart : classes_apart path streams classes ≡ Ok tt

abbrev pub HopIsRuled : List PeerPlan → ℕ → LinkDraft → Type 0
HopIsRuled peers link l = (id : ℕ) → l.hop ≡ Some id → HopRuled peers link l.streams id l.hop_classes

hop_ruled : (path : Path) (peers : List PeerPlan) (link : ℕ) (l : LinkDraft) → hop_rules path peers link l ≡ Ok tt
    → HopIsRuled peers link l
unfolding hop_rules
hop_ruled path peers link l e id is =
    let ruled : hop_rules_of_fields path peers link l.streams (Some id) l.hop_classes
    ≡ Ok tt = subst (λ o. hop_rules_of_fields path peers link l.streams o l.hop_classes ≡ Ok tt) is e in
    let a = steps (allowed_or_range (Key (codes "hop") ∷ path) id (not (is_hop_taken peers link l.streams id))) _ tt
    ruled
    in
    let new = or_parts _ _ (not_true _ (allowed_is (Key (codes "hop") ∷ path) id _ a.0)) in
    record { path = Key (codes "hop_tcs") ∷ path; id_new = new.0; peers_new = new.1; apart = a.1 }

pub hops_ruled : (peers : List PeerPlan) (i : ℕ) (ls : List LinkDraft) → each_hop peers i ls ≡ Ok tt → (k m : ℕ)
    (l : LinkDraft) → m ≡ i + k → slice_get ls k ≡ Some l → HopIsRuled peers m l
hops_ruled peers i [] e zero m l at is = absurd cc
hops_ruled peers i [] e (suc k) m l at is = absurd cc
hops_ruled peers i (x ∷ ls) e zero m l at is =
    let s = steps (hop_rules (Place i ∷ Key (codes "link") ∷ []) peers i x) (λ _. each_hop peers (i + 1) ls) tt e in
    let same : x ≡ l = cc in
    let number : i ≡ m = omega (arith, at) in
    subst (λ n. HopIsRuled peers n l) number
    (subst (HopIsRuled peers i) same (hop_ruled (Place i ∷ Key (codes "link") ∷ []) peers i x s.0))
hops_ruled peers i (x ∷ ls) e (suc k) m l at is =
    let s = steps (hop_rules (Place i ∷ Key (codes "link") ∷ []) peers i x) (λ _. each_hop peers (i + 1) ls) tt e in
    hops_ruled peers (i + 1) ls s.1 k m l (omega (arith, at)) is

pub record Ruled (d : PlanDraft) : Type 0 where
  pub pool_sixes : length d.pool % 6 ≡ 0
  pub pool : no_clash (Key (codes "pool") ∷ []) bytes_eq d.pool ≡ Ok tt
  pub each_link : All LinkRuled d.links
  pub interfaces : interface_count d.links ≤ interface_limit d.version
  pub memory : sum_by (λ r. r.size) d.memory ≤ 16777216
  pub regions : no_clash (Key (codes "memory") ∷ []) overlap d.memory ≡ Ok tt
  pub peers : each_peer d.links d.peers 0 d.peers ≡ Ok tt
  pub hops : each_hop d.peers 0 d.links ≡ Ok tt

-- the rules gave no fault, so each of them, in its turn, gave none
pub ruled : (d : PlanDraft) → rules d ≡ Ok tt → Ruled d
unfolding rules
ruled d e =
    let a = steps (in_sixes d.pool) _ tt e in
    let b = steps (no_clash (Key (codes "pool") ∷ []) bytes_eq d.pool) _ tt a.1 in
    let c = steps (each_link 0 d.links) _ tt b.1 in
    let f = steps (at_most (interface_limit d.version) (Key (codes "interface") ∷ []) (interface_count d.links)) _ tt
    c.1 in
    let g = steps (at_most 16777216 (Key (codes "memory") ∷ []) (sum_by (λ r. r.size) d.memory)) _ tt f.1 in
    let h = steps (no_clash (Key (codes "memory") ∷ []) overlap d.memory) _ tt g.1 in
    let i = steps (each_peer d.links d.peers 0 d.peers) _ tt h.1 in
    record {
      pool_sixes = sixes d.pool a.0;
      pool = b.0;
      each_link = links_ruled 0 d.links c.0;
      interfaces = at_most_is (interface_limit d.version) (Key (codes "interface") ∷ []) _ f.0;
      memory = at_most_is 16777216 (Key (codes "memory") ∷ []) _ g.0;
      regions = h.0;
      peers = i.0;
      hops = i.1;
    }
