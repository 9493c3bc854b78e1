-- What becomes of what stands at the links: one link changes, and no other (`turn_at`); one event after another.
use Rattle.std.proofs.Common.{Bool, List, [], ap, arith, false, refl, subst, suc, sym, true, zero, ℕ, ◌==◌}
use Rattle.std.proofs.Common.{◌∙◌, ◌∷◌, ◌≡◌, ◌+◌}
use Rattle.std.proofs.lemmas.Bool.Decides.{nat_tests}
use Rattle.std.proofs.lemmas.List.{length-set}
use Rattle.std.specs.Prelude.{Option, Some, ◌&&◌, nat_lt, if◌then◌else◌, slice_get, slice_set}
use Rattle.std.specs.Option.{option_map_or}
use Rattle.spec_keys.proofs.Tests.{same-true, true-same}
use Rattle.ide_types.specs.declared.direction.Direction.{Direction}
use Rattle.ide_types.specs.declared.direction.Direction.TheVariants.{Downstream, Upstream}
use Rattle.ide_types.specs.declared.port.PortName.{PortName}
use Rattle.guarded_memory.specs.Happenings.{Happened, newest_happened}
use Rattle.guarded_memory.specs.Contents.{MmioLeads, mmio_byte}
use Rattle.hop_queues.specs.declared.queue.HopTlp.{HopTlp}
use Rattle.hop_queues.specs.declared.queues.HopQueues.{HopQueues}
use Rattle.hop_queues.specs.{queue_of}
use Rattle.trusted_memory.specs.declared.queue.WaitingRead.{WaitingRead}
use Rattle.law_reads.specs.{clears_hop}
use Rattle.link_stores.specs.Accesses.{other_reads, reads_on, without_tlps}
use Rattle.machine_ports.specs.Machine.{port_at}
use Rattle.ide_types.specs.declared.port.Side.{Side}
use Rattle.ide_types.specs.declared.port.Side.TheVariants.{Host, Device}
use Rattle.link_stores.specs.declared.link.LinkAccesses.{LinkAccesses}
use Rattle.join_ends.specs.Turns.{AccessesStay, AccessesTurn, AreLeftBy, carried_on_link, floors_at, hops_cleared}
use Rattle.join_ends.specs.Turns.{mmio_at, nothing_happens, reads_at, same_carried, same_floors, same_reads, sizes_at}

-- ---- one link changes

-- what becomes of it
pub record TurnsHere (reads : Side → List WaitingRead → List WaitingRead) (floors : List ℕ → List ℕ)
    (hs : List (Option Happened)) (carried : Direction → List HopTlp → List HopTlp) (a a' : LinkAccesses) :
    Type 0 where
  pub reads_are : (side : Side) → reads_on side a' ≡ reads side (reads_on side a)
  pub floors_are : a'.floors ≡ floors a.floors
  pub sizes_are : a'.guarded.sizes ≡ a.guarded.sizes
  pub leads : MmioLeads a.guarded hs a'.guarded
  pub carried_are : (d : Direction) → (queue_of a'.carried d).tlps ≡ carried d (queue_of a.carried d).tlps

-- of this other link nothing is said
pub record RestsAt (reads : PortName → List WaitingRead → List WaitingRead) (floors : ℕ → List ℕ → List ℕ)
    (happening : ℕ → List (Option Happened)) (carried : ℕ → Direction → List HopTlp → List HopTlp) (k : ℕ) :
    Type 0 where
  pub reads_rest : (side : Side) (ws : List WaitingRead) → reads (port_at side k) ws ≡ ws
  pub floors_rest : (ns : List ℕ) → floors k ns ≡ ns
  pub nothing : (older : List Happened) → newest_happened (happening k) older ≡ older
  pub carried_rest : (d : Direction) (ts : List HopTlp) → carried k d ts ≡ ts

-- those that wait at both ports stay
pub reads_same : (side : Side) (a a' : LinkAccesses) → a'.host_reads ≡ a.host_reads
    → a'.device_reads ≡ a.device_reads → reads_on side a' ≡ reads_on side a
reads_same Host a a' host device = host
reads_same Device a a' host device = device

pub others_same : (side : Side) (a a' : LinkAccesses) → a'.host_reads ≡ a.host_reads
    → a'.device_reads ≡ a.device_reads → other_reads side a' ≡ other_reads side a
others_same Host a a' host device = device
others_same Device a a' host device = host

not_same : (i k : ℕ) → (i == k) ≡ false → i ≡ k → ⊥
not_same i k other same = let no : true ≡ false = sym (same-true i) ∙ ap (λ (n : ℕ). i == n) same ∙ other in absurd cc

pub get_other : {A : Type 0} (xs : List A) (i k : ℕ) (y : A) → (i ≡ k → ⊥) → slice_get (slice_set xs i y) k
    ≡ slice_get xs k
get_other [] i k y other = refl
get_other (x ∷ xs) zero zero y other = absurd (other refl)
get_other (x ∷ xs) zero (suc k) y other = refl
get_other (x ∷ xs) (suc i) zero y other = refl
get_other (x ∷ xs) (suc i) (suc k) y other = get_other xs i k y (λ same. other (ap suc same))

set_here : {A : Type 0} (xs : List A) (i : ℕ) (x y : A) → slice_get xs i ≡ Some x → slice_get (slice_set xs i y) i
    ≡ Some y
set_here [] i x y is = absurd cc
set_here (z ∷ zs) zero x y is = refl
set_here (z ∷ zs) (suc i) x y is = set_here zs i x y is

abbrev bytes_in : Option LinkAccesses → ℕ → ℕ → ℕ → ℕ
bytes_in o = option_map_or (λ (x : LinkAccesses). mmio_byte x.guarded) o (λ i b offset. 0)

abbrev tlps_in : Direction → Option LinkAccesses → List HopTlp
tlps_in d o = option_map_or (λ (x : LinkAccesses). (queue_of x.carried d).tlps) o []

module _ (reads : PortName → List WaitingRead → List WaitingRead) (floors : ℕ → List ℕ → List ℕ)
    (happening : ℕ → List (Option Happened)) (carried : ℕ → Direction → List HopTlp → List HopTlp)
    (xs : List LinkAccesses) (link : ℕ) (a a' : LinkAccesses) (is : slice_get xs link ≡ Some a)
    (here : TurnsHere (λ side. reads (port_at side link)) (floors link) (happening link) (carried link) a a')
    (rests : (k : ℕ) → (link == k) ≡ false → RestsAt reads floors happening carried k) where
  abbrev changed : List LinkAccesses
  changed = slice_set xs link a'

  record AtLink (k : ℕ) : Type 0 where
    reads_are : (side : Side) → reads_at changed (port_at side k)
        ≡ reads (port_at side k) (reads_at xs (port_at side k))
    floors_are : floors_at changed k ≡ floors k (floors_at xs k)
    sizes_are : sizes_at changed k ≡ sizes_at xs k
    bytes_are : (older : List Happened) → AreLeftBy (mmio_at xs k) older
        → AreLeftBy (mmio_at changed k) (newest_happened (happening k) older)
    carried_are : (d : Direction) → carried_on_link changed k d ≡ carried k d (carried_on_link xs k d)

  at_this : AtLink link
  at_this =
      let after : slice_get changed link ≡ Some a' = set_here xs link a a' is in
      record {
        reads_are = λ side. ap (λ (o : Option LinkAccesses). option_map_or (reads_on side) o []) after
            ∙ here.reads_are side
            ∙ ap (λ (o : Option LinkAccesses). reads (port_at side link) (option_map_or (reads_on side) o []))
            (sym is);
        floors_are = ap (λ (o : Option LinkAccesses). option_map_or (λ (x : LinkAccesses). x.floors) o []) after
            ∙ here.floors_are
            ∙ ap (λ (o : Option LinkAccesses). floors link (option_map_or (λ (x : LinkAccesses). x.floors) o []))
            (sym is);
        sizes_are = ap (λ (o : Option LinkAccesses). option_map_or (λ (x : LinkAccesses). x.guarded.sizes) o []) after
            ∙ here.sizes_are
            ∙ ap (λ (o : Option LinkAccesses). option_map_or (λ (x : LinkAccesses). x.guarded.sizes) o []) (sym is);
        bytes_are = λ older left.
            subst (λ (o : Option LinkAccesses). AreLeftBy (bytes_in o) (newest_happened (happening link) older))
            (sym after)
            (here.leads older (subst (λ (o : Option LinkAccesses). AreLeftBy (bytes_in o) older) is left));
        carried_are = λ d. ap (tlps_in d) after ∙ here.carried_are d
            ∙ ap (λ (o : Option LinkAccesses). carried link d (tlps_in d o)) (sym is);
      }

  at_other : (k : ℕ) → (link == k) ≡ false → AtLink k
  at_other k other =
      let same : slice_get changed k ≡ slice_get xs k = get_other xs link k a' (not_same link k other) in
      let r = rests k other in
      record {
        reads_are = λ side. ap (λ (o : Option LinkAccesses). option_map_or (reads_on side) o []) same
            ∙ sym (r.reads_rest side _);
        floors_are = ap (λ (o : Option LinkAccesses). option_map_or (λ (x : LinkAccesses). x.floors) o []) same
            ∙ sym (r.floors_rest _);
        sizes_are = ap (λ (o : Option LinkAccesses). option_map_or (λ (x : LinkAccesses). x.guarded.sizes) o []) same;
        bytes_are = λ older left.
            subst (λ (o : Option LinkAccesses). AreLeftBy (bytes_in o) (newest_happened (happening k) older))
            (sym same)
            (subst (λ (hs : List Happened). AreLeftBy (mmio_at xs k) hs) (sym (r.nothing older)) left);
        carried_are = λ d. ap (tlps_in d) same ∙ sym (r.carried_rest d _);
      }

  at_any : (k : ℕ) (b : Bool) → (link == k) ≡ b → AtLink k
  at_any k false other = at_other k other
  at_any k true same =
      let k_is : link ≡ k = true-same link k same in
      subst (λ (n : ℕ). AtLink n) k_is at_this

  pub turn_at : AccessesTurn reads floors happening carried xs (slice_set xs link a')
  turn_at = record {
    many = length-set xs link a';
    reads = λ p. (at_any p.line (link == p.line) refl).reads_are p.side;
    floors = λ k. (at_any k (link == k) refl).floors_are;
    sizes = λ k. (at_any k (link == k) refl).sizes_are;
    bytes = λ k. (at_any k (link == k) refl).bytes_are;
    carried = λ k. (at_any k (link == k) refl).carried_are;
  }

-- ---- no link changes

pub rests_all : (reads : PortName → List WaitingRead → List WaitingRead) (floors : ℕ → List ℕ → List ℕ)
    (happening : ℕ → List (Option Happened)) (carried : ℕ → Direction → List HopTlp → List HopTlp)
    (xs : List LinkAccesses)
    → ((k : ℕ) → RestsAt reads floors happening carried k) → AccessesTurn reads floors happening carried xs xs
rests_all reads floors happening carried xs rests = record {
  many = refl;
  reads = λ p. sym ((rests p.line).reads_rest p.side _);
  floors = λ k. sym ((rests k).floors_rest _);
  sizes = λ k. refl;
  bytes = λ k older left.
      subst (λ (hs : List Happened). AreLeftBy (mmio_at xs k) hs) (sym ((rests k).nothing older)) left;
  carried = λ k d. sym ((rests k).carried_rest d _);
}

pub stays_all : (xs : List LinkAccesses) → AccessesStay xs xs
stays_all xs = rests_all same_reads same_floors nothing_happens same_carried xs (λ k. record {
  reads_rest = λ side ws. refl;
  floors_rest = λ ns. refl;
  nothing = λ older. refl;
  carried_rest = λ d ts. refl;
})

-- ---- one after another

module _ {reads : PortName → List WaitingRead → List WaitingRead} {floors : ℕ → List ℕ → List ℕ}
    {happening : ℕ → List (Option Happened)} {carried : ℕ → Direction → List HopTlp → List HopTlp}
    {xs ys : List LinkAccesses} (first : AccessesTurn reads floors happening carried xs ys) where
  -- TLPs at switches alone turn then
  pub turn_then : (later : ℕ → Direction → List HopTlp → List HopTlp) (zs : List LinkAccesses)
      → AccessesTurn same_reads same_floors nothing_happens later ys zs
      → AccessesTurn reads floors happening (λ k d ts. later k d (carried k d ts)) xs zs
  turn_then later zs second = record {
    many = second.many ∙ first.many;
    reads = λ p. second.reads p ∙ first.reads p;
    floors = λ k. second.floors k ∙ first.floors k;
    sizes = λ k. second.sizes k ∙ first.sizes k;
    bytes = λ k older left. second.bytes k (newest_happened (happening k) older) (first.bytes k older left);
    carried = λ k d. second.carried k d ∙ ap (later k d) (first.carried k d);
  }

  -- said otherwise of them
  pub turns_as : (other : ℕ → Direction → List HopTlp → List HopTlp)
      → ((k : ℕ) (d : Direction) (ts : List HopTlp) → carried k d ts ≡ other k d ts)
      → AccessesTurn reads floors happening other xs ys
  turns_as other same = record {
    many = first.many;
    reads = first.reads;
    floors = first.floors;
    sizes = first.sizes;
    bytes = first.bytes;
    carried = λ k d. first.carried k d ∙ same k d (carried_on_link xs k d);
  }

-- ---- the hops of links are cleared, one after another

pub set_twice : {A : Type 0} (xs : List A) (i : ℕ) (x y : A) → slice_set (slice_set xs i x) i y ≡ slice_set xs i y
set_twice [] i x y = refl
set_twice (z ∷ zs) zero x y = refl
set_twice (z ∷ zs) (suc i) x y = ap (λ (ws : List _). z ∷ ws) (set_twice zs i x y)

none_left : (d : Direction) (q : HopQueues) → (queue_of (without_tlps q) d).tlps ≡ []
none_left Downstream q = refl
none_left Upstream q = refl

-- that of one link
abbrev cleared_here : ℕ → ℕ → Direction → List HopTlp → List HopTlp
cleared_here link k d ts = if link == k then [] else ts

clears_here : (xs : List LinkAccesses) (link : ℕ) (a : LinkAccesses) → slice_get xs link ≡ Some a
    → AccessesTurn same_reads same_floors nothing_happens (cleared_here link) xs
    (slice_set xs link (record a { carried = without_tlps a.carried }))
clears_here xs link a is =
    turn_at same_reads same_floors nothing_happens (cleared_here link) xs link a
    (record a { carried = without_tlps a.carried }) is
    (record {
      reads_are = λ side. reads_same side a (record a { carried = without_tlps a.carried }) refl refl;
      floors_are = refl;
      sizes_are = refl;
      leads = λ older left. left;
      carried_are = λ d. none_left d a.carried
          ∙ sym (ap (λ (b : Bool). if b then [] else (queue_of a.carried d).tlps) (same-true link));
    })
    (λ k other. record {
      reads_rest = λ side ws. refl;
      floors_rest = λ ns. refl;
      nothing = λ older. refl;
      carried_rest = λ d ts. ap (λ (b : Bool). if b then [] else ts) other;
    })

one_more : (ends : List PortName) (link k : ℕ) (ts : List HopTlp) → clears_hop ends link ≡ true
    → (if link == k then [] else (if nat_lt k link && clears_hop ends k then [] else ts))
    ≡ (if nat_lt k (link + 1) && clears_hop ends k then [] else ts)
one_more ends link k ts clears = by (link == k) refl
  where
    by : (b : Bool) → (link == k) ≡ b → (if b then [] else (if nat_lt k link && clears_hop ends k then [] else ts))
        ≡ (if nat_lt k (link + 1) && clears_hop ends k then [] else ts)
    by true is =
        let there : nat_lt k (link + 1) ≡ true = grind (arith, nat_tests) in
        let same : link ≡ k = true-same link k is in
        let cut : clears_hop ends k ≡ true = subst (λ (n : ℕ). clears_hop ends n ≡ true) same clears in
        rw (there, cut) refl
    by false is =
        let there : nat_lt k (link + 1) ≡ nat_lt k link = grind (arith, nat_tests) in
        rw there refl

none_more : (ends : List PortName) (link k : ℕ) (ts : List HopTlp) → clears_hop ends link ≡ false
    → (if nat_lt k link && clears_hop ends k then [] else ts)
    ≡ (if nat_lt k (link + 1) && clears_hop ends k then [] else ts)
none_more ends link k ts stays = by (link == k) refl
  where
    by : (b : Bool) → (link == k) ≡ b → (if nat_lt k link && clears_hop ends k then [] else ts)
        ≡ (if nat_lt k (link + 1) && clears_hop ends k then [] else ts)
    by true is =
        let before : nat_lt k link ≡ false = grind (arith, nat_tests) in
        let after : nat_lt k (link + 1) ≡ true = grind (arith, nat_tests) in
        let same : link ≡ k = true-same link k is in
        let kept : clears_hop ends k ≡ false = subst (λ (n : ℕ). clears_hop ends n ≡ false) same stays in
        rw (before, after, kept) refl
    by false is =
        let there : nat_lt k (link + 1) ≡ nat_lt k link = grind (arith, nat_tests) in
        rw there refl

pub clears_next : (ends : List PortName) (xs ys : List LinkAccesses) (link : ℕ) (a : LinkAccesses)
    → AccessesTurn same_reads same_floors nothing_happens (hops_cleared ends link) xs ys → clears_hop ends link ≡ true
    → slice_get ys link ≡ Some a → AccessesTurn same_reads same_floors nothing_happens (hops_cleared ends (link + 1)) xs
    (slice_set ys link (record a { carried = without_tlps a.carried }))
clears_next ends xs ys link a turn clears is =
    turns_as (turn_then turn (cleared_here link) _ (clears_here ys link a is)) (hops_cleared ends (link + 1))
    (λ k d ts. one_more ends link k ts clears)

pub keeps_next : (ends : List PortName) (xs ys : List LinkAccesses) (link : ℕ)
    → AccessesTurn same_reads same_floors nothing_happens (hops_cleared ends link) xs ys → clears_hop ends link ≡ false
    → AccessesTurn same_reads same_floors nothing_happens (hops_cleared ends (link + 1)) xs ys
keeps_next ends xs ys link turn stays = turns_as turn (hops_cleared ends (link + 1))
    (λ k d ts. none_more ends link k ts stays)
