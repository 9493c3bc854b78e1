-- The rules over several values of a topology, in their order.
use Rattle.std.specs.Prelude.{◌+◌, ◌%◌, ◌==◌, ◌&&◌, ◌||◌, ℕ, ℤ, pos, negsuc, nat_le, nat_lt, Bool, true, false, not}
use Rattle.std.specs.Prelude.{List, [], ◌∷◌, length, take, find, slice_get, Option, Some, None, Result, Ok, Err}
use Rattle.std.specs.Prelude.{if◌then◌else◌, codes, sum_by}
use Rattle.std.specs.List.{list_any, position_from}
use Rattle.std.specs.Str.{bytes_eq}
use Rattle.ide_types.specs.declared.stream.StreamPlan.{StreamPlan}
use Rattle.ide_types.specs.Plans.{interface_limit, same_id, both_default, share_class, is_selective, overlap}
use Rattle.ide_types.specs.Plans.{has_stream_id, lists_class}
use Rattle.ide_types.specs.declared.plan.PeerPlan.{PeerPlan}
use Rattle.toml_walk.specs.declared.fault.PlanFault.{PlanFault}
use Rattle.toml_walk.specs.declared.fault.KeyFault.TheVariants.{Missing, Range, Repeated, Limit}
use Rattle.toml_walk.specs.Fault.{◌>>=◌, refused}
use Rattle.toml_walk.specs.Paths.{Path, Key, Place}
use Rattle.topology.specs.declared.draft.InterfaceDraft.{InterfaceDraft}
use Rattle.topology.specs.declared.draft.LinkDraft.{LinkDraft}
use Rattle.topology.specs.declared.draft.PlanDraft.{PlanDraft}

-- the pair of a place and a later one if there is a later one, else a later pair
abbrev pub pair_or_next : ℕ → Option ℕ → Option (ℕ × ℕ) → Option (ℕ × ℕ)
pair_or_next i (Some j) later = Some (i, j)
pair_or_next i None later = later

-- the least pair of places of elements that clash, the first place first; places count from i on
abbrev pub pair_from : {A : Type 0} → (A → A → Bool) → ℕ → List A → Option (ℕ × ℕ)
pair_from clash i [] = None
pair_from clash i (x ∷ xs) = pair_or_next i (position_from (clash x) (i + 1) xs) (pair_from clash (i + 1) xs)

abbrev pub refused_pair : Path → Option (ℕ × ℕ) → Result (Unit {0}) PlanFault
refused_pair path None = Ok tt
refused_pair path (Some p) = Err (refused path (Repeated p.0 p.1))

-- no two elements of the list at the path clash
abbrev pub no_clash : {A : Type 0} → Path → (A → A → Bool) → List A → Result (Unit {0}) PlanFault
no_clash path clash xs = refused_pair path (pair_from clash 0 xs)

-- the total is at most the limit
abbrev pub at_most : ℕ → Path → ℕ → Result (Unit {0}) PlanFault
at_most limit path total = if nat_le total limit then Ok tt else Err (refused path Limit)

abbrev pub in_sixes : List (List ℕ) → Result (Unit {0}) PlanFault
in_sixes pool = if length pool % 6 == 0 then Ok tt else Err
    (refused (Key (codes "pool") ∷ []) (Range (pos (length pool))))

abbrev pub same_requester : InterfaceDraft → InterfaceDraft → Bool
same_requester i j = i.interface.requester == j.interface.requester

abbrev pub is_id : ℤ → ℕ → Bool
is_id (pos n) id = n == id
is_id (negsuc n) id = false

-- the number is the ID of a selective stream
abbrev pub is_bound : List StreamPlan → ℤ → Bool
is_bound streams z = list_any (λ s. is_selective s.selector && is_id z s.id) streams

-- each interface from place i on is bound to a selective stream of its link
abbrev pub each_bound : Path → List StreamPlan → ℕ → List InterfaceDraft → Result (Unit {0}) PlanFault
each_bound path streams i [] = Ok tt
each_bound path streams i (x ∷ xs) =
    if is_bound streams x.stream then each_bound path streams (i + 1) xs
    else Err (refused (Key (codes "stream") ∷ Place i ∷ path) (Range x.stream))

-- the rules of one link
unfoldable pub link_rules : Path → LinkDraft → Result (Unit {0}) PlanFault
link_rules path l = do
  _ ← no_clash (Key (codes "stream") ∷ path) same_id l.streams
  _ ← no_clash (Key (codes "stream") ∷ path) both_default l.streams
  _ ← no_clash (Key (codes "stream") ∷ path) share_class l.streams
  _ ← no_clash (Key (codes "interface") ∷ path) same_requester l.interfaces
  each_bound (Key (codes "interface") ∷ path) l.streams 0 l.interfaces

-- the rules of each link from place i on
abbrev pub each_link : ℕ → List LinkDraft → Result (Unit {0}) PlanFault
each_link i [] = Ok tt
each_link i (l ∷ ls) = do
  _ ← link_rules (Place i ∷ Key (codes "link") ∷ []) l
  each_link (i + 1) ls

abbrev pub interface_count : List LinkDraft → ℕ
interface_count links = sum_by (λ l. length l.interfaces) links

-- ---- streams between devices, and hops

-- the number at the path may be there
abbrev pub allowed_or_range : Path → ℕ → Bool → Result (Unit {0}) PlanFault
allowed_or_range path n true = Ok tt
allowed_or_range path n false = Err (refused path (Range (pos n)))

abbrev pub draft_streams : Option LinkDraft → List StreamPlan
draft_streams None = []
draft_streams (Some l) = l.streams

-- a stream of the link has the ID
abbrev pub link_has : List LinkDraft → ℕ → ℕ → Bool
link_has links link id = has_stream_id (draft_streams (slice_get links link)) id

-- a stream of either link, or an earlier stream between devices, has its ID
abbrev pub is_id_taken : List LinkDraft → List PeerPlan → PeerPlan → Bool
is_id_taken links earlier p =
    (link_has links p.near p.id || link_has links p.far p.id) || list_any (λ q. q.id == p.id) earlier

-- both links are there, and are two, and the ID is new
unfoldable pub peer_rules : Path → List LinkDraft → List PeerPlan → PeerPlan → Result (Unit {0}) PlanFault
peer_rules path links earlier p = do
  _ ← allowed_or_range (Key (codes "a") ∷ path) p.near (nat_lt p.near (length links))
  _ ← allowed_or_range (Key (codes "b") ∷ path) p.far (nat_lt p.far (length links) && not (p.far == p.near))
  allowed_or_range (Key (codes "id") ∷ path) p.id (not (is_id_taken links earlier p))

-- the rules of each of all from place i on
abbrev pub each_peer : List LinkDraft → List PeerPlan → ℕ → List PeerPlan → Result (Unit {0}) PlanFault
each_peer links all i [] = Ok tt
each_peer links all i (p ∷ ps) = do
  _ ← peer_rules (Place i ∷ Key (codes "p2p") ∷ []) links (take i all) p
  each_peer links all (i + 1) ps

-- the stream has the ID, and ends at the device of the link
abbrev pub is_peer_with_id : ℕ → ℕ → PeerPlan → Bool
is_peer_with_id link id p = p.id == id && (p.near == link || p.far == link)

-- a stream of the link, or one between devices that ends there, has the ID
abbrev pub is_hop_taken : List PeerPlan → ℕ → List StreamPlan → ℕ → Bool
is_hop_taken peers link streams id = has_stream_id streams id || list_any (is_peer_with_id link id) peers

abbrev pub refused_class : Path → Option ℕ → Result (Unit {0}) PlanFault
refused_class path None = Ok tt
refused_class path (Some c) = Err (refused path (Range (pos c)))

-- no class is one that a stream of the link lists: the first of them is refused
abbrev pub classes_apart : Path → List StreamPlan → Option (List ℕ) → Result (Unit {0}) PlanFault
classes_apart path streams None = Ok tt
classes_apart path streams (Some classes) = refused_class path (find (lists_class streams) classes)

abbrev pub hop_rules_of_fields : Path → List PeerPlan → ℕ → List StreamPlan → Option ℕ → Option (List ℕ)
    → Result (Unit {0}) PlanFault
hop_rules_of_fields path peers link streams None None = Ok tt
hop_rules_of_fields path peers link streams None (Some classes) = Err (refused (Key (codes "hop") ∷ path) Missing)
hop_rules_of_fields path peers link streams (Some id) classes = do
  _ ← allowed_or_range (Key (codes "hop") ∷ path) id (not (is_hop_taken peers link streams id))
  classes_apart (Key (codes "hop_tcs") ∷ path) streams classes

-- the hop of a link: classes do not stand alone, the ID is new, and no class is one of a stream's
unfoldable pub hop_rules : Path → List PeerPlan → ℕ → LinkDraft → Result (Unit {0}) PlanFault
hop_rules path peers link l = hop_rules_of_fields path peers link l.streams l.hop l.hop_classes

-- the hops of each link from place i on
abbrev pub each_hop : List PeerPlan → ℕ → List LinkDraft → Result (Unit {0}) PlanFault
each_hop peers i [] = Ok tt
each_hop peers i (l ∷ ls) = do
  _ ← hop_rules (Place i ∷ Key (codes "link") ∷ []) peers i l
  each_hop peers (i + 1) ls

unfoldable pub rules : PlanDraft → Result (Unit {0}) PlanFault
rules d = do
  _ ← in_sixes d.pool
  _ ← no_clash (Key (codes "pool") ∷ []) bytes_eq d.pool
  _ ← each_link 0 d.links
  _ ← at_most (interface_limit d.version) (Key (codes "interface") ∷ []) (interface_count d.links)
  _ ← at_most 16777216 (Key (codes "memory") ∷ []) (sum_by (λ r. r.size) d.memory)
  _ ← no_clash (Key (codes "memory") ∷ []) overlap d.memory
  _ ← each_peer d.links d.peers 0 d.peers
  each_hop d.peers 0 d.links
