-- The bounds and rules that every plan meets.
use Rattle.std.specs.Prelude.{ℕ, ◌≡◌, ◌≢◌, ◌+◌, ◌^◌, ◌%◌, ◌<◌, ◌≤◌, ◌==◌, ◌||◌, Bool, true, false, List, length}
use Rattle.std.specs.Prelude.{Option, Some, None, All, AllPairs, sum_by}
use Rattle.ide_types.specs.declared.stream.IdRange.{IdRange}
use Rattle.ide_types.specs.declared.stream.AddressRange.{AddressRange}
use Rattle.ide_types.specs.declared.stream.Selector.{Selector}
use Rattle.ide_types.specs.declared.stream.Selector.TheVariants.{Selective, Link}
use Rattle.ide_types.specs.declared.stream.StreamPlan.{StreamPlan}
use Rattle.ide_types.specs.declared.interface.InterfacePlan.{InterfacePlan}
use Rattle.ide_types.specs.declared.interface.BarPlan.{BarPlan}
use Rattle.ide_types.specs.declared.plan.HopPlan.{HopPlan}
use Rattle.ide_types.specs.declared.plan.PeerPlan.{PeerPlan}
use Rattle.ide_types.specs.declared.plan.Region.{Region}
use Rattle.ide_types.specs.declared.plan.LinkPlan.{LinkPlan}
use Rattle.ide_types.specs.declared.plan.Plan.{Plan}
use Rattle.ide_types.specs.Plans.{interface_limit, both_default, share_class, has_selective, overlap, lists_class}
use Rattle.ide_types.specs.Plans.{has_stream_id, links_have_id}

abbrev pub AreBytes : List ℕ → Type 0
AreBytes bytes = All (λ b. b < 256) bytes

-- 32 bytes
abbrev pub IsKey : List ℕ → Type 0
IsKey key = (length key ≡ 32) × AreBytes key

-- from the base to the limit
abbrev pub FitsIds : Option IdRange → Type 0
FitsIds None = Unit {0}
FitsIds (Some ids) = (ids.base ≤ ids.limit) × (ids.limit ≤ 65535)

-- whole blocks of 2^20 bytes
pub record FitsAddresses (r : AddressRange) : Type 0 where
  pub base : r.base % 1048576 ≡ 0
  pub limit : (r.limit + 1) % 1048576 ≡ 0
  pub in_order : r.base < r.limit
  pub most : r.limit < 2 ^ 63

abbrev pub FitsSelector : Selector → Type 0
FitsSelector (Selective ids addresses default) = FitsIds ids × (length addresses ≤ 8) × All FitsAddresses addresses
FitsSelector (Link classes) = All (λ c. c ≤ 7) classes

-- 1, 2, 4 or 8 packets in a unit
abbrev pub is_aggregation : ℕ → Bool
is_aggregation n = (n == 1 || n == 2) || (n == 4 || n == 8)

pub record FitsStream (s : StreamPlan) : Type 0 where
  pub id : s.id ≤ 255
  pub aggregation : is_aggregation s.aggregation ≡ true
  pub selector : FitsSelector s.selector

pub record FitsBar (b : BarPlan) : Type 0 where
  pub base : b.base < 2 ^ 63
  pub pages : b.pages ≤ 1048576
  pub attributes : b.attributes ≤ 15

-- an interface of a link with these streams
pub record FitsInterface (streams : List StreamPlan) (i : InterfacePlan) : Type 0 where
  pub requester : i.requester ≤ 65535
  pub stream : has_selective i.stream streams ≡ true
  pub flags : i.flags ≤ 31
  pub offset : i.offset % 4096 ≡ 0
  pub offset_most : i.offset < 2 ^ 63
  pub command : i.command ≤ 65535
  pub msix : i.msix ≤ 65535
  pub lnr : i.lnr ≤ 65535
  pub cache_line : i.cache_line ≤ 255
  pub tph : i.tph < 2 ^ 32
  pub pasid : i.pasid ≤ 65535
  pub ats : i.ats ≤ 65535
  pub info : length i.info ≤ 1024
  pub info_bytes : AreBytes i.info
  pub bars : length i.bars ≤ 6
  pub each_bar : All FitsBar i.bars

-- the hop of a link with these streams
pub record FitsHop (streams : List StreamPlan) (o : HopPlan) : Type 0 where
  pub id : o.id ≤ 255
  pub id_is_new : has_stream_id streams o.id ≡ false
  pub classes : All (λ c. c ≤ 7) o.classes
  pub classes_apart : All (λ c. lists_class streams c ≡ false) o.classes

abbrev pub FitsHopIfAny : List StreamPlan → Option HopPlan → Type 0
FitsHopIfAny streams None = Unit {0}
FitsHopIfAny streams (Some o) = FitsHop streams o

pub record FitsLink (l : LinkPlan) : Type 0 where
  pub nonces : length l.nonces ≤ 1024
  pub each_nonce : All IsKey l.nonces
  pub streams_least : 1 ≤ length l.streams
  pub streams_most : length l.streams ≤ 16
  pub each_stream : All FitsStream l.streams
  pub ids_differ : AllPairs (λ s t. s.id ≢ t.id) l.streams
  pub one_default : AllPairs (λ s t. both_default s t ≡ false) l.streams
  pub classes_apart : AllPairs (λ s t. share_class s t ≡ false) l.streams
  pub each_interface : All (FitsInterface l.streams) l.interfaces
  pub requesters_differ : AllPairs (λ i j. i.requester ≢ j.requester) l.interfaces
  pub hop : FitsHopIfAny l.streams l.hop

pub record FitsRegion (r : Region) : Type 0 where
  pub base : r.base % 4096 ≡ 0
  pub size : r.size % 4096 ≡ 0
  pub size_least : 4096 ≤ r.size
  pub most : r.base + r.size ≤ 2 ^ 63

-- a stream between the devices of two of these links
pub record FitsPeer (links : List LinkPlan) (p : PeerPlan) : Type 0 where
  pub id : p.id ≤ 255
  pub near : p.near < length links
  pub far : p.far < length links
  pub apart : p.near ≢ p.far
  pub aggregation : is_aggregation p.aggregation ≡ true
  -- no stream and no hop of either link has its ID
  pub near_id_is_new : links_have_id links p.near p.id ≡ false
  pub far_id_is_new : links_have_id links p.far p.id ≡ false

pub record FitsPlan (p : Plan) : Type 0 where
  pub version_least : 1 ≤ p.version
  pub version_most : p.version ≤ 2
  pub portion_least : 16 ≤ p.portion
  pub portion_most : p.portion ≤ 65535
  pub units_least : 1 ≤ p.units_per_key
  pub units_most : p.units_per_key ≤ 2 ^ 32
  pub pool_least : 6 ≤ length p.pool
  pub pool_most : length p.pool ≤ 6144
  pub pool_sixes : length p.pool % 6 ≡ 0
  pub each_key : All IsKey p.pool
  pub keys_differ : AllPairs (λ key other. key ≢ other) p.pool
  pub links_least : 1 ≤ length p.links
  pub links_most : length p.links ≤ 8
  pub each_link : All FitsLink p.links
  pub interfaces_most : sum_by (λ l. length l.interfaces) p.links ≤ interface_limit p.version
  pub regions_most : length p.memory ≤ 16
  pub each_region : All FitsRegion p.memory
  pub memory_most : sum_by (λ r. r.size) p.memory ≤ 16777216
  pub regions_apart : AllPairs (λ r q. overlap r q ≡ false) p.memory
  pub peers_most : length p.peers ≤ 8
  pub each_peer : All (FitsPeer p.links) p.peers
  pub peer_ids_differ : AllPairs (λ a b. a.id ≢ b.id) p.peers
