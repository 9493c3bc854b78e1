-- Of which links nothing goes out in clear: whether a send has `trusted`, and whether an interface is in RUN, does not
-- matter for that.
use Rattle.std.specs.Prelude.{◌≡◌, ◌⊎◌, ◌<◌, ◌↔◌, ℕ, List, Some, Ok, slice_get}
use Rattle.ide_types.specs.Ports.{host_port, device_port}
use Rattle.ide_types.specs.declared.plan.Plan.{Plan}
use Rattle.ide_types.specs.declared.port.PortName.{PortName}
use Rattle.ide_types.specs.declared.stream.Selector.{Selector}
use Rattle.ide_types.specs.declared.stream.Selector.TheVariants.{Selective, Link}
use Rattle.ide_types.specs.declared.stream.StreamPlan.{StreamPlan}
use Rattle.spec_links.specs.Terms.{Tlp, header, read_of, owner_id}
use Rattle.spec_links.specs.Plan.{streams_of}
use Rattle.law_sending.specs.Choice.{HasId, IsDefault, ListsClass, IsListedByHop, GoesInClear}

-- ---- what the streams of a link take together

-- it holds of one
pub record IsOfSome (streams : List StreamPlan) (Holds : Selector → Type 0) : Type 0 where
  pub place : ℕ
  pub stream : StreamPlan
  pub stands : slice_get streams place ≡ Some stream
  pub holds : Holds stream.selector

-- a selective stream has a range with the ID
abbrev pub HasRangeOfId : ℕ → Selector → Type 0
HasRangeOfId id (Selective ids addresses default) = HasId ids (Some id)
HasRangeOfId id (Link classes) = ⊥

-- each traffic class is listed by a link stream of the link, or by its hop
abbrev pub ListsAllClasses : Plan → ℕ → Type 0
ListsAllClasses plan link =
    (class : ℕ) → class < 8
    → IsOfSome (streams_of plan link) (ListsClass class) ⊎ ((stream : ℕ) × IsListedByHop plan link class stream)

-- one of its streams is the default stream, or all classes are listed
abbrev pub TakesAll : Plan → ℕ → Type 0
TakesAll plan link = IsOfSome (streams_of plan link) IsDefault ⊎ ListsAllClasses plan link

-- or a stream has a range with the requester ID of an interface
abbrev pub TakesAllOf : Plan → ℕ → ℕ → Type 0
TakesAllOf plan link id = IsOfSome (streams_of plan link) (HasRangeOfId id) ⊎ TakesAll plan link

-- ---- the law

-- no TLP that is sent at the end goes out in clear
abbrev pub HidesAll : Plan → PortName → Type 0
HidesAll plan end = (bytes : List ℕ) (t : Tlp) → read_of bytes ≡ Ok t → GoesInClear plan end (header t) → ⊥

-- none whose owner has this ID
abbrev pub HidesAllOf : Plan → PortName → ℕ → Type 0
HidesAllOf plan end id =
    (bytes : List ℕ) (t : Tlp) → read_of bytes ≡ Ok t → owner_id (header t) ≡ Some id → GoesInClear plan end (header t)
    → ⊥

pub record CoverLaw (plan : Plan) (link : ℕ) : Type 0 where
  pub host : HidesAll plan (host_port link) ↔ TakesAll plan link
  pub interface : (id : ℕ) → id < 65536 → HidesAllOf plan (device_port link) id ↔ TakesAllOf plan link id
