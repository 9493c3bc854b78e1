-- The tables of a topology: for each its keys in their order, with kind, bounds and default.
use Rattle.std.specs.Prelude.{◌+◌, ℕ, ℤ, pos, negsuc, nat_le, nat_lt, Bool, true, false, not, ◌&&◌, ◌==◌, List, [], ◌∷◌}
use Rattle.std.specs.Prelude.{Option, Some, None, Result, Ok, Err, if◌then◌else◌, codes}
use Rattle.std.specs.Str.{bytes_eq}
use Rattle.std.specs.Option.{option_and_then}
use Rattle.toml.specs.Data.{Members, get_member, as_integer}
use Rattle.ide_types.specs.declared.stream.IdRange.{IdRange}
use Rattle.ide_types.specs.declared.stream.AddressRange.{AddressRange}
use Rattle.ide_types.specs.declared.stream.Selector.{Selector}
use Rattle.ide_types.specs.declared.stream.Selector.TheVariants as selector
use Rattle.ide_types.specs.declared.plan.Region.{Region}
use Rattle.toml_walk.specs.declared.bounds.Form.TheVariants.{Pages, Mebibytes, LastOfMebibyte, UnitMode}
use Rattle.toml_walk.specs.declared.list.CountRange.{CountRange}
use Rattle.toml_walk.specs.declared.fault.PlanFault.{PlanFault}
use Rattle.toml_walk.specs.declared.fault.KeyFault.TheVariants.{Range}
use Rattle.toml_walk.specs.Fault.{◌>>=◌, refused}
use Rattle.toml_walk.specs.Paths.{Path, Key, Place}
use Rattle.toml_walk.specs.Bounds.{greatest, within, bounds_of_form}
use Rattle.toml_walk.specs.Walk.{Text, Reader, only_known, required_value, optional, table, list, count_between}
use Rattle.toml_walk.specs.Walk.{any_number, given_value}
use Rattle.toml_walk.specs.Values.{integer, number, truth, text, or_length, key_bytes, hex_bytes, two}
use Rattle.topology.specs.declared.draft.StreamKind.{StreamKind}
use Rattle.topology.specs.declared.draft.StreamKind.TheVariants as kind
use Rattle.ide_types.specs.declared.stream.StreamPlan.{StreamPlan}
use Rattle.ide_types.specs.declared.interface.BarPlan.{BarPlan}
use Rattle.ide_types.specs.declared.plan.PeerPlan.{PeerPlan}
use Rattle.topology.specs.declared.draft.RegisterDraft.{RegisterDraft}
use Rattle.topology.specs.declared.draft.InterfaceDraft.{InterfaceDraft}
use Rattle.topology.specs.declared.draft.LinkDraft.{LinkDraft}
use Rattle.topology.specs.declared.draft.PlanDraft.{PlanDraft}

-- "selective" or "link"
abbrev pub kind_named : Text → Option StreamKind
kind_named word =
    if bytes_eq word (codes "selective") then Some kind.Selective
    else if bytes_eq word (codes "link") then Some kind.Link
    else None

abbrev pub stream_kind : Reader StreamKind
stream_kind path d = do
  word ← text path d
  or_length path word (kind_named word)

abbrev pub is_selective_kind : StreamKind → Bool
is_selective_kind kind.Selective = true
is_selective_kind kind.Link = false

-- a list that a stream of the other kind may have only without elements
abbrev pub only_if : Bool → CountRange → CountRange
only_if allowed span = record span { allowed = allowed }

-- [base, limit] with base at most limit
abbrev pub ids_in_order : Path → ℕ × ℕ → Result (Option IdRange) PlanFault
ids_in_order path (base, limit) =
    if nat_le base limit then Ok (Some (record { base = base; limit = limit }))
    else Err (refused (Place 1 ∷ path) (Range (pos limit)))

abbrev pub id_range : Bool → Reader (Option IdRange)
id_range allowed path d = do
  ends ← two allowed (within 0 65535) (within 0 65535) path d
  ids_in_order path ends

-- [base, limit] with base less than limit
abbrev pub addresses_in_order : Path → ℕ × ℕ → Result AddressRange PlanFault
addresses_in_order path (base, limit) =
    if nat_lt base limit then Ok (record { base = base; limit = limit })
    else Err (refused (Place 1 ∷ path) (Range (pos limit)))

-- base and limit + 1 are multiples of 2^20
abbrev pub address_range : Reader AddressRange
address_range path d = do
  ends ← two true (bounds_of_form 0 greatest Mebibytes) (bounds_of_form 0 greatest LastOfMebibyte) path d
  addresses_in_order path ends

-- true if it is allowed, or false; Range with 1 is the fault of true
abbrev pub true_if : Bool → Path → Bool → Result Bool PlanFault
true_if allowed path b = if b && not allowed then Err (refused path (Range (pos 1))) else Ok b

abbrev pub truth_if : Bool → Reader Bool
truth_if allowed path d = do
  b ← truth path d
  true_if allowed path b

abbrev pub selector_for : StreamKind → Option IdRange → List AddressRange → Bool → List ℕ → Selector
selector_for kind.Selective ids addresses default classes = selector.Selective ids addresses default
selector_for kind.Link ids addresses default classes = selector.Link classes

abbrev pub stream_names : List Text
stream_names = codes "id" ∷ codes "kind" ∷ codes "mode" ∷ codes "rid" ∷ codes "ranges" ∷ codes "default" ∷ codes "tcs"
    ∷ codes "closed" ∷ []

-- a stream: rid, ranges and default are a selective stream's, tcs a link stream's
unfoldable pub stream_keys : Path → Members → Result StreamPlan PlanFault
stream_keys t ms = do
  _ ← only_known t stream_names ms
  id ← required_value t ms (codes "id") (number (within 0 255))
  kind ← required_value t ms (codes "kind") stream_kind
  aggregation ← optional t ms (codes "mode") 1 (number (bounds_of_form 1 8 UnitMode))
  ids ← optional t ms (codes "rid") None (id_range (is_selective_kind kind))
  addresses ← optional t ms (codes "ranges") []
      (list (only_if (is_selective_kind kind) (count_between 0 8)) address_range)
  default ← optional t ms (codes "default") false (truth_if (is_selective_kind kind))
  classes ← optional t ms (codes "tcs") [] (list (only_if (not (is_selective_kind kind)) any_number)
      (number (within 0 7)))
  closed ← optional t ms (codes "closed") false truth
  Ok (record {
    id = id;
    aggregation = aggregation;
    closed = closed;
    selector = selector_for kind ids addresses default
        classes;
  })

abbrev pub bar_names : List Text
bar_names = codes "base" ∷ codes "pages" ∷ codes "attributes" ∷ []

-- a base address register
unfoldable pub bar_keys : Path → Members → Result BarPlan PlanFault
bar_keys t ms = do
  _ ← only_known t bar_names ms
  base ← required_value t ms (codes "base") (number (within 0 greatest))
  pages ← required_value t ms (codes "pages") (number (within 0 1048576))
  attributes ← optional t ms (codes "attributes") 0 (number (within 0 15))
  Ok (record { base = base; pages = pages; attributes = attributes })

-- the stream ID that a number is, or 0 if it is none
abbrev pub stream_id_of : ℤ → ℕ
stream_id_of (pos n) = if nat_le n 255 then n else 0
stream_id_of (negsuc n) = 0

-- the keys of an interface in each version
abbrev pub common_names : List Text
common_names =
    codes "rid" ∷ codes "stream" ∷ codes "flags" ∷ codes "offset" ∷ codes "command" ∷ codes "msix" ∷ codes "lnr"
    ∷ codes "cacheline"
    ∷ codes "tph" ∷ codes "info" ∷ codes "bars" ∷ []

-- version 2 has three more
abbrev pub interface_names : ℕ → List Text
interface_names version =
    if version == 2 then codes "pasid" ∷ codes "ats" ∷ codes "reads" ∷ common_names else common_names

-- the registers of an interface
unfoldable pub register_keys : Path → Members → Result RegisterDraft PlanFault
register_keys t ms = do
  command ← optional t ms (codes "command") 0 (number (within 0 65535))
  msix ← optional t ms (codes "msix") 0 (number (within 0 65535))
  lnr ← optional t ms (codes "lnr") 0 (number (within 0 65535))
  cacheline ← optional t ms (codes "cacheline") 0 (number (within 0 255))
  tph ← optional t ms (codes "tph") 0 (number (within 0 4294967295))
  pasid ← optional t ms (codes "pasid") 0 (number (within 0 65535))
  ats ← optional t ms (codes "ats") 0 (number (within 0 65535))
  Ok (record {
    command = command;
    msix = msix;
    lnr = lnr;
    cache_line = cacheline;
    tph = tph;
    pasid = pasid;
    ats = ats;
  })

-- an interface of a version, and the number at its key `stream`, whose bounds are a rule over several values
unfoldable pub interface_keys : ℕ → Path → Members → Result InterfaceDraft PlanFault
interface_keys version t ms = do
  _ ← only_known t (interface_names version) ms
  rid ← required_value t ms (codes "rid") (number (within 0 65535))
  stream ← required_value t ms (codes "stream") integer
  flags ← optional t ms (codes "flags") 0 (number (within 0 31))
  offset ← optional t ms (codes "offset") 0 (number (bounds_of_form 0 greatest Pages))
  registers ← register_keys t ms
  reads ← optional t ms (codes "reads") false truth
  info ← optional t ms (codes "info") [] (hex_bytes 1024)
  bars ← optional t ms (codes "bars") [] (list (count_between 0 6) (table bar_keys))
  Ok (record {
    stream = stream;
    interface = record {
      requester = rid;
      stream = stream_id_of stream;
      flags = flags;
      offset = offset;
      command = registers.command;
      cache_line = registers.cache_line;
      msix = registers.msix;
      lnr = registers.lnr;
      tph = registers.tph;
      pasid = registers.pasid;
      ats = registers.ats;
      reads = reads;
      info = info;
      bars = bars;
    };
  })

abbrev pub common_link_names : List Text
common_link_names = codes "nonces" ∷ codes "stream" ∷ codes "interface" ∷ []

-- version 2 has two more
abbrev pub link_names : ℕ → List Text
link_names version = if version == 2 then codes "hop" ∷ codes "hop_tcs" ∷ common_link_names else common_link_names

-- a link of a topology of a version
unfoldable pub link_keys : ℕ → Path → Members → Result LinkDraft PlanFault
link_keys version t ms = do
  _ ← only_known t (link_names version) ms
  nonces ← optional t ms (codes "nonces") [] (list (count_between 0 1024) key_bytes)
  streams ← required_value t ms (codes "stream") (list (count_between 1 16) (table stream_keys))
  interfaces ← optional t ms (codes "interface") [] (list any_number (table (interface_keys version)))
  hop ← optional t ms (codes "hop") None (given_value (number (within 0 255)))
  classes ← optional t ms (codes "hop_tcs") None (given_value (list any_number (number (within 0 7))))
  Ok (record { nonces = nonces; streams = streams; interfaces = interfaces; hop = hop; hop_classes = classes })

abbrev pub region_names : List Text
region_names = codes "base" ∷ codes "size" ∷ []

-- base + size at most 2^63
abbrev pub region_within : Path → ℕ → ℕ → Result Region PlanFault
region_within t base size =
    if nat_le (base + size) 9223372036854775808 then Ok (record { base = base; size = size })
    else Err (refused (Key (codes "size") ∷ t) (Range (pos size)))

-- a region of trusted memory
unfoldable pub region_keys : Path → Members → Result Region PlanFault
region_keys t ms = do
  _ ← only_known t region_names ms
  base ← required_value t ms (codes "base") (number (bounds_of_form 0 greatest Pages))
  size ← required_value t ms (codes "size") (number (bounds_of_form 4096 greatest Pages))
  region_within t base size

abbrev pub peer_names : List Text
peer_names = codes "id" ∷ codes "a" ∷ codes "b" ∷ codes "mode" ∷ []

-- a stream between the devices of two links
unfoldable pub peer_keys : Path → Members → Result PeerPlan PlanFault
peer_keys t ms = do
  _ ← only_known t peer_names ms
  id ← required_value t ms (codes "id") (number (within 0 255))
  near ← required_value t ms (codes "a") (number (within 0 7))
  far ← required_value t ms (codes "b") (number (within 0 7))
  aggregation ← optional t ms (codes "mode") 1 (number (bounds_of_form 1 8 UnitMode))
  Ok (record { id = id; near = near; far = far; aggregation = aggregation })

abbrev pub common_top_names : List Text
common_top_names = codes "version" ∷ codes "portion" ∷ codes "units_per_key" ∷ codes "pool" ∷ codes "link"
    ∷ codes "memory" ∷ []

-- the number 2 at `version`, which is not read yet
abbrev pub is_two : Option ℤ → Bool
is_two (Some (pos n)) = n == 2
is_two _ = false

abbrev pub is_newer : Members → Bool
is_newer ms = is_two (option_and_then as_integer (get_member (codes "version") ms))

-- version 2 has one more
abbrev pub top_names : Bool → List Text
top_names newer = if newer then codes "p2p" ∷ common_top_names else common_top_names

-- the table at the top
unfoldable pub top_keys : Path → Members → Result PlanDraft PlanFault
top_keys t ms = do
  _ ← only_known t (top_names (is_newer ms)) ms
  version ← required_value t ms (codes "version") (number (within 1 2))
  portion ← optional t ms (codes "portion") 64 (number (within 16 65535))
  units ← optional t ms (codes "units_per_key") 4294967296 (number (within 1 4294967296))
  pool ← required_value t ms (codes "pool") (list (count_between 6 6144) key_bytes)
  links ← required_value t ms (codes "link") (list (count_between 1 8) (table (link_keys version)))
  memory ← optional t ms (codes "memory") [] (list (count_between 0 16) (table region_keys))
  peers ← optional t ms (codes "p2p") [] (list (count_between 0 8) (table peer_keys))
  Ok (record {
    version = version;
    portion = portion;
    units_per_key = units;
    pool = pool;
    links = links;
    memory = memory;
    peers = peers;
  })
