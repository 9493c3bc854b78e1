-- What is said of the parts of a plan.
use Rattle.std.specs.Prelude.{ℕ, ◌+◌, ◌==◌, ◌&&◌, ◌||◌, nat_lt, Bool, true, false, List, [], if◌then◌else◌}
use Rattle.std.specs.Prelude.{Option, Some, None, slice_get}
use Rattle.std.specs.List.{list_any}
use Rattle.ide_types.specs.declared.stream.Selector.{Selector}
use Rattle.ide_types.specs.declared.stream.Selector.TheVariants.{Selective, Link}
use Rattle.ide_types.specs.declared.stream.StreamPlan.{StreamPlan}
use Rattle.ide_types.specs.declared.plan.HopPlan.{HopPlan}
use Rattle.ide_types.specs.declared.plan.LinkPlan.{LinkPlan}
use Rattle.ide_types.specs.declared.plan.Region.{Region}

abbrev pub is_selective : Selector → Bool
is_selective (Selective ids addresses default) = true
is_selective (Link classes) = false

-- how many interfaces a topology of the version has at most, over all links
abbrev pub interface_limit : ℕ → ℕ
interface_limit version = if version == 2 then 64 else 32

-- a stream takes what no selective stream takes by ID or address
abbrev pub is_default : Selector → Bool
is_default (Selective ids addresses default) = default
is_default (Link classes) = false

-- the traffic classes that a link stream takes
abbrev pub classes_of : Selector → List ℕ
classes_of (Selective ids addresses default) = []
classes_of (Link classes) = classes

abbrev pub same_id : StreamPlan → StreamPlan → Bool
same_id s t = s.id == t.id

abbrev pub both_default : StreamPlan → StreamPlan → Bool
both_default s t = is_default s.selector && is_default t.selector

-- a traffic class is among others
abbrev pub is_among : ℕ → List ℕ → Bool
is_among c cs = list_any (λ d. c == d) cs

abbrev pub share_class : StreamPlan → StreamPlan → Bool
share_class s t = list_any (λ c. is_among c (classes_of t.selector)) (classes_of s.selector)

-- a selective stream of the ID is among them
abbrev pub has_selective : ℕ → List StreamPlan → Bool
has_selective id streams = list_any (λ s. is_selective s.selector && s.id == id) streams

-- a byte is in both regions
abbrev pub overlap : Region → Region → Bool
overlap r q = nat_lt r.base (q.base + q.size) && nat_lt q.base (r.base + r.size)

-- ---- hops, and streams between devices

-- a stream of these lists the traffic class
abbrev pub lists_class : List StreamPlan → ℕ → Bool
lists_class streams c = list_any (λ s. is_among c (classes_of s.selector)) streams

abbrev pub has_stream_id : List StreamPlan → ℕ → Bool
has_stream_id streams id = list_any (λ s. s.id == id) streams

abbrev pub hop_has_id : Option HopPlan → ℕ → Bool
hop_has_id None id = false
hop_has_id (Some o) id = o.id == id

-- a stream or the hop of the link has the ID
abbrev pub link_has_id : Option LinkPlan → ℕ → Bool
link_has_id None id = false
link_has_id (Some l) id = has_stream_id l.streams id || hop_has_id l.hop id

abbrev pub links_have_id : List LinkPlan → ℕ → ℕ → Bool
links_have_id links link id = link_has_id (slice_get links link) id
