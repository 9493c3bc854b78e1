-- Of which links nothing goes out in clear.
use Rattle.std.proofs.Common.{◌≡◌, ℕ, ◌<◌, ◌==◌, ◌++◌, Bool, true, false, List, []}
use Rattle.std.proofs.Common.{Option, Some, None, Ok, slice_get, refl, ap, sym, subst, ◌∙◌, inl, inr, ◌⊎◌}
use Rattle.std.proofs.Common.{lit<, All}
use Rattle.std.specs.Prelude.{replicate}
use Rattle.std.specs.List.{list_any}
use Rattle.std.proofs.lemmas.Bool.{true≢false}
use Rattle.std.proofs.lemmas.List.Elements.{All-from_recursion, All-nil}
use Rattle.ide_types.specs.Ends.{link_hop}
use Rattle.ide_types.specs.Plans.{is_among}
use Rattle.ide_types.specs.Ports.{host_port, device_port}
use Rattle.ide_types.specs.declared.plan.HopPlan.{HopPlan}
use Rattle.ide_types.specs.declared.plan.Plan.{Plan}
use Rattle.ide_types.specs.declared.port.Side.{Side}
use Rattle.ide_types.specs.declared.port.Side.TheVariants.{Host, Device}
use Rattle.ide_types.specs.declared.stream.Selector.{Selector}
use Rattle.ide_types.specs.declared.stream.Selector.TheVariants.{Selective, Link}
use Rattle.ide_types.specs.declared.stream.StreamPlan.{StreamPlan}
use Rattle.tlp_layout.specs.Choice.{holds_id, id_of, takes_the_rest}
use Rattle.tlp_layout.specs.Head.{FitsHead, head_bytes}
use Rattle.tlp_layout.specs.Tlp.{with_payload}
use Rattle.tlp_layout.specs.declared.head.HeadView.{HeadView}
use Rattle.tlp_layout.specs.declared.head.Fields.TheVariants.{Message}
use Rattle.tlp_layout.specs.declared.head.Routing.TheVariants.{Local}
use Rattle.tlp_layout.proofs.Readings.{read_spells_tlp, spells_whole}
use Rattle.spec_links.specs.Terms.{Tlp, header, read_of, owner_id}
use Rattle.spec_links.specs.Plan.{streams_of}
use Rattle.law_sending.specs.Choice.{HasId, HasRangeFor, IsDefault, ListsClass, IsOfNone, IsListedByHop}
use Rattle.law_sending.specs.Choice.{GoesInClear}
use Rattle.law_sending.specs.Covered.{IsOfSome, HasRangeOfId, ListsAllClasses, TakesAll, TakesAllOf, HidesAll}
use Rattle.law_sending.specs.Covered.{HidesAllOf}
use Rattle.law_sending.specs.Covered.{CoverLaw}
use Rattle.law_sending.proofs.Taking.{some_at, any_from, Means, default_means, id_says, id_said, class_among}
use Rattle.law_sending.proofs.Taking.{among_class}
use Rattle.law_sending.proofs.WaysOut.{listed, is_listed}

-- ---- tests of all streams

some_of : (test : Selector → Bool) (Holds : Selector → Type 0) → Means test Holds → (ss : List StreamPlan)
    → list_any (λ (s : StreamPlan). test s.selector) ss ≡ true → IsOfSome ss Holds
some_of test Holds means ss is =
    let some = some_at (λ (s : StreamPlan). test s.selector) ss is in
    record {
      place = some.place;
      stream = some.item;
      stands = some.stands;
      holds = means.says some.item.selector some.passes;
    }

none_of : (test : Selector → Bool) (Holds : Selector → Type 0) → Means test Holds → (ss : List StreamPlan)
    → list_any (λ (s : StreamPlan). test s.selector) ss ≡ false → IsOfNone ss Holds
none_of test Holds means ss is n s stands has = true≢false
    (sym (any_from (λ (s : StreamPlan). test s.selector) ss n s stands (means.said s.selector has)) ∙ is)

-- a range with an ID
abbrev has_range : ℕ → Selector → Bool
has_range id (Selective ids addresses default) = holds_id ids (Some id)
has_range id (Link classes) = false

range_says : (id : ℕ) (s : Selector) → has_range id s ≡ true → HasRangeOfId id s
range_says id (Selective ids addresses default) is = id_says ids (Some id) is
range_says id (Link classes) is = absurd (true≢false (sym is))

range_said : (id : ℕ) (s : Selector) → HasRangeOfId id s → has_range id s ≡ true
range_said id (Selective ids addresses default) has = id_said ids (Some id) has
range_said id (Link classes) has = absurd has

range_means : (id : ℕ) → Means (has_range id) (HasRangeOfId id)
range_means id = record { says = range_says id; said = range_said id }

-- a traffic class that is listed
abbrev lists : ℕ → Selector → Bool
lists class (Selective ids addresses default) = false
lists class (Link classes) = list_any (λ tc. tc == class) classes

lists_says : (class : ℕ) (s : Selector) → lists class s ≡ true → ListsClass class s
lists_says class (Selective ids addresses default) is = absurd (true≢false (sym is))
lists_says class (Link classes) is = class_among class classes is

lists_said : (class : ℕ) (s : Selector) → ListsClass class s → lists class s ≡ true
lists_said class (Selective ids addresses default) has = absurd has
lists_said class (Link classes) has = among_class class classes has

lists_means : (class : ℕ) → Means (lists class) (ListsClass class)
lists_means class = record { says = lists_says class; said = lists_said class }

-- ---- what is taken does not go in clear

default_hides : (plan : Plan) (link : ℕ) (side : Side) (head : HeadView) → IsOfSome (streams_of plan link) IsDefault
    → GoesInClear plan (record { side = side; line = link }) head → ⊥
default_hides plan link side head some clear = clear.none.default some.place some.stream some.stands some.holds

class_hides : (plan : Plan) (link : ℕ) (side : Side) (bytes : List ℕ) (t : Tlp) → read_of bytes ≡ Ok t
    → ListsAllClasses plan link → GoesInClear plan (record { side = side; line = link }) (header t) → ⊥
class_hides plan link side bytes t reads all clear =
    by (all (header t).lead.tc ((read_spells_tlp t bytes).1 reads).fits.head.lead.tc)
  where
    by : IsOfSome (streams_of plan link) (ListsClass (header t).lead.tc)
        ⊎ ((stream : ℕ) × IsListedByHop plan link (header t).lead.tc stream) → ⊥
    by (inl some) = clear.none.class some.place some.stream some.stands some.holds
    by (inr hop) = clear.unlisted hop.0 hop.1

all_hide : (plan : Plan) (link : ℕ) (side : Side) → TakesAll plan link
    → HidesAll plan (record { side = side; line = link })
all_hide plan link side (inl some) bytes t reads clear = default_hides plan link side (header t) some clear
all_hide plan link side (inr all) bytes t reads clear = class_hides plan link side bytes t reads all clear

own_range : (head : HeadView) (id : ℕ) (s : Selector) → id_of Device head.fields ≡ Some id → HasRangeOfId id s
    → HasRangeFor Device head s
own_range head id (Selective ids addresses default) is has = inr (subst (HasId ids) (sym is) has)
own_range head id (Link classes) is has = absurd has

all_hide_of : (plan : Plan) (link id : ℕ) → TakesAllOf plan link id → HidesAllOf plan (device_port link) id
all_hide_of plan link id (inl some) bytes t reads owns clear =
    clear.none.range some.place some.stream some.stands (own_range (header t) id some.stream.selector owns some.holds)
all_hide_of plan link id (inr all) bytes t reads owns clear = all_hide plan link Device all bytes t reads clear

-- ---- a message of a traffic class, which is routed to its receiver

abbrev message : ℕ → ℕ → HeadView
message class id = record {
  lead = record { wide = true; tc = class; attr = 0; at = 0; length = 0 };
  has_payload = false;
  fields = Message (record {
    routing = Local;
    requester = id;
    tag = 0;
    code = 0;
    destination = 0;
    kept = replicate 6 0;
  });
}

zeros : All (λ b. b < 256) (replicate 6 0)
zeros =
    All-from_recursion (λ b. b < 256) (replicate 6 0)
    (lit< tt, (lit< tt, (lit< tt, (lit< tt, (lit< tt, (lit< tt, tt))))))

message_fits : (class id : ℕ) → class < 8 → id < 65536 → FitsHead (message class id)
message_fits class id few small = record {
  lead = record { tc = few; attr = lit< tt; at = lit< tt; length = lit< tt };
  fields = (refl, small, lit< tt, lit< tt, lit< tt, refl, zeros);
}

message_reads : (class id : ℕ) → class < 8 → id < 65536
    → read_of (head_bytes (message class id) ++ []) ≡ Ok (with_payload (message class id) [])
message_reads class id few small =
    let spells = spells_whole (message class id) [] (message_fits class id few small) refl (All-nil _) in
    (read_spells_tlp (with_payload (message class id) []) (head_bytes (message class id) ++ [])).0 spells.0

no_address : (ranges : Selector) (side : Side) (class id : ℕ) → HasRangeFor side (message class id) ranges
    → (side ≡ Device) × HasRangeOfId id ranges
no_address (Selective ids addresses default) side class id (inl has) = absurd has
no_address (Selective None addresses default) Host class id (inr has) = absurd has
no_address (Selective (Some range) addresses default) Host class id (inr has) = absurd has
no_address (Selective ids addresses default) Device class id (inr has) = (refl, has)
no_address (Link classes) side class id has = absurd has

-- ---- else something goes in clear

-- it is listed by the hop, or not
abbrev IsListedOrNot : Plan → ℕ → ℕ → Type 0
IsListedOrNot plan link class =
    ((stream : ℕ) × IsListedByHop plan link class stream)
    ⊎ ((stream : ℕ) → IsListedByHop plan link class stream → ⊥)

hop_of_class : (plan : Plan) (link class : ℕ) (o : Option HopPlan) → link_hop (slice_get plan.links link) ≡ o
    → IsListedOrNot plan link class
hop_of_class plan link class None is = inr (λ stream has. absurd (clash has.hop (sym has.is ∙ is)))
  where
    clash : (hop : HopPlan) → Some hop ≡ None → ⊥
    clash hop is = absurd cc
hop_of_class plan link class (Some hop) is = by (is_among class hop.classes) refl
  where
    one : (a b : HopPlan) → Some a ≡ Some b → a ≡ b
    one a b is = cc (is)

    by : (b : Bool) → is_among class hop.classes ≡ b
        → IsListedOrNot plan link class
    by true among =
        inl (hop.id, record { hop = hop; is = is; lists = listed class hop.classes among; id = refl })
    by false among = inr (λ stream has.
        let same = one has.hop hop (sym has.is ∙ is) in
        true≢false (sym (is_listed class has.hop.classes has.lists)
        ∙ (ap (λ (o : HopPlan). is_among class o.classes) same ∙ among)))

module _ (plan : Plan) (link : ℕ) (side : Side) (id : ℕ) (small : id < 65536)
    (ranges : side ≡ Device → IsOfNone (streams_of plan link) (HasRangeOfId id))
    (hides : (bytes : List ℕ) (t : Tlp) → read_of bytes ≡ Ok t → owner_id (header t) ≡ Some id
    → GoesInClear plan (record { side = side; line = link }) (header t) → ⊥)
    (default : IsOfNone (streams_of plan link) IsDefault) where
  shows : (class : ℕ) → class < 8 → IsOfNone (streams_of plan link) (ListsClass class)
      → ((stream : ℕ) → IsListedByHop plan link class stream → ⊥) → ⊥
  shows class few none unlisted = hides (head_bytes (message class id) ++ []) (with_payload (message class id) [])
      (message_reads class id few small) refl (record {
        none = record {
          range = λ n s stands has.
              let both = no_address s.selector side class id has in ranges both.0 n s stands both.1;
          default = default;
          class = none;
        };
        unlisted = unlisted;
      })

  by_class : (class : ℕ) → class < 8 → (b : Bool)
      → list_any (λ (s : StreamPlan). lists class s.selector) (streams_of plan link) ≡ b
      → IsListedOrNot plan link class
      → IsOfSome (streams_of plan link) (ListsClass class) ⊎ ((stream : ℕ) × IsListedByHop plan link class stream)
  by_class class few true is hop =
      inl (some_of (lists class) (ListsClass class) (lists_means class) (streams_of plan link) is)
  by_class class few false is (inl hop) = inr hop
  by_class class few false is (inr none) = absurd (shows class few
      (none_of (lists class) (ListsClass class) (lists_means class) (streams_of plan link) is) none)

  all_listed : ListsAllClasses plan link
  all_listed class few =
      by_class class few (list_any (λ (s : StreamPlan). lists class s.selector) (streams_of plan link))
      refl (hop_of_class plan link class (link_hop (slice_get plan.links link)) refl)

-- ---- the law

by_default : (plan : Plan) (link : ℕ) → (IsOfNone (streams_of plan link) IsDefault → ListsAllClasses plan link)
    → TakesAll plan link
by_default plan link else_all =
    by (list_any (λ (s : StreamPlan). takes_the_rest s.selector) (streams_of plan link)) refl
  where
    by : (b : Bool) → list_any (λ (s : StreamPlan). takes_the_rest s.selector) (streams_of plan link) ≡ b
        → TakesAll plan link
    by true is = inl (some_of takes_the_rest IsDefault default_means (streams_of plan link) is)
    by false is = inr (else_all (none_of takes_the_rest IsDefault default_means (streams_of plan link) is))

host_takes : (plan : Plan) (link : ℕ) → HidesAll plan (host_port link) → TakesAll plan link
host_takes plan link hides = by_default plan link (λ default. all_listed plan link Host 0 (lit< tt)
    (λ off. absurd cc) (λ bytes t reads owns clear. hides bytes t reads clear) default)

interface_takes : (plan : Plan) (link id : ℕ) → id < 65536 → HidesAllOf plan (device_port link) id
    → TakesAllOf plan link id
interface_takes plan link id small hides =
    by (list_any (λ (s : StreamPlan). has_range id s.selector) (streams_of plan link)) refl
  where
    by : (b : Bool) → list_any (λ (s : StreamPlan). has_range id s.selector) (streams_of plan link) ≡ b
        → TakesAllOf plan link id
    by true is = inl (some_of (has_range id) (HasRangeOfId id) (range_means id) (streams_of plan link) is)
    by false is = inr (by_default plan link (λ default. all_listed plan link Device id small
        (λ device. none_of (has_range id) (HasRangeOfId id) (range_means id) (streams_of plan link) is) hides default))

pub covered : (plan : Plan) (link : ℕ) → CoverLaw plan link
covered plan link = record {
  host = (host_takes plan link, all_hide plan link Host);
  interface = λ id small. (interface_takes plan link id small, all_hide_of plan link id);
}
