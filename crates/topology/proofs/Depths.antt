-- A table that means a plan is not deep.
use Rattle.std.proofs.Common.{◌≡◌, refl, sym, subst, ◌∙◌, ℕ, ℤ, suc, ◌+◌, ◌≤◌, ◌||◌, ◌&&◌, nat_lt, max}
use Rattle.std.proofs.Common.{not, Bool, true, false, List, [], ◌∷◌, ◌++◌, length, Option, Some, None}
use Rattle.std.proofs.Common.{Result, Ok, Err, cond, codes, arith, lit≤, inl, inr}
use Rattle.std.specs.Ordering.{nat_cmp, is_lt}
use Rattle.std.specs.Cmp.Lexicographic.{slice_cmp}
use Rattle.std.specs.Cmp.{tied_itself}
use Rattle.std.specs.declared.cmp.Ordering.{Ordering}
use Rattle.std.specs.declared.cmp.Ordering.TheVariants.{Less, Equal, Greater}
use Rattle.std.specs.Str.{bytes_eq}
use Rattle.std.specs.List.{AllByRecursion, list_any}
use Rattle.std.proofs.lemmas.Bool.{and_parts, or_cases}
use Rattle.std.proofs.lemmas.Cmp.{nat_list_cmp_total}
use Rattle.std.proofs.lemmas.Slice.Eq.{bytes_eq-Decides}
use Rattle.toml.specs.Data.{Data, string, integer, float, boolean, datetime, array, table as data_table, Items}
use Rattle.toml.specs.Data.{no_items, item, Members, no_members, member, get_member, as_integer, as_bool, as_str, depth}
use Rattle.toml.specs.Data.{items_depth, members_depth, is_before, is_sorted, items_are_sorted, members_are_sorted}
use Rattle.toml_walk.specs.declared.bounds.Bounds.{Bounds}
use Rattle.toml_walk.specs.declared.bounds.Form.TheVariants.{Pages, Mebibytes, LastOfMebibyte, UnitMode}
use Rattle.toml_walk.specs.declared.fault.PlanFault.{PlanFault}
use Rattle.toml_walk.specs.declared.list.CountRange.{CountRange}
use Rattle.toml_walk.specs.Fault.{◌>>=◌, refused, or_fault}
use Rattle.toml_walk.specs.Bounds.{greatest, within, bounds_of_form, admits}
use Rattle.toml_walk.specs.Values.{integer as any_integer, number, truth, text, key_bytes, hex_bytes, two, two_in_list}
use Rattle.toml_walk.specs.Values.{bounded_number}
use Rattle.toml_walk.specs.Paths.{Path, Key, Place}
use Rattle.toml_walk.specs.Walk.{Text, Reader, is_known, key_names, unknown_in, only_known, required_value}
use Rattle.toml_walk.specs.Walk.{optional, table, data_list, values_of, is_past, within_span, each, list}
use Rattle.toml_walk.specs.Walk.{count_between, any_number, given_value as walk_given}
use Rattle.toml_walk.specs.declared.fault.KeyFault.TheVariants.{Missing, Kind, Range}
use Rattle.std.specs.Option.{option_and_then}
use Rattle.std.specs.Prelude.{if◌then◌else◌, pos, negsuc}
use Rattle.topology.specs.Tables.{stream_kind, is_selective_kind, only_if, id_range, address_range, truth_if}
use Rattle.topology.specs.Tables.{stream_names, stream_keys, bar_names, bar_keys, register_keys, interface_names}
use Rattle.topology.specs.Tables.{interface_keys}
use Rattle.topology.specs.Tables.{link_names, link_keys, region_names, region_keys, peer_names, peer_keys, is_two}
use Rattle.topology.specs.Tables.{is_newer, top_names, top_keys}
use Rattle.topology.specs.Rules.{rules}
use Rattle.ide_types.specs.declared.interface.BarPlan.{BarPlan}
use Rattle.ide_types.specs.declared.plan.PeerPlan.{PeerPlan}
use Rattle.ide_types.specs.declared.plan.Region.{Region}
use Rattle.ide_types.specs.declared.stream.StreamPlan.{StreamPlan}
use Rattle.topology.specs.declared.draft.InterfaceDraft.{InterfaceDraft}
use Rattle.topology.specs.declared.draft.RegisterDraft.{RegisterDraft}
use Rattle.topology.specs.declared.draft.LinkDraft.{LinkDraft}
use Rattle.topology.specs.declared.draft.PlanDraft.{PlanDraft}
use Rattle.topology.specs.Meaning.{drafted_plan, table_plan}
use Rattle.ide_types.specs.declared.plan.Plan.{Plan}
use Rattle.topology.proofs.Versions.{none_refused}
use Rattle.topology.proofs.MigratedPlan.{equal_texts}

-- ---- what was read first

first : {A B : Type 0} (a : Result A PlanFault) (f : A → Result B PlanFault) (y : B) → (a >>= f) ≡ Ok y → (x : A)
    × (a ≡ Ok x) × (f x ≡ Ok y)
first (Ok x) f y e = (x, refl, e)
first (Err z) f y e = absurd cc

given : {A : Type 0} (o : Option A) (z : PlanFault) (x : A) → or_fault o z ≡ Ok x → o ≡ Some x
given None z x e = absurd cc
given (Some w) z x e = cc

-- ---- values of one level

flat_integer : (d : Data) (v : ℤ) → as_integer d ≡ Some v → depth d ≡ 0
flat_integer (string x) v e = refl
flat_integer (integer x) v e = refl
flat_integer (float x) v e = refl
flat_integer (boolean x) v e = refl
flat_integer (datetime x) v e = refl
flat_integer (array x) v e = absurd cc
flat_integer (data_table x) v e = absurd cc

flat_text : (d : Data) (v : Text) → as_str d ≡ Some v → depth d ≡ 0
flat_text (string x) v e = refl
flat_text (integer x) v e = refl
flat_text (float x) v e = refl
flat_text (boolean x) v e = refl
flat_text (datetime x) v e = refl
flat_text (array x) v e = absurd cc
flat_text (data_table x) v e = absurd cc

flat_truth : (d : Data) (v : Bool) → as_bool d ≡ Some v → depth d ≡ 0
flat_truth (string x) v e = refl
flat_truth (integer x) v e = refl
flat_truth (float x) v e = refl
flat_truth (boolean x) v e = refl
flat_truth (datetime x) v e = refl
flat_truth (array x) v e = absurd cc
flat_truth (data_table x) v e = absurd cc

-- what is read of the data is at most so deep
abbrev pub Deep : {A : Type 0} → ℕ → Reader A → Type 0
Deep {A} n read = (path : Path) (d : Data) (x : A) → is_sorted d ≡ true → read path d ≡ Ok x → depth d ≤ n

none_deep : (n m : ℕ) → m ≡ 0 → m ≤ n
none_deep n m e = omega (arith, e)

deeper : {A : Type 0} (m n : ℕ) (read : Reader A) → m ≤ n → Deep m read → Deep n read
deeper m n read le h path d x s e = let few = h path d x s e in omega (arith, few, le)

integer_deep : (n : ℕ) → Deep n any_integer
integer_deep n path d x s e = none_deep n (depth d) (flat_integer d x (given (as_integer d) _ x e))

text_deep : (n : ℕ) → Deep n text
text_deep n path d x s e = none_deep n (depth d) (flat_text d x (given (as_str d) _ x e))

truth_deep : (n : ℕ) → Deep n truth
truth_deep n path d x s e = none_deep n (depth d) (flat_truth d x (given (as_bool d) _ x e))

number_deep : (n : ℕ) (b : Bounds) → Deep n (number b)
number_deep n b path d x s e =
    let a = first (any_integer path d) _ x e in
    integer_deep n path d a.0 s a.1

key_deep : (n : ℕ) → Deep n key_bytes
key_deep n path d x s e =
    let a = first (text path d) _ x e in
    text_deep n path d a.0 s a.1

hex_deep : (n most : ℕ) → Deep n (hex_bytes most)
hex_deep n most path d x s e =
    let a = first (text path d) _ x e in
    text_deep n path d a.0 s a.1

kind_deep : (n : ℕ) → Deep n stream_kind
kind_deep n path d x s e =
    let a = first (text path d) _ x e in
    text_deep n path d a.0 s a.1

truth_if_deep : (n : ℕ) (allowed : Bool) → Deep n (truth_if allowed)
truth_if_deep n allowed path d x s e =
    let a = first (truth path d) _ x e in
    truth_deep n path d a.0 s a.1

-- ---- lists

greater : (a b n : ℕ) → a ≤ n → b ≤ n → max a b ≤ n
greater a b n h k = omega (arith, h, k)

each_deep : {A : Type 0} (n : ℕ) (one : Reader A) → Deep n one → (path : Path) (i : ℕ) (ds : Items) (xs : List A)
    → items_are_sorted ds ≡ true → each one path i (data_list ds) ≡ Ok xs → items_depth ds ≤ n
each_deep n one h path i no_items xs s e = omega arith
each_deep n one h path i (item d ds) xs s e =
    let parts = and_parts (is_sorted d) (items_are_sorted ds) s in
    let a = first (one (Place i ∷ path) d) _ xs e in
    let b = first (each one path (i + 1) (data_list ds)) _ xs a.2 in
    greater (depth d) (items_depth ds) n (h (Place i ∷ path) d a.0 parts.0 a.1)
    (each_deep n one h path (i + 1) ds b.0 parts.1 b.1)

array_of : (path : Path) (d : Data) (ds : List Data) → values_of path d ≡ Ok ds → (items : Items) × (d ≡ array items)
    × (data_list items ≡ ds)
array_of path (string x) ds e = absurd cc
array_of path (integer x) ds e = absurd cc
array_of path (float x) ds e = absurd cc
array_of path (boolean x) ds e = absurd cc
array_of path (datetime x) ds e = absurd cc
array_of path (array items) ds e = (items, refl, cc)
array_of path (data_table x) ds e = absurd cc

same_count : (past few : Bool) (f g : PlanFault) (ds cs : List Data) → cond past (Err f) (cond few (Err g) (Ok ds))
    ≡ Ok cs → ds ≡ cs
same_count true few f g ds cs e = absurd cc
same_count false true f g ds cs e = absurd cc
same_count false false f g ds cs e = cc

list_deep : {A : Type 0} (n : ℕ) (span : CountRange) (one : Reader A) → Deep n one → Deep (suc n) (list span one)
list_deep n span one h path d x s e =
    let a = first (values_of path d) _ x e in
    let (items, is, those) = array_of path d a.0 a.1 in
    let b = first (within_span span path a.0) _ x a.2 in
    let same : a.0 ≡ b.0 = same_count (is_past span.most (length a.0))
    (nat_lt (length a.0) span.least || (not span.allowed && nat_lt 0 (length a.0))) _ _ a.0 b.0 b.1 in
    let read : each one path 0 (data_list items) ≡ Ok x = subst (λ (cs : List Data). each one path 0 cs ≡ Ok x)
    (sym (those ∙ same)) b.2 in
    let sorted : items_are_sorted items ≡ true = subst (λ (z : Data). is_sorted z ≡ true) is s in
    let few = each_deep n one h path 0 items x sorted read in
    subst (λ (z : Data). depth z ≤ suc n) (sym is) (omega (arith, few))

two_items : (allowed : Bool) (one last : Bounds) (path : Path) (items : Items) (x : ℕ × ℕ) → items_are_sorted items
    ≡ true → two_in_list allowed one last path (data_list items) ≡ Ok x → items_depth items ≤ 0
two_items allowed one last path no_items x s e = absurd cc
two_items allowed one last path (item d no_items) x s e = absurd cc
two_items true one last path (item d (item f no_items)) x s e =
    let parts = and_parts (is_sorted d) (items_are_sorted (item f no_items)) s in
    let more = and_parts (is_sorted f) true parts.1 in
    let a = first (number one (Place 0 ∷ path) d) _ x e in
    let b = first (number last (Place 1 ∷ path) f) _ x a.2 in
    greater (depth d) (max (depth f) 0) 0 (number_deep 0 one (Place 0 ∷ path) d a.0 parts.0 a.1)
    (greater (depth f) 0 0 (number_deep 0 last (Place 1 ∷ path) f b.0 more.0 b.1) (omega arith))
two_items false one last path (item d (item f no_items)) x s e = absurd cc
two_items allowed one last path (item d (item f (item g ds))) x s e = absurd cc

two_deep : (allowed : Bool) (one last : Bounds) → Deep 1 (two allowed one last)
two_deep allowed one last path d x s e =
    let a = first (values_of path d) _ x e in
    let (items, is, those) = array_of path d a.0 a.1 in
    let read : two_in_list allowed one last path (data_list items) ≡ Ok x = subst
    (λ (cs : List Data). two_in_list allowed one last path cs ≡ Ok x) (sym those) a.2 in
    let sorted : items_are_sorted items ≡ true = subst (λ (z : Data). is_sorted z ≡ true) is s in
    let few = two_items allowed one last path items x sorted read in
    subst (λ (z : Data). depth z ≤ 1) (sym is) (omega (arith, few))

ids_deep : (allowed : Bool) → Deep 1 (id_range allowed)
ids_deep allowed path d x s e =
    let a = first (two allowed (within 0 65535) (within 0 65535) path d) _ x e in
    two_deep allowed (within 0 65535) (within 0 65535) path d a.0 s a.1

addresses_deep : Deep 1 address_range
addresses_deep path d x s e =
    let a = first (two true (bounds_of_form 0 greatest Mebibytes) (bounds_of_form 0 greatest LastOfMebibyte) path d) _ x
    e in
    two_deep true (bounds_of_form 0 greatest Mebibytes) (bounds_of_form 0 greatest LastOfMebibyte) path d a.0 s a.1

-- ---- members

abbrev AllAbove : Text → Members → Type 0
AllAbove k no_members = Unit {0}
AllAbove k (member l d ms) = (slice_cmp nat_cmp k l ≡ Less) × AllAbove k ms

less_is : (o : Ordering) → is_lt o ≡ true → o ≡ Less
less_is Less h = refl
less_is Equal h = absurd cc
less_is Greater h = absurd cc

above_earlier : (ms : Members) (j k : Text) → slice_cmp nat_cmp j k ≡ Less → AllAbove k ms → AllAbove j ms
above_earlier no_members j k order h = tt
above_earlier (member l d ms) j k order h = (nat_list_cmp_total.trans j k l order h.0, above_earlier ms j k order h.1)

above_sorted : (ms : Members) (k : Text) → is_before k ms ≡ true → members_are_sorted ms ≡ true → AllAbove k ms
above_sorted no_members k order sorted = tt
above_sorted (member l d ms) k order sorted =
    let (front, more) = and_parts (is_before l ms && is_sorted d) (members_are_sorted ms) sorted in
    let (behind, here) = and_parts (is_before l ms) (is_sorted d) front in
    let less = less_is (slice_cmp nat_cmp k l) order in
    (less, above_earlier ms k l less (above_sorted ms l behind more))

none_above : (ms : Members) (k : Text) → AllAbove k ms → get_member k ms ≡ None
none_above no_members k h = refl
none_above (member l d ms) k h = rw h.0 (none_above ms k h.1)

tail_at : (o : Ordering) (name l : Text) (d e : Data) (ms : Members) → slice_cmp nat_cmp name l ≡ o → AllAbove l ms
    → get_member name ms ≡ Some d → get_member name (member l e ms) ≡ Some d
tail_at Less name l d e ms is above at = rw is at
tail_at Equal name l d e ms is above at =
    let same : name ≡ l = equal_texts name l is in
    let none : get_member l ms ≡ None = none_above ms l above in
    let some : get_member l ms ≡ Some d = subst (λ (t : Text). get_member t ms ≡ Some d) same at in
    absurd cc
tail_at Greater name l d e ms is above at = rw is at

-- the value at the key, if there is one, is at most so deep
abbrev Found : ℕ → Members → Text → Type 0
Found n ms name = (d : Data) → is_sorted d ≡ true → get_member name ms ≡ Some d → depth d ≤ n

head_known : (b : Bool) (known : List Text) (l : Text) (keys : List Text) → is_known known l ≡ b
    → unknown_in known (l ∷ keys) ≡ None → (is_known known l ≡ true) × (unknown_in known keys ≡ None)
head_known true known l keys is e = (is, rw is at e)
head_known false known l keys is e =
    let some : Some l ≡ None = rw is at e in
    absurd cc

known_deep : (n : ℕ) (known : List Text) (ms : Members) → members_are_sorted ms ≡ true → unknown_in known (key_names ms)
    ≡ None → ((name : Text) → is_known known name ≡ true → Found n ms name) → members_depth ms ≤ n
known_deep n known no_members s e found = omega arith
known_deep n known (member l d ms) s e found =
    let (front, more) = and_parts (is_before l ms && is_sorted d) (members_are_sorted ms) s in
    let (behind, here) = and_parts (is_before l ms) (is_sorted d) front in
    let k = head_known (is_known known l) known l (key_names ms) refl e in
    let own : get_member l (member l d ms) ≡ Some d = rw (tied_itself nat_list_cmp_total l) refl in
    let above = above_sorted ms l behind more in
    greater (depth d) (members_depth ms) n (found l k.0 d here own)
    (known_deep n known ms more k.1
    (λ name there f sorted at. found name there f sorted
    (tail_at (slice_cmp nat_cmp name l) name l f d ms refl above at)))

each_name : (n : ℕ) (ms : Members) (names : List Text) → AllByRecursion (Found n ms) names → (name : Text)
    → is_known names name ≡ true → Found n ms name
each_name n ms [] h name there = absurd cc
each_name n ms (k ∷ ks) h name there =
    elim (or_cases (bytes_eq k name) (list_any (λ other. bytes_eq other name) ks) there) [
      | inl here ↦ subst (Found n ms) ((bytes_eq-Decides k name).0 here) h.0
      | inr later ↦ each_name n ms ks h.1 name later
    ]

table_deep : {A : Type 0} (n : ℕ) (keys : Path → Members → Result A PlanFault)
    → ((t : Path) (ms : Members) (x : A) → members_are_sorted ms ≡ true → keys t ms ≡ Ok x → members_depth ms ≤ n)
    → Deep (suc n) (table keys)
table_deep n keys h path (string y) x s e = absurd cc
table_deep n keys h path (integer y) x s e = absurd cc
table_deep n keys h path (float y) x s e = absurd cc
table_deep n keys h path (boolean y) x s e = absurd cc
table_deep n keys h path (datetime y) x s e = absurd cc
table_deep n keys h path (array y) x s e = absurd cc
table_deep n keys h path (data_table ms) x s e = let few = h _ ms x s e in omega (arith, few)

of_required : {A : Type 0} (n : ℕ) (t : Path) (ms : Members) (name : Text) (read : Reader A) (x : A) → Deep n read
    → required_value t ms name read ≡ Ok x → Found n ms name
of_required n t ms name read x h e d sorted at =
    let a = first (or_fault (get_member name ms) _) _ x e in
    let there : get_member name ms ≡ Some a.0 = given (get_member name ms) _ a.0 a.1 in
    let same : a.0 ≡ d = cc in
    h (Key name ∷ t) d x sorted (subst (λ (z : Data). read (Key name ∷ t) z ≡ Ok x) same a.2)

of_optional : {A : Type 0} (n : ℕ) (t : Path) (ms : Members) (name : Text) (default : A) (read : Reader A) (x : A)
    → Deep n read → optional t ms name default read ≡ Ok x → Found n ms name
of_optional n t ms name default read x h e d sorted at = h (Key name ∷ t) d x sorted (rw at at e)

given_deep : {A : Type 0} (n : ℕ) (read : Reader A) → Deep n read → Deep n (walk_given read)
given_deep n read h path d x s e =
    let a = first (read path d) (λ y. Ok (Some y)) x e in
    h path d a.0 s a.1

-- ---- tables, key by key

bar_deep : (t : Path) (ms : Members) (x : BarPlan) → members_are_sorted ms ≡ true → bar_keys t ms ≡ Ok x
    → members_depth ms ≤ 0
unfolding bar_keys
bar_deep t ms x s e =
    let k = first (only_known t bar_names ms) _ x e in
    let base = first (required_value t ms (codes "base") (number (within 0 greatest))) _ x k.2 in
    let pages = first (required_value t ms (codes "pages") (number (within 0 1048576))) _ x base.2 in
    let attributes = first (optional t ms (codes "attributes") 0 (number (within 0 15))) _ x pages.2 in
    known_deep 0 bar_names ms s (none_refused t (unknown_in bar_names (key_names ms)) k.1) (each_name 0 ms bar_names (
      of_required 0 t ms (codes "base") (number (within 0 greatest)) base.0 (number_deep 0 (within 0 greatest)) base.1,
      (
        of_required 0 t ms (codes "pages") (number (within 0 1048576)) pages.0 (number_deep 0 (within 0 1048576))
            pages.1,
        (
          of_optional 0 t ms (codes "attributes") 0 (number (within 0 15)) attributes.0 (number_deep 0 (within 0 15))
              attributes.1,
          tt,
        ),
      ),
    ))

region_deep : (t : Path) (ms : Members) (x : Region) → members_are_sorted ms ≡ true → region_keys t ms ≡ Ok x
    → members_depth ms ≤ 0
unfolding region_keys
region_deep t ms x s e =
    let k = first (only_known t region_names ms) _ x e in
    let base = first (required_value t ms (codes "base") (number (bounds_of_form 0 greatest Pages))) _ x k.2 in
    let size = first (required_value t ms (codes "size") (number (bounds_of_form 4096 greatest Pages))) _ x base.2 in
    known_deep 0 region_names ms s (none_refused t (unknown_in region_names (key_names ms)) k.1)
    (each_name 0 ms region_names (
      of_required 0 t ms (codes "base") (number (bounds_of_form 0 greatest Pages)) base.0
          (number_deep 0 (bounds_of_form 0 greatest Pages)) base.1,
      (
        of_required 0 t ms (codes "size") (number (bounds_of_form 4096 greatest Pages)) size.0
            (number_deep 0 (bounds_of_form 4096 greatest Pages)) size.1,
        tt,
      ),
    ))

stream_deep : (t : Path) (ms : Members) (x : StreamPlan) → members_are_sorted ms ≡ true → stream_keys t ms ≡ Ok x
    → members_depth ms ≤ 2
unfolding stream_keys
stream_deep t ms x s e =
    let k = first (only_known t stream_names ms) _ x e in
    let id = first (required_value t ms (codes "id") (number (within 0 255))) _ x k.2 in
    let kind = first (required_value t ms (codes "kind") stream_kind) _ x id.2 in
    let aggregation = first (optional t ms (codes "mode") 1 (number (bounds_of_form 1 8 UnitMode))) _ x kind.2 in
    let rid = first (optional t ms (codes "rid") None (id_range (is_selective_kind kind.0))) _ x aggregation.2 in
    let ranges = first (optional t ms (codes "ranges") []
    (list (only_if (is_selective_kind kind.0) (count_between 0 8)) address_range)) _ x rid.2 in
    let default = first (optional t ms (codes "default") false (truth_if (is_selective_kind kind.0))) _ x ranges.2 in
    let tcs = first (optional t ms (codes "tcs") []
    (list (only_if (not (is_selective_kind kind.0)) any_number) (number (within 0 7)))) _ x default.2 in
    let closed = first (optional t ms (codes "closed") false truth) _ x tcs.2 in
    known_deep 2 stream_names ms s (none_refused t (unknown_in stream_names (key_names ms)) k.1)
    (each_name 2 ms stream_names (
      of_required 2 t ms (codes "id") (number (within 0 255)) id.0 (number_deep 2 (within 0 255)) id.1,
      (
        of_required 2 t ms (codes "kind") stream_kind kind.0 (kind_deep 2) kind.1,
        (
          of_optional 2 t ms (codes "mode") 1 (number (bounds_of_form 1 8 UnitMode)) aggregation.0
              (number_deep 2 (bounds_of_form 1 8 UnitMode)) aggregation.1,
          (
            of_optional 2 t ms (codes "rid") None (id_range (is_selective_kind kind.0)) rid.0
                (deeper 1 2 (id_range (is_selective_kind kind.0)) (lit≤ tt) (ids_deep (is_selective_kind kind.0)))
                rid.1,
            (
              of_optional 2 t ms (codes "ranges") []
                  (list (only_if (is_selective_kind kind.0) (count_between 0 8)) address_range) ranges.0
                  (list_deep 1 (only_if (is_selective_kind kind.0) (count_between 0 8)) address_range addresses_deep)
                  ranges.1,
              (
                of_optional 2 t ms (codes "default") false (truth_if (is_selective_kind kind.0)) default.0
                    (truth_if_deep 2 (is_selective_kind kind.0)) default.1,
                (
                  of_optional 2 t ms (codes "tcs") []
                      (list (only_if (not (is_selective_kind kind.0)) any_number) (number (within 0 7))) tcs.0
                      (list_deep 1 (only_if (not (is_selective_kind kind.0)) any_number) (number (within 0 7))
                      (number_deep 1 (within 0 7))) tcs.1,
                  (
                    of_optional 2 t ms (codes "closed") false truth closed.0 (truth_deep 2) closed.1,
                    tt,
                  ),
                ),
              ),
            ),
          ),
        ),
      ),
    ))

abbrev register_names : List Text
register_names = codes "command" ∷ codes "msix" ∷ codes "lnr" ∷ codes "cacheline" ∷ codes "tph" ∷ codes "pasid"
    ∷ codes "ats" ∷ []

registers_found : (t : Path) (ms : Members) (x : RegisterDraft) → register_keys t ms ≡ Ok x
    → AllByRecursion (Found 2 ms) register_names
unfolding register_keys
registers_found t ms x e =
    let command = first (optional t ms (codes "command") 0 (number (within 0 65535))) _ x e in
    let msix = first (optional t ms (codes "msix") 0 (number (within 0 65535))) _ x command.2 in
    let lnr = first (optional t ms (codes "lnr") 0 (number (within 0 65535))) _ x msix.2 in
    let line = first (optional t ms (codes "cacheline") 0 (number (within 0 255))) _ x lnr.2 in
    let tph = first (optional t ms (codes "tph") 0 (number (within 0 4294967295))) _ x line.2 in
    let pasid = first (optional t ms (codes "pasid") 0 (number (within 0 65535))) _ x tph.2 in
    let ats = first (optional t ms (codes "ats") 0 (number (within 0 65535))) _ x pasid.2 in (
      of_optional 2 t ms (codes "command") 0 (number (within 0 65535)) command.0 (number_deep 2 (within 0 65535))
          command.1,
      (
        of_optional 2 t ms (codes "msix") 0 (number (within 0 65535)) msix.0 (number_deep 2 (within 0 65535)) msix.1,
        (
          of_optional 2 t ms (codes "lnr") 0 (number (within 0 65535)) lnr.0 (number_deep 2 (within 0 65535)) lnr.1,
          (
            of_optional 2 t ms (codes "cacheline") 0 (number (within 0 255)) line.0 (number_deep 2 (within 0 255))
                line.1,
            (
              of_optional 2 t ms (codes "tph") 0 (number (within 0 4294967295)) tph.0
                  (number_deep 2 (within 0 4294967295)) tph.1,
              (
                of_optional 2 t ms (codes "pasid") 0 (number (within 0 65535)) pasid.0 (number_deep 2 (within 0 65535))
                    pasid.1,
                (
                  of_optional 2 t ms (codes "ats") 0 (number (within 0 65535)) ats.0 (number_deep 2 (within 0 65535))
                      ats.1,
                  tt,
                ),
              ),
            ),
          ),
        ),
      ),
    )

interface_deep : (t : Path) (ms : Members) (x : InterfaceDraft) → members_are_sorted ms ≡ true → interface_keys 2 t ms
    ≡ Ok x → members_depth ms ≤ 2
unfolding interface_keys
interface_deep t ms x s e =
    let k = first (only_known t (interface_names 2) ms) _ x e in
    let rid = first (required_value t ms (codes "rid") (number (within 0 65535))) _ x k.2 in
    let bound = first (required_value t ms (codes "stream") any_integer) _ x rid.2 in
    let flags = first (optional t ms (codes "flags") 0 (number (within 0 31))) _ x bound.2 in
    let offset = first (optional t ms (codes "offset") 0 (number (bounds_of_form 0 greatest Pages))) _ x flags.2 in
    let registers = first (register_keys t ms) _ x offset.2 in
    let reads = first (optional t ms (codes "reads") false truth) _ x registers.2 in
    let info = first (optional t ms (codes "info") [] (hex_bytes 1024)) _ x reads.2 in
    let bars = first (optional t ms (codes "bars") [] (list (count_between 0 6) (table bar_keys))) _ x info.2 in
    let found = registers_found t ms registers.0 registers.1 in
    known_deep 2 (interface_names 2) ms s (none_refused t (unknown_in (interface_names 2) (key_names ms)) k.1)
    (each_name 2 ms (interface_names 2) (
      found.1.1.1.1.1.0,
      (
        found.1.1.1.1.1.1.0,
        (
          of_optional 2 t ms (codes "reads") false truth reads.0 (truth_deep 2) reads.1,
          (
            of_required 2 t ms (codes "rid") (number (within 0 65535)) rid.0 (number_deep 2 (within 0 65535)) rid.1,
            (
              of_required 2 t ms (codes "stream") any_integer bound.0 (integer_deep 2) bound.1,
              (
                of_optional 2 t ms (codes "flags") 0 (number (within 0 31)) flags.0 (number_deep 2 (within 0 31)) flags.1,
                (
                  of_optional 2 t ms (codes "offset") 0 (number (bounds_of_form 0 greatest Pages)) offset.0
                      (number_deep 2 (bounds_of_form 0 greatest Pages)) offset.1,
                  (
                    found.0,
                    (
                      found.1.0,
                      (
                        found.1.1.0,
                        (
                          found.1.1.1.0,
                          (
                            found.1.1.1.1.0,
                            (
                              of_optional 2 t ms (codes "info") [] (hex_bytes 1024) info.0 (hex_deep 2 1024) info.1,
                              (
                                of_optional 2 t ms (codes "bars") [] (list (count_between 0 6) (table bar_keys)) bars.0
                                    (list_deep 1 (count_between 0 6) (table bar_keys) (table_deep 0 bar_keys bar_deep))
                                    bars.1,
                                tt,
                              ),
                            ),
                          ),
                        ),
                      ),
                    ),
                  ),
                ),
              ),
            ),
          ),
        ),
      ),
    ))

link_deep : (t : Path) (ms : Members) (x : LinkDraft) → members_are_sorted ms ≡ true → link_keys 2 t ms ≡ Ok x
    → members_depth ms ≤ 4
unfolding link_keys
link_deep t ms x s e =
    let k = first (only_known t (link_names 2) ms) _ x e in
    let nonces = first (optional t ms (codes "nonces") [] (list (count_between 0 1024) key_bytes)) _ x k.2 in
    let streams = first (required_value t ms (codes "stream") (list (count_between 1 16) (table stream_keys))) _ x
    nonces.2 in
    let interfaces = first (optional t ms (codes "interface") [] (list any_number (table (interface_keys 2)))) _ x
    streams.2 in
    let hop = first (optional t ms (codes "hop") None (walk_given (number (within 0 255)))) _ x interfaces.2 in
    let classes = first (optional t ms (codes "hop_tcs") None (walk_given (list any_number (number (within 0 7))))) _ x
    hop.2 in
    known_deep 4 (link_names 2) ms s (none_refused t (unknown_in (link_names 2) (key_names ms)) k.1)
    (each_name 4 ms (link_names 2) (
      of_optional 4 t ms (codes "hop") None (walk_given (number (within 0 255))) hop.0
          (given_deep 4 (number (within 0 255)) (number_deep 4 (within 0 255))) hop.1,
      (
        of_optional 4 t ms (codes "hop_tcs") None (walk_given (list any_number (number (within 0 7)))) classes.0
            (given_deep 4 (list any_number (number (within 0 7)))
            (list_deep 3 any_number (number (within 0 7)) (number_deep 3 (within 0 7)))) classes.1,
        (
          of_optional 4 t ms (codes "nonces") [] (list (count_between 0 1024) key_bytes) nonces.0
              (list_deep 3 (count_between 0 1024) key_bytes (key_deep 3)) nonces.1,
          (
            of_required 4 t ms (codes "stream") (list (count_between 1 16) (table stream_keys)) streams.0
                (list_deep 3 (count_between 1 16) (table stream_keys) (table_deep 2 stream_keys stream_deep)) streams.1,
            (
              of_optional 4 t ms (codes "interface") [] (list any_number (table (interface_keys 2))) interfaces.0
                  (list_deep 3 any_number (table (interface_keys 2)) (table_deep 2 (interface_keys 2) interface_deep))
                  interfaces.1,
              tt,
            ),
          ),
        ),
      ),
    ))

peer_deep : (t : Path) (ms : Members) (x : PeerPlan) → members_are_sorted ms ≡ true → peer_keys t ms ≡ Ok x
    → members_depth ms ≤ 0
unfolding peer_keys
peer_deep t ms x s e =
    let k = first (only_known t peer_names ms) _ x e in
    let id = first (required_value t ms (codes "id") (number (within 0 255))) _ x k.2 in
    let near = first (required_value t ms (codes "a") (number (within 0 7))) _ x id.2 in
    let far = first (required_value t ms (codes "b") (number (within 0 7))) _ x near.2 in
    let aggregation = first (optional t ms (codes "mode") 1 (number (bounds_of_form 1 8 UnitMode))) _ x far.2 in
    known_deep 0 peer_names ms s (none_refused t (unknown_in peer_names (key_names ms)) k.1)
    (each_name 0 ms peer_names (
      of_required 0 t ms (codes "id") (number (within 0 255)) id.0 (number_deep 0 (within 0 255)) id.1,
      (
        of_required 0 t ms (codes "a") (number (within 0 7)) near.0 (number_deep 0 (within 0 7)) near.1,
        (
          of_required 0 t ms (codes "b") (number (within 0 7)) far.0 (number_deep 0 (within 0 7)) far.1,
          (
            of_optional 0 t ms (codes "mode") 1 (number (bounds_of_form 1 8 UnitMode)) aggregation.0
                (number_deep 0 (bounds_of_form 1 8 UnitMode))
                aggregation.1,
            tt,
          ),
        ),
      ),
    ))

-- whose version is read as 2
two_read : (t : Path) (o : Option Data) → (or_fault o (refused (Key (codes "version") ∷ t) Missing)
    >>= λ d. number (within 1 2) (Key (codes "version") ∷ t) d) ≡ Ok 2 → is_two (option_and_then as_integer o) ≡ true
two_read t None e = absurd cc
two_read t (Some d) e = by (as_integer d) e
  where
    by : (z : Option ℤ)
        → (or_fault z (refused (Key (codes "version") ∷ t) Kind) >>= bounded_number (within 1 2)
        (Key (codes "version") ∷ t)) ≡ Ok 2
        → is_two z ≡ true
    by None e = absurd cc
    by (Some (pos n)) e = two n (admits (within 1 2) n) e
      where
        two : (n : ℕ) (b : Bool) → (if b then Ok n else Err (refused (Key (codes "version") ∷ t) (Range (pos n))))
            ≡ Ok 2
            → is_two (Some (pos n)) ≡ true
        two n true e = let same : n ≡ 2 = cc in rw same refl
        two n false e = absurd cc
    by (Some (negsuc n)) e = absurd cc

newer_read : (t : Path) (ms : Members) → required_value t ms (codes "version") (number (within 1 2)) ≡ Ok 2
    → is_newer ms ≡ true
newer_read t ms e = two_read t (get_member (codes "version") ms) e

same_version : (v : ℕ) (r : Result ℕ PlanFault) → r ≡ Ok v → r ≡ Ok 2 → v ≡ 2
same_version v r a b = cc

-- the version is 2
top_deep : (t : Path) (ms : Members) (x : PlanDraft) → members_are_sorted ms ≡ true
    → required_value t ms (codes "version") (number (within 1 2)) ≡ Ok 2 → top_keys t ms ≡ Ok x → members_depth ms ≤ 6
unfolding top_keys
top_deep t ms x s two e =
    let k = first (only_known t (top_names (is_newer ms)) ms) _ x e in
    let known : only_known t (top_names true) ms ≡ Ok k.0 = subst (λ (b : Bool). only_known t (top_names b) ms ≡ Ok k.0)
    (newer_read t ms two) k.1 in
    let version = first (required_value t ms (codes "version") (number (within 1 2))) _ x k.2 in
    let is : version.0 ≡ 2 = same_version version.0 _ version.1 two in
    let portion = first (optional t ms (codes "portion") 64 (number (within 16 65535))) _ x version.2 in
    let units = first (optional t ms (codes "units_per_key") 4294967296 (number (within 1 4294967296))) _ x portion.2 in
    let pool = first (required_value t ms (codes "pool") (list (count_between 6 6144) key_bytes)) _ x units.2 in
    let links = first (required_value t ms (codes "link") (list (count_between 1 8) (table (link_keys version.0)))) _ x
    pool.2 in
    let read : required_value t ms (codes "link") (list (count_between 1 8) (table (link_keys 2)))
    ≡ Ok links.0 = subst (λ (v : ℕ). required_value t ms (codes "link") (list (count_between 1 8) (table (link_keys v)))
    ≡ Ok links.0) is links.1 in
    let memory = first (optional t ms (codes "memory") [] (list (count_between 0 16) (table region_keys))) _ x links.2
    in
    let peers = first (optional t ms (codes "p2p") [] (list (count_between 0 8) (table peer_keys))) _ x memory.2 in
    known_deep 6 (top_names true) ms s (none_refused t (unknown_in (top_names true) (key_names ms)) known)
    (each_name 6 ms (top_names true) (
      of_optional 6 t ms (codes "p2p") [] (list (count_between 0 8) (table peer_keys)) peers.0
          (list_deep 5 (count_between 0 8) (table peer_keys)
          (deeper 1 5 (table peer_keys) (lit≤ tt) (table_deep 0 peer_keys peer_deep))) peers.1,
      (
        of_required 6 t ms (codes "version") (number (within 1 2)) version.0 (number_deep 6 (within 1 2)) version.1,
        (
          of_optional 6 t ms (codes "portion") 64 (number (within 16 65535)) portion.0 (number_deep 6 (within 16 65535))
              portion.1,
          (
            of_optional 6 t ms (codes "units_per_key") 4294967296 (number (within 1 4294967296)) units.0
                (number_deep 6 (within 1 4294967296)) units.1,
            (
              of_required 6 t ms (codes "pool") (list (count_between 6 6144) key_bytes) pool.0
                  (list_deep 5 (count_between 6 6144) key_bytes (key_deep 5)) pool.1,
              (
                of_required 6 t ms (codes "link") (list (count_between 1 8) (table (link_keys 2))) links.0
                    (list_deep 5 (count_between 1 8) (table (link_keys 2)) (table_deep 4 (link_keys 2) link_deep)) read,
                (
                  of_optional 6 t ms (codes "memory") [] (list (count_between 0 16) (table region_keys)) memory.0
                      (list_deep 5 (count_between 0 16) (table region_keys)
                      (deeper 1 5 (table region_keys) (lit≤ tt) (table_deep 0 region_keys region_deep))) memory.1,
                  tt,
                ),
              ),
            ),
          ),
        ),
      ),
    ))

-- a table that means a plan in version 2
pub plan_deep : (ms : Members) (p : Plan) → members_are_sorted ms ≡ true
    → required_value [] ms (codes "version") (number (within 1 2)) ≡ Ok 2 → table_plan ms ≡ Ok p → members_depth ms ≤ 6
plan_deep ms p s two e =
    let d = first (top_keys [] ms) (λ d. rules d >>= λ _. Ok (drafted_plan d)) p e in
    top_deep [] ms d.0 s two d.1
