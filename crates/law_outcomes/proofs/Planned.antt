-- What a sound topology says of an interface: its stream is one of its link, and its lock's flags and offset are
-- allowed.
use Rattle.std.proofs.Common.{◌≤◌, ◌≡◌, ℕ, zero, suc, ◌<◌, ◌==◌, ◌&&◌, ◌%◌, Bool, true, false, List, [], ◌∷◌, ◌++◌}
use Rattle.std.proofs.Common.{length, map, take, Some, refl, ap, sym, subst, ◌∙◌, arith, if◌then◌else◌}
use Rattle.std.specs.Prelude.{slice_get, ◌||◌, is_some}
use Rattle.std.specs.List.{slice_index_or}
use Rattle.aes_block.proofs.Entries.{all_below, all_below_at}
use Rattle.ide_types.specs.declared.plan.Plan.{Plan}
use Rattle.ide_types.specs.declared.plan.LinkPlan.{LinkPlan}
use Rattle.ide_types.specs.declared.stream.StreamPlan.{StreamPlan}
use Rattle.ide_types.specs.Plans.{has_selective, is_selective}
use Rattle.ide_types.specs.Fits.{FitsPlan}
use Rattle.spec_links.specs.Plan.{stream_plan, with_id, streams_by_link, behind_links}
unfoldable use Rattle.spec_links.specs.Plan.{stream_plan, streams_by_line}
use Rattle.spec_interfaces.specs.Sites.{Site, site_at}
use Rattle.interface_state.specs.Machine.{are_lock_flags, is_page}
use Rattle.law_memory.proofs.OwnStreams.{IsPlanned, found_planned}

planned : (plan : Plan) → FitsPlan plan → (i : ℕ) (x : Site) → site_at plan i ≡ Some x → IsPlanned plan.links x
planned plan fits i x is = found_planned plan fits (λ y. y.number == i) x is

-- ---- its stream

first_rows : {A : Type 0} (n : ℕ) (rows more zs : List (List A)) (i : ℕ) → i < length rows → i < n
    → slice_index_or (take n (rows ++ more) ++ zs) i [] ≡ slice_index_or rows i []
first_rows zero rows more zs i lt low = absurd (omega arith)
first_rows (suc n) [] more zs i lt low = absurd (omega arith)
first_rows (suc n) (r ∷ rows) more zs zero lt low = refl
first_rows (suc n) (r ∷ rows) more zs (suc i) lt low = first_rows n rows more zs i (omega arith) (omega arith)

own_row : (links : List LinkPlan) (i : ℕ) (l : LinkPlan) → slice_get links i ≡ Some l
    → (i < length (map (λ (k : LinkPlan). k.streams) links))
    × (slice_index_or (map (λ (k : LinkPlan). k.streams) links) i [] ≡ l.streams)
own_row [] i l is = absurd cc
own_row (k ∷ links) zero l is = let same : k ≡ l = cc in (omega arith, ap (λ (m : LinkPlan). m.streams) same)
own_row (k ∷ links) (suc i) l is = let rest = own_row links i l is in (omega (arith, rest.0), rest.1)

shorter : {A B : Type 0} (f : A → B) (xs : List A) → length (map f xs) ≡ length xs
shorter f [] = refl
shorter f (x ∷ xs) = ap suc (shorter f xs)

has_with_id : (id : ℕ) (ss : List StreamPlan) → has_selective id ss ≡ true → is_some (with_id ss id) ≡ true
has_with_id id [] is = absurd cc
has_with_id id (s ∷ ss) is =
    by (is_selective s.selector) (s.id == id) (has_selective id ss) (has_with_id id ss) is
  where
    by : (a b c : Bool) → (c ≡ true → is_some (with_id ss id) ≡ true) → ((a && b) || c) ≡ true
        → is_some (if b then Some s else with_id ss id) ≡ true
    by a true c more is = refl
    by true false c more is = more is
    by false false c more is = more is

pub stream_planned : (plan : Plan) → FitsPlan plan → (i : ℕ) (x : Site) → site_at plan i ≡ Some x
    → is_some (stream_plan plan x.link x.plan.stream) ≡ true
unfolding stream_plan streams_by_line
stream_planned plan fits i x is =
    let own = planned plan fits i x is in
    let row = own_row plan.links x.link own.link own.at in
    let few = fits.links_most in
    let size = shorter (λ (k : LinkPlan). k.streams) plan.links in
    let same = first_rows 8 (streams_by_link plan) _ (behind_links plan) x.link row.0 (omega (arith, row.0, few, size))
    ∙ row.1 in
    subst (λ (ss : List StreamPlan). is_some (with_id ss x.plan.stream) ≡ true) (sym same)
    (has_with_id x.plan.stream own.link.streams own.fits.stream)

-- ---- its lock

flags_test : all_below are_lock_flags 32 ≡ true
flags_test = refl

page_test : (offset : ℕ) → offset % 4096 ≡ 0 → is_page offset ≡ true
page_test offset is = rw is refl

pub flags_planned : (plan : Plan) → FitsPlan plan → (i : ℕ) (x : Site) → site_at plan i ≡ Some x
    → (are_lock_flags x.plan.flags ≡ true) × (is_page x.plan.offset ≡ true)
flags_planned plan fits i x is =
    let own = planned plan fits i x is in
    let most = own.fits.flags in (
      all_below_at are_lock_flags 32 x.plan.flags flags_test (omega (arith, most)),
      page_test x.plan.offset own.fits.offset,
    )

pub bars_planned : (plan : Plan) → FitsPlan plan → (i : ℕ) (x : Site) → site_at plan i ≡ Some x
    → length x.plan.bars ≤ 6
bars_planned plan fits i x is = (planned plan fits i x is).fits.bars
