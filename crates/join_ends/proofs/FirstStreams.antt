-- Of the rows of streams of all lines: the manager's operations, its names, and the states of the ports, as the
-- machine's first state has them.
use Rattle.std.proofs.Common.{◌≡◌, ℕ, suc, zero, ◌+◌, List, [], ◌∷◌, ◌++◌, map, refl, ap, ◌∙◌, subst, Some}
use Rattle.std.specs.Prelude.{replicate, slice_get, take}
use Rattle.std.proofs.lemmas.List.{map-append}
use Rattle.std.proofs.lemmas.Option.{none-some, same_Some}
use Rattle.ide_types.specs.declared.stream.StreamPlan.{StreamPlan}
use Rattle.spec_keys.specs.Operations.{StreamStage, Idle}
use Rattle.spec_links.specs.Plan.{in_eight}
use Rattle.machine_ports.specs.Machine.{first_ports}
use Rattle.spec_stream.specs.Stream.{StreamState}
use Rattle.key_host.specs.Streams.{StreamView, new_stream}
use Rattle.key_host.specs.Managers.{new_streams}
use Rattle.all_ends.specs.States.{ops_by_line, line_ops, views_after, name_of, names_of, names_from_line}
use Rattle.join_ends.proofs.FirstRows.{Rows, empty_rows, rows_from}

-- ---- operations

one_first : (line : ℕ) (ss : List StreamPlan) (rest : List StreamView)
    → (line_ops ss (new_streams line ss ++ rest) ≡ map (λ (s : StreamPlan). Idle) ss)
    × (views_after ss (new_streams line ss ++ rest) ≡ rest)
one_first line [] rest = (refl, refl)
one_first line (s ∷ ss) rest = let more = one_first line ss rest in
    (ap (λ (os : List StreamStage). Idle ∷ os) more.0, more.1)

pub ops_first : (line : ℕ) (rows : Rows) → ops_by_line rows (rows_from line rows)
    ≡ map (map (λ (s : StreamPlan). Idle)) rows
ops_first line [] = refl
ops_first line (ss ∷ rows) =
    let one = one_first line ss (rows_from (line + 1) rows) in
    (λ i. one.0 i ∷ ops_by_line rows (one.1 i))
    ∙ ap (λ (os : List (List StreamStage)). map (λ (s : StreamPlan). Idle) ss ∷ os) (ops_first (line + 1) rows)

-- ---- names

names_one : (line : ℕ) (ss : List StreamPlan) → map name_of (new_streams line ss) ≡ names_of line ss
names_one line [] = refl
names_one line (s ∷ ss) = ap (λ (ns : List (ℕ × ℕ)). (line, s.id) ∷ ns) (names_one line ss)

pub names_first : (line : ℕ) (rows : Rows) → map name_of (rows_from line rows) ≡ names_from_line line rows
names_first line [] = refl
names_first line (ss ∷ rows) = map-append name_of (new_streams line ss) (rows_from (line + 1) rows)
    ∙ (λ i. names_one line ss i ++ names_first (line + 1) rows i)

-- ---- each stream is new

each_one : (P : StreamView → Type 0) (line : ℕ) (ss : List StreamPlan) (rest : List StreamView)
    → ((id : ℕ) → P (new_stream line id)) → ((i : ℕ) (v : StreamView) → slice_get rest i ≡ Some v → P v)
    → (i : ℕ) (v : StreamView) → slice_get (new_streams line ss ++ rest) i ≡ Some v → P v
each_one P line [] rest new kept i v is = kept i v is
each_one P line (s ∷ ss) rest new kept zero v is = subst P (same_Some (new_stream line s.id) v is) (new s.id)
each_one P line (s ∷ ss) rest new kept (suc i) v is = each_one P line ss rest new kept i v is

pub each_first : (P : StreamView → Type 0) → ((line id : ℕ) → P (new_stream line id)) → (line : ℕ) (rows : Rows)
    → (i : ℕ) (v : StreamView) → slice_get (rows_from line rows) i ≡ Some v → P v
each_first P new line [] i v is = absurd (none-some v is)
each_first P new line (ss ∷ rows) i v is = each_one P line ss (rows_from (line + 1) rows) (new line)
    (each_first P new (line + 1) rows) i v is

-- ---- ports

pub ports_both : (xs ys : Rows) → first_ports (xs ++ ys) ≡ first_ports xs ++ first_ports ys
ports_both [] ys = refl
ports_both (x ∷ xs) ys = let more = ports_both xs ys in λ i. first_ports (x ∷ []) ++ more i

twice : ℕ → ℕ
twice zero = zero
twice (suc n) = suc (suc (twice n))

ports_taken : (n : ℕ) (rows : Rows) → first_ports (take n rows) ≡ take (twice n) (first_ports rows)
unfolding twice
ports_taken zero rows = refl
ports_taken (suc n) [] = refl
ports_taken (suc n) (r ∷ rows) = let more = ports_taken n rows in λ i. first_ports (r ∷ []) ++ more i

-- two rows of states for each of eight rows of streams
pub ports_eight : (rows : Rows) → first_ports (in_eight rows) ≡ take 16 (first_ports rows ++ replicate 16 [])
unfolding twice
ports_eight rows = ports_taken 8 (rows ++ empty_rows 8) ∙ ap (λ (ps : List (List StreamState)). take 16 ps)
    (ports_both rows (empty_rows 8))
