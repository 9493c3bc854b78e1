-- A write is admitted exactly if no cause blocks it, and packets lead from contents to contents.
use Rattle.std.proofs.Common.{◌≡◌, ℕ, Bool, true, false, cond, not, ◌&&◌, nat_le, nat_lt, ◌==◌, if◌then◌else◌, List, []}
use Rattle.std.proofs.Common.{◌∷◌, ◌++◌, Option, Some, None, is_some, refl, sym, ap, ◌∙◌, arith}
use Rattle.std.specs.Option.{option_or}
use Rattle.std.proofs.lemmas.Bool.Decides.{nat_tests}
use Rattle.ide_types.specs.declared.binding.Binding.{Binding}
use Rattle.ide_types.specs.declared.plan.Region.{Region}
use Rattle.event_verdicts.specs.declared.verdict.BlockCause.{BlockCause}
use Rattle.event_verdicts.specs.declared.verdict.BlockCause.TheVariants as cause
use Rattle.trusted_memory.specs.declared.grant.Grant.{Grant}
use Rattle.trusted_memory.specs.declared.span.Span.{Span}
use Rattle.trusted_memory.specs.Spans.{span_byte_count, enables, crosses}
use Rattle.trusted_memory.specs.Writes.{Write, payload_byte, byte_written, newest_first}
use Rattle.trusted_memory.specs.Regions.{in_one_region}
use Rattle.trusted_memory.specs.Causes.{grant_cause, place_cause, block_cause, block_effect, is_applied}
use Rattle.trusted_memory.specs.Admitted.{is_on_bound, is_placed, admitted_write}
use Rattle.trusted_memory.specs.Memory.{MemoryContents, byte_at, Leads}
use Rattle.trusted_memory.proofs.Turns.{byte_last_written-next}

-- ---- causes

placed_tests : (a b : Bool) → is_applied
    (block_effect (if not a then Some cause.Outside else if b then Some cause.Crosses else None)) ≡ (a && not b)
placed_tests a b = grind arith

bound_says : (e less le : Bool) (o : Option BlockCause) (x : Bool) → le ≡ not less → is_applied (block_effect o) ≡ x
    → is_applied (block_effect
    (option_or (if not e then Some cause.WrongStream else if less then Some cause.Stale else None) o))
    ≡ ((e && le) && x)
bound_says false less le o x is says = refl
bound_says true true le o x is says = rw is refl
bound_says true false le o x is says = rw is says

le_not_less : (m n : ℕ) → nat_le m n ≡ not (nat_lt n m)
le_not_less m n = grind (arith, nat_tests)

grant_says : (o : Option Binding) (stream draw : ℕ) (place : Option BlockCause) (x : Bool)
    → is_applied (block_effect place) ≡ x
    → is_applied (block_effect (option_or (grant_cause o stream draw) place)) ≡ (is_on_bound stream draw o && x)
grant_says None stream draw place x says = refl
grant_says (Some b) stream draw place x says =
    bound_says (b.stream == stream) (nat_lt draw b.floor) (nat_le b.floor draw) place x (le_not_less b.floor draw) says

pub cause_says : (regions : List Region) (s : Span) (t : Bool) (g : Grant)
    → is_applied (block_effect (block_cause regions s t g)) ≡
    ((t && is_on_bound g.stream g.draw g.bound) && is_placed regions s)
cause_says regions s false g = refl
cause_says regions s true g = grant_says g.bound g.stream g.draw (place_cause regions s) (is_placed regions s)
    (placed_tests (in_one_region regions s.address (span_byte_count s)) (crosses s))

pub some_if : (b : Bool) (w : Write) → b ≡ is_some (if b then Some w else None)
some_if b w = grind arith

pub admitted_says : (regions : List Region) (t : Bool) (g : Grant) (w : Write)
    → is_applied (block_effect (block_cause regions w.span t g)) ≡ is_some (admitted_write regions t g (Some w))
admitted_says regions t g w = cause_says regions w.span t g ∙ some_if
    ((t && is_on_bound g.stream g.draw g.bound) && is_placed regions w.span) w

by_effect : (o : Option BlockCause) (b : Bool) (w : Write) → is_applied (block_effect o) ≡ b
    → (o ≡ None → (if b then Some w else None) ≡ Some w)
    × ((x : BlockCause) → o ≡ Some x → (if b then Some w else None) ≡ None)
by_effect o b w e = (
  λ is. rw (sym e ∙ ap (λ (p : Option BlockCause). is_applied (block_effect p)) is) refl,
  λ x is. rw (sym e ∙ ap (λ (p : Option BlockCause). is_applied (block_effect p)) is) refl,
)

pub admitted_if_none : (regions : List Region) (t : Bool) (g : Grant) (w : Write)
    → block_cause regions w.span t g ≡ None → admitted_write regions t g (Some w) ≡ Some w
admitted_if_none regions t g w = (by_effect _ _ w (cause_says regions w.span t g)).0

-- ---- packets in turn

pub leads_applied : (m n : MemoryContents) (o : Option Write) (w : Write) → o ≡ Some w
    → ((a : ℕ) → byte_at n a ≡ byte_written w (byte_at m) a) → Leads m (o ∷ []) n
leads_applied m n o w is h older left a =
    let same : newest_first (o ∷ []) older ≡ w ∷ older = ap (λ (p : Option Write). newest_first (p ∷ []) older) is in
    rw same (h a ∙ ap (λ (b : ℕ). cond (enables w.span a) (payload_byte w a) b) (left a) ∙ sym
    (byte_last_written-next w older a))

newest_first-append : (os ps : List (Option Write)) (older : List Write) → newest_first (os ++ ps) older
    ≡ newest_first ps (newest_first os older)
newest_first-append [] ps older = refl
newest_first-append (None ∷ os) ps older = newest_first-append os ps older
newest_first-append (Some w ∷ os) ps older = newest_first-append os ps (w ∷ older)

pub leads_joined : (m n k : MemoryContents) (os ps : List (Option Write)) → Leads m os n → Leads n ps k
    → Leads m (os ++ ps) k
leads_joined m n k os ps first second older left =
    rw (newest_first-append os ps older) (second (newest_first os older) (first older left))
