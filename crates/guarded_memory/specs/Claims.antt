-- Which interface and BAR claim a write (PCI Express Base 6.0 section 7.5.1.2.1, in this profile).
use Rattle.std.specs.Prelude.{ℕ, ◌+◌, ◌*◌, ◌&&◌, nat_le, Bool, if◌then◌else◌, List, [], ◌∷◌, Option, Some, None}
use Rattle.std.specs.Option.{option_or, option_map}
use Rattle.ide_types.specs.declared.interface.BarPlan.{BarPlan}
use Rattle.trusted_memory.specs.declared.span.Span.{Span}
use Rattle.trusted_memory.specs.Spans.{span_byte_count}
use Rattle.guarded_memory.specs.declared.status.InterfaceStatus.{InterfaceStatus}
use Rattle.guarded_memory.specs.declared.claims.Claim.{Claim}

-- n bytes from an address on are in the range: from the base up to, not including, the base and 4096 bytes for each
-- page, as whole numbers
abbrev pub holds_bytes : BarPlan → ℕ → ℕ → Bool
holds_bytes range at n = nat_le range.base at && nat_le (at + n) (range.base + 4096 * range.pages)

-- so are the bytes of all its double words
abbrev pub holds_span : BarPlan → Span → Bool
holds_span range s = holds_bytes range s.address (span_byte_count s)

-- the first that passes a test, with its number, counted from n on
abbrev pub first_passing : {X : Type 0} → (X → Bool) → ℕ → List X → Option (ℕ × X)
first_passing test n [] = None
first_passing test n (x ∷ xs) = if test x then Some (n, x) else first_passing test (n + 1) xs

-- the least BAR whose range holds it
abbrev pub holding_bar : List BarPlan → Span → Option (ℕ × BarPlan)
holding_bar bars s = first_passing (λ range. holds_span range s) 0 bars

-- of an interface with memory space on
abbrev pub claimed_bar : InterfaceStatus → Span → Option (ℕ × BarPlan)
claimed_bar x s = if x.memory_space then holding_bar x.bars s else None

abbrev pub new_claim : ℕ → InterfaceStatus → ℕ × BarPlan → Claim
new_claim i x bar = record { interface = i; status = x; bar = bar.0; range = bar.1 }

abbrev pub first_claim_from : ℕ → List InterfaceStatus → Span → Option Claim
first_claim_from n [] s = None
first_claim_from n (x ∷ xs) s = option_or (option_map (new_claim n x) (claimed_bar x s)) (first_claim_from (n + 1) xs s)

-- by the least interface, and its least BAR
abbrev pub claim_of : List InterfaceStatus → Span → Option Claim
claim_of xs s = first_claim_from 0 xs s
