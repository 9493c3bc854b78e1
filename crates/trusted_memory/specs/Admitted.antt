-- Which writes are admitted (this profile): the trusted ones of a running interface, on its bound stream, under a draw
-- from its floor on, whose bytes lie in one region and cross no 4 KiB boundary.
use Rattle.std.specs.Prelude.{ℕ, ◌==◌, ◌&&◌, nat_le, not, Bool, false, if◌then◌else◌, List, Option, Some, None}
use Rattle.ide_types.specs.declared.binding.Binding.{Binding}
use Rattle.ide_types.specs.declared.plan.Region.{Region}
use Rattle.trusted_memory.specs.declared.grant.Grant.{Grant}
use Rattle.trusted_memory.specs.declared.span.Span.{Span}
use Rattle.trusted_memory.specs.Spans.{span_byte_count, crosses}
use Rattle.trusted_memory.specs.Regions.{in_one_region}
use Rattle.trusted_memory.specs.Writes.{Write}

-- on the bound stream, under a draw from the floor on
abbrev pub is_on_bound : ℕ → ℕ → Option Binding → Bool
is_on_bound stream draw None = false
is_on_bound stream draw (Some b) = (b.stream == stream) && nat_le b.floor draw

-- in one region, and not across 4 KiB
abbrev pub is_placed : List Region → Span → Bool
is_placed regions s = in_one_region regions s.address (span_byte_count s) && not (crosses s)

abbrev pub if_placed : List Region → Bool → Option Write → Option Write
if_placed regions admitted None = None
if_placed regions admitted (Some w) = if admitted && is_placed regions w.span then Some w else None

-- the write, if it is one and is admitted
abbrev pub admitted_write : List Region → Bool → Grant → Option Write → Option Write
admitted_write regions t grant o = if_placed regions (t && is_on_bound grant.stream grant.draw grant.bound) o
