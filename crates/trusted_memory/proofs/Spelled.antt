-- A completion has a spelling, if the fields of the read are in range and memory has bytes.
use Rattle.std.proofs.Common.{◌≡◌, ℕ, ◌+◌, ◌*◌, ◌%◌, ◌^◌, ◌<◌, ◌≤◌, Bool, true, false, cond, eqb, length, get_or, All}
use Rattle.std.proofs.Common.{refl}
use Rattle.std.proofs.Common.{◌∙◌, arith, lit<, Ok}
use Rattle.std.specs.List.{range_with_len}
use Rattle.std.proofs.lemmas.Bool.Decides.{nat_tests}
use Rattle.std.proofs.lemmas.List.FromFn.{length-map-range_with_len}
use Rattle.std.proofs.lemmas.List.Elements.{All-map}
use Rattle.tlp_layout.specs.Head.{FitsHead}
use Rattle.tlp_layout.specs.Tlp.{body_size}
use Rattle.tlp_layout.specs.Reading.{read_of}
use Rattle.tlp_layout.proofs.Readings.{read_spells_tlp, spells_whole}
use Rattle.trusted_memory.specs.Spans.{span_byte_count, is_enabled}
use Rattle.trusted_memory.specs.declared.read.MemReadView.{MemReadView}
use Rattle.trusted_memory.specs.Requests.{FitsRead}
use Rattle.trusted_memory.specs.Completions.{read_bytes, completion_head, completion, completion_bytes}

pub head_fits : (completer : ℕ) (r : MemReadView) → completer < 2 ^ 16 → FitsRead r
    → FitsHead (completion_head completer r)
head_fits completer r small fits = record {
  lead = record { tc = fits.tc; attr = fits.attr; at = lit< tt; length = omega arith };
  fields = (refl, small, (lit< tt, refl), omega arith, fits.requester, fits.tag, omega arith);
}

length-read : (n : ℕ) → 1 ≤ n → n ≤ 1024 → 4 * n ≡ 4 * cond (eqb (n % 1024) 0) 1024 (n % 1024)
length-read n least most = grind (arith, nat_tests)

pub length-read_bytes : (byte : ℕ → ℕ) (r : MemReadView) → FitsRead r → length (read_bytes byte r.span)
    ≡ body_size true (r.span.length % 1024)
length-read_bytes byte r fits =
    length-map-range_with_len _ 0 (span_byte_count r.span) ∙ length-read r.span.length fits.least fits.most

small_if : (b : Bool) (n : ℕ) → n < 256 → cond b n 0 < 256
small_if true n small = small
small_if false n small = lit< tt

pub read_bytes_small : (byte : ℕ → ℕ) (r : MemReadView) → ((a : ℕ) → byte a < 256)
    → All (λ b. b < 256) (read_bytes byte r.span)
read_bytes_small byte r small =
    let place : ℕ → ℕ → ℕ = get_or (range_with_len 0 (span_byte_count r.span)) in
    All-map (λ b. b < 256) _ (range_with_len 0 (span_byte_count r.span))
    (λ k d less. small_if (is_enabled r.span (place k d)) (byte (r.span.address + place k d))
    (small (r.span.address + place k d)))

pub reads_if_small : (completer : ℕ) (byte : ℕ → ℕ) (r : MemReadView) → completer < 2 ^ 16 → FitsRead r
    → All (λ b. b < 256) (read_bytes byte r.span)
    → read_of (completion_bytes completer byte r) ≡ Ok (completion completer byte r)
unfolding completion_bytes
reads_if_small completer byte r little fits small =
    let spells = spells_whole (completion_head completer r) (read_bytes byte r.span) (head_fits completer r little fits)
    (length-read_bytes byte r fits) small in
    (read_spells_tlp (completion completer byte r) (completion_bytes completer byte r)).0 spells.0
