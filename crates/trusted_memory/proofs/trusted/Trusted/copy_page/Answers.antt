use Rattle.std.proofs.Common.{◌≡◌, ℕ, ◌+◌, ◌/◌, ◌%◌, ◌<◌, ◌≤◌, true, List, [], get_or, length, Option, unwrap_or, sym}
use Rattle.std.proofs.Common.{ap, ◌∙◌, subst, arith}
use Rattle.ide_types.specs.declared.plan.Region.{Region}
use Rattle.trusted_memory.specs.Regions.{in_one_region}
use Rattle.trusted_memory.specs.Memory.{byte_at, bytes_from}
use Rattle.trusted_memory.specs.Pages.{page_bytes, paged_byte, contents_seen}
use Rattle.trusted_memory.proofs.Seen.{is_bytes_from, each_in_region}
use Rattle.trusted_memory.proofs.Written.{byte_at-seen}
use Rattle.trusted_memory.proofs.trusted.Trusted.copy_page.Goals as goal

paged_behind : (es : List (ℕ × List ℕ)) (at k n : ℕ) → k < n → at % 4096 + n ≤ 4096
    → paged_byte es (at + k) ≡ get_or (page_bytes es (at / 4096)) (at % 4096 + k) 0
paged_behind es at k n less fits =
    let page : (at + k) / 4096 ≡ at / 4096 = omega arith in
    let place : (at + k) % 4096 ≡ at % 4096 + k = omega arith in
    λ i. get_or (page_bytes es (page i)) (place i) 0

one : (rs : List Region) (es : List (ℕ × List ℕ)) (at k n : ℕ) → in_one_region rs at n ≡ true → at % 4096 + n ≤ 4096
    → k < n → get_or (page_bytes es (at / 4096)) (at % 4096 + k) 0 ≡ byte_at (contents_seen rs es) (at + k)
one rs es at k n whole fits less =
    let low : at ≤ at + k = omega arith in
    let high : at + k < at + n = omega arith in
    sym (byte_at-seen rs es (at + k) (each_in_region rs at n (at + k) whole low high)
    ∙ paged_behind es at k n less fits)

copied : (rs : List Region) (es : List (ℕ × List ℕ)) (at : ℕ) (page s : List ℕ) (n : ℕ) → in_one_region rs at n ≡ true
    → at % 4096 + n ≤ 4096 → page ≡ page_bytes es (at / 4096) → length s ≡ n
    → ((k : ℕ) → k < n → get_or s k 0 ≡ get_or page (at % 4096 + k) 0)
    → s ≡ bytes_from (byte_at (contents_seen rs es)) at n
copied rs es at page s n whole fits found long read =
    is_bytes_from (byte_at (contents_seen rs es)) at s
    (λ k less.
    let below : k < n = subst (λ (m : ℕ). k < m) long less in
    read k below ∙ ap (λ (p : List ℕ). get_or p (at % 4096 + k) 0) found ∙ one rs es at k n whole fits below)
    ∙ ap (bytes_from (byte_at (contents_seen rs es)) at) long

pub returns-in-Some-clause-bytes : goal.returns-in-Some-clause-bytes
returns-in-Some-clause-bytes c =
    let whole : in_one_region c.self.inside.regions.items c.args.at (length c.args.buf.now) ≡ true =
    rw c.deref.ensures.value at (sym c.in_one_region.ensures ∙ c.if-not-in_one_region.false) in
    let fits : c.args.at % 4096 + length c.args.buf.now ≤ 4096 = omega (arith, c.if-buf-start.false) in
    let found = ap (λ (o : Option (List ℕ)). unwrap_or o []) c.in-Some.ensures.value in
    rw (← c.self.view_is)
    (copied c.self.inside.regions.items c.self.inside.pages.entries c.args.at c.in-Some.page.now c.read.new.buf
    (length c.args.buf.now) whole fits found c.read.ensures.long c.read.ensures.bytes)
