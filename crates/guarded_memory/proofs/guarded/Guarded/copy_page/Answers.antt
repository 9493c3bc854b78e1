use Rattle.std.proofs.Common.{◌≡◌, ℕ, ◌+◌, ◌/◌, ◌%◌, ◌<◌, ◌≤◌, List, [], get_or, length, Option, unwrap_or, sym, ap, ◌∙◌}
use Rattle.std.proofs.Common.{subst, arith}
use Rattle.trusted_memory.specs.Memory.{bytes_from}
use Rattle.trusted_memory.proofs.Seen.{is_bytes_from}
use Rattle.guarded_memory.specs.declared.names.PageName.{PageName}
use Rattle.guarded_memory.specs.Contents.{name_at, bytes_of_page, byte_in_pages}
use Rattle.guarded_memory.proofs.guarded.Guarded.copy_page.Goals as goal

in_page : (es : List (PageName × List ℕ)) (i b at k n : ℕ) → k < n → at % 4096 + n ≤ 4096
    → get_or (bytes_of_page es (name_at i b at)) (at % 4096 + k) 0 ≡ byte_in_pages es i b (at + k)
in_page es i b at k n less fits =
    let page : at / 4096 ≡ (at + k) / 4096 = omega arith in
    let place : at % 4096 + k ≡ (at + k) % 4096 = omega arith in
    λ j. get_or (bytes_of_page es (record { interface = i; bar = b; number = page j })) (place j) 0

copied : (es : List (PageName × List ℕ)) (i b at : ℕ) (page s : List ℕ) (n : ℕ) → at % 4096 + n ≤ 4096
    → page ≡ bytes_of_page es (name_at i b at) → length s ≡ n
    → ((k : ℕ) → k < n → get_or s k 0 ≡ get_or page (at % 4096 + k) 0) → s ≡ bytes_from (byte_in_pages es i b) at n
copied es i b at page s n fits found long read =
    is_bytes_from (byte_in_pages es i b) at s
    (λ k less.
    let below : k < n = subst (λ (m : ℕ). k < m) long less in
    read k below ∙ ap (λ (p : List ℕ). get_or p (at % 4096 + k) 0) found ∙ in_page es i b at k n below fits)
    ∙ ap (bytes_from (byte_in_pages es i b) at) long

pub returns-in-Some-clause-bytes : goal.returns-in-Some-clause-bytes
returns-in-Some-clause-bytes c =
    let fits : c.args.offset % 4096 + length c.args.buf.now ≤ 4096 = omega (arith, c.if-buf-start.false) in
    let found = ap (λ (o : Option (List ℕ)). unwrap_or o []) c.in-Some.ensures.value
    ∙ ap (λ (n : PageName). bytes_of_page c.self.inside.pages.entries n) c.name_at.ensures in
    rw (← c.self.view_is)
    (copied c.self.inside.pages.entries c.args.interface c.args.bar c.args.offset c.in-Some.page.now c.read.new.buf
    (length c.args.buf.now) fits found c.read.ensures.long c.read.ensures.bytes)
