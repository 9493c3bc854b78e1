use Rattle.std.proofs.Common.{◌≡◌, ◌%◌, ℕ, Bool, true, false, cond, List, [], get_or, Option, unwrap_or, sym, ap, ◌∙◌}
use Rattle.trusted_memory.specs.Regions.{in_region}
use Rattle.trusted_memory.specs.Pages.{paged_byte}
use Rattle.trusted_memory.proofs.Seen.{byte_in_regions-seen}
use Rattle.trusted_memory.proofs.Written.{byte_at-seen}
use Rattle.trusted_memory.proofs.trusted.Trusted.byte.Goals as goal

pub returns-then-not-in_region : goal.returns-then-not-in_region
returns-then-not-in_region c =
    let out : in_region c.self.inside.regions.items c.args.at ≡ false = rw c.deref.ensures.value at
    (sym c.in_region.ensures ∙ c.if-not-in_region.true) in
    let byte = paged_byte c.self.inside.pages.entries in
    rw (← c.self.view_is)
    (sym (byte_in_regions-seen byte c.self.inside.regions.items c.args.at ∙ ap (λ (t : Bool). cond t (byte c.args.at) 0)
    out))

pub returns-in-Some : goal.returns-in-Some
returns-in-Some c =
    let inside : in_region c.self.inside.regions.items c.args.at ≡ true = rw c.deref.ensures.value at
    (sym c.in_region.ensures ∙ c.if-not-in_region.false) in
    let found = ap (λ (o : Option (List ℕ)). get_or (unwrap_or o []) (c.args.at % 4096) 0) c.in-Some.ensures.value in
    rw (← c.self.view_is) (c.byte.ensures ∙ found ∙ sym (byte_at-seen _ c.self.inside.pages.entries c.args.at inside))

pub returns-in-None : goal.returns-in-None
returns-in-None c =
    let inside : in_region c.self.inside.regions.items c.args.at ≡ true = rw c.deref.ensures.value at
    (sym c.in_region.ensures ∙ c.if-not-in_region.false) in
    let found = ap (λ (o : Option (List ℕ)). get_or (unwrap_or o []) (c.args.at % 4096) 0) c.in-None.ensures.value in
    rw (← c.self.view_is) (found ∙ sym (byte_at-seen _ c.self.inside.pages.entries c.args.at inside))
