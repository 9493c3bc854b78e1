use Rattle.std.proofs.Common.{◌+◌, ◌^◌, ◌≤◌, Bool, cond, sym, ap, ◌∙◌, inl, inr, arith}
use Rattle.std.proofs.lemmas.Bool.{cases_Bool, ltb-true, ltb-false}
use Rattle.std.specs.Prelude.{nat_lt}
use Rattle.trusted_memory.specs.Pages.{paged_byte}
use Rattle.trusted_memory.proofs.Seen.{byte_in_regions-seen, none_high}
use Rattle.trusted_memory.proofs.trusted.Trusted.byte_behind.Goals as goal

pub returns-in-None : goal.returns-in-None
returns-in-None c =
    let a = c.args.at + c.args.i in
    let high : 2 ^ 63 ≤ a = elim (cases_Bool (nat_lt a (2 ^ 64))) [
      | inl less ↦ absurd (c.in-None.ensures (ltb-true a (2 ^ 64) less))
      | inr more ↦ omega (arith, ltb-false a (2 ^ 64) more)
    ] in
    let byte = paged_byte c.self.inside.pages.entries in
    rw (← c.self.view_is)
    (sym (byte_in_regions-seen byte c.self.inside.regions.items a
    ∙ ap (λ (t : Bool). cond t (byte a) 0) (none_high c.self.inside.regions.items a c.self.invariant.fit high)))
