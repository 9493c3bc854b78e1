use Rattle.std.proofs.Common.{◌≡◌, ◌/◌, ℕ, List, [], Option, Some, unwrap_or, is_some, refl, sym, ap, ◌∙◌, subst}
use Rattle.std.proofs.lemmas.Bool.{true≢false}
use Rattle.std.specs.Option.{IsSome}
use Rattle.trusted_memory.specs.Writes.{write_of}
use Rattle.trusted_memory.proofs.Written.{PutsPage, paged-written, byte_at-written, has_page-lookup}
use Rattle.trusted_memory.proofs.trusted.Trusted.store.Goals as goal
use Rattle.trusted_memory.proofs.trusted.Trusted.store.Goals.{in-Some, in_default}

is_some_of : {X : Type 0} (o : Option X) (x : X) → Some x ≡ o → IsSome o
is_some_of {X} o x e = subst (λ (p : Option X). IsSome p) e refl

-- the write lies in one page, so the page that is provided takes all its bytes, and no other page changes
pub returns-clause-bytes : goal.returns-clause-bytes
returns-clause-bytes c = elim c.match-get_mut.branch [
  | in-Some w ↦
      let found = w.in-Some.ensures.value in
      let new = w.write.new.self in
      let through = c.get_mut.follows.holds new in
      let puts : PutsPage (c.args.write.now.span.address / 4096) new c.self.inside.pages.entries
      (c.get_mut.follows.lender new).entries =
      record { at = (through.3 (is_some_of _ _ found)).0 } in
      let was = ap (λ (o : Option (List ℕ)). unwrap_or o []) (sym found) in
      let inside = rw (← c.self.view_is) at c.requires.inside in
      rw (w.self-inside-is, ← c.self.view_is)
      (byte_at-written _ _ _ (write_of c.args.write.now) inside
      (paged-written (write_of c.args.write.now) _ new _ _ c.requires.in_page was w.write.ensures.written puts))
  | in_default w ↦
      let none = w.in_default.ensures.value in
      let there = rw (← c.self.view_is) at c.requires.there in
      let lookup = has_page-lookup c.self.inside.regions.items c.self.inside.pages.entries 0
      (c.args.write.now.span.address / 4096) in
      absurd (true≢false (sym there ∙ lookup ∙ ap (λ (o : Option (List ℕ)). is_some o) (sym none)))
]
