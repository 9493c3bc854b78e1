use Rattle.std.proofs.Common.{◌≡◌, true, ℕ, List, [], Option, Some, None, unwrap_or, is_some, refl, sym, ap, ◌∙◌, subst}
use Rattle.std.specs.Map.{lookup}
use Rattle.std.proofs.lemmas.Bool.{true≢false}
use Rattle.std.specs.Option.{IsSome}
use Rattle.guarded_memory.specs.declared.names.PageName.{PageName}
use Rattle.guarded_memory.specs.Contents.{is_page_name}
use Rattle.guarded_memory.proofs.Paged.{PutsPage, byte_set_by, keeps_same}
use Rattle.guarded_memory.proofs.guarded.Guarded.set.Goals as goal
use Rattle.guarded_memory.proofs.guarded.Guarded.set.Goals.{in-Some, in_default}

is_some_of : {X : Type 0} (o : Option X) (x : X) → Some x ≡ o → IsSome o
is_some_of {X} o x e = subst (λ (p : Option X). IsSome p) e refl

-- the page is there, so it is found
not_found : (es : List (PageName × List ℕ)) (name named : PageName) → name ≡ named
    → is_some (lookup (is_page_name named) es) ≡ true → None ≡ lookup (is_page_name name) es → ⊥
not_found es name named same there none =
    true≢false (sym there ∙ ap (λ (n : PageName). is_some (lookup (is_page_name n) es)) (sym same)
    ∙ ap (λ (o : Option (List ℕ)). is_some o) (sym none))

pub returns-clause-bytes : goal.returns-clause-bytes
returns-clause-bytes c = elim c.match-get_mut.branch [
  | in-Some w ↦
      let found = w.in-Some.ensures.value in
      let new = w.set.new.self in
      let through = c.get_mut.follows.holds new in
      let puts : PutsPage c.name_at.result new c.self.inside.pages.entries (c.get_mut.follows.lender new).entries =
      record { there = (through.3 (is_some_of _ _ found)).0 } in
      let was = ap (λ (o : Option (List ℕ)). unwrap_or o []) (sym found) in
      rw (w.self-inside-is, ← c.self.view_is)
      (byte_set_by c.name_at.result c.args.interface c.args.bar c.args.offset c.args.value _ new _ _ c.name_at.ensures
      was w.set.ensures.long w.set.ensures.bytes puts)
  | in_default w ↦
      let there = rw (← c.self.view_is) at c.requires in
      absurd (not_found c.self.inside.pages.entries _ _ c.name_at.ensures there w.in_default.ensures.value)
]

pub returns-clause-pages : goal.returns-clause-pages
returns-clause-pages c = elim c.match-get_mut.branch [
  | in-Some w ↦
      let found = w.in-Some.ensures.value in
      let new = w.set.new.self in
      let through = c.get_mut.follows.holds new in
      let puts : PutsPage c.name_at.result new c.self.inside.pages.entries (c.get_mut.follows.lender new).entries =
      record { there = (through.3 (is_some_of _ _ found)).0 } in
      let was = ap (λ (o : Option (List ℕ)). is_some o) (sym found) in
      rw (w.self-inside-is, ← c.self.view_is) (keeps_same c.name_at.result new _ _ puts was)
  | in_default w ↦
      let there = rw (← c.self.view_is) at c.requires in
      absurd (not_found c.self.inside.pages.entries _ _ c.name_at.ensures there w.in_default.ensures.value)
]
