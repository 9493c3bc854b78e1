use Rattle.std.proofs.Common.{◌≡◌, ◌++◌, ◌∷◌, [], false, List, ℕ, All, replicate, Some, cond, subst, sym, ap, ◌∙◌}
use Rattle.std.specs.Map.{lookup}
use Rattle.std.proofs.lemmas.List.Elements.{All-head, All-tail}
use Rattle.trusted_memory.specs.Pages.{IsBlank}
use Rattle.guarded_memory.specs.Contents.{is_page_name, keeps_page}
use Rattle.guarded_memory.proofs.Paged.{PutsPage, byte_blank, no_page}
use Rattle.guarded_memory.proofs.guarded.Guarded.bring_page.Goals as goal

last_is_blank : (xs : List (List ℕ)) (p : List ℕ) → All IsBlank (xs ++ p ∷ []) → IsBlank p
last_is_blank [] p all = All-head IsBlank p [] all
last_is_blank (x ∷ xs) p all = last_is_blank xs p (All-tail IsBlank x (xs ++ p ∷ []) all)

puts : (c : goal.After-put) → PutsPage c.args.name (replicate 4096 0) c.self.inside.pages.entries
    c.put.new.pages.entries
puts c =
    let blank = last_is_blank c.pop.new.self.items c.in-Some.page
    (subst (λ (s : List (List ℕ)). All IsBlank s) c.in-Some.ensures.items c.self.invariant.blank) in
    record {
      there = λ q. c.put.ensures.there q ∙ ap (λ (s : List ℕ). cond (is_page_name c.args.name q) (Some s)
          (lookup (is_page_name q) c.self.inside.pages.entries)) blank;
    }

pub returns-in-Some-clause-bytes : goal.returns-in-Some-clause-bytes
returns-in-Some-clause-bytes c =
    let none : keeps_page c.args.self.now c.args.name ≡ false = sym c.keeps_page.ensures ∙ c.if-keeps_page.false in
    let empty = no_page c.args.name c.self.inside.pages.entries (rw (← c.self.view_is) at none) in
    rw (← c.self.view_is)
    (byte_blank c.args.name c.self.inside.pages.entries c.put.new.pages.entries empty (puts c))
