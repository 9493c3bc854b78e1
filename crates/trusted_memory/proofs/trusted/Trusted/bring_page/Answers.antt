use Rattle.std.proofs.Common.{◌≡◌, ◌++◌, ◌∷◌, [], false, ℕ, List, All, replicate, Some, cond, eqb, subst, sym, ap, ◌∙◌}
use Rattle.std.specs.Map.{lookup}
use Rattle.std.proofs.lemmas.List.Elements.{All-head, All-tail}
use Rattle.trusted_memory.specs.Memory.{has_page}
use Rattle.trusted_memory.specs.Pages.{IsBlank}
use Rattle.trusted_memory.proofs.Written.{PutsPage, paged-new, contents-same, has_page-put, no_page, count-put}
use Rattle.trusted_memory.proofs.trusted.Trusted.bring_page.Goals as goal

last_is_blank : (xs : List (List ℕ)) (p : List ℕ) → All IsBlank (xs ++ p ∷ []) → IsBlank p
last_is_blank [] p all = All-head IsBlank p [] all
last_is_blank (x ∷ xs) p all = last_is_blank xs p (All-tail IsBlank x (xs ++ p ∷ []) all)

puts : (c : goal.After-put) → PutsPage c.args.number (replicate 4096 0) c.self.inside.pages.entries
    c.put.new.pages.entries
puts c =
    let blank = last_is_blank c.pop.new.self.items c.in-Some.page
    (subst (λ (s : List (List ℕ)). All IsBlank s) c.in-Some.ensures.items c.self.invariant.blank) in
    record {
      at = λ q. c.put.ensures.there q
          ∙ ap (λ (s : List ℕ). cond (eqb c.args.number q) (Some s) (lookup (eqb q) c.self.inside.pages.entries)) blank;
    }

pub returns-in-Some-clause-contents : goal.returns-in-Some-clause-contents
returns-in-Some-clause-contents c =
    let none : has_page c.args.self.now c.args.number ≡ false = sym c.has_page.ensures ∙ c.if-has_page.false in
    let empty = no_page c.self.inside.regions.items c.self.inside.pages.entries 0 c.args.number
    (rw (← c.self.view_is) at none) in
    rw (← c.self.view_is) (contents-same c.self.inside.regions.items _ _ (paged-new c.args.number _ _ empty (puts c)))

pub returns-in-Some-clause-pages : goal.returns-in-Some-clause-pages
returns-in-Some-clause-pages c = rw (← c.self.view_is)
    (has_page-put c.self.inside.regions.items _ _ 0 0 c.args.number _ (puts c))

pub returns-in-Some-clause-count : goal.returns-in-Some-clause-count
returns-in-Some-clause-count c = rw (← c.self.view_is)
    (count-put c.self.inside.regions.items _ _ 0 c.args.number c.put.ensures.count)
