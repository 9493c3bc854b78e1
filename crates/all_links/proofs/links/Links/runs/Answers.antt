use Rattle.std.specs.Prelude.{IfSome, Option}
use Rattle.all_links.proofs.Terms.{ℕ, subst, sym, ap, ◌∙◌}
use Rattle.line_arrivals.specs.{IsThere}
use Rattle.all_links.specs.Accesses.{place_runs}
use Rattle.all_links.proofs.Asked.{runs_is}
use Rattle.all_links.proofs.links.Links.runs.Goals as goal

pub returns-in-Some : goal.returns-in-Some
returns-in-Some c =
    runs_is c.args.self.now (c.in-Some.link, c.in-Some.place) c.runs.result
    (subst (λ (o : Option (ℕ × ℕ)). IfSome o (λ p. IsThere c.args.self.now.ends p.0 p.1)) c.in-Some.is c.requires)
    c.runs.ensures ∙ ap (place_runs c.args.self.now) (sym c.in-Some.is)
