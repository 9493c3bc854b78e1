use Rattle.std.proofs.Common.{◌≡◌, true, false, length, refl, ap, sym, ◌∙◌, arith}
use Rattle.std.proofs.lemmas.Bool.{ltb-true}
use Rattle.std.proofs.lemmas.List.{length-set}
use Rattle.std.specs.Prelude.{Bool, nat_lt, if◌then◌else◌}
use Rattle.event_verdicts.specs.declared.verdict.Verdict.TheVariants as v
use Rattle.whole_links.proofs.Accesses.{reset_keeps, reset_turns}
use Rattle.whole_links.proofs.Ends.{any_plan, ends_noted}
use Rattle.whole_links.proofs.whole.WholeLinks.reset.Goals as goal

pub overflow_cast-link : goal.overflow_cast-link
overflow_cast-link c =
    let x = c.reset-verdict.ensures.ends any_plan in
    let less = ltb-true c.args.link _ (sym c.has_link.ensures ∙ c.if-has_link.true) in
    omega (arith, less, x.bounded.few)

pub at_mut-requires : goal.at_mut-requires
at_mut-requires c =
    let x = c.reset-verdict.ensures.ends any_plan in
    let less = ltb-true c.args.link _ (sym c.has_link.ensures ∙ c.if-has_link.true) in
    omega (arith, less, x.many, c.requires.bounded.whole)

pub clear_hops-requires-clause-here : goal.clear_hops-requires-clause-here
clear_hops-requires-clause-here c =
    let x = c.reset-verdict.ensures.ends any_plan in
    omega (
      arith,
      c.count-count.ensures.value,
      x.many,
      c.requires.bounded.whole,
      length-set c.args.self.now.accesses c.args.link c.reset.new.self,
    )

pub clear_hops-requires-clause-few : goal.clear_hops-requires-clause-few
clear_hops-requires-clause-few c =
    let x = c.reset-verdict.ensures.ends any_plan in omega (arith, c.count-count.ensures.value, x.bounded.few)

pub returns-then-has_link-clause-ends : goal.returns-then-has_link-clause-ends
returns-then-has_link-clause-ends c = λ plan.
    ends_noted plan c.args.self.now _ c.reset-verdict.new.self (c.reset-verdict.ensures.ends plan) c.requires.bounded
    refl (c.clear_hops.ensures.many ∙ length-set c.args.self.now.accesses c.args.link c.reset.new.self)

pub returns-then-has_link-clause-accesses : goal.returns-then-has_link-clause-accesses
returns-then-has_link-clause-accesses c = λ plan.
    let x = c.reset-verdict.ensures.ends plan in
    let there : nat_lt c.args.link (length c.args.self.now.links.ends.links) ≡ true =
    ap (nat_lt c.args.link) (sym x.many) ∙ sym c.has_link.ensures ∙ c.if-has_link.true in
    reset_turns plan c.args.ends.now c.args.self.now.accesses c.clear_hops.new.accesses c.args.link
    c.count-count.result c.at_mut.result.now c.reset.new.self c.reset-verdict.result
    (c.reset-verdict.ensures.verdict ∙ ap (λ (b : Bool). if b then v.Reset c.args.link else v.Nothing) there)
    (c.count-count.ensures.value ∙ x.many ∙ sym c.requires.bounded.whole) c.at_mut.ensures.value
    c.reset.ensures.kept c.reset.ensures.sizes c.reset.ensures.leads c.clear_hops.ensures

pub returns-else-has_link-clause-ends : goal.returns-else-has_link-clause-ends
returns-else-has_link-clause-ends c = λ plan.
    ends_noted plan c.args.self.now _ c.reset-verdict.new.self (c.reset-verdict.ensures.ends plan) c.requires.bounded
    refl refl

pub returns-else-has_link-clause-accesses : goal.returns-else-has_link-clause-accesses
returns-else-has_link-clause-accesses c = λ plan.
    let x = c.reset-verdict.ensures.ends plan in
    let absent : nat_lt c.args.link (length c.args.self.now.links.ends.links) ≡ false =
    ap (nat_lt c.args.link) (sym x.many) ∙ sym c.has_link.ensures ∙ c.if-has_link.false in
    reset_keeps plan c.args.ends.now c.args.self.now.accesses c.args.link c.reset-verdict.result
    (c.reset-verdict.ensures.verdict ∙ ap (λ (b : Bool). if b then v.Reset c.args.link else v.Nothing) absent)
