use Rattle.all_ends.proofs.Terms.{ap, ◌+◌, ◌∷◌, ◌∙◌, sym, drop}
use Rattle.link_ends.specs.Ends.{new_ends}
use Rattle.all_ends.specs.Ends.{ends_from}
use Rattle.all_ends.proofs.Pushed.{pushed_on}
use Rattle.all_ends.proofs.making.link_ends.Goals as goal

pub loop-link-preserved : goal.loop-link-preserved
loop-link-preserved c =
    let limit = c.args.limit in
    let n = c.loop-link.number in
    let i = c.loop-link.link-index in
    let link = c.link-item.result in
    let rest = ends_from limit (n + 1) (drop (i + 1) c.args.links.now) in (
      pushed_on (ends_from limit n) (ends_from limit (n + 1)) c.args.links.now i link c.in_ok-ends.ends _ _ _
          c.loop-link-test.true c.link-item.is c.loop-link.invariant.0
          (ap (λ e. e ∷ rest) (sym (c.in_ok-ends.ensures
          ∙ (λ j. new_ends n (c.as_slice.ensures j) limit (c.requester.ensures j) link.interfaces link.nonces))))
          c.in_ok-push.ensures.items,
      ap (λ k. k + 1) c.loop-link.invariant.1,
    )
