use Rattle.all_ends.proofs.Terms.{◌≡◌, ap, ◌+◌, [], ◌∷◌, drop, arith, rules}
use Rattle.link_ends.specs.Ends.{new_ends}
use Rattle.all_ends.specs.Ends.{near_from}
use Rattle.all_ends.proofs.Pushed.{pushed_on}
use Rattle.all_ends.proofs.making.near_ends.Goals as goal

pub loop-streams-preserved : goal.loop-streams-preserved
loop-streams-preserved c =
    let limit = c.args.limit in
    let n = c.loop-streams.line in
    let i = c.loop-streams.streams-index in
    let rest = near_from limit (n + 1) (drop (i + 1) c.args.rows.now) in
    let same : new_ends n c.streams-item.result limit 0 [] [] ≡ c.in_ok-ends.ends = search rules in (
      pushed_on (near_from limit n) (near_from limit (n + 1)) c.args.rows.now i c.streams-item.result c.in_ok-ends.ends
          _ _ _ c.loop-streams-test.true c.streams-item.is c.loop-streams.invariant.0 (ap (λ e. e ∷ rest) same)
          c.in_ok-push.ensures.items,
      omega (arith, c.loop-streams.invariant.1),
    )
