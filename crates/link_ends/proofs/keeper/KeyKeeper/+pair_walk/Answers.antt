use Rattle.link_ends.proofs.Terms.{◌≡◌, ◌-◌, suc, ◌∙◌, sym, arith, true, is_some, current, subst}
use Rattle.link_ends.specs.PairKeepers.{PairWalks}
use Rattle.link_ends.proofs.Calls.{pair_units_on, pair_units_same}
use Rattle.link_ends.proofs.PairWalks.{idle_walks, walks_on, walks_out}
use Rattle.link_ends.proofs.keeper.KeyKeeper.+pair_walk.Goals as goal

pub returns-then-more-eq0-clause-units : goal.returns-then-more-eq0-clause-units
returns-then-more-eq0-clause-units t c = pair_units_same c.args.ends.now

pub returns-then-not-is_asking-clause-units : goal.returns-then-not-is_asking-clause-units
returns-then-not-is_asking-clause-units t c = pair_units_same c.args.ends.now

pub returns-then-not-is_asking-clause-walk : goal.returns-then-not-is_asking-clause-walk
returns-then-not-is_asking-clause-walk t c =
    rw (← c.self.view_is)
    (idle_walks c.args.more c.args.loss c.self.inside.manager c.args.ends.now
    (sym c.is_asking.ensures ∙ c.if-not-is_asking.true))

pub returns-in-Next-clause-walk : goal.returns-in-Next-clause-walk
returns-in-Next-clause-walk t c =
    let next : suc (c.args.more - 1) ≡ c.args.more = omega arith in
    let asks : is_some (current c.args.self.now.manager) ≡ true = rw (← c.self.view_is)
    (sym c.is_asking.ensures ∙ c.if-not-is_asking.false) in
    subst (λ n. PairWalks n c.args.loss c.args.self.now.manager c.args.ends.now c.pair_walk.result
    c.pair_walk.new.self.manager
    c.pair_walk.new.ends) next
    (walks_on _ _ _ _ _ _ _ asks c.pair_exchange.ensures.exchange _ _ _ c.in-Next.is c.pair_walk.ensures.walk)

pub returns-in-Next-clause-units : goal.returns-in-Next-clause-units
returns-in-Next-clause-units t c = pair_units_on c.args.ends.now c.pair_exchange.new.ends c.pair_walk.new.ends
    c.pair_exchange.ensures.units c.pair_walk.ensures.units

pub returns-in_default : goal.returns-in_default
returns-in_default t c =
    let next : suc (c.args.more - 1) ≡ c.args.more = omega arith in
    let asks : is_some (current c.args.self.now.manager) ≡ true = rw (← c.self.view_is)
    (sym c.is_asking.ensures ∙ c.if-not-is_asking.false) in
    record {
      units = c.pair_exchange.ensures.units;
      walk = subst (λ n. PairWalks n c.args.loss c.args.self.now.manager c.args.ends.now c.pair_exchange.result
          c.pair_exchange.new.self.manager c.pair_exchange.new.ends) next
          (walks_out _ _ _ _ _ _ _ asks c.pair_exchange.ensures.exchange c.in_default.not-Next);
      pool = c.pair_exchange.ensures.pool;
    }
