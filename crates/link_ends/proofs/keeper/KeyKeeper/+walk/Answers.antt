use Rattle.link_ends.proofs.Terms.{◌≡◌, ◌-◌, suc, ◌∙◌, sym, arith, true, is_some, current, Walks, subst}
use Rattle.link_ends.proofs.Calls.{units_on, units_same}
use Rattle.link_ends.proofs.Walks.{idle_walks, walks_on, walks_out}
use Rattle.link_ends.proofs.keeper.KeyKeeper.+walk.Goals as goal

pub returns-then-more-eq0-clause-units : goal.returns-then-more-eq0-clause-units
returns-then-more-eq0-clause-units g t c = units_same c.args.ends.now

pub returns-then-not-is_asking-clause-units : goal.returns-then-not-is_asking-clause-units
returns-then-not-is_asking-clause-units g t c = units_same c.args.ends.now

pub returns-then-not-is_asking-clause-walk : goal.returns-then-not-is_asking-clause-walk
returns-then-not-is_asking-clause-walk g t c =
    rw (← c.self.view_is)
    (idle_walks c.args.more c.args.loss c.self.inside.manager c.args.ends.now
    (sym c.is_asking.ensures ∙ c.if-not-is_asking.true))

pub returns-in-Next-clause-walk : goal.returns-in-Next-clause-walk
returns-in-Next-clause-walk g t c =
    let next : suc (c.args.more - 1) ≡ c.args.more = omega arith in
    let asks : is_some (current c.args.self.now.manager) ≡ true = rw (← c.self.view_is)
    (sym c.is_asking.ensures ∙ c.if-not-is_asking.false) in
    subst (λ n. Walks n c.args.loss c.args.self.now.manager c.args.ends.now c.walk.result c.walk.new.self.manager
    c.walk.new.ends) next
    (walks_on _ _ _ _ _ _ _ asks c.exchange.ensures.exchange _ _ _ c.in-Next.is c.walk.ensures.walk)

pub returns-in-Next-clause-units : goal.returns-in-Next-clause-units
returns-in-Next-clause-units g t c = units_on c.args.ends.now c.exchange.new.ends c.walk.new.ends
    c.exchange.ensures.units c.walk.ensures.units

pub returns-in_default : goal.returns-in_default
returns-in_default g t c =
    let next : suc (c.args.more - 1) ≡ c.args.more = omega arith in
    let asks : is_some (current c.args.self.now.manager) ≡ true = rw (← c.self.view_is)
    (sym c.is_asking.ensures ∙ c.if-not-is_asking.false) in
    record {
      units = c.exchange.ensures.units;
      walk = subst (λ n. Walks n c.args.loss c.args.self.now.manager c.args.ends.now c.exchange.result
          c.exchange.new.self.manager c.exchange.new.ends) next
          (walks_out _ _ _ _ _ _ _ asks c.exchange.ensures.exchange c.in_default.not-Next);
      pool = c.exchange.ensures.pool;
    }
