-- One exchange after another.
use Rattle.link_ends.proofs.Terms.{◌≡◌, ℕ, suc, zero, ◌+◌, ◌≤◌, Bool, true, false, refl, sym, ◌∙◌, arith, Option, Some}
use Rattle.link_ends.proofs.Terms.{None, is_some, Loss, Operation, op_at_exchange, new_work, last_exchange_of}
use Rattle.link_ends.proofs.Terms.{nat_tests, Judged, Expected, Refused, Bad, StreamOutcome, NextExchange, StreamView}
use Rattle.link_ends.proofs.Terms.{asked_of_unfinished, outcome_of, taken_stream, ManagerView, current, current_asked}
use Rattle.link_ends.proofs.Terms.{asking_after, IsAsked, StreamEnds, Exchanged, exchange_outcome, ends_after_exchange}
use Rattle.link_ends.proofs.Terms.{WalkedEnds, walk_on, goes_on, Found, LinkEnds, IsAtBothEnds, DiffersInStream}
use Rattle.link_ends.proofs.Terms.{IsExchanged, Exchanges, IsWalked, Walks, ap, subst}
use Rattle.key_slots.specs.{is_one}
use Rattle.key_host.specs.declared.judge.Judged.TheVariants.{Lost as NotCarried}
use Rattle.key_host.specs.declared.operation.StreamOutcome.TheVariants as outcome
use Rattle.link_ends.proofs.Carried.{keeper_read, current_is}

-- ---- the exchange after one that was acknowledged

next_asked : (o : Operation) (set : Bool) (draw n k : ℕ) → 1 ≤ k → k ≤ last_exchange_of true o
    → IsAsked true (asked_of_unfinished (op_at_exchange (new_work o set draw n false) k))
next_asked o set draw n k least most = grind arith

goes_next : (a : NextExchange) (s : StreamView) → IsAsked true (Some a) → outcome_of true a Expected ≡ outcome.Next
    → IsAsked true (asked_of_unfinished (taken_stream true a Expected s).op)
goes_next a s asked is =
    grind (arith, nat_tests, next_asked a.operation (is_one a.set) a.draw a.exchange (a.exchange + 1))

pub still_asked : (a : NextExchange) (j : Judged) (s : StreamView) → IsAsked true (Some a)
    → outcome_of true a j ≡ outcome.Next → IsAsked true (asked_of_unfinished (taken_stream true a j s).op)
still_asked a Expected s asked is = goes_next a s asked is
still_asked a NotCarried s asked is = absurd cc
still_asked a (Refused code) s asked is = absurd cc
still_asked a Bad s asked is = absurd cc

-- ---- walks

-- nothing is asked
stays_on : (more : ℕ) (loss : Option Loss) (requester : ℕ) (e : StreamEnds) → asked_of_unfinished e.keeper.op ≡ None
    → walk_on more loss requester e ≡ record { outcome = outcome.Next; ends = e }
stays_on zero loss requester e none = refl
stays_on (suc more) loss requester e none = rw none (stays_on more loss requester e none)

none_asked : (place : ℕ) (s : StreamView) (o : Option NextExchange) → is_some (current_asked place s o) ≡ false → o
    ≡ None
none_asked place s o is = grind arith

pub idle_walks : (more : ℕ) (loss : Option Loss) (m : ManagerView) (l : LinkEnds) → is_some (current m) ≡ false
    → Walks more loss m l outcome.Next m l
idle_walks more loss m l idle m0 l0 place id host device e on st asking within =
    let cur = current_is m place e.keeper asking (keeper_read m0 m l0 l place id host device e on st) in
    let none : asked_of_unfinished e.keeper.op ≡ None = none_asked place e.keeper (asked_of_unfinished e.keeper.op)
    (ap is_some (sym cur) ∙ idle) in
    subst (λ (v : WalkedEnds). IsWalked m0 l0 place id v outcome.Next m l)
    (sym (stays_on more loss l0.device.requester e none))
    (record { outcome = refl; stands = st })

-- the walk if an exchange is asked
walk_asked : (more : ℕ) (loss : Option Loss) (requester : ℕ) (e : StreamEnds) (a : NextExchange)
    → asked_of_unfinished e.keeper.op ≡ Some a → walk_on (suc more) loss requester e
    ≡ goes_on (outcome_of true a (exchange_outcome loss requester a e).judged)
    (ends_after_exchange a (exchange_outcome loss requester a e) e)
    (walk_on more loss requester (ends_after_exchange a (exchange_outcome loss requester a e) e))
walk_asked more loss requester e a asked = rw asked refl

some_asked : (place : ℕ) (s : StreamView) (o : Option NextExchange) → is_some (current_asked place s o) ≡ true
    → (a : NextExchange) × (o ≡ Some a)
some_asked place s None is = absurd cc
some_asked place s (Some a) is = (a, refl)

module _ (more : ℕ) (loss : Option Loss) (m m1 : ManagerView) (l l1 : LinkEnds) (r : StreamOutcome)
    (asks : is_some (current m) ≡ true)
    (goes : Exchanges loss m l r m1 l1) where
  record One (m0 : ManagerView) (l0 : LinkEnds) (place id : ℕ) (e : StreamEnds) : Type 0 where
    asked : NextExchange
    asked_is : asked_of_unfinished e.keeper.op ≡ Some asked
    within : IsAsked true (Some asked)
    exchange : IsExchanged m0 l0 place id loss asked e r m1 l1
    walk : walk_on (suc more) loss l0.device.requester e
        ≡ goes_on r (ends_after_exchange asked (exchange_outcome loss l0.device.requester asked e) e)
        (walk_on more loss l0.device.requester
        (ends_after_exchange asked (exchange_outcome loss l0.device.requester asked e) e))

  one : (m0 : ManagerView) (l0 : LinkEnds) (place id : ℕ) (host device : Found) (e : StreamEnds)
      → IsAtBothEnds m0 l0 place id host device → DiffersInStream m0 l0 place id e m l → m.asking ≡ Some place
      → IsAsked true (asked_of_unfinished e.keeper.op) → One m0 l0 place id e
  one m0 l0 place id host device e on st asking within =
      let some = some_asked place e.keeper (asked_of_unfinished e.keeper.op)
      (ap is_some (sym (current_is m place e.keeper asking (keeper_read m0 m l0 l place id host device e on st))) ∙
      asks) in
      let a : NextExchange = some.0 in
      let inside : IsAsked true (Some a) = subst (IsAsked true) some.1 within in
      let x : IsExchanged m0 l0 place id loss a e r m1 l1 = goes m0 l0 place id host device e a on st asking some.1
      inside in
      record {
        asked = a;
        asked_is = some.1;
        within = inside;
        exchange = x;
        walk = walk_asked more loss l0.device.requester e a some.1 ∙ ap (λ (o : StreamOutcome). goes_on o
            (ends_after_exchange a (exchange_outcome loss l0.device.requester a e) e)
            (walk_on more loss l0.device.requester
            (ends_after_exchange a (exchange_outcome loss l0.device.requester a e) e)))
            (sym x.outcome);
      }

  -- it goes on
  pub walks_on : (m2 : ManagerView) (l2 : LinkEnds) (r2 : StreamOutcome) → r ≡ outcome.Next
      → Walks more loss m1 l1 r2 m2 l2 → Walks (suc more) loss m l r2 m2 l2
  walks_on m2 l2 r2 is rest m0 l0 place id host device e on st asking within =
      let o = one m0 l0 place id host device e on st asking within in
      let x : Exchanged = exchange_outcome loss l0.device.requester o.asked e in
      let later = still_asked o.asked x.judged e.keeper o.within (sym o.exchange.outcome ∙ is) in
      let walk = o.walk ∙ ap
      (λ (q : StreamOutcome). goes_on q (ends_after_exchange o.asked x e)
      (walk_on more loss l0.device.requester (ends_after_exchange o.asked x e))) is in
      subst (λ (v : WalkedEnds). IsWalked m0 l0 place id v r2 m2 l2) (sym walk)
      (rest m0 l0 place id host device (ends_after_exchange o.asked x e) on o.exchange.stands
      (o.exchange.asking ∙ ap (λ (q : StreamOutcome). asking_after place q) is) later)

  ends_there : (q : StreamOutcome) (e : StreamEnds) (rest : WalkedEnds) → (q ≡ outcome.Next → ⊥) → goes_on q e rest
      ≡ record { outcome = q; ends = e }
  ends_there q e rest other = grind arith

  -- it is done or refused
  pub walks_out : (r ≡ outcome.Next → ⊥) → Walks (suc more) loss m l r m1 l1
  walks_out other m0 l0 place id host device e on st asking within =
      let o = one m0 l0 place id host device e on st asking within in
      let walk = o.walk ∙ ends_there r _
      (walk_on more loss l0.device.requester
      (ends_after_exchange o.asked (exchange_outcome loss l0.device.requester o.asked e) e))
      other in
      subst (λ (v : WalkedEnds). IsWalked m0 l0 place id v r m1 l1) (sym walk)
      (record { outcome = refl; stands = o.exchange.stands })
