-- One exchange after another, on a line that is keyed by messages at both ends.
use Rattle.link_ends.proofs.Terms.{◌≡◌, ℕ, suc, zero, ◌+◌, ◌≤◌, Bool, true, false, refl, sym, ◌∙◌, arith, Option, Some}
use Rattle.link_ends.proofs.Terms.{None, is_some, Loss, Operation, op_at_exchange, new_work, last_exchange_of}
use Rattle.link_ends.proofs.Terms.{nat_tests, Judged, Expected, Refused, Bad, StreamOutcome, NextExchange, StreamView}
use Rattle.link_ends.proofs.Terms.{asked_of_unfinished, outcome_of, taken_stream, ManagerView, current, current_asked}
use Rattle.link_ends.proofs.Terms.{asking_after, IsAsked, Found, ap, subst}
use Rattle.key_slots.specs.{is_one}
use Rattle.key_host.specs.declared.judge.Judged.TheVariants.{Lost as NotCarried}
use Rattle.key_host.specs.declared.operation.StreamOutcome.TheVariants as outcome
use Rattle.join_keys.specs.Paired.{PairStreams, PairExchanged, pair_exchanged, pair_after, PairWalked}
use Rattle.join_keys.specs.Paired.{pair_walk, pair_goes_on}
use Rattle.link_ends.specs.declared.pair.PairEnds.{PairEnds}
use Rattle.link_ends.specs.PairKeepers.{IsAtBoth, DiffersInPair, IsPairExchanged, PairExchanges, IsPairWalked}
use Rattle.link_ends.specs.PairKeepers.{PairWalks}
use Rattle.link_ends.proofs.Carried.{current_is}
use Rattle.link_ends.proofs.PairCarried.{pair_keeper_read}

-- ---- the exchange after one that was acknowledged

next_asked : (o : Operation) (set : Bool) (draw n k : ℕ) → 1 ≤ k → k ≤ last_exchange_of false o
    → IsAsked false (asked_of_unfinished (op_at_exchange (new_work o set draw n false) k))
next_asked o set draw n k least most = grind arith

goes_next : (a : NextExchange) (s : StreamView) → IsAsked false (Some a) → outcome_of false a Expected ≡ outcome.Next
    → IsAsked false (asked_of_unfinished (taken_stream false a Expected s).op)
goes_next a s asked is =
    grind (arith, nat_tests, next_asked a.operation (is_one a.set) a.draw a.exchange (a.exchange + 1))

pub still_asked : (a : NextExchange) (j : Judged) (s : StreamView) → IsAsked false (Some a)
    → outcome_of false a j ≡ outcome.Next → IsAsked false (asked_of_unfinished (taken_stream false a j s).op)
still_asked a Expected s asked is = goes_next a s asked is
still_asked a NotCarried s asked is = absurd cc
still_asked a (Refused code) s asked is = absurd cc
still_asked a Bad s asked is = absurd cc

-- ---- walks

-- nothing is asked
stays_on : (more : ℕ) (loss : Option Loss) (requester : ℕ) (e : PairStreams) → asked_of_unfinished e.keeper.op ≡ None
    → pair_walk more loss requester e ≡ record { outcome = outcome.Next; ends = e }
stays_on zero loss requester e none = refl
stays_on (suc more) loss requester e none = rw none (stays_on more loss requester e none)

none_asked : (place : ℕ) (s : StreamView) (o : Option NextExchange) → is_some (current_asked place s o) ≡ false → o
    ≡ None
none_asked place s o is = grind arith

pub idle_walks : (more : ℕ) (loss : Option Loss) (m : ManagerView) (l : PairEnds) → is_some (current m) ≡ false
    → PairWalks more loss m l outcome.Next m l
idle_walks more loss m l idle m0 l0 place id near far e on st asking within =
    let cur = current_is m place e.keeper asking (pair_keeper_read m0 m l0 l place id near far e on st) in
    let none : asked_of_unfinished e.keeper.op ≡ None = none_asked place e.keeper (asked_of_unfinished e.keeper.op)
    (ap is_some (sym cur) ∙ idle) in
    subst (λ (v : PairWalked). IsPairWalked m0 l0 place id v outcome.Next m l)
    (sym (stays_on more loss 0 e none))
    (record { outcome = refl; stands = st })

-- the walk if an exchange is asked
walk_asked : (more : ℕ) (loss : Option Loss) (requester : ℕ) (e : PairStreams) (a : NextExchange)
    → asked_of_unfinished e.keeper.op ≡ Some a → pair_walk (suc more) loss requester e
    ≡ pair_goes_on (outcome_of false a (pair_exchanged loss requester a e).judged)
    (pair_after a (pair_exchanged loss requester a e) e)
    (pair_walk more loss requester (pair_after a (pair_exchanged loss requester a e) e))
walk_asked more loss requester e a asked = rw asked refl

some_asked : (place : ℕ) (s : StreamView) (o : Option NextExchange) → is_some (current_asked place s o) ≡ true
    → (a : NextExchange) × (o ≡ Some a)
some_asked place s None is = absurd cc
some_asked place s (Some a) is = (a, refl)

module _ (more : ℕ) (loss : Option Loss) (m m1 : ManagerView) (l l1 : PairEnds) (r : StreamOutcome)
    (asks : is_some (current m) ≡ true)
    (goes : PairExchanges loss m l r m1 l1) where
  record One (m0 : ManagerView) (l0 : PairEnds) (place id : ℕ) (e : PairStreams) : Type 0 where
    asked : NextExchange
    asked_is : asked_of_unfinished e.keeper.op ≡ Some asked
    within : IsAsked false (Some asked)
    exchange : IsPairExchanged m0 l0 place id loss asked e r m1 l1
    walk : pair_walk (suc more) loss 0 e ≡ pair_goes_on r (pair_after asked (pair_exchanged loss 0 asked e) e)
        (pair_walk more loss 0 (pair_after asked (pair_exchanged loss 0 asked e) e))

  one : (m0 : ManagerView) (l0 : PairEnds) (place id : ℕ) (near far : Found) (e : PairStreams)
      → IsAtBoth m0 l0 place id near far → DiffersInPair m0 l0 place id e m l → m.asking ≡ Some place
      → IsAsked false (asked_of_unfinished e.keeper.op) → One m0 l0 place id e
  one m0 l0 place id near far e on st asking within =
      let some = some_asked place e.keeper (asked_of_unfinished e.keeper.op)
      (ap is_some (sym (current_is m place e.keeper asking (pair_keeper_read m0 m l0 l place id near far e on st))) ∙
      asks) in
      let a : NextExchange = some.0 in
      let inside : IsAsked false (Some a) = subst (IsAsked false) some.1 within in
      let x : IsPairExchanged m0 l0 place id loss a e r m1 l1 = goes m0 l0 place id near far e a on st asking some.1
      inside in
      record {
        asked = a;
        asked_is = some.1;
        within = inside;
        exchange = x;
        walk = walk_asked more loss 0 e a some.1
            ∙ ap (λ (o : StreamOutcome). pair_goes_on o (pair_after a (pair_exchanged loss 0 a e) e)
            (pair_walk more loss 0 (pair_after a (pair_exchanged loss 0 a e) e)))
            (sym x.outcome);
      }

  -- it goes on
  pub walks_on : (m2 : ManagerView) (l2 : PairEnds) (r2 : StreamOutcome) → r ≡ outcome.Next
      → PairWalks more loss m1 l1 r2 m2 l2 → PairWalks (suc more) loss m l r2 m2 l2
  walks_on m2 l2 r2 is rest m0 l0 place id near far e on st asking within =
      let o = one m0 l0 place id near far e on st asking within in
      let x : PairExchanged = pair_exchanged loss 0 o.asked e in
      let later = still_asked o.asked x.judged e.keeper o.within (sym o.exchange.outcome ∙ is) in
      let walk = o.walk ∙ ap
      (λ (q : StreamOutcome). pair_goes_on q (pair_after o.asked x e)
      (pair_walk more loss 0 (pair_after o.asked x e))) is in
      subst (λ (v : PairWalked). IsPairWalked m0 l0 place id v r2 m2 l2) (sym walk)
      (rest m0 l0 place id near far (pair_after o.asked x e) on o.exchange.stands
      (o.exchange.asking ∙ ap (λ (q : StreamOutcome). asking_after place q) is) later)

  ends_there : (q : StreamOutcome) (e : PairStreams) (rest : PairWalked) → (q ≡ outcome.Next → ⊥)
      → pair_goes_on q e rest
      ≡ record { outcome = q; ends = e }
  ends_there q e rest other = grind arith

  -- it is done or refused
  pub walks_out : (r ≡ outcome.Next → ⊥) → PairWalks (suc more) loss m l r m1 l1
  walks_out other m0 l0 place id near far e on st asking within =
      let o = one m0 l0 place id near far e on st asking within in
      let walk = o.walk ∙ ends_there r _
      (pair_walk more loss 0
      (pair_after o.asked (pair_exchanged loss 0 o.asked e) e))
      other in
      subst (λ (v : PairWalked). IsPairWalked m0 l0 place id v r m1 l1) (sym walk)
      (record { outcome = refl; stands = o.exchange.stands })
