use Rattle.std.proofs.Common.{refl, ◌≡◌, ◌≤◌, ◌+◌, ◌-◌, suc, sym, ◌∙◌, arith}
use Rattle.std.proofs.lemmas.List.{get_or-take, length-set, take_all, take_more_set}
use Rattle.aes_block.specs.Aes.{expansion, key_words}
use Rattle.aes_block.proofs.expanded.Goals as goal

pub load-init : goal.load-init
unfolding key_words
load-init c = record { long = refl; loaded = refl }

pub load-preserved : goal.load-preserved
unfolding key_words
load-preserved c =
    let next : c.load.i + 1 ≡ suc c.load.i = omega arith in
    record {
      long = length-set _ _ _ ∙ c.load.invariant.long;
      loaded =
          take_more_set c.load.words c.load.i c.from_be_bytes.result (omega (arith, c.load.invariant.long))
          ∙ rw (c.load.invariant.loaded, c.from_be_bytes.ensures, next) refl;
    }

pub expand-init : goal.expand-init
unfolding expansion
expand-init c =
    let eight : c.load.i ≡ 8 = omega arith in
    record { long = c.load.invariant.long; expanded = rw eight at c.load.invariant.loaded }

pub expand-preserved : goal.expand-preserved
unfolding expansion
expand-preserved c =
    let ws = c.expand.words in
    let i = c.expand.i in
    let lo : 8 ≤ i = c.expand.auto.i in
    let next : i + 1 - 8 ≡ suc (i - 8) = omega arith in
    let back : i - 8 + 8 ≡ i = omega arith in
    let held = c.expand.invariant.expanded in
    let far = get_or-take i ws (i - 8) 0 (omega arith) in
    let near = get_or-take i ws (i - 1) 0 (omega arith) in
    record {
      long = length-set _ _ _ ∙ c.expand.invariant.long;
      expanded =
          take_more_set ws i _ (omega (arith, c.expand.invariant.long))
          ∙ rw (next, ← held, back, far, near, c.temp.ensures) refl;
    }

pub returns : goal.returns
returns c =
    let sixty : c.expand.i ≡ 60 = omega (arith, c.expand.auto.i-end (omega arith)) in
    sym (take_all 60 c.expand.words (omega (arith, c.expand.invariant.long))) ∙ rw sixty at c.expand.invariant.expanded
