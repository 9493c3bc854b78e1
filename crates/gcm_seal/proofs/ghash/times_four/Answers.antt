use Rattle.std.proofs.Common.{◌≡◌, ◌-◌, ◌++◌, ℕ, List, length, map, bit_xor, sym, ap, ◌∙◌, arith}
use Rattle.std.proofs.lemmas.List.{length-map}
use Rattle.std.proofs.lemmas.Simd.{length-zip2}
use lib.Lanes.{zip2}
use Rattle.gcm_seal.specs.Inside.{block_product, byte_product, joined_bytes, raised_block}
use Rattle.gcm_seal.proofs.Lookups.{sum-halves}
use Rattle.gcm_seal.proofs.Moves.{four-next, four_sums, joined-none, none-moved, none-zeros, sum-product}
use Rattle.gcm_seal.proofs.Ring.{times-lt}
use Rattle.gcm_seal.proofs.ghash.times_four.Goals as goal

pub loop-i-init : goal.loop-i-init
loop-i-init c = record { none = none-zeros; sum = λ f g k h first second third fourth. joined-none }

pub loop-i-preserved : goal.loop-i-preserved
loop-i-preserved c =
    let i : ℕ = c.loop-i.i in
    record {
      none = rw c.moved-p.ensures.high (none-moved i _ c.loop-i.high c.loop-i.invariant.none);
      sum = λ f g k h first second third fourth.
          let n : ℕ = 15 - i in
          let a : List ℕ = map (byte_product f n) c.args.a in
          let b : List ℕ = map (byte_product g n) c.args.b in
          let d : List ℕ = map (byte_product k n) c.args.c in
          let e : List ℕ = map (byte_product h n) c.args.d in
          let la : length a ≡ 16 = length-map c.args.a (byte_product f n) ∙ c.fits-a.0 in
          let lb : length b ≡ 16 = length-map c.args.b (byte_product g n) ∙ c.fits-b.0 in
          let ld : length d ≡ 16 = length-map c.args.c (byte_product k n) ∙ c.fits-c.0 in
          let le : length e ≡ 16 = length-map c.args.d (byte_product h n) ∙ c.fits-d.0 in
          let front = c.partial_two.ensures f g n c.args.a c.args.b c.fits-a c.fits-b c.side_by_side-front.ensures.both
          (fourth n (omega arith)) (third n (omega arith)) in
          let back = c.partial_two-in-loop-i.ensures k h n c.args.c c.args.d c.fits-c c.fits-d
          c.side_by_side-back.ensures.both
          (second n (omega arith)) (first n (omega arith)) in
          let halves = sum-halves _ _ a b d e (la ∙ sym ld) front back in
          let next = c.folded.ensures (zip2 bit_xor a d) (zip2 bit_xor b e)
          (length-zip2 bit_xor a d (la ∙ sym ld) ∙ la) (length-zip2 bit_xor b e (lb ∙ sym le) ∙ lb) halves in
          c.moved-p.ensures.sum (c.loop-i.invariant.none 15 (omega arith))
          ∙ ap (λ (l : List ℕ). bit_xor (joined_bytes l)
          (raised_block 8 (joined_bytes (c.loop-i.low ++ c.loop-i.high)))) next
          ∙ four-next (byte_product f) (byte_product g) (byte_product k) (byte_product h) c.args.a c.args.b c.args.c
          c.args.d _ i c.fits-a.0 c.fits-b.0 c.fits-c.0 c.fits-d.0
          (c.loop-i.invariant.sum f g k h first second third fourth);
    }

pub returns : goal.returns
returns c =
    let all : c.loop-i.i ≡ 16 = omega arith in
    λ h lt are.
    let k : ℕ = block_product h h in
    let kl = times-lt h h lt in
    let g : ℕ = block_product k h in
    let f : ℕ = block_product k k in
    c.reduced_sum.ensures
    ∙ c.loop-i.invariant.sum f g k h are.0 are.1 are.2 are.3
    ∙ ap (four_sums (byte_product f) (byte_product g) (byte_product k) (byte_product h) c.args.a c.args.b c.args.c
    c.args.d) all
    ∙ (λ i. bit_xor
    (bit_xor (sum-product f c.args.a (times-lt k k kl) c.fits-a i) (sum-product k c.args.c kl c.fits-c i))
    (bit_xor (sum-product g c.args.b (times-lt k h kl) c.fits-b i) (sum-product h c.args.d lt c.fits-d i)))
