-- Equal bytes of keys are of one draw, direction and sub-stream; and a draw is on one stream.
use Rattle.law_sealing.proofs.Terms.{◌≡◌, ℕ, slice_get, Bool, Some, ap, sym, ◌∙◌, subst, arith}
use Rattle.law_sealing.proofs.Terms.{Plan, SubStream, History, SealedPacket, Packet, CauseLaw}
use Rattle.law_sealing.proofs.Terms.{sealed_packets, sub_stream_of}
use Rattle.law_sealing.proofs.Drawn.{draws_within}
use Rattle.law_key_facts.proofs.Given.{key_cause}
use Rattle.law_key_facts.proofs.SealedKeys.{all_owned, below_draws}
use Rattle.spec_keys.specs.History.{manager}
use Rattle.spec_keys.specs.Operations.{Begun}
use Rattle.spec_keys.proofs.Owners.{Owner, owner}
use Rattle.spec_links.specs.Plan.{key_plan}
use Rattle.spec_links.specs.Numbers.{key_used}
use Rattle.ide_types.specs.Fits.{FitsPlan}
use Rattle.law_sealing.proofs.Numbers.{SameKey, same_key, direction_small, one_begun}

-- ---- whose a draw is

-- sub-streams of one key are one, if the operations that made the draws were on their streams
pub one_stream : (h : History) (s t : SubStream) (i j : ℕ) (k l : Bool) → SameKey i j s t
    → Owner (manager h).begun s.line s.stream k i → Owner (manager h).begun t.line t.stream l j → s ≡ t
one_stream h s t i j k l key mine other =
    let begun = one_begun (owner s.line s.stream k) (owner t.line t.stream l)
    (sym (subst (Owner (manager h).begun s.line s.stream k) key.draw mine) ∙ other) in
    λ n. record {
      line = ap (λ (b : Begun). b.line) begun n;
      stream = ap (λ (b : Begun). b.stream) begun n;
      direction = key.direction n;
      sub = key.sub n;
    }

-- packets that were sealed under the same bytes of a key are of one sub-stream and draw
pub one_key : (plan : Plan) → FitsPlan plan → (h : History) → CauseLaw plan h → (i k : ℕ)
    (x y : SealedPacket × Packet) → slice_get (sealed_packets plan h) i ≡ Some x
    → slice_get (sealed_packets plan h) k ≡ Some y → key_used plan x.0 ≡ key_used plan y.0
    → (sub_stream_of x.0 ≡ sub_stream_of y.0) × (x.0.draw ≡ y.0.draw)
one_key plan fits h law i k x y at also keys =
    let most = draws_within (key_plan plan) h (key_cause plan h law) in
    let x_less = below_draws plan h law i x at in
    let y_less = below_draws plan h law k y also in
    let key = same_key plan fits x.0.draw y.0.draw (sub_stream_of x.0) (sub_stream_of y.0) (omega (arith, x_less, most))
    (omega (arith, y_less, most)) (direction_small x.0.port.side) (direction_small y.0.port.side) keys in (
      one_stream h (sub_stream_of x.0) (sub_stream_of y.0) x.0.draw y.0.draw x.0.k y.0.k key
          (all_owned plan h law i x at) (all_owned plan h law k y also),
      key.draw,
    )
