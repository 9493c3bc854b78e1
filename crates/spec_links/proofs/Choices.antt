-- The stream that a TLP takes is one of its link's.
use Rattle.spec_links.proofs.Terms.{Bool, List, Option, Some, None, [], arith, inl, inr, true, ℕ, ◌==◌, ◌∷◌, ◌≡◌, ◌⊎◌}
use Rattle.spec_links.proofs.Terms.{nat_tests, has_stream, stream_plan, streams_of, with_id, Plan, PortName}
use Rattle.spec_links.proofs.Terms.{if◌then◌else◌, is_some}
use Rattle.tlp_layout.specs.declared.tlp.Tlp.{Tlp}
use Rattle.tlp_layout.specs.Tlp.{header}
use Rattle.ide_types.specs.declared.stream.StreamPlan.{StreamPlan}
use Rattle.ide_types.specs.declared.stream.Selector.{Selector}
use Rattle.tlp_layout.specs.Choice.{choice_of, chosen_stream, least_of, lesser_id, by_way, takes_by_range}
use Rattle.tlp_layout.specs.Choice.{takes_the_rest, takes_class}
use Rattle.tlp_layout.specs.Outgoing.{OnStream, outgoing_of}
use Rattle.tlp_layout.proofs.Outgoing.{on_stream_reads}
use Rattle.tlp_layout.specs.declared.choice.Way.TheVariants.{ByRange, ByDefault, ByClass}

-- the least ID of a list that begins with this stream is its own, or that of the rest
one_more : (s : StreamPlan) (b : Bool) (o : Option ℕ) (rest : Option StreamPlan) (id : ℕ)
    → (if b then lesser_id s.id o else o) ≡ Some id
    → (o ≡ Some id → is_some rest ≡ true) → is_some (if s.id == id then Some s else rest) ≡ true
one_more s b o rest id is known = grind (arith, nat_tests)

least_known : (test : Selector → Bool) (ss : List StreamPlan) (id : ℕ) → least_of test ss ≡ Some id
    → is_some (with_id ss id) ≡ true
least_known test [] id is = absurd cc
least_known test (s ∷ ss) id is = one_more s (test s.selector) (least_of test ss) (with_id ss id) id is
    (least_known test ss id)

one_of_three : (a b c : Option ℕ) (id : ℕ)
    → chosen_stream (by_way ByRange a (by_way ByDefault b (by_way ByClass c None))) ≡ Some id
    → (a ≡ Some id) ⊎ ((b ≡ Some id) ⊎ (c ≡ Some id))
one_of_three a b c id is = grind arith

pub stream_known : (plan : Plan) (port : PortName) (bytes : List ℕ) (t : Tlp) (stream : ℕ)
    → outgoing_of (streams_of plan port.line) port.side bytes ≡ OnStream t stream → has_stream plan port stream ≡ true
unfolding choice_of stream_plan
stream_known plan port bytes t stream is =
    let ss = streams_of plan port.line in
    let head = header t in
    elim (one_of_three (least_of (takes_by_range port.side head) ss) (least_of takes_the_rest ss)
    (least_of (takes_class head) ss) stream (on_stream_reads ss port.side bytes t stream is).1) [
      | inl e ↦ least_known (takes_by_range port.side head) ss stream e
      | inr (inl e) ↦ least_known takes_the_rest ss stream e
      | inr (inr e) ↦ least_known (takes_class head) ss stream e
    ]
