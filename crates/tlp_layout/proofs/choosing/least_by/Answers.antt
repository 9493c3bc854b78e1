use Rattle.std.proofs.Common.{◌≡◌, ap, ◌∙◌, arith}
use Rattle.std.specs.Option.{option_map}
use Rattle.tlp_layout.specs.Ways.{test_of}
use Rattle.tlp_layout.specs.declared.choice.ChosenStream.{ChosenStream}
use Rattle.tlp_layout.proofs.Least.{least_from, least_from-id, way_if, place_if}
use Rattle.tlp_layout.proofs.choosing.least_by.Goals as goal

-- all streams are looked at
all_seen : (c : goal.After-loop-place) → c.loop-place.least
    ≡ least_from c.args.way (test_of c.args.way c.args.side c.args.tlp.now) c.args.streams.now 0
all_seen c =
    let done : c.loop-place.place ≡ 0 = omega arith in
    rw done at c.loop-place.invariant

pub returns-clause-id : goal.returns-clause-id
returns-clause-id c = ap (option_map (λ (s : ChosenStream). s.id)) (all_seen c)
    ∙ least_from-id c.args.way (test_of c.args.way c.args.side c.args.tlp.now) c.args.streams.now 0

pub returns-clause-way : goal.returns-clause-way
returns-clause-way c =
    way_if c.args.way (test_of c.args.way c.args.side c.args.tlp.now) c.args.streams.now c.loop-place.least (all_seen c)

pub returns-clause-place : goal.returns-clause-place
returns-clause-place c = place_if c.args.way (test_of c.args.way c.args.side c.args.tlp.now) c.args.streams.now
    c.loop-place.least (all_seen c)
