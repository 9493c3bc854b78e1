-- The laws of states and views, of every history in which each verdict is the one that is due.
use Rattle.std.specs.Prelude.{◌≤◌, length}
use Rattle.ide_types.specs.declared.plan.Plan.{Plan}
use Rattle.spec_keys.specs.History.{History}
use Rattle.spec_links.specs.Cause.{CauseLaw}
use Rattle.law_states.specs.States.{StateLaw, ShownStateLaw, LeavingLaw}
use Rattle.law_states.specs.Nonces.{NonceLaw}
use Rattle.law_states.specs.Views.{ViewLaw}
use Rattle.law_states.specs.Errors.{ErrorLaw}

abbrev pub StateLawHolds : Type 0
StateLawHolds = (plan : Plan) (h : History) → CauseLaw plan h → StateLaw plan h

abbrev pub ShownStateLawHolds : Type 0
ShownStateLawHolds = (plan : Plan) (h : History) → CauseLaw plan h → ShownStateLaw plan h

abbrev pub LeavingLawHolds : Type 0
LeavingLawHolds = (plan : Plan) (h : History) → CauseLaw plan h → LeavingLaw plan h

abbrev pub NonceLawHolds : Type 0
NonceLawHolds = (plan : Plan) (h : History) → CauseLaw plan h → NonceLaw plan h

-- a topology has at most eight streams between devices
abbrev pub ViewLawHolds : Type 0
ViewLawHolds = (plan : Plan) (h : History) → length plan.peers ≤ 8 → CauseLaw plan h → ViewLaw plan h

abbrev pub ErrorLawHolds : Type 0
ErrorLawHolds = (plan : Plan) (h : History) → CauseLaw plan h → ErrorLaw plan h
