-- What holds of all that is sealed.
use Rattle.std.specs.Prelude.{length, ◌≤◌}
use Rattle.ide_types.specs.declared.plan.Plan.{Plan}
use Rattle.ide_types.specs.Fits.{FitsPlan}
use Rattle.spec_keys.specs.History.{History}
use Rattle.spec_links.specs.Cause.{CauseLaw}
use Rattle.spec_links.specs.Laws.{TotalsFit}
use Rattle.spec_links.specs.Numbers.{NumbersFresh}

-- In a history of at most 2 to the 32 events no total passes 8 bytes.
abbrev pub TotalsFitHolds : Type 0
TotalsFitHolds = (plan : Plan) (h : History) → CauseLaw plan h → length h ≤ 4294967296 → TotalsFit plan h

-- No key is used twice with one IV.
abbrev pub NumbersFreshHolds : Type 0
NumbersFreshHolds = (plan : Plan) → FitsPlan plan → (h : History) → CauseLaw plan h → NumbersFresh plan h
