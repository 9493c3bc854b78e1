-- The laws of keys in use, of every history in which each verdict is the one that is due.
use Rattle.ide_types.specs.declared.plan.Plan.{Plan}
use Rattle.ide_types.specs.Fits.{FitsPlan}
use Rattle.spec_keys.specs.History.{History}
use Rattle.spec_links.specs.Cause.{CauseLaw}
use Rattle.law_key_use.specs.InUse.{KeysInUse}
use Rattle.law_key_use.specs.Stops.{StopTakesKeys}
use Rattle.law_key_use.specs.Refreshes.{RefreshTakes}
use Rattle.law_key_use.specs.Limits.{KeyLimits}
use Rattle.law_key_use.specs.Forgeries.{ForgeriesAreOfCipher}

abbrev pub KeysInUseHolds : Type 0
KeysInUseHolds = (plan : Plan) (h : History) → CauseLaw plan h → KeysInUse plan h

abbrev pub StopTakesKeysHolds : Type 0
StopTakesKeysHolds = (plan : Plan) (h : History) → CauseLaw plan h → StopTakesKeys h

abbrev pub RefreshTakesHolds : Type 0
RefreshTakesHolds = (plan : Plan) (h : History) → CauseLaw plan h → RefreshTakes plan h

abbrev pub KeyLimitsHold : Type 0
KeyLimitsHold = (plan : Plan) → FitsPlan plan → (h : History) → CauseLaw plan h → KeyLimits plan h

abbrev pub ForgeriesAreOfCipherHold : Type 0
ForgeriesAreOfCipherHold = (plan : Plan) → FitsPlan plan → (h : History) → CauseLaw plan h → ForgeriesAreOfCipher plan h
