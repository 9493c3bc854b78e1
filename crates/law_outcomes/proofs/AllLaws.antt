-- The laws of outcomes.
use Rattle.std.proofs.Common.{[], ◌∷◌, ◌++◌, sym, subst}
use Rattle.spec_links.specs.Cause.{CauseLaw}
use Rattle.spec_interfaces.specs.Terms.{Plan, History}
use Rattle.law_outcomes.specs.Recovery.{recovery, recovery_verdicts, history_on, rekeying}
use Rattle.law_outcomes.specs.Statements.{OperationLawHolds, RecoveryLawHolds, ShownLawHolds, BlockLawHolds}
use Rattle.law_outcomes.specs.Statements.{FailLawHolds}
use Rattle.law_outcomes.specs.Operations.{Succeeds}
use Rattle.law_locks.proofs.Fronts.{pairs_due}
use Rattle.law_outcomes.specs.Shown.{ShowsTruth}
use Rattle.law_outcomes.specs.Blocks.{HasCauses}
use Rattle.law_outcomes.specs.Failures.{FailsByCheck}
use Rattle.law_outcomes.proofs.Failures.{fails_by_check}
use Rattle.law_outcomes.proofs.Blocks.{has_causes}
use Rattle.law_outcomes.proofs.Operations.{succeeds}
use Rattle.law_outcomes.proofs.Shown.{shows_truth}
use Rattle.law_outcomes.proofs.Recovered.{recovered, recovery_takes, rekeyed}

-- a front of a history obeys what the history does
pub cause_behind : (plan : Plan) (since h : History) → CauseLaw plan (since ++ h) → CauseLaw plan h
cause_behind plan [] h cause = cause
cause_behind plan (pair ∷ since) h cause = cause_behind plan since h cause.1

pub recovery_law : RecoveryLawHolds
recovery_law plan fits h cause = record {
  interfaces = λ older since x ws at can seven came. recovered plan fits older x can ws at seven
      (cause_behind plan since (history_on older (recovery x) ws) (subst (CauseLaw plan) (sym came) cause));
  needs = λ older since x needs draw nonce at came. recovery_takes plan fits older x needs draw nonce at
      (cause_behind plan since (history_on older (recovery x) (recovery_verdicts x needs draw nonce))
      (subst (CauseLaw plan) (sym came) cause));
  streams = λ older since line stream ws has left two came. rekeyed plan older line stream ws has left two
      (cause_behind plan since (history_on older (rekeying line stream) ws) (subst (CauseLaw plan) (sym came) cause));
}

pub operation_law : OperationLawHolds
operation_law plan fits h cause = pairs_due plan (Succeeds plan) (succeeds plan fits) h cause

pub shown_law : ShownLawHolds
shown_law plan h cause = pairs_due plan (ShowsTruth plan) (shows_truth plan) h cause

pub block_law : BlockLawHolds
block_law plan h cause = pairs_due plan (HasCauses plan) (has_causes plan) h cause

pub fail_law : FailLawHolds
fail_law plan h cause = pairs_due plan (FailsByCheck plan) (fails_by_check plan) h cause
