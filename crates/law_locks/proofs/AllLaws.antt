-- The laws of locks.
use Rattle.std.proofs.Common.{◌≡◌, Some, subst, sym}
use Rattle.spec_interfaces.specs.Sites.{Site, site_at}
use Rattle.spec_interfaces.proofs.Floors.{number_at}
use Rattle.law_locks.specs.Statements.{LockLawHolds, AttestedHolds, ViewsAreTrueHolds, ScrubbedHolds}
use Rattle.law_locks.specs.Statements.{OneLockPerKeyHolds, AnswersLawHolds}
use Rattle.law_locks.specs.Runs.{AnswersInLock}
use Rattle.law_locks.proofs.Answered.{answers_in_lock}
use Rattle.law_locks.specs.Locks.{AreSecure, IsAttested, HasTrueViews, Scrubs}
use Rattle.spec_interfaces.specs.Terms.{Plan}
use Rattle.std.specs.Prelude.{ℕ}
use Rattle.law_mmio.proofs.Secure.{locked_secure}
use Rattle.law_locks.proofs.SecurePeers.{bound_secure}
use Rattle.law_memory.proofs.Causes.{interface_cause}
use Rattle.law_locks.proofs.Fronts.{at_each, at_pairs, pairs_due}
use Rattle.law_locks.proofs.Zeroed.{scrubs}
use Rattle.law_locks.proofs.Reported.{reported}
use Rattle.law_locks.proofs.TrueViews.{true_views}
use Rattle.law_locks.proofs.OneLock.{one_lock_per_key as one_lock}

-- the number of an interface finds it
pub own_number : (plan : Plan) (i : ℕ) (x : Site) → site_at plan i ≡ Some x → site_at plan x.number ≡ Some x
own_number plan i x at = subst (λ (n : ℕ). site_at plan n ≡ Some x) (sym (number_at plan i x at)) at

pub lock_law : LockLawHolds
lock_law plan h cause = at_each plan (AreSecure plan)
    (λ g c i x at. record { own = locked_secure plan g c x; bound = bound_secure plan g c x }) h cause

pub reports_are_shown : AttestedHolds
reports_are_shown plan h cause = at_each plan (IsAttested plan)
    (λ g c i x at runs. (reported plan g (interface_cause plan g c) x (own_number plan i x at)).runs runs) h cause

pub views_are_true : ViewsAreTrueHolds
views_are_true plan h cause = at_each plan (HasTrueViews plan)
    (λ g c i x at. true_views plan g (interface_cause plan g c) x (own_number plan i x at)) h cause

pub unlocked_is_scrubbed : ScrubbedHolds
unlocked_is_scrubbed plan h cause = at_pairs (Scrubs plan) (scrubs plan) h

pub one_lock_per_key : OneLockPerKeyHolds
one_lock_per_key plan h cause = one_lock plan h cause

pub answers_law : AnswersLawHolds
answers_law plan h cause = pairs_due plan (AnswersInLock plan) (answers_in_lock plan) h cause
