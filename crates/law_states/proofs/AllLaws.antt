-- The laws of states and views.
use Rattle.law_locks.proofs.Fronts.{pairs_due}
use Rattle.law_states.specs.States.{MovesStates, ShowsState, EndsLocks}
use Rattle.law_states.proofs.Held.{moves_state}
use Rattle.law_states.proofs.Shown.{shows_state}
use Rattle.law_states.proofs.Leaving.{ends_lock}
use Rattle.law_states.proofs.Places.{takes_later}
use Rattle.law_states.specs.Views.{MovesViews}
use Rattle.law_states.specs.Errors.{AreInError}
use Rattle.law_states.proofs.InError.{in_error}
use Rattle.law_states.proofs.Moves.{moves_view}
use Rattle.law_states.specs.Statements.{StateLawHolds, ShownStateLawHolds, LeavingLawHolds, NonceLawHolds}
use Rattle.law_states.specs.Statements.{ViewLawHolds, ErrorLawHolds}
use Rattle.law_locks.proofs.AllLaws.{own_number}

pub state_law : StateLawHolds
state_law plan h cause = pairs_due plan (MovesStates plan)
    (λ g e w c i x at. moves_state plan g e w x (own_number plan i x at) c) h cause

pub shown_state_law : ShownStateLawHolds
shown_state_law plan h cause = pairs_due plan (ShowsState plan) (λ g e w c. shows_state plan g e w c.0) h cause

pub leaving_law : LeavingLawHolds
leaving_law plan h cause = pairs_due plan (EndsLocks plan)
    (λ g e w c i x end stream at locked bound left.
    ends_lock plan g e w x end stream (own_number plan i x at) c locked bound left) h cause

pub nonce_law : NonceLawHolds
nonce_law plan h cause i j x y a b at on same lt =
    takes_later plan h i x y a b cause at (own_number plan i x at) (own_number plan j y on) same lt

pub view_law : ViewLawHolds
view_law plan h few cause = pairs_due plan (MovesViews plan)
    (λ g e w c i x at. moves_view plan g e w x few (own_number plan i x at) c) h cause

pub error_law : ErrorLawHolds
error_law plan h cause = pairs_due plan (AreInError plan)
    (λ g e w c i x at error. in_error plan g e w x (own_number plan i x at) c error) h cause
