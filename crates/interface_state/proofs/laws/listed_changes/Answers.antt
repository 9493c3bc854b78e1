use Rattle.interface_state.proofs.ListedParts.{changes_are_listed, change_is_error}
use Rattle.interface_state.proofs.laws.listed_changes.Goals as goal

pub returns-clause-exact : goal.returns-clause-exact
returns-clause-exact c = changes_are_listed

pub returns-clause-error : goal.returns-clause-error
returns-clause-error c = change_is_error
