use Rattle.key_host.proofs.Dues.{all_due}
use Rattle.key_host.proofs.laws.walks_are_due.Goals as goal

pub returns : goal.returns
returns c = all_due
