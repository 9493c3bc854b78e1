use Rattle.machine_whole.proofs.Faces.{faces_stand as holds}
use Rattle.machine_whole.proofs.interfaces.faces_stand.Goals as goal

pub returns : goal.returns
returns c = holds
