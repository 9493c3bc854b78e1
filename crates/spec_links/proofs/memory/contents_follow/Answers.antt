use Rattle.spec_links.proofs.ContentsFollow.{contents_follow}
use Rattle.spec_links.proofs.memory.contents_follow.Goals as goal

pub returns : goal.returns
returns c = contents_follow
