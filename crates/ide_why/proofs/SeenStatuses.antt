-- How the interfaces of a device stand is what the machine keeps.
use Rattle.std.proofs.Common.{◌≡◌, ℕ, length}
use Rattle.ide_types.specs.declared.plan.Plan.{Plan}
use Rattle.spec_interfaces.specs.Sites.{sites}
use Rattle.spec_keys.specs.History.{History}
use Rattle.machine_whole.specs.Accesses.{face_statuses}
use Rattle.world.specs.{AreLinks, WorldStandsFor, WholeLinks, world_of}
use Rattle.world.proofs.{statuses_are}
use Rattle.ide_why.specs.Reading.{statuses_read}

module _ (plan : Plan) (s : WholeLinks) (links : AreLinks plan s.links.ends s.links.keeper.keys)
    (whole : length s.accesses ≡ length s.links.ends.links) (h : History) (stood : WorldStandsFor (world_of plan s) h)
  where
    pub stand : (link : ℕ) → statuses_read s link
        ≡ face_statuses link (sites plan) stood.whole.faces.list stood.whole.accesses.floors
    stand link = statuses_are plan s.links.ends.links s.links.keeper.interfaces s.links.trusted.contents stood.whole
        stood.is.beside links.fits links.many s.accesses whole stood.is.accesses link
