-- Interfaces are on links of the plan.
use Rattle.std.proofs.Common.{◌≡◌, false, Some, refl}
use Rattle.ide_types.specs.Ports.{device_port}
use Rattle.spec_interfaces.specs.Sites.{Site, site_at}
use Rattle.spec_interfaces.proofs.OnLinks.{number_on_link}
use Rattle.spec_links.specs.Terms.{Plan}
use Rattle.spec_links.specs.Ports.{at_switch}

-- the port of an interface's device is at no switch
pub no_switch : (plan : Plan) (x : Site) → site_at plan x.number ≡ Some x → at_switch plan (device_port x.link) ≡ false
no_switch plan x known = rw (number_on_link plan x known) refl
