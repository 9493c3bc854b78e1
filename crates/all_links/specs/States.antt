-- The state of the machine of ports that all links are.
use Rattle.ide_types.specs.declared.plan.Plan.{Plan}
use Rattle.machine_ports.specs.Machine.{LinkState}
use Rattle.line_arrivals.specs.{state_of}
use Rattle.all_links.specs.declared.links.Links.{Links}

abbrev pub links_state : Plan → Links → LinkState
links_state plan s = state_of plan s.ends s.keeper.keys s.packets.packets
