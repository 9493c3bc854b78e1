-- What arrivals make of what stands at each link beside its ports and interfaces.
use Rattle.std.specs.Prelude.{ℕ, ◌≡◌, List, [], length, slice_get, Option, Some, is_some, false}
use Rattle.ide_types.specs.declared.port.PortName.{PortName}
use Rattle.event_verdicts.specs.declared.verdict.Verdict.{Verdict}
use Rattle.event_verdicts.specs.declared.verdict.Verdict.TheVariants.{Nothing}
use Rattle.guarded_memory.specs.declared.status.InterfaceStatus.{InterfaceStatus}
use Rattle.trusted_memory.specs.{MemoryContents}
use Rattle.spec_links.specs.Memory.{Policy}
pub use Rattle.join_ends.specs.Turns.{reads_at, floors_at, sizes_at, mmio_at, carried_on_link, AreLeftBy, AccessesTurn}
pub use Rattle.join_ends.specs.Turns.{AccessesStay, same_reads, same_floors, same_carried, nothing_happens}
use Rattle.join_ends.specs.{EndsView, LinkEnds, InterfacesView, port_on, link_statuses, ArrivesAtEnd}
use Rattle.link_stores.specs.declared.link.LinkAccesses.{LinkAccesses}
use Rattle.arrival_verdicts.specs.Verdicts.{grants_in}

-- ---- what effects depend on

-- how the interfaces of a link's device stand
abbrev pub statuses_of_ends : Option LinkEnds → Option LinkAccesses → List InterfaceStatus
statuses_of_ends (Some l) (Some a) = link_statuses l a
statuses_of_ends l a = []

abbrev pub policy_in : InterfacesView → EndsView → List LinkAccesses → Policy
policy_in m ends xs = record {
  grants = grants_in m;
  waiting = λ port. length (reads_at xs port);
  statuses = λ link. statuses_of_ends (slice_get ends.links link) (slice_get xs link);
}

-- ---- arrivals

-- what bytes that are taken at an end, at this port of a host or a device, make of the ends, of memory and of accesses;
-- if there is no such end these are as before
pub record Brings (m : InterfacesView) (end port : PortName) (bytes : List ℕ) (verdict : Verdict) (old : EndsView)
    (c : MemoryContents) (xs : List LinkAccesses) (new : EndsView) (d : MemoryContents) (ys : List LinkAccesses) :
    Type 0 where
  pub arrives : ArrivesAtEnd old xs c.regions (grants_in m) end port bytes verdict c d new ys
  pub regions : d.regions ≡ c.regions
  pub absent : is_some (port_on old end) ≡ false → (verdict ≡ Nothing) × (new ≡ old) × (d ≡ c) × AccessesStay xs ys
