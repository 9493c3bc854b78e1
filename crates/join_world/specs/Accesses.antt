-- What stands at each link for reads and for the memory of its device is what the machine keeps.
use Rattle.std.specs.Prelude.{ℕ, ◌≡◌, ◌<◌, ◌==◌, List, [], ◌∷◌, length, map, slice_get, Some, if◌then◌else◌}
use Rattle.ide_types.specs.declared.direction.Direction.{Direction}
use Rattle.ide_types.specs.declared.plan.Plan.{Plan}
use Rattle.ide_types.specs.declared.plan.LinkPlan.{LinkPlan}
use Rattle.ide_types.specs.declared.port.PortName.{PortName}
use Rattle.ide_types.specs.declared.port.Side.{Side}
use Rattle.spec_interfaces.specs.Sites.{Site, sites}
use Rattle.trusted_memory.specs.declared.queue.WaitingRead.{WaitingRead}
use Rattle.guarded_memory.specs.{page_counts}
use Rattle.spec_links.specs.Hops.{HopTlp}
use Rattle.machine_whole.specs.Accesses.{AccessState}
use Rattle.link_stores.specs.declared.link.LinkAccesses.{LinkAccesses}
use Rattle.whole_links.specs.{AreLeftBy, carried_on_link, floors_at, mmio_at, reads_at, sizes_at}

-- What is seen of a link. How many pages are spare, and for how many TLPs there is room, is no part of it.
pub record LinkSeen : Type 0 where
  pub reads : Side → List WaitingRead
  pub floors : List ℕ
  pub sizes : List (List ℕ)
  pub bytes : ℕ → ℕ → ℕ → ℕ
  pub carried : Direction → List HopTlp

abbrev pub link_seen : List LinkAccesses → ℕ → LinkSeen
link_seen xs link = record {
  reads = λ side. reads_at xs (record { side = side; line = link });
  floors = floors_at xs link;
  sizes = sizes_at xs link;
  bytes = mmio_at xs link;
  carried = carried_on_link xs link;
}

-- of the interfaces of a link, in order, what is kept of each in the topology's order
abbrev pub on_link : {A : Type 0} → ℕ → List Site → List A → List A
on_link link (x ∷ xs) (y ∷ ys) = if x.link == link then y ∷ on_link link xs ys else on_link link xs ys
on_link link _ _ = []

-- of each link the reads that wait at its ports, the bytes of its device's memory, how many pages its ranges have, the
-- least draws that its device's interfaces take trusted requests under, and the TLPs that wait at the switch of its hop
pub record AreAccesses (plan : Plan) (seen : ℕ → LinkSeen) (a : AccessState) : Type 0 where
  pub floored : length a.floors ≡ length (sites plan)
  pub reads : (port : PortName) → (seen port.line).reads port.side ≡ a.waiting port
  pub bytes : (link : ℕ) → AreLeftBy (seen link).bytes (a.happened link)
  pub sizes : (link : ℕ) (p : LinkPlan) → slice_get plan.links link ≡ Some p
      → (seen link).sizes ≡ map page_counts p.interfaces
  pub floors : (link : ℕ) → (seen link).floors ≡ on_link link (sites plan) a.floors
  pub carried : (link : ℕ) (d : Direction) → link < 8 → (seen link).carried d ≡ a.carried link d
