-- What stands at each link beside its ports and interfaces: the reads that wait at each port, the memory of its device,
-- the least draws that its device's interfaces take trusted requests under, and the TLPs that wait at the switch of its hop; and
-- what becomes of it.
use Rattle.std.specs.Prelude.{ℕ, ◌≡◌, ◌&&◌, nat_lt, if◌then◌else◌, List, [], length, slice_get, Option}
use Rattle.std.specs.Option.{option_map_or}
use Rattle.ide_types.specs.declared.direction.Direction.{Direction}
use Rattle.ide_types.specs.declared.port.PortName.{PortName}
use Rattle.ide_types.specs.Lines.{is_link_line}
use Rattle.script_events.specs.declared.event.Event.{Event}
use Rattle.event_verdicts.specs.declared.verdict.Verdict.{Verdict}
use Rattle.law_reads.specs.Waiting.{waiting_next}
use Rattle.guarded_memory.specs.Happenings.{Happened, byte_shown, newest_happened}
use Rattle.guarded_memory.specs.Contents.{mmio_byte}
use Rattle.hop_queues.specs.declared.queue.HopTlp.{HopTlp}
use Rattle.hop_queues.specs.{queue_of}
use Rattle.trusted_memory.specs.declared.queue.WaitingRead.{WaitingRead}
use Rattle.law_reads.specs.{clears_hop}
use Rattle.link_stores.specs.declared.link.LinkAccesses.{LinkAccesses}
use Rattle.link_stores.specs.{reads_on}

-- ---- by port, and by link

abbrev pub reads_at : List LinkAccesses → PortName → List WaitingRead
reads_at xs port = option_map_or (reads_on port.side) (slice_get xs port.line) []

abbrev pub floors_at : List LinkAccesses → ℕ → List ℕ
floors_at xs link = option_map_or (λ (x : LinkAccesses). x.floors) (slice_get xs link) []

-- of each interface how many pages each of its BARs has
abbrev pub sizes_at : List LinkAccesses → ℕ → List (List ℕ)
sizes_at xs link = option_map_or (λ (x : LinkAccesses). x.guarded.sizes) (slice_get xs link) []

-- the byte by interface, BAR and offset
abbrev pub mmio_at : List LinkAccesses → ℕ → ℕ → ℕ → ℕ → ℕ
mmio_at xs link = option_map_or (λ (x : LinkAccesses). mmio_byte x.guarded) (slice_get xs link) (λ i b offset. 0)

-- those that wait at the switch of the link's hop in a direction
abbrev pub carried_on_link : List LinkAccesses → ℕ → Direction → List HopTlp
carried_on_link xs link d = option_map_or (λ (x : LinkAccesses). (queue_of x.carried d).tlps) (slice_get xs link) []

-- ---- what becomes of them

-- the bytes of a link are what this left, the newest first
abbrev pub AreLeftBy : (ℕ → ℕ → ℕ → ℕ) → List Happened → Type 0
AreLeftBy byte happened = (i b offset : ℕ) → byte i b offset ≡ byte_shown happened i b offset

-- what becomes of the reads, by port; and by link what becomes of the floors, what happens to the bytes, and what becomes
-- of the TLPs at the switch
pub record AccessesTurn (reads_after : PortName → List WaitingRead → List WaitingRead) (floors_after : ℕ → List ℕ → List ℕ)
    (happening : ℕ → List (Option Happened)) (carried_after : ℕ → Direction → List HopTlp → List HopTlp)
    (xs ys : List LinkAccesses) : Type 0 where
  pub many : length ys ≡ length xs
  pub reads : (port : PortName) → reads_at ys port ≡ reads_after port (reads_at xs port)
  pub floors : (link : ℕ) → floors_at ys link ≡ floors_after link (floors_at xs link)
  pub sizes : (link : ℕ) → sizes_at ys link ≡ sizes_at xs link
  pub bytes : (link : ℕ) (older : List Happened) → AreLeftBy (mmio_at xs link) older
      → AreLeftBy (mmio_at ys link) (newest_happened (happening link) older)
  pub carried : (link : ℕ) (d : Direction) → carried_on_link ys link d
      ≡ carried_after link d (carried_on_link xs link d)

abbrev pub same_reads : PortName → List WaitingRead → List WaitingRead
same_reads port reads = reads

abbrev pub same_floors : ℕ → List ℕ → List ℕ
same_floors link floors = floors

abbrev pub nothing_happens : ℕ → List (Option Happened)
nothing_happens link = []

abbrev pub same_carried : ℕ → Direction → List HopTlp → List HopTlp
same_carried link d tlps = tlps

-- as before, whatever pages are spare, and whatever room there is at switches
abbrev pub AccessesStay : List LinkAccesses → List LinkAccesses → Type 0
AccessesStay xs ys = AccessesTurn same_reads same_floors nothing_happens same_carried xs ys

-- those that wait after an event had this verdict, which ended a unit of these, if it ended one: only lines below 8 are
-- links, and what the ends of other lines are called says nothing of their switches
abbrev pub carried_next : List HopTlp → Event → Verdict → ℕ → Direction → List HopTlp → List HopTlp
carried_next new e verdict link d tlps = if is_link_line link then waiting_next new link d e verdict tlps else tlps

-- none at the switches of the links below this number whose hop these ends cut
abbrev pub hops_cleared : List PortName → ℕ → ℕ → Direction → List HopTlp → List HopTlp
hops_cleared ends count link d tlps = if nat_lt link count && clears_hop ends link then [] else tlps
