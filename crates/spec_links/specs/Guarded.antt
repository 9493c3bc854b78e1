-- What happened to the memory of the interfaces of each link's device, and what is shown of it.
use Rattle.std.specs.Prelude.{◌*◌, ◌∷◌, Bool, true, false, List, None, Option, Some, [], slice_index, ℕ}
use Rattle.spec_links.specs.Terms.{Plan, Event, Verdict, Packet, History, bytes_from}
use Rattle.spec_interfaces.specs.Sites.{Site, site_at}
use Rattle.spec_interfaces.specs.Floors.{place_of, history_statuses}
use Rattle.spec_interfaces.specs.{Happened, byte_shown, newest_happened, page_counts, fits_range}
use Rattle.spec_links.specs.Memory.{unit_ended}
pub use Rattle.spec_links.specs.Happens.{tlp_happened, stored_packet, stored_each, unit_happenings, happens_if}
pub use Rattle.spec_links.specs.Happens.{halted_at, reset_at, asked_happens, happens_by_packets}
use Rattle.event_verdicts.specs.declared.verdict.Verdict.TheVariants as v
use Rattle.event_verdicts.specs.declared.access.AccessVerdict.TheVariants as access

-- ---- all that happens

-- the packets of the unit that a verdict ends
abbrev pub verdict_unit : Plan → History → Event → Verdict → List Packet
verdict_unit plan h e (v.Accepted port unit effects) = unit_ended plan h e port unit
verdict_unit plan h e w = []

abbrev pub happens : Plan → History → Event → Verdict → ℕ → List (Option Happened)
happens plan h e w link = happens_by_packets plan (history_statuses plan h) (verdict_unit plan h e w) e w link

-- the newest first
unfoldable pub link_happenings : Plan → History → ℕ → List Happened
link_happenings plan [] link = []
link_happenings plan ((e, w) ∷ h) link = newest_happened (happens plan h e w link) (link_happenings plan h link)

-- ---- what is shown

abbrev pub mmio_if : Bool → List ℕ → Verdict
mmio_if true bytes = v.Access (access.Mmio bytes)
mmio_if false bytes = v.Nothing

-- of an interface, by what happened at each link; the range of its BAR has 4096 bytes for each page
abbrev pub mmio_shown : Plan → (ℕ → List Happened) → Option Site → ℕ → ℕ → ℕ → Verdict
mmio_shown plan happened_at None bar offset len = v.Nothing
mmio_shown plan happened_at (Some x) bar offset len =
    mmio_if (fits_range (4096 * slice_index (page_counts x.plan) bar) offset len)
    (bytes_from (byte_shown (happened_at x.link) (place_of plan x) bar) offset len)

-- the bytes from an offset on, if the range has them all
abbrev pub mmio_by_happenings : Plan → (ℕ → List Happened) → ℕ → ℕ → ℕ → ℕ → Verdict
mmio_by_happenings plan happened_at i bar offset len = mmio_shown plan happened_at (site_at plan i) bar offset len

abbrev pub mmio_due : Plan → History → ℕ → ℕ → ℕ → ℕ → Verdict
mmio_due plan h i bar offset len = mmio_by_happenings plan (link_happenings plan h) i bar offset len
