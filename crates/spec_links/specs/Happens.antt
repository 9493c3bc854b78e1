-- What happened to the memory of the interfaces of each link's device, by the packets that were sealed.
use Rattle.std.specs.Prelude.{◌==◌, ◌&&◌, ◌∷◌, Bool, true, false, Err, List, None, Ok, Option, Result, Some}
use Rattle.std.specs.Prelude.{[], drop, length, take, if◌then◌else◌, ℕ}
use Rattle.spec_links.specs.Terms.{PortName, Plan, Event, UnitName, Verdict, read_head_of, TlpFault, Packet}
use Rattle.spec_links.specs.Terms.{is_sync_packet, History, memory_write}
use Rattle.spec_links.specs.Ports.{port_of, is_device_port}
use Rattle.tlp_layout.specs.declared.head.HeadView.{HeadView}
use Rattle.spec_interfaces.specs.Sites.{Site, site_at}
use Rattle.spec_interfaces.specs.Exchanges.{carries, changes_device}
use Rattle.spec_interfaces.specs.Floors.{place_of, history_statuses}
use Rattle.spec_interfaces.specs.{InterfaceStatus, Happened, InterfaceReset, AllReset, InterfaceStopped}
use Rattle.spec_interfaces.specs.{newest_happened, write_happened}
use Rattle.spec_links.specs.Packets.{SealedList}
use Rattle.spec_links.specs.Ended.{unit_accepted}
use Rattle.spec_links.specs.Admission.{plain_of}
use Rattle.script_events.specs.declared.event.Event.TheVariants as event
use Rattle.script_events.specs.declared.event.InterfaceEvent.TheVariants as ie
use Rattle.event_verdicts.specs.declared.verdict.Verdict.TheVariants as v

-- ---- the writes that are stored

-- what a TLP with this header and payload makes happen at a device whose interfaces stand so, in this unit
abbrev pub tlp_happened : List InterfaceStatus → UnitName → Bool → List ℕ → Result HeadView TlpFault → Option Happened
tlp_happened xs unit t payload (Err f) = None
tlp_happened xs unit t payload (Ok head) = write_happened xs t unit.stream unit.draw (memory_write head payload)

abbrev pub stored_packet : List InterfaceStatus → UnitName → Packet → List ℕ → Option Happened
stored_packet xs unit p payload =
    if is_sync_packet p then None else tlp_happened xs unit p.prefix.t payload (read_head_of p.head)

-- of each packet of a unit with this plaintext
abbrev pub stored_each : List InterfaceStatus → UnitName → List ℕ → List Packet → List (Option Happened)
stored_each xs unit plain [] = []
stored_each xs unit plain (p ∷ ps) =
    stored_packet xs unit p (take (length p.body) plain) ∷ stored_each xs unit (drop (length p.body) plain) ps

-- of a unit that was accepted: at a host's port and at a switch nothing
abbrev pub unit_happenings : List InterfaceStatus → Plan → PortName → UnitName → List Packet → List (Option Happened)
unit_happenings xs plan port unit ps =
    if is_device_port plan (port_of plan port) then stored_each xs unit (plain_of plan port unit ps) ps else []

-- ---- all that happens

abbrev pub happens_if : Bool → Happened → List (Option Happened)
happens_if true h = Some h ∷ []
happens_if false h = []

-- to an interface of the link that takes the request of a halt, or is reset
abbrev pub halted_at : Plan → Verdict → ℕ → Option Site → List (Option Happened)
halted_at plan w link None = []
halted_at plan w link (Some x) =
    happens_if ((x.link == link) && carries w 1) (InterfaceStopped (place_of plan x) x.plan.bars)

abbrev pub reset_at : Plan → Verdict → ℕ → Option Site → List (Option Happened)
reset_at plan w link None = []
reset_at plan w link (Some x) = happens_if ((x.link == link) && changes_device w) (InterfaceReset (place_of plan x))

abbrev pub asked_happens : Plan → Event → Verdict → ℕ → List (Option Happened)
asked_happens plan (event.Interface (ie.Halt i loss)) w link = halted_at plan w link (site_at plan i)
asked_happens plan (event.Interface (ie.Flr i)) w link = reset_at plan w link (site_at plan i)
asked_happens plan e w link = []

-- at the device of a link whose interfaces stand so, if the verdict of an event ends a unit of these packets, or none
abbrev pub happens_by_packets : Plan → (ℕ → List InterfaceStatus) → List Packet → Event → Verdict → ℕ
    → List (Option Happened)
happens_by_packets plan statuses ps e (v.Accepted port unit effects) link =
    if (port_of plan port).line == link then unit_happenings (statuses (port_of plan port).line) plan port unit ps else
    []
happens_by_packets plan statuses ps (event.Reset l ends) (v.Reset k) link = happens_if (l == link) AllReset
happens_by_packets plan statuses ps e w link = asked_happens plan e w link

-- ---- in order

-- the packets of the unit that a verdict ends
abbrev pub unit_in_list : Plan → SealedList → History → Event → Verdict → List Packet
unit_in_list plan xs h e (v.Accepted port unit effects) = unit_accepted plan xs h e port unit
unit_in_list plan xs h e w = []

-- the newest first
unfoldable pub happenings_in_list : Plan → SealedList → History → ℕ → List Happened
happenings_in_list plan xs [] link = []
happenings_in_list plan xs ((e, w) ∷ h) link =
    newest_happened (happens_by_packets plan (history_statuses plan h) (unit_in_list plan xs h e w) e w link)
    (happenings_in_list plan xs h link)
