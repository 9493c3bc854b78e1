-- The writes that stand in the range of a BAR of an interface, by the effects in verdicts.
use Rattle.spec_links.specs.Ports.{port_of}
use Rattle.std.specs.Prelude.{◌==◌, ◌&&◌, ◌∷◌, Bool, false, Err, List, None, Ok, Option, Result, Some, [], drop}
use Rattle.std.specs.Prelude.{length, not, take, if◌then◌else◌, ℕ}
use Rattle.ide_types.specs.Ports.{device_port}
use Rattle.spec_links.specs.Terms.{Plan, Event, Effect, Verdict, Accepted, read_head_of, TlpFault}
use Rattle.spec_links.specs.Terms.{Packet, History, Write, memory_write, newest_first, byte_last_written}
use Rattle.spec_links.specs.Plan.{is_same_port}
use Rattle.spec_links.specs.Memory.{unit_ended, plain_of}
use Rattle.tlp_layout.specs.declared.head.HeadView.{HeadView}
use Rattle.spec_interfaces.specs.Sites.{Site}
use Rattle.spec_interfaces.specs.Exchanges.{carries, changes_device}
use Rattle.spec_interfaces.specs.Floors.{place_of, history_statuses}
use Rattle.guarded_memory.specs.declared.status.InterfaceStatus.{InterfaceStatus}
use Rattle.guarded_memory.specs.declared.claims.Claim.{Claim}
use Rattle.guarded_memory.specs.Statuses.{has_open_range}
use Rattle.guarded_memory.specs.Claims.{claim_of}
use Rattle.guarded_memory.specs.Stored.{write_from_base}
use Rattle.script_events.specs.declared.event.Event.TheVariants as event
use Rattle.script_events.specs.declared.event.InterfaceEvent.TheVariants as ie
use Rattle.event_verdicts.specs.declared.verdict.Effect.TheVariants as effect
use Rattle.event_verdicts.specs.declared.verdict.Verdict.TheVariants as v

-- ---- the writes of a unit

-- the memory write that a packet with this payload is
abbrev pub write_read : List ℕ → Result HeadView TlpFault → Option Write
write_read payload (Err f) = None
write_read payload (Ok head) = memory_write head payload

-- the write, with its offset in the range for its address, if it is this BAR of the interface at this place that claims
-- it: the least interface, and its least BAR
abbrev pub if_claims : ℕ → ℕ → Write → Option Claim → Option Write
if_claims place bar w None = None
if_claims place bar w (Some c) =
    if (c.interface == place) && (c.bar == bar) then Some (write_from_base c.range.base w) else None

abbrev pub claimed_write : List InterfaceStatus → ℕ → ℕ → Option Write → Option Write
claimed_write xs place bar None = None
claimed_write xs place bar (Some w) = if_claims place bar w (claim_of xs w.span)

-- of a packet with the effect `stored`
abbrev pub if_stored : Effect → Option Write → Option Write
if_stored effect.Stored o = o
if_stored e o = None

-- of each packet of a unit with these effects and this plaintext, at a device whose interfaces stand so
abbrev pub unit_stored_writes : List InterfaceStatus → ℕ → ℕ → List ℕ → List Effect → List Packet → List (Option Write)
unit_stored_writes xs place bar plain (e ∷ es) (p ∷ ps) =
    if_stored e (claimed_write xs place bar (write_read (take (length p.body) plain) (read_head_of p.head)))
    ∷ unit_stored_writes xs place bar (drop (length p.body) plain) es ps
unit_stored_writes xs place bar plain _ _ = []

-- ---- all pairs

-- what a pair stores in the range of a BAR of an interface, packet by packet of the unit that it ends
abbrev pub stores : Plan → History → Event → Verdict → Site → ℕ → List (Option Write)
stores plan h e (Accepted port unit effects) x bar =
    if is_same_port (port_of plan port) (device_port x.link)
    then unit_stored_writes (history_statuses plan h x.link) (place_of plan x) bar
    (plain_of plan port unit (unit_ended plan h e port unit)) effects (unit_ended plan h e port unit)
    else []
stores plan h e w x bar = []

-- an interface is asked for what sets it to 0: a level reset, and unless the range is open a halt whose request comes
-- to the device
abbrev pub asked_zero : Event → Verdict → Site → ℕ → Bool
asked_zero (event.Interface (ie.Halt i loss)) w x bar =
    (i == x.number) && (carries w 1 && not (has_open_range x.plan.bars bar))
asked_zero (event.Interface (ie.Flr i)) w x bar = (i == x.number) && changes_device w
asked_zero e w x bar = false

-- a pair sets it to 0: it resets the link, or the interface is asked so
abbrev pub sets_to_zero : Event → Verdict → Site → ℕ → Bool
sets_to_zero (event.Reset l ends) (v.Reset k) x bar = l == x.link
sets_to_zero e w x bar = asked_zero e w x bar

-- the writes that were stored in it since it was last set to 0, the newest first
unfoldable pub writes_since_zero : Plan → History → Site → ℕ → List Write
writes_since_zero plan [] x bar = []
writes_since_zero plan ((e, w) ∷ h) x bar =
    if sets_to_zero e w x bar then []
    else newest_first (stores plan h e w x bar) (writes_since_zero plan h x bar)

-- the byte at an offset: that of the last of them that enables it, else 0
abbrev pub stored_byte : Plan → History → Site → ℕ → ℕ → ℕ
stored_byte plan h x bar offset = byte_last_written (writes_since_zero plan h x bar) offset
