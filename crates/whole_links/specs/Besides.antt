-- What all links say beside their ports: also the effects of accepted units, the answers to reads that wait, what is
-- shown of the memory of devices, and what the first TLP comes to that waits at a switch.
use Rattle.std.specs.Prelude.{ℕ, nat_le, Bool, false, if◌then◌else◌, List, [], ◌∷◌, Option, Some, None}
use Rattle.std.specs.Prelude.{Result, Ok, Err, slice_get}
use Rattle.ide_types.specs.declared.direction.Direction.{Direction}
use Rattle.ide_types.specs.declared.plan.Plan.{Plan}
use Rattle.script_events.specs.declared.event.InterfaceEvent.{InterfaceEvent}
use Rattle.event_verdicts.specs.declared.verdict.Verdict.{Verdict}
use Rattle.event_verdicts.specs.declared.verdict.Verdict.TheVariants as v
use Rattle.event_verdicts.specs.declared.access.AccessVerdict.TheVariants as av
use Rattle.tlp_layout.specs.Outgoing.{outgoing_of, stream_taken}
use Rattle.ide_types.specs.Ports.{host_port}
use Rattle.ide_types.specs.declared.port.PortName.{PortName}
use Rattle.ide_types.specs.declared.port.Side.{Side}
use Rattle.ide_types.specs.declared.port.Side.TheVariants.{Host, Device}
use Rattle.script_events.specs.declared.event.Event.{Event}
use Rattle.script_events.specs.declared.event.Event.TheVariants.{Access}
use Rattle.script_events.specs.declared.event.AccessEvent.TheVariants as ae
use Rattle.trusted_memory.specs.{MemoryContents, byte_at, bytes_from, host_completer}
use Rattle.trusted_memory.specs.declared.queue.WaitingRead.{WaitingRead}
use Rattle.trusted_memory.specs.declared.queue.ReadTarget.{ReadTarget}
use Rattle.trusted_memory.specs.declared.read.MemReadView.{MemReadView}
use Rattle.guarded_memory.specs.declared.claims.Claim.{Claim}
use Rattle.guarded_memory.specs.{GuardedMemory, claim_of, claimed_byte, judged_claim, mmio_byte}
use Rattle.interface_state.specs.Machine.{DeviceTdi}
use Rattle.link_stores.specs.declared.link.LinkAccesses.{LinkAccesses}
use Rattle.link_stores.specs.{reads_on}
unfoldable use Rattle.trusted_memory.specs.{completion_bytes}
use Rattle.guarded_memory.specs.Contents.{has_bytes}
use Rattle.interface_host.specs.Managers.{running_grant, interface_of_requester}
use Rattle.all_links.specs.{LinkEnds, InterfacesView, link_statuses, number_on_links}
pub use Rattle.all_links.specs.{small_number}
use Rattle.spec_links.specs.Memory.{effects_under_policy}
use Rattle.spec_links.specs.Hops.{HopTlp}
use Rattle.spec_links.specs.Ports.{port_of}
pub use Rattle.spec_links.specs.Due.{judged_bound}
use Rattle.spec_links.specs.Guarded.{mmio_if}
use Rattle.machine_ports.specs.Machine.{BesidePorts}
use Rattle.machine_ports.specs.Forwards.{forward_of}
use Rattle.machine_ports.specs.Replies.{ReadCompletion}
pub use Rattle.machine_ports.specs.Replies.{bound_completion, claimed_completion}
use Rattle.std.specs.Option.{option_map_or, option_and_then}
use Rattle.spec_keys.specs.Keys.{is_some_below}
use Rattle.all_links.specs.Accesses.{sizes_at, mmio_at, carried_on_link, policy_in}
use Rattle.all_links.specs.Besides.{beside_in}
use Rattle.all_links.specs.Interfaces.{interface_named}
use Rattle.whole_links.specs.declared.whole.WholeLinks.{WholeLinks}
use Rattle.whole_links.specs.declared.reply.Reply.{Reply}

-- ---- answers to reads at a host's port

-- the stream that a TLP takes at the host's port, if it takes one
abbrev pub host_stream : LinkEnds → List ℕ → Option ℕ
host_stream l bytes = stream_taken (outgoing_of l.host.plans l.host.name.side bytes)

-- of a read of the interface of this number, by what the manager says of its requester, from memory as it is now
abbrev pub reply_numbered : InterfacesView → LinkEnds → ℕ → MemoryContents → WaitingRead → Option ℕ
    → Result ReadCompletion Verdict
reply_numbered m l link memory r None = Err v.Nothing
reply_numbered m l link memory r (Some interface) =
    let bytes = completion_bytes host_completer (byte_at memory) r.read in
    bound_completion (host_port link) bytes
    (judged_bound (host_stream l bytes) interface r.came.draw (running_grant m link r.read.requester))

-- the number of the interface of a link with this requester ID
abbrev pub reader_of : InterfacesView → ℕ → ℕ → Option ℕ
reader_of m link requester = option_and_then small_number (interface_of_requester m link requester)

abbrev pub host_reply : InterfacesView → LinkEnds → ℕ → MemoryContents → WaitingRead → Result ReadCompletion Verdict
host_reply m l link memory r = reply_numbered m l link memory r (reader_of m link r.read.requester)

-- ---- at a device's port

-- the requester ID of the interface at this place of a device
abbrev pub requester_at : LinkEnds → ℕ → ℕ
requester_at l place =
    option_map_or (λ (t : DeviceTdi). t.plan.requester) (slice_get l.device.interfaces.interfaces place) 0

-- of a read that is claimed by this: the interface completes it, from its memory as it is now
abbrev pub claim_bytes : LinkEnds → GuardedMemory → MemReadView → Option Claim → List ℕ
claim_bytes l g read None = []
claim_bytes l g read (Some c) = completion_bytes (requester_at l c.interface) (claimed_byte (mmio_byte g) c) read

-- of a read of this target, which is an interface of this number, by how the interfaces stand now
abbrev pub response_numbered : LinkEnds → LinkAccesses → WaitingRead → ReadTarget → Option ℕ
    → Result ReadCompletion Verdict
response_numbered l a r target None = Err v.Nothing
response_numbered l a r target (Some interface) =
    let claim = claim_of (link_statuses l a) r.read.span in
    claimed_completion r.came interface (claim_bytes l a.guarded r.read claim) (judged_claim claim target r.came)

abbrev pub target_reply : List LinkEnds → LinkEnds → LinkAccesses → ℕ → WaitingRead → Option ReadTarget
    → Result ReadCompletion Verdict
target_reply links l a link r None = Err v.Nothing
target_reply links l a link r (Some target) =
    response_numbered l a r target (option_and_then small_number (number_on_links links link target.interface))

-- ---- at either

abbrev pub reply_on_side : Side → WholeLinks → LinkEnds → LinkAccesses → ℕ → WaitingRead → Result ReadCompletion Verdict
reply_on_side Host s l a link r = host_reply s.links.keeper.interfaces l link s.links.trusted.contents r
reply_on_side Device s l a link r = target_reply s.links.ends.links l a link r r.target

-- the oldest read that waits at a port
abbrev pub reply_oldest : PortName → WholeLinks → LinkEnds → LinkAccesses → List WaitingRead
    → Result ReadCompletion Verdict
reply_oldest port s l a [] = Err (v.Access (av.Empty port.line))
reply_oldest port s l a (r ∷ rs) = reply_on_side port.side s l a port.line r

abbrev pub reply_at_link : PortName → WholeLinks → Option LinkEnds → Option LinkAccesses → Result ReadCompletion Verdict
reply_at_link port s (Some l) (Some a) = reply_oldest port s l a (reads_on port.side a)
reply_at_link port s l a = Err v.Nothing

abbrev pub port_reply : WholeLinks → PortName → Result ReadCompletion Verdict
port_reply s port =
    reply_at_link port s (slice_get s.links.ends.links port.line) (slice_get s.accesses port.line)

-- what a reply is, with the bytes of its completion
abbrev pub completion_of_reply : Result Reply Verdict → List ℕ → Result ReadCompletion Verdict
completion_of_reply (Err verdict) bytes = Err verdict
completion_of_reply (Ok x) bytes = Ok (record {
  end = x.end;
  stream = x.stream;
  trusted = x.trusted;
  floor = x.floor;
  bytes = bytes;
})

-- the event that answers the oldest read at the port of a side of a link
abbrev pub answer_event : Side → ℕ → Event
answer_event Host link = Access (ae.Answer link)
answer_event Device link = Access (ae.Respond link)

-- the draw, if it is less than a floor
abbrev pub draw_below : Option ℕ → ℕ → Option ℕ
draw_below draw floor = if is_some_below draw floor then draw else None

-- ---- the memory of devices

abbrev pub place_named : WholeLinks → ℕ → Option (ℕ × ℕ)
place_named s i = interface_named s.links.keeper.interfaces s.links.ends.links i

-- the range of a BAR of an interface has all these bytes
abbrev pub has_shown : WholeLinks → ℕ → ℕ → ℕ → ℕ → Bool
has_shown s i bar offset len =
    option_map_or (λ (at : ℕ × ℕ). has_bytes (sizes_at s.accesses at.0) at.1 bar offset len) (place_named s i) false

abbrev pub bytes_shown : WholeLinks → ℕ → ℕ → ℕ → ℕ → List ℕ
bytes_shown s i bar offset len =
    option_map_or (λ (at : ℕ × ℕ). bytes_from (mmio_at s.accesses at.0 at.1 bar) offset len) (place_named s i) []

abbrev pub shown_mmio : WholeLinks → ℕ → ℕ → ℕ → ℕ → Verdict
shown_mmio s i bar offset len = mmio_if (has_shown s i bar offset len) (bytes_shown s i bar offset len)

-- ---- what waits at switches

-- what the first TLP comes to that waits in a direction of a link's hop
abbrev pub forward_in : Plan → WholeLinks → ℕ → Direction → Result HopTlp Verdict
forward_in plan s link d = forward_of plan link (carried_on_link s.accesses link d)

-- ---- all of it

-- events on interfaces have these answers
abbrev pub beside_whole : Plan → WholeLinks → (InterfaceEvent → Verdict) → BesidePorts
beside_whole plan s answer =
    beside_in s.links (record {
      t = λ port head stream trusted. trusted;
      effects = λ port.
          effects_under_policy plan (policy_in s.links.keeper.interfaces s.links.ends s.accesses) (port_of plan port);
      answer = answer;
      reply = port_reply s;
      shows = shown_mmio s;
      forward = forward_in plan s;
    })
