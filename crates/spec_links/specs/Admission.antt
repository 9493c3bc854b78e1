-- What the packets of an accepted unit come to, by what their effects depend on beside them.
use Rattle.std.specs.Prelude.{if◌then◌else◌, ◌&&◌, ◌+◌, ◌==◌, ◌∷◌, Bool, Err, List, None, Ok, Option, Result, []}
use Rattle.std.specs.Prelude.{drop, length, not, take, ℕ}
use Rattle.spec_links.specs.Terms.{option_and_then, PortName, Plan, Effect, UnitName, read_head_of, TlpFault, iv_of}
use Rattle.spec_links.specs.Terms.{Packet, is_sync_packet, encrypted_bytes, open_of, sent_direction}
use Rattle.spec_links.specs.Terms.{Write, Grant, memory_write, is_on_bound, if_placed, owner_id}
use Rattle.spec_links.specs.Terms.{request_effect, device_request_effect, InterfaceStatus}
use Rattle.ide_types.specs.declared.binding.Binding.{Binding}
use Rattle.tlp_layout.specs.declared.head.HeadView.{HeadView}
use Rattle.spec_links.specs.Plan.{key_of}
use Rattle.spec_links.specs.Ports.{port_of, at_switch, is_host_port}
use Rattle.spec_links.specs.Packets.{received_in}
use Rattle.event_verdicts.specs.declared.verdict.Effect.TheVariants as effect

-- ---- what effects depend on

-- what the manager says of requesters, by link and requester ID: their binding, if its view is Running
abbrev pub Grants : Type 0
Grants = ℕ → ℕ → Option Binding

pub record Policy : Type 0 where
  pub grants : Grants
  -- how many reads wait at a port for their answer
  pub waiting : PortName → ℕ
  -- how the interfaces of a link's device stand
  pub statuses : ℕ → List InterfaceStatus

-- of the TLP's requester
abbrev pub requester_bound : Grants → PortName → HeadView → Option Binding
requester_bound grants port head = option_and_then (grants port.line) (owner_id head)

abbrev pub unit_grant : Grants → PortName → UnitName → HeadView → Grant
unit_grant grants port unit head =
    record { bound = requester_bound grants port head; stream = unit.stream; draw = unit.draw }

-- ---- effects

-- at a host's port, while so many reads wait there: the header says which bytes are asked for
abbrev pub host_effect : Plan → Grants → ℕ → PortName → UnitName → Packet → Result HeadView TlpFault → Effect
host_effect plan grants waiting port unit p (Err f) = effect.Delivered
host_effect plan grants waiting port unit p (Ok head) =
    request_effect plan.memory p.prefix.t (unit_grant grants port unit head) waiting head

-- at a device's port, whose interfaces stand so, while so many reads wait there
abbrev pub device_effect : List InterfaceStatus → ℕ → UnitName → Packet → Result HeadView TlpFault → Effect
device_effect statuses waiting unit p (Err f) = effect.Delivered
device_effect statuses waiting unit p (Ok head) =
    device_request_effect statuses p.prefix.t unit.stream unit.draw waiting head

-- at a switch each TLP waits
abbrev pub switch_effect : Effect
switch_effect = effect.Waiting

abbrev pub effect_by : Plan → Policy → ℕ → PortName → UnitName → Packet → Effect
effect_by plan policy waiting port unit p =
    if is_sync_packet p then effect.Sync
    else if at_switch plan port then switch_effect
    else if sent_direction port.side == 0
    then host_effect plan policy.grants waiting port unit p (read_head_of p.head)
    else device_effect (policy.statuses port.line) waiting unit p (read_head_of p.head)

-- a read that is queued waits too
abbrev pub waiting_then : Effect → ℕ → ℕ
waiting_then effect.Queued waiting = waiting + 1
waiting_then e waiting = waiting

-- of packets in order, while so many reads wait ahead of the first
abbrev pub effects_each : Plan → Policy → ℕ → PortName → UnitName → List Packet → List Effect
effects_each plan policy waiting port unit [] = []
effects_each plan policy waiting port unit (p ∷ ps) =
    effect_by plan policy waiting port unit p
    ∷ effects_each plan policy (waiting_then (effect_by plan policy waiting port unit p) waiting) port unit ps

-- of the packets of a unit that was accepted at a port, in order
abbrev pub effects_under_policy : Plan → Policy → PortName → UnitName → List Packet → List Effect
effects_under_policy plan policy port unit ps = effects_each plan policy (policy.waiting port) port unit ps

-- ---- the writes that are admitted

-- the write that a packet with this payload is, if it is admitted: it has T, and its requester is an interface of the
-- link whose view is Running, on its bound stream, under a draw from its floor on
abbrev pub payload_write : Plan → Grants → PortName → UnitName → Bool → List ℕ → Result HeadView TlpFault → Option Write
payload_write plan grants port unit t payload (Err f) = None
payload_write plan grants port unit t payload (Ok head) =
    if_placed plan.memory (t && is_on_bound unit.stream unit.draw (requester_bound grants port head))
    (memory_write head payload)

abbrev pub write_if_admitted : Plan → Grants → PortName → UnitName → Packet → List ℕ → Option Write
write_if_admitted plan grants port unit p payload =
    if not (is_sync_packet p) && is_host_port plan port
    then payload_write plan grants port unit p.prefix.t payload (read_head_of p.head) else None

-- of each packet of a unit with this plaintext
abbrev pub admitted_each : Plan → Grants → PortName → UnitName → List ℕ → List Packet → List (Option Write)
admitted_each plan grants port unit plain [] = []
admitted_each plan grants port unit plain (p ∷ ps) =
    write_if_admitted plan grants port unit p (take (length p.body) plain)
    ∷ admitted_each plan grants port unit (drop (length p.body) plain) ps

abbrev pub plain_of : Plan → PortName → UnitName → List Packet → List ℕ
plain_of plan port unit ps =
    open_of (key_of plan unit.draw (received_in port unit)) (iv_of unit.sub unit.unit) (encrypted_bytes ps)

-- of each packet of a unit that was accepted at an end
abbrev pub admitted_writes : Plan → Grants → PortName → UnitName → List Packet → List (Option Write)
admitted_writes plan grants port unit ps =
    admitted_each plan grants (port_of plan port) unit (plain_of plan port unit ps) ps
