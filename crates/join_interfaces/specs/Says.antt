-- What the device of a link says of streams, and an interface that is bound to none but those that are Secure there.
use Rattle.std.specs.Prelude.{ℕ, ◌≡◌, ◌&&◌, ◌||◌, Bool, true, false, not, is_some, List, Option, IfSome}
use Rattle.ide_types.specs.declared.interface.InterfacePlan.{InterfacePlan}
use Rattle.ide_types.specs.declared.plan.Plan.{Plan}
use Rattle.ide_types.specs.declared.binding.Binding.{Binding}
use Rattle.interface_state.specs.Machine.{DeviceTdi, bound_link_stream}
use Rattle.interface_state.specs.Bindings.{binds}
use Rattle.interface_state.specs.Held.{IsBound}
use Rattle.spec_interfaces.specs.Peers.{live_by_id, any_leaves}
use Rattle.machine_whole.specs.Interfaces.{EndsRead}
use Rattle.machine_ports.specs.Machine.{LinkState}
use Rattle.machine_whole.specs.Machine.{ends_in}

-- of the streams of its link which are Secure at its port; of those between it and other devices the draw that is Live
-- where it receives posted requests, if the stream is Secure there
pub record DeviceSays : Type 0 where
  pub secure : ℕ → Bool
  pub live : ℕ → Option ℕ

abbrev pub says_by : Plan → EndsRead → ℕ → DeviceSays
says_by plan read link = record { secure = read.secure link; live = live_by_id read.live plan.peers link }

-- by the ports as they are
abbrev pub says_by_ports : Plan → LinkState → ℕ → DeviceSays
says_by_ports plan st link = says_by plan (ends_in plan st) link

-- Secure, of the link or between devices
abbrev pub is_said_secure : DeviceSays → ℕ → Bool
is_said_secure d stream = d.secure stream || is_some (d.live stream)

-- no stream of the link has the ID of one between devices
pub record AreApart (is_peer : ℕ → Bool) (d : DeviceSays) : Type 0 where
  pub live : (stream : ℕ) → is_some (d.live stream) ≡ true → is_peer stream ≡ true
  pub secure : (stream : ℕ) → is_peer stream ≡ true → d.secure stream ≡ false

-- An interface that is laid out so. A lock stands only on the topology's stream, and only while that is Secure; so is
-- each stream between devices that the interface is bound to, of which there is none without a lock.
pub record Keeps (d : DeviceSays) (x : InterfacePlan) (tdi : DeviceTdi) : Type 0 where
  pub layout : tdi.plan ≡ x
  pub own : IfSome (bound_link_stream tdi.state) (λ stream. stream ≡ x.stream)
  pub secure : IfSome (bound_link_stream tdi.state) (λ stream. d.secure stream ≡ true)
  pub bound : (stream : ℕ) → binds stream tdi.bindings ≡ true → is_some (d.live stream) ≡ true
  pub held : IsBound tdi.state tdi.bindings

-- a stream that it is bound to was Secure, and is not any more
abbrev pub leaves_stream : DeviceSays → DeviceSays → InterfacePlan → List Binding → Bool
leaves_stream before after x bs =
    (before.secure x.stream && not (after.secure x.stream)) || any_leaves before.live after.live bs

-- what is Secure by the one is so by the other
pub record AreSecureStill (before after : DeviceSays) : Type 0 where
  pub secure : (stream : ℕ) → before.secure stream ≡ true → after.secure stream ≡ true
  pub live : (stream : ℕ) → is_some (before.live stream) ≡ true → is_some (after.live stream) ≡ true
