-- Manager and device keep of an interface what the machine keeps of it.
use Rattle.std.specs.Prelude.{ℕ, ◌≡◌, IfSome}
use Rattle.ide_types.specs.Fits.{IsKey}
use Rattle.ide_types.specs.declared.view.View.TheVariants.{Unlocked, Locked, Running, Doubt, Broken}
use Rattle.spec_interfaces.specs.Sites.{Site}
use Rattle.spec_interfaces.specs.Views.{Managed}
use Rattle.machine_whole.specs.Interfaces.{Face}
use Rattle.interface_state.specs.Machine.{DeviceTdi, bound_link_stream}
use Rattle.interface_host.specs.Views.{HostTdi, Seen, IsUnlocked, IsLocked, IsRunning, IsDoubt, IsBroken, nonce_of}

-- A view that is Locked keeps its nonce and whether it was reported, one that is Running its floor; the others nothing.
abbrev pub SeenAs : Seen → Managed → Type 0
SeenAs IsUnlocked m = m.view ≡ Unlocked
SeenAs (IsLocked nonce reported) m = (m.view ≡ Locked) × (m.nonce ≡ nonce) × (m.reported ≡ reported)
SeenAs (IsRunning floor) m = (m.view ≡ Running) × (m.floor ≡ floor)
SeenAs IsDoubt m = m.view ≡ Doubt
SeenAs IsBroken m = m.view ≡ Broken

-- what the topology says of it
pub record IsSiteLaidOut (x : Site) (i : HostTdi) : Type 0 where
  pub link : i.link ≡ x.link
  pub requester : i.requester ≡ x.plan.requester
  pub stream : i.stream ≡ x.plan.stream
  pub flags : i.flags ≡ x.plan.flags
  pub offset : i.offset ≡ x.plan.offset

-- what the manager keeps of it
pub record IsManaged (draw : ℕ) (x : Site) (i : HostTdi) (m : Managed) : Type 0 where
  pub laid_out : IsSiteLaidOut x i
  pub draw_is : i.draw ≡ draw
  pub needs : i.needs ≡ m.needs
  pub started : i.was_started ≡ m.started
  pub seen : SeenAs i.seen m
  pub nonce : IsKey (nonce_of i.seen)
  pub asked : i.asked ≡ m.asked

-- what manager and device keep of it; `draw` is that of its stream
pub record IsFace (draw : ℕ) (x : Site) (i : HostTdi) (tdi : DeviceTdi) (f : Face) : Type 0 where
  pub managed : IsManaged draw x i f.managed
  pub tdi_is : tdi ≡ f.tdi
  pub layout : tdi.plan ≡ x.plan
  -- a lock binds it to the stream of the topology
  pub bound : IfSome (bound_link_stream tdi.state) (λ stream. stream ≡ x.plan.stream)
