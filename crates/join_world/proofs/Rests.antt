-- What events make of one interface of the machine. One that speaks of packets or of streams makes no more of it than
-- that a stream that it is bound to leaves Secure; one that speaks of another interface, or of none, or of a stream
-- between devices that its device does not have, makes nothing of it.
use Rattle.std.proofs.Common.{◌≡◌, ℕ, ◌==◌, Bool, true, false, refl, arith}
use Rattle.std.specs.Prelude.{if◌then◌else◌}
use Rattle.script_events.specs.declared.event.Event.{Event}
use Rattle.script_events.specs.declared.event.Event.TheVariants as event
use Rattle.script_events.specs.declared.event.InterfaceEvent.{InterfaceEvent}
use Rattle.script_events.specs.declared.event.InterfaceEvent.TheVariants as ie
use Rattle.event_verdicts.specs.declared.verdict.Verdict.{Verdict}
use Rattle.event_verdicts.specs.declared.verdict.Verdict.TheVariants as v
use Rattle.spec_keys.specs.Operations.{StreamStage}
use Rattle.interface_state.specs.Machine.{DeviceTdi, StreamLeft}
use Rattle.spec_interfaces.specs.Sites.{Site}
use Rattle.spec_interfaces.specs.Views.{Managed, managed_after, is_number, number_in}
use Rattle.spec_interfaces.specs.Devices.{Around, next_interface, interface_if_called, accepts_lock}
use Rattle.machine_whole.specs.Machine.{draw_after}

-- ---- events on ports

-- it is on no interface, and resets no link
abbrev pub is_of_ports : Event → Verdict → Bool
is_of_ports (event.Interface e) w = false
is_of_ports (event.Reset link ends) (v.Reset l) = false
is_of_ports e w = true

pub next_of_ports : (a : Around) (left : Bool) (x : Site) (e : Event) (w : Verdict) (tdi : DeviceTdi)
    → is_of_ports e w ≡ true → next_interface a left x e w tdi ≡ interface_if_called left StreamLeft tdi
next_of_ports a left x e w tdi is = grind arith

pub none_of_ports : (a : Around) (x : Site) (e : Event) (w : Verdict) (tdi : DeviceTdi) → is_of_ports e w ≡ true
    → accepts_lock a x e w tdi ≡ false
none_of_ports a x e w tdi is = grind arith

-- ---- events that leave it

pub record Rests (e : Event) (w : Verdict) (x : Site) : Type 0 where
  pub next : (a : Around) (tdi : DeviceTdi) → next_interface a false x e w tdi ≡ tdi
  pub none : (a : Around) (tdi : DeviceTdi) → accepts_lock a x e w tdi ≡ false
  pub managed : (ops : ℕ → ℕ → StreamStage) (drawn : ℕ) (m : Managed) → managed_after ops drawn x e w m ≡ m

-- it speaks of packets, or asks what is; or it is a reset of a link that is not there
abbrev pub is_of_packets : Event → Verdict → Bool
is_of_packets (event.Interface e) w = false
is_of_packets (event.Reset link ends) (v.Reset l) = false
is_of_packets (event.Establish line stream loss) w = false
is_of_packets (event.Refresh line stream loss) w = false
is_of_packets (event.Stop line stream loss) w = false
is_of_packets e w = true

pub of_ports : (e : Event) (w : Verdict) → is_of_packets e w ≡ true → is_of_ports e w ≡ true
of_ports e w is = grind arith

pub draw_of_packets : (ops : ℕ → ℕ → StreamStage) (drawn : ℕ) (e : Event) (w : Verdict) (draw : ℕ → ℕ → ℕ)
    → is_of_packets e w ≡ true → draw_after ops drawn e w draw ≡ draw
draw_of_packets ops drawn e w draw is = grind arith

next_of_packets : (a : Around) (x : Site) (e : Event) (w : Verdict) (tdi : DeviceTdi) → is_of_packets e w ≡ true
    → next_interface a false x e w tdi ≡ tdi
next_of_packets a x e w tdi is = grind arith

none_of_packets : (a : Around) (x : Site) (e : Event) (w : Verdict) (tdi : DeviceTdi) → is_of_packets e w ≡ true
    → accepts_lock a x e w tdi ≡ false
none_of_packets a x e w tdi is = grind arith

pub managed_of_packets : (ops : ℕ → ℕ → StreamStage) (drawn : ℕ) (x : Site) (e : Event) (w : Verdict) (m : Managed)
    → is_of_packets e w ≡ true → managed_after ops drawn x e w m ≡ m
managed_of_packets ops drawn x e w m is = grind arith

pub rests_of_packets : (e : Event) (w : Verdict) (x : Site) → is_of_packets e w ≡ true → Rests e w x
rests_of_packets e w x is = record {
  next = λ a tdi. next_of_packets a x e w tdi is;
  none = λ a tdi. none_of_packets a x e w tdi is;
  managed = λ ops drawn m. managed_of_packets ops drawn x e w m is;
}

if_same : {A : Type 0} (b : Bool) (y : A) → (if b then y else y) ≡ y
if_same true y = refl
if_same false y = refl

pub rests_at_view : (i : ℕ) (w : Verdict) (x : Site) → Rests (event.Interface (ie.View i)) w x
rests_at_view i w x = record {
  next = λ a tdi. if_same (i == x.number) tdi;
  none = λ a tdi. refl;
  managed = λ ops drawn m. if_same (i == x.number) m;
}

pub rests_at_memory : (at len : ℕ) (w : Verdict) (x : Site) → Rests (event.Interface (ie.Memory at len)) w x
rests_at_memory at len w x = record { next = λ a tdi. refl; none = λ a tdi. refl; managed = λ ops drawn m. refl }

none_elsewhere : (a : Around) (x : Site) (e : InterfaceEvent) (w : Verdict) (tdi : DeviceTdi)
    → is_number (number_in e) x.number ≡ false → accepts_lock a x (event.Interface e) w tdi ≡ false
none_elsewhere a x (ie.Lock i loss) w tdi other = rw other refl
none_elsewhere a x e w tdi other = refl

-- an event on an interface of another number
pub rests_elsewhere : (e : InterfaceEvent) (w : Verdict) (x : Site) → is_number (number_in e) x.number ≡ false
    → Rests (event.Interface e) w x
rests_elsewhere e w x other = record {
  next = λ a tdi. rw other refl;
  none = λ a tdi. none_elsewhere a x e w tdi other;
  managed = λ ops drawn m. rw other refl;
}

-- a bind or an unbind of a stream that the interface's device does not have, or of no interface
abbrev pub is_of_peer : InterfaceEvent → Bool
is_of_peer (ie.Bind i line stream loss) = true
is_of_peer (ie.Unbind i line stream loss) = true
is_of_peer e = false

pub rests_unasked : (e : InterfaceEvent) (x : Site) → is_of_peer e ≡ true → Rests (event.Interface e) v.Nothing x
rests_unasked (ie.Bind i line stream loss) x is = record {
  next = λ a tdi. if_same (i == x.number) tdi;
  none = λ a tdi. refl;
  managed = λ ops drawn m. if_same (i == x.number) m;
}
rests_unasked (ie.Unbind i line stream loss) x is = record {
  next = λ a tdi. if_same (i == x.number) tdi;
  none = λ a tdi. refl;
  managed = λ ops drawn m. if_same (i == x.number) m;
}
rests_unasked e x is = absurd cc
