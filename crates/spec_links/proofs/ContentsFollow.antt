-- What stands in trusted memory, from each history to the next.
use Rattle.std.specs.Prelude.{◌≡◌, ◌&&◌, ℕ, Bool, true, false, not, if◌then◌else◌, List, [], ◌∷◌, length, take}
use Rattle.std.specs.Prelude.{drop, Option, None}
use Rattle.std.proofs.Common.{refl, ap, ◌∙◌, arith}
use Rattle.std.proofs.lemmas.Bool.{true≢false}
use Rattle.spec_links.specs.Terms.{PortName, Plan, Event, Effect, UnitName, Verdict, Accepted, read_head_of, Packet}
use Rattle.spec_links.specs.Terms.{is_sync_packet, History, Device, Write, newest_first, MemoryContents, IsLeftBy}
use Rattle.spec_links.specs.Terms.{Leads, grant_at}
use Rattle.spec_links.specs.Ports.{is_host_port}
unfoldable use Rattle.spec_links.specs.Ports.{port_of}
use Rattle.spec_links.specs.Memory.{Grants, payload_write, write_if_admitted, admitted_each, unit_ended, plain_of}
use Rattle.spec_links.specs.Memory.{accepted_unit_writes, accepts_unit, ContentsFollow}
unfoldable use Rattle.spec_links.specs.Memory.{writes}

accepted_follows : (plan : Plan) (h : History) (e : Event) (port : PortName) (unit : UnitName) (effects : List Effect)
    (m n : MemoryContents) → IsLeftBy m (writes plan h)
    → Leads m (accepted_unit_writes plan h e port unit) n → IsLeftBy n
    (writes plan ((e, Accepted port unit effects) ∷ h))
unfolding writes
accepted_follows plan h e port unit effects m n left leads = leads (writes plan h) left

others_stay : (plan : Plan) (h : History) (e : Event) (w : Verdict) → accepts_unit w ≡ false → writes plan ((e, w) ∷ h)
    ≡ writes plan h
unfolding writes
others_stay plan h e (Accepted port unit effects) none = absurd (true≢false none)
others_stay plan h e w none = refl

-- a port of a device, or at a switch, is no host's
none_elsewhere : (plan : Plan) (grants : Grants) (port : PortName) (unit : UnitName) (p : Packet) (payload : List ℕ)
    → is_host_port plan port ≡ false → write_if_admitted plan grants port unit p payload ≡ None
none_elsewhere plan grants port unit p payload is = by (is_sync_packet p)
  where
    by : (s : Bool) → (if not s && is_host_port plan port then payload_write plan grants port unit p.prefix.t payload
        (read_head_of p.head) else None) ≡ None
    by true = refl
    by false = rw is refl

each_stays : (plan : Plan) (grants : Grants) (port : PortName) (unit : UnitName) (plain : List ℕ) (ps : List Packet)
    (older : List Write) → is_host_port plan port ≡ false
    → newest_first (admitted_each plan grants port unit plain ps) older ≡ older
each_stays plan grants port unit plain [] older is = refl
each_stays plan grants port unit plain (p ∷ ps) older is =
    ap (λ (o : Option Write). newest_first (o ∷ admitted_each plan grants port unit (drop (length p.body) plain) ps)
    older)
    (none_elsewhere plan grants port unit p (take (length p.body) plain) is)
    ∙ each_stays plan grants port unit (drop (length p.body) plain) ps older is

-- the port of an end on a device's side is none of a host
device_side : (plan : Plan) (port : PortName) → port.side ≡ Device → is_host_port plan (port_of plan port) ≡ false
unfolding port_of
device_side plan port is = grind arith

pub contents_follow : ContentsFollow
contents_follow = record {
  accepted = accepted_follows;
  others = λ plan h e w m none left. rw (others_stay plan h e w none) left;
  at_device = λ plan h e port unit m is older left.
      rw (each_stays plan (grant_at plan h) (port_of plan port) unit
      (plain_of plan port unit (unit_ended plan h e port unit)) (unit_ended plan h e port unit) older
      (device_side plan port is)) left;
  sync = λ plan grants port unit p payload is. rw is refl;
  packet = λ plan grants port unit p payload head carries host reads. rw (carries, host, reads) refl;
}
