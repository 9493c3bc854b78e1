-- Worked cases: the events of each, in order, with the verdicts that were worked out by hand.
use Rattle.std.specs.Prelude.{◌≡◌, ℕ, Bool, false, true, Some, None, List, [], ◌∷◌, ◌++◌, replicate}
use Rattle.ide_types.specs.Ports.{host_port, device_port}
use Rattle.ide_types.specs.declared.sub.SubKind.TheVariants.{Pr}
use Rattle.ide_types.specs.declared.status.StreamStatus.TheVariants as status
use Rattle.ide_types.specs.declared.plan.Plan.{Plan}
use Rattle.ide_types.specs.declared.stream.Selector.TheVariants.{Selective}
use Rattle.ide_types.specs.declared.register.Register.TheVariants.{Bar}
use Rattle.ide_types.specs.declared.view.View.TheVariants.{Unlocked, Doubt, Broken}
use Rattle.ide_types.specs.declared.verdict.InterfaceVerdict.{InterfaceVerdict}
use Rattle.ide_types.specs.declared.verdict.InterfaceVerdict.TheVariants as iv
use Rattle.script_events.specs.declared.event.Lost.TheVariants.{Request, Reply}
use Rattle.script_events.specs.declared.event.Event.{Event}
use Rattle.script_events.specs.declared.event.Event.TheVariants.{
  Send,
  Establish,
  Refresh,
  Stop,
  Reset,
  Status,
  Interface,
}
use Rattle.script_events.specs.declared.event.InterfaceEvent.TheVariants as ie
use Rattle.event_verdicts.specs.declared.verdict.Verdict.{Verdict}
use Rattle.event_verdicts.specs.declared.verdict.Verdict.TheVariants as v
use Rattle.event_verdicts.specs.declared.verdict.SealedPacket.{SealedPacket}
use Rattle.spec_keys.specs.History.{History}
use Rattle.spec_links.specs.Due.{due}

-- ---- what there is

abbrev pub small_key : ℕ → List ℕ
small_key n = replicate 31 0 ++ n ∷ []

-- link 0 has stream 5 with aggregation 1 and interface 0, which is bound to it and answers reads; the pool has four
-- draws, the device three nonces
abbrev pub interface_plan : Plan
interface_plan = record {
  version = 2;
  portion = 64;
  units_per_key = 4294967296;
  pool = replicate 24 (small_key 0);
  links =
      record {
        nonces = replicate 32 1 ∷ replicate 32 2 ∷ replicate 32 3 ∷ [];
        streams = record {
          id = 5;
          aggregation = 1;
          closed = false;
          selector =
              Selective (Some (record { base = 0x0100; limit = 0x0100 }))
              (record { base = 0x40000000; limit = 0x400fffff } ∷ []) false;
        } ∷ [];
        interfaces = record {
          requester = 0x0100;
          stream = 5;
          flags = 0;
          offset = 0;
          command = 6;
          cache_line = 16;
          msix = 0;
          lnr = 0;
          tph = 0;
          pasid = 0;
          ats = 0;
          reads = true;
          info = replicate 64 0;
          bars = record { base = 0x40000000; pages = 16; attributes = 0 } ∷ [];
        } ∷ [];
        hop = None;
      } ∷ [];
  memory = record { base = 0x10000000; size = 0x10000 } ∷ [];
  peers = [];
}

abbrev pub device_report : List ℕ
device_report =
    2 ∷ 0 ∷ 0 ∷ 0 ∷ 0 ∷ 0 ∷ 0 ∷ 0 ∷ 0 ∷ 0 ∷ 0 ∷ 0 ∷ 1 ∷ 0 ∷ 0 ∷ 0
    ∷ 0 ∷ 0 ∷ 4 ∷ 0 ∷ 0 ∷ 0 ∷ 0 ∷ 0 ∷ 16 ∷ 0 ∷ 0 ∷ 0 ∷ 0 ∷ 0 ∷ 0 ∷ 0
    ∷ 64 ∷ 0 ∷ 0 ∷ 0 ∷ replicate 64 0

-- a write of 11 22 33 44 at 10000000h by the requester 0100h
abbrev pub write_tlp : List ℕ
write_tlp =
    0x40 ∷ 0x00 ∷ 0x00 ∷ 0x01 ∷ 0x01 ∷ 0x00 ∷ 0x00 ∷ 0x0f ∷ 0x10 ∷ 0x00 ∷ 0x00 ∷ 0x00 ∷ 0x11 ∷ 0x22 ∷ 0x33 ∷ 0x44 ∷ []

-- the first packet of the device
abbrev pub device_packet : Bool → List SealedPacket
device_packet t =
    record {
      number = 1;
      port = device_port 0;
      stream = 5;
      sub = Pr;
      draw = 0;
      unit = 1;
      m = true;
      k = false;
      t = t;
      posted = 0;
      sync = false;
    } ∷ []

abbrev pub verdicts_on : History → List Event → List Verdict
verdicts_on h [] = []
verdicts_on h (e ∷ es) = let verdict = due interface_plan h e in verdict ∷ verdicts_on ((e, verdict) ∷ h) es

abbrev pub says : InterfaceVerdict → Verdict
says w = v.Interface w

-- the stream is keyed, the interface locked, reported and started
abbrev pub run : List Event
run = Establish 0 5 None ∷ Interface (ie.Lock 0 None) ∷ Interface (ie.Report 0 None) ∷ Interface (ie.Start 0 None) ∷ []

abbrev pub verdicts_in_run : List Verdict
verdicts_in_run =
    v.Established 0 5 0 ∷ says (iv.Locked 0 (replicate 32 1)) ∷ says (iv.Reported 0 device_report)
    ∷ says (iv.Started 0 0) ∷ []

-- ---- cases

-- the reply to a start is lost
abbrev pub in_doubt : List Event
in_doubt =
    Establish 0 5 None ∷ Interface (ie.Lock 0 None) ∷ Interface (ie.Report 0 None)
    ∷ Interface (ie.Start 0 (Some (record { exchange = 1; lost = Reply }))) ∷ Interface (ie.View 0)
    ∷ Send (device_port 0) write_tlp false false ∷ Interface (ie.Start 0 None) ∷ Interface (ie.Halt 0 None) ∷ []

abbrev pub in_doubt_verdicts : List Verdict
in_doubt_verdicts =
    v.Established 0 5 0 ∷ says (iv.Locked 0 (replicate 32 1)) ∷ says (iv.Reported 0 device_report)
    ∷ v.LostReply 1 ∷ says (iv.View 0 Doubt)
    ∷ v.Sealed (device_packet true) ∷ says (iv.RefusedWrongState Doubt) ∷ says (iv.Halted 0 1) ∷ []

-- an interface runs again, once under a key of its own
abbrev pub again : List Event
again =
    run ++ Send (device_port 0) write_tlp false false ∷ Interface (ie.Halt 0 None) ∷ Interface (ie.Lock 0 None)
    ∷ Interface (ie.Report 0 None) ∷ Interface (ie.Start 0 None) ∷ Refresh 0 5 None ∷ Interface (ie.Start 0 None)
    ∷ []

abbrev pub again_verdicts : List Verdict
again_verdicts =
    verdicts_in_run ++ v.Sealed (device_packet true) ∷ says (iv.Halted 0 1) ∷ says (iv.Locked 0 (replicate 32 2))
    ∷ says (iv.Reported 0 device_report) ∷ says (iv.RefusedRefreshFirst 0 1) ∷ v.Refreshed 0 5 1 ∷ says (iv.Started 0 1)
    ∷ []

-- a register is written in RUN
abbrev pub written_in_run : List Event
written_in_run =
    run ++ Interface (ie.Write 0 (Bar 0) 0x40000000) ∷ Interface (ie.Write 0 (Bar 0) 0x40100000)
    ∷ Interface (ie.State 0 None) ∷ Interface (ie.View 0) ∷ Send (device_port 0) write_tlp false false
    ∷ Interface (ie.Write 0 (Bar 1) 0) ∷ Interface (ie.Memory 0x10000000 4) ∷ Interface (ie.Memory 0x1000ffff 2) ∷ []

abbrev pub written_verdicts : List Verdict
written_verdicts =
    verdicts_in_run ++ says (iv.Written 0 2) ∷ says (iv.Written 0 3) ∷ says (iv.State 0 3) ∷ says (iv.View 0 Broken)
    ∷ v.Sealed (device_packet false) ∷ v.Nothing ∷ says (iv.Memory (replicate 4 0)) ∷ v.Nothing ∷ []

-- a lock while the stream is not Secure at the host's port, and at the device's
abbrev pub half_keyed : List Event
half_keyed =
    Interface (ie.Lock 0 None) ∷ Establish 0 5 (Some (record { exchange = 11; lost = Request })) ∷ Status 0 5
    ∷ Interface (ie.Lock 0 None) ∷ Establish 0 5 None ∷ Interface (ie.Lock 0 None) ∷ Interface (ie.Start 0 None) ∷ []

abbrev pub half_keyed_verdicts : List Verdict
half_keyed_verdicts =
    v.RefusedNotSecure status.Idle ∷ v.LostRequest 11 ∷ v.Status 0 5 status.Secure status.Partial
    ∷ v.RefusedDevice 3 260 ∷ v.Established 0 5 0 ∷ says (iv.Locked 0 (replicate 32 1)) ∷ says iv.RefusedNotReported
    ∷ []

-- its stream is stopped, and its link reset
abbrev pub stopped_events : List Event
stopped_events =
    run ++ Stop 0 5 None ∷ Interface (ie.View 0) ∷ Interface (ie.State 0 None) ∷ Interface (ie.Halt 0 None)
    ∷ Status 0 5 ∷ Interface (ie.View 1) ∷ []

abbrev pub stopped_verdicts : List Verdict
stopped_verdicts =
    verdicts_in_run ++ v.Stopped 0 5 ∷ says (iv.View 0 Broken) ∷ says (iv.State 0 3) ∷ says (iv.Halted 0 1)
    ∷ v.Status 0 5 status.Idle status.Idle ∷ v.Nothing ∷ []

-- a firmware update that is permitted, a level reset, and a reset of the link
abbrev pub reset_events : List Event
reset_events =
    run ++ Interface (ie.Firmware 0) ∷ Interface (ie.Flr 0) ∷ Reset 0 (host_port 0 ∷ device_port 0 ∷ [])
    ∷ Interface (ie.View 0)
    ∷ Interface (ie.State 0 None) ∷ Interface (ie.Lock 0 None) ∷ []

abbrev pub reset_verdicts : List Verdict
reset_verdicts =
    verdicts_in_run ++ says (iv.Firmware 0 2) ∷ says (iv.Flr 0 3) ∷ v.Reset 0 ∷ says (iv.View 0 Broken)
    ∷ says (iv.State 0 0) ∷ says (iv.RefusedWrongState Broken) ∷ []

-- messages of a lock and of a report are lost: the nonce is used up, and a report of two portions begins anew
abbrev pub lost_between : List Event
lost_between =
    Establish 0 5 None ∷ Interface (ie.Lock 0 (Some (record { exchange = 2; lost = Reply })))
    ∷ Interface (ie.View 0) ∷ Interface (ie.Lock 0 (Some (record { exchange = 3; lost = Reply })))
    ∷ Interface (ie.View 0) ∷ Interface (ie.State 0 None) ∷ Interface (ie.Halt 0 None) ∷ Interface (ie.Lock 0 None)
    ∷ Interface (ie.Report 0 (Some (record { exchange = 2; lost = Request }))) ∷ Interface (ie.Start 0 None)
    ∷ Interface (ie.Report 0 (Some (record { exchange = 3; lost = Request }))) ∷ Interface (ie.Start 0 None) ∷ []

abbrev pub lost_between_verdicts : List Verdict
lost_between_verdicts =
    v.Established 0 5 0 ∷ v.LostReply 2 ∷ says (iv.View 0 Unlocked) ∷ v.LostReply 3 ∷ says (iv.View 0 Doubt)
    ∷ says (iv.State 0 1) ∷ says (iv.Halted 0 0) ∷ says (iv.Locked 0 (replicate 32 2)) ∷ v.LostRequest 2
    ∷ says iv.RefusedNotReported ∷ says (iv.Reported 0 device_report) ∷ says (iv.Started 0 0) ∷ []

abbrev pub InterfaceCases : Type 0
InterfaceCases =
    (verdicts_on [] in_doubt ≡ in_doubt_verdicts) × (verdicts_on [] again ≡ again_verdicts)
    × (verdicts_on [] written_in_run ≡ written_verdicts) × (verdicts_on [] half_keyed ≡ half_keyed_verdicts)
    × (verdicts_on [] stopped_events ≡ stopped_verdicts) × (verdicts_on [] reset_events ≡ reset_verdicts)
    × (verdicts_on [] lost_between ≡ lost_between_verdicts)
