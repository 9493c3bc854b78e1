-- Worked cases: the events of each, in order, with the verdicts that were worked out by hand.
use Rattle.std.specs.Prelude.{ℕ, zero, suc, ◌==◌, Bool, false, true, Some, None, List, [], ◌∷◌}
use Rattle.case_runs.specs.InterfaceCases.{write_tlp, small_key}
use Rattle.ide_types.specs.Ports.{device_port, host_port}
use Rattle.ide_types.specs.declared.sub.SubKind.{SubKind}
use Rattle.ide_types.specs.declared.sub.SubKind.TheVariants.{Pr, Npr, Cpl}
use Rattle.ide_types.specs.declared.sub.FailCause.TheVariants as fail
use Rattle.ide_types.specs.declared.port.Side.TheVariants.{Host, Device}
use Rattle.ide_types.specs.declared.plan.Plan.{Plan}
use Rattle.ide_types.specs.declared.stream.Selector.TheVariants.{Selective}
use Rattle.script_events.specs.declared.event.Lost.TheVariants.{Reply}
use Rattle.script_events.specs.declared.event.Event.{Event}
use Rattle.script_events.specs.declared.event.Event.TheVariants.{Establish, Refresh, Stop, Send, Pass, Alter, Arrive}
use Rattle.ide_types.specs.declared.line.LineKind.TheVariants as kind
use Rattle.event_verdicts.specs.declared.verdict.Operation.TheVariants as op
use Rattle.event_verdicts.specs.declared.verdict.Verdict.{Verdict}
use Rattle.event_verdicts.specs.declared.verdict.Verdict.TheVariants as v
use Rattle.event_verdicts.specs.declared.verdict.SealedPacket.{SealedPacket}
use Rattle.event_verdicts.specs.declared.verdict.UnitName.{UnitName}
use Rattle.event_verdicts.specs.declared.verdict.Effect.TheVariants.{Delivered, Blocked}
use Rattle.event_verdicts.specs.declared.verdict.BlockCause.TheVariants.{NotTrusted}
use Rattle.spec_keys.specs.History.{History}
use Rattle.spec_keys.specs.Places.{KeyPlace}

-- ---- what there is

-- link 0 has stream 5, which takes every TLP; the pool has two draws
abbrev pub plan : ℕ → Bool → Plan
plan aggregation closed = record {
  version = 1;
  portion = 16;
  units_per_key = 4294967296;
  pool =
      small_key 0 ∷ small_key 1 ∷ small_key 2 ∷ small_key 3 ∷ small_key 4 ∷ small_key 5 ∷ small_key 6 ∷ small_key 7
      ∷ small_key 8 ∷ small_key 9 ∷ small_key 10 ∷ small_key 11 ∷ [];
  links =
      record {
        nonces = [];
        streams = record { id = 5; aggregation = aggregation; closed = closed; selector = Selective None [] true } ∷ [];
        interfaces = [];
        hop = None;
      } ∷ [];
  memory = [];
  peers = [];
}

-- a read at 10000000h by the requester 0100h
abbrev pub read_tlp : List ℕ
read_tlp = 0x00 ∷ 0x00 ∷ 0x00 ∷ 0x01 ∷ 0x01 ∷ 0x00 ∷ 0x01 ∷ 0x0f ∷ 0x10 ∷ 0x00 ∷ 0x00 ∷ 0x00 ∷ []

-- where the device's port seals posted TLPs, and where the host's receives them
abbrev pub sender : KeyPlace
sender = record { side = Device; line = 0; stream = 5; sends = true; sub = Pr }

abbrev pub receiver : KeyPlace
receiver = record { side = Host; line = 0; stream = 5; sends = false; sub = Pr }

-- ---- pairs

-- the device's packet of this number; draw 0 is in key set 0, draw 1 in key set 1
abbrev pub packet : ℕ → SubKind → ℕ → ℕ → Bool → ℕ → SealedPacket
packet number sub draw unit m posted = record {
  number = number;
  port = device_port 0;
  stream = 5;
  sub = sub;
  draw = draw;
  unit = unit;
  m = m;
  k = draw == 1;
  t = false;
  posted = posted;
  sync = false;
}

abbrev pub sync_packet : ℕ → SubKind → ℕ → SealedPacket
sync_packet number sub posted = record (packet number sub 0 1 true posted) { sync = true }

abbrev pub establish_step : Event × Verdict
establish_step = (Establish 0 5 None, v.Established 0 5 0)

abbrev pub refresh_step : Event × Verdict
refresh_step = (Refresh 0 5 None, v.Refreshed 0 5 1)

abbrev pub stopped_stream : Event × Verdict
stopped_stream = (Stop 0 5 None, v.Stopped 0 5)

abbrev pub pool_is_empty : Event × Verdict
pool_is_empty = (Establish 0 5 None, v.RefusedPoolEmpty 2)

-- a write that is a unit of its own
abbrev pub seal_step : ℕ → ℕ → ℕ → Event × Verdict
seal_step number draw unit = (
  Send (device_port 0) write_tlp false false,
  v.Sealed
      (packet number Pr draw unit true 0 ∷ []),
)

-- a read whose unit goes on if it has room
abbrev pub seal_read_step : ℕ → Bool → Event × Verdict
seal_read_step number m = (Send (device_port 0) read_tlp true false, v.Sealed (packet number Npr 0 1 m 0 ∷ []))

-- the write of this number, which is blocked since it has no T
abbrev pub accepted_unit : ℕ → ℕ → ℕ → Event × Verdict
accepted_unit number draw unit = (
  Pass number,
  v.Accepted (host_port 0) (record {
    stream = 5;
    sub = Pr;
    draw = draw;
    unit = unit;
  }) (Blocked NotTrusted ∷ []),
)

-- the first of two reads that are one unit, and the second, which brings both
abbrev pub reads : UnitName
reads = record { stream = 5; sub = Npr; draw = 0; unit = 1 }

abbrev pub held_packet : Event × Verdict
held_packet = (Pass 1, v.Held (host_port 0) reads)

abbrev pub both_accepted : Event × Verdict
both_accepted = (Pass 2, v.Accepted (host_port 0) reads (Delivered ∷ Delivered ∷ []))

-- a write whose unit goes on, and a read after it
abbrev pub unfinished_write : Event × Verdict
unfinished_write = (Send (device_port 0) write_tlp true false, v.Sealed (packet 3 Pr 0 1 false 0 ∷ []))

abbrev pub fails : Event → Event × Verdict
fails e = (e, v.Fail (host_port 0) 5 Pr fail.Tag)

abbrev pub fails_key : Event → Event × Verdict
fails_key e = (e, v.Fail (host_port 0) 5 Pr fail.Key)

abbrev pub insecure : Event × Verdict
insecure = (Pass 1, v.Insecure (host_port 0) 5)

-- the read, after one write, and that it arrives before it
abbrev pub sealed_read : Event × Verdict
sealed_read = (Send (device_port 0) read_tlp false false, v.Sealed (packet 2 Npr 0 1 true 1 ∷ []))

abbrev pub fails_order : Event × Verdict
fails_order = (Pass 2, v.Fail (host_port 0) 5 Npr fail.Order)

abbrev pub unfinished_send : Event × Verdict
unfinished_send = (Send (device_port 0) read_tlp false false, v.RefusedUnfinished)

abbrev pub reply_9_lost : Event × Verdict
reply_9_lost = (Refresh 0 5 (Some (record { exchange = 9; lost = Reply })), v.LostReply 9)

abbrev pub busy : Event × Verdict
busy = (Establish 0 5 None, v.RefusedBusy kind.Link op.Refresh)

-- NPR and CPL go first with the count of 255 posted packets, then the 256th
abbrev pub count_reached : Event × Verdict
count_reached = (
  Send (device_port 0) write_tlp false false,
  v.Sealed (sync_packet 256 Npr 255 ∷ sync_packet 257 Cpl 255 ∷ packet 258 Pr 0 256 true 0 ∷ []),
)

-- the write that would be sealed first, made by someone who has the keys
abbrev pub forged_write : List ℕ
forged_write =
    0x92 ∷ 0x80 ∷ 0x05 ∷ 0x00 ∷ 0x40 ∷ 0x00 ∷ 0x00 ∷ 0x01 ∷ 0x01 ∷ 0x00 ∷ 0x00 ∷ 0x0f ∷ 0x10 ∷ 0x00 ∷ 0x00 ∷ 0x00
    ∷ 0x20 ∷ 0x12 ∷ 0x7a ∷ 0x47 ∷ 0xf2 ∷ 0x34 ∷ 0x6b ∷ 0x47 ∷ 0x5b ∷ 0x1c ∷ 0x35 ∷ 0x8c ∷ 0xb9 ∷ 0x87 ∷ 0x81 ∷ 0x34
    ∷ []

abbrev pub forged_unit : Event × Verdict
forged_unit = (Arrive (host_port 0) forged_write, (accepted_unit 1 0 1).1)

-- ---- cases

abbrev pub accepted_once : List (Event × Verdict)
accepted_once = establish_step ∷ seal_step 1 0 1 ∷ accepted_unit 1 0 1 ∷ fails (Pass 1) ∷ insecure ∷ []

-- byte 1 of a packet has T, 20h, and K, 40h
abbrev pub trusted_on_the_way : List (Event × Verdict)
trusted_on_the_way = establish_step ∷ seal_step 1 0 1 ∷ fails (Alter 1 1 0x20) ∷ []

abbrev pub other_set_on_the_way : List (Event × Verdict)
other_set_on_the_way = establish_step ∷ seal_step 1 0 1 ∷ fails_key (Alter 1 1 0x40) ∷ []

abbrev pub one_missing : List (Event × Verdict)
one_missing =
    establish_step ∷ seal_step 1 0 1 ∷ seal_step 2 0 2 ∷ seal_step 3 0 3 ∷ accepted_unit 1 0 1 ∷ fails (Pass 3) ∷ []

abbrev pub read_ahead : List (Event × Verdict)
read_ahead = establish_step ∷ seal_step 1 0 1 ∷ sealed_read ∷ fails_order ∷ []

abbrev pub two_in_a_unit : List (Event × Verdict)
two_in_a_unit =
    establish_step ∷ seal_read_step 1 false ∷ seal_read_step 2 true ∷ held_packet ∷ both_accepted ∷ unfinished_write
    ∷ unfinished_send
    ∷ []

abbrev pub late_packet : List (Event × Verdict)
late_packet =
    establish_step ∷ seal_step 1 0 1 ∷ seal_step 2 0 2 ∷ refresh_step ∷ seal_step 3 1 1 ∷ accepted_unit 1 0 1
    ∷ accepted_unit 3 1 1
    ∷ fails_key (Pass 2) ∷ []

abbrev pub reply_lost : List (Event × Verdict)
reply_lost = establish_step ∷ reply_9_lost ∷ busy ∷ refresh_step ∷ []

-- a unit under the older key is missing when the first one under the newer key arrives
abbrev pub tail_missing : Event × Verdict → List (Event × Verdict)
tail_missing arrival = establish_step ∷ seal_step 1 0 1 ∷ refresh_step ∷ seal_step 2 1 1 ∷ arrival ∷ []

abbrev pub forged_once : List (Event × Verdict)
forged_once = establish_step ∷ forged_unit ∷ []

-- after each pair, whether draw 0 has gone from the sender, and whether from the receiver
abbrev pub older_goes : List ((Event × Verdict) × Bool × Bool)
older_goes =
    (establish_step, false, false) ∷ (seal_step 1 0 1, false, false) ∷ (refresh_step, true, false)
    ∷ (seal_step 2 1 1, true, false)
    ∷ (accepted_unit 2 1 1, true, true) ∷ (stopped_stream, true, true) ∷ (pool_is_empty, true, true) ∷ []

-- so many writes of one unit each, the newest first
abbrev pub history_of_writes : ℕ → History
history_of_writes zero = establish_step ∷ []
history_of_writes (suc n) = seal_step (suc n) 0 (suc n) ∷ history_of_writes n

abbrev pub count_full : List (Event × Verdict)
count_full = count_reached ∷ seal_step 259 0 257 ∷ []
