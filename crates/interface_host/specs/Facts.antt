-- What is seen of an interface for the manager.
use Rattle.std.specs.Prelude.{Bool, Option, Some, None}
use Rattle.interface_host.specs.declared.facts.InterfaceFacts.{InterfaceFacts}
use Rattle.interface_host.specs.Views.{HostTdi, Seen, IsLocked, floor_of, view_of}

-- of a lock alone
abbrev pub reported_if_locked : Seen → Option Bool
reported_if_locked (IsLocked nonce reported) = Some reported
reported_if_locked s = None

abbrev pub interface_facts : HostTdi → InterfaceFacts
interface_facts i = record {
  link = i.link;
  stream = i.stream;
  view = view_of i.seen;
  draw = i.draw;
  needs = i.needs;
  started = i.was_started;
  reported = reported_if_locked i.seen;
  floor = floor_of i.seen;
}
