-- What is due fits.
use Rattle.std.proofs.Common.{refl}
use Rattle.script_events.specs.declared.event.Event.TheVariants.{
  Send,
  Pass,
  Alter,
  Cut,
  Arrive,
  Dump,
  Establish,
  Refresh,
}
use Rattle.script_events.specs.declared.event.Event.TheVariants.{
  Stop,
  Reset,
  Status,
  Interface,
  Access,
  Forward,
  Absent,
}
use Rattle.script_events.specs.declared.event.AccessEvent.TheVariants as ae
use Rattle.spec_links.specs.History.{arrival_of_event, packet_by_number, sealed_packets}
use Rattle.spec_links.specs.Due.{due}
use Rattle.spec_links.specs.Memory.{memory_due}
use Rattle.law_text.specs.Statements.{DueFits}
use Rattle.law_text.proofs.OperationsFit.{establish_due_fits, refresh_due_fits, stop_due_fits, reset_due_fits}
use Rattle.law_text.proofs.OperationsFit.{status_due_fits}
use Rattle.law_text.proofs.SendsFit.{send_due_fits}
use Rattle.law_text.proofs.ForwardsFit.{forward_due_fits}
use Rattle.law_text.proofs.InterfacesFit.{interface_fits}
use Rattle.law_text.proofs.MemoryFits.{memory_fits}
use Rattle.law_text.proofs.AnswersFit.{answer_due_fits}
use Rattle.law_text.proofs.ResponsesFit.{respond_due_fits}
use Rattle.law_text.proofs.MmioFits.{mmio_fits}
use Rattle.law_text.proofs.ArrivalsFit.{arrival_due_fits, dump_due_fits}

pub due_fits : DueFits
unfolding due arrival_of_event
due_fits plan fits h cause few (Send port bytes more trusted) allowed = send_due_fits plan fits h cause few port bytes
    more trusted allowed.2
due_fits plan fits h cause few (Dump n) allowed = dump_due_fits plan fits h cause few n
    (packet_by_number (sealed_packets plan h) n) refl
due_fits plan fits h cause few (Establish line stream lose) allowed = establish_due_fits plan fits h few line stream
    lose
due_fits plan fits h cause few (Refresh line stream lose) allowed = refresh_due_fits plan fits h few line stream lose
due_fits plan fits h cause few (Stop line stream lose) allowed = stop_due_fits plan fits h few line stream lose
due_fits plan fits h cause few (Reset link ends) allowed = reset_due_fits plan fits h link ends
due_fits plan fits h cause few (Status line stream) allowed = status_due_fits plan fits h line stream
due_fits plan fits h cause few (Interface e) allowed = interface_fits plan fits h cause few e (memory_due plan h e)
    (memory_fits plan h cause e)
due_fits plan fits h cause few (Access (ae.Answer link)) allowed = answer_due_fits plan fits h cause few link
due_fits plan fits h cause few (Access (ae.Respond link)) allowed = respond_due_fits plan fits h cause few link
due_fits plan fits h cause few (Access (ae.Mmio i bar offset len)) allowed = mmio_fits plan h cause i bar offset len
due_fits plan fits h cause few (Forward link d) allowed = forward_due_fits plan fits h cause few link d
due_fits plan fits h cause few Absent allowed = tt
due_fits plan fits h cause few (Pass n) allowed = arrival_due_fits plan fits h cause few (Pass n) allowed
    (arrival_of_event plan h (Pass n)) refl
due_fits plan fits h cause few (Alter n place mask) allowed = arrival_due_fits plan fits h cause few
    (Alter n place mask) allowed (arrival_of_event plan h (Alter n place mask)) refl
due_fits plan fits h cause few (Cut n size) allowed = arrival_due_fits plan fits h cause few (Cut n size) allowed
    (arrival_of_event plan h (Cut n size)) refl
due_fits plan fits h cause few (Arrive port bytes) allowed = arrival_due_fits plan fits h cause few (Arrive port bytes)
    allowed (arrival_of_event plan h (Arrive port bytes)) refl
