use Rattle.std.proofs.Common.{ℕ, ap, ◌∙◌}
use Rattle.std.specs.Prelude.{Option}
use Rattle.std.specs.Option.{option_and_then}
use Rattle.interface_host.specs.Managers.{InterfaceManagerView, interface_of_requester}
use Rattle.whole_links.specs.Besides.{small_number}
use Rattle.whole_links.proofs.whole.WholeLinks.reader.Goals as goal

pub returns-in-None : goal.returns-in-None
returns-in-None c =
    ap (λ (o : Option ℕ). option_and_then small_number o)
    (c.in-None.ensures ∙ ap (λ (m : InterfaceManagerView). interface_of_requester m c.args.link c.args.requester)
    c.manager.ensures)

pub returns-in-Some : goal.returns-in-Some
returns-in-Some c =
    c.small_number.ensures
    ∙ ap (λ (o : Option ℕ). option_and_then small_number o)
    (c.in-Some.ensures ∙ ap (λ (m : InterfaceManagerView). interface_of_requester m c.args.link c.args.requester)
    c.manager.ensures)
