use Rattle.all_links.proofs.Terms.{ℕ, List, Bool, true, false, Option, Some, ap, sym, ◌∙◌, ◌≡◌, if◌then◌else◌}
use Rattle.all_links.proofs.Terms.{slice_get, same_Some, option_and_then, LinkEnds}
use Rattle.std.specs.Prelude.{IfSome}
use Rattle.ide_types.specs.declared.register.Register.{Register}
use Rattle.ide_types.specs.RegisterNames.{has_register}
use Rattle.interface_state.specs.Machine.{DeviceTdi, WriteRegister}
use Rattle.event_verdicts.specs.declared.verdict.Verdict.TheVariants as v
use Rattle.ide_types.specs.declared.verdict.InterfaceVerdict.TheVariants as iv
use Rattle.script_events.specs.declared.event.InterfaceEvent.TheVariants as ie
use Rattle.all_links.specs.Interfaces.{written_as, interface_of_ends}
use Rattle.line_arrivals.specs.{code_behind}
use Rattle.all_links.proofs.Finds.{only_says}
use Rattle.all_links.proofs.Asked.{if_some, is_found, called}
use Rattle.all_links.proofs.BesideAfter.{nothing_called, called_beside, not_called}
use Rattle.all_links.proofs.links.Links.write.Goals as goal

pub returns-in-None-clause-ends : goal.returns-in-None-clause-ends
returns-in-None-clause-ends c plan =
    only_says plan (ie.Write c.args.number c.args.register c.args.value)
    (ap (λ (o : Option (ℕ × ℕ)). Some (written_as c.args.number c.args.register c.args.value
    (option_and_then (interface_of_ends c.args.self.now.ends.links) o))) c.in-None.ensures.place)
    c.only.ensures.value c.only.ensures.links c.requires.bounded

-- whether it has the register
module _ (ends : List LinkEnds) (at : ℕ × ℕ) (register : Register) (answer : Bool) where
  has_it : (l : LinkEnds) (tdi : DeviceTdi) → slice_get ends at.0 ≡ Some l
      → slice_get l.device.interfaces.interfaces at.1 ≡ Some tdi
      → IfSome (slice_get ends at.0)
      (λ (y : LinkEnds). IfSome (slice_get y.device.interfaces.interfaces at.1)
      (λ (t : DeviceTdi). answer ≡ has_register t.plan register)) → answer ≡ has_register tdi.plan register
  has_it l tdi link_there tdi_there says =
      if_some (λ (t : DeviceTdi). answer ≡ has_register t.plan register) (slice_get l.device.interfaces.interfaces at.1)
      tdi
      tdi_there
      (if_some (λ (y : LinkEnds). IfSome (slice_get y.device.interfaces.interfaces at.1)
      (λ (t : DeviceTdi). answer ≡ has_register t.plan register)) (slice_get ends at.0) l link_there says)

-- the verdict, if it has it or not
written_is : (n : ℕ) (register : Register) (value : ℕ) (tdi : DeviceTdi) (o : Option DeviceTdi) (b : Bool) → o
    ≡ Some tdi → has_register tdi.plan register ≡ b
    → (if b then v.Interface (iv.Written n (code_behind tdi (WriteRegister register value))) else v.Nothing)
    ≡ written_as n register value o
written_is n register value tdi o b is has =
    ap (λ (y : Bool). if y then v.Interface (iv.Written n (code_behind tdi (WriteRegister register value))) else
    v.Nothing) (sym has) ∙ ap (λ (y : Option DeviceTdi). written_as n register value y) (sym is)

pub returns-then-has_register-clause-ends : goal.returns-then-has_register-clause-ends
returns-then-has_register-clause-ends c plan =
    let n : ℕ = c.args.number in
    let at : ℕ × ℕ = (c.in-Some.link, c.in-Some.place) in
    let x = is_found c.args.self.now.keeper.interfaces c.args.self.now.ends n at c.in-Some.ensures.place in
    let has : c.has_register.result ≡ has_register x.tdi.plan c.args.register =
    has_it c.args.self.now.ends.links at c.args.register c.has_register.result x.ends_at x.tdi x.link_there x.tdi_there
    c.has_register.ensures in
    called plan c.args.self.now n at (WriteRegister c.args.register c.args.value) c.write_register-state.result
    c.write_register-state.new.self c.shows.new.self c.shows.result (ie.Write n c.args.register c.args.value)
    (λ code. v.Interface (iv.Written n code)) c.in-Some.ensures.place c.write_register-state.ensures
    (λ tdi is. ap Some (written_is n c.args.register c.args.value tdi _ true is
    (ap (λ (t : DeviceTdi). has_register t.plan c.args.register) (same_Some tdi x.tdi (sym is ∙ x.named_is))
    ∙ sym has ∙ c.if-has_register.true))) c.shows.ensures.value c.shows.ensures.links c.requires.bounded

pub returns-else-has_register-clause-ends : goal.returns-else-has_register-clause-ends
returns-else-has_register-clause-ends c plan =
    let n : ℕ = c.args.number in
    let at : ℕ × ℕ = (c.in-Some.link, c.in-Some.place) in
    let x = is_found c.args.self.now.keeper.interfaces c.args.self.now.ends n at c.in-Some.ensures.place in
    let has : c.has_register.result ≡ has_register x.tdi.plan c.args.register =
    has_it c.args.self.now.ends.links at c.args.register c.has_register.result x.ends_at x.tdi x.link_there x.tdi_there
    c.has_register.ensures in
    only_says plan (ie.Write n c.args.register c.args.value)
    (ap Some (written_is n c.args.register c.args.value x.tdi _ false x.named_is (sym has ∙ c.if-has_register.false)))
    c.only-else-has_register.ensures.value c.only-else-has_register.ensures.links c.requires.bounded

pub returns-in-None-clause-sides : goal.returns-in-None-clause-sides
returns-in-None-clause-sides c = nothing_called c.args.number (λ tdi. has_register tdi.plan c.args.register)
    (WriteRegister c.args.register c.args.value) c.in-None.ensures.place c.only.ensures.links

pub returns-then-has_register-clause-sides : goal.returns-then-has_register-clause-sides
returns-then-has_register-clause-sides c =
    let at : ℕ × ℕ = (c.in-Some.link, c.in-Some.place) in
    called_beside c.args.self.now c.shows.new.self c.args.number at (λ tdi. has_register tdi.plan c.args.register)
    (WriteRegister c.args.register c.args.value) c.write_register-state.result c.write_register-state.new.self
    c.in-Some.ensures.place
    (λ l tdi link_there tdi_there. sym (has_it c.args.self.now.ends.links at c.args.register c.has_register.result l tdi
    link_there tdi_there c.has_register.ensures) ∙ c.if-has_register.true)
    c.write_register-state.ensures c.shows.ensures.links

pub returns-else-has_register-clause-sides : goal.returns-else-has_register-clause-sides
returns-else-has_register-clause-sides c =
    let at : ℕ × ℕ = (c.in-Some.link, c.in-Some.place) in
    not_called c.args.self.now c.only-else-has_register.new.self c.args.number at
    (λ tdi. has_register tdi.plan c.args.register) (WriteRegister c.args.register c.args.value) c.in-Some.ensures.place
    (λ l tdi link_there tdi_there. sym (has_it c.args.self.now.ends.links at c.args.register c.has_register.result l tdi
    link_there tdi_there c.has_register.ensures) ∙ c.if-has_register.false)
    c.only-else-has_register.ensures.links
