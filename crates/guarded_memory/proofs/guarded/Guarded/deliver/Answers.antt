use Rattle.std.proofs.Common.{◌≡◌, Some, Option, sym, ap, ◌∙◌}
use Rattle.std.specs.Option.{option_map}
use Rattle.tlp_layout.specs.Tlp.{viewed_tlp}
use Rattle.trusted_memory.specs.declared.write.MemWriteView.{MemWriteView}
use Rattle.trusted_memory.specs.Writes.{write_of_tlp, write_of}
use Rattle.guarded_memory.specs.Contents.{mmio_byte}
use Rattle.guarded_memory.proofs.Guarding.{stays}
use Rattle.guarded_memory.proofs.Shown.{leads_one}
use Rattle.guarded_memory.proofs.guarded.Guarded.deliver.Goals as goal

pub returns-in-Some-clause-leads : goal.returns-in-Some-clause-leads
returns-in-Some-clause-leads g c =
    let is : write_of_tlp (viewed_tlp c.args.tlp.now) ≡ Some (write_of c.in-Some.write) =
    sym c.of.ensures ∙ ap (λ (o : Option MemWriteView). option_map write_of o) c.in-Some.is in
    rw is (leads_one (mmio_byte c.args.self.now) (mmio_byte c.deliver_write.new.self) _
    c.deliver_write.ensures.bytes)

pub returns-in-Some-clause-guarded : goal.returns-in-Some-clause-guarded
returns-in-Some-clause-guarded g c = λ i b a x there guarded other.
    c.deliver_write.ensures.bytes i b a
    ∙ stays (g.S.Statuses.stand c.args.statuses.now) c.args.came.trusted c.args.came.stream c.args.came.draw
    (Some (write_of c.in-Some.write))
    (mmio_byte c.args.self.now) i b a x there guarded other
