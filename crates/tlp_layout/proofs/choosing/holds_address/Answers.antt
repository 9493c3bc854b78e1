use Rattle.std.proofs.Common.{sym, ◌∙◌}
use Rattle.ide_types.specs.declared.stream.AddressRange.{AddressRange}
use Rattle.tlp_layout.specs.Choice.{holds}
use Rattle.tlp_layout.proofs.Least.{list_any-next}
use Rattle.tlp_layout.proofs.choosing.holds_address.Goals as goal

pub loop-range-preserved : goal.loop-range-preserved
loop-range-preserved c =
    list_any-next (λ (r : AddressRange). holds r.base r.limit c.args.address) _ _ _ c.loop-range-test.true
    c.loop-range.invariant
    (sym c.range_holds.ensures ∙ c.if-range_holds.false)
