use Rattle.std.proofs.Common.{ℕ, ◌<◌, length, ap, sym, subst, refl}
use Rattle.std.specs.Prelude.{IfSome, Option}
use Rattle.guarded_memory.specs.Contents.{GuardedMemory}
use Rattle.guarded_memory.specs.Happenings.{InterfaceReset}
use Rattle.spec_interfaces.specs.Exchanges.{changes_device}
use Rattle.whole_links.proofs.Accesses.{happens_here}
use Rattle.whole_links.proofs.whole.WholeLinks.note_flr.Goals as goal

pub at_mut-requires : goal.at_mut-requires
at_mut-requires c =
    subst (λ (o : Option (ℕ × ℕ)). IfSome o (λ p. p.0 < length c.args.self.now.accesses)) c.in-Some.is c.requires

pub returns-in-Some-clause-accesses : goal.returns-in-Some-clause-accesses
returns-in-Some-clause-accesses c =
    happens_here (changes_device c.args.verdict.now) c.args.at InterfaceReset (c.in-Some.link, c.in-Some.place)
    c.args.self.now.accesses c.at_mut.result.now (record c.at_mut.result.now { guarded = c.reset.new.self })
    (sym c.if-not-changes_device.ensures) (sym c.in-Some.is) c.at_mut.ensures.value refl
    (ap (λ (g : GuardedMemory). g.sizes) c.reset.ensures.kept) c.reset.ensures.leads
