-- The packets that a receiver holds, as they are read.
use Rattle.std.proofs.Common.{◌≡◌, ℕ, Bool, [], refl, ap, sym, ◌∙◌, Option, Some, None}
use Rattle.std.specs.Option.{option_map, option_map_or}
use Rattle.ide_types.specs.declared.port.PortName.{PortName}
use Rattle.ide_types.specs.declared.sub.SubKind.{SubKind}
use Rattle.ide_types.specs.declared.plan.Plan.{Plan}
use Rattle.ide_port.specs.{PortEnd, Found, found_stream, held_in_port}
use Rattle.ide_port.specs.Facts.{held_by, held_of_found}
use Rattle.machine_operations.specs.{StreamState}
use Rattle.world.specs.{AreLinks, WholeLinks, port_on}
use Rattle.world.proofs.{end_found, none_found}
use Rattle.ide_why.specs.Reading.{held_read}

held_found : (u : SubKind) (k : Bool) (o : Option Found)
    → option_map_or (held_of_found u k) o [] ≡ option_map_or (held_by u k) (option_map (λ (f : Found). f.state) o) []
held_found u k None = refl
held_found u k (Some f) = refl

module _ (plan : Plan) (s : WholeLinks) (links : AreLinks plan s.links.ends s.links.keeper.keys) where
  pub held_none : (end : PortName) (stream : ℕ) (u : SubKind) (k : Bool) → port_on s.links.ends end ≡ None
      → [] ≡ held_read plan s end stream u k
  held_none end stream u k none =
      sym (ap (λ (o : Option StreamState). option_map_or (held_by u k) o [])
      (none_found plan s.links.ends s.links.keeper.keys s.links.packets.packets end stream links none))

  pub held_some : (end : PortName) (stream : ℕ) (u : SubKind) (k : Bool) (e : PortEnd)
      → port_on s.links.ends end ≡ Some e → held_in_port e stream u k ≡ held_read plan s end stream u k
  held_some end stream u k e there =
      held_found u k (found_stream e.plans e.states stream)
      ∙ sym (ap (λ (o : Option StreamState). option_map_or (held_by u k) o [])
      (end_found plan s.links.ends s.links.keeper.keys s.links.packets.packets end e stream links there))
