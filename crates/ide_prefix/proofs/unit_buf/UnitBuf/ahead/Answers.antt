use Rattle.std.proofs.Common.{ℕ, List, length, ap, ◌∙◌, arith}
use Rattle.ide_prefix.proofs.Views.{emptied, laid-ahead, view-ahead}
use Rattle.ide_prefix.proofs.unit_buf.UnitBuf.ahead.Goals as goal

pub append-requires : goal.append-requires
append-requires c =
    let e = emptied _ _ _ _ _ c.self.inside.ends.items (c.self.view_is ∙ c.clear.ensures) c.self.invariant.rising in
    let none = ap (λ (s : List ℕ). length s) e.heads in
    omega (arith, none, c.self.inside.heads.ok.0, c.told-bytes, c.self.invariant.room_for_heads)

pub invariant_of-self : goal.invariant_of-self
invariant_of-self c =
    let e = emptied _ _ _ _ _ c.self.inside.ends.items (c.self.view_is ∙ c.clear.ensures) c.self.invariant.rising in
    rw c.append.ensures.items (laid-ahead _ _ _ _ _ _ _ _ _ c.self.invariant e c.told-bytes c.append.ensures.capacity)

pub returns : goal.returns
returns c =
    let e = emptied _ _ _ _ _ c.self.inside.ends.items (c.self.view_is ∙ c.clear.ensures) c.self.invariant.rising in
    rw c.append.ensures.items
    (view-ahead _ _ _ _ _ _ c.args.self.now e c.told-bytes (c.self.view_is ∙ c.clear.ensures) c.requires)
