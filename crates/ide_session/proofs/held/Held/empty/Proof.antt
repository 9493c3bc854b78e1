-- `empty` makes a handle that owns nothing.
use Rattle.std.proofs.Common.{◌≡◌, [], ◌∷◌, refl, lit<}
use mir.Val.{Val}
use base.Logic.{SProp, emp, id⊢}
use base.Fml.{ftrue}
use types.Kit.{‵, raw, ◌⊛◌, ◌$◌, ◌∵◌, !, qed, by, keep, split, use0, use1}
use types.Run.{lit, no_more, and_then, returns, enter}
use types.ByLocal.{alloc_all, pass_all, free_all, look_at, sets}
use types.Part.{agg}
use contract.Monad.{fact, fact_i}
use contract.Running.{tables}
use denote.RawPtr.{null_ptr}
use denote.Steps.{nothing}
use denote.Triple.Walked.{Stays, walk_of}
use Rattle.std.specs.Prelude.{Option, None}
use Rattle.std.proofs.raw_atomic.Walks.{proved_at, leaves}
use Rattle.ide_session.specs.Holding.{heap_token, holding_owns}
use Rattle.ide_session.specs.contracts.session.Session as session
use Rattle.ide_session.proofs.Holding.{held_in, one}
use Rattle.ide_session.specs.contracts.held.Held.empty.{ended, clauses}
use Rattle.ide_session.specs.contracts.held.Held.empty.Key.{name as #self}
use Rattle.ide_session.proofs.held.Held.empty.Statement.{statement}
use Rattle.ide_session.proofs.held.Held.empty.Code as code

pub empty_spec : {M : Type 1} → statement M
empty_spec 𝓤 𝓛 𝓜 𝓡 wired =
    let H = 𝓛.H in let 𝓣 = tables 𝓤 H 𝓜 𝓡 𝓡.env in let c = clauses 𝓛 𝓜.mem 𝓡.returns in
    let hs : Stays ended.signature.params ended.kept = tt in let none : Option session.the_row.Denot = None in
    proved_at 𝓛 ended hs c 𝓜 𝓡 tt #self code.function (code.unfolded 𝓤 H 𝓜 𝓡 wired) (λ z are.
    let Post : Val → SProp 𝓤 = (walk_of 𝓛 ended hs c).post z in
    qed 𝓛 ((‵ ftrue ⊛ ‵ ftrue) ∷ raw ((c z.0.0 z.0.3).requires z.1) ∷ []) ∵ split ! $
    enter ! 𝓣.C 𝓣.Λ code.function [] Post $ alloc_all ! (λ l. pass_all ! refl tt $
    sets ! (agg ! (and_then ! (lit ! tt) (no_more !))) refl (tt, (record { fits = lit< tt }, tt)) $
    nothing ! $ use1 𝓛 (‵ (holding_owns heap_token session.the_row null_ptr none)) (id⊢ 𝓤 _) $ held_in ! null_ptr none $
    use0 𝓛 (raw (fact 𝓤 (none ≡ none))) (fact_i 𝓤 (none ≡ none) (emp 𝓤) refl) $ nothing ! $
    returns ! (look_at ! 0 refl) $ free_all ! refl $ keep ! (3 ∷ 0 ∷ 2 ∷ 1 ∷ []) $ by !
    (leaves 𝓛 ended hs c z (one null_ptr) (record { at = null_ptr; kept = none }) tt tt)))
