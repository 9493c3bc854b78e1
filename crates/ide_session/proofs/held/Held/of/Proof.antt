-- `of` moves a block from a `Loose` to the handle.
use Rattle.std.proofs.Common.{◌≡◌, List, [], ◌∷◌, ◌++◌, refl, sym, subst}
use mir.Val.{Val, vptr, vstruct, vcons, vnil}
use base.Logic.{SProp, ent, id⊢, emp}
use base.Fml.{ftrue}
use prog.Wp.{WpFn}
use types.Kit.{‵, raw, ◌⊛◌, ◌$◌, ◌∵◌, !, qed, by, move, keep, split, fsplit, fjoin, suffices, use0, use1}
use types.Run.{stop, fld, of_opd, no_more, and_then, returns, enter}
use types.ByLocal.{alloc_all, pass_all, free_all, look_at, get, get_in, sets}
use types.Part.{agg, sub, whole}
use contract.Monad.{fact, fact_i}
use contract.Running.{tables}
use denote.Exit.{yes}
use denote.RattleType.{RattleType, owns}
use denote.Signature.{types_at, plain}
use denote.RawPtr.{block_ptr}
use denote.Steps.{nothing}
use denote.Triple.Walked.{Stays, stay_dropped, walk_of}
use Rattle.std.specs.Prelude.{Some}
use Rattle.core.proofs.alloc.Calls.{Goes-blank}
use Rattle.std.proofs.raw_atomic.Walks.{proved_at, leaves}
use Rattle.std_heap.specs.contracts.Global.{the_row as heap_row}
use Rattle.std_heap.specs.contracts.GlobalAllocator.TheImpl.{ghosts}
use Rattle.std_heap.proofs.Global.TheLaws.{the_row_laws as heap_laws}
use Rattle.ide_session.specs.contracts.session.Session as session
use Rattle.ide_session.proofs.Values.{both, Loose, loose_good, loose_out}
use Rattle.ide_session.specs.Holding.{heap_token, holding_owns}
use Rattle.ide_session.proofs.Holding.{held_in}
use Rattle.ide_session.specs.contracts.held.Held.of.{ended, clauses}
use Rattle.ide_session.specs.contracts.held.Held.of.Key.{name as #self}
use Rattle.ide_session.proofs.held.Held.of.Statement.{statement}
use Rattle.ide_session.proofs.held.Held.of.Code as code

pub of_spec : {M : Type 1} → statement M
of_spec 𝓤 𝓛 𝓜 𝓡 wired =
    let H = 𝓛.H in let 𝓣 = tables 𝓤 H 𝓜 𝓡 𝓡.env in let c = clauses 𝓛 𝓜.mem 𝓡.returns in let L : RattleType = Loose
    session.the_row heap_row heap_laws ghosts in
    let hs : Stays ended.signature.params ended.kept = (stay_dropped (plain (λ _. L)) yes, tt) in
    proved_at 𝓛 ended hs c 𝓜 𝓡 (Goes-blank 𝓛 0 (plain (λ _. L)) yes (λ κs x f. tt), tt) #self code.function
    (code.unfolded 𝓤 H 𝓜 𝓡 wired) (λ z are.
    let v = z.0.3.0 in let Post : Val → SProp 𝓤 = (walk_of 𝓛 ended hs c).post z in let Run : List Val
    → SProp 𝓤 = λ ws. WpFn 𝓤 H 𝓣.C 𝓣.Λ code.function ws Post in
    qed 𝓛 ((‵ ftrue ⊛ ‵ (owns (types_at ended.signature.params z.0.0) z.0.3 z.0.4)) ∷ raw ((c z.0.0 z.0.3).requires z.1)
    ∷ []) ∵ split ! $ move ! (1 ∷ []) $ fsplit ! $
    loose_out session.the_row heap_row heap_laws ghosts ! v z.0.4.0 (λ b o h e ws fits.
    let w : Val = both (vptr b o) h in let typed = loose_good session.the_row heap_row heap_laws ghosts b o h fits in
    let out : Val = vstruct (vcons (vptr b o) vnil) in
    suffices ! (Run (w ∷ []))
    (subst (λ (us : List Val). ent 𝓤 (Run (w ∷ [])) (Run us)) (sym (λ i. ws i ++ [])) (id⊢ 𝓤 (Run (w ∷ [])))) $
    enter ! 𝓣.C 𝓣.Λ code.function (w ∷ []) Post $ alloc_all ! (λ l. pass_all ! refl (typed, tt) $
    sets ! (of_opd ! (get_in ! (fld ! refl (stop !)) (sub ! 0 refl (whole !)))) refl (tt, tt) $ sets !
    (of_opd ! (get ! refl)) refl (tt, tt) $
    sets ! (agg ! (and_then ! (get ! refl) (no_more !))) refl (tt, (tt, tt)) $
    use1 𝓛 (‵ (holding_owns heap_token session.the_row (block_ptr b o) (Some v.value))) (id⊢ 𝓤 _) $ held_in !
    (block_ptr b o) (Some v.value) $
    use0 𝓛 (raw (fact 𝓤 (Some v.value ≡ Some v.value))) (fact_i 𝓤 (Some v.value ≡ Some v.value) (emp 𝓤) refl) $ nothing
    ! $ nothing ! $ fjoin ! $
    returns ! (look_at ! 0 refl) $ free_all ! refl $ keep ! (5 ∷ 0 ∷ 2 ∷ 1 ∷ []) $ by !
    (leaves 𝓛 ended hs c z out (record { at = block_ptr b o; kept = Some v.value }) (tt, tt) (tt, tt)))))
