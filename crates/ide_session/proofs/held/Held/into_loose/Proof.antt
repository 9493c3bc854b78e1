-- `into_loose` moves the block from the handle to a `Loose`.
use Rattle.std.proofs.Common.{◌≡◌, List, [], ◌∷◌, ◌++◌, refl, sym, ap, ◌∙◌, subst}
use mir.Raw.{raw as bare}
use mir.Val.{Val, vptr}
use base.Logic.{SProp, ent, id⊢, emp, never, fst∗}
use base.Fml.{ftrue}
use prog.Wp.{WpFn}
use types.Logic.{sem}
use types.Kit.{‵, raw, ◌⊛◌, ◌$◌, ◌∵◌, !, qed, by, move, keep, split, fsplit, fjoin, suffices, use0, rewrite}
use types.Run.{stop, fld, of_opd, no_more, and_then, returns, enter}
use types.ByLocal.{alloc_all, pass_all, free_all, look_at, get, get_in, sets}
use types.Part.{agg, sub, whole}
use contract.Monad.{fact, fact_i}
use contract.Running.{tables}
use denote.Exit.{yes}
use denote.RattleType.{owns}
use denote.Signature.{types_at, plain}
use denote.Memory.{lone}
use denote.RawPtr.{Ptr, block_ptr, null_ptr, in_a_block}
use denote.Steps.{nothing, heard}
use denote.Triple.Walked.{Stays, stay_dropped, walk_of}
use Rattle.std.specs.Prelude.{Option, Some, IsSome}
use Rattle.core.proofs.alloc.Calls.{Goes-blank, handle_tells}
use Rattle.std.proofs.raw_atomic.Walks.{proved_at, leaves}
use Rattle.std_alloc.specs.Box.Ownership.{box_owns}
use Rattle.std_heap.specs.contracts.Global.{the_row as heap_row}
use Rattle.std_heap.specs.contracts.GlobalAllocator.TheImpl.{ghosts}
use Rattle.std_heap.proofs.Global.TheLaws.{the_row_laws as heap_laws}
use Rattle.ide_session.specs.Holding.{heap_token, holding_owns}
use Rattle.ide_session.specs.contracts.session.Session as session
use Rattle.ide_session.proofs.Values.{both, loose_good, loose_in}
use Rattle.ide_session.proofs.Holding.{Held, held_out, heap, one, some_of}
use Rattle.ide_session.specs.contracts.held.Held.into_loose.{ended, clauses}
use Rattle.ide_session.specs.contracts.held.Held.into_loose.Key.{name as #self}
use Rattle.ide_session.proofs.held.Held.into_loose.Statement.{statement}
use Rattle.ide_session.proofs.held.Held.into_loose.Code as code

pub into_loose_spec : {M : Type 1} → statement M
into_loose_spec 𝓤 𝓛 𝓜 𝓡 wired =
    let H = 𝓛.H in let 𝓣 = tables 𝓤 H 𝓜 𝓡 𝓡.env in let c = clauses 𝓛 𝓜.mem 𝓡.returns in
    let hs : Stays ended.signature.params ended.kept =
    (stay_dropped (plain (λ _. Held)) yes, (stay_dropped (plain (λ _. heap_row)) yes, tt)) in
    proved_at 𝓛 ended hs c 𝓜 𝓡 (
      Goes-blank 𝓛 0 (plain (λ _. Held)) yes (λ κs x f. tt),
      (Goes-blank 𝓛 0 (plain (λ _. heap_row)) yes (λ κs x f. tt), tt),
    ) #self code.function
    (code.unfolded 𝓤 H 𝓜 𝓡 wired) (λ z are.
    let v = z.0.3.0 in let a = z.0.3.1.0 in let Post : Val → SProp 𝓤 = (walk_of 𝓛 ended hs c).post z in let Run : List
    Val → SProp 𝓤 = λ ws. WpFn 𝓤 H 𝓣.C 𝓣.Λ code.function ws Post in
    qed 𝓛 ((‵ ftrue ⊛ ‵ (owns (types_at ended.signature.params z.0.0) z.0.3 z.0.4)) ∷ raw (fact 𝓤 (IsSome v.kept)) ∷ [])
    ∵ split ! $ move ! (2 ∷ []) $ heard ! (IsSome v.kept) (λ is.
    let was = some_of v.kept is in let x = was.0 in
    move ! (1 ∷ []) $ fsplit ! $ held_out ! v z.0.4.0 (λ ws.
    rewrite ! 0 (λ (o : Option session.the_row.Denot). ‵ (holding_owns heap_token session.the_row v.at o)) was.1 refl $
    in_a_block ! v.at (λ p. box_owns heap_token session.the_row p x)
    (fst∗ 𝓤 (never 𝓤) (sem 𝓛 (heap_token (bare (lone (session.the_row).mir)) null_ptr))) (λ b o e.
    move ! (1 ∷ []) $ fsplit ! $ handle_tells heap ! a z.0.4.1.0 (λ h eh fits.
    let w : Val = one (block_ptr b o) in let typed = loose_good session.the_row heap_row heap_laws ghosts b o h fits in
    let ws' : z.0.4.0 ≡ w ∷ [] = ws ∙ ap (λ (p : Ptr). one p ∷ []) e in
    suffices ! (Run (w ∷ h ∷ []))
    (subst (λ (us : List Val). ent 𝓤 (Run (w ∷ h ∷ [])) (Run us)) (sym (λ i. ws' i ++ (eh i ++ [])))
    (id⊢ 𝓤 (Run (w ∷ h ∷ [])))) $
    enter ! 𝓣.C 𝓣.Λ code.function (w ∷ h ∷ []) Post $ alloc_all ! (λ l. pass_all ! refl ((tt, (tt, tt)), (fits, tt)) $
    sets ! (of_opd ! (get_in ! (fld ! refl (stop !)) (sub ! 0 refl (whole !)))) refl (tt, tt) $ sets !
    (of_opd ! (get ! refl)) refl (tt, tt) $
    sets ! (agg ! (and_then ! (get ! refl) (and_then ! (get ! refl) (no_more !)))) refl typed $
    move ! (2 ∷ 0 ∷ []) $ loose_in session.the_row heap_row heap_laws ghosts ! b o h a x $
    use0 𝓛 (raw (fact 𝓤 (Some x ≡ v.kept))) (fact_i 𝓤 (Some x ≡ v.kept) (emp 𝓤) (sym was.1)) $ nothing ! $ nothing ! $
    fjoin ! $ nothing ! $ fjoin ! $
    returns ! (look_at ! 0 refl) $ free_all ! refl $ keep ! (4 ∷ 0 ∷ 2 ∷ 1 ∷ []) $ by !
    (leaves 𝓛 ended hs c z (both (vptr b o) h) (record { at = block_ptr b o; alloc = a; value = x }) (tt, (tt, tt))
    (tt, (tt, tt)))))))))
