-- The machine value of a handle. Assumes `Logic`.
use Rattle.std.proofs.Common.{◌≡◌, List, [], ◌∷◌, ◌++◌, refl, sym, subst, true≢false}
use Rattle.std.specs.Prelude.{Option, Some, None, IsSome}
use mir.Syntax.{impl, tnil, dnil}
use Rattle.core.proofs.alloc.Calls.{Al}
use Rattle.std_heap.specs.contracts.Global.{the_row as heap_row}
use Rattle.std_heap.specs.contracts.GlobalAllocator.TheImpl.{ghosts}
use Rattle.std_heap.proofs.Global.TheLaws.{the_row_laws as heap_laws}
use seplogic.Ra.Ura.{Ura}
use mir.Val.{Val, vstruct, of_list}
use types.Logic.{Logic}
use types.Kit.{Item, Goal, Seq, Step, step, ‵, ◌$◌, drop, fsplit, fjoin, fpick, fpack, feq_i, feq_l}
use denote.RattleType.{RattleType, Valss}
use denote.Builtin.{RawPtr}
use denote.RawPtr.{Ptr, ptr_val}
use denote.Steps.{nothing}
use denote.Struct.Struct.{within}
use denote.Struct.Owning.{shape}
use Rattle.ide_session.specs.Holding.{heap_token, holding_owns}
use Rattle.ide_session.specs.contracts.session.Session as session
use Rattle.ide_session.specs.contracts.held.Held as held

abbrev pub Held : RattleType
Held = held.the_row

-- the handle of the heap
abbrev pub heap : Al
heap = record { row = heap_row; laws = heap_laws; g = ghosts; d = impl [] tnil dnil; drops = impl [] tnil dnil }

pub some_of : {X : Type 0} (o : Option X) → IsSome o → (x : X) × (o ≡ Some x)
some_of (Some x) is = (x, refl)
some_of None is = absurd (true≢false (sym is))

abbrev pub one : Ptr → Val
one p = vstruct (of_list (ptr_val p ∷ []))

module _ {M : Type 1} {𝓤 : Ura M} {𝓛 : Logic 𝓤} {K : Type 0} {Γ : List (Item 𝓤)} {G : Goal 𝓤 𝓛.H} where
  pub held_in : K → (p : Ptr) (x : Option session.the_row.Denot)
      → Step K 𝓛 (‵ (Held.own_val (record { at = p; kept = x }) (one p ∷ [])) ∷ Γ) G
      (‵ (holding_owns heap_token session.the_row p x) ∷ Γ) G
  held_in t p x = step (λ s.
      nothing t $ feq_i t (List Val) (ptr_val p ∷ []) (ptr_val p ∷ []) refl $ fjoin t $ feq_i t (List Val) (one p ∷ [])
      (one p ∷ []) refl $ fjoin t $
      fpack t (Valss (RawPtr ∷ [])) (within (shape held.the_type) (p, tt) (one p ∷ [])) (ptr_val p ∷ [], tt) $ fjoin t $
      s)

  pub held_out : K → (d : Held.Denot) (vs : List Val)
      → (vs ≡ one d.at ∷ [] → Seq K 𝓛 (‵ (holding_owns heap_token session.the_row d.at d.kept) ∷ Γ) G)
      → Seq K 𝓛 (‵ (Held.own_val d vs) ∷ Γ) G
  held_out t d vs k =
      fsplit t $ fpick t (λ vss. fsplit t $ feq_l t (λ ev. fsplit t $ feq_l t (λ ep. drop t $
      k (subst (λ (ps : List Val). vs ≡ vstruct (of_list (ps ++ [])) ∷ []) ep ev))))
