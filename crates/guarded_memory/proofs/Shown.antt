-- What is shown once one more thing happened.
use Rattle.std.proofs.Common.{◌≡◌, ℕ, Bool, true, false, cond, not, ◌&&◌, eqb, List, [], ◌∷◌, ◌++◌, Option, Some, None}
use Rattle.std.proofs.Common.{is_some, refl, sym, ap, ◌∙◌, inl, inr}
use Rattle.std.proofs.lemmas.Bool.{cases_Bool, true≢false}
use Rattle.std.specs.List.{cons_option}
use Rattle.trusted_memory.specs.Writes.{Write, byte_written, byte_last_written}
use Rattle.trusted_memory.proofs.Turns.{byte_last_written-next, byte_last_written-none}
use Rattle.guarded_memory.specs.Statuses.{has_open_range}
use Rattle.guarded_memory.specs.Happenings.{Happened, WriteStored, InterfaceReset, AllReset, InterfaceStopped, clears}
use Rattle.guarded_memory.specs.Happenings.{stored_write, writes_since, byte_shown, contents_after}
use Rattle.guarded_memory.specs.Happenings.{contents_if_happened, newest_happened}
use Rattle.guarded_memory.specs.Contents.{GuardedMemory, MmioLeads}

cleared : (t : Bool) (ws : List Write) (a : ℕ) → byte_last_written (cond t [] ws) a ≡ cond t 0 (byte_last_written ws a)
cleared true ws a = byte_last_written-none a
cleared false ws a = refl

stored : (t : Bool) (w : Write) (ws : List Write) (a : ℕ) → byte_last_written (cons_option (cond t (Some w) None) ws) a
    ≡ cond t (byte_written w (byte_last_written ws) a) (byte_last_written ws a)
stored true w ws a = byte_last_written-next w ws a
stored false w ws a = refl

pub byte_shown-none : (i b a : ℕ) → byte_shown [] i b a ≡ 0
byte_shown-none i b a = byte_last_written-none a

pub byte_shown-next : (h : Happened) (older : List Happened) (i b a : ℕ) → byte_shown (h ∷ older) i b a
    ≡ contents_after h (byte_shown older) i b a
byte_shown-next (WriteStored j c w) older i b a = stored (eqb j i && eqb c b) w (writes_since older i b) a
byte_shown-next (InterfaceReset j) older i b a = cleared (eqb j i) (writes_since older i b) a
byte_shown-next AllReset older i b a = byte_last_written-none a
byte_shown-next (InterfaceStopped j bars) older i b a =
    cleared (eqb j i && not (has_open_range bars b)) (writes_since older i b) a

-- what neither clears a range nor stores in it leaves it
pub left_alone : (h : Happened) (old : ℕ → ℕ → ℕ → ℕ) (i b a : ℕ) → clears h i b ≡ false → stored_write h i b ≡ None
    → contents_after h old i b a ≡ old i b a
left_alone (WriteStored j c w) old i b a kept none = elim (cases_Bool (eqb j i && eqb c b)) [
  | inl e ↦ absurd (true≢false (ap (λ (o : Option Write). is_some o) (rw e at none)))
  | inr e ↦ rw e refl
]
left_alone (InterfaceReset j) old i b a kept none = rw kept refl
left_alone AllReset old i b a kept none = absurd (true≢false kept)
left_alone (InterfaceStopped j bars) old i b a kept none = rw kept refl

-- ---- leading on

contents_same : (h : Happened) (f g : ℕ → ℕ → ℕ → ℕ) → ((i b a : ℕ) → f i b a ≡ g i b a) → (i b a : ℕ)
    → contents_after h f i b a ≡ contents_after h g i b a
contents_same h f g same i b a = λ k. contents_after h (λ j c q. same j c q k) i b a

-- bytes f lead to bytes g, as MmioLeads says of two memories
pub leads_one : (f g : ℕ → ℕ → ℕ → ℕ) (o : Option Happened) → ((i b a : ℕ) → g i b a ≡ contents_if_happened o f i b a)
    → (older : List Happened) → ((i b a : ℕ) → f i b a ≡ byte_shown older i b a) → (i b a : ℕ)
    → g i b a ≡ byte_shown (newest_happened (o ∷ []) older) i b a
leads_one f g None h older left i b a = h i b a ∙ left i b a
leads_one f g (Some e) h older left i b a =
    h i b a ∙ contents_same e f (byte_shown older) left i b a ∙ sym (byte_shown-next e older i b a)

newest_happened-append : (hs gs : List (Option Happened)) (older : List Happened)
    → newest_happened (hs ++ gs) older ≡ newest_happened gs (newest_happened hs older)
newest_happened-append [] gs older = refl
newest_happened-append (h ∷ hs) gs older = newest_happened-append hs gs (cons_option h older)

pub leads_joined : (m n k : GuardedMemory) (hs gs : List (Option Happened)) → MmioLeads m hs n → MmioLeads n gs k
    → MmioLeads m (hs ++ gs) k
leads_joined m n k hs gs first second older left =
    rw (newest_happened-append hs gs older) (second (newest_happened hs older) (first older left))
