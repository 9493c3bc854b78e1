-- The last enabling write, and writes in turn.
use Rattle.std.proofs.Common.{◌≡◌, ℕ, cond, List, [], ◌∷◌, refl, ap, ◌∙◌, inl, inr}
use Rattle.std.proofs.lemmas.Bool.{cases_Bool}
use Rattle.trusted_memory.specs.Spans.{enables}
use Rattle.trusted_memory.specs.Writes.{Write, payload_byte, byte_written, byte_last_written, written_in_turn}

pub byte_last_written-next : (w : Write) (older : List Write) (a : ℕ) → byte_last_written (w ∷ older) a
    ≡ byte_written w (byte_last_written older) a
unfolding byte_last_written
byte_last_written-next w older a = elim (cases_Bool (enables w.span a)) [ inl e ↦ rw e refl | inr e ↦ rw e refl ]

pub byte_last_written-in_turn : (writes : List Write) (a : ℕ) → byte_last_written writes a ≡ written_in_turn writes a
unfolding byte_last_written
byte_last_written-in_turn [] a = refl
byte_last_written-in_turn (w ∷ older) a = byte_last_written-next w older a ∙ ap
    (λ (b : ℕ). cond (enables w.span a) (payload_byte w a) b) (byte_last_written-in_turn older a)

pub byte_last_written-none : (a : ℕ) → byte_last_written [] a ≡ 0
unfolding byte_last_written
byte_last_written-none a = refl
