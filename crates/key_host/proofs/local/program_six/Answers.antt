use Rattle.std.proofs.Common.{◌≡◌, ℕ, List, refl, ap}
use Rattle.key_host.proofs.local.program_six.Goals as goal

-- six keys, each by its place
parts : (a b c d e f a' b' c' d' e' f' : List ℕ) →
    (let six : List ℕ × List ℕ × List ℕ × List ℕ × List ℕ × List ℕ = (a, b, c, d, e, f) in six)
    ≡ (a', b', c', d', e', f')
    → (a ≡ a') × (b ≡ b') × (c ≡ c') × (d ≡ d') × (e ≡ e') × (f ≡ f')
parts a b c d e f a' b' c' d' e' f' same = (
  ap (λ x. x.0) same,
  ap (λ x. x.1) same,
  ap (λ x. x.2) same,
  ap (λ x. x.3) same,
  ap (λ x. x.4) same,
  ap (λ x. x.5)
      same,
)

-- the six calls one after another: the port after each, with the clause of that call at the key of its lane
pub returns : goal.returns
returns g c =
    let keys = parts _ _ _ _ _ _ _ _ _ _ _ _ c.six_of-a.ensures in (
      c.program.new.port,
      rw (← c.keys.ensures, ← keys.0) c.program.ensures,
      (
        c.program-2.new.port,
        rw (← c.keys.ensures, ← keys.1) c.program-2.ensures,
        (
          c.program-3.new.port,
          rw (← c.keys.ensures, ← keys.2) c.program-3.ensures,
          (
            c.program-4.new.port,
            rw (← c.keys.ensures, ← keys.3) c.program-4.ensures,
            (
              c.program-5.new.port,
              rw (← c.keys.ensures, ← keys.4) c.program-5.ensures,
              (c.program-6.new.port, rw (← c.keys.ensures, ← keys.5) c.program-6.ensures, refl),
            ),
          ),
        ),
      ),
    )
