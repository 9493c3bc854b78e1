-- What one unit brings to a switch.
use Rattle.std.specs.Prelude.{◌≡◌, ◌≤◌, ◌⊎◌, List, [], ◌∷◌, length}
use Rattle.hop_queues.specs.{most_bytes}
use Rattle.spec_links.specs.Hops.{HopTlp}

-- one TLP that is no longer than one may be
pub record IsOneTlp (xs : List HopTlp) : Type 0 where
  pub tlp : HopTlp
  pub is : xs ≡ tlp ∷ []
  pub short : length tlp.bytes ≤ most_bytes

-- such a TLP, or none
abbrev pub AreFew : List HopTlp → Type 0
AreFew xs = (xs ≡ []) ⊎ IsOneTlp xs
