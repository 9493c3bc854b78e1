-- The keys of a draw as they are kept until they are acknowledged.
use Rattle.std.specs.Prelude.{◌≡◌, ◌++◌, ℕ, List, Option, Some, None, [], length, IfSome}

-- keys in the order of their KEY_PROGs, each there until its own is acknowledged: by lane, those of a near end first
abbrev pub WireKeys : Type 0
WireKeys = List (Option (List ℕ))

abbrev pub near_keys : Option WireKeys → WireKeys
near_keys None = []
near_keys (Some keys) = keys

-- those of the near end first
abbrev pub both_keys : Option WireKeys → WireKeys → WireKeys
both_keys near far = near_keys near ++ far

-- six of each end
pub record SixEach (near : Option WireKeys) (far : WireKeys) : Type 0 where
  pub near_six : IfSome near (λ keys. length keys ≡ 6)
  pub far_six : length far ≡ 6
