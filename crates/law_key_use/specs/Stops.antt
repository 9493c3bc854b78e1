-- What a stop and a reset take away.
use Rattle.std.specs.Prelude.{◌≡◌, ◌≢◌, ◌≤◌, ◌+◌, ◌<◌, ◌∷◌, ℕ, Bool, true, false, Some, None, []}
use Rattle.spec_keys.specs.Terms.{Event, Verdict}
use Rattle.spec_keys.specs.Places.{KeyPlace, is_local, is_cleared}
use Rattle.spec_keys.specs.Operations.{Idle, Stopping}
use Rattle.spec_keys.specs.History.{History, op_of, kept_draw, stop_exchange}
use Rattle.spec_links.specs.Terms.{AllByRecursion, SealedPacket}
use Rattle.law_key_use.specs.InUse.{sender_of, receiver_of}
use Rattle.script_events.specs.declared.event.Event.TheVariants as event
use Rattle.event_verdicts.specs.declared.verdict.Verdict.TheVariants as v

abbrev pub KeepsNone : History → KeyPlace → Bool → Type 0
KeepsNone h p set = kept_draw h p set ≡ None

-- While exchange n of a stop is next.
pub record KeysGoInStop (h : History) : Type 0 where
  -- a host's port keeps nothing of the stream
  pub local : (p : KeyPlace) (n : ℕ) → op_of h p.line p.stream ≡ Stopping n → is_local p ≡ true → (set : Bool)
      → KeepsNone h p set
  -- any other place keeps nothing in a set whose STOP was acknowledged
  pub first : (p : KeyPlace) (n : ℕ) → op_of h p.line p.stream ≡ Stopping n → is_local p ≡ false → stop_exchange p < n
      → KeepsNone h p false
  pub second : (p : KeyPlace) (n : ℕ) → op_of h p.line p.stream ≡ Stopping n → is_local p ≡ false
      → stop_exchange p + 6 < n → KeepsNone h p true

-- a place keeps nothing that it did not keep before
abbrev pub GainsNone : History → Event → Verdict → KeyPlace → Type 0
GainsNone h e w p = (set : Bool) (j : ℕ) → kept_draw ((e, w) ∷ h) p set ≡ Some j → kept_draw h p set ≡ Some j

-- after the pair a stream that is being stopped gained no key
abbrev pub StopGivesNone : History → Event → Verdict → Type 0
StopGivesNone h e w = (p : KeyPlace) (n : ℕ) → op_of ((e, w) ∷ h) p.line p.stream ≡ Stopping n → GainsNone h e w p

-- Keys may be used at the place: the stream is not idle; and if it is being stopped, the place is not at a host's port,
-- and its last STOP was not acknowledged.
abbrev pub MayUseKeys : History → KeyPlace → Type 0
MayUseKeys h p =
    (op_of h p.line p.stream ≢ Idle)
    × ((n : ℕ) → op_of h p.line p.stream ≡ Stopping n → (is_local p ≡ false) × (n ≤ stop_exchange p + 6))

-- packets are sealed, and units held and accepted, where keys may be used
abbrev pub UsesNoneTaken : History → Event → Verdict → Type 0
UsesNoneTaken h e (v.Sealed ds) = AllByRecursion (λ (d : SealedPacket). MayUseKeys h (sender_of d)) ds
UsesNoneTaken h e (v.Held port unit) = MayUseKeys h (receiver_of port unit)
UsesNoneTaken h e (v.Accepted port unit effects) = MayUseKeys h (receiver_of port unit)
UsesNoneTaken h e w = Unit {0}

-- a reset leaves nothing at the ends that it clears
abbrev pub ResetTakesKeys : History → Event → Verdict → Type 0
ResetTakesKeys h (event.Reset link ends) (v.Reset l) = (p : KeyPlace) → is_cleared ends p.side p.line ≡ true
    → (set : Bool) → KeepsNone ((event.Reset link ends, v.Reset l) ∷ h) p set
ResetTakesKeys h e w = Unit {0}

abbrev pub StopTakesKeys : History → Type 0
StopTakesKeys [] = Unit {0}
StopTakesKeys ((e, w) ∷ h) =
    KeysGoInStop ((e, w) ∷ h) × StopGivesNone h e w × UsesNoneTaken h e w × ResetTakesKeys h e w × StopTakesKeys h
