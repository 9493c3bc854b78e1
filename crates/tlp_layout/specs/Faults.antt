-- Where bytes first go off the grammar, and why.
use Rattle.std.specs.Prelude.{◌≡◌, ℕ, List}
use Rattle.ide_types.specs.Fronts.{IsFaultPlace}
use Rattle.tlp_layout.specs.Terms.{TlpFault, Short, Kind, Bit, Length, Trailing}
use Rattle.tlp_layout.specs.Head.{IsHead}
use Rattle.tlp_layout.specs.Tlp.{IsTlp}
use Rattle.tlp_layout.specs.Causes.{fault_at}

-- the bytes are no TLP, and this is their first fault
abbrev pub IsFault : List ℕ → TlpFault → Type 0
IsFault bytes fault = (place : ℕ) × IsFaultPlace IsTlp bytes place × (fault ≡ fault_at bytes place)

-- the bytes are no header, and this is their first fault
abbrev pub IsHeadFault : List ℕ → TlpFault → Type 0
IsHeadFault bytes fault = (place : ℕ) × IsFaultPlace IsHead bytes place × (fault ≡ fault_at bytes place)

-- the place that a fault names, a byte offset from 0
abbrev pub place_in : TlpFault → ℕ
place_in (Short place) = place
place_in (Kind place) = place
place_in (Bit place) = place
place_in (Length place) = place
place_in (Trailing place) = place
