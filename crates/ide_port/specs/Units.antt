-- How many units were finished and accepted.
use Rattle.std.specs.Prelude.{ℕ, ◌+◌, ◌≤◌, All}
use Rattle.spec_stream.specs.Stream.{StreamState}
use Rattle.stream_lanes.specs.{SealedAtMost, AcceptedAtMost}
use Rattle.ide_port.specs.Ends.{PortEnd}

-- in each sub-stream, since its direction has a Live key
abbrev pub UnitsAtMost : ℕ → StreamState → Type 0
UnitsAtMost n st = SealedAtMost n st.tx × AcceptedAtMost n st.rx

-- on each stream of a port
abbrev pub PortUnitsAtMost : ℕ → PortEnd → Type 0
PortUnitsAtMost n e = All (UnitsAtMost n) e.states

-- and so many more, whatever they were
pub record UnitsGrow (more : ℕ) (e e' : PortEnd) : Type 0 where
  pub bounded : (m n : ℕ) → m + more ≤ n → PortUnitsAtMost m e → PortUnitsAtMost n e'
