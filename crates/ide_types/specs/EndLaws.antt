-- No two lines have a stream ID at one port.
use Rattle.std.specs.Prelude.{ℕ, ◌≡◌, true}
use Rattle.ide_types.specs.declared.port.PortName.{PortName}
use Rattle.ide_types.specs.declared.plan.Plan.{Plan}
use Rattle.ide_types.specs.Fits.{FitsPlan}
use Rattle.ide_types.specs.Ends.{line_has, end_at}

-- an end whose line has the stream is the one that the stream's ID finds at its port
abbrev pub EndsAreFound : Type 0
EndsAreFound = (plan : Plan) → FitsPlan plan → (e : PortName) (id : ℕ) → line_has plan e.line id ≡ true
    → end_at plan e id ≡ e
