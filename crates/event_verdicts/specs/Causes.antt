-- Why packets are blocked by the streams that an interface is bound to (this profile).
use Rattle.std.specs.Prelude.{ℕ, ◌==◌, nat_lt, not, Bool, false, if◌then◌else◌, Option, Some, None}
use Rattle.ide_types.specs.declared.binding.Binding.{Binding}
use Rattle.event_verdicts.specs.Terms.{BlockCause, WrongStream, Stale}

-- the stream that is taken is this one
abbrev pub is_stream : ℕ → Option ℕ → Bool
is_stream stream None = false
is_stream stream (Some taken) = stream == taken

-- the draw is less than the floor
abbrev pub stale_cause : ℕ → ℕ → Option BlockCause
stale_cause floor draw = if nat_lt draw floor then Some Stale else None

-- of what takes a stream, or none, under a draw: the interface is bound to another; the draw is less than the floor
abbrev pub binding_cause : Binding → Option ℕ → ℕ → Option BlockCause
binding_cause b taken draw = if not (is_stream b.stream taken) then Some WrongStream else stale_cause b.floor draw
