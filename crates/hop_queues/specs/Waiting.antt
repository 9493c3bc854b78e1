-- TLPs that wait at the switch of a hop, and room for more (this profile).
use Rattle.std.specs.Prelude.{ℕ, ◌≡◌, ◌<◌, ◌≤◌, Bool, true, List, []}
use Rattle.hop_queues.specs.declared.queue.HopTlp.{HopTlp}

-- the most bytes of a TLP
abbrev pub most_bytes : ℕ
most_bytes = 4112

-- those that wait in one direction, the first first, and whether there is room for one more
pub record WaitingTlps : Type 0 where
  pub tlps : List HopTlp
  pub has_room : Bool

-- an empty buffer with room for the longest TLP
pub record IsBlankBuffer (bytes : List ℕ) (room : ℕ) : Type 0 where
  pub empty : bytes ≡ []
  pub roomy : most_bytes ≤ room

-- where there is a buffer there is a place in the queue
abbrev pub HasPlace : Bool → ℕ → ℕ → Type 0
HasPlace has_room len room = has_room ≡ true → len < room
