-- Where keys are: at an end of a line, and there in a sub-stream that it sends or receives.
use Rattle.std.specs.Prelude.{◌+◌, ◌==◌, ◌&&◌, if◌then◌else◌, ◌∷◌, ◌++◌, ℕ, nat_lt, Bool, true, false, not, List, []}
use Rattle.spec_keys.specs.Terms.{SubKind, Pr, Npr, Cpl, Side, Host, Device, PortName, list_any}
use Rattle.ide_types.specs.Lines.{is_hosted}
use Rattle.ide_types.specs.Sub.{sub_bits}
pub use Rattle.ide_types.specs.Sub.{sent_direction, received_direction, is_same_sub}

-- what there is before the first event: how many draws the pool has, and which links there are, and which streams on
-- which lines
pub record KeyPlan : Type 0 where
  pub pool : ℕ
  pub has_link : ℕ → Bool
  pub has_stream : ℕ → ℕ → Bool

pub record KeyPlace : Type 0 where
  pub side : Side
  pub line : ℕ
  pub stream : ℕ
  pub sends : Bool
  pub sub : SubKind

abbrev pub is_host : Side → Bool
is_host Host = true
is_host Device = false

abbrev pub is_same_side : Side → Side → Bool
is_same_side a b = sent_direction a == sent_direction b

abbrev pub is_on_stream : KeyPlace → ℕ → ℕ → Bool
is_on_stream p line stream = (p.line == line) && (p.stream == stream)

-- its number among the six of its stream at its end: the receivers PR, NPR, CPL, then the senders
abbrev pub lane : KeyPlace → ℕ
lane p = (if p.sends then 3 else 0) + sub_bits p.sub

-- whether its keys are given and taken by local calls, as at a host's port; at any other place it is done by messages
abbrev pub is_local : KeyPlace → Bool
is_local p = is_host p.side && is_hosted p.line

abbrev pub key_place_at : Side → ℕ → ℕ → Bool → SubKind → KeyPlace
key_place_at side line stream upward u = record {
  side = side;
  line = line;
  stream = stream;
  sends = if is_host side then not upward else upward;
  sub = u;
}

-- the six places of a stream at an end, in order
abbrev pub places_of : Side → ℕ → ℕ → List KeyPlace
places_of side line stream =
    key_place_at side line stream false Pr ∷ key_place_at side line stream false Npr
    ∷ key_place_at side line stream false Cpl
    ∷ key_place_at side line stream true Pr ∷ key_place_at side line stream true Npr
    ∷ key_place_at side line stream true Cpl ∷ []

-- those of a stream whose keys are given by messages: at the far end, and at the near end too if no host's port is
-- there
abbrev pub told_places : (hosted : Bool) → ℕ → ℕ → List KeyPlace
told_places true line stream = places_of Device line stream
told_places false line stream = places_of Host line stream ++ places_of Device line stream

-- ---- a reset

-- a stream between two devices: a reset of one of their links clears one of its ends
abbrev pub is_between_devices : ℕ → Bool
is_between_devices line = not (nat_lt line 24)

-- whether these ends that a reset clears are on the line
abbrev pub is_line_reset : List PortName → ℕ → Bool
is_line_reset ends line = list_any (λ e. e.line == line) ends

-- whether it takes the keys of an end; the two ends of a link, and of a segment of its hop, go together
abbrev pub is_cleared : List PortName → Side → ℕ → Bool
is_cleared ends side line =
    if is_between_devices line then list_any (λ e. is_same_side e.side side && (e.line == line)) ends else is_line_reset
    ends
    line
