-- Exchanges of a line that is keyed by messages at both ends, by number: their ends and lanes, and which are refused.
use Rattle.std.specs.Option.{option_or}
use Rattle.ide_types.specs.Lines.{is_hosted}
use Rattle.spec_keys.specs.Places.{is_host, lane as lane_number, places_of, told_places}
use Rattle.spec_keys.specs.History.{program_exchange, program_number, go_number}
use Rattle.spec_keys.specs.Due.{first_status}
use Rattle.join_keys.specs.Calls.{lane_sends}
use Rattle.join_keys.proofs.Terms.{◌≡◌, Bool, arith, true, ℕ, List, false, nat_tests, Operation, place_at_end, ◌≤◌}
use Rattle.join_keys.proofs.Terms.{makes_draw, Host, Device, Side, ◌++◌, refl, ◌-◌, ◌∙◌, ap, KeyPlace, ◌<◌, ◌==◌}
use Rattle.join_keys.proofs.Terms.{last_exchange_of, ◌%◌, inl, inr, sub_from, cases_lt, PortView, refusal_at, None}
use Rattle.join_keys.proofs.Terms.{exchange_of, KeySet, Option, if◌then◌else◌, [], ◌∷◌}
use Rattle.ide_types.specs.declared.key_set.KeySet.TheVariants.{Zero, One}
use Rattle.key_host.specs.Exchanges.{end_of}
use Rattle.event_verdicts.specs.declared.verdict.Operation.TheVariants as op
use Rattle.key_host.specs.declared.exchange.Exchange.TheVariants as exchange
use Rattle.join_keys.proofs.Lanes.{by_lane}

-- the place of a lane at an end
abbrev pub pair_place : ℕ → ℕ → Side → ℕ → KeyPlace
pair_place line stream side lane = place_at_end line stream (lane_sends lane) side (sub_from (lane % 3))

-- the exchanges that program a lane at an end, and that make its key On
abbrev pub put_at : Side → ℕ → ℕ
put_at side lane = program_number false (is_host side) op.Establish lane

abbrev pub goes_at : Side → ℕ → ℕ
goes_at side lane = go_number false (is_host side) op.Establish lane

-- ---- each exchange by its number

pub data PairTurn (o : Operation) (set : KeySet) (n : ℕ) : Type 0 where
  pair_puts : (side : Side) (lane : ℕ) → lane < 6 → makes_draw o ≡ true → n ≡ put_at side lane
      → end_of false o n ≡ side → exchange_of false o set n ≡ exchange.Program set lane → PairTurn o set n
  pair_goes : (side : Side) (lane : ℕ) → lane < 6 → makes_draw o ≡ true → n ≡ goes_at side lane
      → end_of false o n ≡ side → exchange_of false o set n ≡ exchange.Go set lane → PairTurn o set n
  pair_stops : (side : Side) (k : KeySet) (lane : ℕ) → lane < 6 → o ≡ op.Stop
      → end_of false o n ≡ side → exchange_of false o set n ≡ exchange.Stop k lane → PairTurn o set n

establish_turn : (set : KeySet) (n : ℕ) → 1 ≤ n → n ≤ 24 → PairTurn op.Establish set n
establish_turn set n least most = elim (cases_lt n 7) [
  | inl a ↦ pair_puts Host (n - 1) (omega (arith, a)) refl (omega (arith, least)) (grind (arith, nat_tests))
      (grind (arith, nat_tests))
  | inr b ↦ elim (cases_lt n 13) [
    | inl a ↦ pair_puts Device (n - 7) (omega (arith, a)) refl (omega (arith, b)) (grind (arith, nat_tests))
        (grind (arith, nat_tests))
    | inr c ↦ elim (cases_lt n 16) [
      | inl a ↦ pair_goes Host (n - 13) (omega (arith, a)) refl (grind (arith, nat_tests)) (grind (arith, nat_tests))
          (grind (arith, nat_tests))
      | inr d ↦ elim (cases_lt n 19) [
        | inl a ↦ pair_goes Device (n - 16) (omega (arith, a)) refl (grind (arith, nat_tests))
            (grind (arith, nat_tests)) (grind (arith, nat_tests))
        | inr e ↦ elim (cases_lt n 22) [
          | inl a ↦ pair_goes Host (n - 16) (omega (arith, a)) refl (grind (arith, nat_tests))
              (grind (arith, nat_tests)) (grind (arith, nat_tests))
          | inr f ↦ pair_goes Device (n - 19) (omega (arith, most)) refl (grind (arith, nat_tests))
              (grind (arith, nat_tests)) (grind (arith, nat_tests))
        ]
      ]
    ]
  ]
]

-- a refresh has the same exchanges
as_refresh : (set : KeySet) (n : ℕ) → PairTurn op.Establish set n → PairTurn op.Refresh set n
as_refresh set n (pair_puts side lane lt makes is_n ends is) = pair_puts side lane lt refl is_n ends is
as_refresh set n (pair_goes side lane lt makes is_n ends is) = pair_goes side lane lt refl is_n ends is
as_refresh set n (pair_stops side k lane lt is_o ends is) = absurd cc

stopping_turn : (set : KeySet) (n : ℕ) → 1 ≤ n → n ≤ 24 → PairTurn op.Stop set n
stopping_turn set n least most = elim (cases_lt n 7) [
  | inl a ↦ pair_stops Host Zero (n - 1) (omega (arith, a)) refl (grind (arith, nat_tests)) (grind (arith, nat_tests))
  | inr b ↦ elim (cases_lt n 13) [
    | inl a ↦ pair_stops Host One (n - 7) (omega (arith, a)) refl (grind (arith, nat_tests)) (grind (arith, nat_tests))
    | inr c ↦ elim (cases_lt n 19) [
      | inl a ↦ pair_stops Device Zero (n - 13) (omega (arith, a)) refl (grind (arith, nat_tests))
          (grind (arith, nat_tests))
      | inr d ↦ pair_stops Device One (n - 19) (omega (arith, most)) refl (grind (arith, nat_tests))
          (grind (arith, nat_tests))
    ]
  ]
]

pub pair_turn : (o : Operation) (set : KeySet) (n : ℕ) → 1 ≤ n → n ≤ last_exchange_of false o → PairTurn o set n
pair_turn op.Establish set n least most = establish_turn set n least most
pair_turn op.Refresh set n least most = as_refresh set n (establish_turn set n least most)
pair_turn op.Stop set n least most = stopping_turn set n least most

-- ---- refusals

or_none : (x : Option ℕ) → option_or x None ≡ x
or_none x = grind arith

-- the status of the places of both ends whose KEY_PROG this is
abbrev pair_status : PortView → Bool → ℕ → ℕ → ℕ → Option ℕ
pair_status ports set line stream n =
    first_status (λ p. if program_number false (is_host p.side) op.Establish (lane_number p) == n
    then ports.refusal p set else None) (places_of Host line stream ++ places_of Device line stream)

-- places of one line
abbrev AllOn : ℕ → List KeyPlace → Type 0
AllOn line [] = Unit {0}
AllOn line (p ∷ ps) = (p.line ≡ line) × AllOn line ps

first_same : (f g : KeyPlace → Option ℕ) (line : ℕ) (ps : List KeyPlace)
    → ((p : KeyPlace) → p.line ≡ line → f p ≡ g p) → AllOn line ps → first_status f ps ≡ first_status g ps
first_same f g line [] each all = refl
first_same f g line (p ∷ ps) each all = λ i. option_or (each p all.0 i) (first_same f g line ps each all.1 i)

told_all : (line stream : ℕ) → AllOn line (places_of Host line stream ++ places_of Device line stream)
told_all line stream =
    (refl, (refl, (refl, (refl, (refl, (refl, (refl, (refl, (refl, (refl, (refl, (refl, tt))))))))))))

abbrev refusal_at_program : PortView → Operation → Bool → ℕ → KeyPlace → Option ℕ
refusal_at_program ports o set n p = if program_exchange o p == n then ports.refusal p set else None

abbrev stated_pair : PortView → Bool → ℕ → KeyPlace → Option ℕ
stated_pair ports set n p =
    if program_number false (is_host p.side) op.Establish (lane_number p) == n then ports.refusal p set else None

number_same : (near : Bool) (o : Operation) (l : ℕ) → program_number false near o l
    ≡ program_number false near op.Establish l
number_same true o l = refl
number_same false o l = refl

same_stated : (ports : PortView) (o : Operation) (set : Bool) (line n : ℕ) → is_hosted line ≡ false → (p : KeyPlace)
    → p.line ≡ line → refusal_at_program ports o set n p ≡ stated_pair ports set n p
same_stated ports o set line n kind p same =
    let there : is_hosted p.line ≡ false = ap is_hosted same ∙ kind in
    rw (there, number_same (is_host p.side) o (lane_number p)) refl

pair_status_is : (ports : PortView) (o : Operation) (set : Bool) (line stream n : ℕ) → is_hosted line ≡ false
    → makes_draw o ≡ true → refusal_at ports o set line stream n ≡ pair_status ports set line stream n
pair_status_is ports op.Establish set line stream n kind draws =
    ap (λ (b : Bool). first_status (refusal_at_program ports op.Establish set n) (told_places b line stream)) kind
    ∙ first_same (refusal_at_program ports op.Establish set n) (stated_pair ports set n) line
    (places_of Host line stream ++ places_of Device line stream) (same_stated ports op.Establish set line n kind)
    (told_all line stream)
pair_status_is ports op.Refresh set line stream n kind draws =
    ap (λ (b : Bool). first_status (refusal_at_program ports op.Refresh set n) (told_places b line stream)) kind
    ∙ first_same (refusal_at_program ports op.Refresh set n) (stated_pair ports set n) line
    (places_of Host line stream ++ places_of Device line stream) (same_stated ports op.Refresh set line n kind)
    (told_all line stream)
pair_status_is ports op.Stop set line stream n kind draws = absurd cc

put_status : (ports : PortView) (set : Bool) (line stream : ℕ) (side : Side) (lane : ℕ) → lane < 6
    → pair_status ports set line stream (put_at side lane) ≡ ports.refusal (pair_place line stream side lane) set
put_status ports set line stream Host lane lt = by_lane
    (λ l. pair_status ports set line stream (put_at Host l) ≡ ports.refusal (pair_place line stream Host l) set)
    (or_none _) (or_none _) (or_none _) (or_none _) (or_none _) (or_none _) lane lt
put_status ports set line stream Device lane lt = by_lane
    (λ l. pair_status ports set line stream (put_at Device l) ≡ ports.refusal (pair_place line stream Device l) set)
    (or_none _) (or_none _) (or_none _) (or_none _) (or_none _) (or_none _) lane lt

go_status : (ports : PortView) (set : Bool) (line stream : ℕ) (side : Side) (lane : ℕ) → lane < 6
    → pair_status ports set line stream (goes_at side lane) ≡ None
go_status ports set line stream Host lane lt = by_lane
    (λ l. pair_status ports set line stream (goes_at Host l) ≡ None) refl refl refl refl refl refl lane lt
go_status ports set line stream Device lane lt = by_lane
    (λ l. pair_status ports set line stream (goes_at Device l) ≡ None) refl refl refl refl refl refl lane lt

-- only a KEY_PROG may be refused, by its lane's place
pub pair_put_refused : (ports : PortView) (o : Operation) (set : Bool) (line stream : ℕ) → is_hosted line ≡ false
    → makes_draw o ≡ true → (side : Side) (lane : ℕ) → lane < 6
    → refusal_at ports o set line stream (put_at side lane) ≡ ports.refusal (pair_place line stream side lane) set
pair_put_refused ports o set line stream kind draws side lane lt =
    pair_status_is ports o set line stream (put_at side lane) kind draws ∙ put_status ports set line stream side lane lt

pub pair_go_refused : (ports : PortView) (o : Operation) (set : Bool) (line stream : ℕ) → is_hosted line ≡ false
    → makes_draw o ≡ true → (side : Side) (lane : ℕ) → lane < 6
    → refusal_at ports o set line stream (goes_at side lane) ≡ None
pair_go_refused ports o set line stream kind draws side lane lt =
    pair_status_is ports o set line stream (goes_at side lane) kind draws ∙ go_status ports set line stream side lane lt
