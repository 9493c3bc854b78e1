-- A pool of keys, and the draws from it (this profile).
use Rattle.std.specs.Prelude.{ℕ, ◌+◌, ◌*◌, ◌/◌, List, [], ◌∷◌, map, length, slice_index_or, nat_lt, Option, Some}
use Rattle.std.specs.Prelude.{Result, Ok, Err, if◌then◌else◌}
use Rattle.key_slots.specs.declared.pool.PoolEmpty.{PoolEmpty}

-- its keys, and how many draws were made
pub record Pool : Type 0 where
  pub keys : List (List ℕ)
  pub draws : ℕ

-- the key of a draw at a place: number 6 * draw + place of the pool
abbrev pub pool_key : List (List ℕ) → ℕ → ℕ → List ℕ
pool_key keys draw place = slice_index_or keys (6 * draw + place) []

-- the six keys of a draw, by place
abbrev pub six_keys : List (List ℕ) → ℕ → List (List ℕ)
six_keys keys draw =
    pool_key keys draw 0 ∷ pool_key keys draw 1 ∷ pool_key keys draw 2
    ∷ pool_key keys draw 3 ∷ pool_key keys draw 4 ∷ pool_key keys draw 5 ∷ []

-- how many draws the keys last for
abbrev pub draws_in : List (List ℕ) → ℕ
draws_in keys = length keys / 6

-- a pool from which nothing was drawn
abbrev pub new_pool : List (List ℕ) → Pool
new_pool keys = record { keys = keys; draws = 0 }

-- the six keys of one draw, with its number
pub record DrawnSix : Type 0 where
  pub draw : ℕ
  pub keys : List (List ℕ)

-- the next draw; if all were made, how many they are
abbrev pub next_draw_answer : Pool → Result DrawnSix PoolEmpty
next_draw_answer pool =
    if nat_lt pool.draws (draws_in pool.keys) then
    Ok (record { draw = pool.draws; keys = six_keys pool.keys pool.draws })
    else Err (record { draws = pool.draws })

abbrev pub pool_after : Pool → Pool
pool_after pool =
    if nat_lt pool.draws (draws_in pool.keys) then record { keys = pool.keys; draws = pool.draws + 1 } else pool

-- the six keys by the lanes of a near end, which receives direction 1 and sends direction 0
abbrev pub near_six : List (List ℕ) → List (List ℕ)
near_six keys =
    slice_index_or keys 3 [] ∷ slice_index_or keys 4 [] ∷ slice_index_or keys 5 []
    ∷ slice_index_or keys 0 [] ∷ slice_index_or keys 1 [] ∷ slice_index_or keys 2 [] ∷ []

-- the six keys of a draw, none of them spent
abbrev pub unspent_keys : List (List ℕ) → List (Option (List ℕ))
unspent_keys keys = map Some keys
