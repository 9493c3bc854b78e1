pub mod Drawn
pub mod Draws
pub mod Slots
pub mod Calls
pub mod Wires
-- what clauses and crates above cite
pub use Rattle.ide_types.specs.declared.key_set.KeySet.{KeySet}
pub use Rattle.ide_types.specs.{is_one, key_set, set_number}
pub use Rattle.key_slots.specs.declared.pool.PoolEmpty.{PoolEmpty}
pub use Rattle.key_slots.specs.declared.slot.Slot.{Slot}
pub use Rattle.key_slots.specs.declared.slot.SlotState.{SlotState}
pub use Rattle.key_slots.specs.declared.slots.OnlyLive.{OnlyLive}
pub use Rattle.key_slots.specs.Calls.{KeyCall, Program, Go, Stop}
pub use Rattle.key_slots.specs.Drawn.{DrawnKey}
pub use Rattle.key_slots.specs.Draws.{Pool, DrawnSix, pool_key, six_keys, draws_in, new_pool, next_draw_answer}
pub use Rattle.key_slots.specs.Draws.{pool_after, unspent_keys, near_six}
pub use Rattle.key_slots.specs.Slots.{SlotPair, slot_in, with_both, empty_pair, slot_state, held_key, live_held}
pub use Rattle.key_slots.specs.Slots.{is_empty, live_draw, shown_key, is_newer_than, newer_live_set, live_set}
pub use Rattle.key_slots.specs.Slots.{is_last_live, is_only_live, program_answer, programmed_pair, after_go, armed_pair}
pub use Rattle.key_slots.specs.Slots.{live_if_armed, stopped_pair, after_end, ended_pair, is_live, is_armed, may_stand}
pub use Rattle.key_slots.specs.Slots.{is_sound}
