-- What proofs on keys speak of.
pub use Rattle.spec_keys.specs.Terms.{SubKind, Side, Device, Host, Operation, Event, SealedPacket, Verdict, Cpl, Npr}
pub use Rattle.spec_keys.specs.Terms.{Pr, Loss, Lost, PortName, list_any, option_or, unwrap_or}
pub use Rattle.std.proofs.Common.{Bool, List, None, Option, Some, [], ap, arith, false, inl, inr, length, refl, subst}
pub use Rattle.std.proofs.Common.{suc, sym, true, zero, ℕ, ◌++◌, ◌+◌, ◌-◌, ◌<◌, ◌==◌, ◌∙◌, ◌∷◌, ◌≡◌, ◌≢◌, ◌≤◌, ◌⊎◌}
pub use Rattle.spec_keys.specs.Places.{KeyPlan, KeyPlace, is_on_stream, is_same_side, is_same_sub, lane, key_place_at}
pub use Rattle.spec_keys.specs.Places.{is_host, is_local, places_of, told_places, is_between_devices, is_line_reset}
pub use Rattle.spec_keys.specs.Places.{is_cleared}
pub use Rattle.ide_types.specs.Lines.{is_hosted}
pub use Rattle.spec_keys.specs.Operations.{Begun, Establishing, Idle, StreamOperations, StreamStage, Reach, Refreshing}
pub use Rattle.spec_keys.specs.Operations.{Stopping, Up, Work, begun_after_work, last_exchange_of, makes_draw}
pub use Rattle.spec_keys.specs.Operations.{manager_after, op_after_reach, op_ended, op_after_reset, op_at_exchange}
pub use Rattle.spec_keys.specs.Operations.{manager_after_operation, new_reach, reach_of, whole, new_work, work_of}
pub use Rattle.spec_keys.specs.History.{History, begins_keyed, begun_of_draw, touches_after, below_at, came, draws}
pub use Rattle.spec_keys.specs.History.{fails_there, from_at, go_exchange, has_all, has_key, keeps_live, is_sender}
pub use Rattle.spec_keys.specs.History.{is_number_between, keying_touches, place_keys, kept_draw, draw_on_at, on_it}
pub use Rattle.spec_keys.specs.History.{op_of, program_exchange, seal_touches, history_status, stop_exchange}
pub use Rattle.spec_keys.specs.History.{stopping_touches, touches, touches_if, work_touches}
pub use Rattle.ide_types.specs.Ports.{keyed_status}
unfoldable pub use Rattle.spec_keys.specs.History.{base, failed_there, manager, moments}
pub use Rattle.spec_keys.specs.Laws.{KeyCauseLaw, GoesKept, SetGoFindsKey, KeyPlaceFacts, NeverAgain, NeverFalls}
pub use Rattle.spec_keys.specs.Laws.{NoneAbove, OperationsSettle, SettledAt, StaysSecure, StaysSecureAtEvent}
pub use Rattle.spec_keys.specs.Laws.{KeysFollowOperations, UseFits, UsesFit, uses, StaysGone, has_gone, is_kept_there}
pub use Rattle.spec_keys.specs.Laws.{is_on_there, was_on, went}
pub use Rattle.std.specs.Prelude.{if◌then◌else◌, is_some, max, nat_le, nat_lt, not, ◌&&◌, ◌||◌}
pub use Rattle.spec_keys.specs.Keys.{Accept, Clear, Go, Keyed, Keys, Loaded, Off, On, Program, Seal, Stop, Touch}
pub use Rattle.spec_keys.specs.Keys.{is_live_draw, draw_of_keyed, key_in, sender_draw, live_draw_in, no_keys, on_in}
pub use Rattle.spec_keys.specs.Keys.{refusal_if, refuses}
pub use Rattle.spec_keys.specs.Keys.{without_outlived, slot_beside_other, slot_of, keys_after_touch}
unfoldable pub use Rattle.spec_keys.specs.Keys.{is_open, keys}
pub use Rattle.std.proofs.Math.Bool.{and-false, not-not}
pub use Rattle.std.proofs.lemmas.Bool.Decides.{nat_tests}
pub use Rattle.spec_keys.specs.Due.{PortView, begun_if_pool_has, cut_at, finished_verdict, establish_on, first_from}
pub use Rattle.spec_keys.specs.Due.{if_secure, is_live_sender, lost_message, operation_verdict, ports_at, refresh_on}
pub use Rattle.spec_keys.specs.Due.{refusal_at, stays, first_status, may_establish, may_refresh, stop_on, unless_open}
unfoldable pub use Rattle.spec_keys.specs.Due.{key_due}
