-- What proofs on the states of streams speak of.
pub use Rattle.spec_keys.proofs.Terms.{Bool, List, None, Option, Some, [], ap, arith, false, length, refl, subst, sym}
pub use Rattle.spec_keys.proofs.Terms.{true, ℕ, ◌<◌, ◌==◌, ◌∙◌, ◌∷◌, ◌≡◌, ◌≢◌, ◌≤◌, KeyPlan, KeyPlace, is_on_stream}
pub use Rattle.spec_keys.proofs.Terms.{key_place_at, places_of, Keyed, Keys, On, Seal, Touch, draw_of_keyed, key_in}
pub use Rattle.spec_keys.proofs.Terms.{no_keys, on_in, without_outlived, keys_after_touch, History, begins_keyed}
pub use Rattle.spec_keys.proofs.Terms.{kept_draw, Go, StaysGone, has_gone, is_kept_there, is_on_there, was_on, not}
pub use Rattle.spec_keys.proofs.Terms.{touches_after, came, draws, fails_there, has_all, has_key, keeps_live}
pub use Rattle.spec_keys.proofs.Terms.{place_keys, draw_on_at, on_it, op_of, keyed_status, history_status, touches}
pub use Rattle.spec_keys.proofs.Terms.{work_touches, KeyCauseLaw, GoesKept, SetGoFindsKey, NeverAgain, OperationsSettle}
pub use Rattle.spec_keys.proofs.Terms.{SettledAt, StaysSecure, StaysSecureAtEvent, KeysFollowOperations, went}
pub use Rattle.spec_keys.proofs.Terms.{nat_tests, if◌then◌else◌, is_some, ◌&&◌, ◌||◌, Event, Loss, Operation, Verdict}
pub use Rattle.spec_keys.proofs.Terms.{Begun, Establishing, Idle, StreamOperations, StreamStage, Reach, Refreshing}
pub use Rattle.spec_keys.proofs.Terms.{Stopping, Up, Work, manager_after, op_after_reach, manager_after_operation}
pub use Rattle.spec_keys.proofs.Terms.{op_after_reset, reach_of, whole, work_of, PortView, establish_on, ports_at}
pub use Rattle.spec_keys.proofs.Terms.{refresh_on, finished_verdict, may_establish, may_refresh, unless_open, Host, ◌⊎◌}
pub use Rattle.spec_keys.proofs.Terms.{begun_after_work, makes_draw, is_hosted, is_cleared, PortName}
pub use Rattle.spec_keys.proofs.Performs.{is_cut, performed_is}
unfoldable pub use Rattle.spec_keys.proofs.Terms.{is_open, keys, base, failed_there, manager, moments, key_due}
pub use Rattle.spec_keys.proofs.Shapes.{Alone, IsAt, Marks, Shape, keys_of, marks}
unfoldable pub use Rattle.spec_keys.proofs.Shapes.{draws_started, draws_used}
pub use Rattle.spec_keys.proofs.Whole.{elsewhere, fits, next_fits}
pub use Rattle.spec_keys.proofs.Tests.{both-true, same-true}
pub use Rattle.spec_keys.proofs.Owners.{AllOwned, OwnedKeys, behind_owned, came_owned, cleared_owned, kept_owned}
pub use Rattle.spec_keys.proofs.Owners.{by_stream, worked_owned, owned_on, owner, same_place}
pub use Rattle.ide_types.specs.declared.status.StreamStatus.{StreamStatus}
pub use Rattle.spec_keys.proofs.Fits.{Fits, FitsAt, establish_begins, establish_ends, establish_goes_on}
pub use Rattle.spec_keys.proofs.Fits.{establish_takes, exchanges_establish, exchanges_refresh}
pub use Rattle.spec_keys.proofs.Stages.{Rising}
