-- What proofs of crates above cite.
pub use Rattle.pv_call_copies.proofs.Renaming.{value_renamed, holds_renamed, assigned_renamed, resets_clear}
pub use Rattle.pv_call_copies.proofs.Nesting.{calls_are_nests}
pub use Rattle.pv_call_copies.proofs.Levels.{IsCalled, IsStep, through_is, size_is, added_is, span_is, found_called, drawn_below_alike, drawn_is}
pub use Rattle.pv_call_copies.proofs.Edges.{outs_of, outs_long, there_of, sound_at, copy_long, edges_are_counted}
pub use Rattle.pv_call_copies.proofs.Rooms.{call_fits, IsPlaced, HasRoom, entry_room, callee_room}
pub use Rattle.pv_call_copies.proofs.Placing.{behind_append, edges_append, traps_append, overs_append}
pub use Rattle.pv_call_copies.proofs.Variables.{variables_stay}
pub use Rattle.pv_call_copies.proofs.Made.{inlined_is_well_made}
pub use Rattle.pv_call_copies.proofs.Copying.{nests_are_copies, calls_are_copies, copies_are_calls}
pub use Rattle.pv_call_copies.proofs.Machine.{inlined_has_the_machine}
