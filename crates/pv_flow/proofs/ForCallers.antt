-- What proofs of crates above cite.
pub use Rattle.pv_flow.proofs.Typing.{zero_fits, typed_value}
pub use Rattle.pv_flow.proofs.TypedRuns.{put_typed, IsSetWithin, sets_within, IsEdgeWithin, edges_are_within, set_over_typed, assigned_typed, IsTypedEnd, run_typed, automaton_typed}
pub use Rattle.pv_flow.proofs.Lawful.{Begins, begins_typed, machine_is_lawful, inlined_is_lawful, acyclic_is_lawful}
pub use Rattle.pv_flow.proofs.Steps.{more_steps, one_end, ArePaired, AreAlike, same_runs}
pub use Rattle.pv_flow.proofs.Untouched.{untouched}
pub use Rattle.pv_flow.proofs.CallEnds.{comes_to_one}
pub use Rattle.pv_flow.proofs.ClosedWalks.{closed_walk_turns}
pub use Rattle.pv_flow.proofs.RunEnds.{some_way, run_ends, acyclic_ends}
pub use Rattle.pv_flow.proofs.Depth.{deep, more_levels, needed_is}
pub use Rattle.pv_flow.proofs.CallRuns.{calls_end, calls_keep_types}
pub use Rattle.pv_flow.proofs.Keeping.{types_keep, inlined_keeps}
pub use Rattle.pv_flow.proofs.Beside.{calls_leave_others, entry_is_placed, callee_is_placed, own_variables_stay}
pub use Rattle.pv_flow.proofs.CallMachines.{one_machine_with_calls, inlined_machine_with_calls}
