-- What proofs of crates above cite.
pub use Rattle.pv_copies.proofs.Counting.{edges_are_counted, numbers_lead_forward}
pub use Rattle.pv_copies.proofs.Made.{unrolled_is_well_made}
pub use Rattle.pv_copies.proofs.SameMachine.{same_machine}
pub use Rattle.pv_copies.proofs.Whole.{copies_lead_to_copies, places_are_shifts, text_has_copies, text_has_places, text_is_long}
pub use Rattle.pv_copies.proofs.Nesting.{AreInOrder, AreOf, fitting, loops_in_order}
pub use Rattle.pv_copies.proofs.Whole.{firsts_stand, loops_of}
pub use Rattle.pv_copies.proofs.Forward.{ranges_of}
pub use Rattle.pv_copies.proofs.Leading.{IsLed, leads, mapped, all_listed, listed_at, at_some, turn_begins, turn_ends, no_turn_outside}
pub use Rattle.pv_copies.proofs.Nesting.{Side, before, here, behind, side, IsLater, later_first, apart_of, of_before, of_inside, of_behind, out_before, out_behind, in_here, held_low, held_high}
pub use Rattle.pv_copies.proofs.Picking.{before_copy, behind_copy, here_copy, apart_copy, copy_bounds, size_at, size_apart, place_before, place_behind, place_here, place_apart}
pub use Rattle.pv_copies.proofs.Shifts.{no_turns}
