-- What proofs of crates above cite.
pub use Rattle.pv_bool_form.proofs.Cells.{IsFirstCell, first_cell, by_role, first_image_ranges, first_input_ranges}
pub use Rattle.pv_bool_form.proofs.FirstLaws.{cells_are, first_cells, scan_is_programs, start_is_programs, names_are_bits, scan_is_patterns, pattern_starts, patterns_name_bits}
pub use Rattle.pv_bool_form.proofs.Machines.{do_the_same, of_program}
