-- What proofs of crates above cite.
pub use Rattle.pv_stretch.proofs.Stretching.{is_stretch, told_first, first_told}
pub use Rattle.pv_stretch.proofs.Queries.{from_start, from_image, from_state, step_is, fails_is}
