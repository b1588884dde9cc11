-- What proofs of crates above cite.
-- what is laid out, from a first cell on and so many cells further
pub use Rattle.pv_resolve.proofs.Laying.{laid-shifted}
pub use Rattle.pv_resolve.proofs.Beginning.{laid_from, exact_number}
pub use Rattle.pv_resolve.proofs.Fields.{field-shifted, field_further}
-- what is laid out has its fields and elements within it, and so begin names in a block with room
pub use Rattle.pv_resolve.proofs.Rooms.{begins_field, ElementRoomy, element_roomy}
pub use Rattle.pv_resolve.proofs.Roots.{root_roomy}
pub use Rattle.pv_resolve.proofs.Nears.{part_roomy, part_begins, stride_beyond, declared_fits}
-- which literal an expression of the code is
pub use Rattle.pv_resolve.proofs.Fits.{lit_seen, no_lit}
-- what stops for want of memory stops so
pub use Rattle.pv_resolve.proofs.Fits.{failed}
-- 64 bits hold a value of a type
pub use Rattle.pv_resolve.proofs.Rooms.{holds_fits}
