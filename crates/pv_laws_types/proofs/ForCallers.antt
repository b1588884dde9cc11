-- What proofs of crates above take from here.
-- values of expressions, and what is read, lie in their types
pub use Rattle.pv_laws_types.proofs.Valued.{PartsLie, ReadsLie, value_lies, widens_lies}
pub use Rattle.pv_laws_types.proofs.Assigned.{reads_lie, part_value_lies, assigned_lies}
-- what operands name is where the layout has it, of their type, step by step
pub use Rattle.pv_laws_types.proofs.Locating.{BeginsAs, IsConstant, Means, dated_means, behind_means}
pub use Rattle.pv_laws_types.proofs.Rooted.{root_means}
pub use Rattle.pv_laws_types.proofs.Tables.{Shows, among_counted, table_types, table_stands, found_in, block_named, data_laid_out}
pub use Rattle.pv_laws_types.proofs.Spotted.{typed_spot, read_lies}
-- the types of the cells of a declared type, and where its fields lie among them
pub use Rattle.pv_laws_types.proofs.CellTypes.{types_in, types_counted, types_among, leaf_types, but_constants, block_types, among_same}
pub use Rattle.pv_laws_types.proofs.Standing.{Nests, AreKnown, IsKnown, IsLaid, IsNothing, Both, name_known, block_known, field_both}
