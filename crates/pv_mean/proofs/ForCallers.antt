-- What proofs of crates above cite.
pub use Rattle.pv_mean.proofs.Images.{length-image_after, length-start_image, within-start, within-begin, within-next}
pub use Rattle.pv_mean.proofs.CalledBlocks.{runs_such}
-- a table of the named types has each
pub use Rattle.pv_mean.proofs.TypeTables.{table_has_all}
-- the leaves of a declaration have its section
pub use Rattle.pv_mean.proofs.Tables.{AreOf, of-append, of-type, of-named}
-- bytes and values that are written elsewhere
pub use Rattle.pv_mean.proofs.Steps.{bytes-miss, write-misses}
-- how many cells variables that are declared at once have
pub use Rattle.pv_mean.proofs.LaidVariables.{among_from}
-- counted up to the bound, twice as once
pub use Rattle.pv_mean.proofs.Capping.{capped_twice}
-- what holds of a frame where each write and each call keeps it holds where statements and instructions end
pub use Rattle.pv_mean.proofs.Holding.{Writes, CallKeeps, then-holds, any-holds, end-holds, also-holds, holds-stmts}
pub use Rattle.pv_mean.proofs.Instructing.{any-instructions, holds-stl}
pub use Rattle.pv_mean.proofs.VisibleCells.{all-stmts}
-- a named type that nests is as large as its variables, and an instance of a block as those of its sections
pub use Rattle.pv_mean.proofs.Visits.{size_laid_out}
pub use Rattle.pv_mean.proofs.DataStarts.{instance_among}
