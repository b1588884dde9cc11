-- What proofs of crates above take from here.
-- only functions have a value, by what spells blocks
pub use Rattle.pv_laws_spelled.proofs.Functions.{IsSo, blocks-so}
-- of blocks of sources: each address is one of a bit, a byte, a word or a double word, and tokens spell each instruction
pub use Rattle.pv_laws_spelled.proofs.Widths.{sources-short}
pub use Rattle.pv_laws_spelled.proofs.Instructions.{sources-spelled}
-- a text has no more blocks than bytes
pub use Rattle.pv_laws_spelled.proofs.Few.{text-few}
