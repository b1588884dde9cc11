-- What proofs of crates above take from here. What it says of scans is the law's own contract, in the words of `pv_laws_scans`.
pub use Rattle.pv_laws_scans.specs.Places.{StopsIn}
-- what holds of each place of tokens holds of each that a tree keeps, and of the parts that rules speak of
pub use Rattle.pv_laws_places.proofs.Spelled.{Stand, each-expr}
pub use Rattle.pv_laws_places.proofs.SpelledBlocks.{each-block}
pub use Rattle.pv_laws_places.proofs.Parts.{each-part, reads, operands}
pub use Rattle.pv_laws_places.proofs.Lists.{each-append, each-contained}
-- places that sources keep lie in their texts, and rules are broken at such
pub use Rattle.pv_laws_places.proofs.Tokens.{sources-lie}
pub use Rattle.pv_laws_places.proofs.Broken.{broken-at}
