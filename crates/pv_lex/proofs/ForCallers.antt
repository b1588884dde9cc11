-- What the proofs of crates above use of this crate: what is next is one, a text has one list of tokens or one first fault, its tokens
-- lie one behind the other, and a line feed parts the tokens of two texts.
pub use Rattle.pv_lex.proofs.Ones.{next-one, tokens-one, either-one, tokens-faultless, fault-one, tokens-lie, tokens-last}
pub use Rattle.pv_lex.proofs.Joins.{join-anywhere, join-tokens, join-behind, join-before}
