-- What this crate offers to proofs above.
pub use Rattle.pv_claims.proofs.LineLaws.{all-append, all-behind, plain, feedless-append, feedless-decimal, head, tail, cut-one, onto, not-empty, no-feed, IsCut, cut-short, cut-lines, text-append, text-push, no-lines, text-more, text-first}
pub use Rattle.pv_claims.proofs.WordLaws.{cut-word, blankless-decimal}
pub use Rattle.pv_claims.proofs.PartLaws.{HasPart, IsPart, IsFree, IsOne, within, stops-within, one-free, one-then, many-plain, many-stuck, many-free, many-one, passed, at-none, at-some}
pub use Rattle.pv_claims.proofs.HeadLaws.{head-plain, head-one, one-claim, verdict-plain, verdict-zero}
pub use Rattle.pv_claims.proofs.TraceLaws.{trace-plain, one-trace, some-trace}
