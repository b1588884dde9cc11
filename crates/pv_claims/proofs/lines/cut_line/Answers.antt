use Rattle.std.proofs.Common.{sym, subst}
use Rattle.pv_claims.specs.Lines.{NoFeed}
use Rattle.pv_claims.proofs.LineLaws.{cut-at}
use Rattle.pv_claims.proofs.lines.cut_line.Goals as goal

pub returns-then-byte-eq10-clause-found : goal.returns-then-byte-eq10-clause-found
returns-then-byte-eq10-clause-found c = (
  subst NoFeed (sym c.split_at.ensures.front) c.loop-at.invariant,
  cut-at c.loop-at.at c.args.text.now c.split_at.result.0.now c.split_at-then-byte-eq10.result.1.now c.loop-at-test.true c.if-byte-eq10.true c.split_at.ensures.front c.split_at-then-byte-eq10.ensures.back,
)
