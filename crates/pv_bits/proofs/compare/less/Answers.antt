use Rattle.pv_bits.specs.Circuits.{less}
use Rattle.pv_bits.proofs.compare.less.Goals as goal

pub returns-then-signed-clause-built : goal.returns-then-signed-clause-built
unfolding less
returns-then-signed-clause-built c = rw c.if-signed.true c.less_signed.ensures.built

pub returns-else-signed-clause-built : goal.returns-else-signed-clause-built
unfolding less
returns-else-signed-clause-built c = rw c.if-signed.false c.less_unsigned.ensures.built
