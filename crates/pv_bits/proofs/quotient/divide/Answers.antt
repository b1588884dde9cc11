use Rattle.pv_bits.specs.Circuits.{divide}
use Rattle.pv_bits.proofs.quotient.divide.Goals as goal

pub returns-then-signed-clause-built : goal.returns-then-signed-clause-built
unfolding divide
returns-then-signed-clause-built c = rw c.if-signed.true c.divide_signed.ensures.built

pub returns-else-signed-clause-built : goal.returns-else-signed-clause-built
unfolding divide
returns-else-signed-clause-built c = rw c.if-signed.false c.divide_unsigned.ensures.built
