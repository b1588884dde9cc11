use Rattle.std.proofs.Common.{rules, arith, sym}
use Rattle.pv_word.proofs.BitLaws.{has_bits-along, has_bits-shr_of, shr_of-far}
use Rattle.pv_word.proofs.bits.shr.Goals as goal

pub returns-then-n-width-clause-bits : goal.returns-then-n-width-clause-bits
returns-then-n-width-clause-bits c = has_bits-along (has_bits-shr_of c.args.ty c.args.a c.args.n) (search rules)

pub returns-else-n-width-clause-value : goal.returns-else-n-width-clause-value
returns-else-n-width-clause-value c = sym (shr_of-far c.args.ty c.args.a c.args.n (omega arith))

pub returns-else-n-width-clause-bits : goal.returns-else-n-width-clause-bits
returns-else-n-width-clause-bits c = has_bits-along (has_bits-shr_of c.args.ty c.args.a c.args.n) (returns-else-n-width-clause-value c)
