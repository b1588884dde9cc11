use Rattle.std.proofs.Common.{rules}
use Rattle.pv_word.proofs.BitLaws.{has_bits-along, has_bits-xor_of}
use Rattle.pv_word.proofs.bits.xor.Goals as goal

pub returns-clause-bits : goal.returns-clause-bits
returns-clause-bits c = has_bits-along (has_bits-xor_of c.args.ty c.args.a c.args.b) (search rules)
