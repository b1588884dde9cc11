use Rattle.std.proofs.Common.{rules}
use Rattle.pv_word.proofs.BitLaws.{has_bits-along, has_bits-and_of}
use Rattle.pv_word.proofs.bits.and.Goals as goal

pub returns-clause-bits : goal.returns-clause-bits
returns-clause-bits c = has_bits-along (has_bits-and_of c.args.ty c.args.a c.args.b) (search rules)
