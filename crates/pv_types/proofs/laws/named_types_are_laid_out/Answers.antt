use Rattle.std.proofs.Common.{length}
use Rattle.pv_types.proofs.Grounded.{named_laid_out}
use Rattle.pv_types.proofs.laws.named_types_are_laid_out.Goals as goal

pub returns : goal.returns
returns c = λ types key path section. named_laid_out types (length types) key path section
