use Rattle.std.proofs.Common.{arith}
use Rattle.pv_sizes.proofs.laws.counting_keeps_the_limit.Goals as goal

pub returns : goal.returns
returns c n = (λ h. omega (arith, h), λ h. omega (arith, h))
