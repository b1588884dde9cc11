use Rattle.std.proofs.Common.{arith}
use Rattle.pv_mean.specs.LaidOut as counted
use Rattle.pv_names.specs.Views.{held_tree}
use Rattle.pv_resolve.proofs.Beginning.{exact_laid}
use Rattle.pv_resolve.proofs.Nears.{not_beyond}
use Rattle.pv_resolve.proofs.laid.exact_one.Goals as goal

pub returns-clause-value : goal.returns-clause-value
returns-clause-value c = λ l e. exact_laid (counted.laid_tree c.args.found) l (held_tree c.level_of-ty.result) c.level_of-ty.ensures e (omega arith)

pub returns-then-found-ge-BEYOND-clause-near : goal.returns-then-found-ge-BEYOND-clause-near
returns-then-found-ge-BEYOND-clause-near c =
    λ l e near. absurd (not_beyond (counted.laid_tree c.args.found) l e near (omega arith))
