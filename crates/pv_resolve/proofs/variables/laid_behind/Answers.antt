use Rattle.std.proofs.Common.{◌≡◌, option_map, subst, arith}
use Rattle.pv_mean.specs.Layout as layout
use Rattle.pv_mean.specs.LaidOut.{laid_tree, capped_laid}
use Rattle.pv_resolve.proofs.Tabling.{laid_moved, none_moved}
use Rattle.pv_resolve.proofs.variables.laid_behind.Goals as goal

pub returns-in-Some : goal.returns-in-Some
returns-in-Some c = λ project test vars key is.
    laid_moved project test vars key c.args.first _ (laid_tree c.in-Some.laid)
    (subst (λ o. option_map laid_tree o ≡ option_map capped_laid (layout.laid_among project test vars key 0)) c.in-Some.is is) (omega arith)

pub returns-in-None : goal.returns-in-None
returns-in-None c = λ project test vars key is.
    none_moved project test vars key c.args.first
    (subst (λ o. option_map laid_tree o ≡ option_map capped_laid (layout.laid_among project test vars key 0)) c.in-None.is is)
