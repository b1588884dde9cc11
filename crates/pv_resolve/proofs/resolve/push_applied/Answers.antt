use Rattle.std.proofs.Common.{sym, subst, ◌∙◌}
use Rattle.pv_resolve.specs.Functions.{AreArguments}
use Rattle.pv_resolve.proofs.FormLaws.{grows_twice}
use Rattle.pv_resolve.proofs.Fits.{failed}
use Rattle.pv_resolve.proofs.resolve.push_applied.Goals as goal

pub returns-clause-grows : goal.returns-clause-grows
returns-clause-grows c =
    grows_twice _ _ _ c.in_ok-pad.ensures.grows c.in_ok-node.ensures.grows

pub returns-clause-means : goal.returns-clause-means
returns-clause-means c =
    λ source block base e at args e_is own a. c.in_ok-node.ensures.means source block base e at args e_is
    (c.type_of_sort-ty.ensures ∙ own)
    (subst (λ ns. AreArguments source block base c.pad.new.nodes.items ns args) (sym c.as_slice.ensures.value)
    (c.in_ok-pad.ensures.args source block base args a))

pub returns-in_err-pad-clause-memory : goal.returns-in_err-pad-clause-memory
returns-in_err-pad-clause-memory c =
    failed _ _ c.from_residual.ensures.1 c.in_err-pad.ensures.memory

pub returns-in_err-node-clause-memory : goal.returns-in_err-node-clause-memory
returns-in_err-node-clause-memory c =
    failed _ _ c.from_residual-in_err-node.ensures.1 c.in_err-node.ensures.memory
