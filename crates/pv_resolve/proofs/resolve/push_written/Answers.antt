use Rattle.std.proofs.Common.{◌∙◌, rules}
use Rattle.std.specs.Prelude.{FitsSigned}
use Rattle.std.specs.Int.{w64}
use Rattle.std.proofs.lemmas.Int.{to_z-of_z}
use Rattle.std.proofs.lemmas.Bool.{false≢true}
use Rattle.pv_resolve.proofs.Fits.{failed}
use Rattle.pv_resolve.proofs.resolve.push_written.Goals as goal

pub returns-clause-means : goal.returns-clause-means
returns-clause-means c =
    let fits : FitsSigned w64 c.in_ok-v.v = search rules in
    λ source block e is. c.in_ok-node.ensures.means source block e _ is (to_z-of_z w64 c.in_ok-v.v fits ∙ c.in_ok-v.ensures.value)

pub returns-clause-sort : goal.returns-clause-sort
returns-clause-sort c =
    c.sort_of_written-sort.ensures

pub returns-in_err-v-clause-memory : goal.returns-in_err-v-clause-memory
returns-in_err-v-clause-memory c =
    λ h. absurd (false≢true (c.in_err-v.ensures.fits h))

pub returns-in_err-node-clause-memory : goal.returns-in_err-node-clause-memory
returns-in_err-node-clause-memory c =
    λ h. failed _ _ c.from_residual-in_err-node.ensures.1 c.in_err-node.ensures.memory
