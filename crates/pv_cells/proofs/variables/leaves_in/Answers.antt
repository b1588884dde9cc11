use Rattle.std.proofs.Common.{◌≡◌, ◌<◌, subst, length, IfOk, IsErrOf, List}
use Rattle.pv_types.specs.declared.fault.FlattenFault.TheVariants.{TooLarge}
use Rattle.pv_types.specs.declared.layout.TheConstants.{MAX_LEAVES}
use Rattle.pv_types.specs.Named.{types_of}
use Rattle.pv_types.specs.Tree.{VarTree}
use Rattle.pv_types.specs.Leaves.{leaves_of}
use Rattle.pv_cells.proofs.PlanParts.{alone}
use Rattle.pv_cells.proofs.variables.leaves_in.Goals as goal

pub returns-clause-leaves : goal.returns-clause-leaves
returns-clause-leaves c =
    subst (λ (vs : List VarTree). IfOk c.flatten.result (λ leaves. leaves ≡ leaves_of (types_of c.args.types.now) vs))
    (alone c.from_ref.result.now c.args.of.now c.from_ref.ensures.value) c.flatten.ensures.leaves

pub returns-clause-too_large : goal.returns-clause-too_large
returns-clause-too_large c =
    subst (λ (vs : List VarTree). IsErrOf c.flatten.result TooLarge → MAX_LEAVES < length (leaves_of (types_of c.args.types.now) vs))
    (alone c.from_ref.result.now c.args.of.now c.from_ref.ensures.value) c.flatten.ensures.too_large
