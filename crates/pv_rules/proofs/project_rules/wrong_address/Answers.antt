use Rattle.pv_tree.specs.Rules.Addresses.{IsWrongAddress}
use Rattle.pv_rules_expr.specs.Nearest.{nearer_of}
use Rattle.pv_rules_expr.proofs.ForCallers.{nearest_is}
use Rattle.pv_rules.proofs.WholeRules.{address_all}
use Rattle.pv_rules.proofs.project_rules.wrong_address.Goals as goal

pub returns : goal.returns
returns c = λ project code values.
    let a = c.args.code.address in
    let b = c.args.values.indexes.address in
    nearest_is (IsWrongAddress project) c.nearer_of.result (nearer_of a b) c.nearer_of.ensures
    (address_all project a b code.address values.address)
