use Rattle.std.proofs.Common.{rules, subst}
use Rattle.std.specs.Int.{w128}
use Rattle.std.specs.Prelude.{FitsSigned, IfOk}
use Rattle.std.proofs.lemmas.Int.{to_z-of_z}
use Rattle.pv_flow.specs.Terms.{constant}
use Rattle.pv_terms.specs.Pushed.{IsTable, Puts}
use Rattle.pv_contracts_terms.proofs.nodes.push_constant.Goals as goal

pub returns : goal.returns
returns c =
    let fits : FitsSigned w128 c.args.v = search rules in
    subst (λ v. IsTable c.args.nodes.now.items → IfOk c.push_constant.result
    (λ n. Puts c.args.nodes.now.items c.push_constant.new.nodes.items n (constant c.args.ty v)))
    (to_z-of_z w128 c.args.v fits) c.push_constant.ensures
