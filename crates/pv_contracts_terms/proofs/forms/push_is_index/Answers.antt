use Rattle.std.proofs.Common.{rules, subst}
use Rattle.std.specs.Int.{w128}
use Rattle.std.specs.Prelude.{FitsSigned, IfOk}
use Rattle.std.proofs.lemmas.Int.{to_z-of_z}
use Rattle.pv_flow.specs.Terms.{Term}
use Rattle.pv_terms.specs.Forms.{is_index_term}
use Rattle.pv_terms.specs.Pushed.{IsTable, IsAt, Puts}
use Rattle.pv_contracts_terms.proofs.forms.push_is_index.Goals as goal

pub returns : goal.returns
returns c =
    let fits : FitsSigned w128 c.args.v = search rules in
    subst (λ v. (t : Term) → IsTable c.args.nodes.now.items → IsAt c.args.nodes.now.items c.args.a t → IfOk c.push_is_index.result
    (λ n. Puts c.args.nodes.now.items c.push_is_index.new.nodes.items n (is_index_term t v)))
    (to_z-of_z w128 c.args.v fits) c.push_is_index.ensures
