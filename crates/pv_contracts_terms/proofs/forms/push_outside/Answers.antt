use Rattle.std.proofs.Common.{◌≡◌, ℤ, rules, subst}
use Rattle.std.specs.Int.{w128}
use Rattle.std.specs.Prelude.{FitsSigned, IfOk}
use Rattle.std.proofs.lemmas.Int.{to_z-of_z}
use Rattle.pv_flow.specs.Terms.{Term}
use Rattle.pv_terms.specs.Forms.{outside_term}
use Rattle.pv_terms.specs.Pushed.{IsTable, IsAt, Puts}
use Rattle.pv_contracts_terms.proofs.forms.push_outside.Goals as goal

both : (P : ℤ → ℤ → Type 0) (a b l h : ℤ) → a ≡ l → b ≡ h → P a b → P l h
both P a b l h e f p = subst (λ x. P l x) f (subst (λ x. P x b) e p)

pub returns : goal.returns
returns c =
    let low : FitsSigned w128 c.args.low = search rules in
    let high : FitsSigned w128 c.args.high = search rules in
    both (λ l h. (t : Term) → IsTable c.args.nodes.now.items → IsAt c.args.nodes.now.items c.args.a t → IfOk c.push_outside.result
    (λ n. Puts c.args.nodes.now.items c.push_outside.new.nodes.items n (outside_term t l h)))
    _ _ c.args.low c.args.high (to_z-of_z w128 c.args.low low) (to_z-of_z w128 c.args.high high) c.push_outside.ensures
