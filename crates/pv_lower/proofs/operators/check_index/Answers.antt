use Rattle.std.proofs.Common.{rules, to_z, of_z, refl, ap, ◌∙◌}
use Rattle.std.specs.Prelude.{FitsSigned}
use Rattle.std.specs.Int.{w128}
use Rattle.std.proofs.lemmas.Int.{to_z-of_z}
use Rattle.pv_place.specs.declared.trap.TrapKind.TheVariants.{Index}
use Rattle.pv_terms.specs.Forms.{outside_term}
use Rattle.pv_lower.proofs.Behind.{puts_say, one_check}
use Rattle.pv_lower.proofs.operators.check_index.Goals as goal

pub returns : goal.returns
returns c = λ t table at.
    let m = c.args.m.now in
    let low : FitsSigned w128 m.low = search rules in
    let high : FitsSigned w128 m.high = search rules in
    one_check _ _ c.args.checks.now.items c.push.new.self.items _ (record { term = outside_term t m.low m.high; kind = Index; place = c.args.place })
    c.in_ok-push.ensures.items refl refl
    (puts_say _ _ _ _ _
    (ap (λ l. outside_term t l (to_z w128 (of_z w128 m.high))) (to_z-of_z w128 m.low low) ∙ ap (outside_term t m.low) (to_z-of_z w128 m.high high))
    (c.in_ok-term.ensures t table at))
