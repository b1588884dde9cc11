use Rattle.std.proofs.Common.{rules, ◌++◌, ◌∷◌, [], ℤ, List, FitsSigned, pos, sym, ap, ◌∙◌, arith}
use Rattle.std.specs.Prelude.{slice_index_or}
use Rattle.std.specs.Int.{w128}
use Rattle.std.proofs.lemmas.Int.{to_z-of_z}
use Rattle.std.proofs.lemmas.List.{take_all}
use Rattle.pv_lift.proofs.Images.{take-more}
use Rattle.pv_lift.proofs.trace.copied.Goals as goal

pub loop-n-preserved : goal.loop-n-preserved
loop-n-preserved c =
    let l = c.loop-n in
    let value : ℤ = c.value_at.result in
    let fits : FitsSigned w128 value = search rules in
    c.in_ok-push.ensures.ok
    ∙ (ap (λ (v : ℤ). l.copy ++ v ∷ []) (to_z-of_z w128 value fits ∙ c.value_at.ensures)
    ∙ (ap (λ (vs : List ℤ). vs ++ slice_index_or c.args.values.now l.n (pos 0) ∷ []) l.invariant ∙ sym (take-more c.args.values.now l.n (omega arith))))

pub returns : goal.returns
returns c = c.loop-n.invariant ∙ take_all c.loop-n.n c.args.values.now (omega arith)
