use Rattle.std.proofs.Common.{◌≡◌, ◌+◌, ◌-◌, ◌∷◌, [], ◌++◌, ℕ, List, sym, ap, subst, ◌∙◌, arith, Some}
use Rattle.std.specs.Prelude.{slice_get}
use Rattle.pv_log.specs.declared.line.Line.{Line}
use Rattle.pv_kind.proofs.Copies.{take_line}
use Rattle.pv_kind.proofs.copy.copied_log.Goals as goal

pub loop-n-preserved : goal.loop-n-preserved
loop-n-preserved g c =
    let all : List Line = g.L.LogView.all_lines c.args.from.now in
    let line : Line = c.in_ok-line_at.field-0 in
    let back : c.loop-n.n + 1 - 1 ≡ c.loop-n.n = omega arith in
    let at : slice_get all c.loop-n.n ≡ Some line = subst (λ (k : ℕ). slice_get all k ≡ Some line) back c.in_ok-line_at.ensures in
    record {
      log = c.in_ok-push.ensures.ok ∙ (ap (λ (lines : List Line). lines ++ line ∷ []) c.loop-n.invariant.log ∙ sym (take_line all c.loop-n.n line at));
    }
