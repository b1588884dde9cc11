use Rattle.std.proofs.Common.{ℕ, ◌++◌, ◌∷◌, [], List, get_or, take, sym, ◌∙◌, ap, refl}
use Rattle.std.proofs.lemmas.Bool.{or_right}
use Rattle.std.proofs.lemmas.List.{take_more}
use Rattle.pv_cnf.specs.Clause.{has_outside, has_double}
use Rattle.pv_log.proofs.AssumeLaws.{doubled, doubled_complement, undoubled, not-outside}
use Rattle.pv_log.proofs.Literals.{outside-push}
use Rattle.pv_log.proofs.follow.assume.Goals as goal
use Rattle.pv_log.proofs.follow.assume.Goals.{then-is_false-via-then-is_false, then-is_false-via-else-is_false+then-is_false-2}

pub returns-then-is_false-clause-tautology : goal.returns-then-is_false-clause-tautology
returns-then-is_false-clause-tautology c = (
  refl,
  or_right (has_outside c.args.variables c.args.lits.now) (has_double c.args.lits.now) (elim c.then-is_false.branch [
    | then-is_false-via-then-is_false w ↦ doubled c.args.lits.now c.loop-lit.lit-index c.loop-lit.values.falses c.loop-lit-test.true c.loop-lit.invariant.falses (sym c.is_false.ensures ∙ w.if-is_false.true)
    | then-is_false-via-else-is_false+then-is_false-2 w ↦ doubled_complement c.args.lits.now c.loop-lit.lit-index c.loop-lit.values.falses w.flip.result c.loop-lit-test.true c.loop-lit.invariant.falses w.flip.ensures.complement (sym w.is_false-else-is_false.ensures ∙ w.if-is_false-2.true)
  ]),
)

pub loop-lit-preserved : goal.loop-lit-preserved
loop-lit-preserved c =
    let more = take_more c.args.lits.now c.loop-lit.lit-index 0 c.loop-lit-test.true in
    record {
      same = c.make_false.ensures.variables ∙ c.loop-lit.invariant.same;
      falses = c.make_false.ensures.falses ∙ ap (λ (xs : List ℕ). xs ++ get_or c.args.lits.now c.loop-lit.lit-index 0 ∷ []) c.loop-lit.invariant.falses ∙ sym more;
      inside = ap (has_outside c.args.variables) more ∙ outside-push c.args.variables (take c.loop-lit.lit-index c.args.lits.now) (get_or c.args.lits.now c.loop-lit.lit-index 0) c.loop-lit.invariant.inside (not-outside c.args.variables (get_or c.args.lits.now c.loop-lit.lit-index 0) c.if-variable-eq0.false c.if-variable-variables.false);
      distinct = ap has_double more ∙ undoubled c.args.lits.now c.loop-lit.lit-index c.loop-lit.values.falses c.flip.result c.loop-lit.invariant.falses c.loop-lit.invariant.distinct c.flip.ensures.complement (sym c.is_false.ensures ∙ c.if-is_false.false) (sym c.is_false-else-is_false.ensures ∙ c.if-is_false-2.false);
    }
