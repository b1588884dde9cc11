use Rattle.std.proofs.Common.{◌≡◌, ◌<◌, true, false, ◌+◌, ◌∙◌, take, slice_index_or, arith, sym, length}
use Rattle.std.proofs.lemmas.Bool.{or_from, or_right, lt-ltb}
use Rattle.pv_cnf.specs.Literal.{variable_of}
use Rattle.pv_cnf.specs.Clause.{has_double, has_variable}
use Rattle.pv_cnf.proofs.Doubles.{has_double_more, has_double_taken, marks_more}
use Rattle.pv_cnf.proofs.check.mark.Goals as goal

pub loop-lit-preserved : goal.loop-lit-preserved
loop-lit-preserved c =
    let i = c.loop-lit.lit-index in
    let lits = c.args.lits.now in
    let lit = slice_index_or lits i 0 in
    let fits : variable_of lit < length c.loop-lit.marks = omega (arith, c.requires.marks i 0 c.loop-lit-test.true, c.loop-lit.auto.marks) in
    let unmarked : has_variable (variable_of lit) (take i lits) ≡ false = sym (c.loop-lit.invariant.marked (variable_of lit) false fits) ∙ c.if-marks-variable.false in
    record {
      count = omega (arith, c.loop-lit.invariant.count);
      distinct = has_double_more lits i 0 c.loop-lit-test.true ∙ or_from (has_double (take i lits)) (has_variable (variable_of lit) (take i lits)) c.loop-lit.invariant.distinct unmarked;
      marked = marks_more c.loop-lit.marks lits i 0 c.loop-lit-test.true fits c.loop-lit.invariant.marked;
    }

pub returns-then-marks-variable-clause-double : goal.returns-then-marks-variable-clause-double
returns-then-marks-variable-clause-double c =
    let i = c.loop-lit.lit-index in
    let lits = c.args.lits.now in
    let lit = slice_index_or lits i 0 in
    let fits : variable_of lit < length c.loop-lit.marks = omega (arith, c.requires.marks i 0 c.loop-lit-test.true, c.loop-lit.auto.marks) in
    let marked : has_variable (variable_of lit) (take i lits) ≡ true = sym (c.loop-lit.invariant.marked (variable_of lit) false fits) ∙ c.if-marks-variable.true in
    let double : has_double (take (i + 1) lits) ≡ true = has_double_more lits i 0 c.loop-lit-test.true ∙ or_right (has_double (take i lits)) (has_variable (variable_of lit) (take i lits)) marked in
    let below : c.loop-lit.done < length lits = omega (arith, c.loop-lit.invariant.count, c.loop-lit-test.true) in
    lt-ltb c.loop-lit.done (length lits) below ∙ sym (has_double_taken lits (i + 1) double)
