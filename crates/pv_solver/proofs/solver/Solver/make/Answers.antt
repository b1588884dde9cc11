use Rattle.std.proofs.Common.{None, ap}
use Rattle.pv_solver.specs.Answers.{Problem}
use Rattle.pv_solver.proofs.Endings.{small-made, blank-made, err-as}
use Rattle.pv_solver.proofs.solver.Solver.make.Goals as goal

pub invariant_of-result : goal.invariant_of-result
invariant_of-result c = record {
  small = small-made c.in-Ok.search c.args.variables c.args.words c.args.lemmas c.in-Ok.ensures.problem c.in-Ok.ensures.small;
  blank = blank-made c.in-Ok.search c.args.variables c.args.words c.args.lemmas c.in-Ok.ensures.problem c.in_ok-blank.blank c.in_ok-blank.ensures;
  kept = c.in-Ok.ensures.fresh;
}

pub returns-clause-ok : goal.returns-clause-ok
returns-clause-ok c = ap (λ (p : Problem). record { problem = p; outcome = None }) c.in-Ok.ensures.problem

pub returns-in-Err-clause-full : goal.returns-in-Err-clause-full
returns-in-Err-clause-full c = λ need is. c.in-Err.ensures.full need (err-as _ _ is)

pub returns-clause-fits : goal.returns-clause-fits
returns-clause-fits c = c.in-Ok.ensures.fits
