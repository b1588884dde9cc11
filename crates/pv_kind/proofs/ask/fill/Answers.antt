use Rattle.std.proofs.Common.{subst}
use Rattle.pv_cnf.specs.declared.clauses.PushFault.{PushFault}
use Rattle.pv_frames.specs.Pushing.{StopsAt}
use Rattle.pv_kind.specs.Decisions.{problem_of}
use Rattle.pv_kind.proofs.Filling.{overflow_of, stopped}
use Rattle.pv_kind.proofs.ask.fill.Goals as goal

pub returns-in-Err-Full-clause-fills : goal.returns-in-Err-Full-clause-fills
returns-in-Err-Full-clause-fills g c =
    let e = g.O.Oracle.encoding (g.O.Oracle.fixed c.args.oracle.now) in
    let chain = (g.O.Oracle.stage c.args.oracle.now).chain in
    let p = problem_of c.args.limits (e.variables chain c.args.q) (e.clauses chain c.args.q) in
    stopped p c.args.solver.now c.push.new.into.problem.clauses c.in-Err-Full.need c.requires.made c.requires.fit
    (subst (λ (fault : PushFault). StopsAt (overflow_of c.args.solver.now) c.args.solver.now.problem.clauses p.clauses c.push.new.into.problem.clauses fault)
    c.in-Err-Full.field-0-is c.in-Err-Full.ensures.pushes)
