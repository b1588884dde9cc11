use Rattle.std.proofs.Common.{List, ap, sym, refl, ◌∙◌, Some}
use Rattle.pv_log.specs.declared.line.Line.{Line}
use Rattle.pv_solver.specs.Answers.{Problem, lines_of}
use Rattle.pv_kind.specs.Decisions.{problem_of, SpendsWords}
use Rattle.pv_kind.proofs.Answered.{is_posed, posed_region, adds}
use Rattle.pv_kind.proofs.ask.decided.Goals as goal

pub returns-in_ok-next-in-SpentRegion-clause-goes_on : goal.returns-in_ok-next-in-SpentRegion-clause-goes_on
returns-in_ok-next-in-SpentRegion-clause-goes_on g c =
    let e = g.O.Oracle.encoding (g.O.Oracle.fixed c.args.oracle.now) in
    let s = g.O.Oracle.stage c.args.oracle.now in
    let p = problem_of c.args.limits (e.variables s.chain c.args.q) (e.clauses s.chain c.args.q) in
    let solved = c.solve.new.self in
    let lines = lines_of solved.outcome in
    let need = c.in-SpentRegion.need in
    let next = c.in_ok-next-in-SpentRegion.next in
    let is = is_posed p c.args.solver.now c.set_lemmas.new.self solved c.requires.filled c.set_lemmas.ensures c.solve.ensures.problem in
    let spent = c.solve.ensures.spent_region need c.in-SpentRegion.is next
    (c.next.ensures ∙ ap Some (sym c.in_ok-next-in-SpentRegion.ensures)) in (
      refl,
      adds e s c.args.limits c.args.q (λ (x : Problem) (all : List Line). SpendsWords x all need (Some next)) c.args.proofs.now
          c.add_proof-in-SpentRegion.new.proofs lines c.in_ok-add_proof-in-SpentRegion.ensures.ok (posed_region p solved is lines next need spent),
      c.if-may_grow.false,
    )
