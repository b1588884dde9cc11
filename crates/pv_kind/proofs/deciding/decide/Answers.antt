use Rattle.pv_kind.proofs.Rounds.{in_few}
use Rattle.pv_kind.proofs.Complete.{finds}
use Rattle.pv_kind.proofs.deciding.decide.Goals as goal

pub returns-in-Ok-clause-finds : goal.returns-in-Ok-clause-finds
returns-in-Ok-clause-finds g c =
    let f = g.O.Oracle.fixed c.args.oracle.now in
    finds (g.O.Source.Machine.machine (g.O.Oracle.source f)) (g.O.Oracle.encoding f) (g.O.Oracle.stage c.args.oracle.now) (g.O.Oracle.stage c.go.new.oracle)
    c.args.limits.now (g.met.O.Oracle.sound c.args.oracle.now).shown c.go.new.proofs c.in-Ok.end c.in-Ok.ensures.decides

pub returns-in-Ok-clause-refined : goal.returns-in-Ok-clause-refined
returns-in-Ok-clause-refined g c =
    in_few (g.O.Oracle.encoding (g.O.Oracle.fixed c.args.oracle.now)).tells (g.O.Oracle.stage c.args.oracle.now) (g.O.Oracle.stage c.go.new.oracle) c.go.ensures.refined

pub returns-in-Err-clause-refined : goal.returns-in-Err-clause-refined
returns-in-Err-clause-refined g c =
    in_few (g.O.Oracle.encoding (g.O.Oracle.fixed c.args.oracle.now)).tells (g.O.Oracle.stage c.args.oracle.now) (g.O.Oracle.stage c.go.new.oracle) c.go.ensures.refined
