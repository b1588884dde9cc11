use Rattle.std.proofs.Common.{ℕ, List, subst}
use Rattle.pv_circuit.specs.declared.start.Start.{Start}
use Rattle.pv_frames.specs.Pushing.{Pushes}
use Rattle.pv_frames.specs.Queries.{query_clauses}
use Rattle.pv_queries.specs.Built.{circuit_of}
use Rattle.pv_queries.proofs.Fitting.{pushes-by}
use Rattle.pv_queries.proofs.built.Built.push.Goals as goal

pub returns-clause-pushes : goal.returns-clause-pushes
returns-clause-pushes g c =
    let f = g.C.Clauses.overflow c.args.into.now in
    let old : List (List ℕ) = g.C.Clauses.clauses c.args.into.now in
    let new : List (List ℕ) = g.C.Clauses.clauses c.push_frames.new.into in
    subst (λ (start : List Start). Pushes f old (query_clauses (circuit_of c.args.self.now) start c.args.query) new c.push_frames.result) c.as_slice.ensures
    (pushes-by f old (query_clauses (circuit_of c.args.self.now) c.as_slice.result.now c.args.query) new c.push_frames.result
    c.push_frames.ensures.ok c.push_frames.ensures.err)
