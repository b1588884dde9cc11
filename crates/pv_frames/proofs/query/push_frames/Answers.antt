use Rattle.std.proofs.Common.{arith, ◌≡◌, ◌+◌, ℕ, List, Option, length, All, sym, ◌∙◌, subst}
use Rattle.std.proofs.lemmas.Result.{err_from_is_err_and}
use Rattle.std.proofs.lemmas.Grind.{common_steps}
use Rattle.std.proofs.lemmas.List.{with_items_is}
use Rattle.pv_circuit.specs.Made.{circuit_seen}
use Rattle.pv_frames.specs.Queries.{query_clauses, frame_at}
use Rattle.pv_frames.specs.Tables.{IsBegin, IsTable}
use Rattle.pv_frames.proofs.Pushed.{pushes-ok, pushes-err}
use Rattle.pv_frames.proofs.QueryLists.{query-is}
use Rattle.pv_frames.proofs.Scanning.{table-first, stops-first}
use Rattle.pv_frames.proofs.query.push_frames.Goals as goal

pub returns-in_err-begins-clause-err : goal.returns-in_err-begins-clause-err
returns-in_err-begins-clause-err g c =
    let p = err_from_is_err_and c.from_residual.result c.from_residual.ensures.1 in
    rw (p.1, p.2) (stops-first (g.C.Clauses.overflow c.args.into.now) (g.C.Clauses.clauses c.args.into.now) _ _ _ (query-is (circuit_seen c.args.c.now) c.args.start.now c.args.query))

pub returns-in_err-given-clause-err : goal.returns-in_err-given-clause-err
returns-in_err-given-clause-err g c =
    let p = err_from_is_err_and c.from_residual-in_err-given.result c.from_residual-in_err-given.ensures.1 in
    rw (p.1, p.2) (stops-first (g.C.Clauses.overflow c.args.into.now) (g.C.Clauses.clauses c.args.into.now) _ _ _ (query-is (circuit_seen c.args.c.now) c.args.start.now c.args.query))

pub returns-in_err-goals-clause-err : goal.returns-in_err-goals-clause-err
returns-in_err-goals-clause-err g c =
    let p = err_from_is_err_and c.from_residual-in_err-goals.result c.from_residual-in_err-goals.ensures.1 in
    rw (p.1, p.2) (stops-first (g.C.Clauses.overflow c.args.into.now) (g.C.Clauses.clauses c.args.into.now) _ _ _ (query-is (circuit_seen c.args.c.now) c.args.start.now c.args.query))

pub returns-clause-ok : goal.returns-clause-ok
returns-clause-ok g c =
    pushes-ok (g.C.Clauses.overflow c.args.into.now) (g.C.Clauses.clauses c.args.into.now) (query_clauses (circuit_seen c.args.c.now) c.args.start.now c.args.query) (g.C.Clauses.clauses c.push_laid.new.into) c.push_laid.result c.push_laid.ensures.pushes

pub returns-clause-err : goal.returns-clause-err
returns-clause-err g c =
    pushes-err (g.C.Clauses.overflow c.args.into.now) (g.C.Clauses.clauses c.args.into.now) (query_clauses (circuit_seen c.args.c.now) c.args.start.now c.args.query) (g.C.Clauses.clauses c.push_laid.new.into) c.push_laid.result c.push_laid.ensures.pushes

pub push_laid-requires-clause-table : goal.push_laid-requires-clause-table
push_laid-requires-clause-table g c =
    let long : length c.lay-gates.new.begins ≡ length c.args.c.now.state_in.items + length c.args.c.now.input.items =
    omega (arith, c.lay-gates.ensures.long, c.in_ok-begins.ensures.len, c.len.ensures, c.len-2.ensures) in
    let back : c.deref_mut-2.result.now ≡ c.lay-gates.new.begins =
    c.deref_mut-2.ensures.value ∙ with_items_is c.in_ok-begins.begins c.lay-gates.new.begins (grind (arith, common_steps, c.lay-gates.ensures.long, c.deref_mut.ensures.len)) in
    subst (λ (bs : List (Option ℕ)). IsTable (circuit_seen c.args.c.now) bs c.lay-gates.result (frame_at (circuit_seen c.args.c.now) c.args.start.now c.args.query 0)) (sym back)
    (table-first (circuit_seen c.args.c.now) c.args.start.now c.args.query c.deref.result.now _ c.lay-gates.new.begins c.lay-gates.result _
    (c.deref-2.ensures.value ∙ c.in_ok-given.ensures) (subst (λ (n : ℕ). All (IsBegin n) c.args.c.now.state_in.items) (sym long) c.fit.ensures.begins)
    (omega (arith, long, c.fit.ensures.inputs)) c.deref.ensures.value c.lay-gates.ensures.long c.lay-gates.ensures.laid c.lay-gates.ensures.next)
