use Rattle.std.proofs.Common.{arith, ◌≡◌, ◌+◌, ◌*◌, ℕ, suc, List, length, sym, ◌∙◌, ap, subst, mul-le-mul, length-append}
use Rattle.std.specs.List.{flat_map}
use Rattle.std.proofs.lemmas.List.{length-set}
use Rattle.std.proofs.lemmas.Result.{err_from_is_err_and}
use Rattle.pv_gate.specs.Node.{gate_count}
use Rattle.pv_cnf.specs.Clause.{AreClauses}
use Rattle.pv_circuit.specs.Made.{circuit_seen}
use Rattle.pv_frames.specs.Frames.{frame_clauses}
use Rattle.pv_frames.specs.Formulas.{written}
use Rattle.pv_frames.specs.Queries.{frame_count, table, asked_in}
use Rattle.pv_frames.specs.Pushing.{ArePushed, StopsAt}
use Rattle.pv_frames.specs.Tables.{table_frame, gate_clauses}
use Rattle.pv_frames.specs.declared.short.Short.TheVariants.{One}
use Rattle.pv_frames.proofs.Agreeing.{frames-agree}
use Rattle.pv_frames.proofs.FromCircuit.{few-frames}
use Rattle.pv_frames.proofs.Pushed.{pushed_more, stops_within}
use Rattle.pv_frames.proofs.QueryLists.{frame-clauses-valid, gates-few}
use Rattle.pv_frames.proofs.Scanning.{goals-more, goal-is, gates-around}
use Rattle.pv_frames.proofs.query.push_scans.Goals as goal

pub push_frame-requires-clause-valid : goal.push_frame-requires-clause-valid
push_frame-requires-clause-valid g c =
    let seen = circuit_seen c.args.c.now in
    let nodes = c.args.c.now.gates.nodes in
    let f = table_frame c.loop-j.begins c.loop-j.gates in
    let v = g.C.Clauses.variables c.args.into.now in
    let same = frames-agree f (table seen c.args.start.now c.args.query c.loop-j.j) nodes c.requires.fit.netlist c.loop-j.invariant.table.same in
    subst (λ (n : ℕ). AreClauses n (flat_map written (frame_clauses f 1 nodes))) (sym c.loop-j.invariant.variables)
    (subst (λ (cs : List (List ℕ)). AreClauses v (flat_map written cs)) (sym same)
    (frame-clauses-valid seen c.args.start.now c.args.query v c.loop-j.j c.requires.fit c.requires.variables
    (omega (arith, c.loop-j-test.true, c.requires.goals))))

pub push_frame-requires-clause-room : goal.push_frame-requires-clause-room
push_frame-requires-clause-room g c =
    let seen = circuit_seen c.args.c.now in
    let few = gates-few seen c.args.start.now c.args.query c.loop-j.j in
    let frames = few-frames c.args.query c.requires.query in
    let most = mul-le-mul {n₁ = c.loop-j.j} {m₁ = 4 * gate_count c.args.c.now.gates.nodes} {n₂ = 64} {m₂ = 40000000}
    (omega (arith, c.loop-j-test.true, c.requires.goals, frames)) (omega (arith, c.requires.few_gates)) in
    omega (
      arith,
      c.requires.room,
      c.requires.few_gates,
      ap (λ (t : List (List ℕ)). length t) c.loop-j.invariant.pushed.stand,
      length-append (g.C.Clauses.clauses c.args.into.now) (gate_clauses seen c.args.start.now c.args.query c.loop-j.j),
      few,
      most,
    )

pub returns-in_err-push_frame-clause-pushes : goal.returns-in_err-push_frame-clause-pushes
returns-in_err-push_frame-clause-pushes g c =
    let p = err_from_is_err_and c.from_residual.result c.from_residual.ensures.1 in
    let seen = circuit_seen c.args.c.now in
    let nodes = c.args.c.now.gates.nodes in
    let j = c.loop-j.j in
    let f = table_frame c.loop-j.begins c.loop-j.gates in
    let same = frames-agree f (table seen c.args.start.now c.args.query j) nodes c.requires.fit.netlist c.loop-j.invariant.table.same in
    let around = gates-around seen c.args.start.now c.args.query j (frame_count c.args.query) (omega (arith, c.loop-j-test.true, c.requires.goals)) in
    rw (p.1, p.2)
    (subst (λ (t : List (List ℕ)). StopsAt (g.C.Clauses.overflow c.args.into.now) (g.C.Clauses.clauses c.args.into.now) t (g.C.Clauses.clauses c.push_frame.new.into) c.in_err-push_frame.field-0.0)
    (sym around.1)
    (stops_within (g.C.Clauses.overflow c.args.into.now) (g.C.Clauses.overflow c.loop-j.into) (g.C.Clauses.clauses c.args.into.now) (g.C.Clauses.clauses c.loop-j.into) (g.C.Clauses.clauses c.push_frame.new.into)
    (gate_clauses seen c.args.start.now c.args.query j) (flat_map written (frame_clauses (table seen c.args.start.now c.args.query j) 1 nodes)) around.0
    c.in_err-push_frame.field-0.0 c.loop-j.invariant.overflow c.loop-j.invariant.pushed
    (subst (λ (cs : List (List ℕ)). StopsAt (g.C.Clauses.overflow c.loop-j.into) (g.C.Clauses.clauses c.loop-j.into) (flat_map written cs) (g.C.Clauses.clauses c.push_frame.new.into) c.in_err-push_frame.field-0.0)
    same c.in_err-push_frame.ensures.pushes)))

pub next_table-gates-requires-clause-few : goal.next_table-gates-requires-clause-few
next_table-gates-requires-clause-few g c =
    omega (arith, c.requires.fit.few c.loop-j.j (omega (arith, c.loop-j-test.true, c.requires.goals)), c.loop-j.invariant.table.next)

pub loop-j-preserved : goal.loop-j-preserved
loop-j-preserved g c =
    let seen = circuit_seen c.args.c.now in
    let nodes = c.args.c.now.gates.nodes in
    let j = c.loop-j.j in
    let f = table_frame c.loop-j.begins c.loop-j.gates in
    let same = frames-agree f (table seen c.args.start.now c.args.query j) nodes c.requires.fit.netlist c.loop-j.invariant.table.same in
    let next : suc j ≡ j + 1 = omega arith in
    record {
      pushed = subst (λ (n : ℕ). ArePushed (g.C.Clauses.overflow c.args.into.now) (g.C.Clauses.clauses c.args.into.now) (gate_clauses seen c.args.start.now c.args.query n) (g.C.Clauses.clauses c.push_frame.new.into)) next
          (pushed_more (g.C.Clauses.overflow c.args.into.now) (g.C.Clauses.overflow c.loop-j.into) (g.C.Clauses.clauses c.args.into.now) (g.C.Clauses.clauses c.loop-j.into) (g.C.Clauses.clauses c.push_frame.new.into)
          (gate_clauses seen c.args.start.now c.args.query j) (flat_map written (frame_clauses (table seen c.args.start.now c.args.query j) 1 nodes))
          c.loop-j.invariant.overflow c.loop-j.invariant.pushed
          (subst (λ (cs : List (List ℕ)). ArePushed (g.C.Clauses.overflow c.loop-j.into) (g.C.Clauses.clauses c.loop-j.into) (flat_map written cs) (g.C.Clauses.clauses c.push_frame.new.into))
          same c.in_ok-push_frame.ensures.pushes));
      goals = goals-more (asked_in seen c.args.start.now c.args.query) c.loop-j.goals j c.goal.result (omega (arith, c.loop-j-test.true, c.loop-j.invariant.long_goals))
          (c.goal.ensures ∙ ap (λ (lit : ℕ). One lit) (goal-is seen c.args.start.now c.args.query f j (length c.loop-j.goals) c.loop-j.invariant.table.same
          c.requires.fit.ok c.requires.fit.fail (c.loop-j.invariant.long_goals ∙ c.requires.goals)))
          c.loop-j.invariant.goals;
      table = c.next_table-gates.ensures.next c.args.query j c.loop-j.invariant.table;
      long_goals = length-set c.loop-j.goals _ _ ∙ c.loop-j.invariant.long_goals;
      long_begins = c.next_table-gates.ensures.long_begins ∙ c.loop-j.invariant.long_begins;
      long_given = c.next_table-gates.ensures.long_given ∙ c.loop-j.invariant.long_given;
      variables = c.push_frame.ensures.variables_kept ∙ c.loop-j.invariant.variables;
      takes = c.push_frame.ensures.takes_kept ∙ c.loop-j.invariant.takes;
      overflow = (λ all. c.push_frame.ensures.overflow_kept all ∙ c.loop-j.invariant.overflow all);
    }
