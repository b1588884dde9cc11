use Rattle.std.proofs.Common.{◌≡◌, ◌+◌, ◌-◌, ◌++◌, List, ℕ, suc, take, drop, length, Some, slice_get, sym, ◌∙◌, ap, subst, arith, length-append}
use Rattle.std.specs.List.{flat_map}
use Rattle.std.proofs.lemmas.Result.{err_from_is_err_and}
use Rattle.pv_cnf.specs.Clause.{AreClauses}
use Rattle.pv_frames.specs.Frames.{node_clauses, frame_clauses}
use Rattle.pv_frames.specs.Tables.{table_frame}
use Rattle.pv_frames.specs.Formulas.{written}
use Rattle.pv_frames.specs.Pushing.{ArePushed, StopsAt}
use Rattle.pv_frames.specs.Short.{clauses_of}
use Rattle.pv_frames.proofs.FrameLists.{written-few, gates-taken, written-more, written-around}
use Rattle.pv_frames.proofs.Lists.{clauses-left, clauses-right}
use Rattle.pv_frames.proofs.Pushed.{pushed_more, stops_within}
use Rattle.pv_frames.proofs.query.push_frame.Goals as goal

pub push_all-requires-clause-valid : goal.push_all-requires-clause-valid
push_all-requires-clause-valid g c =
    let nodes = c.args.circuit.now.nodes in
    let f = table_frame c.args.begins.now c.args.gates in
    let back : c.loop-k.k + 1 - 1 ≡ c.loop-k.k = omega arith in
    let at : slice_get nodes c.loop-k.k ≡ Some c.node.result = ap (λ (k : ℕ). slice_get nodes k) (sym back) ∙ c.node.ensures.node in
    let e : 1 + c.loop-k.k ≡ c.loop-k.k + 1 = omega arith in
    let here = flat_map written (node_clauses f (1 + c.loop-k.k) c.node.result) in
    let behind = flat_map written (frame_clauses f (suc (1 + c.loop-k.k)) (drop (suc c.loop-k.k) nodes)) in
    let v = g.C.Clauses.variables c.args.into.now in
    let all = subst (AreClauses v) (written-around f 1 nodes c.loop-k.k c.node.result at) c.requires.valid in
    let one = clauses-left v here behind (clauses-right v (flat_map written (frame_clauses f 1 (take c.loop-k.k nodes))) (here ++ behind) all) in
    subst (λ (n : ℕ). AreClauses n (flat_map clauses_of c.clauses_in.result)) (sym c.loop-k.invariant.variables)
    (subst (AreClauses v) {x = flat_map written (node_clauses f (c.loop-k.k + 1) c.node.result)} (sym c.clauses_in.ensures)
    (subst (λ (n : ℕ). AreClauses v (flat_map written (node_clauses f n c.node.result))) e one))

pub push_all-requires-clause-room : goal.push_all-requires-clause-room
push_all-requires-clause-room g c =
    omega (
      arith,
      c.requires.room,
      ap (λ (t : List (List ℕ)). length t) c.loop-k.invariant.pushed.stand,
      length-append (g.C.Clauses.clauses c.args.into.now) (flat_map written (frame_clauses (table_frame c.args.begins.now c.args.gates) 1 (take c.loop-k.k c.args.circuit.now.nodes))),
      written-few (table_frame c.args.begins.now c.args.gates) 1 (take c.loop-k.k c.args.circuit.now.nodes),
      gates-taken c.args.circuit.now.nodes c.loop-k.k,
    )

pub returns-in_err-push_all-clause-pushes : goal.returns-in_err-push_all-clause-pushes
returns-in_err-push_all-clause-pushes g c =
    let p = err_from_is_err_and c.from_residual.result c.from_residual.ensures.1 in
    let back : c.loop-k.k + 1 - 1 ≡ c.loop-k.k = omega arith in
    let at : slice_get c.args.circuit.now.nodes c.loop-k.k ≡ Some c.node.result = ap (λ (k : ℕ). slice_get c.args.circuit.now.nodes k) (sym back) ∙ c.node.ensures.node in
    let e : c.loop-k.k + 1 ≡ 1 + c.loop-k.k = omega arith in
    let is : flat_map clauses_of c.clauses_in.result ≡ flat_map written (node_clauses (table_frame c.args.begins.now c.args.gates) (1 + c.loop-k.k) c.node.result) = subst (λ (n : ℕ). flat_map clauses_of c.clauses_in.result ≡ flat_map written (node_clauses (table_frame c.args.begins.now c.args.gates) n c.node.result)) e c.clauses_in.ensures in
    rw (p.1, p.2)
    (subst (λ (t : List (List ℕ)). StopsAt (g.C.Clauses.overflow c.args.into.now) (g.C.Clauses.clauses c.args.into.now) t (g.C.Clauses.clauses c.push_all.new.into) c.in_err-push_all.field-0.0)
    (sym (written-around (table_frame c.args.begins.now c.args.gates) 1 c.args.circuit.now.nodes c.loop-k.k c.node.result at))
    (stops_within (g.C.Clauses.overflow c.args.into.now) (g.C.Clauses.overflow c.loop-k.into) (g.C.Clauses.clauses c.args.into.now) (g.C.Clauses.clauses c.loop-k.into) (g.C.Clauses.clauses c.push_all.new.into)
    (flat_map written (frame_clauses (table_frame c.args.begins.now c.args.gates) 1 (take c.loop-k.k c.args.circuit.now.nodes))) (flat_map written (node_clauses (table_frame c.args.begins.now c.args.gates) (1 + c.loop-k.k) c.node.result)) (flat_map written (frame_clauses (table_frame c.args.begins.now c.args.gates) (suc (1 + c.loop-k.k)) (drop (suc c.loop-k.k) c.args.circuit.now.nodes)))
    c.in_err-push_all.field-0.0 c.loop-k.invariant.overflow c.loop-k.invariant.pushed
    (subst (λ (t : List (List ℕ)). StopsAt (g.C.Clauses.overflow c.loop-k.into) (g.C.Clauses.clauses c.loop-k.into) t (g.C.Clauses.clauses c.push_all.new.into) c.in_err-push_all.field-0.0) is c.in_err-push_all.ensures.pushes)))

pub loop-k-preserved : goal.loop-k-preserved
loop-k-preserved g c =
    let back : c.loop-k.k + 1 - 1 ≡ c.loop-k.k = omega arith in
    let at : slice_get c.args.circuit.now.nodes c.loop-k.k ≡ Some c.node.result = ap (λ (k : ℕ). slice_get c.args.circuit.now.nodes k) (sym back) ∙ c.node.ensures.node in
    let e : c.loop-k.k + 1 ≡ 1 + c.loop-k.k = omega arith in
    let next : suc c.loop-k.k ≡ c.loop-k.k + 1 = omega arith in
    let is : flat_map clauses_of c.clauses_in.result ≡ flat_map written (node_clauses (table_frame c.args.begins.now c.args.gates) (1 + c.loop-k.k) c.node.result) = subst (λ (n : ℕ). flat_map clauses_of c.clauses_in.result ≡ flat_map written (node_clauses (table_frame c.args.begins.now c.args.gates) n c.node.result)) e c.clauses_in.ensures in
    record {
      pushed = subst (λ (n : ℕ). ArePushed (g.C.Clauses.overflow c.args.into.now) (g.C.Clauses.clauses c.args.into.now) (flat_map written (frame_clauses (table_frame c.args.begins.now c.args.gates) 1 (take n c.args.circuit.now.nodes))) (g.C.Clauses.clauses c.push_all.new.into)) next
          (subst (λ (t : List (List ℕ)). ArePushed (g.C.Clauses.overflow c.args.into.now) (g.C.Clauses.clauses c.args.into.now) t (g.C.Clauses.clauses c.push_all.new.into))
          (sym (written-more (table_frame c.args.begins.now c.args.gates) 1 c.args.circuit.now.nodes c.loop-k.k c.node.result at))
          (pushed_more (g.C.Clauses.overflow c.args.into.now) (g.C.Clauses.overflow c.loop-k.into) (g.C.Clauses.clauses c.args.into.now) (g.C.Clauses.clauses c.loop-k.into) (g.C.Clauses.clauses c.push_all.new.into)
          (flat_map written (frame_clauses (table_frame c.args.begins.now c.args.gates) 1 (take c.loop-k.k c.args.circuit.now.nodes))) (flat_map written (node_clauses (table_frame c.args.begins.now c.args.gates) (1 + c.loop-k.k) c.node.result))
          c.loop-k.invariant.overflow c.loop-k.invariant.pushed
          (subst (λ (t : List (List ℕ)). ArePushed (g.C.Clauses.overflow c.loop-k.into) (g.C.Clauses.clauses c.loop-k.into) t (g.C.Clauses.clauses c.push_all.new.into)) is c.in_ok-push_all.ensures.pushes)));
      variables = c.push_all.ensures.variables_kept ∙ c.loop-k.invariant.variables;
      takes = c.push_all.ensures.takes_kept ∙ c.loop-k.invariant.takes;
      overflow = (λ all. c.push_all.ensures.overflow_kept all ∙ c.loop-k.invariant.overflow all);
    }
