use Rattle.std.proofs.Common.{◌≡◌, ℕ, List, take}
use Rattle.std.specs.List.{flat_map}
use Rattle.pv_frames.specs.Frames.{frame_clauses}
use Rattle.pv_frames.specs.Tables.{table_frame}
use Rattle.pv_frames.specs.Formulas.{written}
use Rattle.pv_frames.specs.Pushing.{ArePushed}
use Rattle.pv_frames.proofs.query.push_frame.Given as goal

-- the clauses of the first k nodes stand there
abbrev pub invariant-loop-k : goal.invariant-loop-k
invariant-loop-k g l = record {
  pushed : ArePushed (g.C.Clauses.overflow l.fn.into) (g.C.Clauses.clauses l.fn.into) (flat_map written (frame_clauses (table_frame l.begins l.gates) 1 (take l.k l.circuit.nodes))) (g.C.Clauses.clauses l.into);
  variables : g.C.Clauses.variables l.into ≡ g.C.Clauses.variables l.fn.into;
  takes : g.C.Clauses.takes_clauses l.into ≡ g.C.Clauses.takes_clauses l.fn.into;
  overflow : (all : List (List ℕ)) → g.C.Clauses.overflow l.into all ≡ g.C.Clauses.overflow l.fn.into all;
}
