use Rattle.std.proofs.Common.{◌≡◌, ℕ, List, [], take}
use Rattle.pv_frames.specs.Pushing.{ArePushed}
use Rattle.pv_rows_kind.proofs.lists.push_all.Given as goal

-- the first n clauses stand there
abbrev pub invariant-loop-n : goal.invariant-loop-n
invariant-loop-n g l = record {
  pushed : ArePushed (g.C.Clauses.overflow l.fn.into) [] (take l.n l.formula.clauses) (g.C.Clauses.clauses l.into);
  variables : g.C.Clauses.variables l.into ≡ g.C.Clauses.variables l.fn.into;
  takes : g.C.Clauses.takes_clauses l.into ≡ g.C.Clauses.takes_clauses l.fn.into;
  overflow : (all : List (List ℕ)) → g.C.Clauses.overflow l.into all ≡ g.C.Clauses.overflow l.fn.into all;
}
