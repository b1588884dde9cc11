use Rattle.std.proofs.Common.{◌≡◌, ℕ, List, take}
use Rattle.std.specs.List.{flat_map}
use Rattle.pv_frames.specs.Pushing.{ArePushed}
use Rattle.pv_frames.specs.Short.{clauses_of}
use Rattle.pv_frames.proofs.push.push_all.Given as goal

abbrev pub invariant-loop-clause : goal.invariant-loop-clause
invariant-loop-clause g l = record {
  pushed : ArePushed (g.C.Clauses.overflow l.fn.into) (g.C.Clauses.clauses l.fn.into) (flat_map clauses_of (take l.clause-index l.clauses)) (g.C.Clauses.clauses l.into);
  variables : g.C.Clauses.variables l.into ≡ g.C.Clauses.variables l.fn.into;
  takes : g.C.Clauses.takes_clauses l.into ≡ g.C.Clauses.takes_clauses l.fn.into;
  overflow : (all : List (List ℕ)) → g.C.Clauses.overflow l.into all ≡ g.C.Clauses.overflow l.fn.into all;
}
