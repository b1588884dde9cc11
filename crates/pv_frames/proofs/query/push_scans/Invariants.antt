use Rattle.std.proofs.Common.{◌≡◌, ℕ, List, length, take, map}
use Rattle.std.specs.List.{range_with_len}
use Rattle.pv_circuit.specs.Made.{circuit_seen}
use Rattle.pv_frames.specs.Queries.{frame_at, asked_in}
use Rattle.pv_frames.specs.Pushing.{ArePushed}
use Rattle.pv_frames.specs.Tables.{IsTable, gate_clauses}
use Rattle.pv_frames.specs.declared.short.Short.TheVariants.{One}
use Rattle.pv_frames.proofs.query.push_scans.Given as goal

-- the gates of the first j frames stand there, with what has to be true in them, and the table is that of frame j
abbrev pub invariant-loop-j : goal.invariant-loop-j
invariant-loop-j g l = record {
  pushed : ArePushed (g.C.Clauses.overflow l.fn.into) (g.C.Clauses.clauses l.fn.into) (gate_clauses (circuit_seen l.c) l.start l.fn.query l.j) (g.C.Clauses.clauses l.into);
  goals : take l.j l.goals ≡ map (λ (lit : ℕ). One lit) (map (asked_in (circuit_seen l.c) l.start l.fn.query) (range_with_len 0 l.j));
  table : IsTable (circuit_seen l.c) l.begins l.gates (frame_at (circuit_seen l.c) l.start l.fn.query l.j);
  long_goals : length l.goals ≡ length l.fn.goals;
  long_begins : length l.begins ≡ length l.fn.begins;
  long_given : length l.given ≡ length l.fn.given;
  variables : g.C.Clauses.variables l.into ≡ g.C.Clauses.variables l.fn.into;
  takes : g.C.Clauses.takes_clauses l.into ≡ g.C.Clauses.takes_clauses l.fn.into;
  overflow : (all : List (List ℕ)) → g.C.Clauses.overflow l.into all ≡ g.C.Clauses.overflow l.fn.into all;
}
