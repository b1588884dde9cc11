use Rattle.std.proofs.Common.{◌≡◌, ℕ, ◌++◌, length, map, take, drop, Some}
use Rattle.pv_circuit.specs.Starts.{next_of}
use Rattle.pv_frames.specs.Frames.{literal_in}
use Rattle.pv_frames.specs.Tables.{table_frame}
use Rattle.pv_frames.proofs.query.advance.Given as goal

-- those that are filled, and what the bits from here on have behind the frame
abbrev pub invariant-loop-k : goal.invariant-loop-k
invariant-loop-k l = record {
  filled : take l.k l.given ++ map (λ (lit : ℕ). Some lit) (next_of (drop l.k l.start)
      (drop l.k (map (literal_in (table_frame l.begins l.gates)) l.c.state_in.items))
      (drop l.k (map (literal_in (table_frame l.begins l.gates)) l.c.state_out.items)))
      ≡ map (λ (lit : ℕ). Some lit) (next_of l.start
      (map (literal_in (table_frame l.begins l.gates)) l.c.state_in.items)
      (map (literal_in (table_frame l.begins l.gates)) l.c.state_out.items));
  long : length l.given ≡ length l.fn.given;
}
