use Rattle.std.proofs.Common.{◌≡◌, length, map}
use Rattle.std.specs.List.{range_with_len}
use Rattle.pv_circuit.specs.Made.{circuit_seen}
use Rattle.pv_frames.specs.Queries.{frame_at, table}
use Rattle.pv_frames.specs.Runs.{input_in}
use Rattle.pv_frames.specs.Tables.{IsTable}
use Rattle.pv_frames.proofs.read.read_inputs.Given as goal

-- the bits of the first j frames, and the table of frame j
abbrev pub invariant-loop-j : goal.invariant-loop-j
invariant-loop-j g l = record {
  inputs : l.inputs ≡ map (input_in (circuit_seen l.c) (g.V.Values.truth l.values)) (map (table (circuit_seen l.c) l.start l.fn.query) (range_with_len 0 l._j));
  table : IsTable (circuit_seen l.c) l.begins l.gates (frame_at (circuit_seen l.c) l.start l.fn.query l._j);
  long_begins : length l.begins ≡ length l.fn.begins;
  long_given : length l.given ≡ length l.fn.given;
}
