use Rattle.std.proofs.Common.{◌≡◌, map, take}
use Rattle.pv_cnf.specs.Literal.{literal_value}
use Rattle.pv_frames.specs.Frames.{literal_in}
use Rattle.pv_frames.specs.Tables.{table_frame}
use Rattle.pv_frames.proofs.read.read_bits.Given as goal

-- the values of the first k literals
abbrev pub invariant-loop-k : goal.invariant-loop-k
invariant-loop-k g l = l.bits
    ≡ map (λ z. literal_value (g.V.Values.truth l.values) (literal_in (table_frame l.begins l.gates) z)) (take l.k l.literals)
