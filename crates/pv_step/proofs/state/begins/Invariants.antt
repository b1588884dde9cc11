use Rattle.std.proofs.Common.{◌≡◌, map, take}
use Rattle.pv_circuit.specs.declared.start.Start.TheVariants.{Begins}
use Rattle.pv_bool.specs.Scans.{start}
use Rattle.pv_step.proofs.state.begins.Given as goal

-- those of the bits so far
abbrev pub invariant-loop-bit : goal.invariant-loop-bit
invariant-loop-bit l = l.starts ≡ map (λ b. Begins b) (start (take l.bit-index l.bits))
