use Rattle.std.proofs.Common.{◌≡◌, true, take, ◌∷◌}
use Rattle.pv_log.specs.Propagation.{is_false}
use Rattle.pv_log.proofs.filing.Filing.rarest.Given as goal

abbrev pub invariant-loop-lit : goal.invariant-loop-lit
invariant-loop-lit l = is_false (0 ∷ take l.lit-index l.lits) l.rarest ≡ true
