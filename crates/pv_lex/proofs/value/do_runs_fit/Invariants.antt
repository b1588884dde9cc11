use Rattle.std.proofs.Common.{◌≡◌, ◌<◌, ◌^◌, drop}
use Rattle.pv_lex.specs.Values.{runs_fit}
use Rattle.pv_lex.proofs.value.do_runs_fit.Given as goal

abbrev pub invariant-loop-byte : goal.invariant-loop-byte
invariant-loop-byte l = (l.value < 2 ^ 64) × (runs_fit l.value (drop l.byte-index l.bytes) ≡ runs_fit 0 l.bytes)
