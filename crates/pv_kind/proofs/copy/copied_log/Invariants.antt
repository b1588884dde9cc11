use Rattle.std.proofs.Common.{◌≡◌, take}
use Rattle.pv_kind.proofs.copy.copied_log.Given as goal

abbrev pub invariant-loop-n : goal.invariant-loop-n
invariant-loop-n g l = record {
  log : l.log ≡ take l.n (g.L.LogView.all_lines l.from);
}
