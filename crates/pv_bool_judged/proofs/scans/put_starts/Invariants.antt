use Rattle.std.proofs.Common.{◌≡◌, map, take}
use Rattle.pv_bool.specs.declared.program.Bit.{Bit}
use Rattle.pv_bool_judged.proofs.scans.put_starts.Given as goal

abbrev pub invariant-loop-n : goal.invariant-loop-n
invariant-loop-n l = record {
  so_far : take l.n l.frame ≡ take l.n (map (λ (b : Bit). b.start) l.bits);
}
