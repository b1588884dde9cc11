use Rattle.std.proofs.Common.{◌≡◌, drop}
use Rattle.pv_mean.specs.Paths.{number_from}
use Rattle.pv_mean.proofs.lookup.find.Given as goal

-- the answer is what is found among the cells that are left, whose numbers begin with n
abbrev pub invariant-loop-n : goal.invariant-loop-n
invariant-loop-n l = record {
  left : number_from 0 l.cells l.path ≡ number_from l.n (drop l.n l.cells) l.path;
}
