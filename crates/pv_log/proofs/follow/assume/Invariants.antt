use Rattle.std.proofs.Common.{◌≡◌, false, take}
use Rattle.pv_cnf.specs.Clause.{has_outside, has_double}
use Rattle.pv_log.proofs.follow.assume.Given as goal

abbrev pub invariant-loop-lit : goal.invariant-loop-lit
invariant-loop-lit l = record {
  same : l.values.variables ≡ l.fn.values.variables;
  falses : l.values.falses ≡ take l.lit-index l.lits;
  inside : has_outside l.variables (take l.lit-index l.lits) ≡ false;
  distinct : has_double (take l.lit-index l.lits) ≡ false;
}
