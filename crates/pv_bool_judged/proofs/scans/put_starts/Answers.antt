use Rattle.std.proofs.Common.{◌+◌, false, refl, arith}
use Rattle.pv_bool.specs.declared.program.Bit.{Bit}
use Rattle.pv_bool.specs.declared.program.BitRole.TheVariants.{Input}
use Rattle.pv_bool_judged.proofs.Placed.{starts-put}
use Rattle.pv_bool_judged.proofs.scans.put_starts.Goals as goal

-- what a bit past the last is
abbrev outside : Bit
outside = record { role = Input; start = false }

pub loop-n-preserved : goal.loop-n-preserved
loop-n-preserved c = record {
  so_far = starts-put c.args.bits.now c.loop-n.frame _ c.loop-n.n (c.loop-n.n + 1) _ outside (omega (arith, c.requires, c.loop-n.auto.frame))
      c.loop-n-test.true (omega arith) refl refl c.loop-n.invariant.so_far;
}
