use Rattle.std.proofs.Common.{◌+◌, false, arith, rules}
use Rattle.pv_bool.specs.declared.program.Bit.{Bit}
use Rattle.pv_bool.specs.declared.program.BitRole.TheVariants.{Input}
use Rattle.pv_bool.specs.Machine.{bits_of}
use Rattle.pv_bool_judged.proofs.Placed.{put-taken, put-left, put-none, put-all}
use Rattle.pv_bool_judged.proofs.scans.put.Goals.{then-takes, else-takes}
use Rattle.pv_bool_judged.proofs.scans.put.Goals as goal

pub loop-n-init : goal.loop-n-init
loop-n-init c = put-none c.args.kept c.args.bits.now (bits_of c.args.values.now) c.args.frame.now

-- what a bit past the last is
abbrev outside : Bit
outside = record { role = Input; start = false }

pub loop-n-preserved : goal.loop-n-preserved
loop-n-preserved c =
    let l = c.loop-n in
    let m = c.if-takes in
    elim m.branch [
      | else-takes w ↦ put-left c.args.kept c.args.bits.now (bits_of c.args.values.now) c.args.frame.now l.frame m.frame l.n l.next (l.n + 1) m.next
          outside (omega (arith, c.requires, l.auto.frame)) c.loop-n-test.true (search rules) (omega arith) w.next-is w.frame-is l.invariant
      | then-takes w ↦ put-taken c.args.kept c.args.bits.now (bits_of c.args.values.now) c.args.frame.now l.frame m.frame l.n l.next (l.n + 1) m.next
          outside _ (omega (arith, c.requires, l.auto.frame)) c.loop-n-test.true (search rules) (omega arith) (omega (arith, w.next-is)) w.frame-is (search rules) l.invariant
    ]

pub returns-clause-placed : goal.returns-clause-placed
returns-clause-placed c =
    put-all c.args.kept c.args.bits.now (bits_of c.args.values.now) c.args.frame.now c.loop-n.frame c.loop-n.n c.loop-n.next
    (omega (arith, c.requires, c.loop-n.auto.frame)) (omega (arith, c.loop-n-test.false, c.loop-n.auto.n-end)) c.loop-n.invariant
