use Rattle.std.proofs.Common.{refl, sym, ◌∙◌, arith}
use Rattle.pv_bool.specs.Programs.{program_tree}
use Rattle.pv_bool.specs.Scans.{state_of}
use Rattle.pv_bool_judged.proofs.Scanned.{none-scanned, one-scanned, fails-there, none-fails}
use Rattle.pv_bool_judged.proofs.scans.go_on.Goals as goal

pub loop-n-init : goal.loop-n-init
loop-n-init c = record {
  left = none-scanned (program_tree c.args.program.now) (state_of c.args.program.now.bits.items c.args.frame.now) c.args.inputs.now;
  long = refl;
}

pub loop-n-preserved : goal.loop-n-preserved
loop-n-preserved c =
    let bits = c.args.program.now.bits.items in
    let l = c.loop-n in
    record {
      left = one-scanned (program_tree c.args.program.now) (state_of bits c.args.frame.now) (state_of bits l.frame) (state_of bits c.scan.new.frame)
          c.args.inputs.now l.n c.index-inputs-n.result c.as_slice.result.now c.loop-n-test.true (c.as_slice.ensures ∙ c.index-inputs-n.is)
          (sym c.scan.ensures.holds ∙ c.if-not-scan.false) c.scan.ensures.state l.invariant.left;
      long = c.scan.ensures.long ∙ l.invariant.long;
    }

pub returns-then-not-scan-clause-stretch : goal.returns-then-not-scan-clause-stretch
returns-then-not-scan-clause-stretch c =
    let bits = c.args.program.now.bits.items in
    let l = c.loop-n in
    fails-there (program_tree c.args.program.now) (state_of bits c.args.frame.now) (state_of bits l.frame) c.args.inputs.now l.n
    c.index-inputs-n.result c.as_slice.result.now c.loop-n-test.true (c.as_slice.ensures ∙ c.index-inputs-n.is)
    (sym c.scan.ensures.holds ∙ c.if-not-scan.true) l.invariant.left

pub returns-clause-stretch : goal.returns-clause-stretch
returns-clause-stretch c =
    none-fails (program_tree c.args.program.now) (state_of c.args.program.now.bits.items c.args.frame.now)
    (state_of c.args.program.now.bits.items c.loop-n.frame) c.args.inputs.now c.loop-n.n (omega arith) c.loop-n.invariant.left
