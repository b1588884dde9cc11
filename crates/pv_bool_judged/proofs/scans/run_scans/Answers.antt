use Rattle.std.proofs.Common.{◌≡◌, List, subst}
use Rattle.pv_bool.specs.declared.program.Bit.{Bit}
use Rattle.pv_bool.specs.Programs.{program_tree}
use Rattle.pv_bool.specs.Scans.{Bits, state_of}
use Rattle.pv_bool.specs.Machine.{numbers_of, machine_of}
use Rattle.pv_valid.specs.Shown.{IsStretch}
use Rattle.pv_bool_judged.specs.Placing.{IsFitting, begun_bits}
use Rattle.pv_bool_judged.proofs.scans.run_scans.Goals as goal

pub returns-clause-stretch : goal.returns-clause-stretch
returns-clause-stretch c = λ fits.
    let begun = subst (λ (bs : List Bit). IsFitting bs c.args.start → state_of bs c.begin.new.frame ≡ begun_bits bs c.args.start)
    c.deref.ensures.value c.begin.ensures.state in
    subst (λ (s : Bits). IsStretch (machine_of (program_tree c.args.program.now)) (numbers_of s) c.args.inputs.now c.go_on.result.good
    c.go_on.result.ending) (begun fits) c.go_on.ensures.stretch
