use Rattle.std.proofs.Common.{refl}
use Rattle.pv_program.proofs.Growing.{with-blocks}
use Rattle.pv_program.proofs.grow.see_code.Goals as goal

pub returns : goal.returns
returns c = record {
  grows = with-blocks c.args.program.now c.count_code.new.codes
      (λ k call n at number has. c.in_ok-count_code.ensures.kept n has);
  calls = refl;
  coded = c.in_ok-count_code.ensures.coded;
  memory = tt;
}
