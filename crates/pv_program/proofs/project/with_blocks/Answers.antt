use Rattle.std.proofs.Common.{refl}
use Rattle.pv_program.proofs.Making.{program-made}
use Rattle.pv_program.proofs.project.with_blocks.Goals as goal

pub returns : goal.returns
returns c = record {
  bound = refl;
  entry = refl;
  is = λ source are made entered types bound entry. program-made c.args.program c.args.blocks are made entered types bound entry;
}
