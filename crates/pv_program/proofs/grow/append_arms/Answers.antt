use Rattle.std.proofs.Common.{refl}
use Rattle.pv_program.proofs.Growing.{keeps-more, with-arms}
use Rattle.pv_program.proofs.grow.append_arms.Goals as goal

pub returns : goal.returns
returns c = record {
  grows = with-arms c.args.program.now c.append.new.all
      (keeps-more c.args.program.now.arms.items c.append.new.all.items c.args.more.now c.in_ok-span.ensures.items);
  stands = c.in_ok-span.ensures.stands;
  memory = tt;
  calls = refl;
}
