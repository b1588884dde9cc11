use Rattle.std.proofs.Common.{refl}
use Rattle.pv_program.proofs.Growing.{keeps-more, with-outward}
use Rattle.pv_program.proofs.grow.append_outward.Goals as goal

pub returns : goal.returns
returns c = record {
  grows = with-outward c.args.program.now c.append.new.all
      (keeps-more c.args.program.now.outward.items c.append.new.all.items c.args.more.now c.in_ok-span.ensures.items);
  stands = c.in_ok-span.ensures.stands;
  memory = tt;
  calls = refl;
}
