use Rattle.std.proofs.Common.{refl, arith, ap, length, length-append}
use Rattle.pv_program.proofs.Growing.{keeps-more, with-stmts}
use Rattle.pv_program.proofs.grow.append_stmts.Goals as goal

pub returns : goal.returns
returns c = record {
  grows = with-stmts c.args.program.now c.append.new.all
      (keeps-more c.args.program.now.stmts.items c.append.new.all.items c.args.more.now c.in_ok-span.ensures.items)
      (omega (arith, ap length c.in_ok-span.ensures.items, length-append c.args.program.now.stmts.items c.args.more.now));
  stands = c.in_ok-span.ensures.stands;
  first = c.in_ok-span.ensures.first;
  end = c.in_ok-span.ensures.end;
  memory = tt;
  calls = refl;
}
