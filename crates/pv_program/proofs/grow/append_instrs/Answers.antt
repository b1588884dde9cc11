use Rattle.std.proofs.Common.{refl, arith, length-append, ap, length}
use Rattle.pv_program.proofs.Growing.{part-behind, with-instrs}
use Rattle.pv_program.proofs.grow.append_instrs.Goals as goal

pub returns : goal.returns
returns c = record {
  grows = with-instrs c.args.program.now c.append.new.all (record { more = c.args.more.now; is = c.in_ok-span.ensures.items });
  ordered = omega (
    arith,
    c.in_ok-span.ensures.first,
    c.in_ok-span.ensures.end,
    ap length c.in_ok-span.ensures.items,
    length-append c.args.program.now.instrs.items c.args.more.now,
  );
  within = omega (arith, c.in_ok-span.ensures.end);
  are = part-behind c.args.program.now.instrs.items c.args.more.now c.append.new.all.items _ _ c.in_ok-span.ensures.items
      c.in_ok-span.ensures.first c.in_ok-span.ensures.end;
  memory = tt;
  calls = refl;
}
