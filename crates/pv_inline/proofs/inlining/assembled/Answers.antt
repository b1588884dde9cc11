use Rattle.std.proofs.Common.{List, subst}
use Rattle.pv_call_tables.specs.declared.drawn.Drawn.{Drawn}
use Rattle.pv_inline.specs.Inlining.{IsWays}
use Rattle.pv_inline.proofs.Whole.{assembling}
use Rattle.pv_inline.proofs.inlining.assembled.Goals as goal

pub returns-in-Ok-clause-made : goal.returns-in-Ok-clause-made
returns-in-Ok-clause-made c =
    assembling c.args.parts.now c.args.vars.items c.args.copies.making c.args.copies.text c.args.copies.done c.in-Ok.ways c.put_together.result
    (subst (λ (ds : List Drawn). IsWays c.args.copies.text ds c.in-Ok.ways) c.as_slice.ensures.value c.in-Ok.ensures.ways) c.put_together.ensures
