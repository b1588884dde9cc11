use Rattle.std.proofs.Common.{ap, ◌∙◌, arith}
use Rattle.std.specs.Prelude.{Some, unsigned_abs}
use Rattle.std.proofs.lemmas.Int.{ints, to_z-of_z}
use Rattle.std.specs.Int.{w64}
use Rattle.pv_resolve.proofs.Ordered.{natural_some, natural_none}
use Rattle.pv_resolve.proofs.growing.natural.Goals as goal

pub returns-then-v-lt0 : goal.returns-then-v-lt0
returns-then-v-lt0 c =
    let same = to_z-of_z w64 c.args.v c.ranges.v in
    natural_none c.args.v (omega (arith, ints, same, c.if-v-lt0.true))

pub returns-else-v-lt0 : goal.returns-else-v-lt0
returns-else-v-lt0 c =
    let same = to_z-of_z w64 c.args.v c.ranges.v in
    ap Some (c.unsigned_abs.ensures.value ∙ ap unsigned_abs same) ∙ natural_some c.args.v (omega (arith, ints, same, c.if-v-lt0.false))
