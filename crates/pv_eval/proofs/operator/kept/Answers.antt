use Rattle.std.proofs.Common.{rules, ◌∙◌}
use Rattle.std.specs.Int.{w64}
use Rattle.std.proofs.lemmas.Int.{to_z-of_z}
use Rattle.pv_word.specs.Types.{InRange}
use Rattle.pv_eval.proofs.OperatorLaws.{own}
use Rattle.pv_eval.proofs.operator.kept.Goals as goal

pub returns-then-fits : goal.returns-then-fits
returns-then-fits c =
    let h : InRange c.args.ty c.args.n = search rules in
    to_z-of_z w64 c.args.n c.ranges.n ∙ own c.args.ty c.args.n h
