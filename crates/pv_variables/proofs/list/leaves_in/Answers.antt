use Rattle.std.proofs.Common.{Err, length, ap, ◌∙◌, arith}
use Rattle.std.proofs.lemmas.Result.{IfOk-at_ok}
use Rattle.pv_types.specs.Leaves.{leaves_of}
use Rattle.pv_types.specs.Named.{types_of}
use Rattle.pv_types.specs.View.{var_trees}
use Rattle.pv_variables.proofs.list.leaves_in.Goals as goal

pub returns-in-Ok-clause-leaves : goal.returns-in-Ok-clause-leaves
returns-in-Ok-clause-leaves c =
    IfOk-at_ok _ c.in-Ok.is c.flatten.ensures.leaves
    ∙ ap (λ v. leaves_of (types_of c.args.types.now) (var_trees v)) c.as_slice.ensures.value

pub returns-in-Err-TooLarge-clause-room : goal.returns-in-Err-TooLarge-clause-room
returns-in-Err-TooLarge-clause-room c = λ few.
    let large = c.flatten.ensures.too_large (c.in-Err-TooLarge.is ∙ ap Err c.in-Err-TooLarge.field-0-is) in
    let same = ap (λ v. length (leaves_of (types_of c.args.types.now) (var_trees v))) c.as_slice.ensures.value in
    absurd (omega (arith, few, large, same))
