use Rattle.std.proofs.Common.{refl}
use Rattle.pv_types.proofs.ForCallers.{nameless, has_names}
use Rattle.pv_bool_form.proofs.Places.{declared-first, nameless-first, some-first}
use Rattle.pv_bool_form.proofs.form.are_first_words.Goals as goal

pub returns-then-is_empty : goal.returns-then-is_empty
returns-then-is_empty c =
    (λ _. nameless-first c.args.v.now (nameless c.args.v.now c.is_empty.result c.is_empty.ensures c.if-is_empty.true), λ _. refl)

pub returns : goal.returns
returns c =
    let some = has_names c.args.v.now c.is_empty.result c.is_empty.ensures c.if-is_empty.false in (
      λ is. declared-first c.args.v.now (c.is_first_declared.ensures.0 is),
      λ all. c.is_first_declared.ensures.1 (some-first c.args.v.now some all),
    )
