use Rattle.std.proofs.Common.{sym, ◌∙◌}
use Rattle.pv_claims.proofs.NumberLaws.{value-utf8-fails, utf8-same, value-fails, value-gives}
use Rattle.pv_claims.proofs.numbers.parsed_value.Goals as goal

pub returns-in_err-text-clause-none : goal.returns-in_err-text-clause-none
returns-in_err-text-clause-none c = rw c.from_residual.ensures (value-utf8-fails _ c.args.text.now c.from_utf8.result c.from_utf8.ensures.cases (sym c.ok.ensures.value ∙ c.in_err-text.was))

pub returns-clause-none : goal.returns-clause-none
returns-clause-none c =
    let same = utf8-same _ c.args.text.now c.from_utf8.result c.in_ok-text.text c.from_utf8.ensures.cases (sym c.ok.ensures.value ∙ c.in_ok-text.was) in
    rw c.ok-2.ensures.value (value-fails c.in_ok-text.text.now c.args.text.now c.from_str_radix.result c.from_str_radix.ensures.value same)

pub returns-clause-value : goal.returns-clause-value
returns-clause-value c =
    let same = utf8-same _ c.args.text.now c.from_utf8.result c.in_ok-text.text c.from_utf8.ensures.cases (sym c.ok.ensures.value ∙ c.in_ok-text.was) in
    rw c.ok-2.ensures.value (value-gives c.in_ok-text.text.now c.args.text.now c.from_str_radix.result c.from_str_radix.ensures.value same)
