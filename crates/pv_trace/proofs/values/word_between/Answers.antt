use Rattle.std.proofs.Common.{rules, sym, subst, ◌∙◌}
use Rattle.std.specs.Prelude.{FitsSigned}
use Rattle.std.specs.Int.{w64}
use Rattle.std.proofs.lemmas.Int.{to_z-of_z}
use Rattle.pv_place.specs.Ranges.{IsWithin}
use Rattle.pv_trace.specs.TraceText.{range_between}
use Rattle.pv_trace.proofs.Words.{spells, same-value}
use Rattle.pv_trace.proofs.values.word_between.Goals as goal

pub returns-in_err-value-clause-none : goal.returns-in_err-value-clause-none
returns-in_err-value-clause-none c =
    rw c.from_residual.ensures
    (λ v rest within end e.
    c.in_err-value.ensures.none c.args.bounds.now v c.requires within
    (spells c.args.bounds.now v c.args.text.now c.cut_word.result.0.now c.cut_word.result.1.now rest c.requires within c.cut_word.ensures.word c.cut_word.ensures.end end c.cut_word.ensures.split e))

pub returns-else-is_between-clause-none : goal.returns-else-is_between-clause-none
returns-else-is_between-clause-none c = λ v rest within end e. (
    let word = spells c.args.bounds.now v c.args.text.now c.cut_word.result.0.now c.cut_word.result.1.now rest c.requires within c.cut_word.ensures.word c.cut_word.ensures.end end c.cut_word.ensures.split e in
    let fits : FitsSigned w64 c.in_ok-value.value = search rules in
    let same = same-value c.args.bounds.now c.in_ok-value.value v fits c.requires within (sym c.in_ok-value.ensures.found ∙ word) in
    let yes = c.is_between.ensures.1 (subst (IsWithin (range_between c.args.bounds.now)) (sym (to_z-of_z w64 c.in_ok-value.value fits ∙ same)) within) in
    search rules)
