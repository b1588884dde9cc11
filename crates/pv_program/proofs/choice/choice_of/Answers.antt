use Rattle.std.proofs.Common.{rules, subst, sym, ap, ◌∙◌}
use Rattle.std.specs.Prelude.{FitsSigned, option_map}
use Rattle.std.specs.Int.{w64}
use Rattle.std.proofs.lemmas.Int.{to_z-of_z}
use Rattle.std.proofs.lemmas.Bool.{false≢true}
use Rattle.pv_mean.specs.Statements.{choice_value}
use Rattle.pv_eval.specs.Means.{activation}
use Rattle.pv_resolve.specs.Contexts.{block_in}
use Rattle.pv_laws_room.specs.Bodies.{FitsChoice, FitsUpper}
use Rattle.pv_program.proofs.Choosing.{one-choice, range-choice}
use Rattle.pv_program.proofs.choice.choice_of.Goals as goal

pub returns-in-None-clause-is : goal.returns-in-None-clause-is
returns-in-None-clause-is c =
    let fits : FitsSigned w64 c.in_ok-first.first = search rules in
    one-choice (block_in c.args.context.now) c.in_ok-first.first _ c.args.range.now.0 c.args.range.now.1
    (sym c.upper.ensures ∙ ap (option_map (λ upper. upper.now)) c.in-None.is)
    (to_z-of_z w64 c.in_ok-first.first fits)
    (λ n. c.in_ok-first.ensures.value n ∙ ap (choice_value (activation (block_in c.args.context.now) n)) c.lower.ensures)

pub returns-in_ok-last-in-Some-clause-is : goal.returns-in_ok-last-in-Some-clause-is
returns-in_ok-last-in-Some-clause-is c =
    let first : FitsSigned w64 c.in_ok-first.first = search rules in
    let last : FitsSigned w64 c.in_ok-last-in-Some.last = search rules in
    range-choice (block_in c.args.context.now) c.in_ok-first.first _ c.in_ok-last-in-Some.last _ c.args.range.now.0 c.in-Some.end.now
    c.args.range.now.1 (sym c.upper.ensures ∙ ap (option_map (λ upper. upper.now)) c.in-Some.is)
    (to_z-of_z w64 c.in_ok-first.first first) (to_z-of_z w64 c.in_ok-last-in-Some.last last)
    (λ n. c.in_ok-first.ensures.value n ∙ ap (choice_value (activation (block_in c.args.context.now) n)) c.lower.ensures)
    c.in_ok-last-in-Some.ensures.value

pub returns-in_err-first-clause-room : goal.returns-in_err-first-clause-room
returns-in_err-first-clause-room c = λ source h low high.
    absurd (false≢true (c.in_err-first.ensures.room source h (subst FitsChoice (sym c.lower.ensures) low)))

pub returns-in_err-last-in-Some-clause-room : goal.returns-in_err-last-in-Some-clause-room
returns-in_err-last-in-Some-clause-room c = λ source h low high.
    absurd (false≢true (c.in_err-last-in-Some.ensures.room source h
    (subst FitsUpper (sym c.upper.ensures ∙ ap (option_map (λ upper. upper.now)) c.in-Some.is) high)))
