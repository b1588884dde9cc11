use Rattle.std.proofs.Common.{ap, sym, ◌∙◌, refl, map, arith}
use Rattle.std.proofs.lemmas.List.{take_all}
use Rattle.pv_tree.specs.View.{arg_tree}
use Rattle.pv_names.specs.Entries.{block_of}
use Rattle.pv_names.specs.Callees.{how_tree}
use Rattle.pv_names.specs.Firsts.{or_number, first_number}
use Rattle.pv_mean.specs.Calls.{is_for}
use Rattle.pv_program.proofs.Arguments.{number_grown}
use Rattle.pv_program.proofs.argument.arguments_of.Goals as goal

pub loop-i-preserved : goal.loop-i-preserved
loop-i-preserved c = λ key other.
    let test = is_for (how_tree c.args.how) (block_of c.args.callee.now) key in
    c.in_ok-add_argument.ensures key other
    ∙ ap (λ o. or_number o (test (arg_tree c.index-args-i.result)) c.loop-i.i) (c.loop-i.invariant key other)
    ∙ sym (number_grown test arg_tree c.as_slice-args.result.now c.loop-i.i _ c.index-args-i.result c.loop-i-test.true c.index-args-i.is refl)

pub returns : goal.returns
returns c = λ key other.
    c.loop-i.invariant key other
    ∙ ap (λ l. first_number (is_for (how_tree c.args.how) (block_of c.args.callee.now) key) (map arg_tree l))
    (take_all c.loop-i.i c.as_slice-args.result.now (omega arith) ∙ c.as_slice-args.ensures.value)
