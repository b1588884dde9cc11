use Rattle.std.proofs.Common.{ap, sym, ◌∙◌}
use Rattle.std.proofs.lemmas.Result.{on_ok_weaker}
use Rattle.pv_tree.specs.View.{arg_tree}
use Rattle.pv_names.specs.Entries.{block_of}
use Rattle.pv_names.specs.Callees.{how_tree, param_tree}
use Rattle.pv_names.specs.Firsts.{number_in, or_number}
use Rattle.pv_program.proofs.Arguments.{for-param, for-none, number_kept}
use Rattle.pv_program.proofs.argument.add_argument.Goals as goal

pub returns-in-Some : goal.returns-in-Some
returns-in-Some c = on_ok_weaker c.add_number.result
    (λ put key other. put key other
    ∙ ap (λ b. or_number (number_in c.args.numbers.now key) b c.args.number)
    (for-param (how_tree c.args.how) (block_of c.args.callee.now) key (arg_tree c.args.arg.now) (param_tree c.in-Some.param) c.in-Some.ensures))
    c.add_number.ensures

pub returns-in-None : goal.returns-in-None
returns-in-None c = λ key other.
    number_kept _ _ c.args.number (sym (for-none (how_tree c.args.how) (block_of c.args.callee.now) key (arg_tree c.args.arg.now) c.in-None.ensures))
