use Rattle.std.proofs.Common.{map, ◌++◌, ap, sym, ◌∙◌}
use Rattle.pv_tree.specs.View.{block_tree}
use Rattle.pv_mean.specs.Layout.{entry_size}
use Rattle.pv_flow.specs.View.{variable_of}
use Rattle.pv_variables.specs.Listed.{front_of}
use Rattle.std.proofs.lemmas.Bool.{false≢true}
use Rattle.pv_variables.proofs.Bounded.{entry_near}
use Rattle.pv_variables.proofs.list.push_entered.Goals as goal

pub returns-clause-adds : goal.returns-clause-adds
returns-clause-adds c = λ source is same.
    c.in_ok-push_front.ensures
    ∙ ap (λ n. map variable_of c.args.vars.now.items ++ front_of n c.args.cells.now) (c.in_ok-own.ensures.value source is)
    ∙ ap (λ l. map variable_of c.args.vars.now.items ++ front_of (entry_size source.project (block_tree c.args.block.now)) l) (sym same)

pub returns-in_err-own-clause-room : goal.returns-in_err-own-clause-room
returns-in_err-own-clause-room c = λ source is h.
    absurd (false≢true (c.in_err-own.ensures.room source is (entry_near source (block_tree c.args.block.now) h)))
