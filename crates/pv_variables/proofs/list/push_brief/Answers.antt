use Rattle.std.proofs.Common.{sym, ◌∙◌}
use Rattle.std.proofs.lemmas.Result.{on_ok_weaker}
use Rattle.pv_tree.specs.View.{block_tree}
use Rattle.pv_variables.specs.Listed.{is_own_in}
use Rattle.pv_variables.proofs.Listing.{if_not, if_so}
use Rattle.pv_variables.proofs.list.push_brief.Goals as goal

pub returns-then-not-is_own : goal.returns-then-not-is_own
returns-then-not-is_own c =
    if_not c.args.vars.now.items (is_own_in (block_tree c.args.block.now) c.args.leaf.now.section) _
    (sym c.is_own.ensures ∙ c.if-not-is_own.true)

pub returns : goal.returns
returns c =
    on_ok_weaker c.push_with_set.result
    (if_so c.args.vars.now.items c.push_with_set.new.vars.items (is_own_in (block_tree c.args.block.now) c.args.leaf.now.section) _
    (sym c.is_own.ensures ∙ c.if-not-is_own.false))
    c.push_with_set.ensures
