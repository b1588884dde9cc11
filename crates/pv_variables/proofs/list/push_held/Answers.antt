use Rattle.std.proofs.Common.{ap, sym, ◌∙◌}
use Rattle.std.specs.Prelude.{not}
use Rattle.std.proofs.lemmas.Result.{on_ok_weaker}
use Rattle.pv_mean.specs.Layout.{is_temp}
use Rattle.pv_variables.proofs.Listing.{if_not, if_so}
use Rattle.pv_variables.proofs.list.push_held.Goals as goal

pub returns-then-is_temp : goal.returns-then-is_temp
returns-then-is_temp c =
    if_not c.args.vars.now.items (not (is_temp c.args.leaf.now.section)) _ (ap not (sym c.is_temp.ensures ∙ c.if-is_temp.true))

pub returns : goal.returns
returns c =
    on_ok_weaker c.push.result
    (if_so c.args.vars.now.items c.push.new.vars.items (not (is_temp c.args.leaf.now.section)) _
    (ap not (sym c.is_temp.ensures ∙ c.if-is_temp.false)))
    c.push.ensures
