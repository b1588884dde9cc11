use Rattle.std.proofs.Common.{ap, sym, ◌∙◌}
use Rattle.pv_mean.specs.Layout.{entry_size}
use Rattle.pv_variables.specs.Listed.{rest_of}
use Rattle.pv_variables.proofs.Listing.{both_behind, same_behind}
use Rattle.pv_resolve.proofs.ForCallers.{failed}
use Rattle.pv_variables.proofs.list.push_all.Goals as goal

pub returns-clause-adds : goal.returns-clause-adds
returns-clause-adds c = λ source is entry same leaves.
    both_behind c.args.vars.now.items c.push_rest.new.vars.items c.push_own.new.vars.items _ _
    (both_behind c.args.vars.now.items c.push_bound.new.vars.items c.push_rest.new.vars.items _ _
    (c.in_ok-push_bound.ensures.adds source is entry same leaves)
    (same_behind c.push_bound.new.vars.items c.push_rest.new.vars.items _ _
    (ap (λ n. rest_of n c.args.cells.now) is.data_blocks
    ∙ ap (λ l. rest_of (entry_size source.project source.entry) l) (sym same))
    c.in_ok-push_rest.ensures))
    (c.in_ok-push_own.ensures source leaves)

pub returns-in_err-push_bound-clause-room : goal.returns-in_err-push_bound-clause-room
returns-in_err-push_bound-clause-room c = λ source is h. failed _ _ c.from_residual.ensures.1 (c.in_err-push_bound.ensures.room source is h)
