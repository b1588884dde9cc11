use Rattle.std.proofs.Common.{sym, ap, ◌∙◌}
use Rattle.pv_variables.specs.Begun.{origin_in}
use Rattle.pv_lower.specs.Storages.{storage_at}
use Rattle.pv_lower.proofs.Stored.{own_is, table_is, brief_is}
use Rattle.pv_lower.proofs.storage.cell_in.Goals as goal

pub returns-in-Own : goal.returns-in-Own
returns-in-Own c = λ source block l are t f.
    own_is source block l c.args.ty c.args.first t f ∙ ap (λ part. storage_at source block (origin_in part l)) (sym c.in-Own.is)

pub returns-in_ok-table_variable-in-Visible : goal.returns-in_ok-table_variable-in-Visible
returns-in_ok-table_variable-in-Visible c = λ source block l are t f.
    table_is source block l c.args.ty c.args.first t f _ (c.in_ok-table_variable-in-Visible.ensures source block are)
    ∙ ap (λ part. storage_at source block (origin_in part l)) (sym c.in-Visible.is)

pub returns-in_ok-brief_variable-in-Brief : goal.returns-in_ok-brief_variable-in-Brief
returns-in_ok-brief_variable-in-Brief c = λ source block l are t f.
    brief_is source block l c.args.ty c.args.first t f _ (c.in_ok-brief_variable-in-Brief.ensures source block are)
    ∙ ap (λ part. storage_at source block (origin_in part l)) (sym c.in-Brief.is)
