use Rattle.std.proofs.Common.{sym, ap, ◌∙◌, subst, slice_get}
use Rattle.pv_tree.specs.Scopes.{ProjectTree}
use Rattle.pv_names.specs.Entries.{block_of}
use Rattle.pv_resolve.specs.declared.begin.Begin.TheVariants.{In}
use Rattle.pv_resolve.specs.Begins.{HoldsBlock}
use Rattle.pv_resolve.proofs.Tabling.{got_at}
use Rattle.pv_resolve.proofs.Holding.{holds_at}
use Rattle.pv_resolve.proofs.context.Context.field_found.Goals as goal

pub returns-in-Some-get-clause-value : goal.returns-in-Some-get-clause-value
returns-in-Some-get-clause-value c = λ source part is holds.
    let n = c.in-Some.number in
    let at = ap (λ l. slice_get l n) (sym (c.entries.ensures ∙ ap (λ (p : ProjectTree). p.blocks) is.project))
    ∙ got_at block_of c.entries.result.now n c.in-Some-get.entry.now c.in-Some-get.ensures.lookup.0 c.in-Some-get.ensures.lookup.1 in
    c.field_of_block.ensures.value source is at (holds_at source.project n c.args.laid _ at
    (subst (HoldsBlock source.project (In part c.args.laid)) c.in-Some.is holds))

pub returns-in-Some-get-clause-near : goal.returns-in-Some-get-clause-near
returns-in-Some-get-clause-near c = λ source part is holds near.
    let n = c.in-Some.number in
    let at = ap (λ l. slice_get l n) (sym (c.entries.ensures ∙ ap (λ (p : ProjectTree). p.blocks) is.project))
    ∙ got_at block_of c.entries.result.now n c.in-Some-get.entry.now c.in-Some-get.ensures.lookup.0 c.in-Some-get.ensures.lookup.1 in
    c.field_of_block.ensures.near source is at (holds_at source.project n c.args.laid _ at
    (subst (HoldsBlock source.project (In part c.args.laid)) c.in-Some.is holds)) near
