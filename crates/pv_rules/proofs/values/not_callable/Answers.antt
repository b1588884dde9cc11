use Rattle.std.proofs.Common.{refl, sym, ap, subst, ◌∙◌}
use Rattle.pv_names.specs.Entries.{block_of}
use Rattle.pv_names.specs.Tables.{project_of}
use Rattle.pv_rules_expr.specs.Members.{Has}
use Rattle.pv_rules_expr.specs.Nearest.{nearer_of}
use Rattle.pv_rules_expr.proofs.ForCallers.{next_in}
use Rattle.pv_rules.specs.Values.{block_place}
use Rattle.pv_rules.proofs.ValueLaws.{callable_nearest, no_voids}
use Rattle.pv_rules.proofs.Walks.{has_at, none_left}
use Rattle.pv_rules.proofs.values.not_callable.Goals as goal

pub place_in_body-requires : goal.place_in_body-requires
place_in_body-requires c = λ off.
    no_voids (project_of c.args.tables.now) c.args.code.void c.requires.void (block_of c.entry-item.result)
    (subst (λ bs. Has bs (block_of c.entry-item.result)) c.entries-entry-items.ensures
    (has_at block_of c.entries-entry-items.result.now c.loop-entry.entry-index c.entry-item.result c.loop-entry-test.true c.entry-item.is))
    (sym c.is_some-reads_void.ensures ∙ off)

pub loop-entry-preserved : goal.loop-entry-preserved
loop-entry-preserved c =
    next_in (block_place (project_of c.args.tables.now)) block_of c.entries-entry-items.result.now
    c.loop-entry.entry-index _ c.entry-item.result c.loop-entry.best c.nearer_of-best.result _ c.loop-entry-test.true c.entry-item.is refl
    (c.nearer_of-best.ensures ∙ ap (nearer_of c.loop-entry.best) c.in_ok-found.ensures) c.loop-entry.invariant

pub returns : goal.returns
returns c =
    let project = project_of c.args.tables.now in
    callable_nearest project c.loop-entry.best
    (none_left (block_place project) block_of c.entries-entry-items.result.now c.loop-entry.entry-index c.loop-entry.best _ c.loop-entry-test.false
    c.loop-entry.invariant)
