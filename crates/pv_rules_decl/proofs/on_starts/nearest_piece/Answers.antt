use Rattle.std.proofs.Common.{refl, ap, ◌∙◌}
use Rattle.pv_names.specs.Entries.{block_of}
use Rattle.pv_rules_expr.specs.Nearest.{nearer_of}
use Rattle.pv_rules_decl.specs.StartPieces.{piece_in, within}
use Rattle.pv_names.specs.Tables.{project_of}
use Rattle.pv_rules_expr.proofs.ForCallers.{next_in}
use Rattle.pv_rules_decl.proofs.on_starts.nearest_piece.Goals as goal

pub loop-entry-preserved : goal.loop-entry-preserved
loop-entry-preserved c =
    next_in (λ b. piece_in c.args.what (within (project_of c.args.tables.now) b)) block_of c.entries-entry-items.result.now
    c.loop-entry.entry-index _ c.entry-item.result c.loop-entry.best c.nearer_of-best.result _ c.loop-entry-test.true c.entry-item.is refl
    (c.nearer_of-best.ensures ∙ ap (nearer_of c.loop-entry.best) c.in_ok-found.ensures) c.loop-entry.invariant
