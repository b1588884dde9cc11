use Rattle.std.proofs.Common.{◌≡◌, map, drop}
use Rattle.pv_names.specs.Entries.{block_of}
use Rattle.pv_rules_expr.specs.NearestIn.{nearest_in}
use Rattle.pv_rules_decl.specs.StartPieces.{piece_in, piece_place, within}
use Rattle.pv_names.specs.Tables.{project_of}
use Rattle.pv_rules_decl.proofs.on_starts.nearest_piece.Given as goal

abbrev pub invariant-loop-entry : goal.invariant-loop-entry
invariant-loop-entry l =
    nearest_in (λ b. piece_in l.what (within (project_of l.tables) b)) (map block_of (drop l.entry-index l.entry-items)) l.best
    ≡ piece_place l.what (project_of l.tables)
