use Rattle.std.proofs.Common.{◌≡◌, map, drop, None}
use Rattle.pv_names.specs.Entries.{block_of}
use Rattle.pv_names.specs.Tables.{project_of}
use Rattle.pv_rules_expr.specs.Near.{near_at}
use Rattle.pv_rules_expr.specs.NearestIn.{nearest_in}
use Rattle.pv_rules_expr.specs.declared.search.Look.{Look}
use Rattle.pv_rules_decl.specs.StartLook.{StartLook}
use Rattle.pv_rules_decl.specs.StartPieces.{value_in, index_in, within}
use Rattle.pv_rules_decl.specs.ValueNears.{near_start}
use Rattle.pv_rules_decl.proofs.values.near_values.Given as goal

abbrev pub invariant-loop-entry : goal.invariant-loop-entry
invariant-loop-entry l = record {
  starts : (what : StartLook) →
      nearest_in (λ b. value_in what (within (project_of l.tables) b)) (map block_of (drop l.entry-index l.entry-items)) (near_start what l.starts)
      ≡ nearest_in (λ b. value_in what (within (project_of l.tables) b)) (map block_of l.entry-items) None;
  indexes : (what : Look) →
      nearest_in (λ b. index_in what (within (project_of l.tables) b)) (map block_of (drop l.entry-index l.entry-items)) (near_at what l.indexes)
      ≡ nearest_in (λ b. index_in what (within (project_of l.tables) b)) (map block_of l.entry-items) None;
}
