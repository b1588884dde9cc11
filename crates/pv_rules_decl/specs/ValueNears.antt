-- The nearest places in the values of data blocks, by what is looked for.
use Rattle.std.specs.Prelude.{Option}
use Rattle.pv_place.specs.declared.place.Place.{Place}
use Rattle.pv_tree.specs.Scopes.{ProjectTree}
use Rattle.pv_tree.specs.Rules.{missing_name, misfit, out_of_range, beyond_bounds, wrong_address}
use Rattle.pv_rules_expr.specs.Nearest.{IsNearest, nearer_of}
use Rattle.pv_rules_decl.specs.StartLook.{StartLook, Missing, Misused, Misfit, Outside, Beyond}
use Rattle.pv_rules_decl.specs.StartPieces.{InBlocks, HasValue, BreaksInValues}
use Rattle.pv_rules_decl.specs.declared.values.StartNear.{StartNear}
use Rattle.pv_rules_decl.specs.declared.values.ValueNear.{ValueNear}

abbrev pub near_start : StartLook → StartNear → Option Place
near_start Missing n = n.missing
near_start Misused n = n.misused
near_start Misfit n = n.misfit
near_start Outside n = n.outside
near_start Beyond n = n.beyond

-- the least places at which the values of a project's data blocks, and the expressions in their indexes, break each rule
pub record AreInValues (project : ProjectTree) (n : ValueNear) : Type 0 where
  pub starts : (what : StartLook) → IsNearest (InBlocks (HasValue what) project) (near_start what n.starts)
  pub missing : IsNearest (InBlocks (BreaksInValues missing_name) project) n.indexes.missing
  pub misfit : IsNearest (InBlocks (BreaksInValues misfit) project) (nearer_of n.indexes.misapplied n.indexes.misused)
  pub outside : IsNearest (InBlocks (BreaksInValues out_of_range) project) n.indexes.outside
  pub beyond : IsNearest (InBlocks (BreaksInValues beyond_bounds) project) n.indexes.beyond
  pub address : IsNearest (InBlocks (BreaksInValues wrong_address) project) n.indexes.address
