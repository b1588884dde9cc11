-- The nearest index over the steps of an operand.
use Rattle.std.proofs.Common.{◌≡◌, sym, ap, ◌∙◌, Option}
use Rattle.pv_place.specs.declared.place.Place.{Place}
use Rattle.pv_tree.specs.Tree.{StepTree, StepTrees, steps}
use Rattle.pv_tree.specs.Scopes.{Scope}
use Rattle.pv_tree.specs.Things.{Thing, thing_at, last_behind, dated}
use Rattle.pv_tree.specs.Parts.{indexes_of_step, indexes_behind}
use Rattle.pv_rules_expr.specs.declared.indexes.IndexFault.{IndexFault}
use Rattle.pv_rules_expr.specs.Indexes.{index_place, near_indexes}
use Rattle.pv_rules_expr.proofs.NearestLists.{in_append}

module _ (what : IndexFault) (scope : Scope) where
  -- one step more of those that are left
  pub next_index : (all rest : StepTrees) (s : StepTree) (last next : Place) (thing dated_one after : Thing) (n m total : Option Place)
      → all ≡ steps s rest
      → dated_one ≡ dated last thing
      → next ≡ last_behind last s
      → after ≡ thing_at scope dated_one s
      → m ≡ near_indexes what scope (indexes_of_step dated_one s) n
      → near_indexes what scope (indexes_behind scope last thing all) n ≡ total
      → near_indexes what scope (indexes_behind scope next after rest) m ≡ total
  next_index all rest s last next thing dated_one after n m total is dates lasts leads looked left =
      let d = dated last thing in
      ap (λ m. near_indexes what scope (indexes_behind scope next after rest) m) looked
      ∙ ap (λ p. near_indexes what scope (indexes_behind scope p after rest) (near_indexes what scope (indexes_of_step dated_one s) n)) lasts
      ∙ ap (λ t. near_indexes what scope (indexes_behind scope (last_behind last s) t rest)
      (near_indexes what scope (indexes_of_step dated_one s) n)) leads
      ∙ ap (λ t. near_indexes what scope (indexes_behind scope (last_behind last s) (thing_at scope t s) rest)
      (near_indexes what scope (indexes_of_step t s) n)) dates
      ∙ sym (in_append (index_place what scope) (indexes_of_step d s) (indexes_behind scope (last_behind last s) (thing_at scope d s) rest) n)
      ∙ ap (λ l. near_indexes what scope (indexes_behind scope last thing l) n) (sym is)
      ∙ left
