-- A pattern's expression that breaks no rule has a type: it isn't broken, by the walk up, and it isn't whole, by the rule on patterns.
use Rattle.std.proofs.Common.{Bool, true, false, map, inl, inr, refl}
use Rattle.std.specs.Prelude.{IsTrue, IsFalse, Contains}
use Rattle.pv_place.specs.declared.place.Place.{Place}
use Rattle.pv_tree.specs.Tree.{ExprTree, OperandTree, operand, BlockTree}
use Rattle.pv_tree.specs.LiteralTypes.{nothing}
use Rattle.pv_tree.specs.Sorts.{is_whole}
use Rattle.pv_tree.specs.Scopes.{ProjectTree, Scope}
use Rattle.pv_tree.specs.Things.{first_place}
use Rattle.pv_tree.specs.Types.{sort_of}
use Rattle.pv_tree.specs.Parts.{Part, parts_of, reads_of_parts, operands_read, path_of, indexes_of}
use Rattle.pv_tree.specs.Rules.{KeepsRules, Rule, missing_name, misfit, beyond_bounds, not_callable, wrong_address, BreaksInPattern}
use Rattle.pv_tree.specs.Rules.Addresses.{is_wrong_operand}
use Rattle.pv_tree.specs.RuleLaws.{PatternsHaveTypes}
use Rattle.pv_tree.proofs.ToldThings.{all_of}
use Rattle.pv_tree.proofs.NoneBroken.{IndexKeeps, OperandKeeps, PartKeeps, own_taken}
use Rattle.pv_tree.proofs.Upwards.{up}
use Rattle.pv_tree.proofs.KeptBlocks.{contains_flat, contains_mapped, scope_told}
use Rattle.pv_tree.proofs.TypedBlocks.{taken_not}

isnt : (b : Bool) → (IsTrue b → ⊥) → IsFalse b
isnt true f = absurd (f refl)
isnt false f = refl

abbrev KeepsPattern : Scope → ExprTree → Type 0
KeepsPattern scope e = (rule : Rule) (at : Place) → BreaksInPattern rule scope e at → ⊥

read_keeps : (scope : Scope) (e : ExprTree) → KeepsPattern scope e → (o : OperandTree) → Contains (reads_of_parts
    (parts_of scope nothing e)) o → OperandKeeps scope o
read_keeps scope e f (operand root more place) r = record {
  is_named = λ at m. f missing_name at (c.0, path_of scope o, c.1, c.2, m);
  is_array = λ at m. f misfit at (inl (inr (c.0, path_of scope o, c.1, c.2, inl m)));
  no_date = λ at m. f misfit at (inl (inr (c.0, path_of scope o, c.1, c.2, inr (inl m))));
  valued = λ m. f not_callable (path_of scope o).last (r.0, o, r.1, r.2, (refl, m));
  addressed = isnt (is_wrong_operand o) (λ m. f wrong_address place (r.0, o, r.1, r.2, (refl, m)));
  indexed = all_of (IndexKeeps scope) (indexes_of scope (path_of scope o)) (λ i d. record {
    typed = λ at m. f misfit at (inl (inr (c.0, path_of scope o, c.1, c.2, inr (inr (d.0, i, d.1, d.2, m)))));
    inside = λ at m. f beyond_bounds at (c.0, path_of scope o, c.1, c.2, (d.0, i, d.1, d.2, m));
  });
}
  where
    o : OperandTree
    o = operand root more place

    c : Contains (map (path_of scope) (reads_of_parts (parts_of scope nothing e))) (path_of scope o)
    c = contains_mapped (path_of scope) (reads_of_parts (parts_of scope nothing e)) o r

part_keeps : (scope : Scope) (e : ExprTree) → KeepsPattern scope e → (p : Part) → Contains (parts_of scope nothing e) p → PartKeeps scope p
part_keeps scope e f p c = record {
  fits = λ at m. f misfit at (inl (inl (c.0, p, c.1, c.2, m)));
  reads = all_of (OperandKeeps scope) (operands_read p.expr) (λ o d. read_keeps scope e f o
      (contains_flat (λ q. operands_read q.expr) (parts_of scope nothing e) p o c d));
}

pub patterns_typed : (project : ProjectTree) → KeepsRules project → PatternsHaveTypes project
patterns_typed project keeps = λ block e b f. own_taken nothing (sort_of (within block) e)
    (up (within block) (scope_told project keeps block b) nothing e (all_of (PartKeeps (within block)) (parts_of (within block) nothing e)
    (part_keeps (within block) e f)))
    (taken_not nothing (sort_of (within block) e) (isnt (is_whole (sort_of (within block) e)) (λ w. f misfit (first_place e) (inr
    (refl, w)))))
  where
    within : BlockTree → Scope
    within block = record { project = project; block = block }
