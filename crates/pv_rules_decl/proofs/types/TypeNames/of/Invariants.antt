use Rattle.std.proofs.Common.{◌≡◌, map, take}
use Rattle.pv_tree.specs.Scopes.{is_type}
use Rattle.pv_names.specs.Firsts.{FindsFirsts}
use Rattle.pv_rules_decl.proofs.types.TypeNames.of.Given as goal

abbrev pub invariant-loop-i : goal.invariant-loop-i
invariant-loop-i l = record {
  numbers : FindsFirsts l.names (map (λ b. b.name.key) (take l.i l.blocks));
  types : l.kinds.items ≡ map (λ b. is_type b.kind) (take l.i l.blocks);
}
