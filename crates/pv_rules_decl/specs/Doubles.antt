-- Names that stand twice, name by name: those before one are known when it is met.
use Rattle.std.specs.Prelude.{◌≡◌, ℕ, List, map, true, is_some, bytes_eq}
use Rattle.std.specs.Map.{lookup}
use Rattle.pv_types.specs.declared.var.Var.{Var}
use Rattle.pv_tree.specs.declared.block.Block.{Block}
use Rattle.pv_tree.specs.Tree.{PlacedName}
use Rattle.pv_rules_expr.specs.Members.{Has}
use Rattle.pv_rules_decl.specs.declared.doubled.Names.{Names}

-- the name of this key was met
abbrev pub IsMet : Names → List ℕ → Type 0
IsMet names key = is_some (lookup (bytes_eq key) names.seen.entries) ≡ true

-- a list of names has been met, one by one
pub record AreMet (names : Names) (all : List PlacedName) : Type 0 where
  pub known : (key : List ℕ) → IsMet names key → Has (map (λ n. n.0.key) all) key
  pub met : (key : List ℕ) → Has (map (λ n. n.0.key) all) key → IsMet names key

abbrev pub name_of_block : Block → PlacedName
name_of_block b = (b.name, b.place)

abbrev pub name_of_var : Var → PlacedName
name_of_var v = (v.name.now, v.place)
