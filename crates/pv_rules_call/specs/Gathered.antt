-- The links of calls, gathered along the statements and instructions of a block.
use Rattle.std.specs.Prelude.{ℕ, List, Vec, Box, ◌++◌, map, flat_map, Option, option_map}
use Rattle.std.specs.declared.alloc.Global.{Global}
use Rattle.pv_place.specs.declared.place.Place.{Place}
use Rattle.pv_tree.specs.declared.expr.Expr.{Expr}
use Rattle.pv_tree.specs.declared.stmt.Choice.{Choice}
use Rattle.pv_tree.specs.declared.stmt.Stmt.{Stmt}
use Rattle.pv_tree.specs.Tree.{ArmTrees, BranchTrees, ElseTree, InstrTree}
use Rattle.pv_tree.specs.View.{expr_tree, stmt_tree, stmts_of, arms_of, branches_of, else_of}
use Rattle.pv_tree.specs.Scopes.{Scope}
use Rattle.pv_tree.specs.Callees.{CallSite}
use Rattle.pv_tree.specs.Parts.{Spot, calls_of_stmt, calls_of_instruction}
use Rattle.pv_rules_call.specs.Links.{links_of_sites}

abbrev pub calls_at : List Spot → List CallSite
calls_at spots = flat_map (λ s. calls_of_stmt s.stmt) spots

abbrev pub calls_of_all : List InstrTree → List CallSite
calls_of_all list = flat_map calls_of_instruction list

-- the links of calls, and of these statements' calls, behind others
abbrev pub with_sites : Scope → List (Place × ℕ) → List CallSite → List (Place × ℕ)
with_sites scope links sites = links ++ links_of_sites scope sites

abbrev pub with_spots : Scope → List (Place × ℕ) → List Spot → List (Place × ℕ)
with_spots scope links spots = with_sites scope links (calls_at spots)

-- the arms of an IF, the branches of a CASE and an ELSE, as plain data
abbrev pub arm_trees : List (Expr × Vec Stmt Global) → ArmTrees
arm_trees list = arms_of (map (λ a. (expr_tree a.0, stmts_of (map stmt_tree a.1.items))) list)

abbrev pub branch_trees : List (Vec (Choice × Option Choice) Global × Vec Stmt Global) → BranchTrees
branch_trees list = branches_of (map (λ b. (b.0.items, stmts_of (map stmt_tree b.1.items))) list)

abbrev pub other_tree : Option (Box (Vec Stmt Global) Global) → ElseTree
other_tree other = else_of (option_map (λ o. stmts_of (map stmt_tree o.value.items)) other)
