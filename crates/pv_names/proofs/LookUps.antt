-- What is found by name in the code's lists is what is found in the trees.
use Rattle.std.proofs.Common.{◌≡◌, ℕ, refl, List, map, option_map, slice_get, bytes_eq}
use Rattle.std.specs.Prelude.{option_and_then}
use Rattle.pv_word.specs.declared.types.Ty.{Ty}
use Rattle.pv_types.specs.declared.name.Name.{Name}
use Rattle.pv_types.specs.declared.var.Var.{Var}
use Rattle.pv_types.specs.View.{var_tree, name_of}
use Rattle.pv_tree.specs.declared.expr.Operand.{Operand}
use Rattle.pv_tree.specs.Projects.{symbol_tree}
use Rattle.pv_tree.specs.Scopes.{first_var, first_block, first_symbol}
use Rattle.pv_names.specs.declared.entry.Entry.{Entry}
use Rattle.pv_names.specs.Entries.{block_of}
use Rattle.pv_names.specs.Firsts.{first_number}
use Rattle.pv_names.proofs.FirstNumbers.{element}

pub var_found : (vars : List Var) (key : List ℕ)
    → option_map var_tree (option_and_then (slice_get vars) (first_number (bytes_eq key) (map (λ v. v.name.now.key) vars)))
    ≡ first_var (map var_tree vars) key
var_found vars key = element var_tree (λ v. v.name.now.key) (λ t. (name_of t).key) key (λ v. refl) vars

pub block_found : (entries : List Entry) (key : List ℕ)
    → option_map block_of (option_and_then (slice_get entries) (first_number (bytes_eq key) (map (λ e. e.block.now.name.key) entries)))
    ≡ first_block (map block_of entries) key
block_found entries key = element block_of (λ e. e.block.now.name.key) (λ b. b.name.key) key (λ e. refl) entries

pub symbol_found : (symbols : List (Name × Operand × Ty)) (key : List ℕ)
    → option_map symbol_tree (option_and_then (slice_get symbols) (first_number (bytes_eq key) (map (λ s. s.0.key) symbols)))
    ≡ first_symbol (map symbol_tree symbols) key
symbol_found symbols key = element symbol_tree (λ s. s.0.key) (λ s. s.name.key) key (λ s. refl) symbols
