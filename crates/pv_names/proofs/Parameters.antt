-- Parameters by name and alone, among variables.
use Rattle.std.proofs.Common.{◌≡◌, ℕ, refl, sym, ap, List, [], ◌∷◌, ◌++◌, Option, Some, None, true, false, cond, filter, true≢false, ◌&&◌, is_some}
use Rattle.std.specs.Prelude.{find, option_map, bytes_eq}
use Rattle.pv_types.specs.Tree.{VarTree, var}
use Rattle.pv_types.specs.View.{var_tree, type_tree}
use Rattle.pv_types.specs.declared.var.Var.{Var}
use Rattle.pv_tree.specs.Tree.{PlacedName, ArgTree, BlockTree}
use Rattle.pv_tree.specs.Scopes.{is_fc}
use Rattle.pv_tree.specs.Callees.{How, is_param, is_input, Param, params_of_vars, params_of, first_param, only, only_input, param_for}
use Rattle.pv_names.specs.Params.{param_of, sole_input}
use Rattle.pv_names.specs.Doubled.{is_sought}
use Rattle.pv_names.specs.declared.doubled.Part.TheVariants.{Params}
use Rattle.pv_types.specs.declared.declaration.Section.TheVariants.{Input, Output, InOut, Static, Temp, Const}

module _ (key : List ℕ) where
  -- a parameter of this name among those of variables
  pub param_among : (xs : List VarTree) → first_param (params_of_vars xs) key ≡ option_map param_of (find (is_sought Params key) xs)
  param_among [] = refl
  param_among (var name section ty start place ∷ xs) =
      elim (is_param section) as (λ n. first_param (cond n (param_of (var name section ty start place) ∷ params_of_vars xs) (params_of_vars xs)) key
      ≡ option_map param_of (cond (n && bytes_eq key name.key) (Some (var name section ty start place)) (find (is_sought Params key) xs))) [
        | true ↦ elim (bytes_eq key name.key) as (λ h. cond h (Some (param_of (var name section ty start place))) (first_param (params_of_vars xs) key)
            ≡ option_map param_of (cond h (Some (var name section ty start place)) (find (is_sought Params key) xs))) [ true ↦ refl | false ↦ param_among xs ]
        | false ↦ param_among xs
      ]

  pub append_found : (ps qs : List Param) (p : Param) → first_param ps key ≡ Some p → first_param (ps ++ qs) key ≡ Some p
  append_found [] qs p e = absurd (true≢false (sym (ap is_some e)))
  append_found (q ∷ ps) qs p e =
      elim (bytes_eq key q.key) as (λ b. cond b (Some q) (first_param ps key) ≡ Some p → cond b (Some q) (first_param (ps ++ qs) key) ≡ Some p) [
        | true ↦ λ f. f
        | false ↦ λ f. append_found ps qs p f
      ] e

  pub append_none : (ps qs : List Param) → first_param ps key ≡ None → first_param (ps ++ qs) key ≡ first_param qs key
  append_none [] qs e = refl
  append_none (q ∷ ps) qs e =
      elim (bytes_eq key q.key) as (λ b. cond b (Some q) (first_param ps key) ≡ None → cond b (Some q) (first_param (ps ++ qs) key) ≡ first_param qs key) [
        | true ↦ λ f. absurd (true≢false (ap is_some f))
        | false ↦ λ f. append_none ps qs f
      ] e

-- the only input
abbrev inputs : List VarTree → List Param
inputs xs = filter (λ p. is_input p.section) (params_of_vars xs)

one_more : (w : VarTree) (xs : List VarTree) → option_map param_of (sole_input (Some w) xs) ≡ only (param_of w ∷ inputs xs)
one_more w [] = refl
one_more w (var name Input ty start place ∷ xs) = refl
one_more w (var name Output ty start place ∷ xs) = one_more w xs
one_more w (var name InOut ty start place ∷ xs) = one_more w xs
one_more w (var name Static ty start place ∷ xs) = one_more w xs
one_more w (var name Temp ty start place ∷ xs) = one_more w xs
one_more w (var name Const ty start place ∷ xs) = one_more w xs

pub only_one : (xs : List VarTree) → option_map param_of (sole_input None xs) ≡ only (inputs xs)
only_one [] = refl
only_one (var name Input ty start place ∷ xs) = one_more (var name Input ty start place) xs
only_one (var name Output ty start place ∷ xs) = only_one xs
only_one (var name InOut ty start place ∷ xs) = only_one xs
only_one (var name Static ty start place ∷ xs) = only_one xs
only_one (var name Temp ty start place ∷ xs) = only_one xs
only_one (var name Const ty start place ∷ xs) = only_one xs

-- a function has one
pub only_of : (b : BlockTree) → is_fc b.kind ≡ true → only (inputs b.vars) ≡ only_input b
only_of b is = ap (λ t. cond t (only (inputs b.vars)) None) (sym is)

pub mapped : {X Y Z : Type 0} (f : X → Y) (g : Y → Z) (o : Option X) → option_map (λ x. g (f x)) o ≡ option_map g (option_map f o)
mapped f g None = refl
mapped f g (Some x) = refl

-- a variable of the code as a parameter
pub param_seen : (v : Var)
    → Some (record { key = v.name.now.key; section = v.of.now.section; ty = type_tree v.of.now.ty }) ≡ Some (param_of (var_tree v))
param_seen v = refl

-- an argument with a word and without
pub for_none : (how : How) (b : BlockTree) (a : ArgTree) → a.name ≡ None → only_input b ≡ param_for how b a
for_none how b a is =
    ap (λ n. elim n [ None ↦ only_input b | Some word ↦ first_param (params_of how b) word.0.key ]) (sym is)

pub for_some : (how : How) (b : BlockTree) (a : ArgTree) (word : PlacedName) → a.name ≡ Some word
    → first_param (params_of how b) word.0.key ≡ param_for how b a
for_some how b a word is =
    ap (λ n. elim n [ None ↦ only_input b | Some w ↦ first_param (params_of how b) w.0.key ]) (sym is)
