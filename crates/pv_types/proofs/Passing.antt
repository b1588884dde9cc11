-- Variables that share a type without a leaf are passed over at once.
use Rattle.std.specs.Prelude.{◌≡◌, ◌≤◌, ℕ, zero, suc, ◌-◌, ℤ, List, [], ◌∷◌, ◌++◌, Option, Some, None, map, drop, refl}
use Rattle.std.proofs.Common.{ap, sym, ◌∙◌, arith}
use Rattle.pv_place.specs.declared.place.Place.{Place}
use Rattle.pv_types.specs.declared.declaration.Literal.{Literal}
use Rattle.pv_types.specs.declared.declaration.Section.{Section}
use Rattle.pv_types.specs.declared.declaration.Vars.{Vars}
use Rattle.pv_types.specs.declared.name.Name.{Name}
use Rattle.pv_types.specs.declared.var.Var.{Var}
use Rattle.pv_types.specs.Tree.{TypeTree, VarTree}
use Rattle.pv_types.specs.View.{type_tree, var_tree, word_tree, var_trees, trees_from, listed}
use Rattle.pv_types.specs.Named.{NamedType}
use Rattle.pv_types.specs.Leaves.{Around, section_within, field_path, start_value, leaves_where, leaves_of_type, leaves_of_vars, leaves_of_named}
use Rattle.pv_types.specs.Sizes.{number_where, size_of_type, size_of_named}
use Rattle.pv_types.specs.Walk.{work_of_vars}
use Rattle.pv_types.proofs.Counting.{counted_type_of}
use Rattle.pv_types.proofs.Searching.{no_length}
use Rattle.pv_types.proofs.Trees.{vars_seen}

where_none : (types : List NamedType) (n : ℕ) (path : List ℕ) (start : ℤ) (t : TypeTree) (o : Option Section)
    → number_where o (size_of_type (size_of_named types n) t) ≡ 0
    → leaves_where o (λ s. leaves_of_type (leaves_of_named types n) path start s t) ≡ []
where_none types n path start t None none = refl
where_none types n path start t (Some s) none = no_length _ (counted_type_of types n path start s t ∙ none)

module _ (types : List NamedType) (n : ℕ) (around : Around) (path : List ℕ) (s : Section) (t : TypeTree) (start : Option Literal)
    (none : number_where (section_within around s) (size_of_type (size_of_named types n) t) ≡ 0) (rest : List VarTree) where
  words_pass : (ws : List (Name × Place))
      → leaves_of_vars (leaves_of_named types n) around path (listed (map (word_tree s t start) ws ++ rest))
      ≡ leaves_of_vars (leaves_of_named types n) around path (listed rest)
  words_pass [] = refl
  words_pass (w ∷ ws) =
      ap (λ l. l ++ leaves_of_vars (leaves_of_named types n) around path (listed (map (word_tree s t start) ws ++ rest)))
      (where_none types n (field_path path w.0) (start_value start) t (section_within around s) none)
      ∙ words_pass ws

  pub words_pass_from : (ws : List (Name × Place)) (from : ℕ)
      → leaves_of_vars (leaves_of_named types n) around path (listed (drop from (map (word_tree s t start) ws) ++ rest))
      ≡ leaves_of_vars (leaves_of_named types n) around path (listed rest)
  words_pass_from ws zero = words_pass ws
  words_pass_from [] (suc from) = refl
  words_pass_from (w ∷ ws) (suc from) = words_pass_from ws from

module _ (work : List ℕ → ℕ) (s : Section) (t : TypeTree) (start : Option Literal) (rest : List VarTree) where
  words_work : (ws : List (Name × Place))
      → work_of_vars work (listed rest) ≤ work_of_vars work (listed (map (word_tree s t start) ws ++ rest))
  words_work [] = omega arith
  words_work (w ∷ ws) = let le = words_work ws in omega (arith, le)

  pub words_work_from : (ws : List (Name × Place)) (from : ℕ)
      → work_of_vars work (listed rest) ≤ work_of_vars work (listed (drop from (map (word_tree s t start) ws) ++ rest))
  words_work_from ws zero = words_work ws
  words_work_from [] (suc from) = omega arith
  words_work_from (w ∷ ws) (suc from) = words_work_from ws from

-- what is left behind a name, where the declaration that it stands in has no leaf
module _ (v : Var) (behind own : List Vars) (from : ℕ) (all : List VarTree) (shared : own ≡ v.of.now ∷ behind)
    (are : all ≡ var_tree v ∷ trees_from own from) where
  seen : all ≡ var_tree v ∷ (drop from (map (word_tree v.of.now.section (type_tree v.of.now.ty) v.of.now.start) v.of.now.names.items)
      ++ var_trees behind)
  seen = are ∙ ap (λ l. var_tree v ∷ trees_from l from) shared
      ∙ ap (λ l. var_tree v ∷ (drop from l ++ var_trees behind)) (vars_seen v.of.now)

  pub leaves_passed : (types : List NamedType) (n : ℕ) (around : Around) (path : List ℕ)
      → number_where (section_within around v.of.now.section) (size_of_type (size_of_named types n) (type_tree v.of.now.ty)) ≡ 0
      → leaves_of_vars (leaves_of_named types n) around path (listed (var_trees behind))
      ≡ leaves_of_vars (leaves_of_named types n) around path (listed all)
  leaves_passed types n around path none =
      sym (ap (λ l. leaves_of_vars (leaves_of_named types n) around path (listed l)) seen
      ∙ words_pass_from types n around path v.of.now.section (type_tree v.of.now.ty) v.of.now.start none
      (drop from (map (word_tree v.of.now.section (type_tree v.of.now.ty) v.of.now.start) v.of.now.names.items) ++ var_trees behind)
      ((v.name.now, v.place) ∷ []) 0
      ∙ words_pass_from types n around path v.of.now.section (type_tree v.of.now.ty) v.of.now.start none (var_trees behind)
      v.of.now.names.items from)

  pub work_passed : (work : List ℕ → ℕ)
      → work_of_vars work (listed (var_trees behind)) ≤ work_of_vars work (listed all) - 1
  work_passed work =
      let le = words_work_from work v.of.now.section (type_tree v.of.now.ty) v.of.now.start (var_trees behind) v.of.now.names.items from in
      omega (arith, le, ap (λ l. work_of_vars work (listed l)) seen)
