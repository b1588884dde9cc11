-- Counting the cells of variables one by one, as a loop does.
use Rattle.std.proofs.Common.{◌≡◌, ℕ, ◌+◌, ◌*◌, ◌<◌, ◌≤◌, ◌++◌, List, [], ◌∷◌, Option, length, map, get_or, drop, refl, sym, ap, ◌∙◌, arith, true, false, true≢false}
use Rattle.std.proofs.lemmas.List.{drop_all}
use Rattle.std.proofs.Math.Nat.{suc-mul}
use Rattle.pv_place.specs.declared.place.Place.{Place}
use Rattle.pv_types.specs.declared.name.Name.{Name}
use Rattle.pv_types.specs.declared.declaration.Literal.{Literal}
use Rattle.pv_types.specs.declared.declaration.Section.{Section}
use Rattle.pv_types.specs.declared.declaration.Section.TheVariants.{Input, Output, InOut, Static, Temp, Const}
use Rattle.pv_types.specs.declared.declaration.Vars.{Vars}
use Rattle.pv_types.specs.Tree.{TypeTree, VarTree, var}
use Rattle.pv_types.specs.View.{type_tree, vars_tree, word_tree, var_trees, listed}
use Rattle.pv_types.specs.Leaves.{instance, section_within}
use Rattle.pv_types.specs.Sizes.{number_where, size_of_type, size_of_fields, size_of_vars}
use Rattle.pv_types.proofs.ForCallers.{vars_seen, vars_from, counted}
use Rattle.pv_tree.specs.Scopes.{is_of_instance}
use Rattle.pv_mean.specs.Counts.{capped}
use Rattle.pv_mean.proofs.Capping.{capped_twice, capped_sum, product_of_capped}

-- a sum that is the one up to the bound goes on
pub goes_on : (r total s x rest whole more : ℕ) → r ≡ capped (total + s) → s ≡ capped x → more ≡ x + rest
    → capped (total + more) ≡ capped whole
    → capped (r + rest) ≡ capped whole
goes_on r total s x rest whole more is part split before =
    capped_sum r (total + x) rest rest
    (ap capped is ∙ capped_twice (total + s) ∙ capped_sum total total s x refl (ap capped part ∙ capped_twice x)) refl
    ∙ (let e : (total + x) + rest ≡ total + more = omega (arith, split) in ap capped e) ∙ before

pub stays_within : (r n : ℕ) → r ≡ capped n → capped r ≡ r
stays_within r n is = ap capped is ∙ capped_twice n ∙ sym is

-- what is counted of variables that are declared at once, times their number
pub times_on : (r total s m n x rest whole more count size : ℕ) → r ≡ capped (total + s) → s ≡ capped (m * n) → m ≡ capped count
    → n ≡ capped size → x ≡ count * size → more ≡ x + rest → capped (total + more) ≡ capped whole → capped (r + rest) ≡ capped whole
times_on r total s m n x rest whole more count size is product counts sizes same split before =
    goes_on r total s x rest whole more is
    (product_of_capped s m n count size product counts sizes ∙ ap capped (sym same)) split before

module _ (f : List ℕ → ℕ) where
  fields_parted : (xs ys : List VarTree)
      → size_of_fields f (listed (xs ++ ys)) ≡ size_of_fields f (listed xs) + size_of_fields f (listed ys)
  fields_parted [] ys = omega arith
  fields_parted (var name section ty start place ∷ xs) ys = let rest = fields_parted xs ys in omega (arith, rest)

  fields_shared : (s : Section) (t : TypeTree) (start : Option Literal) (ws : List (Name × Place))
      → size_of_fields f (listed (map (word_tree s t start) ws)) ≡ length ws * size_of_type f t
  fields_shared s t start [] = omega arith
  fields_shared s t start (w ∷ ws) =
      let rest = fields_shared s t start ws in omega (arith, rest, suc-mul (length ws) (size_of_type f t))

  -- fields that are declared at once are as large as their type, times their number
  fields_of_declared : (v : Vars) → size_of_fields f (listed (vars_tree v)) ≡ length (vars_tree v) * size_of_type f (type_tree v.ty)
  fields_of_declared v =
      ap (λ l. size_of_fields f (listed l)) (vars_seen v)
      ∙ fields_shared v.section (type_tree v.ty) v.start v.names.items
      ∙ ap (λ n. n * size_of_type f (type_tree v.ty)) (sym (counted v))

  pub fields_from : (vars : List Vars) (i : ℕ) (v : Vars) → i < length vars → v ≡ get_or vars i v
      → size_of_fields f (listed (var_trees (drop i vars)))
      ≡ length (vars_tree v) * size_of_type f (type_tree v.ty) + size_of_fields f (listed (var_trees (drop (i + 1) vars)))
  fields_from vars i v inside is =
      ap (λ l. size_of_fields f (listed l)) (vars_from vars i v inside is)
      ∙ fields_parted (vars_tree v) (var_trees (drop (i + 1) vars))
      ∙ ap (λ n. n + size_of_fields f (listed (var_trees (drop (i + 1) vars)))) (fields_of_declared v)

  -- once the loop has gone along all of them
  pub all_counted : (vars : List Vars) (i total whole : ℕ) → length vars ≤ i → capped total ≡ total
      → capped (total + size_of_fields f (listed (var_trees (drop i vars)))) ≡ capped whole → total ≡ capped whole
  all_counted vars i total whole past within left =
      let same : total ≡ total + 0 = omega arith in
      sym within ∙ ap capped same ∙ ap (λ l. capped (total + size_of_fields f (listed (var_trees l)))) (sym (drop_all i vars past)) ∙ left

  parts_parted : (xs ys : List VarTree)
      → size_of_vars f (instance Static) (listed (xs ++ ys))
      ≡ size_of_vars f (instance Static) (listed xs) + size_of_vars f (instance Static) (listed ys)
  parts_parted [] ys = omega arith
  parts_parted (var name section ty start place ∷ xs) ys = let rest = parts_parted xs ys in omega (arith, rest)

  parts_shared : (s : Section) (t : TypeTree) (start : Option Literal) (ws : List (Name × Place))
      → size_of_vars f (instance Static) (listed (map (word_tree s t start) ws))
      ≡ length ws * number_where (section_within (instance Static) s) (size_of_type f t)
  parts_shared s t start [] = omega arith
  parts_shared s t start (w ∷ ws) =
      let rest = parts_shared s t start ws in
      omega (arith, rest, suc-mul (length ws) (number_where (section_within (instance Static) s) (size_of_type f t)))

  pub parts_from : (vars : List Vars) (i : ℕ) (v : Vars) → i < length vars → v ≡ get_or vars i v
      → size_of_vars f (instance Static) (listed (var_trees (drop i vars)))
      ≡ length (vars_tree v) * number_where (section_within (instance Static) v.section) (size_of_type f (type_tree v.ty))
      + size_of_vars f (instance Static) (listed (var_trees (drop (i + 1) vars)))
  parts_from vars i v inside is =
      let rest = size_of_vars f (instance Static) (listed (var_trees (drop (i + 1) vars))) in
      ap (λ l. size_of_vars f (instance Static) (listed l)) (vars_from vars i v inside is)
      ∙ parts_parted (vars_tree v) (var_trees (drop (i + 1) vars))
      ∙ ap (λ l. size_of_vars f (instance Static) (listed l) + rest) (vars_seen v)
      ∙ ap (λ n. n + rest) (parts_shared v.section (type_tree v.ty) v.start v.names.items)
      ∙ ap (λ n. n * number_where (section_within (instance Static) v.section) (size_of_type f (type_tree v.ty)) + rest) (sym (counted v))

-- what counts of a variable that an instance has, and of one that it hasn't
pub part_there : (s : Section) (n : ℕ) → is_of_instance s ≡ true → number_where (section_within (instance Static) s) n ≡ n
part_there Input n is = refl
part_there Output n is = refl
part_there InOut n is = refl
part_there Static n is = refl
part_there Temp n is = absurd (true≢false (sym is))
part_there Const n is = absurd (true≢false (sym is))

pub part_lacking : (s : Section) (n count : ℕ) → is_of_instance s ≡ false
    → 0 ≡ count * number_where (section_within (instance Static) s) n
part_lacking Input n count is = absurd (true≢false is)
part_lacking Output n count is = absurd (true≢false is)
part_lacking InOut n count is = absurd (true≢false is)
part_lacking Static n count is = absurd (true≢false is)
part_lacking Temp n count is = omega arith
part_lacking Const n count is = omega arith
