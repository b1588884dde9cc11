-- The nearest place over lists of parts: one list behind another, and an expression's parts by its form.
use Rattle.std.proofs.Common.{◌≡◌, ℕ, ◌<◌, ◌+◌, suc, refl, sym, ap, ◌∙◌, List, [], ◌∷◌, ◌++◌, Option, map, drop, get_or, length, arith, Result, Ok, Err, IfOk}
use Rattle.std.specs.Prelude.{flat_map, option_to_list, Some, None}
use Rattle.std.proofs.Math.Seq.{drop-cons}
use Rattle.pv_place.specs.declared.place.Place.{Place}
use Rattle.pv_tree.specs.Tree.{CallPlain}
use Rattle.pv_tree.specs.View.{exprs_of, expr_tree}
use Rattle.pv_tree.specs.declared.expr.Expr.{Expr}
use Rattle.pv_tree.specs.LiteralTypes.{Want}
use Rattle.pv_tree.specs.Scopes.{Scope}
use Rattle.pv_tree.specs.Types.{sorts_of}
use Rattle.pv_tree.specs.Parts.{Part, parts_of, parts_of_args, parts_of_call, site}
use Rattle.pv_tree.specs.Callees.{How}
use Rattle.pv_rules_expr.specs.declared.search.Look.{Look}
use Rattle.pv_rules_expr.specs.Looks.{nearer_of, part_place, near_parts, first_then, args_parts}

module _ (what : Look) (scope : Scope) where
  pub near_append : (xs ys : List Part) (n : Option Place)
      → near_parts what scope (xs ++ ys) n ≡ near_parts what scope ys (near_parts what scope xs n)
  near_append [] ys n = refl
  near_append (x ∷ xs) ys n = near_append xs ys (nearer_of n (part_place what scope x.want x.expr))

  -- arguments
  others_parts : (w : Want) (es : List Expr)
      → parts_of_args scope (map (λ s. w) (sorts_of scope (exprs_of (map expr_tree es)))) (exprs_of (map expr_tree es))
      ≡ args_parts scope w w (map expr_tree es)
  others_parts w [] = refl
  others_parts w (e ∷ es) = ap (λ l. parts_of scope w (expr_tree e) ++ l) (others_parts w es)

  pub all_args : (a b : Want) (es : List Expr)
      → parts_of_args scope (first_then a b (sorts_of scope (exprs_of (map expr_tree es)))) (exprs_of (map expr_tree es))
      ≡ args_parts scope a b (map expr_tree es)
  all_args a b [] = refl
  all_args a b (e ∷ es) = ap (λ l. parts_of scope a (expr_tree e) ++ l) (others_parts b es)

  -- one list behind another
  pub near_two : (xs ys : List Part) (n m new : Option Place) → m ≡ near_parts what scope xs n → new ≡ near_parts what scope ys m
      → new ≡ near_parts what scope (xs ++ ys) n
  near_two xs ys n m new first second = second ∙ ap (near_parts what scope ys) first ∙ sym (near_append xs ys n)

  -- an operand's parts, and those of an option's call behind them
  pub near_called : (xs : List Part) (how : How) (o : Option CallPlain) (call : CallPlain) (m new : Option Place) → o ≡ Some call
      → m ≡ near_parts what scope xs None → new ≡ near_parts what scope (parts_of_call scope (site how call)) m
      → new ≡ near_parts what scope (xs ++ flat_map (parts_of_call scope) (map (site how) (option_to_list o))) None
  near_called xs how o call m new is first second =
      near_two xs (flat_map (parts_of_call scope) (map (site how) (option_to_list o))) None m new first
      (second ∙ sym (near_append (parts_of_call scope (site how call)) [] m)
      ∙ ap (λ x. near_parts what scope (flat_map (parts_of_call scope) (map (site how) (option_to_list x))) m) (sym is))

  -- one element more of those whose parts are left
  pub next_parts : {X Y : Type 0} (h : Y → List Part) (g : X → Y) (xs : List X) (i j : ℕ) (x : X) (n m total : Option Place) → i < length xs
      → x ≡ get_or xs i x → j ≡ i + 1 → m ≡ near_parts what scope (h (g x)) n
      → near_parts what scope (flat_map h (map g (drop i xs))) n ≡ total → near_parts what scope (flat_map h (map g (drop j xs))) m ≡ total
  next_parts h g xs i j x n m total inside is next looked left =
      let k : j ≡ suc i = omega (arith, next) in
      let rest = flat_map h (map g (drop (suc i) xs)) in
      ap (λ k. near_parts what scope (flat_map h (map g (drop k xs))) m) k
      ∙ ap (near_parts what scope rest) looked
      ∙ sym (near_append (h (g x)) rest n)
      ∙ ap (λ l. near_parts what scope (flat_map h (map g l)) n) (sym (drop-cons xs i x inside ∙ ap (λ y. y ∷ drop (suc i) xs) (sym is)))
      ∙ left

pub if_ok : {T E : Type 0} {P Q : T → Type 0} (r : Result T E) → ((t : T) → P t → Q t) → IfOk r P → IfOk r Q
if_ok (Ok t) f h = f t h
if_ok (Err e) f h = tt
