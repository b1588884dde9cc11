-- Lists of expressions, steps and arguments with one place.
use Rattle.std.proofs.Common.{◌≡◌, ℕ, ◌≤◌, List, [], ◌∷◌, length, map, take, Option, refl, ap, ◌∙◌}
use Rattle.std.proofs.lemmas.List.{take_all}
use Rattle.pv_types.specs.declared.name.Name.{Name}
use Rattle.pv_tree.specs.declared.stmt.CallTree.{CallTree}
use Rattle.pv_place.specs.declared.place.Place.{Place}
use Rattle.pv_tree.specs.declared.expr.Expr.{Expr}
use Rattle.pv_tree.specs.declared.expr.Step.{Step}
use Rattle.pv_tree.specs.declared.stmt.Arg.{Arg}
use Rattle.pv_tree.specs.Tree.{exprs, steps, PlacedName, ArgTree, CallPlain}
use Rattle.pv_tree.specs.View.{expr_tree, exprs_of, step_tree, steps_of, arg_tree, call_tree}
use Rattle.pv_mean.specs.Placed.{placed, all_placed, step_placed, steps_placed, arg_placed, call_placed}

pub each-placed : (at : Place) (xs : List Expr) → exprs_of (map (λ e. placed at (expr_tree e)) xs) ≡ all_placed at (exprs_of (map expr_tree xs))
each-placed at [] = refl
each-placed at (x ∷ xs) = ap (exprs (placed at (expr_tree x))) (each-placed at xs)

pub each-step-placed : (at : Place) (xs : List Step)
    → steps_of (map (λ s. step_placed at (step_tree s)) xs) ≡ steps_placed at (steps_of (map step_tree xs))
each-step-placed at [] = refl
each-step-placed at (x ∷ xs) = ap (steps (step_placed at (step_tree x))) (each-step-placed at xs)

pub each-arg-placed : (at : Place) (xs : List Arg) → map (λ a. arg_placed at (arg_tree a)) xs ≡ map (arg_placed at) (map arg_tree xs)
each-arg-placed at [] = refl
each-arg-placed at (x ∷ xs) = ap (λ l. arg_placed at (arg_tree x) ∷ l) (each-arg-placed at xs)

-- as loops go along them
pub placed-whole : (at : Place) (copies xs all : List Expr) (n : ℕ) → length xs ≤ n → xs ≡ all
    → map expr_tree copies ≡ map (λ e. placed at (expr_tree e)) (take n xs)
    → exprs_of (map expr_tree copies) ≡ all_placed at (exprs_of (map expr_tree all))
placed-whole at copies xs all n end same inv =
    ap exprs_of inv ∙ ap (λ l. exprs_of (map (λ e. placed at (expr_tree e)) l)) (take_all n xs end ∙ same) ∙ each-placed at all

pub steps-placed-whole : (at : Place) (copies xs all : List Step) (n : ℕ) → length xs ≤ n → xs ≡ all
    → map step_tree copies ≡ map (λ s. step_placed at (step_tree s)) (take n xs)
    → steps_of (map step_tree copies) ≡ steps_placed at (steps_of (map step_tree all))
steps-placed-whole at copies xs all n end same inv =
    ap steps_of inv ∙ ap (λ l. steps_of (map (λ s. step_placed at (step_tree s)) l)) (take_all n xs end ∙ same) ∙ each-step-placed at all

pub args-placed-whole : (at : Place) (copies xs all : List Arg) (n : ℕ) → length xs ≤ n → xs ≡ all
    → map arg_tree copies ≡ map (λ a. arg_placed at (arg_tree a)) (take n xs)
    → map arg_tree copies ≡ map (arg_placed at) (map arg_tree all)
args-placed-whole at copies xs all n end same inv =
    inv ∙ ap (map (λ a. arg_placed at (arg_tree a))) (take_all n xs end ∙ same) ∙ each-arg-placed at all

abbrev pub call_by : CallTree → Name → Option PlacedName → List ArgTree → CallPlain
call_by call name base args = record {
  name = name;
  name_place = call.name_place;
  hash = call.hash;
  base = base;
  args = args;
  place = call.place;
}

pub call-seen : (call : CallTree) (name : Name) (base : Option PlacedName) (args : List Arg) → name ≡ call.name → base ≡ call.base
    → map arg_tree args ≡ map (arg_placed call.place) (map arg_tree call.args.items)
    → call_by call name base (map arg_tree args) ≡ call_placed (call_tree call)
call-seen call name base args same is all =
    ap (λ n. call_by call n base (map arg_tree args)) same ∙ ap (λ b. call_by call call.name b (map arg_tree args)) is
    ∙ ap (call_by call call.name call.base) all
