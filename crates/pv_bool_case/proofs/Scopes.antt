-- The code's tables of names as the project and the block that they are of.
use Rattle.std.proofs.Common.{◌≡◌, ◌<◌, ℕ, List, length, map, get_or, Some, Result, refl, sym, ap, subst, ◌∙◌}
use Rattle.std.specs.Prelude.{slice_get, option_map}
use Rattle.std.proofs.lemmas.Option.{same_Some, slice_get_read, slice_get-map}
use Rattle.pv_tree.specs.declared.expr.Expr.{Expr}
use Rattle.pv_tree.specs.Tree.{BlockTree}
use Rattle.pv_tree.specs.Scopes.{SymbolTree, ProjectTree, Scope}
use Rattle.pv_pattern_read.specs.declared.fault.TextFault.{TextFault}
use Rattle.pv_pattern_read.specs.Answers.{AnswersText}

pub same_scope : (project other : ProjectTree) (block entered : BlockTree) → project ≡ other → block ≡ entered
    → (let s : Scope = record { project = project; block = block } in s) ≡ record { project = other; block = entered }
same_scope project other block entered p b =
    ap (λ x. let s : Scope = record { project = x; block = block } in s) p
    ∙ ap (λ x. let s : Scope = record { project = other; block = x } in s) b

pub in_scope : (scope other : Scope) (text : List ℕ) (result : Result Expr TextFault) → scope ≡ other → AnswersText scope text result
    → AnswersText other text result
in_scope scope other text result same is =
    let P : Scope → Type 0 = λ s. AnswersText s text result in subst P same is

pub same_project : (blocks other : List BlockTree) (symbols others : List SymbolTree) → blocks ≡ other → symbols ≡ others
    → (let p : ProjectTree = record { blocks = blocks; symbols = symbols } in p) ≡ record { blocks = other; symbols = others }
same_project blocks other symbols others b s =
    ap (λ x. let p : ProjectTree = record { blocks = x; symbols = symbols } in p) b
    ∙ ap (λ x. let p : ProjectTree = record { blocks = other; symbols = x } in p) s

pub entered_is : {X Y : Type 0} (f : X → Y) (xs : List X) (n : ℕ) (x : X) (y : Y) → n < length xs → x ≡ get_or xs n x
    → slice_get (map f xs) n ≡ Some y → f x ≡ y
entered_is f xs n x y inside is e =
    same_Some (f x) y (ap (option_map f) (sym (slice_get_read xs (length xs) n x refl inside is)) ∙ sym (slice_get-map f xs n) ∙ e)
