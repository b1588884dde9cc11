-- The statements of a branch are less deep than their CASE: the measure of the walk over statements.
use Rattle.std.proofs.Common.{◌≡◌, ℕ, ◌<◌, ◌≤◌, ap, ◌∙◌, List, get_or, length, max, arith}
use denote.Param.Weighed.{most, at_most}
use Rattle.pv_place.specs.declared.place.Place.{Place}
use Rattle.pv_tree.specs.declared.stmt.Stmt.TheViews as form

pub under_most : {B X : Type 0} (size : X → ℕ) (f : B → List X) (bs : List B) (i : ℕ) (b : B) (list : List X) → i < length bs → b ≡ get_or bs i b
    → list ≡ f b → most size list ≤ most (λ y. max 0 (most size (f y))) bs
under_most size f bs i b list inside is same =
    let at = at_most (λ y. max 0 (most size (f y))) bs i b inside in
    let its : most size list ≡ most size (f (get_or bs i b)) = ap (most size) (same ∙ ap f is) in
    omega (arith, at, its)

pub case_falls : (selector : _) (bs : _) (other : _) (place : Place)
    → most (λ b. max 0 (most form.size-Stmt b.1.items)) bs.items < form.size-Stmt (form.Case selector bs other place)
case_falls selector bs other place = grind (arith, form.sized-Case selector bs other place)
