-- One cell of a table, changed in place.
use Rattle.std.proofs.Common.{◌≡◌, ◌<◌, ℕ, zero, suc, ℤ, List, [], ◌∷◌, length, map, set, get_or, refl, ap, ◌∙◌, arith}
use Rattle.pv_mean.specs.declared.cell.Cell.{Cell}
use Rattle.pv_mean.specs.Cells.{View, changed_at, as_param, as_bound, with_params, with_bindings, with_view}

pub set-changed : (change : Cell → Cell) (cells : List Cell) (n : ℕ) (d : Cell) → n < length cells
    → set cells n (change (get_or cells n d)) ≡ changed_at change cells n
set-changed change [] n d lt = refl
set-changed change (c ∷ cs) zero d lt = refl
set-changed change (c ∷ cs) (suc n) d lt = ap (λ l. c ∷ l) (set-changed change cs n d (omega arith))

pub changed-length : (change : Cell → Cell) (cells : List Cell) (n : ℕ) → length (changed_at change cells n) ≡ length cells
changed-length change [] n = refl
changed-length change (c ∷ cs) zero = refl
changed-length change (c ∷ cs) (suc n) = ap suc (changed-length change cs n)

-- what a change leaves of a cell stays
pub changed-map : {X : Type 0} (f : Cell → X) (change : Cell → Cell) → ((c : Cell) → f (change c) ≡ f c) → (cells : List Cell) (n : ℕ)
    → map f (changed_at change cells n) ≡ map f cells
changed-map f change same [] n = refl
changed-map f change same (c ∷ cs) zero = ap (λ x. x ∷ map f cs) (same c)
changed-map f change same (c ∷ cs) (suc n) = ap (λ xs. f c ∷ xs) (changed-map f change same cs n)

params-map : {X : Type 0} (f : Cell → X) → ((c : Cell) → f (as_param c) ≡ f c) → (ns : List ℕ) (cells : List Cell)
    → map f (with_params ns cells) ≡ map f cells
params-map f same [] cells = refl
params-map f same (n ∷ more) cells = params-map f same more (changed_at as_param cells n) ∙ changed-map f as_param same cells n

bindings-map : {X : Type 0} (f : Cell → X) → ((v : ℤ) (c : Cell) → f (as_bound v c) ≡ f c) → (bs : List (ℕ × ℤ)) (cells : List Cell)
    → map f (with_bindings bs cells) ≡ map f cells
bindings-map f same [] cells = refl
bindings-map f same (b ∷ more) cells =
    bindings-map f same more (changed_at (as_bound b.1) cells b.0) ∙ changed-map f (as_bound b.1) (same b.1) cells b.0

pub view-map : {X : Type 0} (f : Cell → X) → ((c : Cell) → f (as_param c) ≡ f c) → ((v : ℤ) (c : Cell) → f (as_bound v c) ≡ f c) → (view : View)
    (cells : List Cell) → map f (with_view view cells) ≡ map f cells
view-map f param bind view cells = bindings-map f bind view.bound (with_params view.params cells) ∙ params-map f param view.params cells
