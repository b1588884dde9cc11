-- The first stray path of all that are listed, by the parameters and by the bound inputs.
use Rattle.std.proofs.Common.{◌≡◌, ℕ, List, [], ◌∷◌, map, Option, Some, None, refl, sym, ap, ◌∙◌}
use Rattle.std.specs.Prelude.{ℤ, string_bytes}
use Rattle.pv_mean.specs.declared.cell.Cell.{Cell}
use Rattle.pv_case.specs.declared.case.Bound.{Bound}
use Rattle.pv_case.specs.Cases.{bound_data}
use Rattle.pv_case_fit.specs.Inputs.{is_no_input, first_stray, listed}
use Rattle.pv_case_fit.proofs.Walking.{found_front, found_behind}

-- a stray parameter is the first
pub stray_front : (cells : List Cell) (params given : List (List ℕ)) (bind : List (List ℕ × ℤ)) (o : Option (List ℕ)) (path : List ℕ) → given ≡ params
    → o ≡ first_stray cells given → o ≡ Some path → Some path ≡ first_stray cells (listed params bind)
stray_front cells params given bind o path same first some =
    sym (found_front (is_no_input cells) params (map (λ b. b.0) bind) path (ap (first_stray cells) (sym same) ∙ sym first ∙ some))

paths_bound : (bind : List Bound) → map (λ (b : Bound). string_bytes b.path) bind ≡ map (λ b. b.0) (map bound_data bind)
paths_bound [] = refl
paths_bound (b ∷ more) = ap (λ l. string_bytes b.path ∷ l) (paths_bound more)

-- where no parameter is one, it is that of the bound inputs
pub stray_behind : (cells : List Cell) (params given : List (List ℕ)) (bind bound : List Bound) (o p : Option (List ℕ)) → given ≡ params → bound ≡ bind
    → o ≡ first_stray cells given → o ≡ None → p ≡ first_stray cells (map (λ (b : Bound). string_bytes b.path) bound)
    → p ≡ first_stray cells (listed params (map bound_data bind))
stray_behind cells params given bind bound o p same alike first none second =
    second ∙ ap (λ l. first_stray cells (map (λ (b : Bound). string_bytes b.path) l)) alike
    ∙ ap (first_stray cells) (paths_bound bind)
    ∙ sym (found_behind (is_no_input cells) params (map (λ b. b.0) (map bound_data bind))
    (ap (first_stray cells) (sym same) ∙ sym first ∙ none))
