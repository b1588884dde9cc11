-- What a case binds lies in the cell's type, and the rest of what it says of cells leaves what they begin with.
use Rattle.std.proofs.Common.{◌≡◌, ℕ, zero, suc, ℤ, List, [], ◌∷◌, Bool, true, false, cond, ◌&&◌, Option, Some, None, IfSome, slice_get, refl, sym, subst, ◌∙◌, arith}
use Rattle.std.specs.Prelude.{option_map}
use Rattle.std.specs.List.{AllByRecursion, cons_option}
use Rattle.std.proofs.lemmas.Int.{ints}
use Rattle.std.proofs.lemmas.Option.{none-some}
use Rattle.pv_word.specs.declared.types.Ty.{Ty}
use Rattle.pv_word.specs.Types.{InRange}
use Rattle.pv_place.specs.declared.role.Role.{Role}
use Rattle.pv_place.specs.declared.role.Role.TheVariants.{Input, Param, Kept, Brief}
use Rattle.pv_mean.specs.declared.cell.Cell.{Cell}
use Rattle.pv_mean.specs.Cells.{View, changed_at, as_param, as_bound, with_params, with_bindings, with_view}
use Rattle.pv_mean.specs.Correct.{BindsInRange}
use Rattle.pv_case_fit.specs.Inputs.{holds as cell_holds, fits_at, with_some, first_misfit, number_of_input, bounds_of, Views}
use Rattle.pv_laws_starts.specs.Binding.{IsInType, BindsInTypes}
use Rattle.pv_laws_starts.proofs.Declared.{in_range}
use Rattle.pv_laws_starts.proofs.Beginning.{Begin}

-- ---- a cell that begins in its type, and is bound in it

record IsGood (c : Cell) : Type 0 where
  start : InRange c.ty c.start
  bound : IfSome c.bound (InRange c.ty)

abbrev Good : List Cell → Type 0
Good cells = AllByRecursion IsGood cells

param_good : (c : Cell) → IsGood c → IsGood (as_param c)
param_good c g = record { start = g.start; bound = g.bound }

bound_good : (c : Cell) (v : ℤ) → InRange c.ty v → IsGood c → IsGood (as_bound v c)
bound_good c v w g = record { start = g.start; bound = w }

changed_param : (cells : List Cell) (n : ℕ) → Good cells → Good (changed_at as_param cells n)
changed_param [] n g = tt
changed_param (c ∷ cs) zero g = (param_good c g.0, g.1)
changed_param (c ∷ cs) (suc n) g = (g.0, changed_param cs n g.1)

changed_bound : (cells : List Cell) (n : ℕ) (v : ℤ) → IfSome (slice_get cells n) (λ c. InRange c.ty v) → Good cells
    → Good (changed_at (as_bound v) cells n)
changed_bound [] n v w g = tt
changed_bound (c ∷ cs) zero v w g = (bound_good c v w g.0, g.1)
changed_bound (c ∷ cs) (suc n) v w g = (g.0, changed_bound cs n v w g.1)

-- ---- types stay

changed_types : (change : Cell → Cell) → ((c : Cell) → (change c).ty ≡ c.ty) → (cells : List Cell) (n k : ℕ) (v : ℤ)
    → IfSome (slice_get cells k) (λ c. InRange c.ty v) → IfSome (slice_get (changed_at change cells n) k) (λ c. InRange c.ty v)
changed_types change same [] n k v w = w
changed_types change same (c ∷ cs) zero zero v w = subst (λ ty. InRange ty v) (sym (same c)) w
changed_types change same (c ∷ cs) zero (suc k) v w = w
changed_types change same (c ∷ cs) (suc n) zero v w = w
changed_types change same (c ∷ cs) (suc n) (suc k) v w = changed_types change same cs n k v w

all_changed : (change : Cell → Cell) → ((c : Cell) → (change c).ty ≡ c.ty) → (cells : List Cell) (n : ℕ) (bs : List (ℕ × ℤ))
    → AllByRecursion (IsInType cells) bs → AllByRecursion (IsInType (changed_at change cells n)) bs
all_changed change same cells n [] a = tt
all_changed change same cells n (b ∷ more) a = (changed_types change same cells n b.0 b.1 a.0, all_changed change same cells n more a.1)

params_good : (ns : List ℕ) (cells : List Cell) (bs : List (ℕ × ℤ)) → Good cells → AllByRecursion (IsInType cells) bs
    → Good (with_params ns cells) × AllByRecursion (IsInType (with_params ns cells)) bs
params_good [] cells bs g a = (g, a)
params_good (n ∷ more) cells bs g a =
    params_good more (changed_at as_param cells n) bs (changed_param cells n g) (all_changed as_param (λ c. refl) cells n bs a)

bindings_good : (bs : List (ℕ × ℤ)) (cells : List Cell) → Good cells → AllByRecursion (IsInType cells) bs → Good (with_bindings bs cells)
bindings_good [] cells g a = g
bindings_good (b ∷ more) cells g a =
    bindings_good more (changed_at (as_bound b.1) cells b.0) (changed_bound cells b.0 b.1 a.0 g)
    (all_changed (as_bound b.1) (λ c. refl) cells b.0 more a.1)

view_good : (view : View) (cells : List Cell) → Good cells → BindsInTypes cells view → Good (with_view view cells)
view_good view cells g a =
    let p = params_good view.params cells view.bound g a in bindings_good view.bound (with_params view.params cells) p.0 p.1

-- ---- what is asked of a source

good : (cells : List Cell) → Begin cells → Good cells
good [] a = tt
good (c ∷ cs) a = (record { start = a.0.start; bound = subst (λ o. IfSome o (InRange c.ty)) (sym a.0.unbound) tt }, good cs a.1)

binds : (path : List ℕ) (ty : Ty) (start : ℤ) (role : Role) (bound : Option ℤ) → IfSome bound (InRange ty)
    → BindsInRange (record { path = path; ty = ty; start = start; role = role; bound = bound })
binds path ty start Input bound is = λ v w. w
binds path ty start Param None is = λ v w. w
binds path ty start Param (Some b) is = λ v w. record {
  from = omega (arith, ints, is.from, w.from);
  to = omega (arith, ints, is.to, w.to);
}
binds path ty start Kept bound is = λ v w. w
binds path ty start Brief bound is = λ v w. w

good_start : (cells : List Cell) → Good cells → AllByRecursion (λ c. InRange c.ty c.start) cells
good_start [] g = tt
good_start (c ∷ cs) g = (g.0.start, good_start cs g.1)

good_bound : (cells : List Cell) → Good cells → AllByRecursion BindsInRange cells
good_bound [] g = tt
good_bound (c ∷ cs) g = (binds c.path c.ty c.start c.role c.bound g.0.bound, good_bound cs g.1)

-- both of the cells as a case has them
pub viewed : (view : View) (cells : List Cell) → Begin cells → BindsInTypes cells view
    → AllByRecursion (λ c. InRange c.ty c.start) (with_view view cells) × AllByRecursion BindsInRange (with_view view cells)
viewed view cells a w =
    let g = view_good view cells (good cells a) w in (good_start (with_view view cells) g, good_bound (with_view view cells) g)

-- ---- bound values that fit

holds_in : (o : Option Cell) (v : ℤ) → cell_holds o v ≡ true → IfSome o (λ c. InRange c.ty v)
holds_in None v e = tt
holds_in (Some c) v e = in_range c.ty v e

left_true : (a b : Bool) → a && b ≡ true → a ≡ true
left_true true b e = refl
left_true false b e = e

misfit_here : (t : Bool) (rest here : Option (List ℕ)) (path : List ℕ) → here ≡ Some path → cond t rest here ≡ None
    → (t ≡ true) × (rest ≡ None)
misfit_here true rest here path is e = (refl, e)
misfit_here false rest here path is e = absurd (none-some path (sym e ∙ is))

all_bound : (cells : List Cell) (earlier : List ℕ) (bind : List (List ℕ × ℤ)) → first_misfit cells earlier bind ≡ None
    → AllByRecursion (IsInType cells) (bounds_of cells bind)
all_bound cells earlier [] e = tt
all_bound cells earlier (b ∷ more) e =
    let w = misfit_here (fits_at cells earlier b.1 (number_of_input cells b.0))
    (first_misfit cells (with_some earlier (number_of_input cells b.0)) more) (Some b.0) b.0 refl e in
    lead (number_of_input cells b.0) w.0 (all_bound cells (with_some earlier (number_of_input cells b.0)) more w.1)
  where
    lead : (o : Option ℕ) → fits_at cells earlier b.1 o ≡ true → AllByRecursion (IsInType cells) (bounds_of cells more)
        → AllByRecursion (IsInType cells) (cons_option (option_map (λ n. (n, b.1)) o) (bounds_of cells more))
    lead None fits rest = rest
    lead (Some n) fits rest = (holds_in (slice_get cells n) b.1 (left_true (cell_holds (slice_get cells n) b.1) _ fits), rest)

pub view_binds : (cells : List Cell) (params : List (List ℕ)) (bind : List (List ℕ × ℤ)) (view : View)
    → Views cells params bind view.params view.bound → BindsInTypes cells view
view_binds cells params bind view v =
    subst (λ bs. AllByRecursion (IsInType cells) bs) (sym v.bounds_are) (all_bound cells [] bind v.all_fit)
