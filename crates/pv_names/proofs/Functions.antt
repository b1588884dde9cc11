-- What standard functions want of their arguments, where they want the same of all.
use Rattle.std.proofs.Common.{◌≡◌, refl, sym, ap, ◌∙◌, List, [], ◌∷◌, map, Option, Some, None, true, Bool, not, is_none, ◌&&◌, ◌||◌, if◌then◌else◌}
use Rattle.std.specs.List.{list_any}
use Rattle.std.specs.Prelude.{option_and_then}
use Rattle.pv_word.specs.declared.types.Ty.{Ty}
use Rattle.pv_tree.specs.declared.expr.StdFunction.TheVariants.{Sel}
use Rattle.pv_tree.specs.LiteralTypes.{Want, nothing, is_whole_number}
use Rattle.pv_tree.specs.Sorts as sorts
use Rattle.pv_tree.specs.Sorts.{Sort, own_type, taken, taken_each}

pub taken_same : (w : Want) (ss : List Sort) → map (taken w) ss ≡ taken_each (map (λ s. w) ss) ss
taken_same w [] = refl
taken_same w (s ∷ ss) = ap (λ l. taken w s ∷ l) (taken_same w ss)

pub choice_some : (first : Sort) (more all : List Sort) (ty : Ty) (o : Option Ty) → all ≡ first ∷ more
    → Some ty ≡ own_type (taken nothing first)
    → sorts.is_bool ty ≡ true → o ≡ sorts.common_type (map (taken (sorts.wanted_beside more)) more)
    → o ≡ sorts.choice_result (sorts.arguments_of Sel all)
choice_some first more all ty o are own bool is =
    let x = sorts.common_type (taken_each (map (λ s. sorts.wanted_beside more) more) more) in
    is ∙ ap sorts.common_type (taken_same (sorts.wanted_beside more) more)
    ∙ sym (ap (λ b. if b then x else None) bool)
    ∙ ap (option_and_then (λ ty. if sorts.is_bool ty then x else None)) own
    ∙ ap (λ l. sorts.choice_result (sorts.arguments_of Sel l)) (sym are)

-- MIN and its like
pub same_of_all : (w : Want) (ss : List Sort) (o : Option Ty) → o ≡ sorts.common_type (map (taken w) ss)
    → option_and_then (sorts.type_where is_whole_number) o
    ≡ option_and_then (sorts.type_where is_whole_number) (sorts.common_type (taken_each (map (λ s. w) ss) ss))
same_of_all w ss o is = ap (option_and_then (sorts.type_where is_whole_number)) (is ∙ ap sorts.common_type (taken_same w ss))

-- what is taken stays whole, and broken
whole_taken : (w : Want) (s : Sort) → sorts.is_whole s ≡ sorts.is_whole (taken w s)
whole_taken w (sorts.untyped v) = refl
whole_taken w (sorts.typed ty v) = refl
whole_taken w (sorts.one ty) = refl
whole_taken w sorts.whole = refl
whole_taken w sorts.broken = refl

broken_taken : (w : Want) (s : Sort) → sorts.is_broken s ≡ sorts.is_broken (taken w s)
broken_taken w (sorts.untyped v) = refl
broken_taken w (sorts.typed ty v) = refl
broken_taken w (sorts.one ty) = refl
broken_taken w sorts.whole = refl
broken_taken w sorts.broken = refl

any_taken : (test : Sort → Bool) → ((w : Want) (s : Sort) → test s ≡ test (taken w s)) → (ws : List Want) (ss : List Sort)
    → list_any test ss ≡ list_any test (taken_each ws ss)
any_taken test same ws [] = refl
any_taken test same [] (s ∷ ss) = ap (λ b. b || list_any test ss) (same nothing s) ∙ ap (λ b. test (taken nothing s) || b) (any_taken test same [] ss)
any_taken test same (w ∷ ws) (s ∷ ss) = ap (λ b. b || list_any test ss) (same w s) ∙ ap (λ b. test (taken w s) || b) (any_taken test same ws ss)

pub misfits_taken : (o : Option Ty) (ws : List Want) (ss : List Sort) → sorts.misfits o ss ≡ sorts.misfits o (taken_each ws ss)
misfits_taken o ws ss =
    ap (λ b. is_none o && (b || not (list_any sorts.is_broken ss))) (any_taken sorts.is_whole whole_taken ws ss)
    ∙ ap (λ b. is_none o && (list_any sorts.is_whole (taken_each ws ss) || not b)) (any_taken sorts.is_broken broken_taken ws ss)

pub misfits_beside : (o : Option Ty) (a b : Sort) → sorts.misfits o (a ∷ b ∷ []) ≡ sorts.misfits o (sorts.beside (a ∷ b ∷ []))
misfits_beside o a b =
    let w = sorts.wanted_beside (a ∷ b ∷ []) in misfits_taken o (w ∷ w ∷ []) (a ∷ b ∷ [])

pub misfits_alone : (o : Option Ty) (a : Sort) → sorts.misfits o (a ∷ []) ≡ sorts.misfits o (taken nothing a ∷ [])
misfits_alone o a = misfits_taken o (nothing ∷ []) (a ∷ [])
