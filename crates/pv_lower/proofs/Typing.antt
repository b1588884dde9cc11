-- How two operands meet, and what a shift is by, as the code finds it.
use Rattle.std.proofs.Common.{◌≡◌, List, [], ◌∷◌, length, map, refl, sym, ap, ◌∙◌, arith}
use Rattle.std.specs.Prelude.{false, nat_lt, unwrap_or}
use Rattle.std.proofs.lemmas.Bool.{ltb-false}
use Rattle.pv_word.specs.declared.types.Ty.TheVariants.{Dint}
use Rattle.pv_tree.specs.declared.expr.Expr.{Expr}
use Rattle.pv_tree.specs.Tree.{ExprTree}
use Rattle.pv_tree.specs.Sorts.{Sort, own_type, taken, wanted_beside, beside, common_type}
use Rattle.pv_tree.specs.Scopes.{Scope}
use Rattle.pv_tree.specs.Types.{sort_of}
use Rattle.pv_tree.specs.View.{expr_tree, exprs_of}
use Rattle.pv_names.specs.Sorts.{want_tree}
use Rattle.pv_lower.specs.declared.types.Meeting.{Meeting}
use Rattle.pv_lower.specs.Lowered.{count_in}
use Rattle.pv_lower.specs.Lowering.{IsMeeting}

pub no_second : (xs : List Expr) → false ≡ nat_lt 1 (length xs) → 0 ≡ count_in (exprs_of (map expr_tree xs))
no_second [] none = refl
no_second (x ∷ []) none = refl
no_second (x ∷ y ∷ xs) none = absurd (omega (arith, ltb-false 1 (length (x ∷ y ∷ xs)) (sym none)))

module _ (m : Meeting) (scope : Scope) (a b : ExprTree) (s t : Sort) (l : s ≡ sort_of scope a) (r : t ≡ sort_of scope b) where
  pub meet_so : want_tree m.want ≡ wanted_beside (s ∷ t ∷ []) → m.ty ≡ unwrap_or (common_type (beside (s ∷ t ∷ []))) Dint
      → m.left ≡ unwrap_or (own_type (taken (wanted_beside (s ∷ t ∷ [])) s)) Dint
      → m.right ≡ unwrap_or (own_type (taken (wanted_beside (s ∷ t ∷ [])) t)) Dint → IsMeeting m scope a b
  meet_so want ty left right = record {
    wanted = want ∙ ap (λ (x : Sort). wanted_beside (x ∷ t ∷ [])) l ∙ ap (λ (y : Sort). wanted_beside (sort_of scope a ∷ y ∷ [])) r;
    met = ty ∙ ap (λ (x : Sort). unwrap_or (common_type (beside (x ∷ t ∷ []))) Dint) l
        ∙ ap (λ (y : Sort). unwrap_or (common_type (beside (sort_of scope a ∷ y ∷ []))) Dint) r;
    of_left = left ∙ ap (λ (x : Sort). unwrap_or (own_type (taken (wanted_beside (x ∷ t ∷ [])) x)) Dint) l
        ∙ ap (λ (y : Sort). unwrap_or (own_type (taken (wanted_beside (sort_of scope a ∷ y ∷ [])) (sort_of scope a))) Dint) r;
    of_right = right ∙ ap (λ (x : Sort). unwrap_or (own_type (taken (wanted_beside (x ∷ t ∷ [])) t)) Dint) l
        ∙ ap (λ (y : Sort). unwrap_or (own_type (taken (wanted_beside (sort_of scope a ∷ y ∷ [])) y)) Dint) r;
  }
