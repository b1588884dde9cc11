-- The first breach in a pattern's expression, from the nearest places of each rule that an expression can break.
use Rattle.std.proofs.Common.{◌≡◌, inl, inr, refl, sym, subst, List, [], ◌∷◌, map, Option, None, IsTrue}
use Rattle.std.specs.Prelude.{Any}
use Rattle.pv_place.specs.declared.place.Place.{Place}
use Rattle.pv_tree.specs.Tree.{ExprTree}
use Rattle.pv_tree.specs.Scopes.{Scope}
use Rattle.pv_tree.specs.Rules as tree
use Rattle.pv_tree.specs.Rules.{BreaksInParts, BreaksInPattern}
use Rattle.pv_tree.specs.LiteralTypes.{nothing}
use Rattle.pv_tree.specs.Sorts.{is_whole}
use Rattle.pv_tree.specs.Things.{first_place}
use Rattle.pv_tree.specs.Types.{sort_of}
use Rattle.pv_tree.specs.Parts.{Part, parts_of, reads_of_parts, path_of, indexes_of}
use Rattle.pv_tree.specs.Rules.Misfits.{Misapplies, MisusesPath}
use Rattle.pv_tree.specs.Rules.PatternRule.{DividesAt, IsMovingIndex, IsNoPattern}
use Rattle.pv_rules_expr.specs.Nearest.{IsNearest, nearer_of}
use Rattle.pv_rules_expr.specs.Places.{place_where}
use Rattle.pv_rules_expr.specs.Looks.{near_parts}
use Rattle.pv_rules_expr.specs.Near.{near_at}
use Rattle.pv_rules_expr.specs.declared.near.Near.{Near}
use Rattle.pv_rules_expr.specs.declared.search.Look.{Look}
use Rattle.pv_rules_expr.specs.declared.search.Look.TheVariants as look
use Rattle.pv_rules_decl.specs.Least.{IsFirst, least, breach_found, HasRule}
use Rattle.pv_rules_decl.specs.declared.least.Found.{Found}
use Rattle.pv_rules_decl.specs.declared.fault.Breach.{Breach}
use Rattle.pv_rules_decl.specs.declared.fault.Rule.{Rule}
use Rattle.pv_rules_decl.specs.declared.fault.Rule.TheVariants.{MissingName, Misfit, OutOfRange, BeyondBounds, NotCallable, WrongAddress, NoPattern}
use Rattle.pv_rules_decl.proofs.FirstLaws.{first_of_all}
use Rattle.pv_rules_expr.proofs.ForCallers.{nearest_both, nearest_where, misapplied_any, outside_any}
use Rattle.pv_rules_expr.proofs.ForCallers.{beyond_parts, misused_parts, moving_parts, divides_parts}
use Rattle.pv_rules_expr.proofs.ForCallers.{missing_name_parts, not_callable_parts, wrong_address_parts}

-- ---- all rules

abbrev found : Rule → Option Place → Found
found rule place = record { rule = rule; place = place }

-- the rules that an expression can break
abbrev pub pattern_rules : (missing misfit outside beyond void address pattern : Option Place) → List Found
pattern_rules missing misfit outside beyond void address pattern =
    found MissingName missing ∷ found Misfit misfit ∷ found OutOfRange outside ∷ found BeyondBounds beyond ∷ found NotCallable void
    ∷ found WrongAddress address ∷ found NoPattern pattern ∷ []

module _ (scope : Scope) (e : ExprTree) where
  abbrev In : tree.Rule → Place → Type 0
  In r at = BreaksInPattern r scope e at

  has_rule : (missing misfit outside beyond void address pattern : Option Place) (r : tree.Rule) (at : Place) → In r at
      → HasRule r (pattern_rules missing misfit outside beyond void address pattern)
  has_rule n2 n4 n6 n8 n16 n23 n24 tree.missing_name at b = inl refl
  has_rule n2 n4 n6 n8 n16 n23 n24 tree.misfit at b = inr (inl refl)
  has_rule n2 n4 n6 n8 n16 n23 n24 tree.out_of_range at b = inr (inr (inl refl))
  has_rule n2 n4 n6 n8 n16 n23 n24 tree.beyond_bounds at b = inr (inr (inr (inl refl)))
  has_rule n2 n4 n6 n8 n16 n23 n24 tree.not_callable at b = inr (inr (inr (inr (inl refl))))
  has_rule n2 n4 n6 n8 n16 n23 n24 tree.wrong_address at b = inr (inr (inr (inr (inr (inl refl)))))
  has_rule n2 n4 n6 n8 n16 n23 n24 tree.no_pattern at b = inr (inr (inr (inr (inr (inr (inl refl))))))
  has_rule n2 n4 n6 n8 n16 n23 n24 r at b = absurd b

  abbrev parts : List Part
  parts = parts_of scope nothing e

  misfit_nearest : (a b whole : Option Place) → a ≡ near_parts look.Misapplied scope parts None → b ≡ near_parts look.Misused scope parts None
      → whole ≡ place_where (is_whole (sort_of scope e)) (first_place e) → IsNearest (In tree.misfit) (nearer_of (nearer_of a b) whole)
  misfit_nearest a b whole first second third =
      nearest_both (BreaksInParts tree.misfit scope parts) (λ at. (first_place e ≡ at) × IsTrue (is_whole (sort_of scope e))) (nearer_of a b) whole
      (nearest_both (λ at. Any (λ p. Misapplies scope at p.expr) parts)
      (λ at. Any (MisusesPath scope at) (map (path_of scope) (reads_of_parts parts))) a b
      (misapplied_any scope parts a first) (misused_parts scope parts b second))
      (subst (IsNearest (λ at. (first_place e ≡ at) × IsTrue (is_whole (sort_of scope e)))) (sym third)
      (nearest_where (is_whole (sort_of scope e)) (first_place e)))

  no_pattern_nearest : (a b : Option Place) → a ≡ near_parts look.Divides scope parts None → b ≡ near_parts look.Moving scope parts None
      → IsNearest (IsNoPattern scope e) (nearer_of a b)
  no_pattern_nearest a b first second =
      nearest_both (λ at. Any (λ p. DividesAt at p.expr) parts)
      (λ at. Any (λ o. Any (IsMovingIndex at) (indexes_of scope (path_of scope o))) (reads_of_parts parts)) a b
      (divides_parts scope parts a first) (moving_parts scope parts b second)

  -- by the nearest places of all that is looked for in the expression
  pub pattern_near : (n : Near) (whole misfit pattern : Option Place) (o : Option Breach) → ((what : Look) → near_at what n ≡ near_parts what scope parts None)
      → whole ≡ place_where (is_whole (sort_of scope e)) (first_place e) → misfit ≡ nearer_of (nearer_of n.misapplied n.misused) whole
      → pattern ≡ nearer_of n.divides n.moving
      → o ≡ least (map breach_found (pattern_rules n.missing misfit n.outside n.beyond n.void n.address pattern)) → IsFirst In o
  pattern_near n whole misfit pattern o near is_it fits moves is =
      first_of_all In (pattern_rules n.missing misfit n.outside n.beyond n.void n.address pattern) o (
        missing_name_parts scope parts n.missing (near look.Missing),
        (
          subst (IsNearest (In tree.misfit)) (sym fits) (misfit_nearest n.misapplied n.misused whole (near look.Misapplied) (near look.Misused) is_it),
          (
            outside_any scope parts n.outside (near look.Outside),
            (
              beyond_parts scope parts n.beyond (near look.Beyond),
              (
                not_callable_parts scope parts n.void (near look.Void),
                (
                  wrong_address_parts scope parts n.address (near look.Address),
                  (subst (IsNearest (In tree.no_pattern)) (sym moves) (no_pattern_nearest n.divides n.moving (near look.Divides) (near look.Moving)), tt),
                ),
              ),
            ),
          ),
        ),
      )
      (has_rule n.missing misfit n.outside n.beyond n.void n.address pattern) is
