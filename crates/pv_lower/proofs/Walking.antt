-- One step, and one argument, more: what is reached and given along a list, by what is along its front.
use Rattle.std.proofs.Common.{◌≡◌, ℕ, zero, suc, List, [], ◌∷◌, ◌++◌, length, append_assoc, append-nil, refl, sym, ap, ◌∙◌}
use Rattle.pv_tree.specs.Tree.{ExprTree, StepTree, BlockTree}
use Rattle.pv_tree.specs.View.{exprs_of, steps_of}
use Rattle.pv_tree.specs.LiteralTypes.{Want, nothing}
use Rattle.pv_mean.specs.Sources.{Source}
use Rattle.pv_terms.specs.Forms.{Typed}
use Rattle.pv_access.specs.Accesses.{Check}
use Rattle.pv_lower.specs.Storages.{Access}
use Rattle.pv_lower.specs.Lowered.{Accessed, Arguments, scope_of, reached_behind, no_arguments, argument_before, lowered, arguments, reached, stepped}
use Rattle.pv_lower.proofs.Behind.{arguments_then}

module _ (source : Source) (block : BlockTree) where
  -- ---- steps

  abbrev pub step_more : Accessed → StepTree → Accessed
  step_more acc s = reached_behind acc.checks (stepped source block acc.access s)

  pub reached_more : (a : Access) (xs : List StepTree) (s : StepTree)
      → reached source block a (steps_of (xs ++ s ∷ [])) ≡ step_more (reached source block a (steps_of xs)) s
  reached_more a [] s =
      ap (λ (c : List Check). record { checks = c; access = (stepped source block a s).access }) (append-nil (stepped source block a s).checks)
  reached_more a (x ∷ xs) s =
      let here = stepped source block a x in
      let rest = reached source block here.access (steps_of xs) in
      ap (reached_behind here.checks) (reached_more here.access xs s)
      ∙ ap (λ (c : List Check). record { checks = c; access = (stepped source block rest.access s).access })
      (sym (append_assoc here.checks rest.checks (stepped source block rest.access s).checks))

  -- ---- arguments

  -- what is wanted of the argument of this number
  abbrev pub wanted_at : List Want → ℕ → Want
  wanted_at [] n = nothing
  wanted_at (want ∷ wants) zero = want
  wanted_at (want ∷ wants) (suc n) = wanted_at wants n

  abbrev pub one_argument : Want → ExprTree → Arguments
  one_argument want e = argument_before (scope_of source block) want e (lowered source block want e) no_arguments

  joined_both : (c d e : List Check) (x y z : List Typed)
      → ◌≡◌ {A = Arguments} (record { checks = c ++ (d ++ e); terms = x ++ (y ++ z) }) (record { checks = (c ++ d) ++ e; terms = (x ++ y) ++ z })
  joined_both c d e x y z =
      ap (λ (l : List Check). record { checks = l; terms = x ++ (y ++ z) }) (sym (append_assoc c d e))
      ∙ ap (λ (l : List Typed). record { checks = (c ++ d) ++ e; terms = l }) (sym (append_assoc x y z))

  pub arguments_more : (wants : List Want) (xs : List ExprTree) (e : ExprTree)
      → arguments source block wants (exprs_of (xs ++ e ∷ []))
      ≡ arguments_then (arguments source block wants (exprs_of xs)) (one_argument (wanted_at wants (length xs)) e)
  arguments_more [] [] e = refl
  arguments_more (want ∷ wants) [] e = refl
  arguments_more [] (x ∷ xs) e =
      let one = one_argument nothing x in
      let rest = arguments source block [] (exprs_of xs) in
      let last = one_argument nothing e in
      ap (argument_before (scope_of source block) nothing x (lowered source block nothing x)) (arguments_more [] xs e)
      ∙ joined_both (lowered source block nothing x).checks rest.checks last.checks one.terms rest.terms last.terms
  arguments_more (want ∷ wants) (x ∷ xs) e =
      let one = one_argument want x in
      let rest = arguments source block wants (exprs_of xs) in
      let last = one_argument (wanted_at wants (length xs)) e in
      ap (argument_before (scope_of source block) want x (lowered source block want x)) (arguments_more wants xs e)
      ∙ joined_both (lowered source block want x).checks rest.checks last.checks one.terms rest.terms last.terms
