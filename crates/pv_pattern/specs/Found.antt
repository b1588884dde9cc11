-- Which pattern one is whose names are found, and what is said of it by its terms.
use Rattle.std.specs.Prelude.{ℕ, Bool, not, ◌&&◌, ◌||◌, Option}
use Rattle.pv_tree.specs.Tree.{ExprTree}
use Rattle.pv_mean.specs.Sources.{Source}
use Rattle.pv_mean.specs.Scans.{Visible}
use Rattle.pv_pattern.specs.declared.term.Term.{Term}
use Rattle.pv_pattern.specs.declared.pattern.Pattern.{Pattern as Found}
use Rattle.pv_pattern.specs.declared.pattern.Pattern.TheVariants as found
use Rattle.pv_pattern.specs.Patterns.{Pattern, invariant, forbidden, implication, within, between, reach, implies, was_true}
use Rattle.pv_pattern.specs.Terms.{IsTermOf, is_true_term, term_reads}

-- it is of the same kind, and each term is the expression in its place
pub data IsPatternOf (source : Source) : Found → Pattern → Type 0 where
  is_invariant : {s : Term} {a : ExprTree} → IsTermOf source s a
      → IsPatternOf source (found.Invariant s) (invariant a)
  is_forbidden : {s : Term} {a : ExprTree} → IsTermOf source s a
      → IsPatternOf source (found.Forbidden s) (forbidden a)
  is_implication : {s t : Term} {a b : ExprTree} → IsTermOf source s a → IsTermOf source t b
      → IsPatternOf source (found.Implication s t) (implication a b)
  is_within : {s t : Term} {a b : ExprTree} → IsTermOf source s a → IsTermOf source t b
      → IsPatternOf source (found.Within s t) (within a b)
  is_between : {s t u : Term} {a b c : ExprTree} → IsTermOf source s a → IsTermOf source t b
      → IsTermOf source u c → IsPatternOf source (found.Between s t u) (between a b c)
  is_reach : {s : Term} {a : ExprTree} → IsTermOf source s a
      → IsPatternOf source (found.Reach s) (reach a)

-- ---- by terms; private contracts cite these

abbrev pub judge_terms : Found → Option Bool → Visible → Visible → Bool
judge_terms (found.Invariant s) prev begin end = is_true_term end s
judge_terms (found.Forbidden s) prev begin end = not (is_true_term end s)
judge_terms (found.Implication s t) prev begin end =
    implies (is_true_term end s) (is_true_term end t)
judge_terms (found.Within s t) prev begin end =
    implies (is_true_term begin s) (is_true_term end t)
judge_terms (found.Between s t u) prev begin end =
    implies (was_true prev && is_true_term end t) (is_true_term end u)
judge_terms (found.Reach s) prev begin end = is_true_term end s

abbrev pub first_term : Found → Term
first_term (found.Invariant s) = s
first_term (found.Forbidden s) = s
first_term (found.Implication s t) = s
first_term (found.Within s t) = s
first_term (found.Between s t u) = s
first_term (found.Reach s) = s

abbrev pub one_reads : ℕ → Found → Bool
one_reads n (found.Invariant s) = term_reads n s
one_reads n (found.Forbidden s) = term_reads n s
one_reads n (found.Implication s t) = term_reads n s || term_reads n t
one_reads n (found.Within s t) = term_reads n s || term_reads n t
one_reads n (found.Between s t u) = term_reads n s || (term_reads n t || term_reads n u)
one_reads n (found.Reach s) = term_reads n s
