-- A pattern whose names are found says by its terms what the pattern that it is says by its expressions.
use Rattle.std.proofs.Common.{◌≡◌, ℕ, List, [], ◌++◌, Bool, true, false, not, ◌&&◌, ◌||◌, Option, refl, sym, ap, ◌∙◌}
use Rattle.std.specs.Prelude.{◌==◌}
use Rattle.std.specs.List.{list_any}
use Rattle.std.proofs.lemmas.List.Folds.{list_any-append}
use Rattle.pv_tree.specs.Tree.{ExprTree}
use Rattle.pv_mean.specs.Sources.{Source}
use Rattle.pv_mean.specs.Scans.{Visible}
use Rattle.pv_pattern.specs.declared.term.Term.{Term}
use Rattle.pv_pattern.specs.declared.pattern.Pattern.{Pattern as Found}
use Rattle.pv_pattern.specs.Patterns.{Pattern, implies, was_true, is_true_value, is_true_of, judge, mark}
use Rattle.pv_pattern.specs.Reads.{cells_read, reads}
use Rattle.pv_pattern.specs.Terms.{IsTermOf, is_true_term, term_reads}
use Rattle.pv_pattern.specs.Found.{IsPatternOf, is_invariant, is_forbidden, is_implication, is_within, is_between, is_reach, judge_terms, first_term, one_reads}

truth : (source : Source) (t : Term) (e : ExprTree) (values : Visible) → IsTermOf source t e → is_true_term values t ≡ is_true_of source values e
truth source t e values h = sym (ap is_true_value (h.value values))

-- both sides of an implication
both : (p q r s : Bool) → p ≡ q → r ≡ s → implies p r ≡ implies q s
both p q r s e f = ap (λ x. implies x r) e ∙ ap (implies q) f

pub judged : (source : Source) (found : Found) (p : Pattern) (prev : Option Bool) (begin end : Visible) → IsPatternOf source found p
    → judge_terms found prev begin end ≡ judge source p prev begin end
judged source found p prev begin end (is_invariant h) = truth source _ _ end h
judged source found p prev begin end (is_forbidden h) = ap not (truth source _ _ end h)
judged source found p prev begin end (is_implication h k) = both _ _ _ _ (truth source _ _ end h) (truth source _ _ end k)
judged source found p prev begin end (is_within h k) = both _ _ _ _ (truth source _ _ begin h) (truth source _ _ end k)
judged source found p prev begin end (is_between h k l) =
    both _ _ _ _ (ap (λ x. was_true prev && x) (truth source _ _ end k)) (truth source _ _ end l)
judged source found p prev begin end (is_reach h) = truth source _ _ end h

pub marked : (source : Source) (found : Found) (p : Pattern) (end : Visible) → IsPatternOf source found p
    → is_true_term end (first_term found) ≡ mark source p end
marked source found p end (is_invariant h) = truth source _ _ end h
marked source found p end (is_forbidden h) = truth source _ _ end h
marked source found p end (is_implication h k) = truth source _ _ end h
marked source found p end (is_within h k) = truth source _ _ end h
marked source found p end (is_between h k l) = truth source _ _ end h
marked source found p end (is_reach h) = truth source _ _ end h

-- ---- cells

or_none : (x : Bool) → (x || false) ≡ x
or_none true = refl
or_none false = refl

abbrev among : ℕ → List ℕ → Bool
among n cells = list_any (λ m. n == m) cells

last_among : (source : Source) (n : ℕ) (t : Term) (e : ExprTree) → IsTermOf source t e → term_reads n t ≡ among n (cells_read source e ++ [])
last_among source n t e h =
    h.reads n ∙ sym (list_any-append (λ m. n == m) (cells_read source e) [] ∙ or_none (among n (cells_read source e)))

then_among : (source : Source) (n : ℕ) (t : Term) (e : ExprTree) (others : Bool) (more : List ℕ) → IsTermOf source t e → others ≡ among n more
    → (term_reads n t || others) ≡ among n (cells_read source e ++ more)
then_among source n t e others more h k =
    ap (λ x. x || others) (h.reads n) ∙ ap (λ x. among n (cells_read source e) || x) k
    ∙ sym (list_any-append (λ m. n == m) (cells_read source e) more)

pub read_as : (source : Source) (found : Found) (p : Pattern) (n : ℕ) → IsPatternOf source found p → one_reads n found ≡ reads source p n
read_as source found p n (is_invariant h) = last_among source n _ _ h
read_as source found p n (is_forbidden h) = last_among source n _ _ h
read_as source found p n (is_implication h k) = then_among source n _ _ _ _ h (last_among source n _ _ k)
read_as source found p n (is_within h k) = then_among source n _ _ _ _ h (last_among source n _ _ k)
read_as source found p n (is_between h k l) =
    then_among source n _ _ _ _ h (then_among source n _ _ _ _ k (last_among source n _ _ l))
read_as source found p n (is_reach h) = last_among source n _ _ h
