-- The kinds of patterns, which are those of a case: which one a pattern is, how many texts each has, and what texts of a kind say.
use Rattle.std.specs.Prelude.{◌≡◌, ℕ, List, Some}
use Rattle.pv_tree.specs.Scopes.{Scope}
use Rattle.pv_case.specs.declared.case.PatternKind.{PatternKind}
use Rattle.pv_case.specs.declared.case.PatternKind.TheVariants.{Invariant, Forbidden, Implication, Within, Between, Reach}
use Rattle.pv_case.specs.Patterns.{expressions_of as texts_of}
use Rattle.pv_pattern.specs.Patterns.{Pattern, invariant, forbidden, implication, within, between, reach, expressions_of}
use Rattle.pv_pattern.specs.Texts.{Say}

abbrev pub kind_of : Pattern → PatternKind
kind_of (invariant a) = Invariant
kind_of (forbidden a) = Forbidden
kind_of (implication a b) = Implication
kind_of (within a b) = Within
kind_of (between a b c) = Between
kind_of (reach a) = Reach

-- as many as a case's pattern of the kind has
abbrev pub count_of : PatternKind → ℕ
count_of kind = texts_of (Some kind)

-- the texts of a pattern of this kind are this pattern
pub record IsReadPattern (scope : Scope) (kind : PatternKind) (texts : List (List ℕ)) (p : Pattern)
    : Type 0 where
  pub of_kind : kind_of p ≡ kind
  pub say : Say scope texts (expressions_of p)
