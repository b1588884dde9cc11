-- The first form: the cases and projects of which Boolean programs are made.
use Rattle.std.specs.Prelude.{◌≡◌, List, [], ◌∷◌, ⊤}
use Rattle.pv_lex.specs.declared.token.Language.TheVariants.{Scl}
use Rattle.pv_tree.specs.Tree.{BlockTree}
use Rattle.pv_case.specs.declared.case.PatternKind.{PatternKind}
use Rattle.pv_case.specs.declared.case.PatternKind.TheVariants.{Invariant, Forbidden, Implication, Within, Between, Reach}
use Rattle.pv_case.specs.Cases.{SourceData, CaseData}
use Rattle.pv_bool_form.specs.FirstForm.{IsFirstBlock}

-- one source, of SCL
pub record IsOneSource (sources : List SourceData) : Type 0 where
  pub source : SourceData
  pub only : sources ≡ source ∷ []
  pub language : source.language ≡ Scl

-- a kind of patterns that are asked of a scan's end alone
abbrev pub IsFirstKind : PatternKind → Type 0
IsFirstKind Invariant = ⊤
IsFirstKind Forbidden = ⊤
IsFirstKind Implication = ⊤
IsFirstKind Within = ⊥
IsFirstKind Between = ⊥
IsFirstKind Reach = ⊤

-- a case of one source of SCL with such a pattern, without parameters, bound inputs and symbols
pub record IsFirstCase (case : CaseData) : Type 0 where
  pub source : IsOneSource case.sources
  pub kind : IsFirstKind case.kind
  pub params : case.params ≡ []
  pub bind : case.bind ≡ []
  pub symbols : case.symbols ≡ []

-- one block, of the first form
pub record IsFirstAlone (blocks : List BlockTree) : Type 0 where
  pub block : BlockTree
  pub only : blocks ≡ block ∷ []
  pub first : IsFirstBlock block
