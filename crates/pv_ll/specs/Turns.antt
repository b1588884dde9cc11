-- what happens along a walk, where some productions act and the others don't: what a recognizer tells of a text
use Rattle.std.specs.Prelude.{◌≡◌, ℕ, Bool, false, if◌then◌else◌, List, [], ◌∷◌, Result, Ok, Err, slice_index_or}
use Rattle.pv_ll.specs.declared.table.Symbol.TheVariants.{Name}
use Rattle.pv_ll.specs.declared.turn.Turn.{Turn}
use Rattle.pv_ll.specs.declared.turn.Turn.TheVariants as turn
use Rattle.pv_ll.specs.Grammar.{Grammar, IsSentence, IsFault}
use Rattle.pv_ll.specs.Walk.{Step, Walks, tokens_of}
use Rattle.pv_ll.specs.Walk.Step.{Enter, Pass, Leave}

-- whether a production acts, by its number; those past the end of the list don't
abbrev pub acts_at : List Bool → ℕ → Bool
acts_at acts k = slice_index_or acts k false

-- the tokens that are passed and the productions that are left and act, in their order
abbrev pub turns_of : List Bool → List Step → List Turn
turns_of acts [] = []
turns_of acts (Enter k ∷ steps) = turns_of acts steps
turns_of acts (Pass t ∷ steps) = turn.Pass ∷ turns_of acts steps
turns_of acts (Leave k ∷ steps) = if acts_at acts k then turn.Leave k ∷ turns_of acts steps else turns_of acts steps

-- the turns along a walk from the start that passes tokens of these kinds
pub record IsTold (g : Grammar) (start : ℕ) (acts : List Bool) (kinds : List ℕ) (turns : List Turn) : Type 0 where
  pub trace : List ℕ
  pub steps : List Step
  pub walks : Walks g trace (Name start ∷ []) steps
  pub tokens : tokens_of steps ≡ kinds
  pub told : turns ≡ turns_of acts steps

-- what a recognizer answers: the tokens are a text, and what happens along its walk; or which of them is at fault
abbrev pub IsExact : Grammar → ℕ → List Bool → List ℕ → Result (List Turn) ℕ → Type 0
IsExact g start acts tokens (Ok turns) = IsSentence g start tokens × IsTold g start acts tokens turns
IsExact g start acts tokens (Err i) = IsFault g start tokens i
