-- What parts of instructions lie on top of the stack, and what is under them. The instructions so far are the body of a block, and a
-- label is a list of at most one word.
use Rattle.std.specs.Prelude.{List, [], ◌∷◌, Option, Some, None, option_and_then}
use Rattle.pv_tree.specs.Tree.{PlacedName, InstrTree, BodyTree, stl}
use Rattle.pv_tree.specs.Lexemes.{Lexeme}
use Rattle.pv_parse.specs.Items.{Stack, token_on}
use Rattle.pv_parse.specs.DeclStack.{words_on, body_on}

-- the instructions of a body; one of another language has none
abbrev pub instrs_of : BodyTree → List InstrTree
instrs_of (stl list) = list
instrs_of _ = []

-- the instructions so far
abbrev pub instrs_on : Stack → Option (List InstrTree × Stack)
instrs_on s = option_and_then (λ b. Some (instrs_of b.0, b.1)) (body_on s)

-- the last of some words
abbrev pub last_word : List PlacedName → Option PlacedName
last_word [] = None
last_word (w ∷ []) = Some w
last_word (w ∷ next ∷ others) = last_word (next ∷ others)

-- what stands before an instruction's operand: its word or sign, its label, and the instructions
-- before it
pub record FrontTree : Type 0 where
  pub token : Lexeme
  pub label : Option PlacedName
  pub list : List InstrTree

abbrev pub front_on : Stack → Option (FrontTree × Stack)
front_on s =
    option_and_then (λ t. option_and_then (λ w. option_and_then (λ l. Some
    (record { token = t.0; label = last_word w.0; list = l.0 }, l.1))
    (instrs_on w.1)) (words_on t.1)) (token_on s)
