-- What a loop over the turns of a text keeps, and what it answers.
use Rattle.std.specs.Prelude.{◌≡◌, Bool, true, false, List, ◌∷◌, Some, Result, Ok, Err}
use Rattle.pv_tree.specs.Lexemes.{Lexeme}
use Rattle.pv_ll.specs.declared.turn.Turn.{Turn}
use Rattle.pv_ll.specs.Making.{Making, play}
use Rattle.pv_parse.specs.declared.action.Action.{Action}
use Rattle.pv_parse.specs.declared.action.Action.TheVariants.{Keep}
use Rattle.pv_parse.specs.declared.stack.Stop.{Stop}
use Rattle.pv_parse.specs.declared.stack.Stop.TheVariants as stop
use Rattle.pv_parse.specs.Deeds.{Kinded, kinded}

-- whether an alternative does anything
abbrev pub acts : Action → Bool
acts Keep = false
acts _ = true

-- the turns make that stack of these tokens and this one, with a mark before the tokens or with none
abbrev pub Plays : {V : Type 0} → Making Kinded V → List Turn → List Lexeme → List V → List V
    → Type 0
Plays m turns tokens s behind = (marked : Bool) × (play m turns (kinded marked tokens) s ≡ Some behind)

-- it stopped for want of memory
abbrev pub RanOut : Stop → Type 0
RanOut stop.Mistyped = ⊥
RanOut stop.NoMemory = Unit {0}

-- the turns make that stack of what a turn answered: the tokens that are left, seen by the view, and its stack
abbrev pub PlaysOn : {X V : Type 0} → (X → List Lexeme) → Making Kinded V → List Turn → Result X Stop
    → List V → List V → Type 0
PlaysOn view m turns (Ok left) s behind = Plays m turns (view left) s behind
PlaysOn view m turns (Err e) s behind = RanOut e

-- a turn was taken: what the turns behind it make is what they and it made before
abbrev pub Taken : {X V : Type 0} → (X → List Lexeme) → Making Kinded V → Turn → Result X Stop
    → List Lexeme → List V → List V → Type 0
Taken {X} {V} view m turn result tokens old new =
    (turns : List Turn) (behind : List V) → Plays m (turn ∷ turns) tokens old behind
    → PlaysOn view m turns result new behind

-- the same, of some tokens
abbrev pub Makes : {V : Type 0} → Making Kinded V → List Turn → List V → List V → Type 0
Makes m turns s behind = (tokens : List Kinded) × (play m turns tokens s ≡ Some behind)

abbrev pub MakesOn : {V : Type 0} → Making Kinded V → List Turn → Result Unit Stop → List V → List V
    → Type 0
MakesOn m turns (Ok _) s behind = Makes m turns s behind
MakesOn m turns (Err e) s behind = RanOut e

abbrev pub Turned : {V : Type 0} → Making Kinded V → Turn → Result Unit Stop → List V → List V → Type 0
Turned {V} m turn result old new =
    (turns : List Turn) (behind : List V) → Makes m (turn ∷ turns) old behind → MakesOn m turns result new behind

-- what is there behind the turns, seen by the view, where this is to be there
abbrev pub Built : {X V : Type 0} → (X → V) → Result X Stop → V → Type 0
Built view (Ok v) behind = view v ≡ behind
Built view (Err e) behind = RanOut e
