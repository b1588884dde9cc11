-- Nestings in STL, which A( and its like open and `)` closes. More than 7 are open, at the opening that is too many; one isn't
-- closed, at its opening, or not opened, at the closing; or a jump, a label, a call or the block's end stands inside one, at that
-- instruction's first token.
use Rattle.std.specs.Prelude.{◌≡◌, ◌≢◌, ◌⊎◌, ◌≤◌, List, [], ◌∷◌, ◌++◌, length, fold, Bool as Truth, true, false, ◌||◌, is_some, Any, Contains, IsTrue}
use Rattle.pv_place.specs.declared.place.Place.{Place}
use Rattle.pv_tree.specs.Tree.{InstrTree}
use Rattle.pv_tree.specs.Scopes.{ProjectTree}
use Rattle.pv_tree.specs.InstructionGroups.{Group, opening, closing, jump, calling, block_end, group_of, first_place_of}
use Rattle.pv_tree.specs.Parts.{instructions_of}

-- without the last opening
abbrev pub closed : List Place → List Place
closed [] = []
closed (last ∷ earlier) = earlier

-- the places of the open nestings behind an instruction, the last one first
abbrev pub open_behind : List Place → Group → Place → List Place
open_behind pending opening place = place ∷ pending
open_behind pending closing place = closed pending
open_behind pending group place = pending

-- those that instructions leave open
abbrev pub open_after : List InstrTree → List Place
open_after instructions =
    fold (λ pending i. open_behind pending (group_of i.op) i.place) [] instructions

-- may not stand inside a nesting
abbrev pub is_kept_outside : Group → Truth
is_kept_outside jump = true
is_kept_outside calling = true
is_kept_outside block_end = true
is_kept_outside group = false

-- an instruction is wrong behind those open ones
abbrev pub IsWrongBehind : List Place → Place → InstrTree → Type 0
IsWrongBehind pending at i =
    ((i.place ≡ at) × (group_of i.op ≡ opening) × (7 ≤ length pending))
    ⊎ (((i.place ≡ at) × (group_of i.op ≡ closing) × (pending ≡ []))
    ⊎ ((first_place_of i ≡ at) × IsTrue (is_kept_outside (group_of i.op) || is_some i.label) ×
    (pending ≢ [])))

pub record NestsWrong (instructions : List InstrTree) (at : Place) : Type 0 where
  pub front : List InstrTree
  pub instruction : InstrTree
  pub back : List InstrTree
  pub split : instructions ≡ front ++ instruction ∷ back
  pub is_wrong : IsWrongBehind (open_after front) at instruction

abbrev pub IsWrongNesting : ProjectTree → Place → Type 0
IsWrongNesting project at =
    Any (λ b. NestsWrong (instructions_of b.body) at ⊎ Contains (open_after
    (instructions_of b.body)) at) project.blocks
