-- The copy of a block, as the code has it, and as it is defined.
use Rattle.std.specs.Prelude.{◌≡◌, ℕ, ◌+◌, ◌<◌, ◌≤◌, List, length, slice_get, Option, Some, None}
use Rattle.pv_flow.specs.declared.term.Node.{Node}
use Rattle.pv_flow.specs.declared.parts.Parts.{Parts as CodeParts}
use Rattle.pv_flow.specs.Automata.{Variable, Parts}
use Rattle.pv_flow.specs.Calls.{block_at, Work}
use Rattle.pv_flow.specs.Fitting.{AreFitting, AreSound}
use Rattle.pv_flow.specs.Tables.{AreTabled}
use Rattle.pv_flow.specs.View.{terms_of, guard_of, sets_of, parts_of}
use Rattle.pv_call_copies.specs.Renaming.{renamed, renamed_sets}
use Rattle.pv_call_copies.specs.Inlined.{Aim as Plain_aim, Body}
use Rattle.pv_call_tables.specs.declared.drawn.Aim.{Aim}
use Rattle.pv_call_tables.specs.Drawing.{aim_seen}
use Rattle.pv_inline.specs.Numbers.{MOST}
use Rattle.pv_call_terms.specs.Deeds.{Plain}
use Rattle.pv_inline.specs.Blocks.{blocks_in, code_at}
use Rattle.pv_inline.specs.Walking.{Copy}
use Rattle.pv_inline.specs.Reading.{guard_in, sets_in}

abbrev pub aim_out : Option Aim → Option Plain_aim
aim_out None = None
aim_out (Some aim) = Some (aim_seen aim)

-- its variables lie so
abbrev pub work_of : Copy → (ℕ → ℕ) → Work
work_of c place = record { parts = parts_of c.parts; place = place; free = c.free }

abbrev pub body_of : Copy → (ℕ → ℕ) → Body
body_of c place = record { work = work_of c place; start = c.start; out = aim_out c.out }

-- the copy's deeds stand among these, and mean the block's
pub record IsHeld (c : Copy) (nodes : List Node) (deeds : List Plain) : Type 0 where
  pub fits : c.deeds + length c.parts.deeds.items ≤ length deeds
  pub guards : (n : ℕ) → n < length c.parts.deeds.items → guard_in (terms_of nodes) (slice_get deeds (c.deeds + n))
      ≡ renamed c.place (guard_of (terms_of c.parts.nodes.items) (slice_get c.parts.deeds.items n))
  pub sets : (n : ℕ) → n < length c.parts.deeds.items → sets_in (terms_of nodes) (slice_get deeds (c.deeds + n))
      ≡ renamed_sets c.place (sets_of (terms_of c.parts.nodes.items) (slice_get c.parts.deeds.items n))

-- the code's parts of a block
pub record IsCode (blocks : List (Option CodeParts)) (b : ℕ) (q : Parts) : Type 0 where
  pub parts : CodeParts
  pub at : code_at blocks b ≡ Some parts
  pub same : parts_of parts ≡ q
  pub tabled : AreTabled parts

-- blocks that fit, and so many variables of all copies
pub record IsWhole (blocks : List (Option CodeParts)) (vars : List Variable) : Type 0 where
  pub fit : AreFitting (blocks_in blocks)
  pub sound : AreSound (blocks_in blocks)
  pub few : length vars ≤ MOST
  pub code : (b : ℕ) (q : Parts) → block_at (blocks_in blocks) b ≡ Some q → IsCode blocks b q
