-- What a layer gives once all its spots came: the automaton of their layout, which is legal where spots and loops are a sound text.
use Rattle.std.specs.Prelude.{◌≡◌, ℕ, ◌+◌, ◌≤◌, List, length, All}
use Rattle.pv_flow.specs.declared.parts.Parts.{Parts as CodeParts}
use Rattle.pv_flow.specs.Automata.{Loop, type_at}
use Rattle.pv_flow.specs.Faults.{IsFaultless}
use Rattle.pv_flow.specs.WellMade.{IsVariable, IsWellMade}
use Rattle.pv_flow.specs.View.{parts_of as seen_parts}
use Rattle.pv_flow.specs.Tables.{AreTabled}
use Rattle.pv_layout.specs.Spots.{Spot}
use Rattle.pv_layout.specs.Layout.{Head, Text, width, text_of, parts_of}
use Rattle.pv_layout.specs.Sound.{IsSoundText}
use Rattle.pv_layout.specs.Bodies.{Body, laid, IsTypedBody}
use Rattle.pv_layer.specs.declared.layer.Layer.{Layer}
use Rattle.pv_layer.specs.Standing.{StandsFor}

pub record AreParts (head : Head) (spots : List Spot) (loops : List Loop) (parts : CodeParts) : Type 0 where
  pub laid : seen_parts parts ≡ parts_of head (record { spots = spots; loops = loops })
  pub tabled : AreTabled parts

-- whatever it stands for, if as many spots came as were to come
abbrev pub IsLaid : Layer → CodeParts → Type 0
IsLaid layer parts = (head : Head) (done : ℕ) (spots : List Spot) (loops : List Loop)
    → StandsFor head done spots loops layer → length spots ≡ done → AreParts head spots loops parts

-- they are no parts that `build` refuses
pub record AreLegal (parts : CodeParts) : Type 0 where
  pub tabled : AreTabled parts
  pub faultless : IsFaultless (seen_parts parts)
  pub well_made : IsWellMade (seen_parts parts)

-- where they are those of a sound text over its variables
abbrev pub IsLegal : Layer → CodeParts → Type 0
IsLegal layer parts = (head : Head) (done : ℕ) (text : Text) → StandsFor head done text.spots text.loops layer → length text.spots ≡ done
    → All IsVariable head.vars → head.bound + head.shared ≤ length head.vars → IsSoundText (length head.vars) (type_at head.vars) text
    → AreLegal parts

pub record AreBody (body : Body) (parts : CodeParts) : Type 0 where
  pub laid : seen_parts parts ≡ laid body
  pub legal : AreLegal parts

-- where they are those of a typed body
abbrev pub IsBody : Layer → CodeParts → Type 0
IsBody layer parts = (body : Body)
    → StandsFor body.head (width body.code) (text_of body.code).spots (text_of body.code).loops layer → IsTypedBody body → AreBody body parts
