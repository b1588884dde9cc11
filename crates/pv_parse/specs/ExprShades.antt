-- What is known of expressions and operands while a tree isn't built yet, and what their alternatives do with it.
use Rattle.std.specs.Prelude.{[], ◌∷◌, List}
use Rattle.pv_place.specs.declared.place.Place.{Place}
use Rattle.pv_tree.specs.Tree.{ExprTree, lit, read, unary, binary, std, paren, ExprTrees, no_exprs, exprs, OperandTree, operand, StepTree, field, index, StepTrees, no_steps, steps}
use Rattle.pv_tree.specs.Nesting.{first_of, first_of_operand}
use Rattle.pv_parse.specs.declared.action.ExprAction.{ExprAction}
use Rattle.pv_parse.specs.declared.action.ExprAction.TheVariants as a
use Rattle.pv_parse.specs.declared.shade.Shading.{Shading}
use Rattle.pv_parse.specs.declared.shade.Shading.TheVariants.{Join, Part}
use Rattle.pv_parse.specs.Shades.{all, merged, part_places}

abbrev mutual
  -- by depth the place of the first part of an expression that has so many parts above it
  pub places_of : ExprTree → List Place
  places_of (lit own value place) = part_places place []
  places_of (read variable) = part_places (first_of_operand variable)
      (all (places_of_operand variable ∷ []))
  places_of (unary op place arg) = part_places place (all (places_of arg ∷ []))
  places_of (binary op place left right) = part_places (first_of left)
      (all (places_of left ∷ places_of right ∷ []))
  places_of (std function place args) = part_places place (places_of_exprs args)
  places_of (paren place inner) = part_places place (all (places_of inner ∷ []))

  pub places_of_exprs : ExprTrees → List Place
  places_of_exprs no_exprs = []
  places_of_exprs (exprs arg args) = merged (places_of arg) (places_of_exprs args)

  pub places_of_operand : OperandTree → List Place
  places_of_operand (operand root path place) = places_of_steps path

  pub places_of_steps : StepTrees → List Place
  places_of_steps no_steps = []
  places_of_steps (steps step others) = merged (places_of_step step) (places_of_steps others)

  pub places_of_step : StepTree → List Place
  places_of_step (field name place) = []
  places_of_step (index at place) = places_of at

-- a step to a field doesn't look at the path of the word behind its dot
abbrev pub expr_shading : ExprAction → Shading
expr_shading a.Word = Join 1 0
expr_shading a.Quoted = Join 1 0
expr_shading a.Numbered = Join 1 0
expr_shading a.NumberedPair = Join 2 0
expr_shading a.Area = Join 1 0
expr_shading a.Field = Join 3 1
expr_shading a.Index = Join 4 0
expr_shading a.Read = Part 1 0
expr_shading a.HashRead = Part 2 0
expr_shading a.Number = Part 1 0
expr_shading a.Truth = Part 1 0
expr_shading a.Paren = Part 3 0
expr_shading (a.Unary op) = Part 2 0
expr_shading (a.Binary op) = Part 3 0
expr_shading a.Times = Part 3 0
expr_shading a.Compare = Part 3 0
expr_shading a.One = Part 4 0
expr_shading a.Two = Part 10 0
expr_shading a.Three = Part 14 0
