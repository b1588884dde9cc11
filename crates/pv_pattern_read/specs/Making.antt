-- How terms are made: what reads a spot, and terms of terms.
use Rattle.std.specs.Prelude.{◌≡◌, ℕ, ◌==◌, List, [], ◌∷◌, ◌||◌, Option, Some, None}
use Rattle.std.specs.List.{list_any}
use Rattle.pv_word.specs.declared.types.Ty.{Ty}
use Rattle.pv_place.specs.declared.place.Place.{Place}
use Rattle.pv_tree.specs.declared.expr.BinaryOp.{BinaryOp}
use Rattle.pv_tree.specs.declared.expr.BinaryOp.TheVariants as tree
use Rattle.pv_tree.specs.Tree.{ExprTrees, no_exprs, exprs}
use Rattle.pv_mean.specs.Sources.{Source}
use Rattle.pv_mean.specs.Endings.{got}
use Rattle.pv_mean.specs.Spots.{Spot, read_spot}
use Rattle.pv_mean.specs.Scans.{Visible}
use Rattle.pv_eval.specs.declared.node.OneOp.{OneOp}
use Rattle.pv_eval.specs.declared.node.TwoOp.{TwoOp}
use Rattle.pv_eval.specs.declared.node.ThreeOp.{ThreeOp}
use Rattle.pv_eval.specs.declared.node.TwoOp.TheVariants.{Mul, Add, Sub, Less, Greater, LessEqual, GreaterEqual, Equal, NotEqual, And, Xor, Or}
use Rattle.pv_eval.specs.Operators.{one_result, two_result, three_result}
use Rattle.pv_pattern.specs.declared.term.Term.{Term}
use Rattle.pv_pattern.specs.Reads.{cells_of_spot}
use Rattle.pv_pattern.specs.Terms.{frame_by, number_in, no_place, term_value, term_reads, IsTermOf}

-- it has the value that is read at the spot, whatever values the visible cells have, and it reads the spot's cells
pub record IsSpotTerm (spot : Spot) (t : Term) : Type 0 where
  pub value : (values : Visible) (place : Place)
      → read_spot (frame_by values) place spot ≡ got (term_value values t)
  pub reads : (n : ℕ) → term_reads n t ≡ list_any (λ m. n == m) (cells_of_spot spot)

-- what is made of the values of one, two or three terms, and the cells that these read
pub record IsOne (op : OneOp) (ty : Ty) (arg t : Term) : Type 0 where
  pub value : (values : Visible) → term_value values t ≡ one_result op ty (term_value values arg)
  pub reads : (n : ℕ) → term_reads n t ≡ term_reads n arg

pub record IsTwo (op : TwoOp) (ty : Ty) (left right t : Term) : Type 0 where
  pub value : (values : Visible) → term_value values t
      ≡ number_in (two_result op ty no_place (term_value values left) (term_value values right))
  pub reads : (n : ℕ) → term_reads n t ≡ (term_reads n left || term_reads n right)

pub record IsThree (op : ThreeOp) (first second third t : Term) : Type 0 where
  pub value : (values : Visible) → term_value values t
      ≡ three_result op (term_value values first) (term_value values second)
      (term_value values third)
  pub reads : (n : ℕ) → term_reads n t
      ≡ (term_reads n first || (term_reads n second || term_reads n third))

-- the terms are one, two or three, of which it is made
pub record OfOne (op : OneOp) (ty : Ty) (terms : List Term) (t : Term) : Type 0 where
  pub arg : Term
  pub are : terms ≡ arg ∷ []
  pub made : IsOne op ty arg t

pub record OfTwo (op : TwoOp) (ty : Ty) (terms : List Term) (t : Term) : Type 0 where
  pub left : Term
  pub right : Term
  pub are : terms ≡ left ∷ right ∷ []
  pub made : IsTwo op ty left right t

pub record OfThree (op : ThreeOp) (terms : List Term) (t : Term) : Type 0 where
  pub first : Term
  pub second : Term
  pub third : Term
  pub are : terms ≡ first ∷ second ∷ third ∷ []
  pub made : IsThree op first second third t

-- the terms of a function's arguments
abbrev pub AreTermsOf : Source → List Term → ExprTrees → Type 0
AreTermsOf source [] no_exprs = Unit {0}
AreTermsOf source (t ∷ ts) (exprs e es) = IsTermOf source t e × AreTermsOf source ts es
AreTermsOf source ts es = ⊥

-- an operator between two operands, unless it divides
abbrev pub kept_two : BinaryOp → Option TwoOp
kept_two tree.Mul = Some Mul
kept_two tree.Div = None
kept_two tree.Mod = None
kept_two tree.Add = Some Add
kept_two tree.Sub = Some Sub
kept_two tree.Less = Some Less
kept_two tree.Greater = Some Greater
kept_two tree.LessEqual = Some LessEqual
kept_two tree.GreaterEqual = Some GreaterEqual
kept_two tree.Equal = Some Equal
kept_two tree.NotEqual = Some NotEqual
kept_two tree.And = Some And
kept_two tree.Xor = Some Xor
kept_two tree.Or = Some Or
