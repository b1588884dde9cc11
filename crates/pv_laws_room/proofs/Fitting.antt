-- An expression fits where its parts do, and by the rules each part of a block does.
use Rattle.std.proofs.Common.{◌≡◌, ◌⊎◌, inl, inr, ℕ, zero, suc, ◌≤◌, ◌/◌, List, [], ◌∷◌, ◌++◌, Bool, true, false, not, ◌&&◌, Option, Some, None, IsTrue, Contains, refl, sym, ap, subst, ◌∙◌, arith}
use Rattle.std.specs.Prelude.{⊤, FitsSigned, is_some, flat_map, option_to_list, nat_le, if◌then◌else◌}
use Rattle.std.specs.Int.{w64}
use Rattle.std.proofs.lemmas.Bool.{true≢false, false≢true, leb-true}
use Rattle.std.proofs.lemmas.Option.{none-some}
use Rattle.pv_place.specs.declared.place.Place.{Place}
use Rattle.pv_tree.specs.declared.expr.Root.{Root}
use Rattle.pv_tree.specs.declared.expr.Root.TheVariants.{Local, Named, Area}
use Rattle.pv_tree.specs.Tree.{ExprTree, lit, read, unary, binary, std, paren, ExprTrees, no_exprs, exprs, OperandTree, operand, StepTree, field, index, StepTrees, no_steps, steps, StmtTree, assign, assign_call, if_, case_, for_, while_, repeat_, exit_, continue_, return_, call_, empty_, InstrTree, BlockTree}
use Rattle.pv_tree.specs.LiteralTypes.{Want, nothing, holds, type_of_literal}
use Rattle.pv_tree.specs.Sorts.{wanted_beside, wants_of}
use Rattle.pv_tree.specs.Scopes.{ProjectTree, Scope}
use Rattle.pv_tree.specs.Things.{first_place, place_of_operand, is_address, last_byte}
use Rattle.pv_tree.specs.Types.{Written, signed, literal_of, sort_of, sorts_of}
use Rattle.pv_tree.specs.InstructionGroups.{operand_of_instruction}
use Rattle.pv_tree.specs.Parts.{Part, Spot, parts_of, parts_of_args, parts_of_operand, parts_of_steps, parts_of_step, parts_of_stmt, parts_of_call, parts_of_instruction, parts_of_block, calls_of_instruction, spots_of_body, instructions_of, starts_of, operand_of, reads_of_parts, operands_read, target_of, assigned_operands, instruction_operands, operands_of}
use Rattle.pv_tree.specs.Rules.{KeepsRules, Rule, BreaksInPattern, out_of_range, wrong_address}
use Rattle.pv_tree.specs.Rules.OutOfRange.{IsWrittenOutside}
use Rattle.pv_tree.specs.Rules.Addresses.{is_wrong_operand}
use Rattle.pv_resolve.specs.Rooms.{IsShort, FitsSymbol, FitsRoot, FitsWhere, FitsExpr, FitsArgs, FitsOperand, FitsSteps, FitsStep}
use Rattle.pv_resolve.proofs.ForCallers.{holds_fits}
use Rattle.pv_laws_room.specs.Reached.{IsShortOperand, AreShort}

-- ---- lists

pub contains_more : {X : Type 0} (x y : X) (xs : List X) → Contains xs y → Contains (x ∷ xs) y
contains_more x y xs (k, lt, e) = (suc k, omega (arith, lt), e)

pub contains_front : {X : Type 0} (y : X) (xs ys : List X) → Contains xs y → Contains (xs ++ ys) y
contains_front y [] ys (k, lt, e) = absurd (omega (arith, lt))
contains_front y (x ∷ xs) ys (zero, lt, e) = (0, omega arith, e)
contains_front y (x ∷ xs) ys (suc k, lt, e) = contains_more x y (xs ++ ys) (contains_front y xs ys (k, omega (arith, lt), e))

pub contains_behind : {X : Type 0} (y : X) (xs ys : List X) → Contains ys y → Contains (xs ++ ys) y
contains_behind y [] ys c = c
contains_behind y (x ∷ xs) ys c = contains_more x y (xs ++ ys) (contains_behind y xs ys c)

pub contains_flat : {X Y : Type 0} (f : X → List Y) (xs : List X) (x : X) (y : Y) → Contains xs x → Contains (f x) y → Contains (flat_map f xs) y
contains_flat f [] x y (k, lt, e) d = absurd (omega (arith, lt))
contains_flat f (z ∷ zs) x y (zero, lt, e) d = contains_front y (f z) (flat_map f zs) (subst (λ w. Contains (f w) y) (sym e) d)
contains_flat f (z ∷ zs) x y (suc k, lt, e) d =
    contains_behind y (f z) (flat_map f zs) (contains_flat f zs x y (k, omega (arith, lt), e) d)

-- what lies in a list of lists lies in one of them
record Within {X Y : Type 0} (f : X → List Y) (xs : List X) (y : Y) : Type 0 where
  one : X
  among : Contains xs one
  has : Contains (f one) y

within_front : {X : Type 0} (P : Type 0) (y : X) (xs ys : List X) → Contains (xs ++ ys) y → (Contains xs y → P) → (Contains ys y → P) → P
within_front P y [] ys c f g = g c
within_front P y (x ∷ xs) ys (zero, lt, e) f g = f (0, omega arith, e)
within_front P y (x ∷ xs) ys (suc k, lt, e) f g =
    within_front P y xs ys (k, omega (arith, lt), e) (λ d. f (contains_more x y xs d)) g

flat_within : {X Y : Type 0} (f : X → List Y) (xs : List X) (y : Y) → Contains (flat_map f xs) y → Within f xs y
flat_within f [] y (k, lt, e) = absurd (omega (arith, lt))
flat_within f (x ∷ xs) y c = within_front (Within f (x ∷ xs) y) y (f x) (flat_map f xs) c
    (λ d. record { one = x; among = (0, omega arith, refl); has = d })
    (λ d. let w = flat_within f xs y d in record { one = w.one; among = contains_more x w.one xs w.among; has = w.has })

option_within : {X : Type 0} (o : Option X) (y : X) → Contains (option_to_list o) y → o ≡ Some y
option_within None y (k, lt, e) = absurd (omega (arith, lt))
option_within (Some x) y (zero, lt, e) = ap Some e
option_within (Some x) y (suc k, lt, e) = absurd (omega (arith, lt))

-- ---- an expression by its parts

pub record PartFits (p : Part) : Type 0 where
  pub literal : (w : Written) → literal_of p.expr ≡ Some w → FitsSigned w64 w.value
  pub root : (o : OperandTree) → operand_of p.expr ≡ Some o → FitsSymbol o

abbrev AllFit : List Part → Type 0
AllFit ps = (p : Part) → Contains ps p → PartFits p

pub literal_fits : (e : ExprTree) (w : Written) → literal_of e ≡ Some w → FitsSigned w64 w.value → FitsExpr e
literal_fits (lit ty value place) w is h =
    let same : (record { ty = ty; value = value }) ≡ w = cc in subst (λ (x : Written). FitsSigned w64 x.value) (sym same) h
literal_fits (read o) w is h = absurd (none-some w is)
literal_fits (unary op place arg) w is h = subst (λ o. FitsWhere o (FitsExpr arg)) (sym is) h
literal_fits (binary op place left right) w is h = absurd (none-some w is)
literal_fits (std function place args) w is h = absurd (none-some w is)
literal_fits (paren place inner) w is h = literal_fits inner w is h

unary_fits : (scope : Scope) (want : Want) (e arg : ExprTree) (o : Option Written) → literal_of e ≡ o
    → AllFit (record { want = want; expr = e } ∷ (if is_some o then [] else parts_of scope nothing arg))
    → (AllFit (parts_of scope nothing arg) → FitsExpr arg) → FitsWhere o (FitsExpr arg)
unary_fits scope want e arg None is f below = below (λ p c. f p (contains_more _ p (parts_of scope nothing arg) c))
unary_fits scope want e arg (Some w) is f below = (f (record { want = want; expr = e }) (0, omega arith, refl)).literal w is

paren_fits : (scope : Scope) (want : Want) (e inner : ExprTree) (o : Option Written) → literal_of e ≡ literal_of inner → literal_of inner ≡ o
    → AllFit (record { want = want; expr = e } ∷ (if is_some o then [] else parts_of scope want inner))
    → (AllFit (parts_of scope want inner) → FitsExpr inner) → FitsExpr inner
paren_fits scope want e inner None same is f below = below (λ p c. f p (contains_more _ p (parts_of scope want inner) c))
paren_fits scope want e inner (Some w) same is f below =
    literal_fits inner w is ((f (record { want = want; expr = e }) (0, omega arith, refl)).literal w (same ∙ is))

mutual
  pub expr_fits : (scope : Scope) (want : Want) (e : ExprTree) → AllFit (parts_of scope want e) → FitsExpr e
  expr_fits scope want (lit ty value place) f =
      (f (record { want = want; expr = lit ty value place }) (0, omega arith, refl)).literal (record { ty = ty; value = value }) refl
  expr_fits scope want (read (operand root more place)) f = (
    (f (record { want = want; expr = read (operand root more place) }) (0, omega arith, refl)).root (operand root more place) refl,
    steps_fit scope more (λ p c. f p (contains_more _ p (parts_of_steps scope more) c)),
  )
  expr_fits scope want (unary op place arg) f =
      unary_fits scope want (unary op place arg) arg (signed op (literal_of arg)) refl f (λ g. expr_fits scope nothing arg g)
  expr_fits scope want (binary op place left right) f = (
    expr_fits scope _ left (λ p c. f p (contains_more _ p _ (contains_front p _ _ c))),
    expr_fits scope _ right (λ p c. f p (contains_more _ p _ (contains_behind p (parts_of scope _ left) _ c))),
  )
  expr_fits scope want (std function place args) f =
      args_fit scope (wants_of function (sorts_of scope args)) args (λ p c. f p (contains_more _ p _ c))
  expr_fits scope want (paren place inner) f =
      paren_fits scope want (paren place inner) inner (literal_of inner) refl refl f (λ g. expr_fits scope want inner g)

  args_fit : (scope : Scope) (wants : List Want) (es : ExprTrees) → AllFit (parts_of_args scope wants es) → FitsArgs es
  args_fit scope wants no_exprs f = tt
  args_fit scope [] (exprs e more) f = (
    expr_fits scope nothing e (λ p c. f p (contains_front p (parts_of scope nothing e) _ c)),
    args_fit scope [] more (λ p c. f p (contains_behind p (parts_of scope nothing e) _ c)),
  )
  args_fit scope (want ∷ wants) (exprs e more) f = (
    expr_fits scope want e (λ p c. f p (contains_front p (parts_of scope want e) _ c)),
    args_fit scope wants more (λ p c. f p (contains_behind p (parts_of scope want e) _ c)),
  )

  pub steps_fit : (scope : Scope) (more : StepTrees) → AllFit (parts_of_steps scope more) → FitsSteps more
  steps_fit scope no_steps f = tt
  steps_fit scope (steps step more) f = (
    step_fits scope step (λ p c. f p (contains_front p (parts_of_step scope step) (parts_of_steps scope more) c)),
    steps_fit scope more (λ p c. f p (contains_behind p (parts_of_step scope step) (parts_of_steps scope more) c)),
  )

  step_fits : (scope : Scope) (step : StepTree) → AllFit (parts_of_step scope step) → FitsStep step
  step_fits scope (field name place) f = tt
  step_fits scope (index e place) f = expr_fits scope nothing e f

-- ---- the parts of a block

is_not : (b : Bool) → (IsTrue (not b) → ⊥) → b ≡ true
is_not true f = refl
is_not false f = absurd (f refl)

isnt : (b : Bool) → (IsTrue b → ⊥) → b ≡ false
isnt true f = absurd (f refl)
isnt false f = refl

pub written_fits : (want : Want) (o : Option Written) → (IsWrittenOutside want o → ⊥) → (w : Written) → o ≡ Some w → FitsSigned w64 w.value
written_fits want None f w is = absurd (none-some w is)
written_fits want (Some x) f w is =
    let same : x ≡ w = cc in
    subst (λ (y : Written). FitsSigned w64 y.value) same
    (holds_fits (type_of_literal want x.ty x.value) x.value (is_not (holds (type_of_literal want x.ty x.value) x.value) f))

first_of : (a b : Bool) → not (a && b) ≡ false → a ≡ true
first_of true b e = refl
first_of false b e = absurd (true≢false e)

at_most_32 : (bits : ℕ) → (bits ≡ 1) ⊎ ((bits ≡ 8) ⊎ ((bits ≡ 16) ⊎ (bits ≡ 32))) → bits ≤ 32
at_most_32 bits (inl e) = omega (arith, e)
at_most_32 bits (inr (inl e)) = omega (arith, e)
at_most_32 bits (inr (inr (inl e))) = omega (arith, e)
at_most_32 bits (inr (inr (inr e))) = omega (arith, e)

address_lies : (bits byte bit : ℕ) → not (is_address bits byte bit) ≡ false → bits ≤ 32 → IsShort bits bit
address_lies bits byte bit right short =
    let lies = leb-true bit 7 (first_of (nat_le bit 7) (nat_le (last_byte bits byte) 65535) right) in
    record { one = λ few. omega (arith, lies); few = omega (arith, short) }

pub root_fits : (o : OperandTree) → is_wrong_operand o ≡ false → IsShortOperand o → FitsSymbol o
root_fits (operand (Local name hash place) more at) right short = tt
root_fits (operand (Named name) more at) right short = tt
root_fits (operand (Area area bits byte bit) more at) right short = address_lies bits byte bit right (at_most_32 bits short)

root_told : (root : Root) (more : StepTrees) (place : Place) → FitsSymbol (operand root more place) → FitsRoot root
root_told root more place h = h

pub read_of_parts : (parts : List Part) (p : Part) (o : OperandTree) → Contains parts p → operand_of p.expr ≡ Some o → Contains (reads_of_parts parts) o
read_of_parts parts p o c is =
    contains_flat (λ x. operands_read x.expr) parts p o c (subst (λ x. Contains (option_to_list x) o) (sym is) (0, omega arith, refl))

parts_fit : (parts : List Part) → ((p : Part) → Contains parts p → IsWrittenOutside p.want (literal_of p.expr) → ⊥)
    → ((o : OperandTree) → Contains (reads_of_parts parts) o → FitsSymbol o) → AllFit parts
parts_fit parts f g p c = record {
  literal = written_fits p.want (literal_of p.expr) (f p c);
  root = λ o is. g o (read_of_parts parts p o c is);
}

module _ (project : ProjectTree) (keeps : KeepsRules project) (block : BlockTree) (there : Contains project.blocks block)
    (short : AreShort project block) where
  abbrev scope_of : Scope
  scope_of = record { project = project; block = block }

  root_of : (o : OperandTree) → Contains (operands_of project block) o → FitsSymbol o
  root_of o c = root_fits o (isnt (is_wrong_operand o) (λ wrong. keeps wrong_address (place_of_operand o)
      (there.0, block, there.1, there.2, (c.0, o, c.1, c.2, (refl, wrong))))) (short o c)

  all_fit : AllFit (parts_of_block project block)
  all_fit = parts_fit (parts_of_block project block)
      (λ p c out. keeps out_of_range (first_place p.expr) (there.0, block, there.1, there.2, inl (c.0, p, c.1, c.2, (refl, out))))
      (λ o c. root_of o (contains_front o (reads_of_parts (parts_of_block project block) ++ assigned_operands block) (instruction_operands block)
      (contains_front o (reads_of_parts (parts_of_block project block)) (assigned_operands block) c)))

  -- what stands in the block with all its parts
  pub within_fits : (want : Want) (e : ExprTree)
      → ((p : Part) → Contains (parts_of scope_of want e) p → Contains (parts_of_block project block) p) → FitsExpr e
  within_fits want e within = expr_fits scope_of want e (λ p c. all_fit p (within p c))

  pub operand_fits : (o : OperandTree) → Contains (operands_of project block) o
      → ((p : Part) → Contains (parts_of_operand scope_of o) p → Contains (parts_of_block project block) p) → FitsOperand o
  operand_fits (operand root more place) c within = (
    root_told root more place (root_of (operand root more place) c),
    steps_fit scope_of more (λ p d. all_fit p (within p d)),
  )

-- ---- patterns

pub pattern_fits : (scope : Scope) (e : ExprTree) → ((rule : Rule) (at : Place) → BreaksInPattern rule scope e at → ⊥)
    → ((o : OperandTree) → Contains (reads_of_parts (parts_of scope nothing e)) o → IsShortOperand o) → FitsExpr e
pattern_fits scope e unbroken short = expr_fits scope nothing e (parts_fit (parts_of scope nothing e)
    (λ p c out. unbroken out_of_range (first_place p.expr) (c.0, p, c.1, c.2, (refl, out)))
    (λ o c. root_fits o (isnt (is_wrong_operand o) (λ wrong. unbroken wrong_address (place_of_operand o) (c.0, o, c.1, c.2, (refl, wrong))))
    (short o c)))
