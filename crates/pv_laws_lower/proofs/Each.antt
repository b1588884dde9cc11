-- Each expression of a block fits by itself, and so does each of its operands that has a type.
use Rattle.std.proofs.Common.{◌≡◌, zero, suc, List, [], ◌∷◌, ◌++◌, Option, Some, None, IsTrue, Contains, refl, subst, arith}
use Rattle.std.specs.Prelude.{is_some, flat_map, option_to_list}
use Rattle.std.specs.List.{AllByRecursion}
use Rattle.std.proofs.lemmas.Bool.{false≢true}
use Rattle.pv_word.specs.declared.types.Ty.{Ty}
use Rattle.pv_tree.specs.Tree.{ExprTree, lit, read, unary, binary, std, paren, OperandTree, StmtTree, assign, assign_call, if_, case_, for_, while_, repeat_, exit_, continue_, return_, call_, empty_, InstrTree, BlockTree}
use Rattle.pv_tree.specs.Callees.{as_value}
use Rattle.pv_tree.specs.InstructionGroups.{operand_of_instruction}
use Rattle.pv_tree.specs.LiteralTypes.{Want}
use Rattle.pv_tree.specs.Parts.{Part, Spot, parts_of, parts_of_operand, parts_of_call, parts_of_stmt, parts_of_instruction, parts_of_block, want_of_target, calls_of_instruction, spots_of_body, instructions_of, starts_of, site, operands_read, reads_of_parts, target_of, assigned_operands, instruction_operands, operands_of}
use Rattle.pv_tree.specs.RuleLaws.{EachHasType}
use Rattle.pv_tree.specs.Rules.{KeepsRules}
use Rattle.pv_tree.specs.Scopes.{ProjectTree, Scope}
use Rattle.pv_tree.specs.Types.{type_of}
use Rattle.pv_mean.specs.Sources.{Source}
use Rattle.pv_lower.specs.Lowered.{scope_of}
use Rattle.pv_laws_lower.specs.Correct.{EachIsFit}
use Rattle.pv_laws_lower.specs.Fit.{IsAddressed, LiteralLies, ArePartsFit, IsFit}
use Rattle.pv_laws_lower.proofs.Lists.{all_front, all_back, all_append, all_more}
use Rattle.pv_laws_lower.proofs.Parts.{OfPart, together, parted, Whole, deep_block}

all_at : {X : Type 0} (P : X → Type 0) (xs : List X) (x : X) → AllByRecursion P xs → Contains xs x → P x
all_at P [] x a (k, lt, e) = absurd (omega (arith, lt))
all_at P (y ∷ ys) x a (zero, lt, e) = subst P e a.0
all_at P (y ∷ ys) x a (suc k, lt, e) = all_at P ys x a.1 (k, omega (arith, lt), e)

-- ---- the indexes of operands

module _ (P : Part → Type 0) (scope : Scope) where
  abbrev Indexed : OperandTree → Type 0
  Indexed o = AllByRecursion P (parts_of_operand scope o)

  read_indexed : (want : Want) (e : ExprTree) → AllByRecursion P (parts_of scope want e) → AllByRecursion Indexed (operands_read e)
  read_indexed want (lit ty n place) a = tt
  read_indexed want (read o) a = (a.1, tt)
  read_indexed want (unary op place arg) a = tt
  read_indexed want (binary op place left right) a = tt
  read_indexed want (std function place args) a = tt
  read_indexed want (paren place inner) a = tt

  flat_indexed : {X : Type 0} (f : X → List Part) (g : X → List OperandTree) → ((x : X) → AllByRecursion P (f x) → AllByRecursion Indexed (g x))
      → (xs : List X) → AllByRecursion P (flat_map f xs) → AllByRecursion Indexed (flat_map g xs)
  flat_indexed f g each [] a = tt
  flat_indexed f g each (x ∷ xs) a =
      all_append Indexed (g x) (flat_map g xs) (each x (all_front P (f x) (flat_map f xs) a))
      (flat_indexed f g each xs (all_back P (f x) (flat_map f xs) a))

  target_indexed : (s : StmtTree) → AllByRecursion P (parts_of_stmt scope s) → AllByRecursion Indexed (option_to_list (target_of s))
  target_indexed (assign target place e) a =
      (all_front P (parts_of_operand scope target) (parts_of scope (want_of_target scope target) e) a, tt)
  target_indexed (assign_call target place call) a =
      (all_front P (parts_of_operand scope target) (parts_of_call scope (site as_value call)) a, tt)
  target_indexed (if_ conditions other place) a = tt
  target_indexed (case_ selector choices other place) a = tt
  target_indexed (for_ name name_place first last by body place) a = tt
  target_indexed (while_ condition body place) a = tt
  target_indexed (repeat_ body condition place) a = tt
  target_indexed (exit_ place) a = tt
  target_indexed (continue_ place) a = tt
  target_indexed (return_ place) a = tt
  target_indexed (call_ call) a = tt
  target_indexed (empty_ place) a = tt

  each_indexed : (os : List OperandTree) → AllByRecursion P (flat_map (parts_of_operand scope) os) → AllByRecursion Indexed os
  each_indexed [] a = tt
  each_indexed (o ∷ os) a = (
    all_front P (parts_of_operand scope o) (flat_map (parts_of_operand scope) os) a,
    each_indexed os (all_back P (parts_of_operand scope o) (flat_map (parts_of_operand scope) os) a),
  )

  instruction_indexed : (i : InstrTree) → AllByRecursion P (parts_of_instruction scope i)
      → AllByRecursion Indexed (option_to_list (operand_of_instruction i))
  instruction_indexed i a =
      each_indexed (option_to_list (operand_of_instruction i))
      (all_front P (flat_map (parts_of_operand scope) (option_to_list (operand_of_instruction i)))
      (flat_map (parts_of_call scope) (calls_of_instruction i)) a)

all_indexed : (P : Part → Type 0) (project : ProjectTree) (b : BlockTree) → AllByRecursion P (parts_of_block project b)
    → AllByRecursion (Indexed P (record { project = project; block = b })) (operands_of project b)
all_indexed P project b a =
    all_append (Indexed P scope) (reads_of_parts (parts_of_block project b) ++ assigned_operands b) (instruction_operands b)
    (all_append (Indexed P scope) (reads_of_parts (parts_of_block project b)) (assigned_operands b)
    (together (Indexed P scope) (parts_of_block project b)
    (all_more (Whole P scope) (OfPart (Indexed P scope)) (parts_of_block project b) (λ p h. read_indexed P scope p.want p.expr h) (deep_block P project b a)))
    (flat_indexed P scope (λ (s : Spot). parts_of_stmt scope s.stmt) (λ (s : Spot). option_to_list (target_of s.stmt))
    (λ s h. target_indexed P scope s.stmt h) (spots_of_body b.body) (all_front P stmts instrs front)))
    (flat_indexed P scope (parts_of_instruction scope) (λ (i : InstrTree). option_to_list (operand_of_instruction i))
    (instruction_indexed P scope) (instructions_of b.body) (all_back P stmts instrs front))
  where
    scope : Scope
    scope = record { project = project; block = b }

    stmts : List Part
    stmts = flat_map (λ (s : Spot). parts_of_stmt scope s.stmt) (spots_of_body b.body)

    instrs : List Part
    instrs = flat_map (parts_of_instruction scope) (instructions_of b.body)

    front : AllByRecursion P (stmts ++ instrs)
    front = all_front P (stmts ++ instrs) (flat_map (λ v. parts_of_operand scope v.0) (starts_of b.body)) a

-- ---- the law

parts_fit : (source : Source) (ps : List Part) → AllByRecursion LiteralLies ps → AllByRecursion (OfPart (IsAddressed source.bytes)) ps
    → ArePartsFit source ps
parts_fit source ps literals reads = record { literals = literals; addresses = together (IsAddressed source.bytes) ps reads }

pub each_is_fit : ((project : ProjectTree) → KeepsRules project → EachHasType project) → EachIsFit
each_is_fit typed = record {
  part = λ source block p keeps there fit d.
      lead source block p (type_of (scope_of source block) p.want p.expr) refl (typed source.project keeps block p there d) (parts_fit source
      (parts_of (scope_of source block) p.want p.expr)
      (all_at (Whole LiteralLies (scope_of source block)) (parts_of_block source.project block) p
      (deep_block LiteralLies source.project block fit.literals) d)
      (all_at (Whole (OfPart (IsAddressed source.bytes)) (scope_of source block)) (parts_of_block source.project block) p
      (deep_block (OfPart (IsAddressed source.bytes)) source.project block
      (parted (IsAddressed source.bytes) (parts_of_block source.project block) fit.addresses)) d));
  operand = λ source block o ty fit named d has. record {
    has_type = has;
    indexes = parts_fit source (parts_of_operand (scope_of source block) o)
        (all_at (Indexed LiteralLies (scope_of source block)) (operands_of source.project block) o
        (all_indexed LiteralLies source.project block fit.literals) d)
        (all_at (Indexed (OfPart (IsAddressed source.bytes)) (scope_of source block)) (operands_of source.project block) o
        (all_indexed (OfPart (IsAddressed source.bytes)) source.project block
        (parted (IsAddressed source.bytes) (parts_of_block source.project block) fit.addresses)) d);
    address = all_at (IsAddressed source.bytes) (operands_of source.project block) o named d;
  };
}
  where
    lead : (source : Source) (block : BlockTree) (p : Part) (o : Option Ty) → type_of (scope_of source block) p.want p.expr ≡ o → IsTrue (is_some o)
        → ArePartsFit source (parts_of (scope_of source block) p.want p.expr) → (ty : Ty) × IsFit source block p.want p.expr ty
    lead source block p None is w fit = absurd (false≢true w)
    lead source block p (Some ty) is w fit = (ty, record { has_type = is; parts = fit })
