-- The pattern that texts are, by the expressions that the code read of them; and that a text of a pattern has no fault.
use Rattle.std.proofs.Common.{◌≡◌, ◌↔◌, ℕ, List, [], ◌∷◌, zero, length, Option, None, Result, Ok, Err, IfOk, All, true≢false, refl, sym, ap, subst, ◌∙◌}
use Rattle.std.specs.Prelude.{IsSome, IfSome, IfErr}
use Rattle.std.specs.declared.alloc.AllocError.{AllocError}
use Rattle.pv_types.specs.Tree.{VarTree}
use Rattle.pv_tree.specs.declared.expr.Expr.{Expr}
use Rattle.pv_tree.specs.Tree.{ExprTree, OperandTree, BlockTree}
use Rattle.pv_tree.specs.Scopes.{ProjectTree, Scope}
use Rattle.pv_bool.specs.declared.program.Program.{Program}
use Rattle.pv_bool.specs.Programs.{program_tree}
use Rattle.pv_bool_form.specs.FirstForm.{IsFirstBlock, IsFirstOperand, IsFirstPattern}
use Rattle.pv_bool_form.specs.Programs.{first_source, pattern_program}
use Rattle.pv_pattern.specs.Patterns.{Pattern, invariant, forbidden, implication, within, between, reach, expressions_of}
use Rattle.pv_pattern.specs.Texts.{IsTextOf, Fault, unread, broken, brief_cell, no_bool, Say, Says, FailsAt}
use Rattle.pv_pattern_read.specs.Kinds.{kind_of, IsReadPattern}
use Rattle.pv_pattern_read.specs.Answers.{AnswersText}
use Rattle.pv_pattern_read.specs.declared.fault.TextFault.{TextFault}
use Rattle.pv_pattern_read.specs.declared.fault.TextFault.TheVariants as text_fault
use Rattle.pv_case.specs.declared.case.PatternKind.{PatternKind}
use Rattle.pv_case.specs.declared.case.PatternKind.TheVariants.{Invariant, Forbidden, Implication, Within, Between, Reach}
use Rattle.pv_bool_case.specs.Programs.{AreAPattern, IsSaid, IsMadeOf}
use Rattle.pv_bool_case.proofs.OneBlock.{OneReading}

-- ---- the expressions of texts

pub one_text : (scope : Scope) (text : List ℕ) (es : List ExprTree) (a : ExprTree) → OneReading → Say scope (text ∷ []) es → Says scope text a
    → es ≡ a ∷ []
one_text scope text [] a one say is = absurd say
one_text scope text (e ∷ []) a one say is = ap (λ x. x ∷ []) (one text e a (say.0).reads is.reads)
one_text scope text (e ∷ f ∷ more) a one say is = absurd say.1

-- the first of two, with the other one
pub record IsFirstOfTwo (other : List ℕ) (es : List ExprTree) (a : ExprTree) : Type 0 where
  pub b : ExprTree
  pub are : es ≡ a ∷ b ∷ []
  pub reads : IsTextOf other b

pub two_texts : (scope : Scope) (text other : List ℕ) (es : List ExprTree) (a : ExprTree) → OneReading → Say scope (text ∷ other ∷ []) es
    → Says scope text a → IsFirstOfTwo other es a
two_texts scope text other [] a one say is = absurd say
two_texts scope text other (e ∷ []) a one say is = absurd say.1
two_texts scope text other (e ∷ b ∷ []) a one say is =
    record { b = b; are = ap (λ x. x ∷ b ∷ []) (one text e a (say.0).reads is.reads); reads = (say.1.0).reads }
two_texts scope text other (e ∷ b ∷ c ∷ more) a one say is = absurd say.1.1

pub both_are : (es : List ExprTree) (text : List ℕ) (a b c : ExprTree) → OneReading → es ≡ a ∷ b ∷ [] → IsTextOf text b → IsTextOf text c
    → es ≡ a ∷ c ∷ []
both_are es text a b c one are reads so = are ∙ ap (λ x. a ∷ x ∷ []) (one text b c reads so)

-- ---- what texts of a pattern say

say_first : (scope : Scope) (text : List ℕ) (more : List (List ℕ)) (es : List ExprTree) → Say scope (text ∷ more) es → (e : ExprTree) × Says scope text e
say_first scope text more [] say = absurd say
say_first scope text more (e ∷ es) say = (e, say.0)

say_rest : (scope : Scope) (text : List ℕ) (more : List (List ℕ)) (es : List ExprTree) → Say scope (text ∷ more) es
    → (rest : List ExprTree) × Say scope more rest
say_rest scope text more [] say = absurd say
say_rest scope text more (e ∷ es) say = (es, say.1)

pub said_first : (project : ProjectTree) (entry : ℕ) (kind : PatternKind) (text : List ℕ) (more : List (List ℕ))
    → AreAPattern project entry kind (text ∷ more) → IsSaid project entry text
said_first project entry kind text more are =
    let scope : Scope = record { project = project; block = are.entered } in
    let said = say_first scope text more (expressions_of are.pattern) are.reads.say in
    record { entered = are.entered; there = are.there; e = said.0; says = said.1 }

pub said_second : (project : ProjectTree) (entry : ℕ) (kind : PatternKind) (text other : List ℕ) (more : List (List ℕ))
    → AreAPattern project entry kind (text ∷ other ∷ more) → IsSaid project entry other
said_second project entry kind text other more are =
    let scope : Scope = record { project = project; block = are.entered } in
    let rest = say_rest scope text (other ∷ more) (expressions_of are.pattern) are.reads.say in
    let said = say_first scope other more rest.0 rest.1 in
    record { entered = are.entered; there = are.there; e = said.0; says = said.1 }

-- no text of a pattern is at fault
abbrev pub NoneAtFault : Type 0
NoneAtFault = (scope : Scope) (kind : PatternKind) (texts : List (List ℕ)) (p : Pattern) (n : ℕ) (f : Fault) → IsReadPattern scope kind texts p
    → FailsAt scope texts n f → ⊥

-- so a text that says something lacks memory at most
pub no_fault : NoneAtFault → (scope : Scope) (text : List ℕ) (e : ExprTree) → Says scope text e → (answer : Result Expr TextFault)
    → AnswersText scope text answer → IfErr answer (λ fault. fault ≡ text_fault.NoMemory)
no_fault apart scope text e says answer is = lead answer is
  where
    at : (f : Fault) → FailsAt scope (text ∷ []) zero f → ⊥
    at f = apart scope Invariant (text ∷ []) (invariant e) zero f (record { of_kind = refl; say = (says, tt) })

    lead : (answer : Result Expr TextFault) → AnswersText scope text answer → IfErr answer (λ fault. fault ≡ text_fault.NoMemory)
    lead (Ok x) is = tt
    lead (Err text_fault.Unread) is = absurd (at unread is)
    lead (Err (text_fault.Broken rule)) is = absurd (at (broken _) is)
    lead (Err text_fault.BriefCell) is = absurd (at brief_cell is)
    lead (Err text_fault.NotBool) is = absurd (at no_bool is)
    lead (Err text_fault.NoMemory) is = refl

-- a pattern of other than one or two texts isn't of the form
pub first_has_few : (scope : Scope) (vars : List VarTree) (p : Pattern) (texts : List (List ℕ)) → Say scope texts (expressions_of p)
    → (length texts ≡ 1 → ⊥) → (length texts ≡ 2 → ⊥) → IsFirstPattern vars p → ⊥
first_has_few scope vars p [] say one two first = none p say
  where
    none : (p : Pattern) → Say scope [] (expressions_of p) → ⊥
    none (invariant a) say = say
    none (forbidden a) say = say
    none (implication a b) say = say
    none (within a b) say = say
    none (between a b c) say = say
    none (reach a) say = say
first_has_few scope vars p (t ∷ []) say one two first = one refl
first_has_few scope vars p (t ∷ u ∷ []) say one two first = two refl
first_has_few scope vars p (t ∷ u ∷ v ∷ more) say one two first = many p say first
  where
    many : (p : Pattern) → Say scope (t ∷ u ∷ v ∷ more) (expressions_of p) → IsFirstPattern vars p → ⊥
    many (invariant a) say first = say.1
    many (forbidden a) say first = say.1
    many (implication a b) say first = say.1.1
    many (within a b) say first = first
    many (between a b c) say first = first
    many (reach a) say first = say.1

-- ---- patterns by their kind and their expressions

pub one_invariant : (p : Pattern) (a : ExprTree) → kind_of p ≡ Invariant → expressions_of p ≡ a ∷ [] → invariant a ≡ p
one_invariant (invariant x) a k e = cc
one_invariant (forbidden x) a k e = absurd cc
one_invariant (implication x y) a k e = absurd cc
one_invariant (within x y) a k e = absurd cc
one_invariant (between x y z) a k e = absurd cc
one_invariant (reach x) a k e = absurd cc

pub one_forbidden : (p : Pattern) (a : ExprTree) → kind_of p ≡ Forbidden → expressions_of p ≡ a ∷ [] → forbidden a ≡ p
one_forbidden (invariant x) a k e = absurd cc
one_forbidden (forbidden x) a k e = cc
one_forbidden (implication x y) a k e = absurd cc
one_forbidden (within x y) a k e = absurd cc
one_forbidden (between x y z) a k e = absurd cc
one_forbidden (reach x) a k e = absurd cc

pub one_reach : (p : Pattern) (a : ExprTree) → kind_of p ≡ Reach → expressions_of p ≡ a ∷ [] → reach a ≡ p
one_reach (invariant x) a k e = absurd cc
one_reach (forbidden x) a k e = absurd cc
one_reach (implication x y) a k e = absurd cc
one_reach (within x y) a k e = absurd cc
one_reach (between x y z) a k e = absurd cc
one_reach (reach x) a k e = cc

pub no_one_implication : (p : Pattern) (a : ExprTree) → kind_of p ≡ Implication → expressions_of p ≡ a ∷ [] → ⊥
no_one_implication (invariant x) a k e = absurd cc
no_one_implication (forbidden x) a k e = absurd cc
no_one_implication (implication x y) a k e = absurd cc
no_one_implication (within x y) a k e = absurd cc
no_one_implication (between x y z) a k e = absurd cc
no_one_implication (reach x) a k e = absurd cc

pub no_one_within : (p : Pattern) (a : ExprTree) → kind_of p ≡ Within → expressions_of p ≡ a ∷ [] → ⊥
no_one_within (invariant x) a k e = absurd cc
no_one_within (forbidden x) a k e = absurd cc
no_one_within (implication x y) a k e = absurd cc
no_one_within (within x y) a k e = absurd cc
no_one_within (between x y z) a k e = absurd cc
no_one_within (reach x) a k e = absurd cc

pub no_one_between : (p : Pattern) (a : ExprTree) → kind_of p ≡ Between → expressions_of p ≡ a ∷ [] → ⊥
no_one_between (invariant x) a k e = absurd cc
no_one_between (forbidden x) a k e = absurd cc
no_one_between (implication x y) a k e = absurd cc
no_one_between (within x y) a k e = absurd cc
no_one_between (between x y z) a k e = absurd cc
no_one_between (reach x) a k e = absurd cc

pub two_implication : (p : Pattern) (a b : ExprTree) → kind_of p ≡ Implication → expressions_of p ≡ a ∷ b ∷ [] → implication a b ≡ p
two_implication (invariant x) a b k e = absurd cc
two_implication (forbidden x) a b k e = absurd cc
two_implication (implication x y) a b k e = cc
two_implication (within x y) a b k e = absurd cc
two_implication (between x y z) a b k e = absurd cc
two_implication (reach x) a b k e = absurd cc

pub two_others : (p : Pattern) (a b : ExprTree) → (kind_of p ≡ Implication → ⊥) → expressions_of p ≡ a ∷ b ∷ [] → within a b ≡ p
two_others (invariant x) a b k e = absurd cc
two_others (forbidden x) a b k e = absurd cc
two_others (implication x y) a b k e = absurd (k cc)
two_others (within x y) a b k e = cc
two_others (between x y z) a b k e = absurd cc
two_others (reach x) a b k e = absurd cc

-- an implication is no other kind
pub no_invariant : Implication ≡ Invariant → ⊥
no_invariant e = absurd cc

pub no_forbidden : Implication ≡ Forbidden → ⊥
no_forbidden e = absurd cc

pub no_within : Implication ≡ Within → ⊥
no_within e = absurd cc

pub no_between : Implication ≡ Between → ⊥
no_between e = absurd cc

pub no_reach : Implication ≡ Reach → ⊥
no_reach e = absurd cc

-- ---- what is made of them

-- what first_pattern answers of a pattern
pub record IsAnswerFor (block : BlockTree) (q : Pattern) (r : Result (Option Program) AllocError) : Type 0 where
  pub is_first : IfOk r (λ made. IsSome made ↔ (IsFirstBlock block × IsFirstPattern block.vars q))
  pub program : IfOk r (λ made. IfSome made (λ program. (patterns : List OperandTree) (bound : ℕ) → All (IsFirstOperand block.vars) patterns
      → program_tree program ≡ pattern_program (first_source block patterns bound) q))

answered : (block : BlockTree) (q : Pattern) (r : Result (Option Program) AllocError) → IsAnswerFor block q r → IfOk r (IsMadeOf block q)
answered block q (Ok made) is = record { is_first = is.is_first; program = is.program }
answered block q (Err e) is = tt

pub made_of : (block : BlockTree) (q p : Pattern) (r : Result (Option Program) AllocError) → IsAnswerFor block q r → q ≡ p → IfOk r (IsMadeOf block p)
made_of block q p r is same = subst (λ x. IfOk r (IsMadeOf block x)) same (answered block q r is)

-- of a pattern that isn't of the form none is made
pub none_made : (block : BlockTree) (p : Pattern) → (IsFirstPattern block.vars p → ⊥) → IsMadeOf block p None
none_made block p other = record { is_first = (λ some. absurd (true≢false (sym some)), λ first. absurd (other first.1)); program = tt }
