-- Of blocks and of sources too the levels from below and the parts from above agree.
use Rattle.std.proofs.Common.{◌≡◌, inl, inr, ℕ, ◌≤◌, max, List, [], ◌∷◌, ◌++◌, Option, Some, None, refl, sym, ap, ◌∙◌, subst, arith}
use Rattle.std.proofs.Math.Nat.{le-max_left, le-max_right, zero-max, max-zero}
use Rattle.pv_types.specs.declared.declaration.Section.{Section}
use Rattle.pv_types.specs.declared.declaration.Section.TheVariants as section
use Rattle.pv_types.specs.Tree.{TypeTree, VarTree, var}
use Rattle.pv_types.specs.View.{listed as fields}
use Rattle.pv_lex.specs.declared.token.Language.{Language}
use Rattle.pv_tree.specs.declared.block.BlockKind.{BlockKind}
use Rattle.pv_tree.specs.declared.block.BlockKind.TheVariants as kind
use Rattle.pv_tree.specs.Tree.{PlacedName, OperandTree, CallPlain, InstrTree, StartTree, BodyTree, scl, stl, starts, BlockTree}
use Rattle.pv_tree.specs.Lexemes.{Lexeme, each}
use Rattle.pv_tree.specs.Declarations.{SpellsVars, SpellsConstant, SpellsSection, SpellsSections, no_sections, sections}
use Rattle.pv_tree.specs.Blocks.{SpellsOwnFields, SpellsDataType, SpellsKind, SpellsBlocks}
use Rattle.pv_tree.specs.Nesting.{Part, levels_of_operand, levels_of_variable, levels_of_call, levels_of_instrs, levels_of_starts, levels_of_body, parts_of_operand, parts_of_variable, parts_of_call, parts_of_instr, parts_of_instrs, parts_of_starts, parts_of_body}
use Rattle.pv_tree.specs.Depth.{levels_of_type, levels_of_vars, levels_of_written, levels_of_declared, levels_of_block, levels_of_blocks, parts_of_section, parts_of_sections, parts_of_own_fields, parts_of_data_type, parts_of_kind, parts_of_blocks}
use Rattle.pv_tree.proofs.Levels.{Agrees, agrees_none, agrees_both, agrees-operand, agrees-args, agrees-stmts, max_cases}
use Rattle.pv_tree.proofs.Types.{agrees-vars}

-- ---- bodies

agrees-variable : (variable : Option OperandTree) → Agrees (parts_of_variable variable) 0 (levels_of_variable variable)
agrees-variable None = agrees_none 0
agrees-variable (Some variable) = agrees-operand 0 variable

agrees-call : (call : Option CallPlain) → Agrees (parts_of_call call) 0 (levels_of_call call)
agrees-call None = agrees_none 0
agrees-call (Some call) = agrees-args 0 call.args

agrees-instrs : (instrs : List InstrTree) → Agrees (parts_of_instrs instrs) 0 (levels_of_instrs instrs)
agrees-instrs [] = agrees_none 0
agrees-instrs (instr ∷ others) =
    agrees_both 0 (max (levels_of_variable instr.operand) (levels_of_call instr.call)) (levels_of_instrs others) (parts_of_instr instr)
    (parts_of_instrs others)
    (agrees_both 0 (levels_of_variable instr.operand) (levels_of_call instr.call) (parts_of_variable instr.operand)
    (parts_of_call instr.call) (agrees-variable instr.operand) (agrees-call instr.call))
    (agrees-instrs others)

agrees-starts : (values : List StartTree) → Agrees (parts_of_starts values) 0 (levels_of_starts values)
agrees-starts [] = agrees_none 0
agrees-starts (start ∷ others) =
    agrees_both 0 (levels_of_operand start.0) (levels_of_starts others) (parts_of_operand 0 start.0) (parts_of_starts others)
    (agrees-operand 0 start.0) (agrees-starts others)

pub agrees-body : (body : BodyTree) → Agrees (parts_of_body body) 0 (levels_of_body body)
agrees-body (scl statements) = agrees-stmts 0 statements
agrees-body (stl instrs) = agrees-instrs instrs
agrees-body (starts values) = agrees-starts values

-- ---- greater numbers

max_least : (a b c : ℕ) → a ≤ c → b ≤ c → max a b ≤ c
max_least a b c p q = elim (max_cases a b) [ inl e ↦ omega (arith, e, p) | inr e ↦ omega (arith, e, q) ]

max_right : (a b c : ℕ) → max (max a b) c ≤ max a (max b c)
max_right a b c =
    max_least (max a b) c (max a (max b c))
    (max_least a b (max a (max b c)) (le-max_left a (max b c)) (omega (arith, le-max_left b c, le-max_right a (max b c))))
    (omega (arith, le-max_right b c, le-max_right a (max b c)))

max_left : (a b c : ℕ) → max a (max b c) ≤ max (max a b) c
max_left a b c =
    max_least a (max b c) (max (max a b) c)
    (omega (arith, le-max_left a b, le-max_left (max a b) c))
    (max_least b c (max (max a b) c) (omega (arith, le-max_right a b, le-max_left (max a b) c)) (le-max_right (max a b) c))

max_assoc : (a b c : ℕ) → max (max a b) c ≡ max a (max b c)
max_assoc a b c = omega (arith, max_right a b c, max_left a b c)

-- ---- declarations

declared-append : (xs ys : List VarTree) → levels_of_declared (xs ++ ys) ≡ max (levels_of_declared xs) (levels_of_declared ys)
declared-append [] ys = sym (zero-max (levels_of_declared ys))
declared-append (var name its ty start place ∷ xs) ys =
    ap (λ m. max (levels_of_written its ty) m) (declared-append xs ys)
    ∙ sym (max_assoc (levels_of_written its ty) (levels_of_declared xs) (levels_of_declared ys))

-- constants have no type that is written
constants-none : (vars : List VarTree) (ts : List Lexeme) → each SpellsConstant vars ts → levels_of_declared vars ≡ 0
constants-none [] ts d = refl
constants-none (var name its ty start place ∷ others) ts d =
    ap (λ s. max (levels_of_written s ty) (levels_of_declared others)) d.in_front.0
    ∙ zero-max (levels_of_declared others) ∙ constants-none others d.back d.behind

-- the types of this section are all written
abbrev IsWritten : Section → Type 0
IsWritten around = (ty : TypeTree) → levels_of_written around ty ≡ levels_of_type ty

vars-declared : (around : Section) → IsWritten around → (vars : List VarTree) (ts : List Lexeme)
    → SpellsVars around (fields vars) ts → levels_of_vars (fields vars) ≡ levels_of_declared vars
vars-declared around written [] ts d = refl
vars-declared around written (var name its ty start place ∷ others) ts d =
    ap (λ m. max m (levels_of_vars (fields others))) (sym (ap (λ s. levels_of_written s ty) d.0 ∙ written ty))
    ∙ ap (λ m. max (levels_of_written its ty) m)
    (elim d.1.behind [
      | inl own ↦ vars-declared around written others own.behind.behind.behind.back own.behind.behind.behind.behind
      | inr shared ↦ vars-declared around written others shared.1.back shared.1.behind
    ])

-- parts that agree with the levels of variables agree with those of the declarations
as_declared : (around : Section) → IsWritten around → (vars : List VarTree) (ts : List Lexeme)
    → SpellsVars around (fields vars) ts
    → (list : List Part) → Agrees list 0 (levels_of_vars (fields vars)) → Agrees list 0 (levels_of_declared vars)
as_declared around written vars ts d list a = subst (λ c. Agrees list 0 c) (vars-declared around written vars ts d) a

agrees-section : (around : Section) (vars : List VarTree) (ts : List Lexeme) (d : SpellsSection around vars ts)
    → Agrees (parts_of_section around vars ts d) 0 (levels_of_declared vars)
agrees-section section.Const vars ts d =
    subst (λ c. Agrees [] 0 c) (sym (constants-none vars d.behind.front d.behind.in_front)) (agrees_none 0)
agrees-section section.Input vars ts d =
    as_declared section.Input (λ _. refl) vars d.behind.front d.behind.in_front _
    (agrees-vars 0 section.Input (fields vars) d.behind.front d.behind.in_front)
agrees-section section.Output vars ts d =
    as_declared section.Output (λ _. refl) vars d.behind.front d.behind.in_front _
    (agrees-vars 0 section.Output (fields vars) d.behind.front d.behind.in_front)
agrees-section section.InOut vars ts d =
    as_declared section.InOut (λ _. refl) vars d.behind.front d.behind.in_front _
    (agrees-vars 0 section.InOut (fields vars) d.behind.front d.behind.in_front)
agrees-section section.Static vars ts d =
    as_declared section.Static (λ _. refl) vars d.behind.front d.behind.in_front _
    (agrees-vars 0 section.Static (fields vars) d.behind.front d.behind.in_front)
agrees-section section.Temp vars ts d =
    as_declared section.Temp (λ _. refl) vars d.behind.front d.behind.in_front _
    (agrees-vars 0 section.Temp (fields vars) d.behind.front d.behind.in_front)

-- of two lists of variables that make up a third
agrees_split : (xs ys vars : List VarTree) (ps qs : List Part) → vars ≡ xs ++ ys → Agrees ps 0 (levels_of_declared xs)
    → Agrees qs 0 (levels_of_declared ys)
    → Agrees (ps ++ qs) 0 (levels_of_declared vars)
agrees_split xs ys vars ps qs e f g =
    subst (λ c. Agrees (ps ++ qs) 0 c) (sym (ap levels_of_declared e ∙ declared-append xs ys))
    (agrees_both 0 (levels_of_declared xs) (levels_of_declared ys) ps qs f g)

agrees-sections : (vars : List VarTree) (ts : List Lexeme) (d : SpellsSections vars ts)
    → Agrees (parts_of_sections d) 0 (levels_of_declared vars)
agrees-sections vars ts no_sections = agrees_none 0
agrees-sections vars ts (sections around inner others all front back tokens first rest split parts) =
    agrees_split inner others vars (parts_of_section around inner front first) (parts_of_sections rest) split
    (agrees-section around inner front first)
    (agrees-sections others back rest)

agrees-own : (vars : List VarTree) (ts : List Lexeme) (d : SpellsOwnFields vars ts)
    → Agrees (parts_of_own_fields vars ts d) 0 (levels_of_declared vars)
agrees-own vars ts d =
    as_declared section.Static (λ _. refl) vars d.behind.front d.behind.in_front _
    (agrees-vars 0 section.Static (fields vars) d.behind.front d.behind.in_front)

agrees-data_type : (of : Option PlacedName) (vars : List VarTree) (ts : List Lexeme) (d : SpellsDataType of vars ts)
    → Agrees (parts_of_data_type of vars ts d) 0 (levels_of_declared vars)
agrees-data_type (Some name) vars ts d = subst (λ v. Agrees [] 0 (levels_of_declared v)) (sym d.0) (agrees_none 0)
agrees-data_type None vars ts d = agrees-own vars ts d

-- ---- blocks

agrees_block : (block : BlockTree) (ps : List Part) → Agrees ps 0 (levels_of_declared block.vars)
    → Agrees (ps ++ parts_of_body block.body) 0 (levels_of_block block)
agrees_block block ps a =
    agrees_both 0 (levels_of_declared block.vars) (levels_of_body block.body) ps (parts_of_body block.body) a (agrees-body block.body)

-- a block without a body has the levels of its declarations alone
agrees_udt : (block : BlockTree) (ps : List Part) → block.body ≡ starts [] → Agrees ps 0 (levels_of_declared block.vars)
    → Agrees ps 0 (levels_of_block block)
agrees_udt block ps e a =
    subst (λ c. Agrees ps 0 c)
    (sym (ap (λ b. max (levels_of_declared block.vars) (levels_of_body b)) e ∙ max-zero (levels_of_declared block.vars))) a

pub agrees-kind : (its_language : Language) (its_kind : BlockKind) (block : BlockTree) (ts : List Lexeme)
    (d : SpellsKind its_language its_kind block ts)
    → Agrees (parts_of_kind its_language its_kind block ts d) 0 (levels_of_block block)
agrees-kind its_language kind.Fb block ts d =
    let s = d.1.behind.behind in
    agrees_block block (parts_of_sections s.in_front) (agrees-sections block.vars s.front s.in_front)
agrees-kind its_language kind.Fc block ts d =
    let s = d.behind.behind.behind.behind in
    agrees_block block (parts_of_sections s.in_front) (agrees-sections block.vars s.front s.in_front)
agrees-kind its_language kind.Ob block ts d =
    let s = d.1.behind.behind in
    agrees_block block (parts_of_sections s.in_front) (agrees-sections block.vars s.front s.in_front)
agrees-kind its_language (kind.Db of) block ts d =
    let s = d.1.behind.behind in
    agrees_block block (parts_of_data_type of block.vars s.front s.in_front) (agrees-data_type of block.vars s.front s.in_front)
agrees-kind its_language kind.Udt block ts d =
    let s = d.1.behind.behind in
    agrees_udt block (parts_of_own_fields block.vars s.front s.in_front) d.0.1 (agrees-own block.vars s.front s.in_front)

pub agrees-blocks : (its_language : Language) (blocks : List BlockTree) (ts : List Lexeme) (d : SpellsBlocks its_language blocks ts)
    → Agrees (parts_of_blocks its_language blocks ts d) 0 (levels_of_blocks blocks)
agrees-blocks its_language [] ts d = agrees_none 0
agrees-blocks its_language (block ∷ others) ts d =
    agrees_both 0 (levels_of_block block) (levels_of_blocks others) (parts_of_kind its_language block.kind block d.front d.in_front)
    (parts_of_blocks its_language others d.back d.behind)
    (agrees-kind its_language block.kind block d.front d.in_front)
    (agrees-blocks its_language others d.back d.behind)
