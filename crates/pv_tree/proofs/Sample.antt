-- A function block and the tokens that spell it: FUNCTION_BLOCK a VAR x, y : BOOL; END_VAR x := y OR NOT x; END_FUNCTION_BLOCK
use Prim.Native.String.{String}
use Rattle.std.proofs.Common.{inl, inr, ℕ, pos, false, List, [], ◌∷◌, ◌++◌, codes, refl, None, arith}
use Rattle.pv_word.specs.declared.types.Ty.TheVariants as ty
use Rattle.pv_place.specs.declared.place.Place.{Place}
use Rattle.pv_types.specs.declared.declaration.Section.TheVariants as section
use Rattle.pv_types.specs.Tree.{plain, VarTree, var}
use Rattle.pv_lex.specs.declared.token.Kind.TheVariants as k
use Rattle.pv_lex.specs.declared.token.Language.TheVariants as l
use Rattle.pv_lex.specs.Shapes.{is_one_of}
use Rattle.pv_tree.specs.declared.expr.Root.TheVariants.{Local}
use Rattle.pv_tree.specs.declared.expr.UnaryOp.TheVariants as unary_op
use Rattle.pv_tree.specs.declared.expr.BinaryOp.TheVariants as op
use Rattle.pv_tree.specs.Tree.{ExprTree, read, unary, binary, OperandTree, operand, no_steps, assign}
use Rattle.pv_tree.specs.Lexemes.{Lexeme, IsOne, IsJoined, IsAt}
use Rattle.pv_tree.specs.Words.{plain_name, IsPlain, is_numbered, prefixes}
use Rattle.pv_tree.specs.Expressions.{SpellsExpr, SpellsOperand}
use Rattle.pv_types.specs.View.{listed as fields}
use Rattle.pv_tree.specs.declared.block.BlockKind.TheVariants.{Fb}
use Rattle.pv_tree.specs.Tree.{stmts, no_stmts, BlockTree, scl}
use Rattle.pv_tree.specs.Words.{type_word, is_reserved, block_words, statement_words, function_words, function_word}
use Rattle.pv_tree.specs.Declarations.{SpellsVars, SpellsSection, SpellsSections, sections, no_sections}
use Rattle.pv_tree.specs.Blocks.{SpellsBlock, IsFormedBlock}
use Rattle.pv_tree.specs.Statements.{SpellsStmt, SpellsStmts}

abbrev at : ℕ → Place
at n = record { file = 0; offset = n }

abbrev w : ℕ → String → Lexeme
w n text = record { kind = k.Word; bytes = codes text; value = pos 0; place = at n }

abbrev s : ℕ → String → Lexeme
s n text = record { kind = k.Sign; bytes = codes text; value = pos 0; place = at n }

-- one token, and one before others
alone : {P : Lexeme → Type 0} (t : Lexeme) → P t → IsOne P (t ∷ [])
alone t p = record { token = t; alone = refl; is = p }

lead : {P : Lexeme → Type 0} {B : List Lexeme → Type 0} (t : Lexeme) (ys : List Lexeme) → P t → B ys → IsJoined (IsOne P) B (t ∷ ys)
lead t ys p b = record { front = t ∷ []; back = ys; parts = refl; in_front = alone t p; behind = b }

joined : {A B : List Lexeme → Type 0} (xs ys : List Lexeme) → A xs → B ys → IsJoined A B (xs ++ ys)
joined xs ys a b = record { front = xs; back = ys; parts = refl; in_front = a; behind = b }

abbrev local_at : ℕ → String → OperandTree
local_at n text = operand (Local (plain_name (codes text)) false (at n)) no_steps (at n)

is_x : (n : ℕ) → IsAt (IsPlain (plain_name (codes "x"))) (at n) (w n "x")
unfolding is_numbered is_one_of prefixes
is_x n = record { is = record { kind = refl; unnumbered = refl; names = refl }; at = refl }

is_y : (n : ℕ) → IsAt (IsPlain (plain_name (codes "y"))) (at n) (w n "y")
unfolding is_numbered is_one_of prefixes
is_y n = record { is = record { kind = refl; unnumbered = refl; names = refl }; at = refl }

-- x := y OR NOT x
abbrev value : ExprTree
value = binary op.Or (at 4) (read (local_at 3 "y")) (unary unary_op.Not (at 5) (read (local_at 6 "x")))

x_read : (n : ℕ) → SpellsOperand (local_at n "x") (w n "x" ∷ [])
x_read n = joined (w n "x" ∷ []) [] (alone (w n "x") (record { is = is_x n; at = refl })) refl

y_read : (n : ℕ) → SpellsOperand (local_at n "y") (w n "y" ∷ [])
y_read n = joined (w n "y" ∷ []) [] (alone (w n "y") (record { is = is_y n; at = refl })) refl

value_spelled : SpellsExpr value (w 3 "y" ∷ w 4 "or" ∷ w 5 "NOT" ∷ w 6 "x" ∷ [])
value_spelled =
    joined (w 3 "y" ∷ []) (w 4 "or" ∷ w 5 "NOT" ∷ w 6 "x" ∷ []) (y_read 3)
    (lead (w 4 "or") (w 5 "NOT" ∷ w 6 "x" ∷ []) (record { is = record { kind = refl; bytes = refl }; at = refl })
    (lead (w 5 "NOT") (w 6 "x" ∷ []) (record { is = record { kind = refl; bytes = refl }; at = refl }) (x_read 6)))

statement : SpellsStmt (assign (local_at 1 "x") (at 2) value) (w 1 "x" ∷ s 2 ":=" ∷ w 3 "y" ∷ w 4 "or" ∷ w 5 "NOT" ∷ w 6 "x" ∷ [])
statement =
    joined (w 1 "x" ∷ []) (s 2 ":=" ∷ w 3 "y" ∷ w 4 "or" ∷ w 5 "NOT" ∷ w 6 "x" ∷ []) (x_read 1)
    (lead (s 2 ":=") (w 3 "y" ∷ w 4 "or" ∷ w 5 "NOT" ∷ w 6 "x" ∷ [])
    (record { is = record { kind = refl; bytes = refl }; at = refl }) value_spelled)

-- ---- the declarations

abbrev x_var : VarTree
x_var = var (plain_name (codes "x")) section.Static (plain ty.Bool) None (at 12)

abbrev y_var : VarTree
y_var = var (plain_name (codes "y")) section.Static (plain ty.Bool) None (at 14)

abbrev declared : List Lexeme
declared = w 12 "x" ∷ s 13 "," ∷ w 14 "y" ∷ s 15 ":" ∷ w 16 "BOOL" ∷ s 17 ";" ∷ []

y_declared : SpellsVars section.Static (fields (y_var ∷ [])) (w 14 "y" ∷ s 15 ":" ∷ w 16 "BOOL" ∷ s 17 ";" ∷ [])
unfolding type_word
y_declared = (
  refl,
  lead (w 14 "y") (s 15 ":" ∷ w 16 "BOOL" ∷ s 17 ";" ∷ []) (is_y 14)
      (inl (lead (s 15 ":") (w 16 "BOOL" ∷ s 17 ";" ∷ []) (record { kind = refl; bytes = refl })
      (lead (w 16 "BOOL") (s 17 ";" ∷ []) (record { kind = refl; bytes = refl })
      (joined [] (s 17 ";" ∷ []) refl (lead (s 17 ";") [] (record { kind = refl; bytes = refl }) refl))))),
)

both_declared : SpellsVars section.Static (fields (x_var ∷ y_var ∷ [])) declared
both_declared = (
  refl,
  lead (w 12 "x") (s 13 "," ∷ w 14 "y" ∷ s 15 ":" ∷ w 16 "BOOL" ∷ s 17 ";" ∷ []) (is_x 12)
      (inr (
        (refl, refl),
        lead (s 13 ",") (w 14 "y" ∷ s 15 ":" ∷ w 16 "BOOL" ∷ s 17 ";" ∷ [])
            (record { kind = refl; bytes = refl }) y_declared,
      )),
)

abbrev section_tokens : List Lexeme
section_tokens = w 11 "VAR" ∷ (declared ++ w 18 "END_VAR" ∷ [])

section_spelled : SpellsSection section.Static (x_var ∷ y_var ∷ []) section_tokens
section_spelled = lead (w 11 "VAR") (declared ++ w 18 "END_VAR" ∷ []) (record { kind = refl; bytes = refl })
    (joined declared (w 18 "END_VAR" ∷ []) both_declared (alone (w 18 "END_VAR") (record { kind = refl; bytes = refl })))

sections_spelled : SpellsSections (x_var ∷ y_var ∷ []) section_tokens
sections_spelled = sections section.Static (x_var ∷ y_var ∷ []) []
    (x_var ∷ y_var ∷ []) section_tokens [] section_tokens section_spelled no_sections refl refl

-- ---- the block

abbrev body_tokens : List Lexeme
body_tokens = w 1 "x" ∷ s 2 ":=" ∷ w 3 "y" ∷ w 4 "or" ∷ w 5 "NOT" ∷ w 6 "x" ∷ s 7 ";" ∷ []

body_spelled : SpellsStmts (stmts (assign (local_at 1 "x") (at 2) value) no_stmts) body_tokens
body_spelled =
    joined (w 1 "x" ∷ s 2 ":=" ∷ w 3 "y" ∷ w 4 "or" ∷ w 5 "NOT" ∷ w 6 "x" ∷ []) (s 7 ";" ∷ []) statement
    (lead (s 7 ";") [] (record { kind = refl; bytes = refl }) refl)

abbrev block : BlockTree
block = record {
  kind = Fb;
  name = plain_name (codes "a");
  vars = x_var ∷ y_var ∷ [];
  value = None;
  body = scl (stmts (assign (local_at 1 "x") (at 2) value) no_stmts);
  place = at 10;
}

is_a : IsAt (IsPlain (plain_name (codes "a"))) (at 10) (w 10 "a")
unfolding is_numbered is_one_of prefixes
is_a = record { is = record { kind = refl; unnumbered = refl; names = refl }; at = refl }

block_spelled : SpellsBlock l.Scl block (w 9 "FUNCTION_BLOCK" ∷ w 10 "a"
    ∷ (section_tokens ++ (body_tokens ++ w 8 "END_FUNCTION_BLOCK" ∷ [])))
block_spelled = (
  refl,
  lead (w 9 "FUNCTION_BLOCK") (w 10 "a" ∷ (section_tokens ++ (body_tokens ++ w 8 "END_FUNCTION_BLOCK" ∷ [])))
      (record { kind = refl; bytes = refl })
      (joined (w 10 "a" ∷ []) (section_tokens ++ (body_tokens ++ w 8 "END_FUNCTION_BLOCK" ∷ [])) (inl (alone (w 10 "a") is_a))
      (joined section_tokens (body_tokens ++ w 8 "END_FUNCTION_BLOCK" ∷ []) sections_spelled
      (joined body_tokens (w 8 "END_FUNCTION_BLOCK" ∷ []) (joined [] body_tokens (inl refl) body_spelled)
      (alone (w 8 "END_FUNCTION_BLOCK") (record { kind = refl; bytes = refl }))))),
)

block_formed : IsFormedBlock block
unfolding is_reserved is_one_of block_words statement_words function_words function_word type_word
block_formed = record {
  its_kind = tt;
  its_name = refl;
  its_vars = (refl, tt, (refl, tt, tt));
  its_body = (((refl, tt), (omega arith, omega arith, (refl, tt), (omega arith, (refl, tt)))), tt);
}
