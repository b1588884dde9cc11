-- The blocks of a source of SCL have no instructions.
use Rattle.std.proofs.Common.{◌≡◌, refl, ap, subst, inl, inr, List, [], ◌∷◌}
use Rattle.std.specs.Prelude.{Contains}
use Rattle.pv_lex.specs.declared.token.Language.TheVariants.{Scl}
use Rattle.pv_tree.specs.declared.block.BlockKind.{BlockKind}
use Rattle.pv_tree.specs.declared.block.BlockKind.TheVariants.{Fb, Fc, Ob, Db, Udt}
use Rattle.pv_tree.specs.Tree.{BodyTree, scl, stl, starts, BlockTree}
use Rattle.pv_tree.specs.Lexemes.{Lexeme}
use Rattle.pv_tree.specs.Blocks.{SpellsCode, SpellsData, SpellsKind, SpellsBlocks}
use Rattle.pv_tree.specs.Parts.{instructions_of}
use Rattle.pv_rules_expr.specs.Members.{Has}
use Rattle.pv_rules_expr.proofs.ForCallers.{contains_has}

code_plain : (body : BodyTree) (ts : List Lexeme) → SpellsCode Scl body ts → instructions_of body ≡ []
code_plain (scl list) ts h = refl
code_plain (stl list) ts h = absurd h
code_plain (starts list) ts h = refl

data_plain : (body : BodyTree) (ts : List Lexeme) → SpellsData Scl body ts → instructions_of body ≡ []
data_plain (scl list) ts h = refl
data_plain (stl list) ts h = absurd h
data_plain (starts list) ts h = refl

kind_plain : (kind : BlockKind) (b : BlockTree) (ts : List Lexeme) → SpellsKind Scl kind b ts → instructions_of b.body ≡ []
kind_plain Fb b ts h = let r = h.1.behind.behind.behind in code_plain b.body r.front r.in_front
kind_plain Fc b ts h = let r = h.behind.behind.behind.behind.behind in code_plain b.body r.front r.in_front
kind_plain Ob b ts h = let r = h.1.behind.behind.behind in code_plain b.body r.front r.in_front
kind_plain (Db of) b ts h = let r = h.1.behind.behind.behind in data_plain b.body r.front r.in_front
kind_plain Udt b ts h = ap instructions_of h.0.1

one_plain : (blocks : List BlockTree) (ts : List Lexeme) → SpellsBlocks Scl blocks ts → (b : BlockTree) → Has blocks b → instructions_of b.body ≡ []
one_plain [] ts h b has = absurd has
one_plain (x ∷ xs) ts h b (inl is) = subst (λ y. instructions_of y.body ≡ []) is (kind_plain x.kind x h.front h.in_front)
one_plain (x ∷ xs) ts h b (inr has) = one_plain xs h.back h.behind b has

pub blocks_plain : (blocks : List BlockTree) (ts : List Lexeme) → SpellsBlocks Scl blocks ts → (b : BlockTree) → Contains blocks b
    → instructions_of b.body ≡ []
blocks_plain blocks ts h b c = one_plain blocks ts h b (contains_has blocks b c)
