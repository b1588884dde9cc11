-- A text is one name at most, since a name is an expression and the text is one of these at most.
use Rattle.std.proofs.Common.{◌≡◌, ℕ, List, ap, sym, ◌∙◌, subst}
use Rattle.std.proofs.lemmas.Option.{same_Some}
use Rattle.pv_types.specs.declared.name.Name.{Name}
use Rattle.pv_lex.specs.declared.token.Token.{Token}
use Rattle.pv_lex.specs.declared.token.Language.TheVariants.{Scl}
use Rattle.pv_lex.proofs.ForCallers.{tokens-one}
use Rattle.pv_tree.specs.Tree.{ExprTree}
use Rattle.pv_tree.specs.Lexemes.{Lexeme, lexemes_of}
use Rattle.pv_tree.specs.Reading.{ReadAsExpression}
use Rattle.pv_case_fit.specs.Named.{name_alone}
use Rattle.pv_case_fit.specs.Entries.{IsNameOf, IsNameText}
use Rattle.pv_case_fit.proofs.ForCallers.{name_expression}
use Rattle.pv_laws_readings.proofs.Ends.{inner_same}

-- tokens read as one expression at most
abbrev pub IsOne : Type 0
IsOne = (a b : ExprTree) (ls : List Lexeme) → ReadAsExpression a ls → ReadAsExpression b ls → a ≡ b

one_named : IsOne → (tokens : List Lexeme) (a b : Name) → IsNameOf tokens a → IsNameOf tokens b → a ≡ b
one_named one tokens a b r s =
    let x = name_expression a r.place r.inner r.read.spelled r.read.free in
    let y = name_expression b s.place s.inner s.read.spelled s.read.free in
    let same = one x.tree y.tree s.inner (subst (λ z. ReadAsExpression x.tree z) (inner_same tokens r.inner s.inner r.ended s.ended) x.reads) y.reads in
    same_Some a b (sym x.alone ∙ ap name_alone same ∙ y.alone)

pub one_name : IsOne → (text : List ℕ) (a b : Name) → IsNameText text a → IsNameText text b → a ≡ b
one_name one text a b r s =
    one_named one (lexemes_of text s.tokens) a b
    (subst (λ (z : List Token). IsNameOf (lexemes_of text z) a) (tokens-one Scl 0 text r.tokens s.tokens r.cut s.cut) r.named) s.named
