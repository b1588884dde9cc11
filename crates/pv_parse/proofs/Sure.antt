-- Tokens that have their kinds, and what they spell.
use Rattle.std.proofs.Common.{◌≡◌, ℕ, ◌≤◌, true, false, List, map}
use Rattle.pv_lex.specs.declared.token.Kind.TheVariants as k
use Rattle.pv_lex.specs.Shapes.{is_one_of}
use Rattle.pv_tree.specs.Tree.{ExprTree}
use Rattle.pv_tree.specs.Lexemes.{Lexeme}
use Rattle.pv_tree.specs.Words.{IsFree, is_numbered, plain_name, prefixes}
use Rattle.pv_tree.specs.Expressions.{SpellsExpr, IsFormedExpr, strength}
use Rattle.pv_ll.specs.Making.{Making}
use Rattle.pv_parse.specs.declared.action.Action.{Action}
use Rattle.pv_parse.specs.Kinds.{HasKind}
use Rattle.pv_parse.specs.Items.{ItemTree, token}
use Rattle.pv_parse.specs.Deeds.{reduce_by}

-- a token that has this kind
pub record Sure : Type 0 where
  pub lexeme : Lexeme
  pub kind : ℕ
  pub has : HasKind lexeme kind

abbrev pub lexemes : List Sure → List Lexeme
lexemes ts = map (λ t. t.lexeme) ts

abbrev pub sure_making : List Action → Making Sure ItemTree
sure_making actions = record { kind = λ t. t.kind; leaf = λ t. token t.lexeme; reduce = reduce_by actions }

-- ---- what tokens spell

-- an expression that holds together at least so strongly
pub record Holds (least : ℕ) (e : ExprTree) (ts : List Lexeme) : Type 0 where
  pub spelled : SpellsExpr e ts
  pub formed : IsFormedExpr e
  pub strong : least ≤ strength e

-- a word that may stand alone as a name
pub record IsFreeWord (t : Lexeme) : Type 0 where
  pub kind : t.kind ≡ k.Word
  pub unnumbered : is_numbered t.bytes ≡ false
  pub free : IsFree (plain_name t.bytes)

-- OB, FB, FC, DB or UDT
pub record IsPrefix (t : Lexeme) : Type 0 where
  pub word : t.kind ≡ k.Word
  pub is_prefix : is_one_of prefixes t.bytes ≡ true
