-- A source is judged in one way.
use Rattle.std.proofs.Common.{◌≡◌, ℕ, true, List, ap, sym, ◌∙◌, subst}
use Rattle.pv_place.specs.declared.place.Place.{Place}
use Rattle.pv_lex.specs.declared.token.Token.{Token}
use Rattle.pv_lex.specs.declared.token.Language.{Language as Of}
use Rattle.pv_lex.specs.declared.token.Language.TheVariants.{Scl, Stl}
use Rattle.pv_lex.specs.Tokens.{AreTokens}
use Rattle.pv_ll.specs.declared.table.Language.{Language}
use Rattle.pv_ll.specs.Table.{grammar_of}
use Rattle.pv_ll.specs.Check.{is_ll1}
use Rattle.pv_tree.specs.Tree.{BlockTree}
use Rattle.pv_tree.specs.Lexemes.{Lexeme, lexemes_of}
use Rattle.pv_tree.specs.Depth.{parts_of_blocks, IsDeepest}
use Rattle.pv_tree.specs.Reading.{AreEnded, ReadAsBlocks, IsRead, IsTooDeep, IsSyntaxFaultAt}
use Rattle.pv_parse.specs.declared.action.Action.{Action}
use Rattle.pv_parse_source.specs.SourceAnswers.{ReadsSources}
use Rattle.pv_scl_parse.specs.SclGrammar.{scl_grammar}
use Rattle.pv_scl_parse.specs.SclActions.{scl_actions}
use Rattle.pv_scl_parse.proofs.ForCallers.{scl_reads}
use Rattle.pv_stl_parse.specs.StlGrammar.{stl_grammar}
use Rattle.pv_stl_parse.specs.StlActions.{stl_actions}
use Rattle.pv_stl_parse.proofs.ForCallers.{stl_reads}
use Rattle.pv_laws_readings.specs.Judgements.{Judgement, read, outside, syntax, deep, Judged}
use Rattle.pv_laws_readings.proofs.Ends.{inner_same, in_order}
use Rattle.pv_laws_readings.proofs.Words.{one_word, none_within}
use Rattle.pv_laws_readings.proofs.Faults.{one_fault}
use Rattle.pv_laws_readings.proofs.Shades.{one_source, one_deepest, not_both}

-- a table that passes the test and reads sources of a language
pub record Table (its : Of) : Type 0 where
  pub language : Language
  pub actions : List Action
  pub fits : is_ll1 language ≡ true
  pub reads : ReadsSources its language actions

pub scl_table : (l : Language) → is_ll1 l ≡ true → grammar_of l ≡ scl_grammar → l.start ≡ 34 → Table Scl
scl_table l fits grammar start =
    record { language = l; actions = scl_actions; fits = fits; reads = scl_reads l grammar start }

pub stl_table : (l : Language) → is_ll1 l ≡ true → grammar_of l ≡ stl_grammar → l.start ≡ 34 → Table Stl
stl_table l fits grammar start =
    record { language = l; actions = stl_actions; fits = fits; reads = stl_reads l grammar start }

pub table_of : Table Scl → Table Stl → (its : Of) → Table its
table_of scl stl Scl = scl
table_of scl stl Stl = stl

pub tokens_read_once : (its : Of) → Table its → (tokens : List Lexeme) (a b : List BlockTree) → ReadAsBlocks its a tokens
    → ReadAsBlocks its b tokens → a ≡ b
tokens_read_once its table tokens a b =
    one_source its table.language table.actions table.fits table.reads tokens a b

module _ (its : Of) (table : Table its) (file : ℕ) (text : List ℕ) (tokens : List Token) (are : AreTokens its file text tokens) where
  abbrev all : List Lexeme
  all = lexemes_of text tokens

  as_inner : (blocks : List BlockTree) (inner other : List Lexeme) → AreEnded inner all → AreEnded other all → ReadAsBlocks its blocks inner
      → ReadAsBlocks its blocks other
  as_inner blocks inner other a b r = subst (λ z. ReadAsBlocks its blocks z) (inner_same all inner other a b) r

  one_read : (a b : List BlockTree) → IsRead its all a → IsRead its all b → a ≡ b
  one_read a b r s = one_source its table.language table.actions table.fits table.reads s.inner a b (as_inner a r.inner s.inner r.ended s.ended r.read) s.read

  -- a tree that nests too deep, over the tokens of another
  record Deepest (inner : List Lexeme) (place : Place) : Type 0 where
    blocks : List BlockTree
    read : ReadAsBlocks its blocks inner
    deepest : IsDeepest (parts_of_blocks its blocks inner read.spelled) place

  deepest_of : (place : Place) (d : IsTooDeep its all place) → Deepest d.inner place
  deepest_of place d = record { blocks = d.blocks; read = d.read; deepest = d.deepest }

  deepest_in : (place : Place) (inner : List Lexeme) (d : IsTooDeep its all place) → AreEnded inner all → Deepest inner place
  deepest_in place inner d h = subst (λ z. Deepest z place) (inner_same all d.inner inner d.ended h) (deepest_of place d)

  one_deep : (p q : Place) → IsTooDeep its all p → IsTooDeep its all q → p.offset ≡ q.offset
  one_deep p q d e =
      let x = deepest_in p e.inner d e.ended in
      one_deepest its table.language table.actions table.fits table.reads e.inner x.blocks e.blocks x.read e.read p q (in_order its file text tokens e.inner are e.ended) x.deepest e.deepest

  read_or_deep : (a : List BlockTree) (q : Place) → IsRead its all a → IsTooDeep its all q → ⊥
  read_or_deep a q r e =
      let x = deepest_in q r.inner e r.ended in
      not_both its table.language table.actions table.fits table.reads r.inner a x.blocks r.read x.read q (in_order its file text tokens r.inner are r.ended) r.shallow x.deepest

  -- a text that reads has no fault
  faultless : (a : List BlockTree) (inner : List Lexeme) (p : Place) → AreEnded inner all → ReadAsBlocks its a inner
      → IsSyntaxFaultAt (ReadAsBlocks its) its all p → ⊥
  faultless a inner p h r f = f.fault.none a (as_inner a inner f.inner h f.ended r)

  pub judged_once : (one other : Judgement) → Judged its all one → Judged its all other → one ≡ other
  judged_once (read a) (read b) r s = ap read (one_read a b r s)
  judged_once (read a) (outside u) r s = absurd (none_within its all u s r.within)
  judged_once (read a) (syntax n) r s = absurd (faultless a r.inner s.0 r.ended r.read s.1)
  judged_once (read a) (deep n) r s = absurd (read_or_deep a s.0 r s.1)
  judged_once (outside t) (read b) r s = absurd (none_within its all t r s.within)
  judged_once (outside t) (outside u) r s = ap outside (one_word its all t u r s)
  judged_once (outside t) (syntax n) r s = absurd (none_within its all t r s.1.within)
  judged_once (outside t) (deep n) r s = absurd (none_within its all t r s.1.within)
  judged_once (syntax m) (read b) r s = absurd (faultless b s.inner r.0 s.ended s.read r.1)
  judged_once (syntax m) (outside u) r s = absurd (none_within its all u s r.1.within)
  judged_once (syntax m) (syntax n) r s =
      ap syntax (sym r.2 ∙ ap (λ z. z.offset) (one_fault its (ReadAsBlocks its) all r.0 s.0 r.1 s.1) ∙ s.2)
  judged_once (syntax m) (deep n) r s = absurd (faultless s.1.blocks s.1.inner r.0 s.1.ended s.1.read r.1)
  judged_once (deep m) (read b) r s = absurd (read_or_deep b r.0 s r.1)
  judged_once (deep m) (outside u) r s = absurd (none_within its all u s r.1.within)
  judged_once (deep m) (syntax n) r s = absurd (faultless r.1.blocks r.1.inner s.0 r.1.ended r.1.read s.1)
  judged_once (deep m) (deep n) r s = ap deep (sym r.2 ∙ one_deep r.0 s.0 r.1 s.1 ∙ s.2)
