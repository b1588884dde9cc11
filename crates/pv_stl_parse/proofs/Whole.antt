-- The grammar of STL derives the sources of STL and nothing else: both directions, put together.
use Rattle.std.proofs.Common.{◌≡◌, ℕ, true, ◌<◌, false, List, [], ◌∷◌, ◌++◌, All, map, refl, sym, subst, drop}
use Rattle.std.proofs.lemmas.List.{append-nil}
use Rattle.pv_lex.specs.declared.token.Language.TheVariants.{Stl}
use Rattle.pv_ll.specs.declared.table.Language.{Language}
use Rattle.pv_ll.specs.declared.table.Symbol.TheVariants.{Name}
use Rattle.pv_ll.specs.Grammar.{Grammar, IsSentence, Derives}
use Rattle.pv_ll.specs.Table.{grammar_of}
use Rattle.pv_ll.specs.Making.{Runs}
use Rattle.pv_ll.specs.Meaning.{Each, DoesAll, Outcome}
use Rattle.pv_ll.specs.Meaning.DoesAll.{nil, val}
use Rattle.pv_ll.specs.Shapes.{are_typed}
use Rattle.pv_ll.proofs.ForCallers.{each, each_beside, outcome, may}
use Rattle.pv_tree.specs.Tree.{BlockTree}
use Rattle.pv_tree.specs.Lexemes.{Lexeme}
use Rattle.pv_tree.specs.Reading.{ReadAsBlocks}
use Rattle.pv_parse.specs.KindNumbers.{outside}
use Rattle.pv_parse.specs.Kinds.{HaveKinds}
use Rattle.pv_parse.specs.FrontNames as name
use Rattle.pv_parse.specs.Front.{expression_productions, declaration_productions, front}
use Rattle.pv_parse.specs.Items.{Stack, blocks}
use Rattle.pv_parse.specs.Deeds.{declaration_actions, call_actions, making, kinded}
use Rattle.pv_parse_source.specs.SourceAnswers.{ReadBlocks, ReadsSources}
use Rattle.pv_parse.proofs.ForCallers.{Sort, decls, a_source, Sure, lexemes, sure_making, meaning, shaping, keeps, declaration_sorts, call_sorts, body_sorts, expression_laws, bare, last, sure_of, sure_lexemes, sure_kinds, Inside, inside}
use Rattle.pv_parse_stmt.proofs.ForCallers.{plain_hash_1, quoted_hash_1, numbered_hash_1, first_argument_1, argument_value_1, argument_value_2, more_arguments_1, more_arguments_2, next_argument_1}
use Rattle.pv_parse_source.proofs.ForCallers.{declaration_laws, source_run, shaded_source}
use Rattle.pv_stl_parse.specs.StlActions.{stl_actions}
use Rattle.pv_stl_parse.specs.StlGrammar.{instruction_productions, stl_grammar}
use Rattle.pv_stl_parse.proofs.StlSorts.{instruction_sorts, stl_sorts, Lawful}
use Rattle.pv_stl_parse.proofs.InstrSound.{instruction_laws}
use Rattle.pv_stl_parse.proofs.Got.{own_acts}
use Rattle.pv_stl_parse.proofs.BodyRuns.{bodies}
use Rattle.pv_stl_parse.proofs.StlCasts.{body_casts}

abbrev own_sorts : List Sort
own_sorts = body_sorts Stl ++ instruction_sorts

-- what calls of both languages share
call_laws : Each Lawful 134 (drop 59 declaration_productions)
call_laws = (
  plain_hash_1 own_acts own_sorts Stl,
  (
    quoted_hash_1 own_acts own_sorts Stl,
    (
      numbered_hash_1 own_acts own_sorts Stl,
      (
        first_argument_1 own_acts own_sorts Stl,
        (
          argument_value_1 own_acts own_sorts Stl,
          (
            argument_value_2 own_acts own_sorts Stl,
            (more_arguments_1 own_acts own_sorts Stl, (more_arguments_2 own_acts own_sorts Stl, (next_argument_1 own_acts own_sorts Stl, tt))),
          ),
        ),
      ),
    ),
  ),
)

laws : Each Lawful 0 stl_grammar
laws =
    each_beside Lawful 0 front instruction_productions
    (each_beside Lawful 0 expression_productions declaration_productions
    (expression_laws (declaration_actions ++ (call_actions ++ own_acts)) (declaration_sorts Stl ++ (call_sorts ++ own_sorts)))
    (declaration_laws (call_actions ++ own_acts) instruction_sorts Stl call_laws))
    instruction_laws

typed : are_typed (shaping stl_sorts) stl_grammar ≡ true
typed = refl

-- blocks that the tokens spell
found : (ts : List Sure) (s behind : Stack) → DoesAll (sure_making stl_actions) (meaning stl_sorts) (Name name.source ∷ []) s ts behind
    → ReadBlocks Stl (lexemes ts)
found ts s behind (val {us = us} (decls (a_source all h f)) nil q) = record {
  all = all;
  read = subst (λ (z : List Sure). ReadAsBlocks Stl all (lexemes z)) (sym (last ts us q)) (record { spelled = h; formed = f });
}

derived : (ts : List Sure) → Derives stl_grammar (Name name.source ∷ []) (map (λ (t : Sure). t.kind) ts) → ReadBlocks Stl (lexemes ts)
derived ts d =
    let x : Outcome stl_grammar (sure_making stl_actions) (meaning stl_sorts) (Name name.source ∷ []) ts [] =
    outcome (λ k n body p. may (keeps stl_sorts stl_actions) stl_grammar typed k n body p)
    (λ k n body p. each Lawful stl_grammar laws k n body p) d ts refl [] (bare, λ us behind e. tt) in
    found ts [] x.behind x.does

sound : (ls : List Lexeme) (kinds : List ℕ) → HaveKinds ls kinds → IsSentence stl_grammar name.source kinds → ReadBlocks Stl ls
sound ls kinds have d =
    subst (λ (z : List Lexeme). ReadBlocks Stl z) (sure_lexemes ls kinds have)
    (derived (sure_of ls kinds have) (subst (λ (z : List ℕ). IsSentence stl_grammar name.source z) (sym (sure_kinds ls kinds have)) d))

complete : (all : List BlockTree) (ls : List Lexeme) → ReadAsBlocks Stl all ls
    → Runs stl_grammar (making stl_actions) (Name name.source ∷ []) (kinded false ls) [] (blocks all ∷ [])
complete all ls r = (source_run instruction_productions (call_actions ++ own_acts) Stl bodies all ls r.spelled r.formed []).runs

below : (kinds : List ℕ) → IsSentence stl_grammar name.source kinds → All (λ (k : ℕ). k < outside) kinds
below kinds d =
    let e : Derives (stl_grammar ++ []) (Name name.source ∷ []) kinds =
    subst (λ (z : Grammar). Derives z (Name name.source ∷ []) kinds) (sym (append-nil stl_grammar)) d in
    let x : Inside stl_grammar outside (Name name.source ∷ []) kinds = inside stl_grammar [] 256 outside refl refl refl e in
    x.below

-- STL's table reads sources
pub stl_reads : (l : Language) → grammar_of l ≡ stl_grammar → l.start ≡ name.source → ReadsSources Stl l stl_actions
stl_reads l e f = record {
  sound = λ ls kinds have d. sound ls kinds have
      (subst (λ (z : ℕ). IsSentence stl_grammar z kinds) f (subst (λ (z : Grammar). IsSentence z l.start kinds) e d));
  complete = λ all ls r. subst (λ (z : Grammar). Runs z (making stl_actions) (Name l.start ∷ []) (kinded false ls) [] (blocks all ∷ [])) (sym e)
      (subst (λ (z : ℕ). Runs stl_grammar (making stl_actions) (Name z ∷ []) (kinded false ls) [] (blocks all ∷ [])) (sym f) (complete all ls r));
  shaded = λ all ls r. shaded_source Stl l stl_actions instruction_productions (call_actions ++ own_acts) e f refl body_casts all ls r;
  below = λ kinds d. below kinds (subst (λ (z : ℕ). IsSentence stl_grammar z kinds) f (subst (λ (z : Grammar). IsSentence z l.start kinds) e d));
}
