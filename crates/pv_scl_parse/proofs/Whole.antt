-- The grammar of SCL derives the sources of SCL and nothing else, where its statements do so: both directions, put together.
use Rattle.std.proofs.Common.{◌≡◌, ℕ, true, ◌<◌, false, List, [], ◌∷◌, ◌++◌, All, map, refl, sym, subst, drop}
use Rattle.std.proofs.lemmas.List.{append-nil}
use Rattle.pv_lex.specs.declared.token.Language.TheVariants.{Scl}
use Rattle.pv_ll.specs.declared.table.Language.{Language}
use Rattle.pv_ll.specs.declared.table.Symbol.TheVariants.{Name}
use Rattle.pv_ll.specs.Grammar.{Grammar, IsSentence, Derives}
use Rattle.pv_ll.specs.Table.{grammar_of}
use Rattle.pv_ll.specs.Making.{Runs}
use Rattle.pv_ll.specs.Meaning.{Each, DoesAll, Outcome}
use Rattle.pv_ll.specs.Meaning.DoesAll.{nil, val}
use Rattle.pv_ll.specs.Shapes.{are_typed}
use Rattle.pv_ll.proofs.ForCallers.{each, each_beside, outcome, may}
use Rattle.pv_tree.specs.Tree.{BlockTree}
use Rattle.pv_tree.specs.Lexemes.{Lexeme}
use Rattle.pv_tree.specs.Reading.{ReadAsBlocks}
use Rattle.pv_parse.specs.declared.action.Action.{Action}
use Rattle.pv_parse.specs.KindNumbers.{outside}
use Rattle.pv_parse.specs.Kinds.{HaveKinds}
use Rattle.pv_parse.specs.FrontNames as name
use Rattle.pv_parse.specs.Front.{expression_productions, declaration_productions, front}
use Rattle.pv_parse.specs.Items.{Stack, blocks}
use Rattle.pv_parse.specs.Deeds.{expression_actions, declaration_actions, call_actions, making, kinded}
use Rattle.pv_parse_source.specs.SourceAnswers.{ReadBlocks, ReadsSources}
use Rattle.pv_parse.proofs.ForCallers.{Sort, code_of, list, decls, a_source, Sure, lexemes, sure_making, meaning, shaping, keeps, expression_sorts, declaration_sorts, call_sorts, body_sorts, expression_laws, bare, last, sure_of, sure_lexemes, sure_kinds, Inside, inside}
use Rattle.pv_parse_source.proofs.ForCallers.{declaration_laws, source_run, BodyCasts, shaded_source}
use Rattle.pv_scl_parse.specs.SclActions.{body_actions, scl_actions}
use Rattle.pv_scl_parse.specs.SclGrammar.{statement_productions, scl_grammar}
use Rattle.pv_scl_parse.proofs.BodyLaws.{BodyLawful, body_1, body_2, data_body_1, data_body_2}
use Rattle.pv_scl_parse.proofs.BodyRuns.{StatementsRun, bodies}

-- the actions and the sorts behind those of bodies
abbrev pub all_actions : List Action → List Action
all_actions acts = expression_actions ++ (declaration_actions ++ (call_actions ++ (body_actions ++ acts)))

abbrev pub all_sorts : List Sort → List Sort
all_sorts sorts = expression_sorts ++ (declaration_sorts Scl ++ (call_sorts ++ (body_sorts Scl ++ (code_of list ∷ sorts))))

-- what is to be said of statements and calls: a law for each of their productions, that each finds what its body wants, that what spells
-- statements makes them, and what it makes of the shades
pub record Statements (acts : List Action) (sorts : List Sort) : Type 0 where
  pub actions_are : scl_actions ≡ all_actions acts
  pub call_laws : Each (BodyLawful acts sorts) 134 (drop 59 declaration_productions)
  pub statement_laws : Each (BodyLawful acts sorts) 147 (drop 4 statement_productions)
  pub typed : are_typed (shaping (all_sorts sorts)) scl_grammar ≡ true
  pub made : StatementsRun acts
  pub shades : BodyCasts statement_productions (call_actions ++ (body_actions ++ acts)) Scl

laws : (acts : List Action) (sorts : List Sort) → Statements acts sorts → Each (BodyLawful acts sorts) 0 scl_grammar
laws acts sorts h =
    each_beside (BodyLawful acts sorts) 0 front statement_productions
    (each_beside (BodyLawful acts sorts) 0 expression_productions declaration_productions
    (expression_laws (declaration_actions ++ (call_actions ++ (body_actions ++ acts))) (declaration_sorts Scl ++ (call_sorts ++ (body_sorts Scl ++ (code_of list ∷ sorts)))))
    (declaration_laws (call_actions ++ (body_actions ++ acts)) (code_of list ∷ sorts) Scl h.call_laws))
    (body_1 acts sorts, (body_2 acts sorts, (data_body_1 acts sorts, (data_body_2 acts sorts, h.statement_laws))))

-- blocks that the tokens spell
found : (acts : List Action) (sorts : List Sort) (ts : List Sure) (s behind : Stack)
    → DoesAll (sure_making (all_actions acts)) (meaning (all_sorts sorts)) (Name name.source ∷ []) s ts behind → ReadBlocks Scl (lexemes ts)
found acts sorts ts s behind (val {us = us} (decls (a_source all h f)) nil q) = record {
  all = all;
  read = subst (λ (z : List Sure). ReadAsBlocks Scl all (lexemes z)) (sym (last ts us q)) (record { spelled = h; formed = f });
}

derived : (acts : List Action) (sorts : List Sort) → Statements acts sorts → (ts : List Sure)
    → Derives scl_grammar (Name name.source ∷ []) (map (λ (t : Sure). t.kind) ts) → ReadBlocks Scl (lexemes ts)
derived acts sorts h ts d =
    let x : Outcome scl_grammar (sure_making (all_actions acts)) (meaning (all_sorts sorts)) (Name name.source ∷ []) ts [] =
    outcome (λ k n body p. may (keeps (all_sorts sorts) (all_actions acts)) scl_grammar h.typed k n body p)
    (λ k n body p. each (BodyLawful acts sorts) scl_grammar (laws acts sorts h) k n body p) d ts refl [] (bare, λ us behind e. tt) in
    found acts sorts ts [] x.behind x.does

sound : (acts : List Action) (sorts : List Sort) → Statements acts sorts → (ls : List Lexeme) (kinds : List ℕ) → HaveKinds ls kinds
    → IsSentence scl_grammar name.source kinds → ReadBlocks Scl ls
sound acts sorts h ls kinds have d =
    subst (λ (z : List Lexeme). ReadBlocks Scl z) (sure_lexemes ls kinds have)
    (derived acts sorts h (sure_of ls kinds have)
    (subst (λ (z : List ℕ). IsSentence scl_grammar name.source z) (sym (sure_kinds ls kinds have)) d))

complete : (acts : List Action) (sorts : List Sort) → Statements acts sorts → (all : List BlockTree) (ls : List Lexeme) → ReadAsBlocks Scl all ls
    → Runs scl_grammar (making scl_actions) (Name name.source ∷ []) (kinded false ls) [] (blocks all ∷ [])
complete acts sorts h all ls r =
    subst (λ (z : List Action). Runs scl_grammar (making z) (Name name.source ∷ []) (kinded false ls) [] (blocks all ∷ [])) (sym h.actions_are)
    (source_run statement_productions (call_actions ++ (body_actions ++ acts)) Scl (bodies acts h.made) all ls r.spelled r.formed []).runs

below : (kinds : List ℕ) → IsSentence scl_grammar name.source kinds → All (λ (k : ℕ). k < outside) kinds
below kinds d =
    let e : Derives (scl_grammar ++ []) (Name name.source ∷ []) kinds =
    subst (λ (z : Grammar). Derives z (Name name.source ∷ []) kinds) (sym (append-nil scl_grammar)) d in
    let x : Inside scl_grammar outside (Name name.source ∷ []) kinds = inside scl_grammar [] 256 outside refl refl refl e in
    x.below

-- SCL's table reads sources
pub reads : (acts : List Action) (sorts : List Sort) → Statements acts sorts → (l : Language) → grammar_of l ≡ scl_grammar → l.start ≡ name.source
    → ReadsSources Scl l scl_actions
reads acts sorts h l e f = record {
  sound = λ ls kinds have d. sound acts sorts h ls kinds have
      (subst (λ (z : ℕ). IsSentence scl_grammar z kinds) f (subst (λ (z : Grammar). IsSentence z l.start kinds) e d));
  complete = λ all ls r. subst (λ (z : Grammar). Runs z (making scl_actions) (Name l.start ∷ []) (kinded false ls) [] (blocks all ∷ [])) (sym e)
      (subst (λ (z : ℕ). Runs scl_grammar (making scl_actions) (Name z ∷ []) (kinded false ls) [] (blocks all ∷ [])) (sym f) (complete acts sorts h all ls r));
  shaded = λ all ls r. shaded_source Scl l scl_actions statement_productions (call_actions ++ (body_actions ++ acts)) e f h.actions_are h.shades all ls r;
  below = λ kinds d. below kinds (subst (λ (z : ℕ). IsSentence scl_grammar z kinds) f (subst (λ (z : Grammar). IsSentence z l.start kinds) e d));
}
