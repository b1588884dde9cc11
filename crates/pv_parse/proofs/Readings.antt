-- Expressions as texts: what a derivation says of their tokens, what their tokens say of a derivation, and where one is at fault.
use Rattle.std.proofs.Common.{◌≡◌, ℕ, zero, suc, ◌+◌, ◌<◌, ◌≤◌, Bool, false, List, [], ◌∷◌, ◌++◌, All, length, take, map, refl, ap, ◌∙◌, sym, subst, arith}
use Rattle.std.proofs.lemmas.List.{take-map, map-append}
use Rattle.std.proofs.lemmas.List.Elements.{All-tail}
use Rattle.pv_ll.specs.declared.table.Symbol.TheVariants.{Name}
use Rattle.pv_ll.specs.Grammar.{Grammar, Derives, IsSentence, IsFault}
use Rattle.pv_ll.specs.Making.{Runs}
use Rattle.pv_ll.specs.Meaning.{Law, DoesAll, Outcome}
use Rattle.pv_ll.specs.Meaning.DoesAll.{nil, val}
use Rattle.pv_ll.specs.Texts.{OfKinds}
use Rattle.pv_ll.proofs.ForCallers.{forgotten, each, outcome, may, witnesses}
use Rattle.pv_tree.specs.Tree.{ExprTree}
use Rattle.pv_tree.specs.Lexemes.{Lexeme}
use Rattle.pv_tree.specs.Reading.{ReadAsExpression, IsSyntaxFault}
use Rattle.pv_parse.specs.declared.action.Action.{Action}
use Rattle.pv_parse.specs.KindNumbers.{outside}
use Rattle.pv_parse.specs.Kinds.{kind_of, kinds_of, marks, marked_behind, HaveKinds}
use Rattle.pv_parse.specs.FrontNames as name
use Rattle.pv_parse.specs.Front.{expression_productions}
use Rattle.pv_parse.specs.Items.{Stack, expr}
use Rattle.pv_parse.specs.ExprAnswers.{AreOthers}
use Rattle.pv_parse.specs.Deeds.{kinded, making, expression_actions}
use Rattle.pv_parse.proofs.KindSteps.{kinds-append}
use Rattle.pv_parse.proofs.Witnesses.{witness-of}
use Rattle.pv_parse.proofs.Sorts.{Sure, lexemes, an_expr, expression_sorts, sure_making, meaning}
use Rattle.pv_parse.proofs.Shapes.{keeps}
use Rattle.pv_parse.proofs.ExprSound.{expression_laws}
use Rattle.pv_parse.proofs.Closed.{Inside, closed}
use Rattle.pv_parse.proofs.Complete.{can}
use Rattle.pv_parse.proofs.Forms.{last}
use Rattle.pv_parse.proofs.Taking.{kinds_kinded}

-- ---- a derivation makes a tree

-- the tokens of a list that have these kinds
abbrev pub sure_of : (ls : List Lexeme) (kinds : List ℕ) → HaveKinds ls kinds → List Sure
sure_of [] [] h = []
sure_of [] (x ∷ kinds) h = absurd h
sure_of (t ∷ ls) [] h = absurd h
sure_of (t ∷ ls) (x ∷ kinds) h = record { lexeme = t; kind = x; has = h.0 } ∷ sure_of ls kinds h.1

pub sure_lexemes : (ls : List Lexeme) (kinds : List ℕ) (h : HaveKinds ls kinds) → lexemes (sure_of ls kinds h) ≡ ls
sure_lexemes [] [] h = refl
sure_lexemes [] (x ∷ kinds) h = absurd h
sure_lexemes (t ∷ ls) [] h = absurd h
sure_lexemes (t ∷ ls) (x ∷ kinds) h = ap (λ (z : List Lexeme). t ∷ z) (sure_lexemes ls kinds h.1)

pub sure_kinds : (ls : List Lexeme) (kinds : List ℕ) (h : HaveKinds ls kinds) → map (λ (t : Sure). t.kind) (sure_of ls kinds h) ≡ kinds
sure_kinds [] [] h = refl
sure_kinds [] (x ∷ kinds) h = absurd h
sure_kinds (t ∷ ls) [] h = absurd h
sure_kinds (t ∷ ls) (x ∷ kinds) h = ap (λ (z : List ℕ). x ∷ z) (sure_kinds ls kinds h.1)

-- an expression that the tokens spell
pub record Found (ts : List Lexeme) : Type 0 where
  pub tree : ExprTree
  pub read : ReadAsExpression tree ts

found : (ts : List Sure) (s behind : Stack)
    → DoesAll (sure_making (expression_actions ++ [])) (meaning (expression_sorts ++ [])) (Name name.expression ∷ []) s ts behind → Found (lexemes ts)
found ts s behind (val {us = us} (an_expr e h) nil q) = record {
  tree = e;
  read = subst (λ (z : List Sure). ReadAsExpression e (lexemes z)) (sym (last ts us q)) (record { spelled = h.spelled; formed = h.formed });
}

derived : (ts : List Sure) → Derives expression_productions (Name name.expression ∷ []) (map (λ (t : Sure). t.kind) ts) → Found (lexemes ts)
derived ts d =
    let x : Outcome expression_productions (sure_making (expression_actions ++ [])) (meaning (expression_sorts ++ [])) (Name name.expression ∷ []) ts [] =
    outcome (λ k n body p. may (keeps (expression_sorts ++ []) (expression_actions ++ [])) expression_productions refl k n body p)
    (λ k n body p. each (Law (sure_making (expression_actions ++ [])) (meaning (expression_sorts ++ []))) expression_productions (expression_laws [] []) k n body p)
    d ts refl [] (tt, λ us behind e. tt) in
    found ts [] x.behind x.does

inside : (rest : Grammar) (w : List ℕ) → AreOthers rest → IsSentence (expression_productions ++ rest) name.expression w
    → Inside expression_productions outside (Name name.expression ∷ []) w
inside rest w others d = closed expression_productions rest 34 outside refl others refl d

pub sound_of : (rest : Grammar) (ts : List Sure) → AreOthers rest → IsSentence (expression_productions ++ rest) name.expression (map (λ (t : Sure). t.kind) ts)
    → Found (lexemes ts)
sound_of rest ts others d = derived ts (inside rest (map (λ (t : Sure). t.kind) ts) others d).derives

-- the tokens of a text of which a sentence's kinds are the kinds
pub sound : (rest : Grammar) (ls : List Lexeme) → AreOthers rest → HaveKinds ls (kinds_of false ls) → IsSentence (expression_productions ++ rest) name.expression (kinds_of false ls)
    → Found ls
sound rest ls others h d =
    let k : HaveKinds ls (kinds_of false ls) = h in
    subst (λ (z : List Lexeme). Found z) (sure_lexemes ls (kinds_of false ls) k)
    (sound_of rest (sure_of ls (kinds_of false ls) k) others
    (subst (λ (z : List ℕ). IsSentence (expression_productions ++ rest) name.expression z) (sym (sure_kinds ls (kinds_of false ls) k)) d))

-- ---- a tree is made by a derivation

pub complete : (rest : Grammar) (acts : List Action) (e : ExprTree) (ls : List Lexeme) → ReadAsExpression e ls
    → Runs (expression_productions ++ rest) (making (expression_actions ++ acts)) (Name name.expression ∷ []) (kinded false ls) [] (expr e ∷ [])
complete rest acts e ls r = ((can rest acts e ls r.spelled r.formed).whole 0 (omega arith) (omega arith) []).runs

pub sentence_of : (rest : Grammar) (e : ExprTree) (ls : List Lexeme) → ReadAsExpression e ls
    → IsSentence (expression_productions ++ rest) name.expression (kinds_of false ls)
sentence_of rest e ls r =
    subst (λ (z : List ℕ). IsSentence (expression_productions ++ rest) name.expression z) (sym (kinds_kinded false ls)) (forgotten (complete rest [] e ls r))

-- ---- faults

pub kinds_length : (marked : Bool) (ls : List Lexeme) → length (kinds_of marked ls) ≡ length ls
kinds_length marked [] = refl
kinds_length marked (t ∷ ls) = ap suc (kinds_length (marks t) ls)

pub kinds_take : (i : ℕ) (marked : Bool) (ls : List Lexeme) → kinds_of marked (take i ls) ≡ take i (kinds_of marked ls)
kinds_take zero marked ls = refl
kinds_take (suc i) marked [] = refl
kinds_take (suc i) marked (t ∷ ls) = ap (λ (z : List ℕ). kind_of marked t ∷ z) (kinds_take i (marks t) ls)

pub all_behind : {X : Type 0} (P : X → Type 0) (xs ys : List X) → All P (xs ++ ys) → All P ys
all_behind P [] ys h = h
all_behind P (x ∷ xs) ys h = all_behind P xs ys (All-tail P x (xs ++ ys) h)

witness : (m : ℕ) → m < outside → (t : Sure) × (t.kind ≡ m)
witness m h = let x = witness-of m h in (record { lexeme = x.0; kind = m; has = x.1 }, refl)

record Viable (ls : List Lexeme) (i : ℕ) : Type 0 where
  tree : ExprTree
  more : List Lexeme
  read : ReadAsExpression tree (take i ls ++ more)

viable : (rest : Grammar) (ls : List Lexeme) (i : ℕ) (w : List ℕ) → AreOthers rest → HaveKinds ls (kinds_of false ls)
    → IsSentence (expression_productions ++ rest) name.expression (take i (kinds_of false ls) ++ w) → Viable ls i
viable rest ls i w others h d =
    let k : HaveKinds ls (kinds_of false ls) = h in
    let ts : List Sure = sure_of ls (kinds_of false ls) k in
    let below : All (λ (t : ℕ). t < outside) w = all_behind (λ (t : ℕ). t < outside) (take i (kinds_of false ls)) w
    (inside rest (take i (kinds_of false ls) ++ w) others d).below in
    let x : OfKinds Sure (λ (t : Sure). t.kind) w = witnesses (λ (t : Sure). t.kind) outside witness w below in
    let kinds_are : map (λ (t : Sure). t.kind) (take i ts ++ x.tokens) ≡ take i (kinds_of false ls) ++ w =
    map-append (λ (t : Sure). t.kind) (take i ts) x.tokens
    ∙ ap (λ (z : List ℕ). z ++ map (λ (t : Sure). t.kind) x.tokens) (sym (take-map (λ (t : Sure). t.kind) i ts)
    ∙ ap (λ (z : List ℕ). take i z) (sure_kinds ls (kinds_of false ls) k))
    ∙ ap (λ (z : List ℕ). take i (kinds_of false ls) ++ z) x.are in
    let lexemes_are : lexemes (take i ts ++ x.tokens) ≡ take i ls ++ lexemes x.tokens =
    map-append (λ (t : Sure). t.lexeme) (take i ts) x.tokens
    ∙ ap (λ (z : List Lexeme). z ++ lexemes x.tokens) (sym (take-map (λ (t : Sure). t.lexeme) i ts)
    ∙ ap (λ (z : List Lexeme). take i z) (sure_lexemes ls (kinds_of false ls) k)) in
    let f : Found (lexemes (take i ts ++ x.tokens)) = sound_of rest (take i ts ++ x.tokens) others
    (subst (λ (z : List ℕ). IsSentence (expression_productions ++ rest) name.expression z) (sym kinds_are) d) in
    record { tree = f.tree; more = lexemes x.tokens; read = subst (λ (z : List Lexeme). ReadAsExpression f.tree z) lexemes_are f.read }

pub fault_of : (rest : Grammar) (ls : List Lexeme) (i : ℕ) → AreOthers rest → HaveKinds ls (kinds_of false ls)
    → IsFault (expression_productions ++ rest) name.expression (kinds_of false ls) i → IsSyntaxFault ReadAsExpression ls i
fault_of rest ls i others h f =
    let v : Viable ls i = viable rest ls i f.viable.0 others h f.viable.1 in
    record {
      within = subst (λ (z : ℕ). i ≤ z) (kinds_length false ls) f.within;
      viable = (v.tree, v.more, v.read);
      exact = λ less tree more r.
          f.exact (subst (λ (z : ℕ). i < z) (sym (kinds_length false ls)) less) (kinds_of (marked_behind false (take (i + 1) ls)) more)
          (subst (λ (z : List ℕ). IsSentence (expression_productions ++ rest) name.expression z)
          (kinds-append false (take (i + 1) ls) more
          ∙ ap (λ (z : List ℕ). z ++ kinds_of (marked_behind false (take (i + 1) ls)) more) (kinds_take (i + 1) false ls))
          (sentence_of rest tree (take (i + 1) ls ++ more) r));
      none = λ tree r. f.no_sentence (sentence_of rest tree ls r);
    }
