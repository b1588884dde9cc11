-- What reading an expression answers, from what the recognizer and the loops over the turns say.
use Rattle.std.proofs.Common.{◌≡◌, ℕ, Bool, false, List, [], ◌∷◌, ◌++◌, map, Some, Option, Result, Ok, Err, IsTrue, ap, ◌∙◌, sym, subst}
use Rattle.pv_ll.specs.declared.table.Symbol.TheVariants.{Name}
use Rattle.pv_ll.specs.declared.table.Language.{Language}
use Rattle.pv_ll.specs.declared.turn.Turn.{Turn}
use Rattle.pv_ll.specs.Check.{is_ll1}
use Rattle.pv_ll.specs.Grammar.{Grammar, IsSentence, IsFault}
use Rattle.pv_ll.specs.Turns.{IsTold, IsExact}
use Rattle.pv_ll.specs.Table.{grammar_of}
use Rattle.pv_ll.specs.Making.{Runs}
use Rattle.pv_tree.specs.Tree.{ExprTree}
use Rattle.pv_tree.specs.Lexemes.{Lexeme}
use Rattle.pv_tree.specs.Reading.{ReadAsExpression, IsSyntaxFault}
use Rattle.pv_parse.specs.declared.action.Action.{Action}
use Rattle.pv_parse.specs.FrontNames as name
use Rattle.pv_parse.specs.Kinds.{kinds_of, HaveKinds}
use Rattle.pv_parse.specs.Front.{expression_productions}
use Rattle.pv_parse.specs.Items.{Stack, token, expr, expr_on}
use Rattle.pv_parse.specs.Deeds.{making, reduce_by, kinded, expression_actions}
use Rattle.pv_parse.specs.ExprAnswers.{ReadsExpressions, IsOnlyReading, IsDeepReading}
use Rattle.std.specs.List.{slice_get}
use Rattle.std.specs.Prelude.{None}
use Rattle.pv_place.specs.declared.place.Place.{Place}
use Rattle.pv_tree.specs.Nesting.{parts, most_levels}
use Rattle.pv_tree.proofs.ForCallers.{along-expr}
use Rattle.std.proofs.lemmas.Option.{none-some}
use Rattle.pv_parse.specs.declared.stack.Stop.{Stop}
use Rattle.pv_parse.specs.declared.stack.Stop.TheVariants.{Mistyped}
use Rattle.pv_parse.specs.Building.{acts, Plays, Built}
use Rattle.pv_parse.specs.InOrder.{LieInOrder}
use Rattle.pv_parse.specs.Shades.{Shade, shade_of_token, place_at}
use Rattle.pv_parse.specs.ExprShades.{places_of}
use Rattle.pv_parse.specs.ItemShades.{shade_of, shade_by, shade_making}
use Rattle.pv_parse.proofs.ForCallers.{is_shallow, is_deepest, marks-expr, shaded, Found, sound, complete, fault_of, plays, deeds_idle, shades_idle}

sentence_in : (g h : Grammar) (n m : ℕ) (w : List ℕ) → g ≡ h → n ≡ m → IsSentence g n w → IsSentence h m w
sentence_in g h n m w e f s = subst (λ (z : ℕ). IsSentence h z w) f (subst (λ (z : Grammar). IsSentence z n w) e s)

fault_in : (g h : Grammar) (n m : ℕ) (w : List ℕ) (i : ℕ) → g ≡ h → n ≡ m → IsFault g n w i → IsFault h m w i
fault_in g h n m w i e f s = subst (λ (z : ℕ). IsFault h z w i) f (subst (λ (z : Grammar). IsFault z n w i) e s)

-- each tree that the tokens read as is made by their derivation
made : (l : Language) (actions : List Action) (tree : ExprTree) (ls : List Lexeme) → ReadsExpressions l actions → ReadAsExpression tree ls
    → Runs (grammar_of l) (making actions) (Name l.start ∷ []) (kinded false ls) [] (expr tree ∷ [])
made l actions tree ls h r =
    subst (λ (z : Grammar). Runs z (making actions) (Name l.start ∷ []) (kinded false ls) [] (expr tree ∷ [])) (sym h.grammar)
    (subst (λ (z : List Action). Runs (expression_productions ++ h.rest) (making z) (Name l.start ∷ []) (kinded false ls) [] (expr tree ∷ [])) (sym h.actions_are)
    (subst (λ (z : ℕ). Runs (expression_productions ++ h.rest) (making (expression_actions ++ h.acts)) (Name z ∷ []) (kinded false ls) [] (expr tree ∷ []))
    (sym h.start) (complete h.rest h.acts tree ls r)))

-- and its shade
shades_made : (l : Language) (actions : List Action) (tree : ExprTree) (ls : List Lexeme) → ReadsExpressions l actions → ReadAsExpression tree ls
    → Runs (grammar_of l) (shade_making actions) (Name l.start ∷ []) (kinded false ls) [] (shade_of (expr tree) ∷ [])
shades_made l actions tree ls h r =
    subst (λ (z : Grammar). Runs z (shade_making actions) (Name l.start ∷ []) (kinded false ls) [] (shade_of (expr tree) ∷ [])) (sym h.grammar)
    (subst (λ (z : List Action). Runs (expression_productions ++ h.rest) (shade_making z) (Name l.start ∷ []) (kinded false ls) []
    (shade_of (expr tree) ∷ [])) (sym h.actions_are)
    (subst (λ (z : ℕ). Runs (expression_productions ++ h.rest) (shade_making (expression_actions ++ h.acts)) (Name z ∷ []) (kinded false ls) []
    (shade_of (expr tree) ∷ [])) (sym h.start) (shaded h.rest h.acts tree ls h.others r)))

-- what the loop over the shades finds at the end
abbrev pub Finds : Language → List Action → List Lexeme → Option Place → Type 0
Finds l actions ls found =
    (behind : List Shade) → Runs (grammar_of l) (shade_making actions) (Name l.start ∷ []) (kinded false ls) [] behind
    → found ≡ place_at most_levels behind

found_of : (l : Language) (actions : List Action) (tree : ExprTree) (ls : List Lexeme) (found : Option Place) → ReadsExpressions l actions
    → ReadAsExpression tree ls → Finds l actions ls found → found ≡ slice_get (places_of tree) most_levels
found_of l actions tree ls found h r finds = finds (shade_of (expr tree) ∷ []) (shades_made l actions tree ls h r)

abbrev first : Option (ExprTree × Stack) → ExprTree → ExprTree
first (Some x) d = x.0
first _ d = d

top_is : (stack : Stack) (tree e : ExprTree) (left : Stack) → stack ≡ expr tree ∷ [] → expr_on stack ≡ Some (e, left) → tree ≡ e
top_is stack tree e left p q =
    let r : ◌≡◌ {A = Option (ExprTree × Stack)} (Some (tree, [])) (Some (e, left)) = sym (ap (λ (z : Stack). expr_on z) p) ∙ q in
    ap (λ (z : Option (ExprTree × Stack)). first z tree) r

pub only_reading : (l : Language) (actions : List Action) (ls : List Lexeme) (stack left : Stack) (e : ExprTree)
    → ReadsExpressions l actions → HaveKinds ls (kinds_of false ls) → IsSentence (grammar_of l) l.start (kinds_of false ls)
    → Finds l actions ls None
    → ((behind : Stack) → Runs (grammar_of l) (making actions) (Name l.start ∷ []) (kinded false ls) [] behind → stack ≡ behind)
    → expr_on stack ≡ Some (e, left) → IsOnlyReading e ls
only_reading l actions ls stack left e h kinds s finds built top =
    let f : Found ls = sound h.rest ls h.others kinds
    (sentence_in (grammar_of l) (expression_productions ++ h.rest) l.start name.expression (kinds_of false ls) h.grammar h.start s) in
    let one : (tree : ExprTree) → ReadAsExpression tree ls → tree ≡ e = λ tree r.
    top_is stack tree e left (built (expr tree ∷ []) (made l actions tree ls h r)) top in
    let read : ReadAsExpression e ls = subst (λ (z : ExprTree). ReadAsExpression z ls) (one f.tree f.read) f.read in
    record {
      read = read;
      only = one;
      shallow = is_shallow (places_of e) (parts 0 e) (marks-expr 0 e) (sym (found_of l actions e ls None h read finds));
    }

-- a tree that nests too deep
pub deep_reading : (l : Language) (actions : List Action) (ls : List Lexeme) (place : Place) → ReadsExpressions l actions
    → HaveKinds ls (kinds_of false ls) → LieInOrder 0 ls → IsSentence (grammar_of l) l.start (kinds_of false ls)
    → Finds l actions ls (Some place) → IsDeepReading ls place
deep_reading l actions ls place h kinds order s finds =
    let f : Found ls = sound h.rest ls h.others kinds
    (sentence_in (grammar_of l) (expression_productions ++ h.rest) l.start name.expression (kinds_of false ls) h.grammar h.start s) in
    record {
      tree = f.tree;
      read = f.read;
      deepest = is_deepest (places_of f.tree) ls (parts 0 f.tree) place order (along-expr 0 f.tree ls f.read.spelled) (marks-expr 0 f.tree)
          (sym (found_of l actions f.tree ls (Some place) h f.read finds));
    }

pub fault_here : (l : Language) (actions : List Action) (ls : List Lexeme) (i : ℕ) → ReadsExpressions l actions → HaveKinds ls (kinds_of false ls)
    → IsFault (grammar_of l) l.start (kinds_of false ls) i → IsSyntaxFault ReadAsExpression ls i
fault_here l actions ls i h kinds f =
    fault_of h.rest ls i h.others kinds
    (fault_in (grammar_of l) (expression_productions ++ h.rest) l.start name.expression (kinds_of false ls) i h.grammar h.start f)

-- ---- by the recognizer's answer

pub exact_in : (l : Language) (flags : List Bool) (ls : List Lexeme) (ks : List ℕ) (answer said : Result (List Turn) ℕ) → ks ≡ kinds_of false ls
    → answer ≡ said → IsExact (grammar_of l) l.start flags ks answer → IsExact (grammar_of l) l.start flags (kinds_of false ls) said
exact_in l flags ls ks answer said e f x =
    subst (λ (z : Result (List Turn) ℕ). IsExact (grammar_of l) l.start flags (kinds_of false ls) z) f
    (subst (λ (z : List ℕ). IsExact (grammar_of l) l.start flags z answer) e x)

pub at_fault : (l : Language) (actions : List Action) (ls : List Lexeme) (flags : List Bool) (ks : List ℕ) (answer : Result (List Turn) ℕ) (i : ℕ)
    → ReadsExpressions l actions → HaveKinds ls (kinds_of false ls) → ks ≡ kinds_of false ls → answer ≡ Err i
    → IsExact (grammar_of l) l.start flags ks answer → IsSyntaxFault ReadAsExpression ls i
at_fault l actions ls flags ks answer i h kinds e f x = fault_here l actions ls i h kinds (exact_in l flags ls ks answer (Err i) e f x)

-- the tokens are a text, and these are its turns
pub record Told (l : Language) (actions : List Action) (ls : List Lexeme) (turns : List Turn) : Type 0 where
  pub fits : IsTrue (is_ll1 l)
  pub sentence : IsSentence (grammar_of l) l.start (kinds_of false ls)
  pub told : IsTold (grammar_of l) l.start (map acts actions) (kinds_of false ls) turns

pub told_in : (l : Language) (actions : List Action) (ls : List Lexeme) (flags : List Bool) (ks : List ℕ) (answer : Result (List Turn) ℕ)
    (turns handed : List Turn) → IsTrue (is_ll1 l) → flags ≡ map acts actions → ks ≡ kinds_of false ls → answer ≡ Ok turns → handed ≡ turns
    → IsExact (grammar_of l) l.start flags ks answer → Told l actions ls handed
told_in l actions ls flags ks answer turns handed fits a p f t x =
    let exact : IsExact (grammar_of l) l.start flags (kinds_of false ls) (Ok turns) = exact_in l flags ls ks answer (Ok turns) p f x in
    record {
      fits = fits;
      sentence = exact.0;
      told = subst (λ (z : List Turn). IsTold (grammar_of l) l.start (map acts actions) (kinds_of false ls) z) (sym t)
          (subst (λ (z : List Bool). IsTold (grammar_of l) l.start z (kinds_of false ls) turns) a exact.1);
    }

-- what the turns make is what the symbols make
module _ (l : Language) (actions : List Action) (ls : List Lexeme) (turns : List Turn) (t : Told l actions ls turns) where
  pub played : (behind : Stack) → Runs (grammar_of l) (making actions) (Name l.start ∷ []) (kinded false ls) [] behind
      → Plays (making actions) turns ls [] behind
  played behind r = plays l token (reduce_by actions) (map acts actions) turns ls behind t.fits (deeds_idle actions) t.told r

  pub shades_played : (behind : List Shade) → Runs (grammar_of l) (shade_making actions) (Name l.start ∷ []) (kinded false ls) [] behind
      → Plays (shade_making actions) turns ls [] behind
  shades_played behind r = plays l shade_of_token (shade_by actions) (map acts actions) turns ls behind t.fits (shades_idle actions) t.told r

  -- where the loop over the shades stops with a place or none
  pub finds : (found said : Option Place) → found ≡ said
      → ((behind : List Shade) → Plays (shade_making actions) turns ls [] behind → found ≡ place_at most_levels behind) → Finds l actions ls said
  finds found said is clause behind r = sym is ∙ clause behind (shades_played behind r)

pub read_well : (l : Language) (actions : List Action) (ls : List Lexeme) (handed again : List Turn) (found : Option Place) (stack left : Stack)
    (e : ExprTree) → ReadsExpressions l actions → HaveKinds ls (kinds_of false ls) → Told l actions ls handed → Told l actions ls again
    → found ≡ None → ((behind : List Shade) → Plays (shade_making actions) again ls [] behind → found ≡ place_at most_levels behind)
    → ((behind : Stack) → Plays (making actions) handed ls [] behind → stack ≡ behind) → expr_on stack ≡ Some (e, left) → IsOnlyReading e ls
read_well l actions ls handed again found stack left e h kinds t u none found_is built top =
    only_reading l actions ls stack left e h kinds t.sentence (finds l actions ls again u found None none found_is)
    (λ behind r. built behind (played l actions ls handed t behind r)) top

pub too_deep : (l : Language) (actions : List Action) (ls : List Lexeme) (turns : List Turn) (found : Option Place) (place : Place)
    → ReadsExpressions l actions → HaveKinds ls (kinds_of false ls) → LieInOrder 0 ls → Told l actions ls turns → found ≡ Some place
    → ((behind : List Shade) → Plays (shade_making actions) turns ls [] behind → found ≡ place_at most_levels behind) → IsDeepReading ls place
too_deep l actions ls turns found place h kinds order t some found_is =
    deep_reading l actions ls place h kinds order t.sentence (finds l actions ls turns t found (Some place) some found_is)

-- ---- what can't come: the turns of tokens that read make something

module _ (l : Language) (actions : List Action) (ls : List Lexeme) (turns : List Turn) (h : ReadsExpressions l actions)
    (kinds : HaveKinds ls (kinds_of false ls)) (t : Told l actions ls turns) where
  found_reading : Found ls
  found_reading =
      sound h.rest ls h.others kinds
      (sentence_in (grammar_of l) (expression_productions ++ h.rest) l.start name.expression (kinds_of false ls) h.grammar h.start t.sentence)

  pub never_deep : (r : Result (Option Place) Stop) → r ≡ Err Mistyped
      → ((behind : List Shade) → Plays (shade_making actions) turns ls [] behind → Built (λ (o : Option Place). o) r (place_at most_levels behind)) → ⊥
  never_deep r is found =
      let b : Found ls = found_reading in
      subst (λ (z : Result (Option Place) Stop). Built (λ (o : Option Place). o) z (place_at most_levels (shade_of (expr b.tree) ∷ []))) is
      (found (shade_of (expr b.tree) ∷ []) (shades_played l actions ls turns t (shade_of (expr b.tree) ∷ []) (shades_made l actions b.tree ls h b.read)))

  pub never_built : {X : Type 0} (view : X → Stack) (r : Result X Stop) → r ≡ Err Mistyped
      → ((behind : Stack) → Plays (making actions) turns ls [] behind → Built view r behind) → ⊥
  never_built {X} view r is found =
      let b : Found ls = found_reading in
      subst (λ (z : Result X Stop). Built view z (expr b.tree ∷ [])) is
      (found (expr b.tree ∷ []) (played l actions ls turns t (expr b.tree ∷ []) (made l actions b.tree ls h b.read)))

  pub never_without : (stack : Stack) → ((behind : Stack) → Plays (making actions) turns ls [] behind → stack ≡ behind) → expr_on stack ≡ None → ⊥
  never_without stack built none =
      let b : Found ls = found_reading in
      let whole : stack ≡ expr b.tree ∷ [] =
      built (expr b.tree ∷ []) (played l actions ls turns t (expr b.tree ∷ []) (made l actions b.tree ls h b.read)) in
      none-some (b.tree, []) (sym none ∙ ap (λ (z : Stack). expr_on z) whole)
