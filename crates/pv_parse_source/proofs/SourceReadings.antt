-- Sources as texts: what reading one answers, from what the recognizer and the loops over the turns say, in each language whose
-- derivations are exact.
use Rattle.std.proofs.Common.{◌≡◌, ℕ, zero, suc, ◌+◌, ◌<◌, ◌≤◌, Bool, false, List, [], ◌∷◌, ◌++◌, All, take, Some, None, Option, Result, Ok, Err, ap, ◌∙◌, sym, subst}
use Rattle.std.specs.List.{slice_get}
use Rattle.std.proofs.lemmas.List.Elements.{All-head, All-tail}
use Rattle.pv_place.specs.declared.place.Place.{Place}
use Rattle.pv_ll.specs.declared.table.Symbol.TheVariants.{Name}
use Rattle.pv_ll.specs.declared.table.Language.{Language}
use Rattle.pv_ll.specs.declared.turn.Turn.{Turn}
use Rattle.pv_ll.specs.Grammar.{IsSentence, IsFault}
use Rattle.pv_ll.specs.Turns.{IsExact}
use Rattle.pv_ll.specs.Table.{grammar_of}
use Rattle.pv_ll.specs.Making.{Runs}
use Rattle.pv_ll.proofs.ForCallers.{forgotten}
use Rattle.pv_lex.specs.declared.token.Language.{Language as Of}
use Rattle.pv_tree.specs.Tree.{BlockTree}
use Rattle.pv_tree.specs.Lexemes.{Lexeme}
use Rattle.pv_tree.specs.Nesting.{most_levels}
use Rattle.pv_tree.specs.Reading.{ReadAsBlocks, IsSyntaxFault}
use Rattle.pv_parse.specs.declared.action.Action.{Action}
use Rattle.pv_parse.specs.KindNumbers.{outside}
use Rattle.pv_parse.specs.InOrder.{LieInOrder}
use Rattle.pv_parse.specs.Kinds.{kinds_of, marked_behind, HaveKinds}
use Rattle.pv_parse.specs.Items.{Stack, blocks}
use Rattle.pv_parse.specs.DeclStack.{blocks_on}
use Rattle.pv_parse.specs.Deeds.{making, kinded}
use Rattle.pv_parse_source.specs.SourceAnswers.{ReadBlocks, IsShaded, ReadsSources, IsOnlySource, IsDeepSource}
use Rattle.pv_parse.proofs.ForCallers.{kinds-append, witness-of, kinds_kinded, kinds_length, kinds_take, all_behind}
use Rattle.std.proofs.lemmas.Option.{none-some}
use Rattle.pv_parse.specs.declared.stack.Stop.{Stop}
use Rattle.pv_parse.specs.declared.stack.Stop.TheVariants.{Mistyped}
use Rattle.pv_parse.specs.Building.{Plays, Built}
use Rattle.pv_parse.specs.Shades.{Shade, place_at}
use Rattle.pv_parse.specs.ItemShades.{shade_making}
use Rattle.pv_parse_source.proofs.Answering.{Finds, Told, exact_in, played, shades_played, finds}

sentence_of : (its : Of) (l : Language) (actions : List Action) → ReadsSources its l actions → (all : List BlockTree) (ls : List Lexeme)
    → ReadAsBlocks its all ls → IsSentence (grammar_of l) l.start (kinds_of false ls)
sentence_of its l actions h all ls r =
    subst (λ (z : List ℕ). IsSentence (grammar_of l) l.start z) (sym (kinds_kinded false ls)) (forgotten (h.complete all ls r))

-- ---- tokens of these kinds

have_take : (i : ℕ) (ls : List Lexeme) (kinds : List ℕ) → HaveKinds ls kinds → HaveKinds (take i ls) (take i kinds)
have_take zero ls kinds h = tt
have_take (suc i) [] [] h = tt
have_take (suc i) [] (k ∷ kinds) h = absurd h
have_take (suc i) (t ∷ ls) [] h = absurd h
have_take (suc i) (t ∷ ls) (k ∷ kinds) h = (h.0, have_take i ls kinds h.1)

have_append : (xs ys : List Lexeme) (ks ms : List ℕ) → HaveKinds xs ks → HaveKinds ys ms → HaveKinds (xs ++ ys) (ks ++ ms)
have_append [] ys [] ms h g = g
have_append [] ys (k ∷ ks) ms h g = absurd h
have_append (x ∷ xs) ys [] ms h g = absurd h
have_append (x ∷ xs) ys (k ∷ ks) ms h g = (h.0, have_append xs ys ks ms h.1 g)

some_tokens : (kinds : List ℕ) → All (λ (k : ℕ). k < outside) kinds → (ls : List Lexeme) × HaveKinds ls kinds
some_tokens [] h = ([], tt)
some_tokens (k ∷ kinds) h =
    let x = witness-of k (All-head (λ (k : ℕ). k < outside) k kinds h) in
    let more = some_tokens kinds (All-tail (λ (k : ℕ). k < outside) k kinds h) in
    (x.0 ∷ more.0, (x.1, more.1))

-- ---- faults

fault_of : (its : Of) (l : Language) (actions : List Action) → ReadsSources its l actions → (ls : List Lexeme) (i : ℕ) → HaveKinds ls (kinds_of false ls)
    → IsFault (grammar_of l) l.start (kinds_of false ls) i → IsSyntaxFault (ReadAsBlocks its) ls i
fault_of its l actions h ls i kinds f =
    let w : List ℕ = f.viable.0 in
    let below : All (λ (k : ℕ). k < outside) w =
    all_behind (λ (k : ℕ). k < outside) (take i (kinds_of false ls)) w (h.below (take i (kinds_of false ls) ++ w) f.viable.1) in
    let more = some_tokens w below in
    let v : ReadBlocks its (take i ls ++ more.0) = h.sound (take i ls ++ more.0) (take i (kinds_of false ls) ++ w)
    (have_append (take i ls) more.0 (take i (kinds_of false ls)) w (have_take i ls (kinds_of false ls) kinds) more.1) f.viable.1 in
    record {
      within = subst (λ (z : ℕ). i ≤ z) (kinds_length false ls) f.within;
      viable = (v.all, more.0, v.read);
      exact = λ less all others r.
          f.exact (subst (λ (z : ℕ). i < z) (sym (kinds_length false ls)) less) (kinds_of (marked_behind false (take (i + 1) ls)) others)
          (subst (λ (z : List ℕ). IsSentence (grammar_of l) l.start z)
          (kinds-append false (take (i + 1) ls) others
          ∙ ap (λ (z : List ℕ). z ++ kinds_of (marked_behind false (take (i + 1) ls)) others) (kinds_take (i + 1) false ls))
          (sentence_of its l actions h all (take (i + 1) ls ++ others) r));
      none = λ all r. f.no_sentence (sentence_of its l actions h all ls r);
    }

-- ---- blocks

-- what the loop over the shades finds is what the source's shade has at the depth that is too deep
found_of : (its : Of) (l : Language) (actions : List Action) (ls : List Lexeme) (found : Option Place) (h : ReadsSources its l actions)
    (all : List BlockTree) (r : ReadAsBlocks its all ls) → Finds l actions ls found → found ≡ slice_get (h.shaded all ls r).shade.parts most_levels
found_of its l actions ls found h all r found_is =
    let x : IsShaded its l actions all ls r = h.shaded all ls r in
    found_is (x.shade ∷ []) x.runs

abbrev first : Option (List BlockTree × Stack) → List BlockTree → List BlockTree
first (Some x) d = x.0
first _ d = d

top_is : (stack : Stack) (all got : List BlockTree) (left : Stack) → stack ≡ blocks all ∷ [] → blocks_on stack ≡ Some (got, left) → all ≡ got
top_is stack all got left p q =
    let r : ◌≡◌ {A = Option (List BlockTree × Stack)} (Some (all, [])) (Some (got, left)) = sym (ap (λ (z : Stack). blocks_on z) p) ∙ q in
    ap (λ (z : Option (List BlockTree × Stack)). first z all) r

only_source : (its : Of) (l : Language) (actions : List Action) (ls : List Lexeme) (stack left : Stack) (got : List BlockTree)
    → ReadsSources its l actions → HaveKinds ls (kinds_of false ls) → IsSentence (grammar_of l) l.start (kinds_of false ls)
    → Finds l actions ls None
    → ((behind : Stack) → Runs (grammar_of l) (making actions) (Name l.start ∷ []) (kinded false ls) [] behind → stack ≡ behind)
    → blocks_on stack ≡ Some (got, left) → IsOnlySource its got ls
only_source its l actions ls stack left got h kinds s found_is built top =
    let f : ReadBlocks its ls = h.sound ls (kinds_of false ls) kinds s in
    let one : (all : List BlockTree) → ReadAsBlocks its all ls → all ≡ got = λ all r.
    top_is stack all got left (built (blocks all ∷ []) (h.complete all ls r)) top in
    let read : ReadAsBlocks its got ls = subst (λ (z : List BlockTree). ReadAsBlocks its z ls) (one f.all f.read) f.read in
    record {
      read = read;
      only = one;
      shallow = (h.shaded got ls read).shallow (sym (found_of its l actions ls None h got read found_is));
    }

-- blocks that nest too deep
deep_source : (its : Of) (l : Language) (actions : List Action) (ls : List Lexeme) (place : Place) → ReadsSources its l actions
    → HaveKinds ls (kinds_of false ls) → LieInOrder 0 ls → IsSentence (grammar_of l) l.start (kinds_of false ls) → Finds l actions ls (Some place)
    → IsDeepSource its ls place
deep_source its l actions ls place h kinds order s found_is =
    let f : ReadBlocks its ls = h.sound ls (kinds_of false ls) kinds s in
    record {
      all = f.all;
      read = f.read;
      deepest = (h.shaded f.all ls f.read).deepest place order (sym (found_of its l actions ls (Some place) h f.all f.read found_is));
    }

-- ---- by the recognizer's answer

pub at_fault : (its : Of) (l : Language) (actions : List Action) (ls : List Lexeme) (flags : List Bool) (ks : List ℕ) (answer : Result (List Turn) ℕ)
    (i : ℕ) → ReadsSources its l actions → HaveKinds ls (kinds_of false ls) → ks ≡ kinds_of false ls → answer ≡ Err i
    → IsExact (grammar_of l) l.start flags ks answer → IsSyntaxFault (ReadAsBlocks its) ls i
at_fault its l actions ls flags ks answer i h kinds e f x = fault_of its l actions h ls i kinds (exact_in l flags ls ks answer (Err i) e f x)

pub read_well : (its : Of) (l : Language) (actions : List Action) (ls : List Lexeme) (handed again : List Turn) (found : Option Place)
    (stack left : Stack) (got : List BlockTree) → ReadsSources its l actions → HaveKinds ls (kinds_of false ls) → Told l actions ls handed
    → Told l actions ls again → found ≡ None
    → ((behind : List Shade) → Plays (shade_making actions) again ls [] behind → found ≡ place_at most_levels behind)
    → ((behind : Stack) → Plays (making actions) handed ls [] behind → stack ≡ behind) → blocks_on stack ≡ Some (got, left) → IsOnlySource its got ls
read_well its l actions ls handed again found stack left got h kinds t u none found_is built top =
    only_source its l actions ls stack left got h kinds t.sentence (finds l actions ls again u found None none found_is)
    (λ behind r. built behind (played l actions ls handed t behind r)) top

pub too_deep : (its : Of) (l : Language) (actions : List Action) (ls : List Lexeme) (turns : List Turn) (found : Option Place) (place : Place)
    → ReadsSources its l actions → HaveKinds ls (kinds_of false ls) → LieInOrder 0 ls → Told l actions ls turns → found ≡ Some place
    → ((behind : List Shade) → Plays (shade_making actions) turns ls [] behind → found ≡ place_at most_levels behind) → IsDeepSource its ls place
too_deep its l actions ls turns found place h kinds order t some found_is =
    deep_source its l actions ls place h kinds order t.sentence (finds l actions ls turns t found (Some place) some found_is)

-- ---- what can't come: the turns of tokens that read make something

module _ (its : Of) (l : Language) (actions : List Action) (ls : List Lexeme) (turns : List Turn) (h : ReadsSources its l actions)
    (kinds : HaveKinds ls (kinds_of false ls)) (t : Told l actions ls turns) where
  abbrev found_blocks : ReadBlocks its ls
  found_blocks = h.sound ls (kinds_of false ls) kinds t.sentence

  -- the shade of what they read as is there behind them
  pub never_deep : (r : Result (Option Place) Stop) → r ≡ Err Mistyped
      → ((behind : List Shade) → Plays (shade_making actions) turns ls [] behind → Built (λ (o : Option Place). o) r (place_at most_levels behind)) → ⊥
  never_deep r is found =
      let b : ReadBlocks its ls = found_blocks in
      let s : IsShaded its l actions b.all ls b.read = h.shaded b.all ls b.read in
      subst (λ (z : Result (Option Place) Stop). Built (λ (o : Option Place). o) z (place_at most_levels (s.shade ∷ []))) is
      (found (s.shade ∷ []) (shades_played l actions ls turns t (s.shade ∷ []) s.runs))

  -- so are their blocks
  pub never_built : {X : Type 0} (view : X → Stack) (r : Result X Stop) → r ≡ Err Mistyped
      → ((behind : Stack) → Plays (making actions) turns ls [] behind → Built view r behind) → ⊥
  never_built {X} view r is found =
      let b : ReadBlocks its ls = found_blocks in
      subst (λ (z : Result X Stop). Built view z (blocks b.all ∷ [])) is
      (found (blocks b.all ∷ []) (played l actions ls turns t (blocks b.all ∷ []) (h.complete b.all ls b.read)))

  -- and they lie on top
  pub never_without : (stack : Stack) → ((behind : Stack) → Plays (making actions) turns ls [] behind → stack ≡ behind) → blocks_on stack ≡ None → ⊥
  never_without stack built none =
      let b : ReadBlocks its ls = found_blocks in
      let whole : stack ≡ blocks b.all ∷ [] =
      built (blocks b.all ∷ []) (played l actions ls turns t (blocks b.all ∷ []) (h.complete b.all ls b.read)) in
      none-some (b.all, []) (sym none ∙ ap (λ (z : Stack). blocks_on z) whole)
