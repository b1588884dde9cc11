-- What spells arguments with their words makes them on the stack, and names behind `#` and `.`.
use Rattle.std.proofs.Common.{◌≡◌, inl, inr, ℕ, Bool, true, false, List, [], ◌∷◌, ◌++◌, All, Option, Some, None, refl, ap, ◌∙◌, sym, subst, arith}
use Rattle.std.proofs.lemmas.List.{append-nil, append_assoc}
use Rattle.std.proofs.lemmas.List.Elements.{All-head, All-tail}
use Rattle.pv_place.specs.declared.place.Place.{Place}
use Rattle.pv_ll.specs.declared.table.Symbol.{Symbol}
use Rattle.pv_ll.specs.declared.table.Symbol.TheVariants.{Token, Name}
use Rattle.pv_ll.specs.Grammar.{Grammar, IsProduction}
use Rattle.pv_ll.specs.Making.{Runs}
use Rattle.pv_ll.specs.Making.Runs.{leaf}
use Rattle.pv_ll.proofs.ForCallers.{alone}
use Rattle.pv_tree.specs.declared.expr.Root.TheVariants.{Local}
use Rattle.pv_tree.specs.Tree.{PlacedName, ExprTree, ArgTree}
use Rattle.pv_tree.specs.Lexemes.{Lexeme, IsSign, ◌⨾◌, each_behind}
use Rattle.pv_tree.specs.Words.{SpellsWord, IsFree}
use Rattle.pv_tree.specs.Expressions.{SpellsExpr, IsFormedExpr}
use Rattle.pv_tree.specs.Calls.{SpellsArrow, SpellsNamed, SpellsArg, IsFreeOption, IsFormedArg}
use Rattle.pv_parse.specs.declared.action.Action.{Action}
use Rattle.pv_parse.specs.KindNumbers as n
use Rattle.pv_parse.specs.Kinds.{kind_of, marks, marked_behind}
use Rattle.pv_parse.specs.FrontNames as name
use Rattle.pv_parse.specs.FrontBodies as b
use Rattle.pv_parse.specs.Front.{expression_productions, declaration_productions}
use Rattle.pv_parse.specs.CodeItems.{arguments}
use Rattle.pv_parse.specs.Items.{Stack, token, path, expr, code}
use Rattle.pv_parse.specs.ExprDeeds.{rooted}
use Rattle.pv_parse.specs.Deeds.{kinded, making, reduce_by, expression_actions, declaration_actions, call_actions}
use Rattle.pv_parse.proofs.ForCallers.{arrow_serves, assign_serves, comma_serves, Marks, Gets, empty, on, to, then, by, pass, name_made, can}
use Rattle.pv_parse_stmt.proofs.ArgLaws.{argument_of}

-- ---- a name that begins behind `#` or `.`

pub behind_mark : {rest : Grammar} {acts : List Action} {s inner behind : Stack} (mark m k next : ℕ) (body : List Symbol) (t w : Lexeme) (us : List Lexeme)
    → Marks mark t → kind_of true w ≡ next → marks w ≡ false → IsProduction (expression_productions ++ rest) k m (Token next ∷ body)
    → Gets rest acts body us (token w ∷ token t ∷ s) inner → reduce_by (expression_actions ++ acts) k inner ≡ Some behind
    → Gets rest acts (Token mark ∷ Name m ∷ []) (t ∷ w ∷ us) s behind
behind_mark {rest} {acts} {s} {inner} {behind} mark m k next body t w us h e f p g r =
    let second : Runs (expression_productions ++ rest) (making (expression_actions ++ acts)) body (kinded (marks w) us) (token w ∷ token t ∷ s) inner =
    subst (λ (z : Bool). Runs (expression_productions ++ rest) (making (expression_actions ++ acts)) body (kinded z us) (token w ∷ token t ∷ s) inner) (sym f) g.runs in
    record {
      runs = leaf h.is (subst (λ (z : Bool). Runs (expression_productions ++ rest) (making (expression_actions ++ acts)) (Name m ∷ []) (kinded z (w ∷ us))
          (token t ∷ s) behind) (sym h.mark) (alone k (Token next ∷ body) p (leaf e second) r));
      plain = ap (λ (z : Bool). marked_behind z us) f ∙ g.plain;
    }

-- ---- arguments

-- in each grammar that begins with the productions of the front
abbrev pub FrontGets : Grammar → List Action → List Symbol → List Lexeme → Stack → Stack → Type 0
FrontGets rest acts = Gets (declaration_productions ++ rest) (declaration_actions ++ (call_actions ++ acts))

-- the sign and the value of an argument
record Given (rest : Grammar) (acts : List Action) (e : ExprTree) (at : Place) (ts : List Lexeme) : Type 0 where
  sign : Lexeme
  placed : sign.place ≡ at
  gets : (s : Stack) → FrontGets rest acts (Name name.argument_value ∷ []) ts s (expr e ∷ token sign ∷ s)

given : (rest : Grammar) (acts : List Action) (e : ExprTree) (at : Place) (us vs ts : List Lexeme) → SpellsArrow at us → SpellsExpr e vs → IsFormedExpr e
    → ts ≡ us ++ vs → Given rest acts e at ts
given rest acts e at us vs ts (inl d) h f q =
    let whole = (can (declaration_productions ++ rest) (declaration_actions ++ (call_actions ++ acts)) e vs h f).whole 0 (omega arith) (omega arith) in
    record {
      sign = d.token;
      placed = d.is.at;
      gets = λ s. on (sym (q ∙ ap (λ (z : List Lexeme). z ++ vs) d.alone)) (by b.argument_value_1 b.argument_value_1_body refl
          (then (pass n.assign d.token (assign_serves d.token d.is.is)) (whole (token d.token ∷ s))) refl);
    }
given rest acts e at us vs ts (inr d) h f q =
    let whole = (can (declaration_productions ++ rest) (declaration_actions ++ (call_actions ++ acts)) e vs h f).whole 0 (omega arith) (omega arith) in
    record {
      sign = d.token;
      placed = d.is.at;
      gets = λ s. on (sym (q ∙ ap (λ (z : List Lexeme). z ++ vs) d.alone)) (by b.argument_value_2 b.argument_value_2_body refl
          (then (pass n.arrow d.token (arrow_serves d.token d.is.is)) (whole (token d.token ∷ s))) refl);
    }

-- the parts of an argument with its word
pub record Named (arg : ArgTree) (ts : List Lexeme) : Type 0 where
  pub word : PlacedName
  pub names : arg.name ≡ Some word
  pub free : IsFree word.0
  pub us : List Lexeme
  pub vs : List Lexeme
  pub parts : ts ≡ us ++ vs
  pub spells : SpellsWord word.0 word.1 us
  pub behind : (SpellsArrow arg.place ⨾ SpellsExpr arg.value) vs

named_by : (arg : ArgTree) (o : Option PlacedName) (ts : List Lexeme) → arg.name ≡ o → SpellsNamed arg o ts → IsFreeOption o → Named arg ts
named_by arg None ts e d f = absurd d
named_by arg (Some word) ts e d f =
    record { word = word; names = e; free = f; us = d.front; vs = d.back; parts = d.parts; spells = d.in_front; behind = d.behind }

pub named : (arg : ArgTree) (ts : List Lexeme) → SpellsArg arg ts → IsFreeOption arg.name → Named arg ts
named arg ts d f = named_by arg arg.name ts refl d f

-- the argument as the tree has it
same_arg : (arg : ArgTree) (word : PlacedName) (at : Place) → arg.name ≡ Some word → at ≡ arg.place
    → argument_of (rooted (Local word.0 false word.1) word.1) arg.value at ≡ arg
same_arg arg word at e q =
    ap (λ (z : Place). argument_of (rooted (Local word.0 false word.1) word.1) arg.value z) q
    ∙ ap (λ (z : Option PlacedName). record { name = z; value = arg.value; place = arg.place }) (sym e)

-- what stands behind the word of the first argument
pub first_made : (rest : Grammar) (acts : List Action) (arg : ArgTree) (ts : List Lexeme) (x : Named arg ts) → IsFormedArg arg → (s : Stack)
    → FrontGets rest acts (Name name.first_argument ∷ []) x.vs (path (rooted (Local x.word.0 false x.word.1) x.word.1) ∷ s) (code (arguments (arg ∷ [])) ∷ s)
first_made rest acts arg ts x f s =
    let g : Given rest acts arg.value arg.place x.vs =
    given rest acts arg.value arg.place x.behind.front x.behind.back x.vs x.behind.in_front x.behind.behind f.value x.behind.parts in
    to (ap (λ (z : ArgTree). code (arguments (z ∷ [])) ∷ s) (same_arg arg x.word g.sign.place x.names g.placed))
    (by b.first_argument_1 b.first_argument_1_body refl (g.gets (path (rooted (Local x.word.0 false x.word.1) x.word.1) ∷ s)) refl)

-- further arguments
abbrev More : Grammar → List Action → List ArgTree → List Lexeme → Type 0
More rest acts l ts =
    (before : List ArgTree) (s : Stack) → FrontGets rest acts (Name name.more_arguments ∷ []) ts (code (arguments before) ∷ s) (code (arguments (before ++ l)) ∷ s)

next_made : (rest : Grammar) (acts : List Action) (arg : ArgTree) (t : Lexeme) (ts : List Lexeme) → IsSign "," t → (x : Named arg ts) → IsFormedArg arg
    → (before : List ArgTree) (s : Stack)
    → FrontGets rest acts (Name name.next_argument ∷ []) (t ∷ ts) (code (arguments before) ∷ s) (code (arguments (before ++ arg ∷ [])) ∷ s)
next_made rest acts arg t ts i x f before s =
    let g : Given rest acts arg.value arg.place x.vs =
    given rest acts arg.value arg.place x.behind.front x.behind.back x.vs x.behind.in_front x.behind.behind f.value x.behind.parts in
    to (ap (λ (z : ArgTree). code (arguments (before ++ z ∷ [])) ∷ s) (same_arg arg x.word g.sign.place x.names g.placed))
    (on (ap (λ (z : List Lexeme). t ∷ z) (sym x.parts)) (by b.next_argument_1 b.next_argument_1_body refl (then (pass n.comma t (comma_serves t i))
    (then (name_made (declaration_productions ++ rest) (declaration_actions ++ (call_actions ++ acts)) x.word.0 x.word.1 x.us x.spells x.free
    (token t ∷ code (arguments before) ∷ s)) (g.gets (path (rooted (Local x.word.0 false x.word.1) x.word.1) ∷ token t ∷ code (arguments before) ∷ s)))) refl))

pub more_made : (rest : Grammar) (acts : List Action) (l : List ArgTree) (ts : List Lexeme) → each_behind SpellsArg l ts → All IsFormedArg l → More rest acts l ts
more_made rest acts [] ts d f before s =
    on (sym d) (to (ap (λ (z : List ArgTree). code (arguments z) ∷ s) (sym (append-nil before))) (by b.more_arguments_2 b.more_arguments_2_body refl empty refl))
more_made rest acts (arg ∷ l) ts d f before s =
    let comma = d.in_front in
    let own : IsFormedArg arg = All-head IsFormedArg arg l f in
    let x : Named arg d.behind.front = named arg d.behind.front d.behind.in_front own.name in
    to (ap (λ (z : List ArgTree). code (arguments z) ∷ s) (append_assoc before (arg ∷ []) l))
    (on (sym (d.parts ∙ ap (λ (z : List Lexeme). z ++ d.back) comma.alone ∙ ap (λ (z : List Lexeme). comma.token ∷ z) d.behind.parts))
    (by b.more_arguments_1 b.more_arguments_1_body refl (then (next_made rest acts arg comma.token d.behind.front comma.is x own before s)
    (more_made rest acts l d.behind.back d.behind.behind (All-tail IsFormedArg arg l f) (before ++ arg ∷ []) s)) refl))
