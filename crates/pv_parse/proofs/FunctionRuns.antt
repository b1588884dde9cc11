-- What spells a function with its arguments makes it on the stack, where its arguments can be made.
use Prim.Native.String.{String}
use Rattle.std.proofs.Common.{◌≡◌, ℕ, true, false, List, [], ◌∷◌, ◌++◌, Option, Some, None, refl, ap, ◌∙◌, sym, subst, arith}
use Rattle.std.proofs.lemmas.List.{append-nil}
use Rattle.pv_place.specs.declared.place.Place.{Place}
use Rattle.pv_ll.specs.declared.table.Symbol.{Symbol}
use Rattle.pv_ll.specs.declared.table.Symbol.TheVariants.{Token, Name}
use Rattle.pv_ll.specs.Grammar.{Grammar, IsProduction}
use Rattle.pv_tree.specs.declared.expr.StdFunction.{StdFunction}
use Rattle.pv_tree.specs.declared.expr.StdFunction.TheVariants as function
use Rattle.pv_tree.specs.Tree.{ExprTree, std, ExprTrees, no_exprs, exprs}
use Rattle.pv_tree.specs.Lexemes.{Lexeme, IsSign, IsWord, IsJoined}
use Rattle.pv_tree.specs.Expressions.{SpellsExpr, SpellsArguments, SpellsParameter, IsFormedExpr, AreFormedExprs}
use Rattle.pv_parse.specs.declared.action.Action.{Action}
use Rattle.pv_parse.specs.KindNumbers as n
use Rattle.pv_parse.specs.FrontNames as name
use Rattle.pv_parse.specs.FrontBodies as b
use Rattle.pv_parse.specs.Front.{expression_productions}
use Rattle.pv_parse.specs.Items.{Stack, token, expr}
use Rattle.pv_parse.specs.ExprDeeds.{function_expr}
use Rattle.pv_parse.specs.Deeds.{expression_actions, reduce_by}
use Rattle.pv_parse.proofs.TokenKinds as kind
use Rattle.pv_parse.proofs.TokenKinds.{Serves}
use Rattle.pv_parse.proofs.KindOf.{kind_of_function}
use Rattle.pv_parse.proofs.FunctionTexts.{function_is}
use Rattle.pv_parse.proofs.Gets.{Gets, on, to, then, by, pass}
use Rattle.pv_parse.proofs.ChainRuns.{Derived}
use Rattle.pv_parse.proofs.ExprRuns.{Firm}

-- an expression can be made of each well-formed spelling of it
abbrev pub Can : Grammar → List Action → ExprTree → Type 0
Can rest acts e = (ts : List Lexeme) → SpellsExpr e ts → IsFormedExpr e → Derived rest acts e ts

abbrev pub AllCan : Grammar → List Action → ExprTrees → Type 0
AllCan rest acts no_exprs = Unit {0}
AllCan rest acts (exprs e es) = Can rest acts e × AllCan rest acts es

-- ---- arguments

-- an argument with its word, before others
record Argument (w : String) (e : ExprTree) (R : List Lexeme → Type 0) (ts : List Lexeme) : Type 0 where
  word : Lexeme
  assign : Lexeme
  us : List Lexeme
  others : List Lexeme
  is_word : IsWord w word
  is_assign : IsSign ":=" assign
  spelled : SpellsExpr e us
  behind : R others
  parts : ts ≡ word ∷ assign ∷ (us ++ others)

argument_of : (w : String) (e : ExprTree) (R : List Lexeme → Type 0) (ts : List Lexeme) → IsJoined (SpellsParameter (Some w)) (IsJoined (SpellsExpr e) R) ts
    → Argument w e R ts
argument_of w e R ts d = record {
  word = d.in_front.in_front.token;
  assign = d.in_front.behind.token;
  us = d.behind.front;
  others = d.behind.back;
  is_word = d.in_front.in_front.is;
  is_assign = d.in_front.behind.is;
  spelled = d.behind.in_front;
  behind = d.behind.behind;
  parts = d.parts ∙ ap (λ (z : List Lexeme). z ++ d.back) (d.in_front.parts ∙ ap (λ (z : List Lexeme). z ++ d.in_front.back) d.in_front.in_front.alone
      ∙ ap (λ (z : List Lexeme). d.in_front.in_front.token ∷ z) d.in_front.behind.alone)
      ∙ ap (λ (z : List Lexeme). d.in_front.in_front.token ∷ d.in_front.behind.token ∷ z) d.behind.parts;
}

first_of : (w : String) (e : ExprTree) (ps : List (Option String)) (es : ExprTrees) (ts : List Lexeme) → SpellsArguments true (Some w ∷ ps) (exprs e es) ts
    → Argument w e (SpellsArguments false ps es) ts
first_of w e ps es ts d =
    subst (λ (z : List Lexeme). Argument w e (SpellsArguments false ps es) z) (sym (d.parts ∙ ap (λ (z : List Lexeme). z ++ d.back) d.in_front))
    (argument_of w e (SpellsArguments false ps es) d.back d.behind)

-- one behind a comma
record Later (w : String) (e : ExprTree) (ps : List (Option String)) (es : ExprTrees) (ts : List Lexeme) : Type 0 where
  comma : Lexeme
  back : List Lexeme
  is_comma : IsSign "," comma
  argument : Argument w e (SpellsArguments false ps es) back
  parts : ts ≡ comma ∷ back

later_of : (w : String) (e : ExprTree) (ps : List (Option String)) (es : ExprTrees) (ts : List Lexeme) → SpellsArguments false (Some w ∷ ps) (exprs e es) ts
    → Later w e ps es ts
later_of w e ps es ts d = record {
  comma = d.in_front.token;
  back = d.back;
  is_comma = d.in_front.is;
  argument = argument_of w e (SpellsArguments false ps es) d.back d.behind;
  parts = d.parts ∙ ap (λ (z : List Lexeme). z ++ d.back) d.in_front.alone;
}

-- the symbols of an argument
abbrev argument_symbols : ℕ → List Symbol
argument_symbols k = Token k ∷ Token n.assign ∷ Name name.expression ∷ []

-- how a word's kind is told
abbrev Telling : String → ℕ → Type 0
Telling w k = (t : Lexeme) → IsWord w t → Serves k t

argument_made : (rest : Grammar) (acts : List Action) (w : String) (k : ℕ) (e : ExprTree) (word assign : Lexeme) (us : List Lexeme) (s : Stack)
    → Telling w k → IsWord w word → IsSign ":=" assign → Derived rest acts e us
    → Gets rest acts (argument_symbols k) (word ∷ assign ∷ us) s (expr e ∷ token assign ∷ token word ∷ s)
argument_made rest acts w k e word assign us s tell h i d =
    then (pass k word (tell word h)) (then (pass n.assign assign (kind.assign assign i)) (d.whole 0 (omega arith) (omega arith) (token assign ∷ token word ∷ s)))

-- ---- functions

-- what is made between the parentheses, and what the function's alternative makes of it
record Inner (rest : Grammar) (acts : List Action) (k : ℕ) (symbols : List Symbol) (args : ExprTrees) (ts : List Lexeme) (t begin c : Lexeme) (s : Stack)
    : Type 0 where
  tops : Stack
  gets : Gets rest acts symbols ts (token begin ∷ token t ∷ s) tops
  reduces : reduce_by (expression_actions ++ acts) k (token c ∷ tops) ≡ Some (expr (function_expr t args) ∷ s)

function_made : (rest : Grammar) (acts : List Action) (f : StdFunction) (place : Place) (args : ExprTrees) (ts : List Lexeme)
    → (d : SpellsExpr (std f place args) ts) → (k : ℕ) (symbols : List Symbol)
    → IsProduction (expression_productions ++ rest) k name.function (Token (kind_of_function f) ∷ Token n.paren_open ∷ (symbols ++ Token n.paren_close ∷ []))
    → ((t begin c : Lexeme) (s : Stack) → Inner rest acts k symbols args d.behind.behind.front t begin c s) → Firm rest acts (std f place args) ts
function_made rest acts f place args ts d k symbols p made = (λ s.
    let t = d.in_front in
    let begin = d.behind.in_front in
    let close = d.behind.behind.behind in
    let x : Inner rest acts k symbols args d.behind.behind.front t.token begin.token close.token s = made t.token begin.token close.token s in
    to (ap (λ (z : StdFunction). expr (std z t.token.place args) ∷ s) (function_is f t.token t.is.is)
    ∙ ap (λ (z : Place). expr (std f z args) ∷ s) t.is.at)
    (on (sym (d.parts ∙ ap (λ (z : List Lexeme). z ++ d.back) t.alone ∙ ap (λ (z : List Lexeme). t.token ∷ z) (d.behind.parts
    ∙ ap (λ (z : List Lexeme). z ++ d.behind.back) begin.alone ∙ ap (λ (z : List Lexeme). begin.token ∷ z) (d.behind.behind.parts
    ∙ ap (λ (z : List Lexeme). d.behind.behind.front ++ z) close.alone))))
    (by b.firm_factor_5 b.firm_factor_5_body refl
    (by k (Token (kind_of_function f) ∷ Token n.paren_open ∷ (symbols ++ Token n.paren_close ∷ [])) p
    (then (pass (kind_of_function f) t.token (kind.of_function f t.token t.is.is)) (then (pass n.paren_open begin.token (kind.paren_open begin.token begin.is))
    (then x.gets (pass n.paren_close close.token (kind.paren_close close.token close.is))))) x.reduces) refl)))

-- one argument without a word
one_inner : (rest : Grammar) (acts : List Action) (e : ExprTree) (ts : List Lexeme) → SpellsArguments true (None ∷ []) (exprs e no_exprs) ts → Can rest acts e
    → IsFormedExpr e → (t begin c : Lexeme) (s : Stack) → Inner rest acts b.function_1 (Name name.expression ∷ []) (exprs e no_exprs) ts t begin c s
one_inner rest acts e ts d can formed t begin c s =
    let own = d.behind.behind in
    let parts : ts ≡ own.front =
    d.parts ∙ ap (λ (z : List Lexeme). z ++ d.back) d.in_front ∙ d.behind.parts ∙ ap (λ (z : List Lexeme). z ++ d.behind.back) d.behind.in_front
    ∙ own.parts ∙ ap (λ (z : List Lexeme). own.front ++ z) own.behind ∙ append-nil own.front in
    record {
      tops = expr e ∷ token begin ∷ token t ∷ s;
      gets = on (sym parts) ((can own.front own.in_front formed).whole 0 (omega arith) (omega arith) (token begin ∷ token t ∷ s));
      reduces = refl;
    }

abbrev two_symbols : ℕ → ℕ → List Symbol
two_symbols j k = argument_symbols j ++ (Token n.comma ∷ argument_symbols k)

abbrev three_symbols : ℕ → ℕ → ℕ → List Symbol
three_symbols i j k = argument_symbols i ++ (Token n.comma ∷ (argument_symbols j ++ (Token n.comma ∷ argument_symbols k)))

-- the last argument, and none behind it
last_made : (rest : Grammar) (acts : List Action) (w : String) (k : ℕ) (e : ExprTree) (ts : List Lexeme) (s : Stack) → Telling w k
    → (l : Later w e [] no_exprs ts) → Can rest acts e → IsFormedExpr e
    → Gets rest acts (Token n.comma ∷ argument_symbols k) ts s (expr e ∷ token l.argument.assign ∷ token l.argument.word ∷ token l.comma ∷ s)
last_made rest acts w k e ts s tell l can formed =
    let a = l.argument in
    on (sym (l.parts ∙ ap (λ (z : List Lexeme). l.comma ∷ z) (a.parts ∙ ap (λ (z : List Lexeme). a.word ∷ a.assign ∷ z)
    (ap (λ (z : List Lexeme). a.us ++ z) a.behind ∙ append-nil a.us))))
    (then (pass n.comma l.comma (kind.comma l.comma l.is_comma))
    (argument_made rest acts w k e a.word a.assign a.us (token l.comma ∷ s) tell a.is_word a.is_assign (can a.us a.spelled formed)))

two_gets : (rest : Grammar) (acts : List Action) (v w : String) (j k : ℕ) (e f : ExprTree) (ts : List Lexeme) (s : Stack) → Telling v j → Telling w k
    → (a : Argument v e (SpellsArguments false (Some w ∷ []) (exprs f no_exprs)) ts) → (l : Later w f [] no_exprs a.others) → Can rest acts e → Can rest acts f
    → IsFormedExpr e → IsFormedExpr f
    → Gets rest acts (two_symbols j k) ts s (expr f ∷ token l.argument.assign ∷ token l.argument.word ∷ token l.comma ∷ expr e ∷ token a.assign
    ∷ token a.word ∷ s)
two_gets rest acts v w j k e f ts s tell tell2 a l can can2 formed formed2 =
    on (sym a.parts) (then (argument_made rest acts v j e a.word a.assign a.us s tell a.is_word a.is_assign (can a.us a.spelled formed))
    (last_made rest acts w k f a.others (expr e ∷ token a.assign ∷ token a.word ∷ s) tell2 l can2 formed2))

three_gets : (rest : Grammar) (acts : List Action) (u v w : String) (i j k : ℕ) (e f g : ExprTree) (ts : List Lexeme) (s : Stack) → Telling u i → Telling v j
    → Telling w k → (a : Argument u e (SpellsArguments false (Some v ∷ Some w ∷ []) (exprs f (exprs g no_exprs))) ts)
    → (l : Later v f (Some w ∷ []) (exprs g no_exprs) a.others) → (m : Later w g [] no_exprs l.argument.others) → Can rest acts e → Can rest acts f
    → Can rest acts g → IsFormedExpr e → IsFormedExpr f → IsFormedExpr g
    → Gets rest acts (three_symbols i j k) ts s (expr g ∷ token m.argument.assign ∷ token m.argument.word ∷ token m.comma ∷ expr f
    ∷ token l.argument.assign ∷ token l.argument.word ∷ token l.comma ∷ expr e ∷ token a.assign ∷ token a.word ∷ s)
three_gets rest acts u v w i j k e f g ts s tell tell2 tell3 a l m can can2 can3 formed formed2 formed3 =
    let c = l.argument in
    let below : Stack = expr e ∷ token a.assign ∷ token a.word ∷ s in
    on (sym a.parts) (then (argument_made rest acts u i e a.word a.assign a.us s tell a.is_word a.is_assign (can a.us a.spelled formed))
    (on (sym (l.parts ∙ ap (λ (z : List Lexeme). l.comma ∷ z) c.parts)) (then (pass n.comma l.comma (kind.comma l.comma l.is_comma))
    (then (argument_made rest acts v j f c.word c.assign c.us (token l.comma ∷ below) tell2 c.is_word c.is_assign (can2 c.us c.spelled formed2))
    (last_made rest acts w k g c.others (expr f ∷ token c.assign ∷ token c.word ∷ token l.comma ∷ below) tell3 m can3 formed3)))))

two_inner : (rest : Grammar) (acts : List Action) (v w : String) (i j k : ℕ) (e f : ExprTree) (ts : List Lexeme) → Telling v i → Telling w j
    → SpellsArguments true (Some v ∷ Some w ∷ []) (exprs e (exprs f no_exprs)) ts → Can rest acts e → Can rest acts f → IsFormedExpr e → IsFormedExpr f
    → ((t begin c a m o p q : Lexeme) (s : Stack) → reduce_by (expression_actions ++ acts) k (token c ∷ expr f ∷ token a ∷ token m ∷ token o ∷ expr e ∷ token p
    ∷ token q ∷ token begin ∷ token t ∷ s) ≡ Some (expr (function_expr t (exprs e (exprs f no_exprs))) ∷ s))
    → (t begin c : Lexeme) (s : Stack) → Inner rest acts k (two_symbols i j) (exprs e (exprs f no_exprs)) ts t begin c s
two_inner rest acts v w i j k e f ts tell tell2 d can can2 formed formed2 r t begin c s =
    let a : Argument v e (SpellsArguments false (Some w ∷ []) (exprs f no_exprs)) ts = first_of v e (Some w ∷ []) (exprs f no_exprs) ts d in
    let l : Later w f [] no_exprs a.others = later_of w f [] no_exprs a.others a.behind in
    record {
      tops = expr f ∷ token l.argument.assign ∷ token l.argument.word ∷ token l.comma ∷ expr e ∷ token a.assign ∷ token a.word ∷ token begin ∷ token t ∷ s;
      gets = two_gets rest acts v w i j e f ts (token begin ∷ token t ∷ s) tell tell2 a l can can2 formed formed2;
      reduces = r t begin c l.argument.assign l.argument.word l.comma a.assign a.word s;
    }

three_inner : (rest : Grammar) (acts : List Action) (u v w : String) (h i j k : ℕ) (e f g : ExprTree) (ts : List Lexeme) → Telling u h → Telling v i
    → Telling w j → SpellsArguments true (Some u ∷ Some v ∷ Some w ∷ []) (exprs e (exprs f (exprs g no_exprs))) ts → Can rest acts e → Can rest acts f
    → Can rest acts g → IsFormedExpr e → IsFormedExpr f → IsFormedExpr g
    → ((t begin c a m o p q x y z : Lexeme) (s : Stack) → reduce_by (expression_actions ++ acts) k (token c ∷ expr g ∷ token a ∷ token m ∷ token o ∷ expr f
    ∷ token p ∷ token q ∷ token x ∷ expr e ∷ token y ∷ token z ∷ token begin ∷ token t ∷ s)
    ≡ Some (expr (function_expr t (exprs e (exprs f (exprs g no_exprs)))) ∷ s))
    → (t begin c : Lexeme) (s : Stack) → Inner rest acts k (three_symbols h i j) (exprs e (exprs f (exprs g no_exprs))) ts t begin c s
three_inner rest acts u v w h i j k e f g ts tell tell2 tell3 d can can2 can3 formed formed2 formed3 r t begin c s =
    let a : Argument u e (SpellsArguments false (Some v ∷ Some w ∷ []) (exprs f (exprs g no_exprs))) ts =
    first_of u e (Some v ∷ Some w ∷ []) (exprs f (exprs g no_exprs)) ts d in
    let l : Later v f (Some w ∷ []) (exprs g no_exprs) a.others = later_of v f (Some w ∷ []) (exprs g no_exprs) a.others a.behind in
    let m : Later w g [] no_exprs l.argument.others = later_of w g [] no_exprs l.argument.others l.argument.behind in
    record {
      tops = expr g ∷ token m.argument.assign ∷ token m.argument.word ∷ token m.comma ∷ expr f ∷ token l.argument.assign ∷ token l.argument.word
          ∷ token l.comma ∷ expr e ∷ token a.assign ∷ token a.word ∷ token begin ∷ token t ∷ s;
      gets = three_gets rest acts u v w h i j e f g ts (token begin ∷ token t ∷ s) tell tell2 tell3 a l m can can2 can3 formed formed2 formed3;
      reduces = r t begin c m.argument.assign m.argument.word m.comma l.argument.assign l.argument.word l.comma a.assign a.word s;
    }

-- a function by its number of arguments, where they are as many as it has
with_one : (rest : Grammar) (acts : List Action) (f : StdFunction) (place : Place) (args : ExprTrees) (ts : List Lexeme) → (d : SpellsExpr (std f place args) ts)
    → SpellsArguments true (None ∷ []) args d.behind.behind.front → AllCan rest acts args → AreFormedExprs args → kind_of_function f ≡ n.one_function
    → Firm rest acts (std f place args) ts
with_one rest acts f place no_exprs ts d e all formed k = absurd e
with_one rest acts f place (exprs x (exprs y zs)) ts d e all formed k = absurd e.behind.behind.behind
with_one rest acts f place (exprs x no_exprs) ts d e all formed k =
    function_made rest acts f place (exprs x no_exprs) ts d b.function_1 (Name name.expression ∷ [])
    (subst (λ (z : ℕ). IsProduction (expression_productions ++ rest) b.function_1 name.function (Token z ∷ Token n.paren_open ∷ Name name.expression
    ∷ Token n.paren_close ∷ [])) (sym k) refl) (one_inner rest acts x d.behind.behind.front e all.0 formed.0)

with_two : (rest : Grammar) (acts : List Action) (f : StdFunction) (v w : String) (i j k : ℕ) (place : Place) (args : ExprTrees) (ts : List Lexeme)
    → (d : SpellsExpr (std f place args) ts) → SpellsArguments true (Some v ∷ Some w ∷ []) args d.behind.behind.front → AllCan rest acts args
    → AreFormedExprs args → Telling v i → Telling w j
    → IsProduction (expression_productions ++ rest) k name.function (Token (kind_of_function f) ∷ Token n.paren_open ∷ (two_symbols i j ++ Token n.paren_close ∷ []))
    → ((e g : ExprTree) (t begin c a m o p q : Lexeme) (s : Stack) → reduce_by (expression_actions ++ acts) k (token c ∷ expr g ∷ token a ∷ token m ∷ token o
    ∷ expr e ∷ token p ∷ token q ∷ token begin ∷ token t ∷ s) ≡ Some (expr (function_expr t (exprs e (exprs g no_exprs))) ∷ s))
    → Firm rest acts (std f place args) ts
with_two rest acts f v w i j k place no_exprs ts d e all formed tell tell2 p r = absurd e
with_two rest acts f v w i j k place (exprs x no_exprs) ts d e all formed tell tell2 p r = absurd e.behind.behind.behind
with_two rest acts f v w i j k place (exprs x (exprs y (exprs z zs))) ts d e all formed tell tell2 p r =
    absurd e.behind.behind.behind.behind.behind.behind
with_two rest acts f v w i j k place (exprs x (exprs y no_exprs)) ts d e all formed tell tell2 p r =
    function_made rest acts f place (exprs x (exprs y no_exprs)) ts d k (two_symbols i j) p
    (two_inner rest acts v w i j k x y d.behind.behind.front tell tell2 e all.0 all.1.0 formed.0 formed.1.0 (r x y))

with_three : (rest : Grammar) (acts : List Action) (f : StdFunction) (u v w : String) (h i j k : ℕ) (place : Place) (args : ExprTrees) (ts : List Lexeme)
    → (d : SpellsExpr (std f place args) ts) → SpellsArguments true (Some u ∷ Some v ∷ Some w ∷ []) args d.behind.behind.front → AllCan rest acts args
    → AreFormedExprs args → Telling u h → Telling v i → Telling w j
    → IsProduction (expression_productions ++ rest) k name.function (Token (kind_of_function f) ∷ Token n.paren_open ∷ (three_symbols h i j
    ++ Token n.paren_close ∷ []))
    → ((e f g : ExprTree) (t begin c a m o p q x y z : Lexeme) (s : Stack) → reduce_by (expression_actions ++ acts) k (token c ∷ expr g ∷ token a ∷ token m
    ∷ token o ∷ expr f ∷ token p ∷ token q ∷ token x ∷ expr e ∷ token y ∷ token z ∷ token begin ∷ token t ∷ s)
    ≡ Some (expr (function_expr t (exprs e (exprs f (exprs g no_exprs)))) ∷ s))
    → Firm rest acts (std f place args) ts
with_three rest acts f u v w h i j k place no_exprs ts d e all formed tell tell2 tell3 p r = absurd e
with_three rest acts f u v w h i j k place (exprs x no_exprs) ts d e all formed tell tell2 tell3 p r = absurd e.behind.behind.behind
with_three rest acts f u v w h i j k place (exprs x (exprs y no_exprs)) ts d e all formed tell tell2 tell3 p r =
    absurd e.behind.behind.behind.behind.behind.behind
with_three rest acts f u v w h i j k place (exprs x (exprs y (exprs z (exprs q qs)))) ts d e all formed tell tell2 tell3 p r =
    absurd e.behind.behind.behind.behind.behind.behind.behind.behind.behind
with_three rest acts f u v w h i j k place (exprs x (exprs y (exprs z no_exprs))) ts d e all formed tell tell2 tell3 p r =
    function_made rest acts f place (exprs x (exprs y (exprs z no_exprs))) ts d k (three_symbols h i j) p
    (three_inner rest acts u v w h i j k x y z d.behind.behind.front tell tell2 tell3 e all.0 all.1.0 all.1.1.0 formed.0 formed.1.0 formed.1.1.0 (r x y z))

pub std_made : (rest : Grammar) (acts : List Action) (f : StdFunction) (place : Place) (args : ExprTrees) (ts : List Lexeme)
    → SpellsExpr (std f place args) ts → AllCan rest acts args → AreFormedExprs args → Firm rest acts (std f place args) ts
std_made rest acts (function.Convert from into) place args ts d all formed =
    with_one rest acts (function.Convert from into) place args ts d d.behind.behind.in_front all formed refl
std_made rest acts function.Abs place args ts d all formed = with_one rest acts function.Abs place args ts d d.behind.behind.in_front all formed refl
std_made rest acts function.Min place args ts d all formed =
    with_two rest acts function.Min "IN1" "IN2" n.in1_word n.in2_word b.function_2 place args ts d d.behind.behind.in_front all formed kind.in1_word kind.in2_word refl
    (λ e g t begin c a m o p q s. refl)
std_made rest acts function.Max place args ts d all formed =
    with_two rest acts function.Max "IN1" "IN2" n.in1_word n.in2_word b.function_2 place args ts d d.behind.behind.in_front all formed kind.in1_word kind.in2_word refl
    (λ e g t begin c a m o p q s. refl)
std_made rest acts function.Shl place args ts d all formed =
    with_two rest acts function.Shl "IN" "N" n.in_word n.n_word b.function_5 place args ts d d.behind.behind.in_front all formed kind.in_word kind.n_word refl
    (λ e g t begin c a m o p q s. refl)
std_made rest acts function.Shr place args ts d all formed =
    with_two rest acts function.Shr "IN" "N" n.in_word n.n_word b.function_5 place args ts d d.behind.behind.in_front all formed kind.in_word kind.n_word refl
    (λ e g t begin c a m o p q s. refl)
std_made rest acts function.Limit place args ts d all formed =
    with_three rest acts function.Limit "MN" "IN" "MX" n.mn_word n.in_word n.mx_word b.function_3 place args ts d d.behind.behind.in_front all formed
    kind.mn_word kind.in_word kind.mx_word refl (λ e f g t begin c a m o p q x y z s. refl)
std_made rest acts function.Sel place args ts d all formed =
    with_three rest acts function.Sel "G" "IN0" "IN1" n.g_word n.in0_word n.in1_word b.function_4 place args ts d d.behind.behind.in_front all formed
    kind.g_word kind.in0_word kind.in1_word refl (λ e f g t begin c a m o p q x y z s. refl)
