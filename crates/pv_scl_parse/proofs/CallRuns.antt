-- Calls and the right sides of assignments, made of what spells them.
use Rattle.std.proofs.Common.{◌≡◌, inl, inr, Bool, true, false, List, [], ◌∷◌, ◌++◌, All, Option, Some, None, refl, ap, ◌∙◌, sym, arith}
use Rattle.std.proofs.lemmas.List.{append-nil, append_assoc}
use Rattle.std.proofs.lemmas.List.Elements.{All-head, All-tail}
use Rattle.std.proofs.lemmas.Option.{same_Some}
use Rattle.pv_place.specs.declared.place.Place.{Place}
use Rattle.pv_types.specs.declared.name.Name.{Name as NameOf}
use Rattle.pv_ll.specs.declared.table.Symbol.{Symbol}
use Rattle.pv_ll.specs.declared.table.Symbol.TheVariants.{Name}
use Rattle.pv_tree.specs.declared.expr.Root.TheVariants.{Local, Named, Area}
use Rattle.pv_tree.specs.Tree.{PlacedName, ExprTree, read, operand, StepTrees, index, ArgTree, CallPlain}
use Rattle.pv_tree.specs.View.{steps_of, list_of_steps}
use Rattle.pv_tree.specs.Lexemes.{Lexeme, IsSign, ◌⨾◌, sign, sign_at, each_behind}
use Rattle.pv_tree.specs.Words.{SpellsWord, SpellsFirm, SpellsName, IsFree}
use Rattle.pv_tree.specs.Expressions.{SpellsExpr, IsFormedExpr, SpellsSteps, AreFormedSteps, SpellsStep}
use Rattle.pv_tree.specs.Nesting.{first_of}
use Rattle.pv_tree.specs.Calls.{SpellsArg, SpellsArgs, IsAlone, SpellsBase, SpellsCalled, SpellsCall, IsFreeBehind, IsFormedArg, IsFormedCall}
use Rattle.pv_tree.proofs.ForCallers.{first-expr}
use Rattle.pv_parse.specs.KindNumbers as n
use Rattle.pv_parse.specs.FrontBodies as fb
use Rattle.pv_parse.specs.CodeItems.{of_call, arguments, called, value}
use Rattle.pv_parse.specs.Items.{Stack, PathTree, path, token, expr, code}
use Rattle.pv_parse.specs.ExprDeeds.{rooted, stepped}
use Rattle.pv_parse.specs.CallDeeds.{unnamed, call_of}
use Rattle.pv_parse.proofs.ForCallers.{empty, on, to, then, by, pass, Steps, can, can_steps, name_made, firm_made, hash_read_made, firm_read_made, area_made, read_back}
use Rattle.pv_parse_stmt.proofs.ForCallers.{Fronts, a_read, a_firm_one, Split, split, Named as NamedArg, named, first_made, more_made}
use Rattle.pv_scl_parse.specs.OwnNames as o
use Rattle.pv_scl_parse.specs.OwnBodies as b
use Rattle.pv_scl_parse.proofs.Serving as kind
use Rattle.pv_scl_parse.specs.SclGrammar.{statement_productions}
use Rattle.pv_scl_parse.proofs.Got.{own_acts, others, other_acts, Got}
use Rattle.pv_scl_parse.proofs.NameRuns.{Calling, based, called_made, value_hash_word, value_hash_firm, value_after_word_call}

-- ---- steps

-- what steps add, of each well-formed spelling of them
pub steps_made : (l : StepTrees) (ts : List Lexeme) → SpellsSteps l ts → AreFormedSteps l → Steps others other_acts l ts
steps_made l ts d f = can_steps others other_acts l ts d f

pub index_made : (e : ExprTree) (place : Place) (ts : List Lexeme) → SpellsStep (index e place) ts → IsFormedExpr e → (p : PathTree) (s : Stack)
    → Got (Name o.first_index ∷ []) ts (path p ∷ s) (path (stepped p (index e place)) ∷ s)
index_made e place ts d f p s =
    let open_ = d.in_front in
    let close = d.behind.behind in
    to (ap (λ (z : Place). path (stepped p (index e z)) ∷ s) open_.is.at)
    (on (sym (d.parts ∙ ap (λ (z : List Lexeme). z ++ d.back) open_.alone ∙ ap (λ (z : List Lexeme). open_.token ∷ z) (d.behind.parts
    ∙ ap (λ (z : List Lexeme). d.behind.front ++ z) close.alone)))
    (by b.first_index_1 b.first_index_1_body refl (then (pass n.bracket_open open_.token (kind.bracket_open open_.token open_.is.is))
    (then ((can others other_acts e d.behind.front d.behind.in_front f).whole 0 (omega arith) (omega arith) (token open_.token ∷ path p ∷ s))
    (pass n.bracket_close close.token (kind.bracket_close close.token close.is)))) refl))

-- ---- arguments

-- an expression behind its first operand
pub chain_made : (e : ExprTree) (ts : List Lexeme) (x : Split others other_acts e ts) (s : Stack) → Got (Name o.chain ∷ []) x.vs (expr x.first ∷ s) (expr e ∷ s)
chain_made e ts x s = by b.chain_1 b.chain_1_body refl (x.tails.whole 0 (omega arith) (omega arith) s) refl

-- what is read along steps, as the tree has it
word_read_back : {ts : List Lexeme} {symbols : List Symbol} (x : NameOf) (at p : Place) (l : StepTrees) (s : Stack) {before : Stack} → at ≡ p
    → Got symbols ts before (expr (read (operand (Local x false at) (steps_of (list_of_steps l)) at)) ∷ s)
    → Got symbols ts before (expr (read (operand (Local x false at) l p)) ∷ s)
word_read_back x at p l s q g =
    to (read_back (Local x false at) l at s ∙ ap (λ (z : Place). expr (read (operand (Local x false at) l z)) ∷ s) q) g

lone_by : (e first : ExprTree) (us vs ts : List Lexeme) → ts ≡ us ++ vs → Fronts others other_acts first us
    → ((s : Stack) → Got (Name o.chain ∷ []) vs (expr first ∷ s) (expr e ∷ s)) → (s : Stack)
    → Got (Name o.arguments ∷ []) ts s (code (arguments (unnamed e ∷ [])) ∷ s)
lone_by e first us vs ts q (a_firm_one g) chain s =
    on (sym q) (by b.arguments_2 b.arguments_2_body refl (then (by fb.other_factor_2 fb.other_factor_2_body refl (g s) refl) (chain s)) refl)
lone_by e first us vs ts q (a_read (operand (Local x true at) l p) d c) chain s =
    on (sym q) (by b.arguments_2 b.arguments_2_body refl (then (by fb.other_factor_1 fb.other_factor_1_body refl
    (hash_read_made others other_acts x at l p us d (steps_made l d.back d.behind c.1) s) refl) (chain s)) refl)
lone_by e first us vs ts q (a_read (operand (Named x) l p) d c) chain s =
    on (sym q) (by b.arguments_2 b.arguments_2_body refl (then (by fb.other_factor_1 fb.other_factor_1_body refl
    (firm_read_made others other_acts x l p us d (steps_made l d.back d.behind c.1) s) refl) (chain s)) refl)
lone_by e first us vs ts q (a_read (operand (Area its bits byte bit) l p) d c) chain s =
    on (sym q) (by b.arguments_2 b.arguments_2_body refl (then (by fb.other_factor_2 fb.other_factor_2_body refl
    (area_made others other_acts its bits byte bit l p us d (steps_made l d.back d.behind c.1) s) refl) (chain s)) refl)
lone_by e first us vs ts q (a_read (operand (Local x false at) l p) d c) chain s =
    let w = d.in_front in
    let word : SpellsWord x at d.front = record { token = w.token; alone = w.alone; is = w.is.is } in
    let placed : at ≡ p = sym w.is.is.at ∙ w.is.at in
    on (sym (q ∙ ap (λ (z : List Lexeme). z ++ vs) d.parts ∙ append_assoc d.front d.back vs))
    (by b.arguments_1 b.arguments_1_body refl (then (name_made others other_acts x at d.front word c.0 s)
    (by b.after_argument_word_2 b.after_argument_word_2_body refl (then (word_read_back x at p l s placed (by b.second_read_1 b.second_read_1_body refl
    (steps_made l d.back d.behind c.1 (rooted (Local x false at) at) s) refl)) (chain s)) refl)) refl)

lone_made : (e : ExprTree) (ts : List Lexeme) → SpellsExpr e ts → IsFormedExpr e → (s : Stack)
    → Got (Name o.arguments ∷ []) ts s (code (arguments (unnamed e ∷ [])) ∷ s)
lone_made e ts d c s =
    let x : Split others other_acts e ts = split others other_acts e ts d c in
    lone_by e x.first x.us x.vs ts x.parts x.begins (λ z. chain_made e ts x z) s

-- the argument as the tree has it
same_alone : (arg : ArgTree) (ts : List Lexeme) → IsAlone arg ts → unnamed arg.value ≡ arg
same_alone arg ts d =
    let at : first_of arg.value ≡ arg.place = same_Some (first_of arg.value) arg.place (sym (first-expr arg.value ts d.value) ∙ d.at) in
    ap (λ (z : Place). record { name = None; value = arg.value; place = z }) at
    ∙ ap (λ (z : Option PlacedName). record { name = z; value = arg.value; place = arg.place }) (sym d.unnamed)

-- arguments with words
worded_made : (arg : ArgTree) (l : List ArgTree) (us vs ts : List Lexeme) → NamedArg arg us → each_behind SpellsArg l vs → IsFormedArg arg → All IsFormedArg l
    → ts ≡ us ++ vs → (s : Stack) → Got (Name o.arguments ∷ []) ts s (code (arguments (arg ∷ l)) ∷ s)
worded_made arg l us vs ts x d c g q s =
    on (sym (q ∙ ap (λ (z : List Lexeme). z ++ vs) x.parts ∙ append_assoc x.us x.vs vs))
    (by b.arguments_1 b.arguments_1_body refl (then (name_made others other_acts x.word.0 x.word.1 x.us x.spells x.free s)
    (by b.after_argument_word_1 b.after_argument_word_1_body refl (then (first_made statement_productions own_acts arg us x c s)
    (more_made statement_productions own_acts l vs d g (arg ∷ []) s)) refl)) refl)

pub args_made : (l : List ArgTree) (ts : List Lexeme) → SpellsArgs l ts → All IsFormedArg l → (s : Stack)
    → Got (Name o.arguments ∷ []) ts s (code (arguments l) ∷ s)
args_made [] ts d c s = on (sym d) (by b.arguments_3 b.arguments_3_body refl empty refl)
args_made (arg ∷ []) ts (inl d) c s =
    to (ap (λ (z : ArgTree). code (arguments (z ∷ [])) ∷ s) (same_alone arg ts d))
    (lone_made arg.value ts d.value (All-head IsFormedArg arg [] c).value s)
args_made (arg ∷ []) ts (inr d) c s =
    let own : IsFormedArg arg = All-head IsFormedArg arg [] c in
    worded_made arg [] ts [] ts (named arg ts d own.name) refl own (All-tail IsFormedArg arg [] c) (sym (append-nil ts)) s
args_made (arg ∷ other ∷ l) ts d c s =
    let own : IsFormedArg arg = All-head IsFormedArg arg (other ∷ l) c in
    worded_made arg (other ∷ l) d.front d.back ts (named arg d.front d.in_front own.name) d.behind own (All-tail IsFormedArg arg (other ∷ l) c) d.parts s

-- ---- calls

-- the arguments in their parentheses, of what a path leads to
abbrev pub Parenthesised : List ArgTree → List Lexeme → Type 0
Parenthesised l ts = (sign "(" ⨾ SpellsArgs l ⨾ sign ")") ts

paren_made : (p : PathTree) (l : List ArgTree) (ts : List Lexeme) → Parenthesised l ts → All IsFormedArg l → Calling p (call_of p l) ts
paren_made p l ts d c s =
    let begin = d.in_front in
    let end = d.behind.behind in
    on (sym (d.parts ∙ ap (λ (z : List Lexeme). z ++ d.back) begin.alone ∙ ap (λ (z : List Lexeme). begin.token ∷ z) (d.behind.parts
    ∙ ap (λ (z : List Lexeme). d.behind.front ++ z) end.alone)))
    (by b.call_arguments_1 b.call_arguments_1_body refl (then (pass n.paren_open begin.token (kind.paren_open begin.token begin.is))
    (then (args_made l d.behind.front d.behind.in_front c (token begin.token ∷ path p ∷ s)) (pass n.paren_close end.token (kind.paren_close end.token end.is)))) refl)

-- the call of a path with its second name, as the tree has it
call_parts : (c : CallPlain) (base : Option PlacedName) (h : Bool) (at : Place) → base ≡ c.base → h ≡ c.hash → at ≡ c.place
    → ◌≡◌ {A = CallPlain} (record { name = c.name; name_place = c.name_place; hash = h; base = base; args = c.args; place = at }) c
call_parts c base h at e f g =
    ap (λ (z : Option PlacedName). record { name = c.name; name_place = c.name_place; hash = h; base = z; args = c.args; place = at }) e
    ∙ ap (λ (z : Bool). record { name = c.name; name_place = c.name_place; hash = z; base = c.base; args = c.args; place = at }) f
    ∙ ap (λ (z : Place). record { name = c.name; name_place = c.name_place; hash = c.hash; base = c.base; args = c.args; place = z }) g

hashed_call : (c : CallPlain) (at : Place) (base : Option PlacedName) → c.base ≡ base → c.hash ≡ true → at ≡ c.place
    → call_of (based (rooted (Local c.name true c.name_place) at) base) c.args ≡ c
hashed_call c at None e h q = call_parts c None true at (sym e) (sym h) q
hashed_call c at (Some second) e h q = call_parts c (Some second) true at (sym e) (sym h) q

word_call : (c : CallPlain) (base : Option PlacedName) → c.base ≡ base → c.hash ≡ false → c.place ≡ c.name_place
    → call_of (based (rooted (Local c.name false c.name_place) c.name_place) base) c.args ≡ c
word_call c None e h q = call_parts c None false c.name_place (sym e) (sym h) (sym q)
word_call c (Some second) e h q = call_parts c (Some second) false c.name_place (sym e) (sym h) (sym q)

firm_call : (c : CallPlain) (base : Option PlacedName) → c.base ≡ base → c.hash ≡ false → c.place ≡ c.name_place
    → call_of (based (rooted (Named c.name) c.name_place) base) c.args ≡ c
firm_call c None e h q = call_parts c None false c.name_place (sym e) (sym h) (sym q)
firm_call c (Some second) e h q = call_parts c (Some second) false c.name_place (sym e) (sym h) (sym q)

-- the call, of its called name's path
pub calling : (c : CallPlain) (p : PathTree) (ts : List Lexeme) → call_of (based p c.base) c.args ≡ c → Parenthesised c.args ts → All IsFormedArg c.args
    → Calling (based p c.base) c ts
calling c p ts e d g s = to (ap (λ (z : CallPlain). code (called z) ∷ s) e) (paren_made (based p c.base) c.args ts d g s)

-- the call of a name that begins a statement or a right side: which it is
pub data Naming (c : CallPlain) : List Lexeme → Type 0 where
  by_hash_word : {ts : List Lexeme} (h : Lexeme) (us vs : List Lexeme) → IsSign "#" h → SpellsWord c.name c.name_place us
      → call_of (based (rooted (Local c.name true c.name_place) h.place) c.base) c.args ≡ c → ts ≡ h ∷ (us ++ vs)
      → (SpellsBase (sign ".") c.base ⨾ Parenthesised c.args) vs → Naming c ts
  by_hash_firm : {ts : List Lexeme} (h : Lexeme) (us vs : List Lexeme) → IsSign "#" h → SpellsFirm c.name c.name_place us
      → call_of (based (rooted (Local c.name true c.name_place) h.place) c.base) c.args ≡ c → ts ≡ h ∷ (us ++ vs)
      → (SpellsBase (sign ".") c.base ⨾ Parenthesised c.args) vs → Naming c ts
  by_word : {ts : List Lexeme} (us vs : List Lexeme) → SpellsWord c.name c.name_place us → IsFree c.name
      → call_of (based (rooted (Local c.name false c.name_place) c.name_place) c.base) c.args ≡ c → ts ≡ us ++ vs
      → (SpellsBase (sign ".") c.base ⨾ Parenthesised c.args) vs → Naming c ts
  by_firm : {ts : List Lexeme} (us vs : List Lexeme) → SpellsFirm c.name c.name_place us
      → call_of (based (rooted (Named c.name) c.name_place) c.base) c.args ≡ c → ts ≡ us ++ vs
      → (SpellsBase (sign ".") c.base ⨾ Parenthesised c.args) vs → Naming c ts

hash_naming : (c : CallPlain) (front back us vs ts : List Lexeme) → c.hash ≡ true → us ≡ front ++ back → sign_at "#" c.place front
    → SpellsName c.name c.name_place back → ts ≡ us ++ vs → (SpellsBase (sign ".") c.base ⨾ Parenthesised c.args) vs → Naming c ts
hash_naming c front back us vs ts h e d (inl w) q g =
    by_hash_word d.token back vs d.is.is w (hashed_call c d.token.place c.base refl h d.is.at)
    (q ∙ ap (λ (z : List Lexeme). z ++ vs) (e ∙ ap (λ (z : List Lexeme). z ++ back) d.alone)) g
hash_naming c front back us vs ts h e d (inr w) q g =
    by_hash_firm d.token back vs d.is.is w (hashed_call c d.token.place c.base refl h d.is.at)
    (q ∙ ap (λ (z : List Lexeme). z ++ vs) (e ∙ ap (λ (z : List Lexeme). z ++ back) d.alone)) g

naming_by : (c : CallPlain) (hash : Bool) (us vs ts : List Lexeme) → c.hash ≡ hash → SpellsCalled hash c.name c.name_place c.place us
    → IsFreeBehind hash c.name → ts ≡ us ++ vs → (SpellsBase (sign ".") c.base ⨾ Parenthesised c.args) vs → Naming c ts
naming_by c true us vs ts h d k q g = hash_naming c d.front d.back us vs ts h d.parts d.in_front d.behind q g
naming_by c false us vs ts h (e, inl w) k q g = by_word us vs w k (word_call c c.base refl h e) q g
naming_by c false us vs ts h (e, inr w) k q g = by_firm us vs w (firm_call c c.base refl h e) q g

pub naming : (c : CallPlain) (ts : List Lexeme) → SpellsCall c ts → IsFormedCall c → Naming c ts
naming c ts d k = naming_by c c.hash d.front d.back ts refl d.in_front k.name d.parts d.behind

-- ---- right sides of assignments

value_call_by : (c : CallPlain) (ts : List Lexeme) → All IsFormedArg c.args → Naming c ts → (s : Stack)
    → Got (Name o.value ∷ []) ts s (code (value (of_call c)) ∷ s)
value_call_by c ts k (by_hash_word h us vs i w e q d) s =
    on (sym (q ∙ ap (λ (z : List Lexeme). h ∷ (us ++ z)) d.parts)) (by b.value_2 b.value_2_body refl
    (value_hash_word h c.name c.name_place (code (value (of_call c))) us (d.front ++ d.back) i w
    (value_after_word_call (rooted (Local c.name true c.name_place) h.place) c.base c d.front d.back d.in_front
    (calling c (rooted (Local c.name true c.name_place) h.place) d.back e d.behind k)) s) refl)
value_call_by c ts k (by_hash_firm h us vs i w e q d) s =
    on (sym (q ∙ ap (λ (z : List Lexeme). h ∷ (us ++ z)) d.parts)) (by b.value_2 b.value_2_body refl
    (value_hash_firm h c.name c.name_place c us (d.front ++ d.back) i w
    (called_made (rooted (Local c.name true c.name_place) h.place) c.base c d.front d.back d.in_front
    (calling c (rooted (Local c.name true c.name_place) h.place) d.back e d.behind k)) s) refl)
value_call_by c ts k (by_word us vs w free e q d) s =
    on (sym (q ∙ ap (λ (z : List Lexeme). us ++ z) d.parts)) (by b.value_1 b.value_1_body refl
    (then (name_made others other_acts c.name c.name_place us w free s)
    (value_after_word_call (rooted (Local c.name false c.name_place) c.name_place) c.base c d.front d.back d.in_front
    (calling c (rooted (Local c.name false c.name_place) c.name_place) d.back e d.behind k) s)) refl)
value_call_by c ts k (by_firm us vs w e q d) s =
    on (sym (q ∙ ap (λ (z : List Lexeme). us ++ z) d.parts)) (by b.value_3 b.value_3_body refl
    (then (firm_made others other_acts c.name c.name_place us w s)
    (value_after_word_call (rooted (Named c.name) c.name_place) c.base c d.front d.back d.in_front
    (calling c (rooted (Named c.name) c.name_place) d.back e d.behind k) s)) refl)

pub value_call_made : (c : CallPlain) (ts : List Lexeme) → SpellsCall c ts → IsFormedCall c → (s : Stack)
    → Got (Name o.value ∷ []) ts s (code (value (of_call c)) ∷ s)
value_call_made c ts d k s = value_call_by c ts k.args (naming c ts d k) s
