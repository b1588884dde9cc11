-- What spells names, literals and declarations makes them on the stack.
use Rattle.std.proofs.Common.{◌≡◌, inl, inr, zero, suc, false, List, [], ◌∷◌, ◌++◌, Option, Some, None, refl, ap, ◌∙◌, sym}
use Rattle.std.specs.Prelude.{ℤ, pos, negsuc, neg_ℤ}
use Rattle.std.proofs.lemmas.List.{append-nil, append_assoc, map-append}
use Rattle.pv_word.specs.declared.types.Ty.{Ty}
use Rattle.pv_place.specs.declared.place.Place.{Place}
use Rattle.pv_types.specs.declared.name.Name.{Name as NameOf}
use Rattle.pv_types.specs.declared.declaration.Literal.{Literal}
use Rattle.pv_types.specs.declared.declaration.Section.{Section}
use Rattle.pv_types.specs.Tree.{TypeTree, plain, array, structure, named, unread, VarTree, var, VarTrees, no_vars, _then_}
use Rattle.pv_types.specs.View.{fields_of}
use Rattle.pv_types.proofs.ForCallers.{listed-fields}
use Rattle.pv_ll.specs.declared.table.Symbol.{Symbol}
use Rattle.pv_ll.specs.declared.table.Symbol.TheVariants.{Name}
use Rattle.pv_ll.specs.Grammar.{Grammar}
use Rattle.pv_tree.specs.declared.expr.Root.TheVariants.{Local}
use Rattle.pv_tree.specs.Tree.{PlacedName}
use Rattle.pv_tree.specs.Lexemes.{Lexeme, ◌⨾◌, sign}
use Rattle.pv_tree.specs.Words.{IsFree, SpellsWord, SpellsName}
use Rattle.pv_tree.specs.Literals.{number_type, SpellsNumber, SpellsLiteral, SpellsInteger}
use Rattle.pv_tree.specs.Declarations.{SpellsType, IsFormedType, SpellsVars, AreFormedVars, SpellsStart, Shares}
use Rattle.pv_parse.specs.declared.action.Action.{Action}
use Rattle.pv_parse.specs.KindNumbers as n
use Rattle.pv_parse.specs.FrontNames as name
use Rattle.pv_parse.specs.FrontBodies as b
use Rattle.pv_parse.specs.Front.{declaration_productions}
use Rattle.pv_parse.specs.Items as i
use Rattle.pv_parse.specs.Items.{Stack}
use Rattle.pv_parse.specs.ExprDeeds.{rooted}
use Rattle.pv_parse.specs.DeclDeeds.{declared, number_literal, negative_literal, truth_literal}
use Rattle.pv_parse.specs.Deeds.{declaration_actions}
use Rattle.pv_parse.proofs.ForCallers.{kind-word, truth_is, assign_serves, bracket_close_serves, bracket_open_serves, comma_serves, minus_serves, number_serves, truth_serves, Behind, Gets, empty, on, to, then, by, pass, word_made, firm_made}
use Rattle.pv_parse_source.proofs.DeclKinds as decl
use Rattle.pv_parse_source.proofs.DeclFacts.{type_is}

-- in each grammar that begins with the productions of expressions and of declarations
abbrev pub Makes : Grammar → List Action → List Symbol → List Lexeme → Stack → Stack → Type 0
Makes rest acts ss ts s behind = Gets (declaration_productions ++ rest) (declaration_actions ++ acts) ss ts s behind

-- ---- names

pub word_runs : (rest : Grammar) (acts : List Action) (x : NameOf) (p : Place) (ts : List Lexeme) (s : Stack) → SpellsWord x p ts → IsFree x
    → Makes rest acts (Name name.word ∷ []) ts s (i.path (rooted (Local x false p) p) ∷ s)
word_runs rest acts x p ts s w f =
    to (ap (λ (z : NameOf). i.path (rooted (Local z false w.token.place) w.token.place) ∷ s) (sym w.is.is.names)
    ∙ ap (λ (z : Place). i.path (rooted (Local x false z) z) ∷ s) w.is.at)
    (on (sym w.alone) (word_made (declaration_productions ++ rest) (declaration_actions ++ acts) w.token s w.is.is.kind (kind-word w.token x w.is.is f)))

pub name_runs : (rest : Grammar) (acts : List Action) (x : NameOf) (p : Place) (ts : List Lexeme) (s : Stack) → SpellsName x p ts → IsFree x
    → Makes rest acts (Name name.name ∷ []) ts s (i.name (x, p) ∷ s)
name_runs rest acts x p ts s (inl d) f = by b.name_1 b.name_1_body refl (word_runs rest acts x p ts s d f) refl
name_runs rest acts x p ts s (inr d) f =
    by b.name_2 b.name_2_body refl (firm_made (declaration_productions ++ rest) (declaration_actions ++ acts) x p ts d s) refl

-- ---- literals

neg_back : (k m : ℤ) → k ≡ neg_ℤ m → neg_ℤ k ≡ m
neg_back k (pos zero) e = ap neg_ℤ e
neg_back k (pos (suc n)) e = ap neg_ℤ e
neg_back k (negsuc n) e = ap neg_ℤ e

-- a literal by its parts
by_parts : (s : Stack) (x y : Literal) → x.ty ≡ y.ty → x.value ≡ y.value → x.place ≡ y.place → ◌≡◌ {A = Stack} (i.literal x ∷ s) (i.literal y ∷ s)
by_parts s x y e f g =
    ap (λ (z : Option Ty). i.literal (record { ty = z; value = x.value; place = x.place }) ∷ s) e
    ∙ ap (λ (z : ℤ). i.literal (record { ty = y.ty; value = z; place = x.place }) ∷ s) f
    ∙ ap (λ (z : Place). i.literal (record { ty = y.ty; value = y.value; place = z }) ∷ s) g

pub numeral_runs : (rest : Grammar) (acts : List Action) (x : Literal) (ts : List Lexeme) (s : Stack) → SpellsNumber number_type x ts
    → Makes rest acts (Name name.integer ∷ []) ts s (i.literal x ∷ s)
numeral_runs rest acts x ts s (inl d) =
    to (by_parts s (number_literal d.token) x (sym d.is.is.typed) d.is.is.valued d.is.at)
    (on (sym d.alone) (by b.integer_2 b.integer_2_body refl (pass n.number d.token (number_serves d.token d.is.is.kind)) refl))
numeral_runs rest acts x ts s (inr d) =
    let m = d.in_front in
    let t = d.behind in
    to (by_parts s (negative_literal t.token m.token.place) x (sym t.is.typed) (neg_back t.token.value x.value t.is.valued) m.is.at)
    (on (sym (d.parts ∙ ap (λ (z : List Lexeme). z ++ d.back) m.alone ∙ ap (λ (z : List Lexeme). m.token ∷ z) t.alone))
    (by b.integer_1 b.integer_1_body refl (then (pass n.minus m.token (minus_serves m.token m.is.is)) (pass n.number t.token (number_serves t.token t.is.kind))) refl))

pub literal_runs : (rest : Grammar) (acts : List Action) (x : Literal) (ts : List Lexeme) (s : Stack) → SpellsLiteral x ts
    → Makes rest acts (Name name.literal ∷ []) ts s (i.literal x ∷ s)
literal_runs rest acts x ts s (inl d) = by b.literal_1 b.literal_1_body refl (numeral_runs rest acts x ts s d) refl
literal_runs rest acts x ts s (inr d) =
    to (by_parts s (truth_literal d.token) x (sym d.is.is.typed) (truth_is x.ty x.value d.token d.is.is) d.is.at)
    (on (sym d.alone) (by b.literal_2 b.literal_2_body refl (pass n.truth d.token (truth_serves x.ty x.value d.token d.is.is)) refl))

-- a number whose value alone matters
record Counts (rest : Grammar) (acts : List Action) (v : ℤ) (ts : List Lexeme) : Type 0 where
  literal : Literal
  valued : literal.value ≡ v
  runs : (s : Stack) → Makes rest acts (Name name.integer ∷ []) ts s (i.literal literal ∷ s)

counts : (rest : Grammar) (acts : List Action) (v : ℤ) (ts : List Lexeme) → SpellsInteger v ts → Counts rest acts v ts
counts rest acts v ts (inl d) = record {
  literal = number_literal d.token;
  valued = d.is.valued;
  runs = λ s. on (sym d.alone) (by b.integer_2 b.integer_2_body refl (pass n.number d.token (number_serves d.token d.is.kind)) refl);
}
counts rest acts v ts (inr d) = record {
  literal = negative_literal d.behind.token d.in_front.token.place;
  valued = neg_back d.behind.token.value v d.behind.is.valued;
  runs = λ s. on (sym (d.parts ∙ ap (λ (z : List Lexeme). z ++ d.back) d.in_front.alone ∙ ap (λ (z : List Lexeme). d.in_front.token ∷ z) d.behind.alone))
      (by b.integer_1 b.integer_1_body refl (then (pass n.minus d.in_front.token (minus_serves d.in_front.token d.in_front.is))
      (pass n.number d.behind.token (number_serves d.behind.token d.behind.is.kind))) refl);
}

-- ---- types

abbrev pub TypeRuns : Grammar → List Action → Section → TypeTree → List Lexeme → Type 0
TypeRuns rest acts a t ts = (s : Stack) → Makes rest acts (Name name.declared_type ∷ []) ts (i.around a ∷ s) (i.typed t ∷ s)

pub simple_runs : (rest : Grammar) (acts : List Action) (a : Section) (simple : Ty) (ts : List Lexeme) → SpellsType a (plain simple) ts
    → TypeRuns rest acts a (plain simple) ts
simple_runs rest acts a simple ts d s =
    to (ap (λ (z : Ty). i.typed (plain z) ∷ s) (type_is simple d.token d.is))
    (on (sym d.alone) (by b.declared_type_1 b.declared_type_1_body refl (pass n.simple_type d.token (decl.simple_type simple d.token d.is)) refl))

pub unread_runs : (rest : Grammar) (acts : List Action) (a : Section) (ts : List Lexeme) → SpellsType a unread ts → TypeRuns rest acts a unread ts
unread_runs rest acts a ts d s =
    on (sym d.alone) (by b.declared_type_2 b.declared_type_2_body refl (pass n.date_and_time d.token (decl.date_and_time d.token d.is)) refl)

pub named_runs : (rest : Grammar) (acts : List Action) (a : Section) (x : NameOf) (p : Place) (ts : List Lexeme) → SpellsName x p ts → IsFree x
    → TypeRuns rest acts a (named x p) ts
named_runs rest acts a x p ts d f s = by b.declared_type_3 b.declared_type_3_body refl (name_runs rest acts x p ts (i.around a ∷ s) d f) refl

pub array_runs : (rest : Grammar) (acts : List Action) (a : Section) (low high : ℤ) (t : TypeTree) (p : Place) (ts : List Lexeme)
    → (d : SpellsType a (array low high t p) ts) → TypeRuns rest acts a t d.behind.behind.behind.behind.behind.behind.back
    → TypeRuns rest acts a (array low high t p) ts
array_runs rest acts a low high t p ts d g s =
    let w = d.in_front in
    let open_ = d.behind.in_front in
    let lows = d.behind.behind in
    let dot = lows.behind.in_front in
    let highs = lows.behind.behind in
    let close = highs.behind.in_front in
    let of = highs.behind.behind.in_front in
    let last = highs.behind.behind.back in
    let x : Counts rest acts low lows.front = counts rest acts low lows.front lows.in_front in
    let y : Counts rest acts high highs.front = counts rest acts high highs.front highs.in_front in
    let head : Makes rest acts (Name name.array_head ∷ []) (w.token ∷ open_.token ∷ (lows.front ++ (dot.token ∷ (highs.front ++ (close.token ∷ of.token ∷ [])))))
    (i.around a ∷ s) (i.around a ∷ i.bounds (record { low = x.literal.value; high = y.literal.value; place = w.token.place }) ∷ s) =
    by b.array_head_1 b.array_head_1_body refl (then (pass n.array_word w.token (decl.array_word w.token w.is.is))
    (then (pass n.bracket_open open_.token (bracket_open_serves open_.token open_.is)) (then (x.runs (i.token open_.token ∷ i.token w.token ∷ i.around a ∷ s))
    (then (pass n.dots dot.token (decl.dots dot.token dot.is))
    (then (y.runs (i.token dot.token ∷ i.literal x.literal ∷ i.token open_.token ∷ i.token w.token ∷ i.around a ∷ s))
    (then (pass n.bracket_close close.token (bracket_close_serves close.token close.is)) (pass n.of_word of.token (decl.of_word of.token of.is)))))))) refl in
    let parts : ts ≡ (w.token ∷ open_.token ∷ (lows.front ++ (dot.token ∷ (highs.front ++ (close.token ∷ of.token ∷ []))))) ++ last =
    array_parts ts w.token open_.token dot.token close.token of.token lows.front highs.front last d.front d.back d.behind.front d.behind.back lows.back
    lows.behind.front lows.behind.back highs.back highs.behind.front highs.behind.back highs.behind.behind.front d.parts w.alone d.behind.parts open_.alone
    lows.parts lows.behind.parts dot.alone highs.parts highs.behind.parts close.alone highs.behind.behind.parts of.alone in
    to (ap (λ (z : ℤ). i.typed (array z y.literal.value t w.token.place) ∷ s) x.valued ∙ ap (λ (z : ℤ). i.typed (array low z t w.token.place) ∷ s) y.valued
    ∙ ap (λ (z : Place). i.typed (array low high t z) ∷ s) w.is.at)
    (on (sym parts) (by b.declared_type_5 b.declared_type_5_body refl (then head
    (g (i.bounds (record { low = x.literal.value; high = y.literal.value; place = w.token.place }) ∷ s))) refl))
  where
    array_parts : (ts : List Lexeme) (w o d c f : Lexeme) (lows highs last : List Lexeme) (t1 t2 t3 t4 t5 t6 t7 t8 t9 t10 t11 : List Lexeme)
        → ts ≡ t1 ++ t2 → t1 ≡ w ∷ [] → t2 ≡ t3 ++ t4 → t3 ≡ o ∷ [] → t4 ≡ lows ++ t5 → t5 ≡ t6 ++ t7 → t6 ≡ d ∷ [] → t7 ≡ highs ++ t8 → t8 ≡ t9 ++ t10
        → t9 ≡ c ∷ [] → t10 ≡ t11 ++ last → t11 ≡ f ∷ [] → ts ≡ (w ∷ o ∷ (lows ++ (d ∷ (highs ++ (c ∷ f ∷ []))))) ++ last
    array_parts ts w o d c f lows highs last t1 t2 t3 t4 t5 t6 t7 t8 t9 t10 t11 e1 e2 e3 e4 e5 e6 e7 e8 e9 e10 e11 e12 =
        e1 ∙ ap (λ (z : List Lexeme). z ++ t2) e2 ∙ ap (λ (z : List Lexeme). w ∷ z) (e3 ∙ ap (λ (z : List Lexeme). z ++ t4) e4
        ∙ ap (λ (z : List Lexeme). o ∷ z) (e5 ∙ ap (λ (z : List Lexeme). lows ++ z) (e6 ∙ ap (λ (z : List Lexeme). z ++ t7) e7
        ∙ ap (λ (z : List Lexeme). d ∷ z) (e8 ∙ ap (λ (z : List Lexeme). highs ++ z) (e9 ∙ ap (λ (z : List Lexeme). z ++ t10) e10
        ∙ ap (λ (z : List Lexeme). c ∷ z) (e11 ∙ ap (λ (z : List Lexeme). z ++ last) e12)) ∙ sym (append_assoc highs (c ∷ f ∷ []) last)))
        ∙ sym (append_assoc lows (d ∷ (highs ++ (c ∷ f ∷ []))) last)))

-- ---- variables

abbrev pub VarsRun : Grammar → List Action → Section → VarTrees → List Lexeme → Type 0
VarsRun rest acts a vs ts = (before : List VarTree) (s : Stack)
    → Makes rest acts (Name name.declarations ∷ []) ts (i.fields (record { section = a; vars = before }) ∷ s)
    (i.fields (record { section = a; vars = before ++ fields_of vs }) ∷ s)

pub structure_runs : (rest : Grammar) (acts : List Action) (a : Section) (vs : VarTrees) (ts : List Lexeme) → (d : SpellsType a (structure vs) ts)
    → VarsRun rest acts a vs d.behind.front → TypeRuns rest acts a (structure vs) ts
structure_runs rest acts a vs ts d g s =
    let w = d.in_front in
    let end = d.behind.behind in
    to (ap (λ (z : VarTrees). i.typed (structure z) ∷ s) (listed-fields vs))
    (on (sym (d.parts ∙ ap (λ (z : List Lexeme). z ++ d.back) w.alone ∙ ap (λ (z : List Lexeme). w.token ∷ z) (d.behind.parts
    ∙ ap (λ (z : List Lexeme). d.behind.front ++ z) end.alone)))
    (by b.declared_type_4 b.declared_type_4_body refl (by b.struct_1 b.struct_1_body refl
    (then (by b.struct_head_1 b.struct_head_1_body refl (pass n.struct_word w.token (decl.struct_word w.token w.is)) refl)
    (then (g [] s) (pass n.end_struct end.token (decl.end_struct end.token end.is)))) refl) refl))

pub no_vars_run : (rest : Grammar) (acts : List Action) (a : Section) (ts : List Lexeme) → ts ≡ [] → VarsRun rest acts a no_vars ts
no_vars_run rest acts a ts e before s =
    to (ap (λ (z : List VarTree). i.fields (record { section = a; vars = z }) ∷ s) (sym (append-nil before)))
    (on (sym e) (by b.declarations_2 b.declarations_2_body refl empty refl))

-- what stands behind the last of these words of a declaration, with what is declared behind it
abbrev pub RestRuns : Grammar → List Action → Section → TypeTree → Option Literal → VarTrees → List Lexeme → Type 0
RestRuns rest acts a t o others ts = (l : List PlacedName) (before : List VarTree) (s : Stack)
    → Makes rest acts (Name name.declared_words ∷ []) ts (i.words l ∷ i.fields (record { section = a; vars = before }) ∷ s)
    (i.fields (record { section = a; vars = before ++ (declared a t o l ++ fields_of others) }) ∷ s)

pub first_run : (rest : Grammar) (acts : List Action) (a its : Section) (x : NameOf) (t : TypeTree) (o : Option Literal) (p : Place) (others : VarTrees)
    (us vs ts : List Lexeme) → ts ≡ us ++ vs → its ≡ a → SpellsWord x p us → IsFree x → RestRuns rest acts a t o others vs
    → VarsRun rest acts a (_then_ (var x its t o p) others) ts
first_run rest acts a its x t o p others us vs ts e same d f g before s =
    to (ap (λ (z : Section). i.fields (record { section = a; vars = before ++ (var x z t o p ∷ fields_of others) }) ∷ s) (sym same))
    (on (sym e) (by b.declarations_1 b.declarations_1_body refl
    (then (by b.first_word_1 b.first_word_1_body refl (word_runs rest acts x p us (i.fields (record { section = a; vars = before }) ∷ s) d f) refl)
    (g ((x, p) ∷ []) before s)) refl))

pub start_runs : (rest : Grammar) (acts : List Action) (o : Option Literal) (ts : List Lexeme) (s : Stack) → SpellsStart o ts
    → Makes rest acts (Name name.start_value ∷ []) ts s (i.start o ∷ s)
start_runs rest acts None ts s d = on (sym d) (by b.start_value_2 b.start_value_2_body refl empty refl)
start_runs rest acts (Some x) ts s d =
    let m = d.in_front in
    on (sym (d.parts ∙ ap (λ (z : List Lexeme). z ++ d.back) m.alone))
    (by b.start_value_1 b.start_value_1_body refl (then (pass n.assign m.token (assign_serves m.token m.is))
    (literal_runs rest acts x d.back (i.token m.token ∷ s) d.behind)) refl)

-- the type, the start value and further declarations
pub declared_run : (rest : Grammar) (acts : List Action) (a : Section) (t : TypeTree) (o : Option Literal) (others : VarTrees) (ts : List Lexeme)
    → (d : (sign ":" ⨾ SpellsType a t ⨾ SpellsStart o ⨾ sign ";" ⨾ SpellsVars a others) ts) → TypeRuns rest acts a t d.behind.front
    → VarsRun rest acts a others d.behind.behind.behind.back → RestRuns rest acts a t o others ts
declared_run rest acts a t o others ts d g h l before s =
    let c = d.in_front in
    let ty = d.behind in
    let st = ty.behind in
    let end = st.behind.in_front in
    let below : Stack = i.fields (record { section = a; vars = before }) ∷ s in
    to (ap (λ (z : List VarTree). i.fields (record { section = a; vars = z }) ∷ s) (append_assoc before (declared a t o l) (fields_of others)))
    (on (sym (parts ts c.token end.token ty.front st.front st.behind.back d.front d.back ty.back st.back st.behind.front d.parts c.alone ty.parts st.parts
    st.behind.parts end.alone))
    (by b.declared_words_2 b.declared_words_2_body refl
    (then (by b.declared_1 b.declared_1_body refl
    (then (by b.type_head_1 b.type_head_1_body refl (pass n.colon c.token (decl.colon c.token c.is)) refl)
    (then (g (i.words l ∷ below)) (then (start_runs rest acts o st.front (i.typed t ∷ i.words l ∷ below) st.in_front)
    (pass n.semicolon end.token (decl.semicolon end.token end.is))))) refl)
    (h (before ++ declared a t o l) s)) refl))
  where
    parts : (ts : List Lexeme) (c e : Lexeme) (ty st last : List Lexeme) (t1 t2 t3 t4 t5 : List Lexeme) → ts ≡ t1 ++ t2 → t1 ≡ c ∷ [] → t2 ≡ ty ++ t3
        → t3 ≡ st ++ t4 → t4 ≡ t5 ++ last → t5 ≡ e ∷ [] → ts ≡ (c ∷ (ty ++ (st ++ e ∷ []))) ++ last
    parts ts c e ty st last t1 t2 t3 t4 t5 e1 e2 e3 e4 e5 e6 =
        e1 ∙ ap (λ (z : List Lexeme). z ++ t2) e2 ∙ ap (λ (z : List Lexeme). c ∷ z) (e3 ∙ ap (λ (z : List Lexeme). ty ++ z) (e4
        ∙ ap (λ (z : List Lexeme). st ++ z) (e5 ∙ ap (λ (z : List Lexeme). z ++ last) e6) ∙ sym (append_assoc st (e ∷ []) last))
        ∙ sym (append_assoc ty (st ++ e ∷ []) last))

-- one word more, which shares type and start value
shared : (a its : Section) (t u : TypeTree) (o q : Option Literal) (l : List PlacedName) (y : PlacedName) (before more : List VarTree) → u ≡ t → q ≡ o
    → its ≡ a → before ++ (declared a u q (l ++ y ∷ []) ++ more) ≡ before ++ (declared a t o l ++ (var y.0 its u q y.1 ∷ more))
shared a its t u o q l y before more e f g =
    ap (λ (z : List VarTree). before ++ (z ++ more)) (map-append (λ (w : PlacedName). var w.0 a u q w.1) l (y ∷ []))
    ∙ ap (λ (z : List VarTree). before ++ z) (append_assoc (declared a u q l) (declared a u q (y ∷ [])) more)
    ∙ ap (λ (z : TypeTree). before ++ (declared a z q l ++ (var y.0 a u q y.1 ∷ more))) e
    ∙ ap (λ (z : Option Literal). before ++ (declared a t z l ++ (var y.0 a u q y.1 ∷ more))) f
    ∙ ap (λ (z : Section). before ++ (declared a t o l ++ (var y.0 z u q y.1 ∷ more))) (sym g)

pub shared_run : (rest : Grammar) (acts : List Action) (a its : Section) (t u : TypeTree) (o q : Option Literal) (x : NameOf) (p : Place) (others : VarTrees)
    (ts : List Lexeme) → (d : (sign "," ⨾ SpellsVars a (_then_ (var x its u q p) others)) ts) → u ≡ t → q ≡ o → IsFree x
    → RestRuns rest acts a u q others d.behind.1.back → RestRuns rest acts a t o (_then_ (var x its u q p) others) ts
shared_run rest acts a its t u o q x p others ts d e f free g l before s =
    let c = d.in_front in
    let w = d.behind.1 in
    to (ap (λ (z : List VarTree). i.fields (record { section = a; vars = z }) ∷ s) (shared a its t u o q l (x, p) before (fields_of others) e f d.behind.0))
    (on (sym (d.parts ∙ ap (λ (z : List Lexeme). z ++ d.back) c.alone ∙ ap (λ (z : List Lexeme). c.token ∷ z) w.parts))
    (by b.declared_words_1 b.declared_words_1_body refl
    (then (by b.next_word_1 b.next_word_1_body refl (then (pass n.comma c.token (comma_serves c.token c.is))
    (word_runs rest acts x p w.front (i.token c.token ∷ i.words l ∷ i.fields (record { section = a; vars = before }) ∷ s) w.in_front free)) refl)
    (g (l ++ (x, p) ∷ []) before s)) refl))

-- ---- all types and variables

abbrev CanRest : Grammar → List Action → Section → VarTrees → Type 0
CanRest rest acts a no_vars = Unit {0}
CanRest rest acts a (_then_ (var x its t o p) others) = (ts : List Lexeme) → Behind a t o others ts → IsFormedType t → AreFormedVars others
    → RestRuns rest acts a t o others ts

-- the words behind a comma: the rest of the next variable
share : (rest : Grammar) (acts : List Action) (a : Section) (t : TypeTree) (o : Option Literal) (others : VarTrees) (ts : List Lexeme) → Shares t o others
    → (sign "," ⨾ SpellsVars a others) ts → AreFormedVars others → CanRest rest acts a others → RestRuns rest acts a t o others ts
share rest acts a t o no_vars ts h d f g = absurd h
share rest acts a t o (_then_ (var x its u q p) others) ts h d f g =
    shared_run rest acts a its t u o q x p others ts d h.0 h.1 f.0 (g d.behind.1.back d.behind.1.behind f.1 f.2)

rest_by : (rest : Grammar) (acts : List Action) (a : Section) (t : TypeTree) (o : Option Literal) (others : VarTrees)
    → ((ts : List Lexeme) → SpellsType a t ts → IsFormedType t → TypeRuns rest acts a t ts)
    → ((ts : List Lexeme) → SpellsVars a others ts → AreFormedVars others → VarsRun rest acts a others ts) → CanRest rest acts a others
    → (ts : List Lexeme) → Behind a t o others ts → IsFormedType t → AreFormedVars others → RestRuns rest acts a t o others ts
rest_by rest acts a t o others can_t can_v can_r ts (inl d) g f =
    declared_run rest acts a t o others ts d (can_t d.behind.front d.behind.in_front g)
    (can_v d.behind.behind.behind.back d.behind.behind.behind.behind f)
rest_by rest acts a t o others can_t can_v can_r ts (inr d) g f = share rest acts a t o others ts d.0 d.1 f can_r

-- variables, and what stands behind the first of them
abbrev CanVars : Grammar → List Action → Section → VarTrees → Type 0
CanVars rest acts a vs = (ts : List Lexeme) → SpellsVars a vs ts → AreFormedVars vs → VarsRun rest acts a vs ts

both_by : (rest : Grammar) (acts : List Action) (a its : Section) (x : NameOf) (t : TypeTree) (o : Option Literal) (p : Place) (others : VarTrees)
    → ((ts : List Lexeme) → SpellsType a t ts → IsFormedType t → TypeRuns rest acts a t ts) → CanVars rest acts a others × CanRest rest acts a others
    → CanVars rest acts a (_then_ (var x its t o p) others) × CanRest rest acts a (_then_ (var x its t o p) others)
both_by rest acts a its x t o p others can_t can = (
  λ ts d f. first_run rest acts a its x t o p others d.1.front d.1.back ts d.1.parts d.0 d.1.in_front f.0
      (rest_by rest acts a t o others can_t can.0 can.1 d.1.back d.1.behind f.1 f.2),
  rest_by rest acts a t o others can_t can.0 can.1,
)

mutual
  pub can_type : (rest : Grammar) (acts : List Action) (a : Section) (t : TypeTree) (ts : List Lexeme) → SpellsType a t ts → IsFormedType t
      → TypeRuns rest acts a t ts
  can_type rest acts a (plain simple) ts d f = simple_runs rest acts a simple ts d
  can_type rest acts a unread ts d f = unread_runs rest acts a ts d
  can_type rest acts a (named x p) ts d f = named_runs rest acts a x p ts d f
  can_type rest acts a (array low high t p) ts d f =
      array_runs rest acts a low high t p ts d
      (can_type rest acts a t d.behind.behind.behind.behind.behind.behind.back d.behind.behind.behind.behind.behind.behind.behind f)
  can_type rest acts a (structure vs) ts d f = structure_runs rest acts a vs ts d ((can_both rest acts a vs).0 d.behind.front d.behind.in_front f)

  can_both : (rest : Grammar) (acts : List Action) (a : Section) (vs : VarTrees) → CanVars rest acts a vs × CanRest rest acts a vs
  can_both rest acts a no_vars = (λ ts d f. no_vars_run rest acts a ts d, tt)
  can_both rest acts a (_then_ (var x its t o p) others) =
      both_by rest acts a its x t o p others (can_type rest acts a t) (can_both rest acts a others)

pub can_vars : (rest : Grammar) (acts : List Action) (a : Section) (vs : VarTrees) (ts : List Lexeme) → SpellsVars a vs ts → AreFormedVars vs
    → VarsRun rest acts a vs ts
can_vars rest acts a vs ts d f = (can_both rest acts a vs).0 ts d f
