-- What spells names, literals and declarations makes of the shades on the stack.
use Rattle.std.proofs.Common.{◌≡◌, inl, inr, ℕ, List, [], ◌∷◌, ◌++◌, Option, Some, None, refl, ap, ◌∙◌, sym}
use Rattle.std.specs.Prelude.{ℤ}
use Rattle.std.proofs.lemmas.List.{append_assoc}
use Rattle.pv_word.specs.declared.types.Ty.{Ty}
use Rattle.pv_place.specs.declared.place.Place.{Place}
use Rattle.pv_types.specs.declared.name.Name.{Name as NameOf}
use Rattle.pv_types.specs.declared.declaration.Literal.{Literal}
use Rattle.pv_types.specs.declared.declaration.Section.{Section}
use Rattle.pv_types.specs.Tree.{TypeTree, plain, array, structure, named, unread, VarTrees, var, no_vars, _then_}
use Rattle.pv_ll.specs.declared.table.Symbol.{Symbol}
use Rattle.pv_ll.specs.declared.table.Symbol.TheVariants.{Name}
use Rattle.pv_ll.specs.Grammar.{Grammar}
use Rattle.pv_tree.specs.Lexemes.{Lexeme, ◌⨾◌, sign}
use Rattle.pv_tree.specs.Words.{IsFree, SpellsWord, SpellsName}
use Rattle.pv_tree.specs.Literals.{number_type, SpellsNumber, SpellsLiteral, SpellsInteger}
use Rattle.pv_tree.specs.Declarations.{SpellsType, IsFormedType, SpellsVars, AreFormedVars, SpellsStart, Shares}
use Rattle.pv_parse.specs.declared.action.Action.{Action}
use Rattle.pv_parse.specs.KindNumbers as n
use Rattle.pv_parse.specs.FrontNames as name
use Rattle.pv_parse.specs.FrontBodies as b
use Rattle.pv_parse.specs.Front.{declaration_productions}
use Rattle.pv_parse.specs.ExprAnswers.{AreOthers}
use Rattle.pv_parse.specs.Deeds.{declaration_actions}
use Rattle.pv_parse.specs.Shades.{Shade, empty as no_shade, all, merged, part_places}
use Rattle.pv_parse.proofs.ForCallers.{assign_serves, bracket_close_serves, bracket_open_serves, comma_serves, minus_serves, number_serves, truth_serves, Behind, firm_made, merged-nil, merged-assoc}
use Rattle.pv_parse_source.proofs.DeclKinds as decl
use Rattle.pv_parse_source.proofs.DeclRuns.{word_runs}
use Rattle.pv_parse_source.proofs.TypePlaces.{places_of_type, places_of_vars, places_of_rest, first_of_type}
use Rattle.pv_parse_source.proofs.Casts.{Casts, empty, on, to, then, by, pass, of_expressions}

-- in each grammar that begins with the productions of expressions and of declarations
abbrev pub Dims : Grammar → List Action → List Symbol → List Lexeme → List Shade → List Shade → Type 0
Dims rest acts ss ts s behind = Casts (declaration_productions ++ rest) (declaration_actions ++ acts) ss ts s behind

-- in which those behind are of other names
abbrev pub AreApart : Grammar → Type 0
AreApart rest = AreOthers (declaration_productions ++ rest)

abbrev pub shade : Place → List Place → Shade
shade first parts = record { first = first; parts = parts }

-- a value without parts
pub record Alone (rest : Grammar) (acts : List Action) (m : ℕ) (ts : List Lexeme) : Type 0 where
  pub first : Place
  pub casts : (w : List Shade) → Dims rest acts (Name m ∷ []) ts w (shade first [] ∷ w)

-- ---- names

pub word_cast : (rest : Grammar) (acts : List Action) → AreApart rest → (x : NameOf) (p : Place) (ts : List Lexeme) (w : List Shade) → SpellsWord x p ts
    → IsFree x → Dims rest acts (Name name.word ∷ []) ts w (shade p [] ∷ w)
word_cast rest acts apart x p ts w d f =
    of_expressions (declaration_productions ++ rest) (declaration_actions ++ acts) apart w refl (word_runs rest acts x p ts [] d f)

pub name_cast : (rest : Grammar) (acts : List Action) → AreApart rest → (x : NameOf) (p : Place) (ts : List Lexeme) (w : List Shade) → SpellsName x p ts
    → IsFree x → Dims rest acts (Name name.name ∷ []) ts w (shade p [] ∷ w)
name_cast rest acts apart x p ts w (inl d) f = by b.name_1 b.name_1_body refl (word_cast rest acts apart x p ts w d f) refl
name_cast rest acts apart x p ts w (inr d) f =
    by b.name_2 b.name_2_body refl (of_expressions (declaration_productions ++ rest) (declaration_actions ++ acts) apart w refl
    (firm_made (declaration_productions ++ rest) (declaration_actions ++ acts) x p ts d [])) refl

-- ---- literals

pub numeral_cast : (rest : Grammar) (acts : List Action) (x : Literal) (ts : List Lexeme) → SpellsNumber number_type x ts → Alone rest acts name.integer ts
numeral_cast rest acts x ts (inl d) = record {
  first = d.token.place;
  casts = λ w. on (sym d.alone) (by b.integer_2 b.integer_2_body refl (pass n.number d.token (number_serves d.token d.is.is.kind)) refl);
}
numeral_cast rest acts x ts (inr d) = record {
  first = d.in_front.token.place;
  casts = λ w. on (sym (d.parts ∙ ap (λ (z : List Lexeme). z ++ d.back) d.in_front.alone ∙ ap (λ (z : List Lexeme). d.in_front.token ∷ z) d.behind.alone))
      (by b.integer_1 b.integer_1_body refl (then (pass n.minus d.in_front.token (minus_serves d.in_front.token d.in_front.is.is))
      (pass n.number d.behind.token (number_serves d.behind.token d.behind.is.kind))) refl);
}

pub literal_cast : (rest : Grammar) (acts : List Action) (x : Literal) (ts : List Lexeme) → SpellsLiteral x ts → Alone rest acts name.literal ts
literal_cast rest acts x ts (inl d) =
    let g : Alone rest acts name.integer ts = numeral_cast rest acts x ts d in
    record { first = g.first; casts = λ w. by b.literal_1 b.literal_1_body refl (g.casts w) refl }
literal_cast rest acts x ts (inr d) = record {
  first = d.token.place;
  casts = λ w. on (sym d.alone) (by b.literal_2 b.literal_2_body refl (pass n.truth d.token (truth_serves x.ty x.value d.token d.is.is)) refl);
}

pub integer_cast : (rest : Grammar) (acts : List Action) (v : ℤ) (ts : List Lexeme) → SpellsInteger v ts → Alone rest acts name.integer ts
integer_cast rest acts v ts (inl d) = record {
  first = d.token.place;
  casts = λ w. on (sym d.alone) (by b.integer_2 b.integer_2_body refl (pass n.number d.token (number_serves d.token d.is.kind)) refl);
}
integer_cast rest acts v ts (inr d) = record {
  first = d.in_front.token.place;
  casts = λ w. on (sym (d.parts ∙ ap (λ (z : List Lexeme). z ++ d.back) d.in_front.alone ∙ ap (λ (z : List Lexeme). d.in_front.token ∷ z) d.behind.alone))
      (by b.integer_1 b.integer_1_body refl (then (pass n.minus d.in_front.token (minus_serves d.in_front.token d.in_front.is))
      (pass n.number d.behind.token (number_serves d.behind.token d.behind.is.kind))) refl);
}

-- ---- types

abbrev TypeCasts : Grammar → List Action → (a : Section) (t : TypeTree) (ts : List Lexeme) → SpellsType a t ts → Type 0
TypeCasts rest acts a t ts d =
    (w : List Shade) → Dims rest acts (Name name.declared_type ∷ []) ts w (shade (first_of_type a t ts d) (places_of_type a t ts d) ∷ w)

simple_cast : (rest : Grammar) (acts : List Action) (a : Section) (simple : Ty) (ts : List Lexeme) (d : SpellsType a (plain simple) ts)
    → TypeCasts rest acts a (plain simple) ts d
simple_cast rest acts a simple ts d w =
    on (sym d.alone) (by b.declared_type_1 b.declared_type_1_body refl (pass n.simple_type d.token (decl.simple_type simple d.token d.is)) refl)

unread_cast : (rest : Grammar) (acts : List Action) (a : Section) (ts : List Lexeme) (d : SpellsType a unread ts) → TypeCasts rest acts a unread ts d
unread_cast rest acts a ts d w =
    on (sym d.alone) (by b.declared_type_2 b.declared_type_2_body refl (pass n.date_and_time d.token (decl.date_and_time d.token d.is)) refl)

named_cast : (rest : Grammar) (acts : List Action) → AreApart rest → (a : Section) (x : NameOf) (p : Place) (ts : List Lexeme) (d : SpellsName x p ts)
    → IsFree x → TypeCasts rest acts a (named x p) ts d
named_cast rest acts apart a x p ts d f w = by b.declared_type_3 b.declared_type_3_body refl (name_cast rest acts apart x p ts w d f) refl

array_cast : (rest : Grammar) (acts : List Action) (a : Section) (low high : ℤ) (t : TypeTree) (p : Place) (ts : List Lexeme)
    (d : SpellsType a (array low high t p) ts)
    → TypeCasts rest acts a t d.behind.behind.behind.behind.behind.behind.back d.behind.behind.behind.behind.behind.behind.behind
    → TypeCasts rest acts a (array low high t p) ts d
array_cast rest acts a low high t p ts d g w =
    let t1 = d.in_front in
    let open_ = d.behind.in_front in
    let lows = d.behind.behind in
    let dot = lows.behind.in_front in
    let highs = lows.behind.behind in
    let close = highs.behind.in_front in
    let of = highs.behind.behind.in_front in
    let last = highs.behind.behind.back in
    let elements : List Place = places_of_type a t last highs.behind.behind.behind in
    let x : Alone rest acts name.integer lows.front = integer_cast rest acts low lows.front lows.in_front in
    let y : Alone rest acts name.integer highs.front = integer_cast rest acts high highs.front highs.in_front in
    let head : Dims rest acts (Name name.array_head ∷ []) (t1.token ∷ open_.token ∷ (lows.front ++ (dot.token ∷ (highs.front ++ (close.token ∷ of.token ∷ [])))))
    w (shade t1.token.place [] ∷ w) =
    by b.array_head_1 b.array_head_1_body refl (then (pass n.array_word t1.token (decl.array_word t1.token t1.is.is))
    (then (pass n.bracket_open open_.token (bracket_open_serves open_.token open_.is)) (then (x.casts (shade open_.token.place [] ∷ shade t1.token.place [] ∷ w))
    (then (pass n.dots dot.token (decl.dots dot.token dot.is))
    (then (y.casts (shade dot.token.place [] ∷ shade x.first [] ∷ shade open_.token.place [] ∷ shade t1.token.place [] ∷ w))
    (then (pass n.bracket_close close.token (bracket_close_serves close.token close.is)) (pass n.of_word of.token (decl.of_word of.token of.is)))))))) refl in
    let parts : ts ≡ (t1.token ∷ open_.token ∷ (lows.front ++ (dot.token ∷ (highs.front ++ (close.token ∷ of.token ∷ []))))) ++ last =
    array_parts ts t1.token open_.token dot.token close.token of.token lows.front highs.front last d.front d.back d.behind.front d.behind.back lows.back
    lows.behind.front lows.behind.back highs.back highs.behind.front highs.behind.back highs.behind.behind.front d.parts t1.alone d.behind.parts open_.alone
    lows.parts lows.behind.parts dot.alone highs.parts highs.behind.parts close.alone highs.behind.behind.parts of.alone in
    to (ap (λ (z : Place). shade z (part_places z (all (elements ∷ []))) ∷ w) t1.is.at)
    (on (sym parts) (by b.declared_type_5 b.declared_type_5_body refl (then head (g (shade t1.token.place [] ∷ w))) refl))
  where
    array_parts : (ts : List Lexeme) (w o d c f : Lexeme) (lows highs last : List Lexeme) (t1 t2 t3 t4 t5 t6 t7 t8 t9 t10 t11 : List Lexeme)
        → ts ≡ t1 ++ t2 → t1 ≡ w ∷ [] → t2 ≡ t3 ++ t4 → t3 ≡ o ∷ [] → t4 ≡ lows ++ t5 → t5 ≡ t6 ++ t7 → t6 ≡ d ∷ [] → t7 ≡ highs ++ t8 → t8 ≡ t9 ++ t10
        → t9 ≡ c ∷ [] → t10 ≡ t11 ++ last → t11 ≡ f ∷ [] → ts ≡ (w ∷ o ∷ (lows ++ (d ∷ (highs ++ (c ∷ f ∷ []))))) ++ last
    array_parts ts w o d c f lows highs last t1 t2 t3 t4 t5 t6 t7 t8 t9 t10 t11 e1 e2 e3 e4 e5 e6 e7 e8 e9 e10 e11 e12 =
        e1 ∙ ap (λ (z : List Lexeme). z ++ t2) e2 ∙ ap (λ (z : List Lexeme). w ∷ z) (e3 ∙ ap (λ (z : List Lexeme). z ++ t4) e4
        ∙ ap (λ (z : List Lexeme). o ∷ z) (e5 ∙ ap (λ (z : List Lexeme). lows ++ z) (e6 ∙ ap (λ (z : List Lexeme). z ++ t7) e7
        ∙ ap (λ (z : List Lexeme). d ∷ z) (e8 ∙ ap (λ (z : List Lexeme). highs ++ z) (e9 ∙ ap (λ (z : List Lexeme). z ++ t10) e10
        ∙ ap (λ (z : List Lexeme). c ∷ z) (e11 ∙ ap (λ (z : List Lexeme). z ++ last) e12)) ∙ sym (append_assoc highs (c ∷ f ∷ []) last)))
        ∙ sym (append_assoc lows (d ∷ (highs ++ (c ∷ f ∷ []))) last)))

-- ---- variables

abbrev pub VarsCast : Grammar → List Action → (a : Section) (vs : VarTrees) (ts : List Lexeme) → SpellsVars a vs ts → Type 0
VarsCast rest acts a vs ts d =
    (first : Place) (before : List Place) (w : List Shade)
    → Dims rest acts (Name name.declarations ∷ []) ts (shade first before ∷ w) (shade first (merged before (places_of_vars a vs ts d)) ∷ w)

structure_cast : (rest : Grammar) (acts : List Action) (a : Section) (vs : VarTrees) (ts : List Lexeme) (d : SpellsType a (structure vs) ts)
    → VarsCast rest acts a vs d.behind.front d.behind.in_front → TypeCasts rest acts a (structure vs) ts d
structure_cast rest acts a vs ts d g w =
    let t = d.in_front in
    let end = d.behind.behind in
    on (sym (d.parts ∙ ap (λ (z : List Lexeme). z ++ d.back) t.alone ∙ ap (λ (z : List Lexeme). t.token ∷ z) (d.behind.parts
    ∙ ap (λ (z : List Lexeme). d.behind.front ++ z) end.alone)))
    (by b.declared_type_4 b.declared_type_4_body refl (by b.struct_1 b.struct_1_body refl
    (then (by b.struct_head_1 b.struct_head_1_body refl (pass n.struct_word t.token (decl.struct_word t.token t.is)) refl)
    (then (g t.token.place [] w) (pass n.end_struct end.token (decl.end_struct end.token end.is)))) refl) refl)

no_vars_cast : (rest : Grammar) (acts : List Action) (a : Section) (ts : List Lexeme) (d : ts ≡ []) → VarsCast rest acts a no_vars ts d
no_vars_cast rest acts a ts d first before w =
    to (ap (λ (z : List Place). shade first z ∷ w) (sym (merged-nil before)))
    (on (sym d) (by b.declarations_2 b.declarations_2_body refl empty refl))

-- what stands behind the last of the words of a declaration, with what is declared behind it
abbrev RestCasts : Grammar → List Action → (a : Section) (t : TypeTree) (o : Option Literal) (others : VarTrees) (ts : List Lexeme) → Behind a t o others ts
    → Type 0
RestCasts rest acts a t o others ts x =
    (first : Place) (before : List Place) (w : List Shade)
    → Dims rest acts (Name name.declared_words ∷ []) ts (no_shade ∷ shade first before ∷ w)
    (shade first (merged before (places_of_rest a t o others ts x)) ∷ w)

start_cast : (rest : Grammar) (acts : List Action) (o : Option Literal) (ts : List Lexeme) (w : List Shade) → SpellsStart o ts
    → Dims rest acts (Name name.start_value ∷ []) ts w (no_shade ∷ w)
start_cast rest acts None ts w d = on (sym d) (by b.start_value_2 b.start_value_2_body refl empty refl)
start_cast rest acts (Some x) ts w d =
    let m = d.in_front in
    let g : Alone rest acts name.literal d.back = literal_cast rest acts x d.back d.behind in
    on (sym (d.parts ∙ ap (λ (z : List Lexeme). z ++ d.back) m.alone))
    (by b.start_value_1 b.start_value_1_body refl (then (pass n.assign m.token (assign_serves m.token m.is)) (g.casts (shade m.token.place [] ∷ w))) refl)

-- the type, the start value and further declarations
declared_cast : (rest : Grammar) (acts : List Action) (a : Section) (t : TypeTree) (o : Option Literal) (others : VarTrees) (ts : List Lexeme)
    (d : (sign ":" ⨾ SpellsType a t ⨾ SpellsStart o ⨾ sign ";" ⨾ SpellsVars a others) ts) → TypeCasts rest acts a t d.behind.front d.behind.in_front
    → VarsCast rest acts a others d.behind.behind.behind.back d.behind.behind.behind.behind → RestCasts rest acts a t o others ts (inl d)
declared_cast rest acts a t o others ts d g h first before w =
    let c = d.in_front in
    let ty = d.behind in
    let st = ty.behind in
    let end = st.behind.in_front in
    let x : Shade = shade (first_of_type a t ty.front ty.in_front) (places_of_type a t ty.front ty.in_front) in
    let below : List Shade = no_shade ∷ shade first before ∷ w in
    to (ap (λ (z : List Place). shade first z ∷ w) (merged-assoc before (all (x.parts ∷ [])) (places_of_vars a others st.behind.back st.behind.behind)))
    (on (sym (parts ts c.token end.token ty.front st.front st.behind.back d.front d.back ty.back st.back st.behind.front d.parts c.alone ty.parts st.parts
    st.behind.parts end.alone))
    (by b.declared_words_2 b.declared_words_2_body refl
    (then (by b.declared_1 b.declared_1_body refl
    (then (by b.type_head_1 b.type_head_1_body refl (pass n.colon c.token (decl.colon c.token c.is)) refl)
    (then (g below) (then (start_cast rest acts o st.front (x ∷ below) st.in_front)
    (pass n.semicolon end.token (decl.semicolon end.token end.is))))) refl)
    (h first (merged before (all (x.parts ∷ []))) w)) refl))
  where
    parts : (ts : List Lexeme) (c e : Lexeme) (ty st last : List Lexeme) (t1 t2 t3 t4 t5 : List Lexeme) → ts ≡ t1 ++ t2 → t1 ≡ c ∷ [] → t2 ≡ ty ++ t3
        → t3 ≡ st ++ t4 → t4 ≡ t5 ++ last → t5 ≡ e ∷ [] → ts ≡ (c ∷ (ty ++ (st ++ e ∷ []))) ++ last
    parts ts c e ty st last t1 t2 t3 t4 t5 e1 e2 e3 e4 e5 e6 =
        e1 ∙ ap (λ (z : List Lexeme). z ++ t2) e2 ∙ ap (λ (z : List Lexeme). c ∷ z) (e3 ∙ ap (λ (z : List Lexeme). ty ++ z) (e4
        ∙ ap (λ (z : List Lexeme). st ++ z) (e5 ∙ ap (λ (z : List Lexeme). z ++ last) e6) ∙ sym (append_assoc st (e ∷ []) last))
        ∙ sym (append_assoc ty (st ++ e ∷ []) last))

-- variables, and what stands behind the first of them
abbrev CanVars : Grammar → List Action → Section → VarTrees → Type 0
CanVars rest acts a vs = (ts : List Lexeme) (d : SpellsVars a vs ts) → AreFormedVars vs → VarsCast rest acts a vs ts d

abbrev CanRest : Grammar → List Action → Section → VarTrees → Type 0
CanRest rest acts a no_vars = Unit {0}
CanRest rest acts a (_then_ (var x its t o p) others) =
    (ts : List Lexeme) (d : Behind a t o others ts) → IsFormedType t → AreFormedVars others → RestCasts rest acts a t o others ts d

-- a comma and one word more
share : (rest : Grammar) (acts : List Action) → AreApart rest → (a : Section) (t : TypeTree) (o : Option Literal) (others : VarTrees) (ts : List Lexeme)
    (h : Shares t o others) (d : (sign "," ⨾ SpellsVars a others) ts) → AreFormedVars others → CanRest rest acts a others
    → RestCasts rest acts a t o others ts (inr (h, d))
share rest acts apart a t o no_vars ts h d f g first before w = absurd h
share rest acts apart a t o (_then_ (var x its u q p) others) ts h d f g first before w =
    let c = d.in_front in
    let v = d.behind.1 in
    on (sym (d.parts ∙ ap (λ (z : List Lexeme). z ++ d.back) c.alone ∙ ap (λ (z : List Lexeme). c.token ∷ z) v.parts))
    (by b.declared_words_1 b.declared_words_1_body refl
    (then (by b.next_word_1 b.next_word_1_body refl (then (pass n.comma c.token (comma_serves c.token c.is))
    (word_cast rest acts apart x p v.front (shade c.token.place [] ∷ no_shade ∷ shade first before ∷ w) v.in_front f.0)) refl)
    (g v.back v.behind f.1 f.2 first before w)) refl)

rest_by : (rest : Grammar) (acts : List Action) → AreApart rest → (a : Section) (t : TypeTree) (o : Option Literal) (others : VarTrees)
    → ((ts : List Lexeme) (d : SpellsType a t ts) → IsFormedType t → TypeCasts rest acts a t ts d) → CanVars rest acts a others × CanRest rest acts a others
    → (ts : List Lexeme) (d : Behind a t o others ts) → IsFormedType t → AreFormedVars others → RestCasts rest acts a t o others ts d
rest_by rest acts apart a t o others can_t can ts (inl d) g f =
    declared_cast rest acts a t o others ts d (can_t d.behind.front d.behind.in_front g)
    (can.0 d.behind.behind.behind.back d.behind.behind.behind.behind f)
rest_by rest acts apart a t o others can_t can ts (inr d) g f = share rest acts apart a t o others ts d.0 d.1 f can.1

first_cast : (rest : Grammar) (acts : List Action) → AreApart rest → (a its : Section) (x : NameOf) (t : TypeTree) (o : Option Literal) (p : Place)
    (others : VarTrees) (ts : List Lexeme) (d : SpellsVars a (_then_ (var x its t o p) others) ts) → IsFree x
    → RestCasts rest acts a t o others d.1.back d.1.behind → VarsCast rest acts a (_then_ (var x its t o p) others) ts d
first_cast rest acts apart a its x t o p others ts d f g first before w =
    on (sym d.1.parts) (by b.declarations_1 b.declarations_1_body refl
    (then (by b.first_word_1 b.first_word_1_body refl (word_cast rest acts apart x p d.1.front (shade first before ∷ w) d.1.in_front f) refl)
    (g first before w)) refl)

both_by : (rest : Grammar) (acts : List Action) → AreApart rest → (a its : Section) (x : NameOf) (t : TypeTree) (o : Option Literal) (p : Place)
    (others : VarTrees) → ((ts : List Lexeme) (d : SpellsType a t ts) → IsFormedType t → TypeCasts rest acts a t ts d)
    → CanVars rest acts a others × CanRest rest acts a others
    → CanVars rest acts a (_then_ (var x its t o p) others) × CanRest rest acts a (_then_ (var x its t o p) others)
both_by rest acts apart a its x t o p others can_t can = (
  λ ts d f. first_cast rest acts apart a its x t o p others ts d f.0
      (rest_by rest acts apart a t o others can_t can d.1.back d.1.behind f.1 f.2),
  rest_by rest acts apart a t o others can_t can,
)

mutual
  can_type : (rest : Grammar) (acts : List Action) → AreApart rest → (a : Section) (t : TypeTree) (ts : List Lexeme) (d : SpellsType a t ts)
      → IsFormedType t → TypeCasts rest acts a t ts d
  can_type rest acts apart a (plain simple) ts d f = simple_cast rest acts a simple ts d
  can_type rest acts apart a unread ts d f = unread_cast rest acts a ts d
  can_type rest acts apart a (named x p) ts d f = named_cast rest acts apart a x p ts d f
  can_type rest acts apart a (array low high t p) ts d f =
      array_cast rest acts a low high t p ts d
      (can_type rest acts apart a t d.behind.behind.behind.behind.behind.behind.back d.behind.behind.behind.behind.behind.behind.behind f)
  can_type rest acts apart a (structure vs) ts d f =
      structure_cast rest acts a vs ts d ((can_both rest acts apart a vs).0 d.behind.front d.behind.in_front f)

  can_both : (rest : Grammar) (acts : List Action) → AreApart rest → (a : Section) (vs : VarTrees) → CanVars rest acts a vs × CanRest rest acts a vs
  can_both rest acts apart a no_vars = (λ ts d f. no_vars_cast rest acts a ts d, tt)
  can_both rest acts apart a (_then_ (var x its t o p) others) =
      both_by rest acts apart a its x t o p others (can_type rest acts apart a t) (can_both rest acts apart a others)

pub vars_cast : (rest : Grammar) (acts : List Action) → AreApart rest → (a : Section) (vs : VarTrees) (ts : List Lexeme) (d : SpellsVars a vs ts)
    → AreFormedVars vs → VarsCast rest acts a vs ts d
vars_cast rest acts apart a vs ts d f = (can_both rest acts apart a vs).0 ts d f
