-- What spells sections, blocks and the values of data blocks makes of the shades on the stack, and what it says of the parts that are too
-- deep.
use Rattle.std.proofs.Common.{◌≡◌, inl, inr, ℕ, true, false, List, [], ◌∷◌, ◌++◌, All, Option, Some, None, refl, ap, ◌∙◌, sym, subst, arith}
use Rattle.std.specs.List.{slice_get}
use Rattle.std.specs.Option.{option_or}
use Rattle.std.proofs.lemmas.List.{append_assoc}
use Rattle.std.proofs.lemmas.List.Elements.{All-head, All-tail}
use Rattle.pv_word.specs.declared.types.Ty.{Ty}
use Rattle.pv_place.specs.declared.place.Place.{Place}
use Rattle.pv_types.specs.declared.name.Name.{Name as NameOf}
use Rattle.pv_types.specs.declared.declaration.Literal.{Literal}
use Rattle.pv_types.specs.declared.declaration.Section.{Section}
use Rattle.pv_types.specs.declared.declaration.Section.TheVariants as section
use Rattle.pv_types.specs.Tree.{VarTree, var}
use Rattle.pv_types.specs.View.{listed}
use Rattle.pv_lex.specs.declared.token.Language.{Language}
use Rattle.pv_lex.specs.declared.token.Language.TheVariants as language
use Rattle.pv_ll.specs.declared.table.Symbol.TheVariants.{Name}
use Rattle.pv_ll.specs.Grammar.{Grammar}
use Rattle.pv_tree.specs.declared.expr.Root.TheVariants.{Local, Named, Area}
use Rattle.pv_tree.specs.declared.block.BlockKind.{BlockKind}
use Rattle.pv_tree.specs.declared.block.BlockKind.TheVariants as kinds
use Rattle.pv_tree.specs.Tree.{PlacedName, ExprTree, lit, read, unary, binary, std, paren, OperandTree, operand, StepTree, field, index, StepTrees, no_steps, steps, StartTree, BodyTree, scl, stl, starts, BlockTree}
use Rattle.pv_tree.specs.Lexemes.{Lexeme, ◌⨾◌, sign, word, maybe, each}
use Rattle.pv_tree.specs.Words.{SpellsName, IsFree}
use Rattle.pv_tree.specs.Calls.{IsFreeOption}
use Rattle.pv_tree.specs.Declarations.{SpellsVars, AreFormedVars, SpellsSectionWord, SpellsConstant, SpellsSection, SpellsSections}
use Rattle.pv_tree.specs.Declarations.SpellsSections.{no_sections, sections}
use Rattle.pv_tree.specs.Blocks.{SpellsPathSteps, SpellsPathStep, SpellsDataValue, IsFormedStart, SpellsCode, SpellsData, SpellsValueType, SpellsOwnFields, SpellsDataType, SpellsKind, SpellsBlock, IsFormedBody, IsFormedKind, IsFormedBlock}
use Rattle.pv_tree.specs.Nesting.{Part, parts_of_steps, parts_of_step, parts_of_operand, parts_of_starts, parts_of_body, most_levels}
use Rattle.pv_tree.specs.Depth.{parts_of_sections, parts_of_own_fields, parts_of_data_type, parts_of_kind, parts_of_blocks}
use Rattle.pv_parse.specs.declared.action.Action.{Action}
use Rattle.pv_parse.specs.KindNumbers as n
use Rattle.pv_parse.specs.FrontNames as name
use Rattle.pv_parse.specs.FrontBodies as b
use Rattle.pv_parse.specs.Front.{declaration_productions}
use Rattle.pv_parse.specs.Deeds.{declaration_actions}
use Rattle.pv_parse.specs.Shades.{Shade, nowhere, all, merged}
use Rattle.pv_parse.proofs.ForCallers.{assign_serves, bracket_close_serves, bracket_open_serves, dot_serves, field_made, merged-nil, merged-assoc, get-merged, MarksParts as Marks, first_above, above-both, marks_one, marks_two}
use Rattle.pv_parse_source.proofs.DeclKinds as decl
use Rattle.pv_parse_source.proofs.DeclKinds.{Opens}
use Rattle.pv_parse_source.proofs.BlockRuns.{formed_front, formed_back}
use Rattle.pv_parse_source.proofs.TypePlaces.{places_of_vars, places_of_section, places_of_sections, places_of_own_fields, marks-sections, marks-own-fields}
use Rattle.pv_parse_source.proofs.Casts.{empty, on, to, then, by, pass, of_expressions}
use Rattle.pv_parse_source.proofs.DeclCasts.{Dims, AreApart, shade, Alone, word_cast, name_cast, numeral_cast, literal_cast, vars_cast}

-- a value of which it doesn't matter where it begins
abbrev pub group : List Place → Shade
group parts = shade nowhere parts

led : (ts us vs : List Lexeme) (t : Lexeme) → ts ≡ us ++ vs → us ≡ t ∷ [] → t ∷ vs ≡ ts
led ts us vs t e f = sym (e ∙ ap (λ (z : List Lexeme). z ++ vs) f)

ended : (ts us vs : List Lexeme) (t : Lexeme) → ts ≡ us ++ vs → vs ≡ t ∷ [] → us ++ t ∷ [] ≡ ts
ended ts us vs t e f = sym (e ∙ ap (λ (z : List Lexeme). us ++ z) f)

-- ---- constants

constant_cast : (rest : Grammar) (acts : List Action) → AreApart rest → (x : VarTree) (ts : List Lexeme) → SpellsConstant x ts
    → AreFormedVars (listed (x ∷ [])) → (first : Place) (w : List Shade)
    → Dims rest acts (Name name.constant ∷ []) ts (shade first [] ∷ w) (shade first [] ∷ w)
constant_cast rest acts apart (var x its t None p) ts d f first w = absurd d.1
constant_cast rest acts apart (var x its t (Some l) p) ts d f first w =
    let v = d.1.1 in
    let m = v.behind.in_front in
    let g = v.behind.behind in
    let end = g.behind in
    let y : Alone rest acts name.literal g.front = literal_cast rest acts l g.front g.in_front in
    on (sym v.parts) (by b.constant_1 b.constant_1_body refl
    (then (word_cast rest acts apart x p v.front (shade first [] ∷ w) v.in_front f.0)
    (on (led v.back v.behind.front v.behind.back m.token v.behind.parts m.alone) (then (pass n.assign m.token (assign_serves m.token m.is))
    (on (ended v.behind.back g.front g.back end.token g.parts end.alone)
    (then (y.casts (shade m.token.place [] ∷ shade p [] ∷ shade first [] ∷ w)) (pass n.semicolon end.token (decl.semicolon end.token end.is))))))) refl)

constants_cast : (rest : Grammar) (acts : List Action) → AreApart rest → (new : List VarTree) (ts : List Lexeme) → each SpellsConstant new ts
    → AreFormedVars (listed new) → (first : Place) (w : List Shade)
    → Dims rest acts (Name name.constants ∷ []) ts (shade first [] ∷ w) (shade first [] ∷ w)
constants_cast rest acts apart [] ts d f first w = on (sym d) (by b.constants_2 b.constants_2_body refl empty refl)
constants_cast rest acts apart (var x its t o p ∷ more) ts d f first w =
    on (sym d.parts) (by b.constants_1 b.constants_1_body refl
    (then (constant_cast rest acts apart (var x its t o p) d.front d.in_front (f.0, f.1, tt) first w)
    (constants_cast rest acts apart more d.back d.behind f.2 first w)) refl)

-- ---- sections

abbrev SectionsCast : Grammar → List Action → ℕ → List Lexeme → List Place → Type 0
SectionsCast rest acts m ts places =
    (before : List Place) (w : List Shade) → Dims rest acts (Name m ∷ []) ts (group before ∷ w) (group (merged before places) ∷ w)

-- a section that begins with this word
var_section : (rest : Grammar) (acts : List Action) → AreApart rest → (a : Section) (new : List VarTree) (ts : List Lexeme)
    (d : (SpellsSectionWord a ⨾ SpellsVars a (listed new) ⨾ word "END_VAR") ts) → AreFormedVars (listed new)
    → SectionsCast rest acts name.section ts (all (places_of_vars a (listed new) d.behind.front d.behind.in_front ∷ []))
var_section rest acts apart a new ts d f before w =
    let t : Opens a d.front = decl.section_word a d.front d.in_front in
    let end = d.behind.behind in
    on (led ts d.front d.back t.token d.parts t.alone) (by b.section_1 b.section_1_body refl
    (then (by b.section_head_1 b.section_head_1_body refl (pass n.section_word t.token t.serves) refl)
    (on (ended d.back d.behind.front d.behind.back end.token d.behind.parts end.alone)
    (then (vars_cast rest acts apart a (listed new) d.behind.front d.behind.in_front f t.token.place [] (group before ∷ w))
    (pass n.end_var end.token (decl.end_var end.token end.is))))) refl)

section_cast : (rest : Grammar) (acts : List Action) → AreApart rest → (a : Section) (new : List VarTree) (ts : List Lexeme) (d : SpellsSection a new ts)
    → AreFormedVars (listed new) → SectionsCast rest acts name.section ts (places_of_section a new ts d)
section_cast rest acts apart section.Input new ts d f = var_section rest acts apart section.Input new ts d f
section_cast rest acts apart section.Output new ts d f = var_section rest acts apart section.Output new ts d f
section_cast rest acts apart section.InOut new ts d f = var_section rest acts apart section.InOut new ts d f
section_cast rest acts apart section.Static new ts d f = var_section rest acts apart section.Static new ts d f
section_cast rest acts apart section.Temp new ts d f = var_section rest acts apart section.Temp new ts d f
section_cast rest acts apart section.Const new ts d f = λ before w.
    let t = d.in_front in
    let end = d.behind.behind in
    on (led ts d.front d.back t.token d.parts t.alone) (by b.section_2 b.section_2_body refl
    (then (by b.const_head_1 b.const_head_1_body refl (pass n.const_word t.token (decl.const_word t.token t.is)) refl)
    (on (ended d.back d.behind.front d.behind.back end.token d.behind.parts end.alone)
    (then (constants_cast rest acts apart new d.behind.front d.behind.in_front f t.token.place (group before ∷ w))
    (pass n.end_const end.token (decl.end_const end.token end.is))))) refl)

sections_cast : (rest : Grammar) (acts : List Action) → AreApart rest → (new : List VarTree) (ts : List Lexeme) (d : SpellsSections new ts)
    → AreFormedVars (listed new) → SectionsCast rest acts name.sections ts (places_of_sections d)
sections_cast rest acts apart new ts no_sections f before w =
    to (ap (λ (z : List Place). group z ∷ w) (sym (merged-nil before))) (by b.sections_2 b.sections_2_body refl empty refl)
sections_cast rest acts apart new ts (sections a inner others its front back all_ h d e p) f before w =
    let whole : AreFormedVars (listed (inner ++ others)) = subst (λ (z : List VarTree). AreFormedVars (listed z)) e f in
    let here : List Place = places_of_section a inner front h in
    to (ap (λ (z : List Place). group z ∷ w) (merged-assoc before here (places_of_sections d)))
    (on (sym p) (by b.sections_1 b.sections_1_body refl
    (then (section_cast rest acts apart a inner front h (formed_front inner others whole) before w)
    (sections_cast rest acts apart others back d (formed_back inner others whole) (merged before here) w)) refl))

-- ---- own fields

maybe_semicolon_cast : (rest : Grammar) (acts : List Action) (ts : List Lexeme) (w : List Shade) → maybe (sign ";") ts
    → Dims rest acts (Name name.maybe_semicolon ∷ []) ts w w
maybe_semicolon_cast rest acts ts w (inl d) = on (sym d) (by b.maybe_semicolon_2 b.maybe_semicolon_2_body refl empty refl)
maybe_semicolon_cast rest acts ts w (inr d) =
    on (sym d.alone) (by b.maybe_semicolon_1 b.maybe_semicolon_1_body refl (pass n.semicolon d.token (decl.semicolon d.token d.is)) refl)

own_fields_cast : (rest : Grammar) (acts : List Action) → AreApart rest → (new : List VarTree) (ts : List Lexeme) (d : SpellsOwnFields new ts)
    → AreFormedVars (listed new) → SectionsCast rest acts name.own_fields ts (places_of_own_fields new ts d)
own_fields_cast rest acts apart new ts d f before w =
    let t = d.in_front in
    let g = d.behind in
    let end = g.behind.in_front in
    let inner : List Place = places_of_vars section.Static (listed new) g.front g.in_front in
    on (led ts d.front d.back t.token d.parts t.alone) (by b.own_fields_1 b.own_fields_1_body refl
    (then (by b.own_head_1 b.own_head_1_body refl (pass n.struct_word t.token (decl.struct_word t.token t.is)) refl)
    (on (sym g.parts) (then (vars_cast rest acts apart section.Static (listed new) g.front g.in_front f t.token.place [] (group before ∷ w))
    (on (led g.back g.behind.front g.behind.back end.token g.behind.parts end.alone)
    (then (pass n.end_struct end.token (decl.end_struct end.token end.is))
    (maybe_semicolon_cast rest acts g.behind.back (shade end.token.place [] ∷ shade t.token.place inner ∷ group before ∷ w) g.behind.behind)))))) refl)

-- ---- values of data blocks have no part

step_index : (rest : Grammar) (acts : List Action) (e : ExprTree) (place : Place) (ts : List Lexeme) (first : Place) (w : List Shade)
    → SpellsPathStep (index e place) ts → Dims rest acts (Name name.path_step ∷ []) ts (shade first [] ∷ w) (shade first [] ∷ w)
step_index rest acts (lit own value at) place ts first w d =
    let open_ = d.in_front in
    let g = d.behind in
    let end = g.behind in
    let y : Alone rest acts name.integer g.front = numeral_cast rest acts (record { ty = own; value = value; place = at }) g.front g.in_front in
    on (led ts d.front d.back open_.token d.parts open_.alone) (by b.path_step_2 b.path_step_2_body refl
    (then (pass n.bracket_open open_.token (bracket_open_serves open_.token open_.is.is))
    (on (ended d.back g.front g.back end.token g.parts end.alone)
    (then (y.casts (shade open_.token.place [] ∷ shade first [] ∷ w)) (pass n.bracket_close end.token (bracket_close_serves end.token end.is))))) refl)
step_index rest acts (read o) place ts first w d = absurd d.behind.in_front
step_index rest acts (unary op at e) place ts first w d = absurd d.behind.in_front
step_index rest acts (binary op at e f) place ts first w d = absurd d.behind.in_front
step_index rest acts (std f at l) place ts first w d = absurd d.behind.in_front
step_index rest acts (paren at e) place ts first w d = absurd d.behind.in_front

step_cast : (rest : Grammar) (acts : List Action) → AreApart rest → (x : StepTree) (ts : List Lexeme) (first : Place) (w : List Shade)
    → SpellsPathStep x ts → Dims rest acts (Name name.path_step ∷ []) ts (shade first [] ∷ w) (shade first [] ∷ w)
step_cast rest acts apart (index e place) ts first w d = step_index rest acts e place ts first w d
step_cast rest acts apart (field x place) ts first w d =
    let dot = d.in_front in
    let v = d.behind in
    on (sym (d.parts ∙ ap (λ (z : List Lexeme). z ++ d.back) dot.alone ∙ ap (λ (z : List Lexeme). dot.token ∷ z) v.alone))
    (by b.path_step_1 b.path_step_1_body refl (of_expressions (declaration_productions ++ rest) (declaration_actions ++ acts) apart (shade first [] ∷ w) refl
    (field_made (declaration_productions ++ rest) (declaration_actions ++ acts) n.dot dot.token v.token [] x (dot_serves dot.token dot.is) v.is.is)) refl)

path_cast : (rest : Grammar) (acts : List Action) → AreApart rest → (l : StepTrees) (ts : List Lexeme) (first : Place) (w : List Shade)
    → SpellsPathSteps l ts → Dims rest acts (Name name.path_steps ∷ []) ts (shade first [] ∷ w) (shade first [] ∷ w)
path_cast rest acts apart no_steps ts first w d = on (sym d) (by b.path_steps_2 b.path_steps_2_body refl empty refl)
path_cast rest acts apart (steps x l) ts first w d =
    on (sym d.parts) (by b.path_steps_1 b.path_steps_1_body refl
    (then (step_cast rest acts apart x d.front first w d.in_front) (path_cast rest acts apart l d.back first w d.behind)) refl)

value_cast : (rest : Grammar) (acts : List Action) → AreApart rest → (o : OperandTree) (l : Literal) (ts : List Lexeme) (w : List Shade)
    → SpellsDataValue (o, l) ts → IsFormedStart (o, l) → Dims rest acts (Name name.data_value ∷ []) ts (group [] ∷ w) (group [] ∷ w)
value_cast rest acts apart (operand (Named x) path place) l ts w d f = absurd d.in_front.in_front
value_cast rest acts apart (operand (Area its bits byte bit) path place) l ts w d f = absurd d.in_front.in_front
value_cast rest acts apart (operand (Local x true at) path place) l ts w d f = absurd d.in_front.in_front
value_cast rest acts apart (operand (Local x false at) path place) l ts w d f =
    let v = d.in_front in
    let m = d.behind.in_front in
    let g = d.behind.behind in
    let end = g.behind in
    let y : Alone rest acts name.literal g.front = literal_cast rest acts l g.front g.in_front in
    on (sym (d.parts ∙ ap (λ (z : List Lexeme). z ++ d.back) v.parts ∙ append_assoc v.front v.back d.back)) (by b.data_value_1 b.data_value_1_body refl
    (then (word_cast rest acts apart x at v.front (group [] ∷ w) v.in_front.1 f.0)
    (then (path_cast rest acts apart path v.back at (group [] ∷ w) v.behind)
    (on (led d.back d.behind.front d.behind.back m.token d.behind.parts m.alone) (then (pass n.assign m.token (assign_serves m.token m.is))
    (on (ended d.behind.back g.front g.back end.token g.parts end.alone)
    (then (y.casts (shade m.token.place [] ∷ shade at [] ∷ group [] ∷ w)) (pass n.semicolon end.token (decl.semicolon end.token end.is)))))))) refl)

values_cast : (rest : Grammar) (acts : List Action) → AreApart rest → (new : List StartTree) (ts : List Lexeme) (w : List Shade)
    → each SpellsDataValue new ts → All IsFormedStart new → Dims rest acts (Name name.data_values ∷ []) ts (group [] ∷ w) (group [] ∷ w)
values_cast rest acts apart [] ts w d f = on (sym d) (by b.data_values_2 b.data_values_2_body refl empty refl)
values_cast rest acts apart (x ∷ more) ts w d f =
    on (sym d.parts) (by b.data_values_1 b.data_values_1_body refl
    (then (value_cast rest acts apart x.0 x.1 d.front w d.in_front (All-head IsFormedStart x more f))
    (values_cast rest acts apart more d.back w d.behind (All-tail IsFormedStart x more f))) refl)

-- BEGIN of a data block, and its values
pub begun_values_cast : (rest : Grammar) (acts : List Action) → AreApart rest → (new : List StartTree) (ts : List Lexeme) (w : List Shade)
    → (word "BEGIN" ⨾ each SpellsDataValue new) ts → All IsFormedStart new
    → Dims rest acts (Name name.data_head ∷ Name name.data_values ∷ []) ts w (group [] ∷ w)
begun_values_cast rest acts apart new ts w d f =
    let t = d.in_front in
    on (led ts d.front d.back t.token d.parts t.alone)
    (then (by b.data_head_1 b.data_head_1_body refl (pass n.begin_word t.token (decl.begin_word t.token t.is)) refl)
    (values_cast rest acts apart new d.back w d.behind f))

-- ---- blocks

-- at the depth that is too deep the places are those of the parts
abbrev pub Deepens : List Place → List Part → Type 0
Deepens places list = slice_get places most_levels ≡ first_above most_levels list

deepens_both : (xs ys : List Place) (ps qs : List Part) → Deepens xs ps → Deepens ys qs → Deepens (merged xs ys) (ps ++ qs)
deepens_both xs ys ps qs f g =
    get-merged xs ys most_levels ∙ ap (λ (o : Option Place). option_or o (slice_get ys most_levels)) f
    ∙ ap (λ (o : Option Place). option_or (first_above most_levels ps) o) g ∙ sym (above-both most_levels ps qs)

deepens_by : (xs : List Place) (ps : List Part) → Marks xs 0 ps → Deepens xs ps
deepens_by xs ps f = f most_levels (omega arith)

-- the places of what a body is made of
pub record BodyCast (rest : Grammar) (acts : List Action) (y : BodyTree) (ts : List Lexeme) : Type 0 where
  pub places : List Place
  pub casts : (w : List Shade) → Dims rest acts (Name name.body ∷ []) ts w (group places ∷ w)
  pub marks : Marks places 0 (parts_of_body y)

-- what the language says of the bodies of its blocks
pub record BodyCasts (rest : Grammar) (acts : List Action) (l : Language) : Type 0 where
  pub apart : AreApart rest
  pub code : (y : BodyTree) (ts : List Lexeme) → SpellsCode l y ts → IsFormedBody y → BodyCast rest acts y ts
  pub data_of : (v : List StartTree) (ts : List Lexeme) (w : List Shade) → SpellsData l (starts v) ts → All IsFormedStart v
      → Dims rest acts (Name name.data_body ∷ []) ts w (group [] ∷ w)

-- a block with its places
record BlockCast (rest : Grammar) (acts : List Action) (list : List Part) (ts : List Lexeme) : Type 0 where
  places : List Place
  casts : (before : List Place) (w : List Shade) → Dims rest acts (Name name.block ∷ []) ts (group before ∷ w) (group (merged before places) ∷ w)
  deepens : Deepens places list

block_name_cast : (rest : Grammar) (acts : List Action) → AreApart rest → (x : NameOf) (p : Place) (ts : List Lexeme) (w : List Shade) → SpellsName x p ts
    → IsFree x → Dims rest acts (Name name.block_name ∷ []) ts w (group [] ∷ w)
block_name_cast rest acts apart x p ts w d f = by b.block_name_1 b.block_name_1_body refl (name_cast rest acts apart x p ts w d f) refl

value_type_cast : (rest : Grammar) (acts : List Action) (v : Option Ty) (ts : List Lexeme) (c : Place) (w : List Shade) → SpellsValueType v ts
    → Dims rest acts (Name name.value_type ∷ []) ts (shade c [] ∷ group [] ∷ w) (group [] ∷ w)
value_type_cast rest acts None ts c w d =
    on (sym d.alone) (by b.value_type_2 b.value_type_2_body refl (pass n.void_word d.token (decl.void_word d.token d.is)) refl)
value_type_cast rest acts (Some simple) ts c w d =
    on (sym d.alone) (by b.value_type_1 b.value_type_1_body refl (pass n.simple_type d.token (decl.simple_type simple d.token d.is)) refl)

-- sections and a body, one behind the other
code_deepens : (xs ys : List Place) (ps qs : List Part) → Marks xs 0 ps → Marks ys 0 qs → Deepens (all (xs ∷ ys ∷ [])) (ps ++ qs)
code_deepens xs ys ps qs f g = deepens_by (all (xs ∷ ys ∷ [])) (ps ++ qs) (marks_two 0 xs ys ps qs f g)

fb_cast : (rest : Grammar) (acts : List Action) (l : Language) → BodyCasts rest acts l → (x : BlockTree) (ts : List Lexeme)
    (d : (word "FUNCTION_BLOCK" ⨾ SpellsName x.name x.place ⨾ SpellsSections x.vars ⨾ SpellsCode l x.body ⨾ word "END_FUNCTION_BLOCK") ts)
    → IsFormedBlock x → BlockCast rest acts (parts_of_sections d.behind.behind.in_front ++ parts_of_body x.body) ts
fb_cast rest acts l can x ts d f =
    let t = d.in_front in
    let g = d.behind in
    let h = g.behind in
    let o = h.behind in
    let end = o.behind in
    let vars : List Place = places_of_sections h.in_front in
    let y : BodyCast rest acts x.body o.front = can.code x.body o.front o.in_front f.its_body in
    record {
      places = all (vars ∷ y.places ∷ []);
      casts = λ before w.
          let head : List Shade = shade t.token.place [] ∷ group before ∷ w in
          on (led ts d.front d.back t.token d.parts t.alone) (by b.block_1 b.block_1_body refl
          (then (pass n.function_block t.token (decl.function_block t.token t.is)) (on (sym g.parts)
          (then (block_name_cast rest acts can.apart x.name x.place g.front head g.in_front f.its_name) (on (sym h.parts)
          (then (sections_cast rest acts can.apart x.vars h.front h.in_front f.its_vars [] head)
          (on (ended h.back o.front o.back end.token o.parts end.alone)
          (then (y.casts (group vars ∷ head)) (pass n.end_function_block end.token (decl.end_function_block end.token end.is))))))))) refl);
      deepens = code_deepens vars y.places (parts_of_sections h.in_front) (parts_of_body x.body) (marks-sections h.in_front) y.marks;
    }

ob_cast : (rest : Grammar) (acts : List Action) (l : Language) → BodyCasts rest acts l → (x : BlockTree) (ts : List Lexeme)
    (d : (word "ORGANIZATION_BLOCK" ⨾ SpellsName x.name x.place ⨾ SpellsSections x.vars ⨾ SpellsCode l x.body ⨾ word "END_ORGANIZATION_BLOCK") ts)
    → IsFormedBlock x → BlockCast rest acts (parts_of_sections d.behind.behind.in_front ++ parts_of_body x.body) ts
ob_cast rest acts l can x ts d f =
    let t = d.in_front in
    let g = d.behind in
    let h = g.behind in
    let o = h.behind in
    let end = o.behind in
    let vars : List Place = places_of_sections h.in_front in
    let y : BodyCast rest acts x.body o.front = can.code x.body o.front o.in_front f.its_body in
    record {
      places = all (vars ∷ y.places ∷ []);
      casts = λ before w.
          let head : List Shade = shade t.token.place [] ∷ group before ∷ w in
          on (led ts d.front d.back t.token d.parts t.alone) (by b.block_3 b.block_3_body refl
          (then (pass n.organization_block t.token (decl.organization_block t.token t.is)) (on (sym g.parts)
          (then (block_name_cast rest acts can.apart x.name x.place g.front head g.in_front f.its_name) (on (sym h.parts)
          (then (sections_cast rest acts can.apart x.vars h.front h.in_front f.its_vars [] head)
          (on (ended h.back o.front o.back end.token o.parts end.alone)
          (then (y.casts (group vars ∷ head)) (pass n.end_organization_block end.token (decl.end_organization_block end.token end.is))))))))) refl);
      deepens = code_deepens vars y.places (parts_of_sections h.in_front) (parts_of_body x.body) (marks-sections h.in_front) y.marks;
    }

fc_cast : (rest : Grammar) (acts : List Action) (l : Language) → BodyCasts rest acts l → (x : BlockTree) (ts : List Lexeme)
    (d : (word "FUNCTION" ⨾ SpellsName x.name x.place ⨾ sign ":" ⨾ SpellsValueType x.value ⨾ SpellsSections x.vars ⨾ SpellsCode l x.body
    ⨾ word "END_FUNCTION") ts)
    → IsFormedBlock x → BlockCast rest acts (parts_of_sections d.behind.behind.behind.behind.in_front ++ parts_of_body x.body) ts
fc_cast rest acts l can x ts d f =
    let t = d.in_front in
    let g = d.behind in
    let c = g.behind.in_front in
    let u = g.behind.behind in
    let h = u.behind in
    let o = h.behind in
    let end = o.behind in
    let vars : List Place = places_of_sections h.in_front in
    let y : BodyCast rest acts x.body o.front = can.code x.body o.front o.in_front f.its_body in
    record {
      places = all (vars ∷ y.places ∷ []);
      casts = λ before w.
          let head : List Shade = shade t.token.place [] ∷ group before ∷ w in
          on (led ts d.front d.back t.token d.parts t.alone) (by b.block_2 b.block_2_body refl
          (then (pass n.function_word t.token (decl.function_word t.token t.is)) (on (sym g.parts)
          (then (block_name_cast rest acts can.apart x.name x.place g.front head g.in_front f.its_name)
          (on (led g.back g.behind.front g.behind.back c.token g.behind.parts c.alone)
          (then (pass n.colon c.token (decl.colon c.token c.is)) (on (sym u.parts)
          (then (value_type_cast rest acts x.value u.front c.token.place head u.in_front) (on (sym h.parts)
          (then (sections_cast rest acts can.apart x.vars h.front h.in_front f.its_vars [] head)
          (on (ended h.back o.front o.back end.token o.parts end.alone)
          (then (y.casts (group vars ∷ head)) (pass n.end_function end.token (decl.end_function end.token end.is))))))))))))) refl);
      deepens = code_deepens vars y.places (parts_of_sections h.in_front) (parts_of_body x.body) (marks-sections h.in_front) y.marks;
    }

udt_cast : (rest : Grammar) (acts : List Action) (l : Language) → BodyCasts rest acts l → (x : BlockTree) (ts : List Lexeme)
    (d : (word "TYPE" ⨾ SpellsName x.name x.place ⨾ SpellsOwnFields x.vars ⨾ word "END_TYPE") ts) → IsFormedBlock x
    → BlockCast rest acts (parts_of_own_fields x.vars d.behind.behind.front d.behind.behind.in_front) ts
udt_cast rest acts l can x ts d f =
    let t = d.in_front in
    let g = d.behind in
    let h = g.behind in
    let end = h.behind in
    let vars : List Place = places_of_own_fields x.vars h.front h.in_front in
    record {
      places = all (vars ∷ []);
      casts = λ before w.
          let head : List Shade = shade t.token.place [] ∷ group before ∷ w in
          on (led ts d.front d.back t.token d.parts t.alone) (by b.block_5 b.block_5_body refl
          (then (pass n.type_word t.token (decl.type_word t.token t.is)) (on (sym g.parts)
          (then (block_name_cast rest acts can.apart x.name x.place g.front head g.in_front f.its_name)
          (on (ended g.back h.front h.back end.token h.parts end.alone)
          (then (own_fields_cast rest acts can.apart x.vars h.front h.in_front f.its_vars [] head)
          (pass n.end_type end.token (decl.end_type end.token end.is))))))) refl);
      deepens = deepens_by (all (vars ∷ [])) (parts_of_own_fields x.vars h.front h.in_front)
          (marks_one 0 vars (parts_of_own_fields x.vars h.front h.in_front) (marks-own-fields x.vars h.front h.in_front));
    }

-- what a data block is of, or its fields
abbrev places_of_data_type : (of : Option PlacedName) (vars : List VarTree) (ts : List Lexeme) → SpellsDataType of vars ts → List Place
places_of_data_type (Some m) vars ts d = []
places_of_data_type None vars ts d = places_of_own_fields vars ts d

data_type_cast : (rest : Grammar) (acts : List Action) → AreApart rest → (of : Option PlacedName) (vars : List VarTree) (ts : List Lexeme) (w : List Shade)
    (d : SpellsDataType of vars ts) → IsFreeOption of → AreFormedVars (listed vars)
    → Dims rest acts (Name name.data_type ∷ []) ts (group [] ∷ w) (group (places_of_data_type of vars ts d) ∷ w)
data_type_cast rest acts apart None vars ts w d f g = by b.data_type_2 b.data_type_2_body refl (own_fields_cast rest acts apart vars ts d g [] w) refl
data_type_cast rest acts apart (Some m) vars ts w d f g =
    by b.data_type_1 b.data_type_1_body refl (name_cast rest acts apart m.0 m.1 ts (group [] ∷ w) d.1 f) refl

marks-data-type : (of : Option PlacedName) (vars : List VarTree) (ts : List Lexeme) (d : SpellsDataType of vars ts)
    → Marks (places_of_data_type of vars ts d) 0 (parts_of_data_type of vars ts d)
marks-data-type (Some m) vars ts d = λ depth h. refl
marks-data-type None vars ts d = marks-own-fields vars ts d

-- the values of a data block have no part that is too deep
index_flat : (e : ExprTree) (place : Place) (ts : List Lexeme) → SpellsPathStep (index e place) ts
    → first_above most_levels (parts_of_step 0 (index e place)) ≡ None
index_flat (lit own value at) place ts d = refl
index_flat (read o) place ts d = absurd d.behind.in_front
index_flat (unary op at e) place ts d = absurd d.behind.in_front
index_flat (binary op at e f) place ts d = absurd d.behind.in_front
index_flat (std f at l) place ts d = absurd d.behind.in_front
index_flat (paren at e) place ts d = absurd d.behind.in_front

step_flat : (x : StepTree) (ts : List Lexeme) → SpellsPathStep x ts → first_above most_levels (parts_of_step 0 x) ≡ None
step_flat (field x place) ts d = refl
step_flat (index e place) ts d = index_flat e place ts d

both_flat : (ps qs : List Part) → first_above most_levels ps ≡ None → first_above most_levels qs ≡ None → first_above most_levels (ps ++ qs) ≡ None
both_flat ps qs f g =
    above-both most_levels ps qs ∙ ap (λ (o : Option Place). option_or o (first_above most_levels qs)) f ∙ g

path_flat : (l : StepTrees) (ts : List Lexeme) → SpellsPathSteps l ts → first_above most_levels (parts_of_steps 0 l) ≡ None
path_flat no_steps ts d = refl
path_flat (steps x l) ts d = both_flat (parts_of_step 0 x) (parts_of_steps 0 l) (step_flat x d.front d.in_front) (path_flat l d.back d.behind)

value_flat : (o : OperandTree) (l : Literal) (ts : List Lexeme) → SpellsDataValue (o, l) ts → first_above most_levels (parts_of_operand 0 o) ≡ None
value_flat (operand root path place) l ts d = path_flat path d.in_front.back d.in_front.behind

values_flat : (new : List StartTree) (ts : List Lexeme) → each SpellsDataValue new ts → first_above most_levels (parts_of_starts new) ≡ None
values_flat [] ts d = refl
values_flat (x ∷ more) ts d =
    both_flat (parts_of_operand 0 x.0) (parts_of_starts more) (value_flat x.0 x.1 d.front d.in_front) (values_flat more d.back d.behind)

data_flat : (l : Language) (v : List StartTree) (ts : List Lexeme) → SpellsData l (starts v) ts → first_above most_levels (parts_of_starts v) ≡ None
data_flat language.Scl v ts (inl d) = ap (λ (z : List StartTree). first_above most_levels (parts_of_starts z)) d.0
data_flat language.Scl v ts (inr d) = values_flat v d.back d.behind
data_flat language.Stl v ts d = values_flat v d.back d.behind

or_none : (o : Option Place) → o ≡ option_or o None
or_none None = refl
or_none (Some x) = refl

-- fields, and values that don't count
data_deepens : (xs : List Place) (ps qs : List Part) → Marks xs 0 ps → first_above most_levels qs ≡ None → Deepens (all (xs ∷ [])) (ps ++ qs)
data_deepens xs ps qs f g =
    deepens_by (all (xs ∷ [])) ps (marks_one 0 xs ps f) ∙ or_none (first_above most_levels ps)
    ∙ ap (λ (o : Option Place). option_or (first_above most_levels ps) o) (sym g) ∙ sym (above-both most_levels ps qs)

-- the values that are the body of a data block
record Valued (l : Language) (y : BodyTree) (ts : List Lexeme) : Type 0 where
  values : List StartTree
  are : y ≡ starts values
  spelled : SpellsData l (starts values) ts
  formed : All IsFormedStart values

valued : (l : Language) (y : BodyTree) (ts : List Lexeme) → SpellsData l y ts → IsFormedBody y → Valued l y ts
valued l (scl list) ts d f = absurd d
valued l (stl list) ts d f = absurd d
valued l (starts v) ts d f = record { values = v; are = refl; spelled = d; formed = f }

db_cast : (rest : Grammar) (acts : List Action) (l : Language) → BodyCasts rest acts l → (of : Option PlacedName) (x : BlockTree) (ts : List Lexeme)
    (d : (word "DATA_BLOCK" ⨾ SpellsName x.name x.place ⨾ SpellsDataType of x.vars ⨾ SpellsData l x.body ⨾ word "END_DATA_BLOCK") ts)
    → IsFreeOption of → IsFormedBlock x
    → BlockCast rest acts (parts_of_data_type of x.vars d.behind.behind.front d.behind.behind.in_front ++ parts_of_body x.body) ts
db_cast rest acts l can of x ts d free f =
    let t = d.in_front in
    let g = d.behind in
    let h = g.behind in
    let o = h.behind in
    let end = o.behind in
    let y : Valued l x.body o.front = valued l x.body o.front o.in_front f.its_body in
    let vars : List Place = places_of_data_type of x.vars h.front h.in_front in
    record {
      places = all (vars ∷ []);
      casts = λ before w.
          let head : List Shade = shade t.token.place [] ∷ group before ∷ w in
          on (led ts d.front d.back t.token d.parts t.alone) (by b.block_4 b.block_4_body refl
          (then (pass n.data_block t.token (decl.data_block t.token t.is)) (on (sym g.parts)
          (then (block_name_cast rest acts can.apart x.name x.place g.front head g.in_front f.its_name) (on (sym h.parts)
          (then (data_type_cast rest acts can.apart of x.vars h.front head h.in_front free f.its_vars)
          (on (ended h.back o.front o.back end.token o.parts end.alone)
          (then (can.data_of y.values o.front (group vars ∷ head) y.spelled y.formed)
          (pass n.end_data_block end.token (decl.end_data_block end.token end.is))))))))) refl);
      deepens = data_deepens vars (parts_of_data_type of x.vars h.front h.in_front) (parts_of_body x.body)
          (marks-data-type of x.vars h.front h.in_front)
          (ap (λ (z : BodyTree). first_above most_levels (parts_of_body z)) y.are ∙ data_flat l y.values o.front y.spelled);
    }

kind_cast : (rest : Grammar) (acts : List Action) (l : Language) → BodyCasts rest acts l → (k : BlockKind) (x : BlockTree) (ts : List Lexeme)
    (d : SpellsKind l k x ts) → IsFormedKind k → IsFormedBlock x → BlockCast rest acts (parts_of_kind l k x ts d) ts
kind_cast rest acts l can kinds.Fb x ts d g f = fb_cast rest acts l can x ts d.1 f
kind_cast rest acts l can kinds.Fc x ts d g f = fc_cast rest acts l can x ts d f
kind_cast rest acts l can kinds.Ob x ts d g f = ob_cast rest acts l can x ts d.1 f
kind_cast rest acts l can (kinds.Db of) x ts d g f = db_cast rest acts l can of x ts d.1 g f
kind_cast rest acts l can kinds.Udt x ts d g f = udt_cast rest acts l can x ts d.1 f

-- blocks with their places
pub record BlocksCast (rest : Grammar) (acts : List Action) (m : ℕ) (list : List Part) (ts : List Lexeme) : Type 0 where
  pub places : List Place
  pub casts : (before : List Place) (w : List Shade) → Dims rest acts (Name m ∷ []) ts (group before ∷ w) (group (merged before places) ∷ w)
  pub deepens : Deepens places list

blocks_cast : (rest : Grammar) (acts : List Action) (l : Language) → BodyCasts rest acts l → (new : List BlockTree) (ts : List Lexeme)
    (d : each (SpellsBlock l) new ts) → All IsFormedBlock new → BlocksCast rest acts name.blocks (parts_of_blocks l new ts d) ts
blocks_cast rest acts l can [] ts d f = record {
  places = [];
  casts = λ before w. to (ap (λ (z : List Place). group z ∷ w) (sym (merged-nil before))) (on (sym d) (by b.blocks_2 b.blocks_2_body refl empty refl));
  deepens = refl;
}
blocks_cast rest acts l can (x ∷ more) ts d f =
    let h : IsFormedBlock x = All-head IsFormedBlock x more f in
    let first : BlockCast rest acts (parts_of_kind l x.kind x d.front d.in_front) d.front = kind_cast rest acts l can x.kind x d.front d.in_front h.its_kind h in
    let others : BlocksCast rest acts name.blocks (parts_of_blocks l more d.back d.behind) d.back =
    blocks_cast rest acts l can more d.back d.behind (All-tail IsFormedBlock x more f) in
    record {
      places = merged first.places others.places;
      casts = λ before w.
          to (ap (λ (z : List Place). group z ∷ w) (merged-assoc before first.places others.places))
          (on (sym d.parts) (by b.blocks_1 b.blocks_1_body refl
          (then (first.casts before w) (others.casts (merged before first.places) w)) refl));
      deepens = deepens_both first.places others.places (parts_of_kind l x.kind x d.front d.in_front) (parts_of_blocks l more d.back d.behind)
          first.deepens others.deepens;
    }

-- a source, with its places
pub record SourceCast (rest : Grammar) (acts : List Action) (list : List Part) (ts : List Lexeme) : Type 0 where
  pub places : List Place
  pub casts : Dims rest acts (Name name.source ∷ []) ts [] (group places ∷ [])
  pub deepens : Deepens places list

pub source_cast : (rest : Grammar) (acts : List Action) (l : Language) → BodyCasts rest acts l → (new : List BlockTree) (ts : List Lexeme)
    (d : each (SpellsBlock l) new ts) → All IsFormedBlock new → SourceCast rest acts (parts_of_blocks l new ts d) ts
source_cast rest acts l can new ts d f =
    let x : BlocksCast rest acts name.blocks (parts_of_blocks l new ts d) ts = blocks_cast rest acts l can new ts d f in
    record {
      places = x.places;
      casts = by b.source_1 b.source_1_body refl (then (by b.new_source_1 b.new_source_1_body refl empty refl) (x.casts [] [])) refl;
      deepens = x.deepens;
    }
