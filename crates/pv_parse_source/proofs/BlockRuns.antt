-- What spells sections, blocks and the values of data blocks makes them on the stack.
use Rattle.std.proofs.Common.{◌≡◌, ◌⊎◌, inl, inr, ℕ, true, false, List, [], ◌∷◌, ◌++◌, All, Option, Some, None, refl, ap, ◌∙◌, sym, subst}
use Rattle.std.proofs.lemmas.List.{append-nil, append_assoc}
use Rattle.std.proofs.lemmas.List.Elements.{All-head, All-tail}
use Rattle.pv_word.specs.declared.types.Ty.{Ty}
use Rattle.pv_place.specs.declared.place.Place.{Place}
use Rattle.pv_types.specs.declared.name.Name.{Name as NameOf}
use Rattle.pv_types.specs.declared.declaration.Literal.{Literal}
use Rattle.pv_types.specs.declared.declaration.Section.{Section}
use Rattle.pv_types.specs.declared.declaration.Section.TheVariants as section
use Rattle.pv_types.specs.Tree.{TypeTree, plain, VarTree, var}
use Rattle.pv_types.specs.View.{listed, fields_of}
use Rattle.pv_types.proofs.ForCallers.{fields-of-listed}
use Rattle.pv_lex.specs.declared.token.Language.{Language}
use Rattle.pv_ll.specs.declared.table.Symbol.TheVariants.{Name}
use Rattle.pv_ll.specs.Grammar.{Grammar}
use Rattle.pv_tree.specs.declared.expr.Root.TheVariants.{Local, Named, Area}
use Rattle.pv_tree.specs.declared.block.BlockKind.{BlockKind}
use Rattle.pv_tree.specs.declared.block.BlockKind.TheVariants as kinds
use Rattle.pv_tree.specs.Tree.{PlacedName, ExprTree, lit, read, unary, binary, std, paren, OperandTree, operand, StepTree, field, index, StepTrees, no_steps, steps, StartTree, BodyTree, scl, stl, starts, BlockTree}
use Rattle.pv_tree.specs.View.{steps_of, list_of_steps}
use Rattle.pv_tree.specs.Lexemes.{Lexeme, ◌⨾◌, sign, word, maybe, each}
use Rattle.pv_tree.specs.Words.{SpellsName, IsFree}
use Rattle.pv_tree.specs.Literals.{type_alone}
use Rattle.pv_tree.specs.Declarations.{SpellsVars, AreFormedVars, SpellsSectionWord, SpellsConstant, SpellsSection, SpellsSections}
use Rattle.pv_tree.specs.Declarations.SpellsSections.{no_sections, sections}
use Rattle.pv_tree.specs.Blocks.{SpellsPathSteps, SpellsPathStep, SpellsDataValue, IsFormedStart, SpellsCode, SpellsData, SpellsValueType, SpellsOwnFields, SpellsDataType, SpellsKind, SpellsBlock, IsFormedBody, IsFormedKind, IsFormedBlock}
use Rattle.pv_tree.specs.Calls.{IsFreeOption}
use Rattle.pv_parse.specs.declared.action.Action.{Action}
use Rattle.pv_parse.specs.KindNumbers as n
use Rattle.pv_parse.specs.FrontNames as name
use Rattle.pv_parse.specs.FrontBodies as b
use Rattle.pv_parse.specs.Front.{declaration_productions}
use Rattle.pv_parse.specs.Items as i
use Rattle.pv_parse.specs.Items.{Stack, PathTree, HeadTree}
use Rattle.pv_parse.specs.ExprDeeds.{rooted, stepped}
use Rattle.pv_parse.specs.BlockDeeds.{named_block, block_of}
use Rattle.pv_parse.specs.Deeds.{declaration_actions}
use Rattle.pv_parse.proofs.ForCallers.{assign_serves, bracket_close_serves, bracket_open_serves, dot_serves, empty, on, to, then, by, pass, field_made}
use Rattle.pv_parse_source.proofs.DeclKinds as decl
use Rattle.pv_parse_source.proofs.DeclKinds.{Opens}
use Rattle.pv_parse_source.proofs.DeclFacts.{type_is, section_is}
use Rattle.pv_parse_source.proofs.DeclRuns.{Makes, word_runs, name_runs, numeral_runs, literal_runs, can_vars}

-- tokens of which the first is one token
led : (ts us vs : List Lexeme) (t : Lexeme) → ts ≡ us ++ vs → us ≡ t ∷ [] → t ∷ vs ≡ ts
led ts us vs t e f = sym (e ∙ ap (λ (z : List Lexeme). z ++ vs) f)

-- tokens of which the last is one token
ended : (ts us vs : List Lexeme) (t : Lexeme) → ts ≡ us ++ vs → vs ≡ t ∷ [] → us ++ t ∷ [] ≡ ts
ended ts us vs t e f = sym (e ∙ ap (λ (z : List Lexeme). us ++ z) f)

-- ---- constants

-- a list of variables behind others
abbrev Adds : Grammar → List Action → ℕ → List VarTree → List Lexeme → Type 0
Adds rest acts m new ts = (a : Section) (before : List VarTree) (s : Stack)
    → Makes rest acts (Name m ∷ []) ts (i.fields (record { section = a; vars = before }) ∷ s)
    (i.fields (record { section = a; vars = before ++ new }) ∷ s)

constant_run : (rest : Grammar) (acts : List Action) (x : VarTree) (ts : List Lexeme) → SpellsConstant x ts → AreFormedVars (listed (x ∷ []))
    → Adds rest acts name.constant (x ∷ []) ts
constant_run rest acts (var x its t None p) ts d f a before s = absurd d.1
constant_run rest acts (var x its t (Some l) p) ts d f a before s =
    let w = d.1.1 in
    let m = w.behind.in_front in
    let g = w.behind.behind in
    let end = g.behind in
    to (ap (λ (z : Section). i.fields (record { section = a; vars = before ++ (var x z (plain (type_alone l.ty l.value)) (Some l) p ∷ []) }) ∷ s) (sym d.0)
    ∙ ap (λ (z : TypeTree). i.fields (record { section = a; vars = before ++ (var x its z (Some l) p ∷ []) }) ∷ s) (sym d.1.0))
    (on (sym w.parts) (by b.constant_1 b.constant_1_body refl
    (then (word_runs rest acts x p w.front (i.fields (record { section = a; vars = before }) ∷ s) w.in_front f.0)
    (on (led w.back w.behind.front w.behind.back m.token w.behind.parts m.alone) (then (pass n.assign m.token (assign_serves m.token m.is))
    (on (ended w.behind.back g.front g.back end.token g.parts end.alone)
    (then (literal_runs rest acts l g.front (i.token m.token ∷ i.path (rooted (Local x false p) p) ∷ i.fields (record { section = a; vars = before }) ∷ s)
    g.in_front) (pass n.semicolon end.token (decl.semicolon end.token end.is))))))) refl))

constants_run : (rest : Grammar) (acts : List Action) (new : List VarTree) (ts : List Lexeme) → each SpellsConstant new ts → AreFormedVars (listed new)
    → Adds rest acts name.constants new ts
constants_run rest acts [] ts d f a before s =
    to (ap (λ (z : List VarTree). i.fields (record { section = a; vars = z }) ∷ s) (sym (append-nil before)))
    (on (sym d) (by b.constants_2 b.constants_2_body refl empty refl))
constants_run rest acts (var x its t o p ∷ more) ts d f a before s =
    to (ap (λ (z : List VarTree). i.fields (record { section = a; vars = z }) ∷ s) (append_assoc before (var x its t o p ∷ []) more))
    (on (sym d.parts) (by b.constants_1 b.constants_1_body refl
    (then (constant_run rest acts (var x its t o p) d.front d.in_front (f.0, f.1, tt) a before s)
    (constants_run rest acts more d.back d.behind f.2 a (before ++ var x its t o p ∷ []) s)) refl))

-- ---- sections

section_parts : (a : Section) (vars : List VarTree) (ts : List Lexeme) → SpellsSection a vars ts
    → ((SpellsSectionWord a ⨾ SpellsVars a (listed vars) ⨾ word "END_VAR") ts) ⊎ ((word "CONST" ⨾ each SpellsConstant vars ⨾ word "END_CONST") ts)
section_parts section.Input vars ts h = inl h
section_parts section.Output vars ts h = inl h
section_parts section.InOut vars ts h = inl h
section_parts section.Static vars ts h = inl h
section_parts section.Temp vars ts h = inl h
section_parts section.Const vars ts h = inr h

abbrev pub SectionsRun : Grammar → List Action → ℕ → List VarTree → List Lexeme → Type 0
SectionsRun rest acts m new ts = (x : HeadTree) (s : Stack)
    → Makes rest acts (Name m ∷ []) ts (i.heading x ∷ s) (i.heading (record x { vars = x.vars ++ new }) ∷ s)

opened : (a : Section) (ts us : List Lexeme) (t : Lexeme) → SpellsSectionWord a ts → ts ≡ t ∷ [] → SpellsSectionWord a (t ∷ [])
opened a ts us t h e = subst (λ (z : List Lexeme). SpellsSectionWord a z) e h

section_run : (rest : Grammar) (acts : List Action) (a : Section) (new : List VarTree) (ts : List Lexeme) → SpellsSection a new ts
    → AreFormedVars (listed new) → SectionsRun rest acts name.section new ts
section_run rest acts a new ts d f x s =
    elim (section_parts a new ts d) [
      | inl h ↦
          let w : Opens a h.front = decl.section_word a h.front h.in_front in
          let end = h.behind.behind in
          let its = section_is a w.token (opened a h.front h.front w.token h.in_front w.alone) in
          let head : Makes rest acts (Name name.section_head ∷ []) (w.token ∷ []) (i.heading x ∷ s) (i.fields (record { section = a; vars = [] }) ∷ i.heading x ∷ s) =
          to (ap (λ (z : Section). i.fields (record { section = z; vars = [] }) ∷ i.heading x ∷ s) its)
          (by b.section_head_1 b.section_head_1_body refl (pass n.section_word w.token w.serves) refl) in
          to (ap (λ (z : List VarTree). i.heading (record x { vars = x.vars ++ z }) ∷ s) (fields-of-listed new))
          (on (led ts h.front h.back w.token h.parts w.alone) (by b.section_1 b.section_1_body refl
          (then head (on (ended h.back h.behind.front h.behind.back end.token h.behind.parts end.alone)
          (then (can_vars rest acts a (listed new) h.behind.front h.behind.in_front f [] (i.heading x ∷ s))
          (pass n.end_var end.token (decl.end_var end.token end.is))))) refl))
      | inr h ↦
          let w = h.in_front in
          let end = h.behind.behind in
          let head : Makes rest acts (Name name.const_head ∷ []) (w.token ∷ []) (i.heading x ∷ s)
          (i.fields (record { section = section.Const; vars = [] }) ∷ i.heading x ∷ s) =
          by b.const_head_1 b.const_head_1_body refl (pass n.const_word w.token (decl.const_word w.token w.is)) refl in
          on (led ts h.front h.back w.token h.parts w.alone) (by b.section_2 b.section_2_body refl
          (then head (on (ended h.back h.behind.front h.behind.back end.token h.behind.parts end.alone)
          (then (constants_run rest acts new h.behind.front h.behind.in_front f section.Const [] (i.heading x ∷ s))
          (pass n.end_const end.token (decl.end_const end.token end.is))))) refl)
    ]

pub formed_front : (xs ys : List VarTree) → AreFormedVars (listed (xs ++ ys)) → AreFormedVars (listed xs)
formed_front [] ys h = tt
formed_front (var x a t o p ∷ xs) ys h = (h.0, h.1, formed_front xs ys h.2)

pub formed_back : (xs ys : List VarTree) → AreFormedVars (listed (xs ++ ys)) → AreFormedVars (listed ys)
formed_back [] ys h = h
formed_back (var x a t o p ∷ xs) ys h = formed_back xs ys h.2

pub sections_run : (rest : Grammar) (acts : List Action) (new : List VarTree) (ts : List Lexeme) → SpellsSections new ts → AreFormedVars (listed new)
    → SectionsRun rest acts name.sections new ts
sections_run rest acts new ts no_sections f x s =
    to (ap (λ (z : List VarTree). i.heading (record x { vars = z }) ∷ s) (sym (append-nil x.vars)))
    (by b.sections_2 b.sections_2_body refl empty refl)
sections_run rest acts new ts (sections a inner others its front back all h d e p) f x s =
    let whole : AreFormedVars (listed (inner ++ others)) = subst (λ (z : List VarTree). AreFormedVars (listed z)) e f in
    to (ap (λ (z : List VarTree). i.heading (record x { vars = z }) ∷ s) (append_assoc x.vars inner others
    ∙ ap (λ (z : List VarTree). x.vars ++ z) (sym e)))
    (on (sym p) (by b.sections_1 b.sections_1_body refl
    (then (section_run rest acts a inner front h (formed_front inner others whole) x s)
    (sections_run rest acts others back d (formed_back inner others whole) (record x { vars = x.vars ++ inner }) s)) refl))

-- ---- own fields

maybe_semicolon_runs : (rest : Grammar) (acts : List Action) (ts : List Lexeme) (s : Stack) → maybe (sign ";") ts
    → Makes rest acts (Name name.maybe_semicolon ∷ []) ts s s
maybe_semicolon_runs rest acts ts s (inl d) = on (sym d) (by b.maybe_semicolon_2 b.maybe_semicolon_2_body refl empty refl)
maybe_semicolon_runs rest acts ts s (inr d) =
    on (sym d.alone) (by b.maybe_semicolon_1 b.maybe_semicolon_1_body refl (pass n.semicolon d.token (decl.semicolon d.token d.is)) refl)

own_fields_run : (rest : Grammar) (acts : List Action) (new : List VarTree) (ts : List Lexeme) → SpellsOwnFields new ts → AreFormedVars (listed new)
    → SectionsRun rest acts name.own_fields new ts
own_fields_run rest acts new ts d f x s =
    let w = d.in_front in
    let g = d.behind in
    let end = g.behind.in_front in
    to (ap (λ (z : List VarTree). i.heading (record x { vars = x.vars ++ z }) ∷ s) (fields-of-listed new))
    (on (led ts d.front d.back w.token d.parts w.alone) (by b.own_fields_1 b.own_fields_1_body refl
    (then (by b.own_head_1 b.own_head_1_body refl (pass n.struct_word w.token (decl.struct_word w.token w.is)) refl)
    (on (sym g.parts) (then (can_vars rest acts section.Static (listed new) g.front g.in_front f [] (i.heading x ∷ s))
    (on (led g.back g.behind.front g.behind.back end.token g.behind.parts end.alone)
    (then (pass n.end_struct end.token (decl.end_struct end.token end.is))
    (maybe_semicolon_runs rest acts g.behind.back (i.token end.token ∷ i.fields (record { section = section.Static; vars = [] ++ fields_of (listed new) })
    ∷ i.heading x ∷ s) g.behind.behind)))))) refl))

-- ---- values of data blocks

step_index : (rest : Grammar) (acts : List Action) (e : ExprTree) (place : Place) (ts : List Lexeme) (p : PathTree) (s : Stack)
    → SpellsPathStep (index e place) ts → Makes rest acts (Name name.path_step ∷ []) ts (i.path p ∷ s) (i.path (stepped p (index e place)) ∷ s)
step_index rest acts (lit own value at) place ts p s d =
    let open_ = d.in_front in
    let g = d.behind in
    let end = g.behind in
    to (ap (λ (z : Place). i.path (stepped p (index (lit own value at) z)) ∷ s) open_.is.at)
    (on (led ts d.front d.back open_.token d.parts open_.alone) (by b.path_step_2 b.path_step_2_body refl
    (then (pass n.bracket_open open_.token (bracket_open_serves open_.token open_.is.is))
    (on (ended d.back g.front g.back end.token g.parts end.alone)
    (then (numeral_runs rest acts (record { ty = own; value = value; place = at }) g.front (i.token open_.token ∷ i.path p ∷ s) g.in_front)
    (pass n.bracket_close end.token (bracket_close_serves end.token end.is))))) refl))
step_index rest acts (read o) place ts p s d = absurd d.behind.in_front
step_index rest acts (unary op at e) place ts p s d = absurd d.behind.in_front
step_index rest acts (binary op at e f) place ts p s d = absurd d.behind.in_front
step_index rest acts (std f at l) place ts p s d = absurd d.behind.in_front
step_index rest acts (paren at e) place ts p s d = absurd d.behind.in_front

step_run : (rest : Grammar) (acts : List Action) (x : StepTree) (ts : List Lexeme) (p : PathTree) (s : Stack) → SpellsPathStep x ts
    → Makes rest acts (Name name.path_step ∷ []) ts (i.path p ∷ s) (i.path (stepped p x) ∷ s)
step_run rest acts (index e place) ts p s d = step_index rest acts e place ts p s d
step_run rest acts (field x place) ts p s d =
    let dot = d.in_front in
    let w = d.behind in
    to (ap (λ (z : NameOf). i.path (stepped p (field z w.token.place)) ∷ s) (sym w.is.is.names)
    ∙ ap (λ (z : Place). i.path (stepped p (field x z)) ∷ s) w.is.at)
    (on (sym (d.parts ∙ ap (λ (z : List Lexeme). z ++ d.back) dot.alone ∙ ap (λ (z : List Lexeme). dot.token ∷ z) w.alone))
    (by b.path_step_1 b.path_step_1_body refl (field_made (declaration_productions ++ rest) (declaration_actions ++ acts) n.dot dot.token w.token (i.path p ∷ s) x
    (dot_serves dot.token dot.is) w.is.is) refl))

path_run : (rest : Grammar) (acts : List Action) (l : StepTrees) (ts : List Lexeme) (p : PathTree) (s : Stack) → SpellsPathSteps l ts
    → Makes rest acts (Name name.path_steps ∷ []) ts (i.path p ∷ s) (i.path (record p { steps = p.steps ++ list_of_steps l }) ∷ s)
path_run rest acts no_steps ts p s d =
    to (ap (λ (z : List StepTree). i.path (record p { steps = z }) ∷ s) (sym (append-nil p.steps)))
    (on (sym d) (by b.path_steps_2 b.path_steps_2_body refl empty refl))
path_run rest acts (steps x l) ts p s d =
    to (ap (λ (z : List StepTree). i.path (record p { steps = z }) ∷ s) (append_assoc p.steps (x ∷ []) (list_of_steps l)))
    (on (sym d.parts) (by b.path_steps_1 b.path_steps_1_body refl
    (then (step_run rest acts x d.front p s d.in_front) (path_run rest acts l d.back (stepped p x) s d.behind)) refl))

steps_back : (l : StepTrees) → steps_of (list_of_steps l) ≡ l
steps_back no_steps = refl
steps_back (steps x l) = ap (λ (z : StepTrees). steps x z) (steps_back l)

abbrev ValuesRun : Grammar → List Action → ℕ → List StartTree → List Lexeme → Type 0
ValuesRun rest acts m new ts = (before : List StartTree) (s : Stack)
    → Makes rest acts (Name m ∷ []) ts (i.values before ∷ s) (i.values (before ++ new) ∷ s)

value_run : (rest : Grammar) (acts : List Action) (o : OperandTree) (l : Literal) (ts : List Lexeme) → SpellsDataValue (o, l) ts → IsFormedStart (o, l)
    → ValuesRun rest acts name.data_value ((o, l) ∷ []) ts
value_run rest acts (operand (Named x) path place) l ts d f before s = absurd d.in_front.in_front
value_run rest acts (operand (Area its bits byte bit) path place) l ts d f before s = absurd d.in_front.in_front
value_run rest acts (operand (Local x true at) path place) l ts d f before s = absurd d.in_front.in_front
value_run rest acts (operand (Local x false at) path place) l ts d f before s =
    let w = d.in_front in
    let m = d.behind.in_front in
    let g = d.behind.behind in
    let end = g.behind in
    to (ap (λ (z : StepTrees). i.values (before ++ (operand (Local x false at) z at, l) ∷ []) ∷ s) (steps_back path)
    ∙ ap (λ (z : Place). i.values (before ++ (operand (Local x false at) path z, l) ∷ []) ∷ s) (sym w.in_front.0))
    (on (sym (d.parts ∙ ap (λ (z : List Lexeme). z ++ d.back) w.parts ∙ append_assoc w.front w.back d.back)) (by b.data_value_1 b.data_value_1_body refl
    (then (word_runs rest acts x at w.front (i.values before ∷ s) w.in_front.1 f.0)
    (then (path_run rest acts path w.back (rooted (Local x false at) at) (i.values before ∷ s) w.behind)
    (on (led d.back d.behind.front d.behind.back m.token d.behind.parts m.alone) (then (pass n.assign m.token (assign_serves m.token m.is))
    (on (ended d.behind.back g.front g.back end.token g.parts end.alone)
    (then (literal_runs rest acts l g.front (i.token m.token ∷ i.path (record { root = Local x false at; steps = [] ++ list_of_steps path; place = at })
    ∷ i.values before ∷ s) g.in_front) (pass n.semicolon end.token (decl.semicolon end.token end.is)))))))) refl))

pub values_run : (rest : Grammar) (acts : List Action) (new : List StartTree) (ts : List Lexeme) → each SpellsDataValue new ts → All IsFormedStart new
    → ValuesRun rest acts name.data_values new ts
values_run rest acts [] ts d f before s =
    to (ap (λ (z : List StartTree). i.values z ∷ s) (sym (append-nil before))) (on (sym d) (by b.data_values_2 b.data_values_2_body refl empty refl))
values_run rest acts (x ∷ more) ts d f before s =
    to (ap (λ (z : List StartTree). i.values z ∷ s) (append_assoc before (x ∷ []) more))
    (on (sym d.parts) (by b.data_values_1 b.data_values_1_body refl
    (then (value_run rest acts x.0 x.1 d.front d.in_front (All-head IsFormedStart x more f) before s)
    (values_run rest acts more d.back d.behind (All-tail IsFormedStart x more f) (before ++ x ∷ []) s)) refl))

-- BEGIN of a data block, and its values
pub begun_values_run : (rest : Grammar) (acts : List Action) (new : List StartTree) (ts : List Lexeme) (s : Stack)
    → (word "BEGIN" ⨾ each SpellsDataValue new) ts → All IsFormedStart new
    → Makes rest acts (Name name.data_head ∷ Name name.data_values ∷ []) ts s (i.values new ∷ s)
begun_values_run rest acts new ts s d f =
    let w = d.in_front in
    on (led ts d.front d.back w.token d.parts w.alone)
    (then (by b.data_head_1 b.data_head_1_body refl (pass n.begin_word w.token (decl.begin_word w.token w.is)) refl)
    (values_run rest acts new d.back d.behind f [] s))

-- ---- blocks

-- what the language says of the bodies of its blocks
pub record Bodies (rest : Grammar) (acts : List Action) (l : Language) : Type 0 where
  pub code : (y : BodyTree) (ts : List Lexeme) (s : Stack) → SpellsCode l y ts → IsFormedBody y → Makes rest acts (Name name.body ∷ []) ts s (i.body y ∷ s)
  pub data_of : (v : List StartTree) (ts : List Lexeme) (s : Stack) → SpellsData l (starts v) ts → All IsFormedStart v
      → Makes rest acts (Name name.data_body ∷ []) ts s (i.values v ∷ s)

abbrev BlockRuns : Grammar → List Action → BlockTree → List Lexeme → Type 0
BlockRuns rest acts x ts = (before : List BlockTree) (s : Stack)
    → Makes rest acts (Name name.block ∷ []) ts (i.blocks before ∷ s) (i.blocks (before ++ x ∷ []) ∷ s)

block_name_run : (rest : Grammar) (acts : List Action) (x : NameOf) (p : Place) (ts : List Lexeme) (s : Stack) → SpellsName x p ts → IsFree x
    → Makes rest acts (Name name.block_name ∷ []) ts s (i.heading (named_block (x, p)) ∷ s)
block_name_run rest acts x p ts s d f = by b.block_name_1 b.block_name_1_body refl (name_runs rest acts x p ts s d f) refl

value_type_run : (rest : Grammar) (acts : List Action) (v : Option Ty) (ts : List Lexeme) (c : Lexeme) (x : HeadTree) (s : Stack) → SpellsValueType v ts
    → Makes rest acts (Name name.value_type ∷ []) ts (i.token c ∷ i.heading x ∷ s) (i.heading (record x { value = v }) ∷ s)
value_type_run rest acts None ts c x s d =
    on (sym d.alone) (by b.value_type_2 b.value_type_2_body refl (pass n.void_word d.token (decl.void_word d.token d.is)) refl)
value_type_run rest acts (Some simple) ts c x s d =
    to (ap (λ (z : Ty). i.heading (record x { value = Some z }) ∷ s) (type_is simple d.token d.is))
    (on (sym d.alone) (by b.value_type_1 b.value_type_1_body refl (pass n.simple_type d.token (decl.simple_type simple d.token d.is)) refl))

-- the block that the kind, the heading and the body make is this one
of_value : (s : Stack) (before : List BlockTree) (k : BlockKind) (x : BlockTree) → x.kind ≡ k → x.value ≡ None
    → ◌≡◌ {A = Stack} (i.blocks (before ++ block_of k (record { name = x.name; place = x.place; vars = x.vars; value = None; of = None }) x.body ∷ []) ∷ s)
    (i.blocks (before ++ x ∷ []) ∷ s)
of_value s before k x e f =
    ap (λ (z : BlockKind). i.blocks (before ++ record { kind = z; name = x.name; vars = x.vars; value = None; body = x.body; place = x.place } ∷ []) ∷ s) (sym e)
    ∙ ap (λ (z : Option Ty). i.blocks (before ++ record { kind = x.kind; name = x.name; vars = x.vars; value = z; body = x.body; place = x.place } ∷ []) ∷ s)
    (sym f)

fb_run : (rest : Grammar) (acts : List Action) (l : Language) → Bodies rest acts l → (x : BlockTree) (ts : List Lexeme) → x.kind ≡ kinds.Fb
    → (d : (word "FUNCTION_BLOCK" ⨾ SpellsName x.name x.place ⨾ SpellsSections x.vars ⨾ SpellsCode l x.body ⨾ word "END_FUNCTION_BLOCK") ts) → x.value ≡ None
    → IsFormedBlock x → BlockRuns rest acts x ts
fb_run rest acts l can x ts k d v f before s =
    let w = d.in_front in
    let g = d.behind in
    let h = g.behind in
    let o = h.behind in
    let end = o.behind in
    let head : Stack = i.token w.token ∷ i.blocks before ∷ s in
    let y : HeadTree = record { name = x.name; place = x.place; vars = x.vars; value = None; of = None } in
    to (of_value s before kinds.Fb x k v)
    (on (led ts d.front d.back w.token d.parts w.alone) (by b.block_1 b.block_1_body refl
    (then (pass n.function_block w.token (decl.function_block w.token w.is)) (on (sym g.parts)
    (then (block_name_run rest acts x.name x.place g.front head g.in_front f.its_name) (on (sym h.parts)
    (then (sections_run rest acts x.vars h.front h.in_front f.its_vars (named_block (x.name, x.place)) head)
    (on (ended h.back o.front o.back end.token o.parts end.alone)
    (then (can.code x.body o.front (i.heading y ∷ head) o.in_front f.its_body) (pass n.end_function_block end.token (decl.end_function_block end.token end.is))))))))) refl))

ob_run : (rest : Grammar) (acts : List Action) (l : Language) → Bodies rest acts l → (x : BlockTree) (ts : List Lexeme) → x.kind ≡ kinds.Ob
    → (d : (word "ORGANIZATION_BLOCK" ⨾ SpellsName x.name x.place ⨾ SpellsSections x.vars ⨾ SpellsCode l x.body ⨾ word "END_ORGANIZATION_BLOCK") ts) → x.value ≡ None
    → IsFormedBlock x → BlockRuns rest acts x ts
ob_run rest acts l can x ts k d v f before s =
    let w = d.in_front in
    let g = d.behind in
    let h = g.behind in
    let o = h.behind in
    let end = o.behind in
    let head : Stack = i.token w.token ∷ i.blocks before ∷ s in
    let y : HeadTree = record { name = x.name; place = x.place; vars = x.vars; value = None; of = None } in
    to (of_value s before kinds.Ob x k v)
    (on (led ts d.front d.back w.token d.parts w.alone) (by b.block_3 b.block_3_body refl
    (then (pass n.organization_block w.token (decl.organization_block w.token w.is)) (on (sym g.parts)
    (then (block_name_run rest acts x.name x.place g.front head g.in_front f.its_name) (on (sym h.parts)
    (then (sections_run rest acts x.vars h.front h.in_front f.its_vars (named_block (x.name, x.place)) head)
    (on (ended h.back o.front o.back end.token o.parts end.alone)
    (then (can.code x.body o.front (i.heading y ∷ head) o.in_front f.its_body) (pass n.end_organization_block end.token (decl.end_organization_block end.token end.is))))))))) refl))

fc_run : (rest : Grammar) (acts : List Action) (l : Language) → Bodies rest acts l → (x : BlockTree) (ts : List Lexeme) → x.kind ≡ kinds.Fc
    → (d : (word "FUNCTION" ⨾ SpellsName x.name x.place ⨾ sign ":" ⨾ SpellsValueType x.value ⨾ SpellsSections x.vars ⨾ SpellsCode l x.body
    ⨾ word "END_FUNCTION") ts) → IsFormedBlock x → BlockRuns rest acts x ts
fc_run rest acts l can x ts k d f before s =
    let w = d.in_front in
    let g = d.behind in
    let c = g.behind.in_front in
    let u = g.behind.behind in
    let h = u.behind in
    let o = h.behind in
    let end = o.behind in
    let head : Stack = i.token w.token ∷ i.blocks before ∷ s in
    let valued : HeadTree = record { name = x.name; place = x.place; vars = []; value = x.value; of = None } in
    let y : HeadTree = record { name = x.name; place = x.place; vars = x.vars; value = x.value; of = None } in
    to (ap (λ (z : BlockKind). i.blocks (before ++ record { kind = z; name = x.name; vars = x.vars; value = x.value; body = x.body; place = x.place } ∷ []) ∷ s)
    (sym k))
    (on (led ts d.front d.back w.token d.parts w.alone) (by b.block_2 b.block_2_body refl
    (then (pass n.function_word w.token (decl.function_word w.token w.is)) (on (sym g.parts)
    (then (block_name_run rest acts x.name x.place g.front head g.in_front f.its_name)
    (on (led g.back g.behind.front g.behind.back c.token g.behind.parts c.alone)
    (then (pass n.colon c.token (decl.colon c.token c.is)) (on (sym u.parts)
    (then (value_type_run rest acts x.value u.front c.token (named_block (x.name, x.place)) head u.in_front) (on (sym h.parts)
    (then (sections_run rest acts x.vars h.front h.in_front f.its_vars valued head)
    (on (ended h.back o.front o.back end.token o.parts end.alone)
    (then (can.code x.body o.front (i.heading y ∷ head) o.in_front f.its_body)
    (pass n.end_function end.token (decl.end_function end.token end.is))))))))))))) refl))

udt_run : (rest : Grammar) (acts : List Action) (x : BlockTree) (ts : List Lexeme) → x.kind ≡ kinds.Udt → x.value ≡ None → x.body ≡ starts []
    → (d : (word "TYPE" ⨾ SpellsName x.name x.place ⨾ SpellsOwnFields x.vars ⨾ word "END_TYPE") ts) → IsFormedBlock x → BlockRuns rest acts x ts
udt_run rest acts x ts k v y d f before s =
    let w = d.in_front in
    let g = d.behind in
    let h = g.behind in
    let end = h.behind in
    let head : Stack = i.token w.token ∷ i.blocks before ∷ s in
    to (ap (λ (z : BodyTree). i.blocks (before ++ record { kind = kinds.Udt; name = x.name; vars = x.vars; value = None; body = z; place = x.place } ∷ []) ∷ s)
    (sym y) ∙ of_value s before kinds.Udt x k v)
    (on (led ts d.front d.back w.token d.parts w.alone) (by b.block_5 b.block_5_body refl
    (then (pass n.type_word w.token (decl.type_word w.token w.is)) (on (sym g.parts)
    (then (block_name_run rest acts x.name x.place g.front head g.in_front f.its_name)
    (on (ended g.back h.front h.back end.token h.parts end.alone)
    (then (own_fields_run rest acts x.vars h.front h.in_front f.its_vars (named_block (x.name, x.place)) head)
    (pass n.end_type end.token (decl.end_type end.token end.is))))))) refl))

-- what a data block is of, or its fields
data_type_run : (rest : Grammar) (acts : List Action) (of : Option PlacedName) (vars : List VarTree) (ts : List Lexeme) (x : PlacedName) (s : Stack)
    → SpellsDataType of vars ts → IsFreeOption of → AreFormedVars (listed vars)
    → Makes rest acts (Name name.data_type ∷ []) ts (i.heading (named_block x) ∷ s)
    (i.heading (record { name = x.0; place = x.1; vars = vars; value = None; of = of }) ∷ s)
data_type_run rest acts None vars ts x s d f g =
    by b.data_type_2 b.data_type_2_body refl (own_fields_run rest acts vars ts d g (named_block x) s) refl
data_type_run rest acts (Some m) vars ts x s d f g =
    to (ap (λ (z : List VarTree). i.heading (record { name = x.0; place = x.1; vars = z; value = None; of = Some m }) ∷ s) (sym d.0))
    (by b.data_type_1 b.data_type_1_body refl (name_runs rest acts m.0 m.1 ts (i.heading (named_block x) ∷ s) d.1 f) refl)

-- the values that are the body of a data block
record Valued (l : Language) (y : BodyTree) (ts : List Lexeme) : Type 0 where
  values : List StartTree
  are : y ≡ starts values
  spelled : SpellsData l (starts values) ts
  formed : All IsFormedStart values

valued : (l : Language) (y : BodyTree) (ts : List Lexeme) → SpellsData l y ts → IsFormedBody y → Valued l y ts
valued l (scl list) ts d f = absurd d
valued l (stl list) ts d f = absurd d
valued l (starts v) ts d f = record { values = v; are = refl; spelled = d; formed = f }

db_run : (rest : Grammar) (acts : List Action) (l : Language) → Bodies rest acts l → (of : Option PlacedName) (x : BlockTree) (ts : List Lexeme)
    → x.kind ≡ kinds.Db of → x.value ≡ None
    → (d : (word "DATA_BLOCK" ⨾ SpellsName x.name x.place ⨾ SpellsDataType of x.vars ⨾ SpellsData l x.body ⨾ word "END_DATA_BLOCK") ts)
    → IsFreeOption of → IsFormedBlock x → BlockRuns rest acts x ts
db_run rest acts l can of x ts k v d free f before s =
    let w = d.in_front in
    let g = d.behind in
    let h = g.behind in
    let o = h.behind in
    let end = o.behind in
    let y : Valued l x.body o.front = valued l x.body o.front o.in_front f.its_body in
    let head : Stack = i.token w.token ∷ i.blocks before ∷ s in
    let whole : HeadTree = record { name = x.name; place = x.place; vars = x.vars; value = None; of = of } in
    to (ap (λ (z : BodyTree). i.blocks (before ++ record { kind = kinds.Db of; name = x.name; vars = x.vars; value = None; body = z; place = x.place } ∷ []) ∷ s)
    (sym y.are) ∙ of_value s before (kinds.Db of) x k v)
    (on (led ts d.front d.back w.token d.parts w.alone) (by b.block_4 b.block_4_body refl
    (then (pass n.data_block w.token (decl.data_block w.token w.is)) (on (sym g.parts)
    (then (block_name_run rest acts x.name x.place g.front head g.in_front f.its_name) (on (sym h.parts)
    (then (data_type_run rest acts of x.vars h.front (x.name, x.place) head h.in_front free f.its_vars)
    (on (ended h.back o.front o.back end.token o.parts end.alone)
    (then (can.data_of y.values o.front (i.heading whole ∷ head) y.spelled y.formed)
    (pass n.end_data_block end.token (decl.end_data_block end.token end.is))))))))) refl))

kind_run : (rest : Grammar) (acts : List Action) (l : Language) → Bodies rest acts l → (k : BlockKind) (x : BlockTree) (ts : List Lexeme) → x.kind ≡ k
    → SpellsKind l k x ts → IsFormedKind k → IsFormedBlock x → BlockRuns rest acts x ts
kind_run rest acts l can kinds.Fb x ts k d g f = fb_run rest acts l can x ts k d.1 d.0 f
kind_run rest acts l can kinds.Fc x ts k d g f = fc_run rest acts l can x ts k d f
kind_run rest acts l can kinds.Ob x ts k d g f = ob_run rest acts l can x ts k d.1 d.0 f
kind_run rest acts l can (kinds.Db of) x ts k d g f = db_run rest acts l can of x ts k d.0 d.1 g f
kind_run rest acts l can kinds.Udt x ts k d g f = udt_run rest acts x ts k d.0.0 d.0.1 d.1 f

pub blocks_run : (rest : Grammar) (acts : List Action) (l : Language) → Bodies rest acts l → (new : List BlockTree) (ts : List Lexeme)
    → each (SpellsBlock l) new ts → All IsFormedBlock new → (before : List BlockTree) (s : Stack)
    → Makes rest acts (Name name.blocks ∷ []) ts (i.blocks before ∷ s) (i.blocks (before ++ new) ∷ s)
blocks_run rest acts l can [] ts d f before s =
    to (ap (λ (z : List BlockTree). i.blocks z ∷ s) (sym (append-nil before))) (on (sym d) (by b.blocks_2 b.blocks_2_body refl empty refl))
blocks_run rest acts l can (x ∷ more) ts d f before s =
    let h : IsFormedBlock x = All-head IsFormedBlock x more f in
    to (ap (λ (z : List BlockTree). i.blocks z ∷ s) (append_assoc before (x ∷ []) more))
    (on (sym d.parts) (by b.blocks_1 b.blocks_1_body refl
    (then (kind_run rest acts l can x.kind x d.front refl d.in_front h.its_kind h before s)
    (blocks_run rest acts l can more d.back d.behind (All-tail IsFormedBlock x more f) (before ++ x ∷ []) s)) refl))

-- a source
pub source_run : (rest : Grammar) (acts : List Action) (l : Language) → Bodies rest acts l → (all : List BlockTree) (ts : List Lexeme)
    → each (SpellsBlock l) all ts → All IsFormedBlock all → (s : Stack) → Makes rest acts (Name name.source ∷ []) ts s (i.blocks all ∷ s)
source_run rest acts l can all ts d f s =
    by b.source_1 b.source_1_body refl (then (by b.new_source_1 b.new_source_1_body refl empty refl) (blocks_run rest acts l can all ts d f [] s)) refl
