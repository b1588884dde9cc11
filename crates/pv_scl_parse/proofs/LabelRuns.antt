-- Labels of CASE, made of what spells them.
use Rattle.std.proofs.Common.{◌≡◌, List, [], ◌∷◌, ◌++◌, All, Option, Some, None, refl, ap, ◌∙◌, sym}
use Rattle.std.proofs.lemmas.List.{append-nil, append_assoc}
use Rattle.std.proofs.lemmas.List.Elements.{All-head, All-tail}
use Rattle.pv_types.specs.declared.declaration.Literal.{Literal}
use Rattle.pv_ll.specs.declared.table.Symbol.TheVariants.{Name}
use Rattle.pv_tree.specs.declared.stmt.Choice.{Choice}
use Rattle.pv_tree.specs.declared.stmt.Choice.TheVariants as of
use Rattle.pv_tree.specs.Tree.{Choices, StmtTree}
use Rattle.pv_tree.specs.Lexemes.{Lexeme, IsSign, ◌⨾◌, sign, listed, each_behind}
use Rattle.pv_tree.specs.Literals.{SpellsLiteral}
use Rattle.pv_tree.specs.Statements.{SpellsChoice, SpellsUpTo, SpellsRange, IsFormedChoice, IsFormedUpTo, IsFormedRange}
use Rattle.pv_parse.specs.KindNumbers as n
use Rattle.pv_parse.specs.FrontNames as f
use Rattle.pv_parse.specs.CodeItems.{BranchTree, statements, choice, choices, cases}
use Rattle.pv_parse.specs.Items.{Stack, token, literal, code}
use Rattle.pv_parse.proofs.ForCallers.{empty, on, to, then, by, pass, name_made, closed}
use Rattle.pv_scl_parse.specs.OwnNames as o
use Rattle.pv_scl_parse.specs.OwnBodies as b
use Rattle.pv_scl_parse.proofs.Serving as kind
use Rattle.pv_scl_parse.proofs.Got.{others, other_acts, Got}

-- a literal is made of each spelling of it
abbrev pub LiteralsMade : Type 0
LiteralsMade = (l : Literal) (ts : List Lexeme) → SpellsLiteral l ts → (s : Stack) → Got (Name f.literal ∷ []) ts s (literal l ∷ s)

-- ---- values

choice_made : LiteralsMade → (x : Choice) (ts : List Lexeme) → SpellsChoice x ts → IsFormedChoice x → (s : Stack)
    → Got (Name o.choice ∷ []) ts s (code (choice x) ∷ s)
choice_made lit (of.Lit l) ts d c s =
    by b.choice_1 b.choice_1_body refl (by b.literal_choice_1 b.literal_choice_1_body refl (lit l ts d s) refl) refl
choice_made lit (of.Const x at) ts d c s =
    on (append-nil ts) (by b.choice_2 b.choice_2_body refl (then (name_made others other_acts x at ts d c s)
    (by b.word_choice_1 b.word_choice_1_body refl empty refl)) refl)

-- the upper end of the first value's range
first_made : LiteralsMade → (x : Choice) (upper : Option Choice) (ts : List Lexeme) → SpellsUpTo upper ts → IsFormedUpTo upper → (s : Stack)
    → Got (Name o.first_range ∷ []) ts (code (choice x) ∷ s) (code (choices ((x, upper) ∷ [])) ∷ s)
first_made lit x None ts d c s = on (sym d) (by b.first_range_2 b.first_range_2_body refl empty refl)
first_made lit x (Some y) ts d c s =
    let dots = d.in_front in
    on (sym (d.parts ∙ ap (λ (z : List Lexeme). z ++ d.back) dots.alone)) (by b.first_range_1 b.first_range_1_body refl
    (then (pass n.dots dots.token (kind.dots dots.token dots.is)) (choice_made lit y d.back d.behind c (token dots.token ∷ code (choice x) ∷ s))) refl)

-- that of a further one, behind its comma
next_made : LiteralsMade → (x : Choice) (upper : Option Choice) (t : Lexeme) (before : Choices) (ts : List Lexeme) → SpellsUpTo upper ts → IsFormedUpTo upper
    → (s : Stack) → Got (Name o.next_range ∷ []) ts (code (choice x) ∷ token t ∷ code (choices before) ∷ s) (code (choices (before ++ (x, upper) ∷ [])) ∷ s)
next_made lit x None t before ts d c s = on (sym d) (by b.next_range_2 b.next_range_2_body refl empty refl)
next_made lit x (Some y) t before ts d c s =
    let dots = d.in_front in
    on (sym (d.parts ∙ ap (λ (z : List Lexeme). z ++ d.back) dots.alone)) (by b.next_range_1 b.next_range_1_body refl
    (then (pass n.dots dots.token (kind.dots dots.token dots.is))
    (choice_made lit y d.back d.behind c (token dots.token ∷ code (choice x) ∷ token t ∷ code (choices before) ∷ s))) refl)

more_made : LiteralsMade → (l : Choices) (ts : List Lexeme) → each_behind SpellsRange l ts → All IsFormedRange l → (before : Choices) (s : Stack)
    → Got (Name o.more_choices ∷ []) ts (code (choices before) ∷ s) (code (choices (before ++ l)) ∷ s)
more_made lit [] ts d c before s =
    on (sym d) (to (ap (λ (z : Choices). code (choices z) ∷ s) (sym (append-nil before))) (by b.more_choices_2 b.more_choices_2_body refl empty refl))
more_made lit (range ∷ l) ts d c before s =
    let comma = d.in_front in
    let r = d.behind.in_front in
    let own : IsFormedRange range = All-head IsFormedRange range l c in
    to (ap (λ (z : Choices). code (choices z) ∷ s) (append_assoc before (range ∷ []) l))
    (on (sym (d.parts ∙ ap (λ (z : List Lexeme). z ++ d.back) comma.alone ∙ ap (λ (z : List Lexeme). comma.token ∷ z) (d.behind.parts
    ∙ ap (λ (z : List Lexeme). z ++ d.behind.back) r.parts)))
    (by b.more_choices_1 b.more_choices_1_body refl (then (by b.next_choice_1 b.next_choice_1_body refl
    (then (pass n.comma comma.token (kind.comma comma.token comma.is)) (then (choice_made lit range.0 r.front r.in_front own.0 (token comma.token ∷ code (choices before) ∷ s))
    (next_made lit range.0 range.1 comma.token before r.back r.behind own.1 s))) refl)
    (more_made lit l d.behind.back d.behind.behind (All-tail IsFormedRange range l c) (before ++ range ∷ []) s)) refl))

-- ---- labels

-- a label behind its first value
rest_made : LiteralsMade → (range : Choice × Option Choice) (l : Choices) (us vs ts : List Lexeme) (t : Lexeme) → SpellsUpTo range.1 us → IsFormedUpTo range.1
    → each_behind SpellsRange l vs → All IsFormedRange l → IsSign ":" t → ts ≡ us ++ (vs ++ t ∷ []) → (s : Stack)
    → Got (Name o.label_rest ∷ []) ts (code (choice range.0) ∷ s) (code (choices (range ∷ l)) ∷ s)
rest_made lit range l us vs ts t d c e g i q s =
    on (sym q) (by b.label_rest_1 b.label_rest_1_body refl (then (first_made lit range.0 range.1 us d c s)
    (then (more_made lit l vs e g (range ∷ []) s) (pass n.colon t (kind.colon t i)))) refl)

-- the parts of a label
pub record Parts (c : Choices) (ts : List Lexeme) : Type 0 where
  pub range : Choice × Option Choice
  pub l : Choices
  pub is : c ≡ range ∷ l
  pub first : List Lexeme
  pub behind : List Lexeme
  pub parts : ts ≡ first ++ behind
  pub spells : SpellsChoice range.0 first
  pub formed : IsFormedChoice range.0
  pub rest : (s : Stack) → Got (Name o.label_rest ∷ []) behind (code (choice range.0) ∷ s) (code (choices (range ∷ l)) ∷ s)

pub label_parts : LiteralsMade → (c : Choices) (ts : List Lexeme) → (listed SpellsRange c ⨾ sign ":") ts → All IsFormedRange c → Parts c ts
label_parts lit [] ts d g = absurd d.in_front
label_parts lit (range ∷ l) ts d g =
    let all = d.in_front in
    let r = all.in_front in
    let t = d.behind in
    let own : IsFormedRange range = All-head IsFormedRange range l g in
    record {
      range = range;
      l = l;
      is = refl;
      first = r.front;
      behind = r.back ++ (all.back ++ t.token ∷ []);
      parts = d.parts ∙ ap (λ (z : List Lexeme). d.front ++ z) t.alone ∙ ap (λ (z : List Lexeme). z ++ t.token ∷ []) (all.parts
          ∙ ap (λ (z : List Lexeme). z ++ all.back) r.parts ∙ append_assoc r.front r.back all.back)
          ∙ append_assoc r.front (r.back ++ all.back) (t.token ∷ []) ∙ ap (λ (z : List Lexeme). r.front ++ z) (append_assoc r.back all.back (t.token ∷ []));
      spells = r.in_front;
      formed = own.0;
      rest = λ s. rest_made lit range l r.back all.back (r.back ++ (all.back ++ t.token ∷ [])) t.token r.behind own.1 all.behind
          (All-tail IsFormedRange range l g) t.is refl s;
    }

-- the first label of a CASE
pub label_made : LiteralsMade → (c : Choices) (ts : List Lexeme) (x : Parts c ts) (a : List BranchTree) (s : Stack)
    → Got (Name o.label ∷ []) ts (code (cases a) ∷ s) (code (statements []) ∷ code (choices c) ∷ code (cases a) ∷ s)
label_made lit c ts x a s =
    to (ap (λ (z : Choices). code (statements []) ∷ code (choices z) ∷ code (cases a) ∷ s) (sym x.is))
    (on (sym x.parts) (by b.label_1 b.label_1_body refl (then (choice_made lit x.range.0 x.first x.spells x.formed (code (cases a) ∷ s)) (x.rest (code (cases a) ∷ s))) refl))

-- a further one, which ends the branch before it
next_by : LiteralsMade → (c : Choices) (first : Choice) (l : Choices) (us vs ts : List Lexeme) → SpellsChoice first us → IsFormedChoice first
    → ((s : Stack) → Got (Name o.label_rest ∷ []) vs (code (choice first) ∷ s) (code (choices l) ∷ s)) → c ≡ l → ts ≡ us ++ vs
    → (body : List StmtTree) (before : Choices) (a : List BranchTree) (s : Stack)
    → Got (Name o.case_item ∷ []) ts (code (statements body) ∷ code (choices before) ∷ code (cases a) ∷ s)
    (code (statements []) ∷ code (choices c) ∷ code (cases (closed a before body)) ∷ s)
next_by lit c (of.Lit x) l us vs ts d g rest e q body before a s =
    to (ap (λ (z : Choices). code (statements []) ∷ code (choices z) ∷ code (cases (closed a before body)) ∷ s) (sym e))
    (on (sym q) (by b.case_item_2 b.case_item_2_body refl (then (by b.literal_choice_1 b.literal_choice_1_body refl
    (lit x us d (code (statements body) ∷ code (choices before) ∷ code (cases a) ∷ s)) refl)
    (rest (code (statements body) ∷ code (choices before) ∷ code (cases a) ∷ s))) refl))
next_by lit c (of.Const x at) l us vs ts d g rest e q body before a s =
    to (ap (λ (z : Choices). code (statements []) ∷ code (choices z) ∷ code (cases (closed a before body)) ∷ s) (sym e))
    (on (sym q) (by b.case_item_3 b.case_item_3_body refl (then (name_made others other_acts x at us d g (code (statements body) ∷ code (choices before) ∷ code (cases a) ∷ s))
    (by b.after_case_word_1 b.after_case_word_1_body refl (then (by b.word_choice_1 b.word_choice_1_body refl empty refl)
    (rest (code (statements body) ∷ code (choices before) ∷ code (cases a) ∷ s))) refl)) refl))

pub next_label_made : LiteralsMade → (c : Choices) (ts : List Lexeme) (x : Parts c ts) (body : List StmtTree) (before : Choices) (a : List BranchTree) (s : Stack)
    → Got (Name o.case_item ∷ []) ts (code (statements body) ∷ code (choices before) ∷ code (cases a) ∷ s)
    (code (statements []) ∷ code (choices c) ∷ code (cases (closed a before body)) ∷ s)
next_label_made lit c ts x body before a s =
    next_by lit c x.range.0 (x.range ∷ x.l) x.first x.behind ts x.spells x.formed x.rest x.is x.parts body before a s
