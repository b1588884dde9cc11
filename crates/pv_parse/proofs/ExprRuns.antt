-- What spells a well-formed expression makes it on the stack.
use Rattle.std.proofs.Common.{◌≡◌, inl, inr, ℕ, ◌≤◌, ◌<◌, true, false, List, [], ◌∷◌, ◌++◌, Option, refl, ap, ◌∙◌, sym, subst, arith}
use Rattle.std.specs.Prelude.{ℤ}
use Rattle.std.proofs.lemmas.List.{append-nil, append_assoc}
use Rattle.pv_word.specs.declared.types.Ty.{Ty}
use Rattle.pv_lex.specs.declared.token.Kind.TheVariants as k
use Rattle.pv_place.specs.declared.place.Place.{Place}
use Rattle.pv_types.specs.declared.name.Name.{Name as NameOf}
use Rattle.pv_ll.specs.declared.table.Symbol.TheVariants.{Token, Name}
use Rattle.pv_ll.specs.Grammar.{Grammar}
use Rattle.pv_tree.specs.declared.expr.Area.{Area as AreaOf}
use Rattle.pv_tree.specs.declared.expr.Root.{Root}
use Rattle.pv_tree.specs.declared.expr.Root.TheVariants.{Local, Named, Area}
use Rattle.pv_tree.specs.declared.expr.UnaryOp.{UnaryOp}
use Rattle.pv_tree.specs.declared.expr.UnaryOp.TheVariants as u
use Rattle.pv_tree.specs.declared.expr.BinaryOp.{BinaryOp}
use Rattle.pv_tree.specs.Tree.{ExprTree, lit, read, unary, binary, paren, operand, StepTree, field, index, StepTrees, no_steps, steps}
use Rattle.pv_tree.specs.View.{steps_of, list_of_steps}
use Rattle.pv_tree.specs.Lexemes.{Lexeme, IsSign, IsOne}
use Rattle.pv_tree.specs.Words.{plain_name, pair_name, quoted_name, IsPlain, IsFree, SpellsWord, SpellsFirm}
use Rattle.pv_tree.specs.Expressions.{SpellsExpr, SpellsStep, SpellsOperand, SpellsAtom, IsBefore, strength, strength_of, SpellsRoot, IsFormedRoot}
use Rattle.pv_parse.specs.declared.action.Action.{Action}
use Rattle.pv_parse.specs.KindNumbers as n
use Rattle.pv_parse.specs.Kinds.{kind_of}
use Rattle.pv_parse.specs.FrontNames as name
use Rattle.pv_parse.specs.FrontBodies as b
use Rattle.pv_parse.specs.TokenTexts.{truth_of, area_of}
use Rattle.pv_parse.specs.Items.{Stack, PathTree, token, path, expr}
use Rattle.pv_parse.specs.ExprDeeds.{rooted, stepped}
use Rattle.pv_parse.proofs.TokenKinds as kind
use Rattle.pv_parse.proofs.TokenKinds.{Serves}
use Rattle.pv_parse.proofs.KindOf.{WordKind, as_plain, as_in_word, as_in0_word, as_in1_word, as_in2_word, as_mn_word, as_mx_word, as_g_word, as_n_word, as_bit_op, as_or_op, as_value_op, as_free_op, kind-word}
use Rattle.pv_parse.proofs.OperatorTexts.{truth_is}
use Rattle.pv_parse.proofs.Gets.{Gets, empty, on, to, then, by, pass, pass_mark}
use Rattle.pv_parse.proofs.ChainRuns.{Whole, Derived, between}

-- ---- words and names

-- a word that is a name, left as its token, by one of the productions
abbrev pub WordMade : Grammar → List Action → Lexeme → Stack → Type 0
WordMade rest acts t s =
    Gets rest acts (Name name.word ∷ []) (t ∷ []) s (path (rooted (Local (plain_name t.bytes) false t.place) t.place) ∷ s)

pub serving : (m : ℕ) (t : Lexeme) → kind_of false t ≡ m → t.kind ≡ k.Word → Serves m t
serving m t e w = record { is = e; plain = kind.word_marks t w }

pub word_made : (rest : Grammar) (acts : List Action) (t : Lexeme) (s : Stack) → t.kind ≡ k.Word → WordKind (kind_of false t) → WordMade rest acts t s
word_made rest acts t s w (as_plain e) =
    by b.word_1 b.word_1_body refl (by b.label_word_1 b.label_word_1_body refl (pass n.plain t (serving n.plain t e w)) refl) refl
word_made rest acts t s w (as_in_word e) =
    by b.word_1 b.word_1_body refl (by b.label_word_2 b.label_word_2_body refl (pass n.in_word t (serving n.in_word t e w)) refl) refl
word_made rest acts t s w (as_in0_word e) =
    by b.word_1 b.word_1_body refl (by b.label_word_3 b.label_word_3_body refl (pass n.in0_word t (serving n.in0_word t e w)) refl) refl
word_made rest acts t s w (as_in1_word e) =
    by b.word_1 b.word_1_body refl (by b.label_word_4 b.label_word_4_body refl (pass n.in1_word t (serving n.in1_word t e w)) refl) refl
word_made rest acts t s w (as_in2_word e) =
    by b.word_1 b.word_1_body refl (by b.label_word_5 b.label_word_5_body refl (pass n.in2_word t (serving n.in2_word t e w)) refl) refl
word_made rest acts t s w (as_mn_word e) =
    by b.word_1 b.word_1_body refl (by b.label_word_6 b.label_word_6_body refl (pass n.mn_word t (serving n.mn_word t e w)) refl) refl
word_made rest acts t s w (as_mx_word e) =
    by b.word_1 b.word_1_body refl (by b.label_word_7 b.label_word_7_body refl (pass n.mx_word t (serving n.mx_word t e w)) refl) refl
word_made rest acts t s w (as_g_word e) =
    by b.word_1 b.word_1_body refl (by b.label_word_8 b.label_word_8_body refl (pass n.g_word t (serving n.g_word t e w)) refl) refl
word_made rest acts t s w (as_n_word e) =
    by b.word_1 b.word_1_body refl (by b.label_word_9 b.label_word_9_body refl (pass n.n_word t (serving n.n_word t e w)) refl) refl
word_made rest acts t s w (as_bit_op e) = by b.word_2 b.word_2_body refl (pass n.bit_op t (serving n.bit_op t e w)) refl
word_made rest acts t s w (as_or_op e) = by b.word_3 b.word_3_body refl (pass n.or_op t (serving n.or_op t e w)) refl
word_made rest acts t s w (as_value_op e) = by b.word_4 b.word_4_body refl (pass n.value_op t (serving n.value_op t e w)) refl
word_made rest acts t s w (as_free_op e) = by b.word_5 b.word_5_body refl (pass n.free_op t (serving n.free_op t e w)) refl

-- a path without steps, by the name that makes one
abbrev pub Rooted : Grammar → List Action → ℕ → Root → Place → List Lexeme → Type 0
Rooted rest acts m root place ts = (s : Stack) → Gets rest acts (Name m ∷ []) ts s (path (rooted root place) ∷ s)

pub renamed_path : (rest : Grammar) (acts : List Action) (m : ℕ) (ts : List Lexeme) (r q : Root) (p at : Place) → r ≡ q → p ≡ at → Rooted rest acts m r p ts
    → Rooted rest acts m q at ts
renamed_path rest acts m ts r q p at e f g =
    subst (λ (z : Place). Rooted rest acts m q z ts) f (subst (λ (z : Root). Rooted rest acts m z p ts) e g)

-- a name that is a word
pub name_made : (rest : Grammar) (acts : List Action) (x : NameOf) (place : Place) (ts : List Lexeme) → SpellsWord x place ts → IsFree x
    → Rooted rest acts name.word (Local x false place) place ts
name_made rest acts x place ts d f =
    renamed_path rest acts name.word ts (Local (plain_name d.token.bytes) false d.token.place) (Local x false place) d.token.place place
    (ap (λ (z : NameOf). Local z false d.token.place) (sym d.is.is.names) ∙ ap (λ (z : Place). Local x false z) d.is.at) d.is.at
    (λ s. on (sym d.alone) (word_made rest acts d.token s d.is.is.kind (kind-word d.token x d.is.is f)))

-- a word directly behind `#` or `.`
pub field_made : (rest : Grammar) (acts : List Action) (mark : ℕ) (t w : Lexeme) (s : Stack) (x : NameOf) → kind.Marks mark t → IsPlain x w
    → Gets rest acts (Token mark ∷ Name name.field ∷ []) (t ∷ w ∷ []) s (path (rooted (Local (plain_name w.bytes) false w.place) w.place) ∷ token t ∷ s)
field_made rest acts mark t w s x h p =
    elim (kind.marked_word x w p) [
      | inl e ↦ pass_mark mark name.field b.field_1 n.free_word t w h e (kind.word_marks w p.kind) refl refl
      | inr e ↦ pass_mark mark name.field b.field_2 n.free_prefix t w h e (kind.word_marks w p.kind) refl refl
    ]

-- ---- paths

-- a quoted or a numbered name
pub firm_made : (rest : Grammar) (acts : List Action) (x : NameOf) (place : Place) (ts : List Lexeme) → SpellsFirm x place ts
    → Rooted rest acts name.firm_name (Named x) place ts
firm_made rest acts x place ts (inl d) =
    renamed_path rest acts name.firm_name ts (Named (quoted_name d.token.bytes)) (Named x) d.token.place place (ap (λ z. Named z) (sym d.is.is.names)) d.is.at
    (λ s. on (sym d.alone) (by b.firm_name_1 b.firm_name_1_body refl (pass n.quoted d.token (kind.quoted x d.token d.is.is)) refl))
firm_made rest acts x place ts (inr (inl d)) =
    renamed_path rest acts name.firm_name ts (Named (plain_name d.token.bytes)) (Named x) d.token.place place (ap (λ z. Named z) (sym d.is.is.names)) d.is.at
    (λ s. on (sym d.alone) (by b.firm_name_3 b.firm_name_3_body refl (pass n.numbered d.token (kind.numbered x d.token d.is.is)) refl))
firm_made rest acts x place ts (inr (inr d)) =
    renamed_path rest acts name.firm_name ts (Named (pair_name (d.prefix.bytes ++ d.number.bytes))) (Named x) d.prefix.place place
    (ap (λ z. Named z) (sym d.names)) d.at
    (λ s. on (sym d.parts) (by b.firm_name_2 b.firm_name_2_body refl (then (pass n.number_prefix d.prefix (kind.prefix d.prefix d.word d.is_prefix))
    (pass n.number d.number (kind.number d.number d.counts))) refl))

-- ---- steps

-- what steps add to a path
abbrev pub Steps : Grammar → List Action → StepTrees → List Lexeme → Type 0
Steps rest acts l ts = (p : PathTree) (s : Stack)
    → Gets rest acts (Name name.steps ∷ []) ts (path p ∷ s) (path (record p { steps = p.steps ++ list_of_steps l }) ∷ s)

abbrev pub OneStep : Grammar → List Action → StepTree → List Lexeme → Type 0
OneStep rest acts x ts = (p : PathTree) (s : Stack) → Gets rest acts (Name name.step ∷ []) ts (path p ∷ s) (path (stepped p x) ∷ s)

pub no_step : (rest : Grammar) (acts : List Action) → Steps rest acts no_steps []
no_step rest acts p s =
    to (ap (λ (z : List StepTree). path (record p { steps = z }) ∷ s) (sym (append-nil p.steps))) (by b.steps_2 b.steps_2_body refl empty refl)

pub more_steps : (rest : Grammar) (acts : List Action) (x : StepTree) (l : StepTrees) (us vs ts : List Lexeme) → ts ≡ us ++ vs → OneStep rest acts x us
    → Steps rest acts l vs → Steps rest acts (steps x l) ts
more_steps rest acts x l us vs ts e g h p s =
    to (ap (λ (z : List StepTree). path (record p { steps = z }) ∷ s) (append_assoc p.steps (x ∷ []) (list_of_steps l)))
    (on (sym e) (by b.steps_1 b.steps_1_body refl (then (g p s) (h (stepped p x) s)) refl))

pub field_step : (rest : Grammar) (acts : List Action) (x : NameOf) (place : Place) (ts : List Lexeme) → SpellsStep (field x place) ts
    → OneStep rest acts (field x place) ts
field_step rest acts x place ts d p s =
    let dot : IsOne (IsSign ".") d.front = d.in_front in
    let w = d.behind in
    to (ap (λ (z : NameOf). path (stepped p (field z w.token.place)) ∷ s) (sym w.is.is.names)
    ∙ ap (λ (z : Place). path (stepped p (field x z)) ∷ s) w.is.at)
    (on (sym (d.parts ∙ ap (λ (z : List Lexeme). z ++ d.back) dot.alone ∙ ap (λ (z : List Lexeme). dot.token ∷ z) w.alone))
    (by b.step_1 b.step_1_body refl (field_made rest acts n.dot dot.token w.token (path p ∷ s) x (kind.dot dot.token dot.is) w.is.is) refl))

pub index_step : (rest : Grammar) (acts : List Action) (e : ExprTree) (place : Place) (ts : List Lexeme) → (d : SpellsStep (index e place) ts)
    → Derived rest acts e d.behind.front → OneStep rest acts (index e place) ts
index_step rest acts e place ts d g p s =
    let open_ = d.in_front in
    let close = d.behind.behind in
    to (ap (λ (z : Place). path (stepped p (index e z)) ∷ s) open_.is.at)
    (on (sym (d.parts ∙ ap (λ (z : List Lexeme). z ++ d.back) open_.alone ∙ ap (λ (z : List Lexeme). open_.token ∷ z) (d.behind.parts
    ∙ ap (λ (z : List Lexeme). d.behind.front ++ z) close.alone)))
    (by b.step_2 b.step_2_body refl (then (pass n.bracket_open open_.token (kind.bracket_open open_.token open_.is.is))
    (then (g.whole 0 (omega arith) (omega arith) (token open_.token ∷ path p ∷ s))
    (pass n.bracket_close close.token (kind.bracket_close close.token close.is)))) refl))

-- ---- operands that are read

pub steps_back : (l : StepTrees) → steps_of (list_of_steps l) ≡ l
steps_back no_steps = refl
steps_back (steps x l) = ap (λ (z : StepTrees). steps x z) (steps_back l)

-- what is read along a path, as the tree has it
pub read_back : (r : Root) (l : StepTrees) (p : Place) (s : Stack)
    → ◌≡◌ {A = Stack} (expr (read (operand r (steps_of (list_of_steps l)) p)) ∷ s) (expr (read (operand r l p)) ∷ s)
read_back r l p s = ap (λ (z : StepTrees). expr (read (operand r z p)) ∷ s) (steps_back l)

-- among the factors that begin with no name
abbrev pub Firm : Grammar → List Action → ExprTree → List Lexeme → Type 0
Firm rest acts e ts = (s : Stack) → Gets rest acts (Name name.firm_factor ∷ []) ts s (expr e ∷ s)

-- what stands there is a factor
pub firm : (rest : Grammar) (acts : List Action) (e : ExprTree) (ts : List Lexeme)
    → Firm rest acts e ts → Whole rest acts 7 e ts
firm rest acts e ts g = λ s.
    by b.factor_2 b.factor_2_body refl (by b.other_factor_2 b.other_factor_2_body refl (g s) refl) refl

-- an address alone
pub area_rooted : (rest : Grammar) (acts : List Action) (its : AreaOf) (bits byte bit : ℕ) (p : Place) (ts : List Lexeme)
    → SpellsRoot (Area its bits byte bit) p ts → Rooted rest acts name.area (Area its bits byte bit) p ts
area_rooted rest acts its bits byte bit p ts a s =
    to (ap (λ (z : Root). path (rooted z a.token.place) ∷ s) (kind.area its bits byte bit a.token a.is.is)
    ∙ ap (λ (z : Place). path (rooted (Area its bits byte bit) z) ∷ s) a.is.at)
    (on (sym a.alone) (by b.area_1 b.area_1_body refl (pass n.address a.token (kind.address its bits byte bit a.token a.is.is)) refl))

-- what an address begins is one of these
pub area_made : (rest : Grammar) (acts : List Action) (its : AreaOf) (bits byte bit : ℕ) (l : StepTrees) (p : Place) (ts : List Lexeme)
    → (d : SpellsOperand (operand (Area its bits byte bit) l p) ts) → Steps rest acts l d.back → Firm rest acts (read (operand (Area its bits byte bit) l p)) ts
area_made rest acts its bits byte bit l p ts d g = λ s.
    let a = d.in_front in
    to (ap (λ (z : Root). expr (read (operand z (steps_of (list_of_steps l)) a.token.place)) ∷ s) (kind.area its bits byte bit a.token a.is.is)
    ∙ ap (λ (z : Place). expr (read (operand (Area its bits byte bit) (steps_of (list_of_steps l)) z)) ∷ s) a.is.at
    ∙ read_back (Area its bits byte bit) l p s)
    (on (sym (d.parts ∙ ap (λ (z : List Lexeme). z ++ d.back) a.alone))
    (by b.firm_factor_1 b.firm_factor_1_body refl
    (then (by b.area_1 b.area_1_body refl (pass n.address a.token (kind.address its bits byte bit a.token a.is.is)) refl)
    (g (rooted (area_of a.token.bytes) a.token.place) s)) refl))

-- an operand that begins with `#`, and one that begins with another name
pub hash_read_made : (rest : Grammar) (acts : List Action) (x : NameOf) (at : Place) (l : StepTrees) (p : Place) (ts : List Lexeme)
    → (d : SpellsOperand (operand (Local x true at) l p) ts) → Steps rest acts l d.back → (s : Stack)
    → Gets rest acts (Name name.name_read ∷ []) ts s (expr (read (operand (Local x true at) l p)) ∷ s)
hash_read_made rest acts x at l p ts d g s =
    let hash = d.in_front.in_front in
    let w = d.in_front.behind in
    to (ap (λ (z : NameOf). expr (read (operand (Local z true w.token.place) (steps_of (list_of_steps l)) hash.token.place)) ∷ s) (sym w.is.is.names)
    ∙ ap (λ (z : Place). expr (read (operand (Local x true z) (steps_of (list_of_steps l)) hash.token.place)) ∷ s) w.is.at
    ∙ ap (λ (z : Place). expr (read (operand (Local x true at) (steps_of (list_of_steps l)) z)) ∷ s) hash.is.at
    ∙ read_back (Local x true at) l p s)
    (on (sym (d.parts ∙ ap (λ (z : List Lexeme). z ++ d.back) (d.in_front.parts ∙ ap (λ (z : List Lexeme). z ++ d.in_front.back) hash.alone
    ∙ ap (λ (z : List Lexeme). hash.token ∷ z) w.alone)))
    (by b.name_read_1 b.name_read_1_body refl
    (then (field_made rest acts n.hash hash.token w.token s x (kind.hash hash.token hash.is.is) w.is.is)
    (g (rooted (Local (plain_name w.token.bytes) false w.token.place) w.token.place) (token hash.token ∷ s))) refl))

pub firm_read_made : (rest : Grammar) (acts : List Action) (x : NameOf) (l : StepTrees) (p : Place) (ts : List Lexeme)
    → (d : SpellsOperand (operand (Named x) l p) ts) → Steps rest acts l d.back → (s : Stack)
    → Gets rest acts (Name name.name_read ∷ []) ts s (expr (read (operand (Named x) l p)) ∷ s)
firm_read_made rest acts x l p ts d g s =
    to (read_back (Named x) l p s) (on (sym d.parts)
    (by b.name_read_2 b.name_read_2_body refl (then (firm_made rest acts x p d.front d.in_front s) (g (rooted (Named x) p) s)) refl))

pub read_made : (rest : Grammar) (acts : List Action) (r : Root) (l : StepTrees) (p : Place) (ts : List Lexeme) → (d : SpellsOperand (operand r l p) ts)
    → IsFormedRoot r → Steps rest acts l d.back → Whole rest acts 7 (read (operand r l p)) ts
read_made rest acts (Local x true at) l p ts d f g = λ s.
    by b.factor_2 b.factor_2_body refl (by b.other_factor_1 b.other_factor_1_body refl (hash_read_made rest acts x at l p ts d g s) refl) refl
read_made rest acts (Local x false at) l p ts d f g = λ s.
    let w = d.in_front in
    to (ap (λ (z : NameOf). expr (read (operand (Local z false w.token.place) (steps_of (list_of_steps l)) w.token.place)) ∷ s) (sym w.is.is.is.names)
    ∙ ap (λ (z : Place). expr (read (operand (Local x false z) (steps_of (list_of_steps l)) w.token.place)) ∷ s) w.is.is.at
    ∙ ap (λ (z : Place). expr (read (operand (Local x false at) (steps_of (list_of_steps l)) z)) ∷ s) w.is.at
    ∙ read_back (Local x false at) l p s)
    (on (sym (d.parts ∙ ap (λ (z : List Lexeme). z ++ d.back) w.alone))
    (by b.factor_1 b.factor_1_body refl (by b.word_read_1 b.word_read_1_body refl
    (then (word_made rest acts w.token s w.is.is.is.kind (kind-word w.token x w.is.is.is f))
    (g (rooted (Local (plain_name w.token.bytes) false w.token.place) w.token.place) s)) refl) refl))
read_made rest acts (Named x) l p ts d f g = λ s.
    by b.factor_2 b.factor_2_body refl (by b.other_factor_1 b.other_factor_1_body refl (firm_read_made rest acts x l p ts d g s) refl) refl
read_made rest acts (Area its bits byte bit) l p ts d f g = firm rest acts (read (operand (Area its bits byte bit) l p)) ts (area_made rest acts its bits byte bit l p ts d g)

-- ---- factors

pub atom_made : (rest : Grammar) (acts : List Action) (own : Option Ty) (value : ℤ) (place : Place) (ts : List Lexeme) → SpellsAtom own value place ts
    → Firm rest acts (lit own value place) ts
atom_made rest acts own value place ts (inl d) = (λ s.
    to (ap (λ (z : Option Ty). expr (lit z d.token.value d.token.place) ∷ s) (sym d.is.is.typed)
    ∙ ap (λ (z : ℤ). expr (lit own z d.token.place) ∷ s) d.is.is.valued
    ∙ ap (λ (z : Place). expr (lit own value z) ∷ s) d.is.at)
    (on (sym d.alone) (by b.firm_factor_2 b.firm_factor_2_body refl (pass n.number d.token (kind.number d.token d.is.is.kind)) refl)))
atom_made rest acts own value place ts (inr d) = (λ s.
    to (ap (λ (z : Option Ty). expr (lit z (truth_of d.token.bytes) d.token.place) ∷ s) (sym d.is.is.typed)
    ∙ ap (λ (z : ℤ). expr (lit own z d.token.place) ∷ s) (truth_is own value d.token d.is.is)
    ∙ ap (λ (z : Place). expr (lit own value z) ∷ s) d.is.at)
    (on (sym d.alone) (by b.firm_factor_3 b.firm_factor_3_body refl (pass n.truth d.token (kind.truth own value d.token d.is.is)) refl)))

pub paren_made : (rest : Grammar) (acts : List Action) (place : Place) (e : ExprTree) (ts : List Lexeme) → (d : SpellsExpr (paren place e) ts)
    → Derived rest acts e d.behind.front → Firm rest acts (paren place e) ts
paren_made rest acts place e ts d g = (λ s.
    let open_ = d.in_front in
    let close = d.behind.behind in
    to (ap (λ (z : Place). expr (paren z e) ∷ s) open_.is.at)
    (on (sym (d.parts ∙ ap (λ (z : List Lexeme). z ++ d.back) open_.alone ∙ ap (λ (z : List Lexeme). open_.token ∷ z) (d.behind.parts
    ∙ ap (λ (z : List Lexeme). d.behind.front ++ z) close.alone)))
    (by b.firm_factor_4 b.firm_factor_4_body refl (then (pass n.paren_open open_.token (kind.paren_open open_.token open_.is.is))
    (then (g.whole 0 (omega arith) (omega arith) (token open_.token ∷ s))
    (pass n.paren_close close.token (kind.paren_close close.token close.is)))) refl)))

unary_by : (rest : Grammar) (acts : List Action) (op : UnaryOp) (t : Lexeme) (e : ExprTree) (ts : List Lexeme) → IsBefore op t → Whole rest acts 7 e ts
    → (s : Stack) → Gets rest acts (Name name.firm_factor ∷ []) (t ∷ ts) s (expr (unary op t.place e) ∷ s)
unary_by rest acts u.Plus t e ts h g s =
    by b.firm_factor_6 b.firm_factor_6_body refl (then (pass n.plus t (kind.plus t h)) (g (token t ∷ s))) refl
unary_by rest acts u.Minus t e ts h g s =
    by b.firm_factor_7 b.firm_factor_7_body refl (then (pass n.minus t (kind.minus t h)) (g (token t ∷ s))) refl
unary_by rest acts u.Not t e ts h g s =
    by b.firm_factor_8 b.firm_factor_8_body refl (then (pass n.not_word t (kind.not_word t h)) (g (token t ∷ s))) refl

pub unary_made : (rest : Grammar) (acts : List Action) (op : UnaryOp) (place : Place) (e : ExprTree) (ts : List Lexeme) → (d : SpellsExpr (unary op place e) ts)
    → 7 ≤ strength e → Derived rest acts e d.back → Firm rest acts (unary op place e) ts
unary_made rest acts op place e ts d h g = (λ s.
    let t = d.in_front in
    to (ap (λ (z : Place). expr (unary op z e) ∷ s) t.is.at)
    (on (sym (d.parts ∙ ap (λ (z : List Lexeme). z ++ d.back) t.alone))
    (unary_by rest acts op t.token e d.back t.is.is (g.whole 7 (omega arith) h) s)))

pub binary_made : (rest : Grammar) (acts : List Action) (op : BinaryOp) (place : Place) (e r : ExprTree) (ts : List Lexeme)
    → (d : SpellsExpr (binary op place e r) ts) → strength_of op ≤ strength e → strength_of op < strength r → Derived rest acts e d.front
    → Derived rest acts r d.behind.back → Derived rest acts (binary op place e r) ts
binary_made rest acts op place e r ts d i j g h =
    let t = d.behind.in_front in
    let whole : Derived rest acts (binary op t.token.place e r) (d.front ++ t.token ∷ d.behind.back) =
    between rest acts op t.token e r d.front d.behind.back t.is.is i j g h in
    let there : Derived rest acts (binary op place e r) (d.front ++ t.token ∷ d.behind.back) =
    subst (λ (z : Place). Derived rest acts (binary op z e r) (d.front ++ t.token ∷ d.behind.back)) t.is.at whole in
    subst (λ (z : List Lexeme). Derived rest acts (binary op place e r) z)
    (sym (d.parts ∙ ap (λ (z : List Lexeme). d.front ++ z) (d.behind.parts ∙ ap (λ (z : List Lexeme). z ++ d.behind.back) t.alone))) there
