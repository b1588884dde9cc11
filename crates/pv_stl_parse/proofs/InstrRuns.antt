-- Instructions, made of what spells them.
use Rattle.std.proofs.Common.{◌≡◌, ℕ, false, List, [], ◌∷◌, ◌++◌, All, codes, Option, Some, None, refl, ap, ◌∙◌, sym, subst}
use Rattle.std.proofs.lemmas.List.{append-nil, append_assoc}
use Rattle.std.proofs.lemmas.List.Elements.{All-head, All-tail}
use Rattle.pv_lex.specs.declared.token.Kind.TheVariants as k
use Rattle.pv_place.specs.declared.place.Place.{Place}
use Rattle.pv_types.specs.declared.name.Name.{Name as NameOf}
use Rattle.pv_types.specs.declared.declaration.Literal.{Literal}
use Rattle.pv_ll.specs.declared.table.Symbol.TheVariants.{Name}
use Rattle.pv_tree.specs.declared.instr.Op.{Op}
use Rattle.pv_tree.specs.Tree.{PlacedName, OperandTree, CallPlain, InstrTree, BodyTree, stl}
use Rattle.pv_tree.specs.Lexemes.{Lexeme, nothing, never, IsWord, IsSign}
use Rattle.pv_tree.specs.Words.{plain_name}
use Rattle.pv_tree.specs.Calls.{SpellsCallStl, IsFreeOption, IsFormedCallStl}
use Rattle.pv_tree.specs.Instructions.{Shape, opening, must, may, calls, calls_alone, sort_of, IsOfSort, shape_of, SpellsValue, SpellsInstrCall, SpellsCallAlone, SpellsBehind, SpellsLabel, SpellsInstr, SpellsInstrs, IsFormedOperandOption, IsFormedCallOption, IsFormedInstr}
use Rattle.pv_parse.specs.KindNumbers as n
use Rattle.pv_parse.specs.Kinds.{kind_of}
use Rattle.pv_parse.specs.FrontBodies as fb
use Rattle.pv_parse.specs.TokenTexts.{is_text}
use Rattle.pv_parse.specs.OpTexts.{op_of, opening_of}
use Rattle.pv_parse.specs.InstrStack.{instrs_of, last_word, FrontTree}
use Rattle.pv_parse.specs.InstrDeeds.{instr_of as instr_tree_of}
use Rattle.pv_parse.specs.ExprDeeds.{operand_of}
use Rattle.pv_parse.specs.Items.{Stack, token, words, body}
use Rattle.pv_parse.proofs.ForCallers.{is_load, Serves, empty, on, to, then, by, pass, WordKind, as_plain, as_in_word, as_in0_word, as_in1_word, as_in2_word, as_mn_word, as_mx_word, as_g_word, as_n_word, as_bit_op, as_or_op, as_value_op, as_free_op, kind-word}
use Rattle.pv_stl_parse.specs.OwnNames as o
use Rattle.pv_stl_parse.specs.OwnBodies as b
use Rattle.pv_stl_parse.proofs.Serving as kind
use Rattle.pv_stl_parse.proofs.Serving.{serving}
use Rattle.pv_stl_parse.proofs.Got.{Got}
use Rattle.pv_stl_parse.proofs.OpServes.{op_by, op_named, op_loads, op_serves, kind_of_op, OpClass, a_bit, a_or, a_bit_opening, a_or_opening, a_close, a_equals, a_value, a_not, a_free, a_sign, a_mod, a_call, a_uc, op_class}
use Rattle.pv_stl_parse.proofs.OperandRuns.{OperandMade, operand_made, literal_made}
use Rattle.pv_stl_parse.proofs.CallRuns.{CallMade, call_made, AloneMade, alone_made}

-- ---- the instruction as the tree has it

same_instr : (i : InstrTree) (label : Option PlacedName) (x : Op) (operand : Option OperandTree) (its : Option Literal) (call : Option CallPlain) (at : Place)
    → label ≡ i.label → x ≡ i.op → operand ≡ i.operand → its ≡ i.literal → call ≡ i.call → at ≡ i.place
    → ◌≡◌ {A = InstrTree} (record { label = label; op = x; operand = operand; literal = its; call = call; place = at }) i
same_instr i label x operand its call at e g h j m q =
    ap (λ (z : Option PlacedName). record { label = z; op = x; operand = operand; literal = its; call = call; place = at }) e
    ∙ ap (λ (z : Op). record { label = i.label; op = z; operand = operand; literal = its; call = call; place = at }) g
    ∙ ap (λ (z : Option OperandTree). record { label = i.label; op = i.op; operand = z; literal = its; call = call; place = at }) h
    ∙ ap (λ (z : Option Literal). record { label = i.label; op = i.op; operand = i.operand; literal = z; call = call; place = at }) j
    ∙ ap (λ (z : Option CallPlain). record { label = i.label; op = i.op; operand = i.operand; literal = i.literal; call = z; place = at }) m
    ∙ ap (λ (z : Place). record { label = i.label; op = i.op; operand = i.operand; literal = i.literal; call = i.call; place = z }) q

-- a body with the instruction behind the others
abbrev with_instr : BodyTree → InstrTree → Stack → Stack
with_instr y i s = body (stl (instrs_of y ++ i ∷ [])) ∷ s

same_body : (y : BodyTree) (i j : InstrTree) (s : Stack) → i ≡ j → with_instr y i s ≡ with_instr y j s
same_body y i j s e = ap (λ (z : InstrTree). with_instr y z s) e

abbrev front : Lexeme → List PlacedName → BodyTree → FrontTree
front t w y = record { token = t; label = last_word w; list = instrs_of y }

-- what a word or sign says of its instruction
record IsToken (i : InstrTree) (t : Lexeme) : Type 0 where
  named : op_of t.bytes ≡ i.op
  at : t.place ≡ i.place
  loads : is_text (codes "L") t.bytes ≡ is_load i.op

record IsOpeningToken (i : InstrTree) (t : Lexeme) : Type 0 where
  named : opening_of t.bytes ≡ i.op
  at : t.place ≡ i.place

-- ---- what stands behind a word or sign

abbrev BehindMade : ℕ → Lexeme → InstrTree → List Lexeme → Type 0
BehindMade m t i ts = (w : List PlacedName) (y : BodyTree) (s : Stack) → last_word w ≡ i.label
    → Got (Name m ∷ []) ts (token t ∷ words w ∷ body y ∷ s) (with_instr y i s)

value_made : (i : InstrTree) (t : Lexeme) (ts : List Lexeme) (x : Option OperandTree) (l : Option Literal) → IsToken i t → i.call ≡ None → i.operand ≡ x
    → i.literal ≡ l → SpellsValue never i.op x l ts → IsFormedOperandOption x → BehindMade o.value t i ts
value_made i t ts None None h c e g d k w y s q = absurd d
value_made i t ts (Some x) (Some l) h c e g d k w y s q = absurd d
value_made i t ts (Some x) None h c e g d k w y s q =
    let p : OperandMade x ts = operand_made x ts d k in
    to (same_body y (instr_tree_of (front t w y) (op_of t.bytes) (Some (operand_of p.its_path)) None None) i s
    (same_instr i (last_word w) (op_of t.bytes) (Some (operand_of p.its_path)) None None t.place q h.named
    (ap (λ (z : OperandTree). Some z) p.back ∙ sym e) (sym g) (sym c) h.at))
    (by b.value_1 b.value_1_body refl (p.gets (token t ∷ words w ∷ body y ∷ s)) refl)
value_made i t ts None (Some l) h c e g d k w y s q =
    to (same_body y (instr_tree_of (front t w y) (op_of t.bytes) None (Some l) None) i s
    (same_instr i (last_word w) (op_of t.bytes) None (Some l) None t.place q h.named (sym e) (sym g) (sym c) h.at))
    (by b.value_2 b.value_2_body refl (literal_made i.op t l ts h.loads d (words w ∷ body y ∷ s)) refl)

maybe_made : (i : InstrTree) (t : Lexeme) (ts : List Lexeme) (x : Option OperandTree) (l : Option Literal) → IsToken i t → i.call ≡ None → i.operand ≡ x
    → i.literal ≡ l → SpellsValue nothing i.op x l ts → IsFormedOperandOption x → BehindMade o.maybe_value t i ts
maybe_made i t ts None None h c e g d k w y s q =
    to (same_body y (instr_tree_of (front t w y) (op_of t.bytes) None None None) i s
    (same_instr i (last_word w) (op_of t.bytes) None None None t.place q h.named (sym e) (sym g) (sym c) h.at))
    (on (sym d) (by b.maybe_value_2 b.maybe_value_2_body refl empty refl))
maybe_made i t ts (Some x) (Some l) h c e g d k w y s q = absurd d
maybe_made i t ts (Some x) None h c e g d k w y s q =
    by b.maybe_value_1 b.maybe_value_1_body refl (value_made i t ts (Some x) None h c e g d k w y s q) refl
maybe_made i t ts None (Some l) h c e g d k w y s q =
    by b.maybe_value_1 b.maybe_value_1_body refl (value_made i t ts None (Some l) h c e g d k w y s q) refl

opening_made : (i : InstrTree) (t : Lexeme) (ts : List Lexeme) → IsOpeningToken i t → SpellsBehind opening i ts → BehindMade o.opening t i ts
opening_made i t ts h d w y s q =
    let c = d.1 in
    to (same_body y (instr_tree_of (front t w y) (opening_of t.bytes) None None None) i s
    (same_instr i (last_word w) (opening_of t.bytes) None None None t.place q h.named (sym d.0.0.0) (sym d.0.0.1) (sym d.0.1) h.at))
    (on (sym c.alone) (by b.opening_1 b.opening_1_body refl (pass n.paren_open c.token (kind.paren_open c.token c.is)) refl))

-- ---- instructions without their labels

-- how the tokens of one are read: a word that may be a label too with what stands behind it, or all of them
data Operates (i : InstrTree) : List Lexeme → Type 0 where
  by_bit_op : (t : Lexeme) (ts : List Lexeme) → Serves n.bit_op t → BehindMade o.bit_operand t i ts → Operates i (t ∷ ts)
  by_or_op : (t : Lexeme) (ts : List Lexeme) → Serves n.or_op t → BehindMade o.or_operand t i ts → Operates i (t ∷ ts)
  by_value_op : (t : Lexeme) (ts : List Lexeme) → Serves n.value_op t → BehindMade o.value t i ts → Operates i (t ∷ ts)
  by_free_op : (t : Lexeme) (ts : List Lexeme) → Serves n.free_op t → BehindMade o.maybe_value t i ts → Operates i (t ∷ ts)
  by_firm : {ts : List Lexeme} → ((w : List PlacedName) (y : BodyTree) (s : Stack) → last_word w ≡ i.label
      → Got (Name o.firm_operation ∷ []) ts (words w ∷ body y ∷ s) (with_instr y i s)) → Operates i ts

operation_made : (i : InstrTree) (ts : List Lexeme) → Operates i ts → (w : List PlacedName) (y : BodyTree) (s : Stack) → last_word w ≡ i.label
    → Got (Name o.operation ∷ []) ts (words w ∷ body y ∷ s) (with_instr y i s)
operation_made i ts (by_bit_op t us h g) w y s q = by b.operation_1 b.operation_1_body refl (then (pass n.bit_op t h) (g w y s q)) refl
operation_made i ts (by_or_op t us h g) w y s q = by b.operation_2 b.operation_2_body refl (then (pass n.or_op t h) (g w y s q)) refl
operation_made i ts (by_value_op t us h g) w y s q = by b.operation_3 b.operation_3_body refl (then (pass n.value_op t h) (g w y s q)) refl
operation_made i ts (by_free_op t us h g) w y s q = by b.operation_4 b.operation_4_body refl (then (pass n.free_op t h) (g w y s q)) refl
operation_made i ts (by_firm g) w y s q = by b.operation_5 b.operation_5_body refl (g w y s q) refl

-- one without a label
alone_laid : (i : InstrTree) (ts : List Lexeme) → Operates i ts → (y : BodyTree) (s : Stack) → None ≡ i.label
    → Got (Name o.labelled ∷ []) ts (words [] ∷ body y ∷ s) (with_instr y i s)
alone_laid i ts (by_bit_op t us h g) y s q =
    by b.labelled_2 b.labelled_2_body refl (then (pass n.bit_op t h) (by b.after_bit_op_2 b.after_bit_op_2_body refl (g [] y s q) refl)) refl
alone_laid i ts (by_or_op t us h g) y s q =
    by b.labelled_3 b.labelled_3_body refl (then (pass n.or_op t h) (by b.after_or_op_2 b.after_or_op_2_body refl (g [] y s q) refl)) refl
alone_laid i ts (by_value_op t us h g) y s q =
    by b.labelled_4 b.labelled_4_body refl (then (pass n.value_op t h) (by b.after_value_op_2 b.after_value_op_2_body refl (g [] y s q) refl)) refl
alone_laid i ts (by_free_op t us h g) y s q =
    by b.labelled_5 b.labelled_5_body refl (then (pass n.free_op t h) (by b.after_free_op_2 b.after_free_op_2_body refl (g [] y s q) refl)) refl
alone_laid i ts (by_firm g) y s q = by b.labelled_6 b.labelled_6_body refl (g [] y s q) refl

-- ---- labels

colon_made : (t c : Lexeme) (w : List PlacedName) (s : Stack) → IsSign ":" c
    → Got (Name o.label ∷ []) (c ∷ []) (token t ∷ words w ∷ s) (words ((plain_name t.bytes, t.place) ∷ []) ∷ s)
colon_made t c w s h = by b.label_1 b.label_1_body refl (pass n.colon c (kind.colon c h)) refl

-- a label before an instruction
label_laid : (t c : Lexeme) (ts : List Lexeme) (y : BodyTree) (i : InstrTree) (s : Stack) → t.kind ≡ k.Word → WordKind (kind_of false t) → IsSign ":" c
    → Got (Name o.operation ∷ []) ts (words ((plain_name t.bytes, t.place) ∷ []) ∷ body y ∷ s) (with_instr y i s)
    → Got (Name o.labelled ∷ []) (t ∷ c ∷ ts) (words [] ∷ body y ∷ s) (with_instr y i s)
label_laid t c ts y i s q (as_plain e) h fin =
    by b.labelled_1 b.labelled_1_body refl (then (by fb.label_word_1 fb.label_word_1_body refl (pass n.plain t (serving n.plain t e q)) refl)
    (then (colon_made t c [] (body y ∷ s) h) fin)) refl
label_laid t c ts y i s q (as_in_word e) h fin =
    by b.labelled_1 b.labelled_1_body refl (then (by fb.label_word_2 fb.label_word_2_body refl (pass n.in_word t (serving n.in_word t e q)) refl)
    (then (colon_made t c [] (body y ∷ s) h) fin)) refl
label_laid t c ts y i s q (as_in0_word e) h fin =
    by b.labelled_1 b.labelled_1_body refl (then (by fb.label_word_3 fb.label_word_3_body refl (pass n.in0_word t (serving n.in0_word t e q)) refl)
    (then (colon_made t c [] (body y ∷ s) h) fin)) refl
label_laid t c ts y i s q (as_in1_word e) h fin =
    by b.labelled_1 b.labelled_1_body refl (then (by fb.label_word_4 fb.label_word_4_body refl (pass n.in1_word t (serving n.in1_word t e q)) refl)
    (then (colon_made t c [] (body y ∷ s) h) fin)) refl
label_laid t c ts y i s q (as_in2_word e) h fin =
    by b.labelled_1 b.labelled_1_body refl (then (by fb.label_word_5 fb.label_word_5_body refl (pass n.in2_word t (serving n.in2_word t e q)) refl)
    (then (colon_made t c [] (body y ∷ s) h) fin)) refl
label_laid t c ts y i s q (as_mn_word e) h fin =
    by b.labelled_1 b.labelled_1_body refl (then (by fb.label_word_6 fb.label_word_6_body refl (pass n.mn_word t (serving n.mn_word t e q)) refl)
    (then (colon_made t c [] (body y ∷ s) h) fin)) refl
label_laid t c ts y i s q (as_mx_word e) h fin =
    by b.labelled_1 b.labelled_1_body refl (then (by fb.label_word_7 fb.label_word_7_body refl (pass n.mx_word t (serving n.mx_word t e q)) refl)
    (then (colon_made t c [] (body y ∷ s) h) fin)) refl
label_laid t c ts y i s q (as_g_word e) h fin =
    by b.labelled_1 b.labelled_1_body refl (then (by fb.label_word_8 fb.label_word_8_body refl (pass n.g_word t (serving n.g_word t e q)) refl)
    (then (colon_made t c [] (body y ∷ s) h) fin)) refl
label_laid t c ts y i s q (as_n_word e) h fin =
    by b.labelled_1 b.labelled_1_body refl (then (by fb.label_word_9 fb.label_word_9_body refl (pass n.n_word t (serving n.n_word t e q)) refl)
    (then (colon_made t c [] (body y ∷ s) h) fin)) refl
label_laid t c ts y i s q (as_bit_op e) h fin =
    by b.labelled_2 b.labelled_2_body refl (then (pass n.bit_op t (serving n.bit_op t e q))
    (by b.after_bit_op_1 b.after_bit_op_1_body refl (then (colon_made t c [] (body y ∷ s) h) fin) refl)) refl
label_laid t c ts y i s q (as_or_op e) h fin =
    by b.labelled_3 b.labelled_3_body refl (then (pass n.or_op t (serving n.or_op t e q))
    (by b.after_or_op_1 b.after_or_op_1_body refl (then (colon_made t c [] (body y ∷ s) h) fin) refl)) refl
label_laid t c ts y i s q (as_value_op e) h fin =
    by b.labelled_4 b.labelled_4_body refl (then (pass n.value_op t (serving n.value_op t e q))
    (by b.after_value_op_1 b.after_value_op_1_body refl (then (colon_made t c [] (body y ∷ s) h) fin) refl)) refl
label_laid t c ts y i s q (as_free_op e) h fin =
    by b.labelled_5 b.labelled_5_body refl (then (pass n.free_op t (serving n.free_op t e q))
    (by b.after_free_op_1 b.after_free_op_1_body refl (then (colon_made t c [] (body y ∷ s) h) fin) refl)) refl

labelled_made : (i : InstrTree) (us ts ws : List Lexeme) (l : Option PlacedName) → i.label ≡ l → SpellsLabel l us → IsFreeOption l → Operates i ts → ws ≡ us ++ ts
    → (y : BodyTree) (s : Stack) → Got (Name o.labelled ∷ []) ws (words [] ∷ body y ∷ s) (with_instr y i s)
labelled_made i us ts ws None e d g h q y s =
    on (sym (q ∙ ap (λ (z : List Lexeme). z ++ ts) d)) (alone_laid i ts h y s (sym e))
labelled_made i us ts ws (Some l) e d g h q y s =
    let t = d.in_front in
    let c = d.behind in
    let same : ◌≡◌ {A = PlacedName} (plain_name t.token.bytes, t.token.place) l =
    ap (λ (z : NameOf). (z, t.token.place)) (sym t.is.is.names) ∙ ap (λ (z : Place). (l.0, z)) t.is.at in
    on (sym (q ∙ ap (λ (z : List Lexeme). z ++ ts) (d.parts ∙ ap (λ (z : List Lexeme). z ++ d.back) t.alone
    ∙ ap (λ (z : List Lexeme). t.token ∷ z) c.alone)))
    (label_laid t.token c.token ts y i s t.is.is.kind (kind-word t.token l.0 t.is.is g) c.is
    (operation_made i ts h ((plain_name t.token.bytes, t.token.place) ∷ []) y s (ap (λ (z : PlacedName). Some z) same ∙ sym e)))

-- ---- by the word or sign

firm_by : (i : InstrTree) (t : Lexeme) (ts : List Lexeme) (c : CallPlain) → IsToken i t → i.call ≡ Some c → i.operand ≡ None → i.literal ≡ None → Serves n.call_word t
    → SpellsInstrCall SpellsCallStl i.place (Some c) ts → IsFormedCallStl c → Operates i (t ∷ ts)
firm_by i t ts c h e g j v d k =
    let m : CallMade c t.place ts = call_made c t.place ts (h.at ∙ sym d.0) d.1 k in
    by_firm (λ w y s q.
    to (same_body y (instr_tree_of (front t w y) (op_of t.bytes) None None (Some (record m.made { place = t.place }))) i s
    (same_instr i (last_word w) (op_of t.bytes) None None (Some (record m.made { place = t.place })) t.place q h.named (sym g) (sym j)
    (ap (λ (z : CallPlain). Some z) m.same ∙ sym e) h.at))
    (by b.firm_operation_6 b.firm_operation_6_body refl (then (pass n.call_word t v) (m.gets (token t ∷ words w ∷ body y ∷ s))) refl))

alone_by : (i : InstrTree) (t : Lexeme) (ts : List Lexeme) (c : CallPlain) → IsToken i t → i.call ≡ Some c → i.operand ≡ None → i.literal ≡ None → Serves n.uc_word t
    → SpellsInstrCall SpellsCallAlone i.place (Some c) ts → IsFormedCallStl c → Operates i (t ∷ ts)
alone_by i t ts c h e g j v d k =
    let m : AloneMade c t.place ts = alone_made c t.place ts (h.at ∙ sym d.0) d.1 k in
    by_firm (λ w y s q.
    to (same_body y (instr_tree_of (front t w y) (op_of t.bytes) None None (Some (record m.made { place = t.place }))) i s
    (same_instr i (last_word w) (op_of t.bytes) None None (Some (record m.made { place = t.place })) t.place q h.named (sym g) (sym j)
    (ap (λ (z : CallPlain). Some z) m.same ∙ sym e) h.at))
    (by b.firm_operation_7 b.firm_operation_7_body refl (then (pass n.uc_word t v) (m.gets (token t ∷ words w ∷ body y ∷ s))) refl))

calls_by : (i : InstrTree) (t : Lexeme) (ts : List Lexeme) (c : Option CallPlain) → IsToken i t → i.call ≡ c → i.operand ≡ None → i.literal ≡ None
    → Serves n.call_word t → SpellsInstrCall SpellsCallStl i.place c ts → IsFormedCallOption c → Operates i (t ∷ ts)
calls_by i t ts None h e g j v d k = absurd d
calls_by i t ts (Some c) h e g j v d k = firm_by i t ts c h e g j v d k

uc_by : (i : InstrTree) (t : Lexeme) (ts : List Lexeme) (c : Option CallPlain) → IsToken i t → i.call ≡ c → i.operand ≡ None → i.literal ≡ None
    → Serves n.uc_word t → SpellsInstrCall SpellsCallAlone i.place c ts → IsFormedCallOption c → Operates i (t ∷ ts)
uc_by i t ts None h e g j v d k = absurd d
uc_by i t ts (Some c) h e g j v d k = alone_by i t ts c h e g j v d k

-- what the token says, where its instruction has this shape
token_is : (i : InstrTree) (t : Lexeme) → IsOfSort (sort_of i.op) t → t.place ≡ i.place → op_of t.bytes ≡ i.op → IsToken i t
token_is i t h q e = record { named = e; at = q; loads = op_loads i.op t h }

named_as : (i : InstrTree) (t : Lexeme) (x : Shape) → IsOfSort (sort_of i.op) t → shape_of (sort_of i.op) ≡ x → op_by x t.bytes ≡ i.op
named_as i t x h e = sym (ap (λ (z : Shape). op_by z t.bytes) e) ∙ op_named i.op t h

must_made : (i : InstrTree) (t : Lexeme) (ts : List Lexeme) → IsToken i t → SpellsBehind must i ts → IsFormedInstr i → BehindMade o.value t i ts
must_made i t ts h d k = value_made i t ts i.operand i.literal h d.0 refl refl d.1 k.its_operand

may_made : (i : InstrTree) (t : Lexeme) (ts : List Lexeme) → IsToken i t → SpellsBehind may i ts → IsFormedInstr i → BehindMade o.maybe_value t i ts
may_made i t ts h d k = maybe_made i t ts i.operand i.literal h d.0 refl refl d.1 k.its_operand

operates_by : (i : InstrTree) (t : Lexeme) (ts : List Lexeme) → OpClass (kind_of_op i.op) (shape_of (sort_of i.op)) → IsOfSort (sort_of i.op) t → t.place ≡ i.place
    → SpellsBehind (shape_of (sort_of i.op)) i ts → IsFormedInstr i → Operates i (t ∷ ts)
operates_by i t ts (a_bit e g) h q d k =
    let x : IsToken i t = token_is i t h q (named_as i t must h g) in
    by_bit_op t ts (subst (λ (z : ℕ). Serves z t) e (op_serves i.op t h)) (λ w y s r. by b.bit_operand_2 b.bit_operand_2_body refl
    (must_made i t ts x (subst (λ (z : Shape). SpellsBehind z i ts) g d) k w y s r) refl)
operates_by i t ts (a_bit_opening e g) h q d k =
    let x : IsOpeningToken i t = record { named = named_as i t opening h g; at = q } in
    by_bit_op t ts (subst (λ (z : ℕ). Serves z t) e (op_serves i.op t h)) (λ w y s r. by b.bit_operand_1 b.bit_operand_1_body refl
    (opening_made i t ts x (subst (λ (z : Shape). SpellsBehind z i ts) g d) w y s r) refl)
operates_by i t ts (a_or e g) h q d k =
    let x : IsToken i t = token_is i t h q (named_as i t may h g) in
    by_or_op t ts (subst (λ (z : ℕ). Serves z t) e (op_serves i.op t h)) (λ w y s r. by b.or_operand_2 b.or_operand_2_body refl
    (may_made i t ts x (subst (λ (z : Shape). SpellsBehind z i ts) g d) k w y s r) refl)
operates_by i t ts (a_or_opening e g) h q d k =
    let x : IsOpeningToken i t = record { named = named_as i t opening h g; at = q } in
    by_or_op t ts (subst (λ (z : ℕ). Serves z t) e (op_serves i.op t h)) (λ w y s r. by b.or_operand_1 b.or_operand_1_body refl
    (opening_made i t ts x (subst (λ (z : Shape). SpellsBehind z i ts) g d) w y s r) refl)
operates_by i t ts (a_value e g) h q d k =
    let x : IsToken i t = token_is i t h q (named_as i t must h g) in
    by_value_op t ts (subst (λ (z : ℕ). Serves z t) e (op_serves i.op t h)) (must_made i t ts x (subst (λ (z : Shape). SpellsBehind z i ts) g d) k)
operates_by i t ts (a_free e g) h q d k =
    let x : IsToken i t = token_is i t h q (named_as i t may h g) in
    by_free_op t ts (subst (λ (z : ℕ). Serves z t) e (op_serves i.op t h)) (may_made i t ts x (subst (λ (z : Shape). SpellsBehind z i ts) g d) k)
operates_by i t ts (a_equals e g) h q d k =
    let x : IsToken i t = token_is i t h q (named_as i t must h g) in
    let v : Serves n.equals t = subst (λ (z : ℕ). Serves z t) e (op_serves i.op t h) in
    by_firm (λ w y s r. by b.firm_operation_1 b.firm_operation_1_body refl
    (then (pass n.equals t v) (must_made i t ts x (subst (λ (z : Shape). SpellsBehind z i ts) g d) k w y s r)) refl)
operates_by i t ts (a_sign e g) h q d k =
    let x : IsToken i t = token_is i t h q (named_as i t may h g) in
    let v : Serves n.stl_sign t = subst (λ (z : ℕ). Serves z t) e (op_serves i.op t h) in
    by_firm (λ w y s r. by b.firm_operation_2 b.firm_operation_2_body refl
    (then (pass n.stl_sign t v) (may_made i t ts x (subst (λ (z : Shape). SpellsBehind z i ts) g d) k w y s r)) refl)
operates_by i t ts (a_close e g) h q d k =
    let x : IsToken i t = token_is i t h q (named_as i t may h g) in
    let v : Serves n.paren_close t = subst (λ (z : ℕ). Serves z t) e (op_serves i.op t h) in
    by_firm (λ w y s r. by b.firm_operation_3 b.firm_operation_3_body refl
    (then (pass n.paren_close t v) (may_made i t ts x (subst (λ (z : Shape). SpellsBehind z i ts) g d) k w y s r)) refl)
operates_by i t ts (a_not e g) h q d k =
    let x : IsToken i t = token_is i t h q (named_as i t may h g) in
    let v : Serves n.not_word t = subst (λ (z : ℕ). Serves z t) e (op_serves i.op t h) in
    by_firm (λ w y s r. by b.firm_operation_4 b.firm_operation_4_body refl
    (then (pass n.not_word t v) (may_made i t ts x (subst (λ (z : Shape). SpellsBehind z i ts) g d) k w y s r)) refl)
operates_by i t ts (a_mod e g) h q d k =
    let x : IsToken i t = token_is i t h q (named_as i t may h g) in
    let v : Serves n.mod_word t = subst (λ (z : ℕ). Serves z t) e (op_serves i.op t h) in
    by_firm (λ w y s r. by b.firm_operation_5 b.firm_operation_5_body refl
    (then (pass n.mod_word t v) (may_made i t ts x (subst (λ (z : Shape). SpellsBehind z i ts) g d) k w y s r)) refl)
operates_by i t ts (a_call e g) h q d k =
    let x : IsToken i t = token_is i t h q (named_as i t calls h g) in
    let z : SpellsBehind calls i ts = subst (λ (m : Shape). SpellsBehind m i ts) g d in
    calls_by i t ts i.call x refl z.0.0 z.0.1 (subst (λ (m : ℕ). Serves m t) e (op_serves i.op t h)) z.1 k.its_call
operates_by i t ts (a_uc e g) h q d k =
    let x : IsToken i t = token_is i t h q (named_as i t calls_alone h g) in
    let z : SpellsBehind calls_alone i ts = subst (λ (m : Shape). SpellsBehind m i ts) g d in
    uc_by i t ts i.call x refl z.0.0 z.0.1 (subst (λ (m : ℕ). Serves m t) e (op_serves i.op t h)) z.1 k.its_call

-- ---- lists

-- the word NETWORK before others
networks_before : (us vs : List Lexeme) (y : BodyTree) (s behind : Stack) → All (IsWord "NETWORK") us → Got (Name o.instructions ∷ []) vs (body y ∷ s) behind
    → Got (Name o.instructions ∷ []) (us ++ vs) (body y ∷ s) behind
networks_before [] vs y s behind h g = g
networks_before (t ∷ us) vs y s behind h g =
    by b.instructions_1 b.instructions_1_body refl (then (by b.instruction_1 b.instruction_1_body refl
    (pass n.network_word t (kind.network_word t (All-head (IsWord "NETWORK") t us h))) refl)
    (networks_before us vs y s behind (All-tail (IsWord "NETWORK") t us h) g)) refl

instr_made : (i : InstrTree) (ts : List Lexeme) → SpellsInstr i ts → IsFormedInstr i → (before : List InstrTree) (s : Stack)
    → Got (Name o.instruction ∷ []) ts (body (stl before) ∷ s) (body (stl (before ++ i ∷ [])) ∷ s)
instr_made i ts d k before s =
    let t = d.behind.in_front in
    let rest = d.behind.behind in
    let end = rest.behind in
    let h : Operates i (t.token ∷ rest.front) = operates_by i t.token rest.front (op_class i.op) t.is.is t.is.at rest.in_front k in
    let parts : ts ≡ (d.front ++ t.token ∷ rest.front) ++ end.token ∷ [] =
    d.parts ∙ ap (λ (z : List Lexeme). d.front ++ z) (d.behind.parts ∙ ap (λ (z : List Lexeme). z ++ d.behind.back) t.alone
    ∙ ap (λ (z : List Lexeme). t.token ∷ z) (rest.parts ∙ ap (λ (z : List Lexeme). rest.front ++ z) end.alone))
    ∙ sym (append_assoc d.front (t.token ∷ rest.front) (end.token ∷ [])) in
    on (sym parts) (by b.instruction_2 b.instruction_2_body refl (then (by b.no_label_1 b.no_label_1_body refl empty refl)
    (then (labelled_made i d.front (t.token ∷ rest.front) (d.front ++ t.token ∷ rest.front) i.label refl d.in_front k.its_label h refl (stl before) s)
    (pass n.semicolon end.token (kind.semicolon end.token end.is)))) refl)

pub instrs_made : (l : List InstrTree) (ts : List Lexeme) → SpellsInstrs l ts → All IsFormedInstr l → (before : List InstrTree) (s : Stack)
    → Got (Name o.instructions ∷ []) ts (body (stl before) ∷ s) (body (stl (before ++ l)) ∷ s)
instrs_made [] ts d k before s =
    to (ap (λ (z : List InstrTree). body (stl z) ∷ s) (sym (append-nil before)))
    (on (append-nil ts) (networks_before ts [] (stl before) s (body (stl before) ∷ s) d (by b.instructions_2 b.instructions_2_body refl empty refl)))
instrs_made (i ∷ l) ts d k before s =
    let one = d.behind in
    to (ap (λ (z : List InstrTree). body (stl z) ∷ s) (append_assoc before (i ∷ []) l))
    (on (sym (d.parts ∙ ap (λ (z : List Lexeme). d.front ++ z) one.parts))
    (networks_before d.front (one.front ++ one.back) (stl before) s (body (stl ((before ++ i ∷ []) ++ l)) ∷ s) d.in_front
    (by b.instructions_1 b.instructions_1_body refl
    (then (instr_made i one.front one.in_front (All-head IsFormedInstr i l k) before s)
    (instrs_made l one.back one.behind (All-tail IsFormedInstr i l k) (before ++ i ∷ []) s)) refl)))
