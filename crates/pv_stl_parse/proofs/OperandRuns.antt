-- Operands and literals behind an instruction's word, made of what spells them.
use Rattle.std.proofs.Common.{◌≡◌, inl, inr, ℕ, zero, suc, Bool, true, false, List, [], ◌∷◌, ◌++◌, codes, Option, Some, refl, ap, ◌∙◌, sym}
use Rattle.std.specs.Prelude.{ℤ, pos, negsuc, neg_ℤ}
use Rattle.pv_word.specs.declared.types.Ty.{Ty}
use Rattle.pv_word.specs.declared.types.Ty.TheVariants as ty
use Rattle.pv_place.specs.declared.place.Place.{Place}
use Rattle.pv_types.specs.declared.name.Name.{Name as NameOf}
use Rattle.pv_types.specs.declared.declaration.Literal.{Literal}
use Rattle.pv_ll.specs.declared.table.Symbol.TheVariants.{Token, Name}
use Rattle.pv_tree.specs.declared.expr.Root.{Root}
use Rattle.pv_tree.specs.declared.expr.Root.TheVariants.{Local, Named, Area}
use Rattle.pv_tree.specs.declared.instr.Op.{Op}
use Rattle.pv_tree.specs.declared.instr.Op.TheVariants as op
use Rattle.pv_tree.specs.Tree.{OperandTree, operand, StepTrees}
use Rattle.pv_tree.specs.View.{list_of_steps}
use Rattle.pv_tree.specs.Lexemes.{Lexeme, IsSign}
use Rattle.pv_tree.specs.Words.{SpellsWord}
use Rattle.pv_tree.specs.Literals.{number_type, loaded_type, SpellsNumber, SpellsTruth}
use Rattle.pv_tree.specs.Expressions.{SpellsSteps, AreFormedSteps, SpellsOperand, IsFormedOperand}
use Rattle.pv_tree.specs.Instructions.{SpellsOperandLiteral}
use Rattle.pv_parse.specs.KindNumbers as n
use Rattle.pv_parse.specs.FrontNames as f
use Rattle.pv_parse.specs.FrontBodies as fb
use Rattle.pv_parse.specs.TokenTexts.{is_text, truth_of}
use Rattle.pv_parse.specs.Items.{Stack, PathTree, token, path, literal}
use Rattle.pv_parse.specs.ExprDeeds.{rooted, operand_of}
use Rattle.pv_parse.specs.InstrDeeds.{type_behind, number_behind}
use Rattle.pv_parse.proofs.ForCallers.{SpellsBehindOp, is_load, empty, on, to, then, by, pass, word_marks, kind-free-word, name_made, firm_made, area_rooted, steps_back, Steps, can_steps, minus_serves, number_serves, truth_serves, truth_is}
use Rattle.pv_parse_stmt.proofs.ForCallers.{behind_mark}
use Rattle.pv_stl_parse.specs.OwnNames as o
use Rattle.pv_stl_parse.specs.OwnBodies as b
use Rattle.pv_stl_parse.proofs.Serving as kind
use Rattle.pv_stl_parse.proofs.Got.{others, other_acts, Got}
use Rattle.pv_stl_parse.proofs.InstrForms.{type_true, type_false}

-- ---- operands

steps_made : (l : StepTrees) (ts : List Lexeme) → SpellsSteps l ts → AreFormedSteps l → Steps others other_acts l ts
steps_made l ts d c = can_steps others other_acts l ts d c

-- a path with these steps
abbrev along : PathTree → StepTrees → PathTree
along p l = record p { steps = p.steps ++ list_of_steps l }

target_back : (r : Root) (l : StepTrees) (at p : Place) → at ≡ p → operand_of (along (rooted r at) l) ≡ operand r l p
target_back r l at p q = ap (λ (z : StepTrees). operand r z at) (steps_back l) ∙ ap (λ (z : Place). operand r l z) q

-- a word behind `#` with which an operand begins
hash_word_made : (h : Lexeme) (x : NameOf) (at : Place) (us : List Lexeme) → IsSign "#" h → SpellsWord x at us → (s : Stack)
    → Got (Token n.hash ∷ Name o.hashed_word ∷ []) (h ∷ us) s (path (rooted (Local x true at) h.place) ∷ s)
hash_word_made h x at us i w s =
    let t = w.token in
    to (ap (λ (z : NameOf). path (rooted (Local z true t.place) h.place) ∷ s) (sym w.is.is.names)
    ∙ ap (λ (z : Place). path (rooted (Local x true z) h.place) ∷ s) w.is.at)
    (on (ap (λ (z : List Lexeme). h ∷ z) (sym w.alone)) (elim (kind-free-word x t w.is.is) [
      | inl e ↦ behind_mark n.hash o.hashed_word b.hashed_word_1 n.free_word (Name f.plain_hash ∷ []) h t [] (kind.hash h i) e
          (word_marks t w.is.is.kind) refl (by fb.plain_hash_1 fb.plain_hash_1_body refl empty refl) refl
      | inr e ↦ behind_mark n.hash o.hashed_word b.hashed_word_2 n.free_prefix (Name f.plain_hash ∷ []) h t [] (kind.hash h i) e
          (word_marks t w.is.is.kind) refl (by fb.plain_hash_1 fb.plain_hash_1_body refl empty refl) refl
    ]))

-- the path that an operand's tokens make
pub record OperandMade (x : OperandTree) (ts : List Lexeme) : Type 0 where
  pub its_path : PathTree
  pub back : operand_of its_path ≡ x
  pub gets : (s : Stack) → Got (Name o.operand ∷ []) ts s (path its_path ∷ s)

pub operand_made : (x : OperandTree) (ts : List Lexeme) → SpellsOperand x ts → IsFormedOperand x → OperandMade x ts
operand_made (operand (Area its bits byte bit) l p) ts d c = record {
  its_path = along (rooted (Area its bits byte bit) p) l;
  back = target_back (Area its bits byte bit) l p p refl;
  gets = λ s. on (sym d.parts) (by b.operand_4 b.operand_4_body refl
      (then (area_rooted others other_acts its bits byte bit p d.front d.in_front s)
      (steps_made l d.back d.behind c.1 (rooted (Area its bits byte bit) p) s)) refl);
}
operand_made (operand (Named x) l p) ts d c = record {
  its_path = along (rooted (Named x) p) l;
  back = target_back (Named x) l p p refl;
  gets = λ s. on (sym d.parts) (by b.operand_3 b.operand_3_body refl
      (then (firm_made others other_acts x p d.front d.in_front s) (steps_made l d.back d.behind c.1 (rooted (Named x) p) s)) refl);
}
operand_made (operand (Local x false at) l p) ts d c =
    let w = d.in_front in
    let word : SpellsWord x at d.front = record { token = w.token; alone = w.alone; is = w.is.is } in
    record {
      its_path = along (rooted (Local x false at) at) l;
      back = target_back (Local x false at) l at p (sym w.is.is.at ∙ w.is.at);
      gets = λ s. on (sym d.parts) (by b.operand_1 b.operand_1_body refl
          (then (name_made others other_acts x at d.front word c.0 s) (steps_made l d.back d.behind c.1 (rooted (Local x false at) at) s)) refl);
    }
operand_made (operand (Local x true at) l p) ts d c =
    let root = d.in_front in
    let h = root.in_front in
    record {
      its_path = along (rooted (Local x true at) h.token.place) l;
      back = target_back (Local x true at) l h.token.place p h.is.at;
      gets = λ s. on (sym (d.parts ∙ ap (λ (z : List Lexeme). z ++ d.back) (root.parts ∙ ap (λ (z : List Lexeme). z ++ root.back) h.alone)))
          (by b.operand_2 b.operand_2_body refl (then (hash_word_made h.token x at root.back h.is.is root.behind s)
          (steps_made l d.back d.behind c.1 (rooted (Local x true at) h.token.place) s)) refl);
    }

-- ---- literals

behind_op : (x : Op) (l : Literal) (ts : List Lexeme) → SpellsOperandLiteral x l ts → SpellsBehindOp (is_load x) l ts
behind_op op.L l ts h = h
behind_op _ l ts h = h

neg_twice : (k : ℤ) → neg_ℤ (neg_ℤ k) ≡ k
neg_twice (pos zero) = refl
neg_twice (pos (suc n)) = refl
neg_twice (negsuc n) = refl

same_literal : (a l : Literal) → a.ty ≡ l.ty → a.value ≡ l.value → a.place ≡ l.place → a ≡ l
same_literal a l e g h =
    ap (λ (z : Option Ty). record { ty = z; value = a.value; place = a.place }) e
    ∙ ap (λ (z : ℤ). record { ty = l.ty; value = z; place = a.place }) g
    ∙ ap (λ (z : Place). record { ty = l.ty; value = l.value; place = z }) h

-- a literal behind a token, on which its type hangs
abbrev pub ValueMade : Lexeme → Literal → List Lexeme → Type 0
ValueMade t l ts = (s : Stack) → Got (Name o.number_value ∷ []) ts (token t ∷ s) (literal l ∷ token t ∷ s)

number_made : (t : Lexeme) (l : Literal) (type_of : List ℕ → Option Ty) (ts : List Lexeme)
    → ((v : ℤ) (bytes : List ℕ) → v ≡ l.value → type_behind t.bytes v bytes ≡ type_of bytes) → SpellsNumber type_of l ts → ValueMade t l ts
number_made t l type_of ts typed (inl d) s =
    let m = d.token in
    to (ap (λ (z : Literal). literal z ∷ token t ∷ s) (same_literal (number_behind t m m.value m.place) l
    (typed m.value m.bytes d.is.is.valued ∙ sym d.is.is.typed) d.is.is.valued d.is.at))
    (on (sym d.alone) (by b.number_value_1 b.number_value_1_body refl (pass n.number m (number_serves m d.is.is.kind)) refl))
number_made t l type_of ts typed (inr d) s =
    let m = d.in_front in
    let x = d.behind in
    let v : neg_ℤ x.token.value ≡ l.value = ap (λ (z : ℤ). neg_ℤ z) x.is.valued ∙ neg_twice l.value in
    to (ap (λ (z : Literal). literal z ∷ token t ∷ s) (same_literal (number_behind t x.token (neg_ℤ x.token.value) m.token.place) l
    (typed (neg_ℤ x.token.value) x.token.bytes v ∙ sym x.is.typed) v m.is.at))
    (on (sym (d.parts ∙ ap (λ (z : List Lexeme). z ++ d.back) m.alone ∙ ap (λ (z : List Lexeme). m.token ∷ z) x.alone))
    (by b.number_value_2 b.number_value_2_body refl (then (pass n.minus m.token (minus_serves m.token m.is.is))
    (pass n.number x.token (number_serves x.token x.is.kind))) refl))

truth_made : (t : Lexeme) (l : Literal) (ts : List Lexeme) → SpellsTruth l ts → ValueMade t l ts
truth_made t l ts d s =
    let m = d.token in
    to (ap (λ (z : Literal). literal z ∷ token t ∷ s) (same_literal (record { ty = Some ty.Bool; value = truth_of m.bytes; place = m.place }) l
    (sym d.is.is.typed) (truth_is l.ty l.value m d.is.is) d.is.at))
    (on (sym d.alone) (by b.number_value_3 b.number_value_3_body refl (pass n.truth m (truth_serves l.ty l.value m d.is.is)) refl))

literal_by : (c : Bool) (t : Lexeme) (l : Literal) (ts : List Lexeme) → is_text (codes "L") t.bytes ≡ c → SpellsBehindOp c l ts → ValueMade t l ts
literal_by true t l ts e (inl d) =
    number_made t l (loaded_type l.value) ts
    (λ v bytes g. type_true t.bytes bytes v e ∙ ap (λ (z : ℤ). loaded_type z bytes) g) d
literal_by true t l ts e (inr d) = truth_made t l ts d
literal_by false t l ts e (inl d) = number_made t l number_type ts (λ v bytes g. type_false t.bytes bytes v e) d
literal_by false t l ts e (inr d) = truth_made t l ts d

pub literal_made : (x : Op) (t : Lexeme) (l : Literal) (ts : List Lexeme) → is_text (codes "L") t.bytes ≡ is_load x → SpellsOperandLiteral x l ts
    → ValueMade t l ts
literal_made x t l ts e d = literal_by (is_load x) t l ts e (behind_op x l ts d)
