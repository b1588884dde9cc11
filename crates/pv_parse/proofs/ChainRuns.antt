-- Chains, for all levels at once: an expression can be followed by a tail of its level and of each weaker one.
use Rattle.std.proofs.Common.{◌≡◌, inl, inr, ℕ, zero, suc, ◌≤◌, ◌<◌, List, [], ◌∷◌, ◌++◌, refl, ap, sym, subst, arith}
use Rattle.std.specs.Prelude.{slice_index_or}
use Rattle.std.proofs.lemmas.List.{append-nil, append_assoc}
use Rattle.std.proofs.lemmas.Bool.{cases_lt}
use Rattle.pv_ll.specs.declared.table.Symbol.TheVariants.{Name}
use Rattle.pv_ll.specs.Grammar.{Grammar}
use Rattle.pv_tree.specs.declared.expr.BinaryOp.{BinaryOp}
use Rattle.pv_tree.specs.declared.expr.BinaryOp.TheVariants as o
use Rattle.pv_tree.specs.Tree.{ExprTree, binary}
use Rattle.pv_tree.specs.Lexemes.{Lexeme}
use Rattle.pv_tree.specs.Expressions.{strength, strength_of, IsBetween}
use Rattle.pv_parse.specs.declared.action.Action.{Action}
use Rattle.pv_parse.specs.KindNumbers as n
use Rattle.pv_parse.specs.FrontNames as name
use Rattle.pv_parse.specs.FrontBodies as b
use Rattle.pv_parse.specs.TokenTexts.{times_of, compare_of}
use Rattle.pv_parse.specs.Items.{Stack, token, expr}
use Rattle.pv_parse.proofs.TokenKinds as kind
use Rattle.pv_parse.proofs.OperatorTexts.{times_mul, times_div, compare_is}
use Rattle.pv_parse.proofs.Gets.{Gets, empty, on, to, then, by, pass}

-- ---- names by levels

abbrev pub chains : List ℕ
chains =
    name.expression ∷ name.xor_chain ∷ name.and_chain ∷ name.equal_chain ∷ name.compare_chain ∷ name.sum_chain ∷ name.product_chain ∷ name.factor ∷ []

abbrev pub tails : List ℕ
tails = name.or_tail ∷ name.xor_tail ∷ name.and_tail ∷ name.equal_tail ∷ name.compare_tail ∷ name.sum_tail ∷ name.product_tail ∷ []

abbrev pub links : List ℕ
links = name.or_link ∷ name.xor_link ∷ name.and_link ∷ name.equal_link ∷ name.compare_link ∷ name.sum_link ∷ name.product_link ∷ []

abbrev pub chain_at : ℕ → ℕ
chain_at l = slice_index_or chains l 0

abbrev pub tail_at : ℕ → ℕ
tail_at l = slice_index_or tails l 0

abbrev pub link_at : ℕ → ℕ
link_at l = slice_index_or links l 0

-- the productions of a level, on the stack
pub record Level (rest : Grammar) (acts : List Action) (l : ℕ) : Type 0 where
  pub joins : (ts : List Lexeme) (s behind : Stack) → Gets rest acts (Name (chain_at (suc l)) ∷ Name (tail_at l) ∷ []) ts s behind
      → Gets rest acts (Name (chain_at l) ∷ []) ts s behind
  pub goes_on : (ts : List Lexeme) (s behind : Stack) → Gets rest acts (Name (link_at l) ∷ Name (tail_at l) ∷ []) ts s behind
      → Gets rest acts (Name (tail_at l) ∷ []) ts s behind
  pub stops : (s : Stack) → Gets rest acts (Name (tail_at l) ∷ []) [] s s

pub level : (rest : Grammar) (acts : List Action) (l : ℕ) → l < 7 → Level rest acts l
level rest acts zero h = record {
  joins = λ ts s behind g. by b.expression_1 b.expression_1_body refl g refl;
  goes_on = λ ts s behind g. by b.or_tail_1 b.or_tail_1_body refl g refl;
  stops = λ s. by b.or_tail_2 b.or_tail_2_body refl empty refl;
}
level rest acts (suc zero) h = record {
  joins = λ ts s behind g. by b.xor_chain_1 b.xor_chain_1_body refl g refl;
  goes_on = λ ts s behind g. by b.xor_tail_1 b.xor_tail_1_body refl g refl;
  stops = λ s. by b.xor_tail_2 b.xor_tail_2_body refl empty refl;
}
level rest acts (suc (suc zero)) h = record {
  joins = λ ts s behind g. by b.and_chain_1 b.and_chain_1_body refl g refl;
  goes_on = λ ts s behind g. by b.and_tail_1 b.and_tail_1_body refl g refl;
  stops = λ s. by b.and_tail_2 b.and_tail_2_body refl empty refl;
}
level rest acts (suc (suc (suc zero))) h = record {
  joins = λ ts s behind g. by b.equal_chain_1 b.equal_chain_1_body refl g refl;
  goes_on = λ ts s behind g. by b.equal_tail_1 b.equal_tail_1_body refl g refl;
  stops = λ s. by b.equal_tail_2 b.equal_tail_2_body refl empty refl;
}
level rest acts (suc (suc (suc (suc zero)))) h = record {
  joins = λ ts s behind g. by b.compare_chain_1 b.compare_chain_1_body refl g refl;
  goes_on = λ ts s behind g. by b.compare_tail_1 b.compare_tail_1_body refl g refl;
  stops = λ s. by b.compare_tail_2 b.compare_tail_2_body refl empty refl;
}
level rest acts (suc (suc (suc (suc (suc zero))))) h = record {
  joins = λ ts s behind g. by b.sum_chain_1 b.sum_chain_1_body refl g refl;
  goes_on = λ ts s behind g. by b.sum_tail_1 b.sum_tail_1_body refl g refl;
  stops = λ s. by b.sum_tail_2 b.sum_tail_2_body refl empty refl;
}
level rest acts (suc (suc (suc (suc (suc (suc zero)))))) h = record {
  joins = λ ts s behind g. by b.product_chain_1 b.product_chain_1_body refl g refl;
  goes_on = λ ts s behind g. by b.product_tail_1 b.product_tail_1_body refl g refl;
  stops = λ s. by b.product_tail_2 b.product_tail_2_body refl empty refl;
}
level rest acts (suc (suc (suc (suc (suc (suc (suc l))))))) h = absurd (omega arith)

-- ---- what expressions can do

-- the expression, and a tail of the level behind it
abbrev pub Opens : Grammar → List Action → ℕ → ExprTree → List Lexeme → Type 0
Opens rest acts l e ts = (s : Stack) (more : List Lexeme) (f : ExprTree) → Gets rest acts (Name (tail_at l) ∷ []) more (expr e ∷ s) (expr f ∷ s)
    → Gets rest acts (Name (chain_at l) ∷ []) (ts ++ more) s (expr f ∷ s)

-- the expression alone, at the level
abbrev pub Whole : Grammar → List Action → ℕ → ExprTree → List Lexeme → Type 0
Whole rest acts l e ts = (s : Stack) → Gets rest acts (Name (chain_at l) ∷ []) ts s (expr e ∷ s)

pub record Derived (rest : Grammar) (acts : List Action) (e : ExprTree) (ts : List Lexeme) : Type 0 where
  pub whole : (l : ℕ) → l < 8 → l ≤ strength e → Whole rest acts l e ts
  pub opens : (l : ℕ) → l < 7 → l ≤ strength e → Opens rest acts l e ts

opens_above : (rest : Grammar) (acts : List Action) (l : ℕ) (e : ExprTree) (ts : List Lexeme) → l < 7 → Whole rest acts (suc l) e ts → Opens rest acts l e ts
opens_above rest acts l e ts h w = λ s more f t. (level rest acts l h).joins (ts ++ more) s (expr f ∷ s) (then (w s) t)

whole_of : (rest : Grammar) (acts : List Action) (l : ℕ) (e : ExprTree) (ts : List Lexeme) → l < 7 → Opens rest acts l e ts → Whole rest acts l e ts
whole_of rest acts l e ts h w = λ s. on (append-nil ts) (w s [] e ((level rest acts l h).stops (expr e ∷ s)))

-- what is whole at a level can be opened at each weaker one
pub weaker_opens : (rest : Grammar) (acts : List Action) (k : ℕ) (e : ExprTree) (ts : List Lexeme) → k < 8 → Whole rest acts k e ts → (l : ℕ) → l < k
    → Opens rest acts l e ts
weaker_opens rest acts zero e ts h w l i = absurd (omega arith)
weaker_opens rest acts (suc k) e ts h w l i =
    let top : Opens rest acts k e ts = opens_above rest acts k e ts (omega arith) w in
    elim (cases_lt l k) [
      | inl less ↦ weaker_opens rest acts k e ts (omega arith) (whole_of rest acts k e ts (omega arith) top) l less
      | inr least ↦ let same : k ≡ l = omega arith in subst (λ (z : ℕ). Opens rest acts z e ts) same top
    ]

-- an expression that is an operand
pub as_factor : (rest : Grammar) (acts : List Action) (e : ExprTree) (ts : List Lexeme) → Whole rest acts 7 e ts → Derived rest acts e ts
as_factor rest acts e ts w =
    let down : (l : ℕ) → l < 7 → Opens rest acts l e ts = λ l h. weaker_opens rest acts 7 e ts (omega arith) w l h in
    record {
      whole = λ l h i. elim (cases_lt l 7) [
        | inl less ↦ whole_of rest acts l e ts less (down l less)
        | inr least ↦ let same : 7 ≡ l = omega arith in subst (λ (z : ℕ). Whole rest acts z e ts) same w
      ];
      opens = λ l h i. down l h;
    }

-- a chain of its own level
pub as_chain : (rest : Grammar) (acts : List Action) (k : ℕ) (e : ExprTree) (ts : List Lexeme) → k < 7 → strength e ≡ k → Opens rest acts k e ts
    → Derived rest acts e ts
as_chain rest acts k e ts h level_is w =
    let alone : Whole rest acts k e ts = whole_of rest acts k e ts h w in
    let down : (l : ℕ) → l < 7 → l ≤ k → Opens rest acts l e ts = λ l i j. elim (cases_lt l k) [
      | inl less ↦ weaker_opens rest acts k e ts (omega arith) alone l less
      | inr least ↦ let same : k ≡ l = omega arith in subst (λ (z : ℕ). Opens rest acts z e ts) same w
    ] in
    record {
      whole = λ l i j.
          let below : l ≤ k = omega (arith, level_is) in
          let low : l < 7 = omega (arith, h) in
          whole_of rest acts l e ts low (down l low below);
      opens = λ l i j. down l i (omega (arith, level_is));
    }

-- ---- links

pub level_low : (op : BinaryOp) → strength_of op < 7
level_low o.Mul = omega arith
level_low o.Div = omega arith
level_low o.Mod = omega arith
level_low o.Add = omega arith
level_low o.Sub = omega arith
level_low o.Less = omega arith
level_low o.Greater = omega arith
level_low o.LessEqual = omega arith
level_low o.GreaterEqual = omega arith
level_low o.Equal = omega arith
level_low o.NotEqual = omega arith
level_low o.And = omega arith
level_low o.Xor = omega arith
level_low o.Or = omega arith

-- what a link by its token makes
made : (op made_op : BinaryOp) (t : Lexeme) (e r : ExprTree) (s : Stack) → made_op ≡ op → ◌≡◌ {A = Stack} (expr (binary made_op t.place e r) ∷ s)
    (expr (binary op t.place e r) ∷ s)
made op made_op t e r s p = ap (λ (z : BinaryOp). expr (binary z t.place e r) ∷ s) p

pub linked : (rest : Grammar) (acts : List Action) (op : BinaryOp) (t : Lexeme) (e r : ExprTree) (ts : List Lexeme) (s : Stack) → IsBetween op t
    → Whole rest acts (suc (strength_of op)) r ts
    → Gets rest acts (Name (link_at (strength_of op)) ∷ []) (t ∷ ts) (expr e ∷ s) (expr (binary op t.place e r) ∷ s)
linked rest acts o.Or t e r ts s h w =
    by b.or_link_1 b.or_link_1_body refl (then (pass n.or_word t (kind.between o.Or t h)) (w (token t ∷ expr e ∷ s))) refl
linked rest acts o.Xor t e r ts s h w =
    by b.xor_link_1 b.xor_link_1_body refl (then (pass n.xor_word t (kind.between o.Xor t h)) (w (token t ∷ expr e ∷ s))) refl
linked rest acts o.And t e r ts s h w =
    by b.and_link_1 b.and_link_1_body refl (then (pass n.and_word t (kind.between o.And t h)) (w (token t ∷ expr e ∷ s))) refl
linked rest acts o.Equal t e r ts s h w =
    by b.equal_link_1 b.equal_link_1_body refl (then (pass n.equals t (kind.between o.Equal t h)) (w (token t ∷ expr e ∷ s))) refl
linked rest acts o.NotEqual t e r ts s h w =
    by b.equal_link_2 b.equal_link_2_body refl (then (pass n.unequal t (kind.between o.NotEqual t h)) (w (token t ∷ expr e ∷ s))) refl
linked rest acts o.Add t e r ts s h w =
    by b.sum_link_1 b.sum_link_1_body refl (then (pass n.plus t (kind.between o.Add t h)) (w (token t ∷ expr e ∷ s))) refl
linked rest acts o.Sub t e r ts s h w =
    by b.sum_link_2 b.sum_link_2_body refl (then (pass n.minus t (kind.between o.Sub t h)) (w (token t ∷ expr e ∷ s))) refl
linked rest acts o.Mod t e r ts s h w =
    by b.product_link_2 b.product_link_2_body refl (then (pass n.mod_word t (kind.between o.Mod t h)) (w (token t ∷ expr e ∷ s))) refl
linked rest acts o.Mul t e r ts s h w =
    to (made o.Mul (times_of t.bytes) t e r s (times_mul t.bytes h.bytes))
    (by b.product_link_1 b.product_link_1_body refl (then (pass n.times t (kind.between o.Mul t h)) (w (token t ∷ expr e ∷ s))) refl)
linked rest acts o.Div t e r ts s h w =
    to (made o.Div (times_of t.bytes) t e r s (times_div t h))
    (by b.product_link_1 b.product_link_1_body refl (then (pass n.times t (kind.between o.Div t h)) (w (token t ∷ expr e ∷ s))) refl)
linked rest acts o.Less t e r ts s h w =
    to (made o.Less (compare_of t.bytes) t e r s (compare_is o.Less t tt h))
    (by b.compare_link_1 b.compare_link_1_body refl (then (pass n.compare_sign t (kind.between o.Less t h)) (w (token t ∷ expr e ∷ s))) refl)
linked rest acts o.Greater t e r ts s h w =
    to (made o.Greater (compare_of t.bytes) t e r s (compare_is o.Greater t tt h))
    (by b.compare_link_1 b.compare_link_1_body refl (then (pass n.compare_sign t (kind.between o.Greater t h)) (w (token t ∷ expr e ∷ s))) refl)
linked rest acts o.LessEqual t e r ts s h w =
    to (made o.LessEqual (compare_of t.bytes) t e r s (compare_is o.LessEqual t tt h))
    (by b.compare_link_1 b.compare_link_1_body refl (then (pass n.compare_sign t (kind.between o.LessEqual t h)) (w (token t ∷ expr e ∷ s))) refl)
linked rest acts o.GreaterEqual t e r ts s h w =
    to (made o.GreaterEqual (compare_of t.bytes) t e r s (compare_is o.GreaterEqual t tt h))
    (by b.compare_link_1 b.compare_link_1_body refl (then (pass n.compare_sign t (kind.between o.GreaterEqual t h)) (w (token t ∷ expr e ∷ s))) refl)

-- an operator between its operands
pub between : (rest : Grammar) (acts : List Action) (op : BinaryOp) (t : Lexeme) (e r : ExprTree) (us vs : List Lexeme) → IsBetween op t
    → strength_of op ≤ strength e → strength_of op < strength r → Derived rest acts e us → Derived rest acts r vs
    → Derived rest acts (binary op t.place e r) (us ++ t ∷ vs)
between rest acts op t e r us vs h i j d f =
    let low : strength_of op < 7 = level_low op in
    let right : Whole rest acts (suc (strength_of op)) r vs = f.whole (suc (strength_of op)) (omega (arith, low)) (omega (arith, j)) in
    as_chain rest acts (strength_of op) (binary op t.place e r) (us ++ t ∷ vs) low refl (λ s more g tail.
    on (sym (append_assoc us (t ∷ vs) more)) (d.opens (strength_of op) low i s ((t ∷ vs) ++ more) g
    ((level rest acts (strength_of op) low).goes_on ((t ∷ vs) ++ more) (expr e ∷ s) (expr g ∷ s) (then (linked rest acts op t e r vs s h right) tail))))
