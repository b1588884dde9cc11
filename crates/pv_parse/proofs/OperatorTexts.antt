-- What single tokens say by their texts: operators, truth values, areas.
use Rattle.std.proofs.Common.{◌≡◌, ◌⊎◌, inl, inr, ℕ, Bool, true, false, ◌||◌, ◌==◌, cond, List, [], ◌∷◌, Option, refl, ap, sym, ◌∙◌, arith}
use Rattle.std.specs.Prelude.{ℤ, pos, codes}
use Rattle.std.specs.Str.{bytes_eq, str_eq_ignore_ascii_case}
use Rattle.pv_word.specs.declared.types.Ty.{Ty}
use Rattle.pv_lex.specs.declared.class.Class.TheVariants as c
use Rattle.pv_lex.specs.Shapes.{begins}
use Rattle.pv_tree.specs.declared.expr.Area.{Area}
use Rattle.pv_tree.specs.declared.expr.Area.TheVariants as area
use Rattle.pv_tree.specs.declared.expr.BinaryOp.{BinaryOp}
use Rattle.pv_tree.specs.declared.expr.BinaryOp.TheVariants as o
use Rattle.pv_tree.specs.Lexemes.{Lexeme, IsSign, IsWord}
use Rattle.pv_tree.specs.Literals.{IsTruth, IsAreaLetter}
use Rattle.pv_tree.specs.Expressions.{IsBetween}
use Rattle.pv_parse.specs.Kinds.{begins_area}
use Rattle.pv_parse.specs.TokenTexts.{times_of, compare_of, truth_of, area_of_letter}
use Rattle.pv_parse.proofs.CaseBlind.{small, same-small}

-- ---- products

-- the operator by the text in small letters
times_small : (bytes word : List ℕ) → str_eq_ignore_ascii_case bytes word ≡ true → times_of bytes ≡ times_of word
unfolding times_of
times_small bytes word h = ap (λ (z : List ℕ). cond (bytes_eq z (small (codes "*"))) o.Mul o.Div) (same-small bytes word h)

pub times_mul : (bytes : List ℕ) → str_eq_ignore_ascii_case bytes (codes "*") ≡ true → times_of bytes ≡ o.Mul
unfolding times_of
times_mul bytes h = times_small bytes (codes "*") h

pub times_div : (t : Lexeme) → IsSign "/" t ⊎ IsWord "DIV" t → times_of t.bytes ≡ o.Div
unfolding times_of
times_div t (inl h) = times_small t.bytes (codes "/") h.bytes
times_div t (inr h) = times_small t.bytes (codes "DIV") h.bytes

-- ---- comparisons

compare_small : (bytes word : List ℕ) → str_eq_ignore_ascii_case bytes word ≡ true → compare_of bytes ≡ compare_of word
unfolding compare_of
compare_small bytes word h =
    ap (λ (z : List ℕ). cond (bytes_eq z (small (codes "<"))) o.Less (cond (bytes_eq z (small (codes ">"))) o.Greater
    (cond (bytes_eq z (small (codes "<="))) o.LessEqual o.GreaterEqual))) (same-small bytes word h)

-- the operator compares by order
abbrev pub Compares : BinaryOp → Type 0
Compares o.Less = Unit {0}
Compares o.Greater = Unit {0}
Compares o.LessEqual = Unit {0}
Compares o.GreaterEqual = Unit {0}
Compares _ = ⊥

pub compare_is : (op : BinaryOp) (t : Lexeme) → Compares op → IsBetween op t → compare_of t.bytes ≡ op
unfolding compare_of
compare_is o.Less t c h = compare_small t.bytes (codes "<") h.bytes
compare_is o.Greater t c h = compare_small t.bytes (codes ">") h.bytes
compare_is o.LessEqual t c h = compare_small t.bytes (codes "<=") h.bytes
compare_is o.GreaterEqual t c h = compare_small t.bytes (codes ">=") h.bytes
compare_is _ t c h = absurd c

-- ---- truth values

truth_small : (bytes word : List ℕ) → str_eq_ignore_ascii_case bytes word ≡ true → truth_of bytes ≡ truth_of word
unfolding truth_of
truth_small bytes word h = ap (λ (z : List ℕ). cond (bytes_eq z (small (codes "TRUE"))) (pos 1) (pos 0)) (same-small bytes word h)

pub truth_is : (own : Option Ty) (value : ℤ) (t : Lexeme) → IsTruth own value t → truth_of t.bytes ≡ value
unfolding truth_of
truth_is own value t h =
    elim h.valued [
      | inl w ↦ truth_small t.bytes (codes "TRUE") w.0.bytes ∙ sym w.1
      | inr w ↦ truth_small t.bytes (codes "FALSE") w.0.bytes ∙ sym w.1
    ]

-- ---- areas

-- one letter is no other
apart : (a b x y t : ℕ) → (t == a || t == b) ≡ true → (a == x || a == y) ≡ false → (b == x || b == y) ≡ false → (t == x || t == y) ≡ false
apart a b x y t e f g = grind arith

begins_apart : (a b x y : ℕ) (text : List ℕ) → (a == x || a == y) ≡ false → (b == x || b == y) ≡ false → begins (c.Either a b) text ≡ true
    → begins (c.Either x y) text ≡ false
begins_apart a b x y [] f g h = refl
begins_apart a b x y (t ∷ others) f g h = apart a b x y t h f g

letter_by : (p q r : Bool) (text : List ℕ) → begins (c.Either 73 105) text ≡ p → begins (c.Either 81 113) text ≡ q → begins (c.Either 77 109) text ≡ r
    → (p || q || r) ≡ true → IsAreaLetter (cond p area.I (cond q area.Q area.M)) text
letter_by true q r text e f g h = e
letter_by false true r text e f g h = f
letter_by false false true text e f g h = g
letter_by false false false text e f g h = absurd (cc (h))

pub letter_of : (text : List ℕ) → begins_area text ≡ true → IsAreaLetter (area_of_letter text) text
letter_of text h = letter_by (begins (c.Either 73 105) text) (begins (c.Either 81 113) text) (begins (c.Either 77 109) text) text refl refl refl h

pub area_is : (its : Area) (text : List ℕ) → IsAreaLetter its text → area_of_letter text ≡ its
area_is area.I text h = ap (λ (z : Bool). cond z area.I (cond (begins (c.Either 81 113) text) area.Q area.M)) h
area_is area.Q text h =
    ap (λ (z : Bool). cond z area.I (cond (begins (c.Either 81 113) text) area.Q area.M)) (begins_apart 81 113 73 105 text refl refl h)
    ∙ ap (λ (z : Bool). cond z area.Q area.M) h
area_is area.M text h =
    ap (λ (z : Bool). cond z area.I (cond (begins (c.Either 81 113) text) area.Q area.M)) (begins_apart 77 109 73 105 text refl refl h)
    ∙ ap (λ (z : Bool). cond z area.Q area.M) (begins_apart 77 109 81 113 text refl refl h)
