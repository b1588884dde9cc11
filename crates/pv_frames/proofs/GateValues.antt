-- A gate's clauses hold exactly where it is what its operands make: they mean `beq g (..)`, a table of truth values by `refl`, after an
-- `ap` by `value-complement` for each operand.
use Rattle.std.proofs.Common.{◌≡◌, ℕ, Bool, true, false, not, cond, ◌||◌, ◌&&◌, refl, sym, ◌∙◌, ap}
use Rattle.std.specs.Bool.{beq}
use Rattle.std.specs.List.{list_all}
use Rattle.pv_gate.specs.Value.{exclusive_or}
use Rattle.pv_cnf.specs.Literal.{complement, literal_value}
use Rattle.pv_cnf.specs.Clause.{clause_value}
use Rattle.pv_frames.specs.Frames.{and_clauses, xor_clauses, mux_clauses}
use Rattle.pv_frames.proofs.Literals.{value-complement}

pub beq-same : (x y : Bool) → x ≡ y → beq x y ≡ true
beq-same true true e = refl
beq-same true false e = sym e
beq-same false true e = e
beq-same false false e = refl

pub same-beq : (x y : Bool) → beq x y ≡ true → x ≡ y
same-beq true true e = refl
same-beq true false e = sym e
same-beq false true e = e
same-beq false false e = refl

abbrev and_form : Bool → Bool → Bool → Bool → Bool → Bool → Bool
and_form g g' a a' b b' = (g' || (a || false)) && ((g' || (b || false)) && ((g || (a' || (b' || false))) && true))

and_table : (g a b : Bool) → and_form g (not g) a (not a) b (not b) ≡ beq g (a && b)
and_table true true true = refl
and_table true true false = refl
and_table true false true = refl
and_table true false false = refl
and_table false true true = refl
and_table false true false = refl
and_table false false true = refl
and_table false false false = refl

pub and-means : (values : ℕ → Bool) (g a b : ℕ) → list_all (clause_value values) (and_clauses g a b) ≡ beq (literal_value values g) (literal_value values a && literal_value values b)
and-means values g a b =
    let v = literal_value values in
    ap (λ (x : Bool). and_form (v g) x (v a) (v (complement a)) (v b) (v (complement b))) (value-complement values g)
    ∙ (ap (λ (x : Bool). and_form (v g) (not (v g)) (v a) x (v b) (v (complement b))) (value-complement values a)
    ∙ (ap (λ (x : Bool). and_form (v g) (not (v g)) (v a) (not (v a)) (v b) x) (value-complement values b)
    ∙ and_table (v g) (v a) (v b)))

abbrev xor_form : Bool → Bool → Bool → Bool → Bool → Bool → Bool
xor_form g g' a a' b b' = (g' || (a || (b || false))) && ((g' || (a' || (b' || false))) && ((g || (a' || (b || false))) && ((g || (a || (b' || false))) && true)))

xor_table : (g a b : Bool) → xor_form g (not g) a (not a) b (not b) ≡ beq g (exclusive_or a b)
xor_table true true true = refl
xor_table true true false = refl
xor_table true false true = refl
xor_table true false false = refl
xor_table false true true = refl
xor_table false true false = refl
xor_table false false true = refl
xor_table false false false = refl

pub xor-means : (values : ℕ → Bool) (g a b : ℕ) → list_all (clause_value values) (xor_clauses g a b) ≡ beq (literal_value values g) (exclusive_or (literal_value values a) (literal_value values b))
xor-means values g a b =
    let v = literal_value values in
    ap (λ (x : Bool). xor_form (v g) x (v a) (v (complement a)) (v b) (v (complement b))) (value-complement values g)
    ∙ (ap (λ (x : Bool). xor_form (v g) (not (v g)) (v a) x (v b) (v (complement b))) (value-complement values a)
    ∙ (ap (λ (x : Bool). xor_form (v g) (not (v g)) (v a) (not (v a)) (v b) x) (value-complement values b)
    ∙ xor_table (v g) (v a) (v b)))

abbrev mux_form : Bool → Bool → Bool → Bool → Bool → Bool → Bool → Bool → Bool
mux_form g g' s s' a a' b b' = (g' || (s' || (a || false))) && ((g || (s' || (a' || false))) && ((g' || (s || (b || false))) && ((g || (s || (b' || false))) && true)))

mux_table : (g s a b : Bool) → mux_form g (not g) s (not s) a (not a) b (not b) ≡ beq g (cond s a b)
mux_table true true true true = refl
mux_table true true true false = refl
mux_table true true false true = refl
mux_table true true false false = refl
mux_table true false true true = refl
mux_table true false true false = refl
mux_table true false false true = refl
mux_table true false false false = refl
mux_table false true true true = refl
mux_table false true true false = refl
mux_table false true false true = refl
mux_table false true false false = refl
mux_table false false true true = refl
mux_table false false true false = refl
mux_table false false false true = refl
mux_table false false false false = refl

pub mux-means : (values : ℕ → Bool) (g s a b : ℕ) → list_all (clause_value values) (mux_clauses g s a b) ≡ beq (literal_value values g) (cond (literal_value values s) (literal_value values a) (literal_value values b))
mux-means values g s a b =
    let v = literal_value values in
    ap (λ (x : Bool). mux_form (v g) x (v s) (v (complement s)) (v a) (v (complement a)) (v b) (v (complement b))) (value-complement values g)
    ∙ (ap (λ (x : Bool). mux_form (v g) (not (v g)) (v s) x (v a) (v (complement a)) (v b) (v (complement b))) (value-complement values s)
    ∙ (ap (λ (x : Bool). mux_form (v g) (not (v g)) (v s) (not (v s)) (v a) x (v b) (v (complement b))) (value-complement values a)
    ∙ (ap (λ (x : Bool). mux_form (v g) (not (v g)) (v s) (not (v s)) (v a) (not (v a)) (v b) x) (value-complement values b)
    ∙ mux_table (v g) (v s) (v a) (v b))))
