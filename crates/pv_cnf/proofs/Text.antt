-- The DIMACS text determines the clauses: each number ends where the digits end.
-- Text of numbers: std has `decimal_injective`, `first_decimal` and, for induction on digits, `decimal_by_steps`. A law that a
-- text determines its value goes by "the digits end at the first byte below 48" (`cut`).
use Rattle.std.proofs.Common.{◌≡◌, ℕ, ◌+◌, ◌%◌, ◌^◌, ◌<◌, ◌≤◌, Bool, true, false, List, [], ◌∷◌, ◌++◌, length, get_or, drop, append_assoc, refl, ap, ◌∙◌, sym, arith, cond}
use Rattle.std.specs.List.{flat_map, AllByRecursion}
use Rattle.std.specs.Fmt.{decimal}
use Rattle.std.proofs.lemmas.Bool.{or_parts}
use Rattle.std.proofs.lemmas.Fmt.{decimal_by_steps, decimal_injective, first_decimal}
use Rattle.pv_cnf.specs.Literal.{variable_of, is_negated, is_outside}
use Rattle.pv_cnf.specs.Clause.{has_outside, AreClauses}
use Rattle.pv_cnf.specs.Dimacs.{literal_text, clause_line, dimacs_text}

tail : (x y : ℕ) (xs ys : List ℕ) → x ∷ xs ≡ y ∷ ys → xs ≡ ys
tail x y xs ys e = ap (drop 1) e

head : (x y : ℕ) (xs ys : List ℕ) → x ∷ xs ≡ y ∷ ys → x ≡ y
head x y xs ys e = ap (λ zs. get_or zs 0 0) e

-- no byte is below the digits
abbrev High : List ℕ → Type 0
High xs = AllByRecursion (λ c. 48 ≤ c) xs

High-append : (xs ys : List ℕ) → High xs → High ys → High (xs ++ ys)
High-append [] ys a b = b
High-append (x ∷ xs) ys a b = (a.0, High-append xs ys a.1 b)

High-decimal : (n : ℕ) → n < 2 ^ 64 → High (decimal n)
High-decimal n h = decimal_by_steps (λ _ ds. High ds) (λ n small. (omega arith, tt)) (λ n ds large high. High-append ds ((48 + n % 10) ∷ []) high (omega arith, tt)) n h

-- two texts of digits with the same byte below the digits behind them
cut : (s : ℕ) (xs ys us vs : List ℕ) → s < 48 → High xs → High ys → xs ++ s ∷ us ≡ ys ++ s ∷ vs → (xs ≡ ys) × (us ≡ vs)
cut s [] [] us vs low a b e = (refl, tail s s us vs e)
cut s [] (y ∷ ys) us vs low a b e = let same : s ≡ y = head s y us (ys ++ s ∷ vs) e in absurd (omega (arith, same, b.0, low))
cut s (x ∷ xs) [] us vs low a b e = let same : x ≡ s = head x s (xs ++ s ∷ us) vs e in absurd (omega (arith, same, a.0, low))
cut s (x ∷ xs) (y ∷ ys) us vs low a b e =
    let rest : (xs ≡ ys) × (us ≡ vs) = cut s xs ys us vs low a.1 b.1 (tail x y (xs ++ s ∷ us) (ys ++ s ∷ vs) e) in
    let same : x ≡ y = head x y (xs ++ s ∷ us) (ys ++ s ∷ vs) e in
    (ap (λ z. z ∷ xs) same ∙ ap (λ zs. y ∷ zs) rest.0, rest.1)

-- a number and the byte behind it
number_cut : (s m n : ℕ) (us vs : List ℕ) → s < 48 → m < 2 ^ 64 → n < 2 ^ 64 → decimal m ++ s ∷ us ≡ decimal n ++ s ∷ vs → (m ≡ n) × (us ≡ vs)
number_cut s m n us vs low a b e =
    let both : (decimal m ≡ decimal n) × (us ≡ vs) = cut s (decimal m) (decimal n) us vs low (High-decimal m a) (High-decimal n b) e in
    (decimal_injective m n a b both.0, both.1)

-- a number doesn't begin with a sign
no_sign : (xs us vs : List ℕ) → High xs → 45 ∷ vs ≡ xs ++ 32 ∷ us → ⊥
no_sign [] us vs a e = let same : 45 ≡ 32 = head 45 32 vs us e in absurd (omega (arith, same))
no_sign (x ∷ xs) us vs a e = let same : 45 ≡ x = head 45 x vs (xs ++ 32 ∷ us) e in absurd (omega (arith, same, a.0))

-- the literals that have a text of their own
abbrev IsWritable : ℕ → Type 0
IsWritable lit = (0 < variable_of lit) × (variable_of lit < 2 ^ 64)

same_literal : (a b : ℕ) (s : Bool) → is_negated a ≡ s → is_negated b ≡ s → variable_of a ≡ variable_of b → a ≡ b
same_literal a b true p q e = grind (arith, p, q, e)
same_literal a b false p q e = grind (arith, p, q, e)

literal_cut : (a b : ℕ) (us vs : List ℕ) → IsWritable a → IsWritable b → literal_text a ++ 32 ∷ us ≡ literal_text b ++ 32 ∷ vs → (a ≡ b) × (us ≡ vs)
literal_cut a b us vs wa wb e = by (is_negated a) (is_negated b) refl refl e
  where
    by : (p q : Bool) → is_negated a ≡ p → is_negated b ≡ q → (cond p (45 ∷ []) [] ++ decimal (variable_of a)) ++ 32 ∷ us ≡ (cond q (45 ∷ []) [] ++ decimal (variable_of b)) ++ 32 ∷ vs → (a ≡ b) × (us ≡ vs)
    by true true p q e =
        let both : (variable_of a ≡ variable_of b) × (us ≡ vs) = number_cut 32 (variable_of a) (variable_of b) us vs (omega arith) wa.1 wb.1 (tail 45 45 _ _ e) in
        (same_literal a b true p q both.0, both.1)
    by false false p q e =
        let both : (variable_of a ≡ variable_of b) × (us ≡ vs) = number_cut 32 (variable_of a) (variable_of b) us vs (omega arith) wa.1 wb.1 e in
        (same_literal a b false p q both.0, both.1)
    by true false p q e = absurd (no_sign (decimal (variable_of b)) vs _ (High-decimal (variable_of b) wb.1) e)
    by false true p q e = absurd (no_sign (decimal (variable_of a)) us _ (High-decimal (variable_of a) wa.1) (sym e))

-- the line of a clause, and what follows it
line_onto : List ℕ → List ℕ → List ℕ
line_onto [] us = 48 ∷ 10 ∷ us
line_onto (lit ∷ lits) us = literal_text lit ++ 32 ∷ line_onto lits us

onto : (a : List ℕ) (x : ℕ) (b c us : List ℕ) → (((a ++ x ∷ []) ++ b) ++ c) ++ us ≡ a ++ x ∷ ((b ++ c) ++ us)
onto [] x b c us = refl
onto (y ∷ ys) x b c us = ap (λ zs. y ∷ zs) (onto ys x b c us)

clause_line-onto : (lits us : List ℕ) → clause_line lits ++ us ≡ line_onto lits us
unfolding line_onto
clause_line-onto [] us = refl
clause_line-onto (lit ∷ lits) us = onto (literal_text lit) 32 _ (48 ∷ 10 ∷ []) us ∙ ap (λ zs. literal_text lit ++ 32 ∷ zs) (clause_line-onto lits us)

-- a literal doesn't begin as the end of a clause does
not_zero : (xs us vs : List ℕ) → 48 < get_or xs 0 0 → 48 ∷ vs ≡ xs ++ 32 ∷ us → ⊥
not_zero [] us vs h e = absurd (omega (arith, h))
not_zero (x ∷ xs) us vs h e = let same : 48 ≡ x = head 48 x vs (xs ++ 32 ∷ us) e in absurd (omega (arith, same, h))

no_end : (lit : ℕ) (us vs : List ℕ) → IsWritable lit → 48 ∷ vs ≡ literal_text lit ++ 32 ∷ us → ⊥
no_end lit us vs w e = by (is_negated lit) e
  where
    by : (s : Bool) → 48 ∷ vs ≡ (cond s (45 ∷ []) [] ++ decimal (variable_of lit)) ++ 32 ∷ us → ⊥
    by true e = let same : 48 ≡ 45 = head 48 45 vs (decimal (variable_of lit) ++ 32 ∷ us) e in absurd (omega (arith, same))
    by false e = not_zero (decimal (variable_of lit)) us vs (first_decimal (variable_of lit) w.0 w.1) e

line_cut : (ls ms us vs : List ℕ) → AllByRecursion IsWritable ls → AllByRecursion IsWritable ms → line_onto ls us ≡ line_onto ms vs → (ls ≡ ms) × (us ≡ vs)
unfolding line_onto
line_cut [] [] us vs a b e = (refl, ap (drop 2) e)
line_cut [] (m ∷ ms) us vs a b e = absurd (no_end m (line_onto ms vs) (10 ∷ us) b.0 e)
line_cut (l ∷ ls) [] us vs a b e = absurd (no_end l (line_onto ls us) (10 ∷ vs) a.0 (sym e))
line_cut (l ∷ ls) (m ∷ ms) us vs a b e =
    let first : (l ≡ m) × (line_onto ls us ≡ line_onto ms vs) = literal_cut l m (line_onto ls us) (line_onto ms vs) a.0 b.0 e in
    let rest : (ls ≡ ms) × (us ≡ vs) = line_cut ls ms us vs a.1 b.1 first.1 in
    (ap (λ z. z ∷ ls) first.0 ∙ ap (λ zs. m ∷ zs) rest.0, rest.1)

writable : (n : ℕ) (lits : List ℕ) → n < 2 ^ 32 → has_outside n lits ≡ false → AllByRecursion IsWritable lits
writable n [] h e = tt
writable n (lit ∷ lits) h e =
    let parts : (is_outside n lit ≡ false) × (has_outside n lits ≡ false) = or_parts (is_outside n lit) (has_outside n lits) e in
    ((grind (arith, parts.0), grind (arith, parts.0, h)), writable n lits h parts.1)

lines_cut : (m n : ℕ) (cs ds : List (List ℕ)) → m < 2 ^ 32 → n < 2 ^ 32 → AreClauses m cs → AreClauses n ds → length cs ≡ length ds → flat_map clause_line cs ≡ flat_map clause_line ds → cs ≡ ds
lines_cut m n [] [] hm hn a b same e = refl
lines_cut m n [] (d ∷ ds) hm hn a b same e = absurd (omega (arith, same))
lines_cut m n (c ∷ cs) [] hm hn a b same e = absurd (omega (arith, same))
lines_cut m n (c ∷ cs) (d ∷ ds) hm hn a b same e =
    let one : (c ≡ d) × (flat_map clause_line cs ≡ flat_map clause_line ds) = line_cut c d _ _ (writable m c hm a.0.inside) (writable n d hn b.0.inside) (sym (clause_line-onto c (flat_map clause_line cs)) ∙ e ∙ clause_line-onto d (flat_map clause_line ds)) in
    let rest : cs ≡ ds = lines_cut m n cs ds hm hn a.1 b.1 (omega (arith, same)) one.1 in
    ap (λ z. z ∷ cs) one.0 ∙ ap (λ zs. d ∷ zs) rest

regroup : (a : List ℕ) (x : ℕ) (b : List ℕ) (y : ℕ) (c : List ℕ) → (((a ++ x ∷ []) ++ b) ++ y ∷ []) ++ c ≡ a ++ x ∷ (b ++ y ∷ c)
regroup [] x b y c = ap (λ zs. x ∷ zs) (append_assoc b (y ∷ []) c)
regroup (z ∷ zs) x b y c = ap (λ ws. z ∷ ws) (regroup zs x b y c)

pub text_determines : (m n : ℕ) (cs ds : List (List ℕ)) → m < 2 ^ 32 → n < 2 ^ 32 → length cs < 2 ^ 32 → length ds < 2 ^ 32 → AreClauses m cs → AreClauses n ds → dimacs_text m cs ≡ dimacs_text n ds → (m ≡ n) × (cs ≡ ds)
text_determines m n cs ds hm hn hc hd a b e =
    let behind = ap (drop 6) e in
    let body : decimal m ++ 32 ∷ (decimal (length cs) ++ 10 ∷ flat_map clause_line cs) ≡ decimal n ++ 32 ∷ (decimal (length ds) ++ 10 ∷ flat_map clause_line ds) = sym (regroup (decimal m) 32 (decimal (length cs)) 10 (flat_map clause_line cs)) ∙ behind ∙ regroup (decimal n) 32 (decimal (length ds)) 10 (flat_map clause_line ds) in
    let first : (m ≡ n) × (decimal (length cs) ++ 10 ∷ flat_map clause_line cs ≡ decimal (length ds) ++ 10 ∷ flat_map clause_line ds) = number_cut 32 m n _ _ (omega arith) (omega (arith, hm)) (omega (arith, hn)) body in
    let second : (length cs ≡ length ds) × (flat_map clause_line cs ≡ flat_map clause_line ds) = number_cut 10 (length cs) (length ds) _ _ (omega arith) (omega (arith, hc)) (omega (arith, hd)) first.1 in
    (first.0, lines_cut m n cs ds hm hn a b second.0 second.1)
