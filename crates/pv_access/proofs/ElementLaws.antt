-- What the term of an element is worth where its indexes lie within their bounds, and what the sets of elements put.
use Rattle.std.proofs.Common.{◌≡◌, ◌<◌, ◌≤◌, ◌⊎◌, inl, inr, ℕ, zero, suc, ◌+◌, ◌*◌, ℤ, pos, List, [], ◌∷◌, ◌++◌, Bool as Truth, true, false, refl, sym, ap, subst, ◌∙◌, arith}
use Rattle.std.specs.Prelude.{◌+ℤ◌, ◌-ℤ◌, int_le, unsigned_abs, ◌&&◌, if◌then◌else◌, ◌==◌}
use Rattle.std.specs.Ordering.{int_eq}
use Rattle.std.proofs.lemmas.Int.{ints}
use Rattle.std.proofs.lemmas.Bool.{eqb-true, eqb-false, eq-eqb, ne_eqb, cases_lt}
use Rattle.std.proofs.Math.Nat.{mul-le-mul_right}
use Rattle.pv_word.specs.declared.types.Ty.{Ty}
use Rattle.pv_word.specs.declared.types.Ty.TheVariants.{Bool}
use Rattle.pv_flow.specs.Terms.{Term, variable, Valuation, value_of, holds_in, number_of, is_true}
use Rattle.pv_flow.specs.Automata.{Set}
use Rattle.pv_access.specs.Accesses.{Move, steps_of, is_at, chosen_up, element_term, where_all, Writing, width_of, each_below, element_sets}
use Rattle.pv_access.specs.Correct.{AreInside, moved_by, span, AreNested}

-- ---- which element is named

-- so many steps behind the lowest
abbrev pub step_of : Valuation → Move → ℕ
step_of w m = unsigned_abs (value_of w m.index -ℤ m.low)

true_number : (b : Truth) → is_true (number_of b) ≡ b
true_number true = refl
true_number false = refl

index_is : (i low : ℤ) (k : ℕ) → int_le low i ≡ true → int_eq i (low +ℤ pos k) ≡ (k == unsigned_abs (i -ℤ low))
index_is i low k from = lead (int_eq i (low +ℤ pos k)) (k == unsigned_abs (i -ℤ low)) refl refl
  where
    lead : (b c : Truth) → int_eq i (low +ℤ pos k) ≡ b → (k == unsigned_abs (i -ℤ low)) ≡ c → b ≡ c
    lead true true e f = refl
    lead false false e f = refl
    lead true false e f = absurd (grind (arith, ints))
    lead false true e f = absurd (grind (arith, ints))

at_is : (w : Valuation) (m : Move) (k : ℕ) → int_le m.low (value_of w m.index) ≡ true → holds_in w (is_at m k) ≡ (k == step_of w m)
at_is w m k from = true_number (int_eq (value_of w m.index) (m.low +ℤ pos k)) ∙ index_is (value_of w m.index) m.low k from

step_within : (w : Valuation) (m : Move) → int_le m.low (value_of w m.index) ≡ true → int_le (value_of w m.index) m.high ≡ true
    → step_of w m ≤ steps_of m
step_within w m from to = within (value_of w m.index) m.low m.high from to
  where
    within : (i low high : ℤ) → int_le low i ≡ true → int_le i high ≡ true → unsigned_abs (i -ℤ low) ≤ unsigned_abs (high -ℤ low)
    within i low high from to = omega (arith, ints, from, to)

-- ---- reads

chosen_value : (w : Valuation) (ty : Ty) (m : Move) (element : ℕ → Term) (k : ℕ) → int_le m.low (value_of w m.index) ≡ true
    → step_of w m ≤ k → value_of w (chosen_up ty m element k) ≡ value_of w (element (step_of w m))
chosen_value w ty m element zero from le = ap (λ (n : ℕ). value_of w (element n)) (none (step_of w m) le)
  where
    none : (n : ℕ) → n ≤ 0 → 0 ≡ n
    none n le = omega (arith, le)
chosen_value w ty m element (suc k) from le = lead (λ less. chosen_value w ty m element k from less) (suc k == step_of w m) refl
  where
    before : (n : ℕ) → (suc k ≡ n → ⊥) → n ≤ suc k → n ≤ k
    before n ne le = omega (arith, ne, le)

    lead : (step_of w m ≤ k → value_of w (chosen_up ty m element k) ≡ value_of w (element (step_of w m))) → (b : Truth) → (suc k == step_of w m) ≡ b
        → (if holds_in w (is_at m (suc k)) then value_of w (element (suc k)) else value_of w (chosen_up ty m element k))
        ≡ value_of w (element (step_of w m))
    lead rest true e =
        ap (λ (b : Truth). if b then value_of w (element (suc k)) else value_of w (chosen_up ty m element k)) (at_is w m (suc k) from ∙ e)
        ∙ ap (λ (n : ℕ). value_of w (element n)) (eqb-true (suc k) (step_of w m) e)
    lead rest false e =
        ap (λ (b : Truth). if b then value_of w (element (suc k)) else value_of w (chosen_up ty m element k)) (at_is w m (suc k) from ∙ e)
        ∙ rest (before (step_of w m) (eqb-false (suc k) (step_of w m) e) le)

pub element_value : (w : Valuation) (ty : Ty) (width : ℕ) (ms : List Move) (n : ℕ) → AreInside w ms
    → value_of w (element_term ty width ms n) ≡ w (n + moved_by w ms * width)
element_value w ty width [] n inside = ap w (none n width)
  where
    none : (n width : ℕ) → n ≡ n + 0 * width
    none n width = omega arith
element_value w ty width (m ∷ more) n inside =
    chosen_value w ty m (λ k. element_term ty width more (n + k * (m.stride * width))) (steps_of m) inside.0 (step_within w m inside.0 inside.1)
    ∙ element_value w ty width more (n + step_of w m * (m.stride * width)) inside.2
    ∙ ap w (further n (step_of w m) m.stride width (moved_by w more))
  where
    further : (n k s width more : ℕ) → n + k * (s * width) + more * width ≡ n + (k * s + more) * width
    further n k s width more = omega arith

-- ---- sets, all of which stand in the valuation before

-- a set of one of so many variables from n on to what it is
pub record Leaves (w : Valuation) (n count : ℕ) (set : Set) : Type 0 where
  pub from : n ≤ set.variable
  pub to : set.variable < n + count
  pub value : value_of w set.value ≡ w set.variable

-- all conditions hold
abbrev pub all_hold : Valuation → List Term → Truth
all_hold w [] = true
all_hold w (c ∷ conditions) = holds_in w c && all_hold w conditions

where_value : (w : Valuation) (ty : Ty) (conditions : List Term) (new old : Term)
    → value_of w (where_all ty conditions new old) ≡ (if all_hold w conditions then value_of w new else value_of w old)
where_value w ty [] new old = refl
where_value w ty (c ∷ conditions) new old = lead (holds_in w c) (all_hold w conditions) (where_value w ty conditions new old)
  where
    lead : (b d : Truth) → value_of w (where_all ty conditions new old) ≡ (if d then value_of w new else value_of w old)
        → (if b then value_of w (where_all ty conditions new old) else value_of w old)
        ≡ (if b && d then value_of w new else value_of w old)
    lead true d e = e
    lead false d e = refl

all_and_one : (w : Valuation) (conditions : List Term) (c : Term) → all_hold w (conditions ++ c ∷ []) ≡ (all_hold w conditions && holds_in w c)
all_and_one w [] c = last (holds_in w c)
  where
    last : (b : Truth) → (b && true) ≡ b
    last true = refl
    last false = refl
all_and_one w (d ∷ conditions) c =
    ap (λ (b : Truth). holds_in w d && b) (all_and_one w conditions c) ∙ assoc (holds_in w d) (all_hold w conditions) (holds_in w c)
  where
    assoc : (a b e : Truth) → (a && (b && e)) ≡ ((a && b) && e)
    assoc true b e = refl
    assoc false b e = refl

-- ---- each set, and some set

abbrev pub EachSet : (Set → Type 0) → List Set → Type 0
EachSet P [] = Unit {0}
EachSet P (s ∷ sets) = P s × EachSet P sets

each_weaker : (P Q : Set → Type 0) (xs : List Set) → ((s : Set) → P s → Q s) → EachSet P xs → EachSet Q xs
each_weaker P Q [] f h = tt
each_weaker P Q (s ∷ xs) f h = (f s h.0, each_weaker P Q xs f h.1)

each_append : (P : Set → Type 0) (xs ys : List Set) → EachSet P xs → EachSet P ys → EachSet P (xs ++ ys)
each_append P [] ys a b = b
each_append P (s ∷ xs) ys a b = (a.0, each_append P xs ys a.1 b)

each_of_all : (P : Set → Type 0) (sets : ℕ → List Set) (count : ℕ) → ((k : ℕ) → k < count → EachSet P (sets k)) → EachSet P (each_below sets count)
each_of_all P sets zero h = tt
each_of_all P sets (suc k) h =
    each_append P (each_below sets k) (sets k) (each_of_all P sets k (λ j lt. h j (omega (arith, lt)))) (h k (omega arith))

-- one is of variable c
abbrev pub Hits : ℕ → List Set → Type 0
Hits c [] = ⊥
Hits c (s ∷ sets) = (s.variable ≡ c) ⊎ Hits c sets

hits_left : (c : ℕ) (xs ys : List Set) → Hits c xs → Hits c (xs ++ ys)
hits_left c [] ys h = absurd h
hits_left c (s ∷ xs) ys (inl e) = inl e
hits_left c (s ∷ xs) ys (inr h) = inr (hits_left c xs ys h)

hits_right : (c : ℕ) (xs ys : List Set) → Hits c ys → Hits c (xs ++ ys)
hits_right c [] ys h = h
hits_right c (s ∷ xs) ys h = inr (hits_right c xs ys h)

hits_one : (c : ℕ) (sets : ℕ → List Set) (count k : ℕ) → k < count → Hits c (sets k) → Hits c (each_below sets count)
hits_one c sets zero k lt h = absurd (omega (arith, lt))
hits_one c sets (suc j) k lt h = lead (λ less. hits_one c sets j k less h) (k == j) refl
  where
    before : (k ≡ j → ⊥) → k < j
    before ne = omega (arith, ne, lt)

    lead : (k < j → Hits c (each_below sets j)) → (b : Truth) → (k == j) ≡ b → Hits c (each_below sets j ++ sets j)
    lead earlier true e = hits_right c (each_below sets j) (sets j) (subst (λ (i : ℕ). Hits c (sets i)) (eqb-true k j e) h)
    lead earlier false e = hits_left c (each_below sets j) (sets j) (earlier (before (eqb-false k j e)))

-- ---- where some condition fails, each element stays

range_one : (n k s width inner steps x : ℕ) → k < suc steps → n + k * (s * width) ≤ x → x < n + k * (s * width) + inner * width
    → (n ≤ x) × (x < n + (steps * s + inner) * width)
range_one n k s width inner steps x lt from to =
    let most : k * (s * width) ≤ steps * (s * width) = mul-le-mul_right (s * width) (omega (arith, lt)) in
    (omega (arith, from), omega (arith, to, most))

pub stays : (w : Valuation) (paired : Truth) (ty : Ty) (wr : Writing) (ms : List Move) (conditions : List Term) (n : ℕ)
    → all_hold w conditions ≡ false
    → EachSet (Leaves w n (span ms * width_of paired)) (element_sets paired ty wr conditions ms n)
stays w false ty wr [] conditions n e = (
  record {
    from = omega arith;
    to = omega arith;
    value = where_value w ty conditions (wr.value (variable n)) (variable n)
        ∙ ap (λ (b : Truth). if b then value_of w (wr.value (variable n)) else w n) e;
  },
  tt,
)
stays w true ty wr [] conditions n e = (
  record {
    from = omega arith;
    to = omega arith;
    value = where_value w ty conditions (wr.value (variable n)) (variable n)
        ∙ ap (λ (b : Truth). if b then value_of w (wr.value (variable n)) else w n) e;
  },
  (
    record {
      from = omega arith;
      to = omega arith;
      value = where_value w Bool conditions (wr.present (variable (suc n))) (variable (suc n))
          ∙ ap (λ (b : Truth). if b then value_of w (wr.present (variable (suc n))) else w (suc n)) e;
    },
    tt,
  ),
)
stays w paired ty wr (m ∷ more) conditions n e =
    each_of_all (Leaves w n (span (m ∷ more) * width_of paired))
    (λ k. element_sets paired ty wr (conditions ++ is_at m k ∷ []) more (n + k * (m.stride * width_of paired))) (suc (steps_of m))
    (λ k lt. each_weaker (Leaves w (n + k * (m.stride * width_of paired)) (span more * width_of paired)) (Leaves w n (span (m ∷ more) * width_of paired))
    (element_sets paired ty wr (conditions ++ is_at m k ∷ []) more (n + k * (m.stride * width_of paired)))
    (λ s h. let r = range_one n k m.stride (width_of paired) (span more) (steps_of m) s.variable lt h.from h.to in record { from = r.0; to = r.1; value = h.value })
    (stays w paired ty wr more (conditions ++ is_at m k ∷ []) (n + k * (m.stride * width_of paired)) (all_and_one w conditions (is_at m k) ∙ ap (λ (b : Truth). b && holds_in w (is_at m k)) e)))

-- ---- where all hold, the element that is named takes the value

-- what variable x is then, where c is the one that is named
abbrev pub after : Truth → Valuation → ℕ → ℤ → ℤ → ℕ → ℤ
after false w c v p x = if x == c then v else w x
after true w c v p x = if x == c then v else (if x == suc c then p else w x)

pub record Takes (paired : Truth) (w : Valuation) (n count c : ℕ) (v p : ℤ) (set : Set) : Type 0 where
  pub from : n ≤ set.variable
  pub to : set.variable < n + count
  pub value : value_of w set.value ≡ after paired w c v p set.variable

pub moved_within : (w : Valuation) (ms : List Move) → AreInside w ms → moved_by w ms < span ms
moved_within w [] inside = omega arith
moved_within w (m ∷ more) inside =
    let rest = moved_within w more inside.2 in
    let most : step_of w m * m.stride ≤ steps_of m * m.stride = mul-le-mul_right m.stride (step_within w m inside.0 inside.1) in
    omega (arith, rest, most)

-- an element at another index is none of the one's variables
elsewhere : (n k j s width inner moved e x : ℕ) → (k ≡ j → ⊥) → n + k * (s * width) ≤ x → x < n + k * (s * width) + inner * width
    → inner ≤ s → moved < inner → e < width → x ≡ n + (j * s + moved) * width + e → ⊥
elsewhere n k j s width inner moved e x ne from to nested lt few is =
    let within : inner * width ≤ s * width = mul-le-mul_right width nested in
    let own : (moved + 1) * width ≤ inner * width = mul-le-mul_right width (omega (arith, lt)) in
    apart (k * (s * width)) (j * (s * width)) (s * width) (inner * width) (moved * width)
    (λ less. let p : (k + 1) * (s * width) ≤ j * (s * width) = mul-le-mul_right (s * width) (omega (arith, less)) in omega (arith, p))
    (λ less. let p : (j + 1) * (s * width) ≤ k * (s * width) = mul-le-mul_right (s * width) (omega (arith, less)) in omega (arith, p))
    within (omega (arith, own)) (omega (arith, is)) from to
  where
    apart : (a b one inside mw : ℕ) → (k < j → a + one ≤ b) → (j < k → b + one ≤ a) → inside ≤ one → mw + width ≤ inside
        → x ≡ n + b + mw + e → n + a ≤ x → x < n + a + inside → ⊥
    apart a b one inside mw up down within own is from to = elim (cases_lt k j) [
      | inl less ↦ (let p = up less in omega (arith, p, within, own, is, from, to))
      | inr most ↦ (let p = down (omega (arith, ne, most)) in omega (arith, p, within, own, is, from, to, few))
    ]

after_other : (paired : Truth) (w : Valuation) (c x : ℕ) (v p : ℤ) → (x ≡ c → ⊥) → (paired ≡ true → x ≡ suc c → ⊥) → after paired w c v p x ≡ w x
after_other false w c x v p ne pe = ap (λ (b : Truth). if b then v else w x) (ne_eqb x c ne)
after_other true w c x v p ne pe =
    ap (λ (b : Truth). if b then v else (if x == suc c then p else w x)) (ne_eqb x c ne)
    ∙ ap (λ (b : Truth). if b then p else w x) (ne_eqb x (suc c) (pe refl))

wide : (paired : Truth) → 0 < width_of paired
wide false = omega arith
wide true = omega arith

paired_wide : (paired : Truth) → paired ≡ true → 1 < width_of paired
paired_wide true e = omega arith
paired_wide false e = cc

pub takes : (w : Valuation) (paired : Truth) (ty : Ty) (wr : Writing) (ms : List Move) (conditions : List Term) (n c : ℕ)
    → all_hold w conditions ≡ true → AreInside w ms → AreNested ms → c ≡ n + moved_by w ms * width_of paired
    → EachSet (Takes paired w n (span ms * width_of paired) c (value_of w (wr.value (variable c))) (value_of w (wr.present (variable (suc c)))))
    (element_sets paired ty wr conditions ms n)
takes w false ty wr [] conditions n c e inside nested is = (
  record {
    from = omega arith;
    to = omega arith;
    value = where_value w ty conditions (wr.value (variable n)) (variable n)
        ∙ ap (λ (b : Truth). if b then value_of w (wr.value (variable n)) else w n) e
        ∙ ap (λ (x : ℕ). value_of w (wr.value (variable x))) (own n c is)
        ∙ sym (ap (λ (b : Truth). if b then value_of w (wr.value (variable c)) else w n) (eq-eqb n c (own n c is)));
  },
  tt,
)
  where
    own : (n c : ℕ) → c ≡ n + 0 * 1 → n ≡ c
    own n c e = omega (arith, e)
takes w true ty wr [] conditions n c e inside nested is = (
  record {
    from = omega arith;
    to = omega arith;
    value = where_value w ty conditions (wr.value (variable n)) (variable n)
        ∙ ap (λ (b : Truth). if b then value_of w (wr.value (variable n)) else w n) e
        ∙ ap (λ (x : ℕ). value_of w (wr.value (variable x))) (own n c is)
        ∙ sym (ap (λ (b : Truth). if b then value_of w (wr.value (variable c)) else (if n == suc c then value_of w (wr.present (variable (suc c))) else w n))
        (eq-eqb n c (own n c is)));
  },
  (
    record {
      from = omega arith;
      to = omega arith;
      value = where_value w Bool conditions (wr.present (variable (suc n))) (variable (suc n))
          ∙ ap (λ (b : Truth). if b then value_of w (wr.present (variable (suc n))) else w (suc n)) e
          ∙ ap (λ (x : ℕ). value_of w (wr.present (variable (suc x)))) (own n c is)
          ∙ sym (ap (λ (b : Truth). if b then value_of w (wr.value (variable c)) else (if suc n == suc c then value_of w (wr.present (variable (suc c))) else w (suc n)))
          (ne_eqb (suc n) c (other n c is))
          ∙ ap (λ (b : Truth). if b then value_of w (wr.present (variable (suc c))) else w (suc n)) (eq-eqb (suc n) (suc c) (ap suc (own n c is))));
    },
    tt,
  ),
)
  where
    own : (n c : ℕ) → c ≡ n + 0 * 2 → n ≡ c
    own n c e = omega (arith, e)

    other : (n c : ℕ) → c ≡ n + 0 * 2 → suc n ≡ c → ⊥
    other n c e f = omega (arith, e, f)
takes w paired ty wr (m ∷ more) conditions n c e inside nested is =
    each_of_all Q elements (suc (steps_of m)) (λ k lt. lead k lt
    (λ f. takes w paired ty wr more (conditions ++ is_at m k ∷ []) (n + k * (m.stride * width)) c (holds k true f) inside.2 nested.1 (place k (eqb-true k (step_of w m) f)))
    (k == step_of w m) refl)
  where
    v : ℤ
    v = value_of w (wr.value (variable c))

    p : ℤ
    p = value_of w (wr.present (variable (suc c)))

    width : ℕ
    width = width_of paired

    Q : Set → Type 0
    Q = Takes paired w n (span (m ∷ more) * width) c v p

    elements : ℕ → List Set
    elements = λ k. element_sets paired ty wr (conditions ++ is_at m k ∷ []) more (n + k * (m.stride * width))

    holds : (k : ℕ) (b : Truth) → (k == step_of w m) ≡ b → all_hold w (conditions ++ is_at m k ∷ []) ≡ b
    holds k b f = all_and_one w conditions (is_at m k) ∙ ap (λ (x : Truth). x && holds_in w (is_at m k)) e ∙ at_is w m k inside.0 ∙ f

    around : (n k s width more : ℕ) → n + (k * s + more) * width ≡ n + k * (s * width) + more * width
    around n k s width more = omega arith

    place : (k : ℕ) → k ≡ step_of w m → c ≡ n + k * (m.stride * width) + moved_by w more * width
    place k f = is ∙ around n (step_of w m) m.stride width (moved_by w more) ∙ ap (λ (j : ℕ). n + j * (m.stride * width) + moved_by w more * width) (sym f)

    plus_none : (x : ℕ) → x ≡ x + 0
    plus_none x = omega arith

    plus_one : (x : ℕ) → suc x ≡ x + 1
    plus_one x = omega arith

    other : (k : ℕ) (x : ℕ) → (k ≡ step_of w m → ⊥) → n + k * (m.stride * width) ≤ x → x < n + k * (m.stride * width) + span more * width
        → after paired w c v p x ≡ w x
    other k x ne from to = after_other paired w c x v p
        (λ f. elsewhere n k (step_of w m) m.stride width (span more) (moved_by w more) 0 x ne from to nested.0 (moved_within w more inside.2)
        (wide paired) (f ∙ is ∙ plus_none (n + (step_of w m * m.stride + moved_by w more) * width)))
        (λ pe f. elsewhere n k (step_of w m) m.stride width (span more) (moved_by w more) 1 x ne from to nested.0 (moved_within w more inside.2)
        (paired_wide paired pe) (f ∙ ap suc is ∙ plus_one (n + (step_of w m * m.stride + moved_by w more) * width)))

    lead : (k : ℕ) → k < suc (steps_of m)
        → ((k == step_of w m) ≡ true → EachSet (Takes paired w (n + k * (m.stride * width)) (span more * width) c v p) (elements k))
        → (b : Truth) → (k == step_of w m) ≡ b → EachSet Q (elements k)
    lead k lt rest true f = each_weaker (Takes paired w (n + k * (m.stride * width)) (span more * width) c v p) Q (elements k)
        (λ s h. let r = range_one n k m.stride width (span more) (steps_of m) s.variable lt h.from h.to in record { from = r.0; to = r.1; value = h.value })
        (rest f)
    lead k lt rest false f = each_weaker (Leaves w (n + k * (m.stride * width)) (span more * width)) Q (elements k)
        (λ s h. let r = range_one n k m.stride width (span more) (steps_of m) s.variable lt h.from h.to in
        record { from = r.0; to = r.1; value = h.value ∙ sym (other k s.variable (eqb-false k (step_of w m) f) h.from h.to) })
        (stays w paired ty wr more (conditions ++ is_at m k ∷ []) (n + k * (m.stride * width)) (holds k false f))

-- one of the sets is the named element's, and one is its 'set'
pub hits : (w : Valuation) (paired : Truth) (ty : Ty) (wr : Writing) (ms : List Move) (conditions : List Term) (n : ℕ) → AreInside w ms
    → Hits (n + moved_by w ms * width_of paired) (element_sets paired ty wr conditions ms n)
    × (paired ≡ true → Hits (suc (n + moved_by w ms * width_of paired)) (element_sets paired ty wr conditions ms n))
hits w false ty wr [] conditions n inside = (inl (none n), λ e. cc)
  where
    none : (n : ℕ) → n ≡ n + 0 * 1
    none n = omega arith
hits w true ty wr [] conditions n inside = (inl (none n), λ e. inr (inl (ap suc (none n))))
  where
    none : (n : ℕ) → n ≡ n + 0 * 2
    none n = omega arith
hits w paired ty wr (m ∷ more) conditions n inside =
    let within = step_within w m inside.0 inside.1 in
    let rest = hits w paired ty wr more (conditions ++ is_at m (step_of w m) ∷ []) (n + step_of w m * (m.stride * width_of paired)) inside.2 in
    let same = around n (step_of w m) m.stride (width_of paired) (moved_by w more) in (
      hits_one (n + moved_by w (m ∷ more) * width_of paired) elements (suc (steps_of m)) (step_of w m) (omega (arith, within))
          (subst (λ (c : ℕ). Hits c (elements (step_of w m))) same rest.0),
      λ e. hits_one (suc (n + moved_by w (m ∷ more) * width_of paired)) elements (suc (steps_of m)) (step_of w m) (omega (arith, within))
          (subst (λ (c : ℕ). Hits (suc c) (elements (step_of w m))) same (rest.1 e)),
    )
  where
    elements : ℕ → List Set
    elements = λ k. element_sets paired ty wr (conditions ++ is_at m k ∷ []) more (n + k * (m.stride * width_of paired))

    around : (n k s width more : ℕ) → n + k * (s * width) + more * width ≡ n + (k * s + more) * width
    around n k s width more = omega arith
