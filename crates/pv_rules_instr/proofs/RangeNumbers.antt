-- The last and the first of a range, by number, are those of the ranges of instructions.
use Rattle.std.proofs.Common.{◌≡◌, ℕ, zero, suc, ◌+◌, ◌<◌, ◌≤◌, refl, sym, ap, subst, ◌∙◌, arith, inl, inr, [], ◌∷◌, set, length, replicate, Option, Some, None, Bool, true, false, ◌&&◌, true≢false, is_some, IsTrue, if◌then◌else◌}
use Rattle.std.specs.Prelude.{◌⊎◌, ◌≢◌, nat_eq, nat_lt, nat_le, unwrap_or}
use Rattle.std.proofs.lemmas.Bool.Decides.{nat_tests}
use Rattle.std.proofs.lemmas.List.{length-set, length-replicate, get_or-set_same, get_or-set_other, get_or-replicate, get_or_past}
use Rattle.pv_rules_instr.specs.AtRanges.{Numbers, number_at, is_this, mark_last, lasts_from, lasts_of, first_of, firsts_from}

none_some : {X : Type 0} (x : X) → None ≡ Some x → ⊥
none_some x e = true≢false (sym (ap is_some e))

same_some : {X : Type 0} (x y : X) → Some x ≡ Some y → x ≡ y
same_some x y e = ap (λ o. unwrap_or o x) e

-- ---- numbers

pub plus_none : (s : ℕ) → s ≡ s + 0
plus_none s = omega arith

pub plus_next : (s k : ℕ) → suc s + k ≡ s + suc k
plus_next s k = omega arith

pub none_plus : (n : ℕ) → n ≡ 0 + n
none_plus n = omega arith

-- ---- tests

eq_is : (a b : ℕ) → nat_eq a b ≡ true → a ≡ b
eq_is a b h = grind (arith, nat_tests)

eq_self : (a : ℕ) → nat_eq a a ≡ true
eq_self a = grind (arith, nat_tests)

neq_is : (a b : ℕ) → nat_eq a b ≡ false → a ≢ b
neq_is a b h e = true≢false (sym (eq_self a) ∙ ap (nat_eq a) e ∙ h)

pub le_is : (a b : ℕ) → nat_le a b ≡ true → a ≤ b
le_is a b h = grind (arith, nat_tests)

pub is_le : (a b : ℕ) → a ≤ b → nat_le a b ≡ true
is_le a b h = grind (arith, nat_tests)

not_le : (a b : ℕ) → nat_le a b ≡ false → b < a
not_le a b h = grind (arith, nat_tests)

is_lt : (a b : ℕ) → a < b → nat_lt a b ≡ true
is_lt a b h = grind (arith, nat_tests)

this_is : (f : ℕ) (o : Option ℕ) → IsTrue (is_this f o) → o ≡ Some f
this_is f None h = absurd (true≢false (sym h))
this_is f (Some m) h = ap Some (sym (eq_is f m h))

is_this_so : (f : ℕ) (o : Option ℕ) → o ≡ Some f → IsTrue (is_this f o)
is_this_so f o e = ap (is_this f) e ∙ eq_self f

both_on : (a b : Bool) → IsTrue (a && b) → IsTrue a × IsTrue b
both_on true b h = (refl, h)
both_on false b h = absurd (true≢false (sym h))

on_both : (a b : Bool) → IsTrue a → IsTrue b → IsTrue (a && b)
on_both true b h g = g
on_both false b h g = absurd (true≢false (sym h))

-- ---- one mark

abbrev pub better : ℕ → ℕ → Option ℕ → Option ℕ → Option ℕ
better f s goal best = if is_this f goal && nat_le f s then Some s else best

marked_at : (ls : Numbers) (goal : Option ℕ) (s f : ℕ) → f < length ls → number_at (mark_last ls goal s) f ≡ better f s goal (number_at ls f)
marked_at ls None s f lt = refl
marked_at ls (Some m) s f lt = by (nat_eq f m) refl
  where
    same : (b : Bool) → nat_le f s ≡ b
        → number_at (if nat_le f s && nat_lt f (length ls) then set ls f (Some s) else ls) f ≡ (if true && nat_le f s then Some s else number_at ls f)
    same true on =
        ap (λ b. number_at (if b then set ls f (Some s) else ls) f) (on_both (nat_le f s) (nat_lt f (length ls)) on (is_lt f (length ls) lt))
        ∙ get_or-set_same ls f (Some s) None lt
        ∙ sym (ap (λ b. if true && b then Some s else number_at ls f) on)
    same false off =
        ap (λ b. number_at (if b && nat_lt f (length ls) then set ls f (Some s) else ls) f) off
        ∙ sym (ap (λ b. if true && b then Some s else number_at ls f) off)

    other : f ≢ m → (b : Bool) → number_at (if b then set ls m (Some s) else ls) f ≡ number_at ls f
    other isnt true = get_or-set_other ls m f (Some s) None isnt
    other isnt false = refl

    by : (b : Bool) → nat_eq f m ≡ b → number_at (mark_last ls (Some m) s) f ≡ better f s (Some m) (number_at ls f)
    by true on =
        let e : f ≡ m = eq_is f m on in
        subst (λ k. number_at (mark_last ls (Some k) s) f ≡ (if true && nat_le f s then Some s else number_at ls f)) e (same (nat_le f s) refl)
        ∙ sym (ap (λ b. if b && nat_le f s then Some s else number_at ls f) on)
    by false off =
        other (neq_is f m off) (nat_le m s && nat_lt m (length ls))
        ∙ sym (ap (λ b. if b && nat_le f s then Some s else number_at ls f) off)

marks_long : (ls : Numbers) (goal : Option ℕ) (s : ℕ) → length (mark_last ls goal s) ≡ length ls
marks_long ls None s = refl
marks_long ls (Some m) s = by (nat_le m s && nat_lt m (length ls))
  where
    by : (b : Bool) → length (if b then set ls m (Some s) else ls) ≡ length ls
    by true = length-set ls m (Some s)
    by false = refl

lasts_long : (s : ℕ) (gs ls : Numbers) → length (lasts_from s gs ls) ≡ length ls
lasts_long s [] ls = refl
lasts_long s (g ∷ gs) ls = lasts_long (suc s) gs (mark_last ls g s) ∙ marks_long ls g s

-- ---- all marks

abbrev last_to : ℕ → ℕ → Numbers → Option ℕ → Option ℕ
last_to f s [] best = best
last_to f s (g ∷ gs) best = last_to f (suc s) gs (better f s g best)

lasts_at : (f s : ℕ) (gs ls : Numbers) → f < length ls → number_at (lasts_from s gs ls) f ≡ last_to f s gs (number_at ls f)
lasts_at f s [] ls lt = refl
lasts_at f s (g ∷ gs) ls lt =
    lasts_at f (suc s) gs (mark_last ls g s) (subst (λ n. f < n) (sym (marks_long ls g s)) lt) ∙ ap (last_to f (suc s) gs) (marked_at ls g s f lt)

-- none of them goes back to f, counted from s
abbrev NoneBack : ℕ → ℕ → Numbers → Type 0
NoneBack f s gs = (k : ℕ) → number_at gs k ≡ Some f → f ≤ s + k → ⊥

record LastBack (f s : ℕ) (gs : Numbers) (l : ℕ) : Type 0 where
  pub k : ℕ
  pub is_at : s + k ≡ l
  pub goes : number_at gs k ≡ Some f
  pub back : f ≤ l
  pub none_later : (m : ℕ) → k < m → number_at gs m ≡ Some f → ⊥

not_better : (f s : ℕ) (g : Option ℕ) → is_this f g && nat_le f s ≡ false → g ≡ Some f → f ≤ s → ⊥
not_better f s g off is le = true≢false (sym (on_both (is_this f g) (nat_le f s) (is_this_so f g is) (is_le f s le)) ∙ off)

none_more : (f s : ℕ) (g : Option ℕ) (gs : Numbers) → is_this f g && nat_le f s ≡ false → NoneBack f (suc s) gs → NoneBack f s (g ∷ gs)
none_more f s g gs off none zero is le = not_better f s g off is (omega (arith, le))
none_more f s g gs off none (suc k) is le = none k is (omega (arith, le))

last_some : (f s : ℕ) (gs : Numbers) (best : Option ℕ) (l : ℕ) → last_to f s gs best ≡ Some l → ((best ≡ Some l) × NoneBack f s gs) ⊎ LastBack f s gs l
last_some f s [] best l e = inl (e, λ k is le. none_some f is)
last_some f s (g ∷ gs) best l e = by (is_this f g && nat_le f s) refl (last_some f (suc s) gs (better f s g best) l e)
  where
    further : LastBack f (suc s) gs l → LastBack f s (g ∷ gs) l
    further r = record {
      k = suc r.k;
      is_at = omega (arith, r.is_at);
      goes = r.goes;
      back = r.back;
      none_later = later;
    }
      where
        later : (m : ℕ) → suc r.k < m → number_at (g ∷ gs) m ≡ Some f → ⊥
        later zero lt is = omega (arith, lt)
        later (suc m) lt is = r.none_later m (omega (arith, lt)) is

    here : IsTrue (is_this f g && nat_le f s) → NoneBack f (suc s) gs → LastBack f s (g ∷ gs) s
    here on none = let h = both_on (is_this f g) (nat_le f s) on in record {
      k = 0;
      is_at = omega arith;
      goes = this_is f g h.0;
      back = le_is f s h.1;
      none_later = later (le_is f s h.1);
    }
      where
        later : f ≤ s → (m : ℕ) → 0 < m → number_at (g ∷ gs) m ≡ Some f → ⊥
        later le zero lt is = omega (arith, lt)
        later le (suc m) lt is = none m is (omega (arith, le))

    by : (b : Bool) → is_this f g && nat_le f s ≡ b → ((better f s g best ≡ Some l) × NoneBack f (suc s) gs) ⊎ LastBack f (suc s) gs l
        → ((best ≡ Some l) × NoneBack f s (g ∷ gs)) ⊎ LastBack f s (g ∷ gs) l
    by b is (inr r) = inr (further r)
    by true on (inl h) =
        inr (subst (LastBack f s (g ∷ gs)) (same_some s l (sym (ap (λ b. if b then Some s else best) on) ∙ h.0)) (here on h.1))
    by false off (inl h) = inl (sym (ap (λ b. if b then Some s else best) off) ∙ h.0, none_more f s g gs off h.1)

last_stays : (f s : ℕ) (gs : Numbers) (best : Option ℕ) → NoneBack f s gs → last_to f s gs best ≡ best
last_stays f s [] best none = refl
last_stays f s (g ∷ gs) best none =
    last_stays f (suc s) gs (better f s g best) (λ k is le. none (suc k) is (omega (arith, le)))
    ∙ by (is_this f g && nat_le f s) refl
  where
    by : (b : Bool) → is_this f g && nat_le f s ≡ b → better f s g best ≡ best
    by true on = let h = both_on (is_this f g) (nat_le f s) on in absurd (none 0 (this_is f g h.0) (let le = le_is f s h.1 in omega (arith, le)))
    by false off = ap (λ b. if b then Some s else best) off

last_found : (f s : ℕ) (gs : Numbers) (best : Option ℕ) (k : ℕ) → number_at gs k ≡ Some f → f ≤ s + k
    → ((m : ℕ) → k < m → number_at gs m ≡ Some f → ⊥) → last_to f s gs best ≡ Some (s + k)
last_found f s [] best k is le none = absurd (none_some f is)
last_found f s (g ∷ gs) best zero is le none =
    let lf : f ≤ s = omega (arith, le) in
    last_stays f (suc s) gs (better f s g best) (λ k is le. none (suc k) (omega arith) is)
    ∙ ap (λ b. if b then Some s else best) (on_both (is_this f g) (nat_le f s) (is_this_so f g is) (is_le f s lf))
    ∙ ap Some (plus_none s)
last_found f s (g ∷ gs) best (suc k) is le none =
    last_found f (suc s) gs (better f s g best) k is (omega (arith, le)) (λ m lt it. none (suc m) (omega (arith, lt)) it) ∙ ap Some (plus_next s k)

-- ---- ranges

pub record IsRangeOf (goals : Numbers) (f l : ℕ) : Type 0 where
  pub back : f ≤ l
  pub goes : number_at goals l ≡ Some f
  pub none_later : (j : ℕ) → l < j → number_at goals j ≡ Some f → ⊥

pub inside : (ns : Numbers) (n m : ℕ) → number_at ns n ≡ Some m → n < length ns
inside ns n m e = by (nat_le (length ns) n) refl
  where
    by : (b : Bool) → nat_le (length ns) n ≡ b → n < length ns
    by true on = absurd (none_some m (sym (get_or_past ns n None (le_is (length ns) n on)) ∙ e))
    by false off = not_le (length ns) n off

pub lasts_of_long : (goals : Numbers) → length (lasts_of goals) ≡ length goals
lasts_of_long goals = lasts_long 0 goals (replicate (length goals) None) ∙ length-replicate (length goals) None

start_none : (goals : Numbers) (f : ℕ) → f < length goals → number_at (replicate (length goals) None) f ≡ None
start_none goals f lt = get_or-replicate (length goals) f None None lt

abbrev empty : ℕ → Numbers
empty n = replicate n None

long_start : (goals : Numbers) (f : ℕ) → f < length goals → f < length (empty (length goals))
long_start goals f lt = subst (λ n. f < n) (sym (length-replicate (length goals) None)) lt

pub range_of_last : (goals : Numbers) (f l : ℕ) → number_at (lasts_of goals) f ≡ Some l → IsRangeOf goals f l
range_of_last goals f l e =
    let lt : f < length goals = subst (λ n. f < n) (lasts_long 0 goals (replicate (length goals) None) ∙ length-replicate (length goals) None)
    (inside (lasts_of goals) f l e) in
    elim (last_some f 0 goals (number_at (replicate (length goals) None) f) l
    (sym (lasts_at f 0 goals (replicate (length goals) None) (long_start goals f lt)) ∙ e)) [
      | inl h ↦ absurd (none_some l (sym (start_none goals f lt) ∙ h.0))
      | inr r ↦ of_back r
    ]
  where
    of_back : LastBack f 0 goals l → IsRangeOf goals f l
    of_back r = let same : r.k ≡ l = omega (arith, r.is_at) in record {
      back = r.back;
      goes = subst (λ n. number_at goals n ≡ Some f) same r.goes;
      none_later = λ j lt is. r.none_later j (subst (λ n. n < j) (sym same) lt) is;
    }

pub last_of_range : (goals : Numbers) (f l : ℕ) → IsRangeOf goals f l → number_at (lasts_of goals) f ≡ Some l
last_of_range goals f l r =
    let there = inside goals l f r.goes in
    let lt : f < length goals = let b = r.back in omega (arith, b, there) in
    lasts_at f 0 goals (replicate (length goals) None) (long_start goals f lt)
    ∙ last_found f 0 goals (number_at (replicate (length goals) None) f) l r.goes (let b = r.back in omega (arith, b)) r.none_later
    ∙ ap Some (sym (none_plus l))

-- ---- firsts

first_at : (lasts : Numbers) (s : ℕ) (gs : Numbers) (k : ℕ) → number_at (firsts_from lasts s gs) k ≡ first_of lasts (s + k) (number_at gs k)
first_at lasts s [] k = refl
first_at lasts s (g ∷ gs) zero = ap (λ n. first_of lasts n g) (plus_none s)
first_at lasts s (g ∷ gs) (suc k) = first_at lasts (suc s) gs k ∙ ap (λ n. first_of lasts n (number_at gs k)) (plus_next s k)

pub last_of_first : (goals : Numbers) (l f : ℕ) → number_at (firsts_from (lasts_of goals) 0 goals) l ≡ Some f → number_at (lasts_of goals) f ≡ Some l
last_of_first goals l f e = by (number_at goals l) (sym (first_at (lasts_of goals) 0 goals l ∙ ap (λ n. first_of (lasts_of goals) n (number_at goals l)) (sym (none_plus l))) ∙ e)
  where
    test : (g : ℕ) (b : Bool) → is_this l (number_at (lasts_of goals) g) ≡ b → (if b then Some g else None) ≡ Some f → number_at (lasts_of goals) f ≡ Some l
    test g true on h = subst (λ n. number_at (lasts_of goals) n ≡ Some l) (same_some g f h) (this_is l (number_at (lasts_of goals) g) on)
    test g false off h = absurd (none_some f h)

    by : (o : Option ℕ) → first_of (lasts_of goals) l o ≡ Some f → number_at (lasts_of goals) f ≡ Some l
    by None h = absurd (none_some f h)
    by (Some g) h = test g (is_this l (number_at (lasts_of goals) g)) refl h

pub first_of_last : (goals : Numbers) (l f : ℕ) → number_at (lasts_of goals) f ≡ Some l → number_at (firsts_from (lasts_of goals) 0 goals) l ≡ Some f
first_of_last goals l f e =
    let r = range_of_last goals f l e in
    first_at (lasts_of goals) 0 goals l ∙ ap (λ n. first_of (lasts_of goals) n (number_at goals l)) (sym (none_plus l))
    ∙ ap (first_of (lasts_of goals) l) r.goes
    ∙ ap (λ b. if b then Some f else None) (is_this_so l (number_at (lasts_of goals) f) e)
