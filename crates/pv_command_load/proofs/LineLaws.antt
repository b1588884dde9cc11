-- An offset in a text has one line and one column there.
use Rattle.std.proofs.Common.{◌≡◌, ℕ, zero, suc, ◌+◌, ◌≤◌, List, [], ◌∷◌, length, take, reverse, Bool, true, false, not, cond, Some, refl, ap, ◌∙◌, subst, arith, slice_get, sym, min}
use Rattle.std.specs.Prelude.{◌==◌, count_by}
use Rattle.std.specs.List.{prefix_len, suffix_len, sum_by, onto_first}
use Rattle.std.proofs.lemmas.Bool.{eqb-true, eq-eqb, ne_eqb}
use Rattle.std.proofs.lemmas.Option.{none-some, same_Some}
use Rattle.std.proofs.lemmas.List.{length-reverse, reverse-append, length-take}
use Rattle.std.proofs.lemmas.List.Folds.{prefix_len-append}
use Rattle.std.proofs.lemmas.List.Sums.{sum_by-cons}
use Rattle.pv_command_load.specs.Positions.{is_feed, line_behind, column_behind, lines_in, IsLineAndColumn}

-- ---- what stands behind the last line feed, with a byte in front

abbrev other : ℕ → Bool
other byte = not (is_feed byte)

behind_front : (x : ℕ) (ys : List ℕ) → suffix_len other (x ∷ ys)
    ≡ cond (suffix_len other ys == length ys) (length ys + cond (other x) 1 0) (suffix_len other ys)
behind_front x ys =
    ap (prefix_len other) (reverse-append (x ∷ []) ys) ∙ prefix_len-append other (reverse ys) (x ∷ [])
    ∙ ap (λ (n : ℕ). cond (suffix_len other ys == n) (n + cond (other x) 1 0) (suffix_len other ys)) (length-reverse ys)

behind_feed : (x : ℕ) (ys : List ℕ) → other x ≡ false → suffix_len other (x ∷ ys) ≡ suffix_len other ys
behind_feed x ys e =
    behind_front x ys ∙ ap (λ b. cond (suffix_len other ys == length ys) (length ys + cond b 1 0) (suffix_len other ys)) e
    ∙ either (suffix_len other ys) (length ys) (suffix_len other ys == length ys) refl
  where
    either : (s n : ℕ) (b : Bool) → (s == n) ≡ b → cond b (n + 0) s ≡ s
    either s n true e = omega (arith, eqb-true s n e)
    either s n false e = refl

behind_all : (x : ℕ) (ys : List ℕ) → suffix_len other ys ≡ length ys → other x ≡ true
    → suffix_len other (x ∷ ys) ≡ suc (suffix_len other ys)
behind_all x ys all e =
    behind_front x ys
    ∙ ap (λ b. cond b (length ys + cond (other x) 1 0) (suffix_len other ys)) (eq-eqb (suffix_len other ys) (length ys) all)
    ∙ ap (λ b. length ys + cond b 1 0) e ∙ more (suffix_len other ys) (length ys) all
  where
    more : (s n : ℕ) → s ≡ n → n + 1 ≡ suc s
    more s n e = omega (arith, e)

behind_some : (x : ℕ) (ys : List ℕ) → (suffix_len other ys ≡ length ys → ⊥) → suffix_len other (x ∷ ys) ≡ suffix_len other ys
behind_some x ys some =
    behind_front x ys
    ∙ ap (λ b. cond b (length ys + cond (other x) 1 0) (suffix_len other ys)) (ne_eqb (suffix_len other ys) (length ys) some)

-- ---- line feeds, with a byte in front

feeds_front : (x : ℕ) (ys : List ℕ) (b : Bool) → is_feed x ≡ b → count_by is_feed (x ∷ ys) ≡ cond b 1 0 + count_by is_feed ys
feeds_front x ys b e =
    sum_by-cons (λ (byte : ℕ). cond (is_feed byte) 1 0) x ys ∙ ap (λ (t : Bool). cond t 1 0 + count_by is_feed ys) e

-- ---- lines, with a byte in front

abbrev wide : List ℕ → ℕ
wide line = length line + 1

lines_feed : (x : ℕ) (xs : List ℕ) → is_feed x ≡ true → lines_in (x ∷ xs) ≡ [] ∷ lines_in xs
lines_feed x xs e = ap (λ b. cond b ([] ∷ lines_in xs) (onto_first x (lines_in xs))) e

lines_other : (x : ℕ) (xs : List ℕ) → is_feed x ≡ false → lines_in (x ∷ xs) ≡ onto_first x (lines_in xs)
lines_other x xs e = ap (λ b. cond b ([] ∷ lines_in xs) (onto_first x (lines_in xs))) e

onto_line : (x : ℕ) (lines : List (List ℕ)) (line : List ℕ) → slice_get lines zero ≡ Some line
    → slice_get (onto_first x lines) zero ≡ Some (x ∷ line)
onto_line x [] line e = absurd (none-some line e)
onto_line x (first ∷ lines) line e = ap (λ (l : List ℕ). Some (x ∷ l)) (same_Some first line e)

onto_later : (x : ℕ) (lines : List (List ℕ)) (n : ℕ) (line : List ℕ) → slice_get lines (suc n) ≡ Some line
    → slice_get (onto_first x lines) (suc n) ≡ Some line
onto_later x [] n line e = absurd (none-some line e)
onto_later x (first ∷ lines) n line e = e

onto_sum : (x : ℕ) (lines : List (List ℕ)) (n : ℕ) (line : List ℕ) → slice_get lines (suc n) ≡ Some line
    → sum_by wide (take (suc n) (onto_first x lines)) ≡ 1 + sum_by wide (take (suc n) lines)
onto_sum x [] n line e = absurd (none-some line e)
onto_sum x (first ∷ lines) n line e =
    sum_by-cons wide (x ∷ first) (take n lines) ∙ more (length first) (sum_by wide (take n lines))
    ∙ ap (λ (m : ℕ). 1 + m) (sym (sum_by-cons wide first (take n lines)))
  where
    more : (m s : ℕ) → (suc m + 1) + s ≡ 1 + ((m + 1) + s)
    more m s = omega arith

some_sum : (lines : List (List ℕ)) (n : ℕ) (line : List ℕ) → slice_get lines (suc n) ≡ Some line → 1 ≤ sum_by wide (take (suc n) lines)
some_sum [] n line e = absurd (none-some line e)
some_sum (first ∷ lines) n line e =
    subst (λ (m : ℕ). 1 ≤ m) (sym (sum_by-cons wide first (take n lines))) (more (length first) (sum_by wide (take n lines)))
  where
    more : (m s : ℕ) → 1 ≤ (m + 1) + s
    more m s = omega arith

first_there : (bytes : List ℕ) → (line : List ℕ) × (slice_get (lines_in bytes) zero ≡ Some line)
first_there [] = ([], refl)
first_there (x ∷ xs) = go (first_there xs) (is_feed x) refl
  where
    go : ((line : List ℕ) × (slice_get (lines_in xs) zero ≡ Some line)) → (b : Bool) → is_feed x ≡ b
        → (line : List ℕ) × (slice_get (lines_in (x ∷ xs)) zero ≡ Some line)
    go h true e = ([], ap (λ (l : List (List ℕ)). slice_get l zero) (lines_feed x xs e))
    go h false e =
        (x ∷ h.0, ap (λ (l : List (List ℕ)). slice_get l zero) (lines_other x xs e) ∙ onto_line x (lines_in xs) h.0 h.1)

-- ---- a byte farther

module _ (x : ℕ) (xs : List ℕ) (k : ℕ) (le : k ≤ length xs)
    (h : IsLineAndColumn xs k (line_behind (take k xs)) (column_behind (take k xs))) where
  abbrev Farther : Type 0
  Farther = IsLineAndColumn (x ∷ xs) (suc k) (line_behind (x ∷ take k xs)) (column_behind (x ∷ take k xs))

  of_feed : is_feed x ≡ true → Farther
  of_feed e = record {
    lines = suc h.lines;
    of_line = h.of_line;
    its_line = h.its_line;
    is_line = ap (λ (l : List (List ℕ)). slice_get l (suc h.lines)) (lines_feed x xs e) ∙ h.is_line;
    within = h.within;
    is_offset = sums (sum_by wide (take h.lines (lines_in xs))) (sum_by wide (take (suc h.lines) (lines_in (x ∷ xs)))) h.of_line k
        (ap (λ (l : List (List ℕ)). sum_by wide (take (suc h.lines) l)) (lines_feed x xs e)
        ∙ sum_by-cons wide [] (take h.lines (lines_in xs)))
        h.is_offset;
    line_is = ap (λ (n : ℕ). n + 1) (feeds_front x (take k xs) true e) ∙ one (count_by is_feed (take k xs)) h.lines h.line_is;
    column_is = ap (λ (n : ℕ). n + 1) (behind_feed x (take k xs) (ap not e)) ∙ h.column_is;
  }
    where
      sums : (s t o n : ℕ) → t ≡ 1 + s → n ≡ s + o → suc n ≡ t + o
      sums s t o n a b = omega (arith, a, b)

      one : (c n : ℕ) → c + 1 ≡ n + 1 → (1 + c) + 1 ≡ suc n + 1
      one c n a = omega (arith, a)

  line_same : is_feed x ≡ false → (n : ℕ) → h.lines ≡ n → line_behind (x ∷ take k xs) ≡ n + 1
  line_same e n z =
      ap (λ (m : ℕ). m + 1) (feeds_front x (take k xs) false e) ∙ none (count_by is_feed (take k xs)) h.lines n h.line_is z
    where
      none : (c l m : ℕ) → c + 1 ≡ l + 1 → l ≡ m → (0 + c) + 1 ≡ m + 1
      none c l m a b = omega (arith, a, b)

  of_other : is_feed x ≡ false → (n : ℕ) → h.lines ≡ n → Farther
  of_other e zero z =
      let here : k ≡ 0 + h.of_line = subst (λ (n : ℕ). k ≡ sum_by wide (take n (lines_in xs)) + h.of_line) z h.is_offset in
      let all = same (suffix_len other (take k xs)) h.of_line k (length (take k xs)) (length xs) h.column_is here (length-take k xs) le in
      record {
        lines = zero;
        of_line = suc h.of_line;
        its_line = x ∷ h.its_line;
        is_line = ap (λ (l : List (List ℕ)). slice_get l zero) (lines_other x xs e)
            ∙ onto_line x (lines_in xs) h.its_line (subst (λ n. slice_get (lines_in xs) n ≡ Some h.its_line) z h.is_line);
        within = omega (arith, h.within);
        is_offset = one k h.of_line here;
        line_is = line_same e zero z;
        column_is = ap (λ (n : ℕ). n + 1) (behind_all x (take k xs) all (ap not e))
            ∙ more (suffix_len other (take k xs)) h.of_line h.column_is;
      }
    where
      same : (s o n t m : ℕ) → s + 1 ≡ o + 1 → n ≡ 0 + o → t ≡ min n m → n ≤ m → s ≡ t
      same s o n t m a b c d = omega (arith, a, b, c, d)

      one : (n o : ℕ) → n ≡ 0 + o → suc n ≡ 0 + suc o
      one n o a = omega (arith, a)

      more : (s o : ℕ) → s + 1 ≡ o + 1 → suc s + 1 ≡ suc o + 1
      more s o a = omega (arith, a)
  of_other e (suc b) z =
      let line = subst (λ n. slice_get (lines_in xs) n ≡ Some h.its_line) z h.is_line in
      let sum = sum_by wide (take (suc b) (lines_in xs)) in
      let here : k ≡ sum + h.of_line = subst (λ (n : ℕ). k ≡ sum_by wide (take n (lines_in xs)) + h.of_line) z h.is_offset in
      record {
        lines = suc b;
        of_line = h.of_line;
        its_line = h.its_line;
        is_line = ap (λ (l : List (List ℕ)). slice_get l (suc b)) (lines_other x xs e) ∙ onto_later x (lines_in xs) b h.its_line line;
        within = h.within;
        is_offset = sums sum (sum_by wide (take (suc b) (lines_in (x ∷ xs)))) h.of_line k
            (ap (λ (l : List (List ℕ)). sum_by wide (take (suc b) l)) (lines_other x xs e)
            ∙ onto_sum x (lines_in xs) b h.its_line line) here;
        line_is = line_same e (suc b) z;
        column_is = ap (λ (n : ℕ). n + 1) (behind_some x (take k xs)
            (fewer (suffix_len other (take k xs)) h.of_line k (length (take k xs)) (length xs) sum h.column_is here (length-take k xs) le
            (some_sum (lines_in xs) b h.its_line line)))
            ∙ h.column_is;
      }
    where
      sums : (s t o n : ℕ) → t ≡ 1 + s → n ≡ s + o → suc n ≡ t + o
      sums s t o n a b = omega (arith, a, b)

      fewer : (s o n t m w : ℕ) → s + 1 ≡ o + 1 → n ≡ w + o → t ≡ min n m → n ≤ m → 1 ≤ w → s ≡ t → ⊥
      fewer s o n t m w a b c d e f = omega (arith, a, b, c, d, e, f)

  farther : (b : Bool) → is_feed x ≡ b → Farther
  farther true e = of_feed e
  farther false e = of_other e h.lines refl

begun : (bytes : List ℕ) → IsLineAndColumn bytes zero (line_behind []) (column_behind [])
begun bytes =
    let first = first_there bytes in
    record {
      lines = zero;
      of_line = zero;
      its_line = first.0;
      is_line = first.1;
      within = omega arith;
      is_offset = refl;
      line_is = refl;
      column_is = refl;
    }

pub line_at : (bytes : List ℕ) (k : ℕ) → k ≤ length bytes
    → IsLineAndColumn bytes k (line_behind (take k bytes)) (column_behind (take k bytes))
line_at bytes zero le = begun bytes
line_at [] (suc k) le = absurd (omega (arith, le))
line_at (x ∷ xs) (suc k) le =
    let near : k ≤ length xs = omega (arith, le) in
    farther x xs k near (line_at xs k near) (is_feed x) refl
