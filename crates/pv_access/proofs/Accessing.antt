-- Reads and writes, form by form.
use Rattle.std.proofs.Common.{◌≡◌, ◌<◌, ◌≤◌, inl, inr, ℕ, zero, suc, ◌+◌, ◌-◌, ◌*◌, ◌/◌, ◌%◌, ◌^◌, ℤ, pos, List, [], ◌∷◌, Bool as Truth, true, false, cond, Option, Some, None, refl, sym, ap, subst, ◌∙◌, arith}
use Rattle.std.specs.Prelude.{if◌then◌else◌, ◌==◌}
use Rattle.std.proofs.lemmas.Bool.{eqb-true, eqb-false, eq-eqb, ne_eqb}
use Rattle.std.proofs.lemmas.Int.{ints}
use Rattle.pv_word.specs.declared.types.Ty.{Ty}
use Rattle.pv_word.specs.declared.types.Ty.TheVariants.{Bool, Byte, Word, Dword, Int, Dint, Time}
use Rattle.pv_word.specs.Types.{width_of as bits_of, is_signed_of, InRange, wrap_of, pattern_of, bit_of, not_of}
use Rattle.pv_word.specs.Bits.{pattern_at}
use Rattle.pv_word.proofs.ForCallers.{wide, wrap-own, wrap-in_range, pattern-pos, pattern-wrap}
use Rattle.pv_place.specs.declared.place.Place.{Place}
use Rattle.pv_place.specs.declared.trap.TrapKind.TheVariants.{Unset}
use Rattle.pv_mean.specs.Frames.{Frame, visible_value, brief_value}
use Rattle.pv_mean.specs.Endings.{got, trap}
use Rattle.pv_mean.specs.Spots.{visible, brief, bit, bytes, fixed, nowhere, number_of_bytes, told}
use Rattle.pv_flow.specs.Terms.{Term, variable, Valuation, value_of, is_true}
use Rattle.pv_flow.specs.Automata.{Set}
use Rattle.pv_flow.specs.Runs.{put}
use Rattle.pv_flow.specs.Calls.{set_through}
use Rattle.pv_terms.specs.Forms.{converted}
use Rattle.pv_terms.specs.Correct.{ConversionsHold}
use Rattle.pv_access.specs.declared.access.Storage.TheVariants.{Cell, Brief, Bit, Bytes, Fixed, Nowhere}
use Rattle.pv_access.specs.Accesses.{Move, Writing, assigning, element_term, element_sets, bit_term, pattern_type, pattern_sets, byte_sets, unset_check}
use Rattle.pv_access.specs.Correct.{checked, AreInside, moved_by, IsTold, AreBytes, ReadsHold, span, AreNested, AreApart, with_bytes, through, WritesHold}
use Rattle.pv_access.proofs.AreaValues.{bit_value, with_bit_value, bytes_value, byte_put}
use Rattle.pv_access.proofs.ElementLaws.{element_value, EachSet, Hits, after, Takes, takes, hits, moved_within}

-- ---- reads

one_range : InRange Bool (pos 1)
one_range = record { from = omega (arith, ints); to = omega (arith, ints) }

zero_range : InRange Bool (pos 0)
zero_range = record { from = omega (arith, ints); to = omega (arith, ints) }

lacks : not_of Bool (pos 0) ≡ pos 1
lacks = ap (λ (m : ℕ). wrap_of Bool (pos (2 ^ 1 - (m + 1)))) (pattern-pos 1 0) ∙ wrap-own (wide Bool) one_range

has : not_of Bool (pos 1) ≡ pos 0
has = ap (λ (m : ℕ). wrap_of Bool (pos (2 ^ 1 - (m + 1)))) (pattern-pos 1 1) ∙ wrap-own (wide Bool) zero_range

over : (n k : ℕ) → suc n + k ≡ suc (n + k)
over n k = omega arith

read_brief : (w : Valuation) (place : Place) (own : Ty) (n : ℕ) (moves : List Move) (o : Option ℤ) → AreInside w moves
    → IsTold w (n + moved_by w moves * 2) o
    → told o place ≡ checked w (unset_check moves n place ∷ []) (value_of w (element_term own 2 moves n))
read_brief w place own n moves None inside is =
    sym (ap (λ (v : ℤ). if is_true (not_of Bool v) then trap Unset place else got (value_of w (element_term own 2 moves n)))
    (element_value w Bool 2 moves (suc n) inside ∙ ap w (over n (moved_by w moves * 2)) ∙ is)
    ∙ ap (λ (v : ℤ). if is_true v then trap Unset place else got (value_of w (element_term own 2 moves n))) lacks)
read_brief w place own n moves (Some v) inside is =
    ap (λ (x : ℤ). got x) (sym (element_value w own 2 moves n inside ∙ is.0))
    ∙ sym (ap (λ (x : ℤ). if is_true (not_of Bool x) then trap Unset place else got (value_of w (element_term own 2 moves n)))
    (element_value w Bool 2 moves (suc n) inside ∙ ap w (over n (moved_by w moves * 2)) ∙ is.1)
    ∙ ap (λ (x : ℤ). if is_true x then trap Unset place else got (value_of w (element_term own 2 moves n))) has)

read_cell : (frame : Frame) (w : Valuation) (own : Ty) (n m : ℕ) (moves : List Move) → AreInside w moves
    → w (n + moved_by w moves) ≡ visible_value frame m → visible_value frame m ≡ value_of w (element_term own 1 moves n)
read_cell frame w own n m moves inside is =
    sym (element_value w own 1 moves n inside ∙ ap w (once n (moved_by w moves)) ∙ is)
  where
    once : (n k : ℕ) → n + k * 1 ≡ n + k
    once n k = omega arith

read_bit : ConversionsHold → (frame : Frame) (w : Valuation) (n b m c : ℕ) → b ≡ c → AreBytes frame w n m 1
    → pos (bit_of Byte (visible_value frame m) c) ≡ value_of w (bit_term n b)
read_bit conv frame w n b m c e are =
    let here = are 0 (omega arith) in
    ap (λ (v : ℤ). pos (bit_of Byte v c)) (sym (ap w (sym (none n)) ∙ here.0 ∙ ap (λ (x : ℕ). visible_value frame x) (none m)))
    ∙ ap (λ (x : ℕ). pos (bit_of Byte (w n) x)) (sym e)
    ∙ sym (bit_value conv w n b (subst (λ (x : ℕ). InRange Byte (w x)) (none n) here.1))
  where
    none : (n : ℕ) → n + 0 ≡ n
    none n = omega arith

pub reads : ConversionsHold → ReadsHold
reads conv frame w place ty (Cell own n) moves (visible m) inside is = ap (λ (v : ℤ). got v) (read_cell frame w own n m moves inside is)
reads conv frame w place ty (Brief own n) moves (brief other j) inside is = read_brief w place own n moves (brief_value frame j) inside is
reads conv frame w place ty (Bit n b) moves (bit m c) inside is = ap (λ (v : ℤ). got v) (read_bit conv frame w n b m c is.0 is.2)
reads conv frame w place ty (Bytes own n count) moves (bytes other m c) inside is =
    ap (λ (v : ℤ). got v) (sym (bytes_value conv w frame own n m count is.2 is.3
    ∙ ap (λ (t : Ty). wrap_of t (pos (number_of_bytes frame m count 0))) is.0
    ∙ ap (λ (k : ℕ). wrap_of other (pos (number_of_bytes frame m k 0))) is.1))
reads conv frame w place ty (Fixed v) moves (fixed u) inside is = ap (λ (x : ℤ). got x) (sym is)
reads conv frame w place ty Nowhere moves nowhere inside is = refl
reads conv frame w place ty (Cell own n) moves (brief other j) inside is = absurd is
reads conv frame w place ty (Cell own n) moves (bit m c) inside is = absurd is
reads conv frame w place ty (Cell own n) moves (bytes other m c) inside is = absurd is
reads conv frame w place ty (Cell own n) moves (fixed u) inside is = absurd is
reads conv frame w place ty (Cell own n) moves nowhere inside is = absurd is
reads conv frame w place ty (Brief own n) moves (visible m) inside is = absurd is
reads conv frame w place ty (Brief own n) moves (bit m c) inside is = absurd is
reads conv frame w place ty (Brief own n) moves (bytes other m c) inside is = absurd is
reads conv frame w place ty (Brief own n) moves (fixed u) inside is = absurd is
reads conv frame w place ty (Brief own n) moves nowhere inside is = absurd is
reads conv frame w place ty (Bit n b) moves (visible m) inside is = absurd is
reads conv frame w place ty (Bit n b) moves (brief other j) inside is = absurd is
reads conv frame w place ty (Bit n b) moves (bytes other m c) inside is = absurd is
reads conv frame w place ty (Bit n b) moves (fixed u) inside is = absurd is
reads conv frame w place ty (Bit n b) moves nowhere inside is = absurd is
reads conv frame w place ty (Bytes own n count) moves (visible m) inside is = absurd is
reads conv frame w place ty (Bytes own n count) moves (brief other j) inside is = absurd is
reads conv frame w place ty (Bytes own n count) moves (bit m c) inside is = absurd is
reads conv frame w place ty (Bytes own n count) moves (fixed u) inside is = absurd is
reads conv frame w place ty (Bytes own n count) moves nowhere inside is = absurd is
reads conv frame w place ty (Fixed v) moves (visible m) inside is = absurd is
reads conv frame w place ty (Fixed v) moves (brief other j) inside is = absurd is
reads conv frame w place ty (Fixed v) moves (bit m c) inside is = absurd is
reads conv frame w place ty (Fixed v) moves (bytes other m c) inside is = absurd is
reads conv frame w place ty (Fixed v) moves nowhere inside is = absurd is
reads conv frame w place ty Nowhere moves (visible m) inside is = absurd is
reads conv frame w place ty Nowhere moves (brief other j) inside is = absurd is
reads conv frame w place ty Nowhere moves (bit m c) inside is = absurd is
reads conv frame w place ty Nowhere moves (bytes other m c) inside is = absurd is
reads conv frame w place ty Nowhere moves (fixed u) inside is = absurd is

-- ---- sets that put what a valuation says

-- each set puts what g has at its variable's place
abbrev Tells : (ℕ → ℕ) → Valuation → Valuation → Set → Type 0
Tells place old g set = value_of old set.value ≡ g (place set.variable)

pub put_one : (w : Valuation) (n : ℕ) (v : ℤ) (x : ℕ) (r : ℤ) → (x ≡ n → v ≡ r) → ((x ≡ n → ⊥) → w x ≡ r) → put w n v x ≡ r
put_one w n v x r same other = lead (x == n) refl
  where
    lead : (b : Truth) → (x == n) ≡ b → cond (x == n) v (w x) ≡ r
    lead true e = ap (λ (b : Truth). cond b v (w x)) e ∙ same (eqb-true x n e)
    lead false e = ap (λ (b : Truth). cond b v (w x)) e ∙ other (eqb-false x n e)

told_stays : (place : ℕ → ℕ) (old g : Valuation) (sets : List Set) (w : Valuation) (x : ℕ) → EachSet (Tells place old g) sets → w x ≡ g x
    → set_through place old sets w x ≡ g x
told_stays place old g [] w x each e = e
told_stays place old g (s ∷ sets) w x each e =
    told_stays place old g sets (put w (place s.variable) (value_of old s.value)) x each.1
    (put_one w (place s.variable) (value_of old s.value) x (g x) (λ is. each.0 ∙ ap g (sym is)) (λ ne. e))

told_hits : (place : ℕ → ℕ) (old g : Valuation) (sets : List Set) (w : Valuation) (c : ℕ) → EachSet (Tells place old g) sets → Hits c sets
    → set_through place old sets w (place c) ≡ g (place c)
told_hits place old g [] w c each h = absurd h
told_hits place old g (s ∷ sets) w c each (inl e) =
    told_stays place old g sets (put w (place s.variable) (value_of old s.value)) (place c) each.1
    (put_one w (place s.variable) (value_of old s.value) (place c) (g (place c)) (λ is. each.0 ∙ ap (λ (x : ℕ). g (place x)) e) (λ ne. absurd (ne (sym (ap place e)))))
told_hits place old g (s ∷ sets) w c each (inr h) = told_hits place old g sets (put w (place s.variable) (value_of old s.value)) c each.1 h

-- variables among those that are apart
apart_at : (place : ℕ → ℕ) (n count x y : ℕ) → AreApart place n count → n ≤ x → x < n + count → n ≤ y → y < n + count → place x ≡ place y → x ≡ y
apart_at place n count x y apart a b c d e =
    let i : n + (x - n) ≡ x = omega (arith, a) in
    let j : n + (y - n) ≡ y = omega (arith, c) in
    let same = apart (x - n) (y - n) (omega (arith, a, b)) (omega (arith, c, d)) (ap place i ∙ e ∙ sym (ap place j)) in
    omega (arith, same, a, c)

each_as : (P Q : Set → Type 0) (xs : List Set) → ((s : Set) → P s → Q s) → EachSet P xs → EachSet Q xs
each_as P Q [] f h = tt
each_as P Q (s ∷ xs) f h = (f s h.0, each_as P Q xs f h.1)

-- ---- elements

cell_tells : (place : ℕ → ℕ) (w : Valuation) (n count c : ℕ) (v p : ℤ) → AreApart place n count → n ≤ c → c < n + count → (s : Set)
    → Takes false (through place w) n count c v p s → Tells place (through place w) (put w (place c) v) s
cell_tells place w n count c v p apart low high s is =
    is.value ∙ sym (put_one w (place c) v (place s.variable) (after false (through place w) c v p s.variable)
    (λ e. sym (ap (λ (b : Truth). if b then v else w (place s.variable))
    (eq-eqb s.variable c (apart_at place n count s.variable c apart is.from is.to low high e))))
    (λ ne. sym (ap (λ (b : Truth). if b then v else w (place s.variable)) (ne_eqb s.variable c (λ e. ne (ap place e))))))

-- a cell takes what is put into it
pub put_cell : (place : ℕ → ℕ) (w : Valuation) (ty : Ty) (wr : Writing) (moves : List Move) (n c x : ℕ)
    → AreInside (through place w) moves → AreNested moves → AreApart place n (span moves)
    → c ≡ n + moved_by (through place w) moves
    → set_through place (through place w) (element_sets false ty wr [] moves n) w x
    ≡ put w (place c) (value_of (through place w) (wr.value (variable c))) x
put_cell place w ty wr moves n c x inside nested apart is = lead (x == place c) refl
  where
    v : ℤ
    v = value_of (through place w) (wr.value (variable c))

    p : ℤ
    p = value_of (through place w) (wr.present (variable (suc c)))

    once : (n k : ℕ) → n + k * 1 ≡ n + k
    once n k = omega arith

    single : (k : ℕ) → k * 1 ≡ k
    single k = omega arith

    lt : moved_by (through place w) moves < span moves
    lt = moved_within (through place w) moves inside

    each : EachSet (Tells place (through place w) (put w (place c) v)) (element_sets false ty wr [] moves n)
    each = each_as (Takes false (through place w) n (span moves * 1) c v p) (Tells place (through place w) (put w (place c) v)) _
        (λ s h. cell_tells place w n (span moves) c v p apart (omega (arith, is)) (omega (arith, is, lt)) s
        (record { from = h.from; to = subst (λ (k : ℕ). s.variable < n + k) (single (span moves)) h.to; value = h.value }))
        (takes (through place w) false ty wr moves [] n c refl inside nested (is ∙ sym (once n (moved_by (through place w) moves))))

    hit : Hits c (element_sets false ty wr [] moves n)
    hit = subst (λ (y : ℕ). Hits y (element_sets false ty wr [] moves n)) (once n (moved_by (through place w) moves) ∙ sym is)
        (hits (through place w) false ty wr moves [] n inside).0

    lead : (b : Truth) → (x == place c) ≡ b
        → set_through place (through place w) (element_sets false ty wr [] moves n) w x ≡ put w (place c) v x
    lead true e = subst (λ (y : ℕ). set_through place (through place w) (element_sets false ty wr [] moves n) w y ≡ put w (place c) v y)
        (sym (eqb-true x (place c) e)) (told_hits place (through place w) (put w (place c) v) (element_sets false ty wr [] moves n) w c each hit)
    lead false e = told_stays place (through place w) (put w (place c) v) (element_sets false ty wr [] moves n) w x each
        (sym (ap (λ (b : Truth). cond b v (w x)) e))

-- with its 'set'
abbrev pub put_both : (ℕ → ℕ) → Valuation → ℕ → ℤ → ℤ → Valuation
put_both place w c v p = put (put w (place c) v) (place (suc c)) p

brief_tells : (place : ℕ → ℕ) (w : Valuation) (n count c : ℕ) (v p : ℤ) → AreApart place n count → n ≤ c → suc c < n + count → (s : Set)
    → Takes true (through place w) n count c v p s → Tells place (through place w) (put_both place w c v p) s
brief_tells place w n count c v p apart low high s is =
    is.value ∙ sym (put_one (put w (place c) v) (place (suc c)) p (place s.variable) (after true (through place w) c v p s.variable)
    (λ e. let same = apart_at place n count s.variable (suc c) apart is.from is.to (omega (arith, low)) high e in
    sym (ap (λ (b : Truth). if b then v else (if s.variable == suc c then p else w (place s.variable))) (ne_eqb s.variable c (next s.variable c same))
    ∙ ap (λ (b : Truth). if b then p else w (place s.variable)) (eq-eqb s.variable (suc c) same)))
    (λ ne. put_one w (place c) v (place s.variable) (after true (through place w) c v p s.variable)
    (λ e. sym (ap (λ (b : Truth). if b then v else (if s.variable == suc c then p else w (place s.variable)))
    (eq-eqb s.variable c (apart_at place n count s.variable c apart is.from is.to low (omega (arith, high)) e))))
    (λ none. sym (ap (λ (b : Truth). if b then v else (if s.variable == suc c then p else w (place s.variable))) (ne_eqb s.variable c (λ e. none (ap place e)))
    ∙ ap (λ (b : Truth). if b then p else w (place s.variable)) (ne_eqb s.variable (suc c) (λ e. ne (ap place e)))))))
  where
    next : (x c : ℕ) → x ≡ suc c → x ≡ c → ⊥
    next x c e f = omega (arith, e, f)

pub put_brief : (place : ℕ → ℕ) (w : Valuation) (ty : Ty) (wr : Writing) (moves : List Move) (n c x : ℕ)
    → AreInside (through place w) moves → AreNested moves → AreApart place n (span moves * 2)
    → c ≡ n + moved_by (through place w) moves * 2
    → set_through place (through place w) (element_sets true ty wr [] moves n) w x
    ≡ put_both place w c (value_of (through place w) (wr.value (variable c))) (value_of (through place w) (wr.present (variable (suc c)))) x
put_brief place w ty wr moves n c x inside nested apart is = lead (x == place (suc c)) (x == place c) refl refl
  where
    v : ℤ
    v = value_of (through place w) (wr.value (variable c))

    p : ℤ
    p = value_of (through place w) (wr.present (variable (suc c)))

    lt : moved_by (through place w) moves < span moves
    lt = moved_within (through place w) moves inside

    each : EachSet (Tells place (through place w) (put_both place w c v p)) (element_sets true ty wr [] moves n)
    each = each_as (Takes true (through place w) n (span moves * 2) c v p) (Tells place (through place w) (put_both place w c v p)) _
        (λ s h. brief_tells place w n (span moves * 2) c v p apart (omega (arith, is)) (omega (arith, is, lt)) s h)
        (takes (through place w) true ty wr moves [] n c refl inside nested is)

    both : Hits c (element_sets true ty wr [] moves n) × Hits (suc c) (element_sets true ty wr [] moves n)
    both = let h = hits (through place w) true ty wr moves [] n inside in (
      subst (λ (y : ℕ). Hits y (element_sets true ty wr [] moves n)) (sym is) h.0,
      subst (λ (y : ℕ). Hits (suc y) (element_sets true ty wr [] moves n)) (sym is) (h.1 refl),
    )

    lead : (a b : Truth) → (x == place (suc c)) ≡ a → (x == place c) ≡ b
        → set_through place (through place w) (element_sets true ty wr [] moves n) w x ≡ put_both place w c v p x
    lead true b e f = subst (λ (y : ℕ). set_through place (through place w) (element_sets true ty wr [] moves n) w y ≡ put_both place w c v p y)
        (sym (eqb-true x (place (suc c)) e))
        (told_hits place (through place w) (put_both place w c v p) (element_sets true ty wr [] moves n) w (suc c) each both.1)
    lead false true e f = subst (λ (y : ℕ). set_through place (through place w) (element_sets true ty wr [] moves n) w y ≡ put_both place w c v p y)
        (sym (eqb-true x (place c) f))
        (told_hits place (through place w) (put_both place w c v p) (element_sets true ty wr [] moves n) w c each both.0)
    lead false false e f = told_stays place (through place w) (put_both place w c v p) (element_sets true ty wr [] moves n) w x each
        (sym (ap (λ (b : Truth). cond b p (cond (x == place c) v (w x))) e ∙ ap (λ (b : Truth). cond b v (w x)) f))

-- ---- bytes

-- the type of the pattern that a value's bytes are
pattern_wide : (ty : Ty) (count : ℕ) → 8 * count ≡ bits_of ty → (is_signed_of (pattern_type count) ≡ false) × (bits_of (pattern_type count) ≡ bits_of ty)
pattern_wide Bool count e = absurd (omega (arith, e))
pattern_wide Byte count e = let k : count ≡ 1 = omega (arith, e) in subst (λ c. (is_signed_of (pattern_type c) ≡ false) × (bits_of (pattern_type c) ≡ 8)) (sym k) (refl, refl)
pattern_wide Word count e = let k : count ≡ 2 = omega (arith, e) in subst (λ c. (is_signed_of (pattern_type c) ≡ false) × (bits_of (pattern_type c) ≡ 16)) (sym k) (refl, refl)
pattern_wide Dword count e = let k : count ≡ 4 = omega (arith, e) in subst (λ c. (is_signed_of (pattern_type c) ≡ false) × (bits_of (pattern_type c) ≡ 32)) (sym k) (refl, refl)
pattern_wide Int count e = let k : count ≡ 2 = omega (arith, e) in subst (λ c. (is_signed_of (pattern_type c) ≡ false) × (bits_of (pattern_type c) ≡ 16)) (sym k) (refl, refl)
pattern_wide Dint count e = let k : count ≡ 4 = omega (arith, e) in subst (λ c. (is_signed_of (pattern_type c) ≡ false) × (bits_of (pattern_type c) ≡ 32)) (sym k) (refl, refl)
pattern_wide Time count e = let k : count ≡ 4 = omega (arith, e) in subst (λ c. (is_signed_of (pattern_type c) ≡ false) × (bits_of (pattern_type c) ≡ 32)) (sym k) (refl, refl)

put_pattern : ConversionsHold → (place : ℕ → ℕ) (old : Valuation) (ty : Ty) (t : Term) → is_signed_of ty ≡ false → InRange ty (value_of old t)
    → (count n : ℕ) (w : Valuation)
    → set_through place old (pattern_sets ty n count t) w ≡ with_bytes place w n count (pattern_of ty (value_of old t))
put_pattern conv place old ty t plain is zero n w = refl
put_pattern conv place old ty t plain is (suc count) n w =
    ap (λ (v : ℤ). set_through place old (pattern_sets ty (suc n) count t) (put w (place n) v)) (byte_put conv old ty count t plain is)
    ∙ put_pattern conv place old ty t plain is count (suc n) (put w (place n) (pos (pattern_of ty (value_of old t) / 256 ^ count % 256)))

put_bytes : ConversionsHold → (place : ℕ → ℕ) (w old : Valuation) (ty : Ty) (n count : ℕ) (t : Term) → 8 * count ≡ bits_of ty
    → InRange ty (value_of old t)
    → set_through place old (byte_sets ty n count t) w ≡ with_bytes place w n count (pattern_of ty (value_of old t))
put_bytes conv place w old ty n count t e is =
    let own = pattern_type count in
    let wide_own = pattern_wide ty count e in
    let value = conv old ty own t is in
    put_pattern conv place old own (converted ty own t) wide_own.0
    (subst (λ (v : ℤ). InRange own v) (sym value) (wrap-in_range (bits_of own) (is_signed_of own) (value_of old t) (wide own))) count n w
    ∙ ap (λ (k : ℕ). with_bytes place w n count k)
    (ap (λ (v : ℤ). pattern_of own v) value ∙ pattern-wrap (bits_of own) (is_signed_of own) (value_of old t) (wide own)
    ∙ ap (λ (k : ℕ). pattern_at k (value_of old t)) wide_own.1)

-- ---- writes

pub writes : ConversionsHold → WritesHold
writes conv place w (Cell ty n) moves t x inside can =
    put_cell place w ty (assigning t) moves n (n + moved_by (through place w) moves) x inside can.0 can.1 refl
writes conv place w (Brief ty n) moves t x inside can =
    put_brief place w ty (assigning t) moves n (n + moved_by (through place w) moves * 2) x inside can.0 can.1 refl
writes conv place w (Bit n b) moves t x inside can =
    ap (λ (v : ℤ). put w (place n) v x) (with_bit_value conv (through place w) n b t can.0 can.1)
writes conv place w (Bytes ty n count) moves t x inside can =
    ap (λ (f : Valuation). f x) (put_bytes conv place w (through place w) ty n count t can.0 can.1)
writes conv place w (Fixed v) moves t x inside can = refl
writes conv place w Nowhere moves t x inside can = refl
