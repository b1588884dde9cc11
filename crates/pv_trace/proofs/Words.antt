-- Words between blanks, and the values that they spell.
use Rattle.std.proofs.Common.{◌≡◌, ℕ, zero, suc, ◌+◌, ◌^◌, ◌<◌, ◌≤◌, ℤ, pos, negsuc, List, [], ◌∷◌, ◌++◌, length, get_or, take, drop, length-append, append_assoc, append-nil, refl, ap, subst, sym, ◌∙◌, arith, Option, Some, None, MatchOption, Result, Ok, Err, Bor, ◌≢◌, to_z, of_z}
use Rattle.std.specs.Prelude.{◌≤ℤ◌, IfSome, IfNone, FitsSigned}
use Rattle.std.specs.Int.{w64, w128}
use Rattle.std.specs.Int.Signed.{mag}
use Rattle.std.specs.List.{AllByRecursion}
use Rattle.std.specs.Result.{MatchResult, result_ok}
use Rattle.std.specs.Fmt.{decimal, signed_decimal}
use Rattle.std.specs.Str.{IsUtf8}
use Rattle.std.specs.Str.Parse.{ParsesSigned, AllDigits}
use Rattle.std.proofs.lemmas.Grind.{flat_map-append}
use Rattle.std.proofs.lemmas.Int.{ints, to_z-of_z}
use Rattle.std.proofs.Math.Facts.{sfits_lit, yes_ltb}
use Rattle.std.proofs.lemmas.Fmt.{parse-signed_decimal, signed_decimal_injective, IsAscii-signed, decimal_is_IsNumeral_wide}
use Rattle.std.proofs.lemmas.Str.{IsUtf8-from_ascii}
use Rattle.std.proofs.lemmas.Str.Parse.{digit_from_value}
use Rattle.pv_place.specs.Ranges.{IsWithin}
use Rattle.pv_trace.specs.TraceText.{value_text, values_text, Bounds, range_between, AreBetween, IsRange}
use Rattle.pv_trace.specs.Words.{NoBlank, IsWordEnd}

-- ---- words

pub at-blank : (at : ℕ) (text back : List ℕ) → at < length text → get_or text at 0 ≡ 32 → back ≡ drop at text → IsWordEnd back
at-blank at [] back lt e d = absurd (omega arith)
at-blank zero (x ∷ xs) back lt e d = subst IsWordEnd (sym d) e
at-blank (suc at) (x ∷ xs) back lt e d = at-blank at xs back (omega arith) e d

first : (x y : ℕ) (xs ys : List ℕ) → x ∷ xs ≡ y ∷ ys → x ≡ y
first x y xs ys e = ap (λ l. get_or l 0 0) e

others : (x y : ℕ) (xs ys : List ℕ) → x ∷ xs ≡ y ∷ ys → xs ≡ ys
others x y xs ys e = ap (drop 1) e

-- a text begins with one word
pub one-word : (a b x y : List ℕ) → NoBlank a → NoBlank b → IsWordEnd x → IsWordEnd y → a ++ x ≡ b ++ y → (a ≡ b) × (x ≡ y)
one-word [] [] x y na nb ex ey e = (refl, e)
one-word [] (b ∷ bs) [] y na nb ex ey e = absurd cc
one-word [] (b ∷ bs) (c ∷ x) y na nb ex ey e = absurd (nb.0 (sym (first c b x (bs ++ y) e) ∙ ex))
one-word (a ∷ us) [] x [] na nb ex ey e = absurd cc
one-word (a ∷ us) [] x (c ∷ y) na nb ex ey e = absurd (na.0 (first a c (us ++ x) y e ∙ ey))
one-word (a ∷ us) (b ∷ bs) x y na nb ex ey e =
    let rest = one-word us bs x y na.1 nb.1 ex ey (others a b (us ++ x) (bs ++ y) e) in
    (ap (λ z. z ∷ us) (first a b (us ++ x) (bs ++ y) e) ∙ ap (λ l. b ∷ l) rest.0, rest.1)

-- ---- numbers

-- no such byte is among the digits and the sign
without : (c : ℕ) → c < 45 → (ds : List ℕ) → AllDigits 10 ds → AllByRecursion (λ byte. byte ≡ c → ⊥) ds
without c low [] are = tt
without c low (d ∷ ds) are = let range = digit_from_value d are.0 in ((λ is. omega (arith, range, is)), without c low ds are.1)

decimal-without : (c n : ℕ) → c < 45 → n < 10 ^ 64 → AllByRecursion (λ byte. byte ≡ c → ⊥) (decimal n)
decimal-without c n low short = without c low (decimal n) (decimal_is_IsNumeral_wide n short).0.1

signed-without : (c : ℕ) (v : ℤ) → c < 45 → mag v < 2 ^ 63 → AllByRecursion (λ byte. byte ≡ c → ⊥) (signed_decimal v)
signed-without c (pos n) low short = decimal-without c n low (omega (arith, short))
signed-without c (negsuc n) low short = ((λ is. omega (arith, is)), decimal-without c (suc n) low (omega (arith, short)))

pub no-blank : (v : ℤ) → mag v < 2 ^ 63 → NoBlank (signed_decimal v)
no-blank v short = signed-without 32 v (omega arith) short

pub no-feed : (v : ℤ) → mag v < 2 ^ 63 → AllByRecursion (λ byte. byte ≡ 10 → ⊥) (signed_decimal v)
no-feed v short = signed-without 10 v (omega arith) short

-- a value of a range is short
short-between : (low high v : ℤ) → negsuc 9223372036854775807 ≤ℤ low → high ≤ℤ pos 9223372036854775807 → low ≤ℤ v → v ≤ℤ high → mag v < 2 ^ 63
short-between low (pos h) (pos n) from to a b = let le : n ≤ h = omega (arith, ints, b) in omega (arith, ints, to, le)
short-between low (negsuc h) (pos n) from to a b = absurd (omega (arith, ints, b))
short-between (pos l) high (negsuc n) from to a b = absurd (omega (arith, ints, a))
short-between (negsuc l) high (negsuc n) from to a b = let le : n ≤ l = omega (arith, ints, a) in omega (arith, ints, from, le)

pub short : (range : Bounds) (v : ℤ) → IsRange range → IsWithin (range_between range) v → mag v < 2 ^ 63
short range v is within = short-between range.0 range.1 v is.from is.to within.from within.to

fits : (v : ℤ) → mag v < 2 ^ 63 → FitsSigned w64 v
fits v s = sfits_lit (yes_ltb s)

-- ---- what a number's text parses to

-- the text is one of a value of some range
abbrev pub Writes : List ℕ → ℤ → Type 0
Writes text v = (range : ℤ × ℤ) → IsRange range → IsWithin (range_between range) v → text ≡ signed_decimal v → ⊥

pub utf8-fails : {E : Type 0} (X : E → Type 0) (text : List ℕ) (r : Result (Bor (List ℕ)) E) → MatchResult r (λ s. (s.now ≡ text) × IsUtf8 text) (λ e. (IsUtf8 text → ⊥) × X e) → result_ok r ≡ None
    → (range : ℤ × ℤ) (v : ℤ) → IsRange range → IsWithin (range_between range) v → text ≡ signed_decimal v → ⊥
utf8-fails X text (Ok s) h e range v is within q = absurd cc
utf8-fails X text (Err d) h e range v is within q = h.0 (subst IsUtf8 (sym q) (IsUtf8-from_ascii (signed_decimal v) (IsAscii-signed v (short range v is within))))

pub utf8-same : {E : Type 0} (X : E → Type 0) (text : List ℕ) (r : Result (Bor (List ℕ)) E) (s : Bor (List ℕ)) → MatchResult r (λ s. (s.now ≡ text) × IsUtf8 text) (λ e. (IsUtf8 text → ⊥) × X e) → result_ok r ≡ Some s → s.now ≡ text
utf8-same X text (Ok t) s h e = (let same : t ≡ s = cc in subst (λ (b : Bor (List ℕ)). b.now ≡ text) same h.0)
utf8-same X text (Err d) s h e = absurd cc

pub parse-fails : {E : Type 0} (t text : List ℕ) (r : Result ℤ E) → ParsesSigned w64 10 t r → t ≡ text
    → IfNone (result_ok r) ((range : ℤ × ℤ) (v : ℤ) → IsRange range → IsWithin (range_between range) v → text ≡ signed_decimal v → ⊥)
parse-fails t text (Ok v) h same = tt
parse-fails {E} t text (Err d) h same = λ range v is within q.
    (let s = short range v is within in
    let r : Err d ≡ Ok v = parse-signed_decimal {E = E} w64 v t (Err d) (fits v s) s (same ∙ q) h in absurd cc)

pub parse-gives : {E : Type 0} (t text : List ℕ) (r : Result ℤ E) → ParsesSigned w64 10 t r → t ≡ text
    → IfSome (result_ok r) (λ n. (range : ℤ × ℤ) (v : ℤ) → IsRange range → IsWithin (range_between range) v → text ≡ signed_decimal v → n ≡ v)
parse-gives {E} t text (Ok n) h same = λ range v is within q.
    (let s = short range v is within in
    let r : Ok n ≡ Ok v = parse-signed_decimal {E = E} w64 v t (Ok n) (fits v s) s (same ∙ q) h in cc)
parse-gives t text (Err d) h same = tt

-- ---- values

-- a word is the value's text, where the text is that of a value
pub spells : (range : Bounds) (v : ℤ) (text word after rest : List ℕ) → IsRange range → IsWithin (range_between range) v → NoBlank word → IsWordEnd after → IsWordEnd rest
    → text ≡ word ++ after → text ≡ signed_decimal v ++ rest → word ≡ signed_decimal v
spells range v text word after rest is within plain end end' split e =
    (one-word word (signed_decimal v) after rest plain (no-blank v (short range v is within)) end end' (sym split ∙ e)).0

fitting : (v : ℤ) → FitsSigned w64 v → mag v < 2 ^ 63
fitting v f = omega (arith, f)

-- a text is that of one value
pub same-value : (range : Bounds) (n v : ℤ) → FitsSigned w64 n → IsRange range → IsWithin (range_between range) v → signed_decimal n ≡ signed_decimal v → n ≡ v
same-value range n v f is within e = signed_decimal_injective n v (fitting n f) (short range v is within) e

-- ---- what a prefix that was sought says, by the outcome

pub prefix_found : (s p : List ℕ) (r : Option (Bor (List ℕ))) → MatchOption r ((rest : List ℕ) → s ≢ p ++ rest) (λ x. s ≡ p ++ x.now) → IfSome r (λ x. s ≡ p ++ x.now)
prefix_found s p None h = tt
prefix_found s p (Some x) h = h

pub prefix_missed : (s p : List ℕ) (r : Option (Bor (List ℕ))) → MatchOption r ((rest : List ℕ) → s ≢ p ++ rest) (λ x. s ≡ p ++ x.now) → IfNone r ((rest : List ℕ) → s ≡ p ++ rest → ⊥)
prefix_missed s p None h = h
prefix_missed s p (Some x) h = tt

-- ---- values of ranges, one after the other

range-fits : (range : Bounds) (v : ℤ) → IsRange range → IsWithin (range_between range) v → FitsSigned w64 v
range-fits range v is within = fits v (short range v is within)

-- values so far of a text, and what is left
pub record HasValues (text : List ℕ) (ranges : List Bounds) (values : List ℤ) (rest : List ℕ) : Type 0 where
  pub within : AreBetween ranges values
  pub split : text ≡ values_text values ++ rest
  pub end : 0 < length values → IsWordEnd rest

pub no-values : (text : List ℕ) → HasValues text [] [] text
no-values text = record { within = tt; split = refl; end = λ lt. absurd (omega (arith, lt)) }

between-more : (ranges : List Bounds) (values : List ℤ) (range : Bounds) (v : ℤ) → AreBetween ranges values → IsWithin (range_between range) v → AreBetween (ranges ++ range ∷ []) (values ++ v ∷ [])
between-more [] [] range v are is = (is, tt)
between-more [] (w ∷ values) range v are is = absurd are
between-more (r ∷ ranges) [] range v are is = absurd are
between-more (r ∷ ranges) (w ∷ values) range v are is = (are.0, between-more ranges values range v are.1 is)

-- one more
pub more-values : (text : List ℕ) (ranges : List Bounds) (values : List ℤ) (rest after : List ℕ) (range : Bounds) (v : ℤ) → HasValues text ranges values rest
    → IsWithin (range_between range) v → rest ≡ value_text v ++ after → IsWordEnd after → HasValues text (ranges ++ range ∷ []) (values ++ v ∷ []) after
more-values text ranges values rest after range v so is e end =
    record {
      within = between-more ranges values range v so.within is;
      split = so.split ∙ ap (λ r. values_text values ++ r) e ∙ sym (append_assoc (values_text values) (value_text v) after)
          ∙ ap (λ t. t ++ after) (sym (flat_map-append value_text values (v ∷ []) ∙ ap (λ t. values_text values ++ t) (append-nil (value_text v))));
      end = λ lt. end;
    }

-- the values of a text are those that were read, and the rest has the others
pub record Aligned (us : List ℤ) (ws : List ℤ) (rest after : List ℕ) : Type 0 where
  pub more : List ℤ
  pub values : ws ≡ us ++ more
  pub rest_is : rest ≡ values_text more ++ after

word-end : (ws : List ℤ) (r : List ℕ) → IsWordEnd r → IsWordEnd (values_text ws ++ r)
word-end [] r e = e
word-end (w ∷ ws) r e = refl

-- how a list of values within the first of some ranges goes with one of all
pub aligned : (front more : List Bounds) (us ws : List ℤ) (r s : List ℕ) → AllByRecursion IsRange (front ++ more) → AreBetween front us → AreBetween (front ++ more) ws
    → (0 < length us → IsWordEnd r) → IsWordEnd s → values_text us ++ r ≡ values_text ws ++ s → Aligned us ws r s
aligned [] more [] ws r s are wu ww end end' e = record { more = ws; values = refl; rest_is = e }
aligned [] more (u ∷ us) ws r s are wu ww end end' e = absurd wu
aligned (f ∷ front) more [] ws r s are wu ww end end' e = absurd wu
aligned (f ∷ front) more (u ∷ us) [] r s are wu ww end end' e = absurd ww
aligned (f ∷ front) more (u ∷ us) (w ∷ ws) r s are wu ww end end' e =
    let left : 32 ∷ (signed_decimal u ++ (values_text us ++ r)) ≡ 32 ∷ (signed_decimal w ++ (values_text ws ++ s)) =
    sym (append_assoc (value_text u) (values_text us) r) ∙ e ∙ append_assoc (value_text w) (values_text ws) s in
    let su = short f u are.0 wu.0 in
    let sw = short f w are.0 ww.0 in
    let one = one-word (signed_decimal u) (signed_decimal w) (values_text us ++ r) (values_text ws ++ s) (no-blank u su) (no-blank w sw)
    (word-end us r (end (omega arith))) (word-end ws s end') (others 32 32 _ _ left) in
    let same = signed_decimal_injective u w su sw one.0 in
    let rest = aligned front more us ws r s are.1 wu.1 ww.1 (λ lt. end (omega arith)) end' one.1 in
    record {
      more = rest.more;
      values = ap (λ z. z ∷ ws) (sym same) ∙ ap (λ l. u ∷ l) rest.values;
      rest_is = rest.rest_is;
    }

between-long : (ranges : List Bounds) (values : List ℤ) → AreBetween ranges values → length values ≡ length ranges
between-long [] [] are = refl
between-long [] (v ∷ values) are = absurd are
between-long (r ∷ ranges) [] are = absurd are
between-long (r ∷ ranges) (v ∷ values) are = ap suc (between-long ranges values are.1)

word-end-nil : (vs : List ℤ) → IsWordEnd (values_text vs)
word-end-nil [] = tt
word-end-nil (v ∷ vs) = refl

next-value : (front more : List Bounds) (range : Bounds) (us vs : List ℤ) → AreBetween (front ++ range ∷ more) (us ++ vs) → AreBetween front us
    → ((v : ℤ) (ws : List ℤ) → vs ≡ v ∷ ws → IsWithin (range_between range) v → ⊥) → ⊥
next-value [] more range [] [] within wu k = within
next-value [] more range [] (v ∷ vs) within wu k = k v vs refl within.0
next-value [] more range (u ∷ us) vs within wu k = absurd wu
next-value (f ∷ front) more range [] vs within wu k = absurd wu
next-value (f ∷ front) more range (u ∷ us) vs within wu k = next-value front more range us vs within.1 wu.1 k

-- where no value of the next range stands, there are no values of all
pub stops : (text : List ℕ) (front more : List Bounds) (range : Bounds) (values : List ℤ) (rest : List ℕ) → AllByRecursion IsRange (front ++ range ∷ more) → HasValues text front values rest
    → ((v : ℤ) (r : List ℕ) → IsWithin (range_between range) v → IsWordEnd r → rest ≡ value_text v ++ r → ⊥)
    → (all : List ℤ) → AreBetween (front ++ range ∷ more) all → text ≡ values_text all → ⊥
stops text front more range values rest are so none all within e =
    let al = aligned front (range ∷ more) values all rest [] are so.within within so.end tt (sym so.split ∙ e ∙ sym (append-nil (values_text all))) in
    next-value front more range values al.more (subst (AreBetween (front ++ range ∷ more)) al.values within) so.within
    (λ v vs is isv. none v (values_text vs) isv (word-end-nil vs) (al.rest_is ∙ append-nil (values_text al.more) ∙ ap values_text is))

nothing : (vs : List ℤ) → length vs ≡ 0 → vs ≡ []
nothing [] e = refl
nothing (v ∷ vs) e = absurd (omega (arith, e))

-- where something is left behind all ranges, there are no values of all
pub stays : (text : List ℕ) (ranges : List Bounds) (values : List ℤ) (rest : List ℕ) → AllByRecursion IsRange ranges → HasValues text ranges values rest → (rest ≡ [] → ⊥)
    → (all : List ℤ) → AreBetween ranges all → text ≡ values_text all → ⊥
stays text ranges values rest are so left all within e =
    let whole = append-nil ranges in
    let al = aligned ranges [] values all rest [] (subst (AllByRecursion IsRange) (sym whole) are) so.within (subst (λ r. AreBetween r all) (sym whole) within) so.end tt
    (sym so.split ∙ e ∙ sym (append-nil (values_text all))) in
    let long = between-long ranges values so.within in
    let long' = between-long ranges all within in
    let sum = ap length al.values ∙ length-append values al.more in
    left (al.rest_is ∙ append-nil (values_text al.more) ∙ ap values_text (nothing al.more (omega (arith, long, long', sum))))

-- a list around one of its elements
pub around : {A : Type 0} (i : ℕ) (xs : List A) (d : A) → i < length xs → xs ≡ take i xs ++ get_or xs i d ∷ drop (suc i) xs
around i [] d lt = absurd (omega (arith, lt))
around zero (x ∷ xs) d lt = refl
around (suc i) (x ∷ xs) d lt = ap (λ l. x ∷ l) (around i xs d (omega (arith, lt)))

pub one-more : (n : ℕ) → n + 1 ≡ suc n
one-more n = omega arith

pub range-at : (i : ℕ) (xs : List Bounds) (d : Bounds) → AllByRecursion IsRange xs → i < length xs → IsRange (get_or xs i d)
range-at i [] d are lt = absurd (omega (arith, lt))
range-at zero (x ∷ xs) d are lt = are.0
range-at (suc i) (x ∷ xs) d are lt = range-at i xs d are.1 (omega (arith, lt))

-- a value of 64 bits is one of 128
pub wide : (range : Bounds) (v : ℤ) → IsRange range → IsWithin (range_between range) v → to_z w128 (of_z w128 (to_z w64 (of_z w64 v))) ≡ v
wide range v is within =
    let s = short range v is within in
    let f : FitsSigned w128 v = sfits_lit (yes_ltb (omega (arith, s))) in
    ap (λ z. to_z w128 (of_z w128 z)) (to_z-of_z w64 v (fits v s)) ∙ to_z-of_z w128 v f

pub one-values : (ranges : List Bounds) (us ws : List ℤ) → AllByRecursion IsRange ranges → AreBetween ranges us → AreBetween ranges ws → values_text us ≡ values_text ws → us ≡ ws
one-values ranges us ws are wu ww e =
    let whole = append-nil ranges in
    let al = aligned ranges [] us ws [] [] (subst (AllByRecursion IsRange) (sym whole) are) wu (subst (λ r. AreBetween r ws) (sym whole) ww) (λ lt. tt) tt
    (append-nil (values_text us) ∙ e ∙ sym (append-nil (values_text ws))) in
    let lu = between-long ranges us wu in
    let lw = between-long ranges ws ww in
    let sum = ap length al.values ∙ length-append us al.more in
    sym (al.values ∙ ap (λ more. us ++ more) (nothing al.more (omega (arith, lu, lw, sum))) ∙ append-nil us)

pub cancel : (front xs ys : List ℕ) → front ++ xs ≡ front ++ ys → xs ≡ ys
cancel [] xs ys e = e
cancel (x ∷ front) xs ys e = cancel front xs ys (ap (drop 1) e)
