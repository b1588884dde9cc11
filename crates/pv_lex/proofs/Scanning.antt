-- A shape takes the longest text that spells it: what is taken spells it (`found`), and no text that spells it is longer (`within`).
use Rattle.std.proofs.Common.{◌≡◌, ℕ, suc, ◌+◌, ◌≤◌, length, take, drop, nat_le, Bool, true, false, cond, not, inl, inr, ◌⊎◌, List, [], ◌∷◌, ◌++◌, Option, Some, None, refl, ap, sym, ◌∙◌, subst, arith, append_assoc, length-append, length-drop}
use Rattle.std.specs.Prelude.{◌&&◌, ◌||◌, ◌==◌}
use Rattle.std.specs.List.{prefix_len, list_all}
use Rattle.std.specs.Option.{option_and_then}
use Rattle.std.specs.Int.{is_in_range}
use Rattle.std.proofs.Math.Seq.{take-append_seam, drop-append_seam}
use Rattle.std.proofs.lemmas.List.{take-append-drop}
use Rattle.std.proofs.lemmas.Bool.{false≢true, eqb-true, cases_Bool, and_parts, and_from}
use Rattle.pv_lex.specs.declared.class.Class.{Class}
use Rattle.pv_lex.specs.declared.class.Class.TheVariants as c
use Rattle.pv_lex.specs.Classes.{has, is_letter, is_word_byte}
use Rattle.pv_lex.specs.Shapes.{Shape, begins, is_joined, is_word, is_open, Spells}
use Rattle.pv_lex.specs.Shapes.Shape.{done, one, many, number, led, either, closing}
use Rattle.pv_lex.specs.Tokens.{skip}
use Rattle.pv_lex.specs.Scans.{past_joined, goes_on, past_close, longer, word_len, scan}

-- ---- options

pub some_is : {A : Type 0} (x y : A) → Some x ≡ Some y → x ≡ y
some_is x y e = cc

pub none_not : {A : Type 0} (x : A) → ◌≡◌ {A = Option A} None (Some x) → ⊥
none_not x e = cc

-- ---- Booleans

pub or_left : (x y : Bool) → x ≡ true → (x || y) ≡ true
or_left x y e = ap (λ (v : Bool). v || y) e

pub or_right : (x y : Bool) → y ≡ true → (x || y) ≡ true
or_right true y e = refl
or_right false y e = e

pub or_false : (x y : Bool) → x ≡ false → y ≡ false → (x || y) ≡ false
or_false x y e f = ap (λ (v : Bool). v || y) e ∙ f

-- ---- the front of a class

pub skip_in : (class : Class) (b : ℕ) (others : List ℕ) → has class b ≡ true → skip class (b ∷ others) ≡ skip class others
skip_in class b others on =
    let n : prefix_len (has class) (b ∷ others) ≡ suc (prefix_len (has class) others) = ap (λ (v : Bool). cond v (1 + prefix_len (has
    class) others) 0) on ∙ omega arith in
    ap (λ (m : ℕ). drop m (b ∷ others)) n

pub skip_out : (class : Class) (b : ℕ) (others : List ℕ) → has class b ≡ false → skip class (b ∷ others) ≡ b ∷ others
skip_out class b others off =
    let n : prefix_len (has class) (b ∷ others) ≡ 0 = ap (λ (v : Bool). cond v (1 + prefix_len (has class) others) 0) off in
    ap (λ (m : ℕ). drop m (b ∷ others)) n

-- a front of the class, and what is left behind it
pub record Skipped (class : Class) (text : List ℕ) : Type 0 where
  pub front : List ℕ
  pub whole : text ≡ front ++ skip class text
  pub passes : list_all (has class) front ≡ true

pub skipped : (class : Class) (text : List ℕ) → Skipped class text
skipped class [] = record { front = []; whole = refl; passes = refl }
skipped class (b ∷ others) =
    elim (cases_Bool (has class b)) [
      | inl on ↦ (let s = skipped class others in record {
        front = b ∷ s.front;
        whole = ap (λ (t : List ℕ). b ∷ t) s.whole ∙ ap (λ (t : List ℕ). b ∷ (s.front ++ t)) (sym (skip_in class b others on));
        passes = and_from (has class b) (list_all (has class) s.front) on s.passes;
      })
      | inr off ↦ record { front = []; whole = sym (skip_out class b others off); passes = refl }
    ]

pub skip-all : (class : Class) (front left : List ℕ) → list_all (has class) front ≡ true → skip class (front ++ left) ≡ skip class left
skip-all class [] left e = refl
skip-all class (b ∷ front) left e =
    let parts = and_parts (has class b) (list_all (has class) front) e in
    skip_in class b (front ++ left) parts.0 ∙ skip-all class front left parts.1

pub skip-le : (class : Class) (text : List ℕ) → length (skip class text) ≤ length text
skip-le class text = omega (arith, length-drop (prefix_len (has class) text) text)

-- ---- numbers

pub record Joined (class : Class) (text : List ℕ) : Type 0 where
  pub front : List ℕ
  pub whole : text ≡ front ++ past_joined class text
  pub passes : is_joined class front ≡ true
  pub first : begins class text ≡ true → begins class front ≡ true

joined_on : (class : Class) (b : ℕ) (others : List ℕ) → goes_on class (b ∷ others) ≡ true
    → past_joined class (b ∷ others) ≡ past_joined class others
joined_on class b others on = ap (λ (v : Bool). cond v (past_joined class others) (b ∷ others)) on

joined_off : (class : Class) (b : ℕ) (others : List ℕ) → goes_on class (b ∷ others) ≡ false → past_joined class (b ∷ others) ≡ b ∷ others
joined_off class b others off = ap (λ (v : Bool). cond v (past_joined class others) (b ∷ others)) off

goes_further : (x y z z' : Bool) → (z ≡ true → z' ≡ true) → (x || (y && z)) ≡ true → (x || (y && z')) ≡ true
goes_further true y z z' h e = refl
goes_further false true z z' h e = h e
goes_further false false z z' h e = absurd (false≢true e)

pub joined : (class : Class) (text : List ℕ) → Joined class text
joined class [] = record { front = []; whole = refl; passes = refl; first = λ h. h }
joined class (b ∷ others) =
    elim (cases_Bool (goes_on class (b ∷ others))) [
      | inl on ↦ (let s = joined class others in record {
        front = b ∷ s.front;
        whole = ap (λ (t : List ℕ). b ∷ t) s.whole ∙ ap (λ (t : List ℕ). b ∷ (s.front ++ t)) (sym (joined_on class b others on));
        passes = and_from (has class b || ((b == 95) && begins class s.front)) (is_joined class s.front)
            (goes_further (has class b) (b == 95) (begins class others) (begins class s.front) s.first on) s.passes;
        first = λ h. h;
      })
      | inr off ↦ record {
        front = [];
        whole = sym (joined_off class b others off);
        passes = refl;
        first = λ h. absurd (false≢true (sym off ∙ or_left (has class b) ((b == 95) && begins class others) h));
      }
    ]

begins-append : (class : Class) (front left : List ℕ) → begins class front ≡ true → begins class (front ++ left) ≡ true
begins-append class [] left e = absurd (false≢true e)
begins-append class (b ∷ front) left e = e

pub joined-all : (class : Class) (front left : List ℕ) → is_joined class front ≡ true
    → past_joined class (front ++ left) ≡ past_joined class left
joined-all class [] left e = refl
joined-all class (b ∷ front) left e =
    let parts = and_parts (has class b || ((b == 95) && begins class front)) (is_joined class front) e in
    joined_on class b (front ++ left) (goes_further (has class b) (b == 95) (begins class front) (begins class (front ++ left))
    (begins-append class front left) parts.0)
    ∙ joined-all class front left parts.1

pub joined-le : (class : Class) (text : List ℕ) → length (past_joined class text) ≤ length text
joined-le class text =
    let s = joined class text in
    omega (arith, ap length s.whole, length-append s.front (past_joined class text))

-- ---- words

-- the bytes of a word and what is left behind them
pub record Worded (text : List ℕ) : Type 0 where
  pub of_word : is_word (take (word_len text) text) ≡ true
  pub whole : text ≡ take (word_len text) text ++ drop (word_len text) text

front-passes : (p : ℕ → Bool) (xs : List ℕ) → list_all p (take (prefix_len p xs) xs) ≡ true
front-passes p [] = refl
front-passes p (x ∷ xs) =
    elim (cases_Bool (p x)) [
      | inl on ↦ (let n : prefix_len p (x ∷ xs) ≡ suc (prefix_len p xs) = ap (λ (v : Bool). cond v (1 + prefix_len p xs) 0) on
          ∙ omega arith in
          subst (λ (n : ℕ). list_all p (take n (x ∷ xs)) ≡ true) (sym n) (and_from (p x) (list_all p (take (prefix_len p xs) xs)) on
          (front-passes p xs)))
      | inr off ↦ (let n : prefix_len p (x ∷ xs) ≡ 0 = ap (λ (v : Bool). cond v (1 + prefix_len p xs) 0) off in
          subst (λ (n : ℕ). list_all p (take n (x ∷ xs)) ≡ true) (sym n) refl)
    ]

word-front : (b : ℕ) (others : List ℕ) → is_letter b ≡ true → is_word_byte b ≡ true → Worded (b ∷ others)
word-front b others on there =
    let n : word_len (b ∷ others) ≡ suc (prefix_len is_word_byte others) = ap (λ (v : Bool). cond v (1 + prefix_len is_word_byte others) 0)
    there ∙ omega arith in
    record {
      of_word = subst (λ (m : ℕ). is_word (take m (b ∷ others)) ≡ true) (sym n) (and_from (is_letter b) (list_all is_word_byte (take
          (prefix_len is_word_byte others) others)) on (front-passes is_word_byte others));
      whole = sym (take-append-drop (word_len (b ∷ others)) (b ∷ others));
    }

letter_word_byte : (digit upper lower joint : Bool) → ((upper || lower) || joint) ≡ true → (((digit || upper) || lower) || joint) ≡ true
letter_word_byte true upper lower joint e = refl
letter_word_byte false upper lower joint e = e

pub letter-word_byte : (b : ℕ) → is_letter b ≡ true → is_word_byte b ≡ true
letter-word_byte b e = letter_word_byte (is_in_range 48 57 b) (is_in_range 65 90 b) (is_in_range 97 122 b) (b == 95) e

pub worded : (text : List ℕ) → begins c.Letter text ≡ true → Worded text
worded [] on = absurd (false≢true on)
worded (b ∷ others) on = word-front b others on (letter-word_byte b on)

-- a word before another byte, and where it ends
pub record Whole (word left : List ℕ) : Type 0 where
  pub taken : take (word_len (word ++ left)) (word ++ left) ≡ word
  pub left_is : drop (word_len (word ++ left)) (word ++ left) ≡ left

front-exact : (p : ℕ → Bool) (xs ys : List ℕ) → list_all p xs ≡ true → prefix_len p ys ≡ 0 → prefix_len p (xs ++ ys) ≡ length xs
front-exact p [] ys e none = none
front-exact p (x ∷ xs) ys e none =
    let parts = and_parts (p x) (list_all p xs) e in
    ap (λ (v : Bool). cond v (1 + prefix_len p (xs ++ ys)) 0) parts.0 ∙ omega (arith, front-exact p xs ys parts.1 none)

front-least : (p : ℕ → Bool) (xs ys : List ℕ) → list_all p xs ≡ true → length xs + prefix_len p ys ≤ prefix_len p (xs ++ ys)
front-least p [] ys e = omega arith
front-least p (x ∷ xs) ys e =
    let parts = and_parts (p x) (list_all p xs) e in
    let n : prefix_len p (x ∷ (xs ++ ys)) ≡ 1 + prefix_len p (xs ++ ys) = ap (λ (v : Bool). cond v (1 + prefix_len p (xs ++ ys)) 0) parts.0
    in
    omega (arith, n, front-least p xs ys parts.1)

pub word-passes : (word : List ℕ) → is_word word ≡ true → list_all is_word_byte word ≡ true
word-passes [] e = refl
word-passes (b ∷ word) e =
    let parts = and_parts (is_letter b) (list_all is_word_byte word) e in
    and_from (is_word_byte b) (list_all is_word_byte word) (letter-word_byte b parts.0) parts.1

ended : (left : List ℕ) → begins c.WordByte left ≡ false → prefix_len is_word_byte left ≡ 0
ended [] off = refl
ended (b ∷ left) off = ap (λ (v : Bool). cond v (1 + prefix_len is_word_byte left) 0) off

pub whole-word : (word left : List ℕ) → is_word word ≡ true → begins c.WordByte left ≡ false → Whole word left
whole-word word left e off =
    let n : word_len (word ++ left) ≡ length word = front-exact is_word_byte word left (word-passes word e) (ended left off) in
    record {
      taken = ap (λ (m : ℕ). take m (word ++ left)) n ∙ take-append_seam word left;
      left_is = ap (λ (m : ℕ). drop m (word ++ left)) n ∙ drop-append_seam word left;
    }

pub word-begins : (word left : List ℕ) → is_word word ≡ true → begins c.Letter (word ++ left) ≡ true
word-begins [] left e = absurd (false≢true e)
word-begins (b ∷ word) left e = (and_parts (is_letter b) (list_all is_word_byte word) e).0

pub word-least : (word left : List ℕ) → is_word word ≡ true → length word + prefix_len is_word_byte left ≤ word_len (word ++ left)
word-least word left e = front-least is_word_byte word left (word-passes word e)

-- ---- comments

pub record Closed (text rest : List ℕ) : Type 0 where
  pub inner : List ℕ
  pub whole : text ≡ inner ++ 42 ∷ 41 ∷ rest
  pub unclosed : is_open (inner ++ 42 ∷ []) ≡ true

begins-there : (class : Class) (xs : List ℕ) (y : ℕ) (ys zs : List ℕ) → begins class (xs ++ y ∷ ys) ≡ begins class (xs ++ y ∷ zs)
begins-there class [] y ys zs = refl
begins-there class (x ∷ xs) y ys zs = refl

pub not_of : (x : Bool) → x ≡ false → not x ≡ true
not_of x e = ap not e

pub of_not : (x : Bool) → not x ≡ true → x ≡ false
of_not true e = sym e
of_not false e = refl

star-close : (others : List ℕ) → begins (c.Byte 41) others ≡ true → others ≡ 41 ∷ drop 1 others
star-close [] on = absurd (false≢true on)
star-close (b ∷ others) on = ap (λ (x : ℕ). x ∷ others) (eqb-true b 41 on)

pub closed : (text rest : List ℕ) → past_close text ≡ Some rest → Closed text rest
closed [] rest e = absurd (none_not rest e)
closed (b ∷ others) rest e =
    elim (cases_Bool ((b == 42) && begins (c.Byte 41) others)) [
      | inl on ↦ (let parts = and_parts (b == 42) (begins (c.Byte 41) others) on in
          let left : drop 1 others ≡ rest = some_is (drop 1 others) rest (sym (ap (λ (v : Bool). cond v (Some (drop 1 others)) (past_close
          others)) on) ∙ e) in
          record {
            inner = [];
            whole = ap (λ (x : ℕ). x ∷ others) (eqb-true b 42 parts.0) ∙ ap (λ (t : List ℕ). 42 ∷ t) (star-close others parts.1)
                ∙ ap (λ (t : List ℕ). 42 ∷ 41 ∷ t) left;
            unclosed = refl;
          })
      | inr off ↦ (let s = closed others rest (sym (ap (λ (v : Bool). cond v (Some (drop 1 others)) (past_close others)) off) ∙ e) in
          let same : begins (c.Byte 41) others ≡ begins (c.Byte 41) (s.inner ++ 42 ∷ []) = ap (begins (c.Byte 41)) s.whole
          ∙ begins-there (c.Byte 41) s.inner 42 (41 ∷ rest) [] in
          record {
            inner = b ∷ s.inner;
            whole = ap (λ (t : List ℕ). b ∷ t) s.whole;
            unclosed = and_from (not ((b == 42) && begins (c.Byte 41) (s.inner ++ 42 ∷ []))) (is_open (s.inner ++ 42 ∷ []))
                (not_of ((b == 42) && begins (c.Byte 41) (s.inner ++ 42 ∷ [])) (ap (λ (v : Bool). (b == 42) && v) (sym same)
                ∙ off)) s.unclosed;
          })
    ]

pub close-there : (inner left : List ℕ) → is_open (inner ++ 42 ∷ []) ≡ true → past_close (inner ++ 42 ∷ 41 ∷ left) ≡ Some left
close-there [] left e = refl
close-there (b ∷ inner) left e =
    let parts = and_parts (not ((b == 42) && begins (c.Byte 41) (inner ++ 42 ∷ []))) (is_open (inner ++ 42 ∷ [])) e in
    let off : ((b == 42) && begins (c.Byte 41) (inner ++ 42 ∷ 41 ∷ left)) ≡ false =
    ap (λ (v : Bool). (b == 42) && v) (begins-there (c.Byte 41) inner 42 (41 ∷ left) [])
    ∙ of_not ((b == 42) && begins (c.Byte 41) (inner ++ 42 ∷ [])) parts.0 in
    ap (λ (v : Bool). cond v (Some (drop 1 (inner ++ 42 ∷ 41 ∷ left))) (past_close (inner ++ 42 ∷ 41 ∷ left))) off
    ∙ close-there inner left parts.1

-- ---- what is taken spells the shape

pub record Found (shape : Shape) (text rest : List ℕ) : Type 0 where
  pub bytes : List ℕ
  pub whole : text ≡ bytes ++ rest
  pub spells : Spells shape bytes

longer_is : (x y : Option (List ℕ)) (rest : List ℕ) → longer x y ≡ Some rest → (x ≡ Some rest) ⊎ (y ≡ Some rest)
longer_is None y rest e = inr e
longer_is (Some a) None rest e = inl e
longer_is (Some a) (Some b) rest e =
    elim (cases_Bool (nat_le (length a) (length b))) [
      | inl on ↦ inl (sym (ap (λ (v : Bool). cond v (Some a) (Some b)) on) ∙ e)
      | inr off ↦ inr (sym (ap (λ (v : Bool). cond v (Some a) (Some b)) off) ∙ e)
    ]

pub found : (shape : Shape) (text rest : List ℕ) → scan shape text ≡ Some rest → Found shape text rest
found done text rest e = record { bytes = []; whole = some_is text rest e; spells = refl }
found (one class s) [] rest e = absurd (none_not rest e)
found (one class s) (b ∷ others) rest e =
    elim (cases_Bool (has class b)) [
      | inl on ↦ (let f = found s others rest (sym (ap (λ (v : Bool). option_and_then (scan s) (cond v (Some others) None)) on) ∙ e) in
          record {
            bytes = b ∷ f.bytes;
            whole = ap (λ (t : List ℕ). b ∷ t) f.whole;
            spells = record { byte = b; rest = f.bytes; spelled = refl; passes = on; behind = f.spells };
          })
      | inr off ↦ absurd (none_not rest (sym (ap (λ (v : Bool). option_and_then (scan s) (cond v (Some others) None)) off) ∙ e))
    ]
found (many class s) text rest e =
    let k = skipped class text in
    let f = found s (skip class text) rest e in
    record {
      bytes = k.front ++ f.bytes;
      whole = k.whole ∙ ap (λ (t : List ℕ). k.front ++ t) f.whole ∙ sym (append_assoc k.front f.bytes rest);
      spells = record { front = k.front; rest = f.bytes; spelled = refl; passes = k.passes; behind = f.spells };
    }
found (number class s) [] rest e = absurd (none_not rest e)
found (number class s) (b ∷ others) rest e =
    elim (cases_Bool (has class b)) [
      | inl on ↦ (let k = joined class others in
          let f = found s (past_joined class others) rest (sym (ap (λ (v : Bool). option_and_then (scan s) (cond v (Some (past_joined class
          others)) None)) on) ∙ e) in
          record {
            bytes = (b ∷ k.front) ++ f.bytes;
            whole = ap (λ (t : List ℕ). b ∷ t) (k.whole ∙ ap (λ (t : List ℕ). k.front ++ t) f.whole
                ∙ sym (append_assoc k.front f.bytes rest));
            spells = record {
              front = b ∷ k.front;
              rest = f.bytes;
              spelled = refl;
              passes = and_from (has class b) (is_joined class
                  k.front) on k.passes;
              behind = f.spells;
            };
          })
      | inr off ↦ absurd (none_not rest (sym (ap (λ (v : Bool). option_and_then (scan s) (cond v (Some (past_joined class others)) None))
          off) ∙ e))
    ]
found (led wants) text rest e =
    elim (cases_Bool (begins c.Letter text)) [
      | inl on ↦ (let k = worded text on in
          let word : List ℕ = take (word_len text) text in
          let behind : List ℕ = drop (word_len text) text in
          let f = found (wants word) behind rest (sym (ap (λ (v : Bool). cond v (scan (wants word) behind) None) on) ∙ e) in
          record {
            bytes = word ++ f.bytes;
            whole = k.whole ∙ ap (λ (t : List ℕ). word ++ t) f.whole ∙ sym (append_assoc word f.bytes rest);
            spells = record { front = word; rest = f.bytes; spelled = refl; passes = k.of_word; behind = f.spells };
          })
      | inr off ↦ absurd (none_not rest (sym (ap (λ (v : Bool). cond v (scan (wants (take (word_len text) text)) (drop (word_len text)
          text)) None) off) ∙ e))
    ]
found (either a b) text rest e =
    elim (longer_is (scan a text) (scan b text) rest e) [
      | inl at ↦ (let f = found a text rest at in record { bytes = f.bytes; whole = f.whole; spells = inl f.spells })
      | inr at ↦ (let f = found b text rest at in record { bytes = f.bytes; whole = f.whole; spells = inr f.spells })
    ]
found closing text rest e =
    let k = closed text rest e in
    record {
      bytes = k.inner ++ 42 ∷ 41 ∷ [];
      whole = k.whole ∙ sym (append_assoc k.inner (42 ∷ 41 ∷ []) rest);
      spells = record { front = k.inner; rest = 42 ∷ 41 ∷ []; spelled = refl; passes = k.unclosed; behind = refl };
    }
