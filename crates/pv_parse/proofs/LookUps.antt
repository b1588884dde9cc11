-- Look-ups in tables of words and signs: from a place of the table on, and in the part of it that begins with a byte.
use Rattle.std.proofs.Common.{◌≡◌, ℕ, zero, suc, ◌<◌, length, get_or, drop, map, Bool, true, false, cond, ◌==◌, List, [], ◌∷◌, refl, ap, sym, ◌∙◌, arith, ◌&&◌, ◌||◌}
use Rattle.std.specs.List.{list_all}
use Rattle.std.specs.Char.{to_ascii_lowercase, is_ascii_digit}
use Rattle.std.specs.Str.{bytes_eq, str_eq_ignore_ascii_case}
use Rattle.pv_tree.specs.Words.{is_digits}
use Rattle.pv_parse.specs.declared.look_up.Entry.{Entry as CodeEntry}
use Rattle.pv_parse.specs.LookUps.{Entry, look_up, begins_with, entries_with, entry_of}

-- ---- from a place of the table on

pub found-here : (text : List ℕ) (other : ℕ) (es : List CodeEntry) (i : ℕ) (d : CodeEntry) → i < length es
    → str_eq_ignore_ascii_case text (get_or es i d).spelling.now ≡ true
    → look_up (drop i (map entry_of es)) text other ≡ (get_or es i d).meaning
found-here text other [] i d h e = absurd (omega arith)
found-here text other (x ∷ xs) zero d h e = ap (λ (b : Bool). cond b x.meaning (look_up (map entry_of xs) text other)) e
found-here text other (x ∷ xs) (suc i) d h e = found-here text other xs i d (omega arith) e

pub found-later : (text : List ℕ) (other : ℕ) (es : List CodeEntry) (i : ℕ) (d : CodeEntry) → i < length es
    → str_eq_ignore_ascii_case text (get_or es i d).spelling.now ≡ false
    → look_up (drop i (map entry_of es)) text other ≡ look_up (drop (suc i) (map entry_of es)) text other
found-later text other [] i d h e = absurd (omega arith)
found-later text other (x ∷ xs) zero d h e = ap (λ (b : Bool). cond b x.meaning (look_up (map entry_of xs) text other)) e
found-later text other (x ∷ xs) (suc i) d h e = found-later text other xs i d (omega arith) e

-- ---- the part that begins with a byte

not-both : (m n : ℕ) → (m == n) ≡ false → (n == m) ≡ false
not-both m n e = grind arith

pub other-begin : (b : ℕ) (rest word : List ℕ) → begins_with (to_ascii_lowercase b) word ≡ false
    → str_eq_ignore_ascii_case (b ∷ rest) word ≡ false
other-begin b rest [] e = refl
other-begin b rest (x ∷ xs) e =
    ap (λ (t : Bool). t && bytes_eq (map to_ascii_lowercase rest) (map to_ascii_lowercase xs)) (not-both _ _ e)

kept-step : (p s : Bool) (e : Entry) (part es : List Entry) (text : List ℕ) (other : ℕ) → (p ≡ false → s ≡ false)
    → str_eq_ignore_ascii_case text e.0 ≡ s → look_up part text other ≡ look_up es text other
    → look_up (cond p (e ∷ part) part) text other ≡ cond s e.1 (look_up es text other)
kept-step true s e part es text other f h q =
    ap (λ (n : ℕ). cond (str_eq_ignore_ascii_case text e.0) e.1 n) q ∙ ap (λ (t : Bool). cond t e.1 (look_up es text other)) h
kept-step false s e part es text other f h q = q ∙ ap (λ (t : Bool). cond t e.1 (look_up es text other)) (sym (f refl))

pub part-enough : (b : ℕ) (rest : List ℕ) (es : List Entry) (other : ℕ)
    → look_up (entries_with (to_ascii_lowercase b) es) (b ∷ rest) other ≡ look_up es (b ∷ rest) other
part-enough b rest [] other = refl
part-enough b rest (e ∷ es) other =
    kept-step (begins_with (to_ascii_lowercase b) e.0) (str_eq_ignore_ascii_case (b ∷ rest) e.0) e
    (entries_with (to_ascii_lowercase b) es) es (b ∷ rest) other (other-begin b rest e.0) refl (part-enough b rest es other)

-- so it is enough to look there
pub part-of-text : (text : List ℕ) (es : List Entry) (other : ℕ) → (length text == 0) ≡ false
    → look_up (entries_with (to_ascii_lowercase (get_or text 0 0)) es) text other ≡ look_up es text other
part-of-text [] es other e = cc
part-of-text (b ∷ rest) es other e = part-enough b rest es other

pub by-part : (text : List ℕ) (whole part : List Entry) (b other found : ℕ) → (length text == 0) ≡ false → part ≡ entries_with b whole
    → b ≡ to_ascii_lowercase (get_or text 0 0) → look_up part text other ≡ found → look_up whole text other ≡ found
by-part text whole part b other found e p q h =
    sym (part-of-text text whole other e) ∙ ap (λ (es : List Entry). look_up es text other) (sym (p
    ∙ ap (λ (n : ℕ). entries_with n whole) q)) ∙ h

-- a text without bytes is none of the words, which have some
pub no-text : (text : List ℕ) (es : List Entry) (other : ℕ) → (length text == 0) ≡ true → look_up es [] other ≡ other
    → look_up es text other ≡ other
no-text [] es other e f = f
no-text (b ∷ rest) es other e f = absurd (grind arith)

-- ---- digits

pub digits-are : (xs : List ℕ) → (length xs == 0) ≡ false → is_digits xs ≡ list_all is_ascii_digit xs
digits-are [] e = cc
digits-are (x ∷ xs) e = refl

-- ---- a byte that no word of a table begins with

-- the byte is none of these
abbrev pub IsNoneOf : ℕ → List ℕ → Type 0
IsNoneOf byte [] = Unit {0}
IsNoneOf byte (b ∷ others) = (byte ≡ b → ⊥) × IsNoneOf byte others

-- the word begins with one of these bytes, or each word of the table does
abbrev pub begins_any : List ℕ → List ℕ → Bool
begins_any [] word = false
begins_any (b ∷ others) word = begins_with b word || begins_any others word

abbrev pub all_begin : List ℕ → List Entry → Bool
all_begin bytes [] = true
all_begin bytes (e ∷ es) = begins_any bytes e.0 && all_begin bytes es

by-first : (byte v b : ℕ) (p r : Bool) → (v == b) ≡ p → (p || r) ≡ true → (byte ≡ b → ⊥) → (r ≡ true → (v == byte) ≡ false)
    → (v == byte) ≡ false
by-first byte v b true r q e n more = grind arith
by-first byte v b false r q e n more = more e

other-byte : (byte x : ℕ) (bs : List ℕ) (rest : List ℕ) → begins_any bs (x ∷ rest) ≡ true → IsNoneOf byte bs
    → (to_ascii_lowercase x == byte) ≡ false
other-byte byte x [] rest e n = cc
other-byte byte x (b ∷ bs) rest e n =
    by-first byte (to_ascii_lowercase x) b (to_ascii_lowercase x == b) (begins_any bs (x ∷ rest)) refl e n.0
    (λ f. other-byte byte x bs rest f n.1)

other-word : (byte : ℕ) (bs word : List ℕ) → begins_any bs word ≡ true → IsNoneOf byte bs → begins_with byte word ≡ false
other-word byte bs [] e n = refl
other-word byte bs (x ∷ rest) e n = other-byte byte x bs rest e n

none-step : (p : Bool) (e : Entry) (part : List Entry) → p ≡ false → part ≡ [] → cond p (e ∷ part) part ≡ []
none-step true e part h q = cc
none-step false e part h q = q

left-of : (a b : Bool) → (a && b) ≡ true → a ≡ true
left-of true b e = refl
left-of false b e = e

right-of : (a b : Bool) → (a && b) ≡ true → b ≡ true
right-of true b e = e
right-of false b e = cc

pub none-begins : (byte : ℕ) (bs : List ℕ) (es : List Entry) → all_begin bs es ≡ true → IsNoneOf byte bs → entries_with byte es ≡ []
none-begins byte bs [] e n = refl
none-begins byte bs (x ∷ xs) e n =
    none-step (begins_with byte x.0) x (entries_with byte xs)
    (other-word byte bs x.0 (left-of (begins_any bs x.0) (all_begin bs xs) e) n)
    (none-begins byte bs xs (right-of (begins_any bs x.0) (all_begin bs xs) e) n)
