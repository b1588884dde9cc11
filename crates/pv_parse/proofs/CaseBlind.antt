-- What doesn't depend on the case of letters: being a word of a table, numbered, reserved; and what a table says.
--
-- Each is a function of the text in small letters. So what holds of a table's words, which the check computes, holds of each text
-- that is one of them.
use Rattle.std.proofs.Common.{◌≡◌, ℕ, Bool, true, false, cond, ◌&&◌, ◌||◌, List, [], ◌∷◌, take, drop, refl, ap, sym, ◌∙◌, arith}
use Rattle.std.specs.List.{list_all, list_any}
use Rattle.std.specs.Char.{to_ascii_lowercase, is_ascii_digit}
use Rattle.std.specs.Str.{bytes_eq, str_eq_ignore_ascii_case, str_to_ascii_lowercase}
use Rattle.std.proofs.lemmas.List.{take-map, drop-map}
use Rattle.std.proofs.lemmas.Slice.Eq.{bytes_eq-Decides}
use Rattle.pv_lex.specs.Shapes.{is_one_of}
use Rattle.pv_tree.specs.Words.{prefixes, is_digits, is_numbered_at, is_numbered, is_reserved, block_words, statement_words, function_words}
use Rattle.pv_parse.specs.LookUps.{Entry, look_up}
use Rattle.pv_parse.specs.Kinds.{word_entries, sign_entries, other_kind, word_kind, sign_kind}

abbrev pub small : List ℕ → List ℕ
small text = str_to_ascii_lowercase text

pub same-small : (a word : List ℕ) → str_eq_ignore_ascii_case a word ≡ true → small a ≡ small word
same-small a word e = (bytes_eq-Decides (small a) (small word)).0 e

pub small-same : (a word : List ℕ) → small a ≡ small word → str_eq_ignore_ascii_case a word ≡ true
small-same a word e = (bytes_eq-Decides (small a) (small word)).1 e

small-byte : (b : ℕ) → to_ascii_lowercase (to_ascii_lowercase b) ≡ to_ascii_lowercase b
small-byte b = grind arith

pub small-twice : (text : List ℕ) → small (small text) ≡ small text
small-twice [] = refl
small-twice (b ∷ others) = cc (small-byte b, small-twice others)

digit-byte : (b : ℕ) → is_ascii_digit (to_ascii_lowercase b) ≡ is_ascii_digit b
digit-byte b = grind arith

digits-rest : (text : List ℕ) → list_all is_ascii_digit (small text) ≡ list_all is_ascii_digit text
digits-rest [] = refl
digits-rest (b ∷ others) = cc (digit-byte b, digits-rest others)

digits-small : (text : List ℕ) → is_digits (small text) ≡ is_digits text
digits-small [] = refl
digits-small (b ∷ others) = digits-rest (b ∷ others)

pub one-of-small : (words : List (List ℕ)) (a b : List ℕ) → small a ≡ small b → is_one_of words a ≡ is_one_of words b
unfolding is_one_of
one-of-small words a b e = ap (λ (text : List ℕ). list_any (λ word. bytes_eq text (small word)) words) e

pub look-up-small : (es : List Entry) (a b : List ℕ) (other : ℕ) → small a ≡ small b → look_up es a other ≡ look_up es b other
look-up-small [] a b other e = refl
look-up-small (x ∷ xs) a b other e =
    ap (λ (text : List ℕ). cond (bytes_eq text (small x.0)) x.1 (look_up xs a other)) e
    ∙ ap (λ (n : ℕ). cond (bytes_eq (small b) (small x.0)) x.1 n) (look-up-small xs a b other e)

digits-like : (a b : List ℕ) → small a ≡ small b → is_digits a ≡ is_digits b
digits-like a b e = sym (digits-small a) ∙ ap is_digits e ∙ digits-small b

pub take-like : (n : ℕ) (a b : List ℕ) → small a ≡ small b → small (take n a) ≡ small (take n b)
take-like n a b e = sym (take-map to_ascii_lowercase n a) ∙ ap (take n) e ∙ take-map to_ascii_lowercase n b

drop-like : (n : ℕ) (a b : List ℕ) → small a ≡ small b → small (drop n a) ≡ small (drop n b)
drop-like n a b e = sym (drop-map to_ascii_lowercase n a) ∙ ap (drop n) e ∙ drop-map to_ascii_lowercase n b

pub both-like : (p q r s : Bool) → p ≡ q → r ≡ s → (p && r) ≡ (q && s)
both-like p q r s e f = cc

pub either-like : (p q r s : Bool) → p ≡ q → r ≡ s → (p || r) ≡ (q || s)
either-like p q r s e f = cc

numbered-at-small : (n : ℕ) (a b : List ℕ) → small a ≡ small b → is_numbered_at n a ≡ is_numbered_at n b
numbered-at-small n a b e =
    both-like _ _ _ _ (one-of-small prefixes (take n a) (take n b) (take-like n a b e)) (digits-like (drop n a) (drop n b) (drop-like n a b e))

pub numbered-small : (a b : List ℕ) → small a ≡ small b → is_numbered a ≡ is_numbered b
unfolding is_numbered
numbered-small a b e = either-like _ _ _ _ (numbered-at-small 2 a b e) (numbered-at-small 3 a b e)

pub reserved-small : (a b : List ℕ) → small a ≡ small b → is_reserved a ≡ is_reserved b
unfolding is_reserved
reserved-small a b e =
    either-like _ _ _ _
    (either-like _ _ _ _ (one-of-small block_words a b e) (one-of-small statement_words a b e)) (one-of-small function_words a b e)

other-small : (a b : List ℕ) → small a ≡ small b → other_kind a ≡ other_kind b
unfolding other_kind
other-small a b e = ap (λ (t : Bool). cond t 5 0) (numbered-small a b e)

pub word-small : (a b : List ℕ) → small a ≡ small b → word_kind a ≡ word_kind b
unfolding word_kind
word-small a b e = look-up-small word_entries a b (other_kind a) e ∙ ap (look_up word_entries b) (other-small a b e)

pub sign-small : (a b : List ℕ) → small a ≡ small b → sign_kind a ≡ sign_kind b
unfolding sign_kind
sign-small a b e = look-up-small sign_entries a b 94 e

-- ---- what holds of each word holds of each text that is one

pub left-of : (a b : Bool) → (a && b) ≡ true → a ≡ true
left-of true b e = refl
left-of false b e = e

pub right-of : (a b : Bool) → (a && b) ≡ true → b ≡ true
right-of true b e = e
right-of false b e = cc

by-same : (test : List ℕ → Bool) (text word : List ℕ) (words : List (List ℕ)) (p : Bool) → ((a b : List ℕ) → small a ≡ small b → test a ≡ test b)
    → str_eq_ignore_ascii_case text word ≡ p → test word ≡ true → (p || list_any (λ other. str_eq_ignore_ascii_case text other) words) ≡ true
    → (list_any (λ other. str_eq_ignore_ascii_case text other) words ≡ true → test text ≡ true) → test text ≡ true
by-same test text word words true blind h q e more = blind text word (same-small text word h) ∙ q
by-same test text word words false blind h q e more = more e

pub of-each : (test : List ℕ → Bool) (text : List ℕ) (words : List (List ℕ)) → ((a b : List ℕ) → small a ≡ small b → test a ≡ test b)
    → list_all test words ≡ true → is_one_of words text ≡ true → test text ≡ true
unfolding is_one_of
of-each test text [] blind all e = cc
of-each test text (word ∷ words) blind all e =
    by-same test text word words (str_eq_ignore_ascii_case text word) blind refl (left-of (test word) (list_all test words) all) e
    (λ f. of-each test text words blind (right-of (test word) (list_all test words) all) f)
