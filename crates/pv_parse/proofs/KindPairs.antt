-- Numbered names of two tokens, and functions of one argument, by their kinds.
use Rattle.std.proofs.Common.{◌≡◌, ℕ, suc, ◌<◌, Bool, true, false, ◌&&◌, ◌||◌, not, ◌==◌, nat_lt, List, [], ◌∷◌, ◌++◌, length, take, map, slice_index_or, codes, refl, ap, sym, subst, ◌∙◌, arith, ◌⊎◌, inl, inr, length-append}
use Rattle.std.specs.Char.{to_ascii_lowercase}
use Rattle.std.specs.Str.{str_eq_ignore_ascii_case}
use Rattle.std.proofs.lemmas.List.{length-map}
use Rattle.pv_word.specs.declared.types.Ty.{Ty}
use Rattle.pv_word.specs.declared.types.Ty.TheVariants as ty
use Rattle.pv_lex.specs.declared.token.Kind.TheVariants as k
use Rattle.pv_lex.specs.Shapes.{is_one_of}
use Rattle.pv_tree.specs.declared.expr.StdFunction.{StdFunction}
use Rattle.pv_tree.specs.declared.expr.StdFunction.TheVariants as function
use Rattle.pv_tree.specs.Lexemes.{Lexeme}
use Rattle.pv_tree.specs.Words.{prefixes, is_reserved, block_words, function_words, function_word, type_word, conversion_words, targets_of, pair_name, IsNumberedPair, IsFree}
use Rattle.pv_tree.specs.Words.{statement_words as code_words}
use Rattle.pv_tree.specs.Expressions.{IsOfFunction}
use Rattle.pv_parse.specs.KindNumbers as n
use Rattle.pv_parse.specs.Kinds.{HasKind, one_functions}
use Rattle.pv_parse.proofs.CaseBlind.{small, one-of-small, take-like, both-like, either-like, of-each}
use Rattle.pv_parse.proofs.KindSpelled.{SaidBy, one-or, one-of-none, is-one-function}
use Rattle.pv_parse.proofs.KindNames.{not-reserved, free-by, Counted}
use Rattle.pv_parse.proofs.KindOf.{kind_of_function}

-- ---- numbered names of two tokens

equal-by : (a b : ℕ) → (a == b) ≡ true → a ≡ b
equal-by a b e = grind arith

or-true : (p q : Bool) → q ≡ true → (p || q) ≡ true
or-true true q e = refl
or-true false q e = e

true-or : (p q : Bool) → p ≡ true → (p || q) ≡ true
true-or true q e = refl
true-or false q e = cc

-- a prefix of so many bytes, and something behind it
abbrev is_longer_at : ℕ → List ℕ → Bool
is_longer_at len text = is_one_of prefixes (take len text) && nat_lt len (length text)

abbrev is_longer : List ℕ → Bool
is_longer text = is_longer_at 2 text || is_longer_at 3 text

length-like : (a b : List ℕ) → small a ≡ small b → length a ≡ length b
length-like a b e = sym (length-map a to_ascii_lowercase) ∙ ap length e ∙ length-map b to_ascii_lowercase

longer-at-like : (len : ℕ) (a b : List ℕ) → small a ≡ small b → is_longer_at len a ≡ is_longer_at len b
longer-at-like len a b e =
    both-like _ _ _ _ (one-of-small prefixes (take len a) (take len b) (take-like len a b e)) (ap (nat_lt len) (length-like a b e))

longer-like : (a b : List ℕ) → small a ≡ small b → not (is_longer a) ≡ not (is_longer b)
longer-like a b e = ap not (either-like _ _ _ _ (longer-at-like 2 a b e) (longer-at-like 3 a b e))

longer-unreserved : (text : List ℕ) → is_longer text ≡ true → is_reserved text ≡ false
unfolding is_reserved is_one_of block_words code_words function_words prefixes function_word type_word
longer-unreserved text e = not-reserved (λ w. not (is_longer w)) text longer-like refl refl refl (ap not e)

has-two-or-three : (text : List ℕ) → is_one_of prefixes text ≡ true → ((length text == 2) || (length text == 3)) ≡ true
unfolding prefixes
has-two-or-three text e =
    of-each (λ w. (length w == 2) || (length w == 3)) text prefixes (λ a b q. ap (λ (m : ℕ). (m == 2) || (m == 3)) (length-like a b q)) refl e

both-true : (p q : Bool) → p ≡ true → q ≡ true → (p && q) ≡ true
both-true true q e f = f
both-true false q e f = e

less-so : (m l : ℕ) → m < l → nat_lt m l ≡ true
less-so m l h = grind arith

take-front : (front back : List ℕ) → take (length front) (front ++ back) ≡ front
take-front [] back = refl
take-front (b ∷ others) back = ap (λ (xs : List ℕ). b ∷ xs) (take-front others back)

front-is : (front back : List ℕ) (len : ℕ) → length front ≡ len → take len (front ++ back) ≡ front
front-is front back len e = let P : ℕ → Type 0 = λ m. take m (front ++ back) ≡ front in subst P e (take-front front back)

longer-by : (len : ℕ) (front back : List ℕ) → length front ≡ len → is_one_of prefixes front ≡ true → 0 < length back
    → is_longer_at len (front ++ back) ≡ true
longer-by len front back e f h =
    both-true (is_one_of prefixes (take len (front ++ back))) (nat_lt len (length (front ++ back)))
    (ap (is_one_of prefixes) (front-is front back len e) ∙ f)
    (less-so len (length (front ++ back)) (rw length-append (omega arith)))

longer-step : (p q : Bool) (front back : List ℕ) → (length front == 2) ≡ p → (length front == 3) ≡ q → (p || q) ≡ true
    → is_one_of prefixes front ≡ true → 0 < length back → is_longer (front ++ back) ≡ true
longer-step true q front back e f h o s = true-or _ _ (longer-by 2 front back (equal-by (length front) 2 e) o s)
longer-step false true front back e f h o s = or-true _ _ (longer-by 3 front back (equal-by (length front) 3 f) o s)
longer-step false false front back e f h o s = cc

pair-longer : (front back : List ℕ) → is_one_of prefixes front ≡ true → 0 < length back → is_longer (front ++ back) ≡ true
pair-longer front back o s =
    longer-step (length front == 2) (length front == 3) front back refl refl (has-two-or-three front o) o s

pub pair-free : (front back : List ℕ) → is_one_of prefixes front ≡ true → 0 < length back → IsFree (pair_name (front ++ back))
pair-free front back o s = free-by (front ++ back) (longer-unreserved (front ++ back) (pair-longer front back o s))

pub is-pair : (prefix number : Lexeme) → SaidBy k.Word prefixes prefix → Counted number
    → IsNumberedPair (pair_name (prefix.bytes ++ number.bytes)) prefix.place (prefix ∷ number ∷ [])
is-pair prefix number s c =
    record { prefix = prefix; number = number; parts = refl; at = refl; word = s.0; is_prefix = s.1; counts = c.is; names = refl }

-- ---- functions of one argument

one-here : (x : List ℕ) (xs : List (List ℕ)) (text : List ℕ) → str_eq_ignore_ascii_case text x ≡ true → is_one_of (x ∷ xs) text ≡ true
unfolding is_one_of
one-here x xs text h = true-or (str_eq_ignore_ascii_case text x) _ h

one-later : (x : List ℕ) (xs : List (List ℕ)) (text : List ℕ) → is_one_of xs text ≡ true → is_one_of (x ∷ xs) text ≡ true
unfolding is_one_of
one-later x xs text h = or-true (str_eq_ignore_ascii_case text x) _ h

one-of-append : (xs ys : List (List ℕ)) (text : List ℕ) → is_one_of (xs ++ ys) text ≡ true
    → (is_one_of xs text ≡ true) ⊎ (is_one_of ys text ≡ true)
one-of-append [] ys text e = inr e
one-of-append (x ∷ xs) ys text e =
    elim (one-or x (xs ++ ys) text e) [
      | inl h ↦ inl (one-here x xs text h)
      | inr h ↦ elim (one-of-append xs ys text h) [ inl m ↦ inl (one-later x xs text m) | inr m ↦ inr m ]
    ]

-- a conversion of the type to one of these
pub record Converts (from : Ty) (tos : List Ty) (text : List ℕ) : Type 0 where
  pub to : Ty
  pub at : ℕ
  pub within : at < length tos
  pub is : slice_index_or tos at to ≡ to
  pub spelled : str_eq_ignore_ascii_case text (function_word (function.Convert from to)) ≡ true

later-conversion : (from x : Ty) (xs : List Ty) (text : List ℕ) → Converts from xs text → Converts from (x ∷ xs) text
later-conversion from x xs text c =
    record { to = c.to; at = suc c.at; within = let h = c.within in omega arith; is = c.is; spelled = c.spelled }

conversion-in : (from : Ty) (tos : List Ty) (text : List ℕ)
    → is_one_of (map (λ target. function_word (function.Convert from target)) tos) text ≡ true → Converts from tos text
conversion-in from [] text e = absurd (one-of-none text e)
conversion-in from (x ∷ xs) text e =
    elim (one-or (function_word (function.Convert from x)) (map (λ target. function_word (function.Convert from target)) xs) text e) [
      | inl h ↦ record { to = x; at = 0; within = omega arith; is = refl; spelled = h }
      | inr h ↦ later-conversion from x xs text (conversion-in from xs text h)
    ]

pub record OneFunction (t : Lexeme) : Type 0 where
  pub its_function : StdFunction
  pub is : IsOfFunction its_function t
  pub takes_one : kind_of_function its_function ≡ n.one_function

of-type : (from : Ty) (t : Lexeme) → t.kind ≡ k.Word → is_one_of (conversion_words from) t.bytes ≡ true → OneFunction t
of-type from t e h =
    let c = conversion-in from (targets_of from) t.bytes h in
    record {
      its_function = function.Convert from c.to;
      is = record { is_one = (c.at, c.within, c.is); kind = e; bytes = c.spelled };
      takes_one = refl;
    }

by-type : (t : Lexeme) → t.kind ≡ k.Word → is_one_of (conversion_words ty.Bool ++ conversion_words ty.Byte ++ conversion_words ty.Word ++ conversion_words ty.Dword ++ conversion_words ty.Int ++ conversion_words ty.Dint ++ conversion_words ty.Time) t.bytes ≡ true → OneFunction t
by-type t e h =
    elim (one-of-append (conversion_words ty.Bool) (conversion_words ty.Byte ++ conversion_words ty.Word ++ conversion_words ty.Dword ++ conversion_words ty.Int ++ conversion_words ty.Dint ++ conversion_words ty.Time) t.bytes h) [ inl m ↦ of-type ty.Bool t e m | inr m0 ↦ elim (one-of-append (conversion_words ty.Byte) (conversion_words ty.Word ++ conversion_words ty.Dword ++ conversion_words ty.Int ++ conversion_words ty.Dint ++ conversion_words ty.Time) t.bytes m0) [ inl m ↦ of-type ty.Byte t e m | inr m1 ↦ elim (one-of-append (conversion_words ty.Word) (conversion_words ty.Dword ++ conversion_words ty.Int ++ conversion_words ty.Dint ++ conversion_words ty.Time) t.bytes m1) [ inl m ↦ of-type ty.Word t e m | inr m2 ↦ elim (one-of-append (conversion_words ty.Dword) (conversion_words ty.Int ++ conversion_words ty.Dint ++ conversion_words ty.Time) t.bytes m2) [ inl m ↦ of-type ty.Dword t e m | inr m3 ↦ elim (one-of-append (conversion_words ty.Int) (conversion_words ty.Dint ++ conversion_words ty.Time) t.bytes m3) [ inl m ↦ of-type ty.Int t e m | inr m4 ↦ elim (one-of-append (conversion_words ty.Dint) (conversion_words ty.Time) t.bytes m4) [ inl m ↦ of-type ty.Dint t e m | inr m5 ↦ of-type ty.Time t e m5 ] ] ] ] ] ]

function-said : (t : Lexeme) → SaidBy k.Word one_functions t → OneFunction t
unfolding one_functions function_word
function-said t s =
    elim (one-or (codes "ABS") (conversion_words ty.Bool ++ conversion_words ty.Byte ++ conversion_words ty.Word ++ conversion_words ty.Dword ++ conversion_words ty.Int ++ conversion_words ty.Dint ++ conversion_words ty.Time) t.bytes s.1) [
      | inl h ↦ record { its_function = function.Abs; is = record { is_one = tt; kind = s.0; bytes = h }; takes_one = refl }
      | inr h ↦ by-type t s.0 h
    ]

pub is-function : (t : Lexeme) → HasKind t n.one_function → OneFunction t
is-function t h = function-said t (is-one-function t h)
