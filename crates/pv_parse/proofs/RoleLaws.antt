-- What a word's role says: of each role, that the word is of its list; and the first token that is outside, found by recursion.
use Rattle.std.proofs.Common.{◌≡◌, ℕ, zero, suc, ◌<◌, length, get_or, drop, Bool, true, false, cond, ◌&&◌, ◌||◌, not, ◌==◌, List, [], ◌∷◌, ◌++◌, refl, ap, sym, subst, arith, Option, Some, None, IfSome, IfNone}
use Rattle.std.specs.List.{list_all}
use Rattle.std.specs.Option.{option_map}
use Rattle.pv_lex.specs.declared.token.Language.{Language}
use Rattle.pv_lex.specs.declared.token.Language.TheVariants as language
use Rattle.pv_lex.specs.declared.token.Token.{Token}
use Rattle.pv_lex.specs.Shapes.{is_one_of}
use Rattle.pv_tree.specs.Lexemes.{Lexeme, lexeme_of, lexemes_of}
use Rattle.pv_tree.specs.Outside.{left_out, area_words, left_out_instructions, timer_words, code_words, data_words, end_words, begin_words, network_words, Spot, first_spot, behind, behind_all, behind_word, is_outside, is_outside_stl, is_outside_word, is_area_word, is_colon_next, is_number_next, NoneOutside, IsFirstOutside, IsWithin}
use Rattle.pv_parse.specs.Roles.{role_entries, role_of, no_role, left_out_word, area_word, left_out_instruction, timer_word, code_word, data_word, end_word, begin_word, network_word, behind_by, behind_role, word_role, is_outside_unmarked, is_outside_by_role, find_outside}
use Rattle.pv_parse.proofs.CaseBlind.{small, look-up-small, of-each}
use Rattle.pv_parse.proofs.KindCases.{words_of, in-words}

-- ---- roles

same-by : (a b : Bool) → (a ≡ true → b ≡ true) → (b ≡ true → a ≡ true) → a ≡ b
same-by true b f g = sym (f refl)
same-by false true f g = g refl
same-by false false f g = refl

equal-by : (a b : ℕ) → (a == b) ≡ true → a ≡ b
equal-by a b e = grind arith

role-like : (role : ℕ) (a b : List ℕ) → small a ≡ small b → (role_of a == role) ≡ (role_of b == role)
role-like role a b e = ap (λ (m : ℕ). m == role) (look-up-small role_entries a b no_role e)

role-by : (role : ℕ) (words : List (List ℕ)) (bytes : List ℕ) → (no_role == role) ≡ false → words_of role role_entries ≡ words
    → list_all (λ w. role_of w == role) words ≡ true → is_one_of words bytes ≡ (role_of bytes == role)
role-by role words bytes e f g =
    same-by (is_one_of words bytes) (role_of bytes == role) (λ h. of-each (λ w. role_of w == role) bytes words (role-like role) g h)
    (λ h. subst (λ ws. is_one_of ws bytes ≡ true) f (in-words role role_entries bytes no_role e (equal-by (role_of bytes) role h)))

pub role-left-out : (bytes : List ℕ) → is_one_of left_out bytes ≡ (role_of bytes == left_out_word)
unfolding role_entries left_out area_words left_out_instructions timer_words code_words data_words end_words begin_words network_words
role-left-out bytes = role-by left_out_word left_out bytes refl refl refl

pub role-area : (bytes : List ℕ) → is_one_of area_words bytes ≡ (role_of bytes == area_word)
unfolding role_entries left_out area_words left_out_instructions timer_words code_words data_words end_words begin_words network_words
role-area bytes = role-by area_word area_words bytes refl refl refl

pub role-instruction : (bytes : List ℕ) → is_one_of left_out_instructions bytes ≡ (role_of bytes == left_out_instruction)
unfolding role_entries left_out area_words left_out_instructions timer_words code_words data_words end_words begin_words network_words
role-instruction bytes = role-by left_out_instruction left_out_instructions bytes refl refl refl

pub role-timer : (bytes : List ℕ) → is_one_of timer_words bytes ≡ (role_of bytes == timer_word)
unfolding role_entries left_out area_words left_out_instructions timer_words code_words data_words end_words begin_words network_words
role-timer bytes = role-by timer_word timer_words bytes refl refl refl

pub role-code : (bytes : List ℕ) → is_one_of code_words bytes ≡ (role_of bytes == code_word)
unfolding role_entries left_out area_words left_out_instructions timer_words code_words data_words end_words begin_words network_words
role-code bytes = role-by code_word code_words bytes refl refl refl

pub role-data : (bytes : List ℕ) → is_one_of data_words bytes ≡ (role_of bytes == data_word)
unfolding role_entries left_out area_words left_out_instructions timer_words code_words data_words end_words begin_words network_words
role-data bytes = role-by data_word data_words bytes refl refl refl

pub role-end : (bytes : List ℕ) → is_one_of end_words bytes ≡ (role_of bytes == end_word)
unfolding role_entries left_out area_words left_out_instructions timer_words code_words data_words end_words begin_words network_words
role-end bytes = role-by end_word end_words bytes refl refl refl

pub role-begin : (bytes : List ℕ) → is_one_of begin_words bytes ≡ (role_of bytes == begin_word)
unfolding role_entries left_out area_words left_out_instructions timer_words code_words data_words end_words begin_words network_words
role-begin bytes = role-by begin_word begin_words bytes refl refl refl

pub role-network : (bytes : List ℕ) → is_one_of network_words bytes ≡ (role_of bytes == network_word)
unfolding role_entries left_out area_words left_out_instructions timer_words code_words data_words end_words begin_words network_words
role-network bytes = role-by network_word network_words bytes refl refl refl

-- ---- the spot behind a word

either-like : (p q r s : Bool) → p ≡ q → r ≡ s → (p || r) ≡ (q || s)
either-like p q r s e f = cc

by-same : (spot : Spot) (a b c d a' b' c' d' : Bool) → a ≡ a' → b ≡ b' → c ≡ c' → d ≡ d' → behind_by spot a b c d ≡ behind_by spot a' b' c' d'
by-same spot a b c d a' b' c' d' e f g h = cc

pub behind-by-role : (spot : Spot) (bytes : List ℕ) → behind_role spot (role_of bytes) ≡ behind_word spot bytes
unfolding behind_word
behind-by-role spot bytes =
    sym (by-same spot (is_one_of code_words bytes) (is_one_of data_words bytes || is_one_of end_words bytes) (is_one_of begin_words bytes)
    (is_one_of network_words bytes) _ _ _ _ (role-code bytes)
    (either-like _ _ _ _ (role-data bytes) (role-end bytes)) (role-begin bytes) (role-network bytes))

-- ---- outside

and-like : (p q r : Bool) → p ≡ q → (p && r) ≡ (q && r)
and-like p q r e = cc

stl-like : (i j t u : Bool) (spot : Spot) (others : List Lexeme) → i ≡ j → t ≡ u
    → ((spot.begins && i && not (is_colon_next others)) || (spot.in_code && not spot.begins && t && is_number_next others))
    ≡ ((spot.begins && j && not (is_colon_next others)) || (spot.in_code && not spot.begins && u && is_number_next others))
stl-like i j t u spot others e f = cc

word-role-is : (its_language : Language) (spot : Spot) (bytes : List ℕ) (others : List Lexeme)
    → is_outside_word its_language spot bytes others ≡ word_role its_language spot (role_of bytes) others
unfolding is_outside_stl
word-role-is language.Scl spot bytes others = refl
word-role-is language.Stl spot bytes others = stl-like _ _ _ _ spot others (role-instruction bytes) (role-timer bytes)

pub unmarked-is : (its_language : Language) (spot : Spot) (bytes : List ℕ) (others : List Lexeme)
    → is_outside_by_role its_language spot (role_of bytes) bytes others
    ≡ is_outside_unmarked its_language spot bytes others
unmarked-is its_language spot bytes others =
    sym (either-like _ _ _ _ (either-like _ _ (is_area_word bytes) _ (role-left-out bytes) refl) (word-role-is its_language spot bytes others))

-- ---- the first one

-- the first from this spot on
pub record FirstFrom (its_language : Language) (spot : Spot) (tokens : List Lexeme) (t : Lexeme) : Type 0 where
  pub before : List Lexeme
  pub others : List Lexeme
  pub parts : tokens ≡ before ++ t ∷ others
  pub none_before : NoneOutside its_language spot before (t ∷ others)
  pub outside : is_outside its_language (behind_all spot before) t others ≡ true

none-some : (t : Lexeme) → None ≡ Some t → ⊥
none-some t e = cc

some-same : (x t : Lexeme) → Some x ≡ Some t → x ≡ t
some-same x t e = cc

one-more : (its_language : Language) (spot : Spot) (x : Lexeme) (xs : List Lexeme) (t : Lexeme) → is_outside its_language spot x xs ≡ false
    → FirstFrom its_language (behind spot x) xs t → FirstFrom its_language spot (x ∷ xs) t
one-more its_language spot x xs t e f =
    record {
      before = x ∷ f.before;
      others = f.others;
      parts = ap (λ (ys : List Lexeme). x ∷ ys) f.parts;
      none_before = (subst (λ ys. is_outside its_language spot x ys ≡ false) f.parts e, f.none_before);
      outside = f.outside;
    }

first-step : (p : Bool) (its_language : Language) (spot : Spot) (x : Lexeme) (xs : List Lexeme) (t : Lexeme)
    → is_outside its_language spot x xs ≡ p → cond p (Some x) (find_outside its_language (behind spot x) xs) ≡ Some t
    → (find_outside its_language (behind spot x) xs ≡ Some t → FirstFrom its_language (behind spot x) xs t)
    → FirstFrom its_language spot (x ∷ xs) t
first-step true its_language spot x xs t e f more =
    let P : Lexeme → Type 0 = λ y. FirstFrom its_language spot (x ∷ xs) y in
    subst P (some-same x t f) (record { before = []; others = xs; parts = refl; none_before = tt; outside = e })
first-step false its_language spot x xs t e f more = one-more its_language spot x xs t e (more f)

first-from : (its_language : Language) (spot : Spot) (tokens : List Lexeme) (t : Lexeme) → find_outside its_language spot tokens ≡ Some t
    → FirstFrom its_language spot tokens t
first-from its_language spot [] t e = absurd (none-some t e)
first-from its_language spot (x ∷ xs) t e =
    first-step (is_outside its_language spot x xs) its_language spot x xs t refl e (first-from its_language (behind spot x) xs t)

pub is-first : (its_language : Language) (tokens : List Lexeme) (t : Lexeme) → find_outside its_language first_spot tokens ≡ Some t
    → IsFirstOutside its_language tokens t
is-first its_language tokens t e =
    let f = first-from its_language first_spot tokens t e in
    record { before = f.before; others = f.others; parts = f.parts; none_before = f.none_before; outside = f.outside }

append-none : (xs : List Lexeme) → xs ++ [] ≡ xs
append-none [] = refl
append-none (x ∷ xs) = ap (λ (ys : List Lexeme). x ∷ ys) (append-none xs)

none-step : (p : Bool) (its_language : Language) (spot : Spot) (x : Lexeme) (xs : List Lexeme) → is_outside its_language spot x xs ≡ p
    → cond p (Some x) (find_outside its_language (behind spot x) xs) ≡ None
    → (find_outside its_language (behind spot x) xs ≡ None → NoneOutside its_language (behind spot x) xs [])
    → NoneOutside its_language spot (x ∷ xs) []
none-step true its_language spot x xs e f more = absurd (none-some x (sym f))
none-step false its_language spot x xs e f more =
    (subst (λ ys. is_outside its_language spot x ys ≡ false) (sym (append-none xs)) e, more f)

none-from : (its_language : Language) (spot : Spot) (tokens : List Lexeme) → find_outside its_language spot tokens ≡ None
    → NoneOutside its_language spot tokens []
none-from its_language spot [] e = tt
none-from its_language spot (x ∷ xs) e =
    none-step (is_outside its_language spot x xs) its_language spot x xs refl e (none-from its_language (behind spot x) xs)

pub is-within : (its_language : Language) (tokens : List Lexeme) → find_outside its_language first_spot tokens ≡ None → IsWithin its_language tokens
is-within its_language tokens e = none-from its_language first_spot tokens e

-- ---- one token more

pub find-step : (its_language : Language) (spot : Spot) (text : List ℕ) (tokens : List Token) (i : ℕ) (d : Token) → i < length tokens
    → find_outside its_language spot (lexemes_of text (drop i tokens))
    ≡ cond (is_outside its_language spot (lexeme_of text (get_or tokens i d)) (lexemes_of text (drop (suc i) tokens)))
    (Some (lexeme_of text (get_or tokens i d)))
    (find_outside its_language (behind spot (lexeme_of text (get_or tokens i d))) (lexemes_of text (drop (suc i) tokens)))
find-step its_language spot text [] i d h = absurd (omega arith)
find-step its_language spot text (t ∷ ts) zero d h = refl
find-step its_language spot text (t ∷ ts) (suc i) d h = find-step its_language spot text ts i d (omega arith)

-- ---- the answer

pub some-first : (its_language : Language) (text : List ℕ) (tokens : List Token) (answer : Option Token)
    → option_map (λ token. lexeme_of text token) answer ≡ find_outside its_language first_spot (lexemes_of text tokens)
    → IfSome answer (λ token. IsFirstOutside its_language (lexemes_of text tokens) (lexeme_of text token))
some-first its_language text tokens (Some t) e = is-first its_language (lexemes_of text tokens) (lexeme_of text t) (sym e)
some-first its_language text tokens None e = tt

pub none-within : (its_language : Language) (text : List ℕ) (tokens : List Token) (answer : Option Token)
    → option_map (λ token. lexeme_of text token) answer ≡ find_outside its_language first_spot (lexemes_of text tokens)
    → IfNone answer (IsWithin its_language (lexemes_of text tokens))
none-within its_language text tokens (Some t) e = tt
none-within its_language text tokens None e = is-within its_language (lexemes_of text tokens) (sym e)
