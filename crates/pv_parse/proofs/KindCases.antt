-- What a token is that has a kind: of its own kind, and one of the words that the tables give this kind.
use Rattle.std.proofs.Common.{◌≡◌, ℕ, ◌<◌, Bool, true, false, cond, ◌&&◌, ◌||◌, not, ◌==◌, IsTrue, List, [], ◌∷◌, length, refl, ap, sym, ◌∙◌, arith, ◌⊎◌, inl, inr}
use Rattle.std.specs.List.{list_any}
use Rattle.std.specs.Str.{str_eq_ignore_ascii_case}
use Rattle.pv_lex.specs.declared.token.Kind.{Kind}
use Rattle.pv_lex.specs.declared.token.Kind.TheVariants as k
use Rattle.pv_lex.specs.Shapes.{is_one_of}
use Rattle.pv_tree.specs.Lexemes.{Lexeme}
use Rattle.pv_tree.specs.Words.{begins_quoted, is_numbered, prefixes}
use Rattle.pv_tree.specs.Literals.{bare_address}
use Rattle.pv_parse.specs.KindNumbers as n
use Rattle.pv_parse.specs.LookUps.{Entry, look_up}
use Rattle.pv_parse.specs.Kinds.{word_entries, sign_entries, other_kind, word_kind, marked_kind, sign_kind, kind_by, begins_area, IsSoundBy, HasKind}
use Rattle.pv_parse.proofs.CaseBlind.{left-of, right-of}

-- ---- by the token's own kind

pub data Cases (kind : Kind) (bytes : List ℕ) (number : ℕ) : Type 0 where
  of_word : kind ≡ k.Word → word_kind bytes ≡ number → Cases kind bytes number
  of_marked : kind ≡ k.Word → marked_kind bytes ≡ number → Cases kind bytes number
  of_sign : kind ≡ k.Sign → sign_kind bytes ≡ number → Cases kind bytes number
  of_quoted : kind ≡ k.Quoted → n.quoted ≡ number → IsTrue (begins_quoted bytes) → Cases kind bytes number
  of_number : kind ≡ k.Number → n.number ≡ number → 0 < length bytes → Cases kind bytes number
  of_address : kind ≡ k.Address → n.address ≡ number → IsTrue (begins_area (bare_address bytes)) → Cases kind bytes number
  of_none : n.outside ≡ number → Cases kind bytes number

cases-by : (kind : Kind) (marked : Bool) (bytes : List ℕ) (number : ℕ) → kind_by kind marked bytes ≡ number → IsSoundBy kind bytes
    → Cases kind bytes number
cases-by k.Word true bytes number e s = of_marked refl e
cases-by k.Word false bytes number e s = of_word refl e
cases-by k.Quoted marked bytes number e s = of_quoted refl e s
cases-by k.Number marked bytes number e s = of_number refl e s
cases-by k.Real marked bytes number e s = of_none e
cases-by k.Address marked bytes number e s = of_address refl e s
cases-by k.Sign marked bytes number e s = of_sign refl e
cases-by k.End marked bytes number e s = of_none e

pub cases-of : (t : Lexeme) (number : ℕ) → HasKind t number → Cases t.kind t.bytes number
cases-of t number h = cases-by t.kind h.marked t.bytes number h.is h.sound

-- ---- the words of a kind

abbrev pub words_of : ℕ → List Entry → List (List ℕ)
words_of number [] = []
words_of number (e ∷ es) = cond (e.1 == number) (e.0 ∷ words_of number es) (words_of number es)

pub not-equal : (a b : ℕ) → (a == b) ≡ false → a ≡ b → ⊥
not-equal a b e f = grind arith

in-step : (p q : Bool) (word text : List ℕ) (meaning number found : ℕ) (words : List (List ℕ)) → str_eq_ignore_ascii_case text word ≡ p
    → (meaning == number) ≡ q → cond p meaning found ≡ number → (found ≡ number → is_one_of words text ≡ true)
    → is_one_of (cond q (word ∷ words) words) text ≡ true
unfolding is_one_of
in-step true true word text meaning number found words h e f more =
    ap (λ (t : Bool). t || list_any (λ other. str_eq_ignore_ascii_case text other) words) h
in-step true false word text meaning number found words h e f more = absurd (not-equal meaning number e f)
in-step false true word text meaning number found words h e f more =
    ap (λ (t : Bool). t || list_any (λ other. str_eq_ignore_ascii_case text other) words) h ∙ more f
in-step false false word text meaning number found words h e f more = more f

pub in-words : (number : ℕ) (es : List Entry) (text : List ℕ) (other : ℕ) → (other == number) ≡ false → look_up es text other ≡ number
    → is_one_of (words_of number es) text ≡ true
in-words number [] text other e h = absurd (not-equal other number e h)
in-words number (x ∷ xs) text other e h =
    in-step (str_eq_ignore_ascii_case text x.0) (x.1 == number) x.0 text x.1 number (look_up xs text other) (words_of number xs) refl refl h
    (in-words number xs text other e)

-- ---- a kind that only words and signs of the tables have

abbrev pub is_own : ℕ → Bool
is_own number =
    not (n.plain == number)
    && (not (n.numbered == number)
    && (not (n.free_word == number)
    && (not (n.free_prefix == number)
    && (not (n.free_numbered == number)
    && (not (n.quoted == number)
    && (not (n.number == number)
    && (not (n.address == number)
    && not (n.outside == number))))))))

pub not-so : (b : Bool) → not b ≡ true → b ≡ false
not-so true e = sym e
not-so false e = refl

other-step : (b : Bool) (number : ℕ) → (n.numbered == number) ≡ false → (n.plain == number) ≡ false → (cond b n.numbered n.plain == number) ≡ false
other-step true number e f = e
other-step false number e f = f

pub other-apart : (bytes : List ℕ) (number : ℕ) → (n.numbered == number) ≡ false → (n.plain == number) ≡ false → (other_kind bytes == number) ≡ false
unfolding other_kind
other-apart bytes number e f = other-step (is_numbered bytes) number e f

marked-step : (p q : Bool) (number : ℕ) → (n.free_prefix == number) ≡ false → (n.free_numbered == number) ≡ false
    → (n.free_word == number) ≡ false → (cond p n.free_prefix (cond q n.free_numbered n.free_word) == number) ≡ false
marked-step true q number e f g = e
marked-step false true number e f g = f
marked-step false false number e f g = g

pub marked-apart : (bytes : List ℕ) (number : ℕ) → (n.free_prefix == number) ≡ false → (n.free_numbered == number) ≡ false
    → (n.free_word == number) ≡ false → (marked_kind bytes == number) ≡ false
unfolding marked_kind
marked-apart bytes number e f g = marked-step (is_one_of prefixes bytes) (is_numbered bytes) number e f g

-- the numbers that such a kind isn't
pub record Own (number : ℕ) : Type 0 where
  pub plain : (n.plain == number) ≡ false
  pub numbered : (n.numbered == number) ≡ false
  pub free_word : (n.free_word == number) ≡ false
  pub free_prefix : (n.free_prefix == number) ≡ false
  pub free_numbered : (n.free_numbered == number) ≡ false
  pub quoted : (n.quoted == number) ≡ false
  pub number_ : (n.number == number) ≡ false
  pub address : (n.address == number) ≡ false
  pub outside : (n.outside == number) ≡ false

own-by : (a b c d e f g h i : Bool)
    → (not a && (not b && (not c && (not d && (not e && (not f && (not g && (not h && not i)))))))) ≡ true
    → (a ≡ false) × (b ≡ false) × (c ≡ false) × (d ≡ false) × (e ≡ false) × (f ≡ false) × (g ≡ false) × (h ≡ false) × (i ≡ false)
own-by a b c d e f g h i x =
    let x1 = right-of (not a) _ x in
    let x2 = right-of (not b) _ x1 in
    let x3 = right-of (not c) _ x2 in
    let x4 = right-of (not d) _ x3 in
    let x5 = right-of (not e) _ x4 in
    let x6 = right-of (not f) _ x5 in
    let x7 = right-of (not g) _ x6 in (
      not-so a (left-of (not a) _ x),
      not-so b (left-of (not b) _ x1),
      not-so c (left-of (not c) _ x2),
      not-so d (left-of (not d) _ x3),
      not-so e (left-of (not e) _ x4),
      not-so f (left-of (not f) _ x5),
      not-so g (left-of (not g) _ x6),
      not-so h (left-of (not h) _ x7),
      not-so i (right-of (not h) _ x7),
    )

own-of : (number : ℕ) → is_own number ≡ true → Own number
own-of number e =
    let x = own-by _ _ _ _ _ _ _ _ _ e in
    record { plain = x.0; numbered = x.1; free_word = x.2; free_prefix = x.3; free_numbered = x.4; quoted = x.5; number_ = x.6; address = x.7; outside = x.8 }

-- a word of this kind, or a sign
abbrev pub IsSpelled : ℕ → Kind → List ℕ → Type 0
IsSpelled number kind bytes =
    ((kind ≡ k.Word) × (is_one_of (words_of number word_entries) bytes ≡ true))
    ⊎ ((kind ≡ k.Sign) × (is_one_of (words_of number sign_entries) bytes ≡ true))

spelled-as : (kind : Kind) (bytes : List ℕ) (number : ℕ) → Own number → Cases kind bytes number → IsSpelled number kind bytes
unfolding word_kind sign_kind
spelled-as kind bytes number o (of_word e h) = inl (e, in-words number word_entries bytes _ (other-apart bytes number o.numbered o.plain) h)
spelled-as kind bytes number o (of_marked e h) =
    absurd (not-equal (marked_kind bytes) number (marked-apart bytes number o.free_prefix o.free_numbered o.free_word) h)
spelled-as kind bytes number o (of_sign e h) = inr (e, in-words number sign_entries bytes _ o.outside h)
spelled-as kind bytes number o (of_quoted e h s) = absurd (not-equal n.quoted number o.quoted h)
spelled-as kind bytes number o (of_number e h s) = absurd (not-equal n.number number o.number_ h)
spelled-as kind bytes number o (of_address e h s) = absurd (not-equal n.address number o.address h)
spelled-as kind bytes number o (of_none h) = absurd (not-equal n.outside number o.outside h)

pub spelled-by : (t : Lexeme) (number : ℕ) → is_own number ≡ true → HasKind t number → IsSpelled number t.kind t.bytes
spelled-by t number e h = spelled-as t.kind t.bytes number (own-of number e) (cases-of t number h)
