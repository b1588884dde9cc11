-- No stretch that begins a text is longer than the one that is found; and what is next in a text is one.
use Rattle.std.proofs.Common.{◌≡◌, ◌⊎◌, ℕ, zero, suc, ◌+◌, ◌≤◌, length, drop, take, Bool, true, false, cond, not, inl, inr, List, [], ◌++◌, Option, Some, None, refl, ap, sym, ◌∙◌, subst, arith, lit≤, append_assoc, length-append}
use Rattle.std.specs.Prelude.{◌&&◌}
use Rattle.std.specs.Char.{is_ascii_digit}
use Rattle.std.proofs.Math.Seq.{take-append_seam, drop-append_seam}
use Rattle.std.proofs.lemmas.Bool.{false≢true, cases_Bool}
use Rattle.pv_lex.specs.declared.class.Class.{Class}
use Rattle.pv_lex.specs.declared.class.Class.TheVariants as c
use Rattle.pv_lex.specs.declared.context.Context.{Context}
use Rattle.pv_lex.specs.declared.stretch.Stretch.{Stretch}
use Rattle.pv_lex.specs.declared.token.Language.{Language}
use Rattle.pv_lex.specs.declared.token.Language.TheVariants as l
use Rattle.pv_lex.specs.declared.token.Kind.{Kind}
use Rattle.pv_lex.specs.declared.token.Kind.TheVariants as k
use Rattle.pv_lex.specs.Classes.{has, is_letter}
use Rattle.pv_lex.specs.Shapes.{Shape, Spells, begins, dropped, word, quoted, address, any_number, typed_number, plain_number, real, signs}
use Rattle.pv_lex.specs.Tokens.{IsStretch, IsHeaderLine, IsLongest, NoneBegins, NoneIsNext, is_fit, rank}
use Rattle.pv_lex.specs.Scans.{scan, past_header, better, letter_stretch, digit_stretch, sign_stretch, stretch_of}
use Rattle.pv_lex.proofs.Scanning.{word-begins}
use Rattle.pv_lex.proofs.Within.{within, starts}
use Rattle.pv_lex.proofs.Sure.{
  dropped-sure,
  word-sure,
  quoted-sure,
  address-sure,
  plain-number-sure,
  typed-number-sure,
  real-sure,
  signs-sure,
}
use Rattle.pv_lex.proofs.Starts.{all_below, letter-low, digit-low, solid, solid-some, Start, start-of, no_start, plain-digit}
use Rattle.pv_lex.proofs.Headers.{Passed, header-within}
use Rattle.pv_lex.proofs.Nexts.{
  AtMost,
  better-here,
  better-rank,
  better-behind,
  OfRank,
  FoundStretch,
  letter-found,
  digit-found,
  sign-found,
  rank-low,
  some_stretch,
  no_stretch,
}

-- ---- a text that begins with a letter

abbrev numbers : List ℕ → Option Stretch
numbers text = better (Some k.Number) (scan typed_number text) None

abbrev words : List ℕ → Option Stretch
words text = better (Some k.Word) (scan word text) (numbers text)

abbrev addresses : List ℕ → Option Stretch
addresses text = better (Some k.Address) (scan address text) (words text)

number-ranks : (n : ℕ) (text : List ℕ) → n ≤ 4 → OfRank n (numbers text)
number-ranks n text h = better-rank n (Some k.Number) (scan typed_number text) None h tt

word-ranks : (n : ℕ) (text : List ℕ) → n ≤ 2 → OfRank n (words text)
word-ranks n text h = better-rank n (Some k.Word) (scan word text) (numbers text) h (number-ranks n text (omega arith))

address-ranks : (text : List ℕ) → OfRank 0 (addresses text)
address-ranks text = better-rank 0 (Some k.Address) (scan address text) (words text) (lit≤ tt) (word-ranks 0 text (lit≤ tt))

letter-clash : (s : Shape) (text bytes left : List ℕ) → solid s ≡ true → all_below 128 (λ b. not (is_letter b && starts s b)) ≡ true
    → begins c.Letter text ≡ true → text ≡ bytes ++ left → Spells s bytes → ⊥
letter-clash s text bytes left e table on is sp = no_start c.Letter s text letter-low table on (start-of s text bytes left e is sp)

from_words : (language : Language) (context : Context) (text : List ℕ) (kind : Option Kind) (left : ℕ) → AtMost (words text) kind left
    → AtMost (better None (past_header language context text) (addresses text)) kind left
from_words language context text kind left w =
    better-behind None (past_header language context text) (addresses text) kind left (address-ranks text)
    (better-behind (Some k.Address) (scan address text) (words text) kind left (word-ranks 1 text (lit≤ tt)) w)

sooner : (r : Option Stretch) (left : ℕ) → AtMost r (Some k.Word) left → (more : ℕ) → left + 1 ≤ more → AtMost r None more
sooner r left w more h = record { s = w.s; is = w.is; least = omega (arith, w.least) }

header-least : (language : Language) (context : Context) (text left : List ℕ)
    → (Passed text left (past_header language context text) 0) ⊎ (Passed text left (scan word text) 1)
    → AtMost (better None (past_header language context text) (addresses text)) None (length left)
header-least language context text left (inl p) = better-here None (past_header language context text) (addresses text) p.rest (length
    left) p.is (omega (arith, p.least))
header-least language context text left (inr p) =
    sooner (better None (past_header language context text) (addresses text)) (length p.rest)
    (from_words language context text (Some k.Word) (length p.rest) (better-here (Some k.Word) (scan word text) (numbers text) p.rest
    (length p.rest) p.is (omega arith)))
    (length left) p.least

letter-least : (language : Language) (context : Context) (text : List ℕ) (kind : Option Kind) (bytes left : List ℕ)
    → begins c.Letter text ≡ true → text ≡ bytes ++ left
    → IsStretch language context kind bytes → AtMost (letter_stretch language context text) kind (length left)
unfolding letter_stretch
letter-least language context text None bytes left on is (inl sp) = absurd (letter-clash dropped text bytes left refl refl on is sp)
letter-least language context text None bytes left on is (inr h) = header-least language context text left (header-within language context
    bytes left text is h)
letter-least language context text (Some k.Address) bytes left on is sp =
    let w = within address address-sure bytes left text is sp in
    better-behind None (past_header language context text) (addresses text) (Some k.Address) (length left) (address-ranks text)
    (better-here (Some k.Address) (scan address text) (words text) w.rest (length left) w.taken w.least)
letter-least language context text (Some k.Word) bytes left on is sp =
    let w = within word word-sure bytes left text is sp in
    from_words language context text (Some k.Word) (length left) (better-here (Some k.Word) (scan word text) (numbers text) w.rest (length
    left) w.taken w.least)
letter-least language context text (Some k.Number) bytes left on is (inl sp) = absurd (letter-clash plain_number text bytes left refl refl
    on is sp)
letter-least language context text (Some k.Number) bytes left on is (inr sp) =
    let w = within typed_number typed-number-sure bytes left text is sp in
    from_words language context text (Some k.Number) (length left)
    (better-behind (Some k.Word) (scan word text) (numbers text) (Some k.Number) (length left) (number-ranks 2 text (lit≤ tt))
    (better-here (Some k.Number) (scan typed_number text) None w.rest (length left) w.taken w.least))
letter-least language context text (Some k.Quoted) bytes left on is sp = absurd (letter-clash quoted text bytes left refl refl on is sp)
letter-least language context text (Some k.Real) bytes left on is sp = absurd (letter-clash real text bytes left refl refl on is sp)
letter-least l.Scl context text (Some k.Sign) bytes left on is sp = absurd (letter-clash (signs l.Scl) text bytes left refl refl on is sp)
letter-least l.Stl context text (Some k.Sign) bytes left on is sp = absurd (letter-clash (signs l.Stl) text bytes left refl refl on is sp)
letter-least language context text (Some k.End) bytes left on is sp = absurd sp

-- ---- a text that begins with a digit

abbrev reals : List ℕ → Option Stretch
reals text = better (Some k.Real) (scan real text) None

real-ranks : (text : List ℕ) → OfRank 4 (reals text)
real-ranks text = better-rank 4 (Some k.Real) (scan real text) None (lit≤ tt) tt

digit-clash : (s : Shape) (text bytes left : List ℕ) → solid s ≡ true → all_below 128 (λ b. not (is_ascii_digit b && starts s b)) ≡ true
    → begins c.Digit text ≡ true → text ≡ bytes ++ left → Spells s bytes → ⊥
digit-clash s text bytes left e table on is sp = no_start c.Digit s text digit-low table on (start-of s text bytes left e is sp)

pub header-letter : (language : Language) (context : Context) (text bytes left : List ℕ) → text ≡ bytes ++ left
    → IsHeaderLine language context bytes → begins c.Letter text ≡ true
header-letter language context text bytes left is h =
    ap (begins c.Letter) (is ∙ ap (λ (b : List ℕ). b ++ left) h.spelled ∙ append_assoc h.word h.line left)
    ∙ word-begins h.word (h.line ++ left) h.of_word

digit-least : (language : Language) (context : Context) (text : List ℕ) (kind : Option Kind) (bytes left : List ℕ)
    → begins c.Letter text ≡ false → begins c.Digit text ≡ true
    → text ≡ bytes ++ left → IsStretch language context kind bytes → AtMost (digit_stretch text) kind (length left)
unfolding digit_stretch
digit-least language context text None bytes left off on is (inl sp) = absurd (digit-clash dropped text bytes left refl refl on is sp)
digit-least language context text None bytes left off on is (inr h) = absurd (false≢true (sym off
    ∙ header-letter language context text bytes left is h))
digit-least language context text (Some k.Address) bytes left off on is sp = absurd (digit-clash address text bytes left refl refl on is sp)
digit-least language context text (Some k.Word) bytes left off on is sp = absurd (digit-clash word text bytes left refl refl on is sp)
digit-least language context text (Some k.Number) bytes left off on is (inl sp) =
    let w = within plain_number plain-number-sure bytes left text is sp in
    better-here (Some k.Number) (scan plain_number text) (reals text) w.rest (length left) w.taken w.least
digit-least language context text (Some k.Number) bytes left off on is (inr sp) = absurd (digit-clash typed_number text bytes left refl
    refl on is sp)
digit-least language context text (Some k.Quoted) bytes left off on is sp = absurd (digit-clash quoted text bytes left refl refl on is sp)
digit-least language context text (Some k.Real) bytes left off on is sp =
    let w = within real real-sure bytes left text is sp in
    better-behind (Some k.Number) (scan plain_number text) (reals text) (Some k.Real) (length left) (real-ranks text)
    (better-here (Some k.Real) (scan real text) None w.rest (length left) w.taken w.least)
digit-least l.Scl context text (Some k.Sign) bytes left off on is sp = absurd (digit-clash (signs l.Scl) text bytes left refl refl on is sp)
digit-least l.Stl context text (Some k.Sign) bytes left off on is sp = absurd (digit-clash (signs l.Stl) text bytes left refl refl on is sp)
digit-least language context text (Some k.End) bytes left off on is sp = absurd sp

-- ---- a text that begins with another byte

abbrev sign_last : Language → List ℕ → Option Stretch
sign_last language text = better (Some k.Sign) (scan (signs language) text) None

abbrev quoteds : Language → List ℕ → Option Stretch
quoteds language text = better (Some k.Quoted) (scan quoted text) (sign_last language text)

abbrev marked : Language → List ℕ → Option Stretch
marked language text = better (Some k.Address) (scan address text) (quoteds language text)

sign-ranks : (n : ℕ) (language : Language) (text : List ℕ) → n ≤ 6 → OfRank n (sign_last language text)
sign-ranks n language text h = better-rank n (Some k.Sign) (scan (signs language) text) None h tt

quoted-ranks : (n : ℕ) (language : Language) (text : List ℕ) → n ≤ 3 → OfRank n (quoteds language text)
quoted-ranks n language text h = better-rank n (Some k.Quoted) (scan quoted text) (sign_last language text) h (sign-ranks n language text
    (omega arith))

marked-ranks : (language : Language) (text : List ℕ) → OfRank 0 (marked language text)
marked-ranks language text = better-rank 0 (Some k.Address) (scan address text) (quoteds language text) (lit≤ tt) (quoted-ranks 0 language
    text (lit≤ tt))

from_quoted : (language : Language) (text : List ℕ) (kind : Option Kind) (left : ℕ) → AtMost (quoteds language text) kind left
    → AtMost (better None (scan dropped text) (marked language text)) kind left
from_quoted language text kind left w =
    better-behind None (scan dropped text) (marked language text) kind left (marked-ranks language text)
    (better-behind (Some k.Address) (scan address text) (quoteds language text) kind left (quoted-ranks 1 language text (lit≤ tt)) w)

begins-at : (class : Class) (s : Shape) (text : List ℕ) (x : Start s text) → (starts s x.byte ≡ true → has class x.byte ≡ true)
    → begins class text ≡ true
begins-at class s text x h = ap (begins class) x.text_is ∙ h x.starting

sign-least : (language : Language) (context : Context) (text : List ℕ) (kind : Option Kind) (bytes left : List ℕ)
    → begins c.Letter text ≡ false → begins c.Digit text ≡ false
    → text ≡ bytes ++ left → IsStretch language context kind bytes → AtMost (sign_stretch language text) kind (length left)
unfolding sign_stretch
sign-least language context text None bytes left off out is (inl sp) =
    let w = within dropped dropped-sure bytes left text is sp in
    better-here None (scan dropped text) (marked language text) w.rest (length left) w.taken w.least
sign-least language context text None bytes left off out is (inr h) = absurd (false≢true (sym off
    ∙ header-letter language context text bytes left is h))
sign-least language context text (Some k.Address) bytes left off out is sp =
    let w = within address address-sure bytes left text is sp in
    better-behind None (scan dropped text) (marked language text) (Some k.Address) (length left) (marked-ranks language text)
    (better-here (Some k.Address) (scan address text) (quoteds language text) w.rest (length left) w.taken w.least)
sign-least language context text (Some k.Word) bytes left off out is sp =
    absurd (false≢true (sym off ∙ begins-at c.Letter word text (start-of word text bytes left refl is sp) (λ e. e)))
sign-least language context text (Some k.Number) bytes left off out is (inl sp) =
    let x = start-of plain_number text bytes left refl is sp in
    absurd (false≢true (sym out ∙ begins-at c.Digit plain_number text x (plain-digit x.byte)))
sign-least language context text (Some k.Number) bytes left off out is (inr sp) =
    absurd (false≢true (sym off ∙ begins-at c.Letter typed_number text (start-of typed_number text bytes left refl is sp) (λ e. e)))
sign-least language context text (Some k.Quoted) bytes left off out is sp =
    let w = within quoted quoted-sure bytes left text is sp in
    from_quoted language text (Some k.Quoted) (length left) (better-here (Some k.Quoted) (scan quoted text) (sign_last language text)
    w.rest (length left) w.taken w.least)
sign-least language context text (Some k.Real) bytes left off out is sp =
    absurd (false≢true (sym out ∙ begins-at c.Digit real text (start-of real text bytes left refl is sp) (λ e. e)))
sign-least language context text (Some k.Sign) bytes left off out is sp =
    let w = within (signs language) (signs-sure language) bytes left text is sp in
    from_quoted language text (Some k.Sign) (length left)
    (better-behind (Some k.Quoted) (scan quoted text) (sign_last language text) (Some k.Sign) (length left) (sign-ranks 3 language text
    (lit≤ tt))
    (better-here (Some k.Sign) (scan (signs language) text) None w.rest (length left) w.taken w.least))
sign-least language context text (Some k.End) bytes left off out is sp = absurd sp

-- ---- any text

on_letter : (language : Language) (context : Context) (text : List ℕ) → begins c.Letter text ≡ true
    → stretch_of language context text ≡ letter_stretch language context text
unfolding stretch_of
on_letter language context text on = ap (λ (v : Bool). cond v (letter_stretch language context text) (cond (begins c.Digit text)
    (digit_stretch text) (sign_stretch language text))) on

on_digit : (language : Language) (context : Context) (text : List ℕ) → begins c.Letter text ≡ false → begins c.Digit text ≡ true
    → stretch_of language context text ≡ digit_stretch text
unfolding stretch_of
on_digit language context text off on =
    ap (λ (v : Bool). cond v (letter_stretch language context text) (cond (begins c.Digit text) (digit_stretch text) (sign_stretch language
    text))) off
    ∙ ap (λ (v : Bool). cond v (digit_stretch text) (sign_stretch language text)) on

on_sign : (language : Language) (context : Context) (text : List ℕ) → begins c.Letter text ≡ false → begins c.Digit text ≡ false
    → stretch_of language context text ≡ sign_stretch language text
unfolding stretch_of
on_sign language context text off out =
    ap (λ (v : Bool). cond v (letter_stretch language context text) (cond (begins c.Digit text) (digit_stretch text) (sign_stretch language
    text))) off
    ∙ ap (λ (v : Bool). cond v (digit_stretch text) (sign_stretch language text)) out

at_most : (r other : Option Stretch) (kind : Option Kind) (left : ℕ) → r ≡ other → AtMost other kind left → AtMost r kind left
at_most r other kind left e w = record { s = w.s; is = e ∙ w.is; least = w.least }

pub stretch-least : (language : Language) (context : Context) (text : List ℕ) (kind : Option Kind) (bytes left : List ℕ)
    → text ≡ bytes ++ left
    → IsStretch language context kind bytes → AtMost (stretch_of language context text) kind (length left)
stretch-least language context text kind bytes left is sp =
    elim (cases_Bool (begins c.Letter text)) [
      | inl on ↦ at_most _ _ kind (length left) (on_letter language context text on) (letter-least language context text kind bytes left on
          is sp)
      | inr off ↦ elim (cases_Bool (begins c.Digit text)) [
        | inl on ↦ at_most _ _ kind (length left) (on_digit language context text off on) (digit-least language context text kind bytes
            left off on is sp)
        | inr out ↦ at_most _ _ kind (length left) (on_sign language context text off out) (sign-least language context text kind bytes
            left off out is sp)
      ]
    ]

pub stretch-found : (language : Language) (context : Context) (text : List ℕ) (s : Stretch) → stretch_of language context text ≡ Some s
    → FoundStretch language context text s
stretch-found language context text s e =
    elim (cases_Bool (begins c.Letter text)) [
      | inl on ↦ letter-found language context text s (sym (on_letter language context text on) ∙ e)
      | inr off ↦ elim (cases_Bool (begins c.Digit text)) [
        | inl on ↦ digit-found language context text s (sym (on_digit language context text off on) ∙ e)
        | inr out ↦ sign-found language context text s (sym (on_sign language context text off out) ∙ e)
      ]
    ]

-- what is found is the longest stretch
pub found-longest : (language : Language) (context : Context) (text : List ℕ) (s : Stretch) → stretch_of language context text ≡ Some s
    → (f : FoundStretch language context text s) → IsLongest language context s.kind f.bytes f.rest
found-longest language context text s e f = record {
  stretch = f.of_kind;
  longest = λ other more left whole sp. (
      let m = stretch-least language context text other more left (f.whole ∙ whole) sp in
      let same : m.s ≡ s = some_stretch m.s s (sym m.is ∙ e) in
      let lefts : m.s.left ≡ s.left = ap (λ (x : Stretch). x.left) same in
      let sizes : length f.bytes + length f.rest ≡ length more + length left = sym (length-append f.bytes f.rest) ∙ ap length whole
      ∙ length-append more left in
      omega (arith, m.least, lefts, sizes, f.left_is, rank-low other));
  first = λ other sp. (
      let m = stretch-least language context text other f.bytes f.rest f.whole sp in
      let same : m.s ≡ s = some_stretch m.s s (sym m.is ∙ e) in
      let lefts : m.s.left ≡ s.left = ap (λ (x : Stretch). x.left) same in
      let ranks : rank m.s.kind ≡ rank s.kind = ap (λ (x : Stretch). rank x.kind) same in
      omega (arith, m.least, lefts, ranks, f.left_is));
}

-- where nothing is found nothing begins
pub none-begins : (language : Language) (context : Context) (text : List ℕ) → stretch_of language context text ≡ None
    → NoneBegins language context text
none-begins language context text e = λ kind bytes rest is sp. (
    let m = stretch-least language context text kind bytes rest is sp in
    no_stretch m.s (sym e ∙ m.is))

-- ---- what is next is one

kind_of : ℕ → Option Kind
kind_of zero = None
kind_of (suc zero) = Some k.Address
kind_of (suc (suc zero)) = Some k.Word
kind_of (suc (suc (suc zero))) = Some k.Quoted
kind_of (suc (suc (suc (suc zero)))) = Some k.Number
kind_of (suc (suc (suc (suc (suc zero))))) = Some k.Real
kind_of (suc (suc (suc (suc (suc (suc zero)))))) = Some k.Sign
kind_of (suc (suc (suc (suc (suc (suc (suc n))))))) = Some k.End

kind-rank : (kind : Option Kind) → kind_of (rank kind) ≡ kind
unfolding kind_of
kind-rank None = refl
kind-rank (Some k.Address) = refl
kind-rank (Some k.Word) = refl
kind-rank (Some k.Quoted) = refl
kind-rank (Some k.Number) = refl
kind-rank (Some k.Real) = refl
kind-rank (Some k.Sign) = refl
kind-rank (Some k.End) = refl

pub record Same (kind other : Option Kind) (bytes more rest left : List ℕ) : Type 0 where
  pub kinds : kind ≡ other
  pub fronts : bytes ≡ more
  pub rests : rest ≡ left

equal : (m n : ℕ) → m ≤ n → n ≤ m → m ≡ n
equal m n a b = omega arith

pub longest-one : (language : Language) (context : Context) (kind other : Option Kind) (bytes more rest left : List ℕ)
    → bytes ++ rest ≡ more ++ left
    → IsLongest language context kind bytes rest → IsLongest language context other more left → Same kind other bytes more rest left
longest-one language context kind other bytes more rest left whole a b =
    let len : length bytes ≡ length more = equal (length bytes) (length more) (b.longest kind bytes rest (sym whole) a.stretch) (a.longest
    other more left whole b.stretch) in
    let fronts : bytes ≡ more = sym (take-append_seam bytes rest) ∙ ap (λ (m : ℕ). take m (bytes ++ rest)) len
    ∙ ap (take (length more)) whole ∙ take-append_seam more left in
    let ranks : rank kind ≡ rank other = equal (rank kind) (rank other)
    (a.first other (subst (IsStretch language context other) (sym fronts) b.stretch)) (b.first kind (subst (IsStretch language context
    kind) fronts a.stretch)) in
    record {
      kinds = sym (kind-rank kind) ∙ ap kind_of ranks ∙ kind-rank other;
      fronts = fronts;
      rests = sym (drop-append_seam bytes rest) ∙ ap (λ (m : ℕ). drop m (bytes ++ rest)) len ∙ ap (drop (length more)) whole
          ∙ drop-append_seam more left;
    }

-- where the longest isn't fit nothing is next
pub unfit-none : (language : Language) (context : Context) (text : List ℕ) (kind : Option Kind) (bytes rest : List ℕ) → text ≡ bytes ++ rest
    → IsLongest language context kind bytes rest → is_fit kind bytes rest ≡ false → NoneIsNext language context text
unfit-none language context text kind bytes rest whole a off = λ other more left is n. (
    let s = longest-one language context kind other bytes more rest left (sym whole ∙ is) a n.longest in
    let same : is_fit kind bytes rest ≡ is_fit other more left =
    ap (λ (x : Option Kind). is_fit x bytes rest) s.kinds ∙ ap (λ (b : List ℕ). is_fit other b rest) s.fronts
    ∙ ap (is_fit other more) s.rests in
    false≢true (sym off ∙ (same ∙ n.fit)))

-- no stretch is empty
pub stretch-some : (language : Language) (context : Context) (kind : Option Kind) → IsStretch language context kind [] → ⊥
stretch-some language context None (inl sp) = solid-some dropped refl sp
stretch-some language context None (inr h) = false≢true (header-letter language context [] [] [] refl h)
stretch-some language context (Some k.Address) sp = solid-some address refl sp
stretch-some language context (Some k.Word) sp = solid-some word refl sp
stretch-some language context (Some k.Quoted) sp = solid-some quoted refl sp
stretch-some language context (Some k.Number) sp = solid-some any_number refl sp
stretch-some language context (Some k.Real) sp = solid-some real refl sp
stretch-some l.Scl context (Some k.Sign) sp = solid-some (signs l.Scl) refl sp
stretch-some l.Stl context (Some k.Sign) sp = solid-some (signs l.Stl) refl sp
stretch-some language context (Some k.End) sp = sp
