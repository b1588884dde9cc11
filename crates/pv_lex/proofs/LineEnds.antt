-- What is next in a text that a line feed follows: the same as in the text alone, where more than white space is left of it.
use Rattle.std.proofs.Common.{◌≡◌, ◌⊎◌, ℕ, ◌<◌, ◌≤◌, length, drop, true, false, not, inl, inr, List, [], ◌∷◌, ◌++◌, Option, Some, None, refl, ap, sym, ◌∙◌, arith, lit<, append_assoc, append-nil, length-append}
use Rattle.std.specs.Prelude.{◌&&◌, ◌||◌, ◌==◌}
use Rattle.std.specs.List.{list_all}
use Rattle.std.proofs.lemmas.Bool.{false≢true, eqb-true, or_cases, and_parts, and_from}
use Rattle.pv_lex.specs.declared.class.Class.TheVariants as c
use Rattle.pv_lex.specs.declared.context.Context.{Context}
use Rattle.pv_lex.specs.declared.fault.FaultKind.{FaultKind}
use Rattle.pv_lex.specs.declared.fault.FaultKind.TheVariants as f
use Rattle.pv_lex.specs.declared.token.Language.{Language}
use Rattle.pv_lex.specs.declared.token.Language.TheVariants as l
use Rattle.pv_lex.specs.declared.token.Kind.{Kind}
use Rattle.pv_lex.specs.declared.token.Kind.TheVariants as k
use Rattle.pv_lex.specs.Classes.{has, is_letter}
use Rattle.pv_lex.specs.Shapes.{
  Shape,
  Spells,
  begins,
  white,
  line_comment,
  comment,
  attribute,
  word,
  quoted,
  address,
  any_number,
  real,
  signs,
}
use Rattle.pv_lex.specs.Tokens.{skip, IsStretch, IsLongest, IsNext, NoneIsNext, IsNumeric, IsOfFault, is_fit, opens_comment}
use Rattle.pv_lex.specs.Scans.{past_close}
use Rattle.pv_lex.proofs.Scanning.{some_is, of_not, or_left, or_right, skip-all, skip_out, close-there}
use Rattle.pv_lex.proofs.Within.{starts}
use Rattle.pv_lex.proofs.Starts.{clash, solid, Start, start-of, no_start, all_below}
use Rattle.pv_lex.proofs.Least.{header-letter, stretch-some}
use Rattle.pv_lex.proofs.Ones.{low-byte, numeric-start, no_brace, no_open, open-begins, kind-one, next-one}
use Rattle.pv_lex.proofs.Feeds.{all-append, all-front, feed-off, reach, opens-feed, begins-feed, Long, long-of}

-- ---- comments and attributes end where they end

begins-of : (n : ℕ) (shape : Shape) (text bytes left : List ℕ) → solid shape ≡ true → n < 128
    → all_below 128 (λ b. not ((b == n) && starts shape b)) ≡ true
    → begins (c.Byte n) text ≡ true → text ≡ bytes ++ left → Spells shape bytes → ⊥
begins-of n shape text bytes left e low table on is sp =
    no_start (c.Byte n) shape text (low-byte n low) table on (start-of shape text bytes left e is sp)

comment-end : (bytes left : List ℕ) → Spells comment bytes → past_close (drop 2 (bytes ++ left)) ≡ Some left
comment-end bytes left x =
    let y = x.behind in
    let z = y.behind in
    let front : y.rest ++ left ≡ z.front ++ 42 ∷ 41 ∷ left =
    ap (λ (t : List ℕ). t ++ left) z.spelled ∙ append_assoc z.front z.rest left ∙ ap (λ (t : List ℕ). z.front ++ (t ++ left)) z.behind in
    let whole : bytes ++ left ≡ x.byte ∷ y.byte ∷ (y.rest ++ left) =
    ap (λ (t : List ℕ). t ++ left) x.spelled ∙ ap (λ (t : List ℕ). x.byte ∷ (t ++ left)) y.spelled in
    ap (λ (t : List ℕ). past_close (drop 2 t)) whole ∙ ap past_close front ∙ close-there z.front left z.passes

attribute-end : (bytes left : List ℕ) → Spells attribute bytes → skip c.Braced (drop 1 (bytes ++ left)) ≡ 125 ∷ left
attribute-end bytes left x =
    let y = x.behind in
    let z = y.behind in
    let rest : y.rest ≡ 125 ∷ [] = z.spelled ∙ ap (λ (t : List ℕ). z.byte ∷ t) z.behind ∙ ap (λ (b : ℕ). b ∷ []) (eqb-true z.byte 125
    z.passes) in
    let front : x.rest ++ left ≡ y.front ++ 125 ∷ left =
    ap (λ (t : List ℕ). t ++ left) y.spelled ∙ append_assoc y.front y.rest left ∙ ap (λ (t : List ℕ). y.front ++ (t ++ left)) rest in
    ap (λ (t : List ℕ). skip c.Braced (drop 1 (t ++ left))) x.spelled ∙ ap (skip c.Braced) front
    ∙ skip-all c.Braced y.front (125 ∷ left) y.passes ∙ skip_out c.Braced 125 left refl

tails : (a b : ℕ) (xs ys : List ℕ) → a ∷ xs ≡ b ∷ ys → xs ≡ ys
tails a b xs ys e = cc

no_longer : (bytes rest more left : List ℕ) → bytes ++ rest ≡ more ++ left → rest ≡ left → length more ≤ length bytes
no_longer bytes rest more left e g = omega (arith, ap length e, length-append bytes rest, length-append more left, ap length g)

comments-one : (bytes rest more left : List ℕ) → bytes ++ rest ≡ more ++ left → Spells comment bytes → Spells comment more
    → length more ≤ length bytes
comments-one bytes rest more left e x y =
    no_longer bytes rest more left e (some_is rest left (sym (comment-end bytes rest x) ∙ ap (λ (t : List ℕ). past_close (drop 2 t)) e
    ∙ comment-end more left y))

attributes-one : (bytes rest more left : List ℕ) → bytes ++ rest ≡ more ++ left → Spells attribute bytes → Spells attribute more
    → length more ≤ length bytes
attributes-one bytes rest more left e x y =
    no_longer bytes rest more left e (tails 125 125 rest left (sym (attribute-end bytes rest x) ∙ ap (λ (t : List ℕ). skip c.Braced (drop 1
    t)) e ∙ attribute-end more left y))

-- ---- what begins with `(*` or `{`

pub comment-opens : (bytes : List ℕ) → Spells comment bytes → opens_comment bytes ≡ true
comment-opens bytes x =
    let y = x.behind in
    ap opens_comment (x.spelled ∙ ap (λ (t : List ℕ). x.byte ∷ t) y.spelled) ∙ and_from (x.byte == 40) (y.byte == 42) x.passes y.passes

pub attribute-opens : (bytes : List ℕ) → Spells attribute bytes → begins (c.Byte 123) bytes ≡ true
attribute-opens bytes x = ap (begins (c.Byte 123)) x.spelled ∙ x.passes

not_letter : (n : ℕ) (text : List ℕ) → is_letter n ≡ false → begins (c.Byte n) text ≡ true → begins c.Letter text ≡ true → ⊥
not_letter n [] off on there = false≢true on
not_letter n (b ∷ text) off on there = false≢true (sym off ∙ (ap is_letter (sym (eqb-true b n on)) ∙ there))

comment-there : (language : Language) (context : Context) (kind : Option Kind) (bytes rest text : List ℕ) → text ≡ bytes ++ rest
    → IsStretch language context kind bytes → is_fit kind bytes rest ≡ true → opens_comment text ≡ true → Spells comment bytes
comment-there language context None bytes rest text is (inl (inl sp)) fit on =
    absurd (begins-of 40 white text bytes rest refl (lit< tt) refl (open-begins text on) is sp)
comment-there language context None bytes rest text is (inl (inr (inl sp))) fit on =
    absurd (begins-of 40 line_comment text bytes rest refl (lit< tt) refl (open-begins text on) is sp)
comment-there language context None bytes rest text is (inl (inr (inr (inl sp)))) fit on = sp
comment-there language context None bytes rest text is (inl (inr (inr (inr sp)))) fit on =
    absurd (begins-of 40 attribute text bytes rest refl (lit< tt) refl (open-begins text on) is sp)
comment-there language context None bytes rest text is (inr h) fit on =
    absurd (not_letter 40 text refl (open-begins text on) (header-letter language context text bytes rest is h))
comment-there language context (Some k.Address) bytes rest text is sp fit on =
    absurd (begins-of 40 address text bytes rest refl (lit< tt) refl (open-begins text on) is sp)
comment-there language context (Some k.Word) bytes rest text is sp fit on =
    absurd (begins-of 40 word text bytes rest refl (lit< tt) refl (open-begins text on) is sp)
comment-there language context (Some k.Quoted) bytes rest text is sp fit on =
    absurd (begins-of 40 quoted text bytes rest refl (lit< tt) refl (open-begins text on) is sp)
comment-there language context (Some k.Number) bytes rest text is sp fit on =
    absurd (begins-of 40 any_number text bytes rest refl (lit< tt) refl (open-begins text on) is sp)
comment-there language context (Some k.Real) bytes rest text is sp fit on =
    absurd (begins-of 40 real text bytes rest refl (lit< tt) refl (open-begins text on) is sp)
comment-there language context (Some k.Sign) bytes rest text is sp fit on =
    absurd (false≢true (sym (of_not (opens_comment (bytes ++ rest)) fit) ∙ (ap opens_comment (sym is) ∙ on)))
comment-there language context (Some k.End) bytes rest text is sp fit on = absurd sp

attribute-there : (language : Language) (context : Context) (kind : Option Kind) (bytes rest text : List ℕ) → text ≡ bytes ++ rest
    → IsStretch language context kind bytes → begins (c.Byte 123) text ≡ true → Spells attribute bytes
attribute-there language context None bytes rest text is (inl (inl sp)) on =
    absurd (begins-of 123 white text bytes rest refl (lit< tt) refl on is sp)
attribute-there language context None bytes rest text is (inl (inr (inl sp))) on =
    absurd (begins-of 123 line_comment text bytes rest refl (lit< tt) refl on is sp)
attribute-there language context None bytes rest text is (inl (inr (inr (inl sp)))) on =
    absurd (begins-of 123 comment text bytes rest refl (lit< tt) refl on is sp)
attribute-there language context None bytes rest text is (inl (inr (inr (inr sp)))) on = sp
attribute-there language context None bytes rest text is (inr h) on =
    absurd (not_letter 123 text refl on (header-letter language context text bytes rest is h))
attribute-there language context (Some k.Address) bytes rest text is sp on =
    absurd (begins-of 123 address text bytes rest refl (lit< tt) refl on is sp)
attribute-there language context (Some k.Word) bytes rest text is sp on =
    absurd (begins-of 123 word text bytes rest refl (lit< tt) refl on is sp)
attribute-there language context (Some k.Quoted) bytes rest text is sp on =
    absurd (begins-of 123 quoted text bytes rest refl (lit< tt) refl on is sp)
attribute-there language context (Some k.Number) bytes rest text is sp on =
    absurd (begins-of 123 any_number text bytes rest refl (lit< tt) refl on is sp)
attribute-there language context (Some k.Real) bytes rest text is sp on =
    absurd (begins-of 123 real text bytes rest refl (lit< tt) refl on is sp)
attribute-there l.Scl context (Some k.Sign) bytes rest text is sp on =
    absurd (begins-of 123 (signs l.Scl) text bytes rest refl (lit< tt) refl on is sp)
attribute-there l.Stl context (Some k.Sign) bytes rest text is sp on =
    absurd (begins-of 123 (signs l.Stl) text bytes rest refl (lit< tt) refl on is sp)
attribute-there language context (Some k.End) bytes rest text is sp on = absurd sp

-- ---- white space

white-all : (bytes : List ℕ) → Spells white bytes → list_all (has c.Space) bytes ≡ true
white-all bytes x =
    let y = x.behind in
    ap (list_all (has c.Space)) x.spelled
    ∙ and_from (has c.Space x.byte) (list_all (has c.Space) x.rest) x.passes
    (ap (list_all (has c.Space)) y.spelled ∙ all-append (has c.Space) y.front y.rest y.passes (ap (list_all (has c.Space)) y.behind))

pub all-white : (b : ℕ) (others : List ℕ) → list_all (has c.Space) (b ∷ others) ≡ true → Spells white (b ∷ others)
all-white b others e =
    let parts = and_parts (has c.Space b) (list_all (has c.Space) others) e in
    record {
      byte = b;
      rest = others;
      spelled = refl;
      passes = parts.0;
      behind = record { front = others; rest = []; spelled = sym (append-nil others); passes = parts.1; behind = refl };
    }

space-low : (b : ℕ) → has c.Space b ≡ true → b < 128
space-low b on = elim (or_cases (b == 32 || b == 9 || b == 13 || b == 10) (b == 12) on) [
  | inl x ↦ elim (or_cases (b == 32 || b == 9 || b == 13) (b == 10) x) [
    | inl y ↦ elim (or_cases (b == 32 || b == 9) (b == 13) y) [
      | inl z ↦ elim (or_cases (b == 32) (b == 9) z) [ inl e ↦ low-byte 32 (lit< tt) b e | inr e ↦ low-byte 9 (lit< tt) b e ]
      | inr e ↦ low-byte 13 (lit< tt) b e
    ]
    | inr e ↦ low-byte 10 (lit< tt) b e
  ]
  | inr e ↦ low-byte 12 (lit< tt) b e
]

space-clash : (shape : Shape) (text bytes left : List ℕ) → solid shape ≡ true
    → all_below 128 (λ b. not (has c.Space b && starts shape b)) ≡ true
    → begins c.Space text ≡ true → text ≡ bytes ++ left → Spells shape bytes → ⊥
space-clash shape text bytes left e table on is sp = no_start c.Space shape text space-low table on (start-of shape text bytes left e is sp)

space_letter : (text : List ℕ) → begins c.Space text ≡ true → begins c.Letter text ≡ true → ⊥
space_letter [] on there = false≢true on
space_letter (b ∷ text) on there = clash (has c.Space) is_letter space-low refl b on there

-- a stretch that begins with white space is white space
white-there : (language : Language) (context : Context) (kind : Option Kind) (bytes rest text : List ℕ) → text ≡ bytes ++ rest
    → IsStretch language context kind bytes → begins c.Space text ≡ true → list_all (has c.Space) bytes ≡ true
white-there language context None bytes rest text is (inl (inl sp)) on = white-all bytes sp
white-there language context None bytes rest text is (inl (inr (inl sp))) on = absurd (space-clash line_comment text bytes rest refl refl
    on is sp)
white-there language context None bytes rest text is (inl (inr (inr (inl sp)))) on = absurd (space-clash comment text bytes rest refl refl
    on is sp)
white-there language context None bytes rest text is (inl (inr (inr (inr sp)))) on = absurd (space-clash attribute text bytes rest refl
    refl on is sp)
white-there language context None bytes rest text is (inr h) on =
    absurd (space_letter text on (header-letter language context text bytes rest is h))
white-there language context (Some k.Address) bytes rest text is sp on = absurd (space-clash address text bytes rest refl refl on is sp)
white-there language context (Some k.Word) bytes rest text is sp on = absurd (space-clash word text bytes rest refl refl on is sp)
white-there language context (Some k.Quoted) bytes rest text is sp on = absurd (space-clash quoted text bytes rest refl refl on is sp)
white-there language context (Some k.Number) bytes rest text is sp on = absurd (space-clash any_number text bytes rest refl refl on is sp)
white-there language context (Some k.Real) bytes rest text is sp on = absurd (space-clash real text bytes rest refl refl on is sp)
white-there l.Scl context (Some k.Sign) bytes rest text is sp on = absurd (space-clash (signs l.Scl) text bytes rest refl refl on is sp)
white-there l.Stl context (Some k.Sign) bytes rest text is sp on = absurd (space-clash (signs l.Stl) text bytes rest refl refl on is sp)
white-there language context (Some k.End) bytes rest text is sp on = absurd sp

white-most : (run left more rest : List ℕ) → run ++ left ≡ more ++ rest → list_all (has c.Space) more ≡ true
    → begins c.Space left ≡ false → length more ≤ length run
white-most run left [] rest e all off = omega arith
white-most [] left (m ∷ more) rest e all off =
    absurd (false≢true (sym off ∙ (ap (begins c.Space) e ∙ (and_parts (has c.Space m) (list_all (has c.Space) more) all).0)))
white-most (r ∷ run) left (m ∷ more) rest e all off =
    omega (
      arith,
      white-most run left more rest (tails r m (run ++ left) (more ++ rest) e) (and_parts (has c.Space m) (list_all (has
          c.Space) more) all).1 off,
    )

-- the white space up to another byte is next
pub white-next : (language : Language) (context : Context) (b : ℕ) (others left : List ℕ) → list_all (has c.Space) (b ∷ others) ≡ true
    → begins c.Space left ≡ false → IsNext language context None (b ∷ others) left
white-next language context b others left e off = record {
  longest = record {
    stretch = inl (inl (all-white b others e));
    longest = λ other more rest is sp. white-most (b ∷ others) left more rest is
        (white-there language context other more rest (b ∷ (others ++ left)) is sp (and_parts (has c.Space b) (list_all (has c.Space)
        others) e).0) off;
    first = λ other sp. omega arith;
  };
  fit = refl;
}

-- ---- what is next before a line feed

longest-feed : (language : Language) (context : Context) (kind : Option Kind) (bytes rest others : List ℕ)
    → IsLongest language context kind bytes rest
    → ((more left tail : List ℕ) → bytes ++ (rest ++ 10 ∷ others) ≡ more ++ left → more ≡ (bytes ++ rest) ++ 10 ∷ tail → Long more
    → length more ≤ length bytes)
    → IsLongest language context kind bytes (rest ++ 10 ∷ others)
longest-feed language context kind bytes rest others x beyond = record {
  stretch = x.stretch;
  longest = λ other more left e sp. elim (reach (bytes ++ rest) others more left (append_assoc bytes rest (10 ∷ others) ∙ e)) [
    | inl r ↦ x.longest other more r.0 r.1 sp
    | inr r ↦ beyond more left r.0 e r.1 (long-of language context other more sp (ap (list_all (has c.Inline)) r.1 ∙ feed-off (bytes
        ++ rest) r.0))
  ];
  first = x.first;
}

-- where white space goes beyond the text, the text is white space
white-back : (text more tail : List ℕ) → more ≡ text ++ 10 ∷ tail → Spells white more → list_all (has c.Space) text ≡ true
white-back text more tail e sp = all-front (has c.Space) text (10 ∷ tail) (sym (ap (list_all (has c.Space)) e) ∙ white-all more sp)

comment-back : (text more tail : List ℕ) → more ≡ text ++ 10 ∷ tail → Spells comment more → opens_comment text ≡ true
comment-back text more tail e sp = sym (opens-feed text tail) ∙ (sym (ap opens_comment e) ∙ comment-opens more sp)

attribute-back : (text more tail : List ℕ) → more ≡ text ++ 10 ∷ tail → Spells attribute more → begins (c.Byte 123) text ≡ true
attribute-back text more tail e sp = sym (begins-feed 123 text tail refl) ∙ (sym (ap (begins (c.Byte 123)) e) ∙ attribute-opens more sp)

fit-feed : (kind : Option Kind) (bytes rest others : List ℕ) → is_fit kind bytes (rest ++ 10 ∷ others) ≡ is_fit kind bytes rest
fit-feed None bytes rest others = refl
fit-feed (Some k.Address) bytes rest others = refl
fit-feed (Some k.Word) bytes rest others = refl
fit-feed (Some k.Quoted) bytes rest others = refl
fit-feed (Some k.Number) bytes rest others = refl
fit-feed (Some k.Real) bytes rest others = refl
fit-feed (Some k.Sign) bytes rest others =
    ap (λ (t : List ℕ). not (opens_comment t)) (sym (append_assoc bytes rest (10 ∷ others))) ∙ ap not (opens-feed (bytes ++ rest) others)
fit-feed (Some k.End) bytes rest others = refl

beyond_next : (language : Language) (context : Context) (kind : Option Kind) (bytes rest others : List ℕ)
    → IsNext language context kind bytes rest → list_all (has c.Space) (bytes ++ rest) ≡ false
    → (more left tail : List ℕ) → bytes ++ (rest ++ 10 ∷ others) ≡ more ++ left → more ≡ (bytes ++ rest) ++ 10 ∷ tail → Long more
    → length more ≤ length bytes
beyond_next language context kind bytes rest others n off more left tail e is (inl sp) =
    absurd (false≢true (sym off ∙ white-back (bytes ++ rest) more tail is sp))
beyond_next language context kind bytes rest others n off more left tail e is (inr (inl sp)) =
    comments-one bytes (rest ++ 10 ∷ others) more left e (comment-there language context kind bytes rest (bytes ++ rest) refl
    n.longest.stretch n.fit (comment-back (bytes ++ rest) more tail is sp)) sp
beyond_next language context kind bytes rest others n off more left tail e is (inr (inr sp)) =
    attributes-one bytes (rest ++ 10 ∷ others) more left e (attribute-there language context kind bytes rest (bytes ++ rest) refl
    n.longest.stretch (attribute-back (bytes ++ rest) more tail is sp)) sp

pub next-feed : (language : Language) (context : Context) (kind : Option Kind) (bytes rest others : List ℕ)
    → IsNext language context kind bytes rest → list_all (has c.Space) (bytes ++ rest) ≡ false
    → IsNext language context kind bytes (rest ++ 10 ∷ others)
next-feed language context kind bytes rest others n off = record {
  longest = longest-feed language context kind bytes rest others n.longest (beyond_next language context kind bytes rest others n off);
  fit = fit-feed kind bytes rest others ∙ n.fit;
}

-- in white space alone, all of it is next
pub record AllWhite (kind : Option Kind) (rest : List ℕ) : Type 0 where
  pub dropped : kind ≡ None
  pub end : rest ≡ []

pub white-whole : (language : Language) (context : Context) (kind : Option Kind) (bytes rest : List ℕ)
    → IsNext language context kind bytes rest → list_all (has c.Space) (bytes ++ rest) ≡ true → AllWhite kind rest
white-whole language context kind [] rest n e = absurd (stretch-some language context kind n.longest.stretch)
white-whole language context kind (b ∷ bytes) rest n e =
    let x = white-next language context b (bytes ++ rest) [] e refl in
    let s = next-one language context kind None (b ∷ bytes) (b ∷ (bytes ++ rest)) rest [] (sym (append-nil (b ∷ (bytes ++ rest)))) n x in
    record { dropped = s.0; end = s.2 }

-- ---- what stands where nothing is next, before a line feed

-- what is next within the text is next in the text alone
next-back : (language : Language) (context : Context) (kind : Option Kind) (bytes rest left others : List ℕ) → left ≡ rest ++ 10 ∷ others
    → IsNext language context kind bytes left → IsNext language context kind bytes rest
next-back language context kind bytes rest left others e n = record {
  longest = record {
    stretch = n.longest.stretch;
    longest = λ other more back is sp. n.longest.longest other more (back ++ 10 ∷ others)
        (ap (λ (t : List ℕ). bytes ++ t) e ∙ sym (append_assoc bytes rest (10 ∷ others)) ∙ ap (λ (t : List ℕ). t ++ 10 ∷ others) is
        ∙ append_assoc more back (10 ∷ others)) sp;
    first = n.longest.first;
  };
  fit = sym (fit-feed kind bytes rest others) ∙ (sym (ap (is_fit kind bytes) e) ∙ n.fit);
}

none_long : (language : Language) (context : Context) (text more tail : List ℕ) (kind : FaultKind) → 0 < length text
    → NoneIsNext language context text → IsOfFault language context text kind → (kind ≡ f.OpenComment → ⊥)
    → more ≡ text ++ 10 ∷ tail → Long more → ⊥
none_long language context [] more tail kind some stuck x off e long = omega (arith, some)
none_long language context (b ∷ text) more tail kind some stuck x off e (inl sp) =
    stuck None (b ∷ text) [] (sym (append-nil (b ∷ text))) (white-next language context b text [] (white-back (b ∷ text) more tail e sp)
    refl)
none_long language context (b ∷ text) more tail kind some stuck x off e (inr (inl sp)) =
    off (kind-one language context (b ∷ text) kind f.OpenComment x (or_left (opens_comment (b ∷ text)) (begins (c.Byte 123) (b ∷ text))
    (comment-back (b ∷ text) more tail e sp)))
none_long language context (b ∷ text) more tail kind some stuck x off e (inr (inr sp)) =
    off (kind-one language context (b ∷ text) kind f.OpenComment x (or_right (opens_comment (b ∷ text)) (begins (c.Byte 123) (b ∷ text))
    (attribute-back (b ∷ text) more tail e sp)))

pub stuck-feed : (language : Language) (context : Context) (text others : List ℕ) (kind : FaultKind) → 0 < length text
    → NoneIsNext language context text → IsOfFault language context text kind → (kind ≡ f.OpenComment → ⊥)
    → NoneIsNext language context (text ++ 10 ∷ others)
stuck-feed language context text others kind some stuck x off = λ other more left e n. elim (reach text others more left e) [
  | inl r ↦ stuck other more r.0 r.1 (next-back language context other more r.0 left others r.2 n)
  | inr r ↦ none_long language context text more r.0 kind some stuck x off r.1 (long-of language context other more n.longest.stretch (ap
      (list_all (has c.Inline)) r.1 ∙ feed-off text r.0))
]

first-space : (text : List ℕ) (byte : ℕ) (others : List ℕ) → list_all (has c.Space) text ≡ true → text ≡ byte ∷ others
    → has c.Space byte ≡ true
first-space text byte others on e =
    (and_parts (has c.Space byte) (list_all (has c.Space) others) (sym (ap (list_all (has c.Space)) e) ∙ on)).0

no_space : (text : List ℕ) → list_all (has c.Space) text ≡ true → (Start any_number text) ⊎ (Start address text) → ⊥
no_space text on (inl x) = clash (has c.Space) (starts any_number) space-low refl x.byte (first-space text x.byte x.others on x.text_is)
    x.starting
no_space text on (inr x) = clash (has c.Space) (starts address) space-low refl x.byte (first-space text x.byte x.others on x.text_is)
    x.starting

beyond_numeric : (language : Language) (context : Context) (text : List ℕ) → (x : IsNumeric language context text)
    → (more tail : List ℕ) → more ≡ text ++ 10 ∷ tail → Long more → ⊥
beyond_numeric language context text x more tail e (inl sp) = no_space text (white-back text more tail e sp) (numeric-start language
    context text x)
beyond_numeric language context text x more tail e (inr (inl sp)) = no_open text (open-begins text (comment-back text more tail e sp))
    (numeric-start language context text x)
beyond_numeric language context text x more tail e (inr (inr sp)) = no_brace text (attribute-back text more tail e sp) (numeric-start
    language context text x)

pub fault-feed : (language : Language) (context : Context) (text others : List ℕ) (kind : FaultKind) → 0 < length text
    → NoneIsNext language context text → IsOfFault language context text kind → (kind ≡ f.OpenComment → ⊥)
    → IsOfFault language context (text ++ 10 ∷ others) kind
fault-feed language context text others f.OpenComment some stuck x off = absurd (off refl)
fault-feed language context text others f.OpenQuote some stuck x off = begins-feed 34 text others refl ∙ x
fault-feed language context text others f.NumberTooWide some stuck x off = record {
  kind = x.kind;
  bytes = x.bytes;
  rest = x.rest ++ 10 ∷ others;
  whole = ap (λ (t : List ℕ). t ++ 10 ∷ others) x.whole ∙ append_assoc x.bytes x.rest (10 ∷ others);
  longest = longest-feed language context (Some x.kind) x.bytes x.rest others x.longest
      (λ more left tail e is long. absurd (beyond_numeric language context text x more tail (is ∙ ap (λ (t : List ℕ). t ++ 10 ∷ tail) (sym
      x.whole)) long));
  numeric = x.numeric;
}
fault-feed language context text others f.BadByte some stuck x off = (
  λ other more left e sp. elim (reach text others more left e) [
    | inl r ↦ x.0 other more r.0 r.1 sp
    | inr r ↦ none_long language context text more r.0 f.BadByte some stuck x off r.1 (long-of language context other more sp (ap
        (list_all (has c.Inline)) r.1 ∙ feed-off text r.0))
  ],
  ap not (begins-feed 123 text others refl) ∙ x.1,
  ap not (begins-feed 34 text others refl) ∙ x.2,
)
