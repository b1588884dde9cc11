-- No text that spells a shape and begins a text is longer than what is taken of it, where the shape is read forward without doubt.
use Rattle.std.proofs.Common.{◌≡◌, ℕ, ◌≤◌, length, take, drop, nat_le, Bool, true, false, cond, inl, inr, List, [], ◌∷◌, ◌++◌, Option, Some, None, refl, ap, sym, ◌∙◌, subst, arith, append_assoc, length-append, length-drop}
use Rattle.std.specs.Prelude.{◌&&◌, ◌||◌, ◌==◌}
use Rattle.std.specs.List.{list_all}
use Rattle.std.specs.Option.{option_and_then}
use Rattle.std.proofs.lemmas.Bool.{false≢true, cases_Bool, and_parts}
use Rattle.std.proofs.lemmas.Bool.Decides.{nat_tests}
use Rattle.pv_lex.specs.declared.class.Class.{Class}
use Rattle.pv_lex.specs.declared.class.Class.TheVariants as c
use Rattle.pv_lex.specs.Classes.{has, is_letter, is_word_byte}
use Rattle.pv_lex.specs.Shapes.{Shape, begins, is_joined, is_number, is_word, Spells}
use Rattle.pv_lex.specs.Shapes.Shape.{done, one, many, number, led, either, closing}
use Rattle.pv_lex.specs.Tokens.{skip}
use Rattle.pv_lex.specs.Scans.{past_joined, past_close, longer, word_len, scan}
use Rattle.pv_lex.proofs.Scanning.{or_left, or_right, skip_out, skip-all, skip-le, joined-all, joined-le, whole-word, word-begins, word-least, close-there}

-- the bytes that begin a text which spells a shape
abbrev pub starts : Shape → ℕ → Bool
starts done b = false
starts (one class s) b = has class b
starts (many class s) b = has class b || starts s b
starts (number class s) b = has class b
starts (led wants) b = is_letter b
starts (either a b) x = starts a x || starts b x
starts closing b = true

pub cons_first : (a b : ℕ) (xs ys : List ℕ) → a ∷ xs ≡ b ∷ ys → a ≡ b
cons_first a b xs ys e = cc

pub cons_rest : (a b : ℕ) (xs ys : List ℕ) → a ∷ xs ≡ b ∷ ys → xs ≡ ys
cons_rest a b xs ys e = cc

pub not_nil : (a : ℕ) (xs : List ℕ) → a ∷ xs ≡ [] → ⊥
not_nil a xs e = cc

many-starts : (class : Class) (s : Shape) (b : ℕ) (t front rest : List ℕ) → b ∷ t ≡ front ++ rest → list_all (has class) front ≡ true
    → Spells s rest
    → ((x : ℕ) (xs : List ℕ) → Spells s (x ∷ xs) → starts s x ≡ true) → (has class b || starts s b) ≡ true
many-starts class s b t [] rest e passes sp next = or_right (has class b) (starts s b) (next b t (subst (Spells s) (sym e) sp))
many-starts class s b t (x ∷ front) rest e passes sp next =
    or_left (has class b) (starts s b) (ap (has class) (cons_first b x t (front ++ rest) e)
    ∙ (and_parts (has class x) (list_all (has class) front) passes).0)

number-starts : (class : Class) (b : ℕ) (t front rest : List ℕ) → b ∷ t ≡ front ++ rest → is_number class front ≡ true → has class b ≡ true
number-starts class b t [] rest e passes = absurd (false≢true passes)
number-starts class b t (x ∷ front) rest e passes = ap (has class) (cons_first b x t (front ++ rest) e)
    ∙ (and_parts (has class x) (is_joined class front) passes).0

word-starts : (b : ℕ) (t front rest : List ℕ) → b ∷ t ≡ front ++ rest → is_word front ≡ true → is_letter b ≡ true
word-starts b t [] rest e passes = absurd (false≢true passes)
word-starts b t (x ∷ front) rest e passes = ap is_letter (cons_first b x t (front ++ rest) e)
    ∙ (and_parts (is_letter x) (list_all is_word_byte front) passes).0

pub starts-there : (s : Shape) (b : ℕ) (t : List ℕ) → Spells s (b ∷ t) → starts s b ≡ true
starts-there done b t e = absurd (not_nil b t e)
starts-there (one class s) b t x = ap (has class) (cons_first b x.byte t x.rest x.spelled) ∙ x.passes
starts-there (many class s) b t x = many-starts class s b t x.front x.rest x.spelled x.passes x.behind (λ y ys sp. starts-there s y ys sp)
starts-there (number class s) b t x = number-starts class b t x.front x.rest x.spelled x.passes
starts-there (led wants) b t x = word-starts b t x.front x.rest x.spelled x.passes
starts-there (either a d) b t x = elim x [
  | inl sp ↦ or_left (starts a b) (starts d b) (starts-there a b t sp)
  | inr sp ↦ or_right (starts a b) (starts d b) (starts-there d b t sp)
]
starts-there closing b t x = refl

-- no byte that passes the test begins what spells the shape
abbrev pub Apart : (ℕ → Bool) → Shape → Type 0
Apart p s = (b : ℕ) → starts s b ≡ true → p b ≡ false

-- a shape that is read forward without doubt: no byte of a class stands behind the bytes of the class, and what is wanted behind a
-- word isn't less for a longer word
abbrev pub IsSure : Shape → Type 0
IsSure done = Unit {0}
IsSure (one class s) = IsSure s
IsSure (many class s) = Apart (has class) s × IsSure s
IsSure (number class s) = Apart (λ b. has class b || (b == 95)) s × IsSure s
IsSure (led wants) = ((word : List ℕ) → Apart is_word_byte (wants word)) × ((word : List ℕ) → IsSure (wants word))
    × ((word other : List ℕ) → Spells (wants word) [] → Spells (wants other) [])
IsSure (either a b) = IsSure a × IsSure b
IsSure closing = Unit {0}

pub record Within (s : Shape) (text left : List ℕ) : Type 0 where
  pub rest : List ℕ
  pub taken : scan s text ≡ Some rest
  pub least : length rest ≤ length left

pub le_of : (a b : ℕ) → nat_le a b ≡ true → a ≤ b
le_of a b on = grind (arith, nat_tests)

pub not_le-le : (a b : ℕ) → nat_le a b ≡ false → b ≤ a
not_le-le a b off = grind (arith, nat_tests)

not_joint : (x y z : Bool) → (x || y) ≡ false → (x || (y && z)) ≡ false
not_joint true y z e = e
not_joint false true z e = absurd (false≢true (sym e))
not_joint false false z e = refl

joined-out : (class : Class) (b : ℕ) (others : List ℕ) → (has class b || (b == 95)) ≡ false → past_joined class (b ∷ others) ≡ b ∷ others
joined-out class b others off = ap (λ (v : Bool). cond v (past_joined class others) (b ∷ others)) (not_joint (has class b) (b == 95)
    (begins class others) off)

-- the text may be given in other words
within_at : (s : Shape) (text other left more : List ℕ) → scan s text ≡ scan s other → length left ≤ length more → Within s other left
    → Within s text more
within_at s text other left more e h w = record { rest = w.rest; taken = e ∙ w.taken; least = omega (arith, w.least) }

longer-left : (x y : Option (List ℕ)) (a : List ℕ) → x ≡ Some a → (rest : List ℕ) × (longer x y ≡ Some rest) × (length rest ≤ length a)
longer-left x None a e = (a, ap (λ (o : Option (List ℕ)). longer o None) e, omega arith)
longer-left x (Some b) a e =
    elim (cases_Bool (nat_le (length a) (length b))) [
      | inl on ↦ (a, ap (λ (o : Option (List ℕ)). longer o (Some b)) e ∙ ap (λ (v : Bool). cond v (Some a) (Some b)) on, omega arith)
      | inr off ↦ (
        b,
        ap (λ (o : Option (List ℕ)). longer o (Some b)) e
            ∙ ap (λ (v : Bool). cond v (Some a) (Some b)) off,
        not_le-le (length a) (length b) off,
      )
    ]

longer-right : (x y : Option (List ℕ)) (b : List ℕ) → y ≡ Some b → (rest : List ℕ) × (longer x y ≡ Some rest) × (length rest ≤ length b)
longer-right None y b e = (b, e, omega arith)
longer-right (Some a) y b e =
    elim (cases_Bool (nat_le (length a) (length b))) [
      | inl on ↦ (a, ap (longer (Some a)) e ∙ ap (λ (v : Bool). cond v (Some a) (Some b)) on, le_of (length a) (length b) on)
      | inr off ↦ (b, ap (longer (Some a)) e ∙ ap (λ (v : Bool). cond v (Some a) (Some b)) off, omega arith)
    ]

-- ---- behind a front of a class

many-within : (class : Class) (s : Shape) → Apart (has class) s
    → ((bytes left text : List ℕ) → text ≡ bytes ++ left → Spells s bytes → Within s text left)
    → (front rest left : List ℕ) → list_all (has class) front ≡ true → Spells s rest → Within s (skip class (front ++ (rest ++ left))) left
many-within class s apart next front [] left passes sp =
    let w = next [] (skip class left) (skip class left) refl sp in
    within_at s (skip class (front ++ left)) (skip class left) (skip class left) left (ap (scan s) (skip-all class front left passes))
    (skip-le class left) w
many-within class s apart next front (b ∷ rest) left passes sp =
    let w = next (b ∷ rest) left (b ∷ (rest ++ left)) refl sp in
    let off : has class b ≡ false = apart b (starts-there s b rest sp) in
    within_at s (skip class (front ++ b ∷ (rest ++ left))) (b ∷ (rest ++ left)) left left
    (ap (scan s) (skip-all class front (b ∷ (rest ++ left)) passes ∙ skip_out class b (rest ++ left) off)) (omega arith) w

number-within : (class : Class) (s : Shape) → Apart (λ b. has class b || (b == 95)) s
    → ((bytes left text : List ℕ) → text ≡ bytes ++ left → Spells s bytes → Within s text left)
    → (front rest left : List ℕ) → is_joined class front ≡ true → Spells s rest
    → Within s (past_joined class (front ++ (rest ++ left))) left
number-within class s apart next front [] left passes sp =
    let w = next [] (past_joined class left) (past_joined class left) refl sp in
    within_at s (past_joined class (front ++ left)) (past_joined class left) (past_joined class left) left (ap (scan s) (joined-all class
    front left passes)) (joined-le class left) w
number-within class s apart next front (b ∷ rest) left passes sp =
    let w = next (b ∷ rest) left (b ∷ (rest ++ left)) refl sp in
    let off : (has class b || (b == 95)) ≡ false = apart b (starts-there s b rest sp) in
    within_at s (past_joined class (front ++ b ∷ (rest ++ left))) (b ∷ (rest ++ left)) left left
    (ap (scan s) (joined-all class front (b ∷ (rest ++ left)) passes ∙ joined-out class b (rest ++ left) off)) (omega arith) w

-- behind a word
led-within : (wants : List ℕ → Shape) (word rest left : List ℕ) → is_word word ≡ true → ((w : List ℕ) → Apart is_word_byte (wants w))
    → ((w other : List ℕ) → Spells (wants w) [] → Spells (wants other) [])
    → ((w bytes left text : List ℕ) → text ≡ bytes ++ left → Spells (wants w) bytes → Within (wants w) text left)
    → Spells (wants word) rest → Within (led wants) (word ++ (rest ++ left)) left
led-within wants word [] left e apart even next sp =
    let text : List ℕ = word ++ left in
    let there : begins c.Letter text ≡ true = word-begins word left e in
    let w = next (take (word_len text) text) [] (drop (word_len text) text) (drop (word_len text) text) refl (even word (take (word_len
    text) text) sp) in
    record {
      rest = w.rest;
      taken = ap (λ (v : Bool). cond v (scan (wants (take (word_len text) text)) (drop (word_len text) text)) None) there ∙ w.taken;
      least = omega (arith, w.least, length-drop (word_len text) text, length-append word left, word-least word left e);
    }
led-within wants word (b ∷ rest) left e apart even next sp =
    let text : List ℕ = word ++ (b ∷ (rest ++ left)) in
    let there : begins c.Letter text ≡ true = word-begins word (b ∷ (rest ++ left)) e in
    let off : is_word_byte b ≡ false = apart word b (starts-there (wants word) b rest sp) in
    let k = whole-word word (b ∷ (rest ++ left)) e off in
    let w = next word (b ∷ rest) left (b ∷ (rest ++ left)) refl sp in
    record {
      rest = w.rest;
      taken = ap (λ (v : Bool). cond v (scan (wants (take (word_len text) text)) (drop (word_len text) text)) None) there
          ∙ ap (λ (x : List ℕ). scan (wants x) (drop (word_len text) text)) k.taken ∙ ap (scan (wants word)) k.left_is ∙ w.taken;
      least = w.least;
    }

number-front : (class : Class) (s : Shape) (front rest left : List ℕ) → is_number class front ≡ true
    → ((joined : List ℕ) → is_joined class joined ≡ true → Within s (past_joined class (joined ++ (rest ++ left))) left)
    → Within (number class s) (front ++ (rest ++ left)) left
number-front class s [] rest left e next = absurd (false≢true e)
number-front class s (b ∷ front) rest left e next =
    let parts = and_parts (has class b) (is_joined class front) e in
    let w = next front parts.1 in
    record {
      rest = w.rest;
      taken = ap (λ (v : Bool). option_and_then (scan s) (cond v (Some (past_joined class (front ++ (rest ++ left)))) None)) parts.0
          ∙ w.taken;
      least = w.least;
    }

within_of : (s : Shape) (text other left : List ℕ) → text ≡ other → Within s other left → Within s text left
within_of s text other left e w = within_at s text other left left (ap (scan s) e) (omega arith) w

pub within : (s : Shape) → IsSure s → (bytes left text : List ℕ) → text ≡ bytes ++ left → Spells s bytes → Within s text left
within done sure bytes left text e sp = record {
  rest = text;
  taken = refl;
  least = omega (
    arith,
    ap length (e
        ∙ ap (λ (b : List ℕ). b ++ left) sp),
  );
}
within (one class s) sure bytes left text e x =
    let w = within s sure x.rest left (x.rest ++ left) refl x.behind in
    record {
      rest = w.rest;
      taken = ap (scan (one class s)) (e ∙ ap (λ (b : List ℕ). b ++ left) x.spelled)
          ∙ ap (λ (v : Bool). option_and_then (scan s) (cond v (Some (x.rest ++ left)) None)) x.passes ∙ w.taken;
      least = w.least;
    }
within (many class s) sure bytes left text e x =
    let w = many-within class s sure.0 (λ b l t. within s sure.1 b l t) x.front x.rest left x.passes x.behind in
    record {
      rest = w.rest;
      taken = ap (λ (t : List ℕ). scan s (skip class t)) (e ∙ ap (λ (b : List ℕ). b ++ left) x.spelled
          ∙ append_assoc x.front x.rest left) ∙ w.taken;
      least = w.least;
    }
within (number class s) sure bytes left text e x =
    within_of (number class s) text (x.front ++ (x.rest ++ left)) left (e ∙ ap (λ (b : List ℕ). b ++ left) x.spelled
    ∙ append_assoc x.front x.rest left)
    (number-front class s x.front x.rest left x.passes (λ joined passes. number-within class s sure.0 (λ b l t. within s sure.1 b l t)
    joined x.rest left passes x.behind))
within (led wants) sure bytes left text e x =
    within_of (led wants) text (x.front ++ (x.rest ++ left)) left (e ∙ ap (λ (b : List ℕ). b ++ left) x.spelled
    ∙ append_assoc x.front x.rest left)
    (led-within wants x.front x.rest left x.passes sure.0 sure.2 (λ w b l t. within (wants w) (sure.1 w) b l t) x.behind)
within (either a b) sure bytes left text e x = elim x [
  | inl sp ↦ (let w = within a sure.0 bytes left text e sp in let r = longer-left (scan a text) (scan b text) w.rest w.taken in
      record { rest = r.0; taken = r.1; least = omega (arith, r.2, w.least) })
  | inr sp ↦ (let w = within b sure.1 bytes left text e sp in let r = longer-right (scan a text) (scan b text) w.rest w.taken in
      record { rest = r.0; taken = r.1; least = omega (arith, r.2, w.least) })
]
within closing sure bytes left text e x =
    let whole : text ≡ x.front ++ 42 ∷ 41 ∷ left = e ∙ ap (λ (b : List ℕ). b ++ left) x.spelled ∙ append_assoc x.front x.rest left
    ∙ ap (λ (r : List ℕ). x.front ++ (r ++ left)) x.behind in
    record { rest = left; taken = ap past_close whole ∙ close-there x.front left x.passes; least = omega arith }
