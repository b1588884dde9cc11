-- Header lines: the one that is found is one, and none that begins the text is longer, or the word there is.
use Rattle.std.proofs.Common.{◌≡◌, ◌⊎◌, ℕ, suc, ◌+◌, ◌≤◌, length, drop, take, Bool, true, false, cond, not, inl, inr, List, [], ◌∷◌, ◌++◌, Option, Some, None, refl, ap, sym, ◌∙◌, subst, arith, append_assoc, length-append, length-drop}
use Rattle.std.specs.Prelude.{◌&&◌, ◌||◌, ◌==◌}
use Rattle.std.specs.List.{list_all, prefix_len}
use Rattle.std.proofs.lemmas.Bool.{false≢true, eqb-true, cases_Bool, and_parts, and_from}
use Rattle.pv_lex.specs.declared.class.Class.{Class}
use Rattle.pv_lex.specs.declared.class.Class.TheVariants as c
use Rattle.pv_lex.specs.declared.context.Context.{Context}
use Rattle.pv_lex.specs.declared.token.Language.{Language}
use Rattle.pv_lex.specs.Classes.{has, is_word_byte}
use Rattle.pv_lex.specs.Shapes.{begins, is_word, is_one_of, word}
use Rattle.pv_lex.specs.Tokens.{skip, is_header, IsHeaderLine, is_stl, title_words, header_words}
use Rattle.pv_lex.specs.Scans.{word_len, scan, past_header}
use Rattle.pv_lex.proofs.Scanning.{some_is, none_not, skip_in, skip_out, skip-all, skip-le, skipped, worded, whole-word, word-begins, word-least, not_of, of_not}

-- what is left behind a class doesn't begin with it
pub skip-ends : (class : Class) (text : List ℕ) → begins class (skip class text) ≡ false
skip-ends class [] = refl
skip-ends class (b ∷ others) =
    elim (cases_Bool (has class b)) [
      | inl on ↦ ap (begins class) (skip_in class b others on) ∙ skip-ends class others
      | inr off ↦ ap (begins class) (skip_out class b others off) ∙ off
    ]

-- `=` behind blanks
abbrev has_equal : List ℕ → Bool
has_equal line = begins (c.Byte 61) (skip c.Blank line)

equal-wide : (line left : List ℕ) → has_equal line ≡ true → has_equal (line ++ left) ≡ true
equal-wide [] left e = absurd (false≢true e)
equal-wide (x ∷ line) left e =
    elim (cases_Bool (has c.Blank x)) [
      | inl on ↦ ap (begins (c.Byte 61)) (skip_in c.Blank x (line ++ left) on)
          ∙ equal-wide line left (sym (ap (begins (c.Byte 61)) (skip_in c.Blank x line on)) ∙ e)
      | inr off ↦ ap (begins (c.Byte 61)) (skip_out c.Blank x (line ++ left) off)
          ∙ (sym (ap (begins (c.Byte 61)) (skip_out c.Blank x line off)) ∙ e)
    ]

not_true : (x : Bool) → not x ≡ false → x ≡ true
not_true true e = refl
not_true false e = sym e

-- behind the line nothing or a line feed stands, so `=` stands in the line
no_equal : (rest : List ℕ) → begins c.Inline rest ≡ false → has_equal rest ≡ true → ⊥
no_equal [] off e = false≢true e
no_equal (b ∷ rest) off e =
    let is : b ≡ 10 = eqb-true b 10 (not_true (b == 10) off) in
    let same : has_equal (b ∷ rest) ≡ has_equal (10 ∷ rest) = ap (λ (x : ℕ). has_equal (x ∷ rest)) is in
    false≢true (sym (ap (begins (c.Byte 61)) (skip_out c.Blank 10 rest refl)) ∙ (sym same ∙ e))

equal-narrow : (line rest : List ℕ) → begins c.Inline rest ≡ false → has_equal (line ++ rest) ≡ true → has_equal line ≡ true
equal-narrow [] rest off e = absurd (no_equal rest off e)
equal-narrow (x ∷ line) rest off e =
    elim (cases_Bool (has c.Blank x)) [
      | inl on ↦ ap (begins (c.Byte 61)) (skip_in c.Blank x line on) ∙ equal-narrow line rest off (sym (ap (begins (c.Byte 61)) (skip_in
          c.Blank x (line ++ rest) on)) ∙ e)
      | inr out ↦ ap (begins (c.Byte 61)) (skip_out c.Blank x line out)
          ∙ (sym (ap (begins (c.Byte 61)) (skip_out c.Blank x (line ++ rest) out)) ∙ e)
    ]

-- a header line stays one where `=` stands behind its blanks too
kept : (fresh head stl title x y : Bool) → (x ≡ true → y ≡ true) → (fresh && (head || (stl && (title && x)))) ≡ true
    → (fresh && (head || (stl && (title && y)))) ≡ true
kept false head stl title x y h e = e
kept true true stl title x y h e = refl
kept true false false title x y h e = e
kept true false true false x y h e = e
kept true false true true x y h e = h e

header-kept : (language : Language) (context : Context) (word line other : List ℕ) → (has_equal line ≡ true → has_equal other ≡ true)
    → is_header language context word line ≡ true → is_header language context word other ≡ true
unfolding is_header
header-kept language context word line other h e =
    kept (not context.on_line) (context.in_head && is_one_of header_words word) (is_stl language) (is_one_of title_words word) (has_equal
    line) (has_equal other) h e

begins-front : (class : Class) (front rest : List ℕ) → begins class (front ++ rest) ≡ false → begins class front ≡ false
begins-front class [] rest e = refl
begins-front class (x ∷ front) rest e = e

pub record FoundHeader (language : Language) (context : Context) (text rest : List ℕ) : Type 0 where
  pub bytes : List ℕ
  pub whole : text ≡ bytes ++ rest
  pub header : IsHeaderLine language context bytes

pub header-found : (language : Language) (context : Context) (text rest : List ℕ) → past_header language context text ≡ Some rest
    → FoundHeader language context text rest
unfolding past_header
header-found language context text rest e =
    let w : List ℕ = take (word_len text) text in
    let behind : List ℕ = drop (word_len text) text in
    elim (cases_Bool (begins c.Letter text && is_header language context w behind)) [
      | inl on ↦ (let parts = and_parts (begins c.Letter text) (is_header language context w behind) on in
          let k = worded text parts.0 in
          let s = skipped c.Inline behind in
          let left : skip c.Inline behind ≡ rest = some_is (skip c.Inline behind) rest (sym (ap (λ (v : Bool). cond v (Some (skip c.Inline
          behind)) None) on) ∙ e) in
          let inside : has_equal behind ≡ true → has_equal s.front ≡ true =
          (λ h. equal-narrow s.front (skip c.Inline behind) (skip-ends c.Inline behind) (sym (ap has_equal s.whole) ∙ h)) in
          record {
            bytes = w ++ s.front;
            whole = k.whole ∙ ap (λ (t : List ℕ). w ++ t) (s.whole ∙ ap (λ (t : List ℕ). s.front ++ t) left)
                ∙ sym (append_assoc w s.front rest);
            header = record {
              word = w;
              line = s.front;
              spelled = refl;
              of_word = k.of_word;
              ended = not_of (begins c.WordByte s.front) (begins-front c.WordByte s.front (skip c.Inline behind) (sym (ap (begins
                  c.WordByte) s.whole) ∙ skip-ends c.WordByte text));
              inline = s.passes;
              header = header-kept language context w behind s.front inside parts.1;
            };
          })
      | inr off ↦ absurd (none_not rest (sym (ap (λ (v : Bool). cond v (Some (skip c.Inline behind)) None) off) ∙ e))
    ]

-- ---- none is longer

-- the header line that is found, or the longer word
pub record Passed (text left : List ℕ) (taken : Option (List ℕ)) (gap : ℕ) : Type 0 where
  pub rest : List ℕ
  pub is : taken ≡ Some rest
  pub least : length rest + gap ≤ length left

header-there : (language : Language) (context : Context) (w line left : List ℕ) → is_word w ≡ true
    → begins c.WordByte (line ++ left) ≡ false
    → list_all (has c.Inline) line ≡ true → is_header language context w line ≡ true
    → Passed (w ++ (line ++ left)) left (past_header language context (w ++ (line ++ left))) 0
unfolding past_header
header-there language context w line left e off inline header =
    let text : List ℕ = w ++ (line ++ left) in
    let k = whole-word w (line ++ left) e off in
    let there : begins c.Letter text ≡ true = word-begins w (line ++ left) e in
    let wide : is_header language context w (line ++ left) ≡ true = header-kept language context w line (line ++ left) (equal-wide line
    left) header in
    let on : is_header language context (take (word_len text) text) (drop (word_len text) text) ≡ true =
    ap (λ (x : List ℕ). is_header language context x (drop (word_len text) text)) k.taken ∙ ap (is_header language context w) k.left_is
    ∙ wide in
    let rest : skip c.Inline (drop (word_len text) text) ≡ skip c.Inline left = ap (skip c.Inline) k.left_is
    ∙ skip-all c.Inline line left inline in
    record {
      rest = skip c.Inline (drop (word_len text) text);
      is = ap (λ (v : Bool). cond v (Some (skip c.Inline (drop (word_len text) text))) None)
          (and_from (begins c.Letter text) (is_header language context (take (word_len text) text) (drop (word_len text) text)) there on);
      least = omega (arith, ap length rest, skip-le c.Inline left);
    }

-- the word there is longer than this front of it
word-there : (w left : List ℕ) → is_word w ≡ true → begins c.WordByte left ≡ true → Passed (w ++ left) left (scan word (w ++ left)) 1
word-there w [] e on = absurd (false≢true on)
word-there w (b ∷ left) e on =
    let text : List ℕ = w ++ (b ∷ left) in
    let there : begins c.Letter text ≡ true = word-begins w (b ∷ left) e in
    let n : prefix_len is_word_byte (b ∷ left) ≡ 1 + prefix_len is_word_byte left = ap (λ (v : Bool). cond v (1 + prefix_len is_word_byte
    left) 0) on in
    let size : length (b ∷ left) ≡ suc (length left) = refl in
    record {
      rest = drop (word_len text) text;
      is = ap (λ (v : Bool). cond v (Some (drop (word_len text) text)) None) there;
      least = omega (arith, length-drop (word_len text) text, length-append w (b ∷ left), word-least w (b ∷ left) e, n, size);
    }

line-split : (language : Language) (context : Context) (w line left : List ℕ) → is_word w ≡ true → begins c.WordByte line ≡ false
    → list_all (has c.Inline) line ≡ true → is_header language context w line ≡ true
    → (Passed (w ++ (line ++ left)) left (past_header language context (w ++ (line ++ left))) 0) ⊎ (Passed (w ++ (line ++ left)) left (scan
    word (w ++ (line ++ left))) 1)
line-split language context w [] left e off inline header =
    elim (cases_Bool (begins c.WordByte left)) [
      | inl on ↦ inr (word-there w left e on)
      | inr out ↦ inl (header-there language context w [] left e out inline header)
    ]
line-split language context w (x ∷ line) left e off inline header = inl (header-there language context w (x ∷ line) left e off inline
    header)

pub header-within : (language : Language) (context : Context) (bytes left text : List ℕ) → text ≡ bytes ++ left
    → IsHeaderLine language context bytes
    → (Passed text left (past_header language context text) 0) ⊎ (Passed text left (scan word text) 1)
header-within language context bytes left text e h =
    let same : text ≡ h.word ++ (h.line ++ left) = e ∙ ap (λ (b : List ℕ). b ++ left) h.spelled ∙ append_assoc h.word h.line left in
    subst (λ (t : List ℕ). (Passed t left (past_header language context t) 0) ⊎ (Passed t left (scan word t) 1)) (sym same)
    (line-split language context h.word h.line left h.of_word (of_not (begins c.WordByte h.line) h.ended) h.inline h.header)
