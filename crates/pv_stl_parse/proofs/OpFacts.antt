-- What a token of an instruction's kind says: what the check computes for each word and sign of the table holds of each text that is
-- one of them.
use Prim.Native.String.{String}
use Rattle.std.proofs.Common.{◌≡◌, ℕ, Bool, true, false, cond, ◌&&◌, List, [], ◌∷◌, codes, Option, Some, refl, ap, ◌∙◌, sym}
use Rattle.std.specs.Prelude.{not}
use Rattle.std.specs.List.{list_all}
use Rattle.std.specs.Str.{bytes_eq}
use Rattle.std.proofs.lemmas.Bool.{and_parts, true≢false}
use Rattle.pv_lex.specs.declared.token.Kind.{Kind}
use Rattle.pv_lex.specs.declared.token.Kind.TheVariants as k
use Rattle.pv_tree.specs.declared.instr.Op.{Op}
use Rattle.pv_tree.specs.Lexemes.{Lexeme, IsWord, IsSign}
use Rattle.pv_tree.specs.Instructions.{Shape, opening, must, may, calls, calls_alone, Sort, by_word, by_sign, sort_of, IsOfSort, shape_of}
use Rattle.pv_parse.specs.KindNumbers as n
use Rattle.pv_parse.specs.Kinds.{bit_ops, value_ops, free_ops, stl_signs}
use Rattle.pv_parse.specs.OpTexts.{OpEntry, op_among, op_entries, ops, openings, known, op_of, opening_of}
use Rattle.pv_parse.proofs.ForCallers.{small, same-small, of-each, SaidBy, Sure, has, IsOp, IsOpening, is_load, Known, by_bit, by_or, by_must, by_may, is-bit-op, is-or-op, is-value-op, is-free-op, is-stl-sign}
use Rattle.pv_stl_parse.proofs.Facts as fact

-- ---- in any letter case

among-small : (es : List OpEntry) (a b : List ℕ) → small a ≡ small b → op_among es a ≡ op_among es b
among-small [] a b e = refl
among-small (x ∷ xs) a b e =
    ap (λ (text : List ℕ). cond (bytes_eq text (small x.0)) (Some x.1) (op_among xs a)) e
    ∙ ap (λ (z : Option Op). cond (bytes_eq (small b) (small x.0)) (Some x.1) z) (among-small xs a b e)

pub op-small : (a b : List ℕ) → small a ≡ small b → op_of a ≡ op_of b
unfolding op_of
op-small a b e = ap (λ (z : Option Op). known z) (among-small (op_entries ops) a b e)

pub opening-small : (a b : List ℕ) → small a ≡ small b → opening_of a ≡ opening_of b
unfolding opening_of
opening-small a b e = ap (λ (z : Option Op). known z) (among-small (op_entries openings) a b e)

-- ---- the tests

-- a word, or else a sign
abbrev kind_if : Bool → Kind
kind_if true = k.Word
kind_if false = k.Sign

abbrev said_by : Bool → Sort → List ℕ → Bool
said_by true (by_word w x) text = bytes_eq text (small (codes w))
said_by true (by_sign w x) text = false
said_by false (by_word w x) text = false
said_by false (by_sign w x) text = bytes_eq text (small (codes w))

abbrev same : Bool → Bool → Bool
same true b = b
same false b = not b

same-eq : (b c : Bool) → same b c ≡ true → b ≡ c
same-eq true true e = refl
same-eq true false e = sym e
same-eq false true e = e
same-eq false false e = refl

-- the instruction has such a shape, and its word or sign is this text in small letters
abbrev tested : (Shape → Bool) → Bool → Op → List ℕ → Bool
tested p worded o text =
    p (shape_of (sort_of o)) && (said_by worded (sort_of o) text && same (bytes_eq text (small (codes "L"))) (is_load o))

abbrev op_test : (Shape → Bool) → Bool → List ℕ → Bool
op_test p worded text = tested p worded (op_of text) (small text)

abbrev opening_test : (Shape → Bool) → Bool → List ℕ → Bool
opening_test p worded text = tested p worded (opening_of text) (small text)

op-test-small : (p : Shape → Bool) (worded : Bool) (a b : List ℕ) → small a ≡ small b → op_test p worded a ≡ op_test p worded b
op-test-small p worded a b e =
    ap (λ (o : Op). tested p worded o (small a)) (op-small a b e) ∙ ap (λ (z : List ℕ). tested p worded (op_of b) z) e

opening-test-small : (p : Shape → Bool) (worded : Bool) (a b : List ℕ) → small a ≡ small b → opening_test p worded a ≡ opening_test p worded b
opening-test-small p worded a b e =
    ap (λ (o : Op). tested p worded o (small a)) (opening-small a b e) ∙ ap (λ (z : List ℕ). tested p worded (opening_of b) z) e

-- ---- what they say

said-sort : (worded : Bool) (x : Sort) (t : Lexeme) → t.kind ≡ kind_if worded → said_by worded x (small t.bytes) ≡ true → IsOfSort x t
said-sort true (by_word w x) t e h = record { kind = e; bytes = h }
said-sort true (by_sign w x) t e h = absurd (true≢false (sym h))
said-sort false (by_word w x) t e h = absurd (true≢false (sym h))
said-sort false (by_sign w x) t e h = record { kind = e; bytes = h }

op-tested : (x : Shape) (p : Shape → Bool) (worded : Bool) (t : Lexeme) → ((y : Shape) → p y ≡ true → y ≡ x) → t.kind ≡ kind_if worded
    → op_test p worded t.bytes ≡ true → IsOp x t
op-tested x p worded t is e h =
    let a = and_parts (p (shape_of (sort_of (op_of t.bytes))))
    (said_by worded (sort_of (op_of t.bytes)) (small t.bytes) && same (bytes_eq (small t.bytes) (small (codes "L"))) (is_load (op_of t.bytes))) h in
    let b = and_parts (said_by worded (sort_of (op_of t.bytes)) (small t.bytes))
    (same (bytes_eq (small t.bytes) (small (codes "L"))) (is_load (op_of t.bytes))) a.1 in
    record {
      shaped = is (shape_of (sort_of (op_of t.bytes))) a.0;
      said = said-sort worded (sort_of (op_of t.bytes)) t e b.0;
      loads = same-eq (bytes_eq (small t.bytes) (small (codes "L"))) (is_load (op_of t.bytes)) b.1;
    }

opening-tested : (p : Shape → Bool) (t : Lexeme) → ((y : Shape) → p y ≡ true → y ≡ opening) → t.kind ≡ k.Word → opening_test p true t.bytes ≡ true
    → IsOpening t
opening-tested p t is e h =
    let a = and_parts (p (shape_of (sort_of (opening_of t.bytes))))
    (said_by true (sort_of (opening_of t.bytes)) (small t.bytes) && same (bytes_eq (small t.bytes) (small (codes "L"))) (is_load (opening_of t.bytes))) h in
    let b = and_parts (said_by true (sort_of (opening_of t.bytes)) (small t.bytes))
    (same (bytes_eq (small t.bytes) (small (codes "L"))) (is_load (opening_of t.bytes))) a.1 in
    record { shaped = is (shape_of (sort_of (opening_of t.bytes))) a.0; said = said-sort true (sort_of (opening_of t.bytes)) t e b.0 }

-- ---- shapes

abbrev is_opening : Shape → Bool
is_opening opening = true
is_opening _ = false

abbrev is_must : Shape → Bool
is_must must = true
is_must _ = false

abbrev is_may : Shape → Bool
is_may may = true
is_may _ = false

abbrev is_calls : Shape → Bool
is_calls calls = true
is_calls _ = false

abbrev is_alone : Shape → Bool
is_alone calls_alone = true
is_alone _ = false

opening-is : (x : Shape) → is_opening x ≡ true → x ≡ opening
opening-is opening e = refl
opening-is _ e = absurd (true≢false (sym e))

must-is : (x : Shape) → is_must x ≡ true → x ≡ must
must-is must e = refl
must-is _ e = absurd (true≢false (sym e))

may-is : (x : Shape) → is_may x ≡ true → x ≡ may
may-is may e = refl
may-is _ e = absurd (true≢false (sym e))

calls-is : (x : Shape) → is_calls x ≡ true → x ≡ calls
calls-is calls e = refl
calls-is _ e = absurd (true≢false (sym e))

alone-is : (x : Shape) → is_alone x ≡ true → x ≡ calls_alone
alone-is calls_alone e = refl
alone-is _ e = absurd (true≢false (sym e))

-- ---- by the kind

word-op : (x : Shape) (p : Shape → Bool) (t : Lexeme) (words : List (List ℕ)) → ((y : Shape) → p y ≡ true → y ≡ x)
    → list_all (op_test p true) words ≡ true → SaidBy k.Word words t → IsOp x t
word-op x p t words is all h = op-tested x p true t is h.0 (of-each (op_test p true) t.bytes words (op-test-small p true) all h.1)

sign-op : (x : Shape) (p : Shape → Bool) (t : Lexeme) (words : List (List ℕ)) → ((y : Shape) → p y ≡ true → y ≡ x)
    → list_all (op_test p false) words ≡ true → SaidBy k.Sign words t → IsOp x t
sign-op x p t words is all h = op-tested x p false t is h.0 (of-each (op_test p false) t.bytes words (op-test-small p false) all h.1)

word-opening : (t : Lexeme) (words : List (List ℕ)) → list_all (opening_test is_opening true) words ≡ true → SaidBy k.Word words t → IsOpening t
word-opening t words all h =
    opening-tested is_opening t opening-is h.0 (of-each (opening_test is_opening true) t.bytes words (opening-test-small is_opening true) all h.1)

-- one word, and one sign
one-word : (text : String) (x : Shape) (p : Shape → Bool) (t : Lexeme) → ((y : Shape) → p y ≡ true → y ≡ x) → op_test p true (codes text) ≡ true
    → IsWord text t → IsOp x t
one-word text x p t is h w = op-tested x p true t is w.kind (op-test-small p true t.bytes (codes text) (same-small t.bytes (codes text) w.bytes) ∙ h)

one-sign : (text : String) (x : Shape) (p : Shape → Bool) (t : Lexeme) → ((y : Shape) → p y ≡ true → y ≡ x) → op_test p false (codes text) ≡ true
    → IsSign text t → IsOp x t
one-sign text x p t is h w = op-tested x p false t is w.kind (op-test-small p false t.bytes (codes text) (same-small t.bytes (codes text) w.bytes) ∙ h)

pub known_bit : (t : Sure) → t.kind ≡ n.bit_op → Known by_bit t.lexeme
unfolding op_of opening_of bit_ops
known_bit t p =
    let h = is-bit-op t.lexeme (has t n.bit_op p) in
    (word-op must is_must t.lexeme bit_ops must-is refl h, word-opening t.lexeme bit_ops refl h)

pub known_or : (t : Sure) → t.kind ≡ n.or_op → Known by_or t.lexeme
unfolding op_of opening_of
known_or t p =
    let w = is-or-op t.lexeme (has t n.or_op p) in (
      one-word "O" may is_may t.lexeme may-is refl w,
      opening-tested is_opening t.lexeme opening-is w.kind
          (opening-test-small is_opening true t.lexeme.bytes (codes "O") (same-small t.lexeme.bytes (codes "O") w.bytes) ∙ refl),
    )

pub known_value : (t : Sure) → t.kind ≡ n.value_op → Known by_must t.lexeme
unfolding op_of value_ops
known_value t p = word-op must is_must t.lexeme value_ops must-is refl (is-value-op t.lexeme (has t n.value_op p))

pub known_free : (t : Sure) → t.kind ≡ n.free_op → Known by_may t.lexeme
unfolding op_of free_ops
known_free t p = word-op may is_may t.lexeme free_ops may-is refl (is-free-op t.lexeme (has t n.free_op p))

pub known_sign : (t : Sure) → t.kind ≡ n.stl_sign → IsOp may t.lexeme
unfolding op_of stl_signs
known_sign t p = sign-op may is_may t.lexeme stl_signs may-is refl (is-stl-sign t.lexeme (has t n.stl_sign p))

pub known_equals : (t : Sure) → t.kind ≡ n.equals → IsOp must t.lexeme
unfolding op_of
known_equals t p = one-sign "=" must is_must t.lexeme must-is refl (fact.equals t p)

pub known_close : (t : Sure) → t.kind ≡ n.paren_close → IsOp may t.lexeme
unfolding op_of
known_close t p = one-sign ")" may is_may t.lexeme may-is refl (fact.paren_close t p)

pub known_not : (t : Sure) → t.kind ≡ n.not_word → IsOp may t.lexeme
unfolding op_of
known_not t p = one-word "NOT" may is_may t.lexeme may-is refl (fact.not_word t p)

pub known_mod : (t : Sure) → t.kind ≡ n.mod_word → IsOp may t.lexeme
unfolding op_of
known_mod t p = one-word "MOD" may is_may t.lexeme may-is refl (fact.mod_word t p)

pub known_call : (t : Sure) → t.kind ≡ n.call_word → IsOp calls t.lexeme
unfolding op_of
known_call t p = one-word "CALL" calls is_calls t.lexeme calls-is refl (fact.call_word t p)

pub known_uc : (t : Sure) → t.kind ≡ n.uc_word → IsOp calls_alone t.lexeme
unfolding op_of
known_uc t p = one-word "UC" calls_alone is_alone t.lexeme alone-is refl (fact.uc_word t p)
