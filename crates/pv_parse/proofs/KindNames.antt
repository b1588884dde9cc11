-- From a token's kind to the names, numbers and addresses that it may be.
use Rattle.std.proofs.Common.{◌≡◌, ℕ, ◌<◌, Bool, true, false, cond, ◌||◌, not, ◌==◌, IsTrue, List, [], ◌∷◌, length, codes, refl, ap, sym, subst, ◌∙◌, arith, ◌⊎◌, inl, inr}
use Rattle.std.specs.List.{list_all}
use Rattle.pv_lex.specs.declared.token.Kind.TheVariants as k
use Rattle.pv_lex.specs.Shapes.{is_one_of}
use Rattle.pv_tree.specs.Lexemes.{Lexeme}
use Rattle.pv_tree.specs.Words.{prefixes, is_numbered, is_reserved, block_words, function_words, function_word, type_word, begins_quoted, plain_name, quoted_name, IsPlain, IsQuoted, IsNumbered, IsFree}
use Rattle.pv_tree.specs.Words.{statement_words as code_words}
use Rattle.pv_tree.specs.Literals.{bare_address}
use Rattle.pv_parse.specs.KindNumbers as n
use Rattle.pv_parse.specs.LookUps.{look_up}
use Rattle.pv_parse.specs.Kinds.{HasKind, begins_area, word_kind, marked_kind, sign_kind, other_kind, word_entries, argument_words, operation_words, bit_ops, or_ops, value_ops, free_ops, expression_words, one_functions, declaration_words, statement_words, sign_entries, stl_signs}
use Rattle.pv_parse.proofs.CaseBlind.{small, small-twice, numbered-small, reserved-small, word-small, of-each}
use Rattle.pv_parse.proofs.KindCases.{Cases, of_word, of_marked, of_sign, of_quoted, of_number, of_address, of_none, cases-of, words_of, in-words, marked-apart, other-apart, not-so, not-equal}
use Rattle.pv_parse.proofs.KindSpelled.{SaidBy, by-words, one-of-none}

-- ---- what holds of each reserved word

one-left : (p q r : Bool) → (p || q || r) ≡ true → (p ≡ true) ⊎ ((q ≡ true) ⊎ (r ≡ true))
one-left true q r e = inl refl
one-left false true r e = inr (inl refl)
one-left false false r e = inr (inr e)

pub of-reserved : (test : List ℕ → Bool) (text : List ℕ) → ((a b : List ℕ) → small a ≡ small b → test a ≡ test b)
    → list_all test block_words ≡ true → list_all test code_words ≡ true → list_all test function_words ≡ true
    → is_reserved text ≡ true → test text ≡ true
unfolding is_reserved
of-reserved test text blind e f g r =
    elim (one-left (is_one_of block_words text) (is_one_of code_words text) (is_one_of function_words text) r) [
      | inl h ↦ of-each test text block_words blind e h
      | inr (inl h) ↦ of-each test text code_words blind f h
      | inr (inr h) ↦ of-each test text function_words blind g h
    ]

-- so a text with which the test fails is none
unless : (r t : Bool) → (r ≡ true → t ≡ true) → t ≡ false → r ≡ false
unless true t f e = sym (f refl) ∙ e
unless false t f e = refl

pub not-reserved : (test : List ℕ → Bool) (text : List ℕ) → ((a b : List ℕ) → small a ≡ small b → test a ≡ test b)
    → list_all test block_words ≡ true → list_all test code_words ≡ true → list_all test function_words ≡ true
    → test text ≡ false → is_reserved text ≡ false
not-reserved test text blind e f g h = unless (is_reserved text) (test text) (of-reserved test text blind e f g) h

-- ---- words that are names

or-true : (p q : Bool) → q ≡ true → (p || q) ≡ true
or-true true q e = refl
or-true false q e = e

pub free-by : (bytes : List ℕ) → is_reserved bytes ≡ false → IsFree (plain_name bytes)
free-by bytes e =
    or-true (begins_quoted bytes) (not (is_reserved (small bytes))) (ap not (reserved-small (small bytes) bytes (small-twice bytes) ∙ e))

-- a word that is a name, as it is spelled
pub record Plain (t : Lexeme) : Type 0 where
  pub is : IsPlain (plain_name t.bytes) t
  pub free : IsFree (plain_name t.bytes)

plain-by : (t : Lexeme) → t.kind ≡ k.Word → is_numbered t.bytes ≡ false → is_reserved t.bytes ≡ false → Plain t
plain-by t e f g = record { is = record { kind = e; unnumbered = f; names = refl }; free = free-by t.bytes g }

not-like : (test : List ℕ → Bool) → ((a b : List ℕ) → small a ≡ small b → test a ≡ test b) → (a b : List ℕ) → small a ≡ small b
    → not (test a) ≡ not (test b)
not-like test blind a b e = ap not (blind a b e)

-- each word of a list is neither numbered nor reserved
plain-listed : (t : Lexeme) (words : List (List ℕ)) → list_all (λ w. not (is_numbered w)) words ≡ true
    → list_all (λ w. not (is_reserved w)) words ≡ true → SaidBy k.Word words t → Plain t
plain-listed t words e f s =
    plain-by t s.0 (not-so _ (of-each (λ w. not (is_numbered w)) t.bytes words (not-like is_numbered numbered-small) e s.1))
    (not-so _ (of-each (λ w. not (is_reserved w)) t.bytes words (not-like is_reserved reserved-small) f s.1))

-- ---- plain words

plain-numbered : (b : Bool) (bytes : List ℕ) → is_numbered bytes ≡ b → look_up word_entries bytes (cond b n.numbered n.plain) ≡ n.plain
    → is_numbered bytes ≡ false
unfolding word_entries argument_words operation_words bit_ops or_ops value_ops free_ops expression_words one_functions declaration_words statement_words prefixes function_word type_word
plain-numbered true bytes e h = absurd (one-of-none bytes (in-words n.plain word_entries bytes n.numbered refl h))
plain-numbered false bytes e h = e

plain-unnumbered : (bytes : List ℕ) → word_kind bytes ≡ n.plain → is_numbered bytes ≡ false
unfolding word_kind other_kind
plain-unnumbered bytes h = plain-numbered (is_numbered bytes) bytes refl h

kind-like : (number : ℕ) (a b : List ℕ) → small a ≡ small b → not (word_kind a == number) ≡ not (word_kind b == number)
kind-like number a b e = ap (λ (m : ℕ). not (m == number)) (word-small a b e)

equal-not : (a b : ℕ) → a ≡ b → not (a == b) ≡ false
equal-not a b e = grind arith

plain-unreserved : (bytes : List ℕ) → word_kind bytes ≡ n.plain → is_reserved bytes ≡ false
unfolding word_entries argument_words operation_words bit_ops or_ops value_ops free_ops expression_words one_functions declaration_words statement_words prefixes function_word type_word sign_entries stl_signs is_numbered is_one_of is_reserved block_words code_words function_words word_kind other_kind
plain-unreserved bytes h =
    not-reserved (λ w. not (word_kind w == n.plain)) bytes (kind-like n.plain) refl refl refl (equal-not (word_kind bytes) n.plain h)

no-sign : (bytes : List ℕ) (number : ℕ) → (n.outside == number) ≡ false → words_of number sign_entries ≡ [] → sign_kind bytes ≡ number → ⊥
unfolding sign_kind
no-sign bytes number e f h = one-of-none bytes (subst (λ ws. is_one_of ws bytes ≡ true) f (in-words number sign_entries bytes n.outside e h))

no-mark : (bytes : List ℕ) (number : ℕ) → (n.free_prefix == number) ≡ false → (n.free_numbered == number) ≡ false
    → (n.free_word == number) ≡ false → marked_kind bytes ≡ number → ⊥
no-mark bytes number e f g h = not-equal (marked_kind bytes) number (marked-apart bytes number e f g) h

plain-cases : (t : Lexeme) → Cases t.kind t.bytes n.plain → Plain t
unfolding sign_entries stl_signs
plain-cases t (of_word e h) = plain-by t e (plain-unnumbered t.bytes h) (plain-unreserved t.bytes h)
plain-cases t (of_marked e h) = absurd (no-mark t.bytes n.plain refl refl refl h)
plain-cases t (of_sign e h) = absurd (no-sign t.bytes n.plain refl refl h)
plain-cases t (of_quoted e h s) = absurd (not-equal n.quoted n.plain refl h)
plain-cases t (of_number e h s) = absurd (not-equal n.number n.plain refl h)
plain-cases t (of_address e h s) = absurd (not-equal n.address n.plain refl h)
plain-cases t (of_none h) = absurd (not-equal n.outside n.plain refl h)

pub is-plain : (t : Lexeme) → HasKind t n.plain → Plain t
is-plain t h = plain-cases t (cases-of t n.plain h)

-- the fixed words of functions' arguments, and the instructions' words
pub plain-in-word : (t : Lexeme) → HasKind t n.in_word → Plain t
unfolding word_entries argument_words operation_words bit_ops or_ops value_ops free_ops expression_words one_functions declaration_words statement_words prefixes function_word type_word sign_entries stl_signs is_numbered is_one_of is_reserved block_words code_words function_words word_kind other_kind
plain-in-word t h = plain-listed t (codes "IN" ∷ []) refl refl (by-words t n.in_word (codes "IN" ∷ []) refl refl refl h)

pub plain-in0-word : (t : Lexeme) → HasKind t n.in0_word → Plain t
unfolding word_entries argument_words operation_words bit_ops or_ops value_ops free_ops expression_words one_functions declaration_words statement_words prefixes function_word type_word sign_entries stl_signs is_numbered is_one_of is_reserved block_words code_words function_words word_kind other_kind
plain-in0-word t h = plain-listed t (codes "IN0" ∷ []) refl refl (by-words t n.in0_word (codes "IN0" ∷ []) refl refl refl h)

pub plain-in1-word : (t : Lexeme) → HasKind t n.in1_word → Plain t
unfolding word_entries argument_words operation_words bit_ops or_ops value_ops free_ops expression_words one_functions declaration_words statement_words prefixes function_word type_word sign_entries stl_signs is_numbered is_one_of is_reserved block_words code_words function_words word_kind other_kind
plain-in1-word t h = plain-listed t (codes "IN1" ∷ []) refl refl (by-words t n.in1_word (codes "IN1" ∷ []) refl refl refl h)

pub plain-in2-word : (t : Lexeme) → HasKind t n.in2_word → Plain t
unfolding word_entries argument_words operation_words bit_ops or_ops value_ops free_ops expression_words one_functions declaration_words statement_words prefixes function_word type_word sign_entries stl_signs is_numbered is_one_of is_reserved block_words code_words function_words word_kind other_kind
plain-in2-word t h = plain-listed t (codes "IN2" ∷ []) refl refl (by-words t n.in2_word (codes "IN2" ∷ []) refl refl refl h)

pub plain-mn-word : (t : Lexeme) → HasKind t n.mn_word → Plain t
unfolding word_entries argument_words operation_words bit_ops or_ops value_ops free_ops expression_words one_functions declaration_words statement_words prefixes function_word type_word sign_entries stl_signs is_numbered is_one_of is_reserved block_words code_words function_words word_kind other_kind
plain-mn-word t h = plain-listed t (codes "MN" ∷ []) refl refl (by-words t n.mn_word (codes "MN" ∷ []) refl refl refl h)

pub plain-mx-word : (t : Lexeme) → HasKind t n.mx_word → Plain t
unfolding word_entries argument_words operation_words bit_ops or_ops value_ops free_ops expression_words one_functions declaration_words statement_words prefixes function_word type_word sign_entries stl_signs is_numbered is_one_of is_reserved block_words code_words function_words word_kind other_kind
plain-mx-word t h = plain-listed t (codes "MX" ∷ []) refl refl (by-words t n.mx_word (codes "MX" ∷ []) refl refl refl h)

pub plain-g-word : (t : Lexeme) → HasKind t n.g_word → Plain t
unfolding word_entries argument_words operation_words bit_ops or_ops value_ops free_ops expression_words one_functions declaration_words statement_words prefixes function_word type_word sign_entries stl_signs is_numbered is_one_of is_reserved block_words code_words function_words word_kind other_kind
plain-g-word t h = plain-listed t (codes "G" ∷ []) refl refl (by-words t n.g_word (codes "G" ∷ []) refl refl refl h)

pub plain-n-word : (t : Lexeme) → HasKind t n.n_word → Plain t
unfolding word_entries argument_words operation_words bit_ops or_ops value_ops free_ops expression_words one_functions declaration_words statement_words prefixes function_word type_word sign_entries stl_signs is_numbered is_one_of is_reserved block_words code_words function_words word_kind other_kind
plain-n-word t h = plain-listed t (codes "N" ∷ []) refl refl (by-words t n.n_word (codes "N" ∷ []) refl refl refl h)

pub plain-bit-op : (t : Lexeme) → HasKind t n.bit_op → Plain t
unfolding word_entries argument_words operation_words bit_ops or_ops value_ops free_ops expression_words one_functions declaration_words statement_words prefixes function_word type_word sign_entries stl_signs is_numbered is_one_of is_reserved block_words code_words function_words word_kind other_kind
plain-bit-op t h = plain-listed t (bit_ops) refl refl (by-words t n.bit_op (bit_ops) refl refl refl h)

pub plain-or-op : (t : Lexeme) → HasKind t n.or_op → Plain t
unfolding word_entries argument_words operation_words bit_ops or_ops value_ops free_ops expression_words one_functions declaration_words statement_words prefixes function_word type_word sign_entries stl_signs is_numbered is_one_of is_reserved block_words code_words function_words word_kind other_kind
plain-or-op t h = plain-listed t (or_ops) refl refl (by-words t n.or_op (or_ops) refl refl refl h)

pub plain-value-op : (t : Lexeme) → HasKind t n.value_op → Plain t
unfolding word_entries argument_words operation_words bit_ops or_ops value_ops free_ops expression_words one_functions declaration_words statement_words prefixes function_word type_word sign_entries stl_signs is_numbered is_one_of is_reserved block_words code_words function_words word_kind other_kind
plain-value-op t h = plain-listed t (value_ops) refl refl (by-words t n.value_op (value_ops) refl refl refl h)

pub plain-free-op : (t : Lexeme) → HasKind t n.free_op → Plain t
unfolding word_entries argument_words operation_words bit_ops or_ops value_ops free_ops expression_words one_functions declaration_words statement_words prefixes function_word type_word sign_entries stl_signs is_numbered is_one_of is_reserved block_words code_words function_words word_kind other_kind
plain-free-op t h = plain-listed t (free_ops) refl refl (by-words t n.free_op (free_ops) refl refl refl h)

-- ---- names behind `#` or `.`, whatever word it is

word-unless : (bytes : List ℕ) (number : ℕ) → words_of number word_entries ≡ [] → (n.numbered == number) ≡ false → (n.plain == number) ≡ false
    → word_kind bytes ≡ number → ⊥
unfolding word_kind
word-unless bytes number e f g h =
    one-of-none bytes (subst (λ ws. is_one_of ws bytes ≡ true) e (in-words number word_entries bytes _ (other-apart bytes number f g) h))

free-step : (p q : Bool) → cond p n.free_prefix (cond q n.free_numbered n.free_word) ≡ n.free_word → q ≡ false
free-step true q e = absurd (not-equal n.free_prefix n.free_word refl e)
free-step false true e = absurd (not-equal n.free_numbered n.free_word refl e)
free-step false false e = refl

free-unnumbered : (bytes : List ℕ) → marked_kind bytes ≡ n.free_word → is_numbered bytes ≡ false
unfolding marked_kind
free-unnumbered bytes h = free-step (is_one_of prefixes bytes) (is_numbered bytes) h

free-cases : (t : Lexeme) → Cases t.kind t.bytes n.free_word → IsPlain (plain_name t.bytes) t
unfolding word_entries argument_words operation_words bit_ops or_ops value_ops free_ops expression_words one_functions declaration_words statement_words prefixes function_word type_word sign_entries stl_signs is_numbered is_one_of is_reserved block_words code_words function_words word_kind other_kind
free-cases t (of_word e h) = absurd (word-unless t.bytes n.free_word refl refl refl h)
free-cases t (of_marked e h) = record { kind = e; unnumbered = free-unnumbered t.bytes h; names = refl }
free-cases t (of_sign e h) = absurd (no-sign t.bytes n.free_word refl refl h)
free-cases t (of_quoted e h s) = absurd (not-equal n.quoted n.free_word refl h)
free-cases t (of_number e h s) = absurd (not-equal n.number n.free_word refl h)
free-cases t (of_address e h s) = absurd (not-equal n.address n.free_word refl h)
free-cases t (of_none h) = absurd (not-equal n.outside n.free_word refl h)

pub is-free-word : (t : Lexeme) → HasKind t n.free_word → IsPlain (plain_name t.bytes) t
is-free-word t h = free-cases t (cases-of t n.free_word h)

prefix-step : (p q : Bool) → cond p n.free_prefix (cond q n.free_numbered n.free_word) ≡ n.free_prefix → p ≡ true
prefix-step true q e = refl
prefix-step false true e = absurd (not-equal n.free_numbered n.free_prefix refl e)
prefix-step false false e = absurd (not-equal n.free_word n.free_prefix refl e)

prefix-free : (bytes : List ℕ) → marked_kind bytes ≡ n.free_prefix → is_one_of prefixes bytes ≡ true
unfolding marked_kind
prefix-free bytes h = prefix-step (is_one_of prefixes bytes) (is_numbered bytes) h

prefix-cases : (t : Lexeme) → Cases t.kind t.bytes n.free_prefix → SaidBy k.Word prefixes t
unfolding word_entries argument_words operation_words bit_ops or_ops value_ops free_ops expression_words one_functions declaration_words statement_words prefixes function_word type_word sign_entries stl_signs is_numbered is_one_of is_reserved block_words code_words function_words word_kind other_kind
prefix-cases t (of_word e h) = absurd (word-unless t.bytes n.free_prefix refl refl refl h)
prefix-cases t (of_marked e h) = (e, prefix-free t.bytes h)
prefix-cases t (of_sign e h) = absurd (no-sign t.bytes n.free_prefix refl refl h)
prefix-cases t (of_quoted e h s) = absurd (not-equal n.quoted n.free_prefix refl h)
prefix-cases t (of_number e h s) = absurd (not-equal n.number n.free_prefix refl h)
prefix-cases t (of_address e h s) = absurd (not-equal n.address n.free_prefix refl h)
prefix-cases t (of_none h) = absurd (not-equal n.outside n.free_prefix refl h)

pub is-free-prefix : (t : Lexeme) → HasKind t n.free_prefix → SaidBy k.Word prefixes t
is-free-prefix t h = prefix-cases t (cases-of t n.free_prefix h)

pub prefix-unnumbered : (bytes : List ℕ) → is_one_of prefixes bytes ≡ true → is_numbered bytes ≡ false
unfolding word_entries argument_words operation_words bit_ops or_ops value_ops free_ops expression_words one_functions declaration_words statement_words prefixes function_word type_word sign_entries stl_signs is_numbered is_one_of is_reserved block_words code_words function_words word_kind other_kind
prefix-unnumbered bytes e = not-so _ (of-each (λ w. not (is_numbered w)) bytes prefixes (not-like is_numbered numbered-small) refl e)

pub prefix-plain : (t : Lexeme) → SaidBy k.Word prefixes t → IsPlain (plain_name t.bytes) t
prefix-plain t s = record { kind = s.0; unnumbered = prefix-unnumbered t.bytes s.1; names = refl }

-- ---- numbered names in one word

pub numbered-unreserved : (bytes : List ℕ) → is_numbered bytes ≡ true → is_reserved bytes ≡ false
unfolding word_entries argument_words operation_words bit_ops or_ops value_ops free_ops expression_words one_functions declaration_words statement_words prefixes function_word type_word sign_entries stl_signs is_numbered is_one_of is_reserved block_words code_words function_words word_kind other_kind
numbered-unreserved bytes e =
    not-reserved (λ w. not (is_numbered w)) bytes (not-like is_numbered numbered-small) refl refl refl (ap not e)

pub record Numbered (t : Lexeme) : Type 0 where
  pub is : IsNumbered (plain_name t.bytes) t
  pub free : IsFree (plain_name t.bytes)

numbered-by : (t : Lexeme) → t.kind ≡ k.Word → is_numbered t.bytes ≡ true → Numbered t
numbered-by t e f =
    record { is = record { kind = e; numbered = f; names = refl }; free = free-by t.bytes (numbered-unreserved t.bytes f) }

numbered-word : (b : Bool) (bytes : List ℕ) → is_numbered bytes ≡ b → look_up word_entries bytes (cond b n.numbered n.plain) ≡ n.numbered
    → is_numbered bytes ≡ true
unfolding word_entries argument_words operation_words bit_ops or_ops value_ops free_ops expression_words one_functions declaration_words statement_words prefixes function_word type_word
numbered-word true bytes e h = e
numbered-word false bytes e h = absurd (one-of-none bytes (in-words n.numbered word_entries bytes n.plain refl h))

numbered-so : (bytes : List ℕ) → word_kind bytes ≡ n.numbered → is_numbered bytes ≡ true
unfolding word_kind other_kind
numbered-so bytes h = numbered-word (is_numbered bytes) bytes refl h

numbered-cases : (t : Lexeme) → Cases t.kind t.bytes n.numbered → Numbered t
unfolding sign_entries stl_signs
numbered-cases t (of_word e h) = numbered-by t e (numbered-so t.bytes h)
numbered-cases t (of_marked e h) = absurd (no-mark t.bytes n.numbered refl refl refl h)
numbered-cases t (of_sign e h) = absurd (no-sign t.bytes n.numbered refl refl h)
numbered-cases t (of_quoted e h s) = absurd (not-equal n.quoted n.numbered refl h)
numbered-cases t (of_number e h s) = absurd (not-equal n.number n.numbered refl h)
numbered-cases t (of_address e h s) = absurd (not-equal n.address n.numbered refl h)
numbered-cases t (of_none h) = absurd (not-equal n.outside n.numbered refl h)

pub is-numbered : (t : Lexeme) → HasKind t n.numbered → Numbered t
is-numbered t h = numbered-cases t (cases-of t n.numbered h)

free-numbered-step : (p q : Bool) → cond p n.free_prefix (cond q n.free_numbered n.free_word) ≡ n.free_numbered → q ≡ true
free-numbered-step true q e = absurd (not-equal n.free_prefix n.free_numbered refl e)
free-numbered-step false true e = refl
free-numbered-step false false e = absurd (not-equal n.free_word n.free_numbered refl e)

free-numbered-so : (bytes : List ℕ) → marked_kind bytes ≡ n.free_numbered → is_numbered bytes ≡ true
unfolding marked_kind
free-numbered-so bytes h = free-numbered-step (is_one_of prefixes bytes) (is_numbered bytes) h

free-numbered-cases : (t : Lexeme) → Cases t.kind t.bytes n.free_numbered → Numbered t
unfolding word_entries argument_words operation_words bit_ops or_ops value_ops free_ops expression_words one_functions declaration_words statement_words prefixes function_word type_word sign_entries stl_signs is_numbered is_one_of is_reserved block_words code_words function_words word_kind other_kind
free-numbered-cases t (of_word e h) = absurd (word-unless t.bytes n.free_numbered refl refl refl h)
free-numbered-cases t (of_marked e h) = numbered-by t e (free-numbered-so t.bytes h)
free-numbered-cases t (of_sign e h) = absurd (no-sign t.bytes n.free_numbered refl refl h)
free-numbered-cases t (of_quoted e h s) = absurd (not-equal n.quoted n.free_numbered refl h)
free-numbered-cases t (of_number e h s) = absurd (not-equal n.number n.free_numbered refl h)
free-numbered-cases t (of_address e h s) = absurd (not-equal n.address n.free_numbered refl h)
free-numbered-cases t (of_none h) = absurd (not-equal n.outside n.free_numbered refl h)

pub is-free-numbered : (t : Lexeme) → HasKind t n.free_numbered → Numbered t
is-free-numbered t h = free-numbered-cases t (cases-of t n.free_numbered h)

-- ---- quoted names, numbers and addresses

pub record Quoted (t : Lexeme) : Type 0 where
  pub is : IsQuoted (quoted_name t.bytes) t
  pub free : IsFree (quoted_name t.bytes)

true-or : (p q : Bool) → p ≡ true → (p || q) ≡ true
true-or true q e = refl
true-or false q e = cc

quoted-cases : (t : Lexeme) → Cases t.kind t.bytes n.quoted → Quoted t
unfolding word_entries argument_words operation_words bit_ops or_ops value_ops free_ops expression_words one_functions declaration_words statement_words prefixes function_word type_word sign_entries stl_signs is_numbered is_one_of is_reserved block_words code_words function_words word_kind other_kind
quoted-cases t (of_word e h) = absurd (word-unless t.bytes n.quoted refl refl refl h)
quoted-cases t (of_marked e h) = absurd (no-mark t.bytes n.quoted refl refl refl h)
quoted-cases t (of_sign e h) = absurd (no-sign t.bytes n.quoted refl refl h)
quoted-cases t (of_quoted e h s) = record { is = record { kind = e; names = refl }; free = true-or (begins_quoted t.bytes) _ s }
quoted-cases t (of_number e h s) = absurd (not-equal n.number n.quoted refl h)
quoted-cases t (of_address e h s) = absurd (not-equal n.address n.quoted refl h)
quoted-cases t (of_none h) = absurd (not-equal n.outside n.quoted refl h)

pub is-quoted : (t : Lexeme) → HasKind t n.quoted → Quoted t
is-quoted t h = quoted-cases t (cases-of t n.quoted h)

pub record Counted (t : Lexeme) : Type 0 where
  pub is : t.kind ≡ k.Number
  pub some : 0 < length t.bytes

number-cases : (t : Lexeme) → Cases t.kind t.bytes n.number → Counted t
unfolding word_entries argument_words operation_words bit_ops or_ops value_ops free_ops expression_words one_functions declaration_words statement_words prefixes function_word type_word sign_entries stl_signs is_numbered is_one_of is_reserved block_words code_words function_words word_kind other_kind
number-cases t (of_word e h) = absurd (word-unless t.bytes n.number refl refl refl h)
number-cases t (of_marked e h) = absurd (no-mark t.bytes n.number refl refl refl h)
number-cases t (of_sign e h) = absurd (no-sign t.bytes n.number refl refl h)
number-cases t (of_quoted e h s) = absurd (not-equal n.quoted n.number refl h)
number-cases t (of_number e h s) = record { is = e; some = s }
number-cases t (of_address e h s) = absurd (not-equal n.address n.number refl h)
number-cases t (of_none h) = absurd (not-equal n.outside n.number refl h)

pub is-number : (t : Lexeme) → HasKind t n.number → Counted t
is-number t h = number-cases t (cases-of t n.number h)

pub record Addressed (t : Lexeme) : Type 0 where
  pub is : t.kind ≡ k.Address
  pub of_area : IsTrue (begins_area (bare_address t.bytes))

address-cases : (t : Lexeme) → Cases t.kind t.bytes n.address → Addressed t
unfolding word_entries argument_words operation_words bit_ops or_ops value_ops free_ops expression_words one_functions declaration_words statement_words prefixes function_word type_word sign_entries stl_signs is_numbered is_one_of is_reserved block_words code_words function_words word_kind other_kind
address-cases t (of_word e h) = absurd (word-unless t.bytes n.address refl refl refl h)
address-cases t (of_marked e h) = absurd (no-mark t.bytes n.address refl refl refl h)
address-cases t (of_sign e h) = absurd (no-sign t.bytes n.address refl refl h)
address-cases t (of_quoted e h s) = absurd (not-equal n.quoted n.address refl h)
address-cases t (of_number e h s) = absurd (not-equal n.number n.address refl h)
address-cases t (of_address e h s) = record { is = e; of_area = s }
address-cases t (of_none h) = absurd (not-equal n.outside n.address refl h)

pub is-address : (t : Lexeme) → HasKind t n.address → Addressed t
is-address t h = address-cases t (cases-of t n.address h)
