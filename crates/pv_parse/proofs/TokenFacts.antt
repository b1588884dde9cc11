-- What a token is that has a kind, as the laws of productions ask for it.
use Prim.Native.String.{String}
use Rattle.std.proofs.Common.{◌≡◌, ◌⊎◌, inl, inr, ℕ, List, [], ◌∷◌, ◌++◌, Option, Some, None, refl, ap, sym, subst, ◌∙◌, arith}
use Rattle.std.specs.Prelude.{pos}
use Rattle.pv_word.specs.declared.types.Ty.TheVariants as ty
use Rattle.pv_lex.specs.declared.token.Kind.TheVariants as k
use Rattle.pv_tree.specs.declared.expr.BinaryOp.{BinaryOp}
use Rattle.pv_tree.specs.declared.expr.BinaryOp.TheVariants as o
use Rattle.pv_tree.specs.declared.expr.StdFunction.{StdFunction}
use Rattle.pv_tree.specs.declared.expr.StdFunction.TheVariants as function
use Rattle.pv_tree.specs.Lexemes.{Lexeme, IsSign, IsWord}
use Rattle.pv_tree.specs.Words.{IsFree, IsPlain, IsQuoted, IsNumbered, plain_name, pair_name, quoted_name, function_word}
use Rattle.pv_tree.specs.Literals.{IsTruth, IsAddress, bare_address, address_bits, address_byte, address_bit}
use Rattle.pv_tree.specs.Expressions.{IsBetween, IsOfFunction, parameters_of}
use Rattle.pv_parse.specs.KindNumbers as n
use Rattle.pv_parse.specs.Kinds.{HasKind}
use Rattle.pv_parse.specs.TokenTexts.{times_of, compare_of, truth_of, function_of, area_of_letter}
use Rattle.pv_parse.proofs.KindSpelled as by
use Rattle.pv_parse.proofs.KindNames as names
use Rattle.pv_parse.proofs.KindNames.{Plain}
use Rattle.pv_parse.proofs.KindOf.{kind_of_function}
use Rattle.pv_parse.proofs.KindPairs.{OneFunction, is-function, pair-free}
use Rattle.pv_parse.proofs.FunctionTexts.{function_is}
use Rattle.pv_parse.proofs.OperatorTexts.{times_mul, times_div, compare_is, truth_is, letter_of}
use Rattle.pv_parse.proofs.Sure.{Sure, IsFreeWord, IsPrefix}

-- the token's own kind, by its number
pub has : (t : Sure) (m : ℕ) → t.kind ≡ m → HasKind t.lexeme m
has t m p = subst (λ (z : ℕ). HasKind t.lexeme z) p t.has

-- ---- names

as_free : (t : Lexeme) → Plain t → IsFreeWord t
as_free t h = record { kind = h.is.kind; unnumbered = h.is.unnumbered; free = h.free }

pub free_plain : (t : Sure) → t.kind ≡ n.plain → IsFreeWord t.lexeme
free_plain t p = as_free t.lexeme (names.is-plain t.lexeme (has t n.plain p))

pub free_in_word : (t : Sure) → t.kind ≡ n.in_word → IsFreeWord t.lexeme
free_in_word t p = as_free t.lexeme (names.plain-in-word t.lexeme (has t n.in_word p))

pub free_in0_word : (t : Sure) → t.kind ≡ n.in0_word → IsFreeWord t.lexeme
free_in0_word t p = as_free t.lexeme (names.plain-in0-word t.lexeme (has t n.in0_word p))

pub free_in1_word : (t : Sure) → t.kind ≡ n.in1_word → IsFreeWord t.lexeme
free_in1_word t p = as_free t.lexeme (names.plain-in1-word t.lexeme (has t n.in1_word p))

pub free_in2_word : (t : Sure) → t.kind ≡ n.in2_word → IsFreeWord t.lexeme
free_in2_word t p = as_free t.lexeme (names.plain-in2-word t.lexeme (has t n.in2_word p))

pub free_mn_word : (t : Sure) → t.kind ≡ n.mn_word → IsFreeWord t.lexeme
free_mn_word t p = as_free t.lexeme (names.plain-mn-word t.lexeme (has t n.mn_word p))

pub free_mx_word : (t : Sure) → t.kind ≡ n.mx_word → IsFreeWord t.lexeme
free_mx_word t p = as_free t.lexeme (names.plain-mx-word t.lexeme (has t n.mx_word p))

pub free_g_word : (t : Sure) → t.kind ≡ n.g_word → IsFreeWord t.lexeme
free_g_word t p = as_free t.lexeme (names.plain-g-word t.lexeme (has t n.g_word p))

pub free_n_word : (t : Sure) → t.kind ≡ n.n_word → IsFreeWord t.lexeme
free_n_word t p = as_free t.lexeme (names.plain-n-word t.lexeme (has t n.n_word p))

pub free_bit_op : (t : Sure) → t.kind ≡ n.bit_op → IsFreeWord t.lexeme
free_bit_op t p = as_free t.lexeme (names.plain-bit-op t.lexeme (has t n.bit_op p))

pub free_or_op : (t : Sure) → t.kind ≡ n.or_op → IsFreeWord t.lexeme
free_or_op t p = as_free t.lexeme (names.plain-or-op t.lexeme (has t n.or_op p))

pub free_value_op : (t : Sure) → t.kind ≡ n.value_op → IsFreeWord t.lexeme
free_value_op t p = as_free t.lexeme (names.plain-value-op t.lexeme (has t n.value_op p))

pub free_free_op : (t : Sure) → t.kind ≡ n.free_op → IsFreeWord t.lexeme
free_free_op t p = as_free t.lexeme (names.plain-free-op t.lexeme (has t n.free_op p))

-- a word behind `#` or `.`
pub marked_word : (t : Sure) → (t.kind ≡ n.free_word) ⊎ (t.kind ≡ n.free_prefix) → IsPlain (plain_name t.lexeme.bytes) t.lexeme
marked_word t (inl p) = names.is-free-word t.lexeme (has t n.free_word p)
marked_word t (inr p) = names.prefix-plain t.lexeme (names.is-free-prefix t.lexeme (has t n.free_prefix p))

pub quoted : (t : Sure) → t.kind ≡ n.quoted → IsQuoted (quoted_name t.lexeme.bytes) t.lexeme
quoted t p = (names.is-quoted t.lexeme (has t n.quoted p)).is

pub numbered : (t : Sure) → t.kind ≡ n.numbered → IsNumbered (plain_name t.lexeme.bytes) t.lexeme
numbered t p = (names.is-numbered t.lexeme (has t n.numbered p)).is

pub prefix : (t : Sure) → t.kind ≡ n.number_prefix → IsPrefix t.lexeme
prefix t p = let s = by.is-number-prefix t.lexeme (has t n.number_prefix p) in record { word = s.0; is_prefix = s.1 }

pub number : (t : Sure) → t.kind ≡ n.number → t.lexeme.kind ≡ k.Number
number t p = (names.is-number t.lexeme (has t n.number p)).is

pub quoted_free : (t : Sure) → t.kind ≡ n.quoted → IsFree (quoted_name t.lexeme.bytes)
quoted_free t p = (names.is-quoted t.lexeme (has t n.quoted p)).free

pub numbered_free : (t : Sure) → t.kind ≡ n.numbered → IsFree (plain_name t.lexeme.bytes)
numbered_free t p = (names.is-numbered t.lexeme (has t n.numbered p)).free

pub pair_free : (t m : Sure) → IsPrefix t.lexeme → m.kind ≡ n.number → IsFree (pair_name (t.lexeme.bytes ++ m.lexeme.bytes))
pair_free t m h p = pair-free t.lexeme.bytes m.lexeme.bytes h.is_prefix (names.is-number m.lexeme (has m n.number p)).some

pub address : (t : Sure) → t.kind ≡ n.address
    → IsAddress (area_of_letter (bare_address t.lexeme.bytes)) (address_bits (bare_address t.lexeme.bytes)) (address_byte (bare_address t.lexeme.bytes))
    (address_bit (bare_address t.lexeme.bytes)) t.lexeme
address t p =
    let h = names.is-address t.lexeme (has t n.address p) in
    record { kind = h.is; of_area = letter_of (bare_address t.lexeme.bytes) h.of_area; of_bits = refl; of_byte = refl; of_bit = refl }

-- ---- signs and words

pub hash : (t : Sure) → t.kind ≡ n.hash → IsSign "#" t.lexeme
hash t p = by.is-hash t.lexeme (has t n.hash p)

pub dot : (t : Sure) → t.kind ≡ n.dot → IsSign "." t.lexeme
dot t p = by.is-dot t.lexeme (has t n.dot p)

pub comma : (t : Sure) → t.kind ≡ n.comma → IsSign "," t.lexeme
comma t p = by.is-comma t.lexeme (has t n.comma p)

pub assign : (t : Sure) → t.kind ≡ n.assign → IsSign ":=" t.lexeme
assign t p = by.is-assign t.lexeme (has t n.assign p)

pub arrow : (t : Sure) → t.kind ≡ n.arrow → IsSign "=>" t.lexeme
arrow t p = by.is-arrow t.lexeme (has t n.arrow p)

pub paren_open : (t : Sure) → t.kind ≡ n.paren_open → IsSign "(" t.lexeme
paren_open t p = by.is-paren-open t.lexeme (has t n.paren_open p)

pub paren_close : (t : Sure) → t.kind ≡ n.paren_close → IsSign ")" t.lexeme
paren_close t p = by.is-paren-close t.lexeme (has t n.paren_close p)

pub bracket_open : (t : Sure) → t.kind ≡ n.bracket_open → IsSign "[" t.lexeme
bracket_open t p = by.is-bracket-open t.lexeme (has t n.bracket_open p)

pub bracket_close : (t : Sure) → t.kind ≡ n.bracket_close → IsSign "]" t.lexeme
bracket_close t p = by.is-bracket-close t.lexeme (has t n.bracket_close p)

pub plus : (t : Sure) → t.kind ≡ n.plus → IsSign "+" t.lexeme
plus t p = by.is-plus t.lexeme (has t n.plus p)

pub minus : (t : Sure) → t.kind ≡ n.minus → IsSign "-" t.lexeme
minus t p = by.is-minus t.lexeme (has t n.minus p)

pub equals : (t : Sure) → t.kind ≡ n.equals → IsSign "=" t.lexeme
equals t p = by.is-equals t.lexeme (has t n.equals p)

pub unequal : (t : Sure) → t.kind ≡ n.unequal → IsSign "<>" t.lexeme
unequal t p = by.is-unequal t.lexeme (has t n.unequal p)

pub or_word : (t : Sure) → t.kind ≡ n.or_word → IsWord "OR" t.lexeme
or_word t p = by.is-or-word t.lexeme (has t n.or_word p)

pub xor_word : (t : Sure) → t.kind ≡ n.xor_word → IsWord "XOR" t.lexeme
xor_word t p = by.is-xor-word t.lexeme (has t n.xor_word p)

pub not_word : (t : Sure) → t.kind ≡ n.not_word → IsWord "NOT" t.lexeme
not_word t p = by.is-not-word t.lexeme (has t n.not_word p)

pub mod_word : (t : Sure) → t.kind ≡ n.mod_word → IsWord "MOD" t.lexeme
mod_word t p = by.is-mod-word t.lexeme (has t n.mod_word p)

pub in_word : (t : Sure) → t.kind ≡ n.in_word → IsWord "IN" t.lexeme
in_word t p = by.is-in-word t.lexeme (has t n.in_word p)

pub in0_word : (t : Sure) → t.kind ≡ n.in0_word → IsWord "IN0" t.lexeme
in0_word t p = by.is-in0-word t.lexeme (has t n.in0_word p)

pub in1_word : (t : Sure) → t.kind ≡ n.in1_word → IsWord "IN1" t.lexeme
in1_word t p = by.is-in1-word t.lexeme (has t n.in1_word p)

pub in2_word : (t : Sure) → t.kind ≡ n.in2_word → IsWord "IN2" t.lexeme
in2_word t p = by.is-in2-word t.lexeme (has t n.in2_word p)

pub mn_word : (t : Sure) → t.kind ≡ n.mn_word → IsWord "MN" t.lexeme
mn_word t p = by.is-mn-word t.lexeme (has t n.mn_word p)

pub mx_word : (t : Sure) → t.kind ≡ n.mx_word → IsWord "MX" t.lexeme
mx_word t p = by.is-mx-word t.lexeme (has t n.mx_word p)

pub g_word : (t : Sure) → t.kind ≡ n.g_word → IsWord "G" t.lexeme
g_word t p = by.is-g-word t.lexeme (has t n.g_word p)

pub n_word : (t : Sure) → t.kind ≡ n.n_word → IsWord "N" t.lexeme
n_word t p = by.is-n-word t.lexeme (has t n.n_word p)

pub and_word : (t : Sure) → t.kind ≡ n.and_word → IsWord "AND" t.lexeme ⊎ IsSign "&" t.lexeme
and_word t p = by.is-and-word t.lexeme (has t n.and_word p)

-- ---- operators that their text tells apart, and truth values

times_by : (t : Lexeme) → IsSign "*" t ⊎ (IsSign "/" t ⊎ IsWord "DIV" t) → IsBetween (times_of t.bytes) t
times_by t (inl h) = subst (λ (z : BinaryOp). IsBetween z t) (sym (times_mul t.bytes h.bytes)) h
times_by t (inr h) = subst (λ (z : BinaryOp). IsBetween z t) (sym (times_div t h)) h

pub times : (t : Sure) → t.kind ≡ n.times → IsBetween (times_of t.lexeme.bytes) t.lexeme
times t p = times_by t.lexeme (by.is-times t.lexeme (has t n.times p))

compare_by : (t : Lexeme) → IsSign "<" t ⊎ (IsSign ">" t ⊎ (IsSign "<=" t ⊎ (IsSign ">=" t))) → IsBetween (compare_of t.bytes) t
compare_by t (inl h) = subst (λ (z : BinaryOp). IsBetween z t) (sym (compare_is o.Less t tt h)) h
compare_by t (inr (inl h)) = subst (λ (z : BinaryOp). IsBetween z t) (sym (compare_is o.Greater t tt h)) h
compare_by t (inr (inr (inl h))) = subst (λ (z : BinaryOp). IsBetween z t) (sym (compare_is o.LessEqual t tt h)) h
compare_by t (inr (inr (inr h))) = subst (λ (z : BinaryOp). IsBetween z t) (sym (compare_is o.GreaterEqual t tt h)) h

pub compare : (t : Sure) → t.kind ≡ n.compare_sign → IsBetween (compare_of t.lexeme.bytes) t.lexeme
compare t p = compare_by t.lexeme (by.is-compare-sign t.lexeme (has t n.compare_sign p))

truth_by : (t : Lexeme) → IsWord "TRUE" t ⊎ IsWord "FALSE" t → IsTruth (Some ty.Bool) (truth_of t.bytes) t
truth_by t (inl h) = record { typed = refl; valued = inl (h, truth_is (Some ty.Bool) (pos 1) t (record { typed = refl; valued = inl (h, refl) })) }
truth_by t (inr h) = record { typed = refl; valued = inr (h, truth_is (Some ty.Bool) (pos 0) t (record { typed = refl; valued = inr (h, refl) })) }

pub truth : (t : Sure) → t.kind ≡ n.truth → IsTruth (Some ty.Bool) (truth_of t.lexeme.bytes) t.lexeme
truth t p = truth_by t.lexeme (by.is-truth t.lexeme (has t n.truth p))

-- ---- functions

pub record IsFunctionOf (parameters : List (Option String)) (t : Lexeme) : Type 0 where
  pub of_function : IsOfFunction (function_of t.bytes) t
  pub parameters_are : parameters_of (function_of t.bytes) ≡ parameters

-- the function that the text is
told : (f : StdFunction) (t : Lexeme) (parameters : List (Option String)) → IsOfFunction f t → parameters_of f ≡ parameters → IsFunctionOf parameters t
told f t parameters h p =
    let e : function_of t.bytes ≡ f = function_is f t h in
    record {
      of_function = subst (λ (z : StdFunction). IsOfFunction z t) (sym e) h;
      parameters_are = ap (λ (z : StdFunction). parameters_of z) e ∙ p;
    }

takes_one : (f : StdFunction) → kind_of_function f ≡ n.one_function → parameters_of f ≡ None ∷ []
takes_one (function.Convert from target) p = refl
takes_one function.Abs p = refl
takes_one function.Min p = absurd (omega (arith, p))
takes_one function.Max p = absurd (omega (arith, p))
takes_one function.Limit p = absurd (omega (arith, p))
takes_one function.Sel p = absurd (omega (arith, p))
takes_one function.Shl p = absurd (omega (arith, p))
takes_one function.Shr p = absurd (omega (arith, p))

pub one_function : (t : Sure) → t.kind ≡ n.one_function → IsFunctionOf (None ∷ []) t.lexeme
one_function t p =
    let f : OneFunction t.lexeme = is-function t.lexeme (has t n.one_function p) in
    told f.its_function t.lexeme (None ∷ []) f.is (takes_one f.its_function f.takes_one)

two_function_by : (t : Lexeme) → IsWord "MIN" t ⊎ IsWord "MAX" t → IsFunctionOf (Some "IN1" ∷ Some "IN2" ∷ []) t
unfolding function_word
two_function_by t (inl h) = told function.Min t (Some "IN1" ∷ Some "IN2" ∷ []) (record { is_one = tt; kind = h.kind; bytes = h.bytes }) refl
two_function_by t (inr h) = told function.Max t (Some "IN1" ∷ Some "IN2" ∷ []) (record { is_one = tt; kind = h.kind; bytes = h.bytes }) refl

pub two_function : (t : Sure) → t.kind ≡ n.two_function → IsFunctionOf (Some "IN1" ∷ Some "IN2" ∷ []) t.lexeme
two_function t p = two_function_by t.lexeme (by.is-two-function t.lexeme (has t n.two_function p))

shift_function_by : (t : Lexeme) → IsWord "SHL" t ⊎ IsWord "SHR" t → IsFunctionOf (Some "IN" ∷ Some "N" ∷ []) t
unfolding function_word
shift_function_by t (inl h) = told function.Shl t (Some "IN" ∷ Some "N" ∷ []) (record { is_one = tt; kind = h.kind; bytes = h.bytes }) refl
shift_function_by t (inr h) = told function.Shr t (Some "IN" ∷ Some "N" ∷ []) (record { is_one = tt; kind = h.kind; bytes = h.bytes }) refl

pub shift_function : (t : Sure) → t.kind ≡ n.shift_function → IsFunctionOf (Some "IN" ∷ Some "N" ∷ []) t.lexeme
shift_function t p = shift_function_by t.lexeme (by.is-shift-function t.lexeme (has t n.shift_function p))

pub limit_function : (t : Sure) → t.kind ≡ n.limit_function → IsFunctionOf (Some "MN" ∷ Some "IN" ∷ Some "MX" ∷ []) t.lexeme
unfolding function_word
limit_function t p =
    let h = by.is-limit-function t.lexeme (has t n.limit_function p) in
    told function.Limit t.lexeme (Some "MN" ∷ Some "IN" ∷ Some "MX" ∷ []) (record { is_one = tt; kind = h.kind; bytes = h.bytes }) refl

pub sel_function : (t : Sure) → t.kind ≡ n.sel_function → IsFunctionOf (Some "G" ∷ Some "IN0" ∷ Some "IN1" ∷ []) t.lexeme
unfolding function_word
sel_function t p =
    let h = by.is-sel-function t.lexeme (has t n.sel_function p) in
    told function.Sel t.lexeme (Some "G" ∷ Some "IN0" ∷ Some "IN1" ∷ []) (record { is_one = tt; kind = h.kind; bytes = h.bytes }) refl
