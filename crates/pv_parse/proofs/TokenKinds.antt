-- What kind a token has by what it is, as derivations ask for it: where it isn't directly behind `#` or `.`, and behind them.
use Prim.Native.String.{String}
use Rattle.std.proofs.Common.{◌≡◌, ◌⊎◌, inl, inr, ℕ, true, false, ◌||◌, List, Option, refl, ap, sym, ◌∙◌}
use Rattle.std.specs.Prelude.{ℤ, codes}
use Rattle.std.specs.Str.{bytes_eq}
use Rattle.pv_word.specs.declared.types.Ty.{Ty}
use Rattle.pv_types.specs.declared.name.Name.{Name}
use Rattle.pv_lex.specs.declared.token.Kind.{Kind}
use Rattle.pv_lex.specs.declared.token.Kind.TheVariants as k
use Rattle.pv_lex.specs.Shapes.{is_one_of}
use Rattle.pv_tree.specs.declared.expr.BinaryOp.{BinaryOp}
use Rattle.pv_tree.specs.declared.expr.BinaryOp.TheVariants as o
use Rattle.pv_tree.specs.declared.expr.StdFunction.{StdFunction}
use Rattle.pv_tree.specs.declared.expr.Area.{Area}
use Rattle.pv_tree.specs.declared.expr.Root.TheVariants as root
use Rattle.pv_tree.specs.Lexemes.{Lexeme, IsSign, IsWord}
use Rattle.pv_tree.specs.Words.{IsPlain, IsQuoted, IsNumbered, prefixes}
use Rattle.pv_tree.specs.Literals.{IsTruth, IsAddress, bare_address, address_bits, address_byte, address_bit}
use Rattle.pv_tree.specs.Expressions.{IsBetween, IsOfFunction}
use Rattle.pv_parse.specs.KindNumbers as n
use Rattle.pv_parse.specs.Kinds.{kind_of, marks, marks_by}
use Rattle.pv_parse.specs.TokenTexts.{area_of}
use Rattle.pv_parse.proofs.CaseBlind.{small, same-small}
use Rattle.pv_parse.proofs.KindOf as of
use Rattle.pv_parse.proofs.KindOf.{kind_between, kind_of_function}
use Rattle.pv_parse.proofs.OperatorTexts.{area_is}

-- the token has this kind, and what is behind it isn't behind `#` or `.`
pub record Serves (m : ℕ) (t : Lexeme) : Type 0 where
  pub is : kind_of false t ≡ m
  pub plain : marks t ≡ false

-- the token is `#` or `.`
pub record Marks (m : ℕ) (t : Lexeme) : Type 0 where
  pub is : kind_of false t ≡ m
  pub mark : marks t ≡ true

-- ---- what marks

pub by_kind : (kind : Kind) (t : Lexeme) → t.kind ≡ kind → marks_by kind t.bytes ≡ false → marks t ≡ false
by_kind kind t e h = ap (λ (z : Kind). marks_by z t.bytes) e ∙ h

pub word_marks : (t : Lexeme) → t.kind ≡ k.Word → marks t ≡ false
word_marks t e = by_kind k.Word t e refl

-- a sign marks as its text does
pub sign_marks : (text : String) (t : Lexeme) → IsSign text t → marks t ≡ marks_by k.Sign (codes text)
sign_marks text t h =
    ap (λ (z : Kind). marks_by z t.bytes) h.kind
    ∙ ap (λ (z : List ℕ). bytes_eq z (small (codes "#")) || bytes_eq z (small (codes "."))) (same-small t.bytes (codes text) h.bytes)

-- ---- names

pub marked_word : (name : Name) (t : Lexeme) → IsPlain name t → (kind_of true t ≡ n.free_word) ⊎ (kind_of true t ≡ n.free_prefix)
marked_word name t p = of.kind-free-word name t p

pub quoted : (name : Name) (t : Lexeme) → IsQuoted name t → Serves n.quoted t
quoted name t h = record { is = of.kind-quoted name t false h; plain = by_kind k.Quoted t h.kind refl }

pub numbered : (name : Name) (t : Lexeme) → IsNumbered name t → Serves n.numbered t
numbered name t h = record { is = of.kind-numbered name t h; plain = word_marks t h.kind }

pub prefix : (t : Lexeme) → t.kind ≡ k.Word → is_one_of prefixes t.bytes ≡ true → Serves n.number_prefix t
prefix t e h = record { is = of.kind-prefix t e h; plain = word_marks t e }

pub number : (t : Lexeme) → t.kind ≡ k.Number → Serves n.number t
number t e = record { is = of.kind-value t.value t false (record { kind = e; valued = refl }); plain = by_kind k.Number t e refl }

pub address : (its : Area) (bits byte bit : ℕ) (t : Lexeme) → IsAddress its bits byte bit t → Serves n.address t
address its bits byte bit t h = record { is = of.kind-address its bits byte bit t false h; plain = by_kind k.Address t h.kind refl }

-- ---- signs and words

pub hash : (t : Lexeme) → IsSign "#" t → Marks n.hash t
hash t h = record { is = of.kind-hash t false h; mark = sign_marks "#" t h }

pub dot : (t : Lexeme) → IsSign "." t → Marks n.dot t
dot t h = record { is = of.kind-dot t false h; mark = sign_marks "." t h }

pub comma : (t : Lexeme) → IsSign "," t → Serves n.comma t
comma t h = record { is = of.kind-comma t false h; plain = sign_marks "," t h }

pub assign : (t : Lexeme) → IsSign ":=" t → Serves n.assign t
assign t h = record { is = of.kind-assign t false h; plain = sign_marks ":=" t h }

pub arrow : (t : Lexeme) → IsSign "=>" t → Serves n.arrow t
arrow t h = record { is = of.kind-arrow t false h; plain = sign_marks "=>" t h }

pub paren_open : (t : Lexeme) → IsSign "(" t → Serves n.paren_open t
paren_open t h = record { is = of.kind-paren-open t false h; plain = sign_marks "(" t h }

pub paren_close : (t : Lexeme) → IsSign ")" t → Serves n.paren_close t
paren_close t h = record { is = of.kind-paren-close t false h; plain = sign_marks ")" t h }

pub bracket_open : (t : Lexeme) → IsSign "[" t → Serves n.bracket_open t
bracket_open t h = record { is = of.kind-bracket-open t false h; plain = sign_marks "[" t h }

pub bracket_close : (t : Lexeme) → IsSign "]" t → Serves n.bracket_close t
bracket_close t h = record { is = of.kind-bracket-close t false h; plain = sign_marks "]" t h }

pub plus : (t : Lexeme) → IsSign "+" t → Serves n.plus t
plus t h = record { is = of.kind-plus t false h; plain = sign_marks "+" t h }

pub minus : (t : Lexeme) → IsSign "-" t → Serves n.minus t
minus t h = record { is = of.kind-minus t false h; plain = sign_marks "-" t h }

pub equals : (t : Lexeme) → IsSign "=" t → Serves n.equals t
equals t h = record { is = of.kind-equals t false h; plain = sign_marks "=" t h }

pub unequal : (t : Lexeme) → IsSign "<>" t → Serves n.unequal t
unequal t h = record { is = of.kind-unequal t false h; plain = sign_marks "<>" t h }

pub or_word : (t : Lexeme) → IsWord "OR" t → Serves n.or_word t
or_word t h = record { is = of.kind-or-word t h; plain = word_marks t h.kind }

pub xor_word : (t : Lexeme) → IsWord "XOR" t → Serves n.xor_word t
xor_word t h = record { is = of.kind-xor-word t h; plain = word_marks t h.kind }

pub not_word : (t : Lexeme) → IsWord "NOT" t → Serves n.not_word t
not_word t h = record { is = of.kind-not-word t h; plain = word_marks t h.kind }

pub mod_word : (t : Lexeme) → IsWord "MOD" t → Serves n.mod_word t
mod_word t h = record { is = of.kind-mod-word t h; plain = word_marks t h.kind }

pub in_word : (t : Lexeme) → IsWord "IN" t → Serves n.in_word t
in_word t h = record { is = of.kind-in-word t h; plain = word_marks t h.kind }

pub in0_word : (t : Lexeme) → IsWord "IN0" t → Serves n.in0_word t
in0_word t h = record { is = of.kind-in0-word t h; plain = word_marks t h.kind }

pub in1_word : (t : Lexeme) → IsWord "IN1" t → Serves n.in1_word t
in1_word t h = record { is = of.kind-in1-word t h; plain = word_marks t h.kind }

pub in2_word : (t : Lexeme) → IsWord "IN2" t → Serves n.in2_word t
in2_word t h = record { is = of.kind-in2-word t h; plain = word_marks t h.kind }

pub mn_word : (t : Lexeme) → IsWord "MN" t → Serves n.mn_word t
mn_word t h = record { is = of.kind-mn-word t h; plain = word_marks t h.kind }

pub mx_word : (t : Lexeme) → IsWord "MX" t → Serves n.mx_word t
mx_word t h = record { is = of.kind-mx-word t h; plain = word_marks t h.kind }

pub g_word : (t : Lexeme) → IsWord "G" t → Serves n.g_word t
g_word t h = record { is = of.kind-g-word t h; plain = word_marks t h.kind }

pub n_word : (t : Lexeme) → IsWord "N" t → Serves n.n_word t
n_word t h = record { is = of.kind-n-word t h; plain = word_marks t h.kind }

-- ---- operators

between_marks : (op : BinaryOp) (t : Lexeme) → IsBetween op t → marks t ≡ false
between_marks o.Mul t h = sign_marks "*" t h
between_marks o.Mod t h = word_marks t h.kind
between_marks o.Add t h = sign_marks "+" t h
between_marks o.Sub t h = sign_marks "-" t h
between_marks o.Less t h = sign_marks "<" t h
between_marks o.Greater t h = sign_marks ">" t h
between_marks o.LessEqual t h = sign_marks "<=" t h
between_marks o.GreaterEqual t h = sign_marks ">=" t h
between_marks o.Equal t h = sign_marks "=" t h
between_marks o.NotEqual t h = sign_marks "<>" t h
between_marks o.Xor t h = word_marks t h.kind
between_marks o.Or t h = word_marks t h.kind
between_marks o.Div t (inl h) = sign_marks "/" t h
between_marks o.Div t (inr h) = word_marks t h.kind
between_marks o.And t (inl h) = word_marks t h.kind
between_marks o.And t (inr h) = sign_marks "&" t h

pub between : (op : BinaryOp) (t : Lexeme) → IsBetween op t → Serves (kind_between op) t
between op t h = record { is = of.kind-between op t h; plain = between_marks op t h }

-- ---- truth values, addresses, functions

pub truth : (own : Option Ty) (value : ℤ) (t : Lexeme) → IsTruth own value t → Serves n.truth t
truth own value t h = record {
  is = of.kind-truth own value t h;
  plain = elim h.valued [ inl w ↦ word_marks t w.0.kind | inr w ↦ word_marks t w.0.kind ];
}

pub area : (its : Area) (bits byte bit : ℕ) (t : Lexeme) → IsAddress its bits byte bit t → area_of t.bytes ≡ root.Area its bits byte bit
unfolding area_of
area its bits byte bit t h =
    ap (λ (z : Area). root.Area z (address_bits (bare_address t.bytes)) (address_byte (bare_address t.bytes)) (address_bit (bare_address t.bytes)))
    (area_is its (bare_address t.bytes) h.of_area)
    ∙ ap (λ (z : ℕ). root.Area its z (address_byte (bare_address t.bytes)) (address_bit (bare_address t.bytes))) (sym h.of_bits)
    ∙ ap (λ (z : ℕ). root.Area its bits z (address_bit (bare_address t.bytes))) (sym h.of_byte)
    ∙ ap (λ (z : ℕ). root.Area its bits byte z) (sym h.of_bit)

pub of_function : (f : StdFunction) (t : Lexeme) → IsOfFunction f t → Serves (kind_of_function f) t
of_function f t h = record { is = of.kind-function f t h; plain = word_marks t h.kind }
