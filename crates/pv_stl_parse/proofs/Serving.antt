-- What kind a token has by what it is, as derivations ask for it: where it isn't directly behind `#` or `.`, and behind them.
use Rattle.std.proofs.Common.{◌≡◌, ℕ, false, refl}
use Rattle.pv_lex.specs.declared.token.Kind.TheVariants as k
use Rattle.pv_types.specs.declared.name.Name.{Name}
use Rattle.pv_tree.specs.Lexemes.{Lexeme, IsSign, IsWord}
use Rattle.pv_tree.specs.Words.{IsQuoted}
use Rattle.pv_parse.specs.KindNumbers as n
use Rattle.pv_parse.specs.Kinds.{kind_of, marks}
use Rattle.pv_parse.proofs.ForCallers.{Serves, Marks, by_kind, word_marks, sign_marks, kind-hash, kind-comma, kind-paren-open, kind-paren-close, kind-semicolon, kind-colon, kind-network-word}

pub hash : (t : Lexeme) → IsSign "#" t → Marks n.hash t
hash t h = record { is = kind-hash t false h; mark = sign_marks "#" t h }

pub comma : (t : Lexeme) → IsSign "," t → Serves n.comma t
comma t h = record { is = kind-comma t false h; plain = sign_marks "," t h }

pub paren_open : (t : Lexeme) → IsSign "(" t → Serves n.paren_open t
paren_open t h = record { is = kind-paren-open t false h; plain = sign_marks "(" t h }

pub paren_close : (t : Lexeme) → IsSign ")" t → Serves n.paren_close t
paren_close t h = record { is = kind-paren-close t false h; plain = sign_marks ")" t h }

pub semicolon : (t : Lexeme) → IsSign ";" t → Serves n.semicolon t
semicolon t h = record { is = kind-semicolon t false h; plain = sign_marks ";" t h }

pub colon : (t : Lexeme) → IsSign ":" t → Serves n.colon t
colon t h = record { is = kind-colon t false h; plain = sign_marks ":" t h }

pub network_word : (t : Lexeme) → IsWord "NETWORK" t → Serves n.network_word t
network_word t h = record { is = kind-network-word t h; plain = word_marks t h.kind }

-- a word of this kind
pub serving : (m : ℕ) (t : Lexeme) → kind_of false t ≡ m → t.kind ≡ k.Word → Serves m t
serving m t e w = record { is = e; plain = word_marks t w }

-- ---- behind `#`

pub quoted_marks : (x : Name) (t : Lexeme) → IsQuoted x t → marks t ≡ false
quoted_marks x t h = by_kind k.Quoted t h.kind refl
