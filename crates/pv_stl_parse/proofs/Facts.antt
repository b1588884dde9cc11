-- What a token is that has a kind, as the laws of productions ask for it.
use Rattle.std.proofs.Common.{◌≡◌}
use Rattle.pv_tree.specs.Lexemes.{Lexeme, IsSign, IsWord}
use Rattle.pv_tree.specs.Words.{IsPlain, IsQuoted, IsNumbered, plain_name, quoted_name}
use Rattle.pv_parse.specs.KindNumbers as n
use Rattle.pv_parse.proofs.ForCallers.{Sure, IsPrefix, IsFreeWord, Plain, has, prefix-plain, plain-bit-op, plain-or-op, plain-value-op, plain-free-op, is-free-word, is-free-prefix, is-free-numbered, is-quoted, is-hash, is-comma, is-paren-open, is-paren-close, is-semicolon, is-colon, is-equals, is-not-word, is-mod-word, is-call-word, is-uc-word, is-network-word}

pub hash : (t : Sure) → t.kind ≡ n.hash → IsSign "#" t.lexeme
hash t p = is-hash t.lexeme (has t n.hash p)

pub comma : (t : Sure) → t.kind ≡ n.comma → IsSign "," t.lexeme
comma t p = is-comma t.lexeme (has t n.comma p)

pub paren_open : (t : Sure) → t.kind ≡ n.paren_open → IsSign "(" t.lexeme
paren_open t p = is-paren-open t.lexeme (has t n.paren_open p)

pub paren_close : (t : Sure) → t.kind ≡ n.paren_close → IsSign ")" t.lexeme
paren_close t p = is-paren-close t.lexeme (has t n.paren_close p)

pub semicolon : (t : Sure) → t.kind ≡ n.semicolon → IsSign ";" t.lexeme
semicolon t p = is-semicolon t.lexeme (has t n.semicolon p)

pub colon : (t : Sure) → t.kind ≡ n.colon → IsSign ":" t.lexeme
colon t p = is-colon t.lexeme (has t n.colon p)

pub equals : (t : Sure) → t.kind ≡ n.equals → IsSign "=" t.lexeme
equals t p = is-equals t.lexeme (has t n.equals p)

pub not_word : (t : Sure) → t.kind ≡ n.not_word → IsWord "NOT" t.lexeme
not_word t p = is-not-word t.lexeme (has t n.not_word p)

pub mod_word : (t : Sure) → t.kind ≡ n.mod_word → IsWord "MOD" t.lexeme
mod_word t p = is-mod-word t.lexeme (has t n.mod_word p)

pub call_word : (t : Sure) → t.kind ≡ n.call_word → IsWord "CALL" t.lexeme
call_word t p = is-call-word t.lexeme (has t n.call_word p)

pub uc_word : (t : Sure) → t.kind ≡ n.uc_word → IsWord "UC" t.lexeme
uc_word t p = is-uc-word t.lexeme (has t n.uc_word p)

pub network_word : (t : Sure) → t.kind ≡ n.network_word → IsWord "NETWORK" t.lexeme
network_word t p = is-network-word t.lexeme (has t n.network_word p)

-- ---- words that are instructions, as labels

as_free : (t : Lexeme) → Plain t → IsFreeWord t
as_free t h = record { kind = h.is.kind; unnumbered = h.is.unnumbered; free = h.free }

pub free_bit_op : (t : Sure) → t.kind ≡ n.bit_op → IsFreeWord t.lexeme
free_bit_op t p = as_free t.lexeme (plain-bit-op t.lexeme (has t n.bit_op p))

pub free_or_op : (t : Sure) → t.kind ≡ n.or_op → IsFreeWord t.lexeme
free_or_op t p = as_free t.lexeme (plain-or-op t.lexeme (has t n.or_op p))

pub free_value_op : (t : Sure) → t.kind ≡ n.value_op → IsFreeWord t.lexeme
free_value_op t p = as_free t.lexeme (plain-value-op t.lexeme (has t n.value_op p))

pub free_free_op : (t : Sure) → t.kind ≡ n.free_op → IsFreeWord t.lexeme
free_free_op t p = as_free t.lexeme (plain-free-op t.lexeme (has t n.free_op p))

-- ---- names behind `#`

pub free_word : (t : Sure) → t.kind ≡ n.free_word → IsPlain (plain_name t.lexeme.bytes) t.lexeme
free_word t p = is-free-word t.lexeme (has t n.free_word p)

pub free_prefix : (t : Sure) → t.kind ≡ n.free_prefix → IsPrefix t.lexeme
free_prefix t p = let s = is-free-prefix t.lexeme (has t n.free_prefix p) in record { word = s.0; is_prefix = s.1 }

pub plain_prefix : (t : Lexeme) → IsPrefix t → IsPlain (plain_name t.bytes) t
plain_prefix t h = prefix-plain t (h.word, h.is_prefix)

pub free_numbered : (t : Sure) → t.kind ≡ n.free_numbered → IsNumbered (plain_name t.lexeme.bytes) t.lexeme
free_numbered t p = (is-free-numbered t.lexeme (has t n.free_numbered p)).is

pub quoted : (t : Sure) → t.kind ≡ n.quoted → IsQuoted (quoted_name t.lexeme.bytes) t.lexeme
quoted t p = (is-quoted t.lexeme (has t n.quoted p)).is
