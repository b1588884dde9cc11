-- What a token is that has a kind, as the laws of productions ask for it.
use Rattle.std.proofs.Common.{◌≡◌, ◌⊎◌}
use Rattle.pv_lex.specs.declared.token.Kind.TheVariants as k
use Rattle.pv_tree.specs.Lexemes.{Lexeme, IsSign, IsWord}
use Rattle.pv_tree.specs.Words.{IsPlain, IsQuoted, IsNumbered, plain_name, quoted_name}
use Rattle.pv_parse.specs.KindNumbers as n
use Rattle.pv_parse.proofs.ForCallers.{Sure, IsPrefix, has, prefix-plain, is-free-word, is-free-prefix, is-free-numbered, is-quoted, is-number, is-single-word, is-hash, is-dot, is-comma, is-paren-open, is-paren-close, is-bracket-open, is-bracket-close, is-assign, is-arrow, is-semicolon, is-colon, is-dots, is-if-word, is-then-word, is-elsif-word, is-else-word, is-end-if, is-case-word, is-of-word, is-end-case, is-for-word, is-to-word, is-by-word, is-do-word, is-end-for, is-while-word, is-end-while, is-repeat-word, is-until-word, is-end-repeat}

pub hash : (t : Sure) → t.kind ≡ n.hash → IsSign "#" t.lexeme
hash t p = is-hash t.lexeme (has t n.hash p)

pub dot : (t : Sure) → t.kind ≡ n.dot → IsSign "." t.lexeme
dot t p = is-dot t.lexeme (has t n.dot p)

pub comma : (t : Sure) → t.kind ≡ n.comma → IsSign "," t.lexeme
comma t p = is-comma t.lexeme (has t n.comma p)

pub paren_open : (t : Sure) → t.kind ≡ n.paren_open → IsSign "(" t.lexeme
paren_open t p = is-paren-open t.lexeme (has t n.paren_open p)

pub paren_close : (t : Sure) → t.kind ≡ n.paren_close → IsSign ")" t.lexeme
paren_close t p = is-paren-close t.lexeme (has t n.paren_close p)

pub bracket_open : (t : Sure) → t.kind ≡ n.bracket_open → IsSign "[" t.lexeme
bracket_open t p = is-bracket-open t.lexeme (has t n.bracket_open p)

pub bracket_close : (t : Sure) → t.kind ≡ n.bracket_close → IsSign "]" t.lexeme
bracket_close t p = is-bracket-close t.lexeme (has t n.bracket_close p)

pub assign : (t : Sure) → t.kind ≡ n.assign → IsSign ":=" t.lexeme
assign t p = is-assign t.lexeme (has t n.assign p)

pub arrow : (t : Sure) → t.kind ≡ n.arrow → IsSign "=>" t.lexeme
arrow t p = is-arrow t.lexeme (has t n.arrow p)

pub semicolon : (t : Sure) → t.kind ≡ n.semicolon → IsSign ";" t.lexeme
semicolon t p = is-semicolon t.lexeme (has t n.semicolon p)

pub colon : (t : Sure) → t.kind ≡ n.colon → IsSign ":" t.lexeme
colon t p = is-colon t.lexeme (has t n.colon p)

pub dots : (t : Sure) → t.kind ≡ n.dots → IsSign ".." t.lexeme
dots t p = is-dots t.lexeme (has t n.dots p)

pub if_word : (t : Sure) → t.kind ≡ n.if_word → IsWord "IF" t.lexeme
if_word t p = is-if-word t.lexeme (has t n.if_word p)

pub then_word : (t : Sure) → t.kind ≡ n.then_word → IsWord "THEN" t.lexeme
then_word t p = is-then-word t.lexeme (has t n.then_word p)

pub elsif_word : (t : Sure) → t.kind ≡ n.elsif_word → IsWord "ELSIF" t.lexeme
elsif_word t p = is-elsif-word t.lexeme (has t n.elsif_word p)

pub else_word : (t : Sure) → t.kind ≡ n.else_word → IsWord "ELSE" t.lexeme
else_word t p = is-else-word t.lexeme (has t n.else_word p)

pub end_if : (t : Sure) → t.kind ≡ n.end_if → IsWord "END_IF" t.lexeme
end_if t p = is-end-if t.lexeme (has t n.end_if p)

pub case_word : (t : Sure) → t.kind ≡ n.case_word → IsWord "CASE" t.lexeme
case_word t p = is-case-word t.lexeme (has t n.case_word p)

pub of_word : (t : Sure) → t.kind ≡ n.of_word → IsWord "OF" t.lexeme
of_word t p = is-of-word t.lexeme (has t n.of_word p)

pub end_case : (t : Sure) → t.kind ≡ n.end_case → IsWord "END_CASE" t.lexeme
end_case t p = is-end-case t.lexeme (has t n.end_case p)

pub for_word : (t : Sure) → t.kind ≡ n.for_word → IsWord "FOR" t.lexeme
for_word t p = is-for-word t.lexeme (has t n.for_word p)

pub to_word : (t : Sure) → t.kind ≡ n.to_word → IsWord "TO" t.lexeme
to_word t p = is-to-word t.lexeme (has t n.to_word p)

pub by_word : (t : Sure) → t.kind ≡ n.by_word → IsWord "BY" t.lexeme
by_word t p = is-by-word t.lexeme (has t n.by_word p)

pub do_word : (t : Sure) → t.kind ≡ n.do_word → IsWord "DO" t.lexeme
do_word t p = is-do-word t.lexeme (has t n.do_word p)

pub end_for : (t : Sure) → t.kind ≡ n.end_for → IsWord "END_FOR" t.lexeme
end_for t p = is-end-for t.lexeme (has t n.end_for p)

pub while_word : (t : Sure) → t.kind ≡ n.while_word → IsWord "WHILE" t.lexeme
while_word t p = is-while-word t.lexeme (has t n.while_word p)

pub end_while : (t : Sure) → t.kind ≡ n.end_while → IsWord "END_WHILE" t.lexeme
end_while t p = is-end-while t.lexeme (has t n.end_while p)

pub repeat_word : (t : Sure) → t.kind ≡ n.repeat_word → IsWord "REPEAT" t.lexeme
repeat_word t p = is-repeat-word t.lexeme (has t n.repeat_word p)

pub until_word : (t : Sure) → t.kind ≡ n.until_word → IsWord "UNTIL" t.lexeme
until_word t p = is-until-word t.lexeme (has t n.until_word p)

pub end_repeat : (t : Sure) → t.kind ≡ n.end_repeat → IsWord "END_REPEAT" t.lexeme
end_repeat t p = is-end-repeat t.lexeme (has t n.end_repeat p)

pub single_word : (t : Sure) → t.kind ≡ n.single_word → IsWord "EXIT" t.lexeme ⊎ (IsWord "CONTINUE" t.lexeme ⊎ IsWord "RETURN" t.lexeme)
single_word t p = is-single-word t.lexeme (has t n.single_word p)

-- ---- names behind `#` and `.`

pub free_word : (t : Sure) → t.kind ≡ n.free_word → IsPlain (plain_name t.lexeme.bytes) t.lexeme
free_word t p = is-free-word t.lexeme (has t n.free_word p)

pub free_prefix : (t : Sure) → t.kind ≡ n.free_prefix → IsPrefix t.lexeme
free_prefix t p = let s = is-free-prefix t.lexeme (has t n.free_prefix p) in record { word = s.0; is_prefix = s.1 }

pub plain_prefix : (t : Lexeme) → IsPrefix t → IsPlain (plain_name t.bytes) t
plain_prefix t h = prefix-plain t (h.word, h.is_prefix)

pub free_numbered : (t : Sure) → t.kind ≡ n.free_numbered → IsNumbered (plain_name t.lexeme.bytes) t.lexeme
free_numbered t p = (is-free-numbered t.lexeme (has t n.free_numbered p)).is

pub quoted : (t : Sure) → t.kind ≡ n.quoted → IsQuoted (quoted_name t.lexeme.bytes) t.lexeme
quoted t p = (is-quoted t.lexeme (has t n.quoted p)).is

pub number : (t : Sure) → t.kind ≡ n.number → t.lexeme.kind ≡ k.Number
number t p = (is-number t.lexeme (has t n.number p)).is
