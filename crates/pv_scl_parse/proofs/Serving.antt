-- What kind a token has by what it is, as derivations ask for it: where it isn't directly behind `#` or `.`, and behind them.
use Rattle.std.proofs.Common.{◌≡◌, false, refl}
use Rattle.pv_lex.specs.declared.token.Kind.TheVariants as k
use Rattle.pv_types.specs.declared.name.Name.{Name}
use Rattle.pv_tree.specs.Lexemes.{Lexeme, IsSign, IsWord}
use Rattle.pv_tree.specs.Words.{IsQuoted}
use Rattle.pv_parse.specs.KindNumbers as n
use Rattle.pv_parse.specs.Kinds.{marks}
use Rattle.pv_parse.proofs.ForCallers.{Serves, Marks, by_kind, word_marks, sign_marks, kind-value, kind-exit, kind-continue, kind-return, kind-hash, kind-dot, kind-comma, kind-paren-open, kind-paren-close, kind-bracket-open, kind-bracket-close, kind-assign, kind-arrow, kind-semicolon, kind-colon, kind-dots, kind-if-word, kind-then-word, kind-elsif-word, kind-else-word, kind-end-if, kind-case-word, kind-of-word, kind-end-case, kind-for-word, kind-to-word, kind-by-word, kind-do-word, kind-end-for, kind-while-word, kind-end-while, kind-repeat-word, kind-until-word, kind-end-repeat}

pub hash : (t : Lexeme) → IsSign "#" t → Marks n.hash t
hash t h = record { is = kind-hash t false h; mark = sign_marks "#" t h }

pub dot : (t : Lexeme) → IsSign "." t → Marks n.dot t
dot t h = record { is = kind-dot t false h; mark = sign_marks "." t h }

pub comma : (t : Lexeme) → IsSign "," t → Serves n.comma t
comma t h = record { is = kind-comma t false h; plain = sign_marks "," t h }

pub paren_open : (t : Lexeme) → IsSign "(" t → Serves n.paren_open t
paren_open t h = record { is = kind-paren-open t false h; plain = sign_marks "(" t h }

pub paren_close : (t : Lexeme) → IsSign ")" t → Serves n.paren_close t
paren_close t h = record { is = kind-paren-close t false h; plain = sign_marks ")" t h }

pub bracket_open : (t : Lexeme) → IsSign "[" t → Serves n.bracket_open t
bracket_open t h = record { is = kind-bracket-open t false h; plain = sign_marks "[" t h }

pub bracket_close : (t : Lexeme) → IsSign "]" t → Serves n.bracket_close t
bracket_close t h = record { is = kind-bracket-close t false h; plain = sign_marks "]" t h }

pub assign : (t : Lexeme) → IsSign ":=" t → Serves n.assign t
assign t h = record { is = kind-assign t false h; plain = sign_marks ":=" t h }

pub arrow : (t : Lexeme) → IsSign "=>" t → Serves n.arrow t
arrow t h = record { is = kind-arrow t false h; plain = sign_marks "=>" t h }

pub semicolon : (t : Lexeme) → IsSign ";" t → Serves n.semicolon t
semicolon t h = record { is = kind-semicolon t false h; plain = sign_marks ";" t h }

pub colon : (t : Lexeme) → IsSign ":" t → Serves n.colon t
colon t h = record { is = kind-colon t false h; plain = sign_marks ":" t h }

pub dots : (t : Lexeme) → IsSign ".." t → Serves n.dots t
dots t h = record { is = kind-dots t false h; plain = sign_marks ".." t h }

pub if_word : (t : Lexeme) → IsWord "IF" t → Serves n.if_word t
if_word t h = record { is = kind-if-word t h; plain = word_marks t h.kind }

pub then_word : (t : Lexeme) → IsWord "THEN" t → Serves n.then_word t
then_word t h = record { is = kind-then-word t h; plain = word_marks t h.kind }

pub elsif_word : (t : Lexeme) → IsWord "ELSIF" t → Serves n.elsif_word t
elsif_word t h = record { is = kind-elsif-word t h; plain = word_marks t h.kind }

pub else_word : (t : Lexeme) → IsWord "ELSE" t → Serves n.else_word t
else_word t h = record { is = kind-else-word t h; plain = word_marks t h.kind }

pub end_if : (t : Lexeme) → IsWord "END_IF" t → Serves n.end_if t
end_if t h = record { is = kind-end-if t h; plain = word_marks t h.kind }

pub case_word : (t : Lexeme) → IsWord "CASE" t → Serves n.case_word t
case_word t h = record { is = kind-case-word t h; plain = word_marks t h.kind }

pub of_word : (t : Lexeme) → IsWord "OF" t → Serves n.of_word t
of_word t h = record { is = kind-of-word t h; plain = word_marks t h.kind }

pub end_case : (t : Lexeme) → IsWord "END_CASE" t → Serves n.end_case t
end_case t h = record { is = kind-end-case t h; plain = word_marks t h.kind }

pub for_word : (t : Lexeme) → IsWord "FOR" t → Serves n.for_word t
for_word t h = record { is = kind-for-word t h; plain = word_marks t h.kind }

pub to_word : (t : Lexeme) → IsWord "TO" t → Serves n.to_word t
to_word t h = record { is = kind-to-word t h; plain = word_marks t h.kind }

pub by_word : (t : Lexeme) → IsWord "BY" t → Serves n.by_word t
by_word t h = record { is = kind-by-word t h; plain = word_marks t h.kind }

pub do_word : (t : Lexeme) → IsWord "DO" t → Serves n.do_word t
do_word t h = record { is = kind-do-word t h; plain = word_marks t h.kind }

pub end_for : (t : Lexeme) → IsWord "END_FOR" t → Serves n.end_for t
end_for t h = record { is = kind-end-for t h; plain = word_marks t h.kind }

pub while_word : (t : Lexeme) → IsWord "WHILE" t → Serves n.while_word t
while_word t h = record { is = kind-while-word t h; plain = word_marks t h.kind }

pub end_while : (t : Lexeme) → IsWord "END_WHILE" t → Serves n.end_while t
end_while t h = record { is = kind-end-while t h; plain = word_marks t h.kind }

pub repeat_word : (t : Lexeme) → IsWord "REPEAT" t → Serves n.repeat_word t
repeat_word t h = record { is = kind-repeat-word t h; plain = word_marks t h.kind }

pub until_word : (t : Lexeme) → IsWord "UNTIL" t → Serves n.until_word t
until_word t h = record { is = kind-until-word t h; plain = word_marks t h.kind }

pub end_repeat : (t : Lexeme) → IsWord "END_REPEAT" t → Serves n.end_repeat t
end_repeat t h = record { is = kind-end-repeat t h; plain = word_marks t h.kind }

pub exit_word : (t : Lexeme) → IsWord "EXIT" t → Serves n.single_word t
exit_word t h = record { is = kind-exit t h; plain = word_marks t h.kind }

pub continue_word : (t : Lexeme) → IsWord "CONTINUE" t → Serves n.single_word t
continue_word t h = record { is = kind-continue t h; plain = word_marks t h.kind }

pub return_word : (t : Lexeme) → IsWord "RETURN" t → Serves n.single_word t
return_word t h = record { is = kind-return t h; plain = word_marks t h.kind }

pub number : (t : Lexeme) → t.kind ≡ k.Number → Serves n.number t
number t e = record { is = kind-value t.value t false (record { kind = e; valued = refl }); plain = by_kind k.Number t e refl }

-- ---- behind `#` and `.`

pub quoted_marks : (x : Name) (t : Lexeme) → IsQuoted x t → marks t ≡ false
quoted_marks x t h = by_kind k.Quoted t h.kind refl
