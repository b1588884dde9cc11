-- a sample language: assignments of expressions with parentheses and two priorities, as `a := b AND (c OR d) ;`
use Rattle.std.specs.Prelude.{ℕ, [], ◌∷◌}
use Rattle.pv_ll.specs.declared.table.Symbol.TheVariants.{Token, Name}
use Rattle.pv_ll.specs.Grammar.{Grammar, ◌⟶◌}

-- the kinds of tokens
abbrev pub ident : ℕ
ident = 0

abbrev pub assign : ℕ
assign = 1

abbrev pub semicolon : ℕ
semicolon = 2

abbrev pub left_paren : ℕ
left_paren = 3

abbrev pub right_paren : ℕ
right_paren = 4

abbrev pub or_sign : ℕ
or_sign = 5

abbrev pub and_sign : ℕ
and_sign = 6

-- names
abbrev pub program : ℕ
program = 0

abbrev pub statement : ℕ
statement = 1

abbrev pub expression : ℕ
expression = 2

abbrev pub or_tail : ℕ
or_tail = 3

abbrev pub conjunct : ℕ
conjunct = 4

abbrev pub and_tail : ℕ
and_tail = 5

abbrev pub atom : ℕ
atom = 6

-- its productions
abbrev pub sample_grammar : Grammar
sample_grammar =
    (program ⟶ Name statement ∷ Name program ∷ []) ∷
    (program ⟶ []) ∷
    (statement ⟶ Token ident ∷ Token assign ∷ Name expression ∷ Token semicolon ∷ []) ∷
    (expression ⟶ Name conjunct ∷ Name or_tail ∷ []) ∷
    (or_tail ⟶ Token or_sign ∷ Name conjunct ∷ Name or_tail ∷ []) ∷
    (or_tail ⟶ []) ∷
    (conjunct ⟶ Name atom ∷ Name and_tail ∷ []) ∷
    (and_tail ⟶ Token and_sign ∷ Name atom ∷ Name and_tail ∷ []) ∷
    (and_tail ⟶ []) ∷
    (atom ⟶ Token ident ∷ []) ∷
    (atom ⟶ Token left_paren ∷ Name expression ∷ Token right_paren ∷ []) ∷
    []
