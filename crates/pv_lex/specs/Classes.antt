-- Classes of bytes, which the shapes of tokens are made of.
use Rattle.std.specs.Prelude.{ℕ, Bool, false, ◌&&◌, ◌||◌, not, nat_le, ◌==◌}
use Rattle.std.specs.Char.{is_ascii_alphabetic, is_ascii_alphanumeric, is_ascii_digit}
use Rattle.pv_lex.specs.declared.class.Class.{Class}
use Rattle.pv_lex.specs.declared.class.Class.TheVariants as c

-- blank, tab, carriage return, line feed and form feed
abbrev pub is_space : ℕ → Bool
is_space b = b == 32 || b == 9 || b == 13 || b == 10 || b == 12

-- blank and tab
abbrev pub is_blank : ℕ → Bool
is_blank b = b == 32 || b == 9

-- an ASCII letter or `_`
abbrev pub is_letter : ℕ → Bool
is_letter b = is_ascii_alphabetic b || b == 95

-- an ASCII letter, a digit or `_`
abbrev pub is_word_byte : ℕ → Bool
is_word_byte b = is_ascii_alphanumeric b || b == 95

-- a hexadecimal digit
abbrev pub is_hex : ℕ → Bool
is_hex b = is_ascii_digit b || (nat_le 65 b && nat_le b 70) || (nat_le 97 b && nat_le b 102)

-- I, Q and M, the areas of addresses
abbrev pub is_area : ℕ → Bool
is_area b = b == 73 || b == 105 || b == 81 || b == 113 || b == 77 || b == 109

-- B, W and D, the widths of addresses
abbrev pub is_width : ℕ → Bool
is_width b = b == 66 || b == 98 || b == 87 || b == 119 || b == 68 || b == 100

-- + - * / < and >, which STL writes with a type behind them
abbrev pub is_step : ℕ → Bool
is_step b = b == 43 || b == 45 || b == 42 || b == 47 || b == 60 || b == 62

-- ( ) [ and ]
abbrev pub is_bracket : ℕ → Bool
is_bracket b = b == 40 || b == 41 || b == 91 || b == 93

-- = & : ; , . and #
abbrev pub is_mark : ℕ → Bool
is_mark b = b == 61 || b == 38 || b == 58 || b == 59 || b == 44 || b == 46 || b == 35

-- the signs of one byte
abbrev pub is_sign : ℕ → Bool
is_sign b = is_step b || is_bracket b || is_mark b

-- the byte is of the class
abbrev pub has : Class → ℕ → Bool
has (c.Byte other) b = b == other
has (c.Either one other) b = b == one || b == other
has c.Space b = is_space b
has c.Blank b = is_blank b
has c.Letter b = is_letter b
has c.WordByte b = is_word_byte b
has c.WordEnd b = not (is_word_byte b || b == 10)
has c.Digit b = is_ascii_digit b
has c.Hex b = is_hex b
has c.Octal b = nat_le 48 b && nat_le b 55
has c.Area b = is_area b
has c.Width b = is_width b
has c.Quotable b = not (b == 34 || b == 10)
has c.Braced b = not (b == 125)
has c.Inline b = not (b == 10)
has c.Sign b = is_sign b
has c.Step b = is_step b
has c.Type b = b == 73 || b == 105 || b == 68 || b == 100
has c.Nothing b = false
