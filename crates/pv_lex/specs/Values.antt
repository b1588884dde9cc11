-- The values of numbers.
use Rattle.std.specs.Prelude.{ℕ, ℤ, pos, ◌-ℤ◌, ◌+◌, ◌-◌, ◌*◌, ◌^◌, Bool, ◌&&◌, ◌||◌, nat_lt, ◌==◌, if◌then◌else◌, List, [], ◌∷◌, drop, take}
use Rattle.std.specs.List.{list_any, prefix_len}
use Rattle.std.specs.Char.{is_ascii_digit}
use Rattle.pv_lex.specs.declared.class.Class.TheVariants as c
use Rattle.pv_lex.specs.declared.token.Kind.{Kind}
use Rattle.pv_lex.specs.declared.token.Kind.TheVariants as k
use Rattle.pv_lex.specs.Classes.{is_word_byte}
use Rattle.pv_lex.specs.Shapes.{begins, is_one_of, time_prefixes, decimal_prefixes, hex_prefixes}

-- the number that a digit stands for
abbrev pub digit_value : ℕ → ℕ
digit_value b = if nat_lt b 65 then b - 48 else (if nat_lt b 97 then b - 55 else b - 87)

-- what isn't a digit: a sign before a number, and `_` in it
abbrev pub is_silent : ℕ → Bool
is_silent b = b == 95 || b == 43 || b == 45

-- the number n with this byte behind it
abbrev pub with_byte : ℕ → ℕ → ℕ → ℕ
with_byte base n b = if is_silent b then n else n * base + digit_value b

-- the number that these digits, of this base, make behind those of n
abbrev pub value_behind : ℕ → ℕ → List ℕ → ℕ
value_behind base n [] = n
value_behind base n (b ∷ others) = value_behind base (with_byte base n b) others

-- the milliseconds of a unit, by its letter; an m before an s is the unit of milliseconds
abbrev pub unit_value : ℕ → List ℕ → ℕ
unit_value b others =
    if b == 68 || b == 100 then 86400000
    else (if b == 72 || b == 104 then 3600000
    else (if (b == 77 || b == 109) && begins (c.Either 83 115) others then 1
    else (if b == 77 || b == 109 then 60000 else 1000)))

-- the milliseconds of a duration: each part's number times its unit; n is the number of the digits
-- before these bytes. The s of ms has no number before it
abbrev pub time_behind : ℕ → List ℕ → ℕ
time_behind n [] = n
time_behind n (b ∷ others) =
    if is_silent b then time_behind n others
    else (if is_ascii_digit b then time_behind (with_byte 10 n b) others
    else n * unit_value b others + time_behind 0 others)

-- the base that the digits before a `#` name
abbrev pub base_of : List ℕ → ℕ
base_of digits =
    if begins (c.Byte 50) digits then 2 else (if begins (c.Byte 56) digits then 8 else 16)

-- the magnitude of the number that this word begins, a `#` and these bytes being behind it
unfoldable pub body_magnitude : List ℕ → List ℕ → ℕ
body_magnitude prefix body =
    if is_one_of time_prefixes prefix then time_behind 0 body
    else (if is_one_of decimal_prefixes prefix then value_behind 10 0 body
    else (if is_one_of hex_prefixes prefix then value_behind 16 0 (drop 3 body)
    else value_behind (base_of prefix) 0 body))

-- the magnitude of a number
unfoldable pub magnitude : List ℕ → ℕ
magnitude bytes =
    let len = prefix_len is_word_byte bytes in
    if begins (c.Byte 35) (drop len bytes)
    then body_magnitude (take len bytes) (drop 1 (drop len bytes))
    else value_behind 10 0 bytes

-- a number has a minus sign
abbrev pub is_negative : List ℕ → Bool
is_negative bytes = list_any (λ b. b == 45) bytes

-- the value of a number
unfoldable pub number_value : List ℕ → ℤ
number_value bytes =
    if is_negative bytes then pos 0 -ℤ pos (magnitude bytes) else pos (magnitude bytes)

-- the value that a token has: that of a number of at most 64 bits, else 0
abbrev pub token_value : Kind → List ℕ → ℤ
token_value k.Number bytes = if nat_lt (magnitude bytes) (2 ^ 64) then number_value bytes else pos 0
token_value _ bytes = pos 0

-- the number that these decimal digits make where it has at most 64 bits, else 0; no token has a greater one
abbrev pub fitting_value : List ℕ → ℕ
fitting_value digits =
    if nat_lt (value_behind 10 0 digits) (2 ^ 64) then value_behind 10 0 digits else 0

-- the number of the digits since the last byte that is none
abbrev pub with_run_byte : ℕ → ℕ → ℕ
with_run_byte n b = if is_ascii_digit b then n * 10 + digit_value b else 0

-- each run of decimal digits is a number of at most 64 bits; n is that of the digits before these
-- bytes
abbrev pub runs_fit : ℕ → List ℕ → Bool
runs_fit n [] = nat_lt n (2 ^ 64)
runs_fit n (b ∷ others) = nat_lt n (2 ^ 64) && runs_fit (with_run_byte n b) others
