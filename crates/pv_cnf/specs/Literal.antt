-- Literals as numbers: 2v stands for variable v, and 2v + 1 for its negation.
use Rattle.std.specs.Prelude.{ℕ, Bool, not, ◌+◌, ◌-◌, ◌*◌, ◌/◌, ◌%◌, ◌==◌, ◌||◌, nat_lt, if◌then◌else◌}

-- the variable of a literal
abbrev pub variable_of : ℕ → ℕ
variable_of lit = lit / 2

-- whether it is the variable's negation
abbrev pub is_negated : ℕ → Bool
is_negated lit = lit % 2 == 1

-- the literal of the same variable with the other sign
abbrev pub complement : ℕ → ℕ
complement lit = 2 * variable_of lit + (1 - lit % 2)

-- whether a literal is true where the variables have these values
abbrev pub literal_value : (ℕ → Bool) → ℕ → Bool
literal_value values lit = if is_negated lit then not (values (variable_of lit)) else values (variable_of lit)

-- whether the variable of a literal is 0 or past the last of n
abbrev pub is_outside : ℕ → ℕ → Bool
is_outside n lit = (variable_of lit == 0) || nat_lt n (variable_of lit)
