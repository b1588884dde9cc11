-- what a table says: its grammar, and the sets and weights of lists of symbols
use Rattle.std.specs.Prelude.{ℕ, ◌+◌, ◌^◌, Bool, true, false, if◌then◌else◌, ◌&&◌, List, [], ◌∷◌, take, drop, map, slice_index_or, bit_or}
use Rattle.pv_ll.specs.declared.table.Symbol.{Symbol}
use Rattle.pv_ll.specs.declared.table.Symbol.TheVariants.{Token, Name}
use Rattle.pv_ll.specs.declared.table.Alternative.{Alternative}
use Rattle.pv_ll.specs.declared.table.Rule.{Rule}
use Rattle.pv_ll.specs.declared.table.Language.{Language}
use Rattle.pv_ll.specs.Grammar.{Grammar, Production, ◌⟶◌}

-- the items from one place up to another
abbrev pub part : {A : Type 0} → List A → ℕ → ℕ → List A
part xs from to = drop from (take to xs)

-- the symbols of an alternative
abbrev pub body_of : Language → Alternative → List Symbol
body_of l a = part l.symbols.now a.from a.to

abbrev pub production_of : Language → Alternative → Production
production_of l a = a.name ⟶ body_of l a

-- the grammar that a table holds: an alternative is a production
abbrev pub grammar_of : Language → Grammar
grammar_of l = map (production_of l) l.alternatives.now

-- what stands for a name that the table doesn't have
abbrev pub no_rule : Rule
no_rule = record { nullable = false; first = 0; follow = 0; weight = 0; from = 0; to = 0 }

abbrev pub rule : Language → ℕ → Rule
rule l n = slice_index_or l.rules.now n no_rule

-- all of the symbols may derive nothing
abbrev pub vanish : Language → List Symbol → Bool
vanish l [] = true
vanish l (Token t ∷ ss) = false
vanish l (Name n ∷ ss) = (rule l n).nullable && vanish l ss

-- the kinds that may come next before symbols behind which these kinds may come
abbrev pub next : Language → ℕ → List Symbol → ℕ
next l after [] = after
next l after (Token t ∷ ss) = 2 ^ t
next l after (Name n ∷ ss) = if (rule l n).nullable then bit_or (rule l n).first (next l after ss) else (rule l n).first

-- the weight of the names that may stand in front of the first token
abbrev pub front : Language → List Symbol → ℕ
front l [] = 0
front l (Token t ∷ ss) = 0
front l (Name n ∷ ss) = (rule l n).weight + (if (rule l n).nullable then front l ss else 0)
