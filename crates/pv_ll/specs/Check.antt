-- the test of a table, which the check computes: the grammar is LL(1), and the table's sets and weights serve it
use Rattle.std.specs.Prelude.{ℕ, zero, suc, ◌^◌, Bool, true, not, if◌then◌else◌, ◌&&◌, ◌||◌, ◌==◌, nat_lt, nat_le, List, [], ◌∷◌, length, bit_or, bit_and}
use Rattle.std.specs.List.{list_all}
use Rattle.std.specs.Int.{bit_at}
use Rattle.pv_ll.specs.declared.table.Symbol.{Symbol}
use Rattle.pv_ll.specs.declared.table.Symbol.TheVariants.{Token, Name}
use Rattle.pv_ll.specs.declared.table.Alternative.{Alternative}
use Rattle.pv_ll.specs.declared.table.Rule.{Rule}
use Rattle.pv_ll.specs.declared.table.Language.{Language}
use Rattle.pv_ll.specs.Table.{part, body_of, rule, vanish, next, front}

-- each kind of the first set is in the second
abbrev pub is_subset : ℕ → ℕ → Bool
is_subset x y = bit_or x y == y

-- a token of the language, or a name of the set
abbrev pub is_among : ℕ → ℕ → Symbol → Bool
is_among kinds names (Token t) = nat_lt t kinds
is_among kinds names (Name n) = bit_at names n == 1

-- a name lives as soon as all names of one of its bodies do; one round over the alternatives
abbrev pub one_round : Language → List Alternative → ℕ → ℕ
one_round l [] names = names
one_round l (a ∷ rest) names =
    one_round l rest (if list_all (is_among l.kinds names) (body_of l a) then bit_or names (2 ^ a.name) else names)

abbrev pub rounds : Language → ℕ → ℕ
rounds l zero = 0
rounds l (suc n) = one_round l l.alternatives.now (rounds l n)

-- the names that derive some list of tokens; after as many rounds as there are names no more come
abbrev pub live_names : Language → ℕ
live_names l = rounds l (length l.rules.now)

-- what may come behind each name of a body is in its follow set
abbrev pub are_followed : Language → ℕ → List Symbol → Bool
are_followed l after [] = true
are_followed l after (Token t ∷ ss) = are_followed l after ss
are_followed l after (Name n ∷ ss) = is_subset (next l after ss) (rule l n).follow && are_followed l after ss

-- one alternative serves: what can come next takes it, the sets of its name have what it adds, and the weight falls
abbrev pub serves : Language → ℕ → Alternative → Bool
serves l live a =
    let r : Rule = rule l a.name in
    let body : List Symbol = body_of l a in
    is_subset (next l r.follow body) a.when
    && is_subset (next l 0 body) r.first
    && (not (vanish l body) || r.nullable)
    && are_followed l r.follow body
    && nat_lt (front l body) r.weight
    && list_all (is_among l.kinds live) body

-- no next token takes two alternatives of one name
abbrev pub is_apart : Alternative → Alternative → Bool
is_apart a b = not (a.name == b.name) || (bit_and a.when b.when == 0)

abbrev pub are_apart : List Alternative → Bool
are_apart [] = true
are_apart (a ∷ rest) = list_all (is_apart a) rest && are_apart rest

-- the alternatives from number k on lie in the parts of their names
abbrev pub are_placed : Language → ℕ → List Alternative → Bool
are_placed l k [] = true
are_placed l k (a ∷ rest) =
    nat_le (rule l a.name).from k && nat_lt k (rule l a.name).to && are_placed l (suc k) rest

-- the part of each name, from name n on, has alternatives of this name alone
abbrev pub own_their_parts : Language → ℕ → List Rule → Bool
own_their_parts l n [] = true
own_their_parts l n (r ∷ rest) =
    nat_le r.to (length l.alternatives.now)
    && list_all (λ (a : Alternative). a.name == n) (part l.alternatives.now r.from r.to)
    && own_their_parts l (suc n) rest

-- the table is that of an LL(1) grammar
abbrev pub is_ll1 : Language → Bool
is_ll1 l =
    let live : ℕ = live_names l in
    nat_lt l.kinds 128
    && (bit_at (rule l l.start).follow l.kinds == 1)
    && (bit_at live l.start == 1)
    && list_all (serves l live) l.alternatives.now
    && are_apart l.alternatives.now
    && are_placed l 0 l.alternatives.now
    && own_their_parts l 0 l.rules.now
