-- The text: the copies in the order in which they stand, and the place of each. By recursion on the loops, outermost first: what stands
-- before the loop, the copies of what is in it, its first location once more where entering starts no turn, where the bound is gone
-- over, what stands behind. Sizes and places go the same way, on numbers: each copy of location l takes `w l`, and what is gone over
-- takes `o`. So locations, edges and steps are counted alike.
use Rattle.std.specs.Prelude.{◌≡◌, ℕ, zero, suc, ◌+◌, ◌*◌, ◌<◌, ◌≤◌, ◌⊎◌, List, [], ◌∷◌, ◌++◌, map, Bool as Truth, true, false, not, ◌&&◌, ◌||◌, ◌==◌, nat_le, nat_lt, cond}
use Rattle.std.specs.List.{list_any}
use Rattle.pv_flow.specs.Automata.{Loop, TrapEnd, Parts, holds}
use Rattle.pv_copies.specs.Copies.{Copy, copy, beyond, location_of, numbers_of, within, front, back, taken_out}

-- the range from a on, below b, has the loop's
abbrev pub fits : Loop → ℕ → ℕ → Truth
fits loop a b = nat_le a loop.first && nat_lt loop.last b

-- ---- the text

-- copies of the locations from a on, below b, of which `stands` is true
abbrev pub plain : (ℕ → Truth) → ℕ → ℕ → List Copy
plain stands a zero = []
plain stands a (suc b) = cond (nat_le a b) (plain stands a b ++ cond (stands b) (copy b [] ∷ []) []) []

-- so many copies of what is in a loop
abbrev pub rounds : ℕ → List Copy → List Copy
rounds zero inner = []
rounds (suc n) inner = rounds n inner ++ map (within n) inner

-- the first location once more
abbrev pub once_more : ℕ → Loop → List Copy
once_more n loop = cond loop.entry_turn [] (copy loop.first (n ∷ []) ∷ [])

-- of the locations from a on, below b
abbrev pub text : (ℕ → Truth) → ℕ → List Loop → ℕ → ℕ → List Copy
text stands n [] a b = plain stands a b
text stands n (loop ∷ loops) a b = cond (fits loop a b)
    (text stands n loops a loop.first ++ (rounds n (text stands n loops loop.first (suc loop.last))
    ++ (once_more n loop ++ (beyond loop [] ∷ text stands n loops (suc loop.last) b))))
    (text stands n loops a b)

-- ---- sizes and places

-- what the locations from a on, below b, take together
abbrev pub total : (ℕ → ℕ) → ℕ → ℕ → ℕ
total w a zero = 0
total w a (suc b) = cond (nat_le a b) (total w a b + w b) 0

-- what the first location takes once more
abbrev pub once : (ℕ → ℕ) → Loop → ℕ
once w loop = cond loop.entry_turn 0 (w loop.first)

-- what the text of the locations from a on, below b, takes
abbrev pub size : (ℕ → ℕ) → ℕ → ℕ → List Loop → ℕ → ℕ → ℕ
size w o n [] a b = total w a b
size w o n (loop ∷ loops) a b = cond (fits loop a b)
    (size w o n loops a loop.first + n * size w o n loops loop.first (suc loop.last) + once w loop + o
    + size w o n loops (suc loop.last) b)
    (size w o n loops a b)

-- where a copy in a loop stands, by its numbers, from the loop's beginning on: what is gone over stands behind all turns
abbrev pub place_in : ℕ → ℕ → ℕ → List ℕ → ℕ → ℕ
place_in n turn extra [] inner = n * turn + extra
place_in n turn extra (k ∷ ks) inner = k * turn + inner

-- by whether it stands before the loop, and whether behind it
abbrev pub place_by : Truth → Truth → ℕ → ℕ → ℕ → ℕ
place_by true behind earlier here later = earlier
place_by false true earlier here later = later
place_by false false earlier here later = here

-- where a copy stands among those of the locations from a on, below b: how much is taken before it
abbrev pub place : (ℕ → ℕ) → ℕ → ℕ → List Loop → ℕ → ℕ → Copy → ℕ
place w o n [] a b c = total w a (location_of c)
place w o n (loop ∷ loops) a b c = cond (fits loop a b)
    (place_by (nat_lt (location_of c) loop.first) (nat_lt loop.last (location_of c))
    (place w o n loops a loop.first c)
    (size w o n loops a loop.first + place_in n (size w o n loops loop.first (suc loop.last)) (once w loop) (numbers_of c)
    (place w o n loops loop.first (suc loop.last) (taken_out c)))
    (size w o n loops a loop.first + n * size w o n loops loop.first (suc loop.last) + once w loop + o
    + place w o n loops (suc loop.last) b c))
    (place w o n loops a b c)

-- the copy of the same location, or of what is gone over, in the first turn of each loop around it
abbrev pub first_of_kind : Copy → Copy
first_of_kind (copy l ks) = copy l (map (λ k. 0) ks)
first_of_kind (beyond loop ks) = beyond loop (map (λ k. 0) ks)

-- what all turns take that stand before the one of these numbers, of each loop that holds location l
abbrev pub turns_before : (ℕ → ℕ) → ℕ → ℕ → List Loop → ℕ → List ℕ → ℕ
turns_before w o n [] l ks = 0
turns_before w o n (loop ∷ loops) l ks = cond (holds loop l)
    (front ks * size w o n loops loop.first (suc loop.last) + turns_before w o n loops l (back ks))
    (turns_before w o n loops l ks)

-- ---- which copies there are

-- of what is in a loop: one for each turn, and the first location once more where entering starts no turn; without a number, where the
-- loop's bound is gone over
abbrev pub IsInner : ℕ → Loop → Copy → List ℕ → Type 0 → Type 0
IsInner n loop c [] Rest = c ≡ beyond loop []
IsInner n loop c (k ∷ ks) Rest = Rest × ((k < n) ⊎ ((loop.entry_turn ≡ false) × (c ≡ copy loop.first (n ∷ []))))

-- by whether it stands before the loop, and whether behind it
abbrev pub IsCopyBy : Truth → Truth → Type 0 → Type 0 → Type 0 → Type 0
IsCopyBy true behind Earlier Here Later = Earlier
IsCopyBy false true Earlier Here Later = Later
IsCopyBy false false Earlier Here Later = Here

abbrev pub IsCopyIn : Truth → Type 0 → Type 0 → Type 0
IsCopyIn true In Out = In
IsCopyIn false In Out = Out

-- it is one of the copies of the locations from a on, below b
abbrev pub IsCopy : ℕ → List Loop → ℕ → ℕ → Copy → Type 0
IsCopy n [] a b c = (a ≤ location_of c) × (location_of c < b) × (c ≡ copy (location_of c) [])
IsCopy n (loop ∷ loops) a b c = IsCopyIn (fits loop a b)
    (IsCopyBy (nat_lt (location_of c) loop.first) (nat_lt loop.last (location_of c))
    (IsCopy n loops a loop.first c)
    (IsInner n loop c (numbers_of c) (IsCopy n loops loop.first (suc loop.last) (taken_out c)))
    (IsCopy n loops (suc loop.last) b c))
    (IsCopy n loops a b c)

-- ---- what is counted

-- the location where a scan is done and those of traps stand behind the text: each copy of an edge to a trap has a location of its own
abbrev pub stands_in : Parts → ℕ → Truth
stands_in p l = not ((p.done == l) || list_any (λ (trap : TrapEnd). trap.location == l) p.traps)

-- one for each location of which it is true
abbrev pub one_each : (ℕ → Truth) → ℕ → ℕ
one_each stands l = cond (stands l) 1 0

-- a copy of a location that stands in the text, or where a bound is gone over
abbrev pub Stands : (ℕ → Truth) → Copy → Type 0
Stands stands (copy l ks) = stands l ≡ true
Stands stands (beyond loop ks) = Unit {0}
