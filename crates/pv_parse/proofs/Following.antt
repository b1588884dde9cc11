-- What a second making makes of a text where it follows the first one at the alternatives of some names, from which no other
-- names are reached.
use Rattle.std.proofs.Common.{◌≡◌, ℕ, suc, zero, ◌<◌, Bool, true, ◌&&◌, List, [], ◌∷◌, ◌++◌, map, length, Some, refl, ◌∙◌, sym, subst, arith}
use Rattle.std.specs.Prelude.{slice_index_or}
use Rattle.std.specs.List.{list_all}
use Rattle.std.proofs.lemmas.Bool.{and_parts}
use Rattle.pv_ll.specs.declared.table.Symbol.{Symbol}
use Rattle.pv_ll.specs.declared.table.Symbol.TheVariants.{Token, Name}
use Rattle.pv_ll.specs.Grammar.{Grammar, IsProduction}
use Rattle.pv_ll.specs.Making.{Making, Runs}
use Rattle.pv_ll.specs.Making.Runs.{none, leaf, node}

-- symbols whose names are among these
abbrev pub are_among : (ℕ → Bool) → List Symbol → Bool
are_among inner [] = true
are_among inner (Token t ∷ ss) = are_among inner ss
are_among inner (Name n ∷ ss) = inner n && are_among inner ss

-- an alternative whose body is of these names, and whose action the second making follows
pub record IsFollowed {T V W : Type 0} (f : V → W) (m : Making T V) (n : Making T W) (inner : ℕ → Bool) (k : ℕ) (body : List Symbol) : Type 0 where
  pub among : are_among inner body ≡ true
  pub reduces : (s left : List V) → m.reduce k s ≡ Some left → n.reduce k (map f s) ≡ Some (map f left)

pub followed_among : {T V W : Type 0} {g : Grammar} {m : Making T V} {n : Making T W} (f : V → W) (inner : ℕ → Bool) → ((t : T) → n.kind t ≡ m.kind t)
    → ((t : T) → n.leaf t ≡ f (m.leaf t))
    → ((k nm : ℕ) (body : List Symbol) → IsProduction g k nm body → inner nm ≡ true → IsFollowed f m n inner k body)
    → {ss : List Symbol} {ts : List T} {s behind : List V} → are_among inner ss ≡ true → Runs g m ss ts s behind
    → Runs g n ss ts (map f s) (map f behind)
followed_among f inner kinds leaves each h none = none
followed_among {T} {V} {W} {g} {m} {n} f inner kinds leaves each {ss} {ts} {s} {behind} h (leaf {k = k} {t = t} {ss = others} {ts = us} p r) =
    leaf (kinds t ∙ p)
    (subst (λ (z : W). Runs g n others us (z ∷ map f s) (map f behind)) (sym (leaves t)) (followed_among f inner kinds leaves each h r))
followed_among f inner kinds leaves each h (node {n = nm} {ss = others} {body = body} {s = s} {inner = inside} {left = left} k p d r e w) =
    let both = and_parts (inner nm) (are_among inner others) h in
    let x = each k nm body p both.0 in
    node k p (followed_among f inner kinds leaves each x.among d) (x.reduces inside left r) (followed_among f inner kinds leaves each both.1 e) w

-- ---- lists with others behind them

pub front_item : {X : Type 0} (front rest : List X) (k : ℕ) (d : X) → k < length front → slice_index_or (front ++ rest) k d ≡ slice_index_or front k d
front_item [] rest k d h = absurd (omega (arith, h))
front_item (x ∷ front) rest zero d h = refl
front_item (x ∷ front) rest (suc k) d h = front_item front rest k d (omega (arith, h))

pub all_items : {X : Type 0} (test : X → Bool) (xs : List X) (k : ℕ) (d : X) → list_all test xs ≡ true → k < length xs → test (slice_index_or xs k d) ≡ true
all_items test [] k d h lt = absurd (omega (arith, lt))
all_items test (x ∷ xs) zero d h lt = (and_parts (test x) (list_all test xs) h).0
all_items test (x ∷ xs) (suc k) d h lt = all_items test xs k d (and_parts (test x) (list_all test xs) h).1 (omega (arith, lt))
