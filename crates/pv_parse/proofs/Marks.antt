-- Places by depth are those of the parts: at each depth that matters the place of the first part that has so many above it.
use Rattle.std.proofs.Common.{◌≡◌, inl, inr, ℕ, zero, suc, ◌+◌, ◌≤◌, ◌==◌, Bool, true, false, List, [], ◌∷◌, ◌++◌, Option, Some, None, refl, ap, ◌∙◌, sym, subst, arith}
use Rattle.std.specs.List.{slice_get}
use Rattle.std.specs.Option.{option_or}
use Rattle.std.proofs.lemmas.Option.{same_Some}
use Rattle.std.proofs.lemmas.Bool.{eqb-true, eqb-false, eq-eqb, ne_eqb, true≢false}
use Rattle.pv_place.specs.declared.place.Place.{Place}
use Rattle.pv_tree.specs.Lexemes.{Lexeme}
use Rattle.pv_tree.specs.Nesting.{Part, part, most_levels}
use Rattle.pv_tree.specs.Order.{Along, done, here, onward, HasAbove, HasPart}
use Rattle.pv_tree.specs.Depth.{IsShallow, IsDeepest}
use Rattle.pv_parse.specs.Shades.{merged, all, part_places}
use Rattle.pv_parse.specs.InOrder.{LieInOrder}
use Rattle.pv_parse.proofs.Merging.{merged-nil, get-merged, get-take}

-- the place of this part, or another one
abbrev pub this_or : Bool → Place → Option Place → Option Place
this_or true p other = Some p
this_or false p other = other

-- the place of the first part that has so many above it
abbrev pub first_above : ℕ → List Part → Option Place
first_above m [] = None
first_above m (p ∷ ps) = this_or (p.above == m) p.first (first_above m ps)

pub above-both : (m : ℕ) (ps qs : List Part) → first_above m (ps ++ qs) ≡ option_or (first_above m ps) (first_above m qs)
above-both m [] qs = refl
above-both m (p ∷ ps) qs = either (p.above == m) (above-both m ps qs)
  where
    either : (b : Bool) → first_above m (ps ++ qs) ≡ option_or (first_above m ps) (first_above m qs)
        → this_or b p.first (first_above m (ps ++ qs)) ≡ option_or (this_or b p.first (first_above m ps)) (first_above m qs)
    either true e = refl
    either false e = e

-- the places are those of parts that begin at this depth
abbrev pub Marks : List Place → ℕ → List Part → Type 0
Marks xs n ps = (d : ℕ) → d ≤ most_levels → slice_get xs d ≡ first_above (n + d) ps

pub marks_none : (n : ℕ) → Marks [] n []
marks_none n d h = refl

pub marks_both : (n : ℕ) (xs ys : List Place) (ps qs : List Part) → Marks xs n ps → Marks ys n qs → Marks (merged xs ys) n (ps ++ qs)
marks_both n xs ys ps qs f g d h =
    get-merged xs ys d ∙ ap (λ (o : Option Place). option_or o (slice_get ys d)) (f d h)
    ∙ ap (λ (o : Option Place). option_or (first_above (n + d) ps) o) (g d h) ∙ sym (above-both (n + d) ps qs)

pub marks_one : (n : ℕ) (xs : List Place) (ps : List Part) → Marks xs n ps → Marks (all (xs ∷ [])) n ps
marks_one n xs ps f = subst (λ (z : List Place). Marks z n ps) (sym (merged-nil xs)) f

pub marks_two : (n : ℕ) (xs ys : List Place) (ps qs : List Part) → Marks xs n ps → Marks ys n qs → Marks (all (xs ∷ ys ∷ [])) n (ps ++ qs)
marks_two n xs ys ps qs f g = marks_both n xs (all (ys ∷ [])) ps qs f (marks_one n ys qs g)

-- a part, and what is in it
this_here : (b : Bool) (p : Place) (o : Option Place) → b ≡ true → this_or b p o ≡ Some p
this_here true p o e = refl
this_here false p o e = absurd (true≢false (sym e))

not_here : (b : Bool) (p : Place) (o : Option Place) → b ≡ false → this_or b p o ≡ o
not_here false p o e = refl
not_here true p o e = absurd (true≢false e)

pub marks_part : (n : ℕ) (p : Place) (xs : List Place) (ps : List Part) → Marks xs (suc n) ps → Marks (part_places p xs) n (part n p ∷ ps)
marks_part n p xs ps f zero h = sym (this_here (n == n + 0) p (first_above (n + 0) ps) (eq-eqb n (n + 0) (omega arith)))
marks_part n p xs ps f (suc d) h =
    let deeper : n + suc d ≡ suc n + d = omega arith in
    get-take (suc most_levels) (suc d) (p ∷ xs) (omega (arith, h))
    ∙ f d (omega (arith, h))
    ∙ ap (λ (m : ℕ). first_above m ps) (sym deeper)
    ∙ sym (not_here (n == n + suc d) p (first_above (n + suc d) ps) (ne_eqb n (n + suc d) (λ e. omega (arith, e))))

-- ---- the first of the parts that are too deep, in the order of the tokens, has the least place

-- each part begins no earlier than the tokens do
parts_behind : (at m : ℕ) (q : Place) (ts : List Lexeme) (ps : List Part) → LieInOrder at ts → Along ts ps → HasPart ps (part m q) → at ≤ q.offset
parts_behind at m q ts ps o (done _) h = absurd h
parts_behind at m q ts ps o (here t us p more e a) (inl same) =
    omega (arith, o.0, ap (λ (z : Place). z.offset) e, ap (λ (z : Part). z.first.offset) same)
parts_behind at m q ts ps o (here t us p more e a) (inr h) = parts_behind at m q (t ∷ us) more o a h
parts_behind at m q ts ps o (onward t us all_ a) h =
    let below : t.place.offset ≤ q.offset = parts_behind t.place.offset m q us all_ o.1 a h in
    omega (arith, o.0, below)

-- the first of those that have so many above them
pub record IsFirst (m : ℕ) (ps : List Part) (place : Place) : Type 0 where
  pub there : HasPart ps (part m place)
  pub least : (q : Place) → HasPart ps (part m q) → place.offset ≤ q.offset

-- what is behind a part that has not so many above it has the first of those that have
first_behind : (m : ℕ) (p : Part) (more : List Part) (place : Place) → (p.above ≡ m → ⊥) → IsFirst m more place → IsFirst m (p ∷ more) place
first_behind m p more place differs x = record {
  there = inr x.there;
  least = λ q h. elim h [
    | inl it ↦ absurd (differs (ap (λ (z : Part). z.above) it))
    | inr later ↦ x.least q later
  ];
}

-- a part that has so many above it, and begins no later than those behind it
first_itself : (m : ℕ) (p : Part) (more : List Part) (place : Place) → p.above ≡ m → p.first ≡ place
    → ((q : Place) → HasPart more (part m q) → p.first.offset ≤ q.offset) → IsFirst m (p ∷ more) place
first_itself m p more place depth same before = record {
  there = inl (ap (λ (z : ℕ). part z p.first) depth ∙ ap (λ (z : Place). part m z) same);
  least = λ q h. elim h [
    | inl it ↦ omega (arith, ap (λ (z : Place). z.offset) same, ap (λ (z : Part). z.first.offset) it)
    | inr later ↦ omega (arith, before q later, ap (λ (z : Place). z.offset) same)
  ];
}

first_by : (b : Bool) (m : ℕ) (p : Part) (more : List Part) (place : Place) → (p.above == m) ≡ b → this_or b p.first (first_above m more) ≡ Some place
    → ((q : Place) → HasPart more (part m q) → p.first.offset ≤ q.offset) → (first_above m more ≡ Some place → IsFirst m more place)
    → IsFirst m (p ∷ more) place
first_by true m p more place is e before others = first_itself m p more place (eqb-true p.above m is) (same_Some p.first place e) before
first_by false m p more place is e before others = first_behind m p more place (eqb-false p.above m is) (others e)

pub is_first : (at m : ℕ) (ts : List Lexeme) (ps : List Part) (place : Place) → LieInOrder at ts → Along ts ps → first_above m ps ≡ Some place → IsFirst m ps place
is_first at m ts ps place o (done _) e = absurd (cc (e))
is_first at m ts ps place o (onward t us all_ a) e = is_first t.place.offset m us all_ place o.1 a e
is_first at m ts ps place o (here t us p more at_ a) e =
    let from_here : LieInOrder t.place.offset (t ∷ us) = (omega arith, o.1) in
    let begins : t.place.offset ≡ p.first.offset = ap (λ (z : Place). z.offset) at_ in
    first_by (p.above == m) m p more place refl e
    (λ q h. omega (arith, begins, parts_behind t.place.offset m q (t ∷ us) more from_here a h))
    (λ f. is_first t.place.offset m (t ∷ us) more place from_here a f)

none_by : (b : Bool) (m : ℕ) (p : Part) (more : List Part) → (p.above == m) ≡ b → this_or b p.first (first_above m more) ≡ None
    → (first_above m more ≡ None → HasAbove more m → ⊥) → HasAbove (p ∷ more) m → ⊥
none_by true m p more is e others h = absurd (cc (e))
none_by false m p more is e others h = elim h [ inl it ↦ eqb-false p.above m is it | inr later ↦ others e later ]

pub none_above : (m : ℕ) (ps : List Part) → first_above m ps ≡ None → HasAbove ps m → ⊥
none_above m [] e h = h
none_above m (p ∷ ps) e h = none_by (p.above == m) m p ps refl e (λ f later. none_above m ps f later) h

-- what the place at the depth that is too deep says
pub is_shallow : (xs : List Place) (ps : List Part) → Marks xs 0 ps → slice_get xs most_levels ≡ None → IsShallow ps
is_shallow xs ps f e = none_above most_levels ps (sym (f most_levels (omega arith)) ∙ e)

pub is_deepest : (xs : List Place) (ts : List Lexeme) (ps : List Part) (place : Place) → LieInOrder 0 ts → Along ts ps → Marks xs 0 ps
    → slice_get xs most_levels ≡ Some place → IsDeepest ps place
is_deepest xs ts ps place o a f e =
    let x : IsFirst most_levels ps place = is_first 0 most_levels ts ps place o a (sym (f most_levels (omega arith)) ∙ e) in
    record { there = x.there; least = x.least }
