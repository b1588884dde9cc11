-- Numbers of levels follow the places by depth.
use Rattle.std.proofs.Common.{◌≡◌, ℕ, zero, suc, ◌+◌, ◌/◌, ◌%◌, ◌==◌, ◌<◌, ◌≤◌, Bool, true, false, max, List, [], ◌∷◌, ◌++◌, length, map, take, drop, reverse, get_or, Option, Some, None, option_map, option_and_then, refl, ap, ◌∙◌, sym, arith}
use Rattle.std.specs.Prelude.{slice_index_or}
use Rattle.std.proofs.Math.Path.{fun_ext}
use Rattle.std.proofs.Math.Nat.{zero-max, max-zero, suc-max-suc}
use Rattle.std.proofs.lemmas.List.{length-take, length-drop, length-reverse, take_more, reverse-append, take-append-drop}
use Rattle.std.proofs.lemmas.Option.{same_Some, slice_get_past}
use Rattle.pv_ll.specs.declared.turn.Turn.{Turn}
use Rattle.pv_ll.specs.Making.{Follows}
use Rattle.pv_ll.proofs.ForCallers.{play_followed}
use Rattle.pv_place.specs.declared.place.Place.{Place}
use Rattle.pv_tree.specs.Lexemes.{Lexeme}
use Rattle.pv_tree.specs.Nesting.{most_levels}
use Rattle.pv_parse.specs.declared.action.Action.{Action}
use Rattle.pv_parse.specs.declared.action.Action.TheVariants.{Keep}
use Rattle.pv_parse.specs.declared.shade.Shading.{Shading}
use Rattle.pv_parse.specs.declared.shade.Shading.TheVariants.{Take, Join, Group, Part, Branch}
use Rattle.pv_parse.specs.Deeds.{kinded, kinded_making}
use Rattle.pv_parse.specs.Shades.{Shade, merged, over, group_of, part_of, empty, gathered, left_below, sink, place_at}
use Rattle.pv_parse.specs.ItemShades.{shading_of, shade_making}
use Rattle.pv_parse.specs.Levels as level
use Rattle.pv_parse.specs.Levels.{levels_of, level_making, table_making, level_on, level_at}
use Rattle.pv_parse.specs.Building.{Plays, Makes}

length-merged : (xs ys : List Place) → max (length xs) (length ys) ≡ length (merged xs ys)
length-merged [] ys = zero-max (length ys)
length-merged (x ∷ xs) [] = max-zero (suc (length xs))
length-merged (x ∷ xs) (y ∷ ys) = suc-max-suc (length xs) (length ys) ∙ ap suc (length-merged xs ys)

over-levels : (counts : Bool) (x one : Shade) → level.over counts (levels_of x) (levels_of one) ≡ levels_of (over counts x one)
over-levels true x one = length-merged x.parts one.parts
over-levels false x one = refl

-- ---- values taken off the stack

abbrev seen : Option (Shade × List Shade) → Option (ℕ × List ℕ)
seen None = None
seen (Some x) = Some (levels_of x.0, map levels_of x.1)

gathered-levels : (n drops : ℕ) (one : Shade) (s : List Shade)
    → level.gathered n drops (levels_of one) (map levels_of s) ≡ seen (gathered n drops one s)
gathered-levels zero drops one s = refl
gathered-levels (suc n) drops one [] = refl
gathered-levels (suc n) drops one (x ∷ s) =
    ap (λ (z : ℕ). level.gathered n (drops / 2) z (map levels_of s)) (over-levels (drops % 2 == 0) x one)
    ∙ gathered-levels n (drops / 2) (over (drops % 2 == 0) x one) s

left-levels : (n : ℕ) (s : List Shade) → level.left_below n (map levels_of s) ≡ option_map (λ z. map levels_of z) (left_below n s)
left-levels zero s = refl
left-levels (suc n) [] = refl
left-levels (suc n) (x ∷ s) = left-levels n s

-- ---- what alternatives do

-- one value of so many
one-levels : (f : ℕ → ℕ) (g : Shade → Shade) → ((x : Shade) → f (levels_of x) ≡ levels_of (g x)) → (n drops : ℕ) (s : List Shade)
    → option_and_then (λ (one : ℕ × List ℕ). Some (f one.0 ∷ one.1)) (level.gathered n drops 0 (map levels_of s))
    ≡ option_map (λ z. map levels_of z) (option_and_then (λ (one : Shade × List Shade). Some (g one.0 ∷ one.1)) (gathered n drops empty s))
one-levels f g same n drops s =
    ap (λ (o : Option (ℕ × List ℕ)). option_and_then (λ (one : ℕ × List ℕ). Some (f one.0 ∷ one.1)) o) (gathered-levels n drops empty s)
    ∙ by (gathered n drops empty s)
  where
    by : (o : Option (Shade × List Shade)) → option_and_then (λ (one : ℕ × List ℕ). Some (f one.0 ∷ one.1)) (seen o)
        ≡ option_map (λ z. map levels_of z) (option_and_then (λ (one : Shade × List Shade). Some (g one.0 ∷ one.1)) o)
    by None = refl
    by (Some x) = ap (λ (z : ℕ). Some (z ∷ map levels_of x.1)) (same x.0)

branch-levels : (n : ℕ) (top : Shade) (s : List Shade)
    → option_and_then (λ (one : ℕ × List ℕ). Some (0 ∷ levels_of top ∷ one.0 ∷ one.1)) (level.gathered n 0 0 (map levels_of s))
    ≡ option_map (λ z. map levels_of z)
    (option_and_then (λ (one : Shade × List Shade). Some (empty ∷ top ∷ group_of one.0 ∷ one.1)) (gathered n 0 empty s))
branch-levels n top s =
    ap (λ (o : Option (ℕ × List ℕ)). option_and_then (λ (one : ℕ × List ℕ). Some (0 ∷ levels_of top ∷ one.0 ∷ one.1)) o) (gathered-levels n 0 empty s)
    ∙ by (gathered n 0 empty s)
  where
    by : (o : Option (Shade × List Shade)) → option_and_then (λ (one : ℕ × List ℕ). Some (0 ∷ levels_of top ∷ one.0 ∷ one.1)) (seen o)
        ≡ option_map (λ z. map levels_of z) (option_and_then (λ (one : Shade × List Shade). Some (empty ∷ top ∷ group_of one.0 ∷ one.1)) o)
    by None = refl
    by (Some x) = refl

sink-levels : (shading : Shading) (s : List Shade) → level.sink shading (map levels_of s) ≡ option_map (λ z. map levels_of z) (sink shading s)
sink-levels (Take count) s = left-levels count s
sink-levels (Join count drops) s = one-levels (λ z. z) (λ z. z) (λ x. refl) count drops s
sink-levels (Group count drops) s = one-levels (λ z. z) group_of (λ x. refl) count drops s
sink-levels (Part count drops) s =
    one-levels level.part_of part_of (λ x. sym (length-take (suc most_levels) (x.first ∷ x.parts))) count drops s
sink-levels (Branch count) [] = refl
sink-levels (Branch count) (top ∷ s) = branch-levels count top s

follows : (actions : List Action) → Follows levels_of (shade_making actions) (level_making actions)
follows actions = record {
  leaves = λ t. refl;
  reduces = λ k s left e.
      sink-levels (shading_of (slice_index_or actions k Keep)) s ∙ ap (λ (o : Option (List Shade)). option_map (λ z. map levels_of z) o) e;
}

-- ---- all turns

-- they make the numbers of what they make
pub makes_levels : (actions : List Action) (turns : List Turn) (ts : List Lexeme) (behind : List Shade)
    → Plays (shade_making actions) turns ts [] behind → Makes (level_making actions) turns [] (map levels_of behind)
makes_levels actions turns ts behind h = (kinded h.0 ts, play_followed (follows actions) turns (kinded h.0 ts) [] behind h.1)

-- of so few levels nothing is too deep
pub shallow : (behind : List Shade) → level_at (map levels_of behind) ≤ most_levels → place_at most_levels behind ≡ None
shallow [] h = refl
shallow (x ∷ s) h = slice_get_past x.parts most_levels h

-- ---- the table of what alternatives do

shading_there : (actions : List Action) (k : ℕ) → slice_index_or (map shading_of actions) k (Take 0) ≡ shading_of (slice_index_or actions k Keep)
shading_there [] k = refl
shading_there (a ∷ actions) zero = refl
shading_there (a ∷ actions) (suc k) = shading_there actions k

-- it makes what the actions make
pub tabled : (actions : List Action) → level_making actions ≡ table_making (map shading_of actions)
tabled actions =
    ap (λ (r : ℕ → List ℕ → Option (List ℕ)). kinded_making (λ (t : Lexeme). 0) r)
    (fun_ext (λ k. fun_ext (λ s. ap (λ (z : Shading). level.sink z s) (sym (shading_there actions k)))))

-- ---- values at the end of the stack

-- the last of so many lies on top of the others
last_on_top : (n : ℕ) (xs below : List ℕ) → n < length xs
    → reverse (take (n + 1) xs) ++ below ≡ get_or xs n 0 ∷ (reverse (take n xs) ++ below)
last_on_top n xs below h =
    ap (λ (z : List ℕ). reverse z ++ below) (take_more xs n 0 h)
    ∙ ap (λ (z : List ℕ). z ++ below) (reverse-append (take n xs) (get_or xs n 0 ∷ []))

-- it is gathered first
pub gathered_last : (n drops one : ℕ) (xs below : List ℕ) → n < length xs
    → level.gathered (n + 1) drops one (reverse (take (n + 1) xs) ++ below)
    ≡ level.gathered n (drops / 2) (level.over (drops % 2 == 0) (get_or xs n 0) one) (reverse (take n xs) ++ below)
gathered_last n drops one xs below h =
    ap (λ (s : List ℕ). level.gathered (n + 1) drops one s) (last_on_top n xs below h)
    ∙ ap (λ (k : ℕ). level.gathered k drops one (get_or xs n 0 ∷ (reverse (take n xs) ++ below))) e
  where
    e : n + 1 ≡ suc n
    e = omega arith

-- all that lie from a place on are above those before it
end_on_top : (kept : ℕ) (xs : List ℕ) → reverse xs ≡ reverse (drop kept xs) ++ reverse (take kept xs)
end_on_top kept xs =
    ap (λ (z : List ℕ). reverse z) (sym (take-append-drop kept xs)) ∙ reverse-append (take kept xs) (drop kept xs)

pub gathered_end : (count drops one kept : ℕ) (xs : List ℕ) → kept + count ≡ length xs
    → ((below : List ℕ) → level.gathered (length (drop kept xs)) drops 0 (reverse (drop kept xs) ++ below) ≡ Some (one, below))
    → level.gathered count drops 0 (reverse xs) ≡ Some (one, reverse (take kept xs))
gathered_end count drops one kept xs sum gathers =
    ap (λ (s : List ℕ). level.gathered count drops 0 s) (end_on_top kept xs)
    ∙ ap (λ (n : ℕ). level.gathered n drops 0 (reverse (drop kept xs) ++ reverse (take kept xs))) same
    ∙ gathers (reverse (take kept xs))
  where
    same : count ≡ length (drop kept xs)
    same = omega (arith, sum, length-drop kept xs)

left_above : (xs below : List ℕ) → level.left_below (length xs) (xs ++ below) ≡ Some below
left_above [] below = refl
left_above (x ∷ xs) below = left_above xs below

pub left_end : (count kept : ℕ) (xs : List ℕ) → kept + count ≡ length xs → level.left_below count (reverse xs) ≡ Some (reverse (take kept xs))
left_end count kept xs sum =
    ap (λ (s : List ℕ). level.left_below count s) (end_on_top kept xs)
    ∙ ap (λ (n : ℕ). level.left_below n (reverse (drop kept xs) ++ reverse (take kept xs))) same
    ∙ left_above (reverse (drop kept xs)) (reverse (take kept xs))
  where
    same : count ≡ length (reverse (drop kept xs))
    same = omega (arith, sum, length-drop kept xs, length-reverse (drop kept xs))

-- there are too few
short_gathered : (n drops one : ℕ) (s : List ℕ) → length s < n → level.gathered n drops one s ≡ None
short_gathered zero drops one s h = absurd (omega (arith, h))
short_gathered (suc n) drops one [] h = refl
short_gathered (suc n) drops one (x ∷ s) h = short_gathered n (drops / 2) (level.over (drops % 2 == 0) x one) s (omega (arith, h))

pub gathered_short : (count drops : ℕ) (xs : List ℕ) → length xs < count → level.gathered count drops 0 (reverse xs) ≡ None
gathered_short count drops xs h = short_gathered count drops 0 (reverse xs) (omega (arith, h, length-reverse xs))

short_left : (n : ℕ) (s : List ℕ) → length s < n → level.left_below n s ≡ None
short_left zero s h = absurd (omega (arith, h))
short_left (suc n) [] h = refl
short_left (suc n) (x ∷ s) h = short_left n s (omega (arith, h))

pub left_short : (count : ℕ) (xs : List ℕ) → length xs < count → level.left_below count (reverse xs) ≡ None
left_short count xs h = short_left count (reverse xs) (omega (arith, h, length-reverse xs))

-- one value

pub gathered_top : (drops x : ℕ) (s t : List ℕ) → level_on s ≡ Some (x, t)
    → level.gathered 1 drops 0 s ≡ Some (level.over (drops % 2 == 0) x 0, t)
gathered_top drops x [] t e = absurd (cc (e))
gathered_top drops x (y ∷ s) t e =
    let p : ◌≡◌ {A = ℕ × List ℕ} (y, s) (x, t) = same_Some (y, s) (x, t) e in
    ap (λ (q : ℕ × List ℕ). Some (level.over (drops % 2 == 0) q.0 0, q.1)) p

pub gathered_none : (drops : ℕ) (s : List ℕ) → level_on s ≡ None → level.gathered 1 drops 0 s ≡ None
gathered_none drops [] e = refl
gathered_none drops (y ∷ s) e = absurd (cc (e))
