-- The least member that no case has: as the code finds it, and as the least of a list.
use Rattle.std.proofs.Common.{◌≡◌, ℕ, List, [], ◌∷◌, ◌++◌, map, flat_map, filter, not, Bool, true, false, ◌&&◌, ◌||◌, if◌then◌else◌, ◌⊎◌, true≢false, arith, bytes_eq, IfSome, Option, Some, None, unwrap_or, refl, sym, ap, ◌∙◌, codes}
use mathlib.Core.Logic.{inl, inr}
use Rattle.std.specs.List.{fold, list_all}
use Rattle.std.specs.Ordering.{is_gt, ordering_reverse}
use Rattle.std.specs.declared.cmp.Ordering.{Ordering}
use Rattle.std.specs.declared.cmp.Ordering.TheVariants.{Less, Equal, Greater}
use Rattle.std.proofs.lemmas.Cmp.{upto, tied_itself}
use Rattle.std.proofs.lemmas.Slice.Eq.{bytes_eq-Decides}
use Rattle.std.specs.Ordering.{nat_cmp, is_le}
use Rattle.std.specs.Cmp.Lexicographic.{slice_cmp}
use Rattle.std.proofs.lemmas.Cmp.{nat_list_cmp_total}
use Rattle.std.proofs.lemmas.List.Sums.{fold-append}
use Rattle.serde_json.specs.Data.{Data}
use Rattle.serde_json.specs.Find.{get}
use Rattle.pv_case.specs.Members.{is_among, items_at, pairs_at}
use Rattle.pv_case.specs.Fields.{names_in, strays, strays_where, all_strays, field_names, source_names, symbol_names, pattern_names, IsLeast}
use Rattle.pv_case.specs.Least.{lesser, behind, behind_names, behind_objects, behind_any, least_stray}

-- ---- names that are known don't count

one_behind : (known : List (List ℕ)) (a : Option (List ℕ)) (n : List ℕ) (ns : List (List ℕ)) (b : Bool) → is_among known n ≡ b
    → fold lesser (behind known a n) (filter (λ m. not (is_among known m)) ns) ≡ fold lesser a (filter (λ m. not (is_among known m)) (n ∷ ns))
one_behind known a n ns true e = rw e refl
one_behind known a n ns false e = rw e refl

named : (known : List (List ℕ)) (a : Option (List ℕ)) (ns : List (List ℕ))
    → fold (behind known) a ns ≡ fold lesser a (filter (λ m. not (is_among known m)) ns)
named known a [] = refl
named known a (n ∷ ns) = named known (behind known a n) ns ∙ one_behind known a n ns (is_among known n) refl

of_object : (known : List (List ℕ)) (a : Option (List ℕ)) (d : Data) → behind_names known a d ≡ fold lesser a (strays known d)
of_object known a d = named known a (names_in d)

of_objects : (known : List (List ℕ)) (a : Option (List ℕ)) (ds : List Data)
    → behind_objects known a ds ≡ fold lesser a (flat_map (strays known) ds)
of_objects known a [] = refl
of_objects known a (d ∷ ds) =
    of_objects known (behind_names known a d) ds ∙ ap (λ b. fold lesser b (flat_map (strays known) ds)) (of_object known a d)
    ∙ sym (fold-append lesser a (strays known d) (flat_map (strays known) ds))

of_any : (known : List (List ℕ)) (a : Option (List ℕ)) (d : Option Data)
    → behind_any known a d ≡ fold lesser a (strays_where known d)
of_any known a None = refl
of_any known a (Some d) = of_object known a d

seconds : (f : Data → List (List ℕ)) (ps : List (List ℕ × Data)) → flat_map f (map (λ p. p.1) ps) ≡ flat_map (λ p. f p.1) ps
seconds f [] = refl
seconds f (p ∷ ps) = ap (λ l. f p.1 ++ l) (seconds f ps)

pub least_is : (d : Data) → least_stray d ≡ fold lesser None (all_strays d)
least_is d =
    let top = strays field_names d in
    let sources = flat_map (strays source_names) (unwrap_or (items_at d (codes "sources")) []) in
    let pairs = unwrap_or (pairs_at d (codes "symbols")) [] in
    let symbols = flat_map (λ p. strays symbol_names p.1) pairs in
    let last = strays_where pattern_names (get (codes "pattern") d) in
    of_any pattern_names _ (get (codes "pattern") d)
    ∙ ap (λ a. fold lesser a last)
    (of_objects symbol_names _ (map (λ p. p.1) pairs)
    ∙ ap (λ l. fold lesser (behind_objects source_names (behind_names field_names None d) (unwrap_or (items_at d (codes "sources")) [])) l) (seconds (strays symbol_names) pairs)
    ∙ ap (λ a. fold lesser a symbols)
    (of_objects source_names _ (unwrap_or (items_at d (codes "sources")) [])
    ∙ ap (λ a. fold lesser a sources) (of_object field_names None d)))
    ∙ sym (fold-append lesser None top (sources ++ (symbols ++ last))
    ∙ fold-append lesser (fold lesser None top) sources (symbols ++ last)
    ∙ fold-append lesser (fold lesser (fold lesser None top) sources) symbols last)

-- ---- the least of a list

abbrev order : List ℕ → List ℕ → Ordering
order x y = slice_cmp nat_cmp x y

not_greater : (o : Ordering) → is_le o ≡ true → is_gt o ≡ false
not_greater Less e = refl
not_greater Equal e = refl
not_greater Greater e = absurd (true≢false (sym e))

no_greater : (o : Ordering) → is_gt o ≡ false → is_le o ≡ true
no_greater Less e = refl
no_greater Equal e = refl
no_greater Greater e = absurd (true≢false e)

le_trans : (x y z : List ℕ) → is_le (order x y) ≡ true → is_le (order y z) ≡ true → is_le (order x z) ≡ true
le_trans x y z xy yz =
    no_greater (order x z) (upto nat_list_cmp_total x y z (not_greater (order x y) xy) (not_greater (order y z) yz))

other_way : (o r : Ordering) → r ≡ ordering_reverse o → is_le o ≡ false → is_le r ≡ true
other_way Less r e isnt = absurd (true≢false isnt)
other_way Equal r e isnt = absurd (true≢false isnt)
other_way Greater r e isnt = ap is_le e

le_itself : (x y : List ℕ) → y ≡ x → is_le (order x y) ≡ true
le_itself x y e = ap (λ z. is_le (order x z)) e ∙ ap is_le (tied_itself nat_list_cmp_total x)

-- the least so far, or one of the texts; it is behind none of them
record Found (a : Option (List ℕ)) (xs : List (List ℕ)) (f : List ℕ) : Type 0 where
  from : (a ≡ Some f) ⊎ (is_among xs f ≡ true)
  within : IfSome a (λ o. is_le (order f o) ≡ true)
  least : list_all (λ o. is_le (order f o)) xs ≡ true

both : (p q : Bool) → p ≡ true → q ≡ true → (p && q) ≡ true
both true true e d = refl
both true false e d = absurd (true≢false (sym d))
both false q e d = absurd (true≢false (sym e))

left : (p q : Bool) → p ≡ true → (p || q) ≡ true
left true q e = refl
left false q e = absurd (true≢false (sym e))

right : (p q : Bool) → q ≡ true → (p || q) ≡ true
right true q e = refl
right false q e = e

some_is : (x y : List ℕ) → Some x ≡ Some y → x ≡ y
some_is x y e = cc

among : (x : List ℕ) (xs : List (List ℕ)) (f : List ℕ) → (Some x ≡ Some f) ⊎ (is_among xs f ≡ true) → is_among (x ∷ xs) f ≡ true
among x xs f (inl e) = left (bytes_eq f x) (is_among xs f) ((bytes_eq-Decides f x).1 (sym (some_is x f e)))
among x xs f (inr e) = right (bytes_eq f x) (is_among xs f) e

picked : (o x : List ℕ) (xs : List (List ℕ)) (f : List ℕ) (b : Bool) → is_le (order o x) ≡ b → fold lesser (lesser (Some o) x) xs ≡ Some f
    → ((a : Option (List ℕ)) → fold lesser a xs ≡ Some f → Found a xs f) → Found (Some o) (x ∷ xs) f
picked o x xs f true is e more =
    let r = more (Some o) (ap (λ c. fold lesser (if c then Some o else Some x) xs) (sym is) ∙ e) in
    record {
      from = elim r.from [ inl s ↦ inl s | inr s ↦ inr (right (bytes_eq f x) (is_among xs f) s) ];
      within = r.within;
      least = both (is_le (order f x)) _ (le_trans f o x r.within is) r.least;
    }
picked o x xs f false is e more =
    let r = more (Some x) (ap (λ c. fold lesser (if c then Some o else Some x) xs) (sym is) ∙ e) in
    let back : is_le (order x o) ≡ true = other_way (order o x) (order x o) (nat_list_cmp_total.antisymm x o) is in
    record {
      from = inr (among x xs f r.from);
      within = le_trans f x o r.within back;
      least = both (is_le (order f x)) _ r.within r.least;
    }

found : (a : Option (List ℕ)) (xs : List (List ℕ)) (f : List ℕ) → fold lesser a xs ≡ Some f → Found a xs f
found None [] f e = absurd (grind arith)
found (Some o) [] f e = record { from = inl e; within = le_itself f o (some_is o f e); least = refl }
found None (x ∷ xs) f e =
    let r = found (Some x) xs f e in
    record { from = inr (among x xs f r.from); within = tt; least = both (is_le (order f x)) _ r.within r.least }
found (Some o) (x ∷ xs) f e = picked o x xs f (is_le (order o x)) refl e (λ a h. found a xs f h)

kept : (o x : List ℕ) (xs : List (List ℕ)) (b : Bool) → fold lesser (if b then Some o else Some x) xs ≡ None
    → ((p : List ℕ) → fold lesser (Some p) xs ≡ None → ⊥) → ⊥
kept o x xs true e more = more o e
kept o x xs false e more = more x e

stays : (o : List ℕ) (xs : List (List ℕ)) → fold lesser (Some o) xs ≡ None → ⊥
stays o [] e = grind arith
stays o (x ∷ xs) e = kept o x xs (is_le (order o x)) e (λ p h. stays p xs h)

none_left : (xs : List (List ℕ)) → fold lesser None xs ≡ None → xs ≡ []
none_left [] e = refl
none_left (x ∷ xs) e = absurd (stays x xs e)

pub none_stray : (d : Data) → least_stray d ≡ None → all_strays d ≡ []
none_stray d e = none_left (all_strays d) (sym (least_is d) ∙ e)

pub least_found : (d : Data) (f : List ℕ) → least_stray d ≡ Some f → IsLeast (all_strays d) f
least_found d f e =
    let r = found None (all_strays d) f (sym (least_is d) ∙ e) in
    record { there = elim r.from [ inl s ↦ absurd (grind arith) | inr s ↦ s ]; least = r.least }
