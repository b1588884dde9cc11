-- What a search for sizes keeps, visit by visit.
use Rattle.std.proofs.Common.{◌≡◌, inl, inr, ℕ, zero, suc, ◌+◌, ◌*◌, ◌<◌, ◌≤◌, List, [], ◌∷◌, ◌++◌, length, Option, Some, None, true, false, cond, refl, sym, ap, ◌∙◌, subst, append_assoc, arith}
use Rattle.std.specs.Prelude.{◌⊎◌, IsSome, MatchOption, unwrap_or, bytes_eq, is_some}
use Rattle.std.proofs.lemmas.Bool.{cases_Bool, true≢false}
use Rattle.std.proofs.lemmas.Slice.Eq.{bytes_eq-Decides}
use Rattle.std.proofs.lemmas.Option.{same_Some}
use Rattle.std.proofs.lemmas.List.{append-nil}
use Rattle.pv_types.specs.declared.declaration.Section.TheVariants.{Static}
use Rattle.pv_types.specs.Tree.{TypeTree, plain, array, structure, named, unread, VarTree, var, VarTrees, no_vars, _then_}
use Rattle.pv_types.specs.View.{listed}
use Rattle.pv_types.specs.Named.{NamedType, look_up, AllNamed, AllNamedIn, NestsWithin}
use Rattle.pv_types.specs.Leaves.{Around, instance, section_within, count_between}
use Rattle.pv_types.specs.Sizes.{number_where, size_of_type, size_of_fields, size_of_vars, size_of_named}
use Rattle.pv_mean.specs.Counts.{capped}
use Rattle.pv_mean.specs.Visits.{Visit, enter, leave, key_of, enters_in, enters_in_vars, Awaits, Covered, AreThere, EnterThose, AllNest, IsOpen, steps_left, steps_to_enter, all_steps}
use Rattle.pv_mean.proofs.Capping.{capped_twice, capped_vars}

-- ---- what holds of each type that is named

module _ (P Q : List ℕ → Type 0) (to : (key : List ℕ) → P key → Q key) where
  mutual
    pub named_to : (t : TypeTree) → AllNamed P t → AllNamed Q t
    named_to (plain ty) p = tt
    named_to (array low high of place) p = named_to of p
    named_to (structure vars) p = named_in_to vars p
    named_to (named name place) p = to name.key p
    named_to unread p = tt

    pub named_in_to : (vars : VarTrees) → AllNamedIn P vars → AllNamedIn Q vars
    named_in_to no_vars p = tt
    named_in_to (_then_ (var name section ty start place) xs) p = (named_to ty p.0, named_in_to xs p.1)

-- ---- what nests

nest_there : (types : List NamedType) (n : ℕ) (key : List ℕ) → NestsWithin types n key → IsSome (look_up types key)
nest_there types zero key nests = absurd nests
nest_there types (suc n) key nests = by (look_up types key) nests
  where
    by : (o : Option (List VarTree)) → MatchOption o ⊥ (λ vars. AllNamedIn (NestsWithin types n) (listed vars)) → IsSome o
    by None within = absurd within
    by (Some vars) within = refl

nest_within : (types : List NamedType) (n : ℕ) (key : List ℕ) (vars : List VarTree) → NestsWithin types n key → look_up types key ≡ Some vars
    → AllNamedIn (λ k. IsSome (look_up types k)) (listed vars)
nest_within types zero key vars nests found = absurd nests
nest_within types (suc n) key vars nests found =
    named_in_to (NestsWithin types n) (λ k. IsSome (look_up types k)) (nest_there types n) (listed vars)
    (subst (λ o. MatchOption o ⊥ (λ vs. AllNamedIn (NestsWithin types n) (listed vs))) found nests)

-- ---- sizes and steps of what nests

module _ (f g : List ℕ → ℕ) where
  abbrev Agree : List ℕ → Type 0
  Agree key = f key ≡ g key

  mutual
    same_size : (t : TypeTree) → AllNamed Agree t → size_of_type f t ≡ size_of_type g t
    same_size (plain ty) same = refl
    same_size (array low high of place) same = ap (λ n. count_between low high * n) (same_size of same)
    same_size (structure vars) same = same_fields vars same
    same_size (named name place) same = same
    same_size unread same = refl

    same_fields : (vars : VarTrees) → AllNamedIn Agree vars → size_of_fields f vars ≡ size_of_fields g vars
    same_fields no_vars same = refl
    same_fields (_then_ (var name section ty start place) xs) same =
        ap (λ n. n + size_of_fields f xs) (same_size ty same.0) ∙ ap (λ n. size_of_type g ty + n) (same_fields xs same.1)

  same_vars : (around : Around) (vars : VarTrees) → AllNamedIn Agree vars → size_of_vars f around vars ≡ size_of_vars g around vars
  same_vars around no_vars same = refl
  same_vars around (_then_ (var name section ty start place) xs) same =
      ap (λ n. number_where (section_within around section) n + size_of_vars f around xs) (same_size ty same.0)
      ∙ ap (λ n. number_where (section_within around section) (size_of_type g ty) + n) (same_vars around xs same.1)

pub left-append : (f : List ℕ → ℕ) (xs ys : List Visit) → steps_left f (xs ++ ys) ≡ steps_left f xs + steps_left f ys
left-append f [] ys = omega arith
left-append f (enter key ∷ xs) ys = let rest = left-append f xs ys in omega (arith, rest)
left-append f (leave key vars ∷ xs) ys = let rest = left-append f xs ys in omega (arith, rest)

module _ (f g : List ℕ → ℕ) where
  mutual
    same_steps : (t : TypeTree) → AllNamed (λ k. f k ≡ g k) t → steps_left f (enters_in t) ≡ steps_left g (enters_in t)
    same_steps (plain ty) same = refl
    same_steps (array low high of place) same = same_steps of same
    same_steps (structure vars) same = same_steps_in vars same
    same_steps (named name place) same = ap (λ n. n + 0) same
    same_steps unread same = refl

    same_steps_in : (vars : VarTrees) → AllNamedIn (λ k. f k ≡ g k) vars
        → steps_left f (enters_in_vars vars) ≡ steps_left g (enters_in_vars vars)
    same_steps_in no_vars same = refl
    same_steps_in (_then_ (var name section ty start place) xs) same =
        left-append f (enters_in ty) (enters_in_vars xs)
        ∙ ap (λ n. n + steps_left f (enters_in_vars xs)) (same_steps ty same.0)
        ∙ ap (λ n. steps_left g (enters_in ty) + n) (same_steps_in xs same.1)
        ∙ sym (left-append g (enters_in ty) (enters_in_vars xs))

size_deeper : (types : List NamedType) (n : ℕ) (key : List ℕ) → NestsWithin types n key
    → size_of_named types n key ≡ size_of_named types (suc n) key
size_deeper types zero key nests = absurd nests
size_deeper types (suc n) key nests = by (size_deeper types n) (look_up types key) nests
  where
    by : ((k : List ℕ) → NestsWithin types n k → size_of_named types n k ≡ size_of_named types (suc n) k) → (o : Option (List VarTree))
        → MatchOption o ⊥ (λ vars. AllNamedIn (NestsWithin types n) (listed vars))
        → size_of_vars (size_of_named types n) (instance Static) (listed (unwrap_or o []))
        ≡ size_of_vars (size_of_named types (suc n)) (instance Static) (listed (unwrap_or o []))
    by below None within = absurd within
    by below (Some vars) within =
        same_vars (size_of_named types n) (size_of_named types (suc n)) (instance Static) (listed vars)
        (named_in_to (NestsWithin types n) _ below (listed vars) within)

steps_deeper : (types : List NamedType) (n : ℕ) (key : List ℕ) → NestsWithin types n key
    → steps_to_enter types n key ≡ steps_to_enter types (suc n) key
steps_deeper types zero key nests = absurd nests
steps_deeper types (suc n) key nests = by (steps_deeper types n) (look_up types key) nests
  where
    by : ((k : List ℕ) → NestsWithin types n k → steps_to_enter types n k ≡ steps_to_enter types (suc n) k) → (o : Option (List VarTree))
        → MatchOption o ⊥ (λ vars. AllNamedIn (NestsWithin types n) (listed vars))
        → 2 + steps_left (steps_to_enter types n) (enters_in_vars (listed (unwrap_or o [])))
        ≡ 2 + steps_left (steps_to_enter types (suc n)) (enters_in_vars (listed (unwrap_or o [])))
    by below None within = absurd within
    by below (Some vars) within = ap (λ n. 2 + n)
        (same_steps_in (steps_to_enter types n) (steps_to_enter types (suc n)) (listed vars)
        (named_in_to (NestsWithin types n) _ below (listed vars) within))

-- a type that nests is as large as its variables, and takes two steps more than those that it names
pub size_laid_out : (types : List NamedType) (n : ℕ) (key : List ℕ) (vars : List VarTree) → NestsWithin types n key
    → look_up types key ≡ Some vars
    → size_of_named types n key ≡ size_of_vars (size_of_named types n) (instance Static) (listed vars)
size_laid_out types n key vars nests found =
    size_deeper types n key nests
    ∙ ap (λ o. size_of_vars (size_of_named types n) (instance Static) (listed (unwrap_or o []))) found

steps_laid_out : (types : List NamedType) (n : ℕ) (key : List ℕ) (vars : List VarTree) → NestsWithin types n key
    → look_up types key ≡ Some vars
    → steps_to_enter types n key ≡ 2 + steps_left (steps_to_enter types n) (enters_in_vars (listed vars))
steps_laid_out types n key vars nests found =
    steps_deeper types n key nests
    ∙ ap (λ o. 2 + steps_left (steps_to_enter types n) (enters_in_vars (listed (unwrap_or o [])))) found

step_at_least : (types : List NamedType) (n : ℕ) (key : List ℕ) → 1 ≤ steps_to_enter types n key
step_at_least types zero key = omega arith
step_at_least types (suc n) key = omega arith

-- ---- what is awaited

pub awaits_left : (key : List ℕ) (xs ys : List Visit) → Awaits key xs → Awaits key (xs ++ ys)
awaits_left key [] ys a = absurd a
awaits_left key (x ∷ xs) ys (inl e) = inl e
awaits_left key (x ∷ xs) ys (inr a) = inr (awaits_left key xs ys a)

pub awaits_right : (key : List ℕ) (xs ys : List Visit) → Awaits key ys → Awaits key (xs ++ ys)
awaits_right key [] ys a = a
awaits_right key (x ∷ xs) ys a = inr (awaits_right key xs ys a)

awaits_apart : (key : List ℕ) (xs ys : List Visit) → Awaits key (xs ++ ys) → Awaits key xs ⊎ Awaits key ys
awaits_apart key [] ys a = inr a
awaits_apart key (x ∷ xs) ys (inl e) = inl (inl e)
awaits_apart key (x ∷ xs) ys (inr a) = elim (awaits_apart key xs ys a) [ inl l ↦ inl (inr l) | inr r ↦ inr r ]

awaits_one : (key : List ℕ) (v : Visit) → Awaits key (v ∷ []) → key_of v ≡ key
awaits_one key v (inl e) = e
awaits_one key v (inr a) = absurd a

mutual
  pub all_awaited : (t : TypeTree) → AllNamed (λ k. Awaits k (enters_in t)) t
  all_awaited (plain ty) = tt
  all_awaited (array low high of place) = all_awaited of
  all_awaited (structure vars) = all_awaited_in vars
  all_awaited (named name place) = inl refl
  all_awaited unread = tt

  pub all_awaited_in : (vars : VarTrees) → AllNamedIn (λ k. Awaits k (enters_in_vars vars)) vars
  all_awaited_in no_vars = tt
  all_awaited_in (_then_ (var name section ty start place) xs) = (
    named_to (λ k. Awaits k (enters_in ty)) (λ k. Awaits k (enters_in ty ++ enters_in_vars xs))
        (λ k a. awaits_left k (enters_in ty) (enters_in_vars xs) a) ty (all_awaited ty),
    named_in_to (λ k. Awaits k (enters_in_vars xs)) (λ k. Awaits k (enters_in ty ++ enters_in_vars xs))
        (λ k a. awaits_right k (enters_in ty) (enters_in_vars xs) a) xs (all_awaited_in xs),
  )

-- ---- what is covered

module _ (known : List ℕ → Option ℕ) where
  covered-append : (xs ys : List Visit) → Covered known (xs ++ ys) → Covered known ys
  covered-append [] ys c = c
  covered-append (enter key ∷ xs) ys c = covered-append xs ys c
  covered-append (leave key vars ∷ xs) ys c = covered-append xs ys c.1

  still : (key : List ℕ) (xs : List Visit) (v : Visit) → IsSome (known (key_of v)) → IsSome (known key) ⊎ Awaits key (xs ++ v ∷ [])
      → IsSome (known key) ⊎ Awaits key xs
  still key xs v some (inl k) = inl k
  still key xs v some (inr a) =
      elim (awaits_apart key xs (v ∷ []) a) [
        | inl l ↦ inr l
        | inr r ↦ inl (subst (λ k. IsSome (known k)) (awaits_one key v r) some)
      ]

  -- the last visit is taken, of a type that is known by then
  covered_popped : (xs : List Visit) (v : Visit) → IsSome (known (key_of v)) → Covered known (xs ++ v ∷ []) → Covered known xs
  covered_popped [] v some c = tt
  covered_popped (enter key ∷ xs) v some c = covered_popped xs v some c
  covered_popped (leave key vars ∷ xs) v some c = (
    named_in_to (λ k. IsSome (known k) ⊎ Awaits k (xs ++ v ∷ [])) (λ k. IsSome (known k) ⊎ Awaits k xs) (λ k a. still k xs v some a)
        (listed vars) c.0,
    covered_popped xs v some c.1,
  )

  moved : (key : List ℕ) (xs : List Visit) (k : List ℕ) (vars : List VarTree) (es : List Visit)
      → IsSome (known key) ⊎ Awaits key (xs ++ enter k ∷ [])
      → IsSome (known key) ⊎ Awaits key (xs ++ leave k vars ∷ es)
  moved key xs k vars es (inl s) = inl s
  moved key xs k vars es (inr a) =
      elim (awaits_apart key xs (enter k ∷ []) a) [
        | inl l ↦ inr (awaits_left key xs (leave k vars ∷ es) l)
        | inr r ↦ inr (awaits_right key xs (leave k vars ∷ es) (inl (awaits_one key (enter k) r)))
      ]

  -- the last type is entered
  covered_entered : (xs : List Visit) (k : List ℕ) (vars : List VarTree) (es : List Visit)
      → AllNamedIn (λ d. IsSome (known d) ⊎ Awaits d es) (listed vars)
      → Covered known es
      → Covered known (xs ++ enter k ∷ [])
      → Covered known (xs ++ leave k vars ∷ es)
  covered_entered [] k vars es all more c = (all, more)
  covered_entered (enter key ∷ xs) k vars es all more c = covered_entered xs k vars es all more c
  covered_entered (leave key vs ∷ xs) k vars es all more c = (
    named_in_to (λ d. IsSome (known d) ⊎ Awaits d (xs ++ enter k ∷ [])) (λ d. IsSome (known d) ⊎ Awaits d (xs ++ leave k vars ∷ es))
        (λ d a. moved d xs k vars es a) (listed vs) c.0,
    covered_entered xs k vars es all more c.1,
  )

  mutual
    pub enters_covered : (t : TypeTree) (ys : List Visit) → Covered known ys → Covered known (enters_in t ++ ys)
    enters_covered (plain ty) ys c = c
    enters_covered (array low high of place) ys c = enters_covered of ys c
    enters_covered (structure vars) ys c = enters_covered_in vars ys c
    enters_covered (named name place) ys c = c
    enters_covered unread ys c = c

    enters_covered_in : (vars : VarTrees) (ys : List Visit) → Covered known ys → Covered known (enters_in_vars vars ++ ys)
    enters_covered_in no_vars ys c = c
    enters_covered_in (_then_ (var name section ty start place) xs) ys c =
        subst (Covered known) (sym (append_assoc (enters_in ty) (enters_in_vars xs) ys))
        (enters_covered ty (enters_in_vars xs ++ ys) (enters_covered_in xs ys c))

covered_more : (known more : List ℕ → Option ℕ) → ((k : List ℕ) → IsSome (known k) → IsSome (more k)) → (xs : List Visit)
    → Covered known xs
    → Covered more xs
covered_more known more grows [] c = tt
covered_more known more grows (enter key ∷ xs) c = covered_more known more grows xs c
covered_more known more grows (leave key vars ∷ xs) c = (
  named_in_to (λ k. IsSome (known k) ⊎ Awaits k xs) (λ k. IsSome (more k) ⊎ Awaits k xs)
      (λ k a. elim a [ inl s ↦ inl (grows k s) | inr r ↦ inr r ]) (listed vars) c.0,
  covered_more known more grows xs c.1,
)

-- ---- what is there

there_front : (types : List NamedType) (xs ys : List Visit) → AreThere types (xs ++ ys) → AreThere types xs
there_front types [] ys t = tt
there_front types (enter key ∷ xs) ys t = (t.0, there_front types xs ys t.1)
there_front types (leave key vars ∷ xs) ys t = (t.0, there_front types xs ys t.1)

there_back : (types : List NamedType) (xs ys : List Visit) → AreThere types (xs ++ ys) → AreThere types ys
there_back types [] ys t = t
there_back types (enter key ∷ xs) ys t = there_back types xs ys t.1
there_back types (leave key vars ∷ xs) ys t = there_back types xs ys t.1

pub there-append : (types : List NamedType) (xs ys : List Visit) → AreThere types xs → AreThere types ys → AreThere types (xs ++ ys)
there-append types [] ys s t = t
there-append types (enter key ∷ xs) ys s t = (s.0, there-append types xs ys s.1 t)
there-append types (leave key vars ∷ xs) ys s t = (s.0, there-append types xs ys s.1 t)

module _ (types : List NamedType) where
  mutual
    pub enters_there : (t : TypeTree) → AllNamed (λ k. IsSome (look_up types k)) t → AreThere types (enters_in t)
    enters_there (plain ty) a = tt
    enters_there (array low high of place) a = enters_there of a
    enters_there (structure vars) a = enters_there_in vars a
    enters_there (named name place) a = (a, tt)
    enters_there unread a = tt

    enters_there_in : (vars : VarTrees) → AllNamedIn (λ k. IsSome (look_up types k)) vars → AreThere types (enters_in_vars vars)
    enters_there_in no_vars a = tt
    enters_there_in (_then_ (var name section ty start place) xs) a =
        there-append types (enters_in ty) (enters_in_vars xs) (enters_there ty a.0) (enters_there_in xs a.1)

-- ---- the three steps

-- what goes off the list is known
module _ (types : List NamedType) (known : List ℕ → Option ℕ) (xs : List Visit) (key : List ℕ)
    (open_so : IsOpen types known (xs ++ enter key ∷ [])) where
  pub known_popped : IsSome (known key) → IsOpen types known xs
  known_popped some = record {
    right = open_so.right;
    covered = covered_popped known xs (enter key) some open_so.covered;
    there = there_front types xs (enter key ∷ []) open_so.there;
    reached = λ k t. still known k xs (enter key) some (open_so.reached k t);
  }

  pub enter_there : IsSome (look_up types key)
  enter_there = (there_back types xs (enter key ∷ []) open_so.there).0

  pub type_entered : AllNest types → (vars : List VarTree) → look_up types key ≡ Some vars → (es : List Visit)
      → EnterThose (λ P. AllNamedIn P (listed vars)) (enters_in_vars (listed vars)) es
      → IsOpen types known (xs ++ leave key vars ∷ es)
  type_entered nest vars found es are =
      record {
        right = open_so.right;
        covered = covered_entered known xs key vars es
            (named_in_to (λ k. Awaits k es) (λ k. IsSome (known k) ⊎ Awaits k es) (λ k a. inr a) (listed vars) are.awaits)
            (subst (Covered known) (append-nil es) (are.covered known [] tt)) open_so.covered;
        there = there-append types xs (leave key vars ∷ es) (there_front types xs (enter key ∷ []) open_so.there)
            (found, are.there types (nest_within types (length types) key vars (nest key enter_there) found));
        reached = λ k t. moved known k xs key vars es (open_so.reached k t);
      }

pub known_falls : (types : List NamedType) (xs : List Visit) (key : List ℕ) → all_steps types xs < all_steps types (xs ++ enter key ∷ [])
known_falls types xs key =
    let f = steps_to_enter types (length types) in
    let a = left-append f xs (enter key ∷ []) in let b = step_at_least types (length types) key in omega (arith, a, b)

pub entered_falls : (types : List NamedType) (xs : List Visit) (key : List ℕ) (vars : List VarTree) → AllNest types
    → look_up types key ≡ Some vars → (es : List Visit)
    → EnterThose (λ P. AllNamedIn P (listed vars)) (enters_in_vars (listed vars)) es
    → all_steps types (xs ++ leave key vars ∷ es) < all_steps types (xs ++ enter key ∷ [])
entered_falls types xs key vars nest found es are =
    let f = steps_to_enter types (length types) in
    let a = left-append f xs (enter key ∷ []) in
    let b = left-append f xs (leave key vars ∷ es) in
    let c = steps_laid_out types (length types) key vars (nest key (ap is_some found)) found in
    let d = are.few f in omega (arith, a, b, c, d)

pub left_falls : (types : List NamedType) (xs : List Visit) (key : List ℕ) (vars : List VarTree)
    → all_steps types xs < all_steps types (xs ++ leave key vars ∷ [])
left_falls types xs key vars =
    let a = left-append (steps_to_enter types (length types)) xs (leave key vars ∷ []) in omega (arith, a)

-- a type is left
abbrev pub or_now : (List ℕ → Option ℕ) → List ℕ → ℕ → List ℕ → Option ℕ
or_now known key n k = cond (bytes_eq k key) (Some n) (known k)

module _ (types : List NamedType) (known : List ℕ → Option ℕ) (xs : List Visit) (key : List ℕ) (vars : List VarTree)
    (open_so : IsOpen types known (xs ++ leave key vars ∷ [])) (nest : AllNest types) where
  size_right : (k : List ℕ) → IsSome (known k) → capped (unwrap_or (known k) 0) ≡ capped (size_of_named types (length types) k)
  size_right k some = by (known k) refl some
    where
      by : (o : Option ℕ) → known k ≡ o → IsSome o → capped (unwrap_or o 0) ≡ capped (size_of_named types (length types) k)
      by None e s = absurd (true≢false (sym s))
      by (Some n) e s = ap capped (open_so.right k n e) ∙ capped_twice (size_of_named types (length types) k)

  found : look_up types key ≡ Some vars
  found = (there_back types xs (leave key vars ∷ []) open_so.there).0

  named_known : AllNamedIn (λ k. IsSome (known k)) (listed vars)
  named_known =
      named_in_to (λ k. IsSome (known k) ⊎ Awaits k []) (λ k. IsSome (known k)) (λ k a. elim a [ inl s ↦ s | inr r ↦ absurd r ]) (listed vars)
      (covered-append known xs (leave key vars ∷ []) open_so.covered).0

  pub left_size : capped (size_of_vars (λ k. unwrap_or (known k) 0) (instance Static) (listed vars))
      ≡ capped (size_of_named types (length types) key)
  left_size =
      capped_vars (λ k. unwrap_or (known k) 0) (size_of_named types (length types)) (instance Static) (listed vars)
      (named_in_to (λ k. IsSome (known k)) _ size_right (listed vars) named_known)
      ∙ ap capped (sym (size_laid_out types (length types) key vars (nest key (ap is_some found)) found))

  right_now : (n : ℕ) → n ≡ capped (size_of_named types (length types) key) → (k : List ℕ) (m : ℕ) → or_now known key n k ≡ Some m
      → m ≡ capped (size_of_named types (length types) k)
  right_now n is k m e =
      elim (cases_Bool (bytes_eq k key)) [
        | inl on ↦ same_Some m n (sym e ∙ ap (λ b. cond b (Some n) (known k)) on) ∙ is
            ∙ ap (λ x. capped (size_of_named types (length types) x)) (sym ((bytes_eq-Decides k key).0 on))
        | inr off ↦ open_so.right k m (sym (ap (λ b. cond b (Some n) (known k)) off) ∙ e)
      ]

  known_now : (n : ℕ) (k : List ℕ) → IsSome (known k) → IsSome (or_now known key n k)
  known_now n k some = elim (bytes_eq k key) as (λ b. IsSome (cond b (Some n) (known k))) [ true ↦ refl | false ↦ some ]

  key_now : (n : ℕ) → IsSome (or_now known key n key)
  key_now n = ap (λ b. is_some (cond b (Some n) (known key))) ((bytes_eq-Decides key key).1 refl)

  pub type_left : (n : ℕ) → n ≡ capped (size_of_named types (length types) key) → IsOpen types (or_now known key n) xs
  type_left n is =
      let more = or_now known key n in
      record {
        right = right_now n is;
        covered = covered_popped more xs (leave key vars) (key_now n)
            (covered_more known more (known_now n) (xs ++ leave key vars ∷ []) open_so.covered);
        there = there_front types xs (leave key vars ∷ []) open_so.there;
        reached = λ k t. still more k xs (leave key vars) (key_now n)
            (elim (open_so.reached k t) [ inl s ↦ inl (known_now n k s) | inr r ↦ inr r ]);
      }

-- where nothing is left to be visited, all sizes are known
pub all_known : (types : List NamedType) (known : List ℕ → Option ℕ) → IsOpen types known [] → (key : List ℕ)
    → unwrap_or (known key) 0 ≡ capped (size_of_named types (length types) key)
all_known types known open_so key = by (known key) refl
  where
    no_type : (n : ℕ) (o : Option (List VarTree)) → look_up types key ≡ o → is_some o ≡ false → size_of_named types n key ≡ 0
    no_type zero o e none = refl
    no_type (suc n) None e none = ap (λ o. size_of_vars (size_of_named types n) (instance Static) (listed (unwrap_or o []))) e
    no_type (suc n) (Some vars) e none = absurd (true≢false none)

    by : (o : Option ℕ) → known key ≡ o → unwrap_or o 0 ≡ capped (size_of_named types (length types) key)
    by (Some n) e = open_so.right key n e
    by None e =
        elim (cases_Bool (is_some (look_up types key))) [
          | inl on ↦ elim (open_so.reached key on) [
            | inl s ↦ absurd (true≢false (sym (ap is_some (sym e) ∙ s)))
            | inr r ↦ absurd r
          ]
          | inr off ↦ sym (ap capped (no_type (length types) (look_up types key) refl off))
        ]
