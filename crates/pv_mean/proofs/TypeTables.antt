-- The named types of a project that keeps the rules: their names differ, so that a table has each, and no more of them stand inside one
-- another than there are.
use Rattle.std.proofs.Common.{◌≡◌, inl, inr, ℕ, zero, suc, ◌≤◌, List, [], ◌∷◌, ◌++◌, Bool, true, false, cond, Option, Some, None, length, map, refl, sym, ap, ◌∙◌, subst, arith, append_assoc}
use Rattle.std.specs.Prelude.{◌≢◌, ⊤, filter, is_some, option_and_then, IsSome, MatchOption, Contains, bytes_eq}
use Rattle.std.proofs.lemmas.Bool.{true≢false, or_cases, cases_Bool}
use Rattle.std.proofs.lemmas.Option.{none-some}
use Rattle.std.proofs.lemmas.List.{append-nil}
use Rattle.std.proofs.lemmas.List.Elements.{Contains-append_left}
use Rattle.std.proofs.lemmas.Slice.Eq.{bytes_eq-Decides}
use Rattle.pv_place.specs.declared.place.Place.{Place}
use Rattle.pv_types.specs.Tree.{named}
use Rattle.pv_types.specs.View.{listed}
use Rattle.pv_types.specs.Named.{NamedType, look_up, with_type, AllNamedIn, NestsWithin}
use Rattle.pv_tree.specs.Tree.{PlacedName, BlockTree}
use Rattle.pv_tree.specs.Scopes.{ProjectTree, is_type, block_where, first_block, type_named}
use Rattle.pv_tree.specs.NamedTypes.{named_type, types_of_project}
use Rattle.pv_tree.specs.Interfaces.{IsLater}
use Rattle.pv_tree.specs.Rules.{KeepsRules, doubled_name}
use Rattle.pv_tree.specs.Rules.MissingTypes.{names_in_vars, name_of_kind, Holds, at_once}
use Rattle.pv_tree.specs.RuleLaws.{TypesAreGrounded}
use Rattle.pv_tree.proofs.ForCallers.{type_contained, type_looked_up, left, also, left_all, fewer, all_named_in, holds_then, named_by, some_of, grounded}
use Rattle.pv_mean.specs.ProjectSizes.{with_block, with_blocks}
use Rattle.pv_mean.specs.Visits.{enter, seeds_of, Awaits, Covered, AreThere, AllNest, IsOpen}

-- ---- names that differ

abbrev placed : BlockTree → PlacedName
placed b = (b.name, b.place)

abbrev Differ : List BlockTree → Type 0
Differ [] = ⊤
Differ (b ∷ bs) = ((c : BlockTree) → Contains bs c → bytes_eq c.name.key b.name.key ≡ false) × Differ bs

contains_here : {X : Type 0} (x y : X) (xs : List X) → x ≡ y → Contains (x ∷ xs) y
contains_here x y xs e = (0, omega arith, e)

contains_later : {X : Type 0} (x y : X) (xs : List X) → Contains xs y → Contains (x ∷ xs) y
contains_later x y xs (k, lt, e) = (suc k, omega (arith, lt), e)

contains_map : {X Y : Type 0} (f : X → Y) (xs : List X) (x : X) → Contains xs x → Contains (map f xs) (f x)
contains_map f [] x (k, lt, e) = absurd (omega (arith, lt))
contains_map f (y ∷ ys) x (zero, lt, e) = contains_here (f y) (f x) (map f ys) (ap f e)
contains_map f (y ∷ ys) x (suc k, lt, e) = contains_later (f y) (f x) (map f ys) (contains_map f ys x (k, omega (arith, lt), e))

-- an element with what stands before it and behind it
record Split {X : Type 0} (xs : List X) (x : X) : Type 0 where
  front : List X
  back : List X
  is : xs ≡ front ++ x ∷ back

split_at : {X : Type 0} (xs : List X) (x : X) → Contains xs x → Split xs x
split_at [] x (k, lt, e) = absurd (omega (arith, lt))
split_at (y ∷ ys) x (zero, lt, e) = record { front = []; back = ys; is = ap (λ z. z ∷ ys) e }
split_at (y ∷ ys) x (suc k, lt, e) =
    let s = split_at ys x (k, omega (arith, lt), e) in record { front = y ∷ s.front; back = s.back; is = ap (λ l. y ∷ l) s.is }

map_split : {X Y : Type 0} (f : X → Y) (front : List X) (x : X) (back : List X) → map f (front ++ x ∷ back) ≡ map f front ++ f x ∷ map f back
map_split f [] x back = refl
map_split f (y ∷ ys) x back = ap (λ l. f y ∷ l) (map_split f ys x back)

later_of : (b c : BlockTree) (bs : List BlockTree) → Contains bs c → bytes_eq c.name.key b.name.key ≡ true
    → IsLater (map placed (b ∷ bs)) c.place
later_of b c bs there same =
    let s = split_at bs c there in
    record {
      front = placed b ∷ map placed s.front;
      later = placed c;
      back = map placed s.back;
      split = ap (λ l. placed b ∷ map placed l) s.is ∙ ap (λ l. placed b ∷ l) (map_split placed s.front c s.back);
      is_before = contains_here b.name.key c.name.key (map (λ n. n.0.key) (map placed s.front))
          (sym ((bytes_eq-Decides c.name.key b.name.key).0 same));
      is_at = refl;
    }

later_behind : (n : PlacedName) (names : List PlacedName) (at : Place) → IsLater names at → IsLater (n ∷ names) at
later_behind n names at l = record {
  front = n ∷ l.front;
  later = l.later;
  back = l.back;
  split = ap (λ ns. n ∷ ns) l.split;
  is_before = contains_later n.0.key l.later.0.key (map (λ m. m.0.key) l.front) l.is_before;
  is_at = l.is_at;
}

differ_where : (bs : List BlockTree) → ((at : Place) → IsLater (map placed bs) at → ⊥) → Differ bs
differ_where [] none = tt
differ_where (b ∷ bs) none = (
  λ c there. elim (cases_Bool (bytes_eq c.name.key b.name.key)) [
    | inl same ↦ absurd (none c.place (later_of b c bs there same))
    | inr other ↦ other
  ],
  differ_where bs (λ at l. none at (later_behind (placed b) (map placed bs) at l)),
)

pub names_differ : (project : ProjectTree) → KeepsRules project → Differ project.blocks
names_differ project keeps = differ_where project.blocks (λ at l. keeps doubled_name at (inl l))

-- ---- the table has each type

abbrev types_among : List BlockTree → List NamedType
types_among bs = map named_type (filter (λ b. is_type b.kind) bs)

look-append : (xs : List NamedType) (t : NamedType) (key : List ℕ) → look_up xs key ≡ None → bytes_eq key t.key ≡ false
    → look_up (xs ++ t ∷ []) key ≡ None
look-append [] t key none other = ap (λ b. cond b (Some t.vars) None) other
look-append (x ∷ xs) t key none other =
    elim (cases_Bool (bytes_eq key x.key)) [
      | inl on ↦ absurd (none-some x.vars (sym none ∙ ap (λ b. cond b (Some x.vars) (look_up xs key)) on))
      | inr off ↦ ap (λ b. cond b (Some x.vars) (look_up (xs ++ t ∷ []) key)) off
          ∙ look-append xs t key (sym (ap (λ b. cond b (Some x.vars) (look_up xs key)) off) ∙ none) other
    ]

gathered : (types : List NamedType) (bs : List BlockTree) → Differ bs → ((c : BlockTree) → Contains bs c → look_up types c.name.key ≡ None)
    → with_blocks types bs ≡ types ++ types_among bs
gathered types [] differ fresh = sym (append-nil types)
gathered types (b ∷ bs) differ fresh =
    elim (cases_Bool (is_type b.kind)) [
      | inl on ↦
          let grown : with_block types b ≡ types ++ named_type b ∷ [] =
          ap (λ c. cond c (with_type types (named_type b)) types) on
          ∙ ap (λ o. cond (is_some o) types (types ++ named_type b ∷ [])) (fresh b (contains_here b b bs refl)) in
          ap (λ ts. with_blocks ts bs) grown
          ∙ gathered (types ++ named_type b ∷ []) bs differ.1
          (λ c there. look-append types (named_type b) c.name.key (fresh c (contains_later b c bs there)) (differ.0 c there))
          ∙ append_assoc types (named_type b ∷ []) (types_among bs)
          ∙ ap (λ l. types ++ map named_type l) (sym (ap (λ c. cond c (b ∷ filter (λ x. is_type x.kind) bs) (filter (λ x. is_type x.kind) bs)) on))
      | inr off ↦
          ap (λ ts. with_blocks ts bs) (ap (λ c. cond c (with_type types (named_type b)) types) off)
          ∙ gathered types bs differ.1 (λ c there. fresh c (contains_later b c bs there))
          ∙ ap (λ l. types ++ map named_type l) (sym (ap (λ c. cond c (b ∷ filter (λ x. is_type x.kind) bs) (filter (λ x. is_type x.kind) bs)) off))
    ]

pub table_has_all : (project : ProjectTree) → KeepsRules project → with_blocks [] project.blocks ≡ types_of_project project
table_has_all project keeps = gathered [] project.blocks (names_differ project keeps) (λ c there. refl)

-- ---- what is looked up is the type of the name

looked_contained : (bs : List BlockTree) (key : List ℕ) → IsSome (look_up (types_among bs) key)
    → (c : BlockTree) × (Contains bs c × (bytes_eq key c.name.key ≡ true))
looked_contained [] key some = absurd (true≢false (sym some))
looked_contained (b ∷ bs) key some =
    elim (cases_Bool (bytes_eq key b.name.key)) [
      | inl on ↦ (b, (contains_here b b bs refl, on))
      | inr off ↦
          let rest = looked_contained bs key (passed (is_type b.kind) refl off) in (rest.0, (contains_later b rest.0 bs rest.1.0, rest.1.1))
    ]
  where
    passed : (typed : Bool) → is_type b.kind ≡ typed → bytes_eq key b.name.key ≡ false → IsSome (look_up (types_among bs) key)
    passed true t off =
        sym (ap (λ c. is_some (cond c (Some b.vars) (look_up (types_among bs) key))) off)
        ∙ sym (ap (λ c. is_some (look_up (map named_type (cond c (b ∷ filter (λ x. is_type x.kind) bs) (filter (λ x. is_type x.kind) bs))) key)) t)
        ∙ some
    passed false t off =
        sym (ap (λ c. is_some (look_up (map named_type (cond c (b ∷ filter (λ x. is_type x.kind) bs) (filter (λ x. is_type x.kind) bs))) key)) t)
        ∙ some

same_key : (key a b : List ℕ) → bytes_eq key a ≡ true → bytes_eq key b ≡ true → bytes_eq a b ≡ true
same_key key a b p q = (bytes_eq-Decides a b).1 (sym ((bytes_eq-Decides key a).0 p) ∙ (bytes_eq-Decides key b).0 q)

typed_first : (bs : List BlockTree) (key : List ℕ) → Differ bs → IsSome (look_up (types_among bs) key)
    → (b : BlockTree) × (option_and_then (block_where (λ x. is_type x.kind)) (first_block bs key) ≡ Some b)
typed_first [] key differ some = absurd (true≢false (sym some))
typed_first (b ∷ bs) key differ some = by (typed_first bs key differ.1) (bytes_eq key b.name.key) (is_type b.kind) refl refl
  where
    rest : (typed : Bool) → is_type b.kind ≡ typed → bytes_eq key b.name.key ≡ false → IsSome (look_up (types_among bs) key)
    rest true t off =
        sym (ap (λ c. is_some (cond c (Some b.vars) (look_up (types_among bs) key))) off)
        ∙ sym (ap (λ c. is_some (look_up (map named_type (cond c (b ∷ filter (λ x. is_type x.kind) bs) (filter (λ x. is_type x.kind) bs))) key)) t)
        ∙ some
    rest false t off =
        sym (ap (λ c. is_some (look_up (map named_type (cond c (b ∷ filter (λ x. is_type x.kind) bs) (filter (λ x. is_type x.kind) bs))) key)) t)
        ∙ some

    behind : is_type b.kind ≡ false → IsSome (look_up (types_among bs) key)
    behind t =
        sym (ap (λ c. is_some (look_up (map named_type (cond c (b ∷ filter (λ x. is_type x.kind) bs) (filter (λ x. is_type x.kind) bs))) key)) t)
        ∙ some

    by : (IsSome (look_up (types_among bs) key)
        → (c : BlockTree) × (option_and_then (block_where (λ x. is_type x.kind)) (first_block bs key) ≡ Some c)) → (same typed : Bool)
        → bytes_eq key b.name.key ≡ same → is_type b.kind ≡ typed
        → (c : BlockTree) × (option_and_then (block_where (λ x. is_type x.kind)) (first_block (b ∷ bs) key) ≡ Some c)
    by more true true s t = (
      b,
      ap (λ c. option_and_then (block_where (λ x. is_type x.kind)) (cond c (Some b) (first_block bs key))) s
          ∙ ap (λ c. cond c (Some b) None) t,
    )
    by more true false s t =
        let found = looked_contained bs key (behind t) in
        absurd (true≢false (sym (same_key key found.0.name.key b.name.key found.1.1 s) ∙ differ.0 found.0 found.1.0))
    by more false typed s t =
        let found = more (rest typed t s) in (
          found.0,
          ap (λ c. option_and_then (block_where (λ x. is_type x.kind)) (cond c (Some b) (first_block bs key))) s ∙ found.1,
        )

-- ---- types that nest

-- a type that isn't among those that were met, each of which leads to it
nests : (project : ProjectTree) → TypesAreGrounded project → (n : ℕ) (met : List ℕ → Bool) (key : List ℕ) (b : BlockTree)
    → type_named project key ≡ Some b
    → met key ≡ false
    → left met (types_of_project project) ≤ n
    → ((k : List ℕ) → met k ≡ true → Holds project k key)
    → NestsWithin (types_of_project project) n key
nests project g zero met key b found unmet le holds =
    absurd (omega (arith, le, fewer key met (types_of_project project) unmet (ap is_some (type_looked_up project key b found))))
nests project g (suc n) met key b found unmet le holds =
    let looked = type_looked_up project key b found in
    let less = fewer key met (types_of_project project) unmet (ap is_some looked) in
    subst (λ o. MatchOption o ⊥ (λ vars. AllNamedIn (NestsWithin (types_of_project project) n) (listed vars))) (sym looked)
    (all_named_in (NestsWithin (types_of_project project) n) (listed b.vars) (λ inner c.
    let inb = type_contained project key b found in
    let inn = Contains-append_left (names_in_vars (listed b.vars)) (name_of_kind b.kind) inner c in
    let below = some_of (type_named project inner.0.key) (g.there b inner inb inn) in
    let leads : (k : List ℕ) → also key met k ≡ true → Holds project k inner.0.key = λ k t.
    elim (or_cases (bytes_eq key k) (met k) t) [
      | inl same ↦ subst (λ x. Holds project x inner.0.key) ((bytes_eq-Decides key k).0 same)
          (at_once (named_by project key b inner found c))
      | inr was ↦ holds_then project k key inner.0.key (holds k was) (named_by project key b inner found c)
    ] in
    nests project g n (also key met) inner.0.key below.0 below.1
    (elim (cases_Bool (also key met inner.0.key)) [ inl on ↦ absurd (g.ends b inner inb inn (leads inner.0.key on)) | inr off ↦ off ])
    (omega (arith, le, less)) leads))

pub types_all_nest : (project : ProjectTree) → KeepsRules project → AllNest (types_of_project project)
types_all_nest project keeps = λ key some.
    let found = typed_first project.blocks key (names_differ project keeps) some in
    nests project (grounded project keeps) (length (types_of_project project)) (λ k. false) key found.0 found.1 refl
    (omega (arith, left_all (types_of_project project))) (λ k t. absurd (true≢false (sym t)))

-- ---- a search begins with each type

seeds_covered : (known : List ℕ → Option ℕ) (bs : List BlockTree) → Covered known (seeds_of bs)
seeds_covered known [] = tt
seeds_covered known (b ∷ bs) =
    elim (is_type b.kind) as (λ t. Covered known (cond t (enter b.name.key ∷ []) [] ++ seeds_of bs))
    [ true ↦ seeds_covered known bs | false ↦ seeds_covered known bs ]

seeds_there : (types : List NamedType) (bs : List BlockTree)
    → ((key : List ℕ) → IsSome (look_up (types_among bs) key) → IsSome (look_up types key))
    → AreThere types (seeds_of bs)
seeds_there types [] each = tt
seeds_there types (b ∷ bs) each = by (seeds_there types bs) (is_type b.kind) refl
  where
    typed : (t : Bool) → is_type b.kind ≡ t → (key : List ℕ)
        → IsSome (look_up (map named_type (cond t (b ∷ filter (λ x. is_type x.kind) bs) (filter (λ x. is_type x.kind) bs))) key)
        → IsSome (look_up types key)
    typed t e key some = each key
        (ap (λ c. is_some (look_up (map named_type (cond c (b ∷ filter (λ x. is_type x.kind) bs) (filter (λ x. is_type x.kind) bs))) key)) e
        ∙ some)

    or_there : (key : List ℕ) → IsSome (look_up (types_among bs) key) → IsSome (look_up (named_type b ∷ types_among bs) key)
    or_there key some = elim (bytes_eq key b.name.key) as (λ c. IsSome (cond c (Some b.vars) (look_up (types_among bs) key)))
        [ true ↦ refl | false ↦ some ]

    by : (((key : List ℕ) → IsSome (look_up (types_among bs) key) → IsSome (look_up types key)) → AreThere types (seeds_of bs))
        → (t : Bool) → is_type b.kind ≡ t → AreThere types (cond t (enter b.name.key ∷ []) [] ++ seeds_of bs)
    by more true e = (
      typed true e b.name.key
          (ap (λ c. is_some (cond c (Some b.vars) (look_up (types_among bs) b.name.key))) ((bytes_eq-Decides b.name.key b.name.key).1 refl)),
      more (λ key some. typed true e key (or_there key some)),
    )
    by more false e = more (λ key some. typed false e key some)

seeds_await : (bs : List BlockTree) (key : List ℕ) → IsSome (look_up (types_among bs) key) → Awaits key (seeds_of bs)
seeds_await [] key some = absurd (true≢false (sym some))
seeds_await (b ∷ bs) key some = by (seeds_await bs key) (is_type b.kind) some
  where
    found : (IsSome (look_up (types_among bs) key) → Awaits key (seeds_of bs)) → (same : Bool) → bytes_eq key b.name.key ≡ same → IsSome (cond same (Some b.vars) (look_up (types_among bs) key))
        → Awaits key (enter b.name.key ∷ seeds_of bs)
    found more true e s = inl (sym ((bytes_eq-Decides key b.name.key).0 e))
    found more false e s = inr (more s)

    by : (IsSome (look_up (types_among bs) key) → Awaits key (seeds_of bs)) → (t : Bool)
        → IsSome (look_up (map named_type (cond t (b ∷ filter (λ x. is_type x.kind) bs) (filter (λ x. is_type x.kind) bs))) key)
        → Awaits key (cond t (enter b.name.key ∷ []) [] ++ seeds_of bs)
    by more true s = found more (bytes_eq key b.name.key) refl s
    by more false s = more s

pub search_begins : (project : ProjectTree) (known : List ℕ → Option ℕ) → ((key : List ℕ) → known key ≡ None)
    → IsOpen (types_of_project project) known (seeds_of project.blocks)
search_begins project known none = record {
  right = λ key n e. absurd (none-some n (sym (none key) ∙ e));
  covered = seeds_covered known project.blocks;
  there = seeds_there (types_of_project project) project.blocks (λ key some. some);
  reached = λ key some. inr (seeds_await project.blocks key some);
}
