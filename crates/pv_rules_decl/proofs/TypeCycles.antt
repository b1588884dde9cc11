-- Types by number: a type leads to another by steps exactly where the definition says that it contains it.
use Rattle.std.proofs.Common.{◌≡◌, ℕ, zero, suc, ◌<◌, ◌≤◌, Bool, true, false, List, [], ◌∷◌, map, length, get_or, take, refl, ap, sym, subst, ◌∙◌, arith, inl, inr}
use Rattle.std.specs.Prelude.{◌⊎◌, Option, Some, None, option_map, option_to_list, option_and_then, find, flat_map, bytes_eq, cond, if◌then◌else◌, Any, Contains}
use Rattle.std.proofs.lemmas.Bool.{cases_Bool}
use Rattle.std.proofs.lemmas.Slice.Eq.{bytes_eq-Decides}
use Rattle.pv_place.specs.declared.place.Place.{Place}
use Rattle.pv_types.specs.declared.name.Name.{Name}
use Rattle.pv_types.specs.Tree.{TypeTree, plain, array, structure, named, unread, var, VarTrees, no_vars, _then_}
use Rattle.pv_types.specs.View.{listed}
use Rattle.pv_tree.specs.Tree.{PlacedName, BlockTree}
use Rattle.pv_tree.specs.Scopes.{ProjectTree, has_key, is_type, block_where, type_named}
use Rattle.pv_tree.specs.Interfaces.{types_in, types_in_vars, all_types}
use Rattle.pv_tree.specs.Rules.MissingTypes.{names_in, names_in_vars, name_of_kind, named_types, named_within, Holds, at_once, within, IsMissingOrEndless, IsMissingType}
use Rattle.pv_rules_expr.specs.Members.{HasSome, Has}
use Rattle.pv_graph.specs.Graphs.{next_of, Leads, here, by, LeadFrom}
use Rattle.pv_graph.specs.Cycles.{AreOnCycles}
use Rattle.pv_graph.specs.Members.{Has as HasNode}
use Rattle.pv_graph.proofs.ForCallers.{has_front as node_front, has_behind as node_behind, has_either as node_either, some_of as some_node, of_some as of_node}
use Rattle.pv_rules_decl.specs.TypeNumbers.{type_number, numbers_of_type, targets_in, types_graph, IsWrongNumber, IsWrongName, NamesWrongType, HasWrongType}
use Rattle.pv_rules_expr.proofs.ForCallers.{has_front, has_behind, has_either}
use Rattle.std.specs.Prelude.{◌↔◌, slice_index_or}
use Rattle.pv_tree.specs.View.{block_tree}
use Rattle.pv_tree.specs.declared.block.Block.{Block}
use Rattle.pv_rules_expr.specs.Nearest.{Nears, IsNearest}
use Rattle.pv_names.specs.Firsts.{number_in, first_number, FindsFirsts}
use Rattle.pv_rules_decl.specs.Declarations.{HaveTheSame}
use Rattle.pv_rules_decl.specs.TypeNames.{NumbersTypes}
use Rattle.pv_rules_decl.proofs.Sharing.{some_same, same_back}
use Rattle.pv_rules_decl.specs.declared.types.TypeNames.{TypeNames}
use Rattle.pv_rules_expr.proofs.ForCallers.{any_has, has_any, near_same, nearest_by, near_then, all_taken}
use Rattle.pv_rules_expr.proofs.ForCallers.{has_contains, contains_has}
use Rattle.pv_rules_decl.proofs.Projecting.{some_each}

-- ---- the one of a list that has it

some_of : {X : Type 0} (P : X → Type 0) (xs : List X) → HasSome P xs → (x : X) × Has xs x × P x
some_of P [] h = absurd h
some_of P (x ∷ xs) (inl p) = (x, inl refl, p)
some_of P (x ∷ xs) (inr h) = let rest = some_of P xs h in (rest.0, inr rest.1, rest.2)

of_some : {X : Type 0} (P : X → Type 0) (xs : List X) (x : X) → Has xs x → P x → HasSome P xs
of_some P [] x h p = absurd h
of_some P (y ∷ ys) x (inl same) p = inl (subst P (sym same) p)
of_some P (y ∷ ys) x (inr h) p = inr (of_some P ys x h p)

-- ---- a name and the number of its type

abbrev named_in : List BlockTree → List ℕ → Option BlockTree
named_in bs key = option_and_then (block_where (λ b. is_type b.kind)) (find (λ b. has_key key b.name) bs)

record Found (bs : List BlockTree) (key : List ℕ) (i : ℕ) : Type 0 where
  pub block : BlockTree
  pub numbered : type_number bs key ≡ Some i
  pub is_named : named_in bs key ≡ Some block
  pub below : i < length bs
  pub at : (d : BlockTree) → get_or bs i d ≡ block
  pub same : key ≡ block.name.key
  pub typed : is_type block.kind ≡ true

abbrev Told : List BlockTree → List ℕ → Type 0
Told bs key = ((type_number bs key ≡ None) × (named_in bs key ≡ None)) ⊎ ((i : ℕ) × Found bs key i)

told : (bs : List BlockTree) (key : List ℕ) → Told bs key
told [] key = inl (refl, refl)
told (b ∷ bs) key = elim (cases_Bool (has_key key b.name)) [
  | inl on ↦ elim (cases_Bool (is_type b.kind)) [
    | inl typed ↦ inr (
      0,
      record {
        block = b;
        numbered = ap (λ t. if t then (if is_type b.kind then Some 0 else None) else option_map (λ n. suc n) (type_number bs key)) on
            ∙ ap (λ t. if t then Some 0 else None) typed;
        is_named = ap (λ t. option_and_then (block_where (λ x. is_type x.kind)) (cond t (Some b) (find (λ x. has_key key x.name) bs))) on
            ∙ ap (λ t. if t then Some b else None) typed;
        below = omega arith;
        at = λ d. refl;
        same = (bytes_eq-Decides key b.name.key).0 on;
        typed = typed;
      },
    )
    | inr other ↦ inl (
      ap (λ t. if t then (if is_type b.kind then Some 0 else None) else option_map (λ n. suc n) (type_number bs key)) on
          ∙ ap (λ t. if t then Some 0 else None) other,
      ap (λ t. option_and_then (block_where (λ x. is_type x.kind)) (cond t (Some b) (find (λ x. has_key key x.name) bs))) on
          ∙ ap (λ t. if t then Some b else None) other,
    )
  ]
  | inr off ↦ elim (told bs key) [
    | inl none ↦ inl (
      ap (λ t. if t then (if is_type b.kind then Some 0 else None) else option_map (λ n. suc n) (type_number bs key)) off ∙ ap (option_map (λ n. suc n)) none.0,
      ap (λ t. option_and_then (block_where (λ x. is_type x.kind)) (cond t (Some b) (find (λ x. has_key key x.name) bs))) off ∙ none.1,
    )
    | inr rest ↦ let f = rest.1 in let i = rest.0 in inr (
      suc i,
      record {
        block = f.block;
        numbered = ap (λ t. if t then (if is_type b.kind then Some 0 else None) else option_map (λ n. suc n) (type_number bs key)) off
            ∙ ap (option_map (λ n. suc n)) f.numbered;
        is_named = ap (λ t. option_and_then (block_where (λ x. is_type x.kind)) (cond t (Some b) (find (λ x. has_key key x.name) bs))) off ∙ f.is_named;
        below = let less = f.below in omega (arith, less);
        at = λ d. f.at d;
        same = f.same;
        typed = f.typed;
      },
    )
  ]
]

some_number : (m n : ℕ) → Some m ≡ Some n → m ≡ n
some_number m n e = cc

never_some : (n : ℕ) → None ≡ Some n → ⊥
never_some n e = cc

found : (bs : List BlockTree) (key : List ℕ) (i : ℕ) → type_number bs key ≡ Some i → Found bs key i
found bs key i is = elim (told bs key) [
  | inl none ↦ absurd (never_some i (sym none.0 ∙ is))
  | inr it ↦ subst (Found bs key) (some_number it.0 i (sym it.1.numbered ∙ is)) it.1
]

-- one number is that of one name
same_name : (bs : List BlockTree) (key other : List ℕ) (i : ℕ) → Found bs key i → Found bs other i → key ≡ other
same_name bs key other i f g = f.same ∙ ap (λ b. b.name.key) (sym (f.at f.block) ∙ g.at f.block) ∙ sym g.same

-- ---- types and names in declarations

abbrev IsNamed : (Name → Place → Type 0) → TypeTree → Type 0
IsNamed P (plain ty) = ⊥
IsNamed P (array low high of place) = ⊥
IsNamed P (structure vars) = ⊥
IsNamed P (named name place) = P name place
IsNamed P unread = ⊥

mutual
  name_in : (P : Name → Place → Type 0) (t : TypeTree) → HasSome (IsNamed P) (types_in t) → HasSome (λ n. P n.0 n.1) (names_in t)
  name_in P (plain ty) h = elim h [ inl p ↦ p | inr p ↦ p ]
  name_in P (array low high of place) h = elim h [ inl p ↦ absurd p | inr p ↦ name_in P of p ]
  name_in P (structure vars) h = elim h [ inl p ↦ absurd p | inr p ↦ name_in_vars P vars p ]
  name_in P (named name place) h = h
  name_in P unread h = elim h [ inl p ↦ p | inr p ↦ p ]

  name_in_vars : (P : Name → Place → Type 0) (vs : VarTrees) → HasSome (IsNamed P) (types_in_vars vs) → HasSome (λ n. P n.0 n.1) (names_in_vars vs)
  name_in_vars P no_vars h = h
  name_in_vars P (_then_ (var name section ty start place) more) h = elim (has_either (IsNamed P) (types_in ty) (types_in_vars more) h) [
    | inl p ↦ has_front (λ n. P n.0 n.1) (names_in ty) (names_in_vars more) (name_in P ty p)
    | inr p ↦ has_behind (λ n. P n.0 n.1) (names_in ty) (names_in_vars more) (name_in_vars P more p)
  ]

mutual
  type_in : (P : Name → Place → Type 0) (t : TypeTree) → HasSome (λ n. P n.0 n.1) (names_in t) → HasSome (IsNamed P) (types_in t)
  type_in P (plain ty) h = absurd h
  type_in P (array low high of place) h = inr (type_in P of h)
  type_in P (structure vars) h = inr (type_in_vars P vars h)
  type_in P (named name place) h = h
  type_in P unread h = absurd h

  type_in_vars : (P : Name → Place → Type 0) (vs : VarTrees) → HasSome (λ n. P n.0 n.1) (names_in_vars vs) → HasSome (IsNamed P) (types_in_vars vs)
  type_in_vars P no_vars h = h
  type_in_vars P (_then_ (var name section ty start place) more) h = elim (has_either (λ n. P n.0 n.1) (names_in ty) (names_in_vars more) h) [
    | inl p ↦ has_front (IsNamed P) (types_in ty) (types_in_vars more) (type_in P ty p)
    | inr p ↦ has_behind (IsNamed P) (types_in ty) (types_in_vars more) (type_in_vars P more p)
  ]

-- ---- targets

flat_has : {X : Type 0} (f : X → List ℕ) (xs : List X) (j : ℕ) → HasNode (flat_map f xs) j → HasSome (λ x. HasNode (f x) j) xs
flat_has f [] j h = h
flat_has f (x ∷ xs) j h = elim (node_either (λ y. y ≡ j) (f x) (flat_map f xs) h) [ inl p ↦ inl p | inr p ↦ inr (flat_has f xs j p) ]

has_flat : {X : Type 0} (f : X → List ℕ) (xs : List X) (j : ℕ) → HasSome (λ x. HasNode (f x) j) xs → HasNode (flat_map f xs) j
has_flat f [] j h = h
has_flat f (x ∷ xs) j (inl p) = node_front (λ y. y ≡ j) (f x) (flat_map f xs) p
has_flat f (x ∷ xs) j (inr p) = node_behind (λ y. y ≡ j) (f x) (flat_map f xs) (has_flat f xs j p)

one_of : (o : Option ℕ) (j : ℕ) → HasNode (option_to_list o) j → o ≡ Some j
one_of None j h = absurd h
one_of (Some i) j (inl is) = ap Some is
one_of (Some i) j (inr never) = absurd never

of_one : (o : Option ℕ) (j : ℕ) → o ≡ Some j → HasNode (option_to_list o) j
of_one o j is = subst (λ x. HasNode (option_to_list x) j) (sym is) (inl refl)

number_named : (bs : List BlockTree) (j : ℕ) (t : TypeTree) → HasNode (numbers_of_type bs t) j → IsNamed (λ n p. type_number bs n.key ≡ Some j) t
number_named bs j (plain ty) h = h
number_named bs j (array low high of place) h = h
number_named bs j (structure vars) h = h
number_named bs j (named name place) h = one_of (type_number bs name.key) j h
number_named bs j unread h = h

named_number : (bs : List BlockTree) (j : ℕ) (t : TypeTree) → IsNamed (λ n p. type_number bs n.key ≡ Some j) t → HasNode (numbers_of_type bs t) j
named_number bs j (plain ty) h = h
named_number bs j (array low high of place) h = h
named_number bs j (structure vars) h = h
named_number bs j (named name place) h = of_one (type_number bs name.key) j h
named_number bs j unread h = h

next_at : {X : Type 0} (f : X → List ℕ) (xs : List X) (i : ℕ) (x : X) → i < length xs → get_or xs i x ≡ x → next_of (map f xs) i ≡ f x
next_at f [] i x lt is = absurd (omega (arith, lt))
next_at f (y ∷ ys) zero x lt is = ap f is
next_at f (y ∷ ys) (suc i) x lt is = next_at f ys i x (omega (arith, lt)) is

targets_at : (bs : List BlockTree) (key : List ℕ) (i : ℕ) (f : Found bs key i) → next_of (types_graph bs) i
    ≡ flat_map (numbers_of_type bs) (all_types f.block.vars)
targets_at bs key i f =
    next_at (targets_in bs) bs i f.block f.below (f.at f.block)
    ∙ ap (λ t. if t then flat_map (numbers_of_type bs) (all_types f.block.vars) else []) f.typed

-- a target is a type that the block names
target_name : (bs : List BlockTree) (key : List ℕ) (i j : ℕ) (f : Found bs key i) → HasNode (next_of (types_graph bs) i) j
    → (n : PlacedName) × Has (names_in_vars (listed f.block.vars)) n × (type_number bs n.0.key ≡ Some j)
target_name bs key i j f h =
    some_of (λ n. type_number bs n.0.key ≡ Some j) (names_in_vars (listed f.block.vars))
    (name_in_vars (λ n p. type_number bs n.key ≡ Some j) (listed f.block.vars)
    (some_each (all_types f.block.vars) (number_named bs j)
    (flat_has (numbers_of_type bs) (all_types f.block.vars) j (subst (λ l. HasNode l j) (targets_at bs key i f) h))))

name_target : (bs : List BlockTree) (key : List ℕ) (i j : ℕ) (f : Found bs key i) (n : PlacedName) → Has (names_in_vars (listed f.block.vars)) n
    → type_number bs n.0.key ≡ Some j → HasNode (next_of (types_graph bs) i) j
name_target bs key i j f n h is =
    subst (λ l. HasNode l j) (sym (targets_at bs key i f))
    (has_flat (numbers_of_type bs) (all_types f.block.vars) j
    (some_each (all_types f.block.vars) (named_number bs j)
    (type_in_vars (λ m p. type_number bs m.key ≡ Some j) (listed f.block.vars)
    (of_some (λ m. type_number bs m.0.key ≡ Some j) (names_in_vars (listed f.block.vars)) n h is))))

-- ---- what a type names, by its key

has_key_of : (names : List PlacedName) (key : List ℕ) → Has (map (λ n. n.0.key) names) key → (n : PlacedName) × Has names n × (n.0.key ≡ key)
has_key_of [] key h = absurd h
has_key_of (n ∷ names) key (inl is) = (n, inl refl, is)
has_key_of (n ∷ names) key (inr h) = let rest = has_key_of names key h in (rest.0, inr rest.1, rest.2)

of_key : (names : List PlacedName) (n : PlacedName) → Has names n → Has (map (λ m. m.0.key) names) n.0.key
of_key [] n h = absurd h
of_key (m ∷ names) n (inl is) = inl (ap (λ x. x.0.key) is)
of_key (m ∷ names) n (inr h) = inr (of_key names n h)

module _ (project : ProjectTree) (bs : List BlockTree) (same : project.blocks ≡ bs) where
  named_as : (key : List ℕ) → type_named project key ≡ named_in bs key
  named_as key = ap (λ l. option_and_then (block_where (λ b. is_type b.kind)) (find (λ b. has_key key b.name) l)) same

  within_as : (key : List ℕ) (i : ℕ) (f : Found bs key i) → named_within project key ≡ map (λ n. n.0.key) (names_in_vars (listed f.block.vars))
  within_as key i f = ap (λ o. elim o as (λ _. List (List ℕ)) [ None ↦ [] | Some b ↦ map (λ n. n.0.key) (names_in_vars (listed b.vars)) ]) (named_as key ∙ f.is_named)

  within_none : (key : List ℕ) → named_in bs key ≡ None → named_within project key ≡ []
  within_none key none = ap (λ o. elim o as (λ _. List (List ℕ)) [ None ↦ [] | Some b ↦ map (λ n. n.0.key) (names_in_vars (listed b.vars)) ]) (named_as key ∙ none)

  -- a key that a type names is one of its targets
  step : (outer inner : List ℕ) (j : ℕ) → Contains (named_within project outer) inner → type_number bs inner ≡ Some j
      → (i : ℕ) × (type_number bs outer ≡ Some i) × HasNode (next_of (types_graph bs) i) j
  step outer inner j c is = elim (told bs outer) [
    | inl none ↦ absurd (contains_has [] inner (subst (λ l. Contains l inner) (within_none outer none.1) c))
    | inr it ↦
        let n = has_key_of (names_in_vars (listed it.1.block.vars)) inner (contains_has _ inner (subst (λ l. Contains l inner) (within_as outer it.0 it.1) c)) in
        (it.0, it.1.numbered, name_target bs outer it.0 j it.1 n.0 n.1 (ap (type_number bs) n.2 ∙ is))
  ]

  to_leads : (outer inner : List ℕ) (j : ℕ) → Holds project outer inner → type_number bs inner ≡ Some j
      → (i : ℕ) × (type_number bs outer ≡ Some i) × LeadFrom (types_graph bs) (next_of (types_graph bs) i) j
  to_leads outer inner j (at_once c) is =
      let one = step outer inner j c is in
      (one.0, one.1, of_node (λ a. Leads (types_graph bs) a j) (next_of (types_graph bs) one.0) j one.2 here)
  to_leads outer inner j (within {middle = middle} c h) is =
      let rest = to_leads middle inner j h is in
      let one = step outer middle rest.0 c rest.1 in
      let first = some_node (λ a. Leads (types_graph bs) a j) (next_of (types_graph bs) rest.0) rest.2 in
      (one.0, one.1, of_node (λ a. Leads (types_graph bs) a j) (next_of (types_graph bs) one.0) rest.0 one.2 (by first.1 first.2))

  -- a target is a key that the type names
  back : (outer : List ℕ) (i j : ℕ) → Found bs outer i → HasNode (next_of (types_graph bs) i) j
      → (key : List ℕ) × Contains (named_within project outer) key × (type_number bs key ≡ Some j)
  back outer i j f h =
      let n = target_name bs outer i j f h in
      (n.0.0.key, subst (λ l. Contains l n.0.0.key) (sym (within_as outer i f)) (has_contains _ n.0.0.key (of_key (names_in_vars (listed f.block.vars)) n.0 n.1)), n.2)

  from_leads : (a j : ℕ) (outer key inner : List ℕ) → Leads (types_graph bs) a j → type_number bs key ≡ Some a → type_number bs inner ≡ Some j
      → Contains (named_within project outer) key → Holds project outer inner
  from_leads a j outer key inner here is to c =
      at_once (subst (Contains (named_within project outer)) (same_name bs key inner a (found bs key a is) (found bs inner a to)) c)
  from_leads a j outer key inner (by {b = b} h l) is to c =
      let next = back key a b (found bs key a is) h in
      within c (from_leads b j key next.0 inner l next.2 to next.1)

  -- ---- the rule

  wrong_is : (key : List ℕ) → IsWrongNumber bs (type_number bs key) → IsMissingOrEndless project key
  wrong_is key w = elim (told bs key) [
    | inl none ↦ inl (named_as key ∙ none.1)
    | inr it ↦
        let l = subst (IsWrongNumber bs) it.1.numbered w in
        let first = some_node (λ a. Leads (types_graph bs) a it.0) (next_of (types_graph bs) it.0) l in
        let next = back key it.0 first.0 it.1 first.1 in
        inr (from_leads first.0 it.0 key next.0 key first.2 next.2 it.1.numbered next.1)
  ]

  is_wrong : (key : List ℕ) → IsMissingOrEndless project key → IsWrongNumber bs (type_number bs key)
  is_wrong key m = elim (told bs key) [
    | inl none ↦ subst (IsWrongNumber bs) (sym none.0) tt
    | inr it ↦ subst (IsWrongNumber bs) (sym it.1.numbered) (elim m [
      | inl missing ↦ absurd (never_block it.1.block (sym (named_as key ∙ it.1.is_named) ∙ missing))
      | inr h ↦
          let l = to_leads key key it.0 h it.1.numbered in
          subst (λ i. LeadFrom (types_graph bs) (next_of (types_graph bs) i) it.0) (some_number l.0 it.0 (sym l.1 ∙ it.1.numbered)) l.2
    ])
  ]
    where
      never_block : (b : BlockTree) → Some b ≡ None → ⊥
      never_block b e = cc

  named_wrong : (at : Place) (t : TypeTree) → NamesWrongType bs at t → IsNamed (λ n p. IsWrongName bs at (n, p)) t
  named_wrong at (plain ty) h = h
  named_wrong at (array low high of place) h = h
  named_wrong at (structure vars) h = h
  named_wrong at (named name place) h = h
  named_wrong at unread h = h

  wrong_named : (at : Place) (t : TypeTree) → IsNamed (λ n p. IsWrongName bs at (n, p)) t → NamesWrongType bs at t
  wrong_named at (plain ty) h = h
  wrong_named at (array low high of place) h = h
  wrong_named at (structure vars) h = h
  wrong_named at (named name place) h = h
  wrong_named at unread h = h

  in_types : (at : Place) (b : BlockTree) → HasWrongType bs at b → HasSome (λ n. (n.1 ≡ at) × IsMissingOrEndless project n.0.key) (named_types b)
  in_types at b (inl h) =
      has_front (λ n. (n.1 ≡ at) × IsMissingOrEndless project n.0.key) (names_in_vars (listed b.vars)) (name_of_kind b.kind)
      (some_each (names_in_vars (listed b.vars)) (λ n w. (w.0, wrong_is n.0.key w.1))
      (name_in_vars (λ n p. IsWrongName bs at (n, p)) (listed b.vars) (some_each (all_types b.vars) (named_wrong at) h)))
  in_types at b (inr h) =
      has_behind (λ n. (n.1 ≡ at) × IsMissingOrEndless project n.0.key) (names_in_vars (listed b.vars)) (name_of_kind b.kind)
      (some_each (name_of_kind b.kind) (λ n w. (w.0, wrong_is n.0.key w.1)) h)

  of_types : (at : Place) (b : BlockTree) → HasSome (λ n. (n.1 ≡ at) × IsMissingOrEndless project n.0.key) (named_types b) → HasWrongType bs at b
  of_types at b h = elim (has_either (λ n. (n.1 ≡ at) × IsMissingOrEndless project n.0.key) (names_in_vars (listed b.vars)) (name_of_kind b.kind) h) [
    | inl p ↦ inl (some_each (all_types b.vars) (wrong_named at)
        (type_in_vars (λ n p. IsWrongName bs at (n, p)) (listed b.vars)
        (some_each (names_in_vars (listed b.vars)) (λ n w. (w.0, is_wrong n.0.key w.1)) p)))
    | inr p ↦ inr (some_each (name_of_kind b.kind) (λ n w. (w.0, is_wrong n.0.key w.1)) p)
  ]

  pub missing_type_is : (new : Option Place) → Nears (λ at. HasSome (HasWrongType bs at) bs) None new → IsNearest (IsMissingType project) new
  missing_type_is new n =
      nearest_by (λ at. HasSome (HasWrongType bs at) bs) (IsMissingType project) new
      (λ at h. subst (λ l. Any (λ b. Any (λ n. (n.1 ≡ at) × IsMissingOrEndless project n.0.key) (named_types b)) l) (sym same)
      (has_any (λ b. Any (λ n. (n.1 ≡ at) × IsMissingOrEndless project n.0.key) (named_types b)) bs
      (some_each bs (λ b g. has_any (λ n. (n.1 ≡ at) × IsMissingOrEndless project n.0.key) (named_types b) (in_types at b g)) h)))
      (λ at a. some_each bs (λ b g. of_types at b (any_has (λ n. (n.1 ≡ at) × IsMissingOrEndless project n.0.key) (named_types b) g))
      (any_has (λ b. Any (λ n. (n.1 ≡ at) × IsMissingOrEndless project n.0.key) (named_types b)) bs
      (subst (λ l. Any (λ b. Any (λ n. (n.1 ≡ at) × IsMissingOrEndless project n.0.key) (named_types b)) l) same a))) n

-- ---- as the code has it

abbrev pub type_there : List Bool → Option ℕ → Option ℕ
type_there kinds None = None
type_there kinds (Some i) = if slice_index_or kinds i false then Some i else None

moved_on : (b : Bool) (kinds : List Bool) (o : Option ℕ) → option_map (λ n. suc n) (type_there kinds o) ≡ type_there (b ∷ kinds) (option_map (λ n. suc n) o)
moved_on b kinds None = refl
moved_on b kinds (Some i) = elim (slice_index_or kinds i false) as (λ t. option_map (λ n. suc n) (if t then Some i else None) ≡ (if t then Some (suc i) else None)) [ true ↦ refl | false ↦ refl ]

there_is : (bs : List BlockTree) (key : List ℕ) → type_number bs key ≡ type_there (map (λ b. is_type b.kind) bs) (first_number (bytes_eq key) (map (λ b. b.name.key) bs))
there_is [] key = refl
there_is (b ∷ bs) key =
    elim (has_key key b.name) as (λ t. (if t then (if is_type b.kind then Some 0 else None) else option_map (λ n. suc n) (type_number bs key))
    ≡ type_there (is_type b.kind ∷ map (λ x. is_type x.kind) bs) (if t then Some 0 else option_map (λ n. suc n) (first_number (bytes_eq key) (map (λ x. x.name.key) bs)))) [
      | true ↦ refl
      | false ↦ ap (option_map (λ n. suc n)) (there_is bs key) ∙ moved_on (is_type b.kind) (map (λ x. is_type x.kind) bs) (first_number (bytes_eq key) (map (λ x. x.name.key) bs))
    ]

pub number_found : (names : TypeNames) (bs : List BlockTree) (key : List ℕ) (o r : Option ℕ) → NumbersTypes names bs → o ≡ number_in names.names key
    → r ≡ type_there names.kinds.items o → r ≡ type_number bs key
number_found names bs key o r are is so =
    so ∙ ap (type_there names.kinds.items) (is ∙ are.numbers key) ∙ ap (λ k. type_there k (first_number (bytes_eq key) (map (λ b. b.name.key) bs))) are.types
    ∙ sym (there_is bs key)

pub no_number : (bs : List BlockTree) (key : List ℕ) (b : Bool) → b ≡ true → None ≡ type_number bs key → (b ≡ true) ↔ IsWrongNumber bs (type_number bs key)
no_number bs key b so is = ((λ t. subst (IsWrongNumber bs) is tt), (λ w. so))

-- and what is known of its number
pub number_known : (bs : List BlockTree) (flags seen : List Bool) (key : List ℕ) (i : ℕ) (b : Bool) → AreOnCycles (types_graph bs) flags
    → seen ≡ flags → Some i ≡ type_number bs key → b ≡ slice_index_or seen i false → (b ≡ true) ↔ IsWrongNumber bs (type_number bs key)
number_known bs flags seen key i b known same is so =
    let it : b ≡ slice_index_or flags i false = so ∙ ap (λ l. slice_index_or l i false) same in
    subst (λ o. (b ≡ true) ↔ IsWrongNumber bs o) is ((λ t. (known i).0 (sym it ∙ t)), (λ l. it ∙ (known i).1 l))

pub flag_set : (kinds flags : List Bool) (i : ℕ) (b : Bool) → flags ≡ kinds → b ≡ slice_index_or flags i false → b ≡ true → Some i ≡ type_there kinds (Some i)
flag_set kinds flags i b same is so =
    sym (ap (λ t. if t then Some i else None) (ap (λ k. slice_index_or k i false) (sym same) ∙ sym is ∙ so))

pub flag_unset : (kinds flags : List Bool) (i : ℕ) (b : Bool) → flags ≡ kinds → b ≡ slice_index_or flags i false → b ≡ false → None ≡ type_there kinds (Some i)
flag_unset kinds flags i b same is so =
    sym (ap (λ t. if t then Some i else None) (ap (λ k. slice_index_or k i false) (sym same) ∙ sym is ∙ so))

keys_mapped : (blocks : List Block) → map (λ b. b.name.key) blocks ≡ map (λ b. b.name.key) (map block_tree blocks)
keys_mapped [] = refl
keys_mapped (b ∷ bs) = ap (λ l. b.name.key ∷ l) (keys_mapped bs)

kinds_mapped : (blocks : List Block) → map (λ b. is_type b.kind) blocks ≡ map (λ b. is_type b.kind) (map block_tree blocks)
kinds_mapped [] = refl
kinds_mapped (b ∷ bs) = ap (λ l. is_type b.kind ∷ l) (kinds_mapped bs)

pub numbered_all : (names : TypeNames) (blocks : List Block) (n : ℕ) → length blocks ≤ n → FindsFirsts names.names (map (λ b. b.name.key) (take n blocks))
    → names.kinds.items ≡ map (λ b. is_type b.kind) (take n blocks) → NumbersTypes names (map block_tree blocks)
numbered_all names blocks n le finds are = record {
  numbers = λ key. finds key ∙ ap (λ l. first_number (bytes_eq key) (map (λ b. b.name.key) l)) (all_taken blocks n le) ∙ ap (first_number (bytes_eq key)) (keys_mapped blocks);
  types = are ∙ ap (map (λ b. is_type b.kind)) (all_taken blocks n le) ∙ kinds_mapped blocks;
}

pub near_types : (bs : List BlockTree) (b : BlockTree) (types : List TypeTree) (old mid new : Option Place) → HaveTheSame types (all_types b.vars)
    → Nears (λ at. HasSome (NamesWrongType bs at) types) old mid → Nears (λ at. HasSome (IsWrongName bs at) (name_of_kind b.kind)) mid new
    → Nears (λ at. HasWrongType bs at b) old new
near_types bs b types old mid new are first second =
    near_then (λ at. HasSome (NamesWrongType bs at) (all_types b.vars)) (λ at. HasSome (IsWrongName bs at) (name_of_kind b.kind)) old mid new
    (near_same (λ at. HasSome (NamesWrongType bs at) types) (λ at. HasSome (NamesWrongType bs at) (all_types b.vars)) old mid
    (λ at. some_same (NamesWrongType bs at) types (all_types b.vars) are)
    (λ at. some_same (NamesWrongType bs at) (all_types b.vars) types (same_back types (all_types b.vars) are)) first) second
