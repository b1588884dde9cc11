-- Where each named type is there and none contains itself, no more of them stand inside each other than there are: what stands
-- around a type are other types, each of which leads to it, so that with each there is one fewer left.
use Rattle.std.proofs.Common.{◌≡◌, inl, inr, ℕ, zero, suc, ◌<◌, ◌≤◌, List, [], ◌∷◌, Bool, true, false, cond, Option, Some, None, refl, sym, ap, ◌∙◌, subst, arith}
use Rattle.std.specs.Prelude.{◌≢◌, ◌||◌, length, map, filter, find, unwrap_or, is_some, option_and_then, IsSome, MatchOption, Contains, bytes_eq}
use Rattle.std.proofs.lemmas.Bool.{true≢false, or_cases}
use Rattle.std.proofs.lemmas.Option.{none-some}
use Rattle.std.proofs.lemmas.List.Elements.{Contains-append_left, Contains-append_right}
use Rattle.std.proofs.lemmas.Slice.Eq.{bytes_eq-Decides}
use Rattle.pv_types.specs.Tree.{TypeTree, plain, array, structure, named, unread, VarTree, var, VarTrees, no_vars, _then_}
use Rattle.pv_types.specs.View.{listed}
use Rattle.pv_types.specs.Named.{NamedType, look_up, AllNamed, AllNamedIn, NestsWithin}
use Rattle.pv_tree.specs.Tree.{PlacedName, BlockTree}
use Rattle.pv_tree.specs.Scopes.{ProjectTree, is_type, block_where, first_block, type_named}
use Rattle.pv_tree.specs.NamedTypes.{named_type, types_of_project}
use Rattle.pv_tree.specs.Rules.{KeepsRules}
use Rattle.pv_tree.specs.Rules.MissingTypes.{names_in, names_in_vars, name_of_kind, named_types, named_within, Holds, at_once, within}
use Rattle.pv_tree.specs.RuleLaws.{TypesAreGrounded, TypesNest}
use Rattle.pv_tree.proofs.KeptRules.{grounded}

-- ---- lists

contains_here : {X : Type 0} (x y : X) (xs : List X) → x ≡ y → Contains (x ∷ xs) y
contains_here x y xs e = (0, omega arith, e)

contains_later : {X : Type 0} (x y : X) (xs : List X) → Contains xs y → Contains (x ∷ xs) y
contains_later x y xs (k, lt, e) = (suc k, omega (arith, lt), e)

contains_map : {X Y : Type 0} (f : X → Y) (xs : List X) (x : X) → Contains xs x → Contains (map f xs) (f x)
contains_map f [] x (k, lt, e) = absurd (omega (arith, lt))
contains_map f (y ∷ ys) x (zero, lt, e) = contains_here (f y) (f x) (map f ys) (ap f e)
contains_map f (y ∷ ys) x (suc k, lt, e) = contains_later (f y) (f x) (map f ys) (contains_map f ys x (k, omega (arith, lt), e))

same_some : {X : Type 0} (x y : X) → Some x ≡ Some y → x ≡ y
same_some x y e = ap (λ o. unwrap_or o x) e

found_at : {X : Type 0} (c : Bool) (y x : X) (ys : List X) (rest : Option X) → cond c (Some y) rest ≡ Some x
    → (rest ≡ Some x → Contains ys x)
    → Contains (y ∷ ys) x
found_at true y x ys rest e f = contains_here y x ys (same_some y x e)
found_at false y x ys rest e f = contains_later y x ys (f e)

found_contains : {X : Type 0} (test : X → Bool) (xs : List X) (x : X) → find test xs ≡ Some x → Contains xs x
found_contains test [] x e = absurd (none-some x e)
found_contains test (y ∷ ys) x e = found_at (test y) y x ys (find test ys) e (found_contains test ys x)

pub some_of : {X : Type 0} (o : Option X) → o ≢ None → (x : X) × (o ≡ Some x)
some_of None not = absurd (not refl)
some_of (Some x) not = (x, refl)

-- ---- types by their names

passed : (c : Bool) (x y : BlockTree) → cond c (Some x) None ≡ Some y → Some x ≡ Some y
passed true x y e = e
passed false x y e = absurd (none-some y e)

and_then_some : (test : BlockTree → Bool) (o : Option BlockTree) (b : BlockTree) → option_and_then (block_where test) o ≡ Some b → o ≡ Some b
and_then_some test None b e = absurd (none-some b e)
and_then_some test (Some c) b e = passed (test c) c b e

pub type_contained : (project : ProjectTree) (key : List ℕ) (b : BlockTree) → type_named project key ≡ Some b → Contains project.blocks b
type_contained project key b e = found_contains _ project.blocks b
    (and_then_some (λ c. is_type c.kind) (first_block project.blocks key) b e)

looked_at : (same typed : Bool) (c b : BlockTree) (rest : Option BlockTree) (more : List BlockTree) (key : List ℕ)
    → bytes_eq key c.name.key ≡ same
    → is_type c.kind ≡ typed
    → option_and_then (block_where (λ x. is_type x.kind)) (cond same (Some c) rest) ≡ Some b
    → (option_and_then (block_where (λ x. is_type x.kind)) rest ≡ Some b → look_up (map named_type more) key ≡ Some b.vars)
    → look_up (map named_type (cond typed (c ∷ more) more)) key ≡ Some b.vars
looked_at true true c b rest more key s t e f =
    ap (λ x. cond x (Some c.vars) (look_up (map named_type more) key)) s ∙ ap (λ x. Some x.vars)
    (same_some c b (passed (is_type c.kind) c b e))
looked_at true false c b rest more key s t e f = absurd (none-some b (subst (λ x. cond x (Some c) None ≡ Some b) t e))
looked_at false true c b rest more key s t e f = ap (λ x. cond x (Some c.vars) (look_up (map named_type more) key)) s ∙ f e
looked_at false false c b rest more key s t e f = f e

looked_among : (blocks : List BlockTree) (key : List ℕ) (b : BlockTree)
    → option_and_then (block_where (λ x. is_type x.kind)) (first_block blocks key) ≡ Some b
    → look_up (map named_type (filter (λ x. is_type x.kind) blocks)) key ≡ Some b.vars
looked_among [] key b e = absurd (none-some b e)
looked_among (c ∷ more) key b e =
    looked_at (bytes_eq key c.name.key) (is_type c.kind) c b (first_block more key) (filter (λ x. is_type x.kind) more) key refl refl e
    (looked_among more key b)

-- what a name names as a type is what declarations are laid out over
pub type_looked_up : (project : ProjectTree) (key : List ℕ) (b : BlockTree) → type_named project key ≡ Some b
    → look_up (types_of_project project) key ≡ Some b.vars
type_looked_up project key b e = looked_among project.blocks key b e

-- ---- how many types are left

abbrev pub left : (List ℕ → Bool) → List NamedType → ℕ
left met [] = 0
left met (t ∷ ts) = cond (met t.key) (left met ts) (suc (left met ts))

abbrev pub also : List ℕ → (List ℕ → Bool) → List ℕ → Bool
also key met other = bytes_eq key other || met other

pub left_all : (ts : List NamedType) → left (λ k. false) ts ≡ length ts
left_all [] = refl
left_all (t ∷ ts) = ap suc (left_all ts)

not_more_at : (a b : Bool) (m n : ℕ) → m ≤ n → cond (a || b) m (suc m) ≤ cond b n (suc n)
not_more_at true true m n le = le
not_more_at true false m n le = omega (arith, le)
not_more_at false true m n le = le
not_more_at false false m n le = omega (arith, le)

not_more : (key : List ℕ) (met : List ℕ → Bool) (ts : List NamedType) → left (also key met) ts ≤ left met ts
not_more key met [] = omega arith
not_more key met (t ∷ ts) = not_more_at (bytes_eq key t.key) (met t.key) (left (also key met) ts) (left met ts) (not_more key met ts)

fewer_at : (a b : Bool) (vars : List VarTree) (rest : Option (List VarTree)) (m n : ℕ) → m ≤ n → (a ≡ true → b ≡ false)
    → IsSome (cond a (Some vars) rest)
    → (IsSome rest → m < n)
    → cond (a || b) m (suc m) < cond b n (suc n)
fewer_at true true vars rest m n le f some more = absurd (true≢false (f refl))
fewer_at true false vars rest m n le f some more = omega (arith, le)
fewer_at false true vars rest m n le f some more = more some
fewer_at false false vars rest m n le f some more = omega (arith, more some)

pub fewer : (key : List ℕ) (met : List ℕ → Bool) (ts : List NamedType) → met key ≡ false → IsSome (look_up ts key)
    → left (also key met) ts < left met ts
fewer key met [] unmet some = absurd (true≢false (sym some))
fewer key met (t ∷ ts) unmet some =
    fewer_at (bytes_eq key t.key) (met t.key) t.vars (look_up ts key) (left (also key met) ts) (left met ts) (not_more key met ts)
    (λ e. subst (λ k. met k ≡ false) ((bytes_eq-Decides key t.key).0 e) unmet) some (λ there. fewer key met ts unmet there)

-- ---- all names in a type

mutual
  all_named : (P : List ℕ → Type 0) (ty : TypeTree) → ((name : PlacedName) → Contains (names_in ty) name → P name.0.key) → AllNamed P ty
  all_named P (plain ty) f = tt
  all_named P (array low high of place) f = all_named P of f
  all_named P (structure vars) f = all_named_in P vars f
  all_named P (named name place) f = f (name, place) (contains_here (name, place) (name, place) [] refl)
  all_named P unread f = tt

  pub all_named_in : (P : List ℕ → Type 0) (vars : VarTrees) → ((name : PlacedName) → Contains (names_in_vars vars) name → P name.0.key)
      → AllNamedIn P vars
  all_named_in P no_vars f = tt
  all_named_in P (_then_ (var name section ty start place) more) f = (
    all_named P ty (λ n c. f n (Contains-append_left (names_in ty) (names_in_vars more) n c)),
    all_named_in P more (λ n c. f n (Contains-append_right (names_in ty) (names_in_vars more) n c)),
  )

-- ---- types that nest

pub holds_then : (project : ProjectTree) (outer middle inner : List ℕ) → Holds project outer middle → Contains (named_within project middle) inner
    → Holds project outer inner
holds_then project outer middle inner (at_once c) d = within c (at_once d)
holds_then project outer middle inner (within c h) d = within c (holds_then project _ middle inner h d)

pub named_by : (project : ProjectTree) (key : List ℕ) (b : BlockTree) (name : PlacedName) → type_named project key ≡ Some b
    → Contains (names_in_vars (listed b.vars)) name
    → Contains (named_within project key) name.0.key
named_by project key b name e c =
    subst (λ o. Contains (elim o [ None ↦ [] | Some x ↦ map (λ n. n.0.key) (names_in_vars (listed x.vars)) ]) name.0.key) (sym e)
    (contains_map (λ n. n.0.key) (names_in_vars (listed b.vars)) name c)

unmet_of : (c : Bool) → (c ≡ true → ⊥) → c ≡ false
unmet_of true f = absurd (f refl)
unmet_of false f = refl

nests : (project : ProjectTree) → TypesAreGrounded project → (n : ℕ) (met : List ℕ → Bool) (block : BlockTree) (name : PlacedName)
    → Contains project.blocks block → Contains (named_types block) name
    → left met (types_of_project project) ≤ n
    → ((k : List ℕ) → met k ≡ true → Holds project k name.0.key)
    → NestsWithin (types_of_project project) n name.0.key
nests project g zero met block name inb inn le holds =
    let key = name.0.key in
    let found = some_of (type_named project key) (g.there block name inb inn) in
    let looked = type_looked_up project key found.0 found.1 in
    absurd (omega (
      arith,
      le,
      fewer key met (types_of_project project)
          (unmet_of (met key) (λ t. g.ends block name inb inn (holds key t))) (ap is_some looked),
    ))
nests project g (suc n) met block name inb inn le holds =
    let key = name.0.key in
    let found = some_of (type_named project key) (g.there block name inb inn) in
    let looked = type_looked_up project key found.0 found.1 in
    let less = fewer key met (types_of_project project) (unmet_of (met key) (λ t. g.ends block name inb inn (holds key t)))
    (ap is_some looked) in
    subst (λ o. MatchOption o ⊥ (λ vars. AllNamedIn (NestsWithin (types_of_project project) n) (listed vars))) (sym looked)
    (all_named_in (NestsWithin (types_of_project project) n) (listed found.0.vars)
    (λ inner c. nests project g n (also key met) found.0 inner (type_contained project key found.0 found.1)
    (Contains-append_left (names_in_vars (listed found.0.vars)) (name_of_kind found.0.kind) inner c) (omega (arith, le, less))
    (λ k t. elim (or_cases (bytes_eq key k) (met k) t) [
      | inl same ↦ subst (λ x. Holds project x inner.0.key) ((bytes_eq-Decides key k).0 same)
          (at_once (named_by project key found.0 inner found.1 c))
      | inr was ↦ holds_then project k key inner.0.key (holds k was) (named_by project key found.0 inner found.1 c)
    ])))

named_nests : (project : ProjectTree) → TypesAreGrounded project → (block : BlockTree) (name : PlacedName) → Contains project.blocks block
    → Contains (named_types block) name
    → NestsWithin (types_of_project project) (length (types_of_project project)) name.0.key
named_nests project g block name inb inn =
    nests project g (length (types_of_project project)) (λ k. false) block name inb inn
    (omega (arith, left_all (types_of_project project)))
    (λ k t. absurd (true≢false (sym t)))

pub types_nest : (project : ProjectTree) → KeepsRules project → TypesNest project
types_nest project keeps =
    let g = grounded project keeps in
    record {
      vars = λ block inb. all_named_in _ (listed block.vars) (λ name c. named_nests project g block name inb
          (Contains-append_left (names_in_vars (listed block.vars)) (name_of_kind block.kind) name c));
      named = named_nests project g;
    }
