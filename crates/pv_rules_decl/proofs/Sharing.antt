-- What variables share is gathered once: a list of it has the same elements as that of all variables and all types.
use Rattle.std.proofs.Common.{◌≡◌, ◌<◌, ◌≤◌, ◌+◌, ℕ, ℤ, zero, suc, List, [], ◌∷◌, ◌++◌, Bool, true, false, map, drop, take, get_or, length, refl, ap, sym, subst, ◌∙◌, inl, inr, append_assoc}
use Rattle.std.proofs.lemmas.List.{append-nil, map-append, drop_all}
use Rattle.std.proofs.lemmas.Grind.{flat_map-append}
use Rattle.std.specs.Prelude.{◌⊎◌, Option, flat_map, if◌then◌else◌}
use Rattle.pv_place.specs.declared.place.Place.{Place}
use Rattle.pv_types.specs.declared.name.Name.{Name}
use Rattle.pv_types.specs.declared.declaration.Literal.{Literal}
use Rattle.pv_types.specs.declared.declaration.Section.{Section}
use Rattle.pv_types.specs.declared.declaration.Vars.{Vars}
use Rattle.pv_word.specs.declared.types.Ty.{Ty}
use Rattle.pv_types.specs.declared.declaration.DeclType.{DeclType, fold-roll-DeclType}
use Rattle.pv_types.specs.declared.declaration.DeclType.TheVariants as variant
use Rattle.pv_types.specs.declared.declaration.DeclType.TheViews as form
use Rattle.pv_types.specs.declared.declaration.DeclType.TheOpen.{DeclType-F}
use Rattle.pv_types.specs.Tree.{TypeTree, VarTree, VarTrees, var, plain, array, structure, named, unread}
use Rattle.pv_types.specs.View.{type_tree, vars_tree, word_tree, var_trees, listed, type_step, vars_step}
use Rattle.pv_types.proofs.ForCallers.{vars_seen, vars_from}
use Rattle.pv_tree.specs.Interfaces.{types_in, types_in_vars, fields_in, vars_in, all_types}
use Rattle.pv_rules_expr.specs.Members.{HasSome, Has}
use Rattle.pv_rules_expr.specs.Nearest.{Nears}
use Rattle.pv_rules_expr.proofs.ForCallers.{near_same, taken_one}
use Rattle.pv_graph.specs.Members as node
use Rattle.pv_graph.specs.Graphs.{lists_of, next_of, Leads, here, by, LeadFrom}
use Rattle.pv_graph.specs.Cycles.{AreOnCycles}
use Rattle.pv_graph.specs.declared.targets.Targets.{Targets}
use Rattle.pv_tree.specs.Tree.{BlockTree}
use Rattle.pv_tree.specs.Scopes.{is_type}
use Rattle.pv_tree.specs.View.{block_tree}
use Rattle.pv_tree.specs.declared.block.Block.{Block}
use Rattle.pv_rules_decl.specs.Declarations.{HaveTheSame}
use Rattle.pv_rules_decl.specs.TypeNames.{LeadToTheSame}
use Rattle.pv_rules_decl.specs.TypeNumbers.{numbers_of_type, targets_in}

-- ---- lists with the same elements

module _ {X : Type 0} where
  pub in_front : (xs ys : List X) (x : X) → Has xs x → Has (xs ++ ys) x
  in_front [] ys x h = absurd h
  in_front (y ∷ xs) ys x (inl is) = inl is
  in_front (y ∷ xs) ys x (inr h) = inr (in_front xs ys x h)

  pub behind : (xs ys : List X) (x : X) → Has ys x → Has (xs ++ ys) x
  behind [] ys x h = h
  behind (y ∷ xs) ys x h = inr (behind xs ys x h)

  pub either : (xs ys : List X) (x : X) → Has (xs ++ ys) x → Has xs x ⊎ Has ys x
  either [] ys x h = inr h
  either (y ∷ xs) ys x (inl is) = inl (inl is)
  either (y ∷ xs) ys x (inr h) = elim (either xs ys x h) [ inl l ↦ inl (inr l) | inr r ↦ inr r ]

  pub same_itself : (xs : List X) → HaveTheSame xs xs
  same_itself xs x = (λ h. h, λ h. h)

  pub same_is : (xs ys : List X) → xs ≡ ys → HaveTheSame xs ys
  same_is xs ys is = subst (HaveTheSame xs) is (same_itself xs)

  pub same_then : (xs ys zs : List X) → HaveTheSame xs ys → HaveTheSame ys zs → HaveTheSame xs zs
  same_then xs ys zs a b x = (λ h. (b x).0 ((a x).0 h), λ h. (a x).1 ((b x).1 h))

  pub same_back : (xs ys : List X) → HaveTheSame xs ys → HaveTheSame ys xs
  same_back xs ys a x = ((a x).1, (a x).0)

  pub same_both : (us vs xs ys : List X) → HaveTheSame us vs → HaveTheSame xs ys → HaveTheSame (us ++ xs) (vs ++ ys)
  same_both us vs xs ys a b x = (
    λ h. elim (either us xs x h) [ inl l ↦ in_front vs ys x ((a x).0 l) | inr r ↦ behind vs ys x ((b x).0 r) ],
    λ h. elim (either vs ys x h) [ inl l ↦ in_front us xs x ((a x).1 l) | inr r ↦ behind us xs x ((b x).1 r) ],
  )

  -- once more what is there
  pub same_again : (xs ys : List X) → HaveTheSame xs ys → HaveTheSame xs (xs ++ ys)
  same_again xs ys a x = (λ h. in_front xs ys x h, λ h. elim (either xs ys x h) [ inl l ↦ l | inr r ↦ (a x).1 r ])

  -- two parts in the other order
  pub same_turned : (xs ys : List X) → HaveTheSame (xs ++ ys) (ys ++ xs)
  same_turned xs ys x = (
    λ h. elim (either xs ys x h) [ inl l ↦ behind ys xs x l | inr r ↦ in_front ys xs x r ],
    λ h. elim (either ys xs x h) [ inl l ↦ behind xs ys x l | inr r ↦ in_front xs ys x r ],
  )

  some_at : (P : X → Type 0) (xs : List X) → HasSome P xs → (x : X) × Has xs x × P x
  some_at P [] h = absurd h
  some_at P (x ∷ xs) (inl p) = (x, inl refl, p)
  some_at P (x ∷ xs) (inr h) = let rest = some_at P xs h in (rest.0, inr rest.1, rest.2)

  at_some : (P : X → Type 0) (xs : List X) (x : X) → Has xs x → P x → HasSome P xs
  at_some P [] x h p = absurd h
  at_some P (y ∷ xs) x (inl is) p = inl (subst P (sym is) p)
  at_some P (y ∷ xs) x (inr h) p = inr (at_some P xs x h p)

  -- so one has an element of a kind where the other has
  pub some_same : (P : X → Type 0) (xs ys : List X) → HaveTheSame xs ys → HasSome P xs → HasSome P ys
  some_same P xs ys a h = let it = some_at P xs h in at_some P ys it.0 ((a it.0).0 it.1) it.2

-- and the nearest place over the one is that over the other
pub near_gathered_in : {X : Type 0} (P : Place → X → Type 0) (xs ys : List X) (old new : Option Place) → HaveTheSame xs ys
    → Nears (λ at. HasSome (P at) xs) old new → Nears (λ at. HasSome (P at) ys) old new
near_gathered_in P xs ys old new are n =
    near_same (λ at. HasSome (P at) xs) (λ at. HasSome (P at) ys) old new (λ at. some_same (P at) xs ys are)
    (λ at. some_same (P at) ys xs (same_back xs ys are)) n

-- a type with what lies in it, as it is gathered: itself, and then that
pub with_inner : {X : Type 0} (mid old own inner new whole : List X) → mid ≡ old ++ own → whole ≡ own ++ inner
    → HaveTheSame new (mid ++ inner) → HaveTheSame new (old ++ whole)
with_inner mid old own inner new whole is split now =
    same_then new (mid ++ inner) (old ++ whole) now
    (same_is (mid ++ inner) (old ++ whole) (ap (λ l. l ++ inner) is ∙ append_assoc old own inner ∙ ap (λ l. old ++ l) (sym split)))

-- what was there, and what has the same elements as the rest
pub then_same : {X : Type 0} (new old xs ys : List X) → HaveTheSame new (old ++ xs) → HaveTheSame xs ys → HaveTheSame new (old ++ ys)
then_same new old xs ys now are = same_then new (old ++ xs) (old ++ ys) now (same_both old old xs ys (same_itself old) are)

-- nothing more
pub and_nothing : {X : Type 0} (xs more : List X) → more ≡ [] → HaveTheSame xs (xs ++ more)
and_nothing xs more none = same_is xs (xs ++ more) (sym (append-nil xs) ∙ ap (λ l. xs ++ l) (sym none))

-- what lies in an array and in a structure
pub array_inside : (ty : TypeTree) (low high : ℤ) (inner : TypeTree) (place : Place) → ty ≡ array low high inner place
    → (types_in ty ≡ (ty ∷ []) ++ types_in inner) × (fields_in ty ≡ fields_in inner)
array_inside ty low high inner place is =
    (ap types_in is ∙ ap (λ t. t ∷ types_in inner) (sym is), ap fields_in is)

pub structure_inside : (ty : TypeTree) (vars : VarTrees) → ty ≡ structure vars
    → (types_in ty ≡ (ty ∷ []) ++ types_in_vars vars) × (fields_in ty ≡ vars_in vars)
structure_inside ty vars is = (ap types_in is ∙ ap (λ t. t ∷ types_in_vars vars) (sym is), ap fields_in is)

-- a type in which nothing lies
abbrev pub IsAlone : TypeTree → Type 0
IsAlone t = (types_in t ≡ t ∷ []) × (fields_in t ≡ [])

pub plain_alone : (ty : DeclType) (p : Ty) → ty ≡ variant.Plain p → IsAlone (type_tree ty)
unfolding form.roll-DeclType denote.Hole.Carrier.roll
plain_alone ty p is =
    let seen : type_tree ty ≡ plain p =
    ap type_tree is ∙ fold-roll-DeclType TypeTree (List VarTree) type_step vars_step (DeclType-F.Plain p) in
    subst IsAlone (sym seen) (refl, refl)

pub named_alone : (ty : DeclType) (name : Name) (place : Place) → ty ≡ variant.Named name place → IsAlone (type_tree ty)
unfolding form.roll-DeclType denote.Hole.Carrier.roll
named_alone ty name place is =
    let seen : type_tree ty ≡ named name place =
    ap type_tree is ∙ fold-roll-DeclType TypeTree (List VarTree) type_step vars_step (DeclType-F.Named name place) in
    subst IsAlone (sym seen) (refl, refl)

pub unread_alone : (ty : DeclType) → ty ≡ variant.Unread → IsAlone (type_tree ty)
unfolding form.roll-DeclType denote.Hole.Carrier.roll
unread_alone ty is =
    let seen : type_tree ty ≡ unread =
    ap type_tree is ∙ fold-roll-DeclType TypeTree (List VarTree) type_step vars_step DeclType-F.Unread in
    subst IsAlone (sym seen) (refl, refl)

pub alone : (new old : List TypeTree) (ty : TypeTree) → new ≡ old ++ ty ∷ [] → types_in ty ≡ ty ∷ [] → HaveTheSame new (old ++ types_in ty)
alone new old ty one none = same_is new (old ++ types_in ty) (one ∙ ap (λ l. old ++ l) (sym none))

-- one pushed
pub types_pushed : {X : Type 0} {Y : Type 0} (f : X → Y) (new old : List X) (x : X) → new ≡ old ++ x ∷ [] → map f new ≡ map f old ++ f x ∷ []
types_pushed f new old x is = ap (map f) is ∙ map-append f old (x ∷ [])

pub vars_pushed : {X : Type 0} {Y : Type 0} (f : X → List Y) (new old : List X) (x : X) → new ≡ old ++ x ∷ []
    → flat_map f new ≡ flat_map f old ++ f x
vars_pushed f new old x is =
    ap (flat_map f) is ∙ flat_map-append f old (x ∷ []) ∙ ap (λ l. flat_map f old ++ l) (append-nil (f x))

-- ---- types and fields of variables that share a type

types_parted : (xs ys : List VarTree) → types_in_vars (listed (xs ++ ys)) ≡ types_in_vars (listed xs) ++ types_in_vars (listed ys)
types_parted [] ys = refl
types_parted (var name section ty start place ∷ xs) ys =
    ap (λ l. types_in ty ++ l) (types_parted xs ys) ∙ sym (append_assoc (types_in ty) (types_in_vars (listed xs)) (types_in_vars (listed ys)))

vars_parted : (xs ys : List VarTree) → vars_in (listed (xs ++ ys)) ≡ vars_in (listed xs) ++ vars_in (listed ys)
vars_parted [] ys = refl
vars_parted (var name section ty start place ∷ xs) ys =
    ap (λ l. var name section ty start place ∷ l) (ap (λ l. fields_in ty ++ l) (vars_parted xs ys)
    ∙ sym (append_assoc (fields_in ty) (vars_in (listed xs)) (vars_in (listed ys))))

module _ (s : Section) (t : TypeTree) (start : Option Literal) where
  types_shared : (w : Name × Place) (ws : List (Name × Place))
      → HaveTheSame (types_in t) (types_in_vars (listed (map (word_tree s t start) (w ∷ ws))))
  types_shared w [] = same_is (types_in t) (types_in t ++ []) (sym (append-nil (types_in t)))
  types_shared w (v ∷ ws) = same_again (types_in t) (types_in_vars (listed (map (word_tree s t start) (v ∷ ws)))) (types_shared v ws)

  has_fields : (w : Name × Place) (ws : List (Name × Place)) (x : VarTree) → Has (fields_in t) x
      → Has (vars_in (listed (map (word_tree s t start) (w ∷ ws)))) x
  has_fields w ws x h = inr (in_front (fields_in t) (vars_in (listed (map (word_tree s t start) ws))) x h)

  has_words : (ws : List (Name × Place)) (x : VarTree) → Has (map (word_tree s t start) ws) x
      → Has (vars_in (listed (map (word_tree s t start) ws))) x
  has_words [] x h = absurd h
  has_words (w ∷ ws) x (inl is) = inl is
  has_words (w ∷ ws) x (inr h) = inr (behind (fields_in t) (vars_in (listed (map (word_tree s t start) ws))) x (has_words ws x h))

  is_word_or_field : (ws : List (Name × Place)) (x : VarTree) → Has (vars_in (listed (map (word_tree s t start) ws))) x
      → Has (map (word_tree s t start) ws ++ fields_in t) x
  is_word_or_field [] x h = absurd h
  is_word_or_field (w ∷ ws) x (inl is) = inl is
  is_word_or_field (w ∷ ws) x (inr h) =
      inr (elim (either (fields_in t) (vars_in (listed (map (word_tree s t start) ws))) x h) [
        | inl l ↦ behind (map (word_tree s t start) ws) (fields_in t) x l
        | inr r ↦ is_word_or_field ws x r
      ])

  -- the variables of one declaration with those in its type, once
  vars_shared : (w : Name × Place) (ws : List (Name × Place))
      → HaveTheSame (map (word_tree s t start) (w ∷ ws) ++ fields_in t) (vars_in (listed (map (word_tree s t start) (w ∷ ws))))
  vars_shared w ws x = (
    λ h. elim (either (map (word_tree s t start) (w ∷ ws)) (fields_in t) x h) [
      | inl l ↦ has_words (w ∷ ws) x l
      | inr r ↦ has_fields w ws x r
    ],
    λ h. is_word_or_field (w ∷ ws) x h,
  )

-- of the code's declarations, where there are names
pub types_of_declared : (v : Vars) (w : Name × Place) (ws : List (Name × Place)) → v.names.items ≡ w ∷ ws
    → HaveTheSame (types_in (type_tree v.ty)) (types_in_vars (listed (vars_tree v)))
types_of_declared v w ws some =
    subst (λ l. HaveTheSame (types_in (type_tree v.ty)) (types_in_vars (listed l)))
    (ap (map (word_tree v.section (type_tree v.ty) v.start)) (sym some) ∙ sym (vars_seen v))
    (types_shared v.section (type_tree v.ty) v.start w ws)

pub vars_of_declared : (v : Vars) (w : Name × Place) (ws : List (Name × Place)) → v.names.items ≡ w ∷ ws
    → HaveTheSame (vars_tree v ++ fields_in (type_tree v.ty)) (vars_in (listed (vars_tree v)))
vars_of_declared v w ws some =
    subst (λ l. HaveTheSame (l ++ fields_in (type_tree v.ty)) (vars_in (listed l)))
    (ap (map (word_tree v.section (type_tree v.ty) v.start)) (sym some) ∙ sym (vars_seen v))
    (vars_shared v.section (type_tree v.ty) v.start w ws)

-- as a declaration is gathered
pub shared_types : (v : Vars) → (v.names.items ≡ [] → ⊥) → HaveTheSame (types_in (type_tree v.ty)) (types_in_vars (listed (vars_tree v)))
shared_types v some = by v.names.items refl
  where
    by : (ws : List (Name × Place)) → v.names.items ≡ ws → HaveTheSame (types_in (type_tree v.ty)) (types_in_vars (listed (vars_tree v)))
    by [] none = absurd (some none)
    by (w ∷ ws) is = types_of_declared v w ws is

pub shared_vars : (v : Vars) → (v.names.items ≡ [] → ⊥)
    → HaveTheSame (vars_tree v ++ fields_in (type_tree v.ty)) (vars_in (listed (vars_tree v)))
shared_vars v some = by v.names.items refl
  where
    by : (ws : List (Name × Place)) → v.names.items ≡ ws → HaveTheSame (vars_tree v ++ fields_in (type_tree v.ty)) (vars_in (listed (vars_tree v)))
    by [] none = absurd (some none)
    by (w ∷ ws) is = vars_of_declared v w ws is

pub nameless : (v : Vars) → v.names.items ≡ [] → vars_tree v ≡ []
nameless v none = vars_seen v ∙ ap (map (word_tree v.section (type_tree v.ty) v.start)) none

-- and one more of them, as a loop goes along them
pub one_more : {X : Type 0} (new old own rest whole total : List X) → HaveTheSame new (old ++ own) → whole ≡ own ++ rest
    → HaveTheSame (old ++ whole) total → HaveTheSame (new ++ rest) total
one_more new old own rest whole total now split before =
    same_then (new ++ rest) ((old ++ own) ++ rest) total (same_both new (old ++ own) rest rest now (same_itself rest))
    (same_then ((old ++ own) ++ rest) (old ++ whole) total (same_is _ _ (append_assoc old own rest ∙ ap (λ l. old ++ l) (sym split))) before)

-- and none, at its end
pub none_more : {X Y : Type 0} (f : List X → List Y) (vars : List X) (i : ℕ) (new total : List Y) → length vars ≤ i → f [] ≡ []
    → HaveTheSame (new ++ f (drop i vars)) total → HaveTheSame new total
none_more f vars i new total past none same =
    subst (λ l. HaveTheSame l total) (ap (λ l. new ++ f l) (drop_all i vars past) ∙ ap (λ l. new ++ l) none ∙ append-nil new) same

pub types_from : (vars : List Vars) (i : ℕ) (v : Vars) → i < length vars → v ≡ get_or vars i v
    → types_in_vars (listed (var_trees (drop i vars)))
    ≡ types_in_vars (listed (vars_tree v)) ++ types_in_vars (listed (var_trees (drop (i + 1) vars)))
types_from vars i v inside is =
    ap (λ l. types_in_vars (listed l)) (vars_from vars i v inside is) ∙ types_parted (vars_tree v) (var_trees (drop (i + 1) vars))

pub fields_from : (vars : List Vars) (i : ℕ) (v : Vars) → i < length vars → v ≡ get_or vars i v
    → vars_in (listed (var_trees (drop i vars)))
    ≡ vars_in (listed (vars_tree v)) ++ vars_in (listed (var_trees (drop (i + 1) vars)))
fields_from vars i v inside is =
    ap (λ l. vars_in (listed l)) (vars_from vars i v inside is) ∙ vars_parted (vars_tree v) (var_trees (drop (i + 1) vars))

-- ---- graphs that lead to the same

same_next : (g h : List (List ℕ)) → LeadToTheSame g h → (a : ℕ) → HaveTheSame (next_of g a) (next_of h a)
same_next [] [] same a = same_itself (next_of [] a)
same_next [] (y ∷ ys) same a = absurd same
same_next (x ∷ xs) [] same a = absurd same
same_next (x ∷ xs) (y ∷ ys) same zero = same.0
same_next (x ∷ xs) (y ∷ ys) same (suc a) = same_next xs ys same.1 a

-- the two definitions of an element of a list say the same
to_node : (xs : List ℕ) (n : ℕ) → Has xs n → node.Has xs n
to_node [] n h = absurd h
to_node (x ∷ xs) n (inl is) = inl is
to_node (x ∷ xs) n (inr h) = inr (to_node xs n h)

of_node : (xs : List ℕ) (n : ℕ) → node.Has xs n → Has xs n
of_node [] n h = absurd h
of_node (x ∷ xs) n (inl is) = inl is
of_node (x ∷ xs) n (inr h) = inr (of_node xs n h)

module _ (g h : List (List ℕ)) (same : LeadToTheSame g h) where
  next_same : (a b : ℕ) → node.Has (next_of g a) b → node.Has (next_of h a) b
  next_same a b n = to_node (next_of h a) b ((same_next g h same a b).0 (of_node (next_of g a) b n))

  leads_same : (a b : ℕ) → Leads g a b → Leads h a b
  leads_same a b here = here
  leads_same a b (by {b = c} n l) = by (next_same a c n) (leads_same c b l)

  lead_some : (xs ys : List ℕ) (j : ℕ) → ((x : ℕ) → node.Has xs x → node.Has ys x) → LeadFrom g xs j → LeadFrom h ys j
  lead_some [] ys j to l = absurd l
  lead_some (x ∷ xs) ys j to (inl l) = at_node ys x (to x (inl refl)) (leads_same x j l)
    where
      at_node : (zs : List ℕ) (z : ℕ) → node.Has zs z → Leads h z j → LeadFrom h zs j
      at_node [] z n k = absurd n
      at_node (y ∷ zs) z (inl is) k = inl (subst (λ q. Leads h q j) (sym is) k)
      at_node (y ∷ zs) z (inr n) k = inr (at_node zs z n k)
  lead_some (x ∷ xs) ys j to (inr l) = lead_some xs ys j (λ z n. to z (inr n)) l

  -- so what leads to a node in the one does in the other
  pub lead_same : (i j : ℕ) → LeadFrom g (next_of g i) j → LeadFrom h (next_of h i) j
  lead_same i j l = lead_some (next_of g i) (next_of h i) j (next_same i) l

pub turned : (g h : List (List ℕ)) → LeadToTheSame g h → LeadToTheSame h g
turned [] [] same = tt
turned [] (y ∷ ys) same = absurd same
turned (x ∷ xs) [] same = absurd same
turned (x ∷ xs) (y ∷ ys) same = (same_back x y same.0, turned xs ys same.1)

-- what types name, where the lists of types have the same elements
pub numbers_same : (bs : List BlockTree) (xs ys : List TypeTree) → HaveTheSame xs ys
    → HaveTheSame (flat_map (numbers_of_type bs) xs) (flat_map (numbers_of_type bs) ys)
numbers_same bs xs ys same n = (flat_to xs ys (λ t. (same t).0), flat_to ys xs (λ t. (same t).1))
  where
    flat_at : (zs : List TypeTree) → Has (flat_map (numbers_of_type bs) zs) n → (t : TypeTree) × Has zs t × Has (numbers_of_type bs t) n
    flat_at [] h = absurd h
    flat_at (z ∷ zs) h = elim (either (numbers_of_type bs z) (flat_map (numbers_of_type bs) zs) n h) [
      | inl l ↦ (z, inl refl, l)
      | inr r ↦ let rest = flat_at zs r in (rest.0, inr rest.1, rest.2)
    ]

    at_flat : (zs : List TypeTree) (t : TypeTree) → Has zs t → Has (numbers_of_type bs t) n → Has (flat_map (numbers_of_type bs) zs) n
    at_flat [] t h p = absurd h
    at_flat (z ∷ zs) t (inl is) p =
        in_front (numbers_of_type bs z) (flat_map (numbers_of_type bs) zs) n (subst (λ u. Has (numbers_of_type bs u) n) (sym is) p)
    at_flat (z ∷ zs) t (inr h) p = behind (numbers_of_type bs z) (flat_map (numbers_of_type bs) zs) n (at_flat zs t h p)

    flat_to : (us vs : List TypeTree) → ((t : TypeTree) → Has us t → Has vs t)
        → Has (flat_map (numbers_of_type bs) us) n → Has (flat_map (numbers_of_type bs) vs) n
    flat_to us vs to h = let it = flat_at us h in at_flat vs it.0 (to it.0 it.1) it.2

pub targets_same : (bs : List BlockTree) (b : BlockTree) (n : List ℕ) (types : List TypeTree) → is_type b.kind ≡ true
    → n ≡ flat_map (numbers_of_type bs) types → HaveTheSame types (all_types b.vars) → HaveTheSame n (targets_in bs b)
targets_same bs b n types typed is are =
    subst (λ l. HaveTheSame l (targets_in bs b)) (sym is)
    (subst (HaveTheSame (flat_map (numbers_of_type bs) types))
    (sym (ap (λ t. if t then flat_map (numbers_of_type bs) (all_types b.vars) else []) typed))
    (numbers_same bs types (all_types b.vars) are))

pub targets_none : (bs : List BlockTree) (b : BlockTree) (n : List ℕ) → is_type b.kind ≡ false → n ≡ [] → HaveTheSame n (targets_in bs b)
targets_none bs b n miss is =
    same_is n (targets_in bs b) (is ∙ sym (ap (λ t. if t then flat_map (numbers_of_type bs) (all_types b.vars) else []) miss))

-- one node more
pub lead_more : (g h : List (List ℕ)) (x y : List ℕ) → LeadToTheSame g h → HaveTheSame x y → LeadToTheSame (g ++ x ∷ []) (h ++ y ∷ [])
lead_more [] [] x y same one = (one, tt)
lead_more [] (k ∷ ks) x y same one = absurd same
lead_more (k ∷ ks) [] x y same one = absurd same
lead_more (k ∷ ks) (l ∷ ls) x y same one = (same.0, lead_more ks ls x y same.1 one)

pub lead_next : (bs : List BlockTree) (blocks : List Block) (i : ℕ) (b : Block) (old new : List Targets) (t : Targets) → i < length blocks
    → b ≡ get_or blocks i b → new ≡ old ++ t ∷ []
    → LeadToTheSame (lists_of old) (map (targets_in bs) (map block_tree (take i blocks)))
    → HaveTheSame t.list.items (targets_in bs (block_tree b))
    → LeadToTheSame (lists_of new) (map (targets_in bs) (map block_tree (take (i + 1) blocks)))
lead_next bs blocks i b old new t inside at is before one =
    subst (λ l. LeadToTheSame l (map (targets_in bs) (map block_tree (take (i + 1) blocks)))) (sym (types_pushed (λ t. t.list.items) new old t is))
    (subst (LeadToTheSame (lists_of old ++ t.list.items ∷ []))
    (sym (ap (map (targets_in bs)) (taken_one block_tree blocks i b inside at)
    ∙ types_pushed (targets_in bs) (map block_tree (take i blocks) ++ block_tree b ∷ []) (map block_tree (take i blocks)) (block_tree b) refl))
    (lead_more (lists_of old) (map (targets_in bs) (map block_tree (take i blocks))) t.list.items (targets_in bs (block_tree b)) before one))

-- so the same nodes lead to themselves
pub cycles_same : (g h k : List (List ℕ)) (flags : List Bool) → g ≡ k → LeadToTheSame k h → AreOnCycles g flags → AreOnCycles h flags
cycles_same g h k flags is same on a =
    let to : LeadToTheSame g h = subst (λ l. LeadToTheSame l h) (sym is) same in (
      (λ t. lead_same g h to a a ((on a).0 t)),
      (λ l. (on a).1 (lead_same h g (turned g h to) a a l)),
    )
