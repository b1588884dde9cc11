-- Names that stand twice: one more name that is met, and the definition of a later name.
use Rattle.std.proofs.Common.{◌≡◌, ℕ, true, false, List, [], ◌∷◌, ◌++◌, map, refl, ap, sym, subst, ◌∙◌, inl, inr, append_assoc}
use Rattle.std.specs.Prelude.{◌⊎◌, Option, Some, None, is_some, bytes_eq, cond}
use Rattle.std.specs.Map.{lookup}
use Rattle.std.proofs.lemmas.Bool.{true≢false, cases_Bool}
use Rattle.std.proofs.lemmas.Slice.Eq.{bytes_eq-Decides}
use Rattle.indexmap.specs.IndexMap.{insert_entry}
use Rattle.pv_place.specs.declared.place.Place.{Place}
use Rattle.pv_tree.specs.Tree.{PlacedName}
use Rattle.pv_rules_expr.specs.Members.{Has}
use Rattle.pv_rules_expr.specs.Nearest.{Nears}
use Rattle.pv_rules_expr.specs.Members.{IsLaterBehind}
use Rattle.pv_rules_decl.specs.Doubles.{IsMet, AreMet}
use Rattle.pv_rules_decl.specs.declared.doubled.Names.{Names}
use Rattle.pv_rules_expr.proofs.ForCallers.{has_front, has_behind, has_either}
use Rattle.pv_rules_expr.proofs.ForCallers.{near_same, near_then}

-- ---- the table

insert_known : {X : Type 0} (es : List (List ℕ × X)) (key q : List ℕ) (v : X) → is_some (lookup (bytes_eq q) (insert_entry bytes_eq es key v)) ≡ true
    → (is_some (lookup (bytes_eq q) es) ≡ true) ⊎ (key ≡ q)
insert_known [] key q v h = elim (cases_Bool (bytes_eq q key)) [
  | inl on ↦ inr (sym ((bytes_eq-Decides q key).0 on))
  | inr off ↦ absurd (true≢false (sym h ∙ ap (λ b. is_some (cond b (Some v) None)) off))
]
insert_known (e ∷ es) key q v h = elim (cases_Bool (bytes_eq key e.0)) [
  | inl on ↦ inl (replaced on (subst (λ b. is_some (lookup (bytes_eq q) (cond b ((e.0, v) ∷ es) (e ∷ insert_entry bytes_eq es key v))) ≡ true) on h))
  | inr off ↦ behind (λ m. insert_known es key q v m) (subst (λ b. is_some (lookup (bytes_eq q) (cond b ((e.0, v) ∷ es) (e ∷ insert_entry bytes_eq es key v))) ≡ true) off h)
]
  where
    replaced : bytes_eq key e.0 ≡ true → is_some (cond (bytes_eq q e.0) (Some v) (lookup (bytes_eq q) es)) ≡ true
        → is_some (cond (bytes_eq q e.0) (Some e.1) (lookup (bytes_eq q) es)) ≡ true
    replaced on k = elim (bytes_eq q e.0) as (λ b. is_some (cond b (Some v) (lookup (bytes_eq q) es)) ≡ true
        → is_some (cond b (Some e.1) (lookup (bytes_eq q) es)) ≡ true) [ true ↦ λ p. refl | false ↦ λ p. p ] k

    behind : (is_some (lookup (bytes_eq q) (insert_entry bytes_eq es key v)) ≡ true → (is_some (lookup (bytes_eq q) es) ≡ true) ⊎ (key ≡ q))
        → is_some (cond (bytes_eq q e.0) (Some e.1) (lookup (bytes_eq q) (insert_entry bytes_eq es key v))) ≡ true
        → (is_some (cond (bytes_eq q e.0) (Some e.1) (lookup (bytes_eq q) es)) ≡ true) ⊎ (key ≡ q)
    behind rest k = elim (bytes_eq q e.0) as (λ b. is_some (cond b (Some e.1) (lookup (bytes_eq q) (insert_entry bytes_eq es key v))) ≡ true
        → (is_some (cond b (Some e.1) (lookup (bytes_eq q) es)) ≡ true) ⊎ (key ≡ q)) [
          | true ↦ λ p. inl refl
          | false ↦ λ p. rest p
        ] k

insert_kept : {X : Type 0} (es : List (List ℕ × X)) (key q : List ℕ) (v : X) → is_some (lookup (bytes_eq q) es) ≡ true
    → is_some (lookup (bytes_eq q) (insert_entry bytes_eq es key v)) ≡ true
insert_kept [] key q v h = absurd (true≢false (sym h))
insert_kept (e ∷ es) key q v h =
    elim (bytes_eq key e.0) as (λ b. is_some (lookup (bytes_eq q) (cond b ((e.0, v) ∷ es) (e ∷ insert_entry bytes_eq es key v))) ≡ true) [
      | true ↦ elim (bytes_eq q e.0) as (λ b. is_some (cond b (Some e.1) (lookup (bytes_eq q) es)) ≡ true → is_some (cond b (Some v) (lookup (bytes_eq q) es)) ≡ true) [ true ↦ λ p. refl | false ↦ λ p. p ] h
      | false ↦ elim (bytes_eq q e.0) as (λ b. is_some (cond b (Some e.1) (lookup (bytes_eq q) es)) ≡ true → is_some (cond b (Some e.1) (lookup (bytes_eq q) (insert_entry bytes_eq es key v))) ≡ true) [ true ↦ λ p. refl | false ↦ λ p. insert_kept es key q v p ] h
    ]

same_key : (key : List ℕ) → bytes_eq key key ≡ true
same_key key = (bytes_eq-Decides key key).1 refl

insert_now : {X : Type 0} (es : List (List ℕ × X)) (key : List ℕ) (v : X) → is_some (lookup (bytes_eq key) (insert_entry bytes_eq es key v)) ≡ true
insert_now [] key v = ap (λ b. is_some (cond b (Some v) None)) (same_key key)
insert_now (e ∷ es) key v =
    elim (cases_Bool (bytes_eq key e.0)) [
      | inl on ↦ ap (λ b. is_some (lookup (bytes_eq key) (cond b ((e.0, v) ∷ es) (e ∷ insert_entry bytes_eq es key v)))) on ∙ ap (λ b. is_some (cond b (Some v) (lookup (bytes_eq key) es))) on
      | inr off ↦ ap (λ b. is_some (lookup (bytes_eq key) (cond b ((e.0, v) ∷ es) (e ∷ insert_entry bytes_eq es key v)))) off
          ∙ ap (λ b. is_some (cond b (Some e.1) (lookup (bytes_eq key) (insert_entry bytes_eq es key v)))) off ∙ insert_now es key v
    ]

-- ---- names that were met

abbrev keys_of : List PlacedName → List (List ℕ)
keys_of all = map (λ n. n.0.key) all

keys_pushed : (all : List PlacedName) (n : PlacedName) → keys_of (all ++ n ∷ []) ≡ keys_of all ++ n.0.key ∷ []
keys_pushed [] n = refl
keys_pushed (m ∷ all) n = ap (λ l. m.0.key ∷ l) (keys_pushed all n)

has_pushed : (all : List PlacedName) (n : PlacedName) (key : List ℕ) → Has (keys_of all) key ⊎ (n.0.key ≡ key) → Has (keys_of (all ++ n ∷ [])) key
has_pushed all n key (inl h) = subst (λ l. Has l key) (sym (keys_pushed all n)) (has_front (λ y. y ≡ key) (keys_of all) (n.0.key ∷ []) h)
has_pushed all n key (inr is) = subst (λ l. Has l key) (sym (keys_pushed all n)) (has_behind (λ y. y ≡ key) (keys_of all) (n.0.key ∷ []) (inl is))

of_pushed : (all : List PlacedName) (n : PlacedName) (key : List ℕ) → Has (keys_of (all ++ n ∷ [])) key → Has (keys_of all) key ⊎ (n.0.key ≡ key)
of_pushed all n key h = elim (has_either (λ y. y ≡ key) (keys_of all) (n.0.key ∷ []) (subst (λ l. Has l key) (keys_pushed all n) h)) [
  | inl front ↦ inl front
  | inr last ↦ elim last [ inl is ↦ inr is | inr never ↦ absurd never ]
]

-- a name that is known already
pub met_again : (old new : Names) (all : List PlacedName) (n : PlacedName) → IsMet old n.0.key → new.seen.entries ≡ old.seen.entries → AreMet old all
    → AreMet new (all ++ n ∷ [])
met_again old new all n there same are = record {
  known = λ key m. has_pushed all n key (inl (are.known key (subst (λ es. is_some (lookup (bytes_eq key) es) ≡ true) same m)));
  met = λ key h. subst (λ es. is_some (lookup (bytes_eq key) es) ≡ true) (sym same) (elim (of_pushed all n key h) [
    | inl front ↦ are.met key front
    | inr is ↦ subst (IsMet old) is there
  ]);
}

pub met_new : (old new : Names) (all : List PlacedName) (n : PlacedName) → new.seen.entries ≡ insert_entry bytes_eq old.seen.entries n.0.key tt → AreMet old all
    → AreMet new (all ++ n ∷ [])
met_new old new all n added are = record {
  known = λ key m. has_pushed all n key (elim (insert_known old.seen.entries n.0.key key tt (subst (λ es. is_some (lookup (bytes_eq key) es) ≡ true) added m)) [
    | inl was ↦ inl (are.known key was)
    | inr is ↦ inr is
  ]);
  met = λ key h. subst (λ es. is_some (lookup (bytes_eq key) es) ≡ true) (sym added) (elim (of_pushed all n key h) [
    | inl front ↦ insert_kept old.seen.entries n.0.key key tt (are.met key front)
    | inr is ↦ subst (λ q. is_some (lookup (bytes_eq q) (insert_entry bytes_eq old.seen.entries n.0.key tt)) ≡ true) is (insert_now old.seen.entries n.0.key tt)
  ]);
}

pub none_met : (names : Names) → names.seen.entries ≡ [] → AreMet names []
none_met names empty = record {
  known = λ key m. absurd (true≢false (sym m ∙ ap (λ es. is_some (lookup (bytes_eq key) es)) empty));
  met = λ key h. absurd h;
}

-- ---- later names

later_pushed : (keys : List (List ℕ)) (all : List PlacedName) (n : PlacedName) (at : Place)
    → IsLaterBehind keys all at ⊎ (Has (keys ++ keys_of all) n.0.key × (n.1 ≡ at)) → IsLaterBehind keys (all ++ n ∷ []) at
later_pushed keys [] n at (inl h) = absurd h
later_pushed keys [] n at (inr last) = inl (subst (λ l. Has l n.0.key) (nothing keys) last.0, last.1)
  where
    nothing : (xs : List (List ℕ)) → xs ++ [] ≡ xs
    nothing [] = refl
    nothing (x ∷ xs) = ap (λ l. x ∷ l) (nothing xs)
later_pushed keys (m ∷ all) n at (inl (inl h)) = inl h
later_pushed keys (m ∷ all) n at (inl (inr h)) = inr (later_pushed (keys ++ m.0.key ∷ []) all n at (inl h))
later_pushed keys (m ∷ all) n at (inr last) =
    inr (later_pushed (keys ++ m.0.key ∷ []) all n at (inr (subst (λ l. Has l n.0.key) (sym (append_assoc keys (m.0.key ∷ []) (keys_of all))) last.0, last.1)))

later_of_pushed : (keys : List (List ℕ)) (all : List PlacedName) (n : PlacedName) (at : Place) → IsLaterBehind keys (all ++ n ∷ []) at
    → IsLaterBehind keys all at ⊎ (Has (keys ++ keys_of all) n.0.key × (n.1 ≡ at))
later_of_pushed keys [] n at (inl last) = inr (has_front (λ y. y ≡ n.0.key) keys [] last.0, last.1)
later_of_pushed keys [] n at (inr never) = absurd never
later_of_pushed keys (m ∷ all) n at (inl h) = inl (inl h)
later_of_pushed keys (m ∷ all) n at (inr h) = elim (later_of_pushed (keys ++ m.0.key ∷ []) all n at h) [
  | inl front ↦ inl (inr front)
  | inr last ↦ inr (subst (λ l. Has l n.0.key) (append_assoc keys (m.0.key ∷ []) (keys_of all)) last.0, last.1)
]

-- one more name
pub near_later : (names : Names) (all : List PlacedName) (n : PlacedName) (a b c : Option Place) → AreMet names all → Nears (IsLaterBehind [] all) a b
    → Nears (λ at. IsMet names n.0.key × (n.1 ≡ at)) b c → Nears (IsLaterBehind [] (all ++ n ∷ [])) a c
near_later names all n a b c are before one =
    near_same (λ at. IsLaterBehind [] all at ⊎ (IsMet names n.0.key × (n.1 ≡ at))) (IsLaterBehind [] (all ++ n ∷ [])) a c
    (λ at h. later_pushed [] all n at (elim h [ inl front ↦ inl front | inr last ↦ inr (are.known n.0.key last.0, last.1) ]))
    (λ at h. elim (later_of_pushed [] all n at h) [ inl front ↦ inl front | inr last ↦ inr (are.met n.0.key last.0, last.1) ])
    (near_then (IsLaterBehind [] all) (λ at. IsMet names n.0.key × (n.1 ≡ at)) a b c before one)
