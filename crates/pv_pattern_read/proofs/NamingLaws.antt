-- Addresses one behind the other, text by text and operand by operand.
use Rattle.std.proofs.Common.{◌≡◌, inl, inr, ℕ, suc, ◌+◌, ◌<◌, ◌≤◌, List, [], ◌∷◌, ◌++◌, map, filter, take, drop, length, get_or, Bool, true, false, cond, refl, sym, ap, ◌∙◌, subst, append_assoc}
use Rattle.std.proofs.Math.Seq.{drop-cons}
use Rattle.std.proofs.lemmas.List.{append-nil, take_more, take_all, drop_all, map-append}
use Rattle.pv_tree.specs.Tree.{OperandTree}
use Rattle.pv_pattern.specs.Texts.{is_address_operand, alone, addresses_in, AreNamed}
use Rattle.pv_pattern_read.specs.Naming.{addresses_of, NamesAlso}

-- ---- texts

record Goes (t : List ℕ) (others xs new : List OperandTree) : Type 0 where
  more : List OperandTree
  also : NamesAlso t others more
  are : new ≡ xs ++ more

goes_on : (t : List ℕ) (old new xs others : List OperandTree) → old ≡ xs ++ others → NamesAlso t old new → Goes t others xs new
goes_on t old new xs others is (inl h) = record {
  more = others ++ addresses_in h.0;
  also = inl (h.0, h.1, refl);
  are = h.2 ∙ ap (λ l. l ++ addresses_in h.0) is ∙ append_assoc xs others (addresses_in h.0);
}
goes_on t old new xs others is (inr h) = record { more = others; also = inr (h.0, refl); are = h.1 ∙ is }

named_first : (t : List ℕ) (old new : List OperandTree) → old ≡ [] → NamesAlso t old new → AreNamed (t ∷ []) new
named_first t old new none (inl h) =
    inl (h.0, [], h.1, h.2 ∙ ap (λ l. l ++ addresses_in h.0) none ∙ sym (append-nil (addresses_in h.0)), refl)
named_first t old new none (inr h) = inr (h.0, h.1 ∙ none)

named_behind : (front : List (List ℕ)) (t : List ℕ) (old new : List OperandTree) → AreNamed front old → NamesAlso t old new
    → AreNamed (front ++ t ∷ []) new
named_behind [] t old new h also = named_first t old new h also
named_behind (x ∷ front) t old new (inl h) also =
    let g = goes_on t old new (addresses_in h.0) h.1 h.3 also in
    inl (h.0, g.more, h.2, g.are, named_behind front t h.1 g.more h.4 g.also)
named_behind (x ∷ front) t old new (inr h) also = inr (h.0, named_behind front t old new h.1 also)

pub named_next : {X : Type 0} (bytes : X → List ℕ) (all : List X) (i : ℕ) (x : X) (text : List ℕ) (old new : List OperandTree) → i < length all
    → x ≡ get_or all i x → text ≡ bytes x → NamesAlso text old new → AreNamed (map bytes (take i all)) old
    → AreNamed (map bytes (take (i + 1) all)) new
named_next bytes all i x text old new lt is same also h =
    let grown : map bytes (take (i + 1) all) ≡ map bytes (take i all) ++ bytes x ∷ [] =
    ap (map bytes) (take_more all i x lt) ∙ map-append bytes (take i all) (get_or all i x ∷ [])
    ∙ ap (λ y. map bytes (take i all) ++ bytes y ∷ []) (sym is) in
    subst (λ l. AreNamed l new) (sym grown)
    (named_behind (map bytes (take i all)) (bytes x) old new h (subst (λ t. NamesAlso t old new) same also))

pub named_all : {X : Type 0} (bytes : X → List ℕ) (all : List X) (i : ℕ) (named : List OperandTree) → length all ≤ i
    → AreNamed (map bytes (take i all)) named → AreNamed (map bytes all) named
named_all bytes all i named le h = subst (λ l. AreNamed (map bytes l) named) (take_all i all le) h

-- ---- operands

pub addresses_cons : (o : OperandTree) (more : List OperandTree) → addresses_of (o ∷ more) ≡ addresses_of (o ∷ []) ++ addresses_of more
addresses_cons o more = by_test (is_address_operand o)
  where
    by_test : (b : Bool) → map alone (cond b (o ∷ filter is_address_operand more) (filter is_address_operand more))
        ≡ map alone (cond b (o ∷ []) []) ++ addresses_of more
    by_test true = refl
    by_test false = refl

pub addresses_left : {X : Type 0} (f : X → OperandTree) (all : List X) (i : ℕ) (x : X) → i < length all → x ≡ get_or all i x
    → addresses_of (map f (drop i all)) ≡ addresses_of (f x ∷ []) ++ addresses_of (map f (drop (suc i) all))
addresses_left f all i x lt is =
    ap (λ l. addresses_of (map f l)) (drop-cons all i x lt ∙ ap (λ y. y ∷ drop (suc i) all) (sym is))
    ∙ addresses_cons (f x) (map f (drop (suc i) all))

pub no_addresses_left : {X : Type 0} (f : X → OperandTree) (all : List X) (i : ℕ) → length all ≤ i → addresses_of (map f (drop i all)) ≡ []
no_addresses_left f all i le = ap (λ l. addresses_of (map f l)) (drop_all i all le)
