-- Texts read one by one: a pattern, or the first fault.
use Rattle.std.proofs.Common.{◌≡◌, ℕ, zero, suc, ◌+◌, ◌<◌, ◌≤◌, List, [], ◌∷◌, ◌++◌, map, take, drop, length, get_or, Some, Result, Ok, Err, refl, sym, ap, ◌∙◌, subst, arith}
use Rattle.std.specs.Prelude.{option_map, slice_get}
use Rattle.std.proofs.Math.Seq.{drop-cons}
use Rattle.std.proofs.lemmas.List.{take-append-drop, take_more, take_all, map-append, length-map}
use Rattle.std.proofs.lemmas.Option.{same_Some, slice_get_read, slice_get-map}
use Rattle.pv_tree.specs.Tree.{BlockTree}
use Rattle.pv_tree.specs.Scopes.{SymbolTree, ProjectTree}
use Rattle.pv_rules_decl.specs.Names.{rule_of}
use Rattle.pv_mean.specs.Sources.{Source}
use Rattle.pv_resolve.specs.declared.context.Context.{Context}
use Rattle.pv_resolve.specs.Contexts.{IsContext, block_in}
use Rattle.pv_case.specs.declared.case.PatternKind.{PatternKind}
use Rattle.pv_case.specs.declared.case.PatternKind.TheVariants as kind
use Rattle.pv_pattern.specs.declared.term.Term.{Term}
use Rattle.pv_pattern.specs.declared.pattern.Pattern.{Pattern as Found}
use Rattle.pv_pattern.specs.declared.pattern.Pattern.TheVariants as found
use Rattle.pv_pattern_read.specs.Kinds.{count_of}
use Rattle.pv_pattern.specs.Patterns.{invariant, forbidden, implication, within, between, reach}
use Rattle.pv_pattern.specs.Found.{is_invariant, is_forbidden, is_implication, is_within, is_between, is_reach}
use Rattle.pv_pattern.specs.Texts as texts
use Rattle.pv_pattern.specs.Texts.{Fault, IsAtFault, FailsAt}
use Rattle.pv_pattern_read.specs.Kinds.{IsReadPattern}
use Rattle.pv_pattern_read.specs.declared.fault.PatternFault.{PatternFault}
use Rattle.pv_pattern_read.specs.declared.fault.PatternFault.TheVariants as of
use Rattle.pv_pattern_read.specs.Answers.{FailsBy, AnswersPattern}
use Rattle.pv_pattern_read.specs.InContext.{scope_at, IsTermIn, AreTermsIn, IsFaultOf, IsFoundIn, AnswersFound}
use Rattle.pv_pattern_read.proofs.Termed.{scope_same}

-- ---- texts one by one

terms_more : (c : Context) (ts : List Term) (t : Term) (all : List (List ℕ)) (text : List ℕ) → AreTermsIn c ts all → IsTermIn c text t
    → AreTermsIn c (ts ++ t ∷ []) (all ++ text ∷ [])
terms_more c [] t [] text h k = (k, tt)
terms_more c [] t (x ∷ all) text h k = absurd h
terms_more c (s ∷ ts) t [] text h k = absurd h
terms_more c (s ∷ ts) t (x ∷ all) text h k = (h.0, terms_more c ts t all text h.1 k)

-- so many texts were read
pub record HaveRead {X : Type 0} (c : Context) (terms : List Term) (bytes : X → List ℕ) (all : List X) (n i : ℕ) : Type 0 where
  pub number : n ≡ i
  pub within : i ≤ length all
  pub are : AreTermsIn c terms (map bytes (take i all))

pub read_none : {X : Type 0} (c : Context) (terms : List Term) (bytes : X → List ℕ) (all : List X) → terms ≡ [] → HaveRead c terms bytes all 0 0
read_none c terms bytes all is = record {
  number = refl;
  within = omega arith;
  are = subst (λ ts. AreTermsIn c ts []) (sym is) tt;
}

pub read_next : {X : Type 0} (c : Context) (terms new : List Term) (t : Term) (bytes : X → List ℕ) (all : List X) (n m i j : ℕ) (x : X) (text : List ℕ)
    → i < length all → x ≡ get_or all i x → j ≡ i + 1 → m ≡ n + 1 → new ≡ terms ++ t ∷ [] → text ≡ bytes x → IsTermIn c text t
    → HaveRead c terms bytes all n i → HaveRead c new bytes all m j
read_next c terms new t bytes all n m i j x text inside is next counted pushed same one h = record {
  number = omega (arith, next, counted, h.number);
  within = omega (arith, next, inside);
  are =
      let more = terms_more c terms t (map bytes (take i all)) (bytes x) h.are (subst (λ b. IsTermIn c b t) same one) in
      let grown : map bytes (take j all) ≡ map bytes (take i all) ++ bytes x ∷ [] =
      ap (λ k. map bytes (take k all)) next ∙ ap (map bytes) (take_more all i x inside)
      ∙ map-append bytes (take i all) (get_or all i x ∷ []) ∙ ap (λ y. map bytes (take i all) ++ bytes y ∷ []) (sym is) in
      subst (λ ts. AreTermsIn c ts (map bytes (take j all))) (sym pushed) (subst (AreTermsIn c (terms ++ t ∷ [])) (sym grown) more);
}

pub read_all : {X : Type 0} (c : Context) (terms : List Term) (bytes : X → List ℕ) (all : List X) (n i : ℕ) → length all ≤ i
    → HaveRead c terms bytes all n i → AreTermsIn c terms (map bytes all)
read_all c terms bytes all n i h r = subst (λ l. AreTermsIn c terms (map bytes l)) (take_all i all h) r.are

-- ---- the first fault

fails_behind : (c : Context) (ts : List Term) (front : List (List ℕ)) (text : List ℕ) (rest : List (List ℕ)) (f : Fault) → AreTermsIn c ts front
    → IsAtFault (scope_at c) text f → FailsAt (scope_at c) (front ++ text ∷ rest) (length front) f
fails_behind c [] [] text rest f h k = k
fails_behind c [] (x ∷ front) text rest f h k = absurd h
fails_behind c (t ∷ ts) [] text rest f h k = absurd h
fails_behind c (t ∷ ts) (x ∷ front) text rest f h k = ((h.0.e, h.0.says), fails_behind c ts front text rest f h.1 k)

fails_as : (c : Context) (ts : List Term) (front : List (List ℕ)) (text : List ℕ) (rest : List (List ℕ)) (m n : ℕ) (f : Fault) → AreTermsIn c ts front
    → n ≡ length front → m ≡ n → IsAtFault (scope_at c) text f → FailsAt (scope_at c) (front ++ text ∷ rest) m f
fails_as c ts front text rest m n f h counted same k =
    subst (λ i. FailsAt (scope_at c) (front ++ text ∷ rest) i f) (sym (same ∙ counted)) (fails_behind c ts front text rest f h k)

fault_behind : (c : Context) (ts : List Term) (front : List (List ℕ)) (text : List ℕ) (rest : List (List ℕ)) (n : ℕ) (fault : PatternFault)
    → AreTermsIn c ts front → n ≡ length front → IsFaultOf (scope_at c) text n fault → FailsBy (scope_at c) (front ++ text ∷ rest) fault
fault_behind c ts front text rest n (of.Text m) h counted k = fails_as c ts front text rest m n texts.unread h counted k.0 k.1
fault_behind c ts front text rest n (of.Rule m rule) h counted k =
    fails_as c ts front text rest m n (texts.broken (rule_of rule)) h counted k.0 k.1
fault_behind c ts front text rest n (of.BriefCell m) h counted k = fails_as c ts front text rest m n texts.brief_cell h counted k.0 k.1
fault_behind c ts front text rest n (of.NotBool m) h counted k = fails_as c ts front text rest m n texts.no_bool h counted k.0 k.1
fault_behind c ts front text rest n of.NoMemory h counted k = tt

pub read_fault : {X : Type 0} (c : Context) (terms : List Term) (bytes : X → List ℕ) (all : List X) (n i : ℕ) (x : X) (text : List ℕ) (fault : PatternFault)
    → i < length all → x ≡ get_or all i x → text ≡ bytes x → HaveRead c terms bytes all n i → IsFaultOf (scope_at c) text n fault
    → FailsBy (scope_at c) (map bytes all) fault
read_fault c terms bytes all n i x text fault inside is same h k =
    let front = map bytes (take i all) in
    let whole : map bytes all ≡ front ++ bytes x ∷ map bytes (drop (suc i) all) =
    ap (map bytes) (sym (take-append-drop i all) ∙ ap (λ l. take i all ++ l) (drop-cons all i x inside ∙ ap (λ y. y ∷ drop (suc i) all) (sym is)))
    ∙ map-append bytes (take i all) (x ∷ drop (suc i) all) in
    let counted : n ≡ length front = h.number ∙ sym (length-map (take i all) bytes ∙ length-take-is i all h.within) in
    subst (λ l. FailsBy (scope_at c) l fault) (sym whole)
    (fault_behind c terms front (bytes x) (map bytes (drop (suc i) all)) n fault h.are counted
    (subst (λ b. IsFaultOf (scope_at c) b n fault) same k))
  where
    length-take-is : {Y : Type 0} (i : ℕ) (l : List Y) → i ≤ length l → length (take i l) ≡ i
    length-take-is zero l h = refl
    length-take-is (suc i) [] h = absurd (omega (arith, h))
    length-take-is (suc i) (y ∷ l) h = ap suc (length-take-is i l (omega (arith, h)))

-- ---- the pattern of terms

pub found_invariant : (c : Context) (t : Term) (all : List (List ℕ)) → AreTermsIn c (t ∷ []) all → IsFoundIn c kind.Invariant all (found.Invariant t)
found_invariant c t [] h = absurd h
found_invariant c t (x ∷ []) h =
    (invariant h.0.e, record { of_kind = refl; say = (h.0.says, tt) }, λ source is same. is_invariant (h.0.is source is same))
found_invariant c t (x ∷ y ∷ more) h = absurd h.1

pub found_forbidden : (c : Context) (t : Term) (all : List (List ℕ)) → AreTermsIn c (t ∷ []) all → IsFoundIn c kind.Forbidden all (found.Forbidden t)
found_forbidden c t [] h = absurd h
found_forbidden c t (x ∷ []) h =
    (forbidden h.0.e, record { of_kind = refl; say = (h.0.says, tt) }, λ source is same. is_forbidden (h.0.is source is same))
found_forbidden c t (x ∷ y ∷ more) h = absurd h.1

pub found_reach : (c : Context) (t : Term) (all : List (List ℕ)) → AreTermsIn c (t ∷ []) all → IsFoundIn c kind.Reach all (found.Reach t)
found_reach c t [] h = absurd h
found_reach c t (x ∷ []) h =
    (reach h.0.e, record { of_kind = refl; say = (h.0.says, tt) }, λ source is same. is_reach (h.0.is source is same))
found_reach c t (x ∷ y ∷ more) h = absurd h.1

pub found_implication : (c : Context) (s t : Term) (all : List (List ℕ)) → AreTermsIn c (s ∷ t ∷ []) all
    → IsFoundIn c kind.Implication all (found.Implication s t)
found_implication c s t [] h = absurd h
found_implication c s t (x ∷ []) h = absurd h.1
found_implication c s t (x ∷ y ∷ []) h = (
  implication h.0.e h.1.0.e,
  record { of_kind = refl; say = (h.0.says, (h.1.0.says, tt)) },
  λ source is same. is_implication (h.0.is source is same) (h.1.0.is source is same),
)
found_implication c s t (x ∷ y ∷ z ∷ more) h = absurd h.1.1

pub found_within : (c : Context) (s t : Term) (all : List (List ℕ)) → AreTermsIn c (s ∷ t ∷ []) all → IsFoundIn c kind.Within all (found.Within s t)
found_within c s t [] h = absurd h
found_within c s t (x ∷ []) h = absurd h.1
found_within c s t (x ∷ y ∷ []) h = (
  within h.0.e h.1.0.e,
  record { of_kind = refl; say = (h.0.says, (h.1.0.says, tt)) },
  λ source is same. is_within (h.0.is source is same) (h.1.0.is source is same),
)
found_within c s t (x ∷ y ∷ z ∷ more) h = absurd h.1.1

pub found_between : (c : Context) (r s t : Term) (all : List (List ℕ)) → AreTermsIn c (r ∷ s ∷ t ∷ []) all
    → IsFoundIn c kind.Between all (found.Between r s t)
found_between c r s t [] h = absurd h
found_between c r s t (x ∷ []) h = absurd h.1
found_between c r s t (x ∷ y ∷ []) h = absurd h.1.1
found_between c r s t (x ∷ y ∷ z ∷ []) h = (
  between h.0.e h.1.0.e h.1.1.0.e,
  record { of_kind = refl; say = (h.0.says, (h.1.0.says, (h.1.1.0.says, tt))) },
  λ source is same. is_between (h.0.is source is same) (h.1.0.is source is same) (h.1.1.0.is source is same),
)
found_between c r s t (x ∷ y ∷ z ∷ w ∷ more) h = absurd h.1.1.1

-- of terms that are these
pub of_terms : (c : Context) (k l : PatternKind) (terms ts : List Term) (all : List (List ℕ)) (f : Found) → k ≡ l → terms ≡ ts
    → (AreTermsIn c ts all → IsFoundIn c l all f) → AreTermsIn c terms all → IsFoundIn c k all f
of_terms c k l terms ts all f is are found h =
    subst (λ k. IsFoundIn c k all f) (sym is) (found (subst (λ ts. AreTermsIn c ts all) are h))

-- the count of a kind is at most three
pub few : (k : PatternKind) (n : ℕ) → n ≡ count_of k → n ≤ 3
few kind.Invariant n is = omega (arith, is)
few kind.Forbidden n is = omega (arith, is)
few kind.Implication n is = omega (arith, is)
few kind.Within n is = omega (arith, is)
few kind.Between n is = omega (arith, is)
few kind.Reach n is = omega (arith, is)

-- ---- in the source

pub in_source : (c : Context) (source : Source) (k : PatternKind) (all : List (List ℕ)) (r : Result Found PatternFault) → IsContext c source
    → block_in c ≡ source.entry → AnswersFound c k all r → AnswersPattern source k all r
in_source c source k all (Ok found) is same h =
    (h.0, subst (λ s. IsReadPattern s k all h.0) (scope_same c source is same) h.1, h.2 source is same)
in_source c source k all (Err fault) is same h = subst (λ s. FailsBy s all fault) (scope_same c source is same) h

pub project-seen : (blocks other : List BlockTree) (symbols others : List SymbolTree) → blocks ≡ other → symbols ≡ others
    → (let p : ProjectTree = record { blocks = blocks; symbols = symbols } in p) ≡ record { blocks = other; symbols = others }
project-seen blocks other symbols others b s =
    ap (λ x. let p : ProjectTree = record { blocks = x; symbols = symbols } in p) b
    ∙ ap (λ x. let p : ProjectTree = record { blocks = other; symbols = x } in p) s

pub entered-is : {X Y : Type 0} (f : X → Y) (xs : List X) (n : ℕ) (x : X) (y : Y) → n < length xs → x ≡ get_or xs n x
    → slice_get (map f xs) n ≡ Some y → f x ≡ y
entered-is f xs n x y inside is e =
    same_Some (f x) y (ap (option_map f) (sym (slice_get_read xs (length xs) n x refl inside is)) ∙ sym (slice_get-map f xs n) ∙ e)
