-- Which terms of a table are constants.
use Rattle.std.proofs.Common.{◌≡◌, ℕ, zero, suc, ◌+◌, ◌<◌, ◌≤◌, ℤ, List, [], ◌∷◌, ◌++◌, length, get_or, length-append, Option, Some, None, refl, sym, subst, ap, ◌∙◌, arith}
use Rattle.std.proofs.lemmas.Option.{same_Some}
use Rattle.std.proofs.lemmas.Bool.{ltb-true, ltb-false}
use Rattle.std.specs.Prelude.{slice_get, nat_lt, Bool as Truth, true, false, if◌then◌else◌}
use Rattle.pv_word.specs.declared.types.Ty.{Ty}
use Rattle.pv_word.specs.Types.{wrap_of}
use Rattle.pv_flow.specs.declared.term.Node.{Node}
use Rattle.pv_flow.specs.Terms.{Term, constant, variable, unary, binary, select}
use Rattle.pv_flow.specs.View.{term_at, term_of, terms_after, terms_of}
use Rattle.pv_flow.specs.declared.op.UnaryOp.TheVariants.{Convert}
use Rattle.pv_terms.specs.Forms.{is_same, made_of, converted}
use Rattle.pv_terms.specs.Pushed.{IsAt, IsConstant, IsOther, IsLike}
use Rattle.pv_terms.proofs.Pushing.{terms_front, last}

-- a node's term, by those of some nodes before it
pub record IsTermOf (nodes : List Node) (ts : List Term) (n : ℕ) (node : Node) : Type 0 where
  pub before : List Term
  pub is : term_at (terms_after ts nodes) (length ts + n) ≡ term_of before node

node_term : (ts : List Term) (nodes : List Node) (n : ℕ) (node : Node) → Some node ≡ slice_get nodes n → IsTermOf nodes ts n node
node_term ts [] n node e = cc
node_term ts (x ∷ nodes) zero node e =
    let long = length-append ts (term_of ts x ∷ []) in
    record {
      before = ts;
      is = terms_front (ts ++ term_of ts x ∷ []) nodes (length ts + 0) (omega (arith, long))
          ∙ last ts (term_of ts x) (length ts + 0) (omega arith)
          ∙ ap (λ (y : Node). term_of ts y) (sym (same_Some node x e));
    }
node_term ts (x ∷ nodes) (suc n) node e =
    let rest = node_term (ts ++ term_of ts x ∷ []) nodes n node e in
    record {
      before = rest.before;
      is = ap (λ (k : ℕ). term_at (terms_after (ts ++ term_of ts x ∷ []) nodes) k) (next (length-append ts (term_of ts x ∷ []))) ∙ rest.is;
    }
  where
    next : length (ts ++ term_of ts x ∷ []) ≡ length ts + 1 → length ts + suc n ≡ length (ts ++ term_of ts x ∷ []) + n
    next long = omega (arith, long)

-- ---- elements that are looked up

pub looked_up : {A : Type 0} (xs : List A) (n : ℕ) (x : A) → true ≡ nat_lt n (length xs) → x ≡ get_or xs n x → Some x ≡ slice_get xs n
looked_up xs n x there is = inside xs n x (ltb-true n (length xs) (sym there)) is
  where
    inside : {A : Type 0} (ys : List A) (k : ℕ) (y : A) → k < length ys → y ≡ get_or ys k y → Some y ≡ slice_get ys k
    inside [] k y lt e = absurd (omega (arith, lt))
    inside (z ∷ ys) zero y lt e = ap Some e
    inside (z ∷ ys) (suc k) y lt e = inside ys k y (omega (arith, lt)) e

pub not_there : {A : Type 0} (xs : List A) (n : ℕ) → false ≡ nat_lt n (length xs) → None ≡ slice_get xs n
not_there xs n none = outside xs n (ltb-false n (length xs) (sym none))
  where
    outside : {A : Type 0} (ys : List A) (k : ℕ) → length ys ≤ k → None ≡ slice_get ys k
    outside [] k le = refl
    outside (z ∷ ys) zero le = absurd (omega (arith, le))
    outside (z ∷ ys) (suc k) le = outside ys k (omega (arith, le))

pub constant_is : (nodes : List Node) (n : ℕ) (node : Node) (o : Option ℤ) (t : Term) → Some node ≡ slice_get nodes n
    → ((ts : List Term) → IsLike o (term_of ts node)) → IsAt nodes n t → IsLike o t
constant_is nodes n node o t e like at =
    let h = node_term [] nodes n node e in
    subst (IsLike o) (sym h.is ∙ ap (λ (k : ℕ). term_at (terms_of nodes) k) (none n) ∙ at.term) (like h.before)
  where
    none : (k : ℕ) → 0 + k ≡ k
    none k = omega arith

pub no_node : (nodes : List Node) (n : ℕ) (t : Term) → false ≡ nat_lt n (length nodes) → IsAt nodes n t → IsLike None t
no_node nodes n t none at = let le = ltb-false n (length nodes) (sym none) in absurd (omega (arith, le, at.within))

-- ---- one of another type

pub constant_made : (from to : Ty) (v r : ℤ) (t : Term) → r ≡ wrap_of to v → IsConstant v t → constant to r ≡ converted from to t
constant_made from to v r (constant ty n) e is = ap (constant to) (e ∙ ap (wrap_of to) is)
constant_made from to v r (variable n) e is = absurd is
constant_made from to v r (unary op ty t) e is = absurd is
constant_made from to v r (binary op ty s t) e is = absurd is
constant_made from to v r (select ty c s t) e is = absurd is

pub other_made : (from to : Ty) (t : Term) → IsOther t → made_of from to t ≡ converted from to t
other_made from to (constant ty n) is = absurd is
other_made from to (variable n) is = refl
other_made from to (unary op ty t) is = refl
other_made from to (binary op ty s t) is = refl
other_made from to (select ty c s t) is = refl

pub made_same : (from to : Ty) (t : Term) (b : Truth) → b ≡ is_same from to → b ≡ true → t ≡ made_of from to t
made_same from to t b e is = sym (ap (λ (x : Truth). if x then t else unary Convert to t) (sym e ∙ is))

pub made_other : (from to : Ty) (t : Term) (b : Truth) → b ≡ is_same from to → b ≡ false → unary Convert to t ≡ made_of from to t
made_other from to t b e is = sym (ap (λ (x : Truth). if x then t else unary Convert to t) (sym e ∙ is))
