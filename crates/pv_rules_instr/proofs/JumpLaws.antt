-- The number of the instruction that a jump goes to is that of the first with its label.
use Rattle.std.proofs.Common.{◌≡◌, ℕ, zero, suc, ◌<◌, refl, sym, ap, subst, ◌∙◌, arith, List, [], ◌∷◌, map, Option, Some, None, Bool, true, false, true≢false, is_some, IsTrue, if◌then◌else◌}
use Rattle.std.specs.Prelude.{slice_get, IsSomeAnd, option_map, option_and_then, unwrap_or}
use Rattle.std.proofs.lemmas.Slice.Eq.{bytes_eq-Decides}
use Rattle.pv_tree.specs.Tree.{PlacedName, InstrTree}
use Rattle.pv_tree.specs.InstructionGroups.{label_of_jump}
use Rattle.pv_tree.specs.Rules.Jumps.{Jumps}
use Rattle.pv_names.specs.Firsts.{first_number}
use Rattle.pv_rules_instr.specs.AtLabels.{is_named, is_labelled, number_of_label}
use Rattle.pv_rules_instr.specs.AtRanges.{number_at, goal_of, goals_of}

none_some : {X : Type 0} (x : X) → None ≡ Some x → ⊥
none_some x e = true≢false (sym (ap is_some e))

same_some : {X : Type 0} (x y : X) → Some x ≡ Some y → x ≡ y
same_some x y e = ap (λ o. unwrap_or o x) e

-- ---- the first that passes a test

record FirstAt {X : Type 0} (test : X → Bool) (xs : List X) (i : ℕ) : Type 0 where
  pub element : X
  pub is_there : slice_get xs i ≡ Some element
  pub passes : IsTrue (test element)
  pub is_first : (k : ℕ) (y : X) → k < i → slice_get xs k ≡ Some y → IsTrue (test y) → ⊥

number_first : {X : Type 0} (test : X → Bool) (xs : List X) (i : ℕ) → first_number test xs ≡ Some i → FirstAt test xs i
number_first test [] i e = absurd (none_some i e)
number_first {X = X} test (x ∷ xs) i e = by (test x) refl (first_number test xs) (λ k. number_first test xs k) e
  where
    behind : (k : ℕ) → test x ≡ false → FirstAt test xs k → FirstAt test (x ∷ xs) (suc k)
    behind k off f = record {
      element = f.element;
      is_there = f.is_there;
      passes = f.passes;
      is_first = first;
    }
      where
        first : (m : ℕ) (y : X) → m < suc k → slice_get (x ∷ xs) m ≡ Some y → IsTrue (test y) → ⊥
        first zero y lt there on = true≢false (sym (subst (λ z. IsTrue (test z)) (sym (same_some x y there)) on) ∙ off)
        first (suc m) y lt there on = f.is_first m y (omega (arith, lt)) there on

    by : (b : Bool) → test x ≡ b → (o : Option ℕ) → ((k : ℕ) → o ≡ Some k → FirstAt test xs k)
        → (if b then Some 0 else option_map (λ n. suc n) o) ≡ Some i → FirstAt test (x ∷ xs) i
    by true on o rest h = subst (FirstAt test (x ∷ xs)) (same_some 0 i h) (record {
      element = x;
      is_there = refl;
      passes = on;
      is_first = λ k y lt there it. omega (arith, lt);
    })
    by false off None rest h = absurd (none_some i h)
    by false off (Some k) rest h = subst (FirstAt test (x ∷ xs)) (same_some (suc k) i h) (behind k off (rest k refl))

first_number_is : {X : Type 0} (test : X → Bool) (xs : List X) (i : ℕ) → FirstAt test xs i → first_number test xs ≡ Some i
first_number_is test [] i f = absurd (none_some f.element f.is_there)
first_number_is test (x ∷ xs) zero f =
    ap (λ b. if b then Some 0 else option_map (λ n. suc n) (first_number test xs))
    (subst (λ z. IsTrue (test z)) (sym (same_some x f.element f.is_there)) f.passes)
first_number_is test (x ∷ xs) (suc i) f = by (test x) refl (first_number_is test xs i (record {
  element = f.element;
  is_there = f.is_there;
  passes = f.passes;
  is_first = λ k y lt there on. f.is_first (suc k) y (omega (arith, lt)) there on;
}))
  where
    by : (b : Bool) → test x ≡ b → first_number test xs ≡ Some i → first_number test (x ∷ xs) ≡ Some (suc i)
    by true on rest = absurd (f.is_first 0 x (omega arith) refl on)
    by false off rest = ap (λ b. if b then Some 0 else option_map (λ n. suc n) (first_number test xs)) off ∙ ap (option_map (λ n. suc n)) rest

-- ---- jumps

mapped_at : {X : Type 0} (f : X → Option ℕ) (xs : List X) (j : ℕ) → number_at (map f xs) j ≡ option_and_then f (slice_get xs j)
mapped_at f [] j = refl
mapped_at f (x ∷ xs) zero = refl
mapped_at f (x ∷ xs) (suc j) = mapped_at f xs j

record IsNamed (key : List ℕ) (o : Option PlacedName) : Type 0 where
  pub label : PlacedName
  pub is_it : o ≡ Some label
  pub same : key ≡ label.0.key

named : (key : List ℕ) (o : Option PlacedName) → IsTrue (is_named key o) → IsNamed key o
named key None h = absurd (true≢false (sym h))
named key (Some l) h = record { label = l; is_it = refl; same = (bytes_eq-Decides key l.0.key).0 h }

is_named_so : (key : List ℕ) (o : Option PlacedName) (l : PlacedName) → o ≡ Some l → key ≡ l.0.key → IsTrue (is_named key o)
is_named_so key o l is same = ap (is_named key) is ∙ (bytes_eq-Decides key l.0.key).1 same

named_and : (key : List ℕ) (o : Option PlacedName) → IsSomeAnd o (λ l. l.0.key ≡ key) → IsTrue (is_named key o)
named_and key None h = absurd h
named_and key (Some l) h = (bytes_eq-Decides key l.0.key).1 (sym h)

and_named : (key : List ℕ) (o : Option PlacedName) → IsTrue (is_named key o) → IsSomeAnd o (λ l. l.0.key ≡ key)
and_named key None h = true≢false (sym h)
and_named key (Some l) h = sym ((bytes_eq-Decides key l.0.key).0 h)

module _ (is : List InstrTree) where
  of_first : (j i : ℕ) (x : InstrTree) (l : PlacedName) → slice_get is j ≡ Some x → label_of_jump x ≡ Some l → FirstAt (is_labelled l.0.key) is i → Jumps is j i
  of_first j i x l there target f =
      let n = named l.0.key f.element.label f.passes in record {
        jump = x;
        goal = f.element;
        target = l;
        label = n.label;
        is_jump = there;
        is_goal = f.is_there;
        has_target = target;
        has_label = n.is_it;
        same = n.same;
        is_first = λ k lt h. none_before k lt (slice_get is k) refl h;
      }
    where
      none_before : (k : ℕ) → k < i → (o : Option InstrTree) → slice_get is k ≡ o
          → IsSomeAnd o (λ g. IsSomeAnd g.label (λ m. m.0.key ≡ l.0.key)) → ⊥
      none_before k lt None at h = h
      none_before k lt (Some g) at h = f.is_first k g lt at (named_and l.0.key g.label h)

  pub goal_jumps : (j i : ℕ) → number_at (goals_of is) j ≡ Some i → Jumps is j i
  goal_jumps j i e = by (slice_get is j) refl (sym (mapped_at (goal_of is) is j) ∙ e)
    where
      by_label : (x : InstrTree) → slice_get is j ≡ Some x → (o : Option PlacedName) → label_of_jump x ≡ o
          → option_and_then (λ l. number_of_label is l.0.key) o ≡ Some i → Jumps is j i
      by_label x there None target h = absurd (none_some i h)
      by_label x there (Some l) target h = of_first j i x l there target (number_first (is_labelled l.0.key) is i h)

      by : (o : Option InstrTree) → slice_get is j ≡ o → option_and_then (goal_of is) o ≡ Some i → Jumps is j i
      by None there h = absurd (none_some i h)
      by (Some x) there h = by_label x there (label_of_jump x) refl h

  pub jumps_goal : (j i : ℕ) → Jumps is j i → number_at (goals_of is) j ≡ Some i
  jumps_goal j i r =
      mapped_at (goal_of is) is j ∙ ap (option_and_then (goal_of is)) r.is_jump
      ∙ ap (option_and_then (λ l. number_of_label is l.0.key)) r.has_target
      ∙ first_number_is (is_labelled r.target.0.key) is i (record {
        element = r.goal;
        is_there = r.is_goal;
        passes = is_named_so r.target.0.key r.goal.label r.label r.has_label r.same;
        is_first = λ k y lt there on. r.is_first k lt (subst (λ o. IsSomeAnd o (λ g. IsSomeAnd g.label (λ m. m.0.key ≡ r.target.0.key))) (sym there)
            (and_named r.target.0.key y.label on));
      })
