-- The nearest place along the instructions at which ranges of jumps are wrong is the least at which one is entered or crosses.
use Rattle.std.proofs.Common.{◌≡◌, ℕ, zero, suc, ◌+◌, ◌-◌, ◌<◌, ◌≤◌, refl, sym, ap, subst, ◌∙◌, arith, inl, inr, List, [], ◌∷◌, take, drop, length, Option, Some, None, Bool, true, false, ◌||◌, true≢false, is_some, IsTrue, if◌then◌else◌}
use Rattle.std.specs.Prelude.{◌⊎◌, nat_lt, nat_le, slice_get, unwrap_or, option_and_then, IsSomeAnd}
use Rattle.std.proofs.lemmas.Bool.Decides.{nat_tests}
use Rattle.std.proofs.lemmas.List.{get_or-drop, get_or-take, get_or_past, length-take}
use Rattle.pv_place.specs.declared.place.Place.{Place}
use Rattle.pv_tree.specs.Tree.{PlacedName, InstrTree}
use Rattle.pv_tree.specs.Rules.Jumps.{IsRange, Enters, Crosses}
use Rattle.pv_rules_expr.specs.Nearest.{IsNearest, nearer_of}
use Rattle.pv_rules_expr.specs.Places.{place_where}
use Rattle.pv_rules_expr.proofs.ForCallers.{nearest_both, nearest_same, nearest_where}
use Rattle.pv_rules_instr.specs.AtRanges.{Numbers, number_at, is_under, is_over, reaches, or_this, goals_of, lasts_of, RangeNumbers, numbers_of_goals, end_from, end_at, start_from, start_at, enters, enter_at, crosses, cross_at, range_at, range_from, range_place}
use Rattle.pv_rules_instr.proofs.JumpLaws.{goal_jumps, jumps_goal}
use Rattle.pv_rules_instr.proofs.RangeNumbers.{plus_none, plus_next, none_plus, le_is, is_le, range_of_last, last_of_range, last_of_first, first_of_last}

none_some : {X : Type 0} (x : X) → None ≡ Some x → ⊥
none_some x e = true≢false (sym (ap is_some e))

same_some : {X : Type 0} (x y : X) → Some x ≡ Some y → x ≡ y
same_some x y e = ap (λ o. unwrap_or o x) e

lt_is : (a b : ℕ) → nat_lt a b ≡ true → a < b
lt_is a b h = grind (arith, nat_tests)

is_lt : (a b : ℕ) → a < b → nat_lt a b ≡ true
is_lt a b h = grind (arith, nat_tests)

either_on : (a b : Bool) → IsTrue (a || b) → IsTrue a ⊎ IsTrue b
either_on true b h = inl refl
either_on false b h = inr h

on_either : (a b : Bool) → IsTrue a ⊎ IsTrue b → IsTrue (a || b)
on_either true b h = refl
on_either false b (inl h) = absurd (true≢false (sym h))
on_either false b (inr h) = h

record Under (n : ℕ) (o : Option ℕ) : Type 0 where
  pub number : ℕ
  pub is_it : o ≡ Some number
  pub less : number < n

under_is : (n : ℕ) (o : Option ℕ) → IsTrue (is_under n o) → Under n o
under_is n None h = absurd (true≢false (sym h))
under_is n (Some m) h = record { number = m; is_it = refl; less = lt_is m n h }

is_under_so : (n : ℕ) (o : Option ℕ) (m : ℕ) → o ≡ Some m → m < n → IsTrue (is_under n o)
is_under_so n o m e lt = ap (is_under n) e ∙ is_lt m n lt

record Over (n : ℕ) (o : Option ℕ) : Type 0 where
  pub number : ℕ
  pub is_it : o ≡ Some number
  pub more : n < number

over_is : (n : ℕ) (o : Option ℕ) → IsTrue (is_over n o) → Over n o
over_is n None h = absurd (true≢false (sym h))
over_is n (Some m) h = record { number = m; is_it = refl; more = lt_is n m h }

is_over_so : (n : ℕ) (o : Option ℕ) (m : ℕ) → o ≡ Some m → n < m → IsTrue (is_over n o)
is_over_so n o m e lt = ap (is_over n) e ∙ is_lt n m lt

record Reaches (n : ℕ) (o : Option ℕ) : Type 0 where
  pub number : ℕ
  pub is_it : o ≡ Some number
  pub upto : n ≤ number

reaches_is : (n : ℕ) (o : Option ℕ) → IsTrue (reaches n o) → Reaches n o
reaches_is n None h = absurd (true≢false (sym h))
reaches_is n (Some m) h = record { number = m; is_it = refl; upto = le_is n m h }

reaches_so : (n : ℕ) (o : Option ℕ) (m : ℕ) → o ≡ Some m → n ≤ m → IsTrue (reaches n o)
reaches_so n o m e le = ap (reaches n) e ∙ is_le n m le

-- ---- the least last of the ranges around an instruction

record FirstUnder (n at : ℕ) (bs : Numbers) (l : ℕ) : Type 0 where
  pub k : ℕ
  pub is_at : at + k ≡ l
  pub under : IsTrue (is_under n (number_at bs k))
  pub none_before : (m : ℕ) → m < k → IsTrue (is_under n (number_at bs m)) → ⊥

end_some : (n at : ℕ) (bs : Numbers) (l : ℕ) → end_from n at bs ≡ Some l → FirstUnder n at bs l
end_some n at [] l e = absurd (none_some l e)
end_some n at (b ∷ bs) l e = by (λ h. end_some n (suc at) bs l h) (is_under n b) refl e
  where
    further : is_under n b ≡ false → FirstUnder n (suc at) bs l → FirstUnder n at (b ∷ bs) l
    further off r = record { k = suc r.k; is_at = omega (arith, r.is_at); under = r.under; none_before = before }
      where
        before : (m : ℕ) → m < suc r.k → IsTrue (is_under n (number_at (b ∷ bs) m)) → ⊥
        before zero lt on = true≢false (sym on ∙ off)
        before (suc m) lt on = r.none_before m (omega (arith, lt)) on

    by : (end_from n (suc at) bs ≡ Some l → FirstUnder n (suc at) bs l) → (t : Bool) → is_under n b ≡ t
        → (if t then Some at else end_from n (suc at) bs) ≡ Some l → FirstUnder n at (b ∷ bs) l
    by rest true on h = record {
      k = 0;
      is_at = let same = same_some at l h in omega (arith, same);
      under = on;
      none_before = λ m lt it. omega (arith, lt);
    }
    by rest false off h = further off (rest h)

end_none : (n at : ℕ) (bs : Numbers) → end_from n at bs ≡ None → (k : ℕ) → IsTrue (is_under n (number_at bs k)) → ⊥
end_none n at [] e k on = true≢false (sym on)
end_none n at (b ∷ bs) e k on = by (λ h m it. end_none n (suc at) bs h m it) (is_under n b) refl e k on
  where
    by : (end_from n (suc at) bs ≡ None → (m : ℕ) → IsTrue (is_under n (number_at bs m)) → ⊥) → (t : Bool) → is_under n b ≡ t
        → (if t then Some at else end_from n (suc at) bs) ≡ None → (k : ℕ) → IsTrue (is_under n (number_at (b ∷ bs) k)) → ⊥
    by rest true it h k on = none_some at (sym h)
    by rest false off h zero on = true≢false (sym on ∙ off)
    by rest false off h (suc k) on = rest h k on

-- ---- the greatest first of them

record LastReaching (n at : ℕ) (ls : Numbers) (f : ℕ) : Type 0 where
  pub k : ℕ
  pub is_at : at + k ≡ f
  pub reached : IsTrue (reaches n (number_at ls k))
  pub none_behind : (m : ℕ) → k < m → IsTrue (reaches n (number_at ls m)) → ⊥

start_none : (n at : ℕ) (ls : Numbers) → start_from n at ls ≡ None → (k : ℕ) → IsTrue (reaches n (number_at ls k)) → ⊥
start_none n at [] e k on = true≢false (sym on)
start_none n at (x ∷ ls) e k on = by (start_from n (suc at) ls) (λ h m it. start_none n (suc at) ls h m it) (reaches n x) refl e k on
  where
    by : (o : Option ℕ) → (o ≡ None → (m : ℕ) → IsTrue (reaches n (number_at ls m)) → ⊥) → (t : Bool) → reaches n x ≡ t
        → or_this o (if t then Some at else None) ≡ None → (k : ℕ) → IsTrue (reaches n (number_at (x ∷ ls) k)) → ⊥
    by (Some g) rest t is h k on = none_some g (sym h)
    by None rest true is h k on = none_some at (sym h)
    by None rest false off h zero on = true≢false (sym on ∙ off)
    by None rest false off h (suc k) on = rest refl k on

start_some : (n at : ℕ) (ls : Numbers) (f : ℕ) → start_from n at ls ≡ Some f → LastReaching n at ls f
start_some n at [] f e = absurd (none_some f e)
start_some n at (x ∷ ls) f e = by (start_from n (suc at) ls) refl (λ h. start_some n (suc at) ls f h) e
  where
    further : LastReaching n (suc at) ls f → LastReaching n at (x ∷ ls) f
    further r = record { k = suc r.k; is_at = omega (arith, r.is_at); reached = r.reached; none_behind = behind }
      where
        behind : (m : ℕ) → suc r.k < m → IsTrue (reaches n (number_at (x ∷ ls) m)) → ⊥
        behind zero lt on = omega (arith, lt)
        behind (suc m) lt on = r.none_behind m (omega (arith, lt)) on

    here : start_from n (suc at) ls ≡ None → (t : Bool) → reaches n x ≡ t → (if t then Some at else None) ≡ Some f → LastReaching n at (x ∷ ls) f
    here rest true on h = record {
      k = 0;
      is_at = let same = same_some at f h in omega (arith, same);
      reached = on;
      none_behind = behind;
    }
      where
        behind : (m : ℕ) → 0 < m → IsTrue (reaches n (number_at (x ∷ ls) m)) → ⊥
        behind zero lt on = omega (arith, lt)
        behind (suc m) lt on = start_none n (suc at) ls rest m on
    here rest false off h = absurd (none_some f h)

    by : (o : Option ℕ) → start_from n (suc at) ls ≡ o → (o ≡ Some f → LastReaching n (suc at) ls f)
        → or_this o (if reaches n x then Some at else None) ≡ Some f → LastReaching n at (x ∷ ls) f
    by None is rest h = here is (reaches n x) refl h
    by (Some g) is rest h = further (rest h)

-- ---- by ranges

not_le : (a b : ℕ) → nat_le a b ≡ false → b < a
not_le a b h = grind (arith, nat_tests)

module _ (goals : Numbers) where
  abbrev r : RangeNumbers
  r = numbers_of_goals goals

  -- a range around an instruction that isn't its first
  pub record Around (f l n : ℕ) : Type 0 where
    pub range : number_at (lasts_of goals) f ≡ Some l
    pub begins : f < n
    pub ends : n ≤ l

  ends_here : (f l n : ℕ) → Around f l n → IsTrue (is_under n (number_at (drop n r.firsts) (l - n)))
  ends_here f l n a =
      is_under_so n (number_at (drop n r.firsts) (l - n)) f
      (get_or-drop n r.firsts (l - n) None ∙ ap (number_at r.firsts) (let k = a.ends in omega (arith, k)) ∙ first_of_last goals l f a.range) a.begins

  pub around_end : (n l : ℕ) → end_at r.firsts n ≡ Some l → (f : ℕ) × Around f l n
  around_end n l e = of_end (end_some n n (drop n r.firsts) l e)
    where
      of_end : FirstUnder n n (drop n r.firsts) l → (f : ℕ) × Around f l n
      of_end s =
          let u = under_is n (number_at (drop n r.firsts) s.k) s.under in (
            u.number,
            record {
              range = last_of_first goals l u.number (ap (number_at r.firsts) (sym s.is_at) ∙ sym (get_or-drop n r.firsts s.k None) ∙ u.is_it);
              begins = u.less;
              ends = let a = s.is_at in omega (arith, a);
            },
          )

  pub least_end : (f l n : ℕ) → Around f l n → (o : Option ℕ) → end_at r.firsts n ≡ o → IsSomeAnd o (λ m. m ≤ l)
  least_end f l n a None e = end_none n n (drop n r.firsts) e (l - n) (ends_here f l n a)
  least_end f l n a (Some m) e = of_end (end_some n n (drop n r.firsts) m e) (nat_le m l) refl
    where
      of_end : FirstUnder n n (drop n r.firsts) m → (b : Bool) → nat_le m l ≡ b → m ≤ l
      of_end s true on = le_is m l on
      of_end s false off =
          let h = s.is_at in let k = a.ends in let g = not_le m l off in
          absurd (s.none_before (l - n) (omega (arith, h, k, g)) (ends_here f l n a))

  begins_here : (f l n : ℕ) → Around f l n → IsTrue (reaches n (number_at (take n r.lasts) f))
  begins_here f l n a = reaches_so n (number_at (take n r.lasts) f) l (get_or-take n r.lasts f None a.begins ∙ a.range) a.ends

  within : (n k : ℕ) → IsTrue (reaches n (number_at (take n r.lasts) k)) → k < n
  within n k on = by (nat_le n k) refl
    where
      by : (b : Bool) → nat_le n k ≡ b → k < n
      by true le =
          let x = reaches_is n (number_at (take n r.lasts) k) on in
          let short : length (take n r.lasts) ≤ k = let m = le_is n k le in let t = length-take n r.lasts in omega (arith, m, t) in
          absurd (none_some x.number (sym (get_or_past (take n r.lasts) k None short) ∙ x.is_it))
      by false off = not_le n k off

  pub around_start : (n f : ℕ) → start_at r.lasts n ≡ Some f → (l : ℕ) × Around f l n
  around_start n f e = of_start (start_some n 0 (take n r.lasts) f e)
    where
      of_start : LastReaching n 0 (take n r.lasts) f → (l : ℕ) × Around f l n
      of_start s =
          let x = reaches_is n (number_at (take n r.lasts) s.k) s.reached in
          let lt = within n s.k s.reached in
          let same : s.k ≡ f = let a = s.is_at in omega (arith, a) in (
            x.number,
            record {
              range = ap (number_at r.lasts) (sym same) ∙ sym (get_or-take n r.lasts s.k None lt) ∙ x.is_it;
              begins = subst (λ m. m < n) same lt;
              ends = x.upto;
            },
          )

  pub greatest_start : (f l n : ℕ) → Around f l n → (o : Option ℕ) → start_at r.lasts n ≡ o → IsSomeAnd o (λ m. f ≤ m)
  greatest_start f l n a None e = start_none n 0 (take n r.lasts) e f (begins_here f l n a)
  greatest_start f l n a (Some m) e = of_start (start_some n 0 (take n r.lasts) m e) (nat_le f m) refl
    where
      of_start : LastReaching n 0 (take n r.lasts) m → (b : Bool) → nat_le f m ≡ b → f ≤ m
      of_start s true on = le_is f m on
      of_start s false off =
          let h = s.is_at in let g = not_le f m off in
          absurd (s.none_behind f (omega (arith, h, g)) (begins_here f l n a))

  -- what a jump enters
  record Entered (from to : ℕ) : Type 0 where
    pub first : ℕ
    pub last : ℕ
    pub around : Around first last to
    pub outside : (from < first) ⊎ (last < from)

  entered : (from to : ℕ) → IsTrue (enters r from to) → Entered from to
  entered from to h = elim (either_on (is_over from (start_at r.lasts to)) (is_under from (end_at r.firsts to)) h) [
    | inl over ↦ (let x = over_is from (start_at r.lasts to) over in let a = around_start to x.number x.is_it in
        record { first = x.number; last = a.0; around = a.1; outside = inl x.more })
    | inr under ↦ (let x = under_is from (end_at r.firsts to) under in let a = around_end to x.number x.is_it in
        record { first = a.0; last = x.number; around = a.1; outside = inr x.less })
  ]

  over_start : (from f l to : ℕ) → Around f l to → from < f → (o : Option ℕ) → start_at r.lasts to ≡ o → IsTrue (is_over from o)
  over_start from f l to a lt None e = absurd (greatest_start f l to a None e)
  over_start from f l to a lt (Some m) e = let g = greatest_start f l to a (Some m) e in is_lt from m (omega (arith, g, lt))

  under_end : (from f l to : ℕ) → Around f l to → l < from → (o : Option ℕ) → end_at r.firsts to ≡ o → IsTrue (is_under from o)
  under_end from f l to a lt None e = absurd (least_end f l to a None e)
  under_end from f l to a lt (Some m) e = let g = least_end f l to a (Some m) e in is_lt m from (omega (arith, g, lt))

  enters_so : (from to : ℕ) → Entered from to → IsTrue (enters r from to)
  enters_so from to x = on_either (is_over from (start_at r.lasts to)) (is_under from (end_at r.firsts to)) (elim x.outside [
    | inl lt ↦ inl (over_start from x.first x.last to x.around lt (start_at r.lasts to) refl)
    | inr lt ↦ inr (under_end from x.first x.last to x.around lt (end_at r.firsts to) refl)
  ])

-- ---- at an instruction

module _ (is : List InstrTree) where
  abbrev goals : Numbers
  goals = goals_of is

  abbrev nums : RangeNumbers
  nums = numbers_of_goals goals

  range_is : (f l : ℕ) → number_at (lasts_of goals) f ≡ Some l → IsRange is f l
  range_is f l e = let x = range_of_last goals f l e in record {
    back = x.back;
    jumps = goal_jumps is l f x.goes;
    none_later = λ j lt jumps. x.none_later j lt (jumps_goal is j f jumps);
  }

  is_range : (f l : ℕ) → IsRange is f l → number_at (lasts_of goals) f ≡ Some l
  is_range f l x = last_of_range goals f l (record {
    back = x.back;
    goes = jumps_goal is l f x.jumps;
    none_later = λ j lt e. x.none_later j lt (goal_jumps is j f e);
  })

  -- an instruction with this number enters, or a range that begins with it crosses
  abbrev EntersAt : ℕ → InstrTree → Place → Type 0
  EntersAt n i at = IsSomeAnd (number_at goals n) (λ to. (i.place ≡ at) × IsTrue (enters nums n to))

  abbrev CrossesAt : ℕ → InstrTree → Place → Type 0
  CrossesAt n i at = IsSomeAnd (number_at nums.lasts n) (λ last. IsSomeAnd i.label (λ l. (l.1 ≡ at) × IsTrue (crosses nums n last)))

  enter_where : (n : ℕ) (i : InstrTree) (o : Option ℕ)
      → IsNearest (λ at. IsSomeAnd o (λ to. (i.place ≡ at) × IsTrue (enters nums n to)))
      (option_and_then (λ to. place_where (enters nums n to) i.place) o)
  enter_where n i None = λ at h. h
  enter_where n i (Some to) = nearest_where (enters nums n to) i.place

  cross_label : (n last : ℕ) (o : Option PlacedName)
      → IsNearest (λ at. IsSomeAnd o (λ l. (l.1 ≡ at) × IsTrue (crosses nums n last))) (option_and_then (λ l. place_where (crosses nums n last) l.1) o)
  cross_label n last None = λ at h. h
  cross_label n last (Some l) = nearest_where (crosses nums n last) l.1

  cross_where : (n : ℕ) (i : InstrTree) (o : Option ℕ)
      → IsNearest (λ at. IsSomeAnd o (λ last. IsSomeAnd i.label (λ l. (l.1 ≡ at) × IsTrue (crosses nums n last))))
      (option_and_then (λ last. option_and_then (λ l. place_where (crosses nums n last) l.1) i.label) o)
  cross_where n i None = λ at h. h
  cross_where n i (Some last) = cross_label n last i.label

  abbrev WrongAt : ℕ → InstrTree → Place → Type 0
  WrongAt n i at = EntersAt n i at ⊎ CrossesAt n i at

  wrong_nearest : (n : ℕ) (i : InstrTree) → IsNearest (WrongAt n i) (range_at nums n i)
  wrong_nearest n i =
      nearest_both (EntersAt n i) (CrossesAt n i) (enter_at nums n i) (cross_at nums n i) (enter_where n i (number_at goals n))
      (cross_where n i (number_at nums.lasts n))

  -- along the instructions
  abbrev WrongIn : ℕ → List InstrTree → Place → Type 0
  WrongIn n [] at = ⊥
  WrongIn n (i ∷ more) at = WrongAt n i at ⊎ WrongIn (suc n) more at

  wrong_along : (A : Place → Type 0) (n : ℕ) (list : List InstrTree) (o : Option Place) → IsNearest A o
      → IsNearest (λ at. A at ⊎ WrongIn n list at) (range_from nums n list o)
  wrong_along A n [] o h = nearest_same A (λ at. A at ⊎ ⊥) o (λ at a. inl a) (λ at e. elim e [ inl a ↦ a | inr b ↦ absurd b ]) h
  wrong_along A n (i ∷ more) o h =
      nearest_same (λ at. (A at ⊎ WrongAt n i at) ⊎ WrongIn (suc n) more at) (λ at. A at ⊎ (WrongAt n i at ⊎ WrongIn (suc n) more at))
      (range_from nums n (i ∷ more) o)
      (λ at e. elim e [ inl f ↦ elim f [ inl a ↦ inl a | inr q ↦ inr (inl q) ] | inr g ↦ inr (inr g) ])
      (λ at e. elim e [ inl a ↦ inl (inl a) | inr f ↦ elim f [ inl q ↦ inl (inr q) | inr g ↦ inr g ] ])
      (wrong_along (λ at. A at ⊎ WrongAt n i at) (suc n) more (nearer_of o (range_at nums n i))
      (nearest_both A (WrongAt n i) o (range_at nums n i) h (wrong_nearest n i)))

  record Found (s : ℕ) (list : List InstrTree) (at : Place) : Type 0 where
    pub k : ℕ
    pub instruction : InstrTree
    pub is_there : slice_get list k ≡ Some instruction
    pub wrong : WrongAt (s + k) instruction at

  found_in : (s : ℕ) (list : List InstrTree) (at : Place) → WrongIn s list at → Found s list at
  found_in s [] at h = absurd h
  found_in s (i ∷ more) at (inl w) = record {
    k = 0;
    instruction = i;
    is_there = refl;
    wrong = subst (λ n. WrongAt n i at) (plus_none s) w;
  }
  found_in s (i ∷ more) at (inr h) = let f = found_in (suc s) more at h in record {
    k = suc f.k;
    instruction = f.instruction;
    is_there = f.is_there;
    wrong = subst (λ n. WrongAt n f.instruction at) (plus_next s f.k) f.wrong;
  }

  in_found : (s : ℕ) (list : List InstrTree) (at : Place) (k : ℕ) (i : InstrTree) → slice_get list k ≡ Some i → WrongAt (s + k) i at → WrongIn s list at
  in_found s [] at k i e w = absurd (none_some i e)
  in_found s (x ∷ more) at zero i e w =
      inl (subst (λ y. WrongAt s y at) (sym (same_some x i e)) (subst (λ n. WrongAt n i at) (sym (plus_none s)) w))
  in_found s (x ∷ more) at (suc k) i e w = inr (in_found (suc s) more at k i e (subst (λ n. WrongAt n i at) (sym (plus_next s k)) w))

  -- ---- as the rule has it

  to_enters : (n : ℕ) (i : InstrTree) (at : Place) → slice_get is n ≡ Some i → (o : Option ℕ) → number_at goals n ≡ o
      → IsSomeAnd o (λ to. (i.place ≡ at) × IsTrue (enters nums n to)) → Enters is at
  to_enters n i at there None e h = absurd h
  to_enters n i at there (Some to) e h =
      let x = entered goals n to h.1 in
      let jumps = goal_jumps is n to e in
      record {
        first = x.first;
        last = x.last;
        range = range_is x.first x.last x.around.range;
        from = n;
        to = to;
        jumps = jumps;
        outside = x.outside;
        inside = x.around.begins;
        within = x.around.ends;
        is_at = ap (λ y. y.place) (same_some jumps.jump i (sym jumps.is_jump ∙ there)) ∙ h.0;
      }

  of_enters : (at : Place) → Enters is at → WrongIn 0 is at
  of_enters at x =
      in_found 0 is at x.from x.jumps.jump x.jumps.is_jump
      (subst (λ n. WrongAt n x.jumps.jump at) (none_plus x.from)
      (inl (subst (λ o. IsSomeAnd o (λ to. (x.jumps.jump.place ≡ at) × IsTrue (enters nums x.from to))) (sym (jumps_goal is x.from x.to x.jumps)) (
        x.is_at,
        enters_so goals x.from x.to (record {
          first = x.first;
          last = x.last;
          around = record { range = is_range x.first x.last x.range; begins = x.inside; ends = x.within };
          outside = x.outside;
        }),
      ))))

  crossed : (at : Place) (n last : ℕ) (i : InstrTree) (l : PlacedName) → slice_get is n ≡ Some i → i.label ≡ Some l
      → number_at nums.lasts n ≡ Some last → l.1 ≡ at → IsTrue (crosses nums n last) → Crosses is at
  crossed at n last i l there has e is_at on =
      let x = under_is last (end_at nums.firsts n) on in
      let a = around_end goals n x.number x.is_it in
      let later = range_is n last e in
      record {
        first = a.0;
        last = x.number;
        later_first = n;
        later_last = last;
        range = range_is a.0 x.number a.1.range;
        later_range = later;
        begins = a.1.begins;
        overlaps = a.1.ends;
        ends = x.less;
        is_at = ap (λ y. y.1) (same_some later.jumps.label l (sym later.jumps.has_label
            ∙ ap (λ g. g.label) (same_some later.jumps.goal i (sym later.jumps.is_goal ∙ there)) ∙ has)) ∙ is_at;
      }

  to_crosses : (n : ℕ) (i : InstrTree) (at : Place) → slice_get is n ≡ Some i → (o : Option ℕ) → number_at nums.lasts n ≡ o
      → (q : Option PlacedName) → i.label ≡ q
      → IsSomeAnd o (λ last. IsSomeAnd q (λ l. (l.1 ≡ at) × IsTrue (crosses nums n last))) → Crosses is at
  to_crosses n i at there None e q has h = absurd h
  to_crosses n i at there (Some last) e None has h = absurd h
  to_crosses n i at there (Some last) e (Some l) has h = crossed at n last i l there has e h.0 h.1

  of_crosses : (at : Place) → Crosses is at → WrongIn 0 is at
  of_crosses at x =
      let jumps = x.later_range.jumps in
      in_found 0 is at x.later_first jumps.goal jumps.is_goal
      (subst (λ n. WrongAt n jumps.goal at) (none_plus x.later_first)
      (inr (subst (λ o. IsSomeAnd o (λ last. IsSomeAnd jumps.goal.label (λ l. (l.1 ≡ at) × IsTrue (crosses nums x.later_first last))))
      (sym (is_range x.later_first x.later_last x.later_range))
      (subst (λ q. IsSomeAnd q (λ l. (l.1 ≡ at) × IsTrue (crosses nums x.later_first x.later_last))) (sym jumps.has_label)
      (x.is_at, crosses_so (end_at nums.firsts x.later_first) refl)))))
    where
      crosses_so : (o : Option ℕ) → end_at nums.firsts x.later_first ≡ o → IsTrue (is_under x.later_last o)
      crosses_so o e =
          let a : Around goals x.first x.last x.later_first = record { range = is_range x.first x.last x.range; begins = x.begins; ends = x.overlaps } in
          under_end goals x.later_last x.first x.last x.later_first a x.ends o e

  pub ranges_nearest : IsNearest (λ at. Enters is at ⊎ Crosses is at) (range_place is)
  ranges_nearest =
      nearest_same (λ at. ⊥ ⊎ WrongIn 0 is at) (λ at. Enters is at ⊎ Crosses is at) (range_place is)
      (λ at e. elim e [ inl b ↦ absurd b | inr w ↦ of_found at (found_in 0 is at w) ])
      (λ at e. elim e [ inl x ↦ inr (of_enters at x) | inr x ↦ inr (of_crosses at x) ])
      (wrong_along (λ at. ⊥) 0 is None (λ at b. b))
    where
      of_found : (at : Place) → Found 0 is at → Enters is at ⊎ Crosses is at
      of_found at f = elim f.wrong [
        | inl h ↦ inl (to_enters (0 + f.k) f.instruction at there (number_at goals (0 + f.k)) refl h)
        | inr h ↦ inr (to_crosses (0 + f.k) f.instruction at there (number_at nums.lasts (0 + f.k)) refl f.instruction.label refl h)
      ]
        where
          there : slice_get is (0 + f.k) ≡ Some f.instruction
          there = ap (slice_get is) (sym (none_plus f.k)) ∙ f.is_there
