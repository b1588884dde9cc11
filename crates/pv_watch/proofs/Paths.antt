-- What a trail keeps as it grows and shrinks, and as clauses come.
use Rattle.std.proofs.Common.{◌≡◌, ℕ, zero, suc, ◌+◌, ◌<◌, ◌≤◌, true, List, [], ◌∷◌, ◌++◌, length, get_or, set, take, drop, refl, sym, ap, subst, ◌∙◌, inl, inr, Some, arith}
use Rattle.std.specs.Prelude.{slice_get, Contains}
use Rattle.std.specs.List.{AllByRecursion}
use Rattle.std.proofs.lemmas.Bool.{cases_lt}
use Rattle.std.proofs.lemmas.List.{length_push, get_or_append_left, get_or_push, get_or-set_same, get_or-set_other, get_or-take, take-append-le, take-take, take_all, take_more, drop_more}
use Rattle.std.proofs.lemmas.List.Elements.{Contains-append_left, Contains-push, Contains-push_cases}
use Rattle.pv_cnf.specs.Literal.{complement}
use Rattle.pv_log.specs.Propagation.{named, unit_of, is_falsified, LeadsToFalse}
use Rattle.pv_watch.specs.Quiet.{IsQuiet, AreQuiet}
use Rattle.pv_watch.specs.Trail.{Path, Rise, IsImplied, IsSound}
use Rattle.pv_watch.proofs.Places.{Rise-front}

-- ---- lists of places

pub below-all : (starts : List ℕ) (n : ℕ) → Rise starts n → AllByRecursion (λ (s : ℕ). s < n) starts
below-all [] n r = tt
below-all (s ∷ starts) n r = (r.1, below-all starts n r.2)

-- what holds of the first literals up to each start is kept where these stay
pub kept-starts : (P : List ℕ → Type 0) (old new starts : List ℕ) (n : ℕ) → AllByRecursion (λ (s : ℕ). s < n) starts
    → ((s : ℕ) → s < n → take s new ≡ take s old) → AllByRecursion (λ (s : ℕ). P (take s old)) starts
    → AllByRecursion (λ (s : ℕ). P (take s new)) starts
kept-starts P old new [] n b same a = tt
kept-starts P old new (s ∷ starts) n b same a = (subst P (sym (same s b.0)) a.0, kept-starts P old new starts n b.1 same a.1)

pub all-push : (P : ℕ → Type 0) (xs : List ℕ) (y : ℕ) → AllByRecursion P xs → P y → AllByRecursion P (xs ++ y ∷ [])
all-push P [] y a p = (p, tt)
all-push P (x ∷ xs) y a p = (a.0, all-push P xs y a.1 p)

all-front : (P : ℕ → Type 0) (xs ys : List ℕ) → AllByRecursion P (xs ++ ys) → AllByRecursion P xs
all-front P [] ys a = tt
all-front P (x ∷ xs) ys a = (a.0, all-front P xs ys a.1)

-- ---- a literal is implied as before where the first ones and its reason stay

implied-kept : (clauses : List (List ℕ)) (old new reasons more : List ℕ) (i : ℕ) → take i new ≡ take i old → get_or new i 0 ≡ get_or old i 0
    → get_or more i 0 ≡ get_or reasons i 0 → IsImplied clauses old reasons i → IsImplied clauses new more i
implied-kept clauses old new reasons more i front same reason imp = record {
  clause = imp.clause;
  lit = imp.lit;
  at = ap (named clauses) reason ∙ imp.at;
  unit = ap (λ (f : List ℕ). unit_of f imp.clause) front ∙ imp.unit;
  false_is = imp.false_is ∙ sym same;
}

module _ (clauses : List (List ℕ)) (old new : Path) (lit reason : ℕ) (sound : IsSound clauses old)
    (rise : Rise old.starts (length old.falses))
    (falses : new.falses ≡ old.falses ++ lit ∷ []) (reasons : new.reasons ≡ set old.reasons (length old.falses) reason) where
  front : (s : ℕ) → s < length old.falses + 1 → take s new.falses ≡ take s old.falses
  front s lt = ap (take s) falses ∙ take-append-le s old.falses (lit ∷ []) (omega arith)

  implied-before : (i : ℕ) → i < length old.falses → IsImplied clauses old.falses old.reasons i → IsImplied clauses new.falses new.reasons i
  implied-before i lt imp =
      let ne : i ≡ length old.falses → ⊥ = λ e. omega arith in
      implied-kept clauses old.falses new.falses old.reasons new.reasons i (front i (omega arith))
      (ap (λ (f : List ℕ). get_or f i 0) falses ∙ get_or_append_left old.falses (lit ∷ []) 0 i lt)
      (ap (λ (r : List ℕ). get_or r i 0) reasons ∙ get_or-set_other old.reasons (length old.falses) i reason 0 ne)
      imp

  quiet-before : AllByRecursion (λ (s : ℕ). AreQuiet (take s new.falses) clauses) old.starts
  quiet-before = kept-starts (λ (f : List ℕ). AreQuiet f clauses) old.falses new.falses old.starts (length old.falses)
      (below-all old.starts (length old.falses) rise) (λ s lt. front s (omega arith)) sound.quiet

  last : get_or new.falses (length old.falses) 0 ≡ lit
  last = ap (λ (f : List ℕ). get_or f (length old.falses) 0) falses ∙ get_or_push old.falses lit 0 (length old.falses) refl

  pub longer : length new.falses ≡ length old.falses + 1
  longer = ap (λ (f : List ℕ). length f) falses ∙ length_push old.falses lit

  -- one more literal by its reason
  pub sound-imply : (clause : List ℕ) (unset : ℕ) → length old.falses < length old.reasons → new.starts ≡ old.starts
      → named clauses reason ≡ Some clause → unit_of old.falses clause ≡ Some unset → lit ≡ complement unset → IsSound clauses new
  sound-imply clause unset room starts at unit is = record {
    reasons = λ i lt. elim (cases_lt i (length old.falses)) [
      | inl before ↦ elim (sound.reasons i before) [
        | inl c ↦ inl (subst (λ (ss : List ℕ). Contains ss i) (sym starts) c)
        | inr imp ↦ inr (implied-before i before imp)
      ]
      | inr from ↦ (let e : i ≡ length old.falses = omega (arith, longer) in
          inr (subst (IsImplied clauses new.falses new.reasons) (sym e) (record {
            clause = clause;
            lit = unset;
            at = ap (λ (r : List ℕ). named clauses (get_or r (length old.falses) 0)) reasons
                ∙ ap (named clauses) (get_or-set_same old.reasons (length old.falses) reason 0 room) ∙ at;
            unit = ap (λ (f : List ℕ). unit_of f clause) (front (length old.falses) (omega arith)
                ∙ take_all (length old.falses) old.falses (omega arith)) ∙ unit;
            false_is = sym (last ∙ is);
          })))
    ];
    quiet = subst (λ (ss : List ℕ). AllByRecursion (λ (s : ℕ). AreQuiet (take s new.falses) clauses) ss) (sym starts) quiet-before;
  }

  -- one more literal by decision
  pub sound-decide : new.starts ≡ old.starts ++ length old.falses ∷ [] → AreQuiet old.falses clauses → IsSound clauses new
  sound-decide starts quiet = record {
    reasons = λ i lt. elim (cases_lt i (length old.falses)) [
      | inl before ↦ elim (sound.reasons i before) [
        | inl c ↦ inl (subst (λ (ss : List ℕ). Contains ss i) (sym starts) (Contains-append_left old.starts (length old.falses ∷ []) i c))
        | inr imp ↦ inr (implied-before i before imp)
      ]
      | inr from ↦ (let e : length old.falses ≡ i = omega (arith, longer) in
          inl (subst (λ (ss : List ℕ). Contains ss i) (sym starts) (subst (Contains (old.starts ++ length old.falses ∷ [])) e
          (Contains-push old.starts (length old.falses)))))
    ];
    quiet = subst (λ (ss : List ℕ). AllByRecursion (λ (s : ℕ). AreQuiet (take s new.falses) clauses) ss) (sym starts)
        (all-push (λ (s : ℕ). AreQuiet (take s new.falses) clauses) old.starts (length old.falses) quiet-before
        (subst (λ (f : List ℕ). AreQuiet f clauses) (sym (front (length old.falses) (omega arith)
        ∙ take_all (length old.falses) old.falses (omega arith))) quiet));
  }

-- the last decision and what came after it taken back
pub sound-undo : (clauses : List (List ℕ)) (old new : Path) → IsSound clauses old → Rise old.starts (length old.falses)
    → new.reasons ≡ old.reasons → old.starts ≡ new.starts ++ length new.falses ∷ []
    → new.falses ≡ take (length new.falses) old.falses → IsSound clauses new
sound-undo clauses old new sound rise reasons starts falses =
    let r = Rise-front new.starts (length new.falses) (length old.falses) (subst (λ (ss : List ℕ). Rise ss (length old.falses)) starts rise)
    in
    let front : (s : ℕ) → s ≤ length new.falses → take s new.falses ≡ take s old.falses = λ s le. ap (take s) falses
    ∙ take-take s (length new.falses) old.falses le in
    record {
      reasons = λ i lt. elim (sound.reasons i (omega arith)) [
        | inl c ↦ elim (Contains-push_cases new.starts (length new.falses) i (subst (λ (ss : List ℕ). Contains ss i) starts c)) [
          | inl there ↦ inl there
          | inr e ↦ absurd (omega arith)
        ]
        | inr imp ↦ inr (implied-kept clauses old.falses new.falses old.reasons new.reasons i (front i (omega arith))
            (ap (λ (f : List ℕ). get_or f i 0) falses ∙ get_or-take (length new.falses) old.falses i 0 lt)
            (ap (λ (rs : List ℕ). get_or rs i 0) reasons) imp)
      ];
      quiet = kept-starts (λ (f : List ℕ). AreQuiet f clauses) old.falses new.falses new.starts (length new.falses)
          (below-all new.starts (length new.falses) r.0) (λ s lt. front s (omega arith))
          (all-front (λ (s : ℕ). AreQuiet (take s old.falses) clauses) new.starts (length new.falses ∷ [])
          (subst (AllByRecursion (λ (s : ℕ). AreQuiet (take s old.falses) clauses)) starts sound.quiet));
    }

-- ---- one more clause

get-more : (clauses : List (List ℕ)) (more : List ℕ) (n : ℕ) (clause : List ℕ) → slice_get clauses n ≡ Some clause
    → slice_get (clauses ++ more ∷ []) n ≡ Some clause
get-more [] more n clause e = absurd cc
get-more (c ∷ clauses) more zero clause e = e
get-more (c ∷ clauses) more (suc n) clause e = get-more clauses more n clause e

named-more : (clauses : List (List ℕ)) (more : List ℕ) (id : ℕ) (clause : List ℕ) → named clauses id ≡ Some clause
    → named (clauses ++ more ∷ []) id ≡ Some clause
named-more clauses more zero clause e = absurd cc
named-more clauses more (suc n) clause e = get-more clauses more n clause e

quiet-more : (F : List ℕ) (clauses : List (List ℕ)) (more : List ℕ) → AreQuiet F clauses → IsQuiet F more
    → AreQuiet F (clauses ++ more ∷ [])
quiet-more F [] more a q = (q, tt)
quiet-more F (c ∷ clauses) more a q = (a.0, quiet-more F clauses more a.1 q)

quiet-each : (falses : List ℕ) (clauses : List (List ℕ)) (more starts : List ℕ)
    → AllByRecursion (λ (s : ℕ). AreQuiet (take s falses) clauses) starts → AllByRecursion (λ (s : ℕ). IsQuiet (take s falses) more) starts
    → AllByRecursion (λ (s : ℕ). AreQuiet (take s falses) (clauses ++ more ∷ [])) starts
quiet-each falses clauses more [] a q = tt
quiet-each falses clauses more (s ∷ starts) a q =
    (quiet-more (take s falses) clauses more a.0 q.0, quiet-each falses clauses more starts a.1 q.1)

pub sound-more : (clauses : List (List ℕ)) (more : List ℕ) (path : Path) → IsSound clauses path
    → AllByRecursion (λ (s : ℕ). IsQuiet (take s path.falses) more) path.starts → IsSound (clauses ++ more ∷ []) path
sound-more clauses more path sound quiet = record {
  reasons = λ i lt. elim (sound.reasons i lt) [
    | inl c ↦ inl c
    | inr imp ↦ inr (record {
      clause = imp.clause;
      lit = imp.lit;
      at = named-more clauses more (get_or path.reasons i 0) imp.clause imp.at;
      unit = imp.unit;
      false_is = imp.false_is;
    })
  ];
  quiet = quiet-each path.falses clauses more path.starts sound.quiet quiet;
}

-- ---- the trail as a line

leads-cons : (clauses : List (List ℕ)) (A : List ℕ) (h : ℕ) (rest clause : List ℕ) (lit : ℕ) → 0 < length rest
    → named clauses h ≡ Some clause → unit_of A clause ≡ Some lit → LeadsToFalse clauses (A ++ complement lit ∷ []) rest
    → LeadsToFalse clauses A (h ∷ rest)
leads-cons clauses A h [] clause lit lt at unit more = absurd (omega arith)
leads-cons clauses A h (next ∷ rest) clause lit lt at unit more = (clause, lit, at, unit, more)

-- from place i on the reasons lead on to the false clause
pub leads-from : (clauses : List (List ℕ)) (falses reasons : List ℕ) (k : ℕ) (clause : List ℕ) → named clauses k ≡ Some clause
    → is_falsified falses clause ≡ true
    → (d i : ℕ) → i + d ≡ length falses → length falses ≤ length reasons → ((j : ℕ) → i ≤ j → j < length falses
    → IsImplied clauses falses reasons j)
    → LeadsToFalse clauses (take i falses) (take d (drop i reasons) ++ k ∷ [])
leads-from clauses falses reasons k clause at is zero i e le each =
    (clause, at, ap (λ (f : List ℕ). is_falsified f clause) (take_all i falses (omega arith)) ∙ is)
leads-from clauses falses reasons k clause at is (suc d) i e le each =
    let here = each i (omega arith) (omega arith) in
    let first : take (suc d) (drop i reasons) ≡ get_or reasons i 0 ∷ take d (drop (i + 1) reasons) =
    ap (take (suc d)) (drop_more reasons i 0 (omega arith)) in
    let more : take (i + 1) falses ≡ take i falses ++ complement here.lit ∷ [] = take_more falses i 0 (omega arith)
    ∙ ap (λ (x : ℕ). take i falses ++ x ∷ []) (sym here.false_is) in
    subst (λ (hs : List ℕ). LeadsToFalse clauses (take i falses) (hs ++ k ∷ [])) (sym first)
    (leads-cons clauses (take i falses) (get_or reasons i 0) (take d (drop (i + 1) reasons) ++ k ∷ []) here.clause here.lit
    (omega (arith, length_push (take d (drop (i + 1) reasons)) k)) here.at here.unit
    (subst (λ (f : List ℕ). LeadsToFalse clauses f (take d (drop (i + 1) reasons) ++ k ∷ [])) more
    (leads-from clauses falses reasons k clause at is d (i + 1) (omega arith) le (λ j from lt. each j (omega arith) lt))))
