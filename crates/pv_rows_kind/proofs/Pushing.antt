-- A formula's clauses pushed one after another into a store without clauses.
use Rattle.std.proofs.Common.{◌≡◌, ℕ, zero, suc, take, drop, ◌+◌, ◌≤◌, Bool, true, false, ◌||◌, List, [], ◌∷◌, ◌++◌, length, refl, sym, ap, subst, ◌∙◌, arith, Option, Some, None, append_assoc, append-nil}
use Rattle.std.specs.Prelude.{nat_lt, slice_get}
use Rattle.std.proofs.lemmas.Bool.{ltb-false, le-ltb, true≢false}
use Rattle.pv_cnf.specs.declared.clauses.PushFault.{PushFault}
use Rattle.pv_cnf.specs.declared.clauses.PushFault.TheVariants.{VariableOutOfRange, Doubled, Empty, Full, NoMemory}
use Rattle.pv_cnf.specs.Literal.{variable_of, is_outside}
use Rattle.pv_cnf.specs.Clause.{has_outside, has_double, IsClause}
use Rattle.pv_frames.specs.Pushing.{Overflow, AllFit, IsRefusal, ArePushed, StopsAt}

-- ---- a clause over fewer variables

or_parts : (a b : Bool) → (a || b) ≡ false → (a ≡ false) × (b ≡ false)
or_parts true b e = absurd cc
or_parts false b e = (refl, e)

outside_less : (v w lit : ℕ) → v ≤ w → is_outside v lit ≡ false → is_outside w lit ≡ false
outside_less v w lit le e =
    let p = or_parts _ _ e in
    let least : variable_of lit ≤ v = ltb-false v (variable_of lit) p.1 in
    ap (λ b. b || nat_lt w (variable_of lit)) p.0 ∙ le-ltb w (variable_of lit) (omega arith)

has_less : (v w : ℕ) (lits : List ℕ) → v ≤ w → has_outside v lits ≡ false → has_outside w lits ≡ false
has_less v w [] le e = refl
has_less v w (lit ∷ lits) le e =
    let p = or_parts _ _ e in
    ap (λ b. b || has_outside w lits) (outside_less v w lit le p.0) ∙ has_less v w lits le p.1

pub good_less : (v w : ℕ) (lits : List ℕ) → v ≤ w → IsClause v lits → IsClause w lits
good_less v w lits le good = record { inside = has_less v w lits le good.inside; distinct = good.distinct; nonempty = good.nonempty }

-- ---- pushed one after another

fit_on : (f g : Overflow) (there clauses : List (List ℕ)) (clause : List ℕ) → ((all : List (List ℕ)) → g all ≡ f all) → AllFit f there clauses
    → g ((there ++ clauses) ++ clause ∷ []) ≡ None → AllFit f there (clauses ++ clause ∷ [])
fit_on f g there [] clause same fit one = (sym (same (there ++ clause ∷ [])) ∙ subst (λ (t : List (List ℕ)). g (t ++ clause ∷ []) ≡ None) (append-nil there) one, tt)
fit_on f g there (c ∷ clauses) clause same fit one = (
  fit.0,
  fit_on f g (there ++ c ∷ []) clauses clause same fit.1
      (subst (λ (t : List (List ℕ)). g (t ++ clause ∷ []) ≡ None) (sym (append_assoc there (c ∷ []) clauses)) one),
)

pub pushed_one : (f g : Overflow) (front mid new : List (List ℕ)) (clause : List ℕ) → ((all : List (List ℕ)) → g all ≡ f all) → ArePushed f [] front mid
    → new ≡ mid ++ clause ∷ [] → g (mid ++ clause ∷ []) ≡ None → ArePushed f [] (front ++ clause ∷ []) new
pushed_one f g front mid new clause same h is one = record {
  stand = is ∙ ap (λ (t : List (List ℕ)). t ++ clause ∷ []) h.stand;
  fit = fit_on f g [] front clause same h.fit (subst (λ (t : List (List ℕ)). g (t ++ clause ∷ []) ≡ None) h.stand one);
}

-- why a store doesn't take a good clause
refusal : (f g : Overflow) (all : List (List ℕ)) (n : ℕ) (lits : List ℕ) (fault : PushFault) → ((all : List (List ℕ)) → g all ≡ f all) → IsClause n lits
    → (fault ≡ VariableOutOfRange → has_outside n lits ≡ true) → (fault ≡ Doubled → has_double lits ≡ true) → (fault ≡ Empty → lits ≡ [])
    → ((need : ℕ) → fault ≡ Full need → g all ≡ Some need) → IsRefusal f all fault
refusal f g all n lits VariableOutOfRange same good outside doubled empty full = true≢false (sym (outside refl) ∙ good.inside)
refusal f g all n lits Doubled same good outside doubled empty full = true≢false (sym (doubled refl) ∙ good.distinct)
refusal f g all n lits Empty same good outside doubled empty full =
    absurd (omega (arith, good.nonempty, ap (λ (xs : List ℕ). length xs) (empty refl)))
refusal f g all n lits (Full need) same good outside doubled empty full = sym (same all) ∙ full need refl
refusal f g all n lits NoMemory same good outside doubled empty full = tt

pub stops_one : (f g : Overflow) (front mid new behind : List (List ℕ)) (n : ℕ) (lits : List ℕ) (fault : PushFault) → ((all : List (List ℕ)) → g all ≡ f all)
    → ArePushed f [] front mid → IsClause n lits → new ≡ mid → (fault ≡ VariableOutOfRange → has_outside n lits ≡ true) → (fault ≡ Doubled → has_double lits ≡ true)
    → (fault ≡ Empty → lits ≡ []) → ((need : ℕ) → fault ≡ Full need → g (mid ++ lits ∷ []) ≡ Some need) → StopsAt f [] (front ++ lits ∷ behind) new fault
stops_one f g front mid new behind n lits fault same h good kept outside doubled empty full = record {
  before = front;
  refused = lits;
  rest = behind;
  split = refl;
  pushed = subst (λ (t : List (List ℕ)). ArePushed f [] front t) (sym kept) h;
  refusal = subst (λ (t : List (List ℕ)). IsRefusal f (t ++ lits ∷ []) fault) (sym kept) (refusal f g (mid ++ lits ∷ []) n lits fault same good outside doubled empty full);
}

-- ---- parts of a list of clauses

pub take_next : (cs : List (List ℕ)) (n : ℕ) (lits : List ℕ) → slice_get cs n ≡ Some lits → take (n + 1) cs ≡ take n cs ++ lits ∷ []
take_next [] n lits at = absurd cc
take_next (c ∷ cs) zero lits at = (let same : c ≡ lits = cc in ap (λ (x : List ℕ). x ∷ []) same)
take_next (c ∷ cs) (suc n) lits at =
    let e : suc n + 1 ≡ suc (n + 1) = omega arith in
    ap (λ (k : ℕ). take k (c ∷ cs)) e ∙ ap (λ (xs : List (List ℕ)). c ∷ xs) (take_next cs n lits at)

pub around : (cs : List (List ℕ)) (n : ℕ) (lits : List ℕ) → slice_get cs n ≡ Some lits → take n cs ++ lits ∷ drop (n + 1) cs ≡ cs
around [] n lits at = absurd cc
around (c ∷ cs) zero lits at = (let same : lits ≡ c = cc in ap (λ (x : List ℕ). x ∷ cs) same)
around (c ∷ cs) (suc n) lits at =
    let e : suc n + 1 ≡ suc (n + 1) = omega arith in
    ap (λ (k : ℕ). c ∷ (take n cs ++ lits ∷ drop k (c ∷ cs))) e ∙ ap (λ (xs : List (List ℕ)). c ∷ xs) (around cs n lits at)
