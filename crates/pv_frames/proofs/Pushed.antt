-- Clauses pushed one after the other.
-- What a call gives that pushes a list is one relation by cases on its result (`Pushes`: `ArePushed` or `StopsAt`). Three lemmas
-- serve every `?` and loop: `pushed_more` (front and part), `stops_within` (a stop in a part is one of front ++ part ++ behind),
-- `pushes_behind` (the last call's result is returned); they take `g all ≡ f all` for the store's `overflow` before and now, so no
-- function extensionality is needed. Clauses are made as small values (`Short`, four in an array) by functions without a bound,
-- which proved with no file; only `push_short`, one loop over a slice and one over the nodes are generic.
use Rattle.std.proofs.Common.{◌≡◌, ◌↔◌, ℕ, length, arith, refl, ◌++◌, List, [], ◌∷◌, sym, ◌∙◌, ap, subst, append_assoc, append-nil, true, false, Some, None, Result, Ok, Err, OnOk, OnErr, IfErr}
use Rattle.std.proofs.lemmas.Bool.{true≢false}
use Rattle.pv_cnf.specs.declared.clauses.PushFault.{PushFault}
use Rattle.pv_cnf.specs.declared.clauses.PushFault.TheVariants.{VariableOutOfRange, Doubled, Empty, Full, NoMemory}
use Rattle.pv_cnf.specs.Clause.{has_outside, has_double, IsClause}
use Rattle.pv_frames.specs.Pushing.{Overflow, AllFit, IsRefusal, ArePushed, StopsAt, Pushes}

fit-same : (f g : Overflow) (there clauses : List (List ℕ)) → ((all : List (List ℕ)) → f all ≡ g all) → AllFit f there clauses → AllFit g there clauses
fit-same f g there [] same fit = tt
fit-same f g there (c ∷ cs) same fit = (sym (same (there ++ c ∷ [])) ∙ fit.0, fit-same f g (there ++ c ∷ []) cs same fit.1)

fit-append : (f : Overflow) (there xs ys : List (List ℕ)) → AllFit f there xs → AllFit f (there ++ xs) ys → AllFit f there (xs ++ ys)
fit-append f there [] ys p q = subst (λ (t : List (List ℕ)). AllFit f t ys) (append-nil there) q
fit-append f there (x ∷ xs) ys p q =
    (p.0, fit-append f (there ++ x ∷ []) xs ys p.1 (subst (λ (t : List (List ℕ)). AllFit f t ys) (sym (append_assoc there (x ∷ []) xs)) q))

refusal-same : (f g : Overflow) (all : List (List ℕ)) (fault : PushFault) → ((all : List (List ℕ)) → f all ≡ g all) → IsRefusal f all fault → IsRefusal g all fault
refusal-same f g all VariableOutOfRange same h = h
refusal-same f g all Doubled same h = h
refusal-same f g all Empty same h = h
refusal-same f g all (Full need) same h = sym (same all) ∙ h
refusal-same f g all NoMemory same h = h

pub none_pushed : (f : Overflow) (old : List (List ℕ)) → ArePushed f old [] old
none_pushed f old = record { stand = sym (append-nil old); fit = tt }

-- some clauses, and more behind them
pub pushed_more : (f g : Overflow) (old mid new front part : List (List ℕ)) → ((all : List (List ℕ)) → g all ≡ f all) → ArePushed f old front mid → ArePushed g mid part new → ArePushed f old (front ++ part) new
pushed_more f g old mid new front part same h p = record {
  stand = p.stand ∙ (ap (λ (t : List (List ℕ)). t ++ part) h.stand ∙ append_assoc old front part);
  fit = fit-append f old front part h.fit (subst (λ (t : List (List ℕ)). AllFit f t part) h.stand (fit-same g f mid part same p.fit));
}

-- one of some clauses is refused, and so one of a list that has others before and behind them
pub stops_within : (f g : Overflow) (old mid new front part behind : List (List ℕ)) (fault : PushFault) → ((all : List (List ℕ)) → g all ≡ f all) → ArePushed f old front mid → StopsAt g mid part new fault → StopsAt f old (front ++ (part ++ behind)) new fault
stops_within f g old mid new front part behind fault same h s = record {
  before = front ++ s.before;
  refused = s.refused;
  rest = s.rest ++ behind;
  split = ap (λ (t : List (List ℕ)). front ++ (t ++ behind)) s.split
      ∙ (ap (λ (t : List (List ℕ)). front ++ t) (append_assoc s.before (s.refused ∷ s.rest) behind)
      ∙ sym (append_assoc front s.before (s.refused ∷ (s.rest ++ behind))));
  pushed = pushed_more f g old mid new front s.before same h s.pushed;
  refusal = refusal-same g f (new ++ s.refused ∷ []) fault same s.refusal;
}

-- why a store doesn't take a good clause
good_refused : (f : Overflow) (n : ℕ) (old : List (List ℕ)) (lits : List ℕ) (fault : PushFault) (r : Result (Unit {0}) PushFault) → r ≡ Err fault → IsClause n lits → ((r ≡ Err VariableOutOfRange) ↔ (has_outside n lits ≡ true)) → ((r ≡ Err Doubled) ↔ ((has_outside n lits ≡ false) × (has_double lits ≡ true))) → ((r ≡ Err Empty) ↔ (lits ≡ [])) → ((need : ℕ) → r ≡ Err (Full need) → f (old ++ lits ∷ []) ≡ Some need) → IsRefusal f (old ++ lits ∷ []) fault
good_refused f n old lits VariableOutOfRange r is good outside doubled empty full = true≢false (sym (outside.0 is) ∙ good.inside)
good_refused f n old lits Doubled r is good outside doubled empty full = true≢false (sym (doubled.0 is).1 ∙ good.distinct)
good_refused f n old lits Empty r is good outside doubled empty full = absurd (omega (arith, good.nonempty, ap (λ (xs : List ℕ). length xs) (empty.0 is)))
good_refused f n old lits (Full need) r is good outside doubled empty full = full need is
good_refused f n old lits NoMemory r is good outside doubled empty full = tt

-- what a store answers to a good clause
pub pushes_one : (f : Overflow) (n : ℕ) (old new : List (List ℕ)) (lits : List ℕ) (r : Result (Unit {0}) PushFault) → IsClause n lits → OnOk r (new ≡ old ++ lits ∷ []) → OnErr r (new ≡ old) → ((r ≡ Err VariableOutOfRange) ↔ (has_outside n lits ≡ true)) → ((r ≡ Err Doubled) ↔ ((has_outside n lits ≡ false) × (has_double lits ≡ true))) → ((r ≡ Err Empty) ↔ (lits ≡ [])) → ((need : ℕ) → r ≡ Err (Full need) → f (old ++ lits ∷ []) ≡ Some need) → OnOk r (f (old ++ lits ∷ []) ≡ None) → Pushes f old (lits ∷ []) new r
pushes_one f n old new lits (Ok done) good ok err outside doubled empty full fits = record { stand = ok; fit = (fits, tt) }
pushes_one f n old new lits (Err fault) good ok err outside doubled empty full fits = record {
  before = [];
  refused = lits;
  rest = [];
  split = refl;
  pushed = record { stand = err ∙ sym (append-nil old); fit = tt };
  refusal = subst (λ (t : List (List ℕ)). IsRefusal f (t ++ lits ∷ []) fault) (sym err) (good_refused f n old lits fault (Err fault) refl good outside doubled empty full);
}

-- ---- what a call gives whose last call this is

pub pushes_behind : (f g : Overflow) (old mid new front part all : List (List ℕ)) (r : Result (Unit {0}) PushFault) → all ≡ front ++ part → ((all : List (List ℕ)) → g all ≡ f all) → ArePushed f old front mid → Pushes g mid part new r → Pushes f old all new r
pushes_behind f g old mid new front part all (Ok done) is same h p = subst (λ (t : List (List ℕ)). ArePushed f old t new) (sym is) (pushed_more f g old mid new front part same h p)
pushes_behind f g old mid new front part all (Err fault) is same h p =
    subst (λ (t : List (List ℕ)). StopsAt f old t new fault) (sym (is ∙ ap (λ (t : List (List ℕ)). front ++ t) (sym (append-nil part))))
    (stops_within f g old mid new front part [] fault same h p)

pub pushes-ok : (f : Overflow) (old clauses new : List (List ℕ)) (r : Result (Unit {0}) PushFault) → Pushes f old clauses new r → OnOk r (ArePushed f old clauses new)
pushes-ok f old clauses new (Ok done) p = p
pushes-ok f old clauses new (Err fault) p = tt

pub pushes-err : (f : Overflow) (old clauses new : List (List ℕ)) (r : Result (Unit {0}) PushFault) → Pushes f old clauses new r → IfErr r (λ fault. StopsAt f old clauses new fault)
pushes-err f old clauses new (Ok done) p = tt
pushes-err f old clauses new (Err fault) p = p
