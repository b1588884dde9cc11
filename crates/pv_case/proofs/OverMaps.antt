-- What is asked of each member of an object, by how far a loop over its map has come.
use Rattle.std.proofs.Common.{◌≡◌, ℕ, List, [], ◌∷◌, ◌++◌, map, Option, Some, None, ap, sym, ◌∙◌, subst, String, Bor}
use mathlib.Core.Logic.{inl, inr}
use Rattle.std.specs.Prelude.{Result, Ok, Err, IsErrAnd}
use Rattle.std.specs.Iterator.{Yields}
use Rattle.std.specs.Map.Iter.{TakesFirst, deref_pair}
use Rattle.std.specs.declared.alloc.Global.{Global}
use Rattle.std.proofs.lemmas.List.{append-nil}
use Rattle.std.proofs.lemmas.Map.Iter.{rest_more, rest_all, rest_so_far}
use Rattle.serde_json.specs.Data.{Data}
use Rattle.serde_json.specs.declared.value.Value.{Value}
use Rattle.pv_case.specs.declared.fault.Kind.{Kind}
use Rattle.pv_case.specs.declared.checks.Breach.{Breach}
use Rattle.pv_case.specs.Checks.{Checks, each, Answers}
use Rattle.pv_case.specs.Viewed.{pair_of}

abbrev Entry : Type 0
Entry = String Global × Value

abbrev Item : Type 0
Item = Bor (String Global) × Bor Value

-- what the questions are asked of, after these items
abbrev pub asked : List Item → List (List ℕ × Data)
asked xs = map pair_of (map deref_pair xs)

pub keeps_next : (f : List ℕ × Data → Checks) (xs : List Item) (x : Item) → (each f (asked xs)).keeps
    → (f (pair_of (deref_pair x))).keeps → (each f (asked (xs ++ x ∷ []))).keeps
keeps_next f [] x before keeps = (keeps, tt)
keeps_next f (y ∷ ys) x before keeps = (before.0, keeps_next f ys x before.1 keeps)

breaks_behind : (f : List ℕ × Data → Checks) (xs : List Item) (x : Entry) (u : List Entry) (kind : Kind) (field : List ℕ)
    → (each f (asked xs)).keeps → (f (pair_of x)).breaks kind field
    → (each f (map pair_of (map deref_pair xs ++ x ∷ u))).breaks kind field
breaks_behind f [] x u kind field before breaks = inl breaks
breaks_behind f (y ∷ ys) x u kind field before breaks = inr (before.0, breaks_behind f ys x u kind field before.1 breaks)

-- what a loop answers at its exit by `?`
pub breaks_next : (f : List ℕ × Data → Checks) (all : List Entry) (xs : List Item) (s t u : List Entry) (next : Option Item) (x : Item)
    (b : Breach) (r : Result (Unit {0}) Breach) → IsErrAnd r (λ e. e ≡ b) → s ≡ all → Yields (TakesFirst deref_pair) s xs t → next ≡ Some x
    → TakesFirst deref_pair t next u → (each f (asked xs)).keeps → (f (pair_of (deref_pair x))).breaks b.kind b.field.now
    → Answers (each f (map pair_of all)) r
breaks_next f all xs s t u next x b (Ok done) is_err start y is step before breaks = absurd is_err
breaks_next f all xs s t u next x b (Err e) is_err start y is step before breaks =
    let whole : all ≡ map deref_pair xs ++ deref_pair x ∷ u =
    sym start ∙ rest_so_far deref_pair xs s t y ∙ ap (λ l. map deref_pair xs ++ l) (rest_more deref_pair t u next x is step) in
    subst (λ l. (each f (map pair_of l)).breaks e.kind e.field.now) (sym whole)
    (breaks_behind f xs (deref_pair x) u e.kind e.field.now before
    (subst (λ z. (f (pair_of (deref_pair x))).breaks z.kind z.field.now) (sym is_err) breaks))

-- and at its end
pub keeps_all : (f : List ℕ × Data → Checks) (all : List Entry) (xs : List Item) (s t u : List Entry) (next : Option Item) → s ≡ all
    → Yields (TakesFirst deref_pair) s xs t → next ≡ None → TakesFirst deref_pair t next u → (each f (asked xs)).keeps
    → (each f (map pair_of all)).keeps
keeps_all f all xs s t u next start y is step before =
    subst (λ l. (each f (map pair_of l)).keeps)
    (sym (sym start ∙ rest_so_far deref_pair xs s t y ∙ ap (λ l. map deref_pair xs ++ l) (rest_all deref_pair t u next is step) ∙ append-nil (map deref_pair xs)))
    before
