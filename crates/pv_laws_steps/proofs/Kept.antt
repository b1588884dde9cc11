-- What the rules say of labels and ranges, and that a run is one.
use Rattle.std.proofs.Common.{◌≡◌, inl, inr, ◌<◌, ℕ, zero, suc, List, [], ◌∷◌, map, Bool, true, false, cond, Option, Some, None, Contains, refl, sym, ap, subst, ◌∙◌, arith}
use Rattle.std.specs.Prelude.{slice_get, option_map, IsSomeAnd}
use Rattle.std.specs.List.{cons_option}
use Rattle.std.proofs.lemmas.Bool.{true≢false, false≢true}
use Rattle.std.proofs.lemmas.Option.{none-some}
use Rattle.pv_place.specs.declared.place.Place.{Place}
use Rattle.pv_tree.specs.Tree.{PlacedName, InstrTree, BlockTree, stl}
use Rattle.pv_tree.specs.Scopes.{ProjectTree}
use Rattle.pv_tree.specs.InstructionGroups.{label_of_jump}
use Rattle.pv_tree.specs.Interfaces.{IsLater}
use Rattle.pv_tree.specs.Parts.{instructions_of}
use Rattle.pv_tree.specs.Rules.{KeepsRules, wrong_label, wrong_range}
use Rattle.pv_tree.specs.Rules.Jumps.{labels_of, MissesLabel, Enters}
use Rattle.pv_mean.specs.Sources.{Source}
use Rattle.pv_mean.specs.Frames.{Frame}
use Rattle.pv_mean.specs.Endings.{Ended}
use Rattle.pv_mean.specs.Activations.{Activation}
use Rattle.pv_mean.specs.Statements.{Calls}
use Rattle.pv_mean.specs.InstructionRuns.{is_named, run_stl}
use Rattle.pv_laws_steps.specs.Machine.{State, Moved, goes, stops, place_of_label, Runs, ending, going, first_state}
use Rattle.pv_laws_steps.proofs.Labels.{same_some, is_so_named, map_none, doubled}
use Rattle.pv_laws_steps.proofs.Running.{whole_run}

contains_got : {X : Type 0} (xs : List X) (j : ℕ) (x : X) → slice_get xs j ≡ Some x → Contains xs x
contains_got [] j x g = absurd (none-some x g)
contains_got (y ∷ ys) zero x g = (0, omega arith, same_some y x g)
contains_got (y ∷ ys) (suc j) x g = let c = contains_got ys j x g in (suc c.0, (let l = c.1 in omega (arith, l)), c.2)

-- a label that has no place is none of the labels
no_label : (instructions : List InstrTree) (key : List ℕ) → place_of_label key instructions ≡ None
    → Contains (map (λ n. n.0.key) (labels_of instructions)) key → ⊥
no_label [] key e (k, lt, f) = omega (arith, lt)
no_label (x ∷ rest) key e d =
    lead x.label (is_named key x.label) refl e d (λ p c. no_label rest key p c)
  where
    lead : (o : Option PlacedName) (b : Bool) → is_named key o ≡ b → cond b (Some 0) (option_map suc (place_of_label key rest)) ≡ None
        → Contains (map (λ n. n.0.key) (cons_option o (labels_of rest))) key
        → (place_of_label key rest ≡ None → Contains (map (λ n. n.0.key) (labels_of rest)) key → ⊥) → ⊥
    lead o true n p c below = none-some 0 (sym p)
    lead None false n p c below = below (map_none (place_of_label key rest) p) c
    lead (Some y) false n p (zero, lt, f) below = true≢false (sym (is_so_named key y (sym f)) ∙ n)
    lead (Some y) false n p (suc k, lt, f) below = below (map_none (place_of_label key rest) p) (k, omega (arith, lt), f)

module _ (project : ProjectTree) (keeps : KeepsRules project) (b : BlockTree) (c : Contains project.blocks b) (I : List InstrTree)
    (body : b.body ≡ stl I) where
  of_body : (P : List InstrTree → Type 0) → P I → P (instructions_of b.body)
  of_body P p = subst (λ x. P (instructions_of x)) (sym body) p

  labels_there : (j : ℕ) (i : InstrTree) (l : PlacedName) → slice_get I j ≡ Some i → label_of_jump i ≡ Some l
      → place_of_label l.0.key I ≡ None → ⊥
  labels_there j i l got has none =
      let d = contains_got I j i got in
      keeps wrong_label l.1 (
        c.0,
        b,
        c.1,
        c.2,
        inl (of_body (λ x. MissesLabel x l.1) (
          d.0,
          i,
          d.1,
          d.2,
          subst (λ o. IsSomeAnd o (λ n. (n.1 ≡ l.1) × (Contains (map (λ m. m.0.key) (labels_of I)) n.0.key → ⊥))) (sym has)
              (refl, no_label I l.0.key none),
        )),
      )

  labels_once : (m k : ℕ) (x y : InstrTree) (l n : PlacedName) → m < k → slice_get I m ≡ Some x → x.label ≡ Some l → slice_get I k ≡ Some y
      → y.label ≡ Some n → l.0.key ≡ n.0.key → ⊥
  labels_once m k x y l n lt g e h f same =
      keeps wrong_label n.1 (c.0, b, c.1, c.2, inr (of_body (λ z. IsLater (labels_of z) n.1) (doubled I m k x y l n lt g e h f same)))

  ranges_entered : (at : Place) → Enters I at → ⊥
  ranges_entered at w = keeps wrong_range at (c.0, b, c.1, c.2, inl (of_body (λ z. Enters z at) w))

-- ---- the run of a block

pub block_run : (source : Source) (calls : Calls) (act : Activation) (I : List InstrTree) (frame : Frame) → KeepsRules source.project
    → Contains source.project.blocks act.block → act.block.body ≡ stl I
    → (states : List State) × Runs source calls act I (first_state frame) states (run_stl source calls act I frame)
block_run source calls act I frame keeps c body =
    whole_run source calls act I (labels_there source.project keeps act.block c I body) (labels_once source.project keeps act.block c I body)
    (ranges_entered source.project keeps act.block c I body) frame

-- ---- a run is one

abbrev is_going : Moved → Bool
is_going (goes s) = true
is_going (stops end) = false

same_state : (s t : State) → goes s ≡ goes t → s ≡ t
same_state s t e = cc

same_end : (s t : Ended Frame) → stops s ≡ stops t → s ≡ t
same_end s t e = cc

pub one_run : {source : Source} {calls : Calls} {act : Activation} {I : List InstrTree} {s : State} {states others : List State}
    {end other : Ended Frame} → Runs source calls act I s states end → Runs source calls act I s others other
    → (states ≡ others) × (end ≡ other)
one_run (ending e) (ending f) = (refl, same_end _ _ (sym e ∙ f))
one_run (ending e) (going f r) = absurd (false≢true (ap is_going (sym e ∙ f)))
one_run (going e r) (ending f) = absurd (true≢false (ap is_going (sym e ∙ f)))
one_run {source = source} {calls = calls} {act = act} {I = I} {s = s} {other = other} (going {t = t} e r) (going {t = u} {states = ss} f q) =
    let w = one_run r (subst (λ x. Runs source calls act I x ss other) (sym (same_state t u (sym e ∙ f))) q) in
    (ap (λ l. s ∷ l) w.0, w.1)
