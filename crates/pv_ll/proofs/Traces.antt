-- A trace tells of one list of tokens.
use Rattle.std.proofs.Common.{◌≡◌, ℕ, List, [], ◌∷◌, ◌++◌, Some, Option, refl, ap, ◌∙◌, sym, subst, append_assoc}
use Rattle.std.specs.Prelude.{slice_get}
use Rattle.std.specs.Option.{option_map_or}
use Rattle.pv_ll.specs.declared.table.Symbol.{Symbol}
use Rattle.pv_ll.specs.declared.table.Symbol.TheVariants.{Token, Name}
use Rattle.pv_ll.specs.Grammar.{Grammar, Production, ◌⟶◌, Derives, Leftmost, IsProduction}
use Rattle.pv_ll.specs.Grammar.Derives.{nothing, token}
use Rattle.pv_ll.specs.Grammar.Leftmost.{done, passed, put}
use Rattle.pv_ll.specs.Walk.Step.{Enter, Pass, Leave}
use Rattle.pv_ll.specs.Walk.{Step, Walks}
use Rattle.pv_ll.specs.Walk.Walks.{over, on, through}
use Rattle.pv_ll.proofs.Words.{replaced}

pub derived : {g : Grammar} {trace : List ℕ} {ss : List Symbol} {w : List ℕ} → Leftmost g trace ss w → Derives g ss w
derived done = nothing
derived (passed d) = token (derived d)
derived (put {body = body} k p d) = replaced k body p (derived d)

-- what a token in front does
pub record Passing (g : Grammar) (trace : List ℕ) (t : ℕ) (ss : List Symbol) (w : List ℕ) : Type 0 where
  pub rest : List ℕ
  pub others : Leftmost g trace ss rest
  pub whole : w ≡ t ∷ rest

pub inv_passed : {g : Grammar} {trace : List ℕ} {t : ℕ} {ss : List Symbol} {w : List ℕ} → Leftmost g trace (Token t ∷ ss) w → Passing g trace t ss w
inv_passed (passed {w = w} d) = record { rest = w; others = d; whole = refl }

pub inv_done : {g : Grammar} {trace : List ℕ} {w : List ℕ} → Leftmost g trace [] w → w ≡ []
inv_done done = refl

-- what a name in front does
pub record Putting (g : Grammar) (trace : List ℕ) (n : ℕ) (ss : List Symbol) (w : List ℕ) : Type 0 where
  pub k : ℕ
  pub later : List ℕ
  pub body : List Symbol
  pub production : IsProduction g k n body
  pub derives : Leftmost g later (body ++ ss) w
  pub trace_is : trace ≡ k ∷ later

pub inv_put : {g : Grammar} {trace : List ℕ} {n : ℕ} {ss : List Symbol} {w : List ℕ} → Leftmost g trace (Name n ∷ ss) w → Putting g trace n ss w
inv_put (put {trace = later} {body = body} k p d) =
    record { k = k; later = later; body = body; production = p; derives = d; trace_is = refl }

pub same_body : (g : Grammar) (n k j : ℕ) (a b : List Symbol) → k ≡ j → IsProduction g k n a → IsProduction g j n b → a ≡ b
same_body g n k j a b e p q =
    let r : slice_get g k ≡ Some (n ⟶ b) = subst (λ (i : ℕ). slice_get g i ≡ Some (n ⟶ b)) (sym e) q in
    ap (λ (o : Option Production). option_map_or (λ (x : Production). x.body) o a) (sym p ∙ r)

-- the same production was put
pub same_put : {g : Grammar} {trace : List ℕ} {ss : List Symbol} {w : List ℕ} (n k : ℕ) (body : List Symbol) → IsProduction g k n body
    → Leftmost g (k ∷ trace) (Name n ∷ ss) w → Leftmost g trace (body ++ ss) w
same_put {g} {trace} {ss} {w} n k body p e =
    let x : Putting g (k ∷ trace) n ss w = inv_put e in
    let one : k ≡ x.k = cc (x.trace_is) in
    let rest : x.later ≡ trace = cc (x.trace_is) in
    let b : x.body ≡ body = sym (same_body g n k x.k body x.body one p x.production) in
    subst (λ (z : List ℕ). Leftmost g z (body ++ ss) w) rest (subst (λ (z : List Symbol). Leftmost g x.later (z ++ ss) w) b x.derives)

pub one_text : {g : Grammar} {trace : List ℕ} {ss : List Symbol} {v : List ℕ} → Leftmost g trace ss v → (w : List ℕ) → Leftmost g trace ss w → v ≡ w
one_text done w e = sym (inv_done e)
one_text (passed {t = t} d) w e = let x = inv_passed e in ap (λ (z : List ℕ). t ∷ z) (one_text d x.rest x.others) ∙ sym x.whole
one_text (put {n = n} {body = body} k p d) w e = one_text d w (same_put n k body p e)

-- two walks by traces that go on to one list
record Same (own other rest more : List ℕ) (xs ys : List Step) : Type 0 where
  traces : own ≡ other
  rests : rest ≡ more
  steps : xs ≡ ys

-- what a name in front does in a walk
pub record Passage (g : Grammar) (trace : List ℕ) (n : ℕ) (ss : List Symbol) (steps : List Step) : Type 0 where
  pub k : ℕ
  pub own : List ℕ
  pub rest : List ℕ
  pub body : List Symbol
  pub inner : List Step
  pub others : List Step
  pub production : IsProduction g k n body
  pub walks : Walks g own body inner
  pub goes : Walks g rest ss others
  pub trace_is : trace ≡ k ∷ (own ++ rest)
  pub steps_are : steps ≡ Enter k ∷ (inner ++ Leave k ∷ others)

pub inv_through : {g : Grammar} {trace : List ℕ} {n : ℕ} {ss : List Symbol} {steps : List Step} → Walks g trace (Name n ∷ ss) steps → Passage g trace n ss steps
inv_through (through {own = o} {rest = r} {body = b} {inner = i} {others = x} k p d f t s) =
    record { k = k; own = o; rest = r; body = b; inner = i; others = x; production = p; walks = d; goes = f; trace_is = t; steps_are = s }

-- what a token in front does in a walk
pub record Onward (g : Grammar) (trace : List ℕ) (t : ℕ) (ss : List Symbol) (steps : List Step) : Type 0 where
  pub others : List Step
  pub goes : Walks g trace ss others
  pub steps_are : steps ≡ Pass t ∷ others

pub inv_on : {g : Grammar} {trace : List ℕ} {t : ℕ} {ss : List Symbol} {steps : List Step} → Walks g trace (Token t ∷ ss) steps → Onward g trace t ss steps
inv_on (on {steps = x} d) = record { others = x; goes = d; steps_are = refl }

pub record Over (trace : List ℕ) (steps : List Step) : Type 0 where
  pub trace_is : trace ≡ []
  pub steps_are : steps ≡ []

pub inv_over : {g : Grammar} {trace : List ℕ} {steps : List Step} → Walks g trace [] steps → Over trace steps
inv_over over = record { trace_is = refl; steps_are = refl }

same_walk : {g : Grammar} {own : List ℕ} {ss : List Symbol} {steps : List Step} → Walks g own ss steps
    → (other rest more : List ℕ) (others : List Step) → Walks g other ss others → own ++ rest ≡ other ++ more → Same own other rest more steps others
same_walk over other rest more others e h =
    let x : Over other others = inv_over e in
    record { traces = sym x.trace_is; rests = h ∙ ap (λ (z : List ℕ). z ++ more) x.trace_is; steps = sym x.steps_are }
same_walk (on {t = t} d) other rest more others e h =
    let x = inv_on e in
    let s = same_walk d other rest more x.others x.goes h in
    record { traces = s.traces; rests = s.rests; steps = ap (λ (z : List Step). Pass t ∷ z) s.steps ∙ sym x.steps_are }
same_walk {g} {own} (through {n = n} {own = o} {rest = r} {body = b} {inner = i} {others = z} {steps = all} k p d f t s) other rest more others e h =
    let x : Passage g other n _ others = inv_through e in
    let whole : k ∷ (o ++ r ++ rest) ≡ x.k ∷ (x.own ++ x.rest ++ more) =
    ap (λ (y : List ℕ). y ++ rest) (sym t) ∙ h ∙ ap (λ (y : List ℕ). y ++ more) x.trace_is in
    let one : k ≡ x.k = cc in
    let body : x.body ≡ b = sym (same_body g n k x.k b x.body one p x.production) in
    let later : o ++ (r ++ rest) ≡ x.own ++ (x.rest ++ more) =
    let y : o ++ r ++ rest ≡ x.own ++ x.rest ++ more = cc in sym (append_assoc o r rest) ∙ y ∙ append_assoc x.own x.rest more in
    let u = same_walk d x.own (r ++ rest) (x.rest ++ more) x.inner (subst (λ (y : List Symbol). Walks g x.own y x.inner) body x.walks) later in
    let v = same_walk f x.rest rest more x.others x.goes u.rests in
    let traces : own ≡ other = cc (t, x.trace_is, u.traces, v.traces) in
    let steps : all ≡ others = cc (s, x.steps_are, u.steps, v.steps) in
    record { traces = traces; rests = v.rests; steps = steps }

pub one_walk : {g : Grammar} {trace : List ℕ} {ss : List Symbol} {steps : List Step} → Walks g trace ss steps → (others : List Step) → Walks g trace ss others → steps ≡ others
one_walk {g} {trace} d others e = (same_walk d trace [] [] others e refl).steps
