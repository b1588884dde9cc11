-- Where no block calls itself, what is said of a block down as many levels of calls as there are blocks is what is said of it by what is so
-- said of the blocks that it calls. Sizes, numbers of locations and variables, and the edges of copies are said so.
use Rattle.std.proofs.Common.{◌≡◌, ℕ, zero, suc, ◌+◌, ◌≤◌, List, [], ◌∷◌, ◌++◌, map, length, drop, Bool, true, false, ◌==◌, cond, Option, Some, None, refl, sym, subst, ap, ◌∙◌, arith}
use Rattle.std.specs.List.{list_any}
use Rattle.std.proofs.lemmas.Bool.{or_left, or_right, eq-eqb}
use Rattle.std.proofs.lemmas.Option.{same_Some, none-some}
use Rattle.pv_flow.specs.Automata.{Variable, CallEdge, Parts}
use Rattle.pv_flow.specs.Runs.{End, done, trap, over, end_at}
use Rattle.pv_flow.specs.Calls.{Blocks, block_at, Numbered, numbered, call_from}
use Rattle.pv_flow.specs.Fitting.{runs_in, runs_block, AreFitting}
use Rattle.pv_flow.proofs.ForCallers.{deep}
use Rattle.pv_call_copies.specs.Levels.{down, through}
use Rattle.pv_call_copies.specs.Inlined.{size_by_calls, size_in, inlined_size, own_variable, added_by_calls, added_in, added, width_by, span_by, called_at, before, span_in, span, Body, number_in, callee_body, Drawn, edge_in, drawn_call, drawn_from, drawn_by, drawn_below, drawn_in, drawn}

-- ---- what is said by called blocks

abbrev pub IsCalled : List CallEdge → ℕ → Type 0
IsCalled calls c = list_any (λ (call : CallEdge). call.block == c) calls ≡ true

-- of no block nothing is said, and of one by what is said of those that it calls
pub record IsStep {X : Type 0} (none : X) (step : (ℕ → X) → Option Parts → X) : Type 0 where
  pub nothing : (f : ℕ → X) → step f None ≡ none
  pub alike : (f g : ℕ → X) (p : Parts) → ((c : ℕ) → IsCalled p.calls c → f c ≡ g c) → step f (Some p) ≡ step g (Some p)

pub is_run : (blocks : Blocks) (b : ℕ) (p : Parts) → block_at blocks b ≡ Some p → (c : ℕ) → IsCalled p.calls c → runs_block blocks b c ≡ true
is_run blocks b p e c any = ap (λ (o : Option Parts). runs_in o c) e ∙ any

abbrev AreEqual : {X : Type 0} → X → ((ℕ → X) → Option Parts → X) → Blocks → ℕ → ℕ → Type 0
AreEqual none step blocks n b = (x y : ℕ) → n ≤ x → n ≤ y → down none step blocks x b ≡ down none step blocks y b

down_none : {X : Type 0} (none : X) (step : (ℕ → X) → Option Parts → X) → IsStep none step → (blocks : Blocks) (x b : ℕ)
    → block_at blocks b ≡ None → down none step blocks x b ≡ none
down_none none step is blocks zero b e = refl
down_none none step is blocks (suc x) b e =
    ap (λ (o : Option Parts). step (λ c. down none step blocks x c) o) e ∙ is.nothing (λ c. down none step blocks x c)

equal_step : {X : Type 0} (none : X) (step : (ℕ → X) → Option Parts → X) → IsStep none step → (blocks : Blocks) (n b : ℕ) (p : Parts)
    → block_at blocks b ≡ Some p → ((c : ℕ) → runs_block blocks b c ≡ true → AreEqual none step blocks n c)
    → AreEqual none step blocks (suc n) b
equal_step none step is blocks n b p e below zero y low high = absurd (omega (arith, low))
equal_step none step is blocks n b p e below (suc x) zero low high = absurd (omega (arith, high))
equal_step none step is blocks n b p e below (suc x) (suc y) low high =
    ap (λ (o : Option Parts). step (λ c. down none step blocks x c) o) e
    ∙ (is.alike (λ c. down none step blocks x c) (λ c. down none step blocks y c) p
    (λ c any. below c (is_run blocks b p e c any) x y (omega (arith, low)) (omega (arith, high)))
    ∙ ap (λ (o : Option Parts). step (λ c. down none step blocks y c) o) (sym e))

pub through_is : {X : Type 0} (none : X) (step : (ℕ → X) → Option Parts → X) → IsStep none step → (blocks : Blocks) → AreFitting blocks → (b : ℕ)
    → through none step blocks b ≡ step (λ c. through none step blocks c) (block_at blocks b)
through_is none step is blocks fit b =
    deep (AreEqual none step blocks) blocks fit (λ n c e x y low high. down_none none step is blocks x c e ∙ sym (down_none none step is blocks y c e))
    (equal_step none step is blocks) b (length blocks) (suc (length blocks)) (omega arith) (omega arith)

-- ---- sizes and variables

first_called : (call : CallEdge) (calls : List CallEdge) → IsCalled (call ∷ calls) call.block
first_called call calls =
    or_left (call.block == call.block) (list_any (λ (other : CallEdge). other.block == call.block) calls) (eq-eqb call.block call.block refl)

later_called : (call : CallEdge) (calls : List CallEdge) (c : ℕ) → IsCalled calls c → IsCalled (call ∷ calls) c
later_called call calls c any = or_right (call.block == c) (list_any (λ (other : CallEdge). other.block == c) calls) any

sizes_alike : (f g : ℕ → ℕ) (calls : List CallEdge) → ((c : ℕ) → IsCalled calls c → f c ≡ g c) → size_by_calls f calls ≡ size_by_calls g calls
sizes_alike f g [] same = refl
sizes_alike f g (call ∷ calls) same =
    both (same call.block (first_called call calls)) (sizes_alike f g calls (λ c any. same c (later_called call calls c any)))
  where
    both : {a b c d : ℕ} → a ≡ b → c ≡ d → (2 + a) + c ≡ (2 + b) + d
    both {a} {b} {c} {d} e h = omega (arith, e, h)

pub size_is : (blocks : Blocks) → AreFitting blocks → (b : ℕ) → inlined_size blocks b ≡ size_in (inlined_size blocks) (block_at blocks b)
size_is blocks fit b = through_is 0 size_in
    (record { nothing = λ f. refl; alike = λ f g p same. ap (λ (n : ℕ). length p.edges + n) (sizes_alike f g p.calls same) }) blocks fit b

added_alike : (f g : ℕ → List Variable) (calls : List CallEdge) → ((c : ℕ) → IsCalled calls c → f c ≡ g c)
    → added_by_calls f calls ≡ added_by_calls g calls
added_alike f g [] same = refl
added_alike f g (call ∷ calls) same =
    ap (λ (vars : List Variable). vars ++ added_by_calls f calls) (same call.block (first_called call calls))
    ∙ ap (λ (vars : List Variable). g call.block ++ vars) (added_alike f g calls (λ c any. same c (later_called call calls c any)))

pub added_is : (blocks : Blocks) → AreFitting blocks → (b : ℕ) → added blocks b ≡ added_in (added blocks) (block_at blocks b)
added_is blocks fit b = through_is [] added_in (record {
  nothing = λ f. refl;
  alike = λ f g p same. ap (λ (vars : List Variable). map own_variable (drop (p.bound + p.shared) p.vars) ++ vars) (added_alike f g p.calls same);
}) blocks fit b

-- ---- locations

-- the block of the call edge at a location is called
pub found_called : (l j : ℕ) (calls : List CallEdge) (c : Numbered) → call_from l j calls ≡ Some c → IsCalled calls c.call.block
found_called l j [] c e = absurd (none-some c e)
found_called l j (call ∷ calls) c e = by (call.from == l) e (λ f. found_called l (suc j) calls c f)
  where
    by : (b : Bool) → cond b (Some (numbered j call)) (call_from l (suc j) calls) ≡ Some c
        → (call_from l (suc j) calls ≡ Some c → IsCalled calls c.call.block) → IsCalled (call ∷ calls) c.call.block
    by true f go = subst (λ (d : Numbered). IsCalled (call ∷ calls) d.call.block) (same_Some (numbered j call) c f) (first_called call calls)
    by false f go = later_called call calls c.call.block (go f)

span_alike : (f g : ℕ → ℕ) (p : Parts) → ((c : ℕ) → IsCalled p.calls c → f c ≡ g c) → (l : ℕ) (o : Option Numbered) → call_from l 0 p.calls ≡ o
    → span_by f o ≡ span_by g o
span_alike f g p same l None e = refl
span_alike f g p same l (Some c) e = same c.call.block (found_called l 0 p.calls c e)

before_alike : (f g : ℕ → ℕ) (p : Parts) → ((c : ℕ) → IsCalled p.calls c → f c ≡ g c) → (l : ℕ) → before f p l ≡ before g p l
before_alike f g p same zero = refl
before_alike f g p same (suc l) =
    ap (λ (n : ℕ). n + width_by (end_at p l) (called_at f p l)) (before_alike f g p same l)
    ∙ ap (λ (n : ℕ). before g p l + width_by (end_at p l) n) (span_alike f g p same l (call_from l 0 p.calls) refl)

pub span_is : (blocks : Blocks) → AreFitting blocks → (b : ℕ) → span blocks b ≡ span_in (span blocks) (block_at blocks b)
span_is blocks fit b =
    through_is 0 span_in (record { nothing = λ f. refl; alike = λ f g p same. before_alike f g p same p.locations }) blocks fit b

-- ---- edges: of the copy of a block

abbrev AreDrawn : Blocks → (ℕ → Body → List Drawn) → (ℕ → Body → List Drawn) → ℕ → Type 0
AreDrawn blocks f g c = (body : Body) → block_at blocks c ≡ Some body.work.parts → f c body ≡ g c body

drawn_call_alike : (blocks : Blocks) (f g : ℕ → Body → List Drawn) (body : Body) (l : ℕ) (c : Numbered) (o : Option Parts)
    → block_at blocks c.call.block ≡ o → AreDrawn blocks f g c.call.block → drawn_call blocks f body l c o ≡ drawn_call blocks g body l c o
drawn_call_alike blocks f g body l c None e same = refl
drawn_call_alike blocks f g body l c (Some p) e same =
    ap (λ (ds : List Drawn). edge_in blocks (callee_body blocks body l c p) (number_in blocks body l) ∷ ds) (same (callee_body blocks body l c p) e)

drawn_from_alike : (blocks : Blocks) (f g : ℕ → Body → List Drawn) (body : Body) (l : ℕ) (o : Option Numbered)
    → call_from l 0 body.work.parts.calls ≡ o → ((c : ℕ) → IsCalled body.work.parts.calls c → AreDrawn blocks f g c)
    → drawn_from blocks f body l o ≡ drawn_from blocks g body l o
drawn_from_alike blocks f g body l None e same = refl
drawn_from_alike blocks f g body l (Some c) e same =
    drawn_call_alike blocks f g body l c (block_at blocks c.call.block) refl
    (same c.call.block (found_called l 0 body.work.parts.calls c e))

drawn_by_alike : (blocks : Blocks) (f g : ℕ → Body → List Drawn) (body : Body) (l : ℕ) (end : Option End)
    → ((c : ℕ) → IsCalled body.work.parts.calls c → AreDrawn blocks f g c) → drawn_by blocks f body l end ≡ drawn_by blocks g body l end
drawn_by_alike blocks f g body l None same = drawn_from_alike blocks f g body l (call_from l 0 body.work.parts.calls) refl same
drawn_by_alike blocks f g body l (Some done) same = refl
drawn_by_alike blocks f g body l (Some (trap kind place)) same = refl
drawn_by_alike blocks f g body l (Some (over place)) same = refl

pub drawn_below_alike : (blocks : Blocks) (f g : ℕ → Body → List Drawn) (body : Body)
    → ((c : ℕ) → IsCalled body.work.parts.calls c → AreDrawn blocks f g c) → (l : ℕ)
    → drawn_below blocks f body l ≡ drawn_below blocks g body l
drawn_below_alike blocks f g body same zero = refl
drawn_below_alike blocks f g body same (suc l) =
    ap (λ (ds : List Drawn). ds ++ drawn_by blocks f body l (end_at body.work.parts l)) (drawn_below_alike blocks f g body same l)
    ∙ ap (λ (ds : List Drawn). drawn_below blocks g body l ++ ds) (drawn_by_alike blocks f g body l (end_at body.work.parts l) same)

abbrev drawn_down : Blocks → ℕ → ℕ → Body → List Drawn
drawn_down blocks levels b = down {X = Body → List Drawn} (λ body. []) (drawn_in blocks) blocks levels b

abbrev EqualDrawn : Blocks → ℕ → ℕ → Type 0
EqualDrawn blocks n b = (x y : ℕ) → n ≤ x → n ≤ y → AreDrawn blocks (drawn_down blocks x) (drawn_down blocks y) b

drawn_step : (blocks : Blocks) (n b : ℕ) (p : Parts) → block_at blocks b ≡ Some p
    → ((c : ℕ) → runs_block blocks b c ≡ true → EqualDrawn blocks n c) → EqualDrawn blocks (suc n) b
drawn_step blocks n b p e below zero y low high = absurd (omega (arith, low))
drawn_step blocks n b p e below (suc x) zero low high = absurd (omega (arith, high))
drawn_step blocks n b p e below (suc x) (suc y) low high = λ body at.
    ap (λ (o : Option Parts). drawn_in blocks (drawn_down blocks x) o body) at
    ∙ (drawn_below_alike blocks (drawn_down blocks x) (drawn_down blocks y) body
    (λ c any. below c (is_run blocks b body.work.parts at c any) x y (omega (arith, low)) (omega (arith, high))) body.work.parts.locations
    ∙ ap (λ (o : Option Parts). drawn_in blocks (drawn_down blocks y) o body) (sym at))

-- the edges of the copy of a block, with those of all copies in it
pub drawn_is : (blocks : Blocks) → AreFitting blocks → (b : ℕ) (body : Body) → block_at blocks b ≡ Some body.work.parts
    → drawn blocks b body ≡ drawn_below blocks (drawn blocks) body body.work.parts.locations
drawn_is blocks fit b body at =
    deep (EqualDrawn blocks) blocks fit (λ n c none x y low high other is. absurd (none-some other.work.parts (sym none ∙ is)))
    (drawn_step blocks) b (length blocks) (suc (length blocks)) (omega arith) (omega arith) body at
    ∙ ap (λ (o : Option Parts). drawn_in blocks (drawn blocks) o body) at
