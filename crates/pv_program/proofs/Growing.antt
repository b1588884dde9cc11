-- Programs that grow, and what stands in an array that had more put behind it.
use Rattle.std.proofs.Common.{◌≡◌, ℕ, zero, suc, ◌+◌, ◌≤◌, List, [], ◌∷◌, ◌++◌, length, take, drop, ◌-◌, Option, Some, refl, sym, ap, ◌∙◌, subst, arith, append_assoc, length-append}
use Rattle.std.specs.Prelude.{slice_get, Vec}
use Rattle.std.specs.declared.alloc.Global.{Global}
use Rattle.pv_eval.specs.declared.expression.Expression.{Expression}
use Rattle.pv_eval.specs.declared.target.Target.{Target}
use Rattle.pv_run.specs.declared.program.Stmt.{Stmt}
use Rattle.pv_run.specs.declared.program.Arm.{Arm}
use Rattle.pv_run.specs.declared.program.Branch.{Branch}
use Rattle.pv_run.specs.declared.program.Choice.{Choice}
use Rattle.pv_run.specs.declared.program.Called.{Called}
use Rattle.pv_run.specs.declared.program.Inward.{Inward}
use Rattle.pv_run.specs.declared.program.Outward.{Outward}
use Rattle.pv_run.specs.declared.program.Code.{Code}
use Rattle.std.specs.List.{between}
use Rattle.std.proofs.Math.Seq.{drop-append_seam}
use Rattle.std.proofs.lemmas.List.{append-nil, take-append-le, drop-append-le, length-drop, take_all}
use Rattle.pv_stl_run.specs.declared.instr.Instr.{Instr}
use Rattle.pv_run.specs.declared.program.Program.{Program}
use Rattle.pv_program.specs.Growth.{HasCode, Keeps, Continues, Extends, Stands, none_stands, stands_then}

pub keeps-same : {A : Type 0} (xs : List A) → Keeps xs xs
keeps-same xs = record { at = λ n a e. e }

pub keeps-then : {A : Type 0} (xs ys zs : List A) → Keeps xs ys → Keeps ys zs → Keeps xs zs
keeps-then xs ys zs p q = record { at = λ n a e. q.at n a (p.at n a e) }

stays : {A : Type 0} (xs ys : List A) (n : ℕ) (a : A) → slice_get xs n ≡ Some a → slice_get (xs ++ ys) n ≡ Some a
stays [] ys n a e = cc
stays (x ∷ xs) ys zero a e = e
stays (x ∷ xs) ys (suc n) a e = stays xs ys n a e

-- what had more put behind it
pub keeps-more : {A : Type 0} (old new more : List A) → new ≡ old ++ more → Keeps old new
keeps-more old new more e = subst (λ l. Keeps old l) (sym e) (record { at = λ n a is. stays old more n a is })

pub continues-same : {A : Type 0} (xs : List A) → Continues xs xs
continues-same xs = record { more = []; is = sym (append-nil xs) }

pub continues-then : {A : Type 0} (xs ys zs : List A) → Continues xs ys → Continues ys zs → Continues xs zs
continues-then xs ys zs p q = record {
  more = p.more ++ q.more;
  is = q.is ∙ ap (λ l. l ++ q.more) p.is ∙ append_assoc xs p.more q.more;
}

-- the part that stood there
pub part-stays : {A : Type 0} (xs ys : List A) (a b : ℕ) → Continues xs ys → a ≤ b → b ≤ length xs → between a b ys ≡ between a b xs
part-stays xs ys a b c le within =
    ap (between a b) c.is
    ∙ ap (take (b - a)) (drop-append-le a xs c.more (omega (arith, le, within)))
    ∙ take-append-le (b - a) (drop a xs) c.more (omega (arith, length-drop a xs, le, within))

pub part-within : {A : Type 0} (xs ys : List A) (b : ℕ) → Continues xs ys → b ≤ length xs → b ≤ length ys
part-within xs ys b c le = omega (arith, ap length c.is, length-append xs c.more, le)

-- what was put behind the others is the part behind them
pub part-behind : {A : Type 0} (old more all : List A) (a b : ℕ) → all ≡ old ++ more → a ≡ length old → b ≡ length all → between a b all ≡ more
part-behind old more all a b e first end =
    let long : length all ≡ length old + length more = ap length e ∙ length-append old more in
    let count : b - a ≡ length more = omega (arith, first, end, long) in
    ap (λ k. take k (drop a all)) count
    ∙ ap (take (length more)) (ap (drop a) e ∙ ap (λ n. drop n (old ++ more)) first ∙ drop-append_seam old more)
    ∙ take_all (length more) more (omega arith)

pub extends-same : (p : Program) → Extends p p
extends-same p = record {
  stmts = keeps-same p.stmts.items;
  longer = omega arith;
  instrs = continues-same p.instrs.items;
  ranges = omega arith;
  arms = keeps-same p.arms.items;
  branches = keeps-same p.branches.items;
  choices = keeps-same p.choices.items;
  calls = keeps-same p.calls.items;
  inward = keeps-same p.inward.items;
  outward = keeps-same p.outward.items;
  values = keeps-same p.values.items;
  targets = keeps-same p.targets.items;
  scratch = omega arith;
  widest = omega arith;
  types = refl;
  bound = refl;
  entry = refl;
  coded = λ c call n at number has. has;
}

pub extends-then : (p q r : Program) → Extends p q → Extends q r → Extends p r
extends-then p q r a b = record {
  stmts = keeps-then p.stmts.items q.stmts.items r.stmts.items a.stmts b.stmts;
  longer = omega (arith, a.longer, b.longer);
  instrs = continues-then p.instrs.items q.instrs.items r.instrs.items a.instrs b.instrs;
  ranges = omega (arith, a.ranges, b.ranges);
  arms = keeps-then p.arms.items q.arms.items r.arms.items a.arms b.arms;
  branches = keeps-then p.branches.items q.branches.items r.branches.items a.branches b.branches;
  choices = keeps-then p.choices.items q.choices.items r.choices.items a.choices b.choices;
  calls = keeps-then p.calls.items q.calls.items r.calls.items a.calls b.calls;
  inward = keeps-then p.inward.items q.inward.items r.inward.items a.inward b.inward;
  outward = keeps-then p.outward.items q.outward.items r.outward.items a.outward b.outward;
  values = keeps-then p.values.items q.values.items r.values.items a.values b.values;
  targets = keeps-then p.targets.items q.targets.items r.targets.items a.targets b.targets;
  scratch = omega (arith, a.scratch, b.scratch);
  widest = omega (arith, a.widest, b.widest);
  types = b.types ∙ a.types;
  bound = b.bound ∙ a.bound;
  entry = b.entry ∙ a.entry;
  coded = λ c call n at number has. b.coded c call n (a.calls.at c call at) number (a.coded c call n at number has);
}

-- ---- what stands somewhere

pub stands-within : {A : Type 0} {xs : List A} {n m : ℕ} {more : List A} → Stands xs n m more → n ≤ m
stands-within none_stands = omega arith
stands-within (stands_then at rest) = omega (arith, stands-within rest)

-- behind what was there
at-end : {A : Type 0} (old : List A) (a : A) (more : List A) → slice_get (old ++ a ∷ more) (length old) ≡ Some a
at-end [] a more = refl
at-end (x ∷ xs) a more = at-end xs a more

behind : {A : Type 0} (old more all : List A) (n : ℕ) → n ≡ length old → all ≡ old ++ more → Stands all n (length all) more
behind old [] all n is e =
    subst (λ m. Stands all n m []) (is ∙ sym (ap length (append-nil old)) ∙ sym (ap length e)) none_stands
behind old (a ∷ more) all n is e = stands_then
    (ap (λ l. slice_get l n) e ∙ ap (slice_get (old ++ a ∷ more)) is ∙ at-end old a more)
    (behind (old ++ a ∷ []) more all (n + 1) (omega (arith, is, length-append old (a ∷ []))) (e ∙ sym (append_assoc old (a ∷ []) more)))

pub stands-behind : {A : Type 0} (old more all : List A) (n m : ℕ) → n ≡ length old → m ≡ length all → all ≡ old ++ more → Stands all n m more
stands-behind old more all n m is end e = subst (λ k. Stands all n k more) (sym end) (behind old more all n is e)

-- the last one
pub last-stands : {A : Type 0} (old all : List A) (a : A) (n : ℕ) → n ≡ length old → all ≡ old ++ a ∷ [] → slice_get all n ≡ Some a
last-stands old all a n is e = ap (λ l. slice_get l n) e ∙ ap (slice_get (old ++ a ∷ [])) is ∙ at-end old a []

-- ---- one array with more, or room for more

pub with-stmts : (p : Program) (v : Vec Stmt Global) → Keeps p.stmts.items v.items → length p.stmts.items ≤ length v.items → Extends p (record p { stmts = v })
with-stmts p v k le = let same = extends-same p in record {
  stmts = k;
  longer = le;
  instrs = same.instrs;
  ranges = same.ranges;
  arms = same.arms;
  branches = same.branches;
  choices = same.choices;
  calls = same.calls;
  inward = same.inward;
  outward = same.outward;
  values = same.values;
  targets = same.targets;
  scratch = same.scratch;
  widest = same.widest;
  types = same.types;
  bound = same.bound;
  entry = same.entry;
  coded = same.coded;
}

pub with-instrs : (p : Program) (v : Vec Instr Global) → Continues p.instrs.items v.items → Extends p (record p { instrs = v })
with-instrs p v k = let same = extends-same p in record {
  stmts = same.stmts;
  longer = same.longer;
  instrs = k;
  ranges = same.ranges;
  arms = same.arms;
  branches = same.branches;
  choices = same.choices;
  calls = same.calls;
  inward = same.inward;
  outward = same.outward;
  values = same.values;
  targets = same.targets;
  scratch = same.scratch;
  widest = same.widest;
  types = same.types;
  bound = same.bound;
  entry = same.entry;
  coded = same.coded;
}

pub with-arms : (p : Program) (v : Vec Arm Global) → Keeps p.arms.items v.items → Extends p (record p { arms = v })
with-arms p v k = let same = extends-same p in record {
  stmts = same.stmts;
  longer = same.longer;
  instrs = same.instrs;
  ranges = same.ranges;
  arms = k;
  branches = same.branches;
  choices = same.choices;
  calls = same.calls;
  inward = same.inward;
  outward = same.outward;
  values = same.values;
  targets = same.targets;
  scratch = same.scratch;
  widest = same.widest;
  types = same.types;
  bound = same.bound;
  entry = same.entry;
  coded = same.coded;
}

pub with-branches : (p : Program) (v : Vec Branch Global) → Keeps p.branches.items v.items → Extends p (record p { branches = v })
with-branches p v k = let same = extends-same p in record {
  stmts = same.stmts;
  longer = same.longer;
  instrs = same.instrs;
  ranges = same.ranges;
  arms = same.arms;
  branches = k;
  choices = same.choices;
  calls = same.calls;
  inward = same.inward;
  outward = same.outward;
  values = same.values;
  targets = same.targets;
  scratch = same.scratch;
  widest = same.widest;
  types = same.types;
  bound = same.bound;
  entry = same.entry;
  coded = same.coded;
}

pub with-choices : (p : Program) (v : Vec Choice Global) → Keeps p.choices.items v.items → Extends p (record p { choices = v })
with-choices p v k = let same = extends-same p in record {
  stmts = same.stmts;
  longer = same.longer;
  instrs = same.instrs;
  ranges = same.ranges;
  arms = same.arms;
  branches = same.branches;
  choices = k;
  calls = same.calls;
  inward = same.inward;
  outward = same.outward;
  values = same.values;
  targets = same.targets;
  scratch = same.scratch;
  widest = same.widest;
  types = same.types;
  bound = same.bound;
  entry = same.entry;
  coded = same.coded;
}

pub with-calls : (p : Program) (v : Vec Called Global) → Keeps p.calls.items v.items → Extends p (record p { calls = v })
with-calls p v k = let same = extends-same p in record {
  stmts = same.stmts;
  longer = same.longer;
  instrs = same.instrs;
  ranges = same.ranges;
  arms = same.arms;
  branches = same.branches;
  choices = same.choices;
  calls = k;
  inward = same.inward;
  outward = same.outward;
  values = same.values;
  targets = same.targets;
  scratch = same.scratch;
  widest = same.widest;
  types = same.types;
  bound = same.bound;
  entry = same.entry;
  coded = same.coded;
}

pub with-inward : (p : Program) (v : Vec Inward Global) → Keeps p.inward.items v.items → Extends p (record p { inward = v })
with-inward p v k = let same = extends-same p in record {
  stmts = same.stmts;
  longer = same.longer;
  instrs = same.instrs;
  ranges = same.ranges;
  arms = same.arms;
  branches = same.branches;
  choices = same.choices;
  calls = same.calls;
  inward = k;
  outward = same.outward;
  values = same.values;
  targets = same.targets;
  scratch = same.scratch;
  widest = same.widest;
  types = same.types;
  bound = same.bound;
  entry = same.entry;
  coded = same.coded;
}

pub with-outward : (p : Program) (v : Vec Outward Global) → Keeps p.outward.items v.items → Extends p (record p { outward = v })
with-outward p v k = let same = extends-same p in record {
  stmts = same.stmts;
  longer = same.longer;
  instrs = same.instrs;
  ranges = same.ranges;
  arms = same.arms;
  branches = same.branches;
  choices = same.choices;
  calls = same.calls;
  inward = same.inward;
  outward = k;
  values = same.values;
  targets = same.targets;
  scratch = same.scratch;
  widest = same.widest;
  types = same.types;
  bound = same.bound;
  entry = same.entry;
  coded = same.coded;
}

pub with-values : (p : Program) (v : Vec Expression Global) → Keeps p.values.items v.items → Extends p (record p { values = v })
with-values p v k = let same = extends-same p in record {
  stmts = same.stmts;
  longer = same.longer;
  instrs = same.instrs;
  ranges = same.ranges;
  arms = same.arms;
  branches = same.branches;
  choices = same.choices;
  calls = same.calls;
  inward = same.inward;
  outward = same.outward;
  values = k;
  targets = same.targets;
  scratch = same.scratch;
  widest = same.widest;
  types = same.types;
  bound = same.bound;
  entry = same.entry;
  coded = same.coded;
}

pub with-targets : (p : Program) (v : Vec Target Global) → Keeps p.targets.items v.items → Extends p (record p { targets = v })
with-targets p v k = let same = extends-same p in record {
  stmts = same.stmts;
  longer = same.longer;
  instrs = same.instrs;
  ranges = same.ranges;
  arms = same.arms;
  branches = same.branches;
  choices = same.choices;
  calls = same.calls;
  inward = same.inward;
  outward = same.outward;
  values = same.values;
  targets = k;
  scratch = same.scratch;
  widest = same.widest;
  types = same.types;
  bound = same.bound;
  entry = same.entry;
  coded = same.coded;
}

pub with-scratch : (p : Program) (n : ℕ) → p.scratch ≤ n → Extends p (record p { scratch = n })
with-scratch p n le = let same = extends-same p in record {
  stmts = same.stmts;
  longer = same.longer;
  instrs = same.instrs;
  ranges = same.ranges;
  arms = same.arms;
  branches = same.branches;
  choices = same.choices;
  calls = same.calls;
  inward = same.inward;
  outward = same.outward;
  values = same.values;
  targets = same.targets;
  scratch = le;
  widest = same.widest;
  types = same.types;
  bound = same.bound;
  entry = same.entry;
  coded = same.coded;
}

pub with-widest : (p : Program) (n : ℕ) → p.widest ≤ n → Extends p (record p { widest = n })
with-widest p n le = let same = extends-same p in record {
  stmts = same.stmts;
  longer = same.longer;
  instrs = same.instrs;
  ranges = same.ranges;
  arms = same.arms;
  branches = same.branches;
  choices = same.choices;
  calls = same.calls;
  inward = same.inward;
  outward = same.outward;
  values = same.values;
  targets = same.targets;
  scratch = same.scratch;
  widest = le;
  types = same.types;
  bound = same.bound;
  entry = same.entry;
  coded = same.coded;
}

pub with-ranges : (p : Program) (n : ℕ) → p.ranges ≤ n → Extends p (record p { ranges = n })
with-ranges p n le = let same = extends-same p in record {
  stmts = same.stmts;
  longer = same.longer;
  instrs = same.instrs;
  ranges = le;
  arms = same.arms;
  branches = same.branches;
  choices = same.choices;
  calls = same.calls;
  inward = same.inward;
  outward = same.outward;
  values = same.values;
  targets = same.targets;
  scratch = same.scratch;
  widest = same.widest;
  types = same.types;
  bound = same.bound;
  entry = same.entry;
  coded = same.coded;
}

-- the code of blocks, where there is code still of those that are called
pub with-blocks : (p : Program) (v : Vec (Option Code) Global)
    → ((c : ℕ) (call : Called) (n : ℕ) → slice_get p.calls.items c ≡ Some call → call.block ≡ Some n → HasCode p n
    → HasCode (record p { blocks = v }) n)
    → Extends p (record p { blocks = v })
with-blocks p v made = let same = extends-same p in record {
  stmts = same.stmts;
  longer = same.longer;
  instrs = same.instrs;
  ranges = same.ranges;
  arms = same.arms;
  branches = same.branches;
  choices = same.choices;
  calls = same.calls;
  inward = same.inward;
  outward = same.outward;
  values = same.values;
  targets = same.targets;
  scratch = same.scratch;
  widest = same.widest;
  types = same.types;
  bound = same.bound;
  entry = same.entry;
  coded = made;
}
