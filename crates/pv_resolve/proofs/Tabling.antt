-- Tables of first cells: as they are made, variable by variable and block by block, and what is found by them.
use Rattle.std.proofs.Common.{◌≡◌, ℕ, zero, suc, ◌+◌, ◌<◌, ◌≤◌, List, [], ◌∷◌, ◌++◌, Bool, true, false, cond, Option, Some, None, length, map, get_or, drop, slice_get, option_map, refl, sym, ap, ◌∙◌, subst, append_assoc, append-nil, arith}
use Rattle.std.specs.Prelude.{bytes_eq, nat_lt, if◌then◌else◌}
use Rattle.std.proofs.lemmas.List.{drop_all, length-append, length-map}
use Rattle.std.proofs.lemmas.Bool.{ltb-true, ltb-false}
use Rattle.std.proofs.lemmas.Option.{same_Some, none-some, slice_get-map, slice_get-get_or, slice_get_past}
use Rattle.pv_types.specs.declared.declaration.Section.{Section}
use Rattle.pv_place.specs.declared.place.Place.{Place}
use Rattle.pv_types.specs.declared.name.Name.{Name}
use Rattle.pv_types.specs.declared.declaration.Vars.{Vars}
use Rattle.pv_types.specs.declared.var.Var.{Var}
use Rattle.pv_types.specs.Tree.{VarTree, var}
use Rattle.pv_types.specs.View.{type_tree, vars_tree, word_tree, var_tree, var_trees, name_of, section_of, declared_type_of}
use Rattle.pv_types.proofs.ForCallers.{vars_seen, var_seen, mapped_from, vars_from}
use Rattle.pv_tree.specs.Tree.{BlockTree}
use Rattle.pv_tree.specs.Scopes.{ProjectTree, first_block}
use Rattle.pv_names.specs.Firsts.{first_number}
use Rattle.pv_mean.specs.Layout.{Laid, laid_among, size_in}
use Rattle.pv_mean.specs.Counts.{capped}
use Rattle.pv_mean.specs.LaidOut.{capped_laid, size_where}
use Rattle.pv_resolve.specs.declared.firsts.BlockFirsts.{BlockFirsts}
use Rattle.pv_resolve.specs.Begins.{further}
use Rattle.pv_resolve.specs.Firsts.{fronts, laid_nth, HasFirsts, AreOfBlock, AreTables, IsNumbered}
use Rattle.pv_resolve.proofs.Beginning.{laid_from}

-- ---- the table of a part

-- the next of variables that are declared at once, as a loop goes along them
pub word_added : (project : ProjectTree) (test : Section → Bool) (v : Vars) (xs : List (Name × Place)) (i : ℕ) (w : Name × Place) (size : ℕ)
    (before after : List ℕ) (at next : ℕ) → i < length xs → w ≡ get_or xs i w
    → size ≡ capped (size_where (test v.section) (size_in project (type_tree v.ty))) → after ≡ before ++ at ∷ [] → next ≡ capped (at + size)
    → (more : List VarTree)
    → after ++ fronts project test (map (word_tree v.section (type_tree v.ty) v.start) (drop (i + 1) xs) ++ more) next
    ≡ before ++ fronts project test (map (word_tree v.section (type_tree v.ty) v.start) (drop i xs) ++ more) at
word_added project test v xs i w size before after at next inside is sized pushed e more =
    let behind = map (word_tree v.section (type_tree v.ty) v.start) (drop (i + 1) xs) ++ more in
    let own = size_where (test v.section) (size_in project (type_tree v.ty)) in
    let sum : next ≡ capped (at + own) = e ∙ (let f : capped (at + size) ≡ capped (at + own) = omega (arith, sized) in f) in
    ap (λ l. l ++ fronts project test behind next) pushed
    ∙ append_assoc before (at ∷ []) (fronts project test behind next)
    ∙ ap (λ n. before ++ at ∷ fronts project test behind n) sum
    ∙ ap (λ l. before ++ fronts project test (l ++ more) at)
    (sym (mapped_from (word_tree v.section (type_tree v.ty) v.start) xs i w inside is))

-- once all of them are in it
pub words_added : (project : ProjectTree) (test : Section → Bool) (v : Vars) (xs : List (Name × Place)) (i : ℕ) (before after : List ℕ) (at next : ℕ)
    → xs ≡ v.names.items → length xs ≤ i
    → ((more : List VarTree) → after ++ fronts project test (map (word_tree v.section (type_tree v.ty) v.start) (drop i xs) ++ more) next
    ≡ before ++ fronts project test (map (word_tree v.section (type_tree v.ty) v.start) xs ++ more) at)
    → (more : List VarTree) → after ++ fronts project test more next ≡ before ++ fronts project test (vars_tree v ++ more) at
words_added project test v xs i before after at next same past h more =
    ap (λ l. after ++ fronts project test (map (word_tree v.section (type_tree v.ty) v.start) l ++ more) next) (sym (drop_all i xs past))
    ∙ h more
    ∙ ap (λ l. before ++ fronts project test (map (word_tree v.section (type_tree v.ty) v.start) l ++ more) at) same
    ∙ ap (λ l. before ++ fronts project test (l ++ more) at) (sym (vars_seen v))

-- declaration by declaration
pub declared_added : (project : ProjectTree) (test : Section → Bool) (vars : List Vars) (i : ℕ) (v : Vars) (before after all : List ℕ) (at next : ℕ)
    → i < length vars → v ≡ get_or vars i v
    → ((more : List VarTree) → after ++ fronts project test more next ≡ before ++ fronts project test (vars_tree v ++ more) at)
    → before ++ fronts project test (var_trees (drop i vars)) at ≡ all
    → after ++ fronts project test (var_trees (drop (i + 1) vars)) next ≡ all
declared_added project test vars i v before after all at next inside is adds h =
    adds (var_trees (drop (i + 1) vars))
    ∙ ap (λ l. before ++ fronts project test l at) (sym (vars_from vars i v inside is))
    ∙ h

pub all_added : (project : ProjectTree) (test : Section → Bool) (vars : List Vars) (i : ℕ) (numbers all : List ℕ) (at : ℕ) → length vars ≤ i
    → numbers ++ fronts project test (var_trees (drop i vars)) at ≡ all → numbers ≡ all
all_added project test vars i numbers all at past h =
    sym (append-nil numbers)
    ∙ ap (λ (l : List Vars). numbers ++ fronts project test (var_trees l) at) (sym (drop_all i vars past))
    ∙ h

-- ---- what is found by its number

pub nth_laid : (project : ProjectTree) (test : Section → Bool) (vars : List VarTree) (n at f : ℕ) (v : VarTree) → slice_get vars n ≡ Some v
    → slice_get (fronts project test vars at) n ≡ Some f → test (section_of v) ≡ true
    → laid_nth project test vars n at ≡ Some (record { ty = declared_type_of v; first = f })
nth_laid project test [] n at f v is front part = absurd (none-some v is)
nth_laid project test (var name section ty start place ∷ more) zero at f v is front part =
    let head : var name section ty start place ≡ v = same_Some (var name section ty start place) v is in
    let here : at ≡ f = same_Some at f front in
    ap (λ b. let o : Option Laid = if b then Some (record { ty = ty; first = at }) else None in o) (ap (λ v. test (section_of v)) head ∙ part)
    ∙ ap (λ v. let o : Option Laid = Some (record { ty = declared_type_of v; first = at }) in o) head
    ∙ ap (λ n. let o : Option Laid = Some (record { ty = declared_type_of v; first = n }) in o) here
nth_laid project test (var name section ty start place ∷ more) (suc n) at f v is front part =
    nth_laid project test more n (capped (at + size_where (test section) (size_in project ty))) f v is front part

-- by the code's variable
pub var_laid : (project : ProjectTree) (test : Section → Bool) (vars : List VarTree) (n f : ℕ) (v : Var) → slice_get vars n ≡ Some (var_tree v)
    → slice_get (fronts project test vars 0) n ≡ Some f → test v.of.now.section ≡ true
    → laid_nth project test vars n 0 ≡ Some (record { ty = type_tree v.of.now.ty; first = f })
var_laid project test vars n f v is front part =
    nth_laid project test vars n 0 f (var_tree v) is front (ap (λ t. test (section_of t)) (var_seen v) ∙ part)
    ∙ ap (λ t. let o : Option Laid = Some (record { ty = declared_type_of t; first = f }) in o) (var_seen v)

-- where a search for a variable begins matters up to the bound alone
laid_alike : (project : ProjectTree) (test : Section → Bool) (vars : List VarTree) (key : List ℕ) (x y : ℕ) → capped x ≡ capped y
    → option_map capped_laid (laid_among project test vars key x) ≡ option_map capped_laid (laid_among project test vars key y)
laid_alike project test [] key x y e = refl
laid_alike project test (var name section ty start place ∷ more) key x y e =
    by (λ u v. laid_alike project test more key u v) (test section) (bytes_eq key name.key)
  where
    by : ((u v : ℕ) → capped u ≡ capped v
        → option_map capped_laid (laid_among project test more key u) ≡ option_map capped_laid (laid_among project test more key v))
        → (t same : Bool)
        → option_map capped_laid (cond t
        (cond same (Some (record { ty = ty; first = x })) (laid_among project test more key (x + size_in project ty)))
        (laid_among project test more key x))
        ≡ option_map capped_laid (cond t
        (cond same (Some (record { ty = ty; first = y })) (laid_among project test more key (y + size_in project ty)))
        (laid_among project test more key y))
    by behind true true = ap (λ n. Some (record { ty = ty; first = n })) e
    by behind true false = behind (x + size_in project ty) (y + size_in project ty) (omega (arith, e))
    by behind false same = behind x y e

-- a number behind the first
no_zero : (o : Option ℕ) → option_map (λ n. suc n) o ≡ Some 0 → ⊥
no_zero None e = none-some 0 e
no_zero (Some n) e = let f = same_Some (suc n) 0 e in omega (arith, f)

mapped_none : (o : Option ℕ) → option_map (λ n. suc n) o ≡ None → o ≡ None
mapped_none None e = refl
mapped_none (Some n) e = cc

less : (o : Option ℕ) (m : ℕ) → option_map (λ n. suc n) o ≡ Some (suc m) → o ≡ Some m
less None m e = absurd (none-some (suc m) e)
less (Some n) m e = let f = same_Some (suc n) (suc m) e in ap Some (omega (arith, f))

-- of a name that no variable has none is laid out
pub none_laid : (project : ProjectTree) (test : Section → Bool) (vars : List VarTree) (key : List ℕ) (at : ℕ)
    → first_number (bytes_eq key) (map (λ v. (name_of v).key) vars) ≡ None → laid_among project test vars key at ≡ None
none_laid project test [] key at none = refl
none_laid project test (var name section ty start place ∷ more) key at none =
    by (test section) (bytes_eq key name.key) (λ n e. none_laid project test more key n e) none
  where
    by : (t same : Bool)
        → ((n : ℕ) → first_number (bytes_eq key) (map (λ v. (name_of v).key) more) ≡ None → laid_among project test more key n ≡ None)
        → (if same then Some 0 else option_map (λ n. suc n) (first_number (bytes_eq key) (map (λ v. (name_of v).key) more))) ≡ None
        → cond t (cond same (Some (record { ty = ty; first = at })) (laid_among project test more key (at + size_in project ty)))
        (laid_among project test more key at) ≡ None
    by t true h e = cc
    by true false h e = h (at + size_in project ty) (mapped_none _ e)
    by false false h e = h at (mapped_none _ e)

-- the first variable of a name, if it is of the part, is the first of the part that has the name
pub nth_found : (project : ProjectTree) (test : Section → Bool) (vars : List VarTree) (key : List ℕ) (n at : ℕ) (l : Laid) → capped at ≡ at
    → first_number (bytes_eq key) (map (λ v. (name_of v).key) vars) ≡ Some n → laid_nth project test vars n at ≡ Some l
    → option_map capped_laid (laid_among project test vars key at) ≡ Some l
nth_found project test [] key n at l within is found = absurd (none-some n is)
nth_found project test (var name section ty start place ∷ more) key n at l within is found =
    by (test section) (bytes_eq key name.key) n (λ m k w e f. nth_found project test more key m k l w e f) is (here n ∙ found)
  where
    nth : Bool → ℕ → Option Laid
    nth t zero = if t then Some (record { ty = ty; first = at }) else None
    nth t (suc m) = laid_nth project test more m (capped (at + size_where t (size_in project ty)))

    here : (n : ℕ) → nth (test section) n ≡ laid_nth project test (var name section ty start place ∷ more) n at
    here zero = refl
    here (suc m) = refl

    by : (t same : Bool) (n : ℕ)
        → ((m k : ℕ) → capped k ≡ k → first_number (bytes_eq key) (map (λ v. (name_of v).key) more) ≡ Some m
        → laid_nth project test more m k ≡ Some l → option_map capped_laid (laid_among project test more key k) ≡ Some l)
        → (if same then Some 0 else option_map (λ n. suc n) (first_number (bytes_eq key) (map (λ v. (name_of v).key) more))) ≡ Some n
        → nth t n ≡ Some l
        → option_map capped_laid (cond t (cond same (Some (record { ty = ty; first = at })) (laid_among project test more key (at + size_in project ty)))
        (laid_among project test more key at)) ≡ Some l
    by true true zero h is found = ap (λ n. let o : Option Laid = Some (record { ty = ty; first = n }) in o) within ∙ found
    by false true zero h is found = absurd (none-some l found)
    by t true (suc m) h is found = let e = same_Some 0 (suc m) is in absurd (omega (arith, e))
    by t false zero h is found = absurd (no_zero (first_number (bytes_eq key) (map (λ v. (name_of v).key) more)) is)
    by true false (suc m) h is found =
        laid_alike project test more key (at + size_in project ty) (capped (at + size_in project ty)) (omega arith)
        ∙ h m (capped (at + size_in project ty)) (omega arith) (less _ m is) found
    by false false (suc m) h is found =
        laid_alike project test more key at (capped (at + 0)) (omega arith) ∙ h m (capped (at + 0)) (omega arith) (less _ m is) found

-- from another first cell on
pub laid_moved : (project : ProjectTree) (test : Section → Bool) (vars : List VarTree) (key : List ℕ) (first n : ℕ) (l : Laid)
    → Some l ≡ option_map capped_laid (laid_among project test vars key 0) → n ≡ capped (first + l.first)
    → Some (record { ty = l.ty; first = n }) ≡ option_map capped_laid (laid_among project test vars key first)
laid_moved project test vars key first n l is e =
    moved (laid_among project test vars key 0) is ∙ ap (option_map capped_laid) (sym (laid_from project test vars key first))
  where
    moved : (o : Option Laid) → Some l ≡ option_map capped_laid o
        → Some (let l : Laid = record { ty = l.ty; first = n } in l) ≡ option_map capped_laid (option_map (further first) o)
    moved None is = absurd (none-some l (sym is))
    moved (Some x) is =
        let same : l ≡ capped_laid x = same_Some l (capped_laid x) is in
        let cells : n ≡ capped (first + x.first) = e ∙ ap (λ (l : Laid). capped (first + l.first)) same ∙ (let f : capped (first + capped x.first) ≡ capped (first + x.first) = omega arith in f) in
        ap (λ t. let o : Option Laid = Some (record { ty = t; first = n }) in o) (ap (λ (l : Laid). l.ty) same)
        ∙ ap (λ n. let o : Option Laid = Some (record { ty = x.ty; first = n }) in o) cells

pub none_moved : (project : ProjectTree) (test : Section → Bool) (vars : List VarTree) (key : List ℕ) (first : ℕ)
    → None ≡ option_map capped_laid (laid_among project test vars key 0) → None ≡ option_map capped_laid (laid_among project test vars key first)
none_moved project test vars key first is =
    moved (laid_among project test vars key 0) is ∙ ap (option_map capped_laid) (sym (laid_from project test vars key first))
  where
    moved : (o : Option Laid) → None ≡ option_map capped_laid o → None ≡ option_map capped_laid (option_map (further first) o)
    moved None is = refl
    moved (Some x) is = cc

-- ---- elements of slices

pub item_at : {X Y : Type 0} (f : X → Y) (xs : List X) (n : ℕ) (x : X) → n < length xs → x ≡ get_or xs n x → slice_get (map f xs) n ≡ Some (f x)
item_at f xs n x inside is = slice_get-map f xs n ∙ ap (option_map f) (slice_get-get_or xs n x inside ∙ ap Some (sym is))

pub got_at : {X Y : Type 0} (f : X → Y) (xs : List X) (n : ℕ) (x : X) → true ≡ nat_lt n (length xs) → x ≡ get_or xs n x
    → slice_get (map f xs) n ≡ Some (f x)
got_at f xs n x within is = item_at f xs n x (ltb-true n (length xs) (sym within)) is

pub none_at : {X Y : Type 0} (f : X → Y) (xs : List X) (n : ℕ) → false ≡ nat_lt n (length xs) → slice_get (map f xs) n ≡ None
none_at f xs n past = slice_get-map f xs n ∙ ap (option_map f) (slice_get_past xs n (ltb-false n (length xs) (sym past)))

-- ---- tables of blocks

pub are_of : (ts : List BlockFirsts) (sized seen project : ProjectTree) (bs : List BlockTree) → bs ≡ seen.blocks → sized ≡ project → seen ≡ project → AreTables sized ts bs → AreTables project ts project.blocks
are_of ts sized seen project bs of same all are =
    subst (λ p. AreTables p ts project.blocks) same (subst (AreTables sized ts) (of ∙ ap (λ (p : ProjectTree). p.blocks) all) are)

pub tables_more : (project : ProjectTree) (ts : List BlockFirsts) (bs : List BlockTree) (t : BlockFirsts) (b : BlockTree)
    → AreTables project ts bs → slice_get bs (length ts) ≡ Some b → AreOfBlock project b t → AreTables project (ts ++ t ∷ []) bs
tables_more project [] [] t b are is h = tt
tables_more project [] (x ∷ bs) t b are is h = (subst (λ (b : BlockTree). AreOfBlock project b t) (sym (same_Some x b is)) h, tt)
tables_more project (u ∷ ts) [] t b are is h = tt
tables_more project (u ∷ ts) (x ∷ bs) t b are is h = (are.0, tables_more project ts bs t b are.1 is h)

pub table_at : (project : ProjectTree) (ts : List BlockFirsts) (bs : List BlockTree) (n : ℕ) (t : BlockFirsts) (b : BlockTree)
    → AreTables project ts bs → slice_get ts n ≡ Some t → slice_get bs n ≡ Some b → HasFirsts project b.vars t
table_at project [] bs n t b are is at = absurd (none-some t is)
table_at project (u ∷ ts) [] n t b are is at = absurd (none-some b at)
table_at project (u ∷ ts) (x ∷ bs) zero t b are is at =
    subst (λ t. HasFirsts project b.vars t) (same_Some u t is) (subst (λ (b : BlockTree). HasFirsts project b.vars u) (same_Some x b at) are.0.firsts)
table_at project (u ∷ ts) (x ∷ bs) (suc n) t b are is at = table_at project ts bs n t b are.1 is at

-- each element has one, once a loop went along all
pub one_more : {X Y Z : Type 0} (f : X → Y) (xs : List X) (ys : List Y) (old new : List Z) (z : Z) (i : ℕ) → map f xs ≡ ys → length old ≡ i
    → i < length xs → new ≡ old ++ z ∷ [] → length new ≤ length ys
one_more f xs ys old new z i all count inside is =
    let n = ap length is in let k = length-append old (z ∷ []) in let m : length xs ≡ length ys = sym (length-map xs f) ∙ ap length all in
    omega (arith, count, inside, n, k, m)

pub one_each : {X Y : Type 0} (f : X → Y) (xs : List X) (ys : List Y) (n i : ℕ) → map f xs ≡ ys → n ≡ i → n ≤ length ys → length xs ≤ i
    → n ≡ length ys
one_each f xs ys n i all count within past =
    let m : length xs ≡ length ys = sym (length-map xs f) ∙ ap length all in
    omega (arith, count, within, past, m)

-- ---- the number of a block

pub numbered : (blocks : List BlockTree) (key : List ℕ) (n : ℕ) → first_number (bytes_eq key) (map (λ b. b.name.key) blocks) ≡ Some n
    → slice_get blocks n ≡ first_block blocks key
numbered [] key n is = absurd (none-some n is)
numbered (b ∷ blocks) key n is =
    by (bytes_eq key b.name.key) n (λ m e. numbered blocks key m e) is
  where
    by : (same : Bool) (n : ℕ)
        → ((m : ℕ) → first_number (bytes_eq key) (map (λ b. b.name.key) blocks) ≡ Some m → slice_get blocks m ≡ first_block blocks key)
        → (if same then Some 0 else option_map (λ n. suc n) (first_number (bytes_eq key) (map (λ b. b.name.key) blocks))) ≡ Some n
        → slice_get (b ∷ blocks) n ≡ cond same (Some b) (first_block blocks key)
    by true zero h is = refl
    by true (suc m) h is = let e = same_Some 0 (suc m) is in absurd (omega (arith, e))
    by false zero h is = absurd (no_zero (first_number (bytes_eq key) (map (λ b. b.name.key) blocks)) is)
    by false (suc m) h is = h m (less _ m is)

pub is_numbered : (project : ProjectTree) (key : List ℕ) (b : BlockTree) (o : Option ℕ)
    → o ≡ first_number (bytes_eq key) (map (λ b. b.name.key) project.blocks) → first_block project.blocks key ≡ Some b → IsNumbered project o b
is_numbered project key b None is first = tt
is_numbered project key b (Some n) is first = numbered project.blocks key n (sym is) ∙ first
