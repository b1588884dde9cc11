-- Variables and data blocks, each with its cells behind those before it.
use Rattle.std.proofs.Common.{◌≡◌, ◌≢◌, inl, inr, ◌≤◌, ℕ, ◌+◌, List, [], ◌∷◌, Bool, true, false, cond, Option, Some, refl, ap, sym, subst, ◌∙◌, arith}
use Rattle.std.specs.Prelude.{bytes_eq}
use Rattle.std.proofs.lemmas.Bool.{true≢false}
use Rattle.std.proofs.lemmas.Option.{same_Some, none-some}
use Rattle.std.proofs.lemmas.Slice.Eq.{bytes_eq-Decides}
use Rattle.pv_types.specs.declared.declaration.Section.{Section}
use Rattle.pv_types.specs.Tree.{TypeTree, VarTree, var}
use Rattle.pv_types.specs.View.{section_of, declared_type_of}
use Rattle.pv_tree.specs.Tree.{BlockTree}
use Rattle.pv_tree.specs.Scopes.{ProjectTree, first_block, first_var}
use Rattle.pv_mean.specs.Layout.{Laid, size_in, laid_among, size_among, is_db, data_type, data_first, data_size}
use Rattle.pv_laws_scans.specs.Naming.{LiesIn, AreApart}

same_key : (a b key : List ℕ) → bytes_eq a key ≡ true → bytes_eq b key ≡ true → a ≡ b
same_key a b key p q = (bytes_eq-Decides a key).0 p ∙ sym ((bytes_eq-Decides b key).0 q)

-- ---- variables

-- the part that was found, of this type, among so many cells
pub record Found (project : ProjectTree) (first count : ℕ) (sought : Option Laid) (ty : TypeTree) : Type 0 where
  pub laid : Laid
  pub is : sought ≡ Some laid
  pub typed : laid.ty ≡ ty
  pub from : first ≤ laid.first
  pub to : laid.first + size_in project laid.ty ≤ first + count

-- the first variable of a name, where its section passes the test, is found
pub var-found : (project : ProjectTree) (test : Section → Bool) (vars : List VarTree) (key : List ℕ) (first : ℕ) (v : VarTree)
    → first_var vars key ≡ Some v → test (section_of v) ≡ true
    → Found project first (size_among project test vars) (laid_among project test vars key first) (declared_type_of v)
var-found project test [] key first v is passes = absurd (none-some v is)
var-found project test (var name section ty start place ∷ more) key first v is passes =
    lead (λ n e. var-found project test more key n v e passes) (bytes_eq key name.key) (test section) refl is
  where
    x : VarTree
    x = var name section ty start place

    lead : ((n : ℕ) → first_var more key ≡ Some v
        → Found project n (size_among project test more) (laid_among project test more key n) (declared_type_of v)) → (same kept : Bool)
        → test section ≡ kept → cond same (Some x) (first_var more key) ≡ Some v
        → Found project first (cond kept (size_in project ty + size_among project test more) (size_among project test more))
        (cond kept (cond same (Some (record { ty = ty; first = first })) (laid_among project test more key (first + size_in project ty)))
        (laid_among project test more key first)) (declared_type_of v)
    lead behind true true k e = record {
      laid = record { ty = ty; first = first };
      is = refl;
      typed = ap declared_type_of (same_Some x v e);
      from = omega arith;
      to = omega arith;
    }
    lead behind true false k e = absurd (true≢false (sym passes ∙ ap (λ y. test (section_of y)) (sym (same_Some x v e)) ∙ k))
    lead behind false true k e =
        let f = behind (first + size_in project ty) e in
        record { laid = f.laid; is = f.is; typed = f.typed; from = omega (arith, f.from); to = omega (arith, f.to) }
    lead behind false false k e = behind first e

-- what is found is behind the first cell
pub laid-behind : (project : ProjectTree) (test : Section → Bool) (vars : List VarTree) (key : List ℕ) (first : ℕ) (laid : Laid)
    → laid_among project test vars key first ≡ Some laid → first ≤ laid.first
laid-behind project test [] key first laid is = absurd (none-some laid is)
laid-behind project test (var name section ty start place ∷ more) key first laid is =
    lead (λ n e. laid-behind project test more key n laid e) (bytes_eq key name.key) (test section) is
  where
    lead : ((n : ℕ) → laid_among project test more key n ≡ Some laid → n ≤ laid.first) → (same kept : Bool)
        → cond kept (cond same (Some (record { ty = ty; first = first })) (laid_among project test more key (first + size_in project ty)))
        (laid_among project test more key first) ≡ Some laid → first ≤ laid.first
    lead behind true true e = subst (λ (n : ℕ). first ≤ n) (ap (λ l. l.first) (same_Some (record { ty = ty; first = first }) laid e)) (omega arith)
    lead behind false true e = let b = behind (first + size_in project ty) e in omega (arith, b)
    lead behind true false e = behind first e
    lead behind false false e = behind first e

pub vars-apart : (project : ProjectTree) (test : Section → Bool) (vars : List VarTree) (key other : List ℕ) (first : ℕ) (a b : Laid)
    → key ≢ other → laid_among project test vars key first ≡ Some a → laid_among project test vars other first ≡ Some b
    → AreApart project a b
vars-apart project test [] key other first a b differ is also = absurd (none-some a is)
vars-apart project test (var name section ty start place ∷ more) key other first a b differ is also =
    lead (λ n e f. vars-apart project test more key other n a b differ e f) (bytes_eq key name.key) (bytes_eq other name.key) (test section)
    refl refl is also
  where
    here : Laid
    here = record { ty = ty; first = first }

    front : (c d : Laid) → Some here ≡ Some c → (first + size_in project ty ≤ d.first) → c.first + size_in project c.ty ≤ d.first
    front c d e le = subst (λ (l : Laid). l.first + size_in project l.ty ≤ d.first) (same_Some here c e) le

    lead : ((n : ℕ) → laid_among project test more key n ≡ Some a → laid_among project test more other n ≡ Some b → AreApart project a b)
        → (s t kept : Bool) → bytes_eq key name.key ≡ s → bytes_eq other name.key ≡ t
        → cond kept (cond s (Some here) (laid_among project test more key (first + size_in project ty)))
        (laid_among project test more key first) ≡ Some a
        → cond kept (cond t (Some here) (laid_among project test more other (first + size_in project ty)))
        (laid_among project test more other first) ≡ Some b → AreApart project a b
    lead behind true true true p q e f = absurd (differ (same_key key other name.key p q))
    lead behind true false true p q e f =
        inl (front a b e (laid-behind project test more other (first + size_in project ty) b f))
    lead behind false true true p q e f =
        inr (front b a f (laid-behind project test more key (first + size_in project ty) a e))
    lead behind false false true p q e f = behind (first + size_in project ty) e f
    lead behind s t false p q e f = behind first e f

-- ---- data blocks

pub block_named : (blocks : List BlockTree) (key : List ℕ) (b : BlockTree) → first_block blocks key ≡ Some b → key ≡ b.name.key
block_named [] key b is = absurd (none-some b is)
block_named (x ∷ more) key b is = lead (bytes_eq key x.name.key) refl is (λ e. block_named more key b e)
  where
    lead : (same : Bool) → bytes_eq key x.name.key ≡ same → cond same (Some x) (first_block more key) ≡ Some b
        → (first_block more key ≡ Some b → key ≡ b.name.key) → key ≡ b.name.key
    lead true s e behind = (bytes_eq-Decides key x.name.key).0 s ∙ ap (λ y. y.name.key) (same_Some x b e)
    lead false s e behind = behind e

-- the cells of a data block are among those of all
pub data-found : (project : ProjectTree) (blocks : List BlockTree) (key : List ℕ) (first : ℕ) (b : BlockTree)
    → first_block blocks key ≡ Some b → is_db b.kind ≡ true
    → LiesIn project first (data_size project blocks) (record { ty = data_type b; first = data_first project blocks key first })
data-found project [] key first b is db = absurd (none-some b is)
data-found project (x ∷ more) key first b is db =
    lead (λ n e. data-found project more key n b e db) (bytes_eq key x.name.key) (is_db x.kind) refl is
  where
    lead : ((n : ℕ) → first_block more key ≡ Some b
        → LiesIn project n (data_size project more) (record { ty = data_type b; first = data_first project more key n })) → (same kept : Bool)
        → is_db x.kind ≡ kept → cond same (Some x) (first_block more key) ≡ Some b
        → LiesIn project first (cond kept (size_in project (data_type x) + data_size project more) (data_size project more))
        (record {
          ty = data_type b;
          first = cond kept (cond same first (data_first project more key (first + size_in project (data_type x))))
              (data_first project more key first);
        })
    lead behind true true k e =
        let s = ap (λ y. size_in project (data_type y)) (same_Some x b e) in
        record { from = omega arith; to = omega (arith, s) }
    lead behind true false k e = absurd (true≢false (sym db ∙ ap (λ y. is_db y.kind) (sym (same_Some x b e)) ∙ k))
    lead behind false true k e =
        let f = behind (first + size_in project (data_type x)) e in
        record { from = omega (arith, f.from); to = omega (arith, f.to) }
    lead behind false false k e = behind first e

pub data-apart : (project : ProjectTree) (blocks : List BlockTree) (key other : List ℕ) (first : ℕ) (b c : BlockTree) → key ≢ other
    → first_block blocks key ≡ Some b → is_db b.kind ≡ true → first_block blocks other ≡ Some c → is_db c.kind ≡ true
    → AreApart project (record { ty = data_type b; first = data_first project blocks key first })
    (record { ty = data_type c; first = data_first project blocks other first })
data-apart project [] key other first b c differ is db also dc = absurd (none-some b is)
data-apart project (x ∷ more) key other first b c differ is db also dc =
    lead (λ n e f. data-apart project more key other n b c differ e db f dc) (bytes_eq key x.name.key) (bytes_eq other x.name.key)
    (is_db x.kind) refl refl refl is also
  where
    lead : ((n : ℕ) → first_block more key ≡ Some b → first_block more other ≡ Some c
        → AreApart project (record { ty = data_type b; first = data_first project more key n })
        (record { ty = data_type c; first = data_first project more other n })) → (s t kept : Bool)
        → bytes_eq key x.name.key ≡ s → bytes_eq other x.name.key ≡ t → is_db x.kind ≡ kept
        → cond s (Some x) (first_block more key) ≡ Some b → cond t (Some x) (first_block more other) ≡ Some c
        → AreApart project
        (record {
          ty = data_type b;
          first = cond kept (cond s first (data_first project more key (first + size_in project (data_type x))))
              (data_first project more key first);
        })
        (record {
          ty = data_type c;
          first = cond kept (cond t first (data_first project more other (first + size_in project (data_type x))))
              (data_first project more other first);
        })
    lead behind true true kept p q k e f = absurd (differ (same_key key other x.name.key p q))
    lead behind true false true p q k e f =
        let s = ap (λ y. size_in project (data_type y)) (same_Some x b e) in
        let l = (data-found project more other (first + size_in project (data_type x)) c f dc).from in
        inl (omega (arith, s, l))
    lead behind true false false p q k e f = absurd (true≢false (sym db ∙ ap (λ y. is_db y.kind) (sym (same_Some x b e)) ∙ k))
    lead behind false true true p q k e f =
        let s = ap (λ y. size_in project (data_type y)) (same_Some x c f) in
        let l = (data-found project more key (first + size_in project (data_type x)) b e db).from in
        inr (omega (arith, s, l))
    lead behind false true false p q k e f = absurd (true≢false (sym dc ∙ ap (λ y. is_db y.kind) (sym (same_Some x c f)) ∙ k))
    lead behind false false true p q k e f = behind (first + size_in project (data_type x)) e f
    lead behind false false false p q k e f = behind first e f
