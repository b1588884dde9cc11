-- Of texts one at most is at fault first, in one way, and none is where they are a pattern, which is one.
use Rattle.std.proofs.Common.{◌≡◌, ℕ, zero, suc, List, [], ◌∷◌, Option, Some, None, false, IsTrue, refl, sym, ap, ◌∙◌, subst}
use Rattle.std.proofs.lemmas.Bool.{false≢true}
use Rattle.std.proofs.lemmas.Option.{same_Some}
use Rattle.pv_tree.specs.Tree.{ExprTree}
use Rattle.pv_tree.specs.Scopes.{Scope}
use Rattle.pv_tree.specs.Rules.{BreaksInPattern}
use Rattle.pv_tree.proofs.ForCallers.{least-one}
use Rattle.pv_case.specs.declared.case.PatternKind.{PatternKind}
use Rattle.pv_case.specs.declared.case.PatternKind.TheVariants.{Invariant, Forbidden, Implication, Within, Between, Reach}
use Rattle.pv_pattern_read.specs.Kinds.{kind_of}
use Rattle.pv_pattern.specs.Patterns.{Pattern, invariant, forbidden, implication, within, between, reach, expressions_of}
use Rattle.pv_pattern.specs.Texts.{IsTextOf, reads_brief, Fault, unread, broken, brief_cell, no_bool, HasFault, IsAtFault, Says, Say, FailsAt}
use Rattle.pv_pattern_read.specs.Kinds.{IsReadPattern}

-- a text is one expression at most
abbrev pub IsOneText : Type 0
IsOneText = (text : List ℕ) (a b : ExprTree) → IsTextOf text a → IsTextOf text b → a ≡ b

-- ---- one text

not_both : (scope : Scope) (e : ExprTree) → IsTrue (reads_brief scope e) → reads_brief scope e ≡ false → ⊥
not_both scope e h k = false≢true (sym k ∙ h)

one_in : (scope : Scope) (e : ExprTree) (f g : Fault) → HasFault scope e f → HasFault scope e g → f ≡ g
one_in scope e unread g h k = absurd h
one_in scope e (broken r) unread h k = absurd k
one_in scope e (broken r) (broken s) h k =
    ap broken (least-one (λ rule at. BreaksInPattern rule scope e at) r s h.0 k.0 h.1 k.1).0
one_in scope e (broken r) brief_cell h k = absurd (k.0 r h.0 h.1.broken)
one_in scope e (broken r) no_bool h k = absurd (k.0 r h.0 h.1.broken)
one_in scope e brief_cell unread h k = absurd k
one_in scope e brief_cell (broken s) h k = absurd (h.0 s k.0 k.1.broken)
one_in scope e brief_cell brief_cell h k = refl
one_in scope e brief_cell no_bool h k = absurd (not_both scope e h.1 k.1)
one_in scope e no_bool unread h k = absurd k
one_in scope e no_bool (broken s) h k = absurd (h.0 s k.0 k.1.broken)
one_in scope e no_bool brief_cell h k = absurd (not_both scope e k.1 h.1)
one_in scope e no_bool no_bool h k = refl

-- a text whose expression has the fault
record Has (scope : Scope) (text : List ℕ) (f : Fault) : Type 0 where
  e : ExprTree
  reads : IsTextOf text e
  has : HasFault scope e f

one_has : IsOneText → (scope : Scope) (text : List ℕ) (f g : Fault) → Has scope text f → Has scope text g → f ≡ g
one_has one scope text f g h k =
    one_in scope k.e f g (subst (λ e. HasFault scope e f) (one text h.e k.e h.reads k.reads) h.has) k.has

-- it reads as none, or its expression has the fault
data Faulty (scope : Scope) (text : List ℕ) : Fault → Type 0 where
  none : ((e : ExprTree) → IsTextOf text e → ⊥) → Faulty scope text unread
  some : {f : Fault} → Has scope text f → Faulty scope text f

as_faulty : (scope : Scope) (text : List ℕ) (f : Fault) → IsAtFault scope text f → Faulty scope text f
as_faulty scope text unread h = none h
as_faulty scope text (broken r) h = some (record { e = h.0; reads = h.1; has = h.2 })
as_faulty scope text brief_cell h = some (record { e = h.0; reads = h.1; has = h.2 })
as_faulty scope text no_bool h = some (record { e = h.0; reads = h.1; has = h.2 })

one_faulty : IsOneText → (scope : Scope) (text : List ℕ) (f g : Fault) → Faulty scope text f → Faulty scope text g → f ≡ g
one_faulty one scope text f g (none h) (none k) = refl
one_faulty one scope text f g (none h) (some k) = absurd (h k.e k.reads)
one_faulty one scope text f g (some h) (none k) = absurd (k h.e h.reads)
one_faulty one scope text f g (some h) (some k) = one_has one scope text f g h k

one_fault : IsOneText → (scope : Scope) (text : List ℕ) (f g : Fault) → IsAtFault scope text f → IsAtFault scope text g → f ≡ g
one_fault one scope text f g h k = one_faulty one scope text f g (as_faulty scope text f h) (as_faulty scope text g k)

-- an expression that says something has no fault
none_in : (scope : Scope) (text : List ℕ) (e : ExprTree) (f : Fault) → Says scope text e → HasFault scope e f → ⊥
none_in scope text e unread s h = h
none_in scope text e (broken r) s h = s.keeps r h.0 h.1.broken
none_in scope text e brief_cell s h = not_both scope e h.1 s.visible
none_in scope text e no_bool s h = h.2 s.is_bool

none_faulty : IsOneText → (scope : Scope) (text : List ℕ) (e : ExprTree) (f : Fault) → Says scope text e → Faulty scope text f → ⊥
none_faulty one scope text e f s (none h) = h e s.reads
none_faulty one scope text e f s (some h) =
    none_in scope text e f s (subst (λ x. HasFault scope x f) (one text h.e e h.reads s.reads) h.has)

says_apart : IsOneText → (scope : Scope) (text : List ℕ) (e : ExprTree) (f : Fault) → Says scope text e → IsAtFault scope text f → ⊥
says_apart one scope text e f s h = none_faulty one scope text e f s (as_faulty scope text f h)

-- ---- the texts of a pattern

pub one_failing : IsOneText → (scope : Scope) (texts : List (List ℕ)) (n m : ℕ) (f g : Fault) → FailsAt scope texts n f → FailsAt scope texts m g
    → (n ≡ m) × (f ≡ g)
one_failing one scope [] n m f g h k = absurd h
one_failing one scope (t ∷ ts) zero zero f g h k = (refl, one_fault one scope t f g h k)
one_failing one scope (t ∷ ts) zero (suc m) f g h k = absurd (says_apart one scope t k.0.0 f k.0.1 h)
one_failing one scope (t ∷ ts) (suc n) zero f g h k = absurd (says_apart one scope t h.0.0 g h.0.1 k)
one_failing one scope (t ∷ ts) (suc n) (suc m) f g h k =
    let r = one_failing one scope ts n m f g h.1 k.1 in
    (ap suc r.0, r.1)

say_apart : IsOneText → (scope : Scope) (texts : List (List ℕ)) (es : List ExprTree) (n : ℕ) (f : Fault) → Say scope texts es → FailsAt scope texts n f → ⊥
say_apart one scope [] es n f s h = h
say_apart one scope (t ∷ ts) [] n f s h = s
say_apart one scope (t ∷ ts) (e ∷ es) zero f s h = says_apart one scope t e f s.0 h
say_apart one scope (t ∷ ts) (e ∷ es) (suc n) f s h = say_apart one scope ts es n f s.1 h.1

pub read_apart : IsOneText → (scope : Scope) (kind : PatternKind) (texts : List (List ℕ)) (p : Pattern) (n : ℕ) (f : Fault)
    → IsReadPattern scope kind texts p → FailsAt scope texts n f → ⊥
read_apart one scope kind texts p n f h k = say_apart one scope texts (expressions_of p) n f h.say k

one_say : IsOneText → (scope : Scope) (texts : List (List ℕ)) (es fs : List ExprTree) → Say scope texts es → Say scope texts fs → es ≡ fs
one_say one scope [] [] [] s r = refl
one_say one scope [] [] (f ∷ fs) s r = absurd r
one_say one scope [] (e ∷ es) fs s r = absurd s
one_say one scope (t ∷ ts) [] fs s r = absurd s
one_say one scope (t ∷ ts) (e ∷ es) [] s r = absurd r
one_say one scope (t ∷ ts) (e ∷ es) (f ∷ fs) s r =
    ap (λ x. x ∷ es) (one t e f s.0.reads r.0.reads) ∙ ap (λ l. f ∷ l) (one_say one scope ts es fs s.1 r.1)

-- a pattern is its kind and its expressions
abbrev pattern_by : PatternKind → List ExprTree → Option Pattern
pattern_by Invariant (a ∷ []) = Some (invariant a)
pattern_by Forbidden (a ∷ []) = Some (forbidden a)
pattern_by Implication (a ∷ b ∷ []) = Some (implication a b)
pattern_by Within (a ∷ b ∷ []) = Some (within a b)
pattern_by Between (a ∷ b ∷ c ∷ []) = Some (between a b c)
pattern_by Reach (a ∷ []) = Some (reach a)
pattern_by kind es = None

by_itself : (p : Pattern) → pattern_by (kind_of p) (expressions_of p) ≡ Some p
by_itself (invariant a) = refl
by_itself (forbidden a) = refl
by_itself (implication a b) = refl
by_itself (within a b) = refl
by_itself (between a b c) = refl
by_itself (reach a) = refl

pub one_pattern : IsOneText → (scope : Scope) (kind : PatternKind) (texts : List (List ℕ)) (p q : Pattern) → IsReadPattern scope kind texts p
    → IsReadPattern scope kind texts q → p ≡ q
one_pattern one scope kind texts p q h k =
    same_Some p q (sym (by_itself p) ∙ ap (λ x. pattern_by x (expressions_of p)) (h.of_kind ∙ sym k.of_kind)
    ∙ ap (pattern_by (kind_of q)) (one_say one scope texts (expressions_of p) (expressions_of q) h.say k.say) ∙ by_itself q)
