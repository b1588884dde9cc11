-- What paths are: the front of an operand, the called name of a call, or both.
use Rattle.std.proofs.Common.{◌≡◌, inl, inr, true, false, List, [], ◌∷◌, ◌++◌, All, Option, Some, None, refl, ap, ◌∙◌, sym, subst, arith}
use Rattle.std.proofs.lemmas.List.{append-nil, append_assoc}
use Rattle.pv_place.specs.declared.place.Place.{Place}
use Rattle.pv_types.specs.declared.name.Name.{Name}
use Rattle.pv_tree.specs.declared.expr.Root.{Root}
use Rattle.pv_tree.specs.declared.expr.Root.TheVariants.{Local, Named}
use Rattle.pv_tree.specs.Tree.{PlacedName, StepTree, field, ArgTree, read}
use Rattle.pv_tree.specs.View.{steps_of}
use Rattle.pv_tree.specs.Lexemes.{Lexeme, IsSign, sign}
use Rattle.pv_tree.specs.Words.{IsFree, SpellsWord, SpellsFirm, SpellsName}
use Rattle.pv_tree.specs.Expressions.{SpellsSteps, SpellsStep, AreFormedSteps, IsFormedStep, SpellsRoot, IsFormedRoot}
use Rattle.pv_tree.specs.Calls.{SpellsArgs, SpellsBase, SpellsCalled, IsFreeBehind, IsFormedArg}
use Rattle.pv_parse.specs.Items.{PathTree}
use Rattle.pv_parse.specs.ExprDeeds.{rooted, stepped, operand_of}
use Rattle.pv_parse.specs.CallDeeds.{named_of, is_hashed, base_of, call_of}
use Rattle.pv_parse.proofs.ForCallers.{Holds, single, single_at, led, joined, IsTarget, IsCallee, IsWordPath, base_steps, Called, steps_append, formed_append, word_begins}

-- ---- the front of an operand

pub target_on : (p : PathTree) (new : List StepTree) (us vs ws : List Lexeme) → IsTarget p us → SpellsSteps (steps_of new) vs → AreFormedSteps (steps_of new)
    → ws ≡ us ++ vs → IsTarget (record p { steps = p.steps ++ new }) ws
target_on p new us vs ws h g f e = record {
  spelled = joined h.spelled.front (h.spelled.back ++ vs) ws
      (e ∙ ap (λ (z : List Lexeme). z ++ vs) h.spelled.parts ∙ append_assoc h.spelled.front h.spelled.back vs) h.spelled.in_front
      (steps_append p.steps new h.spelled.back vs (h.spelled.back ++ vs) h.spelled.behind g refl);
  formed = (h.formed.0, formed_append p.steps new h.formed.1 f);
}

-- along steps that end with these
pub target_to : (r : Root) (p : Place) (before new after : List StepTree) (us vs ws : List Lexeme) → IsTarget (record { root = r; steps = before; place = p }) us
    → SpellsSteps (steps_of new) vs → AreFormedSteps (steps_of new) → after ≡ before ++ new → ws ≡ us ++ vs
    → IsTarget (record { root = r; steps = after; place = p }) ws
target_to r p before new after us vs ws h g f j e =
    subst (λ (z : List StepTree). IsTarget (record { root = r; steps = z; place = p }) ws) (sym j)
    (target_on (record { root = r; steps = before; place = p }) new us vs ws h g f e)

pub target_step : (p : PathTree) (x : StepTree) (us vs ws : List Lexeme) → IsTarget p us → SpellsStep x vs → IsFormedStep x → ws ≡ us ++ vs
    → IsTarget (stepped p x) ws
target_step p x us vs ws h g f e =
    target_on p (x ∷ []) us vs ws h (joined vs [] vs (sym (append-nil vs)) g refl) (f, tt) e

pub target_field : (p : PathTree) (n : Name) (at : Place) (d : Lexeme) (us vs ws : List Lexeme) → IsTarget p us → IsSign "." d → SpellsWord n at vs
    → ws ≡ us ++ d ∷ vs → IsTarget (stepped p (field n at)) ws
target_field p n at d us vs ws h i g e = target_step p (field n at) us (d ∷ vs) ws h (led d vs (single d i) g) tt e

-- it is read
pub target_read : (p : PathTree) (ts : List Lexeme) → IsTarget p ts → Holds 7 (read (operand_of p)) ts
target_read p ts h = record { spelled = h.spelled; formed = h.formed; strong = omega arith }

-- a path without steps
rooted_target : (r : Root) (p : Place) (ts : List Lexeme) → SpellsRoot r p ts → IsFormedRoot r → IsTarget (rooted r p) ts
rooted_target r p ts h f = record { spelled = joined ts [] ts (sym (append-nil ts)) h refl; formed = (f, tt) }

pub area_target : (r : Root) (p : Place) (ts : List Lexeme) → SpellsRoot r p ts → IsFormedRoot r → IsTarget (rooted r p) ts
area_target r p ts h f = rooted_target r p ts h f

pub word_target : (n : Name) (p : Place) (ts : List Lexeme) → SpellsWord n p ts → IsFree n → IsTarget (rooted (Local n false p) p) ts
word_target n p ts h f = rooted_target (Local n false p) p ts (word_begins n p ts h) f

pub firm_target : (n : Name) (p : Place) (ts : List Lexeme) → SpellsFirm n p ts → IsTarget (rooted (Named n) p) ts
firm_target n p ts h = rooted_target (Named n) p ts h tt

pub hash_target : (n : Name) (p : Place) (t : Lexeme) (ts : List Lexeme) → IsSign "#" t → SpellsWord n p ts
    → IsTarget (rooted (Local n true p) t.place) (t ∷ ts)
hash_target n p t ts i h = rooted_target (Local n true p) t.place (t ∷ ts) (led t ts (single_at t i) h) tt

-- ---- the called name of a call

callee_alone : (p : PathTree) (ts : List Lexeme) → p.steps ≡ [] → SpellsCalled (is_hashed p.root) (named_of p).0 (named_of p).1 p.place ts
    → IsFreeBehind (is_hashed p.root) (named_of p).0 → IsCallee p None ts
callee_alone p ts e h f = record { steps_are = e; spelled = joined ts [] ts (sym (append-nil ts)) h refl; formed = f }

pub word_callee : (n : Name) (p : Place) (ts : List Lexeme) → SpellsWord n p ts → IsFree n → IsCallee (rooted (Local n false p) p) None ts
word_callee n p ts h f = callee_alone (rooted (Local n false p) p) ts refl (refl, inl h) f

pub firm_callee : (n : Name) (p : Place) (ts : List Lexeme) → SpellsFirm n p ts → IsFree n → IsCallee (rooted (Named n) p) None ts
firm_callee n p ts h f = callee_alone (rooted (Named n) p) ts refl (refl, inr h) f

pub hash_callee : (n : Name) (p : Place) (t : Lexeme) (ts : List Lexeme) → IsSign "#" t → SpellsName n p ts
    → IsCallee (rooted (Local n true p) t.place) None (t ∷ ts)
hash_callee n p t ts i h = callee_alone (rooted (Local n true p) t.place) (t ∷ ts) refl (led t ts (single_at t i) h) tt

pub callee_second : (p : PathTree) (n : Name) (at : Place) (d : Lexeme) (us vs ws : List Lexeme) → IsCallee p None us → IsSign "." d → SpellsName n at vs
    → ws ≡ us ++ d ∷ vs → IsCallee (stepped p (field n at)) (Some (n, at)) ws
callee_second p n at d us vs ws h i g e = record {
  steps_are = ap (λ (z : List StepTree). z ++ field n at ∷ []) h.steps_are;
  spelled = joined h.spelled.front (d ∷ vs) ws
      (e ∙ ap (λ (z : List Lexeme). z ++ d ∷ vs) (h.spelled.parts ∙ ap (λ (z : List Lexeme). h.spelled.front ++ z) h.spelled.behind
      ∙ append-nil h.spelled.front)) h.spelled.in_front (led d vs (single d i) g);
  formed = h.formed;
}

pub word_path : (n : Name) (p : Place) (ts : List Lexeme) → SpellsWord n p ts → IsFree n → IsWordPath (rooted (Local n false p) p) ts
word_path n p ts h f = record { word = h; free = f }

-- ---- calls

base_back : (base : Option PlacedName) → base_of (base_steps base) ≡ base
base_back None = refl
base_back (Some second) = refl

pub called_by : (p : PathTree) (l : List ArgTree) (base : Option PlacedName) (o c : Lexeme) (us vs ws : List Lexeme) → IsCallee p base us → IsSign "(" o
    → SpellsArgs l vs → All IsFormedArg l → IsSign ")" c → ws ≡ us ++ o ∷ (vs ++ c ∷ []) → Called (call_of p l) ws
called_by p l base o c us vs ws h i g f j e =
    let based : base_of p.steps ≡ base = ap (λ (z : List StepTree). base_of z) h.steps_are ∙ base_back base in
    let front = h.spelled.front in
    let back = h.spelled.back in
    record {
      spelled = joined front (back ++ o ∷ (vs ++ c ∷ [])) ws
          (e ∙ ap (λ (z : List Lexeme). z ++ o ∷ (vs ++ c ∷ [])) h.spelled.parts ∙ append_assoc front back (o ∷ (vs ++ c ∷ []))) h.spelled.in_front
          (joined back (o ∷ (vs ++ c ∷ [])) (back ++ o ∷ (vs ++ c ∷ [])) refl
          (subst (λ (z : Option PlacedName). SpellsBase (sign ".") z back) (sym based) h.spelled.behind)
          (led o (vs ++ c ∷ []) (single o i) (joined vs (c ∷ []) (vs ++ c ∷ []) refl g (single c j))));
      formed = record { name = h.formed; args = f };
    }
