-- Arguments of a function, behind which nodes are put, and one of them.
use Rattle.std.proofs.Common.{◌≡◌, ℕ, zero, suc, List, [], ◌∷◌, Some, None, refl, sym, ap, subst, ◌∙◌}
use Rattle.std.specs.Prelude.{slice_get, pos}
use Rattle.std.proofs.lemmas.Option.{same_Some}
use Rattle.pv_word.specs.declared.types.Ty.{Ty}
use Rattle.pv_flow.specs.declared.term.Node.{Node}
use Rattle.pv_flow.specs.Terms.{Term, constant}
use Rattle.pv_terms.specs.declared.function.Given.{Given}
use Rattle.pv_terms.specs.Forms.{Typed, at_type, argument_term}
use Rattle.pv_terms.specs.Given.{AreGiven}
use Rattle.pv_terms.specs.Pushed.{IsAt, Grows}
use Rattle.pv_terms.proofs.Pushing.{keeps}

pub givens_keep : (old new : List Node) (gs : List Given) (ts : List Typed) → Grows old new → AreGiven old gs ts → AreGiven new gs ts
givens_keep old new [] [] g are = are
givens_keep old new [] (t ∷ ts) g are = absurd are
givens_keep old new (x ∷ gs) [] g are = absurd are
givens_keep old new (x ∷ gs) (t ∷ ts) g are = (are.0, keeps old new x.term t.term g are.1, givens_keep old new gs ts g are.2)

-- the argument that is there, and what it is as one of a type
pub record IsArgument (nodes : List Node) (g : Given) (k : ℕ) (ty : Ty) (ts : List Typed) : Type 0 where
  pub term : Term
  pub at : IsAt nodes g.term term
  pub is : at_type ty (record { ty = g.ty; term = term }) ≡ argument_term k ty ts

same_type : (ty a b : Ty) (t : Term) → a ≡ b → at_type ty (record { ty = a; term = t }) ≡ at_type ty (record { ty = b; term = t })
same_type ty a b t e = ap (λ (x : Ty). at_type ty (record { ty = x; term = t })) e

pub argument_is : (nodes : List Node) (gs : List Given) (ts : List Typed) (k : ℕ) (ty : Ty) (g : Given) → AreGiven nodes gs ts
    → Some g ≡ slice_get gs k → IsArgument nodes g k ty ts
argument_is nodes [] ts k ty g are e = cc
argument_is nodes (x ∷ gs) [] k ty g are e = absurd are
argument_is nodes (x ∷ gs) (t ∷ ts) zero ty g are e =
    let same = same_Some g x e in record {
      term = t.term;
      at = record { within = (subst (λ (y : Given). IsAt nodes y.term t.term) (sym same) are.1).within; term = (subst (λ (y : Given). IsAt nodes y.term t.term) (sym same) are.1).term };
      is = same_type ty g.ty t.ty t.term (ap (λ (y : Given). y.ty) same ∙ are.0);
    }
argument_is nodes (x ∷ gs) (t ∷ ts) (suc k) ty g are e =
    let h = argument_is nodes gs ts k ty g are.2 e in record { term = h.term; at = h.at; is = h.is }

pub no_argument : (nodes : List Node) (gs : List Given) (ts : List Typed) (k : ℕ) (ty : Ty) → AreGiven nodes gs ts
    → None ≡ slice_get gs k → constant ty (pos 0) ≡ argument_term k ty ts
no_argument nodes [] [] k ty are e = refl
no_argument nodes [] (t ∷ ts) k ty are e = absurd are
no_argument nodes (x ∷ gs) [] k ty are e = absurd are
no_argument nodes (x ∷ gs) (t ∷ ts) zero ty are e = cc
no_argument nodes (x ∷ gs) (t ∷ ts) (suc k) ty are e = no_argument nodes gs ts k ty are.2 e
