-- What tokens make on the stack, without a text around them: put together as the grammar is.
use Rattle.std.proofs.Common.{◌≡◌, ℕ, Bool, true, false, List, [], ◌∷◌, ◌++◌, Some, refl, ap, ◌∙◌, sym, subst}
use Rattle.pv_ll.specs.declared.table.Symbol.{Symbol}
use Rattle.pv_ll.specs.declared.table.Symbol.TheVariants.{Token, Name}
use Rattle.pv_ll.specs.Grammar.{Grammar, IsProduction}
use Rattle.pv_ll.specs.Making.{Runs}
use Rattle.pv_ll.specs.Making.Runs.{none, leaf}
use Rattle.pv_ll.proofs.ForCallers.{on_tokens, beside, alone}
use Rattle.pv_tree.specs.Lexemes.{Lexeme}
use Rattle.pv_parse.specs.declared.action.Action.{Action}
use Rattle.pv_parse.specs.Kinds.{kind_of, marks, marked_behind}
use Rattle.pv_parse.specs.Front.{expression_productions}
use Rattle.pv_parse.specs.Items.{Stack, token}
use Rattle.pv_parse.specs.Deeds.{Kinded, kinded, making, reduce_by, expression_actions}
use Rattle.pv_parse.proofs.TokenKinds.{Serves, Marks}

-- in each grammar that begins with the productions of expressions, symbols make of these tokens, which aren't directly behind `#` or
-- `.`, one stack of the other; and no such sign is the last of them
pub record Gets (rest : Grammar) (acts : List Action) (ss : List Symbol) (ts : List Lexeme) (s behind : Stack) : Type 0 where
  pub runs : Runs (expression_productions ++ rest) (making (expression_actions ++ acts)) ss (kinded false ts) s behind
  pub plain : marked_behind false ts ≡ false

pub kinded_append : (m : Bool) (xs ys : List Lexeme) → kinded m (xs ++ ys) ≡ kinded m xs ++ kinded (marked_behind m xs) ys
kinded_append m [] ys = refl
kinded_append m (x ∷ xs) ys = ap (λ (z : List Kinded). record { lexeme = x; kind = kind_of m x } ∷ z) (kinded_append (marks x) xs ys)

pub behind_append : (m : Bool) (xs ys : List Lexeme) → marked_behind m (xs ++ ys) ≡ marked_behind (marked_behind m xs) ys
behind_append m [] ys = refl
behind_append m (x ∷ xs) ys = behind_append (marks x) xs ys

pub empty : {rest : Grammar} {acts : List Action} {s : Stack} → Gets rest acts [] [] s s
empty = record { runs = none; plain = refl }

-- the same of equal tokens
pub on : {rest : Grammar} {acts : List Action} {ss : List Symbol} {ts us : List Lexeme} {s behind : Stack} → ts ≡ us → Gets rest acts ss ts s behind
    → Gets rest acts ss us s behind
on {rest} {acts} {ss} {ts} {us} {s} {behind} e g = subst (λ (z : List Lexeme). Gets rest acts ss z s behind) e g

-- the same to equal stacks
pub to : {rest : Grammar} {acts : List Action} {ss : List Symbol} {ts : List Lexeme} {s left behind : Stack} → left ≡ behind → Gets rest acts ss ts s left
    → Gets rest acts ss ts s behind
to {rest} {acts} {ss} {ts} {s} {left} {behind} e g = subst (λ (z : Stack). Gets rest acts ss ts s z) e g

-- symbols behind others
pub then : {rest : Grammar} {acts : List Action} {a b : List Symbol} {us vs : List Lexeme} {s left behind : Stack} → Gets rest acts a us s left
    → Gets rest acts b vs left behind → Gets rest acts (a ++ b) (us ++ vs) s behind
then {rest} {acts} {a} {b} {us} {vs} {s} {left} {behind} g h =
    let second : Runs (expression_productions ++ rest) (making (expression_actions ++ acts)) b (kinded (marked_behind false us) vs) left behind =
    subst (λ (m : Bool). Runs (expression_productions ++ rest) (making (expression_actions ++ acts)) b (kinded m vs) left behind) (sym g.plain) h.runs in
    record {
      runs = on_tokens (sym (kinded_append false us vs)) (beside g.runs second);
      plain = behind_append false us vs ∙ ap (λ (m : Bool). marked_behind m vs) g.plain ∙ h.plain;
    }

-- a name, by one of its productions
pub by : {rest : Grammar} {acts : List Action} {n : ℕ} {ts : List Lexeme} {s inner behind : Stack} (k : ℕ) (body : List Symbol)
    → IsProduction (expression_productions ++ rest) k n body → Gets rest acts body ts s inner → reduce_by (expression_actions ++ acts) k inner ≡ Some behind
    → Gets rest acts (Name n ∷ []) ts s behind
by k body p g e = record { runs = alone k body p g.runs e; plain = g.plain }

-- a token
pub pass : {rest : Grammar} {acts : List Action} {s : Stack} (kind : ℕ) (t : Lexeme) → Serves kind t → Gets rest acts (Token kind ∷ []) (t ∷ []) s (token t ∷ s)
pass kind t h = record { runs = leaf h.is none; plain = h.plain }

-- `#` or `.`, and what its next token makes
pub pass_mark : {rest : Grammar} {acts : List Action} {s behind : Stack} (kind n k next : ℕ) (t w : Lexeme) → Marks kind t → kind_of true w ≡ next
    → marks w ≡ false → IsProduction (expression_productions ++ rest) k n (Token next ∷ [])
    → reduce_by (expression_actions ++ acts) k (token w ∷ token t ∷ s) ≡ Some behind
    → Gets rest acts (Token kind ∷ Name n ∷ []) (t ∷ w ∷ []) s behind
pass_mark {rest} {acts} {s} {behind} kind n k next t w h e f p r = record {
  runs = leaf h.is (subst (λ (m : Bool). Runs (expression_productions ++ rest) (making (expression_actions ++ acts)) (Name n ∷ []) (kinded m (w ∷ []))
      (token t ∷ s) behind) (sym h.mark) (alone k (Token next ∷ []) p (leaf e none) r));
  plain = f;
}
