-- Expressions behind their first operand: the tails of all levels, from the strongest down, as they stand behind an operand that was read
-- before it was known that an expression begins with it.
use Rattle.std.proofs.Common.{◌≡◌, inl, inr, ℕ, zero, suc, ◌≤◌, ◌<◌, List, [], ◌∷◌, ◌++◌, refl, ap, ◌∙◌, sym, subst, arith}
use Rattle.std.proofs.lemmas.List.{append-nil, append_assoc}
use Rattle.std.proofs.lemmas.Bool.{cases_lt}
use Rattle.pv_place.specs.declared.place.Place.{Place}
use Rattle.pv_ll.specs.declared.table.Symbol.{Symbol}
use Rattle.pv_ll.specs.declared.table.Symbol.TheVariants.{Name}
use Rattle.pv_ll.specs.Grammar.{Grammar}
use Rattle.pv_tree.specs.declared.expr.BinaryOp.{BinaryOp}
use Rattle.pv_tree.specs.Tree.{ExprTree, lit, read, unary, binary, std, paren, OperandTree}
use Rattle.pv_tree.specs.Lexemes.{Lexeme}
use Rattle.pv_tree.specs.Expressions.{strength, strength_of, IsBetween, SpellsExpr, IsFormedExpr, SpellsOperand, IsFormedOperand}
use Rattle.pv_parse.specs.declared.action.Action.{Action}
use Rattle.pv_parse.specs.Items.{Stack, expr}
use Rattle.pv_parse.proofs.ForCallers.{Gets, empty, on, then, tail_at, level, Whole, Derived, linked, level_low, Firm, atom_made, paren_made, unary_made, std_made, can, cans}

-- the tails of the levels from the strongest down to this one
abbrev pub tails_to : ℕ → List Symbol
tails_to zero = Name (tail_at 6) ∷ Name (tail_at 5) ∷ Name (tail_at 4) ∷ Name (tail_at 3) ∷ Name (tail_at 2) ∷ Name (tail_at 1) ∷ Name (tail_at 0) ∷ []
tails_to (suc zero) = Name (tail_at 6) ∷ Name (tail_at 5) ∷ Name (tail_at 4) ∷ Name (tail_at 3) ∷ Name (tail_at 2) ∷ Name (tail_at 1) ∷ []
tails_to (suc (suc zero)) = Name (tail_at 6) ∷ Name (tail_at 5) ∷ Name (tail_at 4) ∷ Name (tail_at 3) ∷ Name (tail_at 2) ∷ []
tails_to (suc (suc (suc zero))) = Name (tail_at 6) ∷ Name (tail_at 5) ∷ Name (tail_at 4) ∷ Name (tail_at 3) ∷ []
tails_to (suc (suc (suc (suc zero)))) = Name (tail_at 6) ∷ Name (tail_at 5) ∷ Name (tail_at 4) ∷ []
tails_to (suc (suc (suc (suc (suc zero))))) = Name (tail_at 6) ∷ Name (tail_at 5) ∷ []
tails_to (suc (suc (suc (suc (suc (suc zero)))))) = Name (tail_at 6) ∷ []
tails_to _ = []

one_more : (l : ℕ) → l < 7 → tails_to (suc l) ++ Name (tail_at l) ∷ [] ≡ tails_to l
one_more zero h = refl
one_more (suc zero) h = refl
one_more (suc (suc zero)) h = refl
one_more (suc (suc (suc zero))) h = refl
one_more (suc (suc (suc (suc zero)))) h = refl
one_more (suc (suc (suc (suc (suc zero))))) h = refl
one_more (suc (suc (suc (suc (suc (suc zero)))))) h = refl
one_more (suc (suc (suc (suc (suc (suc (suc l))))))) h = absurd (omega arith)

-- the tails make of the first operand the expression, and of it and a further tail what that makes of the expression
abbrev Tail : Grammar → List Action → ℕ → ExprTree → ExprTree → List Lexeme → Type 0
Tail rest acts l f e ts = (s : Stack) → Gets rest acts (tails_to l) ts (expr f ∷ s) (expr e ∷ s)

abbrev OpenTail : Grammar → List Action → ℕ → ExprTree → ExprTree → List Lexeme → Type 0
OpenTail rest acts l f e ts = (s : Stack) (more : List Lexeme) (g : ExprTree) → Gets rest acts (Name (tail_at l) ∷ []) more (expr e ∷ s) (expr g ∷ s)
    → Gets rest acts (tails_to l) (ts ++ more) (expr f ∷ s) (expr g ∷ s)

pub record Tailed (rest : Grammar) (acts : List Action) (f e : ExprTree) (ts : List Lexeme) : Type 0 where
  pub whole : (l : ℕ) → l < 8 → l ≤ strength e → Tail rest acts l f e ts
  pub opens : (l : ℕ) → l < 7 → l ≤ strength e → OpenTail rest acts l f e ts

opens_above : (rest : Grammar) (acts : List Action) (l : ℕ) (f e : ExprTree) (ts : List Lexeme) → l < 7 → Tail rest acts (suc l) f e ts
    → OpenTail rest acts l f e ts
opens_above rest acts l f e ts h w s more g t =
    subst (λ (z : List Symbol). Gets rest acts z (ts ++ more) (expr f ∷ s) (expr g ∷ s)) (one_more l h) (then (w s) t)

whole_of : (rest : Grammar) (acts : List Action) (l : ℕ) (f e : ExprTree) (ts : List Lexeme) → l < 7 → OpenTail rest acts l f e ts → Tail rest acts l f e ts
whole_of rest acts l f e ts h w s = on (append-nil ts) (w s [] e ((level rest acts l h).stops (expr e ∷ s)))

weaker_opens : (rest : Grammar) (acts : List Action) (k : ℕ) (f e : ExprTree) (ts : List Lexeme) → k < 8 → Tail rest acts k f e ts → (l : ℕ) → l < k
    → OpenTail rest acts l f e ts
weaker_opens rest acts zero f e ts h w l i = absurd (omega arith)
weaker_opens rest acts (suc k) f e ts h w l i =
    let top : OpenTail rest acts k f e ts = opens_above rest acts k f e ts (omega arith) w in
    elim (cases_lt l k) [
      | inl less ↦ weaker_opens rest acts k f e ts (omega arith) (whole_of rest acts k f e ts (omega arith) top) l less
      | inr least ↦ let same : k ≡ l = omega arith in subst (λ (z : ℕ). OpenTail rest acts z f e ts) same top
    ]

-- the first operand itself
tailed_first : (rest : Grammar) (acts : List Action) (f : ExprTree) → Tailed rest acts f f []
tailed_first rest acts f =
    let alone : Tail rest acts 7 f f [] = λ s. empty in
    let down : (l : ℕ) → l < 7 → OpenTail rest acts l f f [] = λ l h. weaker_opens rest acts 7 f f [] (omega arith) alone l h in
    record {
      whole = λ l h i. elim (cases_lt l 7) [
        | inl less ↦ whole_of rest acts l f f [] less (down l less)
        | inr least ↦ let same : 7 ≡ l = omega arith in subst (λ (z : ℕ). Tail rest acts z f f []) same alone
      ];
      opens = λ l h i. down l h;
    }

-- a chain of its own level
tailed_chain : (rest : Grammar) (acts : List Action) (k : ℕ) (f e : ExprTree) (ts : List Lexeme) → k < 7 → strength e ≡ k → OpenTail rest acts k f e ts
    → Tailed rest acts f e ts
tailed_chain rest acts k f e ts h level_is w =
    let alone : Tail rest acts k f e ts = whole_of rest acts k f e ts h w in
    let down : (l : ℕ) → l < 7 → l ≤ k → OpenTail rest acts l f e ts = λ l i j. elim (cases_lt l k) [
      | inl less ↦ weaker_opens rest acts k f e ts (omega arith) alone l less
      | inr least ↦ let same : k ≡ l = omega arith in subst (λ (z : ℕ). OpenTail rest acts z f e ts) same w
    ] in
    record {
      whole = λ l i j.
          let below : l ≤ k = omega (arith, level_is) in
          let low : l < 7 = omega (arith, h) in
          whole_of rest acts l f e ts low (down l low below);
      opens = λ l i j. down l i (omega (arith, level_is));
    }

-- an operator between its operands
tailed_between : (rest : Grammar) (acts : List Action) (op : BinaryOp) (t : Lexeme) (f e r : ExprTree) (us vs : List Lexeme) → IsBetween op t
    → strength_of op ≤ strength e → strength_of op < strength r → Tailed rest acts f e us → Derived rest acts r vs
    → Tailed rest acts f (binary op t.place e r) (us ++ t ∷ vs)
tailed_between rest acts op t f e r us vs h i j d w =
    let low : strength_of op < 7 = level_low op in
    let right : Whole rest acts (suc (strength_of op)) r vs = w.whole (suc (strength_of op)) (omega (arith, low)) (omega (arith, j)) in
    tailed_chain rest acts (strength_of op) f (binary op t.place e r) (us ++ t ∷ vs) low refl (λ s more g tail.
    on (sym (append_assoc us (t ∷ vs) more)) (d.opens (strength_of op) low i s ((t ∷ vs) ++ more) g
    ((level rest acts (strength_of op) low).goes_on ((t ∷ vs) ++ more) (expr e ∷ s) (expr g ∷ s) (then (linked rest acts op t e r vs s h right) tail))))

-- ---- the first operand of an expression

-- an operand that is read, or what begins with no name
pub data Fronts (rest : Grammar) (acts : List Action) : ExprTree → List Lexeme → Type 0 where
  a_read : {ts : List Lexeme} (o : OperandTree) → SpellsOperand o ts → IsFormedOperand o → Fronts rest acts (read o) ts
  a_firm_one : {e : ExprTree} {ts : List Lexeme} → Firm rest acts e ts → Fronts rest acts e ts

-- an expression in two parts: its first operand, and the tails behind it
pub record Split (rest : Grammar) (acts : List Action) (e : ExprTree) (ts : List Lexeme) : Type 0 where
  pub first : ExprTree
  pub us : List Lexeme
  pub vs : List Lexeme
  pub parts : ts ≡ us ++ vs
  pub begins : Fronts rest acts first us
  pub tails : Tailed rest acts first e vs

split_first : (rest : Grammar) (acts : List Action) (e : ExprTree) (ts : List Lexeme) → Fronts rest acts e ts → Split rest acts e ts
split_first rest acts e ts h =
    record { first = e; us = ts; vs = []; parts = sym (append-nil ts); begins = h; tails = tailed_first rest acts e }

pub split : (rest : Grammar) (acts : List Action) (e : ExprTree) (ts : List Lexeme) → SpellsExpr e ts → IsFormedExpr e → Split rest acts e ts
split rest acts (lit own value place) ts d f = split_first rest acts (lit own value place) ts (a_firm_one (atom_made rest acts own value place ts d))
split rest acts (read o) ts d f = split_first rest acts (read o) ts (a_read o d f)
split rest acts (unary op place e) ts d f =
    split_first rest acts (unary op place e) ts (a_firm_one (unary_made rest acts op place e ts d f.0 (can rest acts e d.back d.behind f.1)))
split rest acts (std function place args) ts d f =
    split_first rest acts (std function place args) ts (a_firm_one (std_made rest acts function place args ts d (cans rest acts args) f))
split rest acts (paren place e) ts d f =
    split_first rest acts (paren place e) ts (a_firm_one (paren_made rest acts place e ts d (can rest acts e d.behind.front d.behind.in_front f)))
split rest acts (binary op place e r) ts d f =
    let t = d.behind.in_front in
    let x : Split rest acts e d.front = split rest acts e d.front d.in_front f.2 in
    let all : Tailed rest acts x.first (binary op t.token.place e r) (x.vs ++ t.token ∷ d.behind.back) =
    tailed_between rest acts op t.token x.first e r x.vs d.behind.back t.is.is f.0 f.1 x.tails (can rest acts r d.behind.back d.behind.behind f.3) in
    record {
      first = x.first;
      us = x.us;
      vs = x.vs ++ t.token ∷ d.behind.back;
      parts = d.parts ∙ ap (λ (z : List Lexeme). z ++ d.back) x.parts ∙ append_assoc x.us x.vs d.back
          ∙ ap (λ (z : List Lexeme). x.us ++ (x.vs ++ z)) (d.behind.parts ∙ ap (λ (z : List Lexeme). z ++ d.behind.back) t.alone);
      begins = x.begins;
      tails = subst (λ (z : Place). Tailed rest acts x.first (binary op z e r) (x.vs ++ t.token ∷ d.behind.back)) t.is.at all;
    }
