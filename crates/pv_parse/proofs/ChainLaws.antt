-- Laws of chains: a chain of a level is its first operand and a tail of links, whatever the level.
use Rattle.std.proofs.Common.{◌≡◌, ℕ, suc, ◌≤◌, List, [], ◌∷◌, ◌++◌, refl, ap, ◌∙◌, sym, subst, arith}
use Rattle.std.proofs.lemmas.List.{append-nil, append_assoc}
use Rattle.pv_tree.specs.declared.expr.BinaryOp.{BinaryOp}
use Rattle.pv_tree.specs.Tree.{ExprTree, binary}
use Rattle.pv_tree.specs.Lexemes.{Lexeme}
use Rattle.pv_tree.specs.Expressions.{strength_of, IsBetween}
use Rattle.pv_parse.specs.Items.{Stack, expr}
use Rattle.pv_parse.proofs.Sorts.{Sure, lexemes, Holds, Does, an_expr, leads, chain, tail}
use Rattle.pv_parse.proofs.Forms.{parted, single_at, led, joined}

-- an expression holds together at least as strongly as at any weaker level
pub weaker : (l m : ℕ) (e : ExprTree) (ts : List Lexeme) → l ≤ m → Holds m e ts → Holds l e ts
weaker l m e ts h a = record { spelled = a.spelled; formed = a.formed; strong = omega (arith, a.strong) }

pub on_lexemes : (l : ℕ) (e : ExprTree) (ts us : List Lexeme) → ts ≡ us → Holds l e ts → Holds l e us
on_lexemes l e ts us p a = subst (λ (z : List Lexeme). Holds l e z) p a

-- X = Y tail
pub first_then : {s : Stack} (l m : ℕ) (ws us vs : List Sure) (e f : ExprTree) → l ≤ m → Holds m e (lexemes us)
    → ((xs : List Lexeme) → Holds l e xs → Holds l f (xs ++ lexemes vs)) → ws ≡ us ++ vs → Does (chain l) s ws (expr f ∷ s)
first_then l m ws us vs e f h a k p =
    an_expr f (on_lexemes l f (lexemes us ++ lexemes vs) (lexemes ws) (sym (parted ws us vs p)) (k (lexemes us) (weaker l m e (lexemes us) h a)))

-- tail = link tail
pub link_then : {s : Stack} (l m n : ℕ) (ws us vs : List Sure) (e f g : ExprTree) → ((xs : List Lexeme) → Holds l e xs → Holds m f (xs ++ lexemes us))
    → ((xs : List Lexeme) → Holds m f xs → Holds n g (xs ++ lexemes vs)) → ws ≡ us ++ vs → Does (tail l n) (expr e ∷ s) ws (expr g ∷ s)
link_then l m n ws us vs e f g h k p =
    leads e g (λ xs a. on_lexemes n g ((xs ++ lexemes us) ++ lexemes vs) (xs ++ lexemes ws)
    (append_assoc xs (lexemes us) (lexemes vs) ∙ ap (λ (z : List Lexeme). xs ++ z) (sym (parted ws us vs p)))
    (k (xs ++ lexemes us) (h xs a)))

-- tail =
pub no_link : {s : Stack} (l : ℕ) (e : ExprTree) → Does (tail l l) (expr e ∷ s) [] (expr e ∷ s)
no_link l e = leads e e (λ xs a. on_lexemes l e xs (xs ++ []) (sym (append-nil xs)) a)

-- link = sign operand
pub linked : {s : Stack} (l : ℕ) (op : BinaryOp) (e r : ExprTree) (t : Sure) (ts us : List Sure) → strength_of op ≡ l → IsBetween op t.lexeme
    → Holds (suc l) r (lexemes us) → ts ≡ us → Does (tail l l) (expr e ∷ s) (t ∷ ts) (expr (binary op t.lexeme.place e r) ∷ s)
linked l op e r t ts us level is a p =
    let b : Holds (suc l) r (lexemes ts) = on_lexemes (suc l) r (lexemes us) (lexemes ts) (ap (λ z. lexemes z) (sym p)) a in
    leads e (binary op t.lexeme.place e r) (λ xs h. record {
      spelled = joined xs (t.lexeme ∷ lexemes ts) (xs ++ lexemes (t ∷ ts)) refl h.spelled
          (led t.lexeme (lexemes ts) (single_at t.lexeme is) b.spelled);
      formed = (omega (arith, h.strong, level), omega (arith, b.strong, level), h.formed, b.formed);
      strong = omega (arith, level);
    })
