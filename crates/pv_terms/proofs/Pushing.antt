-- Nodes put behind others, and what the terms of a table are then.
use Rattle.std.proofs.Common.{◌≡◌, ℕ, zero, suc, ◌+◌, ◌<◌, List, [], ◌∷◌, ◌++◌, length, length-append, append_assoc, append-nil, true, nat_lt, refl, sym, subst, ap, ◌∙◌, arith}
use Rattle.std.proofs.lemmas.Bool.{lt-ltb, and_parts, and_from}
use Rattle.pv_word.specs.declared.types.Ty.{Ty}
use Rattle.pv_flow.specs.declared.op.UnaryOp.{UnaryOp}
use Rattle.pv_flow.specs.declared.op.BinaryOp.{BinaryOp}
use Rattle.pv_flow.specs.declared.term.Node.{Node}
use Rattle.pv_flow.specs.Terms.{Term, unary, binary, select}
use Rattle.pv_flow.specs.View.{term_at, term_of, terms_after, terms_of}
use Rattle.pv_flow.specs.Tables.{has_operands, are_ordered}
use Rattle.pv_terms.specs.Pushed.{IsTable, IsAt, Grows, Puts}

-- ---- tables one after another

terms_joined : (terms : List Term) (a b : List Node) → terms_after terms (a ++ b) ≡ terms_after (terms_after terms a) b
terms_joined terms [] b = refl
terms_joined terms (n ∷ a) b = terms_joined (terms ++ term_of terms n ∷ []) a b

one_more : (a b n : ℕ) → a ≡ b + 1 → a + n ≡ b + suc n
one_more a b n e = omega (arith, e)

terms_long : (terms : List Term) (nodes : List Node) → length (terms_after terms nodes) ≡ length terms + length nodes
terms_long terms [] = none (length terms)
  where
    none : (n : ℕ) → n ≡ n + 0
    none n = omega arith
terms_long terms (n ∷ nodes) =
    terms_long (terms ++ term_of terms n ∷ []) nodes
    ∙ one_more (length (terms ++ term_of terms n ∷ [])) (length terms) (length nodes) (length-append terms (term_of terms n ∷ []))

terms_count : (nodes : List Node) → length (terms_of nodes) ≡ length nodes
terms_count nodes = terms_long [] nodes ∙ none (length nodes)
  where
    none : (n : ℕ) → 0 + n ≡ n
    none n = omega arith

front : (xs ys : List Term) (n : ℕ) → n < length xs → term_at (xs ++ ys) n ≡ term_at xs n
front [] ys n lt = absurd (omega (arith, lt))
front (x ∷ xs) ys zero lt = refl
front (x ∷ xs) ys (suc n) lt = front xs ys n (omega (arith, lt))

pub terms_front : (terms : List Term) (nodes : List Node) (n : ℕ) → n < length terms → term_at (terms_after terms nodes) n ≡ term_at terms n
terms_front terms [] n lt = refl
terms_front terms (x ∷ nodes) n lt =
    let long = length-append terms (term_of terms x ∷ []) in
    terms_front (terms ++ term_of terms x ∷ []) nodes n (omega (arith, lt, long))
    ∙ front terms (term_of terms x ∷ []) n lt

-- ---- what was there stays

pub keeps : (old new : List Node) (n : ℕ) (t : Term) → Grows old new → IsAt old n t → IsAt new n t
keeps old new n t g at =
    let count = terms_count old in
    let long = length-append old g.more in
    let longer = ap length g.extends in
    record {
      within = omega (arith, at.within, long, longer);
      term = ap (λ (nodes : List Node). term_at (terms_of nodes) n) g.extends
          ∙ ap (λ (terms : List Term). term_at terms n) (terms_joined [] old g.more)
          ∙ terms_front (terms_of old) g.more n (omega (arith, at.within, count))
          ∙ at.term;
    }

pub grows_then : (old mid new : List Node) → Grows old mid → Grows mid new → Grows old new
grows_then old mid new a b = record {
  more = a.more ++ b.more;
  extends = b.extends ∙ ap (λ (l : List Node). l ++ b.more) a.extends ∙ append_assoc old a.more b.more;
  table = b.table;
}

pub puts_then : (old mid new : List Node) (n : ℕ) (t : Term) → Grows old mid → Puts mid new n t → Puts old new n t
puts_then old mid new n t a b = record { grows = grows_then old mid new a b.grows; at = b.at }

-- ---- one node more

ordered_one : (k : ℕ) (old : List Node) (node : Node) → are_ordered k old ≡ true → has_operands (k + length old) node ≡ true
    → are_ordered k (old ++ node ∷ []) ≡ true
ordered_one k [] node ordered has =
    and_from (has_operands k node) true (subst (λ (n : ℕ). has_operands n node ≡ true) (none k) has) refl
  where
    none : (n : ℕ) → n + 0 ≡ n
    none n = omega arith
ordered_one k (x ∷ old) node ordered has =
    let both = and_parts (has_operands k x) (are_ordered (suc k) old) ordered in
    and_from (has_operands k x) (are_ordered (suc k) (old ++ node ∷ [])) both.0
    (ordered_one (suc k) old node both.1 (subst (λ (n : ℕ). has_operands n node ≡ true) (next k (length old)) has))
  where
    next : (a b : ℕ) → a + suc b ≡ suc a + b
    next a b = omega arith

pub last : (xs : List Term) (t : Term) (n : ℕ) → n ≡ length xs → term_at (xs ++ t ∷ []) n ≡ t
last [] t n e = ap (λ (k : ℕ). term_at (t ∷ []) k) e
last (x ∷ xs) t zero e = absurd (omega (arith, e))
last (x ∷ xs) t (suc n) e = last xs t n (omega (arith, e))

pub puts_one : (old new : List Node) (node : Node) (n : ℕ) → new ≡ old ++ node ∷ [] → n ≡ length old → IsTable old
    → has_operands (length old) node ≡ true → Puts old new n (term_of (terms_of old) node)
puts_one old new node n extends is table has =
    let long = length-append old (node ∷ []) in
    let longer = ap length extends in
    record {
      grows = record {
        more = node ∷ [];
        extends = extends;
        table = subst (λ (l : List Node). are_ordered 0 l ≡ true) (sym extends)
            (ordered_one 0 old node table (subst (λ (k : ℕ). has_operands k node ≡ true) (from_none (length old)) has));
      };
      at = record {
        within = omega (arith, is, long, longer);
        term = ap (λ (nodes : List Node). term_at (terms_of nodes) n) extends
            ∙ ap (λ (terms : List Term). term_at terms n) (terms_joined [] old (node ∷ []))
            ∙ last (terms_of old) (term_of (terms_of old) node) n (is ∙ sym (terms_count old));
      };
    }
  where
    from_none : (k : ℕ) → k ≡ 0 + k
    from_none k = omega arith

-- ---- operands

pub there : (nodes : List Node) (n : ℕ) (t : Term) → IsAt nodes n t → nat_lt n (length nodes) ≡ true
there nodes n t at = lt-ltb n (length nodes) at.within

pub unary_at : (nodes : List Node) (op : UnaryOp) (ty : Ty) (a : ℕ) (t : Term) → IsAt nodes a t
    → unary op ty (term_at (terms_of nodes) a) ≡ unary op ty t
unary_at nodes op ty a t at = ap (unary op ty) at.term

pub binary_at : (nodes : List Node) (op : BinaryOp) (ty : Ty) (a b : ℕ) (s t : Term) → IsAt nodes a s → IsAt nodes b t
    → binary op ty (term_at (terms_of nodes) a) (term_at (terms_of nodes) b) ≡ binary op ty s t
binary_at nodes op ty a b s t p q =
    ap (λ (x : Term). binary op ty x (term_at (terms_of nodes) b)) p.term ∙ ap (binary op ty s) q.term

pub select_at : (nodes : List Node) (ty : Ty) (c a b : ℕ) (r s t : Term) → IsAt nodes c r → IsAt nodes a s → IsAt nodes b t
    → select ty (term_at (terms_of nodes) c) (term_at (terms_of nodes) a) (term_at (terms_of nodes) b) ≡ select ty r s t
select_at nodes ty c a b r s t o p q =
    ap (λ (x : Term). select ty x (term_at (terms_of nodes) a) (term_at (terms_of nodes) b)) o.term
    ∙ ap (λ (x : Term). select ty r x (term_at (terms_of nodes) b)) p.term ∙ ap (select ty r s) q.term

-- ---- what a call says of its term, said of the same term

pub says : (old new : List Node) (n : ℕ) (s t : Term) → s ≡ t → Puts old new n s → Puts old new n t
says old new n s t e p = record { grows = p.grows; at = record { within = p.at.within; term = p.at.term ∙ e } }

-- nothing is put where the number of a term is handed on
pub itself : (nodes : List Node) → IsTable nodes → Grows nodes nodes
itself nodes table = record { more = []; extends = sym (append-nil nodes); table = table }

pub puts_itself : (nodes : List Node) (n : ℕ) (t : Term) → IsTable nodes → IsAt nodes n t → Puts nodes nodes n t
puts_itself nodes n t table at = record { grows = itself nodes table; at = at }
