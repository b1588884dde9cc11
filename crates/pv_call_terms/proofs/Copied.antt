-- Terms of copies: the nodes of a block, put behind others, stand for its terms, renamed.
use Rattle.std.proofs.Common.{◌≡◌, ℕ, suc, ◌+◌, ◌<◌, ◌≤◌, List, [], ◌∷◌, ◌++◌, map, length, length-append, append_assoc, append-nil, true, ◌&&◌, nat_lt, refl, sym, subst, ap, ◌∙◌, arith}
use Rattle.std.proofs.lemmas.Bool.{ltb-true, and_parts, and_from}
use Rattle.std.proofs.lemmas.List.{map-append, get_or-append-add, get_or-map}
use Rattle.pv_flow.specs.declared.term.Node.{Node}
use Rattle.pv_flow.specs.declared.term.Node.TheVariants as node
use Rattle.pv_flow.specs.Terms.{Term, unary, binary, select}
use Rattle.pv_flow.specs.View.{false_term, term_at, term_of, terms_after, terms_of}
use Rattle.pv_flow.specs.Tables.{has_operands, are_ordered}
use Rattle.pv_call_copies.specs.Renaming.{renamed}
use Rattle.pv_call_terms.specs.declared.numbers.TheConstants.{MOST}
use Rattle.pv_call_terms.specs.Numbers.{narrow}
use Rattle.pv_call_terms.specs.Terms.{node_at}
use Rattle.pv_call_terms.specs.Correct.{TermsAreCopied, TermsStayOrdered}
use Rattle.pv_call_terms.proofs.Small.{narrow_is, later}

-- ---- tables one after another

pub terms_joined : (terms : List Term) (a b : List Node) → terms_after terms (a ++ b) ≡ terms_after (terms_after terms a) b
terms_joined terms [] b = refl
terms_joined terms (n ∷ a) b = terms_joined (terms ++ term_of terms n ∷ []) a b

one_more : (a b n : ℕ) → a ≡ b + 1 → a + n ≡ b + suc n
one_more a b n e = omega (arith, e)

terms_long : (terms : List Term) (nodes : List Node) → length (terms_after terms nodes) ≡ length terms + length nodes
terms_long terms [] = none (length terms)
  where
    none : (n : ℕ) → n ≡ n + 0
    none n = omega arith
terms_long terms (n ∷ nodes) =
    terms_long (terms ++ term_of terms n ∷ []) nodes
    ∙ one_more (length (terms ++ term_of terms n ∷ [])) (length terms) (length nodes) (length-append terms (term_of terms n ∷ []))

pub terms_count : (nodes : List Node) → length (terms_of nodes) ≡ length nodes
terms_count nodes = terms_long [] nodes ∙ none (length nodes)
  where
    none : (n : ℕ) → 0 + n ≡ n
    none n = omega arith

-- ---- one term

-- an operand of the block's, as one of the copy
pub operand_copied : (place : ℕ → ℕ) (old done : List Term) (m a : ℕ) → m ≡ length old → m + length done ≤ MOST
    → nat_lt a (length done) ≡ true → term_at (old ++ map (renamed place) done) (narrow (m + a)) ≡ renamed place (term_at done a)
operand_copied place old done m a is most lt =
    ap (λ (i : ℕ). term_at (old ++ map (renamed place) done) i) (narrow_is (m + a) (omega (arith, most, within)) ∙ ap (λ (i : ℕ). i + a) is)
    ∙ get_or-append-add old (map (renamed place) done) a false_term
    ∙ get_or-map (renamed place) done a false_term false_term within
  where
    within : a < length done
    within = ltb-true a (length done) lt

term_copied : (place : ℕ → ℕ) (old done : List Term) (m : ℕ) (n : Node) → m ≡ length old → m + length done ≤ MOST
    → has_operands (length done) n ≡ true → term_of (old ++ map (renamed place) done) (node_at place m n) ≡ renamed place (term_of done n)
term_copied place old done m (node.Constant ty v) is most has = refl
term_copied place old done m (node.Variable x) is most has = refl
term_copied place old done m (node.Unary op ty a) is most has = ap (unary op ty) (operand_copied place old done m a is most has)
term_copied place old done m (node.Binary op ty a b) is most has =
    let both = and_parts (nat_lt a (length done)) (nat_lt b (length done)) has in
    ap (λ (s : Term). binary op ty s (term_at (old ++ map (renamed place) done) (narrow (m + b)))) (operand_copied place old done m a is most both.0)
    ∙ ap (binary op ty (renamed place (term_at done a))) (operand_copied place old done m b is most both.1)
term_copied place old done m (node.Select ty c a b) is most has =
    let all = and_parts (nat_lt c (length done) && nat_lt a (length done)) (nat_lt b (length done)) has in
    let both = and_parts (nat_lt c (length done)) (nat_lt a (length done)) all.0 in
    ap (λ (s : Term). select ty s (term_at (old ++ map (renamed place) done) (narrow (m + a))) (term_at (old ++ map (renamed place) done) (narrow (m + b))))
    (operand_copied place old done m c is most both.0)
    ∙ ap (λ (s : Term). select ty (renamed place (term_at done c)) s (term_at (old ++ map (renamed place) done) (narrow (m + b))))
    (operand_copied place old done m a is most both.1)
    ∙ ap (select ty (renamed place (term_at done c)) (renamed place (term_at done a))) (operand_copied place old done m b is most all.1)

-- ---- all terms

copied : (place : ℕ → ℕ) (old done : List Term) (m : ℕ) (nodes : List Node) → m ≡ length old → m + (length done + length nodes) ≤ MOST
    → are_ordered (length done) nodes ≡ true
    → terms_after (old ++ map (renamed place) done) (map (node_at place m) nodes) ≡ old ++ map (renamed place) (terms_after done nodes)
copied place old done m [] is most ordered = refl
copied place old done m (n ∷ nodes) is most ordered =
    ap (λ (t : Term). terms_after ((old ++ map (renamed place) done) ++ t ∷ []) (map (node_at place m) nodes))
    (term_copied place old done m n is (omega (arith, most)) both.0)
    ∙ ap (λ (ts : List Term). terms_after ts (map (node_at place m) nodes)) grown
    ∙ copied place old (done ++ term_of done n ∷ []) m nodes is
    (subst (λ (k : ℕ). m + (k + length nodes) ≤ MOST) (sym long) (omega (arith, most)))
    (subst (λ (k : ℕ). are_ordered k nodes ≡ true) (sym long) both.1)
  where
    both : (has_operands (length done) n ≡ true) × (are_ordered (suc (length done)) nodes ≡ true)
    both = and_parts (has_operands (length done) n) (are_ordered (suc (length done)) nodes) ordered

    long : length (done ++ term_of done n ∷ []) ≡ suc (length done)
    long = length-append done (term_of done n ∷ []) ∙ next (length done)
      where
        next : (k : ℕ) → k + 1 ≡ suc k
        next k = omega arith

    grown : (old ++ map (renamed place) done) ++ renamed place (term_of done n) ∷ [] ≡ old ++ map (renamed place) (done ++ term_of done n ∷ [])
    grown =
        append_assoc old (map (renamed place) done) (renamed place (term_of done n) ∷ [])
        ∙ ap (λ (ts : List Term). old ++ ts) (sym (map-append (renamed place) done (term_of done n ∷ [])))

pub terms_are_copied : TermsAreCopied
terms_are_copied place old block ordered most =
    terms_joined [] old (map (node_at place (length old)) block)
    ∙ ap (λ (ts : List Term). terms_after ts (map (node_at place (length old)) block)) (sym (append-nil (terms_of old)))
    ∙ copied place (terms_of old) [] (length old) block (sym (terms_count old)) (omega (arith, most)) ordered

-- ---- operands

operands_later : (place : ℕ → ℕ) (m k : ℕ) (n : Node) → has_operands k n ≡ true → has_operands (m + k) (node_at place m n) ≡ true
operands_later place m k (node.Constant ty v) has = refl
operands_later place m k (node.Variable x) has = refl
operands_later place m k (node.Unary op ty a) has = later m a k has
operands_later place m k (node.Binary op ty a b) has =
    let both = and_parts (nat_lt a k) (nat_lt b k) has in
    and_from (nat_lt (narrow (m + a)) (m + k)) (nat_lt (narrow (m + b)) (m + k)) (later m a k both.0) (later m b k both.1)
operands_later place m k (node.Select ty c a b) has =
    let all = and_parts (nat_lt c k && nat_lt a k) (nat_lt b k) has in
    let both = and_parts (nat_lt c k) (nat_lt a k) all.0 in
    and_from (nat_lt (narrow (m + c)) (m + k) && nat_lt (narrow (m + a)) (m + k)) (nat_lt (narrow (m + b)) (m + k))
    (and_from (nat_lt (narrow (m + c)) (m + k)) (nat_lt (narrow (m + a)) (m + k)) (later m c k both.0) (later m a k both.1))
    (later m b k all.1)

copies_ordered : (place : ℕ → ℕ) (m k : ℕ) (nodes : List Node) → are_ordered k nodes ≡ true
    → are_ordered (m + k) (map (node_at place m) nodes) ≡ true
copies_ordered place m k [] ordered = refl
copies_ordered place m k (n ∷ nodes) ordered =
    let both = and_parts (has_operands k n) (are_ordered (suc k) nodes) ordered in
    and_from (has_operands (m + k) (node_at place m n)) (are_ordered (suc (m + k)) (map (node_at place m) nodes))
    (operands_later place m k n both.0)
    (subst (λ (i : ℕ). are_ordered i (map (node_at place m) nodes) ≡ true) (next m k) (copies_ordered place m (suc k) nodes both.1))
  where
    next : (m k : ℕ) → m + suc k ≡ suc (m + k)
    next m k = omega arith

pub ordered_joined : (k : ℕ) (a b : List Node) → are_ordered k a ≡ true → are_ordered (k + length a) b ≡ true → are_ordered k (a ++ b) ≡ true
ordered_joined k [] b first rest = subst (λ (i : ℕ). are_ordered i b ≡ true) (none k) rest
  where
    none : (k : ℕ) → k + 0 ≡ k
    none k = omega arith
ordered_joined k (n ∷ a) b first rest =
    let both = and_parts (has_operands k n) (are_ordered (suc k) a) first in
    and_from (has_operands k n) (are_ordered (suc k) (a ++ b)) both.0
    (ordered_joined (suc k) a b both.1 (subst (λ (i : ℕ). are_ordered i b ≡ true) (next k (length a)) rest))
  where
    next : (k n : ℕ) → k + suc n ≡ suc k + n
    next k n = omega arith

pub terms_stay_ordered : TermsStayOrdered
terms_stay_ordered place old block first ordered =
    ordered_joined 0 old (map (node_at place (length old)) block) first
    (subst (λ (i : ℕ). are_ordered i (map (node_at place (length old)) block) ≡ true) (turned (length old))
    (copies_ordered place (length old) 0 block ordered))
  where
    turned : (n : ℕ) → n + 0 ≡ 0 + n
    turned n = omega arith
