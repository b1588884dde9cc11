-- In an LL(1) language a text has one trace: the next token determines each production.
use Rattle.std.proofs.Common.{◌≡◌, ℕ, ◌^◌, List, [], ◌∷◌, ◌++◌, refl, ap, ◌∙◌, sym, subst, append_assoc}
use Rattle.std.specs.Int.{bit_at}
use Rattle.std.proofs.lemmas.List.{append-nil}
use Rattle.std.proofs.lemmas.Nat.Bits.{bit_at-pow_same}
use Rattle.pv_ll.specs.declared.table.Symbol.{Symbol}
use Rattle.pv_ll.specs.declared.table.Symbol.TheVariants.{Name}
use Rattle.pv_ll.specs.declared.table.Language.{Language}
use Rattle.pv_ll.specs.Walk.Step.{Leave}
use Rattle.pv_ll.specs.Grammar.{Grammar, Derives, Leftmost, IsProduction}
use Rattle.pv_ll.specs.Grammar.Leftmost.{done, passed, put}
use Rattle.pv_ll.specs.Table.{grammar_of, rule, next}
use Rattle.pv_ll.specs.Facts.{IsLL1, Followed}
use Rattle.pv_ll.specs.Reading.{look}
use Rattle.pv_ll.specs.Walk.{Step, Walks, tokens_of}
use Rattle.pv_ll.specs.Walk.Walks.{over, on, through}
use Rattle.pv_ll.proofs.Words.{Cut, cut}
use Rattle.pv_ll.proofs.Steps.{ServesAs, served, comes, followed_append}
use Rattle.pv_ll.proofs.Faults.{only_end}
use Rattle.pv_ll.proofs.Traces.{derived, Passing, inv_passed, Putting, inv_put, same_body}
use Rattle.pv_ll.proofs.Walking.{tokens_append}

-- the token that comes takes the production by which the tokens are derived
takes : {l : Language} → (fits : IsLL1 l) → (n : ℕ) (ss : List Symbol) (w : List ℕ) (k : ℕ) (body : List Symbol)
    → Followed l (2 ^ l.kinds) (Name n ∷ ss) → (p : IsProduction (grammar_of l) k n body) → Derives (grammar_of l) (body ++ ss) w
    → (s : ServesAs l k n body) → bit_at s.alternative.when (look l.kinds w) ≡ 1
takes {l} fits n ss w k body h p d s =
    let c : Cut (grammar_of l) body ss w = cut body d in
    let behind_it : bit_at (rule l n).follow (look l.kinds c.rest) ≡ 1 =
    h.0 (look l.kinds c.rest)
    (subst (λ (z : List ℕ). bit_at (next l (2 ^ l.kinds) ss) (look l.kinds z) ≡ 1) (append-nil c.rest)
    (comes fits c.others (2 ^ l.kinds) [] (λ e. bit_at-pow_same l.kinds))) in
    subst (λ (z : List ℕ). bit_at s.alternative.when (look l.kinds z) ≡ 1) (sym c.whole)
    (s.predicted (look l.kinds (c.own ++ c.rest)) (comes fits c.derives (rule l n).follow c.rest (λ e. behind_it)))

-- two productions of a name by which tokens are derived are one
one_production : {l : Language} → IsLL1 l → (n : ℕ) (ss : List Symbol) (w : List ℕ) (j k : ℕ) (a b : List Symbol)
    → Followed l (2 ^ l.kinds) (Name n ∷ ss) → IsProduction (grammar_of l) j n a → IsProduction (grammar_of l) k n b
    → Derives (grammar_of l) (a ++ ss) w → Derives (grammar_of l) (b ++ ss) w → j ≡ k
one_production {l} fits n ss w j k a b h p q d e =
    let s : ServesAs l j n a = served fits p in
    let r : ServesAs l k n b = served fits q in
    fits.apart j k s.alternative r.alternative s.selects r.selects (s.named ∙ sym r.named) (look l.kinds w)
    (takes fits n ss w j a h p d s) (takes fits n ss w k b h q e r)

-- what comes behind a body in place of its name is in the follow sets
followed_body : {l : Language} → IsLL1 l → (n : ℕ) (ss : List Symbol) (k : ℕ) (body : List Symbol) → IsProduction (grammar_of l) k n body
    → Followed l (2 ^ l.kinds) (Name n ∷ ss) → Followed l (2 ^ l.kinds) (body ++ ss)
followed_body {l} fits n ss k body p h = followed_append l (2 ^ l.kinds) (rule l n).follow ss h.0 body (served fits p).followed h.1

one_done : {g : Grammar} {trace : List ℕ} {w : List ℕ} → Leftmost g trace [] w → [] ≡ trace
one_done done = refl

same_trace : {l : Language} → IsLL1 l → {trace : List ℕ} {ss : List Symbol} {w : List ℕ} → Leftmost (grammar_of l) trace ss w
    → (other : List ℕ) → Followed l (2 ^ l.kinds) ss → Leftmost (grammar_of l) other ss w → trace ≡ other
same_trace fits done other h e = one_done e
same_trace {l} fits (passed {t = t} {ss = ss} {w = w} d) other h e =
    let x : Passing (grammar_of l) other t ss (t ∷ w) = inv_passed e in
    let rest : x.rest ≡ w = cc (x.whole) in
    same_trace fits d other h (subst (λ (z : List ℕ). Leftmost (grammar_of l) other ss z) rest x.others)
same_trace {l} fits (put {n = n} {trace = trace} {ss = ss} {body = body} {w = w} k p d) other h e =
    let x : Putting (grammar_of l) other n ss w = inv_put e in
    let one : k ≡ x.k = one_production fits n ss w k x.k body x.body h p x.production (derived d) (derived x.derives) in
    let b : x.body ≡ body = sym (same_body (grammar_of l) n k x.k body x.body one p x.production) in
    let later : trace ≡ x.later =
    same_trace fits d x.later (followed_body fits n ss k body p h) (subst (λ (z : List Symbol). Leftmost (grammar_of l) x.later (z ++ ss) w) b x.derives) in
    ap (λ (z : ℕ). z ∷ trace) one ∙ ap (λ (z : List ℕ). x.k ∷ z) later ∙ sym x.trace_is

-- a text has one trace
pub one_trace : {l : Language} → IsLL1 l → {trace other w : List ℕ} → Leftmost (grammar_of l) trace (Name l.start ∷ []) w
    → Leftmost (grammar_of l) other (Name l.start ∷ []) w → trace ≡ other
one_trace {l} fits {trace} {other} d e = same_trace fits d other (only_end l.kinds (rule l l.start).follow fits.start_ends, tt) e

-- ---- a walk's trace is a leftmost derivation of its tokens

leftmost_on : {g : Grammar} {own : List ℕ} {ss : List Symbol} {steps : List Step} → Walks g own ss steps
    → {rest : List ℕ} {more : List Symbol} {v : List ℕ} → Leftmost g rest more v → Leftmost g (own ++ rest) (ss ++ more) (tokens_of steps ++ v)
leftmost_on over e = e
leftmost_on (on d) e = passed (leftmost_on d e)
leftmost_on {g} (through {n = n} {own = o} {rest = r} {trace = trace} {ss = ss} {body = body} {inner = inner} {others = others} {steps = all} k p d f t s) {rest} {more} {v} e =
    let put_on : Leftmost g (k ∷ (o ++ (r ++ rest))) (Name n ∷ (ss ++ more)) (tokens_of inner ++ (tokens_of others ++ v)) =
    put k p (leftmost_on d (leftmost_on f e)) in
    let trace_is : k ∷ (o ++ (r ++ rest)) ≡ trace ++ rest =
    sym (ap (λ (z : List ℕ). z ++ rest) t ∙ ap (λ (z : List ℕ). k ∷ z) (append_assoc o r rest)) in
    let tokens_are : tokens_of inner ++ (tokens_of others ++ v) ≡ tokens_of all ++ v =
    sym (ap (λ (z : List Step). tokens_of z ++ v) s ∙ ap (λ (z : List ℕ). z ++ v) (tokens_append inner (Leave k ∷ others)) ∙ append_assoc (tokens_of inner) (tokens_of others) v) in
    subst (λ (z : List ℕ). Leftmost g (trace ++ rest) (Name n ∷ (ss ++ more)) z) tokens_are
    (subst (λ (z : List ℕ). Leftmost g z (Name n ∷ (ss ++ more)) (tokens_of inner ++ (tokens_of others ++ v))) trace_is put_on)

pub leftmost : {g : Grammar} {trace : List ℕ} {ss : List Symbol} {steps : List Step} → Walks g trace ss steps → Leftmost g trace ss (tokens_of steps)
leftmost {g} {trace} {ss} {steps} d =
    subst (λ (z : List ℕ). Leftmost g trace ss z) (append-nil (tokens_of steps))
    (subst (λ (z : List Symbol). Leftmost g trace z (tokens_of steps ++ [])) (append-nil ss)
    (subst (λ (z : List ℕ). Leftmost g z (ss ++ []) (tokens_of steps ++ [])) (append-nil trace) (leftmost_on d done)))
