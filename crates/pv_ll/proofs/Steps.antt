-- The steps of the machine keep what the stack stands for.
use Rattle.std.proofs.Common.{◌≡◌, ℕ, ◌+◌, ◌<◌, ◌≤◌, ◌^◌, Bool, true, false, cond, List, [], ◌∷◌, ◌++◌, map, Some, Option, refl, ap, ◌∙◌, sym, arith, subst, zero, suc}
use Rattle.std.specs.Prelude.{slice_get, ◌&&◌}
use Rattle.std.specs.Option.{option_map}
use Rattle.std.specs.Int.{bit_at}
use Rattle.std.proofs.lemmas.Option.{slice_get-map}
use Rattle.std.proofs.lemmas.List.{append-nil}
use Rattle.std.proofs.lemmas.Nat.Bits.{bit_at-pow_same}
use Rattle.pv_ll.specs.declared.table.Symbol.{Symbol}
use Rattle.pv_ll.specs.declared.table.Symbol.TheVariants.{Token, Name}
use Rattle.pv_ll.specs.declared.table.Alternative.{Alternative}
use Rattle.pv_ll.specs.declared.table.Language.{Language}
use Rattle.pv_ll.specs.Grammar.{Production, ◌⟶◌, Derives, IsProduction}
use Rattle.pv_ll.specs.Grammar.Derives.{nothing, token, name}
use Rattle.pv_ll.specs.Table.{grammar_of, production_of, body_of, rule, vanish, next, front}
use Rattle.pv_ll.specs.Facts.{IsLL1, Serves, Selects, IsSubset, Followed, Lives, IsWithin}
use Rattle.pv_ll.specs.Reading.{look}
use Rattle.pv_ll.proofs.Words.{Expansion, inv_name, join}
use Rattle.pv_ll.proofs.Sets.{in_first, in_both, subset_or}

-- an alternative as the production that it is
pub record ServesAs (l : Language) (k n : ℕ) (body : List Symbol) : Type 0 where
  pub alternative : Alternative
  pub selects : Selects l k alternative
  pub named : alternative.name ≡ n
  pub predicted : IsSubset (next l (rule l n).follow body) alternative.when
  pub first : IsSubset (next l 0 body) (rule l n).first
  pub nullable : vanish l body ≡ true → (rule l n).nullable ≡ true
  pub followed : Followed l (rule l n).follow body
  pub falls : front l body < (rule l n).weight
  pub lives : Lives (grammar_of l) body
  pub within : IsWithin l.kinds body

-- the alternative behind a production
pub record Source (l : Language) (alts : List Alternative) (k : ℕ) (p : Production) : Type 0 where
  pub alternative : Alternative
  pub selects : slice_get alts k ≡ Some alternative
  pub is : production_of l alternative ≡ p

pub behind : (l : Language) (alts : List Alternative) (k : ℕ) (p : Production) → slice_get (map (production_of l) alts) k ≡ Some p → Source l alts k p
behind l [] k p e = absurd (cc)
behind l (a ∷ alts) zero p e = record { alternative = a; selects = refl; is = cc }
behind l (a ∷ alts) (suc k) p e = let b = behind l alts k p e in record { alternative = b.alternative; selects = b.selects; is = b.is }

as_production : (l : Language) (k n : ℕ) (body : List Symbol) (a : Alternative) → Selects l k a → a.name ≡ n → body_of l a ≡ body
    → Serves l a → ServesAs l k n body
as_production l k n body a s e f h = record {
  alternative = a;
  selects = s;
  named = e;
  predicted = subst (λ (b : List Symbol). IsSubset (next l (rule l n).follow b) a.when) f
      (subst (λ (m : ℕ). IsSubset (next l (rule l m).follow (body_of l a)) a.when) e h.predicted);
  first = subst (λ (b : List Symbol). IsSubset (next l 0 b) (rule l n).first) f
      (subst (λ (m : ℕ). IsSubset (next l 0 (body_of l a)) (rule l m).first) e h.first);
  nullable = subst (λ (b : List Symbol). vanish l b ≡ true → (rule l n).nullable ≡ true) f
      (subst (λ (m : ℕ). vanish l (body_of l a) ≡ true → (rule l m).nullable ≡ true) e h.nullable);
  followed = subst (λ (b : List Symbol). Followed l (rule l n).follow b) f
      (subst (λ (m : ℕ). Followed l (rule l m).follow (body_of l a)) e h.followed);
  falls = subst (λ (b : List Symbol). front l b < (rule l n).weight) f
      (subst (λ (m : ℕ). front l (body_of l a) < (rule l m).weight) e h.falls);
  lives = subst (λ (b : List Symbol). Lives (grammar_of l) b) f h.lives;
  within = subst (λ (b : List Symbol). IsWithin l.kinds b) f h.within;
}

pub served : {l : Language} → IsLL1 l → {k n : ℕ} {body : List Symbol} → IsProduction (grammar_of l) k n body → ServesAs l k n body
served {l} fits {k} {n} {body} p =
    let b = behind l l.alternatives.now k (n ⟶ body) p in
    as_production l k n body b.alternative b.selects (ap (λ (q : Production). q.name) b.is) (ap (λ (q : Production). q.body) b.is) (fits.serves k b.alternative b.selects)

no_left : (u v : List ℕ) → u ++ v ≡ [] → u ≡ []
no_left [] v e = refl
no_left (x ∷ u) v e = absurd (cc)

no_right : (u v : List ℕ) → u ++ v ≡ [] → v ≡ []
no_right [] v e = e
no_right (x ∷ u) v e = absurd (cc)

both : (a b : Bool) → a ≡ true → b ≡ true → (a && b) ≡ true
both a b e f = rw (e, f) refl

-- what derives no token may vanish
pub vanishes : {l : Language} → IsLL1 l → {ss : List Symbol} {w : List ℕ} → Derives (grammar_of l) ss w → w ≡ [] → vanish l ss ≡ true
vanishes fits nothing e = refl
vanishes fits (token d) e = absurd (cc)
vanishes {l} fits (name {n = n} {ss = ss} {u = u} {v = v} k p d f eq) e =
    both (rule l n).nullable (vanish l ss)
    ((served fits p).nullable (vanishes fits d (no_left u v (sym eq ∙ e))))
    (vanishes fits f (no_right u v (sym eq ∙ e)))

-- what the tokens that a list of symbols derives begin with, where these come behind it
comes_name : (l : Language) (n : ℕ) (ss : List Symbol) (k : ℕ) (body : List Symbol) → ServesAs l k n body → (u v w more : List ℕ) (after : ℕ)
    → w ≡ u ++ v
    → (u ≡ [] → vanish l body ≡ true)
    → ((x : ℕ) → (u ≡ [] → bit_at x (look l.kinds more) ≡ 1) → bit_at (next l x body) (look l.kinds (u ++ more)) ≡ 1)
    → ((v ≡ [] → bit_at after (look l.kinds more) ≡ 1) → bit_at (next l after ss) (look l.kinds (v ++ more)) ≡ 1)
    → (w ≡ [] → bit_at after (look l.kinds more) ≡ 1)
    → bit_at (next l after (Name n ∷ ss)) (look l.kinds (w ++ more)) ≡ 1
comes_name l n ss k body s [] v w more after eq gone own others h =
    let null : (rule l n).nullable ≡ true = s.nullable (gone refl) in
    let there : bit_at (next l after ss) (look l.kinds (v ++ more)) ≡ 1 = others (λ e. h (eq ∙ e)) in
    in_both (rule l n).nullable null (rule l n).first (next l after ss) (look l.kinds (w ++ more)) (subst (λ (z : List ℕ). bit_at (next l after ss) (look l.kinds (z ++ more)) ≡ 1) (sym eq) there)
comes_name l n ss k body s (t ∷ u) v w more after eq gone own others h =
    let there : bit_at (next l 0 body) t ≡ 1 = own 0 (λ e. absurd (cc)) in
    subst (λ (z : List ℕ). bit_at (next l after (Name n ∷ ss)) (look l.kinds (z ++ more)) ≡ 1) (sym eq)
    (in_first (rule l n).nullable (rule l n).first (next l after ss) t (s.first t there))

pub comes : {l : Language} → IsLL1 l → {ss : List Symbol} {w : List ℕ} → Derives (grammar_of l) ss w → (after : ℕ) (more : List ℕ)
    → (w ≡ [] → bit_at after (look l.kinds more) ≡ 1) → bit_at (next l after ss) (look l.kinds (w ++ more)) ≡ 1
comes fits nothing after more h = h refl
comes fits (token {t = t} d) after more h = bit_at-pow_same t
comes {l} fits (name {n = n} {ss = ss} {body = body} {u = u} {v = v} {w = w} k p d f eq) after more h =
    comes_name l n ss k body (served fits p) u v w more after eq (vanishes fits d) (λ x. comes fits d x more) (comes fits f after more) h

-- what a name on the stack does with what comes
pub record Determined (l : Language) (n : ℕ) (ss : List Symbol) (w : List ℕ) : Type 0 where
  pub k : ℕ
  pub body : List Symbol
  pub production : IsProduction (grammar_of l) k n body
  pub served : ServesAs l k n body
  pub takes : bit_at served.alternative.when (look l.kinds w) ≡ 1
  pub derives : Derives (grammar_of l) (body ++ ss) w

-- The next token determines the alternative.
pub determined : {l : Language} → IsLL1 l → (n : ℕ) (ss : List Symbol) (w : List ℕ) → Followed l (2 ^ l.kinds) (Name n ∷ ss)
    → Derives (grammar_of l) (Name n ∷ ss) w → Determined l n ss w
determined {l} fits n ss w h d =
    let x : Expansion (grammar_of l) n ss w = inv_name d in
    let s : ServesAs l x.k n x.body = served fits x.production in
    let behind_it : bit_at (rule l n).follow (look l.kinds x.rest) ≡ 1 =
    h.0 (look l.kinds x.rest)
    (subst (λ (z : List ℕ). bit_at (next l (2 ^ l.kinds) ss) (look l.kinds z) ≡ 1) (append-nil x.rest)
    (comes fits x.others (2 ^ l.kinds) [] (λ e. bit_at-pow_same l.kinds))) in
    let takes_it : bit_at s.alternative.when (look l.kinds (x.own ++ x.rest)) ≡ 1 =
    s.predicted (look l.kinds (x.own ++ x.rest)) (comes fits x.derives (rule l n).follow x.rest (λ e. behind_it)) in
    record {
      k = x.k;
      body = x.body;
      production = x.production;
      served = s;
      takes = subst (λ (z : List ℕ). bit_at s.alternative.when (look l.kinds z) ≡ 1) (sym x.whole) takes_it;
      derives = subst (λ (z : List ℕ). Derives (grammar_of l) (x.body ++ ss) z) (sym x.whole) (join x.derives x.others);
    }

next_append : (l : Language) (before after : ℕ) (ss : List Symbol) → IsSubset (next l before ss) after → (b : List Symbol)
    → IsSubset (next l before (b ++ ss)) (next l after b)
next_append l before after ss h [] = h
next_append l before after ss h (Token t ∷ b) = λ x i. i
next_append l before after ss h (Name n ∷ b) =
    subset_or (rule l n).nullable (rule l n).first (next l before (b ++ ss)) (next l after b) (next_append l before after ss h b)

pub followed_append : (l : Language) (before after : ℕ) (ss : List Symbol) → IsSubset (next l before ss) after → (b : List Symbol)
    → Followed l after b → Followed l before ss → Followed l before (b ++ ss)
followed_append l before after ss h [] f g = g
followed_append l before after ss h (Token t ∷ b) f g = followed_append l before after ss h b f g
followed_append l before after ss h (Name n ∷ b) f g =
    (λ t i. f.0 t (next_append l before after ss h b t i), followed_append l before after ss h b f.1 g)

add_front : (x y : Bool) (w p q r : ℕ) → p ≤ q + cond y r 0 → w + cond x p 0 ≤ (w + cond x q 0) + cond (x && y) r 0
add_front true y w p q r h = omega (arith, h)
add_front false y w p q r h = omega arith

front_append : (l : Language) (b ss : List Symbol) → front l (b ++ ss) ≤ front l b + cond (vanish l b) (front l ss) 0
front_append l [] ss = omega arith
front_append l (Token t ∷ b) ss = omega arith
front_append l (Name n ∷ b) ss =
    add_front (rule l n).nullable (vanish l b) (rule l n).weight (front l (b ++ ss)) (front l b) (front l ss) (front_append l b ss)

less_front : (v x : Bool) (f b s w : ℕ) → (v ≡ true → x ≡ true) → b < w → f ≤ b + cond v s 0 → f < w + cond x s 0
less_front true true f b s w n h i = omega arith
less_front true false f b s w n h i = absurd (cc (n refl))
less_front false x f b s w n h i = omega (arith)

-- A body weighs less than the name that it stands for.
pub front_falls : {l : Language} {k n : ℕ} {body : List Symbol} → ServesAs l k n body → (ss : List Symbol)
    → front l (body ++ ss) < front l (Name n ∷ ss)
front_falls {l} {k} {n} {body} s ss =
    less_front (vanish l body) (rule l n).nullable (front l (body ++ ss)) (front l body) (front l ss) (rule l n).weight
    s.nullable s.falls (front_append l body ss)

-- an alternative is a production
pub production_at : (l : Language) (k n : ℕ) (a : Alternative) → Selects l k a → a.name ≡ n → IsProduction (grammar_of l) k n (body_of l a)
production_at l k n a s e =
    slice_get-map (production_of l) l.alternatives.now k
    ∙ ap (λ (x : Option Alternative). option_map (production_of l) x) s
    ∙ ap (λ (m : ℕ). Some (m ⟶ body_of l a)) e
