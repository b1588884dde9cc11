-- Derivations, taken apart and put together.
--
-- A derivation is a `data` family over symbols and tokens whose split is an equation (`w ≡ u ++ v`), never an index: then every match
-- works, and recursion on it needs no fuel. To cut a derivation of `a ++ b`, take the symbols as a variable with an equation.
use Rattle.std.proofs.Common.{◌≡◌, ℕ, List, [], ◌∷◌, ◌++◌, refl, ap, ◌∙◌, sym, append_assoc}
use Rattle.pv_ll.specs.declared.table.Symbol.{Symbol}
use Rattle.pv_ll.specs.declared.table.Symbol.TheVariants.{Token, Name}
use Rattle.pv_ll.specs.Grammar.{Grammar, Derives, IsProduction, IsSentence}
use Rattle.pv_ll.specs.Grammar.Derives.{nothing, token, name}
use Rattle.pv_ll.specs.Facts.{Lives}

-- what a name in front does
pub record Expansion (g : Grammar) (n : ℕ) (ss : List Symbol) (w : List ℕ) : Type 0 where
  pub k : ℕ
  pub body : List Symbol
  pub own : List ℕ
  pub rest : List ℕ
  pub production : IsProduction g k n body
  pub derives : Derives g body own
  pub others : Derives g ss rest
  pub whole : w ≡ own ++ rest

pub inv_name : {g : Grammar} {n : ℕ} {ss : List Symbol} {w : List ℕ} → Derives g (Name n ∷ ss) w → Expansion g n ss w
inv_name (name {body = b} {u = u} {v = v} k p d e eq) =
    record { k = k; body = b; own = u; rest = v; production = p; derives = d; others = e; whole = eq }

-- what a token in front does
pub record Shift (g : Grammar) (t : ℕ) (ss : List Symbol) (w : List ℕ) : Type 0 where
  pub rest : List ℕ
  pub others : Derives g ss rest
  pub whole : w ≡ t ∷ rest

pub inv_token : {g : Grammar} {t : ℕ} {ss : List Symbol} {w : List ℕ} → Derives g (Token t ∷ ss) w → Shift g t ss w
inv_token (token {w = w} d) = record { rest = w; others = d; whole = refl }

pub inv_nothing : {g : Grammar} {w : List ℕ} → Derives g [] w → w ≡ []
inv_nothing nothing = refl

pub join : {g : Grammar} {a b : List Symbol} {u v : List ℕ} → Derives g a u → Derives g b v → Derives g (a ++ b) (u ++ v)
join nothing e = e
join (token d) e = token (join d e)
join {v = v} (name {u = x} {v = y} k p d f eq) e =
    name k p d (join f e) (ap (λ z. z ++ v) eq ∙ append_assoc x y v)

-- a derivation of two lists of symbols in a row
pub record Cut (g : Grammar) (a b : List Symbol) (w : List ℕ) : Type 0 where
  pub own : List ℕ
  pub rest : List ℕ
  pub derives : Derives g a own
  pub others : Derives g b rest
  pub whole : w ≡ own ++ rest

cut_token : {g : Grammar} {t : ℕ} {a b : List Symbol} {w v : List ℕ} → Cut g a b v → w ≡ t ∷ v → Cut g (Token t ∷ a) b w
cut_token {t = t} c eq =
    record { own = t ∷ c.own; rest = c.rest; derives = token c.derives; others = c.others; whole = eq ∙ ap (λ z. t ∷ z) c.whole }

cut_name : {g : Grammar} {n : ℕ} (k : ℕ) {body a b : List Symbol} {u v w : List ℕ} → IsProduction g k n body → Derives g body u
    → Cut g a b v → w ≡ u ++ v → Cut g (Name n ∷ a) b w
cut_name k {u = u} p d c eq = record {
  own = u ++ c.own;
  rest = c.rest;
  derives = name k p d c.derives refl;
  others = c.others;
  whole = eq ∙ ap (λ z. u ++ z) c.whole ∙ sym (append_assoc u c.own c.rest);
}

pub cut : {g : Grammar} (a : List Symbol) {b : List Symbol} {w : List ℕ} → Derives g (a ++ b) w → Cut g a b w
cut [] {w = w} d = record { own = []; rest = w; derives = nothing; others = d; whole = refl }
cut (Token t ∷ a) d = let i = inv_token d in cut_token (cut a i.others) i.whole
cut (Name n ∷ a) d = let i = inv_name d in cut_name i.k i.production i.derives (cut a i.others) i.whole

-- a body in place of its name derives what the name derives
pub replaced : {g : Grammar} {n : ℕ} {ss : List Symbol} {w : List ℕ} (k : ℕ) (body : List Symbol) → IsProduction g k n body
    → Derives g (body ++ ss) w → Derives g (Name n ∷ ss) w
replaced k body p d = let c = cut body d in name k p c.derives c.others c.whole

-- symbols that live derive something together
pub record Word (g : Grammar) (ss : List Symbol) : Type 0 where
  pub word : List ℕ
  pub derives : Derives g ss word

word_name : {g : Grammar} {n : ℕ} {ss : List Symbol} {u : List ℕ} → IsSentence g n u → Word g ss → Word g (Name n ∷ ss)
word_name {u = u} d w = record { word = u ++ w.word; derives = join d w.derives }

pub live_word : {g : Grammar} (ss : List Symbol) → Lives g ss → Word g ss
live_word [] h = record { word = []; derives = nothing }
live_word (Token t ∷ ss) h = let w = live_word ss h in record { word = t ∷ w.word; derives = token w.derives }
live_word (Name n ∷ ss) h = word_name h.0.1 (live_word ss h.1)

pub lives_append : (g : Grammar) (a b : List Symbol) → Lives g a → Lives g b → Lives g (a ++ b)
lives_append g [] b h i = i
lives_append g (Token t ∷ a) b h i = lives_append g a b h i
lives_append g (Name n ∷ a) b h i = (h.0, lives_append g a b h.1 i)
