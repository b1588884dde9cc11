-- The steps of the machine keep what its stack stands for.
--
-- The loop's invariant says what the stack stands for, for every front that was read (`Stands`, `StandsFor`: of the symbols of its
-- places `Awaits`, of what the places tell `Retells`), and each helper's clause
-- maps `Stands` of the old stack to one of the new: an answer is then one call of a lemma.
-- In the arms of a `match` on a call's result the clause is `c.in_ok-x.ensures` at the value; carry it to the variant by a lemma that is
-- one `subst`. Arms merged by `|` make a `⊎`: write one arm a variant. A loop over `iter().rev()` that pushes `f(x)` left its goal open;
-- `for i in 0..count` with `body[count - 1 - i]` and the invariant on `drop (count - i)` needed no answer.
-- A definition's constructor name can't be a pattern variable where it is imported (`token`): call the variable `kind`.
use Rattle.std.proofs.Common.{◌≡◌, ℕ, ◌+◌, ◌*◌, ◌<◌, ◌≤◌, ◌^◌, Bool, true, false, List, [], ◌∷◌, ◌++◌, length, map, get_or, Option, refl, ap, ◌∙◌, sym, append_assoc, subst, arith}
use Rattle.std.specs.Prelude.{if◌then◌else◌, reverse}
use Rattle.std.proofs.lemmas.List.{reverse-append}
use Rattle.std.specs.Option.{option_map_or}
use Rattle.std.specs.Int.{bit_at}
use Rattle.pv_ll.specs.declared.table.Symbol.{Symbol}
use Rattle.pv_ll.specs.declared.table.Symbol.TheVariants.{Token, Name}
use Rattle.pv_ll.specs.declared.table.Alternative.{Alternative}
use Rattle.pv_ll.specs.declared.table.Language.{Language}
use Rattle.pv_ll.specs.declared.turn.Turn.{Turn}
use Rattle.pv_ll.specs.declared.turn.Turn.TheVariants as turn
use Rattle.pv_ll.specs.declared.turn.Place.{Place}
use Rattle.pv_ll.specs.declared.turn.Place.TheVariants.{Of, Behind}
use Rattle.pv_ll.specs.Grammar.{Production, Derives, IsProduction}
use Rattle.pv_ll.specs.Grammar.Derives.{token}
use Rattle.pv_ll.specs.Table.{grammar_of, body_of, rule, front}
use Rattle.pv_ll.specs.Facts.{IsLL1, Selects}
use Rattle.pv_ll.specs.Turns.{acts_at}
use Rattle.pv_ll.specs.Reading.{look, IsText, symbols_of, ends_in, end_of, entered, Awaits, Stands, StandsFor, IsStuck, Chosen, NoneFits}
use Rattle.pv_ll.specs.Ways.{load}
use Rattle.pv_ll.proofs.Words.{Shift, inv_token, inv_nothing, replaced, lives_append}
use Rattle.pv_ll.proofs.Steps.{ServesAs, Determined, served, determined, followed_append, production_at, front_falls}
use Rattle.pv_ll.proofs.Telling.{retells_name, retells_token, retells_end}
use Rattle.std.proofs.lemmas.Option.{slice_get_within, get_or_from_slice_get}

-- a chosen alternative is the one that the next token determines
pub same_alternative : {l : Language} → IsLL1 l → (n kind k : ℕ) (a : Alternative) → Selects l k a → a.name ≡ n → bit_at a.when kind ≡ 1
    → (ss : List Symbol) (w : List ℕ) → (d : Determined l n ss w) → look l.kinds w ≡ kind → Derives (grammar_of l) (body_of l a ++ ss) w
same_alternative {l} fits n kind k a s e b ss w d h =
    let j : d.k ≡ k = fits.apart d.k k d.served.alternative a d.served.selects s (d.served.named ∙ sym e) kind
    (subst (λ (t : ℕ). bit_at d.served.alternative.when t ≡ 1) h d.takes) b in
    let p : IsProduction (grammar_of l) k n d.body = subst (λ (i : ℕ). IsProduction (grammar_of l) i n d.body) j d.production in
    let q : IsProduction (grammar_of l) k n (body_of l a) = production_at l k n a s e in
    let same : d.body ≡ body_of l a = ap (λ (o : Option Production). option_map_or (λ (x : Production). x.body) o d.body) (sym p ∙ q) in
    subst (λ (z : List Symbol). Derives (grammar_of l) (z ++ ss) w) same d.derives

-- The machine puts a body in place of a name.
expanded : {l : Language} → IsLL1 l → (read : List ℕ) (kind n k : ℕ) (a : Alternative) → Selects l k a → a.name ≡ n → bit_at a.when kind ≡ 1
    → (ss : List Symbol) → Awaits l read kind (Name n ∷ ss) → Awaits l read kind (body_of l a ++ ss)
expanded {l} fits read kind n k a s e b ss h =
    let p : IsProduction (grammar_of l) k n (body_of l a) = production_at l k n a s e in
    let serves : ServesAs l k n (body_of l a) = served fits p in
    record {
      gives = λ w d. h.gives w (replaced k (body_of l a) p d);
      only = λ w next_is t. same_alternative fits n kind k a s e b ss w (determined fits n ss w h.followed (h.only w next_is t)) next_is;
      followed = followed_append l (2 ^ l.kinds) (rule l n).follow ss h.followed.0 (body_of l a) serves.followed h.followed.1;
      lives = lives_append (grammar_of l) (body_of l a) ss serves.lives h.lives.1;
    }

-- No alternative fits, so no text goes on.
pub stuck_name : {l : Language} → IsLL1 l → (read : List ℕ) (kind n : ℕ) (ss : List Symbol) → NoneFits l n kind
    → Awaits l read kind (Name n ∷ ss) → IsStuck l read kind
stuck_name {l} fits read kind n ss none h w next_is t =
    let d : Determined l n ss w = determined fits n ss w h.followed (h.only w next_is t) in
    none d.k d.served.alternative d.served.selects d.served.named (subst (λ (x : ℕ). bit_at d.served.alternative.when x ≡ 1) next_is d.takes)

-- The token that is expected comes.
shifted : (l : Language) (read : List ℕ) (t : ℕ) (ss : List Symbol) → Awaits l read t (Token t ∷ ss) → (kind : ℕ) → Awaits l (read ++ t ∷ []) kind ss
shifted l read t ss h kind = record {
  gives = λ w d. subst (λ (z : List ℕ). IsText l z) (sym (append_assoc read (t ∷ []) w)) (h.gives (t ∷ w) (token d));
  only = λ w next_is i.
      let s : Shift (grammar_of l) t ss (t ∷ w) = inv_token (h.only (t ∷ w) refl (subst (λ (z : List ℕ). IsText l z) (append_assoc read (t ∷ []) w) i)) in
      let same : s.rest ≡ w = cc (s.whole) in
      subst (λ (z : List ℕ). Derives (grammar_of l) ss z) same s.others;
  followed = h.followed;
  lives = h.lives;
}

-- Another token than the expected comes, or the end: no text goes on.
pub stuck_token : (l : Language) (read : List ℕ) (kind t : ℕ) (ss : List Symbol) → (t ≡ kind → ⊥) → Awaits l read kind (Token t ∷ ss) → IsStuck l read kind
stuck_token l read kind t ss ne h w next_is i =
    let s : Shift (grammar_of l) t ss w = inv_token (h.only w next_is i) in
    ne (sym (ap (λ (z : List ℕ). look l.kinds z) s.whole) ∙ next_is)

-- A token comes where the text is whole: no text goes on.
pub stuck_end : (l : Language) (read : List ℕ) (t : ℕ) → Awaits l read t [] → (w : List ℕ) → IsText l (read ++ t ∷ w) → ⊥
stuck_end l read t h w i = let e : t ∷ w ≡ [] = inv_nothing (h.only (t ∷ w) refl i) in absurd (cc)

-- ---- the stack of places

-- the symbols of an alternative that is entered
symbols_on : (ss : List Symbol) (ps : List Place) → symbols_of (map (λ (s : Symbol). Of s) ss ++ ps) ≡ ss ++ symbols_of ps
symbols_on [] ps = refl
symbols_on (s ∷ ss) ps = ap (λ (z : List Symbol). s ∷ z) (symbols_on ss ps)

no_symbols : (b : Bool) (k : ℕ) (ps : List Place) → symbols_of ((if b then Behind k ∷ [] else []) ++ ps) ≡ symbols_of ps
no_symbols true k ps = refl
no_symbols false k ps = refl

entered_symbols : (l : Language) (acts : List Bool) (k : ℕ) (a : Alternative) (ps : List Place)
    → symbols_of (entered l acts k a ps) ≡ body_of l a ++ symbols_of ps
entered_symbols l acts k a ps =
    symbols_on (body_of l a) (end_of acts k ++ ps) ∙ ap (λ (z : List Symbol). body_of l a ++ z) (no_symbols (acts_at acts k) k ps)

-- and its end
ends_on : (ss : List Symbol) (ps : List Place) → ends_in (map (λ (s : Symbol). Of s) ss ++ ps) ≡ ends_in ps
ends_on [] ps = refl
ends_on (s ∷ ss) ps = ends_on ss ps

one_end : (b : Bool) (k : ℕ) (ps : List Place) → ends_in ((if b then Behind k ∷ [] else []) ++ ps) ≤ ends_in ps + 1
one_end true k ps = omega arith
one_end false k ps = omega arith

entered_ends : (l : Language) (acts : List Bool) (k : ℕ) (a : Alternative) (ps : List Place) → ends_in (entered l acts k a ps) ≤ ends_in ps + 1
entered_ends l acts k a ps =
    let e : ends_in (entered l acts k a ps) ≡ ends_in (end_of acts k ++ ps) = ends_on (body_of l a) (end_of acts k ++ ps) in
    let f : ends_in (end_of acts k ++ ps) ≤ ends_in ps + 1 = one_end (acts_at acts k) k ps in
    omega (arith, e, f)

-- what is put on the stack for an alternative, as the code has it: its end where it acts
pub end_put : (acts : List Bool) (k : ℕ) (old after : List Place) → acts_at acts k ≡ true → after ≡ old ++ Behind k ∷ []
    → reverse after ≡ end_of acts k ++ reverse old
end_put acts k old after e f =
    ap (λ (z : List Place). reverse z) f ∙ reverse-append old (Behind k ∷ [])
    ∙ sym (ap (λ (b : Bool). (if b then Behind k ∷ [] else []) ++ reverse old) e)

pub no_end_put : (acts : List Bool) (k : ℕ) (old after : List Place) → acts_at acts k ≡ false → after ≡ old
    → reverse after ≡ end_of acts k ++ reverse old
no_end_put acts k old after e f =
    ap (λ (z : List Place). reverse z) f ∙ sym (ap (λ (b : Bool). (if b then Behind k ∷ [] else []) ++ reverse old) e)

-- and its symbols before that
pub body_put : (l : Language) (acts : List Bool) (k : ℕ) (a d : Alternative) → Selects l k a → (ss : List Symbol) (old mid new : List Place)
    → ss ≡ body_of l (get_or l.alternatives.now k d) → mid ≡ end_of acts k ++ old → new ≡ map (λ (s : Symbol). Of s) ss ++ mid
    → new ≡ entered l acts k a old
body_put l acts k a d h ss old mid new e f g =
    let body_is : ss ≡ body_of l a = e ∙ ap (λ (x : Alternative). body_of l x) (get_or_from_slice_get l.alternatives.now k a d h) in
    g ∙ ap (λ (z : List Symbol). map (λ (s : Symbol). Of s) z ++ mid) body_is ∙ ap (λ (z : List Place). map (λ (s : Symbol). Of s) (body_of l a) ++ z) f

-- what is on top, as the code has it
pub top_symbol : (old new : List Place) (x : Place) (s t : Symbol) → old ≡ x ∷ new → x ≡ Of s → s ≡ t → old ≡ Of t ∷ new
top_symbol old new x s t e f g = e ∙ ap (λ (z : Place). z ∷ new) (f ∙ ap (λ (z : Symbol). Of z) g)

pub top_end : (old new : List Place) (x : Place) (k : ℕ) → old ≡ x ∷ new → x ≡ Behind k → old ≡ Behind k ∷ new
top_end old new x k e f = e ∙ ap (λ (z : Place). z ∷ new) f

-- the same of an equal stack
pub on_places : (l : Language) (acts : List Bool) (turns : List Turn) (read : List ℕ) (kind : ℕ) (old new : List Place) → old ≡ new
    → Stands l acts turns read kind old → Stands l acts turns read kind new
on_places l acts turns read kind old new e h = subst (λ (z : List Place). Stands l acts turns read kind z) e h

-- a name on top, as the code has it: its alternative is put in its place
pub name_step : {l : Language} → IsLL1 l → (acts : List Bool) (turns : List Turn) (read : List ℕ) (kind n k : ℕ) → (h : Chosen l n kind k)
    → (old ps new : List Place) → old ≡ Of (Name n) ∷ ps → new ≡ entered l acts k h.0 ps
    → Stands l acts turns read kind old → Stands l acts turns read kind new
name_step {l} fits acts turns read kind n k h old ps new e f s =
    let at : Stands l acts turns read kind (Of (Name n) ∷ ps) = on_places l acts turns read kind old (Of (Name n) ∷ ps) e s in
    on_places l acts turns read kind (entered l acts k h.0 ps) new (sym f) (record {
      awaits = subst (λ (z : List Symbol). Awaits l read kind z) (sym (entered_symbols l acts k h.0 ps))
          (expanded fits read kind n k h.0 h.1 h.2 h.3 (symbols_of ps) at.awaits);
      retells = retells_name l acts turns read n k (body_of l h.0) ps (production_at l k n h.0 h.1 h.2) at.retells;
    })

-- an end on top: its alternative is left
pub end_step : (l : Language) (acts : List Bool) (turns later : List Turn) (read : List ℕ) (kind k : ℕ) (old ps : List Place) → old ≡ Behind k ∷ ps
    → later ≡ turns ++ turn.Leave k ∷ [] → Stands l acts turns read kind old → Stands l acts later read kind ps
end_step l acts turns later read kind k old ps e f s =
    let at : Stands l acts turns read kind (Behind k ∷ ps) = on_places l acts turns read kind old (Behind k ∷ ps) e s in
    subst (λ (z : List Turn). Stands l acts z read kind ps) (sym f)
    (record { awaits = at.awaits; retells = retells_end l acts turns read k ps at.retells })

-- a token on top that comes is passed
pub token_step : (l : Language) (acts : List Bool) (turns later : List Turn) (read : List ℕ) (t : ℕ) (ps : List Place) → later ≡ turns ++ turn.Pass ∷ []
    → Stands l acts turns read t (Of (Token t) ∷ ps) → StandsFor l acts later (read ++ t ∷ []) ps
token_step l acts turns later read t ps e h kind =
    subst (λ (z : List Turn). Stands l acts z (read ++ t ∷ []) kind ps) (sym e)
    (record { awaits = shifted l read t (symbols_of ps) h.awaits kind; retells = retells_token l acts turns read t ps h.retells })

-- ---- that it ends

lighter : (a b c d : ℕ) → a < b → c ≤ d + 1 → 2 * a + c < 2 * b + d
lighter a b c d h i = omega (arith, h, i)

pub name_falls : {l : Language} → IsLL1 l → (acts : List Bool) (n kind k : ℕ) → (h : Chosen l n kind k) → (old ps new : List Place)
    → old ≡ Of (Name n) ∷ ps → new ≡ entered l acts k h.0 ps → load l new < load l old
name_falls {l} fits acts n kind k h old ps new e f =
    let falls : front l (body_of l h.0 ++ symbols_of ps) < front l (Name n ∷ symbols_of ps) =
    front_falls (served fits (production_at l k n h.0 h.1 h.2)) (symbols_of ps) in
    let less : front l (symbols_of (entered l acts k h.0 ps)) < front l (Name n ∷ symbols_of ps) =
    subst (λ (z : List Symbol). front l z < front l (Name n ∷ symbols_of ps)) (sym (entered_symbols l acts k h.0 ps)) falls in
    let all : load l (entered l acts k h.0 ps) < load l (Of (Name n) ∷ ps) =
    lighter (front l (symbols_of (entered l acts k h.0 ps))) (front l (Name n ∷ symbols_of ps)) (ends_in (entered l acts k h.0 ps)) (ends_in ps)
    less (entered_ends l acts k h.0 ps) in
    subst (λ (z : List Place). load l new < load l z) (sym e) (subst (λ (z : List Place). load l z < load l (Of (Name n) ∷ ps)) (sym f) all)

pub end_falls : (l : Language) (k : ℕ) (old ps : List Place) → old ≡ Behind k ∷ ps → load l ps < load l old
end_falls l k old ps e =
    let all : load l ps < load l (Behind k ∷ ps) = omega arith in
    subst (λ (z : List Place). load l ps < load l z) (sym e) all

-- what the code reads at a chosen place
pub chosen_within : (l : Language) (n kind k : ℕ) → Chosen l n kind k → k < length l.alternatives.now
chosen_within l n kind k h = slice_get_within l.alternatives.now k h.0 h.1
