-- What leads on: an alternative in place of its name, one way after another, and ways that are kept.
use Rattle.std.proofs.Common.{◌≡◌, ℕ, ◌<◌, List, [], ◌∷◌, ◌++◌, Bool, true, false, map, refl, sym, ap, ◌∙◌, append_assoc, append-nil, subst, arith}
use Rattle.std.specs.Prelude.{reverse, All}
use Rattle.std.proofs.lemmas.List.{reverse-append}
use Rattle.std.proofs.lemmas.List.Elements.{All-nil, All-push}
use Rattle.pv_ll.specs.declared.table.Symbol.{Symbol}
use Rattle.pv_ll.specs.declared.table.Symbol.TheVariants.{Name}
use Rattle.pv_ll.specs.declared.table.Language.{Language}
use Rattle.pv_ll.specs.declared.table.Alternative.{Alternative}
use Rattle.pv_ll.specs.declared.turn.Place.{Place}
use Rattle.pv_ll.specs.declared.turn.Place.TheVariants.{Of}
use Rattle.pv_ll.specs.Table.{body_of}
use Rattle.pv_ll.specs.Facts.{IsLL1}
use Rattle.pv_ll.specs.declared.turn.Turn.{Turn}
use Rattle.pv_ll.specs.Reading.{entered, end_of, Stands, Chosen, NoneFits}
use Rattle.pv_ll.specs.declared.ways.Way.{Way}
use Rattle.pv_ll.specs.Ways.{load, Leads, GoesOn, IsLed, IsWay}
use Rattle.pv_ll.proofs.Stack.{name_step, name_falls}

entered_on : (l : Language) (acts : List Bool) (k : ℕ) (a : Alternative) (ps below : List Place)
    → entered l acts k a ps ++ below ≡ entered l acts k a (ps ++ below)
entered_on l acts k a ps below =
    let body = map (λ (s : Symbol). Of s) (body_of l a) in
    append_assoc body (end_of acts k ++ ps) below ∙ ap (λ (z : List Place). body ++ z) (append_assoc (end_of acts k) ps below)

-- an alternative in place of its name
pub entered_leads : {l : Language} → IsLL1 l → (acts : List Bool) (n kind k : ℕ) → (h : Chosen l n kind k) → (ps : List Place)
    → Leads l acts kind (Of (Name n) ∷ ps) (entered l acts k h.0 ps)
entered_leads {l} fits acts n kind k h ps = record {
  keeps = λ turns read below s. name_step fits acts turns read kind n k h (Of (Name n) ∷ (ps ++ below)) (ps ++ below) (entered l acts k h.0 ps ++ below)
      refl (entered_on l acts k h.0 ps below) s;
  falls = λ below. name_falls fits acts n kind k h (Of (Name n) ∷ (ps ++ below)) (ps ++ below) (entered l acts k h.0 ps ++ below)
      refl (entered_on l acts k h.0 ps below);
}

-- one after another
pub leads_on : (l : Language) (acts : List Bool) (kind : ℕ) (ps qs rs : List Place) → Leads l acts kind ps qs → Leads l acts kind qs rs
    → Leads l acts kind ps rs
leads_on l acts kind ps qs rs h i = record {
  keeps = λ turns read below s. i.keeps turns read below (h.keeps turns read below s);
  falls = λ below. let a = h.falls below in let b = i.falls below in omega (arith, a, b);
}

-- on equal stacks
pub leads_from : (l : Language) (acts : List Bool) (kind : ℕ) (ps qs others all : List Place) → others ≡ ps → all ≡ qs → Leads l acts kind ps qs
    → Leads l acts kind others all
leads_from l acts kind ps qs others all e f h =
    subst (λ (z : List Place). Leads l acts kind z all) (sym e) (subst (λ (z : List Place). Leads l acts kind ps z) (sym f) h)

-- and there is less to be done
pub leads_down : (l : Language) (acts : List Bool) (kind : ℕ) (ps qs : List Place) → Leads l acts kind ps qs → load l qs < load l ps
leads_down l acts kind ps qs h =
    let falls : load l (qs ++ []) < load l (ps ++ []) = h.falls [] in
    subst (λ (z : List Place). load l z < load l ps) (append-nil qs) (subst (λ (z : List Place). load l (qs ++ []) < load l z) (append-nil ps) falls)

-- an alternative in place of a name, as the code has it
pub entered_from : {l : Language} → IsLL1 l → (acts : List Bool) (n kind k : ℕ) → (h : Chosen l n kind k) → (ps old new : List Place)
    → old ≡ Of (Name n) ∷ ps → new ≡ entered l acts k h.0 ps → Leads l acts kind old new
entered_from {l} fits acts n kind k h ps old new e f =
    leads_from l acts kind (Of (Name n) ∷ ps) (entered l acts k h.0 ps) old new e f (entered_leads fits acts n kind k h ps)

-- what was put back lies there as before
pub put_back : (old after : List Place) (place : Place) (ps : List Place) → ps ≡ place ∷ reverse old → after ≡ old ++ place ∷ [] → reverse after ≡ ps
put_back old after place ps e f = ap (λ (z : List Place). reverse z) f ∙ reverse-append old (place ∷ []) ∙ sym e

-- one step more, where the code says that there was one
pub gone_on : (l : Language) (acts : List Bool) (kind : ℕ) (ps qs rs : List Place) (b : Bool) → b ≡ true → Leads l acts kind ps qs
    → GoesOn l acts kind qs rs b → Leads l acts kind ps rs
gone_on l acts kind ps qs rs b e h i =
    leads_on l acts kind ps qs rs h (subst (λ (z : Bool). GoesOn l acts kind qs rs z) e i)

pub went_down : (l : Language) (acts : List Bool) (kind : ℕ) (qs rs : List Place) (b : Bool) → b ≡ true → GoesOn l acts kind qs rs b → load l rs < load l qs
went_down l acts kind qs rs b e i = leads_down l acts kind qs rs (subst (λ (z : Bool). GoesOn l acts kind qs rs z) e i)

-- where it says that there was none
pub stayed : (l : Language) (acts : List Bool) (kind : ℕ) (ps qs rs : List Place) (b : Bool) → b ≡ false → Leads l acts kind ps qs
    → GoesOn l acts kind qs rs b → Leads l acts kind ps rs
stayed l acts kind ps qs rs b e h i =
    let same : rs ≡ qs = subst (λ (z : Bool). GoesOn l acts kind qs rs z) e i in
    subst (λ (z : List Place). Leads l acts kind ps z) (sym same) h

-- one way more
pub one_more : (l : Language) (acts : List Bool) (old new : List Way) (way : Way) → new ≡ old ++ way ∷ [] → All (IsWay l acts) old → IsWay l acts way
    → All (IsWay l acts) new
one_more l acts old new way e h i = subst (λ (z : List Way). All (IsWay l acts) z) (sym e) (All-push (IsWay l acts) old way h i)

-- a way in place of a name
pub led_along : (l : Language) (acts : List Bool) (n kind : ℕ) (old new way : List Place) → new ≡ old ++ way
    → Leads l acts kind (Of (Name n) ∷ []) (reverse way) → IsLed l acts n kind (reverse old) (reverse new) true
led_along l acts n kind old new way e h = (reverse way, h, ap (λ (z : List Place). reverse z) e ∙ reverse-append old way)

pub led_by_one : {l : Language} → IsLL1 l → (acts : List Bool) (n kind k : ℕ) → (h : Chosen l n kind k) → (old new : List Place)
    → new ≡ entered l acts k h.0 old → IsLed l acts n kind old new true
led_by_one {l} fits acts n kind k h old new e =
    (entered l acts k h.0 [], entered_leads fits acts n kind k h [], e ∙ sym (entered_on l acts k h.0 [] old))

-- what the code says of a name that was on top
pub led_stands : (l : Language) (acts : List Bool) (turns : List Turn) (read : List ℕ) (n kind : ℕ) (old ps all : List Place) (b : Bool) → b ≡ true
    → IsLed l acts n kind ps all b → old ≡ Of (Name n) ∷ ps → Stands l acts turns read kind old → Stands l acts turns read kind all
led_stands l acts turns read n kind old ps all b e h f s =
    let led : IsLed l acts n kind ps all true = subst (λ (z : Bool). IsLed l acts n kind ps all z) e h in
    subst (λ (z : List Place). Stands l acts turns read kind z) (sym led.2)
    (led.1.keeps turns read ps (subst (λ (z : List Place). Stands l acts turns read kind z) f s))

pub not_led : (l : Language) (acts : List Bool) (n kind : ℕ) (ps all : List Place) (b : Bool) → b ≡ false → IsLed l acts n kind ps all b → NoneFits l n kind
not_led l acts n kind ps all b e h = subst (λ (z : Bool). IsLed l acts n kind ps all z) e h

-- none was found so far
pub no_ways : (l : Language) (acts : List Bool) (ways : List Way) → ways ≡ [] → All (IsWay l acts) ways
no_ways l acts ways e = subst (λ (z : List Way). All (IsWay l acts) z) (sym e) (All-nil (IsWay l acts))
