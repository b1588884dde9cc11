-- The cut of two texts with a line feed between them: the pieces of the one and of the other, where white space at the line feed is one.
use Rattle.std.proofs.Common.{◌≡◌, ℕ, ◌+◌, ◌<◌, length, Bool, true, false, not, inl, inr, List, [], ◌∷◌, ◌++◌, Option, Some, None, refl, ap, sym, ◌∙◌, subst, arith, append_assoc, length-append, add-zero, zero-add}
use Rattle.std.proofs.lemmas.List.{map-append}
use Rattle.std.specs.Prelude.{◌&&◌, ◌||◌}
use Rattle.std.specs.List.{list_all}
use Rattle.std.proofs.lemmas.Bool.{false≢true, cases_Bool}
use Rattle.pv_place.specs.declared.place.Place.{Place}
use Rattle.pv_lex.specs.declared.class.Class.TheVariants as c
use Rattle.pv_lex.specs.declared.context.Context.{Context}
use Rattle.pv_lex.specs.declared.fault.FaultKind.{FaultKind}
use Rattle.pv_lex.specs.declared.fault.FaultKind.TheVariants as f
use Rattle.pv_lex.specs.declared.token.Token.{Token}
use Rattle.pv_lex.specs.declared.token.Language.{Language}
use Rattle.pv_lex.specs.declared.token.Kind.{Kind}
use Rattle.pv_lex.specs.declared.token.Kind.TheVariants as k
use Rattle.pv_lex.specs.Classes.{has}
use Rattle.pv_lex.specs.Shapes.{begins}
use Rattle.pv_lex.specs.Tokens.{skip, NoneIsNext, IsOfFault, behind, at_start, Piece, behind_all, IsCut, token_at, tokens_of, tokens_from, CutTo, AreTokens, IsFault}
use Rattle.pv_lex.specs.Lines.{on_next_line, CutFrom, moved_by, moved}
use Rattle.pv_lex.proofs.Scanning.{skipped}
use Rattle.pv_lex.proofs.Headers.{skip-ends}
use Rattle.pv_lex.proofs.Cuts.{cut-front, rest-is}
use Rattle.pv_lex.proofs.Ones.{next-one, nil-none}
use Rattle.pv_lex.proofs.Feeds.{all-append, and_out, feed-off}
use Rattle.pv_lex.proofs.LineEnds.{white-next, next-feed, white-whole, stuck-feed, fault-feed}

-- ---- at the line feed

on-line : (context : Context) (on : Bool) → on ≡ false → record context { on_line = context.on_line && on } ≡ on_next_line context
on-line context on e = ap (λ (v : Bool). record context { on_line = v }) (and_out context.on_line on e)

-- white space with a line feed in it, and what is cut behind it
run-cut : (language : Language) (file at : ℕ) (context : Context) (run left text rest : List ℕ) (back : List Token) (last : Context) (ps :
    List Piece)
    → list_all (has c.Space) run ≡ true → list_all (has c.Inline) run ≡ false → begins c.Space left ≡ false → text ≡ run ++ left
    → IsCut language (on_next_line context) ps left rest
    → back ≡ tokens_from file (at + length run) ps → last ≡ behind_all (on_next_line context) ps
    → CutFrom language file at context text rest back last
run-cut language file at context [] left text rest back last ps white feed off whole cut tokens end = absurd (false≢true (sym feed))
run-cut language file at context (b ∷ run) left text rest back last ps white feed off whole cut tokens end =
    let there : behind context None (b ∷ run) ≡ on_next_line context = on-line context (list_all (has c.Inline) (b ∷ run)) feed in
    record {
      pieces = record { kind = None; bytes = b ∷ run } ∷ ps;
      cut = (
        left,
        whole,
        white-next language context b run left white off,
        subst (λ (d : Context). IsCut language d ps left rest) (sym there) cut,
      );
      tokens_are = tokens;
      last_is = end ∙ ap (λ (d : Context). behind_all d ps) (sym there);
    }

feed-white : (w front : List ℕ) → list_all (has c.Space) w ≡ true → list_all (has c.Space) front ≡ true
    → list_all (has c.Space) (w ++ 10 ∷ front) ≡ true
feed-white w front e g = all-append (has c.Space) w (10 ∷ front) e g

space-stuck : (language : Language) (context : Context) (b : ℕ) (front left rest : List ℕ) → list_all (has c.Space) (b ∷ front) ≡ true
    → begins c.Space left ≡ false → rest ≡ (b ∷ front) ++ left → NoneIsNext language context rest → ⊥
space-stuck language context b front left rest e off is stuck = stuck None (b ∷ front) left is (white-next language context b front left e
    off)

-- white space, a line feed, white space, and what is cut behind it
front-cut : (language : Language) (file at : ℕ) (context : Context) (w front left other rest : List ℕ) (back : List Token) (last :
    Context) (ps : List Piece)
    → list_all (has c.Space) w ≡ true → list_all (has c.Space) front ≡ true → begins c.Space left ≡ false → other ≡ front ++ left
    → IsCut language (on_next_line context) ps other rest
    → back ≡ tokens_from file (at + (length w + 1)) ps → last ≡ behind_all (on_next_line context) ps → NoneIsNext language last rest
    → CutFrom language file at context (w ++ 10 ∷ other) rest back last
front-cut language file at context w [] left other rest back last ps white space off whole cut tokens end stuck =
    run-cut language file at context (w ++ 10 ∷ []) other (w ++ 10 ∷ other) rest back last ps (feed-white w [] white refl) (feed-off w [])
    (ap (begins c.Space) whole ∙ off) (sym (append_assoc w (10 ∷ []) other)) cut
    (tokens ∙ ap (λ (n : ℕ). tokens_from file n ps) (omega (arith, length-append w (10 ∷ [])))) end
front-cut language file at context w (x ∷ front) left other rest back last [] white space off whole cut tokens end stuck =
    absurd (space-stuck language last x front left rest space off (sym cut ∙ whole) stuck)
front-cut language file at context w (x ∷ front) left other rest back last (p ∷ ps) white space off whole cut tokens end stuck =
    let s = next-one language (on_next_line context) p.kind None p.bytes (x ∷ front) cut.0 left (sym cut.1 ∙ whole) cut.2 (white-next
    language (on_next_line context) x front left space off) in
    let run : List ℕ = w ++ 10 ∷ x ∷ front in
    let there : behind (on_next_line context) p.kind p.bytes ≡ on_next_line context = ap (λ (o : Option Kind). behind (on_next_line context)
    o p.bytes) s.0 in
    let n : (at + (length w + 1)) + length p.bytes ≡ at + length run = omega (arith, ap length s.1, length-append w (10 ∷ x ∷ front)) in
    run-cut language file at context run left (w ++ 10 ∷ other) rest back last ps (feed-white w (x ∷ front) white space) (feed-off w (x
    ∷ front)) off
    (ap (λ (t : List ℕ). w ++ 10 ∷ t) whole ∙ sym (append_assoc w (10 ∷ x ∷ front) left))
    (subst (λ (d : Context). IsCut language d ps left rest) there (subst (λ (t : List ℕ). IsCut language (behind (on_next_line context)
    p.kind p.bytes) ps t rest) s.2 cut.3))
    (tokens ∙ ap (λ (o : Option Kind). tokens_of file (at + (length w + 1)) o p.bytes ++ tokens_from file ((at + (length w + 1)) + length
    p.bytes) ps) s.0 ∙ ap (λ (m : ℕ). tokens_from file m ps) n)
    (end ∙ ap (λ (d : Context). behind_all d ps) there)

white-cut : (language : Language) (file at : ℕ) (context : Context) (w other rest : List ℕ) (back : List Token) (last : Context)
    → list_all (has c.Space) w ≡ true
    → CutFrom language file (at + (length w + 1)) (on_next_line context) other rest back last → NoneIsNext language last rest
    → CutFrom language file at context (w ++ 10 ∷ other) rest back last
white-cut language file at context w other rest back last white x stuck =
    let s = skipped c.Space other in
    front-cut language file at context w s.front (skip c.Space other) other rest back last x.pieces white s.passes (skip-ends c.Space
    other) s.whole x.cut x.tokens_are x.last_is stuck

-- ---- piece by piece

nothing-more : (language : Language) (context : Context) (ps : List Piece) (text : List ℕ) → text ≡ []
    → IsCut language context ps text [] → ps ≡ []
nothing-more language context [] text e cut = refl
nothing-more language context (p ∷ ps) text e cut = absurd (nil-none language context p.kind p.bytes cut.0 (sym e ∙ cut.1) cut.2)

-- the text's last piece is white space
end-cut : (language : Language) (file at : ℕ) (context : Context) (p : Piece) (ps : List Piece) (one other rest : List ℕ) (back : List
    Token) (last : Context)
    → list_all (has c.Space) one ≡ true → p.kind ≡ None → ps ≡ []
    → CutFrom language file (at + (length one + 1)) (on_next_line (behind_all context (p ∷ ps))) other rest back last
    → NoneIsNext language last rest
    → CutFrom language file at context (one ++ 10 ∷ other) rest (tokens_from file at (p ∷ ps) ++ back) last
end-cut language file at context p ps one other rest back last white dropped end x stuck =
    let there : on_next_line (behind_all context (p ∷ ps)) ≡ on_next_line context =
    ap (λ (qs : List Piece). on_next_line (behind_all context (p ∷ qs))) end ∙ ap (λ (o : Option Kind). on_next_line (behind context o
    p.bytes)) dropped in
    let none : tokens_from file at (p ∷ ps) ≡ [] =
    ap (λ (qs : List Piece). tokens_from file at (p ∷ qs)) end ∙ ap (λ (o : Option Kind). tokens_of file at o p.bytes ++ []) dropped in
    subst (λ (t : List Token). CutFrom language file at context (one ++ 10 ∷ other) rest (t ++ back) last) (sym none)
    (white-cut language file at context one other rest back last white (subst (λ (d : Context). CutFrom language file (at + (length one
    + 1)) d other rest back last) there x) stuck)

pub join : (language : Language) (file : ℕ) (ps : List Piece) (at : ℕ) (context : Context) (one other rest : List ℕ) (back : List Token)
    (last : Context)
    → IsCut language context ps one []
    → CutFrom language file (at + (length one + 1)) (on_next_line (behind_all context ps)) other rest back last
    → NoneIsNext language last rest
    → CutFrom language file at context (one ++ 10 ∷ other) rest (tokens_from file at ps ++ back) last
join language file [] at context one other rest back last cut x stuck = white-cut language file at context one other rest back last (ap
    (list_all (has c.Space)) cut) x stuck
join language file (p ∷ ps) at context one other rest back last cut x stuck =
    elim (cases_Bool (list_all (has c.Space) (p.bytes ++ cut.0))) [
      | inl on ↦ (let w = white-whole language context p.kind p.bytes cut.0 cut.2 on in
          end-cut language file at context p ps one other rest back last (ap (list_all (has c.Space)) cut.1 ∙ on) w.dropped (nothing-more
          language (behind context p.kind p.bytes) ps cut.0 w.end cut.3) x stuck)
      | inr off ↦ (let n : at + (length one + 1) ≡ (at + length p.bytes) + (length cut.0 + 1) = omega (
        arith,
        ap length cut.1,
        length-append p.bytes cut.0,
      ) in
          let r = join language file ps (at + length p.bytes) (behind context p.kind p.bytes) cut.0 other rest back last cut.3 (subst (λ
          (m : ℕ). CutFrom language file m (on_next_line (behind_all context (p ∷ ps))) other rest back last) n x) stuck in
          record {
            pieces = p ∷ r.pieces;
            cut = (
              cut.0 ++ 10 ∷ other,
              ap (λ (t : List ℕ). t ++ 10 ∷ other) cut.1 ∙ append_assoc p.bytes cut.0 (10 ∷ other),
              next-feed language context p.kind p.bytes cut.0 other cut.2 off,
              r.cut,
            );
            tokens_are = append_assoc (tokens_of file at p.kind p.bytes) (tokens_from file (at + length p.bytes) ps) back
                ∙ ap (λ (t : List Token). tokens_of file at p.kind p.bytes ++ t) r.tokens_are;
            last_is = r.last_is;
          })
    ]

pub join-anywhere : (language : Language) (file at : ℕ) (context middle last : Context) (one other rest : List ℕ) (front back : List Token)
    → CutFrom language file at context one [] front middle
    → CutFrom language file (at + (length one + 1)) (on_next_line middle) other rest back last → NoneIsNext language last rest
    → CutFrom language file at context (one ++ 10 ∷ other) rest (front ++ back) last
join-anywhere language file at context middle last one other rest front back x y stuck =
    let there = subst (λ (d : Context). CutFrom language file (at + (length one + 1)) (on_next_line d) other rest back last) x.last_is y
    in
    subst (λ (t : List Token). CutFrom language file at context (one ++ 10 ∷ other) rest (t ++ back) last) (sym x.tokens_are)
    (join language file x.pieces at context one other rest back last x.cut there stuck)

-- ---- tokens further on

moved-of : (file n at : ℕ) (kind : Option Kind) (bytes : List ℕ)
    → moved n (tokens_of file at kind bytes) ≡ tokens_of file (n + at) kind bytes
moved-of file n at None bytes = refl
moved-of file n at (Some kind) bytes = refl

sums : (n at len : ℕ) → n + (at + len) ≡ (n + at) + len
sums n at len = omega arith

moved-from : (file n at : ℕ) (ps : List Piece) → moved n (tokens_from file at ps) ≡ tokens_from file (n + at) ps
moved-from file n at [] = refl
moved-from file n at (p ∷ ps) =
    map-append (moved_by n) (tokens_of file at p.kind p.bytes) (tokens_from file (at + length p.bytes) ps)
    ∙ ap (λ (t : List Token). moved n (tokens_of file at p.kind p.bytes) ++ t) (moved-from file n (at + length p.bytes) ps
    ∙ ap (λ (m : ℕ). tokens_from file m ps) (sums n at (length p.bytes)))
    ∙ ap (λ (t : List Token). t ++ tokens_from file ((n + at) + length p.bytes) ps) (moved-of file n at p.kind p.bytes)

-- ---- texts

nil : (xs : List ℕ) (n : ℕ) → n + length xs ≡ n → xs ≡ []
nil [] n e = refl
nil (x ∷ xs) n e = absurd (omega (arith, e))

from-to : (language : Language) (file : ℕ) (text : List ℕ) (at : ℕ) (context : Context) (tokens : List Token)
    → (cut : CutTo language file text at context tokens) → CutFrom language file 0 at_start text cut.rest tokens context
from-to language file text at context tokens cut = record {
  pieces = cut.pieces;
  cut = cut.cut;
  tokens_are = cut.tokens_are;
  last_is = cut.context_is;
}

moved-cut : (language : Language) (file n : ℕ) (context : Context) (text rest : List ℕ) (tokens : List Token) (last : Context)
    → CutFrom language file 0 context text rest tokens last → CutFrom language file n context text rest (moved n tokens) last
moved-cut language file n context text rest tokens last x = record {
  pieces = x.pieces;
  cut = x.cut;
  tokens_are = ap (moved n) x.tokens_are ∙ moved-from file n 0 x.pieces ∙ ap (λ (m : ℕ). tokens_from file m x.pieces) (add-zero n);
  last_is = x.last_is;
}

to-from : (language : Language) (file : ℕ) (text rest : List ℕ) (at : ℕ) (context : Context) (tokens : List Token)
    → at + length rest ≡ length text
    → CutFrom language file 0 at_start text rest tokens context → CutTo language file text at context tokens
to-from language file text rest at context tokens e x = record {
  pieces = x.pieces;
  rest = rest;
  cut = x.cut;
  place = e;
  tokens_are = x.tokens_are;
  context_is = x.last_is;
}

both_out : (x y : Bool) → not (x || y) ≡ true → (x ≡ false) × (y ≡ false)
both_out false false e = (refl, refl)
both_out false true e = absurd (false≢true e)
both_out true y e = absurd (false≢true e)

starts-anew : (context : Context) → not (context.in_head || context.joined) ≡ true → on_next_line context ≡ at_start
starts-anew context e =
    let p = both_out context.in_head context.joined e in
    ap (λ (v : Bool). record { in_head = v; on_line = false; joined = context.joined }) p.0
    ∙ ap (λ (v : Bool). record { in_head = false; on_line = false; joined = v }) p.1

-- the second text behind the first one
second : (language : Language) (file : ℕ) (one other rest : List ℕ) (tokens back : List Token) (last : Context)
    → (x : AreTokens language file one tokens) → not (x.context.in_head || x.context.joined) ≡ true
    → CutFrom language file 0 at_start other rest back last → NoneIsNext language last rest
    → CutFrom language file 0 at_start (one ++ 10 ∷ other) rest (x.front ++ moved (length one + 1) back) last
second language file one other rest tokens back last x out y stuck =
    let whole : x.cut.rest ≡ [] = nil x.cut.rest (length one) x.cut.place in
    let first : CutFrom language file 0 at_start one [] x.front x.context = subst (λ (t : List ℕ). CutFrom language file 0 at_start one t
    x.front x.context) whole (from-to language file one (length one) x.context x.front x.cut) in
    let then : CutFrom language file (length one + 1) at_start other rest (moved (length one + 1) back) last = moved-cut language file
    (length one + 1) at_start other rest back last y in
    let there : CutFrom language file (0 + (length one + 1)) (on_next_line x.context) other rest (moved (length one + 1) back) last =
    subst (λ (d : Context). CutFrom language file (0 + (length one + 1)) d other rest (moved (length one + 1) back) last) (sym (starts-anew
    x.context out))
    (subst (λ (m : ℕ). CutFrom language file m at_start other rest (moved (length one + 1) back) last) (sym (zero-add (length one + 1)))
    then) in
    join-anywhere language file 0 at_start x.context last one other rest x.front (moved (length one + 1) back) first there stuck

joined-length : (one other : List ℕ) → length (one ++ 10 ∷ other) ≡ (length one + 1) + length other
joined-length one other = omega (arith, length-append one (10 ∷ other))

pub join-tokens : (language : Language) (file : ℕ) (one other : List ℕ) (tokens others : List Token)
    (x : AreTokens language file one tokens)
    → not (x.context.in_head || x.context.joined) ≡ true
    → AreTokens language file other others
    → AreTokens language file (one ++ 10 ∷ other) (x.front ++ moved (length one + 1) others)
join-tokens language file one other tokens others x out y =
    let whole : y.cut.rest ≡ [] = nil y.cut.rest (length other) y.cut.place in
    let n : ℕ = length one + 1 in
    let cut : CutFrom language file 0 at_start other [] y.front y.context = subst (λ (t : List ℕ). CutFrom language file 0 at_start other t
    y.front y.context) whole (from-to language file other (length other) y.context y.front y.cut) in
    let r = second language file one other [] tokens y.front y.context x out cut (nil-none language y.context) in
    record {
      context = y.context;
      front = x.front ++ moved n y.front;
      cut = to-from language file (one ++ 10 ∷ other) [] (length (one ++ 10 ∷ other)) y.context (x.front ++ moved n y.front) (omega
          arith) r;
      tokens_are = ap (λ (t : List Token). x.front ++ moved n t) y.tokens_are
          ∙ ap (λ (t : List Token). x.front ++ t) (map-append (moved_by n) y.front (token_at file (length other) k.End [] ∷ []))
          ∙ sym (append_assoc x.front (moved n y.front) (token_at file (n + length other) k.End [] ∷ []))
          ∙ ap (λ (m : ℕ). (x.front ++ moved n y.front) ++ token_at file m k.End [] ∷ []) (sym (joined-length one other));
    }

pub join-behind : (language : Language) (file : ℕ) (one other : List ℕ) (tokens : List Token) (kind : FaultKind) (place : Place) (x :
    AreTokens language file one tokens)
    → not (x.context.in_head || x.context.joined) ≡ true → IsFault language file other kind place
    → IsFault language file (one ++ 10 ∷ other) kind (record { file = file; offset = length one + 1 + place.offset })
join-behind language file one other tokens kind place x out y =
    let n : ℕ = length one + 1 in
    let whole : List ℕ = one ++ 10 ∷ other in
    let r = rest-is language file other place.offset y.context y.tokens y.cut in
    let stuck : NoneIsNext language y.context y.cut.rest = subst (NoneIsNext language y.context) (sym r.0) y.stuck in
    let s = second language file one other y.cut.rest tokens y.tokens y.context x out (from-to language file other place.offset y.context
    y.tokens y.cut) stuck in
    let cut : CutTo language file whole (n + place.offset) y.context (x.front ++ moved n y.tokens) = record {
      pieces = s.pieces;
      rest = y.cut.rest;
      cut = s.cut;
      place = omega (arith, y.cut.place, joined-length one other);
      tokens_are = s.tokens_are;
      context_is = s.last_is;
    } in
    let q = rest-is language file whole (n + place.offset) y.context (x.front ++ moved n y.tokens) cut in
    record {
      tokens = x.front ++ moved n y.tokens;
      context = y.context;
      cut = cut;
      within = omega (arith, y.within, joined-length one other);
      stuck = subst (NoneIsNext language y.context) q.0 stuck;
      of_kind = subst (λ (t : List ℕ). IsOfFault language y.context t kind) (sym r.0 ∙ q.0) y.of_kind;
      of_file = refl;
    }

-- ---- a fault of the first text

early : (language : Language) (context : Context) (ps : List Piece) (one rest others : List ℕ) → 0 < length rest
    → IsCut language context ps one rest → IsCut language context ps (one ++ 10 ∷ others) (rest ++ 10 ∷ others)
early language context [] one rest others some cut = ap (λ (t : List ℕ). t ++ 10 ∷ others) cut
early language context (p ∷ ps) one rest others some cut =
    let front = cut-front language (behind context p.kind p.bytes) ps cut.0 rest cut.3 in
    elim (cases_Bool (list_all (has c.Space) (p.bytes ++ cut.0))) [
      | inl on ↦ (let w = white-whole language context p.kind p.bytes cut.0 cut.2 on in
          absurd (omega (arith, ap length w.end, ap length front.whole, length-append front.front rest, some)))
      | inr off ↦ (
        cut.0 ++ 10 ∷ others,
        ap (λ (t : List ℕ). t ++ 10 ∷ others) cut.1 ∙ append_assoc p.bytes cut.0 (10 ∷ others),
        next-feed language context p.kind p.bytes cut.0 others cut.2 off,
        early language (behind context p.kind p.bytes) ps cut.0 rest others some cut.3,
      )
    ]

pub join-before : (language : Language) (file : ℕ) (one other : List ℕ) (kind : FaultKind) (place : Place) → (kind ≡ f.OpenComment → ⊥)
    → IsFault language file one kind place → IsFault language file (one ++ 10 ∷ other) kind place
join-before language file one other kind place off x =
    let r = rest-is language file one place.offset x.context x.tokens x.cut in
    let some : 0 < length x.cut.rest = omega (arith, x.cut.place, x.within) in
    let stuck : NoneIsNext language x.context x.cut.rest = subst (NoneIsNext language x.context) (sym r.0) x.stuck in
    let kind_there : IsOfFault language x.context x.cut.rest kind = subst (λ (t : List ℕ). IsOfFault language x.context t kind) (sym r.0)
    x.of_kind in
    let cut : CutTo language file (one ++ 10 ∷ other) place.offset x.context x.tokens = record {
      pieces = x.cut.pieces;
      rest = x.cut.rest ++ 10 ∷ other;
      cut = early language at_start x.cut.pieces one x.cut.rest other some x.cut.cut;
      place = omega (arith, x.cut.place, length-append x.cut.rest (10 ∷ other), length-append one (10 ∷ other));
      tokens_are = x.cut.tokens_are;
      context_is = x.cut.context_is;
    } in
    let q = rest-is language file (one ++ 10 ∷ other) place.offset x.context x.tokens cut in
    record {
      tokens = x.tokens;
      context = x.context;
      cut = cut;
      within = omega (arith, x.within, length-append one (10 ∷ other));
      stuck = subst (NoneIsNext language x.context) q.0 (stuck-feed language x.context x.cut.rest other kind some stuck kind_there off);
      of_kind = subst (λ (t : List ℕ). IsOfFault language x.context t kind) q.0 (fault-feed language x.context x.cut.rest other kind some
          stuck kind_there off);
      of_file = x.of_file;
    }
