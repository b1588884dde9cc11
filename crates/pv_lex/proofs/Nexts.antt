-- The stretch that is found is the longest one of all kinds, and of one length the first.
use Rattle.std.proofs.Common.{◌≡◌, ℕ, ◌+◌, ◌*◌, ◌<◌, ◌≤◌, length, nat_le, Bool, true, false, cond, inl, inr, List, ◌++◌, Option, Some, None, refl, ap, sym, ◌∙◌, subst, arith, lit≤}
use Rattle.std.proofs.lemmas.Bool.{cases_Bool}
use Rattle.std.proofs.lemmas.Bool.Decides.{nat_tests}
use Rattle.pv_lex.specs.declared.context.Context.{Context}
use Rattle.pv_lex.specs.declared.stretch.Stretch.{Stretch}
use Rattle.pv_lex.specs.declared.token.Language.{Language}
use Rattle.pv_lex.specs.declared.token.Kind.{Kind}
use Rattle.pv_lex.specs.declared.token.Kind.TheVariants as k
use Rattle.pv_lex.specs.Shapes.{dropped, word, quoted, address, typed_number, plain_number, real, signs}
use Rattle.pv_lex.specs.Tokens.{IsStretch, rank}
use Rattle.pv_lex.specs.Scans.{scan, past_header, stretch, better, letter_stretch, digit_stretch, sign_stretch}
use Rattle.pv_lex.proofs.Scanning.{found}
use Rattle.pv_lex.proofs.Within.{le_of}
use Rattle.pv_lex.proofs.Headers.{header-found}

-- ---- candidates

pub rank-low : (kind : Option Kind) → rank kind ≤ 7
rank-low None = lit≤ tt
rank-low (Some k.Address) = lit≤ tt
rank-low (Some k.Word) = lit≤ tt
rank-low (Some k.Quoted) = lit≤ tt
rank-low (Some k.Number) = lit≤ tt
rank-low (Some k.Real) = lit≤ tt
rank-low (Some k.Sign) = lit≤ tt
rank-low (Some k.End) = lit≤ tt

-- what is found leaves no more than this, and if as much is of no later kind
pub record AtMost (result : Option Stretch) (kind : Option Kind) (left : ℕ) : Type 0 where
  pub s : Stretch
  pub is : result ≡ Some s
  pub least : s.left * 8 + rank s.kind ≤ left * 8 + rank kind

lt_of : (a b : ℕ) → nat_le a b ≡ false → b < a
lt_of a b off = grind (arith, nat_tests)

pub better-here : (kind : Option Kind) (r : Option (List ℕ)) (other : Option Stretch) (rest : List ℕ) (left : ℕ) → r ≡ Some rest
    → length rest ≤ left → AtMost (better kind r other) kind left
better-here kind r None rest left e h = record {
  s = stretch kind rest;
  is = ap (λ (o : Option (List ℕ)). better kind o None) e;
  least =
      omega arith;
}
better-here kind r (Some o) rest left e h =
    elim (cases_Bool (nat_le (length rest) o.left)) [
      | inl on ↦ record {
        s = stretch kind rest;
        is = ap (λ (x : Option (List ℕ)). better kind x (Some o)) e ∙ ap (λ (v : Bool). cond v (Some (stretch kind rest)) (Some o)) on;
        least = omega arith;
      }
      | inr off ↦ record {
        s = o;
        is = ap (λ (x : Option (List ℕ)). better kind x (Some o)) e ∙ ap (λ (v : Bool). cond v (Some (stretch kind rest)) (Some o)) off;
        least = omega (arith, lt_of (length rest) o.left off, rank-low o.kind);
      }
    ]

abbrev pub OfRank : ℕ → Option Stretch → Type 0
OfRank n None = Unit {0}
OfRank n (Some s) = n ≤ rank s.kind

rank-choice : (n : ℕ) (v : Bool) (a b : Stretch) → n ≤ rank a.kind → n ≤ rank b.kind → OfRank n (cond v (Some a) (Some b))
rank-choice n true a b h g = h
rank-choice n false a b h g = g

pub better-rank : (n : ℕ) (kind : Option Kind) (r : Option (List ℕ)) (other : Option Stretch) → n ≤ rank kind → OfRank n other
    → OfRank n (better kind r other)
better-rank n kind None other h g = g
better-rank n kind (Some rest) None h g = h
better-rank n kind (Some rest) (Some o) h g = rank-choice n (nat_le (length rest) o.left) (stretch kind rest) o h g

pub better-behind : (kind : Option Kind) (r : Option (List ℕ)) (other : Option Stretch) (sought : Option Kind) (left : ℕ)
    → OfRank (rank kind) other → AtMost other sought left
    → AtMost (better kind r other) sought left
better-behind kind None other sought left g w = w
better-behind kind (Some rest) other sought left g w =
    let same : better kind (Some rest) other ≡ better kind (Some rest) (Some w.s) = ap (better kind (Some rest)) w.is in
    let low : rank kind ≤ rank w.s.kind = subst (OfRank (rank kind)) w.is g in
    elim (cases_Bool (nat_le (length rest) w.s.left)) [
      | inl on ↦ record {
        s = stretch kind rest;
        is = same ∙ ap (λ (v : Bool). cond v (Some (stretch kind rest)) (Some w.s)) on;
        least = omega (arith, le_of (length rest) w.s.left on, low, w.least);
      }
      | inr off ↦ record { s = w.s; is = same ∙ ap (λ (v : Bool). cond v (Some (stretch kind rest)) (Some w.s)) off; least = w.least }
    ]

-- ---- what is found is a stretch

pub record FoundStretch (language : Language) (context : Context) (text : List ℕ) (s : Stretch) : Type 0 where
  pub bytes : List ℕ
  pub rest : List ℕ
  pub whole : text ≡ bytes ++ rest
  pub left_is : length rest ≡ s.left
  pub of_kind : IsStretch language context s.kind bytes

record Spelled (language : Language) (context : Context) (text : List ℕ) (kind : Option Kind) (rest : List ℕ) : Type 0 where
  bytes : List ℕ
  whole : text ≡ bytes ++ rest
  of_kind : IsStretch language context kind bytes

taken_by : (language : Language) (context : Context) (text : List ℕ) (kind : Option Kind) (rest : List ℕ) (s : Stretch)
    → stretch kind rest ≡ s
    → Spelled language context text kind rest → FoundStretch language context text s
taken_by language context text kind rest s e x = subst (FoundStretch language context text) e (record {
  bytes = x.bytes;
  rest = rest;
  whole
      = x.whole;
  left_is = refl;
  of_kind = x.of_kind;
})

pub some_stretch : (a b : Stretch) → Some a ≡ Some b → a ≡ b
some_stretch a b e = cc

pub no_stretch : (a : Stretch) → ◌≡◌ {A = Option Stretch} None (Some a) → ⊥
no_stretch a e = cc

taken : (language : Language) (context : Context) (text : List ℕ) (kind : Option Kind) (r : Option (List ℕ)) (other : Option Stretch)
    → ((rest : List ℕ) → r ≡ Some rest → Spelled language context text kind rest) → ((s : Stretch) → other ≡ Some s
    → FoundStretch language context text s)
    → (s : Stretch) → better kind r other ≡ Some s → FoundStretch language context text s
taken language context text kind None other here behind s e = behind s e
taken language context text kind (Some rest) None here behind s e = taken_by language context text kind rest s (some_stretch (stretch kind
    rest) s e) (here rest refl)
taken language context text kind (Some rest) (Some o) here behind s e =
    elim (cases_Bool (nat_le (length rest) o.left)) [
      | inl on ↦ taken_by language context text kind rest s (some_stretch (stretch kind rest) s (sym (ap (λ (v : Bool). cond v (Some
          (stretch kind rest)) (Some o)) on) ∙ e)) (here rest refl)
      | inr off ↦ behind s (sym (ap (λ (v : Bool). cond v (Some (stretch kind rest)) (Some o)) off) ∙ e)
    ]

nothing : (language : Language) (context : Context) (text : List ℕ) (s : Stretch) → None ≡ Some s → FoundStretch language context text s
nothing language context text s e = absurd (no_stretch s e)

pub letter-found : (language : Language) (context : Context) (text : List ℕ) (s : Stretch)
    → letter_stretch language context text ≡ Some s → FoundStretch language context text s
unfolding letter_stretch
letter-found language context text s e =
    taken language context text None (past_header language context text) _
    (λ rest h. let f = header-found language context text rest h in record { bytes = f.bytes; whole = f.whole; of_kind = inr f.header })
    (taken language context text (Some k.Address) (scan address text) _
    (λ rest h. let f = found address text rest h in record { bytes = f.bytes; whole = f.whole; of_kind = f.spells })
    (taken language context text (Some k.Word) (scan word text) _
    (λ rest h. let f = found word text rest h in record { bytes = f.bytes; whole = f.whole; of_kind = f.spells })
    (taken language context text (Some k.Number) (scan typed_number text) None
    (λ rest h. let f = found typed_number text rest h in record { bytes = f.bytes; whole = f.whole; of_kind = inr f.spells })
    (nothing language context text))))
    s e

pub digit-found : (language : Language) (context : Context) (text : List ℕ) (s : Stretch) → digit_stretch text ≡ Some s
    → FoundStretch language context text s
unfolding digit_stretch
digit-found language context text s e =
    taken language context text (Some k.Number) (scan plain_number text) _
    (λ rest h. let f = found plain_number text rest h in record { bytes = f.bytes; whole = f.whole; of_kind = inl f.spells })
    (taken language context text (Some k.Real) (scan real text) None
    (λ rest h. let f = found real text rest h in record { bytes = f.bytes; whole = f.whole; of_kind = f.spells })
    (nothing language context text))
    s e

pub sign-found : (language : Language) (context : Context) (text : List ℕ) (s : Stretch) → sign_stretch language text ≡ Some s
    → FoundStretch language context text s
unfolding sign_stretch
sign-found language context text s e =
    taken language context text None (scan dropped text) _
    (λ rest h. let f = found dropped text rest h in record { bytes = f.bytes; whole = f.whole; of_kind = inl f.spells })
    (taken language context text (Some k.Address) (scan address text) _
    (λ rest h. let f = found address text rest h in record { bytes = f.bytes; whole = f.whole; of_kind = f.spells })
    (taken language context text (Some k.Quoted) (scan quoted text) _
    (λ rest h. let f = found quoted text rest h in record { bytes = f.bytes; whole = f.whole; of_kind = f.spells })
    (taken language context text (Some k.Sign) (scan (signs language) text) None
    (λ rest h. let f = found (signs language) text rest h in record { bytes = f.bytes; whole = f.whole; of_kind = f.spells })
    (nothing language context text))))
    s e
