-- Laws of what is known of a reader and a writer.
-- `Rattle.std.proofs.KnownBytes` has the laws of `Appends` and `Consumes` (`Appends-trans`, `Consumes-trans`, `Consumes-all`), for
-- loops over std's `Read` and `Write`. `record Prim.Unit has no field ..` at `c.f.ensures.x` means that `f` has no contract at
-- all.
use Rattle.std.proofs.Common.{◌≡◌, ℕ, List, [], ◌∷◌, ◌++◌, length, take, drop, Option, Some, None, IfSome, Bool, true, false, refl, sym, ◌∙◌, ap, subst, arith, append_assoc, append-nil, length-append}
use Rattle.std.proofs.Math.Seq.{take-append_seam}
use Rattle.std.proofs.lemmas.List.{take-append-drop}
use Rattle.std.proofs.KnownBytes.{Appends-trans, Consumes-trans, Consumes-all}
use Rattle.std.specs.Bool.{OnFalse}
use Rattle.std.specs.Io.KnownBytes.{Appends, Consumes, IsAtEnd, Keeps}
use Rattle.pv_edge.specs.Sink.{AppendsPart}

-- a reader that gives nothing more gave all that it had
pub all-read : (n : ℕ) (bytes piece : List ℕ) (a b c : Option (List ℕ)) → Consumes a b bytes → Consumes b c (take n piece) → n ≡ 0 → IsAtEnd c → IfSome a (λ left. bytes ≡ left)
all-read n bytes piece a b c so_far more none end =
    Consumes-all a c (bytes ++ take n piece) [] bytes (Consumes-trans a b c bytes (take n piece) so_far more) end
    (sym (ap (λ k. bytes ++ take k piece) none ∙ append-nil bytes))

-- what a writer took so far
abbrev pub TookFront : List ℕ → List ℕ → Option (List ℕ) → Option (List ℕ) → Type 0
TookFront bytes rest old new = (front : List ℕ) × (bytes ≡ front ++ rest) × Appends old new front

pub took-more : (n : ℕ) (bytes rest left : List ℕ) (old mid new : Option (List ℕ)) → TookFront bytes rest old mid → Appends mid new (take n rest) → left ≡ drop n rest → TookFront bytes left old new
took-more n bytes rest left old mid new so_far more is = (
  so_far.0 ++ take n rest,
  so_far.1 ∙ ap (λ xs. so_far.0 ++ xs) (sym (take-append-drop n rest)) ∙ sym (append_assoc so_far.0 (take n rest) (drop n rest)) ∙ ap (λ xs. (so_far.0 ++ take n rest) ++ xs) (sym is),
  Appends-trans old mid new so_far.0 (take n rest) so_far.2 more,
)

pub took-all : (bytes rest : List ℕ) (old new : Option (List ℕ)) → TookFront bytes rest old new → length rest ≡ 0 → Appends old new bytes
took-all bytes [] old new so_far none = subst (Appends old new) (sym (so_far.1 ∙ append-nil so_far.0)) so_far.2
took-all bytes (x ∷ rest) old new so_far none = absurd (omega (arith, none))

pub took-part : (bytes rest : List ℕ) (old new : Option (List ℕ)) → TookFront bytes rest old new → AppendsPart bytes old new
took-part bytes rest old new so_far =
    let same : take (length so_far.0) bytes ≡ so_far.0 = ap (take (length so_far.0)) so_far.1 ∙ take-append_seam so_far.0 rest in
    (length so_far.0, omega (arith, ap length so_far.1, length-append so_far.0 rest), subst (Appends old new) (sym same) so_far.2)

-- a writer that keeps what it has
pub appends-kept : (front : List ℕ) (old mid new : Option (List ℕ)) → Appends old mid front → Keeps mid new → Appends old new front
appends-kept front None mid new h k = tt
appends-kept front (Some xs) None new h k = absurd h
appends-kept front (Some xs) (Some ys) None h k = absurd k
appends-kept front (Some xs) (Some ys) (Some zs) h k = k ∙ h

pub took-part-kept : (bytes rest : List ℕ) (old mid new : Option (List ℕ)) → TookFront bytes rest old mid → Keeps mid new → AppendsPart bytes old new
took-part-kept bytes rest old mid new so_far k = took-part bytes rest old new (so_far.0, so_far.1, appends-kept so_far.0 old mid new so_far.2 k)

pub took-part-none : (n : ℕ) (bytes rest : List ℕ) (old mid new : Option (List ℕ)) → TookFront bytes rest old mid → Appends mid new (take n rest) → AppendsPart bytes old new
took-part-none n bytes rest old mid new so_far more = took-part bytes (drop n rest) old new (took-more n bytes rest (drop n rest) old mid new so_far more refl)

pub on-false : {P : Type 0} (b : Bool) → P → OnFalse b P
on-false true p = tt
on-false false p = p
