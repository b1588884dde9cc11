-- The limits of a case lie where its rules ask for it.
use Rattle.std.proofs.Common.{◌≡◌, ℕ, ◌≤◌, List, Option, Some, None, sym, subst, arith}
use Rattle.std.proofs.lemmas.Bool.{false≢true}
use Rattle.std.specs.Prelude.{ℤ, pos, int_le, IsTrue, unwrap_or, ◌&&◌, codes}
use Rattle.pv_kind.specs.declared.told.TheConstants.{LAST_QUERY}
use Rattle.pv_case.specs.declared.case.Limits.{Limits}
use Rattle.pv_case.specs.declared.case.TheConstants.{MAX_LEMMAS, MAX_DEPTH, MIN_REGION_WORDS, MAX_REGION_WORDS}
use Rattle.pv_case.specs.Cases.{CaseData, IsCaseText}
use Rattle.pv_case.specs.Members.{integer_at}
use Rattle.pv_case.specs.Fields.{lies}

pub record LieWell (limits : Limits) : Type 0 where
  pub depth : limits.depth ≤ LAST_QUERY
  pub lemmas : 1 ≤ limits.lemmas
  pub words : limits.region_words ≤ 250000000

moved : (n least most : ℕ) (x : ℤ) → pos n ≡ x → IsTrue (int_le (pos least) x && int_le x (pos most))
    → IsTrue (int_le (pos least) (pos n) && int_le (pos n) (pos most))
moved n least most x is h = subst (λ (y : ℤ). IsTrue (int_le (pos least) y && int_le y (pos most))) (sym is) h

pub at_most : (n least most : ℕ) (o : Option ℤ) → pos n ≡ unwrap_or o (pos 0) → IsTrue (lies (pos least) (pos most) o) → n ≤ most
at_most n least most None is h = absurd (false≢true h)
at_most n least most (Some x) is h = (let k = moved n least most x is h in grind (arith, k))

pub at_least : (n least most : ℕ) (o : Option ℤ) → pos n ≡ unwrap_or o (pos 0) → IsTrue (lies (pos least) (pos most) o) → least ≤ n
at_least n least most None is h = absurd (false≢true h)
at_least n least most (Some x) is h = (let k = moved n least most x is h in grind (arith, k))

pub lie_well : (bytes : List ℕ) (case : CaseData) → IsCaseText bytes case → LieWell case.limits
lie_well bytes case text =
    let d = text.value in
    let limits = text.keeps.1.1.1.1.0 in
    let says = text.says.limits in
    record {
      depth = at_most case.limits.depth 0 MAX_DEPTH (integer_at d (codes "depth")) says.depth limits.1.0.1.1;
      lemmas = at_least case.limits.lemmas 1 MAX_LEMMAS (integer_at d (codes "lemmas")) says.lemmas limits.1.1.0.1.1;
      words = at_most case.limits.region_words MIN_REGION_WORDS MAX_REGION_WORDS (integer_at d (codes "regionWords")) says.region_words limits.1.1.1.1.1;
    }
