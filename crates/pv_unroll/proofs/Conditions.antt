-- What is unrolled meets the conditions, and what is answered by its sizes.
use Rattle.std.proofs.Common.{◌≡◌, ℕ, ◌<◌, ◌≤◌, min, Option, None, Result, Ok, Err, IfOk, IfErr, refl, sym, subst, ◌∙◌, arith}
use Rattle.std.proofs.lemmas.Bool.{both_ways}
use Rattle.pv_machine.specs.Same.{IsSame}
use Rattle.pv_flow.specs.declared.parts.Parts.{Parts as CodeParts}
use Rattle.pv_flow.specs.declared.inlined_machine.Inlined.{Inlined}
use Rattle.pv_flow.specs.declared.acyclic_machine.Acyclic.{Acyclic}
use Rattle.pv_flow.specs.declared.fault.FlowFault.{FlowFault}
use Rattle.pv_flow.specs.declared.fault.FlowFault.TheVariants as flow
use Rattle.pv_flow.specs.Automata.{Parts}
use Rattle.pv_flow.specs.Faults.{has_locations, has_variables, has_loops, IsFaultless, IsFaultOf}
use Rattle.pv_flow.specs.Machines.{Attached, inlined_machine, acyclic_machine}
use Rattle.pv_flow.specs.MachineView.{inlined_parts, inlined_code, bound_of, acyclic_parts, acyclic_code, attached_in}
use Rattle.pv_flow.specs.View.{parts_of}
use Rattle.pv_flow.proofs.ForCallers.{inlined_keeps}
use Rattle.pv_copies.specs.Unrolled.{text_size, unrolled, unrolled_size}
use Rattle.pv_copies.proofs.ForCallers.{same_machine}
use Rattle.pv_unroll.specs.declared.numbers.TheConstants.{MOST}
use Rattle.pv_unroll.specs.declared.fault.TheConstants.{MAX_EDGES, MAX_COPIES}
use Rattle.pv_unroll.specs.declared.fault.TooLarge.{TooLarge}
use Rattle.pv_unroll.specs.declared.fault.TooLarge.TheVariants.{Edges, Copies, NoMemory}
use Rattle.pv_unroll.specs.Counts.{capped}
use Rattle.pv_unroll.specs.Laying.{Laid}
use Rattle.pv_unroll.specs.Tables.{edge_sizing, copy_sizing, laid_in, IsReplaced}
use Rattle.pv_unroll.specs.Correct.{CanUnroll, IsSmall, IsFew, IsWithin, IsOver, AreOver, AreBeyond, IsSizeOf, IsTooLarge, HasTooManyEdges, IsForward, IsMemory, KeepsTables}
use Rattle.pv_unroll.proofs.Weights.{edges_are_sized, copies_are_sized}
use Rattle.pv_unroll.proofs.Replacing.{most_is, edges_most, copies_most, replaced_are_unrolled, replaced_are_forward}
use Rattle.pv_unroll.proofs.Walks.{copies_are_laid}

pub can_unroll : (m : Inlined) → CanUnroll (inlined_code m) (bound_of m)
can_unroll m = let keeps = inlined_keeps m in record {
  faultless = keeps.0;
  well_made = keeps.1;
  inlined = keeps.2;
  tabled = keeps.3;
}

-- ---- sizes

pub counted_is : (p : CodeParts) (n count : ℕ) → CanUnroll p n → p.locations ≤ 4294967295 → count ≡ (edge_sizing p n).here
    → count ≡ capped (unrolled_size (parts_of p) n)
counted_is p n count can narrow e = e ∙ edges_are_sized p n can narrow

within_by : (most bound size whole : ℕ) → bound < most → size ≡ min whole most → size ≤ bound → size ≡ whole
within_by most bound size whole lt e le = omega (arith, lt, e, le)

pub size_is : (p : Parts) (n counted size : ℕ) → counted ≡ capped (unrolled_size p n) → IsWithin counted size → IsSizeOf p n size
size_is p n counted size e is =
    (within_by MOST MAX_EDGES size (unrolled_size p n) (omega (arith, most_is, edges_most)) (is.0 ∙ e) is.1, is.1)

over_by : (most bound whole : ℕ) → bound < min whole most → bound < whole
over_by most bound whole lt = omega (arith, lt)

pub over_is : (p : Parts) (n counted : ℕ) (fault : TooLarge) → counted ≡ capped (unrolled_size p n) → IsOver counted fault → HasTooManyEdges p n fault
over_is p n counted (Edges size) e is = (is.0 ∙ e, over_by MOST MAX_EDGES (unrolled_size p n) (subst (λ (m : ℕ). MAX_EDGES < m) e is.1))
over_is p n counted Copies e is = is
over_is p n counted NoMemory e is = tt

pub sizes_are_told : (p : Parts) (n counted : ℕ) (r : Result ℕ TooLarge) → counted ≡ capped (unrolled_size p n) → IfOk r (IsWithin counted) → IfOk r (IsSizeOf p n)
sizes_are_told p n counted (Ok size) e is = size_is p n counted size e is
sizes_are_told p n counted (Err fault) e is = tt

pub faults_are_told : (p : Parts) (n counted : ℕ) (r : Result ℕ TooLarge) → counted ≡ capped (unrolled_size p n) → IfErr r (IsOver counted) → IfErr r (HasTooManyEdges p n)
faults_are_told p n counted (Ok size) e is = tt
faults_are_told p n counted (Err fault) e is = over_is p n counted fault e is

-- ---- what is laid

uncapped : (n bound most : ℕ) → bound < most → min n most ≤ bound → n ≤ bound
uncapped n bound most lt le = omega (arith, lt, le)

pub small_of : (p : CodeParts) (n : ℕ) → CanUnroll p n → p.locations ≤ 4294967295 → n ≤ 4294967295 → IsFew p n → IsSmall p n
small_of p n can narrow bound few = record {
  edges = uncapped (unrolled_size (parts_of p) n) MAX_EDGES MOST (omega (arith, most_is, edges_most))
      (subst (λ (m : ℕ). m ≤ MAX_EDGES) (edges_are_sized p n can narrow) few.edges);
  text = uncapped (text_size (parts_of p) n) MAX_COPIES MOST (omega (arith, most_is, copies_most))
      (subst (λ (m : ℕ). m ≤ MAX_COPIES) (copies_are_sized p n can narrow) few.copies);
  locations = narrow;
  bound = bound;
}

pub copies_of : (p : CodeParts) (n : ℕ) (q : CodeParts) → p.locations ≤ 4294967295 → n ≤ 4294967295 → IsFew p n → IsReplaced p (laid_in p n) q
    → CanUnroll p n → parts_of q ≡ unrolled (parts_of p) n
copies_of p n q narrow bound few is can = replaced_are_unrolled copies_are_laid p n q can (small_of p n can narrow bound few) is

pub forward_of : (p : CodeParts) (n : ℕ) (q : CodeParts) → p.locations ≤ 4294967295 → n ≤ 4294967295 → IsFew p n → IsReplaced p (laid_in p n) q
    → CanUnroll p n → IsForward q
forward_of p n q narrow bound few is can = replaced_are_forward copies_are_laid p n q can (small_of p n can narrow bound few) is

pub fits_of : (p : CodeParts) (n : ℕ) → p.locations ≤ 4294967295 → IsFew p n → CanUnroll p n → unrolled_size (parts_of p) n ≤ MAX_EDGES
fits_of p n narrow few can = uncapped (unrolled_size (parts_of p) n) MAX_EDGES MOST (omega (arith, most_is, edges_most))
    (subst (λ (m : ℕ). m ≤ MAX_EDGES) (edges_are_sized p n can narrow) few.edges)

pub large_of : (p : CodeParts) (n : ℕ) (fault : TooLarge) → p.locations ≤ 4294967295
    → AreBeyond (edge_sizing p n).here (copy_sizing p n).here fault → CanUnroll p n → IsTooLarge (parts_of p) n fault
large_of p n (Edges size) narrow is can = over_is (parts_of p) n (edge_sizing p n).here (Edges size) (edges_are_sized p n can narrow) is
large_of p n Copies narrow is can = (
  uncapped (unrolled_size (parts_of p) n) MAX_EDGES MOST (omega (arith, most_is, edges_most))
      (subst (λ (m : ℕ). m ≤ MAX_EDGES) (edges_are_sized p n can narrow) is.0),
  over_by MOST MAX_COPIES (text_size (parts_of p) n) (subst (λ (m : ℕ). MAX_COPIES < m) (copies_are_sized p n can narrow) is.1),
)
large_of p n NoMemory narrow is can = tt

pub tables_of : (p : CodeParts) (laid : Laid) (q : CodeParts) → IsReplaced p laid q → KeepsTables p q
tables_of p laid q is = record { nodes = is.nodes; deeds = is.deeds }

pub tables_kept : (p q : CodeParts) (r : Result Acyclic TooLarge) → KeepsTables p q → IfOk r (λ a. acyclic_code a ≡ q)
    → IfOk r (λ a. KeepsTables p (acyclic_code a))
tables_kept p q (Ok a) keeps e = subst (λ (code : CodeParts). KeepsTables p code) (sym e) keeps
tables_kept p q (Err fault) keeps e = tt

-- parts without a fault have none but want of memory
pub memory_alone : (p : Parts) (fault : FlowFault) → IsFaultless p → IsFaultOf p fault → IsMemory fault
memory_alone p flow.BadLocation sound is = absurd (both_ways (has_locations p) is sound.locations)
memory_alone p flow.BadVariable sound is = absurd (both_ways (has_variables p) is.1 sound.variables)
memory_alone p flow.BadLoop sound is = absurd (both_ways (has_loops p) is.2 sound.loops)
memory_alone p flow.NoMemory sound is = refl

-- ---- the machine

pub same_of : (m : Inlined) (a : Acyclic) → acyclic_parts a ≡ unrolled (inlined_parts m) (bound_of m) → attached_in a ≡ None
    → IsSame (acyclic_machine (acyclic_parts a) (attached_in a)) (inlined_machine (inlined_parts m) (bound_of m))
same_of m a parts bare =
    let keeps = inlined_keeps m in
    subst (λ (p : Parts). IsSame (acyclic_machine p (attached_in a)) (inlined_machine (inlined_parts m) (bound_of m))) (sym parts)
    (subst (λ (o : Option Attached). IsSame (acyclic_machine (unrolled (inlined_parts m) (bound_of m)) o) (inlined_machine (inlined_parts m) (bound_of m)))
    (sym bare) (same_machine (inlined_parts m) (bound_of m) keeps.0 keeps.1 keeps.2))
