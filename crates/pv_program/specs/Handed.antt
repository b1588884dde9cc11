-- What is handed in and out, parameter by parameter.
use Rattle.std.specs.Prelude.{◌≡◌, ℕ, List, [], ◌∷◌, ◌++◌, map, bytes_eq, Bool as Truth, true, false, ◌||◌, if◌then◌else◌, Option, Some, None}
use Rattle.pv_word.specs.declared.types.Ty.{Ty}
use Rattle.pv_types.specs.declared.declaration.Section.TheVariants.{Output}
use Rattle.pv_types.specs.Tree.{plain}
use Rattle.pv_tree.specs.Scopes.{value_key}
use Rattle.pv_names.specs.declared.firsts.Firsts.{Firsts}
use Rattle.pv_names.specs.Firsts.{number_in, first_number}
use Rattle.pv_mean.specs.Calls.{value_spot, is_for}
use Rattle.pv_types.specs.declared.name.Name.{Name}
use Rattle.pv_types.specs.declared.declaration.Section.{Section}
use Rattle.pv_types.specs.Tree.{VarTree}
use Rattle.pv_types.specs.View.{section_of}
use Rattle.pv_tree.specs.Tree.{ArgTree, BlockTree}
use Rattle.pv_tree.specs.Callees.{How, CallSite, Param, value_param, is_input, is_output, is_in_out}
use Rattle.pv_tree.specs.Parts.{operand_of}
use Rattle.pv_names.specs.Params.{param_of}
use Rattle.pv_mean.specs.Sources.{Source}
use Rattle.pv_mean.specs.Activations.{word_begins, spot_of}
use Rattle.pv_eval.specs.Means.{activation}
use Rattle.pv_run.specs.declared.program.Inward.{Inward}
use Rattle.pv_run.specs.declared.program.Outward.{Outward}
use Rattle.pv_run.specs.declared.program.Program.{Program}
use Rattle.pv_run.specs.Handing.{Handed, argument_of}
use Rattle.pv_run.specs.Code.{IsValue, GoesTo, slot_spot}

-- sections of what is copied in, and of what is copied out
abbrev pub goes_in : Section → Truth
goes_in section = is_input section || is_in_out section

abbrev pub goes_out : Section → Truth
goes_out section = is_output section || is_in_out section

-- a variable as a parameter, with its spot
abbrev pub handed_one : Source → BlockTree → VarTree → Handed
handed_one source callee v = record {
  param = param_of v;
  spot = λ first. spot_of (word_begins source (activation callee first) (param_of v).key true);
}

-- the parameter has the spot that this name has in the called block
abbrev pub IsSpotOf : Source → BlockTree → Name → Handed → Type 0
IsSpotOf source callee name h = (first : ℕ)
    → h.spot first ≡ spot_of (word_begins source (activation callee first) name.key true)

abbrev pub handed_if : Source → BlockTree → (Section → Truth) → VarTree → List Handed
handed_if source callee test v =
    if test (section_of v) then handed_one source callee v ∷ [] else []

-- those of variables
abbrev pub handed_of : Source → BlockTree → (Section → Truth) → List VarTree → List Handed
handed_of source callee test [] = []
handed_of source callee test (v ∷ vs) =
    handed_if source callee test v ++ handed_of source callee test vs

-- a function's value as a parameter, with its spot
abbrev pub value_params : Option Ty → List Param
value_params None = []
value_params (Some ty) = record { key = value_key; section = Output; ty = plain ty } ∷ []

abbrev pub handed_value : Source → BlockTree → Ty → Handed
handed_value source callee ty = record {
  param = record { key = value_key; section = Output; ty = plain ty };
  spot = λ first. value_spot source callee;
}

abbrev pub values_handed : Source → How → BlockTree → List Handed
values_handed source how callee =
    map (λ p. record { param = p; spot = λ first. value_spot source callee })
    (value_param how callee)

-- a parameter without an argument isn't among what is handed
pub data AreGiven (source : Source) (block : BlockTree) (p : Program) (site : CallSite)
    (callee : BlockTree) : List Inward → List Handed → Type 0 where
  none_given : AreGiven source block p site callee [] []
  left_out : {cs : List Inward} {h : Handed} {hs : List Handed} → argument_of site callee h ≡ None
      → AreGiven source block p site callee cs hs
      → AreGiven source block p site callee cs (h ∷ hs)
  one_given : {c : Inward} {cs : List Inward} {h : Handed} {hs : List Handed} (arg : ArgTree)
      → argument_of site callee h ≡ Some arg → IsValue source block p c.value arg.value
      → ((first : ℕ) → slot_spot first c.to ≡ h.spot first)
      → AreGiven source block p site callee cs hs
      → AreGiven source block p site callee (c ∷ cs) (h ∷ hs)

pub data AreTaken (source : Source) (block : BlockTree) (p : Program) (site : CallSite)
    (callee : BlockTree) : List Outward → List Handed → Type 0 where
  none_taken : AreTaken source block p site callee [] []
  passed_over : {cs : List Outward} {h : Handed} {hs : List Handed}
      → argument_of site callee h ≡ None
      → AreTaken source block p site callee cs hs
      → AreTaken source block p site callee cs (h ∷ hs)
  one_taken : {c : Outward} {cs : List Outward} {h : Handed} {hs : List Handed} (arg : ArgTree)
      → argument_of site callee h ≡ Some arg
      → GoesTo source block p c.to (operand_of arg.value)
      → ((first : ℕ) → slot_spot first c.from ≡ h.spot first)
      → AreTaken source block p site callee cs hs
      → AreTaken source block p site callee (c ∷ cs) (h ∷ hs)

-- the table has of each name, but that of a function's value, the number of the first argument for the parameter that has it
abbrev pub FindsArguments : How → BlockTree → List ArgTree → Firsts → Type 0
FindsArguments how block args numbers = (key : List ℕ) → bytes_eq key value_key ≡ false
    → number_in numbers key ≡ first_number (is_for how block key) args
