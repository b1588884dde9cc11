-- An argument is unknown, at its word, or an unnamed one stands for no input, at its first token; one is given twice, at the later
-- word; or an input of a function or a VAR_IN_OUT isn't given, at the call's first token.
use Rattle.std.specs.Prelude.{◌≡◌, ◌⊎◌, List, filter_map, Bool as Truth, ◌&&◌, ◌||◌, Some, None, Any, IsTrue, IsSomeAnd}
use Rattle.pv_place.specs.declared.place.Place.{Place}
use Rattle.pv_tree.specs.Tree.{PlacedName, ArgTree, BlockTree}
use Rattle.pv_tree.specs.Scopes.{ProjectTree, Scope, is_fc}
use Rattle.pv_tree.specs.Things.{first_place}
use Rattle.pv_tree.specs.Callees.{How, CallSite, runs, callee_of, is_input, is_in_out, Param, params_of, param_for}
use Rattle.pv_tree.specs.Parts.{calls_of}
use Rattle.pv_tree.specs.Interfaces.{IsLater}

-- the place of an argument's word, or of its first token where it has none
abbrev pub place_of_word : ArgTree → Place
place_of_word arg = elim arg.name [ None ↦ first_place arg.value | Some word ↦ word.1 ]

abbrev pub words_of_args : List ArgTree → List PlacedName
words_of_args args = filter_map (λ a. a.name) args

-- a parameter that has to be given
abbrev pub must_be_given : BlockTree → Param → Truth
must_be_given block p = (is_fc block.kind && is_input p.section) || is_in_out p.section

-- it is given by one of the arguments; of two parameters of one name the arguments give both
abbrev pub IsGiven : How → BlockTree → List ArgTree → Param → Type 0
IsGiven how block args p =
    Any (λ a. IsSomeAnd (param_for how block a) (λ q. q.key ≡ p.key)) args

abbrev pub Lacks : How → BlockTree → List ArgTree → Param → Type 0
Lacks how block args p = IsTrue (must_be_given block p) × (IsGiven how block args p → ⊥)

-- the arguments don't suit the block that the call runs
abbrev pub GivesWrong : Place → CallSite → BlockTree → Type 0
GivesWrong at s block =
    Any (λ a. (place_of_word a ≡ at) × (param_for s.how block a ≡ None)) s.call.args
    ⊎ (IsLater (words_of_args s.call.args) at
    ⊎ ((s.call.place ≡ at) × Any (Lacks s.how block s.call.args) (params_of s.how block)))

abbrev pub CallGivesWrong : Scope → Place → CallSite → Type 0
CallGivesWrong scope at s =
    (block : BlockTree) × (callee_of scope s ≡ runs block) × GivesWrong at s block

abbrev pub IsWrongArgument : ProjectTree → Place → Type 0
IsWrongArgument project at =
    Any (λ b. Any (CallGivesWrong (record { project = project; block = b }) at)
    (calls_of b)) project.blocks
