-- Which parameters the arguments of a call give, and which words stand twice.
use Rattle.std.specs.Prelude.{◌≡◌, ℕ, List, [], ◌∷◌, ◌++◌, map, Option, Some, None, bytes_eq, is_some, Bool as Truth, false, ◌&&◌, not}
use Rattle.std.specs.List.{list_any}
use Rattle.pv_place.specs.declared.place.Place.{Place}
use Rattle.pv_types.specs.Tree.{VarTree}
use Rattle.pv_types.specs.View.{name_of, section_of}
use Rattle.pv_types.specs.declared.declaration.Section.{Section}
use Rattle.pv_tree.specs.Tree.{PlacedName, ArgTree, BlockTree}
use Rattle.pv_tree.specs.Callees.{How, CallSite, Param, param_for}
use Rattle.pv_tree.specs.Rules.Arguments.{words_of_args}
use Rattle.pv_names.specs.Firsts.{number_in}
use Rattle.pv_names.specs.Needed.{is_needed_of}
use Rattle.pv_rules_expr.specs.Places.{place_where}
use Rattle.pv_rules_expr.specs.Looks.{nearer_of}
use Rattle.pv_names.specs.declared.firsts.Firsts.{Firsts}

-- a name was put into the table
abbrev pub is_in : Firsts → List ℕ → Truth
is_in f key = is_some (number_in f key)

-- an argument for this parameter gives what has this key
abbrev pub gives : List ℕ → Option Param → Truth
gives key None = false
gives key (Some p) = bytes_eq key p.key

abbrev pub is_given : How → BlockTree → List ArgTree → List ℕ → Truth
is_given how block args key = list_any (λ a. gives key (param_for how block a)) args

-- what a variable's section says: it has to be given
abbrev pub must_be : BlockTree → Section → Truth
must_be block section = is_needed_of block.kind section

abbrev pub is_lacking : How → BlockTree → List ArgTree → VarTree → Truth
is_lacking how block args v = must_be block (section_of v) && not (is_given how block args (name_of v).key)

-- a variable of this name wasn't put into the table
abbrev pub is_out : Firsts → VarTree → Truth
is_out f v = not (is_in f (name_of v).key)

abbrev pub lacks_some : How → BlockTree → List ArgTree → Truth
lacks_some how block args = list_any (is_lacking how block args) block.vars

abbrev pub lacking_at : CallSite → BlockTree → Option Place
lacking_at s block = place_where (lacks_some s.how block s.call.args) s.call.place

abbrev pub keys_of : List PlacedName → List (List ℕ)
keys_of words = map (λ n. n.0.key) words

-- the words that were put into the table
pub record HasMet (f : Firsts) (words : List PlacedName) : Type 0 where
  pub known : (key : List ℕ) → is_in f key ≡ list_any (bytes_eq key) (keys_of words)

-- the nearest word that stands behind one of the same key
abbrev pub later_from : List (List ℕ) → List PlacedName → Option Place → Option Place
later_from keys [] nearest = nearest
later_from keys (n ∷ more) nearest =
    later_from (keys ++ n.0.key ∷ []) more (nearer_of nearest (place_where (list_any (bytes_eq n.0.key) keys) n.1))

abbrev pub later_word : List ArgTree → Option Place
later_word args = later_from [] (words_of_args args) None

abbrev pub later_at : CallSite → BlockTree → Option Place
later_at s block = later_word s.call.args
