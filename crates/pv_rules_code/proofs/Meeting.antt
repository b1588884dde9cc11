-- Words and parameters that are met one by one.
use Rattle.std.proofs.Common.{◌≡◌, ℕ, suc, ◌+◌, ◌<◌, refl, sym, ap, subst, ◌∙◌, List, [], ◌∷◌, ◌++◌, map, take, drop, get_or, length, arith, Option, Some, None, Bool, true, false, ◌||◌, cond, is_some, true≢false, Result, Ok, Err}
use Rattle.std.specs.Prelude.{filter_map, option_to_list, unwrap_or, bytes_eq, OnOk}
use Rattle.std.proofs.lemmas.Slice.Eq.{bytes_eq-Decides}
use Rattle.std.specs.List.{list_any}
use Rattle.std.proofs.Math.Seq.{drop-cons}
use Rattle.std.proofs.lemmas.List.Folds.{list_any-append}
use Rattle.std.proofs.lemmas.List.Elements.{filter_map-append}
use Rattle.pv_place.specs.declared.place.Place.{Place}
use Rattle.pv_types.specs.View.{var_tree}
use Rattle.pv_types.specs.declared.var.Var.{Var}
use Rattle.pv_types.proofs.ForCallers.{var_seen}
use Rattle.pv_tree.specs.Callees.{How, Param, first_param, params_of, only_input, param_for}
use Rattle.pv_tree.specs.Tree.{PlacedName, ArgTree, BlockTree}
use Rattle.pv_tree.specs.Rules.Arguments.{words_of_args}
use Rattle.pv_rules_expr.specs.Looks.{nearer_of}
use Rattle.pv_rules_expr.specs.Places.{place_where}
use Rattle.pv_rules_code.specs.AtGiven.{is_in, gives, HasMet, keys_of, later_from, later_word}
use Rattle.pv_names.specs.declared.firsts.Firsts.{Firsts}
use Rattle.pv_names.specs.Params.{param_of}
use Rattle.pv_rules_expr.proofs.ForCallers.{taken_one}
use Rattle.pv_names.proofs.ForCallers.{for_some, for_none}

or_false : (b : Bool) → (b || false) ≡ b
or_false true = refl
or_false false = refl

or_in : (a b c : Bool) → ((a || b) || c) ≡ (a || (b || c))
or_in true b c = refl
or_in false b c = refl

-- one more element of those that are tested
pub any_more : {X Y : Type 0} (p : Y → Bool) (g : X → Y) (xs : List X) (i j : ℕ) (x : X) → i < length xs → x ≡ get_or xs i x → j ≡ i + 1
    → (list_any p (map g (take i xs)) || p (g x)) ≡ list_any p (map g (take j xs))
any_more p g xs i j x inside is next =
    sym (ap (λ k. list_any p (map g (take k xs))) next ∙ ap (list_any p) (taken_one g xs i x inside is)
    ∙ list_any-append p (map g (take i xs)) (g x ∷ []) ∙ ap (λ b. list_any p (map g (take i xs)) || b) (or_false (p (g x))))

-- ---- a table of words

pushed : (key : List ℕ) (words : List PlacedName) (n : PlacedName)
    → list_any (bytes_eq key) (keys_of (words ++ n ∷ [])) ≡ (list_any (bytes_eq key) (keys_of words) || bytes_eq key n.0.key)
pushed key [] n = or_false (bytes_eq key n.0.key)
pushed key (m ∷ words) n =
    ap (λ b. bytes_eq key m.0.key || b) (pushed key words n) ∙ sym (or_in (bytes_eq key m.0.key) (list_any (bytes_eq key) (keys_of words)) (bytes_eq key n.0.key))

pub met_none : (f : Firsts) (words : List PlacedName) → HasMet f words → HasMet f (words ++ [])
met_none f words h = subst (HasMet f) (sym (nothing words)) h
  where
    nothing : (ws : List PlacedName) → ws ++ [] ≡ ws
    nothing [] = refl
    nothing (w ∷ ws) = ap (λ l. w ∷ l) (nothing ws)

pub met_one : (old new : Firsts) (words : List PlacedName) (n : PlacedName) → ((key : List ℕ) → is_in new key ≡ (is_in old key || bytes_eq key n.0.key))
    → HasMet old words → HasMet new (words ++ n ∷ [])
met_one old new words n step h = record {
  known = λ key. step key ∙ ap (λ b. b || bytes_eq key n.0.key) (h.known key) ∙ sym (pushed key words n);
}

pub near_one : (old : Firsts) (words : List PlacedName) (n : PlacedName) (nearest found : Option Place) (has : Bool) → has ≡ is_in old n.0.key
    → found ≡ place_where has n.1 → HasMet old words → nearer_of nearest found ≡ later_from (keys_of words) (n ∷ []) nearest
near_one old words n nearest found has is at h =
    ap (nearer_of nearest) (at ∙ ap (λ b. place_where b n.1) (is ∙ h.known n.0.key))

pub near_word : (old : Firsts) (words : List PlacedName) (n : PlacedName) (o : Option PlacedName) (nearest found new : Option Place) (has : Bool)
    → o ≡ Some n → has ≡ is_in old n.0.key → found ≡ place_where has n.1 → new ≡ nearer_of nearest found → HasMet old words
    → new ≡ later_from (keys_of words) (option_to_list o) nearest
near_word old words n o nearest found new has there is at made h =
    made ∙ near_one old words n nearest found has is at h ∙ ap (λ o. later_from (keys_of words) (option_to_list o) nearest) (sym there)

pub met_word : (old new : Firsts) (words : List PlacedName) (n : PlacedName) (o : Option PlacedName) → o ≡ Some n
    → ((key : List ℕ) → is_in new key ≡ (is_in old key || bytes_eq key n.0.key)) → HasMet old words → HasMet new (words ++ option_to_list o)
met_word old new words n o there step h = subst (λ o. HasMet new (words ++ option_to_list o)) (sym there) (met_one old new words n step h)

-- ---- along arguments

nothing_behind : {X : Type 0} (xs : List X) → xs ++ [] ≡ xs
nothing_behind [] = refl
nothing_behind (x ∷ xs) = ap (λ l. x ∷ l) (nothing_behind xs)

one_word : (a : ArgTree) → words_of_args (a ∷ []) ≡ option_to_list a.name
one_word a = elim a.name as (λ o. filter_map (λ (b : Option PlacedName). b) (o ∷ []) ≡ option_to_list o) [ None ↦ refl | Some n ↦ refl ]

module _ {X : Type 0} (g : X → ArgTree) (xs : List X) (i j : ℕ) (x : X) (inside : i < length xs) (is : x ≡ get_or xs i x) (next : j ≡ i + 1) where
  abbrev before : List PlacedName
  before = words_of_args (map g (take i xs))

  abbrev word : List PlacedName
  word = option_to_list (g x).name

  pub words_taken : before ++ word ≡ words_of_args (map g (take j xs))
  words_taken =
      sym (ap (λ k. words_of_args (map g (take k xs))) next ∙ ap words_of_args (taken_one g xs i x inside is)
      ∙ filter_map-append (λ a. a.name) (map g (take i xs)) (g x ∷ []) ∙ ap (λ l. before ++ l) (one_word (g x)))

  words_left : words_of_args (map g (drop i xs)) ≡ word ++ words_of_args (map g (drop (suc i) xs))
  words_left =
      ap (λ l. words_of_args (map g l)) (drop-cons xs i x inside ∙ ap (λ y. y ∷ drop (suc i) xs) (sym is))
      ∙ filter_map-append (λ a. a.name) (g x ∷ []) (map g (drop (suc i) xs))
      ∙ ap (λ l. l ++ words_of_args (map g (drop (suc i) xs))) (one_word (g x))

  pub met_more : (f : Firsts) → HasMet f (before ++ word) → HasMet f (words_of_args (map g (take j xs)))
  met_more f h = subst (HasMet f) words_taken h

  pub later_more : (best new total : Option Place) → new ≡ later_from (keys_of before) word best
      → later_from (keys_of before) (words_of_args (map g (drop i xs))) best ≡ total
      → later_from (keys_of (words_of_args (map g (take j xs)))) (words_of_args (map g (drop j xs))) new ≡ total
  later_more best new total looked left =
      let k : j ≡ suc i = omega (arith, next) in
      let rest = words_of_args (map g (drop (suc i) xs)) in
      ap (λ k. later_from (keys_of (words_of_args (map g (take j xs)))) (words_of_args (map g (drop k xs))) new) k
      ∙ ap (λ w. later_from (keys_of w) rest new) (sym words_taken)
      ∙ ap (later_from (keys_of (before ++ word)) rest) looked
      ∙ sym (later_over before (g x).name rest best)
      ∙ ap (λ w. later_from (keys_of before) w best) (sym words_left)
      ∙ left
    where
      keys_pushed : (ws : List PlacedName) (n : PlacedName) → keys_of (ws ++ n ∷ []) ≡ keys_of ws ++ n.0.key ∷ []
      keys_pushed [] n = refl
      keys_pushed (m ∷ ws) n = ap (λ l. m.0.key ∷ l) (keys_pushed ws n)

      later_over : (ws : List PlacedName) (o : Option PlacedName) (rest : List PlacedName) (best : Option Place)
          → later_from (keys_of ws) (option_to_list o ++ rest) best
          ≡ later_from (keys_of (ws ++ option_to_list o)) rest (later_from (keys_of ws) (option_to_list o) best)
      later_over ws None rest best = ap (λ l. later_from (keys_of l) rest best) (sym (nothing_behind ws))
      later_over ws (Some n) rest best =
          ap (λ l. later_from l rest (nearer_of best (place_where (list_any (bytes_eq n.0.key) (keys_of ws)) n.1))) (sym (keys_pushed ws n))

-- all of them
pub later_all : {X : Type 0} (g : X → ArgTree) (xs : List X) (i : ℕ) (best : Option Place) → i ≡ length xs
    → later_from (keys_of (words_of_args (map g (take i xs)))) (words_of_args (map g (drop i xs))) best ≡ later_word (map g xs)
    → best ≡ later_word (map g xs)
later_all g xs i best is left =
    ap (λ l. later_from (keys_of (words_of_args (map g (take i xs)))) (words_of_args (map g l)) best) (sym (ap (λ k. drop k xs) is ∙ dropped xs)) ∙ left
  where
    dropped : {Y : Type 0} (ys : List Y) → drop (length ys) ys ≡ []
    dropped [] = refl
    dropped (y ∷ ys) = dropped ys

-- ---- parameters

pub on_ok : {T E P Q : Type 0} (r : Result T E) → (P → Q) → OnOk r P → OnOk r Q
on_ok (Ok t) f h = f h
on_ok (Err e) f h = tt

found_key : (ps : List Param) (key : List ℕ) (p : Param) → Some p ≡ first_param ps key → p.key ≡ key
found_key [] key p e = absurd (true≢false (ap is_some e))
found_key (q ∷ ps) key p e = by (bytes_eq key q.key) refl (λ h. found_key ps key p h) e
  where
    by : (b : Bool) → bytes_eq key q.key ≡ b → (Some p ≡ first_param ps key → p.key ≡ key) → Some p ≡ cond b (Some q) (first_param ps key) → p.key ≡ key
    by true on rest h = ap (λ o. (unwrap_or o q).key) h ∙ sym ((bytes_eq-Decides key q.key).0 on)
    by false off rest h = rest h

pub gives_named : (how : How) (b : BlockTree) (a : ArgTree) (word : PlacedName) (p : Param) (key : List ℕ) → a.name ≡ Some word
    → Some p ≡ first_param (params_of how b) word.0.key → bytes_eq key word.0.key ≡ gives key (param_for how b a)
gives_named how b a word p key is found =
    ap (bytes_eq key) (sym (found_key (params_of how b) word.0.key p found)) ∙ ap (gives key) (found ∙ for_some how b a word is)

pub gives_unknown : (how : How) (b : BlockTree) (a : ArgTree) (word : PlacedName) (key : List ℕ) (c : Bool) → a.name ≡ Some word
    → None ≡ first_param (params_of how b) word.0.key → c ≡ (c || gives key (param_for how b a))
gives_unknown how b a word key c is found = sym (or_false c) ∙ ap (λ o. c || gives key o) (found ∙ for_some how b a word is)

pub gives_only : (how : How) (b : BlockTree) (a : ArgTree) (v : Var) (key : List ℕ) → a.name ≡ None → Some (param_of (var_tree v)) ≡ only_input b
    → bytes_eq key v.name.now.key ≡ gives key (param_for how b a)
gives_only how b a v key is found =
    ap (λ t. bytes_eq key (param_of t).key) (sym (var_seen v)) ∙ ap (gives key) (found ∙ for_none how b a is)

pub gives_none : (how : How) (b : BlockTree) (a : ArgTree) (key : List ℕ) (c : Bool) → a.name ≡ None → None ≡ only_input b
    → c ≡ (c || gives key (param_for how b a))
gives_none how b a key c is found = sym (or_false c) ∙ ap (λ o. c || gives key o) (found ∙ for_none how b a is)
