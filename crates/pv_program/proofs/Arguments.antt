-- The argument for a parameter: whether one is, and the first that is, as a loop goes along them.
use Rattle.std.proofs.Common.{◌≡◌, ℕ, suc, ◌+◌, ◌<◌, ◌≤◌, List, [], ◌∷◌, ◌++◌, length, map, take, drop, get_or, slice_get, option_map, Option, Some, None, Bool, true, false, cond, refl, sym, ap, ◌∙◌, arith}
use Rattle.std.specs.Prelude.{find, bytes_eq, nat_lt, is_some, option_and_then, IfSome, if◌then◌else◌}
use Rattle.std.proofs.Math.Seq.{drop-cons, take-suc}
use Rattle.std.proofs.lemmas.Bool.{ltb-true, ltb-false}
use Rattle.std.proofs.lemmas.List.{map-append, length-map, length-take-le}
use Rattle.std.proofs.lemmas.Option.{slice_get-map, slice_get-get_or, slice_get_past}
use Rattle.pv_tree.specs.Tree.{ArgTree, BlockTree}
use Rattle.pv_tree.specs.Callees.{How, Param, param_for}
use Rattle.pv_names.specs.Firsts.{or_number, first_number}
use Rattle.pv_mean.specs.Calls.{is_for}

-- for a parameter that has the name, or another one, and for none
pub for-param : (how : How) (block : BlockTree) (key : List ℕ) (arg : ArgTree) (p : Param) → Some p ≡ param_for how block arg
    → bytes_eq key p.key ≡ is_for how block key arg
for-param how block key arg p e = ap (λ (o : Option Param). elim o [
  | None ↦ false
  | Some q ↦ bytes_eq key q.key
]) e

pub for-none : (how : How) (block : BlockTree) (key : List ℕ) (arg : ArgTree) → None ≡ param_for how block arg
    → false ≡ is_for how block key arg
for-none how block key arg e = ap (λ (o : Option Param). elim o [
  | None ↦ false
  | Some q ↦ bytes_eq key q.key
]) e

-- from an element on
find-from : {X T : Type 0} (test : T → Bool) (f : X → T) (xs : List X) (i : ℕ) (x : X) → i < length xs → x ≡ get_or xs i x
    → find test (map f (drop i xs)) ≡ cond (test (f x)) (Some (f x)) (find test (map f (drop (suc i) xs)))
find-from test f xs i x inside is =
    ap (λ l. find test (map f l)) (drop-cons xs i x inside ∙ ap (λ y. y ∷ drop (suc i) xs) (sym is))

pub find-here : {X T : Type 0} (test : T → Bool) (f : X → T) (xs all : List X) (i : ℕ) (x : X) → i < length xs → x ≡ get_or xs i x
    → test (f x) ≡ true → xs ≡ all → find test (map f (drop i xs)) ≡ find test (map f xs) → Some (f x) ≡ find test (map f all)
find-here test f xs all i x inside is e same left =
    ap (λ t. cond t (Some (f x)) (find test (map f (drop (suc i) xs)))) (sym e)
    ∙ sym (find-from test f xs i x inside is) ∙ left ∙ ap (λ l. find test (map f l)) same

pub find-later : {X T : Type 0} (test : T → Bool) (f : X → T) (xs : List X) (i j : ℕ) (x : X) → i < length xs → x ≡ get_or xs i x
    → test (f x) ≡ false → j ≡ i + 1 → find test (map f (drop i xs)) ≡ find test (map f xs)
    → find test (map f (drop j xs)) ≡ find test (map f xs)
find-later test f xs i j x inside is e next left =
    let after : j ≡ suc i = omega (arith, next) in
    ap (λ k. find test (map f (drop k xs))) after
    ∙ ap (λ t. cond t (Some (f x)) (find test (map f (drop (suc i) xs)))) (sym e)
    ∙ sym (find-from test f xs i x inside is) ∙ left

-- ---- numbers of arguments

later : (o : Option ℕ) (b : Bool) (n : ℕ) → option_map (λ n. suc n) (or_number o b n) ≡ or_number (option_map (λ n. suc n) o) b (suc n)
later (Some i) b n = refl
later None true n = refl
later None false n = refl

one_more : {X : Type 0} (p : X → Bool) (xs : List X) (x : X)
    → first_number p (xs ++ x ∷ []) ≡ or_number (first_number p xs) (p x) (length xs)
one_more p [] x = elim (p x) as (λ b. (if b then Some 0 else None) ≡ or_number None b 0) [ true ↦ refl | false ↦ refl ]
one_more p (y ∷ ys) x =
    elim (p y) as (λ b. (if b then Some 0 else option_map (λ n. suc n) (first_number p (ys ++ x ∷ [])))
    ≡ or_number (if b then Some 0 else option_map (λ n. suc n) (first_number p ys)) (p x) (suc (length ys))) [
      | true ↦ refl
      | false ↦ ap (option_map (λ n. suc n)) (one_more p ys x) ∙ later (first_number p ys) (p x) (length ys)
    ]

-- one argument more, as a loop goes along them
pub number_grown : {X T : Type 0} (p : T → Bool) (f : X → T) (xs : List X) (i j : ℕ) (x : X) → i < length xs → x ≡ get_or xs i x → j ≡ i + 1
    → first_number p (map f (take j xs)) ≡ or_number (first_number p (map f (take i xs))) (p (f x)) i
number_grown p f xs i j x inside is e =
    let below : i ≤ length xs = omega (arith, inside) in
    let next : j ≡ suc i = omega (arith, e) in
    ap (λ l. first_number p (map f l)) (ap (λ n. take n xs) next ∙ take-suc xs i x inside ∙ ap (λ y. take i xs ++ y ∷ []) (sym is))
    ∙ ap (first_number p) (map-append f (take i xs) (x ∷ []))
    ∙ one_more p (map f (take i xs)) (f x)
    ∙ ap (or_number (first_number p (map f (take i xs))) (p (f x))) (length-map (take i xs) f ∙ length-take-le i xs below)

pub number_kept : (o : Option ℕ) (b : Bool) (n : ℕ) → b ≡ false → o ≡ or_number o b n
number_kept (Some i) b n e = refl
number_kept None true n e = cc
number_kept None false n e = refl

-- the argument of that number is the first
moved : {X : Type 0} (x : X) (xs : List X) (o : Option ℕ)
    → option_and_then (slice_get (x ∷ xs)) (option_map (λ n. suc n) o) ≡ option_and_then (slice_get xs) o
moved x xs None = refl
moved x xs (Some n) = refl

first_found : {X : Type 0} (p : X → Bool) (xs : List X) → option_and_then (slice_get xs) (first_number p xs) ≡ find p xs
first_found p [] = refl
first_found p (x ∷ xs) =
    elim (p x) as (λ b. option_and_then (slice_get (x ∷ xs)) (if b then Some 0 else option_map (λ n. suc n) (first_number p xs))
    ≡ cond b (Some x) (find p xs)) [
      | true ↦ refl
      | false ↦ moved x xs (first_number p xs) ∙ first_found p xs
    ]

seen_at : {X T B : Type 0} (f : X → T) (now : B → X) (xs : List X) (n : ℕ) (r : Option B) → is_some r ≡ nat_lt n (length xs)
    → IfSome r (λ b. now b ≡ get_or xs n (now b)) → option_map (λ b. f (now b)) r ≡ slice_get (map f xs) n
seen_at f now xs n None e h = sym (slice_get-map f xs n ∙ ap (option_map f) (slice_get_past xs n (ltb-false n (length xs) (sym e))))
seen_at f now xs n (Some b) e h =
    sym (slice_get-map f xs n ∙ ap (option_map f) (slice_get-get_or xs n (now b) (ltb-true n (length xs) (sym e)) ∙ ap Some (sym h)))

pub argument_found : {X T B : Type 0} (p : T → Bool) (f : X → T) (now : B → X) (xs all : List X) (n : ℕ) (o : Option ℕ) (r : Option B)
    → Some n ≡ o → o ≡ first_number p (map f all) → xs ≡ all → is_some r ≡ nat_lt n (length xs) → IfSome r (λ b. now b ≡ get_or xs n (now b))
    → option_map (λ b. f (now b)) r ≡ find p (map f all)
argument_found p f now xs all n o r is number same e h =
    seen_at f now xs n r e h ∙ ap (λ l. slice_get (map f l) n) same
    ∙ ap (option_and_then (slice_get (map f all))) (is ∙ number) ∙ first_found p (map f all)

pub no_argument : {T : Type 0} (p : T → Bool) (all : List T) (o : Option ℕ) → None ≡ o → o ≡ first_number p all → None ≡ find p all
no_argument p all o is number = ap (option_and_then (slice_get all)) (is ∙ number) ∙ first_found p all
