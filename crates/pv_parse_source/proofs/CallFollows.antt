-- What actions of calls make of the shades on the stack is the shades of what they make of the things on it.
use Rattle.std.proofs.Common.{◌≡◌, List, [], ◌∷◌, ◌++◌, map, Option, Some, refl, ap, ◌∙◌, sym}
use Rattle.std.proofs.lemmas.Option.{same_Some, option_and_then_some}
use Rattle.pv_place.specs.declared.place.Place.{Place}
use Rattle.pv_tree.specs.Tree.{PlacedName, field, ArgTree}
use Rattle.pv_tree.specs.Lexemes.{Lexeme}
use Rattle.pv_parse.specs.declared.action.CallAction.{CallAction}
use Rattle.pv_parse.specs.declared.action.CallAction.TheVariants as c
use Rattle.pv_parse.specs.declared.shade.Shading.TheVariants.{Take, Join, Group}
use Rattle.pv_parse.specs.CodeItems.{arguments, called}
use Rattle.pv_parse.specs.CodeStack.{args_on, call_on}
use Rattle.pv_parse.specs.Items.{Stack, PathTree, token, path, expr, code, token_on, path_on, expr_on}
use Rattle.pv_parse.specs.CallDeeds.{plain_on, quoted_on, pair_on, hashed_name, second_name, named_on, first_argument_deed, next_argument_deed, no_argument_deed, alone_deed, call_deed, call_value_deed, expr_value_deed, call_action_deed}
use Rattle.pv_parse.specs.Shades.{Shade, merged}
use Rattle.pv_parse.specs.ExprShades.{places_of}
use Rattle.pv_parse.specs.StmtShades.{places_of_args, anywhere, call_shading}
use Rattle.pv_parse.specs.ItemShades.{shade_of}
use Rattle.pv_parse.proofs.ForCallers.{merged-assoc, token_popped, path_popped, expr_popped, seen, under, Keeps, stepped_shade}
use Rattle.pv_parse_source.proofs.CodePopped.{args_popped, call_popped}

args-append : (xs ys : List ArgTree) → places_of_args (xs ++ ys) ≡ merged (places_of_args xs) (places_of_args ys)
args-append [] ys = refl
args-append (x ∷ xs) ys =
    ap (λ (z : List Place). merged (places_of x.value) z) (args-append xs ys)
    ∙ sym (merged-assoc (places_of x.value) (places_of_args xs) (places_of_args ys))

-- what lies on top is a list of these places
pub listed : (below : List Shade) (xs ys : List Place) → xs ≡ ys → Some (anywhere xs ∷ below) ≡ Some (anywhere ys ∷ below)
listed below xs ys e = ap (λ (z : List Place). Some (anywhere z ∷ below)) e

-- ---- names of calls

-- the name of a word and of a quoted name, and of a word with its number
plain_popped : (s : Stack) (x : PlacedName × Stack) → plain_on s ≡ Some x → (t : Lexeme) × (s ≡ token t ∷ x.1)
plain_popped s x h = option_and_then_some _ (token_on s) x h (λ t on is.
    (t.0, token_popped s t on ∙ ap (λ (z : Stack). token t.0 ∷ z) (ap (λ (y : PlacedName × Stack). y.1) (same_Some (_, t.1) x is))))

quoted_popped : (s : Stack) (x : PlacedName × Stack) → quoted_on s ≡ Some x → (t : Lexeme) × (s ≡ token t ∷ x.1)
quoted_popped s x h = option_and_then_some _ (token_on s) x h (λ t on is.
    (t.0, token_popped s t on ∙ ap (λ (z : Stack). token t.0 ∷ z) (ap (λ (y : PlacedName × Stack). y.1) (same_Some (_, t.1) x is))))

pair_popped : (s : Stack) (x : PlacedName × Stack) → pair_on s ≡ Some x → (n t : Lexeme) × (s ≡ token n ∷ token t ∷ x.1)
pair_popped s x h =
    option_and_then_some _ (token_on s) x h (λ n on_n r.
    option_and_then_some _ (token_on n.1) x r (λ t on_t is. (
      n.0,
      t.0,
      token_popped s n on_n ∙ ap (λ (z : Stack). token n.0 ∷ z) (token_popped n.1 t on_t)
          ∙ ap (λ (z : Stack). token n.0 ∷ token t.0 ∷ z) (ap (λ (y : PlacedName × Stack). y.1) (same_Some (_, t.1) x is)),
    )))

hashed_one_keeps : (on : Stack → Option (PlacedName × Stack)) → ((s : Stack) (x : PlacedName × Stack) → on s ≡ Some x → (t : Lexeme) × (s ≡ token t ∷ x.1))
    → Keeps (λ s. hashed_name (on s)) (Join 2 0)
hashed_one_keeps on popped s left h =
    option_and_then_some _ (on s) left h (λ w on_w r.
    option_and_then_some _ (token_on w.1) left r (λ hash on_hash is.
    let t = popped s w on_w in
    under (Join 2 0) s (token t.0 ∷ token hash.0 ∷ hash.1) (map shade_of left)
    (t.1 ∙ ap (λ (z : Stack). token t.0 ∷ z) (token_popped w.1 hash on_hash)) (seen _ left is)))

numbered_hash_keeps : Keeps (λ s. hashed_name (pair_on s)) (Join 3 0)
numbered_hash_keeps s left h =
    option_and_then_some _ (pair_on s) left h (λ w on_w r.
    option_and_then_some _ (token_on w.1) left r (λ hash on_hash is.
    let t = pair_popped s w on_w in
    under (Join 3 0) s (token t.0 ∷ token t.1 ∷ token hash.0 ∷ hash.1) (map shade_of left)
    (t.2 ∙ ap (λ (z : Stack). token t.0 ∷ token t.1 ∷ z) (token_popped w.1 hash on_hash)) (seen _ left is)))

second_one_keeps : (on : Stack → Option (PlacedName × Stack)) → ((s : Stack) (x : PlacedName × Stack) → on s ≡ Some x → (t : Lexeme) × (s ≡ token t ∷ x.1))
    → Keeps (λ s. second_name (on s)) (Join 3 0)
second_one_keeps on popped s left h =
    option_and_then_some _ (on s) left h (λ w on_w r0.
    option_and_then_some _ (token_on w.1) left r0 (λ dot on_dot r1.
    option_and_then_some _ (path_on dot.1) left r1 (λ p on_p is.
    let t = popped s w on_w in
    under (Join 3 0) s (token t.0 ∷ token dot.0 ∷ path p.0 ∷ p.1) (map shade_of left)
    (t.1 ∙ ap (λ (z : Stack). token t.0 ∷ z) (token_popped w.1 dot on_dot ∙ ap (λ (z : Stack). token dot.0 ∷ z) (path_popped dot.1 p on_p)))
    (stepped_shade p.0.place (map shade_of p.1) p.0.steps (field w.0.0 w.0.1) [] refl ∙ seen _ left is))))

numbered_second_keeps : Keeps (λ s. second_name (pair_on s)) (Join 4 0)
numbered_second_keeps s left h =
    option_and_then_some _ (pair_on s) left h (λ w on_w r0.
    option_and_then_some _ (token_on w.1) left r0 (λ dot on_dot r1.
    option_and_then_some _ (path_on dot.1) left r1 (λ p on_p is.
    let t = pair_popped s w on_w in
    under (Join 4 0) s (token t.0 ∷ token t.1 ∷ token dot.0 ∷ path p.0 ∷ p.1) (map shade_of left)
    (t.2 ∙ ap (λ (z : Stack). token t.0 ∷ token t.1 ∷ z) (token_popped w.1 dot on_dot ∙ ap (λ (z : Stack). token dot.0 ∷ z) (path_popped dot.1 p on_p)))
    (stepped_shade p.0.place (map shade_of p.1) p.0.steps (field w.0.0 w.0.1) [] refl ∙ seen _ left is))))

-- ---- arguments

named_popped : (s : Stack) (x : ArgTree × Stack) → named_on s ≡ Some x → (sign : Lexeme) × (p : PathTree) × (s ≡ expr x.0.value ∷ token sign ∷ path p ∷ x.1)
named_popped s x h =
    option_and_then_some _ (expr_on s) x h (λ v on_v r0.
    option_and_then_some _ (token_on v.1) x r0 (λ sign on_sign r1.
    option_and_then_some _ (path_on sign.1) x r1 (λ p on_p is. (
      sign.0,
      p.0,
      expr_popped s v on_v ∙ ap (λ (z : Stack). expr v.0 ∷ z) (token_popped v.1 sign on_sign ∙ ap (λ (z : Stack). token sign.0 ∷ z) (path_popped sign.1 p on_p))
          ∙ ap (λ (y : ArgTree × Stack). expr y.0.value ∷ token sign.0 ∷ path p.0 ∷ y.1) (same_Some (_, p.1) x is),
    ))))

first_argument_keeps : Keeps first_argument_deed (Group 3 4)
first_argument_keeps s left h =
    option_and_then_some _ (named_on s) left h (λ arg on is.
    let n = named_popped s arg on in
    under (Group 3 4) s (expr arg.0.value ∷ token n.0 ∷ path n.1 ∷ arg.1) (map shade_of left) n.2 (seen _ left is))

next_argument_keeps : Keeps next_argument_deed (Group 5 4)
next_argument_keeps s left h =
    option_and_then_some _ (named_on s) left h (λ arg on r0.
    option_and_then_some _ (token_on arg.1) left r0 (λ comma on_comma r1.
    option_and_then_some _ (args_on comma.1) left r1 (λ args on_args is.
    let n = named_popped s arg on in
    under (Group 5 4) s (expr arg.0.value ∷ token n.0 ∷ path n.1 ∷ token comma.0 ∷ code (arguments args.0) ∷ args.1) (map shade_of left)
    (n.2 ∙ ap (λ (z : Stack). expr arg.0.value ∷ token n.0 ∷ path n.1 ∷ z)
    (token_popped arg.1 comma on_comma ∙ ap (λ (z : Stack). token comma.0 ∷ z) (args_popped comma.1 args on_args)))
    (listed (map shade_of args.1) _ _ (sym (args-append args.0 (arg.0 ∷ []))) ∙ seen _ left is))))

no_argument_keeps : Keeps no_argument_deed (Group 0 0)
no_argument_keeps s left e = seen _ left e

alone_keeps : Keeps alone_deed (Group 1 0)
alone_keeps s left e =
    option_and_then_some _ (expr_on s) left e (λ x on_x is.
    under (Group 1 0) s (expr x.0 ∷ x.1) (map shade_of left)
    (expr_popped s x on_x)
    (seen _ left is))

-- ---- calls

call_keeps : Keeps call_deed (Join 4 8)
call_keeps s left e =
    option_and_then_some _ (token_on s) left e (λ end on_end r0.
    option_and_then_some _ (args_on end.1) left r0 (λ args on_args r1.
    option_and_then_some _ (token_on args.1) left r1 (λ begin on_begin r2.
    option_and_then_some _ (path_on begin.1) left r2 (λ p on_p is.
    under (Join 4 8) s (token end.0 ∷ code (arguments args.0) ∷ token begin.0 ∷ path p.0 ∷ p.1) (map shade_of left)
    (token_popped s end on_end ∙ ap (λ (z : Stack). token end.0 ∷ z) (args_popped end.1 args on_args) ∙ ap (λ (z : Stack). token end.0 ∷
    code (arguments args.0) ∷ z) (token_popped args.1 begin on_begin) ∙ ap (λ (z : Stack). token end.0 ∷ code (arguments args.0) ∷ token
    begin.0 ∷ z) (path_popped begin.1 p on_p))
    (seen _ left is)))))

call_value_keeps : Keeps call_value_deed (Take 0)
call_value_keeps s left e =
    option_and_then_some _ (call_on s) left e (λ c_ on_c_ is.
    under (Take 0) s (code (called c_.0) ∷ c_.1) (map shade_of left)
    (call_popped s c_ on_c_)
    (seen _ left is))

expr_value_keeps : Keeps expr_value_deed (Take 0)
expr_value_keeps s left e =
    option_and_then_some _ (expr_on s) left e (λ x on_x is.
    under (Take 0) s (expr x.0 ∷ x.1) (map shade_of left)
    (expr_popped s x on_x)
    (seen _ left is))

-- ---- by the action

pub call_keeps_of : (action : CallAction) → Keeps (call_action_deed action) (call_shading action)
call_keeps_of c.PlainHash = hashed_one_keeps plain_on plain_popped
call_keeps_of c.QuotedHash = hashed_one_keeps quoted_on quoted_popped
call_keeps_of c.NumberedHash = numbered_hash_keeps
call_keeps_of c.PlainSecond = second_one_keeps plain_on plain_popped
call_keeps_of c.QuotedSecond = second_one_keeps quoted_on quoted_popped
call_keeps_of c.NumberedSecond = numbered_second_keeps
call_keeps_of c.FirstArgument = first_argument_keeps
call_keeps_of c.NextArgument = next_argument_keeps
call_keeps_of c.NoArgument = no_argument_keeps
call_keeps_of c.Alone = alone_keeps
call_keeps_of c.Call = call_keeps
call_keeps_of c.CallValue = call_value_keeps
call_keeps_of c.ExprValue = expr_value_keeps
