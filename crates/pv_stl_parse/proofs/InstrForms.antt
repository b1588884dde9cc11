-- Instructions and their parts, as their tokens spell them.
use Rattle.std.proofs.Common.{◌≡◌, inl, inr, ℕ, zero, suc, Bool, true, false, cond, List, [], ◌∷◌, ◌++◌, All, codes, Option, Some, None, refl, ap, ◌∙◌, sym, subst}
use Rattle.std.specs.Prelude.{ℤ, pos, negsuc, neg_ℤ}
use Rattle.std.proofs.lemmas.List.{append-nil, append_assoc}
use Rattle.std.proofs.lemmas.List.Elements.{All-nil, All-append}
use Rattle.pv_word.specs.declared.types.Ty.{Ty}
use Rattle.pv_place.specs.declared.place.Place.{Place}
use Rattle.pv_types.specs.declared.declaration.Literal.{Literal}
use Rattle.pv_types.specs.declared.name.Name.{Name}
use Rattle.pv_lex.specs.declared.token.Kind.TheVariants as k
use Rattle.pv_tree.specs.declared.instr.Op.{Op}
use Rattle.pv_tree.specs.declared.instr.Op.TheVariants as op
use Rattle.pv_tree.specs.declared.expr.Root.TheVariants.{Local}
use Rattle.pv_tree.specs.Tree.{PlacedName, StepTree, field, ArgTree, CallPlain, InstrTree}
use Rattle.pv_tree.specs.Lexemes.{Lexeme, IsWord, IsSign, sign}
use Rattle.pv_tree.specs.Words.{IsFree, IsPlain, plain_name, SpellsName}
use Rattle.pv_tree.specs.Literals.{number_type, loaded_type, IsTruth}
use Rattle.pv_tree.specs.Calls.{SpellsCalledStl, SpellsBase, SpellsArgsStl, IsFreeBehind, IsFreeOption, IsFormedArg, IsFormedCallStl}
use Rattle.pv_tree.specs.Instructions.{Shape, sort_of, IsOfSort, shape_of, SpellsOperandLiteral, SpellsBehind, SpellsLabel, SpellsInstr, SpellsInstrs, IsFormedOperandOption, IsFormedCallOption}
use Rattle.pv_parse.specs.TokenTexts.{is_text}
use Rattle.pv_parse.specs.OpTexts.{op_of}
use Rattle.pv_parse.specs.Items.{PathTree}
use Rattle.pv_parse.specs.ExprDeeds.{rooted, stepped}
use Rattle.pv_parse.specs.CallDeeds.{named_of, is_hashed, base_of, call_of}
use Rattle.pv_parse.specs.InstrDeeds.{type_behind, number_behind}
use Rattle.pv_parse.proofs.ForCallers.{IsFreeWord, base_steps, IsOp, is_load, Operated, Laid, SpellsBehindOp, IsCalleeStl, IsCalledAlone, CalledStl, single, single_at, led, joined}

-- ---- lists of instructions

with_networks : (ys : List InstrTree) (us vs ws : List Lexeme) → All (IsWord "NETWORK") us → SpellsInstrs ys vs → ws ≡ us ++ vs → SpellsInstrs ys ws
with_networks [] us vs ws g h e = subst (λ (z : List Lexeme). All (IsWord "NETWORK") z) (sym e) (All-append (IsWord "NETWORK") us vs g h)
with_networks (y ∷ ys) us vs ws g h e =
    joined (us ++ h.front) h.back ws (e ∙ ap (λ (z : List Lexeme). us ++ z) h.parts ∙ sym (append_assoc us h.front h.back))
    (All-append (IsWord "NETWORK") us h.front g h.in_front) h.behind

-- instructions behind others
pub instrs_append : (xs ys : List InstrTree) (us vs ws : List Lexeme) → SpellsInstrs xs us → SpellsInstrs ys vs → ws ≡ us ++ vs → SpellsInstrs (xs ++ ys) ws
instrs_append [] ys us vs ws g h e = with_networks ys us vs ws g h e
instrs_append (x ∷ xs) ys us vs ws g h e =
    joined g.front (g.back ++ vs) ws (e ∙ ap (λ (z : List Lexeme). z ++ vs) g.parts ∙ append_assoc g.front g.back vs) g.in_front
    (joined g.behind.front (g.behind.back ++ vs) (g.back ++ vs)
    (ap (λ (z : List Lexeme). z ++ vs) g.behind.parts ∙ append_assoc g.behind.front g.behind.back vs) g.behind.in_front
    (instrs_append xs ys g.behind.back vs (g.behind.back ++ vs) g.behind.behind h refl))

-- an instruction with its `;`
ended_instr : (i : InstrTree) (t : Lexeme) (us ws : List Lexeme) → Laid i us → IsSign ";" t → ws ≡ us ++ t ∷ [] → SpellsInstr i ws
ended_instr i t us ws h c e =
    let d = h.spelled in
    let b = d.behind in
    joined d.front (d.back ++ t ∷ []) ws (e ∙ ap (λ (z : List Lexeme). z ++ t ∷ []) d.parts ∙ append_assoc d.front d.back (t ∷ [])) d.in_front
    (joined b.front (b.back ++ t ∷ []) (d.back ++ t ∷ [])
    (ap (λ (z : List Lexeme). z ++ t ∷ []) b.parts ∙ append_assoc b.front b.back (t ∷ [])) b.in_front
    (joined b.back (t ∷ []) (b.back ++ t ∷ []) refl b.behind (single t c)))

pub one_instr : (i : InstrTree) (t : Lexeme) (us ws : List Lexeme) → Laid i us → IsSign ";" t → ws ≡ us ++ t ∷ [] → SpellsInstrs (i ∷ []) ws
one_instr i t us ws h c e =
    joined [] ws ws refl (All-nil (IsWord "NETWORK"))
    (joined ws [] ws (sym (append-nil ws)) (ended_instr i t us ws h c e) (All-nil (IsWord "NETWORK")))

-- ---- labels

pub laid_alone : (i : InstrTree) (ws : List Lexeme) → i.label ≡ None → Operated i ws → Laid i ws
laid_alone i ws e h = record {
  spelled = joined [] ws ws refl (subst (λ (z : Option PlacedName). SpellsLabel z []) (sym e) refl) h.spelled;
  formed = record {
    its_label = subst (λ (z : Option PlacedName). IsFreeOption z) (sym e) tt;
    its_operand = h.its_operand;
    its_call = h.its_call;
  };
}

pub laid_behind : (t : Lexeme) (i : InstrTree) (us vs ws : List Lexeme) → IsFreeWord t → sign ":" us → i.label ≡ Some (plain_name t.bytes, t.place)
    → Operated i vs → ws ≡ t ∷ (us ++ vs) → Laid i ws
laid_behind t i us vs ws f c e h q =
    let plain : IsPlain (plain_name t.bytes) t = record { kind = f.kind; unnumbered = f.unnumbered; names = refl } in
    record {
      spelled = joined (t ∷ us) vs ws q (subst (λ (z : Option PlacedName). SpellsLabel z (t ∷ us)) (sym e) (led t us (single_at t plain) c)) h.spelled;
      formed = record {
        its_label = subst (λ (z : Option PlacedName). IsFreeOption z) (sym e) f.free;
        its_operand = h.its_operand;
        its_call = h.its_call;
      };
    }

-- ---- words and signs with what stands behind them

pub operated_by : (x : Shape) (t : Lexeme) (i : InstrTree) (vs : List Lexeme) → i.op ≡ op_of t.bytes → i.place ≡ t.place → IsOp x t → SpellsBehind x i vs
    → IsFormedOperandOption i.operand → IsFormedCallOption i.call → Operated i (t ∷ vs)
operated_by x t i vs e f k d g h =
    let shaped : shape_of (sort_of i.op) ≡ x = ap (λ (z : Op). shape_of (sort_of z)) e ∙ k.shaped in
    record {
      spelled = led t vs (record { token = t; alone = refl; is = record { is = subst (λ (z : Op). IsOfSort (sort_of z) t) (sym e) k.said; at = sym f } })
          (subst (λ (z : Shape). SpellsBehind z i vs) (sym shaped) d);
      its_operand = g;
      its_call = h;
    }

-- ---- literals

literal_op : (o : Op) (l : Literal) (us : List Lexeme) → SpellsBehindOp (is_load o) l us → SpellsOperandLiteral o l us
literal_op op.L l us h = h
literal_op _ l us h = h

pub literal_behind : (x : Shape) (t : Lexeme) (l : Literal) (us : List Lexeme) → IsOp x t → SpellsBehindOp (is_text (codes "L") t.bytes) l us
    → SpellsOperandLiteral (op_of t.bytes) l us
literal_behind x t l us k h =
    literal_op (op_of t.bytes) l us (subst (λ (z : Bool). SpellsBehindOp z l us) k.loads h)

pub type_true : (o bytes : List ℕ) (value : ℤ) → is_text (codes "L") o ≡ true → type_behind o value bytes ≡ loaded_type value bytes
unfolding type_behind
type_true o bytes value e = ap (λ (b : Bool). cond b (loaded_type value bytes) (number_type bytes)) e

pub type_false : (o bytes : List ℕ) (value : ℤ) → is_text (codes "L") o ≡ false → type_behind o value bytes ≡ number_type bytes
unfolding type_behind
type_false o bytes value e = ap (λ (b : Bool). cond b (loaded_type value bytes) (number_type bytes)) e

neg_twice : (k : ℤ) → k ≡ neg_ℤ (neg_ℤ k)
neg_twice (pos zero) = refl
neg_twice (pos (suc n)) = refl
neg_twice (negsuc n) = refl

number_by : (b : Bool) (o t : Lexeme) → is_text (codes "L") o.bytes ≡ b → t.kind ≡ k.Number
    → SpellsBehindOp b (number_behind o t t.value t.place) (t ∷ [])
number_by true o t e q = inl (inl (single_at t (record { kind = q; typed = type_true o.bytes t.bytes t.value e; valued = refl })))
number_by false o t e q = inl (inl (single_at t (record { kind = q; typed = type_false o.bytes t.bytes t.value e; valued = refl })))

pub number_spelled : (o t : Lexeme) → t.kind ≡ k.Number → SpellsBehindOp (is_text (codes "L") o.bytes) (number_behind o t t.value t.place) (t ∷ [])
number_spelled o t q = number_by (is_text (codes "L") o.bytes) o t refl q

negative_by : (b : Bool) (o m t : Lexeme) → is_text (codes "L") o.bytes ≡ b → IsSign "-" m → t.kind ≡ k.Number
    → SpellsBehindOp b (number_behind o t (neg_ℤ t.value) m.place) (m ∷ t ∷ [])
negative_by true o m t e p q = inl (inr (led m (t ∷ []) (single_at m p)
    (single t (record { kind = q; typed = type_true o.bytes t.bytes (neg_ℤ t.value) e; valued = neg_twice t.value }))))
negative_by false o m t e p q = inl (inr (led m (t ∷ []) (single_at m p)
    (single t (record { kind = q; typed = type_false o.bytes t.bytes (neg_ℤ t.value) e; valued = neg_twice t.value }))))

pub negative_spelled : (o m t : Lexeme) → IsSign "-" m → t.kind ≡ k.Number
    → SpellsBehindOp (is_text (codes "L") o.bytes) (number_behind o t (neg_ℤ t.value) m.place) (m ∷ t ∷ [])
negative_spelled o m t p q = negative_by (is_text (codes "L") o.bytes) o m t refl p q

truth_by : (b : Bool) (t : Lexeme) (own : Option Ty) (value : ℤ) → IsTruth own value t
    → SpellsBehindOp b (record { ty = own; value = value; place = t.place }) (t ∷ [])
truth_by true t own value h = inr (single_at t h)
truth_by false t own value h = inr (single_at t h)

pub truth_spelled : (o t : Lexeme) (own : Option Ty) (value : ℤ) → IsTruth own value t
    → SpellsBehindOp (is_text (codes "L") o.bytes) (record { ty = own; value = value; place = t.place }) (t ∷ [])
truth_spelled o t own value h = truth_by (is_text (codes "L") o.bytes) t own value h

-- ---- called names

pub free_behind : (b : Bool) (x : Name) → IsFree x → IsFreeBehind b x
free_behind true x f = tt
free_behind false x f = f

pub callee_alone_is : (p : PathTree) (ts : List Lexeme) → IsCalledAlone p ts → IsCalleeStl p None ts
callee_alone_is p ts h = record {
  steps_are = h.steps_are;
  spelled = joined ts [] ts (sym (append-nil ts))
      (subst (λ (z : Bool). SpellsCalledStl z (named_of p).0 (named_of p).1 ts) (sym h.unhashed) h.spelled) refl;
  formed = free_behind (is_hashed p.root) (named_of p).0 h.free;
  its_base = tt;
}

pub callee_hash_is : (h : Lexeme) (x : Name) (at : Place) (us : List Lexeme) → IsSign "#" h → SpellsName x at us
    → IsCalleeStl (rooted (Local x true at) h.place) None (h ∷ us)
callee_hash_is h x at us i d = record {
  steps_are = refl;
  spelled = joined (h ∷ us) [] (h ∷ us) (sym (append-nil (h ∷ us))) (led h us (single h i) d) refl;
  formed = tt;
  its_base = tt;
}

pub callee_based : (p b : PathTree) (c : Lexeme) (us vs ws : List Lexeme) → IsCalleeStl p None us → IsSign "," c → IsCalledAlone b vs
    → ws ≡ us ++ c ∷ vs → IsCalleeStl (stepped p (field (named_of b).0 (named_of b).1)) (Some (named_of b)) ws
callee_based p b c us vs ws h i g e = record {
  steps_are = ap (λ (z : List StepTree). z ++ field (named_of b).0 (named_of b).1 ∷ []) h.steps_are;
  spelled = joined h.spelled.front (c ∷ vs) ws
      (e ∙ ap (λ (z : List Lexeme). z ++ c ∷ vs) (h.spelled.parts ∙ ap (λ (z : List Lexeme). h.spelled.front ++ z) h.spelled.behind
      ∙ append-nil h.spelled.front)) h.spelled.in_front (led c vs (single c i) g.spelled);
  formed = h.formed;
  its_base = g.free;
}

base_back : (base : Option PlacedName) → base_of (base_steps base) ≡ base
base_back None = refl
base_back (Some second) = refl

pub called_stl : (p : PathTree) (l : List ArgTree) (base : Option PlacedName) (us vs ws : List Lexeme) → IsCalleeStl p base us → SpellsArgsStl l vs
    → All IsFormedArg l → ws ≡ us ++ vs → CalledStl (call_of p l) ws
called_stl p l base us vs ws h g f e =
    let based : base_of p.steps ≡ base = ap (λ (z : List StepTree). base_of z) h.steps_are ∙ base_back base in
    let front = h.spelled.front in
    let back = h.spelled.back in
    record {
      spelled = joined front (back ++ vs) ws (e ∙ ap (λ (z : List Lexeme). z ++ vs) h.spelled.parts ∙ append_assoc front back vs) h.spelled.in_front
          (joined back vs (back ++ vs) refl (subst (λ (z : Option PlacedName). SpellsBase (sign ",") z back) (sym based) h.spelled.behind) g);
      formed = record {
        as_in_scl = record { name = h.formed; args = f };
        base = subst (λ (z : Option PlacedName). IsFreeOption z) (sym based) h.its_base;
      };
    }

-- the same call at another place
pub call_placed : (c : CallPlain) (at : Place) → IsFormedCallStl c → IsFormedCallStl (record c { place = at })
call_placed c at h = record { as_in_scl = record { name = h.as_in_scl.name; args = h.as_in_scl.args }; base = h.base }
