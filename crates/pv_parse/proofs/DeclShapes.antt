-- What the names of declarations and blocks take off the stack and put there, as shapes.
use Rattle.std.proofs.Common.{List, ◌++◌, ℕ, refl}
use Rattle.pv_ll.specs.Shapes.{IsTopped}
use Rattle.pv_parse.specs.Items.{Stack}
use Rattle.pv_parse.proofs.Sure.{Sure}
use Rattle.pv_parse.proofs.Stacks.{shape_of, numbers}
use Rattle.pv_parse.proofs.DeclSorts.{DeclSort, alone, numeral, begun, next, turned, kind, array_head, struct_head, own_head, starting, one, rest, declares, constants, section_head, const_head, sections, block_name, value_type, own_fields, data_type, dropped, data_head, data_values, data_walk, code_body, data_body, new_source, more_blocks, source, DoesDecl, a_name, a_numeral, begins, follows, turns, a_type, bounded, opens, opens_own, a_start, gives, goes_on, declare, name_constants, heads, heads_constants, are_sections, names, has_value, has_fields, is_of, is_own, drops, begins_data, are_values, walks_data, a_body, a_data_body, no_blocks, are_blocks, a_source, decl_takes, decl_puts}

pub decl_leaves : (x : DeclSort) (s behind : Stack) (ts : List Sure) (more : List ℕ) → DoesDecl x s ts behind
    → IsTopped shape_of (numbers (decl_takes x) ++ more) s → IsTopped shape_of (numbers (decl_puts x) ++ more) behind
decl_leaves alone s behind ts more (a_name n p h f) k = (refl, k)
decl_leaves numeral s behind ts more (a_numeral l h) k = (refl, k)
decl_leaves begun s behind ts more (begins n p h f) k = (refl, k)
decl_leaves next s behind ts more (follows l n p h f) k = (refl, k.1)
decl_leaves turned s behind ts more (turns l f h) k = (refl, k)
decl_leaves kind s behind ts more (a_type a t h f) k = (refl, k.1)
decl_leaves array_head s behind ts more (bounded a low high p h) k = (refl, (refl, k.1))
decl_leaves struct_head s behind ts more (opens a h) k = (refl, k.1)
decl_leaves own_head s behind ts more (opens_own h) k = (refl, k)
decl_leaves starting s behind ts more (a_start o h) k = (refl, k)
decl_leaves one s behind ts more (gives l f t o h g) k = (refl, k.1.1)
decl_leaves rest s behind ts more (goes_on l a before t o new after h f g e) k = (refl, k.1.1)
decl_leaves declares s behind ts more (declare a before new after h f e) k = (refl, k.1)
decl_leaves constants s behind ts more (name_constants a before new after h f e) k = (refl, k.1)
decl_leaves section_head s behind ts more (heads a h) k = (refl, k)
decl_leaves const_head s behind ts more (heads_constants h) k = (refl, k)
decl_leaves sections s behind ts more (are_sections x new after h f e) k = (refl, k.1)
decl_leaves block_name s behind ts more (names n p h f) k = (refl, k)
decl_leaves value_type s behind ts more (has_value t x v h) k = (refl, k.1.1)
decl_leaves own_fields s behind ts more (has_fields x new after h f e) k = (refl, k.1)
decl_leaves data_type s behind ts more (is_of x n p h f) k = (refl, k.1)
decl_leaves data_type s behind ts more (is_own x new after h f e) k = (refl, k.1)
decl_leaves dropped s behind ts more (drops h) k = k
decl_leaves data_head s behind ts more (begins_data h) k = (refl, k)
decl_leaves data_values s behind ts more (are_values before new after h f e) k = (refl, k.1)
decl_leaves data_walk s behind ts more (walks_data r p before new after g i j) k = (refl, k.1)
decl_leaves (code_body l) s behind ts more (a_body b h f) k = (refl, k)
decl_leaves (data_body l) s behind ts more (a_data_body v h f) k = (refl, k)
decl_leaves new_source s behind ts more (no_blocks h) k = (refl, k)
decl_leaves (more_blocks l) s behind ts more (are_blocks before new after h f e) k = (refl, k.1)
decl_leaves (source l) s behind ts more (a_source all h f) k = (refl, k)
