-- Declarations as plain data are a set: two proofs that two of them are equal are one.
use Rattle.std.specs.Prelude.{ℕ, zero, suc, Option, ◌≡◌, refl}
use Rattle.std.specs.Coded.{Coded-set, code_by, coded_ℕ}
use Rattle.std.proofs.Props.{props}
use Rattle.pv_word.specs.declared.types.Ty.{Ty}
use Rattle.pv_word.specs.declared.types.Ty.TheVariants as ty
use Rattle.pv_types.specs.declared.declaration.Section.{Section}
use Rattle.pv_types.specs.declared.declaration.Section.TheVariants as section
use Rattle.pv_place.specs.declared.place.Place.{Place}
use Rattle.pv_types.specs.declared.name.Name.{Name}
use Rattle.pv_types.specs.declared.declaration.Literal.{Literal}
use Rattle.pv_types.specs.Tree.{VarTree, VarTree-set}

ty_number : Ty → ℕ
ty_number ty.Bool = 0
ty_number ty.Byte = 1
ty_number ty.Word = 2
ty_number ty.Dword = 3
ty_number ty.Int = 4
ty_number ty.Dint = 5
ty_number ty.Time = 6

number_ty : ℕ → Ty
number_ty zero = ty.Bool
number_ty (suc zero) = ty.Byte
number_ty (suc (suc zero)) = ty.Word
number_ty (suc (suc (suc zero))) = ty.Dword
number_ty (suc (suc (suc (suc zero)))) = ty.Int
number_ty (suc (suc (suc (suc (suc zero))))) = ty.Dint
number_ty _ = ty.Time

ty_back : (t : Ty) → number_ty (ty_number t) ≡ t
unfolding number_ty ty_number
ty_back ty.Bool = refl
ty_back ty.Byte = refl
ty_back ty.Word = refl
ty_back ty.Dword = refl
ty_back ty.Int = refl
ty_back ty.Dint = refl
ty_back ty.Time = refl

Ty-set : IsSet Ty
Ty-set = Coded-set (code_by ℕ coded_ℕ ty_number number_ty ty_back)

section_number : Section → ℕ
section_number section.Input = 0
section_number section.Output = 1
section_number section.InOut = 2
section_number section.Static = 3
section_number section.Temp = 4
section_number section.Const = 5

number_section : ℕ → Section
number_section zero = section.Input
number_section (suc zero) = section.Output
number_section (suc (suc zero)) = section.InOut
number_section (suc (suc (suc zero))) = section.Static
number_section (suc (suc (suc (suc zero)))) = section.Temp
number_section _ = section.Const

section_back : (s : Section) → number_section (section_number s) ≡ s
unfolding number_section section_number
section_back section.Input = refl
section_back section.Output = refl
section_back section.InOut = refl
section_back section.Static = refl
section_back section.Temp = refl
section_back section.Const = refl

Section-set : IsSet Section
Section-set = Coded-set (code_by ℕ coded_ℕ section_number number_section section_back)

Place-set : IsSet Place
Place-set = Prim.hlevel props

Name-set : IsSet Name
Name-set = Prim.hlevel props

Literal-set : IsSet Literal
Literal-set = Prim.hlevel (props, Ty-set, Place-set)

Start-set : IsSet (Option Literal)
Start-set = Prim.hlevel (props, Literal-set)

pub declarations-are-a-set : IsSet VarTree
declarations-are-a-set = Prim.hlevel (props, Ty-set, Section-set, Place-set, Name-set, Start-set, VarTree-set)
