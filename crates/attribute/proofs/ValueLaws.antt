-- The numbers of a value determine it.
use mathlib.Core.Bool.{true, false, not}
use mathlib.Core.Path.{◌≡◌, refl, sym, ap, ◌∙◌}
use Prim.Native.Nat.{ℕ, ◌^◌, ◌<◌}
use native.Mathlib.Omega.{arith}
use lib.Dec.{eqb}
use lib.IntN.{ℤ}
use lib.Signed.{mag}
use Rattle.std.proofs.lemmas.Int.{of_z-to_z}
use Rattle.reader.specs.Twos.{twos, word}
use mir.Syntax.{w64}
use mir.Val.{to_z, of_z}
use Rattle.reader.proofs.Signs.{word_twos, twos_word, twos_cast}
use Rattle.attribute.specs.Views.{view_value}
use Rattle.attribute.specs.declared.form.Kind.{Kind}
use Rattle.attribute.specs.declared.form.Kind.TheVariants as K
use Rattle.attribute.specs.declared.value.AttributeValue.{AttributeValue}
use Rattle.attribute.specs.declared.value.AttributeValue.TheVariants as case
use Rattle.attribute.specs.declared.value.Value.{Value}

-- the value of a case with its numbers
unfoldable back : Kind → ℕ → ℕ → AttributeValue
back K.Addr a b = case.Addr a
back K.Block a b = case.Block a b
back K.Data1 a b = case.Data1 a
back K.Data2 a b = case.Data2 a
back K.Data4 a b = case.Data4 a
back K.Data8 a b = case.Data8 a
back K.Data16 a b = case.Data16 a b
back K.Sdata a b = case.Sdata (twos 64 a)
back K.Udata a b = case.Udata a
back K.Exprloc a b = case.Exprloc a b
back K.Flag a b = case.Flag (not (eqb a 0))
back K.SecOffset a b = case.SecOffset a
back K.DebugAddrIndex a b = case.DebugAddrIndex a
back K.UnitRef a b = case.UnitRef a
back K.DebugInfoRef a b = case.DebugInfoRef a
back K.DebugInfoRefSup a b = case.DebugInfoRefSup a
back K.DebugLocListsIndex a b = case.DebugLocListsIndex a
back K.DebugRngListsIndex a b = case.DebugRngListsIndex a
back K.DebugTypesRef a b = case.DebugTypesRef a
back K.DebugStrRef a b = case.DebugStrRef a
back K.DebugStrRefSup a b = case.DebugStrRefSup a
back K.DebugStrOffsetsIndex a b = case.DebugStrOffsetsIndex a
back K.DebugLineStrRef a b = case.DebugLineStrRef a
back K.String a b = case.String a b

-- a signed number of 64 bits, where there is one
abbrev pub Held : AttributeValue → Type 0
Held (case.Addr a) = Unit {0}
Held (case.Block a b) = Unit {0}
Held (case.Data1 a) = Unit {0}
Held (case.Data2 a) = Unit {0}
Held (case.Data4 a) = Unit {0}
Held (case.Data8 a) = Unit {0}
Held (case.Data16 a b) = Unit {0}
Held (case.Sdata z) = mag z < 2 ^ 63
Held (case.Udata a) = Unit {0}
Held (case.Exprloc a b) = Unit {0}
Held (case.Flag a) = Unit {0}
Held (case.SecOffset a) = Unit {0}
Held (case.DebugAddrIndex a) = Unit {0}
Held (case.UnitRef a) = Unit {0}
Held (case.DebugInfoRef a) = Unit {0}
Held (case.DebugInfoRefSup a) = Unit {0}
Held (case.DebugLocListsIndex a) = Unit {0}
Held (case.DebugRngListsIndex a) = Unit {0}
Held (case.DebugTypesRef a) = Unit {0}
Held (case.DebugStrRef a) = Unit {0}
Held (case.DebugStrRefSup a) = Unit {0}
Held (case.DebugStrOffsetsIndex a) = Unit {0}
Held (case.DebugLineStrRef a) = Unit {0}
Held (case.String a b) = Unit {0}

back_view : (v : AttributeValue) → Held v → back (view_value v).kind (view_value v).low (view_value v).high ≡ v
unfolding back
back_view (case.Addr a) h = refl
back_view (case.Block a b) h = refl
back_view (case.Data1 a) h = refl
back_view (case.Data2 a) h = refl
back_view (case.Data4 a) h = refl
back_view (case.Data8 a) h = refl
back_view (case.Data16 a b) h = refl
back_view (case.Sdata z) h = ap case.Sdata (twos_word 64 z (omega arith) h)
back_view (case.Udata a) h = refl
back_view (case.Exprloc a b) h = refl
back_view (case.Flag true) h = refl
back_view (case.Flag false) h = refl
back_view (case.SecOffset a) h = refl
back_view (case.DebugAddrIndex a) h = refl
back_view (case.UnitRef a) h = refl
back_view (case.DebugInfoRef a) h = refl
back_view (case.DebugInfoRefSup a) h = refl
back_view (case.DebugLocListsIndex a) h = refl
back_view (case.DebugRngListsIndex a) h = refl
back_view (case.DebugTypesRef a) h = refl
back_view (case.DebugStrRef a) h = refl
back_view (case.DebugStrRefSup a) h = refl
back_view (case.DebugStrOffsetsIndex a) h = refl
back_view (case.DebugLineStrRef a) h = refl
back_view (case.String a b) h = refl

pub value_determined : (v w : AttributeValue) → Held v → Held w → view_value v ≡ view_value w → v ≡ w
value_determined v w h k e =
    sym (back_view v h) ∙ ap (λ (x : Value). back x.kind x.low x.high) e ∙ back_view w k

-- a word through its signed number
pub word_kept : (z : ℤ) (n : ℕ) → z ≡ twos 64 n → n < 2 ^ 64 → word 64 (to_z w64 (of_z w64 z)) ≡ n
word_kept z n e h = rw (e, ← twos_cast n h, of_z-to_z w64 n h, twos_cast n h) (word_twos 64 n h)
