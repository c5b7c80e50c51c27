-- The code's answers and values in the definitions' terms.
use Rattle.std.specs.Prelude.{cond, List, map, ℕ, Result, Some, None}
use Rattle.std.specs.Prelude as code
use Rattle.std.proofs.Math.Option.{Option, none, some}
use Rattle.reader.specs.Answer.{Answer, Read}
use Rattle.reader.specs.Twos.{word}
use Rattle.reader.specs.Views.{view, view_read_by}
use Rattle.reader.specs.declared.answer.Span.{Span}
use Rattle.reader.specs.declared.error.Error.{Error}
use Rattle.attribute.specs.Attributes.{Stored}
use Rattle.attribute.specs.Read.{Numbers}
use Rattle.attribute.specs.Steps.{Noted}
use Rattle.attribute.specs.Value.{Attribute}
use Rattle.attribute.specs.declared.form.Kind.{Kind}
use Rattle.attribute.specs.declared.form.Kind.TheVariants as K
use Rattle.attribute.specs.declared.parse.Attributes.{Attributes}
use Rattle.attribute.specs.declared.raw.Final.{Final}
use Rattle.attribute.specs.declared.raw.FormValue.{FormValue}
use Rattle.attribute.specs.declared.raw.Raw.{Raw}
use Rattle.attribute.specs.declared.value.Attribute as declared_attribute
use Rattle.attribute.specs.declared.value.AttributeValue.{AttributeValue}
use Rattle.attribute.specs.declared.value.AttributeValue.TheVariants as case
use Rattle.attribute.specs.declared.value.Value.{Value}

abbrev pub value : Kind → ℕ → ℕ → Value
value k l h = record { kind = k; low = l; high = h }

-- each case of `AttributeValue`: its number (`case_of`) and its values
abbrev pub view_value : AttributeValue → Value
view_value (case.Addr n) = value K.Addr n 0
view_value (case.Block a n) = value K.Block a n
view_value (case.Data1 n) = value K.Data1 n 0
view_value (case.Data2 n) = value K.Data2 n 0
view_value (case.Data4 n) = value K.Data4 n 0
view_value (case.Data8 n) = value K.Data8 n 0
view_value (case.Data16 l h) = value K.Data16 l h
view_value (case.Sdata z) = value K.Sdata (word 64 z) 0
view_value (case.Udata n) = value K.Udata n 0
view_value (case.Exprloc a n) = value K.Exprloc a n
view_value (case.Flag b) = value K.Flag (cond b 1 0) 0
view_value (case.SecOffset n) = value K.SecOffset n 0
view_value (case.DebugAddrIndex n) = value K.DebugAddrIndex n 0
view_value (case.UnitRef n) = value K.UnitRef n 0
view_value (case.DebugInfoRef n) = value K.DebugInfoRef n 0
view_value (case.DebugInfoRefSup n) = value K.DebugInfoRefSup n 0
view_value (case.DebugLocListsIndex n) = value K.DebugLocListsIndex n 0
view_value (case.DebugRngListsIndex n) = value K.DebugRngListsIndex n 0
view_value (case.DebugTypesRef n) = value K.DebugTypesRef n 0
view_value (case.DebugStrRef n) = value K.DebugStrRef n 0
view_value (case.DebugStrRefSup n) = value K.DebugStrRefSup n 0
view_value (case.DebugStrOffsetsIndex n) = value K.DebugStrOffsetsIndex n 0
view_value (case.DebugLineStrRef n) = value K.DebugLineStrRef n 0
view_value (case.String a n) = value K.String a n

abbrev pub view_attribute : declared_attribute.Attribute → Attribute
view_attribute a = record { name = a.name; form = a.form; padded = a.padded; value = view_value a.value }

abbrev pub noted_numbers : Raw → Noted Numbers
noted_numbers r = record { value = record { low = r.low; high = r.high }; padded = r.padded }

abbrev pub view_raw : Result (Raw × ℕ) Error → Answer (Read (Noted Numbers))
view_raw r = view_read_by noted_numbers r

abbrev pub noted_form : Final → Noted ℕ
noted_form f = record { value = f.form; padded = f.padded }

abbrev pub view_final : Result (Final × ℕ) Error → Answer (Read (Noted ℕ))
view_final r = view_read_by noted_form r

abbrev pub noted_value : FormValue → Noted Value
noted_value v = record { value = value v.kind v.raw.low v.raw.high; padded = v.raw.padded }

abbrev pub view_form_value : Result (FormValue × ℕ) Error → Answer (Read (Noted Value))
view_form_value r = view_read_by noted_value r

abbrev pub view_parsed : Result (declared_attribute.Attribute × ℕ) Error → Answer (Read Attribute)
view_parsed r = view_read_by view_attribute r

abbrev pub view_attributes : Attributes → Stored
view_attributes r = record { end = view r.end; attrs = map view_attribute r.attrs }

abbrev pub view_number : code.Option ℕ → Option ℕ
view_number (Some n) = some n
view_number None = none

abbrev pub view_part : code.Option (ℕ × ℕ) → Option Span
view_part (Some (a, n)) = some (record { start = a; len = n })
view_part None = none
