-- The marked readings of document 01 come out as it says.
use mathlib.Core.Path.{refl}
use Rattle.reader.specs.Leb128.{uleb_at, sleb_at, leb128, extent, through}
use Rattle.reader.specs.Twos.{twos}
use Rattle.reader.specs.Words.{number, word_at, spelled}
use Rattle.reader.specs.Fields.{initial_length_at, is_address_size, address_size_at, address_at, skip_at}
use Rattle.unit.specs.Parse.{header_at, body_at, rest_at, common_at, newer_at, typed_at}
use Rattle.unit.specs.Units.{next_unit}
use Rattle.attribute.specs.Forms.{forms, row_in, row}
use Rattle.attribute.specs.Read.{numbered, constant_of, raw_at, resolve, final_form, form_at, attribute_at, attributes_at}
use Rattle.attribute.specs.Skip.{ending_of, past_layout, past_value, past_values}
use Rattle.std.specs.Prelude.{All}
use Rattle.std.proofs.lemmas.List.Elements.{All-from_recursion}
use Rattle.readings.specs.Marked.{HoldsReading, marked}

-- the one statement of document 01, "How far each contract reaches", point 4
pub all_marked : All HoldsReading marked
unfolding uleb_at sleb_at leb128 extent through number twos word_at spelled initial_length_at is_address_size address_size_at address_at skip_at next_unit header_at body_at rest_at common_at newer_at typed_at forms row_in row numbered constant_of raw_at resolve final_form form_at attribute_at attributes_at ending_of past_layout past_value past_values
all_marked =
    All-from_recursion HoldsReading marked
    (refl, (refl, (refl, (refl, (refl, (refl, (refl, (refl, (refl, (refl, ((λ c x. record { reading = λ start e. refl; skipping = λ e. refl }), ((λ c x. record { reading = λ start e. refl; skipping = λ e. refl }), tt))))))))))))
