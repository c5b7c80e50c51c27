-- The examples of document 02, request 2, come out as it says.
use mathlib.Core.Bool.{false}
use mathlib.Core.List.{[], ◌∷◌}
use mathlib.Core.Path.{refl}
use Rattle.reader.specs.Leb128.{uleb_at, sleb_at, leb128, extent, through}
use Rattle.reader.specs.Padded.{uleb_counted_at, sleb_counted_at}
use Rattle.reader.specs.Twos.{twos}
use Rattle.reader.specs.Words.{number, word_at, spelled}
use Rattle.reader.specs.Fields.{skip_at}
use Rattle.reader.specs.declared.endianity.RunTimeEndian.TheVariants.{Little, Big}
use Rattle.attribute.specs.Forms.{forms, row_in, row}
use Rattle.attribute.specs.Padded.{is_padded, any_padded, layout_numbers, chain, form_numbers}
use Rattle.attribute.specs.Read.{numbered, block_after, raw_at, resolve, final_form, form_at, numbers_at, attribute_at}
use Rattle.std.specs.Prelude.{All}
use Rattle.std.proofs.lemmas.List.Elements.{All-from_recursion}
use Rattle.readings.specs.Examples.{value, examples, HoldsExample}

-- a count of one byte is the same in either order
one_byte : HoldsExample (value 0x0a (0x00 ∷ []) false)
unfolding number word_at spelled skip_at forms row_in row any_padded layout_numbers chain form_numbers block_after raw_at resolve final_form form_at numbers_at attribute_at
one_byte start c Little x = refl
one_byte start c Big x = refl

pub all_examples : All HoldsExample examples
unfolding uleb_at sleb_at leb128 extent through uleb_counted_at sleb_counted_at number twos word_at spelled skip_at forms row_in row is_padded any_padded layout_numbers chain form_numbers numbered block_after raw_at resolve final_form form_at numbers_at attribute_at
all_examples =
    All-from_recursion HoldsExample examples
    (refl, (refl, (refl, (refl, (refl, (refl, ((λ start c e x. refl), ((λ start c e x. refl), ((λ start c e x. refl), ((λ start c e x. refl), ((λ start c e x. refl), (one_byte, tt))))))))))))
