-- What a version can say can be written in it.
use Rattle.std.specs.Prelude.{ℕ, List, [], ◌∷◌}
use Rattle.send_model.specs.Attribute.{Field, Identifier, Number, ShortNumber, Moment, Bytes, FieldFits, FieldsFit}
use Rattle.send_model.specs.Command.{Command, kind_of, row, fields_of}
use Rattle.send_model.specs.Spelling.{IsSpellable}
use Rattle.send_commands.specs.Writing.{FieldShort, FieldsShort, IsWritable}

fits_is_short : (version kind : ℕ) (f : Field) → FieldFits version kind f → FieldShort version kind f
fits_is_short version kind (Identifier bytes) h = tt
fits_is_short version kind (Number n) h = tt
fits_is_short version kind (ShortNumber n) h = tt
fits_is_short version kind (Moment t) h = h.1
fits_is_short version kind (Bytes bytes) h = h.0

all_short : (version : ℕ) (kinds : List ℕ) (fields : List Field) → FieldsFit version kinds fields → FieldsShort version kinds fields
all_short version [] [] h = tt
all_short version [] (f ∷ fields) h = h
all_short version (kind ∷ kinds) [] h = h
all_short version (kind ∷ kinds) (f ∷ fields) h = (fits_is_short version kind f h.0, all_short version kinds fields h.1)

pub spellable_is_writable : (version : ℕ) (c : Command) → IsSpellable version c → IsWritable version c
unfolding IsWritable
spellable_is_writable version c h = all_short version (row (kind_of c)).wanted (fields_of c) h.values
