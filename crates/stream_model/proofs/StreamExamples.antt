-- A worked example: a snapshot with one edit, whose name and parent stand in its head again. The
-- bytes were made by a program that shares nothing with these definitions.
use Rattle.std.specs.Prelude.{◌≡◌, ℕ, true, List, [], ◌∷◌, Some, codes}
use Rattle.std.proofs.Common.{refl}
use Rattle.send_model.specs.Command.{MkFile}
use Rattle.send_model.specs.Store.{Entry}
use Rattle.send_model.proofs.ExampleWords.{hexadecimal, uuid, key, reading_words}
use Rattle.store_model.specs.Stored.{Group, Body, Drop}
use Rattle.stream_model.specs.OwnStream.{Edits, last_edits, own_stream, keys_asked}

-- A group that says edits.
edits_of : List ℕ → ℕ → Group
edits_of of version = record { content = Body of version (MkFile (codes "x") ∷ []); is_sealed = true }

-- The last edits of a uuid count, whatever stands behind them.
last_count : last_edits (uuid 0x22)
    (edits_of (uuid 0x22) 1 ∷ edits_of (uuid 0x22) 2 ∷ edits_of (uuid 0x33) 1 ∷ record { content = Drop (codes "b"); is_sealed = true } ∷ [])
    ≡ Some (record { version = 2; commands = MkFile (codes "x") ∷ [] })
unfolding last_edits edits_of reading_words
last_count = refl

entry : Entry (Unit {0})
entry = record { name = codes "b"; key = key 0x22 2; parent = Some (key 0x11 1); contents = Some tt }

edits : Edits
edits = record { version = 1; commands = MkFile (codes "x") ∷ [] }

-- Its stream.
stream_is : own_stream entry edits
    ≡ hexadecimal (codes "62747266732d73747265616d0001000000450000000200ca93bfed01001000222222222222222222222222222222220200080002000000000000000f0001006214001000111111111111111111111111111111111500080001000000000000000500000003002f8a36730f00010078000000001500506cc99d")
unfolding own_stream entry edits reading_words
stream_is = refl

-- The parent is asked for.
parent_asked : keys_asked entry edits ≡ key 0x11 1 ∷ []
unfolding entry edits
parent_asked = refl
