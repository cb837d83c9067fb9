-- Worked examples of words through `escaped:`, of names of files and of their lengths, of how many
-- files take turns, and of words that read.
use Rattle.std.specs.Prelude.{◌≡◌, ℕ, List, [], ◌∷◌, ◌++◌, replicate, map, None, Some, is_some, true, codes, refl}
use Rattle.send_model.specs.Overridden.{no_override}
use Rattle.program_model.specs.Requests.{InStore, Compose, Export, Init, Drop, Receive, ListAll, Show, Cat, Scrub, Send, Restore, request_in}
use Rattle.program_model.specs.FileWords.{given_name, overrides_in}
use Rattle.program_model.proofs.RequestExamples.{words_read}

-- ---- names and paths

-- the escaped form of a name with a blank, of each word that takes one
unfoldable blank : List ℕ
blank = codes "escaped:x" ++ 0x5c ∷ codes "x20y"

named_words : (request_in (codes "show" ∷ codes "st" ∷ blank ∷ []) ≡ Some (Show (codes "st") (codes "x y")))
    × (request_in (codes "drop" ∷ codes "st" ∷ blank ∷ []) ≡ Some (Drop (codes "st") (codes "x y")))
    × (request_in (codes "cat" ∷ codes "st" ∷ blank ∷ blank ∷ []) ≡ Some (Cat (codes "st") (codes "x y") (codes "x y")))
    × (request_in (codes "send" ∷ codes "st" ∷ blank ∷ []) ≡ Some (Send (codes "st") (codes "x y")))
    × (request_in (codes "restore" ∷ codes "st" ∷ blank ∷ []) ≡ Some (Restore (codes "st") (codes "x y")))
unfolding words_read blank
named_words = (refl, refl, refl, refl, refl)

-- a word that is no escaped form means nothing, wherever a name or a path stands
not_forms : map request_in ((codes "show" ∷ codes "st" ∷ codes "escaped:\\" ∷ [])
    ∷ (codes "drop" ∷ codes "st" ∷ codes "escaped:\\" ∷ [])
    ∷ (codes "send" ∷ codes "st" ∷ codes "escaped:\\" ∷ [])
    ∷ (codes "restore" ∷ codes "st" ∷ codes "escaped:\\" ∷ [])
    ∷ (codes "cat" ∷ codes "st" ∷ codes "escaped:\\" ∷ codes "x" ∷ [])
    ∷ (codes "cat" ∷ codes "st" ∷ codes "a" ∷ codes "escaped:\\" ∷ [])
    ∷ (codes "compose" ∷ codes "st" ∷ codes "name:escaped:\\" ∷ codes "f" ∷ [])
    ∷ [])
    ≡ None ∷ None ∷ None ∷ None ∷ None ∷ None ∷ None ∷ []
unfolding words_read
not_forms = refl

-- where a store or a file stands, it is a word as any other
plain_places : (request_in (codes "list" ∷ codes "escaped:\\" ∷ []) ≡ Some (ListAll (codes "escaped:\\")))
    × (request_in (codes "init" ∷ codes "escaped:\\" ∷ []) ≡ Some (Init (codes "escaped:\\")))
    × (request_in (codes "scrub" ∷ codes "escaped:\\" ∷ []) ≡ Some (Scrub (codes "escaped:\\")))
    × (request_in (codes "compose" ∷ codes "st" ∷ codes "escaped:\\" ∷ []) ≡ Some (Compose (InStore (codes "st")) (record { files = codes "escaped:\\" ∷ []; overrides = no_override ∷ [] })))
    × (request_in (codes "receive" ∷ codes "st" ∷ codes "escaped:\\" ∷ []) ≡ Some (Receive [] (codes "st") (record { files = codes "escaped:\\" ∷ []; overrides = no_override ∷ [] })))
unfolding words_read
plain_places = (refl, refl, refl, refl, refl)

-- ---- names of files

-- a name of more than 255 bytes can be given: its head refuses it
long_name : given_name (codes "name:" ++ replicate 300 97) ≡ Some (replicate 300 97)
unfolding words_read
long_name = refl

-- an escaped one too
escaped_name : overrides_in ((codes "name:" ++ blank) ∷ codes "f" ∷ []) ≡ record { name = Some (codes "x y"); parents = [] } ∷ []
unfolding words_read blank
escaped_name = refl

-- export takes names, and none behind the last file
exported_words : (request_in (codes "export" ∷ codes "st" ∷ codes "name:two" ∷ codes "a" ∷ []) ≡ Some (Export (InStore (codes "st")) (record { files = codes "a" ∷ []; overrides = record { name = Some (codes "two"); parents = [] } ∷ [] })))
    × (request_in (codes "export" ∷ codes "st" ∷ codes "a" ∷ codes "name:two" ∷ []) ≡ None)
unfolding words_read
exported_words = (refl, refl)

-- ---- files that take turns

-- ten files, and no more
ten_files : is_some (request_in (codes "interleave" ∷ codes "st" ∷ codes "9" ∷ replicate 10 (codes "a"))) ≡ true
unfolding words_read
ten_files = refl

eleven_files : request_in (codes "interleave" ∷ codes "st" ∷ codes "9" ∷ replicate 11 (codes "a")) ≡ None
unfolding words_read
eleven_files = refl
