-- Worked examples of words.
use Rattle.std.specs.Prelude.{◌≡◌, ◌-◌, ◌^◌, ℕ, List, [], ◌∷◌, ◌++◌, map, None, Some, codes, refl}
use Rattle.std.specs.Fmt.{digits}
use Rattle.uuid.specs.Text.{by_index}
use Rattle.send_model.specs.Guards.{MostBytes, NoDevices, guard_of}
use Rattle.send_model.specs.Printed.{is_plain, hex_digit, uuid_text}
use Rattle.program_model.specs.EscapedWords.{hex_value, unescaped, meant_by}
use Rattle.store_model.specs.Turns.{schedule_of}
use Rattle.program_model.specs.TurnWords.{turn_files}
use Rattle.program_model.specs.Requests.{Nothing, InStore, Compose, Audit, Dump, Text, Pack, Drop, Receive, Cat, Scrub, Send, Restore, Stream, Tar, Squash, Interleave, guarded, commands, taken_by, request_in}
use Rattle.program_model.specs.FileWords.{GivenFiles, given_parent, given_from, given_in}
use Rattle.send_model.specs.Overridden.{no_override}
use Rattle.send_model.proofs.ExampleWords.{key}
use Rattle.store_model.specs.StoreLines.{parent_text}

unfoldable pub words_read : Unit {0}
unfolding guard_of schedule_of turn_files given_from guarded commands taken_by request_in unescaped hex_value is_plain digits hex_digit uuid_text by_index
words_read = tt

-- a subvolume that is sent, and one that is restored
sent_words : request_in (codes "send" ∷ codes "st" ∷ codes "a" ∷ []) ≡ Some (Send (codes "st") (codes "a"))
unfolding words_read
sent_words = refl

restored_words : request_in (codes "restore" ∷ codes "st" ∷ codes "a" ∷ []) ≡ Some (Restore (codes "st") (codes "a"))
unfolding words_read
restored_words = refl

-- the stream that was received
streamed_words : request_in (codes "stream" ∷ codes "st" ∷ codes "a" ∷ []) ≡ Some (Stream (codes "st") (codes "a"))
unfolding words_read
streamed_words = refl

abbrev given_a : GivenFiles
given_a = record { files = codes "a" ∷ []; overrides = no_override ∷ [] }

-- one file is squashed, over nothing or over a store, and no second one
squashed_words : (request_in (codes "squash" ∷ codes "none" ∷ codes "a" ∷ []) ≡ Some (Squash Nothing given_a))
    × (request_in (codes "squash" ∷ codes "st" ∷ codes "a" ∷ []) ≡ Some (Squash (InStore (codes "st")) given_a))
    × (request_in (codes "squash" ∷ codes "none" ∷ []) ≡ None)
    × (request_in (codes "squash" ∷ codes "none" ∷ codes "a" ∷ codes "b" ∷ []) ≡ None)
unfolding words_read
squashed_words = (refl, refl, refl, refl)

-- an archive
archived_words : request_in (codes "tar" ∷ codes "st" ∷ codes "a" ∷ []) ≡ Some (Tar (codes "st") (codes "a"))
unfolding words_read
archived_words = refl

-- a word more means nothing
one_more : request_in (codes "send" ∷ codes "st" ∷ codes "a" ∷ codes "b" ∷ []) ≡ None
unfolding words_read
one_more = refl

-- words on streams and over a store mean what they meant
dumped_words : request_in (codes "dump" ∷ codes "a" ∷ []) ≡ Some (Dump (codes "a"))
unfolding words_read
dumped_words = refl

text_words : request_in (codes "text" ∷ codes "a" ∷ []) ≡ Some (Text (codes "a"))
unfolding words_read
text_words = refl

pack_words : request_in (codes "pack" ∷ codes "a" ∷ []) ≡ Some (Pack (codes "a"))
unfolding words_read
pack_words = refl

scrubbed_words : request_in (codes "scrub" ∷ codes "st" ∷ []) ≡ Some (Scrub (codes "st"))
unfolding words_read
scrubbed_words = refl

-- two files that take turns, the second with two guards
turn_words : request_in (codes "interleave" ∷ codes "st" ∷ codes "011" ∷ codes "a" ∷ codes "guard:bytes=7" ∷ codes "guard:nodev" ∷ codes "b" ∷ [])
    ≡ Some (Interleave (codes "st") (0 ∷ 1 ∷ 1 ∷ []) (record { guards = MostBytes 7 ∷ NoDevices ∷ []; shares = 0 ∷ 2 ∷ []; files = codes "a" ∷ codes "b" ∷ [] }))
unfolding words_read
turn_words = refl

-- a turn of a file that is not there, a guard behind the last file, and no turn
no_such_file : request_in (codes "interleave" ∷ codes "st" ∷ codes "2" ∷ codes "a" ∷ codes "b" ∷ []) ≡ None
unfolding words_read
no_such_file = refl

last_guard : request_in (codes "interleave" ∷ codes "st" ∷ codes "0" ∷ codes "a" ∷ codes "guard:nodev" ∷ []) ≡ None
unfolding words_read
last_guard = refl

no_turn : request_in (codes "interleave" ∷ codes "st" ∷ [] ∷ codes "a" ∷ []) ≡ None
unfolding words_read
no_turn = refl

-- names stand in front of files, behind the guards and the store
named_words : request_in (codes "audit" ∷ codes "guard:nodev" ∷ codes "none" ∷ codes "a" ∷ codes "name:two" ∷ codes "b" ∷ [])
    ≡ Some (Audit (NoDevices ∷ []) Nothing (record { files = codes "a" ∷ codes "b" ∷ []; overrides = no_override ∷ record { name = Some (codes "two"); parents = [] } ∷ [] }))
unfolding words_read
named_words = refl

named_files : given_in (codes "a" ∷ codes "name:two" ∷ codes "b" ∷ [])
    ≡ Some (record { files = codes "a" ∷ codes "b" ∷ []; overrides = no_override ∷ record { name = Some (codes "two"); parents = [] } ∷ [] })
unfolding words_read
named_files = refl

-- a parent, spelled as `list` prints it
abbrev ones : List ℕ
ones = codes "parent:11111111-1111-1111-1111-111111111111:9"

abbrev twos : List ℕ
twos = codes "parent:22222222-2222-2222-2222-222222222222:18446744073709551615"

one_parent : given_parent ones ≡ Some (key 0x11 9)
unfolding words_read
one_parent = refl

as_list_prints : ones ≡ codes "parent:" ++ parent_text (Some (key 0x11 9))
unfolding words_read
as_list_prints = refl

greatest_number : given_parent twos ≡ Some (key 0x22 (2 ^ 64 - 1))
unfolding words_read
greatest_number = refl

-- other spellings, a number that is too great, and words that stop short
zero_in_front : given_parent (codes "parent:11111111-1111-1111-1111-111111111111:09") ≡ None
unfolding words_read
zero_in_front = refl

upper_digits : given_parent (codes "parent:AAAAAAAA-1111-1111-1111-111111111111:9") ≡ None
unfolding words_read
upper_digits = refl

no_hyphens : given_parent (codes "parent:11111111111111111111111111111111:9") ≡ None
unfolding words_read
no_hyphens = refl

too_great : given_parent (codes "parent:11111111-1111-1111-1111-111111111111:18446744073709551616") ≡ None
unfolding words_read
too_great = refl

no_number : given_parent (codes "parent:11111111-1111-1111-1111-111111111111:") ≡ None
unfolding words_read
no_number = refl

no_colon : given_parent (codes "parent:11111111-1111-1111-1111-111111111111 9") ≡ None
unfolding words_read
no_colon = refl

something_behind : given_parent (codes "parent:11111111-1111-1111-1111-111111111111:9 ") ≡ None
unfolding words_read
something_behind = refl

-- names and parents in front of one file, in any order
in_any_order : given_in (ones ∷ codes "name:two" ∷ twos ∷ codes "a" ∷ codes "b" ∷ [])
    ≡ Some (record {
      files = codes "a" ∷ codes "b" ∷ [];
      overrides = record { name = Some (codes "two"); parents = key 0x11 9 ∷ key 0x22 (2 ^ 64 - 1) ∷ [] } ∷ no_override ∷ [];
    })
unfolding words_read
in_any_order = refl

-- a UUID twice in front of one file, and once in front of each of two
uuid_twice : given_in (ones ∷ codes "parent:11111111-1111-1111-1111-111111111111:8" ∷ codes "a" ∷ []) ≡ None
unfolding words_read
uuid_twice = refl

uuid_for_each : given_in (ones ∷ codes "a" ∷ ones ∷ codes "b" ∷ [])
    ≡ Some (record {
      files = codes "a" ∷ codes "b" ∷ [];
      overrides = record { name = None; parents = key 0x11 9 ∷ [] } ∷ record { name = None; parents = key 0x11 9 ∷ [] } ∷ [];
    })
unfolding words_read
uuid_for_each = refl

parent_of_no_file : given_in (codes "a" ∷ ones ∷ []) ≡ None
unfolding words_read
parent_of_no_file = refl

parent_words : request_in (codes "receive" ∷ codes "st" ∷ ones ∷ codes "a" ∷ [])
    ≡ Some (Receive [] (codes "st") (record { files = codes "a" ∷ []; overrides = record { name = None; parents = key 0x11 9 ∷ [] } ∷ [] }))
unfolding words_read
parent_words = refl

bad_parent : request_in (codes "receive" ∷ codes "st" ∷ codes "parent:11" ∷ codes "a" ∷ []) ≡ None
unfolding words_read
bad_parent = refl

-- a store may be called so, and so may a file that is given as another path to it
store_so_called : request_in (codes "compose" ∷ codes "name:x" ∷ codes "./name:y" ∷ [])
    ≡ Some (Compose (InStore (codes "name:x")) (record { files = codes "./name:y" ∷ []; overrides = no_override ∷ [] }))
unfolding words_read
store_so_called = refl

-- a name in front of no file, and two in front of one
no_file_behind : request_in (codes "receive" ∷ codes "st" ∷ codes "a" ∷ codes "name:two" ∷ []) ≡ None
unfolding words_read
no_file_behind = refl

only_a_name : request_in (codes "compose" ∷ codes "none" ∷ codes "name:two" ∷ []) ≡ None
unfolding words_read
only_a_name = refl

two_names : request_in (codes "compose" ∷ codes "none" ∷ codes "name:one" ∷ codes "name:two" ∷ codes "a" ∷ []) ≡ None
unfolding words_read
two_names = refl

-- receive takes the same words
received_words : request_in (codes "receive" ∷ codes "st" ∷ codes "name:two" ∷ codes "a" ∷ [])
    ≡ Some (Receive [] (codes "st") (record { files = codes "a" ∷ []; overrides = record { name = Some (codes "two"); parents = [] } ∷ [] }))
unfolding words_read
received_words = refl

-- names and paths of bytes that are no text, of a blank and a backslash, and one that begins as an
-- escaped word does
any_bytes : meant_by (codes "escaped:\\xff\\x0aok") ≡ Some (255 ∷ 10 ∷ codes "ok")
unfolding words_read
any_bytes = refl

blank_and_backslash : meant_by (codes "escaped:a\\x20b\\x5cc") ≡ Some (codes "a b\\c")
unfolding words_read
blank_and_backslash = refl

so_it_begins : meant_by (codes "escaped:escaped:a") ≡ Some (codes "escaped:a")
unfolding words_read
so_it_begins = refl

own_bytes : meant_by (codes "a b\\x20") ≡ Some (codes "a b\\x20")
unfolding words_read
own_bytes = refl

nothing_behind : meant_by (codes "escaped:") ≡ Some []
unfolding words_read
nothing_behind = refl

-- what is no escaped form: a plain byte that is escaped, capital digits, a blank, a form that is
-- cut
no_forms : map meant_by (codes "escaped:\\x41" ∷ codes "escaped:\\xFF" ∷ codes "escaped:a b" ∷ codes "escaped:\\xf" ∷ codes "escaped:\\" ∷ [])
    ≡ None ∷ None ∷ None ∷ None ∷ None ∷ []
unfolding words_read
no_forms = refl

escaped_words : request_in (codes "cat" ∷ codes "st" ∷ codes "escaped:\\xff" ∷ codes "a" ∷ []) ≡ Some (Cat (codes "st") (255 ∷ []) (codes "a"))
unfolding words_read
escaped_words = refl

no_form : request_in (codes "cat" ∷ codes "st" ∷ codes "a" ∷ codes "escaped:\\xFF" ∷ []) ≡ None
unfolding words_read
no_form = refl

not_dropped : request_in (codes "drop" ∷ codes "st" ∷ codes "escaped:\\" ∷ []) ≡ None
unfolding words_read
not_dropped = refl

not_sent : request_in (codes "restore" ∷ codes "st" ∷ codes "escaped:a b" ∷ []) ≡ None
unfolding words_read
not_sent = refl

-- a store may be called so, and a name may be given so
so_called : request_in (codes "drop" ∷ codes "escaped:\\" ∷ codes "a" ∷ []) ≡ Some (Drop (codes "escaped:\\") (codes "a"))
unfolding words_read
so_called = refl

escaped_name : given_in (codes "name:escaped:\\xff" ∷ codes "a" ∷ []) ≡ Some (record { files = codes "a" ∷ []; overrides = record { name = Some (255 ∷ []); parents = [] } ∷ [] })
unfolding words_read
escaped_name = refl

no_escaped_name : given_in (codes "name:escaped:\\xFF" ∷ codes "a" ∷ []) ≡ None
unfolding words_read
no_escaped_name = refl
