-- Worked examples of the answer that is due: files as another program takes and refuses them.
use Rattle.std.specs.Prelude.{◌≡◌, ℕ, List, [], ◌∷◌, ◌++◌, None, Some, codes, refl, true, ◌<◌, length, min}
use Rattle.std.specs.Fmt.{digits}
use Rattle.send_model.specs.Refusal.{Refusal, BadVersion, Truncated, BadChecksum, NameThere, NoParent, NotConsecutive, Guarded}
use Rattle.send_model.specs.Lengths.{limit, is_too_long, too_long, too_long_from}
use Rattle.send_model.specs.Receive.{run_by}
use Rattle.send_model.specs.Guards.{MostBytes, MostCommands, NoDevices, guard_of, new_guard, guard_refuses, guard_after, refused_from, looked}
use Rattle.send_model.specs.Due.{Due, DoneWhole, RefusedAt, due_from, compose_due, limited_from, audit_due, accepted_line, file_due, TooLong, most_literal, compose_due_of}
use Rattle.send_model.specs.Words.{Request, Compose, Audit, Dump, Export, Gen, guards_and_files, request_of, StandsRefused, EndSays}
use Rattle.send_model.specs.Sources.{Sources, StandsRefusedOf, EndSaysOf}
use Rattle.send_model.specs.Reading.{Reading}
use Rattle.send_model.specs.Store.{Store}
use Rattle.send_model.specs.Headline.{IsProperFrontOf}
use Rattle.send_model.proofs.ExampleWords.{hexadecimal, reading_words, composing_words}
use Rattle.send_model.proofs.ReadingExamples.{first_stream, second_stream}
use Rattle.std.proofs.Common.{sym, ◌∙◌, ap, arith}
use Rattle.std.proofs.lemmas.List.{length-take}

unfoldable due_words : Unit {0}
unfolding digits reading_words composing_words run_by guard_refuses guard_after refused_from looked is_too_long too_long too_long_from due_from limited_from audit_due accepted_line file_due first_stream second_stream
due_words = tt

abbrev at : ℕ → ℕ → ℕ → Refusal → Due
at file command offset refusal = RefusedAt (record { file = file; command = command; offset = offset; refusal = refusal })

-- A snapshot of the first part in place of one of the second; a stream without a part, and one
-- whose checksum is zero.
abbrev third_stream : List ℕ
third_stream =
    hexadecimal (codes "62747266732d73747265616d0001000000")
    ++ hexadecimal (codes "450000000200c529d36201001000333333333333333333333333333333330200080003000000000000000f00010063140010001111111111111111111111111111111115000800010000000000000000000000")
    ++ hexadecimal (codes "1500506cc99d")

abbrev no_part : List ℕ
no_part = hexadecimal (codes "62747266732d73747265616d0001000000000000001500506cc99d")

abbrev no_checksum : List ℕ
no_checksum = hexadecimal (codes "62747266732d73747265616d000100000000000000150000000000")

-- ---- compose

in_order : compose_due [] (first_stream ∷ second_stream ∷ []) ≡ DoneWhole
unfolding due_words
in_order = refl

out_of_order : compose_due [] (first_stream ∷ second_stream ∷ third_stream ∷ []) ≡ at 3 1 17 NotConsecutive
unfolding due_words
out_of_order = refl

-- A head's own refusal comes before the order of parts.
no_parent : compose_due [] (second_stream ∷ []) ≡ at 1 1 17 NoParent
unfolding due_words
no_parent = refl

twice : compose_due [] (first_stream ∷ first_stream ∷ []) ≡ at 2 1 17 NameThere
unfolding due_words
twice = refl

nothing_there : compose_due [] (no_part ∷ []) ≡ at 1 1 17 NotConsecutive
unfolding due_words
nothing_there = refl

-- Where no file holds a part, the breach stands at the last END of all.
nothing_in_two : compose_due [] (no_part ∷ no_part ∷ []) ≡ at 2 1 17 NotConsecutive
unfolding due_words
nothing_in_two = refl

wrong_checksum : compose_due [] (no_checksum ∷ []) ≡ at 1 1 17 (BadChecksum 0 0x9dc96c50)
unfolding due_words
wrong_checksum = refl

-- The refusal of a command comes before a fault in a later file.
refused_first : compose_due [] (second_stream ∷ no_checksum ∷ []) ≡ at 1 1 17 NoParent
unfolding due_words
refused_first = refl

no_bytes : compose_due [] ([] ∷ []) ≡ at 1 1 0 Truncated
unfolding due_words
no_bytes = refl

third_version : compose_due [] (hexadecimal (codes "62747266732d73747265616d0003000000000000001500506cc99d") ∷ []) ≡ at 1 1 0 (BadVersion 3)
unfolding due_words
third_version = refl

-- A file that is too long comes before all that was read.
long_first : (n : ℕ) (base : Store ℕ) (reading : Reading) → compose_due_of (Some n) base reading ≡ TooLong n
long_first n base reading = refl

-- ---- audit, dump

-- Audit asks for no part and for no order.
nothing_audited : audit_due [] [] (no_part ∷ []) ≡ DoneWhole
unfolding due_words
nothing_audited = refl

nothing_accepted : accepted_line (no_part ∷ []) ≡ codes "accepted 0 1" ++ 10 ∷ []
unfolding due_words
nothing_accepted = refl

any_order : audit_due [] [] (first_stream ∷ second_stream ∷ third_stream ∷ []) ≡ DoneWhole
unfolding due_words
any_order = refl

two_accepted : accepted_line (first_stream ∷ second_stream ∷ []) ≡ codes "accepted 2 7" ++ 10 ∷ []
unfolding due_words
two_accepted = refl

guarded : audit_due [] (new_guard (MostCommands 3) ∷ []) (first_stream ∷ []) ≡ at 1 4 112 (Guarded 0 3)
unfolding due_words
guarded = refl

-- A guard goes on from file to file.
guarded_later : audit_due [] (new_guard (MostCommands 5) ∷ []) (first_stream ∷ second_stream ∷ []) ≡ at 2 2 96 (Guarded 0 5)
unfolding due_words
guarded_later = refl

-- A dump applies no command.
dumped : file_due second_stream ≡ DoneWhole
unfolding due_words
dumped = refl

not_dumped : file_due no_checksum ≡ at 1 1 17 (BadChecksum 0 0x9dc96c50)
unfolding due_words
not_dumped = refl

-- A long file is not dumped, whatever stands in it.
long_not_dumped : (bytes : List ℕ) → is_too_long 1 bytes ≡ true → file_due bytes ≡ TooLong 1
unfolding file_due
long_not_dumped bytes e = rw e refl

-- What stands on standard output where a dump is refused is one text, and no front part of it will
-- do.
one_text : (base : Store ℕ) (files : List (List ℕ)) (a b : List ℕ) → StandsRefused (Dump 1) base files a → StandsRefused (Dump 1) base files b → a ≡ b
one_text base files a b e f = e ∙ sym f

one_exported : (base : Store ℕ) (files : List (List ℕ)) (a b : List ℕ) → StandsRefused (Export 1 2) base files a → StandsRefused (Export 1 2) base files b → a ≡ b
one_exported base files a b e f = e ∙ sym f

one_exported_of : (base : Store ℕ) (read : Sources) (a b : List ℕ) → StandsRefusedOf (Export 1 2) base read a → StandsRefusedOf (Export 1 2) base read b → a ≡ b
one_exported_of base read a b e f = e ∙ sym f

-- And so it is of each word that did all that it was asked for.
one_whole : (request : Request) (base : Store ℕ) (files : List (List ℕ)) (a b : List ℕ) → EndSays request base files DoneWhole a → EndSays request base files DoneWhole b → a ≡ b
one_whole request base files a b e f = e ∙ sym f

one_whole_of : (request : Request) (base : Store ℕ) (read : Sources) (a b : List ℕ) → EndSaysOf request base read DoneWhole a → EndSaysOf request base read DoneWhole b → a ≡ b
one_whole_of request base read a b e f = e ∙ sym f

-- Where the output fails at an audit's line, some of the line is missing.
not_all : (all : List ℕ) → IsProperFrontOf all all → ⊥
not_all all front =
    let same : length all ≡ min front.count (length all) = ap length front.written_is ∙ length-take front.count all in
    let some : front.count < length all = front.within in
    omega (arith, some, same)

-- ---- words

composed_words : request_of (codes "compose" ∷ codes "none" ∷ codes "a" ∷ codes "b" ∷ []) ≡ Some (Compose 1 2)
unfolding request_of
composed_words = refl

no_file : request_of (codes "compose" ∷ codes "none" ∷ []) ≡ None
unfolding request_of
no_file = refl

audit_words : request_of (codes "audit" ∷ codes "guard:bytes=8" ∷ codes "guard:nodev" ∷ codes "none" ∷ codes "f" ∷ []) ≡ Some (Audit (MostBytes 8 ∷ NoDevices ∷ []) 3 4)
unfolding request_of guards_and_files guard_of
audit_words = refl

audit_alone : request_of (codes "audit" ∷ codes "none" ∷ codes "guard:x" ∷ []) ≡ Some (Audit [] 1 2)
unfolding request_of guards_and_files guard_of
audit_alone = refl

no_guard : request_of (codes "audit" ∷ codes "guard:x" ∷ codes "none" ∷ codes "f" ∷ []) ≡ None
unfolding request_of guards_and_files guard_of
no_guard = refl

guards_alone : request_of (codes "audit" ∷ codes "guard:nodev" ∷ codes "f" ∷ []) ≡ None
unfolding request_of guards_and_files guard_of
guards_alone = refl

-- A store may begin as a guard does: only `guard:` with its colon is a guard's word.
guardian_store : request_of (codes "audit" ∷ codes "guardian" ∷ codes "f" ∷ []) ≡ Some (Audit [] 1 2)
unfolding request_of guards_and_files
guardian_store = refl

gen_words : request_of (codes "gen" ∷ codes "0002" ∷ codes "7" ∷ []) ≡ Some (Gen 2 7)
unfolding request_of
gen_words = refl

no_parts : request_of (codes "gen" ∷ codes "0" ∷ codes "7" ∷ []) ≡ None
unfolding request_of
no_parts = refl

too_many_parts : request_of (codes "trial" ∷ codes "4097" ∷ codes "7" ∷ []) ≡ None
unfolding request_of
too_many_parts = refl

dump_words : request_of (codes "dump" ∷ codes "f" ∷ []) ≡ Some (Dump 1)
unfolding request_of
dump_words = refl

two_dumped : request_of (codes "dump" ∷ codes "f" ∷ codes "g" ∷ []) ≡ None
unfolding request_of
two_dumped = refl

other_word : request_of (codes "composed" ∷ codes "none" ∷ codes "f" ∷ []) ≡ None
unfolding request_of
other_word = refl

-- ---- the limits

limit_is : limit ≡ 4_611_686_018_427_387_904
limit_is = refl

most_literal_is : most_literal ≡ 1_099_511_627_776
most_literal_is = refl
