-- Worked examples of guards: which command of a small stream each one refuses, and with what it had
-- counted; and guard words.
use Rattle.std.specs.Prelude.{◌≡◌, ℕ, true, false, List, [], ◌∷◌, ◌++◌, None, Some, codes, refl, map}
use Rattle.send_model.specs.Refusal.{Guarded}
use Rattle.send_model.specs.Command.{MkNod, Write, Clone, Truncate, Fallocate, Subvol, MkDir, MkFifo, MkSock, Unlink, UpdateExtent}
use Rattle.send_model.specs.Receive.{run_by, byte_cells}
use Rattle.send_model.specs.Guards.{GuardSpec, MostBytes, MostCommands, NoDevices, MostEnd, Guard, new_guard, guard_refuses, guard_after, guarded, refused_from, looked, receive_watched, receive_under, guard_of}
use Rattle.send_model.specs.Reading.{Whole}
use Rattle.send_model.specs.Words.{new_guards}
use Rattle.send_model.proofs.ExampleWords.{hexadecimal, uuid, key, reading_words, composing_words, items}
use Rattle.send_model.proofs.ReadingExamples.{first_stream}

unfoldable guard_words : Unit {0}
unfolding reading_words composing_words run_by receive_under receive_watched guard_refuses guard_after refused_from looked
guard_words = tt

-- A file with two writes, of eight bytes and of one, as an assembler independent of this program
-- makes it.
unfoldable two_writes : List ℕ
two_writes =
    hexadecimal (codes "62747266732d73747265616d0001000000")
    ++ hexadecimal (codes "250000000100333343ee01001000111111111111111111111111111111110200080001000000000000000f00010061")
    ++ hexadecimal (codes "0500000003002f8a36730f00010078")
    ++ hexadecimal (codes "1d0000000f002fc80b650f00010078120008000000000000000000130008003132333435363738")
    ++ hexadecimal (codes "160000000f0026ed150f0f000100781200080008000000000000001300010039")
    ++ hexadecimal (codes "000000001500506cc99d")

-- Eight bytes are allowed, and the ninth is not. The count is the one before the refused command.
nine_bytes : (receive_under [] (new_guard (MostBytes 8) ∷ new_guard NoDevices ∷ []) (two_writes ∷ [])).refused ≡ Some (record { file = 1; command = 4; offset = 118; refusal = Guarded 0 8 })
unfolding two_writes guard_words
nine_bytes = refl

-- Guards before the one that refuses have gone on, and those after it have not looked.
some_looked : (receive_under [] (new_guard (MostEnd 9) ∷ new_guard (MostBytes 8) ∷ new_guard (MostCommands 9) ∷ []) (two_writes ∷ [])).state.guards
    ≡ record { spec = MostEnd 9; used = 9 } ∷ record { spec = MostBytes 8; used = 8 } ∷ record { spec = MostCommands 9; used = 3 } ∷ []
unfolding two_writes guard_words
some_looked = refl

-- The fourth command is refused, which is END, and so the part stays unfinished.
four_commands : (receive_under [] (new_guard (MostCommands 3) ∷ []) (first_stream ∷ [])).refused ≡ Some (record { file = 1; command = 4; offset = 112; refusal = Guarded 0 3 })
unfolding first_stream guard_words
four_commands = refl

stays_unfinished : (receive_under [] (new_guard (MostCommands 3) ∷ []) (first_stream ∷ [])).state.state.store ≡ record { name = codes "a"; key = key 0x11 1; parent = None; contents = None } ∷ []
unfolding first_stream guard_words
stays_unfinished = refl

-- A guard is asked before the edit: a command that both refuse is the guard's.
guard_first : (receive_watched 0 byte_cells [] (new_guard (MostCommands 1) ∷ [])
    (record { items = items (Subvol (uuid 0x11) 1 (codes "a") ∷ Unlink (codes "q") ∷ []); end = Whole })).refused
    ≡ Some (record { file = 1; command = 1; offset = 0; refusal = Guarded 0 1 })
unfolding guard_words
guard_first = refl

-- ---- what each looks at

abbrev with_used : GuardSpec → ℕ → Guard
with_used spec used = record { spec = spec; used = used }

no_device : guarded (new_guard NoDevices ∷ []) (MkNod 0o20644 259 (codes "d")) ≡ Some (Guarded 0 0)
unfolding guard_words
no_device = refl

-- Devices alone: no fifo, socket or directory.
no_other_kind : map (guard_refuses (new_guard NoDevices)) (MkFifo [] ∷ MkSock [] ∷ MkDir [] ∷ []) ≡ false ∷ false ∷ false ∷ []
unfolding guard_words
no_other_kind = refl

-- The place in a refusal is that of the guard which refused, and not how many there are.
second_refuses : guarded (new_guard (MostCommands 9) ∷ new_guard NoDevices ∷ []) (MkNod 0o20644 259 (codes "d")) ≡ Some (Guarded 1 0)
unfolding guard_words
second_refuses = refl

-- The bytes of a CLONE are not counted.
clone_uncounted : guard_refuses (new_guard (MostBytes 8)) (Clone (codes "x") 4_096 (uuid 0x11) 1 (codes "y") 0 4_096) ≡ false
unfolding guard_words
clone_uncounted = refl

-- A WRITE with data, a CLONE and a TRUNCATE end somewhere; a WRITE of no bytes and a FALLOCATE end
-- nowhere.
ends_above : guard_refuses (with_used (MostEnd 10) 0) (Write (codes "x") 9 (1 ∷ 2 ∷ [])) ≡ true
unfolding guard_words
ends_above = refl

ends_at : guard_after (with_used (MostEnd 10) 4) (Write (codes "x") 8 (1 ∷ 2 ∷ [])) ≡ with_used (MostEnd 10) 10
unfolding guard_words
ends_at = refl

ends_below : guard_after (with_used (MostEnd 10) 9) (Truncate 3 (codes "x")) ≡ with_used (MostEnd 10) 9
unfolding guard_words
ends_below = refl

cut_above : guard_refuses (with_used (MostEnd 10) 0) (Truncate 11 (codes "x")) ≡ true
unfolding guard_words
cut_above = refl

clone_above : guard_refuses (with_used (MostEnd 4_096) 0) (Clone (codes "x") 4_096 (uuid 0x11) 1 (codes "y") 0 1) ≡ true
unfolding guard_words
clone_above = refl

no_bytes : guard_refuses (with_used (MostEnd 10) 0) (Write (codes "x") 11 []) ≡ false
unfolding guard_words
no_bytes = refl

fallocate_unseen : guard_refuses (with_used (MostEnd 10) 0) (Fallocate 11 (codes "x") 0 0) ≡ false
unfolding guard_words
fallocate_unseen = refl

extent_unseen : guard_refuses (new_guard (MostEnd 0)) (UpdateExtent 1 [] 0) ≡ false
unfolding guard_words
extent_unseen = refl

-- ---- words

word_bytes : guard_of (codes "guard:bytes=008") ≡ Some (MostBytes 8)
unfolding guard_of
word_bytes = refl

word_commands : guard_of (codes "guard:commands=18446744073709551615") ≡ Some (MostCommands 18_446_744_073_709_551_615)
unfolding guard_of
word_commands = refl

word_devices : guard_of (codes "guard:nodev") ≡ Some NoDevices
unfolding guard_of
word_devices = refl

word_end : guard_of (codes "guard:end=4096") ≡ Some (MostEnd 4_096)
unfolding guard_of
word_end = refl

-- One more than a number of 64 bits, 21 digits, no digit, another sign, and another word.
word_too_great : guard_of (codes "guard:end=18446744073709551616") ≡ None
unfolding guard_of
word_too_great = refl

word_too_long : guard_of (codes "guard:end=000000000000000000001") ≡ None
unfolding guard_of
word_too_long = refl

word_empty : guard_of (codes "guard:bytes=") ≡ None
unfolding guard_of
word_empty = refl

word_signed : guard_of (codes "guard:bytes=+1") ≡ None
unfolding guard_of
word_signed = refl

word_other : guard_of (codes "guard:nodevs") ≡ None
unfolding guard_of
word_other = refl

-- Guards stand in the order of their words.
words_in_order : new_guards (NoDevices ∷ MostBytes 8 ∷ []) ≡ new_guard NoDevices ∷ new_guard (MostBytes 8) ∷ []
words_in_order = refl
