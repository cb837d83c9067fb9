-- Worked examples of the groups that are written, of what may stand in a group, and of the kinds of
-- groups.
use Rattle.std.specs.Prelude.{◌≡◌, ◌⊎◌, ℕ, true, false, List, [], ◌∷◌, ◌++◌, get_or, codes, refl}
use Rattle.std.specs.Fmt.{digits}
use Rattle.std.proofs.Common.{arith, ap, sym, subst, inl, inr}
use Rattle.send_model.specs.Command.{Subvol, MkFile, Write, End}
use Rattle.send_model.specs.Reading.{input}
use Rattle.send_model.specs.Receive.{run_by, receive_items, run_items}
use Rattle.send_model.specs.Guards.{guard_refuses, guard_after, refused_from, looked, receive_watched}
use Rattle.send_model.specs.Laws.{stream_of}
use Rattle.store_model.specs.Stored.{Body, Group, IsEdit, StandsForNone}
use Rattle.store_model.specs.Image.{Header, IsHeader, header_of}
use Rattle.store_model.specs.Written.{groups_from, groups_of}
use Rattle.store_model.specs.Scrub.{IsKind}
use Rattle.store_model.specs.Turns.{session_turn, with_at, one_turn, after_turns, to_the_end, interleaved, sessions_from, turns_of, turn_groups}
use Rattle.send_model.proofs.ExampleWords.{hexadecimal, uuid, reading_words, composing_words}
use Rattle.send_model.proofs.ReadingExamples.{first_stream}
use Rattle.store_model.proofs.StoredExamples.{stored_words, begin_a, edits_of_a}

unfoldable group_words : Unit {0}
unfolding digits stored_words reading_words composing_words run_by receive_items run_items guard_refuses guard_after refused_from looked receive_watched groups_from session_turn with_at one_turn after_turns to_the_end interleaved sessions_from turns_of turn_groups
group_words = tt

-- ---- what is written

groups_written : groups_of [] [] (input (first_stream ∷ [])).items ≡ begin_a ∷ edits_of_a ∷ []
unfolding group_words begin_a edits_of_a first_stream
groups_written = refl

turn_groups_written : turn_groups (turns_of [] (0 ∷ []) (first_stream ∷ []) [] (0 ∷ [])).events ≡ begin_a ∷ edits_of_a ∷ []
unfolding group_words begin_a edits_of_a first_stream
turn_groups_written = refl

-- the same part as a stream of version 2
unfoldable second_version : List ℕ
second_version = stream_of 2 (Subvol (uuid 0x11) 1 (codes "a") ∷ MkFile (codes "x") ∷ Write (codes "x") 0 (codes "hi") ∷ [])

-- its Body says version 2
edits_in_second : Group
edits_in_second = record { content = Body (uuid 0x11) 2 (MkFile (codes "x") ∷ Write (codes "x") 0 (codes "hi") ∷ []); is_sealed = true }

second_version_written : groups_of [] [] (input (second_version ∷ [])).items ≡ begin_a ∷ edits_in_second ∷ []
unfolding group_words begin_a edits_in_second second_version
second_version_written = refl

second_version_in_turn : turn_groups (turns_of [] (0 ∷ []) (second_version ∷ []) [] (0 ∷ [])).events ≡ begin_a ∷ edits_in_second ∷ []
unfolding group_words begin_a edits_in_second second_version
second_version_in_turn = refl

-- ---- what may stand in a group

-- neither END nor a head among the edits of a Body
no_end_inside : (version : ℕ) → IsEdit version End → ⊥
no_end_inside version h = let e : false ≡ true = h.0 in cc

no_head_inside : (version : ℕ) → IsEdit version (Subvol (uuid 0x11) 1 (codes "a")) → ⊥
no_head_inside version h = let e : false ≡ true = h.0 in cc

-- ---- kinds

no_kind_0 : (format : ℕ) → IsKind format 0 → ⊥
no_kind_0 format kind = absurd (omega (arith, kind.0))

no_kind_7 : (format : ℕ) → IsKind format 7 → ⊥
no_kind_7 format kind = absurd (omega (arith, kind.1))

-- ---- formats

-- neither 0 nor 3 is the number of a format
is_1_or_2 : (header : Header) → IsHeader header → (header.format ≡ 1) ⊎ (header.format ≡ 2)
is_1_or_2 header is = is.format

no_format_0 : (number : ℕ) → IsHeader (record { format = 0; number = number }) → ⊥
no_format_0 number is = absurd (elim (is_1_or_2 (record { format = 0; number = number }) is) [ inl e ↦ omega (arith, e) | inr e ↦ omega (arith, e) ])

no_format_3 : (number : ℕ) → IsHeader (record { format = 3; number = number }) → ⊥
no_format_3 number is = absurd (elim (is_1_or_2 (record { format = 3; number = number }) is) [ inl e ↦ omega (arith, e) | inr e ↦ omega (arith, e) ])

-- so no image with such a header stands for a store: the header is at fault
unfoldable format_0 : List ℕ
format_0 = hexadecimal (codes "736e6473746f726500000000000000000001000000")

-- the ninth byte of a header
abbrev ninth : List ℕ → ℕ
ninth bytes = get_or bytes 8 0

ninth_of : (format number : ℕ) (rest : List ℕ) → (format ≡ 1) ⊎ (format ≡ 2) → ninth (header_of (record { format = format; number = number }) ++ rest) ≡ format
ninth_of format number rest (inl is) = subst (λ (n : ℕ). ninth (header_of (record { format = n; number = number }) ++ rest) ≡ n) (sym is) refl
ninth_of format number rest (inr is) = subst (λ (n : ℕ). ninth (header_of (record { format = n; number = number }) ++ rest) ≡ n) (sym is) refl

format_0_fails : StandsForNone format_0 0
unfolding format_0
format_0_fails has =
    let at : ninth format_0 ≡ ninth (header_of has.header ++ has.rest) = ap ninth has.bytes in
    let is : ninth (header_of has.header ++ has.rest) ≡ has.header.format = ninth_of has.header.format has.header.number has.rest has.lawful.format in
    let none : ninth format_0 ≡ 0 = refl in
    absurd (elim has.lawful.format [ inl e ↦ omega (arith, at, is, none, e) | inr e ↦ omega (arith, at, is, none, e) ])
