-- What is left to read, step by step.
use Rattle.std.specs.Prelude.{◌≡◌, ◌≢◌, ℕ, suc, ◌+◌, ◌-◌, ◌≤◌, Bool, true, false, ◌&&◌, List, [], ◌∷◌, length, drop, Ok, Err, if◌then◌else◌}
use Rattle.std.proofs.Common.{refl, sym, ap, subst, ◌∙◌, arith, length-drop, drop-drop}
use Rattle.send_model.specs.Refusal.{Refusal, Truncated}
use Rattle.send_model.specs.Command.{Command, Subvol, Snapshot, MkFile, MkDir, MkNod, MkFifo, MkSock, Symlink, Rename, Link, Unlink, Rmdir, SetXattr, RemoveXattr, Write, Clone, Truncate, Chmod, Chown, Utimes, End, UpdateExtent, Fallocate, FileAttr, row, kind_of}
use Rattle.send_model.specs.Reading.{Item, Reading, Due, HeaderDue, CommandDue, due_after, may_end, with_item, go_on, ended, faulty, front_of, stream_version, header_len, frame_header_len, reads_from}
use Rattle.send_model.specs.Lengths.{only_ends}
use Rattle.send_model.proofs.Fuel.{same_fuel, header_there, front_shorter}
use Rattle.tlv_frame.specs.Feeding.{due_past}
use Rattle.cmd_reader.specs.Next.{is_last}
use Rattle.cmd_reader.specs.Left.{is_header_due, is_empty, left_from}

pub left_ended : (file : ℕ) (due : Due) (has_ended : Bool) (number offset : ℕ) (bytes : List ℕ) → due ≡ HeaderDue → has_ended ≡ true → drop offset bytes ≡ [] → left_from file due has_ended number offset bytes ≡ ended
left_ended file due has_ended number offset bytes is may none = rw (is, may, none) refl

not_empty : (bytes : List ℕ) → 1 ≤ length bytes → is_empty bytes ≡ false
not_empty [] h = absurd (omega (arith, h))
not_empty (b ∷ bytes) h = refl

and_false : (b : Bool) → b && false ≡ false
and_false true = refl
and_false false = refl

pub left_header : (file : ℕ) (has_ended : Bool) (number offset version : ℕ) (bytes : List ℕ) → stream_version (drop offset bytes) ≡ Ok version → left_from file HeaderDue has_ended number offset bytes ≡ left_from file (CommandDue version) false number (offset + header_len) bytes
unfolding reads_from
left_header file has_ended number offset version bytes e =
    let rest : List ℕ = drop offset bytes in
    let next : ℕ = offset + header_len in
    let long = header_there rest version e in
    let some : is_empty rest ≡ false = not_empty rest (omega (arith, long)) in
    let goes : has_ended && is_empty rest ≡ false = ap (λ (b : Bool). has_ended && b) some ∙ and_false has_ended in
    let after : drop header_len rest ≡ drop next bytes = drop-drop header_len offset bytes in
    ap (λ (b : Bool). if b then ended else reads_from (suc (length rest)) file HeaderDue number offset rest) goes
    ∙ ap (go_on _ _) e
    ∙ ap (reads_from (length rest) file (CommandDue version) number next) after
    ∙ same_fuel (length rest) (suc (length (drop next bytes))) file (CommandDue version) number next (drop next bytes) (omega (arith, long, length-drop header_len rest, ap (λ (l : List ℕ). length l) after)) (omega arith)

pub left_no_header : (file : ℕ) (has_ended : Bool) (number offset : ℕ) (bytes : List ℕ) (refusal : Refusal) → stream_version (drop offset bytes) ≡ Err refusal → (has_ended ≡ true → drop offset bytes ≢ []) → left_from file HeaderDue has_ended number offset bytes ≡ faulty file number offset refusal
unfolding reads_from
left_no_header file has_ended number offset bytes refusal e some =
    ap (λ (b : Bool). if b then ended else reads_from (suc (length (drop offset bytes))) file HeaderDue number offset (drop offset bytes)) (by_end has_ended (drop offset bytes) some)
    ∙ ap (go_on _ _) e
  where
    by_end : (b : Bool) (rest : List ℕ) → (b ≡ true → rest ≢ []) → b && is_empty rest ≡ false
    by_end false rest s = refl
    by_end true [] s = absurd (s refl refl)
    by_end true (x ∷ rest) s = refl

-- What is left ends at once, as one of these does.
abbrev pub EndsAtOnce : Reading → Type 0
EndsAtOnce r = (r.items ≡ []) × (only_ends r.end ≡ true)

-- Too few bytes are left for a header.
pub left_short : (file : ℕ) (has_ended : Bool) (number offset : ℕ) (bytes : List ℕ) → stream_version (drop offset bytes) ≡ Err Truncated → EndsAtOnce (left_from file HeaderDue has_ended number offset bytes)
left_short file has_ended number offset bytes e = by_end has_ended (drop offset bytes) refl refl
  where
    cut : (b : Bool) → has_ended ≡ b → (b ≡ true → drop offset bytes ≢ []) → EndsAtOnce (left_from file HeaderDue has_ended number offset bytes)
    cut b is some = subst EndsAtOnce (sym (left_no_header file has_ended number offset bytes Truncated e (λ ends. some (sym is ∙ ends)))) (refl, refl)

    by_end : (b : Bool) (rest : List ℕ) → has_ended ≡ b → drop offset bytes ≡ rest → EndsAtOnce (left_from file HeaderDue has_ended number offset bytes)
    by_end true [] may none = subst EndsAtOnce (sym (left_ended file HeaderDue has_ended number offset bytes refl may none)) (refl, refl)
    by_end true (x ∷ rest) may some = cut true may (λ _ none. let q : x ∷ rest ≡ [] = sym some ∙ none in cc)
    by_end false rest may some = cut false may (λ ends. cc)

-- What is due after a command, by its number.
due_by_kind : (version : ℕ) (c : Command) → due_past version (row (kind_of c)).number ≡ due_after version c
unfolding row
due_by_kind version (Subvol _ _ _) = refl
due_by_kind version (Snapshot _ _ _ _ _) = refl
due_by_kind version (MkFile _) = refl
due_by_kind version (MkDir _) = refl
due_by_kind version (MkNod _ _ _) = refl
due_by_kind version (MkFifo _) = refl
due_by_kind version (MkSock _) = refl
due_by_kind version (Symlink _ _) = refl
due_by_kind version (Rename _ _) = refl
due_by_kind version (Link _ _) = refl
due_by_kind version (Unlink _) = refl
due_by_kind version (Rmdir _) = refl
due_by_kind version (SetXattr _ _ _) = refl
due_by_kind version (RemoveXattr _ _) = refl
due_by_kind version (Write _ _ _) = refl
due_by_kind version (Clone _ _ _ _ _ _ _) = refl
due_by_kind version (Truncate _ _) = refl
due_by_kind version (Chmod _ _) = refl
due_by_kind version (Chown _ _ _) = refl
due_by_kind version (Utimes _ _ _) = refl
due_by_kind version End = refl
due_by_kind version (UpdateExtent _ _ _) = refl
due_by_kind version (Fallocate _ _ _ _) = refl
due_by_kind version (FileAttr _ _) = refl

pub due_same : (version number : ℕ) (c : Command) → (row (kind_of c)).number ≡ number → due_past version number ≡ due_after version c
due_same version number c e = ap (due_past version) (sym e) ∙ due_by_kind version c

same_end : (version : ℕ) (c : Command) (bytes : List ℕ) → may_end (due_after version c) bytes ≡ (is_header_due (due_after version c) && is_last c) && is_empty bytes
unfolding row
same_end version End [] = refl
same_end version End (b ∷ bytes) = refl
same_end version (Subvol _ _ _) bytes = refl
same_end version (Snapshot _ _ _ _ _) bytes = refl
same_end version (MkFile _) bytes = refl
same_end version (MkDir _) bytes = refl
same_end version (MkNod _ _ _) bytes = refl
same_end version (MkFifo _) bytes = refl
same_end version (MkSock _) bytes = refl
same_end version (Symlink _ _) bytes = refl
same_end version (Rename _ _) bytes = refl
same_end version (Link _ _) bytes = refl
same_end version (Unlink _) bytes = refl
same_end version (Rmdir _) bytes = refl
same_end version (SetXattr _ _ _) bytes = refl
same_end version (RemoveXattr _ _) bytes = refl
same_end version (Write _ _ _) bytes = refl
same_end version (Clone _ _ _ _ _ _ _) bytes = refl
same_end version (Truncate _ _) bytes = refl
same_end version (Chmod _ _) bytes = refl
same_end version (Chown _ _ _) bytes = refl
same_end version (Utimes _ _ _) bytes = refl
same_end version (UpdateExtent _ _ _) bytes = refl
same_end version (Fallocate _ _ _ _) bytes = refl
same_end version (FileAttr _ _) bytes = refl

pub left_command : (file : ℕ) (has_ended : Bool) (version number offset next : ℕ) (item : Item) (bytes : List ℕ) → offset + frame_header_len ≤ next → next ≤ length bytes
    → front_of file version number offset (drop offset bytes) ≡ Ok (record { item = item; rest = drop next bytes })
    → left_from file (CommandDue version) has_ended number offset bytes ≡ with_item item (left_from file (due_after version item.command) (is_last item.command) (number + 1) next bytes)
unfolding reads_from
left_command file has_ended version number offset next item bytes further within e =
    let front : List ℕ = drop offset bytes in
    let rest : List ℕ = drop next bytes in
    let due : Due = due_after version item.command in
    let place : offset + (length front - length rest) ≡ next = omega (arith, length-drop offset bytes, length-drop next bytes, further, within) in
    let shorter = front_shorter file version number offset front _ e in
    ap (go_on _ _) e
    ∙ ap (λ (o : ℕ). with_item item (if may_end due rest then ended else reads_from (length front) file due (number + 1) o rest)) place
    ∙ ap (λ (b : Bool). with_item item (if b then ended else reads_from (length front) file due (number + 1) next rest)) (same_end version item.command rest)
    ∙ ap (λ (x : Reading). with_item item (if (is_header_due due && is_last item.command) && is_empty rest then ended else x)) (same_fuel (length front) (suc (length rest)) file due (number + 1) next rest (omega (arith, shorter)) (omega arith))

pub left_no_command : (file : ℕ) (has_ended : Bool) (version number offset : ℕ) (bytes : List ℕ) (refusal : Refusal) → front_of file version number offset (drop offset bytes) ≡ Err refusal → left_from file (CommandDue version) has_ended number offset bytes ≡ faulty file number offset refusal
unfolding reads_from
left_no_command file has_ended version number offset bytes refusal e = ap (go_on _ _) e
