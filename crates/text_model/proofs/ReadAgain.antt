-- What is packed of streams is read as these streams, and so its text is theirs.
use Rattle.std.specs.Prelude.{◌≡◌, ◌≢◌, ℕ, zero, suc, ◌+◌, ◌-◌, ◌<◌, ◌≤◌, Bool, true, false, List, [], ◌∷◌, ◌++◌, length, None, Some, if◌then◌else◌}
use Rattle.std.proofs.Common.{refl, sym, ap, subst, ◌∙◌, arith, append_assoc, append-nil, length-append}
use Rattle.send_model.specs.Command.{Command}
use Rattle.send_model.specs.Spelling.{stream_header, canonical}
use Rattle.send_model.specs.Reading.{Item, Reading, Whole, Due, HeaderDue, CommandDue, due_after, may_end, with_item, go_on, ended, is_version, item_at, header_len, reads_from, reads}
use Rattle.send_model.specs.Counts.{is_end}
use Rattle.send_model.specs.Lines.{stream_line}
use Rattle.send_model.specs.Laws.{CanWrite}
use Rattle.send_model.proofs.Canonical.{canonical_spells, spelled_front}
use Rattle.send_model.proofs.Streams.{inner_due, header_length, header_read, after_header, canonical_long}
use Rattle.text_model.specs.Texts.{Line, Header, Says, Stream, line_bytes, lines_of_streams, text_of_lines, bytes_of_lines, text_line, text_from, text_in}
use Rattle.text_model.specs.TextLaws.{PackedIsRead}
use Rattle.text_model.specs.LineOrder as runs
use Rattle.text_model.specs.LineOrder.{Runs, due_after_line, due_behind}
use Rattle.text_model.proofs.LineRuns.{end_is, streams_run, streams_due}

-- A reading is whole, and its lines are these behind the header of a stream of this version.
record IsPrinted (version : ℕ) (r : Reading) (lines : List Line) : Type 0 where
  whole : r.end ≡ Whole
  text : text_from false r.items ≡ text_of_lines lines
  begins : text_from true r.items ≡ stream_line version ++ text_of_lines lines

-- The same where the header is one of the lines.
record IsHeaded (r : Reading) (lines : List Line) : Type 0 where
  whole : r.end ≡ Whole
  text : text_from true r.items ≡ text_of_lines lines

-- The item that is read of a command in its canonical spelling.
item_of : (file version number offset : ℕ) (c : Command) → CanWrite version c → Item
item_of file version number offset c can = item_at file version number offset (canonical_spells version c can.spellable).attributes c

-- A command is read, and reading goes on with what follows.
one_more : (version : ℕ) (item : Item) (items : List Item) (lines : List Line) (b : Bool) → item.version ≡ version → is_end item.command ≡ b
    → text_from b items ≡ text_of_lines lines → (text_from false (item ∷ items) ≡ text_line item.command ++ text_of_lines lines) × (text_from true (item ∷ items) ≡ stream_line version ++ (text_line item.command ++ text_of_lines lines))
unfolding text_from
one_more version item items lines b v is rest =
    let behind : text_from (is_end item.command) items ≡ text_of_lines lines = ap (λ (t : Bool). text_from t items) is ∙ rest in (
      ap (λ (l : List ℕ). text_line item.command ++ l) behind,
      ap (λ (l : List ℕ). (stream_line item.version ++ text_line item.command) ++ l) behind
          ∙ append_assoc (stream_line item.version) (text_line item.command) (text_of_lines lines)
          ∙ ap (λ (w : ℕ). stream_line w ++ (text_line item.command ++ text_of_lines lines)) v,
    )

-- One step of reading, by whether the command ends its stream.
step_on : (n file version number offset : ℕ) (c : Command) (can : CanWrite version c) (rest : List ℕ) (due : Due) → due_after version c ≡ due → may_end due rest ≡ false
    → reads_from (suc n) file (CommandDue version) number offset (canonical version c ++ rest)
    ≡ with_item (item_of file version number offset c can) (reads_from n file due (number + 1) (offset + (length (canonical version c ++ rest) - length rest)) rest)
unfolding reads_from item_of
step_on n file version number offset c can rest due is more =
    ap (go_on _ _) (spelled_front file version number offset (canonical version c) rest c (canonical_spells version c can.spellable))
    ∙ ap (λ (d : Due). with_item (item_of file version number offset c can) (if may_end d rest then ended else reads_from n file d (number + 1) (offset + (length (canonical version c ++ rest) - length rest)) rest)) is
    ∙ ap (λ (b : Bool). with_item (item_of file version number offset c can) (if b then ended else reads_from n file due (number + 1) (offset + (length (canonical version c ++ rest) - length rest)) rest)) more

step_last : (n file version number offset : ℕ) (c : Command) (can : CanWrite version c) → due_after version c ≡ HeaderDue
    → reads_from (suc n) file (CommandDue version) number offset (canonical version c ++ []) ≡ with_item (item_of file version number offset c can) ended
unfolding reads_from item_of
step_last n file version number offset c can is =
    ap (go_on _ _) (spelled_front file version number offset (canonical version c) [] c (canonical_spells version c can.spellable))
    ∙ ap (λ (d : Due). with_item (item_of file version number offset c can) (if may_end d [] then ended else reads_from n file d (number + 1) (offset + (length (canonical version c ++ []) - 0)) [])) is

step_header : (n file version number offset : ℕ) (rest : List ℕ) → is_version version ≡ true
    → reads_from (suc n) file HeaderDue number offset (stream_header version ++ rest) ≡ reads_from n file (CommandDue version) number (offset + header_len) rest
unfolding reads_from
step_header n file version number offset rest is =
    ap (go_on _ _) (header_read version rest is) ∙ ap (reads_from n file (CommandDue version) number (offset + header_len)) (after_header version rest)

-- What is due after END.
end_due : (version : ℕ) (c : Command) → is_end c ≡ true → due_after version c ≡ HeaderDue
end_due version c is = ap (due_after version) (end_is c is)

not_over : (version : ℕ) (rest : List ℕ) → may_end HeaderDue (stream_header version ++ rest) ≡ false
unfolding stream_header
not_over version rest = refl

-- What is read with so many steps, of commands and of headers.
abbrev Commands : ℕ → Type 0
Commands n = (file version number offset : ℕ) (lines : List Line) → Runs (Some version) lines → runs.due_after (Some version) lines ≡ None → length lines ≤ n
    → IsPrinted version (reads_from n file (CommandDue version) number offset (bytes_of_lines lines)) lines

abbrev Headers : ℕ → Type 0
Headers n = (file version number offset : ℕ) (lines : List Line) → is_version version ≡ true → Runs (Some version) lines → runs.due_after (Some version) lines ≡ None → length lines < n
    → IsHeaded (reads_from n file HeaderDue number offset (stream_header version ++ bytes_of_lines lines)) (Header version ∷ lines)

went_on : (n file version number offset : ℕ) (c : Command) (lines : List Line) (can : CanWrite version c) → is_end c ≡ false → Runs (Some version) lines → runs.due_after (Some version) lines ≡ None
    → length lines ≤ n → Commands n → IsPrinted version (reads_from (suc n) file (CommandDue version) number offset (canonical version c ++ bytes_of_lines lines)) (Says version c ∷ lines)
unfolding item_of
went_on n file version number offset c lines can inside r d few again =
    let rest : List ℕ = bytes_of_lines lines in
    let place : ℕ = offset + (length (canonical version c ++ rest) - length rest) in
    let more = again file version (number + 1) place lines r d few in
    let texts = one_more version (item_of file version number offset c can) (reads_from n file (CommandDue version) (number + 1) place rest).items lines false refl inside more.text in
    subst (λ (x : Reading). IsPrinted version x (Says version c ∷ lines)) (sym (step_on n file version number offset c can rest (CommandDue version) (inner_due version c inside) refl))
    (record { whole = more.whole; text = texts.0; begins = texts.1 })

ended_here : (n file version number offset : ℕ) (c : Command) (lines : List Line) (can : CanWrite version c) → is_end c ≡ true → Runs None lines → runs.due_after None lines ≡ None
    → length lines ≤ n → Headers n → IsPrinted version (reads_from (suc n) file (CommandDue version) number offset (canonical version c ++ bytes_of_lines lines)) (Says version c ∷ lines)
unfolding item_of text_from
ended_here n file version number offset c [] can is r d few again =
    let texts = one_more version (item_of file version number offset c can) [] [] true refl is refl in
    subst (λ (x : Reading). IsPrinted version x (Says version c ∷ [])) (sym (step_last n file version number offset c can (end_due version c is)))
    (record { whole = refl; text = texts.0; begins = texts.1 })
ended_here n file version number offset c (Header w ∷ lines) can is r d few again =
    let rest : List ℕ = stream_header w ++ bytes_of_lines lines in
    let place : ℕ = offset + (length (canonical version c ++ rest) - length rest) in
    let more = again file w (number + 1) place lines r.0 r.1 d (omega (arith, few)) in
    let texts = one_more version (item_of file version number offset c can) (reads_from n file HeaderDue (number + 1) place rest).items (Header w ∷ lines) true refl is more.text in
    subst (λ (x : Reading). IsPrinted version x (Says version c ∷ Header w ∷ lines)) (sym (step_on n file version number offset c can rest HeaderDue (end_due version c is) (not_over w (bytes_of_lines lines))))
    (record { whole = more.whole; text = texts.0; begins = texts.1 })
ended_here n file version number offset c (Says w d ∷ lines) can is r e few again = absurd r.0

by_end : (n file version number offset : ℕ) (c : Command) (lines : List Line) (b : Bool) → is_end c ≡ b → CanWrite version c → Runs (if b then None else Some version) lines
    → runs.due_after (if b then None else Some version) lines ≡ None → length lines ≤ n → Commands n → Headers n
    → IsPrinted version (reads_from (suc n) file (CommandDue version) number offset (canonical version c ++ bytes_of_lines lines)) (Says version c ∷ lines)
by_end n file version number offset c lines true is can r d few commands headers = ended_here n file version number offset c lines can is r d few headers
by_end n file version number offset c lines false is can r d few commands headers = went_on n file version number offset c lines can is r d few commands

commands_step : (n : ℕ) → Commands n → Headers n → Commands (suc n)
commands_step n commands headers file version number offset [] r d few = absurd cc
commands_step n commands headers file version number offset (Header w ∷ lines) r d few = absurd r.0
commands_step n commands headers file version number offset (Says w c ∷ lines) r d few =
    let same : w ≡ version = r.0.0 in
    subst (λ (v : ℕ). IsPrinted version (reads_from (suc n) file (CommandDue version) number offset (canonical v c ++ bytes_of_lines lines)) (Says v c ∷ lines)) (sym same)
    (by_end n file version number offset c lines (is_end c) refl r.0.1 (subst (λ (v : ℕ). Runs (due_behind v c) lines) same r.1) (subst (λ (v : ℕ). runs.due_after (due_behind v c) lines ≡ None) same d) (omega (arith, few)) commands headers)

headers_step : (n : ℕ) → Commands n → Headers (suc n)
headers_step n commands file version number offset lines is r d few =
    let more = commands file version number (offset + header_len) lines r d (omega (arith, few)) in
    subst (λ (x : Reading). IsHeaded x (Header version ∷ lines)) (sym (step_header n file version number offset (bytes_of_lines lines) is))
    (record { whole = more.whole; text = more.begins })

none_left : (lines : List Line) (version : ℕ) → runs.due_after (Some version) lines ≡ None → length lines ≤ 0 → ⊥
none_left [] version d few = absurd cc
none_left (line ∷ lines) version d few = absurd (omega (arith, few))

both : (n : ℕ) → Commands n × Headers n
both zero = (λ file version number offset lines r d few. absurd (none_left lines version d few), λ file version number offset lines is r d few. absurd (omega (arith, few)))
both (suc n) = let b = both n in (commands_step n b.0 b.1, headers_step n b.0)

-- ---- streams

line_long : (line : Line) → 1 ≤ length (line_bytes line)
line_long (Header version) = omega (arith, header_length version [], ap length (append-nil (stream_header version)))
line_long (Says version c) = omega (arith, canonical_long version c)

lines_long : (lines : List Line) → length lines ≤ length (bytes_of_lines lines)
lines_long [] = omega arith
lines_long (line ∷ lines) = omega (arith, line_long line, lines_long lines, length-append (line_bytes line) (bytes_of_lines lines))

read_lines : (lines : List Line) → Runs None lines → runs.due_after None lines ≡ None → lines ≢ [] → IsHeaded (reads 1 (bytes_of_lines lines)) lines
unfolding reads
read_lines [] r d some = absurd (some refl)
read_lines (Says version c ∷ lines) r d some = absurd r.0
read_lines (Header version ∷ lines) r d some =
    (both (suc (length (stream_header version ++ bytes_of_lines lines)))).1 1 version 1 0 lines r.0 r.1 d
    (omega (arith, lines_long lines, length-append (stream_header version) (bytes_of_lines lines)))

some_lines : (streams : List Stream) → streams ≢ [] → lines_of_streams streams ≢ []
some_lines [] some e = some refl
some_lines (s ∷ streams) some e = absurd cc

pub packed_is_read : PackedIsRead
unfolding text_in
packed_is_read streams lawful =
    let r = read_lines (lines_of_streams streams) (streams_run streams lawful.each) (streams_due streams) (some_lines streams lawful.some) in
    (r.whole, r.text)
