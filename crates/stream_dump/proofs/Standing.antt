-- How far a file was written: what was written, what is gathered, and the bytes of what is left to
-- read.
use Rattle.std.specs.Prelude.{◌≡◌, ℕ, ◌≤◌, Bool, true, List, [], ◌∷◌, ◌++◌, length, take, Option, None, Some, Ok, Err}
use Rattle.std.specs.Io.KnownBytes.{Appends}
use Rattle.std.proofs.Common.{refl, sym, ap, subst, ◌∙◌, append_assoc, append-nil, arith, inl, inr}
use Rattle.std.proofs.KnownBytes.{Appends-nil, Appends-trans}
use Rattle.send_model.specs.Reading as reading
use Rattle.send_model.specs.Reading.{Item, Reading, Whole, Faulty, reads}
use Rattle.send_model.specs.Counts.{is_end}
use Rattle.send_model.specs.Headline.{IsFrontOf}
use Rattle.send_model.specs.Words.{first_file}
use Rattle.send_model.specs.Lengths.{limit, only_ends}
use Rattle.send_model.proofs.Fronts.{is_front, part_front}
use Rattle.sx_base.specs.Causes.{Rose}
use Rattle.sx_base.specs.Outside.{file_at, AppendsPart}
use Rattle.sx_base.specs.Refusals.{refusal_of, verdict_meant}
use Rattle.sx_base.specs.declared.outcome.Verdict.{Verdict}
use Rattle.sx_base.specs.declared.outcome.Outcome.{Outcome}
use Rattle.sx_base.specs.declared.outcome.Outcome.TheVariants as ended_by
use Rattle.cmd_reader.specs.declared.item.Item as read
use Rattle.cmd_reader.specs.declared.item.ReadStop.{ReadStop}
use Rattle.cmd_reader.specs.declared.item.ReadStop.TheVariants as stop
use Rattle.cmd_reader.specs.Places.{IfTold}
use Rattle.cmd_reader.specs.Fronts.{IsRefused, IsLongAt}
use Rattle.cmd_reader.specs.Left.{Reader, at_start, left}
use Rattle.cmd_reader.specs.Next.{item_of, HasEnded, IsFaulty, OnlyEnds, IsNext, NextSays}
use Rattle.cmd_reader.proofs.Aheads.{next_item, next_end}
use Rattle.cmd_reader.proofs.Told.{Here, told_both, told_map, told_always, told_here, told_moved}
use Rattle.stream_dump.specs.declared.gathering.Gathered.{Gathered}
use Rattle.sx_base.specs.Calls.{Caused, IfAllTold, Wrote}
use Rattle.stream_dump.specs.Written.{pieces_from, written_of, WritesFile}
use Rattle.cmd_reader.specs.Stopping.{outcome_at}
use Rattle.stream_dump.specs.Steps.{StopsWriting, last_bytes}
use Rattle.stream_dump.proofs.Unpacked.{ItemAdded, ItemEnds, EndsWith}
use Rattle.stream_dump.proofs.Lengths.{due_whole, due_fault, due_long}

-- What was written and what is gathered are the first bytes, the bytes of what is left follow, and
-- the reading ends as what is left.
pub record Stands (piece : Bool → Item → List ℕ) (reader : Reader) (gathered : Gathered) (taken_old taken_now : Option (List ℕ)) (bytes : List ℕ) : Type 0 where
  pub sent : List ℕ
  pub appends : Appends taken_old taken_now sent
  pub ahead : written_of piece bytes ≡ (sent ++ gathered.bytes) ++ pieces_from piece gathered.begins (left reader bytes).items
  pub ending : (reads 1 bytes).end ≡ (left reader bytes).end
  pub within : reader.offset ≤ length bytes

-- ---- before the first command

stands_fresh : (piece : Bool → Item → List ℕ) (name : List ℕ) (taken : Option (List ℕ)) (bytes : List ℕ) → Stands piece (at_start 1 name) (record { bytes = []; begins = true }) taken taken bytes
unfolding left reads written_of
stands_fresh piece name taken bytes = record { sent = []; appends = Appends-nil taken; ahead = refl; ending = refl; within = omega arith }

pub stands_first : (piece : Bool → Item → List ℕ) (told : Option (List (List ℕ × List ℕ))) (name : List ℕ) (reader : Reader) (gathered : Gathered) (taken : Option (List ℕ))
    → reader ≡ at_start 1 name → gathered ≡ record { bytes = []; begins = true } → IfTold told name (Stands piece reader gathered taken taken)
stands_first piece told name reader gathered taken is none =
    subst (λ (r : Reader). IfTold told name (Stands piece r gathered taken taken)) (sym is)
    (subst (λ (l : Gathered). IfTold told name (Stands piece (at_start 1 name) l taken taken)) (sym none)
    (told_always told name (Stands piece (at_start 1 name) (record { bytes = []; begins = true }) taken taken) (λ bytes. stands_fresh piece name taken bytes)))

-- ---- a command

pieces_next : (piece : Bool → Item → List ℕ) (begins : Bool) (item : Item) (items : List Item) → pieces_from piece begins (item ∷ items) ≡ piece begins item ++ pieces_from piece (is_end item.command) items
unfolding pieces_from
pieces_next piece begins item items = refl

ahead_next : (piece : Bool → Item → List ℕ) (old new : Reader) (item : read.Item) (gathered : Gathered) (sent bytes : List ℕ) → old.file ≡ 1 → IsNext old new item bytes
    → written_of piece bytes ≡ (sent ++ gathered.bytes) ++ pieces_from piece gathered.begins (left old bytes).items
    → written_of piece bytes ≡ (sent ++ (gathered.bytes ++ piece gathered.begins (item_of 1 item))) ++ pieces_from piece (is_end (item_of 1 item).command) (left new bytes).items
ahead_next piece old new item gathered sent bytes f n ahead =
    let one : Item = item_of 1 item in
    let rest : List ℕ = pieces_from piece (is_end one.command) (left new bytes).items in
    let items : (left old bytes).items ≡ one ∷ (left new bytes).items =
    ap (λ (r : Reading). r.items) n.left_is ∙ ap (λ (k : ℕ). item_of k item ∷ (left new bytes).items) f in
    ahead ∙ ap (λ (is : List Item). (sent ++ gathered.bytes) ++ pieces_from piece gathered.begins is) items
    ∙ ap (λ (l : List ℕ). (sent ++ gathered.bytes) ++ l) (pieces_next piece gathered.begins one (left new bytes).items)
    ∙ sym (append_assoc (sent ++ gathered.bytes) (piece gathered.begins one) rest)
    ∙ ap (λ (l : List ℕ). l ++ rest) (append_assoc sent gathered.bytes (piece gathered.begins one))

stands_after : (piece : Bool → Item → List ℕ) (old new : Reader) (item : read.Item) (gathered more : Gathered) (taken_old taken_mid taken_now : Option (List ℕ)) (bytes : List ℕ) → old.file ≡ 1
    → ItemAdded piece gathered more (item_of 1 item) taken_mid taken_now → Stands piece old gathered taken_old taken_mid bytes → IsNext old new item bytes → Stands piece new more taken_old taken_now bytes
stands_after piece old new item gathered more taken_old taken_mid taken_now bytes f a s n =
    let rest : Bool → List ℕ = λ b. pieces_from piece b (left new bytes).items in
    record {
      sent = s.sent ++ a.sent;
      appends = Appends-trans taken_old taken_mid taken_now s.sent a.sent s.appends a.appends;
      ahead = ahead_next piece old new item gathered s.sent bytes f n s.ahead
          ∙ ap (λ (l : List ℕ). (s.sent ++ l) ++ rest (is_end (item_of 1 item).command)) (sym a.bytes_are)
          ∙ ap (λ (l : List ℕ). l ++ rest (is_end (item_of 1 item).command)) (sym (append_assoc s.sent a.sent more.bytes))
          ∙ ap (λ (b : Bool). ((s.sent ++ a.sent) ++ more.bytes) ++ rest b) (sym a.begins_is);
      ending = s.ending ∙ ap (λ (r : Reading). r.end) n.left_is;
      within = n.reached s.within;
    }

-- A command was read, and its bytes are added.
pub stands_next : (piece : Bool → Item → List ℕ) (told told_now : Option (List (List ℕ × List ℕ))) (name : List ℕ) (old new : Reader) (o : Option read.Item) (item : read.Item) (gathered more : Gathered) (taken_old taken_mid taken_now : Option (List ℕ)) (early late : ℕ)
    → told_now ≡ told → old.file ≡ 1 → old.name ≡ name → o ≡ Some item → ItemAdded piece gathered more (item_of 1 item) taken_mid taken_now
    → NextSays told_now old new early late (Ok o) → IfTold told name (Stands piece old gathered taken_old taken_mid) → IfTold told name (Stands piece new more taken_old taken_now)
stands_next piece told told_now name old new o item gathered more taken_old taken_mid taken_now early late t f n is added next s =
    told_both told name (Stands piece old gathered taken_old taken_mid) (IsNext old new item) (Stands piece new more taken_old taken_now)
    (λ bytes a b. stands_after piece old new item gathered more taken_old taken_mid taken_now bytes f added a b) s
    (next_item told told_now name old new early late o item is t n next)

-- ---- the answers

to_file : (told : Option (List (List ℕ × List ℕ))) (name : List ℕ) (P : List ℕ → Type 0) → IfTold told name P → IfAllTold told (name ∷ []) (λ files. P (first_file files))
to_file None name P p = tt
to_file (Some files) name P p = p (file_at files name) refl

abbrev Answered : (Bool → Item → List ℕ) → Option (List ℕ) → Option (List ℕ) → Outcome → List ℕ → Type 0
Answered piece taken_old taken_now outcome bytes = Wrote taken_old taken_now (WritesFile piece bytes outcome)

-- There is no reader.
pub unopened : (piece : Bool → Item → List ℕ) (told : Option (List (List ℕ × List ℕ))) (name : List ℕ) (taken : Option (List ℕ)) → IfAllTold told (name ∷ []) (λ files. Answered piece taken taken ended_by.NoMemory (first_file files))
unopened piece None name taken = tt
unopened piece (Some files) name taken = ([], Appends-nil taken, is_front (written_of piece (file_at files name)) [] (written_of piece (file_at files name)) refl)

-- What is written in the end is all that is gathered, or nothing.
part_of_all : (outcome : Outcome) (bytes : List ℕ) (old new : Option (List ℕ)) → AppendsPart old new (last_bytes outcome bytes) → AppendsPart old new bytes
part_of_all ended_by.InputFault bytes old new (count, less, appends) = absurd (omega (arith, less))
part_of_all ended_by.OutputFault bytes old new (count, less, appends) = absurd (omega (arith, less))
part_of_all ended_by.NoMemory bytes old new (count, less, appends) = absurd (omega (arith, less))
part_of_all ended_by.Done bytes old new part = part
part_of_all (ended_by.Refused verdict) bytes old new part = part
part_of_all (ended_by.InputTooLong file) bytes old new part = part
part_of_all (ended_by.TooMuch sum) bytes old new part = part
part_of_all (ended_by.InputChanged file place) bytes old new part = part

finished : (piece : Bool → Item → List ℕ) (reader : Reader) (gathered : Gathered) (taken_old taken_mid taken_now : Option (List ℕ)) (before now : ℕ) (outcome result : Outcome) (bytes : List ℕ) (s : Stands piece reader gathered taken_old taken_mid bytes)
    → EndsWith gathered.bytes outcome taken_mid taken_now before now result → WritesFile piece bytes outcome (s.sent ++ last_bytes outcome gathered.bytes) → Answered piece taken_old taken_now result bytes
finished piece reader gathered taken_old taken_mid taken_now before now outcome result bytes s (inl (is, appends)) due =
    subst (λ (x : Outcome). Answered piece taken_old taken_now x bytes) (sym is)
    (s.sent ++ last_bytes outcome gathered.bytes, Appends-trans taken_old taken_mid taken_now s.sent (last_bytes outcome gathered.bytes) s.appends appends, due)
finished piece reader gathered taken_old taken_mid taken_now before now outcome result bytes s (inr (is, rose, last)) due =
    let part = part_of_all outcome gathered.bytes taken_mid taken_now last in
    subst (λ (x : Outcome). Answered piece taken_old taken_now x bytes) (sym is) (
      s.sent ++ take part.0 gathered.bytes,
      Appends-trans taken_old taken_mid taken_now s.sent (take part.0 gathered.bytes) s.appends part.2,
      part_front (written_of piece bytes) s.sent gathered.bytes (pieces_from piece gathered.begins (left reader bytes).items) part.0 s.ahead,
    )

-- Nothing is left to read.
all_pieces : (piece : Bool → Item → List ℕ) (reader : Reader) (gathered : Gathered) (taken_old taken_now : Option (List ℕ)) (bytes : List ℕ) (ending : reading.Ending) (s : Stands piece reader gathered taken_old taken_now bytes)
    → left reader bytes ≡ record { items = []; end = ending } → (s.sent ++ gathered.bytes ≡ written_of piece bytes) × ((reads 1 bytes).end ≡ ending)
unfolding pieces_from
all_pieces piece reader gathered taken_old taken_now bytes ending s is = (
  sym (s.ahead ∙ ap (λ (r : Reading). (s.sent ++ gathered.bytes) ++ pieces_from piece gathered.begins r.items) is ∙ append-nil (s.sent ++ gathered.bytes)),
  s.ending ∙ ap (λ (r : Reading). r.end) is,
)

-- The file ends.
pub ends_whole : (piece : Bool → Item → List ℕ) (told told_now : Option (List (List ℕ × List ℕ))) (name : List ℕ) (old new : Reader) (o : Option read.Item) (gathered : Gathered) (taken_old taken_mid taken_now : Option (List ℕ)) (early late before now : ℕ) (result : Outcome)
    → told_now ≡ told → old.name ≡ name → o ≡ None → NextSays told_now old new early late (Ok o) → EndsWith gathered.bytes ended_by.Done taken_mid taken_now before now result
    → IfTold told name (Stands piece old gathered taken_old taken_mid) → IfAllTold told (name ∷ []) (λ files. Answered piece taken_old taken_now result (first_file files))
ends_whole piece told told_now name old new o gathered taken_old taken_mid taken_now early late before now result t n none says ends s =
    to_file told name (Answered piece taken_old taken_now result)
    (told_both told name (Stands piece old gathered taken_old taken_mid) (HasEnded old) (Answered piece taken_old taken_now result) by_file s
    (next_end told told_now name old new early late o none t n says))
  where
    by_file : (bytes : List ℕ) → Stands piece old gathered taken_old taken_mid bytes → HasEnded old bytes → Answered piece taken_old taken_now result bytes
    by_file bytes s (is, less) =
        let all = all_pieces piece old gathered taken_old taken_mid bytes Whole s is in
        finished piece old gathered taken_old taken_mid taken_now before now ended_by.Done result bytes s ends (due_whole bytes less all.1, all.0)

-- The file could not be read on.
pub ends_early : (piece : Bool → Item → List ℕ) (told told_now : Option (List (List ℕ × List ℕ))) (name : List ℕ) (old new : Reader) (why : ReadStop) (outcome : Outcome) (gathered : Gathered) (taken_old taken_mid taken_now : Option (List ℕ)) (early late before now : ℕ) (result : Outcome)
    → told_now ≡ told → old.name ≡ name → outcome ≡ outcome_at 1 why → NextSays told_now old new early late (Err why) → EndsWith gathered.bytes outcome taken_mid taken_now before now result
    → IfTold told name (Stands piece old gathered taken_old taken_mid) → IfAllTold told (name ∷ []) (λ files. Answered piece taken_old taken_now result (first_file files))
ends_early piece told told_now name old new why outcome gathered taken_old taken_mid taken_now early late before now result t n is says ends s =
    to_file told name (Answered piece taken_old taken_now result) (by_why why says (subst (λ (x : Outcome). EndsWith gathered.bytes x taken_mid taken_now before now result) is ends))
  where
    here : (x : Outcome) → EndsWith gathered.bytes x taken_mid taken_now before now result → ((bytes : List ℕ) (s : Stands piece old gathered taken_old taken_mid bytes) → WritesFile piece bytes x (s.sent ++ last_bytes x gathered.bytes))
        → IfTold told name (Answered piece taken_old taken_now result)
    here x ends due = told_map told name (Stands piece old gathered taken_old taken_mid) (Answered piece taken_old taken_now result) (λ bytes s. finished piece old gathered taken_old taken_mid taken_now before now x result bytes s ends (due bytes s)) s

    broken : (verdict : Verdict) → EndsWith gathered.bytes (ended_by.Refused verdict) taken_mid taken_now before now result
        → (bytes : List ℕ) → Here (Stands piece old gathered taken_old taken_mid) bytes → Here (IsRefused (λ _. IsFaulty old verdict) (refusal_of verdict.refusal)) bytes → Answered piece taken_old taken_now result bytes
    broken verdict ends bytes (s, front) (bad, bad_front) =
        let ending : reading.Ending = Faulty (verdict_meant verdict) in
        let all = all_pieces piece old gathered taken_old taken_mid bytes ending s bad.0 in
        let before_limit = all_pieces piece old gathered taken_old taken_mid (take limit bytes) ending front bad_front.0 in
        finished piece old gathered taken_old taken_mid taken_now before now (ended_by.Refused verdict) result bytes s ends
        (due_fault bytes (verdict_meant verdict) bad.1 before_limit.1 all.1, all.0)

    long : EndsWith gathered.bytes (ended_by.InputTooLong 1) taken_mid taken_now before now result
        → (bytes : List ℕ) → Here (Stands piece old gathered taken_old taken_mid) bytes → IsLongAt old.offset (OnlyEnds old) bytes → Answered piece taken_old taken_now result bytes
    long ends bytes (s, front) far =
        let l = far s.within in
        finished piece old gathered taken_old taken_mid taken_now before now (ended_by.InputTooLong 1) result bytes s ends
        (due_long bytes l.0 (ap only_ends front.ending ∙ l.1.1), is_front (written_of piece bytes) (s.sent ++ gathered.bytes) (pieces_from piece gathered.begins (left old bytes).items) s.ahead)

    by_why : (x : ReadStop) → NextSays told_now old new early late (Err x) → EndsWith gathered.bytes (outcome_at 1 x) taken_mid taken_now before now result → IfTold told name (Answered piece taken_old taken_now result)
    by_why (stop.Refused verdict) says ends =
        told_both told name (Here (Stands piece old gathered taken_old taken_mid)) (Here (IsRefused (λ _. IsFaulty old verdict) (refusal_of verdict.refusal))) (Answered piece taken_old taken_now result) (broken verdict ends)
        (told_here told name (Stands piece old gathered taken_old taken_mid) s)
        (told_here told name (IsRefused (λ _. IsFaulty old verdict) (refusal_of verdict.refusal)) (told_moved told told_now name old.name (IsRefused (λ _. IsFaulty old verdict) (refusal_of verdict.refusal)) t n says))
    by_why stop.InputFault says ends = here ended_by.InputFault ends (λ bytes s. part_front (written_of piece bytes) s.sent gathered.bytes (pieces_from piece gathered.begins (left old bytes).items) 0 s.ahead)
    by_why stop.InputTooLong says ends =
        told_both told name (Here (Stands piece old gathered taken_old taken_mid)) (IsLongAt old.offset (OnlyEnds old)) (Answered piece taken_old taken_now result) (long ends)
        (told_here told name (Stands piece old gathered taken_old taken_mid) s) (told_moved told told_now name old.name (IsLongAt old.offset (OnlyEnds old)) t n says)

-- An item's gathered could not be added or written.
front_answers : (piece : Bool → Item → List ℕ) (bytes : List ℕ) (before now : ℕ) (outcome : Outcome) (written : List ℕ) → StopsWriting before now outcome → IsFrontOf (written_of piece bytes) written → WritesFile piece bytes outcome written
front_answers piece bytes before now ended_by.NoMemory written why front = front
front_answers piece bytes before now ended_by.OutputFault written why front = front
front_answers piece bytes before now ended_by.Done written why front = absurd why
front_answers piece bytes before now (ended_by.Refused verdict) written why front = absurd why
front_answers piece bytes before now ended_by.InputFault written why front = absurd why
front_answers piece bytes before now (ended_by.InputTooLong file) written why front = absurd why
front_answers piece bytes before now (ended_by.TooMuch sum) written why front = absurd why
front_answers piece bytes before now (ended_by.InputChanged file place) written why front = absurd why

pub item_stops : (piece : Bool → Item → List ℕ) (told told_now : Option (List (List ℕ × List ℕ))) (name : List ℕ) (old new : Reader) (o : Option read.Item) (item : read.Item) (gathered more : Gathered) (taken_old taken_mid taken_now : Option (List ℕ)) (early late before now : ℕ) (outcome : Outcome)
    → told_now ≡ told → old.file ≡ 1 → old.name ≡ name → o ≡ Some item → ItemEnds piece gathered more (item_of 1 item) taken_mid taken_now before now (Err outcome)
    → NextSays told_now old new early late (Ok o) → IfTold told name (Stands piece old gathered taken_old taken_mid) → IfAllTold told (name ∷ []) (λ files. Answered piece taken_old taken_now outcome (first_file files))
item_stops piece told told_now name old new o item gathered more taken_old taken_mid taken_now early late before now outcome t f n is (why, (written, appends, front)) next s =
    to_file told name (Answered piece taken_old taken_now outcome)
    (told_both told name (Stands piece old gathered taken_old taken_mid) (IsNext old new item) (Answered piece taken_old taken_now outcome) by_file s
    (next_item told told_now name old new early late o item is t n next))
  where
    by_file : (bytes : List ℕ) → Stands piece old gathered taken_old taken_mid bytes → IsNext old new item bytes → Answered piece taken_old taken_now outcome bytes
    by_file bytes s after =
        let added : List ℕ = gathered.bytes ++ piece gathered.begins (item_of 1 item) in
        let rest : List ℕ = pieces_from piece (is_end (item_of 1 item).command) (left new bytes).items in
        let all : IsFrontOf (written_of piece bytes) (s.sent ++ take front.count added) = part_front (written_of piece bytes) s.sent added rest front.count (ahead_next piece old new item gathered s.sent bytes f after s.ahead) in (
          s.sent ++ written,
          Appends-trans taken_old taken_mid taken_now s.sent written s.appends appends,
          front_answers piece bytes before now outcome (s.sent ++ written) why (subst (λ (w : List ℕ). IsFrontOf (written_of piece bytes) (s.sent ++ w)) (sym front.written_is) all),
        )

-- ---- causes

rose_since : (first before now : ℕ) → first ≤ before → Rose before now → Rose first now
rose_since first before now early rose = omega (arith, early, rose)

pub caused_end : (inputs_before inputs_now out_before out_mid out_now : ℕ) (text : List ℕ) (outcome result : Outcome) (taken_old taken_now : Option (List ℕ)) → out_before ≤ out_mid
    → EndsWith text outcome taken_old taken_now out_mid out_now result → Caused inputs_before inputs_now out_before out_now outcome → Caused inputs_before inputs_now out_before out_now result
caused_end inputs_before inputs_now out_before out_mid out_now text outcome result taken_old taken_now early (inl (is, appends)) caused = subst (λ (x : Outcome). Caused inputs_before inputs_now out_before out_now x) (sym is) caused
caused_end inputs_before inputs_now out_before out_mid out_now text outcome result taken_old taken_now early (inr (is, rose, part)) caused =
    subst (λ (x : Outcome). Caused inputs_before inputs_now out_before out_now x) (sym is) (rose_since out_before out_mid out_now early rose)

pub caused_item : (inputs_before inputs_now out_before out_mid out_now : ℕ) (outcome : Outcome) → out_before ≤ out_mid → StopsWriting out_mid out_now outcome → Caused inputs_before inputs_now out_before out_now outcome
caused_item inputs_before inputs_now out_before out_mid out_now ended_by.NoMemory early why = tt
caused_item inputs_before inputs_now out_before out_mid out_now ended_by.OutputFault early why = rose_since out_before out_mid out_now early why
caused_item inputs_before inputs_now out_before out_mid out_now ended_by.Done early why = absurd why
caused_item inputs_before inputs_now out_before out_mid out_now (ended_by.Refused verdict) early why = absurd why
caused_item inputs_before inputs_now out_before out_mid out_now ended_by.InputFault early why = absurd why
caused_item inputs_before inputs_now out_before out_mid out_now (ended_by.InputTooLong file) early why = absurd why
caused_item inputs_before inputs_now out_before out_mid out_now (ended_by.TooMuch sum) early why = absurd why
caused_item inputs_before inputs_now out_before out_mid out_now (ended_by.InputChanged file place) early why = absurd why
