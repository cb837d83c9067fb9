-- Following one file: what its loop keeps, and each of its ends.
use Rattle.std.specs.Prelude.{◌≡◌, ⊤, ℕ, ◌+◌, ◌≤◌, List, [], ◌∷◌, ◌++◌, length, take, Option, None, Some, Result, Ok, Err}
use Rattle.std.proofs.Common.{refl, sym, ap, subst, ◌∙◌, append_assoc, append-nil, length-append, arith}
use Rattle.std.proofs.lemmas.List.{map-append}
use Rattle.send_model.specs.Command.{Command, Subvol, Snapshot, End}
use Rattle.send_model.specs.Reading.{Item, Whole, Faulty, Reading, with_item, reads}
use Rattle.send_model.specs.Receive.{Ran}
use Rattle.send_model.specs.Store.{Head, head_of}
use Rattle.send_model.specs.Order.{heads, heads_of, onto_heads, commands_of}
use Rattle.send_model.specs.Lengths.{limit, only_ends}
use Rattle.send_model.specs.Due.{RefusedAt, TooLong, Limited, AtFault, AtLimit}
use Rattle.send_model.specs.Overridden.{Override, overridden_as}
use Rattle.send_model.proofs.Writing.{heads_of-append}
use Rattle.sx_base.specs.Refusals.{refusal_of, verdict_meant}
use Rattle.sx_base.specs.Calls.{Caused}
use Rattle.sx_base.specs.declared.outcome.Verdict.{Verdict}
use Rattle.sx_base.specs.declared.outcome.Outcome.{Outcome}
use Rattle.sx_base.specs.declared.outcome.Outcome.TheVariants as ended_by
use Rattle.clone_resolve.specs.Steps.{done_by}
use Rattle.clone_resolve.specs.declared.done.Done.{Done}
use Rattle.cmd_reader.specs.declared.item.Item as read
use Rattle.cmd_reader.specs.declared.item.ReadStop.{ReadStop}
use Rattle.cmd_reader.specs.declared.item.ReadStop.TheVariants as stop
use Rattle.cmd_reader.specs.Places.{IfTold}
use Rattle.cmd_reader.specs.Fronts.{IsRefused, IsLongAt}
use Rattle.cmd_reader.specs.Left.{Reader, at_start, left}
use Rattle.cmd_reader.specs.Next.{item_of, HasEnded, IsFaulty, OnlyEnds, IsNext, NextSays}
use Rattle.cmd_reader.proofs.Aheads.{next_item, next_end}
use Rattle.cmd_reader.proofs.Told.{Here, told_both, told_always, told_here, told_moved}
use Rattle.auditor.specs.declared.counts.Counts.{Counts}
use Rattle.auditor.specs.Following.{Followed, follow, follow_all, AreAccepted, due_from_here, items_with, read_with, file_read, read_whole}
use Rattle.cmd_reader.specs.Stopping.{outcome_at}
use Rattle.auditor.specs.Answers.{ItemStops, ItemEnds, parts_begun, AreCounted, FileAccepted, FileEnds}
use Rattle.auditor.proofs.Runs.{none, one, run_on, refused_still}
use Rattle.send_model.proofs.TooLong.{short_fits, fault_fits, long_is}
use Rattle.auditor.proofs.TooLong.{whole_read, fault_read, long_read, read_either}
use Rattle.auditor.proofs.Dues.{due_stop, due_refused, refused_is}

-- ---- what the loop keeps

-- Items, and then what else is read.
abbrev pub and_then : List Item → Reading → Reading
and_then items r = record { items = items ++ r.items; end = r.end }

-- These commands of the file were read, and with the name that is given for its heads they were
-- accepted and counted.
pub record Stands (override : Override) (file : ℕ) (old : Followed) (reader : Reader) (now : Followed) (parts commands : ℕ) (bytes : List ℕ) : Type 0 where
  items : List Item
  read : reads file bytes ≡ and_then items (left reader bytes)
  all : AreAccepted old (items_with override items) now
  counted : AreCounted parts commands (items_with override items)
  reached : reader.offset ≤ length bytes

left_fresh : (file : ℕ) (name bytes : List ℕ) → left (at_start file name) bytes ≡ reads file bytes
unfolding left reads
left_fresh file name bytes = refl

none_counted : AreCounted 0 0 []
unfolding heads_of
none_counted = record { parts_are = refl; commands_are = refl }

pub stands_at_start : (told : Option (List (List ℕ × List ℕ))) (override : Override) (file : ℕ) (name : List ℕ) (reader : Reader) (now : Followed) (parts commands : ℕ) → reader ≡ at_start file name → parts ≡ 0 → commands ≡ 0
    → IfTold told name (Stands override file now reader now parts commands)
stands_at_start told override file name reader now parts commands e p c =
    subst (λ (r : Reader). IfTold told name (Stands override file now r now parts commands)) (sym e) (
    subst (λ (n : ℕ). IfTold told name (Stands override file now (at_start file name) now n commands)) (sym p) (
    subst (λ (n : ℕ). IfTold told name (Stands override file now (at_start file name) now 0 n)) (sym c) (
    told_always told name (Stands override file now (at_start file name) now 0 0) (λ bytes. record {
      items = [];
      read = sym (left_fresh file name bytes);
      all = none follow now;
      counted = none_counted;
      reached = omega (arith);
    }))))

-- One more command.
begun_by : (c : Command) (hs : List Head) → length (onto_heads (head_of c) hs) ≡ parts_begun (done_by c) + length hs
begun_by (Subvol uuid ctransid path) hs = omega (arith)
begun_by (Snapshot uuid ctransid path clone_uuid clone_ctransid) hs = omega (arith)
begun_by End hs = omega (arith)
begun_by c hs = omega (arith)

counted_more : (items : List Item) (item : Item) (parts commands : ℕ) → AreCounted parts commands items → AreCounted (parts + parts_begun (done_by item.command)) (commands + 1) (items ++ item ∷ [])
unfolding heads_of
counted_more items item parts commands c =
    let cs : List Command = commands_of items in
    let more : commands_of (items ++ item ∷ []) ≡ cs ++ item.command ∷ [] = map-append (λ (i : Item). i.command) items (item ∷ []) in
    let hs : heads (items ++ item ∷ []) ≡ heads items ++ onto_heads (head_of item.command) [] = ap heads_of more ∙ heads_of-append cs (item.command ∷ []) in
    record {
      parts_are = omega (arith, c.parts_are, ap length hs, length-append (heads items) (onto_heads (head_of item.command) []), begun_by item.command []);
      commands_are = omega (arith, c.commands_are, length-append items (item ∷ []));
    }

then_item : (items : List Item) (item : Item) (r : Reading) → and_then items (with_item item r) ≡ and_then (items ++ item ∷ []) r
then_item items item r = ap (λ (is : List Item). record { items = is; end = r.end }) (sym (append_assoc items (item ∷ []) r.items))

ended_ok : (old new : Followed) (item : Item) (r : Result Done Outcome) (done : Done) → r ≡ Ok done → ItemEnds old new item r → ItemEnds old new item (Ok done)
ended_ok old new item r done e s = subst (λ (x : Result Done Outcome). ItemEnds old new item x) e s

ended_err : (old new : Followed) (item : Item) (r : Result Done Outcome) (outcome : Outcome) → r ≡ Err outcome → ItemEnds old new item r → ItemStops (due_from_here old (read_whole (item ∷ []))) outcome
ended_err old new item r outcome e s = subst (λ (x : Result Done Outcome). ItemEnds old new item x) e s

more_with : (override : Override) (items : List Item) (item : Item) → items_with override items ++ overridden_as override item ∷ [] ≡ items_with override (items ++ item ∷ [])
more_with override items item = sym (map-append (overridden_as override) items (item ∷ []))

pub stands_after : (told inputs : Option (List (List ℕ × List ℕ))) (override : Override) (file : ℕ) (name : List ℕ) (first : Followed) (old new : Reader) (now next : Followed) (parts commands parts_now commands_now f0 f1 : ℕ) (o : Option read.Item) (item : read.Item) (r : Result Done Outcome) (done : Done)
    → o ≡ Some item → inputs ≡ told → old.name ≡ name → old.file ≡ file → NextSays inputs old new f0 f1 (Ok o) → r ≡ Ok done → ItemEnds now next (overridden_as override (item_of file item)) r
    → parts_now ≡ parts + parts_begun done → commands_now ≡ commands + 1
    → IfTold told name (Stands override file first old now parts commands) → IfTold told name (Stands override file first new next parts_now commands_now)
stands_after told inputs override file name first old new now next parts commands parts_now commands_now f0 f1 o item r done e same name_is file_is says was ends p c stands =
    told_both told name (IsNext old new item) (Stands override file first old now parts commands) (Stands override file first new next parts_now commands_now) step
    (next_item told inputs name old new f0 f1 o item e same name_is says) stands
  where
    meant_item : Item
    meant_item = item_of file item

    named : Item
    named = overridden_as override meant_item

    taken : ItemEnds now next named (Ok done)
    taken = ended_ok now next named r done was ends

    step : (bytes : List ℕ) → IsNext old new item bytes → Stands override file first old now parts commands bytes → Stands override file first new next parts_now commands_now bytes
    step bytes n s =
        let before : List Item = items_with override s.items in
        let all : AreAccepted first (before ++ named ∷ []) next = run_on follow before (named ∷ []) first now s.all ∙ one follow named now next taken.0 in
        let more = counted_more before named parts commands s.counted in
        let counted : AreCounted parts_now commands_now (before ++ named ∷ []) = record {
          parts_are = p ∙ ap (λ (d : Done). parts + parts_begun d) taken.1 ∙ more.parts_are;
          commands_are = c ∙ more.commands_are;
        } in
        record {
          items = s.items ++ meant_item ∷ [];
          read = s.read ∙ ap (and_then s.items) (n.left_is ∙ ap (λ (k : ℕ). with_item (item_of k item) (left new bytes)) file_is) ∙ then_item s.items meant_item (left new bytes);
          all = subst (λ (is : List Item). AreAccepted first is next) (more_with override s.items meant_item) all;
          counted = subst (λ (is : List Item). AreCounted parts_now commands_now is) (more_with override s.items meant_item) counted;
          reached = n.reached s.reached;
        }

-- ---- the ends

-- The file ends.
pub file_ends : (told inputs : Option (List (List ℕ × List ℕ))) (override : Override) (file : ℕ) (name : List ℕ) (first : Followed) (old new : Reader) (now : Followed) (counts : Counts) (f0 f1 : ℕ) (o : Option read.Item)
    → o ≡ None → inputs ≡ told → old.name ≡ name → NextSays inputs old new f0 f1 (Ok o) → IfTold told name (Stands override file first old now counts.parts counts.commands)
    → IfTold told name (FileEnds override file first now (Ok counts))
file_ends told inputs override file name first old new now counts f0 f1 o e same name_is says stands =
    told_both told name (HasEnded old) (Stands override file first old now counts.parts counts.commands) (FileEnds override file first now (Ok counts)) step
    (next_end told inputs name old new f0 f1 o e same name_is says) stands
  where
    step : (bytes : List ℕ) → HasEnded old bytes → Stands override file first old now counts.parts counts.commands bytes → FileAccepted override file first now counts bytes
    step bytes (is, less) s = record {
      items = items_with override s.items;
      read = ap (read_with override) (
          whole_read file bytes s.items (short_fits file bytes less) (s.read ∙ ap (and_then s.items) is ∙ ap (λ (xs : List Item). record { items = xs; end = Whole }) (append-nil s.items)));
      all = s.all;
      counted = s.counted;
    }

-- There is no memory for a reader.
pub file_unopened : (told : Option (List (List ℕ × List ℕ))) (name : List ℕ) → IfTold told name (λ _. ⊤)
file_unopened told name = told_always told name (λ _. ⊤) (λ bytes. tt)

-- The next command is refused, or there is no memory for it.
pub item_ends : (told inputs : Option (List (List ℕ × List ℕ))) (override : Override) (file : ℕ) (name : List ℕ) (first : Followed) (old new : Reader) (now next : Followed) (parts commands f0 f1 : ℕ) (o : Option read.Item) (item : read.Item) (r : Result Done Outcome) (outcome : Outcome)
    → o ≡ Some item → inputs ≡ told → old.name ≡ name → old.file ≡ file → NextSays inputs old new f0 f1 (Ok o) → r ≡ Err outcome → ItemEnds now next (overridden_as override (item_of file item)) r
    → IfTold told name (Stands override file first old now parts commands) → IfTold told name (FileEnds override file first next (Err outcome))
item_ends told inputs override file name first old new now next parts commands f0 f1 o item r outcome e same name_is file_is says was ends stands =
    by_outcome outcome (ended_err now next (overridden_as override (item_of file item)) r outcome was ends)
  where
    meant_item : Item
    meant_item = item_of file item

    named : Item
    named = overridden_as override meant_item

    IsBad : Verdict → List Item → Type 0
    IsBad verdict items = (follow_all first (items_with override items)).refused ≡ Some (verdict_meant verdict)

    refused_in : (bytes : List ℕ) (verdict : Verdict) → (follow_all now (named ∷ [])).refused ≡ Some (verdict_meant verdict) → IsNext old new item bytes → Stands override file first old now parts commands bytes
        → IsBad verdict (reads file bytes).items
    refused_in bytes verdict bad n s =
        let before : List Item = items_with override s.items in
        let more : List Item = items_with override (left new bytes).items in
        let items_are : (reads file bytes).items ≡ s.items ++ meant_item ∷ (left new bytes).items =
        ap (λ (x : Reading). x.items) (s.read ∙ ap (and_then s.items) (n.left_is ∙ ap (λ (k : ℕ). with_item (item_of k item) (left new bytes)) file_is)) in
        let named_are : items_with override (reads file bytes).items ≡ before ++ named ∷ more =
        ap (items_with override) items_are ∙ map-append (overridden_as override) s.items (meant_item ∷ (left new bytes).items) in
        ap (λ (is : List Item). (follow_all first is).refused) named_are
        ∙ ap (λ (x : Ran Followed). x.refused) (run_on follow before (named ∷ more) first now s.all)
        ∙ refused_still follow (named ∷ []) more now (verdict_meant verdict) bad

    step : (verdict : Verdict) → (follow_all now (named ∷ [])).refused ≡ Some (verdict_meant verdict) → (bytes : List ℕ) → Here (IsNext old new item) bytes
        → Here (Stands override file first old now parts commands) bytes → due_from_here first (read_with override (file_read file bytes)) ≡ RefusedAt (verdict_meant verdict)
    step verdict bad bytes (n, n_front) (s, s_front) =
        due_refused first (read_with override (file_read file bytes)) (verdict_meant verdict)
        (read_either (IsBad verdict) file bytes (refused_in bytes verdict bad n s) (refused_in (take limit bytes) verdict bad n_front s_front))

    by_outcome : (x : Outcome) → ItemStops (due_from_here now (read_whole (named ∷ []))) x → IfTold told name (FileEnds override file first next (Err x))
    by_outcome (ended_by.Refused verdict) stops =
        told_both told name (Here (IsNext old new item)) (Here (Stands override file first old now parts commands)) (FileEnds override file first next (Err (ended_by.Refused verdict)))
        (step verdict (refused_is now (named ∷ []) (verdict_meant verdict) stops))
        (told_here told name (IsNext old new item) (next_item told inputs name old new f0 f1 o item e same name_is says))
        (told_here told name (Stands override file first old now parts commands) stands)
    by_outcome (ended_by.InputTooLong number) stops = absurd stops
    by_outcome (ended_by.TooMuch sum) stops = absurd stops
    by_outcome (ended_by.InputChanged number place) stops = absurd stops
    by_outcome ended_by.InputFault stops = absurd stops
    by_outcome ended_by.NoMemory stops = told_always told name (FileEnds override file first next (Err ended_by.NoMemory)) (λ bytes. tt)
    by_outcome ended_by.OutputFault stops = absurd stops
    by_outcome ended_by.Done stops = absurd stops

-- No object of the outside failed there.
pub item_cause : (old new : Followed) (item : Item) (r : Result Done Outcome) (outcome : Outcome) (before now : ℕ) → r ≡ Err outcome → ItemEnds old new item r → Caused before now 0 0 outcome
item_cause old new item r outcome before now e ends = by_outcome outcome (ended_err old new item r outcome e ends)
  where
    by_outcome : (x : Outcome) → ItemStops (due_from_here old (read_whole (item ∷ []))) x → Caused before now 0 0 x
    by_outcome (ended_by.Refused verdict) stops = tt
    by_outcome (ended_by.InputTooLong number) stops = absurd stops
    by_outcome (ended_by.TooMuch sum) stops = absurd stops
    by_outcome (ended_by.InputChanged number place) stops = absurd stops
    by_outcome ended_by.InputFault stops = absurd stops
    by_outcome ended_by.NoMemory stops = tt
    by_outcome ended_by.OutputFault stops = absurd stops
    by_outcome ended_by.Done stops = absurd stops

-- The file can not be read on.
pub file_stops : (told inputs : Option (List (List ℕ × List ℕ))) (override : Override) (file : ℕ) (name : List ℕ) (first : Followed) (old new : Reader) (now : Followed) (parts commands f0 f1 : ℕ) (why : ReadStop) (outcome : Outcome)
    → inputs ≡ told → old.name ≡ name → NextSays inputs old new f0 f1 (Err why) → outcome ≡ outcome_at file why
    → IfTold told name (Stands override file first old now parts commands) → IfTold told name (FileEnds override file first now (Err outcome))
file_stops told inputs override file name first old new now parts commands f0 f1 why outcome same name_is says is stands =
    subst (λ (x : Outcome). IfTold told name (FileEnds override file first now (Err x))) (sym is) (by_why why says)
  where
    Stood : List ℕ → Type 0
    Stood = Stands override file first old now parts commands

    faulty : (verdict : Verdict) (bytes : List ℕ) → IsFaulty old verdict bytes → (s : Stood bytes) → reads file bytes ≡ record { items = s.items; end = Faulty (verdict_meant verdict) }
    faulty verdict bytes broken s = s.read ∙ ap (and_then s.items) broken ∙ ap (λ (is : List Item). record { items = is; end = Faulty (verdict_meant verdict) }) (append-nil s.items)

    refused : (verdict : Verdict) (bytes : List ℕ) → Here (IsRefused (λ _. IsFaulty old verdict) (refusal_of verdict.refusal)) bytes → Here Stood bytes → due_from_here first (read_with override (file_read file bytes)) ≡ RefusedAt (verdict_meant verdict)
    refused verdict bytes (broken, broken_front) (s, s_front) =
        let ends : (reads file (take limit bytes)).end ≡ Faulty (verdict_meant verdict) = ap (λ (x : Reading). x.end) (faulty verdict (take limit bytes) broken_front.0 s_front) in
        let fits = fault_fits file bytes (verdict_meant verdict) broken.1 ends in
        let read = fault_read file bytes s.items (verdict_meant verdict) fits (faulty verdict bytes broken.0 s) in
        ap (λ (l : Limited). due_from_here first (read_with override l)) read
        ∙ due_stop first now (record { items = items_with override s.items; stop = AtFault (verdict_meant verdict) }) s.all

    long : (bytes : List ℕ) → Here Stood bytes → IsLongAt old.offset (OnlyEnds old) bytes → due_from_here first (read_with override (file_read file bytes)) ≡ TooLong file
    long bytes (s, s_front) is_long =
        let l = is_long s.reached in
        let items_are : (reads file (take limit bytes)).items ≡ s_front.items = ap (λ (x : Reading). x.items) s_front.read ∙ ap (λ (is : List Item). s_front.items ++ is) l.1.0 ∙ append-nil s_front.items in
        let too_long = long_is file bytes l.0 (ap (λ (x : Reading). only_ends x.end) s_front.read ∙ l.1.1) in
        ap (λ (l : Limited). due_from_here first (read_with override l)) (long_read file bytes s_front.items too_long items_are)
        ∙ due_stop first now (record { items = items_with override s_front.items; stop = AtLimit file }) s_front.all

    by_why : (x : ReadStop) → NextSays inputs old new f0 f1 (Err x) → IfTold told name (FileEnds override file first now (Err (outcome_at file x)))
    by_why (stop.Refused verdict) said =
        told_both told name (Here (IsRefused (λ _. IsFaulty old verdict) (refusal_of verdict.refusal))) (Here Stood) (FileEnds override file first now (Err (ended_by.Refused verdict))) (refused verdict)
        (told_here told name (IsRefused (λ _. IsFaulty old verdict) (refusal_of verdict.refusal)) (told_moved told inputs name old.name (IsRefused (λ _. IsFaulty old verdict) (refusal_of verdict.refusal)) same name_is said))
        (told_here told name Stood stands)
    by_why stop.InputFault said = told_always told name (FileEnds override file first now (Err ended_by.InputFault)) (λ bytes. tt)
    by_why stop.InputTooLong said =
        told_both told name (Here Stood) (IsLongAt old.offset (OnlyEnds old)) (FileEnds override file first now (Err (ended_by.InputTooLong file))) long
        (told_here told name Stood stands) (told_moved told inputs name old.name (IsLongAt old.offset (OnlyEnds old)) same name_is said)
