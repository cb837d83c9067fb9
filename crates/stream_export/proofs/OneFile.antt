-- Exporting one file, with the name that is given for its heads: what its loop keeps, and each of
-- its ends.
use Rattle.std.specs.Prelude.{◌≡◌, ℕ, ◌≤◌, List, [], ◌∷◌, ◌++◌, length, take, Option, None, Some, Ok, Err}
use Rattle.std.proofs.Common.{refl, sym, ap, subst, ◌∙◌, append_assoc, append-nil, arith}
use Rattle.std.proofs.KnownBytes.{Appends-nil, Appends-trans}
use Rattle.std.proofs.lemmas.List.{map-append}
use Rattle.send_model.specs.Reading.{Item, Verdict as meant_Verdict, Whole, Faulty, Reading, with_item, reads}
use Rattle.send_model.specs.Receive.{Ran}
use Rattle.send_model.specs.Store.{After}
use Rattle.send_model.specs.Headline.{IsFrontOf}
use Rattle.send_model.specs.Lengths.{limit, only_ends}
use Rattle.send_model.specs.Due.{Limited, AtFault, AtLimit}
use Rattle.send_model.specs.Overridden.{Override, overridden_as}
use Rattle.send_model.proofs.Fronts.{part_front}
use Rattle.send_model.proofs.TooLong.{short_fits, fault_fits, long_is}
use Rattle.sx_base.specs.Calls.{Wrote, Caused}
use Rattle.sx_base.specs.Refusals.{refusal_of, verdict_meant}
use Rattle.sx_base.specs.declared.outcome.Verdict.{Verdict}
use Rattle.sx_base.specs.declared.outcome.Outcome.{Outcome}
use Rattle.sx_base.specs.declared.outcome.Outcome.TheVariants as ended_by
use Rattle.cmd_reader.specs.declared.item.Item as read
use Rattle.cmd_reader.specs.declared.item.ReadStop.{ReadStop}
use Rattle.cmd_reader.specs.declared.item.ReadStop.TheVariants as stop
use Rattle.cmd_reader.specs.Places.{IfTold}
use Rattle.cmd_reader.specs.Fronts.{IsRefused as IsRefusedAt, IsLongAt}
use Rattle.cmd_reader.specs.Left.{Reader, at_start, left}
use Rattle.cmd_reader.specs.Next.{item_of, HasEnded, IsFaulty, OnlyEnds, IsNext, NextSays}
use Rattle.cmd_reader.specs.Stopping.{outcome_at}
use Rattle.cmd_reader.proofs.Aheads.{next_item, next_end}
use Rattle.cmd_reader.proofs.Told.{Here, told_both, told_map, told_always, told_here, told_moved}
use Rattle.auditor.specs.Following.{Followed, follow, follow_all, beside, items_with, read_with, file_read}
use Rattle.auditor.proofs.Runs.{run_on, refused_still}
use Rattle.auditor.proofs.TooLong.{whole_read, fault_read, long_read}
use Rattle.auditor.proofs.OneFile.{and_then}
use Rattle.auditor.proofs.Dues.{due_stop, due_refused, refused_one}
use Rattle.stream_export.specs.Exporting.{Point, written_from, Goes}
use Rattle.stream_export.specs.Steps.{Passes, OneTaken, IsRefused, bytes_at, then_others}
use Rattle.stream_export.proofs.Unpacked.{ItemStops, Stops, FileTaken, FileEnds}
use Rattle.stream_export.proofs.Going.{follow_plain, refused_writes, goes_one, goes_none, goes_on, goes_all, passes_none, passes_on}
use Rattle.stream_export.proofs.Named.{more_with, any_read}

-- ---- what the loop keeps

-- These commands of the file were read, and with the name that is given for its heads they were
-- taken; their bytes are gathered or written.
pub record Stands (override : Override) (file : ℕ) (old now : Point) (bytes_old bytes_now : List ℕ) (taken_old taken_now : Option (List ℕ)) (reader : Reader) (bytes : List ℕ) : Type 0 where
  items : List Item
  text : List ℕ
  read : reads file bytes ≡ and_then items (left reader bytes)
  goes : Goes old (items_with override items) now text
  passes : Passes bytes_old bytes_now text taken_old taken_now
  reached : reader.offset ≤ length bytes

left_fresh : (file : ℕ) (name bytes : List ℕ) → left (at_start file name) bytes ≡ reads file bytes
unfolding left reads
left_fresh file name bytes = refl

pub stands_at_start : (told : Option (List (List ℕ × List ℕ))) (override : Override) (file : ℕ) (name : List ℕ) (reader : Reader) (now : Point) (bytes_now : List ℕ) (taken : Option (List ℕ)) → reader ≡ at_start file name
    → IfTold told name (Stands override file now now bytes_now bytes_now taken taken reader)
stands_at_start told override file name reader now bytes_now taken e =
    subst (λ (r : Reader). IfTold told name (Stands override file now now bytes_now bytes_now taken taken r)) (sym e) (
    told_always told name (Stands override file now now bytes_now bytes_now taken taken (at_start file name)) (λ bytes. record {
      items = [];
      text = [];
      read = sym (left_fresh file name bytes);
      goes = goes_none now;
      passes = passes_none bytes_now taken;
      reached = omega (arith);
    }))

then_item : (items : List Item) (item : Item) (r : Reading) → and_then items (with_item item r) ≡ and_then (items ++ item ∷ []) r
then_item items item r = ap (λ (is : List Item). record { items = is; end = r.end }) (sym (append_assoc items (item ∷ []) r.items))

-- One more command.
pub stands_after : (told inputs : Option (List (List ℕ × List ℕ))) (override : Override) (file : ℕ) (name : List ℕ) (first now next : Point) (bytes_old bytes_now bytes_next : List ℕ) (taken_old taken_now taken_next : Option (List ℕ)) (old new : Reader) (f0 f1 : ℕ) (o : Option read.Item) (item : read.Item)
    → o ≡ Some item → inputs ≡ told → old.name ≡ name → old.file ≡ file → NextSays inputs old new f0 f1 (Ok o)
    → OneTaken now next (overridden_as override (item_of file item)) × Passes bytes_now bytes_next (bytes_at now (overridden_as override (item_of file item))) taken_now taken_next
    → IfTold told name (Stands override file first now bytes_old bytes_now taken_old taken_now old) → IfTold told name (Stands override file first next bytes_old bytes_next taken_old taken_next new)
stands_after told inputs override file name first now next bytes_old bytes_now bytes_next taken_old taken_now taken_next old new f0 f1 o item e same name_is file_is says (taken, passes) stands =
    told_both told name (IsNext old new item) (Stands override file first now bytes_old bytes_now taken_old taken_now old) (Stands override file first next bytes_old bytes_next taken_old taken_next new) step
    (next_item told inputs name old new f0 f1 o item e same name_is says) stands
  where
    meant_item : Item
    meant_item = item_of file item

    named : Item
    named = overridden_as override meant_item

    step : (bytes : List ℕ) → IsNext old new item bytes → Stands override file first now bytes_old bytes_now taken_old taken_now old bytes → Stands override file first next bytes_old bytes_next taken_old taken_next new bytes
    step bytes n s =
        let goes : Goes first (items_with override s.items ++ named ∷ []) next (s.text ++ bytes_at now named) =
        goes_on first now next (items_with override s.items) (named ∷ []) s.text (bytes_at now named) s.goes (goes_one now next named taken) in
        record {
          items = s.items ++ meant_item ∷ [];
          text = s.text ++ bytes_at now named;
          read = s.read ∙ ap (and_then s.items) (n.left_is ∙ ap (λ (k : ℕ). with_item (item_of k item) (left new bytes)) file_is) ∙ then_item s.items meant_item (left new bytes);
          goes = subst (λ (is : List Item). Goes first is next (s.text ++ bytes_at now named)) (more_with override s.items meant_item) goes;
          passes = passes_on bytes_old bytes_now bytes_next s.text (bytes_at now named) taken_old taken_now taken_next s.passes passes;
          reached = n.reached s.reached;
        }

-- ---- the ends

-- The file ends.
pub file_ends : (told inputs : Option (List (List ℕ × List ℕ))) (override : Override) (file : ℕ) (name : List ℕ) (first now : Point) (bytes_old bytes_now : List ℕ) (taken_old taken_now : Option (List ℕ)) (old new : Reader) (f0 f1 : ℕ) (o : Option read.Item)
    → o ≡ None → inputs ≡ told → old.name ≡ name → NextSays inputs old new f0 f1 (Ok o) → IfTold told name (Stands override file first now bytes_old bytes_now taken_old taken_now old)
    → IfTold told name (FileTaken override file first now bytes_old bytes_now taken_old taken_now)
file_ends told inputs override file name first now bytes_old bytes_now taken_old taken_now old new f0 f1 o e same name_is says stands =
    told_both told name (HasEnded old) (Stands override file first now bytes_old bytes_now taken_old taken_now old) (FileTaken override file first now bytes_old bytes_now taken_old taken_now) step
    (next_end told inputs name old new f0 f1 o e same name_is says) stands
  where
    step : (bytes : List ℕ) → HasEnded old bytes → Stands override file first now bytes_old bytes_now taken_old taken_now old bytes → FileTaken override file first now bytes_old bytes_now taken_old taken_now bytes
    step bytes (is, less) s = record {
      items = items_with override s.items;
      text = s.text;
      read = ap (read_with override) (
          whole_read file bytes s.items (short_fits file bytes less) (s.read ∙ ap (and_then s.items) is ∙ ap (λ (xs : List Item). record { items = xs; end = Whole }) (append-nil s.items)));
      goes = s.goes;
      passes = s.passes;
    }

-- A front part was written of what is gathered and what comes after it.
front_at : (first now : Point) (bytes_old bytes_now added text rest : List ℕ) (items others : List Item) (taken_old taken_now taken_next : Option (List ℕ))
    → Goes first items now text → Passes bytes_old bytes_now text taken_old taken_now → written_from now others ≡ added ++ rest → Wrote taken_now taken_next (IsFrontOf (bytes_now ++ added))
    → Wrote taken_old taken_next (IsFrontOf (bytes_old ++ written_from first (items ++ others)))
front_at first now bytes_old bytes_now added text rest items others taken_old taken_now taken_next g p is (w, appends, front) =
    let whole : bytes_old ++ written_from first (items ++ others) ≡ (p.sent ++ (bytes_now ++ added)) ++ rest =
    ap (λ (l : List ℕ). bytes_old ++ l) (g.written others ∙ ap (λ (l : List ℕ). text ++ l) is)
    ∙ sym (append_assoc bytes_old text (added ++ rest)) ∙ ap (λ (l : List ℕ). l ++ (added ++ rest)) (sym p.bytes_are)
    ∙ sym (append_assoc (p.sent ++ bytes_now) added rest) ∙ ap (λ (l : List ℕ). l ++ rest) (append_assoc p.sent bytes_now added) in
    let all = part_front (bytes_old ++ written_from first (items ++ others)) p.sent (bytes_now ++ added) rest front.count whole in (
      p.sent ++ w,
      Appends-trans taken_old taken_now taken_next p.sent w p.appends appends,
      subst (λ (l : List ℕ). IsFrontOf (bytes_old ++ written_from first (items ++ others)) (p.sent ++ l)) (sym front.written_is) all,
    )

-- No more than nothing was written since.
pub nothing_more : (taken_old taken_now : Option (List ℕ)) (all : List ℕ) → Wrote taken_old taken_now (λ w. w ≡ []) → Wrote taken_old taken_now (IsFrontOf all)
nothing_more taken_old taken_now all (w, appends, is) = (w, appends, record { count = 0; within = omega (arith); written_is = is })

-- The next command is refused, or there is no memory for it, or the output failed behind it.
pub item_ends : (told inputs : Option (List (List ℕ × List ℕ))) (override : Override) (file : ℕ) (name : List ℕ) (first now next : Point) (bytes_old bytes_now bytes_next : List ℕ) (taken_old taken_now taken_next : Option (List ℕ)) (old new : Reader) (f0 f1 early late : ℕ) (o : Option read.Item) (item : read.Item) (outcome : Outcome)
    → o ≡ Some item → inputs ≡ told → old.name ≡ name → old.file ≡ file → NextSays inputs old new f0 f1 (Ok o)
    → ItemStops now next bytes_now bytes_next (overridden_as override (item_of file item)) taken_now taken_next early late outcome
    → IfTold told name (Stands override file first now bytes_old bytes_now taken_old taken_now old) → IfTold told name (FileEnds override file first next bytes_old bytes_next taken_old taken_next (Err outcome))
item_ends told inputs override file name first now next bytes_old bytes_now bytes_next taken_old taken_now taken_next old new f0 f1 early late o item outcome e same name_is file_is says stops stands =
    by_outcome outcome stops
  where
    meant_item : Item
    meant_item = item_of file item

    named : Item
    named = overridden_as override meant_item

    Stood : List ℕ → Type 0
    Stood = Stands override file first now bytes_old bytes_now taken_old taken_now old

    Next : List ℕ → Type 0
    Next = IsNext old new item

    items_are : (bytes : List ℕ) → Next bytes → (s : Stood bytes) → items_with override (reads file bytes).items ≡ items_with override s.items ++ named ∷ items_with override (left new bytes).items
    items_are bytes n s =
        let read : (reads file bytes).items ≡ s.items ++ meant_item ∷ (left new bytes).items =
        ap (λ (x : Reading). x.items) (s.read ∙ ap (and_then s.items) (n.left_is ∙ ap (λ (k : ℕ). with_item (item_of k item) (left new bytes)) file_is)) in
        ap (items_with override) read ∙ map-append (overridden_as override) s.items (meant_item ∷ (left new bytes).items)

    -- What holds of its items, the command and any after it holds of what is read.
    read_on : (P : List Item → Type 0) (bytes : List ℕ) (more : Limited) → ((b : List ℕ) → Next b → (s : Stood b) → (extra : List Item) → P (items_with override s.items ++ named ∷ extra)) → Here Next bytes → Here Stood bytes
        → P (then_others (read_with override (file_read file bytes)) more).items
    read_on P bytes more all (n, n_front) (s, s_front) = any_read P override file bytes more (behind bytes n s) (behind (take limit bytes) n_front s_front)
      where
        behind : (b : List ℕ) → Next b → Stood b → (extra : List Item) → P (items_with override (reads file b).items ++ extra)
        behind b n s extra =
            let others : List Item = items_with override (left new b).items in
            subst P (sym (ap (λ (is : List Item). is ++ extra) (items_are b n s) ∙ append_assoc (items_with override s.items) (named ∷ others) extra)) (all b n s (others ++ extra))

    both : (Q : List ℕ → Type 0) → ((bytes : List ℕ) → Here Next bytes → Here Stood bytes → Q bytes) → IfTold told name Q
    both Q f = told_both told name (Here Next) (Here Stood) Q f
        (told_here told name Next (next_item told inputs name old new f0 f1 o item e same name_is says)) (told_here told name Stood stands)

    RefusedIn : Verdict → List Item → Type 0
    RefusedIn verdict items =
        ((follow_all (beside [] first.now.state) items).refused ≡ Some (verdict_meant verdict)) × Passes bytes_old bytes_next (written_from first items) taken_old taken_next

    refused_in : (verdict : Verdict) → IsRefused now named verdict → Passes bytes_now bytes_next [] taken_now taken_next → (b : List ℕ) → Next b → (s : Stood b) → (extra : List Item) → RefusedIn verdict (items_with override s.items ++ named ∷ extra)
    refused_in verdict (refusal, bad, is) passes b n s extra =
        let one : (follow_all (beside [] now.now.state) (named ∷ [])).refused ≡ Some (verdict_meant verdict) =
        refused_one (beside [] now.now.state) named refusal (ap (λ (x : After Followed). x.refusal) (follow_plain now.now.state named) ∙ bad) ∙ ap (λ (v : meant_Verdict). Some v) (sym is) in
        let text : written_from first (items_with override s.items ++ named ∷ extra) ≡ s.text ++ [] = s.goes.written (named ∷ extra) ∙ ap (λ (l : List ℕ). s.text ++ l) (refused_writes now named extra refusal bad) in (
          ap (λ (x : Ran Followed). x.refused) (run_on follow (items_with override s.items) (named ∷ extra) (beside [] first.now.state) (beside [] now.now.state) s.goes.accepted)
              ∙ refused_still follow (named ∷ []) extra (beside [] now.now.state) (verdict_meant verdict) one,
          subst (λ (l : List ℕ). Passes bytes_old bytes_next l taken_old taken_next) (sym text) (passes_on bytes_old bytes_now bytes_next s.text [] taken_old taken_now taken_next s.passes passes),
        )

    FrontIn : List Item → Type 0
    FrontIn items = Wrote taken_old taken_next (IsFrontOf (bytes_old ++ written_from first items))

    no_memory : Wrote taken_now taken_next (λ w. w ≡ []) → (b : List ℕ) → Next b → (s : Stood b) → (extra : List Item) → FrontIn (items_with override s.items ++ named ∷ extra)
    no_memory none b n s extra =
        front_at first now bytes_old bytes_now [] s.text (written_from now (named ∷ extra)) (items_with override s.items) (named ∷ extra) taken_old taken_now taken_next s.goes s.passes refl
        (nothing_more taken_now taken_next (bytes_now ++ []) none)

    output : OneTaken now next named → Wrote taken_now taken_next (IsFrontOf (bytes_now ++ bytes_at now named)) → (b : List ℕ) → Next b → (s : Stood b) → (extra : List Item) → FrontIn (items_with override s.items ++ named ∷ extra)
    output taken front b n s extra =
        let one = goes_one now next named taken in
        front_at first now bytes_old bytes_now (bytes_at now named) s.text (written_from next extra) (items_with override s.items) (named ∷ extra) taken_old taken_now taken_next s.goes s.passes (one.written extra) front

    by_outcome : (x : Outcome) → ItemStops now next bytes_now bytes_next named taken_now taken_next early late x → IfTold told name (FileEnds override file first next bytes_old bytes_next taken_old taken_next (Err x))
    by_outcome (ended_by.Refused verdict) (bad, passes) =
        both (FileEnds override file first next bytes_old bytes_next taken_old taken_next (Err (ended_by.Refused verdict))) (λ bytes n s more.
        let whole : Limited = then_others (read_with override (file_read file bytes)) more in
        let r : RefusedIn verdict whole.items = read_on (RefusedIn verdict) bytes more (refused_in verdict bad passes) n s in
        (due_refused (beside [] first.now.state) whole (verdict_meant verdict) r.0, r.1))
    by_outcome ended_by.NoMemory none =
        both (FileEnds override file first next bytes_old bytes_next taken_old taken_next (Err ended_by.NoMemory)) (λ bytes n s more. read_on FrontIn bytes more (no_memory none) n s)
    by_outcome ended_by.OutputFault (taken, rose, front) =
        both (FileEnds override file first next bytes_old bytes_next taken_old taken_next (Err ended_by.OutputFault)) (λ bytes n s more. read_on FrontIn bytes more (output taken front) n s)
    by_outcome ended_by.Done stops = absurd stops
    by_outcome ended_by.InputFault stops = absurd stops
    by_outcome (ended_by.InputTooLong number) stops = absurd stops
    by_outcome (ended_by.TooMuch sum) stops = absurd stops
    by_outcome (ended_by.InputChanged number place) stops = absurd stops

-- The file can not be read on.
pub file_stops : (told inputs : Option (List (List ℕ × List ℕ))) (override : Override) (file : ℕ) (name : List ℕ) (first now : Point) (bytes_old bytes_now : List ℕ) (taken_old taken_now : Option (List ℕ)) (old new : Reader) (f0 f1 : ℕ) (why : ReadStop) (outcome : Outcome)
    → inputs ≡ told → old.name ≡ name → NextSays inputs old new f0 f1 (Err why) → outcome ≡ outcome_at file why
    → IfTold told name (Stands override file first now bytes_old bytes_now taken_old taken_now old) → IfTold told name (FileEnds override file first now bytes_old bytes_now taken_old taken_now (Err outcome))
file_stops told inputs override file name first now bytes_old bytes_now taken_old taken_now old new f0 f1 why outcome same name_is says is stands =
    subst (λ (x : Outcome). IfTold told name (FileEnds override file first now bytes_old bytes_now taken_old taken_now (Err x))) (sym is) (by_why why says)
  where
    Stood : List ℕ → Type 0
    Stood = Stands override file first now bytes_old bytes_now taken_old taken_now old

    Ended : Outcome → List ℕ → Type 0
    Ended x = FileEnds override file first now bytes_old bytes_now taken_old taken_now (Err x)

    all_written : (items : List Item) (text : List ℕ) → Goes first items now text → Passes bytes_old bytes_now text taken_old taken_now → Passes bytes_old bytes_now (written_from first items) taken_old taken_now
    all_written items text g p = subst (λ (l : List ℕ). Passes bytes_old bytes_now l taken_old taken_now) (sym (goes_all first now items text g)) p

    faulty : (verdict : Verdict) (bytes : List ℕ) → IsFaulty old verdict bytes → (s : Stood bytes) → reads file bytes ≡ record { items = s.items; end = Faulty (verdict_meant verdict) }
    faulty verdict bytes broken s = s.read ∙ ap (and_then s.items) broken ∙ ap (λ (is : List Item). record { items = is; end = Faulty (verdict_meant verdict) }) (append-nil s.items)

    -- What is read stops in the file.
    stopped : (bytes : List ℕ) (read : Limited) (x : Outcome) → read_with override (file_read file bytes) ≡ read → ((more : Limited) → Stops first (then_others read more) bytes_old bytes_now taken_old taken_now x) → Ended x bytes
    stopped bytes read x is stops = λ more. subst (λ (l : Limited). Stops first (then_others l more) bytes_old bytes_now taken_old taken_now x) (sym is) (stops more)

    refused : (verdict : Verdict) (bytes : List ℕ) → Here (IsRefusedAt (λ _. IsFaulty old verdict) (refusal_of verdict.refusal)) bytes → Here Stood bytes → Ended (ended_by.Refused verdict) bytes
    refused verdict bytes (broken, broken_front) (s, s_front) =
        let ends : (reads file (take limit bytes)).end ≡ Faulty (verdict_meant verdict) = ap (λ (x : Reading). x.end) (faulty verdict (take limit bytes) broken_front.0 s_front) in
        let fits = fault_fits file bytes (verdict_meant verdict) broken.1 ends in
        let items : List Item = items_with override s.items in
        let read : Limited = record { items = items; stop = AtFault (verdict_meant verdict) } in
        stopped bytes read (ended_by.Refused verdict) (ap (read_with override) (fault_read file bytes s.items (verdict_meant verdict) fits (faulty verdict bytes broken.0 s)))
        (λ more. (due_stop (beside [] first.now.state) (beside [] now.now.state) read s.goes.accepted, all_written items s.text s.goes s.passes))

    long : (bytes : List ℕ) → Here Stood bytes → IsLongAt old.offset (OnlyEnds old) bytes → Ended (ended_by.InputTooLong file) bytes
    long bytes (s, s_front) is_long =
        let l = is_long s.reached in
        let items_are : (reads file (take limit bytes)).items ≡ s_front.items = ap (λ (x : Reading). x.items) s_front.read ∙ ap (λ (is : List Item). s_front.items ++ is) l.1.0 ∙ append-nil s_front.items in
        let too_long = long_is file bytes l.0 (ap (λ (x : Reading). only_ends x.end) s_front.read ∙ l.1.1) in
        let items : List Item = items_with override s_front.items in
        let read : Limited = record { items = items; stop = AtLimit file } in
        stopped bytes read (ended_by.InputTooLong file) (ap (read_with override) (long_read file bytes s_front.items too_long items_are))
        (λ more. (due_stop (beside [] first.now.state) (beside [] now.now.state) read s_front.goes.accepted, all_written items s_front.text s_front.goes s_front.passes))

    FrontIn : List Item → Type 0
    FrontIn items = Wrote taken_old taken_now (IsFrontOf (bytes_old ++ written_from first items))

    front_in : (bytes : List ℕ) (s : Stood bytes) (extra : List Item) → FrontIn (items_with override s.items ++ extra)
    front_in bytes s extra =
        front_at first now bytes_old bytes_now [] s.text (written_from now extra) (items_with override s.items) extra taken_old taken_now taken_now s.goes s.passes refl
        (nothing_more taken_now taken_now (bytes_now ++ []) ([], Appends-nil taken_now, refl))

    front_read : (bytes : List ℕ) → Stood bytes → (extra : List Item) → FrontIn (items_with override (reads file bytes).items ++ extra)
    front_read bytes s extra =
        let others : List Item = items_with override (left old bytes).items in
        let items_are : items_with override (reads file bytes).items ≡ items_with override s.items ++ others =
        ap (λ (x : Reading). items_with override x.items) s.read ∙ map-append (overridden_as override) s.items (left old bytes).items in
        subst FrontIn (sym (ap (λ (is : List Item). is ++ extra) items_are ∙ append_assoc (items_with override s.items) others extra)) (front_in bytes s (others ++ extra))

    front : (bytes : List ℕ) → Here Stood bytes → (more : Limited) → FrontIn (then_others (read_with override (file_read file bytes)) more).items
    front bytes (s, s_front) more = any_read FrontIn override file bytes more (front_read bytes s) (front_read (take limit bytes) s_front)

    here : (Q : List ℕ → Type 0) → ((bytes : List ℕ) → Here Stood bytes → Q bytes) → IfTold told name Q
    here Q f = told_map told name (Here Stood) Q f (told_here told name Stood stands)

    by_why : (x : ReadStop) → NextSays inputs old new f0 f1 (Err x) → IfTold told name (Ended (outcome_at file x))
    by_why (stop.Refused verdict) said =
        told_both told name (Here (IsRefusedAt (λ _. IsFaulty old verdict) (refusal_of verdict.refusal))) (Here Stood) (Ended (ended_by.Refused verdict)) (refused verdict)
        (told_here told name (IsRefusedAt (λ _. IsFaulty old verdict) (refusal_of verdict.refusal)) (told_moved told inputs name old.name (IsRefusedAt (λ _. IsFaulty old verdict) (refusal_of verdict.refusal)) same name_is said))
        (told_here told name Stood stands)
    by_why stop.InputFault said = here (Ended ended_by.InputFault) front
    by_why stop.InputTooLong said =
        told_both told name (Here Stood) (IsLongAt old.offset (OnlyEnds old)) (Ended (ended_by.InputTooLong file)) long
        (told_here told name Stood stands) (told_moved told inputs name old.name (IsLongAt old.offset (OnlyEnds old)) same name_is said)

-- There is no memory for a reader.
pub file_unopened : (told : Option (List (List ℕ × List ℕ))) (override : Override) (file : ℕ) (name : List ℕ) (now next : Point) (bytes_old bytes_now : List ℕ) (taken : Option (List ℕ))
    → IfTold told name (FileEnds override file now next bytes_old bytes_now taken taken (Err ended_by.NoMemory))
file_unopened told override file name now next bytes_old bytes_now taken =
    told_always told name (FileEnds override file now next bytes_old bytes_now taken taken (Err ended_by.NoMemory)) (λ bytes more. nothing_more taken taken _ ([], Appends-nil taken, refl))

-- ---- causes

pub item_cause : (now next : Point) (bytes_old bytes_now : List ℕ) (item : Item) (taken_old taken_now : Option (List ℕ)) (outcome : Outcome) (inputs_before inputs_now out_before out_mid out_now : ℕ) → out_before ≤ out_mid
    → ItemStops now next bytes_old bytes_now item taken_old taken_now out_mid out_now outcome → Caused inputs_before inputs_now out_before out_now outcome
item_cause now next bytes_old bytes_now item taken_old taken_now (ended_by.Refused verdict) inputs_before inputs_now out_before out_mid out_now early stops = tt
item_cause now next bytes_old bytes_now item taken_old taken_now ended_by.NoMemory inputs_before inputs_now out_before out_mid out_now early stops = tt
item_cause now next bytes_old bytes_now item taken_old taken_now ended_by.OutputFault inputs_before inputs_now out_before out_mid out_now early (taken, rose, front) = omega (arith, early, rose)
item_cause now next bytes_old bytes_now item taken_old taken_now ended_by.Done inputs_before inputs_now out_before out_mid out_now early stops = absurd stops
item_cause now next bytes_old bytes_now item taken_old taken_now ended_by.InputFault inputs_before inputs_now out_before out_mid out_now early stops = absurd stops
item_cause now next bytes_old bytes_now item taken_old taken_now (ended_by.InputTooLong number) inputs_before inputs_now out_before out_mid out_now early stops = absurd stops
item_cause now next bytes_old bytes_now item taken_old taken_now (ended_by.TooMuch sum) inputs_before inputs_now out_before out_mid out_now early stops = absurd stops
item_cause now next bytes_old bytes_now item taken_old taken_now (ended_by.InputChanged number place) inputs_before inputs_now out_before out_mid out_now early stops = absurd stops
