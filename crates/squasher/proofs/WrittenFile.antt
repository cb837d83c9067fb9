-- The second reading of a file that was judged: what its loop keeps, and each of its ends.
use Rattle.std.specs.Prelude.{◌≡◌, ℕ, ◌+◌, ◌≤◌, false, List, [], ◌∷◌, ◌++◌, length, take, drop, Option, None, Some, Result, Ok, Err}
use Rattle.std.specs.List.{list_any, AllByRecursion}
use Rattle.std.proofs.Common.{refl, sym, ap, subst, ◌∙◌, append_assoc, append-nil, length-append, arith}
use Rattle.std.proofs.lemmas.List.{map-append, length-map}
use Rattle.send_model.specs.Command.{Command, Write, End}
use Rattle.send_model.specs.Reading.{Item, Verdict, Whole, Faulty, Reading, with_item, reads}
use Rattle.send_model.specs.Spelling.{canonical_all}
use Rattle.send_model.specs.Laws.{CanWrite}
use Rattle.send_model.specs.Order.{heads, commands_of, without_parts}
use Rattle.send_model.specs.Counts.{is_end}
use Rattle.send_model.specs.Store.{Store}
use Rattle.send_model.specs.Receive.{start_of}
use Rattle.send_model.specs.Lengths.{limit, only_ends}
use Rattle.send_model.specs.Due.{Due, DoneWhole, RefusedAt, TooLong, Limited, AtFault, AtLimit, refused_due}
use Rattle.send_model.specs.Overridden.{Override, command_as, overridden_as}
use Rattle.send_model.proofs.TooLong.{short_fits, fault_fits, long_is}
use Rattle.send_commands.specs.Meaning.{meaning_of}
use Rattle.sx_base.specs.Refusals.{refusal_of, verdict_meant}
use Rattle.sx_base.specs.declared.outcome.Verdict.{Verdict as Judgement}
use Rattle.sx_base.specs.declared.outcome.Outcome.{Outcome}
use Rattle.sx_base.specs.declared.outcome.Outcome.TheVariants as ended_by
use Rattle.cmd_reader.specs.declared.item.Item as read
use Rattle.cmd_reader.specs.declared.item.ReadStop.{ReadStop}
use Rattle.cmd_reader.specs.declared.item.ReadStop.TheVariants as stop
use Rattle.cmd_reader.specs.Places.{IfTold}
use Rattle.cmd_reader.specs.Fronts.{IsRefused, IsLongAt}
use Rattle.cmd_reader.specs.Left.{Reader, at_start, left}
use Rattle.cmd_reader.specs.Next.{item_of, HasEnded, IsFaulty, OnlyEnds, IsNext, NextSays, ItemFits}
use Rattle.cmd_reader.specs.Stopping.{outcome_at}
use Rattle.cmd_reader.proofs.Aheads.{next_item, next_end}
use Rattle.cmd_reader.proofs.Told.{Here, told_both, told_map, told_always, told_here, told_moved}
use Rattle.clone_pieces.specs.Sending.{GoesOut, GoesPart, Output}
use Rattle.clone_pieces.specs.Stopping.{outcome_with}
use Rattle.clone_pieces.specs.declared.stops.SendStop.{SendStop}
use Rattle.clone_pieces.specs.declared.stops.SendStop.TheVariants as send
use Rattle.clone_pieces.proofs.Flow.{goes_none, part_then, part_none}
use Rattle.auditor.specs.Following.{items_with, file_read, read_whole}
use Rattle.auditor.proofs.OneFile.{and_then}
use Rattle.auditor.proofs.TooLong.{whole_read, fault_read, long_read, read_either}
use Rattle.squash_model.specs.SquashJudge.{nothing_passed, judge_one}
use Rattle.squash_log.specs.Fates.{Fate}
use Rattle.squash_log.specs.Resolved.{next_fate, by_fate, by_fates}
use Rattle.squasher.specs.declared.judging.Judged.{Judged}
use Rattle.squasher.specs.declared.writing.WriteStop.{WriteStop}
use Rattle.squasher.specs.declared.writing.WriteStop.TheVariants as why
use Rattle.squash_model.specs.SquashDues.{squash_due, stop_or, verdict_or}
use Rattle.squasher.specs.Judging.{read_with}
use Rattle.squasher.specs.Squashing.{IsFound}
use Rattle.squasher.specs.Writing.{written_for, fates_behind, written_by, SendEnds, Puts, end_by, Counts, PartEnds, CommandsEnd}
use Rattle.squasher.proofs.Going.{none_canonical, both_canonical, goes_both, sends_then, all_between}

-- ---- lists of commands

-- What stands for commands before END.
written_front : (fates : List Fate) (front : List Command) → list_any is_end front ≡ false → written_by fates (front ++ End ∷ []) ≡ by_fates fates front
written_front fates [] none = refl
written_front fates (Write path offset bytes ∷ front) none = ap (λ (l : List Command). by_fate (next_fate fates) path offset bytes ++ l) (written_front (drop 1 fates) front none)
written_front fates (End ∷ front) none = cc
written_front fates (c ∷ front) none = ap (λ (l : List Command). c ∷ l) (written_front fates front none)

-- END stays behind them.
pub fates_end : (fates : List Fate) (front : List Command) → by_fates fates (front ++ End ∷ []) ≡ by_fates fates front ++ End ∷ []
fates_end fates [] = refl
fates_end fates (Write path offset bytes ∷ front) =
    ap (λ (l : List Command). by_fate (next_fate fates) path offset bytes ++ l) (fates_end (drop 1 fates) front)
    ∙ sym (append_assoc (by_fate (next_fate fates) path offset bytes) (by_fates (drop 1 fates) front) (End ∷ []))
fates_end fates (c ∷ front) = ap (λ (l : List Command). c ∷ l) (fates_end fates front)

-- Of what was found out.
pub written_found : (base : Store ℕ) (l : Limited) (found : Judged) → IsFound base l found → (front : List Command) × (commands_of l.items ≡ front ++ End ∷ []) × (written_by found.fates (commands_of l.items) ≡ by_fates found.fates front) × AllByRecursion (CanWrite found.version) (by_fates found.fates front)
written_found base l found f = (f.front, f.front_is, ap (written_by found.fates) f.front_is ∙ written_front found.fates f.front f.no_end, f.spelled)

-- ---- a file that can be squashed

verdict_clash : {A : Type 0} (verdict : Verdict) → RefusedAt verdict ≡ DoneWhole → A
verdict_clash verdict e = cc

long_clash : {A : Type 0} (file : ℕ) → TooLong file ≡ DoneWhole → A
long_clash file e = cc

no_verdict : {A : Type 0} (o : Option Verdict) (verdict : Verdict) (other : Due) → verdict_or o (stop_or (AtFault verdict) other) ≡ DoneWhole → A
no_verdict None verdict other e = verdict_clash verdict e
no_verdict (Some v) verdict other e = verdict_clash v e

no_limit : {A : Type 0} (o : Option Verdict) (file : ℕ) (other : Due) → verdict_or o (stop_or (AtLimit file) other) ≡ DoneWhole → A
no_limit None file other e = long_clash file e
no_limit (Some v) file other e = verdict_clash v e

abbrev given : Override → Limited → Limited
given said l = record { items = items_with said l.items; stop = l.stop }

module _ (said : Override) (file : ℕ) (found : Judged) (bytes : List ℕ) (base : Store ℕ) where
  abbrev Found : Type 0
  Found = IsFound base (read_with said file bytes) found

  -- It has no fault and is not too long.
  no_fault : {A : Type 0} (items : List Item) (verdict : Verdict) → read_with said file bytes ≡ record { items = items; stop = AtFault verdict } → Found → A
  no_fault items verdict is f =
      no_verdict (judge_one (start_of base) nothing_passed items) verdict (refused_due (without_parts items (heads items))) (sym (ap (squash_due base) is) ∙ f.done)

  not_long : {A : Type 0} (items : List Item) (number : ℕ) → read_with said file bytes ≡ record { items = items; stop = AtLimit number } → Found → A
  not_long items number is f =
      no_limit (judge_one (start_of base) nothing_passed items) number (refused_due (without_parts items (heads items))) (sym (ap (squash_due base) is) ∙ f.done)

-- ---- what the loop keeps

-- What was put for the commands that were read, and what is left to put.
pub record Halfway (said : Override) (file : ℕ) (found : Judged) (reader : Reader) (fates : List Fate) (old now : Output) (bytes : List ℕ) : Type 0 where
  pub items : List Item
  pub read : reads file bytes ≡ and_then items (left reader bytes)
  pub reached : reader.offset ≤ length bytes
  pub counted : reader.number ≡ length items + 1
  pub done : List Command
  pub on : (more : List Command) → written_by found.fates (commands_of (items_with said items) ++ more) ≡ done ++ written_by fates more
  pub goes : GoesOut old.taken now.taken old.pending now.pending (canonical_all found.version done)

left_fresh : (file : ℕ) (name bytes : List ℕ) → left (at_start file name) bytes ≡ reads file bytes
unfolding left reads
left_fresh file name bytes = refl

pub halfway_at_start : (told : Option (List (List ℕ × List ℕ))) (said : Override) (file : ℕ) (name : List ℕ) (found : Judged) (reader : Reader) (old : Output) → reader ≡ at_start file name
    → IfTold told name (Halfway said file found reader found.fates old old)
halfway_at_start told said file name found reader old e =
    subst (λ (r : Reader). IfTold told name (Halfway said file found r found.fates old old)) (sym e)
    (told_always told name (Halfway said file found (at_start file name) found.fates old old) (λ bytes. record {
      items = [];
      read = sym (left_fresh file name bytes);
      reached = omega (arith);
      counted = refl;
      done = [];
      on = λ more. refl;
      goes = subst (λ (l : List ℕ). GoesOut old.taken old.taken old.pending old.pending l) (sym (none_canonical found.version)) (goes_none old.taken old.pending);
    }))

-- What went out, in the version of the stream.
pub goes_in : (v version : ℕ) (now then : Output) (cs : List Command) → v ≡ version → GoesOut now.taken then.taken now.pending then.pending (canonical_all v cs) → GoesOut now.taken then.taken now.pending then.pending (canonical_all version cs)
goes_in v version now then cs same goes = subst (λ (n : ℕ). GoesOut now.taken then.taken now.pending then.pending (canonical_all n cs)) same goes

then_item : (items : List Item) (item : Item) (r : Reading) → and_then items (with_item item r) ≡ and_then (items ++ item ∷ []) r
then_item items item r = ap (λ (is : List Item). record { items = is; end = r.end }) (sym (append_assoc items (item ∷ []) r.items))

-- The commands that were read and one more.
commands_more : (said : Override) (items : List Item) (item : Item) (more : List Command) → commands_of (items_with said (items ++ item ∷ [])) ++ more ≡ commands_of (items_with said items) ++ (command_as said item.command ∷ more)
commands_more said items item more =
    ap (λ (is : List Item). commands_of is ++ more) (map-append (overridden_as said) items (item ∷ []))
    ∙ ap (λ (l : List Command). l ++ more) (map-append (λ (i : Item). i.command) (items_with said items) (overridden_as said item ∷ []))
    ∙ append_assoc (commands_of (items_with said items)) (command_as said item.command ∷ []) more

pub halfway_after : (told inputs : Option (List (List ℕ × List ℕ))) (said : Override) (file : ℕ) (name : List ℕ) (found : Judged) (old new : Reader) (fates next : List Fate) (first now then : Output) (f0 f1 : ℕ) (o : Option read.Item) (item : read.Item)
    → o ≡ Some item → inputs ≡ told → old.name ≡ name → old.file ≡ file → NextSays inputs old new f0 f1 (Ok o) → ItemFits old new item → next ≡ fates_behind fates (command_as said (meaning_of item.command))
    → GoesOut now.taken then.taken now.pending then.pending (canonical_all found.version (written_for fates (command_as said (meaning_of item.command))))
    → IfTold told name (Halfway said file found old fates first now) → IfTold told name (Halfway said file found new next first then)
halfway_after told inputs said file name found old new fates next first now then f0 f1 o item e same name_is file_is says fits behind goes halfway =
    told_both told name (IsNext old new item) (Halfway said file found old fates first now) (Halfway said file found new next first then) go
    (next_item told inputs name old new f0 f1 o item e same name_is says) halfway
  where
    c : Command
    c = command_as said (meaning_of item.command)

    go : (bytes : List ℕ) → IsNext old new item bytes → Halfway said file found old fates first now bytes → Halfway said file found new next first then bytes
    go bytes n h = record {
      items = h.items ++ item_of file item ∷ [];
      read = h.read ∙ ap (and_then h.items) (n.left_is ∙ ap (λ (k : ℕ). with_item (item_of k item) (left new bytes)) file_is) ∙ then_item h.items (item_of file item) (left new bytes);
      reached = n.reached h.reached;
      counted = omega (arith, fits.next_number, h.counted, length-append h.items (item_of file item ∷ []));
      done = h.done ++ written_for fates (command_as said (meaning_of item.command));
      on = λ more.
          ap (written_by found.fates) (commands_more said h.items (item_of file item) more) ∙ h.on (command_as said (meaning_of item.command) ∷ more)
          ∙ sym (append_assoc h.done (written_for fates (command_as said (meaning_of item.command))) (written_by (fates_behind fates (command_as said (meaning_of item.command))) more))
          ∙ ap (λ (fs : List Fate). (h.done ++ written_for fates (command_as said (meaning_of item.command))) ++ written_by fs more) (sym behind);
      goes = goes_both found.version first now then h.done (written_for fates (command_as said (meaning_of item.command))) h.goes goes;
    }

-- ---- the ends

-- All that is put for a file, by a part of it that was read and the rest.
whole_is : (said : Override) (file : ℕ) (found : Judged) (reader : Reader) (fates : List Fate) (old now : Output) (bytes : List ℕ) (h : Halfway said file found reader fates old now bytes) (more : List Item) (all : List Item) → all ≡ items_with said (h.items ++ more)
    → written_by found.fates (commands_of all) ≡ h.done ++ written_by fates (commands_of (items_with said more))
whole_is said file found reader fates old now bytes h more all is =
    ap (λ (l : List Item). written_by found.fates (commands_of l)) (is ∙ map-append (overridden_as said) h.items more)
    ∙ ap (written_by found.fates) (map-append (λ (i : Item). i.command) (items_with said h.items) (items_with said more))
    ∙ h.on (commands_of (items_with said more))

abbrev pub Ends : Override → ℕ → Store ℕ → Judged → (old now : Output) → Result (Unit {0}) Outcome → List ℕ → Type 0
Ends said file base found old now result bytes = IsFound base (read_with said file bytes) found → CommandsEnd found (read_with said file bytes).items old now result

-- ---- the file ends

ended_items : (said : Override) (file : ℕ) (found : Judged) (reader : Reader) (fates : List Fate) (old now : Output) (bytes : List ℕ) → HasEnded reader bytes → (h : Halfway said file found reader fates old now bytes)
    → read_with said file bytes ≡ read_whole (items_with said h.items)
ended_items said file found reader fates old now bytes (is, less) h =
    ap (given said) (whole_read file bytes h.items (short_fits file bytes less) (h.read ∙ ap (and_then h.items) is ∙ ap (λ (xs : List Item). record { items = xs; end = Whole }) (append-nil h.items)))

pub commands_ended : (told inputs : Option (List (List ℕ × List ℕ))) (said : Override) (file : ℕ) (name : List ℕ) (base : Store ℕ) (found : Judged) (old new : Reader) (fates : List Fate) (first now : Output) (f0 f1 : ℕ) (o : Option read.Item)
    → o ≡ None → inputs ≡ told → old.name ≡ name → NextSays inputs old new f0 f1 (Ok o) → IfTold told name (Halfway said file found old fates first now) → IfTold told name (Ends said file base found first now (Ok tt))
commands_ended told inputs said file name base found old new fates first now f0 f1 o e same name_is says halfway =
    told_both told name (HasEnded old) (Halfway said file found old fates first now) (Ends said file base found first now (Ok tt)) go
    (next_end told inputs name old new f0 f1 o e same name_is says) halfway
  where
    go : (bytes : List ℕ) → HasEnded old bytes → Halfway said file found old fates first now bytes → Ends said file base found first now (Ok tt) bytes
    go bytes ended h = λ f.
        let all : (read_with said file bytes).items ≡ items_with said (h.items ++ []) = ap (λ (l : Limited). l.items) (ended_items said file found old fates first now bytes ended h) ∙ ap (items_with said) (sym (append-nil h.items)) in
        let is : written_by found.fates (commands_of (read_with said file bytes).items) ≡ h.done = whole_is said file found old fates first now bytes h [] (read_with said file bytes).items all ∙ append-nil h.done in
        subst (λ (cs : List Command). GoesOut first.taken now.taken first.pending now.pending (canonical_all found.version cs)) (sym is) h.goes

-- It has as many commands as were judged.
pub commands_counted : (told inputs : Option (List (List ℕ × List ℕ))) (said : Override) (file : ℕ) (name : List ℕ) (base : Store ℕ) (found : Judged) (old new : Reader) (fates : List Fate) (first now : Output) (f0 f1 : ℕ) (o : Option read.Item) (last : ℕ) (changed : Outcome) (r : Result (Unit {0}) Outcome)
    → o ≡ None → inputs ≡ told → old.name ≡ name → NextSays inputs old new f0 f1 (Ok o) → old.number ≡ last + 1 → Counts last found.commands changed r → IfTold told name (Halfway said file found old fates first now)
    → IfTold told name (Ends said file base found first now r)
commands_counted told inputs said file name base found old new fates first now f0 f1 o last changed (Ok done) e same name_is says number counts halfway =
    commands_ended told inputs said file name base found old new fates first now f0 f1 o e same name_is says halfway
commands_counted told inputs said file name base found old new fates first now f0 f1 o last changed (Err outcome) e same name_is says number counts halfway =
    told_both told name (HasEnded old) (Halfway said file found old fates first now) (Ends said file base found first now (Err outcome)) go
    (next_end told inputs name old new f0 f1 o e same name_is says) halfway
  where
    go : (bytes : List ℕ) → HasEnded old bytes → Halfway said file found old fates first now bytes → Ends said file base found first now (Err outcome) bytes
    go bytes ended h = λ f.
        let count : length (read_with said file bytes).items ≡ length (items_with said h.items) = ap (λ (l : Limited). length l.items) (ended_items said file found old fates first now bytes ended h) in
        let long : length (items_with said h.items) ≡ length h.items = length-map h.items (overridden_as said) in
        absurd (counts.0 (omega (arith, f.commands, count, long, h.counted, number)))

-- ---- the inputs fail

record Split (said : Override) (found : Judged) (first now : Output) (is : List Item) : Type 0 where
  done : List Command
  rest : List Command
  split : written_by found.fates (commands_of (items_with said is)) ≡ done ++ rest
  goes : GoesOut first.taken now.taken first.pending now.pending (canonical_all found.version done)

split_whole : (said : Override) (file : ℕ) (found : Judged) (reader : Reader) (fates : List Fate) (old now : Output) (bytes : List ℕ) → Halfway said file found reader fates old now bytes → Split said found old now (reads file bytes).items
split_whole said file found reader fates old now bytes h = record {
  done = h.done;
  rest = written_by fates (commands_of (items_with said (left reader bytes).items));
  split = whole_is said file found reader fates old now bytes h (left reader bytes).items (items_with said (reads file bytes).items) (ap (λ (r : Reading). items_with said r.items) h.read);
  goes = h.goes;
}

part_of : (said : Override) (found : Judged) (first now : Output) (is : List Item) → Split said found first now is
    → GoesPart first.taken now.taken first.pending now.pending (canonical_all found.version (written_by found.fates (commands_of (items_with said is))))
part_of said found first now is s =
    part_then first.taken now.taken now.taken first.pending now.pending now.pending (canonical_all found.version s.done) [] (canonical_all found.version s.rest)
    (canonical_all found.version (written_by found.fates (commands_of (items_with said is)))) (ap (canonical_all found.version) s.split ∙ both_canonical found.version s.done s.rest)
    s.goes (part_none now.taken now.pending [])

pub inputs_failed : (told : Option (List (List ℕ × List ℕ))) (said : Override) (file : ℕ) (name : List ℕ) (base : Store ℕ) (found : Judged) (reader : Reader) (fates : List Fate) (first now : Output)
    → IfTold told name (Halfway said file found reader fates first now) → IfTold told name (Ends said file base found first now (Err ended_by.InputFault))
inputs_failed told said file name base found reader fates first now halfway =
    told_map told name (Here (Halfway said file found reader fates first now)) (Ends said file base found first now (Err ended_by.InputFault)) go (told_here told name (Halfway said file found reader fates first now) halfway)
  where
    go : (bytes : List ℕ) → Here (Halfway said file found reader fates first now) bytes → Ends said file base found first now (Err ended_by.InputFault) bytes
    go bytes (h, h_front) = λ f.
        let s : Split said found first now (file_read file bytes).items = read_either (Split said found first now) file bytes (split_whole said file found reader fates first now bytes h) (split_whole said file found reader fates first now (take limit bytes) h_front) in
        part_of said found first now (file_read file bytes).items s

-- ---- the file is not the one that was judged

pub not_refused : (told inputs : Option (List (List ℕ × List ℕ))) (said : Override) (file : ℕ) (name : List ℕ) (base : Store ℕ) (found : Judged) (old new : Reader) (fates : List Fate) (first now : Output) (f0 f1 : ℕ) (verdict : Judgement)
    → inputs ≡ told → old.name ≡ name → NextSays inputs old new f0 f1 (Err (stop.Refused verdict)) → IfTold told name (Halfway said file found old fates first now)
    → IfTold told name (Ends said file base found first now (Err (ended_by.Refused verdict)))
not_refused told inputs said file name base found old new fates first now f0 f1 verdict same name_is says halfway =
    told_both told name (Here (IsRefused (λ _. IsFaulty old verdict) (refusal_of verdict.refusal))) (Here (Halfway said file found old fates first now)) (Ends said file base found first now (Err (ended_by.Refused verdict))) go
    (told_here told name (IsRefused (λ _. IsFaulty old verdict) (refusal_of verdict.refusal)) (told_moved told inputs name old.name (IsRefused (λ _. IsFaulty old verdict) (refusal_of verdict.refusal)) same name_is says))
    (told_here told name (Halfway said file found old fates first now) halfway)
  where
    faulty : (bytes : List ℕ) → IsFaulty old verdict bytes → (h : Halfway said file found old fates first now bytes) → reads file bytes ≡ record { items = h.items; end = Faulty (verdict_meant verdict) }
    faulty bytes broken h = h.read ∙ ap (and_then h.items) broken ∙ ap (λ (is : List Item). record { items = is; end = Faulty (verdict_meant verdict) }) (append-nil h.items)

    go : (bytes : List ℕ) → Here (IsRefused (λ _. IsFaulty old verdict) (refusal_of verdict.refusal)) bytes → Here (Halfway said file found old fates first now) bytes → Ends said file base found first now (Err (ended_by.Refused verdict)) bytes
    go bytes (broken, broken_front) (h, h_front) = λ f.
        let ends : (reads file (take limit bytes)).end ≡ Faulty (verdict_meant verdict) = ap (λ (x : Reading). x.end) (faulty (take limit bytes) broken_front.0 h_front) in
        let fits = fault_fits file bytes (verdict_meant verdict) broken.1 ends in
        let read = fault_read file bytes h.items (verdict_meant verdict) fits (faulty bytes broken.0 h) in
        no_fault said file found bytes base (items_with said h.items) (verdict_meant verdict) (ap (given said) read) f

pub not_too_long : (told inputs : Option (List (List ℕ × List ℕ))) (said : Override) (file : ℕ) (name : List ℕ) (base : Store ℕ) (found : Judged) (old new : Reader) (fates : List Fate) (first now : Output) (f0 f1 : ℕ)
    → inputs ≡ told → old.name ≡ name → NextSays inputs old new f0 f1 (Err stop.InputTooLong) → IfTold told name (Halfway said file found old fates first now)
    → IfTold told name (Ends said file base found first now (Err (ended_by.InputTooLong file)))
not_too_long told inputs said file name base found old new fates first now f0 f1 same name_is says halfway =
    told_both told name (Here (Halfway said file found old fates first now)) (IsLongAt old.offset (OnlyEnds old)) (Ends said file base found first now (Err (ended_by.InputTooLong file))) go
    (told_here told name (Halfway said file found old fates first now) halfway) (told_moved told inputs name old.name (IsLongAt old.offset (OnlyEnds old)) same name_is says)
  where
    go : (bytes : List ℕ) → Here (Halfway said file found old fates first now) bytes → IsLongAt old.offset (OnlyEnds old) bytes → Ends said file base found first now (Err (ended_by.InputTooLong file)) bytes
    go bytes (h, h_front) is_long = λ f.
        let l = is_long h.reached in
        let items_are : (reads file (take limit bytes)).items ≡ h_front.items = ap (λ (x : Reading). x.items) h_front.read ∙ ap (λ (is : List Item). h_front.items ++ is) l.1.0 ∙ append-nil h_front.items in
        let too_long = long_is file bytes l.0 (ap (λ (x : Reading). only_ends x.end) h_front.read ∙ l.1.1) in
        not_long said file found bytes base (items_with said h_front.items) file (ap (given said) (long_read file bytes h_front.items too_long items_are)) f

-- The file can not be read on.
pub reading_stopped : (told inputs : Option (List (List ℕ × List ℕ))) (said : Override) (file : ℕ) (name : List ℕ) (base : Store ℕ) (found : Judged) (old new : Reader) (fates : List Fate) (first now : Output) (f0 f1 : ℕ) (why : ReadStop) (outcome : Outcome)
    → inputs ≡ told → old.name ≡ name → NextSays inputs old new f0 f1 (Err why) → outcome ≡ outcome_at file why → IfTold told name (Halfway said file found old fates first now)
    → IfTold told name (Ends said file base found first now (Err outcome))
reading_stopped told inputs said file name base found old new fates first now f0 f1 why outcome same name_is says is halfway =
    subst (λ (x : Outcome). IfTold told name (Ends said file base found first now (Err x))) (sym is) (by_why why says)
  where
    by_why : (x : ReadStop) → NextSays inputs old new f0 f1 (Err x) → IfTold told name (Ends said file base found first now (Err (outcome_at file x)))
    by_why (stop.Refused verdict) said_so = not_refused told inputs said file name base found old new fates first now f0 f1 verdict same name_is said_so halfway
    by_why stop.InputFault said_so = inputs_failed told said file name base found old fates first now halfway
    by_why stop.InputTooLong said_so = not_too_long told inputs said file name base found old new fates first now f0 f1 same name_is said_so halfway

-- ---- a command that was not written

-- The commands that are read, by the one that was not written.
record Cut (said : Override) (file : ℕ) (found : Judged) (fates : List Fate) (first now : Output) (item : read.Item) (is : List Item) : Type 0 where
  before : List Item
  after : List Item
  items : is ≡ before ++ item_of file item ∷ after
  done : List Command
  rest : List Command
  split : written_by found.fates (commands_of (items_with said is)) ≡ done ++ (written_for fates (command_as said (meaning_of item.command)) ++ rest)
  goes : GoesOut first.taken now.taken first.pending now.pending (canonical_all found.version done)

cut_whole : (said : Override) (file : ℕ) (found : Judged) (old new : Reader) (fates : List Fate) (first now : Output) (item : read.Item) (bytes : List ℕ) → old.file ≡ file → IsNext old new item bytes → Halfway said file found old fates first now bytes
    → Cut said file found fates first now item (reads file bytes).items
cut_whole said file found old new fates first now item bytes file_is n h =
    let c : Command = command_as said (meaning_of item.command) in
    let more : List Item = (left new bytes).items in
    let all : (reads file bytes).items ≡ h.items ++ item_of file item ∷ more = ap (λ (x : Reading). x.items) (h.read ∙ ap (and_then h.items) (n.left_is ∙ ap (λ (k : ℕ). with_item (item_of k item) (left new bytes)) file_is)) in
    record {
      before = h.items;
      after = more;
      items = all;
      done = h.done;
      rest = written_by (fates_behind fates c) (commands_of (items_with said more));
      split = whole_is said file found old fates first now bytes h (item_of file item ∷ more) (items_with said (reads file bytes).items) (ap (items_with said) all);
      goes = h.goes;
    }

version_at : (said : Override) (file version : ℕ) (item : read.Item) (before after : List Item) → AllByRecursion (λ i. i.version ≡ version) (items_with said (before ++ item_of file item ∷ after)) → item.version ≡ version
version_at said file version item [] after all = all.0
version_at said file version item (i ∷ before) after all = version_at said file version item before after all.1

module _ (told inputs : Option (List (List ℕ × List ℕ))) (said : Override) (file : ℕ) (name : List ℕ) (base : Store ℕ) (found : Judged) (old new : Reader) (fates : List Fate) (first now then : Output) (f0 f1 : ℕ) (o : Option read.Item) (item : read.Item)
    (e : o ≡ Some item) (same : inputs ≡ told) (name_is : old.name ≡ name) (file_is : old.file ≡ file) (says : NextSays inputs old new f0 f1 (Ok o)) (halfway : IfTold told name (Halfway said file found old fates first now)) where
  cut_told : (Q : List ℕ → Type 0) → ((bytes : List ℕ) → Cut said file found fates first now item (file_read file bytes).items → Q bytes) → IfTold told name Q
  cut_told Q use_cut =
      told_both told name (Here (IsNext old new item)) (Here (Halfway said file found old fates first now)) Q
      (λ bytes n h. use_cut bytes (read_either (Cut said file found fates first now item) file bytes (cut_whole said file found old new fates first now item bytes file_is n.0 h.0) (cut_whole said file found old new fates first now item (take limit bytes) file_is n.1 h.1)))
      (told_here told name (IsNext old new item) (next_item told inputs name old new f0 f1 o item e same name_is says))
      (told_here told name (Halfway said file found old fates first now) halfway)

  -- Its bytes did not go out.
  pub command_stopped : (s : SendStop) (outcome : Outcome) → outcome ≡ outcome_with s → now.faults ≡ first.faults → SendEnds now then (canonical_all found.version (written_for fates (command_as said (meaning_of item.command)))) s
      → IfTold told name (Ends said file base found first then (Err outcome))
  command_stopped s outcome is steady ends =
      subst (λ (x : Outcome). IfTold told name (Ends said file base found first then (Err x))) (sym is)
      (cut_told (Ends said file base found first then (Err (outcome_with s))) (λ bytes cut f. by_stop first then (canonical_all found.version (written_by found.fates (commands_of (items_with said (file_read file bytes).items)))) s (sends_then first now then (canonical_all found.version cut.done) (canonical_all found.version (written_for fates (command_as said (meaning_of item.command)))) (canonical_all found.version cut.rest)
      (canonical_all found.version (written_by found.fates (commands_of (items_with said (file_read file bytes).items)))) s
      (ap (canonical_all found.version) cut.split ∙ both_canonical found.version cut.done (written_for fates (command_as said (meaning_of item.command)) ++ cut.rest)
      ∙ ap (λ (l : List ℕ). canonical_all found.version cut.done ++ l) (both_canonical found.version (written_for fates (command_as said (meaning_of item.command))) cut.rest)) steady cut.goes ends)))
    where
      by_stop : (a b : Output) (bytes : List ℕ) (x : SendStop) → SendEnds a b bytes x → PartEnds a b bytes (outcome_with x)
      by_stop a b bytes send.OutputFault p = p.1
      by_stop a b bytes send.NoMemory p = p
      by_stop a b bytes send.InputFault p = absurd p
      by_stop a b bytes (send.InputChanged number place) p = absurd p

  -- It is one that was judged.
  pub command_judged : (outcome : Outcome) → (item.version ≡ found.version → AllByRecursion (CanWrite found.version) (written_for fates (command_as said (meaning_of item.command))) → ⊥)
      → IfTold told name (Ends said file base found first then (Err outcome))
  command_judged outcome never =
      cut_told (Ends said file base found first then (Err outcome)) (λ bytes cut f.
      let w = written_found base (read_with said file bytes) found f in
      let all : AllByRecursion (CanWrite found.version) (cut.done ++ (written_for fates (command_as said (meaning_of item.command)) ++ cut.rest)) = subst (λ (cs : List Command). AllByRecursion (CanWrite found.version) cs) (sym w.2 ∙ cut.split) w.3 in
      absurd (never (version_at said file found.version item cut.before cut.after (subst (λ (is : List Item). AllByRecursion (λ i. i.version ≡ found.version) (items_with said is)) cut.items f.versions))
      (all_between (CanWrite found.version) cut.done (written_for fates (command_as said (meaning_of item.command))) cut.rest all)))

  -- It has another version than the stream.
  pub version_differs : (outcome : Outcome) → (item.version ≡ found.version → ⊥) → IfTold told name (Ends said file base found first then (Err outcome))
  version_differs outcome differ = command_judged outcome (λ version all. differ version)

  -- Why ever.
  pub command_cut : (changed : Outcome) (w : WriteStop) (outcome : Outcome) → outcome ≡ end_by changed w → now.faults ≡ first.faults → item.version ≡ found.version → Puts item.version now then (written_for fates (command_as said (meaning_of item.command))) (Err w)
      → IfTold told name (Ends said file base found first then (Err outcome))
  command_cut changed w outcome is steady version puts = one w is (subst (λ (v : ℕ). Puts v now then (written_for fates (command_as said (meaning_of item.command))) (Err w)) version puts)
    where
      one : (x : WriteStop) → outcome ≡ end_by changed x → Puts found.version now then (written_for fates (command_as said (meaning_of item.command))) (Err x) → IfTold told name (Ends said file base found first then (Err outcome))
      one (why.Send s) e p = command_stopped s outcome e steady p
      one why.Changed e p = command_judged outcome (λ v all. p all)

-- ---- nothing was read

-- There is no memory for a reader.
pub reader_missing : (told : Option (List (List ℕ × List ℕ))) (name : List ℕ) (said : Override) (file : ℕ) (base : Store ℕ) (found : Judged) (old : Output) → IfTold told name (Ends said file base found old old (Err ended_by.NoMemory))
reader_missing told name said file base found old = told_always told name (Ends said file base found old old (Err ended_by.NoMemory))
    (λ bytes f. part_none old.taken old.pending (canonical_all found.version (written_by found.fates (commands_of (read_with said file bytes).items))))
