-- Judging one file: what its loop keeps, and each of its ends.
use Rattle.std.specs.Prelude.{◌≡◌, ℕ, zero, suc, ◌+◌, ◌≤◌, ◌||◌, ◌&&◌, Bool, true, false, List, [], ◌∷◌, ◌++◌, length, take, Option, None, Some, Result, Ok, Err, is_some}
use Rattle.std.specs.List.{AllByRecursion}
use Rattle.std.specs.Option.{option_to_list}
use Rattle.std.proofs.Common.{refl, sym, ap, subst, ◌∙◌, append_assoc, append-nil, arith}
use Rattle.std.proofs.lemmas.Bool.{or_parts}
use Rattle.std.proofs.lemmas.List.{map-append}
use Rattle.send_model.specs.Command.{Command, End, row}
use Rattle.send_model.specs.Reading.{Item, Whole, Faulty, Reading, CommandDue, due_after, with_item, reads}
use Rattle.send_model.specs.Receive.{start_of}
use Rattle.send_model.specs.Store.{Store, State, head_of}
use Rattle.send_model.specs.Order.{heads, without_parts}
use Rattle.send_model.specs.Outside.{store_without}
use Rattle.send_model.specs.Counts.{is_end}
use Rattle.send_model.specs.Lengths.{limit, only_ends}
use Rattle.send_model.specs.Due.{Limited, AtFault, AtLimit, refused_due}
use Rattle.send_model.specs.Overridden.{Override, overridden_as, IsLawfulOverride}
use Rattle.send_model.specs.Laws.{CanWrite}
use Rattle.send_model.proofs.Overriding.{spellable_as, lawful_fits}
use Rattle.send_model.proofs.TooLong.{short_fits, fault_fits, long_is}
use Rattle.sx_base.specs.Refusals.{refusal_of, verdict_meant}
use Rattle.sx_base.specs.Calls.{Caused, ErrCaused}
use Rattle.sx_base.specs.Causes.{Steady}
use Rattle.sx_base.specs.declared.outcome.Verdict.{Verdict as Judgement}
use Rattle.sx_base.specs.declared.outcome.Outcome.{Outcome}
use Rattle.sx_base.specs.declared.outcome.Outcome.TheVariants as ended_by
use Rattle.cmd_reader.specs.declared.item.Item as read
use Rattle.cmd_reader.specs.declared.item.ReadStop.{ReadStop}
use Rattle.cmd_reader.specs.declared.item.ReadStop.TheVariants as stop
use Rattle.cmd_reader.specs.Places.{IfTold}
use Rattle.cmd_reader.specs.Fronts.{IsRefused, IsLongAt}
use Rattle.cmd_reader.specs.Left.{Reader, at_start, left}
use Rattle.cmd_reader.specs.Next.{item_of, is_last, HasEnded, IsFaulty, OnlyEnds, IsNext, NextSays, ItemFits}
use Rattle.cmd_reader.specs.Stopping.{outcome_at}
use Rattle.cmd_reader.proofs.Aheads.{next_item, next_end}
use Rattle.cmd_reader.proofs.Told.{Here, told_map, told_both, told_always, told_here, told_moved}
use Rattle.auditor.specs.Following.{items_with, file_read, read_whole}
use Rattle.auditor.proofs.OneFile.{and_then}
use Rattle.auditor.proofs.TooLong.{whole_read, fault_read, long_read, read_either}
use Rattle.squash_model.specs.SquashJudge as due
use Rattle.squash_model.specs.SquashJudge.{nothing_passed, passed_with, is_second, judge_one}
use Rattle.send_commands.specs.Meaning.{meaning_of}
use Rattle.squasher.specs.declared.judging.Judged.{Judged}
use Rattle.squasher.specs.declared.judging.Passed.{Passed}
use Rattle.squash_model.specs.SquashDues.{own_uuids, squash_due, stop_or}
use Rattle.squasher.specs.Judging.{HaveSameShape, read_with, Sight, uuids_of, IsHidden, IsTaken, ItemStops, Takes, JudgedBy}
use Rattle.squasher.specs.Squashing.{JudgeEnds}
use Rattle.squasher.proofs.FoundOut.{blank_of, judged_over, due_refused, due_stop, by_result}
use Rattle.squasher.proofs.OwnBase.{without_none, without_cells, without_in, named_uuids, over_own}
use Rattle.squasher.proofs.Keeping.{Blank, judge_blank, IsClosed, Stage, Keeps, first_sight, keeps_at_start, keeps_on, keeps_whole, keeps_refused}

-- ---- what the loop keeps

-- A reader stands where what is kept says: the next number, and END behind a whole stream alone; and
-- within a stream its version is due.
pub record Agrees (reader : Reader) (now : Sight) : Type 0 where
  pub number : reader.number ≡ now.passed.number + 1
  pub closed : reader.fed.ended ≡ true → now.passed.closed ≡ true
  pub same_stream : now.passed.closed ≡ false → 1 ≤ now.passed.number → reader.fed.due ≡ CommandDue now.passed.version

last_ends : (c : Command) → is_last c ≡ true → is_end c ≡ true
unfolding row
last_ends End e = refl
last_ends c e = cc

due_within : (version : ℕ) (c : Command) → is_end c ≡ false → due_after version c ≡ CommandDue version
due_within version End e = cc
due_within version c e = refl

pub agrees_at_start : (file : ℕ) (name : List ℕ) (reader : Reader) (now : Sight) (start : State Blank) → reader ≡ at_start file name → now ≡ first_sight start → Agrees reader now
agrees_at_start file name reader now start e f =
    subst (λ (r : Reader). Agrees r now) (sym e) (subst (λ (s : Sight). Agrees (at_start file name) s) (sym f) (record {
      number = refl;
      closed = λ h. cc;
      same_stream = λ h some. absurd (omega (arith, some));
    }))

pub agrees_on : (old new : Reader) (now next : Sight) (item : read.Item) (named : Item) → ItemFits old new item → Agrees old now → IsTaken now next named
    → named.number ≡ item.number → named.version ≡ item.version → is_end named.command ≡ is_end (item_of old.file item).command → Agrees new next
agrees_on old new now next item named fits a t number version ends =
    let s = t.step in
    let here : next.passed.closed ≡ (now.passed.closed || is_end named.command) = ap (λ (p : due.Passed). p.closed) s.passed in
    record {
      number = omega (arith, fits.next_number, fits.number, s.number, number);
      closed = λ e. here ∙ ap (λ (b : Bool). now.passed.closed || b) (ends ∙ last_ends (item_of old.file item).command (sym fits.at_end ∙ e)) ∙ or_true now.passed.closed;
      same_stream = λ unclosed some. fits.due ∙ due_within item.version (item_of old.file item).command (sym ends ∙ inner (is_end named.command) now.passed.closed (sym here ∙ unclosed)) ∙ ap CommandDue (sym (s.version ∙ version));
    }
  where
    or_true : (b : Bool) → (b || true) ≡ true
    or_true true = refl
    or_true false = refl

    inner : (e closed : Bool) → (closed || e) ≡ false → e ≡ false
    inner e true h = cc
    inner e false h = h

-- The commands before are of the version of the next one.
pub versions_are : (file : ℕ) (start : State Blank) (items : List Item) (old new : Reader) (now : Sight) (item : read.Item) → Keeps file start items now → now.passed.closed ≡ false → Agrees old now → ItemFits old new item
    → AllByRecursion (λ i. i.version ≡ item.version) items
versions_are file start [] old new now item k unclosed a fits = tt
versions_are file start (i ∷ items) old new now item k unclosed a fits =
    let some : 1 ≤ now.passed.number = omega (arith, k.counted, one) in
    let same : item.version ≡ now.passed.version = fits.same_stream now.passed.version (a.same_stream unclosed some) in
    subst (λ (v : ℕ). AllByRecursion (λ i. i.version ≡ v) (i ∷ items)) (sym same) k.versions
  where
    one : 1 ≤ length (i ∷ items)
    one = omega arith

-- Where judging begins, over subvolumes of which those of these UUIDs are left out.
abbrev pub start_over : {C : Type 0} → Store C → List (List ℕ) → State Blank
start_over core own = start_of (blank_of (store_without own core))

-- These commands of the file were read, and with what is said in front of it they were taken; the
-- UUID of the first is left out.
pub record Stands {C : Type 0} (core : Store C) (said : Override) (file : ℕ) (own : List (List ℕ)) (reader : Reader) (now : Sight) (bytes : List ℕ) : Type 0 where
  pub items : List Item
  pub read : reads file bytes ≡ and_then items (left reader bytes)
  pub keeps : Keeps file (start_over core own) (items_with said items) now
  pub reached : reader.offset ≤ length bytes
  pub owns : own_uuids (items_with said items) ≡ own

-- And what is kept waits for this one.
pub record Awaits {C : Type 0} (core : Store C) (said : Override) (file : ℕ) (own : List (List ℕ)) (reader : Reader) (now : Sight) (named : Item) (bytes : List ℕ) : Type 0 where
  pub items : List Item
  pub read : reads file bytes ≡ and_then items (left reader bytes)
  pub keeps : Keeps file (start_over core own) (items_with said items) now
  pub reached : reader.offset ≤ length bytes
  pub owns : (more : List Item) → own_uuids (items_with said items ++ named ∷ more) ≡ own

-- As long as no command was taken all is as at the start.
abbrev pub IsFresh : {C : Type 0} → Store C → Option (List ℕ) → Sight → Type 0
IsFresh core own now = now.passed.number ≡ 0 → (now ≡ first_sight (start_of (blank_of core))) × (own ≡ None)

left_fresh : (file : ℕ) (name bytes : List ℕ) → left (at_start file name) bytes ≡ reads file bytes
unfolding left reads
left_fresh file name bytes = refl

pub stands_at_start : {C : Type 0} (told : Option (List (List ℕ × List ℕ))) (core : Store C) (said : Override) (file : ℕ) (name : List ℕ) (reader : Reader) (now : Sight) → reader ≡ at_start file name → now ≡ first_sight (start_of (blank_of core))
    → IfTold told name (Stands core said file [] reader now)
stands_at_start told core said file name reader now e f =
    subst (λ (r : Reader). IfTold told name (Stands core said file [] r now)) (sym e) (
    subst (λ (s : Sight). IfTold told name (Stands core said file [] (at_start file name) s)) (ap (λ (s : Store _). first_sight (start_of (blank_of s))) (without_none core) ∙ sym f) (
    told_always told name (Stands core said file [] (at_start file name) (first_sight (start_over core []))) (λ bytes. record {
      items = [];
      read = sym (left_fresh file name bytes);
      keeps = keeps_at_start file (blank_of (store_without [] core));
      reached = omega (arith);
      owns = refl;
    })))

-- ---- the subvolume of the first command is left out

none_named : (said : Override) (items : List Item) → 0 ≡ length (items_with said items) → items ≡ []
none_named said [] e = refl
none_named said (i ∷ items) e = absurd (omega (arith, e))

owns_on : (items : List Item) (named : Item) (more : List Item) → 1 ≤ length items → own_uuids (items ++ named ∷ more) ≡ own_uuids items
owns_on [] named more some = absurd (omega (arith, some))
owns_on (i ∷ items) named more some = refl

module _ {C : Type 0} (core : Store C) (said : Override) (file : ℕ) (own own' : Option (List ℕ)) (now hidden : Sight) (item : read.Item)
    (fresh : IsFresh core own now) (first : now.passed.number ≡ 0 → IsHidden (uuids_of (meaning_of item.command)) now hidden (option_to_list own'))
    (later : 1 ≤ now.passed.number → (own' ≡ own) × (hidden ≡ now)) where
  abbrev pub named_item : Item
  named_item = overridden_as said (item_of file item)

  hidden_at : now.passed.number ≡ 0 → hidden ≡ first_sight (start_over core (option_to_list own'))
  hidden_at e =
      let h = first e in
      h.hidden ∙ ap (without_in (uuids_of (meaning_of item.command))) (fresh e).0
      ∙ ap (λ (s : Store Blank). first_sight (start_of s)) (sym (without_cells (λ c. tt) (uuids_of (meaning_of item.command)) core))
      ∙ ap (λ (uuids : List (List ℕ)). first_sight (start_over core uuids)) (sym h.own_is)

  passed_hidden : hidden.passed ≡ now.passed
  passed_hidden = one now.passed.number refl
    where
      one : (n : ℕ) → now.passed.number ≡ n → hidden.passed ≡ now.passed
      one zero e = let h = first e in ap (λ (s : Sight). s.passed) h.hidden
      one (suc n) e = ap (λ (s : Sight). s.passed) (later (omega (arith, e))).1

  pub agrees_hidden : (reader : Reader) → Agrees reader now → Agrees reader hidden
  agrees_hidden reader a = record {
    number = a.number ∙ ap (λ (p : Passed). p.number + 1) (sym passed_hidden);
    closed = λ e. ap (λ (p : Passed). p.closed) passed_hidden ∙ a.closed e;
    same_stream = λ e some.
        a.same_stream (ap (λ (p : Passed). p.closed) (sym passed_hidden) ∙ e) (subst (λ (p : Passed). 1 ≤ p.number) passed_hidden some)
        ∙ ap (λ (p : Passed). CommandDue p.version) (sym passed_hidden);
  }

  pub awaits_here : (reader : Reader) (bytes : List ℕ) → Stands core said file (option_to_list own) reader now bytes → Awaits core said file (option_to_list own') reader hidden named_item bytes
  awaits_here reader bytes s = one now.passed.number refl
    where
      one : (n : ℕ) → now.passed.number ≡ n → Awaits core said file (option_to_list own') reader hidden named_item bytes
      one zero e =
          let h = first e in
          let k = s.keeps in
          record {
            items = [];
            read = s.read ∙ ap (λ (is : List Item). and_then is (left reader bytes)) (none_named said s.items (sym e ∙ k.counted));
            keeps = subst (λ (x : Sight). Keeps file (start_over core (option_to_list own')) [] x) (sym (hidden_at e)) (keeps_at_start file (blank_of (store_without (option_to_list own') core)));
            reached = s.reached;
            owns = λ more. named_uuids said (meaning_of item.command) ∙ sym h.own_is;
          }
      one (suc n) e =
          let k = s.keeps in
          let p = later (omega (arith, e)) in
          subst (λ (o : Option (List ℕ)). Awaits core said file (option_to_list o) reader hidden named_item bytes) (sym p.0)
          (subst (λ (x : Sight). Awaits core said file (option_to_list own) reader x named_item bytes) (sym p.1) (record {
            items = s.items;
            read = s.read;
            keeps = s.keeps;
            reached = s.reached;
            owns = λ more. owns_on (items_with said s.items) named_item more (omega (arith, e, k.counted)) ∙ s.owns;
          }))

  pub awaits : (told : Option (List (List ℕ × List ℕ))) (name : List ℕ) (reader : Reader) → IfTold told name (Stands core said file (option_to_list own) reader now) → IfTold told name (Awaits core said file (option_to_list own') reader hidden named_item)
  awaits told name reader stands =
      told_map told name (Stands core said file (option_to_list own) reader now) (Awaits core said file (option_to_list own') reader hidden named_item) (awaits_here reader) stands

-- A command was taken: nothing is as at the start any more.
pub fresh_on : {C : Type 0} (core : Store C) (own : Option (List ℕ)) (now next : Sight) (named : Item) → 1 ≤ named.number → IsTaken now next named → IsFresh core own next
fresh_on core own now next named some t = λ e. let s = t.step in absurd (omega (arith, e, s.number, some))

then_item : (items : List Item) (item : Item) (r : Reading) → and_then items (with_item item r) ≡ and_then (items ++ item ∷ []) r
then_item items item r = ap (λ (is : List Item). record { items = is; end = r.end }) (sym (append_assoc items (item ∷ []) r.items))

more_with : (said : Override) (items : List Item) (item : Item) → items_with said items ++ overridden_as said item ∷ [] ≡ items_with said (items ++ item ∷ [])
more_with said items item = sym (map-append (overridden_as said) items (item ∷ []))

taken_ok : (now next : Sight) (item : Item) (r : Result (Unit {0}) Outcome) (done : Unit {0}) → r ≡ Ok done → Takes now next item r → IsTaken now next item
taken_ok now next item r done e s = subst (λ (x : Result (Unit {0}) Outcome). Takes now next item x) e s

taken_err : (now next : Sight) (item : Item) (r : Result (Unit {0}) Outcome) (outcome : Outcome) → r ≡ Err outcome → Takes now next item r → ItemStops now item outcome
taken_err now next item r outcome e s = subst (λ (x : Result (Unit {0}) Outcome). Takes now next item x) e s

unclosed : (now next : Sight) (item : Item) → IsTaken now next item → now.passed.closed ≡ false
unclosed now next item t = let s = t.step in (or_parts now.passed.closed (now.passed.begun && is_some (head_of item.command)) s.first).0

pub stands_after : {C : Type 0} (told inputs : Option (List (List ℕ × List ℕ))) (core : Store C) (said : Override) (file : ℕ) (name : List ℕ) (own : List (List ℕ)) (old new : Reader) (now next : Sight) (f0 f1 : ℕ) (o : Option read.Item) (item : read.Item) (r : Result (Unit {0}) Outcome) (done : Unit {0})
    → o ≡ Some item → inputs ≡ told → old.name ≡ name → old.file ≡ file → NextSays inputs old new f0 f1 (Ok o) → r ≡ Ok done → Takes now next (overridden_as said (item_of file item)) r
    → IsLawfulOverride said → ItemFits old new item → Agrees old now
    → IfTold told name (Awaits core said file own old now (overridden_as said (item_of file item))) → IfTold told name (Stands core said file own new next)
stands_after told inputs core said file name own old new now next f0 f1 o item r done e same name_is file_is says was takes lawful fits agrees stands =
    told_both told name (IsNext old new item) (Awaits core said file own old now named) (Stands core said file own new next) go
    (next_item told inputs name old new f0 f1 o item e same name_is says) stands
  where
    meant_item : Item
    meant_item = item_of file item

    named : Item
    named = overridden_as said meant_item

    taken : IsTaken now next named
    taken = taken_ok now next named r done was takes

    spelled : CanWrite item.version named.command
    spelled = let w = fits.can_write in record { spellable = spellable_as item.version said (item_of file item).command (lawful_fits said (item_of file item).command lawful) w.spellable }

    start : State Blank
    start = start_over core own

    go : (bytes : List ℕ) → IsNext old new item bytes → Awaits core said file own old now named bytes → Stands core said file own new next bytes
    go bytes n s =
        let before : List Item = items_with said s.items in
        let k = s.keeps in
        let keeps : Keeps file start (before ++ named ∷ []) next =
        keeps_on file start before now next named k taken refl (omega (arith, fits.number, agrees.number, k.counted)) fits.version spelled
        (versions_are file start before old new now item k (unclosed now next named taken) agrees fits) in
        record {
          items = s.items ++ meant_item ∷ [];
          read = s.read ∙ ap (and_then s.items) (n.left_is ∙ ap (λ (k : ℕ). with_item (item_of k item) (left new bytes)) file_is) ∙ then_item s.items meant_item (left new bytes);
          keeps = subst (λ (is : List Item). Keeps file start is next) (more_with said s.items meant_item) keeps;
          reached = n.reached s.reached;
          owns = ap own_uuids (sym (more_with said s.items meant_item)) ∙ s.owns [];
        }

-- ---- the ends

-- What is read of a file that is read whole.
abbrev given : Override → Limited → Limited
given said read = record { items = items_with said read.items; stop = read.stop }

closed_now : (file : ℕ) (start : State Blank) (items : List Item) (old : Reader) (now : Sight) → Keeps file start items now → Agrees old now → old.fed.ended ≡ true → IsClosed start file items now
closed_now file start items old now k agrees ended = subst (λ (b : Bool). Stage start file items now b) (agrees.closed ended) k.stage

-- The file ends.
pub file_ends : {C : Type 0} (told inputs : Option (List (List ℕ × List ℕ))) (said : Override) (file : ℕ) (name : List ℕ) (core : Store C) (own : List (List ℕ)) (old new : Reader) (now : Sight) (f0 f1 : ℕ) (o : Option read.Item) (r : Result Judged Outcome)
    → o ≡ None → inputs ≡ told → old.name ≡ name → NextSays inputs old new f0 f1 (Ok o) → old.fed.ended ≡ true → Agrees old now → JudgedBy file now r
    → IfTold told name (Stands core said file own old now) → IfTold told name (JudgeEnds core said file r)
file_ends told inputs said file name core own old new now f0 f1 o r e same name_is says ended agrees judged stands =
    told_both told name (HasEnded old) (Stands core said file own old now) (JudgeEnds core said file r) go
    (next_end told inputs name old new f0 f1 o e same name_is says) stands
  where
    go : (bytes : List ℕ) → HasEnded old bytes → Stands core said file own old now bytes → JudgeEnds core said file r bytes
    go bytes (is, less) s =
        let items : List Item = items_with said s.items in
        let whole : read_with said file bytes ≡ read_whole items =
        ap (given said) (whole_read file bytes s.items (short_fits file bytes less) (s.read ∙ ap (and_then s.items) is ∙ ap (λ (xs : List Item). record { items = xs; end = Whole }) (append-nil s.items))) in
        over_own core own said file r bytes (ap (λ (l : Limited). own_uuids l.items) whole ∙ s.owns)
        (by_result file (store_without own core) said bytes items now whole s.keeps (closed_now file (start_over core own) items old now s.keeps agrees ended) r judged)

-- There is no memory for a reader.
pub file_unopened : {C : Type 0} (told : Option (List (List ℕ × List ℕ))) (name : List ℕ) (core : Store C) (said : Override) (file : ℕ) → IfTold told name (JudgeEnds core said file (Err ended_by.NoMemory))
file_unopened told name core said file = told_always told name (JudgeEnds core said file (Err ended_by.NoMemory)) (λ bytes base same. tt)

-- The next command is refused, or there is no memory for it.
pub item_ends : {C : Type 0} (told inputs : Option (List (List ℕ × List ℕ))) (said : Override) (file : ℕ) (name : List ℕ) (core : Store C) (own : List (List ℕ)) (old new : Reader) (now next : Sight) (f0 f1 : ℕ) (o : Option read.Item) (item : read.Item) (r : Result (Unit {0}) Outcome) (outcome : Outcome)
    → o ≡ Some item → inputs ≡ told → old.name ≡ name → old.file ≡ file → NextSays inputs old new f0 f1 (Ok o) → r ≡ Err outcome → Takes now next (overridden_as said (item_of file item)) r
    → IfTold told name (Awaits core said file own old now (overridden_as said (item_of file item))) → IfTold told name (JudgeEnds core said file (Err outcome))
item_ends told inputs said file name core own old new now next f0 f1 o item r outcome e same name_is file_is says was takes stands =
    by_outcome outcome (taken_err now next named r outcome was takes)
  where
    start : State Blank
    start = start_over core own

    named : Item
    named = overridden_as said (item_of file item)

    Bad : Judgement → List Item → Type 0
    Bad verdict items = (judge_blank start nothing_passed (items_with said items) ≡ Some (verdict_meant verdict)) × (own_uuids (items_with said items) ≡ own)

    refused_in : (bytes : List ℕ) (verdict : Judgement) → ItemStops now named (ended_by.Refused verdict) → IsNext old new item bytes → Awaits core said file own old now named bytes → Bad verdict (reads file bytes).items
    refused_in bytes verdict stops n s =
        let before : List Item = items_with said s.items in
        let more : List Item = items_with said (left new bytes).items in
        let items_are : (reads file bytes).items ≡ s.items ++ item_of file item ∷ (left new bytes).items =
        ap (λ (x : Reading). x.items) (s.read ∙ ap (and_then s.items) (n.left_is ∙ ap (λ (k : ℕ). with_item (item_of k item) (left new bytes)) file_is)) in
        let named_are : items_with said (reads file bytes).items ≡ before ++ named ∷ more =
        ap (items_with said) items_are ∙ map-append (overridden_as said) s.items (item_of file item ∷ (left new bytes).items) in
        (ap (judge_blank start nothing_passed) named_are ∙ keeps_refused file start before more now named (verdict_meant verdict) s.keeps stops, ap own_uuids named_are ∙ s.owns more)

    go : (verdict : Judgement) → ItemStops now named (ended_by.Refused verdict) → (bytes : List ℕ) → Here (IsNext old new item) bytes → Here (Awaits core said file own old now named) bytes → JudgeEnds core said file (Err (ended_by.Refused verdict)) bytes
    go verdict stops bytes (n, n_front) (s, s_front) =
        let bad : Bad verdict (file_read file bytes).items = read_either (Bad verdict) file bytes (refused_in bytes verdict stops n s) (refused_in (take limit bytes) verdict stops n_front s_front) in
        over_own core own said file (Err (ended_by.Refused verdict)) bytes bad.1
        (λ base shape. due_refused base (read_with said file bytes) (verdict_meant verdict) (judged_over (store_without own core) base shape (read_with said file bytes).items ∙ bad.0))

    by_outcome : (x : Outcome) → ItemStops now named x → IfTold told name (JudgeEnds core said file (Err x))
    by_outcome (ended_by.Refused verdict) stops =
        told_both told name (Here (IsNext old new item)) (Here (Awaits core said file own old now named)) (JudgeEnds core said file (Err (ended_by.Refused verdict))) (go verdict stops)
        (told_here told name (IsNext old new item) (next_item told inputs name old new f0 f1 o item e same name_is says))
        (told_here told name (Awaits core said file own old now named) stands)
    by_outcome (ended_by.InputTooLong number) stops = absurd stops
    by_outcome (ended_by.TooMuch sum) stops = absurd stops
    by_outcome (ended_by.InputChanged number place) stops = absurd stops
    by_outcome ended_by.InputFault stops = absurd stops
    by_outcome ended_by.NoMemory stops = file_unopened told name core said file
    by_outcome ended_by.OutputFault stops = absurd stops
    by_outcome ended_by.Done stops = absurd stops

-- A count that did not rise is steady, whatever is answered.
pub steady_anyhow : {T E : Type 0} (before now : ℕ) (r : Result T E) → now ≡ before → Steady before now r
steady_anyhow before now (Ok x) same = same
steady_anyhow before now (Err x) same = tt

-- A file that was read to its end and has no part is refused, and no object failed.
pub finish_cause : (file : ℕ) (now : Sight) (r : Result Judged Outcome) (before after : ℕ) → JudgedBy file now r → ErrCaused before after 0 0 r
finish_cause file now (Ok found) before after judged = tt
finish_cause file now (Err outcome) before after (none, is) = subst (λ (x : Outcome). Caused before after 0 0 x) (sym is) tt

-- No object of the outside failed there.
pub item_cause : (old new : Sight) (item : Item) (r : Result (Unit {0}) Outcome) (outcome : Outcome) (before now : ℕ) → r ≡ Err outcome → Takes old new item r → Caused before now 0 0 outcome
item_cause old new item r outcome before now e takes = by_outcome outcome (taken_err old new item r outcome e takes)
  where
    by_outcome : (x : Outcome) → ItemStops old item x → Caused before now 0 0 x
    by_outcome (ended_by.Refused verdict) stops = tt
    by_outcome (ended_by.InputTooLong number) stops = absurd stops
    by_outcome (ended_by.TooMuch sum) stops = absurd stops
    by_outcome (ended_by.InputChanged number place) stops = absurd stops
    by_outcome ended_by.InputFault stops = absurd stops
    by_outcome ended_by.NoMemory stops = tt
    by_outcome ended_by.OutputFault stops = absurd stops
    by_outcome ended_by.Done stops = absurd stops

-- The file can not be read on.
pub file_stops : {C : Type 0} (told inputs : Option (List (List ℕ × List ℕ))) (said : Override) (file : ℕ) (name : List ℕ) (core : Store C) (own : List (List ℕ)) (old new : Reader) (now : Sight) (f0 f1 : ℕ) (why : ReadStop) (outcome : Outcome)
    → inputs ≡ told → old.name ≡ name → NextSays inputs old new f0 f1 (Err why) → outcome ≡ outcome_at file why
    → IfTold told name (Stands core said file own old now) → IfTold told name (JudgeEnds core said file (Err outcome))
file_stops told inputs said file name core own old new now f0 f1 why outcome same name_is says is stands =
    subst (λ (x : Outcome). IfTold told name (JudgeEnds core said file (Err x))) (sym is) (by_why why says)
  where
    start : State Blank
    start = start_over core own

    Stood : List ℕ → Type 0
    Stood = Stands core said file own old now

    due_by : (base : Store ℕ) → HaveSameShape (store_without own core) base → (bytes : List ℕ) (l : Limited) → read_with said file bytes ≡ l → judge_blank start nothing_passed l.items ≡ None
        → squash_due base (read_with said file bytes) ≡ stop_or l.stop (refused_due (without_parts l.items (heads l.items)))
    due_by base shape bytes l is none =
        ap (squash_due base) is ∙ due_stop base l (judged_over (store_without own core) base shape l.items ∙ none)

    faulty : (verdict : Judgement) (bytes : List ℕ) → IsFaulty old verdict bytes → (s : Stood bytes) → reads file bytes ≡ record { items = s.items; end = Faulty (verdict_meant verdict) }
    faulty verdict bytes broken s = s.read ∙ ap (and_then s.items) broken ∙ ap (λ (is : List Item). record { items = is; end = Faulty (verdict_meant verdict) }) (append-nil s.items)

    refused : (verdict : Judgement) (bytes : List ℕ) → Here (IsRefused (λ _. IsFaulty old verdict) (refusal_of verdict.refusal)) bytes → Here Stood bytes → JudgeEnds core said file (Err (ended_by.Refused verdict)) bytes
    refused verdict bytes (broken, broken_front) (s, s_front) =
        let ends : (reads file (take limit bytes)).end ≡ Faulty (verdict_meant verdict) = ap (λ (x : Reading). x.end) (faulty verdict (take limit bytes) broken_front.0 s_front) in
        let fits = fault_fits file bytes (verdict_meant verdict) broken.1 ends in
        let read = fault_read file bytes s.items (verdict_meant verdict) fits (faulty verdict bytes broken.0 s) in
        over_own core own said file (Err (ended_by.Refused verdict)) bytes (ap (λ (l : Limited). own_uuids (items_with said l.items)) read ∙ s.owns)
        (λ base shape. due_by base shape bytes (record { items = items_with said s.items; stop = AtFault (verdict_meant verdict) }) (ap (given said) read)
        (keeps_whole file start (items_with said s.items) now s.keeps))

    long : (bytes : List ℕ) → Here Stood bytes → IsLongAt old.offset (OnlyEnds old) bytes → JudgeEnds core said file (Err (ended_by.InputTooLong file)) bytes
    long bytes (s, s_front) is_long =
        let l = is_long s.reached in
        let items_are : (reads file (take limit bytes)).items ≡ s_front.items = ap (λ (x : Reading). x.items) s_front.read ∙ ap (λ (is : List Item). s_front.items ++ is) l.1.0 ∙ append-nil s_front.items in
        let too_long = long_is file bytes l.0 (ap (λ (x : Reading). only_ends x.end) s_front.read ∙ l.1.1) in
        let read = long_read file bytes s_front.items too_long items_are in
        over_own core own said file (Err (ended_by.InputTooLong file)) bytes (ap (λ (l : Limited). own_uuids (items_with said l.items)) read ∙ s_front.owns)
        (λ base shape. due_by base shape bytes (record { items = items_with said s_front.items; stop = AtLimit file }) (ap (given said) read)
        (keeps_whole file start (items_with said s_front.items) now s_front.keeps))

    by_why : (x : ReadStop) → NextSays inputs old new f0 f1 (Err x) → IfTold told name (JudgeEnds core said file (Err (outcome_at file x)))
    by_why (stop.Refused verdict) said_so =
        told_both told name (Here (IsRefused (λ _. IsFaulty old verdict) (refusal_of verdict.refusal))) (Here Stood) (JudgeEnds core said file (Err (ended_by.Refused verdict))) (refused verdict)
        (told_here told name (IsRefused (λ _. IsFaulty old verdict) (refusal_of verdict.refusal)) (told_moved told inputs name old.name (IsRefused (λ _. IsFaulty old verdict) (refusal_of verdict.refusal)) same name_is said_so))
        (told_here told name Stood stands)
    by_why stop.InputFault said_so = told_always told name (JudgeEnds core said file (Err ended_by.InputFault)) (λ bytes base shape. tt)
    by_why stop.InputTooLong said_so =
        told_both told name (Here Stood) (IsLongAt old.offset (OnlyEnds old)) (JudgeEnds core said file (Err (ended_by.InputTooLong file))) long
        (told_here told name Stood stands) (told_moved told inputs name old.name (IsLongAt old.offset (OnlyEnds old)) same name_is said_so)
