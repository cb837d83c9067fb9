-- Composing one file, item by item: what its loop keeps, and what holds at each of its ends.
use Rattle.std.specs.Prelude.{◌≡◌, ◌⊎◌, ℕ, ◌+◌, ◌≤◌, ◌<◌, List, [], ◌∷◌, ◌++◌, length, map, take, get_or, Option, None, Some, Ok, Err}
use Rattle.std.specs.Io.KnownBytes.{Appends}
use Rattle.std.proofs.Common.{refl, sym, ap, subst, ◌∙◌, append-nil, arith, inl, inr, ⊎_elim}
use Rattle.std.proofs.Math.Seq.{take-append-add, take-length}
use Rattle.std.proofs.lemmas.List.{length-append, map-append}
use Rattle.std.proofs.KnownBytes.{Appends-nil, Appends-trans}
use Rattle.send_model.specs.Reading.{Item, Reading, Whole, with_item, reads}
use Rattle.send_model.specs.Receive.{bytes_of, first_of}
use Rattle.send_model.specs.Store.{head_of}
use Rattle.send_model.specs.Order.{heads, last_item}
use Rattle.send_model.specs.Composed.{last_head}
use Rattle.send_model.specs.Due.{RefusedAt}
use Rattle.send_model.specs.Lengths.{limit, only_ends}
use Rattle.send_model.specs.Overridden.{Override, overridden_as}
use Rattle.sx_base.specs.Asks.{IsData}
use Rattle.sx_base.specs.Causes.{Rose}
use Rattle.sx_base.specs.Outside.{AppendsPart}
use Rattle.sx_base.specs.Refusals.{refusal_of}
use Rattle.sx_base.specs.Calls.{IfAllTold}
use Rattle.sx_base.specs.declared.outcome.Verdict.{Verdict}
use Rattle.sx_base.specs.declared.outcome.Outcome.{Outcome}
use Rattle.sx_base.specs.declared.outcome.Outcome.TheVariants as over
use Rattle.cmd_reader.specs.declared.item.Item as read
use Rattle.cmd_reader.specs.declared.item.ReadStop.{ReadStop}
use Rattle.cmd_reader.specs.declared.item.ReadStop.TheVariants as stop
use Rattle.cmd_reader.specs.Places.{IfTold}
use Rattle.cmd_reader.specs.Fronts.{IsRefused, IsLongAt}
use Rattle.cmd_reader.specs.Left.{Reader, at_start, left}
use Rattle.cmd_reader.specs.Next.{item_of, HasEnded, IsFaulty, OnlyEnds, IsNext, NextSays}
use Rattle.cmd_reader.proofs.Aheads.{next_item, next_end}
use Rattle.cmd_reader.proofs.Told.{Here, told_map, told_both, told_always, told_here}
use Rattle.file_survey.specs.declared.places.Place.{Place}
use Rattle.file_survey.specs.Ahead.{then_reading}
use Rattle.cmd_reader.specs.Stopping.{outcome_at}
use Rattle.file_survey.proofs.AheadSteps.{then_item, last_item_after}
use Rattle.send_model.proofs.TooLong.{short_fits, long_is}
use Rattle.clone_pieces.specs.Origins.{IsInInput}
use Rattle.clone_pieces.specs.Sending.{AppendsFront}
use Rattle.composer.specs.OverBase.{Plan, Composing, Halt, Refuses, Exceeds, advance, advance_all, unsent}
use Rattle.send_model.specs.Cells.{AllCells}
use Rattle.composer.specs.Kept.{Kept, composing_of}
use Rattle.composer.specs.Taking.{DataStand, ItemTaken, ItemWhy, AllWhereEnded, LeftBy, ItemStops, ItemKept}
use Rattle.composer.specs.Files.{IsPlace, IsLastPlace, NextHalts}
use Rattle.clone_pieces.proofs.Told.{all_always, all_map, all_two}
use Rattle.clone_pieces.proofs.Told as all
use Rattle.clone_pieces.proofs.Flow.{part_front, breaks_front}
use Rattle.composer.proofs.Unpacked.{AllOut, ItemEnd, StopEnd, FileTaken, FileWhy, FileStops}
use Rattle.composer.proofs.AllTold.{told_file}
use Rattle.composer.proofs.LastHeads.{latest_none, latest_more}
use Rattle.composer.proofs.DataAhead.{data_left, data_stand}
use Rattle.composer.proofs.NamedItem.{data_stay}
use Rattle.composer.proofs.OverBaseFolds.{advance_unsent_ok, advance_unsent_err, unsent_more, all_more, all_one}

-- ---- what the loop keeps

-- These items of the file were read, and taken with the name that is given for it, and of the bytes
-- that are then to be written some were.
pub record Stands (files : List (List ℕ)) (plan : Plan) (file : ℕ) (given : Override) (old : Kept) (out_old : Option (List ℕ)) (reader : Reader) (now : Kept) (out_now : Option (List ℕ)) (before place : Place) (bytes : List ℕ) : Type 0 where
  items : List Item
  sent : List ℕ
  read : reads file bytes ≡ then_reading items (left reader bytes)
  all : advance_all plan (composing_of files plan.base old) (map (overridden_as given) items) ≡ Ok (unsent sent (composing_of files plan.base now))
  appends : Appends out_old out_now sent
  last : IsLastPlace before place (last_item items)
  latest : now.latest ≡ first_of (last_head (heads (map (overridden_as given) items))) old.latest
  reached : reader.offset ≤ length bytes

-- What is left ends as the file does.
abbrev pub EndsAlike : ℕ → Reader → List ℕ → Type 0
EndsAlike file reader bytes = (reads file bytes).end ≡ (left reader bytes).end

left_fresh : (file : ℕ) (name bytes : List ℕ) → left (at_start file name) bytes ≡ reads file bytes
unfolding left reads
left_fresh file name bytes = refl

none_taken : (plan : Plan) (now : Composing) → advance_all plan now [] ≡ Ok now
unfolding advance_all
none_taken plan now = refl

pub alike_at_start : (told : Option (List (List ℕ × List ℕ))) (file : ℕ) (name spelled : List ℕ) (reader : Reader) → reader ≡ at_start file spelled → IfTold told name (EndsAlike file reader)
alike_at_start told file name spelled reader e = told_always told name (EndsAlike file reader) (λ bytes. ap (λ (r : Reading). r.end) (sym (left_fresh file spelled bytes)) ∙ ap (λ (r : Reader). (left r bytes).end) (sym e))

pub stands_at_start : (told : Option (List (List ℕ × List ℕ))) (names : List (List ℕ)) (plan : Plan) (number file : ℕ) (given : Override) (name : List ℕ) (reader : Reader) (now : Kept) (out : Option (List ℕ)) (place : Place) → reader ≡ at_start file name
    → IfAllTold told names (λ files. Stands files plan file given now out reader now out place place (get_or files number []))
stands_at_start told names plan number file given name reader now out place e =
    all_always told names (λ files. Stands files plan file given now out reader now out place place (get_or files number [])) (λ files.
    subst (λ (r : Reader). Stands files plan file given now out r now out place place (get_or files number [])) (sym e) (record {
      items = [];
      sent = [];
      read = sym (left_fresh file name (get_or files number []));
      all = none_taken plan (composing_of files plan.base now);
      appends = Appends-nil out;
      last = refl;
      latest = sym (latest_none now.latest);
      reached = omega (arith);
    }))

-- ---- the next item

-- What is found of the next item, of the file among all files.
pub next_of_all : (told inputs : Option (List (List ℕ × List ℕ))) (names : List (List ℕ)) (number : ℕ) (old new : Reader) (f0 f1 : ℕ) (o : Option read.Item) (item : read.Item) → o ≡ Some item → inputs ≡ told
    → number < length names → old.name ≡ get_or names number [] → NextSays inputs old new f0 f1 (Ok o) → IfAllTold told names (λ files. IsNext old new item (get_or files number []))
next_of_all told inputs names number old new f0 f1 o item e same less is says =
    told_file told inputs names number old.name (IsNext old new item) same less is (next_item inputs inputs old.name old new f0 f1 o item e refl refl says)

pub alike_after : (told inputs : Option (List (List ℕ × List ℕ))) (file : ℕ) (name : List ℕ) (old new : Reader) (f0 f1 : ℕ) (o : Option read.Item) (item : read.Item) → o ≡ Some item → inputs ≡ told → old.name ≡ name
    → NextSays inputs old new f0 f1 (Ok o) → IfTold told name (EndsAlike file old) → IfTold told name (EndsAlike file new)
alike_after told inputs file name old new f0 f1 o item e same name_is says alike =
    told_both told name (IsNext old new item) (EndsAlike file old) (EndsAlike file new) (λ bytes n a. a ∙ ap (λ (r : Reading). r.end) n.left_is)
    (next_item told inputs name old new f0 f1 o item e same name_is says) alike

-- ---- where the cells stand

-- Items of a file, counted from 1, were read, and the others are left to its reader.
pub record ReadSoFar (file : ℕ) (reader : Reader) (bytes : List ℕ) : Type 0 where
  pub items : List Item
  pub read : reads file bytes ≡ then_reading items (left reader bytes)

-- The cells so far stand in the files, and the reader in its own.
abbrev pub InFiles : (number : ℕ) → Reader → Kept → List (List ℕ) → Type 0
InFiles number reader now files = AllCells (IsInInput files) now.state × (reader.offset ≤ length (get_or files number [])) × ReadSoFar (number + 1) reader (get_or files number [])

-- The data of the next item are so of the file.
data_next : (file : ℕ) (old : Reader) (bytes : List ℕ) (item : Item) (rest : Reading) → ReadSoFar file old bytes → left old bytes ≡ with_item item rest → (k : ℕ) → k < length (bytes_of item.command) → IsData file bytes (item.data_at + k)
data_next file old bytes item rest so_far e k less = record {
  before = so_far.items;
  item = item;
  after = rest.items;
  read = ap (λ (r : Reading). r.items) (so_far.read ∙ ap (then_reading so_far.items) e);
  from = omega arith;
  within = omega (arith, less);
}

pub in_files_at_start : (told : Option (List (List ℕ × List ℕ))) (names : List (List ℕ)) (number file : ℕ) (name : List ℕ) (reader : Reader) (now : Kept) → file ≡ number + 1 → reader ≡ at_start file name
    → IfAllTold told names (λ files. AllCells (IsInInput files) now.state) → IfAllTold told names (InFiles number reader now)
in_files_at_start told names number file name reader now is e there =
    all_map told names (λ files. AllCells (IsInInput files) now.state) (InFiles number reader now) (λ files cells.
    subst (λ (r : Reader). InFiles number r now files) (sym e) (
      cells,
      omega (arith),
      subst (λ (n : ℕ). ReadSoFar n (at_start file name) (get_or files number [])) is (record { items = []; read = sym (left_fresh file name (get_or files number [])) }),
    )) there

pub in_files_after : (told inputs : Option (List (List ℕ × List ℕ))) (names : List (List ℕ)) (number : ℕ) (old new : Reader) (now next : Kept) (item : read.Item) → inputs ≡ told → IfAllTold told names (λ files. IsNext old new item (get_or files number []))
    → IfAllTold inputs names (λ files. AllCells (IsInInput files) next.state) → IfAllTold told names (InFiles number old now) → IfAllTold told names (InFiles number new next)
in_files_after told inputs names number old new now next item same next_is there before =
    all_two told names (λ files. AllCells (IsInInput files) next.state) (λ files. (new.offset ≤ length (get_or files number [])) × ReadSoFar (number + 1) new (get_or files number [])) (InFiles number new next)
    (λ files cells reached. (cells, reached.0, reached.1))
    (all.told_moved told inputs names (λ files. AllCells (IsInInput files) next.state) same there)
    (all_two told names (λ files. IsNext old new item (get_or files number [])) (InFiles number old now) (λ files. (new.offset ≤ length (get_or files number [])) × ReadSoFar (number + 1) new (get_or files number []))
    (λ files n b. (
      n.reached b.1,
      record {
        items = b.2.items ++ item_of old.file item ∷ [];
        read = b.2.read ∙ ap (then_reading b.2.items) n.left_is ∙ then_item b.2.items (item_of old.file item) (left new (get_or files number []));
      },
    )) next_is before)

pub cells_in_files : (told : Option (List (List ℕ × List ℕ))) (names : List (List ℕ)) (number : ℕ) (reader : Reader) (now : Kept) → IfAllTold told names (InFiles number reader now) → IfAllTold told names (λ files. AllCells (IsInInput files) now.state)
cells_in_files told names number reader now there = all_map told names (InFiles number reader now) (λ files. AllCells (IsInInput files) now.state) (λ files t. t.0) there

-- The data of the next item stand in its file, whatever name it has, and the cells so far in
-- theirs.
pub data_there : (told : Option (List (List ℕ × List ℕ))) (names : List (List ℕ)) (number file : ℕ) (given : Override) (old new : Reader) (now : Kept) (item taken_item : read.Item)
    → file ≡ number + 1 → old.file ≡ file → item_of file taken_item ≡ overridden_as given (item_of file item) → IfAllTold told names (λ files. IsNext old new item (get_or files number [])) → IfAllTold told names (InFiles number old now)
    → IfAllTold told names (λ files. AllCells (IsInInput files) now.state × DataStand files (item_of file taken_item))
data_there told names number file given old new now item taken_item file_is old_file named next there =
    all_two told names (λ files. IsNext old new item (get_or files number [])) (InFiles number old now) (λ files. AllCells (IsInInput files) now.state × DataStand files (item_of file taken_item))
    (λ files n t. (
      t.0,
      subst (DataStand files) (sym named) (data_stay files given (item_of file item)
          (let e = n.left_is ∙ ap (λ (k : ℕ). with_item (item_of k item) (left new (get_or files number []))) old_file in
          data_stand files number (item_of file item) file_is (data_left old (get_or files number []) (item_of file item) (left new (get_or files number [])) t.1 e)
          (data_next (number + 1) old (get_or files number []) (item_of file item) (left new (get_or files number [])) t.2 e))),
    )) next there

-- ---- one more item

-- The items so far and one more.
one_more : (plan : Plan) (items : List Item) (item : Item) (old now next new : Composing) (sent more : List ℕ) → advance_all plan old items ≡ Ok (unsent sent now) → advance plan now item ≡ Ok next → next ≡ unsent more new
    → advance_all plan old (items ++ item ∷ []) ≡ Ok (unsent (sent ++ more) new)
one_more plan items item old now next new sent more all taken rest =
    subst (λ (x : Composing). advance_all plan old (items ++ item ∷ []) ≡ Ok x) (ap (unsent sent) rest ∙ unsent_more sent more new)
    (all_more plan old (unsent sent now) (unsent sent next) items (item ∷ []) all (all_one plan (unsent sent now) (unsent sent next) item (advance_unsent_ok plan sent now next item taken)))

last_place : (items : List Item) (item : Item) (before place : Place) → IsPlace place item → IsLastPlace before place (last_item (items ++ item ∷ []))
last_place items item before place is = subst (λ (o : Option Item). IsLastPlace before place o) (sym (last_item_after items item)) is

is_place : (file : ℕ) (item : read.Item) (after : Place) → after ≡ record { file = file; command = item.number; offset = item.offset } → IsPlace after (item_of file item)
is_place file item after at_item = record {
  file = ap (λ (p : Place). p.file) at_item;
  command = ap (λ (p : Place). p.command) at_item;
  offset = ap (λ (p : Place). p.offset) at_item;
}

-- What is left is the item of this file, and then what is left now.
left_next : (file : ℕ) (old new : Reader) (item : read.Item) (bytes : List ℕ) → old.file ≡ file → IsNext old new item bytes → left old bytes ≡ with_item (item_of file item) (left new bytes)
left_next file old new item bytes old_file n = n.left_is ∙ ap (λ (k : ℕ). with_item (item_of k item) (left new bytes)) old_file

-- One more item was read, and taken with the name that is given.
pub stands_after : (told inputs : Option (List (List ℕ × List ℕ))) (names : List (List ℕ)) (plan : Plan) (number file : ℕ) (given : Override) (c0 : Kept) (out0 : Option (List ℕ)) (old new : Reader) (now next : Kept) (out_now out_next : Option (List ℕ)) (before place after : Place)
    (item taken_item : read.Item) → old.file ≡ file → after ≡ record { file = file; command = item.number; offset = item.offset } → item_of file taken_item ≡ overridden_as given (item_of file item) → inputs ≡ told
    → IfAllTold told names (λ files. IsNext old new item (get_or files number []))
    → IfAllTold inputs names (λ files. ItemEnd files plan now next (item_of file taken_item) out_now out_next (Ok tt))
    → IfAllTold told names (λ files. Stands files plan file given c0 out0 old now out_now before place (get_or files number []))
    → IfAllTold told names (λ files. Stands files plan file given c0 out0 new next out_next before after (get_or files number []))
stands_after told inputs names plan number file given c0 out0 old new now next out_now out_next before place after item taken_item old_file at_item named same next_is taken stands =
    all_two told names (λ files. IsNext old new item (get_or files number []) × ItemEnd files plan now next (item_of file taken_item) out_now out_next (Ok tt))
    (λ files. Stands files plan file given c0 out0 old now out_now before place (get_or files number [])) (λ files. Stands files plan file given c0 out0 new next out_next before after (get_or files number []))
    (λ files p s. step files (get_or files number []) p.0 (subst (λ (x : Item). ItemEnd files plan now next x out_now out_next (Ok tt)) named p.1) s)
    (all_two told names (λ files. IsNext old new item (get_or files number [])) (λ files. ItemEnd files plan now next (item_of file taken_item) out_now out_next (Ok tt))
    (λ files. IsNext old new item (get_or files number []) × ItemEnd files plan now next (item_of file taken_item) out_now out_next (Ok tt)) (λ files a b. (a, b)) next_is
    (all.told_moved told inputs names (λ files. ItemEnd files plan now next (item_of file taken_item) out_now out_next (Ok tt)) same taken))
    stands
  where
    step : (files : List (List ℕ)) (bytes : List ℕ) → IsNext old new item bytes → ItemTaken plan (composing_of files plan.base now) (composing_of files plan.base next) (overridden_as given (item_of file item)) out_now out_next × ItemKept now next (overridden_as given (item_of file item))
        → Stands files plan file given c0 out0 old now out_now before place bytes → Stands files plan file given c0 out0 new next out_next before after bytes
    step files bytes n (t, k) s =
        let this : Item = item_of file item in
        let before_it : List Item = map (overridden_as given) s.items in
        let more : map (overridden_as given) (s.items ++ this ∷ []) ≡ before_it ++ overridden_as given this ∷ [] = map-append (overridden_as given) s.items (this ∷ []) in
        record {
          items = s.items ++ this ∷ [];
          sent = s.sent ++ t.sent;
          read = s.read ∙ ap (then_reading s.items) (left_next file old new item bytes old_file n) ∙ then_item s.items this (left new bytes);
          all = ap (advance_all plan (composing_of files plan.base c0)) more
              ∙ one_more plan before_it (overridden_as given this) (composing_of files plan.base c0) (composing_of files plan.base now) t.next (composing_of files plan.base next) s.sent t.sent s.all t.taken t.rest;
          appends = Appends-trans out0 out_now out_next s.sent t.sent s.appends t.appends;
          last = last_place s.items this before after (is_place file item after at_item);
          latest = k ∙ ap (first_of (head_of (overridden_as given this).command)) s.latest ∙ latest_more before_it (overridden_as given this) c0.latest
              ∙ ap (λ (xs : List Item). first_of (last_head (heads xs)) c0.latest) (sym more);
          reached = n.reached s.reached;
        }

-- ---- the ends

-- The file ends.
pub file_ends : (told inputs : Option (List (List ℕ × List ℕ))) (names : List (List ℕ)) (plan : Plan) (number file : ℕ) (given : Override) (c0 : Kept) (out0 : Option (List ℕ)) (old new : Reader) (now : Kept) (out_now : Option (List ℕ)) (before place : Place)
    (f0 f1 : ℕ) (o : Option read.Item) → o ≡ None → inputs ≡ told → number < length names → old.name ≡ get_or names number [] → NextSays inputs old new f0 f1 (Ok o)
    → IfAllTold told names (λ files. Stands files plan file given c0 out0 old now out_now before place (get_or files number []))
    → IfAllTold told names (λ files. FileTaken files plan file given c0 now out0 out_now before place (get_or files number []))
file_ends told inputs names plan number file given c0 out0 old new now out_now before place f0 f1 o e same less is says stands =
    all_two told names (λ files. HasEnded old (get_or files number [])) (λ files. Stands files plan file given c0 out0 old now out_now before place (get_or files number []))
    (λ files. FileTaken files plan file given c0 now out0 out_now before place (get_or files number [])) (λ files. step files (get_or files number []))
    (told_file told inputs names number old.name (HasEnded old) same less is (next_end inputs inputs old.name old new f0 f1 o e refl refl says)) stands
  where
    step : (files : List (List ℕ)) (bytes : List ℕ) → HasEnded old bytes → Stands files plan file given c0 out0 old now out_now before place bytes → FileTaken files plan file given c0 now out0 out_now before place bytes
    step files bytes (ends, short) s = record {
      items = s.items;
      sent = s.sent;
      read = s.read ∙ ap (then_reading s.items) ends ∙ ap (λ (xs : List Item). record { items = xs; end = Whole }) (append-nil s.items);
      all = s.all;
      appends = s.appends;
      last = s.last;
      latest = s.latest;
      fits = short_fits file bytes short;
    }

-- What was sent, and then a front part of what was pending.
pub front_after : (out0 out_now out_next : Option (List ℕ)) (sent pending : List ℕ) → Appends out0 out_now sent → AppendsFront out_now out_next pending → AppendsFront out0 out_next (sent ++ pending)
front_after out0 out_now out_next sent pending a f = record {
  count = length sent + f.count;
  within = let w = f.within in omega (arith, w, length-append sent pending);
  appends = subst (λ (bs : List ℕ). Appends out0 out_next bs) (sym (take-append-add sent pending f.count)) (Appends-trans out0 out_now out_next sent (take f.count pending) a f.appends);
}

-- The same of all of it.
all_after : (outcome : Outcome) (out0 out_now out_next : Option (List ℕ)) (sent pending : List ℕ) → Appends out0 out_now sent → AllWhereEnded outcome out_now out_next pending → AllWhereEnded outcome out0 out_next (sent ++ pending)
all_after (over.Refused verdict) out0 out_now out_next sent pending a b = Appends-trans out0 out_now out_next sent pending a b
all_after (over.TooMuch sum) out0 out_now out_next sent pending a b = Appends-trans out0 out_now out_next sent pending a b
all_after (over.InputTooLong number) out0 out_now out_next sent pending a b = Appends-trans out0 out_now out_next sent pending a b
all_after (over.InputChanged number at) out0 out_now out_next sent pending a b = Appends-trans out0 out_now out_next sent pending a b
all_after over.NoMemory out0 out_now out_next sent pending a b = tt
all_after over.InputFault out0 out_now out_next sent pending a b = tt
all_after over.OutputFault out0 out_now out_next sent pending a b = tt
all_after over.Done out0 out_now out_next sent pending a b = tt

-- What was pending went out where a run stopped.
module _ (out_now out_next : Option (List ℕ)) (pending still : List ℕ) (g0 g1 : ℕ) (result : Outcome) where
  sent_or_failed : (outcome : Outcome) → (Appends out_now out_next pending → AllWhereEnded outcome out_now out_next pending)
      → ((result ≡ outcome) × AllOut pending still out_now out_next g0 g1) ⊎ ((result ≡ over.OutputFault) × (still ≡ pending) × Rose g0 g1 × AppendsPart out_now out_next pending)
      → AllWhereEnded result out_now out_next pending
  sent_or_failed outcome whole either =
      let W : Outcome → Type 0 = λ o. AllWhereEnded o out_now out_next pending in
      ⊎_elim (λ sent. subst W (sym sent.0) (whole sent.1.appends)) (λ failed. subst W (sym failed.0) tt) either

  silent : (outcome : Outcome) → AllWhereEnded outcome out_now out_next pending → StopEnd pending still out_now out_next g0 g1 outcome result → AllWhereEnded result out_now out_next pending
  silent outcome whole stop =
      let W : Outcome → Type 0 = λ o. AllWhereEnded o out_now out_next pending in
      ⊎_elim (λ same. subst W (sym same) whole) (λ failed. subst W (sym failed.0) tt) stop.outcome_is

  all_stopped : (outcome : Outcome) → StopEnd pending still out_now out_next g0 g1 outcome result → AllWhereEnded result out_now out_next pending
  all_stopped over.InputFault stop = silent over.InputFault tt stop
  all_stopped over.NoMemory stop = silent over.NoMemory tt stop
  all_stopped over.OutputFault stop = silent over.OutputFault tt stop
  all_stopped over.Done stop = silent over.Done tt stop
  all_stopped (over.Refused verdict) stop = sent_or_failed (over.Refused verdict) (λ a. a) (stop.sent (λ e. cc) (λ e. cc))
  all_stopped (over.TooMuch sum) stop = sent_or_failed (over.TooMuch sum) (λ a. a) (stop.sent (λ e. cc) (λ e. cc))
  all_stopped (over.InputTooLong number) stop = sent_or_failed (over.InputTooLong number) (λ a. a) (stop.sent (λ e. cc) (λ e. cc))
  all_stopped (over.InputChanged number at) stop = sent_or_failed (over.InputChanged number at) (λ a. a) (stop.sent (λ e. cc) (λ e. cc))

no_front : (out : Option (List ℕ)) (pending : List ℕ) → AppendsFront out out pending
no_front out pending = record { count = 0; within = omega (arith); appends = Appends-nil out }

-- There is no memory for a reader.
pub file_unopened : (told : Option (List (List ℕ × List ℕ))) (names : List (List ℕ)) (plan : Plan) (number file : ℕ) (given : Override) (now : Kept) (out : Option (List ℕ)) → IfAllTold told names (λ files. FileStops files plan file given now out out over.NoMemory (get_or files number []))
file_unopened told names plan number file given now out = all_always told names (λ files. FileStops files plan file given now out out over.NoMemory (get_or files number [])) (λ files. record {
  items = [];
  rest = reads file (get_or files number []);
  next = composing_of files plan.base now;
  read = refl;
  all = none_taken plan (composing_of files plan.base now);
  front = no_front out now.pending;
  whole = tt;
  why = tt;
})

-- Why a file can not be read on, whatever was composed.
Unread : Plan → ℕ → Override → Reader → ReadStop → List ℕ → Type 0
Unread plan file given old why bytes = old.offset ≤ length bytes → (now : Composing) → FileWhy plan file given now (left old bytes) (outcome_at file why) bytes

-- The same by how its bytes before the limit end.
Unread_by : Plan → ℕ → Override → Reader → ReadStop → List ℕ → Type 0
Unread_by plan file given old why bytes = old.offset ≤ length bytes → (reads file (take limit bytes)).end ≡ (left old (take limit bytes)).end → (now : Composing) → FileWhy plan file given now (left old bytes) (outcome_at file why) bytes

unread_by : (told : Option (List (List ℕ × List ℕ))) (plan : Plan) (file : ℕ) (given : Override) (old new : Reader) (f0 f1 : ℕ) (why : ReadStop) → NextSays told old new f0 f1 (Err why) → IfTold told old.name (Unread_by plan file given old why)
unfolding Unread_by
unread_by told plan file given old new f0 f1 (stop.Refused verdict) says = told_map told old.name (IsRefused (λ _. IsFaulty old verdict) (refusal_of verdict.refusal)) (Unread_by plan file given old (stop.Refused verdict)) (λ bytes (bad, early) reached ends now. inl bad) says
unread_by told plan file given old new f0 f1 stop.InputFault says = told_always told old.name (Unread_by plan file given old stop.InputFault) (λ bytes reached ends now. tt)
unread_by told plan file given old new f0 f1 stop.InputTooLong says =
    told_map told old.name (IsLongAt old.offset (OnlyEnds old)) (Unread_by plan file given old stop.InputTooLong) (λ bytes long reached ends now. (let l = long reached in (refl, long_is file bytes l.0 (ap only_ends ends ∙ l.1.1)))) says

unread : (told : Option (List (List ℕ × List ℕ))) (plan : Plan) (file : ℕ) (given : Override) (old new : Reader) (f0 f1 : ℕ) (why : ReadStop) → NextSays told old new f0 f1 (Err why) → IfTold told old.name (EndsAlike file old) → IfTold told old.name (Unread plan file given old why)
unfolding Unread Unread_by
unread told plan file given old new f0 f1 why says alike =
    told_both told old.name (Unread_by plan file given old why) (Here (EndsAlike file old)) (Unread plan file given old why) (λ bytes u h reached now. u reached h.1 now)
    (unread_by told plan file given old new f0 f1 why says) (told_here told old.name (EndsAlike file old) alike)

-- Composing ends before the next command, for some reason: what was kept back is sent, or the
-- output failed.
ends_here : {still : List ℕ} (files : List (List ℕ)) (plan : Plan) (file : ℕ) (given : Override) (c0 : Kept) (out0 : Option (List ℕ)) (old : Reader) (now : Kept) (out_now out_next : Option (List ℕ)) (before place : Place) (g0 g1 : ℕ) (outcome result : Outcome) (bytes : List ℕ)
    → StopEnd now.pending still out_now out_next g0 g1 outcome result → (s : Stands files plan file given c0 out0 old now out_now before place bytes)
    → FileWhy plan file given (unsent s.sent (composing_of files plan.base now)) (left old bytes) outcome bytes → FileStops files plan file given c0 out0 out_next result bytes
ends_here {still} files plan file given c0 out0 old now out_now out_next before place g0 g1 outcome result bytes stopped s why =
    let next : Composing = unsent s.sent (composing_of files plan.base now) in
    record {
      items = s.items;
      rest = left old bytes;
      next = next;
      read = s.read;
      all = s.all;
      front = front_after out0 out_now out_next s.sent now.pending s.appends stopped.front;
      whole = all_after result out0 out_now out_next s.sent now.pending s.appends (all_stopped out_now out_next now.pending still g0 g1 result outcome stopped);
      why = ⊎_elim (λ kept. subst (λ (x : Outcome). FileWhy plan file given next (left old bytes) x bytes) (sym kept) why)
          (λ failed. subst (λ (x : Outcome). FileWhy plan file given next (left old bytes) x bytes) (sym failed.0) tt) stopped.outcome_is;
    }

-- The file can not be read on.
pub file_stops : {still : List ℕ} (told inputs : Option (List (List ℕ × List ℕ))) (names : List (List ℕ)) (plan : Plan) (number file : ℕ) (given : Override) (c0 : Kept) (out0 : Option (List ℕ)) (old new : Reader) (now : Kept) (out_now out_next : Option (List ℕ)) (before place : Place)
    (f0 f1 g0 g1 : ℕ) (why : ReadStop) (outcome result : Outcome) → inputs ≡ told → number < length names → old.name ≡ get_or names number [] → NextSays inputs old new f0 f1 (Err why)
    → outcome ≡ outcome_at file why → StopEnd now.pending still out_now out_next g0 g1 outcome result → IfTold inputs old.name (EndsAlike file old)
    → IfAllTold told names (λ files. Stands files plan file given c0 out0 old now out_now before place (get_or files number []))
    → IfAllTold told names (λ files. FileStops files plan file given c0 out0 out_next result (get_or files number []))
unfolding Unread
file_stops told inputs names plan number file given c0 out0 old new now out_now out_next before place f0 f1 g0 g1 why outcome result same less is says outcome_is stopped alike stands =
    all_two told names (λ files. Unread plan file given old why (get_or files number [])) (λ files. Stands files plan file given c0 out0 old now out_now before place (get_or files number []))
    (λ files. FileStops files plan file given c0 out0 out_next result (get_or files number [])) (λ files. step files (get_or files number []))
    (told_file told inputs names number old.name (Unread plan file given old why) same less is (unread inputs plan file given old new f0 f1 why says alike)) stands
  where
    step : (files : List (List ℕ)) (bytes : List ℕ) → Unread plan file given old why bytes → Stands files plan file given c0 out0 old now out_now before place bytes → FileStops files plan file given c0 out0 out_next result bytes
    step files bytes u s =
        ends_here files plan file given c0 out0 old now out_now out_next before place g0 g1 outcome result bytes stopped s
        (subst (λ (x : Outcome). FileWhy plan file given (unsent s.sent (composing_of files plan.base now)) (left old bytes) x bytes) (sym outcome_is) (u s.reached (unsent s.sent (composing_of files plan.base now))))

-- The next item has a version above that of the stream that is written.
pub file_above : {still : List ℕ} (told : Option (List (List ℕ × List ℕ))) (names : List (List ℕ)) (plan : Plan) (number file : ℕ) (given : Override) (c0 : Kept) (out0 : Option (List ℕ)) (old new : Reader) (now : Kept) (out_now out_next : Option (List ℕ)) (before place : Place)
    (g0 g1 : ℕ) (item : read.Item) (verdict : Verdict) (result : Outcome) → plan.version < item.version → old.file ≡ file → StopEnd now.pending still out_now out_next g0 g1 (over.Refused verdict) result
    → IfAllTold told names (λ files. IsNext old new item (get_or files number []))
    → IfAllTold told names (λ files. Stands files plan file given c0 out0 old now out_now before place (get_or files number []))
    → IfAllTold told names (λ files. FileStops files plan file given c0 out0 out_next result (get_or files number []))
file_above told names plan number file given c0 out0 old new now out_now out_next before place g0 g1 item verdict result above old_file stopped next_is stands =
    all_two told names (λ files. IsNext old new item (get_or files number [])) (λ files. Stands files plan file given c0 out0 old now out_now before place (get_or files number []))
    (λ files. FileStops files plan file given c0 out0 out_next result (get_or files number [])) (λ files. step files (get_or files number [])) next_is stands
  where
    step : (files : List (List ℕ)) (bytes : List ℕ) → IsNext old new item bytes → Stands files plan file given c0 out0 old now out_now before place bytes → FileStops files plan file given c0 out0 out_next result bytes
    step files bytes n s =
        ends_here files plan file given c0 out0 old now out_now out_next before place g0 g1 (over.Refused verdict) result bytes stopped s
        (inr (inr (record { item = item_of file item; more = left new bytes; front = left_next file old new item bytes old_file n; above = above })))

-- ---- an item ends composing

module _ (files : List (List ℕ)) (plan : Plan) (file : ℕ) (given : Override) (c0 : Kept) (out0 : Option (List ℕ)) (old new : Reader) (now : Kept) (out_now out_next : Option (List ℕ)) (before place : Place) (item : Item) (bytes : List ℕ) (s : Stands files plan file given c0 out0 old now out_now before place bytes) (n : left old bytes ≡ with_item item (left new bytes)) where
  so_far : Composing
  so_far = composing_of files plan.base now

  -- Composing stops at the item, which is not taken.
  stops_at : (outcome : Outcome) → AppendsFront out_now out_next now.pending → AllWhereEnded outcome out_now out_next now.pending → FileWhy plan file given (unsent s.sent so_far) (left old bytes) outcome bytes → FileStops files plan file given c0 out0 out_next outcome bytes
  unfolding so_far
  stops_at outcome front whole why = record {
    items = s.items;
    rest = left old bytes;
    next = unsent s.sent so_far;
    read = s.read;
    all = s.all;
    front = front_after out0 out_now out_next s.sent now.pending s.appends front;
    whole = all_after outcome out0 out_now out_next s.sent now.pending s.appends whole;
    why = why;
  }

  -- Composing stops after the item, which was taken.
  stops_after : (next : Composing) (outcome : Outcome) → advance plan so_far (overridden_as given item) ≡ Ok next → AppendsFront out_now out_next next.pending → AllWhereEnded outcome out_now out_next next.pending → FileWhy plan file given (unsent s.sent next) (left new bytes) outcome bytes → FileStops files plan file given c0 out0 out_next outcome bytes
  unfolding so_far
  stops_after next outcome taken front whole why = record {
    items = s.items ++ item ∷ [];
    rest = left new bytes;
    next = unsent s.sent next;
    read = s.read ∙ ap (then_reading s.items) n ∙ then_item s.items item (left new bytes);
    all = ap (advance_all plan (composing_of files plan.base c0)) (map-append (overridden_as given) s.items (item ∷ []))
        ∙ all_more plan (composing_of files plan.base c0) (unsent s.sent so_far) (unsent s.sent next) (map (overridden_as given) s.items) (overridden_as given item ∷ []) s.all
        (all_one plan (unsent s.sent so_far) (unsent s.sent next) (overridden_as given item) (advance_unsent_ok plan s.sent so_far next (overridden_as given item) taken));
    front = front_after out0 out_now out_next s.sent next.pending s.appends front;
    whole = all_after outcome out0 out_now out_next s.sent next.pending s.appends whole;
    why = why;
  }

  halts : (halt : Halt) → advance plan so_far (overridden_as given item) ≡ Err halt → NextHalts plan given (unsent s.sent so_far) (left old bytes) halt item
  halts halt e = record { more = left new bytes; front = n; halted = advance_unsent_err plan s.sent so_far (overridden_as given item) halt e }

  same_front : (next : Composing) → next ≡ so_far → AppendsFront out_now out_next next.pending → AppendsFront out_now out_next now.pending
  unfolding so_far
  same_front next is front = subst (λ (x : Composing). AppendsFront out_now out_next x.pending) is front

  same_whole : (next : Composing) → next ≡ so_far → Appends out_now out_next next.pending → Appends out_now out_next now.pending
  unfolding so_far
  same_whole next is whole = subst (λ (x : Composing). Appends out_now out_next x.pending) is whole

  -- Where no reason has to be given.
  stops_either : (next : Composing) (outcome : Outcome) → ((bs : List ℕ) → AllWhereEnded outcome out_now out_next bs) → ((now : Composing) (rest : Reading) → FileWhy plan file given now rest outcome bytes) → (next ≡ so_far) ⊎ (advance plan so_far (overridden_as given item) ≡ Ok next) → AppendsFront out_now out_next next.pending
      → FileStops files plan file given c0 out0 out_next outcome bytes
  stops_either next outcome whole why either front =
      ⊎_elim (λ (is : next ≡ so_far). stops_at outcome (same_front next is front) (whole now.pending) (why (unsent s.sent so_far) (left old bytes)))
      (λ (taken : advance plan so_far (overridden_as given item) ≡ Ok next). stops_after next outcome taken front (whole next.pending) (why (unsent s.sent next) (left new bytes))) either

  item_ends : (outcome : Outcome) (next : Composing) → ItemWhy plan so_far next (overridden_as given item) outcome → AppendsFront out_now out_next next.pending → AllWhereEnded outcome out_now out_next next.pending → FileStops files plan file given c0 out0 out_next outcome bytes
  item_ends over.Done next why front whole = elim why [ ]
  item_ends (over.Refused verdict) next (is, r) front whole =
      stops_at (over.Refused verdict) (same_front next is front) (same_whole next is whole) (inr (inl (item, Refuses r.refusal, halts (Refuses r.refusal) r.refused, ap RefusedAt (sym r.verdict_is))))
  item_ends (over.TooMuch sum) next (is, e) front whole = stops_at (over.TooMuch sum) (same_front next is front) (same_whole next is whole) (item, halts (Exceeds sum) e)
  item_ends over.InputFault next why front whole = stops_either next over.InputFault (λ bs. tt) (λ x rest. tt) why front
  item_ends over.OutputFault next why front whole = stops_either next over.OutputFault (λ bs. tt) (λ x rest. tt) why front
  item_ends over.NoMemory next why front whole = stops_either next over.NoMemory (λ bs. tt) (λ x rest. tt) why front
  item_ends (over.InputTooLong number) next why front whole = elim why [ ]
  item_ends (over.InputChanged number at) next why front whole = elim why [ ]

-- ---- what was written where an item ends composing

-- All bytes are a front part of them.
all_front : (out_old out_new : Option (List ℕ)) (bytes : List ℕ) → Appends out_old out_new bytes → AppendsFront out_old out_new bytes
all_front out_old out_new bytes a = record {
  count = length bytes;
  within = omega arith;
  appends = subst (λ (bs : List ℕ). Appends out_old out_new bs) (sym (take-length bytes)) a;
}

left_front : (outcome : Outcome) (out_old out_new : Option (List ℕ)) (left bytes : List ℕ) → LeftBy outcome out_old out_new left bytes → AppendsFront out_old out_new bytes
left_front (over.Refused verdict) out_old out_new left bytes l = all_front out_old out_new bytes l.0
left_front (over.TooMuch sum) out_old out_new left bytes l = all_front out_old out_new bytes l.0
left_front over.OutputFault out_old out_new left bytes l = breaks_front out_old out_new [] left bytes l
left_front over.InputFault out_old out_new left bytes l = part_front out_old out_new [] left bytes l
left_front over.NoMemory out_old out_new left bytes l = part_front out_old out_new [] left bytes l
left_front (over.InputTooLong number) out_old out_new left bytes l = elim l [ ]
left_front (over.InputChanged number at) out_old out_new left bytes l = elim l [ ]
left_front over.Done out_old out_new left bytes l = elim l [ ]

left_whole : (outcome : Outcome) (out_old out_new : Option (List ℕ)) (left bytes : List ℕ) → LeftBy outcome out_old out_new left bytes → AllWhereEnded outcome out_old out_new bytes
left_whole (over.Refused verdict) out_old out_new left bytes l = l.0
left_whole (over.TooMuch sum) out_old out_new left bytes l = l.0
left_whole over.OutputFault out_old out_new left bytes l = tt
left_whole over.InputFault out_old out_new left bytes l = tt
left_whole over.NoMemory out_old out_new left bytes l = tt
left_whole (over.InputTooLong number) out_old out_new left bytes l = elim l [ ]
left_whole (over.InputChanged number at) out_old out_new left bytes l = elim l [ ]
left_whole over.Done out_old out_new left bytes l = elim l [ ]

pub item_stops : (told inputs : Option (List (List ℕ × List ℕ))) (names : List (List ℕ)) (plan : Plan) (number file : ℕ) (given : Override) (c0 : Kept) (out0 : Option (List ℕ)) (old new : Reader) (now next : Kept) (out_now out_next : Option (List ℕ)) (before place : Place)
    (item taken_item : read.Item) (outcome : Outcome) → old.file ≡ file → item_of file taken_item ≡ overridden_as given (item_of file item) → inputs ≡ told
    → IfAllTold told names (λ files. IsNext old new item (get_or files number []))
    → IfAllTold inputs names (λ files. ItemEnd files plan now next (item_of file taken_item) out_now out_next (Err outcome))
    → IfAllTold told names (λ files. Stands files plan file given c0 out0 old now out_now before place (get_or files number []))
    → IfAllTold told names (λ files. FileStops files plan file given c0 out0 out_next outcome (get_or files number []))
unfolding so_far
item_stops told inputs names plan number file given c0 out0 old new now next out_now out_next before place item taken_item outcome old_file named same next_is stops stands =
    all_two told names (λ files. IsNext old new item (get_or files number []) × ItemStops plan (composing_of files plan.base now) (item_of file taken_item) outcome out_now out_next next.pending)
    (λ files. Stands files plan file given c0 out0 old now out_now before place (get_or files number [])) (λ files. FileStops files plan file given c0 out0 out_next outcome (get_or files number []))
    (λ files p s. (let t : ItemStops plan (composing_of files plan.base now) (overridden_as given (item_of file item)) outcome out_now out_next next.pending = subst (λ (x : Item). ItemStops plan (composing_of files plan.base now) x outcome out_now out_next next.pending) named p.1 in
    item_ends files plan file given c0 out0 old new now out_now out_next before place (item_of file item) (get_or files number []) s
    (left_next file old new item (get_or files number []) old_file p.0) outcome t.next t.why (left_front outcome out_now out_next next.pending t.next.pending t.goes) (left_whole outcome out_now out_next next.pending t.next.pending t.goes)))
    (all_two told names (λ files. IsNext old new item (get_or files number [])) (λ files. ItemStops plan (composing_of files plan.base now) (item_of file taken_item) outcome out_now out_next next.pending)
    (λ files. IsNext old new item (get_or files number []) × ItemStops plan (composing_of files plan.base now) (item_of file taken_item) outcome out_now out_next next.pending) (λ files a b. (a, b)) next_is
    (all.told_moved told inputs names (λ files. ItemStops plan (composing_of files plan.base now) (item_of file taken_item) outcome out_now out_next next.pending) same stops))
    stands
