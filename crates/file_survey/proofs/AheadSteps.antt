-- What the loops over files look at: the items that are ahead, the last of them, and that files
-- which are read as whole hold one.
use Rattle.std.specs.Prelude.{◌≡◌, ◌≢◌, ℕ, zero, suc, ◌+◌, List, [], ◌∷◌, ◌++◌, length, drop, None, Some, Result, Ok, Err}
use Rattle.std.proofs.Common.{refl, sym, ap, subst, ◌∙◌, append_assoc, append-nil}
use Rattle.send_model.specs.Refusal.{Refusal}
use Rattle.send_model.specs.Reading.{Item, Verdict, Ending, Whole, Faulty, Reading, CommandDue, Front, header_len, with_item, ended, faulty, go_on, stream_version, front_of, reads_from, reads, joined, input_from, input}
use Rattle.send_model.specs.Order.{last_item}
use Rattle.file_survey.specs.Ahead.{IsAhead, then_reading}

-- ---- what is ahead

pub joined_item : (item : Item) (items : List Item) (ending : Ending) (others : Reading) → joined (record { items = item ∷ items; end = ending }) others ≡ with_item item (joined (record { items = items; end = ending }) others)
joined_item item items Whole others = refl
joined_item item items (Faulty verdict) others = refl

pub then_item : (items : List Item) (item : Item) (r : Reading) → then_reading items (with_item item r) ≡ then_reading (items ++ item ∷ []) r
then_item items item r = ap (λ (is : List Item). record { items = is; end = r.end }) (sym (append_assoc items (item ∷ []) r.items))

pub ahead_is : (files : List (List ℕ)) (items : List Item) (left now : Reading) (number : ℕ) (after : List (List ℕ)) → left ≡ now → IsAhead files items left number after → IsAhead files items now number after
ahead_is files items left now number after e is = subst (λ (r : Reading). IsAhead files items r number after) e is

-- Before the first file.
pub ahead_start : (files : List (List ℕ)) → IsAhead files [] ended 0 files
unfolding input
ahead_start files = refl

-- A file ends and another is after it.
pub ahead_next : (files : List (List ℕ)) (items : List Item) (left : Reading) (number : ℕ) (bytes : List ℕ) (after : List (List ℕ)) → IsAhead files items left number (bytes ∷ after) → left ≡ ended → IsAhead files items (reads (number + 1) bytes) (number + 1) after
unfolding input_from
ahead_next files items left number bytes after is e = ahead_is files items left ended number (bytes ∷ after) e is

-- At the first command of the first file.
pub ahead_first : (bytes : List ℕ) (after : List (List ℕ)) → IsAhead (bytes ∷ after) [] (reads 1 bytes) 1 after
ahead_first bytes after = ahead_next (bytes ∷ after) [] ended 0 bytes after (ahead_start (bytes ∷ after)) refl

-- A command was read.
pub ahead_item : (files : List (List ℕ)) (items : List Item) (item : Item) (left now : Reading) (number : ℕ) (after : List (List ℕ)) → IsAhead files items left number after → left ≡ with_item item now → IsAhead files (items ++ item ∷ []) now number after
ahead_item files items item left now number after is e =
    ahead_is files items left (with_item item now) number after e is
    ∙ ap (then_reading items) (joined_item item now.items now.end (input_from (number + 1) after))
    ∙ then_item items item (joined now (input_from (number + 1) after))

-- All that is read, where a command was read.
pub ahead_input : (files : List (List ℕ)) (items : List Item) (item : Item) (left now : Reading) (number : ℕ) (after : List (List ℕ)) → IsAhead files items left number after → left ≡ with_item item now
    → (more : List Item) × (ending : Ending) × (input files ≡ record { items = items ++ item ∷ more; end = ending })
ahead_input files items item left now number after is e =
    let rest : Reading = joined now (input_from (number + 1) after) in (
      rest.items,
      rest.end,
      ahead_item files items item left now number after is e ∙ sym (then_item items item rest),
    )

-- The last file ends.
pub ahead_whole : (files : List (List ℕ)) (items : List Item) (left : Reading) (number : ℕ) → IsAhead files items left number [] → left ≡ ended → input files ≡ record { items = items; end = Whole }
unfolding input_from
ahead_whole files items left number is e = ahead_is files items left ended number [] e is ∙ ap (λ (is : List Item). record { items = is; end = Whole }) (append-nil items)

-- The reading of a file ends at a fault.
pub ahead_fault : (files : List (List ℕ)) (items : List Item) (left : Reading) (verdict : Verdict) (number : ℕ) (after : List (List ℕ)) → IsAhead files items left number after → left ≡ record { items = []; end = Faulty verdict } → input files ≡ record { items = items; end = Faulty verdict }
ahead_fault files items left verdict number after is e =
    ahead_is files items left (record { items = []; end = Faulty verdict }) number after e is ∙ ap (λ (is : List Item). record { items = is; end = Faulty verdict }) (append-nil items)

-- ---- the last item

pub last_item_after : (items : List Item) (item : Item) → last_item (items ++ item ∷ []) ≡ Some item
last_item_after [] item = refl
last_item_after (x ∷ []) item = refl
last_item_after (x ∷ y ∷ items) item = last_item_after (y ∷ items) item

-- There is a last item where there is one at all.
pub last_item_none : (items : List Item) → last_item items ≡ None → items ≡ []
last_item_none [] e = refl
last_item_none (item ∷ []) e = cc
last_item_none (x ∷ y ∷ items) e = absurd (let none : y ∷ items ≡ [] = last_item_none (y ∷ items) e in cc)

-- ---- files that are read as whole hold a command

one_front : (more : Front → Reading) (stop : Refusal → Reading) (r : Result Front Refusal) → ((refusal : Refusal) → (stop refusal).end ≢ Whole) → (go_on (λ front. with_item front.item (more front)) stop r).end ≡ Whole → (go_on (λ front. with_item front.item (more front)) stop r).items ≢ []
one_front more stop (Ok front) faults whole = λ none. cc
one_front more stop (Err refusal) faults whole = absurd (faults refusal whole)

from_command : (n file version number offset : ℕ) (bytes : List ℕ) → (reads_from n file (CommandDue version) number offset bytes).end ≡ Whole → (reads_from n file (CommandDue version) number offset bytes).items ≢ []
unfolding reads_from
from_command zero file version number offset bytes whole = cc
from_command (suc n) file version number offset bytes whole = one_front _ (faulty file number offset) (front_of file version number offset bytes) (λ refusal e. cc) whole

one_version : (more : ℕ → Reading) (stop : Refusal → Reading) (r : Result ℕ Refusal) → ((refusal : Refusal) → (stop refusal).end ≢ Whole) → ((version : ℕ) → (more version).end ≡ Whole → (more version).items ≢ []) → (go_on more stop r).end ≡ Whole → (go_on more stop r).items ≢ []
one_version more stop (Ok version) faults on whole = on version whole
one_version more stop (Err refusal) faults on whole = absurd (faults refusal whole)

-- A file that is read as whole holds a command.
pub reads_some : (file : ℕ) (bytes : List ℕ) → (reads file bytes).end ≡ Whole → (reads file bytes).items ≢ []
unfolding reads reads_from
reads_some file bytes whole =
    one_version _ (faulty file 1 0) (stream_version bytes) (λ refusal e. cc) (λ version. from_command (length bytes) file version 1 header_len (drop header_len bytes)) whole

-- And so do files of which there is one.
pub input_some : (bytes : List ℕ) (after : List (List ℕ)) → (input (bytes ∷ after)).end ≡ Whole → (input (bytes ∷ after)).items ≢ []
unfolding input input_from
input_some bytes after whole = first_some (reads 1 bytes).items (reads 1 bytes).end (input_from 2 after) (reads_some 1 bytes) whole
  where
    first_some : (items : List Item) (ending : Ending) (others : Reading) → (ending ≡ Whole → items ≢ []) → (joined (record { items = items; end = ending }) others).end ≡ Whole → (joined (record { items = items; end = ending }) others).items ≢ []
    first_some [] Whole others some whole = absurd (some refl refl)
    first_some (item ∷ items) Whole others some whole = λ none. cc
    first_some items (Faulty verdict) others some whole = absurd (let e : Faulty verdict ≡ Whole = whole in cc)
