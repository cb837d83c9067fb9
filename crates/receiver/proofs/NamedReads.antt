-- What is read of files, with what is said in front of them.
use Rattle.std.specs.Prelude.{◌≡◌, ℕ, ◌+◌, Bool, true, false, List, [], ◌∷◌, map, take}
use Rattle.std.proofs.Common.{refl, sym, ap, subst, ◌∙◌, append-nil}
use Rattle.std.proofs.lemmas.List.{map-append}
use Rattle.send_model.specs.Command.{Command, Subvol, Snapshot, Clone}
use Rattle.send_model.specs.Store.{Key}
use Rattle.send_model.specs.Reading.{Item, Verdict, Ending, Whole, Faulty, Reading, CommandDue, due_after, is_version, reads}
use Rattle.send_model.specs.Laws.{CanWrite}
use Rattle.send_model.specs.Lengths.{limit, is_too_long}
use Rattle.send_model.specs.Due.{Limited, Stop, AtEnd, AtFault, AtLimit, limited_from, then_limited}
use Rattle.send_model.specs.Overridden.{Override, Overrides, with_name, with_parents, override_for, overridden_as, overridden_item, overridden_items, overridden_limited}
use Rattle.send_model.proofs.OverriddenByFile.{file_has_one_override}
use Rattle.send_model.proofs.Overriding.{Ignores, command_ignores}
use Rattle.send_commands.specs.Meaning.{meaning_of}
use Rattle.cmd_reader.specs.declared.item.Item as read
use Rattle.cmd_reader.specs.Left.{Reader}
use Rattle.cmd_reader.specs.Next.{item_of, is_last, ItemFits}
use Rattle.auditor.specs.Following.{then_read, file_read, read_whole}
use Rattle.auditor.proofs.TooLong.{by_length, nothing_more, read_is, whole_read, fault_read, long_read, read_either}
use Rattle.receiver.specs.FileEnds.{read_with, then_others}

-- ---- one item

-- What holds of an item that was read, with what is said in front of its file.
pub record GivenFits (old new : Reader) (item : read.Item) : Type 0 where
  pub version : is_version item.version ≡ true
  pub can_write : CanWrite item.version (meaning_of item.command)
  pub same_stream : (version : ℕ) → old.fed.due ≡ CommandDue version → item.version ≡ version
  pub due : new.fed.due ≡ due_after item.version (meaning_of item.command)
  pub at_end : new.fed.ended ≡ is_last (meaning_of item.command)

due_ignores : (version : ℕ) → Ignores (due_after version)
due_ignores version = record { names = names; parents = parents }
  where
    names : (name : List ℕ) (c : Command) → due_after version (with_name name c) ≡ due_after version c
    names name (Subvol uuid ctransid path) = refl
    names name (Snapshot uuid ctransid path clone_uuid clone_ctransid) = refl
    names name c = refl

    parents : (keys : List Key) (c : Command) → due_after version (with_parents keys c) ≡ due_after version c
    parents keys (Snapshot uuid ctransid path clone_uuid clone_ctransid) = refl
    parents keys (Clone path offset clone_uuid clone_ctransid clone_path clone_offset clone_len) = refl
    parents keys c = refl

last_ignores : Ignores is_last
last_ignores = record { names = names; parents = parents }
  where
    names : (name : List ℕ) (c : Command) → is_last (with_name name c) ≡ is_last c
    names name (Subvol uuid ctransid path) = refl
    names name (Snapshot uuid ctransid path clone_uuid clone_ctransid) = refl
    names name c = refl

    parents : (keys : List Key) (c : Command) → is_last (with_parents keys c) ≡ is_last c
    parents keys (Snapshot uuid ctransid path clone_uuid clone_ctransid) = refl
    parents keys (Clone path offset clone_uuid clone_ctransid clone_path clone_offset clone_len) = refl
    parents keys c = refl

due_as : (override : Override) (item : Item) → due_after (overridden_as override item).version (overridden_as override item).command ≡ due_after item.version item.command
due_as override item = command_ignores (due_after item.version) (due_ignores item.version) override item.command

last_as : (override : Override) (item : Item) → is_last (overridden_as override item).command ≡ is_last item.command
last_as override item = command_ignores is_last last_ignores override item.command

pub given_fits : (override : Override) (file : ℕ) (old new : Reader) (own item : read.Item) → ItemFits old new own → item_of file item ≡ overridden_as override (item_of file own)
    → ((version : ℕ) → is_version version ≡ true → CanWrite version (meaning_of own.command) → CanWrite version (meaning_of item.command)) → GivenFits old new item
given_fits override file old new own item fits named writes =
    let same : item.version ≡ own.version = ap (λ (i : Item). i.version) named in
    record {
      version = ap is_version same ∙ fits.version;
      can_write = subst (λ (n : ℕ). CanWrite n (meaning_of item.command)) (sym same) (writes own.version fits.version fits.can_write);
      same_stream = λ version due. same ∙ fits.same_stream version due;
      due = fits.due ∙ sym (ap (λ (i : Item). due_after i.version i.command) named ∙ due_as override (item_of file own));
      at_end = fits.at_end ∙ sym (ap (λ (i : Item). is_last i.command) named ∙ last_as override (item_of file own));
    }

-- ---- one file

abbrev pub reading_with : Override → Reading → Reading
reading_with override r = record { items = map (overridden_as override) r.items; end = r.end }

with_end : (r : Reading) (ending : Ending) → r.end ≡ ending → r ≡ record { items = r.items; end = ending }
with_end r ending e = ap (λ (x : Ending). record { items = r.items; end = x }) e

module _ (override : Override) (file : ℕ) (bytes : List ℕ) where
  pub whole_named : (items : List Item) → is_too_long file bytes ≡ false → reading_with override (reads file bytes) ≡ record { items = items; end = Whole } → read_with override (file_read file bytes) ≡ read_whole items
  whole_named items fits is =
      let r : Reading = reads file bytes in
      ap (read_with override) (whole_read file bytes r.items fits (with_end r Whole (ap (λ (x : Reading). x.end) is))) ∙ ap (λ (x : Reading). read_whole x.items) is

  pub fault_named : (items : List Item) (verdict : Verdict) → is_too_long file bytes ≡ false → reading_with override (reads file bytes) ≡ record { items = items; end = Faulty verdict }
      → read_with override (file_read file bytes) ≡ record { items = items; stop = AtFault verdict }
  fault_named items verdict fits is =
      let r : Reading = reads file bytes in
      ap (read_with override) (fault_read file bytes r.items verdict fits (with_end r (Faulty verdict) (ap (λ (x : Reading). x.end) is)))
      ∙ ap (λ (x : Reading). record { items = x.items; stop = AtFault verdict }) is

  pub long_named : (items : List Item) → is_too_long file bytes ≡ true → (reading_with override (reads file (take limit bytes))).items ≡ items → read_with override (file_read file bytes) ≡ record { items = items; stop = AtLimit file }
  long_named items long is =
      ap (read_with override) (long_read file bytes (reads file (take limit bytes)).items long refl) ∙ ap (λ (is : List Item). record { items = is; stop = AtLimit file }) is

  -- Of a file either all its items are read, or those before the limit.
  pub either_named : (P : List Item → Type 0) → P (reading_with override (reads file bytes)).items → P (reading_with override (reads file (take limit bytes))).items → P (read_with override (file_read file bytes)).items
  either_named P all front = read_either (λ items. P (map (overridden_as override) items)) file bytes all front

-- ---- several files

split : (file : ℕ) (bytes : List ℕ) (files : List (List ℕ)) → limited_from file (bytes ∷ files) ≡ then_others (file_read file bytes) (limited_from (file + 1) files)
unfolding limited_from
split file bytes files =
    read_is file bytes files ∙ by_long (is_too_long file bytes) ∙ ap (λ (l : Limited). then_others l more) (sym (read_is file bytes []))
  where
    more : Limited
    more = limited_from (file + 1) files

    by_end : (items : List Item) (ending : Ending) → then_limited items ending more ≡ then_others (then_limited items ending nothing_more) more
    by_end items Whole = ap (λ (is : List Item). then_read is more) (sym (append-nil items))
    by_end items (Faulty verdict) = refl

    by_long : (b : Bool) → by_length b file bytes more ≡ then_others (by_length b file bytes nothing_more) more
    by_long true = refl
    by_long false = by_end (reads file bytes).items (reads file bytes).end

-- All items of a file have what is said in front of it.
file_with : (names : Overrides) (file : ℕ) (bytes : List ℕ) → overridden_limited names (file_read file bytes) ≡ read_with (override_for names file) (file_read file bytes)
file_with names file bytes =
    let at : List Item → Limited = λ items. record { items = items; stop = (file_read file bytes).stop } in
    let items_of : Reading → List Item = λ r. r.items in
    ap at (read_either (λ items. overridden_items names items ≡ map (overridden_as (override_for names file)) items) file bytes
    (ap items_of (file_has_one_override names file bytes)) (ap items_of (file_has_one_override names file (take limit bytes))))

-- So the first of several is read with its own, and then the others with theirs.
pub split_with : (names : Overrides) (file : ℕ) (bytes : List ℕ) (files : List (List ℕ))
    → overridden_limited names (limited_from file (bytes ∷ files)) ≡ then_others (read_with (override_for names file) (file_read file bytes)) (overridden_limited names (limited_from (file + 1) files))
split_with names file bytes files =
    ap (overridden_limited names) (split file bytes files)
    ∙ by_stop (file_read file bytes).items (file_read file bytes).stop
    ∙ ap (λ (l : Limited). then_others l (overridden_limited names more)) (file_with names file bytes)
  where
    more : Limited
    more = limited_from (file + 1) files

    by_stop : (items : List Item) (stop : Stop) → overridden_limited names (then_others (record { items = items; stop = stop }) more) ≡ then_others (overridden_limited names (record { items = items; stop = stop })) (overridden_limited names more)
    by_stop items AtEnd = ap (λ (is : List Item). record { items = is; stop = more.stop }) (map-append (overridden_item names) items more.items)
    by_stop items (AtFault verdict) = refl
    by_stop items (AtLimit number) = refl
