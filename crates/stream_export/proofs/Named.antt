-- What is read of files, with what is said in front of them.
use Rattle.std.specs.Prelude.{◌≡◌, ℕ, ◌+◌, Bool, true, false, List, [], ◌∷◌, ◌++◌, map, take, Option, None, Some}
use Rattle.std.proofs.Common.{refl, sym, ap, ap₂, subst, ◌∙◌, append-nil}
use Rattle.std.proofs.lemmas.List.{map-append}
use Rattle.send_model.specs.Reading.{Item, Ending, Whole, Faulty, Reading, reads}
use Rattle.send_model.specs.Spelling.{canonical}
use Rattle.send_model.specs.Lengths.{limit, is_too_long}
use Rattle.send_model.specs.Due.{Limited, Stop, AtEnd, AtFault, AtLimit, limited_from, then_limited}
use Rattle.send_model.specs.Overridden.{Override, Overrides, override_for, overridden_as, overridden_item, overridden_items, overridden_limited}
use Rattle.send_model.proofs.OverriddenByFile.{file_has_one_override}
use Rattle.send_commands.specs.Meaning.{meaning_of}
use Rattle.cmd_reader.specs.declared.item.Item as read
use Rattle.cmd_reader.specs.Next.{item_of}
use Rattle.auditor.specs.Following.{then_read, items_with, read_with, file_read}
use Rattle.auditor.proofs.TooLong.{by_length, nothing_more, read_is, read_either}
use Rattle.stream_export.specs.Steps.{then_others}

-- ---- one item

module _ (file : ℕ) (override : Override) (item new : read.Item) (named : item_of file new ≡ overridden_as override (item_of file item)) where
  same_version : new.version ≡ item.version
  same_version = ap (λ (i : Item). i.version) named

  -- What holds in the version of its stream.
  pub in_version : (P : ℕ → Type 0) → P item.version → P new.version
  in_version P p = subst P (sym same_version) p

  -- A frame is its canonical spelling only where the command is the one that came.
  pub still_spelled : (frame : List ℕ) → (new.canonical ≡ true → (item.canonical ≡ true) × (meaning_of new.command ≡ meaning_of item.command))
      → (item.canonical ≡ true → frame ≡ canonical item.version (meaning_of item.command)) → new.canonical ≡ true → frame ≡ canonical new.version (meaning_of new.command)
  still_spelled frame same spelled is = let (was, command) = same is in spelled was ∙ ap₂ canonical (sym same_version) (sym command)

-- ---- one file

pub more_with : (override : Override) (items : List Item) (item : Item) → items_with override items ++ overridden_as override item ∷ [] ≡ items_with override (items ++ item ∷ [])
more_with override items item = sym (map-append (overridden_as override) items (item ∷ []))

-- What holds of all its items and any after them, and of those before the limit and any after them,
-- holds of what is read.
pub any_read : (P : List Item → Type 0) (override : Override) (file : ℕ) (bytes : List ℕ) (more : Limited)
    → ((extra : List Item) → P (items_with override (reads file bytes).items ++ extra)) → ((extra : List Item) → P (items_with override (reads file (take limit bytes)).items ++ extra))
    → P (then_others (read_with override (file_read file bytes)) more).items
any_read P override file bytes more all front =
    by_stop (items_with override (file_read file bytes).items) (file_read file bytes).stop
    (read_either (λ items. (extra : List Item) → P (items_with override items ++ extra)) file bytes all front)
  where
    by_stop : (items : List Item) (stop : Stop) → ((extra : List Item) → P (items ++ extra)) → P (then_others (record { items = items; stop = stop }) more).items
    by_stop items AtEnd p = p more.items
    by_stop items (AtFault verdict) p = subst P (append-nil items) (p [])
    by_stop items (AtLimit number) p = subst P (append-nil items) (p [])

-- ---- several files

split : (file : ℕ) (bytes : List ℕ) (files : List (List ℕ)) → limited_from file (bytes ∷ files) ≡ then_others (file_read file bytes) (limited_from (file + 1) files)
unfolding limited_from
split file bytes files =
    read_is file bytes files ∙ by_long (is_too_long file bytes) ∙ ap (λ (l : Limited). then_others l more) (sym (read_is file bytes []))
  where
    more : Limited
    more = limited_from (file + 1) files

    by_end : (items : List Item) (ending : Ending) → then_limited items ending more ≡ then_others (then_limited items ending nothing_more) more
    by_end items Whole = ap (λ (is : List Item). then_read is more) (sym (append-nil items))
    by_end items (Faulty verdict) = refl

    by_long : (b : Bool) → by_length b file bytes more ≡ then_others (by_length b file bytes nothing_more) more
    by_long true = refl
    by_long false = by_end (reads file bytes).items (reads file bytes).end

-- All items of a file have what is said in front of it.
file_with : (overrides : Overrides) (file : ℕ) (bytes : List ℕ) → overridden_limited overrides (file_read file bytes) ≡ read_with (override_for overrides file) (file_read file bytes)
file_with overrides file bytes =
    let at : List Item → Limited = λ items. record { items = items; stop = (file_read file bytes).stop } in
    let items_of : Reading → List Item = λ r. r.items in
    ap at (read_either (λ items. overridden_items overrides items ≡ map (overridden_as (override_for overrides file)) items) file bytes
    (ap items_of (file_has_one_override overrides file bytes)) (ap items_of (file_has_one_override overrides file (take limit bytes))))

-- So the first of several is read with its own, and then the others with theirs.
pub split_with : (overrides : Overrides) (file : ℕ) (bytes : List ℕ) (files : List (List ℕ))
    → overridden_limited overrides (limited_from file (bytes ∷ files)) ≡ then_others (read_with (override_for overrides file) (file_read file bytes)) (overridden_limited overrides (limited_from (file + 1) files))
split_with overrides file bytes files =
    ap (overridden_limited overrides) (split file bytes files)
    ∙ by_stop (file_read file bytes).items (file_read file bytes).stop
    ∙ ap (λ (l : Limited). then_others l (overridden_limited overrides more)) (file_with overrides file bytes)
  where
    more : Limited
    more = limited_from (file + 1) files

    by_stop : (items : List Item) (stop : Stop) → overridden_limited overrides (then_others (record { items = items; stop = stop }) more) ≡ then_others (overridden_limited overrides (record { items = items; stop = stop })) (overridden_limited overrides more)
    by_stop items AtEnd = ap (λ (is : List Item). record { items = is; stop = more.stop }) (map-append (overridden_item overrides) items more.items)
    by_stop items (AtFault verdict) = refl
    by_stop items (AtLimit number) = refl
