-- Lawful stores: what every store is that streams were received into, starting from an empty one.
-- This program's own, of what inode(7) and xattr(7) say of names and files.
use Rattle.std.specs.Prelude.{◌≡◌, ℕ, true, List, length, Option, None, Some, Result, Ok}
use Rattle.std.specs.List.{AllByRecursion}
use Rattle.send_model.specs.Refusal.{Refusal}
use Rattle.send_model.specs.Attribute.{IsBytes}
use Rattle.send_model.specs.Command.{Command}
use Rattle.send_model.specs.Spelling.{IsSpellable}
use Rattle.send_model.specs.Reading.{Item, Whole, input}
use Rattle.send_model.specs.Path.{is_name}
use Rattle.send_model.specs.Subvolume.{Subvolume, IsLawful}
use Rattle.send_model.specs.Edit.{edit}
use Rattle.send_model.specs.Store.{Key, Entry, Store, IsStore, completed}
use Rattle.send_model.specs.Receive.{IsAccepted, bytes_of, byte_cells, start_of, run_items, receive}
use Rattle.send_model.specs.Order.{IsConsecutive}
use Rattle.send_model.specs.Outside.{IsSayable, FindsSayable, base, AllSayable, store_without}
use Rattle.send_model.specs.Headline.{IsComposed, output_for}

-- The contents of an entry, if it is complete, can be said.
abbrev pub HasSayable : Option (Subvolume ℕ) → Type 0
HasSayable None = Unit {0}
HasSayable (Some s) = IsSayable s

pub record IsLawfulEntry (e : Entry (Subvolume ℕ)) : Type 0 where
  pub name : is_name e.name ≡ true
  pub uuid : (length e.key.uuid ≡ 16) × IsBytes e.key.uuid
  pub contents : HasSayable e.contents

-- A lawful store: no name and no uuid stands twice, each is a lawful one, and each complete
-- subvolume is lawful, of bytes, with no file too big.
pub record IsLawfulStore (store : Store ℕ) : Type 0 where
  pub distinct : IsStore store
  pub entries : AllByRecursion IsLawfulEntry store

-- ---- laws

-- A change that may be refused makes a lawful subvolume of each lawful one that it takes.
abbrev pub KeepsLawfulness : {C : Type 0} → (Subvolume C → Result (Subvolume C) Refusal) → Type 0
KeepsLawfulness change = (s after : Subvolume _) → IsLawful s → change s ≡ Ok after → IsLawful after

-- An edit by a command that a version can say makes a subvolume that can be said of each that can.
abbrev pub EditsKeepSayable : Type 0
EditsKeepSayable =
    (version : ℕ) (c : Command) (s after : Subvolume ℕ) → IsSpellable version c → IsSayable s
    → edit 0 (bytes_of c) c s ≡ Ok after → IsSayable after

-- Whatever is received into a lawful store leaves a lawful one, wherever it ends.
abbrev pub ReceivedIsLawful : Type 0
ReceivedIsLawful =
    (store : Store ℕ) (items : List Item) → IsLawfulStore store
    → AllByRecursion (λ item. IsSpellable item.version item.command) items
    → IsLawfulStore (completed (run_items 0 byte_cells (start_of store) items).state)
    × IsLawfulStore (run_items 0 byte_cells (start_of store) items).state.store

-- So it is of files of bytes.
abbrev pub FilesLeaveLawful : Type 0
FilesLeaveLawful =
    (store : Store ℕ) (files : List (List ℕ)) → IsLawfulStore store → AllByRecursion IsBytes files
    → IsLawfulStore (completed (receive store files).state)
    × IsLawfulStore (receive store files).state.store

-- What a lawful store finds can be said, whatever entries are left out: it meets what the headline
-- asks of a base.
abbrev pub LawfulFindsSayable : Type 0
LawfulFindsSayable =
    (store : Store ℕ) (files : List (List ℕ)) (keys : List Key) → IsLawfulStore store
    → FindsSayable (base store files) keys

-- Each complete subvolume of a lawful store can be said, and so each of what is left of it without
-- some uuids: it meets what composing over a base asks.
abbrev pub LawfulAllSayable : Type 0
LawfulAllSayable =
    (store : Store ℕ) → IsLawfulStore store
    → AllSayable store × ((uuids : List (List ℕ)) → AllSayable (store_without uuids store))

-- The headline over a lawful store.
abbrev pub LawfulStoresHold : Type 0
LawfulStoresHold =
    (store : Store ℕ) (files : List (List ℕ)) → IsLawfulStore store → AllByRecursion IsBytes files
    → (input files).end ≡ Whole
    → IsConsecutive (input files).items → IsAccepted (receive (base store files) files)
    → IsComposed (base store files) files (output_for None (base store files) files)
