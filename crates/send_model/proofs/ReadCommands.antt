-- What is read from bytes can be written: each command of files can be spelled.
use Rattle.std.specs.Prelude.{◌≡◌, ℕ, zero, suc, ◌+◌, ◌-◌, ◌<◌, ◌==◌, Bool, true, false, List, [], ◌∷◌, ◌++◌, length, take, drop, Result, Ok, Err, nat_le, if◌then◌else◌}
use Rattle.std.specs.List.{AllByRecursion, list_any}
use Rattle.std.specs.Str.{bytes_eq}
use Rattle.std.proofs.Common.{refl, sym, ap, subst, ◌∙◌, eq-eqb, inl, inr, ⊎_elim}
use Rattle.std.proofs.lemmas.Bool.{true≢false}
use Rattle.send_model.specs.Refusal.{Refusal, Truncated, BadMagic, BadVersion}
use Rattle.send_model.specs.Attribute.{IsBytes}
use Rattle.send_model.specs.Command.{Command, End, row, kind_of}
use Rattle.send_model.specs.Spelling.{magic, IsSpellable}
use Rattle.send_model.specs.Reading.{Item, Reading, Ending, Whole, Faulty, Due, HeaderDue, CommandDue, Front, due_after, may_end, with_item, go_on, ended, joined, front_of, is_version, stream_version, header_len, number32, reads_from, reads, input_from, input}
use Rattle.send_model.specs.Order.{commands_of}
use Rattle.send_model.specs.Composed.{version_of}
use Rattle.send_model.specs.Laws.{CanWrite}
use Rattle.send_model.proofs.Fuel.{required, ok_same}
use Rattle.send_model.proofs.Stores.{or_parts}
use Rattle.send_model.proofs.Sound.{bytes_drop}
use Rattle.send_model.proofs.Versions.{IsVersion, known_version}
use Rattle.send_model.proofs.Canonical.{second_says_more, spelled_spellable}
use Rattle.send_model.proofs.ReadSpelled.{read_was_spelled}
use Rattle.send_model.proofs.ElementLaws.{all_rest}

-- Items of versions that are read, each of which can be written in its own version.
abbrev pub IsReadable : Item → Type 0
IsReadable item = CanWrite item.version item.command × (is_version item.version ≡ true)

abbrev pub AreWritable : List Item → Type 0
AreWritable items = AllByRecursion IsReadable items

front_writable : (file version number offset : ℕ) (bytes : List ℕ) (front : Front) → is_version version ≡ true → IsBytes bytes → front_of file version number offset bytes ≡ Ok front → IsReadable front.item × IsBytes front.rest
front_writable file version number offset bytes front read are e =
    let w = read_was_spelled file version number offset bytes front are e in
    let at : front.item.version ≡ version = ap (λ (i : Item). i.version) w.item_is in
    let can : CanWrite version front.item.command = record { spellable = spelled_spellable version w.frame front.item.command w.spells } in (
      (subst (λ (v : ℕ). CanWrite v front.item.command) (sym at) can, ap is_version at ∙ read),
      all_rest (λ (b : ℕ). b < 256) w.frame front.rest (subst (λ (bs : List ℕ). IsBytes bs) w.whole are),
    )

by_result : {A : Type 0} (more : A → Reading) (stop : Refusal → Reading) (r : Result A Refusal) → ((x : A) → r ≡ Ok x → AreWritable (more x).items) → ((refusal : Refusal) → AreWritable (stop refusal).items) → AreWritable (go_on more stop r).items
by_result more stop (Ok x) m s = m x refl
by_result more stop (Err refusal) m s = s refusal

item_then : (item : Item) (r : Reading) (b : Bool) → IsReadable item → AreWritable r.items → AreWritable (with_item item (if b then ended else r)).items
item_then item r true w more = (w, tt)
item_then item r false w more = (w, more)

-- A header says a version that is read.
pub header_version : (bytes : List ℕ) (version : ℕ) → stream_version bytes ≡ Ok version → is_version version ≡ true
unfolding stream_version
header_version bytes version e =
    let own : ℕ = number32 (drop 13 bytes) in
    let a = required (nat_le header_len (length bytes)) Truncated _ version e in
    let b = required (bytes_eq (take 13 bytes) magic) BadMagic _ version a.1 in
    let c = required (is_version own) (BadVersion own) (Ok own) version b.1 in
    ap is_version (sym (ok_same c.1)) ∙ c.0

-- What is due is of a version that is read.
abbrev pub DueIsRead : Due → Type 0
DueIsRead HeaderDue = Unit {0}
DueIsRead (CommandDue version) = is_version version ≡ true

pub due_is_read : (version : ℕ) (c : Command) → is_version version ≡ true → DueIsRead (due_after version c)
due_is_read version End e = tt
due_is_read version c e = e

pub reads_writable : (n file : ℕ) (due : Due) (number offset : ℕ) (bytes : List ℕ) → DueIsRead due → IsBytes bytes → AreWritable (reads_from n file due number offset bytes).items
unfolding reads_from
reads_writable zero file due number offset bytes read are = tt
reads_writable (suc n) file HeaderDue number offset bytes read are =
    by_result _ _ (stream_version bytes) (λ version e. reads_writable n file (CommandDue version) number (offset + header_len) (drop header_len bytes) (header_version bytes version e) (bytes_drop header_len bytes are)) (λ refusal. tt)
reads_writable (suc n) file (CommandDue version) number offset bytes read are =
    by_result _ _ (front_of file version number offset bytes)
    (λ front e. let w = front_writable file version number offset bytes front read are e in
    item_then front.item (reads_from n file (due_after version front.item.command) (number + 1) (offset + (length bytes - length front.rest)) front.rest) (may_end (due_after version front.item.command) front.rest) w.0
    (reads_writable n file (due_after version front.item.command) (number + 1) (offset + (length bytes - length front.rest)) front.rest (due_is_read version front.item.command read) w.1)) (λ refusal. tt)

append_writable : (xs ys : List Item) → AreWritable xs → AreWritable ys → AreWritable (xs ++ ys)
append_writable [] ys a b = b
append_writable (x ∷ xs) ys a b = (a.0, append_writable xs ys a.1 b)

joined_writable : (items : List Item) (ending : Ending) (others : Reading) → AreWritable items → AreWritable others.items → AreWritable (joined (record { items = items; end = ending }) others).items
joined_writable items (Faulty verdict) others a b = a
joined_writable items Whole others a b = append_writable items others.items a b

from_writable : (file : ℕ) (files : List (List ℕ)) → AllByRecursion IsBytes files → AreWritable (input_from file files).items
unfolding input_from reads
from_writable file [] are = tt
from_writable file (bytes ∷ files) are =
    let first = reads file bytes in
    joined_writable first.items first.end (input_from (file + 1) files) (reads_writable (suc (length bytes)) file HeaderDue 1 0 bytes tt are.0) (from_writable (file + 1) files are.1)

pub input_writable : (files : List (List ℕ)) → AllByRecursion IsBytes files → AreWritable (input files).items
unfolding input
input_writable files are = from_writable 1 files are

-- ---- in one version

-- What holds of a command in its own version, and then in version 2 too, holds in the version of
-- the composed stream.
in_second : (P : ℕ → Command → Type 0) → ((v : ℕ) (c : Command) → P v c → P 2 c) → (items : List Item) → AllByRecursion (λ item. P item.version item.command) items → AllByRecursion (P 2) (commands_of items)
in_second P later [] all = tt
in_second P later (item ∷ items) all = (later item.version item.command all.0, in_second P later items all.1)

in_first : (P : ℕ → Command → Type 0) → ((v : ℕ) (c : Command) → P v c → IsVersion v) → (items : List Item) → list_any (λ item. item.version == 2) items ≡ false
    → AllByRecursion (λ item. P item.version item.command) items → AllByRecursion (P 1) (commands_of items)
in_first P has [] none all = tt
in_first P has (item ∷ items) none all =
    let parts = or_parts (item.version == 2) (list_any (λ i. i.version == 2) items) none in
    let first : item.version ≡ 1 = ⊎_elim (λ e. e) (λ e. absurd (true≢false (sym (eq-eqb item.version 2 e) ∙ parts.0))) (has item.version item.command all.0) in
    (subst (λ (v : ℕ). P v item.command) first all.0, in_first P has items parts.1 all.1)

pub in_output : (P : ℕ → Command → Type 0) → ((v : ℕ) (c : Command) → P v c → P 2 c) → ((v : ℕ) (c : Command) → P v c → IsVersion v) → (items : List Item)
    → AllByRecursion (λ item. P item.version item.command) items → AllByRecursion (P (version_of items)) (commands_of items)
unfolding version_of
in_output P later has items all = one (list_any (λ item. item.version == 2) items) refl
  where
    one : (b : Bool) → list_any (λ item. item.version == 2) items ≡ b → AllByRecursion (P (if b then 2 else 1)) (commands_of items)
    one true e = in_second P later items all
    one false e = in_first P has items e all

pub is_output : (items : List Item) → IsVersion (version_of items)
unfolding version_of
is_output items = one (list_any (λ item. item.version == 2) items)
  where
    one : (b : Bool) → IsVersion (if b then 2 else 1)
    one true = inr refl
    one false = inl refl

spelled_second : (v : ℕ) (c : Command) → IsSpellable v c → IsSpellable 2 c
spelled_second v c s = ⊎_elim (λ e. second_says_more c (subst (λ (x : ℕ). IsSpellable x c) e s)) (λ e. subst (λ (x : ℕ). IsSpellable x c) e s) (known_version v (row (kind_of c)).number (kind_of c) s.known)

pub write_second : (v : ℕ) (c : Command) → CanWrite v c → CanWrite 2 c
write_second v c w = record { spellable = spelled_second v c w.spellable }

-- The items' commands can be spelled, and written, in the version of the composed stream.
pub spelled_in_output : (items : List Item) → AllByRecursion (λ item. IsSpellable item.version item.command) items → AllByRecursion (IsSpellable (version_of items)) (commands_of items)
spelled_in_output items all = in_output IsSpellable spelled_second (λ v c s. known_version v (row (kind_of c)).number (kind_of c) s.known) items all

pub writable_in_output : (items : List Item) → AreWritable items → AllByRecursion (CanWrite (version_of items)) (commands_of items)
writable_in_output items all = in_output CanWrite write_second (λ v c w. let s = w.spellable in known_version v (row (kind_of c)).number (kind_of c) s.known) items (first_parts items all)
  where
    first_parts : (is : List Item) → AreWritable is → AllByRecursion (λ item. CanWrite item.version item.command) is
    first_parts [] all = tt
    first_parts (item ∷ is) all = (all.0.0, first_parts is all.1)

-- The composed stream has a version that is read.
pub output_is_read : (items : List Item) → AreWritable items → is_version (version_of items) ≡ true
unfolding version_of
output_is_read items all = one (list_any (λ item. item.version == 2) items)
  where
    one : (b : Bool) → is_version (if b then 2 else 1) ≡ true
    one true = refl
    one false = refl
