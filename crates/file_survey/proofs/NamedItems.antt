-- The items of a file with what is said in front of it, and what is seen of one of them.
use Rattle.std.specs.Prelude.{◌≡◌, ℕ, Bool, ◌||◌, true, false, List, [], ◌∷◌, ◌++◌, map, drop, Option, None, Some, IfSome, option_map, is_some, if◌then◌else◌}
use Rattle.std.specs.List.{AllByRecursion}
use Rattle.std.proofs.Common.{refl, sym, ap, ap₂, subst, ◌∙◌, append-nil}
use Rattle.std.proofs.lemmas.List.{map-append}
use Rattle.send_model.specs.Command.{Command, Subvol, Snapshot, Clone}
use Rattle.send_model.specs.Reading.{Item, Reading, Ending, is_version, with_item, reads}
use Rattle.send_model.specs.Store.{Key, Head, head_of}
use Rattle.send_model.specs.Outside.{is_among, keys_named}
use Rattle.send_model.specs.Laws.{CanWrite}
use Rattle.send_model.specs.Overridden.{Override, with_name, with_parents, command_as, Overrides, uuids_of, override_for, overridden_as, overridden_item, overridden_items}
use Rattle.send_model.proofs.OverriddenByFile.{file_has_one_override}
use Rattle.send_model.proofs.Overriding.{Ignores, command_ignores, names_none, no_head_named}
use Rattle.send_model.proofs.Sorts.{same_inside}
use Rattle.send_commands.specs.declared.command.Command as made
use Rattle.send_commands.specs.Meaning.{meaning_of}
use Rattle.cmd_reader.specs.Mentions.{as_mention, tells_of_parts, is_any}
use Rattle.file_survey.specs.Ahead.{then_reading}

-- ---- the items of a file

abbrev first_or : Item → List Item → Item
first_or item [] = item
first_or item (x ∷ xs) = x

front_same : (f g : Item → Item) (items more : List Item) → map f (items ++ more) ≡ map g (items ++ more) → map f items ≡ map g items
front_same f g [] more e = refl
front_same f g (item ∷ items) more e =
    ap₂ (λ (x : Item) (xs : List Item). x ∷ xs) (ap (first_or (f item)) e) (front_same f g items more (ap (drop 1) e))

-- The first items of a file have what is said in front of it.
pub front_with : (overrides : Overrides) (file : ℕ) (bytes : List ℕ) (items : List Item) (rest : Reading) → reads file bytes ≡ then_reading items rest → overridden_items overrides items ≡ map (overridden_as (override_for overrides file)) items
front_with overrides file bytes items rest read =
    front_same (overridden_item overrides) (overridden_as (override_for overrides file)) items rest.items
    (subst (λ (r : Reading). overridden_items overrides r.items ≡ map (overridden_as (override_for overrides file)) r.items) read (ap (λ (r : Reading). r.items) (file_has_one_override overrides file bytes)))

next_same : (f g : Item → Item) (items : List Item) (item : Item) (more : List Item) → map f (items ++ item ∷ more) ≡ map g (items ++ item ∷ more) → f item ≡ g item
next_same f g [] item more e = ap (first_or (f item)) e
next_same f g (x ∷ items) item more e = next_same f g items item more (ap (drop 1) e)

-- And so has the next one.
pub next_with : (overrides : Overrides) (file : ℕ) (bytes : List ℕ) (items : List Item) (item : Item) (more rest : Reading) → reads file bytes ≡ then_reading items rest → rest ≡ with_item item more → overridden_item overrides item ≡ overridden_as (override_for overrides file) item
next_with overrides file bytes items item more rest read front =
    next_same (overridden_item overrides) (overridden_as (override_for overrides file)) items item more.items
    (subst (λ (r : Reading). overridden_items overrides r.items ≡ map (overridden_as (override_for overrides file)) r.items) (read ∙ ap (then_reading items) front) (ap (λ (r : Reading). r.items) (file_has_one_override overrides file bytes)))

-- Items, and then the first ones of a file.
pub both_with : (overrides : Overrides) (file : ℕ) (bytes : List ℕ) (items more : List Item) (rest : Reading) → reads file bytes ≡ then_reading more rest
    → overridden_items overrides (items ++ more) ≡ overridden_items overrides items ++ map (overridden_as (override_for overrides file)) more
both_with overrides file bytes items more rest read =
    map-append (overridden_item overrides) items more ∙ ap (λ (xs : List Item). overridden_items overrides items ++ xs) (front_with overrides file bytes more rest read)

-- A whole file is the first items of it, and then nothing.
pub then_nothing : (read : Reading) (items : List Item) (ending : Ending) → read ≡ record { items = items; end = ending } → read ≡ then_reading items (record { items = []; end = ending })
then_nothing read items ending e = e ∙ ap (λ (xs : List Item). record { items = xs; end = ending }) (sym (append-nil items))

-- ---- one item

pub version_with : (override : Override) (item : Item) → (overridden_as override item).version ≡ item.version
version_with override item = refl

-- What tells of no part is no head and names nothing.
pub no_head : (command : Command) → tells_of_parts command ≡ false → head_of command ≡ None
no_head command e = by_head (head_of command) e
  where
    by_head : (o : Option Head) → is_some o || is_any (keys_named command) ≡ false → o ≡ None
    by_head None e = refl
    by_head (Some head) e = cc

no_keys : (command : Command) → tells_of_parts command ≡ false → keys_named command ≡ []
no_keys command e = by_head (is_some (head_of command)) (keys_named command) e
  where
    by_head : (b : Bool) (keys : List Key) → (b || is_any keys) ≡ false → keys ≡ []
    by_head false [] e = refl
    by_head false (key ∷ keys) e = cc
    by_head true keys e = cc

-- So nothing that is said changes it.
other_same : (override : Override) (command : Command) → tells_of_parts command ≡ false → command_as override command ≡ command
other_same override command e =
    ap (with_parents override.parents) (no_head_named override.name command (no_head command e))
    ∙ names_none override.parents command (subst (λ (keys : List Key). AllByRecursion (λ named. is_among (uuids_of override.parents) named.uuid ≡ false) keys) (sym (no_keys command e)) tt)

tells_ignore : Ignores tells_of_parts
tells_ignore = record { names = names; parents = parents }
  where
    names : (name : List ℕ) (c : Command) → tells_of_parts (with_name name c) ≡ tells_of_parts c
    names name (Subvol uuid ctransid path) = refl
    names name (Snapshot uuid ctransid path clone_uuid clone_ctransid) = refl
    names name c = refl

    parents : (keys : List Key) (c : Command) → tells_of_parts (with_parents keys c) ≡ tells_of_parts c
    parents keys (Snapshot uuid ctransid path clone_uuid clone_ctransid) = refl
    parents keys (Clone path offset clone_uuid clone_ctransid clone_path clone_offset clone_len) = refl
    parents keys c = refl

-- What is mentioned of a command with what is said is what is mentioned of the command, with what
-- is said.
mention_with : (override : Override) (command : Command) → as_mention (command_as override command) ≡ option_map (command_as override) (as_mention command)
mention_with override command =
    ap (λ (b : Bool). if b then Some (command_as override command) else None) (command_ignores tells_of_parts tells_ignore override command) ∙ one (tells_of_parts command)
  where
    one : (b : Bool) → (if b then Some (command_as override command) else None) ≡ option_map (command_as override) (if b then Some command else None)
    one true = refl
    one false = refl

pub mention_is : (override : Override) (item : Item) (old new : Option made.Command) → option_map meaning_of old ≡ as_mention item.command → option_map meaning_of new ≡ option_map (command_as override) (option_map meaning_of old)
    → option_map meaning_of new ≡ as_mention (overridden_as override item).command
mention_is override item old new is meant = meant ∙ ap (option_map (command_as override)) is ∙ sym (mention_with override item.command)

-- A version that can say the command can say it with what is said.
pub item_can_write : (override : Override) (item : Item) (old new : Option made.Command) → option_map meaning_of old ≡ as_mention item.command → option_map meaning_of new ≡ option_map (command_as override) (option_map meaning_of old)
    → (IfSome old (λ c. CanWrite item.version (meaning_of c)) → IfSome new (λ c. CanWrite item.version (meaning_of c))) → CanWrite item.version item.command → CanWrite item.version (command_as override item.command)
item_can_write override item old new is meant fits can = by_mention (tells_of_parts item.command) refl old new is meant fits
  where
    by_mention : (tells : Bool) → tells_of_parts item.command ≡ tells → (o p : Option made.Command) → option_map meaning_of o ≡ (if tells then Some item.command else None)
        → option_map meaning_of p ≡ option_map (command_as override) (option_map meaning_of o)
        → (IfSome o (λ c. CanWrite item.version (meaning_of c)) → IfSome p (λ c. CanWrite item.version (meaning_of c))) → CanWrite item.version (command_as override item.command)
    by_mention false t o p e f g = subst (CanWrite item.version) (sym (other_same override item.command t)) can
    by_mention true t None p e f g = cc
    by_mention true t (Some c) None e f g = cc
    by_mention true t (Some c) (Some d) e f g =
        let same : meaning_of c ≡ item.command = same_inside e in
        let new_same : meaning_of d ≡ command_as override (meaning_of c) = same_inside f in
        subst (CanWrite item.version) (new_same ∙ ap (command_as override) same) (g (subst (CanWrite item.version) (sym same) can))

-- Each item that is read has a version that is read, which can say its command with what is said.
pub item_readable : (override : Override) (item : Item) → CanWrite item.version (command_as override item.command) → is_version item.version ≡ true
    → CanWrite (overridden_as override item).version (overridden_as override item).command × (is_version (overridden_as override item).version ≡ true)
item_readable override item can version = (can, version)
