-- What is known of the commands of a file and of files: what the loops over them keep, and what
-- holds at each of their ends.
use Rattle.std.specs.Prelude.{◌≡◌, ℕ, ◌+◌, ◌<◌, ◌≤◌, ◌==◌, ◌||◌, Bool, true, false, List, [], ◌∷◌, ◌++◌, map, length, take, drop, Option, None, Some, Result, Ok, Err, slice_index_or, String, IfSome, option_map, is_some, if◌then◌else◌}
use Rattle.std.specs.List.{list_any}
use Rattle.std.specs.String.{string_bytes}
use Rattle.std.proofs.Common.{refl, sym, ap, subst, ◌∙◌, append-nil, append_assoc, arith}
use Rattle.std.proofs.lemmas.List.{drop_all, map-append}
use Rattle.send_model.specs.Command.{Command}
use Rattle.send_model.specs.Reading as reading
use Rattle.send_model.specs.Reading.{Item, Reading, Whole, Faulty, is_version, ended, reads, input}
use Rattle.send_model.specs.Store.{Key, Head, head_of}
use Rattle.send_model.specs.Receive.{first_of}
use Rattle.send_model.specs.Order.{heads, heads_of, onto_heads, commands_of}
use Rattle.send_model.specs.Outside.{part_uuids, is_among, keys_named}
use Rattle.send_model.specs.Composed.{last_head, version_of}
use Rattle.send_model.specs.Laws.{CanWrite}
use Rattle.send_model.specs.Lengths.{limit, only_ends, too_long}
use Rattle.send_model.specs.Overridden.{Override, Overrides, override_for, overridden_as, overridden_items, overridden}
use Rattle.send_model.proofs.Composed.{last_there}
use Rattle.send_model.proofs.Sorts.{same_inside}
use Rattle.sx_base.specs.Outside.{file_at}
use Rattle.sx_base.specs.Refusals.{refusal_of, verdict_meant}
use Rattle.sx_base.specs.Calls.{contents, IfAllTold}
use Rattle.sx_base.specs.declared.outcome.Verdict.{Verdict}
use Rattle.sx_base.specs.declared.outcome.Outcome.{Outcome}
use Rattle.sx_base.specs.declared.outcome.Outcome.TheVariants as ended_by
use Rattle.send_commands.specs.declared.command.Command as made
use Rattle.send_commands.specs.Meaning.{meaning_of}
use Rattle.send_commands.specs.Writing.{IsWritable}
use Rattle.cmd_reader.specs.declared.item.Glance.{Glance}
use Rattle.cmd_reader.specs.declared.item.ReadStop.{ReadStop}
use Rattle.cmd_reader.specs.declared.item.ReadStop.TheVariants as stop
use Rattle.cmd_reader.specs.Places.{IfTold}
use Rattle.cmd_reader.specs.Fronts.{IsRefused, IsLongAt}
use Rattle.cmd_reader.specs.Left.{Reader, at_start, left}
use Rattle.cmd_reader.specs.Next.{HasEnded, IsFaulty, OnlyEnds, GoesOn, IfItem}
use Rattle.cmd_reader.specs.Mentions.{as_mention, tells_of_parts, is_any}
use Rattle.cmd_reader.specs.Glances.{IsGlance, GlanceSays, GlanceFits}
use Rattle.cmd_reader.proofs.Aheads.{says_end, glance_is}
use Rattle.cmd_reader.proofs.Told.{Here, told_both, told_always, told_here, told_moved, told_next}
use Rattle.send_model.specs.Overridden.{command_as}
use Rattle.file_survey.specs.Ahead.{IsAhead, then_reading}
use Rattle.cmd_reader.specs.Stopping.{outcome_at}
use Rattle.file_survey.specs.Findings.{Surveyed, nothing_seen, uuid_in, joined_by, uuids_named, all_uuids_named, with_head, with_named, with_version, after_command, seen_head, seen_named, after_glance, after_items, AreReadable, FileRead, FileStop, FileEnd, AllRead, SurveyStop, SurveyEnd}
use Rattle.file_survey.proofs.AheadSteps.{ahead_start, ahead_whole, ahead_fault}
use Rattle.send_model.proofs.TooLong.{short_fits, fault_fits, long_is}
use Rattle.file_survey.proofs.TooLong.{LongAhead, long_start, long_end, long_next, long_fault, long_here}
use Rattle.sx_base.proofs.NamedFiles.{file_there, count_of_files}
use Rattle.file_survey.proofs.FilesAhead.{then_then, ahead_file}
use Rattle.file_survey.specs.NamedGlances.{IsMeantGlance}
use Rattle.file_survey.proofs.NamedItems.{both_with, then_nothing, version_with, no_head, mention_is, item_can_write, item_readable}

-- ---- commands and more commands

pub readable_both : (items more : List Item) → AreReadable items → AreReadable more → AreReadable (items ++ more)
readable_both [] more w v = v
readable_both (item ∷ items) more w v = (w.0, readable_both items more w.1 v)

first_then : (o p q : Option Head) → first_of (first_of o p) q ≡ first_of o (first_of p q)
first_then None p q = refl
first_then (Some x) p q = refl

first_alone : (o : Option Head) → o ≡ first_of o None
first_alone None = refl
first_alone (Some x) = refl

last_onto : (o : Option Head) (hs : List Head) → last_head (onto_heads o hs) ≡ first_of (last_head hs) o
last_onto None hs = first_alone (last_head hs)
last_onto (Some head) [] = refl
last_onto (Some head) (next ∷ hs) = let l = last_there next hs in l.1 ∙ sym (ap (λ (o : Option Head). first_of o (Some head)) l.1)

uuids_onto : (o : Option Head) (hs : List Head) → map (λ head. head.key.uuid) (onto_heads o hs) ≡ uuid_in o ++ map (λ head. head.key.uuid) hs
uuids_onto None hs = refl
uuids_onto (Some head) hs = refl

any_or : (a b : Bool) (before : ℕ) → (if a || b then 2 else before) ≡ (if b then 2 else (if a then 2 else before))
any_or true true before = refl
any_or true false before = refl
any_or false b before = refl

-- Uuids, and then more of them.
joined_both : (known uuids more : List (List ℕ)) → joined_by known (uuids ++ more) ≡ joined_by (joined_by known uuids) more
joined_both known [] more = refl
joined_both known (uuid ∷ uuids) more = joined_both (if is_among known uuid then known else (known ++ uuid ∷ [])) uuids more

-- No items change nothing.
pub after_none : (now : Surveyed) → after_items now [] ≡ now
unfolding heads_of
after_none now = ap (λ (parts : List (List ℕ)). record { parts = parts; named = now.named; version = now.version; last = now.last }) (append-nil now.parts)

-- An item, and then others.
after_front : (now : Surveyed) (item : Item) (items : List Item) → after_items now (item ∷ items) ≡ after_items (after_command now item.version item.command) items
unfolding heads_of
after_front now item items =
    ap (λ (parts : List (List ℕ)). record { parts = parts; named = named; version = if (item.version == 2) || any then 2 else now.version; last = first_of (last_head (onto_heads head hs)) now.last })
    (ap (λ (uuids : List (List ℕ)). now.parts ++ uuids) (uuids_onto head hs) ∙ sym (append_assoc now.parts (uuid_in head) (part_uuids items)))
    ∙ ap (λ (version : ℕ). record { parts = (now.parts ++ uuid_in head) ++ part_uuids items; named = named; version = version; last = first_of (last_head (onto_heads head hs)) now.last }) (any_or (item.version == 2) any now.version)
    ∙ ap (λ (last : Option Head). record { parts = (now.parts ++ uuid_in head) ++ part_uuids items; named = named; version = if any then 2 else (if item.version == 2 then 2 else now.version); last = last })
    (ap (λ (o : Option Head). first_of o now.last) (last_onto head hs) ∙ first_then (last_head hs) head now.last)
    ∙ ap (λ (uuids : List (List ℕ)). record { parts = (now.parts ++ uuid_in head) ++ part_uuids items; named = uuids; version = if any then 2 else (if item.version == 2 then 2 else now.version); last = first_of (last_head hs) (first_of head now.last) })
    (joined_both now.named (uuids_named item.command) (all_uuids_named (commands_of items)))
  where
    named : List (List ℕ)
    named = joined_by now.named (all_uuids_named (commands_of (item ∷ items)))

    head : Option Head
    head = head_of item.command

    hs : List Head
    hs = heads items

    any : Bool
    any = list_any (λ i. i.version == 2) items

-- Items, and then others.
pub after_both : (items more : List Item) (now : Surveyed) → after_items now (items ++ more) ≡ after_items (after_items now items) more
after_both [] more now = ap (λ (s : Surveyed). after_items s more) (sym (after_none now))
after_both (item ∷ items) more now =
    after_front now item (items ++ more) ∙ after_both items more (after_command now item.version item.command)
    ∙ ap (λ (s : Surveyed). after_items s more) (sym (after_front now item items))

-- One item.
pub after_one : (now : Surveyed) (item : Item) → after_items now (item ∷ []) ≡ after_command now item.version item.command
after_one now item = after_front now item [] ∙ after_none (after_command now item.version item.command)

-- ---- what a reader sees

-- What tells of no part names nothing.
none_named : (command : Command) → tells_of_parts command ≡ false → uuids_named command ≡ []
none_named command e = by_keys (is_some (head_of command)) (keys_named command) e
  where
    by_keys : (b : Bool) (keys : List Key) → b || is_any keys ≡ false → map (λ key. key.uuid) keys ≡ []
    by_keys b [] e = refl
    by_keys true (key ∷ keys) e = cc
    by_keys false (key ∷ keys) e = cc

-- The head of a command of which nothing else was made, and what it names.
seen_is : (o : Option made.Command) (command : Command) → option_map meaning_of o ≡ as_mention command → (seen_head o ≡ head_of command) × (seen_named o ≡ uuids_named command)
seen_is o command e = by_mention o (tells_of_parts command) refl e
  where
    by_mention : (x : Option made.Command) (tells : Bool) → tells_of_parts command ≡ tells → option_map meaning_of x ≡ (if tells then Some command else None) → (seen_head x ≡ head_of command) × (seen_named x ≡ uuids_named command)
    by_mention None false is q = (sym (no_head command is), sym (none_named command is))
    by_mention None true is q = cc
    by_mention (Some c) false is q = cc
    by_mention (Some c) true is q = (ap head_of (same_inside q), ap uuids_named (same_inside q))

-- What is known after a glance is what is known after the command.
after_seen : (now : Surveyed) (version : ℕ) (o : Option made.Command) (command : Command) → option_map meaning_of o ≡ as_mention command → after_glance now version o ≡ after_command now version command
after_seen now version o command e =
    let seen = seen_is o command e in
    ap (λ (head : Option Head). with_version (with_named (with_head now head) (seen_named o)) version) seen.0
    ∙ ap (λ (uuids : List (List ℕ)). with_version (with_named (with_head now (head_of command)) uuids) version) seen.1

pub glance_writable : (given : Override) (o : Option Glance) (glance named : Glance) (old new : Reader) → o ≡ Some glance → IsMeantGlance given glance named → IfItem (Ok o) (GlanceFits old new)
    → IfSome named.mention (λ command. IsWritable named.version (meaning_of command))
glance_writable given o glance named old new e has fits =
    let f = subst (λ (x : Option Glance). IfItem (Ok x) (GlanceFits old new)) e fits in
    subst (λ (v : ℕ). IfSome named.mention (λ command. IsWritable v (meaning_of command))) (sym has.version) (has.writable glance.version f.writable)

-- ---- the commands of a file

-- These commands of the file were read, with what they say with the name that is given for it, and
-- the reader has not gone past its bytes.
pub record FileSoFar (file : ℕ) (given : Override) (reader : Reader) (old now : Surveyed) (bytes : List ℕ) : Type 0 where
  pub items : List Item
  pub read : reads file bytes ≡ then_reading items (left reader bytes)
  pub writable : AreReadable (map (overridden_as given) items)
  pub seen : now ≡ after_items old (map (overridden_as given) items)
  pub within : reader.offset ≤ length bytes

start_of_file : (file : ℕ) (given : Override) (name : List ℕ) (seen : Surveyed) (bytes : List ℕ) → FileSoFar file given (at_start file name) seen seen bytes
unfolding left reads
start_of_file file given name seen bytes = record { items = []; read = refl; writable = tt; seen = sym (after_none seen); within = omega arith }

-- Before the first command.
pub file_start : (told : Option (List (List ℕ × List ℕ))) (file : ℕ) (given : Override) (name : List ℕ) (reader : Reader) (last : Surveyed) → reader ≡ at_start file name → IfTold told name (FileSoFar file given reader last last)
file_start told file given name reader last is =
    let S : Reader → Type 0 = λ r. IfTold told name (FileSoFar file given r last last) in
    let fresh : Reader = at_start file name in
    subst S (sym is) (told_always told name (FileSoFar file given fresh last last) (λ bytes. start_of_file file given name last bytes))

next_of_file : (file : ℕ) (given : Override) (old new : Reader) (item : Item) (before last now : Surveyed) (bytes : List ℕ) → CanWrite (overridden_as given item).version (overridden_as given item).command × (is_version (overridden_as given item).version ≡ true)
    → now ≡ after_command last (overridden_as given item).version (overridden_as given item).command → FileSoFar file given old before last bytes → GoesOn old new item bytes → FileSoFar file given new before now bytes
next_of_file file given old new item before last now bytes can head h n =
    let this : Item = overridden_as given item in
    let all : List Item = map (overridden_as given) h.items in
    let more : map (overridden_as given) (h.items ++ item ∷ []) ≡ all ++ this ∷ [] = map-append (overridden_as given) h.items (item ∷ []) in
    record {
      items = h.items ++ item ∷ [];
      read = h.read ∙ ap (then_reading h.items) n.left_is ∙ then_then h.items (item ∷ []) (left new bytes);
      writable = subst AreReadable (sym more) (readable_both all (this ∷ []) h.writable (can, tt));
      seen = head ∙ ap (λ (s : Surveyed). after_command s this.version this.command) h.seen ∙ sym (after_one (after_items before all) this) ∙ sym (after_both all (this ∷ []) before)
          ∙ ap (after_items before) (sym more);
      within = n.reached h.within;
    }

-- A command was gone past, and what is seen of it has the name that is given.
pub file_next : (told told_now : Option (List (List ℕ × List ℕ))) (file : ℕ) (given : Override) (name : List ℕ) (old new : Reader) (o : Option Glance) (glance named : Glance) (before last now : Surveyed) (early late : ℕ) → told_now ≡ told → old.name ≡ name → o ≡ Some glance
    → IsMeantGlance given glance named → now ≡ after_glance last named.version named.mention
    → IfTold told name (FileSoFar file given old before last) → GlanceSays told_now old new early late (Ok o) → IfTold told name (FileSoFar file given new before now)
file_next told told_now file given name old new o glance named before last now early late t n is has kept h says =
    told_both told name (FileSoFar file given old before last) (GoesOn old new g.item) (FileSoFar file given new before now)
    (λ bytes so_far goes. next_of_file file given old new g.item before last now bytes (item_readable given g.item can g.read.version) known so_far goes) h
    (told_moved told told_now name old.name (GoesOn old new g.item) t n g.read.next)
  where
    g : IsGlance told_now old new glance
    g = glance_is told_now old new early late o glance is says

    version : named.version ≡ (overridden_as given g.item).version
    version = has.version ∙ sym g.version ∙ sym (version_with given g.item)

    can : CanWrite g.item.version (command_as given g.item.command)
    can = item_can_write given g.item glance.mention named.mention g.mention has.mention (has.can_write g.item.version g.read.version) g.read.can_write

    known : now ≡ after_command last (overridden_as given g.item).version (overridden_as given g.item).command
    known =
        let this : Item = overridden_as given g.item in
        kept ∙ after_seen last named.version named.mention this.command (mention_is given g.item glance.mention named.mention g.mention has.mention) ∙ ap (λ (v : ℕ). after_command last v this.command) version

read_to : (file : ℕ) (given : Override) (reader : Reader) (before last : Surveyed) (bytes : List ℕ) (ending : reading.Ending) (h : FileSoFar file given reader before last bytes) → left reader bytes ≡ record { items = []; end = ending } → reads file bytes ≡ record { items = h.items; end = ending }
read_to file given reader before last bytes ending h is = h.read ∙ ap (then_reading h.items) is ∙ ap (λ (is : List Item). record { items = is; end = ending }) (append-nil h.items)

-- The file ends.
pub file_whole : (told told_now : Option (List (List ℕ × List ℕ))) (file : ℕ) (given : Override) (name : List ℕ) (old new : Reader) (o : Option Glance) (before last : Surveyed) (early late : ℕ) → told_now ≡ told → old.name ≡ name → o ≡ None
    → IfTold told name (FileSoFar file given old before last) → GlanceSays told_now old new early late (Ok o) → IfTold told name (FileRead file given true before last)
file_whole told told_now file given name old new o before last early late t n none h says =
    told_both told name (FileSoFar file given old before last) (HasEnded old) (FileRead file given true before last) by_file h
    (says_end (IsGlance told_now old new) told told_now name old early late o none t n says)
  where
    by_file : (bytes : List ℕ) → FileSoFar file given old before last bytes → HasEnded old bytes → FileRead file given true before last bytes
    by_file bytes h (is, less) = record { items = h.items; ending = Whole; read = read_to file given old before last bytes Whole h is; end_is = refl; writable = h.writable; seen = h.seen; fits = short_fits file bytes less }

-- The file breaks a rule.
pub file_fault : (told told_now : Option (List (List ℕ × List ℕ))) (file : ℕ) (given : Override) (name : List ℕ) (old new : Reader) (verdict : Verdict) (why : ReadStop) (before last : Surveyed) (early late : ℕ) → told_now ≡ told → old.name ≡ name → why ≡ stop.Refused verdict
    → IfTold told name (FileSoFar file given old before last) → GlanceSays told_now old new early late (Err why) → IfTold told name (FileRead file given false before last)
file_fault told told_now file given name old new verdict why before last early late t n refused h says =
    told_both told name (Here (FileSoFar file given old before last)) (Here Broken) (FileRead file given false before last) by_file (told_here told name (FileSoFar file given old before last) h)
    (told_here told name Broken (told_moved told told_now name old.name Broken t n (subst (λ (x : ReadStop). GlanceSays told_now old new early late (Err x)) refused says)))
  where
    Broken : List ℕ → Type 0
    Broken = IsRefused (λ _. IsFaulty old verdict) (refusal_of verdict.refusal)

    by_file : (bytes : List ℕ) → Here (FileSoFar file given old before last) bytes → Here Broken bytes → FileRead file given false before last bytes
    by_file bytes (h, front) (broken, broken_front) =
        let ending : reading.Ending = Faulty (verdict_meant verdict) in
        let ends : (reads file (take limit bytes)).end ≡ ending = ap (λ (r : Reading). r.end) (read_to file given old before last (take limit bytes) ending front broken_front.0) in
        record { items = h.items; ending = ending; read = read_to file given old before last bytes ending h broken.0; end_is = (verdict_meant verdict, refl); writable = h.writable; seen = h.seen; fits = fault_fits file bytes (verdict_meant verdict) broken.1 ends }

-- The file could not be read on.
pub file_stop : (told told_now : Option (List (List ℕ × List ℕ))) (file : ℕ) (given : Override) (name : List ℕ) (old new : Reader) (why : ReadStop) (outcome : Outcome) (before last : Surveyed) (early late : ℕ) → told_now ≡ told → old.name ≡ name → ((verdict : Verdict) → why ≡ stop.Refused verdict → ⊥) → outcome ≡ outcome_at file why
    → IfTold told name (FileSoFar file given old before last) → GlanceSays told_now old new early late (Err why) → IfTold told name (FileStop file outcome)
file_stop told told_now file given name old new why outcome before last early late t n other is h says = subst (λ (x : Outcome). IfTold told name (FileStop file x)) (sym is) (by_why why other says)
  where
    by_file : (bytes : List ℕ) → Here (FileSoFar file given old before last) bytes → IsLongAt old.offset (OnlyEnds old) bytes → FileStop file (ended_by.InputTooLong file) bytes
    by_file bytes (h, front) long =
        let l = long h.within in
        (refl, long_is file bytes l.0 (ap (λ (r : Reading). only_ends r.end) front.read ∙ l.1.1))

    by_why : (x : ReadStop) → ((verdict : Verdict) → x ≡ stop.Refused verdict → ⊥) → GlanceSays told_now old new early late (Err x) → IfTold told name (FileStop file (outcome_at file x))
    by_why (stop.Refused verdict) other says = absurd (other verdict refl)
    by_why stop.InputFault other says = told_always told name (FileStop file ended_by.InputFault) (λ bytes. tt)
    by_why stop.InputTooLong other says =
        told_both told name (Here (FileSoFar file given old before last)) (IsLongAt old.offset (OnlyEnds old)) (FileStop file (ended_by.InputTooLong file)) by_file (told_here told name (FileSoFar file given old before last) h)
        (told_moved told told_now name old.name (IsLongAt old.offset (OnlyEnds old)) t n says)

-- ---- the commands of files

-- These commands of the files up to one with this number were read, with what they say with the
-- names that are given, and none of these files is too long.
pub record FilesSoFar (given : Overrides) (number : ℕ) (last : Surveyed) (files : List (List ℕ)) : Type 0 where
  pub items : List Item
  pub ahead : IsAhead files items ended number (drop number files)
  pub long : LongAhead files number (drop number files)
  pub writable : AreReadable (overridden_items given items)
  pub seen : last ≡ after_items nothing_seen (overridden_items given items)

-- Before the first file.
pub files_start : (given : Overrides) (told : Option (List (List ℕ × List ℕ))) (names : List (List ℕ)) (seen : Surveyed) → seen ≡ nothing_seen → IfAllTold told names (FilesSoFar given 0 seen)
files_start given None names seen is = tt
files_start given (Some table) names seen is = record { items = []; ahead = ahead_start (contents table names); long = long_start (contents table names); writable = tt; seen = is ∙ sym (after_none nothing_seen) }

ahead_both : (given : Overrides) (files : List (List ℕ)) (number : ℕ) (bytes : List ℕ) (whole : Bool) (last now : Surveyed) (s : FilesSoFar given number last files) (h : FileRead (number + 1) (override_for given (number + 1)) whole last now bytes)
    → drop number files ≡ bytes ∷ drop (number + 1) files → IsAhead files (s.items ++ h.items) (record { items = []; end = h.ending }) (number + 1) (drop (number + 1) files)
ahead_both given files number bytes whole last now s h here =
    ahead_file files s.items number bytes (drop (number + 1) files) h.items (record { items = []; end = h.ending }) (subst (λ (after : List (List ℕ)). IsAhead files s.items ended number after) here s.ahead)
    (then_nothing (reads (number + 1) bytes) h.items h.ending h.read)

module _ (given : Overrides) (number : ℕ) (files : List (List ℕ)) (bytes : List ℕ) (whole : Bool) (last now : Surveyed) (s : FilesSoFar given number last files) (h : FileRead (number + 1) (override_for given (number + 1)) whole last now bytes) where
  named_both : overridden_items given (s.items ++ h.items) ≡ overridden_items given s.items ++ map (overridden_as (override_for given (number + 1))) h.items
  named_both = both_with given (number + 1) bytes s.items h.items (record { items = []; end = h.ending }) (then_nothing (reads (number + 1) bytes) h.items h.ending h.read)

  seen_both : now ≡ after_items nothing_seen (overridden_items given (s.items ++ h.items))
  seen_both =
      let more : List Item = map (overridden_as (override_for given (number + 1))) h.items in
      h.seen ∙ ap (λ (x : Surveyed). after_items x more) s.seen ∙ sym (after_both (overridden_items given s.items) more nothing_seen) ∙ ap (after_items nothing_seen) (sym named_both)

  readable_named : AreReadable (overridden_items given (s.items ++ h.items))
  readable_named = subst AreReadable (sym named_both) (readable_both (overridden_items given s.items) (map (overridden_as (override_for given (number + 1))) h.items) s.writable h.writable)

next_of_files : (given : Overrides) (files : List (List ℕ)) (number : ℕ) (bytes : List ℕ) (last now : Surveyed) → drop number files ≡ bytes ∷ drop (number + 1) files → FilesSoFar given number last files → FileRead (number + 1) (override_for given (number + 1)) true last now bytes
    → FilesSoFar given (number + 1) now files
next_of_files given files number bytes last now here s h = record {
  items = s.items ++ h.items;
  ahead = subst (λ (e : reading.Ending). IsAhead files (s.items ++ h.items) (record { items = []; end = e }) (number + 1) (drop (number + 1) files)) h.end_is (ahead_both given files number bytes true last now s h here);
  long = long_next files number bytes (drop (number + 1) files) here s.long h.fits (ap (λ (r : Reading). r.end) h.read ∙ h.end_is);
  writable = readable_named given number files bytes true last now s h;
  seen = seen_both given number files bytes true last now s h;
}

-- What is known after items, by all of them.
version_after : (items : List Item) → (after_items nothing_seen items).version ≡ version_of items
unfolding version_of
version_after items = refl

all_read : (given : Overrides) (files : List (List ℕ)) (items : List Item) (ending : reading.Ending) (last : Surveyed) → input files ≡ record { items = items; end = ending } → AreReadable (overridden_items given items) → last ≡ after_items nothing_seen (overridden_items given items)
    → too_long files ≡ None → AllRead given last files
all_read given files read ending last is writable seen fits =
    let items : List Item = overridden_items given read in
    let all : items ≡ (overridden given (input files)).items = ap (λ (r : Reading). overridden_items given r.items) (sym is) in
    record {
      last = ap (λ (s : Surveyed). s.last) seen ∙ sym (first_alone (last_head (heads items))) ∙ ap (λ (is : List Item). last_head (heads is)) all;
      parts = ap (λ (s : Surveyed). s.parts) seen ∙ ap part_uuids all;
      named = ap (λ (s : Surveyed). s.named) seen ∙ ap (λ (is : List Item). joined_by [] (all_uuids_named (commands_of is))) all;
      version = ap (λ (s : Surveyed). s.version) seen ∙ version_after items ∙ ap version_of all;
      writable = subst AreReadable all writable;
      fits = fits;
    }

fault_of_files : (given : Overrides) (files : List (List ℕ)) (number : ℕ) (bytes : List ℕ) (last now : Surveyed) → drop number files ≡ bytes ∷ drop (number + 1) files → FilesSoFar given number last files → FileRead (number + 1) (override_for given (number + 1)) false last now bytes
    → AllRead given now files
fault_of_files given files number bytes last now here s h =
    let items : List Item = s.items ++ h.items in
    let all = ahead_fault files items (record { items = []; end = h.ending }) h.end_is.0 (number + 1) (drop (number + 1) files) (ahead_both given files number bytes false last now s h here) (ap (λ (e : reading.Ending). record { items = []; end = e }) h.end_is.1) in
    all_read given files items (Faulty h.end_is.0) now all (readable_named given number files bytes false last now s h) (seen_both given number files bytes false last now s h)
    (long_fault files number bytes (drop (number + 1) files) h.end_is.0 here s.long h.fits (ap (λ (r : Reading). r.end) h.read ∙ h.end_is.1))

end_of_files : (given : Overrides) (files : List (List ℕ)) (number : ℕ) (last : Surveyed) → drop number files ≡ [] → FilesSoFar given number last files → AllRead given last files
end_of_files given files number last past s =
    all_read given files s.items Whole last (ahead_whole files s.items ended number (subst (λ (after : List (List ℕ)). IsAhead files s.items ended number after) past s.ahead) refl) s.writable s.seen
    (long_end files number past s.long)

-- The name at a number, and that the inputs tell the same at it.
pub record NextName {Z : Type 0} (told told_now : Option (List (List ℕ × List ℕ))) (names : List (String Z)) (number : ℕ) (name : String Z) (spelled : List ℕ) : Type 0 where
  pub same : told_now ≡ told
  pub less : number < length names
  pub is : name ≡ slice_index_or names number name
  pub spelling : spelled ≡ string_bytes name

-- What was read of the next file, as of a table of files.
next_read : {Z : Type 0} (given : Overrides) (table : List (List ℕ × List ℕ)) (told_now : Option (List (List ℕ × List ℕ))) (names : List (String Z)) (number : ℕ) (name : String Z) (spelled : List ℕ) (last now : Surveyed) (result said : Result Bool Outcome)
    → NextName (Some table) told_now names number name spelled → result ≡ said → IfTold told_now spelled (FileEnd (number + 1) (override_for given (number + 1)) last now result) → FileEnd (number + 1) (override_for given (number + 1)) last now said (file_at table (string_bytes name))
next_read given table told_now names number name spelled last now result said n r h =
    told_next table told_now name spelled (FileEnd (number + 1) (override_for given (number + 1)) last now said) n.same n.spelling (subst (λ (x : Result Bool Outcome). IfTold told_now spelled (FileEnd (number + 1) (override_for given (number + 1)) last now x)) r h)

-- The next file was read to its end.
pub files_next : {Z : Type 0} (given : Overrides) (told told_now : Option (List (List ℕ × List ℕ))) (names : List (String Z)) (number : ℕ) (name : String Z) (spelled : List ℕ) (last now : Surveyed) (result : Result Bool Outcome)
    → NextName told told_now names number name spelled → result ≡ Ok true → IfAllTold told (map string_bytes names) (FilesSoFar given number last) → IfTold told_now spelled (FileEnd (number + 1) (override_for given (number + 1)) last now result) → IfAllTold told (map string_bytes names) (FilesSoFar given (number + 1) now)
files_next given None told_now names number name spelled last now result n r s h = tt
files_next given (Some table) told_now names number name spelled last now result n r s h =
    next_of_files given (contents table (map string_bytes names)) number (file_at table (string_bytes name)) last now (file_there table names number name n.less n.is) s
    (next_read given table told_now names number name spelled last now result (Ok true) n r h)

-- The next file breaks a rule.
pub files_fault : {Z : Type 0} (given : Overrides) (told told_now : Option (List (List ℕ × List ℕ))) (names : List (String Z)) (number : ℕ) (name : String Z) (spelled : List ℕ) (last now : Surveyed) (result : Result Bool Outcome)
    → NextName told told_now names number name spelled → result ≡ Ok false → IfAllTold told (map string_bytes names) (FilesSoFar given number last) → IfTold told_now spelled (FileEnd (number + 1) (override_for given (number + 1)) last now result) → IfAllTold told (map string_bytes names) (SurveyEnd given (Ok now))
files_fault given None told_now names number name spelled last now result n r s h = tt
files_fault given (Some table) told_now names number name spelled last now result n r s h =
    fault_of_files given (contents table (map string_bytes names)) number (file_at table (string_bytes name)) last now (file_there table names number name n.less n.is) s
    (next_read given table told_now names number name spelled last now result (Ok false) n r h)

stop_of_files : (given : Overrides) (files : List (List ℕ)) (number : ℕ) (bytes : List ℕ) (last : Surveyed) (outcome : Outcome) → drop number files ≡ bytes ∷ drop (number + 1) files → FilesSoFar given number last files → FileStop (number + 1) outcome bytes → SurveyStop outcome files
stop_of_files given files number bytes last ended_by.NoMemory here s h = tt
stop_of_files given files number bytes last ended_by.InputFault here s h = tt
stop_of_files given files number bytes last (ended_by.InputTooLong file) here s h = long_here files number bytes (drop (number + 1) files) here s.long h.1 ∙ ap (λ (n : ℕ). Some n) (sym h.0)
stop_of_files given files number bytes last ended_by.Done here s h = elim h [ ]
stop_of_files given files number bytes last (ended_by.Refused verdict) here s h = elim h [ ]
stop_of_files given files number bytes last ended_by.OutputFault here s h = elim h [ ]
stop_of_files given files number bytes last (ended_by.TooMuch sum) here s h = elim h [ ]
stop_of_files given files number bytes last (ended_by.InputChanged file place) here s h = elim h [ ]

-- The next file could not be read.
pub files_stop : {Z : Type 0} (given : Overrides) (told told_now : Option (List (List ℕ × List ℕ))) (names : List (String Z)) (number : ℕ) (name : String Z) (spelled : List ℕ) (last now : Surveyed) (result : Result Bool Outcome) (outcome : Outcome)
    → NextName told told_now names number name spelled → result ≡ Err outcome → IfAllTold told (map string_bytes names) (FilesSoFar given number last) → IfTold told_now spelled (FileEnd (number + 1) (override_for given (number + 1)) last now result) → IfAllTold told (map string_bytes names) (SurveyEnd given (Err outcome))
files_stop given None told_now names number name spelled last now result outcome n r s h = tt
files_stop given (Some table) told_now names number name spelled last now result outcome n r s h =
    stop_of_files given (contents table (map string_bytes names)) number (file_at table (string_bytes name)) last outcome (file_there table names number name n.less n.is) s
    (next_read given table told_now names number name spelled last now result (Err outcome) n r h)

-- After the last file.
pub files_end : {Z : Type 0} (given : Overrides) (told : Option (List (List ℕ × List ℕ))) (names : List (String Z)) (number : ℕ) (last : Surveyed) → length names ≤ number → IfAllTold told (map string_bytes names) (FilesSoFar given number last) → IfAllTold told (map string_bytes names) (SurveyEnd given (Ok last))
files_end given None names number last past s = tt
files_end given (Some table) names number last past s =
    let files : List (List ℕ) = contents table (map string_bytes names) in
    let count : length files ≡ length names = count_of_files table names in
    let over : length files ≤ number = omega (arith, count, past) in
    end_of_files given files number last (drop_all number files over) s
