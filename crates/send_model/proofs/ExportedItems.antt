-- Items with separators stand as whole streams, say the separated commands, and separators can go
-- wherever the items lead.
use Rattle.std.specs.Prelude.{◌≡◌, ◌≢◌, ℕ, ◌<◌, ◌^◌, Bool, true, false, not, ◌&&◌, List, [], ◌∷◌, ◌++◌, map, length, Option, None, Some, Result, Ok, Err, if◌then◌else◌}
use Rattle.std.specs.List.{AllByRecursion}
use Rattle.std.specs.Str.{bytes_eq}
use Rattle.std.proofs.Common.{refl, sym, ap, subst, ◌∙◌, lit<, ⊎_elim}
use Rattle.std.proofs.lemmas.List.{map-append}
use Rattle.send_model.specs.Refusal.{Refusal}
use Rattle.send_model.specs.Attribute.{PATH}
use Rattle.send_model.specs.Command.{Kind, WRITE, LINK, UNLINK, UTIMES, Command, Write, Link, Unlink, Utimes, Clone, Fallocate, End, row, kind_of, kind_of_number}
use Rattle.send_model.specs.Spelling.{IsKnown, IsSpellable}
use Rattle.send_model.specs.Reading.{Item, Due, HeaderDue, CommandDue}
use Rattle.send_model.specs.Subvolume.{Subvolume, walk}
use Rattle.send_model.specs.Store.{Head, Part, State, head_of}
use Rattle.send_model.specs.Order.{commands_of}
use Rattle.send_model.specs.Counts.{is_end}
use Rattle.send_model.specs.Laws.{CanWrite}
use Rattle.send_model.specs.Opened.{Opened, written_path, kept_at, opened_at, open_after, opened_after, is_astray}
use Rattle.send_model.specs.Separated.{separator, separator_for, separator_in, touch, detour, free_name, names_file, other_path, with_all, led_from, IsSmall, IsFit, AreFit, mtime_of_root, atime_of_root}
use Rattle.send_model.specs.Exported.{Exporting, exporting_after, items_before, then_separated, separated_by, byte_step, AreSmallBy, IsMoment}
use Rattle.send_model.proofs.Sorts.{same_inside}
use Rattle.send_model.proofs.Versions.{IsVersion, known_version}
use Rattle.send_model.proofs.Canonical.{spellable_first}
use Rattle.send_model.proofs.SpelledPieces.{PathFits, path_first}
use Rattle.send_model.proofs.Runs.{Takes}
use Rattle.send_model.proofs.LawfulStores.{PartSayable, IsLawfulState, step_lawful}
use Rattle.send_model.proofs.FreeNames.{free_name_fits, sound_can_separate}
use Rattle.send_model.proofs.Moments.{PartTimes, IsTimed, step_timed, root_said}
use Rattle.send_model.proofs.Exporting.{due_by, IsDue, StandsIn}

-- ---- separators can be spelled

known_in : (kind : Kind) → IsKnown 1 kind → IsKnown 2 kind → (version : ℕ) → IsVersion version → IsKnown version kind
known_in kind first second version is = ⊎_elim (λ e. subst (λ (v : ℕ). IsKnown v kind) (sym e) first) (λ e. subst (λ (v : ℕ). IsKnown v kind) (sym e) second) is

-- A command inside a part that can be written.
abbrev IsAhead : ℕ → Command → Type 0
IsAhead version c = CanWrite version c × (is_end c ≡ false)

module _ (version : ℕ) (is : IsVersion version) where
  touch_ahead : (path : List ℕ) → PathFits path → IsAhead version (touch path)
  unfolding kind_of_number row
  touch_ahead path fits = (record { spellable = spellable_first version (touch path) (known_in WRITE refl refl version is) (fits, (lit< tt, ((λ e. lit< tt, tt), tt))) }, refl)

  link_ahead : (name path : List ℕ) → PathFits name → PathFits path → IsAhead version (Link name path)
  unfolding kind_of_number row
  link_ahead name path a b = (record { spellable = spellable_first version (Link name path) (known_in LINK refl refl version is) (a, (b, tt)) }, refl)

  unlink_ahead : (name : List ℕ) → PathFits name → IsAhead version (Unlink name)
  unfolding kind_of_number row
  unlink_ahead name a = (record { spellable = spellable_first version (Unlink name) (known_in UNLINK refl refl version is) (a, tt) }, refl)

  utimes_ahead : (s : Subvolume ℕ) → IsMoment (mtime_of_root s) × IsMoment (atime_of_root s) → IsAhead version (Utimes (mtime_of_root s) (atime_of_root s) [])
  unfolding kind_of_number row
  utimes_ahead s (m, a) = (record { spellable = spellable_first version (Utimes (mtime_of_root s) (atime_of_root s) []) (known_in UTIMES refl refl version is) (m, (a, ((λ e. lit< tt, tt), tt))) }, refl)

  detour_ahead : (s : Subvolume ℕ) (name path : List ℕ) → PathFits name → PathFits path → IsMoment (mtime_of_root s) × IsMoment (atime_of_root s)
      → AllByRecursion (IsAhead version) (detour s name path)
  unfolding detour
  detour_ahead s name path a b m = (link_ahead name path a b, (touch_ahead name a, (unlink_ahead name a, (utimes_ahead s m, tt))))

  separator_ahead : (s : Subvolume ℕ) (other path : List ℕ) → length s.names < 2 ^ 64 → PathFits other → PathFits path
      → IsMoment (mtime_of_root s) × IsMoment (atime_of_root s)
      → AllByRecursion (IsAhead version) (separator_in s other path)
  unfolding separator_in
  separator_ahead s other path small a b m = one (names_file s other && not (bytes_eq other path))
    where
      one : (t : Bool) → AllByRecursion (IsAhead version) (if t then touch other ∷ [] else detour s (free_name s) path)
      one true = (touch_ahead other a, tt)
      one false = let f = free_name_fits s small in detour_ahead s (free_name s) path (λ e. f.0, f.1) b m

-- The path that a command writes to can be said.
written_fits : (version : ℕ) (c : Command) (path : List ℕ) → written_path c ≡ Some path → IsSpellable version c → PathFits path
unfolding row
written_fits version (Write own offset bytes) path h s = let v = s.values in subst PathFits (same_inside h) (path_first version PATH own refl v.0)
written_fits version (Fallocate size own offset mode) path h s = let v = s.values in subst PathFits (same_inside h) (path_first version PATH own refl v.1.0)
written_fits version (Clone own offset clone_uuid clone_ctransid clone_path from len) path h s = let v = s.values in subst PathFits (same_inside h) (path_first version PATH own refl v.0)
written_fits version c path h s = cc

-- ---- what is known between two commands

abbrev OpenedFits : Option Opened → Type 0
OpenedFits None = Unit {0}
OpenedFits (Some opened) = PathFits opened.path

pub record IsReady (now : Exporting ℕ) : Type 0 where
  pub lawful : IsLawfulState now.state
  pub timed : IsTimed now.state
  pub other : PathFits now.other
  pub opened : OpenedFits now.opened

other_fits : (other : List ℕ) (opened : Option Opened) (path : Option (List ℕ)) → PathFits other → OpenedFits opened → PathFits (other_path other opened path)
other_fits other opened None a b = a
other_fits other None (Some path) a b = a
other_fits other (Some opened) (Some path) a b = one (bytes_eq opened.path path)
  where
    one : (t : Bool) → PathFits (if t then other else opened.path)
    one true = a
    one false = b

at_fits : (part : Option (Part ℕ)) (path : List ℕ) → PathFits path → OpenedFits (opened_at part path)
at_fits None path a = tt
at_fits (Some part) path a = one (walk part.subvolume path)
  where
    one : (r : Result ℕ Refusal) → OpenedFits (elim r as (λ x. Option Opened) [ Err refusal ↦ None | Ok ino ↦ Some (record { path = path; ino = ino }) ])
    one (Ok ino) = a
    one (Err refusal) = tt

after_fits : (opened : Option Opened) (part : Option (Part ℕ)) (path : Option (List ℕ)) → OpenedFits opened → ((p : List ℕ) → path ≡ Some p → PathFits p)
    → OpenedFits (open_after opened part path)
after_fits opened part None a f = a
after_fits opened part (Some path) a f = one (kept_at opened (Some path))
  where
    one : (o : Option ℕ) → OpenedFits (elim o as (λ x. Option Opened) [ Some ino ↦ opened | None ↦ opened_at part path ])
    one None = at_fits part path (f path refl)
    one (Some ino) = a

opened_fits : (opened : Option Opened) (part : Option (Part ℕ)) (c : Command) → OpenedFits opened → ((p : List ℕ) → written_path c ≡ Some p → PathFits p)
    → OpenedFits (opened_after opened part c)
opened_fits opened part End a f = tt
opened_fits opened part c a f = one (head_of c)
  where
    one : (o : Option Head) → OpenedFits (elim o as (λ x. Option Opened) [ Some head ↦ None | None ↦ open_after opened part (written_path c) ])
    one None = after_fits opened part (written_path c) a f
    one (Some head) = tt

unless_astray : (b : Bool) (opened : Option Opened) → OpenedFits opened → OpenedFits (if b then None else opened)
unless_astray true opened a = tt
unless_astray false opened a = a

ready_after : (now : Exporting ℕ) (item : Item) → IsReady now → IsSpellable item.version item.command
    → IsReady (exporting_after now item.command (byte_step now.state item).state)
ready_after now item r s =
    let c : Command = item.command in
    record {
      lawful = step_lawful c item.version now.state.store now.state.part s r.lawful.store r.lawful.part;
      timed = step_timed item.version c now.state s r.timed;
      other = other_fits now.other now.opened (written_path c) r.other r.opened;
      opened = opened_fits (if is_astray now.opened now.state c then None else now.opened) now.state.part c (unless_astray (is_astray now.opened now.state c) now.opened r.opened) (λ p h. written_fits item.version c p h s);
    }

-- What goes before an item can be written in its stream.
before_ahead : (now : Exporting ℕ) (item : Item) → IsReady now → IsSmall now.state.part → IsSpellable item.version item.command
    → AllByRecursion (IsAhead item.version) (separator now.opened now.other now.state item.command)
unfolding separator
before_ahead now item r small s = one (is_astray now.opened now.state item.command)
  where
    version : IsVersion item.version
    version = known_version item.version (row (kind_of item.command)).number (kind_of item.command) s.known

    two : (p : Option (Part ℕ)) (w : Option (List ℕ)) → now.state.part ≡ p → written_path item.command ≡ w
        → AllByRecursion (IsAhead item.version) (separator_for now.other p w)
    two None w e h = tt
    two (Some part) None e h = tt
    two (Some part) (Some path) e h =
        separator_ahead item.version version part.subvolume now.other path (subst (λ (o : Option (Part ℕ)). IsSmall o) e small) r.other (written_fits item.version item.command path h s)
        (root_said part.subvolume (timed_part e))
      where
        timed_part : now.state.part ≡ Some part → AllByRecursion (λ x. IsMoment x.1.mtime × IsMoment x.1.atime) part.subvolume.inodes
        timed_part q = subst (λ (o : Option (Part ℕ)). PartTimes o) q r.timed.part

    one : (b : Bool) → AllByRecursion (IsAhead item.version) (if b then separator_for now.other now.state.part (written_path item.command) else [])
    one true = two now.state.part (written_path item.command) refl refl
    one false = tt

-- ---- items

-- Items of the stream of an item in front of it.
put_before : (due : Due) (item : Item) (before : List Command) (rest : List Item) → AllByRecursion (IsAhead item.version) before → StandsIn due (item ∷ rest)
    → StandsIn due (map (λ command. record item { command = command }) before ++ item ∷ rest)
put_before due item [] rest a s = s
put_before due item (c ∷ before) rest ((can, no_end), more) (d, r, s) = (
  due_with due d,
  (can, r.1),
  subst (λ (end : Bool). StandsIn (due_by item.version end) (map (λ command. record item { command = command }) before ++ item ∷ rest)) (sym no_end)
      (put_before (CommandDue item.version) item before rest more (refl, r, s)),
)
  where
    due_with : (due : Due) → IsDue due item → IsDue due (record item { command = c })
    due_with HeaderDue d = tt
    due_with (CommandDue version) d = d

taken_rest : (o : Option Refusal) (rest : List Item) → o ≡ None → then_separated o rest ≡ rest
taken_rest None rest e = refl
taken_rest (Some refusal) rest e = cc

pub separated_stands : (items : List Item) (now : Exporting ℕ) (due : Due) (end : State ℕ) → IsReady now → StandsIn due items
    → AreSmallBy byte_step now.state items → Takes now.state (commands_of items) end
    → StandsIn due (separated_by byte_step now items)
unfolding separated_by AreSmallBy
separated_stands [] now due end r s m t = s
separated_stands (item ∷ items) now due end r (d, can, s) (m, ms) (ok, t) =
    let next : Exporting ℕ = exporting_after now item.command (byte_step now.state item).state in
    let more = separated_stands items next (due_by item.version (is_end item.command)) end (ready_after now item r can.0.spellable) s ms t in
    subst (StandsIn due) (sym (taken_rest (byte_step now.state item).refusal (items_before now item ++ item ∷ separated_by byte_step next items) ok))
    (put_before due item (separator now.opened now.other now.state item.command) (separated_by byte_step next items) (before_ahead now item r m can.0.spellable) (d, can, more))

-- What they say.
commands_before : (item : Item) (cs : List Command) → commands_of (map (λ command. record item { command = command }) cs) ≡ cs
commands_before item [] = refl
commands_before item (c ∷ cs) = ap (λ (ds : List Command). c ∷ ds) (commands_before item cs)

pub separated_commands : (items : List Item) (now : Exporting ℕ) (end : State ℕ) → Takes now.state (commands_of items) end
    → commands_of (separated_by byte_step now items) ≡ with_all (led_from now.opened now.other now.state (commands_of items))
unfolding separated_by led_from
separated_commands [] now end t = refl
separated_commands (item ∷ items) now end (ok, t) =
    let next : Exporting ℕ = exporting_after now item.command (byte_step now.state item).state in
    let sep : List Command = separator now.opened now.other now.state item.command in
    let rest : List Item = separated_by byte_step next items in
    ap commands_of (taken_rest (byte_step now.state item).refusal (items_before now item ++ item ∷ rest) ok)
    ∙ map-append (λ (i : Item). i.command) (items_before now item) (item ∷ rest)
    ∙ ap (λ (cs : List Command). cs ++ item.command ∷ commands_of rest) (commands_before item sep)
    ∙ ap (λ (cs : List Command). sep ++ item.command ∷ cs) (separated_commands items next end t)

-- Separators can go wherever items lead.
pub items_fit : (items : List Item) (state : State ℕ) → IsLawfulState state → AllByRecursion (λ item. IsSpellable item.version item.command) items
    → AreSmallBy byte_step state items → AreFit state (commands_of items)
unfolding AreFit AreSmallBy
items_fit [] state h s m = tt
items_fit (item ∷ items) state h (s, ss) (m, ms) =
    (one state.part h.part m, items_fit items (byte_step state item).state (step_lawful item.command item.version state.store state.part s h.store h.part) ss ms)
  where
    one : (p : Option (Part ℕ)) → PartSayable p → IsSmall p → IsFit p
    one None a b = tt
    one (Some part) a b = sound_can_separate part.subvolume a.lawful.sound b

-- Nor is one lost: where there are items, there are items with separators.
pub separated_some : (items : List Item) (now : Exporting ℕ) (end : State ℕ) → Takes now.state (commands_of items) end → items ≢ []
    → separated_by byte_step now items ≢ []
unfolding separated_by
separated_some [] now end t n = absurd (n refl)
separated_some (item ∷ items) now end (ok, t) n =
    let next : Exporting ℕ = exporting_after now item.command (byte_step now.state item).state in
    let rest : List Item = separated_by byte_step next items in
    λ e. one (items_before now item) (sym (taken_rest (byte_step now.state item).refusal (items_before now item ++ item ∷ rest) ok) ∙ e)
  where
    one : (before : List Item) → before ++ item ∷ separated_by byte_step (exporting_after now item.command (byte_step now.state item).state) items ≡ [] → ⊥
    one [] e = cc
    one (b ∷ before) e = cc
