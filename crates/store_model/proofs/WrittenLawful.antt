-- The groups that receiving files writes can be written: what is read of files has one version from
-- a head to its END.
use Rattle.std.specs.Prelude.{◌≡◌, ℕ, zero, suc, ◌+◌, ◌-◌, Bool, true, false, List, [], ◌∷◌, ◌++◌, length, drop, Option, None, Some, Result, Ok, Err, if◌then◌else◌}
use Rattle.std.specs.List.{AllByRecursion}
use Rattle.std.specs.Option.{option_map}
use Rattle.std.proofs.Common.{inl, inr, refl, sym, ap, subst, ◌∙◌}
use Rattle.std.proofs.lemmas.Bool.{true≢false, false≢true}
use Rattle.send_model.specs.Refusal.{Refusal}
use Rattle.send_model.specs.Attribute.{IsBytes}
use Rattle.send_model.specs.Command.{Command, Subvol, Snapshot, End, row, kind_of, fields_of, kind_of_number}
use Rattle.send_model.specs.Spelling.{IsSpellable}
use Rattle.send_model.specs.Reading.{Item, Ending, Whole, Faulty, Reading, Due, HeaderDue, CommandDue, Front, header_len, stream_version, front_of, due_after, with_item, may_end, ended, go_on, reads_from, reads, joined, input_from, input}
use Rattle.send_model.specs.Store.{Head, State, After, head_of, step}
use Rattle.send_model.specs.Receive.{byte_cells, start_of}
use Rattle.send_model.specs.Overridden.{Override, Overrides, override_for, overridden_as, overridden_items}
use Rattle.send_model.specs.Guards.{Guard, Watched, watched_step, guarded}
use Rattle.send_model.specs.Counts.{is_end}
use Rattle.store_model.specs.Stored.{Mark, Body, Group, is_edit, IsEdit, IsContent, IsGroup}
use Rattle.store_model.specs.Written.{Begun, closed, closed_by, begun_by, and_command, begun_after_edit, begun_after, groups_from, WrittenIsLawful}
use Rattle.send_model.proofs.Sorts.{same_inside}
use Rattle.send_model.proofs.Sound.{bytes_drop}
use Rattle.send_model.proofs.Canonical.{fields_first, spellable_first}
use Rattle.send_model.proofs.ReadSpelled.{read_was_spelled}
use Rattle.send_model.proofs.ReadCommands.{IsReadable, AreWritable, input_writable}
use Rattle.send_model.proofs.ElementLaws.{all_both}
use Rattle.send_model.proofs.Overriding.{same_end, overridden_is_writable}
use Rattle.send_model.proofs.LawfulStores.{head_uuid_fits}
use Rattle.store_model.proofs.PassedStates.{sort_of}
use Rattle.store_model.proofs.WrittenGroups.{edit_facts}

-- ---- one version from a head to its END

-- The version of the stream behind an item, if it goes on.
abbrev next_of : Item → Option ℕ
next_of item = if is_end item.command then None else Some item.version

abbrev IsSteady : Option ℕ → List Item → Type 0
IsSteady version [] = Unit {0}
IsSteady None (item ∷ items) = IsSteady (next_of item) items
IsSteady (Some version) (item ∷ items) = (item.version ≡ version) × IsSteady (next_of item) items

abbrev end_of : Option ℕ → List Item → Option ℕ
end_of version [] = version
end_of version (item ∷ items) = end_of (next_of item) items

abbrev of_due : Due → Option ℕ
of_due HeaderDue = None
of_due (CommandDue version) = Some version

steady_none : (version : ℕ) (items : List Item) → IsSteady (Some version) items → IsSteady None items
steady_none version [] h = tt
steady_none version (item ∷ items) h = h.1

ends_none : (version : ℕ) (items : List Item) → end_of (Some version) items ≡ None → end_of None items ≡ None
ends_none version [] h = refl
ends_none version (item ∷ items) h = h

abbrev ReadsSteady : Due → Reading → Type 0
ReadsSteady due r = IsSteady (of_due due) r.items × (r.end ≡ Whole → end_of (of_due due) r.items ≡ None)

due_next : (version : ℕ) (c : Command) → of_due (due_after version c) ≡ (if is_end c then None else Some version)
due_next version End = refl
due_next version c = refl

ends_at : (due : Due) (rest : List ℕ) → may_end due rest ≡ true → of_due due ≡ None
ends_at HeaderDue rest h = refl
ends_at (CommandDue version) rest h = absurd (false≢true h)

by_result : {A : Type 0} (P : Reading → Type 0) (more : A → Reading) (stop : Refusal → Reading) (r : Result A Refusal) → ((x : A) → r ≡ Ok x → P (more x)) → ((refusal : Refusal) → P (stop refusal)) → P (go_on more stop r)
by_result P more stop (Ok x) f g = f x refl
by_result P more stop (Err refusal) f g = g refusal

behind : (xs ys : List ℕ) → IsBytes (xs ++ ys) → IsBytes ys
behind [] ys h = h
behind (x ∷ xs) ys h = behind xs ys h.1

reads_steady : (n file : ℕ) (due : Due) (number offset : ℕ) (bytes : List ℕ) → IsBytes bytes → ReadsSteady due (reads_from n file due number offset bytes)
unfolding reads_from
reads_steady zero file due number offset bytes are = (tt, λ h. cc)
reads_steady (suc n) file HeaderDue number offset bytes are =
    by_result (ReadsSteady HeaderDue) _ _ (stream_version bytes)
    (λ version e. let rest : List Item = (reads_from n file (CommandDue version) number (offset + header_len) (drop header_len bytes)).items in
    let r = reads_steady n file (CommandDue version) number (offset + header_len) (drop header_len bytes) (bytes_drop header_len bytes are) in
    (steady_none version rest r.0, λ h. ends_none version rest (r.1 h)))
    (λ refusal. (tt, λ h. cc))
reads_steady (suc n) file (CommandDue version) number offset bytes are =
    by_result (ReadsSteady (CommandDue version)) _ _ (front_of file version number offset bytes)
    (λ front e. let w = read_was_spelled file version number offset bytes front are e in
    let at : front.item.version ≡ version = ap (λ (i : Item). i.version) w.item_is in
    let more = reads_steady n file (due_after version front.item.command) (number + 1) (offset + (length bytes - length front.rest)) front.rest (behind w.frame front.rest (subst IsBytes w.whole are)) in
    one front at (may_end (due_after version front.item.command) front.rest) refl (reads_from n file (due_after version front.item.command) (number + 1) (offset + (length bytes - length front.rest)) front.rest) more)
    (λ refusal. (tt, λ h. cc))
  where
    one : (front : Front) → front.item.version ≡ version → (b : Bool) → may_end (due_after version front.item.command) front.rest ≡ b → (r : Reading) → ReadsSteady (due_after version front.item.command) r
        → ReadsSteady (CommandDue version) (with_item front.item (if b then ended else r))
    one front at true e r more =
        let due : next_of front.item ≡ None = ap (λ (v : ℕ). if is_end front.item.command then None else Some v) at ∙ sym (due_next version front.item.command) ∙ ends_at (due_after version front.item.command) front.rest e in
        ((at, tt), λ h. due)
    one front at false e r more =
        let due : of_due (due_after version front.item.command) ≡ next_of front.item = due_next version front.item.command ∙ ap (λ (v : ℕ). if is_end front.item.command then None else Some v) (sym at) in
        ((at, subst (λ (d : Option ℕ). IsSteady d r.items) due more.0), λ h. ap (λ (d : Option ℕ). end_of d r.items) (sym due) ∙ more.1 h)

steady_both : (d : Option ℕ) (xs ys : List Item) → IsSteady d xs → end_of d xs ≡ None → IsSteady None ys → IsSteady d (xs ++ ys)
steady_both d [] ys a e b = subst (λ (x : Option ℕ). IsSteady x ys) (sym e) b
steady_both None (x ∷ xs) ys a e b = steady_both (next_of x) xs ys a e b
steady_both (Some version) (x ∷ xs) ys a e b = (a.0, steady_both (next_of x) xs ys a.1 e b)

joined_steady : (items : List Item) (ending : Ending) (others : Reading) → ReadsSteady HeaderDue (record { items = items; end = ending }) → IsSteady None others.items → IsSteady None (joined (record { items = items; end = ending }) others).items
joined_steady items (Faulty verdict) others a b = a.0
joined_steady items Whole others a b = steady_both None items others.items a.0 (a.1 refl) b

from_steady : (file : ℕ) (files : List (List ℕ)) → AllByRecursion IsBytes files → IsSteady None (input_from file files).items
unfolding input_from reads
from_steady file [] are = tt
from_steady file (bytes ∷ files) are =
    let first = reads file bytes in
    joined_steady first.items first.end (input_from (file + 1) files) (reads_steady (suc (length bytes)) file HeaderDue 1 0 bytes are.0) (from_steady (file + 1) files are.1)

-- Overrides change neither the version of an item nor whether it is END.
next_said : (o : Override) (item : Item) → next_of (overridden_as o item) ≡ next_of item
next_said o item = ap (λ (b : Bool). if b then None else Some item.version) (same_end o item.command)

steady_with : (overrides : Overrides) (version : Option ℕ) (items : List Item) → IsSteady version items → IsSteady version (overridden_items overrides items)
steady_with overrides version [] h = tt
steady_with overrides None (item ∷ items) h =
    subst (λ (v : Option ℕ). IsSteady v (overridden_items overrides items)) (sym (next_said (override_for overrides item.file) item)) (steady_with overrides (next_of item) items h)
steady_with overrides (Some version) (item ∷ items) h = (
  h.0,
  subst (λ (v : Option ℕ). IsSteady v (overridden_items overrides items)) (sym (next_said (override_for overrides item.file) item)) (steady_with overrides (next_of item) items h.1),
)

-- ---- groups

-- A head that a version can say, version 1 can.
head_first : (version : ℕ) (c : Command) (head : Head) → head_of c ≡ Some head → IsSpellable version c → IsSpellable 1 c
unfolding row kind_of_number
head_first version (Subvol uuid ctransid path) head is s = let c : Command = Subvol uuid ctransid path in spellable_first 1 c refl (fields_first version (row (kind_of c)).wanted (fields_of c) refl s.values)
head_first version (Snapshot uuid ctransid path clone_uuid clone_ctransid) head is s = let c : Command = Snapshot uuid ctransid path clone_uuid clone_ctransid in spellable_first 1 c refl (fields_first version (row (kind_of c)).wanted (fields_of c) refl s.values)
head_first version c head is s = cc

-- The open part can be said in the version of its stream.
abbrev IsOpenIn : Option ℕ → Option Begun → Type 0
IsOpenIn version None = Unit {0}
IsOpenIn None (Some begun) = ⊥
IsOpenIn (Some version) (Some begun) = IsContent (Body begun.uuid begun.version begun.commands) × (begun.version ≡ version)

closed_lawful : (format : ℕ) (version : Option ℕ) (begun : Option Begun) → IsOpenIn version begun → AllByRecursion (IsGroup format) (closed begun)
closed_lawful format version None h = tt
closed_lawful format None (Some begun) h = absurd h
closed_lawful format (Some version) (Some begun) h = (record { content = h.0; old = λ e. absurd (true≢false e) }, tt)

closed_by_lawful : (format : ℕ) (guards : List Guard) (c : Command) (version : Option ℕ) (begun : Option Begun) → IsOpenIn version begun → AllByRecursion (IsGroup format) (closed_by guards c begun)
closed_by_lawful format guards c version begun h = one (is_edit c) (guarded guards c)
  where
    one : (b : Bool) (o : Option Refusal) → AllByRecursion (IsGroup format) (if b then [] else (elim o as (λ x. List Group) [ Some refusal ↦ [] | None ↦ closed begun ]))
    one true o = tt
    one false (Some refusal) = tt
    one false None = closed_lawful format version begun h

begun_by_lawful : (format version : ℕ) (c : Command) → IsSpellable version c → AllByRecursion (IsGroup format) (begun_by c)
begun_by_lawful format version c s = one (head_of c) refl
  where
    one : (o : Option Head) → head_of c ≡ o → AllByRecursion (IsGroup format) (elim o as (λ x. List Group) [ None ↦ [] | Some head ↦ record { content = Mark c; is_sealed = true } ∷ [] ])
    one None is = tt
    one (Some head) is = (record { content = head_first version c head is s; old = λ e. absurd (true≢false e) }, tt)

-- the version of the stream at an item
steady_at : (version : Option ℕ) (item : Item) (items : List Item) → IsSteady version (item ∷ items) → IsSteady (next_of item) items × ((v : ℕ) → version ≡ Some v → item.version ≡ v)
steady_at None item items h = (h, λ v e. cc)
steady_at (Some version) item items h = (h.1, λ v e. h.0 ∙ same_inside e)

open_after : (version : Option ℕ) (begun : Option Begun) (item : Item) → IsReadable item → ((v : ℕ) → version ≡ Some v → item.version ≡ v) → IsOpenIn version begun → IsOpenIn (next_of item) (begun_after begun item)
open_after version begun item readable at h = elim (sort_of item.command) [
  | inl x ↦ by_head x.0 x.1
  | inr (inl e) ↦ by_end item.command e
  | inr (inr e) ↦ by_edit (edit_facts item.command e) e version begun at h
]
  where
    no_end : (c : Command) (head : Head) → head_of c ≡ Some head → is_end c ≡ false
    no_end End head is = cc
    no_end c head is = refl

    by_head : (head : Head) → head_of item.command ≡ Some head → IsOpenIn (next_of item) (begun_after begun item)
    by_head head is =
        let opened : Option Head → Option Begun = λ o. elim o as (λ x. Option Begun) [
          | Some h ↦ Some (record { uuid = h.key.uuid; version = item.version; commands = [] })
          | None ↦ begun_after_edit item begun
        ] in
        subst (λ (o : Option Head). IsOpenIn (next_of item) (opened o)) (sym is)
        (subst (λ (b : Bool). IsOpenIn (if b then None else Some item.version) (Some (record { uuid = head.key.uuid; version = item.version; commands = [] }))) (sym (no_end item.command head is))
        (((head_uuid_fits item.version item.command head is readable.0.spellable).0, readable.1, tt), refl))

    by_end : (c : Command) → c ≡ End → IsOpenIn (if is_end c then None else Some item.version) (begun_after begun (record item { command = c }))
    by_end c e = subst (λ (d : Command). IsOpenIn (if is_end d then None else Some item.version) (begun_after begun (record item { command = d }))) (sym e) tt

    and_edit : is_edit item.command ≡ true → (v : Option ℕ) (b : Option Begun) → ((n : ℕ) → v ≡ Some n → item.version ≡ n) → IsOpenIn v b → IsOpenIn (Some item.version) (option_map (and_command item.command) b)
    and_edit edit v None fits inside = tt
    and_edit edit None (Some b) fits inside = absurd inside
    and_edit edit (Some v) (Some b) fits inside =
        let same : item.version ≡ b.version = fits v refl ∙ sym inside.1 in (
          (inside.0.0, inside.0.1, all_both (IsEdit b.version) b.commands (item.command ∷ []) inside.0.2 ((edit, subst (λ (n : ℕ). IsSpellable n item.command) same readable.0.spellable), tt)),
          sym same,
        )

    by_edit : (head_of item.command ≡ None) × (is_end item.command ≡ false) → is_edit item.command ≡ true → (v : Option ℕ) (b : Option Begun) → ((n : ℕ) → v ≡ Some n → item.version ≡ n) → IsOpenIn v b → IsOpenIn (next_of item) (begun_after b item)
    by_edit facts edit v b fits inside =
        let opened : Option Head → Option Begun = λ o. elim o as (λ x. Option Begun) [
          | Some h ↦ Some (record { uuid = h.key.uuid; version = item.version; commands = [] })
          | None ↦ begun_after_edit item b
        ] in
        subst (λ (o : Option Head). IsOpenIn (next_of item) (opened o)) (sym facts.0)
        (subst (λ (t : Bool). IsOpenIn (if t then None else Some item.version) (if t then None else option_map (and_command item.command) b)) (sym facts.1) (and_edit edit v b fits inside))

groups_lawful : (format : ℕ) (w : Watched (State ℕ)) (version : Option ℕ) (begun : Option Begun) (items : List Item) → IsOpenIn version begun → IsSteady version items → AreWritable items → AllByRecursion (IsGroup format) (groups_from w begun items)
unfolding groups_from
groups_lawful format w version begun [] h steady readable = tt
groups_lawful format w version begun (item ∷ items) h steady readable =
    let at = steady_at version item items steady in
    let after : After (Watched (State ℕ)) = watched_step (λ s i. step 0 (byte_cells i) s i.command) w item in
    all_both (IsGroup format) (closed_by w.guards item.command begun) _ (closed_by_lawful format w.guards item.command version begun h)
    (one after.refusal after.state (groups_lawful format after.state (next_of item) (begun_after begun item) items (open_after version begun item readable.0 at.1 h) at.0 readable.1))
  where
    one : (o : Option Refusal) (next : Watched (State ℕ)) → AllByRecursion (IsGroup format) (groups_from next (begun_after begun item) items)
        → AllByRecursion (IsGroup format) (elim o as (λ x. List Group) [ Some refusal ↦ [] | None ↦ begun_by item.command ++ groups_from next (begun_after begun item) items ])
    one (Some refusal) next more = tt
    one None next more = all_both (IsGroup format) (begun_by item.command) (groups_from next (begun_after begun item) items) (begun_by_lawful format item.version item.command readable.0.0.spellable) more

pub written_is_lawful : WrittenIsLawful
unfolding input
written_is_lawful format store guards files are =
    let read : List Item = (input files.bytes).items in
    groups_lawful format (record { guards = guards; state = start_of store }) None None (overridden_items files.overrides read) tt (steady_with files.overrides None read (from_steady 1 files.bytes are.bytes))
    (overridden_is_writable files.overrides read are.overrides (input_writable files.bytes are.bytes))
