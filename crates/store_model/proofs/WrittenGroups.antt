-- The groups that receiving writes make what receiving leaves, and each store that the first of
-- them make is on the way there: an induction over the items, in which the Body of the open part,
-- if it were closed now, would complete the part as it is, and behind the entries at the start all
-- are complete but that of the part.
use Rattle.std.specs.Prelude.{◌≡◌, ℕ, ◌+◌, Bool, true, false, not, ◌&&◌, List, [], ◌∷◌, ◌++◌, length, Option, None, Some, Result, Ok, Err, is_none, if◌then◌else◌}
use Rattle.std.specs.Option.{option_map}
use Rattle.std.specs.Str.{bytes_eq}
use Rattle.std.proofs.Common.{inl, inr, refl, sym, ap, subst, ◌∙◌}
use Rattle.std.proofs.lemmas.Bool.{false≢true}
use Rattle.send_model.specs.Refusal.{Refusal, NoParent}
use Rattle.send_model.specs.Chain.{found}
use Rattle.send_model.specs.Command.{Command, Subvol, Snapshot, End}
use Rattle.send_model.specs.Spelling.{canonical}
use Rattle.send_model.specs.Reading.{Item}
use Rattle.send_model.specs.Subvolume.{Subvolume}
use Rattle.send_model.specs.Store.{Key, Head, Entry, Store, Part, State, After, Stepped, has_uuid, completed, unfinished, head_of, start_from, begun, entered, edited, edit_part, step_head, step_edit, step}
use Rattle.send_model.specs.Receive.{Ran, run_by, then_run, bytes_of, byte_cells, start_of}
use Rattle.send_model.specs.Guards.{Guard, Watched, watched, guarded, looked, watched_step}
use Rattle.store_model.specs.Stored.{Mark, Group, body_bytes, is_edit, as_bytes, taken, marked, unfinished_at, started, resumed, edits_made, frames_at, made, body_at, made_all}
use Rattle.send_model.specs.Counts.{is_end}
use Rattle.store_model.specs.States.{received}
use Rattle.store_model.specs.Written.{Begun, body_of, closed, closed_by, begun_by, and_command, begun_after_edit, begun_after, groups_from, groups_of, WrittenIsReceived, FirstGroupsAreStates}
use Rattle.send_model.proofs.Sorts.{head_step}
use Rattle.send_model.proofs.Stores.{or_parts, bytes_eq_same, finds_unfinished}
use Rattle.send_model.proofs.Merging.{begun_begins}
use Rattle.send_model.proofs.Guarding.{after_looks, looks_are}
use Rattle.store_model.proofs.LawfulGroups.{edit_step}
use Rattle.store_model.proofs.PassedStates.{Goes, goes_twice, sort_of, IsClosed, IsOpen, IsOn, completed_on, entered_on, edited_on, own_between, IsPassed, on_way, run_on, start_closed}

-- ---- edits

-- one more edit behind others
edits_more : (version place : ℕ) (state : State ℕ) (cs : List Command) (c : Command)
    → edits_made 0 as_bytes version place state (cs ++ c ∷ []) ≡ (elim (edits_made 0 as_bytes version place state cs) as (λ x. Option (State ℕ)) [ None ↦ None | Some middle ↦ taken (step_edit 0 (bytes_of c) middle c) ])
unfolding edits_made
edits_more version place state [] c = one (taken (step_edit 0 (bytes_of c) state c))
  where
    one : (o : Option (State ℕ)) → (elim o as (λ x. Option (State ℕ)) [ None ↦ None | Some next ↦ Some next ]) ≡ o
    one None = refl
    one (Some next) = refl
edits_more version place state (d ∷ cs) c = one (taken (step_edit 0 (bytes_of d) state d)) (λ next. edits_more version (place + length (canonical version d)) next cs c)
  where
    on : Option (State ℕ) → Option (State ℕ)
    on o = elim o as (λ x. Option (State ℕ)) [ None ↦ None | Some middle ↦ taken (step_edit 0 (bytes_of c) middle c) ]

    one : (o : Option (State ℕ)) → ((next : State ℕ) → edits_made 0 as_bytes version (place + length (canonical version d)) next (cs ++ c ∷ []) ≡ on (edits_made 0 as_bytes version (place + length (canonical version d)) next cs))
        → (elim o as (λ x. Option (State ℕ)) [ None ↦ None | Some next ↦ edits_made 0 as_bytes version (place + length (canonical version d)) next (cs ++ c ∷ []) ])
        ≡ on (elim o as (λ x. Option (State ℕ)) [ None ↦ None | Some next ↦ edits_made 0 as_bytes version (place + length (canonical version d)) next cs ])
    one None more = refl
    one (Some next) more = more next

-- ---- the open part

-- The Body of the open part, closed now, would make the part as it is, wherever it stands.
record IsKept (store : Store ℕ) (part : Part ℕ) (open_part : Begun) : Type 0 where
  start : State ℕ
  resumes : resumed store open_part.uuid ≡ Some start
  edits : (place : ℕ) → edits_made 0 as_bytes open_part.version place start open_part.commands ≡ Some (record { store = store; part = Some part })

abbrev Keeps : Store ℕ → Option (Part ℕ) → Option Begun → Type 0
Keeps store None None = Unit {0}
Keeps store None (Some open_part) = ⊥
Keeps store (Some part) None = ⊥
Keeps store (Some part) (Some open_part) = IsKept store part open_part

-- ---- a head

-- the entry that began is the one of its uuid
found_last : (store : Store ℕ) (head : Head) → has_uuid head.key.uuid store ≡ false → unfinished_at head.key.uuid (store ++ unfinished head ∷ []) ≡ Some (unfinished head)
unfolding unfinished_at
found_last [] head new = rw (bytes_eq_same head.key.uuid) refl
found_last (e ∷ store) head new = let p = or_parts (bytes_eq e.key.uuid head.key.uuid) (has_uuid head.key.uuid store) new in rw p.0 (found_last store head p.1)

-- what a part starts from does not look at unfinished entries
start_same : (store : Store ℕ) (head : Head) (parent : Option Key) → start_from (store ++ unfinished head ∷ []) parent ≡ start_from store parent
start_same store head None = refl
start_same store head (Some key) = ap (λ (o : Option (Subvolume ℕ)). found o NoParent) (finds_unfinished head store key)

keeps_head : (store : Store ℕ) (head : Head) (version : ℕ) (start : Subvolume ℕ) → begun store head ≡ Ok start
    → IsKept (store ++ unfinished head ∷ []) (record { key = head.key; subvolume = start }) (record { uuid = head.key.uuid; version = version; commands = [] })
unfolding resumed edits_made
keeps_head store head version start e =
    let b = begun_begins store head start e in
    let all : Store ℕ = store ++ unfinished head ∷ [] in
    record {
      start = record { store = all; part = Some (record { key = head.key; subvolume = start }) };
      resumes = ap (λ (o : Option (Entry (Subvolume ℕ))). elim o as (λ x. Option (State ℕ)) [ None ↦ None | Some e ↦ started all e ]) (found_last store head b.new_uuid)
          ∙ ap (λ (r : Result (Subvolume ℕ) Refusal). elim r as (λ x. Option (State ℕ)) [ Err refusal ↦ None | Ok s ↦ Some (record { store = all; part = Some (record { key = head.key; subvolume = s }) }) ])
          (start_same store head head.parent ∙ b.from);
      edits = λ place. refl;
    }

-- ---- an edit

-- One edit more of the open part.
keeps_edit : (store : Store ℕ) (part : Part ℕ) (open_part : Begun) (c : Command) (s : Subvolume ℕ) → edit_part 0 (bytes_of c) store part c ≡ Ok s → IsKept store part open_part
    → IsKept store (record { key = part.key; subvolume = s }) (and_command c open_part)
unfolding step_edit
keeps_edit store part open_part c s e keeps = record {
  start = keeps.start;
  resumes = keeps.resumes;
  edits = λ place. edits_more open_part.version place keeps.start open_part.commands c
      ∙ ap (λ (o : Option (State ℕ)). elim o as (λ x. Option (State ℕ)) [ None ↦ None | Some middle ↦ taken (step_edit 0 (bytes_of c) middle c) ]) (keeps.edits place)
      ∙ ap (λ (r : Result (Subvolume ℕ) Refusal). taken (edited store part r)) e;
}

-- ---- groups one after the other

module _ (start : Store ℕ) where
  -- Groups make one store after the other, each of which is on the way to the end, and the last one
  -- is the end.
  abbrev pub Passes : Store ℕ → ℕ → Store ℕ → List Group → Type 0
  Passes end gate store [] = (store ≡ end) × IsPassed start end store
  Passes end gate store (group ∷ groups) =
      IsPassed start end store × ((next : Store ℕ) × (made 0 as_bytes (body_at gate) store group.content ≡ Some next) × Passes end (body_at gate + length (body_bytes group)) next groups)

  passes_made : (end : Store ℕ) (gate : ℕ) (store : Store ℕ) (groups : List Group) → Passes end gate store groups → made_all 0 as_bytes gate store groups ≡ Some end
  unfolding made_all
  passes_made end gate store [] p = let some : Store ℕ → Option (Store ℕ) = λ s. Some s in ap some p.0
  passes_made end gate store (group ∷ groups) p =
      let behind : ℕ = body_at gate + length (body_bytes group) in
      ap (λ (o : Option (Store ℕ)). elim o as (λ x. Option (Store ℕ)) [ None ↦ None | Some s ↦ made_all 0 as_bytes behind s groups ]) p.1.1
      ∙ passes_made end behind p.1.0 groups p.1.2

  passes_here : (end : Store ℕ) (gate : ℕ) (store : Store ℕ) (groups : List Group) → Passes end gate store groups → IsPassed start end store
  passes_here end gate store [] p = p.1
  passes_here end gate store (group ∷ groups) p = p.0

  -- What the first of them make.
  passes_first : (end : Store ℕ) (gate : ℕ) (store : Store ℕ) (first more : List Group) → Passes end gate store (first ++ more)
      → (now : Store ℕ) × (made_all 0 as_bytes gate store first ≡ Some now) × IsPassed start end now
  unfolding made_all
  passes_first end gate store [] more p = (store, refl, passes_here end gate store more p)
  passes_first end gate store (group ∷ first) more p =
      let behind : ℕ = body_at gate + length (body_bytes group) in
      let later = passes_first end behind p.1.0 first more p.1.2 in (
        later.0,
        ap (λ (o : Option (Store ℕ)). elim o as (λ x. Option (Store ℕ)) [ None ↦ None | Some s ↦ made_all 0 as_bytes behind s first ]) p.1.1 ∙ later.1,
        later.2,
      )

  -- The open part is closed, and other groups follow.
  closes : (end : Store ℕ) (gate : ℕ) (store : Store ℕ) (part : Option (Part ℕ)) (open_part : Option Begun) (more : List Group) → Keeps store part open_part → IsPassed start end store
      → ((next : ℕ) → Passes end next (completed (record { store = store; part = part })) more) → Passes end gate store (closed open_part ++ more)
  unfolding made completed
  closes end gate store None None more keeps here rest = rest gate
  closes end gate store None (Some open_part) more keeps here rest = absurd keeps
  closes end gate store (Some part) None more keeps here rest = absurd keeps
  closes end gate store (Some part) (Some open_part) more keeps here rest =
      let through : Option (State ℕ) → Option (Store ℕ) = λ o. elim o as (λ x. Option (Store ℕ)) [ None ↦ None | Some state ↦ option_map completed (edits_made 0 as_bytes open_part.version (frames_at (body_at gate)) state open_part.commands) ] in (
        here,
        (
          completed (record { store = store; part = Some part }),
          ap through keeps.resumes ∙ ap (λ (o : Option (State ℕ)). option_map completed o) (keeps.edits (frames_at (body_at gate))),
          rest (body_at gate + length (body_bytes (body_of open_part))),
        ),
      )

-- ---- one item

abbrev pub does : State ℕ → Item → After (State ℕ)
does s item = step 0 (byte_cells item) s item.command

abbrev pub run_from : Watched (State ℕ) → List Item → Ran (Watched (State ℕ))
run_from w items = run_by (watched_step does) w items

-- All items from here on write groups that pass to what they leave.
abbrev PassesAll : Store ℕ → List Item → Type 0
PassesAll start items = (gate : ℕ) (w : Watched (State ℕ)) (open_part : Option Begun) → Keeps w.state.store w.state.part open_part → IsOn start w.state.store w.state.part
    → Passes start (run_from w items).state.state.store gate w.state.store (groups_from w open_part items)

-- What is written behind what an item closes, by what it left.
abbrev written_after : Item → List Item → Option Begun → After (Watched (State ℕ)) → List Group
written_after item items open_part after = elim after.refusal [
  | Some refusal ↦ []
  | None ↦ begun_by item.command ++ groups_from after.state (begun_after open_part item) items
]

abbrev left_after : Item → List Item → After (Watched (State ℕ)) → Store ℕ
left_after item items after = (then_run item after (run_from after.state items)).state.state.store

module _ (start : Store ℕ) (item : Item) (items : List Item) (guards : List Guard) (rest : PassesAll start items) where
  -- What an item and those behind it leave is later than what it leaves.
  left_later : (old : Store ℕ) (after : Stepped ℕ) → IsOn start after.state.store after.state.part → Goes start old after.state.store → Goes start old (left_after item items (watched guards after))
  left_later old after on goes = one after.refusal
    where
      next : Watched (State ℕ)
      next = record { guards = guards; state = after.state }

      one : (o : Option Refusal) → Goes start old (then_run item (record { state = next; refusal = o }) (run_from next items)).state.state.store
      one None = goes_twice start old after.state.store (run_from next items).state.state.store goes (run_on 0 byte_cells start next items on).1
      one (Some refusal) = goes

  -- a head behind what it closed
  head_passes : (gate : ℕ) (whole : Store ℕ) (open_part : Option Begun) (head : Head) (r : Result (Subvolume ℕ) Refusal) → head_of item.command ≡ Some head → begun whole head ≡ r → IsClosed start whole
      → Passes start (left_after item items (watched guards (entered whole head r))) gate whole (written_after item items open_part (watched guards (entered whole head r)))
  unfolding made marked step_head completed
  head_passes gate whole open_part head (Err refusal) is e done = (refl, own_between start whole None done)
  head_passes gate whole open_part head (Ok s) is e done =
      let all : Store ℕ = whole ++ unfinished head ∷ [] in
      let part : Part ℕ = record { key = head.key; subvolume = s } in
      let next : Watched (State ℕ) = record { guards = guards; state = record { store = all; part = Some part } } in
      let fresh : Begun = record { uuid = head.key.uuid; version = item.version; commands = [] } in
      let mark : Group = record { content = Mark item.command; is_sealed = true } in
      let end : Store ℕ = (run_from next items).state.state.store in
      let led = entered_on start whole head (Ok s) e done in
      let written : Option Head → List Group = λ o. (elim o as (λ x. List Group) [ None ↦ [] | Some h ↦ mark ∷ [] ]) ++ groups_from next (elim o as (λ x. Option Begun) [
        | Some h ↦ Some (record { uuid = h.key.uuid; version = item.version; commands = [] })
        | None ↦ begun_after_edit item open_part
      ]) items in
      subst (λ (o : Option Head). Passes start end gate whole (written o)) (sym is) (
        on_way start whole None end done (goes_twice start whole all end led.1 (run_on 0 byte_cells start next items led.0).1),
        (
          all,
          ap (λ (o : Option Head). elim o as (λ x. Option (Store ℕ)) [ None ↦ None | Some h ↦ option_map (λ state. state.store) (taken (step_head (start_of whole) h)) ]) is
              ∙ ap (λ (r : Result (Subvolume ℕ) Refusal). option_map (λ (state : State ℕ). state.store) (taken (entered whole head r))) e,
          rest (body_at gate + length (body_bytes mark)) next (Some fresh) (keeps_head whole head item.version s e) led.0,
        ),
      )

  -- an edit
  edit_passes : (gate : ℕ) (store : Store ℕ) (part : Part ℕ) (open_part : Begun) (r : Result (Subvolume ℕ) Refusal) → head_of item.command ≡ None → is_end item.command ≡ false
      → edit_part 0 (bytes_of item.command) store part item.command ≡ r → IsKept store part open_part → IsOpen start store part
      → Passes start (left_after item items (watched guards (edited store part r))) gate store (written_after item items (Some open_part) (watched guards (edited store part r)))
  edit_passes gate store part open_part (Err refusal) no_head no_end e keeps on = (refl, own_between start store (Some part) on)
  edit_passes gate store part open_part (Ok s) no_head no_end e keeps on =
      let next : Watched (State ℕ) = record { guards = guards; state = record { store = store; part = Some (record { key = part.key; subvolume = s }) } } in
      let end : Store ℕ = (run_from next items).state.state.store in
      let written : Option Head → List Group = λ o. (elim o as (λ x. List Group) [ None ↦ [] | Some h ↦ record { content = Mark item.command; is_sealed = true } ∷ [] ]) ++ groups_from next (elim o as (λ x. Option Begun) [
        | Some h ↦ Some (record { uuid = h.key.uuid; version = item.version; commands = [] })
        | None ↦ begun_after_edit item (Some open_part)
      ]) items in
      subst (λ (o : Option Head). Passes start end gate store (written o)) (sym no_head)
      (subst (λ (b : Bool). Passes start end gate store (groups_from next (if b then None else Some (and_command item.command open_part)) items)) (sym no_end)
      (rest gate next (Some (and_command item.command open_part)) (keeps_edit store part open_part item.command s e keeps) (edited_on start store part (Ok s) on).0))

  -- What is written for an item that no guard refuses, where it leaves this.
  abbrev Writes : ℕ → State ℕ → Option Begun → Bool → Stepped ℕ → Type 0
  Writes gate state open_part edits after =
      Passes start (left_after item items (watched guards after)) gate state.store ((if edits then [] else closed open_part) ++ written_after item items open_part (watched guards after))

  by_head : (gate : ℕ) (store : Store ℕ) (part : Option (Part ℕ)) (open_part : Option Begun) (head : Head) → head_of item.command ≡ Some head → Keeps store part open_part → IsOn start store part
      → Writes gate (record { store = store; part = part }) open_part false (step_head (record { store = store; part = part }) head)
  unfolding step_head
  by_head gate store part open_part head is keeps on =
      let whole : Store ℕ = completed (record { store = store; part = part }) in
      let after : Stepped ℕ = entered whole head (begun whole head) in
      let end : Store ℕ = left_after item items (watched guards after) in
      let done = completed_on start store part on in
      let led = entered_on start whole head (begun whole head) refl done.0 in
      closes start end gate store part open_part (written_after item items open_part (watched guards after)) keeps
      (on_way start store part end on (left_later store after led.0 (goes_twice start store whole after.state.store done.1 led.1)))
      (λ next. head_passes next whole open_part head (begun whole head) is refl done.0)

  by_edit : (gate : ℕ) (store : Store ℕ) (part : Option (Part ℕ)) (open_part : Option Begun) → head_of item.command ≡ None → is_end item.command ≡ false → Keeps store part open_part → IsOn start store part
      → Writes gate (record { store = store; part = part }) open_part true (step_edit 0 (bytes_of item.command) (record { store = store; part = part }) item.command)
  unfolding step_edit
  by_edit gate store None open_part no_head no_end keeps on = (refl, own_between start store None on)
  by_edit gate store (Some part) None no_head no_end keeps on = absurd keeps
  by_edit gate store (Some part) (Some open_part) no_head no_end keeps on =
      edit_passes gate store part open_part (edit_part 0 (bytes_of item.command) store part item.command) no_head no_end refl keeps on

-- END
by_end : (start : Store ℕ) (item : Item) (items : List Item) (guards : List Guard) (rest : PassesAll start items) (gate : ℕ) (store : Store ℕ) (part : Option (Part ℕ)) (open_part : Option Begun)
    → Keeps store part open_part → IsOn start store part
    → Writes start (record item { command = End }) items guards rest gate (record { store = store; part = part }) open_part false (step 0 [] (record { store = store; part = part }) End)
unfolding step
by_end start item items guards rest gate store part open_part keeps on =
    let whole : Store ℕ = completed (record { store = store; part = part }) in
    let next : Watched (State ℕ) = record { guards = guards; state = record { store = whole; part = None } } in
    let end : Store ℕ = (run_from next items).state.state.store in
    let done = completed_on start store part on in
    closes start end gate store part open_part (groups_from next None items) keeps
    (on_way start store part end on (goes_twice start store whole end done.1 (run_on 0 byte_cells start next items done.0).1))
    (λ place. rest place next None tt done.0)

pub edit_facts : (c : Command) → is_edit c ≡ true → (head_of c ≡ None) × (is_end c ≡ false)
edit_facts (Subvol uuid ctransid path) h = absurd (false≢true h)
edit_facts (Snapshot uuid ctransid path clone_uuid clone_ctransid) h = absurd (false≢true h)
edit_facts End h = absurd (false≢true h)
edit_facts c h = (refl, refl)

pub head_fact : (c : Command) (head : Head) → head_of c ≡ Some head → is_edit c ≡ false
head_fact c head is = ap (λ (o : Option Head). is_none o && not (is_end c)) is

allowed : (start : Store ℕ) (item : Item) (items : List Item) (guards : List Guard) (rest : PassesAll start items) (gate : ℕ) (store : Store ℕ) (part : Option (Part ℕ)) (open_part : Option Begun)
    → Keeps store part open_part → IsOn start store part
    → Writes start item items guards rest gate (record { store = store; part = part }) open_part (is_edit item.command) (does (record { store = store; part = part }) item)
allowed start item items guards rest gate store part open_part keeps on =
    let state : State ℕ = record { store = store; part = part } in
    let c : Command = item.command in
    elim (sort_of c) as (λ x. Writes start item items guards rest gate state open_part (is_edit c) (does state item)) [
      | inl h ↦ subst (λ (b : Bool). Writes start item items guards rest gate state open_part b (does state item)) (sym (head_fact c h.0 h.1))
          (subst (λ (a : Stepped ℕ). Writes start item items guards rest gate state open_part false a) (sym (head_step 0 (bytes_of c) state c h.0 h.1))
          (by_head start item items guards rest gate store part open_part h.0 h.1 keeps on))
      | inr (inl e) ↦ subst (λ (d : Command). Writes start (record item { command = d }) items guards rest gate state open_part (is_edit d) (does state (record item { command = d }))) (sym e)
          (by_end start item items guards rest gate store part open_part keeps on)
      | inr (inr e) ↦ let f = edit_facts c e in subst (λ (b : Bool). Writes start item items guards rest gate state open_part b (does state item)) (sym e)
          (subst (λ (a : Stepped ℕ). Writes start item items guards rest gate state open_part true a) (sym (edit_step 0 (bytes_of c) state c e))
          (by_edit start item items guards rest gate store part open_part f.0 f.1 keeps on))
    ]

-- ---- all items

one_item : (start : Store ℕ) (item : Item) (items : List Item) → PassesAll start items → PassesAll start (item ∷ items)
unfolding groups_from run_by
one_item start item items rest gate w open_part keeps on =
    subst (λ (a : After (Watched (State ℕ))). Passes start (left_after item items a) gate w.state.store (closed_by w.guards item.command open_part ++ written_after item items open_part a))
    (sym (looks_are (State ℕ) does w item)) (one (guarded w.guards item.command))
  where
    none_closed : (b : Bool) → ◌++◌ {A = Group} (if b then [] else []) [] ≡ []
    none_closed true = refl
    none_closed false = refl

    one : (o : Option Refusal) → Passes start (left_after item items (after_looks (State ℕ) does w item o)) gate w.state.store
        ((if is_edit item.command then [] else (elim o as (λ x. List Group) [ Some refusal ↦ [] | None ↦ closed open_part ])) ++ written_after item items open_part (after_looks (State ℕ) does w item o))
    one None = allowed start item items (looked w.guards item.command) rest gate w.state.store w.state.part open_part keeps on
    one (Some refusal) = subst (λ (groups : List Group). Passes start w.state.store gate w.state.store groups) (sym (none_closed (is_edit item.command))) (refl, own_between start w.state.store w.state.part on)

all_items : (start : Store ℕ) (items : List Item) → PassesAll start items
unfolding groups_from run_by
all_items start [] gate w open_part keeps on = (refl, own_between start w.state.store w.state.part on)
all_items start (item ∷ items) gate w open_part keeps on = one_item start item items (all_items start items) gate w open_part keeps on

written_passes : (gate : ℕ) (store : Store ℕ) (guards : List Guard) (items : List Item)
    → Passes store (received 0 byte_cells store guards items).state.state.store gate store (groups_of store guards items)
unfolding received
written_passes gate store guards items = all_items store items gate (record { guards = guards; state = start_of store }) None tt (start_closed 0 byte_cells store)

pub written_is_received : WrittenIsReceived
written_is_received gate store guards items =
    passes_made store (received 0 byte_cells store guards items).state.state.store gate store (groups_of store guards items) (written_passes gate store guards items)

pub first_groups_are_states : FirstGroupsAreStates
first_groups_are_states gate store guards items first more is =
    let end : Store ℕ = (received 0 byte_cells store guards items).state.state.store in
    passes_first store end gate store first more (subst (λ (groups : List Group). Passes store end gate store groups) is (written_passes gate store guards items))
