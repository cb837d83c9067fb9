-- The own stream of an entry is taken by every store that finds what was there when its edits were
-- made.
use Rattle.std.specs.Prelude.{◌≡◌, ◌⊎◌, ℕ, ◌<◌, Bool, true, false, not, List, [], ◌∷◌, ◌++◌, length, map, take, Option, None, Some, Ok, if◌then◌else◌}
use Rattle.std.specs.List.{AllByRecursion, filter}
use Rattle.std.specs.Str.{bytes_eq}
use Rattle.std.proofs.Common.{refl, sym, ap, subst, ◌∙◌, inl, inr}
use Rattle.send_model.specs.Refusal.{NoParent}
use Rattle.send_model.specs.Chain.{found}
use Rattle.send_model.specs.Command.{Command, End}
use Rattle.send_model.specs.Reading.{is_version, reads}
use Rattle.send_model.specs.Subvolume.{Subvolume}
use Rattle.send_model.specs.Store.{Key, Head, head_of, Entry, Store, Stepped, has_uuid, find, completed, unfinished, begun, start_from, entered, step_head, edit_part, edited, step}
use Rattle.send_model.specs.Receive.{bytes_of, start_of}
use Rattle.send_model.specs.Outside.{keys_named, all_keys_named, SameOn}
use Rattle.send_model.specs.Counts.{is_end}
use Rattle.send_model.specs.Composed.{head_command}
use Rattle.send_model.proofs.ElementLaws.{all_first, all_rest}
use Rattle.send_model.proofs.Sorts.{head_step, same_inside}
use Rattle.send_model.proofs.Stores.{completes_new, finds_unfinished}
use Rattle.send_model.proofs.Merging.{begins_begun}
use Rattle.send_model.proofs.Runs.{step_of, Takes, Takes-append}
use Rattle.send_model.proofs.SeparatedCounts.{inner_step, same_edit}
use Rattle.send_model.proofs.Streams.{IsInner, read_version, stream_read}
use Rattle.send_model.proofs.Prefixes.{IsFaulty, stream_cut}
use Rattle.send_model.proofs.Headlines.{received_one}
use Rattle.send_model.proofs.SpelledRuns.{head_spelled}
use Rattle.store_model.specs.Image.{Header}
use Rattle.store_model.specs.Stored.{IsEdit, Group, IsGroup, body_bytes, as_bytes, StandsFor}
use Rattle.store_model.specs.Dues.{complete_named}
use Rattle.store_model.proofs.OneStore.{one_store}
use Rattle.store_model.proofs.OneJournal.{one_header, one_journal}
use Rattle.store_model.proofs.OneSaying.{bodies_one}
use Rattle.stream_model.specs.OwnStream.{Edits, own_commands, own_stream, last_edits, CanTake, IsTakenAgain}
use Rattle.stream_model.specs.StreamDues.{Found, IsStreamOf}
use Rattle.stream_model.specs.StreamLaws.{OwnStreamIsTaken, DueIsTaken, CutIsNotWhole}
use Rattle.stream_model.proofs.Edits.{Edited, part_with, in_part, edit_sort, found_last}
use Rattle.stream_model.proofs.Known.{ParentFits, IsTold, IsLocated, stands_known, complete_in}

-- ---- what is found there

-- The keys that are asked and the part's own are all that are named.
asked_or_own : (P : Key → Type 0) (uuid : List ℕ) (ks : List Key) → AllByRecursion P (filter (λ key. not (bytes_eq key.uuid uuid)) ks) → AllByRecursion (λ key. (bytes_eq key.uuid uuid ≡ true) ⊎ P key) ks
asked_or_own P uuid [] all = tt
asked_or_own P uuid (k ∷ ks) all = one (bytes_eq k.uuid uuid) refl (asked_or_own P uuid ks) all
  where
    one : (b : Bool) → bytes_eq k.uuid uuid ≡ b
        → (AllByRecursion P (filter (λ key. not (bytes_eq key.uuid uuid)) ks) → AllByRecursion (λ key. (bytes_eq key.uuid uuid ≡ true) ⊎ P key) ks)
        → AllByRecursion P (if not b then k ∷ filter (λ key. not (bytes_eq key.uuid uuid)) ks else filter (λ key. not (bytes_eq key.uuid uuid)) ks)
        → ((bytes_eq k.uuid uuid ≡ true) ⊎ P k) × AllByRecursion (λ key. (bytes_eq key.uuid uuid ≡ true) ⊎ P key) ks
    one true e more all = (inl e, more all)
    one false e more all = (inr all.0, more all.1)

-- Behind a new head a store finds what it found.
still_found : (was other : Store ℕ) (head : Head) (uuid : List ℕ) (ks : List Key) → AllByRecursion (λ key. (bytes_eq key.uuid uuid ≡ true) ⊎ (find was key ≡ find other key)) ks
    → AllByRecursion (λ key. (bytes_eq key.uuid uuid ≡ true) ⊎ (find was key ≡ find (other ++ unfinished head ∷ []) key)) ks
still_found was other head uuid [] all = tt
still_found was other head uuid (k ∷ ks) all = (one all.0, still_found was other head uuid ks all.1)
  where
    one : (bytes_eq k.uuid uuid ≡ true) ⊎ (find was k ≡ find other k) → (bytes_eq k.uuid uuid ≡ true) ⊎ (find was k ≡ find (other ++ unfinished head ∷ []) k)
    one (inl own) = inl own
    one (inr same) = inr (same ∙ sym (finds_unfinished head other k))

same_start : (was other : Store ℕ) (name : List ℕ) (key : Key) (parent : Option Key) (start : Subvolume ℕ) → SameOn was other (keys_named (head_command name key parent)) → start_from was parent ≡ Ok start → start_from other parent ≡ Ok start
same_start was other name key None start same from = from
same_start was other name key (Some k) start same from = ap (λ (o : Option (Subvolume ℕ)). found o NoParent) (sym same.0) ∙ from

-- ---- edits

-- Edits of a part are taken over each store that finds what they found.
edits_taken : (version : ℕ) (was other : Store ℕ) (key : Key) (s t : Subvolume ℕ) (cs : List Command) → AllByRecursion (IsEdit version) cs
    → AllByRecursion (λ k. (bytes_eq k.uuid key.uuid ≡ true) ⊎ (find was k ≡ find other k)) (all_keys_named cs) → Edited was key s cs t → Takes (in_part other key s) cs (in_part other key t)
edits_taken version was other key s t [] are same e = ap (λ (x : Subvolume ℕ). in_part other key x) e
edits_taken version was other key s t (c ∷ cs) are same e =
    let sort = edit_sort c are.0.0 in
    let part = part_with key s in
    let P : Key → Type 0 = λ k. (bytes_eq k.uuid key.uuid ≡ true) ⊎ (find was k ≡ find other k) in
    let here : edit_part 0 (bytes_of c) other part c ≡ Ok e.0 =
    sym (same_edit (bytes_of c) was other part c (record { no_end = sort.1; no_head = sort.0; sources = all_first P (keys_named c) (all_keys_named cs) same })) ∙ e.1 in
    let stepped : step_of (in_part other key s) c ≡ record { state = in_part other key e.0; refusal = None } =
    inner_step (bytes_of c) other part c sort.1 sort.0 ∙ ap (edited other part) here in
    subst (λ (x : Stepped ℕ). (x.refusal ≡ None) × Takes x.state cs (in_part other key t)) (sym stepped)
    (refl, edits_taken version was other key e.0 t cs are.1 (all_rest P (keys_named c) (all_keys_named cs) same) e.2)

-- ---- the head and END

head_is : (name : List ℕ) (key : Key) (parent : Option Key) → head_of (head_command name key parent) ≡ Some (record { name = name; key = key; parent = parent })
head_is name key None = refl
head_is name key (Some k) = refl

head_no_end : (name : List ℕ) (key : Key) (parent : Option Key) → is_end (head_command name key parent) ≡ false
head_no_end name key None = refl
head_no_end name key (Some k) = refl

head_taken : (other : Store ℕ) (head : Head) (start : Subvolume ℕ) → begun other head ≡ Ok start
    → step_of (start_of other) (head_command head.name head.key head.parent) ≡ record { state = in_part (other ++ unfinished head ∷ []) head.key start; refusal = None }
unfolding step_head completed
head_taken other head start b =
    let c : Command = head_command head.name head.key head.parent in
    head_step 0 (bytes_of c) (start_of other) c head (head_is head.name head.key head.parent) ∙ ap (entered other head) b

end_taken : (other : Store ℕ) (head : Head) (s : Subvolume ℕ) → has_uuid head.key.uuid other ≡ false
    → Takes (in_part (other ++ unfinished head ∷ []) head.key s) (End ∷ []) (start_of (other ++ record { name = head.name; key = head.key; parent = head.parent; contents = Some s } ∷ []))
unfolding step completed
end_taken other head s n = (refl, ap (λ (x : Store ℕ). start_of x) (completes_new head s other n))

-- ---- all of it

module _ (e : Entry (Subvolume ℕ)) (told : IsTold e) (s : Subvolume ℕ) (holds : e.contents ≡ Some s) (was : Store ℕ) (edits : Edits) (version : is_version edits.version ≡ true) (are : AllByRecursion (IsEdit edits.version) edits.commands)
    (start : Subvolume ℕ) (from : start_from was e.parent ≡ Ok start) (made : Edited was e.key start edits.commands s) where
  head : Head
  head = record { name = e.name; key = e.key; parent = e.parent }

  all_taken : (other : Store ℕ) → CanTake was e edits other → Takes (start_of other) (own_commands e edits) (start_of (other ++ e ∷ []))
  unfolding head
  all_taken other can =
      let named : List Key = keys_named (head_command e.name e.key e.parent) in
      let others : List Key = filter (λ key. not (bytes_eq key.uuid e.key.uuid)) (all_keys_named edits.commands) in
      let P : Key → Type 0 = λ key. find was key ≡ find other key in
      let there = other ++ unfinished head ∷ [] in
      let b : begun other head ≡ Ok start =
      begins_begun other head start (record { named = told.name; new_name = can.no_name; new_uuid = can.no_uuid; from = same_start was other e.name e.key e.parent start (all_first P named others can.same) from }) in
      let inner : Takes (in_part there e.key start) edits.commands (in_part there e.key s) =
      edits_taken edits.version was there e.key start s edits.commands are
      (still_found was other head e.key.uuid (all_keys_named edits.commands) (asked_or_own P e.key.uuid (all_keys_named edits.commands) (all_rest P named others can.same))) made in
      let ends : Takes (in_part there e.key s) (End ∷ []) (start_of (other ++ e ∷ [])) =
      subst (λ (o : Option (Subvolume ℕ)). Takes (in_part there e.key s) (End ∷ []) (start_of (other ++ record { name = e.name; key = e.key; parent = e.parent; contents = o } ∷ []))) (sym holds) (end_taken other head s can.no_uuid) in
      subst (λ (x : Stepped ℕ). (x.refusal ≡ None) × Takes x.state (edits.commands ++ End ∷ []) (start_of (other ++ e ∷ []))) (sym (head_taken other head start b))
      (refl, Takes-append edits.commands (End ∷ []) (in_part there e.key start) (in_part there e.key s) (start_of (other ++ e ∷ [])) inner ends)

  inner_edits : (cs : List Command) → AllByRecursion (IsEdit edits.version) cs → AllByRecursion (IsInner edits.version) cs
  inner_edits [] all = tt
  inner_edits (c ∷ cs) all = ((record { spellable = all.0.1 }, (edit_sort c all.0.0).1), inner_edits cs all.1)

  pub all_inner : AllByRecursion (IsInner edits.version) (head_command e.name e.key e.parent ∷ edits.commands)
  all_inner = (
    (record { spellable = head_spelled edits.version (read_version edits.version version) e.name e.key e.parent told.path told.key (fits e.parent told.parent) }, head_no_end e.name e.key e.parent),
    inner_edits edits.commands are,
  )
    where
      fits : (parent : Option Key) → ParentFits parent → ParentFits parent
      fits None p = p
      fits (Some k) p = p

  pub taken_again : IsTakenAgain was e edits (own_stream e edits)
  unfolding own_stream
  taken_again =
      let read = stream_read 1 edits.version (head_command e.name e.key e.parent ∷ edits.commands) version all_inner in
      record {
        whole = read.whole;
        commands = read.commands;
        gets = λ other can. received_one other (own_stream e edits) (own_commands e edits) (start_of (other ++ e ∷ [])) read (all_taken other can);
      }

-- ---- of an image

has_last : (groups : List Group) (e : Entry (Subvolume ℕ)) (s : Subvolume ℕ) (l : IsLocated groups e s) → last_edits e.key.uuid groups ≡ Some l.edits
has_last groups e s l =
    let p = l.place in
    ap (last_edits e.key.uuid) p.are ∙ found_last e.key.uuid p.before p.behind p.group l.edits p.says p.last

pub own_stream_is_taken : OwnStreamIsTaken
own_stream_is_taken image name store stands found here =
    let there = complete_in name store found here in
    let known = stands_known image store stands found.0 there.0 in
    let l = known.located found.1 there.1 in
    (l.edits, l.was, has_last stands.groups found.0 found.1 l, l.place, taken_again found.0 known.told found.1 there.1 l.was l.edits l.version l.are l.start l.from l.edited)

-- The groups of an image are one list.
pub groups_one : (image : List ℕ) (s t : Store ℕ) (left : StandsFor image s) (right : StandsFor image t) → left.groups ≡ right.groups
groups_one image s t left right =
    let header : left.header ≡ right.header = one_header image left.header right.header (map body_bytes left.groups) (map body_bytes right.groups) left.has right.has in
    let bodies : map body_bytes left.groups ≡ map body_bytes right.groups = one_journal image left.header right.header (map body_bytes left.groups) (map body_bytes right.groups) left.has right.has in
    bodies_one right.header.format left.groups right.groups (subst (λ (h : Header). AllByRecursion (IsGroup h.format) left.groups) header left.makes.lawful) right.makes.lawful bodies

-- What is known of one reading of an image is known of another.
pub same_stream : (image name written : List ℕ) (own : IsStreamOf image name written) (store : Store ℕ) (stands : StandsFor image store) (found : Found) → complete_named name store ≡ Some found
    → (edits : Edits) → last_edits found.0.key.uuid stands.groups ≡ Some edits → written ≡ own_stream found.0 edits
same_stream image name written own store stands found here edits has =
    let stores : own.store ≡ store = one_store 0 as_bytes image own.store store own.stands stands in
    let founds : own.found ≡ found = same_inside (sym own.here ∙ ap (complete_named name) stores ∙ here) in
    let groups : own.stands.groups ≡ stands.groups = groups_one image own.store store own.stands stands in
    let edited : own.edits ≡ edits =
    same_inside (sym own.has ∙ ap (λ (f : Found). last_edits f.0.key.uuid own.stands.groups) founds ∙ ap (last_edits found.0.key.uuid) groups ∙ has) in
    own.is ∙ ap (λ (f : Found). own_stream f.0 own.edits) founds ∙ ap (own_stream found.0) edited

pub due_is_taken : DueIsTaken
due_is_taken image name written own store stands found here =
    let t = own_stream_is_taken image name store stands found here in
    (t.0, t.1, t.3, subst (IsTakenAgain t.1 found.0 t.0) (sym (same_stream image name written own store stands found here t.0 t.2)) t.4)

pub cut_is_not_whole : CutIsNotWhole
unfolding own_stream
cut_is_not_whole image name whole written own cut is_whole =
    let there = complete_in name own.store own.found own.here in
    let known = stands_known image own.store own.stands own.found.0 there.0 in
    let l = known.located own.found.1 there.1 in
    let is : whole ≡ own_stream own.found.0 l.edits = same_stream image name whole own own.store own.stands own.found own.here l.edits (has_last own.stands.groups own.found.0 own.found.1 l) in
    let inner = all_inner own.found.0 known.told own.found.1 there.1 l.was l.edits l.version l.are l.start l.from l.edited in
    let less : cut.count < length (own_stream own.found.0 l.edits) = subst (λ (x : List ℕ). cut.count < length x) is cut.within in
    (subst (λ (x : List ℕ). IsFaulty (reads 1 x)) (sym (cut.written_is ∙ ap (take cut.count) is)) (stream_cut 1 l.edits.version (head_command own.found.0.name own.found.0.key own.found.0.parent ∷ l.edits.commands) cut.count l.version inner less)) is_whole
