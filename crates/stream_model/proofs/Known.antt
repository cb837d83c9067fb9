-- Where the edits of each complete entry of a store are among its groups, and what they made it of.
use Rattle.std.specs.Prelude.{◌≡◌, ◌⊎◌, ℕ, ◌+◌, Bool, true, false, not, ◌&&◌, List, [], ◌∷◌, ◌++◌, length, Option, None, Some, Result, Ok, Err, is_none, if◌then◌else◌}
use Rattle.std.specs.List.{AllByRecursion, filter}
use Rattle.std.specs.Option.{option_map}
use Rattle.std.specs.Str.{bytes_eq}
use Rattle.std.proofs.Common.{refl, sym, ap, subst, ◌∙◌, inl, inr, append_assoc, append-nil}
use Rattle.std.proofs.lemmas.Bool.{true≢false}
use Rattle.send_model.specs.Refusal.{Refusal}
use Rattle.send_model.specs.Command.{Command, Subvol, Snapshot, row}
use Rattle.send_model.specs.Spelling.{IsSpellable}
use Rattle.send_model.specs.Path.{is_name}
use Rattle.send_model.specs.Reading.{is_version}
use Rattle.send_model.specs.Subvolume.{Subvolume}
use Rattle.send_model.specs.Store.{Key, Head, head_of, Entry, Store, State, IsStore, has_name, with_contents, completed, unfinished, begun, start_from, entered, step_head}
use Rattle.send_model.specs.Receive.{start_of}
use Rattle.send_model.specs.Lawful.{IsLawfulStore}
use Rattle.send_model.proofs.Sorts.{same_inside}
use Rattle.send_model.proofs.Stores.{bytes_eq_same, bytes_eq_true}
use Rattle.send_model.proofs.Merging.{begun_begins}
use Rattle.send_model.proofs.SpelledPieces.{PathFits, KeyFits}
use Rattle.store_model.specs.TurnLaws.{IsIn}
use Rattle.store_model.specs.Dues.{complete_named}
use Rattle.store_model.specs.Stored.{Content, Mark, Body, Drop, Group, body_bytes, IsEdit, IsContent, IsGroup, as_bytes, taken, marked, is_unfinished, unfinished_at, started, resumed, edits_made, dropped, frames_at, made, body_at, made_all, first_gate, StandsFor}
use Rattle.store_model.proofs.Entries.{in_either, was_kept, differ, not_equal, one_uuid, in_contents, Was}
use Rattle.store_model.proofs.Growing.{gate_behind, made-append, made_more}
use Rattle.store_model.proofs.LawfulGroups.{made_lawful}
use Rattle.stream_model.specs.OwnStream.{Edits, edits_in, last_edits, IsBeforeEdits}
use Rattle.stream_model.proofs.Edits.{none_more, Edited, in_part, edits_one_by_one}

abbrev StoredEntry : Type 0
StoredEntry = Entry (Subvolume ℕ)

-- ---- what is known of an entry

abbrev pub ParentFits : Option Key → Type 0
ParentFits None = Unit {0}
ParentFits (Some key) = KeyFits key

-- Its head can be said.
pub record IsTold (e : StoredEntry) : Type 0 where
  pub name : is_name e.name ≡ true
  pub path : PathFits e.name
  pub key : KeyFits e.key
  pub parent : ParentFits e.parent

-- Its edits are the last ones of its uuid, and made its contents of what its parent was.
pub record IsLocated (groups : List Group) (e : StoredEntry) (s : Subvolume ℕ) : Type 0 where
  pub edits : Edits
  pub was : Store ℕ
  pub place : IsBeforeEdits groups e.key.uuid edits was
  pub version : is_version edits.version ≡ true
  pub are : AllByRecursion (IsEdit edits.version) edits.commands
  pub start : Subvolume ℕ
  pub from : start_from was e.parent ≡ Ok start
  pub edited : Edited was e.key start edits.commands s

pub record IsKnown (groups : List Group) (e : StoredEntry) : Type 0 where
  pub told : IsTold e
  pub located : (s : Subvolume ℕ) → e.contents ≡ Some s → IsLocated groups e s

abbrev pub AllKnown : List Group → Store ℕ → Type 0
AllKnown groups store = (e : StoredEntry) → IsIn e store → IsKnown groups e

-- One group more, which says no edits of it.
known_more : (groups : List Group) (g : Group) (e : StoredEntry) → edits_in e.key.uuid g.content ≡ None → IsKnown groups e → IsKnown (groups ++ g ∷ []) e
known_more groups g e none k = record {
  told = k.told;
  located = λ s holds.
      let l = k.located s holds in
      let p = l.place in
      record {
        edits = l.edits;
        was = l.was;
        place = record {
          before = p.before;
          group = p.group;
          behind = p.behind ++ g ∷ [];
          are = ap (λ (x : List Group). x ++ g ∷ []) p.are ∙ append_assoc p.before (p.group ∷ p.behind) (g ∷ []);
          says = p.says;
          last = none_more e.key.uuid p.behind g p.last none;
          makes = p.makes;
        };
        version = l.version;
        are = l.are;
        start = l.start;
        from = l.from;
        edited = l.edited;
      };
}

-- ---- a head

head_told : (c : Command) (head : Head) (contents : Option (Subvolume ℕ)) → head_of c ≡ Some head → IsSpellable 1 c → is_name head.name ≡ true
    → IsTold (record { name = head.name; key = head.key; parent = head.parent; contents = contents })
unfolding row
head_told (Subvol uuid ctransid path) head contents e s is =
    let v = s.values in
    let same : record { name = path; key = record { uuid = uuid; ctransid = ctransid }; parent = None } ≡ head = same_inside e in
    (subst (λ (h : Head). is_name h.name ≡ true → IsTold (record { name = h.name; key = h.key; parent = h.parent; contents = contents })) same
    (λ n. record { name = n; path = v.1.1.0; key = (v.0, v.1.0); parent = tt })) is
head_told (Snapshot uuid ctransid path clone_uuid clone_ctransid) head contents e s is =
    let v = s.values in
    let same : record { name = path; key = record { uuid = uuid; ctransid = ctransid }; parent = Some (record { uuid = clone_uuid; ctransid = clone_ctransid }) } ≡ head = same_inside e in
    (subst (λ (h : Head). is_name h.name ≡ true → IsTold (record { name = h.name; key = h.key; parent = h.parent; contents = contents })) same
    (λ n. record { name = n; path = v.1.1.0; key = (v.0, v.1.0); parent = (v.1.1.1.0, v.1.1.1.1.0) })) is
head_told c head contents e s is = cc

record Marked (store next : Store ℕ) (c : Command) : Type 0 where
  pub head : Head
  pub of : head_of c ≡ Some head
  pub name : is_name head.name ≡ true
  pub is : next ≡ store ++ unfinished head ∷ []

marked_is : (store next : Store ℕ) (c : Command) → marked store c ≡ Some next → Marked store next c
unfolding marked step_head completed
marked_is store next c e = one (head_of c) refl e
  where
    two : (head : Head) → head_of c ≡ Some head → (r : Result (Subvolume ℕ) Refusal) → begun store head ≡ r → option_map (λ state. state.store) (taken (entered store head r)) ≡ Some next → Marked store next c
    two head of (Err refusal) b q = cc
    two head of (Ok start) b q = record { head = head; of = of; name = (begun_begins store head start b).named; is = sym (same_inside q) }

    one : (o : Option Head) → head_of c ≡ o → (elim o as (λ x. Option (Store ℕ)) [ None ↦ None | Some head ↦ option_map (λ state. state.store) (taken (step_head (start_of store) head)) ]) ≡ Some next → Marked store next c
    one None of q = cc
    one (Some head) of q = two head of (begun store head) refl q

after_mark : (groups : List Group) (store next : Store ℕ) (c : Command) (is_sealed : Bool) → IsSpellable 1 c → AllKnown groups store → marked store c ≡ Some next → AllKnown (groups ++ record { content = Mark c; is_sealed = is_sealed } ∷ []) next
after_mark groups store next c is_sealed s all m e within =
    let k = marked_is store next c m in
    one (in_either e store (unfinished k.head ∷ []) (subst (λ (x : Store ℕ). IsIn e x) k.is within))
  where
    one : IsIn e store ⊎ IsIn e (unfinished (marked_is store next c m).head ∷ []) → IsKnown (groups ++ record { content = Mark c; is_sealed = is_sealed } ∷ []) e
    one (inl there) = known_more groups (record { content = Mark c; is_sealed = is_sealed }) e refl (all e there)
    one (inr (inl same)) =
        let k = marked_is store next c m in
        subst (λ (x : StoredEntry). IsKnown (groups ++ record { content = Mark c; is_sealed = is_sealed } ∷ []) x) (sym same)
        (record { told = head_told c k.head None k.of s k.name; located = λ s holds. cc })
    one (inr (inr nothing)) = absurd nothing

-- ---- a drop

after_drop : (groups : List Group) (store next : Store ℕ) (name : List ℕ) (is_sealed : Bool) → AllKnown groups store → dropped store name ≡ Some next → AllKnown (groups ++ record { content = Drop name; is_sealed = is_sealed } ∷ []) next
unfolding dropped
after_drop groups store next name is_sealed all m e within = one (has_name name store) m
  where
    one : (b : Bool) → (if b then Some (filter (λ e. not (bytes_eq e.name name)) store) else None) ≡ Some next → IsKnown (groups ++ record { content = Drop name; is_sealed = is_sealed } ∷ []) e
    one true q = known_more groups (record { content = Drop name; is_sealed = is_sealed }) e refl (all e (was_kept (λ e. not (bytes_eq e.name name)) e store (subst (λ (x : Store ℕ). IsIn e x) (sym (same_inside q)) within)).0)
    one false q = cc

-- ---- edits

left_true : (a b : Bool) → a && b ≡ true → a ≡ true
left_true true b e = refl
left_true false b e = absurd (true≢false (sym e))

unfinished_in : (uuid : List ℕ) (store : Store ℕ) (e : StoredEntry) → unfinished_at uuid store ≡ Some e → IsIn e store × (bytes_eq e.key.uuid uuid ≡ true)
unfolding unfinished_at
unfinished_in uuid [] e h = cc
unfinished_in uuid (x ∷ store) e h = one (is_unfinished uuid x) refl (unfinished_in uuid store e) h
  where
    one : (b : Bool) → is_unfinished uuid x ≡ b → (unfinished_at uuid store ≡ Some e → IsIn e store × (bytes_eq e.key.uuid uuid ≡ true))
        → (if b then Some x else unfinished_at uuid store) ≡ Some e → IsIn e (x ∷ store) × (bytes_eq e.key.uuid uuid ≡ true)
    one true t more q =
        let same : x ≡ e = same_inside q in
        (inl (sym same), subst (λ (y : StoredEntry). bytes_eq y.key.uuid uuid ≡ true) same (left_true (bytes_eq x.key.uuid uuid) (is_none x.contents) t))
    one false t more q = let r = more q in (inr r.0, r.1)

record Completed (store next : Store ℕ) (uuid : List ℕ) (cs : List Command) : Type 0 where
  pub entry : StoredEntry
  pub there : IsIn entry store
  pub own : bytes_eq entry.key.uuid uuid ≡ true
  pub start : Subvolume ℕ
  pub from : start_from store entry.parent ≡ Ok start
  pub end : Subvolume ℕ
  pub edited : Edited store entry.key start cs end
  pub is : next ≡ with_contents entry.key.uuid end store

body_is : (place : ℕ) (store next : Store ℕ) (uuid : List ℕ) (version : ℕ) (cs : List Command) → made 0 as_bytes place store (Body uuid version cs) ≡ Some next → Completed store next uuid cs
unfolding made resumed completed
body_is place store next uuid version cs m = one (unfinished_at uuid store) refl m
  where
    three : (e : StoredEntry) → unfinished_at uuid store ≡ Some e → (start : Subvolume ℕ) → start_from store e.parent ≡ Ok start
        → (o : Option (State ℕ)) → edits_made 0 as_bytes version (frames_at place) (in_part store e.key start) cs ≡ o → option_map completed o ≡ Some next → Completed store next uuid cs
    three e at start from None made_is q = cc
    three e at start from (Some end) made_is q =
        let by = edits_one_by_one version (frames_at place) store e.key start cs end made_is in
        let i = unfinished_in uuid store e at in
        record {
          entry = e;
          there = i.0;
          own = i.1;
          start = start;
          from = from;
          end = by.subvolume;
          edited = by.edited;
          is = sym (same_inside q) ∙ ap (λ (x : State ℕ). completed x) by.is;
        }

    two : (e : StoredEntry) → unfinished_at uuid store ≡ Some e → (r : Result (Subvolume ℕ) Refusal) → start_from store e.parent ≡ r
        → (elim (elim r as (λ x. Option (State ℕ)) [ Err refusal ↦ None | Ok start ↦ Some (in_part store e.key start) ]) as (λ x. Option (Store ℕ)) [
          | None ↦ None
          | Some state ↦ option_map completed (edits_made 0 as_bytes version (frames_at place) state cs)
        ]) ≡ Some next → Completed store next uuid cs
    two e at (Err refusal) from q = cc
    two e at (Ok start) from q = three e at start from (edits_made 0 as_bytes version (frames_at place) (in_part store e.key start) cs) refl q

    one : (o : Option StoredEntry) → unfinished_at uuid store ≡ o
        → (elim (elim o as (λ x. Option (State ℕ)) [ None ↦ None | Some e ↦ started store e ]) as (λ x. Option (Store ℕ)) [
          | None ↦ None
          | Some state ↦ option_map completed (edits_made 0 as_bytes version (frames_at place) state cs)
        ]) ≡ Some next → Completed store next uuid cs
    one None at q = cc
    one (Some e) at q = two e at (start_from store e.parent) refl q

other_says_none : (mine other : List ℕ) (version : ℕ) (cs : List Command) → bytes_eq other mine ≡ false → edits_in mine (Body other version cs) ≡ None
other_says_none mine other version cs e = ap (λ (b : Bool). if b then Some (record { version = version; commands = cs }) else None) e

own_says : (mine other : List ℕ) (version : ℕ) (cs : List Command) → bytes_eq other mine ≡ true → edits_in mine (Body other version cs) ≡ Some (record { version = version; commands = cs })
own_says mine other version cs e = ap (λ (b : Bool). if b then Some (record { version = version; commands = cs }) else None) e

nothing_behind : (u : List ℕ) → last_edits u [] ≡ None
unfolding last_edits
nothing_behind u = refl

after_body : (groups : List Group) (store next : Store ℕ) (place : ℕ) (uuid : List ℕ) (version : ℕ) (cs : List Command) (is_sealed : Bool) → is_version version ≡ true → AllByRecursion (IsEdit version) cs → IsStore store
    → made_all 0 as_bytes first_gate [] groups ≡ Some store → AllKnown groups store → made 0 as_bytes place store (Body uuid version cs) ≡ Some next
    → AllKnown (groups ++ record { content = Body uuid version cs; is_sealed = is_sealed } ∷ []) next
after_body groups store next place uuid version cs is_sealed known are distinct makes all m e within =
    one (in_contents b.entry.key.uuid b.end store e distinct (subst (λ (x : Store ℕ). IsIn e x) b.is within))
  where
    b : Completed store next uuid cs
    b = body_is place store next uuid version cs m

    g : Group
    g = record { content = Body uuid version cs; is_sealed = is_sealed }

    own : b.entry.key.uuid ≡ uuid
    own = bytes_eq_true b.entry.key.uuid uuid b.own

    mine : IsKnown (groups ++ g ∷ []) (record b.entry { contents = Some b.end })
    mine =
        let k = all b.entry b.there in
        record {
          told = record { name = k.told.name; path = k.told.path; key = k.told.key; parent = k.told.parent };
          located = λ s holds. record {
            edits = record { version = version; commands = cs };
            was = store;
            place = record {
              before = groups;
              group = g;
              behind = [];
              are = refl;
              says = own_says b.entry.key.uuid uuid version cs (ap (λ (u : List ℕ). bytes_eq u b.entry.key.uuid) (sym own) ∙ bytes_eq_same b.entry.key.uuid);
              last = nothing_behind b.entry.key.uuid;
              makes = makes;
            };
            version = known;
            are = are;
            start = b.start;
            from = b.from;
            edited = subst (λ (x : Subvolume ℕ). Edited store b.entry.key b.start cs x) (same_inside holds) b.edited;
          };
        }

    one : Was b.entry.key.uuid b.end store e → IsKnown (groups ++ g ∷ []) e
    one (inl (there, apart)) =
        known_more groups g e (other_says_none e.key.uuid uuid version cs (not_equal uuid e.key.uuid (λ same. differ e.key.uuid b.entry.key.uuid apart (sym same ∙ sym own)))) (all e there)
    one (inr (d, there, same, is)) =
        let entry : d ≡ b.entry = one_uuid store d b.entry distinct there b.there same in
        subst (λ (x : StoredEntry). IsKnown (groups ++ g ∷ []) x) (sym (is ∙ ap (λ (x : StoredEntry). record x { contents = Some b.end }) entry)) mine

-- ---- all groups

after_group : (format place : ℕ) (groups : List Group) (store next : Store ℕ) (g : Group) → IsGroup format g → IsLawfulStore store → made_all 0 as_bytes first_gate [] groups ≡ Some store → AllKnown groups store
    → made 0 as_bytes place store g.content ≡ Some next → AllKnown (groups ++ g ∷ []) next
unfolding made
after_group format place groups store next g is lawful makes all m = one g.content g.is_sealed is.content m
  where
    one : (content : Content) (is_sealed : Bool) → IsContent content → made 0 as_bytes place store content ≡ Some next → AllKnown (groups ++ record { content = content; is_sealed = is_sealed } ∷ []) next
    one (Mark head) is_sealed said q = after_mark groups store next head is_sealed said all q
    one (Body uuid version cs) is_sealed said q = after_body groups store next place uuid version cs is_sealed said.1 said.2 lawful.distinct makes all q
    one (Drop name) is_sealed said q = after_drop groups store next name is_sealed all q

-- The groups behind those that made a store begin with one that makes the next.
next_made : (before groups : List Group) (g : Group) (store end : Store ℕ) → made_all 0 as_bytes first_gate [] before ≡ Some store → made_all 0 as_bytes first_gate [] (before ++ g ∷ groups) ≡ Some end
    → (next : Store ℕ) × (made 0 as_bytes (body_at (gate_behind first_gate before)) store g.content ≡ Some next)
unfolding made_all
next_made before groups g store end makes m =
    one (made 0 as_bytes (body_at (gate_behind first_gate before)) store g.content) refl (sym (made-append 0 as_bytes first_gate [] store before (g ∷ groups) makes) ∙ m)
  where
    one : (o : Option (Store ℕ)) → made 0 as_bytes (body_at (gate_behind first_gate before)) store g.content ≡ o
        → (elim o as (λ x. Option (Store ℕ)) [ None ↦ None | Some next ↦ made_all 0 as_bytes (body_at (gate_behind first_gate before) + length (body_bytes g)) next groups ]) ≡ Some end
        → (next : Store ℕ) × (made 0 as_bytes (body_at (gate_behind first_gate before)) store g.content ≡ Some next)
    one None h q = cc
    one (Some next) h q = (next, h)

all_known : (format : ℕ) (before groups : List Group) (store end : Store ℕ) → AllByRecursion (IsGroup format) groups → IsLawfulStore store → made_all 0 as_bytes first_gate [] before ≡ Some store → AllKnown before store
    → made_all 0 as_bytes first_gate [] (before ++ groups) ≡ Some end → AllKnown (before ++ groups) end
all_known format before [] store end are lawful makes all m e within =
    let same : store ≡ end = same_inside (sym makes ∙ ap (made_all 0 as_bytes first_gate []) (sym (append-nil before)) ∙ m) in
    subst (λ (gs : List Group). IsKnown gs e) (sym (append-nil before)) (all e (subst (λ (x : Store ℕ). IsIn e x) (sym same) within))
all_known format before (g ∷ groups) store end are lawful makes all m e within =
    let place : ℕ = body_at (gate_behind first_gate before) in
    let n = next_made before groups g store end makes m in
    let joined : (before ++ g ∷ []) ++ groups ≡ before ++ g ∷ groups = append_assoc before (g ∷ []) groups in
    subst (λ (gs : List Group). IsKnown gs e) joined
    (all_known format (before ++ g ∷ []) groups n.0 end are.1 (made_lawful place store n.0 g.content are.0.content lawful n.1)
    (made_more 0 as_bytes first_gate [] store before g makes ∙ n.1)
    (after_group format place before store n.0 g are.0 lawful makes all n.1)
    (ap (made_all 0 as_bytes first_gate []) joined ∙ m) e within)

-- So it is of all that an image stands for.
pub stands_known : (image : List ℕ) (store : Store ℕ) (stands : StandsFor image store) → AllKnown stands.groups store
unfolding made_all
stands_known image store stands =
    all_known stands.header.format [] stands.groups [] store stands.makes.lawful (record { distinct = tt; entries = tt }) refl (λ e within. absurd within) stands.makes.made

-- The complete entry of a name stands there.
pub complete_in : (name : List ℕ) (store : Store ℕ) (found : StoredEntry × Subvolume ℕ) → complete_named name store ≡ Some found → IsIn found.0 store × (found.0.contents ≡ Some found.1)
unfolding complete_named
complete_in name [] found h = cc
complete_in name (e ∷ store) found h = one (bytes_eq e.name name) (complete_in name store found) h
  where
    two : (o : Option (Subvolume ℕ)) → e.contents ≡ o → (elim o as (λ x. Option (StoredEntry × Subvolume ℕ)) [ None ↦ None | Some s ↦ Some (e, s) ]) ≡ Some found → IsIn found.0 (e ∷ store) × (found.0.contents ≡ Some found.1)
    two None c q = cc
    two (Some s) c q = subst (λ (f : StoredEntry × Subvolume ℕ). IsIn f.0 (e ∷ store) × (f.0.contents ≡ Some f.1)) (same_inside q) (inl refl, c)

    one : (b : Bool) → (complete_named name store ≡ Some found → IsIn found.0 store × (found.0.contents ≡ Some found.1))
        → (if b then elim e.contents as (λ x. Option (StoredEntry × Subvolume ℕ)) [ None ↦ None | Some s ↦ Some (e, s) ] else complete_named name store) ≡ Some found
        → IsIn found.0 (e ∷ store) × (found.0.contents ≡ Some found.1)
    one true more q = two e.contents refl q
    one false more q = let r = more q in (inr r.0, r.1)
