-- Edits of consecutive parts, taken one after the other in one part: a part that begins from what
-- the part before it ended with goes on where that one stopped. For all commands but CLONE at once.
use Rattle.std.specs.Prelude.{◌≡◌, ℕ, Bool, true, false, List, [], ◌∷◌, ◌++◌, Option, None, Some, Result, Ok, Err}
use Rattle.std.specs.List.{AllByRecursion}
use Rattle.std.proofs.Common.{refl, sym, subst, ◌∙◌}
use Rattle.std.proofs.lemmas.Bool.{false≢true}
use Rattle.send_model.specs.Refusal.{Refusal, NoSubvolume, NoParent, BadName, NameThere, UuidThere}
use Rattle.send_model.specs.Chain.{found, require, refuse_if, ◌>>◌}
use Rattle.send_model.specs.Command.{Command, Subvol, Snapshot, End}
use Rattle.send_model.specs.Path.{is_name}
use Rattle.send_model.specs.Subvolume.{Subvolume}
use Rattle.send_model.specs.Edit.{edit}
use Rattle.send_model.specs.Store.{Key, Head, head_of, Store, Part, State, Stepped, step, step_head, has_name, has_uuid, find, completed, with_contents, begun, start_from, entered, edited, unfinished}
use Rattle.send_model.specs.Receive.{bytes_of}
use Rattle.send_model.specs.Order.{onto_heads, heads_of}
use Rattle.send_model.specs.Counts.{is_clone}
use Rattle.send_model.proofs.Sorts.{by_sort, is_plain, plain_step, plain_step_without, head_step, plain_is_no_head}
use Rattle.send_model.proofs.Runs.{Takes}
use Rattle.send_model.proofs.Stores.{key_with, finds_contents, key_of_new}

abbrev pub NoClones : List Command → Type 0
NoClones cs = AllByRecursion (λ c. is_clone c ≡ false) cs

-- The commands that are neither heads nor END.
abbrev pub edit_in : Option Head → Command → List Command
edit_in (Some head) c = []
edit_in None End = []
edit_in None c = c ∷ []

abbrev pub edits_of : List Command → List Command
edits_of [] = []
edits_of (c ∷ cs) = edit_in (head_of c) c ++ edits_of cs

-- The heads after a part: each names the one before it as its parent.
abbrev pub FollowsFrom : Key → List Head → Type 0
FollowsFrom key [] = Unit {0}
FollowsFrom key (head ∷ heads) = (head.parent ≡ Some key) × FollowsFrom head.key heads

abbrev pub last_key : Key → List Head → Key
last_key key [] = key
last_key key (head ∷ heads) = last_key head.key heads

-- The part of a key has come to a subvolume: it is still being received, or it is complete and
-- found by its key.
abbrev pub Stands : {C : Type 0} → Store C → Option (Part C) → Key → Subvolume C → Type 0
Stands store None key s = find store key ≡ Some s
Stands store (Some part) key s = (part ≡ record { key = key; subvolume = s }) × (key_with key.uuid store ≡ Some key)

pub stands_completed : {C : Type 0} (store : Store C) (part : Option (Part C)) (key : Key) (s : Subvolume C) → Stands store part key s → find (completed (record { store = store; part = part })) key ≡ Some s
unfolding completed
stands_completed store None key s h = h
stands_completed {C = C} store (Some part) key s (e, k) = let P : Part C → Type 0 = λ p. find (with_contents p.key.uuid p.subvolume store) key ≡ Some s in subst P (sym e) (finds_contents key s store k)

-- ---- what an accepted head says

pub record Begins {C : Type 0} (store : Store C) (head : Head) (start : Subvolume C) : Type 0 where
  pub named : is_name head.name ≡ true
  pub new_name : has_name head.name store ≡ false
  pub new_uuid : has_uuid head.key.uuid store ≡ false
  pub from : start_from store head.parent ≡ Ok start

begins : {C : Type 0} (store : Store C) (head : Head) (start : Subvolume C) (a b c : Bool) → is_name head.name ≡ a → has_name head.name store ≡ b → has_uuid head.key.uuid store ≡ c
    → (require a BadName >> (refuse_if b NameThere >> (refuse_if c UuidThere >> start_from store head.parent))) ≡ Ok start → Begins store head start
begins store head start true false false a b c e = record { named = a; new_name = b; new_uuid = c; from = e }
begins store head start true false true a b c e = cc
begins store head start true true c' a b c e = cc
begins store head start false b' c' a b c e = cc

pub begun_begins : {C : Type 0} (store : Store C) (head : Head) (start : Subvolume C) → begun store head ≡ Ok start → Begins store head start
unfolding begun
begun_begins store head start e = begins store head start _ _ _ refl refl refl e

pub begins_begun : (store : Store ℕ) (head : Head) (start : Subvolume ℕ) → Begins store head start → begun store head ≡ Ok start
unfolding begun
begins_begun store head start b = rw (b.named, b.new_name, b.new_uuid) b.from

-- A head that is taken, and what it leaves.
pub entered_taken : {C : Type 0} (store : Store C) (head : Head) (r : Result (Subvolume C) Refusal) → (entered store head r).refusal ≡ None → (s : Subvolume C) × (r ≡ Ok s)
entered_taken store head (Ok s) e = (s, refl)
entered_taken store head (Err refusal) e = cc

pub edited_taken : {C : Type 0} (store : Store C) (part : Part C) (r : Result (Subvolume C) Refusal) → (edited store part r).refusal ≡ None → (s : Subvolume C) × (r ≡ Ok s)
edited_taken store part (Ok s) e = (s, refl)
edited_taken store part (Err refusal) e = cc

pub from_parent : {C : Type 0} (store : Store C) (key : Key) (parent : Option Key) (s t : Subvolume C) → parent ≡ Some key → find store key ≡ Some t → start_from store parent ≡ Ok s → s ≡ t
from_parent {C = C} store key parent s t p f e =
    let at : start_from store (Some key) ≡ Ok s = subst (λ (q : Option Key). start_from store q ≡ Ok s) p e in
    let found_t : found (Some t) NoParent ≡ Ok s = subst (λ (q : Option (Subvolume C)). found q NoParent ≡ Ok s) f at in
    cc

-- ---- the induction

-- What the commands after a part, with these heads and edits, do to its subvolume, in one part over
-- any store.
pub record Merged (heads : List Head) (edits : List Command) (key : Key) (s : Subvolume ℕ) (end : State ℕ) : Type 0 where
  pub last : Subvolume ℕ
  pub stands : Stands end.store end.part (last_key key heads) last
  pub merged : (store : Store ℕ) (new : Key) → Takes (record { store = store; part = Some (record { key = new; subvolume = s }) }) edits (record { store = store; part = Some (record { key = new; subvolume = last }) })

abbrev pub Merges : List Command → Type 0
Merges cs = (store : Store ℕ) (part : Option (Part ℕ)) (key : Key) (s : Subvolume ℕ) (end : State ℕ) → NoClones cs → FollowsFrom key (heads_of cs) → Stands store part key s → Takes (record { store = store; part = part }) cs end → Merged (heads_of cs) (edits_of cs) key s end

merges_nothing : Merges []
unfolding heads_of
merges_nothing store part key s end n f st e = record {
  last = s;
  stands = let P : State ℕ → Type 0 = λ x. Stands x.store x.part key s in subst P e st;
  merged = λ u new. refl;
}

-- The state that a taken head leaves.
abbrev entered_state : Store ℕ → Head → Subvolume ℕ → State ℕ
entered_state store head s = record { store = store ++ unfinished head ∷ []; part = Some (record { key = head.key; subvolume = s }) }

entered_on : (store : Store ℕ) (head : Head) (cs : List Command) (end : State ℕ) (key : Key) (s : Subvolume ℕ) → find store key ≡ Some s → head.parent ≡ Some key
    → (entered store head (begun store head)).refusal ≡ None → Takes (entered store head (begun store head)).state cs end
    → Begins store head s × Takes (entered_state store head s) cs end
entered_on store head cs end key s f p r t =
    let ok = entered_taken store head (begun store head) r in
    let b = begun_begins store head ok.0 ok.1 in
    let same : ok.0 ≡ s = from_parent store key head.parent ok.0 s p f b.from in
    let B : Subvolume ℕ → Type 0 = λ x. Begins store head x in
    let E : Result (Subvolume ℕ) Refusal → Type 0 = λ x. Takes (entered store head x).state cs end in
    let T : Subvolume ℕ → Type 0 = λ x. Takes (entered_state store head x) cs end in
    (subst B same b, subst T same (subst E ok.1 t))

after_head : (c : Command) (head : Head) → head_of c ≡ Some head → (cs : List Command) → Merges cs → Merges (c ∷ cs)
unfolding heads_of step_head
after_head c head h cs ih store part key s end n f st t =
    let σ : State ℕ = record { store = store; part = part } in
    let hs : List Head = heads_of cs in
    let F : Option Head → Type 0 = λ o. FollowsFrom key (onto_heads o hs) in
    let follows : FollowsFrom key (head ∷ hs) = subst F h f in
    let StepsOn : Stepped ℕ → Type 0 = λ x. (x.refusal ≡ None) × Takes x.state cs end in
    let on_head : StepsOn (step_head σ head) = subst StepsOn (head_step 0 (bytes_of c) σ c head h) t in
    let on : Begins (completed σ) head s × Takes (entered_state (completed σ) head s) cs end = entered_on (completed σ) head cs end key s (stands_completed store part key s st) follows.0 on_head.0 on_head.1 in
    let m = ih (completed σ ++ unfinished head ∷ []) (Some (record { key = head.key; subvolume = s })) head.key s end n.1 follows.1 (refl, key_of_new head (completed σ) on.0.new_uuid) on.1 in
    let M : Option Head → Type 0 = λ o. Merged (onto_heads o hs) (edit_in o c ++ edits_of cs) key s end in
    let at_head : M (Some head) = record { last = m.last; stands = m.stands; merged = m.merged } in
    subst M (sym h) at_head

after_end : (cs : List Command) → Merges cs → Merges (End ∷ cs)
unfolding heads_of step
after_end cs ih store part key s end n f st t =
    let σ : State ℕ = record { store = store; part = part } in
    ih (completed σ) None key s end n.1 f (stands_completed store part key s st) t.1

plain_on : (c : Command) → is_plain c ≡ true → (store : Store ℕ) (key : Key) (s : Subvolume ℕ) (cs : List Command) (end : State ℕ)
    → Takes (record { store = store; part = Some (record { key = key; subvolume = s }) }) (c ∷ cs) end
    → (next : Subvolume ℕ) × (edit 0 (bytes_of c) c s ≡ Ok next) × Takes (record { store = store; part = Some (record { key = key; subvolume = next }) }) cs end
plain_on c h store key s cs end t =
    let part : Part ℕ = record { key = key; subvolume = s } in
    let r = edit 0 (bytes_of c) c s in
    let StepsOn : Stepped ℕ → Type 0 = λ x. (x.refusal ≡ None) × Takes x.state cs end in
    let on : StepsOn (edited store part r) = subst StepsOn (plain_step 0 (bytes_of c) store part c h) t in
    let ok = edited_taken store part r on.0 in
    let E : Result (Subvolume ℕ) Refusal → Type 0 = λ x. Takes (edited store part x).state cs end in
    (ok.0, ok.1, subst E ok.1 on.1)

pub plain_taken : (c : Command) → is_plain c ≡ true → (store : Store ℕ) (key : Key) (s next : Subvolume ℕ) (cs : List Command) (end : State ℕ) → edit 0 (bytes_of c) c s ≡ Ok next
    → Takes (record { store = store; part = Some (record { key = key; subvolume = next }) }) cs end → Takes (record { store = store; part = Some (record { key = key; subvolume = s }) }) (c ∷ cs) end
plain_taken c h store key s next cs end e t =
    let part : Part ℕ = record { key = key; subvolume = s } in
    let StepsOn : Stepped ℕ → Type 0 = λ x. (x.refusal ≡ None) × Takes x.state cs end in
    let E : Result (Subvolume ℕ) Refusal → Type 0 = λ x. StepsOn (edited store part x) in
    subst StepsOn (sym (plain_step 0 (bytes_of c) store part c h)) (subst E (sym e) (refl, t))

plain_edit_in : (c : Command) → is_plain c ≡ true → edit_in (head_of c) c ≡ c ∷ []
plain_edit_in End h = absurd (false≢true h)
plain_edit_in (Subvol uuid ctransid path) h = absurd (false≢true h)
plain_edit_in (Snapshot uuid ctransid path clone_uuid clone_ctransid) h = absurd (false≢true h)
plain_edit_in c h = refl

after_plain : (c : Command) → is_plain c ≡ true → (cs : List Command) → Merges cs → Merges (c ∷ cs)
unfolding heads_of
after_plain c h cs ih store None key s end n f st t = absurd (let e : Some NoSubvolume ≡ None = sym (plain_step_without 0 (bytes_of c) store c h) ∙ t.0 in cc)
after_plain c h cs ih store (Some part) key s end n f st t =
    let hs : List Head = heads_of cs in
    let no_head : head_of c ≡ None = plain_is_no_head c h in
    let F : Option Head → Type 0 = λ o. FollowsFrom key (onto_heads o hs) in
    let follows : FollowsFrom key hs = subst F no_head f in
    let P : Part ℕ → Type 0 = λ p. Takes (record { store = store; part = Some p }) (c ∷ cs) end in
    let on = plain_on c h store key s cs end (subst P st.0 t) in
    let m = ih store (Some (record { key = key; subvolume = on.0 })) key on.0 end n.1 follows (refl, st.1) on.2 in
    let M : Option Head → Type 0 = λ o. Merged (onto_heads o hs) (edits_of (c ∷ cs)) key s end in
    let E : List Command → Type 0 = λ es. (u : Store ℕ) (new : Key) → Takes (record { store = u; part = Some (record { key = new; subvolume = s }) }) (es ++ edits_of cs) (record { store = u; part = Some (record { key = new; subvolume = m.last }) }) in
    let merged : E (c ∷ []) = λ u new. plain_taken c h u new s on.0 (edits_of cs) _ on.1 (m.merged u new) in
    let at_plain : M None = record { last = m.last; stands = m.stands; merged = subst E (sym (plain_edit_in c h)) merged } in
    subst M (sym no_head) at_plain

pub merges : (cs : List Command) → Merges cs
merges [] = merges_nothing
merges (c ∷ cs) = by_sort {P = λ c. Merges cs → Merges (c ∷ cs)} (λ c head h. after_head c head h cs) (after_end cs) (λ c h ih store part key s end n f st t. absurd (false≢true (sym n.0 ∙ h))) (λ c h. after_plain c h cs) c (merges cs)
