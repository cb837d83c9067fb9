-- The composed commands of consecutive parts without clones, received anywhere: every store that
-- finds the first part's parent accepts them, and gets the last part's subvolume.
use Rattle.std.specs.Prelude.{◌≡◌, ◌≢◌, ℕ, true, false, List, [], ◌∷◌, ◌++◌, Option, None, Some, Result, Ok}
use Rattle.std.specs.List.{AllByRecursion}
use Rattle.std.proofs.Common.{refl, sym, ap, subst, ◌∙◌, inl}
use Rattle.std.proofs.lemmas.Bool.{false≢true}
use Rattle.send_model.specs.Refusal.{Refusal, NoSubvolume}
use Rattle.send_model.specs.Command.{Command, Subvol, Snapshot, End}
use Rattle.send_model.specs.Path.{is_name}
use Rattle.send_model.specs.Subvolume.{Subvolume}
use Rattle.send_model.specs.Store.{Key, Head, head_of, Store, State, Stepped, step, step_head, has_name, has_uuid, completed, begun, start_from, entered, unfinished}
use Rattle.send_model.specs.Receive.{bytes_of}
use Rattle.send_model.specs.Order.{onto_heads, heads_of, EachFollows}
use Rattle.send_model.specs.Outside.{IsAmong, keys_named, all_keys_named}
use Rattle.send_model.specs.Composed.{last_head, head_command}
use Rattle.send_model.proofs.Sorts.{by_sort, is_plain, plain_step_without, head_step, same_inside}
use Rattle.send_model.proofs.Runs.{Takes, Takes-append}
use Rattle.send_model.proofs.Stores.{key_of_new, completes_new}
use Rattle.send_model.proofs.Merging.{NoClones, edit_in, edits_of, FollowsFrom, last_key, begun_begins, begins_begun, entered_taken, Merged, merges}

-- ---- heads

pub follows_from : (head : Head) (heads : List Head) → EachFollows (head ∷ heads) → FollowsFrom head.key heads
follows_from head [] f = tt
follows_from head (next ∷ heads) f = (f.0, follows_from next heads f.1)

-- The last head of a list that is not empty, with its key.
pub last_of : (head : Head) (heads : List Head) → (last : Head) × (last_head (head ∷ heads) ≡ Some last) × (last.key ≡ last_key head.key heads)
last_of head [] = (head, refl, refl)
last_of head (next ∷ heads) = last_of next heads

-- Every head that is taken has a lawful name.
abbrev pub AreNamed : List Head → Type 0
AreNamed heads = AllByRecursion (λ head. is_name head.name ≡ true) heads

pub last_named : (head : Head) (heads : List Head) → AreNamed (head ∷ heads) → (last : Head) → last_head (head ∷ heads) ≡ Some last → is_name last.name ≡ true
last_named head [] n last e = subst (λ (h : Head). is_name h.name ≡ true) (same_inside e) n.0
last_named head (next ∷ heads) n last e = last_named next heads n.1 last e

Names : List Command → Type 0
Names cs = (state end : State ℕ) → Takes state cs end → AreNamed (heads_of cs)

names_head : (c : Command) (head : Head) → head_of c ≡ Some head → (cs : List Command) → Names cs → Names (c ∷ cs)
unfolding Names heads_of step_head
names_head c head h cs ih state end t =
    let StepsOn : Stepped ℕ → Type 0 = λ x. x.refusal ≡ None in
    let ok = entered_taken (completed state) head (begun (completed state) head) (subst StepsOn (head_step 0 (bytes_of c) state c head h) t.0) in
    let b = begun_begins (completed state) head ok.0 ok.1 in
    let A : Option Head → Type 0 = λ o. AreNamed (onto_heads o (heads_of cs)) in
    let at : A (Some head) = (b.named, ih _ end t.1) in
    subst A (sym h) at

names_other : (c : Command) → head_of c ≡ None → (cs : List Command) → Names cs → Names (c ∷ cs)
unfolding Names heads_of
names_other c h cs ih state end t = let A : Option Head → Type 0 = λ o. AreNamed (onto_heads o (heads_of cs)) in subst A (sym h) (ih _ end t.1)

pub by_head : (P : Option Head → Type 0) (o : Option Head) → ((head : Head) → o ≡ Some head → P (Some head)) → (o ≡ None → P None) → P o
by_head P None s n = n refl
by_head P (Some head) s n = s head refl

pub names : (cs : List Command) (state end : State ℕ) → Takes state cs end → AreNamed (heads_of cs)
unfolding Names heads_of
names [] state end t = tt
names (c ∷ cs) state end t = by_head (λ o. head_of c ≡ o → AreNamed (heads_of (c ∷ cs))) (head_of c) (λ head e h. names_head c head h cs (names cs) state end t) (λ e h. names_other c h cs (names cs) state end t) refl

-- ---- to the first head

-- What consecutive parts come to, from a store and no part.
pub record Comes (store : Store ℕ) (cs : List Command) (end : State ℕ) : Type 0 where
  pub first : Head
  pub rest : List Head
  pub heads_are : heads_of cs ≡ first ∷ rest
  pub start : Subvolume ℕ
  pub from : start_from store first.parent ≡ Ok start
  pub merged : Merged rest (edits_of cs) first.key start end
  pub first_named : AllByRecursion (λ key. IsAmong key (all_keys_named cs)) (all_keys_named (head_command first.name first.key first.parent ∷ []))

Arrives : List Command → Type 0
Arrives cs = (store : Store ℕ) (end : State ℕ) → NoClones cs → heads_of cs ≢ [] → EachFollows (heads_of cs) → Takes (record { store = store; part = None }) cs end → Comes store cs end

-- What the first head names is named.
named_first : (c : Command) (head : Head) → head_of c ≡ Some head → (more : List Key) → AllByRecursion (λ key. IsAmong key (keys_named c ++ more)) (all_keys_named (head_command head.name head.key head.parent ∷ []))
named_first (Subvol uuid ctransid path) head h more = let P : Head → Type 0 = λ x. AllByRecursion (λ key. IsAmong key more) (all_keys_named (head_command x.name x.key x.parent ∷ [])) in subst P (same_inside h) tt
named_first (Snapshot uuid ctransid path clone_uuid clone_ctransid) head h more =
    let P : Head → Type 0 = λ x. AllByRecursion (λ key. IsAmong key (record { uuid = clone_uuid; ctransid = clone_ctransid } ∷ more)) (all_keys_named (head_command x.name x.key x.parent ∷ [])) in
    subst P (same_inside h) (inl refl, tt)
named_first c head h more = cc

arrives_head : (c : Command) (head : Head) → head_of c ≡ Some head → (cs : List Command) → Arrives (c ∷ cs)
unfolding Arrives heads_of step_head completed
arrives_head c head h cs store end n some f t =
    let hs : List Head = heads_of cs in
    let StepsOn : Stepped ℕ → Type 0 = λ x. (x.refusal ≡ None) × Takes x.state cs end in
    let on : StepsOn (entered store head (begun store head)) = subst StepsOn (head_step 0 (bytes_of c) (record { store = store; part = None }) c head h) t in
    let ok = entered_taken store head (begun store head) on.0 in
    let b = begun_begins store head ok.0 ok.1 in
    let E : Result (Subvolume ℕ) Refusal → Type 0 = λ x. Takes (entered store head x).state cs end in
    let F : Option Head → Type 0 = λ o. EachFollows (onto_heads o hs) in
    let follows : FollowsFrom head.key hs = follows_from head hs (subst F h f) in
    let m = merges cs (store ++ unfinished head ∷ []) (Some (record { key = head.key; subvolume = ok.0 })) head.key ok.0 end n.1 follows (refl, key_of_new head store b.new_uuid) (subst E ok.1 on.1) in
    let M : Option Head → Type 0 = λ o. Merged hs (edit_in o c ++ edits_of cs) head.key ok.0 end in
    record {
      first = head;
      rest = hs;
      heads_are = ap (λ (o : Option Head). onto_heads o hs) h;
      start = ok.0;
      from = b.from;
      merged = subst M (sym h) m;
      first_named = named_first c head h (all_keys_named cs);
    }

arrives_end : (cs : List Command) → Arrives cs → Arrives (End ∷ cs)
unfolding Arrives heads_of step completed
arrives_end cs ih store end n some f t =
    let r = ih store end n.1 some f t.1 in
    record { first = r.first; rest = r.rest; heads_are = r.heads_are; start = r.start; from = r.from; merged = r.merged; first_named = r.first_named }

arrives_plain : (c : Command) → is_plain c ≡ true → (cs : List Command) → Arrives (c ∷ cs)
unfolding Arrives
arrives_plain c h cs store end n some f t = absurd (let e : Some NoSubvolume ≡ None = sym (plain_step_without 0 (bytes_of c) store c h) ∙ t.0 in cc)

pub comes : (cs : List Command) (store : Store ℕ) (end : State ℕ) → NoClones cs → heads_of cs ≢ [] → EachFollows (heads_of cs) → Takes (record { store = store; part = None }) cs end → Comes store cs end
unfolding Arrives heads_of
comes [] = λ store end n some f t. absurd (some refl)
comes (c ∷ cs) = by_sort {P = λ c. Arrives cs → Arrives (c ∷ cs)} (λ c head h ih. arrives_head c head h cs) (arrives_end cs) (λ c h ih store end n some f t. absurd (false≢true (sym n.0 ∙ h))) (λ c h ih. arrives_plain c h cs) c (comes cs)

-- ---- anywhere

pub head_of_command : (name : List ℕ) (key : Key) (parent : Option Key) → head_of (head_command name key parent) ≡ Some (record { name = name; key = key; parent = parent })
head_of_command name key None = refl
head_of_command name key (Some k) = refl

-- The composed commands, received into any store that finds the first part's parent.
pub received_anywhere : (head : Head) (start last : Subvolume ℕ) (edits : List Command) (store : Store ℕ)
    → is_name head.name ≡ true → has_name head.name store ≡ false → has_uuid head.key.uuid store ≡ false → start_from store head.parent ≡ Ok start
    → Takes (record { store = store ++ unfinished head ∷ []; part = Some (record { key = head.key; subvolume = start }) }) edits (record { store = store ++ unfinished head ∷ []; part = Some (record { key = head.key; subvolume = last }) })
    → Takes (record { store = store; part = None }) (head_command head.name head.key head.parent ∷ (edits ++ End ∷ [])) (record { store = store ++ record { name = head.name; key = head.key; parent = head.parent; contents = Some last } ∷ []; part = None })
unfolding step step_head completed
received_anywhere head start last edits store named no_name no_uuid from merged =
    let c : Command = head_command head.name head.key head.parent in
    let final : State ℕ = record { store = store ++ record { name = head.name; key = head.key; parent = head.parent; contents = Some last } ∷ []; part = None } in
    let whole : List Command = edits ++ End ∷ [] in
    let StepsOn : Stepped ℕ → Type 0 = λ x. (x.refusal ≡ None) × Takes x.state whole final in
    let E : Result (Subvolume ℕ) Refusal → Type 0 = λ x. StepsOn (entered store head x) in
    let to_state : Store ℕ → State ℕ = λ u. record { store = u; part = None } in
    let ends = ap to_state (completes_new head last store no_uuid) in
    let on : E (Ok start) = (refl, Takes-append edits (End ∷ []) _ _ final merged (refl, ends)) in
    let begun_ok = begins_begun store head start (record { named = named; new_name = no_name; new_uuid = no_uuid; from = from }) in
    subst StepsOn (sym (head_step 0 (bytes_of c) (record { store = store; part = None }) c head (head_of_command head.name head.key head.parent))) (subst E (sym begun_ok) on)
