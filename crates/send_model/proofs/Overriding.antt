-- Overrides change nothing of what was read but the names of its heads and the CTRANSIDs of what it
-- names.
use Rattle.std.specs.Prelude.{◌≡◌, ◌≢◌, ◌<◌, ℕ, suc, ◌+◌, ◌==◌, ◌^◌, Bool, true, false, ◌&&◌, ◌||◌, not, List, [], ◌∷◌, ◌++◌, map, drop, length, Option, None, Some, IfSome, Result, Err, codes, if◌then◌else◌}
use Rattle.std.specs.List.{AllByRecursion, filter, list_any}
use Rattle.std.specs.Str.{bytes_eq}
use Rattle.std.specs.Fmt.{decimal}
use Rattle.std.specs.Option.{option_map}
use Rattle.std.proofs.Common.{refl, sym, ap, ap₂, subst, ◌∙◌}
use Rattle.std.proofs.lemmas.List.{map-append}
use Rattle.std.proofs.lemmas.List.Sums.{sum_by-cons}
use Rattle.send_model.specs.Refusal.{Refusal, BadName}
use Rattle.send_model.specs.Attribute.{IsBytes, takes_rest, PATH}
use Rattle.send_model.specs.Command.{Command, Subvol, Snapshot, Clone, End, row}
use Rattle.send_model.specs.Spelling.{IsSpellable}
use Rattle.send_model.specs.Reading.{Item, Reading, is_version}
use Rattle.send_model.specs.Path.{is_name}
use Rattle.send_model.specs.Subvolume.{Subvolume}
use Rattle.send_model.specs.Store.{Key, Head, head_of, Store, Stepped, completed, begun, entered, step_head}
use Rattle.send_model.specs.Receive.{bytes_of}
use Rattle.send_model.specs.Order.{onto_heads, heads_of, heads, commands_of, EachFollows}
use Rattle.send_model.specs.Outside.{part_uuids, is_among, keys_named, all_keys_named, keys_outside}
use Rattle.send_model.specs.Provenance.{uuid_after, is_redirected}
use Rattle.send_model.specs.Counts.{is_clone, is_end, literal, kept_from}
use Rattle.send_model.specs.Composed.{version_of}
use Rattle.send_model.specs.Laws.{CanWrite, IsWhole}
use Rattle.send_model.proofs.Sorts.{head_step}
use Rattle.send_model.proofs.Canonical.{spellable_first}
use Rattle.send_model.specs.Overridden.{with_name, command_named, meant_ctransid, meant_key, with_parents, Override, no_override, command_as, Overrides, override_from, override_for, overridden_item, overridden_items, overridden, IsNewName, AreNumbered, IsLawfulOverride, AreLawfulOverrides, HaveNoParents, named_item, uuids_of, KeepsAllElse, NamesAloneKeepKeys, NamesNone, ChangesNamesAndParents, NamesAloneRename, head_as, HasNewHead, HasNewName, BadNameStands, OverriddenIsWritable, OverriddenIsWhole}

-- ---- one command

-- What depends neither on the name of a head nor on the CTRANSIDs of what a command names.
pub record Ignores {X : Type 0} (f : Command → X) : Type 0 where
  pub names : (name : List ℕ) (c : Command) → f (with_name name c) ≡ f c
  pub parents : (keys : List Key) (c : Command) → f (with_parents keys c) ≡ f c

bytes_ignore : Ignores bytes_of
bytes_ignore = record { names = names; parents = parents }
  where
    names : (name : List ℕ) (c : Command) → bytes_of (with_name name c) ≡ bytes_of c
    names name (Subvol uuid ctransid path) = refl
    names name (Snapshot uuid ctransid path clone_uuid clone_ctransid) = refl
    names name c = refl

    parents : (keys : List Key) (c : Command) → bytes_of (with_parents keys c) ≡ bytes_of c
    parents keys (Snapshot uuid ctransid path clone_uuid clone_ctransid) = refl
    parents keys (Clone path offset clone_uuid clone_ctransid clone_path clone_offset clone_len) = refl
    parents keys c = refl

clone_ignores : Ignores is_clone
clone_ignores = record { names = names; parents = parents }
  where
    names : (name : List ℕ) (c : Command) → is_clone (with_name name c) ≡ is_clone c
    names name (Subvol uuid ctransid path) = refl
    names name (Snapshot uuid ctransid path clone_uuid clone_ctransid) = refl
    names name c = refl

    parents : (keys : List Key) (c : Command) → is_clone (with_parents keys c) ≡ is_clone c
    parents keys (Snapshot uuid ctransid path clone_uuid clone_ctransid) = refl
    parents keys (Clone path offset clone_uuid clone_ctransid clone_path clone_offset clone_len) = refl
    parents keys c = refl

redirected_ignores : (parts : List (List ℕ)) (current : Option (List ℕ)) → Ignores (is_redirected parts current)
redirected_ignores parts current = record { names = names; parents = parents }
  where
    names : (name : List ℕ) (c : Command) → is_redirected parts current (with_name name c) ≡ is_redirected parts current c
    names name (Subvol uuid ctransid path) = refl
    names name (Snapshot uuid ctransid path clone_uuid clone_ctransid) = refl
    names name c = refl

    parents : (keys : List Key) (c : Command) → is_redirected parts current (with_parents keys c) ≡ is_redirected parts current c
    parents keys (Snapshot uuid ctransid path clone_uuid clone_ctransid) = refl
    parents keys (Clone path offset clone_uuid clone_ctransid clone_path clone_offset clone_len) = refl
    parents keys c = refl

uuid_ignores : (current : Option (List ℕ)) → Ignores (uuid_after current)
uuid_ignores current = record { names = names; parents = parents }
  where
    names : (name : List ℕ) (c : Command) → uuid_after current (with_name name c) ≡ uuid_after current c
    names name (Subvol uuid ctransid path) = refl
    names name (Snapshot uuid ctransid path clone_uuid clone_ctransid) = refl
    names name c = refl

    parents : (keys : List Key) (c : Command) → uuid_after current (with_parents keys c) ≡ uuid_after current c
    parents keys (Snapshot uuid ctransid path clone_uuid clone_ctransid) = refl
    parents keys (Clone path offset clone_uuid clone_ctransid clone_path clone_offset clone_len) = refl
    parents keys c = refl

pub command_ignores : {X : Type 0} (f : Command → X) → Ignores f → (o : Override) (c : Command) → f (command_as o c) ≡ f c
command_ignores f same o c = same.parents o.parents (command_named o.name c) ∙ one o.name
  where
    one : (name : Option (List ℕ)) → f (command_named name c) ≡ f c
    one None = refl
    one (Some name) = same.names name c

end_ignores : Ignores is_end
end_ignores = record { names = names; parents = parents }
  where
    names : (name : List ℕ) (c : Command) → is_end (with_name name c) ≡ is_end c
    names name (Subvol uuid ctransid path) = refl
    names name (Snapshot uuid ctransid path clone_uuid clone_ctransid) = refl
    names name c = refl

    parents : (keys : List Key) (c : Command) → is_end (with_parents keys c) ≡ is_end c
    parents keys (Snapshot uuid ctransid path clone_uuid clone_ctransid) = refl
    parents keys (Clone path offset clone_uuid clone_ctransid clone_path clone_offset clone_len) = refl
    parents keys c = refl

pub same_end : (o : Override) (c : Command) → is_end (command_as o c) ≡ is_end c
same_end o c = command_ignores is_end end_ignores o c

pub same_bytes : (o : Override) (c : Command) → bytes_of (command_as o c) ≡ bytes_of c
same_bytes o c = command_ignores bytes_of bytes_ignore o c

-- ---- the keys that a command names

keys_named_same : (name : List ℕ) (c : Command) → keys_named (with_name name c) ≡ keys_named c
keys_named_same name (Subvol uuid ctransid path) = refl
keys_named_same name (Snapshot uuid ctransid path clone_uuid clone_ctransid) = refl
keys_named_same name c = refl

keys_meant : (keys : List Key) (c : Command) → keys_named (with_parents keys c) ≡ map (meant_key keys) (keys_named c)
keys_meant keys (Snapshot uuid ctransid path clone_uuid clone_ctransid) = refl
keys_meant keys (Clone path offset clone_uuid clone_ctransid clone_path clone_offset clone_len) = refl
keys_meant keys c = refl

keys_as : (o : Override) (c : Command) → keys_named (command_as o c) ≡ map (meant_key o.parents) (keys_named c)
keys_as o c = keys_meant o.parents (command_named o.name c) ∙ ap (map (meant_key o.parents)) (one o.name)
  where
    one : (name : Option (List ℕ)) → keys_named (command_named name c) ≡ keys_named c
    one None = refl
    one (Some name) = keys_named_same name c

uuids_meant : (keys named : List Key) → uuids_of (map (meant_key keys) named) ≡ uuids_of named
uuids_meant keys [] = refl
uuids_meant keys (key ∷ named) = ap (λ (us : List (List ℕ)). key.uuid ∷ us) (uuids_meant keys named)

uuids_as : (o : Override) (c : Command) → uuids_of (keys_named (command_as o c)) ≡ uuids_of (keys_named c)
uuids_as o c = ap uuids_of (keys_as o c) ∙ uuids_meant o.parents (keys_named c)

-- Where no key is said, each is the command's own.
none_meant : (named : List Key) → map (meant_key []) named ≡ named
none_meant [] = refl
none_meant (key ∷ named) = ap (λ (ks : List Key). key ∷ ks) (none_meant named)

parent_meant : (parent : Option Key) → option_map (meant_key []) parent ≡ parent
parent_meant None = refl
parent_meant (Some key) = refl

-- And where none of its UUIDs is said.
ctransid_same : (keys : List Key) (uuid : List ℕ) (n : ℕ) → is_among (uuids_of keys) uuid ≡ false → meant_ctransid keys uuid n ≡ n
ctransid_same [] uuid n none = refl
ctransid_same (key ∷ keys) uuid n none = one (bytes_eq key.uuid uuid) none (ctransid_same keys uuid n)
  where
    one : (b : Bool) → (b || is_among (uuids_of keys) uuid) ≡ false → (is_among (uuids_of keys) uuid ≡ false → meant_ctransid keys uuid n ≡ n)
        → (if b then key.ctransid else meant_ctransid keys uuid n) ≡ n
    one true none' more = cc
    one false none' more = more none'

pub names_none : (keys : List Key) (c : Command) → NamesNone keys c → with_parents keys c ≡ c
names_none keys (Snapshot uuid ctransid path clone_uuid clone_ctransid) none =
    ap (λ (n : ℕ). Snapshot uuid ctransid path clone_uuid n) (ctransid_same keys clone_uuid clone_ctransid none.0)
names_none keys (Clone path offset clone_uuid clone_ctransid clone_path clone_offset clone_len) none =
    ap (λ (n : ℕ). Clone path offset clone_uuid n clone_path clone_offset clone_len) (ctransid_same keys clone_uuid clone_ctransid none.0)
names_none keys c none = refl

pub with_none : (c : Command) → with_parents [] c ≡ c
with_none (Snapshot uuid ctransid path clone_uuid clone_ctransid) = refl
with_none (Clone path offset clone_uuid clone_ctransid clone_path clone_offset clone_len) = refl
with_none c = refl

no_head : (name : List ℕ) (c : Command) → head_of c ≡ None → with_name name c ≡ c
no_head name (Subvol uuid ctransid path) h = cc
no_head name (Snapshot uuid ctransid path clone_uuid clone_ctransid) h = cc
no_head name c h = refl

pub no_head_named : (name : Option (List ℕ)) (c : Command) → head_of c ≡ None → command_named name c ≡ c
no_head_named None c h = refl
no_head_named (Some name) c h = no_head name c h

end_stays : (o : Override) (c : Command) → c ≡ End → command_as o c ≡ End
end_stays o c e = ap (command_as o) e ∙ one o.name
  where
    one : (name : Option (List ℕ)) → with_parents o.parents (command_named name End) ≡ End
    one None = refl
    one (Some name) = refl

-- ---- one head

abbrev with_that : Option (List ℕ) → Head → Head
with_that name head = record { name = elim name [ None ↦ head.name | Some new ↦ new ]; key = head.key; parent = head.parent }

abbrev with_meant : List Key → Head → Head
with_meant keys head = record { name = head.name; key = head.key; parent = option_map (meant_key keys) head.parent }

head_named : (name : Option (List ℕ)) (c : Command) → head_of (command_named name c) ≡ option_map (with_that name) (head_of c)
head_named None c = same (head_of c)
  where
    same : (x : Option Head) → x ≡ option_map (with_that None) x
    same None = refl
    same (Some head) = refl
head_named (Some name) (Subvol uuid ctransid path) = refl
head_named (Some name) (Snapshot uuid ctransid path clone_uuid clone_ctransid) = refl
head_named (Some name) c = refl

head_meant : (keys : List Key) (c : Command) → head_of (with_parents keys c) ≡ option_map (with_meant keys) (head_of c)
head_meant keys (Subvol uuid ctransid path) = refl
head_meant keys (Snapshot uuid ctransid path clone_uuid clone_ctransid) = refl
head_meant keys (Clone path offset clone_uuid clone_ctransid clone_path clone_offset clone_len) = refl
head_meant keys c = refl

pub command_head : (o : Override) (c : Command) → head_of (command_as o c) ≡ option_map (head_as o) (head_of c)
command_head o c = head_meant o.parents (command_named o.name c) ∙ ap (option_map (with_meant o.parents)) (head_named o.name c) ∙ both (head_of c)
  where
    both : (x : Option Head) → option_map (with_meant o.parents) (option_map (with_that o.name) x) ≡ option_map (head_as o) x
    both None = refl
    both (Some head) = refl

pub has_new_head : HasNewHead
has_new_head overrides item head is = let o = override_for overrides item.file in command_head o item.command ∙ ap (option_map (head_as o)) is

plain_head : (o : Override) (name : List ℕ) (head : Head) → o.name ≡ Some name → o.parents ≡ [] → head_as o head ≡ record { name = name; key = head.key; parent = head.parent }
plain_head o name head given none =
    ap₂ (λ (n : Option (List ℕ)) (keys : List Key). head_as (record { name = n; parents = keys }) head) given none
    ∙ ap (λ (parent : Option Key). record { name = name; key = head.key; parent = parent }) (parent_meant head.parent)

pub has_new_name : HasNewName
has_new_name overrides item name head given none is =
    let some : Head → Option Head = λ h. Some h in
    has_new_head overrides item head is ∙ ap some (plain_head (override_for overrides item.file) name head given none)

bad_begun : {C : Type 0} (store : Store C) (head : Head) → is_name head.name ≡ false → begun store head ≡ Err BadName
unfolding begun
bad_begun store head bad = rw bad refl

pub bad_name_stands : {C : Type 0} → BadNameStands C
unfolding step_head
bad_name_stands {C} overrides item name head x put state given is bad =
    let new : Head = head_as (override_for overrides item.file) head in
    let store : Store C = completed state in
    let named : new.name ≡ name = ap (λ (n : Option (List ℕ)). elim n as (λ x. List ℕ) [ None ↦ head.name | Some given ↦ given ]) given in
    ap (λ (s : Stepped C). s.refusal) (head_step x put state (overridden_item overrides item).command new (has_new_head overrides item head is))
    ∙ ap (λ (r : Result (Subvolume C) Refusal). (entered store new r).refusal) (bad_begun store new (ap is_name named ∙ bad))

-- ---- all items

pub given_holds : (P : Override → Type 0) → P no_override → (number : ℕ) (overrides : Overrides) (file : ℕ) → AllByRecursion P overrides → P (override_from number overrides file)
given_holds P none number [] file all = none
given_holds P none number (o ∷ overrides) file all = one (number == file) (given_holds P none (number + 1) overrides file all.1)
  where
    one : (b : Bool) → P (override_from (number + 1) overrides file) → P (if b then o else override_from (number + 1) overrides file)
    one true more = all.0
    one false more = more

pub no_parents_for : (overrides : Overrides) (file : ℕ) → HaveNoParents overrides → (override_for overrides file).parents ≡ []
no_parents_for overrides file none = given_holds (λ o. o.parents ≡ []) refl 1 overrides file none

module _ (overrides : Overrides) where
  uuids_same : (items : List Item) → uuids_of (all_keys_named (commands_of (overridden_items overrides items))) ≡ uuids_of (all_keys_named (commands_of items))
  uuids_same [] = refl
  uuids_same (item ∷ items) =
      let u : Key → List ℕ = λ key. key.uuid in
      let o = override_for overrides item.file in
      map-append u (keys_named (command_as o item.command)) (all_keys_named (commands_of (overridden_items overrides items)))
      ∙ ap₂ (λ (a b : List (List ℕ)). a ++ b) (uuids_as o item.command) (uuids_same items)
      ∙ sym (map-append u (keys_named item.command) (all_keys_named (commands_of items)))

  pub named_same : HaveNoParents overrides → (items : List Item) → all_keys_named (commands_of (overridden_items overrides items)) ≡ all_keys_named (commands_of items)
  named_same none [] = refl
  named_same none (item ∷ items) =
      let o = override_for overrides item.file in
      ap₂ (λ (a b : List Key). a ++ b)
      (keys_as o item.command ∙ ap (λ (keys : List Key). map (meant_key keys) (keys_named item.command)) (no_parents_for overrides item.file none) ∙ none_meant (keys_named item.command))
      (named_same none items)

  literal_same : (items : List Item) → literal (commands_of (overridden_items overrides items)) ≡ literal (commands_of items)
  unfolding literal
  literal_same [] = refl
  literal_same (item ∷ items) =
      let f : Command → ℕ = λ c. length (bytes_of c) in
      sum_by-cons f (overridden_item overrides item).command (commands_of (overridden_items overrides items))
      ∙ ap₂ (λ (a b : ℕ). a + b) (ap length (command_ignores bytes_of bytes_ignore (override_for overrides item.file) item.command)) (literal_same items)
      ∙ sym (sum_by-cons f item.command (commands_of items))

  kept_same : (parts : List (List ℕ)) (current : Option (List ℕ)) (items : List Item) → kept_from parts current (commands_of (overridden_items overrides items)) ≡ kept_from parts current (commands_of items)
  unfolding kept_from
  kept_same parts current [] = refl
  kept_same parts current (item ∷ items) =
      let o = override_for overrides item.file in
      ap₂ (λ (b : Bool) (n : ℕ). (if b then 1 else 0) + n)
      (ap₂ (λ (a b : Bool). a && not b) (command_ignores is_clone clone_ignores o item.command) (command_ignores (is_redirected parts current) (redirected_ignores parts current) o item.command))
      (ap (λ (x : Option (List ℕ)). kept_from parts x (commands_of (overridden_items overrides items))) (command_ignores (uuid_after current) (uuid_ignores current) o item.command)
      ∙ kept_same parts (uuid_after current item.command) items)

  seconds_same : (items : List Item) → list_any (λ (item : Item). item.version == 2) (overridden_items overrides items) ≡ list_any (λ (item : Item). item.version == 2) items
  seconds_same [] = refl
  seconds_same (item ∷ items) = ap (λ (b : Bool). (item.version == 2) || b) (seconds_same items)

  pub versions_same : (items : List Item) → version_of (overridden_items overrides items) ≡ version_of items
  unfolding version_of
  versions_same items = ap (λ (b : Bool). if b then 2 else 1) (seconds_same items)

  count_same : (items : List Item) → length (overridden_items overrides items) ≡ length items
  count_same [] = refl
  count_same (item ∷ items) = ap (λ (n : ℕ). suc n) (count_same items)

-- ---- heads

-- Heads with the same keys, whose parents are so related.
abbrev AreAkin : (Option Key → Option Key → Type 0) → List Head → List Head → Type 0
AreAkin P [] [] = Unit {0}
AreAkin P [] (k ∷ ks) = ⊥
AreAkin P (h ∷ hs) [] = ⊥
AreAkin P (h ∷ hs) (k ∷ ks) = (h.key ≡ k.key) × P h.parent k.parent × AreAkin P hs ks

abbrev Any : Option Key → Option Key → Type 0
Any a b = Unit {0}

abbrev Same : Option Key → Option Key → Type 0
Same a b = a ≡ b

module _ (P : Option Key → Option Key → Type 0) where
  akin_onto : (o : Override) (x : Option Head) (hs ks : List Head) → ((h : Head) → P (option_map (meant_key o.parents) h.parent) h.parent) → AreAkin P hs ks
      → AreAkin P (onto_heads (option_map (head_as o) x) hs) (onto_heads x ks)
  akin_onto o None hs ks meant a = a
  akin_onto o (Some h) hs ks meant a = (refl, meant h, a)

  akin : (overrides : Overrides) → ((file : ℕ) (h : Head) → P (option_map (meant_key (override_for overrides file).parents) h.parent) h.parent)
      → (items : List Item) → AreAkin P (heads (overridden_items overrides items)) (heads items)
  unfolding heads_of
  akin overrides meant [] = tt
  akin overrides meant (item ∷ items) =
      let o = override_for overrides item.file in
      let more : List Head = heads (overridden_items overrides items) in
      subst (λ (x : Option Head). AreAkin P (onto_heads x more) (onto_heads (head_of item.command) (heads items)))
      (sym (command_head o item.command)) (akin_onto o (head_of item.command) more (heads items) (meant item.file) (akin overrides meant items))

  akin_uuids : (hs ks : List Head) → AreAkin P hs ks → map (λ (h : Head). h.key.uuid) hs ≡ map (λ (h : Head). h.key.uuid) ks
  akin_uuids [] [] a = refl
  akin_uuids [] (k ∷ ks) a = absurd a
  akin_uuids (h ∷ hs) [] a = absurd a
  akin_uuids (h ∷ hs) (k ∷ ks) a = ap₂ (λ (u : List ℕ) (us : List (List ℕ)). u ∷ us) (ap (λ (x : Key). x.uuid) a.0) (akin_uuids hs ks a.2)

  akin_keys : (hs ks : List Head) → AreAkin P hs ks → map (λ (h : Head). h.key) hs ≡ map (λ (h : Head). h.key) ks
  akin_keys [] [] a = refl
  akin_keys [] (k ∷ ks) a = absurd a
  akin_keys (h ∷ hs) [] a = absurd a
  akin_keys (h ∷ hs) (k ∷ ks) a = ap₂ (λ (x : Key) (xs : List Key). x ∷ xs) a.0 (akin_keys hs ks a.2)

  akin_length : (hs ks : List Head) → AreAkin P hs ks → length hs ≡ length ks
  akin_length [] [] a = refl
  akin_length [] (k ∷ ks) a = absurd a
  akin_length (h ∷ hs) [] a = absurd a
  akin_length (h ∷ hs) (k ∷ ks) a = ap (λ (n : ℕ). suc n) (akin_length hs ks a.2)

  akin_some : (hs ks : List Head) → AreAkin P hs ks → hs ≢ [] → ks ≢ []
  akin_some [] [] a some = some
  akin_some [] (k ∷ ks) a some = absurd a
  akin_some (h ∷ hs) [] a some = absurd a
  akin_some (h ∷ hs) (k ∷ ks) a some = λ e. cc

akin_turned : (hs ks : List Head) → AreAkin Same hs ks → AreAkin Same ks hs
akin_turned [] [] a = tt
akin_turned [] (k ∷ ks) a = absurd a
akin_turned (h ∷ hs) [] a = absurd a
akin_turned (h ∷ hs) (k ∷ ks) a = (sym a.0, sym a.1, akin_turned hs ks a.2)

akin_follow : (hs ks : List Head) → AreAkin Same hs ks → EachFollows hs → EachFollows ks
akin_follow [] [] a f = tt
akin_follow [] (k ∷ ks) a f = absurd a
akin_follow (h ∷ hs) [] a f = absurd a
akin_follow (h ∷ []) (k ∷ []) a f = tt
akin_follow (h ∷ []) (k ∷ l ∷ ks) a f = absurd a.2
akin_follow (h ∷ i ∷ hs) (k ∷ []) a f = absurd a.2
akin_follow (h ∷ i ∷ hs) (k ∷ l ∷ ks) a f =
    let some : Key → Option Key = λ x. Some x in
    (sym a.2.1 ∙ f.0 ∙ ap some a.0, akin_follow (i ∷ hs) (l ∷ ks) a.2 f.1)

all_akin : (overrides : Overrides) (items : List Item) → AreAkin Any (heads (overridden_items overrides items)) (heads items)
all_akin overrides items = akin Any overrides (λ file h. tt) items

pub parts_same : (overrides : Overrides) (items : List Item) → part_uuids (overridden_items overrides items) ≡ part_uuids items
parts_same overrides items = akin_uuids Any (heads (overridden_items overrides items)) (heads items) (all_akin overrides items)

-- The keys whose UUIDs pass a test have those of the UUIDs that pass it.
passed_uuids : (p : List ℕ → Bool) (keys : List Key) → uuids_of (filter (λ (key : Key). p key.uuid) keys) ≡ filter p (uuids_of keys)
passed_uuids p [] = refl
passed_uuids p (key ∷ keys) = one (p key.uuid) (passed_uuids p keys)
  where
    one : (b : Bool) → uuids_of (filter (λ (key : Key). p key.uuid) keys) ≡ filter p (uuids_of keys)
        → uuids_of (if b then key ∷ filter (λ (key : Key). p key.uuid) keys else filter (λ (key : Key). p key.uuid) keys) ≡ (if b then key.uuid ∷ filter p (uuids_of keys) else filter p (uuids_of keys))
    one true more = ap (λ (us : List (List ℕ)). key.uuid ∷ us) more
    one false more = more

outside_uuids_same : (overrides : Overrides) (items : List Item) → uuids_of (keys_outside (overridden_items overrides items)) ≡ uuids_of (keys_outside items)
outside_uuids_same overrides items =
    let outer : List (List ℕ) → List ℕ → Bool = λ parts uuid. not (is_among parts uuid) in
    passed_uuids (outer (part_uuids (overridden_items overrides items))) (all_keys_named (commands_of (overridden_items overrides items)))
    ∙ ap₂ (λ (parts uuids : List (List ℕ)). filter (outer parts) uuids) (parts_same overrides items) (uuids_same overrides items)
    ∙ sym (passed_uuids (outer (part_uuids items)) (all_keys_named (commands_of items)))

pub keeps_all_else : (overrides : Overrides) (items : List Item) → KeepsAllElse overrides items
keeps_all_else overrides items =
    let as_many : length (heads (overridden_items overrides items)) ≡ length (heads items) = akin_length Any (heads (overridden_items overrides items)) (heads items) (all_akin overrides items) in
    record {
      items_count = count_same overrides items;
      heads_count = as_many;
      parts = parts_same overrides items;
      part_keys = akin_keys Any (heads (overridden_items overrides items)) (heads items) (all_akin overrides items);
      named_uuids = uuids_same overrides items;
      outside_uuids = outside_uuids_same overrides items;
      version = versions_same overrides items;
      bytes = literal_same overrides items;
      kept = ap (λ (parts : List (List ℕ)). kept_from parts None (commands_of (overridden_items overrides items))) (parts_same overrides items) ∙ kept_same overrides (part_uuids items) None items;
      accepted = ap₂ (λ (m n : ℕ). codes "accepted " ++ decimal m ++ 0x20 ∷ decimal n ++ 0x0a ∷ []) as_many (count_same overrides items);
    }

pub names_alone_keep_keys : NamesAloneKeepKeys
names_alone_keep_keys overrides items none =
    let named = named_same overrides none items in
    let a = akin Same overrides (λ file h. ap (λ (keys : List Key). option_map (meant_key keys) h.parent) (no_parents_for overrides file none) ∙ parent_meant h.parent) items in
    let b = akin_turned (heads (overridden_items overrides items)) (heads items) a in
    record {
      named = named;
      outside = ap₂ (λ (parts : List (List ℕ)) (keys : List Key). filter (λ (key : Key). not (is_among parts key.uuid)) keys) (parts_same overrides items) named;
      follow = (
        λ c. (akin_some Same _ _ a c.0, akin_follow _ _ a c.1),
        λ c. (akin_some Same _ _ b c.0, akin_follow _ _ b c.1),
      );
    }

-- ---- one item

pub changes_names_and_parents : (overrides : Overrides) (item : Item) → ChangesNamesAndParents overrides item
changes_names_and_parents overrides item =
    let o = override_for overrides item.file in
    let c = item.command in
    record {
      place = refl;
      keys = keys_as o c;
      other = λ h none. ap at (ap (with_parents o.parents) (no_head_named o.name c h) ∙ names_none o.parents c none);
      unnamed = λ e none. ap at (ap (λ (name : Option (List ℕ)). with_parents o.parents (command_named name c)) e ∙ names_none o.parents c none);
      parentless = λ e. ap at (ap (λ (keys : List Key). with_parents keys (command_named o.name c)) e ∙ with_none (command_named o.name c));
    }
  where
    at : Command → Item
    at c = record item { command = c }

pub names_alone_rename : NamesAloneRename
names_alone_rename overrides reading none =
    let at : List Item → Reading = λ items. record { items = items; end = reading.end } in
    ap at (all reading.items)
  where
    all : (items : List Item) → overridden_items overrides items ≡ map (named_item overrides) items
    all [] = refl
    all (item ∷ items) =
        ap₂ (λ (x : Item) (xs : List Item). x ∷ xs) ((changes_names_and_parents overrides item).parentless (no_parents_for overrides item.file none)) (all items)

-- ---- what versions can say

abbrev pub NameFits : List ℕ → Type 0
NameFits name = (length name < 2 ^ 16) × IsBytes name

-- A head that a version can say, it can say with another name.
head_writable : (version : ℕ) (name : List ℕ) (c : Command) (head : Head) → head_of c ≡ Some head → NameFits name → IsSpellable version c → IsSpellable version (with_name name c)
unfolding row
head_writable version name (Subvol uuid ctransid path) head h n w = let v = w.values in spellable_first version (Subvol uuid ctransid name) w.known (v.0, (v.1.0, ((λ e. n.0, n.1), tt)))
head_writable version name (Snapshot uuid ctransid path clone_uuid clone_ctransid) head h n w = let v = w.values in
    spellable_first version (Snapshot uuid ctransid name clone_uuid clone_ctransid) w.known (v.0, (v.1.0, ((λ e. n.0, n.1), (v.1.1.1.0, (v.1.1.1.1.0, tt)))))
head_writable version name c head h n w = cc

-- A path never takes the rest of a body.
path_is_within : (version : ℕ) → takes_rest version PATH ≡ false
path_is_within version = one (version == 2)
  where
    one : (b : Bool) → (b && false) ≡ false
    one true = refl
    one false = refl

meant_fits : (keys : List Key) (uuid : List ℕ) (n : ℕ) → AreNumbered keys → n < 2 ^ 64 → meant_ctransid keys uuid n < 2 ^ 64
meant_fits [] uuid n numbered fits = fits
meant_fits (key ∷ keys) uuid n numbered fits = one (bytes_eq key.uuid uuid) (meant_fits keys uuid n numbered.1 fits)
  where
    one : (b : Bool) → meant_ctransid keys uuid n < 2 ^ 64 → (if b then key.ctransid else meant_ctransid keys uuid n) < 2 ^ 64
    one true more = numbered.0
    one false more = more

-- What a version can say, it can say with the CTRANSIDs that are meant.
parents_writable : (version : ℕ) (keys : List Key) (c : Command) → AreNumbered keys → IsSpellable version c → IsSpellable version (with_parents keys c)
unfolding row
parents_writable version keys (Snapshot uuid ctransid path clone_uuid clone_ctransid) numbered w = let v = w.values in
    spellable_first version (Snapshot uuid ctransid path clone_uuid (meant_ctransid keys clone_uuid clone_ctransid)) w.known
    (v.0, (v.1.0, ((λ e. v.1.1.0.0 (path_is_within version), v.1.1.0.1), (v.1.1.1.0, (meant_fits keys clone_uuid clone_ctransid numbered v.1.1.1.1.0, tt)))))
parents_writable version keys (Clone path offset clone_uuid clone_ctransid clone_path clone_offset clone_len) numbered w = let v = w.values in
    spellable_first version (Clone path offset clone_uuid (meant_ctransid keys clone_uuid clone_ctransid) clone_path clone_offset clone_len) w.known (
      (λ e. v.0.0 (path_is_within version), v.0.1),
      (
        v.1.0,
        (
          v.1.1.0,
          (
            meant_fits keys clone_uuid clone_ctransid numbered v.1.1.1.0,
            ((λ e. v.1.1.1.1.0.0 (path_is_within version), v.1.1.1.1.0.1), (v.1.1.1.1.1.0, (v.1.1.1.1.1.1.0, tt))),
          ),
        ),
      ),
    )
parents_writable version keys c numbered w = w

-- Each command can be said with what is said in front of its file, where the name fits if it is
-- given to a head, and the numbers do.
pub record Fits (override : Override) (command : Command) : Type 0 where
  pub name : (name : List ℕ) (head : Head) → override.name ≡ Some name → head_of command ≡ Some head → NameFits name
  pub parents : AreNumbered override.parents

abbrev pub FitsItem : Overrides → Item → Type 0
FitsItem overrides item = Fits (override_for overrides item.file) item.command

pub spellable_as : (version : ℕ) (o : Override) (c : Command) → Fits o c → IsSpellable version c → IsSpellable version (command_as o c)
spellable_as version o c fits w = parents_writable version o.parents (command_named o.name c) fits.parents (one o.name refl)
  where
    two : (name : List ℕ) → o.name ≡ Some name → (h : Option Head) → head_of c ≡ h → IsSpellable version (with_name name c)
    two name given None h = subst (λ (d : Command). IsSpellable version d) (sym (no_head name c h)) w
    two name given (Some head) h = head_writable version name c head h (fits.name name head given h) w

    one : (name : Option (List ℕ)) → o.name ≡ name → IsSpellable version (command_named name c)
    one None given = w
    one (Some name) given = two name given (head_of c) refl

abbrev pub IsWritten : Item → Type 0
IsWritten item = CanWrite item.version item.command × (is_version item.version ≡ true)

item_written : (overrides : Overrides) (item : Item) → FitsItem overrides item → IsWritten item → IsWritten (overridden_item overrides item)
item_written overrides item fits w = (record { spellable = spellable_as item.version (override_for overrides item.file) item.command fits w.0.spellable }, w.1)

pub all_written : (overrides : Overrides) (items : List Item) → AllByRecursion (FitsItem overrides) items → AllByRecursion IsWritten items → AllByRecursion IsWritten (overridden_items overrides items)
all_written overrides [] fits w = tt
all_written overrides (item ∷ items) fits w = (item_written overrides item fits.0 w.0, all_written overrides items fits.1 w.1)

no_override_fits : IsLawfulOverride no_override
no_override_fits = record { name = tt; parents = tt }

pub lawful_fits : (o : Override) (c : Command) → IsLawfulOverride o → Fits o c
lawful_fits o c lawful = record { name = λ name head given h. one name (subst (λ (n : Option (List ℕ)). IfSome n IsNewName) given lawful.name); parents = lawful.parents }
  where
    one : (name : List ℕ) → IsNewName name → NameFits name
    one name new = (new.short, new.bytes)

all_fit : (overrides : Overrides) → AreLawfulOverrides overrides → (items : List Item) → AllByRecursion (FitsItem overrides) items
all_fit overrides lawful [] = tt
all_fit overrides lawful (item ∷ items) =
    (lawful_fits (override_for overrides item.file) item.command (given_holds IsLawfulOverride no_override_fits 1 overrides item.file lawful), all_fit overrides lawful items)

pub overridden_is_writable : OverriddenIsWritable
overridden_is_writable overrides items lawful w = all_written overrides items (all_fit overrides lawful items) w

-- ---- the last command

abbrev first_or : Command → List Command → Command
first_or d [] = d
first_or d (c ∷ cs) = c

still_none : (overrides : Overrides) (items : List Item) → commands_of items ≡ [] → commands_of (overridden_items overrides items) ≡ []
still_none overrides [] e = refl
still_none overrides (item ∷ items) e = cc

pub still_ends : (overrides : Overrides) (items : List Item) (others : List Command) → commands_of items ≡ others ++ End ∷ [] → (more : List Command) × (commands_of (overridden_items overrides items) ≡ more ++ End ∷ [])
still_ends overrides [] [] e = cc
still_ends overrides [] (o ∷ others) e = cc
still_ends overrides (item ∷ items) [] e =
    let last : item.command ≡ End = ap (first_or End) e in
    let none : commands_of items ≡ [] = ap (drop 1) e in
    ([], ap₂ (λ (c : Command) (cs : List Command). c ∷ cs) (end_stays (override_for overrides item.file) item.command last) (still_none overrides items none))
still_ends overrides (item ∷ items) (o ∷ others) e =
    let more = still_ends overrides items others (ap (drop 1) e) in
    ((overridden_item overrides item).command ∷ more.0, ap (λ (cs : List Command). (overridden_item overrides item).command ∷ cs) more.1)

pub whole_with : (overrides : Overrides) (reading : Reading) → AllByRecursion IsWritten (overridden_items overrides reading.items) → IsWhole reading → IsWhole (overridden overrides reading)
whole_with overrides reading written w =
    let ends = still_ends overrides reading.items w.others w.ends in
    record { whole = w.whole; others = ends.0; ends = ends.1; writable = written }

pub overridden_is_whole : OverriddenIsWhole
overridden_is_whole overrides reading lawful w = whole_with overrides reading (overridden_is_writable overrides reading.items lawful w.writable) w
