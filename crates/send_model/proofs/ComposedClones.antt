-- What consecutive parts are composed to, clones included, is accepted by every store that finds
-- the same outside subvolumes, gives it the last part's subvolume, and names only outside keys and
-- the last part's own. Over items, so files come in later.
use Rattle.std.specs.Prelude.{◌≡◌, ◌⊎◌, ℕ, Bool, true, false, cond, not, ◌||◌, List, [], ◌∷◌, ◌++◌, map, Option, None, Some}
use Rattle.std.specs.List.{AllByRecursion, filter, flat_map}
use Rattle.std.specs.Str.{bytes_eq}
use Rattle.std.proofs.Common.{refl, sym, ap, subst, ◌∙◌, inl, inr}
use Rattle.std.proofs.lemmas.Bool.{false≢true}
use Rattle.send_model.specs.Command.{Command, End}
use Rattle.send_model.specs.Path.{is_name}
use Rattle.send_model.specs.Reading.{Item}
use Rattle.send_model.specs.Subvolume.{Subvolume, root_alone}
use Rattle.send_model.specs.Edit.{overwritten, change_inode, set_cells}
use Rattle.send_model.specs.Store.{Key, Head, Store, State, has_name, has_uuid, find, completed}
use Rattle.send_model.specs.Receive.{bytes_of, start_of}
use Rattle.send_model.specs.Order.{heads, commands_of, IsConsecutive}
use Rattle.send_model.specs.Outside.{IsAmong, is_among, part_uuids, base_of, keys_named, all_keys_named, keys_outside, SameOn}
use Rattle.send_model.specs.Provenance.{Traced, fresh, fresh_cells, traced_store, pieces_of}
use Rattle.send_model.specs.Composed.{first_head, last_head, head_command, piece_commands, commands_by, list_by, redirected_commands, whole_list, composed_from, composed_edits, composed_with}
use Rattle.send_model.specs.Headline.{last_entry}
use Rattle.send_model.specs.Cells.{Holds}
use Rattle.send_model.proofs.ElementLaws.{all_both, all_first, all_rest}
use Rattle.send_model.proofs.Sorts.{same_inside, plain_names_nothing}
use Rattle.send_model.proofs.Stores.{bytes_eq_same, bytes_eq_true}
use Rattle.send_model.proofs.Runs.{Takes}
use Rattle.send_model.proofs.Merging.{last_key}
use Rattle.send_model.proofs.Composing.{AreNamed, last_of, last_named, names}
use Rattle.send_model.proofs.Headlines.{among_kept, among_all, without_finds}
use Rattle.send_model.proofs.Held.{edit_holds, clone_holds, cloned_holds}
use Rattle.send_model.proofs.Carrying.{InPlace, range_covered}
use Rattle.send_model.proofs.Tracing.{byte_of, untraced_store}
use Rattle.send_model.proofs.TracedBase.{found_holds}
use Rattle.send_model.proofs.Naming.{all_named, pieces_named}
use Rattle.send_model.proofs.Elsewhere.{Agrees, AreApart, AreOrdered, there, RedirectedLaw}
use Rattle.send_model.proofs.MergingAny.{Celled, after, stands_for, listed, Keeps, AreFine, InsteadLaw}
use Rattle.send_model.proofs.ComposingAny.{composes_any}
use Rattle.send_model.proofs.TracedCells.{traced}

-- ---- parts and outside keys

module _ {A : Type 0} (P Q : A → Type 0) where
  pub all_so : ((x : A) → P x → Q x) → (xs : List A) → AllByRecursion P xs → AllByRecursion Q xs
  all_so f [] a = tt
  all_so f (x ∷ xs) a = (f x a.0, all_so f xs a.1)

abbrev uuids_of : List Head → List (List ℕ)
uuids_of hs = map (λ head. head.key.uuid) hs

or_right : (a b : Bool) → b ≡ true → a || b ≡ true
or_right true b e = refl
or_right false b e = e

or_left : (a b : Bool) → a ≡ true → a || b ≡ true
or_left true b e = refl
or_left false b e = absurd (false≢true e)

pub all_ours : (hs : List Head) → AllByRecursion (λ head. is_among (uuids_of hs) head.key.uuid ≡ true) hs
all_ours [] = tt
all_ours (h ∷ hs) = (
  or_left (bytes_eq h.key.uuid h.key.uuid) (is_among (uuids_of hs) h.key.uuid) (bytes_eq_same h.key.uuid),
  all_so (λ head. is_among (uuids_of hs) head.key.uuid ≡ true) (λ head. is_among (h.key.uuid ∷ uuids_of hs) head.key.uuid ≡ true) (λ head e. or_right (bytes_eq h.key.uuid head.key.uuid) (is_among (uuids_of hs) head.key.uuid) e) hs (all_ours hs),
)

pub last_ours : (parts : List (List ℕ)) (hs : List Head) (last : Head) → AllByRecursion (λ head. is_among parts head.key.uuid ≡ true) hs → last_head hs ≡ Some last → is_among parts last.key.uuid ≡ true
last_ours parts [] last a e = cc
last_ours parts (h ∷ []) last a e = subst (λ (x : Head). is_among parts x.key.uuid ≡ true) (same_inside e) a.0
last_ours parts (h ∷ more ∷ hs) last a e = last_ours parts (more ∷ hs) last a.1 e

all_among : (ks : List Key) → AllByRecursion (λ k. IsAmong k ks) ks
all_among [] = tt
all_among (k ∷ ks) = (inl refl, all_so (λ q. IsAmong q ks) (λ q. IsAmong q (k ∷ ks)) (λ q a. inr a) ks (all_among ks))

abbrev pub outside_of : List (List ℕ) → List Key → List Key
outside_of parts ks = filter (λ key. not (is_among parts key.uuid)) ks

pub all_outside : (parts : List (List ℕ)) (ks : List Key) → AllByRecursion (λ k. is_among parts k.uuid ≡ false → IsAmong k (outside_of parts ks)) ks
all_outside parts ks = all_so (λ k. IsAmong k ks) (λ k. is_among parts k.uuid ≡ false → IsAmong k (outside_of parts ks)) (λ k a n. among_kept (λ key. not (is_among parts key.uuid)) k ks (ap not n) a) ks (all_among ks)

kept_passes : (p : Key → Bool) (k : Key) (ks : List Key) → IsAmong k (filter p ks) → p k ≡ true
kept_passes p k [] a = absurd a
kept_passes p k (x ∷ ks) a = one (p x) refl a (kept_passes p k ks)
  where
    one : (b : Bool) → p x ≡ b → IsAmong k (cond b (x ∷ filter p ks) (filter p ks)) → (IsAmong k (filter p ks) → p k ≡ true) → p k ≡ true
    one true e (inl s) more = ap p (sym s) ∙ e
    one true e (inr m) more = more m
    one false e m more = more m

not_true : (b : Bool) → not b ≡ true → b ≡ false
not_true true e = absurd (false≢true e)
not_true false e = refl

pub outside_apart : (parts : List (List ℕ)) (ks : List Key) (last : Key) → is_among parts last.uuid ≡ true → AreApart (outside_of parts ks) last
outside_apart parts ks last ours k a = one (bytes_eq k.uuid last.uuid) refl
  where
    apart : is_among parts k.uuid ≡ false
    apart = not_true (is_among parts k.uuid) (kept_passes (λ key. not (is_among parts key.uuid)) k ks a)

    one : (b : Bool) → bytes_eq k.uuid last.uuid ≡ b → b ≡ false
    one true e = absurd (false≢true (sym apart ∙ ap (is_among parts) (bytes_eq_true k.uuid last.uuid e) ∙ ours))
    one false e = refl

pub first_of_heads : (hs : List Head) (h : Head) (rest : List Head) (first : Head) → hs ≡ h ∷ rest → first_head hs ≡ Some first → first ≡ h
first_of_heads hs h rest first e f = same_inside (sym f ∙ ap first_head e)

-- ---- items, over any cells

-- What stands for items that were received into their base, for their first and last head.
pub record ItemsAny (base : Store ℕ) (items : List Item) (first last : Head) (end : State ℕ) (Fine : Command → Type 0) (edits : List Command) : Type 0 where
  -- what the last part came to
  pub subvolume : Subvolume ℕ
  pub subvolume_is : find (completed end) last.key ≡ Some subvolume
  -- every store that finds the same outside subvolumes, and has neither the last name nor uuid,
  -- takes it and gets just that
  pub taken : (t : Store ℕ) → SameOn base t (keys_outside items) → has_name last.name t ≡ false → has_uuid last.key.uuid t ≡ false
      → Takes (start_of t) (whole_list first last edits) (start_of (t ++ last_entry first last subvolume ∷ []))
  -- the first part's parent is outside, and each command is fine
  pub first_named : AllByRecursion (λ q. IsAmong q (keys_outside items)) (all_keys_named (head_command first.name first.key first.parent ∷ []))
  pub fine : AllByRecursion Fine edits

module _ {C : Type 0} (k : Celled C) (store : Store ℕ) (items : List Item) (first last : Head) (start : Store C) (Good : Subvolume C → Type 0) (ItemGood : Item → Type 0)
    (keeps : Keeps k (base_of store items) start (keys_outside items) Good ItemGood) (root_good : Good root_alone) (instead : State C → Command → List Command) (Fine : Command → Type 0) where
  abbrev base : Store ℕ
  base = base_of store items

  abbrev keys : List Key
  keys = keys_outside items

  abbrev parts : List (List ℕ)
  parts = part_uuids items

  -- What stands for the items.
  abbrev pub edits_of : List Command
  edits_of = list_by (after k) (commands_by instead parts last.key) (start_of start) None items

  pub items_any : AreFine k base start keys Good ItemGood keeps instead parts last.key Fine → InsteadLaw k base start keys Good ItemGood keeps instead parts last.key Fine
      → first_head (heads items) ≡ Some first → last_head (heads items) ≡ Some last → IsConsecutive items → AllByRecursion ItemGood items → (end : State ℕ) → Takes (start_of base) (commands_of items) end
      → ItemsAny base items first last end Fine edits_of
  items_any others law first_is last_is consecutive goods end taken =
      let cs : List Command = commands_of items in
      let ours : AllByRecursion (λ head. is_among parts head.key.uuid ≡ true) (heads items) = all_ours (heads items) in
      let good : is_name last.name ≡ true = named_last (heads items) (names cs (start_of base) end taken) last_is in
      let w = composes_any k base start keys Good ItemGood keeps root_good instead parts last.key Fine (outside_apart parts (all_keys_named cs) last.key (last_ours parts (heads items) last ours last_is)) others law (λ q i. without_finds parts store q i)
      items last.name end goods good consecutive.0 consecutive.1 ours (all_outside parts (all_keys_named cs)) taken in
      let stood : List Command = stands_for k instead parts last.key (start_of start) None items in
      let same_first : w.first ≡ first = sym (first_of_heads (heads items) w.first w.rest first w.heads_are first_is) in
      let l = last_of w.first w.rest in
      let same_last : last_key w.first.key w.rest ≡ last.key = sym l.2 ∙ ap (λ (h : Head). h.key) (same_inside (sym l.1 ∙ ap last_head (sym w.heads_are) ∙ last_is)) in
      let same_edits : stood ≡ edits_of = sym (listed k instead parts last.key items (start_of start) None) in
      let D : Store ℕ → Head → List Command → Type 0 = λ t h es. Takes (start_of t) (whole_list h last es) (start_of (t ++ last_entry h last w.subvolume ∷ [])) in
      record {
        subvolume = w.subvolume;
        subvolume_is = ap (find (completed end)) (sym same_last) ∙ w.subvolume_is;
        taken = λ t same no_name no_uuid.
            let agrees : Agrees base keys t = λ q a. sym (among_all (λ x. find base x ≡ find t x) q keys same a) in
            subst (λ (es : List Command). D t first es) same_edits (subst (λ (h : Head). D t h stood) same_first (w.taken t agrees no_name no_uuid));
        first_named = subst (λ (h : Head). AllByRecursion (λ q. IsAmong q keys) (all_keys_named (head_command h.name h.key h.parent ∷ []))) same_first w.first_named;
        fine = subst (λ (es : List Command). AllByRecursion Fine es) same_edits w.fine;
      }
    where
      named_last : (hs : List Head) → AreNamed hs → last_head hs ≡ Some last → is_name last.name ≡ true
      named_last [] n e = cc
      named_last (h ∷ hs) n e = last_named h hs n last e

-- ---- few names

-- A command that names outside keys and the last part's own alone.
module _ (keys : List Key) (last : Key) where
  abbrev pub MayName : Key → Type 0
  MayName q = IsAmong q keys ⊎ (q ≡ last)

  abbrev pub NamesFew : Command → Type 0
  NamesFew c = AllByRecursion MayName (keys_named c)

  pub few_each : (cs : List Command) → AllByRecursion MayName (all_keys_named cs) → AllByRecursion NamesFew cs
  few_each [] a = tt
  few_each (c ∷ cs) a = (all_first MayName (keys_named c) (all_keys_named cs) a, few_each cs (all_rest MayName (keys_named c) (all_keys_named cs) a))

  few_all : (cs : List Command) → AllByRecursion NamesFew cs → AllByRecursion MayName (all_keys_named cs)
  few_all [] a = tt
  few_all (c ∷ cs) a = all_both MayName (keys_named c) (all_keys_named cs) a.0 (few_all cs a.1)

  first_may : (name name' : List ℕ) (key key' : Key) (parent : Option Key) → AllByRecursion (λ q. IsAmong q keys) (all_keys_named (head_command name key parent ∷ []))
      → AllByRecursion MayName (all_keys_named (head_command name' key' parent ∷ []))
  first_may name name' key key' None named = tt
  first_may name name' key key' (Some q) named = (inl named.0, tt)

  -- So does the whole list, where each command inside it does.
  pub whole_few : (first last_one : Head) (edits : List Command) → AllByRecursion (λ q. IsAmong q keys) (all_keys_named (head_command first.name first.key first.parent ∷ [])) → AllByRecursion NamesFew edits
      → AllByRecursion MayName (all_keys_named (whole_list first last_one edits))
  whole_few first last_one edits named fine =
      all_named MayName (head_command last_one.name last_one.key first.parent ∷ []) (edits ++ End ∷ []) (first_may first.name last_one.name first.key last_one.key first.parent named)
      (all_named MayName edits (End ∷ []) (few_all edits fine) tt)

-- ---- items, over traced cells

-- What is composed from items that were received into their base, for their first and last head.
pub record ItemsCompose (base : Store ℕ) (items : List Item) (first last : Head) (end : State ℕ) : Type 0 where
  -- what the last part came to
  pub subvolume : Subvolume ℕ
  pub subvolume_is : find (completed end) last.key ≡ Some subvolume
  -- every store that finds the same outside subvolumes, and has neither the last name nor uuid,
  -- takes it and gets just that
  pub taken : (t : Store ℕ) → SameOn base t (keys_outside items) → has_name last.name t ≡ false → has_uuid last.key.uuid t ≡ false
      → Takes (start_of t) (composed_with base first last items) (start_of (t ++ last_entry first last subvolume ∷ []))
  -- it names outside subvolumes and itself alone
  pub names_only : AllByRecursion (λ key. IsAmong key (keys_outside items) ⊎ (key ≡ last.key)) (all_keys_named (composed_with base first last items))

module _ (base : Store ℕ) (keys : List Key) (ordered : AreOrdered base keys) (parts : List (List ℕ)) (last : Key) (apart : AreApart keys last) (law : RedirectedLaw base keys last) where
  abbrev IsCarried : Subvolume Traced → Type 0
  IsCarried s = Holds (InPlace base keys) s

  all_fresh : (bytes : List ℕ) → AllByRecursion (InPlace base keys) (map fresh bytes)
  all_fresh [] = tt
  all_fresh (b ∷ bytes) = (tt, all_fresh bytes)

  keeps : Keeps traced base (traced_store base) keys IsCarried (λ item. Unit {0})
  keeps = record {
    start_is = untraced_store base;
    found = λ key s among f. found_holds base keys ordered key s among f;
    edits = λ item s t g h e. edit_holds (InPlace base keys) (fresh 0) (fresh_cells item) item.command s t tt (all_fresh (bytes_of item.command)) h e;
    clones = λ s source own path offset clone_path from len t h hs e. clone_holds (InPlace base keys) (fresh 0) s source own path offset clone_path from len t tt h hs e;
  }

  root_carried : IsCarried root_alone
  unfolding root_alone
  root_carried = (root_alone, refl)

  few_outside : (qs : List Key) → AllByRecursion (λ q. IsAmong q keys) qs → AllByRecursion (MayName keys last) qs
  few_outside [] a = tt
  few_outside (q ∷ qs) a = (inl a.0, few_outside qs a.1)

  others : AreFine traced base (traced_store base) keys IsCarried (λ item. Unit {0}) keeps (redirected_commands base) parts last (NamesFew keys last)
  others = record {
    plain = λ item g h. subst (λ (ks : List Key). AllByRecursion (MayName keys last) ks) (sym (plain_names_nothing item.command h)) tt;
    own = λ item path offset uuid ctransid clone_path from len g. (inr refl, tt);
    outside = λ item path offset uuid ctransid clone_path from len g among. (inl among, tt);
  }

  instead_law : InsteadLaw traced base (traced_store base) keys IsCarried (λ item. Unit {0}) keeps (redirected_commands base) parts last (NamesFew keys last)
  instead_law item store key s source path offset uuid ctransid clone_path from len range g held source_held made range_is =
      let of_range : List Traced → List Command = λ cells. flat_map (piece_commands base path offset) (pieces_of base cells) in
      let next : Subvolume Traced = change_inode range.ino (set_cells (overwritten (fresh 0) offset range.cells)) s in
      let cells_held : AllByRecursion (InPlace base keys) range.cells = cloned_holds (InPlace base keys) s (Some source) false path offset clone_path from len range held
      (λ v q. subst (λ (x : Subvolume Traced). Holds (InPlace base keys) x) (same_inside q) source_held) made in
      record {
        taken = λ u agrees. subst (λ (cs : List Command). Takes (there last u s) cs (there last u next)) (sym (ap of_range range_is)) (law u s source path offset clone_path from len range agrees apart held source_held made);
        fine = subst (λ (cs : List Command). AllByRecursion (NamesFew keys last) cs) (sym (ap of_range range_is))
            (few_each keys last (of_range range.cells) (few_outside (all_keys_named (of_range range.cells)) (pieces_named base keys path offset 0 (pieces_of base range.cells) (map byte_of range.cells) (range_covered base keys range.cells cells_held))));
      }

pub items_compose : (store : Store ℕ) (items : List Item) (first last : Head) (end : State ℕ)
    → AreOrdered (base_of store items) (keys_outside items) → RedirectedLaw (base_of store items) (keys_outside items) last.key
    → first_head (heads items) ≡ Some first → last_head (heads items) ≡ Some last → IsConsecutive items
    → Takes (start_of (base_of store items)) (commands_of items) end → ItemsCompose (base_of store items) items first last end
unfolding composed_with composed_edits composed_from
items_compose store items first last end ordered law first_is last_is consecutive taken =
    let parts : List (List ℕ) = part_uuids items in
    let keys : List Key = keys_outside items in
    let base : Store ℕ = base_of store items in
    let apart : AreApart keys last.key = outside_apart parts (all_keys_named (commands_of items)) last.key (last_ours parts (heads items) last (all_ours (heads items)) last_is) in
    let w = items_any traced store items first last (traced_store base) (λ s. Holds (InPlace base keys) s) (λ item. Unit {0}) (keeps base keys ordered parts last.key apart law) (root_carried base keys ordered parts last.key apart law)
    (redirected_commands base) (NamesFew keys last.key) (others base keys ordered parts last.key apart law) (instead_law base keys ordered parts last.key apart law) first_is last_is consecutive (any_items items) end taken in
    record { subvolume = w.subvolume; subvolume_is = w.subvolume_is; taken = w.taken; names_only = whole_few keys last.key first last _ w.first_named w.fine }
  where
    any_items : (items : List Item) → AllByRecursion (λ item. Unit {0}) items
    any_items [] = tt
    any_items (item ∷ items) = (tt, any_items items)
