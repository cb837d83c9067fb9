-- The composed commands by commands in place of items; what stands for heads and plain edits; and a
-- clone that has no source, or no part.
use Rattle.std.specs.Prelude.{◌≡◌, ℕ, Bool, true, false, List, [], ◌∷◌, ◌++◌, map, Option, None, Some, Ok, Err, is_some}
use Rattle.std.specs.Str.{bytes_eq}
use Rattle.std.proofs.Common.{refl, sym, ap, ◌∙◌}
use Rattle.std.proofs.lemmas.Bool.{false≢true}
use Rattle.send_model.specs.Refusal.{NoSubvolume, BadPath, NoSource}
use Rattle.send_model.specs.Chain.{◌>>=◌, ◌>>◌, require, found}
use Rattle.send_model.specs.Command.{Command, Subvol, Snapshot, Clone, End}
use Rattle.send_model.specs.Path.{path_names}
use Rattle.send_model.specs.Subvolume.{Subvolume}
use Rattle.send_model.specs.Edit.{overwritten, change_inode, set_cells}
use Rattle.send_model.specs.Clone.{Cloned, cloned, clone, clone_values}
use Rattle.send_model.specs.Store.{Key, Head, head_of, Store, State, step, step_edit}
use Rattle.send_model.specs.Receive.{bytes_of}
use Rattle.send_model.specs.Reading.{Item}
use Rattle.send_model.specs.Order.{commands_of}
use Rattle.send_model.specs.Provenance.{Traced, fresh, uuid_after, traced_step}
use Rattle.send_model.specs.Composed.{commands_for, composed_from}
use Rattle.send_model.proofs.Sorts.{is_plain}
use Rattle.send_model.proofs.Stores.{bytes_eq_same, bytes_eq_true}

-- ---- the composed commands, from commands

-- What is composed from commands, as `composed_from` has it for items.
abbrev pub composed_by : Store ℕ → List (List ℕ) → Key → State Traced → Option (List ℕ) → List Command → List Command
composed_by store parts last state current [] = []
composed_by store parts last state current (c ∷ cs) =
    commands_for store parts last state current c ++ composed_by store parts last (step (fresh 0) (map fresh (bytes_of c)) state c).state (uuid_after current c) cs

pub composed_items : (store : Store ℕ) (parts : List (List ℕ)) (last : Key) (items : List Item) (state : State Traced) (current : Option (List ℕ)) → composed_from store parts last state current items ≡ composed_by store parts last state current (commands_of items)
unfolding composed_from
composed_items store parts last [] state current = refl
composed_items store parts last (item ∷ items) state current =
    ap (λ (cs : List Command). commands_for store parts last state current item.command ++ cs) (composed_items store parts last items (traced_step state item).state (uuid_after current item.command))

pub head_commands : (store : Store ℕ) (parts : List (List ℕ)) (last : Key) (state : State Traced) (current : Option (List ℕ)) (c : Command) (head : Head) → head_of c ≡ Some head → commands_for store parts last state current c ≡ []
head_commands store parts last state current (Subvol uuid ctransid path) head h = refl
head_commands store parts last state current (Snapshot uuid ctransid path clone_uuid clone_ctransid) head h = refl
head_commands store parts last state current c head h = cc

pub head_uuid : (current : Option (List ℕ)) (c : Command) (head : Head) → head_of c ≡ Some head → uuid_after current c ≡ Some head.key.uuid
head_uuid current (Subvol uuid ctransid path) head h = ap (λ (o : Option Head). elim o as (λ x. Option (List ℕ)) [ None ↦ current | Some k ↦ Some k.key.uuid ]) h
head_uuid current (Snapshot uuid ctransid path clone_uuid clone_ctransid) head h = ap (λ (o : Option Head). elim o as (λ x. Option (List ℕ)) [ None ↦ current | Some k ↦ Some k.key.uuid ]) h
head_uuid current c head h = cc

pub plain_commands : (store : Store ℕ) (parts : List (List ℕ)) (last : Key) (state : State Traced) (current : Option (List ℕ)) (c : Command) → is_plain c ≡ true → commands_for store parts last state current c ≡ c ∷ []
plain_commands store parts last state current (Subvol uuid ctransid path) h = absurd (false≢true h)
plain_commands store parts last state current (Snapshot uuid ctransid path clone_uuid clone_ctransid) h = absurd (false≢true h)
plain_commands store parts last state current (Clone path offset clone_uuid clone_ctransid clone_path clone_offset clone_len) h = absurd (false≢true h)
plain_commands store parts last state current End h = absurd (false≢true h)
plain_commands store parts last state current c h = refl

pub plain_uuid : (current : Option (List ℕ)) (c : Command) → is_plain c ≡ true → uuid_after current c ≡ current
plain_uuid current (Subvol uuid ctransid path) h = absurd (false≢true h)
plain_uuid current (Snapshot uuid ctransid path clone_uuid clone_ctransid) h = absurd (false≢true h)
plain_uuid current End h = absurd (false≢true h)
plain_uuid current c h = refl

-- ---- uuids

pub turned_true : (a b : List ℕ) → bytes_eq a b ≡ true → bytes_eq b a ≡ true
turned_true a b e = ap (bytes_eq b) (bytes_eq_true a b e) ∙ bytes_eq_same b

pub turned_false : (a b : List ℕ) → bytes_eq a b ≡ false → bytes_eq b a ≡ false
turned_false a b e = one (bytes_eq b a) refl
  where
    one : (t : Bool) → bytes_eq b a ≡ t → t ≡ false
    one true h = absurd (false≢true (sym e ∙ turned_true b a h))
    one false h = refl

-- ---- a clone without a source

pub no_source : (x : Traced) (s next : Subvolume Traced) (own : Bool) (path : List ℕ) (offset : ℕ) (clone_path : List ℕ) (from len : ℕ) → clone x s None own (clone_values path offset clone_path from len) ≡ Ok next → ⊥
unfolding clone cloned
no_source x s next own path offset clone_path from len e = one (is_some (path_names path)) (is_some (path_names clone_path)) e
  where
    one : (a b : Bool) → ((require a BadPath >> (require b BadPath >> ◌>>=◌ {A = Subvolume Traced} {B = Cloned Traced} (found None NoSource) (λ u. Err NoSource))) >>= λ range. Ok (change_inode range.ino (set_cells (overwritten x offset range.cells)) s)) ≡ Ok next → ⊥
    one true true h = cc
    one true false h = cc
    one false b h = cc

-- ---- a clone without a part

pub clone_without : (store : Store Traced) (path : List ℕ) (offset : ℕ) (uuid : List ℕ) (ctransid : ℕ) (clone_path : List ℕ) (from len : ℕ)
    → (step (fresh 0) [] (record { store = store; part = None }) (Clone path offset uuid ctransid clone_path from len)).refusal ≡ Some NoSubvolume
unfolding step step_edit
clone_without store path offset uuid ctransid clone_path from len = refl
