-- How many bytes and clones stand for items, whatever stands for redirected clones: those of the
-- items themselves, and those of the pieces.
use Rattle.std.specs.Prelude.{◌≡◌, ℕ, ◌+◌, Bool, true, false, cond, not, ◌&&◌, List, [], ◌∷◌, ◌++◌, Option, None, Some, if◌then◌else◌}
use Rattle.std.specs.List.{sum_by, count_by, flat_map}
use Rattle.std.proofs.Common.{refl, sym, ap₂, ◌∙◌, arith}
use Rattle.std.proofs.lemmas.List.Sums.{sum_by-cons, sum_by-append}
use Rattle.send_model.specs.Command.{Command, Subvol, Snapshot, Clone, End}
use Rattle.send_model.specs.Reading.{Item}
use Rattle.send_model.specs.Store.{Key, Head, Store}
use Rattle.send_model.specs.Order.{commands_of}
use Rattle.send_model.specs.Outside.{is_among}
use Rattle.send_model.specs.Provenance.{Piece, literal_len, is_run, uuid_after, is_own, is_redirected, redirected_by, literal_in, runs_among}
use Rattle.send_model.specs.Counts.{literal, is_clone, clones, kept_from}
use Rattle.send_model.specs.Composed.{head_command, piece_commands, commands_by, list_by, whole_list}
use Rattle.send_model.proofs.Counting.{len_of, written, one_if, piece_written, piece_clones}

-- ---- the pieces of one range

pub pieces_written : (store : Store ℕ) (path : List ℕ) (offset : ℕ) (ps : List Piece) → written (flat_map (piece_commands store path offset) ps) ≡ sum_by literal_len ps
pieces_written store path offset [] = refl
pieces_written store path offset (p ∷ ps) =
    sum_by-append len_of (piece_commands store path offset p) (flat_map (piece_commands store path offset) ps)
    ∙ ap₂ (λ (a b : ℕ). a + b) (piece_written store path offset p) (pieces_written store path offset ps)
    ∙ sym (sum_by-cons literal_len p ps)

abbrev pub one_clone : Command → ℕ
one_clone c = cond (is_clone c) 1 0

abbrev pub one_run : Piece → ℕ
one_run p = cond (is_run p) 1 0

pub pieces_clones : (store : Store ℕ) (path : List ℕ) (offset : ℕ) (ps : List Piece) → count_by is_clone (flat_map (piece_commands store path offset) ps) ≡ count_by is_run ps
pieces_clones store path offset [] = refl
pieces_clones store path offset (p ∷ ps) =
    sum_by-append one_clone (piece_commands store path offset p) (flat_map (piece_commands store path offset) ps)
    ∙ ap₂ (λ (a b : ℕ). a + b) (piece_clones store path offset p) (pieces_clones store path offset ps)
    ∙ sym (sum_by-cons one_run p ps)

-- ---- one command

-- What a redirected clone adds.
abbrev pub added : Bool → ℕ → ℕ
added b n = cond b n 0

abbrev pub left_over : List Piece → ℕ
left_over ps = sum_by literal_len ps

abbrev pub run_count : List Piece → ℕ
run_count ps = count_by is_run ps

-- What stands for a clone: one command that writes nothing, or the pieces.
pub chosen_written : (o m : Bool) (a b : Command) (ps : List Command) (n : ℕ) → len_of a ≡ 0 → len_of b ≡ 0 → written ps ≡ n
    → written (if o then a ∷ [] else (if m && not o then ps else b ∷ [])) ≡ added (m && not o) n
chosen_written true true a b ps n x y e = sum_by-cons len_of a [] ∙ (omega (arith, x))
chosen_written true false a b ps n x y e = sum_by-cons len_of a [] ∙ (omega (arith, x))
chosen_written false true a b ps n x y e = e
chosen_written false false a b ps n x y e = sum_by-cons len_of b [] ∙ (omega (arith, y))

pub chosen_clones : (o m : Bool) (a b : Command) (ps : List Command) (n : ℕ) → is_clone a ≡ true → is_clone b ≡ true → count_by is_clone ps ≡ n
    → count_by is_clone (if o then a ∷ [] else (if m && not o then ps else b ∷ [])) ≡ one_if (not (m && not o)) + added (m && not o) n
chosen_clones true true a b ps n x y e = sum_by-cons one_clone a [] ∙ (rw x omega arith)
chosen_clones true false a b ps n x y e = sum_by-cons one_clone a [] ∙ (rw x omega arith)
chosen_clones false true a b ps n x y e = omega (arith, e)
chosen_clones false false a b ps n x y e = sum_by-cons one_clone b [] ∙ (rw y omega arith)

pub head_writes : (name : List ℕ) (key : Key) (parent : Option Key) → len_of (head_command name key parent) ≡ 0
head_writes name key None = refl
head_writes name key (Some k) = refl

pub head_is_no_clone : (name : List ℕ) (key : Key) (parent : Option Key) → one_clone (head_command name key parent) ≡ 0
head_is_no_clone name key None = refl
head_is_no_clone name key (Some k) = refl

-- ---- any commands

bytes_first : (b : Bool) (ps : List Piece) (others : List (List Piece)) → literal_in (if b then ps ∷ others else others) ≡ added b (left_over ps) + literal_in others
bytes_first true ps others = sum_by-cons (λ pieces. sum_by literal_len pieces) ps others
bytes_first false ps others = omega arith

runs_first : (b : Bool) (ps : List Piece) (others : List (List Piece)) → runs_among (if b then ps ∷ others else others) ≡ added b (run_count ps) + runs_among others
runs_first true ps others = sum_by-cons (λ pieces. count_by is_run pieces) ps others
runs_first false ps others = omega arith

-- What stands for a redirected clone is as much as its pieces.
pub record AsMuch {S : Type 0} (instead : S → Command → List Command) (pieces : S → Command → List Piece) : Type 0 where
  pub bytes : (state : S) (c : Command) → is_clone c ≡ true → written (instead state c) ≡ left_over (pieces state c)
  pub count : (state : S) (c : Command) → is_clone c ≡ true → count_by is_clone (instead state c) ≡ run_count (pieces state c)

module _ {S : Type 0} (does : S → Item → S) (instead : S → Command → List Command) (pieces : S → Command → List Piece) (much : AsMuch instead pieces) (parts : List (List ℕ)) (last : Key) where
  command_written : (state : S) (current : Option (List ℕ)) (c : Command) → written (commands_by instead parts last state current c) ≡ len_of c + added (is_redirected parts current c) (left_over (pieces state c))
  command_written state current (Clone path offset clone_uuid clone_ctransid clone_path clone_offset clone_len) =
      let c : Command = Clone path offset clone_uuid clone_ctransid clone_path clone_offset clone_len in
      let e = chosen_written (is_own current clone_uuid) (is_among parts clone_uuid) (Clone path offset last.uuid last.ctransid clone_path clone_offset clone_len) c (instead state c) (left_over (pieces state c)) refl refl (much.bytes state c refl) in
      e ∙ (omega arith)
  command_written state current (Subvol uuid ctransid path) = omega arith
  command_written state current (Snapshot uuid ctransid path clone_uuid clone_ctransid) = omega arith
  command_written state current End = omega arith
  command_written state current c = omega arith

  command_clones : (state : S) (current : Option (List ℕ)) (c : Command)
      → count_by is_clone (commands_by instead parts last state current c) ≡ (if is_clone c && not (is_redirected parts current c) then 1 else 0) + added (is_redirected parts current c) (run_count (pieces state c))
  command_clones state current (Clone path offset clone_uuid clone_ctransid clone_path clone_offset clone_len) =
      let c : Command = Clone path offset clone_uuid clone_ctransid clone_path clone_offset clone_len in
      chosen_clones (is_own current clone_uuid) (is_among parts clone_uuid) (Clone path offset last.uuid last.ctransid clone_path clone_offset clone_len) c (instead state c) (run_count (pieces state c)) refl refl (much.count state c refl)
  command_clones state current (Subvol uuid ctransid path) = omega arith
  command_clones state current (Snapshot uuid ctransid path clone_uuid clone_ctransid) = omega arith
  command_clones state current End = omega arith
  command_clones state current c = omega arith

  pub list_literal : (items : List Item) (state : S) (current : Option (List ℕ))
      → literal (list_by does (commands_by instead parts last) state current items) ≡ literal (commands_of items) + literal_in (redirected_by does pieces parts state current items)
  unfolding literal list_by redirected_by
  list_literal [] state current = refl
  list_literal (item ∷ items) state current =
      let next : S = does state item in
      let uuid : Option (List ℕ) = uuid_after current item.command in
      let here : List Command = commands_by instead parts last state current item.command in
      let there : List Command = list_by does (commands_by instead parts last) next uuid items in
      let a = sum_by-append len_of here there in
      let b = command_written state current item.command in
      let c = sum_by-cons len_of item.command (commands_of items) in
      let d = bytes_first (is_redirected parts current item.command) (pieces state item.command) (redirected_by does pieces parts next uuid items) in
      let e = list_literal items next uuid in
      omega (arith, a, b, c, d, e)

  pub list_clones : (items : List Item) (state : S) (current : Option (List ℕ))
      → clones (list_by does (commands_by instead parts last) state current items) ≡ kept_from parts current (commands_of items) + runs_among (redirected_by does pieces parts state current items)
  unfolding clones list_by redirected_by kept_from
  list_clones [] state current = refl
  list_clones (item ∷ items) state current =
      let next : S = does state item in
      let uuid : Option (List ℕ) = uuid_after current item.command in
      let here : List Command = commands_by instead parts last state current item.command in
      let there : List Command = list_by does (commands_by instead parts last) next uuid items in
      let a = sum_by-append one_clone here there in
      let b = command_clones state current item.command in
      let d = runs_first (is_redirected parts current item.command) (pieces state item.command) (redirected_by does pieces parts next uuid items) in
      let e = list_clones items next uuid in
      omega (arith, a, b, d, e)

-- ---- the whole list, with its head and END

pub whole_literal_of : (first last : Head) (edits : List Command) → literal (whole_list first last edits) ≡ literal edits
unfolding literal
whole_literal_of first last edits =
    let head : Command = head_command last.name last.key first.parent in
    let a = sum_by-cons len_of head (edits ++ End ∷ []) in
    let b = sum_by-append len_of edits (End ∷ []) in
    omega (arith, a, b, head_writes last.name last.key first.parent)

pub whole_clones_of : (first last : Head) (edits : List Command) → clones (whole_list first last edits) ≡ clones edits
unfolding clones
whole_clones_of first last edits =
    let head : Command = head_command last.name last.key first.parent in
    let a = sum_by-cons one_clone head (edits ++ End ∷ []) in
    let b = sum_by-append one_clone edits (End ∷ []) in
    omega (arith, a, b, head_is_no_clone last.name last.key first.parent)
