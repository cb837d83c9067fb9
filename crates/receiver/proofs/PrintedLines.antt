-- What one item prints: the line of the part that it completes.
use Rattle.std.specs.Prelude.{◌≡◌, ℕ, Bool, true, false, List, [], ◌∷◌, ◌++◌, Option, None, Some, Result, Ok, Err, is_some, if◌then◌else◌}
use Rattle.std.specs.Str.{bytes_eq}
use Rattle.std.specs.List.{AllByRecursion, filter, flat_map}
use Rattle.std.proofs.Common.{inl, inr, refl, sym, ap, ◌∙◌, append_assoc, append-nil}
use Rattle.std.proofs.lemmas.List.{map-append}
use Rattle.std.proofs.lemmas.List.Concat.{flat_map-append}
use Rattle.send_model.specs.Refusal as meant
use Rattle.send_model.specs.Command.{Command, End}
use Rattle.send_model.specs.Reading.{Item}
use Rattle.send_model.specs.Subvolume.{Subvolume}
use Rattle.send_model.specs.Store.{Head, Entry, Store, Part, State, After, Stepped, completed, begun, entered, edited, edit_part, unfinished, with_contents, has_uuid, step_head, step_edit, step}
use Rattle.send_model.specs.Receive.{byte_cells}
use Rattle.send_model.specs.Guards.{Watched, guarded}
use Rattle.send_model.specs.Cells.{recelled_entry, recelled_store}
use Rattle.send_model.proofs.Sorts.{head_step, same_inside}
use Rattle.send_model.proofs.Stores.{or_parts, bytes_eq_same}
use Rattle.send_model.proofs.Guarding.{after_looks, looks_are}
use Rattle.store_model.specs.Stored.{is_edit}
use Rattle.store_model.specs.States.{is_complete, complete_line, lines_behind}
use Rattle.store_model.proofs.PassedStates.{sort_of, IsOn, IsOpen, filtered_all, filtered_last, drop_start, completed_on}
use Rattle.store_model.proofs.LawfulGroups.{edit_step}
use Rattle.store_model.proofs.WrittenGroups.{head_fact}
use Rattle.receiver.specs.Standing.{IsLastLine}
use Rattle.receiver.specs.Running.{byte_step}

-- ---- last entries

final : {A : Type 0} → List A → Option A
final [] = None
final (x ∷ []) = Some x
final (x ∷ y ∷ ys) = final (y ∷ ys)

final_is : {A : Type 0} (xs : List A) (x : A) → final (xs ++ x ∷ []) ≡ Some x
unfolding final
final_is [] x = refl
final_is (y ∷ []) x = refl
final_is (y ∷ z ∷ xs) x = final_is (z ∷ xs) x

last_same : {A : Type 0} (xs ys : List A) (x y : A) → xs ++ x ∷ [] ≡ ys ++ y ∷ [] → x ≡ y
last_same xs ys x y e = same_inside (sym (final_is xs x) ∙ ap final e ∙ final_is ys y)

abbrev pub blank_entries : Store ℕ → Store (Unit {0})
blank_entries store = recelled_store (λ _. tt) store

line_of_blank : {C D : Type 0} (f : C → D) (e : Entry (Subvolume C)) → complete_line (recelled_entry f e) ≡ complete_line e
unfolding complete_line
line_of_blank f e = refl

-- ---- lines behind those of a store

behind : (start rest : Store ℕ) → lines_behind start (start ++ rest) ≡ flat_map complete_line (filter is_complete rest)
unfolding lines_behind
behind start rest = ap (λ (l : Store ℕ). flat_map complete_line (filter is_complete l)) (drop_start start (start ++ rest) rest refl)

-- The line of the part that is open, if there is one.
abbrev pub PartLine : Option (Part ℕ) → Store ℕ → List ℕ → Type 0
PartLine None store line = line ≡ []
PartLine (Some part) store line = IsLastLine line (blank_entries store)

line_is : (start store : Store ℕ) (part : Part ℕ) (line : List ℕ) (on : IsOpen start store part) → IsLastLine line (blank_entries store) → line ≡ complete_line on.last
line_is start store part line on l =
    let before : Store (Unit {0}) = blank_entries (start ++ on.complete) in
    let is : blank_entries store ≡ before ++ recelled_entry (λ _. tt) on.last ∷ [] =
    ap blank_entries (on.is ∙ sym (append_assoc start on.complete (on.last ∷ []))) ∙ map-append (recelled_entry (λ _. tt)) (start ++ on.complete) (on.last ∷ []) in
    let same : recelled_entry (λ _. tt) on.last ≡ l.last = last_same before l.before (recelled_entry (λ _. tt) on.last) l.last (sym is ∙ l.is) in
    l.line_is ∙ ap complete_line (sym same) ∙ line_of_blank (λ _. tt) on.last

one_line : (e : Entry (Subvolume ℕ)) (s : Subvolume ℕ) → complete_line (record e { contents = Some s }) ≡ complete_line e
unfolding complete_line
one_line e s = refl

-- a part that is complete is the last entry
with_last : (uuid : List ℕ) (s : Subvolume ℕ) (store : Store ℕ) (last : Entry (Subvolume ℕ)) → has_uuid uuid store ≡ false → last.key.uuid ≡ uuid → with_contents uuid s (store ++ last ∷ []) ≡ store ++ record last { contents = Some s } ∷ []
unfolding with_contents
with_last uuid s [] last new own = rw (own, bytes_eq_same uuid) refl
with_last uuid s (e ∷ store) last new own = let p = or_parts (bytes_eq e.key.uuid uuid) (has_uuid uuid store) new in rw p.0 (ap (λ (r : Store ℕ). e ∷ r) (with_last uuid s store last p.1 own))

-- A part that is complete brings its line.
pub completed_lines : (start store : Store ℕ) (part : Option (Part ℕ)) (line : List ℕ) → IsOn start store part → PartLine part store line → lines_behind start (completed (record { store = store; part = part })) ≡ lines_behind start store ++ line
unfolding completed
completed_lines start store None line on l = sym (append-nil (lines_behind start store)) ∙ ap (λ (x : List ℕ). lines_behind start store ++ x) (sym l)
completed_lines start store (Some part) line on l =
    let last : Entry (Subvolume ℕ) = record on.last { contents = Some part.subvolume } in
    let after : with_contents part.key.uuid part.subvolume store ≡ start ++ (on.complete ++ last ∷ []) =
    ap (λ (s : Store ℕ). with_contents part.key.uuid part.subvolume s) (on.is ∙ sym (append_assoc start on.complete (on.last ∷ [])))
    ∙ with_last part.key.uuid part.subvolume (start ++ on.complete) on.last on.new on.own ∙ append_assoc start on.complete (last ∷ []) in
    let before_lines : lines_behind start store ≡ flat_map complete_line on.complete =
    ap (lines_behind start) on.is ∙ behind start (on.complete ++ on.last ∷ []) ∙ ap (flat_map complete_line) (filtered_last on.complete on.last on.are (ap is_some on.is_open)) in
    let all_complete : AllByRecursion (λ e. is_complete e ≡ true) (on.complete ++ last ∷ []) = both on.complete last on.are refl in
    ap (lines_behind start) after ∙ behind start (on.complete ++ last ∷ []) ∙ ap (flat_map complete_line) (filtered_all (on.complete ++ last ∷ []) all_complete)
    ∙ flat_map-append complete_line on.complete (last ∷ [])
    ∙ (λ i. sym before_lines i ++ (append-nil (complete_line last) ∙ one_line on.last part.subvolume ∙ sym (line_is start store part line on l)) i)
  where
    both : (xs : Store ℕ) (x : Entry (Subvolume ℕ)) → AllByRecursion (λ e. is_complete e ≡ true) xs → is_complete x ≡ true → AllByRecursion (λ e. is_complete e ≡ true) (xs ++ x ∷ [])
    both [] x a b = (b, tt)
    both (y ∷ xs) x a b = (a.0, both xs x a.1 b)

-- An unfinished entry behind complete ones brings none.
begun_lines : (start whole : Store ℕ) (on : IsOn start whole None) (head : Head) → lines_behind start (whole ++ unfinished head ∷ []) ≡ lines_behind start whole
begun_lines start whole on head =
    ap (λ (s : Store ℕ). lines_behind start (s ++ unfinished head ∷ [])) on.is ∙ ap (lines_behind start) (append_assoc start on.complete (unfinished head ∷ []))
    ∙ behind start (on.complete ++ unfinished head ∷ []) ∙ ap (flat_map complete_line) (filtered_last on.complete (unfinished head) on.are refl ∙ sym (filtered_all on.complete on.are))
    ∙ sym (behind start on.complete) ∙ ap (lines_behind start) (sym on.is)

entered_lines : (start whole : Store ℕ) (on : IsOn start whole None) (head : Head) (r : Result (Subvolume ℕ) meant.Refusal) → lines_behind start (entered whole head r).state.store ≡ lines_behind start whole
entered_lines start whole on head (Err refusal) = refl
entered_lines start whole on head (Ok s) = begun_lines start whole on head

edited_store : (put : List ℕ) (state : State ℕ) (c : Command) → (step_edit 0 put state c).state.store ≡ state.store
unfolding step_edit
edited_store put state c = one state.part
  where
    two : (part : Part ℕ) (r : Result (Subvolume ℕ) meant.Refusal) → (edited state.store part r).state.store ≡ state.store
    two part (Ok s) = refl
    two part (Err refusal) = refl

    one : (o : Option (Part ℕ)) → (elim o as (λ x. Stepped ℕ) [
      | None ↦ record { state = state; refusal = Some meant.NoSubvolume }
      | Some part ↦ edited state.store part (edit_part 0 put state.store part c)
    ]).state.store ≡ state.store
    one None = refl
    one (Some part) = two part (edit_part 0 put state.store part c)

module _ (start : Store ℕ) (w : Watched (State ℕ)) (item : Item) (line : List ℕ) (on : IsOn start w.state.store w.state.part) (l : PartLine w.state.part w.state.store line) where
  abbrev brought : List ℕ
  brought = if is_edit item.command then [] else line

  headed : (head : Head) → lines_behind start (step_head w.state head).state.store ≡ lines_behind start w.state.store ++ line
  unfolding step_head
  headed head =
      entered_lines start (completed w.state) (completed_on start w.state.store w.state.part on).0 head (begun (completed w.state) head) ∙ completed_lines start w.state.store w.state.part line on l

  over : lines_behind start (step 0 (byte_cells item) w.state End).state.store ≡ lines_behind start w.state.store ++ line
  unfolding step
  over = completed_lines start w.state.store w.state.part line on l

  step_lines : lines_behind start (step 0 (byte_cells item) w.state item.command).state.store ≡ lines_behind start w.state.store ++ (if is_edit item.command then [] else line)
  step_lines =
      let state : State ℕ = w.state in
      let c : Command = item.command in
      let put : List ℕ = byte_cells item in
      let whole = completed_lines start state.store state.part line on l in
      elim (sort_of c) as (λ x. lines_behind start (step 0 put state c).state.store ≡ lines_behind start state.store ++ (if is_edit c then [] else line)) [
        | inl h ↦ ap (λ (a : Stepped ℕ). lines_behind start a.state.store) (head_step 0 put state c h.0 h.1)
            ∙ headed h.0
            ∙ ap (λ (b : Bool). lines_behind start state.store ++ (if b then [] else line)) (sym (head_fact c h.0 h.1))
        | inr (inl e) ↦ ap (λ (d : Command). lines_behind start (step 0 put state d).state.store) e ∙ over ∙ ap (λ (d : Command). lines_behind start state.store ++ (if is_edit d then [] else line)) (sym e)
        | inr (inr e) ↦ ap (λ (a : Stepped ℕ). lines_behind start a.state.store) (edit_step 0 put state c e) ∙ ap (lines_behind start) (edited_store put state c)
            ∙ sym (append-nil (lines_behind start state.store)) ∙ ap (λ (b : Bool). lines_behind start state.store ++ (if b then [] else line)) (sym e)
      ]

  -- What an item prints, whatever becomes of it.
  pub item_lines : lines_behind start (byte_step w item).state.state.store ≡ lines_behind start w.state.store ++ (elim (guarded w.guards item.command) as (λ x. List ℕ) [ Some refusal ↦ [] | None ↦ if is_edit item.command then [] else line ])
  item_lines =
      ap (λ (a : After (Watched (State ℕ))). lines_behind start a.state.state.store) (looks_are (State ℕ) (λ s i. step 0 (byte_cells i) s i.command) w item) ∙ one (guarded w.guards item.command)
    where
      one : (o : Option meant.Refusal) → lines_behind start (after_looks (State ℕ) (λ s i. step 0 (byte_cells i) s i.command) w item o).state.state.store
          ≡ lines_behind start w.state.store ++ (elim o as (λ x. List ℕ) [ Some refusal ↦ [] | None ↦ if is_edit item.command then [] else line ])
      one (Some refusal) = sym (append-nil (lines_behind start w.state.store))
      one None = step_lines
