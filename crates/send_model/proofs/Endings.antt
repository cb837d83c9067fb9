-- Files that are read to a whole end end with END, so no part is left open.
use Rattle.std.specs.Prelude.{◌≡◌, ℕ, zero, suc, ◌+◌, ◌-◌, Bool, true, false, List, [], ◌∷◌, ◌++◌, length, drop, None, Result, Ok, Err, if◌then◌else◌, ◌⊎◌}
use Rattle.std.proofs.Common.{refl, sym, ap, subst, ◌∙◌, inl, inr, append_assoc, append-nil}
use Rattle.std.proofs.lemmas.Bool.{false≢true}
use Rattle.send_model.specs.Refusal.{Refusal}
use Rattle.send_model.specs.Command.{Command, End}
use Rattle.send_model.specs.Reading.{Item, Reading, Ending, Whole, Faulty, Due, HeaderDue, CommandDue, due_after, may_end, with_item, go_on, ended, faulty, joined, front_of, stream_version, header_len, reads_from, reads, input_from, input}
use Rattle.send_model.specs.Store.{State, step}
use Rattle.send_model.specs.Order.{commands_of}
use Rattle.send_model.proofs.Runs.{Takes, Takes-parts}

-- The last of the commands is END.
abbrev pub EndsWithEnd : List Command → Type 0
EndsWithEnd cs = (others : List Command) × (cs ≡ others ++ End ∷ [])

abbrev pub EndsWhole : Reading → Type 0
EndsWhole r = r.end ≡ Whole → EndsWithEnd (commands_of r.items)

faulty_ends : (file number offset : ℕ) (refusal : Refusal) → EndsWhole (faulty file number offset refusal)
faulty_ends file number offset refusal e = cc

only_end : (version : ℕ) (c : Command) (rest : List ℕ) → may_end (due_after version c) rest ≡ true → c ≡ End
only_end version End rest h = refl
only_end version c rest h = absurd (false≢true h)

one_more : (item : Item) (r : Reading) → EndsWhole r → EndsWhole (with_item item r)
one_more item r ih w = let m = ih w in (item.command ∷ m.0, ap (λ (cs : List Command). item.command ∷ cs) m.1)

item_then : (version : ℕ) (item : Item) (rest : List ℕ) (r : Reading) (b : Bool) → may_end (due_after version item.command) rest ≡ b → EndsWhole r → EndsWhole (with_item item (if b then ended else r))
item_then version item rest r true e ih w = ([], ap (λ (c : Command). c ∷ []) (only_end version item.command rest e))
item_then version item rest r false e ih w = one_more item r ih w

by_result : {A : Type 0} (more : A → Reading) (stop : Refusal → Reading) (r : Result A Refusal) → ((x : A) → EndsWhole (more x)) → ((refusal : Refusal) → EndsWhole (stop refusal)) → EndsWhole (go_on more stop r)
by_result more stop (Ok x) m s = m x
by_result more stop (Err refusal) m s = s refusal

pub ends_from : (n file : ℕ) (due : Due) (number offset : ℕ) (bytes : List ℕ) → EndsWhole (reads_from n file due number offset bytes)
unfolding reads_from
ends_from zero file due number offset bytes = faulty_ends file number offset _
ends_from (suc n) file HeaderDue number offset bytes = by_result _ _ (stream_version bytes) (λ version. ends_from n file (CommandDue version) number (offset + header_len) (drop header_len bytes)) (faulty_ends file number offset)
ends_from (suc n) file (CommandDue version) number offset bytes =
    by_result _ _ (front_of file version number offset bytes)
    (λ front. item_then version front.item front.rest _ _ refl (ends_from n file (due_after version front.item.command) (number + 1) (offset + (length bytes - length front.rest)) front.rest))
    (faulty_ends file number offset)

-- The commands of files read to a whole end are none, or end with END.
abbrev pub EndsWell : List Command → Type 0
EndsWell cs = (cs ≡ []) ⊎ EndsWithEnd cs

EndsInput : Reading → Type 0
EndsInput r = r.end ≡ Whole → EndsWell (commands_of r.items)

commands_append : (xs ys : List Item) → commands_of (xs ++ ys) ≡ commands_of xs ++ commands_of ys
commands_append [] ys = refl
commands_append (x ∷ xs) ys = ap (λ (cs : List Command). x.command ∷ cs) (commands_append xs ys)

append_ends : (cs ds : List Command) → EndsWithEnd cs → EndsWell ds → EndsWell (cs ++ ds)
append_ends cs ds (xs, e) (inl none) = inr (xs, ap (λ (d : List Command). cs ++ d) none ∙ append-nil cs ∙ e)
append_ends cs ds (xs, e) (inr (ys, f)) = inr (cs ++ ys, ap (λ (d : List Command). cs ++ d) f ∙ sym (append_assoc cs ys (End ∷ [])))

joined_ends : (items : List Item) (ending : Ending) (others : Reading) → EndsWhole (record { items = items; end = ending }) → EndsInput others → EndsInput (joined (record { items = items; end = ending }) others)
unfolding EndsWhole EndsInput
joined_ends items (Faulty verdict) others first rest w = cc
joined_ends items Whole others first rest w = let E : List Command → Type 0 = λ cs. EndsWell cs in subst E (sym (commands_append items others.items)) (append_ends (commands_of items) (commands_of others.items) (first refl) (rest w))

ends_input : (file : ℕ) (files : List (List ℕ)) → EndsInput (input_from file files)
unfolding input_from reads EndsInput
ends_input file [] = λ w. inl refl
ends_input file (bytes ∷ files) = let first = reads file bytes in joined_ends first.items first.end (input_from (file + 1) files) (ends_from (suc (length bytes)) file HeaderDue 1 0 bytes) (ends_input (file + 1) files)

pub input_ends : (files : List (List ℕ)) → (input files).end ≡ Whole → EndsWell (commands_of (input files).items)
unfolding input EndsInput
input_ends files w = ends_input 1 files w

-- After END there is no part.
pub no_part_left : (cs : List Command) (state end : State ℕ) → EndsWithEnd cs → Takes state cs end → end.part ≡ None
unfolding step
no_part_left cs state end (xs, e) t =
    let P : List Command → Type 0 = λ ds. Takes state ds end in
    let parts = Takes-parts xs (End ∷ []) state end (subst P e t) in
    sym (ap (λ (s : State ℕ). s.part) parts.2.1)
