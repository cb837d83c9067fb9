-- What a command adds whose step was taken: itself, or what stands for a clone.
use Rattle.std.specs.Prelude.{◌≡◌, ◌≢◌, ◌<◌, ◌≤◌, ℕ, ◌+◌, Bool, true, false, not, ◌&&◌, List, [], ◌∷◌, map, Option, None, Some, Result, Ok, Err, OnOk, if◌then◌else◌}
use Rattle.std.specs.Option.{option_map}
use Rattle.std.specs.List.{AllByRecursion, sum_by, flat_map}
use Rattle.std.proofs.Common.{refl, sym, ap, ap₂, subst, ◌∙◌, arith, append-nil, inl, inr, ⊎_elim}
use Rattle.std.proofs.KnownBytes.{Appends-nil}
use Rattle.send_model.specs.Command.{Command, Subvol, Snapshot, Clone, End}
use Rattle.send_model.specs.Spelling.{canonical, canonical_all}
use Rattle.send_model.specs.Subvolume.{Inode, Subvolume, inode_at, walk, is_file}
use Rattle.send_model.specs.Clone.{cells_of}
use Rattle.send_model.specs.Store.{Key, head_of, Store, State, step, find}
use Rattle.send_model.specs.Provenance.{Place, Traced, literal_len, pieces_of, is_own, is_redirected, clone_range, uncarried_in}
use Rattle.send_model.specs.Composed.{piece_commands, commands_for}
use Rattle.send_model.specs.Outside.{is_among}
use Rattle.send_model.specs.Due.{most_literal}
use Rattle.send_model.proofs.Sorts.{is_plain}
use Rattle.send_model.proofs.Fuel.{ok_same}
use Rattle.sx_base.specs.declared.outcome.Outcome.{Outcome}
use Rattle.sx_base.specs.declared.outcome.Outcome.TheVariants as ended
use Rattle.send_commands.specs.declared.command.Command as code
use Rattle.send_commands.specs.declared.command.Command.TheVariants as made
use Rattle.send_commands.specs.Meaning.{meaning_of}
use Rattle.extent_map.specs.Cells.{cells_between}
use Rattle.provenance.specs.declared.trace.Trace.{Trace}
use Rattle.provenance.specs.Traces.{place_of, place_in}
use Rattle.clone_resolve.specs.Taken.{TakenFrom, taken_range}
use Rattle.send_model.specs.Cells.{AllCells}
use Rattle.clone_resolve.proofs.TakenStates.{part_after_step, cells_found, cells_of_found, taken_from, range_taken}
use Rattle.clone_pieces.specs.Origins.{byte_of_trace}
use Rattle.clone_pieces.specs.Seen.{seen}
use Rattle.clone_pieces.specs.Redirecting.{seen_cells, pieces_spelled, RedirectEnd}
use Rattle.clone_pieces.proofs.Flow.{all_breaks, none_breaks, none_came}
use Rattle.clone_pieces.specs.declared.stops.SendStop.{SendStop}
use Rattle.clone_pieces.specs.declared.stops.SendStop.TheVariants as stopped
use Rattle.file_survey.specs.Findings.{Surveyed}
use Rattle.composer.specs.OverBase.{Composing}
use Rattle.composer.specs.Kept.{Kept, composing_of}
use Rattle.composer.specs.Adding.{Led, uncarried_by, IsSourceOf}
use Rattle.composer.proofs.Unpacked.{PutEnd, StopEnd, Adds, AddsCommand, AddEnd, AddsRange}
use Rattle.composer.proofs.HandedOn.{answer_with}
use Rattle.composer.proofs.OverBaseAdds.{sum_redirected}

-- ---- the contents of a source

some_is : {A : Type 0} (x y : A) → ◌≡◌ {A = Option A} (Some x) (Some y) → x ≡ y
some_is {A} x y e = ap inside e
  where
    inside : Option A → A
    inside None = x
    inside (Some a) = a

-- The contents that are found are those of the source.
pub contents_found : {C : Type 0} (store : Store C) (key : Key) (path : List ℕ) (sub : Subvolume C) (ino : ℕ) (inode : Inode C) (contents : List C) → Some sub ≡ find store key → walk sub path ≡ Ok ino → Some inode ≡ inode_at sub ino → contents ≡ inode.cells
    → (source : Subvolume C) (at : ℕ) → find store key ≡ Some source → walk source path ≡ Ok at → ◌≡◌ {A = Option (List C)} (Some contents) (Some (cells_of source at))
unfolding cells_of
contents_found {C} store key path sub ino inode contents found walked there cells source at f w =
    let same : source ≡ sub = some_is source sub (sym f ∙ sym found) in
    let number : at ≡ ino = ok_same (sym w ∙ ap (λ (s : Subvolume C). walk s path) same ∙ walked) in
    ap (λ (c : List C). Some c) (cells ∙ ap (λ (o : Option (Inode C)). elim o [ None ↦ [] | Some i ↦ i.cells ]) there
    ∙ ap₂ (λ (s : Subvolume C) (n : ℕ). elim (inode_at s n) [ None ↦ [] | Some i ↦ i.cells ]) (sym same) (sym number))

-- A file has an inode.
pub no_inode : {C : Type 0} (store : Store C) (key : Key) (path : List ℕ) (sub : Subvolume C) (ino : ℕ) → Some sub ≡ find store key → walk sub path ≡ Ok ino → None ≡ inode_at sub ino
    → (source : Subvolume C) (at : ℕ) → find store key ≡ Some source → walk source path ≡ Ok at → is_file source at ≡ true → ⊥
unfolding is_file
no_inode {C} store key path sub ino found walked none source at f w file =
    let same : source ≡ sub = some_is source sub (sym f ∙ sym found) in
    let number : at ≡ ino = ok_same (sym w ∙ ap (λ (s : Subvolume C). walk s path) same ∙ walked) in
    let gone : inode_at source at ≡ None = ap₂ (λ (s : Subvolume C) (n : ℕ). inode_at s n) same number ∙ sym none in
    cc

-- ---- what a range adds

places_seen : (files : List (List ℕ)) (base : Store ℕ) (cells : List (Option Trace)) → map (λ (c : Traced). c.place) (seen_cells files base cells) ≡ map place_in cells
places_seen files base [] = refl
places_seen files base (None ∷ cells) = ap (λ (ps : List (Option Place)). None ∷ ps) (places_seen files base cells)
places_seen files base (Some trace ∷ cells) = ap (λ (ps : List (Option Place)). place_of trace ∷ ps) (places_seen files base cells)

-- How many uncarried bytes a range has, whatever its bytes are.
abbrev pub IsCount : Store ℕ → List (Option Trace) → ℕ → Type 0
IsCount base cells count = (range : List Traced) → map (λ c. c.place) range ≡ map place_in cells → count ≡ sum_by literal_len (pieces_of base range)

-- There is too much.
pub range_exceeds : (files : List (List ℕ)) (base : Store ℕ) (version : ℕ) (path : List ℕ) (offset : ℕ) (cells : List (Option Trace)) (count sum : ℕ) (old new : Kept) (out_old out_new : Option (List ℕ)) (before now : ℕ) (result : Outcome)
    → IsCount base cells count → sum ≡ old.sum + count → most_literal < sum → StopEnd old.pending new.pending out_old out_new before now (ended.TooMuch sum) result
    → AddsRange base version path offset (seen_cells files base cells) old new out_old out_new (Err result)
range_exceeds files base version path offset cells count sum old new out_old out_new before now result is sum_is high stop =
    let range : List Traced = seen_cells files base cells in
    let A : Outcome → Type 0 = λ o. AddsRange base version path offset range old new out_old out_new (Err o) in
    ⊎_elim
    (λ sent. subst A (sym sent.0) (sum_is ∙ ap (λ (n : ℕ). old.sum + n) (is range (places_seen files base cells)), (high, sent.1.appends, sent.1.none)))
    (λ failed. subst A (sym failed.0) (inl (none_breaks out_old out_new old.pending new.pending failed.3 failed.1)))
    (stop.sent (λ e. cc) (λ e. cc))

-- It is written, or an object of the outside failed.
pub range_added : (files : List (List ℕ)) (base : Store ℕ) (version : ℕ) (path : List ℕ) (offset : ℕ) (cells : List (Option Trace)) (count sum : ℕ) (old new : Kept) (out_old out_new : Option (List ℕ)) (result : Result (Unit {0}) SendStop)
    → IsCount base cells count → sum ≡ old.sum + count → sum ≤ most_literal → new.sum ≡ sum
    → RedirectEnd out_old out_new old.pending new.pending (pieces_spelled version base path offset (seen_cells files base cells)) result
    → AddsRange base version path offset (seen_cells files base cells) old new out_old out_new (answer_with result)
range_added files base version path offset cells count sum old new out_old out_new result is sum_is low kept end = by_result result end
  where
    range : List Traced
    range = seen_cells files base cells

    counted : sum ≡ old.sum + sum_by literal_len (pieces_of base range)
    counted = sum_is ∙ ap (λ (n : ℕ). old.sum + n) (is range (places_seen files base cells))

    low_sum : old.sum + sum_by literal_len (pieces_of base range) ≤ most_literal
    low_sum = subst (λ (n : ℕ). n ≤ most_literal) counted low

    by_result : (r : Result (Unit {0}) SendStop) → RedirectEnd out_old out_new old.pending new.pending (pieces_spelled version base path offset range) r → AddsRange base version path offset range old new out_old out_new (answer_with r)
    by_result (Ok done) e = (e, (kept ∙ counted, subst (λ (n : ℕ). n ≤ most_literal) (sym kept) low))
    by_result (Err stopped.OutputFault) e = inr (low_sum, e)
    by_result (Err stopped.InputFault) e = inr (low_sum, e)
    by_result (Err stopped.NoMemory) e = inr (low_sum, e)
    by_result (Err (stopped.InputChanged file place)) e = elim e [ ]

-- The cells of a source are those that were found.
pub source_cells : (contents cells : List (Option Trace)) (state : State (Option Trace)) (key : Key) (path : List ℕ)
    → ((source : Subvolume (Option Trace)) (ino : ℕ) → find state.store key ≡ Some source → walk source path ≡ Ok ino → is_file source ino ≡ true → ◌≡◌ {A = Option (List (Option Trace))} (Some contents) (Some (cells_of source ino)))
    → IsSourceOf cells state key path → contents ≡ cells
source_cells contents cells state key path found s = some_is contents (cells_of s.source s.ino) (found s.source s.ino s.found s.walked s.file) ∙ sym s.cells_are

-- A source that a step took is found.
pub source_there : (before after : State (Option Trace)) (offset : ℕ) (key : Key) (clone_path : List ℕ) (from len : ℕ) (found : Option (List (Option Trace))) → TakenFrom before after offset (taken_range key clone_path from len)
    → ((source : Subvolume (Option Trace)) (ino : ℕ) → find after.store key ≡ Some source → walk source clone_path ≡ Ok ino → is_file source ino ≡ true → found ≡ Some (cells_of source ino)) → found ≢ None
source_there before after offset key clone_path from len found t said none =
    let there : find after.store key ≡ Some t.source = ap (λ (s : Store (Option Trace)). find s key) t.same_store ∙ t.found in
    not_none (cells_of t.source t.ino) (sym none ∙ said t.source t.ino there t.walked t.file)
  where
    not_none : (cells : List (Option Trace)) → ◌≡◌ {A = Option (List (Option Trace))} None (Some cells) → ⊥
    not_none cells e = cc

-- ---- what a command adds

adds_put : (bytes : List ℕ) (old new : Kept) (out_old out_new : Option (List ℕ)) (before now : ℕ) (result : Result (Unit {0}) SendStop) → PutEnd out_old out_new old.pending new.pending bytes before now result → new.sum ≡ old.sum → old.sum ≤ most_literal
    → Adds 0 bytes old new out_old out_new (answer_with result)
adds_put bytes old new out_old out_new before now (Ok done) put same low = (put, (omega (arith, same), omega (arith, same, low)))
adds_put bytes old new out_old out_new before now (Err stopped.OutputFault) put same low = inr (omega (arith, low), all_breaks out_old out_new old.pending new.pending bytes put.1 put.2)
adds_put bytes old new out_old out_new before now (Err stopped.NoMemory) put same low = inr (omega (arith, low), none_came out_old out_new old.pending new.pending bytes put.0 put.1)
adds_put bytes old new out_old out_new before now (Err stopped.InputFault) put same low = elim put [ ]
adds_put bytes old new out_old out_new before now (Err (stopped.InputChanged file place)) put same low = elim put [ ]

-- One command that stands for itself or for another, and has no uncarried bytes.
one_put : (base : Store ℕ) (survey : Surveyed) (last : Key) (state : Composing) (c said : Command) (old new : Kept) (out_old out_new : Option (List ℕ)) (before now : ℕ) (result : Result (Unit {0}) SendStop) (answer : Result (Unit {0}) Outcome)
    → answer ≡ answer_with result
    → commands_for base survey.parts last state.state state.current c ≡ said ∷ [] → is_redirected survey.parts state.current c ≡ false
    → PutEnd out_old out_new old.pending new.pending (canonical survey.version said) before now result → new.sum ≡ old.sum → old.sum ≤ most_literal
    → AddsCommand base survey last state c old new out_old out_new answer
unfolding canonical_all
one_put base survey last state c said old new out_old out_new before now result answer answered is kept put same low =
    let spelled : canonical survey.version said ≡ canonical_all survey.version (commands_for base survey.parts last state.state state.current c) =
    sym (append-nil (canonical survey.version said)) ∙ ap (canonical_all survey.version) (sym is) in
    let none : 0 ≡ uncarried_by base survey.parts state.state state.current c = sym (ap (λ (b : Bool). if b then uncarried_in base (clone_range state.state c ∷ []) else 0) kept) in
    subst (λ (n : ℕ). Adds n (canonical_all survey.version (commands_for base survey.parts last state.state state.current c)) old new out_old out_new answer) none
    (subst (λ (bs : List ℕ). Adds 0 bs old new out_old out_new answer) spelled (subst (λ (r : Result (Unit {0}) Outcome). Adds 0 (canonical survey.version said) old new out_old out_new r) (sym answered) (adds_put (canonical survey.version said) old new out_old out_new before now result put same low)))

plain_alone : (base : Store ℕ) (parts : List (List ℕ)) (last : Key) (state : State Traced) (current : Option (List ℕ)) (c : Command) → is_plain c ≡ true → (commands_for base parts last state current c ≡ c ∷ []) × (is_redirected parts current c ≡ false)
plain_alone base parts last state current (Subvol uuid ctransid path) h = cc
plain_alone base parts last state current (Snapshot uuid ctransid path clone_uuid clone_ctransid) h = cc
plain_alone base parts last state current (Clone path offset clone_uuid clone_ctransid clone_path clone_offset clone_len) h = cc
plain_alone base parts last state current End h = cc
plain_alone base parts last state current c h = (refl, refl)

-- A command of the code that is no head, END or clone is a plain edit.
pub plain_of : (c : code.Command) → head_of (meaning_of c) ≡ None → (c ≡ made.End → ⊥)
    → ((path : _) (offset : ℕ) (clone_uuid : _) (clone_ctransid : ℕ) (clone_path : _) (clone_offset clone_len : ℕ) → c ≡ made.Clone path offset clone_uuid clone_ctransid clone_path clone_offset clone_len → ⊥) → is_plain (meaning_of c) ≡ true
plain_of (made.Subvol uuid ctransid path) h e n = cc
plain_of (made.Snapshot uuid ctransid path clone_uuid clone_ctransid) h e n = cc
plain_of (made.Clone path offset clone_uuid clone_ctransid clone_path clone_offset clone_len) h e n = absurd (n path offset clone_uuid clone_ctransid clone_path clone_offset clone_len refl)
plain_of made.End h e n = absurd (e refl)
plain_of c h e n = refl

-- A plain edit adds itself.
pub plain_adds : (files : List (List ℕ)) (base : Store ℕ) (survey : Surveyed) (last : Key) (old new : Kept) (c : Command) (out_old out_new : Option (List ℕ)) (before now : ℕ) (result : Result (Unit {0}) SendStop) (answer : Result (Unit {0}) Outcome) → answer ≡ answer_with result → is_plain c ≡ true
    → PutEnd out_old out_new old.pending new.pending (canonical survey.version c) before now result → new.sum ≡ old.sum → old.sum ≤ most_literal → AddEnd files base survey last old new c out_old out_new answer
plain_adds files base survey last old new c out_old out_new before now result answer answered plain put same low state cells led =
    let from : Composing = composing_of files base (record old { state = state }) in
    let alone = plain_alone base survey.parts last from.state from.current c plain in
    one_put base survey last from c c old new out_old out_new before now result answer answered alone.0 alone.1 put same low

-- END adds nothing.
pub end_adds : (files : List (List ℕ)) (base : Store ℕ) (survey : Surveyed) (last : Key) (old : Kept) (out : Option (List ℕ)) → old.sum ≤ most_literal → AddEnd files base survey last old old End out out (Ok tt)
unfolding canonical_all
end_adds files base survey last old out low state cells led = (record { sent = []; appends = Appends-nil out; rest = append-nil old.pending }, (omega arith, low))

-- ---- clones

uuid_kept : (files : List (List ℕ)) (base : Store ℕ) (before after : State (Option Trace)) (put : List (Option Trace)) (path : List ℕ) (offset : ℕ) (uuid : List ℕ) (ctransid : ℕ) (clone_path : List ℕ) (from len : ℕ)
    → Led before after put (Clone path offset uuid ctransid clone_path from len) → option_map (λ p. p.key.uuid) before.part ≡ option_map (λ p. p.key.uuid) after.part
uuid_kept files base before after put path offset uuid ctransid clone_path from len led =
    sym (part_after_step None put before (Clone path offset uuid ctransid clone_path from len) (ap (λ s. s.refusal) led))
    ∙ ap (λ s. option_map (λ p. p.key.uuid) s.state.part) led

module _ (files : List (List ℕ)) (base : Store ℕ) (survey : Surveyed) (last : Key) (old new : Kept) (out_old out_new : Option (List ℕ)) (path : List ℕ) (offset : ℕ) (uuid : List ℕ) (ctransid : ℕ) (clone_path : List ℕ) (from len : ℕ) where
  abbrev this : Command
  this = Clone path offset uuid ctransid clone_path from len

  current_is : (before : State (Option Trace)) (put : List (Option Trace)) → Led before old.state put (Clone path offset uuid ctransid clone_path from len)
      → option_map (λ p. p.key.uuid) old.state.part ≡ option_map (λ p. p.key.uuid) before.part
  current_is before put led = sym (uuid_kept files base before old.state put path offset uuid ctransid clone_path from len led)

  -- A clone from the part itself names the new part.
  pub own_adds : (early late : ℕ) (result : Result (Unit {0}) SendStop) (answer : Result (Unit {0}) Outcome) → answer ≡ answer_with result → is_own (option_map (λ p. p.key.uuid) old.state.part) uuid ≡ true
      → PutEnd out_old out_new old.pending new.pending (canonical survey.version (Clone path offset last.uuid last.ctransid clone_path from len)) early late result → new.sum ≡ old.sum → old.sum ≤ most_literal
      → AddEnd files base survey last old new (Clone path offset uuid ctransid clone_path from len) out_old out_new answer
  own_adds early late result answer answered own put same low before cells led =
      let now : Composing = composing_of files base (record old { state = before }) in
      let is : is_own now.current uuid ≡ true = ap (λ (o : Option (List ℕ)). is_own o uuid) (sym (current_is before cells led)) ∙ own in
      let said : Command = Clone path offset last.uuid last.ctransid clone_path from len in
      one_put base survey last now (Clone path offset uuid ctransid clone_path from len) said old new out_old out_new early late result answer answered
      (ap (λ (b : Bool). if b then said ∷ [] else (if is_among survey.parts uuid && not b then flat_map (piece_commands base path offset) (pieces_of base (clone_range now.state (Clone path offset uuid ctransid clone_path from len))) else Clone path offset uuid ctransid clone_path from len ∷ [])) is)
      (ap (λ (b : Bool). is_among survey.parts uuid && not b) is ∙ never (is_among survey.parts uuid)) put same low
    where
      never : (b : Bool) → b && false ≡ false
      never true = refl
      never false = refl

  -- One from an outside subvolume adds itself.
  pub kept_adds : (early late : ℕ) (result : Result (Unit {0}) SendStop) (answer : Result (Unit {0}) Outcome) → answer ≡ answer_with result → is_own (option_map (λ p. p.key.uuid) old.state.part) uuid ≡ false → is_among survey.parts uuid ≡ false
      → PutEnd out_old out_new old.pending new.pending (canonical survey.version (Clone path offset uuid ctransid clone_path from len)) early late result → new.sum ≡ old.sum → old.sum ≤ most_literal
      → AddEnd files base survey last old new (Clone path offset uuid ctransid clone_path from len) out_old out_new answer
  kept_adds early late result answer answered own among put same low before cells led =
      let now : Composing = composing_of files base (record old { state = before }) in
      let is : is_own now.current uuid ≡ false = ap (λ (o : Option (List ℕ)). is_own o uuid) (sym (current_is before cells led)) ∙ own in
      let said : Command = Clone path offset last.uuid last.ctransid clone_path from len in
      let itself : Command = Clone path offset uuid ctransid clone_path from len in
      one_put base survey last now itself itself old new out_old out_new early late result answer answered
      (ap₂ (λ (b a : Bool). if b then said ∷ [] else (if a && not b then flat_map (piece_commands base path offset) (pieces_of base (clone_range now.state itself)) else itself ∷ [])) is among)
      (ap₂ (λ (b a : Bool). a && not b) is among) put same low

  -- One from an earlier part gives way to its pieces.
  pub redirected_adds : (result : Result (Unit {0}) Outcome) → is_own (option_map (λ p. p.key.uuid) old.state.part) uuid ≡ false → is_among survey.parts uuid ≡ true
      → ((cells : List (Option Trace)) → IsSourceOf cells old.state (record { uuid = uuid; ctransid = ctransid }) clone_path
      → AddsRange base survey.version path offset (seen_cells files base (cells_between from len cells)) old new out_old out_new result)
      → AddEnd files base survey last old new (Clone path offset uuid ctransid clone_path from len) out_old out_new result
  redirected_adds result own among adds before put led =
      let now : Composing = composing_of files base (record old { state = before }) in
      let key : Key = record { uuid = uuid; ctransid = ctransid } in
      let itself : Command = Clone path offset uuid ctransid clone_path from len in
      let said : Command = Clone path offset last.uuid last.ctransid clone_path from len in
      let current = current_is before put led in
      let apart : is_own (option_map (λ p. p.key.uuid) before.part) uuid ≡ false = ap (λ (o : Option (List ℕ)). is_own o uuid) (sym current) ∙ own in
      let is : is_own now.current uuid ≡ false = ap (λ (o : Option (List ℕ)). is_own o uuid) (sym current) ∙ own in
      let ok : (step None put before itself).refusal ≡ None = ap (λ s. s.refusal) led in
      let t = taken_from None put before path offset key clone_path from len ok apart in
      let store : old.state.store ≡ before.store = ap (λ s. s.state.store) (sym led) ∙ t.same_store in
      let source : IsSourceOf (cells_of t.source t.ino) old.state key clone_path = record {
        source = t.source;
        ino = t.ino;
        found = ap (λ (st : Store (Option Trace)). find st key) store ∙ t.found;
        walked = t.walked;
        file = t.file;
        cells_are = refl;
      } in
      let range : clone_range now.state itself ≡ seen_cells files base (cells_between from len (cells_of t.source t.ino)) =
      range_taken None put before path offset key clone_path from len ok apart (seen (byte_of_trace files base) place_of) (step None put before itself).state t in
      let redirected : is_redirected survey.parts now.current itself ≡ true = ap₂ (λ (b a : Bool). a && not b) is among in
      let commands : flat_map (piece_commands base path offset) (pieces_of base (seen_cells files base (cells_between from len (cells_of t.source t.ino)))) ≡ commands_for base survey.parts last now.state now.current itself =
      ap (λ (r : List Traced). flat_map (piece_commands base path offset) (pieces_of base r)) (sym range)
      ∙ sym (ap₂ (λ (b a : Bool). if b then said ∷ [] else (if a && not b then flat_map (piece_commands base path offset) (pieces_of base (clone_range now.state itself)) else itself ∷ [])) is among) in
      let count : sum_by literal_len (pieces_of base (seen_cells files base (cells_between from len (cells_of t.source t.ino)))) ≡ uncarried_by base survey.parts now.state now.current itself =
      ap (λ (r : List Traced). sum_by literal_len (pieces_of base r)) (sym range)
      ∙ sym (sum_redirected (record { base = base; parts = survey.parts; version = survey.version; last = survey.last }) now (record { file = 0; number = 0; offset = 0; version = 0; data_at = 0; command = itself }) redirected) in
      subst (λ (n : ℕ). Adds n (canonical_all survey.version (commands_for base survey.parts last now.state now.current itself)) old new out_old out_new result) count
      (subst (λ (cs : List Command). Adds (sum_by literal_len (pieces_of base (seen_cells files base (cells_between from len (cells_of t.source t.ino))))) (canonical_all survey.version cs) old new out_old out_new result) commands
      (adds (cells_of t.source t.ino) source))

-- ---- the range of a clone from an earlier part

-- What holds of all cells holds of the cells of the range.
pub range_had : (P : Option Trace → Type 0) (before after : State (Option Trace)) (offset : ℕ) (key : Key) (clone_path : List ℕ) (from len : ℕ) (contents : List (Option Trace)) → TakenFrom before after offset (taken_range key clone_path from len)
    → ((source : Subvolume (Option Trace)) (ino : ℕ) → find after.store key ≡ Some source → walk source clone_path ≡ Ok ino → is_file source ino ≡ true → ◌≡◌ {A = Option (List (Option Trace))} (Some contents) (Some (cells_of source ino)))
    → AllCells P after → AllByRecursion P (cells_between from len contents)
range_had P before after offset key clone_path from len contents t found all =
    let there : find after.store key ≡ Some t.source = ap (λ (s : Store (Option Trace)). find s key) t.same_store ∙ t.found in
    let same : contents ≡ cells_of t.source t.ino = some_is contents (cells_of t.source t.ino) (found t.source t.ino there t.walked t.file) in
    subst (λ (cells : List (Option Trace)). AllByRecursion P (cells_between from len cells)) (sym same) (cells_of_found P t.source t.ino from len (cells_found P after key t.source all there))

-- The same for the cells of the source, whichever they are.
pub source_exceeds : (files : List (List ℕ)) (base : Store ℕ) (version : ℕ) (path : List ℕ) (offset from len : ℕ) (contents cells : List (Option Trace)) (count sum : ℕ) (old new : Kept) (out_old out_new : Option (List ℕ)) (before now : ℕ) (result : Outcome)
    → contents ≡ cells → IsCount base (cells_between from len contents) count → sum ≡ old.sum + count → most_literal < sum → StopEnd old.pending new.pending out_old out_new before now (ended.TooMuch sum) result
    → AddsRange base version path offset (seen_cells files base (cells_between from len cells)) old new out_old out_new (Err result)
source_exceeds files base version path offset from len contents cells count sum old new out_old out_new before now result same is sum_is high stop =
    subst (λ (cs : List (Option Trace)). AddsRange base version path offset (seen_cells files base (cells_between from len cs)) old new out_old out_new (Err result)) same
    (range_exceeds files base version path offset (cells_between from len contents) count sum old new out_old out_new before now result is sum_is high stop)

pub source_added : (files : List (List ℕ)) (base : Store ℕ) (version : ℕ) (path : List ℕ) (offset from len : ℕ) (contents cells : List (Option Trace)) (count sum : ℕ) (old new : Kept) (out_old out_new : Option (List ℕ)) (result : Result (Unit {0}) SendStop) (answer : Result (Unit {0}) Outcome)
    → answer ≡ answer_with result
    → contents ≡ cells → IsCount base (cells_between from len contents) count → sum ≡ old.sum + count → sum ≤ most_literal → new.sum ≡ sum
    → RedirectEnd out_old out_new old.pending new.pending (pieces_spelled version base path offset (seen_cells files base (cells_between from len contents))) result
    → AddsRange base version path offset (seen_cells files base (cells_between from len cells)) old new out_old out_new answer
source_added files base version path offset from len contents cells count sum old new out_old out_new result answer answered same is sum_is low kept end =
    subst (λ (cs : List (Option Trace)). AddsRange base version path offset (seen_cells files base (cells_between from len cs)) old new out_old out_new answer) same
    (subst (λ (r : Result (Unit {0}) Outcome). AddsRange base version path offset (seen_cells files base (cells_between from len contents)) old new out_old out_new r) (sym answered)
    (range_added files base version path offset (cells_between from len contents) count sum old new out_old out_new result is sum_is low kept end))

-- A clone whose step was taken, and whose source is not the part itself.
pub led_taken : (before after : State (Option Trace)) (put : List (Option Trace)) (path : List ℕ) (offset : ℕ) (key : Key) (clone_path : List ℕ) (from len : ℕ) → Led before after put (Clone path offset key.uuid key.ctransid clone_path from len)
    → is_own (option_map (λ p. p.key.uuid) after.part) key.uuid ≡ false → TakenFrom before after offset (taken_range key clone_path from len)
led_taken before after put path offset key clone_path from len led own =
    let c : Command = Clone path offset key.uuid key.ctransid clone_path from len in
    let same : option_map (λ p. p.key.uuid) before.part ≡ option_map (λ p. p.key.uuid) after.part =
    sym (part_after_step None put before c (ap (λ s. s.refusal) led)) ∙ ap (λ s. option_map (λ p. p.key.uuid) s.state.part) led in
    subst (λ (s : State (Option Trace)). TakenFrom before s offset (taken_range key clone_path from len)) (ap (λ s. s.state) led)
    (taken_from None put before path offset key clone_path from len (ap (λ s. s.refusal) led) (ap (λ (o : Option (List ℕ)). is_own o key.uuid) same ∙ own))

-- ---- what is not so

-- What is no value is none.
pub is_none_of : {A : Type 0} (o : Option A) → ((x : A) → o ≡ Some x → ⊥) → o ≡ None
is_none_of None not = refl
is_none_of (Some x) not = absurd (not x refl)

pub not_false : (b : Bool) → not b ≡ false → b ≡ true
not_false true e = refl
not_false false e = cc

pub not_true : (b : Bool) → not b ≡ true → b ≡ false
not_true true e = cc
not_true false e = refl

pub on_ok : {T E : Type 0} (r : Result T E) (P : Type 0) → P → OnOk r P
on_ok (Ok x) P p = p
on_ok (Err x) P p = tt
