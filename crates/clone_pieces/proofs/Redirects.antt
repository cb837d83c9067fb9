-- Writing what stands for a redirected clone, piece by piece.
use Rattle.std.specs.Prelude.{◌≡◌, ℕ, ◌+◌, ◌≤◌, List, [], ◌∷◌, ◌++◌, map, length, get_or, Option, Some, None, Result, Ok, Err}
use Rattle.std.specs.List.{AllByRecursion, flat_map}
use Rattle.std.proofs.Common.{refl, sym, ap, ap₂, subst, ◌∙◌, arith, append_assoc, append-nil}
use Rattle.std.proofs.lemmas.List.{length-map}
use Rattle.send_model.specs.Command.{Command, Clone}
use Rattle.send_model.specs.Spelling.{canonical, canonical_all}
use Rattle.send_model.specs.Store as meant
use Rattle.send_model.specs.Store.{Store}
use Rattle.send_model.specs.Composed.{path_of}
use Rattle.send_model.specs.Provenance.{Traced, pieces_of}
use Rattle.sx_base.specs.Calls.{IfAllTold}
use Rattle.subvol_catalog.specs.declared.key.Key.{Key}
use Rattle.subvol_catalog.specs.Entries.{key_of}
use Rattle.extent_map.specs.Cells.{cells_between}
use Rattle.extent_map.proofs.CellLists.{length-between}
use Rattle.provenance.specs.declared.trace.Trace.{Trace}
use Rattle.provenance.specs.declared.trace.Trace.TheVariants.{Fresh, Outside}
use Rattle.provenance.specs.declared.plan.Plan.{Plan}
use Rattle.provenance.specs.declared.plan.Plan.TheVariants.{Carry}
use Rattle.provenance.specs.Plans.{planned}
use Rattle.provenance.specs.Traces.{place_of}
use Rattle.provenance.specs.Cuts.{Cut, Run, Rest, AreEndsOf, IsCutAsMeant}
use Rattle.clone_pieces.specs.Origins.{outside_cells, byte_of_trace, IsHad, IsInInput, AreAsLong, AreHeld}
use Rattle.clone_pieces.specs.Seen.{seen}
use Rattle.clone_pieces.specs.Sending.{GoesOut, Output, PutEnd}
use Rattle.clone_pieces.specs.Filling.{byte_in, IsHadIn}
use Rattle.clone_pieces.specs.Cutting.{cut_len, rest_cells, cut_commands, all_commands}
use Rattle.clone_pieces.specs.Redirecting.{seen_cells, pieces_spelled, RedirectEnd}
use Rattle.clone_pieces.specs.declared.stops.SendStop.{SendStop}
use Rattle.send_model.proofs.Tracing.{byte_of}
use Rattle.clone_pieces.proofs.LiteralBytes.{again, pieces_again}
use Rattle.clone_pieces.proofs.Told.{all_always, all_map, all_two, told_moved}
use Rattle.clone_pieces.proofs.Lengths.{cells_as_long}
use Rattle.clone_pieces.proofs.Flow.{goes_none, goes_then, stops_then, put_ends}
use Rattle.clone_pieces.proofs.Literals.{part_all}
use Rattle.clone_pieces.proofs.Rows.{InRow, pieces_row, CutRow, cut_end, seen_places, commands_are}

-- ---- a run

pub run_put : (told : Option (List (List ℕ × List ℕ))) (names : List (List ℕ)) (base : Store ℕ) (held : meant.Key → ℕ → List ℕ) (contents : List (Option Trace)) (version : ℕ) (path : List ℕ) (offset : ℕ) (plan : Plan) (key : Key) (ino from len : ℕ)
    (old new : Output) (result : Result (Unit {0}) SendStop) → plan ≡ Carry key ino from len
    → PutEnd old new (canonical version (Clone path offset key.uuid key.ctransid (path_of base (record { key = key_of key; ino = ino; offset = from })) from len)) result
    → IfAllTold told names (λ files. RedirectEnd old.taken new.taken old.pending new.pending (canonical_all version (cut_commands base (byte_in held files) contents path offset (planned plan))) result)
unfolding canonical_all
run_put told names base held contents version path offset plan key ino from len old new result is put =
    let E : List ℕ → Type 0 = λ bytes. RedirectEnd old.taken new.taken old.pending new.pending bytes result in
    let one : List ℕ = canonical version (Clone path offset key.uuid key.ctransid (path_of base (record { key = key_of key; ino = ino; offset = from })) from len) in
    all_always told names (λ files. E (canonical_all version (cut_commands base (byte_in held files) contents path offset (planned plan))))
    (λ files. subst (λ (p : Plan). E (canonical_all version (cut_commands base (byte_in held files) contents path offset (planned p)))) (sym is)
    (subst E (sym (append-nil one)) (put_ends old new one result put)))

-- ---- cells that are had

had_in : (count : ℕ) (base : Store ℕ) (cell : Option Trace) → IsHad count base cell → IsHadIn count (outside_cells base) cell
had_in count base None h = tt
had_in count base (Some (Fresh file at)) h = h
had_in count base (Some (Outside key ino at)) h = h

all_had_in : (count : ℕ) (base : Store ℕ) (cells : List (Option Trace)) → AllByRecursion (IsHad count base) cells → AllByRecursion (IsHadIn count (outside_cells base)) cells
all_had_in count base [] all = tt
all_had_in count base (c ∷ cells) all = (had_in count base c all.0, all_had_in count base cells all.1)

rest_all : (P : Option Trace → Type 0) (contents : List (Option Trace)) (from total done : ℕ) (cut : Cut) (cuts : List Cut) → CutRow from done (cut ∷ cuts) total → AllByRecursion P (cells_between from total contents) → AllByRecursion P (rest_cells contents cut)
rest_all P contents from total done (Run place len) cuts row all = tt
rest_all P contents from total done (Rest at len) cuts row all =
    subst (λ (n : ℕ). AllByRecursion P (cells_between n len contents)) (sym row.0) (part_all P from total done len contents (cut_end from (done + len) total cuts row.1) all)

module _ (told now : Option (List (List ℕ × List ℕ))) (names : List (List ℕ)) (same : now ≡ told)
    (contents : List (Option Trace)) (from total done : ℕ) (cut : Cut) (left cuts : List Cut) (first : left ≡ cut ∷ cuts) (row : CutRow from done left total) where
  pub first_row : CutRow from done (cut ∷ cuts) total
  first_row = subst (λ (cs : List Cut). CutRow from done cs total) first row

  pub plan_had : (count : ℕ) (base : Store ℕ) (held : meant.Key → ℕ → List ℕ) → AreAsLong held (outside_cells base) → AllByRecursion (IsHad count base) (cells_between from total contents) → AllByRecursion (IsHadIn count held) (rest_cells contents cut)
  plan_had count base held long all = cells_as_long count held (outside_cells base) long (rest_cells contents cut)
      (all_had_in count base (rest_cells contents cut) (rest_all (IsHad count base) contents from total done cut cuts first_row all))

  pub plan_there : IfAllTold told names (λ files. AllByRecursion (IsInInput files) (cells_between from total contents)) → IfAllTold now names (λ files. AllByRecursion (IsInInput files) (rest_cells contents cut))
  plan_there there = told_moved now told names (λ files. AllByRecursion (IsInInput files) (rest_cells contents cut)) (sym same)
      (all_map told names (λ files. AllByRecursion (IsInInput files) (cells_between from total contents)) (λ files. AllByRecursion (IsInInput files) (rest_cells contents cut))
      (λ files all. rest_all (IsInInput files) contents from total done cut cuts first_row all) there)

-- ---- what is spelled

byte_seen : (files : List (List ℕ)) (base : Store ℕ) (held : meant.Key → ℕ → List ℕ) → AreHeld held base → (cell : Option Trace) → byte_of (seen (byte_of_trace files base) place_of cell) ≡ byte_in held files cell
byte_seen files base held are None = refl
byte_seen files base held are (Some (Fresh file at)) = refl
byte_seen files base held are (Some (Outside key ino at)) = ap (λ (l : List ℕ). get_or l at 0) (sym (are (key_of key) ino))

bytes_seen : (files : List (List ℕ)) (base : Store ℕ) (held : meant.Key → ℕ → List ℕ) → AreHeld held base → (cells : List (Option Trace)) → map byte_of (seen_cells files base cells) ≡ map (byte_in held files) cells
bytes_seen files base held are [] = refl
bytes_seen files base held are (c ∷ cells) = ap₂ (λ (b : ℕ) (l : List ℕ). b ∷ l) (byte_seen files base held are c) (bytes_seen files base held are cells)

spelled_both : (version : ℕ) (xs ys : List Command) → canonical_all version (xs ++ ys) ≡ canonical_all version xs ++ canonical_all version ys
unfolding canonical_all
spelled_both version [] ys = refl
spelled_both version (c ∷ xs) ys = ap (λ (l : List ℕ). canonical version c ++ l) (spelled_both version xs ys) ∙ sym (append_assoc (canonical version c) (canonical_all version xs) (canonical_all version ys))

-- The pieces of a range are spelled as its cuts are.
spelled_cuts : (version : ℕ) (base : Store ℕ) (ends : meant.Key → ℕ → Option ℕ) (right : AreEndsOf base ends) (files : List (List ℕ)) (held : meant.Key → ℕ → List ℕ) (are : AreHeld held base) (path : List ℕ) (offset : ℕ) (contents : List (Option Trace)) (from total : ℕ) (cuts : List Cut)
    → from + total ≤ length contents → IsCutAsMeant ends from (cells_between from total contents) cuts
    → pieces_spelled version base path offset (seen_cells files base (cells_between from total contents)) ≡ canonical_all version (all_commands base (byte_in held files) contents path (offset + 0) cuts)
spelled_cuts version base ends right files held are path offset contents from total cuts within meant =
    let cells : List (Option Trace) = cells_between from total contents in
    let range : List Traced = seen_cells files base cells in
    let long : length range ≡ total = length-map cells (seen (byte_of_trace files base) place_of) ∙ length-between from total contents within in
    let row : InRow 0 (pieces_of base range) total = subst (λ (end : ℕ). InRow 0 (pieces_of base range) end) long (pieces_row base range) in
    ap (canonical_all version) (pieces_again base path offset range
    ∙ ap (λ (all : List ℕ). flat_map (again base path offset all) (pieces_of base range)) (bytes_seen files base held are cells)
    ∙ commands_are base (byte_in held files) contents path offset from total 0 (pieces_of base range) row
    ∙ ap (λ (cs : List Cut). all_commands base (byte_in held files) contents path (offset + 0) cs) (sym (meant base range right (seen_places (byte_of_trace files base) cells))))

-- What is spelled for the first pieces has gone out, and that for the others follows.
pub record Redirected (whole : List ℕ) (version : ℕ) (base : Store ℕ) (byte : Option Trace → ℕ) (contents : List (Option Trace)) (path : List ℕ) (offset : ℕ) (left : List Cut) (out_old out_now : Option (List ℕ)) (old now : List ℕ) : Type 0 where
  pub sofar : List ℕ
  pub goes : GoesOut out_old out_now old now sofar
  pub rest : whole ≡ sofar ++ canonical_all version (all_commands base byte contents path offset left)

module _ (told : Option (List (List ℕ × List ℕ))) (names : List (List ℕ)) (base : Store ℕ) (held : meant.Key → ℕ → List ℕ) (contents : List (Option Trace)) (from total : ℕ) (version : ℕ) (path : List ℕ) (offset : ℕ) where
  abbrev pub Whole : List (List ℕ) → List ℕ
  Whole files = pieces_spelled version base path offset (seen_cells files base (cells_between from total contents))

  abbrev pub Stands : (done : ℕ) → (left : List Cut) → (out_old out_now : Option (List ℕ)) → (old now : List ℕ) → List (List ℕ) → Type 0
  Stands done left out_old out_now old now files = Redirected (Whole files) version base (byte_in held files) contents path (offset + done) left out_old out_now old now

  pub stands_start : (ends : meant.Key → ℕ → Option ℕ) → AreEndsOf base ends → AreHeld held base → (cuts : List Cut) → from + total ≤ length contents → IsCutAsMeant ends from (cells_between from total contents) cuts → (out : Option (List ℕ)) (pending : List ℕ)
      → IfAllTold told names (Stands 0 cuts out out pending pending)
  stands_start ends right are cuts within meant out pending = all_always told names (Stands 0 cuts out out pending pending) (λ files. record {
    sofar = [];
    goes = goes_none out pending;
    rest = spelled_cuts version base ends right files held are path offset contents from total cuts within meant;
  })

  pub stands_end : (done : ℕ) (left : List Cut) → left ≡ [] → (out_old out_now : Option (List ℕ)) (old now : List ℕ) → IfAllTold told names (Stands done left out_old out_now old now) → IfAllTold told names (λ files. RedirectEnd out_old out_now old now (Whole files) (Ok tt))
  unfolding canonical_all
  stands_end done left none out_old out_now old now stands = all_map told names (Stands done left out_old out_now old now) (λ files. RedirectEnd out_old out_now old now (Whole files) (Ok tt))
      (λ files s. subst (λ (l : List ℕ). GoesOut out_old out_now old now l)
      (sym (s.rest ∙ ap (λ (cs : List Cut). s.sofar ++ canonical_all version (all_commands base (byte_in held files) contents path (offset + done) cs)) none ∙ append-nil s.sofar)) s.goes) stands

  module _ (now_told : Option (List (List ℕ × List ℕ))) (held' : meant.Key → ℕ → List ℕ) (same : now_told ≡ told) (kept : held' ≡ held) (done : ℕ) (left : List Cut) (cut : Cut) (cuts : List Cut) (first : left ≡ cut ∷ cuts)
      (out_old out_now out_next : Option (List ℕ)) (old now next : List ℕ) where
    abbrev Next : Result (Unit {0}) SendStop → List (List ℕ) → Type 0
    Next result files = RedirectEnd out_now out_next now next (canonical_all version (cut_commands base (byte_in held' files) contents path (offset + done) cut)) result

    here : (result : Result (Unit {0}) SendStop) (files : List (List ℕ)) → Next result files → RedirectEnd out_now out_next now next (canonical_all version (cut_commands base (byte_in held files) contents path (offset + done) cut)) result
    here result files n = subst (λ (h : meant.Key → ℕ → List ℕ). RedirectEnd out_now out_next now next (canonical_all version (cut_commands base (byte_in h files) contents path (offset + done) cut)) result) kept n

    -- The commands of the next piece, and those behind it.
    after_cut : (files : List (List ℕ)) (s : Stands done left out_old out_now old now files)
        → Whole files ≡ s.sofar ++ (canonical_all version (cut_commands base (byte_in held files) contents path (offset + done) cut) ++ canonical_all version (all_commands base (byte_in held files) contents path (offset + (done + cut_len cut)) cuts))
    after_cut files s =
        let e : offset + done + cut_len cut ≡ offset + (done + cut_len cut) = omega arith in
        s.rest ∙ ap (λ (cs : List Cut). s.sofar ++ canonical_all version (all_commands base (byte_in held files) contents path (offset + done) cs)) first
        ∙ ap (λ (l : List ℕ). s.sofar ++ l) (spelled_both version (cut_commands base (byte_in held files) contents path (offset + done) cut) (all_commands base (byte_in held files) contents path (offset + done + cut_len cut) cuts)
        ∙ ap (λ (n : ℕ). canonical_all version (cut_commands base (byte_in held files) contents path (offset + done) cut) ++ canonical_all version (all_commands base (byte_in held files) contents path n cuts)) e)

    pub stands_more : IfAllTold told names (Stands done left out_old out_now old now) → IfAllTold now_told names (Next (Ok tt)) → IfAllTold told names (Stands (done + cut_len cut) cuts out_old out_next old next)
    stands_more stands goes = all_two told names (Stands done left out_old out_now old now) (Next (Ok tt)) (Stands (done + cut_len cut) cuts out_old out_next old next)
        (λ files s n.
        let one : List ℕ = canonical_all version (cut_commands base (byte_in held files) contents path (offset + done) cut) in
        record {
          sofar = s.sofar ++ one;
          goes = goes_then out_old out_now out_next old now next s.sofar one s.goes (here (Ok tt) files n);
          rest = after_cut files s ∙ sym (append_assoc s.sofar one (canonical_all version (all_commands base (byte_in held files) contents path (offset + (done + cut_len cut)) cuts)));
        }) stands (told_moved told now_told names (Next (Ok tt)) same goes)

    pub stands_stop : (why : SendStop) → IfAllTold told names (Stands done left out_old out_now old now) → IfAllTold now_told names (Next (Err why)) → IfAllTold told names (λ files. RedirectEnd out_old out_next old next (Whole files) (Err why))
    stands_stop why stands ends = all_two told names (Stands done left out_old out_now old now) (Next (Err why)) (λ files. RedirectEnd out_old out_next old next (Whole files) (Err why))
        (λ files s n. stops_then out_old out_now out_next old now next s.sofar (canonical_all version (cut_commands base (byte_in held files) contents path (offset + done) cut))
        (canonical_all version (all_commands base (byte_in held files) contents path (offset + (done + cut_len cut)) cuts)) (Whole files) why (after_cut files s) s.goes (here (Err why) files n))
        stands (told_moved told now_told names (Next (Err why)) same ends)
