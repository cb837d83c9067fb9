-- Writing the bytes of cells chunk by chunk, where the inputs tell their files.
use Rattle.std.specs.Prelude.{◌≡◌, ℕ, ◌+◌, ◌-◌, ◌<◌, ◌≤◌, min, List, map, length, take, drop, Option, Result, Ok, Err}
use Rattle.std.specs.List.{AllByRecursion}
use Rattle.std.proofs.Common.{sym, ap, subst, ◌∙◌, arith}
use Rattle.std.proofs.lemmas.List.{length-map}
use Rattle.send_model.specs.Command.{Write}
use Rattle.send_model.specs.Spelling.{canonical, canonical_all}
use Rattle.send_model.specs.Composed.{writes_from}
use Rattle.send_model.specs.Store as meant
use Rattle.send_model.proofs.ElementLaws.{all_take, all_drop}
use Rattle.sx_base.specs.Calls.{IfAllTold}
use Rattle.extent_map.specs.Cells.{cells_between}
use Rattle.extent_map.proofs.CellLists.{length-between}
use Rattle.provenance.specs.declared.trace.Trace.{Trace}
use Rattle.clone_pieces.specs.Origins.{IsInInput, AreAsLong}
use Rattle.clone_pieces.specs.Filling.{byte_in, IsHadIn, FillEnd}
use Rattle.clone_pieces.specs.Sending.{Output, PutEnd}
use Rattle.clone_pieces.specs.Redirecting.{RedirectEnd}
use Rattle.clone_pieces.specs.declared.stops.SendStop.{SendStop}
use Rattle.clone_pieces.specs.declared.stops.SendStop.TheVariants as stop
use Rattle.clone_pieces.proofs.Flow.{part_none, put_ends}
use Rattle.clone_pieces.proofs.Told.{all_always, all_map, all_two, told_moved}
use Rattle.clone_pieces.proofs.Lengths.{cells_as_long}
use Rattle.clone_pieces.proofs.Chunks.{Written, written_none, written_more, written_stops, written_all, between_within, bytes_within}

pub part_all : {C : Type 0} (P : C → Type 0) (from len done count : ℕ) (cells : List C) → done + count ≤ len → AllByRecursion P (cells_between from len cells) → AllByRecursion P (cells_between (from + done) count cells)
part_all P from len done count cells le all = subst (λ l. AllByRecursion P l) (between_within from len done count cells le) (all_take P count (drop done (cells_between from len cells)) (all_drop P done (cells_between from len cells) all))

module _ (told : Option (List (List ℕ × List ℕ))) (names : List (List ℕ)) (held : meant.Key → ℕ → List ℕ) (contents : List (Option Trace)) (from len : ℕ) (within : from + len ≤ length contents) (version : ℕ) (path : List ℕ) (offset : ℕ) where
  abbrev pub Stand : (done : ℕ) → (out_old out_now : Option (List ℕ)) → (old now : List ℕ) → List (List ℕ) → Type 0
  Stand done out_old out_now old now files = Written version path offset (map (byte_in held files) (cells_between from len contents)) done out_old out_now old now

  long_is : (files : List (List ℕ)) → length (map (byte_in held files) (cells_between from len contents)) ≡ len
  long_is files = length-map (cells_between from len contents) (byte_in held files) ∙ length-between from len contents within

  pub stand_start : (out : Option (List ℕ)) (pending : List ℕ) → IfAllTold told names (Stand 0 out out pending pending)
  stand_start out pending = all_always told names (Stand 0 out out pending pending) (λ files. written_none version path offset (map (byte_in held files) (cells_between from len contents)) out pending)

  pub stand_end : (done : ℕ) (out_old out_now : Option (List ℕ)) (old now : List ℕ) → len ≤ done → IfAllTold told names (Stand done out_old out_now old now)
      → IfAllTold told names (λ files. RedirectEnd out_old out_now old now (canonical_all version (writes_from len path offset (map (byte_in held files) (cells_between from len contents)))) (Ok tt))
  stand_end done out_old out_now old now all stands = all_map told names (Stand done out_old out_now old now)
      (λ files. RedirectEnd out_old out_now old now (canonical_all version (writes_from len path offset (map (byte_in held files) (cells_between from len contents)))) (Ok tt))
      (λ files s. let l = long_is files in
      subst (λ (n : ℕ). RedirectEnd out_old out_now old now (canonical_all version (writes_from n path offset (map (byte_in held files) (cells_between from len contents)))) (Ok tt)) l
      (written_all version path offset (map (byte_in held files) (cells_between from len contents)) done out_old out_now old now (omega (arith, l, all)) s)) stands

  module _ (now_told : Option (List (List ℕ × List ℕ))) (held' : meant.Key → ℕ → List ℕ) (same : now_told ≡ told) (done count : ℕ) (more : done < len) (is : count ≡ min (len - done) 49_152) where
    pub next_had : AreAsLong held' held → (number : ℕ) → AllByRecursion (IsHadIn number held) (cells_between from len contents) → AllByRecursion (IsHadIn number held') (cells_between (from + done) count contents)
    next_had long number all = cells_as_long number held' held long (cells_between (from + done) count contents)
        (part_all (IsHadIn number held) from len done count contents (omega (arith, more, is)) all)

    pub next_there : IfAllTold told names (λ files. AllByRecursion (IsInInput files) (cells_between from len contents)) → IfAllTold now_told names (λ files. AllByRecursion (IsInInput files) (cells_between (from + done) count contents))
    next_there there = told_moved now_told told names (λ files. AllByRecursion (IsInInput files) (cells_between (from + done) count contents)) (sym same)
        (all_map told names (λ files. AllByRecursion (IsInInput files) (cells_between from len contents)) (λ files. AllByRecursion (IsInInput files) (cells_between (from + done) count contents))
        (λ files all. part_all (IsInInput files) from len done count contents (omega (arith, more, is)) all) there)

    -- The bytes of the next command.
    next_bytes : held' ≡ held → (files : List (List ℕ)) → map (byte_in held' files) (cells_between (from + done) count contents) ≡ take count (drop done (map (byte_in held files) (cells_between from len contents)))
    next_bytes kept files = ap (λ (h : meant.Key → ℕ → List ℕ). map (byte_in h files) (cells_between (from + done) count contents)) kept ∙ sym (bytes_within (byte_in held files) from len done count contents (omega (arith, more, is)))

    module _ (kept : held' ≡ held) (out_old out_now out_next : Option (List ℕ)) (old now next : List ℕ) where
      abbrev Next : Result (Unit {0}) SendStop → List (List ℕ) → Type 0
      Next result files = RedirectEnd out_now out_next now next (canonical version (Write path (offset + done) (map (byte_in held' files) (cells_between (from + done) count contents)))) result

      here : (result : Result (Unit {0}) SendStop) (files : List (List ℕ)) → Next result files → RedirectEnd out_now out_next now next (canonical version (Write path (offset + done) (take count (drop done (map (byte_in held files) (cells_between from len contents)))))) result
      here result files n = subst (λ (bytes : List ℕ). RedirectEnd out_now out_next now next (canonical version (Write path (offset + done) bytes)) result) (next_bytes kept files) n

      pub stand_more : IfAllTold told names (Stand done out_old out_now old now) → IfAllTold now_told names (Next (Ok tt)) → IfAllTold told names (Stand (done + count) out_old out_next old next)
      stand_more stands goes = all_two told names (Stand done out_old out_now old now) (Next (Ok tt)) (Stand (done + count) out_old out_next old next)
          (λ files s n. let l = long_is files in
          written_more version path offset (map (byte_in held files) (cells_between from len contents)) done count out_old out_now old now s (omega (arith, l, more)) (omega (arith, l, is)) out_next next (here (Ok tt) files n))
          stands (told_moved told now_told names (Next (Ok tt)) same goes)

      pub stand_stops : (why : SendStop) → IfAllTold told names (Stand done out_old out_now old now) → IfAllTold now_told names (Next (Err why))
          → IfAllTold told names (λ files. RedirectEnd out_old out_next old next (canonical_all version (writes_from len path offset (map (byte_in held files) (cells_between from len contents)))) (Err why))
      stand_stops why stands ends = all_two told names (Stand done out_old out_now old now) (Next (Err why))
          (λ files. RedirectEnd out_old out_next old next (canonical_all version (writes_from len path offset (map (byte_in held files) (cells_between from len contents)))) (Err why))
          (λ files s n. let l = long_is files in
          subst (λ (m : ℕ). RedirectEnd out_old out_next old next (canonical_all version (writes_from m path offset (map (byte_in held files) (cells_between from len contents)))) (Err why)) l
          (written_stops version path offset (map (byte_in held files) (cells_between from len contents)) done count out_old out_now old now s (omega (arith, l, more)) (omega (arith, l, is)) out_next next why (here (Err why) files n)))
          stands (told_moved told now_told names (Next (Err why)) same ends)

-- ---- one WRITE

-- The cells were not read, and nothing was touched.
pub unread_stops : (told : Option (List (List ℕ × List ℕ))) (names : List (List ℕ)) (held : meant.Key → ℕ → List ℕ) (cells : List (Option Trace)) (row : List ℕ) (why : SendStop) (bytes : List (List ℕ) → List ℕ) (out : Option (List ℕ)) (pending : List ℕ)
    → IfAllTold told names (FillEnd held cells row (Err why)) → IfAllTold told names (λ files. RedirectEnd out out pending pending (bytes files) (Err why))
unread_stops told names held cells row why bytes out pending ends = all_map told names (FillEnd held cells row (Err why)) (λ files. RedirectEnd out out pending pending (bytes files) (Err why)) (λ files. one files why) ends
  where
    one : (files : List (List ℕ)) (w : SendStop) → FillEnd held cells row (Err w) files → RedirectEnd out out pending pending (bytes files) (Err w)
    one files stop.InputFault e = part_none out pending (bytes files)
    one files stop.OutputFault e = absurd e
    one files stop.NoMemory e = absurd e
    one files (stop.InputChanged file place) e = absurd e

-- The cells were read, and their bytes put.
pub row_put : (told : Option (List (List ℕ × List ℕ))) (names : List (List ℕ)) (held : meant.Key → ℕ → List ℕ) (cells : List (Option Trace)) (version : ℕ) (path : List ℕ) (offset : ℕ) (row bytes : List ℕ) (old new : Output) (result : Result (Unit {0}) SendStop)
    → bytes ≡ row → IfAllTold told names (FillEnd held cells row (Ok tt)) → PutEnd old new (canonical version (Write path offset bytes)) result
    → IfAllTold told names (λ files. RedirectEnd old.taken new.taken old.pending new.pending (canonical version (Write path offset (map (byte_in held files) cells))) result)
row_put told names held cells version path offset row bytes old new result same filled put =
    all_map told names (FillEnd held cells row (Ok tt)) (λ files. RedirectEnd old.taken new.taken old.pending new.pending (canonical version (Write path offset (map (byte_in held files) cells))) result)
    (λ files is. subst (λ (l : List ℕ). RedirectEnd old.taken new.taken old.pending new.pending (canonical version (Write path offset l)) result) (same ∙ is) (put_ends old new (canonical version (Write path offset bytes)) result put)) filled
