-- Bytes as WRITE commands, one after the other.
use Rattle.std.specs.Prelude.{◌≡◌, ℕ, zero, suc, ◌+◌, ◌-◌, ◌<◌, ◌≤◌, min, List, [], ◌∷◌, ◌++◌, map, length, take, drop, Option, Ok, Err}
use Rattle.std.proofs.Common.{refl, sym, ap, ap₂, subst, ◌∙◌, arith, append_assoc, append-nil}
use Rattle.std.proofs.Math.Logic.{⊎_elim}
use Rattle.std.proofs.lemmas.Bool.{cases_lt}
use Rattle.std.proofs.lemmas.List.{length-drop, take_all, drop_all, take-take, drop-take, take-map, drop-map}
use Rattle.send_model.specs.Command.{Command, Write}
use Rattle.send_model.specs.Spelling.{canonical, canonical_all}
use Rattle.send_model.specs.Composed.{write_len, writes_from}
use Rattle.send_model.proofs.Overwriting.{drop_twice}
use Rattle.extent_map.specs.Cells.{cells_between}
use Rattle.clone_pieces.specs.Sending.{GoesOut}
use Rattle.clone_pieces.specs.Redirecting.{RedirectEnd}
use Rattle.clone_pieces.specs.declared.stops.SendStop.{SendStop}
use Rattle.clone_pieces.proofs.Flow.{goes_none, goes_then, stops_then}

-- WRITE commands of at most so many bytes each, one more than the given number.
abbrev chunks : ℕ → List ℕ → ℕ → ℕ → List ℕ → List Command
chunks w path zero at bytes = []
chunks w path (suc n) at [] = []
chunks w path (suc n) at (b ∷ bytes) = Write path at (take (suc w) (b ∷ bytes)) ∷ chunks w path n (at + suc w) (drop (suc w) (b ∷ bytes))

chunked : (w : ℕ) (path : List ℕ) (n at : ℕ) (bytes : List ℕ) → write_len ≡ suc w → writes_from n path at bytes ≡ chunks w path n at bytes
chunked w path zero at bytes e = refl
chunked w path (suc n) at [] e = refl
chunked w path (suc n) at (b ∷ bytes) e =
    let rest : ℕ → List Command = λ m. Write path at (take m (b ∷ bytes)) ∷ writes_from n path (at + m) (drop m (b ∷ bytes)) in
    ap rest e ∙ ap (λ (cs : List Command). Write path at (take (suc w) (b ∷ bytes)) ∷ cs) (chunked w path n (at + suc w) (drop (suc w) (b ∷ bytes)) e)

chunks_none : (w : ℕ) (path : List ℕ) (n at : ℕ) → chunks w path n at [] ≡ []
chunks_none w path zero at = refl
chunks_none w path (suc n) at = refl

-- However great the bound on their number is.
chunks_any : (w : ℕ) (path : List ℕ) (n m at : ℕ) (bytes : List ℕ) → length bytes ≤ n → length bytes ≤ m → chunks w path n at bytes ≡ chunks w path m at bytes
chunks_any w path n m at [] a b = chunks_none w path n at ∙ sym (chunks_none w path m at)
chunks_any w path zero m at (x ∷ bytes) a b = absurd (omega (arith, a))
chunks_any w path (suc n) zero at (x ∷ bytes) a b = absurd (omega (arith, b))
chunks_any w path (suc n) (suc m) at (x ∷ bytes) a b =
    let d = length-drop w bytes in
    ap (λ (cs : List Command). Write path at (take (suc w) (x ∷ bytes)) ∷ cs) (chunks_any w path n m (at + suc w) (drop w bytes) (omega (arith, a, d)) (omega (arith, b, d)))

-- The first command, and those after it.
chunk_first : (w : ℕ) (path : List ℕ) (at count : ℕ) (bytes : List ℕ) → 0 < length bytes → count ≡ min (length bytes) (suc w)
    → chunks w path (length bytes) at bytes ≡ Write path at (take count bytes) ∷ chunks w path (length bytes - count) (at + count) (drop count bytes)
chunk_first w path at count [] some is = absurd (omega (arith, some))
chunk_first w path at count (x ∷ bytes) some is = ⊎_elim whole full (cases_lt (length (x ∷ bytes)) (suc w))
  where
    whole : length (x ∷ bytes) < suc w → chunks w path (length (x ∷ bytes)) at (x ∷ bytes) ≡ Write path at (take count (x ∷ bytes)) ∷ chunks w path (length (x ∷ bytes) - count) (at + count) (drop count (x ∷ bytes))
    whole lt =
        let all : length (x ∷ bytes) ≤ suc w = omega (arith, lt) in
        let same : length (x ∷ bytes) ≤ count = omega (arith, lt, is) in
        ap₂ (λ (row : List ℕ) (cs : List Command). Write path at row ∷ cs)
        (take_all (suc w) (x ∷ bytes) all ∙ sym (take_all count (x ∷ bytes) same))
        (ap (chunks w path (length bytes) (at + suc w)) (drop_all (suc w) (x ∷ bytes) all) ∙ chunks_none w path (length bytes) (at + suc w)
        ∙ sym (ap (chunks w path (length (x ∷ bytes) - count) (at + count)) (drop_all count (x ∷ bytes) same) ∙ chunks_none w path (length (x ∷ bytes) - count) (at + count)))

    full : suc w ≤ length (x ∷ bytes) → chunks w path (length (x ∷ bytes)) at (x ∷ bytes) ≡ Write path at (take count (x ∷ bytes)) ∷ chunks w path (length (x ∷ bytes) - count) (at + count) (drop count (x ∷ bytes))
    full le =
        let e : suc w ≡ count = omega (arith, le, is) in
        let d = length-drop w bytes in
        ap (λ (cs : List Command). Write path at (take (suc w) (x ∷ bytes)) ∷ cs) (chunks_any w path (length bytes) (length (x ∷ bytes) - suc w) (at + suc w) (drop w bytes) (omega (arith, d)) (omega (arith, d)))
        ∙ ap (λ (m : ℕ). Write path at (take m (x ∷ bytes)) ∷ chunks w path (length (x ∷ bytes) - m) (at + m) (drop m (x ∷ bytes))) e

write_first : (path : List ℕ) (at n count : ℕ) (bytes : List ℕ) → n ≡ length bytes → 0 < n → count ≡ min n 49_152
    → writes_from n path at bytes ≡ Write path at (take count bytes) ∷ writes_from (n - count) path (at + count) (drop count bytes)
write_first path at n count bytes long some is =
    let e : count ≡ min (length bytes) (suc 49151) = is ∙ ap (λ (m : ℕ). min m 49_152) long in
    ap (λ (m : ℕ). writes_from m path at bytes) long
    ∙ chunked 49151 path (length bytes) at bytes refl
    ∙ chunk_first 49151 path at count bytes (omega (arith, long, some)) e
    ∙ ap (λ (cs : List Command). Write path at (take count bytes) ∷ cs) (sym (chunked 49151 path (length bytes - count) (at + count) (drop count bytes) refl))
    ∙ ap (λ (m : ℕ). Write path at (take count bytes) ∷ writes_from (m - count) path (at + count) (drop count bytes)) (sym long)

-- ---- cells inside a range

pub between_within : {C : Type 0} (from len done count : ℕ) (cells : List C) → done + count ≤ len → take count (drop done (cells_between from len cells)) ≡ cells_between (from + done) count cells
unfolding cells_between
between_within from len done count cells le =
    let e : len ≡ done + (len - done) = omega (arith, le) in
    ap (λ (m : ℕ). take count (drop done (take m (drop from cells)))) e
    ∙ ap (take count) (drop-take done (len - done) (drop from cells))
    ∙ take-take count (len - done) (drop done (drop from cells)) (omega (arith, le))
    ∙ ap (take count) (drop_twice from done cells)

pub bytes_within : {C : Type 0} (byte : C → ℕ) (from len done count : ℕ) (cells : List C) → done + count ≤ len
    → take count (drop done (map byte (cells_between from len cells))) ≡ map byte (cells_between (from + done) count cells)
bytes_within byte from len done count cells le =
    ap (take count) (drop-map byte done (cells_between from len cells)) ∙ take-map byte count (drop done (cells_between from len cells)) ∙ ap (map byte) (between_within from len done count cells le)

-- ---- writing chunk by chunk

-- Of the WRITE commands of some bytes the first have gone out, and those of the rest follow.
pub record Written (version : ℕ) (path : List ℕ) (offset : ℕ) (bytes : List ℕ) (done : ℕ) (out_old out_now : Option (List ℕ)) (old now : List ℕ) : Type 0 where
  pub sofar : List ℕ
  pub goes : GoesOut out_old out_now old now sofar
  pub rest : canonical_all version (writes_from (length bytes) path offset bytes) ≡ sofar ++ canonical_all version (writes_from (length bytes - done) path (offset + done) (drop done bytes))

pub written_none : (version : ℕ) (path : List ℕ) (offset : ℕ) (bytes : List ℕ) (out : Option (List ℕ)) (pending : List ℕ) → Written version path offset bytes 0 out out pending pending
written_none version path offset bytes out pending =
    let e : offset ≡ offset + 0 = omega arith in
    let f : length bytes ≡ length bytes - 0 = omega arith in
    record {
      sofar = [];
      goes = goes_none out pending;
      rest = ap₂ (λ (n m : ℕ). canonical_all version (writes_from n path m bytes)) f e;
    }

module _ (version : ℕ) (path : List ℕ) (offset : ℕ) (bytes : List ℕ) (done count : ℕ) (out_old out_now : Option (List ℕ)) (old now : List ℕ) (w : Written version path offset bytes done out_old out_now old now) (more : done < length bytes) (is : count ≡ min (length bytes - done) 49_152) where
  -- The next command, and those after it.
  after_one : canonical_all version (writes_from (length bytes) path offset bytes)
      ≡ w.sofar ++ (canonical version (Write path (offset + done) (take count (drop done bytes))) ++ canonical_all version (writes_from (length bytes - (done + count)) path (offset + (done + count)) (drop (done + count) bytes)))
  unfolding canonical_all
  after_one =
      let d = length-drop done bytes in
      let e : offset + done + count ≡ offset + (done + count) = omega arith in
      let f : length bytes - done - count ≡ length bytes - (done + count) = omega arith in
      w.rest ∙ ap (λ (cs : List Command). w.sofar ++ canonical_all version cs)
      (write_first path (offset + done) (length bytes - done) count (drop done bytes) (sym d) (omega (arith, more)) is
      ∙ ap₂ (λ (n m : ℕ). Write path (offset + done) (take count (drop done bytes)) ∷ writes_from n path m (drop count (drop done bytes))) f e
      ∙ ap (λ (l : List ℕ). Write path (offset + done) (take count (drop done bytes)) ∷ writes_from (length bytes - (done + count)) path (offset + (done + count)) l) (drop_twice done count bytes))

  pub written_more : (out_next : Option (List ℕ)) (next : List ℕ) → RedirectEnd out_now out_next now next (canonical version (Write path (offset + done) (take count (drop done bytes)))) (Ok tt)
      → Written version path offset bytes (done + count) out_old out_next old next
  written_more out_next next goes =
      let one : List ℕ = canonical version (Write path (offset + done) (take count (drop done bytes))) in
      record {
        sofar = w.sofar ++ one;
        goes = goes_then out_old out_now out_next old now next w.sofar one w.goes goes;
        rest = after_one ∙ sym (append_assoc w.sofar one (canonical_all version (writes_from (length bytes - (done + count)) path (offset + (done + count)) (drop (done + count) bytes))));
      }

  pub written_stops : (out_next : Option (List ℕ)) (next : List ℕ) (why : SendStop) → RedirectEnd out_now out_next now next (canonical version (Write path (offset + done) (take count (drop done bytes)))) (Err why)
      → RedirectEnd out_old out_next old next (canonical_all version (writes_from (length bytes) path offset bytes)) (Err why)
  written_stops out_next next why ends =
      stops_then out_old out_now out_next old now next w.sofar (canonical version (Write path (offset + done) (take count (drop done bytes))))
      (canonical_all version (writes_from (length bytes - (done + count)) path (offset + (done + count)) (drop (done + count) bytes)))
      (canonical_all version (writes_from (length bytes) path offset bytes)) why after_one w.goes ends

writes_nothing : (n : ℕ) (path : List ℕ) (at : ℕ) → writes_from n path at [] ≡ []
writes_nothing zero path at = refl
writes_nothing (suc n) path at = refl

pub written_all : (version : ℕ) (path : List ℕ) (offset : ℕ) (bytes : List ℕ) (done : ℕ) (out_old out_now : Option (List ℕ)) (old now : List ℕ) → length bytes ≤ done → Written version path offset bytes done out_old out_now old now
    → RedirectEnd out_old out_now old now (canonical_all version (writes_from (length bytes) path offset bytes)) (Ok tt)
unfolding canonical_all
written_all version path offset bytes done out_old out_now old now all w =
    let none : writes_from (length bytes - done) path (offset + done) (drop done bytes) ≡ [] = ap (writes_from (length bytes - done) path (offset + done)) (drop_all done bytes all) ∙ writes_nothing (length bytes - done) path (offset + done) in
    subst (λ (l : List ℕ). GoesOut out_old out_now old now l)
    (sym (w.rest ∙ ap (λ (cs : List Command). w.sofar ++ canonical_all version cs) none ∙ append-nil w.sofar)) w.goes
