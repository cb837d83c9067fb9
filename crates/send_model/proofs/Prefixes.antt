-- A stream without its end is never read as whole: what was written before a fault is taken for no
-- finished stream.
use Rattle.std.specs.Prelude.{◌≡◌, ◌≢◌, ℕ, zero, suc, ◌+◌, ◌-◌, ◌^◌, ◌<◌, ◌≤◌, Bool, true, false, List, [], ◌∷◌, ◌++◌, length, take, Err, nat_le, nat_lt, ◌⊎◌}
use Rattle.std.specs.List.{AllByRecursion}
use Rattle.std.specs.Int.{w16, w32, to_le_bytes}
use Rattle.std.proofs.Common.{refl, sym, ap, subst, ◌∙◌, arith, length-append, length-take, le-ltb, inl, inr, ⊎_elim}
use Rattle.std.proofs.lemmas.List.{take-append-le}
use Rattle.std.proofs.Math.Seq.{take-append-add}
use Rattle.std.proofs.lemmas.Bool.{leb-true, leb-false, lt-leb}
use Rattle.send_model.specs.Refusal.{Refusal, Truncated}
use Rattle.send_model.specs.Command.{Command, End, row, kind_of}
use Rattle.send_model.specs.Spelling.{stream_header, attributes_of, body_of, frame_of, frame_checksum, greatest_body, canonical, canonical_all}
use Rattle.send_model.specs.Reading.{Reading, Whole, HeaderDue, CommandDue, due_after, go_on, faulty, front_of, frame_header_len, header_len, is_version, stream_version, frame_at, frame_with, reads_from, reads}
use Rattle.send_model.specs.Laws.{CanWrite}
use Rattle.send_model.proofs.Frames.{header_says, frame_at_by}
use Rattle.send_model.proofs.Canonical.{checksum_small, body_is_bytes, attributes_lawful}
use Rattle.send_model.proofs.Commands.{number_small}
use Rattle.send_model.proofs.Streams.{IsInner, inner_due, front_item, step_inner, header_step, header_length, read_version, end_writable}
use Rattle.send_model.proofs.Versions.{IsVersion}

abbrev pub IsFaulty : Reading → Type 0
IsFaulty r = r.end ≢ Whole

-- ---- a frame cut short

short_header : (bytes : List ℕ) → length bytes < 10 → frame_at bytes ≡ Err Truncated
unfolding frame_at
short_header bytes h = let no : nat_le frame_header_len (length bytes) ≡ false = lt-leb _ _ h in rw no refl

short_body : (len number sum : ℕ) (after : List ℕ) → len ≤ greatest_body → length after < len → frame_with len number sum after ≡ Err Truncated
unfolding frame_with
short_body len number sum after small h =
    let fits : nat_lt greatest_body len ≡ false = le-ltb _ _ small in
    let no : nat_le len (length after) ≡ false = lt-leb _ _ h in
    rw (fits, no) refl

-- A number is at least another, or below it.
at_least : (n k : ℕ) → ((j : ℕ) × (k ≡ n + j)) ⊎ (k < n)
at_least n k = split (nat_le n k) refl
  where
    split : (b : Bool) → nat_le n k ≡ b → ((j : ℕ) × (k ≡ n + j)) ⊎ (k < n)
    split true e = let le = leb-true n k e in inl (k - n, omega (arith, le))
    split false e = inr (leb-false n k e)

-- The frame's ten header bytes stand before its body.
frame_header : (number : ℕ) (body : List ℕ) → List ℕ
frame_header number body = to_le_bytes w32 (length body) ++ to_le_bytes w16 number ++ to_le_bytes w32 (frame_checksum (length body) number body)

cut_body : (number : ℕ) (body : List ℕ) (j : ℕ) → number < 2 ^ 16 → length body ≤ greatest_body → frame_checksum (length body) number body < 2 ^ 32 → j < length body → frame_at (frame_header number body ++ take j body) ≡ Err Truncated
unfolding frame_header
cut_body number body j small short sum_small h =
    let sum : ℕ = frame_checksum (length body) number body in
    let says = header_says (length body) number sum (take j body) (omega (arith, short)) small sum_small in
    frame_at_by _ (take j body) (length body) number sum says.4 says.0 says.1 says.2 says.3 ∙ short_body (length body) number sum (take j body) short (rw length-take (omega (arith, h)))

cut_frame : (number : ℕ) (body : List ℕ) (k : ℕ) → number < 2 ^ 16 → length body ≤ greatest_body → frame_checksum (length body) number body < 2 ^ 32 → k < length (frame_of number body) → frame_at (take k (frame_of number body)) ≡ Err Truncated
unfolding frame_of frame_header
cut_frame number body k small short sum_small h =
    ⊎_elim (λ (j, e). let there : take k (frame_of number body) ≡ frame_header number body ++ take j body = ap (λ (n : ℕ). take n (frame_of number body)) e ∙ take-append-add (frame_header number body) body j in
    ap frame_at there ∙ cut_body number body j small short sum_small (omega (arith, h, e)))
    (λ below. short_header _ (rw length-take (omega (arith, below)))) (at_least 10 k)

cut_command : (file version number offset : ℕ) (c : Command) (k : ℕ) → CanWrite version c → k < length (canonical version c) → front_of file version number offset (take k (canonical version c)) ≡ Err Truncated
unfolding front_of canonical
cut_command file version number offset c k w h =
    let body : List ℕ = body_of version (attributes_of c) in
    let s = w.spellable in
    let short = s.short in
    let read = cut_frame (row (kind_of c)).number body k (number_small (kind_of c)) short (checksum_small (row (kind_of c)).number body (body_is_bytes version (attributes_of c) (attributes_lawful version c s.known s.values))) h in
    rw read refl

-- ---- a stream cut short

stop_at : (n file version number offset : ℕ) (bytes : List ℕ) (refusal : Refusal) → front_of file version number offset bytes ≡ Err refusal → reads_from (suc n) file (CommandDue version) number offset bytes ≡ faulty file number offset refusal
unfolding reads_from
stop_at n file version number offset bytes refusal front = ap (go_on _ _) front

faulty_is : (r : Reading) (file number offset : ℕ) (refusal : Refusal) → r ≡ faulty file number offset refusal → IsFaulty r
faulty_is r file number offset refusal e = let F : Reading → Type 0 = λ x. IsFaulty x in subst F (sym e) (λ h. cc)

Cut : ℕ → List Command → Type 0
Cut version cs = (n file number offset k : ℕ) → k < length (canonical_all version cs) → IsFaulty (reads_from n file (CommandDue version) number offset (take k (canonical_all version cs)))

cut_first : (version : ℕ) (c : Command) → CanWrite version c → (rest : List ℕ) (n file number offset k : ℕ) → k < length (canonical version c) → IsFaulty (reads_from (suc n) file (CommandDue version) number offset (take k (canonical version c ++ rest)))
cut_first version c w rest n file number offset k h =
    let here : take k (canonical version c ++ rest) ≡ take k (canonical version c) = take-append-le k (canonical version c) rest (omega (arith, h)) in
    faulty_is _ file number offset Truncated (ap (reads_from (suc n) file (CommandDue version) number offset) here ∙ stop_at n file version number offset _ Truncated (cut_command file version number offset c k w h))

no_fuel : (file version number offset : ℕ) (bytes : List ℕ) → IsFaulty (reads_from 0 file (CommandDue version) number offset bytes)
unfolding reads_from
no_fuel file version number offset bytes e = cc

cut_end : (version : ℕ) → IsVersion version → Cut version (End ∷ [])
unfolding Cut canonical_all
cut_end version is zero file number offset k h = no_fuel file version number offset _
cut_end version is (suc n) file number offset k h = cut_first version End (end_writable version is) [] n file number offset k (omega (arith, h, length-append (canonical version End) []))

cut_inner : (version : ℕ) (c : Command) → IsInner version c → (cs : List Command) → Cut version cs → Cut version (c ∷ cs)
unfolding Cut canonical_all
cut_inner version c inner cs ih zero file number offset k h = no_fuel file version number offset _
cut_inner version c inner cs ih (suc n) file number offset k h =
    let rest : List ℕ = canonical_all version cs in
    ⊎_elim (λ (j, e).
    let there : take k (canonical version c ++ rest) ≡ canonical version c ++ take j rest = ap (λ (m : ℕ). take m (canonical version c ++ rest)) e ∙ take-append-add (canonical version c) rest j in
    let front = front_item file version number offset c inner.0 (take j rest) in
    let due : due_after version front.0.command ≡ CommandDue version = ap (due_after version) front.1 ∙ inner_due version c inner.1 in
    let o : ℕ = offset + (length (canonical version c ++ take j rest) - length (take j rest)) in
    let step = ap (reads_from (suc n) file (CommandDue version) number offset) there ∙ step_inner n file version number offset _ (take j rest) front.0 front.2 due in
    let F : Reading → Type 0 = λ x. IsFaulty x in
    subst F (sym step) (ih n file (number + 1) o j (omega (arith, h, e, length-append (canonical version c) rest))))
    (λ below. cut_first version c inner.0 rest n file number offset k below) (at_least (length (canonical version c)) k)

cut_commands : (version : ℕ) → IsVersion version → (cs : List Command) → AllByRecursion (IsInner version) cs → Cut version (cs ++ End ∷ [])
cut_commands version is [] inner = cut_end version is
cut_commands version is (c ∷ cs) inner = cut_inner version c inner.0 (cs ++ End ∷ []) (cut_commands version is cs inner.1)

cut_header : (n file version k : ℕ) (rest : List ℕ) → k < 17 → IsFaulty (reads_from (suc n) file HeaderDue 1 0 (take k (stream_header version ++ rest)))
unfolding reads_from stream_version
cut_header n file version k rest h =
    let no : nat_le header_len (length (take k (stream_header version ++ rest))) ≡ false = lt-leb _ _ (rw length-take (omega (arith, h))) in
    rw no (λ e. cc)

header_split : (version : ℕ) (rest : List ℕ) (j : ℕ) → take (17 + j) (stream_header version ++ rest) ≡ stream_header version ++ take j rest
unfolding stream_header
header_split version rest j = take-append-add (stream_header version) rest j

-- A proper part of a spelled stream from its front is not read as whole.
pub stream_cut : (file version : ℕ) (cs : List Command) (k : ℕ) → is_version version ≡ true → AllByRecursion (IsInner version) cs → k < length (stream_header version ++ canonical_all version (cs ++ End ∷ [])) → IsFaulty (reads file (take k (stream_header version ++ canonical_all version (cs ++ End ∷ []))))
unfolding reads Cut
stream_cut file version cs k is inner h =
    let rest : List ℕ = canonical_all version (cs ++ End ∷ []) in
    ⊎_elim (λ (j, e).
    let there : take k (stream_header version ++ rest) ≡ stream_header version ++ take j rest = ap (λ (m : ℕ). take m (stream_header version ++ rest)) e ∙ header_split version rest j in
    let F : List ℕ → Type 0 = λ b. IsFaulty (reads_from (suc (length b)) file HeaderDue 1 0 b) in
    let G : Reading → Type 0 = λ x. IsFaulty x in
    subst F (sym there) (subst G (sym (header_step _ file version (take j rest) is)) (cut_commands version (read_version version is) cs inner _ file 1 header_len j (omega (arith, h, e, header_length version rest)))))
    (λ below. cut_header _ file version k rest below) (at_least 17 k)
