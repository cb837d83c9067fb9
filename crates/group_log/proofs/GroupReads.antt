-- What stands behind the groups that were read.
use Rattle.std.proofs.Common.{◌≡◌, ◌≢◌, ◌⊎◌, min, ℕ, suc, ◌+◌, ◌-◌, ◌^◌, ◌<◌, ◌≤◌, List, [], ◌∷◌, ◌++◌, length, get_or, take, drop, refl, sym, ◌∙◌, ap, subst, arith, length-append, length-drop, append_assoc, take-append-drop}
use Rattle.std.specs.Int.{w64, to_le_bytes, from_le_bytes}
use Rattle.std.proofs.lemmas.Nat.{le_bytes_8}
use Rattle.std.proofs.lemmas.List.{drop_at, drop-drop, length-take-le}
use Rattle.sx_base.specs.Disk.{Pending, IsImage, settled}
use Rattle.sx_base.specs.Crash.{IsStableFront}
use Rattle.sx_base.proofs.DiskImages.{settled_front, only_settled}
use Rattle.store_model.specs.Image.{Header, HasFault, IsCutShort, start_of, front_of, group_of}
use Rattle.group_log.specs.State.{LogState}
use Rattle.group_log.specs.declared.journal.GroupPlace.{GroupPlace}
use Rattle.group_log.specs.declared.journal.Stage.TheVariants.{Reading}
use Rattle.group_log.specs.Journal.{Reads, Rests, IsNext, IsOpened}
use Rattle.group_log.proofs.GatedGroups.{front_push, fits_push, length-bodies, length-group}
use Rattle.group_log.proofs.GroupWrites.{behind_same}

-- after a sync a crash leaves what is read, and that was an image before
pub after_sync : (before now : Pending) (seen image : List ℕ) → now ≡ settled seen → IsImage before seen → IsImage now image → IsImage before image
after_sync before now seen image is was here =
    subst (λ (l : List ℕ). IsImage before l) (sym (only_settled seen image (subst (λ (p : Pending). IsImage p image) is here))) was

empty_is : (l : List ℕ) → length l ≡ 0 → l ≡ []
empty_is [] none = refl
empty_is (b ∷ l) none = absurd (omega (arith, none))

head_is : (rest buffer : List ℕ) → 0 < length rest → length buffer ≡ 1 → buffer ≡ take (length buffer) rest → rest ≡ get_or buffer 0 0 ∷ drop 1 rest
head_is [] buffer some one is = absurd (omega (arith, some))
head_is (b ∷ rest) buffer some one is =
    let whole : buffer ≡ b ∷ [] = is ∙ ap (λ (n : ℕ). take n (b ∷ rest)) one in
    ap (λ (l : List ℕ). get_or l 0 0 ∷ rest) (sym whole)

module _ (header : Header) (bodies : List (List ℕ)) (log : LogState) (seen : List ℕ) (pending : Pending) (reads : Reads header bodies log seen pending) (size : log.size ≡ length seen) where
  pub rest_is : drop log.gate seen ≡ reads.rest
  rest_is = ap (λ (l : List ℕ). drop log.gate l) reads.bytes ∙ drop_at (front_of header bodies) reads.rest log.gate (sym reads.behind.place)

  length-rest : log.size ≡ log.gate + length reads.rest
  length-rest = omega (arith, size, ap length reads.bytes, length-append (front_of header bodies) reads.rest, reads.behind.place)

  -- a rest that is cut short is a fault of the next group
  pub fault : IsCutShort reads.rest → HasFault seen (log.groups + 1)
  fault torn =
      let at : HasFault seen (suc log.groups) = record {
        header = header;
        bodies = bodies;
        rest = reads.rest;
        bytes = reads.bytes;
        count = sym reads.behind.count;
        torn = torn;
        lawful = reads.behind.lawful;
        lengths_fit = reads.behind.lengths_fit;
      } in
      subst (λ (n : ℕ). HasFault seen n) (let e : suc log.groups ≡ log.groups + 1 = omega arith in e) at

  -- no byte is left for a gate
  pub no_gate : log.size - log.gate ≡ 0 → IsCutShort (drop log.gate seen)
  no_gate none = subst IsCutShort (sym (rest_is ∙ empty_is reads.rest (omega (arith, none, length-rest)))) tt

  module _ (some : log.size - log.gate ≢ 0) (buffer : List ℕ) (one : length buffer ≡ 1) (is : buffer ≡ take (length buffer) (drop log.gate seen)) where
    abbrev tail : List ℕ
    tail = drop 1 reads.rest

    gate_is : reads.rest ≡ get_or buffer 0 0 ∷ tail
    gate_is = head_is reads.rest buffer (omega (arith, some, length-rest)) one (is ∙ ap (λ (l : List ℕ). take (length buffer) l) rest_is)

    -- the gate is closed
    pub closed_rests : (new : LogState) (now : List ℕ) (known : Pending) → new.gate ≡ log.gate → new.groups ≡ log.groups → new.format ≡ log.format → new.limit ≡ log.limit → now ≡ seen → known ≡ pending → get_or buffer 0 0 ≢ 1 → Rests header bodies new now known
    closed_rests new now known gate groups format limit same stable closed =
        let g = get_or buffer 0 0 in
        let front = front_of header bodies in
        let bytes : now ≡ front ++ g ∷ tail = same ∙ reads.bytes ∙ ap (λ (l : List ℕ). front ++ l) gate_is in
        record {
          behind = behind_same header bodies log new gate groups format limit reads.behind;
          gate = g;
          closed = closed;
          rest = tail;
          bytes = bytes;
          stable = subst (λ (p : Pending). IsStableFront (front ++ g ∷ []) p) (sym (stable ∙ reads.stable ∙ ap settled (sym same))) (settled_front (front ++ g ∷ []) tail now (bytes ∙ sym (append_assoc front (g ∷ []) tail)));
        }

    length-tail : log.size ≡ log.gate + 1 + length tail
    length-tail = omega (arith, length-rest, ap length gate_is)

    cut_short : get_or buffer 0 0 ≡ 1 → length tail < 8 + from_le_bytes w64 (take 8 tail) → IsCutShort (drop log.gate seen)
    cut_short open_gate short = subst IsCutShort (sym (rest_is ∙ gate_is)) (open_gate, short)

    -- the length is cut short
    pub no_length : get_or buffer 0 0 ≡ 1 → log.size - log.gate < 9 → IsCutShort (drop log.gate seen)
    no_length open_gate short = cut_short open_gate (omega (arith, short, length-tail))

    module _ (open_gate : get_or buffer 0 0 ≡ 1) (middle : List ℕ) (same : middle ≡ seen) (digits : List ℕ) (eight : length digits ≡ 8) (digits_is : digits ≡ take (length digits) (drop (log.gate + 1) middle)) (len : ℕ) (len_is : len ≡ from_le_bytes w64 digits) where
      tail_is : drop (log.gate + 1) middle ≡ tail
      tail_is = ap (λ (l : List ℕ). drop (log.gate + 1) l) same ∙ sym (drop-drop 1 log.gate seen) ∙ ap (λ (l : List ℕ). drop 1 l) rest_is

      first_eight : digits ≡ take 8 tail
      first_eight = digits_is ∙ ap (λ (l : List ℕ). take (length digits) l) tail_is ∙ ap (λ (n : ℕ). take n tail) eight

      -- the body is cut short
      pub no_body : log.size - log.gate - 9 < len → IsCutShort (drop log.gate seen)
      no_body short =
          let same_len : len ≡ from_le_bytes w64 (take 8 tail) = len_is ∙ ap (λ (l : List ℕ). from_le_bytes w64 l) first_eight in
          cut_short open_gate (omega (arith, short, length-tail, same_len))

      -- the group is whole
      pub whole_group : (are_bytes : (i : ℕ) → get_or digits i 0 < 256) → len < 2 ^ 64 → 9 ≤ log.size - log.gate → len ≤ log.size - log.gate - 9 → (new : LogState) (now : List ℕ) (known : Pending) (place : GroupPlace)
          → new.gate ≡ log.gate + 9 + len → new.groups ≡ log.groups + 1 → new.format ≡ log.format → new.limit ≡ log.limit → new.stage ≡ Reading → now ≡ seen → known ≡ pending → place.number ≡ log.groups + 1 → place.at ≡ log.gate + 9 → place.len ≡ len → IsNext header bodies new now known place
      whole_group are_bytes fits long within new now known place gate groups format limit stage unchanged stable p_number p_at p_len =
          let front = front_of header bodies in
          let behind_length = drop 8 tail in
          let body = take len behind_length in
          let others = drop len behind_length in
          let size_of : length body ≡ len = length-take-le len behind_length (omega (arith, within, length-tail, length-drop 8 tail)) in
          let written : digits ≡ to_le_bytes w64 (length body) = sym (le_bytes_8 digits len eight are_bytes len_is) ∙ ap (λ (n : ℕ). to_le_bytes w64 n) (sym size_of) in
          let tail_split : tail ≡ to_le_bytes w64 (length body) ++ (body ++ others) =
          sym (take-append-drop 8 tail) ∙ ap (λ (l : List ℕ). l ++ behind_length) (sym first_eight ∙ written) ∙ ap (λ (l : List ℕ). to_le_bytes w64 (length body) ++ l) (sym (take-append-drop len behind_length)) in
          let rest_split : reads.rest ≡ group_of body ++ others =
          gate_is ∙ ap (λ (g : ℕ). g ∷ tail) open_gate ∙ ap (λ (l : List ℕ). 1 ∷ l) tail_split ∙ sym (append_assoc (1 ∷ to_le_bytes w64 (length body)) body others) in
          let bytes : now ≡ front_of header (bodies ++ body ∷ []) ++ others =
          unchanged ∙ reads.bytes ∙ ap (λ (l : List ℕ). front ++ l) rest_split ∙ sym (append_assoc front (group_of body) others) ∙ ap (λ (l : List ℕ). l ++ others) (sym (front_push header bodies body)) in
          let front_size : length (front_of header (bodies ++ body ∷ [])) ≡ length front + (9 + length body) =
          ap length (front_push header bodies body) ∙ length-append front (group_of body) ∙ ap (λ (n : ℕ). length front + n) (length-group body) in
          record {
            body = body;
            reads = record {
              behind = record {
                place = omega (arith, gate, reads.behind.place, front_size, size_of);
                count = omega (arith, groups, reads.behind.count, length-bodies bodies body);
                format = format ∙ reads.behind.format;
                limit = limit ∙ reads.behind.limit;
                lawful = reads.behind.lawful;
                lengths_fit = fits_push bodies body reads.behind.lengths_fit (omega (arith, size_of, fits));
              };
              stage = stage;
              rest = others;
              bytes = bytes;
              stable = stable ∙ reads.stable ∙ ap settled (sym unchanged);
            };
            group = omega (arith, p_number, reads.behind.count);
            at = omega (arith, p_at, reads.behind.place);
            len = p_len ∙ sym size_of;
          }

-- what stands behind the groups, seen from the place of the gate
pub cut_behind : (header : Header) (bodies : List (List ℕ)) (log : LogState) (seen : List ℕ) (pending : Pending) (reads : Reads header bodies log seen pending) (gate : ℕ) → gate ≡ log.gate → IsCutShort (drop gate seen) → IsCutShort reads.rest
cut_behind header bodies log seen pending reads gate at torn =
    subst IsCutShort (ap (λ (n : ℕ). drop n seen) at ∙ ap (λ (l : List ℕ). drop log.gate l) reads.bytes ∙ drop_at (front_of header bodies) reads.rest log.gate (sym reads.behind.place)) torn

-- a header that was read
pub header_opened : (log : LogState) (format : ℕ) (seen middle now : List ℕ) (known : Pending) (start digits : List ℕ) → (format ≡ 1) ⊎ (format ≡ 2) → start ≡ start_of format → start ≡ take (length start) (drop 0 seen) → length digits ≡ 8 → ((i : ℕ) → get_or digits i 0 < 256) → middle ≡ seen → digits ≡ take (length digits) (drop 12 middle)
    → from_le_bytes w64 digits < 2 ^ 64 → log.format ≡ format → log.limit ≡ min (from_le_bytes w64 digits) (2 ^ 63 - 1) → log.gate ≡ 20 → log.groups ≡ 0 → log.stage ≡ Reading → now ≡ seen → known ≡ settled now → IsOpened now known log
header_opened log format seen middle now known start digits lawful text read_start eight are_bytes same read_digits fits is_format limit gate groups stage unchanged stable =
    let number = from_le_bytes w64 digits in
    let twelve : take 12 seen ≡ start_of format = sym (read_start ∙ ap (λ (l : List ℕ). take (length l) seen) text) ∙ text in
    let next_eight : take 8 (drop 12 seen) ≡ to_le_bytes w64 number =
    sym (read_digits ∙ ap (λ (n : ℕ). take n (drop 12 middle)) eight ∙ ap (λ (l : List ℕ). take 8 (drop 12 l)) same) ∙ sym (le_bytes_8 digits number eight are_bytes refl) in
    let split : seen ≡ start_of format ++ (to_le_bytes w64 number ++ drop 8 (drop 12 seen)) =
    sym (take-append-drop 12 seen) ∙ ap (λ (l : List ℕ). l ++ drop 12 seen) twelve ∙ ap (λ (l : List ℕ). start_of format ++ l) (sym (take-append-drop 8 (drop 12 seen)))
    ∙ ap (λ (l : List ℕ). start_of format ++ (l ++ drop 8 (drop 12 seen))) next_eight in
    let header : Header = record { format = format; number = number } in
    let bytes : now ≡ front_of header [] ++ drop 8 (drop 12 seen) = unchanged ∙ split in
    record {
      header = header;
      reads = record {
        behind = record {
          place = gate;
          count = groups;
          format = is_format;
          limit = limit;
          lawful = record { format = lawful; number_fits = fits };
          lengths_fit = tt;
        };
        stage = stage;
        rest = drop 8 (drop 12 seen);
        bytes = bytes;
        stable = stable;
      };
    }
