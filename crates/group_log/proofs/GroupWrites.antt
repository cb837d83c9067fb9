-- What the bytes of a log are while a group is written.
use Rattle.std.proofs.Common.{◌≡◌, ℕ, ◌+◌, ◌≤◌, List, [], ◌∷◌, ◌++◌, length, take, refl, sym, ◌∙◌, ap, subst, arith, length-append, append_assoc}
use Rattle.std.specs.Int.{w32, w64, to_le_bytes}
use Rattle.std.proofs.lemmas.List.{append-nil, take_at}
use Rattle.sx_base.specs.Disk.{Pending, IsImage, written, shortened, settled}
use Rattle.sx_base.specs.Bytes.{put_at}
use Rattle.sx_base.specs.Crash.{IsStableFront}
use Rattle.sx_base.proofs.DiskImages.{written_behind, shortened_behind, settled_front, only_settled}
use Rattle.send_model.specs.Checksum.{crc_of}
use Rattle.store_model.specs.Image.{Header, HasGroups, front_of, sealed}
use Rattle.group_log.specs.State.{LogState}
use Rattle.group_log.specs.Journal.{IsBehind, Rests, Grows, IsReady}
use Rattle.group_log.proofs.GatedGroups.{put_at_front, put_at_end, has_closed}
use Rattle.store_model.proofs.OneJournal.{length-le}

pub behind_same : (header : Header) (bodies : List (List ℕ)) (log new : LogState) → new.gate ≡ log.gate → new.groups ≡ log.groups → new.format ≡ log.format → new.limit ≡ log.limit → IsBehind header bodies log → IsBehind header bodies new
behind_same header bodies log new gate groups format limit behind = record {
  place = gate ∙ behind.place;
  count = groups ∙ behind.count;
  format = format ∙ behind.format;
  limit = limit ∙ behind.limit;
  lawful = behind.lawful;
  lengths_fit = behind.lengths_fit;
}

pub grows_rests : (header : Header) (bodies : List (List ℕ)) (body : List ℕ) (log new : LogState) (seen : List ℕ) (pending : Pending) → new.gate ≡ log.gate → new.groups ≡ log.groups → new.format ≡ log.format → new.limit ≡ log.limit → Grows header bodies body log seen pending → Rests header bodies new seen pending
grows_rests header bodies body log new seen pending gate groups format limit grows = record {
  behind = behind_same header bodies log new gate groups format limit grows.behind;
  gate = grows.gate;
  closed = grows.closed;
  rest = grows.space ++ body;
  bytes = grows.bytes;
  stable = grows.stable;
}

pub ready_rests : (header : Header) (bodies : List (List ℕ)) (body : List ℕ) (log new : LogState) (seen : List ℕ) (pending : Pending) → new.gate ≡ log.gate → new.groups ≡ log.groups → new.format ≡ log.format → new.limit ≡ log.limit → IsReady header bodies body log seen pending → Rests header bodies new seen pending
ready_rests header bodies body log new seen pending gate groups format limit ready =
    let front = front_of header bodies ++ ready.gate ∷ [] in
    let rest = to_le_bytes w64 (length body) ++ body ++ 0 ∷ [] in
    record {
      behind = behind_same header bodies log new gate groups format limit ready.behind;
      gate = ready.gate;
      closed = ready.closed;
      rest = rest;
      bytes = ready.bytes;
      stable = subst (λ (p : Pending). IsStableFront front p) (sym ready.stable) (settled_front front rest seen (ready.bytes ∙ sym (append_assoc (front_of header bodies) (ready.gate ∷ []) rest)));
    }

length-gate : (header : Header) (bodies : List (List ℕ)) (gate : ℕ) → length (front_of header bodies ++ gate ∷ []) ≡ length (front_of header bodies) + 1
length-gate header bodies gate = length-append (front_of header bodies) (gate ∷ [])

-- a write or a cut behind the closed gate leaves it stable
pub keeps_written : (header : Header) (bodies : List (List ℕ)) (log : LogState) (gate at count : ℕ) (pending now : Pending) → IsBehind header bodies log → log.gate + 1 ≤ at → now ≡ written at count pending → IsStableFront (front_of header bodies ++ gate ∷ []) pending → IsStableFront (front_of header bodies ++ gate ∷ []) now
keeps_written header bodies log gate at count pending now behind past is stable =
    subst (λ (p : Pending). IsStableFront (front_of header bodies ++ gate ∷ []) p) (sym is)
    (written_behind (front_of header bodies ++ gate ∷ []) at count pending (omega (arith, past, behind.place, length-gate header bodies gate)) stable)

pub keeps_shortened : (header : Header) (bodies : List (List ℕ)) (log : LogState) (gate size : ℕ) (pending now : Pending) → IsBehind header bodies log → log.gate + 1 ≤ size → now ≡ shortened size pending → IsStableFront (front_of header bodies ++ gate ∷ []) pending → IsStableFront (front_of header bodies ++ gate ∷ []) now
keeps_shortened header bodies log gate size pending now behind past is stable =
    subst (λ (p : Pending). IsStableFront (front_of header bodies ++ gate ∷ []) p) (sym is)
    (shortened_behind (front_of header bodies ++ gate ∷ []) size pending (omega (arith, past, behind.place, length-gate header bodies gate)) stable)

-- what is cut off stands behind the closed gate
pub cut_is : (header : Header) (bodies : List (List ℕ)) (log : LogState) (gate : ℕ) (rest seen now : List ℕ) → IsBehind header bodies log → seen ≡ front_of header bodies ++ gate ∷ rest → now ≡ take (log.gate + 1) seen → now ≡ front_of header bodies ++ gate ∷ []
cut_is header bodies log gate rest seen now behind bytes is =
    let size : length (front_of header bodies ++ gate ∷ []) ≡ log.gate + 1 = omega (arith, behind.place, length-gate header bodies gate) in
    is ∙ ap (λ (l : List ℕ). take (log.gate + 1) l) (bytes ∙ sym (append_assoc (front_of header bodies) (gate ∷ []) rest)) ∙ take_at (front_of header bodies ++ gate ∷ []) rest (log.gate + 1) size

-- then room for the length
pub begun_is : (header : Header) (bodies : List (List ℕ)) (log : LogState) (gate : ℕ) (space cut now : List ℕ) → IsBehind header bodies log → cut ≡ front_of header bodies ++ gate ∷ [] → now ≡ put_at (log.gate + 1) space cut → now ≡ front_of header bodies ++ gate ∷ (space ++ [])
begun_is header bodies log gate space cut now behind bytes is =
    let size : log.gate + 1 ≡ length cut = omega (arith, behind.place, length-gate header bodies gate, ap length bytes) in
    is ∙ put_at_end (log.gate + 1) cut space size
    ∙ ap (λ (l : List ℕ). l ++ space) bytes
    ∙ append_assoc (front_of header bodies) (gate ∷ []) space
    ∙ ap (λ (l : List ℕ). front_of header bodies ++ gate ∷ l) (sym (append-nil space))

-- of no bytes the checksum is 0
pub none_summed : 0 ≡ crc_of 0 []
unfolding crc_of
none_summed = refl

-- a piece more of the body
pub added_is : (front : List ℕ) (gate at : ℕ) (space body piece seen now : List ℕ) → seen ≡ front ++ gate ∷ (space ++ body) → at ≡ length seen → now ≡ put_at at piece seen → now ≡ front ++ gate ∷ (space ++ (body ++ piece))
added_is front gate at space body piece seen now bytes end is =
    is ∙ put_at_end at seen piece end
    ∙ ap (λ (l : List ℕ). l ++ piece) bytes
    ∙ append_assoc front (gate ∷ (space ++ body)) piece
    ∙ ap (λ (l : List ℕ). front ++ gate ∷ l) (append_assoc space body piece)

pub length-sealed : (body : List ℕ) → length (sealed body) ≡ length body + 4
length-sealed body = length-append body (to_le_bytes w32 (crc_of 0 body))

module _ (header : Header) (bodies : List (List ℕ)) (body : List ℕ) (log : LogState) (seen : List ℕ) (pending : Pending) (grows : Grows header bodies body log seen pending) where
  pub length-grows : length seen ≡ log.gate + 9 + length body
  length-grows =
      omega (arith, ap length grows.bytes, length-append (front_of header bodies) (grows.gate ∷ (grows.space ++ body)), length-append grows.space body, grows.eight, grows.behind.place)

  -- the length, and behind the bytes their checksum and the next gate
  pub sealed_is : (at len sum : ℕ) (length_bytes tail first now : List ℕ) → length_bytes ≡ to_le_bytes w64 len → len ≡ 4 + length body → sum ≡ log.sum → tail ≡ to_le_bytes w32 sum ++ 0 ∷ [] → first ≡ put_at (log.gate + 1) length_bytes seen → at ≡ length seen → now ≡ put_at at tail first → now ≡ front_of header bodies ++ grows.gate ∷ (to_le_bytes w64 (length (sealed body)) ++ sealed body ++ 0 ∷ [])
  sealed_is at len sum length_bytes tail first now le long same_sum tail_is f end s =
      let front = front_of header bodies ++ grows.gate ∷ [] in
      let digits = to_le_bytes w64 (length (sealed body)) in
      let check = to_le_bytes w32 (crc_of 0 body) in
      let place : log.gate + 1 ≡ length front = omega (arith, grows.behind.place, length-gate header bodies grows.gate) in
      let same : len ≡ length (sealed body) = omega (arith, long, length-sealed body) in
      let bytes : length_bytes ≡ digits = le ∙ ap (λ (n : ℕ). to_le_bytes w64 n) same in
      let first_is : first ≡ front ++ (digits ++ body) =
      f ∙ ap (λ (l : List ℕ). put_at (log.gate + 1) l seen) bytes
      ∙ ap (λ (l : List ℕ). put_at (log.gate + 1) digits l) (grows.bytes ∙ sym (append_assoc (front_of header bodies) (grows.gate ∷ []) (grows.space ++ body)))
      ∙ ap (λ (n : ℕ). put_at n digits (front ++ (grows.space ++ body))) place
      ∙ put_at_front front grows.space digits body (length-le (length (sealed body)) ∙ sym grows.eight) in
      let size : at ≡ length first =
      omega (arith, end, length-grows, ap length first_is, length-append front (digits ++ body), length-append digits body, length-le (length (sealed body)), place) in
      let end_is : tail ≡ check ++ 0 ∷ [] = tail_is ∙ ap (λ (n : ℕ). to_le_bytes w32 n ++ 0 ∷ []) (same_sum ∙ grows.sum) in
      s ∙ put_at_end at first tail size
      ∙ ap (λ (l : List ℕ). l ++ tail) first_is
      ∙ ap (λ (l : List ℕ). (front ++ (digits ++ body)) ++ l) end_is
      ∙ append_assoc front (digits ++ body) (check ++ 0 ∷ [])
      ∙ ap (λ (l : List ℕ). front ++ l) (append_assoc digits body (check ++ 0 ∷ []) ∙ ap (λ (l : List ℕ). digits ++ l) (sym (append_assoc body check (0 ∷ []))))
      ∙ append_assoc (front_of header bodies) (grows.gate ∷ []) (digits ++ (sealed body ++ 0 ∷ []))

  pub sealed_has : (now : List ℕ) (known : Pending) (tail : List ℕ) → now ≡ front_of header bodies ++ grows.gate ∷ tail → known ≡ settled now → (image : List ℕ) → IsImage known image → HasGroups header bodies image
  sealed_has now known tail bytes stable image is =
      has_closed header bodies log grows.gate tail image grows.behind grows.closed (only_settled now image (subst (λ (p : Pending). IsImage p image) stable is) ∙ bytes)
