-- Groups of several pieces, published one after the other.
use Rattle.std.proofs.Common.{◌≡◌, ℕ, suc, zero, ◌+◌, ◌<◌, ◌≤◌, List, [], ◌∷◌, ◌++◌, length, take, drop, flat_map, Vec, refl, sym, ◌∙◌, ap, subst, arith, length-append, append_assoc}
use Rattle.std.specs.Prelude.{slice_index_or}
use Rattle.std.specs.Int.{w32, w64, to_le_bytes}
use Rattle.std.specs.declared.alloc.Global.{Global}
use Rattle.std.proofs.Math.Seq.{take-suc}
use Rattle.std.proofs.lemmas.Grind.{flat_map-append}
use Rattle.std.proofs.lemmas.List.{append-nil, take-append-le, take_at, drop_at, take_all}
use Rattle.sx_base.specs.Disk.{Pending}
use Rattle.send_model.specs.Checksum.{crc_of}
use Rattle.store_model.specs.Image.{Header, HasGroups, header_of, front_of, group_of, sealed}
use Rattle.group_log.specs.State.{LogState}
use Rattle.group_log.specs.Journal.{Rests}
use Rattle.log_tests.specs.Published.{joined, body_of, bodies_of, HasFirst}
use Rattle.group_log.proofs.GatedGroups.{front_push}
use Rattle.store_model.proofs.OneJournal.{length-le}

-- one piece more, and one group more
pub joined_next : (pieces : List (Vec ℕ Global)) (i : ℕ) (piece : Vec ℕ Global) → i < length pieces → piece ≡ slice_index_or pieces i piece → joined (take (i + 1) pieces) ≡ joined (take i pieces) ++ piece.items
joined_next pieces i piece less is =
    ap (λ (n : ℕ). joined (take n pieces)) (let e : i + 1 ≡ suc i = omega arith in e)
    ∙ ap joined (take-suc pieces i piece less ∙ ap (λ (p : Vec ℕ Global). take i pieces ++ p ∷ []) (sym is))
    ∙ flat_map-append (λ (p : Vec ℕ Global). p.items) (take i pieces) (piece ∷ [])
    ∙ ap (λ (l : List ℕ). joined (take i pieces) ++ l) (append-nil piece.items)

map-push : (groups : List (Vec (Vec ℕ Global) Global)) (pieces : Vec (Vec ℕ Global) Global) → bodies_of (groups ++ pieces ∷ []) ≡ bodies_of groups ++ body_of pieces ∷ []
map-push [] pieces = refl
map-push (g ∷ groups) pieces = ap (λ (l : List (List ℕ)). body_of g ∷ l) (map-push groups pieces)

pub bodies_next : (bodies : List (List ℕ)) (groups : List (Vec (Vec ℕ Global) Global)) (i : ℕ) (pieces : Vec (Vec ℕ Global) Global) → i < length groups → pieces ≡ slice_index_or groups i pieces → (bodies ++ bodies_of (take i groups)) ++ body_of pieces ∷ [] ≡ bodies ++ bodies_of (take (i + 1) groups)
bodies_next bodies groups i pieces less is =
    append_assoc bodies (bodies_of (take i groups)) (body_of pieces ∷ [])
    ∙ ap (λ (l : List (List ℕ)). bodies ++ l)
    (sym (map-push (take i groups) pieces) ∙ ap bodies_of (ap (λ (p : Vec (Vec ℕ Global) Global). take i groups ++ p ∷ []) is ∙ sym (take-suc groups i pieces less)) ∙ ap (λ (n : ℕ). bodies_of (take n groups)) (let e : suc i ≡ i + 1 = omega arith in e))

take_bodies : (groups : List (Vec (Vec ℕ Global) Global)) (i : ℕ) → take i (bodies_of groups) ≡ bodies_of (take i groups)
take_bodies groups zero = refl
take_bodies [] (suc i) = refl
take_bodies (g ∷ groups) (suc i) = ap (λ (l : List (List ℕ)). body_of g ∷ l) (take_bodies groups i)

-- an image with some of the groups has the first of them
pub has_first : (header : Header) (bodies : List (List ℕ)) (groups : List (Vec (Vec ℕ Global) Global)) (i : ℕ) (image : List ℕ) → HasGroups header (bodies ++ bodies_of (take i groups)) image → HasFirst header bodies (bodies_of groups) image
has_first header bodies groups i image has = record {
  count = i;
  has = subst (λ (l : List (List ℕ)). HasGroups header (bodies ++ l) image) (sym (take_bodies groups i)) has;
}

pub all_taken : (bodies : List (List ℕ)) (groups : List (Vec (Vec ℕ Global) Global)) (i : ℕ) → length groups ≤ i → bodies ++ bodies_of (take i groups) ≡ bodies ++ bodies_of groups
all_taken bodies groups i past = ap (λ (l : List (Vec (Vec ℕ Global) Global)). bodies ++ bodies_of l) (take_all i groups past)

-- behind the groups that there were stand the new ones
front_append : (header : Header) (bodies news : List (List ℕ)) → front_of header (bodies ++ news) ≡ front_of header bodies ++ flat_map group_of news
front_append header bodies news =
    ap (λ (l : List ℕ). header_of header ++ l) (flat_map-append group_of bodies news) ∙ sym (append_assoc (header_of header) (flat_map group_of bodies) (flat_map group_of news))

take_front : (header : Header) (bodies : List (List ℕ)) (log : LogState) (seen : List ℕ) (pending : Pending) → Rests header bodies log seen pending → take log.gate seen ≡ front_of header bodies
take_front header bodies log seen pending rests =
    ap (λ (l : List ℕ). take log.gate l) rests.bytes ∙ take_at (front_of header bodies) (rests.gate ∷ rests.rest) log.gate (sym rests.behind.place)

pub front_kept : (header : Header) (bodies news : List (List ℕ)) (log new : LogState) (seen now : List ℕ) (pending known : Pending) → Rests header bodies log seen pending → Rests header (bodies ++ news) new now known → take log.gate now ≡ take log.gate seen
front_kept header bodies news log new seen now pending known before after =
    ap (λ (l : List ℕ). take log.gate l) (after.bytes ∙ ap (λ (l : List ℕ). l ++ after.gate ∷ after.rest) (front_append header bodies news) ∙ append_assoc (front_of header bodies) (flat_map group_of news) (after.gate ∷ after.rest))
    ∙ take_at (front_of header bodies) (flat_map group_of news ++ after.gate ∷ after.rest) log.gate (sym before.behind.place)
    ∙ sym (take_front header bodies log seen pending before)

-- the bytes of a published group stand where they were put
pub published_at : (header : Header) (bodies : List (List ℕ)) (bytes : List ℕ) (log new : LogState) (at count : ℕ) (seen now : List ℕ) (pending known : Pending) → Rests header bodies log seen pending → Rests header (bodies ++ sealed bytes ∷ []) new now known → at ≡ log.gate + 9 → count ≤ length bytes
    → take count (drop at now) ≡ take count bytes
published_at header bodies bytes log new at count seen now pending known before after place short =
    let front = front_of header bodies in
    let head = 1 ∷ to_le_bytes w64 (length (sealed bytes)) in
    let check = to_le_bytes w32 (crc_of 0 bytes) in
    let behind = after.gate ∷ after.rest in
    let size : length (front ++ head) ≡ at = omega (arith, length-append front head, length-le (length (sealed bytes)), place, before.behind.place) in
    let split : now ≡ (front ++ head) ++ (bytes ++ (check ++ behind)) =
    after.bytes ∙ ap (λ (l : List ℕ). l ++ behind) (front_push header bodies (sealed bytes) ∙ sym (append_assoc front head (sealed bytes)))
    ∙ append_assoc (front ++ head) (sealed bytes) behind
    ∙ ap (λ (l : List ℕ). (front ++ head) ++ l) (append_assoc bytes check behind) in
    ap (λ (l : List ℕ). take count (drop at l)) split
    ∙ ap (λ (l : List ℕ). take count l) (drop_at (front ++ head) (bytes ++ (check ++ behind)) at size)
    ∙ take-append-le count bytes (check ++ behind) short
