-- Which images a crash may leave, by what is known of the disk.
use Rattle.std.proofs.Common.{◌≡◌, ℕ, suc, ◌+◌, ◌-◌, ◌≤◌, Option, Some, None, List, [], ◌∷◌, ◌++◌, length, take, map, refl, ◌∙◌, ap, subst, arith, length-append}
use Rattle.sx_base.specs.Disk.{Pending, IsImage, Agrees, forget, written, shortened, settled}
use Rattle.sx_base.specs.Crash.{IsStableFront}

-- what begins with the known bytes, and goes on as the others allow
pub record IsSplit (front : List ℕ) (others : List (Option ℕ)) (image : List ℕ) : Type 0 where
  pub rest : List ℕ
  pub split : image ≡ front ++ rest
  pub agrees : Agrees others rest

pub agrees_front : (front : List ℕ) (others : List (Option ℕ)) (image : List ℕ) → Agrees (map Some front ++ others) image → IsSplit front others image
agrees_front [] others image agrees = record { rest = image; split = refl; agrees = agrees }
agrees_front (b ∷ front) others [] agrees = absurd agrees
agrees_front (b ∷ front) others (c ∷ image) agrees =
    let s = agrees_front front others image agrees.1 in
    record { rest = s.rest; split = (λ i. agrees.0 i ∷ s.split i); agrees = s.agrees }

-- where all is known and nothing more can be there, there is one image
pub agrees_whole : (bytes image : List ℕ) → Agrees (map Some bytes) image → length image ≤ length bytes → image ≡ bytes
agrees_whole [] [] agrees short = refl
agrees_whole [] (c ∷ image) agrees short = absurd (omega arith)
agrees_whole (b ∷ bytes) [] agrees short = absurd agrees
agrees_whole (b ∷ bytes) (c ∷ image) agrees short = (λ i. agrees.0 i ∷ agrees_whole bytes image agrees.1 (omega (arith, short)) i)

pub only_settled : (bytes image : List ℕ) → IsImage (settled bytes) image → image ≡ bytes
only_settled bytes image is = agrees_whole bytes image is.known is.short

-- a write behind known bytes leaves them known
pub forget_behind : (front : List ℕ) (others : List (Option ℕ)) (at count : ℕ) → forget (length front + at) count (map Some front ++ others) ≡ map Some front ++ forget at count others
forget_behind [] others at count = ap (λ (n : ℕ). forget n count others) (omega arith)
forget_behind (b ∷ front) others at count =
    let more : length (b ∷ front) + at ≡ suc (length front + at) = omega arith in
    ap (λ (n : ℕ). forget n count (Some b ∷ (map Some front ++ others))) more ∙ ap (λ (known : List (Option ℕ)). Some b ∷ known) (forget_behind front others at count)

pub written_behind : (front : List ℕ) (at count : ℕ) (pending : Pending) → length front ≤ at → IsStableFront front pending → IsStableFront front (written at count pending)
written_behind front at count pending behind stable = record {
  others = forget (at - length front) count stable.others;
  known = ap (λ (n : ℕ). forget n count pending.known) (let e : at ≡ length front + (at - length front) = omega arith in e)
      ∙ ap (λ (known : List (Option ℕ)). forget (length front + (at - length front)) count known) stable.known
      ∙ forget_behind front stable.others (at - length front) count;
}

take_behind : (front : List ℕ) (others : List (Option ℕ)) (size : ℕ) → take (length front + size) (map Some front ++ others) ≡ map Some front ++ take size others
take_behind [] others size = ap (λ (n : ℕ). take n others) (omega arith)
take_behind (b ∷ front) others size =
    let more : length (b ∷ front) + size ≡ suc (length front + size) = omega arith in
    ap (λ (n : ℕ). take n (Some b ∷ (map Some front ++ others))) more ∙ ap (λ (known : List (Option ℕ)). Some b ∷ known) (take_behind front others size)

-- a cut behind known bytes too
pub shortened_behind : (front : List ℕ) (size : ℕ) (pending : Pending) → length front ≤ size → IsStableFront front pending → IsStableFront front (shortened size pending)
shortened_behind front size pending behind stable = record {
  others = take (size - length front) stable.others;
  known = ap (λ (n : ℕ). take n pending.known) (let e : size ≡ length front + (size - length front) = omega arith in e)
      ∙ ap (λ (known : List (Option ℕ)). take (length front + (size - length front)) known) stable.known
      ∙ take_behind front stable.others (size - length front);
}

map-append : (xs ys : List ℕ) → map {B = Option ℕ} Some (xs ++ ys) ≡ map Some xs ++ map Some ys
map-append [] ys = refl
map-append (x ∷ xs) ys = ap (λ (known : List (Option ℕ)). Some x ∷ known) (map-append xs ys)

-- after a sync each front of the bytes is stable
pub settled_front : (front rest bytes : List ℕ) → bytes ≡ front ++ rest → IsStableFront front (settled bytes)
settled_front front rest bytes split = record {
  others = map Some rest;
  known = ap (λ (l : List ℕ). map {B = Option ℕ} Some l) split ∙ map-append front rest;
}

pub image_front : (front : List ℕ) (pending : Pending) (image : List ℕ) → IsStableFront front pending → IsImage pending image → IsSplit front [] image
image_front front pending image stable is =
    let s = agrees_front front stable.others image (subst (λ (known : List (Option ℕ)). Agrees known image) stable.known is.known) in
    record { rest = s.rest; split = s.split; agrees = tt }

-- after a write of one byte into bytes that were all known, an image has some byte there and is
-- else as before
pub record IsAnyByteAt (front : List ℕ) (rest image : List ℕ) : Type 0 where
  pub byte : ℕ
  pub split : image ≡ front ++ byte ∷ rest

pub image_byte : (front : List ℕ) (old : ℕ) (rest image : List ℕ) → IsImage (written (length front) 1 (settled (front ++ old ∷ rest))) image → IsAnyByteAt front rest image
image_byte front old rest image is =
    let known : forget (length front) 1 (map Some (front ++ old ∷ rest)) ≡ map Some front ++ (None ∷ map Some rest) =
    ap (λ (known : List (Option ℕ)). forget (length front) 1 known) (map-append front (old ∷ rest))
    ∙ ap (λ (n : ℕ). forget n 1 (map Some front ++ map Some (old ∷ rest))) (let e : length front ≡ length front + 0 = omega arith in e)
    ∙ forget_behind front (Some old ∷ map Some rest) 0 1
    ∙ ap (λ (known : List (Option ℕ)). map Some front ++ (None ∷ known)) (forget_none (map Some rest)) in
    let s = agrees_front front (None ∷ map Some rest) image (subst (λ (known : List (Option ℕ)). Agrees known image) known is.known) in
    byte_then s.rest s.split s.agrees
  where
    forget_none : (known : List (Option ℕ)) → forget 0 0 known ≡ known
    forget_none [] = refl
    forget_none (place ∷ known) = refl

    byte_then : (tail : List ℕ) → image ≡ front ++ tail → Agrees (None ∷ map Some rest) tail → IsAnyByteAt front rest image
    byte_then [] split agrees = absurd agrees
    byte_then (b ∷ tail) split agrees =
        let lengths : length image ≡ length front + suc (length tail) = ap length split ∙ length-append front (b ∷ tail) in
        let whole : length (front ++ old ∷ rest) ≡ length front + suc (length rest) = length-append front (old ∷ rest) in
        let same : tail ≡ rest = agrees_whole rest tail agrees (omega (arith, is.short, lengths, whole)) in
        record { byte = b; split = split ∙ ap (λ (l : List ℕ). front ++ b ∷ l) same }
