-- What stays known of a disk in memory after each of its calls.
use Rattle.std.proofs.Common.{◌≡◌, ℕ, zero, suc, ◌+◌, ◌-◌, ◌≤◌, min, max, Bool, true, false, Option, Some, None, Result, Ok, Err, OnOk, OnErr, List, [], ◌∷◌, ◌++◌, length, take, drop, map, replicate, refl, ◌∙◌, ap, arith, length-append, length-take, length-drop}
use Rattle.sx_base.specs.Disk.{forget, written, shortened, settled}
use Rattle.sx_base.specs.Bytes.{put_at}
use Rattle.disk_model.specs.Stretch.{known_of}

-- a cut leaves what is known below it
pub known-take : (n : ℕ) (touched : List Bool) (bytes : List ℕ) → known_of (take n touched) (take n bytes) ≡ take n (known_of touched bytes)
known-take zero [] bytes = refl
known-take zero (t ∷ touched) [] = refl
known-take zero (true ∷ touched) (b ∷ bytes) = refl
known-take zero (false ∷ touched) (b ∷ bytes) = refl
known-take (suc n) [] bytes = refl
known-take (suc n) (t ∷ touched) [] = refl
known-take (suc n) (true ∷ touched) (b ∷ bytes) = ap (λ (l : List (Option ℕ)). None ∷ l) (known-take n touched bytes)
known-take (suc n) (false ∷ touched) (b ∷ bytes) = ap (λ (l : List (Option ℕ)). Some b ∷ l) (known-take n touched bytes)

-- where nothing was touched, all is known
pub known-untouched : (bytes : List ℕ) → known_of (replicate (length bytes) false) bytes ≡ map Some bytes
known-untouched [] = refl
known-untouched (b ∷ bytes) = ap (λ (l : List (Option ℕ)). Some b ∷ l) (known-untouched bytes)

-- the marks after a write of `count` places from `at` on
touch : ℕ → ℕ → List Bool → List Bool
touch at count [] = []
touch (suc at) count (t ∷ touched) = t ∷ touch at count touched
touch zero (suc count) (t ∷ touched) = true ∷ touch zero count touched
touch zero zero (t ∷ touched) = t ∷ touched

known-touch : (at count : ℕ) (touched : List Bool) (bytes : List ℕ) → known_of (touch at count touched) bytes ≡ forget at count (known_of touched bytes)
unfolding touch
known-touch at count [] bytes = refl
known-touch zero zero (t ∷ touched) [] = refl
known-touch zero zero (true ∷ touched) (b ∷ bytes) = refl
known-touch zero zero (false ∷ touched) (b ∷ bytes) = refl
known-touch zero (suc count) (t ∷ touched) [] = refl
known-touch zero (suc count) (true ∷ touched) (b ∷ bytes) = ap (λ (l : List (Option ℕ)). None ∷ l) (known-touch zero count touched bytes)
known-touch zero (suc count) (false ∷ touched) (b ∷ bytes) = ap (λ (l : List (Option ℕ)). None ∷ l) (known-touch zero count touched bytes)
known-touch (suc at) count (t ∷ touched) [] = refl
known-touch (suc at) count (true ∷ touched) (b ∷ bytes) = ap (λ (l : List (Option ℕ)). None ∷ l) (known-touch at count touched bytes)
known-touch (suc at) count (false ∷ touched) (b ∷ bytes) = ap (λ (l : List (Option ℕ)). Some b ∷ l) (known-touch at count touched bytes)

put_at-suc : (at : ℕ) (piece : List ℕ) (b : ℕ) (bytes : List ℕ) → put_at (suc at) piece (b ∷ bytes) ≡ b ∷ put_at at piece bytes
put_at-suc at piece b bytes = ap (λ (n : ℕ). b ∷ (take at bytes ++ piece ++ drop n (b ∷ bytes))) (let e : suc at + length piece ≡ suc (at + length piece) = omega arith in e)

put_at-zero : (p : ℕ) (piece : List ℕ) (b : ℕ) (bytes : List ℕ) → put_at zero (p ∷ piece) (b ∷ bytes) ≡ p ∷ put_at zero piece bytes
put_at-zero p piece b bytes = ap (λ (n : ℕ). p ∷ (piece ++ drop n (b ∷ bytes))) (let e : zero + suc (length piece) ≡ suc (zero + length piece) = omega arith in e)

-- the bytes written stand where nothing is known
known-put_at : (at : ℕ) (piece : List ℕ) (touched : List Bool) (bytes : List ℕ) → length touched ≤ length bytes
    → known_of (touch at (length piece) touched) (put_at at piece bytes) ≡ known_of (touch at (length piece) touched) bytes
unfolding touch
known-put_at at piece [] bytes covers = refl
known-put_at at piece (t ∷ touched) [] covers = absurd (omega arith)
known-put_at zero [] (t ∷ touched) (b ∷ bytes) covers = refl
known-put_at zero (p ∷ piece) (t ∷ touched) (b ∷ bytes) covers =
    ap (λ (l : List ℕ). known_of (true ∷ touch zero (length piece) touched) l) (put_at-zero p piece b bytes)
    ∙ ap (λ (l : List (Option ℕ)). None ∷ l) (known-put_at zero piece touched bytes (omega (arith, covers)))
known-put_at (suc at) piece (true ∷ touched) (b ∷ bytes) covers =
    ap (λ (l : List ℕ). known_of (true ∷ touch at (length piece) touched) l) (put_at-suc at piece b bytes)
    ∙ ap (λ (l : List (Option ℕ)). None ∷ l) (known-put_at at piece touched bytes (omega (arith, covers)))
known-put_at (suc at) piece (false ∷ touched) (b ∷ bytes) covers =
    ap (λ (l : List ℕ). known_of (false ∷ touch at (length piece) touched) l) (put_at-suc at piece b bytes)
    ∙ ap (λ (l : List (Option ℕ)). Some b ∷ l) (known-put_at at piece touched bytes (omega (arith, covers)))

-- the marks as the code makes them
abbrev pub marked : ℕ → ℕ → List Bool → List Bool
marked from to touched = take from touched ++ replicate (to - from) true ++ drop to touched

marked-suc : (from to : ℕ) (t : Bool) (touched : List Bool) → marked (suc from) (suc to) (t ∷ touched) ≡ t ∷ marked from to touched
marked-suc from to t touched = ap (λ (n : ℕ). t ∷ (take from touched ++ replicate n true ++ drop to touched)) (let e : suc to - suc from ≡ to - from = omega arith in e)

marked-zero : (to : ℕ) (t : Bool) (touched : List Bool) → marked zero (suc to) (t ∷ touched) ≡ true ∷ marked zero to touched
marked-zero to t touched = ap (λ (n : ℕ). replicate n true ++ drop to touched) (let e : suc to - zero ≡ suc (to - zero) = omega arith in e)

marked-touch : (at count from to : ℕ) (touched : List Bool) → from ≡ min at (length touched) → to ≡ min (at + count) (length touched) → marked from to touched ≡ touch at count touched
unfolding touch
marked-touch at count from to [] f g = ap2 (omega (arith, f)) (omega (arith, g))
  where
    ap2 : from ≡ zero → to ≡ zero → marked from to [] ≡ []
    ap2 p q = ap (λ (n : ℕ). marked n to []) p ∙ ap (λ (n : ℕ). marked zero n []) q
marked-touch zero zero from to (t ∷ touched) f g =
    ap (λ (n : ℕ). marked n to (t ∷ touched)) (let e : from ≡ zero = omega (arith, f) in e) ∙ ap (λ (n : ℕ). marked zero n (t ∷ touched)) (let e : to ≡ zero = omega (arith, g) in e)
marked-touch zero (suc count) from zero (t ∷ touched) f g = absurd (omega (arith, g))
marked-touch zero (suc count) from (suc to) (t ∷ touched) f g =
    ap (λ (n : ℕ). marked n (suc to) (t ∷ touched)) (let e : from ≡ zero = omega (arith, f) in e)
    ∙ marked-zero to t touched
    ∙ ap (λ (l : List Bool). true ∷ l) (marked-touch zero count zero to touched (omega arith) (omega (arith, g)))
marked-touch (suc at) count zero to (t ∷ touched) f g = absurd (omega (arith, f))
marked-touch (suc at) count (suc from) zero (t ∷ touched) f g = absurd (omega (arith, g))
marked-touch (suc at) count (suc from) (suc to) (t ∷ touched) f g =
    marked-suc from to t touched ∙ ap (λ (l : List Bool). t ∷ l) (marked-touch at count from to touched (omega (arith, f)) (omega (arith, g)))

pub length-put_at : (at : ℕ) (piece bytes : List ℕ) → at ≤ length bytes → length (put_at at piece bytes) ≡ max (length bytes) (at + length piece)
length-put_at at piece bytes place =
    omega (arith, length-append (take at bytes ++ piece) (drop (at + length piece) bytes), length-append (take at bytes) piece, length-take at bytes, length-drop (at + length piece) bytes)

pub marked_is : (at count from to : ℕ) (marks touched : List Bool) (bytes : List ℕ) → from ≡ min at (length touched) → to ≡ min (at + count) (length touched) → marks ≡ marked from to touched → known_of marks bytes ≡ forget at count (known_of touched bytes)
marked_is at count from to marks touched bytes f g is =
    ap (λ (l : List Bool). known_of l bytes) (is ∙ marked-touch at count from to touched f g) ∙ known-touch at count touched bytes

-- a write, whether memory sufficed for its bytes or not
pub after_write : {E : Type 0} (result : Result (Unit {0}) E) (at from to greatest : ℕ) (piece old new : List ℕ) (touched marks : List Bool) → at ≤ length old → length touched ≤ length old
    → from ≡ min at (length touched) → to ≡ min (at + length piece) (length touched) → marks ≡ marked from to touched
    → OnOk result (new ≡ put_at at piece old) → OnErr result (new ≡ old)
    → record { known = known_of marks new; greatest = max (max greatest (at + length piece)) (length new) } ≡ written at (length piece) (record { known = known_of touched old; greatest = max greatest (length old) })
after_write (Ok _) at from to greatest piece old new touched marks place covers f g is ok err =
    let here : known_of marks new ≡ forget at (length piece) (known_of touched old) =
    ap (λ (l : List ℕ). known_of marks l) ok
    ∙ ap (λ (l : List Bool). known_of l (put_at at piece old)) (is ∙ marked-touch at (length piece) from to touched f g)
    ∙ known-put_at at piece touched old covers
    ∙ known-touch at (length piece) touched old in
    let size : max (max greatest (at + length piece)) (length new) ≡ max (max greatest (length old)) (at + length piece) = omega (arith, ap length ok, length-put_at at piece old place) in
    λ i. record { known = here i; greatest = size i }
after_write (Err _) at from to greatest piece old new touched marks place covers f g is ok err =
    let here : known_of marks new ≡ forget at (length piece) (known_of touched old) = ap (λ (l : List ℕ). known_of marks l) err ∙ marked_is at (length piece) from to marks touched old f g is in
    let size : max (max greatest (at + length piece)) (length new) ≡ max (max greatest (length old)) (at + length piece) = omega (arith, ap length err) in
    λ i. record { known = here i; greatest = size i }

pub after_cut : (size greatest : ℕ) (touched marks : List Bool) (old new : List ℕ) → marks ≡ take size touched → new ≡ take size old
    → record { known = known_of marks new; greatest = max (max greatest (length old)) (length new) } ≡ shortened size (record { known = known_of touched old; greatest = max greatest (length old) })
after_cut size greatest touched marks old new t b =
    let here : known_of marks new ≡ take size (known_of touched old) = ap (λ (l : List Bool). known_of l new) t ∙ ap (λ (l : List ℕ). known_of (take size touched) l) b ∙ known-take size touched old in
    let most : max (max greatest (length old)) (length new) ≡ max greatest (length old) = omega (arith, ap length b, length-take size old) in
    λ i. record { known = here i; greatest = most i }

pub when_new : (greatest : ℕ) (marks : List Bool) (bytes all : List ℕ) → bytes ≡ all → greatest ≡ length all → marks ≡ replicate (length all) false
    → record { known = known_of marks bytes; greatest = max greatest (length bytes) } ≡ settled all
when_new greatest marks bytes all b g m =
    let here : known_of marks bytes ≡ map Some all = ap (λ (l : List ℕ). known_of marks l) b ∙ ap (λ (l : List Bool). known_of l all) m ∙ known-untouched all in
    let most : max greatest (length bytes) ≡ length all = omega (arith, g, ap length b) in
    λ i. record { known = here i; greatest = most i }
