-- A journal, group by group.
use Rattle.std.specs.Prelude.{◌≡◌, ◌⊎◌, ℕ, suc, ◌+◌, Bool, true, false, Option, Some, None, List, [], ◌∷◌, ◌++◌, length, take, drop, get_or, nat_lt, cond, if◌then◌else◌}
use Rattle.std.specs.Int.{w64, to_le_bytes}
use Rattle.std.proofs.Common.{inl, inr, refl, sym, ap, subst, ◌∙◌, arith, length-append, append_assoc}
use Rattle.std.proofs.lemmas.Bool.{ltb-true, ltb-false}
use Rattle.std.proofs.lemmas.List.{drop_at, take_at}
use Rattle.std.proofs.lemmas.List.Sums.{sum_by-append}
use Rattle.send_model.proofs.ElementLaws.{all_both, all_rest}
use Rattle.sx_base.specs.Disk.{Pending, IsImage}
use Rattle.sx_base.proofs.DiskImages.{only_settled}
use Rattle.store_model.specs.Image.{Header, IsCutShort, IsShort, front_of, group_of}
use Rattle.store_model.specs.Scrub.{IsWhole, IsDamaged, IsNone, IsScrubbed, IsNoStoreAt, IsDamagedAt, FailsWith, HasBody, unsealed}
use Rattle.group_log.specs.State.{LogState}
use Rattle.group_log.specs.Journal.{Reads, Rests, IsNext, Finds}
use Rattle.group_log.specs.Stopping.{IsFaultOr}
use Rattle.group_log.specs.declared.journal.GroupPlace.{GroupPlace}
use Rattle.group_log.specs.declared.stops.LogStop.{LogStop}
use Rattle.group_log.specs.declared.stops.LogStop.TheVariants.{DiskFault, NotStore, LogFull, StoreThere}
use Rattle.group_log.proofs.GatedGroups.{front_push, length-group}
use Rattle.store_scrub.specs.declared.stops.ScrubStop.{ScrubStop}
use Rattle.store_scrub.specs.declared.stops.ScrubStop.TheVariants.{Log, Damaged}
use Rattle.store_scrub.specs.Found.{HasScrubbed, IsPlainOrSealed, IsLogStopAt, IsStopAt, IsBodyStop}

-- what a crash may leave while groups are read is what it might leave before
pub later_image : (before now : Pending) (seen own image : List ℕ) (log : LogState) (plain : ℕ) → HasScrubbed log seen now plain → seen ≡ own → IsImage before own → IsImage now image → IsImage before image
later_image before now seen own image log plain has same was is =
    subst (λ (i : List ℕ). IsImage before i) (sym (only_settled seen image (subst (λ (p : Pending). IsImage p image) has.reads.stable is) ∙ same)) was

-- no group was read yet
pub none_scrubbed : (header : Header) (log : LogState) (seen : List ℕ) (pending : Pending) → Reads header [] log seen pending → HasScrubbed log seen pending 0
none_scrubbed header log seen pending reads = record { header = header; bodies = []; reads = reads; whole = tt; plain_count = refl }

-- one body more, with a checksum or without
plain_push : (bodies : List (List ℕ)) (body : List ℕ) → unsealed (bodies ++ body ∷ []) ≡ unsealed bodies + unsealed (body ∷ [])
plain_push bodies body = sum_by-append (λ (b : List ℕ). cond (nat_lt (get_or b 0 0) 4) 1 0) bodies (body ∷ [])

plain_one : (body : List ℕ) → unsealed (body ∷ []) ≡ cond (nat_lt (get_or body 0 0) 4) 1 0
plain_one body = omega arith

plain_more : (bodies : List (List ℕ)) (body : List ℕ) (is_sealed : Bool) → is_sealed ≡ nat_lt 3 (get_or body 0 0) → unsealed (bodies ++ body ∷ []) ≡ unsealed bodies + (if is_sealed then 0 else 1)
plain_more bodies body is_sealed kind = plain_push bodies body ∙ ap (λ (n : ℕ). unsealed bodies + n) (plain_one body ∙ one is_sealed (nat_lt (get_or body 0 0) 4) kind refl)
  where
    one : (s b : Bool) → s ≡ nat_lt 3 (get_or body 0 0) → nat_lt (get_or body 0 0) 4 ≡ b → cond {A = ℕ} b 1 0 ≡ (if s then 0 else 1)
    one true true above below = absurd (omega (arith, ltb-true 3 (get_or body 0 0) (sym above), ltb-true (get_or body 0 0) 4 below))
    one true false above below = refl
    one false true above below = refl
    one false false above below = absurd (omega (arith, ltb-false 3 (get_or body 0 0) (sym above), ltb-false (get_or body 0 0) 4 below))

-- behind the groups so far one group more was read
module _ (old log : LogState) (was : List ℕ) (known : Pending) (plain : ℕ) (has : HasScrubbed old was known plain) (seen : List ℕ) (pending : Pending) (place : GroupPlace) (next : IsNext has.header has.bodies log seen pending place) where
  abbrev body : List ℕ
  body = next.body

  others : List ℕ
  others = next.reads.rest

  rest_is : seen ≡ front_of has.header has.bodies ++ (group_of body ++ others)
  unfolding others
  rest_is = next.reads.bytes ∙ ap (λ (l : List ℕ). l ++ next.reads.rest) (front_push has.header has.bodies body) ∙ append_assoc (front_of has.header has.bodies) (group_of body) next.reads.rest

  -- its body stands at its place
  there : take place.len (drop place.at seen) ≡ body
  there =
      let front : List ℕ = front_of has.header has.bodies ++ (1 ∷ to_le_bytes w64 (length body)) in
      let split : seen ≡ front ++ (body ++ others) =
      rest_is ∙ ap (λ (l : List ℕ). front_of has.header has.bodies ++ l) (append_assoc (1 ∷ to_le_bytes w64 (length body)) body others) ∙ sym (append_assoc (front_of has.header has.bodies) (1 ∷ to_le_bytes w64 (length body)) (body ++ others)) in
      let nine : length (1 ∷ to_le_bytes w64 (length body)) ≡ 9 = omega (arith, length-group body, length-append (1 ∷ to_le_bytes w64 (length body)) body) in
      let size : length front ≡ place.at = omega (arith, length-append (front_of has.header has.bodies) (1 ∷ to_le_bytes w64 (length body)), nine, next.at) in
      ap (λ (l : List ℕ). take place.len (drop place.at l)) split ∙ ap (λ (l : List ℕ). take place.len l) (drop_at front (body ++ others) place.at size) ∙ take_at body others place.len (sym next.len)

  short : IsShort body
  short = (all_rest IsShort has.bodies (body ∷ []) next.reads.behind.lengths_fit).0

  -- it is whole
  pub next_whole : (is_sealed : Bool) (now : List ℕ) (left : Pending) → now ≡ seen → left ≡ pending → IsPlainOrSealed log.format (take place.len (drop place.at seen)) is_sealed → HasScrubbed log now left (plain + (if is_sealed then 0 else 1))
  next_whole is_sealed now left same kept found =
      let whole : IsPlainOrSealed has.header.format body is_sealed = subst (λ (l : List ℕ). IsPlainOrSealed has.header.format l is_sealed) there (subst (λ (f : ℕ). IsPlainOrSealed f (take place.len (drop place.at seen)) is_sealed) next.reads.behind.format found) in
      record {
        header = has.header;
        bodies = has.bodies ++ body ∷ [];
        reads = subst (λ (l : List ℕ). Reads has.header (has.bodies ++ body ∷ []) log l left) (sym same) (subst (λ (p : Pending). Reads has.header (has.bodies ++ body ∷ []) log seen p) (sym kept) next.reads);
        whole = all_both (IsWhole has.header.format) has.bodies (body ∷ []) has.whole (whole.whole, tt);
        plain_count = plain_more has.bodies body is_sealed whole.kind ∙ ap (λ (n : ℕ). n + (if is_sealed then 0 else 1)) has.plain_count;
      }

  fails : (fault : ℕ → List ℕ → Type 0) → fault has.header.format (group_of body ++ others) → FailsWith fault seen (length has.bodies)
  fails fault is = record {
    header = has.header;
    lawful = has.reads.behind.lawful;
    bodies = has.bodies;
    are = refl;
    lengths_fit = has.reads.behind.lengths_fit;
    whole = has.whole;
    rest = group_of body ++ others;
    bytes = rest_is;
    is = is;
  }

  number_is : place.number ≡ suc (length has.bodies)
  number_is = omega (arith, next.group)

  none_there : IsNone log.format (take place.len (drop place.at seen)) → IsNoStoreAt seen place.number
  none_there none =
      subst (IsNoStoreAt seen) (sym number_is)
      (fails (λ format rest. IsCutShort rest ⊎ HasBody (IsNone format) rest) (inr (record {
        body = body;
        others = others;
        short = short;
        bytes = refl;
        is = subst (λ (l : List ℕ). IsNone has.header.format l) there (subst (λ (f : ℕ). IsNone f (take place.len (drop place.at seen))) next.reads.behind.format none);
      })))

  damaged_there : (stored computed : ℕ) → IsDamaged (take place.len (drop place.at seen)) stored computed → IsDamagedAt seen place.number stored computed
  damaged_there stored computed damaged =
      subst (λ (n : ℕ). IsDamagedAt seen n stored computed) (sym number_is)
      (fails (λ format rest. HasBody (λ b. IsDamaged b stored computed) rest) (record {
        body = body;
        others = others;
        short = short;
        bytes = refl;
        is = subst (λ (l : List ℕ). IsDamaged l stored computed) there damaged;
      }))

  -- the scrub stops there
  pub next_stops : (own : List ℕ) → seen ≡ own → (why : ScrubStop) → IsBodyStop log.format (take place.len (drop place.at seen)) place.number why → IsStopAt own why
  next_stops own same why stop = subst (λ (l : List ℕ). IsStopAt l why) same (at why stop)
    where
      at : (why : ScrubStop) → IsBodyStop log.format (take place.len (drop place.at seen)) place.number why → IsStopAt seen why
      at (Log DiskFault) stop = tt
      at (Log (NotStore group)) stop = subst (IsNoStoreAt seen) (sym stop.0) (none_there stop.1)
      at (Log (LogFull end wanted limit)) stop = stop
      at (Log (StoreThere size)) stop = stop
      at (Damaged group stored computed) stop = subst (λ (n : ℕ). IsDamagedAt seen n stored computed) (sym stop.0) (damaged_there stored computed stop.1)

-- there is no next group
pub at_rest : (header : Header) (bodies : List (List ℕ)) (log : LogState) (seen : List ℕ) (pending : Pending) (found : Option GroupPlace) → Finds header bodies log seen pending found → ((place : GroupPlace) → found ≡ Some place → ⊥) → Rests header bodies log seen pending
at_rest header bodies log seen pending None finds not_some = finds
at_rest header bodies log seen pending (Some place) finds not_some = absurd (not_some place refl)

-- all groups were read
pub all_scrubbed : (old log : LogState) (was : List ℕ) (known : Pending) (plain : ℕ) (has : HasScrubbed old was known plain) (seen own : List ℕ) (pending : Pending) → Rests has.header has.bodies log seen pending → seen ≡ own → (groups : ℕ) → groups ≡ old.groups → IsScrubbed own groups plain
all_scrubbed old log was known plain has seen own pending rests same groups counted =
    subst (λ (l : List ℕ). IsScrubbed l groups plain) same (record {
      header = has.header;
      bodies = has.bodies;
      has = record { gate = rests.gate; rest = rests.rest; closed = rests.closed; bytes = rests.bytes; lawful = rests.behind.lawful; lengths_fit = rests.behind.lengths_fit };
      whole = has.whole;
      count = sym (counted ∙ has.reads.behind.count);
      plain_count = has.plain_count;
    })

-- the next group is cut short
pub next_cut : (old : LogState) (was own : List ℕ) (known : Pending) (plain : ℕ) (has : HasScrubbed old was known plain) → was ≡ own → (cause : Type 0) (why : LogStop) → IsFaultOr cause (NotStore (old.groups + 1)) why
    → (why ≡ NotStore (old.groups + 1) → IsCutShort has.reads.rest) → IsLogStopAt own why
next_cut old was own known plain has same cause why stops torn = subst (λ (l : List ℕ). IsLogStopAt l why) same (one why stops torn)
  where
    cut : IsCutShort has.reads.rest → IsNoStoreAt was (suc (length has.bodies))
    cut short = record {
      header = has.header;
      lawful = has.reads.behind.lawful;
      bodies = has.bodies;
      are = refl;
      lengths_fit = has.reads.behind.lengths_fit;
      whole = has.whole;
      rest = has.reads.rest;
      bytes = has.reads.bytes;
      is = inl short;
    }

    one : (why : LogStop) → IsFaultOr cause (NotStore (old.groups + 1)) why → (why ≡ NotStore (old.groups + 1) → IsCutShort has.reads.rest) → IsLogStopAt was why
    one why (inl is) torn = subst (λ (w : LogStop). IsLogStopAt was w) (sym is) (subst (IsNoStoreAt was) (let e : suc (length has.bodies) ≡ old.groups + 1 = omega (arith, has.reads.behind.count) in e) (cut (torn is)))
    one DiskFault (inr failed) torn = tt
    one (NotStore group) (inr failed) torn = absurd failed
    one (LogFull end wanted limit) (inr failed) torn = failed
    one (StoreThere size) (inr failed) torn = failed
