-- How the clock of a disk in memory goes on.
use Rattle.std.proofs.Common.{◌≡◌, ◌⊎◌, inl, inr, ⊎_elim, ℕ, zero, suc, ◌+◌, ◌-◌, ◌^◌, ◌≤◌, min, Option, Some, None, List, [], ◌∷◌, ◌++◌, length, map, take, refl, sym, ◌∙◌, ap, subst, arith, length-append}
use Rattle.sx_base.specs.Disk.{Pending, IsImage, Agrees, Rises, Elapses, forget, written, shortened}
use Rattle.disk_model.specs.declared.stretch.Stretch.{Stretch}
use Rattle.disk_model.specs.History.{Ended, time, Left}

agrees_forget : (at count : ℕ) (known : List (Option ℕ)) (image : List ℕ) → Agrees known image → Agrees (forget at count known) image
agrees_forget at count [] image agrees = tt
agrees_forget at count (place ∷ known) [] agrees = absurd agrees
agrees_forget zero zero (None ∷ known) (b ∷ image) agrees = agrees
agrees_forget zero zero (Some s ∷ known) (b ∷ image) agrees = agrees
agrees_forget zero (suc count) (None ∷ known) (b ∷ image) agrees = agrees_forget zero count known image agrees
agrees_forget zero (suc count) (Some s ∷ known) (b ∷ image) agrees = agrees_forget zero count known image agrees.1
agrees_forget (suc at) count (None ∷ known) (b ∷ image) agrees = agrees_forget at count known image agrees
agrees_forget (suc at) count (Some s ∷ known) (b ∷ image) agrees = (agrees.0, agrees_forget at count known image agrees.1)

agrees_take : (size : ℕ) (known : List (Option ℕ)) (image : List ℕ) → Agrees known image → Agrees (take size known) image
agrees_take zero known image agrees = tt
agrees_take (suc size) [] image agrees = tt
agrees_take (suc size) (place ∷ known) [] agrees = absurd agrees
agrees_take (suc size) (None ∷ known) (b ∷ image) agrees = agrees_take size known image agrees
agrees_take (suc size) (Some s ∷ known) (b ∷ image) agrees = (agrees.0, agrees_take size known image agrees.1)

-- no write and no cut takes an image away
pub written_keeps : (at count : ℕ) (pending : Pending) (image : List ℕ) → IsImage pending image → IsImage (written at count pending) image
written_keeps at count pending image is = record { known = agrees_forget at count pending.known image is.known; short = omega (arith, is.short) }

pub shortened_keeps : (size : ℕ) (pending : Pending) (image : List ℕ) → IsImage pending image → IsImage (shortened size pending) image
shortened_keeps size pending image is = record { known = agrees_take size pending.known image is.known; short = is.short }

-- a call other than a successful sync
pub goes_on : (before : ℕ) (ended later : List Ended) (old new : Pending) → later ≡ ended → ((image : List ℕ) → IsImage old image → IsImage new image)
    → Elapses before (λ t image. Left 0 ended t image ⊎ IsImage old image) (λ t image. Left 0 later t image ⊎ IsImage new image) new
goes_on before ended later old new same keeps = record {
  nothing_else = λ t image le left. ⊎_elim (λ had. inl (inl (subst (λ (l : List Ended). Left 0 l t image) same had))) (λ now. inr now) left;
  keeps = λ t image le left. ⊎_elim (λ had. inl (subst (λ (l : List Ended). Left 0 l t image) (sym same) had)) (λ now. inr (keeps image now)) left;
}

keeps_ended : (syncs : ℕ) (ended : List Ended) (end : Ended) (t : ℕ) (image : List ℕ) → Left syncs ended t image → Left syncs (ended ++ end ∷ []) t image
keeps_ended syncs [] end t image left = absurd left
keeps_ended syncs (e ∷ ended) end t image (inl here) = inl here
keeps_ended syncs (e ∷ ended) end t image (inr later) = inr (keeps_ended (suc syncs) ended end t image later)

adds_end : (syncs : ℕ) (ended : List Ended) (end : Ended) (t : ℕ) (image : List ℕ) → t ≤ time (syncs + length ended) end.calls → IsImage end.pending image → Left syncs (ended ++ end ∷ []) t image
adds_end syncs [] end t image le is = inl (subst (λ (n : ℕ). t ≤ time n end.calls) (omega arith) le, is)
adds_end syncs (e ∷ ended) end t image le is = inr (adds_end (suc syncs) ended end t image (subst (λ (n : ℕ). t ≤ time n end.calls) (omega arith) le) is)

only_adds : (syncs : ℕ) (ended : List Ended) (end : Ended) (t : ℕ) (image : List ℕ) → Left syncs (ended ++ end ∷ []) t image → Left syncs ended t image ⊎ IsImage end.pending image
only_adds syncs [] end t image (inl here) = inr here.1
only_adds syncs [] end t image (inr none) = absurd none
only_adds syncs (e ∷ ended) end t image (inl here) = inl (inl here)
only_adds syncs (e ∷ ended) end t image (inr later) = ⊎_elim (λ had. inl (inr had)) (λ new. inr new) (only_adds (suc syncs) ended end t image later)

map-push : {A B : Type 0} (f : A → B) (xs : List A) (x : A) → map f (xs ++ x ∷ []) ≡ map f xs ++ f x ∷ []
map-push f [] x = refl
map-push f (y ∷ xs) x = ap (λ (l : List _). f y ∷ l) (map-push f xs x)

-- a successful sync ends a time
pub ends : (view : Stretch → Ended) (past later : List Stretch) (last : Stretch) (calls : ℕ) (old new : Pending) → later ≡ past ++ last ∷ [] → (view last).pending ≡ old → min calls (2 ^ 64 - 1) ≤ min (view last).calls (2 ^ 64 - 1)
    → Elapses (time (length (map view past)) calls) (λ t image. Left 0 (map view past) t image ⊎ IsImage old image) (λ t image. Left 0 (map view later) t image ⊎ IsImage new image) new
ends view past later last calls old new is same le = record {
  nothing_else = λ t image before left. ⊎_elim (λ had. inl (was t image had)) (λ now. inr now) left;
  keeps = λ t image before left. inl (subst (λ (l : List Ended). Left 0 l t image) (sym lists) (kept t image before left));
}
  where
    lists : map view later ≡ map view past ++ view last ∷ []
    lists = ap (λ (l : List Stretch). map view l) is ∙ map-push view past last

    was : (t : ℕ) (image : List ℕ) → Left 0 (map view later) t image → Left 0 (map view past) t image ⊎ IsImage old image
    was t image had = ⊎_elim (λ before. inl before) (λ here. inr (subst (λ (p : Pending). IsImage p image) same here)) (only_adds 0 (map view past) (view last) t image (subst (λ (l : List Ended). Left 0 l t image) lists had))

    kept : (t : ℕ) (image : List ℕ) → t ≤ time (length (map view past)) calls → Left 0 (map view past) t image ⊎ IsImage old image → Left 0 (map view past ++ view last ∷ []) t image
    kept t image before (inl had) = keeps_ended 0 (map view past) (view last) t image had
    kept t image before (inr now) = adds_end 0 (map view past) (view last) t image (omega (arith, before, le)) (subst (λ (p : Pending). IsImage p image) (sym same) now)

-- and the clock goes on with it
pub clock_ends : (view : Stretch → Ended) (past later : List Stretch) (last : Stretch) (calls now : ℕ) → later ≡ past ++ last ∷ [] → Rises (time (length (map view past)) calls) (time (length (map view later)) now)
clock_ends view past later last calls now is =
    let more : length (map view later) ≡ length (map view past) + 1 = ap (λ (l : List Stretch). length (map view l)) is ∙ ap length (map-push view past last) ∙ length-append (map view past) (view last ∷ []) in
    record { later = omega (arith, more); rose = omega (arith, more) }

pub goes_on_written : (before at count : ℕ) (ended : List Ended) (old middle new : Pending) → new ≡ written at count middle → middle ≡ old
    → Elapses before (λ t image. Left 0 ended t image ⊎ IsImage old image) (λ t image. Left 0 ended t image ⊎ IsImage new image) new
goes_on_written before at count ended old middle new is same =
    goes_on before ended ended old new refl (λ image had. subst (λ (p : Pending). IsImage p image) (sym (is ∙ ap (λ (p : Pending). written at count p) same)) (written_keeps at count old image had))

pub goes_on_shortened : (before size : ℕ) (ended : List Ended) (old middle new : Pending) → new ≡ shortened size middle → middle ≡ old
    → Elapses before (λ t image. Left 0 ended t image ⊎ IsImage old image) (λ t image. Left 0 ended t image ⊎ IsImage new image) new
goes_on_shortened before size ended old middle new is same =
    goes_on before ended ended old new refl (λ image had. subst (λ (p : Pending). IsImage p image) (sym (is ∙ ap (λ (p : Pending). shortened size p) same)) (shortened_keeps size old image had))
