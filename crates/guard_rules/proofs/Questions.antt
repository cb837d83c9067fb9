-- Guards that are asked one after the other: what is left to ask, at each place.
use Rattle.std.proofs.Common.{◌≡◌, ℕ, ◌+◌, ◌<◌, ◌≤◌, List, [], ◌∷◌, ◌++◌, length, take, drop, map, slice_index_or, slice_set, Bool, true, false, not, None, Some, if◌then◌else◌, refl, ap, subst, sym, ◌∙◌, arith, add-one, append_assoc, append-nil, drop-cons}
use Rattle.std.proofs.lemmas.List.{take_more_set, drop-set-lt, take_all, drop_all, take-append-drop, get_or-map, get_or-set_same, map-set, length-set, length-map}
use Rattle.std.proofs.Math.Seq.{map-set_same}
use Rattle.send_model.specs.Refusal.{Guarded}
use Rattle.send_model.specs.Command.{Command}
use Rattle.send_model.specs.Guards.{Guard, new_guard, NoDevices, guard_refuses, guard_after, refused_from, guarded, looked}
use Rattle.guard_rules.specs.Meaning.{after_look, IsRefusedAt}

-- The guards in front of a place have gone on, and from that place on they are as before.
pub record IsAsked (before now : List Guard) (place : ℕ) (command : Command) : Type 0 where
  pub looks : looked before command ≡ take place now ++ looked (drop place now) command
  pub refusal : guarded before command ≡ refused_from place (drop place now) command

-- ---- one guard

looked_past : (guard : Guard) (guards : List Guard) (command : Command) → guard_refuses guard command ≡ false
    → looked (guard ∷ guards) command ≡ guard_after guard command ∷ looked guards command
unfolding looked
looked_past guard guards command allows = ap (λ (b : Bool). if b then guard ∷ guards else guard_after guard command ∷ looked guards command) allows

looked_to : (guard : Guard) (guards : List Guard) (command : Command) → guard_refuses guard command ≡ true → looked (guard ∷ guards) command ≡ guard ∷ guards
unfolding looked
looked_to guard guards command refuses = ap (λ (b : Bool). if b then guard ∷ guards else guard_after guard command ∷ looked guards command) refuses

refused_past : (place : ℕ) (guard : Guard) (guards : List Guard) (command : Command) → guard_refuses guard command ≡ false
    → refused_from place (guard ∷ guards) command ≡ refused_from (place + 1) guards command
unfolding refused_from
refused_past place guard guards command allows = ap (λ (b : Bool). if b then Some (Guarded place guard.used) else refused_from (place + 1) guards command) allows

refused_here : (place : ℕ) (guard : Guard) (guards : List Guard) (command : Command) → guard_refuses guard command ≡ true
    → refused_from place (guard ∷ guards) command ≡ Some (Guarded place guard.used)
unfolding refused_from
refused_here place guard guards command refuses = ap (λ (b : Bool). if b then Some (Guarded place guard.used) else refused_from (place + 1) guards command) refuses

-- ---- lists of guards

abbrev IsAt : List Guard → ℕ → Guard → Type 0
IsAt now place guard = drop place now ≡ guard ∷ drop (place + 1) now

goes_on : (before now : List Guard) (place : ℕ) (guard : Guard) (command : Command) → IsAsked before now place command
    → place < length now → IsAt now place guard → guard_refuses guard command ≡ false
    → IsAsked before (slice_set now place (guard_after guard command)) (place + 1) command
goes_on before now place guard command asked less here allows =
    let moved = guard_after guard command in
    let rest = drop (place + 1) now in
    let after : drop (place + 1) (slice_set now place moved) ≡ rest = drop-set-lt (place + 1) now place moved (omega arith) in
    record {
      looks = asked.looks ∙ ap (λ (l : List Guard). take place now ++ looked l command) here
          ∙ ap (λ (l : List Guard). take place now ++ l) (looked_past guard rest command allows)
          ∙ sym (append_assoc (take place now) (moved ∷ []) (looked rest command))
          ∙ ap (λ (l : List Guard). l ++ looked rest command) (sym (take_more_set now place moved less))
          ∙ ap (λ (l : List Guard). take (place + 1) (slice_set now place moved) ++ looked l command) (sym after);
      refusal = asked.refusal ∙ ap (λ (l : List Guard). refused_from place l command) here
          ∙ refused_past place guard rest command allows
          ∙ ap (λ (l : List Guard). refused_from (place + 1) l command) (sym after);
    }

stops : (before now : List Guard) (place : ℕ) (guard : Guard) (command : Command) → IsAsked before now place command
    → IsAt now place guard → guard_refuses guard command ≡ true
    → (now ≡ looked before command) × (guarded before command ≡ Some (Guarded place guard.used))
stops before now place guard command asked here refuses =
    let rest = drop (place + 1) now in (
      sym (asked.looks ∙ ap (λ (l : List Guard). take place now ++ looked l command) here
          ∙ ap (λ (l : List Guard). take place now ++ l) (looked_to guard rest command refuses)
          ∙ ap (λ (l : List Guard). take place now ++ l) (sym here) ∙ take-append-drop place now),
      asked.refusal ∙ ap (λ (l : List Guard). refused_from place l command) here ∙ refused_here place guard rest command refuses,
    )

-- ---- lists of anything that is seen as guards

mapped_less : {B : Type 0} (kept : B → Guard) (bs : List B) (place : ℕ) → place < length bs → place < length (map kept bs)
mapped_less kept bs place less = subst (λ (n : ℕ). place < n) (sym (length-map bs kept)) less

at_place : {B : Type 0} (kept : B → Guard) (bs : List B) (place : ℕ) (d : B) → place < length bs
    → IsAt (map kept bs) place (kept (slice_index_or bs place d))
at_place kept bs place d less =
    let within = mapped_less kept bs place less in
    let rest = drop (place + 1) (map kept bs) in
    let cut : drop place (map kept bs) ≡ slice_index_or (map kept bs) place (kept d) ∷ rest = rw (add-one, drop-cons (map kept bs) place (kept d)) in
    cut ∙ ap (λ (g : Guard). g ∷ rest) (get_or-map kept bs place d (kept d) less)

pub begins : {B : Type 0} (kept : B → Guard) (bs : List B) (command : Command) → IsAsked (map kept bs) (map kept bs) 0 command
begins kept bs command = record { looks = refl; refusal = refl }

not_true : (b : Bool) → true ≡ not b → b ≡ false
not_true true e = e
not_true false e = refl

not_false : (b : Bool) → false ≡ not b → b ≡ true
not_false true e = refl
not_false false e = e

-- one that allows the command
pub allowed : {B : Type 0} (kept : B → Guard) (before : List Guard) (bs : List B) (place : ℕ) (command : Command) (d after : B) (answer : Bool)
    → IsAsked before (map kept bs) place command → place < length bs
    → answer ≡ not (guard_refuses (kept (slice_index_or bs place d)) command)
    → kept after ≡ after_look (kept (slice_index_or bs place d)) command
    → answer ≡ true → IsAsked before (map kept (slice_set bs place after)) (place + 1) command
allowed kept before bs place command d after answer asked less says counts positive =
    let guard = kept (slice_index_or bs place d) in
    let allows : guard_refuses guard command ≡ false = not_true _ (sym positive ∙ says) in
    let moved : kept after ≡ guard_after guard command = counts ∙ ap (λ (x : Bool). if x then guard else guard_after guard command) allows in
    let next : map kept (slice_set bs place after) ≡ slice_set (map kept bs) place (guard_after guard command) =
    map-set kept bs place after ∙ ap (λ (g : Guard). slice_set (map kept bs) place g) moved in
    subst (λ (now : List Guard). IsAsked before now (place + 1) command) (sym next)
    (goes_on before (map kept bs) place guard command asked (mapped_less kept bs place less) (at_place kept bs place d less) allows)

-- one that refuses it
pub refused : {B : Type 0} (kept : B → Guard) (before : List Guard) (bs : List B) (place : ℕ) (command : Command) (d after : B) (answer : Bool)
    → IsAsked before (map kept bs) place command → place < length bs
    → answer ≡ not (guard_refuses (kept (slice_index_or bs place d)) command)
    → kept after ≡ after_look (kept (slice_index_or bs place d)) command
    → answer ≡ false
    → IsRefusedAt before (map kept (slice_set bs place after)) command (Some place) × (map kept (slice_set bs place after) ≡ looked before command)
refused kept before bs place command d after answer asked less says counts negative =
    let guard = kept (slice_index_or bs place d) in
    let refuses : guard_refuses guard command ≡ true = not_false _ (sym negative ∙ says) in
    let still : kept after ≡ guard = counts ∙ ap (λ (x : Bool). if x then guard else guard_after guard command) refuses in
    let new = slice_set bs place after in
    let same : map kept new ≡ map kept bs = map-set_same kept bs place after d still in
    let within : place < length new = subst (λ (n : ℕ). place < n) (sym (length-set bs place after)) less in
    let found : slice_index_or (map kept new) place (new_guard NoDevices) ≡ guard =
    get_or-map kept new place d (new_guard NoDevices) within ∙ ap kept (get_or-set_same bs place after d less) ∙ still in
    let end = stops before (map kept bs) place guard command asked (at_place kept bs place d less) refuses in
    (end.1 ∙ ap (λ (g : Guard). Some (Guarded place g.used)) (sym found), same ∙ end.0)

-- the end of the guards
pub ended : {B : Type 0} (kept : B → Guard) (before : List Guard) (bs : List B) (place : ℕ) (command : Command)
    → IsAsked before (map kept bs) place command → length bs ≤ place
    → IsRefusedAt before (map kept bs) command None × (map kept bs ≡ looked before command)
unfolding looked refused_from
ended kept before bs place command asked past =
    let now = map kept bs in
    let long : length now ≤ place = subst (λ (n : ℕ). n ≤ place) (sym (length-map bs kept)) past in
    let none : drop place now ≡ [] = drop_all place now long in (
      asked.refusal ∙ ap (λ (l : List Guard). refused_from place l command) none,
      sym (asked.looks ∙ ap (λ (l : List Guard). take place now ++ looked l command) none ∙ append-nil (take place now) ∙ take_all place now long),
    )
