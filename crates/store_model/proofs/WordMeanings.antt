-- What answers of `list`, `show`, `cat`, `scrub`, `init` and `drop` mean.
use Rattle.std.specs.Prelude.{◌≡◌, ◌≢◌, ◌⊎◌, ◌<◌, ℕ, suc, ◌+◌, ◌==◌, Bool, true, false, not, List, [], ◌∷◌, length, Option, None, Some, if◌then◌else◌}
use Rattle.std.specs.List.{filter}
use Rattle.std.specs.Str.{bytes_eq}
use Rattle.std.proofs.Common.{inl, inr, refl, sym, ap, ◌∙◌, arith, eqb-true}
use Rattle.send_model.specs.Subvolume.{Subvolume}
use Rattle.send_model.specs.Store.{Entry, Store, has_name}
use Rattle.send_model.specs.Due.{DoneWhole, RefusedAt, TooLong}
use Rattle.send_model.specs.Due as stream_dues
use Rattle.send_model.specs.Answer.{Done, Refused, Usage, InputFault, OutputFault, NoMemory, InputTooLong, TooMuch, InputChanged}
use Rattle.store_model.specs.Image.{reserve}
use Rattle.store_model.specs.Stored.{as_bytes, dropped, StandsFor}
use Rattle.store_model.specs.Dues as dues
use Rattle.store_model.specs.StoreLines.{shown}
use Rattle.store_model.specs.Dues.{Due, Ends, OverStore, unless_missing, complete_named, file_at, show_due, cat_due, show_output, cat_output, first_full, or_due, pieces_from, drop_due, init_due, IsDropDue}
use Rattle.store_model.specs.Requests.{word_at, DropLeaves}
use Rattle.store_model.specs.Answers.{OfAnyWord, StoreFault, NotStore, Missing, LogFull, StoreThere, Damaged}
use Rattle.store_model.specs.Meanings.{IsShown, IsFileOf, IsWithout, ListIsDone, ShowIsDone, CatIsDone, ShowMisses, CatMisses, ScrubIsDone, ScrubIsCut, ScrubIsSilent, InitIsDone, InitIsThere, InitIsAtFault, InitIsAnswered, DropIsDone, DropIsNotDone, DropIsAtFault, DropMisses, DropIsFull, ScrubFinds}
use Rattle.send_model.proofs.Sorts.{same_inside}
use Rattle.store_model.proofs.OneStore.{one_store}
use Rattle.store_model.proofs.StoreAnswers.{full_is}

-- ---- list, show and cat

pub list_is_done : ListIsDone
list_is_done place words image files store written left stands h = (h.1.1.0 store stands, h.1.0)

-- over the one store that the image stands for
over_it : (image : List ℕ) (answer : Store ℕ → Due) (store : Store ℕ) (due : Due) → StandsFor image store
    → (found : Store ℕ) × StandsFor image found × (due ≡ answer found) → due ≡ answer store
over_it image answer store due stands h = h.2 ∙ ap answer (one_store 0 as_bytes image h.0 store h.1 stands)

ends_whole : {A : Type 0} (what : List ℕ) (o : Option A) → Ends DoneWhole ≡ unless_missing what o → (found : A) × (o ≡ Some found)
ends_whole what None e = cc
ends_whole what (Some found) e = (found, refl)

is_missing : {A : Type 0} (what other : List ℕ) (o : Option A) → dues.Missing what ≡ unless_missing other o → (what ≡ other) × (o ≡ None)
is_missing what other None e = (cc, refl)
is_missing what other (Some found) e = cc

pub show_is_done : ShowIsDone
show_is_done place name words image files store written left stands h =
    let there = ends_whole (word_at words name) (complete_named (word_at words name) store) (over_it image (show_due (word_at words name)) store (Ends DoneWhole) stands h.0) in
    (shown_of (word_at words name) store written there.0 there.1 (h.1.1.0 store stands), h.1.0)
  where
    shown_of : (name : List ℕ) (store : Store ℕ) (written : List ℕ) (found : Entry (Subvolume ℕ) × Subvolume ℕ) → complete_named name store ≡ Some found → written ≡ show_output name store → IsShown name store written
    shown_of name store written found is e = (
      found,
      is,
      e ∙ ap (λ (o : Option (Entry (Subvolume ℕ) × Subvolume ℕ)). elim o as (λ x. List ℕ) [ None ↦ [] | Some f ↦ shown f.0.name f.0.key f.1 ]) is,
    )

pub show_misses : ShowMisses
show_misses place name words image files store what written left stands h =
    let gone = is_missing what (word_at words name) (complete_named (word_at words name) store) (over_it image (show_due (word_at words name)) store (dues.Missing what) stands h.0) in
    (gone.0, gone.1, h.1.1.0 store stands, h.1.0)

pub cat_is_done : CatIsDone
cat_is_done place name path words image files store written left stands h =
    (one (complete_named (word_at words name) store) refl (over_it image (cat_due (word_at words name) (word_at words path)) store (Ends DoneWhole) stands h.0) (h.1.1.0 store stands), h.1.0)
  where
    Found : Type 0
    Found = Entry (Subvolume ℕ) × Subvolume ℕ

    two : (found : Found) → complete_named (word_at words name) store ≡ Some found → (o : Option (List ℕ)) → file_at (word_at words path) found.1 ≡ o
        → Ends DoneWhole ≡ unless_missing (word_at words path) o → written ≡ (elim o as (λ x. List ℕ) [ None ↦ [] | Some cells ↦ cells ]) → IsFileOf (word_at words name) (word_at words path) store written
    two found is None at e w = cc
    two found is (Some cells) at e w = (found, is, at ∙ ap (λ (l : List ℕ). Some l) (sym w))

    one : (o : Option Found) → complete_named (word_at words name) store ≡ o
        → Ends DoneWhole ≡ (elim o as (λ x. Due) [ None ↦ dues.Missing (word_at words name) | Some found ↦ unless_missing (word_at words path) (file_at (word_at words path) found.1) ])
        → written ≡ (elim o as (λ x. List ℕ) [ None ↦ [] | Some found ↦ elim (file_at (word_at words path) found.1) as (λ x. List ℕ) [ None ↦ [] | Some cells ↦ cells ] ])
        → IsFileOf (word_at words name) (word_at words path) store written
    one None is e w = cc
    one (Some found) is e w = two found is (file_at (word_at words path) found.1) refl e w

pub cat_misses : CatMisses
cat_misses place name path words image files store what written left stands h =
    (one (complete_named (word_at words name) store) refl (over_it image (cat_due (word_at words name) (word_at words path)) store (dues.Missing what) stands h.0), h.1.1.0 store stands, h.1.0)
  where
    Found : Type 0
    Found = Entry (Subvolume ℕ) × Subvolume ℕ

    Misses : Type 0
    Misses = ((what ≡ word_at words name) × (complete_named (word_at words name) store ≡ None))
        ⊎ ((what ≡ word_at words path) × ((found : Found) × (complete_named (word_at words name) store ≡ Some found) × (file_at (word_at words path) found.1 ≡ None)))

    one : (o : Option Found) → complete_named (word_at words name) store ≡ o
        → dues.Missing what ≡ (elim o as (λ x. Due) [ None ↦ dues.Missing (word_at words name) | Some found ↦ unless_missing (word_at words path) (file_at (word_at words path) found.1) ]) → Misses
    one None is e = inl (cc, is)
    one (Some found) is e =
        let gone = is_missing what (word_at words path) (file_at (word_at words path) found.1) e in
        inr (gone.0, (found, is, gone.1))

-- ---- scrub

pub scrub_is_done : ScrubIsDone
scrub_is_done place words image files written left h = (h.1.1.1, h.1.0)

pub scrub_is_cut : ScrubIsCut
scrub_is_cut place words image files written left h = (h.1, h.0)

pub scrub_is_silent : ScrubIsSilent
scrub_is_silent place words image files (OfAnyWord Done) written left h not_done not_cut = absurd (not_done refl)
scrub_is_silent place words image files (OfAnyWord OutputFault) written left h not_done not_cut = absurd (not_cut refl)
scrub_is_silent place words image files (OfAnyWord (Refused verdict)) written left h not_done not_cut = let e : RefusedAt verdict ≡ DoneWhole = h.1.1.0 in cc
scrub_is_silent place words image files (OfAnyWord (InputTooLong file)) written left h not_done not_cut = let e : TooLong file ≡ DoneWhole = h.1.1.0 in cc
scrub_is_silent place words image files (OfAnyWord (TooMuch sum)) written left h not_done not_cut = let e : stream_dues.TooMuch sum ≡ DoneWhole = h.1.1.0 in cc
scrub_is_silent place words image files (OfAnyWord Usage) written left h not_done not_cut = absurd h
scrub_is_silent place words image files (OfAnyWord InputFault) written left h not_done not_cut = absurd h.0
scrub_is_silent place words image files (OfAnyWord (InputChanged file at)) written left h not_done not_cut = absurd h.0
scrub_is_silent place words image files (OfAnyWord NoMemory) written left h not_done not_cut = (h.1, h.0)
scrub_is_silent place words image files StoreFault written left h not_done not_cut = (h.1, h.0)
scrub_is_silent place words image files (NotStore group) written left h not_done not_cut = (h.1.1.1, h.1.0)
scrub_is_silent place words image files (Missing what) written left h not_done not_cut = absurd h.1.1
scrub_is_silent place words image files (LogFull end wanted limit) written left h not_done not_cut = absurd h.1.1
scrub_is_silent place words image files (StoreThere size) written left h not_done not_cut = absurd h.1.1
scrub_is_silent place words image files (Damaged group stored computed) written left h not_done not_cut = (h.1.1.1, h.1.0)

-- ---- init

not_empty : (n : ℕ) → (suc n == 0) ≡ false
not_empty n = one (suc n == 0) refl
  where
    one : (b : Bool) → (suc n == 0) ≡ b → b ≡ false
    one true e = absurd (omega (arith, eqb-true (suc n) 0 e))
    one false e = refl

init_by : (due : Due) (image : List ℕ) → due ≡ init_due image → ((due ≡ Ends DoneWhole) × (image ≡ [])) ⊎ ((due ≡ dues.StoreThere (length image)) × (image ≢ []))
unfolding init_due
init_by due [] e = inl (e, refl)
init_by due (byte ∷ more) e = inr (e ∙ ap (λ (b : Bool). if b then Ends DoneWhole else dues.StoreThere (length (byte ∷ more))) (not_empty (length more)), λ q. cc)

pub init_is_done : InitIsDone
init_is_done place words image files written left h = (one (init_by (Ends DoneWhole) image h.0), h.1.0, h.1.1)
  where
    one : ((Ends DoneWhole ≡ Ends DoneWhole) × (image ≡ [])) ⊎ ((Ends DoneWhole ≡ dues.StoreThere (length image)) × (image ≢ [])) → image ≡ []
    one (inl is) = is.1
    one (inr is) = let e : Ends DoneWhole ≡ dues.StoreThere (length image) = is.0 in cc

pub init_is_there : InitIsThere
init_is_there place words image files size written left h =
    let is = one (init_by (dues.StoreThere size) image h.0) in
    (is.0, is.1, h.1.0, h.1.1)
  where
    one : ((dues.StoreThere size ≡ Ends DoneWhole) × (image ≡ [])) ⊎ ((dues.StoreThere size ≡ dues.StoreThere (length image)) × (image ≢ [])) → (size ≡ length image) × (image ≢ [])
    one (inl is) = let e : dues.StoreThere size ≡ Ends DoneWhole = is.0 in cc
    one (inr is) = (let e : dues.StoreThere size ≡ dues.StoreThere (length image) = is.0 in cc, is.1)

pub init_is_at_fault : InitIsAtFault
init_is_at_fault place words [] files written left h = (h.0, λ some. absurd (some refl))
init_is_at_fault place words (byte ∷ more) files written left h = (h.0, λ some. h.1)

never : (due : Due) {image : List ℕ} → ((due ≡ Ends DoneWhole) × (image ≡ [])) ⊎ ((due ≡ dues.StoreThere (length image)) × (image ≢ []))
    → (due ≡ Ends DoneWhole → ⊥) → (due ≡ dues.StoreThere (length image) → ⊥) → ⊥
never due (inl is) not_done not_there = not_done is.0
never due (inr is) not_done not_there = not_there is.0

pub init_is_answered : InitIsAnswered
init_is_answered place words image files (OfAnyWord Done) written left h = inl refl
init_is_answered place words image files (StoreThere size) written left h = inr (inl (ap StoreThere (init_is_there place words image files size written left h).0))
init_is_answered place words image files StoreFault written left h = inr (inr refl)
init_is_answered place words image files (OfAnyWord (Refused verdict)) written left h = absurd (never (Ends (RefusedAt verdict)) (init_by (Ends (RefusedAt verdict)) image h.0) (λ e. cc) (λ e. cc))
init_is_answered place words image files (OfAnyWord (InputTooLong file)) written left h = absurd (never (Ends (TooLong file)) (init_by (Ends (TooLong file)) image h.0) (λ e. cc) (λ e. cc))
init_is_answered place words image files (OfAnyWord (TooMuch sum)) written left h = absurd (never (Ends (stream_dues.TooMuch sum)) (init_by (Ends (stream_dues.TooMuch sum)) image h.0) (λ e. cc) (λ e. cc))
init_is_answered place words image files (NotStore group) written left h = absurd (never (dues.NotStore group) (init_by (dues.NotStore group) image h.0) (λ e. cc) (λ e. cc))
init_is_answered place words image files (Missing what) written left h = absurd (never (dues.Missing what) (init_by (dues.Missing what) image h.0) (λ e. cc) (λ e. cc))
init_is_answered place words image files (LogFull end wanted limit) written left h = absurd (never (dues.LogFull end wanted limit) (init_by (dues.LogFull end wanted limit) image h.0) (λ e. cc) (λ e. cc))
init_is_answered place words image files (Damaged group stored computed) written left h =
    absurd (never (dues.Damaged group stored computed) (init_by (dues.Damaged group stored computed) image h.0) (λ e. cc) (λ e. cc))
init_is_answered place words image files (OfAnyWord Usage) written left h = absurd h
init_is_answered place words image files (OfAnyWord InputFault) written left h = absurd h.0
init_is_answered place words image files (OfAnyWord (InputChanged file at)) written left h = absurd h.0
init_is_answered place words image files (OfAnyWord NoMemory) written left h = absurd h
init_is_answered place words image files (OfAnyWord OutputFault) written left h = absurd h

-- ---- drop

is_without : (name : List ℕ) (store next : Store ℕ) → dropped store name ≡ Some next → IsWithout name store next
unfolding dropped
is_without name store next e = one (has_name name store) refl e
  where
    one : (b : Bool) → has_name name store ≡ b → (if b then Some (filter (λ e. not (bytes_eq e.name name)) store) else None) ≡ Some next → IsWithout name store next
    one true is q = (is, sym (same_inside q))
    one false is q = cc

left_without : (name : List ℕ) (store : Store ℕ) (left : List ℕ) → DropLeaves (Ends DoneWhole) name store left → (next : Store ℕ) × IsWithout name store next × StandsFor left next
left_without name store left h = (h.0, is_without name store h.0 h.1, h.2)

pub drop_is_done : DropIsDone
drop_is_done place name words image files store written left stands h = (left_without (word_at words name) store left (h.1.1.0 store stands), h.1.0)

-- What is due to a drop.
abbrev DropEnds : ℕ → List ℕ → Store ℕ → Due → Type 0
DropEnds limit name store due = (due ≡ Ends DoneWhole)
    ⊎ (((due ≡ dues.Missing name) × (has_name name store ≡ false)) ⊎ ((end : ℕ) × (wanted : ℕ) × (due ≡ dues.LogFull end wanted limit) × (limit < end + wanted + reserve)))

-- what is due to a drop: all was done, the name is missing, or there is no room
drop_ends : (limit gate : ℕ) (name : List ℕ) (store : Store ℕ) (due : Due) → due ≡ drop_due limit gate name store
    → DropEnds limit name store due
unfolding drop_due
drop_ends limit gate name store due e = one (has_name name store) refl e
  where
    pieces : List (ℕ × ℕ)
    pieces = pieces_from gate (9 ∷ (1 + length name) ∷ [])

    two : (o : Option Due) → first_full limit pieces ≡ o → due ≡ or_due o (Ends DoneWhole)
        → DropEnds limit name store due
    two None is q = inl q
    two (Some full) is q = let f = full_is limit pieces full is in inr (inr (f.0, f.1, q ∙ f.2, f.3))

    one : (b : Bool) → has_name name store ≡ b → due ≡ (if b then or_due (first_full limit pieces) (Ends DoneWhole) else dues.Missing name)
        → DropEnds limit name store due
    one true is q = two (first_full limit pieces) refl q
    one false is q = inr (inl (q, is))

-- no refusal of a file is due to it
no_file_due : (image name : List ℕ) (due : stream_dues.Due) → OverStore image (IsDropDue image name) (Ends due) → due ≡ DoneWhole
no_file_due image name due h = one (drop_ends _ _ name h.0 (Ends due) h.2.1)
  where
    one : {limit : ℕ} → DropEnds limit name h.0 (Ends due) → due ≡ DoneWhole
    one (inl e) = cc
    one (inr (inl e)) = let q : Ends due ≡ dues.Missing name = e.0 in cc
    one {limit} (inr (inr e)) = let q : Ends due ≡ dues.LogFull e.0 e.1 limit = e.2 in cc

pub drop_is_not_done : DropIsNotDone
drop_is_not_done place name words image files store (OfAnyWord Done) written left stands h not_done not_fault = absurd (not_done refl)
drop_is_not_done place name words image files store StoreFault written left stands h not_done not_fault = absurd (not_fault refl)
drop_is_not_done place name words image files store (Missing what) written left stands h not_done not_fault = (h.1.1.0 store stands, h.1.0)
drop_is_not_done place name words image files store (LogFull end wanted limit) written left stands h not_done not_fault = (h.1.1.0 store stands, h.1.0)
drop_is_not_done place name words image files store (OfAnyWord NoMemory) written left stands h not_done not_fault = (h.1.0 store stands, h.0)
drop_is_not_done place name words image files store (OfAnyWord (Refused verdict)) written left stands h not_done not_fault =
    let e : RefusedAt verdict ≡ DoneWhole = no_file_due image (word_at words name) (RefusedAt verdict) h.0 in cc
drop_is_not_done place name words image files store (OfAnyWord (InputTooLong file)) written left stands h not_done not_fault =
    let e : TooLong file ≡ DoneWhole = no_file_due image (word_at words name) (TooLong file) h.0 in cc
drop_is_not_done place name words image files store (OfAnyWord (TooMuch sum)) written left stands h not_done not_fault =
    let e : stream_dues.TooMuch sum ≡ DoneWhole = no_file_due image (word_at words name) (stream_dues.TooMuch sum) h.0 in cc
drop_is_not_done place name words image files store (OfAnyWord Usage) written left stands h not_done not_fault = absurd h
drop_is_not_done place name words image files store (OfAnyWord InputFault) written left stands h not_done not_fault = absurd h.0
drop_is_not_done place name words image files store (OfAnyWord (InputChanged file at)) written left stands h not_done not_fault = absurd h.0
drop_is_not_done place name words image files store (OfAnyWord OutputFault) written left stands h not_done not_fault = absurd h
drop_is_not_done place name words image files store (NotStore group) written left stands h not_done not_fault = absurd (h.1.1.0 store stands)
drop_is_not_done place name words image files store (StoreThere size) written left stands h not_done not_fault = absurd h.0
drop_is_not_done place name words image files store (Damaged group stored computed) written left stands h not_done not_fault = absurd h.0

pub drop_is_at_fault : DropIsAtFault
drop_is_at_fault place name words image files store written left stands h = (one (h.1.0 store stands), h.0)
  where
    Then : Type 0
    Then = StandsFor left store ⊎ ((next : Store ℕ) × IsWithout (word_at words name) store next × StandsFor left next)

    one : StandsFor left store ⊎ (IsDropDue image (word_at words name) store (Ends DoneWhole) × DropLeaves (Ends DoneWhole) (word_at words name) store left) → Then
    one (inl stays) = inl stays
    one (inr gone) = inr (left_without (word_at words name) store left gone.1)

pub drop_misses : DropMisses
drop_misses place name words image files store what written left stands h = one (drop_ends _ _ (word_at words name) h.0.0 (dues.Missing what) h.0.2.1)
  where
    own : h.0.0 ≡ store
    own = one_store 0 as_bytes image h.0.0 store h.0.1 stands

    one : {limit : ℕ} → DropEnds limit (word_at words name) h.0.0 (dues.Missing what)
        → (what ≡ word_at words name) × (has_name (word_at words name) store ≡ false)
    one (inl e) = cc
    one (inr (inl e)) = (let q : dues.Missing what ≡ dues.Missing (word_at words name) = e.0 in cc, ap (λ (s : Store ℕ). has_name (word_at words name) s) (sym own) ∙ e.1)
    one {limit} (inr (inr e)) = let q : dues.Missing what ≡ dues.LogFull e.0 e.1 limit = e.2 in cc

pub drop_is_full : DropIsFull
drop_is_full place name words image files end wanted limit written left h =
    let is = one (drop_ends _ _ (word_at words name) h.0.0 (dues.LogFull end wanted limit) h.0.2.1) in
    (h.0.0, h.0.2.0, is.0, is.1)
  where
    one : {most : ℕ} → DropEnds most (word_at words name) h.0.0 (dues.LogFull end wanted limit) → (limit ≡ most) × (limit < end + wanted + reserve)
    one (inl e) = cc
    one (inr (inl e)) = let q : dues.LogFull end wanted limit ≡ dues.Missing (word_at words name) = e.0 in cc
    one {most} (inr (inr e)) =
        let q : dues.LogFull end wanted limit ≡ dues.LogFull e.0 e.1 most = e.2 in
        let same : limit ≡ most = cc in
        let at : end ≡ e.0 = cc in
        let asked : wanted ≡ e.1 = cc in
        (same, omega (arith, same, at, asked, e.3))

pub scrub_finds : ScrubFinds
scrub_finds place words image files group stored computed written left = (λ h. h.1.1.0, λ h. h.1.1.0)
