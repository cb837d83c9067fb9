-- Groups that are read one after the other while a store is opened.
use Rattle.std.specs.Prelude.{◌≡◌, ℕ, ◌+◌, true, false, List, [], ◌∷◌, ◌++◌, length, take, drop, Option, None, Some}
use Rattle.std.specs.Int.{w64, to_le_bytes}
use Rattle.std.specs.List.{AllByRecursion}
use Rattle.std.proofs.Common.{inl, inr, refl, sym, ap, subst, ◌∙◌, arith, length-append, append_assoc}
use Rattle.std.proofs.lemmas.List.{take_at, drop_at}
use Rattle.sx_base.specs.Disk.{Pending, IsImage}
use Rattle.sx_base.proofs.DiskImages.{only_settled}
use Rattle.send_model.specs.Store.{Store}
use Rattle.store_model.specs.Image.{Header, front_of, group_of, IsShort, IsCutShort}
use Rattle.store_model.specs.Stored.{Group, body_bytes, IsGroup, body_at, made, made_all, Makes, StandsForNone}
use Rattle.store_model.proofs.OneJournal.{length-le}
use Rattle.group_log.specs.State.{LogState}
use Rattle.group_log.specs.Journal.{Reads, IsNext}
use Rattle.group_log.specs.Stopping.{IsFaultOr}
use Rattle.group_log.specs.declared.journal.GroupPlace.{GroupPlace}
use Rattle.group_log.specs.declared.stops.LogStop.{LogStop}
use Rattle.group_log.specs.declared.stops.LogStop.TheVariants.{DiskFault, NotStore, LogFull, StoreThere}
use Rattle.group_log.proofs.GatedGroups.{front_push}
use Rattle.group_replay.specs.declared.place.Place.{Place}
use Rattle.group_replay.specs.Taking.{as_runs, TakesGroup}
use Rattle.store_journal.specs.Holding.{bodies_of}
use Rattle.store_journal.specs.Opening.{NamesFault}
use Rattle.store_journal.proofs.Pushes.{bodies_push, makes_push}
use Rattle.store_journal.proofs.StandingGroups.{cut_stands, bad_stands}

-- The groups so far were read, and they make these subvolumes.
pub record HasRead (core : Store (Option Place)) (log : LogState) (seen : List ℕ) (pending : Pending) : Type 0 where
  pub header : Header
  pub groups : List Group
  pub reads : Reads header (bodies_of groups) log seen pending
  pub makes : Makes None as_runs header.format groups core

-- no groups yet
pub no_groups : (header : Header) (core : Store (Option Place)) (log : LogState) (seen : List ℕ) (pending : Pending) → core ≡ [] → Reads header [] log seen pending → HasRead core log seen pending
unfolding made_all
no_groups header core log seen pending empty reads =
    record { header = header; groups = []; reads = reads; makes = record { lawful = tt; made = ap (λ (s : Store (Option Place)). Some s) (sym empty) } }

pub length-bodies_of : (gs : List Group) → length (bodies_of gs) ≡ length gs
length-bodies_of [] = refl
length-bodies_of (x ∷ gs) = omega (arith, length-bodies_of gs)

all_fit : (xs : List (List ℕ)) (x : List ℕ) → AllByRecursion IsShort (xs ++ x ∷ []) → AllByRecursion IsShort xs × IsShort x
all_fit [] x all = (tt, all.0)
all_fit (y ∷ xs) x all = let more = all_fit xs x all.1 in ((all.0, more.0), more.1)

-- ---- what the journal finds to be cut short

module _ (core : Store (Option Place)) (log : LogState) (seen : List ℕ) (pending : Pending) (read : HasRead core log seen pending) where
  pub cut_is_fault : IsCutShort read.reads.rest → StandsForNone seen (log.groups + 1)
  cut_is_fault torn =
      let count = read.reads.behind.count in
      cut_stands read.header read.groups core seen read.reads.rest read.makes read.reads.bytes read.reads.behind.lawful read.reads.behind.lengths_fit (log.groups + 1) (omega (arith, count, length-bodies_of read.groups)) torn

-- ---- the next group

module _ (header : Header) (groups : List Group) (log : LogState) (seen : List ℕ) (pending : Pending) (place : GroupPlace) (next : IsNext header (bodies_of groups) log seen pending place) where
  abbrev before : List ℕ
  before = front_of header (bodies_of groups)

  behind : seen ≡ before ++ (group_of next.body ++ next.reads.rest)
  behind = next.reads.bytes ∙ ap (λ (l : List ℕ). l ++ next.reads.rest) (front_push header (bodies_of groups) next.body) ∙ append_assoc before (group_of next.body) next.reads.rest

  -- its body
  body_there : take place.len (drop place.at seen) ≡ next.body
  body_there =
      let head : List ℕ = 1 ∷ to_le_bytes w64 (length next.body) in
      let split : seen ≡ (before ++ head) ++ (next.body ++ next.reads.rest) =
      behind ∙ ap (λ (l : List ℕ). before ++ l) (append_assoc head next.body next.reads.rest) ∙ sym (append_assoc before head (next.body ++ next.reads.rest)) in
      let at = next.at in
      let size : length (before ++ head) ≡ place.at = omega (arith, length-append before head, length-le (length next.body), at) in
      ap (λ (l : List ℕ). take place.len (drop place.at l)) split
      ∙ ap (take place.len) (drop_at (before ++ head) (next.body ++ next.reads.rest) place.at size)
      ∙ take_at next.body next.reads.rest place.len (sym next.len)

  place_is : place.at ≡ body_at (length before)
  place_is = next.at

  module _ (core : Store (Option Place)) (makes : Makes None as_runs header.format groups core) where
    -- it was taken
    pub next_read : (new : Store (Option Place)) → TakesGroup log.format place.at (take place.len (drop place.at seen)) core new true → HasRead new log seen pending
    next_read new m =
        let lawful : IsGroup header.format m.group = subst (λ (n : ℕ). IsGroup n m.group) next.reads.behind.format m.lawful in
        let body : body_bytes m.group ≡ next.body = m.body_is ∙ body_there in
        record {
          header = header;
          groups = groups ++ m.group ∷ [];
          reads = subst (λ (l : List (List ℕ)). Reads header l log seen pending) (ap (λ (b : List ℕ). bodies_of groups ++ b ∷ []) (sym body) ∙ sym (bodies_push groups m.group)) next.reads;
          makes = makes_push None as_runs header groups core new m.group (length before) makes refl lawful (ap (λ (n : ℕ). made None as_runs n core m.group.content) (sym place_is) ∙ m.makes);
        }

    -- it is at fault
    pub next_fails : (new : Store (Option Place)) → TakesGroup log.format place.at (take place.len (drop place.at seen)) core new false → StandsForNone seen place.number
    next_fails new bad =
        let fits = all_fit (bodies_of groups) next.body next.reads.behind.lengths_fit in
        let n = next.group in
        bad_stands header groups core seen (group_of next.body ++ next.reads.rest) makes behind next.reads.behind.lawful fits.0 place.number next.body next.reads.rest
        (omega (arith, n, length-bodies_of groups)) fits.1 refl
        (λ g is same. ap (λ (k : ℕ). made None as_runs k core g.content) (sym place_is)
        ∙ bad g (subst (λ (k : ℕ). IsGroup k g) (sym next.reads.behind.format) is) (same ∙ sym body_there))

-- ---- stops of the journal, handed on

pub names_fault : (why : LogStop) (number : ℕ) (cause : Type 0) (seen : List ℕ) → IsFaultOr cause (NotStore number) why → (why ≡ NotStore number → StandsForNone seen number) → NamesFault seen why
names_fault why number cause seen (inl same) fault = subst (λ (w : LogStop). NamesFault seen w) (sym same) (fault same)
names_fault DiskFault number cause seen (inr failed) fault = tt
names_fault (NotStore n) number cause seen (inr failed) fault = absurd failed
names_fault (LogFull end wanted limit) number cause seen (inr failed) fault = tt
names_fault (StoreThere size) number cause seen (inr failed) fault = tt

-- What a crash may leave while groups are read is what it might leave before.
pub later_image : {D : Type 0} (pending : D → Pending) (seen : D → List ℕ) (old now : D) (core : Store (Option Place)) (log : LogState) → IsImage (pending old) (seen old) → HasRead core log (seen now) (pending now) → seen now ≡ seen old
    → (image : List ℕ) → IsImage (pending now) image → IsImage (pending old) image
later_image pending seen old now core log own read same image is =
    let whole : image ≡ seen now = only_settled (seen now) image (subst (λ (p : Pending). IsImage p image) read.reads.stable is) in
    subst (λ (i : List ℕ). IsImage (pending old) i) (sym (whole ∙ same)) own
