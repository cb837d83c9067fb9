-- Bytes that are added one after the other, and where that stops.
use Rattle.std.specs.Prelude.{◌≡◌, ℕ, List, [], ◌++◌, take, Option, Result, Ok, Err, OnOk, IsErrAnd}
use Rattle.std.specs.Io.KnownBytes.{Appends}
use Rattle.std.proofs.Common.{refl, sym, ap, subst, ◌∙◌, append_assoc, append-nil}
use Rattle.std.proofs.lemmas.Result.{err_from_is_err_and}
use Rattle.std.proofs.KnownBytes.{Appends-nil, Appends-trans}
use Rattle.send_model.specs.Headline.{IsFrontOf}
use Rattle.send_model.proofs.Fronts.{nothing_front}
use Rattle.sx_base.specs.Calls.{Wrote}
use Rattle.sx_base.specs.Outside.{AppendsPart}
use Rattle.sx_base.specs.declared.outcome.Outcome.TheVariants as ended
use Rattle.store_commands.specs.declared.ends.StoreEnd.{StoreEnd}
use Rattle.store_commands.specs.declared.ends.StoreEnd.TheVariants as made
use Rattle.tree_view.proofs.Texts.{cut_part}
use Rattle.full_send.specs.Adding.{TextAdded, IsCutBy, Adds, SomeSent, GoesOn}

-- What is cut off of some bytes is cut off of all, behind what was written before them.
pub cut_behind : (all sent text rest written : List ℕ) (end : StoreEnd) → all ≡ (sent ++ text) ++ rest → IsCutBy end text written → IsCutBy end all (sent ++ written)
cut_behind all sent text rest written (made.Ends ended.OutputFault) e cut = cut_part all sent text rest written ended.OutputFault e cut
cut_behind all sent text rest written (made.Ends ended.NoMemory) e cut = cut_part all sent text rest written ended.NoMemory e cut
cut_behind all sent text rest written (made.Ends ended.Done) e cut = absurd cut
cut_behind all sent text rest written (made.Ends (ended.Refused verdict)) e cut = absurd cut
cut_behind all sent text rest written (made.Ends ended.InputFault) e cut = absurd cut
cut_behind all sent text rest written (made.Ends (ended.InputTooLong file)) e cut = absurd cut
cut_behind all sent text rest written (made.Ends (ended.TooMuch sum)) e cut = absurd cut
cut_behind all sent text rest written (made.Ends (ended.InputChanged file place)) e cut = absurd cut
cut_behind all sent text rest written made.StoreFault e cut = cut_part all sent text rest written ended.NoMemory e cut
cut_behind all sent text rest written (made.NotStore group) e cut = absurd cut
cut_behind all sent text rest written made.NoName e cut = absurd cut
cut_behind all sent text rest written made.NoFile e cut = absurd cut
cut_behind all sent text rest written (made.LogFull end wanted limit) e cut = absurd cut
cut_behind all sent text rest written (made.StoreThere size) e cut = absurd cut
cut_behind all sent text rest written (made.Damaged group stored computed) e cut = absurd cut

-- ---- one text

-- No text.
pub none_added : (old : List ℕ) (taken : Option (List ℕ)) → TextAdded [] old old taken taken
none_added old taken = record { sent = []; appends = Appends-nil taken; bytes_are = sym (append-nil old) }

-- All that waits is written.
pub all_sent : (old new : List ℕ) (first last : Option (List ℕ)) → new ≡ [] → Appends first last old → TextAdded [] old new first last
all_sent old new first last empty appends = record { sent = old; appends = appends; bytes_are = ap (λ (l : List ℕ). old ++ l) empty }

-- Only a part of it is.
pub part_sent : (text old : List ℕ) (first last : Option (List ℕ)) → AppendsPart first last old → Wrote first last (IsCutBy (made.Ends ended.OutputFault) (old ++ text))
part_sent text old first last (count, less, appends) =
    (take count old, appends, cut_behind (old ++ text) [] old text (take count old) (made.Ends ended.OutputFault) refl (record { count = count; within = less; written_is = refl }))

-- Nothing is written where there is no memory or the store's device fails.
pub nothing_sent : (text old : List ℕ) (taken : Option (List ℕ)) → Wrote taken taken (IsFrontOf (old ++ text))
nothing_sent text old taken = ([], Appends-nil taken, nothing_front (old ++ text) 0)

-- A text was added, and what waits is kept or written.
pub adds_after : {E : Type 0} → (text old mid new : List ℕ) (first last : Option (List ℕ)) (added : Result (Unit {0}) E) (result : Result (Unit {0}) StoreEnd)
    → OnOk added (mid ≡ old ++ text) → GoesOn added mid new first last result → Adds text old new first last result
adds_after text old mid new first last (Ok added) (Ok done) is goes = record { sent = goes.sent; appends = goes.appends; bytes_are = goes.bytes_are ∙ append-nil mid ∙ is }
adds_after text old mid new first last (Ok added) (Err end) is (fails, part) =
    subst (λ (e : StoreEnd). Wrote first last (IsCutBy e (old ++ text))) (sym fails)
    (subst (λ (l : List ℕ). Wrote first last (IsCutBy (made.Ends ended.OutputFault) l)) (append-nil mid ∙ is) (part_sent [] mid first last part))
adds_after text old mid new first last (Err failed) (Ok done) is goes = absurd goes
adds_after text old mid new first last (Err failed) (Err end) is (fails, appends) =
    subst (λ (e : StoreEnd). Wrote first last (IsCutBy e (old ++ text))) (sym fails) ([], appends, nothing_front (old ++ text) 0)

-- ---- two texts

pub added_then : (a b old mid new : List ℕ) (first then last : Option (List ℕ)) → TextAdded a old mid first then → TextAdded b mid new then last → TextAdded (a ++ b) old new first last
added_then a b old mid new first then last x y = record {
  sent = x.sent ++ y.sent;
  appends = Appends-trans first then last x.sent y.sent x.appends y.appends;
  bytes_are = append_assoc x.sent y.sent new ∙ ap (λ (l : List ℕ). x.sent ++ l) y.bytes_are ∙ sym (append_assoc x.sent mid b) ∙ ap (λ (l : List ℕ). l ++ b) x.bytes_are ∙ append_assoc old a b;
}

-- The second follows the first.
pub then_adds : (a b old mid new : List ℕ) (first then last : Option (List ℕ)) (result : Result (Unit {0}) StoreEnd)
    → TextAdded a old mid first then → Adds b mid new then last result → Adds (a ++ b) old new first last result
then_adds a b old mid new first then last (Ok done) x y = added_then a b old mid new first then last x y
then_adds a b old mid new first then last (Err end) x (written, appends, cut) = (
  x.sent ++ written,
  Appends-trans first then last x.sent written x.appends appends,
  cut_behind (old ++ (a ++ b)) x.sent (mid ++ b) [] written end
      (sym (append_assoc old a b) ∙ ap (λ (l : List ℕ). l ++ b) (sym x.bytes_are) ∙ append_assoc x.sent mid b ∙ sym (append-nil (x.sent ++ (mid ++ b)))) cut,
)

-- The first one stops.
pub stops_early : (a b old new : List ℕ) (first last : Option (List ℕ)) (end : StoreEnd) → Adds a old new first last (Err end) → Adds (a ++ b) old new first last (Err end)
stops_early a b old new first last end (written, appends, cut) =
    (written, appends, cut_behind (old ++ (a ++ b)) [] (old ++ a) b written end (sym (append_assoc old a b)) cut)

-- What waits is written behind it.
pub sends_all : (text old mid new : List ℕ) (first then last : Option (List ℕ)) (result : Result (Unit {0}) StoreEnd)
    → TextAdded text old mid first then → SomeSent mid new then last result → Adds text old new first last result
sends_all text old mid new first then last result x sent =
    subst (λ (l : List ℕ). Adds l old new first last result) (append-nil text)
    (then_adds text [] old mid new first then last result x (adds_after {E = StoreEnd} [] mid mid new then last (Ok tt) result (sym (append-nil mid)) sent))

-- A stop that is handed on.
pub handed_on : (text old new : List ℕ) (first last : Option (List ℕ)) (answer : Result (Unit {0}) StoreEnd) (end : StoreEnd) → IsErrAnd answer (λ o. o ≡ end)
    → Adds text old new first last (Err end) → Adds text old new first last answer
handed_on text old new first last answer end is stops =
    let e = err_from_is_err_and answer is in
    subst (λ (r : Result (Unit {0}) StoreEnd). Adds text old new first last r) (sym (e.1 ∙ ap (λ (o : StoreEnd). Err o) e.2)) stops
