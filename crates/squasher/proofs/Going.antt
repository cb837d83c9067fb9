-- Commands that go out one after the other, and where they stop.
use Rattle.std.specs.Prelude.{◌≡◌, ℕ, suc, ◌+◌, ◌<◌, List, [], ◌∷◌, ◌++◌, map, length, take, drop, get_or, Result, Ok, Err, IsErrAnd}
use Rattle.std.specs.List.{AllByRecursion}
use Rattle.std.proofs.Common.{refl, sym, ap, subst, ◌∙◌, append-nil}
use Rattle.std.proofs.Math.Seq.{drop-cons}
use Rattle.std.proofs.lemmas.List.{map-append, take_more, take-append-drop}
use Rattle.std.proofs.lemmas.List.Concat.{flat_map-append}
use Rattle.std.proofs.lemmas.Result.{err_from_is_err_and}
use Rattle.send_model.specs.Command.{Command}
use Rattle.send_model.specs.Spelling.{canonical, canonical_all}
use Rattle.send_model.specs.Laws.{CanWrite}
use Rattle.send_commands.specs.Meaning.{meaning_of}
use Rattle.send_commands.specs.declared.command.Command.{Command as Coded}
use Rattle.send_commands.specs.declared.command.Command.TheVariants as coded
use Rattle.sx_base.specs.Causes.{Rose}
use Rattle.clone_pieces.specs.Sending.{GoesOut, Output, PutEnd}
use Rattle.clone_pieces.specs.declared.stops.SendStop.{SendStop}
use Rattle.clone_pieces.specs.declared.stops.SendStop.TheVariants as stop
use Rattle.clone_pieces.proofs.Flow.{goes_none, goes_then, part_then, all_breaks, none_came}
use Rattle.squash_log.specs.Fates.{Fate}
use Rattle.squasher.specs.declared.writing.WriteStop.{WriteStop}
use Rattle.squasher.specs.declared.writing.WriteStop.TheVariants as why
use Rattle.squasher.specs.Writing.{SendEnds, Puts, written_for}

pub one_canonical : (version : ℕ) (c : Command) → canonical_all version (c ∷ []) ≡ canonical version c
unfolding canonical_all
one_canonical version c = append-nil (canonical version c)

pub none_canonical : (version : ℕ) → canonical_all version [] ≡ []
unfolding canonical_all
none_canonical version = refl

pub both_canonical : (version : ℕ) (cs ds : List Command) → canonical_all version (cs ++ ds) ≡ canonical_all version cs ++ canonical_all version ds
unfolding canonical_all
both_canonical version cs ds = flat_map-append (canonical version) cs ds

-- ---- one command

-- What a put says that stopped.
pub put_stops : (old new : Output) (bytes : List ℕ) (s : SendStop) → PutEnd old new bytes (Err s) → SendEnds old new bytes s
put_stops old new bytes stop.OutputFault p = (p.0, all_breaks old.taken new.taken old.pending new.pending bytes p.1 p.2)
put_stops old new bytes stop.NoMemory p = none_came old.taken new.taken old.pending new.pending bytes p.0 p.1
put_stops old new bytes stop.InputFault p = absurd p
put_stops old new bytes (stop.InputChanged file place) p = absurd p

pub one_stops : (version : ℕ) (old new : Output) (c : Command) (bytes : List ℕ) (s : SendStop) → bytes ≡ canonical version c → PutEnd old new bytes (Err s) → SendEnds old new (canonical_all version (c ∷ [])) s
one_stops version old new c bytes s is p = subst (λ (l : List ℕ). SendEnds old new l s) (is ∙ sym (one_canonical version c)) (put_stops old new bytes s p)

pub one_goes : (version : ℕ) (old new : Output) (c : Command) (bytes : List ℕ) → bytes ≡ canonical version c → GoesOut old.taken new.taken old.pending new.pending bytes → GoesOut old.taken new.taken old.pending new.pending (canonical_all version (c ∷ []))
one_goes version old new c bytes is g = subst (λ (l : List ℕ). GoesOut old.taken new.taken old.pending new.pending l) (is ∙ sym (one_canonical version c)) g

pub none_goes : (version : ℕ) (old : Output) → GoesOut old.taken old.taken old.pending old.pending (canonical_all version [])
none_goes version old = subst (λ (l : List ℕ). GoesOut old.taken old.taken old.pending old.pending l) (sym (none_canonical version)) (goes_none old.taken old.pending)

-- What stopped, handed on.
pub handed_on : (version : ℕ) (old new : Output) (cs : List Command) (r : Result (Unit {0}) WriteStop) (w : WriteStop) → IsErrAnd r (λ (x : WriteStop). x ≡ w) → Puts version old new cs (Err w) → Puts version old new cs r
handed_on version old new cs r w is p = let e = err_from_is_err_and r is in subst (λ (x : Result (Unit {0}) WriteStop). Puts version old new cs x) (sym (e.1 ∙ ap (λ (x : WriteStop). Err x) e.2)) p

-- ---- one after the other

pub goes_both : (version : ℕ) (old mid new : Output) (xs ys : List Command) → GoesOut old.taken mid.taken old.pending mid.pending (canonical_all version xs) → GoesOut mid.taken new.taken mid.pending new.pending (canonical_all version ys)
    → GoesOut old.taken new.taken old.pending new.pending (canonical_all version (xs ++ ys))
goes_both version old mid new xs ys g h =
    subst (λ (l : List ℕ). GoesOut old.taken new.taken old.pending new.pending l) (sym (both_canonical version xs ys))
    (goes_then old.taken mid.taken new.taken old.pending mid.pending new.pending (canonical_all version xs) (canonical_all version ys) g h)

-- Some bytes went out, and of those behind them a front part, before more.
pub sends_then : (old mid new : Output) (x y z all : List ℕ) (s : SendStop) → all ≡ x ++ (y ++ z) → mid.faults ≡ old.faults → GoesOut old.taken mid.taken old.pending mid.pending x → SendEnds mid new y s → SendEnds old new all s
sends_then old mid new x y z all stop.OutputFault is steady g (rose, f) = (
  subst (λ (n : ℕ). Rose n new.faults) steady rose,
  record { before = f.before; goes = part_then old.taken mid.taken f.before old.pending mid.pending new.pending x y z all is g f.goes; failed = f.failed },
)
sends_then old mid new x y z all stop.NoMemory is steady g f = part_then old.taken mid.taken new.taken old.pending mid.pending new.pending x y z all is g f
sends_then old mid new x y z all stop.InputFault is steady g f = absurd f
sends_then old mid new x y z all (stop.InputChanged file place) is steady g f = absurd f

pub stops_between : (version : ℕ) (old mid new : Output) (xs ys zs : List Command) (s : SendStop) → mid.faults ≡ old.faults → GoesOut old.taken mid.taken old.pending mid.pending (canonical_all version xs)
    → SendEnds mid new (canonical_all version ys) s → SendEnds old new (canonical_all version (xs ++ (ys ++ zs))) s
stops_between version old mid new xs ys zs s steady g f =
    sends_then old mid new (canonical_all version xs) (canonical_all version ys) (canonical_all version zs) (canonical_all version (xs ++ (ys ++ zs))) s
    (both_canonical version xs (ys ++ zs) ∙ ap (λ (l : List ℕ). canonical_all version xs ++ l) (both_canonical version ys zs)) steady g f

all_first : {A : Type 0} (P : A → Type 0) (xs ys : List A) → AllByRecursion P (xs ++ ys) → AllByRecursion P xs
all_first P [] ys all = tt
all_first P (x ∷ xs) ys all = (all.0, all_first P xs ys all.1)

all_last : {A : Type 0} (P : A → Type 0) (xs ys : List A) → AllByRecursion P (xs ++ ys) → AllByRecursion P ys
all_last P [] ys all = all
all_last P (x ∷ xs) ys all = all_last P xs ys all.1

pub all_between : {A : Type 0} (P : A → Type 0) (xs ys zs : List A) → AllByRecursion P (xs ++ (ys ++ zs)) → AllByRecursion P ys
all_between P xs ys zs all = all_first P ys zs (all_last P xs (ys ++ zs) all)

-- Some commands went out, and those behind them stopped, before more.
pub puts_stop : (version : ℕ) (old mid new : Output) (xs ys zs : List Command) (w : WriteStop) → mid.faults ≡ old.faults → GoesOut old.taken mid.taken old.pending mid.pending (canonical_all version xs)
    → Puts version mid new ys (Err w) → Puts version old new (xs ++ (ys ++ zs)) (Err w)
puts_stop version old mid new xs ys zs (why.Send s) steady g f = stops_between version old mid new xs ys zs s steady g f
puts_stop version old mid new xs ys zs why.Changed steady g f = λ all. f (all_between (CanWrite version) xs ys zs all)

pub puts_then : (version : ℕ) (old mid new : Output) (xs ys : List Command) (r : Result (Unit {0}) WriteStop) → mid.faults ≡ old.faults → GoesOut old.taken mid.taken old.pending mid.pending (canonical_all version xs)
    → Puts version mid new ys r → Puts version old new (xs ++ ys) r
puts_then version old mid new xs ys (Ok done) steady g p = goes_both version old mid new xs ys g p
puts_then version old mid new xs ys (Err w) steady g p =
    subst (λ (l : List Command). Puts version old new l (Err w)) (ap (λ (l : List Command). xs ++ l) (append-nil ys)) (puts_stop version old mid new xs ys [] w steady g p)

-- Of commands in front of others.
pub puts_first : (version : ℕ) (old new : Output) (xs ys : List Command) (w : WriteStop) → Puts version old new xs (Err w) → Puts version old new (xs ++ ys) (Err w)
puts_first version old new xs ys w p = puts_stop version old old new [] xs ys w refl (none_goes version old) p

-- ---- stretches in a row

pub map_more : {A B : Type 0} (f : A → B) (xs : List A) (i : ℕ) (d : A) → i < length xs → map f (take (i + 1) xs) ≡ map f (take i xs) ++ f (get_or xs i d) ∷ []
map_more f xs i d l = ap (map f) (take_more xs i d l) ∙ map-append f (take i xs) (get_or xs i d ∷ [])

pub map_split : {A B : Type 0} (f : A → B) (xs : List A) (i : ℕ) (d : A) → i < length xs → map f xs ≡ map f (take i xs) ++ (f (get_or xs i d) ∷ [] ++ map f (drop (suc i) xs))
map_split {A = A} f xs i d l =
    ap (map f) (sym (take-append-drop i xs)) ∙ map-append f (take i xs) (drop i xs)
    ∙ ap (λ (t : List A). map f (take i xs) ++ map f t) (drop-cons xs i d l)

-- One more of them went out.
pub spans_more : {A : Type 0} (f : A → Command) (version : ℕ) (old mid new : Output) (xs : List A) (i : ℕ) (d : A) → i < length xs → GoesOut old.taken mid.taken old.pending mid.pending (canonical_all version (map f (take i xs)))
    → GoesOut mid.taken new.taken mid.pending new.pending (canonical_all version (f (get_or xs i d) ∷ [])) → GoesOut old.taken new.taken old.pending new.pending (canonical_all version (map f (take (i + 1) xs)))
spans_more f version old mid new xs i d l g h =
    subst (λ (cs : List Command). GoesOut old.taken new.taken old.pending new.pending (canonical_all version cs)) (sym (map_more f xs i d l))
    (goes_both version old mid new (map f (take i xs)) (f (get_or xs i d) ∷ []) g h)

-- The next one did not.
pub spans_stop : {A : Type 0} (f : A → Command) (version : ℕ) (old mid new : Output) (xs : List A) (i : ℕ) (d : A) (w : WriteStop) → i < length xs → mid.faults ≡ old.faults
    → GoesOut old.taken mid.taken old.pending mid.pending (canonical_all version (map f (take i xs))) → Puts version mid new (f (get_or xs i d) ∷ []) (Err w) → Puts version old new (map f xs) (Err w)
spans_stop f version old mid new xs i d w l steady g p =
    subst (λ (cs : List Command). Puts version old new cs (Err w)) (sym (map_split f xs i d l))
    (puts_stop version old mid new (map f (take i xs)) (f (get_or xs i d) ∷ []) (map f (drop (suc i) xs)) w steady g p)

-- ---- END

-- Nothing is put for it.
pub nothing_goes : (version : ℕ) (old : Output) (fates : List Fate) (c : Coded) → c ≡ coded.End → GoesOut old.taken old.taken old.pending old.pending (canonical_all version (written_for fates (meaning_of c)))
nothing_goes version old fates c is = subst (λ (x : Coded). GoesOut old.taken old.taken old.pending old.pending (canonical_all version (written_for fates (meaning_of x)))) (sym is) (none_goes version old)
