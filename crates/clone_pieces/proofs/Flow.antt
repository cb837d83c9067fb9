-- Bytes that go out one part after the other, and where they stop.
use Rattle.std.specs.Prelude.{◌≡◌, ◌≤◌, ℕ, ◌+◌, List, [], ◌++◌, length, take, drop, Option, Result, Ok, Err}
use Rattle.std.specs.Io.KnownBytes.{Appends}
use Rattle.std.proofs.Common.{sym, ap, subst, ◌∙◌, arith, append_assoc, append-nil, length-append}
use Rattle.std.proofs.KnownBytes.{Appends-nil, Appends-trans}
use Rattle.std.proofs.Math.Seq.{take-append-add, take-append-le}
use Rattle.std.proofs.lemmas.List.{take_all, take-append-drop}
use Rattle.sx_base.specs.Outside.{AppendsPart}
use Rattle.clone_pieces.specs.Sending.{GoesOut, GoesPart, BreaksOff, AppendsFront, Output, PutEnd}
use Rattle.clone_pieces.specs.Redirecting.{RedirectEnd}
use Rattle.clone_pieces.specs.declared.stops.SendStop.{SendStop}
use Rattle.clone_pieces.specs.declared.stops.SendStop.TheVariants as stop

-- Nothing goes out.
pub goes_none : (out : Option (List ℕ)) (pending : List ℕ) → GoesOut out out pending pending []
goes_none out pending = record { sent = []; appends = Appends-nil out; rest = append-nil pending }

-- Bytes that go out behind others.
pub goes_then : (a b c : Option (List ℕ)) (old mid new x y : List ℕ) → GoesOut a b old mid x → GoesOut b c mid new y → GoesOut a c old new (x ++ y)
goes_then a b c old mid new x y g h = record {
  sent = g.sent ++ h.sent;
  appends = Appends-trans a b c g.sent h.sent g.appends h.appends;
  rest = sym (append_assoc old x y) ∙ ap (λ (l : List ℕ). l ++ y) g.rest ∙ append_assoc g.sent mid y ∙ ap (λ (l : List ℕ). g.sent ++ l) h.rest ∙ sym (append_assoc g.sent h.sent new);
}

-- A front part of some bytes, behind others and before more.
front_of : (x y z : List ℕ) (count : ℕ) → count ≤ length y → take (length x + count) (x ++ (y ++ z)) ≡ x ++ take count y
front_of x y z count within = take-append-add x (y ++ z) count ∙ ap (λ (l : List ℕ). x ++ l) (take-append-le count y z within)

front_fits : (x y z : List ℕ) (count : ℕ) → count ≤ length y → length x + count ≤ length (x ++ (y ++ z))
front_fits x y z count within =
    let long = length-append x (y ++ z) in
    let more = length-append y z in
    omega (arith, long, more, within)

-- Bytes of which a front part comes, behind others and before more.
pub part_then : (a b c : Option (List ℕ)) (old mid new x y z all : List ℕ) → all ≡ x ++ (y ++ z) → GoesOut a b old mid x → GoesPart b c mid new y → GoesPart a c old new all
part_then a b c old mid new x y z all is g f = record {
  count = length x + f.count;
  within = subst (λ (l : List ℕ). length x + f.count ≤ length l) (sym is) (front_fits x y z f.count f.within);
  goes = subst (λ (l : List ℕ). GoesOut a c old new l) (sym (front_of x y z f.count f.within) ∙ ap (take (length x + f.count)) (sym is))
      (goes_then a b c old mid new x (take f.count y) g f.goes);
}

-- Some bytes went out, and those behind them did not all.
pub stops_then : (a b c : Option (List ℕ)) (old mid new x y z all : List ℕ) (why : SendStop) → all ≡ x ++ (y ++ z) → GoesOut a b old mid x → RedirectEnd b c mid new y (Err why) → RedirectEnd a c old new all (Err why)
stops_then a b c old mid new x y z all stop.OutputFault is g f = record { before = f.before; goes = part_then a b f.before old mid new x y z all is g f.goes; failed = f.failed }
stops_then a b c old mid new x y z all stop.InputFault is g f = part_then a b c old mid new x y z all is g f
stops_then a b c old mid new x y z all stop.NoMemory is g f = part_then a b c old mid new x y z all is g f
stops_then a b c old mid new x y z all (stop.InputChanged file place) is g f = absurd f

-- Nothing came behind what was pending.
pub part_none : (out : Option (List ℕ)) (pending bytes : List ℕ) → GoesPart out out pending pending bytes
part_none out pending bytes = record { count = 0; within = omega arith; goes = goes_none out pending }

-- All came behind what was pending, and nothing was written of it but what went out as the output
-- failed.
pub all_breaks : (old new : Option (List ℕ)) (pending left bytes : List ℕ) → AppendsPart old new (pending ++ bytes) → left ≡ pending ++ bytes → BreaksOff old new pending left bytes
all_breaks old new pending left bytes failed is = record {
  before = old;
  goes = record {
    count = length bytes;
    within = omega arith;
    goes = record { sent = []; appends = Appends-nil old; rest = ap (λ (l : List ℕ). pending ++ l) (take_all (length bytes) bytes (omega arith)) ∙ sym is };
  };
  failed = subst (AppendsPart old new) (sym is) failed;
}

-- The output failed before anything came behind what was pending.
pub none_breaks : (old new : Option (List ℕ)) (pending left : List ℕ) → AppendsPart old new pending → left ≡ pending → BreaksOff old new pending left []
none_breaks old new pending left failed is = all_breaks old new pending left [] (subst (AppendsPart old new) (sym (append-nil pending)) failed) (is ∙ sym (append-nil pending))

-- There was no memory before anything came.
pub none_came : (old new : Option (List ℕ)) (pending left bytes : List ℕ) → new ≡ old → left ≡ pending → GoesPart old new pending left bytes
none_came old new pending left bytes taken is =
    subst (λ (l : List ℕ). GoesPart old new pending l bytes) (sym is) (subst (λ (o : Option (List ℕ)). GoesPart old o pending pending bytes) (sym taken) (part_none old pending bytes))

-- What was put is what a redirected clone may end with.
pub put_ends : (old new : Output) (bytes : List ℕ) (result : Result (Unit {0}) SendStop) → PutEnd old new bytes result → RedirectEnd old.taken new.taken old.pending new.pending bytes result
put_ends old new bytes (Ok done) p = p
put_ends old new bytes (Err stop.OutputFault) p = all_breaks old.taken new.taken old.pending new.pending bytes p.1 p.2
put_ends old new bytes (Err stop.NoMemory) p = none_came old.taken new.taken old.pending new.pending bytes p.0 p.1
put_ends old new bytes (Err stop.InputFault) p = absurd p
put_ends old new bytes (Err (stop.InputChanged file place)) p = absurd p

-- ---- of what came a front part was written

-- Where that was written which went out and some of what was pending then, a front part of all was.
written_of : (a b : Option (List ℕ)) (old new bytes sent : List ℕ) (came count : ℕ) → came ≤ length bytes → count ≤ length new → old ++ take came bytes ≡ sent ++ new → Appends a b (sent ++ take count new) → AppendsFront a b (old ++ bytes)
written_of a b old new bytes sent came count within less rest appends =
    let whole : old ++ bytes ≡ sent ++ (new ++ drop came bytes) =
    ap (λ (l : List ℕ). old ++ l) (sym (take-append-drop came bytes)) ∙ sym (append_assoc old (take came bytes) (drop came bytes))
    ∙ ap (λ (l : List ℕ). l ++ drop came bytes) rest ∙ append_assoc sent new (drop came bytes) in
    record {
      count = length sent + count;
      within = subst (λ (l : List ℕ). length sent + count ≤ length l) (sym whole) (front_fits sent new (drop came bytes) count less);
      appends = subst (Appends a b) (sym (front_of sent new (drop came bytes) count less) ∙ ap (take (length sent + count)) (sym whole)) appends;
    }

pub part_front : (a b : Option (List ℕ)) (old new bytes : List ℕ) → GoesPart a b old new bytes → AppendsFront a b (old ++ bytes)
part_front a b old new bytes p =
    written_of a b old new bytes p.goes.sent p.count 0 p.within (omega arith) p.goes.rest (subst (Appends a b) (sym (append-nil p.goes.sent)) p.goes.appends)

pub breaks_front : (a b : Option (List ℕ)) (old new bytes : List ℕ) → BreaksOff a b old new bytes → AppendsFront a b (old ++ bytes)
breaks_front a b old new bytes p =
    let part = p.goes in
    written_of a b old new bytes part.goes.sent part.count p.failed.0 part.within (let less = p.failed.1 in omega (arith, less)) part.goes.rest
    (Appends-trans a p.before b part.goes.sent (take p.failed.0 new) part.goes.appends p.failed.2)

-- ---- what was pending counted with what came

pub part_joined : (a b : Option (List ℕ)) (old new bytes : List ℕ) → GoesPart a b old new bytes → GoesPart a b [] new (old ++ bytes)
part_joined a b old new bytes p = record {
  count = length old + p.count;
  within = let long = length-append old bytes in let less = p.within in omega (arith, long, less);
  goes = record { sent = p.goes.sent; appends = p.goes.appends; rest = take-append-add old bytes p.count ∙ p.goes.rest };
}

pub breaks_joined : (a b : Option (List ℕ)) (old new bytes : List ℕ) → BreaksOff a b old new bytes → BreaksOff a b [] new (old ++ bytes)
breaks_joined a b old new bytes p = record { before = p.before; goes = part_joined a p.before old new bytes p.goes; failed = p.failed }
