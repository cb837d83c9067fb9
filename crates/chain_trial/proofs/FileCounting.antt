-- Counting the commands of a file: what the loop keeps, and its ends.
use Rattle.std.specs.Prelude.{◌≡◌, ℕ, ◌+◌, ◌<◌, ◌≤◌, ◌^◌, Bool, true, false, cond, List, [], ◌∷◌, ◌++◌, length, Option, None, Some, Ok, Err}
use Rattle.std.specs.List.{sum_by}
use Rattle.std.proofs.Common.{refl, sym, ap, subst, ◌∙◌, append_assoc, append-nil, length-append, arith, zero-le}
use Rattle.std.proofs.lemmas.List.{map-append}
use Rattle.std.proofs.lemmas.List.Sums.{sum_by_push, sum_by-cons, sum_by-append}
use Rattle.send_model.specs.Command.{Command}
use Rattle.send_model.specs.Reading.{Item, Verdict, Whole, Faulty, Reading, with_item, reads}
use Rattle.send_model.specs.Lengths.{limit}
use Rattle.send_model.specs.Receive.{bytes_of}
use Rattle.send_model.specs.Order.{commands_of}
use Rattle.send_model.specs.Counts.{literal, is_clone, clones}
use Rattle.sx_base.specs.Outside.{file_at}
use Rattle.sx_base.specs.Refusals.{refusal_of, verdict_meant}
use Rattle.cmd_reader.specs.declared.item.Item as read
use Rattle.cmd_reader.specs.declared.item.ReadStop.{ReadStop}
use Rattle.cmd_reader.specs.declared.item.ReadStop.TheVariants as stop
use Rattle.cmd_reader.specs.Fronts.{IsRefused, IsLongAt}
use Rattle.cmd_reader.specs.Places.{IfTold}
use Rattle.cmd_reader.specs.Left.{Reader, at_start, left}
use Rattle.cmd_reader.specs.Next.{item_of, HasEnded, OnlyEnds, IsFaulty, IsNext, NextSays}
use Rattle.cmd_reader.proofs.Aheads.{next_item, next_end}
use Rattle.cmd_reader.proofs.Told.{told_both, told_always}
use Rattle.chain_trial.specs.declared.counting.Counted.{Counted}
use Rattle.chain_trial.specs.Counting.{AreCounted, FileCounted, IsCountable}

-- Items, and then what else is read.
abbrev and_then : List Item → Reading → Reading
and_then items r = record { items = items ++ r.items; end = r.end }

-- These commands of the file were read and counted, and the reader stands in it.
pub record Stands (reader : Reader) (counted : Counted) (bytes : List ℕ) : Type 0 where
  reached : reader.offset ≤ length bytes
  items : List Item
  read : reads 1 bytes ≡ and_then items (left reader bytes)
  counts : AreCounted counted (commands_of items)

none_counted : (counted : Counted) → counted.commands ≡ 0 → counted.clones ≡ 0 → counted.literal ≡ 0 → AreCounted counted []
unfolding clones literal
none_counted counted a b c = record { commands_are = a; clones_are = b; literal_is = c }

left_fresh : (name bytes : List ℕ) → left (at_start 1 name) bytes ≡ reads 1 bytes
unfolding left reads
left_fresh name bytes = refl

pub stands_at_start : (told : Option (List (List ℕ × List ℕ))) (name : List ℕ) (reader : Reader) (counted : Counted) → reader ≡ at_start 1 name → counted.commands ≡ 0 → counted.clones ≡ 0 → counted.literal ≡ 0
    → IfTold told name (Stands reader counted)
stands_at_start told name reader counted e a b c =
    subst (λ (r : Reader). IfTold told name (Stands r counted)) (sym e)
    (told_always told name (Stands (at_start 1 name) counted) (λ bytes. record { reached = zero-le; items = []; read = sym (left_fresh name bytes); counts = none_counted counted a b c }))

-- One more command.
pub record IsMore (old new : Counted) (c : Command) : Type 0 where
  pub commands : new.commands ≡ old.commands + 1
  pub clones_are : new.clones ≡ old.clones + cond (is_clone c) 1 0
  pub literal_is : new.literal ≡ old.literal + length (bytes_of c)

counted_more : (old new : Counted) (cs : List Command) (c : Command) → IsMore old new c → AreCounted old cs → AreCounted new (cs ++ c ∷ [])
unfolding clones literal
counted_more old new cs c m a = record {
  commands_are = omega (arith, m.commands, a.commands_are, length-append cs (c ∷ []));
  clones_are = let pushed = sum_by_push (λ (d : Command). cond (is_clone d) 1 0) cs c in omega (arith, m.clones_are, a.clones_are, pushed);
  literal_is = let pushed = sum_by_push (λ (d : Command). length (bytes_of d)) cs c in omega (arith, m.literal_is, a.literal_is, pushed);
}

then_item : (items : List Item) (item : Item) (r : Reading) → and_then items (with_item item r) ≡ and_then (items ++ item ∷ []) r
then_item items item r = ap (λ (is : List Item). record { items = is; end = r.end }) (sym (append_assoc items (item ∷ []) r.items))

pub stands_after : (told inputs : Option (List (List ℕ × List ℕ))) (name : List ℕ) (old new : Reader) (counted more : Counted) (f0 f1 : ℕ) (o : Option read.Item) (item : read.Item)
    → o ≡ Some item → inputs ≡ told → old.name ≡ name → old.file ≡ 1 → NextSays inputs old new f0 f1 (Ok o) → IsMore counted more (item_of 1 item).command
    → IfTold told name (Stands old counted) → IfTold told name (Stands new more)
stands_after told inputs name old new counted more f0 f1 o item e same name_is file_is says m stands =
    told_both told name (IsNext old new item) (Stands old counted) (Stands new more) step
    (next_item told inputs name old new f0 f1 o item e same name_is says) stands
  where
    now : Item
    now = item_of 1 item

    step : (bytes : List ℕ) → IsNext old new item bytes → Stands old counted bytes → Stands new more bytes
    step bytes n s = record {
      reached = n.reached s.reached;
      items = s.items ++ now ∷ [];
      read = s.read ∙ ap (and_then s.items) (n.left_is ∙ ap (λ (k : ℕ). with_item (item_of k item) (left new bytes)) file_is) ∙ then_item s.items now (left new bytes);
      counts = subst (λ (cs : List Command). AreCounted more cs) (sym (map-append (λ (i : Item). i.command) s.items (now ∷ []))) (counted_more counted more (commands_of s.items) now.command m s.counts);
    }

-- The file in a table.
abbrev of_file : List (List ℕ × List ℕ) → List ℕ → (List ℕ → Type 0) → Type 0
of_file table name P = P (file_at table name)

told_file : (table : List (List ℕ × List ℕ)) (name same : List ℕ) (P : List ℕ → Type 0) → same ≡ name → IfTold (Some table) same P → of_file table name P
told_file table name same P is told = subst (λ (n : List ℕ). IfTold (Some table) n P) is told (file_at table name) refl

-- What is known to stand there stands there.
pub bare : (old new : List (List ℕ × List ℕ)) → Some new ≡ Some old → new ≡ old
bare old new same = ap (λ (o : Option (List (List ℕ × List ℕ))). elim o [ None ↦ old | Some table ↦ table ]) same

-- The file ends.
pub file_ends : (table inputs : List (List ℕ × List ℕ)) (name : List ℕ) (old new : Reader) (counted : Counted) (f0 f1 : ℕ) (o : Option read.Item)
    → o ≡ None → inputs ≡ table → old.name ≡ name → NextSays (Some inputs) old new f0 f1 (Ok o) → IfTold (Some table) name (Stands old counted) → FileCounted counted (file_at table name)
file_ends table inputs name old new counted f0 f1 o e same name_is says stands =
    step (file_at table name) (told_file table name name (HasEnded old) refl (next_end (Some table) (Some inputs) name old new f0 f1 o e (ap Some same) name_is says)) (told_file table name name (Stands old counted) refl stands)
  where
    step : (bytes : List ℕ) → HasEnded old bytes → Stands old counted bytes → FileCounted counted bytes
    step bytes (is, less) s =
        let whole : reads 1 bytes ≡ record { items = s.items; end = Whole } = s.read ∙ ap (and_then s.items) is ∙ ap (λ (xs : List Item). record { items = xs; end = Whole }) (append-nil s.items) in
        record {
          whole = ap (λ (r : Reading). r.end) whole;
          counts = subst (λ (r : Reading). AreCounted counted (commands_of r.items)) (sym whole) s.counts;
        }

-- The bytes of one more command have room.
literal_after : (items : List Item) (item : Item) (more : List Item) → literal (commands_of items) + length (bytes_of item.command) ≤ literal (commands_of (items ++ item ∷ more))
unfolding literal
literal_after items item more =
    let size : Command → ℕ = λ c. length (bytes_of c) in
    let both = sum_by-append size (commands_of items) (commands_of (item ∷ more)) in
    let one = sum_by-cons size item.command (commands_of more) in
    let is = ap (λ (cs : List Command). sum_by size cs) (map-append (λ (i : Item). i.command) items (item ∷ more)) in
    omega (arith, both, one, is)

pub literal_room : (table inputs : List (List ℕ × List ℕ)) (name : List ℕ) (old new : Reader) (counted : Counted) (f0 f1 : ℕ) (o : Option read.Item) (item : read.Item)
    → o ≡ Some item → inputs ≡ table → old.name ≡ name → NextSays (Some inputs) old new f0 f1 (Ok o) → IfTold (Some table) name (Stands old counted) → IsCountable (file_at table name)
    → counted.literal + length (bytes_of (item_of 1 item).command) < 2 ^ 64
literal_room table inputs name old new counted f0 f1 o item e same name_is says stands countable =
    step (file_at table name) (told_file table name name (IsNext old new item) refl (next_item (Some table) (Some inputs) name old new f0 f1 o item e (ap Some same) name_is says)) (told_file table name name (Stands old counted) refl stands) countable
  where
    step : (bytes : List ℕ) → IsNext old new item bytes → Stands old counted bytes → IsCountable bytes → counted.literal + length (bytes_of (item_of 1 item).command) < 2 ^ 64
    step bytes n s c =
        let all : (reads 1 bytes).items ≡ s.items ++ item_of old.file item ∷ (left new bytes).items = ap (λ (r : Reading). r.items) (s.read ∙ ap (and_then s.items) n.left_is) in
        let within = literal_after s.items (item_of old.file item) (left new bytes).items in
        let is = ap (λ (items : List Item). literal (commands_of items)) all in
        let own = s.counts.literal_is in
        let few = c.few in
        omega (arith, within, is, own, few)

pub one_room : (c : Command) (clones commands offset next : ℕ) → clones ≤ commands → commands ≤ offset → offset < next → next ≤ limit
    → (commands + 1 < 2 ^ 64) × (clones + cond (is_clone c) 1 0 < 2 ^ 64) × (clones + cond (is_clone c) 1 0 ≤ commands + 1)
one_room c clones commands offset next a b d l = one (is_clone c)
  where
    one : (k : Bool) → (commands + 1 < 2 ^ 64) × (clones + cond k 1 0 < 2 ^ 64) × (clones + cond k 1 0 ≤ commands + 1)
    one true = (omega (arith, b, d, l), omega (arith, a, b, d, l), omega (arith, a))
    one false = (omega (arith, b, d, l), omega (arith, a, b, d, l), omega (arith, a))

stops_at : (table : List (List ℕ × List ℕ)) (name : List ℕ) (old new : Reader) (counted : Counted) (stopped : ReadStop)
    → old.name ≡ name → NextSays (Some table) old new 0 0 (Err stopped) → IfTold (Some table) name (Stands old counted) → IsCountable (file_at table name) → ⊥
stops_at table name old new counted stop.InputFault name_is says stands countable = omega (arith, says)
stops_at table name old new counted (stop.Refused verdict) name_is says stands countable =
    let bytes : List ℕ = file_at table name in
    let faulty = (told_file table name old.name (IsRefused (λ refusal. IsFaulty old verdict) (refusal_of verdict.refusal)) name_is says).0 in
    let s : Stands old counted bytes = told_file table name name (Stands old counted) refl stands in
    never (verdict_meant verdict) (sym countable.whole ∙ ap (λ (r : Reading). r.end) (s.read ∙ ap (and_then s.items) faulty))
  where
    never : (v : Verdict) → Whole ≡ Faulty v → ⊥
    never v q = cc
stops_at table name old new counted stop.InputTooLong name_is says stands countable =
    let s : Stands old counted (file_at table name) = told_file table name name (Stands old counted) refl stands in
    let long = (told_file table name old.name (IsLongAt old.offset (OnlyEnds old)) name_is says s.reached).0 in
    let short = countable.short in
    omega (arith, long, short)

-- A file that can be counted stops no reader.
pub never_stops : (table inputs : List (List ℕ × List ℕ)) (name : List ℕ) (old new : Reader) (counted : Counted) (stopped : ReadStop)
    → inputs ≡ table → old.name ≡ name → NextSays (Some inputs) old new 0 0 (Err stopped) → IfTold (Some table) name (Stands old counted) → IsCountable (file_at table name) → ⊥
never_stops table inputs name old new counted stopped same name_is says stands countable =
    stops_at table name old new counted stopped name_is (subst (λ (t : List (List ℕ × List ℕ)). NextSays (Some t) old new 0 0 (Err stopped)) same says) stands countable
