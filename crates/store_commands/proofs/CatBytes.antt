-- The bytes of a file that are written piece by piece.
use Rattle.std.specs.Prelude.{◌≡◌, ℕ, ◌+◌, ◌≤◌, List, [], ◌++◌, length, take, drop, Option}
use Rattle.std.specs.Io.KnownBytes.{Appends}
use Rattle.std.proofs.Common.{refl, sym, ap, subst, ◌∙◌, append_assoc, append-nil}
use Rattle.std.proofs.KnownBytes.{Appends-trans}
use Rattle.std.proofs.Math.Seq.{take-add}
use Rattle.std.proofs.lemmas.List.{take-append-drop, take_all}
use Rattle.send_model.specs.Headline.{IsFrontOf}
use Rattle.send_model.proofs.Fronts.{is_front}
use Rattle.sx_base.specs.Calls.{Wrote}
use Rattle.sx_base.specs.declared.outcome.Outcome.TheVariants as ended
use Rattle.tree_view.proofs.Texts.{cut_part}
use Rattle.store_commands.specs.declared.ends.StoreEnd.{StoreEnd}
use Rattle.store_commands.specs.declared.ends.StoreEnd.TheVariants as made
use Rattle.store_commands.specs.Files.{PieceStops, FileEnds}

pub next_written : (all piece : List ℕ) (at count : ℕ) (first then last : Option (List ℕ)) → piece ≡ take count (drop at all) → Appends first then (take at all) → Appends then last piece → Appends first last (take (at + count) all)
next_written all piece at count first then last is so_far more =
    subst (λ (l : List ℕ). Appends first last l) (ap (λ (l : List ℕ). take at all ++ l) is ∙ sym (take-add at count all)) (Appends-trans first then last (take at all) piece so_far more)

-- All of it, the part so far, a piece and the rest.
parted : (all : List ℕ) (at count : ℕ) → all ≡ (take at all ++ take count (drop at all)) ++ drop count (drop at all)
parted all at count =
    sym (take-append-drop at all) ∙ ap (λ (l : List ℕ). take at all ++ l) (sym (take-append-drop count (drop at all))) ∙ sym (append_assoc (take at all) (take count (drop at all)) (drop count (drop at all)))

front_so_far : (all : List ℕ) (at : ℕ) → IsFrontOf all (take at all)
front_so_far all at = is_front all (take at all) (drop at all) (sym (take-append-drop at all))

pub piece_stops : (all piece : List ℕ) (at count : ℕ) (first then last : Option (List ℕ)) (end : StoreEnd) → piece ≡ take count (drop at all) → Appends first then (take at all) → PieceStops piece then last end → Wrote first last (FileEnds all end)
piece_stops all piece at count first then last (made.Ends ended.OutputFault) is so_far (n, less, part) = (
  take at all ++ take n piece,
  Appends-trans first then last (take at all) (take n piece) so_far part,
  cut_part all (take at all) piece (drop count (drop at all)) (take n piece) ended.OutputFault (parted all at count ∙ ap (λ (l : List ℕ). (take at all ++ l) ++ drop count (drop at all)) (sym is))
      (record { count = n; within = less; written_is = refl }),
)
piece_stops all piece at count first then last (made.Ends ended.Done) is so_far stops = absurd stops
piece_stops all piece at count first then last (made.Ends ended.NoMemory) is so_far stops = absurd stops
piece_stops all piece at count first then last (made.Ends (ended.Refused verdict)) is so_far stops = absurd stops
piece_stops all piece at count first then last (made.Ends ended.InputFault) is so_far stops = absurd stops
piece_stops all piece at count first then last (made.Ends (ended.InputTooLong file)) is so_far stops = absurd stops
piece_stops all piece at count first then last (made.Ends (ended.TooMuch sum)) is so_far stops = absurd stops
piece_stops all piece at count first then last (made.Ends (ended.InputChanged file place)) is so_far stops = absurd stops
piece_stops all piece at count first then last made.StoreFault is so_far none =
    (take at all, subst (λ (l : List ℕ). Appends first last l) (append-nil (take at all)) (Appends-trans first then last (take at all) [] so_far none), front_so_far all at)
piece_stops all piece at count first then last (made.NotStore group) is so_far stops = absurd stops
piece_stops all piece at count first then last made.NoName is so_far stops = absurd stops
piece_stops all piece at count first then last made.NoFile is so_far stops = absurd stops
piece_stops all piece at count first then last (made.LogFull end wanted limit) is so_far stops = absurd stops
piece_stops all piece at count first then last (made.StoreThere size) is so_far stops = absurd stops
piece_stops all piece at count first then last (made.Damaged group stored computed) is so_far stops = absurd stops

pub all_written : (all : List ℕ) (at : ℕ) (first last : Option (List ℕ)) → length all ≤ at → Appends first last (take at all) → Wrote first last (FileEnds all (made.Ends ended.Done))
all_written all at first last past so_far = (take at all, so_far, take_all at all past)
