-- Bytes that are copied piece by piece.
use Rattle.std.specs.Prelude.{◌≡◌, ℕ, ◌+◌, ◌-◌, ◌<◌, ◌≤◌, List, [], ◌++◌, length, take, drop, Option, Err}
use Rattle.std.specs.Io.KnownBytes.{Appends}
use Rattle.std.proofs.Common.{refl, sym, ap, subst, ◌∙◌, arith, append_assoc, append-nil, length-append, length-take}
use Rattle.std.proofs.KnownBytes.{Appends-trans}
use Rattle.std.proofs.Math.Seq.{take-add}
use Rattle.std.proofs.lemmas.List.{take-append-drop, take-append-le, take_all, take_at, drop_at}
use Rattle.send_model.specs.Headline.{IsProperFrontOf}
use Rattle.send_model.proofs.Fronts.{is_front}
use Rattle.sx_base.specs.Calls.{Wrote}
use Rattle.edits_copy.specs.declared.place.EditsPlace.{EditsPlace}
use Rattle.edits_copy.specs.declared.stops.CopyStop.{CopyStop}
use Rattle.edits_copy.specs.declared.stops.CopyStop.TheVariants.{DiskFault, OutputFault, NoMemory}
use Rattle.edits_copy.specs.Finding.{bytes_at}
use Rattle.edits_copy.specs.Copying.{PieceEnds, IsCutAt}
use Rattle.edits_copy.proofs.Groups.{taken_in}

-- A part of what comes next is not all.
pub proper_part : (all sent text rest : List ℕ) (count : ℕ) → count < length text → all ≡ (sent ++ text) ++ rest → IsProperFrontOf all (sent ++ take count text)
proper_part all sent text rest count less e =
    let split : all ≡ sent ++ (text ++ rest) = e ∙ append_assoc sent text rest in
    record {
      count = length sent + count;
      within = omega (arith, less, ap length e, length-append (sent ++ text) rest, length-append sent text);
      written_is =
          ap (λ (l : List ℕ). l ++ take count text) (sym (take_at sent (text ++ rest) (length sent) refl))
          ∙ ap (λ (l : List ℕ). take (length sent) (sent ++ (text ++ rest)) ++ l) (sym (take-append-le count text rest (omega (arith, less))) ∙ ap (λ (l : List ℕ). take count l) (sym (drop_at sent (text ++ rest) (length sent) refl)))
          ∙ sym (take-add (length sent) count (sent ++ (text ++ rest))) ∙ ap (λ (l : List ℕ). take (length sent + count) l) (sym split);
    }

-- The next piece of the bytes at a place.
piece_is : (place : EditsPlace) (at count : ℕ) (seen now : List ℕ) → now ≡ seen → place.from ≤ at → at + count ≤ place.to → take count (drop at now) ≡ take count (drop (at - place.from) (bytes_at place seen))
piece_is place at count seen now same first last =
    ap (λ (l : List ℕ). take count (drop at l)) same
    ∙ ap (λ (n : ℕ). take n (drop at seen)) (let e : count ≡ at + count - at = omega arith in e)
    ∙ sym (taken_in place.from (place.to - place.from) at (at + count) seen first (omega arith) (omega (arith, first, last)))
    ∙ ap (λ (n : ℕ). take n (drop (at - place.from) (bytes_at place seen))) (let e : at + count - at ≡ count = omega arith in e)

module _ (place : EditsPlace) (at count : ℕ) (seen now : List ℕ) (same : now ≡ seen) (from : place.from ≤ at) (to : at + count ≤ place.to) (first then last : Option (List ℕ)) where
  abbrev all : List ℕ
  all = bytes_at place seen

  abbrev done : ℕ
  done = at - place.from

  pub next_copied : Appends first then (take done all) → Appends then last (take count (drop at now)) → Appends first last (take (at + count - place.from) all)
  next_copied so_far more =
      subst (λ (l : List ℕ). Appends first last l)
      (ap (λ (l : List ℕ). take done all ++ l) (piece_is place at count seen now same from to) ∙ sym (take-add done count all) ∙ ap (λ (n : ℕ). take n all) (let e : done + count ≡ at + count - place.from = omega (arith, from) in e))
      (Appends-trans first then last (take done all) (take count (drop at now)) so_far more)

  parted : all ≡ (take done all ++ take count (drop at now)) ++ drop count (drop done all)
  parted =
      sym (take-append-drop done all) ∙ ap (λ (l : List ℕ). take done all ++ l) (sym (take-append-drop count (drop done all)))
      ∙ sym (append_assoc (take done all) (take count (drop done all)) (drop count (drop done all)))
      ∙ ap (λ (l : List ℕ). (take done all ++ l) ++ drop count (drop done all)) (sym (piece_is place at count seen now same from to))

  pub copy_stops : (stop : CopyStop) → Appends first then (take done all) → PieceEnds (take count (drop at now)) then last (Err stop) → Wrote first last (IsCutAt stop all)
  copy_stops OutputFault so_far (n, less, part) = (
    take done all ++ take n (take count (drop at now)),
    Appends-trans first then last (take done all) (take n (take count (drop at now))) so_far part,
    proper_part all (take done all) (take count (drop at now)) (drop count (drop done all)) n less parted,
  )
  copy_stops DiskFault so_far none =
      (take done all, subst (λ (l : List ℕ). Appends first last l) (append-nil (take done all)) (Appends-trans first then last (take done all) [] so_far none), is_front all (take done all) (drop done all) (sym (take-append-drop done all)))
  copy_stops NoMemory so_far stops = absurd stops

pub all_copied : (place : EditsPlace) (at : ℕ) (seen : List ℕ) (first last : Option (List ℕ)) → place.to ≤ at → Appends first last (take (at - place.from) (bytes_at place seen)) → Appends first last (bytes_at place seen)
all_copied place at seen first last past so_far =
    subst (λ (l : List ℕ). Appends first last l) (take_all (at - place.from) (bytes_at place seen) (omega (arith, past, length-take (place.to - place.from) (drop place.from seen)))) so_far
