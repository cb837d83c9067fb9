-- Squashed commands put the bytes that stand, in their order.
use Rattle.std.specs.Prelude.{◌≡◌, ℕ, ◌+◌, ◌-◌, ◌==◌, Bool, true, false, not, ◌&&◌, List, [], ◌∷◌, ◌++◌, map, length, nat_lt, if◌then◌else◌}
use Rattle.std.proofs.Common.{refl, sym, ap, ap₂, ◌∙◌, arith, append-nil}
use Rattle.std.proofs.lemmas.Bool.{and_parts}
use Rattle.std.proofs.lemmas.Grind.{flat_map-append}
use Rattle.send_model.specs.Command.{Command, Write, Truncate}
use Rattle.send_model.specs.Store.{State}
use Rattle.send_model.specs.Receive.{bytes_of}
use Rattle.squash_model.specs.Squashed.{Birth, born_step, unborn, stands, Stretch, in_front, stretches, all_stand, write_of, lengthened, write_commands, size_at, squash_for, squashed_from, all_bytes, standing_bytes}
use Rattle.squash_model.specs.SquashLaws.{SquashedPutsWhatStands}

module _ (standing : ℕ → Bool) where
  both_stand : (count : ℕ) (a b : List ℕ) → standing_bytes standing count (a ++ b) ≡ standing_bytes standing count a ++ standing_bytes standing (count + length a) b
  both_stand count [] b = let e : count ≡ count + 0 = omega arith in ap (λ (n : ℕ). standing_bytes standing n b) e
  both_stand count (x ∷ a) b = one (standing count) (both_stand (count + 1) a b ∙ ap (λ (n : ℕ). standing_bytes standing (count + 1) a ++ standing_bytes standing n b) e)
    where
      e : count + 1 + length a ≡ count + length (x ∷ a)
      e = omega arith

      one : (t : Bool) → standing_bytes standing (count + 1) (a ++ b) ≡ standing_bytes standing (count + 1) a ++ standing_bytes standing (count + length (x ∷ a)) b
          → (if t then x ∷ standing_bytes standing (count + 1) (a ++ b) else standing_bytes standing (count + 1) (a ++ b))
          ≡ (if t then x ∷ standing_bytes standing (count + 1) a else standing_bytes standing (count + 1) a) ++ standing_bytes standing (count + length (x ∷ a)) b
      one true more = ap (λ (r : List ℕ). x ∷ r) more
      one false more = more

  front_bytes : (path : List ℕ) (at b : ℕ) (ss : List Stretch) → all_bytes (map (write_of path) (in_front at b ss)) ≡ b ∷ all_bytes (map (write_of path) ss)
  front_bytes path at b [] = refl
  front_bytes path at b (first ∷ rest) = one (first.at == at + 1)
    where
      one : (t : Bool) → all_bytes (map (write_of path) (if t then record { at = at; bytes = b ∷ first.bytes } ∷ rest else record { at = at; bytes = b ∷ [] } ∷ first ∷ rest))
          ≡ b ∷ all_bytes (map (write_of path) (first ∷ rest))
      one true = refl
      one false = refl

  stretches_bytes : (path : List ℕ) (count at : ℕ) (bytes : List ℕ) → all_bytes (map (write_of path) (stretches standing count at bytes)) ≡ standing_bytes standing count bytes
  stretches_bytes path count at [] = refl
  stretches_bytes path count at (b ∷ bytes) = one (standing count) (stretches_bytes path (count + 1) (at + 1) bytes)
    where
      rest : List Stretch
      rest = stretches standing (count + 1) (at + 1) bytes

      one : (t : Bool) → all_bytes (map (write_of path) rest) ≡ standing_bytes standing (count + 1) bytes
          → all_bytes (map (write_of path) (if t then in_front at b rest else rest)) ≡ (if t then b ∷ standing_bytes standing (count + 1) bytes else standing_bytes standing (count + 1) bytes)
      one true more = front_bytes path at b rest ∙ ap (λ (r : List ℕ). b ∷ r) more
      one false more = more

  all_kept : (count : ℕ) (bytes : List ℕ) → all_stand standing count bytes ≡ true → standing_bytes standing count bytes ≡ bytes
  all_kept count [] h = refl
  all_kept count (b ∷ bytes) h =
      let p = and_parts (standing count) (all_stand standing (count + 1) bytes) h in
      ap₂ (λ (t : Bool) (r : List ℕ). if t then b ∷ r else r) p.0 (all_kept (count + 1) bytes p.1)

  write_bytes : (count size : ℕ) (path : List ℕ) (offset : ℕ) (bytes : List ℕ) → all_bytes (write_commands standing count size path offset bytes) ≡ standing_bytes standing count bytes
  write_bytes count size path offset bytes = one (all_stand standing count bytes) refl
    where
      last : Bool
      last = standing (count + length bytes - 1)

      none : (t : Bool) → all_bytes (if t then Truncate (offset + length bytes) path ∷ [] else []) ≡ []
      none true = refl
      none false = refl

      one : (t : Bool) → all_stand standing count bytes ≡ t
          → all_bytes (if t then Write path offset bytes ∷ [] else map (write_of path) (stretches standing count offset bytes) ++ lengthened last size (offset + length bytes) path) ≡ standing_bytes standing count bytes
      one true h = append-nil bytes ∙ sym (all_kept count bytes h)
      one false h =
          flat_map-append bytes_of (map (write_of path) (stretches standing count offset bytes)) (lengthened last size (offset + length bytes) path)
          ∙ ap₂ (λ (a b : List ℕ). a ++ b) (stretches_bytes path count offset bytes) (none (nat_lt size (offset + length bytes) && not last))
          ∙ append-nil (standing_bytes standing count bytes)

  command_bytes : (count : ℕ) (state : State Birth) (c : Command) → all_bytes (squash_for standing count state c) ≡ standing_bytes standing count (bytes_of c)
  command_bytes count state (Write path offset bytes) = write_bytes count (size_at state path) path offset bytes
  command_bytes count state c = refl

  pub squashed_bytes : (count : ℕ) (state : State Birth) (cs : List Command) → all_bytes (squashed_from standing count state cs) ≡ standing_bytes standing count (all_bytes cs)
  unfolding squashed_from
  squashed_bytes count state [] = refl
  squashed_bytes count state (c ∷ cs) =
      let next : State Birth = (born_step count state c).state in
      flat_map-append bytes_of (squash_for standing count state c) (squashed_from standing (count + length (bytes_of c)) next cs)
      ∙ ap₂ (λ (a b : List ℕ). a ++ b) (command_bytes count state c) (squashed_bytes (count + length (bytes_of c)) next cs)
      ∙ sym (both_stand count (bytes_of c) (all_bytes cs))

pub squashed_puts_what_stands : SquashedPutsWhatStands
squashed_puts_what_stands store commands = squashed_bytes (stands store commands) 0 (unborn store) commands
